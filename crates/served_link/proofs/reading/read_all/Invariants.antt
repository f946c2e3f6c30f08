-- What was read so far was handed in, and more is waited for.
use Rattle.served_link.proofs.Basics.{◌≡◌, ◌<◌, length, FRAME_OCTETS, next_in, Wait, kept}
use Rattle.served_link.proofs.Handing.{HasRead}
use Rattle.served_link.proofs.reading.read_all.Given as goal

abbrev pub invariant-loop-rest : goal.invariant-loop-rest
invariant-loop-rest g l = record {
  read : HasRead g.W.Watch.sees kept l.link l.octets l.rest l.fn.framer l.framer l.fn.exchange l.exchange l.fn.watch l.watch;
  waits : next_in l.framer ≡ Wait;
  room : length l.framer < FRAME_OCTETS;
}

abbrev pub decreases-loop-rest : goal.decreases-loop-rest
decreases-loop-rest g l = length l.rest
