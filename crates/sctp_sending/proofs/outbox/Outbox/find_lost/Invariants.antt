-- the search from here on gives what all of it gives
use Rattle.std.proofs.Common.{◌≡◌, ◌-◌}
use Rattle.sctp_sending.specs.Outgoing.{lost_from}
use Rattle.sctp_sending.proofs.outbox.Outbox.find_lost.Given as goal

abbrev pub invariant-loop-place : goal.invariant-loop-place
invariant-loop-place l = lost_from l.self.out l.place (l.self.went - l.place) ≡ lost_from l.self.out 0 l.self.went
