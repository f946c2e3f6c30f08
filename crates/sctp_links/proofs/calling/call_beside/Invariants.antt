-- The observer begins with what the call was lent.
use Rattle.std.proofs.Common.{◌≡◌}
use Rattle.sctp_links.proofs.calling.call_beside.Given as goal

abbrev pub ghosts-call_through : goal.ghosts-call_through
ghosts-call_through g a = record {
  is_from = λ began. began ≡ a.observer.now.observers.now.counters;
  link = a.observer.now.link;
  observers_name = a.observer.now.observers.ghost_name;
  datagrams_name = a.observer.now.datagrams.ghost_name;
  sink_name = a.observer.now.sink.ghost_name;
  user_name = a.observer.now.user.ghost_name;
}
