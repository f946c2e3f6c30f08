-- The bridge begins with what the call was lent.
use Rattle.std.proofs.Common.{◌≡◌}
use Rattle.sctp_gate.proofs.bridge.do_and_hand_in.Given as goal

abbrev pub ghosts-hand : goal.ghosts-hand
ghosts-hand g a = record {
  is_from = λ b. b ≡ record {
    link = a.bridge.now.link;
    time = a.bridge.now.time;
    standing = a.bridge.now.standing;
    exchange = a.bridge.now.exchange.now;
  };
  had = λ sent seen. g.W.Watch.has a.bridge.now.watch.now sent seen;
  exchange_name = a.bridge.now.exchange.ghost_name;
  watch_name = a.bridge.now.watch.ghost_name;
}
