use Rattle.std.proofs.Common.{◌∙◌, ℕ, List, ap}
use Rattle.sctp_gate.specs.Watching.{CameIn}
use Rattle.served_link.specs.Counting.{frame_came}
use Rattle.sctp_links.proofs.Counted.{seen-counted}
use Rattle.sctp_links.proofs.observer.GateObserverWatch.came_in.Goals as goal

pub returns : goal.returns
returns g c =
    let counted = c.message_came_in.ensures
    ∙ ap (λ (xs : List ℕ). frame_came c.args.self.now.link xs c.args.outcome.now
    c.args.self.now.observers.now.counters) c.new-frame.ensures in
    record {
      more = λ sent seen h. (
        h.0,
        h.1,
        h.2,
        h.3,
        h.4,
        λ began from.
            seen-counted g.K.Origin.link sent seen (CameIn _ _) began _ _ (h.5 began from) (rw (← h.0) counted),
      );
    }
