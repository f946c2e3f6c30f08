-- What has run and what is left to run is all that was due.
use Rattle.exchange.proofs.Basics.{◌≡◌, ◌-◌, with_node, kept, run_times}
use Rattle.exchange.proofs.exchange.Exchange.run_all.Given as goal

abbrev pub invariant-loop : goal.invariant-loop
invariant-loop l =
    with_node l.self (run_times kept l.self.settings (l.end - l.counter) l.self.node)
    ≡ with_node l.initial.self (run_times kept l.initial.self.settings l.end l.initial.self.node)
