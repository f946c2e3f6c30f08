-- As many flows were looked at as the loop has visited.
use Rattle.exchange.proofs.Basics.{◌≡◌, ◌<◌, ◌≤◌, ◌+◌, ℕ, None, length, drop, slice_index_or, facts}
use Rattle.signalling_types.specs.declared.limits.TheConstants.Limits.{SELECTIONS}
use Rattle.exchange_rules.specs.Reroutings.{set_taken, last_set, changes_from}
use Rattle.exchange.proofs.exchange.Exchange.recount.Given as goal

abbrev pub invariant-loop-selection : goal.invariant-loop-selection
invariant-loop-selection l = record {
  room : length l.sets ≡ SELECTIONS;
  sets : (s : ℕ) → s < l.selection → slice_index_or l.sets s None
      ≡ last_set (slice_index_or l.last_sets s None) (set_taken l.fn.self.settings (facts l.fn.self.settings l.fn.self.node.parts) l.fn.destination s);
  changes : l.changes + changes_from l.fn.self.settings (facts l.fn.self.settings l.fn.self.node.parts) l.fn.destination l.selection (drop l.selection l.last_sets)
      ≡ changes_from l.fn.self.settings (facts l.fn.self.settings l.fn.self.node.parts) l.fn.destination 0 l.last_sets;
  few : l.changes ≤ l.selection;
}
