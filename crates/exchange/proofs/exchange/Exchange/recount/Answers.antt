-- One more flow is looked at.
use Rattle.exchange.proofs.Basics.{◌≡◌, ◌≤◌, ◌<◌, ℕ, Bool, true, false, List, Option, None, length, length-set, ap, ◌∙◌, arith, facts, slice_index_or, option_or, Configuration, Facts, State, KeptQueues}
use Rattle.exchange_rules.specs.Reroutings.{set_taken, is_rerouted, one_if, last_sets_from, changes_from}
use Rattle.exchange.specs.DueFlows.{row_of}
use Rattle.exchange.proofs.Recounting.{changes-next, changes-done, sets-next, sets-done}
use Rattle.exchange.proofs.exchange.Exchange.recount.Goals as goal

one-most : (b : Bool) → one_if b ≤ 1
one-most true = omega arith
one-most false = omega arith

pub loop-selection-preserved : goal.loop-selection-preserved
loop-selection-preserved c =
    let s : Configuration = c.args.self.now.settings in
    let f : Facts = facts c.args.self.now.settings c.args.self.now.node.parts in
    let row : List (Option ℕ) = c.to-last_sets.result.now in
    let sls : ℕ = c.loop-selection.selection in
    let before : Option ℕ = slice_index_or row sls None in
    let taken : Option ℕ = set_taken s f c.args.destination sls in
    let there : sls < length row = omega (arith, c.loop-selection-test.true, c.count-selection-end.ensures.count, c.count-selection-end.ensures.places) in
    let place : sls < length c.loop-selection.sets = omega (arith, there, c.count-selection-end.ensures.places, c.loop-selection.invariant.room) in
    let change : c.changes_by-changes.result ≡ one_if (is_rerouted s c.args.destination before taken) =
    c.changes_by-changes.ensures
    ∙ ap (λ (o : Option ℕ). one_if (is_rerouted s c.args.destination o c.set_taken-now.result)) c.get-last.ensures
    ∙ ap (λ (o : Option ℕ). one_if (is_rerouted s c.args.destination before o)) c.set_taken-now.ensures in
    record {
      room = length-set c.loop-selection.sets sls c.or.result ∙ c.loop-selection.invariant.room;
      sets =
          sets-next s f c.args.destination sls row c.loop-selection.sets c.or.result place
          (c.or.ensures ∙ ap (λ (o : Option ℕ). option_or o c.get-last.result) c.set_taken-now.ensures ∙ ap (λ (o : Option ℕ). option_or taken o) c.get-last.ensures)
          c.loop-selection.invariant.sets;
      changes =
          changes-next s f c.args.destination sls row c.loop-selection.changes c.changes_by-changes.result (changes_from s f c.args.destination 0 row) there change
          c.loop-selection.invariant.changes;
      few = omega (arith, c.loop-selection.invariant.few, change, one-most (is_rerouted s c.args.destination before taken));
    }

pub returns-clause-sets : goal.returns-clause-sets
returns-clause-sets c =
    let s : Configuration = c.args.self.now.settings in
    let f : Facts = facts c.args.self.now.settings c.args.self.now.node.parts in
    let row : List (Option ℕ) = c.to-last_sets.result.now in
    let many : length c.loop-selection.sets ≡ length row = omega (arith, c.loop-selection.invariant.room, c.count-selection-end.ensures.places) in
    c.of.ensures
    ∙ sets-done s f c.args.destination row c.loop-selection.sets many
    (λ sls below. c.loop-selection.invariant.sets sls (omega (arith, below, c.loop-selection-test.false, c.count-selection-end.ensures.count, c.count-selection-end.ensures.places)))
    ∙ ap (λ (its : List (Option ℕ)). last_sets_from s f c.args.destination 0 its)
    (c.to-last_sets.ensures ∙ ap (λ (k : State KeptQueues). row_of k.reroutings c.args.destination) c.self.view_is)

pub returns-clause-changes : goal.returns-clause-changes
returns-clause-changes c =
    let s : Configuration = c.args.self.now.settings in
    let f : Facts = facts c.args.self.now.settings c.args.self.now.node.parts in
    let row : List (Option ℕ) = c.to-last_sets.result.now in
    changes-done s f c.args.destination c.loop-selection.selection row c.loop-selection.changes (changes_from s f c.args.destination 0 row)
    (omega (arith, c.loop-selection-test.false, c.count-selection-end.ensures.count, c.count-selection-end.ensures.places)) c.loop-selection.invariant.changes
    ∙ ap (λ (its : List (Option ℕ)). changes_from s f c.args.destination 0 its)
    (c.to-last_sets.ensures ∙ ap (λ (k : State KeptQueues). row_of k.reroutings c.args.destination) c.self.view_is)
