-- The flows of as many selections are held as the loop has visited.
use Rattle.changeback.proofs.Basics.{◌≡◌, false, with_link, facts_of, changes_of, held_by}
use Rattle.changeback.proofs.returning.hold_changes_to.Given as goal

abbrev pub invariant-loop-selection : goal.invariant-loop-selection
invariant-loop-selection l =
    l.holds ≡ held_by l.holders (changes_of l.link (with_link l.link false (facts_of l.links)) (facts_of l.links) l.destination l.selection) l.fn.holds
