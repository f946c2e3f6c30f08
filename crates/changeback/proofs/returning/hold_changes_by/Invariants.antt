-- The flows to as many destinations are held as the loop has visited.
use Rattle.changeback.proofs.Basics.{◌≡◌, false, with_link, facts_of, changes, held_by}
use Rattle.changeback.proofs.returning.hold_changes_by.Given as goal

abbrev pub invariant-loop-destination : goal.invariant-loop-destination
invariant-loop-destination l =
    l.holds ≡ held_by l.holders (changes l.link (with_link l.link false (facts_of l.links)) (facts_of l.links) l.destination) l.fn.holds
