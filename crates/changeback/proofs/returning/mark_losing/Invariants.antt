-- The flows of as many selections are marked as the loop has visited.
use Rattle.changeback.proofs.Basics.{◌≡◌, ℕ, ◌||◌, false, slice_index_or, with_link, facts_of, changes_of, gives_up}
use Rattle.changeback.proofs.returning.mark_losing.Given as goal

abbrev pub invariant-loop-selection : goal.invariant-loop-selection
invariant-loop-selection l =
    (other : ℕ) → slice_index_or l.losing other false
    ≡ (slice_index_or l.fn.losing other false || gives_up (changes_of l.link (with_link l.link false (facts_of l.links)) (facts_of l.links) l.destination l.selection) other)
