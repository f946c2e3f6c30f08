-- The flows to as many destinations are marked as the loop has visited.
use Rattle.changeback.proofs.Basics.{◌≡◌, ℕ, false, slice_index_or, with_link, facts_of, changes, gives_up, IsSeen}
use Rattle.changeback.proofs.returning.losing_by.Given as goal

abbrev pub invariant-loop-destination : goal.invariant-loop-destination
invariant-loop-destination l = record {
  seen : IsSeen l.links l.link l.seen l.losing;
  losing : (other : ℕ) → slice_index_or l.losing other false ≡ gives_up (changes l.link (with_link l.link false (facts_of l.links)) (facts_of l.links) l.destination) other;
}
