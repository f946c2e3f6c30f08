-- The links of as many flows are there as the loop has visited.
use Rattle.changeback.proofs.Basics.{◌≡◌, ℕ, ◌<◌, None, length, slice_index_or, chosen_link, facts_of, SELECTIONS}
use Rattle.changeback.proofs.rerouting.links_to.Given as goal

abbrev pub invariant-loop-selection : goal.invariant-loop-selection
invariant-loop-selection l = record {
  room : length l.taken ≡ SELECTIONS;
  taken : (sls : ℕ) → sls < l.selection → slice_index_or l.taken sls None ≡ chosen_link (facts_of l.links) l.destination sls;
}
