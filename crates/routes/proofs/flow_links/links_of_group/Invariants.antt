-- The links of as many selections are there as the loop has visited.
use Rattle.routes.proofs.Basics.{◌≡◌, ℕ, ◌<◌, None, length, slice_index_or, first_serving, SELECTIONS}
use Rattle.routes.proofs.flow_links.links_of_group.Given as goal

abbrev pub invariant-loop-selection : goal.invariant-loop-selection
invariant-loop-selection l = record {
  room : length l.links ≡ SELECTIONS;
  links : (s : ℕ) → s < l.selection → slice_index_or l.links s None ≡ first_serving s l.fn.in_service l.fn.sets l.fn.group;
}
