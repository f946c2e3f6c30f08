-- Words and lemmas of std and of the crates below that the proofs here use, and the definitions that they are about.
pub use Rattle.std.proofs.Common.{Bool, List, [], add-one, ap, arith, cond, false, get_or, inl, inr, length, nat_eq, not, refl, replicate, slice_index_or, subst, suc, sym, true, zero, ℕ, ◌&&◌, ◌*◌, ◌++◌, ◌+◌, ◌-◌, ◌<◌, ◌||◌, ◌∙◌, ◌∷◌, ◌≡◌, ◌≢◌, ◌≤◌, ◌⊎◌}
pub use Rattle.std.proofs.Math.ListN.{set}
pub use Rattle.std.proofs.Math.Bool.{or-false, or_assoc}
pub use Rattle.std.proofs.Math.Logic.{⊎_elim}
pub use Rattle.std.proofs.lemmas.Bool.{and_parts, or_left, or_right, and_from, cases_eq, ltb-true}
pub use Rattle.std.proofs.lemmas.Bool.Decides.{nat_tests}
pub use Rattle.std.proofs.lemmas.List.{get_or-set_other, get_or_default, map-id}
pub use Rattle.std.proofs.lemmas.List.Elements.{Contains-append_cases, Contains-append_left, Contains-append_right, Contains-get_or}
pub use Rattle.std.proofs.lemmas.List.FromFn.{filter_of_map_range_with_len_more, get_or-range_with_len, length-range_with_len}
pub use Rattle.std.proofs.lemmas.List.Quantifiers.{position-Some}
pub use Rattle.std.proofs.lemmas.List.Sums.{position_or_len_is}
pub use Rattle.std.specs.List.{filter, position, position_or_len, range_with_len}
pub use Rattle.std.specs.Ordering.{eq_by_cmp}
pub use Rattle.std.specs.Prelude.{Contains, None, Option, Some, if◌then◌else◌, nat_lt, slice_set}
pub use Rattle.changeback.specs.Codes.{awaited_codes_are_not_free, codes_of, no_codes}
pub use Rattle.changeback.specs.Laws.{GoesToAnother, IsMoved, IsToHold, changes_leave_other_pairs, each_change_has_its_pair, each_is_moved, each_moved_is_found, each_rerouted_goes_to_another, each_rerouted_has_its_hold, each_rerouted_is_held, each_that_goes_to_another_is_rerouted, rerouting_keeps_flows_held, rerouting_leaves_other_pairs, unlinked_after_are_left, unlinked_before_are_left}
pub use Rattle.changeback.specs.Rerouting.{changes_link, held_for, is_other_link}
unfoldable pub use Rattle.changeback.specs.Rerouting.{moved_from, rerouted}
pub use Rattle.changeback.specs.Return.{FlowChange, change_from, comes_from, former_link_of, gives_up, held_by, returned, with_change}
unfoldable pub use Rattle.changeback.specs.Return.{changes, changes_of}
pub use Rattle.changeback.specs.Seen.{IsSeen, has_pair, is_seen, no_pairs, number_of_pair, with_pair, with_seen}
pub use Rattle.flow_hold.proofs.Flows.{IsSameNode}
pub use Rattle.flow_hold.proofs.Holding.{adds_its_pair, contains-with_hold, hold-leaves_others, keeps_flows_held, keeps_pairs, may-still}
pub use Rattle.flow_hold.proofs.Numbers.{tied}
pub use Rattle.flow_hold.specs.Holds.{Hold, HoldSet, by_numbers, holds, may_hold, with_hold}
pub use Rattle.flow_hold.specs.declared.procedure.Procedure.{Procedure}
pub use Rattle.flow_hold.specs.declared.procedure.Procedure.TheVariants.{Reroute}
pub use Rattle.node_links.specs.FormerLink.{former_link}
pub use Rattle.node_links.specs.NodeLinks.{Network, facts_of}
pub use Rattle.routes.proofs.Lone.{lone_alike}
pub use Rattle.routes.specs.Routes.{chosen_link, lone_set, Facts, with_link}
pub use Rattle.signalling_types.specs.declared.limits.TheConstants.Limits.{LINKS, SELECTIONS, SETS}
