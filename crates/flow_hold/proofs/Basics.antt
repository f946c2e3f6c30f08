-- Words and lemmas of std, and the definitions, that the proofs here use.
pub use Rattle.std.proofs.Math.Nat.{zero-add}
pub use Rattle.std.proofs.Math.Bool.{and-false}
pub use Rattle.std.specs.Cmp.{both_ways}
pub use Rattle.std.proofs.Common.{◌≡◌, ◌≢◌, ℕ, Bool, true, false, ◌&&◌, ◌||◌, refl, ap, sym, ◌∙◌, arith, nat_eq, ◌+◌, ◌*◌, ◌<◌, not, cond, List, [], nat_le, nat_lt, Option, Some, None, ◌-◌, ◌∷◌, ◌++◌, length, get_or, drop, replicate, zero, suc, ◌≤◌, ◌⊎◌, inl, inr, map, ◌/◌, ◌%◌, subst, vec_capacity}
pub use Rattle.std.proofs.Math.ListN.{set}
pub use Rattle.std.proofs.lemmas.Bool.{true≢false, ltb-true, ltb-false, and_parts, cases_eq, and_from, or_right, or_left, false≢true}
pub use Rattle.std.proofs.lemmas.Bool.Decides.{nat_tests}
pub use Rattle.std.proofs.lemmas.Grind.{common_steps}
pub use Rattle.std.proofs.lemmas.List.{get_or_past, set_at, get_or-set_same, get_or-set_other, length-replicate, replicate_more, drop_more, append_assoc, get_or-map, set-get_or, length-set, length-map, map-set, set_past}
pub use Rattle.std.proofs.lemmas.List.Folds.{list_any-append, list_any_at}
pub use Rattle.std.proofs.lemmas.List.FromFn.{length-map-range_with_len, get_or-map-range_with_len, map-range_with_len_more}
pub use Rattle.std.specs.FinSet.{FinSet, contains, empty, insert, contains-empty, contains-insert, same_set, IsAntisymmetric, nat_cmp-IsAntisymmetric, slice_cmp-IsAntisymmetric, items, contains-items, contains-retain, contains-union}
pub use Rattle.std.specs.List.{list_any, filter, flat_map, range_with_len}
pub use Rattle.std.specs.Ordering.{eq_by_cmp, is_eq}
pub use Rattle.std.specs.Prelude.{if◌then◌else◌, All}
pub use Rattle.flow_hold.specs.Holds.{NodeFlow, flows_to, passes, with_each, HoldSet, is_same, holds, may_hold, with_hold, Hold, by_numbers, is_held, no_holds, may_hold_to, lifted, numbers_of, hold_numbers, is_of_flow}
unfoldable pub use Rattle.flow_hold.specs.Holds.{with_flows, flows, any_flow}
pub use Rattle.flow_hold.specs.Pairs.{IsOfNode, some_flow_passes, flows_add_their_pairs, flows_leave_others, flows_are_of_node, pair, hold_is_of_node, hold_adds_its_pair, hold_leaves_others, may_not_leaves, hold_holds_its_flow, hold_keeps_flows_held, first_holds_nothing, first_is_of_node, held_by_a_procedure, lift_is_of_node, lift_leaves_others, lift_ends_its_own}
pub use Rattle.flow_hold.specs.Room.{set_of, procedure_at, hold_at}
unfoldable pub use Rattle.flow_hold.specs.Room.{pairs_of_row, pairs_of_rows}
pub use Rattle.flow_hold.specs.Rows.{Marks, marks_at, has_mark, as_count, place_of_flow}
pub use Rattle.flow_hold.specs.Table.{HoldTable, HasPlaces, place_of, flow_place, row_has, first_row, has_pair, has_flow, no_marks, with_row_cleared, with_pair, without_pairs, marked_as_held, marks_shape, with_mark_at, with_flow_marked, any_has, cleared}
pub use Rattle.flow_hold.specs.declared.procedure.Procedure.{Procedure}
pub use Rattle.flow_hold.specs.declared.procedure.Procedure.TheVariants.{Changeover, Code, Time, Reroute}
pub use Rattle.signalling_types.specs.declared.limits.TheConstants.Limits.{CHANGEBACK_CODES, SELECTIONS}
