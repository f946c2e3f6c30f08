-- Words and lemmas of std and of the crates below that the proofs here use, and the definitions that they are about.
pub use Rattle.std.proofs.Common.{Bool, List, None, Ok, Option, Some, [], ap, arith, cond, drop, drop-cons, false, get_or, inl, inr, length, not, refl, replicate, rules, subst, suc, sym, take, true, zero, ℕ, ◌%◌, ◌*◌, ◌++◌, ◌+◌, ◌-◌, ◌/◌, ◌<◌, ◌^◌, ◌∙◌, ◌∷◌, ◌≡◌, ◌≢◌, ◌≤◌, ◌⊎◌}
pub use Rattle.std.proofs.lemmas.Bool.{both_ways, false_from_ne_true, and_parts, cases_eq, cases_lt, eq-eqb, eqb-false, eqb-true, le-ltb, lt-ltb, ne_eqb}
pub use Rattle.std.proofs.lemmas.Cmp.{nat_list_cmp_total, tied_itself}
pub use Rattle.std.proofs.lemmas.Fn.{always_returns_same}
pub use Rattle.std.proofs.lemmas.List.{append-nil, append_assoc, drop_all, drop_more, get_or-set_other, get_or-set_same, get_or-take, get_or_append_left, get_or_default, length-append, length-drop, length-set, length-take, length-take-le, set_at, take-append-drop, take-take, take_all, take_more}
pub use Rattle.std.proofs.lemmas.List.Elements.{All-append, All-cons, All-drop, All-from_recursion, All-get_or, All-more, All-same, All-set, All-take, Contains-append_right, filter-append}
pub use Rattle.std.proofs.lemmas.List.Folds.{list_any-append, list_any_at, list_any_none}
pub use Rattle.std.proofs.lemmas.List.Sorted.{Contains-permutation, IsPartitionPoint-from_clause, IsPermutation-sym, ranks_by, sorted_far}
pub use Rattle.std.proofs.lemmas.Map.Keys.{IsDistinct-IsPermutation, IsDistinct-head, IsDistinct-tail}
pub use Rattle.std.proofs.lemmas.Map.Text.{is_eq-slice_cmp}
pub use Rattle.std.proofs.lemmas.Option.{slice_get-get_or}
pub use Rattle.std.specs.Cmp.{IsTotalOrder}
pub use Rattle.std.specs.Cmp.Lexicographic.{bytes_decides, slice_cmp}
pub use Rattle.std.specs.List.{AllByRecursion, AllWithin, Contains, IsDistinct, filter, insert, list_any, remove, starts_with}
pub use Rattle.std.specs.List.Sorted.{IsPartitionPoint, IsPartitionedBy, IsPermutation, IsSortedBy}
pub use Rattle.std.specs.Ordering.{is_eq, is_gt, is_lt, nat_cmp, ordering_reverse, ordering_then}
pub use Rattle.std.specs.Prelude.{All, Err, IfSome, IsTrue, OnOk, Result, if◌then◌else◌, is_some, nat_eq, set, slice_get, ◌||◌}
pub use Rattle.std.specs.Result.{is_err, is_ok}
pub use Rattle.std.specs.Str.{bytes_eq}
pub use Rattle.std.specs.Vec.{vec_capacity, vec_len}
pub use Rattle.std.specs.declared.cmp.Ordering.{Ordering}
pub use Rattle.std.specs.declared.cmp.Ordering.TheVariants.{Equal, Greater, Less}
pub use Rattle.sccp_codec.specs.declared.title.TitleKey.{TitleKey}
pub use Rattle.sccp_relay.specs.Digits.{DigitMap, behind, found_at, longest, longest_within, with_value, without}
pub use Rattle.sccp_relay.specs.Laws.{added_leaves, added_stands, removed_is_gone, removed_leaves, rows_at}
pub use Rattle.sccp_relay.specs.Nodes.{IsTree, KeepsWays, bare, child, if_there, linked, node_at, node_of, none, reached, root, stored, stored_from, value, value_there, with_value_at}
pub use Rattle.sccp_relay.specs.Places.{FitsAt, StandsAt}
unfoldable pub use Rattle.sccp_relay.specs.Relay.{relay}
unfoldable pub use Rattle.sccp_relay.specs.Returning.{returned}
pub use Rattle.sccp_relay.specs.Rows.{IsOrdered, has_row, is_at, is_before, is_behind, is_same_place, key_of, place_of, place_order, row_place, set_refusal, table_of, with_row, without_row}
pub use Rattle.sccp_relay.specs.Translation.{IsTranslation, has_key, leads, longer, longest_from, or_refusal, translation, translation_refusal}
pub use Rattle.sccp_relay.specs.Ways.{IsRoute, IsRow, IsSsn, key_digits, lead_of, leads_of, route_number, route_of, row_led, way_of}
pub use Rattle.sccp_relay.specs.declared.node.Node.{Node}
pub use Rattle.sccp_relay.specs.declared.node.NodeId.{NodeId}
pub use Rattle.settings.specs.Configuration.{TitleEntry}
pub use Rattle.settings.specs.TitleRanges.{HasTitleRanges}
pub use Rattle.settings.specs.declared.title_row.TitleRoute.{TitleRoute}
pub use Rattle.settings.specs.declared.title_row.TitleRoute.TheVariants.{Ssn, Title}
pub use Rattle.signalling_types.specs.declared.cause.Cause.{Cause}
pub use Rattle.signalling_types.specs.declared.cause.Cause.TheVariants.{NoDigits, NoNature}
pub use Rattle.signalling_types.specs.declared.limits.TheConstants.Limits.{TITLES}
