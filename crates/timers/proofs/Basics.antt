-- Words and lemmas of std, and the definitions, that the proofs here use.
pub use Rattle.std.proofs.lemmas.Option.{same_Some}
pub use Rattle.std.proofs.Math.Bool.{or-true}
pub use Rattle.std.proofs.Common.{◌≡◌, ℕ, zero, suc, ◌+◌, ◌-◌, ◌*◌, ◌^◌, ◌<◌, ◌≤◌, inl, inr, min, true, false, cond, List, ◌∷◌, ◌++◌, length, take, drop, refl, sym, ap, subst, ◌∙◌, arith, Bool, get_or, slice_set, ◌==◌, nat_lt, ◌≢◌, ◌||◌, [], map, replicate, ◌/◌, ◌%◌, ◌⊎◌}
pub use Rattle.std.proofs.Math.Nat.{pow-suc, mul-le-mul_left, mul-le-mul_right, div-add-mod, mod-lt, div-lt_iff_lt-mul, mul_comm}
pub use Rattle.std.proofs.lemmas.Bool.{cases_lt, cases_eq, false≢true, true≢false, cases_order, ltb-true, lt-ltb}
pub use Rattle.std.proofs.lemmas.Bool.Decides.{nat_tests}
pub use Rattle.std.proofs.lemmas.List.{take-append-drop, take-take, drop-take, drop-drop, drop_more, map-set, get_or-set_other, get_or-take, get_or-drop, length-set, length-map, length-drop, length-take-le, drop-map, take-map, take_rest, take-replicate, drop-replicate, get_or-replicate, length-replicate, get_or_read, get_or-set_same, with_items_is, get_or_default}
pub use Rattle.std.proofs.lemmas.List.Sums.{sum_by-append, sum_by-take-drop, length-filter, position_or_len_is, sum_by-set, passes_at_first, fails_before_first}
pub use Rattle.std.proofs.lemmas.Nat.{pow_pos, div-mul-add, mod-mul-add, one_shl, pow_below}
pub use Rattle.std.specs.List.{count_by, AllByRecursion, list_any, position_or_len, flat_map, range_with_len}
pub use Rattle.std.specs.Option.{option_or, option_map, option_map_or}
pub use Rattle.std.specs.Prelude.{Option, Some, None, is_some, max, ◌&&◌, filter, find, position, MatchOption, if◌then◌else◌}
pub use Rattle.timers.specs.Moments.{left_in, IsTree}
pub use Rattle.timers.specs.Timers.{has_name, is_of_set, is_same, is_before, AreInOrder, count_of, key_of, each, each_in_rows, names_by_kind, Key, key, is_key_before, is_same_key, Running, is_running, ticked, no_tick_left, is_due, one_less, running_with, none_running}
unfoldable pub use Rattle.timers.specs.Timers.{names_of, set_timer, start_unless_running, clear_timer, due_name, after_due, clear_set, due_count}
pub use Rattle.timers.specs.OneMap.{one_map, name_of_key, name-key}
pub use Rattle.timers.specs.Places.{named_sets, place_in, place_of, name_at, name_of_route, codes_from, destinations_from, t8_from, t10_from, slt1_from, slt2_from, link_name, code_name, route_name, test_name}
pub use Rattle.timers.specs.Table.{Table, has_place, IsWhole, table_in}
unfoldable pub use Rattle.timers.specs.Table.{left_to, map_of}
pub use Rattle.timers.specs.Tree.{never, has_come, at, first_below, count_below, IsBounded, AreBounded, left_at, rebased, least, IsBoundedBut}
pub use Rattle.timers.specs.declared.name.NodeCounts.{NodeCounts}
pub use Rattle.timers.specs.declared.name.RouteTimer.{RouteTimer}
pub use Rattle.timers.specs.declared.name.TimerName.{TimerName}
pub use Rattle.timers.specs.declared.name.TimerName.TheVariants.{T8, T10, T4, L1, L2, L3, L4, L6, L7, T1, T2, T3, T6, Slt1, Slt2}
