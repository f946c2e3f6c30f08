-- Words and lemmas of std, and the definitions, that the proofs here use.
pub use Rattle.std.proofs.lemmas.Bool.{eqb-true, and_from, or_parts, or_left, or_right, not-true, and_parts}
pub use Rattle.std.proofs.Common.{refl, sym, subst, ap, ◌∙◌, ◌≡◌, ℕ, Bool, true, false, ◌&&◌, ◌||◌, nat_eq, List, [], ◌∷◌, length, arith, Option, Some, None, slice_get, not, cond, suc, nat_lt, slice_set, ◌≤◌, ◌<◌, ◌+◌, ◌++◌, take, drop, map, replicate, zero, ◌^◌, ◌≢◌, append_assoc, All, nat_le, IsTrue, string_eq, string_bytes, inl, inr, rules, vec_len, vec_capacity, tests, true≢false}
pub use Rattle.std.proofs.Math.Dec.{eqb}
pub use Rattle.std.proofs.Math.ListN.{get_or, length-set}
pub use Rattle.std.proofs.lemmas.Bool.Decides.{nat_tests, Decides-eqb, Decides-int_eq}
pub use Rattle.std.proofs.lemmas.Grind.{common_steps}
pub use Rattle.std.proofs.lemmas.List.{length-map, append-nil, get_or-map, length-replicate}
pub use Rattle.std.proofs.lemmas.List.Elements.{All-from_recursion}
pub use Rattle.std.proofs.lemmas.List.Quantifiers.{position-Some}
pub use Rattle.std.proofs.lemmas.List.Sums.{prefix_len-le-length, position_or_len_is, length-filter}
pub use Rattle.std.proofs.lemmas.Option.{slice_get-get_or, slice_get_read, get_or_from_slice_get, slice_get_past, slice_get-map}
pub use Rattle.std.proofs.lemmas.Result.{err_from_is_err_and}
pub use Rattle.std.proofs.lemmas.Slice.Eq.{bytes_eq-Decides}
pub use Rattle.std.specs.List.{position, AllByRecursion, list_any, list_all, position_or_len, prefix_len, filter, count_by}
unfoldable pub use Rattle.std.specs.List.{IsDistinct}
pub use Rattle.std.specs.Option.{option_map}
pub use Rattle.std.specs.Ordering.{int_eq}
pub use Rattle.std.specs.Prelude.{is_some, IfSome, option_and_then, if◌then◌else◌, ℤ, pos, negsuc, String, unwrap_or}
pub use Rattle.std.specs.Str.{bytes_eq}
pub use Rattle.settings.specs.Checks.{first_of, all_of, behind, all_behind, entries_checks, fault_unless, entries_fault, is_within, natural, range_fault, far_point_fault, has_repeat, count_fault, optional_fault, is_digit, ssn_fault, route_fault, digits_fault, added_fault}
unfoldable pub use Rattle.settings.specs.Checks.{numbers_fault}
pub use Rattle.settings.specs.FirstFault.{first_fault, scalars_checks, set_checks, link_tests_checks, ticks_fault, timers_written, ticks_in, timer_in, destination_fault, destination_point_fault, set_list_fault, joined_fault, has_destination, is_set_name, reached_fault, is_reached, is_first_name, link_fault, link_name_fault, link_set_fault, link_slc_fault, has_link_named, has_link_code, set_fault, set_name_fault, set_adjacent_fault, has_set_named, has_adjacent}
unfoldable pub use Rattle.settings.specs.FirstFault.{scalars_fault, timers_fault, link_tests_fault, bar_fault, tables_fault, arrays_fault, sets_fault, links_fault, destinations_fault, unreached_fault}
pub use Rattle.settings.specs.TitleFaults.{title_numbers_checks, title_change_checks, title_fault, title_numbers_fault, title_digits_fault, title_target_fault, title_change_fault, is_same_title}
unfoldable pub use Rattle.settings.specs.TitleFaults.{titles_fault}
pub use Rattle.settings.specs.AllFaults.{own_point, ticks_before_bar, ticks_checks, late_timers_checks, set_count_fault, link_set_check, link_slc_check, link_checks, link_count_fault, has_point, destination_point_check, known_check, set_list_check, destination_checks, destination_count_fault, title_digits_check, is_by_number, title_target_checks, title_count_fault, reached_checks, routes_fault, lists_checks, all_faults, first_in}
unfoldable pub use Rattle.settings.specs.AllFaults.{timers_checks, sets_checks, links_checks, destinations_checks, title_checks, titles_checks, unreached_checks, arrays_checks, all_checks}
pub use Rattle.settings.specs.SeenPoints.{AreSeen, seen_at, seen_with}
pub use Rattle.settings.specs.SeenTitles.{AreOf, has_key}
pub use Rattle.settings.specs.Told.{tell, tell_all}
pub use Rattle.settings.specs.Meaning.{settings_of, ticks_of, test_ticks_of, set_of, destination_of, set_place, set_number, link_of, title_of, digit_of, route_of, change_of, is_by_title, points_of}
pub use Rattle.settings.specs.Titles.{title_key}
pub use Rattle.settings.specs.Well.{IsWell, is_same_point, is_led_first, is_first, IsWithin, all_ticks, test_ticks, ticks_if_any, IsDestination, IsLink, is_link_of_same_name, is_same_code, IsFarPoint, IsSet, is_set_of_same_name, is_set_to_same_point, IsTitle, HasSubsystem, is_same_row}
pub use Rattle.settings.specs.Configuration.{Configuration, SetEntry, DestinationEntry, LinkEntry}
pub use Rattle.settings.specs.Names.{is_name}
pub use Rattle.settings.specs.declared.draft.DestinationDraft.{DestinationDraft}
pub use Rattle.settings.specs.declared.draft.Draft.{Draft}
pub use Rattle.settings.specs.declared.draft.LinkDraft.{LinkDraft}
pub use Rattle.settings.specs.declared.draft.LinkTestsDraft.{LinkTestsDraft}
pub use Rattle.settings.specs.declared.draft.TimersDraft.{TimersDraft}
pub use Rattle.settings.specs.declared.draft.SetDraft.{SetDraft}
pub use Rattle.settings.specs.declared.draft.TitleDraft.{TitleDraft}
pub use Rattle.settings.specs.declared.draft.ChangeDraft.{ChangeDraft}
pub use Rattle.settings.specs.declared.fault.DraftFault.{DraftFault}
pub use Rattle.settings.specs.declared.fault.FaultKind.{FaultKind}
pub use Rattle.settings.specs.declared.fault.FaultKind.TheVariants.{Range, Duplicate, UnknownName, TooMany}
pub use Rattle.settings.specs.declared.key.Key.{Key}
pub use Rattle.settings.specs.declared.key.TimerKey.TheVariants.{Slt1, Slt2, L4e, Sst, T2Bar}
pub use Rattle.settings.specs.declared.key.Key.TheVariants.{Own, Network, Window, Pool, Users, Subsystems, Timer, Destination, DestinationPoint, DestinationSets, DestinationJoined, SetAdjacent, Link, LinkName, LinkSet, LinkSlc, LinkShare, Set, SetName, Title, TitleTranslation, TitlePlan, TitleNature, TitleDigits, TitlePoint, TitleBackup, TitleRoute, TitleSsn, TitleNewPlan, TitleNewNature, TitleRemove, TitleAdd}
pub use Rattle.signalling_types.specs.declared.limits.TheConstants.Limits.{WINDOW, POOL, TICKS, DESTINATIONS, SETS_PER_DESTINATION, LINKS, LINKS_PER_SET, SETS, TITLES, TITLE_DIGITS}
