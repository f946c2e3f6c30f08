-- Words and lemmas of std and of the crates below that the proofs here use, and the definitions that they are about.
pub use Rattle.arrayvec.specs.ArrayVec.{array_vec_len}
pub use Rattle.std.proofs.Common.{All, Bool, List, [], add-one, ap, arith, cond, drop, false, find, get_or, inl, inr, length, map, refl, rules, subst, suc, sym, take, true, zero, ℕ, ◌%◌, ◌&&◌, ◌*◌, ◌++◌, ◌+◌, ◌/◌, ◌<◌, ◌==◌, ◌||◌, ◌∙◌, ◌∷◌, ◌≡◌, ◌≢◌, ◌≤◌, ◌⊎◌}
pub use Rattle.std.proofs.Math.ListN.{get_or-map}
pub use Rattle.std.proofs.Math.Logic.{⊎_elim}
pub use Rattle.std.proofs.lemmas.Bool.{and_from, and_parts, and_right, cases_eq, cases_lt, eqb-false, eqb-true, or_left, or_parts, or_right}
pub use Rattle.std.proofs.lemmas.Bool.Decides.{Decides-eqb, nat_tests}
pub use Rattle.std.proofs.lemmas.Grind.{common_steps}
pub use Rattle.std.proofs.lemmas.List.{append-nil, append_assoc, drop_all, drop_more, get_or-set_other, get_or-set_same, get_or_past, get_or_read, length-map, length-set, length-take-le, map_more, take_all, with_items_is}
pub use Rattle.std.proofs.lemmas.List.Concat.{flat_map-cons}
pub use Rattle.std.proofs.lemmas.List.Edits.{length-remove, map_over_more}
pub use Rattle.std.proofs.lemmas.List.Elements.{All-weaker, Contains-append_cases, Contains-append_right, filter_passes}
pub use Rattle.std.proofs.lemmas.List.Folds.{flat_map-map, list_any-append, list_any_at}
pub use Rattle.std.proofs.lemmas.List.FromFn.{fill_by_all, get_or-map-range_with_len}
pub use Rattle.std.proofs.lemmas.List.Sorted.{Contains-permutation, IsPermutation-cons, IsPermutation-refl, IsPermutation-remove, IsPermutation-sym, IsPermutation-trans, list_any-IsPermutation}
pub use Rattle.std.proofs.lemmas.Option.{same_Some}
pub use Rattle.std.specs.List.{filter, flat_map, list_any, range_with_len, remove}
pub use Rattle.std.specs.List.Sorted.{IsPermutation}
pub use Rattle.std.specs.Option.{option_map, option_to_list}
pub use Rattle.std.specs.Prelude.{Contains, None, Option, Some, if◌then◌else◌, is_some, nat_eq, nat_lt, slice_index_or, slice_set, unwrap_or, vec_capacity, vec_len}
pub use Rattle.routes.specs.Routes.{Choice, allowed_or, alone, alone_in, chosen_link, chosen_routes, chosen_sets, groups_of, is_open, lone_set, members, open_group, sets_of, status_number, taken_by, Facts, first_route, first_routes, routes_to, set_at, with_link, with_status, with_status_over, has_member, link_with, links_of, first_member, first_serving, has_link, is_in_service, members_of, order_of, preference, serves, leads_by, status_of, with_statuses_reset}
unfoldable pub use Rattle.routes.specs.Routes.{choice_among, link_by, first_sets, links_below}
pub use Rattle.routes.specs.Table.{goes_by_link, goes_by_set, links_by, mended_at, table_of}
unfoldable pub use Rattle.routes.specs.Table.{links_among, links_of_group, mended_below}
pub use Rattle.routes.specs.declared.link_group.Member.{Member}
pub use Rattle.routes.specs.declared.route.Route.{Route}
pub use Rattle.routes.specs.declared.route.RouteStatus.{RouteStatus}
pub use Rattle.routes.specs.declared.route.RouteStatus.TheVariants.{Allowed, Prohibited, Restricted}
pub use Rattle.settings.specs.Configuration.{LinkEntry}
pub use Rattle.signalling_types.specs.declared.limits.TheConstants.Limits.{SELECTIONS}
