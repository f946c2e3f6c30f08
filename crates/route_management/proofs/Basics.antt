-- Words and lemmas of std and of the crates below that the proofs here use, and the definitions that they are about.
pub use Rattle.std.proofs.Common.{Bool, List, [], add-one, ap, arith, drop, false, inl, inr, length, map, not, refl, replicate, suc, sym, take, true, zero, ℕ, ◌&&◌, ◌*◌, ◌++◌, ◌+◌, ◌<◌, ◌||◌, ◌∙◌, ◌∷◌, ◌≡◌, ◌≢◌, ◌≤◌}
pub use Rattle.std.proofs.Math.ListN.{get_or-map}
pub use Rattle.std.proofs.lemmas.Bool.{and_parts, or_right, eq-eqb, eqb-true}
pub use Rattle.std.proofs.lemmas.Bool.Decides.{eqb_tells, leb_tells}
pub use Rattle.std.proofs.lemmas.Grind.{common_steps}
pub use Rattle.std.proofs.lemmas.List.{get_or-replicate, get_or-set_other, length-map, length-replicate, length-set, map-set, nil_from_length, set-get_or}
pub use Rattle.std.proofs.lemmas.List.Edits.{map_over_more}
pub use Rattle.std.proofs.lemmas.List.Elements.{All-cons, All-nil}
pub use Rattle.std.proofs.lemmas.List.Folds.{list_any-append}
pub use Rattle.std.specs.List.{All, AllByRecursion, cons_option, filter_map, flat_map, list_any, range_with_len}
pub use Rattle.std.specs.Option.{option_map}
pub use Rattle.std.specs.Prelude.{None, Option, Some, if◌then◌else◌, nat_eq, slice_get, slice_index_or, slice_set, vec_capacity, vec_len}
pub use Rattle.route_management.specs.Laws.{leaves_other_destinations, leaves_other_points, listed_is_owed, reset_is_kept, reset_leaves_others, reset_leaves_what_is_to_be_told, status_leaves_other_destinations, told_all_owes_nothing, told_is_kept, told_once}
pub use Rattle.route_management.specs.Marks.{NoneBetween, NoneFrom, is_marked}
pub use Rattle.route_management.specs.Told.{Owed, all_told, is_reachable, is_same, is_unlike, owed, owed_about, owed_at, owed_by_sets, owed_from, owed_to, said_by, status_to_advertise, ToldTable, adjacent_place, first_told, is_number, is_own_point, row_of, shape_of, told_at, with_told, with_told_reset}
unfoldable pub use Rattle.route_management.specs.Told.{owes_nothing}
pub use Rattle.routes.proofs.Resetting.{reset_routes}
pub use Rattle.routes.proofs.Telling.{other_routes}
pub use Rattle.routes.specs.Routes.{Facts}
pub use Rattle.routes.specs.declared.route.RouteStatus.{RouteStatus}
pub use Rattle.routes.specs.declared.route.RouteStatus.TheVariants.{Allowed, Prohibited, Restricted}
pub use Rattle.settings.specs.Configuration.{DestinationEntry, SetEntry}
