-- Words and lemmas of std that the proofs here use.
pub use Rattle.std.proofs.Common.{◌≡◌, ℕ, zero, suc, Bool, true, false, ◌&&◌, not, List, [], ◌∷◌, length, Option, Some, None, refl, ap, ◌∙◌, arith, replicate, subst, sum_by, sym, ◌+◌, ◌||◌, cond, ◌++◌, ◌≢◌, ◌<◌, ◌≤◌, ◌⊎◌, inl, inr, ◌-◌, nat_eq, Result, Ok, Err, nat_lt, drop-drop, map, get_or, ◌^◌, ◌*◌, ◌/◌, ◌%◌}
pub use Rattle.std.proofs.Math.ListN.{set, get_or-map}
pub use Rattle.std.proofs.Math.Logic.{⊎_elim}
pub use Rattle.std.proofs.lemmas.Bool.{cases_lt, cases_eq, and_parts, eq-eqb, eqb-true, ne_eqb, true≢false, leb-true, and_from, false_from_ne_true, or_left, or_right}
pub use Rattle.std.proofs.lemmas.Bool.Decides.{nat_tests}
pub use Rattle.std.proofs.lemmas.List.{get_or_past, get_or-set_same, get_or-set_other, length-set, length-map, get_or_append_left, get_or-append_right, length-append, take-append-drop, append-nil, append_assoc, drop-append-le, length-drop, length-replicate, map-set, set-get_or, get_or-replicate}
pub use Rattle.std.proofs.lemmas.List.Elements.{Contains-append_right, Contains-append_cases, filter_agree, filter-append}
pub use Rattle.std.proofs.lemmas.List.Quantifiers.{position-Some}
pub use Rattle.std.proofs.lemmas.List.Sums.{sum_by-cons, sum_by-append, position_or_len_is, sum_by-set}
pub use Rattle.std.specs.List.{list_any, AllByRecursion, position_or_len, list_all}
unfoldable pub use Rattle.std.specs.List.{IsDistinct}
pub use Rattle.std.specs.Option.{option_map, option_or, option_and_then, option_to_list, option_eq}
pub use Rattle.std.specs.Prelude.{if◌then◌else◌, Contains, find, slice_set, ◌==◌, slice_index_or, position, take, drop, min, filter, is_some, nat_le, count_by, slice_get, max}
