-- Words and lemmas of std that the proofs here use.
pub use Rattle.std.proofs.Common.{◌≡◌, ◌≢◌, ◌<◌, ℕ, Bool, true, false, List, [], ◌∷◌, length, refl, ap, sym, subst, ◌∙◌, map, zero, suc, Option, Some, None, nat_eq, ◌≤◌, ◌-◌, ◌+◌, ◌&&◌, not, Ok, arith, append-nil, ◌++◌, nat_lt, inl, Result, Err, ◌⊎◌, inr, ◌==◌, ◌||◌, get_or, ◌^◌, position, ◌%◌, ◌/◌, IsTrue}
pub use Rattle.std.proofs.Math.Logic.{⊎_elim}
pub use Rattle.std.proofs.Math.Path.{fun_ext}
pub use Rattle.std.proofs.lemmas.Bool.{cases_eq, and_from, lt-ltb, ltb-true, and_parts, cases_lt, true≢false, cases_order, eq-eqb, le-ltb, and_left, and_right}
pub use Rattle.std.proofs.lemmas.Bool.Decides.{nat_tests}
pub use Rattle.std.proofs.lemmas.List.{get_or-set_other, get_or-set_same, length-set, set-get_or, get_or_past}
pub use Rattle.std.proofs.lemmas.List.Elements.{Contains-append_left, All-from_recursion, Contains-append_right}
pub use Rattle.std.specs.List.{cons_option, list_all, list_any}
unfoldable pub use Rattle.std.specs.List.{IsDistinct}
pub use Rattle.std.specs.Option.{option_map, option_and_then, option_or}
pub use Rattle.std.specs.Prelude.{slice_index_or, slice_set, find, if◌then◌else◌, drop, take, slice_get, is_some, option_to_list, replicate, All, Contains, count_by, filter}
