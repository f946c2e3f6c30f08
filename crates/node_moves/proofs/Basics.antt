-- Words and lemmas of std that the proofs here use.
pub use Rattle.std.proofs.Common.{◌≡◌, ◌≢◌, ℕ, zero, suc, Bool, true, false, not, cond, ◌&&◌, ◌||◌, ◌+◌, ◌-◌, ◌*◌, ◌/◌, ◌%◌, ◌^◌, ◌≤◌, ◌<◌, ◌⊎◌, inl, inr, List, [], ◌∷◌, ◌++◌, length, map, drop, filter, replicate, slice_get, Option, Some, None, Result, Ok, Err, count_by, nat_eq, nat_lt, if◌then◌else◌, refl, ap, sym, subst, ◌∙◌, arith}
pub use Rattle.std.proofs.Math.Logic.{⊎_elim}
pub use Rattle.std.proofs.lemmas.Bool.{cases_eq, cases_lt, ne_eqb, eq-eqb, eqb-true, true≢false}
pub use Rattle.std.proofs.lemmas.Bool.Decides.{nat_tests}
pub use Rattle.std.proofs.lemmas.List.{get_or-set_same, get_or-set_other, get_or_past, length-set, length-replicate, append-nil, append_assoc}
pub use Rattle.std.specs.Prelude.{take, min, slice_set, slice_index_or, is_some}
