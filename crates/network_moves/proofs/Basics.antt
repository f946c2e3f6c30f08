-- Words and lemmas of std that the proofs here use.
pub use Rattle.std.proofs.Common.{◌≡◌, ◌≢◌, ℕ, Bool, ◌+◌, ◌≤◌, List, count_by, ap, sym, arith, subst, inl, inr, false, drop, zero, suc, true, cond, not, ◌<◌, [], ◌∷◌, ◌++◌, filter, refl, ◌∙◌, if◌then◌else◌, None, Some, nat_eq, ◌-◌, ◌%◌, ◌^◌, slice_get, Option, Ok, Err, ◌⊎◌, ◌&&◌, ◌||◌, length, nat_lt}
pub use Rattle.std.proofs.Math.Logic.{⊎_elim}
pub use Rattle.std.proofs.lemmas.Bool.{cases_eq, ne_eqb, eq-eqb}
pub use Rattle.std.proofs.lemmas.Bool.Decides.{nat_tests}
pub use Rattle.std.proofs.lemmas.List.{append-nil, append_assoc, drop-append-le}
