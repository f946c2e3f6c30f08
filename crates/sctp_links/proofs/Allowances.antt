-- How many INITs are answered.
use Rattle.std.proofs.Common.{inl, inr, [], ◌∷◌, refl, arith}
use Rattle.std.proofs.lemmas.Bool.Decides.{leb_tells}
use Rattle.sctp_links.specs.Allowances.{left_at, after_init, answers_are_bounded, few_are_answered}

pub bounded : answers_are_bounded
bounded a [] h = omega arith
bounded a (now ∷ times) h =
    let rest = bounded (after_init now a) times h.1 in
    elim (leb_tells 1 (left_at now a)) [
      | inl some ↦ rw (some.0) (omega (arith, some.1, rest, h.0))
      | inr none ↦ rw (none.0) (omega (arith, none.1, rest, h.0))
    ]

pub few : few_are_answered
few a [] h most fits = refl
few a (now ∷ times) h most fits =
    let rest = few (after_init now a) times h.1 (omega arith) (omega (arith, most, fits, h.0)) in
    elim (leb_tells 1 (left_at now a)) [
      | inl some ↦ rw (some.0) (omega (arith, rest))
      | inr none ↦ absurd (omega (arith, none.1, most, fits, h.0))
    ]
