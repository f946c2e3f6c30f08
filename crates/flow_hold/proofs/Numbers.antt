-- A pair is known by its numbers, and so is a procedure.
use Rattle.flow_hold.proofs.Basics.{◌≡◌, ◌≢◌, Bool, true, false, refl, ap, sym, ◌∙◌, eq_by_cmp, is_eq, IsAntisymmetric, nat_cmp-IsAntisymmetric, slice_cmp-IsAntisymmetric, Procedure, Hold, numbers_of, hold_numbers, by_numbers, is_same}
use Rattle.std.specs.Cmp.{IsTotalOrder, Equal-is, tied_itself}
use Rattle.std.specs.Cmp.Lexicographic.{on_texts, bytes_decides}
use Rattle.flow_hold.specs.Stored.{procedure_of, hold_of, same_procedure, same_hold}

pub in_order : IsTotalOrder by_numbers
in_order = on_texts hold_numbers

pub only_same_tie : IsAntisymmetric by_numbers
only_same_tie x y e =
    sym (same_hold x) ∙ ap hold_of (slice_cmp-IsAntisymmetric nat_cmp-IsAntisymmetric (hold_numbers x) (hold_numbers y) e) ∙ same_hold y

pub tied : (x y : Hold) → eq_by_cmp by_numbers x y ≡ true → x ≡ y
tied x y e = only_same_tie x y ((Equal-is (by_numbers x y)).0 e)

pub tied-same : (x : Hold) → eq_by_cmp by_numbers x x ≡ true
tied-same x = ap is_eq (tied_itself in_order x)

untied-case : (x y : Hold) → (x ≢ y) → (b : Bool) → eq_by_cmp by_numbers x y ≡ b → b ≡ false
untied-case x y apart true e = absurd (apart (tied x y e))
untied-case x y apart false e = refl

pub untied : (x y : Hold) → (x ≢ y) → eq_by_cmp by_numbers x y ≡ false
untied x y apart = untied-case x y apart (eq_by_cmp by_numbers x y) refl

pub same : (one other : Procedure) → is_same one other ≡ true → one ≡ other
same one other e = sym (same_procedure one) ∙ ap procedure_of ((bytes_decides (numbers_of one) (numbers_of other)).0 e) ∙ same_procedure other

pub same-itself : (one : Procedure) → is_same one one ≡ true
same-itself one = (bytes_decides (numbers_of one) (numbers_of one)).1 refl

other-case : (one other : Procedure) → (one ≢ other) → (b : Bool) → is_same one other ≡ b → b ≡ false
other-case one other apart true e = absurd (apart (same one other e))
other-case one other apart false e = refl

pub not-same : (one other : Procedure) → (one ≢ other) → is_same one other ≡ false
not-same one other apart = other-case one other apart (is_same one other) refl
