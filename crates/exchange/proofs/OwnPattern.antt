-- The pattern of own link tests is recognized octet by octet.
use Rattle.exchange.proofs.Basics.{◌≡◌, ℕ, Bool, true, false, refl, sym, ap, ◌∙◌}
use Rattle.std.specs.Prelude.{List, length, nat_eq}
use Rattle.exchange_rules.specs.LinkTests.{is_same_pattern, own_pattern}
use Rattle.exchange_rules.proofs.LinkTests.{are-same}

none-true : (b : Bool) → (b ≡ true → ⊥) → b ≡ false
none-true true f = absurd (f refl)
none-true false f = refl

-- one of another length is another
pub other-length : (pattern : List ℕ) → nat_eq (length pattern) 4 ≡ false → is_same_pattern pattern own_pattern ≡ false
other-length pattern e =
    none-true (is_same_pattern pattern own_pattern)
    (λ same. let no : true ≡ false = sym (ap (λ (xs : List ℕ). nat_eq (length xs) 4) (are-same pattern own_pattern same)) ∙ e in cc)
