-- Tags that are drawn one after another.
use Rattle.std.proofs.Common.{◌≡◌, ℕ, suc, ◌+◌, List, Option, Some, sym, ap, subst, ◌∙◌, arith}
use Rattle.std.specs.Prelude.{IfSome}
use Rattle.sctp_cookie.specs.Tags.{Drawing, after_draw}
use Rattle.sctp_ends.specs.Keyed.{drawing_after}

pub drawn-more : (d e : Drawing) (n : ℕ) → d ≡ drawing_after d.key n → e ≡ after_draw d → e.key ≡ d.key → e ≡ drawing_after e.key (n + 1)
unfolding drawing_after
drawn-more d e n was is key =
    let more : n + 1 ≡ suc n = omega arith in
    is ∙ ap after_draw was ∙ sym (ap (drawing_after d.key) more) ∙ ap (λ (k : List ℕ). drawing_after k (n + 1)) (sym key)

pub some-of : (o p : Option ℕ) (x : ℕ) (P : ℕ → Type 0) → o ≡ p → p ≡ Some x → IfSome o P → P x
some-of o p x P a b h = subst (λ (q : Option ℕ). IfSome q P) (a ∙ b) h
