-- What was shown.
use Rattle.std.proofs.Common.{◌≡◌, ◌∙◌, ◌++◌, ℕ, Bool, true, false, true≢false, List, Option, Some, None, Result, ap, sym, refl, subst}
use Rattle.console.specs.Texts.{Shows}
use Rattle.exchange.specs.Calls.{Kept}
use Rattle.exchange.specs.declared.view.RouteView.{RouteView}
use Rattle.json.specs.Written.{Written}
use Rattle.settings.specs.declared.point.PointFormat.{PointFormat}
use Rattle.settings.specs.Configuration.{Configuration}
use Rattle.status_page.specs.Members.{Adds}
use Rattle.status_page.specs.States.{place_members, route_object, shown_route}

pub line_shown : (line : Option (List ℕ)) (shown : Bool) (text text_new : List ℕ) → Shows line shown text text_new → shown ≡ true → line ≡ Some text_new
line_shown (Some l) shown text text_new h t = ap (λ (xs : List ℕ). Some xs) (sym h.1)
line_shown None shown text text_new h t = absurd (true≢false (sym t ∙ h.0))

pub line_missing : (line : Option (List ℕ)) (shown : Bool) (text text_new : List ℕ) → Shows line shown text text_new → shown ≡ false → line ≡ None
line_missing (Some l) shown text text_new h f = absurd (true≢false (sym h.0 ∙ f))
line_missing None shown text text_new h f = refl

-- a destination that is there
pub route_put : {E : Type 0} (points : PointFormat) (c d : Configuration) (s : Kept) (destination : ℕ) (ways sets : List ℕ)
    (shown : Option RouteView) (v : RouteView) (r : Result (Unit {0}) E) (old new : Written)
    → Some v ≡ shown → c ≡ d → ways ≡ sets → Adds r old new (route_object points c s destination ways v)
    → Adds r old new (shown_route points d s destination sets shown)
route_put points c d s destination ways sets shown v r old new e f g h =
    subst (λ (x : Option RouteView). Adds r old new (shown_route points d s destination sets x)) e
    (subst (λ (x : Configuration). Adds r old new (route_object points x s destination sets v)) f
    (subst (λ (x : List ℕ). Adds r old new (route_object points c s destination x v)) g h))

-- what is shown of these settings is shown of the node's, which they are
pub place_put : (points : PointFormat) (c d : Configuration) (old new : Written) → c ≡ d
    → (new.tokens ≡ old.tokens ++ place_members points c) × (new.before ≡ old.before)
    → (new.tokens ≡ old.tokens ++ place_members points d) × (new.before ≡ old.before)
place_put points c d old new e h =
    subst (λ (x : Configuration). (new.tokens ≡ old.tokens ++ place_members points x) × (new.before ≡ old.before)) e h
