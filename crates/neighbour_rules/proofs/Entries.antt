-- A link enters service: each flow to the other node that had a link keeps it or takes the one that entered, and the
-- route to that node stays allowed.
use Rattle.pair_rules.proofs.Basics.{◌≡◌, ◌⊎◌, inl, inr, ℕ, Bool, true, false, [], ◌∷◌, map, Option, Some, None, refl, ap, sym, ◌∙◌, nat_eq, if◌then◌else◌, option_and_then, slice_index_or, ⊎_elim}
use Rattle.pair_rules.proofs.Definitions.{Flow, Configuration, destination_place, with_link, chosen_link, first_route, Parts, facts, link_of, set_of, begun_anew_if}
use Rattle.exchange_rules.proofs.Basics.{get_or-map}
use Rattle.routes.specs.Routes.{with_status_over}
use Rattle.routes.specs.declared.route.RouteStatus.TheVariants.{Allowed}
use Rattle.routes.proofs.Leaving.{goes_or_stays, had_has}
use Rattle.neighbour_rules.proofs.Good.{Joint}
pub use Rattle.pair_rules.proofs.Entries.{IsComing, IsKnown, all-ways, begins-by, data-heard, end_with, enters-heard, expiry-heard, leads-heard, leads-up, not-so, starts-up}

-- ---- a flow has the link that it had, or the one that entered

pub keeps-or-takes : (c : Configuration) (p q : Parts) (link destination sls former : ℕ) → IsKnown c link p q → chosen_link (facts c p) destination sls ≡ Some former
    → (chosen_link (facts c q) destination sls ≡ Some former) ⊎ (chosen_link (facts c q) destination sls ≡ Some link)
keeps-or-takes c p q link destination sls former i e = by (chosen_link (facts c q) destination sls) refl
  where
    had : chosen_link (with_link link false (facts c q)) destination sls ≡ Some former
    had = i.known destination sls ∙ e

    by : (o : Option ℕ) → chosen_link (facts c q) destination sls ≡ o → (chosen_link (facts c q) destination sls ≡ Some former) ⊎ (chosen_link (facts c q) destination sls ≡ Some link)
    by (Some now) f =
        ⊎_elim
        (λ (same : now ≡ link). inr (f ∙ ap (λ (k : ℕ). Some k) same))
        (λ (kept : chosen_link (with_link link false (facts c q)) destination sls ≡ Some now). inl (f ∙ sym kept ∙ had))
        (goes_or_stays (facts c q) link destination sls now f)
    by None f = absurd (had_has (facts c q) link destination sls former had f)

-- ---- what is known over a set is reset, and a route that was allowed still is

row-open : (its leads : ℕ) → map (with_status_over its Allowed) (first_route leads ∷ []) ≡ first_route leads ∷ []
row-open its leads = by (nat_eq leads its)
  where
    by : (b : Bool) → (if b then record (first_route leads) { status = Allowed } else first_route leads) ∷ [] ≡ first_route leads ∷ []
    by true = refl
    by false = refl

pub anew-open : (again : Bool) (c : Configuration) (link leads destination : ℕ) (p : Parts) → slice_index_or p.routes destination [] ≡ first_route leads ∷ []
    → slice_index_or (begun_anew_if again c link p).routes destination [] ≡ first_route leads ∷ []
anew-open true c link leads destination p e =
    get_or-map (map (with_status_over (set_of c link) Allowed)) p.routes destination []
    ∙ ap (map (with_status_over (set_of c link) Allowed)) e
    ∙ row-open (set_of c link) leads
anew-open false c link leads destination p e = e

module _ (c z : Configuration) (j : Joint c z) where
  -- the link of a flow to the other
  pub link-there : (p : Parts) (flow : Flow) → flow.point ≡ j.base.there → link_of c p flow ≡ chosen_link (facts c p) j.destination flow.sls
  link-there p flow e = ap (option_and_then (λ (place : ℕ). chosen_link (facts c p) place flow.sls)) (ap (destination_place c) e ∙ j.place)
