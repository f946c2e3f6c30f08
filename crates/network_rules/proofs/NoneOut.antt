-- No link of a network whose links are joined leads out, so nothing is done to it but steps.
use Rattle.std.specs.Prelude.{nat_lt}
use Rattle.pair_rules.proofs.Basics.{◌≡◌, ℕ, Bool, false, not, List, [], ◌∷◌, Option, Some, None, refl, ap, subst, ◌∙◌, length, slice_get}
use Rattle.std.proofs.lemmas.Option.{get_or_from_slice_get, slice_get_within}
use Rattle.exchange_rules.specs.Routing.{adjacent_of}
use Rattle.pair_rules.proofs.Definitions.{Configuration, LinkEntry}
use Rattle.pair_rules.specs.Sharing.{AreSharing}
use Rattle.network_rules.specs.Networks.{NetworkState, Step, after_step, after_steps}
use Rattle.network_rules.specs.Outside.{HearsOutside, Move, OpensOutside, Within, after_moves, hears_outside, leads_out, leads_out_by, opens_outside, speaks_within}
use Rattle.network_rules.specs.Totals.{IsJoined}
use Rattle.network_rules.proofs.AllRuns.{did-keeps}
use Rattle.network_rules.proofs.Outside.{has-sets}

-- steps that do the same
pub record AreOfSteps (moves : List Move) (w : NetworkState) : Type 0 where
  pub steps : List Step
  pub by : after_moves moves w ≡ after_steps steps w

module _ (settings : (point : ℕ) → Configuration) (points : List ℕ) (h : IsJoined settings points) where
  shares : (point link : ℕ) (l : LinkEntry) → slice_get (settings point).links link ≡ Some l → AreSharing (settings point) (settings (adjacent_of (settings point) l.set))
  shares point link l is =
      subst (λ (row : LinkEntry). AreSharing (settings point) (settings (adjacent_of (settings point) row.set)))
      (get_or_from_slice_get (settings point).links link l (record { name = []; set = 0; slc = 0; share = None }) is)
      (h.shared point link (slice_get_within (settings point).links link l is))

  abbrev AreKept : NetworkState → Type 0
  AreKept w = (point : ℕ) → (w.node point).exchange.settings ≡ settings point

  none-out : (w : NetworkState) → AreKept w → (point link : ℕ) → leads_out w point link ≡ false
  none-out w kept point link =
      ap (λ (c : Configuration). leads_out_by w c (slice_get c.links link)) (kept point) ∙ by (slice_get (settings point).links link) refl
    where
      by : (o : Option LinkEntry) → slice_get (settings point).links link ≡ o → leads_out_by w (settings point) o ≡ false
      by None e = refl
      by (Some l) e =
          let far : ℕ = adjacent_of (settings point) l.set in
          let its : AreSharing (settings point) (settings far) = shares point link l e in
          ap (λ (c : Configuration). not (nat_lt 0 (length c.sets))) (kept far) ∙ ap not (has-sets (settings far) (settings point).own its.shares.far_set its.shares.far_leads)

  pub of-steps : (moves : List Move) (w : NetworkState) → AreKept w → AreOfSteps moves w
  of-steps [] w kept = record { steps = []; by = refl }
  of-steps (Within step ∷ moves) w kept =
      let its : AreOfSteps moves (after_step step w) = of-steps moves (after_step step w) (λ point. did-keeps step.what step.point w point ∙ kept point) in
      record { steps = step ∷ its.steps; by = its.by }
  of-steps (OpensOutside point link ∷ moves) w kept =
      let its : AreOfSteps moves w = of-steps moves w kept in
      record {
        steps = its.steps;
        by = ap (λ (out : Bool). after_moves moves (opens_outside out point link w)) (none-out w kept point link) ∙ its.by;
      }
  of-steps (HearsOutside point link text ∷ moves) w kept =
      let its : AreOfSteps moves w = of-steps moves w kept in
      record {
        steps = its.steps;
        by =
            ap (λ (out : Bool). after_moves moves (hears_outside out (speaks_within w text) point link text w)) (none-out w kept point link) ∙ its.by;
      }
