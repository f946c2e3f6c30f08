-- Two that have only each other, after whatever steps: some steps of `pair_rules` lead to the same.
use Rattle.std.proofs.Common.{◌≡◌, ℕ, Bool, false, not, List, [], ◌∷◌, ◌++◌, Option, Some, None, refl, ap, sym, subst, ◌∙◌}
use Rattle.std.specs.Prelude.{slice_get}
use Rattle.std.proofs.lemmas.Bool.{eq-eqb}
use Rattle.std.proofs.lemmas.Option.{get_or_from_slice_get}
use Rattle.settings.specs.Configuration.{Configuration, LinkEntry}
use Rattle.settings.specs.Facing.{IsFacing}
use Rattle.exchange_rules.specs.Routing.{adjacent_of, entry_of}
use Rattle.exchange_rules.specs.State.{CameUp, FrameCame}
use Rattle.exchange_rules.proofs.FacingNodes.{peer-sole}
use Rattle.pair_rules.specs.Pairs as pairs
use Rattle.pair_rules.specs.Pairs.{PairState, Turn, first_pair, turned}
use Rattle.pair_rules.specs.Promises.{Always, AreJoined, BothWays}
use Rattle.pair_rules.specs.Sharing.{AreSharing}
use Rattle.neighbour_rules.specs.Neighbours.{Does, OpensElsewhere, HearsElsewhere, Step, AtNear, AtFar, after_steps, leads_elsewhere, leads_elsewhere_by, speaks_for_either, takes_elsewhere, turn}
use Rattle.neighbour_rules.proofs.Asked.{AreEnds, all-ends}
use Rattle.neighbour_rules.proofs.Special.{facing, is-special, joined-back, stands-alone}
use Rattle.neighbour_rules.proofs.Sharing.{AreFacing}
use Rattle.neighbour_rules.proofs.Standing.{Stands}
use Rattle.network_world.specs.Tells.{AreAlone}

-- ---- the links of two settings that face each other

module _ (c z : Configuration) (g : AreJoined c z) where
  abbrev none : LinkEntry
  none = record { name = []; set = 0; slc = 0; share = None }

  pub none-elsewhere : (link : ℕ) → leads_elsewhere_by c z (slice_get c.links link) ≡ false
  none-elsewhere link = by (slice_get c.links link) refl
    where
      by : (o : Option LinkEntry) → slice_get c.links link ≡ o → leads_elsewhere_by c z o ≡ false
      by None e = refl
      by (Some l) e =
          let same : entry_of c link ≡ l = get_or_from_slice_get c.links link l none e in
          let leads : adjacent_of c l.set ≡ z.own = ap (λ (x : LinkEntry). adjacent_of c x.set) (sym same) ∙ peer-sole c z.own g.facing.near_leads g.near_well link in
          ap not (eq-eqb (adjacent_of c l.set) z.own leads)

-- ---- steps

module _ (near far : Configuration) (g : AreJoined near far) where
  abbrev first : PairState
  first = first_pair near far

  pairs-more : (steps : List pairs.Step) (step : pairs.Step) (p : PairState) → pairs.after_steps (steps ++ step ∷ []) p ≡ (pairs.turn step (pairs.after_steps steps p)).left
  pairs-more [] step p = refl
  pairs-more (one ∷ steps) step p = pairs-more steps step (pairs.turn one p).left

  -- no link leads elsewhere, seen from either end
  none-there : (c z : Configuration) (f : AreFacing c z) (p : PairState) → AreJoined c z → Stands c z f p → (link : ℕ) → leads_elsewhere p link ≡ false
  none-there c z f p j s link =
      ap (λ (x : Configuration). leads_elsewhere_by x p.far.exchange.settings (slice_get x.links link)) s.near_settings
      ∙ ap (λ (y : Configuration). leads_elsewhere_by c y (slice_get c.links link)) s.far_settings
      ∙ none-elsewhere c z j link

  abbrev stood : List pairs.Step → PairState
  stood done = pairs.after_steps done first

  near-none : (done : List pairs.Step) (link : ℕ) → leads_elsewhere (stood done) link ≡ false
  near-none done link = none-there near far (facing near far g) (stood done) g (stands-alone near far g done) link

  far-none : (done : List pairs.Step) (link : ℕ) → leads_elsewhere (turned (stood done)) link ≡ false
  far-none done link =
      let s : Stands near far (facing near far g) (stood done) = stands-alone near far g done in
      ap (λ (x : Configuration). leads_elsewhere_by x (stood done).near.exchange.settings (slice_get x.links link)) s.far_settings
      ∙ ap (λ (y : Configuration). leads_elsewhere_by far y (slice_get far.links link)) s.near_settings
      ∙ none-elsewhere far near (joined-back near far g) link

  record IsPaired (p : PairState) : Type 0 where
    steps : List pairs.Step
    same : p ≡ stood steps

  -- one step more of either kind
  one-more : (done : List pairs.Step) (step : Step) → IsPaired (turn step (stood done)).left
  one-more done (AtNear (Does what)) = record {
    steps = done ++ pairs.AtNear what ∷ [];
    same = ap (λ (t : Turn). t.left) ((is-special near far done g).turns_alike (pairs.AtNear what)) ∙ sym (pairs-more done (pairs.AtNear what) first);
  }
  one-more done (AtFar (Does what)) = record {
    steps = done ++ pairs.AtFar what ∷ [];
    same = ap (λ (t : Turn). t.left) ((is-special near far done g).turns_alike (pairs.AtFar what)) ∙ sym (pairs-more done (pairs.AtFar what) first);
  }
  one-more done (AtNear (OpensElsewhere link)) =
      record { steps = done; same = ap (λ (b : Bool). (takes_elsewhere b false (CameUp link) (stood done)).left) (near-none done link) }
  one-more done (AtFar (OpensElsewhere link)) =
      record { steps = done; same = ap (λ (b : Bool). turned (takes_elsewhere b false (CameUp link) (turned (stood done))).left) (far-none done link) }
  one-more done (AtNear (HearsElsewhere link text)) =
      record { steps = done; same = ap (λ (b : Bool). (takes_elsewhere b (speaks_for_either (stood done) text) (FrameCame link text) (stood done)).left) (near-none done link) }
  one-more done (AtFar (HearsElsewhere link text)) = record {
    steps = done;
    same = ap (λ (b : Bool). turned (takes_elsewhere b (speaks_for_either (turned (stood done)) text) (FrameCame link text) (turned (stood done))).left) (far-none done link);
  }

  all-paired : (steps : List Step) (p : PairState) → IsPaired p → IsPaired (after_steps steps p)
  all-paired [] p h = h
  all-paired (step ∷ steps) p h =
      all-paired steps (turn step p).left (subst (λ (q : PairState). IsPaired (turn step q).left) (sym h.same) (one-more h.steps step))

  paired : (steps : List Step) → IsPaired (after_steps steps first)
  paired steps = all-paired steps first (record { steps = []; same = refl })

-- two that some steps led to, from settings that share a link set
pub record IsReached (p : PairState) : Type 0 where
  pub near : Configuration
  pub far : Configuration
  pub sharing : AreSharing near far
  pub steps : List Step
  pub by : p ≡ after_steps steps (first_pair near far)

-- so it is of two of those that have only each other
pub record IsAlone (p : PairState) : Type 0 where
  pub near : Configuration
  pub far : Configuration
  pub joined : AreJoined near far
  pub steps : List pairs.Step
  pub by : p ≡ pairs.after_steps steps (first_pair near far)

pub reached-alone : (p : PairState) → IsReached p → AreAlone p → IsAlone p
reached-alone p r a =
    let ends : AreEnds r.near r.far (after_steps r.steps (first_pair r.near r.far)) = all-ends r.near r.far r.steps in
    let same_near : p.near.exchange.settings ≡ r.near = ap (λ (q : PairState). q.near.exchange.settings) r.by ∙ ends.near_is.exchange.settings in
    let same_far : p.far.exchange.settings ≡ r.far = ap (λ (q : PairState). q.far.exchange.settings) r.by ∙ ends.far_is.exchange.settings in
    let joined : AreJoined r.near r.far = record {
      near_well = r.sharing.near_well;
      far_well = r.sharing.far_well;
      facing = subst (λ (x : Configuration). IsFacing x r.far) same_near (subst (λ (y : Configuration). IsFacing p.near.exchange.settings y) same_far a);
    } in
    let h : IsPaired r.near r.far joined (after_steps r.steps (first_pair r.near r.far)) = paired r.near r.far joined r.steps in
    record { near = r.near; far = r.far; joined = joined; steps = h.steps; by = r.by ∙ h.same }

-- what holds after every list of steps of two that have only each other, holds of these
pub alone-always : (Statement : PairState → Type 0) → Always (λ p. BothWays Statement p) → (p : PairState) → IsAlone p → BothWays Statement p
alone-always Statement always p a = subst (BothWays Statement) (sym a.by) (always a.near a.far a.steps a.joined)
