-- What a link between the nodes does, act by act, is steps of a pair.
use Rattle.std.proofs.Common.{◌≡◌, ◌≢◌, ◌⊎◌, inl, inr, ℕ, Bool, true, false, List, [], ◌∷◌, Some, map, refl, ap, sym, ◌∙◌, subst, ⊎_elim}
use Rattle.std.proofs.lemmas.Bool.{cases_eq}
use Rattle.std.specs.Prelude.{if◌then◌else◌}
use Rattle.exchange_rules.specs.State.{Happening, CameUp, WentDown, FrameCame}
use Rattle.exchange_rules.specs.Exchange.{frame_to_take, taken}
use Rattle.exchange_rules.specs.Queues.{whole}
use Rattle.m2pa_codec.specs.Frames.{FrameValue}
use Rattle.sctp_rules.specs.State.{Told, Up, Heard, Down, Failed}
use Rattle.settings.specs.Configuration.{Configuration}
use Rattle.pair_rules.specs.Pairs.{PairState}
use Rattle.neighbour_rules.proofs.Sharing.{AreFacing}
use Rattle.node_rules.specs.Worlds.{Books, happened, handed_all, is_frame}
use Rattle.node_rules.proofs.Lines.{Ends}
use Rattle.node_rules.proofs.Flights.{Air, Flies, Shows, with_air, air-here, air-other, Reaches, by-none, reaches-on}
use Rattle.node_rules.proofs.PairSteps.{up-first, up-second}
use Rattle.node_rules.proofs.PairFrames.{data-comes, goes-out, status-comes}
use Rattle.node_rules.proofs.PairEvents.{went-down}
use Rattle.node_rules.proofs.Telling.{after_events, events_told}
use Rattle.node_rules.proofs.Acts.{Act, Leads, Follows, Comes, Falls, event_of, air_after, air_after_all, air_given, MayAct, MayActAll}

-- ---- what is in the air, link by link

module _ (c z : Configuration) (a : AreFacing c z) where
  pub shows-as : (near far : Books) (air air' : ℕ → ℕ → Air) (p : PairState) → ((i o : ℕ) → air i o ≡ air' i o) → Shows c z a near far air p
      → Shows c z a near far air' p
  shows-as near far air air' p e h = record {
    near_settings = h.near_settings;
    far_settings = h.far_settings;
    near_has = h.near_has;
    far_has = h.far_has;
    near_sized = h.near_sized;
    far_sized = h.far_sized;
    to_near = λ i o l. subst (λ (x : Air). Flies i p.near.incoming p.near.following x.to_near x.near_follows) (e i o) (h.to_near i o l);
    to_far = λ i o l. subst (λ (x : Air). Flies o p.far.incoming p.far.following x.to_far x.far_follows) (e i o) (h.to_far i o l);
    whole = h.whole;
  }

  pub reaches-as : (near far : Books) (air air' : ℕ → ℕ → Air) (p : PairState) → ((i o : ℕ) → air i o ≡ air' i o) → Reaches c z a near far air p
      → Reaches c z a near far air' p
  reaches-as near far air air' p e r = record { list = r.list; shows = shows-as near far air air' _ e r.shows }

twice : (k : ℕ) (x y : Air) (air : ℕ → ℕ → Air) (i o : ℕ) → with_air k y (with_air k x air) i o ≡ with_air k y air i o
twice k x y air i o =
    ⊎_elim
    (λ (e : i ≡ k). subst (λ (n : ℕ). with_air k y (with_air k x air) n o ≡ with_air k y air n o) (sym e) (air-here k y (with_air k x air) o ∙ sym (air-here k y air o)))
    (λ (d : i ≢ k). air-other k y (with_air k x air) i o d ∙ air-other k x air i o d ∙ sym (air-other k y air i o d))
    (cases_eq i k)

-- ---- books after events

abbrev pub happened_all : List Happening → Books → Books
happened_all [] b = b
happened_all (what ∷ more) b = happened_all more (happened what b)

pub handed-happened : (k : ℕ) (ts : List Told) (b : Books) → handed_all k ts b ≡ happened_all (events_told k ts) b
handed-happened k [] b = refl
handed-happened k (Up ∷ more) b = handed-happened k more (happened (CameUp k) b)
handed-happened k (Down why ∷ more) b = handed-happened k more (happened (WentDown k) b)
handed-happened k (Failed why ∷ more) b = handed-happened k more b
handed-happened k (Heard m ∷ more) b = by (is_frame m) (λ c. handed-happened k more c) where
  by : (f : Bool) → ((c : Books) → handed_all k more c ≡ happened_all (events_told k more) c)
      → handed_all k more (if f then happened (FrameCame k m.octets) b else b)
      ≡ happened_all (if f then FrameCame k m.octets ∷ events_told k more else events_told k more) b
  by true on = on (happened (FrameCame k m.octets) b)
  by false on = on b

pub happened-exchange : (list : List Happening) (b : Books) → (happened_all list b).exchange ≡ after_events list b.exchange
happened-exchange [] b = refl
happened-exchange (what ∷ more) b = happened-exchange more (happened what b)

-- ---- one link

module _ (c z : Configuration) (a : AreFacing c z) (k j : ℕ) (l : Ends c z a k j) (far : Books) (air : ℕ → ℕ → Air) where
  -- with this in the air on it
  abbrev pub ShowsAt : Books → Air → PairState → Type 0
  ShowsAt near x p = Shows c z a near far (with_air k x air) p

  abbrev pub ReachesAt : Books → Air → PairState → Type 0
  ReachesAt near x p = Reaches c z a near far (with_air k x air) p

  -- a step that leaves this in the air, from where that was
  pub leaves : (near : Books) (x y : Air) (p : PairState) → Reaches c z a near far (with_air k y (with_air k x air)) p → ReachesAt near y p
  leaves near x y p r = reaches-as c z a near far _ _ p (λ i o. twice k x y air i o) r

  here : (x : Air) → with_air k x air k j ≡ x
  here x = air-here k x air j

  -- what it leaves is said of what is in the air on that link
  leaves-by : (near : Books) (x : Air) (p : PairState) (change : Air → Air)
      → Reaches c z a near far (with_air k (change (with_air k x air k j)) (with_air k x air)) p → ReachesAt near (change x) p
  leaves-by near x p change r =
      leaves near x (change x) p (subst (λ (y : Air). Reaches c z a near far (with_air k (change y) (with_air k x air)) p) (here x) r)

  act-reaches : (act : Act) (near : Books) (x : Air) (p : PairState) → MayAct k j act near.exchange far.exchange x → ShowsAt near x p
      → ReachesAt (happened (event_of k act) near) (air_after act x) p
  act-reaches Leads near x p may h =
      leaves (happened (CameUp k) near) x (air_after Leads x) p (up-first c z a near far (with_air k x air) p h k j l may.0 may.1)
  act-reaches Follows near x p may h =
      leaves-by (happened (CameUp k) near) x p (air_after Follows)
      (up-second c z a near far (with_air k x air) p h k j l may.0 (ap (λ (y : Air). y.near_follows) (here x) ∙ may.1))
  act-reaches (Comes m rest) near x p may h = by may.0.stream where
    there : (with_air k x air k j).to_near ≡ m ∷ rest
    there = ap (λ (y : Air). y.to_near) (here x) ∙ may.1

    by : (m.stream ≡ 0) ⊎ (m.stream ≡ 1) → ReachesAt (happened (FrameCame k m.octets) near) (record x { to_near = rest }) p
    by (inl zero-is) =
        leaves-by (happened (FrameCame k m.octets) near) x p (air_after (Comes m rest)) (status-comes c z a near far (with_air k x air) p h k j l m rest there zero-is)
    by (inr one-is) =
        leaves-by (happened (FrameCame k m.octets) near) x p (air_after (Comes m rest)) (data-comes c z a near far (with_air k x air) p h k j l m rest there one-is)
  act-reaches Falls near x p may h = went-down c z a near far (with_air k x air) p h k

  pub acts-reach : (acts : List Act) (near : Books) (x : Air) (p : PairState) → MayActAll k j acts near.exchange far.exchange x → ShowsAt near x p
      → ReachesAt (happened_all (map (event_of k) acts) near) (air_after_all acts x) p
  acts-reach [] near x p may h = by-none c z a near far (with_air k x air) p h
  acts-reach (act ∷ acts) near x p may h =
      let near' : Books = happened (event_of k act) near in
      reaches-on c z a near' far (happened_all (map (event_of k) acts) near') far (with_air k (air_after act x) air) (with_air k (air_after_all acts (air_after act x)) air) p
      (act-reaches act near x p may.0 h) (λ s. acts-reach acts near' (air_after act x) _ may.1 s)

  -- a frame goes out
  pub frame-reaches : (frame : FrameValue) (near : Books) (x : Air) (p : PairState) → frame_to_take whole near.exchange k ≡ Some frame → ShowsAt near x p
      → ReachesAt (record near { exchange = taken whole near.exchange k }) (air_given frame x) p
  frame-reaches frame near x p next h =
      leaves-by (record near { exchange = taken whole near.exchange k }) x p (air_given frame)
      (goes-out c z a near far (with_air k x air) p h k j l frame next)
