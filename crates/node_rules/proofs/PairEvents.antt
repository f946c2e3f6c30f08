-- What happens to an exchange but comes over no link between the nodes: steps of a pair, with the same in the air.
use Rattle.std.proofs.Common.{◌≡◌, ◌<◌, ℕ, Bool, true, false, not, List, [], ◌++◌, Option, Some, None, length, refl, ap, sym, ◌∙◌, subst, append-nil}
use Rattle.std.specs.Prelude.{slice_get}
use Rattle.signalling_types.specs.Message.{Message}
use Rattle.settings.specs.Configuration.{Configuration, LinkEntry}
use Rattle.exchange_rules.specs.Routing.{peer_of}
use Rattle.exchange_rules.proofs.FacingNodes.{peer-sole}
use Rattle.std.proofs.lemmas.Bool.{eq-eqb}
use Rattle.std.proofs.lemmas.Option.{slice_get-get_or, slice_get_within}
use Rattle.m2pa_codec.specs.Frames.{FrameValue}
use Rattle.exchange_rules.specs.State.{Happening, CameUp, WentDown, FrameCame, Ticked, Submitted, Activated, Deactivated, Released, TitleAdded, TitleSet, TitleRemoved}
use Rattle.exchange_rules.specs.Exchange.{after, frame_to_take, taken}
use Rattle.exchange_rules.specs.First.{Abstract}
use Rattle.exchange_rules.specs.Queues.{whole}
use Rattle.exchange_rules.specs.Conserving.{brought_in}
use Rattle.pair_rules.specs.Pairs as pairs
use Rattle.pair_rules.specs.Promises.{AreJoined}
use Rattle.pair_rules.specs.Pairs.{Turn, happens, PairState}
use Rattle.neighbour_rules.specs.Neighbours.{Does, did, OpensElsewhere, HearsElsewhere, far_end, leads_elsewhere, leads_elsewhere_by, speaks_for_either, take_frame, takes_elsewhere, takes_in}
use Rattle.neighbour_rules.proofs.Sharing.{AreFacing}
use Rattle.node_rules.specs.Worlds.{Books, happened, happened_elsewhere, left_by, carried, IsOwn, MayBring}
use Rattle.node_rules.proofs.Lines.{no-far-end}
use Rattle.node_rules.proofs.Whole.{AreBooked, IsWhole, whole-did}
use Rattle.node_rules.proofs.Flights.{Air, Shows, Reaches, by-one, by-none}
use Rattle.node_rules.proofs.PairSteps.{nothing-booked, away-is, far_end-is, has-after, has-submitted, has-taken, other-is, speaks-is}

-- between nodes that have only each other no link leads elsewhere
pub not-alone : (c z : Configuration) (k : ℕ) → leads_elsewhere_by c z (slice_get c.links k) ≡ true → AreJoined c z → ⊥
not-alone c z k e g = by (slice_get c.links k) refl where
  by : (o : Option LinkEntry) → slice_get c.links k ≡ o → ⊥
  by None f = (let no : true ≡ false = sym e ∙ ap (leads_elsewhere_by c z) f in absurd cc)
  by (Some l) f =
      let there : k < length c.links = slice_get_within c.links k l f in
      let no : true ≡ false =
      sym e ∙ ap (leads_elsewhere_by c z) (slice_get-get_or c.links k (record { name = []; set = 0; slc = 0; share = None }) there)
      ∙ ap not (eq-eqb (peer_of c k) z.own (peer-sole c z.own g.facing.near_leads g.near_well k)) in
      absurd cc

module _ (c z : Configuration) (a : AreFacing c z) (near far : Books) (air : ℕ → ℕ → Air) (p : PairState) (h : Shows c z a near far air p) where
  -- ---- what brings nothing in

  plainly : (what : Happening) → brought_in what near.exchange ≡ [] → carried what near.exchange ≡ []
      → (AreJoined c z → IsWhole c z (happened what near) far (happens what p).left) → Shows c z a (happened what near) far air (happens what p).left
  plainly what b x whole = record {
    near_settings = h.near_settings;
    far_settings = h.far_settings;
    near_has = has-after c.own z.own near p.near h.near_has what b x p.near.incoming p.near.following;
    far_has = h.far_has;
    near_sized = h.near_sized;
    far_sized = h.far_sized;
    to_near = h.to_near;
    to_far = h.to_far;
    whole = whole;
  }

  -- a pair of `pair_rules` books nothing
  plain-whole : (doing : pairs.Doing) (what : Happening) → did (Does doing) p ≡ happens what p → pairs.did doing p ≡ happens what p → brought_in what near.exchange ≡ []
      → carried what near.exchange ≡ [] → AreJoined c z → IsWhole c z (happened what near) far (happens what p).left
  plain-whole doing what e f n m g =
      let b : AreBooked near far p = (h.whole g).booked in
      let nothing : AreBooked (happened what near) far p = nothing-booked near far p what n m b in
      whole-did c z g near far p (h.whole g) doing (happened what near) (happens what p).left (ap (λ (t : Turn). t.left) e)
      (subst (λ (t : Turn). AreBooked (happened what near) far t.left) (sym f)
      (record { near_accepted = nothing.near_accepted; near_received = nothing.near_received; far_accepted = nothing.far_accepted; far_received = nothing.far_received }))

  by-plain : (doing : pairs.Doing) (what : Happening) → did (Does doing) p ≡ happens what p → pairs.did doing p ≡ happens what p → brought_in what near.exchange ≡ []
      → carried what near.exchange ≡ [] → Reaches c z a (happened what near) far air p
  by-plain doing what e f n m =
      by-one c z a (happened what near) far air (Does doing) p
      (subst (λ (t : Turn). Shows c z a (happened what near) far air t.left) (sym e) (plainly what n m (plain-whole doing what e f n m)))

  pub went-down : (k : ℕ) → Reaches c z a (happened (WentDown k) near) far air p
  went-down k = by-plain (pairs.Loses k) (WentDown k) refl refl refl refl

  -- ---- what isn't of links

  pub own-happens : (what : Happening) → IsOwn what → Reaches c z a (happened what near) far air p
  own-happens Ticked own = by-plain pairs.Ticks Ticked refl refl refl refl
  own-happens (Submitted m) own = by-one c z a _ far air (Does (pairs.Submits m)) p (record {
    near_settings = h.near_settings;
    far_settings = h.far_settings;
    near_has = has-submitted c.own z.own near p.near h.near_has m p.far.exchange.settings.own (other-is c z a near far air p h);
    far_has = h.far_has;
    near_sized = h.near_sized;
    far_sized = h.far_sized;
    to_near = h.to_near;
    to_far = h.to_far;
    whole = λ g.
        let b : AreBooked near far p = (h.whole g).booked in
        whole-did c z g near far p (h.whole g) (pairs.Submits m) (happened (Submitted m) near) (did (Does (pairs.Submits m)) p).left refl
        (record {
          near_accepted = ap (λ (x : Abstract). near.accepted ++ brought_in (Submitted m) x) h.near_has.exchange
              ∙ ap (λ (ms : List Message). ms ++ brought_in (Submitted m) p.near.exchange) b.near_accepted;
          near_received = append-nil near.received ∙ b.near_received;
          far_accepted = b.far_accepted;
          far_received = b.far_received;
        });
  })
  own-happens (Activated link emergency) own = by-plain (pairs.Activates link emergency) (Activated link emergency) refl refl refl refl
  own-happens (Deactivated link) own = by-plain (pairs.Deactivates link) (Deactivated link) refl refl refl refl
  own-happens (Released link) own = by-plain (pairs.Releases link) (Released link) refl refl refl refl
  own-happens (TitleAdded row refused) own = by-plain (pairs.AddsTitle row refused) (TitleAdded row refused) refl refl refl refl
  own-happens (TitleSet row refused) own = by-plain (pairs.SetsTitle row refused) (TitleSet row refused) refl refl refl refl
  own-happens (TitleRemoved key digits) own = by-plain (pairs.RemovesTitle key digits) (TitleRemoved key digits) refl refl refl refl
  own-happens (CameUp link) own = absurd own
  own-happens (WentDown link) own = absurd own
  own-happens (FrameCame link text) own = absurd own

  -- ---- on a link that leads elsewhere

  takes-shows : (what : Happening) → (AreJoined c z → ⊥) → Shows c z a (happened_elsewhere what near) far air (takes_in what p).left
  takes-shows what other = record {
    near_settings = h.near_settings;
    far_settings = h.far_settings;
    near_has = has-taken c.own z.own near p.near h.near_has what p.far.exchange.settings.own (other-is c z a near far air p h);
    far_has = h.far_has;
    near_sized = h.near_sized;
    far_sized = h.far_sized;
    to_near = h.to_near;
    to_far = h.to_far;
    whole = λ g. absurd (other g);
  }

  takes-it : (what : Happening) (elsewhere speaks : Bool) → elsewhere ≡ true → speaks ≡ false → (takes_elsewhere elsewhere speaks what p).left ≡ (takes_in what p).left
  takes-it what elsewhere speaks e f =
      ap (λ (b : Bool). (takes_elsewhere b speaks what p).left) e ∙ ap (λ (b : Bool). (takes_elsewhere true b what p).left) f

  pub brings : (what : Happening) → MayBring c z what → Reaches c z a (happened_elsewhere what near) far air p
  brings (CameUp k) may =
      by-one c z a _ far air (OpensElsewhere k) p
      (subst (Shows c z a (happened_elsewhere (CameUp k) near) far air) (sym (takes-it (CameUp k) (leads_elsewhere p k) false (away-is c z a near far air p h k may) refl)) (takes-shows (CameUp k) (not-alone c z k may)))
  brings (FrameCame k text) may =
      by-one c z a _ far air (HearsElsewhere k text) p
      (subst (Shows c z a (happened_elsewhere (FrameCame k text) near) far air)
      (sym (takes-it (FrameCame k text) (leads_elsewhere p k) (speaks_for_either p text) (away-is c z a near far air p h k may.0) (speaks-is c z a near far air p h text may.1)))
      (takes-shows (FrameCame k text) (not-alone c z k may.0)))
  brings (WentDown k) may = by-one c z a _ far air (Does (pairs.Loses k)) p (record {
    near_settings = h.near_settings;
    far_settings = h.far_settings;
    near_has = record { exchange = ap (after whole (WentDown k)) h.near_has.exchange; accepted = (has-after c.own z.own near p.near h.near_has (WentDown k) refl refl p.near.incoming p.near.following).accepted; received = h.near_has.received };
    far_has = h.far_has;
    near_sized = h.near_sized;
    far_sized = h.far_sized;
    to_near = h.to_near;
    to_far = h.to_far;
    whole = λ g. absurd (not-alone c z k may g);
  })
  brings Ticked may = absurd may
  brings (Submitted m) may = absurd may
  brings (Activated link emergency) may = absurd may
  brings (Deactivated link) may = absurd may
  brings (Released link) may = absurd may
  brings (TitleAdded row refused) may = absurd may
  brings (TitleSet row refused) may = absurd may
  brings (TitleRemoved key digits) may = absurd may

  -- a frame goes elsewhere
  gone-shows : (k : ℕ) (frame : FrameValue) → (AreJoined c z → ⊥) → Shows c z a (left_by k (Some frame) near) far air (take_frame (Some frame) k None p).left
  gone-shows k frame other = record {
    near_settings = h.near_settings;
    far_settings = h.far_settings;
    near_has = record { exchange = ap (λ (x : Abstract). taken whole x k) h.near_has.exchange; accepted = h.near_has.accepted; received = h.near_has.received };
    far_has = h.far_has;
    near_sized = h.near_sized;
    far_sized = h.far_sized;
    to_near = h.to_near;
    to_far = h.to_far;
    whole = λ g. absurd (other g);
  }

  pub goes-elsewhere : (k : ℕ) → leads_elsewhere_by c z (slice_get c.links k) ≡ true → Reaches c z a (left_by k (frame_to_take whole near.exchange k) near) far air p
  goes-elsewhere k away = by (frame_to_take whole near.exchange k) refl where
    by : (o : Option FrameValue) → frame_to_take whole near.exchange k ≡ o → Reaches c z a (left_by k o near) far air p
    by None e = by-none c z a near far air p h
    by (Some frame) e =
        let is : frame_to_take whole p.near.exchange k ≡ Some frame = ap (λ (x : Abstract). frame_to_take whole x k) (sym h.near_has.exchange) ∙ e in
        let end : far_end p k ≡ None = far_end-is c z a near far air p h k None (no-far-end c z a k away) in
        by-one c z a (left_by k (Some frame) near) far air (Does (pairs.Takes k)) p
        (subst (Shows c z a (left_by k (Some frame) near) far air)
        (ap (λ (o : Option FrameValue). (take_frame o k None p).left) (sym is) ∙ ap (λ (o : Option ℕ). (take_frame (frame_to_take whole p.near.exchange k) k o p).left) (sym end))
        (gone-shows k frame (not-alone c z k away)))
