-- Each step of a pair goes by moves.
use Rattle.exchange_rules.specs.State.{Reroutings}
use Rattle.exchange_rules.specs.Reroutings.{first_reroutings}
use Rattle.pair_rules.proofs.Basics.{◌≡◌, ◌≢◌, ◌<◌, ℕ, Bool, List, [], ◌∷◌, ◌++◌, length, Option, Some, None, Ok, refl, ap, sym, subst, ◌∙◌, drop, slice_get, slice_set, take, ⊎_elim, cases_eq}
use Rattle.pair_rules.proofs.Definitions.{Message, Outcome, Configuration, FrameValue, EmptyFrame, MessageFrame, StatusFrame, spelled, read_frame, Node, Happening, FrameCame, Submitted, WholeQueues, whole, whither_goes, apply, handle_event, frame_to_take, after_take, frame_taken, done-waits, PairState, Streams, change_statuses, in_flight, may_follow, brought_in, brought_to, new_message}
use Rattle.std.specs.Prelude.{map}
use Rattle.exchange_rules.proofs.Settling.{take-waits}
use Rattle.pair_rules.specs.Pairs as pairs
use Rattle.pair_rules.proofs.World.{Flying, World, turned_world}
use Rattle.pair_rules.proofs.Good.{Each, IsTelling, each-behind}
use Rattle.pair_rules.proofs.Going.{goes-both}
use Rattle.pair_rules.proofs.Standing.{AreStreams, AreTexts, end_with, rests, world_of}
use Rattle.pair_rules.proofs.Flights.{IsFirst, changed-here, changed-other, changed_at, first-frame, map-behind, tells-back, texts-changed}
use Rattle.pair_rules.proofs.Steps.{taken-there}
use Rattle.m2pa_codec.proofs.FrameTexts.{read_frame-spelled}
use Rattle.neighbour_rules.specs.Neighbours.{deliver_frame_for, end_there, far_end, take_frame, takes_in_for, users_to}
use Rattle.neighbour_rules.proofs.World.{reading}
use Rattle.neighbour_rules.proofs.Good.{AreFlying, Good, IsFlying, Joint, Passes, at, set}
use Rattle.neighbour_rules.proofs.Good as good
use Rattle.neighbour_rules.proofs.Bringing.{accepting}
use Rattle.neighbour_rules.proofs.Events.{submitting-passes}
use Rattle.neighbour_rules.proofs.Adjacents.{event-knows, take-knows}
use Rattle.neighbour_rules.proofs.Sharing.{AreFacing, far_joint, near_joint}
use Rattle.neighbour_rules.proofs.FarEnds.{HasEnd, IsLine, has-end, is-line, its-far, none-there, of-no-set}
use Rattle.neighbour_rules.proofs.FarEnds as ends
use Rattle.neighbour_rules.proofs.Taking.{Adds, AddsStatus, Fetches, FetchesStatus, away-takes, take-passes}
use Rattle.neighbour_rules.proofs.Untold.{IsUntoldBy}
use Rattle.neighbour_rules.proofs.Arriving.{IsNext, data-comes, status-comes, status-lost, status-twice}
use Rattle.neighbour_rules.proofs.Standing.{IsAway, IsQuiet, Stands, near-stands}

-- ---- what becomes of an event is what its rule says

pub outcome-same : (c : Configuration) (what : Happening) (n : Node WholeQueues) → (apply whole c what n).outcome ≡ (handle_event whole c what n).outcome
unfolding apply
outcome-same c what n = refl

-- a frame that flies reads back
pub flies-back : (c z : Configuration) (there its : ℕ) (frame : FrameValue) → IsFlying c z there its frame → read_frame (spelled frame) ≡ Ok frame
flies-back c z there its _ (good.empty bsn fsn s) = read_frame-spelled (EmptyFrame bsn fsn) s
flies-back c z there its _ (good.carrying bsn fsn sio sif s b bound) = read_frame-spelled (MessageFrame bsn fsn sio sif) s

-- ---- a link with frames in flight is one between the two

module _ (c z : Configuration) (a : AreFacing c z) where
  abbrev j : Joint c z
  j = near_joint c z a

  abbrev k : Joint z c
  k = far_joint c z a

  abbrev far_of : (link : ℕ) → Option ℕ
  far_of link = end_there c z (slice_get c.links link)

  pub record HasLine (link : ℕ) : Type 0 where
    pub other : ℕ
    pub is : far_of link ≡ Some other
    pub line : IsLine c z j link other

  has-line : (link : ℕ) (xs : List FrameValue) (frame : FrameValue) (rest : List FrameValue) → xs ≡ frame ∷ rest → (IsAway c z link → xs ≡ []) → HasLine link
  has-line link xs frame rest e none = by (far_of link) refl
    where
      by : (o : Option ℕ) → far_of link ≡ o → HasLine link
      by None f = (let no : frame ∷ rest ≡ [] = sym e ∙ none f in absurd cc)
      by (Some other) f = record { other = other; is = f; line = is-line c z j link other f }

  unlike : (k link other : ℕ) → IsAway c z k → far_of link ≡ Some other → k ≢ link
  unlike k link other away e same = (let no : None ≡ Some other = sym away ∙ ap far_of same ∙ e in absurd cc)

  -- on other links nothing changes
  still-quiet : (f g : Flying) (link other : ℕ) → far_of link ≡ Some other → ((k : ℕ) → IsAway c z k → IsQuiet f k) → ((k : ℕ) → k ≢ link → g.user_data k ≡ f.user_data k)
      → ((k : ℕ) → k ≢ link → g.statuses k ≡ f.statuses k) → (k : ℕ) → IsAway c z k → IsQuiet g k
  still-quiet f g link other e quiet heard told k away = record {
    user_data = heard k (unlike k link other away e) ∙ (quiet k away).user_data;
    statuses = told k (unlike k link other away e) ∙ (quiet k away).statuses;
  }

  -- ---- what is done at the near end

  module _ (n m : Node WholeQueues) (nb fb : Reroutings) (ni fi : Streams) (nv fv : List Bool) (na nr fa fr : List Message) where
    abbrev p : PairState
    p = record { near = end_with c n nb ni nv na nr; far = end_with z m fb fi fv fa fr }

    -- a user part hands a message over
    pub submit-stands : (message : Message) → Stands c z a p → Stands c z a (takes_in_for a.base.there (Submitted message) p).left
    submit-stands message s =
        let w : World = world_of p s.to_near s.to_far in
        let known : brought_to (whither_goes c message) (handle_event whole c (Submitted message) n).outcome c message n ≡ brought_in (Submitted message) p.near.exchange =
        ap (λ (o : Outcome). brought_to (whither_goes c message) o c message n) (sym (outcome-same c (Submitted message) n)) in
        near-stands c z a n m nb fb ni fi nv fv na nr fa fr s (apply whole c (Submitted message) n).left ni (na ++ users_to a.base.there (brought_in (Submitted message) p.near.exchange)) nr s.to_near
        (done-waits (Submitted message) (record { settings = c; node = n; reroutings = first_reroutings c })) (event-knows c (Submitted message) n s.near_knows) s.near_texts s.near_quiet
        (subst (λ (ms : List Message). Passes c z j (at c z j w n [] []) (at c z j (accepting c z j w ms) (apply whole c (Submitted message) n).left [] [])) known
        (submitting-passes c z j message w n s.near_waits))

    -- ---- a frame is fetched

    -- the world as the far end sees it, once the near end is o and this is in flight to the far end
    abbrev seen_there : Flying → Flying → Node WholeQueues → World
    seen_there to_near to_far o = record {
      near = rests p.far;
      far = rests (end_with c o nb ni nv na nr);
      to_near = to_far;
      to_far = to_near;
      near_may = λ other. may_follow p.far other;
      far_may = λ other. may_follow p.near other;
    }

    far-good : (f g h : Flying) (o : Node WholeQueues) → Good z c k (turned_world (world_of p h g)) → AreFlying c z a.base.there a.near_set f → Good z c k (seen_there h f o)
    far-good f g h o d flying = record {
      fits = d.fits;
      route = d.route;
      settled = d.settled;
      silent = d.silent;
      queued = d.queued;
      elsewhere = d.elsewhere;
      held = d.held;
      loose = d.loose;
      arrived = d.arrived;
      coming = flying;
      counted = d.counted;
    }

    -- one more that flies
    one-more : (P : FrameValue → Type 0) (other : ℕ) (g : ℕ → List FrameValue) (frame : FrameValue) → ((i : ℕ) → Each P (g i)) → P frame → (i : ℕ) → Each P (changed_at other (g other ++ frame ∷ []) g i)
    one-more P other g frame each flies i =
        ⊎_elim
        (λ (same : i ≡ other).
        subst (λ (x : ℕ). Each P (changed_at other (g other ++ frame ∷ []) g x)) (sym same)
        (subst (Each P) (sym (changed-here other (g other ++ frame ∷ []) g)) (each-behind P (g other) (frame ∷ []) (each other) (flies, tt))))
        (λ (d : i ≢ other). subst (Each P) (sym (changed-other other (g other ++ frame ∷ []) g i d)) (each i))
        (cases_eq i other)

    one-more-text : (texts : List (List (List ℕ))) (g : ℕ → List FrameValue) (other : ℕ) (frame : FrameValue) → AreTexts z texts g → other < length z.links
        → AreTexts z (slice_set texts other (in_flight texts other ++ spelled frame ∷ [])) (changed_at other (g other ++ frame ∷ []) g)
    one-more-text texts g other frame t l =
        texts-changed z texts g other (in_flight texts other ++ spelled frame ∷ []) (g other ++ frame ∷ []) t l
        (ap (λ (ts : List (List ℕ)). ts ++ spelled frame ∷ []) (t.each other) ∙ map-behind (g other) frame)

    abbrev put : (other : ℕ) → FrameValue → (ℕ → List FrameValue) → ℕ → List FrameValue
    put other frame g = changed_at other (g other ++ frame ∷ []) g

    abbrev fetched_pair : Streams → ℕ → PairState
    fetched_pair incoming link = record { near = end_with c (after_take whole c link n) nb ni nv na nr; far = end_with z m fb incoming fv fa fr }

    there : (link : ℕ) (frame : FrameValue) → Stands c z a p → frame_taken whole c link n ≡ Some frame → link < length c.links
    there link frame s e = subst (λ (i : ℕ). link < i) s.near_good.fits.places.parts.links (taken-there c link n frame e)

    -- the far end's link isn't one that leads elsewhere
    module _ (link other : ℕ) (line : IsLine c z j link other) where
      back : end_there z c (slice_get z.links other) ≡ Some link
      back = its-far z c k other link (ends.ends-turned c z a.near_set a.far_set link other line)

      unlike-there : (i : ℕ) → IsAway z c i → i ≢ other
      unlike-there i away same = (let no : None ≡ Some link = sym away ∙ ap (λ (x : ℕ). end_there z c (slice_get z.links x)) same ∙ back in absurd cc)

      data-fetched : (frame : FrameValue) (s : Stands c z a p) → Fetches c z j (world_of p s.to_near s.to_far) link other line (put other frame s.to_far.user_data) frame n (after_take whole c link n)
          → Stands c z a (fetched_pair (pairs.behind_data (spelled frame) other fi) link)
      data-fetched frame s x =
          let g : ℕ → List FrameValue = s.to_far.user_data in
          let f : Flying = record s.to_far { user_data = put other frame g } in
          record {
            near_settings = refl;
            far_settings = refl;
            near_waits = take-waits c link n s.near_waits;
            far_waits = s.far_waits;
            near_knows = take-knows c link n s.near_knows;
            far_knows = s.far_knows;
            to_near = s.to_near;
            to_far = f;
            near_texts = s.near_texts;
            far_texts = record { statuses = s.far_texts.statuses; user_data = one-more-text fi.user_data g other frame s.far_texts.user_data line.there };
            near_flags = s.near_flags;
            far_flags = s.far_flags;
            near_quiet = s.near_quiet;
            far_quiet = λ i away. record {
              user_data = changed-other other (g other ++ frame ∷ []) g i (unlike-there i away) ∙ (s.far_quiet i away).user_data;
              statuses = (s.far_quiet i away).statuses;
            };
            near_alone = s.near_alone;
            far_alone = s.far_alone;
            near_good = x.passes.good s.near_good;
            far_good = far-good f s.to_far s.to_near (after_take whole c link n) s.far_good
                (record { statuses = s.far_good.coming.statuses; user_data = one-more (IsFlying c z a.base.there a.near_set) other g frame s.far_good.coming.user_data (x.flies s.near_good s.near_knows.bound) });
            goes = goes-both (reading c.own z.own a.base) _ _ _ s.goes (x.passes.goes s.near_good);
          }

      status-fetched : (frame : FrameValue) (s : Stands c z a p) → FetchesStatus c z j (world_of p s.to_near s.to_far) link other line (put other frame s.to_far.statuses) frame n (after_take whole c link n)
          → Stands c z a (fetched_pair (pairs.behind_statuses (spelled frame) other fi) link)
      status-fetched frame s x =
          let g : ℕ → List FrameValue = s.to_far.statuses in
          let f : Flying = record s.to_far { statuses = put other frame g } in
          record {
            near_settings = refl;
            far_settings = refl;
            near_waits = take-waits c link n s.near_waits;
            far_waits = s.far_waits;
            near_knows = take-knows c link n s.near_knows;
            far_knows = s.far_knows;
            to_near = s.to_near;
            to_far = f;
            near_texts = s.near_texts;
            far_texts = record { statuses = one-more-text fi.statuses g other frame s.far_texts.statuses line.there; user_data = s.far_texts.user_data };
            near_flags = s.near_flags;
            far_flags = s.far_flags;
            near_quiet = s.near_quiet;
            far_quiet = λ i away. record {
              user_data = (s.far_quiet i away).user_data;
              statuses = changed-other other (g other ++ frame ∷ []) g i (unlike-there i away) ∙ (s.far_quiet i away).statuses;
            };
            near_alone = s.near_alone;
            far_alone = s.far_alone;
            near_good = x.passes.good s.near_good;
            far_good = far-good f s.to_far s.to_near (after_take whole c link n) s.far_good
                (record { statuses = one-more IsTelling other g frame s.far_good.coming.statuses x.tells; user_data = s.far_good.coming.user_data });
            goes = goes-both (reading c.own z.own a.base) _ _ _ s.goes (x.passes.goes s.near_good);
          }

      adds : (frame : FrameValue) (s : Stands c z a p) → Adds c z j (world_of p s.to_near s.to_far) link other line frame (put other frame s.to_far.user_data)
      adds frame s = record {
        here = changed-here other (s.to_far.user_data other ++ frame ∷ []) s.to_far.user_data;
        others = changed-other other (s.to_far.user_data other ++ frame ∷ []) s.to_far.user_data;
      }

      adds-status : (frame : FrameValue) (s : Stands c z a p) → AddsStatus c z j (world_of p s.to_near s.to_far) link other line frame (put other frame s.to_far.statuses)
      adds-status frame s = record {
        here = changed-here other (s.to_far.statuses other ++ frame ∷ []) s.to_far.statuses;
        others = changed-other other (s.to_far.statuses other ++ frame ∷ []) s.to_far.statuses;
      }

      fetched-stands : (frame : FrameValue) (s : Stands c z a p) → frame_taken whole c link n ≡ Some frame → Stands c z a (take_frame (Some frame) link (Some other) p).left
      fetched-stands (EmptyFrame bsn fsn) s e =
          let frame : FrameValue = EmptyFrame bsn fsn in
          data-fetched frame s (take-passes c z j (world_of p s.to_near s.to_far) link other line (put other frame s.to_far.user_data) n frame e (adds frame s))
      fetched-stands (MessageFrame bsn fsn sio sif) s e =
          let frame : FrameValue = MessageFrame bsn fsn sio sif in
          data-fetched frame s (take-passes c z j (world_of p s.to_near s.to_far) link other line (put other frame s.to_far.user_data) n frame e (adds frame s))
      fetched-stands (StatusFrame bsn fsn status) s e =
          let frame : FrameValue = StatusFrame bsn fsn status in
          status-fetched frame s (take-passes c z j (world_of p s.to_near s.to_far) link other line (put other frame s.to_far.statuses) n frame e (adds-status frame s))

    away-fetched : (link : ℕ) (frame : FrameValue) → Stands c z a p → frame_taken whole c link n ≡ Some frame → IsAway c z link → Stands c z a (take_frame (Some frame) link None p).left
    away-fetched link frame s e away =
        near-stands c z a n m nb fb ni fi nv fv na nr fa fr s (after_take whole c link n) ni na nr s.to_near (take-waits c link n s.near_waits) (take-knows c link n s.near_knows) s.near_texts s.near_quiet
        (away-takes c z j (world_of p s.to_near s.to_far) link n (of-no-set c z j link away (there link frame s e)))

    pub take-stands : (link : ℕ) → Stands c z a p → Stands c z a (take_frame (frame_to_take whole p.near.exchange link) link (far_end p link) p).left
    take-stands link s = by (frame_taken whole c link n) (far_of link) refl refl
      where
        by : (o : Option FrameValue) (other : Option ℕ) → frame_taken whole c link n ≡ o → far_of link ≡ other → Stands c z a (take_frame o link other p).left
        by None other e f = s
        by (Some frame) None e f = away-fetched link frame s e f
        by (Some frame) (Some other) e f = fetched-stands link other (is-line c z j link other f) frame s e

    -- ---- a frame comes

    first-of : (xs : ℕ → List FrameValue) (link : ℕ) (texts : List (List ℕ)) (text : List ℕ) (first : IsFirst (xs link) texts text) (h : HasLine link)
        → IsNext c z j xs (changed_at link first.rest xs) link first.frame
    first-of xs link texts text first h = record {
      rest = first.rest;
      first = first.first;
      here = changed-here link first.rest xs;
      others = changed-other link first.rest xs;
      inside = h.line.here;
      its = h.line.of_set;
    }

    pub deliver-stands : (link : ℕ) → ((text : List ℕ) → slice_get (in_flight ni.user_data link) 0 ≡ Some text → (m : Message) → new_message link text p.near.exchange ≡ Some m → IsUntoldBy c z j m) → Stands c z a p → Stands c z a (deliver_frame_for a.base.there a.base.back (slice_get (in_flight ni.user_data link) 0) link (pairs.without_data link ni) p).left
    deliver-stands link untold s = by (slice_get (in_flight ni.user_data link) 0) refl
      where
        by : (o : Option (List ℕ)) → slice_get (in_flight ni.user_data link) 0 ≡ o → Stands c z a (deliver_frame_for a.base.there a.base.back o link (pairs.without_data link ni) p).left
        by None e = s
        by (Some text) e =
            let g : ℕ → List FrameValue = s.to_near.user_data in
            let first : IsFirst (g link) (in_flight ni.user_data link) text = first-frame (g link) (in_flight ni.user_data link) text (s.near_texts.user_data.each link) e in
            let h : HasLine link = has-line link (g link) first.frame first.rest first.first (λ away. (s.near_quiet link away).user_data) in
            let f : ℕ → List FrameValue = changed_at link first.rest g in
            let flying : IsFlying z c a.base.back a.far_set first.frame = (subst (Each (IsFlying z c a.base.back a.far_set)) first.first (s.near_good.coming.user_data link)).0 in
            near-stands c z a n m nb fb ni fi nv fv na nr fa fr s (apply whole c (FrameCame link text) n).left (pairs.without_data link ni) _ _ (record s.to_near { user_data = f })
            (done-waits (FrameCame link text) (record { settings = c; node = n; reroutings = first_reroutings c })) (event-knows c (FrameCame link text) n s.near_knows)
            (record {
              statuses = s.near_texts.statuses;
              user_data = texts-changed c ni.user_data g link (drop 1 (in_flight ni.user_data link)) first.rest s.near_texts.user_data h.line.here first.left;
            })
            (still-quiet s.to_near (record s.to_near { user_data = f }) link h.other h.is s.near_quiet (changed-other link first.rest g) (λ i d. refl))
            (data-comes c z j (world_of p s.to_near s.to_far) n link text s.near_waits s.near_knows f first.frame (first-of g link (in_flight ni.user_data link) text first h)
            (ap read_frame first.spells ∙ flies-back z c a.base.back a.far_set first.frame flying) (untold text e))

    -- ---- link statuses

    -- the first of those in flight on a link
    record FirstStatus (s : Stands c z a p) (link : ℕ) (text : List ℕ) : Type 0 where
      pub first : IsFirst (s.to_near.statuses link) (in_flight ni.statuses link) text
      pub its : HasLine link
      pub telling : IsTelling first.frame

    first-status : (s : Stands c z a p) (link : ℕ) (text : List ℕ) → slice_get (in_flight ni.statuses link) 0 ≡ Some text → FirstStatus s link text
    first-status s link text e =
        let first : IsFirst (s.to_near.statuses link) (in_flight ni.statuses link) text =
        first-frame (s.to_near.statuses link) (in_flight ni.statuses link) text (s.near_texts.statuses.each link) e in
        record {
          first = first;
          its = has-line link (s.to_near.statuses link) first.frame first.rest first.first (λ away. (s.near_quiet link away).statuses);
          telling = (subst (Each IsTelling) first.first (s.near_good.coming.statuses link)).0;
        }

    retold-texts : (s : Stands c z a p) (link : ℕ) (texts : List (List ℕ)) (next : List FrameValue) → link < length c.links → texts ≡ map spelled next
        → AreStreams c (record ni { statuses = slice_set ni.statuses link texts }) (record s.to_near { statuses = changed_at link next s.to_near.statuses })
    retold-texts s link texts next l e = record {
      statuses = texts-changed c ni.statuses s.to_near.statuses link texts next s.near_texts.statuses l e;
      user_data = s.near_texts.user_data;
    }

    retold-quiet : (s : Stands c z a p) (link : ℕ) (next : List FrameValue) → HasLine link → (i : ℕ) → IsAway c z i → IsQuiet (record s.to_near { statuses = changed_at link next s.to_near.statuses }) i
    retold-quiet s link next h =
        still-quiet s.to_near (record s.to_near { statuses = changed_at link next s.to_near.statuses }) link h.other h.is s.near_quiet (λ i d. refl) (changed-other link next s.to_near.statuses)

    pub deliver_status-stands : (link : ℕ) → Stands c z a p → Stands c z a (deliver_frame_for a.base.there a.base.back (slice_get (in_flight ni.statuses link) 0) link (pairs.without_status link ni) p).left
    deliver_status-stands link s = by (slice_get (in_flight ni.statuses link) 0) refl
      where
        by : (o : Option (List ℕ)) → slice_get (in_flight ni.statuses link) 0 ≡ o → Stands c z a (deliver_frame_for a.base.there a.base.back o link (pairs.without_status link ni) p).left
        by None e = s
        by (Some text) e =
            let i : FirstStatus s link text = first-status s link text e in
            let f : ℕ → List FrameValue = changed_at link i.first.rest s.to_near.statuses in
            near-stands c z a n m nb fb ni fi nv fv na nr fa fr s (apply whole c (FrameCame link text) n).left (pairs.without_status link ni) _ _ (record s.to_near { statuses = f })
            (done-waits (FrameCame link text) (record { settings = c; node = n; reroutings = first_reroutings c })) (event-knows c (FrameCame link text) n s.near_knows)
            (retold-texts s link (drop 1 (in_flight ni.statuses link)) i.first.rest i.its.line.here i.first.left) (retold-quiet s link i.first.rest i.its)
            (status-comes c z j (world_of p s.to_near s.to_far) n link text s.near_waits s.near_knows f i.first.frame (first-of s.to_near.statuses link (in_flight ni.statuses link) text i.first i.its)
            (ap read_frame i.first.spells ∙ tells-back i.first.frame i.telling))

    -- without an event
    retold-stands : (s : Stands c z a p) (link : ℕ) (texts : List (List ℕ)) (next : List FrameValue) → HasLine link → texts ≡ map spelled next
        → Passes c z j (at c z j (world_of p s.to_near s.to_far) n [] [])
        (at c z j (record (world_of p s.to_near s.to_far) { to_near = record s.to_near { statuses = changed_at link next s.to_near.statuses } }) n [] [])
        → Stands c z a (record { near = end_with c n nb (record ni { statuses = slice_set ni.statuses link texts }) nv na nr; far = end_with z m fb fi fv fa fr })
    retold-stands s link texts next h e x =
        near-stands c z a n m nb fb ni fi nv fv na nr fa fr s n (record ni { statuses = slice_set ni.statuses link texts }) na nr (record s.to_near { statuses = changed_at link next s.to_near.statuses })
        s.near_waits s.near_knows (retold-texts s link texts next h.line.here e) (retold-quiet s link next h) x

    pub lose_status-stands : (link : ℕ) → Stands c z a p → Stands c z a (change_statuses (slice_get (in_flight ni.statuses link) 0) (pairs.without_status link ni) p).left
    lose_status-stands link s = by (slice_get (in_flight ni.statuses link) 0) refl
      where
        by : (o : Option (List ℕ)) → slice_get (in_flight ni.statuses link) 0 ≡ o → Stands c z a (change_statuses o (pairs.without_status link ni) p).left
        by None e = s
        by (Some text) e =
            let i : FirstStatus s link text = first-status s link text e in
            retold-stands s link (drop 1 (in_flight ni.statuses link)) i.first.rest i.its i.first.left
            (status-lost c z j (world_of p s.to_near s.to_far) n link (changed_at link i.first.rest s.to_near.statuses) i.first.frame
            (first-of s.to_near.statuses link (in_flight ni.statuses link) text i.first i.its))

    pub double_status-stands : (link : ℕ) → Stands c z a p → Stands c z a (change_statuses (slice_get (in_flight ni.statuses link) 0) (pairs.with_status_twice link ni) p).left
    double_status-stands link s = by (slice_get (in_flight ni.statuses link) 0) refl
      where
        by : (o : Option (List ℕ)) → slice_get (in_flight ni.statuses link) 0 ≡ o → Stands c z a (change_statuses o (pairs.with_status_twice link ni) p).left
        by None e = s
        by (Some text) e =
            let i : FirstStatus s link text = first-status s link text e in
            let next : List FrameValue = i.first.frame ∷ i.first.frame ∷ i.first.rest in
            retold-stands s link (take 1 (in_flight ni.statuses link) ++ in_flight ni.statuses link) next i.its
            (ap (λ (ts : List (List ℕ)). take 1 ts ++ ts) (s.near_texts.statuses.each link ∙ ap (map spelled) i.first.first))
            (status-twice c z j (world_of p s.to_near s.to_far) n link (changed_at link next s.to_near.statuses) i.first.frame i.first.rest i.first.first
            (changed-here link next s.to_near.statuses) (changed-other link next s.to_near.statuses) i.its.line.here i.its.line.of_set)
