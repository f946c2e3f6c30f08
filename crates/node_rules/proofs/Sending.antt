-- A frame is taken, and given to the endpoint of its link: it is on its way then.
use Rattle.std.proofs.Common.{◌≡◌, ◌⊎◌, inl, inr, ℕ, suc, arith, Bool, true, false, ◌&&◌, List, [], ◌∷◌, ◌++◌, Some, length, map, refl, ap, sym, ◌∙◌, subst, drop}
use Rattle.std.proofs.lemmas.List.{length-map}
use Rattle.std.specs.Prelude.{if◌then◌else◌}
use Rattle.m2pa_codec.specs.Frames.{FrameValue, EmptyFrame, MessageFrame, StatusFrame, spelled}
use Rattle.exchange_rules.specs.Exchange.{frame_to_take, taken}
use Rattle.exchange_rules.specs.Queues.{whole}
use Rattle.sctp_rules.specs.declared.phase.Phase.{Phase}
use Rattle.sctp_rules.specs.declared.phase.Phase.TheVariants as phases
use Rattle.sctp_sending.specs.Outgoing as outgoing
use Rattle.sctp_rules.specs.State.{Told, Done}
use Rattle.sctp_rules.specs.Sending.{is_established, may_send}
use Rattle.sctp_rules.specs.Confirming.{can_take}
use Rattle.sctp_rules.specs.Endpoint.{Sends, after}
use Rattle.sctp_rules.specs.Wishing.{Wish, wish_after, Fits}
use Rattle.sctp_rules.proofs.Wishing.{happening-fits, still-right}
use Rattle.sctp_moves.specs.Ends.{Message, Epoch, End}
use Rattle.sctp_moves.specs.Moves.{last_end}
use Rattle.sctp_moves.specs.Openings.{Standing, Neither, Joined, NearAhead, FarAhead, IsCalm}
use Rattle.sctp_moves.proofs.Keeping.{IsSound, turned-sound}
use Rattle.sctp_moves.proofs.Standing.{Stands, turned-stands, IsReady, none-opens, up-not-ready, ready-quiet, ready-all-before}
use Rattle.sctp_ends.specs.Shown.{AreGood, Stage, There, stage_of, IsIn, IsPresent}
use Rattle.sctp_ends.specs.Told.{with_last, told_by, opened_by, given_by}
use Rattle.sctp_ends.specs.Theorems.{received_in, sent_in}
use Rattle.sctp_ends.specs.Worlds as ends
use Rattle.sctp_ends.proofs.Alike.{Outcome, sound-on}
use Rattle.sctp_ends.proofs.Pass.{happens}
use Rattle.sctp_ends.proofs.World.{site-after}
use Rattle.exchange_rules.specs.First.{Abstract}
use Rattle.node_rules.specs.Worlds.{Port, stream_of, message_of, wished}
use Rattle.node_rules.proofs.Staying.{MayOpen}
use Rattle.node_rules.proofs.Flights.{Air}
use Rattle.node_rules.proofs.PairFrames.{framed}
use Rattle.node_rules.proofs.Linked.{AreFramed, framed-behind, firsts, latest_sent, latest_received, air_of, Linked, StaysSo, IsJoint, is-joint, drop-within}
use Rattle.node_rules.proofs.Acts.{air_given}
use Rattle.node_rules.proofs.Associating.{no-epochs}

established-there : (p : Phase) → is_established p ≡ true → stage_of p ≡ There
established-there phases.Closed e = absurd cc
established-there phases.CookieWait e = absurd cc
established-there phases.CookieEchoed e = absurd cc
established-there phases.Established e = refl
established-there phases.ShutdownPending e = absurd cc
established-there phases.ShutdownSent e = absurd cc
established-there phases.ShutdownReceived e = absurd cc
established-there phases.ShutdownAckSent e = absurd cc

first-true : (x y : Bool) → (x && y) ≡ true → x ≡ true
first-true true y e = refl
first-true false y e = absurd cc

with-last-long : (m : Message) (lists : List (List Message)) → length (with_last m lists) ≡ length lists
with-last-long m [] = refl
with-last-long m (latest ∷ past) = refl

last-first : (m : Message) (lists : List (List Message)) → (length lists ≡ 0 → ⊥) → firsts (with_last m lists) ≡ firsts lists ++ m ∷ []
last-first m [] f = absurd (f refl)
last-first m (latest ∷ past) f = refl

is-some : (v w : Wish) → Some v ≡ Some w → w ≡ v
is-some v w e = cc

-- a frame, as a message of its stream
framed-is : (frame : FrameValue) → (stream_of (spelled frame) ≡ 0) ⊎ (stream_of (spelled frame) ≡ 1)
framed-is (EmptyFrame bsn fsn) = inr refl
framed-is (MessageFrame bsn fsn sio sif) = inr refl
framed-is (StatusFrame bsn fsn status) = inl refl

module _ (k j : ℕ) (m o : ends.Make) (good : AreGood m.secrets) (s t : Port) (near far : Abstract) (a : Air) (h : Linked k j m o s t near far a)
    (frame : FrameValue) (next : frame_to_take whole near k ≡ Some frame) (may : may_send (message_of (spelled frame)) s.site.state ≡ true)
    (stays-open : MayOpen k near.node.parts → MayOpen k (taken whole near k).node.parts) where
  abbrev given : outgoing.Message
  given = message_of (spelled frame)

  abbrev text : Message
  text = framed frame

  abbrev d : Done
  d = after m.settings m.secrets (Sends given) s.site.state

  r : Outcome m.secrets o.secrets s.site.mark h.y h.x false (given_by (Sends given) s.site.state (sent_in h.x)) d
  r = happens m.secrets o.secrets s.site.mark h.y good m.settings (Sends given) s.site.state tt h.x h.sound h.near_shown.state

  abbrev l : End
  l = last_end h.x r.list

  sound : IsSound l h.y
  sound = sound-on h.y h.x r.list r.moves h.sound

  told-none : d.told ≡ []
  unfolding after
  told-none = refl

  given-is : given_by (Sends given) s.site.state (sent_in h.x) ≡ with_last text (sent_in h.x)
  given-is = ap (λ (b : Bool). if b then with_last text (sent_in h.x) else sent_in h.x) may

  present : IsPresent h.x s.site.state.association
  present =
      subst (λ (stage : Stage). IsIn stage h.x s.site.state.is_wanted s.site.state.association)
      (established-there s.site.state.association.phase (first-true (is_established s.site.state.association.phase) (can_take s.site.state.association.sender given) may))
      h.near_shown.state.stage

  some : length (sent_in h.x) ≡ 0 → ⊥
  some z =
      let c : length (sent_in h.x) ≡ suc (length (map (λ (e : Epoch). e.sent) present.past)) =
      ap (λ (es : List Epoch). length (map (λ (e : Epoch). e.sent) es)) present.now in
      omega (arith, z, c)

  received-same : received_in l ≡ received_in h.x
  received-same = r.told ∙ ap (λ (ts : List Told). told_by (received_in h.x) ts) told-none

  sent-more : sent_in l ≡ with_last text (sent_in h.x)
  sent-more = r.given ∙ ap (λ (ts : List Told). opened_by (given_by (Sends given) s.site.state (sent_in h.x)) ts) told-none ∙ given-is

  latest-more : latest_sent l ≡ latest_sent h.x ++ text ∷ []
  latest-more = ap firsts sent-more ∙ last-first text (sent_in h.x) some

  long : (x : End) → length (received_in x) ≡ length x.epochs
  long x = length-map x.epochs (λ (e : Epoch). e.received)

  stays : StaysSo h.standing h.x h.y l
  stays =
      none-opens h.standing h.x h.y r.list h.sound r.moves
      (sym (long l) ∙ ap (λ (ls : List (List Message)). length ls) received-same ∙ long h.x) h.stands

  not-ready : IsReady l h.y → ⊥
  not-ready q = up-not-ready h.x h.y h.sound present.up (ready-quiet h.x h.y r.list r.moves (r.quiet refl) (subst IsCalm (sym present.up) tt) q)

  -- what is in the air then
  air-more : (st : Standing) → Stands st h.x h.y → record (air_of st h.x h.y) { to_far = (air_of st h.x h.y).to_far ++ text ∷ [] } ≡ air_of st l h.y
  air-more Neither j =
      absurd (let c : length h.x.epochs ≡ suc (length present.past) = ap (λ (es : List Epoch). length es) present.now in omega (arith, no-epochs h.x j.none, c))
  air-more Joined j =
      let i : IsJoint h.y h.x = is-joint h.y h.x (turned-sound h.x h.y h.sound) (turned-stands Joined h.x h.y j) in
      let far-left : drop (length (latest_received h.y)) (latest_sent h.x) ++ text ∷ [] ≡ drop (length (latest_received h.y)) (latest_sent l) =
      sym (drop-within (length (latest_received h.y)) (latest_sent h.x) (text ∷ []) i.within)
      ∙ ap (λ (ms : List Message). drop (length (latest_received h.y)) ms) (sym latest-more) in
      ap (λ (ms : List Message). record {
        to_near = drop (length (latest_received h.x)) (latest_sent h.y);
        to_far = ms;
        near_follows = false;
        far_follows = false;
      }) far-left
      ∙ ap (λ (ms : List Message). record {
        to_near = drop (length ms) (latest_sent h.y);
        to_far = drop (length (latest_received h.y)) (latest_sent l);
        near_follows = false;
        far_follows = false;
      }) (sym (ap firsts received-same))
  air-more NearAhead j = ap (λ (ms : List Message). record { to_near = []; to_far = ms; near_follows = false; far_follows = true }) (sym latest-more)
  air-more FarAhead j = absurd (j.down present.up)

  abbrev port : Port
  port = record { site = ends.happened m (Sends given) s.site; wish = wished (wish_after d.told s.wish) s.wish }

  wish-same : wished (wish_after d.told s.wish) s.wish ≡ s.wish
  wish-same = ap (λ (ts : List Told). wished (wish_after ts s.wish) s.wish) told-none

  fits : Fits (Some port.wish) d.left
  fits =
      subst (λ (w : Wish). Fits (Some w) d.left) (sym wish-same)
      (subst (λ (ts : List Told). Fits (wish_after ts s.wish) d.left) told-none
      (happening-fits m.settings m.secrets (Sends given) s.site.state s.wish h.near_right h.near_fits))

  pub sends : Linked k j m o port t (taken whole near k) far (air_given frame a)
  sends = record {
    x = l;
    y = h.y;
    sound = sound;
    near_shown = site-after m.secrets o.secrets m.settings h.y h.x (Sends given) s.site h.near_shown r;
    far_shown = h.far_shown;
    standing = h.standing;
    stands = stays.0;
    near_right = still-right m.settings m.secrets (Sends given) s.site.state h.near_right;
    far_right = h.far_right;
    near_fits = fits;
    far_fits = h.far_fits;
    air_is = ap (air_given frame) h.air_is ∙ air-more h.standing h.stands;
    near_framed = subst AreFramed (sym latest-more) (framed-behind (latest_sent h.x) (text ∷ []) h.near_framed (record { protocol = refl; stream = framed-is frame }, tt));
    far_framed = h.far_framed;
    near_ready = λ q. absurd (not-ready q);
    far_ready = λ q. h.far_ready (ready-all-before h.x h.y r.list h.sound r.moves q);
    near_seeks = λ e. stays-open (h.near_seeks (sym wish-same ∙ e));
    far_seeks = h.far_seeks;
  }
