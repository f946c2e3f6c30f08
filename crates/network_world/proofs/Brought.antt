-- What the code tells that an event brings in is what it brings in.
use Rattle.std.proofs.Common.{◌≡◌, ◌+◌, ◌&&◌, ℕ, Bool, true, false, List, [], ◌∷◌, ◌++◌, Option, Some, None, length, nat_eq, refl, ap, sym, subst, ◌∙◌, arith}
use Rattle.std.specs.Prelude.{if◌then◌else◌, not, option_to_list, Result, Ok, Err}
use Rattle.std.proofs.lemmas.Bool.Decides.{nat_tests}
use Rattle.signalling_types.specs.Message.{Message, is_management}
use Rattle.signalling_types.specs.declared.cause.Cause.{Cause}
use Rattle.signalling_types.specs.declared.notice.FrameFault.{FrameFault}
use Rattle.signalling_types.specs.declared.outcome.Outcome.{Outcome}
use Rattle.signalling_types.specs.declared.outcome.Outcome.TheVariants.{Queued, Held, Local, Handled, Ignored, Refused}
use Rattle.settings.specs.Configuration.{Configuration}
use Rattle.sccp_relay.specs.Statuses.{TitlesValue}
use Rattle.m2pa_codec.specs.Frames.{FrameValue, EmptyFrame, MessageFrame, StatusFrame, read_frame}
use Rattle.mtp3_codec.specs.declared.label.Label.{Label}
use Rattle.mtp3_codec.specs.declared.discrimination.Discrimination.{Discrimination}
use Rattle.mtp3_codec.specs.declared.discrimination.Discrimination.TheVariants as whither
use Rattle.sccp_relay.specs.Points.{OwnValue}
use Rattle.sccp_relay.specs.Relay.{RelayedValue, relay}
use Rattle.sccp_relay.specs.Returning.{returned}
use Rattle.sccp_relay.specs.Relay as relays
use Rattle.exchange_rules.specs.Frames.{receive}
use Rattle.exchange_rules.specs.Messages.{deliver, transfer, whither_goes, in_place_of, own_of}
use Rattle.exchange_rules.specs.Conserving.{brought_by, brought_in, brought_to, relayed_in, returned_in, taken_in, unitdata_in}
use Rattle.exchange_rules.specs.Exchange.{after, outcome_of}
use Rattle.exchange_rules.specs.State.{Done, FrameCame, Happening, Submitted, Node}
use Rattle.exchange_rules.specs.Lasting.{HasAllPlaces}
use Rattle.exchange_rules.specs.Laws.{accept_text}
use Rattle.exchange_rules.specs.Queues.{WholeQueues, whole}
use Rattle.exchange_rules.specs.Receiving.{new_message}
use Rattle.exchange_rules.specs.First.{Abstract, IsSound}
use Rattle.exchange_rules.proofs.Fitting.{Fits}
use Rattle.exchange.specs.KeptQueues.{kept}
use Rattle.exchange.specs.Calls.{Kept, StandsFor, kept_of}
use Rattle.exchange.proofs.Standing.{stands-after, stands-outcome}
use Rattle.exchange.proofs.Waiting.{stands-behind}
use Rattle.pair_moves.specs.Laws.{sum_to}
use Rattle.pair_moves.proofs.Counts.{count-one, sum-alike}
use Rattle.pair_rules.specs.Promises.{user}
use Rattle.exchange_rules.proofs.KeptFacts.{after-facts, deliver-facts, own-same, submit-facts}
use Rattle.pair_rules.proofs.Arrivals.{accepted-titles, received-as}
use Rattle.pair_rules.proofs.Behind.{behind_at, standing_behind, users}
use Rattle.pair_rules.proofs.Counted.{confirming_number, frame-counts, submission-counts}
use Rattle.neighbour_rules.proofs.LateOrders.{late_by-facts}
use Rattle.network_world.specs.Bringing.{comes_back, goes_on, is_sccp, kept_behind, kept_in, kept_in_all, kept_standing, kept_standing_if, number_in, told_in, udts_as, written_as}
use Rattle.network_world.specs.KeptSites.{handed_in, newly_brought}
use Rattle.network_world.proofs.Newly.{newly-same, stands-itself}

-- ---- counts

standing-same : (number : ℕ) (k : Kept) (a : Abstract) → StandsFor k a → kept_standing number k ≡ standing_behind number (length a.settings.links) a.node.queues
standing-same number k a s =
    ap (λ (x : Kept). sum_to (kept_behind number k) (length x.settings.links) + users (kept.held x.node.queues)) s.kept
    ∙ ap (λ (sum : ℕ). sum + users a.node.queues.held)
    (sum-alike (behind_at number a.node.queues) (kept_behind number k) (length a.settings.links) (λ link l. ap users (stands-behind link number k a s)))

one-user : (m : Message) → is_management m ≡ false → users (m ∷ []) ≡ 1
one-user m e = count-one (user (λ x. true)) m ∙ ap (λ (b : Bool). if not b && true then 1 else 0) e

more : (t u : ℕ) → u ≡ t + 1 → nat_eq t u ≡ false
more t u e = grind (arith, nat_tests, e)

same : (t u : ℕ) → u ≡ t + 0 → nat_eq t u ≡ true
same t u e = grind (arith, nat_tests, e)

-- a message that was taken in is one more
taken-more : (t u : ℕ) (o : Outcome) (m : Message) → is_management m ≡ false → u ≡ t + users (taken_in o m) → (if not (nat_eq t u) then m ∷ [] else []) ≡ taken_in o m
taken-more t u (Queued link) m user e = ap (λ (b : Bool). if not b then m ∷ [] else []) (more t u (e ∙ ap (λ (k : ℕ). t + k) (one-user m user)))
taken-more t u Held m user e = ap (λ (b : Bool). if not b then m ∷ [] else []) (more t u (e ∙ ap (λ (k : ℕ). t + k) (one-user m user)))
taken-more t u Local m user e = ap (λ (b : Bool). if not b then m ∷ [] else []) (same t u e)
taken-more t u Handled m user e = ap (λ (b : Bool). if not b then m ∷ [] else []) (same t u e)
taken-more t u Ignored m user e = ap (λ (b : Bool). if not b then m ∷ [] else []) (same t u e)
taken-more t u (Refused cause) m user e = ap (λ (b : Bool). if not b then m ∷ [] else []) (same t u e)

neither : (b : Bool) (ms : List Message) → (if b then ms else ms) ≡ ms
neither true ms = refl
neither false ms = refl

returned-more : (t u : ℕ) (udts : Option (List ℕ)) (c : Configuration) (m : Message) (n : Node WholeQueues) → is_management m ≡ false → u ≡ t + users (returned_in udts c m n)
    → (if not (nat_eq t u) then udts_as udts m else []) ≡ returned_in udts c m n
returned-more t u (Some sif) c m n user e = taken-more t u (transfer whole c None (in_place_of m sif) n).outcome (in_place_of m sif) user e
returned-more t u None c m n user e = neither (not (nat_eq t u)) []

-- the same number
same-number : (r : Result FrameValue FrameFault) → number_in r ≡ confirming_number r
same-number (Ok (EmptyFrame bsn fsn)) = refl
same-number (Ok (MessageFrame bsn fsn sio sif)) = refl
same-number (Ok (StatusFrame bsn fsn status)) = refl
same-number (Err fault) = refl

-- ---- by what became of it

-- where the links lead for a message of SCCP for this point
abbrev LeadsAlike : OwnValue → Configuration → Message → Node WholeQueues → Type 0
LeadsAlike own c m n = (label : Label) → whither_goes c m ≡ whither.Here label → is_sccp m ≡ true → own ≡ own_of c n.parts

module _ (own : OwnValue) (c : Configuration) (m : Message) (n : Node WholeQueues) (is_more : Bool) (alike : LeadsAlike own c m n) where
  abbrev rows : TitlesValue
  rows = n.parts.titles

  -- the UDTS is told by the counts
  abbrev IsToldBack : Outcome → Type 0
  IsToldBack o =
      (cause : Cause) (label : Label) → o ≡ Refused cause → whither_goes c m ≡ whither.Here label → is_sccp m ≡ true
      → (if is_more then udts_as (returned (own_of c n.parts) rows m.sif cause) m else []) ≡ returned_in (returned (own_of c n.parts) rows m.sif cause) c m n

  -- by what goes on, and what comes back
  abbrev told_by : List Message → (Cause → List Message) → Outcome → List Message
  told_by on back (Queued link) = on
  told_by on back Held = on
  told_by on back (Refused cause) = if is_more then back cause else []
  told_by on back Local = []
  told_by on back Handled = []
  told_by on back Ignored = []

  abbrev told_at : Discrimination → Outcome → List Message
  told_at d o = told_by (goes_on d own rows m) (λ cause. comes_back d cause own rows m) o

  -- what goes on
  queued-so : (link : ℕ) (v : RelayedValue) → written_as v m ≡ relayed_in v (Queued link) m ++ []
  queued-so link relays.Delivered = refl
  queued-so link (relays.Onward sif) = refl
  queued-so link (relays.Heard news) = refl
  queued-so link (relays.Refused cause) = refl

  held-so : (v : RelayedValue) → written_as v m ≡ relayed_in v Held m ++ []
  held-so relays.Delivered = refl
  held-so (relays.Onward sif) = refl
  held-so (relays.Heard news) = refl
  held-so (relays.Refused cause) = refl

  -- what is refused is not taken in itself
  refused-so : (cause : Cause) (v : RelayedValue) (ms : List Message) → ms ≡ relayed_in v (Refused cause) m ++ ms
  refused-so cause relays.Delivered ms = refl
  refused-so cause (relays.Onward sif) ms = refl
  refused-so cause (relays.Heard news) ms = refl
  refused-so cause (relays.Refused other) ms = refl

  local-so : (v : RelayedValue) → [] ≡ relayed_in v Local m ++ []
  local-so relays.Delivered = refl
  local-so (relays.Onward sif) = refl
  local-so (relays.Heard news) = refl
  local-so (relays.Refused cause) = refl

  handled-so : (v : RelayedValue) → [] ≡ relayed_in v Handled m ++ []
  handled-so relays.Delivered = refl
  handled-so (relays.Onward sif) = refl
  handled-so (relays.Heard news) = refl
  handled-so (relays.Refused cause) = refl

  ignored-so : (v : RelayedValue) → [] ≡ relayed_in v Ignored m ++ []
  ignored-so relays.Delivered = refl
  ignored-so (relays.Onward sif) = refl
  ignored-so (relays.Heard news) = refl
  ignored-so (relays.Refused cause) = refl

  abbrev its : RelayedValue
  its = relay (own_of c n.parts) rows m.sif

  -- of SCCP for this point
  sccp-so : (o : Outcome) (label : Label) → IsToldBack o → whither_goes c m ≡ whither.Here label → is_sccp m ≡ true
      → told_by (written_as its m) (λ cause. udts_as (returned (own_of c n.parts) rows m.sif cause) m) o ≡ unitdata_in o c m n
  sccp-so (Queued link) label back e is = queued-so link its
  sccp-so Held label back e is = held-so its
  sccp-so (Refused cause) label back e is = back cause label refl e is ∙ refused-so cause its (returned_in (returned (own_of c n.parts) rows m.sif cause) c m n)
  sccp-so Local label back e is = local-so its
  sccp-so Handled label back e is = handled-so its
  sccp-so Ignored label back e is = ignored-so its

  here-so : (b : Bool) (o : Outcome) (label : Label) → IsToldBack o → whither_goes c m ≡ whither.Here label → is_sccp m ≡ b
      → told_by (if b then written_as (relay own rows m.sif) m else []) (λ cause. if b then udts_as (returned own rows m.sif cause) m else []) o ≡ (if b then unitdata_in o c m n else [])
  here-so true o label back e is =
      subst (λ (x : OwnValue). told_by (written_as (relay x rows m.sif) m) (λ cause. udts_as (returned x rows m.sif cause) m) o ≡ unitdata_in o c m n) (sym (alike label e is))
      (sccp-so o label back e is)
  here-so false (Queued link) label back e is = refl
  here-so false Held label back e is = refl
  here-so false (Refused cause) label back e is = neither is_more []
  here-so false Local label back e is = refl
  here-so false Handled label back e is = refl
  here-so false Ignored label back e is = refl

  at-so : (d : Discrimination) (o : Outcome) → IsToldBack o → whither_goes c m ≡ d → told_at d o ≡ brought_to d o c m n
  at-so (whither.Here label) o back e = here-so (is_sccp m) o label back e refl
  at-so (whither.Refused fault) (Queued link) back e = refl
  at-so (whither.Refused fault) Held back e = refl
  at-so (whither.Refused fault) (Refused cause) back e = neither is_more []
  at-so (whither.Refused fault) Local back e = refl
  at-so (whither.Refused fault) Handled back e = refl
  at-so (whither.Refused fault) Ignored back e = refl
  at-so (whither.Transfer label) (Queued link) back e = refl
  at-so (whither.Transfer label) Held back e = refl
  at-so (whither.Transfer label) (Refused cause) back e = neither is_more []
  at-so (whither.Transfer label) Local back e = refl
  at-so (whither.Transfer label) Handled back e = refl
  at-so (whither.Transfer label) Ignored back e = refl

  told-so : (o : Outcome) → IsToldBack o → told_in o is_more own c rows m ≡ brought_to (whither_goes c m) o c m n
  told-so (Queued link) back = at-so (whither_goes c m) (Queued link) back refl
  told-so Held back = at-so (whither_goes c m) Held back refl
  told-so (Refused cause) back = at-so (whither_goes c m) (Refused cause) back refl
  told-so Local back = at-so (whither_goes c m) Local back refl
  told-so Handled back = at-so (whither_goes c m) Handled back refl
  told-so Ignored back = at-so (whither_goes c m) Ignored back refl

user-of : (m : Message) → is_sccp m ≡ true → is_management m ≡ false
user-of m e = grind (arith, nat_tests, e)

-- ---- events

module _ (a : Abstract) (sound : IsSound a) (places : HasAllPlaces a.settings a.node) where
  abbrev k : Kept
  k = kept_of a

  fits : Fits a.settings a.node
  fits = record { places = places; queues = sound.queues }

  count-same : (number : ℕ) → kept_standing number k ≡ standing_behind number (length a.settings.links) a.node.queues
  count-same number = standing-same number k a (stands-itself a sound)

  -- a submission

  module _ (m : Message) where
    abbrev submission : Happening
    submission = Submitted m

    submission-after : kept_standing 0 (after kept submission k) ≡ standing_behind 0 (length a.settings.links) (after whole submission a).node.queues
    submission-after = standing-same 0 (after kept submission k) (after whole submission a) (stands-after submission k a (stands-itself a sound))

    abbrev is_more : Bool
    is_more = not (nat_eq (kept_standing_if (is_sccp m) 0 k) (kept_standing_if (is_sccp m) 0 (after kept submission k)))

    abbrev own : OwnValue
    own = own_of a.settings (after kept submission k).node.parts

    abbrev out : Node WholeQueues
    out = (after whole submission a).node

    -- its links lead where they did
    alike : LeadsAlike own a.settings m a.node
    alike label here is =
        ap (λ (x : Kept). own_of a.settings x.node.parts) (stands-after submission k a (stands-itself a sound)).kept
        ∙ own-same a.settings out a.node (after-facts a.settings submission a.node ∙ submit-facts a.settings m label a.node here)

    told-back : IsToldBack own a.settings m a.node is_more alike (outcome_of whole submission a)
    told-back cause label e here is =
        let udts : Option (List ℕ) = returned (own_of a.settings a.node.parts) a.node.parts.titles m.sif cause in
        ap (λ (b : Bool). if not (nat_eq (kept_standing_if b 0 k) (kept_standing_if b 0 (after kept submission k))) then udts_as udts m else []) is
        ∙ returned-more (kept_standing 0 k) (kept_standing 0 (after kept submission k)) udts a.settings m a.node (user-of m is)
        (submission-after ∙ submission-counts 0 a cause m label sound fits e here is
        ∙ ap (λ (t : ℕ). t + users (returned_in udts a.settings m a.node)) (sym (count-same 0)))

    pub submission-same : handed_in m k ≡ brought_in submission a
    submission-same =
        ap (λ (o : Outcome). kept_in 0 k (after kept submission k) o m) (stands-outcome submission k a (stands-itself a sound))
        ∙ told-so own a.settings m a.node is_more alike (outcome_of whole submission a) told-back

  -- a frame

  module _ (link : ℕ) (text : List ℕ) where
    abbrev came : Happening
    came = FrameCame link text

    abbrev number : ℕ
    number = number_in (read_frame text)

    abbrev mid : Node WholeQueues
    mid = accept_text link (read_frame text) a

    frame-after : kept_standing number (after kept came k) ≡ standing_behind number (length a.settings.links) (after whole came a).node.queues
    frame-after = standing-same number (after kept came k) (after whole came a) (stands-after came k a (stands-itself a sound))

    module _ (m : Message) (new : new_message link text a ≡ Some m) where
      abbrev more_stand : Bool
      more_stand = not (nat_eq (kept_standing_if (is_sccp m) number k) (kept_standing_if (is_sccp m) number (after kept came k)))

      abbrev own_behind : OwnValue
      own_behind = own_of a.settings (after kept came k).node.parts

      abbrev left : Node WholeQueues
      left = (after whole came a).node

      abbrev received : Done WholeQueues
      received = receive whole a.settings link text a.node

      leads-alike : LeadsAlike own_behind a.settings m mid
      leads-alike label here is =
          ap (λ (x : Kept). own_of a.settings x.node.parts) (stands-after came k a (stands-itself a sound)).kept
          ∙ own-same a.settings left received.left
          (after-facts a.settings came a.node ∙ late_by-facts a.settings received.outcome received.left)
          ∙ received-as a.settings link m (λ d x. own_of a.settings d.left.parts ≡ own_of a.settings x.parts)
          (λ n. own-same a.settings (deliver whole a.settings link m n).left n (deliver-facts a.settings link m label n (user-of m is) here)) text a.node new

      frame-back : IsToldBack own_behind a.settings m mid more_stand leads-alike (outcome_of whole came a)
      frame-back cause label e here is =
          let udts : Option (List ℕ) = returned (own_of a.settings mid.parts) mid.parts.titles m.sif cause in
          ap (λ (b : Bool). if not (nat_eq (kept_standing_if b number k) (kept_standing_if b number (after kept came k))) then udts_as udts m else []) is
          ∙ returned-more (kept_standing number k) (kept_standing number (after kept came k)) udts a.settings m mid (user-of m is)
          (frame-after ∙ counts-more cause label e here is ∙ ap (λ (t : ℕ). t + users (returned_in udts a.settings m mid)) (sym (count-same number)))
        where
          counts-more : (cause : Cause) (label : Label) → outcome_of whole came a ≡ Refused cause → whither_goes a.settings m ≡ whither.Here label → is_sccp m ≡ true
              → standing_behind number (length a.settings.links) (after whole came a).node.queues
              ≡ standing_behind number (length a.settings.links) a.node.queues + users (returned_in (returned (own_of a.settings mid.parts) mid.parts.titles m.sif cause) a.settings m mid)
          counts-more cause label e here is =
              subst (λ (number : ℕ). standing_behind number (length a.settings.links) (after whole came a).node.queues
              ≡ standing_behind number (length a.settings.links) a.node.queues + users (returned_in (returned (own_of a.settings mid.parts) mid.parts.titles m.sif cause) a.settings m mid))
              (sym (same-number (read_frame text))) (frame-counts a link text cause m label sound fits e new here is)

      message-came : kept_in number k (after kept came k) (outcome_of kept came k) m ≡ brought_to (whither_goes a.settings m) (outcome_of whole came a) a.settings m mid
      message-came =
          ap (λ (o : Outcome). kept_in number k (after kept came k) o m) (stands-outcome came k a (stands-itself a sound))
          ∙ ap (λ (rows : TitlesValue). told_in (outcome_of whole came a) more_stand own_behind a.settings rows m) (sym (accepted-titles a.settings link (read_frame text) a.node))
          ∙ told-so own_behind a.settings m mid more_stand leads-alike (outcome_of whole came a) frame-back

    by-message : (o : Option Message) → new_message link text a ≡ o
        → kept_in_all number k (after kept came k) (outcome_of kept came k) (option_to_list o) ≡ brought_by o (outcome_of whole came a) a.settings mid
    by-message None e = refl
    by-message (Some m) e = message-came m e

    pub frame-same : newly_brought link text k ≡ brought_in came a
    frame-same =
        ap (λ (ms : List Message). kept_in_all number k (after kept came k) (outcome_of kept came k) ms) (newly-same link text a sound places)
        ∙ by-message (new_message link text a) refl
