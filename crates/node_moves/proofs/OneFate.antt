-- What becomes of one user message, and what it brings in.
use Rattle.node_moves.proofs.Basics.{◌≡◌, ◌≤◌, ◌+◌, ◌&&◌, ◌||◌, ◌⊎◌, inl, inr, ℕ, Bool, true, false, not, List, [], ◌∷◌, ◌++◌, Option, Some, None, nat_eq, nat_lt, refl, ap, sym, subst, ◌∙◌, arith, nat_tests, if◌then◌else◌, ⊎_elim, eq-eqb}
use Rattle.node_moves.proofs.Machine.{one_if}
use Rattle.node_moves.proofs.Definitions.{Message, Configuration, Node, Done, WholeQueues, whole, answer, refuse, is_management, service_indicator, dpc_of, opc_of, flow_of, link_of, waits}
use Rattle.node_moves.proofs.Delivered.{delivers}
use Rattle.node_moves.proofs.FateCounts.{count-fate, count-fates}
use Rattle.node_moves.proofs.Heard.{here-own, here-short, on-away}
use Rattle.node_moves.proofs.Reading.{is_long}
use Rattle.node_moves.specs.Fates.{HaveFates, goes_on, has_part, is_delivered, is_for_sccp, is_handled, is_local, is_refusal, is_refused, sccp_takes, is_sccp, is_taken_on}
use Rattle.node_moves.specs.Laws.{any_fate, fates_that, is_user, users_that}
use Rattle.node_moves.specs.Networks.{Fate, is_here, made_of}
use Rattle.exchange_rules.specs.Reroutings.{first_reroutings}
unfoldable use Rattle.exchange_rules.specs.Exchange.{apply}
use Rattle.exchange_rules.specs.Conserving.{answered_in, brought_here, brought_to, relayed_in, returned_in, taken_in, unitdata_in}
use Rattle.exchange_rules.specs.Exchange.{outcome_of}
use Rattle.exchange_rules.specs.Laws.{accept_text}
use Rattle.exchange_rules.specs.Messages.{deliver_to, in_place_of, is_destination, local, manage, no_room_for, offer, on_unitdata, own_of, relay_by, sccp, submit_to, transfer, whither_goes}
use Rattle.exchange_rules.specs.Messages as rules
use Rattle.exchange_rules.specs.Receiving.{new_message}
use Rattle.exchange_rules.specs.State.{FrameCame, Submitted}
use Rattle.exchange_rules.specs.Telling.{answer_no_user_part}
use Rattle.m2pa_codec.specs.Frames.{read_frame}
use Rattle.mtp3_codec.specs.declared.discrimination.Discrimination.{Discrimination}
use Rattle.mtp3_codec.specs.declared.discrimination.Discrimination.TheVariants as whither
use Rattle.network_moves.proofs.Counts.{count-one}
use Rattle.sccp_relay.specs.Relay as relays
use Rattle.sccp_relay.specs.Returning.{returned}
use Rattle.settings.specs.Readings.{destination_place}
use Rattle.signalling_types.specs.declared.cause.Cause.{Cause}
use Rattle.signalling_types.specs.declared.cause.Cause.TheVariants as causes
use Rattle.signalling_types.specs.declared.outcome.Outcome.{Outcome}
use Rattle.signalling_types.specs.declared.outcome.Outcome.TheVariants.{Handled, Held, Ignored, Local, Queued, Refused}

-- ---- four kinds of fates

-- what may become of a user message, by whether it is for this point, whether it is of SCCP, and whether its user part is
-- here
abbrev pub is_fit : (here of_sccp part : Bool) → Outcome → Bool
is_fit here of_sccp part (Queued link) = not here || of_sccp
is_fit here of_sccp part Held = not here || of_sccp
is_fit here of_sccp part Local = here && part
is_fit here of_sccp part Handled = here && of_sccp
is_fit here of_sccp part Ignored = false
is_fit here of_sccp part (Refused cause) = true

one-kind : (u h s p t : Bool) (o : Outcome) → (u ≡ true → is_fit h s p o ≡ true)
    → one_if (u && (true && t))
    ≡ one_if (u && ((not h && is_taken_on o) && t)) + one_if (u && (is_refusal o && t)) + one_if (u && ((h && (is_local o && p)) && t))
    + one_if (u && ((h && (s && (is_taken_on o || is_handled o))) && t))
one-kind false h s p t o e = refl
one-kind true false s p t (Queued link) e = omega arith
one-kind true true true p t (Queued link) e = omega arith
one-kind true true false p t (Queued link) e = (let no : false ≡ true = e refl in absurd cc)
one-kind true false s p t Held e = omega arith
one-kind true true true p t Held e = omega arith
one-kind true true false p t Held e = (let no : false ≡ true = e refl in absurd cc)
one-kind true true true true t Local e = omega arith
one-kind true true false true t Local e = omega arith
one-kind true true s false t Local e = (let no : false ≡ true = e refl in absurd cc)
one-kind true false s p t Local e = (let no : false ≡ true = e refl in absurd cc)
one-kind true true true p t Handled e = omega arith
one-kind true true false p t Handled e = (let no : false ≡ true = e refl in absurd cc)
one-kind true false s p t Handled e = (let no : false ≡ true = e refl in absurd cc)
one-kind true h s p t Ignored e = (let no : false ≡ true = e refl in absurd cc)
one-kind true true true p t (Refused cause) e = omega arith
one-kind true true false p t (Refused cause) e = omega arith
one-kind true false s p t (Refused cause) e = omega arith

module _ (c : Configuration) where
  abbrev pub IsFit : Fate → Type 0
  IsFit f = is_user f.message ≡ true → is_fit (is_here c f.message) (is_sccp f.message) (has_part c f.message) f.outcome ≡ true

  pub one-fate : (f : Fate) → IsFit f → HaveFates c (f ∷ [])
  one-fate f fit test =
      let one : (kind : Fate → Bool) → fates_that kind test (f ∷ []) ≡ one_if (is_user f.message && (kind f && test f.message)) =
      λ kind. omega (arith, count-fate (λ g. is_user g.message && (kind g && test g.message)) f []) in
      omega (
        arith,
        one any_fate,
        one (goes_on c),
        one is_refused,
        one (is_delivered c),
        one (sccp_takes c),
        one-kind (is_user f.message) (is_here c f.message) (is_sccp f.message) (has_part c f.message) (test f.message) f.outcome fit,
      )

  pub no-fates : HaveFates c []
  no-fates test = refl

  pub both-fates : (fs gs : List Fate) → HaveFates c fs → HaveFates c gs → HaveFates c (fs ++ gs)
  both-fates fs gs h k test =
      let both : (kind : Fate → Bool) → fates_that kind test (fs ++ gs) ≡ fates_that kind test fs + fates_that kind test gs =
      λ kind. count-fates (λ g. is_user g.message && (kind g && test g.message)) fs gs in
      omega (arith, both any_fate, both (goes_on c), both is_refused, both (is_delivered c), both (sccp_takes c), h test, k test)

-- ---- what the rules make of a message

module _ (c : Configuration) (n : Node WholeQueues) where
  -- queued, held or refused
  offer-fit : (h s p : Bool) → (not h || s) ≡ true → (room : Option Cause) (waiting : Bool) (link from : Option ℕ) (m : Message) → is_fit h s p (offer whole c room waiting link from m n).outcome ≡ true
  offer-fit h s p e (Some cause) waiting link from m = refl
  offer-fit h s p e None true link from m = e
  offer-fit h s p e None false None from m = refl
  offer-fit h s p e None false (Some link) from m = e

  either-fit : (h s p b : Bool) (d e : Done WholeQueues) → is_fit h s p d.outcome ≡ true → is_fit h s p e.outcome ≡ true → is_fit h s p (if b then d else e).outcome ≡ true
  either-fit h s p true d e f g = f
  either-fit h s p false d e f g = g

  transfer-fit : (h s p : Bool) → (not h || s) ≡ true → (from : Option ℕ) (m : Message) → is_fit h s p (transfer whole c from m n).outcome ≡ true
  transfer-fit h s p e from m =
      either-fit h s p (is_destination c (dpc_of m)) (offer whole c (no_room_for whole c m n) (waits c n.parts.holds m) (link_of c n.parts (flow_of m)) from m n) (refuse causes.UnknownDestination n)
      (offer-fit h s p e (no_room_for whole c m n) (waits c n.parts.holds m) (link_of c n.parts (flow_of m)) from m) refl

  relay-fit : (v : relays.RelayedValue) (m : Message) → is_fit true true true (relay_by whole c v m n).outcome ≡ true
  relay-fit relays.Delivered m = refl
  relay-fit (relays.Onward sif) m = transfer-fit true true true refl None (in_place_of m sif)
  relay-fit (relays.Heard news) m = refl
  relay-fit (relays.Refused cause) m = refl

  local-fit : (from : Option ℕ) (m : Message) → is_fit true (is_sccp m) (has_part c m) (local whole c from m n).outcome ≡ true
  local-fit from m = by (nat_eq (service_indicator m) sccp) (rules.is_user c (service_indicator m))
    where
      absent : Done WholeQueues
      absent = refuse causes.NoUserPart (answer_no_user_part whole c from (destination_place c (opc_of m)) m n)

      by : (b listed : Bool) → is_fit true b (b || listed) (if b then on_unitdata whole c m n else if listed then answer Local n else absent).outcome ≡ true
      by true listed = relay-fit (relays.relay (own_of c n.parts) n.parts.titles m.sif) m
      by false true = refl
      by false false = refl

  -- by where it goes
  deliver-fit : (link : ℕ) (m : Message) → is_management m ≡ false → (d : Discrimination) → whither_goes c m ≡ d → is_fit (is_here c m) (is_sccp m) (has_part c m) (deliver_to whole c d link m n).outcome ≡ true
  deliver-fit link m user (whither.Refused cause) e = refl
  deliver-fit link m user (whither.Here label) e =
      subst (λ (h : Bool). is_fit h (is_sccp m) (has_part c m) (deliver_to whole c (whither.Here label) link m n).outcome ≡ true) (sym (eq-eqb (dpc_of m) c.own (here-own c m label e)))
      (ap (λ (b : Bool). is_fit true (is_sccp m) (has_part c m) (if b then manage whole c link m n else local whole c (Some link) m n).outcome) user ∙ local-fit (Some link) m)
  deliver-fit link m user (whither.Transfer label) e =
      subst (λ (h : Bool). is_fit h (is_sccp m) (has_part c m) (deliver_to whole c (whither.Transfer label) link m n).outcome ≡ true) (sym (on-away c m label e))
      (transfer-fit false (is_sccp m) (has_part c m) refl (Some link) m)

  submit-fit : (m : Message) → is_management m ≡ false → (d : Discrimination) → whither_goes c m ≡ d → is_fit (is_here c m) (is_sccp m) (has_part c m) (submit_to whole c d m n).outcome ≡ true
  submit-fit m user (whither.Refused cause) e = refl
  submit-fit m user (whither.Here label) e =
      subst (λ (h : Bool). is_fit h (is_sccp m) (has_part c m) (submit_to whole c (whither.Here label) m n).outcome ≡ true) (sym (eq-eqb (dpc_of m) c.own (here-own c m label e)))
      (ap (λ (b : Bool). is_fit true (is_sccp m) (has_part c m) (if b then refuse causes.NotInProfile n else local whole c None m n).outcome) user ∙ local-fit None m)
  submit-fit m user (whither.Transfer label) e =
      subst (λ (h : Bool). is_fit h (is_sccp m) (has_part c m) (submit_to whole c (whither.Transfer label) m n).outcome ≡ true) (sym (on-away c m label e))
      (ap (λ (b : Bool). is_fit false (is_sccp m) (has_part c m) (if b then refuse causes.NotInProfile n else transfer whole c None m n).outcome) user
      ∙ transfer-fit false (is_sccp m) (has_part c m) refl None m)

-- ---- what it brings in

-- at most one message that stands in its place
abbrev IsFew : Message → List Message → Type 0
IsFew m ms = (ms ≡ []) ⊎ ((sif : List ℕ) × (ms ≡ in_place_of m sif ∷ []))

taken-few : (o : Outcome) (m : Message) (sif : List ℕ) → IsFew m (taken_in o (in_place_of m sif))
taken-few (Queued link) m sif = inr (sif, refl)
taken-few Held m sif = inr (sif, refl)
taken-few Local m sif = inl refl
taken-few Handled m sif = inl refl
taken-few Ignored m sif = inl refl
taken-few (Refused cause) m sif = inl refl

module _ (c : Configuration) (n : Node WholeQueues) (m : Message) where
  returned-few : (udts : Option (List ℕ)) → IsFew m (returned_in udts c m n)
  returned-few (Some sif) = taken-few (transfer whole c None (in_place_of m sif) n).outcome m sif
  returned-few None = inl refl

  -- one that isn't refused isn't returned
  relayed-few : (v : relays.RelayedValue) (o : Outcome) → answered_in o c m n ≡ [] → IsFew m (relayed_in v o m ++ answered_in o c m n)
  relayed-few relays.Delivered o e = inl e
  relayed-few (relays.Onward sif) o e = subst (λ (ms : List Message). IsFew m (taken_in o (in_place_of m sif) ++ ms)) (sym e) (alone (taken_in o (in_place_of m sif)) (taken-few o m sif))
    where
      alone : (ms : List Message) → IsFew m ms → IsFew m (ms ++ [])
      alone ms f = ⊎_elim (λ (g : ms ≡ []). inl (ap (λ (ks : List Message). ks ++ []) g)) (λ (g : (sif : List ℕ) × (ms ≡ in_place_of m sif ∷ [])). inr (g.0, ap (λ (ks : List Message). ks ++ []) g.1)) f
  relayed-few (relays.Heard news) o e = inl e
  relayed-few (relays.Refused cause) o e = inl e

  -- and one that is refused doesn't go on
  refused-few : (v : relays.RelayedValue) (cause : Cause) → IsFew m (relayed_in v (Refused cause) m ++ answered_in (Refused cause) c m n)
  refused-few relays.Delivered cause = returned-few (returned (own_of c n.parts) n.parts.titles m.sif cause)
  refused-few (relays.Onward sif) cause = returned-few (returned (own_of c n.parts) n.parts.titles m.sif cause)
  refused-few (relays.Heard news) cause = returned-few (returned (own_of c n.parts) n.parts.titles m.sif cause)
  refused-few (relays.Refused other) cause = returned-few (returned (own_of c n.parts) n.parts.titles m.sif cause)

  unitdata-few : (o : Outcome) → IsFew m (unitdata_in o c m n)
  unitdata-few (Queued link) = relayed-few (relays.relay (own_of c n.parts) n.parts.titles m.sif) (Queued link) refl
  unitdata-few Held = relayed-few (relays.relay (own_of c n.parts) n.parts.titles m.sif) Held refl
  unitdata-few Local = relayed-few (relays.relay (own_of c n.parts) n.parts.titles m.sif) Local refl
  unitdata-few Handled = relayed-few (relays.relay (own_of c n.parts) n.parts.titles m.sif) Handled refl
  unitdata-few Ignored = relayed-few (relays.relay (own_of c n.parts) n.parts.titles m.sif) Ignored refl
  unitdata-few (Refused cause) = refused-few (relays.relay (own_of c n.parts) n.parts.titles m.sif) cause

-- ---- so much comes to a node's books

pub record Adds (c : Configuration) (fs : List Fate) (brought made : List Message) : Type 0 where
  pub fates : HaveFates c fs
  pub accepted : (test : Message → Bool) → users_that test brought ≡ fates_that (goes_on c) test fs + users_that test made
  pub made_sccp : (test : Message → Bool) → users_that (λ m. not (is_sccp m) && test m) made ≡ 0
  pub made_once : users_that (λ m. true) made ≤ fates_that (is_for_sccp c) (λ m. true) fs

pub adds-nothing : (c : Configuration) → Adds c [] [] []
adds-nothing c = record { fates = no-fates c; accepted = λ test. refl; made_sccp = λ test. refl; made_once = omega arith }

none-if : (b : Bool) → one_if (b && false) ≡ 0
none-if true = refl
none-if false = refl

one-at-most : (b : Bool) → one_if b ≤ 1
one-at-most true = omega arith
one-at-most false = omega arith

short-true : (long managing : Bool) → long ≡ false → managing ≡ false → (not long && not managing) ≡ true
short-true true managing e f = absurd cc
short-true false true e f = absurd cc
short-true false false e f = refl

no-management : (k : ℕ) → nat_eq k sccp ≡ true → nat_lt k 2 ≡ false
no-management k e = grind (arith, nat_tests, e)

module _ (c : Configuration) (n : Node WholeQueues) (m : Message) where
  few-counts : (ms : List Message) → IsFew m ms → users_that (λ k. true) ms ≤ 1
  few-counts ms f =
      ⊎_elim (λ (g : ms ≡ []). omega (arith, ap (users_that (λ k. true)) g))
      (λ (g : (sif : List ℕ) × (ms ≡ in_place_of m sif ∷ [])).
      omega (arith, ap (users_that (λ k. true)) g.1, count-one (λ k. is_user k && true) (in_place_of m g.0), one-at-most (is_user (in_place_of m g.0) && true)))
      f

  few-sccp : (ms : List Message) → IsFew m ms → is_sccp m ≡ true → (test : Message → Bool) → users_that (λ k. not (is_sccp k) && test k) ms ≡ 0
  few-sccp ms f e test =
      ⊎_elim (λ (g : ms ≡ []). ap (users_that (λ k. not (is_sccp k) && test k)) g)
      (λ (g : (sif : List ℕ) × (ms ≡ in_place_of m sif ∷ [])).
      omega (
        arith,
        ap (users_that (λ k. not (is_sccp k) && test k)) g.1,
        count-one (λ k. is_user k && (not (is_sccp k) && test k)) (in_place_of m g.0),
        ap (λ (b : Bool). one_if (is_user (in_place_of m g.0) && (not b && test (in_place_of m g.0)))) e,
        none-if (is_user (in_place_of m g.0)),
      ))
      f

  module _ (o : Outcome) (fit : IsFit c (record { message = m; outcome = o })) where
    abbrev its : List Fate
    its = record { message = m; outcome = o } ∷ []

    one : (kind : Fate → Bool) (test : Message → Bool) → fates_that kind test its ≡ one_if (is_user m && (kind (record { message = m; outcome = o }) && test m))
    one kind test = omega (arith, count-fate (λ g. is_user g.message && (kind g && test g.message)) (record { message = m; outcome = o }) [])

    abbrev made_by : List Message → List Message
    made_by brought = made_of c (Some m) brought

    -- for another point
    away-taken : (out : Outcome) (test : Message → Bool) → users_that test (taken_in out m) ≡ one_if (is_user m && (is_taken_on out && test m))
    away-taken (Queued link) test = count-one (λ k. is_user k && test k) m
    away-taken Held test = count-one (λ k. is_user k && test k) m
    away-taken Local test = sym (none-if (is_user m))
    away-taken Handled test = sym (none-if (is_user m))
    away-taken Ignored test = sym (none-if (is_user m))
    away-taken (Refused cause) test = sym (none-if (is_user m))

    adds-away : is_here c m ≡ false → (brought : List Message) → brought ≡ taken_in o m → Adds c its brought (made_by brought)
    adds-away e brought is =
        let none : made_by brought ≡ [] = ap (λ (b : Bool). if b then brought else []) e in
        record {
          fates = one-fate c (record { message = m; outcome = o }) fit;
          accepted = λ test.
              omega (
                arith,
                ap (users_that test) is,
                away-taken o test,
                one (goes_on c) test,
                ap (λ (b : Bool). one_if (is_user m && ((not b && is_taken_on o) && test m))) e,
                ap (users_that test) none,
              );
          made_sccp = λ test. ap (users_that (λ k. not (is_sccp k) && test k)) none;
          made_once = omega (arith, ap (users_that (λ k. true)) none);
        }

    -- for this point
    adds-here : is_here c m ≡ true → (brought : List Message) → IsFew m brought → (is_sccp m ≡ false → brought ≡ []) → (is_sccp m ≡ true → is_user m ≡ true) → Adds c its brought (made_by brought)
    adds-here e brought few plain user = record {
      fates = one-fate c (record { message = m; outcome = o }) fit;
      accepted = λ test.
          omega (
            arith,
            one (goes_on c) test,
            ap (λ (b : Bool). one_if (is_user m && ((not b && is_taken_on o) && test m))) e,
            none-if (is_user m),
            ap (users_that test) all,
          );
      made_sccp = λ test. ap (users_that (λ k. not (is_sccp k) && test k)) all ∙ by (is_sccp m) refl test;
      made_once =
          let count : fates_that (is_for_sccp c) (λ k. true) its ≡ one_if (is_user m && (is_sccp m && true)) =
          one (is_for_sccp c) (λ k. true) ∙ ap (λ (b : Bool). one_if (is_user m && ((b && is_sccp m) && true))) e in
          omega (arith, ap (users_that (λ k. true)) all, count, counted (is_sccp m) refl);
    }
      where
        all : made_by brought ≡ brought
        all = ap (λ (b : Bool). if b then brought else []) e

        by : (s : Bool) → is_sccp m ≡ s → (test : Message → Bool) → users_that (λ k. not (is_sccp k) && test k) brought ≡ 0
        by true f test = few-sccp brought few f test
        by false f test = ap (users_that (λ k. not (is_sccp k) && test k)) (plain f)

        counted : (s : Bool) → is_sccp m ≡ s → users_that (λ k. true) brought ≤ one_if (is_user m && (s && true))
        counted true f = omega (arith, few-counts brought few, ap (λ (b : Bool). one_if (b && true)) (user f))
        counted false f = omega (arith, ap (users_that (λ k. true)) (plain f))

  -- by where it goes, where one that is refused before that isn't taken on
  module _ (outcome : Discrimination → Outcome) (refuses : (cause : Cause) → is_taken_on (outcome (whither.Refused cause)) ≡ false) where
    pub adds-by : (d : Discrimination) → whither_goes c m ≡ d → IsFit c (record { message = m; outcome = outcome d })
        → Adds c (record { message = m; outcome = outcome d } ∷ []) (brought_to d (outcome d) c m n) (made_of c (Some m) (brought_to d (outcome d) c m n))
    adds-by (whither.Refused cause) e fit = by (is_here c m) refl
      where
        o : Outcome
        o = outcome (whither.Refused cause)

        nothing : (out : Outcome) → is_taken_on out ≡ false → [] ≡ taken_in out m
        nothing (Queued link) f = absurd cc
        nothing Held f = absurd cc
        nothing Local f = refl
        nothing Handled f = refl
        nothing Ignored f = refl
        nothing (Refused its) f = refl

        by : (h : Bool) → is_here c m ≡ h → Adds c (record { message = m; outcome = o } ∷ []) [] (made_of c (Some m) [])
        by false f = adds-away o fit f [] (nothing o (refuses cause))
        by true f = record {
          fates = one-fate c (record { message = m; outcome = o }) fit;
          accepted = λ test.
              omega (
                arith,
                one o fit (goes_on c) test,
                ap (λ (b : Bool). one_if (is_user m && ((not b && is_taken_on o) && test m))) f,
                none-if (is_user m),
                ap (users_that test) (ap (λ (b : Bool). if b then [] else []) f),
              );
          made_sccp = λ test. ap (λ (b : Bool). users_that (λ k. not (is_sccp k) && test k) (if b then [] else [])) f;
          made_once = omega (arith, ap (λ (b : Bool). users_that (λ k. true) (if b then [] else [])) f);
        }
    adds-by (whither.Here label) e fit =
        adds-here (outcome (whither.Here label)) fit (eq-eqb (dpc_of m) c.own (here-own c m label e)) (brought_here (outcome (whither.Here label)) c m n)
        (few (is_sccp m)) (λ f. ap (λ (b : Bool). if b then unitdata_in (outcome (whither.Here label)) c m n else []) f)
        (λ f. short-true (is_long m) (is_management m) (here-short c m label e) (no-management (service_indicator m) f))
      where
        few : (s : Bool) → IsFew m (if s then unitdata_in (outcome (whither.Here label)) c m n else [])
        few true = unitdata-few c n m (outcome (whither.Here label))
        few false = inl refl
    adds-by (whither.Transfer label) e fit = adds-away (outcome (whither.Transfer label)) fit (on-away c m label e) (taken_in (outcome (whither.Transfer label)) m) refl

-- ---- as it comes, or is handed over

not-management : (long managing : Bool) → (not long && not managing) ≡ true → managing ≡ false
not-management long false e = refl
not-management true true e = absurd cc
not-management false true e = absurd cc

user-not : (m : Message) → is_user m ≡ true → is_management m ≡ false
user-not m e = not-management (is_long m) (is_management m) e

module _ (c : Configuration) (n : Node WholeQueues) (m : Message) where
  -- in a frame: once that is accepted, the message is delivered
  frame-outcome : (link : ℕ) (text : List ℕ) → new_message link text (record { settings = c; node = n; reroutings = first_reroutings c }) ≡ Some m
      → outcome_of whole (FrameCame link text) (record { settings = c; node = n; reroutings = first_reroutings c })
      ≡ (deliver_to whole c (whither_goes c m) link m (accept_text link (read_frame text) (record { settings = c; node = n; reroutings = first_reroutings c }))).outcome
  unfolding apply
  frame-outcome link text e = ap (λ (d : Done WholeQueues). d.outcome) (delivers c link m text n e)

  pub frame-adds : (link : ℕ) (text : List ℕ) → new_message link text (record { settings = c; node = n; reroutings = first_reroutings c }) ≡ Some m → (out : Outcome) → out ≡ outcome_of whole (FrameCame link text) (record { settings = c; node = n; reroutings = first_reroutings c })
      → let brought : List Message = brought_to (whither_goes c m) out c m (accept_text link (read_frame text) (record { settings = c; node = n; reroutings = first_reroutings c })) in
      Adds c (record { message = m; outcome = out } ∷ []) brought (made_of c (Some m) brought)
  frame-adds link text e out is =
      let accepted : Node WholeQueues = accept_text link (read_frame text) (record { settings = c; node = n; reroutings = first_reroutings c }) in
      subst (λ (o : Outcome). Adds c (record { message = m; outcome = o } ∷ []) (brought_to (whither_goes c m) o c m accepted) (made_of c (Some m) (brought_to (whither_goes c m) o c m accepted)))
      (sym (frame-outcome link text e) ∙ sym is)
      (adds-by c accepted m (λ d. (deliver_to whole c d link m accepted).outcome) (λ cause. refl) (whither_goes c m) refl
      (λ user. deliver-fit c accepted link m (user-not m user) (whither_goes c m) refl))

  submit-outcome : outcome_of whole (Submitted m) (record { settings = c; node = n; reroutings = first_reroutings c }) ≡ (submit_to whole c (whither_goes c m) m n).outcome
  unfolding apply
  submit-outcome = refl

  pub submit-adds : (out : Outcome) → out ≡ outcome_of whole (Submitted m) (record { settings = c; node = n; reroutings = first_reroutings c })
      → Adds c (record { message = m; outcome = out } ∷ []) (brought_to (whither_goes c m) out c m n) (made_of c (Some m) (brought_to (whither_goes c m) out c m n))
  submit-adds out is =
      subst (λ (o : Outcome). Adds c (record { message = m; outcome = o } ∷ []) (brought_to (whither_goes c m) o c m n) (made_of c (Some m) (brought_to (whither_goes c m) o c m n)))
      (sym submit-outcome ∙ sym is)
      (adds-by c n m (λ d. (submit_to whole c d m n).outcome) (λ cause. refl) (whither_goes c m) refl (λ user. submit-fit c n m (user-not m user) (whither_goes c m) refl))
