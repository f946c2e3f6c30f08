-- A failure holds the flows that fail with the link, and nothing after it touches holds.
use Rattle.exchange_rules.proofs.Basics.{◌≡◌, ◌<◌, ◌≤◌, ℕ, zero, suc, Bool, true, false, ◌&&◌, ◌||◌, not, List, [], ◌∷◌, length, nat_eq, Option, Some, None, refl, ap, sym, ◌∙◌, arith, inl, inr, if◌then◌else◌, Contains, list_any, option_eq, ⊎_elim, and_parts, cases_lt, eq-eqb, eqb-true, nat_tests, get_or_past, or_left as in-front, or_right as also-behind, and_from as both}
use Rattle.exchange_rules.proofs.Definitions.{Message, flow_of, is_management, Cause, FailureReason, Configuration, destination_place, Facts, chosen_link, Link, down_link, is_in_service, Changeover, SELECTIONS, HoldSet, holds, may_hold, with_flows, flows_leave, Parts, Node, with_parts, in_service, facts, goes_by, link_of, no_room, send, WholeQueues, whole, is_of_flow, is_failed, suspended, set_of, without_tests, has_other, is_ordered, changeover_order, changing, fail_link, without_tests_if_last, make_unavailable, begin, change_over, fail, begin_by_peer, fail_by_peer, HasPlacesFor}
use Rattle.signalling_types.specs.declared.notice.FailureReason.TheVariants as reasons
use Rattle.flow_hold.proofs.FlowPairs.{IsAddedPair, flows_has, flows_keep, flows_was}
use Rattle.exchange_rules.specs.LawsOfFailures.{HasUnconfirmed, FailsWith, IsFailure, failures_hold_their_flows, failures_by_peer_hold_their_flows, idle_failures_hold_nothing, idle_failures_by_peer_hold_nothing}

-- ---- which flows fail with a link

goes-so : (o : Option ℕ) (link : ℕ) → o ≡ Some link → goes_by o link ≡ true
goes-so o link e = ap (λ (o : Option ℕ). goes_by o link) e ∙ eq-eqb link link refl

goes-to : (o : Option ℕ) (link : ℕ) → goes_by o link ≡ true → o ≡ Some link
goes-to (Some its) link e = ap (λ (n : ℕ). Some n) (eqb-true its link e)
goes-to None link e = absurd cc

place-of : (o : Option ℕ) (destination : ℕ) → option_eq nat_eq o (Some destination) ≡ true → o ≡ Some destination
place-of (Some place) destination e = ap (λ (n : ℕ). Some n) (eqb-true place destination e)
place-of None destination e = absurd cc

not-so : (b : Bool) → not b ≡ true → b ≡ false
not-so true e = sym e
not-so false e = refl

-- a message of a list of which a test is true
record IsAmong (test : Message → Bool) (ms : List Message) : Type 0 where
  pub message : Message
  pub stands : Contains ms message
  pub passing : test message ≡ true

among-case : (b : Bool) (test : Message → Bool) (m : Message) (ms : List Message) → test m ≡ b → (list_any test ms ≡ true → IsAmong test ms) → (b || list_any test ms) ≡ true → IsAmong test (m ∷ ms)
among-case true test m ms here rest e = record { message = m; stands = (0, omega arith, refl); passing = here }
among-case false test m ms here rest e =
    let found : IsAmong test ms = rest e in
    record { message = found.message; stands = (suc found.stands.0, omega (arith, found.stands.1), found.stands.2); passing = found.passing }

among : (test : Message → Bool) (ms : List Message) → list_any test ms ≡ true → IsAmong test ms
among test [] e = absurd cc
among test (m ∷ ms) e = among-case (test m) test m ms refl (among test ms) e

any-of : (test : Message → Bool) (ms : List Message) (m : Message) → Contains ms m → test m ≡ true → list_any test ms ≡ true
any-of test [] m (k, l, e) h = absurd (omega (arith, l))
any-of test (x ∷ xs) m (zero, l, e) h = in-front (test x) (list_any test xs) (ap test e ∙ h)
any-of test (x ∷ xs) m (suc k, l, e) h = also-behind (test x) (list_any test xs) (any-of test xs m (k, omega (arith, l), e) h)

module _ (c : Configuration) (node : Node WholeQueues) (link : ℕ) where
  abbrev known : Facts
  known = facts c node.parts

  abbrev unconfirmed : List Message
  unconfirmed = whole.unconfirmed node.queues link

  fails-so : (destination sls : ℕ) → is_failed c known link unconfirmed destination sls ≡ true → FailsWith c node link destination sls
  fails-so destination sls e = fails-case (goes_by (chosen_link known destination sls) link) refl e
    where
      by-message : IsAmong (is_of_flow c destination sls) unconfirmed → HasUnconfirmed c node link destination sls
      by-message found =
          let m : Message = found.message in
          let its : Bool = option_eq nat_eq (destination_place c (flow_of m).point) (Some destination) in
          let parts : (not (is_management m) ≡ true) × ((its && nat_eq (flow_of m).sls sls) ≡ true) = and_parts (not (is_management m)) (its && nat_eq (flow_of m).sls sls) found.passing in
          let flow : (its ≡ true) × (nat_eq (flow_of m).sls sls ≡ true) = and_parts its (nat_eq (flow_of m).sls sls) parts.1 in
          record {
            message = m;
            stands = found.stands;
            user = not-so (is_management m) parts.0;
            to = place-of (destination_place c (flow_of m).point) destination flow.0;
            selection = eqb-true (flow_of m).sls sls flow.1;
          }

      fails-case : (b : Bool) → goes_by (chosen_link known destination sls) link ≡ b → (b || list_any (is_of_flow c destination sls) unconfirmed) ≡ true → FailsWith c node link destination sls
      fails-case true goes e = inl (goes-to (chosen_link known destination sls) link goes)
      fails-case false goes e = inr (by-message (among (is_of_flow c destination sls) unconfirmed e))

  so-fails : (destination sls : ℕ) → FailsWith c node link destination sls → is_failed c known link unconfirmed destination sls ≡ true
  so-fails destination sls (inl e) =
      in-front (goes_by (chosen_link known destination sls) link) (list_any (is_of_flow c destination sls) unconfirmed) (goes-so (chosen_link known destination sls) link e)
  so-fails destination sls (inr h) =
      let m : Message = h.message in
      let its : Bool = option_eq nat_eq (destination_place c (flow_of m).point) (Some destination) in
      also-behind (goes_by (chosen_link known destination sls) link) (list_any (is_of_flow c destination sls) unconfirmed)
      (any-of (is_of_flow c destination sls) unconfirmed m h.stands
      (both (not (is_management m)) (its && nat_eq (flow_of m).sls sls) (ap not h.user)
      (both its (nat_eq (flow_of m).sls sls)
      (ap (λ (o : Option ℕ). option_eq nat_eq o (Some destination)) h.to ∙ eq-eqb destination destination refl) (eq-eqb (flow_of m).sls sls h.selection))))

-- ---- what a failure does to holds

module _ (c : Configuration) where
  send-holds : (room : Option Cause) (link : Option ℕ) (m : Message) (n : Node WholeQueues) → (send whole c room link m n).parts.holds ≡ n.parts.holds
  send-holds (Some cause) link m n = refl
  send-holds None None m n = refl
  send-holds None (Some link) m n = refl

  begin-holds : (b : Bool) (link : ℕ) (n : Node WholeQueues) → (begin whole c b link n).parts.holds ≡ n.parts.holds
  begin-holds true link n =
      let m : Message = changeover_order c link (whole.last_accepted n.queues link) in
      let next : Node WholeQueues = with_parts n (changing c true link n.parts) in
      send-holds (no_room whole c m next.queues) (link_of c next.parts (flow_of m)) m next
  begin-holds false link n = refl

  change_over-holds : (b : Bool) (link : ℕ) (n : Node WholeQueues) → (change_over whole c b link n).parts.holds ≡ n.parts.holds
  change_over-holds true link n = begin-holds (is_ordered c link n.parts) link n
  change_over-holds false link n = refl

  begin_by_peer-holds : (b : Bool) (link : ℕ) (n : Node WholeQueues) → (begin_by_peer whole c b link n).parts.holds ≡ n.parts.holds
  begin_by_peer-holds true link n = refl
  begin_by_peer-holds false link n = refl

  either-holds : (b : Bool) (p r : Parts) (h : HoldSet) → p.holds ≡ h → r.holds ≡ h → (if b then p else r).holds ≡ h
  either-holds true p r h e f = e
  either-holds false p r h e f = f

  -- what its changeover holds in the end
  abbrev pub failed-holds : ℕ → Node WholeQueues → HoldSet
  failed-holds link n = with_flows n.parts.holds (Changeover link) (is_failed c (facts c n.parts) link (whole.unconfirmed n.queues link))

  unavailable-holds : (b : Bool) (link : ℕ) (why : FailureReason) (n : Node WholeQueues) → b ≡ true → (make_unavailable whole c b link why n).parts.holds ≡ failed-holds link n
  unavailable-holds true link why n e = without-holds (fail_link link why (suspended c link (whole.unconfirmed n.queues link) n.parts))
    where
      without-holds : (p : Parts) → (without_tests_if_last c link p).holds ≡ p.holds
      without-holds p = either-holds (has_other c link p) p (without_tests (set_of c link) p) p.holds refl refl
  unavailable-holds false link why n e = absurd cc

  idle-holds : (b : Bool) (link : ℕ) (why : FailureReason) (n : Node WholeQueues) → b ≡ false → (make_unavailable whole c b link why n).parts.holds ≡ n.parts.holds
  idle-holds true link why n e = absurd cc
  idle-holds false link why n e = refl

  -- a link in service is there
  serving-there : (p : Parts) (link : ℕ) → in_service p link ≡ true → link < length p.links
  serving-there p link e =
      ⊎_elim (λ (l : link < length p.links). l)
      (λ (l : length p.links ≤ link). absurd (none (sym (ap (λ (x : Link). is_in_service x.alignment) (get_or_past p.links link down_link l)) ∙ e)))
      (cases_lt link (length p.links))
    where
      none : false ≡ true → ⊥
      none e = absurd cc

  may-suspend : (n : Node WholeQueues) (link destination sls : ℕ) → HasPlacesFor c n.parts → in_service n.parts link ≡ true → destination < length c.destinations → sls < SELECTIONS
      → may_hold n.parts.holds (Changeover link) destination sls ≡ true
  may-suspend n link destination sls fits serves there few =
      let here : link < n.parts.holds.links = omega (arith, serving-there n.parts link serves, fits.links, fits.holds.links) in
      let known : destination < n.parts.holds.destinations = omega (arith, there, fits.holds.destinations) in
      grind (arith, nat_tests, here, known, few)

  -- a failure, by what it leaves of holds
  pub is_failure : (link : ℕ) (n m : Node WholeQueues) → HasPlacesFor c n.parts → in_service n.parts link ≡ true → m.parts.holds ≡ failed-holds link n → IsFailure c link n m
  is_failure link n m fits serves e =
      let test : (ℕ → ℕ → Bool) = is_failed c (facts c n.parts) link (whole.unconfirmed n.queues link) in
      record {
        own = λ destination sls there few. (
          (λ h. ⊎_elim
              (λ (a : IsAddedPair n.parts.holds (Changeover link) test (Changeover link) destination sls). inl (fails-so c n link destination sls a.passing))
              (λ (f : holds n.parts.holds (Changeover link) destination sls ≡ true). inr f)
              (flows_was n.parts.holds (Changeover link) (Changeover link) test destination sls (ap (λ (x : HoldSet). holds x (Changeover link) destination sls) (sym e) ∙ h))),
          (λ h. ap (λ (x : HoldSet). holds x (Changeover link) destination sls) e ∙ ⊎_elim
              (λ (f : FailsWith c n link destination sls).
              flows_has n.parts.holds (Changeover link) test destination sls (may-suspend n link destination sls fits serves there few) (so-fails c n link destination sls f))
              (λ (f : holds n.parts.holds (Changeover link) destination sls ≡ true). flows_keep n.parts.holds (Changeover link) (Changeover link) test destination sls f)
              h),
        );
        others = λ procedure destination sls apart.
            ap (λ (x : HoldSet). holds x procedure destination sls) e ∙ flows_leave n.parts.holds (Changeover link) procedure test destination sls apart;
      }

pub failed_so : failures_hold_their_flows
failed_so c link why n fits serves =
    let b : Bool = in_service n.parts link in
    is_failure c link n (fail whole c link why n) fits serves
    (change_over-holds c b link (make_unavailable whole c b link why n) ∙ unavailable-holds c b link why n serves)

pub failed_by_peer_so : failures_by_peer_hold_their_flows
failed_by_peer_so c link n fits serves =
    let b : Bool = in_service n.parts link in
    is_failure c link n (fail_by_peer whole c link n) fits serves
    (begin_by_peer-holds c b link (make_unavailable whole c b link reasons.Changeover n) ∙ unavailable-holds c b link reasons.Changeover n serves)

pub idle_so : idle_failures_hold_nothing
idle_so c link why n e =
    let b : Bool = in_service n.parts link in
    change_over-holds c b link (make_unavailable whole c b link why n) ∙ idle-holds c b link why n e

pub idle_by_peer_so : idle_failures_by_peer_hold_nothing
idle_by_peer_so c link n e =
    let b : Bool = in_service n.parts link in
    begin_by_peer-holds c b link (make_unavailable whole c b link reasons.Changeover n) ∙ idle-holds c b link reasons.Changeover n e
