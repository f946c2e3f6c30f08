-- If a rule puts a message on the queue of a link, that link carries traffic.
use Rattle.exchange_rules.proofs.Basics.{and_parts, ◌&&◌, not, Bool, List, None, Option, Some, [], ap, false, inl, inr, length, refl, subst, suc, sym, true, zero, ℕ, ◌∙◌, ◌∷◌, ◌≡◌, ◌≢◌, ◌⊎◌, ⊎_elim, cases_eq, get_or-set_other, if◌then◌else◌}
use Rattle.exchange_rules.proofs.Definitions.{take_step, test_if, queue_if, send_test, awaiting_test, link_test, tests_links, test_passed, is_first_test, pass_test, step_on, begun_anew, begin_traffic, has_other, link_at, down_link, carries_traffic, declared_by_test_in_traffic, tested_in_service, Transition, Queue, appended, emptied, first_queue, Link, Owed, owed, Facts, Configuration, Message, flow_of, Cause, LostUnconfirmed, code_for, declaration, hold_flows, loses_flows, take_back_each, complete_if, concluded, judged, lifted_parts, lose, lose_each, send_each, waits, GivesInTraffic, declared_in_traffic, queued_anew_in_traffic, routed_in_traffic, settled_in_traffic, in_service, in_traffic, send, send_anew, send_routed, no_room, queue_on, WholeQueues, queue_at, whole, go, go_by, go_each, go_on, release, facts, link_of, Found, Node, Parts, with_parts, advance, enters, enters_traffic, moved_on, return_if, may_tell, route_message, tell_each, tell_if, tell_owed, told_parts}
use Rattle.exchange_rules.proofs.Combining.{changed}
use Rattle.exchange_rules.proofs.LeavingMessages.{chosen_carries}
use Rattle.exchange_rules.proofs.SteppingLinks.{stepped-other, tested-links}
use Rattle.exchange_rules.proofs.SteppingEntries.{anew-link}
use Rattle.exchange_rules.proofs.SteppingReturns.{Went, all-went}
use Rattle.exchange_rules.proofs.TakenBack.{went}
use Rattle.exchange_rules.proofs.TakenPairs.{take_back_each-alike}
use Rattle.exchange_rules.specs.Telling as telling

-- a link carries traffic as before, and its queue is as it was unless it does
record Gives (l : ℕ) (n m : Node WholeQueues) : Type 0 where
  same : in_traffic m.parts l ≡ in_traffic n.parts l
  queue : (queue_at m.queues l ≡ queue_at n.queues l) ⊎ (in_traffic n.parts l ≡ true)

module _ (l : ℕ) where
  none-gives : (n m : Node WholeQueues) → m.parts.links ≡ n.parts.links → m.queues.links ≡ n.queues.links → Gives l n m
  none-gives n m e f = record {
    same = ap (λ (links : List Link). in_traffic (record n.parts { links = links }) l) e;
    queue = inl (ap (λ (qs : List Queue). queue_at (record n.queues { links = qs }) l) f);
  }

  both-give : (n m o : Node WholeQueues) → Gives l n m → Gives l m o → Gives l n o
  both-give n m o e f = record { same = f.same ∙ e.same; queue = by e.queue f.queue }
    where
      by : (queue_at m.queues l ≡ queue_at n.queues l) ⊎ (in_traffic n.parts l ≡ true) → (queue_at o.queues l ≡ queue_at m.queues l) ⊎ (in_traffic m.parts l ≡ true)
          → (queue_at o.queues l ≡ queue_at n.queues l) ⊎ (in_traffic n.parts l ≡ true)
      by (inl g) (inl h) = inl (h ∙ g)
      by (inl g) (inr h) = inr (sym e.same ∙ h)
      by (inr g) h = inr g

  in-the-end : (n m : Node WholeQueues) → Gives l n m → GivesInTraffic l n m
  in-the-end n m g changed = g.same ∙ by g.queue
    where
      by : (queue_at m.queues l ≡ queue_at n.queues l) ⊎ (in_traffic n.parts l ≡ true) → in_traffic n.parts l ≡ true
      by (inl same) = absurd (changed same)
      by (inr serves) = serves

  module _ (c : Configuration) where
    queued-gives : (k : ℕ) (m : Message) (n : Node WholeQueues) → in_traffic n.parts k ≡ true → Gives l n (queue_on whole c k m n)
    queued-gives k m n e = record {
      same = refl;
      queue = ⊎_elim
          (λ (its : l ≡ k). inr (subst (λ (i : ℕ). in_traffic n.parts i ≡ true) (sym its) e))
          (λ (d : l ≢ k). inl (get_or-set_other n.queues.links k l (appended (queue_at n.queues k) m) first_queue d))
          (cases_eq l k);
    }

    send-gives : (room : Option Cause) (link : Option ℕ) (m : Message) (n : Node WholeQueues) → link_of c n.parts (flow_of m) ≡ link → Gives l n (send whole c room link m n)
    send-gives (Some cause) link m n e = none-gives n _ refl refl
    send-gives None None m n e = none-gives n _ refl refl
    send-gives None (Some link) m n e = queued-gives link m n (chosen_carries c n.parts (flow_of m) link e)

    routed-gives : (m : Message) (n : Node WholeQueues) → Gives l n (send_routed whole c m n)
    routed-gives m n = send-gives (no_room whole c m n.queues) (link_of c n.parts (flow_of m)) m n refl

    anew-gives : (ms : List Message) (n : Node WholeQueues) → Gives l n (send_each whole c ms n)
    anew-gives [] n = none-gives n n refl refl
    anew-gives (m ∷ ms) n =
        both-give n (send_anew whole c m n) _ (send-gives None (link_of c n.parts (flow_of m)) m n refl) (anew-gives ms (send_anew whole c m n))

    -- ---- a release, and what is told

    go_on-gives : (link : Option ℕ) (m : Message) (n : Node WholeQueues) → link_of c n.parts (flow_of m) ≡ link → Gives l n (go_on whole c link m n)
    go_on-gives (Some link) m n e = queued-gives link m n (chosen_carries c n.parts (flow_of m) link e)
    go_on-gives None m n e = none-gives n _ refl refl

    go_by-gives : (waiting : Bool) (m : Message) (n : Node WholeQueues) → Gives l n (go_by whole c waiting m n)
    go_by-gives true m n = none-gives n _ refl refl
    go_by-gives false m n = go_on-gives (link_of c n.parts (flow_of m)) m n refl

    go_each-gives : (ms : List Message) (n : Node WholeQueues) → Gives l n (go_each whole c ms n)
    go_each-gives [] n = none-gives n n refl refl
    go_each-gives (m ∷ ms) n = both-give n (go whole c m n) _ (go_by-gives (waits c n.parts.holds m) m n) (go_each-gives ms (go whole c m n))

    release-gives : (n : Node WholeQueues) → Gives l n (release whole c n)
    release-gives n =
        let out : Node WholeQueues = record n { queues = whole.without_held n.queues } in
        both-give n out _ (none-gives n out refl refl) (go_each-gives n.queues.held out)

    tell-gives : (o : Owed) (n : Node WholeQueues) → Gives l n (telling.tell whole c o n)
    tell-gives o n =
        let next : Node WholeQueues = with_parts n (told_parts c o n.parts) in
        both-give n next _ (none-gives n next refl refl) (routed-gives (route_message c o.set o.destination o.status) next)

    tell_if-gives : (b : Bool) (o : Owed) (n : Node WholeQueues) → Gives l n (if b then telling.tell whole c o n else n)
    tell_if-gives true o n = tell-gives o n
    tell_if-gives false o n = none-gives n n refl refl

    tell_each-gives : (os : List Owed) (n : Node WholeQueues) → Gives l n (tell_each whole c os n)
    tell_each-gives [] n = none-gives n n refl refl
    tell_each-gives (o ∷ os) n = both-give n (tell_if whole c o n) _ (tell_if-gives (may_tell whole c n) o n) (tell_each-gives os (tell_if whole c o n))

    tell_owed-gives : (n : Node WholeQueues) → Gives l n (tell_owed whole c n)
    unfolding tell_owed
    tell_owed-gives n = tell_each-gives (owed (facts c n.parts) n.parts.told) n

    -- ---- a completion

    judged-links : (reasonable : Bool) (link : ℕ) (p : Parts) → (lifted_parts link (judged reasonable p)).links ≡ p.links
    judged-links true link p = refl
    judged-links false link p = refl

    lose_each-links : (ms : List Message) (p : Parts) → (lose_each ms p).links ≡ p.links
    lose_each-links [] p = refl
    lose_each-links (m ∷ ms) p = lose_each-links ms (lose LostUnconfirmed m p)

    completed-gives : (failed : ℕ) (number : Option ℕ) (n : Node WholeQueues) → l ≢ failed → Gives l n (complete_if whole c true failed number n)
    completed-gives failed number n d =
        let found : Found = whole.found n.queues failed number in
        let done : Node WholeQueues = record { queues = whole.completed n.queues failed number; parts = concluded failed found n.parts } in
        both-give n done _
        (record {
          same = ap (λ (links : List Link). in_traffic (record n.parts { links = links }) l)
              (judged-links found.is_reasonable failed (lose_each found.lost n.parts) ∙ lose_each-links found.lost n.parts);
          queue = inl (get_or-set_other n.queues.links failed l (emptied (queue_at n.queues failed)) first_queue d);
        })
        (anew-gives found.queued_anew done)

    -- ---- a return

    -- a declaration goes to a link that lost a flow
    module _ (link : ℕ) (before : Parts) (after : Facts) where
      hold_flows-declares : (code : Option ℕ) (other : ℕ) (n : Node WholeQueues) → Went link before other → (queue_at (hold_flows whole c (facts c before) after code link other n).queues l ≡ queue_at n.queues l) ⊎ Went link before l
      hold_flows-declares (Some code) other n w =
          ⊎_elim
          (λ (its : l ≡ other). inr (subst (λ (i : ℕ). Went link before i) (sym its) w))
          (λ (d : l ≢ other). inl (get_or-set_other n.queues.links other l (appended (queue_at n.queues other) (declaration c link code)) first_queue d))
          (cases_eq l other)
      hold_flows-declares None other n w = inl refl

      take_back-declares : (loses : Bool) (code : Option ℕ) (other : ℕ) (n : Node WholeQueues) → (loses ≡ true → Went link before other)
          → (queue_at (if loses then hold_flows whole c (facts c before) after code link other n else n).queues l ≡ queue_at n.queues l) ⊎ Went link before l
      take_back-declares true code other n w = hold_flows-declares code other n (w refl)
      take_back-declares false code other n w = inl refl

      take_back_each-declares : (many : ℕ) (n : Node WholeQueues) → (queue_at (take_back_each whole c (facts c before) after link many n).queues l ≡ queue_at n.queues l) ⊎ Went link before l
      unfolding take_back_each
      take_back_each-declares zero n = inl refl
      take_back_each-declares (suc other) n =
          let one : Node WholeQueues = take_back_each whole c (facts c before) after link other n in
          ⊎_elim
          (λ (same : queue_at one.queues l ≡ queue_at n.queues l). ⊎_elim
          (λ e. inl (e ∙ same)) (λ (w : Went link before l). inr w)
          (take_back-declares (loses_flows c (facts c before) after other link) (code_for whole c link other one) other one (all-went c link before after other)))
          (λ (w : Went link before l). inr w)
          (take_back_each-declares other n)

    return-gives : (begins : Bool) (link : ℕ) (before : Parts) (n : Node WholeQueues) → (Went link before l → in_traffic n.parts l ≡ true)
        → Gives l n (return_if whole c begins link (facts c before) n)
    return-gives true link before n went = record {
      same = ap (λ (links : List Link). in_traffic (record n.parts { links = links }) l) (take_back_each-alike whole c (facts c before) (facts c n.parts) link (length c.links) n).links;
      queue = ⊎_elim (λ e. inl e) (λ (w : Went link before l). inr (went w)) (take_back_each-declares link before (facts c n.parts) (length c.links) n);
    }
    return-gives false link before n went = none-gives n n refl refl

    -- links that didn't change carry traffic as before, as one begins to
    begun-gives : (begins : Bool) (link : ℕ) (new : Parts) (n : Node WholeQueues) → ((other : ℕ) → other ≢ link → link_at new other ≡ link_at n.parts other)
        → Gives l (with_parts n (begun_anew begins c link n.parts new)) (begin_traffic whole c begins link new n)
    begun-gives begins link new n others =
        return-gives begins link n.parts (with_parts n (begun_anew begins c link n.parts new))
        (λ (w : Went link n.parts l).
        ap carries_traffic (anew-link (begins && not (has_other c link n.parts)) c link l new ∙ others l w.apart) ∙ w.carried)

    -- a test goes out on its link, and on no other
    queue_if-other : (room : Option Cause) (link : ℕ) (n : Node WholeQueues) → l ≢ link → Gives l n (queue_if whole c room link (link_test c link) n)
    queue_if-other (Some cause) link n d = none-gives n n refl refl
    queue_if-other None link n d = record { same = refl; queue = inl (get_or-set_other n.queues.links link l (appended (queue_at n.queues link) (link_test c link)) first_queue d) }

    probed-other : (begins : Bool) (link : ℕ) (n : Node WholeQueues) → l ≢ link → Gives l n (if begins then send_test whole c link n else n)
    probed-other true link n d =
        let next : Node WholeQueues = with_parts n (awaiting_test c link n.parts) in
        both-give n next _ (none-gives n next refl refl) (queue_if-other (no_room whole c (link_test c link) n.queues) link next d)
    probed-other false link n d = none-gives n n refl refl

    tested-other : (entered : Bool) (link : ℕ) (n : Node WholeQueues) → l ≢ link → Gives l n (test_if whole c entered link n)
    tested-other true link n d = probed-other (tests_links c && in_service n.parts link) link n d
    tested-other false link n d = none-gives n n refl refl

    advance-gives : (link : ℕ) (step : Transition) (n : Node WholeQueues) → l ≢ link → GivesInTraffic l n (advance whole c link step n)
    advance-gives link step n d =
        let next : Node WholeQueues = with_parts n (moved_on c link step n.parts) in
        in-the-end next (advance whole c link step n)
        (both-give next (take_step whole c link step n) _
        (begun-gives (enters_traffic link step n.parts) link (step_on c link step n.parts) n (λ other apart. stepped-other c link other step n.parts apart))
        (tested-other (enters link step n.parts) link (take_step whole c link step n) d))

    passed-gives : (link : ℕ) (n : Node WholeQueues) → GivesInTraffic l n (pass_test whole c link n)
    passed-gives link n =
        in-the-end (with_parts n (begun_anew (is_first_test link n.parts) c link n.parts (test_passed c link n.parts))) (pass_test whole c link n)
        (begun-gives (is_first_test link n.parts) link (test_passed c link n.parts) n
        (λ other apart. get_or-set_other n.parts.links link other (record (link_at n.parts link) { test_failed = false; untested = false }) down_link apart))

-- ---- the link's own queue

module _ (c : Configuration) (its : ℕ) where
  own-returned : (begins : Bool) (before : Parts) (n : Node WholeQueues) → queue_at (return_if whole c begins its (facts c before) n).queues its ≡ queue_at n.queues its
  own-returned true before n =
      ⊎_elim (λ e. e) (λ (w : Went its before its). absurd (w.apart refl)) (take_back_each-declares its c its before (facts c n.parts) (length c.links) n)
  own-returned false before n = refl

  own-probed : (begins : Bool) (n : Node WholeQueues) → (begins ≡ true → in_service n.parts its ≡ true) → queue_at (if begins then send_test whole c its n else n).queues its ≢ queue_at n.queues its
      → in_service n.parts its ≡ true
  own-probed true n serves changed = serves refl
  own-probed false n serves changed = absurd (changed refl)

  own-tested : (entered : Bool) (n : Node WholeQueues) → queue_at (test_if whole c entered its n).queues its ≢ queue_at n.queues its → in_service n.parts its ≡ true
  own-tested true n changed = own-probed (tests_links c && in_service n.parts its) n (λ e. (and_parts (tests_links c) (in_service n.parts its) e).1) changed
  own-tested false n changed = absurd (changed refl)

  own-advanced : (step : Transition) (n : Node WholeQueues) → queue_at (advance whole c its step n).queues its ≢ queue_at n.queues its → in_service (advance whole c its step n).parts its ≡ true
  own-advanced step n changed =
      let took : Node WholeQueues = take_step whole c its step n in
      ap (λ (links : List Link). in_service (record n.parts { links = links }) its) (tested-links (enters its step n.parts) c its took)
      ∙ own-tested (enters its step n.parts) took
      (λ same. changed (same ∙ own-returned (enters_traffic its step n.parts) n.parts (with_parts n (moved_on c its step n.parts))))

pub routed-serve : routed_in_traffic
routed-serve c m n link = in-the-end link n (send_routed whole c m n) (routed-gives link c m n)

pub declared-serve : declared_in_traffic
declared-serve c its step n link d = advance-gives link c its step n d

pub test-declares : declared_by_test_in_traffic
test-declares c its n link = passed-gives link c its n

pub tested-serve : tested_in_service
tested-serve c its step n changed = own-advanced c its step n changed

pub anew-serve : queued_anew_in_traffic
anew-serve c failed number n link d = in-the-end link n (complete_if whole c true failed number n) (completed-gives link c failed number n d)

pub settled-serve : settled_in_traffic
settled-serve c n link =
    in-the-end link n (tell_owed whole c (release whole c n)) (both-give link n (release whole c n) _ (release-gives link c n) (tell_owed-gives link c (release whole c n)))
