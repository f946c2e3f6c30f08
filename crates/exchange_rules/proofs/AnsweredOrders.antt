-- An order of the peer is answered, by whatever link it came, and awaits no answer itself.
use Rattle.exchange_rules.proofs.Basics.{◌≡◌, ◌<◌, ◌≤◌, ◌⊎◌, inl, inr, ℕ, Bool, true, false, List, [], ◌∷◌, length, Option, Some, None, Result, refl, ap, sym, subst, ◌∙◌, arith, nat_tests, nat_eq, nat_le, nat_lt, is_some, if◌then◌else◌, ⊎_elim, cases_lt, get_or_past, get_or-set_same, length-set}
use Rattle.exchange_rules.proofs.Definitions.{Configuration, Message, flow_of, opc_of, destination_place, set_place, Facts, chosen_link, link_in_set, testing, do_test, read_link_test, Cause, ManagementFull, ExtendedChangeoverAcknowledgement, Management, MgmtFault, Standing, no_changeover, completed, begun_by_peer, Queue, first_queue, appended, Parts, Node, Done, Found, with_parts, down, in_service, changeover_of, with_changeover, fail_link, link_of, set_of, peer_of, entry_of, suspended, without_tests, no_room, send, has_other, make_unavailable, begin_by_peer, fail_by_peer, fail_by_order, lose_each, judged, concluded, send_each, send_anew, complete_if, complete_by_order, changeover_acknowledgement, on_changeover_order, do_management, do_order, distribute, link_with_code, WholeQueues, queue_at, whole, HasAllPlaces, first_state, read_management, bar}
use Rattle.std.specs.Option.{option_and_then}
use Rattle.signalling_types.specs.Numbers.{previous_number}
use Rattle.signalling_types.specs.declared.notice.FailureReason.TheVariants as reasons
use Rattle.exchange_rules.specs.Messages.{on_management}
use Rattle.exchange_rules.specs.LawsOfAnyRoute.{IsOrder, IsAnswered, StandsLast, order_with, orders_are_answered, links_that_await_are_down}
use Rattle.exchange_rules.proofs.FarPoints.{managed}
use Rattle.exchange_rules.proofs.LastingLinks.{links-first, links-stay}
use Rattle.exchange_rules.proofs.LastingPlaces.{places-first, places-steps}
use Rattle.exchange_rules.proofs.LeavingMessages.{chosen_serves}
use Rattle.exchange_rules.proofs.Lists.{alike-at}
use Rattle.exchange_rules.proofs.Moves.{serving-there}
use Rattle.exchange_rules.proofs.OrdersByAnyRoute.{management-room, send-changeovers}
use Rattle.exchange_rules.proofs.OwnManagement.{made-management}
use Rattle.exchange_rules.proofs.Receiving.{same-steps}
use Rattle.exchange_rules.proofs.SteppingFailures.{complete_by_order-steps, fail_by_order-steps, bar-steps}
use Rattle.exchange_rules.proofs.Telling.{send-routes}

module _ (c : Configuration) where
  -- ---- whose answer is awaited

  send_each-changeovers : (ms : List Message) (n : Node WholeQueues) → (send_each whole c ms n).parts.changeovers ≡ n.parts.changeovers
  send_each-changeovers [] n = refl
  send_each-changeovers (m ∷ ms) n = send_each-changeovers ms (send_anew whole c m n) ∙ send-changeovers c None (link_of c n.parts (flow_of m)) m n

  lose_each-changeovers : (ms : List Message) (p : Parts) → (lose_each ms p).changeovers ≡ p.changeovers
  lose_each-changeovers [] p = refl
  lose_each-changeovers (m ∷ ms) p = lose_each-changeovers ms _

  judged-changeovers : (reasonable : Bool) (p : Parts) → (judged reasonable p).changeovers ≡ p.changeovers
  judged-changeovers true p = refl
  judged-changeovers false p = refl

  concluded-changeovers : (link : ℕ) (found : Found) (p : Parts) → (concluded link found p).changeovers ≡ p.changeovers
  concluded-changeovers link found p = judged-changeovers found.is_reasonable (lose_each found.lost p) ∙ lose_each-changeovers found.lost p

  pub complete_if-changeovers : (incomplete : Bool) (link : ℕ) (number : Option ℕ) (n : Node WholeQueues) → (complete_if whole c incomplete link number n).parts.changeovers ≡ n.parts.changeovers
  complete_if-changeovers true link number n =
      let found : Found = whole.found n.queues link number in
      send_each-changeovers found.queued_anew (record { queues = whole.completed n.queues link number; parts = concluded link found n.parts })
      ∙ concluded-changeovers link found n.parts
  complete_if-changeovers false link number n = refl

  gone-changeovers : (served : Bool) (link : ℕ) (n : Node WholeQueues) → (make_unavailable whole c served link reasons.Changeover n).parts.changeovers ≡ n.parts.changeovers
  gone-changeovers false link n = refl
  gone-changeovers true link n = by (has_other c link failed)
    where
      failed : Parts
      failed = fail_link link reasons.Changeover (suspended c link (whole.unconfirmed n.queues link) n.parts)

      by : (others : Bool) → (if others then failed else without_tests (set_of c link) failed).changeovers ≡ n.parts.changeovers
      by true = refl
      by false = refl

  -- of all links the same are awaited
  pub record AwaitsAs (n m : Node WholeQueues) : Type 0 where
    pub same : (other : ℕ) → (changeover_of m.parts other).awaited ≡ (changeover_of n.parts other).awaited

  as-before : (n m : Node WholeQueues) → m.parts.changeovers ≡ n.parts.changeovers → AwaitsAs n m
  as-before n m e = record { same = λ other. ap (λ (all : List Standing). (changeover_of (record n.parts { changeovers = all }) other).awaited) e }

  as-both : (n m o : Node WholeQueues) → AwaitsAs n m → AwaitsAs m o → AwaitsAs n o
  as-both n m o e f = record { same = λ other. f.same other ∙ e.same other }

  as-set : (link : ℕ) (s : Standing) (n : Node WholeQueues) → s.awaited ≡ (changeover_of n.parts link).awaited → AwaitsAs n (with_parts n (with_changeover link s n.parts))
  as-set link s n e = record { same = λ other. alike-at (λ (x : Standing). x.awaited) n.parts.changeovers link other s no_changeover e }

  by_peer-awaits : (served : Bool) (link : ℕ) (n : Node WholeQueues) → AwaitsAs n (begin_by_peer whole c served link (make_unavailable whole c served link reasons.Changeover n))
  by_peer-awaits true link n =
      let gone : Node WholeQueues = make_unavailable whole c true link reasons.Changeover n in
      as-both n gone _ (as-before n gone (gone-changeovers true link n)) (as-set link (begun_by_peer (changeover_of gone.parts link)) gone refl)
  by_peer-awaits false link n = as-before n _ refl

  either-awaits : (b : Bool) (n m : Node WholeQueues) → AwaitsAs n m → AwaitsAs n (if b then n else m)
  either-awaits true n m e = as-before n n refl
  either-awaits false n m e = e

  module _ (link : ℕ) (number : Option ℕ) (n : Node WholeQueues) where
    abbrev fallen : Node WholeQueues
    fallen = fail_by_order whole c link n

    abbrev one : Node WholeQueues
    one = bar whole c link fallen

    abbrev ended : Node WholeQueues
    ended = with_parts one (with_changeover link (completed (changeover_of one.parts link)) one.parts)

    abbrev two : Node WholeQueues
    two = complete_by_order whole c link number one

    abbrev reply : ℕ → Message
    reply accepted = changeover_acknowledgement c link accepted

    abbrev done : Done WholeQueues
    done = on_changeover_order whole c link number n

    done-changeovers : done.left.parts.changeovers ≡ ended.parts.changeovers
    done-changeovers =
        send-changeovers c (no_room whole c (reply (whole.last_accepted two.queues link)) two.queues)
        (link_of c two.parts (flow_of (reply (whole.last_accepted two.queues link)))) (reply (whole.last_accepted two.queues link)) two
        ∙ complete_if-changeovers (changeover_of one.parts link).incomplete link number ended

    awaits : AwaitsAs n done.left
    awaits =
        as-both n fallen done.left (either-awaits (down n.parts link) n (fail_by_peer whole c link n) (by_peer-awaits (in_service n.parts link) link n))
        (as-both fallen one done.left (as-before fallen one refl)
        (as-both one ended done.left (as-set link (completed (changeover_of one.parts link)) one refl) (as-before ended done.left done-changeovers)))

    -- its changeover is complete

    ended-complete : (changeover_of ended.parts link).incomplete ≡ false
    ended-complete =
        ⊎_elim
        (λ (there : link < length one.parts.changeovers).
        ap (λ (s : Standing). s.incomplete) (get_or-set_same one.parts.changeovers link (completed (changeover_of one.parts link)) no_changeover there))
        (λ (past : length one.parts.changeovers ≤ link).
        ap (λ (s : Standing). s.incomplete) (get_or_past ended.parts.changeovers link no_changeover (omega (arith, past, length-set one.parts.changeovers link (completed (changeover_of one.parts link))))))
        (cases_lt link (length one.parts.changeovers))

    complete : (changeover_of done.left.parts link).incomplete ≡ false
    complete = ap (λ (all : List Standing). (changeover_of (record n.parts { changeovers = all }) link).incomplete) done-changeovers ∙ ended-complete

    -- ---- the answer

    accepted-as : whole.last_accepted two.queues link ≡ whole.last_accepted n.queues link
    accepted-as =
        ap previous_number ((complete_by_order-steps (same-steps link c) link number one).same ∙ (fail_by_order-steps (same-steps link c) link n).same)

    module _ (places : HasAllPlaces c n) (way : ℕ) where
      abbrev m : Message
      m = reply (whole.last_accepted two.queues link)

      then-places : HasAllPlaces c two
      then-places = (complete_by_order-steps (places-steps c) link number one).stay ((bar-steps (places-steps c) link fallen).stay ((fail_by_order-steps (places-steps c) link n).stay places))

      led : link_of c done.left.parts (flow_of m) ≡ Some way → link_of c two.parts (flow_of m) ≡ Some way
      led e = sym (leads-as) ∙ e
        where
          leads-as : link_of c done.left.parts (flow_of m) ≡ link_of c two.parts (flow_of m)
          leads-as =
              ap (λ (f : Facts). option_and_then (λ place. chosen_link f place (flow_of m).sls) (destination_place c (flow_of m).point))
              ((send-routes whole c (no_room whole c m two.queues) (link_of c two.parts (flow_of m)) m two).facts c)

      sent-by : (full : Bool) → nat_le 256 (whole.managements two.queues) ≡ full → link_of c two.parts (flow_of m) ≡ Some way
          → StandsLast m way done.left ⊎ (256 ≤ whole.managements done.left.queues)
      sent-by false e w =
          let room : no_room whole c m two.queues ≡ None = management-room c m two false (made-management c (peer_of c link) (ExtendedChangeoverAcknowledgement (entry_of c link).slc (whole.last_accepted two.queues link))) e in
          let is : done.left.queues ≡ whole.appended two.queues way m =
          ap (λ (cause : Option Cause). (send whole c cause (link_of c two.parts (flow_of m)) m two).queues) room
          ∙ ap (λ (o : Option ℕ). (send whole c None o m two).queues) w in
          inl (record {
            others = (queue_at two.queues way).all;
            last = ap (λ (qs : WholeQueues). (queue_at qs way).all) is
                ∙ ap (λ (q : Queue). q.all) (get_or-set_same two.queues.links way (appended (queue_at two.queues way) m) first_queue
                (omega (arith, serving-there two.parts way (chosen_serves c two.parts (flow_of m) way w), then-places.parts.links, then-places.queues)));
          })
      sent-by true e w =
          let room : no_room whole c m two.queues ≡ Some ManagementFull = management-room c m two true (made-management c (peer_of c link) (ExtendedChangeoverAcknowledgement (entry_of c link).slc (whole.last_accepted two.queues link))) e in
          let is : done.left.queues ≡ two.queues = ap (λ (cause : Option Cause). (send whole c cause (link_of c two.parts (flow_of m)) m two).queues) room in
          inr (subst (λ (qs : WholeQueues). 256 ≤ whole.managements qs) (sym is) (grind (arith, nat_tests, e)))

    pub answered : HasAllPlaces c n → IsAnswered c link n done
    answered places = record {
      handled = refl;
      complete = complete;
      awaited = awaits.same;
      answer = λ way e.
          subst (λ (accepted : ℕ). StandsLast (reply accepted) way done.left ⊎ (256 ≤ whole.managements done.left.queues)) accepted-as
          (sent-by places way (nat_le 256 (whole.managements two.queues)) refl
          (led places way (subst (λ (accepted : ℕ). link_of c done.left.parts (flow_of (reply accepted)) ≡ Some way) (sym accepted-as) e)));
    }

  -- ---- by whatever link it came

  module _ (by link : ℕ) (number : Option ℕ) (m : Message) (n : Node WholeQueues) (is : IsOrder c link number m) where
    adjacent : (set : Option ℕ) → option_and_then (link_in_set c is.slc) set ≡ Some link → is_some set ≡ true
    adjacent (Some set) e = refl
    adjacent None e = absurd cc

    ordered : (number : Option ℕ) → on_management whole c (order_with is.slc number) (opc_of m) n ≡ do_order whole c (link_with_code c (opc_of m) is.slc) number n
    ordered (Some its) = refl
    ordered None = refl

    distributed : distribute whole c by m n ≡ on_changeover_order whole c link number n
    distributed =
        managed c by m n (ap (λ (x : ℕ). nat_lt x 2) is.indicator) true (adjacent (set_place c (opc_of m)) is.about)
        ∙ ap (λ (x : ℕ). if nat_eq x testing then do_test whole c (read_link_test m.sif) by (opc_of m) n else do_management whole c (read_management m.sif) (opc_of m) n) is.indicator
        ∙ ap (λ (r : Result Management MgmtFault). do_management whole c r (opc_of m) n) is.says
        ∙ ordered number ∙ ap (λ (o : Option ℕ). do_order whole c o number n) is.about

-- ---- the laws

pub order-awaits : (c : Configuration) (link : ℕ) (number : Option ℕ) (n : Node WholeQueues) → AwaitsAs c n (on_changeover_order whole c link number n).left
order-awaits c link number n = awaits c link number n

pub are-answered : orders_are_answered
are-answered c by link number m n places is =
    subst (λ (d : Done WholeQueues). IsAnswered c link n d) (sym (distributed c by link number m n is)) (answered c link number n places)

pub await-down : links_that_await_are_down
await-down c asked link few window awaited =
    ((links-stay asked (first_state c) (places-first c few) (links-first c window)).each link).awaiting awaited
