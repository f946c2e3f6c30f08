-- The answer, T2 that runs out, and the operator end the wait for an answer; T2 of a changeover that isn't complete bars
-- its link, where the settings ask for that.
use Rattle.exchange_rules.proofs.Basics.{◌≡◌, ◌<◌, ℕ, Bool, true, false, ◌&&◌, List, [], ◌∷◌, length, Option, Some, None, refl, ap, sym, subst, ◌∙◌, arith, is_some, nat_lt, if◌then◌else◌, ⊎_elim, and_parts, get_or-set_same}
use Rattle.exchange_rules.proofs.Definitions.{Configuration, Message, flow_of, Standing, no_changeover, acknowledged, completed, expired, awaits_incomplete, is_barred, stays_awaited, bars, barred, timed_bar, unbarred, Running, left-set, left-clear, left-clear_other, Parts, Node, Found, Done, with_parts, answer, refuse, Handled, Ignored, link_of, is_link, lose_each, judged, concluded, send_each, send_anew, complete_if, with_expiry, with_changeover, with_changeover_acknowledged, changeover_of, on_changeover_acknowledgement, link_with_code, WholeQueues, whole, HasAllPlaces}
use Rattle.std.proofs.lemmas.Bool.{lt-ltb}
use Rattle.mtp3_codec.specs.declared.management.Management.TheVariants as says
use Rattle.signalling_types.specs.declared.notice.ChangeoverTimer.TheVariants as which
use Rattle.signalling_types.specs.declared.cause.Cause.TheVariants.{NoSuchName}
use Rattle.timers.specs.declared.name.TimerName.TheVariants.{T1, T2}
use Rattle.exchange_rules.specs.Messages.{do_acknowledgement}
use Rattle.exchange_rules.specs.LawsOfWaits.{IsOver, IsBarredFor, answers_end_waits, t2_ends_waits, t2_bars_links, releases_end_bars, releases_leave_others}
use Rattle.exchange_rules.proofs.AnsweredOrders.{complete_if-changeovers}
use Rattle.exchange_rules.proofs.LateOrders.{standing-there}
use Rattle.exchange_rules.proofs.OrdersByAnyRoute.{send-timers}
use Rattle.exchange_rules.proofs.WillEnding.{its-standing}

module _ (c : Configuration) where
  -- ---- a completion leaves T2

  send_each-timers : (ms : List Message) (n : Node WholeQueues) → (send_each whole c ms n).parts.timers ≡ n.parts.timers
  send_each-timers [] n = refl
  send_each-timers (m ∷ ms) n = send_each-timers ms (send_anew whole c m n) ∙ send-timers c None (link_of c n.parts (flow_of m)) m n

  lose_each-timers : (ms : List Message) (p : Parts) → (lose_each ms p).timers ≡ p.timers
  lose_each-timers [] p = refl
  lose_each-timers (m ∷ ms) p = lose_each-timers ms _

  judged-timers : (reasonable : Bool) (p : Parts) → (judged reasonable p).timers ≡ p.timers
  judged-timers true p = refl
  judged-timers false p = refl

  pub complete_if-t2 : (incomplete : Bool) (link other : ℕ) (number : Option ℕ) (n : Node WholeQueues) → (complete_if whole c incomplete link number n).parts.timers.left (T2 other) ≡ n.parts.timers.left (T2 other)
  complete_if-t2 true link other number n =
      let found : Found = whole.found n.queues link number in
      ap (λ (r : Running). r.left (T2 other)) (send_each-timers found.queued_anew (record { queues = whole.completed n.queues link number; parts = concluded link found n.parts }))
      ∙ left-clear_other (T1 link) (T2 other) (judged found.is_reasonable (lose_each found.lost n.parts)).timers (λ e. cc)
      ∙ ap (λ (r : Running). r.left (T2 other)) (judged-timers found.is_reasonable (lose_each found.lost n.parts) ∙ lose_each-timers found.lost n.parts)
  complete_if-t2 false link other number n = refl

  -- a changeover that is over, or isn't there
  none-or-over : (link : ℕ) (s : Standing) (p : Parts) → changeover_of (with_changeover link (acknowledged s) p) link ≡ no_changeover
  none-or-over link s p =
      ⊎_elim (λ (e : changeover_of (with_changeover link (acknowledged s) p) link ≡ acknowledged s). e)
      (λ (e : changeover_of (with_changeover link (acknowledged s) p) link ≡ no_changeover). e) (its-standing link (acknowledged s) p)

  -- ---- the answer

  acknowledged-over : (link : ℕ) (number : Option ℕ) (n : Node WholeQueues) → (changeover_of n.parts link).awaited ≡ true → IsOver link (on_changeover_acknowledgement whole c link number n).left
  acknowledged-over link number n awaited =
      subst (λ (b : Bool). IsOver link (if b then answer Handled done else answer Ignored n).left) (sym awaited)
      (record {
        over = ap (λ (all : List Standing). changeover_of (record n.parts { changeovers = all }) link) (complete_if-changeovers c (changeover_of n.parts link).incomplete link number next)
            ∙ none-or-over link (changeover_of n.parts link) n.parts;
        stopped = complete_if-t2 (changeover_of n.parts link).incomplete link link number next ∙ left-clear (T2 link) n.parts.timers;
      })
    where
      next : Node WholeQueues
      next = with_parts n (with_changeover_acknowledged link n.parts)

      done : Node WholeQueues
      done = complete_if whole c (changeover_of n.parts link).incomplete link number next

  done-over : (about : Option ℕ) (number : Option ℕ) (link : ℕ) (n : Node WholeQueues) → about ≡ Some link → (changeover_of n.parts link).awaited ≡ true
      → IsOver link (do_acknowledgement whole c about number n).left
  done-over about number link n is awaited =
      subst (λ (o : Option ℕ). IsOver link (do_acknowledgement whole c o number n).left) (sym is) (acknowledged-over link number n awaited)

  -- ---- T2

  -- the link isn't barred from now on
  bar-none : (ticks : Option ℕ) (s : Standing) (link : ℕ) (r : Running) → stays_awaited (is_some ticks) s ≡ false → timed_bar ticks (awaits_incomplete s) link r ≡ r
  bar-none None s link r e = refl
  bar-none (Some ticks) s link r e = by s.incomplete s.awaited e
    where
      by : (incomplete awaited : Bool) → incomplete ≡ false → timed_bar (Some ticks) (incomplete && awaited) link r ≡ r
      by true awaited f = absurd cc
      by false awaited f = refl

  module _ (link : ℕ) (n : Node WholeQueues) where
    abbrev its : Standing
    its = changeover_of n.parts link

    abbrev next : Node WholeQueues
    next = with_parts n (with_expiry c which.T2 link (barred c link n.parts))

    abbrev done : Node WholeQueues
    done = complete_if whole c its.incomplete link None next

    expired-is : (s : Standing) → expired (bars c) which.T2 its ≡ s → changeover_of done.parts link ≡ changeover_of (with_changeover link s n.parts) link
    expired-is s e =
        ap (λ (all : List Standing). changeover_of (record n.parts { changeovers = all }) link) (complete_if-changeovers c its.incomplete link None next)
        ∙ ap (λ (t : Standing). changeover_of (with_changeover link t n.parts) link) e

    expired-over : n.parts.timers.left (T2 link) ≡ None → stays_awaited (bars c) its ≡ false → IsOver link done
    expired-over stopped ends = record {
      over = expired-is (acknowledged its) (ap (λ (b : Bool). if b then completed its else acknowledged its) ends) ∙ none-or-over link its n.parts;
      stopped = complete_if-t2 its.incomplete link link None next ∙ ap (λ (r : Running). r.left (T2 link)) (bar-none c.timers.t2_bar its link n.parts.timers ends) ∙ stopped;
    }

    module _ (places : HasAllPlaces c n) (ticks : ℕ) (asks : c.timers.t2_bar ≡ Some ticks) (awaits : awaits_incomplete its ≡ true) where
      there : link < length n.parts.changeovers
      there = standing-there n.parts link (and_parts its.incomplete its.awaited awaits).0

      is-link : is_link n.parts link ≡ true
      is-link = lt-ltb link (length n.parts.links) (omega (arith, there, places.parts.changeovers, places.parts.links))

      named : nat_lt link n.parts.timers.counts.links ≡ true
      named = lt-ltb link n.parts.timers.counts.links (omega (arith, there, places.parts.changeovers, places.timers.links))

      stays : stays_awaited (bars c) its ≡ true
      stays = ap (λ (o : Option ℕ). is_some o && its.incomplete) asks ∙ (and_parts its.incomplete its.awaited awaits).0

      barred-now : IsBarredFor ticks link done
      barred-now = record {
        barred = ap is_barred
            (expired-is (completed its) (ap (λ (b : Bool). if b then completed its else acknowledged its) stays)
            ∙ get_or-set_same n.parts.changeovers link (completed its) no_changeover there)
            ∙ (and_parts its.incomplete its.awaited awaits).1;
        t2 = complete_if-t2 its.incomplete link link None next
            ∙ ap (λ (o : Option ℕ). (timed_bar o (awaits_incomplete its) link n.parts.timers).left (T2 link)) asks
            ∙ ap (λ (b : Bool). (timed_bar (Some ticks) b link n.parts.timers).left (T2 link)) awaits
            ∙ left-set (T2 link) ticks n.parts.timers named;
      }

-- ---- the laws

pub answers-end : answers_end_waits
answers-end c point link (says.ExtendedChangeoverAcknowledgement slc number) n is awaited = done-over c (link_with_code c point slc) (Some number) link n is awaited
answers-end c point link (says.EmergencyChangeoverAcknowledgement slc) n is awaited = done-over c (link_with_code c point slc) None link n is awaited
answers-end c point link says.TrafficRestartAllowed n is awaited = absurd cc
answers-end c point link (says.ExtendedChangeoverOrder slc number) n is awaited = absurd cc
answers-end c point link (says.EmergencyChangeoverOrder slc) n is awaited = absurd cc
answers-end c point link (says.ChangebackDeclaration slc code) n is awaited = absurd cc
answers-end c point link (says.ChangebackAcknowledgement slc code) n is awaited = absurd cc
answers-end c point link (says.TransferProhibited about) n is awaited = absurd cc
answers-end c point link (says.TransferRestricted about) n is awaited = absurd cc
answers-end c point link (says.TransferAllowed about) n is awaited = absurd cc
answers-end c point link (says.RouteSetTestProhibited about) n is awaited = absurd cc
answers-end c point link (says.RouteSetTestRestricted about) n is awaited = absurd cc
answers-end c point link (says.UserPartUnavailable about user_part cause) n is awaited = absurd cc

pub t2-ends : t2_ends_waits
t2-ends c link n is stopped ends =
    subst (λ (b : Bool). IsOver link (if b then done c link n else n)) (sym is) (expired-over c link n stopped ends)

pub t2-bars : t2_bars_links
t2-bars c link ticks n places asks awaits =
    subst (λ (b : Bool). IsBarredFor ticks link (if b then done c link n else n)) (sym (is-link c link n places ticks asks awaits)) (barred-now c link n places ticks asks awaits)

module _ (c : Configuration) (link : ℕ) (n : Node WholeQueues) where
  -- by whether the link is there, and whether it is barred
  abbrev released : (there is : Bool) → Done WholeQueues
  released there is = if there then (if is then answer Handled (with_parts n (unbarred link n.parts)) else answer Ignored n) else refuse NoSuchName n

pub releases-end : releases_end_bars
releases-end c link n is barred =
    subst (λ (d : Done WholeQueues). IsOver link d.left) (sym (ap (λ (b : Bool). released c link n b (is_barred (changeover_of n.parts link))) is ∙ ap (λ (b : Bool). released c link n true b) barred))
    (record { over = none-or-over c link (changeover_of n.parts link) n.parts; stopped = left-clear (T2 link) n.parts.timers })

pub releases-leave : releases_leave_others
releases-leave c link n e =
    ap (λ (b : Bool). (released c link n (is_link n.parts link) b).left) e ∙ by (is_link n.parts link)
  where
    by : (there : Bool) → (released c link n there false).left ≡ n
    by true = refl
    by false = refl
