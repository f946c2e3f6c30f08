-- The tests of links: what goes out says nothing between the two, and what they change of a link isn't shown.
use Rattle.pair_rules.proofs.Basics.{◌≡◌, ◌≢◌, ◌≤◌, ◌&&◌, ℕ, Bool, true, false, List, [], length, Option, Some, None, refl, sym, ◌∙◌, arith, ⊎_elim, cases_eq, and_parts, if◌then◌else◌}
use Rattle.pair_rules.proofs.Definitions.{Message, SIF_OCTETS, Configuration, Cause, Node, in_service, down, link_at, no_room, queue_on, with_parts, WholeQueues, whole, StaysFit, fit-steps, set_of}
use Rattle.exchange_rules.proofs.Rules.{rules-of}
use Rattle.exchange_rules.proofs.SteppingTests.{awaiting-steps, failed-steps, serving-up}
use Rattle.exchange_rules.proofs.OwnManagement.{test-management}
use Rattle.exchange_rules.specs.LinkTests.{awaiting_test, begin_test, link_test, queue_if, repeat_test, send_test, test_unanswered, tests_links, with_test_failed}
use Rattle.signalling_types.specs.declared.notice.FailureReason.TheVariants as reasons
use Rattle.pair_rules.proofs.World.{World}
use Rattle.neighbour_rules.proofs.Failures.{fail-passes}
use Rattle.neighbour_rules.proofs.Good.{Joint, Passes, at, passes-both, passes-none, set}
use Rattle.neighbour_rules.proofs.Made.{own_test-past}
use Rattle.neighbour_rules.proofs.Messages.{making, says-user}
use Rattle.neighbour_rules.proofs.Placing.{leaving, placing}
use Rattle.neighbour_rules.proofs.Relinked.{relinked-passes, timed-passes}

own_test-short : (c : Configuration) (link : ℕ) → length (link_test c link).sif ≤ SIF_OCTETS
own_test-short c link = omega arith

module _ (c z : Configuration) (j : Joint c z) (w : World) (arrived : List Message) where
  abbrev Pass : Node WholeQueues → Node WholeQueues → Type 0
  Pass n o = Passes c z j (at c z j w n arrived []) (at c z j w o arrived [])

  none : (n : Node WholeQueues) → Pass n n
  none n = passes-none c z j (at c z j w n arrived [])

  queued : (room : Option Cause) (link : ℕ) (n : Node WholeQueues) → in_service n.parts link ≡ true → Pass n (queue_if whole c room link (link_test c link) n)
  queued (Some cause) link n serves = none n
  queued None link n serves =
      let m : Message = link_test c link in
      let stay : StaysFit c n (queue_on whole c link m n) = (fit-steps c).probed link n serves in
      passes-both c z j _ _ _ (making c z j w n arrived m [] (own_test-past c z j link) (own_test-short c link))
      (⊎_elim
      (λ (its : set_of c link ≡ set c z j).
      placing c z j w n arrived link m [] serves its stay
      (λ g user. let no : true ≡ false = sym (test-management c link) ∙ says-user c.own z.own j.base.there m user in absurd cc))
      (λ (d : set_of c link ≢ set c z j). leaving c z j w n arrived link m [] serves d (own_test-past c z j link) stay)
      (cases_eq (set_of c link) (set c z j)))

  begun : (begins : Bool) (link : ℕ) (n : Node WholeQueues) → (begins ≡ true → tests_links c ≡ true) → (begins ≡ true → in_service n.parts link ≡ true)
      → Pass n (if begins then send_test whole c link n else n)
  begun false link n on serves = none n
  begun true link n on serves =
      let next : Node WholeQueues = with_parts n (awaiting_test c link n.parts) in
      passes-both c z j _ _ _ (timed-passes c z j w n arrived [] next.parts.timers (awaiting-steps (rules-of (fit-steps c)) link n (on refl)))
      (queued (no_room whole c (link_test c link) n.queues) link next (serves refl))

  pub begin_test-passes : (link : ℕ) (n : Node WholeQueues) → Pass n (begin_test whole c link n)
  begin_test-passes link n =
      begun (tests_links c && in_service n.parts link) link n
      (λ e. (and_parts (tests_links c) (in_service n.parts link) e).0) (λ e. (and_parts (tests_links c) (in_service n.parts link) e).1)

  failed-passes : (link : ℕ) (n : Node WholeQueues) → Pass n (with_parts n (with_test_failed true link n.parts))
  failed-passes link n =
      relinked-passes c z j w n arrived [] link (record (link_at n.parts link) { test_failed = true }) n.parts.timers refl refl (λ h. h) (failed-steps (rules-of (fit-steps c)) true link n)

  repeated : (again : Bool) (link : ℕ) (n : Node WholeQueues) → down n.parts link ≡ false → Pass n (repeat_test whole c again link n)
  repeated true link n up = fail-passes c z j w n arrived link reasons.Test up
  repeated false link n up =
      passes-both c z j _ _ _ (failed-passes link n) (begin_test-passes link (with_parts n (with_test_failed true link n.parts)))

  unanswered : (serves : Bool) (link : ℕ) (n : Node WholeQueues) → in_service n.parts link ≡ serves
      → Pass n (if serves then repeat_test whole c (link_at n.parts link).test_failed link n else n)
  unanswered true link n e = repeated (link_at n.parts link).test_failed link n (serving-up (link_at n.parts link).alignment e)
  unanswered false link n e = none n

  pub test_unanswered-passes : (link : ℕ) (n : Node WholeQueues) → Pass n (test_unanswered whole c link n)
  test_unanswered-passes link n = unanswered (in_service n.parts link) link n refl
