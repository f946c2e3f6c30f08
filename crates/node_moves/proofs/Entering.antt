-- A link takes its flows back, is tested, and goes on in its alignment: by moves.
use Rattle.node_moves.proofs.Basics.{◌≡◌, ◌≢◌, ℕ, zero, suc, Bool, true, false, not, ◌&&◌, List, length, Option, Some, None, refl, ap, ◌∙◌, if◌then◌else◌, get_or-set_other}
use Rattle.node_moves.proofs.Machine.{Other, Shape}
use Rattle.node_moves.proofs.Definitions.{Configuration, IsWell, Node, WholeQueues, Parts, whole, with_parts, link_at, links_with, in_service, down, set_of, entry_of, peer_of, no_room, queue_on, Link, down_link, is_in_service}
use Rattle.node_moves.proofs.Reading.{IsShape, says_of, is_long, says-test}
use Rattle.node_moves.proofs.Own.{K, both, stays, aside, relinked, queued, declared-other, test-indicator}
use Rattle.node_moves.proofs.Failing.{fail-goes}
use Rattle.node_moves.proofs.Ways.{reset-ways}
use Rattle.exchange_rules.proofs.Serving.{serves-up}
use Rattle.exchange_rules.proofs.SteppingEntries.{anew-link}
use Rattle.exchange_rules.proofs.SteppingReturns.{Went, all-went}
use Rattle.exchange_rules.proofs.TakenPairs.{take_back_each-alike}
use Rattle.exchange_rules.proofs.TakenPairs as taken
use Rattle.exchange_rules.specs.ChangingBack.{declaration, code_in_use, hold_flows, code_for, loses_flows, change_back}
unfoldable use Rattle.exchange_rules.specs.ChangingBack.{take_back_each}
use Rattle.exchange_rules.specs.ChangingOver.{has_other}
use Rattle.exchange_rules.specs.Entering.{begun_anew_if, begun_anew, begin_traffic}
use Rattle.exchange_rules.specs.Frames.{test_if}
use Rattle.exchange_rules.specs.LinkTests.{link_test, tests_links, awaiting_test, with_test_failed, test_passed, is_first_test, queue_if, send_test, begin_test, repeat_test, test_unanswered, pass_test}
use Rattle.exchange_rules.specs.Routing.{facts}
use Rattle.node_links.specs.NodeLinks.{link_in}
use Rattle.routes.specs.Routes.{Facts}
use Rattle.routes.specs.declared.route.Route.{Route}
use Rattle.signalling_types.specs.declared.cause.Cause.{Cause}
use Rattle.signalling_types.specs.declared.notice.FailureReason.TheVariants as reasons

module _ (shape : Shape) (o : IsShape shape) (c : Configuration) (well : IsWell c) where
  -- ---- a link takes its flows back

  hold-goes : (before after : Facts) (code : Option ℕ) (link other : ℕ) (n : Node WholeQueues) → in_service n.parts other ≡ true → K shape o c well n (hold_flows whole c before after code link other n)
  hold-goes before after (Some code) link other n serves =
      let used : Node WholeQueues = with_parts n (code_in_use c (set_of c link) code n.parts) in
      let declared : Node WholeQueues = queue_on whole c other (declaration c link code) used in
      both shape o c well n declared _
      (both shape o c well n used declared (aside shape o c well n _ refl refl refl refl) (queued shape o c well other (declaration c link code) used serves (declared-other c well (peer_of c link) (entry_of c link).slc code)))
      (aside shape o c well declared _ refl refl refl refl)
  hold-goes before after None link other n serves = aside shape o c well n _ refl refl refl refl

  back-by : (loses : Bool) (before after : Facts) (code : Option ℕ) (link other : ℕ) (n : Node WholeQueues) → (loses ≡ true → in_service n.parts other ≡ true)
      → K shape o c well n (if loses then hold_flows whole c before after code link other n else n)
  back-by true before after code link other n e = hold-goes before after code link other n (e refl)
  back-by false before after code link other n e = stays shape o c well n

  back_each-goes : (before after : Facts) (link many : ℕ) (n : Node WholeQueues) → ((other : ℕ) → loses_flows c before after other link ≡ true → in_service n.parts other ≡ true)
      → K shape o c well n (take_back_each whole c before after link many n)
  unfolding take_back_each
  back_each-goes before after link zero n e = stays shape o c well n
  back_each-goes before after link (suc other) n e =
      let one : Node WholeQueues = take_back_each whole c before after link other n in
      let same : taken.IsAlike whole c one n = take_back_each-alike whole c before after link other n in
      both shape o c well n one _ (back_each-goes before after link other n e)
      (back-by (loses_flows c before after other link) before after (code_for whole c link other one) link other one
      (λ h. ap (λ links. in_service (record n.parts { links = links }) other) same.links ∙ e other h))

  change_back-goes : (link : ℕ) (before : Parts) (n : Node WholeQueues) → ((other : ℕ) → other ≢ link → in_service before other ≡ true → in_service n.parts other ≡ true)
      → K shape o c well n (change_back whole c link (facts c before) n)
  change_back-goes link before n e =
      back_each-goes (facts c before) (facts c n.parts) link (length c.links) n
      (λ other h. (let went : Went link before other = all-went c link before (facts c n.parts) other h in e other went.apart went.served))

  -- a link that begins to carry traffic
  pub returned-goes : (begins : Bool) (link : ℕ) (new : Parts) (n : Node WholeQueues) → ((other : ℕ) → other ≢ link → in_service n.parts other ≡ true → in_service new other ≡ true)
      → K shape o c well (with_parts n (begun_anew begins c link n.parts new)) (begin_traffic whole c begins link new n)
  returned-goes true link new n h =
      let first : Bool = not (has_other c link n.parts) in
      change_back-goes link n.parts (with_parts n (begun_anew_if first c link new))
      (λ other apart serves. ap (λ (l : Link). is_in_service l.alignment) (anew-link first c link other new) ∙ h other apart serves)
  returned-goes false link new n h = stays shape o c well (with_parts n new)

  -- what is known over a set may be reset
  pub anew-goes : (first : Bool) (link : ℕ) (n : Node WholeQueues) (p : Parts) → K shape o c well n (with_parts n p) → K shape o c well n (with_parts n (begun_anew_if first c link p))
  anew-goes true link n p e =
      both shape o c well n (with_parts n p) _ e
      (aside shape o c well (with_parts n p) _ refl refl refl (ap (λ (ways : List (List Route)). record { broken = p.times_broken; ways = ways }) (reset-ways c (set_of c link) p)))
  anew-goes false link n p e = e

  -- ---- tests of links

  test-short : (link : ℕ) → is_long (link_test c link) ≡ false
  test-short link = refl

  test-says : (link : ℕ) → says_of (link_test c link) ≡ Other
  test-says link = says-test (link_test c link) (test-short link) (test-indicator c well c.network)

  queue_if-goes : (room : Option Cause) (link : ℕ) (n : Node WholeQueues) → in_service n.parts link ≡ true → K shape o c well n (queue_if whole c room link (link_test c link) n)
  queue_if-goes (Some cause) link n serves = stays shape o c well n
  queue_if-goes None link n serves = queued shape o c well link (link_test c link) n serves (test-says link)

  send_test-goes : (link : ℕ) (n : Node WholeQueues) → in_service n.parts link ≡ true → K shape o c well n (send_test whole c link n)
  send_test-goes link n serves =
      let next : Node WholeQueues = with_parts n (awaiting_test c link n.parts) in
      both shape o c well n next _ (aside shape o c well n _ refl refl refl refl) (queue_if-goes (no_room whole c (link_test c link) n.queues) link next serves)

  begin-by : (tests serves : Bool) (link : ℕ) (n : Node WholeQueues) → in_service n.parts link ≡ serves → K shape o c well n (if tests && serves then send_test whole c link n else n)
  begin-by true true link n e = send_test-goes link n e
  begin-by true false link n e = stays shape o c well n
  begin-by false serves link n e = stays shape o c well n

  pub begin_test-goes : (link : ℕ) (n : Node WholeQueues) → K shape o c well n (begin_test whole c link n)
  begin_test-goes link n = begin-by (tests_links c) (in_service n.parts link) link n refl

  repeat_test-goes : (again : Bool) (link : ℕ) (n : Node WholeQueues) → down n.parts link ≡ false → K shape o c well n (repeat_test whole c again link n)
  repeat_test-goes true link n up = fail-goes shape o c well link n reasons.Test up
  repeat_test-goes false link n up =
      let failed : Node WholeQueues = with_parts n (with_test_failed true link n.parts) in
      both shape o c well n failed _ (relinked shape o c well n link (record (link_at n.parts link) { test_failed = true }) _ refl refl refl refl refl (λ h. record { waiting = h.waiting; owed = h.owed })) (begin_test-goes link failed)

  unanswered-by : (serves : Bool) (link : ℕ) (n : Node WholeQueues) → in_service n.parts link ≡ serves → K shape o c well n (if serves then repeat_test whole c (link_at n.parts link).test_failed link n else n)
  unanswered-by true link n e = repeat_test-goes (link_at n.parts link).test_failed link n (serves-up (link_at n.parts link).alignment e)
  unanswered-by false link n e = stays shape o c well n

  pub test_unanswered-goes : (link : ℕ) (n : Node WholeQueues) → K shape o c well n (test_unanswered whole c link n)
  test_unanswered-goes link n = unanswered-by (in_service n.parts link) link n refl

  pub test_if-goes : (entered : Bool) (link : ℕ) (n : Node WholeQueues) → K shape o c well n (test_if whole c entered link n)
  test_if-goes true link n = begin_test-goes link n
  test_if-goes false link n = stays shape o c well n

  pub pass_test-goes : (link : ℕ) (n : Node WholeQueues) → K shape o c well n (pass_test whole c link n)
  pass_test-goes link n =
      let x : Link = record (link_at n.parts link) { test_failed = false; untested = false } in
      let passed : Parts = test_passed c link n.parts in
      both shape o c well n (with_parts n (begun_anew (is_first_test link n.parts) c link n.parts passed)) _
      (anew-goes (is_first_test link n.parts && not (has_other c link n.parts)) link n passed (relinked shape o c well n link x passed refl refl refl refl refl (λ h. record { waiting = h.waiting; owed = h.owed })))
      (returned-goes (is_first_test link n.parts) link passed n (λ other apart serves. ap (λ (l : Link). is_in_service l.alignment) (passed-other link n x other apart) ∙ serves))
    where
      passed-other : (link : ℕ) (n : Node WholeQueues) (x : Link) (other : ℕ) → other ≢ link → link_in (links_with n.parts link x) other ≡ link_at n.parts other
      passed-other link n x other apart = get_or-set_other n.parts.links link other x down_link apart
