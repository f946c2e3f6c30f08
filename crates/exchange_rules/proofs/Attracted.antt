-- A link that begins to carry traffic takes over flows itself, and no flow moves to any other link: each flow whose
-- link changed is held.
use Rattle.exchange_rules.proofs.Basics.{◌≡◌, ◌≢◌, ◌<◌, ℕ, Bool, true, false, ◌&&◌, length, not, refl, ap, sym, ◌∙◌, ⊎_elim, length-set, length-map}
use Rattle.exchange_rules.proofs.Definitions.{take_step, test_if, queue_if, send_test, awaiting_test, link_test, tests_links, no_room, Cause, HoldSet, Allowed, Facts, Link, Running, carries_traffic, is_in_service, with_status_over, chosen_link, Configuration, is_held, reset_shape, Parts, Node, with_parts, in_service, in_traffic, link_at, network_of, WholeQueues, whole, facts, change_back, set_of, has_other, enters, enters_traffic, is_first_test, test_passed, begun_anew_if, begun_anew, begin_traffic, step_on, HasPlacesFor, entries_hold_changed_flows}
use Rattle.std.specs.Prelude.{Some, None, Option, map, if◌then◌else◌}
use Rattle.std.proofs.lemmas.Option.{same_Some}
use Rattle.routes.specs.Routes.{with_link}
use Rattle.routes.proofs.Leaving.{goes_or_stays}
use Rattle.node_links.specs.NodeLinks as state
use Rattle.node_links.proofs.Serving.{facts_alike}
use Rattle.signalling_types.specs.declared.limits.TheConstants.Limits.{SELECTIONS}
use Rattle.exchange_rules.specs.LawsOfReturns.{tests_hold_changed_flows}
use Rattle.exchange_rules.proofs.Entering.{relinked, known_begun, entered-none, passed-none}
use Rattle.exchange_rules.proofs.TakenPairs.{IsAlike, take_back_each-alike}
use Rattle.exchange_rules.proofs.TakenBack.{taken_flows_held}

module _ (f : Facts) (link : ℕ) where
  abbrev left_out : Facts
  left_out = with_link link false f

  pub changed-to : (destination sls from to : ℕ) → chosen_link left_out destination sls ≡ Some from → chosen_link f destination sls ≡ Some to → from ≢ to → to ≡ link
  changed-to destination sls from to was is other =
      ⊎_elim (λ (same : to ≡ link). same)
      (λ (as_before : chosen_link left_out destination sls ≡ Some to). absurd (other (same_Some from to (sym was ∙ as_before))))
      (goes_or_stays f link destination sls to is)

-- ---- a link enters service

-- a return changes neither links nor routes
taken-alike : (c : Configuration) (link : ℕ) (before : Facts) (n : Node WholeQueues) → facts c (change_back whole c link before n).parts ≡ facts c n.parts
taken-alike c link before n =
    let same : IsAlike whole c (change_back whole c link before n) n = take_back_each-alike whole c before (facts c n.parts) link (length c.links) n in
    rw (same.links, same.routes) refl

-- nor does a test
queued-facts : (c : Configuration) (room : Option Cause) (link : ℕ) (n : Node WholeQueues) → facts c (queue_if whole c room link (link_test c link) n).parts ≡ facts c n.parts
queued-facts c (Some cause) link n = refl
queued-facts c None link n = refl

begun-facts : (c : Configuration) (begins : Bool) (link : ℕ) (n : Node WholeQueues) → facts c (if begins then send_test whole c link n else n).parts ≡ facts c n.parts
begun-facts c true link n = queued-facts c (no_room whole c (link_test c link) n.queues) link (with_parts n (awaiting_test c link n.parts))
begun-facts c false link n = refl

tested-facts : (c : Configuration) (entered : Bool) (link : ℕ) (n : Node WholeQueues) → facts c (test_if whole c entered link n).parts ≡ facts c n.parts
tested-facts c true link n = begun-facts c (tests_links c && in_service n.parts link) link n
tested-facts c false link n = refl

queued-holds : (c : Configuration) (room : Option Cause) (link : ℕ) (n : Node WholeQueues) → (queue_if whole c room link (link_test c link) n).parts.holds ≡ n.parts.holds
queued-holds c (Some cause) link n = refl
queued-holds c None link n = refl

begun-holds : (c : Configuration) (begins : Bool) (link : ℕ) (n : Node WholeQueues) → (if begins then send_test whole c link n else n).parts.holds ≡ n.parts.holds
begun-holds c true link n = queued-holds c (no_room whole c (link_test c link) n.queues) link (with_parts n (awaiting_test c link n.parts))
begun-holds c false link n = refl

tested-holds : (c : Configuration) (entered : Bool) (link : ℕ) (n : Node WholeQueues) → (test_if whole c entered link n).parts.holds ≡ n.parts.holds
tested-holds c true link n = begun-holds c (tests_links c && in_service n.parts link) link n
tested-holds c false link n = refl

pub begun-places : (c : Configuration) (link : ℕ) (x : Link) (r : Running) (p : Parts) (first : Bool) → HasPlacesFor c p → HasPlacesFor c (begun_anew_if first c link (relinked link x r p))
begun-places c link x r p true h = record {
  few_links = h.few_links;
  links = length-set p.links link x ∙ h.links;
  changeovers = h.changeovers;
  routes = length-map p.routes (map (with_status_over (set_of c link) Allowed)) ∙ h.routes;
  told = reset_shape p.told (set_of c link) ∙ h.told;
  codes = h.codes;
  holds = h.holds;
  unequipped = h.unequipped;
}
begun-places c link x r p false h = record {
  few_links = h.few_links;
  links = length-set p.links link x ∙ h.links;
  changeovers = h.changeovers;
  routes = h.routes;
  told = h.told;
  codes = h.codes;
  holds = h.holds;
  unequipped = h.unequipped;
}

-- a link begins to carry traffic
begun-held : (c : Configuration) (link : ℕ) (x : Link) (r : Running) (n : Node WholeQueues) (destination sls from to : ℕ) → HasPlacesFor c n.parts → sls < SELECTIONS
    → in_traffic n.parts link ≡ false → chosen_link (facts c n.parts) destination sls ≡ Some from
    → chosen_link (facts c (begin_traffic whole c true link (relinked link x r n.parts) n).parts) destination sls ≡ Some to → from ≢ to
    → is_held (begin_traffic whole c true link (relinked link x r n.parts) n).parts.holds destination sls ≡ true
begun-held c link x r n destination sls from to fits few none was is other =
    let before : Facts = facts c n.parts in
    let next : Node WholeQueues = with_parts n (begun_anew true c link n.parts (relinked link x r n.parts)) in
    let now : chosen_link (facts c next.parts) destination sls ≡ Some to =
    ap (λ (f : Facts). chosen_link f destination sls) (sym (taken-alike c link before next)) ∙ is in
    let known : chosen_link (with_link link false (facts c next.parts)) destination sls ≡ chosen_link before destination sls =
    known_begun c true link x r n.parts none destination sls in
    let here : to ≡ link = changed-to (facts c next.parts) link destination sls from to (known ∙ was) now other in
    taken_flows_held c link n.parts next destination sls from (begun-places c link x r n.parts (not (has_other c link n.parts)) fits) few
    (λ same. other (same ∙ sym here)) was (now ∙ ap Some here)

-- or carries as before, and no flow changes its link
pub begin-held : (c : Configuration) (begins : Bool) (link : ℕ) (x : Link) (r : Running) (n : Node WholeQueues) (destination sls from to : ℕ) → HasPlacesFor c n.parts → sls < SELECTIONS
    → (begins ≡ true → in_traffic n.parts link ≡ false) → (begins ≡ false → carries_traffic x ≡ in_traffic n.parts link) → chosen_link (facts c n.parts) destination sls ≡ Some from
    → chosen_link (facts c (begin_traffic whole c begins link (relinked link x r n.parts) n).parts) destination sls ≡ Some to → from ≢ to
    → is_held (begin_traffic whole c begins link (relinked link x r n.parts) n).parts.holds destination sls ≡ true
begin-held c true link x r n destination sls from to fits few none alike was is other = begun-held c link x r n destination sls from to fits few (none refl) was is other
begin-held c false link x r n destination sls from to fits few none alike was is other =
    absurd (other (same_Some from to (sym was ∙ ap (λ (f : Facts). chosen_link f destination sls) (sym (facts_alike (network_of c n.parts) link x (alike refl))) ∙ is)))

entered-alike : (after before untested : Bool) → (after && not before) ≡ true → ((after && not before) && not untested) ≡ false → (after && not untested) ≡ (before && not untested)
entered-alike true false true e f = refl
entered-alike true false false e f = absurd cc
entered-alike true true untested e f = absurd cc
entered-alike false before untested e f = absurd cc

pub entered_flows_held : entries_hold_changed_flows
entered_flows_held c link step node destination sls from to fits few entered was is other =
    let took : Node WholeQueues = take_step whole c link step node in
    let l : Link = link_at node.parts link in
    ap (λ (h : HoldSet). is_held h destination sls) (tested-holds c (enters link step node.parts) link took)
    ∙ begin-held c (enters_traffic link step node.parts) link (state.stepped step l) (step_on c link step node.parts).timers node destination sls from to fits few
    (entered-none (is_in_service step.state) (in_service node.parts link) l.untested)
    (entered-alike (is_in_service step.state) (in_service node.parts link) l.untested entered) was
    (ap (λ (f : Facts). chosen_link f destination sls) (sym (tested-facts c (enters link step node.parts) link took)) ∙ is) other

passed-alike : (serves untested : Bool) → (serves && untested) ≡ false → (serves && true) ≡ (serves && not untested)
passed-alike true false e = refl
passed-alike true true e = absurd cc
passed-alike false untested e = refl

pub passed_flows_held : tests_hold_changed_flows
passed_flows_held c link node destination sls from to fits few was is other =
    let l : Link = link_at node.parts link in
    begin-held c (is_first_test link node.parts) link (record l { test_failed = false; untested = false }) (test_passed c link node.parts).timers node destination sls from to fits few
    (passed-none (in_service node.parts link) l.untested) (passed-alike (in_service node.parts link) l.untested) was is other
