-- A link takes a step of its alignment, or passes a test, and if it begins to carry traffic it takes its flows back.
use Rattle.pair_rules.proofs.Basics.{◌≡◌, ◌≢◌, ◌⊎◌, inl, inr, ◌<◌, ◌&&◌, ℕ, zero, suc, Bool, true, false, not, List, [], length, refl, ap, sym, subst, ◌∙◌, if◌then◌else◌, ⊎_elim, fun_ext, and_parts, cases_eq}
use Rattle.pair_rules.proofs.Definitions.{code_for, hold_flows, is_taken_back, answer, Handled, Ignored, Message, Configuration, Input, acts_on, Link, is_down, is_in_service, stepped, FrameValue, facts_alike, chosen_link, Facts, Node, Parts, with_parts, down, in_service, link_at, WholeQueues, whole, has_other, facts, network_of, set_of, change_back, loses_flows, take_back_each, advance, begun_anew_if, enters, step_on, Alignment, StaysFit, fit-steps, each-step, anew-steps, stepped-at, stepped-other, stepping-there, LinkEnd}
use Rattle.link.specs.declared.action.Action.TheVariants.{Go}
use Rattle.link.specs.declared.action.Transition.{Transition}
use Rattle.std.proofs.lemmas.Option.{same_Some}
use Rattle.std.specs.Prelude.{Some}
use Rattle.link.specs.declared.alignment.Alignment.TheVariants.{Down, NotAligned, Aligned, Proving, AlignedReady, InService}
use Rattle.mtp3_codec.specs.Management.{LinkTestValue}
use Rattle.flow_hold.specs.Pairs.{IsAnyFlow}
use Rattle.exchange_rules.proofs.Entering.{passed-none}
use Rattle.exchange_rules.proofs.Moves.{serving-there}
use Rattle.exchange_rules.proofs.Steps.{brings_back}
use Rattle.exchange_rules.proofs.SteppingTests.{passed_anew-steps, serving-up}
use Rattle.exchange_rules.proofs.TakenBack.{some_lost, went, other_loses}
use Rattle.exchange_rules.specs.Entering.{begun_anew, begin_traffic}
use Rattle.exchange_rules.specs.Frames.{take_step, test_if}
use Rattle.exchange_rules.specs.LinkTests.{answers_test, is_first_test, is_test_awaited, on_test_answer, pass_test, passes_test, test_passed, tests_links}
use Rattle.exchange_rules.proofs.Rules.{rules-of}
use Rattle.pair_moves.specs.Moves as moves
use Rattle.pair_rules.proofs.World.{World, heard, is_heard, end_of}
use Rattle.pair_rules.proofs.Going.{Goes, goes-one, goes-same}
use Rattle.neighbour_rules.proofs.World.{code_of, line_of, reading, route_of}
use Rattle.neighbour_rules.proofs.Good.{Joint, Passes, at, passes-both, passes-good, passes-none, set}
use Rattle.neighbour_rules.proofs.Lines.{becomes, own-line}
use Rattle.neighbour_rules.proofs.Entries.{IsComing, all-ways, end_with, enters-heard, leads-heard, leads-up, not-so, starts-up}
use Rattle.neighbour_rules.proofs.Testing.{begin_test-passes}
use Rattle.neighbour_rules.proofs.Relinked.{relinked-passes}
use Rattle.neighbour_rules.proofs.Falling.{holds-alike}
use Rattle.neighbour_rules.proofs.Unseen.{own}
use Rattle.neighbour_rules.proofs.Beginning.{anew-good, changed-down, changing-aside, returning-passes, route_by, shown_at, shown_with, with_holds}

same-service : (a b : Bool) → (a && not b) ≡ false → (b ≡ true → a ≡ true) → a ≡ b
same-service true true e f = refl
same-service true false e f = absurd cc
same-service false true e f = f refl
same-service false false e f = refl

was-out : (a b : Bool) → (a && not b) ≡ true → b ≡ false
was-out true false e = refl
was-out true true e = absurd cc
was-out false b e = absurd cc

out-of-traffic : (serves untested : Bool) → serves ≡ false → (serves && not untested) ≡ false
out-of-traffic false untested e = refl
out-of-traffic true untested e = absurd cc

both-none : (after before untested : Bool) → untested ≡ true → (after && not untested) ≡ (before && not untested)
both-none true true untested e = refl
both-none true false true e = refl
both-none true false false e = absurd cc
both-none false true true e = refl
both-none false true false e = absurd cc
both-none false false untested e = refl

later-none : (serves untested : Bool) → serves ≡ true → (serves && untested) ≡ false → false ≡ untested
later-none true false e f = refl
later-none true true e f = absurd cc
later-none false untested e f = absurd cc

serving-heard : (a : Alignment) → is_in_service a ≡ true → is_heard a ≡ true
serving-heard Down e = absurd cc
serving-heard NotAligned e = absurd cc
serving-heard Aligned e = absurd cc
serving-heard (Proving ready) e = absurd cc
serving-heard AlignedReady e = absurd cc
serving-heard InService e = refl

-- as long as what is known of routes is the same, no link loses flows
no-loss : (c : Configuration) (f : Facts) (link other : ℕ) → loses_flows c f f other link ≡ false
no-loss c f link other = by (loses_flows c f f other link) refl
  where
    by : (b : Bool) → loses_flows c f f other link ≡ b → b ≡ false
    by false e = refl
    by true e =
        let some : IsAnyFlow (length c.destinations) (is_taken_back f f other link) = some_lost c f f other link e in
        let links : (chosen_link f some.flow.destination some.flow.sls ≡ Some other) × (chosen_link f some.flow.destination some.flow.sls ≡ Some link) =
        went f f other link some.flow.destination some.flow.sls some.passing in
        absurd (other_loses c f f other link e (same_Some other link (sym links.0 ∙ links.1)))

nothing-back : (c : Configuration) (f : Facts) (link many : ℕ) (n : Node WholeQueues) → take_back_each whole c f f link many n ≡ n
unfolding take_back_each
nothing-back c f link zero n = refl
nothing-back c f link (suc other) n =
    let one : Node WholeQueues = take_back_each whole c f f link other n in
    ap (λ (b : Bool). if b then hold_flows whole c f f (code_for whole c link other one) link other one else one) (no-loss c f link other)
    ∙ nothing-back c f link other n

module _ (c z : Configuration) (j : Joint c z) where
  -- ---- a step of the alignment

  module _ (w : World) (n : Node WholeQueues) (arrived : List Message) (link : ℕ) (input : Input) (step : Transition) (e : acts_on (link_at n.parts link) input ≡ Go step) where
    abbrev once : Parts
    once = step_on c link step n.parts

    abbrev in_world : Node WholeQueues → World
    in_world o = at c z j w o arrived []

    abbrev stepped_link : Link
    stepped_link = stepped step (link_at n.parts link)

    there-is : link < length n.parts.links
    there-is = stepping-there n.parts link input step e

    was-up : down n.parts link ≡ false
    was-up = starts-up (link_at n.parts link).period (link_at n.parts link).alignment input step e

    is-up : is_down step.state ≡ false
    is-up = leads-up (link_at n.parts link).period (link_at n.parts link).alignment input step e

    heard-so : is_heard step.state ≡ true
    heard-so = leads-heard (link_at n.parts link).period (link_at n.parts link).alignment input step e

    heard-then : heard once link ≡ true
    heard-then = ap (λ (l : Link). is_heard l.alignment) (stepped-at c link step n.parts there-is) ∙ heard-so

    step-down : (other : ℕ) → down once other ≡ down n.parts other
    step-down other = changed-down c z j w n arrived link stepped_link once.timers there-is was-up is-up other

    -- whether or not what is known over its set is reset
    anew-fits : (again : Bool) → StaysFit c n (with_parts n (begun_anew_if again c link once))
    anew-fits again = (fit-steps c).both _ _ _ ((fit-steps c).stepped link input step n tt e) (anew-steps (rules-of (fit-steps c)) again link (with_parts n once) tt)

    -- ---- where it is in service as before, and is one of the two

    module _ (stays : is_in_service step.state ≡ in_service n.parts link) (its : set_of c link ≡ set c z j) where
      step-service : (other : ℕ) → in_service once other ≡ in_service n.parts other
      step-service other =
          ⊎_elim
          (λ (same : other ≡ link).
          subst (λ (k : ℕ). in_service once k ≡ in_service n.parts k) (sym same)
          (ap (λ (l : Link). is_in_service l.alignment) (stepped-at c link step n.parts there-is) ∙ stays))
          (λ (d : other ≢ link). ap (λ (l : Link). is_in_service l.alignment) (stepped-other c link other step n.parts d))
          (cases_eq other link)

      -- and where it had heard the other end
      step-heard : heard n.parts link ≡ true → (other : ℕ) → heard once other ≡ heard n.parts other
      step-heard before other =
          ⊎_elim
          (λ (same : other ≡ link).
          subst (λ (k : ℕ). heard once k ≡ heard n.parts k) (sym same) (heard-then ∙ sym before))
          (λ (d : other ≢ link). ap (λ (l : Link). is_heard l.alignment) (stepped-other c link other step n.parts d))
          (cases_eq other link)

      facts-same : facts c once ≡ facts c n.parts
      facts-same = facts_alike (network_of c n.parts) link stepped_link (ap (λ (b : Bool). b && not (link_at n.parts link).untested) stays)

      same-shown : heard n.parts link ≡ true → shown_at c z j (in_world (with_parts n once)) ≡ shown_at c z j (in_world n)
      same-shown before =
          let same : (λ (other : ℕ). end_with n other (down once other) (in_service once other) (heard once other)) ≡ end_of n =
          fun_ext (λ (other : ℕ). all-ways n other (down once other) (down n.parts other) (in_service once other) (in_service n.parts other) (heard once other) (heard n.parts other)
          (step-down other) (step-service other) (step-heard before other)) in
          ap (λ (f : Facts). shown_with c z j (route_by c z j f) (in_world (with_parts n once))) facts-same
          ∙ ap (with_holds c z j (shown_with c z j (route_by c z j (facts c n.parts)) (in_world (with_parts n once)))) (holds-alike c z j n.parts once refl)
          ∙ ap (λ (nears : ℕ → LinkEnd). record (shown_at c z j (in_world n)) { line = λ code. record (line_of c z (set c z j) j.shares.far_set w code) { near = nears (own c z j code) } }) same

      -- a link status that comes is heard
      hearing-goes : IsComing w link → link < length c.links → Goes (reading c.own z.own j.base) (shown_at c z j (in_world n)) (shown_at c z j (in_world (with_parts n once)))
      hearing-goes coming there =
          let k : ℕ = own c z j (code_of c link) in
          let mine : k ≡ link = own-line c j.near_well (set c z j) link there its in
          goes-one (reading c.own z.own j.base) _ _
          (moves.hears_status (record {
            link = code_of c link;
            up = ap (λ (l : ℕ). not (down n.parts l)) mine ∙ ap not was-up;
            rest = length coming.rest;
            some = ap (λ (l : ℕ). length (w.to_near.statuses l)) mine ∙ ap (λ (fs : List FrameValue). length fs) coming.first;
            lines = line_of c z (set c z j) j.shares.far_set (in_world (with_parts n once));
            set = becomes c z j (in_world n) (with_parts n once) arrived [] (route_of c j.base.there (set c z j) n.parts) link (record (end_of n k) { heard = true }) there its
                (all-ways n link (down once link) (down n.parts link) (in_service once link) (in_service n.parts link) (heard once link) true (step-down link) (step-service link) heard-then
                ∙ ap (λ (l : ℕ). record (end_of n l) { heard = true }) (sym mine))
                (λ other d. ap (λ (l : Link). end_with n other (is_down l.alignment) (is_in_service l.alignment) (is_heard l.alignment)) (stepped-other c link other step n.parts d));
            after = ap (λ (f : Facts). shown_with c z j (route_by c z j f) (in_world (with_parts n once))) facts-same
                ∙ ap (with_holds c z j (shown_with c z j (route_by c z j (facts c n.parts)) (in_world (with_parts n once)))) (holds-alike c z j n.parts once refl);
          }))

      staying-goes : (heard n.parts link ≡ true) ⊎ IsComing w link → link < length c.links → Goes (reading c.own z.own j.base) (shown_at c z j (in_world n)) (shown_at c z j (in_world (with_parts n once)))
      staying-goes (inl before) there = goes-same (reading c.own z.own j.base) _ _ (sym (same-shown before))
      staying-goes (inr coming) there = hearing-goes coming there

      staying-passes : (heard n.parts link ≡ true) ⊎ IsComing w link → Passes c z j (in_world n) (in_world (with_parts n once))
      staying-passes came = record {
        goes = λ g. staying-goes came (subst (λ (k : ℕ). link < k) g.fits.places.parts.links there-is);
        good = λ g. anew-good c z j w n arrived link stepped_link once.timers there-is was-up is-up false (anew-fits false) g;
      }

    -- ---- where it enters service

    module _ (entered : enters link step n.parts ≡ true) where
      unserved : in_service n.parts link ≡ false
      unserved = was-out (is_in_service step.state) (in_service n.parts link) entered

      led : is_in_service step.state ≡ true
      led = (and_parts (is_in_service step.state) (not (in_service n.parts link)) entered).0

      back-passes : (again : Bool) → (again ≡ true → has_other c link n.parts ≡ false) → link < length c.links
          → Passes c z j (in_world n) (in_world (change_back whole c link (facts c n.parts) (with_parts n (begun_anew_if again c link once))))
      back-passes again alone there =
          returning-passes c z j w n arrived link stepped_link once.timers there-is was-up is-up
          (out-of-traffic (in_service n.parts link) (link_at n.parts link).untested unserved) led
          (enters-heard (link_at n.parts link).period (link_at n.parts link).alignment input step e led) heard-so again (anew-fits again) alone there

      -- with a test to pass it takes nothing back
      none-returns : (link_at n.parts link).untested ≡ true → change_back whole c link (facts c n.parts) (with_parts n once) ≡ with_parts n once
      none-returns untested =
          ap (λ (f : Facts). take_back_each whole c (facts c n.parts) f link (length c.links) (with_parts n once)) known
          ∙ nothing-back c (facts c n.parts) link (length c.links) (with_parts n once)
        where
          known : facts c once ≡ facts c n.parts
          known = facts_alike (network_of c n.parts) link stepped_link (both-none (is_in_service step.state) (in_service n.parts link) (link_at n.parts link).untested untested)

      entered-by-step : (tested : Bool) → (link_at n.parts link).untested ≡ tested → link < length c.links
          → Passes c z j (in_world n) (in_world (begin_traffic whole c (not tested) link once n))
      entered-by-step false f there = back-passes (not (has_other c link n.parts)) (λ h. not-so (has_other c link n.parts) h) there
      entered-by-step true f there =
          subst (λ (m : Node WholeQueues). Passes c z j (in_world n) (in_world m)) (none-returns f) (back-passes false (λ h. absurd cc) there)

    abbrev advanced : (entered : Bool) → Node WholeQueues
    advanced entered = begin_traffic whole c (entered && not (link_at n.parts link).untested) link once n

    advance-by : (entered : Bool) → enters link step n.parts ≡ entered → link < length c.links → (set_of c link ≡ set c z j → (heard n.parts link ≡ true) ⊎ IsComing w link)
        → Passes c z j (in_world n) (in_world (advanced entered))
    advance-by true f there came = entered-by-step f (link_at n.parts link).untested refl there
    advance-by false f there came =
        ⊎_elim
        (λ (its : set_of c link ≡ set c z j).
        staying-passes (same-service (is_in_service step.state) (in_service n.parts link) f (each-step (link_at n.parts link).period (link_at n.parts link).alignment input step e).stays) its (came its))
        (λ (d : set_of c link ≢ set c z j). changing-aside c z j w n arrived link stepped_link once.timers there-is was-up is-up false (anew-fits false) there d)
        (cases_eq (set_of c link) (set c z j))

    testing : (entered : Bool) (m : Node WholeQueues) → Passes c z j (in_world m) (in_world (test_if whole c entered link m))
    testing true m = begin_test-passes c z j w arrived link m
    testing false m = passes-none c z j (in_world m)

    advancing : (set_of c link ≡ set c z j → (heard n.parts link ≡ true) ⊎ IsComing w link) → Passes c z j (in_world n) (in_world (advance whole c link step n))
    advancing came =
        passes-both c z j _ _ _
        (passes-good c z j _ _ (λ g. advance-by (enters link step n.parts) refl (subst (λ (k : ℕ). link < k) g.fits.places.parts.links there-is) came))
        (testing (enters link step n.parts) (take_step whole c link step n))

  -- a link that heard the other end, or that a status comes to
  pub advance-passes : (w : World) (n : Node WholeQueues) (arrived : List Message) (link : ℕ) (input : Input) (step : Transition) → acts_on (link_at n.parts link) input ≡ Go step
      → (heard n.parts link ≡ true) ⊎ IsComing w link → Passes c z j (at c z j w n arrived []) (at c z j w (advance whole c link step n) arrived [])
  advance-passes w n arrived link input step e came = advancing w n arrived link input step e (λ its. came)

  -- any that leads elsewhere
  pub advance-elsewhere : (w : World) (n : Node WholeQueues) (arrived : List Message) (link : ℕ) (input : Input) (step : Transition) → acts_on (link_at n.parts link) input ≡ Go step
      → set_of c link ≢ set c z j → Passes c z j (at c z j w n arrived []) (at c z j w (advance whole c link step n) arrived [])
  advance-elsewhere w n arrived link input step e d = advancing w n arrived link input step e (λ its. absurd (d its))

  -- ---- a test passes

  module _ (w : World) (n : Node WholeQueues) (arrived : List Message) (link : ℕ) (serves : in_service n.parts link ≡ true) where
    abbrev then_world : Node WholeQueues → World
    then_world o = at c z j w o arrived []

    abbrev passed_link : Link
    passed_link = record (link_at n.parts link) { test_failed = false; untested = false }

    -- by the first the link begins to carry traffic
    pass-by : (first : Bool) → is_first_test link n.parts ≡ first → StaysFit c n (with_parts n (begun_anew first c link n.parts (test_passed c link n.parts))) → link < length c.links
        → link < length n.parts.links → Passes c z j (then_world n) (then_world (begin_traffic whole c first link (test_passed c link n.parts) n))
    pass-by false f fits there inside =
        relinked-passes c z j w n arrived [] link passed_link (test_passed c link n.parts).timers refl (later-none (in_service n.parts link) (link_at n.parts link).untested serves f) (λ h. h) fits
    pass-by true f fits there inside =
        returning-passes c z j w n arrived link passed_link (test_passed c link n.parts).timers inside (serving-up (link_at n.parts link).alignment serves)
        (serving-up (link_at n.parts link).alignment serves) (passed-none (in_service n.parts link) (link_at n.parts link).untested f) serves
        (serving-heard (link_at n.parts link).alignment serves) (serving-heard (link_at n.parts link).alignment serves)
        (not (has_other c link n.parts)) fits (λ h. not-so (has_other c link n.parts) h) there

    pub pass_test-passes : tests_links c ≡ true → Passes c z j (then_world n) (then_world (pass_test whole c link n))
    pass_test-passes on =
        passes-good c z j _ _ (λ g.
        let inside : link < length n.parts.links = serving-there n.parts link serves in
        pass-by (is_first_test link n.parts) refl
        (passed_anew-steps (rules-of (fit-steps c)) (brings_back c link n.parts) link n on serves (λ h. tt) refl)
        (subst (λ (k : ℕ). link < k) g.fits.places.parts.links inside) inside)

    answered-passes : (passes : Bool) (point : ℕ) (test : LinkTestValue) → passes_test c link point test n.parts ≡ passes
        → Passes c z j (then_world n) (then_world (if passes then answer Handled (pass_test whole c link n) else answer Ignored n).left)
    answered-passes true point test f =
        pass_test-passes (and_parts (tests_links c) (is_test_awaited link n.parts && answers_test c link point test) f).0
    answered-passes false point test f = passes-none c z j (then_world n)

    pub on_test_answer-passes : (point : ℕ) (test : LinkTestValue) → Passes c z j (then_world n) (then_world (on_test_answer whole c link point test n).left)
    on_test_answer-passes point test = answered-passes (passes_test c link point test n.parts) point test refl
