-- If nothing but ticks happens, no timer runs after a while that may take a link into service or out of it, those of
-- tests included. So all holds end.
use Rattle.exchange_rules.proofs.Basics.{◌≡◌, ◌≤◌, ◌-◌, ◌+◌, ℕ, zero, suc, Bool, true, false, List, ◌++◌, Option, Some, None, refl, ap, sym, ◌∙◌, subst, arith, is_some, false_from_ne_true as not-so, if◌then◌else◌, max}
use Rattle.exchange_rules.proofs.Definitions.{Configuration, TimerName, is_running, Asking, Abstract, apply, after_each, first_state, link_at, tests_links, answer_ticks, pause_ticks}
use Rattle.link.specs.declared.period.Period.{Period}
use Rattle.link.specs.declared.period.Period.TheVariants.{Fixed, Normal, Hurried, Emergency}
use Rattle.exchange_rules.specs.Timing.{paced}
use Rattle.exchange_rules.specs.TimerSettings.{setting_of, barring}
use Rattle.timers.specs.declared.name.TimerName.TheVariants as name
use Rattle.exchange_rules.specs.TickingAlone.{ticks_alone, IsQuiet, longest_turn, longest_tests, HoldsNothing, ticks_end_all_holds}
use Rattle.exchange_rules.proofs.Steps.{takes_links, is_of_test}
use Rattle.exchange_rules.proofs.Asked.{asked-all}
use Rattle.exchange_rules.proofs.LinkTurns as turns
use Rattle.exchange_rules.proofs.NoTests.{no-tests}
use Rattle.exchange_rules.proofs.UnansweredTests.{Still, Unanswered, again, tick-unanswered}
use Rattle.exchange_rules.proofs.SettingTimers.{timers-keep}
use Rattle.exchange_rules.proofs.WithinTimes.{Within}
use Rattle.exchange_rules.proofs.TickingAlone.{Quiet, Rested, after-settings, asked-behind, calm-end, ended-links, idle, quiet-of, runs-not, tick-punctual, tick-rested, tick_of, ticks-punctual, ticks-rested}
use Rattle.exchange_rules.proofs.NoneLate.{Punctual}

-- ---- no timer of a link runs that moves it

tick-links : (most : ℕ) (a : Abstract) → Within takes_links most a.node.parts.timers → Within takes_links (most - 1) (tick_of a).node.parts.timers
unfolding apply
tick-links most a w = ended-links a.settings a.node most w

ticks-links : (many most : ℕ) (a : Abstract) → Within takes_links most a.node.parts.timers → Within takes_links (most - many) (after_each (ticks_alone many) a).node.parts.timers
ticks-links zero most a w = subst (λ (k : ℕ). Within takes_links k a.node.parts.timers) (omega arith) w
ticks-links (suc many) most a w =
    subst (λ (k : ℕ). Within takes_links k (after_each (ticks_alone many) (tick_of a)).node.parts.timers) (omega arith) (ticks-links many (most - 1) (tick_of a) (tick-links most a w))

-- ticks, and then others
ticks-behind : (some more many : ℕ) (a : Abstract) → some + more ≡ many → after_each (ticks_alone many) a ≡ after_each (ticks_alone more) (after_each (ticks_alone some) a)
ticks-behind zero more many a e = (let same : many ≡ more = omega (arith, e) in ap (λ (k : ℕ). after_each (ticks_alone k) a) same)
ticks-behind (suc some) more zero a e = absurd (omega (arith, e))
ticks-behind (suc some) more (suc many) a e = ticks-behind some more many (tick_of a) (omega (arith, e))

-- ---- then no link is tested any more

still : (a : Abstract) → Within takes_links 0 a.node.parts.timers → Rested a → Still a.settings a.node.parts.timers
still a w r = record { none = λ timer takes x h. runs-not (a.node.parts.timers.left timer) x (idle takes_links a.node.parts.timers timer w takes (r.due timer)) h }

tick-tests : (most : ℕ) (a : Abstract) → Within takes_links 0 a.node.parts.timers → Rested a → Unanswered a.settings most a.node.parts → Unanswered a.settings (most - 1) (tick_of a).node.parts
unfolding apply
tick-tests most a w r u = tick-unanswered a.settings most a.node r.due (still a w r) u

ticks-tests : (many most : ℕ) (a : Abstract) → Within takes_links 0 a.node.parts.timers → Rested a → Unanswered a.settings most a.node.parts
    → Unanswered a.settings (most - many) (after_each (ticks_alone many) a).node.parts
ticks-tests zero most a w r u = subst (λ (k : ℕ). Unanswered a.settings k a.node.parts) (omega arith) u
ticks-tests (suc many) most a w r u =
    subst (λ (k : ℕ). Unanswered a.settings k (after_each (ticks_alone many) (tick_of a)).node.parts) (omega arith)
    (ticks-tests many (most - 1) (tick_of a) (tick-links 0 a w) (tick-rested a) (tick-tests most a w r u))

-- neither the period for which a link is proved nor the bar says anything of its tests
within-answer : (c : Configuration) (link x : ℕ) → (period : Period) × (is_bar : Bool) × (x ≤ max 1 (setting_of (paced period (barring is_bar c.timers)) (name.Slt1 link))) → x ≤ max 1 (answer_ticks c)
within-answer c link x (Fixed, false, l) = l
within-answer c link x (Normal, false, l) = l
within-answer c link x (Hurried, false, l) = l
within-answer c link x (Emergency, false, l) = l
within-answer c link x (Fixed, true, l) = l
within-answer c link x (Normal, true, l) = l
within-answer c link x (Hurried, true, l) = l
within-answer c link x (Emergency, true, l) = l

within-pause : (c : Configuration) (link x : ℕ) → (period : Period) × (is_bar : Bool) × (x ≤ max 1 (setting_of (paced period (barring is_bar c.timers)) (name.Slt2 link))) → x ≤ max 1 (pause_ticks c)
within-pause c link x (Fixed, false, l) = l
within-pause c link x (Normal, false, l) = l
within-pause c link x (Hurried, false, l) = l
within-pause c link x (Emergency, false, l) = l
within-pause c link x (Fixed, true, l) = l
within-pause c link x (Normal, true, l) = l
within-pause c link x (Hurried, true, l) = l
within-pause c link x (Emergency, true, l) = l

-- in each state reached from the first
reached-tests : (c : Configuration) (asked : List Asking) → Unanswered c (max 1 (pause_ticks c) + (max 1 (answer_ticks c) + max 1 (answer_ticks c))) (after_each asked (first_state c)).node.parts
reached-tests c asked = record {
  first = λ link x h. by (link_at (after_each asked (first_state c)).node.parts link).test_failed x (within-answer c link x (timers-keep c asked (name.Slt1 link) x h));
  second = λ link x h. omega (arith, within-pause c link x (timers-keep c asked (name.Slt2 link) x h));
}
  where
    by : (failed : Bool) (x : ℕ) → x ≤ max 1 (answer_ticks c) → x + again c failed ≤ max 1 (pause_ticks c) + (max 1 (answer_ticks c) + max 1 (answer_ticks c))
    by true x l = omega (arith, l)
    by false x l = omega (arith, l)

none-tested : (a : Abstract) → Rested a → Unanswered a.settings 0 a.node.parts → (timer : TimerName) → is_of_test timer ≡ true → is_running timer a.node.parts.timers ≡ false
none-tested a r u timer of = not-so (is_running timer a.node.parts.timers) (λ runs. by timer of (a.node.parts.timers.left timer) refl runs)
  where
    ended : (its : TimerName) (x : ℕ) → x ≤ 0 → a.node.parts.timers.left its ≡ Some x → ⊥
    ended its x l h = (let zero_left : x ≡ 0 = omega (arith, l) in r.due its (h ∙ ap (λ (k : ℕ). Some k) zero_left))

    by : (its : TimerName) → is_of_test its ≡ true → (o : Option ℕ) → a.node.parts.timers.left its ≡ o → is_some o ≡ true → ⊥
    by its e None h runs = absurd cc
    by (name.Slt1 link) e (Some x) h runs = ended (name.Slt1 link) x (let l = u.first link x h in omega (arith, l)) h
    by (name.Slt2 link) e (Some x) h runs = ended (name.Slt2 link) x (let l = u.second link x h in omega (arith, l)) h
    by (name.L1 link) e (Some x) h runs = absurd cc
    by (name.L2 link) e (Some x) h runs = absurd cc
    by (name.L3 link) e (Some x) h runs = absurd cc
    by (name.L4 link) e (Some x) h runs = absurd cc
    by (name.L6 link) e (Some x) h runs = absurd cc
    by (name.L7 link) e (Some x) h runs = absurd cc
    by (name.T1 link) e (Some x) h runs = absurd cc
    by (name.T2 link) e (Some x) h runs = absurd cc
    by (name.T3 link) e (Some x) h runs = absurd cc
    by (name.T4 set code) e (Some x) h runs = absurd cc
    by (name.T6 destination) e (Some x) h runs = absurd cc
    by (name.T8 set destination) e (Some x) h runs = absurd cc
    by (name.T10 set destination) e (Some x) h runs = absurd cc

-- after as long as the first two times together
untested : (c : Configuration) (asked : List Asking) (turn more : ℕ) → longest_turn c.timers ≡ suc turn → longest_tests c ≤ more
    → (timer : TimerName) → is_of_test timer ≡ true → is_running timer (after_each (ticks_alone more) (after_each (ticks_alone (suc turn)) (after_each asked (first_state c)))).node.parts.timers ≡ false
untested c asked turn more e long = by (tests_links c) refl
  where
    first : Abstract
    first = after_each asked (first_state c)

    rested : Abstract
    rested = after_each (ticks_alone (suc turn)) first

    reached : rested ≡ after_each (asked ++ ticks_alone (suc turn)) (first_state c)
    reached = sym (asked-behind asked (ticks_alone (suc turn)) (first_state c))

    none : Within takes_links 0 rested.node.parts.timers
    none =
        (let least : longest_turn c.timers - suc turn ≡ 0 = omega (arith, e) in
        subst (λ (k : ℕ). Within takes_links k rested.node.parts.timers) least
        (ticks-links (suc turn) (longest_turn c.timers) first ((asked-all (turns.bounds-all c) asked (first_state c) refl).stay (turns.first-bounded c))))

    its-settings : rested.settings ≡ c
    its-settings = after-settings (ticks_alone (suc turn)) first ∙ after-settings asked (first_state c)

    by : (on : Bool) → tests_links c ≡ on → (timer : TimerName) → is_of_test timer ≡ true → is_running timer (after_each (ticks_alone more) rested).node.parts.timers ≡ false
    by false off timer of =
        subst (λ (b : Abstract). is_running timer b.node.parts.timers ≡ false)
        (asked-behind (asked ++ ticks_alone (suc turn)) (ticks_alone more) (first_state c) ∙ ap (after_each (ticks_alone more)) (sym reached))
        (no-tests c ((asked ++ ticks_alone (suc turn)) ++ ticks_alone more) off timer of)
    by true on timer of =
        (let most : ℕ = max 1 (pause_ticks c) + (max 1 (answer_ticks c) + max 1 (answer_ticks c)) in
        let enough : most ≤ more = subst (λ (k : ℕ). k ≤ more) (ap (λ (b : Bool). if b then most else 0) on) long in
        let at_first : Unanswered rested.settings most rested.node.parts =
        subst (λ (d : Configuration). Unanswered d most rested.node.parts) (sym its-settings)
        (subst (λ (b : Abstract). Unanswered c most b.node.parts) (sym reached) (reached-tests c (asked ++ ticks_alone (suc turn)))) in
        let later : Abstract = after_each (ticks_alone more) rested in
        let left : Unanswered rested.settings (most - more) later.node.parts = ticks-tests more most rested none (ticks-rested turn (tick_of first) (tick-rested first)) at_first in
        none-tested later (ticks-rested more rested (ticks-rested turn (tick_of first) (tick-rested first)))
        (subst (λ (d : Configuration). Unanswered d 0 later.node.parts) (sym (after-settings (ticks_alone more) rested))
        (subst (λ (k : ℕ). Unanswered rested.settings k later.node.parts) (omega (arith, enough)) left)) timer of)

quiet-then : (c : Configuration) (asked : List Asking) (turn more : ℕ) → longest_turn c.timers ≡ suc turn → longest_tests c ≤ more
    → IsQuiet (after_each (ticks_alone more) (after_each (ticks_alone (suc turn)) (after_each asked (first_state c)))).node.parts.timers
quiet-then c asked turn more e long =
    let first : Abstract = after_each asked (first_state c) in
    let rested : Abstract = after_each (ticks_alone (suc turn)) first in
    let later : Abstract = after_each (ticks_alone more) rested in
    let least : longest_turn c.timers - suc turn ≡ 0 = omega (arith, e) in
    let none : Within takes_links 0 rested.node.parts.timers =
    subst (λ (k : ℕ). Within takes_links k rested.node.parts.timers) least
    (ticks-links (suc turn) (longest_turn c.timers) first ((asked-all (turns.bounds-all c) asked (first_state c) refl).stay (turns.first-bounded c))) in
    let then_none : Within takes_links 0 later.node.parts.timers =
    subst (λ (k : ℕ). Within takes_links k later.node.parts.timers) (omega arith) (ticks-links more 0 rested none) in
    let rests : Rested later = ticks-rested more rested (ticks-rested turn (tick_of first) (tick-rested first)) in
    record {
      l4 = λ link. idle takes_links later.node.parts.timers (name.L4 link) then_none refl (rests.due (name.L4 link));
      l6 = λ link. idle takes_links later.node.parts.timers (name.L6 link) then_none refl (rests.due (name.L6 link));
      l7 = λ link. idle takes_links later.node.parts.timers (name.L7 link) then_none refl (rests.due (name.L7 link));
      slt1 = λ link. untested c asked turn more e long (name.Slt1 link) refl;
      slt2 = λ link. untested c asked turn more e long (name.Slt2 link) refl;
    }

pub ticks-end : ticks_end_all_holds
ticks-end c asked many few long = by (longest_turn c.timers) refl
  where
    by : (turn : ℕ) → longest_turn c.timers ≡ turn → HoldsNothing (after_each (ticks_alone many) (after_each asked (first_state c)))
    by zero e = absurd (omega (arith, e))
    by (suc turn) e =
        (let first : Abstract = first_state c in
        let tests : ℕ = longest_tests c in
        let rest : ℕ = many - suc turn in
        let before : Abstract = after_each asked first in
        let turned : Abstract = after_each (ticks_alone (suc turn)) before in
        let tested : Abstract = after_each (ticks_alone tests) turned in
        let all : List Asking = (asked ++ ticks_alone (suc turn)) ++ ticks_alone tests in
        let reached : after_each all first ≡ tested =
        asked-behind (asked ++ ticks_alone (suc turn)) (ticks_alone tests) first ∙ ap (after_each (ticks_alone tests)) (asked-behind asked (ticks_alone (suc turn)) first) in
        let its-settings : tested.settings ≡ c = after-settings (ticks_alone tests) turned ∙ after-settings (ticks_alone (suc turn)) before ∙ after-settings asked first in
        let punctual : Punctual c tested.node = subst (λ (d : Configuration). Punctual d tested.node) its-settings (ticks-punctual tests turned (ticks-punctual turn (tick_of before) (tick-punctual before))) in
        subst HoldsNothing (sym (ticks-behind (suc turn) rest many before (omega (arith, long, e))))
        (subst HoldsNothing (sym (ticks-behind tests (rest - tests) rest turned (omega (arith, long, e))))
        (subst (λ (a : Abstract). HoldsNothing (after_each (ticks_alone (rest - tests)) a)) reached
        (calm-end c all few (rest - tests)
        (subst (λ (a : Abstract). Quiet a.node.parts.timers) (sym reached) (quiet-of tested.node.parts.timers (quiet-then c asked turn tests e (omega arith))))
        (subst (λ (a : Abstract). Punctual c a.node) (sym reached) punctual)
        (omega (arith, long, e))))))
