-- Ready is the last status that waits on a link that was proved.
use Rattle.exchange_rules.proofs.Basics.{◌≡◌, ◌≢◌, ◌⊎◌, inl, inr, ◌==◌, ◌||◌, not, ℕ, Bool, true, false, List, [], ◌∷◌, ◌++◌, Option, Some, None, refl, ap, sym, subst, ◌∙◌, drop, append-nil, option_to_list}
use Rattle.exchange_rules.proofs.Definitions.{Configuration, Alignment, LinkStatus, Input, Go, Transition, Period, Effect, Fails, Remembers, Enters, EntersServing, BeginsAgain, Serves, Passes, Cell, table, period_after, state_number, effect_in, action_of, Link, stepped, with_ready, link_at, first_state, after_each}
use Rattle.m2pa_codec.specs.declared.status.LinkStatus.TheVariants as says
use Rattle.exchange_rules.specs.LawsOfOutage.{ready_goes_last}
use Rattle.exchange_rules.proofs.Serving.{IsInAll, cell-found, serving-number, step_in}
use Rattle.exchange_rules.proofs.Steps.{WaitsAs}
use Rattle.exchange_rules.proofs.LastingPeriods.{IsLasting, in-each}

-- ---- the statuses that wait

abbrev Ending : List LinkStatus → Type 0
Ending waiting = (waiting ≡ []) ⊎ ((others : List LinkStatus) × (waiting ≡ others ++ says.Ready ∷ []))

fewer : (others : List LinkStatus) → Ending (drop 1 (others ++ says.Ready ∷ []))
fewer [] = inl refl
fewer (status ∷ others) = inr (others, refl)

dropped : (waiting : List LinkStatus) → Ending waiting → Ending (drop 1 waiting)
dropped waiting (inl e) = inl (ap (λ (xs : List LinkStatus). drop 1 xs) e)
dropped waiting (inr e) = subst (λ (xs : List LinkStatus). Ending (drop 1 xs)) (sym e.1) (fewer e.0)

readied : (waiting : List LinkStatus) → Ending waiting → Ending (with_ready waiting)
readied [] e = inr ([], refl)
readied (status ∷ others) e = e

waited : (before after : List LinkStatus) → WaitsAs before after → Ending before → Ending after
waited before after (inl e) h = subst Ending (sym e) h
waited before after (inr (inl e)) h = subst Ending (sym e) (dropped before h)
waited before after (inr (inr e)) h = subst Ending (sym e) (readied before h)

-- ---- the table: what leads to a state beyond proving sends Ready, or was beyond it

abbrev is_beyond : (number : ℕ) → Bool
is_beyond number = number == 5 || number == 6

abbrev sends_ready : (sent : Option LinkStatus) → (was is : Bool) → Bool
sends_ready None was is = not is || was
sends_ready (Some says.Ready) was is = true
sends_ready (Some _) was is = not is

abbrev cell_ends : (number : ℕ) → Effect → Bool
cell_ends number Fails = true
cell_ends number Remembers = true
cell_ends number (Enters state sent started) = sends_ready sent (is_beyond number) (is_beyond (state_number state))
cell_ends number EntersServing = is_beyond number
cell_ends number BeginsAgain = true
cell_ends number Serves = true
cell_ends number Passes = true

ends-all : IsInAll (λ (c : Cell). cell_ends (state_number c.state) c.effect)
ends-all = record { fixed = refl; normal = refl; hurried = refl; emergency = refl }

sent-last : (waiting : List LinkStatus) (sent : Option LinkStatus) (was : Bool) → sends_ready sent was true ≡ true → (was ≡ true → Ending waiting) → Ending (waiting ++ option_to_list sent)
sent-last waiting None was e h = subst Ending (sym (append-nil waiting)) (h e)
sent-last waiting (Some says.Ready) was e h = inr (waiting, refl)
sent-last waiting (Some says.Alignment) was e h = absurd cc
sent-last waiting (Some says.ProvingNormal) was e h = absurd cc
sent-last waiting (Some says.ProvingEmergency) was e h = absurd cc
sent-last waiting (Some says.ProcessorOutage) was e h = absurd cc
sent-last waiting (Some says.ProcessorRecovered) was e h = absurd cc
sent-last waiting (Some says.Busy) was e h = absurd cc
sent-last waiting (Some says.BusyEnded) was e h = absurd cc
sent-last waiting (Some says.OutOfService) was e h = absurd cc

-- ---- a link

abbrev Ends : Link → Type 0
Ends x = is_beyond (state_number x.alignment) ≡ true → Ending x.waiting

effect-ends : (x : Link) (after : Period) (input : Input) (effect : Option Effect) (step : Transition) → effect_in (table x.period) x.alignment input ≡ effect
    → action_of after x.alignment effect ≡ Go step → Ends x → Ends (stepped (step_in (action_of after x.alignment effect)) x)
effect-ends x after input None step f e h = absurd cc
effect-ends x after input (Some Fails) step f e h = absurd cc
effect-ends x after input (Some Passes) step f e h = absurd cc
effect-ends x after input (Some Remembers) step f e h = λ beyond. absurd cc
effect-ends x after input (Some BeginsAgain) step f e h = λ beyond. absurd cc
effect-ends x after input (Some (Enters state sent started)) step f e h = λ beyond.
    sent-last x.waiting sent (is_beyond (state_number x.alignment))
    (sym (ap (λ (b : Bool). sends_ready sent (is_beyond (state_number x.alignment)) b) beyond) ∙ cell-found cell_ends x.period x.alignment input (Enters state sent started) ends-all f) h
effect-ends x after input (Some EntersServing) step f e h = λ beyond.
    subst Ending (sym (append-nil x.waiting)) (h (cell-found cell_ends x.period x.alignment input EntersServing ends-all f))
effect-ends x after input (Some Serves) step f e h = λ beyond. subst Ending (sym (append-nil x.waiting)) (h beyond)

ends-lasting : (c : Configuration) → IsLasting c Ends
ends-lasting c = record {
  failed = λ x h beyond. absurd cc;
  alike = λ x y e f may w h beyond. waited x.waiting y.waiting w (h (ap (λ (a : Alignment). is_beyond (state_number a)) (sym e) ∙ beyond));
  opened = λ p link x beyond. absurd cc;
  stepped = λ x input step e h.
      subst (λ (s : Transition). Ends (stepped s x)) (ap step_in e)
      (effect-ends x (period_after x.period input) input (effect_in (table x.period) x.alignment input) step refl e h);
}

or-true : (b : Bool) → (b || true) ≡ true
or-true true = refl
or-true false = refl

some-ending : (waiting : List LinkStatus) → Ending waiting → waiting ≢ [] → (others : List LinkStatus) × (waiting ≡ others ++ says.Ready ∷ [])
some-ending waiting (inl e) some = absurd (some e)
some-ending waiting (inr e) some = e

pub ready-last : ready_goes_last
ready-last c asked link serves some =
    let l : Link = link_at (after_each asked (first_state c)).node.parts link in
    let beyond : is_beyond (state_number l.alignment) ≡ true =
    ap (λ (b : Bool). state_number l.alignment == 5 || b) (sym (serving-number l.alignment) ∙ serves) ∙ or-true (state_number l.alignment == 5) in
    some-ending l.waiting (in-each c Ends (ends-lasting c) asked (λ first. absurd cc) link beyond) some
