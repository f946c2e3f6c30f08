-- Whatever an exchange is asked, and however often, is made of rules: a relation that holds of each rule, of a tick and
-- of a timer that is handed out holds between the node before and the node after.
use Rattle.exchange_rules.proofs.Basics.{◌≡◌, ℕ, List, [], ◌∷◌, refl, sym, subst, ◌∙◌}
use Rattle.exchange_rules.proofs.Definitions.{Configuration, ticked, after_due, Node, with_timers, run_next, Happening, Asking, Happens, Takes, AsksWants, WholeQueues, whole, apply, after_take, Abstract, after_asking, after_each}
use Rattle.exchange_rules.proofs.Steps.{IsOfSteps, IsOfRules}
use Rattle.exchange_rules.proofs.Rules.{rules-of}
use Rattle.exchange_rules.proofs.SteppingEvents.{tick-steps, run_next-steps, apply-steps, take-steps}

-- any link
abbrev pub any : ℕ → Type 0
any link = Unit {0}

-- R holds of each rule, of a tick, and of a timer that is handed out and runs
pub record IsOfAll (c : Configuration) (R : Node WholeQueues → Node WholeQueues → Type 0) : Type 0 where
  pub rules : IsOfRules c any any R
  pub ticks : (n : Node WholeQueues) → R n (with_timers n (ticked n.parts.timers))
  pub next : (n : Node WholeQueues) → R n (run_next whole c n)

-- so it is where handing one out is like a step
pub all-of : {c : Configuration} {R : Node WholeQueues → Node WholeQueues → Type 0} → IsOfSteps c any any R → ((n : Node WholeQueues) → R n (with_timers n (ticked n.parts.timers)))
    → ((n : Node WholeQueues) → R n (with_timers n (after_due n.parts.timers))) → IsOfAll c R
all-of steps ticks due = record { rules = rules-of steps; ticks = ticks; next = λ n. run_next-steps (rules-of steps) n (due n) (λ link. tt) }

pub settings-stay : (asking : Asking) (a : Abstract) → (after_asking asking a).settings ≡ a.settings
settings-stay (Happens what) a = refl
settings-stay (Takes link) a = refl
settings-stay (AsksWants link) a = refl

module _ {c : Configuration} {R : Node WholeQueues → Node WholeQueues → Type 0} (s : IsOfAll c R) where
  pub event-all : (what : Happening) (n : Node WholeQueues) → R n (apply whole c what n).left
  event-all what n = apply-steps s.rules what n (λ link own. tt) (λ link own. tt) (λ e. tick-steps s.rules n (s.ticks n) s.next)

  asking-all : (asking : Asking) (a : Abstract) → a.settings ≡ c → R a.node (after_asking asking a).node
  asking-all (Happens what) a e = subst (λ (d : Configuration). R a.node (apply whole d what a.node).left) (sym e) (event-all what a.node)
  asking-all (Takes link) a e = subst (λ (d : Configuration). R a.node (after_take whole d link a.node)) (sym e) (take-steps s.rules link a.node tt)
  asking-all (AsksWants link) a e = s.rules.sends.none a.node

  pub asked-all : (asked : List Asking) (a : Abstract) → a.settings ≡ c → R a.node (after_each asked a).node
  asked-all [] a e = s.rules.sends.none a.node
  asked-all (asking ∷ others) a e = s.rules.sends.both _ _ _ (asking-all asking a e) (asked-all others (after_asking asking a) (settings-stay asking a ∙ e))
