-- The periods for which links are proved, and what links tell as they open: laws (Q.703 §7, RFC 4165 §4.1.3).
use Rattle.std.specs.Prelude.{◌≡◌, ◌≢◌, ℕ, Bool, true, false, List, [], ◌∷◌, Some, None}
use Rattle.settings.specs.Configuration.{Configuration}
use Rattle.signalling_types.specs.declared.outcome.Outcome.TheVariants.{Handled}
use Rattle.m2pa_codec.specs.declared.status.LinkStatus.TheVariants.{Alignment, OutOfService}
use Rattle.link.specs.declared.period.Period.{Period}
use Rattle.link.specs.declared.period.Period.TheVariants.{Fixed, Normal, Emergency}
use Rattle.node_links.specs.NodeLinks.{Link}
use Rattle.exchange_rules.specs.State.{Asking, Node, Parts, down, is_link, link_at}
use Rattle.exchange_rules.specs.ChangingOver.{has_other}
use Rattle.exchange_rules.specs.Opening.{activate, association_up}
use Rattle.exchange_rules.specs.Queues.{WholeQueues, whole}
use Rattle.exchange_rules.specs.First.{first_state}
use Rattle.exchange_rules.specs.Lasting.{after_each}

-- if the settings have no emergency proving, every link has the fixed period in each state reached from the first
abbrev pub periods_are_fixed_without_emergency : Type 0
periods_are_fixed_without_emergency =
    (c : Configuration) (asked : List Asking) (link : ℕ) → c.timers.l4e ≡ None →
    (link_at (after_each asked (first_state c)).node.parts link).period ≡ Fixed

-- if they have, no link that is up has it
abbrev pub periods_are_chosen_with_emergency : Type 0
periods_are_chosen_with_emergency =
    (c : Configuration) (asked : List Asking) (link ticks : ℕ) → c.timers.l4e ≡ Some ticks →
    down (after_each asked (first_state c)).node.parts link ≡ false →
    (link_at (after_each asked (first_state c)).node.parts link).period ≢ Fixed

-- a link that opens has the period of emergency if the operator ordered that, or if no other link of its set carries
-- traffic; else the normal one
pub record IsPeriodOf (c : Configuration) (link : ℕ) (before : Parts) (period : Period) : Type 0 where
  pub ordered : (link_at before link).emergency ≡ true → period ≡ Emergency
  pub alone : has_other c link before ≡ false → period ≡ Emergency
  pub neither : (link_at before link).emergency ≡ false → has_other c link before ≡ true → period ≡ Normal

abbrev pub periods_are_those_of_orders_and_sets : Type 0
periods_are_those_of_orders_and_sets =
    (c : Configuration) (link ticks : ℕ) (node : Node WholeQueues) → c.timers.l4e ≡ Some ticks →
    (association_up whole c link node).outcome ≡ Handled →
    IsPeriodOf c link node.parts (link_at (association_up whole c link node).left.parts link).period

-- an order that lets a link open says whether it is to be proved for emergency, and nothing else of the link changes
abbrev pub orders_say_it : Type 0
orders_say_it =
    (c : Configuration) (emergency : Bool) (link : ℕ) (node : Node WholeQueues) → is_link node.parts link ≡ true →
    link_at (activate whole c emergency link node).left.parts link
    ≡ record (link_at node.parts link) { active = true; emergency = emergency }

-- a link that opens tells Alignment, and where the settings ask for it Out of Service before that (RFC 4165 §5.1)
pub record IsToldOf (c : Configuration) (l : Link) : Type 0 where
  pub asked : c.out_of_service ≡ true → l.waiting ≡ OutOfService ∷ Alignment ∷ []
  pub unasked : c.out_of_service ≡ false → l.waiting ≡ Alignment ∷ []

abbrev pub told_as_they_open : Type 0
told_as_they_open =
    (c : Configuration) (link : ℕ) (node : Node WholeQueues) → (association_up whole c link node).outcome ≡ Handled →
    IsToldOf c (link_at (association_up whole c link node).left.parts link)
