-- Orders that go out late: made of steps.
use Rattle.exchange_rules.proofs.Basics.{◌≡◌, ℕ, zero, suc, Bool, true, false, length, refl, if◌then◌else◌}
use Rattle.exchange_rules.proofs.Definitions.{Configuration, Node, is_late, order_late, order_if_late, order_each, order_all, late_by, WholeQueues, whole}
use Rattle.signalling_types.specs.declared.outcome.Outcome.{Outcome}
use Rattle.signalling_types.specs.declared.outcome.Outcome.TheVariants.{Refused, Queued, Held, Local, Handled, Ignored}
use Rattle.exchange_rules.proofs.Steps.{Deed, IsOfDeeds, either-steps}

module _ {c : Configuration} {Own Counts : ℕ → Type 0} {May : Deed → Type 0} {R : Node WholeQueues → Node WholeQueues → Type 0} (s : IsOfDeeds c Own Counts May R) where
  pub order_if_late-steps : (link : ℕ) (n : Node WholeQueues) → R n (order_if_late whole c link n)
  order_if_late-steps link n = by (is_late c link n.parts) refl
    where
      by : (late : Bool) → is_late c link n.parts ≡ late → R n (if late then order_late whole c link n else n)
      by true e = s.asks link n e
      by false e = s.sends.none n

  pub order_each-steps : (many : ℕ) (n : Node WholeQueues) → R n (order_each whole c many n)
  unfolding order_each
  order_each-steps zero n = s.sends.none n
  order_each-steps (suc link) n = s.sends.both _ _ _ (order_each-steps link n) (order_if_late-steps link (order_each whole c link n))

  pub order_all-steps : (n : Node WholeQueues) → R n (order_all whole c n)
  order_all-steps n = either-steps s.sends c.changeover_by_any_route n (order_each whole c (length c.links) n) n (order_each-steps (length c.links) n) (s.sends.none n)

  pub late_by-steps : (outcome : Outcome) (n : Node WholeQueues) → R n (late_by whole c outcome n)
  late_by-steps (Refused cause) n = s.sends.none n
  late_by-steps (Queued link) n = order_all-steps n
  late_by-steps Held n = order_all-steps n
  late_by-steps Local n = order_all-steps n
  late_by-steps Handled n = order_all-steps n
  late_by-steps Ignored n = order_all-steps n
