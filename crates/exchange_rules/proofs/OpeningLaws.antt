-- What a link that opens is proved for and tells, and what an order says: each law, by the rule.
use Rattle.exchange_rules.proofs.Basics.{◌≡◌, ◌||◌, ℕ, Bool, true, false, not, length, Option, Some, refl, ap, ◌∙◌, get_or-set_same, if◌then◌else◌}
use Rattle.exchange_rules.proofs.Definitions.{Configuration, Link, down_link, opened, opened_by, Node, Done, answer, refuse, Handled, is_link, link_at, changeover_of, may_restart, may_open, open_link, association_up, set_active, period_of, WholeQueues, whole}
use Rattle.link.specs.declared.period.Period.TheVariants.{Normal, Emergency}
use Rattle.signalling_types.specs.declared.cause.Cause.TheVariants as causes
use Rattle.exchange_rules.specs.Opening.{is_urgent, period_by}
use Rattle.exchange_rules.specs.ChangingOver.{has_other}
use Rattle.exchange_rules.specs.LawsOfPeriods.{periods_are_those_of_orders_and_sets, orders_say_it, told_as_they_open}
use Rattle.exchange_rules.proofs.ProvedEvents.{there-is}

module _ (c : Configuration) (link : ℕ) (n : Node WholeQueues) where
  -- the link that an association gives
  abbrev its : Link
  its = opened_by c (period_of c link n.parts) (link_at n.parts link)

  abbrev shape : (there opens restarts : Bool) → Done WholeQueues
  shape there opens restarts =
      if there then (if opens then (if restarts then answer Handled (open_link whole c link n) else refuse causes.ChangeoverPending n) else refuse causes.LinkNotReady n)
      else refuse causes.NoSuchName n

  opens-so : (there opens restarts : Bool) → is_link n.parts link ≡ there → (shape there opens restarts).outcome ≡ Handled → link_at (shape there opens restarts).left.parts link ≡ its
  opens-so true true true e h = get_or-set_same n.parts.links link its down_link (there-is link (length n.parts.links) e)
  opens-so true true false e h = absurd cc
  opens-so true false restarts e h = absurd cc
  opens-so false opens restarts e h = absurd cc

  link-opens : (association_up whole c link n).outcome ≡ Handled → link_at (association_up whole c link n).left.parts link ≡ its
  link-opens h = opens-so (is_link n.parts link) (may_open (link_at n.parts link)) (may_restart (changeover_of n.parts link)) refl h

-- by what was ordered, and whether another link of the set is in service
by-order : (ticks : ℕ) (ordered other : Bool) → ordered ≡ true → period_by (Some ticks) (ordered || not other) ≡ Emergency
by-order ticks true other e = refl
by-order ticks false other e = absurd cc

by-none : (ticks : ℕ) (ordered other : Bool) → other ≡ false → period_by (Some ticks) (ordered || not other) ≡ Emergency
by-none ticks true other e = refl
by-none ticks false true e = absurd cc
by-none ticks false false e = refl

by-neither : (ticks : ℕ) (ordered other : Bool) → ordered ≡ false → other ≡ true → period_by (Some ticks) (ordered || not other) ≡ Normal
by-neither ticks false true e f = refl
by-neither ticks false false e f = absurd cc
by-neither ticks true other e f = absurd cc

pub periods-are : periods_are_those_of_orders_and_sets
periods-are c link ticks n some h =
    let is = ap (λ (l : Link). l.period) (link-opens c link n h) ∙ ap (λ (l4e : Option ℕ). period_by l4e (is_urgent c link n.parts)) some in
    record {
      ordered = λ e. is ∙ by-order ticks (link_at n.parts link).emergency (has_other c link n.parts) e;
      alone = λ e. is ∙ by-none ticks (link_at n.parts link).emergency (has_other c link n.parts) e;
      neither = λ e f. is ∙ by-neither ticks (link_at n.parts link).emergency (has_other c link n.parts) e f;
    }

pub told-open : told_as_they_open
told-open c link n h =
    let is = ap (λ (l : Link). l.waiting) (link-opens c link n h) in
    record {
      asked = λ e. is ∙ ap (λ (first : Bool). (opened first (period_of c link n.parts) (link_at n.parts link)).waiting) e;
      unasked = λ e. is ∙ ap (λ (first : Bool). (opened first (period_of c link n.parts) (link_at n.parts link)).waiting) e;
    }

pub orders-say : orders_say_it
orders-say c emergency link n there =
    ap (λ (b : Bool). link_at (if b then answer Handled (set_active whole c true emergency link n) else refuse causes.NoSuchName n).left.parts link) there
    ∙ get_or-set_same n.parts.links link (record (link_at n.parts link) { active = true; emergency = emergency }) down_link (there-is link (length n.parts.links) there)
