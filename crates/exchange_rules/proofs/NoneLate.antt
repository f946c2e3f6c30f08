-- Where no order is late, none becomes so at a tick at which no link enters service or leaves it.
use Rattle.exchange_rules.proofs.Basics.{◌≡◌, ◌<◌, ◌≤◌, ℕ, zero, suc, Bool, true, false, length, refl, ap, sym, ◌∙◌, arith, and_from, and_parts, false_from_ne_true as not-so, if◌then◌else◌}
use Rattle.exchange_rules.proofs.Definitions.{Configuration, is_unasked, Node, has_way, is_late, order_if_late, order_each, order_all, changeover_of, WholeQueues, whole}
use Rattle.exchange_rules.proofs.WillEnding.{no-way}
use Rattle.exchange_rules.proofs.LateOrders.{all-gone, others-stay, same-way}
use Rattle.exchange_rules.proofs.Eased.{Eased}

module _ (c : Configuration) where
  -- where orders go by any route, none that has a way waits
  pub record Punctual (n : Node WholeQueues) : Type 0 where
    pub each : c.changeover_by_any_route ≡ true → (link : ℕ) → link < length c.links → is_late c link n.parts ≡ false

  pub none-late : (n : Node WholeQueues) → Punctual (order_all whole c n)
  none-late n = record { each = λ any link there. all-gone c link n any there }

  was-late : (n m : Node WholeQueues) → Eased n m → (link : ℕ) → is_late c link m.parts ≡ true → is_late c link n.parts ≡ true
  was-late n m e link late =
      let both = and_parts (is_unasked (changeover_of m.parts link)) (has_way c link m.parts) late in
      and_from (is_unasked (changeover_of n.parts link)) (has_way c link n.parts) (e.unasked link both.0) (same-way c link n.parts m.parts (sym (e.ways c)) ∙ both.1)

  pub punctual-eased : (n m : Node WholeQueues) → Eased n m → Punctual n → Punctual m
  punctual-eased n m e p = record {
    each = λ any link there. not-so (is_late c link m.parts) (λ late. no-way (is_late c link n.parts) (p.each any link there) (was-late n m e link late));
  }

  -- so no order goes out
  each-same : (many : ℕ) (n : Node WholeQueues) → many ≤ length c.links → c.changeover_by_any_route ≡ true → Punctual n → order_each whole c many n ≡ n
  unfolding order_each
  each-same zero n few any p = refl
  each-same (suc link) n few any p =
      ap (λ (m : Node WholeQueues). order_if_late whole c link m) (each-same link n (omega (arith, few)) any p)
      ∙ others-stay c link n (p.each any link (omega (arith, few)))

  pub all-same : (n : Node WholeQueues) → Punctual n → order_all whole c n ≡ n
  all-same n p = by c.changeover_by_any_route refl
    where
      by : (any : Bool) → c.changeover_by_any_route ≡ any → (if any then order_each whole c (length c.links) n else n) ≡ n
      by true e = each-same (length c.links) n (omega arith) e p
      by false e = refl
