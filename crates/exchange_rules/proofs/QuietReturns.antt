-- Links that take their flows back, as they pass a test too, lose nothing by this: they make no notice.
use Rattle.exchange_rules.proofs.Basics.{Bool, None, Option, Some, false, length, not, refl, suc, true, zero, ℕ, ◌&&◌}
use Rattle.exchange_rules.proofs.Definitions.{Facts, Configuration, code_for, hold_flows, loses_flows, take_back_each, has_other, WholeQueues, whole, facts, Node, with_parts, begun_anew_if, return_if, is_first_test, test_passed, pass_test}
use Rattle.exchange_rules.proofs.Naming.{Quiet, any-quiet, both-quiet, either-quiet, same-quiet}

module _ (c : Configuration) where
  hold_flows-quiet : (before after : Facts) (code : Option ℕ) (link other : ℕ) (n : Node WholeQueues) → Quiet 0 n (hold_flows whole c before after code link other n)
  hold_flows-quiet before after (Some code) link other n = same-quiet n _ refl refl refl refl refl
  hold_flows-quiet before after None link other n = same-quiet n _ refl refl refl refl refl

  take_back_each-quiet : (before after : Facts) (link many : ℕ) (n : Node WholeQueues) → Quiet 0 n (take_back_each whole c before after link many n)
  unfolding take_back_each
  take_back_each-quiet before after link zero n = any-quiet 0 n
  take_back_each-quiet before after link (suc other) n =
      let one : Node WholeQueues = take_back_each whole c before after link other n in
      let code : Option ℕ = code_for whole c link other one in
      both-quiet 0 0 n one _ (take_back_each-quiet before after link other n)
      (either-quiet 0 (loses_flows c before after other link) one (hold_flows whole c before after code link other one) one (hold_flows-quiet before after code link other one) (any-quiet 0 one))

  pub return-quiet : (begins : Bool) (link : ℕ) (before : Facts) (n : Node WholeQueues) → Quiet 0 n (return_if whole c begins link before n)
  return-quiet true link before n = take_back_each-quiet before (facts c n.parts) link (length c.links) n
  return-quiet false link before n = any-quiet 0 n

  pub passed-quiet : (link : ℕ) (n : Node WholeQueues) → Quiet 0 n (pass_test whole c link n)
  passed-quiet link n =
      let first : Bool = is_first_test link n.parts && not (has_other c link n.parts) in
      let passed : Node WholeQueues = with_parts n (begun_anew_if first c link (test_passed c link n.parts)) in
      both-quiet 0 0 n passed _ (by first) (return-quiet (is_first_test link n.parts) link (facts c n.parts) passed)
    where
      by : (first : Bool) → Quiet 0 n (with_parts n (begun_anew_if first c link (test_passed c link n.parts)))
      by true = same-quiet n _ refl refl refl refl refl
      by false = same-quiet n _ refl refl refl refl refl
