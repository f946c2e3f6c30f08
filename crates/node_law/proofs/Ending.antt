-- The node law of networks.
use Rattle.std.proofs.Common.{◌≡◌, ◌+◌, ◌≤◌, ℕ, List, ap, sym, subst, ◌∙◌, arith}
use Rattle.std.specs.Prelude.{min}
use Rattle.settings.specs.Configuration.{Configuration}
use Rattle.exchange_rules.specs.Queues.{WholeQueues}
use Rattle.exchange_rules.specs.State.{Node, lost_any}
use Rattle.node_moves.specs.Laws as law
use Rattle.node_moves.specs.Laws.{AreTheirs, most}
use Rattle.node_moves.specs.Lossless as lossless
use Rattle.node_moves.specs.Networks as nodes
use Rattle.node_moves.specs.Networks.{IsNode}
use Rattle.node_moves.proofs.Ending.{ends-once}
use Rattle.node_moves.proofs.Lossless.{flags-tell, nodes-whole}
use Rattle.network_rules.specs.Networks.{NetworkState, first_network}
use Rattle.network_rules.specs.Outside.{Move, after_moves}
use Rattle.network_rules.specs.Totals.{HaveLostNothing, IsPlaced}
use Rattle.node_law.specs.Alike.{AreLinked}
use Rattle.node_law.specs.Ends.{AreUnbroken, EndsOnce, EndsWhole, accepted_at, came_from, each_message_ends_once, gone_at, nodes_lose_nothing, waits_at}
use Rattle.node_law.proofs.Counting.{accepted-same, broken-same, came-same, gone-same, lost-same, waits-same}
use Rattle.node_law.proofs.Places.{are-theirs, listed-node, node-listed}
use Rattle.node_law.proofs.Runs.{all-kept, follows}
use Rattle.node_law.proofs.Steps.{AreKept, AreSame, Follows}

-- ---- the law of a node is the same of two networks that are alike

module _ (settings : (point : ℕ) → Configuration) (numbers : List ℕ) (placed : IsPlaced settings numbers) (z : NetworkState) (u : nodes.NetworkState) (stay : AreKept settings z) (same : AreSame settings z u)
    (x : ℕ) (fx : IsNode settings x) where
  same-sum : (a c k g b d l h : ℕ) → a ≡ b → c ≡ d → k ≡ l → g ≡ h → b ≡ d + l + h → a ≡ c + k + g
  same-sum a c k g b d l h e f i j m = omega (arith, e, f, i, j, m)

  pub once-same : law.EndsOnce settings u x → EndsOnce z x
  once-same e = record {
    once = λ test.
        same-sum (accepted_at z test x) (came_from z test x) (waits_at z test x) (gone_at z test x) _ _ _ _
        (accepted-same settings numbers placed z u stay same test x fx) (came-same settings numbers placed z u stay same test x fx)
        (waits-same settings numbers placed z u stay same test x fx) (gone-same settings numbers placed z u stay same test x fx) (e.once test);
    counted = λ test.
        subst (λ (k : ℕ). min k most ≤ (z.node x).exchange.node.parts.messages_lost) (sym (gone-same settings numbers placed z u stay same test x fx))
        (subst (λ (k : ℕ). min (law.gone_at settings u test x) most ≤ k) (lost-same settings numbers placed z u stay same x fx) (e.counted test));
  }

  two-same : (a c k b d l : ℕ) → a ≡ b → c ≡ d → k ≡ l → b ≡ d + l → a ≡ c + k
  two-same a c k b d l e f i m = omega (arith, e, f, i, m)

  pub whole-same : lossless.EndsWhole settings u x → EndsWhole z x
  whole-same e = record {
    once = λ test.
        two-same (accepted_at z test x) (came_from z test x) (waits_at z test x) _ _ _
        (accepted-same settings numbers placed z u stay same test x fx) (came-same settings numbers placed z u stay same test x fx)
        (waits-same settings numbers placed z u stay same test x fx) (e.once test);
  }

-- ---- while no node counts a break, and while none may have lost a message

module _ (settings : (point : ℕ) → Configuration) (numbers : List ℕ) (moves : List Move) (placed : IsPlaced settings numbers) (linked : AreLinked (first_network settings)) where
  abbrev pub w : NetworkState
  w = after_moves moves (first_network settings)

  abbrev pub run : Follows settings w (nodes.first_network settings)
  run = follows settings numbers placed linked moves

  abbrev pub v : nodes.NetworkState
  v = nodes.after_steps settings run.steps (nodes.first_network settings)

  abbrev pub kept : AreKept settings w
  kept = all-kept settings numbers placed linked moves

  abbrev pub theirs : AreTheirs settings
  theirs = are-theirs settings numbers placed linked

  pub unbroken-there : AreUnbroken numbers w → law.IsUnbroken settings v
  unbroken-there none x fx = broken-same settings numbers placed w v kept run.same x fx ∙ none x (node-listed settings numbers placed x fx)

  pub lossless-there : HaveLostNothing numbers w → lossless.HaveLostNothing settings v
  lossless-there none x fx =
      ap (λ (n : Node WholeQueues). lost_any n.parts) (sym (run.same.each x fx).exchange.node) ∙ none x (node-listed settings numbers placed x fx)

  -- a node that may have lost nothing counts no break
  pub lossless-unbroken : HaveLostNothing numbers w → AreUnbroken numbers w
  lossless-unbroken none x its =
      let fx : IsNode settings x = listed-node settings numbers placed x its in
      sym (broken-same settings numbers placed w v kept run.same x fx) ∙ (flags-tell settings run.steps x (lossless-there none x fx)).unbroken

  pub once-at : AreUnbroken numbers w → (x : ℕ) → IsNode settings x → EndsOnce w x
  once-at none x fx = once-same settings numbers placed w v kept run.same x fx (ends-once settings run.steps x theirs fx (unbroken-there none))

  pub whole-at : HaveLostNothing numbers w → (x : ℕ) → IsNode settings x → EndsWhole w x
  whole-at none x fx = whole-same settings numbers placed w v kept run.same x fx (nodes-whole settings run.steps x theirs fx (lossless-there none))

pub all-once : each_message_ends_once
all-once settings numbers moves placed linked none point its = once-at settings numbers moves placed linked none point (listed-node settings numbers placed point its)

pub all-whole : nodes_lose_nothing
all-whole settings numbers moves placed linked none point its = whole-at settings numbers moves placed linked none point (listed-node settings numbers placed point its)
