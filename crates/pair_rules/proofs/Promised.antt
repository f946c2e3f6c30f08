-- Counts over the links of a node.
use Rattle.std.proofs.Common.{◌≡◌, ◌+◌, ℕ, Bool, List, zero, suc, refl, ap, ◌∙◌}
use Rattle.std.specs.Prelude.{count_by}
use Rattle.signalling_types.specs.Message.{Message}
use Rattle.settings.specs.Configuration.{Configuration}
use Rattle.pair_moves.specs.Laws.{sum_to}
use Rattle.pair_moves.specs.Order.{join_to}
use Rattle.pair_moves.proofs.Counts.{count-append}
use Rattle.pair_rules.specs.Promises.{AreJoined}
use Rattle.exchange_rules.proofs.FacingNodes.{facing-turned}

-- ---- counts

pub count-join : (test : Message → Bool) (f : ℕ → List Message) (n : ℕ) → count_by test (join_to f n) ≡ sum_to (λ k. count_by test (f k)) n
count-join test f zero = refl
count-join test f (suc n) = count-append test (join_to f n) (f n) ∙ ap (λ (k : ℕ). k + count_by test (f n)) (count-join test f n)

pub sum-alike : (f g : ℕ → ℕ) (n : ℕ) → ((k : ℕ) → f k ≡ g k) → sum_to f n ≡ sum_to g n
sum-alike f g zero e = refl
sum-alike f g (suc n) e = ap (λ (k : ℕ). k + f n) (sum-alike f g n e) ∙ ap (λ (k : ℕ). sum_to g n + k) (e n)

pub joined-turned : (near far : Configuration) → AreJoined near far → AreJoined far near
joined-turned near far g = record { near_well = g.far_well; far_well = g.near_well; facing = facing-turned near far g.facing }
