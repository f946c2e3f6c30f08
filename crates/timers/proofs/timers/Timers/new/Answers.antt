use Rattle.timers.proofs.Basics.{replicate, ap, ◌∙◌, ℕ, Option, None, count_of, map_of}
use Rattle.timers.proofs.Viewed.{map-none}
use Rattle.timers.proofs.timers.Timers.new.Goals as goal

pub returns : goal.returns
returns c =
    let left = c.in_ok-new.ensures ∙ ap (λ (n : ℕ). replicate {A = Option ℕ} n None) (c.count_of.ensures.count ∙ ap count_of c.named_sets.ensures.value) in
    ap map_of (λ i. record { counts = c.args.counts; left = left i }) ∙ map-none c.args.counts
