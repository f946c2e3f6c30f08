use Rattle.exchange.proofs.Basics.{◌≡◌, replicate, kept_first}
use Rattle.exchange.proofs.exchange.boot.first_sequences.Given as goal

-- as many as the loop has visited
abbrev pub invariant-loop-index : goal.invariant-loop-index
invariant-loop-index l = l.sequences.items ≡ replicate l.index kept_first
