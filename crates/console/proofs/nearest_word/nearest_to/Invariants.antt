-- The nearest of those that are left, or the one found so far, is the nearest of all.
use Rattle.std.proofs.Common.{◌≡◌, ◌+◌, drop, length}
use Rattle.std.specs.Prelude.{None, ◌/◌, max}
use Rattle.console.specs.ClientWords.{nearest_from}
use Rattle.console.proofs.nearest_word.nearest_to.Given as goal

abbrev pub invariant-loop-candidate : goal.invariant-loop-candidate
invariant-loop-candidate l =
    nearest_from l.text (drop l.candidate-index l.known) l.nearest l.too_many
    ≡ nearest_from l.text l.known None (1 + max (length l.text / 3) 1)
