-- Counts of fates in lists.
use Rattle.node_moves.proofs.Basics.{◌≡◌, Bool, ◌+◌, List, [], ◌∷◌, ◌++◌, cond, count_by, refl, arith}
use Rattle.node_moves.proofs.Machine.{one_if}
use Rattle.node_moves.proofs.Definitions.{Message}
use Rattle.node_moves.specs.Networks.{Fate, messages_of}
use Rattle.network_moves.proofs.Counts.{count-cons}
use Rattle.std.proofs.lemmas.List.Sums.{sum_by-cons, sum_by-append}

pub count-fate : (test : Fate → Bool) (f : Fate) (fs : List Fate) → count_by test (f ∷ fs) ≡ one_if (test f) + count_by test fs
count-fate test f fs = sum_by-cons (λ x. cond (test x) 1 0) f fs

pub count-fates : (test : Fate → Bool) (fs gs : List Fate) → count_by test (fs ++ gs) ≡ count_by test fs + count_by test gs
count-fates test fs gs = sum_by-append (λ x. cond (test x) 1 0) fs gs

pub counted-messages : (test : Message → Bool) (fs : List Fate) → count_by (λ f. test f.message) fs ≡ count_by test (messages_of fs)
counted-messages test [] = refl
counted-messages test (f ∷ fs) = omega (arith, count-fate (λ g. test g.message) f fs, count-cons test f.message (messages_of fs), counted-messages test fs)
