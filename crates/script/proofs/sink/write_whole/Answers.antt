-- Known octets that grow by one piece after another.
use Rattle.script.proofs.Basics.{arith, length-drop, take_rest, ℕ, ◌+◌, List, Option, None, Some, take, drop, append_assoc, Appends, take-add}
use Rattle.script.proofs.sink.write_whole.Goals as goal

-- what grew by the first n and then by the next m grew by the first n + m
written_more : (a b c : Option (List ℕ)) (xs : List ℕ) (n m : ℕ) → Appends a b (take n xs) → Appends b c (take m (drop n xs))
    → Appends a c (take (n + m) xs)
written_more None b c xs n m h k = tt
written_more (Some xs0) None c xs n m h k = absurd h
written_more (Some xs0) (Some xs1) None xs n m h k = absurd k
written_more (Some xs0) (Some xs1) (Some xs2) xs n m h k = rw (take-add n m xs, k, h) (append_assoc xs0 (take n xs) (take m (drop n xs)))

pub loop-start-preserved : goal.loop-start-preserved
loop-start-preserved g c =
    let rest = take_rest c.args.octets.now c.loop-start.start in
    let bound = rw rest at c.in-Ok.ensures.bound in
    record {
      within = omega (arith, bound, length-drop c.loop-start.start c.args.octets.now, c.loop-start-test.true);
      written = written_more _ _ _ c.args.octets.now c.loop-start.start c.in-Ok.count c.loop-start.invariant.written (rw rest at c.in-Ok.ensures.bytes);
    }
