-- The sets that an octet names are the node's, or none is missing.
use Rattle.timers.proofs.Basics.{◌≡◌, ℕ, nat_lt, ◌<◌, min, ap, arith, nat_tests, ◌&&◌, T4, T8, T10, NodeCounts, has_name, named_sets}
use Rattle.timers.proofs.places.place_of.Goals as goal

same_sets : (set sets : ℕ) → set < 256 → nat_lt set (min sets 256) ≡ nat_lt set sets
same_sets set sets h = grind (arith, nat_tests, h)

named-code : (n : NodeCounts) (set code : ℕ) → set < 256 → has_name (named_sets n) (T4 set code) ≡ has_name n (T4 set code)
named-code n set code h = ap (λ b. b && nat_lt code 16) (same_sets set n.sets h)

named-t8 : (n : NodeCounts) (set destination : ℕ) → set < 256 → has_name (named_sets n) (T8 set destination) ≡ has_name n (T8 set destination)
named-t8 n set destination h = ap (λ b. b && nat_lt destination n.destinations) (same_sets set n.sets h)

named-t10 : (n : NodeCounts) (set destination : ℕ) → set < 256 → has_name (named_sets n) (T10 set destination) ≡ has_name n (T10 set destination)
named-t10 n set destination h = ap (λ b. b && nat_lt destination n.destinations) (same_sets set n.sets h)

pub returns-in-T4-clause-named : goal.returns-in-T4-clause-named
returns-in-T4-clause-named c = rw c.in-T4.is (named-code c.args.counts c.in-T4.set c.in-T4.code c.code_place.ensures.named)

pub returns-in-T8-clause-named : goal.returns-in-T8-clause-named
returns-in-T8-clause-named c = rw c.in-T8.is (named-t8 c.args.counts c.in-T8.set c.in-T8.destination c.route_place.ensures.named)

pub returns-in-T10-clause-named : goal.returns-in-T10-clause-named
returns-in-T10-clause-named c = rw c.in-T10.is (named-t10 c.args.counts c.in-T10.set c.in-T10.destination c.route_place-in-T10.ensures.named)
