-- With the remaining sets, it gives what all of them give.
use Rattle.std.proofs.Common.{◌≡◌, ◌++◌, drop, flat_map}
use Rattle.status_page.specs.Metrics.{route_sample}
use Rattle.status_page.proofs.sampling.put_each_way.Given as goal

abbrev pub invariant-loop-set : goal.invariant-loop-set
invariant-loop-set l =
    l.body.items ++ flat_map (route_sample l.fn.points l.fn.exchange l.fn.family l.fn.destination) (drop l.set-index l.sets)
    ≡ l.fn.body.items ++ flat_map (route_sample l.fn.points l.fn.exchange l.fn.family l.fn.destination) l.fn.sets
