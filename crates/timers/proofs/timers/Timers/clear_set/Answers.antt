use Rattle.timers.proofs.Basics.{◌≡◌, sym, ap, ◌∙◌, arith, NodeCounts, Running, table_in}
use Rattle.timers.proofs.Viewed.{counts-map}
use Rattle.timers.proofs.ClearedSet.{cleared_below, all-cleared}
use Rattle.timers.proofs.timers.Timers.clear_set.Goals as goal

pub returns : goal.returns
returns c =
    let r = c.args.self.now in
    let counts : c.self.inside.counts.destinations ≡ r.counts.destinations = ap (λ (n : NodeCounts). n.destinations) (sym (counts-map (table_in c.self.inside)) ∙ ap (λ (r : Running). r.counts) c.self.view_is) in
    let end : c.loop-destination.destination ≡ r.counts.destinations = omega (arith, counts, c.loop-destination-test.false, c.loop-destination.auto.destination-end) in
    c.loop-destination.invariant ∙ ap (λ n. cleared_below c.args.timer c.args.set n r) end ∙ all-cleared c.args.timer c.args.set r
