-- A timer runs where its moment comes before never.
use Rattle.timers.proofs.Basics.{◌<◌, ◌+◌, length, get_or, ap, ◌∙◌, arith, None, is_some, get_or_read, never}
use Rattle.timers.proofs.InMoments.{length-left, left-runs}
use Rattle.timers.proofs.moments.Moments.is_running.Goals as goal

pub index-requires : goal.index-requires
index-requires c =
    let s = c.self.inside in
    let t = c.self.invariant.tree in
    omega (arith, c.requires, ap length c.self.view_is, length-left s.clock s.places s.levels s.leaves s.nodes.items t, t.room, t.size, s.nodes.ok.0)

pub returns : goal.returns
returns c =
    let s = c.self.inside in
    let t = c.self.invariant.tree in
    let inside : c.args.place < s.places = omega (arith, c.requires, ap length c.self.view_is, length-left s.clock s.places s.levels s.leaves s.nodes.items t) in
    let within : s.leaves + c.args.place < length s.nodes.items = omega (arith, inside, t.room, t.size) in
    left-runs s.clock s.places s.levels s.leaves c.args.place c.index.result.now s.nodes.items t inside (get_or_read s.nodes.items (s.leaves + c.args.place) c.index.result.now within c.index.ensures never)
    ∙ ap (λ xs. is_some (get_or xs c.args.place None)) c.self.view_is
