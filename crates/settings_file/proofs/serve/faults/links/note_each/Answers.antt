use Rattle.settings_file.proofs.Linking.{links-next, links-done}
use Rattle.settings_file.proofs.serve.faults.links.note_each.Goals as goal

pub loop-i-preserved : goal.loop-i-preserved
loop-i-preserved c = λ s.
    links-next s c.args.own c.args.values.now c.loop-i.i c.index-values-i.result _ _ _ _ _ c.loop-i-test.true c.index-values-i.is
    (c.in_ok-note_link.ensures.faults s) (c.in_ok-note_link.ensures.before s) (c.loop-i.invariant s)

pub returns : goal.returns
returns c = λ s. links-done s c.args.own c.args.values.now c.loop-i.i _ _ _ c.loop-i-test.false (c.loop-i.invariant s)
