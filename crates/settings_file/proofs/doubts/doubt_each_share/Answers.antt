use Rattle.settings_file.specs.Doubts.{doubtful_share}
use Rattle.settings_file.proofs.Doubting.{keys_behind, keys_all}
use Rattle.settings_file.proofs.doubts.doubt_each_share.Goals as goal

pub loop-i-preserved : goal.loop-i-preserved
loop-i-preserved c =
    keys_behind (doubtful_share c.args.pool) c.args.links.now c.loop-i.i c.index-links-i.result _ _ _ c.loop-i-test.true c.index-links-i.is
    c.in_ok-doubt_share.ensures c.loop-i.invariant

pub returns : goal.returns
returns c = keys_all (doubtful_share c.args.pool) c.args.links.now c.loop-i.i _ _ c.loop-i-test.false c.loop-i.invariant
