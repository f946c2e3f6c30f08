use Rattle.settings_file.specs.Doubts.{doubtful_title}
use Rattle.settings_file.proofs.Doubting.{keys_behind, keys_all}
use Rattle.settings_file.proofs.doubts.titles.doubt_each_title.Goals as goal

pub loop-i-preserved : goal.loop-i-preserved
loop-i-preserved c =
    keys_behind (doubtful_title c.args.settings.now) c.args.titles.now c.loop-i.i c.index-titles-i.result _ _ _ c.loop-i-test.true c.index-titles-i.is
    c.in_ok-doubt_title.ensures c.loop-i.invariant

pub returns : goal.returns
returns c = keys_all (doubtful_title c.args.settings.now) c.args.titles.now c.loop-i.i _ _ c.loop-i-test.false c.loop-i.invariant
