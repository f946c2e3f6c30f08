use Rattle.settings_file.proofs.Basics.{◌≡◌, ◌++◌, drop}
use Rattle.settings_file.specs.Doubts.{each_key, doubtful_share}
use Rattle.settings_file.proofs.doubts.doubt_each_share.Given as goal

abbrev pub invariant-loop-i : goal.invariant-loop-i
invariant-loop-i l = l.doubts.items ++ each_key (doubtful_share l.pool) l.i (drop l.i l.links) ≡ l.fn.doubts.items ++ each_key (doubtful_share l.pool) 0 l.links
