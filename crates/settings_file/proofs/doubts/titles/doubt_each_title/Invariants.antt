use Rattle.settings_file.proofs.Basics.{◌≡◌, ◌++◌, drop}
use Rattle.settings_file.specs.Doubts.{each_key, doubtful_title}
use Rattle.settings_file.proofs.doubts.titles.doubt_each_title.Given as goal

abbrev pub invariant-loop-i : goal.invariant-loop-i
invariant-loop-i l = l.doubts.items ++ each_key (doubtful_title l.settings) l.i (drop l.i l.titles) ≡ l.fn.doubts.items ++ each_key (doubtful_title l.settings) 0 l.titles
