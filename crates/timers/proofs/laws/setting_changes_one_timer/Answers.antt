use Rattle.timers.proofs.Maps.{left-set, left-set_other, set-absent}
use Rattle.timers.proofs.laws.setting_changes_one_timer.Goals as goal

pub returns : goal.returns
returns c = record { set = left-set; others = left-set_other; absent = set-absent; never = λ name r. r.only name }
