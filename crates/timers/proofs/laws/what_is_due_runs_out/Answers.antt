use Rattle.timers.proofs.Dues.{count-after, count-none, count-set, count-clear, count-clear_set}
use Rattle.timers.proofs.laws.what_is_due_runs_out.Goals as goal

pub returns : goal.returns
returns c = record {
  taken = count-after;
  none = count-none;
  set = count-set;
  cleared = count-clear;
  set_cleared = count-clear_set;
}
