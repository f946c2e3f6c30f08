-- The ticks that passed and the remaining ones are all of them.
use Rattle.script.proofs.Basics.{◌≡◌, ◌-◌, kept, after_ticks}
use Rattle.script.proofs.performing.pass.Given as goal

abbrev pub invariant-loop : goal.invariant-loop
invariant-loop l = after_ticks kept (l.ticks - l.counter) l.exchange ≡ after_ticks kept l.ticks l.initial.exchange
