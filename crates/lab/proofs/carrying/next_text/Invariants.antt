use Rattle.std.proofs.Common.{◌≡◌, ◌+◌, ◌-◌, ◌^◌, ◌≤◌, min, length}
use Rattle.lab.proofs.Bringing.{HoldsMore}
use Rattle.lab.proofs.carrying.next_text.Given as goal

abbrev pub invariant-loop : goal.invariant-loop
invariant-loop g l = record {
  most : (g.R.Source.input l.source).reads ≤ (g.R.Source.input l.fn.source).reads + l.counter;
  least : min ((g.R.Source.input l.fn.source).reads + l.counter) (2 ^ 64 - 1) ≤ (g.R.Source.input l.source).reads;
  many : l.counter ≤ length l.framer;
  failures : (g.R.Source.input l.source).failures ≡ (g.R.Source.input l.fn.source).failures;
  held : HoldsMore (g.R.Source.input l.fn.source) (g.R.Source.input l.source) l.fn.framer l.framer;
}
