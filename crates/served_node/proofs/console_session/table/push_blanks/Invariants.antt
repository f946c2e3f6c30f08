-- So many blanks so far.
use Rattle.std.proofs.Common.{◌≡◌, ◌+◌, ◌++◌, replicate, length}
use Rattle.served_node.proofs.console_session.table.push_blanks.Given as goal

abbrev pub invariant-loop : goal.invariant-loop
invariant-loop l = record {
  text : l.row.bytes ≡ l.fn.row.bytes ++ replicate l.counter 32;
  short : length l.row.bytes ≡ length l.fn.row.bytes + l.counter;
}
