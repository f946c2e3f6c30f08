use Rattle.routes.proofs.Basics.{◌≡◌, ◌+◌, ◌++◌, ◌≤◌, array_vec_len, preference}
use Rattle.routes.proofs.link_group.LinkGroup.preference.Given as goal

abbrev pub invariant-loop : goal.invariant-loop
invariant-loop l = record {
  left : array_vec_len l.left + l.counter ≡ l.end;
  done : array_vec_len l.order ≡ l.counter;
  room : l.end ≤ 32;
  links : l.order.items ++ preference l.selection l.left.items ≡ preference l.fn.sls l.fn.self;
}
