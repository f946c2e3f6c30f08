use Rattle.routes.proofs.Basics.{◌≡◌, ◌+◌, array_vec_len, first_member}
use Rattle.routes.proofs.link_group.LinkGroup.search.Given as goal

abbrev pub invariant-loop : goal.invariant-loop
invariant-loop l = record {
  count : array_vec_len l.left + l.counter ≡ l.end;
  rest : first_member l.selection l.fn.in_service l.fn.sets l.left.items ≡ first_member l.fn.sls l.fn.in_service l.fn.sets l.fn.self;
}
