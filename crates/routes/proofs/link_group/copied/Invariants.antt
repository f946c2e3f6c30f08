use Rattle.routes.proofs.Basics.{◌≡◌, take, array_vec_len}
use Rattle.routes.proofs.link_group.copied.Given as goal

abbrev pub invariant-loop-member : goal.invariant-loop-member
invariant-loop-member l = record {
  members : l.copy.items ≡ take l.member-index l.member-items;
  count : array_vec_len l.copy ≡ l.member-index;
}
