use Rattle.routes.proofs.Basics.{◌≡◌, ◌≤◌, ◌+◌, ◌++◌, take, array_vec_len, members_of}
use Rattle.routes.proofs.link_group.add_links.Given as goal

abbrev pub invariant-loop-link : goal.invariant-loop-link
invariant-loop-link l = record {
  members : l.members.items ≡ l.fn.members.items ++ members_of l.fn.set (take l.link-index l.fn.links);
  room : array_vec_len l.members ≤ 16 + l.link-index;
}
