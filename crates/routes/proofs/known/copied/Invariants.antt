use Rattle.routes.proofs.Basics.{◌≡◌, take, array_vec_len}
use Rattle.routes.proofs.known.copied.Given as goal

abbrev pub invariant-loop-is : goal.invariant-loop-is
invariant-loop-is l = record {
  links : l.copy.items ≡ take l.is-index l.fn.in_service;
  count : array_vec_len l.copy ≡ l.is-index;
}
