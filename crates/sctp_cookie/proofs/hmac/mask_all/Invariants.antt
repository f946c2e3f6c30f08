use Rattle.std.proofs.Common.{◌≡◌, ◌++◌, take, drop}
use Rattle.sctp_cookie.specs.Hmac.{masked}
use Rattle.sctp_cookie.proofs.hmac.mask_all.Given as goal

abbrev pub invariant-loop-place : goal.invariant-loop-place
invariant-loop-place l = l.block ≡ masked l.mask (take l.place l.fn.block) ++ drop l.place l.fn.block
