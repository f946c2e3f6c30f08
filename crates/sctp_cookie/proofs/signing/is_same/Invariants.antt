use Rattle.std.proofs.Common.{◌≡◌, ◌↔◌, take}
use Rattle.sctp_cookie.proofs.signing.is_same.Given as goal

abbrev pub invariant-loop-place : goal.invariant-loop-place
invariant-loop-place l = (l.differing ≡ 0) ↔ (take l.place l.octets ≡ take l.place l.others)
