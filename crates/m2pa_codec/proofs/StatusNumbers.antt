-- The states by number: each state is that of its own number alone.
use Rattle.std.proofs.Common.{◌≡◌, ℕ, ◌<◌, ◌^◌, Some, refl, arith}
use Rattle.std.proofs.lemmas.Bool.Decides.{nat_tests}
use Rattle.m2pa_codec.specs.declared.status.LinkStatus.{LinkStatus}
use Rattle.m2pa_codec.specs.declared.status.LinkStatus.TheVariants.{Alignment}
use Rattle.m2pa_codec.specs.Frames.{status_number, status_of}

pub status_of-number : (s : LinkStatus) → status_of (status_number s) ≡ Some s
unfolding status_of
status_of-number Alignment = refl
status_of-number s = refl

pub number-status_of : (n : ℕ) (s : LinkStatus) → status_of n ≡ Some s → n ≡ status_number s
unfolding status_of
number-status_of n s e = grind (arith, nat_tests, e)

pub number-fits : (s : LinkStatus) → status_number s < 2 ^ 32
number-fits Alignment = omega arith
number-fits s = omega arith
