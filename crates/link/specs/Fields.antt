-- The counts of a link determine the fields of its sequence.
use Rattle.std.specs.Prelude.{◌≡◌}
use Rattle.std.proofs.Common.{refl}
use Rattle.link.specs.Inside.{counts_in, IsInStep, fields_of}
use Rattle.link.specs.declared.sequence.Sequence.TheInside.{Inside}

pub fields_of-counts_in : (s : Inside) → IsInStep s → fields_of (counts_in s) ≡ s
fields_of-counts_in s h = rw (← h) refl
