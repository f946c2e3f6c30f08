-- How the counts of a link are stored in its sequence, with the number of the next message.
use Rattle.std.specs.Prelude.{◌≡◌, ◌+◌, ◌%◌}
use Rattle.signalling_types.specs.Numbers.{modulus}
use Rattle.link.specs.Counts.{Counts}
use Rattle.link.specs.declared.sequence.Sequence.TheInside.{Inside}

abbrev pub counts_in : Inside → Counts
counts_in s = record { oldest = s.oldest; outstanding = s.outstanding; expected = s.expected }

abbrev pub IsInStep : Inside → Type 0
IsInStep s = s.next ≡ (s.oldest + s.outstanding) % modulus

abbrev pub fields_of : Counts → Inside
fields_of k = record {
  oldest = k.oldest;
  next = (k.oldest + k.outstanding) % modulus;
  outstanding = k.outstanding;
  expected = k.expected;
}
