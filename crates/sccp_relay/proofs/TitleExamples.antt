-- The law of translation at two rows, by computation.
use Rattle.sccp_relay.proofs.Basics.{◌≤◌, length, refl, arith, IsTrue, All-from_recursion, TitleEntry, leads}
use Rattle.sccp_relay.specs.TitleExamples as examples

pub are_ordered : examples.are_ordered
are_ordered = ((refl, tt), (tt, tt))

abbrev NoLonger : TitleEntry → Type 0
NoLonger other = IsTrue (leads examples.key examples.digits other) → length other.digits ≤ 4

pub is_translation : examples.is_translation
is_translation = record {
  among = (1, omega arith, refl);
  leading = refl;
  longest = All-from_recursion NoLonger examples.rows ((λ leads. omega arith), ((λ leads. omega arith), tt));
}

pub longest_is_found : examples.longest_is_found
longest_is_found = refl
