-- The answer to a link test isn't longer than the test.
use Rattle.node_moves.proofs.Basics.{◌≡◌, ℕ, suc, Bool, true, false, ◌+◌, ◌/◌, ◌≤◌, List, [], ◌∷◌, length, drop, take, Option, Some, None, Result, Ok, Err, nat_lt, subst, arith, nat_tests, if◌then◌else◌}
use Rattle.node_moves.proofs.Machine.{Other}
use Rattle.node_moves.proofs.Definitions.{Configuration, IsWell, SIF_OCTETS, MgmtFault}
use Rattle.node_moves.proofs.Reading.{says_of, is_long, says-test}
use Rattle.node_moves.proofs.Own.{test-indicator}
use Rattle.exchange_rules.specs.Messages.{test_answer}
use Rattle.std.proofs.lemmas.List.{length-drop, length-take}
use Rattle.mtp3_codec.specs.Headings.{label_at, kind_of}
use Rattle.mtp3_codec.specs.Management.{LinkTestValue, pattern_in, read_link_test, test_in, test_of_kind}
use Rattle.mtp3_codec.specs.declared.fault.MgmtFault.TheVariants as faults
use Rattle.mtp3_codec.specs.declared.link_test.TestKind.{TestKind}

-- the pattern of a link test that is read is in what was read
abbrev IsWithin : ℕ → Result LinkTestValue MgmtFault → Type 0
IsWithin many (Ok test) = length test.pattern + 2 ≤ many
IsWithin many (Err fault) = Unit {0}

within-pattern : (kind : TestKind) (slc : ℕ) (rest : List ℕ) → IsWithin (suc (length rest)) (pattern_in kind slc rest)
within-pattern kind slc [] = tt
within-pattern kind slc (count ∷ rest) = by (nat_lt (length rest) (count / 16))
  where
    by : (b : Bool) → IsWithin (suc (suc (length rest))) (if b then Err faults.Short else Ok (record { kind = kind; slc = slc; pattern = take (count / 16) rest }))
    by true = tt
    by false = omega (arith, length-take (count / 16) rest)

within-kind : (o : Option TestKind) (slc : ℕ) (rest : List ℕ) → IsWithin (suc (length rest)) (test_of_kind o slc rest)
within-kind None slc rest = tt
within-kind (Some kind) slc rest = within-pattern kind slc rest

within-in : (slc : ℕ) (octets : List ℕ) → IsWithin (length octets) (test_in slc octets)
within-in slc [] = tt
within-in slc (octet ∷ rest) = within-kind (kind_of octet) slc rest

-- so its answer is no longer
answer-short : (c : Configuration) (point : ℕ) (sif : List ℕ) (test : LinkTestValue) → length sif ≤ SIF_OCTETS → read_link_test sif ≡ Ok test → length (test_answer c point test).sif ≤ SIF_OCTETS
answer-short c point sif test short e =
    let within : length test.pattern + 2 ≤ length (drop 4 sif) = subst (IsWithin (length (drop 4 sif))) e (within-in (label_at sif).sls (drop 4 sif)) in
    omega (arith, short, within, length-drop 4 sif)

pub answer-other : (c : Configuration) → IsWell c → (point : ℕ) (sif : List ℕ) (test : LinkTestValue) → length sif ≤ SIF_OCTETS → read_link_test sif ≡ Ok test → says_of (test_answer c point test) ≡ Other
answer-other c well point sif test short e =
    let brief : length (test_answer c point test).sif ≤ SIF_OCTETS = answer-short c point sif test short e in
    says-test (test_answer c point test) (let so : is_long (test_answer c point test) ≡ false = grind (arith, nat_tests, brief) in so) (test-indicator c well c.network)
