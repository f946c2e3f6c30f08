-- A link test that is written reads back.
use Rattle.std.proofs.Common.{◌≡◌, ◌++◌, ◌∙◌, ◌∷◌, ℕ, ◌<◌, ◌≤◌, ◌*◌, ◌/◌, ◌^◌, List, Some, Ok, ap, refl, length, take, arith, nat_lt, false}
use Rattle.std.specs.Prelude.{Option, Result, Err, if◌then◌else◌}
use Rattle.std.proofs.lemmas.Grind.{common_steps}
use Rattle.std.proofs.lemmas.Bool.Decides.{nat_tests}
use Rattle.mtp3_codec.specs.Headings.{IsLabel, label_at, label_octets, kind_of, kind_heading}
use Rattle.mtp3_codec.specs.Management.{LinkTestValue, read_link_test, spelled, test_in, test_of_kind, pattern_in}
use Rattle.mtp3_codec.specs.declared.label.Label.{Label}
use Rattle.mtp3_codec.specs.declared.fault.MgmtFault.{MgmtFault}
use Rattle.mtp3_codec.specs.declared.fault.MgmtFault.TheVariants.{Short}
use Rattle.mtp3_codec.specs.declared.link_test.TestKind.{TestKind}
use Rattle.mtp3_codec.specs.declared.link_test.TestKind.TheVariants.{Test, Acknowledgement}
use Rattle.mtp3_codec.proofs.Labels.{label-back}

kind-back : (kind : TestKind) → kind_of (kind_heading kind) ≡ Some kind
kind-back Test = refl
kind-back Acknowledgement = refl

abbrev read_as : TestKind → (slc : ℕ) → (pattern : List ℕ) → (count : ℕ) → Result LinkTestValue MgmtFault
read_as kind slc pattern count =
    if nat_lt (length pattern) count then Err Short else Ok (record { kind = kind; slc = slc; pattern = take count pattern })

itself : (kind : TestKind) (slc : ℕ) (pattern : List ℕ) → read_as kind slc pattern (length pattern) ≡ Ok (record { kind = kind; slc = slc; pattern = pattern })
itself kind slc pattern = grind (arith, common_steps, nat_tests)

counted : (kind : TestKind) (slc : ℕ) (pattern : List ℕ) (count : ℕ) → count ≡ length pattern → read_as kind slc pattern count ≡ Ok (record { kind = kind; slc = slc; pattern = pattern })
counted kind slc pattern count e = ap (read_as kind slc pattern) e ∙ itself kind slc pattern

pub test-back : (dpc opc : ℕ) (test : LinkTestValue) → IsLabel (record { dpc = dpc; opc = opc; sls = test.slc }) → read_link_test (spelled dpc opc test) ≡ Ok test
test-back dpc opc test h =
    let label : Label = record { dpc = dpc; opc = opc; sls = test.slc } in
    let rest : List ℕ = kind_heading test.kind ∷ length test.pattern * 16 ∷ test.pattern in
    ap (λ (l : Label). test_in l.sls rest) (label-back label rest h)
    ∙ ap (λ (k : Option TestKind). test_of_kind k test.slc (length test.pattern * 16 ∷ test.pattern)) (kind-back test.kind)
    ∙ counted test.kind test.slc test.pattern (length test.pattern * 16 / 16) (omega arith)
