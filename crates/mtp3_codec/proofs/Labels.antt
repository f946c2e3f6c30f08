-- A label that is written before any octets is read back.
use Rattle.std.proofs.Common.{◌≡◌, ◌++◌, ◌∙◌, ℕ, List, Some, None, ap, false, length, nat_lt, arith}
use Rattle.std.specs.Prelude.{if◌then◌else◌}
use Rattle.std.proofs.lemmas.Grind.{common_steps}
use Rattle.std.proofs.lemmas.Bool.Decides.{nat_tests}
use Rattle.signalling_types.specs.Message.{label_number}
use Rattle.mtp3_codec.specs.Headings.{IsLabel, label_at, label_in, label_octets, number_of_label}
use Rattle.mtp3_codec.specs.declared.label.Label.{Label}

pub number-back : (label : Label) (rest : List ℕ) → IsLabel label → label_number (label_octets label ++ rest) ≡ number_of_label label
number-back label rest h = grind (arith, common_steps, h.dpc, h.opc, h.sls)

pub label-back : (label : Label) (rest : List ℕ) → IsLabel label → label_at (label_octets label ++ rest) ≡ label
label-back label rest h = grind (arith, common_steps, number-back label rest h, h.dpc, h.opc, h.sls)

long : (label : Label) (rest : List ℕ) → nat_lt (length (label_octets label ++ rest)) 4 ≡ false
long label rest = grind (arith, common_steps, nat_tests)

pub label_in-back : (label : Label) (rest : List ℕ) → IsLabel label → label_in (label_octets label ++ rest) ≡ Some label
label_in-back label rest h =
    ap (λ b. if b then None else Some (label_at (label_octets label ++ rest))) (long label rest) ∙ ap Some (label-back label rest h)
