-- A management message that is written is read back.
use Rattle.std.proofs.Common.{◌≡◌, ◌<◌, ◌≤◌, ◌^◌, ◌∙◌, ◌∷◌, ◌++◌, ◌/◌, ◌%◌, [], ℕ, Ok, Some, ap, refl, length, arith}
use Rattle.std.proofs.lemmas.Grind.{common_steps}
use Rattle.mtp3_codec.specs.Headings.{IsLabel, label_at, label_in, number_in, number_octets, point_in, point_octets, cause_of_code, part_octet, management_heading}
use Rattle.mtp3_codec.specs.declared.label.Label.{Label}
use Rattle.mtp3_codec.proofs.Labels.{label-back, label_in-back}
use Rattle.mtp3_codec.specs.declared.management.Management.{Management}
use Rattle.mtp3_codec.specs.declared.management.Management.TheVariants.{ExtendedChangeoverOrder, ExtendedChangeoverAcknowledgement, ChangebackDeclaration, ChangebackAcknowledgement, EmergencyChangeoverOrder, EmergencyChangeoverAcknowledgement, TransferProhibited, TransferRestricted, TransferAllowed, RouteSetTestProhibited, RouteSetTestRestricted, UserPartUnavailable}
use Rattle.mtp3_codec.specs.Management.{IsManagement, field_octets, link_code_of, management_octets, message_in, message_of, read_management, unavailable_in, with_field}
use Rattle.mtp3_codec.specs.declared.fault.MgmtFault.{MgmtFault}
use Rattle.mtp3_codec.specs.declared.unavailability.UnavailabilityCause.{UnavailabilityCause}
use Rattle.mtp3_codec.specs.declared.unavailability.UnavailabilityCause.TheVariants.{Unknown, Unequipped, Inaccessible}

number-back : (number : ℕ) → number < 2 ^ 24 → number_in (number_octets number) ≡ Ok number
number-back number h = ap Ok (omega (arith, h))

point-back : (point : ℕ) → point < 2 ^ 14 → point_in (point_octets point) ≡ Ok point
point-back point h = ap Ok (omega (arith, h))

cause-back : (user_part : ℕ) (cause : UnavailabilityCause) → user_part < 2 ^ 4
    → (part_octet user_part cause % 16 ≡ user_part) × (cause_of_code (part_octet user_part cause / 16) ≡ cause)
cause-back user_part Unknown h = (omega (arith, h), ap cause_of_code (let none : part_octet user_part Unknown / 16 ≡ 0 = omega (arith, h) in none))
cause-back user_part Unequipped h = (omega (arith, h), ap cause_of_code (let one : part_octet user_part Unequipped / 16 ≡ 1 = omega (arith, h) in one))
cause-back user_part Inaccessible h = (omega (arith, h), ap cause_of_code (let two : part_octet user_part Inaccessible / 16 ≡ 2 = omega (arith, h) in two))

part-back : (point user_part : ℕ) (cause : UnavailabilityCause) → (point < 2 ^ 14) × (user_part < 2 ^ 4)
    → unavailable_in (point_octets point ++ part_octet user_part cause ∷ []) ≡ Ok (UserPartUnavailable point user_part cause)
part-back point user_part cause h =
    ap (with_field (λ p. UserPartUnavailable p (part_octet user_part cause % 16) (cause_of_code (part_octet user_part cause / 16)))) (point-back point h.0)
    ∙ ap (λ (u : ℕ). with_field (λ p. UserPartUnavailable p u (cause_of_code (part_octet user_part cause / 16))) (Ok point)) (cause-back user_part cause h.1).0
    ∙ ap (λ (x : UnavailabilityCause). with_field (λ p. UserPartUnavailable p user_part x) (Ok point)) (cause-back user_part cause h.1).1

code-fits : (m : Management) → IsManagement m → link_code_of m < 2 ^ 4
code-fits (ExtendedChangeoverOrder slc number) h = h.0
code-fits (ExtendedChangeoverAcknowledgement slc number) h = h.0
code-fits (ChangebackDeclaration slc code) h = h.0
code-fits (ChangebackAcknowledgement slc code) h = h.0
code-fits (EmergencyChangeoverOrder slc) h = h
code-fits (EmergencyChangeoverAcknowledgement slc) h = h
code-fits m h = omega arith

fields-back : (m : Management) → IsManagement m → message_of (management_heading m) (link_code_of m) (field_octets m) ≡ Ok m
fields-back (ExtendedChangeoverOrder slc number) h = ap (with_field (ExtendedChangeoverOrder slc)) (number-back number h.1)
fields-back (ExtendedChangeoverAcknowledgement slc number) h = ap (with_field (ExtendedChangeoverAcknowledgement slc)) (number-back number h.1)
fields-back (TransferProhibited point) h = ap (with_field TransferProhibited) (point-back point h)
fields-back (TransferRestricted point) h = ap (with_field TransferRestricted) (point-back point h)
fields-back (TransferAllowed point) h = ap (with_field TransferAllowed) (point-back point h)
fields-back (RouteSetTestProhibited point) h = ap (with_field RouteSetTestProhibited) (point-back point h)
fields-back (RouteSetTestRestricted point) h = ap (with_field RouteSetTestRestricted) (point-back point h)
fields-back (UserPartUnavailable point user_part cause) h = part-back point user_part cause h
fields-back m h = refl

fields-fit : (m : Management) → length (field_octets m) ≤ 3
fields-fit (ExtendedChangeoverOrder slc number) = omega arith
fields-fit m = omega arith

-- a message, and the two points that it goes from and to, are within their ranges
module _ (dpc opc : ℕ) (m : Management) where
  -- its label
  abbrev pub label_of : Label
  label_of = record { dpc = dpc; opc = opc; sls = link_code_of m }

  pub octets-fit : length (management_octets dpc opc m) ≤ 8
  octets-fit = grind (arith, common_steps, fields-fit m)

  pub octets-long : 5 ≤ length (management_octets dpc opc m)
  octets-long = grind (arith, common_steps)

  module _ (d : dpc < 2 ^ 14) (o : opc < 2 ^ 14) (h : IsManagement m) where
    is_label : IsLabel label_of
    is_label = record { dpc = d; opc = o; sls = code-fits m h }

    pub its-label : label_at (management_octets dpc opc m) ≡ label_of
    its-label = label-back label_of (management_heading m ∷ field_octets m) is_label

    pub its-label_in : label_in (management_octets dpc opc m) ≡ Some label_of
    its-label_in = label_in-back label_of (management_heading m ∷ field_octets m) is_label

    pub message-back : read_management (management_octets dpc opc m) ≡ Ok m
    message-back = ap (λ (l : Label). message_in l.sls (management_heading m ∷ field_octets m)) its-label ∙ fields-back m h
