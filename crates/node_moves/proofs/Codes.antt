-- The link code of management that was read has four bits.
use Rattle.node_moves.proofs.Basics.{ℕ, Bool, true, false, ◌/◌, ◌%◌, ◌^◌, ◌<◌, List, [], ◌∷◌, drop, Result, Ok, Err, arith, if◌then◌else◌}
use Rattle.node_moves.proofs.Definitions.{Management, MgmtFault, read_management}
use Rattle.std.specs.Prelude.{◌==◌}
use Rattle.mtp3_codec.specs.Headings.{label_at, cause_of_code, heading, number_in, changeback_code_in, point_in}
use Rattle.mtp3_codec.specs.Management.{link_code_of, message_in, message_of, unavailable_in, with_field}
use Rattle.mtp3_codec.specs.declared.fault.MgmtFault.TheVariants.{Short, NotInProfile}
use Rattle.mtp3_codec.specs.declared.management.Management.TheVariants as says

abbrev pub code_in : Result Management MgmtFault → ℕ
code_in (Ok m) = link_code_of m
code_in (Err fault) = 0

pub record HasCode (r : Result Management MgmtFault) : Type 0 where
  pub fits : code_in r < 2 ^ 4

if-fits : (b : Bool) (r s : Result Management MgmtFault) → HasCode r → HasCode s → HasCode (if b then r else s)
if-fits true r s e f = e
if-fits false r s e f = f

said-fits : (m : Management) → link_code_of m < 2 ^ 4 → HasCode (Ok m)
said-fits m h = record { fits = h }

fault-fits : (fault : MgmtFault) → HasCode (Err fault)
fault-fits fault = record { fits = omega arith }

none-fits : 0 < 2 ^ 4
none-fits = omega arith

field-fits : (g : ℕ → Management) (o : Result ℕ MgmtFault) → ((n : ℕ) → link_code_of (g n) < 2 ^ 4) → HasCode (with_field g o)
field-fits g (Ok n) h = said-fits (g n) (h n)
field-fits g (Err fault) h = fault-fits fault

unavailable-fits : (fields : List ℕ) → HasCode (unavailable_in fields)
unavailable-fits [] = fault-fits Short
unavailable-fits (low ∷ []) = fault-fits Short
unavailable-fits (low ∷ high ∷ []) = fault-fits Short
unavailable-fits (low ∷ high ∷ octet ∷ rest) =
    field-fits (λ point. says.UserPartUnavailable point (octet % 16) (cause_of_code (octet / 16))) (point_in (low ∷ high ∷ [])) (λ n. none-fits)

message-fits : (octet slc : ℕ) (fields : List ℕ) → slc < 2 ^ 4 → HasCode (message_of octet slc fields)
message-fits octet slc fields fits =
    if-fits (octet == heading 1 3) (with_field (says.ExtendedChangeoverOrder slc) (number_in fields)) _ (field-fits (says.ExtendedChangeoverOrder slc) (number_in fields) (λ n. fits))
    (if-fits (octet == heading 1 4) (with_field (says.ExtendedChangeoverAcknowledgement slc) (number_in fields)) _
    (field-fits (says.ExtendedChangeoverAcknowledgement slc) (number_in fields) (λ n. fits))
    (if-fits (octet == heading 1 5) (with_field (says.ChangebackDeclaration slc) (changeback_code_in fields)) _ (field-fits (says.ChangebackDeclaration slc) (changeback_code_in fields) (λ n. fits))
    (if-fits (octet == heading 1 6) (with_field (says.ChangebackAcknowledgement slc) (changeback_code_in fields)) _
    (field-fits (says.ChangebackAcknowledgement slc) (changeback_code_in fields) (λ n. fits))
    (if-fits (octet == heading 2 1) (Ok (says.EmergencyChangeoverOrder slc)) _ (said-fits (says.EmergencyChangeoverOrder slc) fits)
    (if-fits (octet == heading 2 2) (Ok (says.EmergencyChangeoverAcknowledgement slc)) _ (said-fits (says.EmergencyChangeoverAcknowledgement slc) fits)
    (if-fits (octet == heading 4 1) (with_field says.TransferProhibited (point_in fields)) _ (field-fits says.TransferProhibited (point_in fields) (λ n. none-fits))
    (if-fits (octet == heading 4 3) (with_field says.TransferRestricted (point_in fields)) _ (field-fits says.TransferRestricted (point_in fields) (λ n. none-fits))
    (if-fits (octet == heading 4 5) (with_field says.TransferAllowed (point_in fields)) _ (field-fits says.TransferAllowed (point_in fields) (λ n. none-fits))
    (if-fits (octet == heading 5 1) (with_field says.RouteSetTestProhibited (point_in fields)) _ (field-fits says.RouteSetTestProhibited (point_in fields) (λ n. none-fits))
    (if-fits (octet == heading 5 2) (with_field says.RouteSetTestRestricted (point_in fields)) _ (field-fits says.RouteSetTestRestricted (point_in fields) (λ n. none-fits))
    (if-fits (octet == heading 7 1) (Ok says.TrafficRestartAllowed) _ (said-fits says.TrafficRestartAllowed none-fits)
    (if-fits (octet == heading 10 1) (unavailable_in fields) (Err NotInProfile) (unavailable-fits fields) (fault-fits NotInProfile)))))))))))))

in-fits : (slc : ℕ) (octets : List ℕ) → slc < 2 ^ 4 → HasCode (message_in slc octets)
in-fits slc [] fits = fault-fits Short
in-fits slc (octet ∷ fields) fits = message-fits octet slc fields fits

pub read-fits : (sif : List ℕ) → HasCode (read_management sif)
read-fits sif = in-fits (label_at sif).sls (drop 4 sif) (omega arith)
