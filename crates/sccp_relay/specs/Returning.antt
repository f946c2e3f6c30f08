-- SCLC, SCCP connectionless control: the message that returns one that was refused, a UDTS or an XUDTS (Q.714 §4.2).
use Rattle.std.specs.Prelude.{ℕ, Bool, false, if◌then◌else◌, nat_eq, List, [], ◌∷◌, ◌++◌, drop, Option, Some, None, unwrap_or, Result, Ok, Err}
use Rattle.settings.specs.Configuration.{TitleEntry}
use Rattle.signalling_types.specs.declared.cause.Cause.{Cause}
use Rattle.signalling_types.specs.declared.cause.Cause.TheVariants.{NoNature, NoDigits, SubsystemProhibited, Unequipped, HopCounter, TooLong, UnknownDestination, NoRoute}
use Rattle.mtp3_codec.specs.declared.label.Label.{Label}
use Rattle.mtp3_codec.specs.Headings.{label_at}
use Rattle.sccp_codec.specs.declared.fault.SccpFault.{SccpFault}
use Rattle.sccp_codec.specs.declared.address.Routing.{Routing}
use Rattle.sccp_codec.specs.declared.address.Routing.TheVariants.{Title, Ssn}
use Rattle.sccp_codec.specs.declared.extended.ExtendedKind.TheVariants.{Xudts}
use Rattle.sccp_codec.specs.Messages.{AddressValue, PartsValue, UdtsValue}
use Rattle.sccp_codec.specs.Extended.{ExtendedValue, ParameterValue, first_named}
use Rattle.sccp_relay.specs.Points.{OwnValue, point_by, unless_barred}
use Rattle.sccp_relay.specs.Relay.{row_of, translated, written}
use Rattle.sccp_relay.specs.Sccp.{SccpValue, Plain, Extended, sccp_parts, read_sccp, asks_for_return}
use Rattle.sccp_relay.specs.Statuses.{TitlesValue, is_prohibited}
use Rattle.sccp_relay.specs.declared.subsystem.ProhibitedSubsystem.{ProhibitedSubsystem}

-- the return cause (Q.713 §3.12); nothing is returned for any other refusal
abbrev pub return_cause : Cause → Option ℕ
return_cause NoNature = Some 0
return_cause NoDigits = Some 1
return_cause SubsystemProhibited = Some 3
return_cause Unequipped = Some 4
return_cause UnknownDestination = Some 5
return_cause NoRoute = Some 5
return_cause TooLong = Some 7
return_cause HopCounter = Some 12
return_cause _ = None

-- the first parameter of this name, if there is one
abbrev pub parameter_of : (name : ℕ) → Option (List ℕ) → List ParameterValue
parameter_of name None = []
parameter_of name (Some octets) = record { name = name; octets = octets } ∷ []

-- the first segmentation and the first importance of optional parameters
abbrev pub returned_parameters : List ParameterValue → List ParameterValue
returned_parameters ps = parameter_of 16 (first_named 16 ps) ++ parameter_of 18 (first_named 18 ps)

-- an XUDTS, with a hop counter of 15
abbrev pub xudts : (return_cause : ℕ) → PartsValue → List ParameterValue → ExtendedValue
xudts number parts optional = record {
  kind = Xudts number;
  hop_counter = 15;
  parts = parts;
  optional = optional;
}

-- the message that returns one, with these parts
abbrev pub service : (return_cause : ℕ) → SccpValue → PartsValue → SccpValue
service number (Plain unitdata) parts = Plain (UdtsValue number parts)
service number (Extended extended) parts = Extended (xudts number parts (returned_parameters extended.optional))

-- it goes to another point, if it can be written
abbrev pub return_to : (own : ℕ) → Label → ℕ → SccpValue → Option (List ℕ)
return_to own label point message = if nat_eq point own then None else written point own label message

-- the parts, sent back: to the address that called, from the one that was called
abbrev pub sent_back : PartsValue → PartsValue
sent_back parts = record parts { called = parts.calling; calling = parts.called }

-- the same, sent to the calling address as a row leads it on; the called address stays
abbrev pub led_back : (calling : AddressValue) → PartsValue → PartsValue
led_back calling parts = record parts { called = calling; calling = parts.called }

abbrev pub return_led : OwnValue → Label → ℕ → SccpValue → (point : ℕ) → Result AddressValue Cause → Option (List ℕ)
return_led own label number message point (Err cause) = None
return_led own label number message point (Ok calling) =
    return_to own.point label point (service number message (led_back calling (sccp_parts message)))

abbrev pub return_by_row : OwnValue → List ProhibitedSubsystem → Label → ℕ → SccpValue → Result TitleEntry Cause
    → Option (List ℕ)
return_by_row own prohibited label number message (Err cause) = None
return_by_row own prohibited label number message (Ok row) =
    return_led own label number message (point_by own prohibited None label.sls row)
    (translated row (sccp_parts message).calling)

-- whether the subsystem of this number is prohibited at a point; without a number none is
abbrev pub is_kept_off : List ProhibitedSubsystem → (point : ℕ) → (ssn : Option ℕ) → Bool
is_kept_off prohibited point None = false
is_kept_off prohibited point (Some ssn) = is_prohibited prohibited (record { point = point; ssn = ssn })

-- to a subsystem at a point, unless it is prohibited there (Q.714 §2.3)
abbrev pub return_by_number : (own : ℕ) → List ProhibitedSubsystem → Label → ℕ → SccpValue → (point : ℕ)
    → Option (List ℕ)
return_by_number own prohibited label number message point =
    if is_kept_off prohibited point (sccp_parts message).calling.ssn
    then None
    else return_to own label point (service number message (sent_back (sccp_parts message)))

-- It goes to the address that called. By subsystem number that is the point that it names, else the point that the
-- message came from; by title it is where a row leads
abbrev pub return_by : Routing → OwnValue → TitlesValue → Label → ℕ → SccpValue → Option (List ℕ)
return_by Ssn own titles label number message =
    return_by_number own.point titles.prohibited label number message
    (unwrap_or (sccp_parts message).calling.point label.opc)
return_by Title own titles label number message =
    return_by_row own titles.prohibited label number message
    (unless_barred own titles.prohibited None label.sls (row_of titles.rows (sccp_parts message).calling))

-- a message is returned if it asks for that and there is a return cause
abbrev pub return_read : OwnValue → TitlesValue → Label → Option ℕ → Result SccpValue SccpFault → Option (List ℕ)
return_read own titles label (Some number) (Ok message) =
    if asks_for_return message
    then return_by (sccp_parts message).calling.routing own titles label number message
    else None
return_read own titles label _ _ = None

-- the signalling information field of the message that returns one with this field, which was refused for a cause, if
-- one does
unfoldable pub returned : OwnValue → TitlesValue → List ℕ → Cause → Option (List ℕ)
returned own titles sif cause =
    return_read own titles (label_at sif) (return_cause cause) (read_sccp own.extended (drop 4 sif))
