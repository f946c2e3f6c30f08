-- What the relay's types say, without where their octets lie.
use Rattle.std.specs.Prelude.{◌≡◌, ℕ, Bool, List, [], ◌∷◌, take, Option, Some, None, Result, Ok, Err, ⊤}
use Rattle.signalling_types.specs.declared.cause.Cause.{Cause}
use Rattle.sccp_codec.specs.Values.{unitdata_of}
use Rattle.sccp_codec.specs.ExtendedValues.{extended_of}
use Rattle.sccp_relay.specs.declared.own.Own.{Own}
use Rattle.sccp_relay.specs.declared.message.Message.{Message}
use Rattle.sccp_relay.specs.declared.message.Message.TheVariants as message
use Rattle.sccp_relay.specs.declared.relayed.Relayed.{Relayed}
use Rattle.sccp_relay.specs.declared.relayed.Relayed.TheVariants as said
use Rattle.sccp_relay.specs.Sccp.{SccpValue, Plain, Extended}
use Rattle.sccp_relay.specs.Points.{OwnValue}
use Rattle.sccp_relay.specs.Relay.{RelayedValue, Delivered, Onward, Heard, Refused}

abbrev pub own_value : {W : Type 0} → (leads : W → ℕ → ℕ → Bool) → Own W → OwnValue
own_value leads own = record {
  point = own.point;
  subsystems = own.subsystems.now;
  extended = own.extended;
  answers_tests = own.answers_tests;
  hears_statuses = own.hears_statuses;
  leads = leads own.ways;
}

abbrev pub sccp_of : Message → SccpValue
sccp_of (message.Plain unitdata) = Plain (unitdata_of unitdata)
sccp_of (message.Extended extended) = Extended (extended_of extended)

-- what became of a message, with what was written at the front of a field
abbrev pub relayed_of : Relayed → List ℕ → RelayedValue
relayed_of said.Delivered field = Delivered
relayed_of (said.Onward count) field = Onward (take count field)
relayed_of (said.Heard news) field = Heard news
relayed_of (said.Refused cause) field = Refused cause

-- a fact of how many octets go on, if any do
abbrev pub IfOnward : Relayed → (ℕ → Type 0) → Type 0
IfOnward said.Delivered P = ⊤
IfOnward (said.Onward count) P = P count
IfOnward (said.Heard news) P = ⊤
IfOnward (said.Refused cause) P = ⊤

-- the octets that were written at the front of a field, if any were
abbrev pub written_in : Option ℕ → List ℕ → Option (List ℕ)
written_in None field = None
written_in (Some count) field = Some (take count field)

-- the octets of a segmentation, and of an importance, if there is one
abbrev pub four_octets : Option (ℕ × ℕ × ℕ × ℕ) → Option (List ℕ)
four_octets None = None
four_octets (Some octets) = Some (octets.0 ∷ octets.1 ∷ octets.2 ∷ octets.3 ∷ [])

abbrev pub one_octet : Option ℕ → Option (List ℕ)
one_octet None = None
one_octet (Some octet) = Some (octet ∷ [])

-- what the code answers, seen as a value, is what the definition gives
abbrev pub GivesAs : {X V : Type 0} → Result X Cause → (X → V) → Result V Cause → Type 0
GivesAs (Ok x) view given = given ≡ Ok (view x)
GivesAs (Err cause) view given = given ≡ Err cause

-- octets that were made, or else these
abbrev pub made_or : {X : Type 0} → (came : List ℕ) → (X → List ℕ) → Option X → List ℕ
made_or came view None = came
made_or came view (Some x) = view x
