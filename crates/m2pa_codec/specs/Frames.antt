-- M2PA frames (RFC 4165 §2): link statuses and User Data, as octets and as they are read.
use Rattle.std.specs.Prelude.{ℕ, Option, Some, None, if◌then◌else◌, ◌==◌, ◌≡◌, ◌+◌, ◌<◌, ◌^◌, List, [], ◌∷◌, ◌++◌, length, slice_index, drop, is_some, unwrap_or, Result, Ok, Err, nat_lt, not}
use Rattle.m2pa_codec.specs.declared.status.LinkStatus.{LinkStatus}
use Rattle.m2pa_codec.specs.declared.status.LinkStatus.TheVariants.{Alignment, ProvingNormal, ProvingEmergency, Ready, ProcessorOutage, ProcessorRecovered, Busy, BusyEnded, OutOfService}
use Rattle.std.specs.Int.{w32, to_be_bytes, from_be_bytes}
use Rattle.signalling_types.specs.Numbers.{three_octets, number_of}
use Rattle.signalling_types.specs.declared.notice.FrameFault.{FrameFault}
use Rattle.signalling_types.specs.declared.notice.FrameFault.TheVariants.{Short, Length, Version, Unknown}

-- ---- The states that a Link Status message tells, by number (RFC 4165 §2.3.2).

-- a state's number
abbrev pub status_number : LinkStatus → ℕ
status_number Alignment = 1
status_number ProvingNormal = 2
status_number ProvingEmergency = 3
status_number Ready = 4
status_number ProcessorOutage = 5
status_number ProcessorRecovered = 6
status_number Busy = 7
status_number BusyEnded = 8
status_number OutOfService = 9

-- the state of a number, if there is one
unfoldable pub status_of : ℕ → Option LinkStatus
status_of number =
    if number == 1 then Some Alignment
    else if number == 2 then Some ProvingNormal
    else if number == 3 then Some ProvingEmergency
    else if number == 4 then Some Ready
    else if number == 5 then Some ProcessorOutage
    else if number == 6 then Some ProcessorRecovered
    else if number == 7 then Some Busy
    else if number == 8 then Some BusyEnded
    else if number == 9 then Some OutOfService
    else None

-- ---- The frames of M2PA: what they say, and the texts that say it (RFC 4165 §2).

-- what a frame says: its numbers, and a message or a link status if it has one
pub data FrameValue : Type 0 where
  -- User Data without a message: bsn, fsn
  EmptyFrame : (bsn fsn : ℕ) → FrameValue
  -- User Data with a message: bsn, fsn, its service information octet and its field
  MessageFrame : (bsn fsn sio : ℕ) (sif : List ℕ) → FrameValue
  -- Link Status: bsn, fsn and the state that it tells
  StatusFrame : (bsn fsn : ℕ) (status : LinkStatus) → FrameValue

-- the message type of User Data (RFC 4165 §2.1.4)
abbrev pub user_data : ℕ
user_data = 1

-- the message type of Link Status (RFC 4165 §2.1.4)
abbrev pub link_status : ℕ
link_status = 2

-- the state of a link status, in four octets (RFC 4165 §2.3.2)
abbrev pub state_octets : LinkStatus → List ℕ
state_octets status = to_be_bytes w32 (status_number status)

-- the common header: version 1, a spare octet, class 11, the message type, the length of the whole frame
-- (RFC 4165 §2.1)
abbrev pub common_header : (spare kind len : ℕ) → List ℕ
common_header spare kind len = 1 ∷ spare ∷ 11 ∷ kind ∷ to_be_bytes w32 len

-- the header with the numbers, each after an unused octet (RFC 4165 §2.2)
abbrev pub number_header : (before_bsn bsn before_fsn fsn : ℕ) → List ℕ
number_header before_bsn bsn before_fsn fsn = (before_bsn ∷ three_octets bsn) ++ (before_fsn ∷ three_octets fsn)

-- the text is both headers and then this body; spare and unused octets may be any
pub record IsHeaded (text : List ℕ) (kind bsn fsn : ℕ) (body : List ℕ) : Type 0 where
  pub spare : ℕ
  pub before_bsn : ℕ
  pub before_fsn : ℕ
  pub parts : text ≡ common_header spare kind (length text) ++ number_header before_bsn bsn before_fsn fsn ++ body
  pub length_fits : length text < 2 ^ 32
  pub bsn_fits : bsn < 2 ^ 24
  pub fsn_fits : fsn < 2 ^ 24

-- the text is a frame that says this. User Data has no body, or any priority octet, the message's octet and its field
-- (RFC 4165 §2.3.1). Link Status has its state and any filler (RFC 4165 §2.3.2)
abbrev pub IsFrame : List ℕ → FrameValue → Type 0
IsFrame text (EmptyFrame bsn fsn) = IsHeaded text user_data bsn fsn []
IsFrame text (MessageFrame bsn fsn sio sif) = (priority : ℕ) × IsHeaded text user_data bsn fsn (priority ∷ sio ∷ sif)
IsFrame text (StatusFrame bsn fsn status) =
    (filler : List ℕ) × IsHeaded text link_status bsn fsn (state_octets status ++ filler)

-- the text with spare, unused and priority octets 0, and no filler
abbrev pub spelled_with : (kind bsn fsn : ℕ) (body : List ℕ) → List ℕ
spelled_with kind bsn fsn body = common_header 0 kind (16 + length body) ++ number_header 0 bsn 0 fsn ++ body

abbrev pub spelled : FrameValue → List ℕ
spelled (EmptyFrame bsn fsn) = spelled_with user_data bsn fsn []
spelled (MessageFrame bsn fsn sio sif) = spelled_with user_data bsn fsn (0 ∷ sio ∷ sif)
spelled (StatusFrame bsn fsn status) = spelled_with link_status bsn fsn (state_octets status)

-- the backward sequence number
abbrev pub bsn_of : FrameValue → ℕ
bsn_of (EmptyFrame bsn fsn) = bsn
bsn_of (MessageFrame bsn fsn sio sif) = bsn
bsn_of (StatusFrame bsn fsn status) = bsn

-- the forward sequence number
abbrev pub fsn_of : FrameValue → ℕ
fsn_of (EmptyFrame bsn fsn) = fsn
fsn_of (MessageFrame bsn fsn sio sif) = fsn
fsn_of (StatusFrame bsn fsn status) = fsn

-- the message's field; nothing if there is no message
abbrev pub sif_of : FrameValue → List ℕ
sif_of (EmptyFrame bsn fsn) = []
sif_of (MessageFrame bsn fsn sio sif) = sif
sif_of (StatusFrame bsn fsn status) = []

-- what a frame can say: its numbers have 24 bits, and the length of its text has 32
pub record IsSayable (value : FrameValue) : Type 0 where
  pub bsn_fits : bsn_of value < 2 ^ 24
  pub fsn_fits : fsn_of value < 2 ^ 24
  pub length_fits : length (spelled value) < 2 ^ 32

-- each number of the list is that of an octet
abbrev pub AreOctets : List ℕ → Type 0
AreOctets text = (i : ℕ) → slice_index text i < 2 ^ 8

-- ---- Reading a frame, with the first fault that is found (RFC 4165 §2).

-- the length that the text says it has: octets 4 to 7
abbrev pub length_field : List ℕ → ℕ
length_field text =
    from_be_bytes w32 (slice_index text 4 ∷ slice_index text 5 ∷ slice_index text 6 ∷ slice_index text 7 ∷ [])

-- the number in the three octets at an offset
abbrev pub number_field : List ℕ → ℕ → ℕ
number_field text at = number_of (slice_index text at ∷ slice_index text (at + 1) ∷ slice_index text (at + 2) ∷ [])

-- the backward sequence number: octets 9 to 11
abbrev pub bsn_field : List ℕ → ℕ
bsn_field text = number_field text 9

-- the forward sequence number: octets 13 to 15
abbrev pub fsn_field : List ℕ → ℕ
fsn_field text = number_field text 13

-- the state that a link status tells, if it has one of the nine: octets 16 to 19
abbrev pub state_field : List ℕ → Option LinkStatus
state_field text =
    status_of (from_be_bytes w32
    (slice_index text 16 ∷ slice_index text 17 ∷ slice_index text 18 ∷ slice_index text 19 ∷ []))

-- the first fault of the common header
abbrev pub header_fault : List ℕ → Option FrameFault
header_fault text =
    if nat_lt (length text) 8 then Some Short
    else if not (length_field text == length text) then Some Length
    else if not (slice_index text 0 == 1) then Some Version
    else if not (slice_index text 2 == 11) then Some Unknown
    else if slice_index text 3 == user_data then None
    else if slice_index text 3 == link_status then None
    else Some Unknown

-- the fault of User Data: it has no body, or at least a priority octet and a service information octet
abbrev pub user_data_fault : List ℕ → Option FrameFault
user_data_fault text = if length text == 17 then Some Short else None

-- the first fault of Link Status: it has a state, which is one of the nine
abbrev pub link_status_fault : List ℕ → Option FrameFault
link_status_fault text =
    if nat_lt (length text) 20 then Some Short
    else if is_some (state_field text) then None
    else Some Unknown

-- the first fault after the common header
abbrev pub body_fault : List ℕ → Option FrameFault
body_fault text =
    if nat_lt (length text) 16 then Some Short
    else if slice_index text 3 == user_data then user_data_fault text
    else link_status_fault text

-- the first of two faults
abbrev pub first_fault : Option FrameFault → Option FrameFault → Option FrameFault
first_fault (Some fault) other = Some fault
first_fault None other = other

-- the first fault of a text
abbrev pub fault_of : List ℕ → Option FrameFault
fault_of text = first_fault (header_fault text) (body_fault text)

-- what a text without fault says; a link status without fault has one of the nine states
abbrev pub value_in : List ℕ → FrameValue
value_in text =
    if slice_index text 3 == link_status
    then StatusFrame (bsn_field text) (fsn_field text) (unwrap_or (state_field text) OutOfService)
    else if length text == 16 then EmptyFrame (bsn_field text) (fsn_field text)
    else MessageFrame (bsn_field text) (fsn_field text) (slice_index text 17) (drop 18 text)

abbrev pub unless : Option FrameFault → FrameValue → Result FrameValue FrameFault
unless None value = Ok value
unless (Some fault) value = Err fault

-- what reading a text gives: the first fault, or what it says
abbrev pub read_frame : List ℕ → Result FrameValue FrameFault
read_frame text = unless (fault_of text) (value_in text)
