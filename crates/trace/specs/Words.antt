-- Frames in words.
use Rattle.std.specs.Prelude.{ℕ, List, [], ◌∷◌, ◌++◌, drop, codes, decimal, Option, None, Some, Result, Ok, Err}
use Rattle.hex.specs.Hex.{encode_lower}
use Rattle.signalling_types.specs.declared.notice.FrameFault.{FrameFault}
use Rattle.signalling_types.specs.Message.{Message, service_indicator}
use Rattle.m2pa_codec.specs.declared.status.LinkStatus.{LinkStatus}
use Rattle.m2pa_codec.specs.declared.status.LinkStatus.TheVariants.{Alignment, ProvingNormal, ProvingEmergency, Ready, ProcessorOutage, ProcessorRecovered, Busy, BusyEnded, OutOfService}
use Rattle.m2pa_codec.specs.Frames.{FrameValue, EmptyFrame, MessageFrame, StatusFrame, read_frame}
use Rattle.mtp3_codec.specs.declared.label.Label.{Label}
use Rattle.mtp3_codec.specs.Headings.{label_in}
use Rattle.trace.specs.declared.direction.Direction.{Direction}
use Rattle.trace.specs.declared.direction.Direction.TheVariants.{In, Out}
use Rattle.settings.specs.declared.point.PointFormat.{PointFormat}
use Rattle.settings.specs.Points.{point_text}

abbrev pub direction_word : Direction → List ℕ
direction_word In = codes "in"
direction_word Out = codes "out"

-- the word of a link's state (RFC 4165 §2.3.2)
abbrev pub status_word : LinkStatus → List ℕ
status_word Alignment = codes "alignment"
status_word ProvingNormal = codes "proving-normal"
status_word ProvingEmergency = codes "proving-emergency"
status_word Ready = codes "ready"
status_word ProcessorOutage = codes "processor-outage"
status_word ProcessorRecovered = codes "processor-recovered"
status_word Busy = codes "busy"
status_word BusyEnded = codes "busy-ended"
status_word OutOfService = codes "out-of-service"

-- the numbers of a frame
abbrev pub numbers_words : (fsn bsn : ℕ) → List ℕ
numbers_words fsn bsn = codes " fsn " ++ decimal fsn ++ codes " bsn " ++ decimal bsn

-- octets, in two hexadecimal digits each, after a space; nothing if there are none
abbrev pub octets_words : List ℕ → List ℕ
octets_words [] = []
octets_words (octet ∷ octets) = codes " " ++ encode_lower (octet ∷ octets)

-- a routing label: where a message comes from, where it goes, and its signalling link selection
abbrev pub label_words : PointFormat → Label → List ℕ
label_words points label =
    codes " opc " ++ point_text points label.opc ++ codes " dpc " ++ point_text points label.dpc
    ++ codes " sls " ++ decimal label.sls

-- the service indicator of a message
abbrev pub service_words : Message → List ℕ
service_words m = codes " si " ++ decimal (service_indicator m)

-- a message: its label, its service indicator, and the octets after its label; or all of them if it has no whole label
abbrev pub labelled_words : PointFormat → Message → Option Label → List ℕ
labelled_words points m (Some label) = label_words points label ++ service_words m ++ octets_words (drop 4 m.sif)
labelled_words points m None = codes " no label" ++ service_words m ++ octets_words m.sif

abbrev pub message_words : PointFormat → Message → List ℕ
message_words points m = labelled_words points m (label_in m.sif)

-- what a frame says
abbrev pub value_words : PointFormat → FrameValue → List ℕ
value_words points (EmptyFrame bsn fsn) = numbers_words fsn bsn ++ codes " ack"
value_words points (MessageFrame bsn fsn sio sif) =
    numbers_words fsn bsn ++ message_words points (record { sio = sio; sif = sif })
value_words points (StatusFrame bsn fsn status) = numbers_words fsn bsn ++ codes " status " ++ status_word status

-- what octets say as a frame, or that they are none
abbrev pub said_words : PointFormat → (octets : List ℕ) → Result FrameValue FrameFault → List ℕ
said_words points octets (Ok value) = value_words points value
said_words points octets (Err fault) = codes " malformed" ++ octets_words octets

-- octets that passed as a frame on the link of this name
abbrev pub frame_words : (link : List ℕ) → Direction → PointFormat → (octets : List ℕ) → List ℕ
frame_words link direction points octets =
    link ++ codes " " ++ direction_word direction ++ said_words points octets (read_frame octets)
