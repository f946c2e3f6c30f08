-- A capture file, as pcap lays it out: a header, and packets one after another, each after a header of its own. Its
-- packets are those of SCTP, without what carries them.
use Rattle.std.specs.Prelude.{ℕ, ◌+◌, ◌-◌, ◌/◌, ◌%◌, ◌^◌, List, [], ◌∷◌, ◌++◌, length, replicate, Result, Ok, Err}
use Rattle.std.specs.Int.{w16, w32, to_le_bytes, to_be_bytes}
use Rattle.signalling_types.specs.declared.notice.FrameFault.{FrameFault}
use Rattle.m2pa_codec.specs.Frames.{FrameValue, EmptyFrame, MessageFrame, StatusFrame, read_frame}
use Rattle.trace.specs.declared.direction.Direction.{Direction}
use Rattle.trace.specs.declared.direction.Direction.TheVariants.{In, Out}

-- the header of the file: low octet first, times in microseconds, version 2.4, no correction of times, packets of at
-- most 65,535 octets, and link type 248, whose packets begin with the common header of SCTP
abbrev pub file_header : List ℕ
file_header =
    to_le_bytes w32 0xa1b2c3d4 ++ to_le_bytes w16 2 ++ to_le_bytes w16 4 ++ replicate 8 0
    ++ to_le_bytes w32 65535 ++ to_le_bytes w32 248

-- the header of a packet this many nanoseconds after 1970: seconds and microseconds, and twice how many octets it has
abbrev pub record_header : (nanoseconds octets : ℕ) → List ℕ
record_header nanoseconds octets =
    to_le_bytes w32 (nanoseconds / 1_000_000_000 % 2 ^ 32)
    ++ to_le_bytes w32 (nanoseconds % 1_000_000_000 / 1_000)
    ++ to_le_bytes w32 octets ++ to_le_bytes w32 octets

-- the port of this node, that of M2PA
abbrev pub node_port : ℕ
node_port = 3565

-- the port of the far end of a link
abbrev pub far_port : (link : ℕ) → ℕ
far_port link = 4000 + link

abbrev pub source_port : (link : ℕ) → Direction → ℕ
source_port link In = far_port link
source_port link Out = node_port

abbrev pub destination_port : (link : ℕ) → Direction → ℕ
destination_port link In = node_port
destination_port link Out = far_port link

-- the common header of SCTP: both ports, a tag of the link, and no checksum (RFC 9260 §3.1)
abbrev pub common_header : (link : ℕ) → Direction → List ℕ
common_header link direction =
    to_be_bytes w16 (source_port link direction) ++ to_be_bytes w16 (destination_port link direction)
    ++ to_be_bytes w32 (far_port link) ++ replicate 4 0

-- the stream of a frame: 0 for Link Status, 1 for all else
abbrev pub stream_said : Result FrameValue FrameFault → ℕ
stream_said (Ok (EmptyFrame bsn fsn)) = 1
stream_said (Ok (MessageFrame bsn fsn sio sif)) = 1
stream_said (Ok (StatusFrame bsn fsn status)) = 0
stream_said (Err fault) = 1

abbrev pub stream_of : List ℕ → ℕ
stream_of frame = stream_said (read_frame frame)

-- the front of the header of a DATA chunk with a whole message: type 0, flags 3, how many octets the chunk has without
-- its padding, and its transmission sequence number (RFC 9260 §3.3.1)
abbrev pub chunk_front : (octets number : ℕ) → List ℕ
chunk_front octets number = (0 ∷ 3 ∷ []) ++ to_be_bytes w16 octets ++ to_be_bytes w32 number

-- after it: the stream, the number in the stream, and payload protocol 5, that of M2PA (RFC 9260 §3.3.1)
abbrev pub chunk_stream : (stream number : ℕ) → List ℕ
chunk_stream stream number = to_be_bytes w16 stream ++ to_be_bytes w16 number ++ to_be_bytes w32 5

-- the header of the DATA chunk of a frame
abbrev pub chunk_header : (number : ℕ) (frame : List ℕ) → List ℕ
chunk_header number frame =
    chunk_front (16 + length frame) number ++ chunk_stream (stream_of frame) (number % 2 ^ 16)

-- how many octets of padding make this many octets a multiple of four (RFC 9260 §3.2)
abbrev pub padding : ℕ → ℕ
padding octets = (4 - octets % 4) % 4

-- how many octets the packet of a frame of this many has
abbrev pub packet_length : ℕ → ℕ
packet_length octets = 12 + 16 + octets + padding octets

-- a frame as a packet of the file: both headers of SCTP, the frame and its padding after the header of the packet
abbrev pub packet_octets : (nanoseconds link : ℕ) → Direction → (number : ℕ) (frame : List ℕ) → List ℕ
packet_octets nanoseconds link direction number frame =
    record_header nanoseconds (packet_length (length frame))
    ++ common_header link direction ++ chunk_header number frame
    ++ frame ++ replicate (padding (length frame)) 0
