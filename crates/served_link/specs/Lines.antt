-- The lines that show counters.
use Rattle.std.specs.Prelude.{ℕ, ◌++◌, List, codes, decimal}
use Rattle.signalling_types.specs.Causes.{cause_name}
use Rattle.signalling_types.specs.Notices.{failure_name}
use Rattle.served_link.specs.declared.datagrams.DatagramCounters.{DatagramCounters}
use Rattle.served_link.specs.declared.counter.Counter.{Counter}
use Rattle.served_link.specs.declared.counter.Counter.TheVariants.{FramesIn, OctetsIn, FramesOut, OctetsOut}
use Rattle.served_link.specs.declared.counter.Counter.TheVariants.{Forwarded, Delivered, Refused, Failed, Retries}
use Rattle.served_link.specs.declared.counter.Counter.TheVariants.{Setbacks, Retransmissions}
use Rattle.served_link.specs.declared.setback.Setback.{Setback}
use Rattle.served_link.specs.declared.setback.Setback.TheVariants.{OtherPort, TooMany, WithoutTag, HostName}
use Rattle.served_link.specs.declared.setback.Setback.TheVariants.{FewStreams, Unwanted, NoTagLeft, ShuttingDown}
use Rattle.served_link.specs.declared.setback.Setback.TheVariants.{WithoutCookie, LongCookie, EndedByPeer}
use Rattle.served_link.specs.declared.setback.Setback.TheVariants.{Unanswered, BadAnswer, EndedByNode}

-- why INITs are refused, and why tries fail: the words of the log
abbrev pub setback_name : Setback → List ℕ
setback_name OtherPort = codes "other_port"
setback_name TooMany = codes "too_many"
setback_name WithoutTag = codes "without_tag"
setback_name HostName = codes "host_name"
setback_name FewStreams = codes "few_streams"
setback_name Unwanted = codes "unwanted"
setback_name NoTagLeft = codes "no_tag_left"
setback_name ShuttingDown = codes "shutting_down"
setback_name WithoutCookie = codes "without_cookie"
setback_name LongCookie = codes "long_cookie"
setback_name EndedByPeer = codes "peer"
setback_name Unanswered = codes "silence"
setback_name BadAnswer = codes "framing"
setback_name EndedByNode = codes "node"

abbrev pub setback_kind : Setback → List ℕ
setback_kind OtherPort = codes "inits_"
setback_kind TooMany = codes "inits_"
setback_kind WithoutTag = codes "inits_"
setback_kind HostName = codes "inits_"
setback_kind FewStreams = codes "inits_"
setback_kind Unwanted = codes "inits_"
setback_kind NoTagLeft = codes "inits_"
setback_kind ShuttingDown = codes "inits_"
setback_kind WithoutCookie = codes "inits_"
setback_kind LongCookie = codes "inits_"
setback_kind EndedByPeer = codes "tries_"
setback_kind Unanswered = codes "tries_"
setback_kind BadAnswer = codes "tries_"
setback_kind EndedByNode = codes "tries_"

abbrev pub counter_name : Counter → List ℕ
counter_name FramesIn = codes "frames_in"
counter_name OctetsIn = codes "octets_in"
counter_name FramesOut = codes "frames_out"
counter_name OctetsOut = codes "octets_out"
counter_name Forwarded = codes "forwarded"
counter_name Delivered = codes "delivered"
counter_name (Refused cause) = codes "refused_" ++ cause_name cause
counter_name (Failed reason) = codes "failed_" ++ failure_name reason
counter_name Retries = codes "retries"
counter_name (Setbacks setback) = setback_kind setback ++ setback_name setback
counter_name Retransmissions = codes "retransmissions"

abbrev pub counter_line : Counter → (link : List ℕ) → (value : ℕ) → List ℕ
counter_line counter link value =
    codes "counter " ++ counter_name counter ++ codes " " ++ link ++ codes " " ++ decimal value

-- the line of a counter of the node's datagrams, and its line feed
abbrev pub datagram_line : (name : List ℕ) → (value : ℕ) → List ℕ
datagram_line name value = codes "counter " ++ name ++ codes " " ++ decimal value ++ codes "\n"

-- the lines of all of them
abbrev pub datagrams_text : DatagramCounters → List ℕ
datagrams_text d =
    datagram_line (codes "datagrams_in") d.incoming ++ datagram_line (codes "datagrams_out") d.outgoing
    ++ datagram_line (codes "strangers") d.strangers
