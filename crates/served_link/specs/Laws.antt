-- What holds of the counters after anything was counted: each is the sum of what was added to it.
use Rattle.std.specs.Prelude.{◌≡◌, ℕ, ◌<◌, ◌==◌, Bool, true, false, if◌then◌else◌, List, [], ◌∷◌, replicate, sum_by}
use Rattle.signalling_types.specs.Causes.{cause_number}
use Rattle.signalling_types.specs.declared.cause.Cause.{Cause}
use Rattle.signalling_types.specs.declared.outcome.Outcome.{Outcome}
use Rattle.signalling_types.specs.declared.outcome.Outcome.TheVariants.{Queued, Held, Local, Refused}
use Rattle.served_link.specs.Counting.{Counted, FrameCame, FrameWent, Failure, Retry, WasSetBack, WentAgain}
use Rattle.served_link.specs.Counting.{reason_number, setback_number, saturated}
use Rattle.served_link.specs.Counting.{no_counts, counted, row_counted_at, row_at, value_of}
use Rattle.served_link.specs.declared.counter.Counter.{Counter}
use Rattle.served_link.specs.declared.counter.Counter.TheVariants.{FramesIn, OctetsIn, FramesOut, OctetsOut}
use Rattle.served_link.specs.declared.counter.Counter.TheVariants.{Forwarded, Delivered, Refused as RefusedBy, Failed}
use Rattle.served_link.specs.declared.counter.Counter.TheVariants.{Retries, Setbacks, Retransmissions}
use Rattle.served_link.specs.declared.row.LinkCounters.{LinkCounters}

-- ---- how much is added

-- a user message that was queued or held is forwarded
abbrev pub is_forwarded : (has_user_message : Bool) → Outcome → Bool
is_forwarded has_user_message (Queued link) = has_user_message
is_forwarded has_user_message Held = has_user_message
is_forwarded has_user_message outcome = false

-- a message for this node was delivered
abbrev pub is_delivered : Outcome → Bool
is_delivered Local = true
is_delivered outcome = false

-- it was refused for this cause
abbrev pub is_refused_by : Cause → Outcome → Bool
is_refused_by cause (Refused other) = cause_number other == cause_number cause
is_refused_by cause outcome = false

abbrev pub one_if : Bool → ℕ
one_if true = 1
one_if false = 0

-- what a frame that came in adds to a counter
abbrev pub frame_adds : Counter → (octets : ℕ) → (has_user_message : Bool) → Outcome → ℕ
frame_adds FramesIn octets has_user_message outcome = 1
frame_adds OctetsIn octets has_user_message outcome = octets
frame_adds Forwarded octets has_user_message outcome = one_if (is_forwarded has_user_message outcome)
frame_adds Delivered octets has_user_message outcome = one_if (is_delivered outcome)
frame_adds (RefusedBy cause) octets has_user_message outcome = one_if (is_refused_by cause outcome)
frame_adds counter octets has_user_message outcome = 0

-- what one thing that is counted adds to a counter
abbrev pub adds : Counter → Counted → ℕ
adds counter (FrameCame octets has_user_message outcome) = frame_adds counter octets has_user_message outcome
adds FramesOut (FrameWent octets) = 1
adds OctetsOut (FrameWent octets) = octets
adds counter (FrameWent octets) = 0
adds (Failed reason) (Failure other) = one_if (reason_number other == reason_number reason)
adds counter (Failure other) = 0
adds Retries Retry = 1
adds counter Retry = 0
adds (Setbacks setback) (WasSetBack other) = one_if (setback_number other == setback_number setback)
adds counter (WasSetBack other) = 0
adds Retransmissions (WentAgain chunks) = chunks
adds counter (WentAgain chunks) = 0

-- ---- of many

-- the counters of a link after some things are counted for it
abbrev pub counted_each : List Counted → LinkCounters → LinkCounters
counted_each [] row = row
counted_each (what ∷ more) row = counted_each more (counted what row)

-- the counters of all links after some things are counted, each of its link
abbrev pub counted_all : List (ℕ × Counted) → List LinkCounters → List LinkCounters
counted_all [] rows = rows
counted_all (entry ∷ more) rows = counted_all more (row_counted_at entry.0 entry.1 rows)

abbrev pub adds_of : (link : ℕ) → Counter → ℕ × Counted → ℕ
adds_of link counter entry = if entry.0 == link then adds counter entry.1 else 0

-- ---- the laws

-- each counter of a link is the sum of what was added to it, or 2^64 - 1 if the sum is above
abbrev pub counters_are_sums : Type 0
counters_are_sums = (counter : Counter) (whats : List Counted)
    → value_of counter (counted_each whats no_counts) ≡ saturated (sum_by (adds counter) whats)

-- so is each counter of each link, for what was counted for that link
abbrev pub counters_of_links_are_sums : Type 0
counters_of_links_are_sums = (links link : ℕ) (counter : Counter) (whats : List (ℕ × Counted)) → link < links
    → value_of counter (row_at (counted_all whats (replicate links no_counts)) link)
    ≡ saturated (sum_by (adds_of link counter) whats)
