-- The notices of a node as its page has seen them.
use Rattle.std.specs.Prelude.{ℕ, ◌+◌, ◌-◌, ◌^◌, ◌%◌, min, List, [], ◌∷◌, drop, length, replicate, slice_index, slice_set}
use Rattle.signalling_types.specs.declared.limits.TheConstants.Limits.{NOTICES}
use Rattle.signalling_types.specs.declared.notice.Notice.{Notice}
use Rattle.signalling_types.specs.declared.notice.Notice.TheVariants as notices
use Rattle.exchange_rules.specs.State.{Noted, made_since}
use Rattle.served_link.specs.Counting.{saturated}
use Rattle.status_page.specs.declared.noticed.NoticeKind.{NoticeKind}
use Rattle.status_page.specs.declared.noticed.NoticeKind.TheVariants.{Refused, Frame, Failed, Lost, Unsent, Expired}
use Rattle.status_page.specs.declared.noticed.NoticeKind.TheVariants.{Unbarred, Late, Missed}
use Rattle.status_page.specs.declared.noticed.NoticeLog.{NoticeLog}
use Rattle.status_page.specs.declared.noticed.TheConstants.{NOTICE_KINDS}

-- what a notice tells of
abbrev pub notice_kind : Notice → NoticeKind
notice_kind (notices.Refused cause link) = Refused
notice_kind (notices.Frame fault link) = Frame
notice_kind (notices.Failed link reason) = Failed
notice_kind (notices.Lost cause point sls) = Lost
notice_kind (notices.Unsent cause point) = Unsent
notice_kind (notices.Expired timer link) = Expired
notice_kind (notices.Unbarred by link) = Unbarred
notice_kind (notices.Late timer number) = Late

abbrev pub kind_place : NoticeKind → ℕ
kind_place Refused = 0
kind_place Frame = 1
kind_place Failed = 2
kind_place Lost = 3
kind_place Unsent = 4
kind_place Expired = 5
kind_place Unbarred = 6
kind_place Late = 7
kind_place Missed = 8

-- there was no notice yet
abbrev pub no_notices : NoticeLog
no_notices = record { count = 0; kinds = replicate NOTICE_KINDS 0; times_ms = replicate NOTICES 0 }

-- how many notices of a kind there were
abbrev pub kind_seen : NoticeKind → NoticeLog → ℕ
kind_seen kind log = slice_index log.kinds (kind_place kind)

-- when the notice of a number was seen
abbrev pub time_of : (number : ℕ) → NoticeLog → ℕ
time_of number log = slice_index log.times_ms (number % NOTICES)

abbrev pub more_of : NoticeKind → ℕ → List ℕ → List ℕ
more_of kind n kinds = slice_set kinds (kind_place kind) (saturated (slice_index kinds (kind_place kind) + n))

-- this many were dropped before they were seen
abbrev pub missed : ℕ → NoticeLog → NoticeLog
missed n log = record log { count = (log.count + n) % 2 ^ 64; kinds = more_of Missed n log.kinds }

-- one came now
abbrev pub seen_one : (now : ℕ) → Notice → NoticeLog → NoticeLog
seen_one now notice log = record {
  count = (log.count + 1) % 2 ^ 64;
  kinds = more_of (notice_kind notice) 1 log.kinds;
  times_ms = slice_set log.times_ms ((log.count + 1) % 2 ^ 64 % NOTICES) now;
}

-- these came now, the oldest first
abbrev pub seen_all : (now : ℕ) → List Notice → NoticeLog → NoticeLog
seen_all now [] log = log
seen_all now (notice ∷ others) log = seen_all now others (seen_one now notice log)

-- of those that came since the last look, how many are kept
abbrev pub fresh : NoticeLog → Noted → ℕ
fresh log n = min (made_since log.count n) (length n.last)

-- a look at the notices of a node: those that are kept came now, and those before them were missed
abbrev pub looked : (now : ℕ) → Noted → NoticeLog → NoticeLog
looked now n log =
    seen_all now (drop (length n.last - fresh log n) n.last) (missed (made_since log.count n - fresh log n) log)
