-- What is known of streams, how they count their failures, and what a write that stops early leaves written.
use Rattle.std.specs.Prelude.{ℕ, ◌+◌, ◌-◌, ◌^◌, ◌==◌, ◌≤◌, min, List, take, Option, None, Some, Result, Ok, Err}
use Rattle.std.specs.Prelude.{if◌then◌else◌}
use Rattle.std.specs.Io.KnownBytes.{Appends}

-- a source: the octets that reads give from here on, if they are known; how many reads were made, and how many of them
-- failed
pub record Input : Type 0 where
  pub remaining : Option (List ℕ)
  pub reads : ℕ
  pub failures : ℕ

-- a sink: the octets that were written, if they are known, and how many writes failed
pub record Output : Type 0 where
  pub written : Option (List ℕ)
  pub failures : ℕ

-- a count of 64 bits with one more, which stays at its greatest value
abbrev pub counted : ℕ → ℕ
counted n = min (n + 1) (2 ^ 64 - 1)

-- how many calls failed, after one more call: an error counts
abbrev pub failures_after : {A E : Type 0} → ℕ → Result A E → ℕ
failures_after n (Ok x) = n
failures_after n (Err e) = counted n

-- the known octets grew by the first of these, however many
abbrev pub AppendsFirst : Option (List ℕ) → Option (List ℕ) → List ℕ → Type 0
AppendsFirst old new octets = (count : ℕ) × Appends old new (take count octets)

-- the known octets grew by the first of these, however many but at least this many
abbrev pub AppendsAtLeast : (least : ℕ) → Option (List ℕ) → Option (List ℕ) → List ℕ → Type 0
AppendsAtLeast least old new octets = (count : ℕ) × (least ≤ count) × Appends old new (take count octets)

-- which call fails, after one more call: the one after one call fewer, or none any more
abbrev pub plan_after : Option ℕ → Option ℕ
plan_after None = None
plan_after (Some calls) = if calls == 0 then None else Some (calls - 1)

-- octets that are given this many a read, with at most one read to come that fails, after this many others
pub record PlannedSource : Type 0 where
  pub rest : List ℕ
  pub most : ℕ
  pub until_failure : Option ℕ
  pub reads : ℕ
  pub failures : ℕ

-- octets that were written, with at most one write to come that fails, after this many others
pub record PlannedSink : Type 0 where
  pub written : List ℕ
  pub until_failure : Option ℕ
  pub failures : ℕ
