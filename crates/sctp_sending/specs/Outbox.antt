-- The messages on their way, and what is done to one of them.
use Rattle.std.specs.Prelude.{ℕ, ◌+◌, ◌-◌, false, List, take, drop, slice_set, sum_by}
use Rattle.sctp_sending.specs.Outgoing.{Outgoing, outgoing_at, gone_out, under_way_of, newly_confirmed_of}

-- all that was given and isn't confirmed, in order; the first `went` of them went out
pub record Outbox : Type 0 where
  pub out : List Outgoing
  pub went : ℕ

-- the octets under way
abbrev pub under_way_in : Outbox → ℕ
under_way_in b = sum_by under_way_of (take b.went b.out)

-- the message at an index is changed
abbrev pub changed : Outbox → ℕ → (Outgoing → Outgoing) → Outbox
changed b place f = record { out = slice_set b.out place (f (outgoing_at b.out place)); went = b.went }

-- the first message that didn't go out yet does
abbrev pub put_out_first : Outbox → Outbox
put_out_first b = record { out = slice_set b.out b.went (gone_out false (outgoing_at b.out b.went)); went = b.went + 1 }

-- the first messages leave
abbrev pub without_first : Outbox → ℕ → Outbox
without_first b count = record { out = drop count b.out; went = b.went - count }

-- the octets that confirming the first messages adds
abbrev pub newly_confirmed_in : Outbox → ℕ → ℕ
newly_confirmed_in b count = sum_by newly_confirmed_of (take count b.out)
