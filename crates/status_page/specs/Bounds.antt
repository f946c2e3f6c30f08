-- How long a client of the page may take, and how much it is answered.
use Rattle.std.specs.Prelude.{ℕ, ◌+◌, ◌-◌, ◌^◌, ◌/◌, min, Bool, ◌||◌, not, nat_lt, nat_eq, if◌then◌else◌}
use Rattle.http1.specs.declared.conn.Limits.{Limits}
use Rattle.http_server.specs.declared.state.Config.{Config}
use Rattle.status_page.specs.declared.patience.TheConstants.{REQUEST_MS, IDLE_MS, ANSWERS_A_SECOND}
use Rattle.status_page.specs.declared.patience.Patience.{Patience}
use Rattle.status_page.specs.declared.patience.Allowance.{Allowance}

-- the octets of a request's head, at most
abbrev pub head_bounds : Limits
head_bounds = record { max_head_len = 8192; max_extensions_len = 0; max_trailers_len = 0 }

-- the bounds of a connection: such a head, no body, and no further request before the answer went out; a read has room
-- for at least 1,024 octets
abbrev pub connection_bounds : Config
connection_bounds = record { limits = head_bounds; max_body_len = 0; max_pending = 0; read_size = 1024 }

-- this many milliseconds later, in 64 bits
abbrev pub later : (now milliseconds : ℕ) → ℕ
later now milliseconds = min (now + milliseconds) (2 ^ 64 - 1)

-- a client that just came has this long for its first request, and for its answer to be taken
abbrev pub begun : (now : ℕ) → Patience
begun now = record { until_ms = later now REQUEST_MS }

-- a client whose answer went out has this long for the next
abbrev pub answered : (now : ℕ) → Patience
answered now = record { until_ms = later now IDLE_MS }

-- whether its time is over
abbrev pub is_over : (now : ℕ) → Patience → Bool
is_over now p = not (nat_lt now p.until_ms)

-- whether one more request may be answered in the second of this time: in a new second, or while few were in this one
abbrev pub may_answer : (now : ℕ) → Allowance → Bool
may_answer now a = not (nat_eq a.second (now / 1000)) || nat_lt a.answers ANSWERS_A_SECOND

-- no request was answered yet
abbrev pub none_answered : Allowance
none_answered = record { second = 0; answers = 0 }

-- a request is answered
abbrev pub counted : (now : ℕ) → Allowance → Allowance
counted now a =
    if nat_eq a.second (now / 1000)
    then record a { answers = min (a.answers + 1) (2 ^ 32 - 1) }
    else record { second = now / 1000; answers = 1 }
