-- For how long links and sets were unavailable, and how often they became so (Q.752).
use Rattle.std.specs.Prelude.{ℕ, ◌+◌, ◌-◌, Bool, true, false, List, replicate, slice_index_or, slice_set, Option, None, Some}
use Rattle.served_link.specs.Saturating.{saturated}
use Rattle.served_link.specs.declared.unavailable.Unavailable.{Unavailable}

-- as a node starts nothing is available, and hasn't been
abbrev pub first_unavailable : Unavailable
first_unavailable = record { since_ms = Some 0; before_ms = 0; times = 0 }

abbrev pub all_unavailable : (count : ℕ) → List Unavailable
all_unavailable count = replicate count first_unavailable

-- for how long something lasts that is there since then, if it is
abbrev pub lasted : (now : ℕ) → Option ℕ → ℕ
lasted now None = 0
lasted now (Some since) = now - since

-- for how long it was unavailable by now, all in all
abbrev pub unavailable_by : (now : ℕ) → Unavailable → ℕ
unavailable_by now u = saturated (u.before_ms + lasted now u.since_ms)

-- it was found unavailable: it is since then, and once more so, if it wasn't before
abbrev pub began : (now : ℕ) → (since : Option ℕ) → Unavailable → Unavailable
began now (Some since) u = u
began now None u = record { since_ms = Some now; before_ms = u.before_ms; times = saturated (u.times + 1) }

-- it was found available, or not
abbrev pub unavailable_after : (is_available : Bool) → (now : ℕ) → Unavailable → Unavailable
unavailable_after true now u = record { since_ms = None; before_ms = unavailable_by now u; times = u.times }
unavailable_after false now u = began now u.since_ms u

-- those of all, after a look at one of them
abbrev pub looked_at : (number : ℕ) → (is_available : Bool) → (now : ℕ) → List Unavailable → List Unavailable
looked_at number is_available now all =
    slice_set all number (unavailable_after is_available now (slice_index_or all number first_unavailable))
