-- How many INITs of a link are answered.
use Rattle.std.specs.Prelude.{◌≡◌, ◌≤◌, ℕ, ◌+◌, ◌-◌, ◌*◌, Bool, nat_lt, if◌then◌else◌, List, [], ◌∷◌, length, min}
use Rattle.sctp_links.specs.declared.allowance.Allowance.{Allowance}
use Rattle.sctp_links.specs.declared.allowance.TheConstants.{INITS_A_MILLISECOND, MOST_INITS}

-- none came yet
abbrev pub full : Allowance
full = record { left = MOST_INITS; since = 0 }

-- how many are left: it grows with time, up to the most
abbrev pub left_at : (now : ℕ) → Allowance → ℕ
left_at now a = min (a.left + INITS_A_MILLISECOND * (now - a.since)) MOST_INITS

-- whether one that comes now is answered
abbrev pub may_answer : (now : ℕ) → Allowance → Bool
may_answer now a = nat_lt 0 (left_at now a)

-- one came: it took one, if it was answered
abbrev pub after_init : (now : ℕ) → Allowance → Allowance
after_init now a = record { left = left_at now a - 1; since = now }

-- how many are answered of those that come at these times
abbrev pub answered : Allowance → (times : List ℕ) → ℕ
answered a [] = 0
answered a (now ∷ more) = (if may_answer now a then 1 else 0) + answered (after_init now a) more

-- times that don't go back, from this one on, and how many milliseconds they take
abbrev pub AreInOrder : (from : ℕ) → (times : List ℕ) → Type 0
AreInOrder from [] = Unit
AreInOrder from (now ∷ more) = (from ≤ now) × AreInOrder now more

abbrev pub lasting : (from : ℕ) → (times : List ℕ) → ℕ
lasting from [] = 0
lasting from (now ∷ more) = (now - from) + lasting now more

-- in a time no more are answered than were left at its start and grew in it
abbrev pub answers_are_bounded : Type 0
answers_are_bounded =
    (a : Allowance) (times : List ℕ) → AreInOrder a.since times →
    answered a times ≤ a.left + INITS_A_MILLISECOND * lasting a.since times

-- and all are answered that are no more than were left
abbrev pub few_are_answered : Type 0
few_are_answered =
    (a : Allowance) (times : List ℕ) → AreInOrder a.since times → a.left ≤ MOST_INITS → length times ≤ a.left →
    answered a times ≡ length times
