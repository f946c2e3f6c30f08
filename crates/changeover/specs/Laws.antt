-- What holds of a completion.
use Rattle.std.specs.Prelude.{◌≡◌, ℕ, ◌-◌, [], ◌++◌, take, drop, Option, Some, None}
use Rattle.link.specs.Queue.{Queue, IsQueue, Names}
use Rattle.changeover.specs.Changeover.{users_of, accepted_count, moved, lost}

-- how many messages are confirmed in the end
abbrev pub count_in_the_end : Queue → Option ℕ → ℕ
count_in_the_end q (Some n) = n
count_in_the_end q None = q.confirmed

abbrev pub confirmed_in_the_end : Queue → Option ℕ → ℕ
confirmed_in_the_end q number = count_in_the_end q (accepted_count q number)

-- what is named as lost, then what moves: the user messages after those that are confirmed
abbrev pub lost_then_moved : Type 0
lost_then_moved =
    (window : ℕ) (q : Queue) (number : Option ℕ) → IsQueue window q →
    lost q number ++ moved q number ≡ users_of (drop (confirmed_in_the_end q number) q.all)

-- those that the number confirms, those named as lost and those that move: the user messages that weren't confirmed
abbrev pub each_once : Type 0
each_once =
    (window : ℕ) (q : Queue) (number : Option ℕ) → IsQueue window q →
    users_of (take (confirmed_in_the_end q number - q.confirmed) (drop q.confirmed q.all))
    ++ (lost q number ++ moved q number)
    ≡ users_of (drop q.confirmed q.all)

-- a number that names a count
abbrev pub none_lost : Type 0
none_lost =
    (window : ℕ) (q : Queue) (number n : ℕ) → IsQueue window q →
    Names q number n → lost q (Some number) ≡ []
