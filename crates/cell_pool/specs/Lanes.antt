-- Numbered lists of messages, under one limit on all user messages and one on all management messages.
use Rattle.std.specs.Prelude.{◌≡◌, ℕ, Bool, ◌&&◌, List, [], ◌∷◌, ◌++◌, Option, Some, None, drop, count_by, sum_by}
use Rattle.std.specs.Prelude.{nat_le, not, if◌then◌else◌, slice_index_or, slice_set}
use Rattle.signalling_types.specs.Message.{Message, is_management}
use Rattle.signalling_types.specs.declared.cause.Cause.{Cause}
use Rattle.signalling_types.specs.declared.limits.TheConstants.Limits.{MANAGEMENT_MESSAGES}
use Rattle.signalling_types.specs.declared.cause.Cause.TheVariants.{PoolFull, ManagementFull}

-- how many management messages a list has; every other message is a user message
abbrev pub managements_in : List Message → ℕ
managements_in ms = count_by is_management ms

abbrev pub users_in : List Message → ℕ
users_in ms = count_by (λ m. not (is_management m)) ms

-- a user message that a choice takes
abbrev pub is_user_picked : (Message → Bool) → Message → Bool
is_user_picked picks m = not (is_management m) && picks m

-- how many of each are in all lists together
abbrev pub managements : List (List Message) → ℕ
managements lists = sum_by managements_in lists

abbrev pub users : List (List Message) → ℕ
users lists = sum_by users_in lists

-- why one more message is refused, if it is: there are as many of its kind as there may be
abbrev pub push_refusal : ℕ → List (List Message) → Message → Option Cause
push_refusal pool lists m =
    if is_management m
    then (if nat_le MANAGEMENT_MESSAGES (managements lists) then Some ManagementFull else None)
    else (if nat_le pool (users lists) then Some PoolFull else None)

-- one list of them
abbrev pub lane_at : List (List Message) → ℕ → List Message
lane_at lists lane = slice_index_or lists lane []

-- a message at the end of a list
abbrev pub pushed : List (List Message) → ℕ → Message → List (List Message)
pushed lists lane m = slice_set lists lane (lane_at lists lane ++ m ∷ [])

-- a list without its first messages
abbrev pub dropped : List (List Message) → ℕ → ℕ → List (List Message)
dropped lists lane count = slice_set lists lane (drop count (lane_at lists lane))

-- as many messages of each kind in all lists together
pub record HasAsMany (old new : List (List Message)) : Type 0 where
  pub users : users new ≡ users old
  pub managements : managements new ≡ managements old
