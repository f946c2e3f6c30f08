-- What a message says to the nodes of a network (Q.704 §5, with the numbers of Q.2210). Orders and answers are words.
use Rattle.std.specs.Prelude.{ℕ, Bool, true, false, not, ◌&&◌, ◌||◌, nat_eq}
use Rattle.signalling_types.specs.Message.{Message}

-- the two ends of a link; which is called near doesn't matter
pub data Side : Type 0 where
  Near : Side
  Far : Side

abbrev pub opposite : Side → Side
opposite Near = Far
opposite Far = Near

abbrev pub same_side : Side → Side → Bool
same_side Near Near = true
same_side Near Far = false
same_side Far Near = false
same_side Far Far = true

pub data Saying : Type 0 where
  -- nothing to a node's management: it is for a user part
  UserMessage : Saying
  -- changeover order (XCO) about a link, made at one of its ends: the number of the last message accepted there. Its
  -- OPC and SLC name both, whatever links it goes by
  Order : (link : ℕ) (maker : Side) (number : ℕ) → Saying
  -- changeover acknowledgement (XCA) about a link, likewise
  Answer : (link : ℕ) (maker : Side) (number : ℕ) → Saying
  -- management of another kind, of which no law speaks
  Other : Saying

abbrev pub is_user_message : Saying → Bool
is_user_message UserMessage = true
is_user_message (Order link maker number) = false
is_user_message (Answer link maker number) = false
is_user_message Other = false

-- whether an end of a link is this one
abbrev pub is_end : ℕ → Side → ℕ → Side → Bool
is_end link side other_link other = nat_eq other_link link && same_side other side

-- the words that end an end's wait, or will be answered by one that does: its own order, and the other end's answer
abbrev pub is_awaited_by : ℕ → Side → Saying → Bool
is_awaited_by link side UserMessage = false
is_awaited_by link side (Order about maker number) = is_end link side about maker
is_awaited_by link side (Answer about maker number) = is_end link side about (opposite maker)
is_awaited_by link side Other = false

-- a word of an end is untrue if the link is up there, or if it has another number than that of the last message
-- accepted there
abbrev pub is_untrue : (link : ℕ) (side : Side) (up : Bool) (last_accepted : ℕ) → Saying → Bool
is_untrue link side up last_accepted UserMessage = false
is_untrue link side up last_accepted (Order about maker number) =
    is_end link side about maker && (up || not (nat_eq number last_accepted))
is_untrue link side up last_accepted (Answer about maker number) =
    is_end link side about maker && (up || not (nat_eq number last_accepted))
is_untrue link side up last_accepted Other = false

-- messages of which what they say passes a test
abbrev pub saying : (Message → Saying) → (Saying → Bool) → Message → Bool
saying read test m = test (read m)

-- user messages that pass a test
abbrev pub user : (Message → Saying) → (Message → Bool) → Message → Bool
user read test m = is_user_message (read m) && test m
