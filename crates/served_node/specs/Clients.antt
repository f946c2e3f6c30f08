-- A client of the console.
use Rattle.std.specs.Prelude.{◌≡◌, ℕ, ◌-◌, ◌≢◌, Bool, true, false, List, [], ◌==◌, if◌then◌else◌, length}
use Rattle.std.specs.Prelude.{slice_index_or, take, All}
use Rattle.served_node.specs.Answers.{Waiting}
use Rattle.served_node.specs.declared.console_session.client.News.{News}
use Rattle.served_node.specs.declared.console_session.client.News.TheVariants.{Message, Notice, Frame}

-- the octets of its line that isn't whole yet, whether that is its first one, what waits to be written to it, and what
-- it asked to be told
pub record ClientState : Type 0 where
  pub line : List ℕ
  pub is_first : Bool
  pub outbox : Waiting
  pub sees_messages : Bool
  pub sees_notices : Bool
  pub sees_frames : Bool

-- it wrote nothing yet, nothing waits for it, and it asked to be told nothing
abbrev pub just_came : ClientState
just_came = record {
  line = [];
  is_first = true;
  outbox = record { octets = []; failures = 0 };
  sees_messages = false;
  sees_notices = false;
  sees_frames = false;
}

-- whether it asked to be told such news
abbrev pub sees_of : ClientState → News → Bool
sees_of client Message = client.sees_messages
sees_of client Notice = client.sees_notices
sees_of client Frame = client.sees_frames

-- it is told such news from now on
abbrev pub told_of : ClientState → News → ClientState
told_of client Message = record client { sees_messages = true }
told_of client Notice = record client { sees_notices = true }
told_of client Frame = record client { sees_frames = true }

-- it is told no news from now on
abbrev pub untold : ClientState → ClientState
untold client = record client { sees_messages = false; sees_notices = false; sees_frames = false }

-- its next line isn't its first
abbrev pub begun : ClientState → ClientState
begun client = record client { is_first = false }

-- nothing of it changes but what waits for it
abbrev pub OnlyOutboxChanges : (old new : ClientState) → Type 0
OnlyOutboxChanges old new = new ≡ record old { outbox = new.outbox }

-- what ends a line, and what may come before that
abbrev pub line_feed : ℕ
line_feed = 10

abbrev pub carriage_return : ℕ
carriage_return = 13

-- none of these octets ends a line
abbrev pub EndsNoLine : List ℕ → Type 0
EndsNoLine octets = All (λ (octet : ℕ). octet ≢ line_feed) octets

-- none of them but the last
abbrev pub IsOneLine : List ℕ → Type 0
IsOneLine octets = EndsNoLine (take (length octets - 1) octets)

-- a line without the carriage return at its end, if it has one
abbrev pub without_return : List ℕ → List ℕ
without_return line =
    if slice_index_or line (length line - 1) 0 == carriage_return then take (length line - 1) line else line
