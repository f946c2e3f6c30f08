-- DATA that comes, chunk by chunk: what each tells goes out before the next is consumed.
use Rattle.std.specs.Prelude.{ℕ, zero, suc, false, not, List, [], ◌∷◌, is_some, if◌then◌else◌}
use Rattle.sctp_receiving.specs.Consuming.{Told, Nothing, Tells, NoStream, Violates}
use Rattle.sctp_receiving.specs.Pieces.{Piece}
use Rattle.sctp_receiving.specs.Receiver.{Step, hear, next_held, take_next, is_violation}
use Rattle.sctp_rules.specs.Settings.{Settings}
use Rattle.sctp_rules.specs.State as state
use Rattle.sctp_rules.specs.State.{State, Heard, silent, followed_by, Done, with_association}
use Rattle.sctp_rules.specs.Ending.{answered}
use Rattle.sctp_rules.specs.Data.{no_stream, violated, told_one}
use Rattle.sctp_rules.specs.Packets.{Handled}

-- what the user is told by a chunk
abbrev pub messages_of : Told → List state.Told
messages_of Nothing = []
messages_of (Tells message) = Heard message ∷ []
messages_of (NoStream stream) = []
messages_of (Violates violation) = []

-- what else it does
abbrev pub answered_by : Settings → Told → State → Done
answered_by c Nothing s = silent s
answered_by c (Tells message) s = silent s
answered_by c (NoStream stream) s = silent (answered (no_stream stream) s)
answered_by c (Violates violation) s = violated c violation s

-- what the receiver did to a chunk, and what it told; a violation is the last
abbrev pub told_step : Settings → Step → State → Handled
told_step c step s = record {
  does = told_one c step.told (with_association s (record s.association { receiver = step.left }));
  goes_on = not (is_violation step.told);
}

abbrev pub heard_piece : Settings → (tsn : ℕ) → Piece → State → Handled
heard_piece c tsn piece s = told_step c (hear s.association.receiver tsn piece) s

-- the next chunk, if it is held
abbrev pub told_next : Settings → State → Handled
told_next c s =
    if is_some (next_held s.association.receiver)
    then told_step c (take_next s.association.receiver) s
    else record { does = silent s; goes_on = false }

-- one after another
abbrev pub and_on : Handled → (State → Done) → Done
and_on handled rest = if handled.goes_on then followed_by handled.does rest else handled.does

unfoldable pub told_held : Settings → (most : ℕ) → State → Done
told_held c zero s = silent s
told_held c (suc most) s = and_on (told_next c s) (λ left. told_held c most left)
