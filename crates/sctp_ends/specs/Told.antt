-- What users gave and were told, association by association.
use Rattle.std.specs.Prelude.{List, [], ◌∷◌, ◌++◌, if◌then◌else◌}
use Rattle.sctp_receiving.specs.Pieces as pieces
use Rattle.sctp_sending.specs.Outgoing as outgoing
use Rattle.sctp_rules.specs.State.{State, Told, Up, Heard, Down, Failed}
use Rattle.sctp_rules.specs.Sending.{may_send}
use Rattle.sctp_rules.specs.Endpoint.{Happening, Sends}
use Rattle.sctp_moves.specs.Ends.{Message}

-- a message after those of the latest association
abbrev pub with_last : Message → List (List Message) → List (List Message)
with_last message [] = []
with_last message (latest ∷ past) = (latest ++ message ∷ []) ∷ past

abbrev pub text_told : pieces.Message → Message
text_told m = record { stream = m.stream; protocol = m.protocol; octets = m.octets }

abbrev pub text_given : outgoing.Message → Message
text_given m = record { stream = m.stream; protocol = m.protocol; octets = m.octets }

-- the messages that the user was told in each association, the latest first: each Up begins one
abbrev pub told_by : List (List Message) → List Told → List (List Message)
told_by lists [] = lists
told_by lists (Up ∷ more) = told_by ([] ∷ lists) more
told_by lists (Heard message ∷ more) = told_by (with_last (text_told message) lists) more
told_by lists (Down why ∷ more) = told_by lists more
told_by lists (Failed why ∷ more) = told_by lists more

-- those that the user gave in each
abbrev pub opened_by : List (List Message) → List Told → List (List Message)
opened_by lists [] = lists
opened_by lists (Up ∷ more) = opened_by ([] ∷ lists) more
opened_by lists (Heard message ∷ more) = opened_by lists more
opened_by lists (Down why ∷ more) = opened_by lists more
opened_by lists (Failed why ∷ more) = opened_by lists more

-- a message counts as given if it is taken
abbrev pub given_by : Happening → State → List (List Message) → List (List Message)
given_by (Sends message) s lists = if may_send message s then with_last (text_given message) lists else lists
given_by what s lists = lists
