-- What a script prints.
use Rattle.std.specs.Prelude.{ℕ, ◌++◌, List, codes, decimal}
use Rattle.hex.specs.Hex.{encode_lower}
use Rattle.signalling_types.specs.Causes.{cause_number, cause_name}
use Rattle.exchange_rules.specs.declared.wants.Wants.{Wants}
use Rattle.exchange_rules.specs.declared.wants.Wants.TheVariants.{Nothing, Open, Close}
use Rattle.signalling_types.specs.declared.outcome.Outcome.{Outcome}
use Rattle.signalling_types.specs.declared.outcome.Outcome.TheVariants.{Queued, Held, Local, Handled, Ignored, Refused}

-- the line of an outcome, with the name of the link that it names, if any
abbrev pub outcome_line : List ℕ → Outcome → List ℕ
outcome_line name (Queued link) = codes "queued " ++ name ++ codes "\n"
outcome_line name Held = codes "held\n"
outcome_line name Local = codes "local\n"
outcome_line name Handled = codes "handled\n"
outcome_line name Ignored = codes "ignored\n"
outcome_line name (Refused cause) =
    codes "refused " ++ decimal (cause_number cause) ++ codes " " ++ cause_name cause ++ codes "\n"

-- the line of a frame that goes out on a link
abbrev pub frame_line : List ℕ → List ℕ → List ℕ
frame_line name octets = codes "frame " ++ name ++ codes " " ++ encode_lower octets ++ codes "\n"

-- the line of what a link asks of its caller
abbrev pub wants_line : Wants → List ℕ
wants_line Nothing = codes "nothing\n"
wants_line Open = codes "open\n"
wants_line Close = codes "close\n"

-- if no frame goes out
abbrev pub none_line : List ℕ
none_line = codes "none\n"

-- a line of the script that is malformed, too long, or without its end
abbrev pub line_fault : ℕ → List ℕ
line_fault number = codes "fault " ++ decimal number ++ codes "\n"
