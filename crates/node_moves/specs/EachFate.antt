-- Each user message has its fate at each node to which it comes, whatever was lost or broken, however often nodes have
-- started again, and whatever comes by links that lead out.
use Rattle.std.specs.Prelude.{ℕ, List}
use Rattle.settings.specs.Configuration.{Configuration}
use Rattle.node_moves.specs.Anew.{Change, after_changes}
use Rattle.node_moves.specs.Fates.{TakesEachIn}
use Rattle.node_moves.specs.Networks.{first_network}

-- after every list of changes. (A restart leaves what was booked)
abbrev pub each_message_has_its_fate : Type 0
each_message_has_its_fate =
    (settings : (point : ℕ) → Configuration) (changes : List Change) (point : ℕ) →
    TakesEachIn settings (after_changes settings changes (first_network settings)) point
