-- The mates of the mated pair are a hop: one set alone leads from each to the other, though two lead to every other
-- point. And a run in which a third point breaks before a message comes from one of the mates to the other.
use Rattle.std.specs.Prelude.{◌≡◌, false, List, [], ◌∷◌, ◌++◌, replicate}
use Rattle.signalling_types.specs.Message.{Message}
use Rattle.exchange_rules.specs.State.{late_any}
use Rattle.node_moves.specs.Hops.{IsHop, AreUnbroken, HaveNoFlag}
use Rattle.node_moves.specs.Laws.{AreTheirs}
use Rattle.node_moves.specs.MatedPair.{mated}
use Rattle.node_moves.specs.MatedRun.{cross, delivered, direct, fails, sends, served, submits, users, users_in}
use Rattle.node_moves.specs.Networks.{NetworkState, Step, Releases, Ticks, after_steps}

-- a message of the ISDN user part from point 1 to point 2
abbrev pub message_three : Message
message_three = record { sio = 133; sif = 2 ∷ 64 ∷ 0 ∷ 0 ∷ 9 ∷ [] }

-- the only link between points 1 and 3 fails; T2 runs out at point 3, and the operator there releases the bar
abbrev pub breaking : List Step
breaking =
    fails direct
    ++ replicate 9 (record { point = 3; what = Ticks })
    ++ record { point = 3; what = Releases 0 } ∷ []

-- the message is on its way then, and comes
abbrev pub come_over : NetworkState
come_over = after_steps mated (submits message_three ∷ breaking ++ sends cross) served

pub record MatesAreAHop : Type 0 where
  -- what the law of hops asks
  pub theirs : AreTheirs mated
  pub hop : IsHop mated 1 2
  pub whole : AreUnbroken mated 1 2 come_over
  -- and neither of the two has raised its flag of losses, nor point 1 that of lateness
  pub lossless : HaveNoFlag mated 1 2 come_over
  pub punctual : late_any (come_over.node 1).node.parts ≡ false
  -- point 3 is broken
  pub broken : (come_over.node 3).node.parts.times_broken ≡ 1
  -- point 1 accepted the message, and it came to point 2, once
  pub accepted : users (come_over.node 1).accepted ≡ message_three ∷ []
  pub comes : users_in ((come_over.node 2).came 2) ≡ delivered message_three ∷ []
