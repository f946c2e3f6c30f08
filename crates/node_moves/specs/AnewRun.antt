-- The mates of the mated pair once more: one of them starts again with a message for the other, which is lost. Once T1
-- ran out at the other, nothing is left between the two; their link opens again, and the next message comes.
use Rattle.std.specs.Prelude.{◌≡◌, List, [], ◌∷◌, ◌++◌, map, replicate}
use Rattle.signalling_types.specs.Message.{Message}
use Rattle.node_moves.specs.Anew.{Change, Does, Restarts, AreUnbrokenSince, HaveLostNothingSince, NothingIsLeft, Stays}
use Rattle.node_moves.specs.Anew.{after_changes, begun_anew}
use Rattle.node_moves.specs.Hops.{IsHop, AreUnbroken}
use Rattle.node_moves.specs.HopRun.{message_three}
use Rattle.node_moves.specs.MatedPair.{mated}
use Rattle.node_moves.specs.MatedRun.{aligns, cross, delivered, done_at, opening, sends, serves, settling, submits}
use Rattle.node_moves.specs.MatedRun.{turned, users, users_in}
use Rattle.node_moves.specs.Networks.{NetworkState, Step, Loses, Ticks, first_network}
use Rattle.node_moves.specs.Outside.{ArePlaced}

-- another message of the ISDN user part from point 1 to point 2
abbrev pub message_four : Message
message_four = record { sio = 133; sif = 2 ∷ 64 ∷ 0 ∷ 0 ∷ 10 ∷ [] }

-- point 1 starts again with the message on its link to point 2; there the association is lost, and T1 runs out
abbrev pub outage : List Step
outage = done_at cross.there Loses ∷ replicate 9 (record { point = 2; what = Ticks })

abbrev pub restarting : List Change
restarting =
    map Does (opening ++ settling) ++ map Does (submits message_three ∷ []) ++ Restarts 1 ∷ map Does outage

abbrev pub over : NetworkState
over = after_changes mated restarting (first_network mated)

-- the link between the two enters service again
abbrev pub return : List Step
return =
    aligns cross ++ record { point = 1; what = Ticks } ∷ record { point = 2; what = Ticks }
    ∷ serves cross ++ sends cross ++ sends (turned cross) ++ sends cross ++ sends (turned cross)

-- and the next message goes over it
abbrev pub next : List Step
next = submits message_four ∷ sends cross ++ sends cross

abbrev pub come_anew : NetworkState
come_anew = after_changes mated (map Does (return ++ next)) (begun_anew over)

pub record BeginsAnew : Type 0 where
  -- what the law asks
  pub theirs : ArePlaced mated
  pub hop : IsHop mated 1 2
  pub left : NothingIsLeft mated 1 2 over
  pub unbroken : AreUnbrokenSince 1 2 over come_anew
  pub none_lost : HaveLostNothingSince 1 2 over come_anew
  -- and no hold is ended by time at point 1
  pub punctual : Stays (over.node 1).node.parts.times_late (come_anew.node 1).node.parts.times_late
  -- the message was accepted, came nowhere, and nobody named it, though neither of the two counts a break
  pub accepted_before : users (over.node 1).accepted ≡ message_three ∷ []
  pub none_came : users_in ((over.node 2).came 2) ≡ []
  pub unnamed : (over.node 1).named ≡ []
  pub whole : AreUnbroken mated 1 2 over
  -- the next one is accepted, and comes, once
  pub accepted : users (come_anew.node 1).accepted ≡ message_four ∷ []
  pub comes : users_in ((come_anew.node 2).came 2) ≡ delivered message_four ∷ []
