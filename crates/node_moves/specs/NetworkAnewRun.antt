-- The mated pair of `MatedPair` and the points that it transfers for: all four nodes start again, with a message waiting at
-- one of them. So nothing is left at any node; the links open again, and the next message comes.
use Rattle.std.specs.Prelude.{◌≡◌, true, List, [], ◌∷◌, ◌++◌, map}
use Rattle.node_moves.specs.Anew.{Change, Does, Restarts, after_changes, begun_anew}
use Rattle.node_moves.specs.Laws.{AreTheirs, gone_at}
use Rattle.node_moves.specs.MatedPair.{mated}
use Rattle.node_moves.specs.MatedRun.{delivered, direct, message_one, message_two, opening, sends, settling, submits}
use Rattle.node_moves.specs.MatedRun.{users, users_in}
use Rattle.node_moves.specs.Networks.{NetworkState, Step, after_steps, first_network}
use Rattle.node_moves.specs.NetworkAnew.{IsQuietNetwork, NoneBrokenSince, NoneLostSince}

abbrev pub all_restart : List Change
all_restart = Restarts 1 ∷ Restarts 2 ∷ Restarts 3 ∷ Restarts 4 ∷ []

-- the message waits on the link from point 1 to point 3
abbrev pub before_all : List Change
before_all = map Does (opening ++ settling) ++ Does (submits message_two) ∷ all_restart

abbrev pub all_over : NetworkState
all_over = after_changes mated before_all (first_network mated)

-- all links enter service again, and the next message goes over that link
abbrev pub all_return : List Step
all_return = (opening ++ settling) ++ submits message_one ∷ sends direct

abbrev pub all_anew : NetworkState
all_anew = after_steps mated all_return (begun_anew all_over)

pub record NetworkBeginsAnew : Type 0 where
  -- what the laws ask
  pub theirs : AreTheirs mated
  pub quiet : IsQuietNetwork mated all_over
  pub unbroken : NoneBrokenSince mated all_over all_anew
  pub none_lost : NoneLostSince mated all_over all_anew
  -- the message was accepted, is gone, and nobody named it
  pub accepted_before : users (all_over.node 1).accepted ≡ message_two ∷ []
  pub gone_before : gone_at mated all_over (λ m. true) 1 ≡ 1
  pub unnamed : (all_over.node 1).named ≡ []
  -- the next one is accepted, and comes, once
  pub accepted : users (all_anew.node 1).accepted ≡ message_one ∷ []
  pub comes : users_in ((all_anew.node 3).came 0) ≡ delivered message_one ∷ []
