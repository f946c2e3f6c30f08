-- Another run of the mated pair: the only link from point 1 to point 3 fails with a message on it that doesn't come,
-- and T2 runs out before the answer to the order is here. The message is named as lost. The answer comes late, by the
-- mate.
use Rattle.std.specs.Prelude.{◌≡◌, true, false, List, [], ◌∷◌, ◌++◌, replicate}
use Rattle.changeover.specs.Changeover.{may_restart}
use Rattle.exchange_rules.specs.ChangingOver.{changeover_of}
use Rattle.exchange_rules.specs.State.{lost_any}
use Rattle.node_moves.specs.EndToEnd.{to_user_parts}
use Rattle.node_moves.specs.Fates.{is_delivered, met_at}
use Rattle.node_moves.specs.Laws.{AreTheirs, IsUnbroken, came_from, gone_at, waits_at}
use Rattle.node_moves.specs.MatedPair.{mated}
use Rattle.node_moves.specs.MatedRun.{cross, delivered, direct, done_at, fails, message_one, message_two, onward, sends}
use Rattle.node_moves.specs.MatedRun.{AnAnswer, AnOrder, served, submits, turned, users, users_in, words}
use Rattle.node_moves.specs.Networks.{NetworkState, Step, Takes, Ticks, after_steps, messages_of}

-- ---- states, each by steps from the one before

-- the first message comes, and what confirms it comes back
abbrev pub confirmed : NetworkState
confirmed = after_steps mated (submits message_one ∷ sends direct ++ sends (turned direct)) served

-- the second is on its way as the link fails; the order waits at point 1 until T2 runs out there
abbrev pub expired : NetworkState
expired =
    after_steps mated
    (submits message_two ∷ done_at direct.here Takes
    ∷ fails direct ++ replicate 9 (record { point = 1; what = Ticks }))
    confirmed

-- a frame of each link that is left goes over it, either way
abbrev pub around : List Step
around = sends cross ++ sends onward ++ sends (turned onward) ++ sends (turned cross)

-- then the orders go by the mate, and the answers
abbrev pub answered : NetworkState
answered = after_steps mated (around ++ around ++ around ++ around ++ around ++ around) expired

-- ---- and what they show

pub record NamesWhatIsLost : Type 0 where
  -- what the node law asks
  pub theirs : AreTheirs mated
  pub unbroken : IsUnbroken mated answered
  -- point 1 accepted two messages
  pub accepted : users (answered.node 1).accepted ≡ message_one ∷ message_two ∷ []
  -- the first came to point 3, once, and to its user part; the second came nowhere, and doesn't wait
  pub comes : users_in ((answered.node 3).came 0) ≡ delivered message_one ∷ []
  pub none_beside : users_in ((answered.node 3).came 1) ≡ []
  pub none_passes : users_in ((answered.node 2).came 2) ≡ []
  pub one_came : came_from mated answered (λ m. true) 1 ≡ 1
  pub one_delivered : met_at mated answered (is_delivered (mated 3)) (to_user_parts 3 (λ m. true)) 3 ≡ 1
  pub none_waits : waits_at mated answered (λ m. true) 1 ≡ 0
  -- so one is gone, which point 1 named as lost, once, and counts; and it says that it may have lost a message
  pub one_gone : gone_at mated answered (λ m. true) 1 ≡ 1
  pub named : (answered.node 1).named ≡ message_two ∷ []
  pub counted : (answered.node 1).node.parts.messages_lost ≡ 1
  pub flagged : lost_any (answered.node 1).node.parts ≡ true
  -- that was as T2 ran out. The link stayed barred until the answer came, and then may open again
  pub named_before : (expired.node 1).named ≡ message_two ∷ []
  pub barred : may_restart (changeover_of (expired.node 1).node.parts 0) ≡ false
  pub opens : may_restart (changeover_of (answered.node 1).node.parts 0) ≡ true
  -- an order came by the mate, and an answer, after T2 ran out
  pub words_before : words (messages_of ((expired.node 1).came 2)) ≡ []
  pub words_here : words (messages_of ((answered.node 1).came 2)) ≡ AnOrder ∷ AnAnswer ∷ []
