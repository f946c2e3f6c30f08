-- Two exchanges, with the frames in flight between them and their texts.
use Rattle.exchange_rules.specs.State.{Reroutings}
use Rattle.pair_rules.proofs.Basics.{◌≡◌, ℕ, Bool, true, List, [], length, map}
use Rattle.pair_rules.proofs.Definitions.{Message, Configuration, FrameValue, spelled, Node, WholeQueues, all_wait, End, PairState, Streams, in_flight, may_follow}
use Rattle.pair_rules.proofs.World.{Flying, Mid, World}

-- ---- an end, and two of them, with the frames in flight

abbrev pub end_with : Configuration → Node WholeQueues → Reroutings → (incoming : Streams) → (following : List Bool) → (accepted received : List Message) → End
end_with c n r incoming following accepted received = record {
  exchange = record { settings = c; node = n; reroutings = r };
  incoming = incoming;
  following = following;
  accepted = accepted;
  received = received;
}

-- a node at rest
abbrev pub rests : End → Mid
rests e = record { node = e.exchange.node; arrived = []; loose = []; accepted = e.accepted; received = e.received }

abbrev pub world_of : PairState → (to_near to_far : Flying) → World
world_of p to_near to_far = record {
  near = rests p.near;
  far = rests p.far;
  to_near = to_near;
  to_far = to_far;
  near_may = λ link. may_follow p.near link;
  far_may = λ link. may_follow p.far link;
}

-- the texts in flight are those of these frames
pub record AreTexts (c : Configuration) (texts : List (List (List ℕ))) (frames : ℕ → List FrameValue) : Type 0 where
  pub many : length texts ≡ length c.links
  pub each : (link : ℕ) → in_flight texts link ≡ map spelled (frames link)

-- on both streams
pub record AreStreams (c : Configuration) (s : Streams) (f : Flying) : Type 0 where
  pub statuses : AreTexts c s.statuses f.statuses
  pub user_data : AreTexts c s.user_data f.user_data

-- each message of Held waits
abbrev pub Waits : Configuration → Node WholeQueues → Type 0
Waits c n = all_wait c n.parts.holds n.queues.held ≡ true
