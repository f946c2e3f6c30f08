-- "Order": the messages of each flow come to the far node in the order in which the near node
-- accepted them.
use Rattle.std.specs.Prelude.{◌≡◌, ◌≢◌, ℕ, zero, suc, true, ◌<◌, List, [], ◌∷◌, ◌++◌, filter, Some}
use Rattle.signalling_types.specs.Message.{Message}
use Rattle.signalling_types.specs.declared.point.Flow.{Flow}
use Rattle.pair_moves.specs.Sayings.{Saying, Declaration, is_of_flow}
use Rattle.pair_moves.specs.Ends.{Changeover, Code, Time, Pair, unreceived}

-- the lists of this many links, one after the other
abbrev pub join_to : (ℕ → List Message) → ℕ → List Message
join_to f zero = []
join_to f (suc n) = join_to f n ++ f n

module _ (read : Message → Saying) (flow : Flow) where
  abbrev pub of_flow : List Message → List Message
  of_flow ms = filter (is_of_flow read flow) ms

  -- the flow's messages that are on a link and aren't received
  abbrev pub standing_on : Pair → ℕ → List Message
  standing_on p link = of_flow (unreceived (p.line link))

  -- why no later message can overtake those on a link: the flow takes that link, or waits for the link's changeover,
  -- for a time, or for the confirmation of a declaration that comes after all of them
  pub data IsGuarded (p : Pair) (link : ℕ) : Type 0 where
    by_route : p.near.route flow ≡ Some link → IsGuarded p link
    by_changeover : p.near.holds (Changeover link) flow ≡ true → (p.line link).near.incomplete ≡ true → IsGuarded p link
    by_time : (returned : ℕ) → p.near.holds (Time returned) flow ≡ true → IsGuarded p link
    by_code : (code : ℕ) → p.near.holds (Code code) flow ≡ true →
        (ahead : List Message) (declaration : Message) (behind : List Message) →
        unreceived (p.line link) ≡ ahead ++ declaration ∷ behind → read declaration ≡ Declaration code →
        of_flow behind ≡ [] → IsGuarded p link

  pub record IsInOrder (p : Pair) : Type 0 where
    -- what was accepted, in order: what was received, what just arrived, what is on links, what is
    -- held, what is loose
    pub sequence :
        of_flow p.near.accepted
        ≡ of_flow p.far.received ++ of_flow p.far.arrived
        ++ join_to (standing_on p) p.links ++ of_flow p.near.held ++ of_flow p.near.loose
    -- the flow's messages are on one link at most
    pub single : (link other : ℕ) → link < p.links → other < p.links →
        standing_on p link ≢ [] → standing_on p other ≢ [] → link ≡ other
    pub guard : (link : ℕ) → link < p.links → standing_on p link ≢ [] → IsGuarded p link
