-- The laws of words and of messages, by counts of what is under way, and of what became of it.
use Rattle.std.specs.Prelude.{◌≡◌, ℕ, Bool, ◌+◌, ◌≤◌, ◌<◌, count_by, nat_eq, if◌then◌else◌}
use Rattle.signalling_types.specs.Message.{Message}
use Rattle.link.specs.Queue.{last_accepted}
use Rattle.network_moves.specs.Sayings.{Side, Saying, is_awaited_by, is_untrue, saying, user}
use Rattle.network_moves.specs.Networks.{Line, Network, Shape, end_at, waiting, given_up, one_if, sum_to, sum_of_ends}

-- of the near end's messages, how many are under way: they wait, or were given up and may still come
abbrev pub on_its_way : (Message → Bool) → Line → ℕ
on_its_way test z = count_by test (waiting z) + count_by test (given_up z)

-- how many messages that pass a test are under way, anywhere in the network: at nodes and on links
abbrev pub under_way : Shape → (Message → Bool) → Network → ℕ
under_way shape test p =
    sum_to (λ point. count_by test (p.node point).bag) shape.nodes
    + sum_of_ends shape (λ link side z. on_its_way test z) p

module _ (shape : Shape) (read : Message → Saying) where
  -- law (ii): of an end's orders and the other end's answers to them, no more than one is under way, wherever it is,
  -- and only while that end awaits the answer
  abbrev pub WordsAreAwaited : Network → Type 0
  WordsAreAwaited p =
      (link : ℕ) (side : Side) →
      under_way shape (saying read (is_awaited_by link side)) p ≤ one_if (end_at p link side).awaited

  -- law (iii): an order or an answer is under way only while its link is down at the end that made it, and has the
  -- number of the last message accepted there
  abbrev pub WordsAreTrue : Network → Type 0
  WordsAreTrue p =
      (link : ℕ) (side : Side) →
      under_way shape
      (saying read (is_untrue link side (end_at p link side).up (last_accepted (end_at p link side).queue))) p
      ≡ 0

-- ---- what became of the messages of a node

-- the sum over the ends of links that are at a node
abbrev pub sum_at : Shape → ℕ → (Line → ℕ) → Network → ℕ
sum_at shape point f p = sum_of_ends shape (λ link side z. if nat_eq (shape.point link side) point then f z else 0) p

-- of its messages, those that came to a neighbour by a link; those that came to it from one; those that wait, at the
-- node or on its links; and those that were given up, and didn't come
abbrev pub came_from : Shape → (Message → Bool) → Network → ℕ → ℕ
came_from shape test p point = sum_at shape point (λ z. count_by test z.near.came) p

abbrev pub came_to : Shape → (Message → Bool) → Network → ℕ → ℕ
came_to shape test p point = sum_at shape point (λ z. count_by test z.far.came) p

abbrev pub waits_at : Shape → (Message → Bool) → Network → ℕ → ℕ
waits_at shape test p point =
    count_by test (p.node point).bag + sum_at shape point (λ z. count_by test (waiting z)) p

abbrev pub gone_at : Shape → (Message → Bool) → Network → ℕ → ℕ
gone_at shape test p point =
    count_by test (p.node point).gone
    + sum_at shape point (λ z. count_by test z.near.gone + count_by test (given_up z)) p

module _ (shape : Shape) (read : Message → Saying) where
  -- of every kind of user message that came in at a node, each was submitted there or came from a neighbour
  abbrev pub EntersOnce : Network → ℕ → Type 0
  EntersOnce p point =
      (test : Message → Bool) →
      count_by (user read test) (p.node point).accepted
      ≡ count_by (user read test) (p.node point).submitted + came_to shape (user read test) p point

  -- of every kind of user message that came in at a node, each ended there, came to a neighbour once, waits, or is
  -- gone; and no more are gone than notices name
  pub record EndsOnce (p : Network) (point : ℕ) : Type 0 where
    pub each : (test : Message → Bool) →
        count_by (user read test) (p.node point).accepted
        ≡ count_by (user read test) (p.node point).ended + came_from shape (user read test) p point
        + waits_at shape (user read test) p point
        + gone_at shape (user read test) p point
    pub named : (test : Message → Bool) →
        gone_at shape (user read test) p point ≤ count_by (user read test) (p.node point).named

-- each end of a link is at a node
pub record IsJoined (shape : Shape) : Type 0 where
  pub inside : (link : ℕ) (side : Side) → link < shape.links → shape.point link side < shape.nodes

-- of every kind of user message, as many were submitted anywhere as ended somewhere, wait somewhere, or are gone
abbrev pub IsAccountedFor : Shape → (Message → Saying) → Network → Type 0
IsAccountedFor shape read p =
    (test : Message → Bool) →
    sum_to (λ point. count_by (user read test) (p.node point).submitted) shape.nodes
    ≡ sum_to (λ point. count_by (user read test) (p.node point).ended) shape.nodes
    + sum_to (waits_at shape (user read test) p) shape.nodes
    + sum_to (gone_at shape (user read test) p) shape.nodes
