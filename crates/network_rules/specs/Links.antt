-- Four laws of the links between two nodes of a network that share a set, in both directions: those of `Laws` of
-- `neighbour_rules`, whatever third nodes have in flight to either of the two.
use Rattle.std.specs.Prelude.{◌≡◌, ℕ, true, false, []}
use Rattle.pair_rules.specs.Laws.{messages_in}
use Rattle.pair_rules.specs.Pairs.{PairState, in_flight, may_follow, turned}
use Rattle.pair_rules.specs.Promises.{BothWays, LostNothing}
use Rattle.neighbour_rules.specs.Neighbours.{leads_elsewhere}
use Rattle.neighbour_rules.specs.Laws.{AreFinal, FramesCarry, MovesLacked, NextIsFirst, NoneIsLeft, OfEachLink, OpenedAlone, is_in_use}
use Rattle.network_rules.specs.Pairs.{Always}

-- while neither of the two may have lost a message
abbrev pub WhileNothingIsLost : (PairState → Type 0) → Type 0
WhileNothingIsLost Statement = Always (λ p. LostNothing p → BothWays Statement p)

-- law (i): on the links between the two frames carry what was not received
pub record IsCarriedBetween (p : PairState) : Type 0 where
  -- a link status that is in flight carries no message
  pub statuses : (other : ℕ) → leads_elsewhere (turned p) other ≡ false →
      messages_in (in_flight p.far.incoming.statuses other) ≡ []
  pub frames : OfEachLink p (λ link other. is_in_use p link other ≡ true → FramesCarry p link other)
  pub opening : OfEachLink p (λ link other. may_follow p.far other ≡ true → OpenedAlone p link other)
  pub next : OfEachLink p (NextIsFirst p)

abbrev pub frames_carry : Type 0
frames_carry = WhileNothingIsLost IsCarriedBetween

-- law (ii): links open with no word left
abbrev pub none_is_left : Type 0
none_is_left = WhileNothingIsLost NoneIsLeft

-- law (iii): words carry the final number
abbrev pub words_are_final : Type 0
words_are_final = WhileNothingIsLost AreFinal

-- law (iv): completions move what the peer lacks
abbrev pub moves_are_lacked : Type 0
moves_are_lacked = WhileNothingIsLost MovesLacked
