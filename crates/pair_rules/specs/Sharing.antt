-- Two nodes that share a link set, whatever other neighbours each has: what their orders and answers say.
use Rattle.std.specs.Prelude.{◌≡◌, ◌<◌, ◌^◌, ℕ, length, Some}
use Rattle.settings.specs.Configuration.{Configuration}
use Rattle.settings.specs.Well.{IsWell}
use Rattle.settings.specs.Sharing.{SharesSet}
use Rattle.exchange_rules.specs.Routing.{entry_of, set_of}
use Rattle.exchange_rules.specs.ChangingOver.{changeover_order, changeover_acknowledgement}
use Rattle.exchange_rules.specs.Messages.{link_with_code}
use Rattle.pair_rules.specs.Laws.{about, word_of}

-- two checked settings that share a set
pub record AreSharing (near far : Configuration) : Type 0 where
  pub near_well : IsWell near
  pub far_well : IsWell far
  pub shares : SharesSet near far

-- the far node has a link with the code of the near one's, and by the other's point and that code each node finds its
-- own. An order about the near one that the near node makes, and its answer to one, name the far one and the number
pub record SayOneLink (near far : Configuration) (link number : ℕ) : Type 0 where
  pub other : ℕ
  pub code : (entry_of far other).slc ≡ (entry_of near link).slc
  pub there : link_with_code far near.own (entry_of near link).slc ≡ Some other
  pub back : link_with_code near far.own (entry_of far other).slc ≡ Some link
  pub order : word_of far (changeover_order near link number) ≡ Some (about number other)
  pub answer : word_of far (changeover_acknowledgement near link number) ≡ Some (about number other)

-- this holds for each link of the set
abbrev pub links_are_told_by_their_codes : Type 0
links_are_told_by_their_codes =
    (near far : Configuration) (link number : ℕ) (sharing : AreSharing near far) → link < length near.links →
    set_of near link ≡ sharing.shares.near_set → number < 2 ^ 24 → SayOneLink near far link number
