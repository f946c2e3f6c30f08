-- Nothing waits in vain between two nodes that share a link set: law (ii) in full, and every hold has a timer that runs
-- or an answer that is awaited.
use Rattle.std.specs.Prelude.{◌≡◌, ◌+◌, ℕ, Bool, Option, Some, None, count_by, nat_eq, if◌then◌else◌}
use Rattle.std.specs.Option.{option_eq}
use Rattle.signalling_types.specs.Message.{Message, opc_of}
use Rattle.settings.specs.Configuration.{Configuration}
use Rattle.settings.specs.Readings.{set_place}
use Rattle.mtp3_codec.specs.Management.{read_management}
use Rattle.changeback.specs.Codes.{is_outstanding}
use Rattle.exchange_rules.specs.ChangingOver.{changeover_of}
use Rattle.pair_moves.specs.Laws.{one_if}
use Rattle.pair_rules.specs.Pairs.{PairState, turned}
use Rattle.pair_rules.specs.Awaiting.{Kind, HoldInNoVain, acknowledged, confirmed, declared, named_in, ordered}
use Rattle.neighbour_rules.specs.Neighbours.{is_management_between}
use Rattle.neighbour_rules.specs.Promises.{Always}
use Rattle.neighbour_rules.specs.Laws.{OfEachLink, WhileNothingIsLost, unreceived}

-- what a message says that is management from this point, for that node
abbrev pub named_from : Kind → (point : ℕ) → Configuration → Message → Option ℕ
named_from kind point c m =
    if is_management_between point c.own m then named_in kind c (opc_of m) (read_management m.sif) else None

abbrev pub says_to : Kind → (point : ℕ) → Configuration → (named : ℕ) → Message → Bool
says_to kind point c named m = option_eq nat_eq (named_from kind point c m) (Some named)

-- of the near end's messages that the far end hasn't received, how many are of a kind and name this
abbrev pub under_way : Kind → (named : ℕ) → PairState → ℕ
under_way kind named p =
    count_by (says_to kind p.near.exchange.settings.own p.far.exchange.settings named) (unreceived p)

-- whether a code of the set that leads to the far point awaits its answer
abbrev pub is_awaited : PairState → (set : Option ℕ) → (code : ℕ) → Bool
is_awaited p (Some set) code = is_outstanding p.near.exchange.node.parts.codes set code
is_awaited p None code = is_outstanding p.near.exchange.node.parts.codes 0 code

-- while the near end awaits the answer to its order, exactly one message is under way: its order about this link, or
-- the far end's answer about it. While one of its codes awaits its answer, exactly one declaration or answer with that
-- code is. Otherwise none is
pub record AwaitsNothingInVain (p : PairState) : Type 0 where
  pub answers : OfEachLink p
      (λ link other.
      under_way ordered other p + under_way acknowledged link (turned p)
      ≡ one_if (changeover_of p.near.exchange.node.parts link).awaited)
  pub codes : (code : ℕ) →
      under_way declared code p + under_way confirmed code (turned p)
      ≡ one_if (is_awaited p (set_place p.near.exchange.settings p.far.exchange.settings.own) code)

abbrev pub nothing_is_awaited_in_vain : Type 0
nothing_is_awaited_in_vain = WhileNothingIsLost AwaitsNothingInVain

-- at both ends every hold has a timer that runs or an answer that is awaited, whether or not a message may be lost
abbrev pub nothing_is_held_in_vain : Type 0
nothing_is_held_in_vain = Always HoldInNoVain
