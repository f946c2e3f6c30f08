-- What neighbours promise, two nodes of a network promise.
use Rattle.pair_rules.proofs.Basics.{◌≡◌, ℕ, ap, sym, subst, ◌∙◌}
use Rattle.pair_rules.proofs.Definitions.{Configuration, Message, PairState, LostNothing, first_pair, turned}
use Rattle.std.specs.Prelude.{List}
use Rattle.exchange_rules.specs.First.{Abstract}
use Rattle.pair_rules.specs.Pairs.{End}
use Rattle.pair_rules.specs.Promises.{BothWays, IsPunctual}
use Rattle.pair_rules.specs.Sharing.{AreSharing}
use Rattle.neighbour_rules.specs.Neighbours as neighbours
use Rattle.neighbour_rules.specs.Awaiting.{AwaitsNothingInVain}
use Rattle.neighbour_rules.specs.Promises.{AreBooked, EachOnce, InOrder, StaysBetween}
use Rattle.pair_rules.specs.Awaiting.{HoldInNoVain}
use Rattle.neighbour_rules.specs.Promises as neighbours_promise
use Rattle.neighbour_rules.proofs.Promised.{each-in-order, each-once}
use Rattle.neighbour_rules.proofs.Awaited.{nothing-in-vain}
use Rattle.neighbour_rules.proofs.Staying.{books-stay, held-in-no-vain, stay-between}
use Rattle.network_rules.specs.Networks.{first_network}
use Rattle.network_rules.specs.Outside.{Move, after_moves}
use Rattle.network_rules.specs.Pairs.{AreAlike, ArePairsAlike, AreTheirPoints, AreWellOrAlone, IsRunOfNeighbours, books_are_of_the_two, each_flow_in_order, each_message_once, flows_stay_between, nothing_is_awaited_in_vain, nothing_is_held_in_vain, pair_of}
use Rattle.network_rules.proofs.Outside.{moves-keep}
use Rattle.network_rules.proofs.Always.{runs}

-- ---- a pair that is alike, with its books and exchanges written out

abbrev written_end : (one other : End) → End
written_end one other = record other { exchange = one.exchange; accepted = one.accepted; received = one.received }

abbrev pub written : (one other : PairState) → PairState
written one other = record { near = written_end one.near other.near; far = written_end one.far other.far }

end-written : (near far : Configuration) (one other : End) → AreAlike near far one other → other ≡ written_end one other
end-written near far one other h =
    ap (λ (e : Abstract). record other { exchange = e }) h.exchange
    ∙ ap (λ (ms : List Message). record other { exchange = one.exchange; accepted = ms }) h.accepted
    ∙ ap (λ (ms : List Message). record other { exchange = one.exchange; accepted = one.accepted; received = ms }) h.received

pub is-written : (one other : PairState) → ArePairsAlike one other → other ≡ written one other
is-written one other h =
    ap (λ (e : End). record other { near = e }) (end-written one.near.exchange.settings one.far.exchange.settings one.near other.near h.near_alike)
    ∙ ap (λ (e : End). record { near = written_end one.near other.near; far = e }) (end-written one.far.exchange.settings one.near.exchange.settings one.far other.far h.far_alike)

-- ---- what holds of the one, holds of the other

module _ (settings : (point : ℕ) → Configuration) (moves : List Move) (near far : ℕ) (points : AreTheirPoints settings) (well : AreWellOrAlone settings)
    (sharing : AreSharing (settings near) (settings far)) where
  abbrev p : PairState
  p = pair_of (after_moves moves (first_network settings)) near far

  pub run : IsRunOfNeighbours p
  run = runs settings moves near far points well sharing

  abbrev pub its : PairState
  its = written p (neighbours.after_steps run.steps (first_pair p.near.exchange.settings p.far.exchange.settings))

  still-sharing : AreSharing p.near.exchange.settings p.far.exchange.settings
  still-sharing =
      subst (λ (c : Configuration). AreSharing c p.far.exchange.settings) (sym (moves-keep moves (first_network settings) near))
      (subst (AreSharing (settings near)) (sym (moves-keep moves (first_network settings) far)) sharing)

  pub holds-of : (Statement : PairState → Type 0) → neighbours_promise.Always Statement → Statement its
  holds-of Statement always =
      subst Statement (is-written p (neighbours.after_steps run.steps (first_pair p.near.exchange.settings p.far.exchange.settings)) run.is_alike)
      (always p.near.exchange.settings p.far.exchange.settings run.steps still-sharing)

  once-of : LostNothing p → BothWays EachOnce p
  once-of kept =
      let both : BothWays EachOnce its = holds-of (λ (q : PairState). LostNothing q → BothWays EachOnce q) each-once (record { near = kept.near; far = kept.far }) in
      record { there = both.there; back = both.back }

  order-of : LostNothing p → BothWays (λ (q : PairState). IsPunctual q → InOrder q) p
  order-of kept =
      let both : BothWays (λ (q : PairState). IsPunctual q → InOrder q) its =
      holds-of (λ (q : PairState). LostNothing q → BothWays (λ (r : PairState). IsPunctual r → InOrder r) q) each-in-order (record { near = kept.near; far = kept.far }) in
      record { there = both.there; back = both.back }

  books-of : BothWays AreBooked p
  books-of =
      let both : BothWays AreBooked its = holds-of (BothWays AreBooked) books-stay in
      record { there = record { accepted = both.there.accepted; received = both.there.received }; back = record { accepted = both.back.accepted; received = both.back.received } }

  awaited-of : LostNothing p → BothWays AwaitsNothingInVain p
  awaited-of kept =
      let both : BothWays AwaitsNothingInVain its =
      holds-of (λ (q : PairState). LostNothing q → BothWays AwaitsNothingInVain q) nothing-in-vain (record { near = kept.near; far = kept.far }) in
      record { there = record { answers = both.there.answers; codes = both.there.codes }; back = record { answers = both.back.answers; codes = both.back.codes } }

  stays : (q r : PairState) → StaysBetween (written q r) → StaysBetween q
  stays q r s = record { destination = s.destination; known = s.known; set = s.set; leads = s.leads; route = s.route; flows = s.flows; elsewhere = s.elsewhere }

  flows-of : BothWays StaysBetween p
  flows-of =
      let q : PairState = neighbours.after_steps run.steps (first_pair p.near.exchange.settings p.far.exchange.settings) in
      let both : BothWays StaysBetween its = holds-of (BothWays StaysBetween) stay-between in
      record { there = stays p q both.there; back = stays (turned p) (turned q) both.back }

  held-of : HoldInNoVain p
  held-of =
      let both : HoldInNoVain its = holds-of HoldInNoVain held-in-no-vain in
      record { near = both.near; far = both.far }

pub once : each_message_once
once settings moves near far points well sharing = once-of settings moves near far points well sharing

pub order : each_flow_in_order
order settings moves near far points well sharing = order-of settings moves near far points well sharing

pub books : books_are_of_the_two
books settings moves near far points well sharing = books-of settings moves near far points well sharing

pub awaited : nothing_is_awaited_in_vain
awaited settings moves near far points well sharing = awaited-of settings moves near far points well sharing

pub flows : flows_stay_between
flows settings moves near far points well sharing = flows-of settings moves near far points well sharing

pub held : nothing_is_held_in_vain
held settings moves near far points well sharing = held-of settings moves near far points well sharing
