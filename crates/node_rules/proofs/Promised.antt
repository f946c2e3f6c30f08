-- The promises of a pair hold of two nodes.
use Rattle.std.proofs.Common.{◌≡◌, ℕ, List, [], ap, sym, ◌∙◌, subst}
use Rattle.signalling_types.specs.Message.{Message}
use Rattle.exchange_rules.specs.First.{Abstract}
use Rattle.pair_rules.specs.Pairs.{End, PairState, first_pair, nothing_in_flight}
use Rattle.pair_rules.specs.Promises.{LostNothing, IsPunctual, BothWays}
use Rattle.neighbour_rules.specs.Neighbours.{after_steps, users_to}
use Rattle.neighbour_rules.specs.Promises.{EachOnce, InOrder}
use Rattle.neighbour_rules.proofs.Promised.{each-once, each-in-order}
use Rattle.node_rules.specs.Worlds.{Books, Make, World, new_world, last_world}
use Rattle.node_rules.specs.Promises.{IsOf, IsRunOfPair, ends_of, each_message_once, each_flow_in_order}
use Rattle.node_rules.proofs.Runs.{are-runs}

-- a pair with these books, of which the promises speak
abbrev end-with : Books → End
end-with b = record { exchange = b.exchange; incoming = nothing_in_flight 0; following = []; accepted = b.accepted; received = b.received }

abbrev pair-with : Books → Books → PairState
pair-with near far = record { near = end-with near; far = end-with far }

abbrev books-of : End → Books
books-of e = record { exchange = e.exchange; accepted = e.accepted; received = e.received }

-- books with the messages of the two points alone
abbrev between : (own other : ℕ) → Books → Books
between own other b = record { exchange = b.exchange; accepted = users_to other b.accepted; received = users_to own b.received }

same-books : (b c : Books) → b.exchange ≡ c.exchange → b.accepted ≡ c.accepted → b.received ≡ c.received → b ≡ c
same-books b c e f g =
    ap (λ (x : Abstract). record { exchange = x; accepted = b.accepted; received = b.received }) e
    ∙ ap (λ (ms : List Message). record { exchange = c.exchange; accepted = ms; received = b.received }) f
    ∙ ap (λ (ms : List Message). record { exchange = c.exchange; accepted = c.accepted; received = ms }) g

-- what is said of the ends of a pair is said of books that these have
module _ (x y : Books) (p : PairState) (near-is : books-of p.near ≡ x) (far-is : books-of p.far ≡ y) where
  moved : (P : Books → Books → Type 0) → P (books-of p.near) (books-of p.far) → P x y
  moved P h = subst (λ (b : Books). P x b) far-is (subst (λ (b : Books). P b (books-of p.far)) near-is h)

  back : (P : Books → Books → Type 0) → P x y → P (books-of p.near) (books-of p.far)
  back P h = subst (λ (b : Books). P (books-of p.near) b) (sym far-is) (subst (λ (b : Books). P b y) (sym near-is) h)

  lost-nothing : LostNothing (pair-with x y) → LostNothing p
  lost-nothing h =
      let k : LostNothing (pair-with (books-of p.near) (books-of p.far)) = back (λ b c. LostNothing (pair-with b c)) h in
      record { near = k.near; far = k.far }

  once-moved : BothWays EachOnce p → BothWays EachOnce (pair-with x y)
  once-moved h = moved (λ b c. BothWays EachOnce (pair-with b c)) (record { there = h.there; back = h.back })

  order-moved : BothWays (λ q. IsPunctual q → InOrder q) p → BothWays (λ q. IsPunctual q → InOrder q) (pair-with x y)
  order-moved h = moved (λ b c. BothWays (λ q. IsPunctual q → InOrder q) (pair-with b c)) (record { there = h.there; back = h.back })

-- an end is of books
is-between : (own other : ℕ) (b : Books) (e : End) → IsOf own other b e → books-of e ≡ between own other b
is-between own other b e h = sym (same-books (between own other b) (books-of e) h.exchange h.accepted h.received)

module _ (near far : Make) (w : World) (r : IsRunOfPair near far w) where
  abbrev pair : PairState
  pair = after_steps r.steps (first_pair near.configuration far.configuration)

  abbrev near-books : Books
  near-books = between near.configuration.own far.configuration.own w.near.books

  abbrev far-books : Books
  far-books = between far.configuration.own near.configuration.own w.far.books

  its-near : books-of pair.near ≡ near-books
  its-near = is-between near.configuration.own far.configuration.own w.near.books pair.near r.near_is

  its-far : books-of pair.far ≡ far-books
  its-far = is-between far.configuration.own near.configuration.own w.far.books pair.far r.far_is

  pub none-lost : LostNothing (ends_of near far w) → LostNothing pair
  none-lost h = lost-nothing near-books far-books pair its-near its-far h

  pub once-so : BothWays EachOnce pair → BothWays EachOnce (ends_of near far w)
  once-so h = once-moved near-books far-books pair its-near its-far h

  pub order-so : BothWays (λ q. IsPunctual q → InOrder q) pair → BothWays (λ q. IsPunctual q → InOrder q) (ends_of near far w)
  order-so h = order-moved near-books far-books pair its-near its-far h

pub once : each_message_once
once near far n list m lost =
    let w : World = last_world (new_world near far) list in
    let r : IsRunOfPair near far w = are-runs near far n list m in
    once-so near far w r (each-once near.configuration far.configuration r.steps n.sharing (none-lost near far w r lost))

pub in-order : each_flow_in_order
in-order near far n list m lost =
    let w : World = last_world (new_world near far) list in
    let r : IsRunOfPair near far w = are-runs near far n list m in
    order-so near far w r (each-in-order near.configuration far.configuration r.steps n.sharing (none-lost near far w r lost))
