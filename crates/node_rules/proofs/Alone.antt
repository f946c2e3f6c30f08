-- Nodes that have only each other are the special case.
use Rattle.std.proofs.Common.{◌≡◌, ℕ, Bool, true, false, List, [], refl, ap, sym, ◌∙◌, subst}
use Rattle.std.specs.Prelude.{slice_get}
use Rattle.signalling_types.specs.Message.{Message}
use Rattle.settings.specs.Configuration.{Configuration}
use Rattle.exchange_rules.specs.First.{Abstract}
use Rattle.pair_rules.specs.Pairs as pairs
use Rattle.pair_rules.specs.Pairs.{End, PairState, first_pair, nothing_in_flight}
use Rattle.pair_rules.specs.Promises.{AreJoined, LostNothing, EachOnce, InOrder, IsPunctual, BothWays}
use Rattle.neighbour_rules.specs.Neighbours.{after_steps, leads_elsewhere_by}
use Rattle.neighbour_rules.specs.Alone as pairs_alone
use Rattle.neighbour_rules.proofs.Special as special
use Rattle.neighbour_rules.proofs.Special.{joined-back, sharing, same-end}
use Rattle.node_rules.specs.Worlds.{Books, Make, World, new_world, last_world}
use Rattle.node_rules.specs.Promises.{AreNeighbours, IsOf, end_of, ends_of}
use Rattle.node_rules.specs.Alone.{AreBetween, AreFacing, HasBooks, IsSpecial, alone_is_special, whole_end, whole_ends}
use Rattle.node_rules.proofs.PairEvents.{not-alone}
use Rattle.node_rules.proofs.Runs.{IsRun, all-run, facing}
use Rattle.node_rules.proofs.Whole.{IsWhole}

pub as-neighbours : (near far : Make) → AreFacing near far → AreNeighbours near far
as-neighbours near far f = record { sharing = sharing near.configuration far.configuration f.joined; near_good = f.near_good; far_good = f.far_good }

pub are-between : (c z : Configuration) → AreJoined c z → AreBetween c z
are-between c z g = record { each = λ link l. same-end c z g link l; none_elsewhere = λ link. by link (leads_elsewhere_by c z (slice_get c.links link)) refl }
  where
    by : (link : ℕ) (b : Bool) → leads_elsewhere_by c z (slice_get c.links link) ≡ b → b ≡ false
    by link true e = absurd (not-alone c z link e g)
    by link false e = refl

-- what a pair booked is what its books are
same-end-of : (own other : ℕ) (b : Books) (e : End) → IsOf own other b e → b.accepted ≡ e.accepted → b.received ≡ e.received → end_of own other b ≡ whole_end b
same-end-of own other b e h accepted received =
    ap (λ (ms : List Message). record { exchange = b.exchange; incoming = nothing_in_flight 0; following = []; accepted = ms; received = (end_of own other b).received }) (h.accepted ∙ sym accepted)
    ∙ ap (λ (ms : List Message). record { exchange = b.exchange; incoming = nothing_in_flight 0; following = []; accepted = b.accepted; received = ms }) (h.received ∙ sym received)

-- what is said of the books of two ends is said of ends that have these
abbrev rested : End → End
rested e = record { exchange = e.exchange; incoming = nothing_in_flight 0; following = []; accepted = e.accepted; received = e.received }

is-rested : (b : Books) (e : End) → HasBooks b e → rested e ≡ whole_end b
is-rested b e h =
    ap (λ (x : Abstract). record { exchange = x; incoming = nothing_in_flight 0; following = []; accepted = e.accepted; received = e.received }) (sym h.exchange)
    ∙ ap (λ (ms : List Message). record { exchange = b.exchange; incoming = nothing_in_flight 0; following = []; accepted = ms; received = e.received }) (sym h.accepted)
    ∙ ap (λ (ms : List Message). record { exchange = b.exchange; incoming = nothing_in_flight 0; following = []; accepted = b.accepted; received = ms }) (sym h.received)

module _ (w : World) (p : PairState) (near-is : HasBooks w.near.books p.near) (far-is : HasBooks w.far.books p.far) where
  moved : (P : End → End → Type 0) → P (rested p.near) (rested p.far) → P (whole_end w.near.books) (whole_end w.far.books)
  moved P h = subst (λ (e : End). P (whole_end w.near.books) e) (is-rested w.far.books p.far far-is) (subst (λ (e : End). P e (rested p.far)) (is-rested w.near.books p.near near-is) h)

  lost-nothing : LostNothing (whole_ends w) → LostNothing p
  lost-nothing h =
      let k : LostNothing (record { near = rested p.near; far = rested p.far }) =
      moved (λ x y. LostNothing (record { near = x; far = y }) → LostNothing (record { near = rested p.near; far = rested p.far })) (λ k. k) h in
      record { near = k.near; far = k.far }

  once-moved : BothWays EachOnce p → BothWays EachOnce (whole_ends w)
  once-moved h = moved (λ x y. BothWays EachOnce (record { near = x; far = y })) (record { there = h.there; back = h.back })

  order-moved : BothWays (λ q. IsPunctual q → InOrder q) p → BothWays (λ q. IsPunctual q → InOrder q) (whole_ends w)
  order-moved h = moved (λ x y. BothWays (λ q. IsPunctual q → InOrder q) (record { near = x; far = y })) (record { there = h.there; back = h.back })

-- the steps of a run, with what they left
module _ (near far : Make) (f : AreFacing near far) (w : World) (r : IsRun near far (facing near far (as-neighbours near far f)) w) where
  abbrev c : Configuration
  c = near.configuration

  abbrev z : Configuration
  z = far.configuration

  abbrev p : PairState
  p = after_steps r.steps (first_pair c z)

  all : IsWhole c z w.near.books w.far.books p
  all = r.meets.shows.whole f.joined

  near-has : HasBooks w.near.books p.near
  near-has = record { exchange = r.meets.shows.near_has.exchange; accepted = all.booked.near_accepted; received = all.booked.near_received }

  far-has : HasBooks w.far.books p.far
  far-has = record { exchange = r.meets.shows.far_has.exchange; accepted = all.booked.far_accepted; received = all.booked.far_received }

  abbrev q : PairState
  q = pairs.after_steps all.steps (first_pair c z)

  near-so : HasBooks w.near.books q.near
  near-so = subst (λ (x : PairState). HasBooks w.near.books x.near) (sym all.reached) near-has

  far-so : HasBooks w.far.books q.far
  far-so = subst (λ (x : PairState). HasBooks w.far.books x.far) (sym all.reached) far-has

  pair-special : pairs_alone.IsSpecial c z all.steps
  pair-special = special.is-special c z all.steps f.joined

  pub run-special : IsSpecial near far w
  run-special = record {
    neighbours = as-neighbours near far f;
    near_links = are-between c z f.joined;
    far_links = are-between z c (joined-back c z f.joined);
    all_booked = ap (λ (e : End). record { near = e; far = (ends_of near far w).far }) (same-end-of c.own z.own w.near.books p.near r.meets.shows.near_has all.booked.near_accepted all.booked.near_received)
        ∙ ap (λ (e : End). record { near = whole_end w.near.books; far = e }) (same-end-of z.own c.own w.far.books p.far r.meets.shows.far_has all.booked.far_accepted all.booked.far_received);
    steps = all.steps;
    near_is = near-so;
    far_is = far-so;
    once = λ lost. once-moved w q near-so far-so (pair-special.once (lost-nothing w q near-so far-so lost));
    in_order = λ lost. order-moved w q near-so far-so (pair-special.in_order (lost-nothing w q near-so far-so lost));
  }

pub is-special : alone_is_special
is-special near far f list m =
    run-special near far f (last_world (new_world near far) list) (all-run near far (as-neighbours near far f) list m)
