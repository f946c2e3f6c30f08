-- Two exchanges after some steps, as the machine of moves shows them; and what each step at the near end does to that.
use Rattle.exchange_rules.specs.State.{Reroutings}
use Rattle.exchange_rules.specs.Routing.{facts}
use Rattle.exchange_rules.specs.Reroutings.{counted, first_reroutings}
use Rattle.pair_rules.proofs.Basics.{◌≡◌, ℕ, Bool, false, List, [], length, nat_lt, None, refl, slice_get, subst, ◌∙◌}
use Rattle.pair_rules.proofs.Definitions.{Message, Configuration, Reading, Node, Happening, WholeQueues, whole, apply, handle_event, done-waits, PairState, LostNothing, Streams, happens, may_follow, turned}
use Rattle.pair_moves.specs.Ends as ends
use Rattle.pair_moves.specs.Quiet as moves
use Rattle.pair_moves.proofs.First.{quiet-first, quiet-turned}
use Rattle.pair_rules.proofs.World.{Flying, Mid, World, turned_world}
use Rattle.pair_rules.proofs.Going.{Goes, goes-both}
use Rattle.pair_rules.proofs.Standing.{AreStreams, Waits, end_with, rests, world_of}
use Rattle.neighbour_rules.specs.Neighbours.{end_there}
use Rattle.neighbour_rules.proofs.Counted.{beyond-none}
use Rattle.neighbour_rules.proofs.World.{codes, reading, reads-alike, shown}
use Rattle.neighbour_rules.proofs.Good.{Good, Joint, Passes, at}
use Rattle.neighbour_rules.proofs.Sharing.{AreFacing, facing_back, far_joint, from_first, near_joint}
use Rattle.neighbour_rules.proofs.Events.{event-passes}
use Rattle.neighbour_rules.proofs.Adjacents.{KnowsPoints, event-knows}

-- nothing is in flight to an end on a link that leads elsewhere, and on no link that isn't there
pub record IsQuiet (f : Flying) (link : ℕ) : Type 0 where
  pub user_data : f.user_data link ≡ []
  pub statuses : f.statuses link ≡ []

abbrev pub IsAway : (c z : Configuration) (link : ℕ) → Type 0
IsAway c z link = end_there c z (slice_get c.links link) ≡ None

-- the machine of moves shows the pair
pub record Stands (c z : Configuration) (a : AreFacing c z) (p : PairState) : Type 0 where
  pub near_settings : p.near.exchange.settings ≡ c
  pub far_settings : p.far.exchange.settings ≡ z
  pub near_waits : Waits c p.near.exchange.node
  pub far_waits : Waits z p.far.exchange.node
  pub near_knows : KnowsPoints c p.near.exchange.node
  pub far_knows : KnowsPoints z p.far.exchange.node
  pub to_near : Flying
  pub to_far : Flying
  pub near_texts : AreStreams c p.near.incoming to_near
  pub far_texts : AreStreams z p.far.incoming to_far
  pub near_flags : length p.near.following ≡ length c.links
  pub far_flags : length p.far.following ≡ length z.links
  pub near_quiet : (link : ℕ) → IsAway c z link → IsQuiet to_near link
  pub far_quiet : (link : ℕ) → IsAway z c link → IsQuiet to_far link
  pub near_alone : (link : ℕ) → IsAway c z link → may_follow p.near link ≡ false
  pub far_alone : (link : ℕ) → IsAway z c link → may_follow p.far link ≡ false
  pub near_good : Good c z (near_joint c z a) (world_of p to_near to_far)
  pub far_good : Good z c (far_joint c z a) (turned_world (world_of p to_near to_far))
  pub goes : Goes (reading c.own z.own a.base) a.start (shown c z a.near_set a.far_set a.base (world_of p to_near to_far))

-- the moves began with a quiet pair, and since then neither node has counted a loss
pub record Since (c z : Configuration) (a : AreFacing c z) (p : PairState) : Type 0 where
  pub quiet : moves.IsQuiet (reading c.own z.own a.base) a.start
  pub near : nat_lt a.base.near.lost p.near.exchange.node.parts.times_lost ≡ false
  pub far : nat_lt a.base.far.lost p.far.exchange.node.parts.times_lost ≡ false

pub since-back : (c z : Configuration) (a : AreFacing c z) (p : PairState) → Since c z a p → Since z c (facing_back c z a) (turned p)
since-back c z a p h = record {
  quiet = subst (λ (read : Reading). moves.IsQuiet read (ends.turned a.start)) (reads-alike c.own z.own a.base) (quiet-turned (reading c.own z.own a.base) a.start h.quiet);
  near = h.far;
  far = h.near;
}

-- so it is since both were booted, while no flag is raised
pub since-first : (c z : Configuration) (a : AreFacing c z) (p : PairState) → LostNothing p → Since c z (from_first c z a) p
since-first c z a p kept = record {
  quiet = quiet-first (reading c.own z.own a.base) codes;
  near = beyond-none p.near.exchange.node.parts.times_lost ∙ kept.near;
  far = beyond-none p.far.exchange.node.parts.times_lost ∙ kept.far;
}

-- good is what the node and what comes to it are
pub regood : (c z : Configuration) (j : Joint c z) (x y other : Mid) (f g h : Flying) (m n s t : ℕ → Bool) → Good c z j (record { near = x; far = y; to_near = f; to_far = g; near_may = m; far_may = n })
    → Good c z j (record { near = x; far = other; to_near = f; to_far = h; near_may = s; far_may = t })
regood c z j x y other f g h m n s t a = record {
  fits = a.fits;
  route = a.route;
  settled = a.settled;
  silent = a.silent;
  queued = a.queued;
  elsewhere = a.elsewhere;
  held = a.held;
  loose = a.loose;
  arrived = a.arrived;
  coming = a.coming;
  counted = a.counted;
}

-- ---- something happens at the near end

module _ (c z : Configuration) (a : AreFacing c z) (n m : Node WholeQueues) (nb fb : Reroutings) (ni fi : Streams) (nv fv : List Bool) (na nr fa fr : List Message) where
  abbrev pub p : PairState
  p = record { near = end_with c n nb ni nv na nr; far = end_with z m fb fi fv fa fr }

  -- its node, what comes to it and its books are these then
  abbrev pub left_by : Reroutings → Node WholeQueues → Streams → (accepted received : List Message) → PairState
  left_by b o i accepted received = record { near = end_with c o b i nv accepted received; far = end_with z m fb fi fv fa fr }

  -- after an event
  abbrev pub left : Node WholeQueues → Streams → (accepted received : List Message) → PairState
  left o i accepted received = left_by (counted c (facts c o.parts) nb) o i accepted received

  pub near-stands : {b : Reroutings} (s : Stands c z a p) (o : Node WholeQueues) (i : Streams) (accepted received : List Message) (f : Flying) → Waits c o → KnowsPoints c o → AreStreams c i f → ((link : ℕ) → IsAway c z link → IsQuiet f link)
      → Passes c z (near_joint c z a) (world_of p s.to_near s.to_far) (world_of (left_by b o i accepted received) f s.to_far) → Stands c z a (left_by b o i accepted received)
  near-stands s o i accepted received f waits knows texts quiet passes = record {
    near_settings = refl;
    far_settings = refl;
    near_waits = waits;
    far_waits = s.far_waits;
    near_knows = knows;
    far_knows = s.far_knows;
    to_near = f;
    to_far = s.to_far;
    near_texts = texts;
    far_texts = s.far_texts;
    near_flags = s.near_flags;
    far_flags = s.far_flags;
    near_quiet = quiet;
    far_quiet = s.far_quiet;
    near_alone = s.near_alone;
    far_alone = s.far_alone;
    near_good = passes.good s.near_good;
    far_good = regood z c (far_joint c z a) (rests p.far) (rests p.near) _ s.to_far s.to_near f _ _ _ _ s.far_good;
    goes = goes-both (reading c.own z.own a.base) _ _ _ s.goes (passes.goes s.near_good);
  }

  -- nothing comes from the far end, and nothing is booked
  pub happens-stands : (what : Happening)
      → ((w : World) → Passes c z (near_joint c z a) (at c z (near_joint c z a) w n [] []) (at c z (near_joint c z a) w (handle_event whole c what n).left [] []))
      → Stands c z a p → Stands c z a (happens what p).left
  happens-stands what passes s =
      let w : World = world_of p s.to_near s.to_far in
      near-stands s (apply whole c what n).left ni na nr s.to_near (done-waits what (record { settings = c; node = n; reroutings = first_reroutings c })) (event-knows c what n s.near_knows) s.near_texts s.near_quiet
      (event-passes c z (near_joint c z a) what w w n (passes w))
