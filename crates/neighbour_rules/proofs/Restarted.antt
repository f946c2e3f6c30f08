-- Nodes that start again: of a pair it holds, whatever was lost before, that the machine of moves shows it, from
-- somewhere on; and that its ends were asked some things since they were booted.
use Rattle.pair_rules.proofs.Basics.{◌≡◌, ℕ, zero, suc, Bool, false, List, [], ◌∷◌, length, refl, ap, sym, subst, ◌∙◌, slice_index_or, slice_set, length-set}
use Rattle.std.proofs.lemmas.List.{length-replicate}
use Rattle.pair_rules.proofs.Definitions.{Configuration, Pair, PairState, turned, first_pair, each-replicate}
use Rattle.exchange_rules.specs.First.{Abstract, first_state}
use Rattle.pair_moves.specs.Ends as ends
use Rattle.pair_rules.proofs.World.{Flying, World}
use Rattle.pair_rules.proofs.Going.{goes-none}
use Rattle.pair_rules.proofs.First.{nothing_flies}
use Rattle.pair_rules.proofs.Standing.{rests, world_of}
use Rattle.neighbour_rules.specs.Anew.{Change, Steps, NearRestarts, FarRestarts, NearGivesUp, FarGivesUp, after_all, after_change, begun_anew, given_up, restarted}
use Rattle.neighbour_rules.specs.Neighbours.{Step, after_steps}
use Rattle.neighbour_rules.proofs.Counted.{base-same, no_base, no_counts}
use Rattle.neighbour_rules.proofs.World.{reading, shown}
use Rattle.neighbour_rules.proofs.Good.{Good}
use Rattle.neighbour_rules.proofs.Adjacents.{first-knows}
use Rattle.neighbour_rules.proofs.Asked.{AreEnds, IsAsked, aside, ends-turned, step-ends}
use Rattle.neighbour_rules.proofs.Staying.{with_settings, written}
use Rattle.neighbour_rules.proofs.Sharing.{AreFacing, AreOwn, facing_back, far_joint, from_first, near_joint}
use Rattle.neighbour_rules.proofs.First.{first-good}
use Rattle.neighbour_rules.proofs.Standing.{Stands, regood}
use Rattle.neighbour_rules.proofs.AllSteps.{stands-turned, steps-stand, turn-stands}
use Rattle.neighbour_rules.proofs.Promised.{first-stands, no-texts}

-- the moves begin with some pair
abbrev pub begun : (c z : Configuration) (start : Pair) → AreFacing c z → AreFacing c z
begun c z start a = record (from_first c z a) { start = start }

pub record Works (c z : Configuration) (a : AreFacing c z) (p : PairState) : Type 0 where
  pub start : Pair
  pub own : AreOwn c z a
  pub stands : Stands c z (begun c z start a) p

works-turned : (c z : Configuration) (a : AreFacing c z) (p : PairState) → Works c z a p → Works z c (facing_back c z a) (turned p)
works-turned c z a p w = record { start = ends.turned w.start; own = record { there = w.own.back; back = w.own.there }; stands = stands-turned c z (begun c z w.start a) p w.stands }

-- ---- what is done at the near end

still-false : (flags : List Bool) (link i : ℕ) → slice_index_or flags i false ≡ false → slice_index_or (slice_set flags link false) i false ≡ false
still-false [] link i e = e
still-false (b ∷ flags) zero zero e = refl
still-false (b ∷ flags) zero (suc i) e = e
still-false (b ∷ flags) (suc link) zero e = e
still-false (b ∷ flags) (suc link) (suc i) e = still-false flags link i e

module _ (c z : Configuration) (a : AreFacing c z) (q : PairState) (w : Works c z a (with_settings c z q)) where
  abbrev p : PairState
  p = with_settings c z q

  abbrev s : Stands c z (begun c z w.start a) p
  s = w.stands

  -- it starts again
  abbrev new-world : World
  new-world = world_of (restarted p) nothing_flies s.to_far

  new-good : Good c z (near_joint c z (from_first c z a)) new-world
  new-good =
      let g : Good c z (near_joint c z (from_first c z a)) _ = first-good c z (near_joint c z (from_first c z a)) (base-same no_counts) in
      record {
        fits = g.fits;
        counted = g.counted;
        route = g.route;
        settled = g.settled;
        silent = g.silent;
        queued = g.queued;
        elsewhere = g.elsewhere;
        held = g.held;
        loose = g.loose;
        arrived = g.arrived;
        coming = g.coming;
      }

  new-works : Works c z a (restarted p)
  new-works = record {
    own = w.own;
    start = shown c z a.near_set a.far_set (no_base a.base.there a.base.back) new-world;
    stands = record {
      near_settings = refl;
      far_settings = refl;
      near_waits = refl;
      far_waits = s.far_waits;
      near_knows = first-knows c a.near_well;
      far_knows = s.far_knows;
      to_near = nothing_flies;
      to_far = s.to_far;
      near_texts = record { statuses = no-texts c; user_data = no-texts c };
      far_texts = s.far_texts;
      near_flags = length-replicate (length c.links) false;
      far_flags = s.far_flags;
      near_quiet = λ link away. record { user_data = refl; statuses = refl };
      far_quiet = s.far_quiet;
      near_alone = λ link away. each-replicate (λ (b : Bool). b ≡ false) (length c.links) link false refl;
      far_alone = s.far_alone;
      near_good = new-good;
      far_good = regood z c (far_joint c z (from_first c z a)) (rests p.far) (rests p.near) _ s.to_far s.to_near _ _ _ _ _ s.far_good;
      goes = goes-none (reading c.own z.own a.base) _;
    };
  }

  -- it gives up following the other
  module _ (link : ℕ) where
    abbrev flags : List Bool
    flags = slice_set p.near.following link false

    left-works : Works c z a (given_up link p)
    left-works = record {
      own = w.own;
      start = shown c z a.near_set a.far_set (no_base a.base.there a.base.back) (world_of (given_up link p) s.to_near s.to_far);
      stands = record {
        near_settings = refl;
        far_settings = refl;
        near_waits = s.near_waits;
        far_waits = s.far_waits;
        near_knows = s.near_knows;
        far_knows = s.far_knows;
        to_near = s.to_near;
        to_far = s.to_far;
        near_texts = s.near_texts;
        far_texts = s.far_texts;
        near_flags = length-set p.near.following link false ∙ s.near_flags;
        far_flags = s.far_flags;
        near_quiet = s.near_quiet;
        far_quiet = s.far_quiet;
        near_alone = λ i away. still-false p.near.following link i (s.near_alone i away);
        far_alone = s.far_alone;
        near_good = regood c z (near_joint c z (from_first c z a)) (rests p.near) (rests p.far) _ s.to_near s.to_far _ _ _ _ _ s.near_good;
        far_good = regood z c (far_joint c z (from_first c z a)) (rests p.far) (rests p.near) _ s.to_far s.to_near _ _ _ _ _ s.far_good;
        goes = goes-none (reading c.own z.own a.base) _;
      };
    }

-- its books, and those of the far end, begin anew
anew-good : (c z : Configuration) (a : AreFacing c z) (q : PairState) (f g : Flying) → Good c z (near_joint c z (from_first c z a)) (world_of (with_settings c z q) f g)
    → Good c z (near_joint c z (from_first c z a)) (world_of (begun_anew (with_settings c z q)) f g)
anew-good c z a q f g h = record {
  fits = h.fits;
  counted = h.counted;
  route = h.route;
  settled = h.settled;
  silent = h.silent;
  queued = h.queued;
  elsewhere = h.elsewhere;
  held = h.held;
  loose = h.loose;
  arrived = h.arrived;
  coming = h.coming;
}

module _ (c z : Configuration) (a : AreFacing c z) (q : PairState) (w : Works c z a (with_settings c z q)) where
  abbrev one : PairState
  one = with_settings c z q

  begun-works : Works c z a (begun_anew one)
  begun-works =
      let s : Stands c z (begun c z w.start a) one = w.stands in
      record {
        own = w.own;
        start = shown c z a.near_set a.far_set (no_base a.base.there a.base.back) (world_of (begun_anew one) s.to_near s.to_far);
        stands = record {
          near_settings = refl;
          far_settings = refl;
          near_waits = s.near_waits;
          far_waits = s.far_waits;
          near_knows = s.near_knows;
          far_knows = s.far_knows;
          to_near = s.to_near;
          to_far = s.to_far;
          near_texts = s.near_texts;
          far_texts = s.far_texts;
          near_flags = s.near_flags;
          far_flags = s.far_flags;
          near_quiet = s.near_quiet;
          far_quiet = s.far_quiet;
          near_alone = s.near_alone;
          far_alone = s.far_alone;
          near_good = anew-good c z a q s.to_near s.to_far s.near_good;
          far_good = anew-good z c (facing_back c z a) (turned q) s.to_far s.to_near s.far_good;
          goes = goes-none (reading c.own z.own a.base) _;
        };
      }

-- ---- each change

module _ (c z : Configuration) (a : AreFacing c z) (p : PairState) (w : Works c z a p) where
  is-written : p ≡ with_settings c z p
  is-written = written c z p w.stands.near_settings w.stands.far_settings

  restarted-works : Works c z a (restarted p)
  restarted-works = subst (λ (x : PairState). Works c z a (restarted x)) (sym is-written) (new-works c z a p (subst (Works c z a) is-written w))

  given_up-works : (link : ℕ) → Works c z a (given_up link p)
  given_up-works link =
      subst (λ (x : PairState). Works c z a (given_up link x)) (sym is-written) (left-works c z a p (subst (Works c z a) is-written w) link)

  pub anew-works : Works c z a (begun_anew p)
  anew-works = subst (λ (x : PairState). Works c z a (begun_anew x)) (sym is-written) (begun-works c z a p (subst (Works c z a) is-written w))

pub change-works : (c z : Configuration) (a : AreFacing c z) (change : Change) (p : PairState) → Works c z a p → Works c z a (after_change change p)
change-works c z a (Steps step) p w = record { start = w.start; own = w.own; stands = turn-stands c z (begun c z w.start a) (record { there = w.own.there; back = w.own.back }) step p w.stands }
change-works c z a NearRestarts p w = restarted-works c z a p w
change-works c z a FarRestarts p w =
    works-turned z c (facing_back c z a) (restarted (turned p)) (restarted-works z c (facing_back c z a) (turned p) (works-turned c z a p w))
change-works c z a (NearGivesUp link) p w = given_up-works c z a p w link
change-works c z a (FarGivesUp link) p w =
    works-turned z c (facing_back c z a) (given_up link (turned p)) (given_up-works z c (facing_back c z a) (turned p) (works-turned c z a p w) link)

pub all-changes-work : (c z : Configuration) (a : AreFacing c z) (changes : List Change) (p : PairState) → Works c z a p → Works c z a (after_all changes p)
all-changes-work c z a [] p w = w
all-changes-work c z a (change ∷ changes) p w = all-changes-work c z a changes (after_change change p) (change-works c z a change p w)

pub first-works : (c z : Configuration) (a : AreFacing c z) → AreOwn c z a → Works c z a (first_pair c z)
first-works c z a own = record { start = (from_first c z a).start; own = own; stands = first-stands c z a }

pub all-work : (c z : Configuration) (a : AreFacing c z) → AreOwn c z a → (changes : List Change) → Works c z a (after_all changes (first_pair c z))
all-work c z a own changes = all-changes-work c z a changes (first_pair c z) (first-works c z a own)

pub steps-work : (c z : Configuration) (a : AreFacing c z) (steps : List Step) (p : PairState) → Works c z a p → Works c z a (after_steps steps p)
steps-work c z a steps p w = record { start = w.start; own = w.own; stands = steps-stand c z (begun c z w.start a) (record { there = w.own.there; back = w.own.back }) steps p w.stands }

-- ---- what the ends were asked

anew-asked : (c : Configuration) (a : Abstract) → a.settings ≡ c → IsAsked c (first_state a.settings)
anew-asked c a e = record { asked = []; is = ap first_state e; settings = e }

restarted-ends : (c z : Configuration) (p : PairState) → AreEnds c z p → AreEnds c z (restarted p)
restarted-ends c z p t = record {
  near_is = record {
    exchange = anew-asked c p.near.exchange t.near_is.exchange.settings;
    accepted = t.near_is.accepted;
    received = t.near_is.received;
  };
  far_is = t.far_is;
}

given_up-ends : (c z : Configuration) (link : ℕ) (p : PairState) → AreEnds c z p → AreEnds c z (given_up link p)
given_up-ends c z link p t = record { near_is = aside c z p.near t.near_is _ _; far_is = t.far_is }

change-ends : (c z : Configuration) (change : Change) (p : PairState) → AreEnds c z p → AreEnds c z (after_change change p)
change-ends c z (Steps step) p t = step-ends c z step p t
change-ends c z NearRestarts p t = restarted-ends c z p t
change-ends c z FarRestarts p t = ends-turned z c (restarted (turned p)) (restarted-ends z c (turned p) (ends-turned c z p t))
change-ends c z (NearGivesUp link) p t = given_up-ends c z link p t
change-ends c z (FarGivesUp link) p t = ends-turned z c (given_up link (turned p)) (given_up-ends z c link (turned p) (ends-turned c z p t))

pub all-changes-end : (c z : Configuration) (changes : List Change) (p : PairState) → AreEnds c z p → AreEnds c z (after_all changes p)
all-changes-end c z [] p t = t
all-changes-end c z (change ∷ changes) p t = all-changes-end c z changes (after_change change p) (change-ends c z change p t)
