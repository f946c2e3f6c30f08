-- From every quiet pair on both promises hold anew.
use Rattle.pair_rules.proofs.Basics.{◌≡◌, ◌<◌, ◌≤◌, ◌&&◌, ℕ, Bool, true, false, List, length, nat_lt, refl, ap, sym, subst, ◌∙◌, arith, nat_tests}
use Rattle.std.proofs.lemmas.List.Elements.{All-nil}
use Rattle.pair_rules.proofs.Definitions.{Configuration, is_outstanding, Link, down_link, is_down, Standing, no_changeover, may_restart, changeover_of, Pair, PairState, first_pair, may_open_at, turned, each-replicate}
use Rattle.exchange_rules.specs.First.{first_parts}
use Rattle.pair_moves.specs.Quiet.{IsQuiet}
use Rattle.pair_rules.specs.Accepting.{IsUserMessageTo}
use Rattle.pair_rules.proofs.Going.{goes-none}
use Rattle.pair_rules.proofs.Standing.{world_of}
use Rattle.neighbour_rules.specs.Neighbours.{Step, after_steps}
use Rattle.neighbour_rules.specs.Promises.{AreBooked, EachOnce, InOrder}
use Rattle.neighbour_rules.specs.Laws.{AreFinal, IsCarried, MovesLacked, NoneIsLeft}
use Rattle.neighbour_rules.specs.Anew.{BothKeep, HoldAnew, IsQuietEnd, IsQuietPair, KeepsPromises, LostNothingSince, Stays, after_all, begun_anew, most, pairs_begin_quietly, promises_begin_anew, times_late, times_lost}
use Rattle.neighbour_rules.proofs.Counted.{Base, CanGrow, IsBase, counts_of}
use Rattle.neighbour_rules.proofs.World.{reading, shown}
use Rattle.neighbour_rules.proofs.Good.{Good}
use Rattle.neighbour_rules.proofs.Asked.{AreEnds, begin-ends, ends-turned, steps-ends}
use Rattle.neighbour_rules.proofs.Staying.{are-booked, with_settings, written}
use Rattle.neighbour_rules.proofs.Sharing.{AreFacing, are-facing, facing_back, far_joint, near_joint, facing-own}
use Rattle.neighbour_rules.proofs.Standing.{Since, Stands, since-back}
use Rattle.neighbour_rules.proofs.AllSteps.{stands-turned, steps-stand}
use Rattle.neighbour_rules.proofs.Promised.{once-there, order-there}
use Rattle.neighbour_rules.proofs.FourLaws.{carried-there, final-there, lacked-there, left-there}
use Rattle.neighbour_rules.proofs.Restarted.{Works, all-changes-end, all-work, begun}
use Rattle.neighbour_rules.proofs.Quieted.{quiet-shown}

-- ---- what stands keeps its promises

module _ (c z : Configuration) (a : AreFacing c z) (q : PairState) (s : Stands c z a q) (since : Since c z a q) (t : AreEnds c z q) (own : a.base.there ≡ z.own) where
  abbrev r : PairState
  r = with_settings c z q

  is-written : q ≡ r
  is-written = written c z q s.near_settings s.far_settings

  stands-written : Stands c z a r
  stands-written = subst (Stands c z a) is-written s

  ends-written : AreEnds c z r
  ends-written = subst (AreEnds c z) is-written t

  since-written : Since c z a r
  since-written = record { quiet = since.quiet; near = since.near; far = since.far }

  -- as the settings are written out
  so : (Statement : PairState → Type 0) → Statement r → Statement q
  so Statement h = subst Statement (sym is-written) h

  near-booked : AreBooked r
  near-booked = are-booked c z r ends-written

  far-booked : AreBooked (turned r)
  far-booked = are-booked z c (turned r) (ends-turned c z r ends-written)

  in-order : nat_lt a.base.near.late (times_late q) ≡ false → InOrder q
  in-order punctual = so InOrder (order-there c z a q stands-written since-written own near-booked far-booked punctual)

  -- order is kept from where the late ones were counted on
  keeps : (p : PairState) → (Stays (times_late p) (times_late q) → InOrder q) → KeepsPromises p q
  keeps p order = record {
    once = so EachOnce (once-there c z a q stands-written since-written own near-booked far-booked);
    order = order;
    carried = so IsCarried (carried-there c z a q stands-written since-written);
    left = so NoneIsLeft (left-there c z a q stands-written since-written);
    final = so AreFinal (final-there c z a q stands-written since-written);
    moved = so MovesLacked (lacked-there c z a q stands-written since-written);
  }

-- ---- the moves begin anew

not-more : (n : ℕ) → nat_lt n n ≡ false
not-more n = grind (arith, nat_tests)

not-since : (before after : ℕ) → Stays before after → nat_lt before after ≡ false
not-since before after h = subst (λ (n : ℕ). nat_lt before n ≡ false) (sym h.same) (not-more before)

module _ (c z : Configuration) (a : AreFacing c z) (q : PairState) (w : Works c z a (with_settings c z q)) (t : AreEnds c z (with_settings c z q)) (quiet : IsQuietPair (with_settings c z q)) where
  abbrev p : PairState
  p = with_settings c z q

  abbrev s : Stands c z (begun c z w.start a) p
  s = w.stands

  -- its ends had counted no less than this
  record Bases : Type 0 where
    base : Base
    near_grows : CanGrow base.near
    far_grows : CanGrow base.far
    near : IsBase base.near (counts_of p.near.exchange.node.parts)
    far : IsBase base.far (counts_of p.far.exchange.node.parts)
    near_given : (code : ℕ) → is_outstanding p.near.exchange.node.parts.codes a.near_set code ≡ base.near_given_up code
    far_given : (code : ℕ) → is_outstanding p.far.exchange.node.parts.codes a.far_set code ≡ base.far_given_up code

  module _ (b : Bases) where
    abbrev based : Base
    based = record b.base { there = a.base.there; back = a.base.back }

    abbrev view : Pair
    view = shown c z a.near_set a.far_set based (world_of (begun_anew p) s.to_near s.to_far)

    abbrev anew : AreFacing c z
    anew = record a { base = based; near_grows = b.near_grows; far_grows = b.far_grows; start = view }

    quietly : IsQuiet (reading c.own z.own based) view
    quietly =
        quiet-shown c z a q s.near_good.fits s.far_good.fits t.near_is.exchange t.far_is.exchange s.near_flags s.far_flags quiet based w.own.there w.own.back b.near_given b.far_given s.to_near s.to_far

    begins : Stands c z anew (begun_anew p)
    begins = record {
      near_settings = refl;
      far_settings = refl;
      near_waits = s.near_waits;
      far_waits = s.far_waits;
      near_knows = s.near_knows;
      far_knows = s.far_knows;
      to_near = s.to_near;
      to_far = s.to_far;
      near_texts = s.near_texts;
      far_texts = s.far_texts;
      near_flags = s.near_flags;
      far_flags = s.far_flags;
      near_quiet = s.near_quiet;
      far_quiet = s.far_quiet;
      near_alone = s.near_alone;
      far_alone = s.far_alone;
      near_good = (let g : Good c z (near_joint c z (begun c z w.start a)) (world_of p s.to_near s.to_far) = s.near_good in record {
        fits = g.fits;
        counted = b.near;
        route = record { beyond = g.route.beyond; between = g.route.between };
        settled = g.settled;
        silent = g.silent;
        queued = g.queued;
        elsewhere = g.elsewhere;
        held = g.held;
        loose = g.loose;
        arrived = g.arrived;
        coming = g.coming;
      });
      far_good = (let g : Good z c (far_joint c z (begun c z w.start a)) (world_of (turned p) s.to_far s.to_near) = s.far_good in record {
        fits = g.fits;
        counted = b.far;
        route = record { beyond = g.route.beyond; between = g.route.between };
        settled = g.settled;
        silent = g.silent;
        queued = g.queued;
        elsewhere = g.elsewhere;
        held = g.held;
        loose = g.loose;
        arrived = g.arrived;
        coming = g.coming;
      });
      goes = goes-none (reading c.own z.own a.base) view;
    }

  module _ (steps : List Step) (since : LostNothingSince p (after_steps steps (begun_anew p))) where
    abbrev later : PairState
    later = after_steps steps (begun_anew p)

    later-ends : AreEnds c z later
    later-ends =
        steps-ends c z steps (begun_anew p) (record {
          near_is = record { exchange = t.near_is.exchange; accepted = All-nil (IsUserMessageTo z.own); received = All-nil (IsUserMessageTo c.own) };
          far_is = record { exchange = t.far_is.exchange; accepted = All-nil (IsUserMessageTo c.own); received = All-nil (IsUserMessageTo z.own) };
        })

    -- losses are counted on, and what is late from these counts
    abbrev counted : (near_late far_late : ℕ) → near_late < most → far_late < most → (near_late ≤ times_late p) → (far_late ≤ times_late (turned p)) → Bases
    counted near_late far_late near_grows far_grows near far = record {
      base = record {
        near = record { lost = times_lost p; late = near_late };
        far = record { lost = times_lost (turned p); late = far_late };
        near_given_up = λ code. is_outstanding p.near.exchange.node.parts.codes a.near_set code;
        far_given_up = λ code. is_outstanding p.far.exchange.node.parts.codes a.far_set code;
        there = a.base.there;
        back = a.base.back;
      };
      near_grows = record { lost = since.near.countable; late = near_grows };
      far_grows = record { lost = since.far.countable; late = far_grows };
      near = record { lost = omega arith; late = near };
      far = record { lost = omega arith; late = far };
      near_given = λ code. refl;
      far_given = λ code. refl;
    }

    module _ (near_late far_late : ℕ) (near_grows : near_late < most) (far_grows : far_late < most) (near : near_late ≤ times_late p) (far : far_late ≤ times_late (turned p)) where
      abbrev b : Bases
      b = counted near_late far_late near_grows far_grows near far

      later-stands : Stands c z (anew b) later
      later-stands = steps-stand c z (anew b) (record { there = w.own.there; back = w.own.back }) steps (begun_anew p) (begins b)

      later-since : Since c z (anew b) later
      later-since = record { quiet = quietly b; near = not-since _ _ since.near; far = not-since _ _ since.far }

      back-stands : Stands z c (facing_back c z (anew b)) (turned later)
      back-stands = stands-turned c z (anew b) later later-stands

      back-since : Since z c (facing_back c z (anew b)) (turned later)
      back-since = since-back c z (anew b) later later-since

      order-on : nat_lt near_late (times_late later) ≡ false → InOrder later
      order-on punctual = in-order c z (anew b) later later-stands later-since later-ends w.own.there punctual

      order-back : nat_lt far_late (times_late (turned later)) ≡ false → InOrder (turned later)
      order-back punctual = in-order z c (facing_back c z (anew b)) (turned later) back-stands back-since (ends-turned c z later later-ends) w.own.back punctual

      both-with : (Stays (times_late p) (times_late later) → InOrder later) → (Stays (times_late (turned p)) (times_late (turned later)) → InOrder (turned later)) → BothKeep p later
      both-with there back = record {
        there = keeps c z (anew b) later later-stands later-since later-ends w.own.there p there;
        back = keeps z c (facing_back c z (anew b)) (turned later) back-stands back-since (ends-turned c z later later-ends) w.own.back (turned p) back;
      }

    both-keep : BothKeep p later
    both-keep =
        both-with 0 0 (omega arith) (omega arith) (omega arith) (omega arith)
        (λ late. order-on (times_late p) 0 late.countable (omega arith) (omega arith) (omega arith) (not-since _ _ late))
        (λ late. order-back 0 (times_late (turned p)) (omega arith) late.countable (omega arith) (omega arith) (not-since _ _ late))

pub begins-anew : promises_begin_anew
begins-anew near far changes g quiet steps since =
    let p : PairState = after_all changes (first_pair near far) in
    let a : AreFacing near far = are-facing near far g in
    let t : AreEnds near far p = all-changes-end near far changes (first_pair near far) (begin-ends near far) in
    by near far a p (all-work near far a (facing-own near far g) changes) t quiet steps since
  where
    by : (c z : Configuration) (a : AreFacing c z) (p : PairState) → Works c z a p → AreEnds c z p → IsQuietPair p → HoldAnew p
    by c z a p w t quiet =
        let e : p ≡ with_settings c z p = written c z p w.stands.near_settings w.stands.far_settings in
        subst HoldAnew (sym e) (both-keep c z a p (subst (Works c z a) e w) (subst (AreEnds c z) e t) (subst IsQuietPair e quiet))

-- ---- at first

pub first-may : (c z : Configuration) (link : ℕ) → may_open_at (first_pair c z).near link ≡ true
first-may c z link =
    ap (λ (x : Link). is_down x.alignment && may_restart (changeover_of (first_parts c) link))
    (each-replicate (λ (x : Link). x ≡ down_link) (length c.links) link down_link refl)
    ∙ ap (λ (x : Standing). true && may_restart x)
    (each-replicate (λ (x : Standing). x ≡ no_changeover) (length c.links) link no_changeover refl)

first-quiet : (c z : Configuration) → IsQuietEnd (first_pair c z)
first-quiet c z = record {
  links = λ link other e. (first-may c z link, each-replicate (λ (b : Bool). b ≡ false) (length c.links) link false refl);
  held = refl;
}

pub begin-quietly : pairs_begin_quietly
begin-quietly near far = record { there = first-quiet near far; back = first-quiet far near }
