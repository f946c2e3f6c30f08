-- A link opens at one end: by one move.
use Rattle.pair_rules.proofs.Basics.{◌≡◌, ◌≢◌, ◌<◌, ◌&&◌, ℕ, Bool, true, false, not, List, length, refl, ap, sym, subst, ◌∙◌, nat_lt, arith, if◌then◌else◌, and_parts, nat_tests}
use Rattle.pair_rules.proofs.Definitions.{period_of, Handled, Configuration, first_queue, Standing, may_restart, Alignment, Link, down_link, is_down, is_in_service, opened_by, serving_alike, Nothing, Open, Close, Node, Parts, Done, answer, down, is_link, link_at, WholeQueues, queue_at, whole, changeover_of, association_up, may_open, open_link, wanted, wanted_down, facts, sets_in, Fits, MayOpen, opened_end}
use Rattle.pair_rules.proofs.Deliveries.{serving-up}
use Rattle.pair_rules.proofs.World.{Flying, World, end_of}
use Rattle.pair_rules.proofs.Lines.{end-by, end_by, link-here, link-other, queue-here, queue-other}

-- ---- a link that wants to open

pub record MayComeUp (p : Parts) (link : ℕ) : Type 0 where
  pub there : is_link p link ≡ true
  pub down : down p link ≡ true
  pub opens : may_open (link_at p link) ≡ true
  pub restarts : may_restart (changeover_of p link) ≡ true

by-active : (restarts : Bool) (l : Link) (association active : Bool) → l.association ≡ association → l.active ≡ active → (if association then Close else if active && restarts then Open else Nothing) ≡ Open
    → (may_open l ≡ true) × (restarts ≡ true)
by-active restarts l true active e f h = absurd cc
by-active true l false true e f h = (ap (λ (b : Bool). not b && l.active) e ∙ f, refl)
by-active false l false true e f h = absurd cc
by-active restarts l false false e f h = absurd cc

pub wants-open : (p : Parts) (link : ℕ) → wanted p link ≡ Open → MayComeUp p link
wants-open p link e = by (is_link p link) (down p link) refl refl e
  where
    by : (there gone : Bool) → is_link p link ≡ there → down p link ≡ gone → (if there then (if gone then wanted_down (may_restart (changeover_of p link)) (link_at p link) else Nothing) else Nothing) ≡ Open → MayComeUp p link
    by true true f g h =
        let both : (may_open (link_at p link) ≡ true) × (may_restart (changeover_of p link) ≡ true) =
        by-active (may_restart (changeover_of p link)) (link_at p link) (link_at p link).association (link_at p link).active refl refl h in
        record { there = f; down = g; opens = both.0; restarts = both.1 }
    by true false f g h = absurd cc
    by false gone f g h = absurd cc

restarts-complete : (s : Standing) → may_restart s ≡ true → s.incomplete ≡ false
restarts-complete s e = by s.incomplete s.awaited e
  where
    by : (a b : Bool) → (not a && not b) ≡ true → a ≡ false
    by true b f = absurd cc
    by false b f = refl

restarts-unawaited : (s : Standing) → may_restart s ≡ true → s.awaited ≡ false
restarts-unawaited s e = by s.incomplete s.awaited e
  where
    by : (a b : Bool) → (not a && not b) ≡ true → b ≡ false
    by true b f = absurd cc
    by false true f = absurd cc
    by false false f = refl

down-unserved : (a : Alignment) → is_down a ≡ true → is_in_service a ≡ false
down-unserved a e = by (is_in_service a) refl
  where
    by : (b : Bool) → is_in_service a ≡ b → b ≡ false
    by true f = (let no : true ≡ false = sym e ∙ serving-up a f in absurd cc)
    by false f = refl

-- an association comes up there
pub came-up : (c : Configuration) (n : Node WholeQueues) (link : ℕ) → MayComeUp n.parts link → association_up whole c link n ≡ answer Handled (open_link whole c link n)
came-up c n link m =
    if-true (is_link n.parts link) _ _ m.there ∙ if-true (may_open (link_at n.parts link)) _ _ m.opens ∙ if-true (may_restart (changeover_of n.parts link)) _ _ m.restarts
  where
    if-true : (b : Bool) (x y : Done WholeQueues) → b ≡ true → (if b then x else y) ≡ x
    if-true true x y e = refl
    if-true false x y e = absurd cc

-- ---- one end

module _ (c z : Configuration) (n : Node WholeQueues) (link : ℕ) (m : MayComeUp n.parts link) where
  abbrev o : Node WholeQueues
  o = open_link whole c link n

  pub listed : Fits c n → link < length c.links
  listed f = subst (λ (k : ℕ). link < k) f.places.parts.links (is-below link (length n.parts.links) m.there)
    where
      is-below : (a b : ℕ) → nat_lt a b ≡ true → a < b
      is-below a b h = grind (arith, nat_tests, h)

  pub opened-here : Fits c n → end_of o link ≡ opened_end
  opened-here f =
      end-by c z n o link first_queue (opened_by c (period_of c link n.parts) (link_at n.parts link)) (changeover_of n.parts link) (queue-here c z n link first_queue f (listed f))
      (link-here c z n.parts link (opened_by c (period_of c link n.parts) (link_at n.parts link)) (subst (λ (k : ℕ). link < k) (sym f.places.parts.links) (listed f))) refl
      ∙ ap (λ (b : Bool). end_by c z first_queue (opened_by c (period_of c link n.parts) (link_at n.parts link)) (record { incomplete = b; awaited = (changeover_of n.parts link).awaited })) (restarts-complete (changeover_of n.parts link) m.restarts)
      ∙ ap (λ (b : Bool). end_by c z first_queue (opened_by c (period_of c link n.parts) (link_at n.parts link)) (record { incomplete = false; awaited = b })) (restarts-unawaited (changeover_of n.parts link) m.restarts)

  pub opened-other : (other : ℕ) → other ≢ link → end_of o other ≡ end_of n other
  opened-other other d =
      end-by c z n o other (queue_at n.queues other) (link_at n.parts other) (changeover_of n.parts other) (queue-other c z n.queues link other first_queue d)
      (link-other c z n.parts link other (opened_by c (period_of c link n.parts) (link_at n.parts link)) d) refl

  pub opened-known : facts c o.parts ≡ facts c n.parts
  opened-known =
      ap (λ (serving : List Bool). record { sets = sets_in c; in_service = serving; routes = n.parts.routes })
      (serving_alike n.parts.links link down_link (opened_by c (period_of c link n.parts) (link_at n.parts link)) (sym (ap (λ (b : Bool). b && not (link_at n.parts link).untested) (down-unserved (link_at n.parts link).alignment m.down))))

  pub may_open-end : MayOpen (end_of n link)
  may_open-end = record {
    down = ap not m.down;
    complete = restarts-complete (changeover_of n.parts link) m.restarts;
    unawaited = restarts-unawaited (changeover_of n.parts link) m.restarts;
  }

-- and of the far end it is enough that it may
pub may_open-at : (n : Node WholeQueues) (link : ℕ) → (down n.parts link && may_restart (changeover_of n.parts link)) ≡ true → MayOpen (end_of n link)
may_open-at n link e =
    let both : (down n.parts link ≡ true) × (may_restart (changeover_of n.parts link) ≡ true) = and_parts (down n.parts link) (may_restart (changeover_of n.parts link)) e in
    record {
      down = ap not both.0;
      complete = restarts-complete (changeover_of n.parts link) both.1;
      unawaited = restarts-unawaited (changeover_of n.parts link) both.1;
    }

-- the world after a link opened at the near end
abbrev pub opened_near : Configuration → World → (link : ℕ) → (near_may far_may : ℕ → Bool) → (to_near to_far : Flying) → World
opened_near c w link near_may far_may to_near to_far = record {
  near = record w.near { node = open_link whole c link w.near.node };
  far = w.far;
  to_near = to_near;
  to_far = to_far;
  near_may = near_may;
  far_may = far_may;
}
