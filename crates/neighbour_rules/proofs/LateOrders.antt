-- An order to change over goes out late, when there is a way to the link's point: by a move where the link is one of the
-- two, unseen where it leads elsewhere.
use Rattle.pair_rules.proofs.Basics.{◌≡◌, ◌≢◌, ◌<◌, ◌≤◌, not, ℕ, zero, suc, Bool, true, false, List, [], ◌∷◌, length, refl, ap, sym, subst, ◌∙◌, ⊎_elim, cases_eq, cases_lt, get_or_past, and_parts, if◌then◌else◌}
use Rattle.pair_rules.proofs.Definitions.{facts, Outcome, Refused, Queued, Held, Local, Handled, Ignored, set_timer, clear_timer, fit-steps, Message, Flow, Configuration, Running, Standing, no_changeover, with_standing, Node, with_parts, link_at, WholeQueues, queue_at, whole, changeover_of, changeover_order, peer_of, set_of, send_routed, made-management, Fits, StaysFit, Order, Pair, last_accepted}
use Rattle.changeover.specs.Changeover.{is_unasked, with_order}
use Rattle.timers.specs.declared.name.TimerName.TheVariants.{T1, T2}
use Rattle.exchange_rules.specs.ChangingOver.{has_way, is_late, order_all, order_if_late, order_late}
unfoldable use Rattle.exchange_rules.specs.ChangingOver.{order_each}
use Rattle.exchange_rules.specs.Exchange.{late_by}
use Rattle.exchange_rules.proofs.SteppingTimers.{both-timed, clear-timed, set-timed}
use Rattle.exchange_rules.proofs.LateOrders.{order_all-facts}
use Rattle.pair_moves.specs.Ends as ends
use Rattle.pair_moves.specs.LateOrders.{with_wait}
use Rattle.pair_moves.specs.Moves as moves
use Rattle.pair_rules.proofs.World.{World, end_of}
use Rattle.pair_rules.proofs.Good.{Each}
use Rattle.pair_rules.proofs.Going.{goes-one}
use Rattle.pair_rules.proofs.Lines.{end-by, end_by, standing-here, standing-other}
use Rattle.neighbour_rules.proofs.World.{code_of, line_of, reading, route_of, says_of, shown}
use Rattle.neighbour_rules.proofs.Good.{Good, IsMade, IsSent, Joint, Passes, at, made, orders, passes-both, passes-good, passes-none, set}
use Rattle.neighbour_rules.proofs.Lines.{at-line, becomes, own-line, standing-settled}
use Rattle.neighbour_rules.proofs.Made.{adjacent-fits, made-brief, past-other, word-made, word-says}
use Rattle.neighbour_rules.proofs.Messages.{making, send_routed-passes}
use Rattle.neighbour_rules.proofs.Falling.{holds-alike, order_fits, order_word, to_far}
use Rattle.neighbour_rules.proofs.Failures.{other-peer}
use Rattle.neighbour_rules.proofs.Unseen.{own, unseen-passes}

module _ (c z : Configuration) (j : Joint c z) where
  -- a link whose changeover isn't complete is one of the settings
  pub begun-listed : (n : Node WholeQueues) (link : ℕ) → Fits c n → (changeover_of n.parts link).incomplete ≡ true → link < length c.links
  begun-listed n link f e =
      ⊎_elim (λ (l : link < length c.links). l)
      (λ (l : length c.links ≤ link).
      let past : changeover_of n.parts link ≡ no_changeover = get_or_past n.parts.changeovers link no_changeover (subst (λ (k : ℕ). k ≤ link) (sym f.places.parts.changeovers) l) in
      let no : true ≡ false = sym e ∙ ap (λ (s : Standing). s.incomplete) past in
      absurd cc)
      (cases_lt link (length c.links))

  -- the node once the answer is awaited
  abbrev pub awaiting : ℕ → Standing → Running → Node WholeQueues → Node WholeQueues
  awaiting link s t n = with_parts n (record n.parts { changeovers = with_standing n.parts.changeovers link s; timers = t })

  module _ (w : World) (n : Node WholeQueues) (arrived : List Message) (link : ℕ) (s : Standing) (t : Running) (incomplete : (changeover_of n.parts link).incomplete ≡ true) where
    abbrev after : Node WholeQueues
    after = awaiting link s t n

    abbrev order : Message
    order = changeover_order c link (whole.last_accepted n.queues link)

    after-other : (other : ℕ) → other ≢ link → end_of after other ≡ end_of n other
    after-other other d = end-by c z n after other (queue_at n.queues other) (link_at n.parts other) (changeover_of n.parts other) refl refl (standing-other c z n.parts link other s d)

    -- as the move says it
    after-here : Fits c n → link < length c.links → set_of c link ≡ set c z j → s.incomplete ≡ true → s.awaited ≡ true
        → end_of after link ≡ (with_wait (line_of c z (set c z j) j.shares.far_set (at c z j w n arrived []) (code_of c link))).near
    after-here f l its still awaits =
        end-by c z n after link (queue_at n.queues link) (link_at n.parts link) s refl refl (standing-here c z n.parts link s (subst (λ (k : ℕ). link < k) (sym f.places.parts.changeovers) l))
        ∙ ap (λ (b : Bool). end_by c z (queue_at n.queues link) (link_at n.parts link) (record s { incomplete = b })) (still ∙ sym incomplete)
        ∙ ap (λ (b : Bool). record (end_of n link) { awaited = b }) awaits
        ∙ ap (λ (k : ℕ). record (end_of n k) { awaited = true }) (sym (own-line c j.near_well (set c z j) link l its))

    after-good : (next : List Message) → StaysFit c n after → Each (IsSent c z j.base.there (set c z j)) next → Good c z j (at c z j w n arrived []) → Good c z j (at c z j w after arrived next)
    after-good next stay m g = record {
      fits = stay.stay g.fits;
      route = g.route;
      settled = standing-settled c z n.parts link s incomplete g.settled;
      silent = g.silent;
      queued = g.queued;
      elsewhere = g.elsewhere;
      held = g.held;
      loose = m;
      arrived = g.arrived;
      coming = g.coming;
      counted = g.counted;
    }

    -- ---- a link between the two

    ordering : set_of c link ≡ set c z j → (changeover_of n.parts link).awaited ≡ false → s.incomplete ≡ true → s.awaited ≡ true → StaysFit c n after
        → Passes c z j (at c z j w n arrived []) (at c z j w after arrived (order ∷ []))
    ordering its unawaited still awaits stay = record {
      goes = λ g.
          let l : link < length c.links = begun-listed n link g.fits incomplete in
          let mine : own c z j (code_of c link) ≡ link = own-line c j.near_well (set c z j) link l its in
          let done : Pair = shown c z (set c z j) j.shares.far_set j.base (at c z j w after arrived (order ∷ [])) in
          goes-one (reading c.own z.own j.base) (shown c z (set c z j) j.shares.far_set j.base (at c z j w n arrived [])) done
          (moves.orders_late (record {
            link = code_of c link;
            incomplete = ap (λ (k : ℕ). (changeover_of n.parts k).incomplete) mine ∙ incomplete;
            unawaited = ap (λ (k : ℕ). (changeover_of n.parts k).awaited) mine ∙ unawaited;
            order = order;
            says = ap (says_of c.own z.own j.base.there) (to_far c z j link (whole.last_accepted n.queues link) its) ∙ word-says c z j (order_word c z j link n) (order_fits c z j link n)
                ∙ ap (λ (k : ℕ). Order (code_of c link) (last_accepted (queue_at n.queues k))) (sym mine);
            lines = line_of c z (set c z j) j.shares.far_set (at c z j w after arrived (order ∷ []));
            set = becomes c z j (at c z j w n arrived []) after arrived (order ∷ []) (route_of c j.base.there (set c z j) n.parts) link
                (with_wait (line_of c z (set c z j) j.shares.far_set (at c z j w n arrived []) (code_of c link))).near l its
                (after-here g.fits l its still awaits)
                after-other;
            after = ap (λ (h : ends.Procedure → Flow → Bool). record done { near = record done.near { holds = h } }) (holds-alike c z j n.parts after.parts refl);
          }));
      good = λ g.
          let l : link < length c.links = begun-listed n link g.fits incomplete in
          after-good (order ∷ []) stay (
            made (subst (IsMade c z (set c z j)) (sym (to_far c z j link (whole.last_accepted n.queues link) its))
                (word-made c z j (order_word c z j link n) (order_fits c z j link n) (orders link (whole.last_accepted n.queues link) l its))),
            tt,
          ) g;
    }

    -- ---- a link that leads elsewhere

    ordering-elsewhere : set_of c link ≢ set c z j → StaysFit c n after → Passes c z j (at c z j w n arrived []) (at c z j w after arrived (order ∷ []))
    ordering-elsewhere d stay = passes-both c z j _ _ _ (passes-good c z j _ _ (λ g. past (begun-listed n link g.fits incomplete)))
        (making c z j w after arrived order [] (past-other c z j (peer_of c link) (order_word c z j link n) (adjacent-fits c j.near_well (set_of c link)) (order_fits c z j link n) (other-peer c z j link d))
        (made-brief c z j (peer_of c link) (order_word c z j link n)))
      where
        past : link < length c.links → Passes c z j (at c z j w n arrived []) (at c z j w after arrived [])
        past l = unseen-passes c z j n after (record {
          fits = stay;
          queues = refl;
          alignments = λ code. refl;
          untested = λ code. refl;
          standings = λ code. standing-other c z n.parts link (own c z j code) s (λ e. d (at-line c j.near_well (set c z j) link code l e).of_set);
          holds = λ procedure sls. refl;
          codes = λ code. refl;
          lost = refl;
          late = refl;
          route = λ e. e;
          settled = standing-settled c z n.parts link s incomplete;
          silent = λ h. h;
        }) w arrived []

    -- ---- either

    pub order-late-passes : (changeover_of n.parts link).awaited ≡ false → s.incomplete ≡ true → s.awaited ≡ true → StaysFit c n after
        → Passes c z j (at c z j w n arrived []) (at c z j w (send_routed whole c order after) arrived [])
    order-late-passes unawaited still awaits stay =
        passes-both c z j _ _ _
        (⊎_elim (λ (its : set_of c link ≡ set c z j). ordering its unawaited still awaits stay)
        (λ (d : set_of c link ≢ set c z j). ordering-elsewhere d stay)
        (cases_eq (set_of c link) (set c z j)))
        (send_routed-passes c z j w after arrived order [] (made-management c (peer_of c link) (order_word c z j link n)))

  -- ---- all links about which no order went out, and that have a way

  unawaited : (b : Bool) → not b ≡ true → b ≡ false
  unawaited true e = absurd cc
  unawaited false e = refl

  one-late : (w : World) (n : Node WholeQueues) (arrived : List Message) (link : ℕ) → Passes c z j (at c z j w n arrived []) (at c z j w (order_if_late whole c link n) arrived [])
  one-late w n arrived link = by (is_late c link n.parts) refl
    where
      s : Standing
      s = changeover_of n.parts link

      stopped : Running
      stopped = clear_timer (T1 link) n.parts.timers

      t : Running
      t = set_timer (T2 link) c.timers.t2 stopped

      stay : is_unasked s ≡ true → StaysFit c n (awaiting link (with_order s) t n)
      stay e =
          (fit-steps c).both _ _ _
          ((fit-steps c).timed t n
          (both-timed n.parts.timers stopped t (clear-timed (T1 link) n.parts.timers (λ l f. cc)) (set-timed (T2 link) c.timers.t2 stopped (λ l f. cc))))
          ((fit-steps c).asked link (with_parts n (record n.parts { timers = t })) e)

      by : (b : Bool) → is_late c link n.parts ≡ b → Passes c z j (at c z j w n arrived []) (at c z j w (if b then order_late whole c link n else n) arrived [])
      by true e =
          let unasked : is_unasked s ≡ true = (and_parts (is_unasked s) (has_way c link n.parts) e).0 in
          let known : (s.incomplete ≡ true) × (not s.awaited ≡ true) = and_parts s.incomplete (not s.awaited) unasked in
          order-late-passes w n arrived link (with_order s) t known.0 (unawaited s.awaited known.1) known.0 refl (stay unasked)
      by false e = passes-none c z j (at c z j w n arrived [])

  each-late : (count : ℕ) (w : World) (n : Node WholeQueues) (arrived : List Message) → Passes c z j (at c z j w n arrived []) (at c z j w (order_each whole c count n) arrived [])
  unfolding order_each
  each-late zero w n arrived = passes-none c z j (at c z j w n arrived [])
  each-late (suc link) w n arrived = passes-both c z j _ _ _ (each-late link w n arrived) (one-late w (order_each whole c link n) arrived link)

  all-late : (w : World) (n : Node WholeQueues) (arrived : List Message) → Passes c z j (at c z j w n arrived []) (at c z j w (order_all whole c n) arrived [])
  all-late w n arrived = by c.changeover_by_any_route
    where
      by : (b : Bool) → Passes c z j (at c z j w n arrived []) (at c z j w (if b then order_each whole c (length c.links) n else n) arrived [])
      by true = each-late (length c.links) w n arrived
      by false = passes-none c z j (at c z j w n arrived [])

  -- after a tick, and after a frame that wasn't refused
  pub late_by-passes : (o : Outcome) (w : World) (n : Node WholeQueues) → Passes c z j (at c z j w n [] []) (at c z j w (late_by whole c o n) [] [])
  late_by-passes (Refused cause) w n = passes-none c z j (at c z j w n [] [])
  late_by-passes (Queued link) w n = all-late w n []
  late_by-passes Held w n = all-late w n []
  late_by-passes Local w n = all-late w n []
  late_by-passes Handled w n = all-late w n []
  late_by-passes Ignored w n = all-late w n []

-- ---- where links lead isn't changed, and without the key nothing is

module _ (c : Configuration) where
  pub late_by-facts : (o : Outcome) (n : Node WholeQueues) → facts c (late_by whole c o n).parts ≡ facts c n.parts
  late_by-facts (Refused cause) n = refl
  late_by-facts (Queued link) n = order_all-facts c n
  late_by-facts Held n = order_all-facts c n
  late_by-facts Local n = order_all-facts c n
  late_by-facts Handled n = order_all-facts c n
  late_by-facts Ignored n = order_all-facts c n

  without-key : c.changeover_by_any_route ≡ false → (n : Node WholeQueues) → order_all whole c n ≡ n
  without-key e n = ap (λ (b : Bool). if b then order_each whole c (length c.links) n else n) e

  pub none-late : c.changeover_by_any_route ≡ false → (o : Outcome) (n : Node WholeQueues) → late_by whole c o n ≡ n
  none-late e (Refused cause) n = refl
  none-late e (Queued link) n = without-key e n
  none-late e Held n = without-key e n
  none-late e Local n = without-key e n
  none-late e Handled n = without-key e n
  none-late e Ignored n = without-key e n
