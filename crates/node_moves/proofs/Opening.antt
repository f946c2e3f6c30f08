-- A link opens at a node, first of the two ends or after the other: by one move, and what ends the event.
use Rattle.node_moves.proofs.Basics.{◌≡◌, ◌≢◌, ℕ, Bool, true, false, not, ◌&&◌, ◌||◌, ◌<◌, List, [], ◌++◌, length, nat_eq, refl, ap, sym, subst, ◌∙◌, arith, if◌then◌else◌, get_or-set_same, get_or-set_other, length-set, ⊎_elim, cases_eq}
use Rattle.node_moves.proofs.Machine.{Phase, Live, Moved, Gone, LinkEnd, Line, Network, Shape, Place, turned, line_at, node_at, IsEnd}
use Rattle.node_moves.proofs.Definitions.{Message, Configuration, IsWell, Node, Done, WholeQueues, Parts, whole, answer, is_link, link_at, down, changeover_of, first_queue, emptied, Standing, Link, down_link, is_down, is_in_service, Alignment, NotAligned}
use Rattle.node_moves.proofs.Reading.{IsShape, says_of}
use Rattle.node_moves.proofs.Shown.{Books, no_books, naming, IsShown, IsAlike, IsSized, IsSilent, IsBooked, shown_in, is_heard, link-inside, own-inside}
use Rattle.node_moves.proofs.Going.{Goes, goes-none}
use Rattle.node_moves.proofs.Handling.{mid}
use Rattle.node_moves.proofs.Failures.{booked-alike, node-there}
use Rattle.node_moves.proofs.World.{books_of, IsFlown, AreData, AreStatuses, ShownAt, rests, place_at, at-work}
use Rattle.node_moves.proofs.Grown.{Grown, same-grown, both-grown}
use Rattle.node_moves.proofs.Relining.{Leads, leads-one, leads-goes, with_line, line-set, across-line}
use Rattle.node_moves.proofs.Flights.{IsSameFlight, changed-here, changed-other, updated-here, updated-other, only-changed, reline-near}
use Rattle.node_moves.proofs.BothEnds.{IsOther, OnlyBoth, reline-both}
use Rattle.node_moves.proofs.Steps.{StepGoes, finish, grown-before, event-settles}
use Rattle.node_moves.specs.Networks.{NetworkNode, NetworkState, IsNode, changed, updated, happens, come_up, be_led, state_of}
use Rattle.node_moves.specs.Networks as of_nodes
use Rattle.node_moves.specs.Outside.{ArePlaced}
use Rattle.changeover.specs.Changeover.{may_restart}
use Rattle.exchange_rules.proofs.Lists.{each-set}
use Rattle.exchange_rules.specs.Conserving as of_rules
unfoldable use Rattle.exchange_rules.specs.Exchange.{apply}
use Rattle.exchange_rules.specs.Exchange.{handle_event}
use Rattle.exchange_rules.specs.Opening.{may_open, wanted_down, wanted, opened_by, period_of, open_link, association_up}
use Rattle.exchange_rules.specs.State.{CameUp}
use Rattle.exchange_rules.specs.declared.wants.Wants.TheVariants.{Nothing, Open, Close}
use Rattle.network_moves.proofs.Lines.{not-without, none-of_two}
use Rattle.network_moves.proofs.Lasting.{LastsLine, lasts-at}
use Rattle.network_moves.specs.Moves as moves
use Rattle.network_moves.specs.Networks as net
use Rattle.network_moves.specs.Networks.{given_up}
use Rattle.network_moves.specs.Returning.{opened_end, opened_first, opened_second, MayOpen}
use Rattle.signalling_types.specs.declared.outcome.Outcome.TheVariants.{Handled}

-- ---- a link that wants to open

pub record MayComeUp (p : Parts) (link : ℕ) : Type 0 where
  pub there : is_link p link ≡ true
  pub gone : down p link ≡ true
  pub opens : may_open (link_at p link) ≡ true
  pub restarts : may_restart (changeover_of p link) ≡ true

by-active : (restarts : Bool) (l : Link) (association active : Bool) → l.association ≡ association → l.active ≡ active → (if association then Close else if active && restarts then Open else Nothing) ≡ Open
    → (may_open l ≡ true) × (restarts ≡ true)
by-active restarts l true active e f h = absurd cc
by-active true l false true e f h = (ap (λ (b : Bool). not b && l.active) e ∙ f, refl)
by-active false l false true e f h = absurd cc
by-active restarts l false false e f h = absurd cc

pub wants-open : (p : Parts) (link : ℕ) → wanted p link ≡ Open → MayComeUp p link
wants-open p link e = by (is_link p link) (down p link) refl refl e
  where
    by : (there gone : Bool) → is_link p link ≡ there → down p link ≡ gone → (if there then (if gone then wanted_down (may_restart (changeover_of p link)) (link_at p link) else Nothing) else Nothing) ≡ Open → MayComeUp p link
    by true true f g h =
        let both : (may_open (link_at p link) ≡ true) × (may_restart (changeover_of p link) ≡ true) =
        by-active (may_restart (changeover_of p link)) (link_at p link) (link_at p link).association (link_at p link).active refl refl h in
        record { there = f; gone = g; opens = both.0; restarts = both.1 }
    by true false f g h = absurd cc
    by false gone f g h = absurd cc

pub restarts-both : (s : Standing) → may_restart s ≡ true → (s.incomplete ≡ false) × (s.awaited ≡ false)
restarts-both s e = by s.incomplete s.awaited e
  where
    by : (a b : Bool) → (not a && not b) ≡ true → (a ≡ false) × (b ≡ false)
    by true b f = absurd cc
    by false true f = absurd cc
    by false false f = (refl, refl)

-- an association comes up there
came-up : (c : Configuration) (n : Node WholeQueues) (link : ℕ) → MayComeUp n.parts link → association_up whole c link n ≡ answer Handled (open_link whole c link n)
came-up c n link m =
    if-true (is_link n.parts link) _ _ m.there ∙ if-true (may_open (link_at n.parts link)) _ _ m.opens ∙ if-true (may_restart (changeover_of n.parts link)) _ _ m.restarts
  where
    if-true : (b : Bool) (d e : Done WholeQueues) → b ≡ true → (if b then d else e) ≡ d
    if-true true d e f = refl
    if-true false d e f = absurd cc

two-true : (a b : Bool) → (a && b) ≡ true → (a ≡ true) × (b ≡ true)
two-true true b e = (refl, e)
two-true false b e = absurd cc

-- ---- the end of the link

pub may-shown : (n : Node WholeQueues) (link : ℕ) (e : LinkEnd) → IsShown n link e → down n.parts link ≡ true → may_restart (changeover_of n.parts link) ≡ true → MayOpen e
may-shown n link e s gone restarts =
    let both : ((changeover_of n.parts link).incomplete ≡ false) × ((changeover_of n.parts link).awaited ≡ false) = restarts-both (changeover_of n.parts link) restarts in
    record { down = s.up ∙ ap not gone; complete = s.incomplete ∙ both.0; unawaited = s.awaited ∙ both.1 }

-- an end that may open has nothing, or had
closed-queue : (e : LinkEnd) → IsEnd e → MayOpen e → shown_in e.phase e.queue ≡ emptied e.queue
closed-queue e h m = by e.phase refl
  where
    idle : (e.serving || e.incomplete) ≡ false
    idle = none-of_two e.serving e.incomplete (not-without e.serving h.serving m.down) m.complete

    live : e.phase ≡ Live → e.queue ≡ emptied e.queue
    live f =
        let none : e.queue.all ≡ [] = h.idle f idle in
        let sent : e.queue.sent ≡ 0 = omega (arith, h.queue.sent, ap (λ (ms : List Message). length ms) none) in
        let confirmed : e.queue.confirmed ≡ 0 = omega (arith, h.queue.confirmed, sent) in
        λ i. record { base = h.base i; all = none i; confirmed = confirmed i; sent = sent i; received = e.queue.received }

    by : (phase : Phase) → e.phase ≡ phase → shown_in e.phase e.queue ≡ emptied e.queue
    by Live f = ap (λ ph. shown_in ph e.queue) f ∙ live f
    by Moved f = ap (λ ph. shown_in ph e.queue) f
    by Gone f = ap (λ ph. shown_in ph e.queue) f

module _ (c : Configuration) (n : Node WholeQueues) (link : ℕ) (m : MayComeUp n.parts link) where
  abbrev opened : Node WholeQueues
  opened = open_link whole c link n

  abbrev new_link : Link
  new_link = opened_by c (period_of c link n.parts) (link_at n.parts link)

  opened-shown : (came gone : List Message) → IsSized c n → link < length c.links → IsShown opened link (opened_end came gone)
  opened-shown came gone z l =
      let at : (link_at opened.parts link).alignment ≡ NotAligned = ap (λ (y : Link). y.alignment) (get_or-set_same n.parts.links link new_link down_link (subst (λ (i : ℕ). link < i) (sym z.links) l)) in
      let both : ((changeover_of n.parts link).incomplete ≡ false) × ((changeover_of n.parts link).awaited ≡ false) = restarts-both (changeover_of n.parts link) m.restarts in
      record {
        queue = get_or-set_same n.queues.links link first_queue first_queue (subst (λ (i : ℕ). link < i) (sym z.queues) l);
        up = sym (ap (λ (a : Alignment). not (is_down a)) at);
        serving = sym (ap (λ (a : Alignment). is_in_service a) at);
        incomplete = sym both.0;
        awaited = sym both.1;
        heard = λ h. (let no : false ≡ true = sym (ap is_heard at) ∙ h in absurd cc);
      }

  opened-others : (l : ℕ) → l ≢ link → IsAlike n opened l
  opened-others l d = record {
    queue = get_or-set_other n.queues.links link l first_queue first_queue d;
    alignment = ap (λ (y : Link). y.alignment) (get_or-set_other n.parts.links link l new_link down_link d);
    standing = refl;
  }

  opened-sized : IsSized c n → IsSized c opened
  opened-sized z = record {
    links = length-set n.parts.links link new_link ∙ z.links;
    queues = length-set n.queues.links link first_queue ∙ z.queues;
    changeovers = z.changeovers;
    silent = λ l. each-set IsSilent n.parts.links link l new_link down_link z.silent (record {
      waiting = λ gone. (let no : false ≡ true = gone in absurd cc);
      owed = λ gone. (let no : false ≡ true = gone in absurd cc);
    });
    ways = z.ways;
  }

module _ (settings : (point : ℕ) → Configuration) (t : ArePlaced settings) (shape : Shape) (o : IsShape shape) (w : NetworkState) (x link : ℕ) (fx : IsNode settings x) (inside : link < length (settings x).links)
    (m : MayComeUp (w.node x).node.parts link) where
  abbrev c : Configuration
  c = settings x

  abbrev well : IsWell c
  well = t.well x fx

  abbrev its : Place
  its = place_at settings t x link

  abbrev n : Node WholeQueues
  n = (w.node x).node

  abbrev k : Books
  k = books_of (w.node x)

  abbrev now : Node WholeQueues
  now = open_link whole c link n

  -- what ends the event
  abbrev lost : List Message
  lost = (of_rules.gone (CameUp link) (state_of c (w.node x))).lost

  after-opening : (j : Books) → Goes shape c (mid now [] [] j) (mid (apply whole c (CameUp link) n).left [] [] (naming j lost))
  after-opening j =
      subst (λ (d : Done WholeQueues). Goes shape c (mid d.left [] [] j) (mid (apply whole c (CameUp link) n).left [] [] (naming j lost))) (came-up c n link m)
      (event-settles shape o c well (CameUp link) (mid (handle_event whole c (CameUp link) n).left [] [] j) n j (goes-none shape c (mid (handle_event whole c (CameUp link) n).left [] [] j)))

  now-booked : (p : Network) → ShownAt settings t w x (rests settings t (w.node x)) p → IsBooked (node_at shape p its) (mid now [] [] k)
  now-booked p s =
      booked-alike (node_at shape p its) n now [] [] k refl refl (subst (λ (b : net.Node). IsBooked b (mid n [] [] k)) (sym (node-there shape o c well p link)) s.here.booked)

  -- ---- after the other end

  abbrev followed : NetworkNode → NetworkNode
  followed e = record e { follows = updated e.follows link false }

  abbrev follows_up : NetworkNode → NetworkNode
  follows_up e = record (happens c (CameUp link) e) { follows = updated e.follows link false }

  pub second-step : (w.node x).follows link ≡ true → StepGoes settings t shape o w (changed x follows_up w)
  second-step may =
      let v : NetworkState = changed x follows_up w in
      let one : NetworkState = changed x followed w in
      let is : v.node x ≡ follows_up (w.node x) = changed-here x follows_up w in
      let led : one.node x ≡ followed (w.node x) = changed-here x followed w in
      record {
        grown = grown-before settings t shape o w v x fx (λ y d. changed-other x follows_up w y d)
            (both-grown (after-opening no_books).grown (same-grown (ap (λ (e : NetworkNode). e.node.parts.times_broken) is)));
        goes = λ p h s.
            let start : ShownAt settings t w x (rests settings t (w.node x)) p = at-work settings t w x p fx s in
            let y : Line = line_at p its in
            let z : Line = opened_second y in
            let shown : IsShown n link y.near = start.here.ends link inside in
            let flown : IsFlown (w.node x) link y = start.flown x link fx inside in
            let l : Leads settings t shape o n.parts.times_broken p one x (mid now [] [] k) =
            leads-one settings t shape o p (with_line shape p its z (node_at shape p its)) one x (mid now [] [] k)
            (moves.opens_second (record {
              place = its;
              follows = sym flown.follows ∙ may;
              near_may = may-shown n link y.near shown m.gone m.restarts;
              after = line-set shape p its z (node_at shape p its) (link-inside shape o c well link) (own-inside shape o c well link);
            }))
            (same-grown refl) (λ point. refl)
            (reline-near settings t shape o w one x link (rests settings t (w.node x)) (mid now [] [] k) p z (node_at shape p its) fx start
            (only-changed settings t shape o w x link followed (λ i d. record { user_data = refl; statuses = refl; follows = updated-other (w.node x).follows link false i d; came = refl }))
            (record { to_far = refl; told_far = refl; far_may = refl; near_came = refl; far = λ j i e. e }) inside (opened-sized c n link m start.here.sized)
            (opened-shown c n link m y.near.came y.near.gone start.here.sized inside) (opened-others c n link m) (now-booked p start)
            (subst (λ (e : NetworkNode). IsFlown e link z) (sym led)
            (record { user_data = flown.user_data; statuses = flown.statuses; follows = updated-here (w.node x).follows link false; came = flown.came }))) in
            finish settings t shape o w p one v x fx (mid (apply whole c (CameUp link) n).left [] [] (naming k lost))
            (leads-goes settings t shape o p one x (mid now [] [] k) (mid (apply whole c (CameUp link) n).left [] [] (naming k lost)) fx (h x fx) l (after-opening k))
            (ap (rests settings t) (sym is)) (λ i d. changed-other x follows_up w i d ∙ sym (changed-other x followed w i d))
            (λ i. subst (λ (e : NetworkNode). IsSameFlight e (v.node x) i) (sym led) (subst (λ (e : NetworkNode). IsSameFlight (followed (w.node x)) e i) (sym is) (record { user_data = refl; statuses = refl; follows = refl; came = refl })));
      }

  -- ---- before the other end

  abbrev cleared : NetworkNode → NetworkNode
  cleared e = record e { statuses = updated e.statuses link []; user_data = updated e.user_data link []; follows = updated e.follows link false }

  module _ (there : of_nodes.LinkEnd) (other : IsOther settings t shape o x link there) where
    abbrev led : NetworkNode → NetworkNode
    led e = be_led there.link e

    -- the nodes when both have changed, by what the first does
    abbrev both_by : (NetworkNode → NetworkNode) → NetworkState
    both_by g = changed there.point led (changed x g w)

    at-x : (g : NetworkNode → NetworkNode) → (both_by g).node x ≡ g (w.node x)
    at-x g = changed-other there.point led (changed x g w) x (λ same. other.apart (sym same)) ∙ changed-here x g w

    at-there : (g : NetworkNode → NetworkNode) → (both_by g).node there.point ≡ led (w.node there.point)
    at-there g = changed-here there.point led (changed x g w) ∙ ap led (changed-other x g w there.point other.apart)

    at-others : (g : NetworkNode → NetworkNode) (i : ℕ) → i ≢ x → i ≢ there.point → (both_by g).node i ≡ w.node i
    at-others g i d e = changed-other there.point led (changed x g w) i e ∙ changed-other x g w i d

    both-only : OnlyBoth settings t shape o w (both_by cleared) x link there
    both-only = record {
      nodes = at-others cleared;
      rest = ap (rests settings t) (at-there cleared);
      here = λ i d. subst (λ (e : NetworkNode). IsSameFlight (w.node x) e i) (sym (at-x cleared)) (record {
        user_data = updated-other (w.node x).user_data link [] i d;
        statuses = updated-other (w.node x).statuses link [] i d;
        follows = updated-other (w.node x).follows link false i d;
        came = refl;
      });
      away = λ i d. subst (λ (e : NetworkNode). IsSameFlight (w.node there.point) e i) (sym (at-there cleared)) (record {
        user_data = updated-other (w.node there.point).user_data there.link [] i d;
        statuses = updated-other (w.node there.point).statuses there.link [] i d;
        follows = updated-other (w.node there.point).follows there.link true i d;
        came = refl;
      });
    }

    pub first-step : (down (w.node there.point).node.parts there.link && may_restart (changeover_of (w.node there.point).node.parts there.link)) ≡ true → StepGoes settings t shape o w (both_by (come_up c link))
    first-step may =
        let v : NetworkState = both_by (come_up c link) in
        let one : NetworkState = both_by cleared in
        let is : v.node x ≡ come_up c link (w.node x) = at-x (come_up c link) in
        record {
          grown = λ i fi.
              ⊎_elim
              (λ (same : i ≡ x).
              subst (λ (j : ℕ). Grown (w.node j).node.parts.times_broken (v.node j).node.parts.times_broken) (sym same)
              (both-grown (after-opening no_books).grown (same-grown (ap (λ (e : NetworkNode). e.node.parts.times_broken) is))))
              (λ (d : i ≢ x).
              ⊎_elim
              (λ (same : i ≡ there.point).
              subst (λ (j : ℕ). Grown (w.node j).node.parts.times_broken (v.node j).node.parts.times_broken) (sym same) (same-grown (ap (λ (e : NetworkNode). e.node.parts.times_broken) (at-there (come_up c link)))))
              (λ (e : i ≢ there.point). same-grown (ap (λ (g : NetworkNode). g.node.parts.times_broken) (at-others (come_up c link) i d e)))
              (cases_eq i there.point))
              (cases_eq i x);
          goes = λ p h s.
              let start : ShownAt settings t w x (rests settings t (w.node x)) p = at-work settings t w x p fx s in
              let y : Line = line_at p its in
              let z : Line = opened_first y in
              let shown : IsShown n link y.near = start.here.ends link inside in
              let flown : IsFlown (w.node x) link y = start.flown x link fx inside in
              let far_is : (line_at p (place_at settings t there.point there.link)).near ≡ y.far = ap (λ (q : Place). (line_at p q).near) other.place ∙ ap (λ (g : Line). g.near) (across-line p its) in
              let far_shown : IsShown (w.node there.point).node there.link y.far = subst (IsShown (w.node there.point).node there.link) far_is ((s.nodes there.point other.within).ends there.link other.inside) in
              let parts : (down (w.node there.point).node.parts there.link ≡ true) × (may_restart (changeover_of (w.node there.point).node.parts there.link) ≡ true) =
              two-true (down (w.node there.point).node.parts there.link) (may_restart (changeover_of (w.node there.point).node.parts there.link)) may in
              let far_may : MayOpen y.far = may-shown (w.node there.point).node there.link y.far far_shown parts.0 parts.1 in
              let line : LastsLine shape says_of y = lasts-at shape says_of p its (h x fx).lasts in
              let l : Leads settings t shape o n.parts.times_broken p one x (mid now [] [] k) =
              leads-one settings t shape o p (with_line shape p its z (node_at shape p its)) one x (mid now [] [] k)
              (moves.opens_first (record {
                place = its;
                near_may = may-shown n link y.near shown m.gone m.restarts;
                far_may = far_may;
                after = line-set shape p its z (node_at shape p its) (link-inside shape o c well link) (own-inside shape o c well link);
              }))
              (same-grown refl) (λ point. refl)
              (reline-both settings t shape o w one x link there (rests settings t (w.node x)) (mid now [] [] k) p z (node_at shape p its) fx start other both-only
              (λ j i e. record { queue = e.queue ∙ closed-queue y.far line.far far_may; up = e.up; serving = e.serving; incomplete = e.incomplete; awaited = e.awaited; heard = e.heard })
              inside (opened-sized c n link m start.here.sized) (opened-shown c n link m y.near.came (given_up y ++ y.near.gone) start.here.sized inside) (opened-others c n link m) (now-booked p start)
              (subst (λ (e : NetworkNode). IsFlown e link z) (sym (at-x cleared)) (record {
                user_data = subst (λ (texts : List (List ℕ)). AreData texts []) (sym (updated-here (w.node x).user_data link [])) tt;
                statuses = subst (λ (texts : List (List ℕ)). AreStatuses texts 0) (sym (updated-here (w.node x).statuses link [])) tt;
                follows = updated-here (w.node x).follows link false;
                came = flown.came;
              }))
              (λ before. subst (λ (e : NetworkNode). IsFlown e there.link (turned z)) (sym (at-there cleared)) (record {
                user_data = subst (λ (texts : List (List ℕ)). AreData texts []) (sym (updated-here (w.node there.point).user_data there.link [])) tt;
                statuses = subst (λ (texts : List (List ℕ)). AreStatuses texts 0) (sym (updated-here (w.node there.point).statuses there.link [])) tt;
                follows = updated-here (w.node there.point).follows there.link true;
                came = before.came;
              }))) in
              finish settings t shape o w p one v x fx (mid (apply whole c (CameUp link) n).left [] [] (naming k lost))
              (leads-goes settings t shape o p one x (mid now [] [] k) (mid (apply whole c (CameUp link) n).left [] [] (naming k lost)) fx (h x fx) l (after-opening k))
              (ap (rests settings t) (sym is))
              (λ i d. ap (λ (e : NetworkNode). if nat_eq i there.point then led e else e) (changed-other x (come_up c link) w i d ∙ sym (changed-other x cleared w i d)))
              (λ i. subst (λ (e : NetworkNode). IsSameFlight e (v.node x) i) (sym (at-x cleared))
              (subst (λ (e : NetworkNode). IsSameFlight (cleared (w.node x)) e i) (sym is) (record { user_data = refl; statuses = refl; follows = refl; came = refl })));
        }
