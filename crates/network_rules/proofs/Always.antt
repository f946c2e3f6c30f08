-- Lists of moves of a network, and of other changes, as each two of its nodes that share a set see them; and nobody
-- speaks for another meanwhile.
use Rattle.pair_rules.proofs.Basics.{◌≡◌, ◌≢◌, ℕ, true, false, List, [], ◌∷◌, ◌++◌, refl, ap, sym, subst, ◌∙◌, length, map}
use Rattle.std.specs.Prelude.{nat_lt}
use Rattle.pair_rules.proofs.Definitions.{Message, Configuration, Queue, first_queue, queue_at, PairState, first_pair, turned, in_flight, each-replicate, read_frame}
use Rattle.std.specs.Prelude.{All}
use Rattle.std.specs.List.{list_all}
use Rattle.std.proofs.lemmas.List.Elements.{All-head, All-tail}
use Rattle.exchange_rules.specs.Laws.{carried_message}
use Rattle.exchange_rules.specs.First.{Abstract, first_state}
use Rattle.pair_moves.specs.Sayings.{Other}
use Rattle.pair_rules.specs.Promises.{BothWays}
use Rattle.pair_rules.specs.Pairs as doing
use Rattle.pair_rules.specs.Pairs.{Doing, nothing_in_flight}
use Rattle.pair_rules.proofs.Good.{Each, each-get}
use Rattle.neighbour_rules.specs.Neighbours as neighbours
use Rattle.neighbour_rules.specs.Neighbours.{leads_elsewhere, speaks_for_either}
use Rattle.neighbour_rules.proofs.World.{says_of}
use Rattle.neighbour_rules.specs.Anew as pairs
use Rattle.neighbour_rules.proofs.Sharing.{AreFacing, are-facing, far_joint, near_joint, AreOwn, facing-own}
use Rattle.neighbour_rules.proofs.Restarted.{Works, all-changes-work, first-works, steps-work, begun}
use Rattle.network_rules.specs.Networks.{NetworkState, Step, after_step, after_steps, changed, first_network, NetworkNode}
use Rattle.network_rules.specs.Outside.{HearsOutside, Move, OpensOutside, Within, after_move, after_moves, leads_out, speaks_within}
use Rattle.neighbour_rules.proofs.AllSteps.{own-steps}
use Rattle.network_rules.specs.Anew.{Change, GivesUp, IsStepOrThird, Restarts, Steps, after_all, after_change, given_up, restarted}
use Rattle.network_rules.specs.Pairs.{Always, AreTheirPoints, AreWellOrAlone, ArePairsAlike, HearsNothingElsewhere, IsRunOfNeighbours, nobody_speaks_for_another, pair_of, pair_of_for, runs_are_runs_of_neighbours}
use Rattle.network_rules.proofs.Alike.{away}
use Rattle.network_rules.proofs.Ends.{EndOk, first-ok, is_fine}
use Rattle.network_rules.proofs.AllRuns.{HasPoints, first-alike, step-next, neighbours-join}
use Rattle.network_rules.proofs.Nodes.{TakesIn, Terms}
use Rattle.network_rules.proofs.Changes.{NextBy, changes-join, give_up-next, restart-next, stepped, third-alike}
use Rattle.network_rules.proofs.Runs.{NextOf}
use Rattle.network_rules.proofs.Outside.{AreWithin, has-sets, hears-quiet, hears-next, moves-keep, opens-next, opens-quiet}
use Rattle.network_rules.proofs.Quiet.{IsQuiet, NodeOk, SayElsewhere, Watched, are-kept, did-quiet, fine, quiet-changed}
use Rattle.network_rules.proofs.Elsewhere.{harmless-turned, speaks-none, speaks_between}
use Rattle.network_rules.proofs.Texts.{IsHarmless}

-- what is in flight to either on links that lead elsewhere carries no management of one of the two for the other
pub record CarryHarmless (p : PairState) : Type 0 where
  pub near : (link : ℕ) → leads_elsewhere p link ≡ true → Each (IsHarmless (is_fine p.near.exchange.settings.own p.far.exchange.settings.own)) (in_flight p.near.incoming.user_data link)
  pub far : (link : ℕ) → leads_elsewhere (turned p) link ≡ true → Each (IsHarmless (is_fine p.near.exchange.settings.own p.far.exchange.settings.own)) (in_flight p.far.incoming.user_data link)

module _ (settings : (point : ℕ) → Configuration) (near far : ℕ) (points : AreTheirPoints settings) (well : AreWellOrAlone settings) (a : AreFacing (settings near) (settings far)) (own : AreOwn (settings near) (settings far) a) where
  abbrev c : Configuration
  c = settings near

  abbrev z : Configuration
  z = settings far

  apart : near ≢ far
  apart e = a.apart (points near ∙ e ∙ sym (points far))

  abbrev pub IsCalm : NetworkState → Type 0
  IsCalm w = IsQuiet settings near far points well a w

  abbrev Harmless : List ℕ → Type 0
  Harmless text = IsHarmless (fine settings near far points well a) text

  -- ---- at first

  first-node-ok : (point : ℕ) → NodeOk settings near far points well a point (first_state (settings point)) (nothing_in_flight (length (settings point).links))
  first-node-ok point = record {
    kept = refl;
    third = λ d e f. record { held = refl; links = λ link. each-replicate (λ (q : Queue). list_all (fine settings near far points well a) q.all ≡ true) (length (settings point).links) link first_queue refl };
    near_end = λ e. subst (λ (n : ℕ). EndOk c z (near_joint c z a) (first_state (settings n)).node) e (first-ok c z (near_joint c z a));
    far_end = λ e. subst (λ (n : ℕ). EndOk z c (far_joint c z a) (first_state (settings n)).node) e (first-ok z c (far_joint c z a));
    flying = record {
      user_data = λ link q. each-replicate (λ (ts : List (List ℕ)). Each Harmless ts) (length (settings point).links) link [] tt;
      statuses = λ link q. each-replicate (λ (ts : List (List ℕ)). Each Harmless ts) (length (settings point).links) link [] tt;
    };
  }

  pub first-calm : IsCalm (first_network settings)
  first-calm = record { each = first-node-ok }

  -- ---- what comes from elsewhere

  module _ (w : NetworkState) (h : IsCalm w) where
    abbrev cw : Configuration
    cw = (w.node near).exchange.settings

    abbrev zw : Configuration
    zw = (w.node far).exchange.settings

    near-kept : cw ≡ c
    near-kept = are-kept settings near far points well a w h near

    far-kept : zw ≡ z
    far-kept = are-kept settings near far points well a w h far

    near-watched : (link : ℕ) → away cw zw link ≡ true → Watched settings near far points well a near link
    near-watched link e = record {
      of_near = λ i. ap (λ (s : Configuration). away c s link) (sym far-kept) ∙ ap (λ (s : Configuration). away s zw link) (sym near-kept) ∙ e;
      of_far = λ i. absurd (apart (sym i));
    }

    far-watched : (link : ℕ) → away zw cw link ≡ true → Watched settings near far points well a far link
    far-watched link e = record {
      of_near = λ i. absurd (apart i);
      of_far = λ i. ap (λ (s : Configuration). away z s link) (sym near-kept) ∙ ap (λ (s : Configuration). away s cw link) (sym far-kept) ∙ e;
    }

    near-silent : (text : List ℕ) → Harmless text → speaks_for_either (pair_of w near far) text ≡ false
    near-silent text g =
        ap (λ (s : Configuration). speaks_between s.own zw.own (carried_message (read_frame text))) near-kept
        ∙ ap (λ (s : Configuration). speaks_between c.own s.own (carried_message (read_frame text))) far-kept
        ∙ speaks-none c.own z.own (carried_message (read_frame text)) g.carried

    far-silent : (text : List ℕ) → Harmless text → speaks_for_either (pair_of w far near) text ≡ false
    far-silent text g =
        ap (λ (s : Configuration). speaks_between s.own cw.own (carried_message (read_frame text))) far-kept
        ∙ ap (λ (s : Configuration). speaks_between z.own s.own (carried_message (read_frame text))) near-kept
        ∙ speaks-none z.own c.own (carried_message (read_frame text)) (harmless-turned c.own z.own text g).carried

    pub nobody : BothWays HearsNothingElsewhere (pair_of w near far)
    nobody = record {
      there = record {
        user_data = λ link text e g.
            near-silent text (each-get Harmless (in_flight (w.node near).incoming.user_data link) 0 text ((h.each near).flying.user_data link (near-watched link e)) g);
        statuses = λ link text e g.
            near-silent text (each-get Harmless (in_flight (w.node near).incoming.statuses link) 0 text ((h.each near).flying.statuses link (near-watched link e)) g);
      };
      back = record {
        user_data = λ link text e g.
            far-silent text (each-get Harmless (in_flight (w.node far).incoming.user_data link) 0 text ((h.each far).flying.user_data link (far-watched link e)) g);
        statuses = λ link text e g.
            far-silent text (each-get Harmless (in_flight (w.node far).incoming.statuses link) 0 text ((h.each far).flying.statuses link (far-watched link e)) g);
      };
    }

    all-harmless : (texts : List (List ℕ)) → Each Harmless texts → Each (IsHarmless (is_fine cw.own zw.own)) texts
    all-harmless texts g =
        subst (λ (s : Configuration). Each (IsHarmless (is_fine s.own zw.own)) texts) (sym near-kept)
        (subst (λ (s : Configuration). Each (IsHarmless (is_fine c.own s.own)) texts) (sym far-kept) g)

    pub carry-harmless : CarryHarmless (pair_of w near far)
    carry-harmless = record {
      near = λ link e. all-harmless (in_flight (w.node near).incoming.user_data link) ((h.each near).flying.user_data link (near-watched link e));
      far = λ link e. all-harmless (in_flight (w.node far).incoming.user_data link) ((h.each far).flying.user_data link (far-watched link e));
    }

    pub own-points : HasPoints w
    own-points = record { own = λ point. ap (λ (s : Configuration). s.own) (are-kept settings near far points well a w h point) ∙ points point }

  -- ---- what the two say elsewhere

  abbrev SaysOther : (one two : Configuration) (point : ℕ) → Message → Type 0
  SaysOther one two point m = says_of one.own two.own point m ≡ Other

  elsewhere-of : (w : NetworkState) (p : PairState) → Works c z a p → ArePairsAlike (pair_of w near far) p → SayElsewhere settings near far points well a w
  elsewhere-of w p s h = record {
    near_says = λ link d. subst (λ (e : Abstract). Each (SaysOther c z a.base.there) (queue_at e.node.queues link).all) h.near_alike.exchange (s.stands.near_good.elsewhere link d);
    far_says = λ link d. subst (λ (e : Abstract). Each (SaysOther z c a.base.back) (queue_at e.node.queues link).all) h.far_alike.exchange (s.stands.far_good.elsewhere link d);
  }

  -- ---- steps

  pub record Goes (w : NetworkState) (p : PairState) : Type 0 where
    pub steps : List neighbours.Step
    pub pair : ArePairsAlike (pair_of w near far) (neighbours.after_steps steps p)
    pub calm : IsCalm w

  -- the messages are for the two themselves, and whatever is handed in
  abbrev terms : Terms
  terms = record { to_far = z.own; to_near = c.own; near_is = λ m. Unit {0}; far_is = λ m. Unit {0} }

  pub takes-any : (what : Doing) (x y : NetworkNode) → TakesIn (λ m. Unit {0}) what x y
  takes-any (doing.Delivers link) x y = λ between text e m f. tt
  takes-any (doing.Submits message) x y = tt
  takes-any (doing.Takes link) x y = tt
  takes-any (doing.DeliversStatus link) x y = tt
  takes-any (doing.LosesStatus link) x y = tt
  takes-any (doing.DoublesStatus link) x y = tt
  takes-any (doing.Loses link) x y = tt
  takes-any doing.Ticks x y = tt
  takes-any (doing.Activates link emergency) x y = tt
  takes-any (doing.Deactivates link) x y = tt
  takes-any (doing.Releases link) x y = tt
  takes-any (doing.AddsTitle row is_memory_refused) x y = tt
  takes-any (doing.SetsTitle row is_memory_refused) x y = tt
  takes-any (doing.RemovesTitle key digits) x y = tt
  takes-any (doing.OpensFirst link) x y = tt
  takes-any (doing.OpensSecond link) x y = tt

  -- the two of a calm network are told these points
  own-pair : (w : NetworkState) → IsCalm w → pair_of w near far ≡ pair_of_for z.own c.own w near far
  own-pair w calm =
      ap (λ (s : Configuration). pair_of_for s.own (w.node near).exchange.settings.own w near far) (far-kept w calm)
      ∙ ap (λ (s : Configuration). pair_of_for z.own s.own w near far) (near-kept w calm)

  -- the messages of the two themselves, before and after
  own-next : (v : NetworkState) (p : PairState) → Works c z a p → (one : NextOf terms near far apart v p) → IsCalm v → Goes v p
  own-next v p s one later = record {
    steps = one.steps;
    pair =
        subst (λ (q : PairState). ArePairsAlike q (neighbours.after_steps one.steps p)) (sym (own-pair v later))
        (subst (ArePairsAlike (pair_of_for z.own c.own v near far)) (sym (own-steps c z (begun c z s.start a) (record { there = s.own.there; back = s.own.back }) one.steps p s.stands)) one.pair);
    calm = later;
  }

  own-alike : (w : NetworkState) (p : PairState) → IsCalm w → ArePairsAlike (pair_of w near far) p → ArePairsAlike (pair_of_for z.own c.own w near far) p
  own-alike w p calm h = subst (λ (q : PairState). ArePairsAlike q p) (own-pair w calm) h

  pub one-goes : (step : Step) (w : NetworkState) (p : PairState) → IsCalm w → Works c z a p → ArePairsAlike (pair_of w near far) p → Goes (after_step step w) p
  one-goes step w p calm s h =
      own-next (after_step step w) p s
      (step-next terms near far apart step w p (own-points w calm) (own-alike w p calm h) (nobody w calm)
      (λ e. takes-any step.what (w.node near) (w.node far)) (λ e. takes-any step.what (w.node far) (w.node near)))
      (did-quiet settings near far points well a step.what step.point w calm (elsewhere-of w p s h))

  -- steps upon steps
  goes-on : (v u : NetworkState) (p : PairState) (one : Goes v p) → Goes u (neighbours.after_steps one.steps p) → Goes u p
  goes-on v u p one others = record {
    steps = one.steps ++ others.steps;
    pair = subst (ArePairsAlike (pair_of u near far)) (sym (neighbours-join one.steps others.steps p)) others.pair;
    calm = others.calm;
  }

  pub goes : (steps : List Step) (w : NetworkState) (p : PairState) → IsCalm w → Works c z a p → ArePairsAlike (pair_of w near far) p → Goes (after_steps steps w) p
  goes [] w p calm s h = record { steps = []; pair = h; calm = calm }
  goes (step ∷ steps) w p calm s h =
      let v : NetworkState = after_step step w in
      let one : Goes v p = one-goes step w p calm s h in
      goes-on v (after_steps steps v) p one (goes steps v (neighbours.after_steps one.steps p) one.calm (steps-work c z a one.steps p s) one.pair)

  -- ---- moves

  -- both are within
  pub are-within : (w : NetworkState) → IsCalm w → AreWithin near far w
  are-within w h = record {
    near_within = ap (λ (s : Configuration). nat_lt 0 (length s.sets)) (near-kept w h) ∙ has-sets c z.own a.near_set a.near_leads;
    far_within = ap (λ (s : Configuration). nat_lt 0 (length s.sets)) (far-kept w h) ∙ has-sets z c.own a.far_set a.far_leads;
    own = own-points w h;
  }

  pub move-goes : (move : Move) (w : NetworkState) (p : PairState) → IsCalm w → Works c z a p → ArePairsAlike (pair_of w near far) p → Goes (after_move move w) p
  move-goes (Within step) w p calm s h = one-goes step w p calm s h
  move-goes (OpensOutside point link) w p calm s h =
      own-next (after_move (OpensOutside point link) w) p s
      (opens-next terms near far apart w (are-within w calm) p (own-alike w p calm h) (leads_out w point link) point link refl)
      (opens-quiet settings near far points well a w calm (leads_out w point link) point link)
  move-goes (HearsOutside point link text) w p calm s h =
      own-next (after_move (HearsOutside point link text) w) p s
      (hears-next terms near far apart w (are-within w calm) p (own-alike w p calm h) (leads_out w point link) (speaks_within w text) point link text refl refl)
      (hears-quiet settings near far points well a w calm (are-within w calm) (leads_out w point link) (speaks_within w text) point link text refl)

  moves-go : (moves : List Move) (w : NetworkState) (p : PairState) → IsCalm w → Works c z a p → ArePairsAlike (pair_of w near far) p → Goes (after_moves moves w) p
  moves-go [] w p calm s h = record { steps = []; pair = h; calm = calm }
  moves-go (move ∷ moves) w p calm s h =
      let v : NetworkState = after_move move w in
      let one : Goes v p = move-goes move w p calm s h in
      goes-on v (after_moves moves v) p one (moves-go moves v (neighbours.after_steps one.steps p) one.calm (steps-work c z a one.steps p s) one.pair)

  all-goes : (moves : List Move) → Goes (after_moves moves (first_network settings)) (first_pair c z)
  all-goes moves = moves-go moves (first_network settings) (first_pair c z) first-calm (first-works c z a own) (first-alike settings near far)

  run-of : (moves : List Move) → IsRunOfNeighbours (pair_of (after_moves moves (first_network settings)) near far)
  run-of moves =
      let w : NetworkState = after_moves moves (first_network settings) in
      let g : Goes w (first_pair c z) = all-goes moves in
      record {
        steps = g.steps;
        is_alike =
            subst (λ (s : Configuration). ArePairsAlike (pair_of w near far) (neighbours.after_steps g.steps (first_pair s (w.node far).exchange.settings))) (sym (moves-keep moves (first_network settings) near))
            (subst (λ (s : Configuration). ArePairsAlike (pair_of w near far) (neighbours.after_steps g.steps (first_pair c s))) (sym (moves-keep moves (first_network settings) far)) g.pair);
      }

  -- ---- and other changes

  pub record GoesBy (w : NetworkState) (p : PairState) : Type 0 where
    pub changes : List pairs.Change
    pub pair : ArePairsAlike (pair_of w near far) (pairs.after_all changes p)
    pub calm : IsCalm w

  -- a node starts again
  again-ok : (w : NetworkState) → IsCalm w → (point : ℕ) → IsCalm (changed point restarted w)
  again-ok w h point =
      quiet-changed settings near far points well a w point restarted h
      (subst (λ (s : Configuration). NodeOk settings near far points well a point (first_state s) (nothing_in_flight (length s.links))) (sym (are-kept settings near far points well a w h point)) (first-node-ok point))

  -- a node may not follow on a link any more
  less-ok : (w : NetworkState) → IsCalm w → (point link : ℕ) → IsCalm (changed point (given_up link) w)
  less-ok w h point link = quiet-changed settings near far points well a w point (given_up link) h (h.each point)

  change-goes : (change : Change) (w : NetworkState) (p : PairState) → IsCalm w → Works c z a p → ArePairsAlike (pair_of w near far) p → GoesBy (after_change change w) p
  change-goes (Steps step) w p calm s h =
      let one : Goes (after_step step w) p = one-goes step w p calm s h in
      record { changes = map pairs.Steps one.steps; pair = subst (ArePairsAlike (pair_of (after_step step w) near far)) (sym (stepped one.steps p)) one.pair; calm = one.calm }
  change-goes (Restarts point) w p calm s h =
      let one : NextBy (changed point restarted w) near far p = restart-next near far apart w p h point in
      record { changes = one.changes; pair = one.pair; calm = again-ok w calm point }
  change-goes (GivesUp point link) w p calm s h =
      let one : NextBy (changed point (given_up link) w) near far p = give_up-next near far apart w p h point link in
      record { changes = one.changes; pair = one.pair; calm = less-ok w calm point link }

  changes-go : (changes : List Change) (w : NetworkState) (p : PairState) → IsCalm w → Works c z a p → ArePairsAlike (pair_of w near far) p → GoesBy (after_all changes w) p
  changes-go [] w p calm s h = record { changes = []; pair = h; calm = calm }
  changes-go (change ∷ changes) w p calm s h =
      let v : NetworkState = after_change change w in
      let one : GoesBy v p = change-goes change w p calm s h in
      let q : PairState = pairs.after_all one.changes p in
      let others : GoesBy (after_all changes v) q = changes-go changes v q one.calm (all-changes-work c z a one.changes p s) one.pair in
      record {
        changes = one.changes ++ others.changes;
        pair = subst (ArePairsAlike (pair_of (after_all changes v) near far)) (sym (changes-join one.changes others.changes p)) others.pair;
        calm = others.calm;
      }

  -- where nothing but steps is done at either of the two, they see steps alone
  apart-goes : (change : Change) → IsStepOrThird near far change → (w : NetworkState) (p : PairState) → IsCalm w → Works c z a p → ArePairsAlike (pair_of w near far) p → Goes (after_change change w) p
  apart-goes (Steps step) i w p calm s h = one-goes step w p calm s h
  apart-goes (Restarts point) i w p calm s h = record { steps = []; pair = third-alike near far apart w p h point restarted i.0 i.1; calm = again-ok w calm point }
  apart-goes (GivesUp point link) i w p calm s h = record { steps = []; pair = third-alike near far apart w p h point (given_up link) i.0 i.1; calm = less-ok w calm point link }

  pub goes-apart : (changes : List Change) → All (IsStepOrThird near far) changes → (w : NetworkState) (p : PairState) → IsCalm w → Works c z a p → ArePairsAlike (pair_of w near far) p → Goes (after_all changes w) p
  goes-apart [] i w p calm s h = record { steps = []; pair = h; calm = calm }
  goes-apart (change ∷ changes) i w p calm s h =
      let v : NetworkState = after_change change w in
      let one : Goes v p = apart-goes change (All-head (IsStepOrThird near far) change changes i) w p calm s h in
      goes-on v (after_all changes v) p one
      (goes-apart changes (All-tail (IsStepOrThird near far) change changes i) v (neighbours.after_steps one.steps p) one.calm (steps-work c z a one.steps p s) one.pair)

  pub all-go : (changes : List Change) → GoesBy (after_all changes (first_network settings)) (first_pair c z)
  all-go changes = changes-go changes (first_network settings) (first_pair c z) first-calm (first-works c z a own) (first-alike settings near far)

pub runs : runs_are_runs_of_neighbours
runs settings moves near far points well sharing = run-of settings near far points well (are-facing (settings near) (settings far) sharing) (facing-own (settings near) (settings far) sharing) moves

pub harmless-runs : Always CarryHarmless
harmless-runs settings moves near far points well sharing =
    let a : AreFacing (settings near) (settings far) = are-facing (settings near) (settings far) sharing in
    carry-harmless settings near far points well a (facing-own (settings near) (settings far) sharing) (after_moves moves (first_network settings)) (all-goes settings near far points well a (facing-own (settings near) (settings far) sharing) moves).calm

pub silence : nobody_speaks_for_another
silence settings moves near far points well sharing =
    let a : AreFacing (settings near) (settings far) = are-facing (settings near) (settings far) sharing in
    nobody settings near far points well a (facing-own (settings near) (settings far) sharing) (after_moves moves (first_network settings)) (all-goes settings near far points well a (facing-own (settings near) (settings far) sharing) moves).calm
