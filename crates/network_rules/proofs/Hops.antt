-- A hop keeps the order of a flow that goes on beyond it, and so a path does.
use Rattle.pair_rules.proofs.Basics.{◌≡◌, inr, ℕ, List, [], ◌∷◌, ◌++◌, length, Option, Some, refl, ap, sym, subst, ◌∙◌}
use Rattle.pair_rules.proofs.Definitions.{Message, Flow, Configuration, PairState, LostNothing, first_pair}
use Rattle.settings.specs.Readings.{set_place}
use Rattle.settings.specs.Sharing.{sets_to}
use Rattle.pair_moves.specs.Ends as ends
use Rattle.pair_moves.specs.Order.{join_to}
use Rattle.pair_rules.specs.Pairs as doing
use Rattle.pair_rules.specs.Pairs.{Doing}
use Rattle.pair_rules.specs.Promises.{IsPunctual, of_flow}
use Rattle.pair_rules.specs.Sharing.{AreSharing}
use Rattle.neighbour_rules.specs.Neighbours as neighbours
use Rattle.neighbour_rules.specs.Neighbours.{AtFar, AtNear, Does, HearsElsewhere, OpensElsewhere, far_end, users_to}
use Rattle.neighbour_rules.proofs.AllSteps.{AreUntold, IsUntoldDoing, own-untold, steps_for-stand}
use Rattle.neighbour_rules.proofs.Counted.{beyond-none, no_base, none-grow}
use Rattle.neighbour_rules.proofs.Promised.{first-stands, order-beyond}
use Rattle.neighbour_rules.proofs.Restarted.{Works, first-works, steps-work}
use Rattle.neighbour_rules.proofs.Sharing.{AreFacing, AreOwn, are-facing, facing-own, facing_back, from_first, near_joint}
use Rattle.neighbour_rules.proofs.Standing.{Stands, since-first}
use Rattle.neighbour_rules.proofs.Staying.{with_settings}
use Rattle.neighbour_rules.proofs.Staying as settled
use Rattle.neighbour_rules.proofs.Untold.{IsUntoldBy, placed-there}
use Rattle.neighbour_rules.proofs.World.{codes}
use Rattle.network_rules.specs.Networks.{NetworkNode, NetworkState, did, did_here, first_network}
use Rattle.network_rules.specs.Outside.{HearsOutside, Move, OpensOutside, Within, after_move, after_moves, leads_out, speaks_within}
use Rattle.network_rules.specs.Pairs.{AreTheirPoints, AreWellOrAlone, ArePairsAlike, came_from, pair_of, pair_of_for}
use Rattle.network_rules.specs.Paths.{EachHopInOrder, KeepsInOrder, PassesInOrder, waits_on, waits_over}
use Rattle.network_rules.specs.Hops.{AreOpenHops, HearsOfNoRoute, IsOpenHop, LeadsOnward, LeadsOver, beyond, hops_keep_flows_in_order, paths_keep_flows_in_order, to_it}
use Rattle.network_rules.proofs.AllRuns.{first-alike, first-alike_for, step-next}
use Rattle.network_rules.proofs.Always.{Goes, IsCalm, are-within, first-calm, move-goes, nobody, own-points, takes-any}
use Rattle.network_rules.proofs.Hearing.{Hears, moves-before, none-told}
use Rattle.network_rules.proofs.Nodes.{AllHandBy, HandsIn, TakesIn, Terms}
use Rattle.network_rules.proofs.Outside.{hears-next, opens-next}
use Rattle.network_rules.proofs.PassedOn.{all-moves-pass, begin-empty}
use Rattle.network_rules.proofs.Paths.{last-hop, over, to-point}
use Rattle.network_rules.proofs.Places.{node-other, node-same}
use Rattle.network_rules.proofs.Promised.{is-written, written}
use Rattle.network_rules.proofs.Runs.{NextOf}

same-set : (o : Option ℕ) (one two : ℕ) → o ≡ Some one → o ≡ Some two → one ≡ two
same-set o one two e f = some-same one two (sym e ∙ f)
  where
    some-same : (a b : ℕ) → Some a ≡ Some b → a ≡ b
    some-same a b g = cc

module _ (settings : (point : ℕ) → Configuration) (near far : ℕ) (points : AreTheirPoints settings) (well : AreWellOrAlone settings) (sharing : AreSharing (settings near) (settings far))
    (flow : Flow) (lead : LeadsOnward (settings near) (settings far) flow.point) where
  abbrev c : Configuration
  c = settings near

  abbrev z : Configuration
  z = settings far

  abbrev a : AreFacing c z
  a = are-facing c z sharing

  own : AreOwn c z a
  own = facing-own c z sharing

  abbrev b : AreFacing c z
  b = from_first c z (record a {
    base = no_base flow.point c.own;
    destination = lead.destination;
    place = lead.place;
    there = placed-there c flow.point lead.destination lead.place;
    only = ap (sets_to c) lead.place ∙ lead.only ∙ ap (λ (k : ℕ). k ∷ []) (same-set (set_place c z.own) lead.set a.near_set lead.adjacent a.near_leads.adjacent);
    back_destination = a.back_adjacent;
    back_place = a.back_adjacent_place;
    back_there = placed-there z c.own a.back_adjacent a.back_adjacent_place;
    back_only = a.far_leads.only;
    near_grows = none-grow;
    far_grows = none-grow;
    start = ends.first_pair codes;
  })

  apart : near ≡ far → ⊥
  apart e = a.apart (points near ∙ e ∙ sym (points far))

  -- a message tells of no route to the point
  abbrev Quiet : Message → Type 0
  Quiet m = IsUntoldBy c z (near_joint c z b) m

  abbrev terms : Terms
  terms = record { to_far = flow.point; to_near = c.own; near_is = Quiet; far_is = λ m. Unit {0} }

  abbrev HearsOfNone : NetworkState → Type 0
  HearsOfNone w = Hears flow.point near far w

  quiet-here : (what : Doing) (w : NetworkState) → HearsOfNone (did what near w) → TakesIn Quiet what (w.node near) (w.node far)
  quiet-here (doing.Delivers link) w told = λ between text e m new.
      inr (none-told flow.point link (w.node near) (w.node far) between text e m new
      (subst (λ (x : NetworkNode). HearsOfNoRoute flow.point x (w.node far)) (node-same near (did_here (doing.Delivers link)) w)
      (subst (HearsOfNoRoute flow.point ((did (doing.Delivers link) near w).node near)) (node-other near far (did_here (doing.Delivers link)) w (λ e. apart (sym e))) told)))
  quiet-here (doing.Submits message) w told = tt
  quiet-here (doing.Takes link) w told = tt
  quiet-here (doing.DeliversStatus link) w told = tt
  quiet-here (doing.LosesStatus link) w told = tt
  quiet-here (doing.DoublesStatus link) w told = tt
  quiet-here (doing.Loses link) w told = tt
  quiet-here doing.Ticks w told = tt
  quiet-here (doing.Activates link emergency) w told = tt
  quiet-here (doing.Deactivates link) w told = tt
  quiet-here (doing.Releases link) w told = tt
  quiet-here (doing.AddsTitle row is_memory_refused) w told = tt
  quiet-here (doing.SetsTitle row is_memory_refused) w told = tt
  quiet-here (doing.RemovesTitle key digits) w told = tt
  quiet-here (doing.OpensFirst link) w told = tt
  quiet-here (doing.OpensSecond link) w told = tt

  untold-doing : (what : neighbours.Doing) (p : PairState) → HandsIn Quiet what p → IsUntoldDoing c z b what p
  untold-doing (Does (doing.Delivers link)) p h = h
  untold-doing (Does (doing.Submits message)) p h = tt
  untold-doing (Does (doing.Takes link)) p h = tt
  untold-doing (Does (doing.DeliversStatus link)) p h = tt
  untold-doing (Does (doing.LosesStatus link)) p h = tt
  untold-doing (Does (doing.DoublesStatus link)) p h = tt
  untold-doing (Does (doing.Loses link)) p h = tt
  untold-doing (Does doing.Ticks) p h = tt
  untold-doing (Does (doing.Activates link emergency)) p h = tt
  untold-doing (Does (doing.Deactivates link)) p h = tt
  untold-doing (Does (doing.Releases link)) p h = tt
  untold-doing (Does (doing.AddsTitle row is_memory_refused)) p h = tt
  untold-doing (Does (doing.SetsTitle row is_memory_refused)) p h = tt
  untold-doing (Does (doing.RemovesTitle key digits)) p h = tt
  untold-doing (Does (doing.OpensFirst link)) p h = tt
  untold-doing (Does (doing.OpensSecond link)) p h = tt
  untold-doing (OpensElsewhere link) p h = tt
  untold-doing (HearsElsewhere link text) p h = tt

  untold : (steps : List neighbours.Step) (p : PairState) → AllHandBy terms steps p → AreUntold c z b steps p
  untold [] p h = tt
  untold (AtNear what ∷ steps) p h = (untold-doing what p h.0, untold steps _ h.1)
  untold (AtFar what ∷ steps) p h = (own-untold z c (facing_back c z b) refl what (doing.turned p), untold steps _ h.1)

  -- ---- the pair that is like the two, with books of that point

  record Ends (w : NetworkState) : Type 0 where
    pair : PairState
    stands : Stands c z b pair
    alike : ArePairsAlike (pair_of_for flow.point c.own w near far) pair

  one-next : (move : Move) (w : NetworkState) (q : PairState) → IsCalm settings near far points well a own w → ArePairsAlike (pair_of_for flow.point c.own w near far) q
      → HearsOfNone (after_move move w) → NextOf terms near far apart (after_move move w) q
  one-next (Within step) w q calm i told =
      step-next terms near far apart step w q (own-points settings near far points well a own w calm) i (nobody settings near far points well a own w calm)
      (λ e. quiet-here step.what w (subst (λ (n : ℕ). HearsOfNone (did step.what n w)) e told))
      (λ e. takes-any settings near far points well a own step.what (w.node far) (w.node near))
  one-next (OpensOutside point link) w q calm i told =
      opens-next terms near far apart w (are-within settings near far points well a own w calm) q i (leads_out w point link) point link refl
  one-next (HearsOutside point link text) w q calm i told =
      hears-next terms near far apart w (are-within settings near far points well a own w calm) q i (leads_out w point link) (speaks_within w text) point link text refl refl

  goes : (moves : List Move) (w : NetworkState) (p q : PairState) → IsCalm settings near far points well a own w → Works c z a p → ArePairsAlike (pair_of w near far) p → Stands c z b q
      → ArePairsAlike (pair_of_for flow.point c.own w near far) q → HearsOfNone (after_moves moves w) → Ends (after_moves moves w)
  goes [] w p q calm s h t i told = record { pair = q; stands = t; alike = i }
  goes (move ∷ moves) w p q calm s h t i told =
      let v : NetworkState = after_move move w in
      let one : Goes settings near far points well a own v p = move-goes settings near far points well a own move w p calm s h in
      let next : NextOf terms near far apart v q = one-next move w q calm i (moves-before flow.point near far moves v told) in
      goes moves v (neighbours.after_steps one.steps p) (neighbours.after_steps_for flow.point c.own next.steps q) one.calm (steps-work c z a one.steps p s) one.pair
      (steps_for-stand c z b next.steps q (untold next.steps q next.hand) t) next.pair told

  abbrev at_end : List Move → NetworkState
  at_end moves = after_moves moves (first_network settings)

  all-goes : (moves : List Move) → HearsOfNone (at_end moves) → Ends (at_end moves)
  all-goes moves told =
      goes moves (first_network settings) (first_pair c z) (first_pair c z) (first-calm settings near far points well a own) (first-works c z a own) (first-alike settings near far)
      (first-stands c z b) (first-alike_for flow.point c.own settings near far) told

  -- ---- the order that it keeps

  abbrev Keeps : PairState → Type 0
  Keeps p =
      of_flow flow p.near.accepted
      ≡ of_flow flow p.far.received
      ++ of_flow flow (join_to (λ link. waits_on p link (far_end p link)) (length p.near.exchange.settings.links) ++ p.near.exchange.node.queues.held)

  keeps-so : (q : PairState) → Stands c z b q → LostNothing q → IsPunctual q → Keeps q
  keeps-so q s kept punctual =
      let e : q ≡ with_settings c z q = settled.written c z q s.near_settings s.far_settings in
      subst Keeps (sym e)
      (order-beyond c z b q (subst (Stands c z b) e s) (since-first c z b (with_settings c z q) (record { near = kept.near; far = kept.far })) flow.sls
      (beyond-none q.near.exchange.node.parts.times_late ∙ punctual))

  hop-so : (moves : List Move) → HearsOfNone (at_end moves) → LostNothing (pair_of (at_end moves) near far) → IsPunctual (pair_of (at_end moves) near far) → KeepsInOrder flow (at_end moves) near far
  hop-so moves told kept punctual =
      let w : NetworkState = at_end moves in
      let g : Ends w = all-goes moves told in
      let one : PairState = pair_of_for flow.point c.own w near far in
      let e : g.pair ≡ written one g.pair = is-written one g.pair g.alike in
      let k : Keeps (written one g.pair) =
      subst (λ (q : PairState). LostNothing q → IsPunctual q → Keeps q) e (keeps-so g.pair g.stands) (record { near = kept.near; far = kept.far }) punctual in
      sym (to-point flow.point flow.sls (w.node near).accepted)
      ∙ k
      ∙ ap (λ (ms : List Message). ms ++ waits_over flow w near far)
      (to-point flow.point flow.sls (came_from (w.node far).exchange.settings (w.node near).exchange.settings (w.node far).arrived))

module _ (settings : (point : ℕ) → Configuration) (moves : List Move) (flow : Flow) (points : AreTheirPoints settings) (well : AreWellOrAlone settings) where
  abbrev w : NetworkState
  w = after_moves moves (first_network settings)

  module _ (near far : ℕ) (h : IsOpenHop settings w flow near far) where
    hop-leads : LeadsOver settings w flow near far → KeepsInOrder flow w near far
    hop-leads (to_it e) =
        subst (λ (k : ℕ). KeepsInOrder (record { point = k; sls = flow.sls }) w near far) (sym e)
        (last-hop settings moves near far flow.sls points well h.sharing h.lossless h.punctual)
    hop-leads (beyond lead told) = hop-so settings near far points well h.sharing flow lead moves told h.lossless h.punctual

  -- ---- over a path

  each-hop : (first : ℕ) (rest : List ℕ) → AreOpenHops settings w flow first rest → EachHopInOrder flow w first rest
  each-hop first [] h = tt
  each-hop first (next ∷ rest) h = (hop-leads first next h.0 h.0.leads, each-hop next rest h.1)

pub hop-open : hops_keep_flows_in_order
hop-open settings moves flow near far points well h = hop-leads settings moves flow points well near far h h.leads

passing : (settings : (point : ℕ) → Configuration) (moves : List Move) (point : ℕ) → PassesInOrder ((after_moves moves (first_network settings)).node point)
passing settings moves point =
    subst (λ (w : NetworkState). PassesInOrder ((after_moves moves w).node point)) (begin-empty settings) (all-moves-pass (first_network settings) moves point)

pub paths-open : paths_keep_flows_in_order
paths-open settings moves flow first rest points well hops only =
    over flow (after_moves moves (first_network settings)) (passing settings moves) first rest (each-hop settings moves flow points well first rest hops) only
