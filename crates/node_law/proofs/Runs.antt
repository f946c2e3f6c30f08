-- So all moves of a network each of whose links has its other end in it do what some steps of one of `node_moves` do.
use Rattle.std.proofs.Common.{◌≡◌, ◌≤◌, ℕ, Bool, true, false, not, List, [], ◌∷◌, ◌++◌, length, Option, Some, None, nat_lt, refl, ap, sym, subst, ◌∙◌, arith}
use Rattle.std.proofs.lemmas.Bool.Decides.{nat_tests}
use Rattle.std.proofs.lemmas.List.{length-replicate}
use Rattle.std.proofs.lemmas.Option.{slice_get_within}
use Rattle.std.specs.Prelude.{drop, is_some, slice_get, slice_index_or, take}
use Rattle.std.specs.Option.{option_map}
use Rattle.settings.specs.Configuration.{Configuration, LinkEntry}
use Rattle.settings.specs.Well.{IsWell}
use Rattle.exchange_rules.proofs.LastingPlaces.{places-first}
use Rattle.exchange_rules.proofs.Lists.{each-replicate}
use Rattle.exchange_rules.specs.Messages.{link_with_code}
use Rattle.exchange_rules.specs.Routing.{adjacent_of}
use Rattle.exchange_rules.specs.Exchange.{wants_of}
use Rattle.exchange_rules.specs.Opening.{wanted}
use Rattle.exchange_rules.specs.Queues.{WholeQueues}
use Rattle.exchange_rules.specs.State.{Node, WentDown, Ticked, Activated, Deactivated, Released, TitleAdded, TitleSet, TitleRemoved}
use Rattle.node_moves.specs.Networks as nodes
use Rattle.node_moves.specs.Networks.{IsNode, is_node}
use Rattle.pair_rules.specs.Pairs as pairs
use Rattle.pair_rules.specs.Pairs.{Doing, in_flight}
use Rattle.network_rules.specs.Networks.{NetworkNode, NetworkState, after_step, changed, did, did_here, first_network, first_node}
use Rattle.network_rules.specs.Outside.{HearsOutside, Move, OpensOutside, Within, after_move, after_moves, hears_outside, leads_out, leads_out_by, opens_outside, speaks_within}
use Rattle.network_rules.specs.Totals.{IsPlaced}
use Rattle.network_rules.proofs.AllRuns.{did-keeps}
use Rattle.network_rules.proofs.Joined.{end_at, place_of}
use Rattle.network_rules.proofs.Outside.{move-keeps}
use Rattle.node_law.specs.Alike.{AreAlike, AreLinked, runs_are_runs_of_nodes}
use Rattle.node_law.proofs.Same.{IsSame}
use Rattle.node_law.proofs.Doings.{next-same, same-data, same-doubled, same-happens, same-lost, same-second, same-status, same-submit}
use Rattle.node_law.proofs.Places.{are-theirs, end-node, linked-end, node-listed}
use Rattle.node_law.proofs.Steps.{AreKept, AreSame, Follows, here-step, opens-follows, takes-follows}

module _ (settings : (point : ℕ) → Configuration) (numbers : List ℕ) (placed : IsPlaced settings numbers) where
  -- ---- one step

  module _ (w : NetworkState) (v : nodes.NetworkState) (kept : AreKept settings w) (h : AreSame settings w v) (point : ℕ) where
    abbrev c : Configuration
    c = settings point

    abbrev x : NetworkNode
    x = w.node point

    abbrev y : nodes.NetworkNode
    y = v.node point

    here : (f : NetworkNode → NetworkNode) (its : nodes.Doing) → nodes.changed point (nodes.did_here its c) v ≡ nodes.did settings its point v
        → (IsSame c x y → IsSame c (f x) (nodes.did_here its c y)) → Follows settings (changed point f w) v
    here f its is same = here-step settings w v h point (is_node settings point) refl f (nodes.did_here its c) its is same

    pub data-as : (link : ℕ) → IsSame c x y → IsSame c (did_here (pairs.Delivers link) x) (nodes.did_here (nodes.Delivers link) c y)
    data-as link s =
        subst (λ (o : Option (List ℕ)). IsSame c (did_here (pairs.Delivers link) x) (nodes.hear_data c o link y)) (sym (next-same c x y s link x.incoming.user_data y.user_data s.flight.data_links s.flight.user_data))
        (same-data c x y s link (slice_get (in_flight x.incoming.user_data link) 0) refl)

    status-next : (link : ℕ) → IsSame c x y → nodes.next_in c link (y.statuses link) ≡ slice_get (in_flight x.incoming.statuses link) 0
    status-next link s = next-same c x y s link x.incoming.statuses y.statuses s.flight.status_links s.flight.statuses

    pub status-as : (link : ℕ) → IsSame c x y → IsSame c (did_here (pairs.DeliversStatus link) x) (nodes.did_here (nodes.DeliversStatus link) c y)
    status-as link s =
        subst (λ (o : Option (List ℕ)). IsSame c (did_here (pairs.DeliversStatus link) x) (nodes.hear_status c o link y)) (sym (status-next link s))
        (same-status c x y s link (slice_get (in_flight x.incoming.statuses link) 0) refl)

    pub lost-as : (link : ℕ) → IsSame c x y → IsSame c (did_here (pairs.LosesStatus link) x) (nodes.did_here (nodes.LosesStatus link) c y)
    lost-as link s =
        subst (λ (o : Option (List ℕ)). IsSame c (did_here (pairs.LosesStatus link) x) (nodes.with_statuses o link (drop 1 (y.statuses link)) y)) (sym (status-next link s))
        (same-lost c x y s link (slice_get (in_flight x.incoming.statuses link) 0) refl)

    pub doubled-as : (link : ℕ) → IsSame c x y → IsSame c (did_here (pairs.DoublesStatus link) x) (nodes.did_here (nodes.DoublesStatus link) c y)
    doubled-as link s =
        subst (λ (o : Option (List ℕ)). IsSame c (did_here (pairs.DoublesStatus link) x) (nodes.with_statuses o link (take 1 (y.statuses link) ++ y.statuses link) y)) (sym (status-next link s))
        (same-doubled c x y s link (slice_get (in_flight x.incoming.statuses link) 0) refl)

    pub second-as : (link : ℕ) → IsSame c x y → IsSame c (did_here (pairs.OpensSecond link) x) (nodes.did_here (nodes.OpensSecond link) c y)
    second-as link s =
        subst (λ (may : Bool). IsSame c (did_here (pairs.OpensSecond link) x) (nodes.follow c (wanted y.node.parts link) may link y)) (s.flight.follows link)
        (subst (λ (n : Node WholeQueues). IsSame c (did_here (pairs.OpensSecond link) x) (nodes.follow c (wanted n.parts link) (slice_index_or x.following link false) link y)) s.exchange.node
        (same-second c x y s link (wants_of x.exchange link) (slice_index_or x.following link false) refl))

    pub step-follows : (what : Doing) → Follows settings (did what point w) v
    step-follows (pairs.Submits m) = here (did_here (pairs.Submits m)) (nodes.Submits m) refl (λ s. same-submit c x y s m)
    step-follows (pairs.Takes link) = takes-follows settings numbers placed w v kept h point link
    step-follows (pairs.Delivers link) = here (did_here (pairs.Delivers link)) (nodes.Delivers link) refl (data-as link)
    step-follows (pairs.DeliversStatus link) = here (did_here (pairs.DeliversStatus link)) (nodes.DeliversStatus link) refl (status-as link)
    step-follows (pairs.LosesStatus link) = here (did_here (pairs.LosesStatus link)) (nodes.LosesStatus link) refl (lost-as link)
    step-follows (pairs.DoublesStatus link) = here (did_here (pairs.DoublesStatus link)) (nodes.DoublesStatus link) refl (doubled-as link)
    step-follows (pairs.Loses link) = here (did_here (pairs.Loses link)) (nodes.Loses link) refl (λ s. same-happens c x y s (WentDown link))
    step-follows pairs.Ticks = here (did_here pairs.Ticks) nodes.Ticks refl (λ s. same-happens c x y s Ticked)
    step-follows (pairs.Activates link emergency) = here (did_here (pairs.Activates link emergency)) (nodes.Activates link emergency) refl (λ s. same-happens c x y s (Activated link emergency))
    step-follows (pairs.Deactivates link) = here (did_here (pairs.Deactivates link)) (nodes.Deactivates link) refl (λ s. same-happens c x y s (Deactivated link))
    step-follows (pairs.Releases link) = here (did_here (pairs.Releases link)) (nodes.Releases link) refl (λ s. same-happens c x y s (Released link))
    step-follows (pairs.AddsTitle row refused) = here (did_here (pairs.AddsTitle row refused)) (nodes.AddsTitle row refused) refl (λ s. same-happens c x y s (TitleAdded row refused))
    step-follows (pairs.SetsTitle row refused) = here (did_here (pairs.SetsTitle row refused)) (nodes.SetsTitle row refused) refl (λ s. same-happens c x y s (TitleSet row refused))
    step-follows (pairs.RemovesTitle key digits) = here (did_here (pairs.RemovesTitle key digits)) (nodes.RemovesTitle key digits) refl (λ s. same-happens c x y s (TitleRemoved key digits))
    step-follows (pairs.OpensFirst link) = opens-follows settings numbers placed w v kept h point link
    step-follows (pairs.OpensSecond link) = here (did_here (pairs.OpensSecond link)) (nodes.OpensSecond link) refl (second-as link)

  -- ---- the first

  pub first-same : (c : Configuration) → IsWell c → IsSame c (first_node c) (nodes.first_node c)
  first-same c well = record {
    exchange = record { settings = refl; places = places-first c well.link_count.below; node = refl };
    flight = record {
      status_links = length-replicate (length c.links) [];
      data_links = length-replicate (length c.links) [];
      following_links = length-replicate (length c.links) false;
      statuses = λ link. each-replicate (λ (texts : List (List ℕ)). texts ≡ []) (length c.links) link [] refl;
      user_data = λ link. each-replicate (λ (texts : List (List ℕ)). texts ≡ []) (length c.links) link [] refl;
      follows = λ link. each-replicate (λ (b : Bool). b ≡ false) (length c.links) link false refl;
      silent = λ link. tt;
    };
    books = record { taken = refl; came = λ link. refl; within = tt };
  }

  pub first-all : AreSame settings (first_network settings) (nodes.first_network settings)
  first-all = record { each = λ point fx. first-same (settings point) (placed.well point (node-listed settings numbers placed point fx)) }

  -- ---- all of them

  steps-both : (steps more : List nodes.Step) (v : nodes.NetworkState) → nodes.after_steps settings (steps ++ more) v ≡ nodes.after_steps settings more (nodes.after_steps settings steps v)
  steps-both [] more v = refl
  steps-both (step ∷ steps) more v = steps-both steps more (nodes.after_step settings step v)

  pub further : (w u : NetworkState) (v : nodes.NetworkState) (f : Follows settings w v) → Follows settings u (nodes.after_steps settings f.steps v) → Follows settings u v
  further w u v f g = record { steps = f.steps ++ g.steps; same = subst (AreSame settings u) (sym (steps-both f.steps g.steps v)) g.same }

  module _ (linked : AreLinked (first_network settings)) where
    -- no link leads out
    has-sets : (far : ℕ) → IsNode settings far → nat_lt 0 (length (settings far).sets) ≡ true
    has-sets far fx =
        let well : IsWell (settings far) = placed.well far (node-listed settings numbers placed far fx) in
        let some : 1 ≤ length (settings far).sets = well.set_count.above in
        grind (arith, nat_tests, some)

    far-node : (point link : ℕ) (l : LinkEntry) → slice_get (settings point).links link ≡ Some l → IsNode settings (adjacent_of (settings point) l.set)
    far-node point link l is = by (link_with_code (settings far) c.own l.slc) (ap (place_of settings c) is) (linked-end settings numbers placed linked point link (slice_get_within c.links link l is))
      where
        c : Configuration
        c = settings point

        far : ℕ
        far = adjacent_of c l.set

        by : (q : Option ℕ) → end_at settings point link ≡ option_map (λ other. record { point = far; link = other }) q → is_some (end_at settings point link) ≡ true → IsNode settings far
        by (Some other) e some = end-node settings numbers placed point link (record { point = far; link = other }) e
        by None e some = (let clash : false ≡ true = sym (ap is_some e) ∙ some in absurd cc)

    pub none-out : (w : NetworkState) → AreKept settings w → (point link : ℕ) → leads_out w point link ≡ false
    none-out w kept point link =
        ap (λ (c : Configuration). leads_out_by w c (slice_get c.links link)) (kept point) ∙ by (slice_get (settings point).links link) refl
      where
        by : (o : Option LinkEntry) → slice_get (settings point).links link ≡ o → leads_out_by w (settings point) o ≡ false
        by None e = refl
        by (Some l) e =
            ap (λ (c : Configuration). not (nat_lt 0 (length c.sets))) (kept (adjacent_of (settings point) l.set))
            ∙ ap not (has-sets (adjacent_of (settings point) l.set) (far-node point link l e))

    moves-follow : (moves : List Move) (w : NetworkState) (v : nodes.NetworkState) → AreKept settings w → Follows settings w v → Follows settings (after_moves moves w) v
    moves-follow [] w v kept f = f
    moves-follow (Within step ∷ moves) w v kept f =
        moves-follow moves (after_step step w) v (λ other. did-keeps step.what step.point w other ∙ kept other)
        (further w (after_step step w) v f (step-follows w (nodes.after_steps settings f.steps v) kept f.same step.point step.what))
    moves-follow (OpensOutside point link ∷ moves) w v kept f =
        subst (λ (out : Bool). Follows settings (after_moves moves (opens_outside out point link w)) v) (sym (none-out w kept point link)) (moves-follow moves w v kept f)
    moves-follow (HearsOutside point link text ∷ moves) w v kept f =
        subst (λ (out : Bool). Follows settings (after_moves moves (hears_outside out (speaks_within w text) point link text w)) v) (sym (none-out w kept point link)) (moves-follow moves w v kept f)

    -- ---- from the first on

    pub follows : (moves : List Move) → Follows settings (after_moves moves (first_network settings)) (nodes.first_network settings)
    follows moves =
        moves-follow moves (first_network settings) (nodes.first_network settings) (λ point. refl)
        (record { steps = []; same = first-all })

    moves-kept : (moves : List Move) (w : NetworkState) → AreKept settings w → AreKept settings (after_moves moves w)
    moves-kept [] w kept = kept
    moves-kept (move ∷ moves) w kept = moves-kept moves (after_move move w) (λ other. move-keeps move w other ∙ kept other)

    pub all-kept : (moves : List Move) → AreKept settings (after_moves moves (first_network settings))
    all-kept moves = moves-kept moves (first_network settings) (λ point. refl)

-- as the law says it
alike-of : (c : Configuration) (x : NetworkNode) (y : nodes.NetworkNode) → IsSame c x y → AreAlike x y
alike-of c x y s = record {
  node = s.exchange.node;
  statuses = s.flight.statuses;
  user_data = s.flight.user_data;
  follows = s.flight.follows;
  accepted = s.books.taken;
  came = s.books.came;
}

pub are-runs : runs_are_runs_of_nodes
are-runs settings numbers moves placed linked =
    let f : Follows settings (after_moves moves (first_network settings)) (nodes.first_network settings) = follows settings numbers placed linked moves in
    record {
      settings = settings;
      same = all-kept settings numbers placed linked moves;
      theirs = are-theirs settings numbers placed linked;
      steps = f.steps;
      alike = λ point fx. alike-of (settings point) ((after_moves moves (first_network settings)).node point) ((nodes.after_steps settings f.steps (nodes.first_network settings)).node point) (f.same.each point fx);
    }
