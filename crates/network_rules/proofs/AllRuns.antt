-- Any step of a network, and where it begins.
use Rattle.pair_rules.proofs.Basics.{◌≡◌, ◌≢◌, ℕ, Bool, true, false, List, [], ◌∷◌, ◌++◌, Option, Some, None, refl, ap, sym, subst, ◌∙◌, nat_eq, slice_get, if◌then◌else◌, ⊎_elim, cases_eq}
use Rattle.pair_rules.proofs.Definitions.{Configuration, FrameValue, Open, Nothing, Close, whole, PairState, turned, wants_of, frame_to_take, link_with_code, first_pair}
use Rattle.exchange_rules.specs.declared.wants.Wants.{Wants}
use Rattle.pair_rules.specs.Pairs as pairs
use Rattle.pair_rules.specs.Pairs.{Doing, in_flight, may_follow, with_status_twice, without_data, without_status}
use Rattle.pair_rules.specs.Promises.{BothWays}
use Rattle.pair_rules.specs.Sharing.{AreSharing}
use Rattle.neighbour_rules.specs.Neighbours as neighbours
use Rattle.neighbour_rules.proofs.Sharing.{AreFacing, are-facing}
use Rattle.network_rules.specs.Networks.{NetworkNode, NetworkState, Place, Step, after_step, after_steps, change_statuses, changed, comes_up, deliver_frame, did, did_here, end_of, first_network, is_led, may_open_there, opens_first, opens_second, other_end, place_there, reaches, sends, take_frame}
use Rattle.pair_rules.proofs.Definitions.{Streams}
use Rattle.network_rules.specs.Pairs.{AreTheirPoints, ArePairsAlike, HearsNothingElsewhere, pair_of, pair_between_for, pair_of_for}
use Rattle.network_rules.proofs.Alike.{away}
use Rattle.network_rules.proofs.Nodes.{TakesIn, Terms, idle, led-away, reach-away, turned_terms}
use Rattle.network_rules.proofs.Places.{IsNamed, named-away, not-equal, place-named}
use Rattle.network_rules.proofs.Runs.{NextOf, alike-turned_for, near-next, next-turned, past-far, past-near, still-next}

-- ---- settings stay

pub changed-keeps : (point : ℕ) (change : NetworkNode → NetworkNode) (w : NetworkState) → ((x : NetworkNode) → (change x).exchange.settings ≡ x.exchange.settings)
    → (other : ℕ) → ((changed point change w).node other).exchange.settings ≡ (w.node other).exchange.settings
changed-keeps point change w keeps other = by (nat_eq other point)
  where
    by : (b : Bool) → (if b then change (w.node other) else w.node other).exchange.settings ≡ (w.node other).exchange.settings
    by true = keeps (w.node other)
    by false = refl

deliver-keeps : (o : Option (List ℕ)) (link : ℕ) (left : Streams) (x : NetworkNode) → (deliver_frame o link left x).exchange.settings ≡ x.exchange.settings
deliver-keeps None link left x = refl
deliver-keeps (Some text) link left x = refl

statuses-keep : (o : Option (List ℕ)) (left : Streams) (x : NetworkNode) → (change_statuses o left x).exchange.settings ≡ x.exchange.settings
statuses-keep None left x = refl
statuses-keep (Some text) left x = refl

second-keeps : (wants : Wants) (follows : Bool) (link : ℕ) (x : NetworkNode) → (opens_second wants follows link x).exchange.settings ≡ x.exchange.settings
second-keeps Open true link x = refl
second-keeps Open false link x = refl
second-keeps Nothing follows link x = refl
second-keeps Close follows link x = refl

here-keeps : (what : Doing) (x : NetworkNode) → (did_here what x).exchange.settings ≡ x.exchange.settings
here-keeps (pairs.Submits m) x = refl
here-keeps (pairs.Takes link) x = refl
here-keeps (pairs.Delivers link) x = deliver-keeps (slice_get (in_flight x.incoming.user_data link) 0) link (without_data link x.incoming) x
here-keeps (pairs.DeliversStatus link) x = deliver-keeps (slice_get (in_flight x.incoming.statuses link) 0) link (without_status link x.incoming) x
here-keeps (pairs.LosesStatus link) x = statuses-keep (slice_get (in_flight x.incoming.statuses link) 0) (without_status link x.incoming) x
here-keeps (pairs.DoublesStatus link) x = statuses-keep (slice_get (in_flight x.incoming.statuses link) 0) (with_status_twice link x.incoming) x
here-keeps (pairs.Loses link) x = refl
here-keeps pairs.Ticks x = refl
here-keeps (pairs.Activates link emergency) x = refl
here-keeps (pairs.Deactivates link) x = refl
here-keeps (pairs.Releases link) x = refl
here-keeps (pairs.AddsTitle row is_memory_refused) x = refl
here-keeps (pairs.SetsTitle row is_memory_refused) x = refl
here-keeps (pairs.RemovesTitle key digits) x = refl
here-keeps (pairs.OpensFirst link) x = refl
here-keeps (pairs.OpensSecond link) x = second-keeps (wants_of x.exchange link) (may_follow (end_of x) link) link x

take-keeps : (o : Option FrameValue) (point link : ℕ) (there : Option Place) (w : NetworkState) (other : ℕ)
    → ((take_frame o point link there w).node other).exchange.settings ≡ (w.node other).exchange.settings
take-keeps None point link there w other = refl
take-keeps (Some frame) point link None w other = changed-keeps point (sends link) w (λ x. refl) other
take-keeps (Some frame) point link (Some there) w other =
    changed-keeps there.point (reaches frame there.link) (changed point (sends link) w) (λ x. refl) other ∙ changed-keeps point (sends link) w (λ x. refl) other

first-keeps : (wants : Wants) (may : Bool) (point link : ℕ) (there : Option Place) (w : NetworkState) (other : ℕ)
    → ((opens_first wants may point link there w).node other).exchange.settings ≡ (w.node other).exchange.settings
first-keeps Open true point link (Some there) w other =
    changed-keeps there.point (is_led there.link) (changed point (comes_up link) w) (λ x. refl) other ∙ changed-keeps point (comes_up link) w (λ x. refl) other
first-keeps Open true point link None w other = refl
first-keeps Open false point link there w other = refl
first-keeps Nothing may point link there w other = refl
first-keeps Close may point link there w other = refl

pub did-keeps : (what : Doing) (point : ℕ) (w : NetworkState) (other : ℕ) → ((did what point w).node other).exchange.settings ≡ (w.node other).exchange.settings
did-keeps (pairs.Submits m) point w other = changed-keeps point (did_here (pairs.Submits m)) w (here-keeps (pairs.Submits m)) other
did-keeps (pairs.Takes link) point w other = take-keeps (frame_to_take whole (w.node point).exchange link) point link (other_end w point link) w other
did-keeps (pairs.Delivers link) point w other = changed-keeps point (did_here (pairs.Delivers link)) w (here-keeps (pairs.Delivers link)) other
did-keeps (pairs.DeliversStatus link) point w other = changed-keeps point (did_here (pairs.DeliversStatus link)) w (here-keeps (pairs.DeliversStatus link)) other
did-keeps (pairs.LosesStatus link) point w other = changed-keeps point (did_here (pairs.LosesStatus link)) w (here-keeps (pairs.LosesStatus link)) other
did-keeps (pairs.DoublesStatus link) point w other = changed-keeps point (did_here (pairs.DoublesStatus link)) w (here-keeps (pairs.DoublesStatus link)) other
did-keeps (pairs.Loses link) point w other = changed-keeps point (did_here (pairs.Loses link)) w (here-keeps (pairs.Loses link)) other
did-keeps pairs.Ticks point w other = changed-keeps point (did_here pairs.Ticks) w (here-keeps pairs.Ticks) other
did-keeps (pairs.Activates link emergency) point w other = changed-keeps point (did_here (pairs.Activates link emergency)) w (here-keeps (pairs.Activates link emergency)) other
did-keeps (pairs.Deactivates link) point w other = changed-keeps point (did_here (pairs.Deactivates link)) w (here-keeps (pairs.Deactivates link)) other
did-keeps (pairs.Releases link) point w other = changed-keeps point (did_here (pairs.Releases link)) w (here-keeps (pairs.Releases link)) other
did-keeps (pairs.AddsTitle row is_memory_refused) point w other =
    changed-keeps point (did_here (pairs.AddsTitle row is_memory_refused)) w (here-keeps (pairs.AddsTitle row is_memory_refused)) other
did-keeps (pairs.SetsTitle row is_memory_refused) point w other =
    changed-keeps point (did_here (pairs.SetsTitle row is_memory_refused)) w (here-keeps (pairs.SetsTitle row is_memory_refused)) other
did-keeps (pairs.RemovesTitle key digits) point w other = changed-keeps point (did_here (pairs.RemovesTitle key digits)) w (here-keeps (pairs.RemovesTitle key digits)) other
did-keeps (pairs.OpensFirst link) point w other =
    first-keeps (wants_of (w.node point).exchange link) (may_open_there w (other_end w point link)) point link (other_end w point link) w other
did-keeps (pairs.OpensSecond link) point w other = changed-keeps point (did_here (pairs.OpensSecond link)) w (here-keeps (pairs.OpensSecond link)) other

pub steps-keep : (steps : List Step) (w : NetworkState) (other : ℕ) → ((after_steps steps w).node other).exchange.settings ≡ (w.node other).exchange.settings
steps-keep [] w other = refl
steps-keep (step ∷ steps) w other = steps-keep steps (after_step step w) other ∙ did-keeps step.what step.point w other

-- ---- each node is told its point

pub record HasPoints (w : NetworkState) : Type 0 where
  pub own : (point : ℕ) → (w.node point).exchange.settings.own ≡ point

pub still-points : (w v : NetworkState) → ((point : ℕ) → (v.node point).exchange.settings ≡ (w.node point).exchange.settings) → HasPoints w → HasPoints v
still-points w v same h = record { own = λ point. ap (λ (c : Configuration). c.own) (same point) ∙ h.own point }

-- ---- a third node does something

module _ (t : Terms) (near far : ℕ) (apart : near ≢ far) (w : NetworkState) (own : HasPoints w) (p : PairState) (h : ArePairsAlike (pair_of_for t.to_far t.to_near w near far) p) (point : ℕ) (d : near ≢ point) (e : far ≢ point) where
  abbrev here : ArePairsAlike (pair_of_for t.to_far t.to_near w near far) p → NextOf t near far apart w p
  here i = idle t (w.node near) (w.node far) p i

  -- what it does reaches one of the two on a link that leads elsewhere
  module _ (change : NetworkNode → NetworkNode) (keeps : (x : NetworkNode) → (change x).exchange.settings ≡ x.exchange.settings) (link : ℕ) (there : Place)
      (is : place_there w (w.node point).exchange.settings (slice_get (w.node point).exchange.settings.links link) ≡ Some there) where
    abbrev v : NetworkState
    v = changed point change w

    abbrev c : Configuration
    c = (w.node point).exchange.settings

    named : IsNamed w c there
    named = place-named w c (slice_get c.links link) there is

    -- of two other nodes, the link of one that leads to the point leads elsewhere than to the other
    leads-away : (one other : ℕ) → other ≢ point → there.point ≡ one → away (v.node one).exchange.settings (v.node other).exchange.settings there.link ≡ true
    leads-away one other f same =
        subst (λ (s : Configuration). away s (v.node other).exchange.settings there.link ≡ true) (sym (changed-keeps point change w keeps one))
        (subst (λ (s : Configuration). away (w.node one).exchange.settings s there.link ≡ true) (sym (changed-keeps point change w keeps other))
        (named-away (w.node one).exchange.settings (w.node other).exchange.settings c.own named.slc there.link
        (subst (λ (n : ℕ). link_with_code (w.node n).exchange.settings c.own named.slc ≡ Some there.link) same named.named)
        (not-equal c.own (w.node other).exchange.settings.own (λ g. f (sym (own.own other) ∙ sym g ∙ own.own point)))))

    past : (unseen : NetworkNode → NetworkNode)
        → ((u : Terms) (x y : NetworkNode) (q : PairState) → away x.exchange.settings y.exchange.settings there.link ≡ true → ArePairsAlike (pair_between_for u.to_far u.to_near x y) q → ArePairsAlike (pair_between_for u.to_far u.to_near (unseen x) y) q)
        → NextOf t near far apart (changed there.point unseen v) p
    past unseen hides =
        let before : NextOf t near far apart v p = still-next t near far apart w point change p d e (here h) in
        ⊎_elim
        (λ (same : there.point ≡ near).
        subst (λ (n : ℕ). NextOf t near far apart (changed n unseen v) p) (sym same)
        (past-near t near far apart v unseen p (λ q. hides t (v.node near) (v.node far) q (leads-away near far e same)) before))
        (λ (not_near : there.point ≢ near).
        ⊎_elim
        (λ (same : there.point ≡ far).
        subst (λ (n : ℕ). NextOf t near far apart (changed n unseen v) p) (sym same)
        (past-far t near far apart v unseen p
        (λ q i. alike-turned_for (turned_terms t) (unseen (v.node far)) (v.node near) (turned q)
        (hides (turned_terms t) (v.node far) (v.node near) (turned q) (leads-away far near d same) (alike-turned_for t (v.node near) (v.node far) q i))) before))
        (λ (not_far : there.point ≢ far). still-next t near far apart v there.point unseen p (λ f. not_near (sym f)) (λ f. not_far (sym f)) before)
        (cases_eq there.point far))
        (cases_eq there.point near)

  abbrev entry_place : (link : ℕ) → Option Place
  entry_place link = other_end w point link

  third-takes : (o : Option FrameValue) (link : ℕ) (there : Option Place) → entry_place link ≡ there → NextOf t near far apart (take_frame o point link there w) p
  third-takes None link there f = here h
  third-takes (Some frame) link None f = still-next t near far apart w point (sends link) p d e (here h)
  third-takes (Some frame) link (Some there) f = past (sends link) (λ x. refl) link there f (reaches frame there.link) (λ u x y q g i. reach-away u x y q i frame there.link g)

  third-opens : (wants : Wants) (may : Bool) (link : ℕ) (there : Option Place) → entry_place link ≡ there → NextOf t near far apart (opens_first wants may point link there w) p
  third-opens Open true link (Some there) f = past (comes_up link) (λ x. refl) link there f (is_led there.link) (λ u x y q g i. led-away u x y q i there.link g)
  third-opens Open true link None f = here h
  third-opens Open false link there f = here h
  third-opens Nothing may link there f = here h
  third-opens Close may link there f = here h

  abbrev alone : (what : Doing) → NextOf t near far apart (changed point (did_here what) w) p
  alone what = still-next t near far apart w point (did_here what) p d e (here h)

  third-next : (what : Doing) → NextOf t near far apart (did what point w) p
  third-next (pairs.Submits m) = alone (pairs.Submits m)
  third-next (pairs.Takes link) = third-takes (frame_to_take whole (w.node point).exchange link) link (entry_place link) refl
  third-next (pairs.Delivers link) = alone (pairs.Delivers link)
  third-next (pairs.DeliversStatus link) = alone (pairs.DeliversStatus link)
  third-next (pairs.LosesStatus link) = alone (pairs.LosesStatus link)
  third-next (pairs.DoublesStatus link) = alone (pairs.DoublesStatus link)
  third-next (pairs.Loses link) = alone (pairs.Loses link)
  third-next pairs.Ticks = alone pairs.Ticks
  third-next (pairs.Activates link emergency) = alone (pairs.Activates link emergency)
  third-next (pairs.Deactivates link) = alone (pairs.Deactivates link)
  third-next (pairs.Releases link) = alone (pairs.Releases link)
  third-next (pairs.AddsTitle row is_memory_refused) = alone (pairs.AddsTitle row is_memory_refused)
  third-next (pairs.SetsTitle row is_memory_refused) = alone (pairs.SetsTitle row is_memory_refused)
  third-next (pairs.RemovesTitle key digits) = alone (pairs.RemovesTitle key digits)
  third-next (pairs.OpensFirst link) =
      third-opens (wants_of (w.node point).exchange link) (may_open_there w (entry_place link)) link (entry_place link) refl
  third-next (pairs.OpensSecond link) = alone (pairs.OpensSecond link)

-- ---- any node does

module _ (t : Terms) (near far : ℕ) (apart : near ≢ far) where
  pub step-next : (step : Step) (w : NetworkState) (p : PairState) → HasPoints w → ArePairsAlike (pair_of_for t.to_far t.to_near w near far) p → BothWays HearsNothingElsewhere (pair_of w near far) → (step.point ≡ near → TakesIn t.near_is step.what (w.node near) (w.node far)) → (step.point ≡ far → TakesIn t.far_is step.what (w.node far) (w.node near))
      → NextOf t near far apart (after_step step w) p
  step-next step w p own h silent near_told far_told =
      ⊎_elim
      (λ (e : step.point ≡ near). subst (λ (n : ℕ). NextOf t near far apart (did step.what n w) p) (sym e) (near-next t near far apart w own.own p h silent.there step.what (near_told e)))
      (λ (d : step.point ≢ near).
      ⊎_elim
      (λ (e : step.point ≡ far).
      subst (λ (n : ℕ). NextOf t near far apart (did step.what n w) p) (sym e)
      (next-turned t ((did step.what far w).node near) ((did step.what far w).node far) p
      (near-next (turned_terms t) far near (λ f. apart (sym f)) w own.own (turned p) (alike-turned_for t (w.node near) (w.node far) p h) silent.back step.what (far_told e))))
      (λ (e : step.point ≢ far). third-next t near far apart w own p h step.point (λ f. d (sym f)) (λ f. e (sym f)) step.what)
      (cases_eq step.point far))
      (cases_eq step.point near)

-- two lists of steps of neighbours, one after the other
pub neighbours-join : (one other : List neighbours.Step) (p : PairState) → neighbours.after_steps (one ++ other) p ≡ neighbours.after_steps other (neighbours.after_steps one p)
neighbours-join [] other p = refl
neighbours-join (step ∷ one) other p = neighbours-join one other (neighbours.turn step p).left

-- ---- from the first on

pub first-alike_for : (to_far to_near : ℕ) (settings : (point : ℕ) → Configuration) (near far : ℕ) → ArePairsAlike (pair_of_for to_far to_near (first_network settings) near far) (first_pair (settings near) (settings far))
first-alike_for to_far to_near settings near far = record {
  near_alike = record {
    exchange = refl;
    accepted = refl;
    received = refl;
    incoming = record { statuses = λ link e. refl; user_data = λ link e. refl; status_links = refl; data_links = refl };
    following = λ link e. refl;
    following_links = refl;
  };
  far_alike = record {
    exchange = refl;
    accepted = refl;
    received = refl;
    incoming = record { statuses = λ link e. refl; user_data = λ link e. refl; status_links = refl; data_links = refl };
    following = λ link e. refl;
    following_links = refl;
  };
}

pub first-alike : (settings : (point : ℕ) → Configuration) (near far : ℕ) → ArePairsAlike (pair_of (first_network settings) near far) (first_pair (settings near) (settings far))
first-alike settings near far = first-alike_for (settings far).own (settings near).own settings near far

pub are-apart : (settings : (point : ℕ) → Configuration) (near far : ℕ) → AreTheirPoints settings → AreSharing (settings near) (settings far) → near ≢ far
are-apart settings near far points sharing =
    let facing : AreFacing (settings near) (settings far) = are-facing (settings near) (settings far) sharing in
    λ e. facing.apart (points near ∙ e ∙ sym (points far))
