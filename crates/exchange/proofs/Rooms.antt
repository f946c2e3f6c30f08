-- What an exchange keeps still has its room, nothing is owed but what may be pending, and all flows are counted but
-- those that are due, as links and what was told change.
use Rattle.exchange.proofs.Basics.{◌≡◌, ◌<◌, ◌+◌, ℕ, Bool, true, false, ◌||◌, not, length, replicate, List, refl, ap, sym, subst, ◌∙◌, map, [], ◌∷◌, slice_index_or, if◌then◌else◌, Option, Some, None, length-set, get_or-set_same, RouteStatus, Facts, with_status_over, Link, carries_traffic, down_link, Network, facts_of, link_in, with_state, serving, with_route_status, facts_alike, Running, lane_at, Procedure, HoldSet, Codes, FlowChange, with_change, held_by, ToldTable, shape_of, with_told, status_to_advertise, told_shape, State, KeptQueues, held_lane, all_wait, facts, Updates, with_all, with_destination, OwesNoneBut, HasRoom, kept_in, HasHoldsFor, HasCodes, with_hold-fits, Configuration, Inside}
use Rattle.std.specs.Prelude.{◌-◌, ◌^◌, min, slice_set}
use Rattle.exchange.proofs.Pending.{all_may_be, status_owes, told_owes_no_more}
use Rattle.exchange.proofs.Recounting.{all-due, counted-but, one-more-due, row-but}
use Rattle.exchange.specs.DueFlows.{CountedBut, row_of, row_counted, with_all_due_if, with_due}
use Rattle.exchange.specs.declared.reroutings.DueFlows.{DueFlows}
use Rattle.exchange.specs.declared.reroutings.DueFlows.TheVariants.{Nothing}
use Rattle.exchange_rules.specs.State.{Reroutings}
use Rattle.exchange_rules.specs.Reroutings.{counted, last_sets_from, changes_from}
use Rattle.exchange_rules.proofs.Basics.{option_map}
use Rattle.exchange_rules.proofs.Definitions.{set_of}
use Rattle.routes.proofs.Telling.{other_link}

-- nothing is owed but what may be pending
abbrev Owes : Inside → Updates → Facts → ToldTable → Type 0
Owes e u f t = OwesNoneBut (length e.settings.destinations) u f t

-- the sets by which flows went
abbrev pub reroutings_in : Inside → Reroutings
reroutings_in e = record { last_sets = e.flow_sets; times = e.times_rerouted }

-- all flows are counted but those that are due
abbrev Counts : Inside → DueFlows → Facts → Type 0
Counts e due f = CountedBut e.settings due f (reroutings_in e)

-- whatever changes but queues, the changeovers and the notices
pub any_room : (e : Inside) (n : Network) (t : ToldTable) (k : Codes) (u : HoldSet) (r : Running) (release : Bool) (pending : Updates) (due : DueFlows) → HasRoom e
    → length n.links ≡ length e.links.links → n.sets ≡ e.links.sets → length n.routes ≡ length e.links.routes → shape_of t ≡ shape_of e.told
    → HasCodes (length e.settings.sets) k → HasHoldsFor e.settings u
    → (release || all_wait e.settings u (lane_at e.lanes.lists held_lane)) ≡ true
    → Owes e pending (facts_of n) t → Counts e due (facts_of n)
    → HasRoom (record e { links = n; told = t; changeback = k; holds = u; timers = r; release_due = release; pending = pending; flows_due = due })
any_room e n t k u r release pending due h many sets routes shape codes holds waiting owes counts = record {
  lanes = h.lanes ∙ ap (λ (k : ℕ). k + 1) (sym many);
  sequences = h.sequences ∙ sym many;
  changeovers = h.changeovers ∙ sym many;
  links = many ∙ h.links;
  sets = sets ∙ h.sets;
  pool = h.pool;
  notices = h.notices;
  told = shape ∙ h.told;
  few_links = h.few_links;
  routes = routes ∙ h.routes;
  codes = codes;
  holds = holds;
  unequipped = h.unequipped;
  waiting = waiting;
  pending = owes;
  flows = counts;
}

-- other sets by which flows went
pub flows_room : (e : Inside) (sets : List (List (Option ℕ))) (times : ℕ) (due : DueFlows) → HasRoom e
    → CountedBut e.settings due (facts_of e.links) (record { last_sets = sets; times = times })
    → HasRoom (record e { flow_sets = sets; times_rerouted = times; flows_due = due })
flows_room e sets times due h counts = record {
  lanes = h.lanes;
  sequences = h.sequences;
  changeovers = h.changeovers;
  links = h.links;
  sets = h.sets;
  pool = h.pool;
  notices = h.notices;
  told = h.told;
  few_links = h.few_links;
  routes = h.routes;
  codes = h.codes;
  holds = h.holds;
  unequipped = h.unequipped;
  waiting = h.waiting;
  pending = h.pending;
  flows = counts;
}

-- other counts of messages for user parts that aren't here, for as many destinations
pub counted_room : (e : Inside) (u : List ℕ) → HasRoom e → length u ≡ length e.unequipped → HasRoom (record e { unequipped = u })
counted_room e u h same = record {
  lanes = h.lanes;
  sequences = h.sequences;
  changeovers = h.changeovers;
  links = h.links;
  sets = h.sets;
  pool = h.pool;
  notices = h.notices;
  told = h.told;
  few_links = h.few_links;
  routes = h.routes;
  codes = h.codes;
  holds = h.holds;
  unequipped = same ∙ h.unequipped;
  waiting = h.waiting;
  pending = h.pending;
  flows = h.flows;
}

-- links, what was told and timers change
pub changed_room : (e : Inside) (n : Network) (t : ToldTable) (r : Running) (pending : Updates) (due : DueFlows) → HasRoom e
    → length n.links ≡ length e.links.links → n.sets ≡ e.links.sets → length n.routes ≡ length e.links.routes → shape_of t ≡ shape_of e.told
    → Owes e pending (facts_of n) t → Counts e due (facts_of n)
    → HasRoom (record e { links = n; told = t; timers = r; pending = pending; flows_due = due })
changed_room e n t r pending due h many sets routes shape owes counts =
    any_room e n t e.changeback e.holds r e.release_due pending due h many sets routes shape h.codes h.holds h.waiting owes counts

-- what is held changes, a release is due, and codes and timers may change with it
pub held_room : (e : Inside) (n : Network) (k : Codes) (u : HoldSet) (r : Running) → HasRoom e
    → n ≡ e.links → HasCodes (length e.settings.sets) k → HasHoldsFor e.settings u
    → HasRoom (record e { links = n; changeback = k; holds = u; timers = r; release_due = true })
held_room e n k u r h same codes holds =
    any_room e n e.told k u r true e.pending e.flows_due h (ap (λ (m : Network). length m.links) same) (ap (λ (m : Network). m.sets) same)
    (ap (λ (m : Network). length m.routes) same) refl codes holds refl
    (subst (λ (m : Network). Owes e e.pending (facts_of m) e.told) (sym same) h.pending)
    (subst (λ (m : Network). Counts e e.flows_due (facts_of m)) (sym same) h.flows)

-- a status changes no count of routes
pub status_routes : (n m : Network) (destination set : ℕ) (status : RouteStatus) → m ≡ with_route_status destination set status n → length m.routes ≡ length n.routes
status_routes n m destination set status e =
    ap (λ (m : Network). length m.routes) e
    ∙ length-set n.routes destination (map (with_status_over set status) (slice_index_or n.routes destination []))

-- nothing is owed but what was, and what may be about the destination of a route with another status
status_owes_but : (e : Inside) (n : Network) (destination set : ℕ) (status : RouteStatus) (pending : Updates) → HasRoom e
    → n ≡ with_route_status destination set status e.links → destination < length e.settings.destinations → pending ≡ with_destination destination e.pending
    → Owes e pending (facts_of n) e.told
status_owes_but e n destination set status pending h same there is =
    subst (λ (p : Updates). Owes e p (facts_of n) e.told) (sym is)
    (subst (λ (m : Network). Owes e (with_destination destination e.pending) (facts_of m) e.told) (sym same)
    (status_owes (length e.settings.destinations) e.pending (facts_of e.links) e.told destination set status there h.pending))

-- and no flow changed its set but those that were due, and maybe those to that destination
status_counts : (e : Inside) (n : Network) (destination set : ℕ) (status : RouteStatus) (due : DueFlows) → HasRoom e
    → n ≡ with_route_status destination set status e.links → due ≡ with_due destination e.flows_due → Counts e due (facts_of n)
status_counts e n destination set status due h same is =
    subst (λ (d : DueFlows). Counts e d (facts_of n)) (sym is)
    (subst (λ (m : Network). Counts e (with_due destination e.flows_due) (facts_of m)) (sym same)
    (one-more-due e.settings e.flows_due (facts_of e.links) (facts_of (with_route_status destination set status e.links)) destination (reroutings_in e)
    (λ other sls apart. ap (λ (o : Option ℕ). option_map (set_of e.settings) o) (other_link (facts_of e.links) destination other set sls status apart)) h.flows))

-- a route gets another status
pub forced_room : (e : Inside) (n : Network) (destination set : ℕ) (status : RouteStatus) (pending : Updates) (due : DueFlows) → HasRoom e
    → n ≡ with_route_status destination set status e.links → destination < length e.settings.destinations → pending ≡ with_destination destination e.pending
    → due ≡ with_due destination e.flows_due
    → HasRoom (record e { links = n; pending = pending; flows_due = due })
forced_room e n destination set status pending due h same there is marked =
    changed_room e n e.told e.timers pending due h (ap (λ (m : Network). length m.links) same) (ap (λ (m : Network). m.sets) same)
    (status_routes e.links n destination set status same) refl (status_owes_but e n destination set status pending h same there is)
    (status_counts e n destination set status due h same marked)

-- besides, what is held changes, and a release is due
pub rerouted_room : (e : Inside) (n : Network) (u : HoldSet) (r : Running) (destination set : ℕ) (status : RouteStatus) (pending : Updates) (due : DueFlows) → HasRoom e
    → n ≡ with_route_status destination set status e.links → destination < length e.settings.destinations → pending ≡ with_destination destination e.pending
    → due ≡ with_due destination e.flows_due → HasHoldsFor e.settings u
    → HasRoom (record e { links = n; holds = u; timers = r; release_due = true; pending = pending; flows_due = due })
rerouted_room e n u r destination set status pending due h same there is marked holds =
    any_room e n e.told e.changeback u r true pending due h (ap (λ (m : Network). length m.links) same) (ap (λ (m : Network). m.sets) same)
    (status_routes e.links n destination set status same) refl h.codes holds refl (status_owes_but e n destination set status pending h same there is)
    (status_counts e n destination set status due h same marked)

-- one link changes
pub link_room : (e : Inside) (n : Network) (link : ℕ) (state : Link) (pending : Updates) (due : DueFlows) → HasRoom e → n ≡ with_state e.links link state
    → Owes e pending (facts_of (with_state e.links link state)) e.told → Counts e due (facts_of (with_state e.links link state))
    → HasRoom (record e { links = n; pending = pending; flows_due = due })
link_room e n link state pending due h same owes counts =
    subst (λ (m : Network). HasRoom (record e { links = m; pending = pending; flows_due = due })) (sym same)
    (changed_room e (with_state e.links link state) e.told e.timers pending due h (length-set e.links.links link state) refl refl refl owes counts)

-- whatever changes, what was owed nothing is owed nothing
still : (e : Inside) (link : ℕ) (state : Link) → carries_traffic state ≡ carries_traffic (link_in e.links.links link)
    → HasRoom e → Owes e e.pending (facts_of (with_state e.links link state)) e.told
still e link state serves h = subst (λ (f : Facts). Owes e e.pending f e.told) (sym (facts_alike e.links link state serves)) h.pending

-- and no flow changed its set
still-counts : (e : Inside) (link : ℕ) (state : Link) → carries_traffic state ≡ carries_traffic (link_in e.links.links link)
    → HasRoom e → Counts e e.flows_due (facts_of (with_state e.links link state))
still-counts e link state serves h = subst (λ (f : Facts). Counts e e.flows_due f) (sym (facts_alike e.links link state serves)) h.flows

-- it carries traffic neither before nor now, or both
pub still_room : (e : Inside) (n : Network) (link : ℕ) (state : Link) → HasRoom e → n ≡ with_state e.links link state
    → carries_traffic state ≡ carries_traffic (link_in e.links.links link)
    → HasRoom (record e { links = n })
still_room e n link state h same serves = link_room e n link state e.pending e.flows_due h same (still e link state serves h) (still-counts e link state serves h)

-- where it carried traffic and does no more, anything may be pending
left-by : (e : Inside) (link : ℕ) (state : Link) (served : Bool) → carries_traffic (link_in e.links.links link) ≡ served → carries_traffic state ≡ false
    → HasRoom e → Owes e (if served then with_all e.pending else e.pending) (facts_of (with_state e.links link state)) e.told
left-by e link state true was out h = all_may_be (length e.settings.destinations) e.pending (facts_of (with_state e.links link state)) e.told h.pending.marks
left-by e link state false was out h = still e link state (out ∙ sym was) h

left-counts : (e : Inside) (link : ℕ) (state : Link) (served : Bool) → carries_traffic (link_in e.links.links link) ≡ served → carries_traffic state ≡ false
    → HasRoom e → Counts e (with_all_due_if served e.flows_due) (facts_of (with_state e.links link state))
left-counts e link state true was out h = all-due e.settings e.flows_due (facts_of e.links) (facts_of (with_state e.links link state)) (reroutings_in e) h.flows
left-counts e link state false was out h = still-counts e link state (out ∙ sym was) h

pub left_room : (e : Inside) (n : Network) (link : ℕ) (state : Link) (served : Bool) (pending : Updates) (due : DueFlows) → HasRoom e → n ≡ with_state e.links link state
    → served ≡ carries_traffic (link_in e.links.links link) → carries_traffic state ≡ false
    → pending ≡ (if served then with_all e.pending else e.pending) → due ≡ with_all_due_if served e.flows_due
    → HasRoom (record e { links = n; pending = pending; flows_due = due })
left_room e n link state served pending due h same was out is marked =
    link_room e n link state pending due h same
    (subst (λ (p : Updates). Owes e p (facts_of (with_state e.links link state)) e.told) (sym is) (left-by e link state served (sym was) out h))
    (subst (λ (d : DueFlows). Counts e d (facts_of (with_state e.links link state))) (sym marked) (left-counts e link state served (sym was) out h))

-- where it began or ceased to carry traffic, anything may be pending
moved-by : (e : Inside) (link : ℕ) (state : Link) (before now : Bool) → carries_traffic (link_in e.links.links link) ≡ before → carries_traffic state ≡ now
    → HasRoom e → Owes e (if (if before then not now else now) then with_all e.pending else e.pending) (facts_of (with_state e.links link state)) e.told
moved-by e link state true true was is h = still e link state (is ∙ sym was) h
moved-by e link state true false was is h = all_may_be (length e.settings.destinations) e.pending (facts_of (with_state e.links link state)) e.told h.pending.marks
moved-by e link state false true was is h = all_may_be (length e.settings.destinations) e.pending (facts_of (with_state e.links link state)) e.told h.pending.marks
moved-by e link state false false was is h = still e link state (is ∙ sym was) h

moved-counts : (e : Inside) (link : ℕ) (state : Link) (before now : Bool) → carries_traffic (link_in e.links.links link) ≡ before → carries_traffic state ≡ now
    → HasRoom e → Counts e (with_all_due_if (if before then not now else now) e.flows_due) (facts_of (with_state e.links link state))
moved-counts e link state true true was is h = still-counts e link state (is ∙ sym was) h
moved-counts e link state true false was is h = all-due e.settings e.flows_due (facts_of e.links) (facts_of (with_state e.links link state)) (reroutings_in e) h.flows
moved-counts e link state false true was is h = all-due e.settings e.flows_due (facts_of e.links) (facts_of (with_state e.links link state)) (reroutings_in e) h.flows
moved-counts e link state false false was is h = still-counts e link state (is ∙ sym was) h

pub moved_room : (e : Inside) (n : Network) (link : ℕ) (state : Link) (before now changed : Bool) (pending : Updates) (due : DueFlows) → HasRoom e
    → n ≡ with_state e.links link state
    → before ≡ carries_traffic (link_in e.links.links link) → now ≡ carries_traffic (link_in n.links link)
    → changed ≡ (if before then not now else now) → pending ≡ (if changed then with_all e.pending else e.pending)
    → due ≡ with_all_due_if changed e.flows_due → link < length e.links.links
    → HasRoom (record e { links = n; pending = pending; flows_due = due })
moved_room e n link state before now changed pending due h same was is differs may marked there =
    let now_is : now ≡ carries_traffic state =
    is ∙ ap carries_traffic
    (ap (λ (m : Network). link_in m.links link) same ∙ get_or-set_same e.links.links link state down_link there) in
    let whole : pending ≡ (if (if before then not now else now) then with_all e.pending else e.pending) =
    may ∙ ap (λ (b : Bool). if b then with_all e.pending else e.pending) differs in
    let marks : due ≡ with_all_due_if (if before then not now else now) e.flows_due =
    marked ∙ ap (λ (b : Bool). with_all_due_if b e.flows_due) differs in
    link_room e n link state pending due h same
    (subst (λ (p : Updates). Owes e p (facts_of (with_state e.links link state)) e.told) (sym whole)
    (moved-by e link state before now (sym was) (sym now_is) h))
    (subst (λ (d : DueFlows). Counts e d (facts_of (with_state e.links link state))) (sym marks)
    (moved-counts e link state before now (sym was) (sym now_is) h))

-- ---- what is said of what an exchange shows

-- what is known of routes
pub view_facts : (e : Inside) (s : State KeptQueues) → HasRoom e → kept_in e ≡ s → facts s.settings s.node.parts ≡ facts_of e.links
view_facts e s h view =
    ap (λ (x : State KeptQueues). facts x.settings x.node.parts) (sym view)
    ∙ ap (λ (sets : List (List ℕ)). record { sets = sets; in_service = serving e.links.links; routes = e.links.routes }) (sym h.sets)

pub view_told : (e : Inside) (s : State KeptQueues) → kept_in e ≡ s → s.node.parts.told ≡ e.told
view_told e s view = ap (λ (x : State KeptQueues). x.node.parts.told) (sym view)

pub view_shape : (e : Inside) (s : State KeptQueues) → HasRoom e → kept_in e ≡ s
    → shape_of s.node.parts.told ≡ replicate (length s.settings.sets) (length s.settings.destinations)
view_shape e s h view =
    subst (λ (x : State KeptQueues). shape_of x.node.parts.told ≡ replicate (length x.settings.sets) (length x.settings.destinations)) view h.told

-- nothing is owed but what may be pending
pub view_pending : (e : Inside) (s : State KeptQueues) → HasRoom e → kept_in e ≡ s
    → OwesNoneBut (length e.settings.destinations) e.pending (facts s.settings s.node.parts) s.node.parts.told
view_pending e s h view =
    subst (λ (f : Facts). Owes e e.pending f s.node.parts.told) (sym (view_facts e s h view))
    (subst (λ (t : ToldTable). Owes e e.pending (facts_of e.links) t) (sym (view_told e s view)) h.pending)

-- what may be pending is found again
pub pending_room : (e : Inside) (s : State KeptQueues) (pending : Updates) → HasRoom e → kept_in e ≡ s
    → OwesNoneBut (length e.settings.destinations) pending (facts s.settings s.node.parts) s.node.parts.told
    → HasRoom (record e { pending = pending })
pending_room e s pending h view owes =
    changed_room e e.links e.told e.timers pending e.flows_due h refl refl refl refl
    (subst (λ (f : Facts). Owes e pending f e.told) (view_facts e s h view)
    (subst (λ (t : ToldTable). Owes e pending (facts s.settings s.node.parts) t) (view_told e s view) owes)) h.flows

-- what is to be told was told
pub answered_room : (e : Inside) (s : State KeptQueues) (t : ToldTable) (set destination : ℕ) (status : RouteStatus) → HasRoom e → kept_in e ≡ s
    → status ≡ status_to_advertise (facts s.settings s.node.parts) set destination → t ≡ with_told set destination status e.told
    → HasRoom (record e { told = t })
answered_room e s t set destination status h view is same =
    let all : t ≡ with_told set destination (status_to_advertise (facts_of e.links) set destination) e.told =
    same ∙ ap (λ (x : RouteStatus). with_told set destination x e.told) (is ∙ ap (λ (f : Facts). status_to_advertise f set destination) (view_facts e s h view)) in
    changed_room e e.links t e.timers e.pending e.flows_due h refl refl refl (ap shape_of same ∙ told_shape e.told set destination status)
    (subst (λ (x : ToldTable). Owes e e.pending (facts_of e.links) x) (sym all)
    (told_owes_no_more (facts_of e.links) e.told set destination (length e.settings.destinations) e.pending h.pending)) h.flows

-- what all flows were counted by is seen from outside
pub view_flows : (e : Inside) (s : State KeptQueues) → HasRoom e → kept_in e ≡ s → CountedBut s.settings e.flows_due (facts s.settings s.node.parts) s.reroutings
view_flows e s h view =
    subst (λ (x : State KeptQueues). CountedBut x.settings e.flows_due (facts x.settings x.node.parts) x.reroutings) view
    (subst (λ (f : Facts). CountedBut e.settings e.flows_due f (reroutings_in e)) (sym (view_facts e (kept_in e) h refl)) h.flows)

-- the flows to a destination are counted
pub row_room : (e : Inside) (sets : List (List (Option ℕ))) (times destination : ℕ) → HasRoom e → destination < length e.settings.destinations
    → record { last_sets = sets; times = times } ≡ row_counted e.settings (facts_of e.links) destination (reroutings_in e)
    → HasRoom (record e { flow_sets = sets; times_rerouted = times })
row_room e sets times destination h there is =
    flows_room e sets times e.flows_due h
    (subst (λ (r : Reroutings). CountedBut e.settings e.flows_due (facts_of e.links) r) (sym is)
    (row-but e.settings (facts_of e.links) e.flows_due destination (reroutings_in e) h.flows there))

-- as they were looked at from outside
pub viewed_row_room : (e : Inside) (s : State KeptQueues) (sets : List (List (Option ℕ))) (row : List (Option ℕ)) (times changes destination : ℕ) → HasRoom e → kept_in e ≡ s
    → destination < length s.settings.destinations
    → row ≡ last_sets_from s.settings (facts s.settings s.node.parts) destination 0 (row_of s.reroutings destination)
    → changes ≡ changes_from s.settings (facts s.settings s.node.parts) destination 0 (row_of s.reroutings destination)
    → sets ≡ slice_set e.flow_sets destination row → times ≡ min (e.times_rerouted + changes) (2 ^ 64 - 1)
    → HasRoom (record e { flow_sets = sets; times_rerouted = times })
viewed_row_room e s sets row times changes destination h view there is many same sum =
    let before : List (Option ℕ) = row_of (reroutings_in e) destination in
    let f : Facts = facts_of e.links in
    let known : facts e.settings (kept_in e).node.parts ≡ f = view_facts e (kept_in e) h refl in
    let its : row ≡ last_sets_from e.settings f destination 0 before =
    subst (λ (x : State KeptQueues). row ≡ last_sets_from x.settings (facts x.settings x.node.parts) destination 0 (row_of x.reroutings destination)) (sym view) is
    ∙ ap (λ (g : Facts). last_sets_from e.settings g destination 0 before) known in
    let of : changes ≡ changes_from e.settings f destination 0 before =
    subst (λ (x : State KeptQueues). changes ≡ changes_from x.settings (facts x.settings x.node.parts) destination 0 (row_of x.reroutings destination)) (sym view) many
    ∙ ap (λ (g : Facts). changes_from e.settings g destination 0 before) known in
    row_room e sets times destination h (subst (λ (x : State KeptQueues). destination < length x.settings.destinations) (sym view) there)
    (λ i. record {
      last_sets = (same ∙ ap (λ (r : List (Option ℕ)). slice_set e.flow_sets destination r) its) i;
      times = (sum ∙ ap (λ (n : ℕ). min (e.times_rerouted + n) (2 ^ 64 - 1)) of) i;
    })

-- all flows were counted
pub counted_flows_room : (e : Inside) (s : State KeptQueues) → HasRoom e → kept_in e ≡ s → counted s.settings (facts s.settings s.node.parts) s.reroutings ≡ s.reroutings
    → HasRoom (record e { flows_due = Nothing })
counted_flows_room e s h view all =
    let f : Facts = facts_of e.links in
    let here : counted e.settings f (reroutings_in e) ≡ reroutings_in e =
    sym (ap (λ (g : Facts). counted e.settings g (reroutings_in e)) (view_facts e (kept_in e) h refl))
    ∙ subst (λ (x : State KeptQueues). counted x.settings (facts x.settings x.node.parts) x.reroutings ≡ x.reroutings) (sym view) all in
    flows_room e e.flow_sets e.times_rerouted Nothing h
    (subst (λ (r : Reroutings). CountedBut e.settings Nothing f r) here (counted-but e.settings f (reroutings_in e) h.flows.rows))

-- what a link takes over is held by procedures of the node
with_change-fits : (c : Configuration) (t : HoldSet) (change : FlowChange) (holder : Option Procedure) → HasHoldsFor c t → HasHoldsFor c (with_change t change holder)
with_change-fits c t change (Some procedure) h = with_hold-fits c t procedure change.destination change.sls h
with_change-fits c t change None h = h

pub held_by-fits : (c : Configuration) (t : HoldSet) (holders : List (Option Procedure)) (changes : List FlowChange) → HasHoldsFor c t
    → HasHoldsFor c (held_by holders changes t)
held_by-fits c t holders [] h = h
held_by-fits c t holders (x ∷ xs) h =
    let holder : Option Procedure = slice_index_or holders x.from None in
    held_by-fits c (with_change t x holder) holders xs (with_change-fits c t x holder h)
