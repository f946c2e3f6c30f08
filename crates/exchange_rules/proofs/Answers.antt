-- What answers mean.
use Rattle.std.specs.Prelude.{◌↔◌}
use Rattle.signalling_types.specs.declared.cause.Cause.TheVariants as causes
use Rattle.signalling_types.specs.declared.outcome.Outcome.TheVariants.{Handled}
use Rattle.exchange_rules.specs.declared.wants.Wants.TheVariants.{Nothing, Open, Close}
use Rattle.exchange_rules.specs.LawsOfAnswers.{wanted_links_open, queued_stands_last}
use Rattle.exchange_rules.specs.Opening.{open_link}
use Rattle.exchange_rules.proofs.Basics.{◌≡◌, ◌<◌, ℕ, Bool, true, false, not, ◌&&◌, cond, [], ◌∷◌, ◌++◌, length, Option, Some, None, refl, ap, get_or-set_same}
use Rattle.exchange_rules.proofs.Definitions.{Message, dpc_of, flow_of, Configuration, Cause, Queued, is_down, Queue, first_queue, appended, Node, answer, refuse, is_link, link_at, link_of, no_room_for, WholeQueues, whole, queue_at, waits, apply, first_state, after_each, is_destination, offer, changeover_of, may_restart}
use Rattle.exchange_rules.proofs.LastingLinks.{links-stay, links-first}
use Rattle.exchange_rules.proofs.LastingPlaces.{places-first}

-- by what is known of the link
wanted-plain : (there down association active restarts : Bool) (opened node : Node WholeQueues) → (association ≡ false → down ≡ true)
    → (cond there (cond down (cond association Close (cond (active && restarts) Open Nothing)) Nothing) Nothing ≡ Open)
    ↔ ((cond there (cond (not association && active) (cond restarts (answer Handled opened) (refuse causes.ChangeoverPending node)) (refuse causes.LinkNotReady node)) (refuse causes.NoSuchName node)).outcome ≡ Handled)
wanted-plain false d a b r x n h = (λ e. absurd cc, λ e. absurd cc)
wanted-plain true false false b r x n h = absurd (let e = h refl in cc)
wanted-plain true false true b r x n h = (λ e. absurd cc, λ e. absurd cc)
wanted-plain true true true b r x n h = (λ e. absurd cc, λ e. absurd cc)
wanted-plain true true false false r x n h = (λ e. absurd cc, λ e. absurd cc)
wanted-plain true true false true false x n h = (λ e. absurd cc, λ e. absurd cc)
wanted-plain true true false true true x n h = (λ e. refl, λ e. refl)

pub wanted-open : wanted_links_open
unfolding apply
wanted-open c asked link few window =
    let a = after_each asked (first_state c) in
    let l = link_at a.node.parts link in
    wanted-plain (is_link a.node.parts link) (is_down l.alignment) l.association l.active (may_restart (changeover_of a.node.parts link)) (open_link whole a.settings link a.node) a.node
    ((links-stay asked (first_state c) (places-first c few) (links-first c window)).each link).associated

-- ---- Queued

offered : (c : Configuration) (refusal : Option Cause) (is_waiting : Bool) (its from : Option ℕ) (m : Message) (node : Node WholeQueues) (link : ℕ) → link < length node.queues.links
    → (offer whole c refusal is_waiting its from m node).outcome ≡ Queued link
    → (its ≡ Some link) × ((queue_at (offer whole c refusal is_waiting its from m node).left.queues link).all ≡ (queue_at node.queues link).all ++ m ∷ [])
offered c (Some cause) is_waiting its from m node link there e = absurd cc
offered c None true its from m node link there e = absurd cc
offered c None false None from m node link there e = absurd cc
offered c None false (Some other) from m node link there e =
    let same : other ≡ link = cc in
    (ap Some same, rw same (ap (λ (q : Queue). q.all) (get_or-set_same node.queues.links link (appended (queue_at node.queues link) m) first_queue there)))

transferred : (b : Bool) (c : Configuration) (refusal : Option Cause) (is_waiting : Bool) (its from : Option ℕ) (m : Message) (node : Node WholeQueues) (link : ℕ) → link < length node.queues.links
    → (cond b (offer whole c refusal is_waiting its from m node) (refuse causes.UnknownDestination node)).outcome ≡ Queued link
    → (its ≡ Some link) × ((queue_at (cond b (offer whole c refusal is_waiting its from m node) (refuse causes.UnknownDestination node)).left.queues link).all ≡ (queue_at node.queues link).all ++ m ∷ [])
transferred true c refusal is_waiting its from m node link there e = offered c refusal is_waiting its from m node link there e
transferred false c refusal is_waiting its from m node link there e = absurd cc

pub queued-last : queued_stands_last
queued-last c from m node link there e =
    transferred (is_destination c (dpc_of m)) c (no_room_for whole c m node) (waits c node.parts.holds m) (link_of c node.parts (flow_of m)) from m node link there e
