-- What holds of the abstract exchange between two events holds after each event and each frame that goes out.
use Rattle.exchange_rules.proofs.Basics.{◌≡◌, ◌+◌, ◌∷◌, ℕ, Bool, List, [], sum_by, refl, sym, ap, ◌∙◌, set, true, false, ◌&&◌, ◌||◌, not, length, replicate, drop, slice_index_or, if◌then◌else◌, or_right as either-so}
use Rattle.exchange_rules.proofs.Definitions.{carries_traffic, in_traffic, Queue, first_queue, unconfirmed, unconfirmed-sent_one, WholeQueues, queue_at, whole, Configuration, Facts, set_at, Link, network_of, facts, link_at, with_link, Outgoing, SendsStatus, SendsMessage, Acknowledges, SendsNothing, goes_out, without_owed, after_sending, after_take, release, told_below, is_all_told, Node, Happening, handle_event, apply, Abstract, first_state, ToldTable, is_own_point, told_at, is_unlike, status_to_advertise, is_reachable, owed_at, owes_nothing, all_wait}
use Rattle.cell_pool.specs.Lanes.{managements_in}
use Rattle.link.specs.Queue as queue
use Rattle.exchange_rules.proofs.Lists.{map-set_alike, sum_by-map, each-replicate}
use Rattle.std.specs.Prelude.{Some, None, nat_lt}
use Rattle.routes.specs.Routes.{has_link}
use Rattle.node_links.proofs.Serving.{facts_alike, serving_none}
use Rattle.route_management.proofs.Settled.{nothing_is_listed, owes_nothing_from_none}
use Rattle.exchange_rules.proofs.Settling.{release-waits, tell_owed-waits}
use Rattle.exchange_rules.proofs.Telling.{all_is_told}

-- a message that goes out stays in its queue until it is confirmed
pub managements-sent_one : (w : ℕ) (qs : WholeQueues) (l : ℕ) → whole.managements (whole.sent_one qs l w) ≡ whole.managements qs
managements-sent_one w qs l =
    let q : Queue = queue.sent_one (queue_at qs l) w in
    ap (λ (n : ℕ). managements_in qs.held + n)
    (sym (sum_by-map managements_in unconfirmed (set qs.links l q))
    ∙ ap (sum_by managements_in) (sym (map-set_alike unconfirmed qs.links l q first_queue (unconfirmed-sent_one (queue_at qs l) w)))
    ∙ sum_by-map managements_in unconfirmed qs.links)

-- after each event each message of Held waits
pub done-waits : (what : Happening) (a : Abstract)
    → all_wait a.settings (apply whole a.settings what a.node).left.parts.holds (apply whole a.settings what a.node).left.queues.held ≡ true
unfolding apply
done-waits what a =
    let left : Node WholeQueues = (handle_event whole a.settings what a.node).left in
    tell_owed-waits a.settings (release whole a.settings left) (release-waits a.settings left)

-- and nothing is owed that finds room
pub done-told : (what : Happening) (a : Abstract) → is_all_told whole a.settings (apply whole a.settings what a.node).left ≡ true
unfolding apply
done-told what a = all_is_told whole a.settings (release whole a.settings (handle_event whole a.settings what a.node).left)

-- ---- a take tells nothing, and owes nothing

module _ (c : Configuration) where
  -- a link changes, but not whether it carries traffic
  still-told : (link : ℕ) (state : Link) (n : Node WholeQueues) → carries_traffic state ≡ in_traffic n.parts link → is_all_told whole c n ≡ true
      → (not (nat_lt (whole.managements n.queues) told_below) || owes_nothing (facts c (with_link n.parts link state)) n.parts.told) ≡ true
  still-told link state n same e =
      ap (λ (f : Facts). not (nat_lt (whole.managements n.queues) told_below) || owes_nothing f n.parts.told) (facts_alike (network_of c n.parts) link state same) ∙ e

  after_sending-told : (link : ℕ) (out : Outgoing) (n : Node WholeQueues) → is_all_told whole c n ≡ true → is_all_told whole c (after_sending whole c link n out) ≡ true
  after_sending-told link (SendsStatus status) n e = still-told link (record (link_at n.parts link) { waiting = drop 1 (link_at n.parts link).waiting }) n refl e
  after_sending-told link (SendsMessage next) n e =
      ap (λ (many : ℕ). not (nat_lt many told_below) || owes_nothing (facts c (with_link n.parts link (without_owed (link_at n.parts link)))) n.parts.told)
      (managements-sent_one c.window n.queues link)
      ∙ still-told link (without_owed (link_at n.parts link)) n refl e
  after_sending-told link Acknowledges n e = still-told link (without_owed (link_at n.parts link)) n refl e
  after_sending-told link SendsNothing n e = e

  pub take-told : (link : ℕ) (n : Node WholeQueues) → is_all_told whole c n ≡ true → is_all_told whole c (after_take whole c link n) ≡ true
  take-told link n e = after_sending-told link (goes_out whole c link n) n e

-- ---- at first no adjacent point is reached, and none is owed a word

none-serves : (serving : List Bool) (links : List ℕ) → ((link : ℕ) → slice_index_or serving link false ≡ false) → has_link serving links ≡ false
none-serves serving [] none = refl
none-serves serving (l ∷ links) none = ap (λ (b : Bool). b || has_link serving links) (none l) ∙ none-serves serving links none

none-reached : (c : Configuration) (place : ℕ) → is_reachable (facts c (first_state c).node.parts) place ≡ false
none-reached c place =
    let f : Facts = facts c (first_state c).node.parts in
    ap (λ (serving : List Bool). has_link serving (set_at f place)) (serving_none (length c.links))
    ∙ none-serves (replicate (length c.links) false) (set_at f place)
    (λ link. each-replicate (λ (b : Bool). b ≡ false) (length c.links) link false refl)

none-owed : (c : Configuration) (t : ToldTable) (place destination : ℕ) → owed_at (facts c (first_state c).node.parts) t place destination ≡ None
none-owed c t place destination =
    let f : Facts = facts c (first_state c).node.parts in
    ap (λ (b : Bool). if b && (not (is_own_point t place destination) && is_unlike (told_at t place destination) (status_to_advertise f place destination))
    then Some (status_to_advertise f place destination) else None) (none-reached c place)

pub first-told : (c : Configuration) → is_all_told whole c (first_state c).node ≡ true
first-told c =
    let f : Facts = facts c (first_state c).node.parts in
    let t : ToldTable = (first_state c).node.parts.told in
    either-so _ (owes_nothing f t) (owes_nothing_from_none f t (nothing_is_listed f t (none-owed c t)))
