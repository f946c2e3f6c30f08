-- What a fetched frame and an event lead to.
use Rattle.pair_rules.proofs.Basics.{◌≡◌, ◌<◌, ◌≤◌, ℕ, length, Some, None, refl, ap, if◌then◌else◌, slice_get, ⊎_elim, cases_lt, get_or_past}
use Rattle.pair_rules.proofs.Definitions.{Configuration, FrameValue, Link, down_link, Node, Happening, WholeQueues, whole, apply, handle_event, frame_from, frame_taken, may_send, message_first, status_first}

-- ---- a frame is fetched only from a link that is there

pub taken-there : (c : Configuration) (link : ℕ) (n : Node WholeQueues) (frame : FrameValue) → frame_taken whole c link n ≡ Some frame → link < length n.parts.links
taken-there c link n frame e =
    ⊎_elim (λ (l : link < length n.parts.links). l)
    (λ (l : length n.parts.links ≤ link).
    let none : frame_taken whole c link n ≡ None =
    ap (λ (x : Link). frame_from (whole.last_accepted n.queues link) (whole.last_sent n.queues link)
    (status_first (slice_get x.waiting 0) (message_first (if may_send x then whole.to_send n.queues link c.window else None) x.acknowledgement_owed)))
    (get_or_past n.parts.links link down_link l) in
    absurd cc)
    (cases_lt link (length n.parts.links))

-- ---- what becomes of an event is what its rule says

pub outcome-same : (c : Configuration) (what : Happening) (n : Node WholeQueues) → (apply whole c what n).outcome ≡ (handle_event whole c what n).outcome
unfolding apply
outcome-same c what n = refl
