-- What an exchange shows of its links and routes is what the abstract state shows.
use Rattle.exchange.proofs.Basics.{◌≡◌, ◌∙◌, ℕ, Bool, true, false, refl, ap, Some, None, if◌then◌else◌, LinkView, Node, keep, is_link, Abstract, AreQueues, Kept, StandsFor, kept_queues_of, WholeQueues, whole, kept, link_shown, link_view}
use Rattle.exchange.proofs.KeptQueues.{keeps_whole}

link_shown-kept : (w : ℕ) (node : Node WholeQueues) (l : ℕ) → AreQueues w node.queues
    → link_shown kept (keep kept_queues_of node) l ≡ link_shown whole node l
link_shown-kept w node l s =
    let k = keeps_whole w in
    rw (k.unconfirmed node.queues l, k.last_sent node.queues l s, k.last_accepted node.queues l)

either_view : (b : Bool) (v w : LinkView) → v ≡ w → (if b then Some v else None) ≡ (if b then Some w else None)
either_view true v w e = ap (λ (x : LinkView). Some x) e
either_view false v w e = refl

pub stands-link : (l : ℕ) (k : Kept) (a : Abstract) → StandsFor k a → link_view kept k l ≡ link_view whole a l
stands-link l k a s =
    ap (λ (x : Kept). link_view kept x l) s.kept
    ∙ either_view (is_link a.node.parts l) _ _ (link_shown-kept a.settings.window a.node l s.sound.queues)
