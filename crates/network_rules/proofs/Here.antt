-- A step at a node of a network that loses nothing: what waits there grows by what the node accepts.
use Rattle.pair_rules.proofs.Basics.{◌≡◌, ◌≢◌, ◌⊎◌, inl, inr, ◌<◌, ◌≤◌, ◌&&◌, ℕ, ◌+◌, ◌-◌, ◌^◌, Bool, true, false, not, List, [], ◌∷◌, ◌++◌, length, Option, Some, None, refl, ap, sym, subst, ◌∙◌, arith, nat_tests, slice_get, drop, if◌then◌else◌}
use Rattle.pair_rules.proofs.Definitions.{Message, Configuration, Queue, first_queue, queue_at, WholeQueues, whole, in_flight, new_message, is_link, down, Happening, CameUp, FrameCame, Submitted}
use Rattle.exchange_rules.specs.State.{WentDown, Ticked, Activated, Deactivated, Released, TitleAdded, TitleSet, TitleRemoved}
use Rattle.exchange_rules.specs.First.{Abstract}
use Rattle.exchange_rules.specs.Conserving.{brought_in, users_that}
use Rattle.exchange_rules.specs.Exchange.{after, taken}
use Rattle.exchange_rules.specs.Lasting.{HasAllPlaces}
use Rattle.exchange_rules.specs.Receiving.{new_of}
use Rattle.exchange_rules.proofs.Lists.{alike-at}
use Rattle.exchange_rules.proofs.LastingMessages.{sent-all}
use Rattle.exchange_rules.proofs.Settling.{left-true}
use Rattle.m2pa_codec.specs.Frames.{read_frame}
use Rattle.pair_moves.proofs.Counts.{sum-alike}
use Rattle.exchange_rules.proofs.Definitions.{Node, Outgoing, SendsStatus, SendsMessage, Acknowledges, SendsNothing, after_sending, goes_out, to_send}
use Rattle.link.specs.Queue as queue
use Rattle.pair_moves.specs.Laws.{sum_to}
use Rattle.network_rules.specs.Networks.{NetworkState, Step}
use Rattle.neighbour_rules.specs.Anew.{Stays}
use Rattle.network_rules.specs.Totals.{IsJoined, is_listed, received_there}
use Rattle.network_rules.proofs.AtState.{between-at, names-at, no-status, there_of}
use Rattle.network_rules.proofs.Growing.{MayMake}
use Rattle.network_rules.proofs.Joined.{HasOther, has-other, other-apart}
use Rattle.network_rules.proofs.Letting.{Named}
use Rattle.network_rules.proofs.Losing.{LosesNone, loses-none}
use Rattle.network_rules.proofs.Parting.{SaysWord}
use Rattle.network_rules.proofs.PartingEvents.{IsOther}
use Rattle.network_rules.proofs.Reached.{Begins, IsSteadyNode, Kept, begun, reached, settings-kept, steady-node}
use Rattle.network_rules.proofs.Staying.{AreBetween, all_waits, frame-stays, other-stays, tick-stays, up-stays, waits_at}
use Rattle.network_rules.proofs.Thirds.{adjacent-fits}
use Rattle.network_rules.proofs.Turns as turns
use Rattle.network_rules.proofs.Turns.{IsPlain, SameBooks, Turn, comes, enters, idles, occurs, opens}

-- a frame newly carries a message on a link that is there
pub new-link : (link : ℕ) (text : List ℕ) (a : Abstract) (m : Message) → HasAllPlaces a.settings a.node → new_message link text a ≡ Some m → link < length a.settings.links
new-link link text a m places e =
    let there : is_link a.node.parts link ≡ true = left-true (is_link a.node.parts link) (not (down a.node.parts link)) (by (is_link a.node.parts link && not (down a.node.parts link)) (new_of (read_frame text) link a.settings a.node) e) in
    let known : link < length a.node.parts.links = grind (arith, nat_tests, there) in
    omega (arith, known, places.parts.links)
  where
    by : (b : Bool) (o : Option Message) → (if b then o else None) ≡ Some m → b ≡ true
    by true o f = refl
    by false o f = absurd cc

module _ (of : Message → Bool) where
  -- ---- a frame goes out

  module _ (there : ℕ → ℕ) (links : ℕ) where
    both : (a b s t : ℕ) → a ≡ b → s ≡ t → a + s ≡ b + t
    both a b s t e f = omega (arith, e, f)

    waits-alike : (qs rs : WholeQueues) → rs.held ≡ qs.held → ((link : ℕ) → (queue_at rs link).all ≡ (queue_at qs link).all) → all_waits of there links rs ≡ all_waits of there links qs
    waits-alike qs rs e f =
        both (users_that of rs.held) (users_that of qs.held) (sum_to (waits_at of there rs) links) (sum_to (waits_at of there qs) links) (ap (users_that of) e)
        (sum-alike (waits_at of there qs) (waits_at of there rs) links (λ k less. ap (λ (ms : List Message). users_that of (drop (there k) ms)) (f k)))

    sending-waits : (c : Configuration) (link : ℕ) (n : Node WholeQueues) (next : Outgoing) → all_waits of there links (after_sending whole c link n next).queues ≡ all_waits of there links n.queues
    sending-waits c link n (SendsStatus status) = refl
    sending-waits c link n (SendsMessage next) =
        let q : Queue = queue_at n.queues link in
        waits-alike n.queues (after_sending whole c link n (SendsMessage next)).queues refl
        (λ other. alike-at (λ (x : Queue). x.all) n.queues.links link other (queue.sent_one q c.window) first_queue (sent-all q (to_send q c.window)))
    sending-waits c link n Acknowledges = refl
    sending-waits c link n SendsNothing = refl

    pub taken-waits : (a : Abstract) (link : ℕ) → all_waits of there links (taken whole a link).node.queues ≡ all_waits of there links a.node.queues
    taken-waits a link = sending-waits a.settings link a.node (goes_out whole a.settings link a.node)

  -- ---- a step at a node

  module _ (settings : (point : ℕ) → Configuration) (points : List ℕ) (h : IsJoined settings points) (start : Begins settings points) (done : List Step) (step : Step)
      (before : Kept settings points h start (reached settings points h start done)) (later : Kept settings points h start (reached settings points h start (done ++ step ∷ [])))
      (others : (point : ℕ) → point ≢ step.point → SameBooks ((reached settings points h start done).node point) ((reached settings points h start (done ++ step ∷ [])).node point))
      (listed : is_listed points step.point ≡ true) where
    abbrev w : NetworkState
    w = reached settings points h start done

    abbrev v : NetworkState
    v = reached settings points h start (done ++ step ∷ [])

    abbrev x : ℕ
    x = step.point

    abbrev a : Abstract
    a = (w.node x).exchange

    abbrev t : ℕ → ℕ
    t = there_of settings points h start done before x

    abbrev links : ℕ
    links = length a.settings.links

    pub kept-inside : (link : ℕ) → link < links → link < length (settings x).links
    kept-inside link less = subst (λ (c : Configuration). link < length c.links) (settings-kept settings points h start done x) less

    -- the other ends received as much
    pub there-same : (link : ℕ) → link < length (settings x).links → there_of settings points h start (done ++ step ∷ []) later x link ≡ t link
    there-same link less =
        let o : HasOther settings points h x link = has-other settings points h x link less in
        ap (received_there v) o.is
        ∙ ap (λ (e : Abstract). (queue_at e.node.queues o.other.link).received) (others o.other.point (other-apart settings points h x link o)).exchange
        ∙ sym (ap (received_there w) o.is)

    between-before : AreBetween of t links a.node.queues
    between-before link less = between-at settings points h start done before x link (kept-inside link less)

    between-later : AreBetween of t links (v.node x).exchange.node.queues
    between-later link less =
        subst (λ (n : ℕ). (((queue_at (v.node x).exchange.node.queues link).confirmed ≤ n) × (n ≤ (queue_at (v.node x).exchange.node.queues link).sent)) ⊎ ((queue_at (v.node x).exchange.node.queues link).all ≡ []))
        (there-same link (kept-inside link less)) (between-at settings points h start (done ++ step ∷ []) later x link (kept-inside link less))

    steady : IsSteadyNode a
    steady = steady-node settings points h start done x listed

    fits : MayMake a.settings
    fits = subst MayMake (sym (settings-kept settings points h start done x)) (adjacent-fits (settings x) (h.placed.well x listed))

    -- what the node accepts
    abbrev pub more : Turn w v x → List Message
    more (enters m e) = brought_in (Submitted m) a
    more (comes link text left f e) = brought_in (FrameCame link text) a
    more (idles e) = []
    more (turns.goes_out link e) = []
    more (occurs what plain e) = []
    more (opens link f e) = []

    Waits : List Message → Type 0
    Waits ms = all_waits of t links a.node.queues + users_that of ms ≡ all_waits of t links (v.node x).exchange.node.queues

    -- of what happens to its exchange
    as-left : (what : Happening) → (v.node x).exchange ≡ after whole what a → (ms : List Message)
        → (LosesNone what a → AreBetween of t links (after whole what a).node.queues → all_waits of t links a.node.queues + users_that of ms ≡ all_waits of t links (after whole what a).node.queues) → Waits ms
    unfolding Waits
    as-left what e ms f =
        let was : Stays ((begun settings points h start).node x).exchange.node.parts.times_lost a.node.parts.times_lost = before x listed in
        let is : Stays ((begun settings points h start).node x).exchange.node.parts.times_lost (v.node x).exchange.node.parts.times_lost = later x listed in
        f (loses-none what a (subst (λ (n : ℕ). n < 2 ^ 64 - 1) (sym was.same) was.countable) (sym (ap (λ (y : Abstract). y.node.parts.times_lost) e) ∙ is.same ∙ sym was.same))
        (subst (λ (y : Abstract). AreBetween of t links y.node.queues) e between-later)
        ∙ ap (λ (y : Abstract). all_waits of t links y.node.queues) (sym e)

    none-more : (k l : ℕ) → l ≡ k → k + 0 ≡ l
    none-more k l e = omega (arith, e)

    other-waits : (what : Happening) → IsOther a.settings fits what → (v.node x).exchange ≡ after whole what a → Waits (brought_in what a)
    other-waits what is e = as-left what e (brought_in what a) (λ kept later. other-stays of t a what fits steady.places steady.steady is kept between-before later)

    plain-waits : (what : Happening) → IsPlain what → (v.node x).exchange ≡ after whole what a → Waits []
    plain-waits (WentDown link) plain e = other-waits (WentDown link) tt e
    plain-waits (Activated link emergency) plain e = other-waits (Activated link emergency) tt e
    plain-waits (Deactivated link) plain e = other-waits (Deactivated link) tt e
    plain-waits (Released link) plain e = other-waits (Released link) tt e
    plain-waits (TitleAdded row is_memory_refused) plain e = other-waits (TitleAdded row is_memory_refused) tt e
    plain-waits (TitleSet row is_memory_refused) plain e = other-waits (TitleSet row is_memory_refused) tt e
    plain-waits (TitleRemoved key digits) plain e = other-waits (TitleRemoved key digits) tt e
    plain-waits Ticked plain e = as-left Ticked e [] (λ kept later. tick-stays of t a fits steady.places steady.steady kept between-before later)
    plain-waits (CameUp link) plain e = absurd plain
    plain-waits (FrameCame link text) plain e = absurd plain
    plain-waits (Submitted m) plain e = absurd plain

    -- what a word names was received at the other end of its link
    named : (link : ℕ) (text : List ℕ) → (slice_get (in_flight (w.node x).incoming.user_data link) 0 ≡ Some text) ⊎ (slice_get (in_flight (w.node x).incoming.statuses link) 0 ≡ Some text)
        → Named of t links a.settings.window (SaysWord a.settings (new_message link text a)) a.node.queues
    named link text (inl next) its number said =
        names-at settings points h start done before x link (kept-inside link (new-link link text a said.message steady.places said.is)) text next its number said
    named link text (inr next) its number said =
        absurd (no-status settings points h start done before x link (kept-inside link (new-link link text a said.message steady.places said.is)) text said.message next said.is)

    -- as much more waits as it accepts
    pub here-waits : (turn : Turn w v x) → all_waits of t links a.node.queues + users_that of (more turn) ≡ all_waits of t links (v.node x).exchange.node.queues
    unfolding Waits
    here-waits (idles e) = none-more _ _ (ap (λ (y : Abstract). all_waits of t links y.node.queues) e.exchange)
    here-waits (turns.goes_out link e) = none-more _ _ (ap (λ (y : Abstract). all_waits of t links y.node.queues) e.exchange ∙ taken-waits t links a link)
    here-waits (occurs what plain e) = plain-waits what plain e.exchange
    here-waits (enters m e) = other-waits (Submitted m) tt e.exchange
    here-waits (comes link text left f e) =
        as-left (FrameCame link text) e.exchange (brought_in (FrameCame link text) a)
        (λ kept later. frame-stays of t a link text fits steady.places steady.steady kept between-before later (named link text f))
    here-waits (opens link f e) = as-left (CameUp link) e.exchange [] (λ kept later. up-stays of t a fits steady.places steady.steady link kept between-before later)
