-- What waits at all other nodes falls by the message that newly came, at the one at the other end of its link.
use Rattle.pair_rules.proofs.Basics.{◌≡◌, ◌≢◌, ◌⊎◌, inl, inr, ◌<◌, ◌≤◌, ◌&&◌, ℕ, ◌+◌, Bool, true, false, List, [], ◌∷◌, ◌++◌, length, nat_eq, is_some, Option, Some, None, refl, ap, sym, subst, ◌∙◌, arith, slice_get, option_to_list, drop, ⊎_elim, cases_eq, if◌then◌else◌}
use Rattle.pair_rules.proofs.Definitions.{Message, Configuration, Queue, queue_at, WholeQueues, whole, in_flight, new_message, CameUp, FrameCame, Submitted}
use Rattle.exchange_rules.specs.First.{Abstract}
use Rattle.exchange_rules.specs.Conserving.{users_that}
use Rattle.exchange_rules.specs.Exchange.{after}
use Rattle.exchange_rules.specs.Receiving.{received}
use Rattle.exchange_rules.proofs.Received.{received-counted, takes-receive}
use Rattle.exchange_rules.proofs.Tallies.{append}
use Rattle.pair_moves.specs.Laws.{sum_to}
use Rattle.pair_moves.proofs.Counts.{sum-alike}
use Rattle.network_rules.specs.Networks.{NetworkState, Place, Step}
use Rattle.network_rules.specs.Totals.{IsJoined, received_there}
use Rattle.network_rules.proofs.Ahead.{sum-less}
use Rattle.network_rules.proofs.AtState.{missing-at, there_of}
use Rattle.network_rules.proofs.Joined.{HasOther, end_at, has-other, linked-listed, other-apart, other-back, other-inside}
use Rattle.network_rules.proofs.Places.{not-equal}
use Rattle.network_rules.proofs.Reached.{Begins, IsSteadyNode, Kept, reached, steady-node}
use Rattle.network_rules.proofs.Staying.{all_waits, waits_at}
use Rattle.network_rules.proofs.Sums.{same-here}
use Rattle.network_rules.proofs.Texts.{same-some}
use Rattle.network_rules.proofs.There.{Same, Unchanged, back, back-inside, by-place, counted, drop-first, opened-empty, plain-same}
use Rattle.network_rules.proofs.Turns as turns
use Rattle.network_rules.proofs.Turns.{SameBooks, Turn, comes, enters, idles, occurs, opens}

-- the point at the other end of a link
abbrev pub point_of : Option Place → ℕ
point_of (Some p) = p.point
point_of None = 0

and-left : (a b : Bool) → a ≡ false → (a && b) ≡ false
and-left true b e = absurd cc
and-left false b e = refl

and-right : (a b : Bool) → b ≡ false → (a && b) ≡ false
and-right true b e = e
and-right false b e = refl

pub none-if : (b : Bool) (n : ℕ) → n ≡ 0 → (if b then n else 0) ≡ 0
none-if true n e = e
none-if false n e = refl

module _ (of : Message → Bool) (settings : (point : ℕ) → Configuration) (points : List ℕ) (h : IsJoined settings points) (start : Begins settings points) (done : List Step) (step : Step)
    (before : Kept settings points h start (reached settings points h start done)) (later : Kept settings points h start (reached settings points h start (done ++ step ∷ [])))
    (others : (point : ℕ) → point ≢ step.point → SameBooks ((reached settings points h start done).node point) ((reached settings points h start (done ++ step ∷ [])).node point)) where
  abbrev w : NetworkState
  w = reached settings points h start done

  abbrev v : NetworkState
  v = reached settings points h start (done ++ step ∷ [])

  abbrev x : ℕ
  x = step.point

  abbrev a : Abstract
  a = (w.node x).exchange

  abbrev tw : (point link : ℕ) → ℕ
  tw = there_of settings points h start done before

  abbrev tv : (point link : ℕ) → ℕ
  tv = there_of settings points h start (done ++ step ∷ []) later

  abbrev links_of : ℕ → ℕ
  links_of y = length (settings y).links

  abbrev queues_of : ℕ → WholeQueues
  queues_of y = (w.node y).exchange.node.queues

  -- what newly came, and where it came from
  abbrev pub news : Turn w v x → List Message
  news (comes link text left f e) = option_to_list (new_message link text a)
  news (enters m e) = []
  news (idles e) = []
  news (turns.goes_out link e) = []
  news (occurs what plain e) = []
  news (opens link f e) = []

  abbrev pub sender : Turn w v x → ℕ
  sender (comes link text left f e) = point_of (end_at settings x link)
  sender (enters m e) = 0
  sender (idles e) = 0
  sender (turns.goes_out link e) = 0
  sender (occurs what plain e) = 0
  sender (opens link f e) = 0

  -- ---- on a link of another node

  module _ (y link : ℕ) (less : link < links_of y) (apart : y ≢ x) where
    abbrev o : HasOther settings points h y link
    o = has-other settings points h y link less

    abbrev pub Stays : Type 0
    Stays = Unchanged of settings points h start done step before later others y link less apart

    x-steady : o.other.point ≡ x → IsSteadyNode a
    x-steady at = steady-node settings points h start done x (linked-listed settings points h x o.other.link (back-inside of settings points h start done step before later others y link less apart o.other.link at refl))

    pub by : (o.other.point ≡ x → Same of settings points h start done step before later others o.other.link ⊎ ((queue_at (queues_of y) link).all ≡ [])) → Stays
    by f = by-place of settings points h start done step before later others y link less apart f

    -- a frame that newly carries none by this link
    frame-stays : (k : ℕ) (text : List ℕ) → (v.node x).exchange ≡ after whole (FrameCame k text) a → (o.other.point ≡ x → (nat_eq k o.other.link && is_some (new_message k text a)) ≡ false) → Stays
    frame-stays k text e quiet =
        by (λ at. inl (counted of settings points h start done step before later others (FrameCame k text) o.other.link (x-steady at) e refl (ap (λ (b : Bool). if b then 1 else 0) (quiet at))))

    turn-stays : (turn : Turn w v x) → news turn ≡ [] → Stays
    turn-stays (idles e) none = by (λ at. inl (ap (λ (b : Abstract). (queue_at b.node.queues o.other.link).received) e.exchange))
    turn-stays (turns.goes_out k e) none = by (λ at. inl (ap (λ (b : Abstract). (queue_at b.node.queues o.other.link).received) e.exchange ∙ takes-receive a k o.other.link))
    turn-stays (occurs what plain e) none = by (λ at. inl (plain-same of settings points h start done step before later others what o.other.link plain (x-steady at) e.exchange))
    turn-stays (enters m e) none = by (λ at. inl (counted of settings points h start done step before later others (Submitted m) o.other.link (x-steady at) e.exchange refl refl))
    turn-stays (comes k text left f e) none = frame-stays k text e.exchange (λ at. and-right (nat_eq k o.other.link) (is_some (new_message k text a)) (nothing-new (new_message k text a) none))
      where
        nothing-new : (m : Option Message) → option_to_list m ≡ [] → is_some m ≡ false
        nothing-new None e = refl
        nothing-new (Some m) e = absurd cc
    turn-stays (opens k f e) none =
        by (λ at.
        ⊎_elim
        (λ (same : o.other.link ≡ k). inr (opened-empty of settings points h start done step before later others y link less apart k at same f))
        (λ (far : o.other.link ≢ k).
        inl (counted of settings points h start done step before later others (CameUp k) o.other.link (x-steady at) e.exchange (not-equal k o.other.link (λ same. far (sym same))) refl))
        (cases_eq o.other.link k))

  -- ---- at another node

  abbrev pub waits_before : (point : ℕ) → ℕ
  waits_before y = all_waits of (tw y) (links_of y) (queues_of y)

  abbrev pub waits_after : (point : ℕ) → ℕ
  waits_after y = all_waits of (tv y) (links_of y) (v.node y).exchange.node.queues

  module _ (y : ℕ) (apart : y ≢ x) where
    pub after-is : waits_after y ≡ all_waits of (tv y) (links_of y) (queues_of y)
    after-is = ap (λ (b : Abstract). all_waits of (tv y) (links_of y) b.node.queues) (others y apart).exchange

    pub all-stay : ((link : ℕ) (less : link < links_of y) → Stays y link less apart) → waits_before y ≡ waits_after y
    all-stay f =
        ap (λ (k : ℕ). users_that of (queues_of y).held + k) (sum-alike (waits_at of (tv y) (queues_of y)) (waits_at of (tw y) (queues_of y)) (links_of y) (λ link less. f link less))
        ∙ sym after-is

    plus-none : (k l n : ℕ) → k ≡ l → n ≡ 0 → k ≡ l + n
    plus-none k l n e f = omega (arith, e, f)

    -- a message came
    module _ (k : ℕ) (text : List ℕ) (m : Message) (e : (v.node x).exchange ≡ after whole (FrameCame k text) a) (next : slice_get (in_flight (w.node x).incoming.user_data k) 0 ≡ Some text)
        (new : new_message k text a ≡ Some m) (inside : k < links_of x) where
      abbrev its : HasOther settings points h x k
      its = has-other settings points h x k inside

      -- not from this node, by this link
      other-stays : (link : ℕ) (less : link < links_of y) → (record { point = y; link = link } ≡ its.other → ⊥) → Stays y link less apart
      other-stays link less far =
          frame-stays y link less apart k text e
          (λ at. and-left (nat_eq k (o y link less apart).other.link) (is_some (new_message k text a))
          (not-equal k (o y link less apart).other.link
          (λ same. far (same-some (record { point = y; link = link }) its.other (sym (back of settings points h start done step before later others y link less apart k at (sym same)) ∙ its.is)))))

      other-node : its.other.point ≢ y → waits_before y ≡ waits_after y
      other-node far = all-stay (λ link less. other-stays link less (λ same. far (sym (ap (λ (p : Place). p.point) same))))

  -- at the node from which it came, one less waits
  module _ (k : ℕ) (text : List ℕ) (m : Message) (e : (v.node x).exchange ≡ after whole (FrameCame k text) a) (next : slice_get (in_flight (w.node x).incoming.user_data k) 0 ≡ Some text)
      (new : new_message k text a ≡ Some m) (inside : k < links_of x) where
    abbrev from : HasOther settings points h x k
    from = has-other settings points h x k inside

    abbrev y : ℕ
    y = from.other.point

    abbrev its_link : ℕ
    its_link = from.other.link

    y-apart : y ≢ x
    y-apart = other-apart settings points h x k from

    abbrev there : Queue
    there = queue_at (queues_of y) its_link

    before-is : tw y its_link ≡ (queue_at a.node.queues k).received
    before-is = ap (received_there w) (other-back settings points h x k from)

    one-more : (queue_at (v.node x).exchange.node.queues k).received ≡ (queue_at a.node.queues k).received + 1
    one-more =
        ap (λ (b : Abstract). received b.node k) e
        ∙ received-counted (FrameCame k text) a k (steady-node settings points h start done x (linked-listed settings points h x k inside)).places refl
        ∙ ap (λ (b : Bool). received a.node k + (if b && is_some (new_message k text a) then 1 else 0)) (same-here k)
        ∙ ap (λ (n : Option Message). received a.node k + (if true && is_some n then 1 else 0)) new

    after-so : tv y its_link ≡ (queue_at a.node.queues k).received + 1
    after-so = ap (received_there v) (other-back settings points h x k from) ∙ one-more

    one-less : users_that of (drop (tv y its_link) there.all) + users_that of (m ∷ []) ≡ users_that of (drop (tw y its_link) there.all)
    one-less =
        let n : ℕ = (queue_at a.node.queues k).received in
        ap (λ (i : ℕ). users_that of (drop i there.all) + users_that of (m ∷ [])) after-so
        ∙ turn (users_that of (drop (n + 1) there.all)) (users_that of (m ∷ []))
        ∙ sym (append of (m ∷ []) (drop (n + 1) there.all))
        ∙ sym (ap (users_that of) (drop-first there.all n m (missing-at settings points h start done before x k inside text m next new)))
        ∙ sym (ap (λ (i : ℕ). users_that of (drop i there.all)) before-is)
      where
        turn : (p q : ℕ) → p + q ≡ q + p
        turn p q = omega arith

    more-held : (held s t d : ℕ) → s + d ≡ t → held + t ≡ held + s + d
    more-held held s t d e = omega (arith, e)

    no-less : (p n : ℕ) → p < n → n ≤ p → ⊥
    no-less p n e f = omega (arith, e, f)

    sender-node : waits_before y ≡ waits_after y + users_that of (m ∷ [])
    sender-node =
        more-held (users_that of (queues_of y).held) (sum_to (waits_at of (tv y) (queues_of y)) (links_of y)) (sum_to (waits_at of (tw y) (queues_of y)) (links_of y)) (users_that of (m ∷ []))
        (sum-less (waits_at of (tw y) (queues_of y)) (waits_at of (tv y) (queues_of y)) (links_of y) its_link (users_that of (m ∷ []))
        (λ l less far. sym (other-stays y y-apart k text m e next new inside l less (λ same. far (ap (λ (p : Place). p.link) same))))
        (λ less. one-less)
        (λ past. absurd (no-less its_link (links_of y) (other-inside settings points h x k from) past)))
        ∙ ap (λ (n : ℕ). n + users_that of (m ∷ [])) (sym (after-is y y-apart))

  -- ---- any step

  zero-more : (k l n : ℕ) → k ≡ l → n ≡ 0 → k ≡ l + n
  zero-more k l n e f = omega (arith, e, f)

  module _ (y : ℕ) (apart : y ≢ x) where
    pub quiet-waits : (turn : Turn w v x) → news turn ≡ [] → (b : Bool) → waits_before y ≡ waits_after y + (if b then users_that of (news turn) else 0)
    quiet-waits turn none b =
        zero-more (waits_before y) (waits_after y) (if b then users_that of (news turn) else 0) (all-stay y apart (λ link less. turn-stays y link less apart turn none))
        (none-if b (users_that of (news turn)) (ap (users_that of) none))

    pub new-waits : (k : ℕ) (text : List ℕ) (m : Message) → (v.node x).exchange ≡ after whole (FrameCame k text) a → slice_get (in_flight (w.node x).incoming.user_data k) 0 ≡ Some text
        → new_message k text a ≡ Some m → (inside : k < links_of x) → waits_before y ≡ waits_after y + (if nat_eq (has-other settings points h x k inside).other.point y then users_that of (m ∷ []) else 0)
    new-waits k text m e next new inside =
        let from : HasOther settings points h x k = has-other settings points h x k inside in
        ⊎_elim
        (λ (same : from.other.point ≡ y).
        subst (λ (n : ℕ). waits_before n ≡ waits_after n + (if nat_eq from.other.point n then users_that of (m ∷ []) else 0)) same
        (sender-node k text m e next new inside
        ∙ ap (λ (b : Bool). waits_after from.other.point + (if b then users_that of (m ∷ []) else 0)) (sym (same-here from.other.point))))
        (λ (far : from.other.point ≢ y).
        zero-more (waits_before y) (waits_after y) (if nat_eq from.other.point y then users_that of (m ∷ []) else 0) (other-node y apart k text m e next new inside far)
        (ap (λ (b : Bool). if b then users_that of (m ∷ []) else 0) (not-equal from.other.point y far)))
        (cases_eq from.other.point y)
