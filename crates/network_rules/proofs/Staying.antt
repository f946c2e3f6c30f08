-- An event takes in what it brings, and of what waits at a node nothing goes: what goes for good was received at the
-- far ends.
use Rattle.exchange_rules.proofs.Basics.{◌≡◌, ◌<◌, ◌≤◌, ◌⊎◌, inl, inr, ◌+◌, ◌-◌, ℕ, zero, suc, Bool, List, [], ◌∷◌, length, refl, ap, sym, subst, ◌∙◌, arith, take, sum_by, sum_by-cons, ⊎_elim, cases_lt, slice_index_or, get_or_past}
use Rattle.std.proofs.Common.{drop}
use Rattle.exchange_rules.proofs.Definitions.{Message, Configuration, Queue, first_queue, unconfirmed, IsQueue, AreQueues, WholeQueues, queue_at, whole, Abstract, users_that, standing, gone_that, Gone, both_gone, gone, gone_by, gone_by_new, gone_by_release, gone_by_tick, brought_in, new_message, accept_text, read_frame, HasAllPlaces, AreLinksSteady, Happening, CameUp, WentDown, FrameCame, Ticked, Submitted, Activated, Deactivated, Released, TitleAdded, TitleSet, TitleRemoved, handle_event, Happens}
use Rattle.exchange_rules.specs.Conserving.{confirmed, only_accepted}
use Rattle.exchange_rules.specs.Exchange.{after}
use Rattle.exchange_rules.proofs.Conserved.{conserved}
use Rattle.exchange_rules.proofs.Departing.{both-that}
use Rattle.exchange_rules.proofs.LastingPlaces.{places-stay}
use Rattle.exchange_rules.proofs.LastingLinks.{links-stay}
use Rattle.exchange_rules.proofs.Tallies.{append}
use Rattle.pair_moves.specs.Laws.{sum_to}
use Rattle.network_rules.proofs.Growing.{MayMake}
use Rattle.network_rules.proofs.Parting.{SaysWord}
use Rattle.network_rules.proofs.PartingEvents.{Comes, IsOther, Ticks, frame-event, other-event, runs, runs_out, tick-event, up-event}
use Rattle.network_rules.proofs.Losing.{LosesNone}
use Rattle.network_rules.proofs.Ahead.{ahead, ahead-all, all_ahead, all-grown, drop-none, take-none}
use Rattle.network_rules.proofs.Letting.{Named, frame-lets, opens-lets}

-- ---- sums by numbers

sum-first : (f : ℕ → ℕ) (n : ℕ) → sum_to f (suc n) ≡ f 0 + sum_to (λ k. f (suc k)) n
sum-first f zero = ends-first (f 0)
  where
    ends-first : (k : ℕ) → 0 + k ≡ k + 0
    ends-first k = omega arith
sum-first f (suc n) = (let rest : sum_to f (suc n) ≡ f 0 + sum_to (λ k. f (suc k)) n = sum-first f n in omega (arith, rest))

sum-listed : (f : Queue → ℕ) (qs : List Queue) → sum_by f qs ≡ sum_to (λ k. f (slice_index_or qs k first_queue)) (length qs)
sum-listed f [] = refl
sum-listed f (q ∷ qs) =
    sum_by-cons f q qs ∙ ap (λ (k : ℕ). f q + k) (sum-listed f qs) ∙ sym (sum-first (λ k. f (slice_index_or (q ∷ qs) k first_queue)) (length qs))

sum-two : (f g h : ℕ → ℕ) (n : ℕ) → ((k : ℕ) → k < n → f k ≡ g k + h k) → sum_to f n ≡ sum_to g n + sum_to h n
sum-two f g h zero e = refl
sum-two f g h (suc n) e =
    let rest : sum_to f n ≡ sum_to g n + sum_to h n = sum-two f g h n (λ k less. e k (omega (arith, less))) in
    let last : f n ≡ g n + h n = e n (omega arith) in
    omega (arith, rest, last)

module _ (of : Message → Bool) (there : ℕ → ℕ) where
  -- what stands at a node and wasn't received at the far ends
  abbrev pub waits_at : WholeQueues → (link : ℕ) → ℕ
  waits_at qs link = users_that of (drop (there link) (queue_at qs link).all)

  abbrev pub all_waits : (links : ℕ) → WholeQueues → ℕ
  all_waits links qs = users_that of qs.held + sum_to (waits_at qs) links

  -- what was received is between what is confirmed and what was sent, or nothing stands there
  abbrev pub AreBetween : (links : ℕ) → WholeQueues → Type 0
  AreBetween links qs =
      (link : ℕ) → link < links → (((queue_at qs link).confirmed ≤ there link) × (there link ≤ (queue_at qs link).sent)) ⊎ ((queue_at qs link).all ≡ [])

  none-all : (q : Queue) (k : ℕ) → q.all ≡ [] → users_that of (unconfirmed q) ≡ users_that of (drop k q.all) + users_that of (ahead k q)
  none-all q k e =
      ap (λ (ms : List Message). users_that of (drop q.confirmed ms)) e ∙ ap (users_that of) (drop-none q.confirmed)
      ∙ sym (ap (λ (ms : List Message). users_that of (drop k ms) + users_that of (ahead k (record q { all = ms }))) e
      ∙ ap (λ (ms : List Message). users_that of ms + users_that of (ahead k (record q { all = [] }))) (drop-none k)
      ∙ ap (λ (ms : List Message). users_that of [] + users_that of (take (k - (k - q.sent) - q.confirmed) ms)) (drop-none q.confirmed)
      ∙ ap (λ (ms : List Message). users_that of [] + users_that of ms) (take-none (k - (k - q.sent) - q.confirmed)))

  some-all : (q : Queue) (k : ℕ) → q.confirmed ≤ k → k ≤ q.sent → users_that of (unconfirmed q) ≡ users_that of (drop k q.all) + users_that of (ahead k q)
  some-all q k e f = ap (users_that of) (ahead-all k q e f) ∙ append of (ahead k q) (drop k q.all) ∙ turn (users_that of (ahead k q)) (users_that of (drop k q.all))
    where
      turn : (a b : ℕ) → a + b ≡ b + a
      turn a b = omega arith

  queue-parts : (q : Queue) (k : ℕ) → ((q.confirmed ≤ k) × (k ≤ q.sent)) ⊎ (q.all ≡ []) → users_that of (unconfirmed q) ≡ users_that of (drop k q.all) + users_that of (ahead k q)
  queue-parts q k (inl e) = some-all q k e.0 e.1
  queue-parts q k (inr e) = none-all q k e

  standing-parts : (links : ℕ) (qs : WholeQueues) → length qs.links ≡ links → AreBetween links qs → standing of qs ≡ all_waits links qs + all_ahead of there links qs
  standing-parts links qs size between =
      let listed : sum_by (λ q. users_that of (unconfirmed q)) qs.links ≡ sum_to (λ k. users_that of (unconfirmed (queue_at qs k))) links =
      sum-listed (λ q. users_that of (unconfirmed q)) qs.links ∙ ap (sum_to (λ k. users_that of (unconfirmed (queue_at qs k)))) size in
      let parts : sum_to (λ k. users_that of (unconfirmed (queue_at qs k))) links ≡ sum_to (waits_at qs) links + all_ahead of there links qs =
      sum-two (λ k. users_that of (unconfirmed (queue_at qs k))) (waits_at qs) (λ k. users_that of (ahead (there k) (queue_at qs k))) links
      (λ k less. queue-parts (queue_at qs k) (there k) (between k less)) in
      three (users_that of qs.held) (sum_by (λ q. users_that of (unconfirmed q)) qs.links) (sum_to (λ k. users_that of (unconfirmed (queue_at qs k))) links)
      (sum_to (waits_at qs) links) (all_ahead of there links qs) listed parts
    where
      three : (h a b s t : ℕ) → a ≡ b → b ≡ s + t → h + a ≡ h + s + t
      three h a b s t e f = omega (arith, e, f)

  -- ---- an event

  balance : (n b m acc w w' h h' : ℕ) → n + b ≡ m + acc → n ≡ w + h → m ≡ w' + h' → h ≡ h' + acc → w + b ≡ w'
  balance n b m acc w w' h h' e f g i = omega (arith, e, f, g, i)

  module _ (a : Abstract) (what : Happening) (fits : MayMake a.settings) (places : HasAllPlaces a.settings a.node) (steady : AreLinksSteady a.settings.window a.node) where
    abbrev c : Configuration
    c = a.settings

    abbrev links : ℕ
    links = length c.links

    abbrev b : Abstract
    b = after whole what a

    left-places : HasAllPlaces c b.node
    left-places = places-stay (Happens what ∷ []) a places

    left-steady : AreLinksSteady c.window b.node
    left-steady = links-stay (Happens what ∷ []) a places steady

    queues : AreQueues c.window a.node.queues
    queues = record { each = λ link. (steady.each link).queue }

    -- what goes was ahead
    Goes : Type 0
    Goes = all_ahead of there links a.node.queues ≡ all_ahead of there links b.node.queues + gone_that of (gone what a)

    waits-by : AreBetween links a.node.queues → AreBetween links b.node.queues → Goes → all_waits links a.node.queues + users_that of (brought_in what a) ≡ all_waits links b.node.queues
    unfolding Goes
    waits-by before later goes =
        balance (standing of a.node.queues) (users_that of (brought_in what a)) (standing of b.node.queues) (gone_that of (gone what a))
        (all_waits links a.node.queues) (all_waits links b.node.queues) (all_ahead of there links a.node.queues) (all_ahead of there links b.node.queues)
        (conserved what a of places steady) (standing-parts links a.node.queues places.queues before) (standing-parts links b.node.queues left-places.queues later) goes

    -- by the release nothing goes
    release-none : LosesNone what a → gone_that of (gone_by_release c (handle_event whole c what a.node).left) ≡ 0
    release-none none = ap (λ (ms : List Message). users_that of [] + users_that of ms) none.by_release

    by-rule : (k s g u v : ℕ) → k ≡ s + g → u ≡ g + v → v ≡ 0 → k ≡ s + u
    by-rule k s g u v e f h = omega (arith, e, f, h)

    -- where the rule lets this go
    goes-by : LosesNone what a → all_ahead of there links a.node.queues ≡ all_ahead of there links b.node.queues + gone_that of (gone_by what a) → Goes
    unfolding Goes
    goes-by kept e =
        by-rule (all_ahead of there links a.node.queues) (all_ahead of there links b.node.queues) (gone_that of (gone_by what a)) (gone_that of (gone what a))
        (gone_that of (gone_by_release c (handle_event whole c what a.node).left)) e (both-that of (gone_by what a) (gone_by_release c (handle_event whole c what a.node).left)) (release-none kept)

  -- ---- a frame comes

  module _ (a : Abstract) (link : ℕ) (text : List ℕ) (fits : MayMake a.settings) (places : HasAllPlaces a.settings a.node) (steady : AreLinksSteady a.settings.window a.node) where
    abbrev heard : Abstract
    heard = after whole (FrameCame link text) a

    abbrev its : ℕ
    its = length a.settings.links

    zero-less : (m n k s : ℕ) → m ≤ s → s ≤ n → n ≡ 0 → m ≤ k
    zero-less m n k s e f g = omega (arith, e, f, g)

    nothing-less : (m k : ℕ) → m ≡ 0 → m ≤ k
    nothing-less m k e = omega (arith, e)

    bound : AreBetween its heard.node.queues → (queue_at heard.node.queues link).confirmed ≤ there link
    bound later =
        let q : Queue = queue_at heard.node.queues link in
        let steady_left : AreLinksSteady a.settings.window heard.node = links-stay (Happens (FrameCame link text) ∷ []) a places steady in
        let kept_left : HasAllPlaces a.settings heard.node = places-stay (Happens (FrameCame link text) ∷ []) a places in
        let is : IsQueue a.settings.window q = (steady_left.each link).queue in
        ⊎_elim
        (λ (less : link < its).
        ⊎_elim (λ (t : (q.confirmed ≤ there link) × (there link ≤ q.sent)). t.0)
        (λ (none : q.all ≡ []). zero-less q.confirmed (length q.all) (there link) q.sent is.confirmed is.sent (ap length none))
        (later link less))
        (λ (past : its ≤ link).
        nothing-less q.confirmed (there link) (ap (λ (x : Queue). x.confirmed) (get_or_past heard.node.queues.links link first_queue (subst (λ (n : ℕ). n ≤ link) (sym kept_left.queues) past))))
        (cases_lt link its)

    frame-gone : (ms : List Message) (g : Gone) → g.lost ≡ [] → users_that of ms + users_that of g.accepted ≡ gone_that of (both_gone (only_accepted ms) g)
    frame-gone ms g e =
        sum (users_that of ms) (users_that of g.accepted) (users_that of g.lost) (users_that of []) (gone_that of (both_gone (only_accepted ms) g)) (both-that of (only_accepted ms) g)
        (ap (users_that of) e) refl
      where
        sum : (m k l z s : ℕ) → s ≡ m + z + (k + l) → l ≡ 0 → z ≡ 0 → m + k ≡ s
        sum m k l z s e f h = omega (arith, e, f, h)

    no-doubts : (n : ℕ) → 0 + n ≡ 0 → n ≡ 0
    no-doubts n e = omega (arith, e)

    pub frame-stays : LosesNone (FrameCame link text) a → AreBetween its a.node.queues → AreBetween its heard.node.queues → Named of there its a.settings.window (SaysWord a.settings (new_message link text a)) a.node.queues
        → all_waits its a.node.queues + users_that of (brought_in (FrameCame link text) a) ≡ all_waits its heard.node.queues
    frame-stays kept before later named =
        let ms : List Message = confirmed link text a in
        let g : Gone = gone_by_new (new_message link text a) a.settings (accept_text link (read_frame text) a) in
        let comes : Comes a.settings link (new_message link text a) a.node.queues heard.node ms g = frame-event a.settings fits link text a.node in
        waits-by a (FrameCame link text) fits places steady before later
        (goes-by a (FrameCame link text) fits places steady kept
        (frame-lets of there its a.settings.window a.settings link (new_message link text a) a.node.queues heard.node ms g (record { each = λ l. (steady.each l).queue }) (sym places.queues) named (no-doubts g.doubts kept.sure) (bound later) comes
        ∙ ap (λ (k : ℕ). all_ahead of there its heard.node.queues + k) (frame-gone ms g kept.by_rule)))

  -- ---- any other event

  module _ (a : Abstract) (what : Happening) (fits : MayMake a.settings) (places : HasAllPlaces a.settings a.node) (steady : AreLinksSteady a.settings.window a.node) where
    abbrev left : Abstract
    left = after whole what a

    abbrev all : ℕ
    all = length a.settings.links

    -- where no more is ahead, and nothing goes
    plain : LosesNone what a → AreBetween all a.node.queues → AreBetween all left.node.queues → all_ahead of there all left.node.queues ≡ all_ahead of there all a.node.queues
        → gone_that of (gone_by what a) ≡ 0 → all_waits all a.node.queues + users_that of (brought_in what a) ≡ all_waits all left.node.queues
    plain kept before later same none =
        waits-by a what fits places steady before later
        (goes-by a what fits places steady kept (none-gone (all_ahead of there all a.node.queues) (all_ahead of there all left.node.queues) (gone_that of (gone_by what a)) same none))
      where
        none-gone : (k l g : ℕ) → l ≡ k → g ≡ 0 → k ≡ l + g
        none-gone k l g e f = omega (arith, e, f)

    its-queues : AreQueues a.settings.window a.node.queues
    its-queues = record { each = λ l. (steady.each l).queue }

    pub other-stays : IsOther a.settings fits what → LosesNone what a → AreBetween all a.node.queues → AreBetween all left.node.queues
        → all_waits all a.node.queues + users_that of (brought_in what a) ≡ all_waits all left.node.queues
    other-stays is kept before later = plain kept before later (all-grown of there all a.node.queues left.node.queues its-queues (other-event a.settings fits what a.node is)) (none what is)
      where
        none : (w : Happening) → IsOther a.settings fits w → gone_that of (gone_by w a) ≡ 0
        none (CameUp link) e = absurd e
        none (FrameCame link text) e = absurd e
        none Ticked e = absurd e
        none (WentDown link) e = refl
        none (Submitted message) e = refl
        none (Activated link emergency) e = refl
        none (Deactivated link) e = refl
        none (Released link) e = refl
        none (TitleAdded row is_memory_refused) e = refl
        none (TitleSet row is_memory_refused) e = refl
        none (TitleRemoved key digits) e = refl

  module _ (a : Abstract) (fits : MayMake a.settings) (places : HasAllPlaces a.settings a.node) (steady : AreLinksSteady a.settings.window a.node) where
    abbrev count : ℕ
    count = length a.settings.links

    queues-of : AreQueues a.settings.window a.node.queues
    queues-of = record { each = λ l. (steady.each l).queue }

    pub up-stays : (link : ℕ) → LosesNone (CameUp link) a → AreBetween count a.node.queues → AreBetween count (after whole (CameUp link) a).node.queues
        → all_waits count a.node.queues + users_that of (brought_in (CameUp link) a) ≡ all_waits count (after whole (CameUp link) a).node.queues
    up-stays link kept before later =
        plain a (CameUp link) fits places steady kept before later
        (opens-lets of there count a.settings.window link a.node.queues (after whole (CameUp link) a).node.queues queues-of (sym places.queues) (up-event a.settings fits link a.node steady)) refl

    doubtless : (k : ℕ) → k ≡ 0 → 0 < k → ⊥
    doubtless k e f = omega (arith, e, f)

    pub tick-stays : LosesNone Ticked a → AreBetween count a.node.queues → AreBetween count (after whole Ticked a).node.queues
        → all_waits count a.node.queues + users_that of (brought_in Ticked a) ≡ all_waits count (after whole Ticked a).node.queues
    tick-stays kept before later = by (tick-event a.settings fits a.node)
      where
        by : Ticks a.settings fits a.node.queues (after whole Ticked a).node (gone_by_tick a.settings a.node)
            → all_waits count a.node.queues + users_that of (brought_in Ticked a) ≡ all_waits count (after whole Ticked a).node.queues
        by (runs e none unlost) =
            plain a Ticked fits places steady kept before later (all-grown of there count a.node.queues (after whole Ticked a).node.queues queues-of e)
            (ap (λ (g : List Message). users_that of g + users_that of (gone_by_tick a.settings a.node).lost) none ∙ ap (λ (ms : List Message). users_that of [] + users_that of ms) unlost)
        by (runs_out l) = absurd (doubtless (gone_by_tick a.settings a.node).doubts kept.sure l)
