-- One step of a network that loses nothing: all that was accepted is what came and what waits, before it and after it.
use Rattle.pair_rules.proofs.Basics.{◌≡◌, ◌≢◌, ◌⊎◌, inl, inr, ◌<◌, ℕ, ◌+◌, Bool, true, false, List, [], ◌∷◌, ◌++◌, length, nat_eq, Option, Some, None, refl, ap, sym, subst, ◌∙◌, arith, slice_get, option_to_list, drop, ⊎_elim, cases_eq, if◌then◌else◌}
use Rattle.exchange_rules.proofs.Basics.{sum_by}
use Rattle.pair_rules.proofs.Definitions.{Message, Configuration, queue_at, in_flight, new_message, FrameCame, Submitted}
use Rattle.exchange_rules.specs.First.{Abstract}
use Rattle.exchange_rules.specs.Conserving.{brought_in, users_that}
use Rattle.exchange_rules.proofs.Tallies.{append}
use Rattle.pair_moves.proofs.Counts.{sum-alike}
use Rattle.network_rules.specs.Networks.{Arrival, NetworkState, Step}
use Rattle.network_rules.specs.Totals.{IsJoined, is_listed}
use Rattle.network_rules.proofs.AtState.{no-status, there_of}
use Rattle.network_rules.proofs.Booked.{arrived-more, texts_of}
use Rattle.network_rules.proofs.Here.{here-waits, kept-inside, more, new-link, there-same}
use Rattle.network_rules.proofs.Joined.{HasOther, end_at, has-other, linked-listed, other-apart, other-inside}
use Rattle.network_rules.proofs.News.{all-stay, by, new-waits, news, none-if, point_of, quiet-waits, sender, waits_after, waits_before}
use Rattle.network_rules.proofs.Places.{not-equal}
use Rattle.network_rules.proofs.Reached.{Begins, IsSteadyNode, Kept, reached, settings-kept, steady-node}
use Rattle.network_rules.proofs.Staying.{all_waits, waits_at}
use Rattle.network_rules.proofs.Sums.{same-here, sum-agree, sum-once}
use Rattle.network_rules.proofs.There.{back-inside}
use Rattle.network_rules.proofs.Turns as turns
use Rattle.network_rules.proofs.Turns.{SameBooks, Turn, comes, enters, idles, occurs, opens}

module _ (of : Message → Bool) (settings : (point : ℕ) → Configuration) (points : List ℕ) (h : IsJoined settings points) (start : Begins settings points) (done : List Step) (step : Step)
    (before : Kept settings points h start (reached settings points h start done)) (later : Kept settings points h start (reached settings points h start (done ++ step ∷ [])))
    (others : (point : ℕ) → point ≢ step.point → SameBooks ((reached settings points h start done).node point) ((reached settings points h start (done ++ step ∷ [])).node point)) where
  abbrev w : NetworkState
  w = reached settings points h start done

  abbrev v : NetworkState
  v = reached settings points h start (done ++ step ∷ [])

  abbrev x : ℕ
  x = step.point

  abbrev a : Abstract
  a = (w.node x).exchange

  abbrev tw : (point link : ℕ) → ℕ
  tw = there_of settings points h start done before

  abbrev tv : (point link : ℕ) → ℕ
  tv = there_of settings points h start (done ++ step ∷ []) later

  abbrev accepted_at : NetworkState → ℕ → ℕ
  accepted_at s y = users_that of (s.node y).accepted

  abbrev arrived_at : NetworkState → ℕ → ℕ
  arrived_at s y = users_that of (texts_of (s.node y).arrived)

  abbrev old : ℕ → ℕ
  old = waits_before of settings points h start done step before later others

  abbrev new : ℕ → ℕ
  new = waits_after of settings points h start done step before later others

  -- ---- a step at a node that isn't listed

  module _ (unlisted : is_listed points x ≡ false) where
    far-from : (y : ℕ) → is_listed points y ≡ true → y ≢ x
    far-from y listed same = (let clash : true ≡ false = sym listed ∙ ap (is_listed points) same ∙ unlisted in absurd cc)

    unseen-waits : (y : ℕ) → is_listed points y ≡ true → old y ≡ new y
    unseen-waits y listed =
        all-stay of settings points h start done step before later others y (far-from y listed)
        (λ link less.
        by of settings points h start done step before later others y link less (far-from y listed)
        (λ at.
        (let clash : true ≡ false =
        sym (linked-listed settings points h x _ (back-inside of settings points h start done step before later others y link less (far-from y listed) (has-other settings points h y link less).other.link at refl)) ∙ unlisted in
        absurd cc)))

  -- ---- a step at one that is

  module _ (listed : is_listed points x ≡ true) where
    abbrev its_more : Turn w v x → List Message
    its_more turn = more of settings points h start done step before later others listed turn

    abbrev its_news : Turn w v x → List Message
    its_news turn = news of settings points h start done step before later others turn

    abbrev its_sender : Turn w v x → ℕ
    its_sender turn = sender of settings points h start done step before later others turn

    same-more : (ms ks : List Message) → ks ≡ ms → users_that of ks ≡ users_that of ms + 0
    same-more ms ks e = ap (users_that of) e ∙ plus-none (users_that of ms)
      where
        plus-none : (n : ℕ) → n ≡ n + 0
        plus-none n = omega arith

    accepted-here : (turn : Turn w v x) → accepted_at v x ≡ accepted_at w x + users_that of (its_more turn)
    accepted-here (idles e) = same-more _ _ e.accepted
    accepted-here (turns.goes_out link e) = same-more _ _ e.accepted
    accepted-here (occurs what plain e) = same-more _ _ e.accepted
    accepted-here (enters m e) = ap (users_that of) e.accepted ∙ append of (w.node x).accepted (brought_in (Submitted m) a)
    accepted-here (comes link text left f e) = ap (users_that of) e.accepted ∙ append of (w.node x).accepted (brought_in (FrameCame link text) a)
    accepted-here (opens link f e) = same-more _ _ e.accepted

    same-texts : (xs ys : List Arrival) → ys ≡ xs → users_that of (texts_of ys) ≡ users_that of (texts_of xs) + 0
    same-texts xs ys e = same-more (texts_of xs) (texts_of ys) (ap (λ (zs : List Arrival). texts_of zs) e)

    arrived-here : (turn : Turn w v x) → arrived_at v x ≡ arrived_at w x + users_that of (its_news turn)
    arrived-here (idles e) = same-texts _ _ e.arrived
    arrived-here (turns.goes_out link e) = same-texts _ _ e.arrived
    arrived-here (occurs what plain e) = same-texts _ _ e.arrived
    arrived-here (enters m e) = same-texts _ _ e.arrived
    arrived-here (comes link text left f e) =
        ap (λ (zs : List Arrival). users_that of (texts_of zs)) e.arrived
        ∙ ap (users_that of) (arrived-more link (w.node x).arrived (option_to_list (new_message link text a)))
        ∙ append of (texts_of (w.node x).arrived) (option_to_list (new_message link text a))
    arrived-here (opens link f e) = same-texts _ _ e.arrived

    -- ---- where a message that newly came was sent

    data IsFrom (turn : Turn w v x) : Type 0 where
      nobody : users_that of (its_news turn) ≡ 0 → IsFrom turn
      someone : is_listed points (its_sender turn) ≡ true → its_sender turn ≢ x → IsFrom turn

    from-new : (link : ℕ) (m : Message) (turn : Turn w v x) → its_sender turn ≡ point_of (end_at settings x link) → (less : link < length (settings x).links) → IsFrom turn
    from-new link m turn e less =
        let o : HasOther settings points h x link = has-other settings points h x link less in
        let same : its_sender turn ≡ o.other.point = e ∙ ap point_of o.is in
        someone (ap (is_listed points) same ∙ linked-listed settings points h o.other.point o.other.link (other-inside settings points h x link o))
        (λ clash. other-apart settings points h x link o (sym same ∙ clash))

    steady : IsSteadyNode a
    steady = steady-node settings points h start done x listed

    inside-of : (link : ℕ) (text : List ℕ) (m : Message) → new_message link text a ≡ Some m → link < length (settings x).links
    inside-of link text m e = kept-inside of settings points h start done step before later others listed link (new-link link text a m steady.places e)

    from-turn : (turn : Turn w v x) → IsFrom turn
    from-turn (idles e) = nobody refl
    from-turn (turns.goes_out link e) = nobody refl
    from-turn (occurs what plain e) = nobody refl
    from-turn (enters m e) = nobody refl
    from-turn (opens link f e) = nobody refl
    from-turn (comes link text left f e) = split (new_message link text a) refl
      where
        split : (o : Option Message) → new_message link text a ≡ o → IsFrom (comes link text left f e)
        split None g = nobody (ap (λ (o : Option Message). users_that of (option_to_list o)) g)
        split (Some m) g = from-new link m (comes link text left f e) refl (inside-of link text m g)

    -- ---- what waits

    waits-elsewhere : (turn : Turn w v x) (y : ℕ) → y ≢ x → old y ≡ new y + (if nat_eq (its_sender turn) y then users_that of (its_news turn) else 0)
    waits-elsewhere (idles e) y far = quiet-waits of settings points h start done step before later others y far (idles e) refl (nat_eq 0 y)
    waits-elsewhere (turns.goes_out link e) y far = quiet-waits of settings points h start done step before later others y far (turns.goes_out link e) refl (nat_eq 0 y)
    waits-elsewhere (occurs what plain e) y far = quiet-waits of settings points h start done step before later others y far (occurs what plain e) refl (nat_eq 0 y)
    waits-elsewhere (enters m e) y far = quiet-waits of settings points h start done step before later others y far (enters m e) refl (nat_eq 0 y)
    waits-elsewhere (opens link f e) y far = quiet-waits of settings points h start done step before later others y far (opens link f e) refl (nat_eq 0 y)
    waits-elsewhere (comes link text left f e) y far = split (new_message link text a) refl f
      where
        split : (o : Option Message) → new_message link text a ≡ o
            → (slice_get (in_flight (w.node x).incoming.user_data link) 0 ≡ Some text) ⊎ (slice_get (in_flight (w.node x).incoming.statuses link) 0 ≡ Some text)
            → old y ≡ new y + (if nat_eq (point_of (end_at settings x link)) y then users_that of (option_to_list (new_message link text a)) else 0)
        split None g why =
            quiet-waits of settings points h start done step before later others y far (comes link text left f e) (ap (λ (o : Option Message). option_to_list o) g) (nat_eq (point_of (end_at settings x link)) y)
        split (Some m) g (inl next) =
            let inside : link < length (settings x).links = inside-of link text m g in
            new-waits of settings points h start done step before later others y far link text m e.exchange next g inside
            ∙ ap (λ (n : ℕ). new y + (if nat_eq n y then users_that of (m ∷ []) else 0)) (sym (ap point_of (has-other settings points h x link inside).is))
            ∙ ap (λ (o : Option Message). new y + (if nat_eq (point_of (end_at settings x link)) y then users_that of (option_to_list o) else 0)) (sym g)
        split (Some m) g (inr next) = absurd (no-status settings points h start done before x link (inside-of link text m g) text m next g)

    waits-here : (turn : Turn w v x) → old x + users_that of (its_more turn) ≡ new x
    waits-here turn =
        subst (λ (c : Configuration). all_waits of (tw x) (length c.links) a.node.queues + users_that of (its_more turn) ≡ all_waits of (tw x) (length c.links) (v.node x).exchange.node.queues)
        (settings-kept settings points h start done x) (here-waits of settings points h start done step before later others listed turn)
        ∙ ap (λ (k : ℕ). users_that of (v.node x).exchange.node.queues.held + k)
        (sum-alike (waits_at of (tv x) (v.node x).exchange.node.queues) (waits_at of (tw x) (v.node x).exchange.node.queues) (length (settings x).links)
        (λ link less. ap (λ (n : ℕ). users_that of (drop n (queue_at (v.node x).exchange.node.queues link).all)) (sym (there-same of settings points h start done step before later others listed link less))))

    -- ---- over all points

    plus-so : (k l n : ℕ) → k ≡ l → n ≡ 0 → k ≡ l + n
    plus-so k l n e f = omega (arith, e, f)

    -- something more at this point alone
    at-one : (f g : ℕ → ℕ) (d : ℕ) → g x ≡ f x + d → ((y : ℕ) → y ≢ x → g y ≡ f y) → sum_by g points ≡ sum_by f points + d
    at-one f g d here elsewhere =
        sum-agree g (λ y. f y + (if nat_eq x y then d else 0)) points
        (λ y its.
        ⊎_elim
        (λ (same : y ≡ x). subst (λ (n : ℕ). g n ≡ f n + (if nat_eq x n then d else 0)) (sym same) (here ∙ ap (λ (b : Bool). f x + (if b then d else 0)) (sym (same-here x))))
        (λ (far : y ≢ x). plus-so (g y) (f y) (if nat_eq x y then d else 0) (elsewhere y far) (ap (λ (b : Bool). if b then d else 0) (not-equal x y (λ e. far (sym e)))))
        (cases_eq y x))
        ∙ sum-once f x d points (h.placed.once x listed)

    waits-at-one : (turn : Turn w v x) (y : ℕ) → (if nat_eq (its_sender turn) x then users_that of (its_news turn) else 0) ≡ 0
        → old y + (if nat_eq x y then users_that of (its_more turn) else 0) ≡ new y + (if nat_eq (its_sender turn) y then users_that of (its_news turn) else 0)
    waits-at-one turn y none =
        ⊎_elim
        (λ (same : y ≡ x).
        subst (λ (n : ℕ). old n + (if nat_eq x n then users_that of (its_more turn) else 0) ≡ new n + (if nat_eq (its_sender turn) n then users_that of (its_news turn) else 0)) (sym same)
        (ap (λ (b : Bool). old x + (if b then users_that of (its_more turn) else 0)) (same-here x) ∙ plus-so (old x + users_that of (its_more turn)) (new x) _ (waits-here turn) none))
        (λ (far : y ≢ x).
        ap (λ (b : Bool). old y + (if b then users_that of (its_more turn) else 0)) (not-equal x y (λ e. far (sym e))) ∙ no-plus (old y) ∙ waits-elsewhere turn y far)
        (cases_eq y x)
      where
        no-plus : (n : ℕ) → n + 0 ≡ n
        no-plus n = omega arith

    waits-sum : (turn : Turn w v x) → IsFrom turn → sum_by old points + users_that of (its_more turn) ≡ sum_by new points + users_that of (its_news turn)
    waits-sum turn (nobody none) =
        sym (sum-once old x (users_that of (its_more turn)) points (h.placed.once x listed))
        ∙ sum-agree (λ y. old y + (if nat_eq x y then users_that of (its_more turn) else 0)) new points
        (λ y its.
        waits-at-one turn y (none-if (nat_eq (its_sender turn) x) (users_that of (its_news turn)) none)
        ∙ sym (plus-so (new y) (new y) (if nat_eq (its_sender turn) y then users_that of (its_news turn) else 0) refl (none-if (nat_eq (its_sender turn) y) (users_that of (its_news turn)) none)))
        ∙ plus-so (sum_by new points) (sum_by new points) (users_that of (its_news turn)) refl none
    waits-sum turn (someone its far) =
        sym (sum-once old x (users_that of (its_more turn)) points (h.placed.once x listed))
        ∙ sum-agree (λ y. old y + (if nat_eq x y then users_that of (its_more turn) else 0)) (λ y. new y + (if nat_eq (its_sender turn) y then users_that of (its_news turn) else 0)) points
        (λ y on. waits-at-one turn y (ap (λ (b : Bool). if b then users_that of (its_news turn) else 0) (not-equal (its_sender turn) x far)))
        ∙ sum-once new (its_sender turn) (users_that of (its_news turn)) points (h.placed.once (its_sender turn) its)

    step-sum : (acc acc' arr arr' wait wait' m n : ℕ) → acc ≡ arr + wait → acc' ≡ acc + m → arr' ≡ arr + n → wait + m ≡ wait' + n → acc' ≡ arr' + wait'
    step-sum acc acc' arr arr' wait wait' m n e f g i = omega (arith, e, f, g, i)

    listed-step : Turn w v x → sum_by (accepted_at w) points ≡ sum_by (arrived_at w) points + sum_by old points → sum_by (accepted_at v) points ≡ sum_by (arrived_at v) points + sum_by new points
    listed-step turn e =
        step-sum (sum_by (accepted_at w) points) (sum_by (accepted_at v) points) (sum_by (arrived_at w) points) (sum_by (arrived_at v) points) (sum_by old points) (sum_by new points)
        (users_that of (its_more turn)) (users_that of (its_news turn)) e
        (at-one (accepted_at w) (accepted_at v) (users_that of (its_more turn)) (accepted-here turn) (λ y far. ap (users_that of) (others y far).accepted))
        (at-one (arrived_at w) (arrived_at v) (users_that of (its_news turn)) (arrived-here turn) (λ y far. ap (λ (zs : List Arrival). users_that of (texts_of zs)) (others y far).arrived))
        (waits-sum turn (from-turn turn))

  three-same : (acc acc' arr arr' wait wait' : ℕ) → acc ≡ arr + wait → acc' ≡ acc → arr' ≡ arr → wait ≡ wait' → acc' ≡ arr' + wait'
  three-same acc acc' arr arr' wait wait' e f g i = omega (arith, e, f, g, i)

  unlisted-step : is_listed points x ≡ false → sum_by (accepted_at w) points ≡ sum_by (arrived_at w) points + sum_by old points → sum_by (accepted_at v) points ≡ sum_by (arrived_at v) points + sum_by new points
  unlisted-step none e =
      three-same (sum_by (accepted_at w) points) (sum_by (accepted_at v) points) (sum_by (arrived_at w) points) (sum_by (arrived_at v) points) (sum_by old points) (sum_by new points) e
      (sum-agree (accepted_at v) (accepted_at w) points (λ y its. ap (users_that of) (others y (far-from none y its)).accepted))
      (sum-agree (arrived_at v) (arrived_at w) points (λ y its. ap (λ (zs : List Arrival). users_that of (texts_of zs)) (others y (far-from none y its)).arrived))
      (sum-agree old new points (λ y its. unseen-waits none y its))

  pub one-step : Turn w v x → sum_by (accepted_at w) points ≡ sum_by (arrived_at w) points + sum_by old points → sum_by (accepted_at v) points ≡ sum_by (arrived_at v) points + sum_by new points
  one-step turn e = split (is_listed points x) refl
    where
      split : (b : Bool) → is_listed points x ≡ b → sum_by (accepted_at v) points ≡ sum_by (arrived_at v) points + sum_by new points
      split true its = listed-step its turn e
      split false none = unlisted-step none e
