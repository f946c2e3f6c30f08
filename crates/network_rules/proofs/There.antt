-- A step at a node of a network that loses nothing: what waits at another node falls by what newly came from it.
use Rattle.pair_rules.proofs.Basics.{◌≡◌, ◌≢◌, ◌⊎◌, ◌<◌, ℕ, ◌+◌, zero, suc, Bool, true, false, List, [], ◌∷◌, ◌++◌, length, Some, refl, ap, sym, subst, ◌∙◌, arith, slice_get, drop, ⊎_elim, cases_eq}
use Rattle.pair_rules.proofs.Definitions.{Message, Configuration, Queue, queue_at, whole, may_follow, may_open_at, Happening, CameUp, FrameCame, Submitted}
use Rattle.exchange_rules.specs.State.{WentDown, Ticked, Activated, Deactivated, Released, TitleAdded, TitleSet, TitleRemoved}
use Rattle.exchange_rules.specs.First.{Abstract}
use Rattle.exchange_rules.specs.Conserving.{users_that}
use Rattle.exchange_rules.specs.Exchange.{after}
use Rattle.exchange_rules.specs.Receiving.{brought, is_beginning, received}
use Rattle.exchange_rules.proofs.Received.{received-counted}
use Rattle.network_rules.specs.Networks.{NetworkState, Place, Step, end_of}
use Rattle.network_rules.specs.Totals.{IsJoined, received_there}
use Rattle.network_rules.proofs.Ahead.{drop-none}
use Rattle.network_rules.proofs.AtState.{follows-empty, may-open-empty, there_of}
use Rattle.network_rules.proofs.Joined.{HasOther, end_at, ends-are, has-other, other-back, other-inside}
use Rattle.network_rules.proofs.Reached.{Begins, IsSteadyNode, Kept, reached, settings-kept}
use Rattle.network_rules.proofs.Texts.{same-some}
use Rattle.network_rules.proofs.Turns.{IsPlain, MayOpenThere, SameBooks}

pub drop-first : (ms : List Message) (n : ℕ) (m : Message) → slice_get ms n ≡ Some m → drop n ms ≡ m ∷ drop (n + 1) ms
drop-first [] zero m e = absurd cc
drop-first [] (suc n) m e = absurd cc
drop-first (k ∷ ms) zero m e = ap (λ (x : Message). x ∷ ms) (same-some k m e)
drop-first (k ∷ ms) (suc n) m e = drop-first ms n m e ∙ ap (λ (i : ℕ). m ∷ drop i (k ∷ ms)) (one-and n)
  where
    one-and : (n : ℕ) → suc (n + 1) ≡ suc n + 1
    one-and n = omega arith

module _ (of : Message → Bool) (settings : (point : ℕ) → Configuration) (points : List ℕ) (h : IsJoined settings points) (start : Begins settings points) (done : List Step) (step : Step)
    (before : Kept settings points h start (reached settings points h start done)) (later : Kept settings points h start (reached settings points h start (done ++ step ∷ [])))
    (others : (point : ℕ) → point ≢ step.point → SameBooks ((reached settings points h start done).node point) ((reached settings points h start (done ++ step ∷ [])).node point)) where
  abbrev w : NetworkState
  w = reached settings points h start done

  abbrev v : NetworkState
  v = reached settings points h start (done ++ step ∷ [])

  abbrev x : ℕ
  x = step.point

  abbrev a : Abstract
  a = (w.node x).exchange

  abbrev tw : (point link : ℕ) → ℕ
  tw = there_of settings points h start done before

  abbrev tv : (point link : ℕ) → ℕ
  tv = there_of settings points h start (done ++ step ∷ []) later

  abbrev queue_of_link : (point link : ℕ) → Queue
  queue_of_link point link = queue_at (w.node point).exchange.node.queues link

  -- ---- what was received on the links of the node

  abbrev pub Same : (link : ℕ) → Type 0
  Same link = (queue_at (v.node x).exchange.node.queues link).received ≡ (queue_at a.node.queues link).received

  plus-none : (n k : ℕ) → k ≡ 0 → n + k ≡ n
  plus-none n k e = omega (arith, e)

  pub counted : (what : Happening) (link : ℕ) → IsSteadyNode a → (v.node x).exchange ≡ after whole what a → is_beginning what link ≡ false → brought what a link ≡ 0 → Same link
  counted what link steady e begins none =
      ap (λ (b : Abstract). received b.node link) e ∙ received-counted what a link steady.places begins ∙ plus-none (received a.node link) (brought what a link) none

  pub plain-same : (what : Happening) (link : ℕ) → IsPlain what → IsSteadyNode a → (v.node x).exchange ≡ after whole what a → Same link
  plain-same (WentDown k) link plain steady e = counted (WentDown k) link steady e refl refl
  plain-same Ticked link plain steady e = counted Ticked link steady e refl refl
  plain-same (Activated k emergency) link plain steady e = counted (Activated k emergency) link steady e refl refl
  plain-same (Deactivated k) link plain steady e = counted (Deactivated k) link steady e refl refl
  plain-same (Released k) link plain steady e = counted (Released k) link steady e refl refl
  plain-same (TitleAdded row is_memory_refused) link plain steady e = counted (TitleAdded row is_memory_refused) link steady e refl refl
  plain-same (TitleSet row is_memory_refused) link plain steady e = counted (TitleSet row is_memory_refused) link steady e refl refl
  plain-same (TitleRemoved key digits) link plain steady e = counted (TitleRemoved key digits) link steady e refl refl
  plain-same (CameUp k) link plain steady e = absurd plain
  plain-same (FrameCame k text) link plain steady e = absurd plain
  plain-same (Submitted m) link plain steady e = absurd plain

  -- ---- what waits on a link of another node

  module _ (y link : ℕ) (less : link < length (settings y).links) (apart : y ≢ x) where
    abbrev o : HasOther settings points h y link
    o = has-other settings points h y link less

    abbrev pub Unchanged : Type 0
    Unchanged = users_that of (drop (tw y link) (queue_of_link y link).all) ≡ users_that of (drop (tv y link) (queue_of_link y link).all)

    alike : tv y link ≡ tw y link → Unchanged
    alike e = ap (λ (n : ℕ). users_that of (drop n (queue_of_link y link).all)) (sym e)

    empty : (queue_of_link y link).all ≡ [] → Unchanged
    empty e =
        let none : (n : ℕ) → users_that of (drop n (queue_of_link y link).all) ≡ 0 = λ n. ap (λ (ms : List Message). users_that of (drop n ms)) e ∙ ap (users_that of) (drop-none n) in
        none (tw y link) ∙ sym (none (tv y link))

    -- where the other end of it is elsewhere
    away-same : o.other.point ≢ x → Unchanged
    away-same far = alike (ap (received_there v) o.is ∙ ap (λ (e : Abstract). (queue_at e.node.queues o.other.link).received) (others o.other.point far).exchange ∙ sym (ap (received_there w) o.is))

    -- and where it is at the node
    here-same : o.other.point ≡ x → Same o.other.link → Unchanged
    here-same at e =
        alike (ap (received_there v) o.is ∙ ap (λ (n : ℕ). (queue_at (v.node n).exchange.node.queues o.other.link).received) at ∙ e
        ∙ sym (ap (λ (n : ℕ). (queue_at (w.node n).exchange.node.queues o.other.link).received) at) ∙ sym (ap (received_there w) o.is))

    pub by-place : (o.other.point ≡ x → Same o.other.link ⊎ ((queue_of_link y link).all ≡ [])) → Unchanged
    by-place f = ⊎_elim (λ (at : o.other.point ≡ x). ⊎_elim (λ (e : Same o.other.link). here-same at e) (λ none. empty none) (f at)) away-same (cases_eq o.other.point x)

    -- the other end's other end
    pub back : (k : ℕ) → o.other.point ≡ x → o.other.link ≡ k → end_at settings x k ≡ Some (record { point = y; link = link })
    back k at same = subst (λ (n : ℕ). end_at settings n k ≡ Some (record { point = y; link = link })) at (subst (λ (i : ℕ). end_at settings o.other.point i ≡ Some (record { point = y; link = link })) same (other-back settings points h y link o))

    pub back-inside : (k : ℕ) → o.other.point ≡ x → o.other.link ≡ k → k < length (settings x).links
    back-inside k at same = subst (λ (n : ℕ). k < length (settings n).links) at (subst (λ (i : ℕ). i < length (settings o.other.point).links) same (other-inside settings points h y link o))

    -- a link opened there: nothing stands here
    pub opened-empty : (k : ℕ) → o.other.point ≡ x → o.other.link ≡ k → MayOpenThere w x k ⊎ (may_follow (end_of (w.node x)) k ≡ true) → (queue_of_link y link).all ≡ []
    opened-empty k at same why =
        let inside : k < length (settings x).links = back-inside k at same in
        let its : HasOther settings points h x k = has-other settings points h x k inside in
        let place : its.other ≡ record { point = y; link = link } = same-some its.other (record { point = y; link = link }) (sym its.is ∙ back k at same) in
        subst (λ (p : Place). (queue_of_link p.point p.link).all ≡ []) place
        (⊎_elim
        (λ (may : MayOpenThere w x k).
        (let there : may.there ≡ its.other = same-some may.there its.other (sym may.is ∙ ends-are settings w (settings-kept settings points h start done) x k ∙ its.is) in
        may-open-empty settings points h start done before x k inside (subst (λ (p : Place). may_open_at (end_of (w.node p.point)) p.link ≡ true) there may.may)))
        (λ (follows : may_follow (end_of (w.node x)) k ≡ true). follows-empty settings points h start done before x k inside follows)
        why)
