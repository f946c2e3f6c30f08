-- What one node has counted since its books began: each message that it named as lost; and if it counts no loss, none and
-- no break.
use Rattle.node_moves.proofs.Basics.{◌≡◌, ℕ, zero, suc, ◌+◌, ◌≤◌, List, ◌++◌, length, Some, map, min, refl, ap, sym, subst, ◌∙◌, arith}
use Rattle.node_moves.proofs.Definitions.{Message, Configuration, Parts, Node, WholeQueues, whole}
use Rattle.node_moves.proofs.Grown.{Grown, IsUnraised, same-grown, both-grown, more-grown, unraised-first, unraised-then, raised-not}
use Rattle.node_moves.proofs.Everywhere.{IsKept}
use Rattle.node_moves.proofs.Lossless.{gone-few}
use Rattle.node_moves.specs.Laws.{most}
use Rattle.node_moves.specs.Networks.{NetworkNode, hand_over, happens, hear_data, named_by, state_of}
use Rattle.exchange_rules.proofs.NamedAll.{events-account, takes-flag}
use Rattle.exchange_rules.specs.ChangingOver.{bars}
use Rattle.exchange_rules.specs.Conserving.{gone, gone_by, gone_by_release}
use Rattle.exchange_rules.specs.Exchange.{after, handle_event}
use Rattle.exchange_rules.specs.First.{Abstract}
use Rattle.exchange_rules.specs.GivingUpEvents.{expired_of}
use Rattle.exchange_rules.specs.LawsOfLosses.{AreAccounted, Reasons, counted, ends_a_wait, losses, naming, others_of, reasons_of, waits_ended}
use Rattle.exchange_rules.specs.Sending.{after_take}
use Rattle.exchange_rules.specs.State.{Happening, FrameCame, Submitted, once_more}
use Rattle.signalling_types.specs.declared.cause.Cause.TheVariants.{LostUnconfirmed, NoRoute}
use Rattle.std.proofs.lemmas.List.{length-map, length-append}
use Rattle.std.proofs.lemmas.List.Sums.{count_by-le-length}

-- ---- counts

counted-grown : (n t : ℕ) → Grown t (counted n t)
counted-grown zero t = same-grown refl
counted-grown (suc n) t = both-grown (more-grown t) (counted-grown n (once_more t))

counted-none : (n t : ℕ) → IsUnraised t (counted n t) → n ≡ 0
counted-none zero t h = refl
counted-none (suc n) t h = absurd (raised-not t (unraised-first (more-grown t) (counted-grown n (once_more t)) h))

counted-more : (n k t : ℕ) → min k most ≤ t → min (k + n) most ≤ counted n t
counted-more zero k t h = omega (arith, h)
counted-more (suc n) k t h =
    let next : min (k + 1) most ≤ once_more t = omega (arith, h) in
    let rest : min (k + 1 + n) most ≤ counted n (once_more t) = counted-more n (k + 1) (once_more t) next in
    omega (arith, rest)

-- ---- since a node was so

pub record HasCounted (before : Parts) (x : NetworkNode) : Type 0 where
  pub lost : min (before.messages_lost + length x.named) most ≤ x.node.parts.messages_lost
  pub grown : Grown before.times_lost x.node.parts.times_lost
  pub none_lost : IsUnraised before.times_lost x.node.parts.times_lost → x.node.parts.messages_lost ≡ before.messages_lost
  pub unbroken : IsUnraised before.times_lost x.node.parts.times_lost → x.node.parts.times_broken ≡ before.times_broken

-- an event names as many as it counts
names-lost : (what : Happening) (a : Abstract) → length (reasons_of what a).lost ≡ length (gone what a).lost
names-lost what a =
    let by : List Message = (gone_by what a).lost in
    let at_end : List Message = (gone_by_release a.settings (handle_event whole a.settings what a.node).left).lost in
    length-append (map (naming LostUnconfirmed) by) (map (naming NoRoute) at_end)
    ∙ ap (λ (n : ℕ). n + length (map (naming NoRoute) at_end)) (length-map by (naming LostUnconfirmed))
    ∙ ap (λ (n : ℕ). length by + n) (length-map at_end (naming NoRoute))
    ∙ sym (length-append by at_end)

module _ (before : Parts) where
  parts-counted : (c : Configuration) (what : Happening) (x : NetworkNode) → HasCounted before x → HasCounted before (happens c what x)
  parts-counted c what x h =
      let a : Abstract = state_of c x in
      let r : Reasons = reasons_of what a in
      let k : AreAccounted r (others_of what a) a.node.parts (after whole what a).node.parts = events-account what a in
      let step : Grown x.node.parts.times_lost (happens c what x).node.parts.times_lost = subst (Grown x.node.parts.times_lost) (sym k.times_lost) (counted-grown (losses r) x.node.parts.times_lost) in
      let many : length (x.named ++ named_by c what x) ≡ length x.named + length (gone what a).lost = length-append x.named (named_by c what x) in
      let none : IsUnraised before.times_lost (happens c what x).node.parts.times_lost → losses r ≡ 0 =
      λ u. counted-none (losses r) x.node.parts.times_lost (subst (IsUnraised x.node.parts.times_lost) k.times_lost (unraised-then h.grown step u)) in
      let few : waits_ended (bars a.settings) (expired_of what a) ≤ length (expired_of what a) = count_by-le-length (ends_a_wait (bars a.settings)) (expired_of what a) in
      record {
        lost = subst (λ (n : ℕ). min (before.messages_lost + length (x.named ++ named_by c what x)) most ≤ n) (sym k.messages_lost)
            (let more : min (before.messages_lost + length x.named + length r.lost) most ≤ counted (length r.lost) x.node.parts.messages_lost =
            counted-more (length r.lost) (before.messages_lost + length x.named) x.node.parts.messages_lost h.lost in
            omega (arith, more, many, names-lost what a));
        grown = both-grown h.grown step;
        none_lost = λ u. k.messages_lost ∙ ap (λ (n : ℕ). counted n x.node.parts.messages_lost) (let no : length r.lost ≡ 0 = omega (arith, none u) in no) ∙ h.none_lost (unraised-first h.grown step u);
        unbroken = λ u. k.times_broken ∙ ap (λ (n : ℕ). counted n x.node.parts.times_broken) (let no : r.breaks ≡ 0 = omega (arith, none u, few, gone-few what a) in no) ∙ h.unbroken (unraised-first h.grown step u);
      }

  -- of a node that counts and names the same
  same-counted : (x y : NetworkNode) → y.node ≡ x.node → y.named ≡ x.named → HasCounted before x → HasCounted before y
  same-counted x y e f h = record {
    lost =
        subst (λ (ms : List Message). min (before.messages_lost + length ms) most ≤ y.node.parts.messages_lost) (sym f)
        (subst (λ (n : Node WholeQueues). min (before.messages_lost + length x.named) most ≤ n.parts.messages_lost) (sym e) h.lost);
    grown = subst (λ (n : Node WholeQueues). Grown before.times_lost n.parts.times_lost) (sym e) h.grown;
    none_lost = λ u. ap (λ (n : Node WholeQueues). n.parts.messages_lost) e ∙ h.none_lost (subst (λ (n : Node WholeQueues). IsUnraised before.times_lost n.parts.times_lost) e u);
    unbroken = λ u. ap (λ (n : Node WholeQueues). n.parts.times_broken) e ∙ h.unbroken (subst (λ (n : Node WholeQueues). IsUnraised before.times_lost n.parts.times_lost) e u);
  }

  taken-counted : (c : Configuration) (link : ℕ) (x : NetworkNode) → HasCounted before x → HasCounted before (record x { node = after_take whole c link x.node })
  taken-counted c link x h =
      let t = takes-flag (state_of c x) link in
      record {
        lost = subst (λ (n : ℕ). min (before.messages_lost + length x.named) most ≤ n) (sym t.2) h.lost;
        grown = subst (Grown before.times_lost) (sym t.0) h.grown;
        none_lost = λ u. t.2 ∙ h.none_lost (subst (IsUnraised before.times_lost) t.0 u);
        unbroken = λ u. t.3 ∙ h.unbroken (subst (IsUnraised before.times_lost) t.0 u);
      }

  pub counted-kept : IsKept (λ c x. HasCounted before x)
  counted-kept = record {
    handed = λ c m x h. same-counted (happens c (Submitted m) x) (hand_over c m x) refl refl (parts-counted c (Submitted m) x h);
    heard = λ c link text x inside h. same-counted (happens c (FrameCame link text) x) (hear_data c (Some text) link x) refl refl (parts-counted c (FrameCame link text) x h);
    happened = λ c what x h. parts-counted c what x h;
    taken = λ c link x h. taken-counted c link x h;
    flown = λ c x y s h. same-counted x y s.node s.named h;
  }

-- ---- a node counts no more breaks, and no more messages that it named, than possible losses

both-more : {t u : ℕ} → Grown t u → Grown (once_more t) (once_more u)
both-more {t} {u} e = record { capped = omega (arith, e.capped) }

counted-fewer : (n m : ℕ) {t u : ℕ} → n ≤ m → Grown t u → Grown (counted n t) (counted m u)
counted-fewer zero m {t} {u} l e = both-grown e (counted-grown m u)
counted-fewer (suc n) zero l e = absurd (omega (arith, l))
counted-fewer (suc n) (suc m) l e = counted-fewer n m (omega (arith, l)) (both-more e)

pub record IsCapped (x : NetworkNode) : Type 0 where
  pub breaks : Grown x.node.parts.times_broken x.node.parts.times_lost
  pub messages : Grown x.node.parts.messages_lost x.node.parts.times_lost

pub capped-node : (x y : NetworkNode) → y.node ≡ x.node → IsCapped x → IsCapped y
capped-node x y e h = record {
  breaks = subst (λ (n : Node WholeQueues). Grown n.parts.times_broken n.parts.times_lost) (sym e) h.breaks;
  messages = subst (λ (n : Node WholeQueues). Grown n.parts.messages_lost n.parts.times_lost) (sym e) h.messages;
}

happens-capped : (c : Configuration) (what : Happening) (x : NetworkNode) → IsCapped x → IsCapped (happens c what x)
happens-capped c what x h =
    let a : Abstract = state_of c x in
    let r : Reasons = reasons_of what a in
    let k : AreAccounted r (others_of what a) a.node.parts (after whole what a).node.parts = events-account what a in
    let few : waits_ended (bars a.settings) (expired_of what a) ≤ length (expired_of what a) = count_by-le-length (ends_a_wait (bars a.settings)) (expired_of what a) in
    record {
      breaks =
          subst (λ (n : ℕ). Grown n (happens c what x).node.parts.times_lost) (sym k.times_broken)
          (subst (Grown (counted r.breaks x.node.parts.times_broken)) (sym k.times_lost) (counted-fewer r.breaks (losses r) (omega (arith, few, gone-few what a)) h.breaks));
      messages =
          subst (λ (n : ℕ). Grown n (happens c what x).node.parts.times_lost) (sym k.messages_lost)
          (subst (Grown (counted (length r.lost) x.node.parts.messages_lost)) (sym k.times_lost) (counted-fewer (length r.lost) (losses r) (omega arith) h.messages));
    }

pub capped-kept : IsKept (λ c x. IsCapped x)
capped-kept = record {
  handed = λ c m x h. capped-node (happens c (Submitted m) x) (hand_over c m x) refl (happens-capped c (Submitted m) x h);
  heard = λ c link text x inside h. capped-node (happens c (FrameCame link text) x) (hear_data c (Some text) link x) refl (happens-capped c (FrameCame link text) x h);
  happened = λ c what x h. happens-capped c what x h;
  taken = λ c link x h.
      let t = takes-flag (state_of c x) link in
      record {
        breaks = subst (λ (n : ℕ). Grown n (after_take whole c link x.node).parts.times_lost) (sym t.3) (subst (Grown x.node.parts.times_broken) (sym t.0) h.breaks);
        messages = subst (λ (n : ℕ). Grown n (after_take whole c link x.node).parts.times_lost) (sym t.2) (subst (Grown x.node.parts.messages_lost) (sym t.0) h.messages);
      };
  flown = λ c x y s h. capped-node x y s.node h;
}
