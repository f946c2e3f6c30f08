-- The ends of the links of a network, by its settings: where each link leads, and back.
use Rattle.std.proofs.Common.{◌≡◌, ◌≢◌, ◌⊎◌, inl, inr, ◌<◌, ℕ, List, length, Option, Some, None, refl, ap, sym, ◌∙◌, subst, ⊎_elim}
use Rattle.std.proofs.lemmas.Bool.{cases_eq}
use Rattle.std.proofs.lemmas.Option.{slice_get_within}
use Rattle.std.specs.Prelude.{slice_get}
use Rattle.settings.specs.Configuration.{Configuration, LinkEntry}
use Rattle.network_rules.specs.Networks.{Place}
use Rattle.network_rules.specs.Totals.{IsJoined}
use Rattle.network_rules.proofs.Joined.{HasOther, end_at, has-other, other-apart, other-back, other-inside, place_of}

same-place : (a b : Place) → Some a ≡ Some b → a ≡ b
same-place a b e = cc

-- ---- two ends

-- link k of the node at p leads to link j of that at q, and back
pub record AreEnds (settings : (point : ℕ) → Configuration) (p k q j : ℕ) : Type 0 where
  pub apart : q ≢ p
  pub here : k < length (settings p).links
  pub there : j < length (settings q).links
  pub end : end_at settings p k ≡ Some (record { point = q; link = j })
  pub back : end_at settings q j ≡ Some (record { point = p; link = k })

pub turned-ends : (settings : (point : ℕ) → Configuration) (p k q j : ℕ) → AreEnds settings p k q j → AreEnds settings q j p k
turned-ends settings p k q j e = record { apart = λ same. e.apart (sym same); here = e.there; there = e.here; end = e.back; back = e.end }

-- a link that leads somewhere is there
inside : (settings : (point : ℕ) → Configuration) (p k : ℕ) (there : Place) → end_at settings p k ≡ Some there → k < length (settings p).links
inside settings p k there e = by (slice_get (settings p).links k) refl where
  by : (o : Option LinkEntry) → slice_get (settings p).links k ≡ o → k < length (settings p).links
  by (Some l) f = slice_get_within (settings p).links k l f
  by None f = absurd (let no : None ≡ Some there = sym (ap (place_of settings (settings p)) f) ∙ e in cc)

pub ends-of : (settings : (point : ℕ) → Configuration) (points : List ℕ) → IsJoined settings points → (p k q j : ℕ)
    → end_at settings p k ≡ Some (record { point = q; link = j }) → AreEnds settings p k q j
ends-of settings points h p k q j e =
    let less : k < length (settings p).links = inside settings p k (record { point = q; link = j }) e in
    let o : HasOther settings points h p k = has-other settings points h p k less in
    let same : o.other ≡ record { point = q; link = j } = same-place o.other (record { point = q; link = j }) (sym o.is ∙ e) in
    record {
      apart = subst (λ (n : Place). n.point ≢ p) same (other-apart settings points h p k o);
      here = less;
      there = subst (λ (n : Place). n.link < length (settings n.point).links) same (other-inside settings points h p k o);
      end = e;
      back = subst (λ (n : Place). end_at settings n.point n.link ≡ Some (record { point = p; link = k })) same (other-back settings points h p k o);
    }

-- ---- which end of it another one is

pub data Which (p k q j i o : ℕ) : Type 0 where
  is_near : i ≡ p → o ≡ k → Which p k q j i o
  is_far : i ≡ q → o ≡ j → Which p k q j i o
  is_other : (i ≡ p → o ≢ k) → (i ≡ q → o ≢ j) → Which p k q j i o

at-or : (p k i o : ℕ) → ((i ≡ p) × (o ≡ k)) ⊎ (i ≡ p → o ≢ k)
at-or p k i o =
    ⊎_elim
    (λ (e : i ≡ p). ⊎_elim (λ (f : o ≡ k). inl (e, f)) (λ (d : o ≢ k). inr (λ same. d)) (cases_eq o k))
    (λ (d : i ≢ p). inr (λ same. absurd (d same)))
    (cases_eq i p)

pub which : (p k q j i o : ℕ) → Which p k q j i o
which p k q j i o =
    ⊎_elim
    (λ (n : (i ≡ p) × (o ≡ k)). is_near n.0 n.1)
    (λ (d : i ≡ p → o ≢ k).
    ⊎_elim (λ (n : (i ≡ q) × (o ≡ j)). is_far n.0 n.1) (λ (f : i ≡ q → o ≢ j). is_other d f) (at-or q j i o))
    (at-or p k i o)

module _ (settings : (point : ℕ) → Configuration) (p k q j : ℕ) (e : AreEnds settings p k q j) (i o n m : ℕ) (f : AreEnds settings i o n m) where
  abbrev place : ℕ → ℕ → Place
  place a b = record { point = a; link = b }

  same-ends : (a b c d : ℕ) → Some (place a b) ≡ Some (place c d) → (a ≡ c) × (b ≡ d)
  same-ends a b c d same =
      let is : place a b ≡ place c d = same-place (place a b) (place c d) same in
      (ap (λ (x : Place). x.point) is, ap (λ (x : Place). x.link) is)

  -- the other end of the near one is the far one
  pub far-of : i ≡ p → o ≡ k → (n ≡ q) × (m ≡ j)
  far-of a b = same-ends n m q j (sym f.end ∙ ap (λ (x : ℕ). end_at settings x o) a ∙ ap (λ (x : ℕ). end_at settings p x) b ∙ e.end)

  pub near-of : i ≡ q → o ≡ j → (n ≡ p) × (m ≡ k)
  near-of a b = same-ends n m p k (sym f.end ∙ ap (λ (x : ℕ). end_at settings x o) a ∙ ap (λ (x : ℕ). end_at settings q x) b ∙ e.back)

  -- and that of another is another
  pub not-near : (i ≡ q → o ≢ j) → n ≡ p → m ≢ k
  not-near d a b =
      let s : (i ≡ q) × (o ≡ j) = same-ends i o q j (sym f.back ∙ ap (λ (x : ℕ). end_at settings x m) a ∙ ap (λ (x : ℕ). end_at settings p x) b ∙ e.end) in
      d s.0 s.1

  pub not-far : (i ≡ p → o ≢ k) → n ≡ q → m ≢ j
  not-far d a b =
      let s : (i ≡ p) × (o ≡ k) = same-ends i o p k (sym f.back ∙ ap (λ (x : ℕ). end_at settings x m) a ∙ ap (λ (x : ℕ). end_at settings q x) b ∙ e.back) in
      d s.0 s.1
