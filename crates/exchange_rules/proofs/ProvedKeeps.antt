-- Rules that let no link go on.
use Rattle.exchange_rules.proofs.Basics.{◌≡◌, ◌≢◌, ◌⊎◌, inl, inr, ◌<◌, ◌≤◌, ℕ, List, length, ap, sym, ◌∙◌, arith, cases_eq, cases_lt, get_or_past, get_or-set_same, get_or-set_other, length-set}
use Rattle.exchange_rules.proofs.Definitions.{Link, down_link, Node, link_at, links_with, WholeQueues}
use Rattle.link.specs.declared.alignment.Alignment.TheVariants.{Down}
use Rattle.exchange_rules.specs.Aligning.{state_of}
use Rattle.exchange_rules.proofs.Lists.{alike-at}
use Rattle.exchange_rules.proofs.ProvedFirst.{Climbs, down-climbs}

-- a link is as it was, or down
pub record Keeps (l : ℕ) (n m : Node WholeQueues) : Type 0 where
  pub is : (state_of m.parts l ≡ Down) ⊎ (state_of m.parts l ≡ state_of n.parts l)

pub keeps-climbs : (D : Type 0) (l : ℕ) (n m : Node WholeQueues) → Keeps l n m → Climbs D (state_of n.parts l) (state_of m.parts l)
keeps-climbs D l n m k = by k.is
  where
    by : (state_of m.parts l ≡ Down) ⊎ (state_of m.parts l ≡ state_of n.parts l) → Climbs D (state_of n.parts l) (state_of m.parts l)
    by (inl e) = down-climbs D _ _ e
    by (inr e) = record {
      begins = λ h. sym e ∙ h;
      aligned = λ h. sym e ∙ h;
      proving = λ ready h. sym e ∙ h;
      ready = λ h. inl (sym e ∙ h);
      serves = λ h. inl (sym e ∙ h);
    }

module _ (l : ℕ) where
  pub same-keeps : (n m : Node WholeQueues) → state_of m.parts l ≡ state_of n.parts l → Keeps l n m
  same-keeps n m e = record { is = inr e }

  pub both-keep : (n m o : Node WholeQueues) → Keeps l n m → Keeps l m o → Keeps l n o
  both-keep n m o e f = record { is = by e.is f.is }
    where
      by : (state_of m.parts l ≡ Down) ⊎ (state_of m.parts l ≡ state_of n.parts l) → (state_of o.parts l ≡ Down) ⊎ (state_of o.parts l ≡ state_of m.parts l)
          → (state_of o.parts l ≡ Down) ⊎ (state_of o.parts l ≡ state_of n.parts l)
      by g (inl h) = inl h
      by (inl g) (inr h) = inl (h ∙ g)
      by (inr g) (inr h) = inr (h ∙ g)

  -- a link that is down now, whichever it is
  pub down-keeps : (link : ℕ) (x : Link) (n m : Node WholeQueues) → m.parts.links ≡ links_with n.parts link x → x.alignment ≡ Down → Keeps l n m
  down-keeps link x n m e down = record { is = by (cases_eq l link) }
    where
      its : state_of m.parts l ≡ (link_at (record n.parts { links = links_with n.parts link x }) l).alignment
      its = ap (λ (links : List Link). (link_at (record n.parts { links = links }) l).alignment) e

      here : (link < length n.parts.links) ⊎ (length n.parts.links ≤ link) → (link_at (record n.parts { links = links_with n.parts link x }) link).alignment ≡ Down
      here (inl there) = ap (λ (y : Link). y.alignment) (get_or-set_same n.parts.links link x down_link there) ∙ down
      here (inr past) = ap (λ (y : Link). y.alignment) (get_or_past (links_with n.parts link x) link down_link (omega (arith, past, length-set n.parts.links link x)))

      by : (l ≡ link) ⊎ (l ≢ link) → (state_of m.parts l ≡ Down) ⊎ (state_of m.parts l ≡ state_of n.parts l)
      by (inl same) =
          inl (its ∙ ap (λ (k : ℕ). (link_at (record n.parts { links = links_with n.parts link x }) k).alignment) same ∙ here (cases_lt link (length n.parts.links)))
      by (inr apart) = inr (its ∙ ap (λ (y : Link). y.alignment) (get_or-set_other n.parts.links link l x down_link apart))

  pub alike-keeps : (link : ℕ) (x : Link) (n m : Node WholeQueues) → m.parts.links ≡ links_with n.parts link x → x.alignment ≡ (link_at n.parts link).alignment → Keeps l n m
  alike-keeps link x n m e same = same-keeps n m
      (ap (λ (links : List Link). (link_at (record n.parts { links = links }) l).alignment) e ∙ alike-at (λ (y : Link). y.alignment) n.parts.links link l x down_link same)

  pub other-keeps : (link : ℕ) (x : Link) (n m : Node WholeQueues) → m.parts.links ≡ links_with n.parts link x → link ≢ l → Keeps l n m
  other-keeps link x n m e apart = same-keeps n m
      (ap (λ (links : List Link). (link_at (record n.parts { links = links }) l).alignment) e
      ∙ ap (λ (y : Link). y.alignment) (get_or-set_other n.parts.links link l x down_link (λ same. apart (sym same))))
