-- The two ends of a link between the nodes, by their numbers.
use Rattle.std.proofs.Common.{◌≡◌, ◌≢◌, ℕ, true, Some, None, sym, ◌∙◌, subst}
use Rattle.std.specs.Prelude.{slice_get}
use Rattle.settings.specs.Configuration.{Configuration}
use Rattle.exchange_rules.specs.Routing.{set_of}
use Rattle.neighbour_rules.specs.Neighbours.{end_there, leads_elsewhere_by}
use Rattle.neighbour_rules.proofs.Sharing.{AreFacing, near_joint, facing_back}
use Rattle.neighbour_rules.proofs.FarEnds.{AreEnds, LeadsAway, ends-turned, is-line, its-far, leads-away, none-there}

abbrev pub Ends : (c z : Configuration) → AreFacing c z → (k j : ℕ) → Type 0
Ends c z a k j = AreEnds c z a.near_set a.far_set k j

pub turned-ends : (c z : Configuration) (a : AreFacing c z) (k j : ℕ) → Ends c z a k j → Ends z c (facing_back c z a) j k
turned-ends c z a k j e = ends-turned c z a.near_set a.far_set k j e

same-place : (m n : ℕ) → Some m ≡ Some n → m ≡ n
same-place m n e = cc

module _ (c z : Configuration) (a : AreFacing c z) where
  -- as the steps say it
  pub far-end : (k j : ℕ) → Ends c z a k j → end_there c z (slice_get c.links k) ≡ Some j
  far-end k j e = its-far c z (near_joint c z a) k j e

  pub ends-of : (k j : ℕ) → end_there c z (slice_get c.links k) ≡ Some j → Ends c z a k j
  ends-of k j e = is-line c z (near_joint c z a) k j e

  -- a link has one far end
  pub same-far : (k j i : ℕ) → Ends c z a k j → Ends c z a k i → j ≡ i
  same-far k j i e f = same-place j i (sym (far-end k j e) ∙ far-end k i f)

  -- one that leads elsewhere has none
  pub away : (k : ℕ) → leads_elsewhere_by c z (slice_get c.links k) ≡ true → LeadsAway c z (near_joint c z a) k
  away k e = leads-away c z (near_joint c z a) k e

  pub no-far-end : (k : ℕ) → leads_elsewhere_by c z (slice_get c.links k) ≡ true → end_there c z (slice_get c.links k) ≡ None
  no-far-end k e = let w : LeadsAway c z (near_joint c z a) k = away k e in none-there c z (near_joint c z a) k w.here w.apart

  pub not-away : (k j i : ℕ) → Ends c z a k j → leads_elsewhere_by c z (slice_get c.links i) ≡ true → i ≢ k
  not-away k j i e w same = (away i w).apart (subst (λ (n : ℕ). set_of c n ≡ a.near_set) (sym same) e.of_set)

-- and is the far end of one link
pub ends-apart : (c z : Configuration) (a : AreFacing c z) (k j i o : ℕ) → Ends c z a k j → Ends c z a i o → i ≢ k → o ≢ j
ends-apart c z a k j i o e f d same =
    d (same-far z c (facing_back c z a) j i k (subst (λ (n : ℕ). Ends z c (facing_back c z a) n i) same (turned-ends c z a i o f)) (turned-ends c z a k j e))
