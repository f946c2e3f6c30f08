-- A link whose changeover isn't complete, or whose answer is awaited, is down.
use Rattle.exchange_rules.proofs.Basics.{and_parts, ◌≡◌, ◌≢◌, ◌⊎◌, inl, inr, ℕ, Bool, true, false, ◌&&◌, not, List, refl, ap, sym, subst, ◌∙◌, ⊎_elim, cases_eq}
use Rattle.exchange_rules.proofs.Definitions.{Configuration, FailureReason, Link, after_failure, is_down, opened_by, period_of, stepped, Standing, no_changeover, may_restart, with_order, Node, with_parts, link_at, links_with, down, changeover_of, with_changeover, fail_link, WholeQueues}
use Rattle.exchange_rules.proofs.Asked.{any}
use Rattle.exchange_rules.proofs.NamingFailures.{alike-stays, gone-down, others}
use Rattle.exchange_rules.proofs.Serving.{goes-up}
use Rattle.exchange_rules.proofs.Steps.{IsOfSteps, IsOfRules}
use Rattle.exchange_rules.proofs.Rules.{rules-of}
use Rattle.exchange_rules.proofs.WillEnding.{no-way, its-standing, other-standing}

abbrev pub Pending : Standing → Type 0
Pending s = (s.incomplete ≡ true) ⊎ (s.awaited ≡ true)

pub record Rested (n : Node WholeQueues) : Type 0 where
  pub each : (link : ℕ) → Pending (changeover_of n.parts link) → down n.parts link ≡ true

-- it stays so
pub record Rests (n m : Node WholeQueues) : Type 0 where
  pub stay : Rested n → Rested m

-- where the changeovers stay, and each link that was down is so
rests-by : (n m : Node WholeQueues) → m.parts.changeovers ≡ n.parts.changeovers
    → ((link : ℕ) → Pending (changeover_of n.parts link) → down n.parts link ≡ true → down m.parts link ≡ true) → Rests n m
rests-by n m same downs = record {
  stay = λ h. record {
    each = λ link p. (let before : Pending (changeover_of n.parts link) =
        subst (λ (all : List Standing). Pending (changeover_of (record n.parts { changeovers = all }) link)) same p in
        downs link before (h.each link before));
  };
}

same-rests : (n m : Node WholeQueues) → m.parts.changeovers ≡ n.parts.changeovers → m.parts.links ≡ n.parts.links → Rests n m
same-rests n m same e = rests-by n m same (λ link p f. ap (λ (links : List Link). down (record n.parts { links = links }) link) e ∙ f)

-- a link is as down or up as it was
alike-rests : (link : ℕ) (x : Link) (n m : Node WholeQueues) → m.parts.changeovers ≡ n.parts.changeovers → m.parts.links ≡ links_with n.parts link x
    → is_down x.alignment ≡ down n.parts link → Rests n m
alike-rests link x n m same e is = rests-by n m same (λ l p f. alike-stays link x n m e is l ∙ f)

-- a link goes down
gone-rests : (link : ℕ) (x : Link) (n m : Node WholeQueues) → m.parts.changeovers ≡ n.parts.changeovers → m.parts.links ≡ links_with n.parts link x
    → is_down x.alignment ≡ true → Rests n m
gone-rests link x n m same e gone = rests-by n m same (λ l p f. by l f (cases_eq l link))
  where
    by : (l : ℕ) → down n.parts l ≡ true → (l ≡ link) ⊎ (l ≢ link) → down m.parts l ≡ true
    by l f (inl is) = subst (λ (k : ℕ). down m.parts k ≡ true) (sym is) (gone-down link x n m e gone)
    by l f (inr apart) = others link x n m e l apart ∙ f

-- one moves of which nothing is pending
free-rests : (link : ℕ) (x : Link) (n m : Node WholeQueues) → m.parts.changeovers ≡ n.parts.changeovers → m.parts.links ≡ links_with n.parts link x
    → (Pending (changeover_of n.parts link) → down n.parts link ≡ true → ⊥) → Rests n m
free-rests link x n m same e free = rests-by n m same (λ l p f. by l p f (cases_eq l link))
  where
    by : (l : ℕ) → Pending (changeover_of n.parts l) → down n.parts l ≡ true → (l ≡ link) ⊎ (l ≢ link) → down m.parts l ≡ true
    by l p f (inl is) =
        absurd (free (subst (λ (k : ℕ). Pending (changeover_of n.parts k)) is p) (subst (λ (k : ℕ). down n.parts k ≡ true) is f))
    by l p f (inr apart) = others link x n m e l apart ∙ f

-- the changeover of a link is another, and where something is pending of it something was
set-rests : (link : ℕ) (s : Standing) (n m : Node WholeQueues) → m.parts.changeovers ≡ (with_changeover link s n.parts).changeovers → m.parts.links ≡ n.parts.links
    → (Pending s → Pending (changeover_of n.parts link)) → Rests n m
set-rests link s n m same e pending = record { stay = λ h. record { each = λ l p. downs l (by l (moved l p) (cases_eq l link)) h } }
  where
    moved : (l : ℕ) → Pending (changeover_of m.parts l) → Pending (changeover_of (with_changeover link s n.parts) l)
    moved l p = subst (λ (all : List Standing). Pending (changeover_of (record n.parts { changeovers = all }) l)) same p

    none : Pending no_changeover → Pending (changeover_of n.parts link)
    none (inl e) = absurd cc
    none (inr e) = absurd cc

    by : (l : ℕ) → Pending (changeover_of (with_changeover link s n.parts) l) → (l ≡ link) ⊎ (l ≢ link) → Pending (changeover_of n.parts l)
    by l p (inl is) =
        subst (λ (k : ℕ). Pending (changeover_of n.parts k)) (sym is)
        (⊎_elim
        (λ (it : changeover_of (with_changeover link s n.parts) link ≡ s). pending (subst Pending it (subst (λ (k : ℕ). Pending (changeover_of (with_changeover link s n.parts) k)) is p)))
        (λ (it : changeover_of (with_changeover link s n.parts) link ≡ no_changeover). none (subst Pending it (subst (λ (k : ℕ). Pending (changeover_of (with_changeover link s n.parts) k)) is p)))
        (its-standing link s n.parts))
    by l p (inr apart) = subst Pending (other-standing n.parts.changeovers link l s n.parts apart) p

    downs : (l : ℕ) → Pending (changeover_of n.parts l) → Rested n → down m.parts l ≡ true
    downs l p h = ap (λ (links : List Link). down (record n.parts { links = links }) l) e ∙ h.each l p

-- a link fails, and its changeover begins
begun-rests : (link : ℕ) (s : Standing) (why : FailureReason) (n : Node WholeQueues) → Rests n (with_parts n (with_changeover link s (fail_link link why n.parts)))
begun-rests link s why n = record { stay = λ h. record { each = λ l p. by h l p (cases_eq l link) } }
  where
    gone : Node WholeQueues
    gone = with_parts n (fail_link link why n.parts)

    by : Rested n → (l : ℕ) → Pending (changeover_of (with_changeover link s (fail_link link why n.parts)) l) → (l ≡ link) ⊎ (l ≢ link) → down gone.parts l ≡ true
    by h l p (inl is) =
        subst (λ (k : ℕ). down gone.parts k ≡ true) (sym is) (gone-down link (after_failure (link_at n.parts link)) n gone refl refl)
    by h l p (inr apart) =
        others link (after_failure (link_at n.parts link)) n gone refl l apart
        ∙ h.each l (subst Pending (other-standing n.parts.changeovers link l s gone.parts apart) p)

-- where nothing is pending of a link that may open
none-pending : (s : Standing) → may_restart s ≡ true → Pending s → ⊥
none-pending s e p = by s.incomplete s.awaited e p
  where
    by : (incomplete awaited : Bool) → (not incomplete && not awaited) ≡ true → (incomplete ≡ true) ⊎ (awaited ≡ true) → ⊥
    by true awaited f q = cc
    by false true f q = cc
    by false false f (inl q) = cc
    by false false f (inr q) = cc

awaited-before : (s t : Standing) → s.incomplete ≡ false → (s.awaited ≡ true → t.awaited ≡ true) → Pending s → Pending t
awaited-before s t done waits (inl e) = no-way s.incomplete done e
awaited-before s t done waits (inr e) = inr (waits e)

rests-steps : (c : Configuration) → IsOfSteps c any any Rests
rests-steps c = record {
  none = λ n. same-rests n n refl refl;
  both = λ n m o e f. record { stay = λ h. f.stay (e.stay h) };
  routed = λ link m n e. same-rests n _ refl refl;
  declared = λ link other code n e f. same-rests n _ refl refl;
  tested = λ link point test n e f. same-rests n _ refl refl;
  probed = λ link n e. same-rests n _ refl refl;
  held = λ m n e. same-rests n _ refl refl;
  taken_out = λ n. same-rests n _ refl refl;
  noted = λ notice n e. same-rests n _ refl refl;
  lost = λ n. same-rests n _ refl refl;
  counted = λ messages broken n. same-rests n _ refl refl;
  asked = λ link n e.
      set-rests link (with_order (changeover_of n.parts link)) n _ refl refl (λ p. inl (and_parts (changeover_of n.parts link).incomplete (not (changeover_of n.parts link).awaited) e).0);
  late = λ n. same-rests n _ refl refl;
  timed = λ r n e. same-rests n _ refl refl;
  holding = λ h n e. same-rests n _ refl refl;
  coded = λ set code awaited n. same-rests n _ refl refl;
  rerouted = λ routes n e. same-rests n _ refl refl;
  told = λ t n e. same-rests n _ refl refl;
  titled = λ titles n. same-rests n _ refl refl;
  unequipped = λ counts n e. same-rests n _ refl refl;
  failed = λ link why s n e f. begun-rests link s why n;
  dropped = λ link why n e. gone-rests link (after_failure (link_at n.parts link)) n _ refl refl refl;
  completed = λ link number s n e f. set-rests link s n _ refl refl (λ p. inl e);
  answered = λ link s n e f w. set-rests link s n _ refl refl (awaited-before s (changeover_of n.parts link) f w);
  linked = λ link x n e o. alike-rests link x n _ refl refl (ap is_down e.alignment);
  parted = λ link n e. alike-rests link _ n _ refl refl refl;
  opened = λ link n own there e f. free-rests link (opened_by c (period_of c link n.parts) (link_at n.parts link)) n _ refl refl (λ p d. none-pending (changeover_of n.parts link) f p);
  stepped = λ link input step n own e.
      free-rests link (stepped step (link_at n.parts link)) n _ refl refl
      (λ p d. no-way (down n.parts link) (goes-up (link_at n.parts link).period (link_at n.parts link).alignment input step e) d);
  passed = λ link n e. alike-rests link _ n _ refl refl refl;
  busied = λ link n own e f. alike-rests link _ n _ refl refl refl;
  resumed = λ link n own e f. alike-rests link _ n _ refl refl refl;
  accepted = λ link d confirmed n own e f. same-rests n _ refl refl;
  sent = λ link next n own e. alike-rests link _ n _ refl refl refl;
}

pub rests-rules : (c : Configuration) → IsOfRules c any any Rests
rests-rules c = rules-of (rests-steps c)

-- the timers alone change
pub timers-rest : (n m : Node WholeQueues) → m.parts.changeovers ≡ n.parts.changeovers → m.parts.links ≡ n.parts.links → Rests n m
timers-rest = same-rests
