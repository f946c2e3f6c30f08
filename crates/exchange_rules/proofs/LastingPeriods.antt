-- The settings say whether links have the fixed period: it stays so whatever happens.
use Rattle.exchange_rules.proofs.Basics.{◌≡◌, ◌≢◌, ℕ, Bool, true, false, length, List, Option, Some, None, inl, refl, ap, sym, subst, ◌∙◌, if◌then◌else◌}
use Rattle.exchange_rules.proofs.Definitions.{Configuration, Asking, is_same_input, Status, links_with, Input, Go, Transition, Period, period_after, effect_in, table, acts_on, is_down, Link, stepped, down_link, after_failure, period_of, Parts, Node, link_at, WholeQueues, first_state, after_each, opened_by}
use Rattle.m2pa_codec.specs.declared.status.LinkStatus.TheVariants.{Alignment as AlignmentStatus, ProvingEmergency}
use Rattle.node_links.specs.NodeLinks.{link_in}
use Rattle.link.specs.declared.period.Period.TheVariants.{Fixed, Normal, Hurried, Emergency}
use Rattle.link.proofs.Periods.{period_in, same-period}
use Rattle.exchange_rules.specs.Opening.{is_urgent, period_by}
use Rattle.exchange_rules.specs.LawsOfPeriods.{periods_are_fixed_without_emergency, periods_are_chosen_with_emergency}
use Rattle.exchange_rules.proofs.Lists.{each-set, each-replicate}
use Rattle.exchange_rules.proofs.Serving.{goes-up}
use Rattle.exchange_rules.proofs.Steps.{IsOfSteps, MayBeOut, WaitsAs}
use Rattle.exchange_rules.proofs.Asked.{any, IsOfAll, all-of, asked-all}

-- what stays so of a link by itself, whatever it does
pub record IsLasting (c : Configuration) (P : Link → Type 0) : Type 0 where
  pub failed : (x : Link) → P x → P (after_failure x)
  pub alike : (x y : Link) → y.alignment ≡ x.alignment → y.period ≡ x.period → MayBeOut c x y → WaitsAs x.waiting y.waiting → P x → P y
  pub opened : (p : Parts) (link : ℕ) (x : Link) → P (opened_by c (period_of c link p) x)
  pub stepped : (x : Link) (input : Input) (step : Transition) → acts_on x input ≡ Go step → P x → P (stepped step x)

module _ (c : Configuration) (P : Link → Type 0) (s : IsLasting c P) where
  -- it holds of all links
  abbrev Of : Node WholeQueues → Type 0
  Of n = (link : ℕ) → P (link_at n.parts link)

  record Lasts (n m : Node WholeQueues) : Type 0 where
    pub stay : Of n → Of m

  same : (n m : Node WholeQueues) → m.parts.links ≡ n.parts.links → Lasts n m
  same n m e = record { stay = λ h link. subst (λ (links : List Link). P (link_in links link)) (sym e) (h link) }

  -- one link changes
  set : (link : ℕ) (x : Link) (n m : Node WholeQueues) → m.parts.links ≡ links_with n.parts link x → (P (link_at n.parts link) → P x) → Lasts n m
  set link x n m e f = record {
    stay = λ h other. subst (λ (links : List Link). P (link_in links other)) (sym e) (each-set P n.parts.links link other x down_link h (f (h link)));
  }

  lasts-steps : IsOfSteps c any any Lasts
  lasts-steps = record {
    none = λ n. same n n refl;
    both = λ n m o e f. record { stay = λ h. f.stay (e.stay h) };
    routed = λ link m n e. same n _ refl;
    declared = λ link other code n e f. same n _ refl;
    tested = λ link point test n e f. same n _ refl;
    probed = λ link n e. same n _ refl;
    held = λ m n e. same n _ refl;
    taken_out = λ n. same n _ refl;
    noted = λ notice n e. same n _ refl;
    lost = λ n. same n _ refl;
    counted = λ messages broken n. same n _ refl;
    asked = λ link n e. same n _ refl;
    late = λ n. same n _ refl;
    timed = λ r n e. same n _ refl;
    holding = λ h n e. same n _ refl;
    coded = λ set code awaited n. same n _ refl;
    rerouted = λ routes n e. same n _ refl;
    told = λ t n e. same n _ refl;
    titled = λ rows n. same n _ refl;
    unequipped = λ counts n e. same n _ refl;
    failed = λ link why st n e f. set link (after_failure (link_at n.parts link)) n _ refl (s.failed (link_at n.parts link));
    dropped = λ link why n e. set link (after_failure (link_at n.parts link)) n _ refl (s.failed (link_at n.parts link));
    completed = λ link number st n e f. same n _ refl;
    answered = λ link st n e f w. same n _ refl;
    linked = λ link x n e o. set link x n _ refl (s.alike (link_at n.parts link) x e.alignment e.period o e.waits);
    parted = λ link n e. set link (record (link_at n.parts link) { association = false }) n _ refl (s.alike (link_at n.parts link) _ refl refl (λ out. inl out) (inl refl));
    opened = λ link n own there e f. set link (opened_by c (period_of c link n.parts) (link_at n.parts link)) n _ refl (λ h. s.opened n.parts link (link_at n.parts link));
    stepped = λ link input step n own e. set link (stepped step (link_at n.parts link)) n _ refl (s.stepped (link_at n.parts link) input step e);
    passed = λ link n e. set link (record (link_at n.parts link) { test_failed = false; untested = false }) n _ refl (s.alike (link_at n.parts link) _ refl refl (λ out. inl out) (inl refl));
    busied = λ link n own e f. set link (record (link_at n.parts link) { peer_busy = true }) n _ refl (s.alike (link_at n.parts link) _ refl refl (λ out. inl out) (inl refl));
    resumed = λ link n own e f. set link (record (link_at n.parts link) { peer_busy = false }) n _ refl (s.alike (link_at n.parts link) _ refl refl (λ out. inl out) (inl refl));
    accepted = λ link d confirmed n own e f. same n _ refl;
    sent = λ link next n own e. set link (record (link_at n.parts link) { acknowledgement_owed = false }) n _ refl (s.alike (link_at n.parts link) _ refl refl (λ out. inl out) (inl refl));
  }

  lasts-all : IsOfAll c Lasts
  lasts-all = all-of lasts-steps (λ n. same n _ refl) (λ n. same n _ refl)

  -- so it holds in each state, if it holds of a link that has never been up
  pub in-each : (asked : List Asking) → P down_link → Of (after_each asked (first_state c)).node
  in-each asked first = (asked-all lasts-all asked (first_state c) refl).stay (λ link. each-replicate P (length c.links) link down_link first)

-- ---- the period of a step

step-period : (x : Link) (input : Input) (step : Transition) → acts_on x input ≡ Go step → step.period ≡ period_after x.period input
step-period x input step e =
    sym (ap (period_in (period_after x.period input)) e) ∙ same-period (period_after x.period input) x.alignment (effect_in (table x.period) x.alignment input)

fixed-after : (period : Period) (input : Input) → period ≡ Fixed → period_after period input ≡ Fixed
fixed-after Fixed input e = refl
fixed-after Normal input e = absurd (let no : Normal ≡ Fixed = e in cc)
fixed-after Hurried input e = absurd (let no : Hurried ≡ Fixed = e in cc)
fixed-after Emergency input e = absurd (let no : Emergency ≡ Fixed = e in cc)

other-after : (period : Period) (input : Input) → period ≢ Fixed → period_after period input ≢ Fixed
other-after Fixed input e f = e refl
other-after Emergency input e f = cc
other-after Normal input e f = by (is_same_input input (Status ProvingEmergency)) f
  where
    by : (b : Bool) → (if b then Hurried else Normal) ≡ Fixed → ⊥
    by true g = cc
    by false g = cc
other-after Hurried input e f = by (is_same_input input (Status AlignmentStatus)) f
  where
    by : (b : Bool) → (if b then Normal else Hurried) ≡ Fixed → ⊥
    by true g = cc
    by false g = cc

-- ---- without emergency proving, and with it

fixed-lasting : (c : Configuration) → c.timers.l4e ≡ None → IsLasting c (λ (x : Link). x.period ≡ Fixed)
fixed-lasting c none = record {
  failed = λ x h. h;
  alike = λ x y e f o w h. f ∙ h;
  opened = λ p link x. ap (λ (l4e : Option ℕ). period_by l4e (is_urgent c link p)) none;
  stepped = λ x input step e h. step-period x input step e ∙ fixed-after x.period input h;
}

pub fixed-without : periods_are_fixed_without_emergency
fixed-without c asked link none = in-each c (λ (x : Link). x.period ≡ Fixed) (fixed-lasting c none) asked refl link

abbrev IsChosen : Link → Type 0
IsChosen x = is_down x.alignment ≡ false → x.period ≢ Fixed

chosen-at-first : (ticks : ℕ) (urgent : Bool) → period_by (Some ticks) urgent ≢ Fixed
chosen-at-first ticks true e = cc
chosen-at-first ticks false e = cc

chosen-lasting : (c : Configuration) (ticks : ℕ) → c.timers.l4e ≡ Some ticks → IsLasting c IsChosen
chosen-lasting c ticks some = record {
  failed = λ x h up. absurd cc;
  alike = λ x y e f o w h up is. h (ap is_down (sym e) ∙ up) (sym f ∙ is);
  opened = λ p link x up is. chosen-at-first ticks (is_urgent c link p) (sym (ap (λ (l4e : Option ℕ). period_by l4e (is_urgent c link p)) some) ∙ is);
  stepped = λ x input step e h up is.
      other-after x.period input (h (goes-up x.period x.alignment input step e)) (sym (step-period x input step e) ∙ is);
}

pub chosen-with : periods_are_chosen_with_emergency
chosen-with c asked link ticks some = in-each c IsChosen (chosen-lasting c ticks some) asked (λ up. absurd cc) link
