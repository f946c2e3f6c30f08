-- What it is that links that go down are named as failed, and those alone: of what changes no link, of what changes
-- one, and of one after another.
use Rattle.exchange_rules.proofs.Basics.{◌≡◌, ◌≢◌, ◌<◌, ◌≤◌, ◌⊎◌, inl, inr, ℕ, Bool, true, false, List, [], ◌∷◌, ◌++◌, length, refl, ap, sym, ◌∙◌, subst, arith, ⊎_elim, cases_eq, cases_lt, get_or_past, get_or-set_same, get_or-set_other, length-set, count_by}
use Rattle.exchange_rules.proofs.Definitions.{Period, Notice, note, noted_all, FailureReason, Input, Go, Transition, action_at, Alignment, state_number, Link, down_link, is_down, Node, link_at, links_with, down, WholeQueues}
use Rattle.std.specs.Prelude.{Contains}
use Rattle.std.proofs.lemmas.List.Elements.{Contains-append_left, Contains-append_right, Contains-append_cases, Contains-push_cases}
use Rattle.link.specs.declared.alignment.Alignment.TheVariants.{Down, NotAligned, Aligned, Proving, AlignedReady, InService}
use Rattle.signalling_types.specs.declared.notice.Notice.TheVariants as notices
use Rattle.signalling_types.specs.declared.notice.FailureReason.TheVariants as reasons
use Rattle.exchange_rules.proofs.NamedOnce.{named-in, count-joined, at-most-one}
use Rattle.exchange_rules.specs.LawsOfCauses.{says_failed}
use Rattle.exchange_rules.proofs.Lists.{alike-at}
use Rattle.exchange_rules.proofs.Naming.{named-append}
use Rattle.exchange_rules.proofs.ProvedFirst.{kind_of, leads, each-leads}
use Rattle.exchange_rules.proofs.Steps.{Deed, LinkOpens, LinkFails, is_failure}
use Rattle.exchange_rules.proofs.WillEnding.{no-way}

-- each link that goes down is named as failed, and each that is named may fail for that reason, and goes down; unless
-- it opens meanwhile
pub record Names (May : Deed → Type 0) (n m : Node WholeQueues) : Type 0 where
  pub made : List Notice
  pub noted : m.parts.notices ≡ noted_all made n.parts.notices
  pub causes : (link : ℕ) (why : FailureReason) → Contains made (notices.Failed link why) → May (LinkFails link why)
  pub ups : (link : ℕ) (why : FailureReason) → Contains made (notices.Failed link why) → (down n.parts link ≡ false) ⊎ May (LinkOpens link)
  pub downs : (link : ℕ) (why : FailureReason) → Contains made (notices.Failed link why) → (down m.parts link ≡ true) ⊎ May (LinkOpens link)
  pub opens : (link : ℕ) → down n.parts link ≡ true → down m.parts link ≡ false → May (LinkOpens link)
  pub named : (link : ℕ) → down n.parts link ≡ false → down m.parts link ≡ true → (why : FailureReason) × Contains made (notices.Failed link why)
  pub once : (link : ℕ) → (count_by (says_failed link) made ≤ 1) ⊎ May (LinkOpens link)

-- what a notice of failure says
abbrev pub deed_of : Notice → Deed
deed_of (notices.Failed link why) = LinkFails link why
deed_of (notices.Lost cause point sls) = LinkFails 0 reasons.Operator
deed_of (notices.Unsent cause point) = LinkFails 0 reasons.Operator
deed_of (notices.Expired timer link) = LinkFails 0 reasons.Operator
deed_of (notices.Unbarred by link) = LinkFails 0 reasons.Operator
deed_of (notices.Refused cause link) = LinkFails 0 reasons.Operator
deed_of (notices.Frame fault link) = LinkFails 0 reasons.Operator
deed_of (notices.Late timer number) = LinkFails 0 reasons.Operator

abbrev pub link_of_notice : Notice → ℕ
link_of_notice (notices.Failed link why) = link
link_of_notice (notices.Lost cause point sls) = 0
link_of_notice (notices.Unsent cause point) = 0
link_of_notice (notices.Expired timer link) = 0
link_of_notice (notices.Unbarred by link) = 0
link_of_notice (notices.Refused cause link) = 0
link_of_notice (notices.Frame fault link) = 0
link_of_notice (notices.Late timer number) = 0

none-in : {X : Type 0} (x : X) → Contains [] x → ⊥
none-in x h = (let lt : h.0 < 0 = h.1 in omega (arith, lt))

pub only : {X : Type 0} (x y : X) → Contains (x ∷ []) y → x ≡ y
only x y h = ⊎_elim (λ (k : Contains [] y). absurd (none-in y k)) (λ (e : x ≡ y). e) (Contains-push_cases [] x y h)

-- ---- no step of an alignment leads down

led-up : (x : Alignment) (kind before : ℕ) → leads kind before (state_number x) ≡ true → is_down x ≡ false
led-up Down kind before e = absurd cc
led-up NotAligned kind before e = refl
led-up Aligned kind before e = refl
led-up (Proving ready) kind before e = refl
led-up AlignedReady kind before e = refl
led-up InService kind before e = refl

pub stepped-up : (period : Period) (a : Alignment) (input : Input) (step : Transition) → action_at period a input ≡ Go step → is_down step.state ≡ false
stepped-up period a input step e = led-up step.state (kind_of input) (state_number a) (each-leads period a input step e)

-- ---- links that go down

-- none does, and none comes up
abbrev pub Stays : (n m : Node WholeQueues) → Type 0
Stays n m = (link : ℕ) → down m.parts link ≡ down n.parts link

module _ (link : ℕ) (x : Link) (n m : Node WholeQueues) (e : m.parts.links ≡ links_with n.parts link x) where
  its : (l : ℕ) → down m.parts l ≡ is_down (link_at (record n.parts { links = links_with n.parts link x }) l).alignment
  its l = ap (λ (links : List Link). is_down (link_at (record n.parts { links = links }) l).alignment) e

  pub others : (l : ℕ) → l ≢ link → down m.parts l ≡ down n.parts l
  others l apart = its l ∙ ap (λ (y : Link). is_down y.alignment) (get_or-set_other n.parts.links link l x down_link apart)

  -- a link with the same alignment
  pub alike-stays : is_down x.alignment ≡ down n.parts link → Stays n m
  alike-stays same l = its l ∙ alike-at (λ (y : Link). is_down y.alignment) n.parts.links link l x down_link same

  -- one that is down now
  pub gone-down : is_down x.alignment ≡ true → down m.parts link ≡ true
  gone-down gone =
      its link
      ∙ ⊎_elim (λ (there : link < length n.parts.links). ap (λ (y : Link). is_down y.alignment) (get_or-set_same n.parts.links link x down_link there) ∙ gone)
      (λ (past : length n.parts.links ≤ link).
      ap (λ (y : Link). is_down y.alignment) (get_or_past (links_with n.parts link x) link down_link (omega (arith, past, length-set n.parts.links link x))))
      (cases_lt link (length n.parts.links))

  -- one that isn't down now
  up-stays : is_down x.alignment ≡ false → (l : ℕ) → down m.parts l ≡ true → down n.parts l ≡ true
  up-stays up l f = by (cases_eq l link)
    where
      here : (link < length n.parts.links) ⊎ (length n.parts.links ≤ link) → down m.parts link ≡ true → down n.parts link ≡ true
      here (inl there) g =
          no-way (is_down x.alignment) up (sym (its link ∙ ap (λ (y : Link). is_down y.alignment) (get_or-set_same n.parts.links link x down_link there)) ∙ g)
      here (inr past) g = ap (λ (y : Link). is_down y.alignment) (get_or_past n.parts.links link down_link past)

      by : (l ≡ link) ⊎ (l ≢ link) → down n.parts l ≡ true
      by (inl same) =
          subst (λ (k : ℕ). down n.parts k ≡ true) (sym same) (here (cases_lt link (length n.parts.links)) (subst (λ (k : ℕ). down m.parts k ≡ true) same f))
      by (inr apart) = sym (others l apart) ∙ f

module _ (May : Deed → Type 0) where
  quiet : (n m : Node WholeQueues) → m.parts.notices ≡ n.parts.notices → Stays n m → Names May n m
  quiet n m e stays = record {
    made = [];
    noted = e;
    causes = λ link why h. absurd (none-in (notices.Failed link why) h);
    ups = λ link why h. absurd (none-in (notices.Failed link why) h);
    downs = λ link why h. absurd (none-in (notices.Failed link why) h);
    opens = λ link was up. no-way (down m.parts link) up (stays link ∙ was);
    named = λ link was gone. no-way (down n.parts link) was (sym (stays link) ∙ gone);
    once = λ link. inl (omega arith);
  }

  pub same : (n m : Node WholeQueues) → m.parts.notices ≡ n.parts.notices → m.parts.links ≡ n.parts.links → Names May n m
  same n m e f = quiet n m e (λ link. ap (λ (links : List Link). down (record n.parts { links = links }) link) f)

  -- a link that is as down or up as it was, and one that opens
  pub alike : (link : ℕ) (x : Link) (n m : Node WholeQueues) → m.parts.notices ≡ n.parts.notices → m.parts.links ≡ links_with n.parts link x
      → is_down x.alignment ≡ down n.parts link → Names May n m
  alike link x n m e f is = quiet n m e (alike-stays link x n m f is)

  pub opening : (link : ℕ) (x : Link) (n m : Node WholeQueues) → m.parts.notices ≡ n.parts.notices → m.parts.links ≡ links_with n.parts link x → is_down x.alignment ≡ false
      → May (LinkOpens link) → Names May n m
  opening link x n m e f is may = record {
    made = [];
    noted = e;
    causes = λ l why h. absurd (none-in (notices.Failed l why) h);
    ups = λ l why h. absurd (none-in (notices.Failed l why) h);
    downs = λ l why h. absurd (none-in (notices.Failed l why) h);
    opens = λ l was now.
        ⊎_elim (λ (same : l ≡ link). subst (λ (k : ℕ). May (LinkOpens k)) (sym same) may)
        (λ (apart : l ≢ link). no-way (down m.parts l) now (others link x n m f l apart ∙ was)) (cases_eq l link);
    named = λ l was gone. no-way (down n.parts l) was (up-stays link x n m f is l gone);
    once = λ l. inl (omega arith);
  }

  -- a notice of another kind
  pub one : (notice : Notice) (n m : Node WholeQueues) → m.parts.notices ≡ (note notice n.parts).notices → m.parts.links ≡ n.parts.links → is_failure notice ≡ false → Names May n m
  one notice n m e f other = record {
    made = notice ∷ [];
    noted = e;
    causes = λ link why h. no-way (is_failure notice) other (ap is_failure (only notice (notices.Failed link why) h));
    ups = λ link why h. no-way (is_failure notice) other (ap is_failure (only notice (notices.Failed link why) h));
    downs = λ link why h. no-way (is_failure notice) other (ap is_failure (only notice (notices.Failed link why) h));
    opens = λ link was up. no-way (down m.parts link) up (ap (λ (links : List Link). down (record n.parts { links = links }) link) f ∙ was);
    named = λ link was gone. no-way (down n.parts link) was (sym (ap (λ (links : List Link). down (record n.parts { links = links }) link) f) ∙ gone);
    once = λ link. inl (at-most-one (says_failed link) notice);
  }

  pub both-name : (n m o : Node WholeQueues) → Names May n m → Names May m o → Names May n o
  both-name n m o e f = record {
    made = e.made ++ f.made;
    noted = f.noted ∙ ap (noted_all f.made) e.noted ∙ sym (named-append e.made f.made n.parts.notices);
    causes = λ link why h.
        ⊎_elim (λ (k : Contains e.made (notices.Failed link why)). e.causes link why k) (λ (k : Contains f.made (notices.Failed link why)). f.causes link why k)
        (Contains-append_cases e.made f.made (notices.Failed link why) h);
    ups = λ link why h.
        ⊎_elim (λ (k : Contains e.made (notices.Failed link why)). e.ups link why k)
        (λ (k : Contains f.made (notices.Failed link why)). ⊎_elim (λ (up : down m.parts link ≡ false). up-before link up (down n.parts link) refl) (λ (o : May (LinkOpens link)). inr o) (f.ups link why k))
        (Contains-append_cases e.made f.made (notices.Failed link why) h);
    downs = λ link why h.
        ⊎_elim
        (λ (k : Contains e.made (notices.Failed link why)). ⊎_elim (λ (gone : down m.parts link ≡ true). down-after link gone (down o.parts link) refl) (λ (q : May (LinkOpens link)). inr q) (e.downs link why k))
        (λ (k : Contains f.made (notices.Failed link why)). f.downs link why k) (Contains-append_cases e.made f.made (notices.Failed link why) h);
    opens = λ link was up. opens-by link was up (down m.parts link) refl;
    named = λ link was gone. by link was gone (down m.parts link) refl;
    once = λ link. ⊎_elim (λ (a : count_by (says_failed link) e.made ≤ 1). ⊎_elim (λ (b : count_by (says_failed link) f.made ≤ 1). once-by link a b (cases_lt 0 (count_by (says_failed link) e.made)) (cases_lt 0 (count_by (says_failed link) f.made))) (λ (o : May (LinkOpens link)). inr o) (f.once link))
        (λ (o : May (LinkOpens link)). inr o) (e.once link);
  }
    where
      -- none of the two names it, or but one does: what it took down was up again only if it opens
      once-by : (link : ℕ) → count_by (says_failed link) e.made ≤ 1 → count_by (says_failed link) f.made ≤ 1
          → (0 < count_by (says_failed link) e.made) ⊎ (count_by (says_failed link) e.made ≤ 0) → (0 < count_by (says_failed link) f.made) ⊎ (count_by (says_failed link) f.made ≤ 0)
          → (count_by (says_failed link) (e.made ++ f.made) ≤ 1) ⊎ May (LinkOpens link)
      once-by link a b (inr none) some = inl (omega (arith, b, none, count-joined (says_failed link) e.made f.made))
      once-by link a b (inl first) (inr none) = inl (omega (arith, a, none, count-joined (says_failed link) e.made f.made))
      once-by link a b (inl first) (inl second) =
          let early : (why : FailureReason) × Contains e.made (notices.Failed link why) = named-in link e.made first in
          let late : (why : FailureReason) × Contains f.made (notices.Failed link why) = named-in link f.made second in
          ⊎_elim (λ (gone : down m.parts link ≡ true).
          ⊎_elim (λ (up : down m.parts link ≡ false). no-way (down m.parts link) up gone) (λ (o : May (LinkOpens link)). inr o) (f.ups link late.0 late.1))
          (λ (o : May (LinkOpens link)). inr o) (e.downs link early.0 early.1)

      up-before : (link : ℕ) → down m.parts link ≡ false → (b : Bool) → down n.parts link ≡ b → (down n.parts link ≡ false) ⊎ May (LinkOpens link)
      up-before link up true is = inr (e.opens link is up)
      up-before link up false is = inl is

      down-after : (link : ℕ) → down m.parts link ≡ true → (b : Bool) → down o.parts link ≡ b → (down o.parts link ≡ true) ⊎ May (LinkOpens link)
      down-after link gone true is = inl is
      down-after link gone false is = inr (f.opens link gone is)

      opens-by : (link : ℕ) → down n.parts link ≡ true → down o.parts link ≡ false → (b : Bool) → down m.parts link ≡ b → May (LinkOpens link)
      opens-by link was up true is = f.opens link is up
      opens-by link was up false is = e.opens link was is

      by : (link : ℕ) → down n.parts link ≡ false → down o.parts link ≡ true → (b : Bool) → down m.parts link ≡ b
          → (why : FailureReason) × Contains (e.made ++ f.made) (notices.Failed link why)
      by link was gone true is =
          let k : (why : FailureReason) × Contains e.made (notices.Failed link why) = e.named link was is in
          (k.0, Contains-append_left e.made f.made (notices.Failed link k.0) k.1)
      by link was gone false is =
          let k : (why : FailureReason) × Contains f.made (notices.Failed link why) = f.named link is gone in
          (k.0, Contains-append_right e.made f.made (notices.Failed link k.0) k.1)
