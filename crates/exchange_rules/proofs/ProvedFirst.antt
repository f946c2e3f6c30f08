-- A link is proved before it enters service.
use Rattle.exchange_rules.proofs.Basics.{◌≢◌, ◌≡◌, ◌⊎◌, inl, inr, ℕ, Bool, true, false, ◌&&◌, ◌||◌, ◌==◌, refl, sym, ◌∙◌, ⊎_elim}
use Rattle.exchange_rules.proofs.Definitions.{Alignment, LinkTimer, Expiry, Period, state_number}
use Rattle.link.specs.declared.alignment.Alignment.TheVariants.{Down, NotAligned, Aligned, Proving, AlignedReady, InService}
use Rattle.link.specs.declared.action.LinkTimer.TheVariants.{L1, L2, L3, L4, L6, L7}
use Rattle.link.specs.declared.period.Period.TheVariants.{Fixed}
use Rattle.exchange_rules.specs.Aligning.{MayAlignAgain}
pub use Rattle.exchange_rules.proofs.LeadingCells.{kind_of, leads, each-leads, status-numbered, no-timer, no-data, aligned-from}
use Rattle.exchange_rules.proofs.LeadingCells.{same-number, front, rest, numbered, either}

-- ---- from one state to another

-- in the midst of a tick; by D L4 of the link runs out
pub record Climbs (D : Type 0) (x y : Alignment) : Type 0 where
  pub begins : y ≡ NotAligned → x ≡ NotAligned
  pub aligned : y ≡ Aligned → x ≡ Aligned
  pub proving : (ready : Bool) → y ≡ Proving ready → x ≡ Proving ready
  pub ready : y ≡ AlignedReady → (x ≡ AlignedReady) ⊎ (D × (x ≡ Proving false))
  pub serves : y ≡ InService → (x ≡ InService) ⊎ (D × (x ≡ Proving true))

-- by a frame of some kind, of a link with a period
pub record Hears (k : ℕ) (period : Period) (x y : Alignment) : Type 0 where
  pub begins : y ≡ NotAligned → x ≡ NotAligned
  pub aligns : y ≡ Aligned → (x ≡ Aligned) ⊎ ((k ≡ 1) × ((x ≡ NotAligned) ⊎ MayAlignAgain period x))
  pub proves : y ≡ Proving false → (x ≡ Proving false) ⊎ (((k ≡ 2) ⊎ (k ≡ 3)) × ((x ≡ NotAligned) ⊎ (x ≡ Aligned)))
  pub remembers : y ≡ Proving true → (x ≡ Proving true) ⊎ ((k ≡ 4) × (x ≡ Proving false))
  pub ready : y ≡ AlignedReady → x ≡ AlignedReady
  pub serves : y ≡ InService → (x ≡ InService) ⊎ (((k ≡ 4) ⊎ (k ≡ 0)) × (x ≡ AlignedReady))

pub both-climb : (D : Type 0) (x y z : Alignment) → Climbs D x y → Climbs D y z → Climbs D x z
both-climb D x y z e f = record {
  begins = λ h. e.begins (f.begins h);
  aligned = λ h. e.aligned (f.aligned h);
  proving = λ ready h. e.proving ready (f.proving ready h);
  ready = λ h. ⊎_elim (λ (k : y ≡ AlignedReady). e.ready k) (λ (k : D × (y ≡ Proving false)). inr (k.0, e.proving false k.1)) (f.ready h);
  serves = λ h. ⊎_elim (λ (k : y ≡ InService). e.serves k) (λ (k : D × (y ≡ Proving true)). inr (k.0, e.proving true k.1)) (f.serves h);
}

pub down-climbs : (D : Type 0) (x y : Alignment) → y ≡ Down → Climbs D x y
down-climbs D x y e = record {
  begins = λ h. absurd (let no : Down ≡ NotAligned = sym e ∙ h in cc);
  aligned = λ h. absurd (let no : Down ≡ Aligned = sym e ∙ h in cc);
  proving = λ ready h. absurd (let no : Down ≡ Proving ready = sym e ∙ h in cc);
  ready = λ h. absurd (let no : Down ≡ AlignedReady = sym e ∙ h in cc);
  serves = λ h. absurd (let no : Down ≡ InService = sym e ∙ h in cc);
}

-- what is heard first, and what keeps it
pub heard-climbs : (k : ℕ) (period : Period) (x y z : Alignment) → Hears k period x y → Climbs ⊥ y z → Hears k period x z
heard-climbs k period x y z e f = record {
  begins = λ h. e.begins (f.begins h);
  aligns = λ h. e.aligns (f.aligned h);
  proves = λ h. e.proves (f.proving false h);
  remembers = λ h. e.remembers (f.proving true h);
  ready = λ h. e.ready (⊎_elim (λ (g : y ≡ AlignedReady). g) (λ (g : ⊥ × (y ≡ Proving false)). absurd g.0) (f.ready h));
  serves = λ h. e.serves (⊎_elim (λ (g : y ≡ InService). g) (λ (g : ⊥ × (y ≡ Proving true)). absurd g.0) (f.serves h));
}

pub same-hears : (k : ℕ) (period : Period) (x : Alignment) → Hears k period x x
same-hears k period x = record { begins = λ h. h; aligns = λ h. inl h; proves = λ h. inl h; remembers = λ h. inl h; ready = λ h. h; serves = λ h. inl h }

timed-climbs : (D : Type 0) → D → (x y : Alignment) → leads 10 (state_number x) (state_number y) ≡ true → Climbs D x y
timed-climbs D d x Down e = absurd cc
timed-climbs D d x NotAligned e = absurd cc
timed-climbs D d x Aligned e = absurd cc
timed-climbs D d x (Proving true) e = absurd cc
timed-climbs D d x (Proving false) e = absurd cc
timed-climbs D d x AlignedReady e = record { begins = λ h. absurd cc; aligned = λ h. absurd cc; proving = λ ready h. absurd cc; ready = λ h. inr (d, numbered x 3 e); serves = λ h. absurd cc }
timed-climbs D d x InService e = record {
  begins = λ h. absurd cc;
  aligned = λ h. absurd cc;
  proving = λ ready h. absurd cc;
  ready = λ h. absurd cc;
  serves = λ h. inr (d, numbered x 4 (or-false (state_number x == 4) e));
}
  where
    or-false : (b : Bool) → (b || false) ≡ true → b ≡ true
    or-false true h = refl
    or-false false h = absurd cc

none-leads : (x y : Alignment) → leads 11 (state_number x) (state_number y) ≡ true → ⊥
none-leads x Down e = cc
none-leads x NotAligned e = cc
none-leads x Aligned e = cc
none-leads x (Proving true) e = cc
none-leads x (Proving false) e = cc
none-leads x AlignedReady e = cc
none-leads x InService e = cc

pub timer-climbs : (D : Type 0) (its : LinkTimer) (x y : Alignment) → (its ≡ L4 → D) → leads (kind_of (Expiry its)) (state_number x) (state_number y) ≡ true → Climbs D x y
timer-climbs D L4 x y d e = timed-climbs D (d refl) x y e
timer-climbs D L1 x y d e = absurd (none-leads x y e)
timer-climbs D L2 x y d e = absurd (none-leads x y e)
timer-climbs D L3 x y d e = absurd (none-leads x y e)
timer-climbs D L6 x y d e = absurd (none-leads x y e)
timer-climbs D L7 x y d e = absurd (none-leads x y e)

-- what an alignment leads from
from-aligning : (x : Alignment) → ((state_number x == 1) ≡ true) ⊎ ((state_number x == 3 || state_number x == 4) ≡ true) → (x ≡ NotAligned) ⊎ ((ready : Bool) × (x ≡ Proving ready))
from-aligning x (inl e) = inl (numbered x 1 e)
from-aligning x (inr e) =
    inr (⊎_elim (λ (f : (state_number x == 3) ≡ true). (false, numbered x 3 f)) (λ (f : (state_number x == 4) ≡ true). (true, numbered x 4 f)) (either (state_number x == 3) (state_number x == 4) e))

-- with a fixed period, from NotAligned alone
chosen-aligning : (period : Period) (x : Alignment) → (x ≡ NotAligned) ⊎ ((ready : Bool) × (x ≡ Proving ready)) → (x ≡ NotAligned) ⊎ (period ≢ Fixed) → (x ≡ NotAligned) ⊎ MayAlignAgain period x
chosen-aligning period x (inl e) chosen = inl e
chosen-aligning period x (inr proved) (inl e) = inl e
chosen-aligning period x (inr proved) (inr apart) = inr (apart, proved)

pub frame-hears : (k : ℕ) (period : Period) (x y : Alignment) → (k ≡ 10 → ⊥) → leads k (state_number x) (state_number y) ≡ true → (y ≡ Aligned → (x ≡ NotAligned) ⊎ (period ≢ Fixed))
    → Hears k period x y
frame-hears k period x Down frame e chosen = absurd cc
frame-hears k period x NotAligned frame e chosen = absurd cc
frame-hears k period x Aligned frame e chosen = record {
  begins = λ h. absurd cc;
  aligns = λ h. inr (same-number k 1 (front (k == 1) _ e), chosen-aligning period x (from-aligning x (either (state_number x == 1) (state_number x == 3 || state_number x == 4) (rest (k == 1) _ e))) (chosen h));
  proves = λ h. absurd cc;
  remembers = λ h. absurd cc;
  ready = λ h. absurd cc;
  serves = λ h. absurd cc;
}
frame-hears k period x (Proving false) frame e chosen = record {
  begins = λ h. absurd cc;
  aligns = λ h. absurd cc;
  proves = λ h. by (either _ _ e);
  remembers = λ h. absurd cc;
  ready = λ h. absurd cc;
  serves = λ h. absurd cc;
}
  where
    by : (((k == 2 || k == 3) && (state_number x == 1 || state_number x == 2)) ≡ true) ⊎ ((k == 3 && state_number x == 3) ≡ true)
        → (x ≡ Proving false) ⊎ (((k ≡ 2) ⊎ (k ≡ 3)) × ((x ≡ NotAligned) ⊎ (x ≡ Aligned)))
    by (inl d) = inr (
      ⊎_elim (λ (f : (k == 2) ≡ true). inl (same-number k 2 f)) (λ (f : (k == 3) ≡ true). inr (same-number k 3 f)) (either (k == 2) (k == 3) (front (k == 2 || k == 3) _ d)),
      ⊎_elim (λ (f : (state_number x == 1) ≡ true). inl (numbered x 1 f)) (λ (f : (state_number x == 2) ≡ true). inr (numbered x 2 f))
          (either (state_number x == 1) (state_number x == 2) (rest (k == 2 || k == 3) _ d)),
    )
    by (inr d) = inl (numbered x 3 (rest (k == 3) _ d))
frame-hears k period x (Proving true) frame e chosen = record {
  begins = λ h. absurd cc;
  aligns = λ h. absurd cc;
  proves = λ h. absurd cc;
  remembers = λ h. by (either _ _ e);
  ready = λ h. absurd cc;
  serves = λ h. absurd cc;
}
  where
    by : ((k == 4 && (state_number x == 3 || state_number x == 4)) ≡ true) ⊎ ((k == 3 && state_number x == 4) ≡ true) → (x ≡ Proving true) ⊎ ((k ≡ 4) × (x ≡ Proving false))
    by (inl d) =
        ⊎_elim (λ (f : (state_number x == 3) ≡ true). inr (same-number k 4 (front (k == 4) _ d), numbered x 3 f)) (λ (f : (state_number x == 4) ≡ true). inl (numbered x 4 f))
        (either (state_number x == 3) (state_number x == 4) (rest (k == 4) _ d))
    by (inr d) = inl (numbered x 4 (rest (k == 3) _ d))
frame-hears k period x AlignedReady frame e chosen = absurd (frame (same-number k 10 (front (k == 10) _ e)))
frame-hears k period x InService frame e chosen = record {
  begins = λ h. absurd cc;
  aligns = λ h. absurd cc;
  proves = λ h. absurd cc;
  remembers = λ h. absurd cc;
  ready = λ h. absurd cc;
  serves = λ h. by (either _ _ e);
}
  where
    ready-or : (b d : Bool) → b ≡ (state_number x == 5) → d ≡ (state_number x == 6) → (b || d) ≡ true → (x ≡ AlignedReady) ⊎ (x ≡ InService)
    ready-or true d f g h = inl (numbered x 5 (sym f))
    ready-or false d f g h = inr (numbered x 6 (sym g ∙ h))

    by-data : ((k == 0 && (state_number x == 5 || state_number x == 6)) ≡ true) ⊎ (((k == 7 || k == 8) && state_number x == 6) ≡ true)
        → (x ≡ InService) ⊎ (((k ≡ 4) ⊎ (k ≡ 0)) × (x ≡ AlignedReady))
    by-data (inl f) =
        ⊎_elim (λ (g : x ≡ AlignedReady). inr (inr (same-number k 0 (front (k == 0) _ f)), g)) (λ (g : x ≡ InService). inl g)
        (ready-or (state_number x == 5) (state_number x == 6) refl refl (rest (k == 0) _ f))
    by-data (inr f) = inl (numbered x 6 (rest (k == 7 || k == 8) _ f))

    by-status : ((k == 4 && state_number x == 5) ≡ true) ⊎ (((k == 0 && (state_number x == 5 || state_number x == 6)) || ((k == 7 || k == 8) && state_number x == 6)) ≡ true)
        → (x ≡ InService) ⊎ (((k ≡ 4) ⊎ (k ≡ 0)) × (x ≡ AlignedReady))
    by-status (inl f) = inr (inl (same-number k 4 (front (k == 4) _ f)), numbered x 5 (rest (k == 4) _ f))
    by-status (inr f) = by-data (either _ _ f)

    by : ((k == 10 && state_number x == 4) ≡ true)
        ⊎ (((k == 4 && state_number x == 5) || ((k == 0 && (state_number x == 5 || state_number x == 6)) || ((k == 7 || k == 8) && state_number x == 6))) ≡ true)
        → (x ≡ InService) ⊎ (((k ≡ 4) ⊎ (k ≡ 0)) × (x ≡ AlignedReady))
    by (inl f) = absurd (frame (same-number k 10 (front (k == 10) _ f)))
    by (inr f) = by-status (either _ _ f)
