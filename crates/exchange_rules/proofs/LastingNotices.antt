-- While a notice says that a message may have been lost, or gone out of order, the flag is raised.
use Rattle.exchange_rules.proofs.Basics.{◌≡◌, ℕ, zero, suc, Bool, true, false, ◌||◌, List, [], ◌∷◌, ◌++◌, length, refl, ap, sym, ◌∙◌, ◌⊎◌, inl, inr, ⊎_elim, drop, list_any}
use Rattle.exchange_rules.proofs.Definitions.{NOTICES, Notice, Configuration, Noted, Parts, Node, Found, lost_any, late_any, noted, concluded, first_state, WholeQueues, whole, tells_of_loss, tells_of_lateness, AreFlagsRaised, notices_raise_flags, unreasonable_numbers_raise_it}
use Rattle.std.specs.Prelude.{◌-◌}
use Rattle.circular_buffer.specs.Buffer.{keep_last}
use Rattle.signalling_types.specs.declared.notice.Notice.TheVariants as notices
use Rattle.exchange_rules.proofs.LastingFlags.{flags-steps}
use Rattle.exchange_rules.proofs.SteppingMessages.{send_each-steps}
use Rattle.exchange_rules.proofs.Steps.{IsOfSteps, sends-of}
use Rattle.exchange_rules.proofs.Asked.{any, IsOfAll, all-of, asked-all}

-- ---- lists

either-of : (a b : Bool) → (a || b) ≡ true → (a ≡ true) ⊎ (b ≡ true)
either-of true b e = inl refl
either-of false b e = inr e

-- some of what is left is some of all
some-dropped : (f : Notice → Bool) (n : ℕ) (xs : List Notice) → list_any f (drop n xs) ≡ true → list_any f xs ≡ true
some-dropped f zero xs e = e
some-dropped f (suc n) [] e = e
some-dropped f (suc n) (x ∷ xs) e = ap (λ (b : Bool). f x || b) (some-dropped f n xs e) ∙ or-true (f x)
  where
    or-true : (b : Bool) → (b || true) ≡ true
    or-true true = refl
    or-true false = refl

some-last : (f : Notice → Bool) (x : Notice) (xs : List Notice) → list_any f (xs ++ x ∷ []) ≡ true → (list_any f xs ≡ true) ⊎ (f x ≡ true)
some-last f x [] e = inr (first (f x) e)
  where
    first : (b : Bool) → (b || false) ≡ true → b ≡ true
    first true h = refl
    first false h = absurd cc
some-last f x (y ∷ xs) e =
    ⊎_elim (λ (h : f y ≡ true). inl (ap (λ (b : Bool). b || list_any f xs) h))
    (λ (h : list_any f (xs ++ x ∷ []) ≡ true).
    ⊎_elim (λ (k : list_any f xs ≡ true). inl (ap (λ (b : Bool). f y || b) k ∙ or-true (f y))) (λ (k : f x ≡ true). inr k) (some-last f x xs h))
    (either-of (f y) (list_any f (xs ++ x ∷ [])) e)
  where
    or-true : (b : Bool) → (b || true) ≡ true
    or-true true = refl
    or-true false = refl

-- a notice more, where the flag is as it says
raised-still : (f : Notice → Bool) (x : Notice) (xs : List Notice) (flag : Bool) → (list_any f xs ≡ true → flag ≡ true) → (f x ≡ true → flag ≡ true)
    → list_any f (keep_last NOTICES (xs ++ x ∷ [])) ≡ true → flag ≡ true
raised-still f x xs flag all one e = ⊎_elim all one (some-last f x xs (some-dropped f (length (xs ++ x ∷ []) - NOTICES) (xs ++ x ∷ []) e))

-- ---- steps

record Raised (n m : Node WholeQueues) : Type 0 where
  pub stay : AreFlagsRaised n.parts → AreFlagsRaised m.parts

same-raised : (n m : Node WholeQueues) → m.parts.notices ≡ n.parts.notices → lost_any m.parts ≡ lost_any n.parts → late_any m.parts ≡ late_any n.parts → Raised n m
same-raised n m e f g = record {
  stay = λ h. record {
    lost = λ k. f ∙ h.lost (sym (ap (λ (x : Noted). list_any tells_of_loss x.last) e) ∙ k);
    late = λ k. g ∙ h.late (sym (ap (λ (x : Noted). list_any tells_of_lateness x.last) e) ∙ k);
  };
}

noted-raised : (notice : Notice) (n m : Node WholeQueues) → (tells_of_loss notice ≡ true → lost_any n.parts ≡ true) → (tells_of_lateness notice ≡ true → late_any n.parts ≡ true)
    → m.parts.notices ≡ noted notice n.parts.notices → lost_any m.parts ≡ lost_any n.parts → late_any m.parts ≡ late_any n.parts → Raised n m
noted-raised notice n m lost late e f g = record {
  stay = λ h. record {
    lost = λ k. f ∙ raised-still tells_of_loss notice n.parts.notices.last (lost_any n.parts) h.lost lost (sym (ap (λ (x : Noted). list_any tells_of_loss x.last) e) ∙ k);
    late = λ k. g ∙ raised-still tells_of_lateness notice n.parts.notices.last (late_any n.parts) h.late late (sym (ap (λ (x : Noted). list_any tells_of_lateness x.last) e) ∙ k);
  };
}

raised-steps : (c : Configuration) → IsOfSteps c any any Raised
raised-steps c = record {
  none = λ n. same-raised n n refl refl refl;
  both = λ n m o e f. record { stay = λ h. f.stay (e.stay h) };
  routed = λ link m n e. same-raised n _ refl refl refl;
  declared = λ link other code n e f. same-raised n _ refl refl refl;
  tested = λ link point test n e f. same-raised n _ refl refl refl;
  probed = λ link n e. same-raised n _ refl refl refl;
  held = λ m n e. same-raised n _ refl refl refl;
  taken_out = λ n. same-raised n _ refl refl refl;
  noted = λ notice n e. noted-raised notice n _ e.lost e.late refl refl refl;
  lost = λ n. record { stay = λ h. record { lost = λ k. refl; late = h.late } };
  counted = λ messages broken n. record { stay = λ h. record { lost = h.lost; late = h.late } };
  asked = λ link n e. record { stay = λ h. record { lost = h.lost; late = h.late } };
  late = λ n. record { stay = λ h. record { lost = h.lost; late = λ k. refl } };
  timed = λ r n e. same-raised n _ refl refl refl;
  holding = λ h n e. same-raised n _ refl refl refl;
  coded = λ set code awaited n. same-raised n _ refl refl refl;
  rerouted = λ routes n e. same-raised n _ refl refl refl;
  told = λ t n e. same-raised n _ refl refl refl;
  titled = λ rows n. same-raised n _ refl refl refl;
  unequipped = λ counts n e. same-raised n _ refl refl refl;
  failed = λ link why st n e f. noted-raised (notices.Failed link why) n _ (λ f. absurd cc) (λ f. absurd cc) refl refl refl;
  dropped = λ link why n e. noted-raised (notices.Failed link why) n _ (λ f. absurd cc) (λ f. absurd cc) refl refl refl;
  completed = λ link number st n e f. same-raised n _ refl refl refl;
  answered = λ link st n e f w. same-raised n _ refl refl refl;
  linked = λ link x n e o. same-raised n _ refl refl refl;
  parted = λ link n e. same-raised n _ refl refl refl;
  opened = λ link n own e f g. same-raised n _ refl refl refl;
  stepped = λ link input step n own e. same-raised n _ refl refl refl;
  passed = λ link n e. same-raised n _ refl refl refl;
  busied = λ link n own e f. same-raised n _ refl refl refl;
  resumed = λ link n own e f. same-raised n _ refl refl refl;
  accepted = λ link d confirmed n own e f. same-raised n _ refl refl refl;
  sent = λ link next n own e. same-raised n _ refl refl refl;
}

raised-all : (c : Configuration) → IsOfAll c Raised
raised-all c = all-of (raised-steps c) (λ n. same-raised n _ refl refl refl) (λ n. same-raised n _ refl refl refl)

pub notices-raise : notices_raise_flags
notices-raise c asked = (asked-all (raised-all c) asked (first_state c) refl).stay (record { lost = λ e. absurd cc; late = λ e. absurd cc })

-- ---- a completion without a reasonable number

raised-by : (link : ℕ) (found : Found) (p : Parts) (reasonable : Bool) → reasonable ≡ false → lost_any (concluded link (record found { is_reasonable = reasonable }) p) ≡ true
raised-by link found p true e = absurd cc
raised-by link found p false e = refl

pub unreasonable-raises : unreasonable_numbers_raise_it
unreasonable-raises c link number n e =
    let found : Found = whole.found n.queues link number in
    let done : Node WholeQueues = record { queues = whole.completed n.queues link number; parts = concluded link found n.parts } in
    (send_each-steps (sends-of (flags-steps c)) found.queued_anew done).lost (raised-by link found n.parts found.is_reasonable e)
