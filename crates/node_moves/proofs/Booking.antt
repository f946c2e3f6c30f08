-- What comes to a node or is handed over there, and what it accepts, as each step books it.
use Rattle.node_moves.proofs.Basics.{◌≡◌, ◌≤◌, ◌<◌, ◌+◌, ◌&&◌, ℕ, Bool, true, false, not, List, ◌++◌, length, Option, Some, None, nat_eq, refl, ap, sym, subst, ◌∙◌, arith, if◌then◌else◌}
use Rattle.node_moves.proofs.Definitions.{Message, Configuration, whole}
use Rattle.node_moves.proofs.Flights.{updated-here, updated-other}
use Rattle.node_moves.proofs.FateCounts.{count-fates}
use Rattle.node_moves.proofs.OneFate.{Adds, adds-nothing, both-fates, frame-adds, no-fates, submit-adds}
use Rattle.node_moves.proofs.Everywhere.{IsKept, IsSameNode, everywhere}
use Rattle.node_moves.specs.Fates.{HaveFates, TakesEachIn, goes_on, is_for_sccp, is_sccp}
use Rattle.node_moves.specs.Laws.{fates_that, is_user, users_that}
use Rattle.node_moves.specs.Networks.{Fate, NetworkNode, NetworkState, Step, after_steps, fates, first_network, first_node, hand_over, hear_data, made_of, state_of, updated}
unfoldable use Rattle.exchange_rules.specs.Exchange.{apply}
use Rattle.exchange_rules.specs.Conserving.{brought_by, brought_in}
use Rattle.exchange_rules.specs.Exchange.{outcome_of}
use Rattle.exchange_rules.specs.Laws.{accept_text}
use Rattle.exchange_rules.specs.Receiving.{new_message}
use Rattle.exchange_rules.specs.State.{FrameCame, Submitted}
use Rattle.m2pa_codec.specs.Frames.{read_frame}
use Rattle.network_moves.proofs.Counts.{count-append, sum-but, sum-none}
use Rattle.network_moves.specs.Networks.{sum_to}

users-append : (test : Message → Bool) (ms ks : List Message) → users_that test (ms ++ ks) ≡ users_that test ms + users_that test ks
users-append test ms ks = count-append (λ m. is_user m && test m) ms ks

fates-append : (kind : Fate → Bool) (test : Message → Bool) (fs gs : List Fate) → fates_that kind test (fs ++ gs) ≡ fates_that kind test fs + fates_that kind test gs
fates-append kind test fs gs = count-fates (λ f. is_user f.message && (kind f && test f.message)) fs gs

-- ---- the books of a node

module _ (c : Configuration) where
  abbrev come_in : (kind : Fate → Bool) (test : Message → Bool) → NetworkNode → ℕ
  come_in kind test x = sum_to (λ link. fates_that kind test (x.came link)) (length c.links)

  pub record IsInOrder (x : NetworkNode) : Type 0 where
    pub submitted : HaveFates c x.submitted
    pub came : (link : ℕ) → HaveFates c (x.came link)
    pub accepted : (test : Message → Bool) → users_that test x.accepted ≡ fates_that (goes_on c) test x.submitted + come_in (goes_on c) test x + users_that test x.made
    pub made : (test : Message → Bool) → users_that (λ m. not (is_sccp m) && test m) x.made ≡ 0
    pub made_once : users_that (λ m. true) x.made ≤ fates_that (is_for_sccp c) (λ m. true) x.submitted + come_in (is_for_sccp c) (λ m. true) x

  pub first-in-order : IsInOrder (first_node c)
  first-in-order =
      let none : (kind : Fate → Bool) (test : Message → Bool) → come_in kind test (first_node c) ≡ 0 = λ kind test. sum-none (λ link. 0) (length c.links) (λ link. refl) in
      record {
        submitted = no-fates c;
        came = λ link. no-fates c;
        accepted = λ test. omega (arith, none (goes_on c) test);
        made = λ test. refl;
        made_once = omega arith;
      }

  -- what a message brings is booked as handed over
  handed-more : (x y : NetworkNode) (fs : List Fate) (brought made : List Message) → Adds c fs brought made → y.submitted ≡ x.submitted ++ fs → ((link : ℕ) → y.came link ≡ x.came link)
      → y.accepted ≡ x.accepted ++ brought → y.made ≡ x.made ++ made → IsInOrder x → IsInOrder y
  handed-more x y fs brought made a submitted came accepted its_made h =
      let same : (kind : Fate → Bool) (test : Message → Bool) → come_in kind test y ≡ come_in kind test x =
      λ kind test. sum-same (λ link. fates_that kind test (x.came link)) (λ link. fates_that kind test (y.came link)) (length c.links) (λ link. ap (fates_that kind test) (came link)) in
      record {
        submitted = subst (HaveFates c) (sym submitted) (both-fates c x.submitted fs h.submitted a.fates);
        came = λ link. subst (HaveFates c) (sym (came link)) (h.came link);
        accepted = λ test.
            omega (
              arith,
              ap (users_that test) accepted,
              users-append test x.accepted brought,
              ap (users_that test) its_made,
              users-append test x.made made,
              ap (fates_that (goes_on c) test) submitted,
              fates-append (goes_on c) test x.submitted fs,
              same (goes_on c) test,
              h.accepted test,
              a.accepted test,
            );
        made = λ test.
            omega (
              arith,
              ap (users_that (λ m. not (is_sccp m) && test m)) its_made,
              users-append (λ m. not (is_sccp m) && test m) x.made made,
              h.made test,
              a.made_sccp test,
            );
        made_once =
            omega (
              arith,
              ap (users_that (λ m. true)) its_made,
              users-append (λ m. true) x.made made,
              ap (fates_that (is_for_sccp c) (λ m. true)) submitted,
              fates-append (is_for_sccp c) (λ m. true) x.submitted fs,
              same (is_for_sccp c) (λ m. true),
              h.made_once,
              a.made_once,
            );
      }
    where
      sum-same : (f g : ℕ → ℕ) (n : ℕ) → ((k : ℕ) → g k ≡ f k) → sum_to g n ≡ sum_to f n
      sum-same f g n e = ap (λ (k : ℕ → ℕ). sum_to k n) (λ i. λ k. e k i)

  -- or as come by a link
  come-more : (x y : NetworkNode) (link : ℕ) (fs : List Fate) (brought made : List Message) → link < length c.links → Adds c fs brought made → y.submitted ≡ x.submitted
      → y.came ≡ updated x.came link (x.came link ++ fs) → y.accepted ≡ x.accepted ++ brought → y.made ≡ x.made ++ made → IsInOrder x → IsInOrder y
  come-more x y link fs brought made inside a submitted came accepted its_made h =
      record {
        submitted = subst (HaveFates c) (sym submitted) h.submitted;
        came = λ l. subst (λ (book : ℕ → List Fate). HaveFates c (book l)) (sym came) (each l (nat_eq l link));
        accepted = λ test.
            omega (
              arith,
              ap (users_that test) accepted,
              users-append test x.accepted brought,
              ap (users_that test) its_made,
              users-append test x.made made,
              ap (fates_that (goes_on c) test) submitted,
              more (goes_on c) test,
              h.accepted test,
              a.accepted test,
            );
        made = λ test.
            omega (
              arith,
              ap (users_that (λ m. not (is_sccp m) && test m)) its_made,
              users-append (λ m. not (is_sccp m) && test m) x.made made,
              h.made test,
              a.made_sccp test,
            );
        made_once =
            omega (
              arith,
              ap (users_that (λ m. true)) its_made,
              users-append (λ m. true) x.made made,
              ap (fates_that (is_for_sccp c) (λ m. true)) submitted,
              more (is_for_sccp c) (λ m. true),
              h.made_once,
              a.made_once,
            );
      }
    where
      each : (l : ℕ) (b : Bool) → HaveFates c (if b then x.came link ++ fs else x.came l)
      each l true = both-fates c (x.came link) fs (h.came link) a.fates
      each l false = h.came l

      more : (kind : Fate → Bool) (test : Message → Bool) → come_in kind test y ≡ come_in kind test x + fates_that kind test fs
      more kind test =
          let after : ℕ → List Fate = updated x.came link (x.came link ++ fs) in
          let now : come_in kind test y ≡ sum_to (λ l. fates_that kind test (after l)) (length c.links) = ap (λ (book : ℕ → List Fate). sum_to (λ l. fates_that kind test (book l)) (length c.links)) came in
          let but : sum_to (λ l. fates_that kind test (after l)) (length c.links) + fates_that kind test (x.came link) ≡ come_in kind test x + fates_that kind test (after link) =
          sum-but (λ l. fates_that kind test (x.came l)) (λ l. fates_that kind test (after l)) (length c.links) link inside
          (λ l d. ap (fates_that kind test) (updated-other x.came link (x.came link ++ fs) l d)) in
          let here : fates_that kind test (after link) ≡ fates_that kind test (x.came link ++ fs) = ap (fates_that kind test) (updated-here x.came link (x.came link ++ fs)) in
          omega (arith, now, but, here, fates-append kind test (x.came link) fs)

  -- ---- a message is handed over, or comes

  handed : (m : Message) (x : NetworkNode) → IsInOrder x → IsInOrder (hand_over c m x)
  handed m x h =
      handed-more x (hand_over c m x) (fates c (Submitted m) (Some m) x) (brought_in (Submitted m) (state_of c x)) (made_of c (Some m) (brought_in (Submitted m) (state_of c x)))
      (submit-adds c x.node m (outcome_of whole (Submitted m) (state_of c x)) refl) refl (λ link. refl) refl refl h

  came-adds : (link : ℕ) (text : List ℕ) (x : NetworkNode) (new : Option Message) → new_message link text (state_of c x) ≡ new
      → let brought : List Message = brought_by new (outcome_of whole (FrameCame link text) (state_of c x)) c (accept_text link (read_frame text) (state_of c x)) in
      Adds c (fates c (FrameCame link text) new x) brought (made_of c new brought)
  came-adds link text x None e = adds-nothing c
  came-adds link text x (Some m) e = frame-adds c x.node m link text e (outcome_of whole (FrameCame link text) (state_of c x)) refl

  heard : (link : ℕ) (text : List ℕ) (x : NetworkNode) → link < length c.links → IsInOrder x → IsInOrder (hear_data c (Some text) link x)
  heard link text x inside h =
      let new : Option Message = new_message link text (state_of c x) in
      come-more x (hear_data c (Some text) link x) link (fates c (FrameCame link text) new x) (brought_in (FrameCame link text) (state_of c x)) (made_of c new (brought_in (FrameCame link text) (state_of c x))) inside
      (came-adds link text x new refl) refl refl refl refl h

-- ---- what changes no book

same-order : (c : Configuration) (x y : NetworkNode) → IsSameNode x y → IsInOrder c x → IsInOrder c y
same-order c x y s h = record {
  submitted = subst (HaveFates c) (sym s.submitted) h.submitted;
  came = λ link. subst (λ (book : ℕ → List Fate). HaveFates c (book link)) (sym s.came) (h.came link);
  accepted = λ test.
      omega (
        arith,
        h.accepted test,
        ap (users_that test) s.accepted,
        ap (users_that test) s.made,
        ap (fates_that (goes_on c) test) s.submitted,
        ap (λ (book : ℕ → List Fate). sum_to (λ link. fates_that (goes_on c) test (book link)) (length c.links)) s.came,
      );
  made = λ test. ap (users_that (λ m. not (is_sccp m) && test m)) s.made ∙ h.made test;
  made_once =
      omega (
        arith,
        h.made_once,
        ap (users_that (λ m. true)) s.made,
        ap (fates_that (is_for_sccp c) (λ m. true)) s.submitted,
        ap (λ (book : ℕ → List Fate). sum_to (λ link. fates_that (is_for_sccp c) (λ m. true) (book link)) (length c.links)) s.came,
      );
}

pub order-kept : IsKept IsInOrder
order-kept = record {
  handed = λ c m x h. handed c m x h;
  heard = λ c link text x inside h. heard c link text x inside h;
  happened = λ c what x h.
      record { submitted = h.submitted; came = h.came; accepted = h.accepted; made = h.made; made_once = h.made_once };
  taken = λ c link x h.
      record { submitted = h.submitted; came = h.came; accepted = h.accepted; made = h.made; made_once = h.made_once };
  flown = λ c x y s h. same-order c x y s h;
}

pub all-in-order : (settings : (point : ℕ) → Configuration) (steps : List Step) (y : ℕ) → IsInOrder (settings y) ((after_steps settings steps (first_network settings)).node y)
all-in-order settings = everywhere IsInOrder order-kept settings first-in-order

pub takes-each : (settings : (point : ℕ) → Configuration) (w : NetworkState) (point : ℕ) → IsInOrder (settings point) (w.node point) → TakesEachIn settings w point
takes-each settings w point h = record {
  submitted = h.submitted;
  came = h.came;
  accepted = λ test. h.accepted test;
  made = λ test. h.made test;
  made_once = h.made_once;
}
