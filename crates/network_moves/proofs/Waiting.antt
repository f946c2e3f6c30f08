-- The messages of an end that the other one lacks: those that wait, and those that were given up and may still come.
use Rattle.network_moves.proofs.Basics.{◌≡◌, ℕ, zero, suc, Bool, ◌+◌, ◌≤◌, ◌<◌, List, [], ◌∷◌, ◌++◌, drop, slice_get, count_by, refl, ap, sym, ◌∙◌, arith, Some}
use Rattle.network_moves.proofs.Definitions.{Message, Queue, Phase, Live, Moved, Gone, Line, waiting_in, waiting, given_up_in, given_up, one_if, on_its_way}
use Rattle.std.specs.Prelude.{take}
use Rattle.std.proofs.lemmas.Grind.{common_steps}
use Rattle.std.proofs.lemmas.List.{take-append-drop}
use Rattle.network_moves.proofs.Counts.{count-cons}
use Rattle.network_moves.proofs.Sound.{booked, lost}

-- ---- lists

same-message : (x m : Message) → Some x ≡ Some m → x ≡ m
same-message x m e = grind arith

pub drop-first : (ms : List Message) (n : ℕ) (m : Message) → slice_get ms n ≡ Some m → drop n ms ≡ m ∷ drop (n + 1) ms
drop-first [] n m e = grind (arith, common_steps)
drop-first (x ∷ ms) zero m e = ap (λ (y : Message). y ∷ ms) (same-message x m (grind (arith, common_steps, e)))
drop-first (x ∷ ms) (suc n) m e =
    let there : slice_get ms n ≡ Some m = grind (arith, common_steps, e) in
    let next : suc (n + 1) ≡ suc n + 1 = omega arith in
    drop-first ms n m there ∙ ap (λ (k : ℕ). m ∷ drop k (x ∷ ms)) next

-- the same of the first messages alone
taken-there : (ms : List Message) (n k : ℕ) (m : Message) → n < k → slice_get ms n ≡ Some m → slice_get (take k ms) n ≡ Some m
taken-there ms n zero m l e = absurd (omega (arith, l))
taken-there [] n (suc k) m l e = grind (arith, common_steps)
taken-there (x ∷ ms) zero (suc k) m l e = grind (arith, common_steps, e)
taken-there (x ∷ ms) (suc n) (suc k) m l e =
    let there : slice_get ms n ≡ Some m = grind (arith, common_steps, e) in
    let next : slice_get (take k ms) n ≡ Some m = taken-there ms n k m (omega (arith, l)) there in
    grind (arith, common_steps, next)

-- what comes after n messages: those before the k-th, and those from there
pub drop-split : (ms : List Message) (n k : ℕ) → n ≤ k → drop n ms ≡ drop n (take k ms) ++ drop k ms
drop-split ms zero k l = sym (take-append-drop k ms)
drop-split ms (suc n) zero l = absurd (omega (arith, l))
drop-split [] (suc n) (suc k) l = refl
drop-split (x ∷ ms) (suc n) (suc k) l = drop-split ms n k (omega (arith, l))

-- fewer come after more
pub drop-fewer : (test : Message → Bool) (ms : List Message) (n k : ℕ) → n ≤ k → count_by test (drop k ms) ≤ count_by test (drop n ms)
drop-fewer test ms n zero l = (let none : n ≡ 0 = omega (arith, l) in rw none (omega arith))
drop-fewer test [] zero (suc k) l = omega arith
drop-fewer test [] (suc n) (suc k) l = omega arith
drop-fewer test (x ∷ ms) zero (suc k) l = omega (arith, count-cons test x ms, drop-fewer test ms zero k (omega arith))
drop-fewer test (x ∷ ms) (suc n) (suc k) l = drop-fewer test ms n k (omega (arith, l))

-- ---- by what became of the end

not-live : {A : Type 0} → Moved ≡ Live → A
not-live e = absurd cc

gone-live : {A : Type 0} → Gone ≡ Live → A
gone-live e = absurd cc

pub waiting-live : (phase : Phase) (q : Queue) (received : ℕ) → phase ≡ Live → waiting_in phase q received ≡ drop received q.all
waiting-live Live q received e = refl
waiting-live Moved q received e = not-live e
waiting-live Gone q received e = gone-live e

pub given-live : (phase : Phase) (q : Queue) (received : ℕ) → phase ≡ Live → given_up_in phase q received ≡ []
given-live Live q received e = refl
given-live Moved q received e = not-live e
given-live Gone q received e = gone-live e

-- only the messages matter, and how many were sent
pub waiting-alike : (phase : Phase) (q r : Queue) (received : ℕ) → q.all ≡ r.all → waiting_in phase q received ≡ waiting_in phase r received
waiting-alike Live q r received e = ap (drop received) e
waiting-alike Moved q r received e = refl
waiting-alike Gone q r received e = refl

pub given-alike : (phase : Phase) (q r : Queue) (received : ℕ) → q.all ≡ r.all → q.sent ≡ r.sent → given_up_in phase q received ≡ given_up_in phase r received
given-alike Live q r received e f = refl
given-alike Moved q r received e f = refl
given-alike Gone q r received e f =
    ap (λ (n : ℕ). drop received (take n q.all)) f ∙ ap (λ (ms : List Message). drop received (take r.sent ms)) e

-- one that has no message
none-dropped : (n : ℕ) → drop {A = Message} n [] ≡ []
none-dropped zero = refl
none-dropped (suc n) = refl

pub waiting-none : (phase : Phase) (q : Queue) (received : ℕ) → (phase ≡ Live → q.all ≡ []) → waiting_in phase q received ≡ []
waiting-none Live q received e = ap (drop received) (e refl) ∙ none-dropped received
waiting-none Moved q received e = refl
waiting-none Gone q received e = refl

-- ---- one message more comes

module _ (test : Message → Bool) (q : Queue) (received : ℕ) (m : Message) (first : slice_get q.all received ≡ Some m) where
  pub comes-off : (phase : Phase) → (phase ≡ Moved → ⊥) → received < q.sent →
      count_by test (waiting_in phase q received) + count_by test (given_up_in phase q received)
      ≡ one_if (test m) + (count_by test (waiting_in phase q (received + 1)) + count_by test (given_up_in phase q (received + 1)))
  comes-off Live there sent = omega (arith, count-cons test m (drop (received + 1) q.all), ap (count_by test) (drop-first q.all received m first))
  comes-off Moved there sent = absurd (there refl)
  comes-off Gone there sent =
      omega (
        arith,
        count-cons test m (drop (received + 1) (take q.sent q.all)),
        ap (count_by test) (drop-first (take q.sent q.all) received m (taken-there q.all received q.sent m sent first)),
      )

  pub given-fewer : (phase : Phase) → count_by test (given_up_in phase q (received + 1)) ≤ count_by test (given_up_in phase q received)
  given-fewer Live = omega arith
  given-fewer Moved = omega arith
  given-fewer Gone = drop-fewer test (take q.sent q.all) received (received + 1) (omega arith)

-- ---- lines with the same messages

-- no more messages of the near end are under way than on another line; as many are booked, and no more are lost
pub record IsSame (z y : Line) : Type 0 where
  pub way : (test : Message → Bool) → on_its_way test z ≤ on_its_way test y
  pub each : (test : Message → Bool) → booked test z ≡ booked test y
  pub lost : (test : Message → Bool) → lost test z ≤ lost test y
  pub came : (test : Message → Bool) → count_by test z.near.came ≡ count_by test y.near.came

pub same : (z y : Line) → waiting z ≡ waiting y → given_up z ≡ given_up y → z.near.came ≡ y.near.came → z.near.gone ≡ y.near.gone → IsSame z y
same z y w g c n = record {
  way = λ test. omega (arith, ap (count_by test) w, ap (count_by test) g);
  each = λ test. omega (arith, ap (count_by test) w, ap (count_by test) g, ap (count_by test) c, ap (count_by test) n);
  lost = λ test. omega (arith, ap (count_by test) g, ap (count_by test) n);
  came = λ test. ap (count_by test) c;
}
