-- How many answers are due in the end stays as it is, whatever is read.
use Rattle.std.proofs.Common.{◌≡◌, ◌∙◌, ℕ, List, [], ◌∷◌, ◌++◌, true, false, Option, None, Some, refl, sym, ap}
use Rattle.std.specs.Prelude.{Result, Ok, Err, OnOk}
use Rattle.std.specs.Io.KnownBytes.{Consumes, IsAtEnd}
use Rattle.program.specs.ConsoleLines.{Written, Sending, with, closed, owes, IsOwed}

with-with : (xs ys : List ℕ) (w : Written) → with (xs ++ ys) w ≡ with ys (with xs w)
with-with [] ys w = refl
with-with (octet ∷ xs) ys w = with-with xs ys _

owed-end-of : (known known_new : Option (List ℕ)) (lines : Written) → Consumes known known_new [] → IsAtEnd known_new
    → IsOwed known known_new (record { lines = lines; has_ended = false }) (record { lines = closed lines; has_ended = true })
owed-end-of None known_new lines consumes end due e = cc e
owed-end-of (Some xs) None lines consumes end due e = absurd consumes
owed-end-of (Some xs) (Some ys) lines consumes end due e = rw (consumes, end) at e

owed-more-of : (known known_new : Option (List ℕ)) (piece : List ℕ) (lines : Written) → Consumes known known_new piece
    → IsOwed known known_new (record { lines = lines; has_ended = false }) (record { lines = with piece lines; has_ended = false })
owed-more-of None known_new piece lines consumes due e = cc e
owed-more-of (Some xs) None piece lines consumes due e = absurd consumes
owed-more-of (Some xs) (Some ys) piece lines consumes due e =
    ap (λ (w : Written). Some (closed w).due) (sym (with-with piece ys lines) ∙ ap (λ (octets : List ℕ). with octets lines) (sym consumes)) ∙ e

eta : (s : Sending) → s.has_ended ≡ false → s ≡ record { lines = s.lines; has_ended = false }
eta s more = rw (← more) refl

-- at the end
pub owed-end : (known known_new : Option (List ℕ)) (piece : List ℕ) (s s_new : Sending) → s.has_ended ≡ false → piece ≡ [] → Consumes known known_new piece
    → IsAtEnd known_new → s_new ≡ record { lines = closed s.lines; has_ended = true } → IsOwed known known_new s s_new
owed-end known known_new piece s s_new more none consumes end e = rw (e, eta s more) (owed-end-of known known_new s.lines (rw none at consumes) end)

-- before it
pub owed-more : (known known_new : Option (List ℕ)) (piece : List ℕ) (s s_new : Sending) → s.has_ended ≡ false → Consumes known known_new piece
    → s_new ≡ record s { lines = with piece s.lines } → IsOwed known known_new s s_new
owed-more known known_new piece s s_new more consumes e = rw (e, eta s more) (owed-more-of known known_new piece s.lines consumes)

-- nothing is read
pub owed-same : (known : Option (List ℕ)) (s : Sending) → IsOwed known known s s
owed-same known s due e = e

-- one after another
pub owed-owed : (known0 known1 known2 : Option (List ℕ)) (s0 s1 s2 : Sending) → IsOwed known0 known1 s0 s1 → IsOwed known1 known2 s1 s2 → IsOwed known0 known2 s0 s2
owed-owed known0 known1 known2 s0 s1 s2 first next due e = next due (first due e)

-- where no more lines follow, the answers to those that there are
pub owed-all : (known : Option (List ℕ)) (s : Sending) → s.has_ended ≡ true → (due : ℕ) → owes known s ≡ Some due → s.lines.due ≡ due
owed-all known s ended due e = cc (rw ended at e)

pub on-ok : {A E : Type 0} (result : Result A E) (P Q : Type 0) → (P → Q) → OnOk result P → OnOk result Q
on-ok (Ok x) P Q f h = f h
on-ok (Err e) P Q f h = tt
