-- What comes in pieces, one behind another.
use Rattle.std.proofs.Common.{◌≡◌, ◌∙◌, ℕ, ◌+◌, List, [], ◌∷◌, ◌++◌, Bool, true, false, Option, None, Some, refl, sym, ap, length, take, append_assoc, append-nil}
use Rattle.std.proofs.Math.Seq.{take-append-add}
use Rattle.std.specs.Io.KnownBytes.{Appends}
use Rattle.script.specs.Streams.{Output, counted}
use Rattle.program.specs.ConsoleAnswers.{Heard, read}
use Rattle.program.specs.ConsoleCalls.{Prints, Comes}

read-read : (xs ys : List ℕ) (h : Heard) → read ys (read xs h) ≡ read (xs ++ ys) h
read-read [] ys h = refl
read-read (octet ∷ xs) ys h = read-read xs ys _

appends-appends : (w0 w1 w2 : Option (List ℕ)) (xs ys : List ℕ) → Appends w0 w1 xs → Appends w1 w2 ys → Appends w0 w2 (xs ++ ys)
appends-appends None w1 w2 xs ys h k = tt
appends-appends (Some v0) None w2 xs ys h k = absurd h
appends-appends (Some v0) (Some v1) None xs ys h k = absurd k
appends-appends (Some v0) (Some v1) (Some v2) xs ys h k = k ∙ ap (λ (v : List ℕ). v ++ ys) h ∙ append_assoc v0 xs ys

appends-nothing : (w : Option (List ℕ)) → Appends w w []
appends-nothing None = tt
appends-nothing (Some written) = sym (append-nil written)

prints-prints : (has_failed : Bool) (xs ys : List ℕ) (w0 w1 w2 : Output) → Prints false xs w0 w1 → Prints has_failed ys w1 w2 → Prints has_failed (xs ++ ys) w0 w2
prints-prints false xs ys w0 w1 w2 h k = (appends-appends w0.written w1.written w2.written xs ys h.0 k.0, k.1 ∙ h.1)
prints-prints true xs ys w0 w1 w2 h k =
    let first = k.0 in (
      (length xs + first.0, rw (take-append-add xs ys first.0) (appends-appends w0.written w1.written w2.written xs (take first.0 ys) h.0 first.1)),
      k.1 ∙ ap counted h.1,
    )

-- nothing came
pub none-comes : (h : Heard) (w : Output) → Comes false [] h h w w
none-comes h w = record { hears = refl; prints = (appends-nothing w.written, refl) }

-- and then the next piece
pub comes-next : (has_failed : Bool) (xs ys : List ℕ) (h0 h1 h2 : Heard) (w0 w1 w2 : Output) → Comes false xs h0 h1 w0 w1 → Comes has_failed ys h1 h2 w1 w2
    → Comes has_failed (xs ++ ys) h0 h2 w0 w2
comes-next has_failed xs ys h0 h1 h2 w0 w1 w2 first next = record {
  hears = next.hears ∙ ap (read ys) first.hears ∙ read-read xs ys h0;
  prints = prints-prints has_failed xs ys w0 w1 w2 first.prints next.prints;
}

abbrev Came : Bool → (heard heard_new : Heard) (old new : Output) → Type 0
Came has_failed heard heard_new old new = (came : List ℕ) × Comes has_failed came heard heard_new old new

-- what came so far, and what the next read gives; whatever was done in between and behind it, nothing was heard by that
pub came-then : (has_failed : Bool) (h0 h1 g1 h2 g2 : Heard) (w0 w1 w2 : Output) → Came false h0 h1 w0 w1 → g1 ≡ h1 → Came has_failed g1 h2 w1 w2 → g2 ≡ h2
    → Came has_failed h0 g2 w0 w2
came-then has_failed h0 h1 g1 h2 g2 w0 w1 w2 first before next behind =
    rw behind (first.0 ++ next.0, comes-next has_failed first.0 next.0 h0 h1 h2 w0 w1 w2 first.1 (rw before at next.1))
