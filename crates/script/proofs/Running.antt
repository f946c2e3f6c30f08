-- A run that goes on piece by piece, and how it ends.
use Rattle.script.proofs.Basics.{◌≡◌, ℕ, Bool, ◌+◌, ◌≤◌, List, [], ◌∷◌, ◌++◌, Option, None, Some, Result, Ok, Err, length, refl, sym, ◌∙◌, ap, arith, append_assoc, append-nil, length-append, subst, inl, inr, Appends, Consumes, Keeps, IsAtEnd, Kept, KeptQueues, kept, lines, AppendsAtLeast, Reached, silent, onto, lines_run, run_so_far, whole_run, Does, RunsBy, Runs, LineSoFar, first_line, rest_run, GoesOn, HasTaken, LINE_OCTETS, READS, ScriptFault, Read, Write, Line, TooManyReads, NoMemory, begun-nothing}
use Rattle.script.specs.Faults.{EndsAtLine, reads_failed, MakesReads}
use Rattle.script.proofs.Appending.{appends-appends, appends-least, appends-nothing}
use Rattle.script.proofs.OneOctet.{open-line}
use Rattle.script.proofs.Taken.{taken-nothing, taken-more}

-- ---- piece by piece

pub consumes-consumes : (a b c : Option (List ℕ)) (xs ys : List ℕ) → Consumes a b xs → Consumes b c ys → Consumes a c (xs ++ ys)
consumes-consumes None b c xs ys h k = tt
consumes-consumes (Some a) None c xs ys h k = absurd h
consumes-consumes (Some a) (Some b) None xs ys h k = absurd k
consumes-consumes (Some a) (Some b) (Some c) xs ys h k = h ∙ ap (λ (v : List ℕ). xs ++ v) k ∙ sym (append_assoc xs ys c)

consumes-keeps : (a b c : Option (List ℕ)) (xs : List ℕ) → Consumes a b xs → Keeps b c → Consumes a c xs
consumes-keeps None b c xs h k = tt
consumes-keeps (Some a) None c xs h k = absurd h
consumes-keeps (Some a) (Some b) None xs h k = absurd k
consumes-keeps (Some a) (Some b) (Some c) xs h k = h ∙ ap (λ (v : List ℕ). xs ++ v) (sym k)

pub consumes-nothing : (a : Option (List ℕ)) → Consumes a a []
consumes-nothing None = tt
consumes-nothing (Some a) = refl

-- the octets so far, at least n, were taken, and led to the open line and the state
pub record Progress (least : ℕ) (before : Kept) (left left_new written written_new : Option (List ℕ)) (line : LineSoFar) (s : Kept) : Type 0 where
  pub octets : List ℕ
  pub many : least ≤ length octets
  pub consumed : Consumes left left_new octets
  pub taken : GoesOn octets first_line line before s written written_new

pub no-progress : (before : Kept) (left written : Option (List ℕ)) → Progress 0 before left left written written first_line before
no-progress before left written = record {
  octets = [];
  many = omega arith;
  consumed = consumes-nothing left;
  taken = taken-nothing first_line before written;
}

pub more-progress : (least most : ℕ) (before s after : Kept) (left left_mid left_new w0 w1 w2 : Option (List ℕ)) (line next : LineSoFar) (piece : List ℕ)
    → most ≤ least + length piece
    → Progress least before left left_mid w0 w1 line s → Consumes left_mid left_new piece → HasTaken piece (Ok tt) line next s after w1 w2
    → Progress most before left left_new w0 w2 next after
more-progress least most before s after left left_mid left_new w0 w1 w2 line next piece enough p consumed taken = record {
  octets = p.octets ++ piece;
  many = let both = length-append p.octets piece in let some = p.many in omega (arith, enough, both, some);
  consumed = consumes-consumes left left_mid left_new p.octets piece p.consumed consumed;
  taken = taken-more p.octets piece tt (Ok tt) first_line line next before s after w0 w1 w2 p.taken taken;
}

-- ---- how a run ends

-- the run of a script is that of what is left of it before its first octet
from-first : (most : ℕ) (refused : List Bool) (octets : List ℕ) (s : Kept) → lines_run kept most 1 refused (lines octets) s ≡ rest_run most refused first_line (octets ++ []) s
from-first most refused octets s =
    ap (λ (parts : List (List ℕ)). lines_run kept most 1 refused parts s) (sym (begun-nothing (lines octets)))
    ∙ ap (λ (text : List ℕ). rest_run most refused first_line text s) (sym (append-nil octets))

-- where the octets so far lead, with the open line at the end of what there is
so-far : (least : ℕ) (before s : Kept) (left left_new w0 w1 : Option (List ℕ)) (line : LineSoFar) (most : ℕ) → most ≤ LINE_OCTETS
    → (p : Progress least before left left_new w0 w1 line s) → lines_run kept most 1 p.taken.refused (lines p.octets) before ≡ onto p.taken.text (rest_run most [] line [] s)
so-far least before s left left_new w0 w1 line most m p =
    from-first most p.taken.refused p.octets before
    ∙ ap (λ (refused : List Bool). rest_run most refused first_line (p.octets ++ []) before) (sym (append-nil p.taken.refused))
    ∙ p.taken.rest most [] [] m

open-so-far : (least : ℕ) (before s : Kept) (left left_new w0 w1 : Option (List ℕ)) (line : LineSoFar) → length line.octets ≤ LINE_OCTETS
    → (p : Progress least before left left_new w0 w1 line s) → run_so_far kept p.taken.refused p.octets before ≡ onto p.taken.text (silent s)
open-so-far least before s left left_new w0 w1 line short p =
    so-far least before s left left_new w0 w1 line LINE_OCTETS (omega arith) p ∙ ap (λ (r : Reached KeptQueues). onto p.taken.text r) (open-line [] line s short)

does-so-far : (least : ℕ) (before s : Kept) (left left_new w0 w1 : Option (List ℕ)) (line : LineSoFar) → length line.octets ≤ LINE_OCTETS
    → (p : Progress least before left left_new w0 w1 line s) → Does (run_so_far kept p.taken.refused p.octets before) (Ok tt) s w0 w1
does-so-far least before s left left_new w0 w1 line short p =
    subst (λ (r : Reached KeptQueues). Does r (Ok tt) s w0 w1) (sym (open-so-far least before s left left_new w0 w1 line short p))
    (refl, refl, appends-appends w0 w1 w1 p.taken.text [] p.taken.wrote (appends-nothing w1))

pub at-failed-read : (least : ℕ) (before s : Kept) (left left_mid left_new w0 w1 : Option (List ℕ)) (line : LineSoFar) → length line.octets ≤ LINE_OCTETS
    → Progress least before left left_mid w0 w1 line s → Keeps left_mid left_new → Runs kept (Err Read) before s left left_new w0 w1
at-failed-read least before s left left_mid left_new w0 w1 line short p h =
    (p.taken.refused, (p.octets, omega arith, consumes-keeps left left_mid left_new p.octets p.consumed h, does-so-far least before s left left_mid w0 w1 line short p))

pub at-last-read : (least : ℕ) (before s : Kept) (left left_new w0 w1 : Option (List ℕ)) (line : LineSoFar) → length line.octets ≤ LINE_OCTETS
    → READS ≤ least → Progress least before left left_new w0 w1 line s → Runs kept (Err TooManyReads) before s left left_new w0 w1
at-last-read least before s left left_new w0 w1 line short all p =
    let some = p.many in (p.taken.refused, (p.octets, omega (arith, all, some), p.consumed, does-so-far least before s left left_new w0 w1 line short p))

-- the end of the input: at least n octets were written, even if a write failed
abbrev DoesAtLeast : (least : ℕ) → Reached KeptQueues → Result Unit ScriptFault → Kept → (w0 w1 : Option (List ℕ)) → Type 0
DoesAtLeast least r (Ok x) after w0 w1 = Does r (Ok x) after w0 w1
DoesAtLeast least r (Err (Line number)) after w0 w1 = Does r (Err (Line number)) after w0 w1
DoesAtLeast least r (Err Write) after w0 w1 = (r.state ≡ after) × AppendsAtLeast least w0 w1 r.text
DoesAtLeast least r (Err other) after w0 w1 = ⊥

does-onto : (text : List ℕ) (r : Reached KeptQueues) (result : Result Unit ScriptFault) (after : Kept) (w0 w1 w2 : Option (List ℕ))
    → Appends w0 w1 text → Does r result after w1 w2 → DoesAtLeast (length text) (onto text r) result after w0 w2
does-onto text r (Ok x) after w0 w1 w2 h k = (k.0, k.1, appends-appends w0 w1 w2 text r.text h k.2)
does-onto text r (Err (Line number)) after w0 w1 w2 h k = (k.0, k.1, appends-appends w0 w1 w2 text r.text h k.2)
does-onto text r (Err Write) after w0 w1 w2 h k =
    let first = appends-least 0 w0 w1 w2 text r.text h (k.1.0, omega arith, k.1.1) in let some = first.1 in (k.0, (first.0, omega (arith, some), first.2))
does-onto text r (Err other) after w0 w1 w2 h k = absurd k

runs-whole : (refused : List Bool) (octets : List ℕ) (before s : Kept) (result : Result Unit ScriptFault) (left left_new w0 w1 : Option (List ℕ))
    → Consumes left left_new octets → IsAtEnd left_new → DoesAtLeast (length (run_so_far kept refused octets before).text) (whole_run kept refused octets before) result s w0 w1
    → RunsBy kept refused result before s left left_new w0 w1
runs-whole refused octets before s (Ok x) left left_new w0 w1 consumed done does = (octets, consumed, done, does)
runs-whole refused octets before s (Err (Line number)) left left_new w0 w1 consumed done does =
    (octets, consumed, whole_run kept refused octets before, inr (refl, done, refl), does)
runs-whole refused octets before s (Err Write) left left_new w0 w1 consumed done does =
    let all = sym (append-nil octets) in (
      octets,
      None,
      [],
      subst (λ (xs : List ℕ). Consumes left left_new xs) all consumed,
      whole_run kept refused octets before,
      inr (refl, done, ap (λ (xs : List ℕ). whole_run kept refused xs before) all),
      does.0,
      does.1,
    )
runs-whole refused octets before s (Err other) left left_new w0 w1 consumed done does = absurd does

pub at-end : (least : ℕ) (before s : Kept) (left left_mid left_new w0 w1 w2 : Option (List ℕ)) (line : LineSoFar) (result : Result Unit ScriptFault) (piece : List ℕ)
    → length line.octets ≤ LINE_OCTETS → Progress least before left left_mid w0 w1 line s → piece ≡ [] → Consumes left_mid left_new piece → IsAtEnd left_new
    → Does (rest_run 0 [] line [] s) result s w1 w2 → Runs kept result before s left left_new w0 w2
at-end least before s left left_mid left_new w0 w1 w2 line result piece short p e consumed done does =
    let all : p.octets ++ piece ≡ p.octets = rw e (append-nil p.octets) in
    let refused : List Bool = p.taken.refused in
    let sent : (run_so_far kept refused p.octets before).text ≡ p.taken.text =
    ap (λ (r : Reached KeptQueues). r.text) (open-so-far least before s left left_mid w0 w1 line short p) ∙ append-nil p.taken.text in (
      refused,
      runs-whole refused p.octets before s result left left_new w0 w2
          (subst (λ (xs : List ℕ). Consumes left left_new xs) all (consumes-consumes left left_mid left_new p.octets piece p.consumed consumed)) done
          (subst (λ (r : Reached KeptQueues). DoesAtLeast (length (run_so_far kept refused p.octets before).text) r result s w0 w2)
          (sym (so-far least before s left left_mid w0 w1 line 0 (omega arith) p))
          (subst (λ (text : List ℕ). DoesAtLeast (length text) (onto p.taken.text (rest_run 0 [] line [] s)) result s w0 w2) (sym sent)
          (does-onto p.taken.text (rest_run 0 [] line [] s) result s w0 w1 w2 p.taken.wrote does))),
    )

-- a fault in a piece
runs-broken : (octets : List ℕ) (before after : Kept) (fault : ScriptFault) (line next : LineSoFar) (left left_new w0 w1 : Option (List ℕ))
    → Consumes left left_new octets → HasTaken octets (Err fault) first_line next before after w0 w1 → Runs kept (Err fault) before after left left_new w0 w1
runs-broken octets before after (Line number) line next left left_new w0 w1 consumed h =
    let run : Reached KeptQueues = run_so_far kept h.refused octets before in
    let same : run ≡ record { text = h.text; state = after; fault = Some number } =
    from-first LINE_OCTETS h.refused octets before ∙ h.rest LINE_OCTETS [] (omega arith) in (
      h.refused,
      (
        octets,
        consumed,
        run,
        inl refl,
        subst (λ (r : Reached KeptQueues). Does r (Err (Line number)) after w0 w1) (sym same) (refl, refl, h.wrote),
      ),
    )
runs-broken octets before after Write line next left left_new w0 w1 consumed h =
    let same : (text : List ℕ) → run_so_far kept h.refused text before ≡ rest_run LINE_OCTETS h.refused first_line text before =
    λ text. ap (λ (parts : List (List ℕ)). lines_run kept LINE_OCTETS 1 h.refused parts before) (sym (begun-nothing (lines text))) in
    let to = h.front ++ h.last ∷ [] in (
      h.refused,
      (
        h.front,
        Some h.last,
        h.more,
        subst (λ (xs : List ℕ). Consumes left left_new xs) h.are consumed,
        run_so_far kept h.refused to before,
        inl refl,
        ap (λ (r : Reached KeptQueues). r.state) (same to) ∙ h.state,
        subst (λ (r : Reached KeptQueues). AppendsAtLeast (length r.text) w0 w1 (run_so_far kept h.refused to before).text) (sym (same h.front))
            (subst (λ (r : Reached KeptQueues). AppendsAtLeast (length (rest_run LINE_OCTETS h.refused first_line h.front before).text) w0 w1 r.text) (sym (same to)) h.wrote),
      ),
    )
runs-broken octets before after Read line next left left_new w0 w1 consumed h = absurd h
runs-broken octets before after TooManyReads line next left left_new w0 w1 consumed h = absurd h
runs-broken octets before after NoMemory line next left left_new w0 w1 consumed h = absurd h

pub at-fault : (least : ℕ) (before s after : Kept) (left left_mid left_new w0 w1 w2 : Option (List ℕ)) (line next : LineSoFar) (fault : ScriptFault) (piece : List ℕ)
    → Progress least before left left_mid w0 w1 line s → Consumes left_mid left_new piece → HasTaken piece (Err fault) line next s after w1 w2
    → Runs kept (Err fault) before after left left_new w0 w2
at-fault least before s after left left_mid left_new w0 w1 w2 line next fault piece p consumed taken =
    runs-broken (p.octets ++ piece) before after fault line next left left_new w0 w2
    (consumes-consumes left left_mid left_new p.octets piece p.consumed consumed)
    (taken-more p.octets piece tt (Err fault) first_line line next before s after w0 w1 w2 p.taken taken)

-- ---- how many reads were made and failed

pub end-reads-failed : (r : Reached KeptQueues) (result : Result Unit ScriptFault) (s : Kept) (w0 w1 : Option (List ℕ)) (n : ℕ)
    → Does r result s w0 w1 → reads_failed n result ≡ n
end-reads-failed r (Err Read) s w0 w1 n h = absurd h
end-reads-failed r (Err TooManyReads) s w0 w1 n h = absurd h
end-reads-failed r (Err NoMemory) s w0 w1 n h = absurd h
end-reads-failed r result s w0 w1 n h = refl

pub end-reads-made : (r : Reached KeptQueues) (result : Result Unit ScriptFault) (s : Kept) (w0 w1 : Option (List ℕ)) (old new : ℕ)
    → Does r result s w0 w1 → new ≤ old + READS → MakesReads result old new
end-reads-made r (Ok x) s w0 w1 old new h k = k
end-reads-made r (Err (Line number)) s w0 w1 old new h k = k
end-reads-made r (Err Write) s w0 w1 old new h k = k
end-reads-made r (Err other) s w0 w1 old new h k = absurd h

-- the same of a line that ended the script
pub line-reads-failed : (result : Result Unit ScriptFault) (n : ℕ) → EndsAtLine result → reads_failed n result ≡ n
line-reads-failed (Err Read) n h = absurd h
line-reads-failed (Err TooManyReads) n h = absurd h
line-reads-failed (Err NoMemory) n h = absurd h
line-reads-failed result n h = refl

pub line-reads-made : (result : Result Unit ScriptFault) (old new : ℕ) → EndsAtLine result → new ≤ old + READS → MakesReads result old new
line-reads-made (Ok x) old new h k = k
line-reads-made (Err (Line number)) old new h k = k
line-reads-made (Err Write) old new h k = k
line-reads-made (Err other) old new h k = absurd h
