-- One octet that was taken: it goes into the open line, ends it, or makes it too long.
use Rattle.script.proofs.Basics.{◌≡◌, ℕ, ◌+◌, ◌≤◌, ◌<◌, Bool, true, false, List, [], ◌∷◌, ◌++◌, Option, None, Some, Result, Ok, Err, length, nat_lt, refl, sym, ◌∙◌, ap, arith, append_assoc, append-nil, length-append, subst, if◌then◌else◌, nat_tests, Kept, KeptQueues, kept, Plain, Reading, IsMalformed, parsed_line, lines, AppendsFirst, AppendsAtLeast, Reached, silent, stopped, line_run, whole_line, open_run, onto, unless_ended, behind, first_of, behind_first, lines_run, Does, LineSoFar, Grows, rest_run, HasTaken, DoesLine, LINE_OCTETS, ScriptFault, Read, Write, Line, TooManyReads, NoMemory, begun, parted-some, lt-ltb, parted-unmarked}
use Rattle.script.specs.declared.run.Grown.TheVariants.{Open, TooLong, Whole}
use Rattle.script.proofs.Appending.{least-nothing, appends-nothing}

pub lines-nonfeed : (front : List ℕ) (c : ℕ) (rest : List ℕ) → (c ≡ 10 → ⊥) → begun front (lines (c ∷ rest)) ≡ begun (front ++ (c ∷ [])) (lines rest)
lines-nonfeed front c rest h = parted-unmarked 10 front c rest h

-- ---- lines in a row

pub line-first : {Q : Type 0} → (a b : List ℕ) (r : Reached Q) → onto a (onto b r) ≡ onto (a ++ b) r
line-first a b r = ap (λ (text : List ℕ). record r { text = text }) (sym (append_assoc a b r.text))

behind-going : (r : Reached KeptQueues) (next : Kept → Reached KeptQueues) → r.fault ≡ None → behind r next ≡ onto r.text (next r.state)
behind-going r next h = ap (λ (f : Option ℕ). unless_ended f r next) h

behind-ended : (r : Reached KeptQueues) (next : Kept → Reached KeptQueues) (number : ℕ) → r.fault ≡ Some number → behind r next ≡ r
behind-ended r next number h = ap (λ (f : Option ℕ). unless_ended f r next) h

test-false : (a b : ℕ) → b ≤ a → nat_lt a b ≡ false
test-false a b h = grind (arith, nat_tests)

if-false : {A : Type 0} → (b : Bool) (x y : A) → b ≡ false → (if b then x else y) ≡ y
if-false true x y h = cc h
if-false false x y h = refl

if-true : {A : Type 0} → (b : Bool) (x y : A) → b ≡ true → (if b then x else y) ≡ x
if-true true x y h = refl
if-true false x y h = cc h

-- a line that is short enough is read
whole_line-short : (line : List ℕ) → length line ≤ LINE_OCTETS → whole_line line ≡ parsed_line Plain line
whole_line-short line h = if-false (nat_lt LINE_OCTETS (length line)) _ (parsed_line Plain line) (test-false LINE_OCTETS (length line) h)

-- one that is too long ends the script, whether its line feed is there or not
stopped-long : (most number : ℕ) (refused : List Bool) (line : List ℕ) (more : List (List ℕ)) (s : Kept) → LINE_OCTETS < length line → most ≤ LINE_OCTETS
    → lines_run kept most number refused (line ∷ more) s ≡ stopped number s
stopped-long most number refused line [] s h k = if-true (nat_lt most (length line)) (stopped number s) (silent s) (lt-ltb most (length line) (omega (arith, h, k)))
stopped-long most number refused line (next ∷ more) s h k =
    let long : whole_line line ≡ IsMalformed = if-true (nat_lt LINE_OCTETS (length line)) _ (parsed_line Plain line) (lt-ltb LINE_OCTETS (length line) h) in
    ap (λ (r : Reading). behind (line_run kept number (first_of refused) r s) (λ (t : Kept). lines_run kept most (number + 1) (behind_first refused) (next ∷ more) t)) long

-- ---- one octet

-- any other octet than a line feed goes into the front line
pub octet-kept : (octet : ℕ) (line : LineSoFar) (s : Kept) (w : Option (List ℕ)) → (octet ≡ 10 → ⊥)
    → HasTaken (octet ∷ []) (Ok tt) line (record line { octets = line.octets ++ octet ∷ [] }) s s w w
octet-kept octet line s w h = record {
  text = [];
  refused = [];
  wrote = appends-nothing w;
  rest = λ most later more k. ap (λ (parts : List (List ℕ)). lines_run kept most line.number later parts s) (lines-nonfeed line.octets octet more h);
}

-- an front line with one octet more than a line may have
long-first : (most number : ℕ) (refused : List Bool) (front : List ℕ) (octet : ℕ) (parts : List (List ℕ)) (s : Kept) → 0 < length parts
    → LINE_OCTETS ≤ length front → most ≤ LINE_OCTETS
    → lines_run kept most number refused (begun (front ++ octet ∷ []) parts) s ≡ stopped number s
long-first most number refused front octet [] s some h k = absurd (omega (arith, some))
long-first most number refused front octet (part ∷ parts) s some h k =
    let e = length-append (front ++ octet ∷ []) part in
    let f = length-append front (octet ∷ []) in
    stopped-long most number refused ((front ++ octet ∷ []) ++ part) parts s (omega (arith, e, f, h)) k

long-run : (octet : ℕ) (refused : List Bool) (line : LineSoFar) (s : Kept) (most : ℕ) (more : List ℕ) → (octet ≡ 10 → ⊥) → LINE_OCTETS ≤ length line.octets
    → most ≤ LINE_OCTETS → rest_run most refused line (octet ∷ more) s ≡ stopped line.number s
long-run octet refused line s most more other long k =
    ap (λ (parts : List (List ℕ)). lines_run kept most line.number refused parts s) (lines-nonfeed line.octets octet more other)
    ∙ long-first most line.number refused line.octets octet (lines more) s (parted-some 10 more) long k

-- an open line that isn't too long prints nothing while more may come
pub open-line : (refused : List Bool) (line : LineSoFar) (s : Kept) → length line.octets ≤ LINE_OCTETS → rest_run LINE_OCTETS refused line [] s ≡ silent s
open-line refused line s short =
    ap (λ (text : List ℕ). open_run LINE_OCTETS line.number text s) (append-nil line.octets)
    ∙ if-false (nat_lt LINE_OCTETS (length line.octets)) (stopped line.number s) (silent s) (test-false LINE_OCTETS (length line.octets) short)

-- so nothing went out before its last octet
least-open : (refused : List Bool) (line : LineSoFar) (s : Kept) (w0 w1 : Option (List ℕ)) (xs : List ℕ) → length line.octets ≤ LINE_OCTETS → AppendsFirst w0 w1 xs
    → AppendsAtLeast (length (rest_run LINE_OCTETS refused line [] s).text) w0 w1 xs
least-open refused line s w0 w1 xs short h =
    least-nothing (rest_run LINE_OCTETS refused line [] s).text w0 w1 xs (ap (λ (r : Reached KeptQueues). r.text) (open-line refused line s short)) h

pub octet-too_many : (octet : ℕ) (line next : LineSoFar) (s : Kept) (result : Result Unit ScriptFault) (w0 w1 : Option (List ℕ))
    → (octet ≡ 10 → ⊥) → length line.octets ≤ LINE_OCTETS → LINE_OCTETS ≤ length line.octets
    → Does (stopped line.number s) result s w0 w1 → HasTaken (octet ∷ []) result line next s s w0 w1
octet-too_many octet line next s (Ok x) w0 w1 other short long h = cc (h.0)
octet-too_many octet line next s (Err (Line number)) w0 w1 other short long h = record {
  text = (stopped line.number s).text;
  refused = [];
  wrote = h.2;
  rest = λ most more k.
      long-run octet [] line s most more other long k
      ∙ ap (λ (f : Option ℕ). record { text = (stopped line.number s).text; state = s; fault = f }) h.0;
}
octet-too_many octet line next s (Err Write) w0 w1 other short long h =
    let run = long-run octet [] line s LINE_OCTETS [] other long (omega arith) in
    record {
      front = [];
      last = octet;
      more = [];
      refused = [];
      are = refl;
      state = ap (λ (r : Reached KeptQueues). r.state) run;
      wrote = least-open [] line s w0 w1 _ short (subst (λ (r : Reached KeptQueues). AppendsFirst w0 w1 r.text) (sym run) h.1);
    }
octet-too_many octet line next s (Err Read) w0 w1 other short long h = absurd h
octet-too_many octet line next s (Err TooManyReads) w0 w1 other short long h = absurd h
octet-too_many octet line next s (Err NoMemory) w0 w1 other short long h = absurd h

-- a line feed ends the front line
ended-first : (most number : ℕ) (lacking : Bool) (later : List Bool) (line : List ℕ) (parts : List (List ℕ)) (s : Kept) → 0 < length parts
    → lines_run kept most number (lacking ∷ later) (line ∷ parts) s
    ≡ behind (line_run kept number lacking (whole_line line) s) (λ t. lines_run kept most (number + 1) later (begun [] parts) t)
ended-first most number lacking later line [] s some = absurd (omega (arith, some))
ended-first most number lacking later line (part ∷ parts) s some = refl

-- the line after one
abbrev next_line : LineSoFar → LineSoFar
next_line line = record { octets = []; number = line.number + 1 }

line-ended : (lacking : Bool) (later : List Bool) (line : LineSoFar) (s : Kept) (most : ℕ) (more : List ℕ) → length line.octets ≤ LINE_OCTETS
    → rest_run most (lacking ∷ later) line (10 ∷ more) s
    ≡ behind (line_run kept line.number lacking (parsed_line Plain line.octets) s) (rest_run most later (next_line line) more)
line-ended lacking later line s most more short =
    ended-first most line.number lacking later (line.octets ++ []) (lines more) s (parted-some 10 more)
    ∙ ap (λ (octets : List ℕ). behind (line_run kept line.number lacking (whole_line octets) s) (rest_run most later (next_line line) more)) (append-nil line.octets)
    ∙ ap (λ (r : Reading). behind (line_run kept line.number lacking r s) (rest_run most later (next_line line) more)) (whole_line-short line.octets short)

feed-done : (lacking : Bool) (line : LineSoFar) (s after : Kept) (x : Unit) (w0 w1 : Option (List ℕ)) → length line.octets ≤ LINE_OCTETS
    → Does (line_run kept line.number lacking (parsed_line Plain line.octets) s) (Ok x) after w0 w1
    → HasTaken (10 ∷ []) (Ok tt) line (next_line line) s after w0 w1
feed-done lacking line s after x w0 w1 short h =
    let r = line_run kept line.number lacking (parsed_line Plain line.octets) s in
    record {
      text = r.text;
      refused = lacking ∷ [];
      wrote = h.2;
      rest = λ most later more k.
          line-ended lacking later line s most more short ∙ behind-going r (rest_run most later (next_line line) more) h.0
          ∙ ap (λ (t : Kept). onto r.text (rest_run most later (next_line line) more t)) h.1;
    }

-- what the last octets print, if nothing comes after them
behind-nothing : (r : Reached KeptQueues) (b : Option ℕ) (next : Kept → Reached KeptQueues) → r.fault ≡ b
    → ((t : Kept) → next t ≡ silent t) → ((behind r next).state ≡ r.state) × ((behind r next).text ≡ r.text)
behind-nothing r None next h e =
    let same = behind-going r next h ∙ ap (λ (x : Reached KeptQueues). onto r.text x) (e r.state) in
    (ap (λ (x : Reached KeptQueues). x.state) same, ap (λ (x : Reached KeptQueues). x.text) same ∙ append-nil r.text)
behind-nothing r (Some number) next h e =
    let same = behind-ended r next number h in (ap (λ (x : Reached KeptQueues). x.state) same, ap (λ (x : Reached KeptQueues). x.text) same)

feed-broken : (lacking : Bool) (line next : LineSoFar) (s after : Kept) (fault : ScriptFault) (w0 w1 : Option (List ℕ)) → length line.octets ≤ LINE_OCTETS
    → Does (line_run kept line.number lacking (parsed_line Plain line.octets) s) (Err fault) after w0 w1
    → HasTaken (10 ∷ []) (Err fault) line next s after w0 w1
feed-broken lacking line next s after (Line number) w0 w1 short h =
    let r = line_run kept line.number lacking (parsed_line Plain line.octets) s in
    record {
      text = r.text;
      refused = lacking ∷ [];
      wrote = h.2;
      rest = λ most more k.
          line-ended lacking [] line s most more short
          ∙ behind-ended r (rest_run most [] (next_line line) more) number h.0
          ∙ ap (λ (t : Kept). record { text = r.text; state = t; fault = r.fault }) h.1
          ∙ ap (λ (f : Option ℕ). record { text = r.text; state = after; fault = f }) h.0;
    }
feed-broken lacking line next s after Write w0 w1 short h =
    let r = line_run kept line.number lacking (parsed_line Plain line.octets) s in
    let run = line-ended lacking [] line s LINE_OCTETS [] short in
    let same = behind-nothing r r.fault (rest_run LINE_OCTETS [] (next_line line) []) refl (λ t. refl) in
    record {
      front = [];
      last = 10;
      more = [];
      refused = lacking ∷ [];
      are = refl;
      state = ap (λ (x : Reached KeptQueues). x.state) run ∙ same.0 ∙ h.0;
      wrote = least-open (lacking ∷ []) line s w0 w1 _ short (subst (λ (text : List ℕ). AppendsFirst w0 w1 text) (sym (ap (λ (x : Reached KeptQueues). x.text) run ∙ same.1)) h.1);
    }
feed-broken lacking line next s after Read w0 w1 short h = absurd h
feed-broken lacking line next s after TooManyReads w0 w1 short h = absurd h
feed-broken lacking line next s after NoMemory w0 w1 short h = absurd h

pub line-done : (octet : ℕ) (line : LineSoFar) (text : List ℕ) (s after : Kept) (x : Unit) (w0 w1 : Option (List ℕ)) → octet ≡ 10
    → length line.octets ≤ LINE_OCTETS → text ≡ line.octets
    → DoesLine line.number (parsed_line Plain text) s (Ok x) after w0 w1
    → HasTaken (octet ∷ []) (Ok tt) line (record { octets = []; number = line.number + 1 }) s after w0 w1
line-done octet line text s after x w0 w1 feed short same (lacking, h) =
    subst (λ (n : ℕ). HasTaken (n ∷ []) (Ok tt) line (record { octets = []; number = line.number + 1 }) s after w0 w1) (sym feed)
    (feed-done lacking line s after x w0 w1 short
    (subst (λ (octets : List ℕ). Does (line_run kept line.number lacking (parsed_line Plain octets) s) (Ok x) after w0 w1) same h))

pub line-broken : (octet : ℕ) (line next : LineSoFar) (text : List ℕ) (s after : Kept) (fault : ScriptFault) (w0 w1 : Option (List ℕ)) → octet ≡ 10
    → length line.octets ≤ LINE_OCTETS → text ≡ line.octets
    → DoesLine line.number (parsed_line Plain text) s (Err fault) after w0 w1
    → HasTaken (octet ∷ []) (Err fault) line next s after w0 w1
line-broken octet line next text s after fault w0 w1 feed short same (lacking, h) =
    subst (λ (n : ℕ). HasTaken (n ∷ []) (Err fault) line next s after w0 w1) (sym feed)
    (feed-broken lacking line next s after fault w0 w1 short
    (subst (λ (octets : List ℕ). Does (line_run kept line.number lacking (parsed_line Plain octets) s) (Err fault) after w0 w1) same h))

-- ---- the same by what the octet does to the open line

pub grown-kept : (octet : ℕ) (line next : LineSoFar) (s : Kept) (w : Option (List ℕ)) → Grows Open octet line next
    → HasTaken (octet ∷ []) (Ok tt) line next s s w w
grown-kept octet line next s w g =
    subst (λ (n : LineSoFar). HasTaken (octet ∷ []) (Ok tt) line n s s w w) (sym g.1) (octet-kept octet line s w g.0)

pub grown-too_long : (octet : ℕ) (line next : LineSoFar) (s : Kept) (result : Result Unit ScriptFault) (w0 w1 : Option (List ℕ))
    → Grows TooLong octet line next → length next.octets ≤ LINE_OCTETS → Does (stopped next.number s) result s w0 w1
    → HasTaken (octet ∷ []) result line next s s w0 w1
grown-too_long octet line next s result w0 w1 g short d =
    octet-too_many octet line next s result w0 w1 g.0
    (subst (λ (n : LineSoFar). length n.octets ≤ LINE_OCTETS) g.2 short) g.1
    (subst (λ (n : LineSoFar). Does (stopped n.number s) result s w0 w1) g.2 d)

pub grown-done : (octet : ℕ) (line next : LineSoFar) (text : List ℕ) (s after : Kept) (x : Unit) (w0 w1 : Option (List ℕ))
    → Grows Whole octet line next → length next.octets ≤ LINE_OCTETS → text ≡ next.octets
    → DoesLine next.number (parsed_line Plain text) s (Ok x) after w0 w1
    → HasTaken (octet ∷ []) (Ok tt) line (record { octets = []; number = next.number + 1 }) s after w0 w1
grown-done octet line next text s after x w0 w1 g short same d =
    subst (λ (n : LineSoFar). HasTaken (octet ∷ []) (Ok tt) line (record { octets = []; number = n.number + 1 }) s after w0 w1) (sym g.1)
    (line-done octet line text s after x w0 w1 g.0
    (subst (λ (n : LineSoFar). length n.octets ≤ LINE_OCTETS) g.1 short) (same ∙ ap (λ (n : LineSoFar). n.octets) g.1)
    (subst (λ (n : LineSoFar). DoesLine n.number (parsed_line Plain text) s (Ok x) after w0 w1) g.1 d))

pub grown-broken : (octet : ℕ) (line next : LineSoFar) (text : List ℕ) (s after : Kept) (fault : ScriptFault) (w0 w1 : Option (List ℕ))
    → Grows Whole octet line next → length next.octets ≤ LINE_OCTETS → text ≡ next.octets
    → DoesLine next.number (parsed_line Plain text) s (Err fault) after w0 w1
    → HasTaken (octet ∷ []) (Err fault) line next s after w0 w1
grown-broken octet line next text s after fault w0 w1 g short same d =
    line-broken octet line next text s after fault w0 w1 g.0
    (subst (λ (n : LineSoFar). length n.octets ≤ LINE_OCTETS) g.1 short) (same ∙ ap (λ (n : LineSoFar). n.octets) g.1)
    (subst (λ (n : LineSoFar). DoesLine n.number (parsed_line Plain text) s (Err fault) after w0 w1) g.1 d)
