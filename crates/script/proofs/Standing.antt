-- A run over what an exchange keeps is the run over the abstract state that it stands for.
use Rattle.script.proofs.Basics.{◌≡◌, ℕ, zero, suc, ◌+◌, List, [], ◌∷◌, Option, None, Some, Result, Ok, Err, refl, sym, ◌∙◌, ap, subst, inl, inr, ◌++◌, Bool, true, false, nat_lt, length, option_to_list, if◌then◌else◌, Appends, WholeQueues, whole, KeptQueues, kept, Abstract, Kept, StandsFor, kept_of, after, Ticked, Asked, Reading, Skips, IsMalformed, Asks, Meaning, Calls, Passes, Shows, Refuses, meaning, answer_text, after_tick, after_ticks, meaning_printed, meaning_done, printed, done, AppendsFirst, AppendsAtLeast, lines, Reached, silent, stopped, line_run, whole_line, onto, unless_ended, behind, first_of, behind_first, lines_run, run_so_far, whole_run, LeadsTo, Does, RunsBy, Runs, LINE_OCTETS, ScriptFault, Read, Write, Line, TooManyReads, NoMemory}
use Rattle.exchange.specs.declared.event.Answer.{Answer}
use Rattle.exchange.proofs.Calls.{stands-answer, stands-call}
use Rattle.exchange.proofs.Standing.{stands-after}
use Rattle.exchange.proofs.SubsystemTests.{stands-tests}
use Rattle.script.proofs.Shown.{shown-stands}

-- ---- one line

meaning-printed : (m : Meaning) (a : Abstract) → StandsFor (kept_of a) a → meaning_printed kept m (kept_of a) ≡ meaning_printed whole m a
meaning-printed (Calls asking) a s = ap (λ (answer : Answer). answer_text a.settings asking answer) (stands-answer asking (kept_of a) a s)
meaning-printed (Passes ticks) a s = refl
meaning-printed (Shows what) a s = shown-stands what a s
meaning-printed (Refuses cause) a s = refl

ticks-stand : (ticks : ℕ) (k : Kept) (a : Abstract) → StandsFor k a → StandsFor (after_ticks kept ticks k) (after_ticks whole ticks a)
ticks-stand zero k a s = s
ticks-stand (suc more) k a s = ticks-stand more (after_tick kept k) (after_tick whole a) (stands-tests (after kept Ticked k) (after whole Ticked a) (stands-after Ticked k a s))

meaning-stands : (m : Meaning) (k : Kept) (a : Abstract) → StandsFor k a → StandsFor (meaning_done kept m k) (meaning_done whole m a)
meaning-stands (Calls asking) k a s = stands-call asking k a s
meaning-stands (Passes ticks) k a s = ticks-stand ticks k a s
meaning-stands (Shows what) k a s = s
meaning-stands (Refuses cause) k a s = s

stands-itself : (k : Kept) (a : Abstract) → StandsFor k a → StandsFor (kept_of a) a
stands-itself k a s = record { sound = s.sound; kept = refl }

-- a line prints the same,
pub stands-printed : (lacking : Bool) (asked : Asked) (k : Kept) (a : Abstract) → StandsFor k a → printed kept lacking asked k ≡ printed whole lacking asked a
stands-printed lacking asked k a s =
    ap (λ (x : Kept). printed kept lacking asked x) s.kept ∙ meaning-printed (meaning a.settings lacking asked) a (stands-itself k a s)

-- and what is kept after it stands for the state after it
pub stands-done : (lacking : Bool) (asked : Asked) (k : Kept) (a : Abstract) → StandsFor k a → StandsFor (done kept lacking asked k) (done whole lacking asked a)
stands-done lacking asked k a s =
    subst (λ (x : Kept). StandsFor (done kept lacking asked x) (done whole lacking asked a)) (sym s.kept)
    (meaning-stands (meaning a.settings lacking asked) (kept_of a) a (stands-itself k a s))

-- ---- lines in a row

-- both print the same, and stop at the same line or at none
record Same (r : Reached KeptQueues) (t : Reached WholeQueues) : Type 0 where
  pub text : r.text ≡ t.text
  pub state : StandsFor r.state t.state
  pub fault : r.fault ≡ t.fault

same-silent : (k : Kept) (a : Abstract) → StandsFor k a → Same (silent k) (silent a)
same-silent k a s = record { text = refl; state = s; fault = refl }

same-stopped : (number : ℕ) (k : Kept) (a : Abstract) → StandsFor k a → Same (stopped number k) (stopped number a)
same-stopped number k a s = record { text = refl; state = s; fault = refl }

same-line : (number : ℕ) (lacking : Bool) (reading : Reading) (k : Kept) (a : Abstract) → StandsFor k a → Same (line_run kept number lacking reading k) (line_run whole number lacking reading a)
same-line number lacking Skips k a s = same-silent k a s
same-line number lacking IsMalformed k a s = same-stopped number k a s
same-line number lacking (Asks asked) k a s = record { text = stands-printed lacking asked k a s; state = stands-done lacking asked k a s; fault = refl }

same-either : (b : Bool) (number : ℕ) (k : Kept) (a : Abstract) → StandsFor k a
    → Same (if b then stopped number k else silent k) (if b then stopped number a else silent a)
same-either true number k a s = same-stopped number k a s
same-either false number k a s = same-silent k a s

same-onto : (xs ys : List ℕ) (r : Reached KeptQueues) (t : Reached WholeQueues) → xs ≡ ys → Same r t → Same (onto xs r) (onto ys t)
same-onto xs ys r t e h = record {
  text = ap (λ (text : List ℕ). text ++ r.text) e ∙ ap (λ (text : List ℕ). ys ++ text) h.text;
  state = h.state;
  fault = h.fault;
}

same-unless : (f : Option ℕ) (r : Reached KeptQueues) (t : Reached WholeQueues) (next : Kept → Reached KeptQueues) (follow : Abstract → Reached WholeQueues)
    → Same r t → ((k : Kept) (a : Abstract) → StandsFor k a → Same (next k) (follow a))
    → Same (unless_ended f r next) (unless_ended f t follow)
same-unless None r t next follow h k = same-onto r.text t.text (next r.state) (follow t.state) h.text (k r.state t.state h.state)
same-unless (Some number) r t next follow h k = h

same-behind : (r : Reached KeptQueues) (t : Reached WholeQueues) (next : Kept → Reached KeptQueues) (follow : Abstract → Reached WholeQueues)
    → Same r t → ((k : Kept) (a : Abstract) → StandsFor k a → Same (next k) (follow a))
    → Same (behind r next) (behind t follow)
same-behind r t next follow h k =
    subst (λ (f : Option ℕ). Same (unless_ended f r next) (behind t follow)) (sym h.fault) (same-unless t.fault r t next follow h k)

same-lines : (most number : ℕ) (refused : List Bool) (ls : List (List ℕ)) (k : Kept) (a : Abstract) → StandsFor k a
    → Same (lines_run kept most number refused ls k) (lines_run whole most number refused ls a)
same-lines most number refused [] k a s = same-silent k a s
same-lines most number refused (line ∷ []) k a s = same-either (nat_lt most (length line)) number k a s
same-lines most number refused (line ∷ next ∷ more) k a s =
    same-behind (line_run kept number (first_of refused) (whole_line line) k) (line_run whole number (first_of refused) (whole_line line) a)
    (λ t. lines_run kept most (number + 1) (behind_first refused) (next ∷ more) t) (λ t. lines_run whole most (number + 1) (behind_first refused) (next ∷ more) t)
    (same-line number (first_of refused) (whole_line line) k a s) (same-lines most (number + 1) (behind_first refused) (next ∷ more))

-- ---- a whole run

abbrev DoesWhole : Reached WholeQueues → Result Unit ScriptFault → Kept → Option (List ℕ) → Option (List ℕ) → Type 0
DoesWhole t result k w0 w1 = StandsFor k t.state × Does t result t.state w0 w1

does-stands : (r : Reached KeptQueues) (t : Reached WholeQueues) (result : Result Unit ScriptFault) (k : Kept) (w0 w1 : Option (List ℕ))
    → Same r t → Does r result k w0 w1 → DoesWhole t result k w0 w1
does-stands r t (Ok x) k w0 w1 h d =
    (subst (λ (x : Kept). StandsFor x t.state) d.1 h.state, (sym h.fault ∙ d.0, refl, subst (λ (text : List ℕ). Appends w0 w1 text) h.text d.2))
does-stands r t (Err (Line number)) k w0 w1 h d =
    (subst (λ (x : Kept). StandsFor x t.state) d.1 h.state, (sym h.fault ∙ d.0, refl, subst (λ (text : List ℕ). Appends w0 w1 text) h.text d.2))
does-stands r t (Err Write) k w0 w1 h d =
    (subst (λ (x : Kept). StandsFor x t.state) d.0 h.state, (refl, subst (λ (text : List ℕ). AppendsFirst w0 w1 text) h.text d.1))
does-stands r t (Err Read) k w0 w1 h d = absurd d
does-stands r t (Err TooManyReads) k w0 w1 h d = absurd d
does-stands r t (Err NoMemory) k w0 w1 h d = absurd d

-- what is kept leads to the same place as what it stands for
record LeadsWhole (refused : List Bool) (octets more : List ℕ) (left : Option (List ℕ)) (a : Abstract) (r : Reached KeptQueues) : Type 0 where
  pub reached : Reached WholeQueues
  pub leads : LeadsTo whole refused octets more left a reached
  pub same : Same r reached

leads-stands : (refused : List Bool) (octets more : List ℕ) (left : Option (List ℕ)) (k : Kept) (a : Abstract) (r : Reached KeptQueues) → StandsFor k a
    → LeadsTo kept refused octets more left k r → LeadsWhole refused octets more left a r
leads-stands refused octets more left k a r s (inl e) = record {
  reached = run_so_far whole refused octets a;
  leads = inl refl;
  same = subst (λ (x : Reached KeptQueues). Same x (run_so_far whole refused octets a)) (sym e) (same-lines LINE_OCTETS 1 refused (lines octets) k a s);
}
leads-stands refused octets more left k a r s (inr e) = record {
  reached = whole_run whole refused octets a;
  leads = inr (e.0, e.1, refl);
  same = subst (λ (x : Reached KeptQueues). Same x (whole_run whole refused octets a)) (sym e.2) (same-lines 0 1 refused (lines octets) k a s);
}

-- a run on what an exchange keeps is one of the abstract exchange
runs_by-stand : (refused : List Bool) (result : Result Unit ScriptFault) (k j : Kept) (a : Abstract) (left left_new w0 w1 : Option (List ℕ)) → StandsFor k a
    → RunsBy kept refused result k j left left_new w0 w1
    → (b : Abstract) × StandsFor j b × RunsBy whole refused result a b left left_new w0 w1
runs_by-stand refused (Ok x) k j a left left_new w0 w1 s (octets, consumed, done, does) =
    let t = whole_run whole refused octets a in
    let d = does-stands (whole_run kept refused octets k) t (Ok x) j w0 w1 (same-lines 0 1 refused (lines octets) k a s) does in
    (t.state, d.0, (octets, consumed, done, d.1))
runs_by-stand refused (Err (Line number)) k j a left left_new w0 w1 s (octets, consumed, r, leads, does) =
    let to = leads-stands refused octets [] left_new k a r s leads in
    let d = does-stands r to.reached (Err (Line number)) j w0 w1 to.same does in
    (to.reached.state, d.0, (octets, consumed, to.reached, to.leads, d.1))
runs_by-stand refused (Err Write) k j a left left_new w0 w1 s (front, last, more, consumed, r, leads, state, wrote) =
    let to = leads-stands refused (front ++ option_to_list last) more left_new k a r s leads in
    let sent = same-lines LINE_OCTETS 1 refused (lines front) k a s in (
      to.reached.state,
      subst (λ (x : Kept). StandsFor x to.reached.state) state to.same.state,
      (
        front,
        last,
        more,
        consumed,
        to.reached,
        to.leads,
        refl,
        subst (λ (text : List ℕ). AppendsAtLeast (length text) w0 w1 to.reached.text) sent.text
            (subst (λ (text : List ℕ). AppendsAtLeast (length (run_so_far kept refused front k).text) w0 w1 text) to.same.text wrote),
      ),
    )
runs_by-stand refused (Err Read) k j a left left_new w0 w1 s (octets, many, consumed, does) =
    let t = run_so_far whole refused octets a in
    let d = does-stands (run_so_far kept refused octets k) t (Ok tt) j w0 w1 (same-lines LINE_OCTETS 1 refused (lines octets) k a s) does in
    (t.state, d.0, (octets, many, consumed, d.1))
runs_by-stand refused (Err TooManyReads) k j a left left_new w0 w1 s (octets, many, consumed, does) =
    let t = run_so_far whole refused octets a in
    let d = does-stands (run_so_far kept refused octets k) t (Ok tt) j w0 w1 (same-lines LINE_OCTETS 1 refused (lines octets) k a s) does in
    (t.state, d.0, (octets, many, consumed, d.1))
runs_by-stand refused (Err NoMemory) k j a left left_new w0 w1 s h = absurd h

pub runs-stand : (result : Result Unit ScriptFault) (k j : Kept) (a : Abstract) (left left_new w0 w1 : Option (List ℕ)) → StandsFor k a
    → Runs kept result k j left left_new w0 w1
    → (b : Abstract) × StandsFor j b × Runs whole result a b left left_new w0 w1
runs-stand result k j a left left_new w0 w1 s (refused, by) =
    let run = runs_by-stand refused result k j a left left_new w0 w1 s by in
    (run.0, run.1, (refused, run.2))
