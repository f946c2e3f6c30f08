-- Moves of a link that opens and returns are sound.
use Rattle.pair_moves.proofs.Basics.{◌≡◌, ◌≢◌, inr, ℕ, Bool, true, ◌+◌, List, [], ◌∷◌, ◌++◌, drop, count_by, nat_eq, refl, ap, sym, ◌∙◌, subst, arith, ⊎_elim, cases_eq}
use Rattle.pair_moves.proofs.Definitions.{Message, Queue, last_accepted, Saying, Declaration, Confirmation, is_order, is_answer, is_untrue, is_declaration, is_confirmation, LinkEnd, Line, Side, Pair, turned, turned_line, unreceived, with_message, opened_end, opened_first, opened_second, MayOpen, with_service, OpensFirst, OpensSecond, Enters, Declares, WaitsForTime, Confirms, EndsHold, IgnoresConfirmation, RunsLate, IsEnd, OpenedAlone, under_way, one_if, saying, HoldsInService, Reading, turned_reading}
use Rattle.pair_moves.proofs.Counts.{count-append, count-one, count-first, way-within}
use Rattle.pair_moves.proofs.Words.{said, said-no_user, same-link, other-link, untrue-any, small, arrived-not}
use Rattle.pair_moves.proofs.Lines.{IsLine, line-message, both}
use Rattle.pair_moves.proofs.Books.{untrue_of, each-line}
use Rattle.pair_moves.proofs.Sound.{Sound, kept-sound, books-side, books-line}
use Rattle.pair_moves.proofs.Quiet.{quiet-side, quiet-line, still-true}
use Rattle.pair_moves.proofs.Passed.{unreceived-appended}
use Rattle.pair_moves.proofs.LinesChanged.{line-opened_first, line-opened_second, line-service, nothing-idle}
use Rattle.pair_moves.proofs.Tells.{one-said, none-said, count-beyond}

-- nothing is on an end that may open
pub nothing-stands : (x : LinkEnd) → MayOpen x → IsEnd x → x.queue.all ≡ []
nothing-stands x m h = nothing-idle x h m.down m.complete

none-unreceived : (test : Message → Bool) (ms : List Message) (n : ℕ) → ms ≡ [] → count_by test (drop n ms) ≡ 0
none-unreceived test ms n e = ap (λ (xs : List Message). count_by test (drop n xs)) e ∙ count-beyond test n

module _ (read : Reading) (p q : Pair) where
  -- nothing is said about a link that may open, nor is anything on an end of it
  unsaid : (link : ℕ) → MayOpen (p.line link).near → one_if (p.line link).far.awaited ≡ 0 → Sound read p → under_way (untrue_of read.there link opened_end) p ≡ 0
  unsaid link may far_free h =
      let near_free : one_if (p.line link).near.awaited ≡ 0 = none-said (p.line link).near.awaited may.unawaited in
      omega (
        arith,
        near_free,
        far_free,
        h.there.orders link,
        h.back.orders link,
        way-within (untrue_of read.there link opened_end) (saying read.there (is_order link)) (saying read.there (is_answer link)) p
            (λ m. untrue-any link true (last_accepted opened_end.queue) (read.there m)),
      )

  pub sound-opens_first : OpensFirst read p q → Sound read p → Sound read q
  sound-opens_first m h =
      let z : Line = p.line m.link in
      let near_none : z.near.queue.all ≡ [] = nothing-stands z.near m.near_may (h.lines m.link).near in
      let far_none : z.far.queue.all ≡ [] = nothing-stands z.far m.far_may (h.lines m.link).far in
      let near_free : one_if z.near.awaited ≡ 0 = none-said z.near.awaited m.near_may.unawaited in
      subst (Sound read) (sym m.after)
      (quiet-line read p m.link (opened_first z) m.lines m.set p.near (record { accepted = refl; received = refl; outstanding = refl; given_up = refl })
      (record {
        awaited = omega (arith, near_free);
        far_awaited = omega arith;
        truth = unsaid m.link m.near_may (none-said z.far.awaited m.far_may.unawaited) h;
        far_truth = h.back.words m.link;
      })
      (line-opened_first z m.far_may (h.lines m.link))
      (λ test. omega (arith, none-unreceived test z.near.queue.all z.far.queue.received near_none, count-beyond test z.far.queue.received))
      (λ test. omega (arith, none-unreceived test z.far.queue.all z.near.queue.received far_none, none-unreceived test z.far.queue.all 0 far_none))
      h)

  pub sound-opens_second : OpensSecond read p q → Sound read p → Sound read q
  sound-opens_second m h =
      let z : Line = p.line m.link in
      let o : OpenedAlone (turned_line z) = (h.lines m.link).second m.follows in
      let near_none : z.near.queue.all ≡ [] = nothing-stands z.near m.near_may (h.lines m.link).near in
      let far_none : z.far.queue.all ≡ [] = ap (λ (x : Queue). x.all) o.queue in
      let near_free : one_if z.near.awaited ≡ 0 = none-said z.near.awaited m.near_may.unawaited in
      subst (Sound read) (sym m.after)
      (quiet-line read p m.link (opened_second z) m.lines m.set p.near (record { accepted = refl; received = refl; outstanding = refl; given_up = refl })
      (record {
        awaited = omega (arith, near_free);
        far_awaited = omega arith;
        truth = unsaid m.link m.near_may (none-said z.far.awaited o.unawaited) h;
        far_truth = h.back.words m.link;
      })
      (line-opened_second z m.follows (h.lines m.link))
      (λ test. omega (arith, none-unreceived test z.near.queue.all z.far.queue.received near_none, count-beyond test z.far.queue.received))
      (λ test. omega (arith, none-unreceived test z.far.queue.all z.near.queue.received far_none, none-unreceived test z.far.queue.all 0 far_none))
      h)

  pub sound-enters : Enters read p q → Sound read p → Sound read q
  sound-enters m h =
      let z : Line = p.line m.link in
      subst (Sound read) (sym m.after)
      (quiet-line read p m.link (with_service z) m.lines m.set (record p.near { route = m.route }) (record { accepted = refl; received = refl; outstanding = refl; given_up = refl })
      (record {
        awaited = omega arith;
        far_awaited = omega arith;
        truth = still-true read p m.link (with_service z).near (λ u. m.up) (inr refl) h;
        far_truth = h.back.words m.link;
      })
      (line-service z m.up m.heard (h.lines m.link))
      (λ test. omega arith) (λ test. omega arith) h)

  pub sound-waits : WaitsForTime read p q → Sound read p → Sound read q
  sound-waits m h =
      subst (Sound read) (sym m.after)
      (quiet-side read p (record p.near { route = m.route; holds = m.holds }) (record { accepted = refl; received = refl; outstanding = refl; given_up = refl })
      (λ test. omega arith) refl h)

  pub sound-holds_in_service : HoldsInService read p q → Sound read p → Sound read q
  sound-holds_in_service m h =
      subst (Sound read) (sym m.after)
      (quiet-side read p (record p.near { holds = m.holds }) (record { accepted = refl; received = refl; outstanding = refl; given_up = refl })
      (λ test. omega arith) refl h)

  pub sound-runs_late : RunsLate p q → Sound read p → Sound read q
  sound-runs_late m h =
      subst (Sound read) (sym m.after)
      (quiet-side read p (record p.near { holds = m.holds; late = true }) (record { accepted = refl; received = refl; outstanding = refl; given_up = refl })
      (λ test. omega arith) refl h)

  pub sound-declares : Declares read p q → Sound read p → Sound read q
  sound-declares m h =
      let z : Line = p.line m.former in
      let y : Line = with_message z m.declaration in
      let s : Side = record p.near { outstanding = m.outstanding; route = m.route; holds = m.holds } in
      let made : (test : Saying → Bool) → count_by (saying read.there test) (m.declaration ∷ []) ≡ one_if (test (Declaration m.code)) = said read.there m.declaration (Declaration m.code) m.says in
      subst (Sound read) (sym m.after)
      (kept-sound read p (record p { line = m.lines; near = s }) (m.declaration ∷ []) []
      (books-line p m.former y m.lines m.set s (m.declaration ∷ []) []
      (λ test.
      let e : count_by test (unreceived y) ≡ count_by test (unreceived z ++ m.declaration ∷ []) =
      ap (count_by test) (unreceived-appended z m.declaration m.serving (h.lines m.former)) in
      omega (arith, e, count-append test (unreceived z) (m.declaration ∷ [])))
      (λ test. omega arith))
      (record {
        far = refl;
        given_up = refl;
        orders = each-line p m.former y m.lines m.set
            (λ k x. count_by (saying read.there (is_order k)) (m.declaration ∷ []) + one_if (p.line k).near.awaited ≡ one_if x.near.awaited + 0)
            (λ k d. omega (arith, made (is_order k))) (omega (arith, made (is_order m.former)));
        answers = each-line p m.former y m.lines m.set
            (λ k x. count_by (saying read.there (is_answer k)) (m.declaration ∷ []) + one_if (p.line k).far.awaited ≡ one_if x.far.awaited + 0)
            (λ k d. omega (arith, made (is_answer k))) (omega (arith, made (is_answer m.former)));
        truth = each-line p m.former y m.lines m.set
            (λ k x. under_way (untrue_of read.there k x.near) p + count_by (untrue_of read.there k x.near) (m.declaration ∷ []) ≡ 0)
            (λ k d. omega (arith, h.there.words k, made (is_untrue k (p.line k).near.up (last_accepted (p.line k).near.queue))))
            (omega (arith, h.there.words m.former, made (is_untrue m.former z.near.up (last_accepted z.near.queue))));
        far_truth = each-line p m.former y m.lines m.set (λ k x. under_way (untrue_of read.back k x.far) (turned p) ≡ 0) (λ k d. h.back.words k) (h.back.words m.former);
        declarations = λ code. ⊎_elim
            (λ (e : code ≡ m.code). omega (
              arith,
              made (is_declaration code),
              one-said (nat_eq m.code code) (subst (λ (c : ℕ). nat_eq m.code c ≡ true) (sym e) (same-link m.code)),
              subst (λ (c : ℕ). one_if (p.near.outstanding c) ≡ 0) (sym e) (none-said (p.near.outstanding m.code) m.free),
              subst (λ (c : ℕ). one_if (m.outstanding c) ≡ 1) (sym e) (one-said (m.outstanding m.code) m.used),
            ))
            (λ (d : code ≢ m.code). let same : one_if (m.outstanding code) ≡ one_if (p.near.outstanding code) = ap one_if (m.others code d) in
            omega (arith, made (is_declaration code), none-said (nat_eq m.code code) (other-link m.code code d), same))
            (cases_eq code m.code);
        confirmations = λ code. omega (arith, made (is_confirmation code));
        accepted = λ test. omega (arith, said-no_user read.there m.declaration (Declaration m.code) m.says refl test);
        received = λ test. omega arith;
      })
      (each-line p m.former y m.lines m.set (λ k x. IsLine x) (λ k d. h.lines k) (line-message z m.declaration m.serving (h.lines m.former)))
      h)

  pub sound-confirms : Confirms read p q → Sound read p → Sound read q
  sound-confirms m h =
      let s : Side = record p.near { arrived = m.heard.rest; loose = p.near.loose ++ m.answer ∷ [] } in
      let made : (test : Saying → Bool) → count_by (saying read.there test) (m.answer ∷ []) ≡ one_if (test (Confirmation m.code)) = said read.there m.answer (Confirmation m.code) m.answers in
      let looked : (test : Saying → Bool) → count_by (saying read.back test) (m.heard.message ∷ []) ≡ one_if (test (Declaration m.code)) = said read.back m.heard.message (Declaration m.code) m.heard.says in
      subst (Sound read) (sym m.after)
      (kept-sound read p (record p { near = s }) (m.answer ∷ []) (m.heard.message ∷ [])
      (books-side p s (m.answer ∷ []) (m.heard.message ∷ [])
      (λ test. omega (arith, count-append test p.near.loose (m.answer ∷ [])))
      (λ test. omega (arith, count-first test p.near.arrived m.heard.message m.heard.rest m.heard.first, count-one test m.heard.message)))
      (record {
        far = refl;
        given_up = refl;
        orders = λ k. omega (arith, made (is_order k));
        answers = λ k. omega (arith, made (is_answer k));
        truth = λ k. omega (arith, h.there.words k, made (is_untrue k (p.line k).near.up (last_accepted (p.line k).near.queue)));
        far_truth = λ k. h.back.words k;
        declarations = λ code. omega (arith, made (is_declaration code));
        confirmations = λ code. omega (arith, made (is_confirmation code), looked (is_declaration code));
        accepted = λ test. omega (arith, said-no_user read.there m.answer (Confirmation m.code) m.answers refl test);
        received = λ test. omega (arith, said-no_user read.back m.heard.message (Declaration m.code) m.heard.says refl test);
      })
      h.lines h)

  pub sound-ends_hold : EndsHold read p q → Sound read p → Sound read q
  sound-ends_hold m h =
      let s : Side = record p.near { arrived = m.heard.rest; outstanding = m.outstanding; holds = m.holds } in
      let looked : (test : Saying → Bool) → count_by (saying read.back test) (m.heard.message ∷ []) ≡ one_if (test (Confirmation m.code)) = said read.back m.heard.message (Confirmation m.code) m.heard.says in
      subst (Sound read) (sym m.after)
      (kept-sound read p (record p { near = s }) [] (m.heard.message ∷ [])
      (books-side p s [] (m.heard.message ∷ []) (λ test. omega arith) (λ test. omega (arith, count-first test p.near.arrived m.heard.message m.heard.rest m.heard.first, count-one test m.heard.message)))
      (record {
        far = refl;
        given_up = refl;
        orders = λ k. omega arith;
        answers = λ k. omega arith;
        truth = λ k. omega (arith, h.there.words k);
        far_truth = λ k. h.back.words k;
        declarations = λ code. ⊎_elim
            (λ (e : code ≡ m.code). omega (
              arith,
              looked (is_confirmation code),
              small (p.near.outstanding code),
              h.there.codes code,
              count-first (saying read.back (is_confirmation code)) p.near.arrived m.heard.message m.heard.rest m.heard.first,
              count-one (saying read.back (is_confirmation code)) m.heard.message,
              one-said (nat_eq m.code code) (subst (λ (c : ℕ). nat_eq m.code c ≡ true) (sym e) (same-link m.code)),
              subst (λ (c : ℕ). one_if (m.outstanding c) ≡ 0) (sym e) (none-said (m.outstanding m.code) m.freed),
            ))
            (λ (d : code ≢ m.code). let same : one_if (m.outstanding code) ≡ one_if (p.near.outstanding code) = ap one_if (m.others code d) in
            omega (arith, looked (is_confirmation code), none-said (nat_eq m.code code) (other-link m.code code d), same))
            (cases_eq code m.code);
        confirmations = λ code. omega arith;
        accepted = λ test. omega arith;
        received = λ test. omega (arith, said-no_user read.back m.heard.message (Confirmation m.code) m.heard.says refl test);
      })
      h.lines h)

  -- no confirmation comes of a code that isn't outstanding
  pub sound-ignores_confirmation : IgnoresConfirmation read p q → Sound read p → Sound read q
  sound-ignores_confirmation m h =
      let none : under_way (saying read.back (is_confirmation m.code)) (turned p) ≡ 0 = omega (arith, h.there.codes m.code, none-said (p.near.outstanding m.code) m.free) in
      both (ap (is_confirmation m.code) m.heard.says ∙ same-link m.code)
      (arrived-not (saying read.back (is_confirmation m.code)) p m.heard.message m.heard.rest m.heard.first none)
