-- Moves of a failure and its changeover are sound.
use Rattle.pair_moves.proofs.Basics.{◌≡◌, ◌≢◌, inl, inr, ℕ, Bool, true, false, ◌+◌, List, [], ◌∷◌, ◌++◌, drop, count_by, nat_eq, refl, ap, sym, ◌∙◌, subst, arith, ⊎_elim, cases_eq, Option, ◌||◌}
use Rattle.pair_moves.proofs.Definitions.{Message, last_accepted, Reading, Saying, Order, Answer, is_order, is_answer, is_untrue, is_declaration, is_confirmation, Line, Side, Pair, turned, with_failure, with_completion, without_wait, users_of, managements_of, Falls, FallsWithOrder, CompletesByOrder, AnswersOrder, CompletesByAnswer, EndsWait, IgnoresAnswer, OrdersLate, Procedure, Flow, BecomeAt, under_way, one_if, saying}
use Rattle.pair_moves.proofs.Counts.{count-append, count-one, count-first}
use Rattle.pair_moves.proofs.Words.{said, said-no_user, same-link, other-link, told-order, told-answer, told-order_elsewhere, told-answer_elsewhere, arrived-not}
use Rattle.pair_moves.proofs.Lines.{IsLine, not-beside, both}
use Rattle.pair_moves.proofs.Books.{untrue_of, each-line}
use Rattle.pair_moves.proofs.Sound.{Sound, kept-sound, books-side, books-line}
use Rattle.pair_moves.proofs.Quiet.{quiet-line, still-true}
use Rattle.pair_moves.proofs.Tells.{one-said, none-said, count-beyond, Tells, order-tells, answer-tells, names-received, moved-counts}
use Rattle.pair_moves.proofs.LinesChanged.{line-failure, line-completion, line-awaited, line-unawaited}

module _ (read : Reading) (p q : Pair) where
  pub sound-falls : Falls read p q → Sound read p → Sound read q
  sound-falls m h =
      let z : Line = p.line m.link in
      subst (Sound read) (sym m.after)
      (quiet-line read p m.link (with_failure z z.near.awaited) m.lines m.set (record p.near { route = m.route; holds = m.holds })
      (record { accepted = refl; received = refl; outstanding = refl; given_up = refl })
      (record {
        awaited = omega arith;
        far_awaited = omega arith;
        truth = still-true read p m.link (with_failure z z.near.awaited).near (λ u. m.up) (inr refl) h;
        far_truth = h.back.words m.link;
      })
      (line-failure z z.near.awaited m.up (inr refl) (h.lines m.link))
      (λ test. omega arith) (λ test. omega arith) h)

  -- a line whose near end is down and awaits an answer
  abbrev ordered : Line → (up serving incomplete heard : Bool) → Line
  ordered z up serving incomplete heard = record z {
    near = record z.near { up = up; serving = serving; incomplete = incomplete; awaited = true; heard = heard };
  }

  -- an order is made about a link for which no answer was awaited
  order-made : (link : ℕ) (order : Message) → read.there order ≡ Order link (last_accepted (p.line link).near.queue) → (p.line link).near.awaited ≡ false →
      (up serving incomplete heard : Bool) → up ≡ false → under_way (untrue_of read.there link (ordered (p.line link) up serving incomplete heard).near) p ≡ 0 →
      IsLine (ordered (p.line link) up serving incomplete heard) →
      (lines : ℕ → Line) → BecomeAt p link (ordered (p.line link) up serving incomplete heard) lines → (route : Flow → Option ℕ) (holds : Procedure → Flow → Bool) →
      Sound read p → Sound read (record p { line = lines; near = record p.near { route = route; holds = holds; loose = p.near.loose ++ order ∷ [] } })
  order-made link order says unawaited up serving incomplete heard down truth line lines set route holds h =
      let z : Line = p.line link in
      let y : Line = ordered z up serving incomplete heard in
      let s : Side = record p.near { route = route; holds = holds; loose = p.near.loose ++ order ∷ [] } in
      let last : ℕ = last_accepted z.near.queue in
      let of : (test : Saying → Bool) → count_by (saying read.there test) (order ∷ []) ≡ one_if (test (Order link last)) = said read.there order (Order link last) says in
      kept-sound read p (record p { line = lines; near = s }) (order ∷ []) []
      (books-line p link y lines set s (order ∷ []) []
      (λ test. omega (arith, count-append test p.near.loose (order ∷ []))) (λ test. omega arith))
      (record {
        far = refl;
        given_up = refl;
        orders = each-line p link y lines set
            (λ k x. count_by (saying read.there (is_order k)) (order ∷ []) + one_if (p.line k).near.awaited ≡ one_if x.near.awaited + 0)
            (λ k d. omega (arith, of (is_order k), none-said (nat_eq link k) (other-link link k d)))
            (omega (arith, of (is_order link), one-said (nat_eq link link) (same-link link), none-said z.near.awaited unawaited));
        answers = each-line p link y lines set
            (λ k x. count_by (saying read.there (is_answer k)) (order ∷ []) + one_if (p.line k).far.awaited ≡ one_if x.far.awaited + 0)
            (λ k d. omega (arith, of (is_answer k))) (omega (arith, of (is_answer link)));
        truth = each-line p link y lines set
            (λ k x. under_way (untrue_of read.there k x.near) p + count_by (untrue_of read.there k x.near) (order ∷ []) ≡ 0)
            (λ k d. omega (arith, h.there.words k, of (is_untrue k (p.line k).near.up (last_accepted (p.line k).near.queue)), told-order_elsewhere k link (p.line k).near.up (last_accepted (p.line k).near.queue) last d))
            (omega (arith, truth, of (is_untrue link up last), told-order link link up last down));
        far_truth = each-line p link y lines set (λ k x. under_way (untrue_of read.back k x.far) (turned p) ≡ 0) (λ k d. h.back.words k) (h.back.words link);
        declarations = λ code. omega (arith, of (is_declaration code));
        confirmations = λ code. omega (arith, of (is_confirmation code));
        accepted = λ test. omega (arith, said-no_user read.there order (Order link last) says refl test);
        received = λ test. omega arith;
      })
      (each-line p link y lines set (λ k x. IsLine x) (λ k d. h.lines k) line)
      h

  pub sound-falls_with_order : FallsWithOrder read p q → Sound read p → Sound read q
  sound-falls_with_order m h =
      let z : Line = p.line m.link in
      let up : z.near.up ≡ true = (h.lines m.link).near.serving m.serving in
      subst (Sound read) (sym m.after)
      (order-made m.link m.order m.says (not-beside z.near.awaited (h.lines m.link).near.awaited up)
      false false (z.near.serving || z.near.incomplete) false refl (still-true read p m.link (with_failure z true).near (λ u. up) (inr refl) h)
      (line-failure z true up (inl m.serving) (h.lines m.link)) m.lines m.set m.route m.holds h)

  pub sound-orders_late : OrdersLate read p q → Sound read p → Sound read q
  sound-orders_late m h =
      let z : Line = p.line m.link in
      subst (Sound read) (sym m.after)
      (order-made m.link m.order m.says m.unawaited
      z.near.up z.near.serving z.near.incomplete z.near.heard ((h.lines m.link).near.incomplete m.incomplete) (h.there.words m.link)
      (line-awaited z m.incomplete (h.lines m.link)) m.lines m.set p.near.route p.near.holds h)

  pub sound-completes_by_order : CompletesByOrder read p q → Sound read p → Sound read q
  sound-completes_by_order m h =
      let z : Line = p.line m.link in
      let y : Line = with_completion z z.near.awaited in
      let behind : List Message = drop m.count z.near.queue.all in
      let s : Side = record p.near { arrived = m.heard.rest; held = users_of read.there behind ++ p.near.held; loose = p.near.loose ++ managements_of read.there behind ++ m.answer ∷ []; holds = m.holds } in
      let last : ℕ = last_accepted z.near.queue in
      let t : Tells p m.link m.number = order-tells read p m.link m.number m.heard.message m.heard.rest m.heard.first m.heard.says h in
      let e : m.count ≡ z.far.queue.received = names-received read p m.link m.number m.count t m.incomplete m.named h in
      let down : z.near.up ≡ false = (h.lines m.link).near.incomplete m.incomplete in
      let made : (test : Saying → Bool) → count_by (saying read.there test) (m.answer ∷ []) ≡ one_if (test (Answer m.link last)) = said read.there m.answer (Answer m.link last) m.answers in
      let looked : (test : Saying → Bool) → count_by (saying read.back test) (m.heard.message ∷ []) ≡ one_if (test (Order m.link m.number)) = said read.back m.heard.message (Order m.link m.number) m.heard.says in
      subst (Sound read) (sym m.after)
      (kept-sound read p (record p { line = m.lines; near = s }) (m.answer ∷ []) (m.heard.message ∷ [])
      (books-line p m.link y m.lines m.set s (m.answer ∷ []) (m.heard.message ∷ [])
      (λ test. omega (
        arith,
        count-append test (users_of read.there behind) p.near.held,
        count-append test (p.near.loose ++ managements_of read.there behind) (m.answer ∷ []),
        count-append test p.near.loose (managements_of read.there behind),
        moved-counts read p m.link m.count e test,
        count-beyond test z.far.queue.received,
      ))
      (λ test. omega (arith, count-first test p.near.arrived m.heard.message m.heard.rest m.heard.first, count-one test m.heard.message)))
      (record {
        far = refl;
        given_up = refl;
        orders = each-line p m.link y m.lines m.set
            (λ k x. count_by (saying read.there (is_order k)) (m.answer ∷ []) + one_if (p.line k).near.awaited ≡ one_if x.near.awaited + count_by (saying read.back (is_answer k)) (m.heard.message ∷ []))
            (λ k d. omega (arith, made (is_order k))) (omega (arith, made (is_order m.link)));
        answers = each-line p m.link y m.lines m.set
            (λ k x. count_by (saying read.there (is_answer k)) (m.answer ∷ []) + one_if (p.line k).far.awaited ≡ one_if x.far.awaited + count_by (saying read.back (is_order k)) (m.heard.message ∷ []))
            (λ k d. omega (arith, made (is_answer k), looked (is_order k))) (omega (arith, made (is_answer m.link), looked (is_order m.link)));
        truth = each-line p m.link y m.lines m.set
            (λ k x. under_way (untrue_of read.there k x.near) p + count_by (untrue_of read.there k x.near) (m.answer ∷ []) ≡ 0)
            (λ k d. omega (
              arith,
              h.there.words k,
              made (is_untrue k (p.line k).near.up (last_accepted (p.line k).near.queue)),
              told-answer_elsewhere k m.link (p.line k).near.up (last_accepted (p.line k).near.queue) last d,
            ))
            (omega (arith, h.there.words m.link, made (is_untrue m.link z.near.up last), told-answer m.link m.link z.near.up last down));
        far_truth = each-line p m.link y m.lines m.set (λ k x. under_way (untrue_of read.back k x.far) (turned p) ≡ 0) (λ k d. h.back.words k) (h.back.words m.link);
        declarations = λ code. omega (arith, made (is_declaration code));
        confirmations = λ code. omega (arith, made (is_confirmation code));
        accepted = λ test. omega (arith, said-no_user read.there m.answer (Answer m.link last) m.answers refl test);
        received = λ test. omega (arith, said-no_user read.back m.heard.message (Order m.link m.number) m.heard.says refl test);
      })
      (each-line p m.link y m.lines m.set (λ k x. IsLine x) (λ k d. h.lines k) (line-completion z z.near.awaited down t.far_down m.incomplete (h.lines m.link)))
      h)

  pub sound-answers_order : AnswersOrder read p q → Sound read p → Sound read q
  sound-answers_order m h =
      let last : ℕ = last_accepted (p.line m.link).near.queue in
      let s : Side = record p.near { arrived = m.heard.rest; loose = p.near.loose ++ m.answer ∷ [] } in
      let made : (test : Saying → Bool) → count_by (saying read.there test) (m.answer ∷ []) ≡ one_if (test (Answer m.link last)) = said read.there m.answer (Answer m.link last) m.answers in
      let looked : (test : Saying → Bool) → count_by (saying read.back test) (m.heard.message ∷ []) ≡ one_if (test (Order m.link m.number)) = said read.back m.heard.message (Order m.link m.number) m.heard.says in
      subst (Sound read) (sym m.after)
      (kept-sound read p (record p { near = s }) (m.answer ∷ []) (m.heard.message ∷ [])
      (books-side p s (m.answer ∷ []) (m.heard.message ∷ [])
      (λ test. omega (arith, count-append test p.near.loose (m.answer ∷ [])))
      (λ test. omega (arith, count-first test p.near.arrived m.heard.message m.heard.rest m.heard.first, count-one test m.heard.message)))
      (record {
        far = refl;
        given_up = refl;
        orders = λ k. omega (arith, made (is_order k));
        answers = λ k. omega (arith, made (is_answer k), looked (is_order k));
        truth = λ k. ⊎_elim
            (λ (e : k ≡ m.link). omega (
              arith,
              h.there.words k,
              made (is_untrue k (p.line k).near.up (last_accepted (p.line k).near.queue)),
              subst (λ (j : ℕ). one_if (is_untrue j (p.line j).near.up (last_accepted (p.line j).near.queue) (Answer m.link last)) ≡ 0) (sym e)
                  (told-answer m.link m.link (p.line m.link).near.up last m.down),
            ))
            (λ (d : k ≢ m.link). omega (
              arith,
              h.there.words k,
              made (is_untrue k (p.line k).near.up (last_accepted (p.line k).near.queue)),
              told-answer_elsewhere k m.link (p.line k).near.up (last_accepted (p.line k).near.queue) last d,
            ))
            (cases_eq k m.link);
        far_truth = λ k. h.back.words k;
        declarations = λ code. omega (arith, made (is_declaration code));
        confirmations = λ code. omega (arith, made (is_confirmation code));
        accepted = λ test. omega (arith, said-no_user read.there m.answer (Answer m.link last) m.answers refl test);
        received = λ test. omega (arith, said-no_user read.back m.heard.message (Order m.link m.number) m.heard.says refl test);
      })
      h.lines h)

  pub sound-completes_by_answer : CompletesByAnswer read p q → Sound read p → Sound read q
  sound-completes_by_answer m h =
      let z : Line = p.line m.link in
      let y : Line = with_completion z false in
      let behind : List Message = drop m.count z.near.queue.all in
      let s : Side = record p.near { arrived = m.heard.rest; held = users_of read.there behind ++ p.near.held; loose = p.near.loose ++ managements_of read.there behind; holds = m.holds } in
      let t : Tells p m.link m.number = answer-tells read p m.link m.number m.heard.message m.heard.rest m.heard.first m.heard.says h in
      let e : m.count ≡ z.far.queue.received = names-received read p m.link m.number m.count t m.incomplete m.named h in
      let down : z.near.up ≡ false = (h.lines m.link).near.incomplete m.incomplete in
      let looked : (test : Saying → Bool) → count_by (saying read.back test) (m.heard.message ∷ []) ≡ one_if (test (Answer m.link m.number)) = said read.back m.heard.message (Answer m.link m.number) m.heard.says in
      subst (Sound read) (sym m.after)
      (kept-sound read p (record p { line = m.lines; near = s }) [] (m.heard.message ∷ [])
      (books-line p m.link y m.lines m.set s [] (m.heard.message ∷ [])
      (λ test. omega (
        arith,
        count-append test (users_of read.there behind) p.near.held,
        count-append test p.near.loose (managements_of read.there behind),
        moved-counts read p m.link m.count e test,
        count-beyond test z.far.queue.received,
      ))
      (λ test. omega (arith, count-first test p.near.arrived m.heard.message m.heard.rest m.heard.first, count-one test m.heard.message)))
      (record {
        far = refl;
        given_up = refl;
        orders = each-line p m.link y m.lines m.set
            (λ k x. 0 + one_if (p.line k).near.awaited ≡ one_if x.near.awaited + count_by (saying read.back (is_answer k)) (m.heard.message ∷ []))
            (λ k d. omega (arith, looked (is_answer k), none-said (nat_eq m.link k) (other-link m.link k d))) (omega (arith, looked (is_answer m.link), one-said (nat_eq m.link m.link) (same-link m.link), one-said z.near.awaited m.awaited));
        answers = each-line p m.link y m.lines m.set
            (λ k x. 0 + one_if (p.line k).far.awaited ≡ one_if x.far.awaited + count_by (saying read.back (is_order k)) (m.heard.message ∷ []))
            (λ k d. omega arith) (omega arith);
        truth = each-line p m.link y m.lines m.set (λ k x. under_way (untrue_of read.there k x.near) p + 0 ≡ 0)
            (λ k d. omega (arith, h.there.words k)) (omega (arith, h.there.words m.link));
        far_truth = each-line p m.link y m.lines m.set (λ k x. under_way (untrue_of read.back k x.far) (turned p) ≡ 0) (λ k d. h.back.words k) (h.back.words m.link);
        declarations = λ code. omega arith;
        confirmations = λ code. omega arith;
        accepted = λ test. omega arith;
        received = λ test. omega (arith, said-no_user read.back m.heard.message (Answer m.link m.number) m.heard.says refl test);
      })
      (each-line p m.link y m.lines m.set (λ k x. IsLine x) (λ k d. h.lines k) (line-completion z false down t.far_down m.incomplete (h.lines m.link)))
      h)

  pub sound-ends_wait : EndsWait read p q → Sound read p → Sound read q
  sound-ends_wait m h =
      let z : Line = p.line m.link in
      let y : Line = without_wait z in
      let s : Side = record p.near { arrived = m.heard.rest } in
      let looked : (test : Saying → Bool) → count_by (saying read.back test) (m.heard.message ∷ []) ≡ one_if (test (Answer m.link m.number)) = said read.back m.heard.message (Answer m.link m.number) m.heard.says in
      subst (Sound read) (sym m.after)
      (kept-sound read p (record p { line = m.lines; near = s }) [] (m.heard.message ∷ [])
      (books-line p m.link y m.lines m.set s [] (m.heard.message ∷ []) (λ test. omega arith)
      (λ test. omega (arith, count-first test p.near.arrived m.heard.message m.heard.rest m.heard.first, count-one test m.heard.message)))
      (record {
        far = refl;
        given_up = refl;
        orders = each-line p m.link y m.lines m.set
            (λ k x. 0 + one_if (p.line k).near.awaited ≡ one_if x.near.awaited + count_by (saying read.back (is_answer k)) (m.heard.message ∷ []))
            (λ k d. omega (arith, looked (is_answer k), none-said (nat_eq m.link k) (other-link m.link k d))) (omega (arith, looked (is_answer m.link), one-said (nat_eq m.link m.link) (same-link m.link), one-said z.near.awaited m.awaited));
        answers = each-line p m.link y m.lines m.set
            (λ k x. 0 + one_if (p.line k).far.awaited ≡ one_if x.far.awaited + count_by (saying read.back (is_order k)) (m.heard.message ∷ []))
            (λ k d. omega arith) (omega arith);
        truth = each-line p m.link y m.lines m.set (λ k x. under_way (untrue_of read.there k x.near) p + 0 ≡ 0)
            (λ k d. omega (arith, h.there.words k)) (omega (arith, h.there.words m.link));
        far_truth = each-line p m.link y m.lines m.set (λ k x. under_way (untrue_of read.back k x.far) (turned p) ≡ 0) (λ k d. h.back.words k) (h.back.words m.link);
        declarations = λ code. omega arith;
        confirmations = λ code. omega arith;
        accepted = λ test. omega arith;
        received = λ test. omega (arith, said-no_user read.back m.heard.message (Answer m.link m.number) m.heard.says refl test);
      })
      (each-line p m.link y m.lines m.set (λ k x. IsLine x) (λ k d. h.lines k) (line-unawaited z (h.lines m.link)))
      h)

  -- no answer comes that isn't awaited
  pub sound-ignores_answer : IgnoresAnswer read p q → Sound read p → Sound read q
  sound-ignores_answer m h =
      let none : under_way (saying read.back (is_answer m.link)) (turned p) ≡ 0 = omega (arith, h.there.orders m.link, none-said (p.line m.link).near.awaited m.unawaited) in
      both (ap (is_answer m.link) m.heard.says ∙ same-link m.link)
      (arrived-not (saying read.back (is_answer m.link)) p m.heard.message m.heard.rest m.heard.first none)
