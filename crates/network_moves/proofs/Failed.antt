-- Moves of a failure and its changeover are sound.
use Rattle.network_moves.proofs.Basics.{◌≡◌, ◌≢◌, inr, ℕ, Bool, true, false, ◌+◌, List, [], ◌∷◌, ◌++◌, drop, count_by, refl, ap, sym, ◌∙◌, subst, arith, ⊎_elim, cases_eq}
use Rattle.network_moves.proofs.Definitions.{end_at, Message, last_accepted, Side, Near, Far, opposite, Saying, Order, Answer, is_end, is_awaited_by, is_untrue, saying, user, Live, Moved, Gone, Line, Network, Shape, turned, Place, line_at, point_at, node_at, waiting, given_up, one_if, with_failure, with_wait, with_completion, sent_unconfirmed, Falls, Orders, CompletesByOrder, AnswersOrder, CompletesByAnswer, EndsWait, CompletesByTime, Flows}
use Rattle.std.specs.Prelude.{take}
use Rattle.network_moves.proofs.Counts.{count-append, count-cons, count-one}
use Rattle.network_moves.proofs.Words.{one-said, one-management, one-flag, small, end-itself, end-opposite, end-elsewhere, opposite-twice, told, told-elsewhere}
use Rattle.network_moves.proofs.Lines.{IsLine}
use Rattle.network_moves.proofs.LinesChanged.{line-failure, line-completion, line-awaited, line-unawaited, incomplete-there}
use Rattle.network_moves.proofs.Sound.{Sound, kept-line, kept-node, line-there, far-truth}
use Rattle.network_moves.proofs.Waiting.{same, waiting-live, given-live, drop-split, drop-fewer}
use Rattle.network_moves.proofs.Quiet.{quiet-line, still-true}
use Rattle.network_moves.proofs.Tells.{Tells, order-tells, answer-tells, names-received}

moved-live : Moved ≡ Live → ⊥
moved-live e = cc

gone-live : Gone ≡ Live → ⊥
gone-live e = cc

gone-moved : {A : Type 0} → Gone ≡ Moved → A
gone-moved e = absurd cc

pub of-sides : (P : Side → Type 0) (side s : Side) → P side → P (opposite side) → P s
of-sides P Near Near here there = here
of-sides P Near Far here there = there
of-sides P Far Near here there = there
of-sides P Far Far here there = here

module _ (shape : Shape) (read : Message → Saying) (p : Network) (h : Sound shape read p) (place : Place) where
  -- a word about a link that is down at its maker, with the number of the last message accepted there, is true
  pub told-anywhere : (line_at p place).near.up ≡ false → (l : ℕ) (s : Side) →
      one_if (is_untrue l s (end_at p l s).up (last_accepted (end_at p l s).queue) (Order place.link place.side (last_accepted (line_at p place).near.queue))) ≡ 0
  told-anywhere down l s =
      let last : ℕ = last_accepted (line_at p place).near.queue in
      let Is : ℕ → Side → Type 0 = λ j t. one_if (is_untrue j t (end_at p j t).up (last_accepted (end_at p j t).queue) (Order place.link place.side last)) ≡ 0 in
      ⊎_elim
      (λ (e : l ≡ place.link).
      subst (λ (j : ℕ). Is j s) (sym e)
      (of-sides (Is place.link) place.side s
      (told place.link place.link place.side place.side (line_at p place).near.up last down)
      (told-elsewhere place.link place.link (opposite place.side) place.side (end_at p place.link (opposite place.side)).up (last_accepted (end_at p place.link (opposite place.side)).queue) last
      (end-opposite place.link place.side))))
      (λ (d : l ≢ place.link).
      told-elsewhere l place.link s place.side (end_at p l s).up (last_accepted (end_at p l s).queue) last (end-elsewhere place.link l place.side s d))
      (cases_eq l place.link)

  module _ (m : Message) (x : Saying) (says : read m ≡ x) where
    -- one message that is made or looked at, by what it says
    one : (test : Saying → Bool) → count_by (saying read test) (m ∷ []) ≡ one_if (test x)
    one test = count-one (saying read test) m ∙ one-said read m x says test

  -- ---- the near end's changeover goes on

  module _ (incomplete : (line_at p place).near.incomplete ≡ true) where
    here : IsLine (line_at p place)
    here = line-there shape read p h place

    down : (line_at p place).near.up ≡ false
    down = here.near.incomplete incomplete

    all-wait : waiting (line_at p place) ≡ drop (line_at p place).far.queue.received (line_at p place).near.queue.all
    all-wait = waiting-live (line_at p place).near.phase (line_at p place).near.queue (line_at p place).far.queue.received (here.near.live_incomplete incomplete)

    none-given : given_up (line_at p place) ≡ []
    none-given = given-live (line_at p place).near.phase (line_at p place).near.queue (line_at p place).far.queue.received (here.near.live_incomplete incomplete)

    -- the messages after a count that is of those received are those that wait
    moved-are : (count : ℕ) → count ≡ (line_at p place).far.queue.received → (test : Message → Bool) →
        count_by test (drop count (line_at p place).near.queue.all) ≡ count_by test (waiting (line_at p place))
    moved-are count e test = ap (λ (n : ℕ). count_by test (drop n (line_at p place).near.queue.all)) e ∙ sym (ap (count_by test) all-wait)

    given-none : (test : Message → Bool) → count_by test (given_up (line_at p place)) ≡ 0
    given-none test = ap (count_by test) none-given

module _ (shape : Shape) (read : Message → Saying) (p q : Network) where
  pub sound-falls : Falls shape read p q → Sound shape read p → Sound shape read q
  sound-falls m h =
      let y : Line = line_at p m.place in
      let l : IsLine y = line-there shape read p h m.place in
      quiet-line shape read p q m.place (with_failure y) m.after
      (record {
        line = line-failure y m.up l;
        near = same (with_failure y) y refl refl refl refl;
        far = same (turned (with_failure y)) (turned y) refl refl refl refl;
        awaited = refl;
        far_awaited = refl;
        truth = still-true shape read p m.place (with_failure y).near (λ u. m.up) (inr refl) h;
        far_truth = far-truth shape read p h m.place;
      })
      h

  pub sound-orders : Orders shape read p q → Sound shape read p → Sound shape read q
  sound-orders m h =
      let y : Line = line_at p m.place in
      let l : IsLine y = line-there shape read p h m.place in
      let link : ℕ = m.place.link in
      let side : Side = m.place.side in
      let last : ℕ = last_accepted y.near.queue in
      let made : (test : Saying → Bool) → count_by (saying read test) (m.order ∷ []) ≡ one_if (test (Order link side last)) = one shape read p h m.place m.order (Order link side last) m.says in
      let true-there : (j : ℕ) (s : Side) → one_if (is_untrue j s (end_at p j s).up (last_accepted (end_at p j s).queue) (Order link side last)) ≡ 0 =
      told-anywhere shape read p h m.place (l.near.incomplete m.incomplete) in
      kept-line shape read p q m.place (with_wait y true) _ m.after (m.order ∷ []) [] (line-awaited y m.incomplete l)
      (record {
        way = λ test. omega (arith, count-cons test m.order (node_at shape p m.place).bag, count-one test m.order);
        awaited = omega (arith, made (is_awaited_by link side), small (is_end link side link side), one-flag y.near.awaited false m.unawaited);
        far_awaited = omega (arith, made (is_awaited_by link (opposite side)), one-flag (is_end link (opposite side) link side) false (end-opposite link side));
        elsewhere = λ j s d. omega (arith, made (is_awaited_by j s), one-flag (is_end j s link side) false (end-elsewhere link j side s d));
        truth = omega (arith, h.truth link side, made (is_untrue link side y.near.up last), told link link side side y.near.up last (l.near.incomplete m.incomplete));
        far_truth = omega (
          arith,
          far-truth shape read p h m.place,
          made (is_untrue link (opposite side) y.far.up (last_accepted y.far.queue)),
          told-elsewhere link link (opposite side) side y.far.up (last_accepted y.far.queue) last (end-opposite link side),
        );
        truth_elsewhere = λ j s d. omega (arith, made (is_untrue j s (end_at p j s).up (last_accepted (end_at p j s).queue)), true-there j s);
      })
      (record {
        entered = λ test. omega arith;
        far_entered = λ test. refl;
        each = λ test. omega (arith, count-cons (user read test) m.order (node_at shape p m.place).bag, one-management read m.order (Order link side last) m.says refl test);
        far_each = λ test. refl;
        named = λ test. omega arith;
        far_named = λ test. omega arith;
      })
      h

  pub sound-completes_by_order : CompletesByOrder shape read p q → Sound shape read p → Sound shape read q
  sound-completes_by_order m h =
      let y : Line = line_at p m.place in
      let l : IsLine y = line-there shape read p h m.place in
      let link : ℕ = m.place.link in
      let side : Side = m.place.side in
      let last : ℕ = last_accepted y.near.queue in
      let t : Tells shape read p m.place m.number = order-tells shape read p m.place m.order m.rest m.after.inside m.taken h m.number m.says in
      let is : m.count ≡ y.far.queue.received = names-received shape read p m.place m.number m.count t m.incomplete m.named h in
      let made : (test : Saying → Bool) → count_by (saying read test) (m.answer ∷ []) ≡ one_if (test (Answer link side last)) = one shape read p h m.place m.answer (Answer link side last) m.answers in
      let looked : (test : Saying → Bool) → count_by (saying read test) (m.order ∷ []) ≡ one_if (test (Order link (opposite side) m.number)) =
      one shape read p h m.place m.order (Order link (opposite side) m.number) m.says in
      let true-there : (j : ℕ) (s : Side) → one_if (is_untrue j s (end_at p j s).up (last_accepted (end_at p j s).queue) (Order link side last)) ≡ 0 =
      told-anywhere shape read p h m.place (l.near.incomplete m.incomplete) in
      let moved : (test : Message → Bool) → count_by test (drop m.count y.near.queue.all) ≡ count_by test (waiting y) = moved-are shape read p h m.place m.incomplete m.count is in
      let bag : (test : Message → Bool) →
      count_by test (m.answer ∷ (drop m.count y.near.queue.all ++ m.rest)) ≡ one_if (test m.answer) + (count_by test (drop m.count y.near.queue.all) + count_by test m.rest) =
      λ test. omega (arith, count-cons test m.answer (drop m.count y.near.queue.all ++ m.rest), count-append test (drop m.count y.near.queue.all) m.rest) in
      kept-line shape read p q m.place (with_completion y Moved y.near.awaited) _ m.after (m.answer ∷ []) (m.order ∷ [])
      (line-completion y Moved y.near.awaited moved-live (λ e. t.far_down) m.incomplete l)
      (record {
        way = λ test. omega (arith, bag test, moved test, m.taken.counted test, count-one test m.answer, count-one test m.order);
        awaited = omega (arith, made (is_awaited_by link side), looked (is_awaited_by link side));
        far_awaited = omega (arith, made (is_awaited_by link (opposite side)), looked (is_awaited_by link (opposite side)));
        elsewhere = λ j s d. omega (arith, made (is_awaited_by j s), looked (is_awaited_by j s));
        truth = omega (arith, h.truth link side, made (is_untrue link side y.near.up last), told link link side side y.near.up last (l.near.incomplete m.incomplete));
        far_truth = omega (
          arith,
          far-truth shape read p h m.place,
          made (is_untrue link (opposite side) y.far.up (last_accepted y.far.queue)),
          told-elsewhere link link (opposite side) side y.far.up (last_accepted y.far.queue) last (end-opposite link side),
        );
        truth_elsewhere = λ j s d. omega (arith, made (is_untrue j s (end_at p j s).up (last_accepted (end_at p j s).queue)), true-there j s);
      })
      (record {
        entered = λ test. omega arith;
        far_entered = λ test. refl;
        each = λ test.
            omega (
              arith,
              bag (user read test),
              moved (user read test),
              m.taken.counted (user read test),
              given-none shape read p h m.place m.incomplete (user read test),
              one-management read m.answer (Answer link side last) m.answers refl test,
              one-management read m.order (Order link (opposite side) m.number) m.says refl test,
            );
        far_each = λ test. refl;
        named = λ test. omega arith;
        far_named = λ test. omega arith;
      })
      h

  pub sound-answers_order : AnswersOrder shape read p q → Sound shape read p → Sound shape read q
  sound-answers_order m h =
      let y : Line = line_at p m.place in
      let link : ℕ = m.place.link in
      let side : Side = m.place.side in
      let last : ℕ = last_accepted y.near.queue in
      let made : (test : Saying → Bool) → count_by (saying read test) (m.answer ∷ []) ≡ one_if (test (Answer link side last)) = one shape read p h m.place m.answer (Answer link side last) m.answers in
      let looked : (test : Saying → Bool) → count_by (saying read test) (m.order ∷ []) ≡ one_if (test (Order link (opposite side) m.number)) =
      one shape read p h m.place m.order (Order link (opposite side) m.number) m.says in
      kept-node shape read p q (point_at shape m.place) _ m.after (m.answer ∷ []) (m.order ∷ [])
      (record {
        way = λ test. omega (arith, count-cons test m.answer m.rest, m.taken.counted test, count-one test m.answer, count-one test m.order);
        awaited = λ j s. omega (arith, made (is_awaited_by j s), looked (is_awaited_by j s));
        truth = λ j s. omega (arith, made (is_untrue j s (end_at p j s).up (last_accepted (end_at p j s).queue)), told-anywhere shape read p h m.place m.down j s);
        entered = λ test. omega arith;
        each = λ test.
            omega (
              arith,
              count-cons (user read test) m.answer m.rest,
              m.taken.counted (user read test),
              one-management read m.answer (Answer link side last) m.answers refl test,
              one-management read m.order (Order link (opposite side) m.number) m.says refl test,
            );
        named = λ test. omega arith;
      })
      h

  -- the answer that its own end awaits
  its-own : (link : ℕ) (side : Side) (number : ℕ) → one_if (is_awaited_by link side (Answer link (opposite side) number)) ≡ 1
  its-own link side number = ap (λ (s : Side). one_if (is_end link side link s)) (opposite-twice side) ∙ ap one_if (end-itself link side)

  pub sound-completes_by_answer : CompletesByAnswer shape read p q → Sound shape read p → Sound shape read q
  sound-completes_by_answer m h =
      let y : Line = line_at p m.place in
      let l : IsLine y = line-there shape read p h m.place in
      let link : ℕ = m.place.link in
      let side : Side = m.place.side in
      let t : Tells shape read p m.place m.number = answer-tells shape read p m.place m.answer m.rest m.after.inside m.taken h m.number m.says in
      let is : m.count ≡ y.far.queue.received = names-received shape read p m.place m.number m.count t m.incomplete m.named h in
      let looked : (test : Saying → Bool) → count_by (saying read test) (m.answer ∷ []) ≡ one_if (test (Answer link (opposite side) m.number)) =
      one shape read p h m.place m.answer (Answer link (opposite side) m.number) m.says in
      let moved : (test : Message → Bool) → count_by test (drop m.count y.near.queue.all) ≡ count_by test (waiting y) = moved-are shape read p h m.place m.incomplete m.count is in
      kept-line shape read p q m.place (with_completion y Moved false) _ m.after [] (m.answer ∷ [])
      (line-completion y Moved false moved-live (λ e. t.far_down) m.incomplete l)
      (record {
        way = λ test. omega (arith, count-append test (drop m.count y.near.queue.all) m.rest, moved test, m.taken.counted test, count-one test m.answer);
        awaited = omega (arith, looked (is_awaited_by link side), its-own link side m.number, small y.near.awaited);
        far_awaited = omega arith;
        elsewhere = λ j s d. omega arith;
        truth = omega (arith, h.truth link side);
        far_truth = omega (arith, far-truth shape read p h m.place);
        truth_elsewhere = λ j s d. refl;
      })
      (record {
        entered = λ test. omega arith;
        far_entered = λ test. refl;
        each = λ test.
            omega (
              arith,
              count-append (user read test) (drop m.count y.near.queue.all) m.rest,
              moved (user read test),
              m.taken.counted (user read test),
              given-none shape read p h m.place m.incomplete (user read test),
              one-management read m.answer (Answer link (opposite side) m.number) m.says refl test,
            );
        far_each = λ test. refl;
        named = λ test. omega arith;
        far_named = λ test. omega arith;
      })
      h

  pub sound-ends_wait : EndsWait shape read p q → Sound shape read p → Sound shape read q
  sound-ends_wait m h =
      let y : Line = line_at p m.place in
      let l : IsLine y = line-there shape read p h m.place in
      let link : ℕ = m.place.link in
      let side : Side = m.place.side in
      let looked : (test : Saying → Bool) → count_by (saying read test) (m.answer ∷ []) ≡ one_if (test (Answer link (opposite side) m.number)) =
      one shape read p h m.place m.answer (Answer link (opposite side) m.number) m.says in
      kept-line shape read p q m.place (with_wait y false) _ m.after [] (m.answer ∷ []) (line-unawaited y l)
      (record {
        way = λ test. omega (arith, m.taken.counted test, count-one test m.answer);
        awaited = omega (arith, looked (is_awaited_by link side), its-own link side m.number, small y.near.awaited);
        far_awaited = omega arith;
        elsewhere = λ j s d. omega arith;
        truth = omega (arith, h.truth link side);
        far_truth = omega (arith, far-truth shape read p h m.place);
        truth_elsewhere = λ j s d. refl;
      })
      (record {
        entered = λ test. omega arith;
        far_entered = λ test. refl;
        each = λ test. omega (arith, m.taken.counted (user read test), one-management read m.answer (Answer link (opposite side) m.number) m.says refl test);
        far_each = λ test. refl;
        named = λ test. omega arith;
        far_named = λ test. omega arith;
      })
      h

  pub sound-completes_by_time : CompletesByTime shape read p q → Sound shape read p → Sound shape read q
  sound-completes_by_time m h =
      let y : Line = line_at p m.place in
      let l : IsLine y = line-there shape read p h m.place in
      let link : ℕ = m.place.link in
      let side : Side = m.place.side in
      let f : Flows y = incomplete-there y m.incomplete l in
      let received : ℕ = y.far.queue.received in
      let all : List Message = y.near.queue.all in
      let sent : ℕ = y.near.queue.sent in
      let split : (test : Message → Bool) → count_by test (waiting y) ≡ count_by test (drop received (take sent all)) + count_by test (drop sent all) =
      λ test. ap (count_by test) (all-wait shape read p h m.place m.incomplete ∙ drop-split all received sent f.received) ∙ count-append test (drop received (take sent all)) (drop sent all) in
      kept-line shape read p q m.place (with_completion y Gone y.near.awaited) _ m.after [] []
      (line-completion y Gone y.near.awaited gone-live (λ e. gone-moved e) m.incomplete l)
      (record {
        way = λ test. omega (arith, count-append test (drop sent all) (node_at shape p m.place).bag, split test);
        awaited = omega arith;
        far_awaited = omega arith;
        elsewhere = λ j s d. omega arith;
        truth = omega (arith, h.truth link side);
        far_truth = omega (arith, far-truth shape read p h m.place);
        truth_elsewhere = λ j s d. refl;
      })
      (record {
        entered = λ test. omega arith;
        far_entered = λ test. refl;
        each = λ test.
            omega (
              arith,
              count-append (user read test) (drop sent all) (node_at shape p m.place).bag,
              split (user read test),
              given-none shape read p h m.place m.incomplete (user read test),
            );
        far_each = λ test. refl;
        named = λ test.
            omega (
              arith,
              count-append (user read test) (sent_unconfirmed y.near.queue) (node_at shape p m.place).named,
              drop-fewer (user read test) (take sent all) y.near.queue.confirmed received f.confirmed,
            );
        far_named = λ test. omega arith;
      })
      h
