-- Moves of a link that opens and enters service are sound.
use Rattle.network_moves.proofs.Basics.{◌≡◌, ℕ, Bool, false, [], count_by, refl, ap, sym, ◌∙◌, arith}
use Rattle.network_moves.proofs.Definitions.{Message, Queue, last_accepted, opposite, Saying, is_awaited_by, saying, user, Live, LinkEnd, Line, Network, Shape, turned, Place, line_at, waiting_in, waiting, given_up, opened_first, opened_second, MayOpen, with_service, OpensFirst, OpensSecond, Enters, OpenedAlone, IsEnd, under_way}
use Rattle.network_moves.proofs.Counts.{count-append, way-within}
use Rattle.network_moves.proofs.Words.{untrue_of, untrue-any, one-flag}
use Rattle.network_moves.proofs.Lines.{IsLine, none-of_two, not-without}
use Rattle.network_moves.proofs.LinesChanged.{line-opened_first, line-opened_second, line-service}
use Rattle.network_moves.proofs.Sound.{Sound, kept-line, line-there, far-awaited, far-truth}
use Rattle.network_moves.proofs.Waiting.{same, waiting-none, given-live}
use Rattle.network_moves.proofs.Quiet.{quiet-line}

-- nothing waits on an end that is down and has nothing to complete
none-waits : (z : Line) → IsEnd z.near → MayOpen z.near → waiting z ≡ []
none-waits z h m =
    waiting-none z.near.phase z.near.queue z.far.queue.received
    (λ live. h.idle live (none-of_two z.near.serving z.near.incomplete (not-without z.near.serving h.serving m.down) m.complete))

module _ (shape : Shape) (read : Message → Saying) (p : Network) (h : Sound shape read p) (place : Place) where
  -- no word about a link is under way if neither end awaits one
  pub no-word : (line_at p place).near.awaited ≡ false → (line_at p place).far.awaited ≡ false → (x : LinkEnd) →
      under_way shape (untrue_of read place.link place.side x) p ≡ 0
  no-word near far x =
      omega (
        arith,
        h.awaited place.link place.side,
        one-flag (line_at p place).near.awaited false near,
        far-awaited shape read p h place,
        one-flag (line_at p place).far.awaited false far,
        way-within shape (untrue_of read place.link place.side x) (saying read (is_awaited_by place.link place.side)) (saying read (is_awaited_by place.link (opposite place.side))) p
            (λ m. untrue-any place.link place.side x.up (last_accepted x.queue) (read m)),
      )

module _ (shape : Shape) (read : Message → Saying) (p q : Network) where
  pub sound-opens_first : OpensFirst shape p q → Sound shape read p → Sound shape read q
  sound-opens_first m h =
      let y : Line = line_at p m.place in
      let z : Line = opened_first y in
      let l : IsLine y = line-there shape read p h m.place in
      let near : (test : Message → Bool) → count_by test (waiting y) ≡ 0 = λ test. ap (count_by test) (none-waits y l.near m.near_may) in
      let far : (test : Message → Bool) → count_by test (waiting (turned y)) ≡ 0 = λ test. ap (count_by test) (none-waits (turned y) l.far m.far_may) in
      let new : (test : Message → Bool) → count_by test (waiting z) ≡ 0 = λ test. ap (count_by test) (waiting-none Live z.near.queue z.far.queue.received (λ e. refl)) in
      kept-line shape read p q m.place z _ m.after [] [] (line-opened_first y m.far_may l)
      (record {
        way = λ test. omega (arith, new test);
        awaited = omega (arith, one-flag y.near.awaited false m.near_may.unawaited);
        far_awaited = omega arith;
        elsewhere = λ j s d. omega arith;
        truth = omega (arith, no-word shape read p h m.place m.near_may.unawaited m.far_may.unawaited z.near);
        far_truth = omega (arith, far-truth shape read p h m.place);
        truth_elsewhere = λ j s d. refl;
      })
      (record {
        entered = λ test. omega arith;
        far_entered = λ test. refl;
        each = λ test. omega (arith, near (user read test), new (user read test), count-append (user read test) (given_up y) y.near.gone);
        far_each = λ test. omega (arith, far (user read test), count-append (user read test) (given_up (turned y)) y.far.gone);
        named = λ test. omega (arith, count-append (user read test) (given_up y) y.near.gone);
        far_named = λ test. omega (arith, count-append (user read test) (given_up (turned y)) y.far.gone);
      })
      h

  pub sound-opens_second : OpensSecond shape p q → Sound shape read p → Sound shape read q
  sound-opens_second m h =
      let y : Line = line_at p m.place in
      let z : Line = opened_second y in
      let l : IsLine y = line-there shape read p h m.place in
      let o : OpenedAlone (turned y) = l.second m.follows in
      let none : y.far.queue.all ≡ [] = ap (λ (x : Queue). x.all) o.queue in
      let far : (received : ℕ) → waiting_in y.far.phase y.far.queue received ≡ [] = λ received. waiting-none y.far.phase y.far.queue received (λ e. none) in
      quiet-line shape read p q m.place z m.after
      (record {
        line = line-opened_second y m.follows l;
        near = same z y
            (waiting-none Live z.near.queue z.far.queue.received (λ e. refl) ∙ sym (none-waits y l.near m.near_may))
            (sym (given-live y.near.phase y.near.queue y.far.queue.received o.far_live))
            refl refl;
        far = same (turned z) (turned y)
            (far z.near.queue.received ∙ sym (far y.near.queue.received))
            (given-live y.far.phase y.far.queue z.near.queue.received o.live ∙ sym (given-live y.far.phase y.far.queue y.near.queue.received o.live))
            refl refl;
        awaited = sym m.near_may.unawaited;
        far_awaited = refl;
        truth = no-word shape read p h m.place m.near_may.unawaited o.unawaited z.near;
        far_truth = far-truth shape read p h m.place;
      })
      h

  pub sound-enters : Enters shape p q → Sound shape read p → Sound shape read q
  sound-enters m h =
      let y : Line = line_at p m.place in
      quiet-line shape read p q m.place (with_service y) m.after
      (record {
        line = line-service y m.up m.heard (line-there shape read p h m.place);
        near = same (with_service y) y refl refl refl refl;
        far = same (turned (with_service y)) (turned y) refl refl refl refl;
        awaited = refl;
        far_awaited = refl;
        truth = h.truth m.place.link m.place.side;
        far_truth = far-truth shape read p h m.place;
      })
      h
