-- Moves of messages and frames are sound.
use Rattle.network_moves.proofs.Basics.{◌≡◌, inl, suc, Bool, true, false, ◌+◌, ◌≤◌, [], ◌∷◌, length, drop, slice_get, count_by, refl, ap, sym, ◌∙◌, arith, Some, drop-append-le}
use Rattle.network_moves.proofs.Definitions.{end_at, Message, last_accepted, Queue, appended, Saying, UserMessage, Other, is_untrue, is_awaited_by, saying, user, Line, Network, Shape, Live, turned, line_at, node_at, waiting, waiting_in, given_up, given_up_in, one_if, with_message, Submits, Makes, Ends, GivesUp, Discards, Places, with_status, with_statuses_left, with_frame, acknowledgement, with_sent, with_heard, with_frames_left, with_accepted, SendsStatus, SendsMessage, SendsEmpty, HearsStatus, TakesStatus, DoublesStatus, Drops, TakesEmpty, TakesMessage, Flows, on_its_way}
use Rattle.network_moves.proofs.Counts.{count-append, count-cons, count-one}
use Rattle.network_moves.proofs.Words.{untrue_of, only-user, one-said, one-no_user, one-management}
use Rattle.network_moves.proofs.Lines.{IsLine, both, serving-flows, line-message, line-status, line-empty, line-sent, line-heard, line-told}
use Rattle.network_moves.proofs.LinesTaken.{line-left, line-taken_empty, line-taken_message, taken_message-is, taken_message-sent}
use Rattle.network_moves.proofs.Sound.{Sound, kept-line, kept-node, line-there, far-truth}
use Rattle.network_moves.proofs.Waiting.{IsSame, same, waiting-live, given-live, waiting-alike, given-alike, comes-off, given-fewer}
use Rattle.network_moves.proofs.Quiet.{quiet-line, still-true}

module _ (shape : Shape) (read : Message → Saying) (p q : Network) where
  -- ---- of one node

  pub sound-submits : Submits shape read p q → Sound shape read p → Sound shape read q
  sound-submits m h =
      let is : read m.message ≡ UserMessage = only-user (read m.message) m.user in
      kept-node shape read p q m.point _ m.after (m.message ∷ []) []
      (record {
        way = λ test. omega (arith, count-cons test m.message (p.node m.point).bag, count-one test m.message);
        awaited = λ l s. omega (arith, count-one (saying read (is_awaited_by l s)) m.message, one-said read m.message UserMessage is (is_awaited_by l s));
        truth = λ l s. omega (arith, count-one (untrue_of read l s (end_at p l s)) m.message, one-said read m.message UserMessage is (is_untrue l s (end_at p l s).up (last_accepted (end_at p l s).queue)));
        entered = λ test. omega (arith, count-cons (user read test) m.message (p.node m.point).accepted, count-cons (user read test) m.message (p.node m.point).submitted);
        each = λ test. omega (arith, count-cons (user read test) m.message (p.node m.point).bag, count-cons (user read test) m.message (p.node m.point).accepted);
        named = λ test. omega arith;
      })
      h

  pub sound-makes : Makes shape read p q → Sound shape read p → Sound shape read q
  sound-makes m h =
      kept-node shape read p q m.point _ m.after (m.message ∷ []) []
      (record {
        way = λ test. omega (arith, count-cons test m.message (p.node m.point).bag, count-one test m.message);
        awaited = λ l s. omega (arith, count-one (saying read (is_awaited_by l s)) m.message, one-said read m.message Other m.other (is_awaited_by l s));
        truth = λ l s. omega (arith, count-one (untrue_of read l s (end_at p l s)) m.message, one-said read m.message Other m.other (is_untrue l s (end_at p l s).up (last_accepted (end_at p l s).queue)));
        entered = λ test. omega arith;
        each = λ test. omega (arith, count-cons (user read test) m.message (p.node m.point).bag, one-management read m.message Other m.other refl test);
        named = λ test. omega arith;
      })
      h

  pub sound-ends : Ends shape read p q → Sound shape read p → Sound shape read q
  sound-ends m h =
      kept-node shape read p q m.point _ m.after [] (m.message ∷ [])
      (record {
        way = λ test. omega (arith, m.taken.counted test, count-one test m.message);
        awaited = λ l s. omega arith;
        truth = λ l s. refl;
        entered = λ test. omega arith;
        each = λ test. omega (arith, m.taken.counted (user read test), count-cons (user read test) m.message (p.node m.point).ended);
        named = λ test. omega arith;
      })
      h

  pub sound-gives_up : GivesUp shape read p q → Sound shape read p → Sound shape read q
  sound-gives_up m h =
      kept-node shape read p q m.point _ m.after [] (m.message ∷ [])
      (record {
        way = λ test. omega (arith, m.taken.counted test, count-one test m.message);
        awaited = λ l s. omega arith;
        truth = λ l s. refl;
        entered = λ test. omega arith;
        each = λ test. omega (arith, m.taken.counted (user read test), count-cons (user read test) m.message (p.node m.point).gone);
        named = λ test. omega (arith, count-cons (user read test) m.message (p.node m.point).gone, count-cons (user read test) m.message (p.node m.point).named);
      })
      h

  pub sound-discards : Discards shape read p q → Sound shape read p → Sound shape read q
  sound-discards m h =
      kept-node shape read p q m.point _ m.after [] (m.message ∷ [])
      (record {
        way = λ test. omega (arith, m.taken.counted test, count-one test m.message);
        awaited = λ l s. omega arith;
        truth = λ l s. refl;
        entered = λ test. omega arith;
        each = λ test. omega (arith, m.taken.counted (user read test), one-no_user read m.message m.management test);
        named = λ test. omega arith;
      })
      h

  -- ---- onto a link

  placed-waits : (z : Line) (m : Message) (test : Message → Bool) → z.near.serving ≡ true → IsLine z →
      count_by test (waiting (with_message z m)) ≡ count_by test (waiting z) + one_if (test m)
  placed-waits z m test serving h =
      let f : Flows z = serving-flows z h serving in
      let live : z.near.phase ≡ Live = h.near.live_up (h.near.serving serving) in
      let there : z.far.queue.received ≤ length z.near.queue.all = omega (arith, f.received, h.near.queue.sent) in
      omega (
        arith,
        ap (count_by test) (waiting-live z.near.phase z.near.queue z.far.queue.received live),
        ap (count_by test) (waiting-live z.near.phase (appended z.near.queue m) z.far.queue.received live),
        ap (count_by test) (drop-append-le z.far.queue.received z.near.queue.all (m ∷ []) there),
        count-append test (drop z.far.queue.received z.near.queue.all) (m ∷ []),
        count-one test m,
      )

  placed-given : (z : Line) (m : Message) (test : Message → Bool) → z.near.serving ≡ true → IsLine z →
      count_by test (given_up (with_message z m)) ≡ count_by test (given_up z)
  placed-given z m test serving h =
      let live : z.near.phase ≡ Live = h.near.live_up (h.near.serving serving) in
      ap (count_by test) (given-live z.near.phase (appended z.near.queue m) z.far.queue.received live
      ∙ sym (given-live z.near.phase z.near.queue z.far.queue.received live))

  pub sound-places : Places shape read p q → Sound shape read p → Sound shape read q
  sound-places m h =
      let z : Line = line_at p m.place in
      let l : IsLine z = line-there shape read p h m.place in
      kept-line shape read p q m.place (with_message z m.message) _ m.after [] [] (line-message z m.message m.serving l)
      (record {
        way = λ test. omega (arith, m.taken.counted test, placed-waits z m.message test m.serving l, placed-given z m.message test m.serving l);
        awaited = omega arith;
        far_awaited = omega arith;
        elsewhere = λ l s d. omega arith;
        truth = omega (arith, h.truth m.place.link m.place.side);
        far_truth = omega (arith, far-truth shape read p h m.place);
        truth_elsewhere = λ l s d. refl;
      })
      (record {
        entered = λ test. omega arith;
        far_entered = λ test. refl;
        each = λ test. omega (arith, m.taken.counted (user read test), placed-waits z m.message (user read test) m.serving l, placed-given z m.message (user read test) m.serving l);
        far_each = λ test. refl;
        named = λ test. omega (arith, placed-given z m.message (user read test) m.serving l);
        far_named = λ test. omega arith;
      })
      h

  -- ---- frames

  pub sound-sends_status : SendsStatus shape p q → Sound shape read p → Sound shape read q
  sound-sends_status m h =
      let y : Line = line_at p m.place in
      let l : IsLine y = line-there shape read p h m.place in
      quiet-line shape read p q m.place (with_status y) m.after
      (record {
        line = line-status y m.up l;
        near = same (with_status y) y refl refl refl refl;
        far = same (turned (with_status y)) (turned y) refl refl refl refl;
        awaited = refl;
        far_awaited = refl;
        truth = h.truth m.place.link m.place.side;
        far_truth = far-truth shape read p h m.place;
      })
      h

  -- only the counts of the near queue change
  counted : (z y : Line) → z.near.phase ≡ y.near.phase → z.near.queue.all ≡ y.near.queue.all → z.near.queue.sent ≡ y.near.queue.sent →
      z.far.queue ≡ y.far.queue → z.near.came ≡ y.near.came → z.near.gone ≡ y.near.gone → IsSame z y
  counted z y phase all sent far came gone =
      same z y
      (ap (λ x. waiting_in x z.near.queue z.far.queue.received) phase ∙ waiting-alike y.near.phase z.near.queue y.near.queue z.far.queue.received all
      ∙ ap (λ (x : Queue). waiting_in y.near.phase y.near.queue x.received) far)
      (ap (λ x. given_up_in x z.near.queue z.far.queue.received) phase ∙ given-alike y.near.phase z.near.queue y.near.queue z.far.queue.received all sent
      ∙ ap (λ (x : Queue). given_up_in y.near.phase y.near.queue x.received) far)
      came gone

  pub sound-sends_message : SendsMessage shape p q → Sound shape read p → Sound shape read q
  sound-sends_message m h =
      let y : Line = line_at p m.place in
      let l : IsLine y = line-there shape read p h m.place in
      let live : y.near.phase ≡ Live = l.near.live_up (l.near.serving m.serving) in
      quiet-line shape read p q m.place (with_sent y m.sending) m.after
      (record {
        line = line-sent y m.window m.sending m.small m.next m.serving l;
        near = same (with_sent y m.sending) y
            (waiting-alike y.near.phase (with_sent y m.sending).near.queue y.near.queue y.far.queue.received refl)
            (given-live y.near.phase (with_sent y m.sending).near.queue y.far.queue.received live ∙ sym (given-live y.near.phase y.near.queue y.far.queue.received live))
            refl refl;
        far = same (turned (with_sent y m.sending)) (turned y) refl refl refl refl;
        awaited = refl;
        far_awaited = refl;
        truth = h.truth m.place.link m.place.side;
        far_truth = far-truth shape read p h m.place;
      })
      h

  pub sound-sends_empty : SendsEmpty shape p q → Sound shape read p → Sound shape read q
  sound-sends_empty m h =
      let y : Line = line_at p m.place in
      let l : IsLine y = line-there shape read p h m.place in
      quiet-line shape read p q m.place (with_frame y (acknowledgement y.near.queue)) m.after
      (record {
        line = line-empty y m.up l;
        near = same (with_frame y (acknowledgement y.near.queue)) y refl refl refl refl;
        far = same (turned (with_frame y (acknowledgement y.near.queue))) (turned y) refl refl refl refl;
        awaited = refl;
        far_awaited = refl;
        truth = h.truth m.place.link m.place.side;
        far_truth = far-truth shape read p h m.place;
      })
      h

  pub sound-hears_status : HearsStatus shape p q → Sound shape read p → Sound shape read q
  sound-hears_status m h =
      let y : Line = line_at p m.place in
      let l : IsLine y = line-there shape read p h m.place in
      quiet-line shape read p q m.place (with_heard y) m.after
      (record {
        line = line-heard y m.rest m.some m.up l;
        near = same (with_heard y) y refl refl refl refl;
        far = same (turned (with_heard y)) (turned y) refl refl refl refl;
        awaited = refl;
        far_awaited = refl;
        truth = h.truth m.place.link m.place.side;
        far_truth = far-truth shape read p h m.place;
      })
      h

  pub sound-takes_status : TakesStatus shape p q → Sound shape read p → Sound shape read q
  sound-takes_status m h =
      let y : Line = line_at p m.place in
      let l : IsLine y = line-there shape read p h m.place in
      quiet-line shape read p q m.place (with_statuses_left y m.rest) m.after
      (record {
        line = line-told y m.rest m.rest m.some l;
        near = same (with_statuses_left y m.rest) y refl refl refl refl;
        far = same (turned (with_statuses_left y m.rest)) (turned y) refl refl refl refl;
        awaited = refl;
        far_awaited = refl;
        truth = h.truth m.place.link m.place.side;
        far_truth = far-truth shape read p h m.place;
      })
      h

  pub sound-doubles_status : DoublesStatus shape p q → Sound shape read p → Sound shape read q
  sound-doubles_status m h =
      let y : Line = line_at p m.place in
      let l : IsLine y = line-there shape read p h m.place in
      quiet-line shape read p q m.place (with_statuses_left y (suc (suc m.rest))) m.after
      (record {
        line = line-told y m.rest (suc (suc m.rest)) m.some l;
        near = same (with_statuses_left y (suc (suc m.rest))) y refl refl refl refl;
        far = same (turned (with_statuses_left y (suc (suc m.rest)))) (turned y) refl refl refl refl;
        awaited = refl;
        far_awaited = refl;
        truth = h.truth m.place.link m.place.side;
        far_truth = far-truth shape read p h m.place;
      })
      h

  pub sound-drops : Drops shape p q → Sound shape read p → Sound shape read q
  sound-drops m h =
      let y : Line = line_at p m.place in
      let l : IsLine y = line-there shape read p h m.place in
      quiet-line shape read p q m.place (with_frames_left y m.rest) m.after
      (record {
        line = line-left y m.frame m.rest m.first m.down l;
        near = same (with_frames_left y m.rest) y refl refl refl refl;
        far = same (turned (with_frames_left y m.rest)) (turned y) refl refl refl refl;
        awaited = refl;
        far_awaited = refl;
        truth = h.truth m.place.link m.place.side;
        far_truth = far-truth shape read p h m.place;
      })
      h

  pub sound-takes_empty : TakesEmpty shape p q → Sound shape read p → Sound shape read q
  sound-takes_empty m h =
      let y : Line = line_at p m.place in
      let l : IsLine y = line-there shape read p h m.place in
      quiet-line shape read p q m.place (with_accepted y m.rest false m.count y.far.came) m.after
      (record {
        line = line-taken_empty y m.fsn m.bsn m.rest m.count y.far.came m.first m.up m.accepted l;
        near = counted (with_accepted y m.rest false m.count y.far.came) y refl refl refl refl refl refl;
        far = same (turned (with_accepted y m.rest false m.count y.far.came)) (turned y) refl refl refl refl;
        awaited = refl;
        far_awaited = refl;
        truth = h.truth m.place.link m.place.side;
        far_truth = far-truth shape read p h m.place;
      })
      h

  pub sound-takes_message : TakesMessage shape p q → Sound shape read p → Sound shape read q
  sound-takes_message m h =
      let y : Line = line_at p m.place in
      let l : IsLine y = line-there shape read p h m.place in
      let z : Line = with_accepted y m.rest true m.count (m.message ∷ y.far.came) in
      let near : IsSame z y = counted z y refl refl refl refl refl refl in
      let first : slice_get y.far.queue.all y.near.queue.received ≡ Some m.message = taken_message-is y m.fsn m.bsn m.message m.rest m.first m.up l in
      let comes : (test : Message → Bool) → on_its_way test (turned y) ≡ one_if (test m.message) + on_its_way test (turned z) =
      λ test. comes-off test y.far.queue y.near.queue.received m.message first y.far.phase (λ e. both m.up (l.moved_back e)) (taken_message-sent y m.fsn m.bsn m.message m.rest m.first m.up l) in
      kept-line shape read p q m.place z _ m.after [] [] (line-taken_message y m.fsn m.bsn m.message m.rest m.count (m.message ∷ y.far.came) m.first m.up m.accepted l)
      (record {
        way = λ test. omega (arith, near.way test, comes test, count-cons test m.message (node_at shape p m.place).bag);
        awaited = omega arith;
        far_awaited = omega arith;
        elsewhere = λ l s d. omega arith;
        truth = omega (arith, still-true shape read p m.place z.near (λ u. u) (inl m.up) h);
        far_truth = omega (arith, far-truth shape read p h m.place);
        truth_elsewhere = λ l s d. refl;
      })
      (record {
        entered = λ test. omega (arith, count-cons (user read test) m.message (node_at shape p m.place).accepted, count-cons (user read test) m.message y.far.came);
        far_entered = λ test. refl;
        each = λ test.
            omega (arith, near.each (user read test), count-cons (user read test) m.message (node_at shape p m.place).bag, count-cons (user read test) m.message (node_at shape p m.place).accepted);
        far_each = λ test. omega (arith, comes (user read test), count-cons (user read test) m.message y.far.came);
        named = λ test. omega (arith, near.lost (user read test));
        far_named = λ test. omega (arith, given-fewer (user read test) y.far.queue y.near.queue.received m.message first y.far.phase);
      })
      h
