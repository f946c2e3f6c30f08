-- The run of the late order is one. Once the order is made, the pair is that of the first run.
use Rattle.pair_moves.proofs.Basics.{◌≡◌, ℕ, zero, suc, Bool, true, false, ◌<◌, [], refl, ap, sym, ◌∙◌, subst, arith, Some, None, if◌then◌else◌, ne_eqb}
use Rattle.pair_moves.proofs.Definitions.{turned, turned_line, Line, Pair, closed_line, first_pair, with_message, with_status, with_statuses_left, with_heard, with_sent, with_failure, with_wait, opened_first, opened_second, with_service, Move, Moves, plain_reading, the_message, the_order, lines_with, held_by_changeover}
use Rattle.pair_moves.specs.Moves as moves
use Rattle.pair_moves.specs.Crossing as run
use Rattle.pair_moves.specs.CrossingLate as late
use Rattle.pair_moves.specs.CrossingLate.{CrossesLate}
use Rattle.pair_moves.proofs.Lines.{false_is_true}
use Rattle.pair_moves.proofs.CrossingBegun.{set, some-none, held-alone, Joins, joining, opens, opens-first, joins-first}
use Rattle.pair_moves.proofs.Crossed.{ordered}

serves : Move plain_reading (run.joined run.first_opens 0) late.serves_alone
serves = moves.near (moves.enters (record {
  link = 0;
  up = refl;
  heard = refl;
  route = λ flow. Some 0;
  kept = λ flow other e. some-none other e;
  lines = lines_with (run.joined run.first_opens 0) 0 (with_service ((run.joined run.first_opens 0).line 0));
  set = set (run.joined run.first_opens 0) 0 (with_service ((run.joined run.first_opens 0).line 0)) (omega arith);
  after = refl;
}))

serves_there : Move plain_reading late.serves_alone late.serves_alone_there
serves_there = moves.far (moves.enters (record {
  link = 0;
  up = refl;
  heard = refl;
  route = λ flow. None;
  kept = λ flow other e. e;
  lines = lines_with (turned late.serves_alone) 0 (with_service ((turned late.serves_alone).line 0));
  set = set (turned late.serves_alone) 0 (with_service ((turned late.serves_alone).line 0)) (omega arith);
  after = refl;
}))

accepts : Move plain_reading late.serves_alone_there late.accepted_alone
accepts = moves.near (moves.accepts (record { message = the_message; user = refl; after = refl }))

places : Move plain_reading late.accepted_alone late.placed_alone
places = moves.near (moves.places (record {
  link = 0;
  message = the_message;
  rest = [];
  first = refl;
  serving = refl;
  may_go = λ u. record { routed = refl; unheld = λ procedure. refl; none_held = refl };
  lines = lines_with late.accepted_alone 0 (with_message (late.accepted_alone.line 0) the_message);
  set = set late.accepted_alone 0 (with_message (late.accepted_alone.line 0) the_message) (omega arith);
  after = refl;
}))

sends : Move plain_reading late.placed_alone late.sent_alone
sends = moves.near (moves.sends_message (record {
  link = 0;
  serving = refl;
  window = 1;
  small = omega arith;
  sending = record { number = 0; message = the_message };
  next = refl;
  lines = lines_with late.placed_alone 0 (with_sent (late.placed_alone.line 0) (record { number = 0; message = the_message }));
  set = set late.placed_alone 0 (with_sent (late.placed_alone.line 0) (record { number = 0; message = the_message })) (omega arith);
  after = refl;
}))

-- every flow took link 0
zero-other : (other : ℕ) → Some 0 ≡ Some other → other ≡ 0
zero-other other e = cc

fails : Move plain_reading late.sent_alone late.failed_alone
fails = moves.near (moves.falls (record {
  link = 0;
  up = refl;
  route = λ flow. None;
  holds = λ procedure flow. held_by_changeover 0 procedure;
  suspends = record {
    others = λ flow other d e. absurd (d (zero-other other e));
    kept = λ procedure flow e. false_is_true e;
    same = λ procedure flow d. held-alone 0 procedure d;
    held = λ flow serving e. refl;
  };
  lines = lines_with late.sent_alone 0 (with_failure (late.sent_alone.line 0) false);
  set = set late.sent_alone 0 (with_failure (late.sent_alone.line 0) false) (omega arith);
  after = refl;
}))

opens-other : Move plain_reading late.failed_alone late.other_opens
opens-other =
    opens late.failed_alone 1 (omega arith) (record { down = refl; complete = refl; unawaited = refl }) (record { down = refl; complete = refl; unawaited = refl })

joins-other : Joins late.other_opens 1
joins-other = record {
  inside = omega arith;
  follows = refl;
  far_may = record { down = refl; complete = refl; unawaited = refl };
  up = refl;
  far_up = refl;
  still_up = refl;
  told = refl;
  told_still = refl;
  far_still_up = refl;
  far_told = refl;
  far_told_still = refl;
}

serves-other : Move plain_reading (run.joined late.other_opens 1) late.other_serves
serves-other = moves.near (moves.enters (record {
  link = 1;
  up = refl;
  heard = refl;
  route = λ flow. Some 1;
  kept = λ flow other e. some-none other e;
  lines = lines_with (run.joined late.other_opens 1) 1 (with_service ((run.joined late.other_opens 1).line 1));
  set = set (run.joined late.other_opens 1) 1 (with_service ((run.joined late.other_opens 1).line 1)) (omega arith);
  after = refl;
}))

serves-other_there : Move plain_reading late.other_serves late.other_serves_there
serves-other_there = moves.far (moves.enters (record {
  link = 1;
  up = refl;
  heard = refl;
  route = λ flow. None;
  kept = λ flow other e. e;
  lines = lines_with (turned late.other_serves) 1 (with_service ((turned late.other_serves).line 1));
  set = set (turned late.other_serves) 1 (with_service ((turned late.other_serves).line 1)) (omega arith);
  after = refl;
}))

orders : Move plain_reading late.other_serves_there late.ordered_late
orders = moves.near (moves.orders_late (record {
  link = 0;
  incomplete = refl;
  unawaited = refl;
  order = the_order;
  says = refl;
  lines = lines_with late.other_serves_there 0 (with_wait (late.other_serves_there.line 0));
  set = set late.other_serves_there 0 (with_wait (late.other_serves_there.line 0)) (omega arith);
  after = refl;
}))

-- ---- the pair is that of the first run

-- no link but the two ever opens
module _ (k : ℕ) where
  abbrev IsUnused : Pair → Type 0
  IsUnused p = p.line (suc (suc k)) ≡ closed_line

  past : (p : Pair) (link : ℕ) (z : Line) → link < 2 → IsUnused p → lines_with p link z (suc (suc k)) ≡ closed_line
  past p link z l e =
      ap (λ (b : Bool). if b then z else p.line (suc (suc k))) (ne_eqb (suc (suc k)) link (λ (s : suc (suc k) ≡ link). absurd (omega (arith, s, l)))) ∙ e

  past-there : (p : Pair) (link : ℕ) (z : Line) → link < 2 → IsUnused p → turned_line (lines_with (turned p) link z (suc (suc k))) ≡ closed_line
  past-there p link z l e = ap turned_line (past (turned p) link z l (ap turned_line e))

  past-joining : (p : Pair) (link : ℕ) → link < 2 → IsUnused p → IsUnused (run.joined p link)
  past-joining p link l e =
      past-there (run.heard_there p link) link (with_statuses_left ((turned (run.heard_there p link)).line link) 0) l
      (past-there (run.taken p link) link (with_heard ((turned (run.taken p link)).line link)) l
      (past (run.heard p link) link (with_statuses_left ((run.heard p link).line link) 0) l
      (past (run.said_back p link) link (with_heard ((run.said_back p link).line link)) l
      (past-there (run.said p link) link (with_status ((turned (run.said p link)).line link)) l
      (past (run.followed p link) link (with_status ((run.followed p link).line link)) l
      (past-there p link (opened_second ((turned p).line link)) l e))))))

  past-opening : (p : Pair) (link : ℕ) → link < 2 → IsUnused p → IsUnused (run.opens p link)
  past-opening p link l e = past p link (opened_first (p.line link)) l e

  unused-first : IsUnused run.failed_near
  unused-first =
      past run.sent_first 0 (with_failure (run.sent_first.line 0) true) (omega arith)
      (past run.placed_first 0 (with_sent (run.placed_first.line 0) (record { number = 0; message = the_message })) (omega arith)
      (past run.accepted_one 0 (with_message (run.accepted_one.line 0) the_message) (omega arith)
      (past-there run.first_serves_there 1 (with_service ((turned run.first_serves_there).line 1)) (omega arith)
      (past-there run.second_serves 0 (with_service ((turned run.second_serves).line 0)) (omega arith)
      (past run.first_serves 1 (with_service (run.first_serves.line 1)) (omega arith)
      (past run.opened_both 0 (with_service (run.opened_both.line 0)) (omega arith)
      (past-joining run.second_opens 1 (omega arith) (past-opening (run.joined run.first_opens 0) 1 (omega arith)
      (past-joining run.first_opens 0 (omega arith) (past-opening (first_pair 2) 0 (omega arith) refl))))))))))

  unused-late : IsUnused late.ordered_late
  unused-late =
      past late.other_serves_there 0 (with_wait (late.other_serves_there.line 0)) (omega arith)
      (past-there late.other_serves 1 (with_service ((turned late.other_serves).line 1)) (omega arith)
      (past (run.joined late.other_opens 1) 1 (with_service ((run.joined late.other_opens 1).line 1)) (omega arith)
      (past-joining late.other_opens 1 (omega arith) (past-opening late.failed_alone 1 (omega arith)
      (past late.sent_alone 0 (with_failure (late.sent_alone.line 0) false) (omega arith)
      (past late.placed_alone 0 (with_sent (late.placed_alone.line 0) (record { number = 0; message = the_message })) (omega arith)
      (past late.accepted_alone 0 (with_message (late.accepted_alone.line 0) the_message) (omega arith)
      (past-there late.serves_alone 0 (with_service ((turned late.serves_alone).line 0)) (omega arith)
      (past (run.joined run.first_opens 0) 0 (with_service ((run.joined run.first_opens 0).line 0)) (omega arith)
      (past-joining run.first_opens 0 (omega arith) (past-opening (first_pair 2) 0 (omega arith) refl)))))))))))

same-line : (k : ℕ) → run.failed_near.line k ≡ late.ordered_late.line k
same-line zero = refl
same-line (suc zero) = refl
same-line (suc (suc k)) = unused-first k ∙ sym (unused-late k)

same-pair : run.failed_near ≡ late.ordered_late
same-pair = λ i. record { links = 2; line = λ k. same-line k i; near = run.failed_near.near; far = run.failed_near.far }

ordering : Moves plain_reading (run.joined late.other_opens 1) late.ordering_run
ordering =
    (serves-other, (serves-other_there, (orders, subst (λ (p : Pair). Moves plain_reading p run.ordered_run) same-pair ordered)))

failing : Moves plain_reading (run.joined run.first_opens 0) late.failing_run
failing =
    (serves, (serves_there, (accepts, (places, (sends, (fails, (opens-other, joining late.other_opens 1 late.ordering_run joins-other ordering)))))))

pub crosses_late : CrossesLate
crosses_late = record {
  moves = (opens-first, joining run.first_opens 0 late.failing_run joins-first failing);
  unordered = record { incomplete = refl; unawaited = refl; none = refl };
  order = record { awaited = refl; one = refl };
  crossed = record {
    accepted = refl;
    received = refl;
    near_down = refl;
    far_down = refl;
    flags = record { near_lost = refl; far_lost = refl; near_late = refl; far_late = refl };
  };
}
