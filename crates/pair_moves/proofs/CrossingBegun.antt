-- The run of the example begins: the link opens, and fails under its message.
use Rattle.pair_moves.proofs.Basics.{◌≡◌, ◌≢◌, ℕ, Bool, true, false, ◌<◌, List, [], ◌++◌, refl, ap, arith, Some, None, if◌then◌else◌, ne_eqb}
use Rattle.pair_moves.proofs.Definitions.{Line, Procedure, Changeover, Code, Time, Pair, turned, first_pair, BecomeAt, with_message, with_status, with_statuses_left, with_sent, with_heard, with_failure, MayOpen, opened_first, opened_second, with_service, NearMove, Move, Moves, plain_reading, read_plainly, the_message, the_order, lines_with, held_by_changeover}
use Rattle.pair_moves.specs.Moves as moves
use Rattle.pair_moves.specs.Crossing as run
use Rattle.pair_moves.proofs.Lines.{false_is_true}
use Rattle.pair_moves.proofs.Words.{same-link}

-- one line is set
pub set : (p : Pair) (link : ℕ) (z : Line) → link < p.links → BecomeAt p link z (lines_with p link z)
set p link z inside = record {
  inside = inside;
  here = ap (λ (b : Bool). if b then z else p.line link) (same-link link);
  others = λ other d. ap (λ (b : Bool). if b then z else p.line other) (ne_eqb other link d);
}

pub some-none : {A : Type 0} (n : ℕ) → None ≡ Some n → A
some-none n e = absurd cc

pub one-zero : (other : ℕ) → Some 0 ≡ Some other → other ≡ 0
one-zero other e = cc

-- flows are held by a changeover alone
pub held-alone : (link : ℕ) (procedure : Procedure) → procedure ≢ Changeover link → held_by_changeover link procedure ≡ false
held-alone link (Changeover other) d = ne_eqb other link (λ e. d (ap (λ (n : ℕ). Changeover n) e))
held-alone link (Code code) d = refl
held-alone link (Time returned) d = refl

-- ---- the moves, in order

module _ (p : Pair) (link : ℕ) (inside : link < p.links) where
  pub opens : MayOpen (p.line link).near → MayOpen (p.line link).far → Move plain_reading p (run.opens p link)
  opens near far = moves.near (moves.opens_first (record {
    link = link;
    near_may = near;
    far_may = far;
    lines = lines_with p link (opened_first (p.line link));
    set = set p link (opened_first (p.line link)) inside;
    after = refl;
  }))

  follows : (p.line link).near_may_follow ≡ true → MayOpen (p.line link).near → NearMove plain_reading p (run.follows p link)
  follows may near = moves.opens_second (record {
    link = link;
    follows = may;
    near_may = near;
    lines = lines_with p link (opened_second (p.line link));
    set = set p link (opened_second (p.line link)) inside;
    after = refl;
  })

  says : (p.line link).near.up ≡ true → NearMove plain_reading p (run.says_so p link)
  says up = moves.sends_status (record {
    link = link;
    up = up;
    lines = lines_with p link (with_status (p.line link));
    set = set p link (with_status (p.line link)) inside;
    after = refl;
  })

  hears : (p.line link).near.up ≡ true → (p.line link).told_near ≡ 1 → NearMove plain_reading p (run.hears p link)
  hears up some = moves.hears_status (record {
    link = link;
    up = up;
    rest = 0;
    some = some;
    lines = lines_with p link (with_heard (p.line link));
    set = set p link (with_heard (p.line link)) inside;
    after = refl;
  })

  takes : (p.line link).told_near ≡ 1 → NearMove plain_reading p (run.takes p link)
  takes some = moves.takes_status (record {
    link = link;
    rest = 0;
    some = some;
    lines = lines_with p link (with_statuses_left (p.line link) 0);
    set = set p link (with_statuses_left (p.line link) 0) inside;
    after = refl;
  })

-- what a link is as the far end follows, and both are told
pub record Joins (p : Pair) (link : ℕ) : Type 0 where
  pub inside : link < p.links
  pub follows : ((turned p).line link).near_may_follow ≡ true
  pub far_may : MayOpen ((turned p).line link).near
  pub up : ((run.followed p link).line link).near.up ≡ true
  pub far_up : ((turned (run.said p link)).line link).near.up ≡ true
  pub still_up : ((run.said_back p link).line link).near.up ≡ true
  pub told : ((run.said_back p link).line link).told_near ≡ 1
  pub told_still : ((run.heard p link).line link).told_near ≡ 1
  pub far_still_up : ((turned (run.taken p link)).line link).near.up ≡ true
  pub far_told : ((turned (run.taken p link)).line link).told_near ≡ 1
  pub far_told_still : ((turned (run.heard_there p link)).line link).told_near ≡ 1

pub joining : (p : Pair) (link : ℕ) (others : List Pair) → Joins p link → Moves plain_reading (run.joined p link) others →
    Moves plain_reading p (run.joining p link ++ others)
joining p link others j rest = (
  moves.far (follows (turned p) link j.inside j.follows j.far_may),
  (
    moves.near (says (run.followed p link) link j.inside j.up),
    (
      moves.far (says (turned (run.said p link)) link j.inside j.far_up),
      (
        moves.near (hears (run.said_back p link) link j.inside j.still_up j.told),
        (
          moves.near (takes (run.heard p link) link j.inside j.told_still),
          (
            moves.far (hears (turned (run.taken p link)) link j.inside j.far_still_up j.far_told),
            (
              moves.far (takes (turned (run.heard_there p link)) link j.inside j.far_told_still),
              rest,
            ),
          ),
        ),
      ),
    ),
  ),
)

pub opens-first : Move plain_reading (first_pair 2) run.first_opens
opens-first =
    opens (first_pair 2) 0 (omega arith) (record { down = refl; complete = refl; unawaited = refl }) (record { down = refl; complete = refl; unawaited = refl })

pub joins-first : Joins run.first_opens 0
joins-first = record {
  inside = omega arith;
  follows = refl;
  far_may = record { down = refl; complete = refl; unawaited = refl };
  up = refl;
  far_up = refl;
  still_up = refl;
  told = refl;
  told_still = refl;
  far_still_up = refl;
  far_told = refl;
  far_told_still = refl;
}

pub opens-second : Move plain_reading (run.joined run.first_opens 0) run.second_opens
opens-second =
    opens (run.joined run.first_opens 0) 1 (omega arith) (record { down = refl; complete = refl; unawaited = refl }) (record { down = refl; complete = refl; unawaited = refl })

pub joins-second : Joins run.second_opens 1
joins-second = record {
  inside = omega arith;
  follows = refl;
  far_may = record { down = refl; complete = refl; unawaited = refl };
  up = refl;
  far_up = refl;
  still_up = refl;
  told = refl;
  told_still = refl;
  far_still_up = refl;
  far_told = refl;
  far_told_still = refl;
}

pub serves-first : Move plain_reading run.opened_both run.first_serves
serves-first = moves.near (moves.enters (record {
  link = 0;
  up = refl;
  heard = refl;
  route = λ flow. Some 0;
  kept = λ flow other e. some-none other e;
  lines = lines_with run.opened_both 0 (with_service ((run.opened_both).line 0));
  set = set run.opened_both 0 (with_service ((run.opened_both).line 0)) (omega arith);
  after = refl;
}))

pub serves-second : Move plain_reading run.first_serves run.second_serves
serves-second = moves.near (moves.enters (record {
  link = 1;
  up = refl;
  heard = refl;
  route = λ flow. Some 0;
  kept = λ flow other e. e;
  lines = lines_with run.first_serves 1 (with_service ((run.first_serves).line 1));
  set = set run.first_serves 1 (with_service ((run.first_serves).line 1)) (omega arith);
  after = refl;
}))

pub serves-first_there : Move plain_reading run.second_serves run.first_serves_there
serves-first_there = moves.far (moves.enters (record {
  link = 0;
  up = refl;
  heard = refl;
  route = λ flow. None;
  kept = λ flow other e. e;
  lines = lines_with (turned run.second_serves) 0 (with_service (((turned run.second_serves)).line 0));
  set = set (turned run.second_serves) 0 (with_service (((turned run.second_serves)).line 0)) (omega arith);
  after = refl;
}))

pub serves-second_there : Move plain_reading run.first_serves_there run.second_serves_there
serves-second_there = moves.far (moves.enters (record {
  link = 1;
  up = refl;
  heard = refl;
  route = λ flow. None;
  kept = λ flow other e. e;
  lines = lines_with (turned run.first_serves_there) 1 (with_service (((turned run.first_serves_there)).line 1));
  set = set (turned run.first_serves_there) 1 (with_service (((turned run.first_serves_there)).line 1)) (omega arith);
  after = refl;
}))

pub accepts : Move plain_reading run.second_serves_there run.accepted_one
accepts = moves.near (moves.accepts (record {
  message = the_message;
  user = refl;
  after = refl;
}))

pub places-first : Move plain_reading run.accepted_one run.placed_first
places-first = moves.near (moves.places (record {
  link = 0;
  message = the_message;
  rest = [];
  first = refl;
  serving = refl;
  may_go = λ u. record { routed = refl; unheld = λ procedure. refl; none_held = refl };
  lines = lines_with run.accepted_one 0 (with_message ((run.accepted_one).line 0) the_message);
  set = set run.accepted_one 0 (with_message ((run.accepted_one).line 0) the_message) (omega arith);
  after = refl;
}))

pub sends-first : Move plain_reading run.placed_first run.sent_first
sends-first = moves.near (moves.sends_message (record {
  link = 0;
  serving = refl;
  window = 1;
  small = omega arith;
  sending = record { number = 0; message = the_message };
  next = refl;
  lines = lines_with run.placed_first 0 (with_sent ((run.placed_first).line 0) (record { number = 0; message = the_message }));
  set = set run.placed_first 0 (with_sent ((run.placed_first).line 0) (record { number = 0; message = the_message })) (omega arith);
  after = refl;
}))

pub fails-near : Move plain_reading run.sent_first run.failed_near
fails-near = moves.near (moves.falls_with_order (record {
  link = 0;
  serving = refl;
  order = the_order;
  says = refl;
  route = λ flow. Some 1;
  holds = λ procedure flow. held_by_changeover 0 procedure;
  suspends = record {
    others = λ flow other d e. absurd (d (one-zero other e));
    kept = λ procedure flow e. false_is_true e;
    same = λ procedure flow d. held-alone 0 procedure d;
    held = λ flow serving e. refl;
  };
  lines = lines_with run.sent_first 0 (with_failure ((run.sent_first).line 0) true);
  set = set run.sent_first 0 (with_failure ((run.sent_first).line 0) true) (omega arith);
  after = refl;
}))

pub places-order : Move plain_reading run.failed_near run.order_placed
places-order = moves.near (moves.places (record {
  link = 1;
  message = the_order;
  rest = [];
  first = refl;
  serving = refl;
  may_go = λ u. false_is_true u;
  lines = lines_with run.failed_near 1 (with_message ((run.failed_near).line 1) the_order);
  set = set run.failed_near 1 (with_message ((run.failed_near).line 1) the_order) (omega arith);
  after = refl;
}))

pub sends-order : Move plain_reading run.order_placed run.order_sent
sends-order = moves.near (moves.sends_message (record {
  link = 1;
  serving = refl;
  window = 1;
  small = omega arith;
  sending = record { number = 0; message = the_order };
  next = refl;
  lines = lines_with run.order_placed 1 (with_sent ((run.order_placed).line 1) (record { number = 0; message = the_order }));
  set = set run.order_placed 1 (with_sent ((run.order_placed).line 1) (record { number = 0; message = the_order })) (omega arith);
  after = refl;
}))
