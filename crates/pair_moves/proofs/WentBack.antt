-- The run in which the flow goes back is one: each pair of it comes from the one before by a move.
use Rattle.pair_moves.proofs.Basics.{◌≡◌, ◌≢◌, inr, ℕ, true, false, [], nat_eq, refl, ap, sym, arith, Some, None, ne_eqb}
use Rattle.pair_moves.proofs.Definitions.{Procedure, Changeover, Code, Time, turned, with_message, with_sent, with_accepted, with_failure, with_service, Move, Moves, plain_reading, read_plainly, lines_with}
use Rattle.pair_moves.specs.Moves as moves
use Rattle.pair_moves.specs.Crossing as crossing
use Rattle.pair_moves.specs.GoingBack as back
use Rattle.pair_moves.specs.GoingBack.{second_message, the_declaration, the_confirmation, held_by_code, Returns}
use Rattle.pair_moves.proofs.Lines.{false_is_true}
use Rattle.pair_moves.proofs.CrossingBegun.{Joins, joining, opens, set}

-- flows are held by a code alone
held-alone : (code : ℕ) (procedure : Procedure) → procedure ≢ Code code → held_by_code code procedure ≡ false
held-alone code (Changeover link) d = refl
held-alone code (Code other) d = ne_eqb other code (λ e. d (ap (λ (n : ℕ). Code n) e))
held-alone code (Time returned) d = refl

-- ---- the moves, in order

opens-alone : Move plain_reading crossing.handed_over back.opened_alone
opens-alone =
    opens crossing.handed_over 0 (omega arith) (record { down = refl; complete = refl; unawaited = refl }) (record { down = refl; complete = refl; unawaited = refl })

falls-alone : Move plain_reading back.opened_alone back.fallen_alone
falls-alone = moves.near (moves.falls (record {
  link = 0;
  up = refl;
  route = λ flow. Some 1;
  holds = λ procedure flow. false;
  suspends = record {
    others = λ flow other d e. e;
    kept = λ procedure flow e. e;
    same = λ procedure flow d. refl;
    held = λ flow serving e. false_is_true serving;
  };
  lines = lines_with back.opened_alone 0 (with_failure ((back.opened_alone).line 0) false);
  set = set back.opened_alone 0 (with_failure ((back.opened_alone).line 0) false) (omega arith);
  after = refl;
}))

opens-again : Move plain_reading back.fallen_alone back.opened_again
opens-again =
    opens back.fallen_alone 0 (omega arith) (record { down = refl; complete = refl; unawaited = refl }) (record { down = refl; complete = refl; unawaited = refl })

joins-again : Joins back.opened_again 0
joins-again = record {
  inside = omega arith;
  follows = refl;
  far_may = record { down = refl; complete = refl; unawaited = refl };
  up = refl;
  far_up = refl;
  still_up = refl;
  told = refl;
  told_still = refl;
  far_still_up = refl;
  far_told = refl;
  far_told_still = refl;
}

serves : Move plain_reading back.reopened back.serves_again
serves = moves.near (moves.enters (record {
  link = 0;
  up = refl;
  heard = refl;
  route = λ flow. Some 1;
  kept = λ flow other e. e;
  lines = lines_with back.reopened 0 (with_service ((back.reopened).line 0));
  set = set back.reopened 0 (with_service ((back.reopened).line 0)) (omega arith);
  after = refl;
}))

serves-there : Move plain_reading back.serves_again back.serves_again_there
serves-there = moves.far (moves.enters (record {
  link = 0;
  up = refl;
  heard = refl;
  route = λ flow. None;
  kept = λ flow other e. e;
  lines = lines_with (turned back.serves_again) 0 (with_service (((turned back.serves_again)).line 0));
  set = set (turned back.serves_again) 0 (with_service (((turned back.serves_again)).line 0)) (omega arith);
  after = refl;
}))

declares : Move plain_reading back.serves_again_there back.declared
declares = moves.near (moves.declares (record {
  former = 1;
  serving = refl;
  code = 0;
  free = refl;
  declaration = the_declaration;
  says = refl;
  outstanding = λ code. nat_eq code 0;
  used = refl;
  others = λ other d. ne_eqb other 0 d;
  route = λ flow. Some 0;
  holds = λ procedure flow. held_by_code 0 procedure;
  added = record { kept = λ procedure flow e. false_is_true e; same = λ procedure flow d. held-alone 0 procedure d };
  leaves = λ flow. inr (refl, refl);
  lines = lines_with back.serves_again_there 1 (with_message ((back.serves_again_there).line 1) the_declaration);
  set = set back.serves_again_there 1 (with_message ((back.serves_again_there).line 1) the_declaration) (omega arith);
  after = refl;
}))

accepts : Move plain_reading back.declared back.accepted_second
accepts = moves.near (moves.accepts (record {
  message = second_message;
  user = refl;
  after = refl;
}))

keeps : Move plain_reading back.accepted_second back.kept_second
keeps = moves.near (moves.keeps (record {
  message = second_message;
  rest = [];
  first = refl;
  after = refl;
}))

sends-declaration : Move plain_reading back.kept_second back.declaration_sent
sends-declaration = moves.near (moves.sends_message (record {
  link = 1;
  serving = refl;
  window = 2;
  small = omega arith;
  sending = record { number = 2; message = the_declaration };
  next = refl;
  lines = lines_with back.kept_second 1 (with_sent ((back.kept_second).line 1) (record { number = 2; message = the_declaration }));
  set = set back.kept_second 1 (with_sent ((back.kept_second).line 1) (record { number = 2; message = the_declaration })) (omega arith);
  after = refl;
}))

takes-declaration : Move plain_reading back.declaration_sent back.declaration_came
takes-declaration = moves.far (moves.takes_message (record {
  link = 1;
  fsn = 2;
  bsn = 0;
  message = the_declaration;
  rest = [];
  first = refl;
  up = refl;
  count = 0;
  accepted = refl;
  lines = lines_with (turned back.declaration_sent) 1 (with_accepted (((turned back.declaration_sent)).line 1) [] true 0);
  set = set (turned back.declaration_sent) 1 (with_accepted (((turned back.declaration_sent)).line 1) [] true 0) (omega arith);
  after = refl;
}))

confirms : Move plain_reading back.declaration_came back.confirmed
confirms = moves.far (moves.confirms (record {
  code = 0;
  heard = record { message = the_declaration; rest = []; first = refl; says = refl };
  answer = the_confirmation;
  answers = refl;
  after = refl;
}))

places-confirmation : Move plain_reading back.confirmed back.confirmation_placed
places-confirmation = moves.far (moves.places (record {
  link = 1;
  message = the_confirmation;
  rest = [];
  first = refl;
  serving = refl;
  may_go = λ u. false_is_true u;
  lines = lines_with (turned back.confirmed) 1 (with_message (((turned back.confirmed)).line 1) the_confirmation);
  set = set (turned back.confirmed) 1 (with_message (((turned back.confirmed)).line 1) the_confirmation) (omega arith);
  after = refl;
}))

sends-confirmation : Move plain_reading back.confirmation_placed back.confirmation_sent
sends-confirmation = moves.far (moves.sends_message (record {
  link = 1;
  serving = refl;
  window = 1;
  small = omega arith;
  sending = record { number = 1; message = the_confirmation };
  next = refl;
  lines = lines_with (turned back.confirmation_placed) 1 (with_sent (((turned back.confirmation_placed)).line 1) (record { number = 1; message = the_confirmation }));
  set = set (turned back.confirmation_placed) 1 (with_sent (((turned back.confirmation_placed)).line 1) (record { number = 1; message = the_confirmation })) (omega arith);
  after = refl;
}))

takes-confirmation : Move plain_reading back.confirmation_sent back.confirmation_came
takes-confirmation = moves.near (moves.takes_message (record {
  link = 1;
  fsn = 1;
  bsn = 2;
  message = the_confirmation;
  rest = [];
  first = refl;
  up = refl;
  count = 2;
  accepted = refl;
  lines = lines_with back.confirmation_sent 1 (with_accepted ((back.confirmation_sent).line 1) [] true 2);
  set = set back.confirmation_sent 1 (with_accepted ((back.confirmation_sent).line 1) [] true 2) (omega arith);
  after = refl;
}))

ends-hold : Move plain_reading back.confirmation_came back.hold_ended
ends-hold = moves.near (moves.ends_hold (record {
  code = 0;
  heard = record { message = the_confirmation; rest = []; first = refl; says = refl };
  outstanding = λ code. false;
  freed = refl;
  others = λ other d. sym (ne_eqb other 0 d);
  holds = λ procedure flow. false;
  lifted = λ procedure flow d. sym (held-alone 0 procedure d);
  after = refl;
}))

takes-out : Move plain_reading back.hold_ended back.let_out
takes-out = moves.near (moves.takes_out (record {
  after = refl;
}))

places-back : Move plain_reading back.let_out back.placed_back
places-back = moves.near (moves.places (record {
  link = 0;
  message = second_message;
  rest = [];
  first = refl;
  serving = refl;
  may_go = λ u. record { routed = refl; unheld = λ procedure. refl; none_held = refl };
  lines = lines_with back.let_out 0 (with_message ((back.let_out).line 0) second_message);
  set = set back.let_out 0 (with_message ((back.let_out).line 0) second_message) (omega arith);
  after = refl;
}))

sends-back : Move plain_reading back.placed_back back.sent_back
sends-back = moves.near (moves.sends_message (record {
  link = 0;
  serving = refl;
  window = 1;
  small = omega arith;
  sending = record { number = 0; message = second_message };
  next = refl;
  lines = lines_with back.placed_back 0 (with_sent ((back.placed_back).line 0) (record { number = 0; message = second_message }));
  set = set back.placed_back 0 (with_sent ((back.placed_back).line 0) (record { number = 0; message = second_message })) (omega arith);
  after = refl;
}))

takes-back : Move plain_reading back.sent_back back.second_came
takes-back = moves.far (moves.takes_message (record {
  link = 0;
  fsn = 0;
  bsn = 16777215;
  message = second_message;
  rest = [];
  first = refl;
  up = refl;
  count = 0;
  accepted = refl;
  lines = lines_with (turned back.sent_back) 0 (with_accepted (((turned back.sent_back)).line 0) [] true 0);
  set = set (turned back.sent_back) 0 (with_accepted (((turned back.sent_back)).line 0) [] true 0) (omega arith);
  after = refl;
}))

hands-over : Move plain_reading back.second_came back.second_handed_over
hands-over = moves.far (moves.hands_over (record {
  heard = record { message = second_message; rest = []; first = refl; says = refl };
  after = refl;
}))

declaring : Moves plain_reading back.reopened back.declaring_run
declaring =
    (serves, (serves-there, (declares, (accepts, (keeps, (sends-declaration, (takes-declaration, (confirms, (places-confirmation, (sends-confirmation, (takes-confirmation, (ends-hold, (takes-out, (places-back, (sends-back, (takes-back, (hands-over, tt)))))))))))))))))

pub returns-run : Returns
returns-run = record {
  moves = (opens-alone, (falls-alone, (opens-again, joining back.opened_again 0 back.declaring_run joins-again declaring)));
  declaration = record { outstanding = refl; one = refl };
  confirmation = record { outstanding = refl; one = refl };
  returned = record {
    accepted = refl;
    received = refl;
    serving = refl;
    stood = refl;
    flags = record { near_lost = refl; far_lost = refl; near_late = refl; far_late = refl };
  };
}
