-- The run goes on: the link that failed returns, and the flow goes back to it after a declaration. A message that is
-- accepted meanwhile waits in Held, and comes after the first.
use Rattle.std.specs.Prelude.{◌≡◌, ℕ, ◌+◌, Bool, true, false, List, [], ◌∷◌, ◌++◌, nat_eq, Some, None}
use Rattle.signalling_types.specs.Message.{Message}
use Rattle.pair_moves.specs.Sayings.{is_declaration, is_confirmation}
use Rattle.pair_moves.specs.Ends.{Procedure, Changeover, Code, Time, Pair, turned}
use Rattle.pair_moves.specs.Passing.{with_message}
use Rattle.pair_moves.specs.Failing.{with_failure}
use Rattle.pair_moves.specs.Moves.{Moves, last_of}
use Rattle.pair_moves.specs.Laws.{saying, under_way}
use Rattle.pair_moves.specs.Crossing.{plain_reading, read_plainly, the_message, with_line, with_near, opens, joining, joined}
use Rattle.pair_moves.specs.Crossing.{enters_near, after_placing}
use Rattle.pair_moves.specs.Crossing.{after_sending_one, after_taking_one, handed_over, RaisesNoFlag}

abbrev pub second_message : Message
second_message = record { sio = 5; sif = 0 ∷ 0 ∷ 0 ∷ 0 ∷ 1 ∷ [] }

-- the declaration with code 0, and its confirmation
abbrev pub the_declaration : Message
the_declaration = record { sio = 0; sif = 2 ∷ 0 ∷ [] }

abbrev pub the_confirmation : Message
the_confirmation = record { sio = 0; sif = 3 ∷ 0 ∷ [] }

-- every flow is held by one code, and by nothing else
abbrev pub held_by_code : ℕ → Procedure → Bool
held_by_code code (Changeover link) = false
held_by_code code (Code other) = nat_eq other code
held_by_code code (Time returned) = false

-- ---- link 0 opens at the near end, and falls there before the far one follows; it opens there
-- again, and now the far end does follow. It enters service at both ends, and the near node declares
-- that its flows go back

abbrev pub opened_alone : Pair
opened_alone = opens handed_over 0

abbrev pub fallen_alone : Pair
fallen_alone = with_line opened_alone 0 (with_failure (opened_alone.line 0) false)

abbrev pub opened_again : Pair
opened_again = opens fallen_alone 0

abbrev pub reopened : Pair
reopened = joined opened_again 0

abbrev pub serves_again : Pair
serves_again = enters_near reopened 0 (Some 1)

abbrev pub serves_again_there : Pair
serves_again_there = turned (enters_near (turned serves_again) 0 None)

abbrev pub declared : Pair
declared =
    with_near (with_line serves_again_there 1 (with_message (serves_again_there.line 1) the_declaration))
    (record serves_again_there.near {
      outstanding = λ code. nat_eq code 0;
      route = λ flow. Some 0;
      holds = λ procedure flow. held_by_code 0 procedure;
    })

-- the second message is accepted, and waits

abbrev pub accepted_second : Pair
accepted_second =
    with_near declared
    (record declared.near { accepted = the_message ∷ second_message ∷ []; loose = second_message ∷ [] })

abbrev pub kept_second : Pair
kept_second = with_near accepted_second (record accepted_second.near { loose = []; held = second_message ∷ [] })

-- the declaration goes out after the first message, and is confirmed

abbrev pub declaration_sent : Pair
declaration_sent = after_sending_one kept_second 1 2 the_declaration

abbrev pub declaration_came : Pair
declaration_came = turned (after_taking_one (turned declaration_sent) 1 0 the_declaration)

abbrev pub confirmed : Pair
confirmed =
    turned
    (with_near (turned declaration_came) (record declaration_came.far { arrived = []; loose = the_confirmation ∷ [] }))

abbrev pub confirmation_placed : Pair
confirmation_placed = turned (after_placing (turned confirmed) 1 the_confirmation)

abbrev pub confirmation_sent : Pair
confirmation_sent = turned (after_sending_one (turned confirmation_placed) 1 1 the_confirmation)

abbrev pub confirmation_came : Pair
confirmation_came = after_taking_one confirmation_sent 1 2 the_confirmation

-- the hold ends, and the second message goes by link 0

abbrev pub hold_ended : Pair
hold_ended =
    with_near confirmation_came
    (record confirmation_came.near { arrived = []; outstanding = λ code. false; holds = λ procedure flow. false })

abbrev pub let_out : Pair
let_out = with_near hold_ended (record hold_ended.near { held = []; loose = second_message ∷ [] })

abbrev pub placed_back : Pair
placed_back = after_placing let_out 0 second_message

abbrev pub sent_back : Pair
sent_back = after_sending_one placed_back 0 0 second_message

abbrev pub second_came : Pair
second_came = turned (after_taking_one (turned sent_back) 0 0 second_message)

abbrev pub second_handed_over : Pair
second_handed_over =
    turned
    (with_near (turned second_came)
    (record second_came.far { arrived = []; received = the_message ∷ second_message ∷ [] }))

-- once link 0 is open again
abbrev pub declaring_run : List Pair
declaring_run =
    serves_again ∷ serves_again_there ∷ declared ∷ accepted_second ∷ kept_second
    ∷ declaration_sent ∷ declaration_came ∷ confirmed ∷ confirmation_placed ∷ confirmation_sent ∷ confirmation_came
    ∷ hold_ended ∷ let_out ∷ placed_back ∷ sent_back ∷ second_came ∷ second_handed_over ∷ []

abbrev pub return_run : List Pair
return_run = opened_alone ∷ fallen_alone ∷ opened_again ∷ joining opened_again 0 ++ declaring_run

-- both messages were accepted and received in the same order, the second by the link that returned,
-- and no flag was raised
pub record HasReturned (p : Pair) : Type 0 where
  pub accepted : p.near.accepted ≡ the_message ∷ second_message ∷ []
  pub received : p.far.received ≡ the_message ∷ second_message ∷ []
  pub serving : (p.line 0).near.serving ≡ true
  pub stood : (p.line 0).near.queue.all ≡ second_message ∷ []
  pub flags : RaisesNoFlag p

-- a code is outstanding at the near node, and one declaration or confirmation with it is under way
pub record IsOutstanding (p : Pair) (code : ℕ) : Type 0 where
  pub outstanding : p.near.outstanding code ≡ true
  pub one :
      under_way (saying read_plainly (is_declaration code)) p
      + under_way (saying read_plainly (is_confirmation code)) (turned p) ≡ 1

-- the run goes on like this from where the first message was handed over
pub record Returns : Type 0 where
  pub moves : Moves plain_reading handed_over return_run
  pub declaration : IsOutstanding declaration_sent 0
  pub confirmation : IsOutstanding confirmation_sent 0
  pub returned : HasReturned (last_of handed_over return_run)
