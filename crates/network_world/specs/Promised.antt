-- What two nodes promise of the messages that the near one accepted for the far one, and the far one received.
use Rattle.std.specs.Prelude.{◌≡◌, ◌+◌, ℕ, Bool, List, ◌++◌, count_by}
use Rattle.signalling_types.specs.Message.{Message}
use Rattle.signalling_types.specs.declared.point.Flow.{Flow}
use Rattle.pair_rules.specs.Pairs.{PairState}
use Rattle.pair_rules.specs.Promises.{IsPunctual, LostNothing, of_flow, user}
use Rattle.neighbour_rules.specs.Promises.{waiting}

-- while neither end may have lost a message: of every kind of user message, as many were accepted as were received and
-- as wait at the near end
abbrev pub ComeOnce : PairState → (accepted received : List Message) → Type 0
ComeOnce p accepted received =
    LostNothing p → (test : Message → Bool) →
    count_by (user test) accepted ≡ count_by (user test) received + count_by (user test) (waiting p)

-- while besides no timer of the near end ended a hold: the messages of each flow that were accepted are, in order,
-- those that were received, and then those that wait
abbrev pub ComeInOrder : PairState → (accepted received : List Message) → Type 0
ComeInOrder p accepted received =
    LostNothing p → IsPunctual p → (flow : Flow) →
    of_flow flow accepted ≡ of_flow flow received ++ of_flow flow (waiting p)

-- while neither end may have lost a message: as many of those that a choice takes were accepted as were received and as
-- wait, which is so many
abbrev pub ComeOrWait : PairState → (picks : Message → Bool) → (waiting : ℕ) → Type 0
ComeOrWait p picks waiting =
    LostNothing p → count_by (user picks) p.near.accepted ≡ count_by (user picks) p.far.received + waiting
