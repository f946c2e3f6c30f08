-- Whole lists of calls: what is answered to each, and the state that they leave.
use Rattle.std.specs.Prelude.{List, [], ◌∷◌}
use Rattle.std.specs.Option.{option_map}
use Rattle.m2pa_codec.specs.Frames.{spelled}
use Rattle.exchange.specs.declared.event.Answer.{Answer}
use Rattle.exchange.specs.declared.event.Answer.TheVariants.{Stepped, Taken, Wanted}
use Rattle.exchange_rules.specs.State.{State, QueueKind, Asking, Happens, Takes, AsksWants}
use Rattle.exchange_rules.specs.Exchange.{outcome_of, after, frame_to_take, taken, wants_of}

-- the answer to one call, and the state after it
abbrev pub answer_to_call : {Q : Type 0} → QueueKind Q → Asking → State Q → Answer
answer_to_call q (Happens what) s = Stepped (outcome_of q what s)
answer_to_call q (Takes link) s = Taken (option_map spelled (frame_to_take q s link))
answer_to_call q (AsksWants link) s = Wanted (wants_of s link)

abbrev pub after_call : {Q : Type 0} → QueueKind Q → Asking → State Q → State Q
after_call q (Happens what) s = after q what s
after_call q (Takes link) s = taken q s link
after_call q (AsksWants link) s = s

-- the answers to calls in a row, and the state after all of them
abbrev pub answers_to : {Q : Type 0} → QueueKind Q → List Asking → State Q → List Answer
answers_to q [] s = []
answers_to q (call ∷ calls) s = answer_to_call q call s ∷ answers_to q calls (after_call q call s)

abbrev pub after_calls : {Q : Type 0} → QueueKind Q → List Asking → State Q → State Q
after_calls q [] s = s
after_calls q (call ∷ calls) s = after_calls q calls (after_call q call s)
