use Rattle.network_moves.proofs.Concluded.{lines_flow-always, first_ends_are_alone-always, ends_are_sound-always, moved_ends-always, messages_come-always}
use Rattle.network_moves.proofs.laws.frames_carry_what_was_not_received.Goals as goal

pub returns-clause-carried : goal.returns-clause-carried
returns-clause-carried c = lines_flow-always

pub returns-clause-opening : goal.returns-clause-opening
returns-clause-opening c = first_ends_are_alone-always

pub returns-clause-ends : goal.returns-clause-ends
returns-clause-ends c = ends_are_sound-always

pub returns-clause-moved : goal.returns-clause-moved
returns-clause-moved c = moved_ends-always

pub returns-clause-taken : goal.returns-clause-taken
returns-clause-taken c = messages_come-always
