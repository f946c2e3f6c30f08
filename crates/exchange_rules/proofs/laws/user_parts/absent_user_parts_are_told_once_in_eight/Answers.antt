use Rattle.exchange_rules.proofs.AbsentParts.{refused, by-one, by-count, by-none, by-eight, reads, given, the-same, nobody, as-given, zeros, taking}
use Rattle.exchange_rules.proofs.Uncounted.{uncounted}
use Rattle.exchange_rules.proofs.laws.user_parts.absent_user_parts_are_told_once_in_eight.Goals as goal

pub returns-clause-told : goal.returns-clause-told
returns-clause-told c = by-one

pub returns-clause-untold : goal.returns-clause-untold
returns-clause-untold c = by-count

pub returns-clause-off : goal.returns-clause-off
returns-clause-off c = by-none

pub returns-clause-counted : goal.returns-clause-counted
returns-clause-counted c = by-eight

pub returns-clause-says : goal.returns-clause-says
returns-clause-says c = reads

pub returns-clause-others : goal.returns-clause-others
returns-clause-others c = the-same

pub returns-clause-submitted : goal.returns-clause-submitted
returns-clause-submitted c = nobody

pub returns-clause-given : goal.returns-clause-given
returns-clause-given c = as-given

pub returns-clause-only : goal.returns-clause-only
returns-clause-only c = uncounted

pub returns-clause-refused : goal.returns-clause-refused
returns-clause-refused c = refused

pub returns-clause-here : goal.returns-clause-here
returns-clause-here c = given

pub returns-clause-first : goal.returns-clause-first
returns-clause-first c = zeros

pub returns-clause-take : goal.returns-clause-take
returns-clause-take c = taking
