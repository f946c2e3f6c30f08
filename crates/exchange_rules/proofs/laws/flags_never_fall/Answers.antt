use Rattle.std.proofs.Common.{refl}
use Rattle.exchange_rules.proofs.LastingFlags.{losses-stay, lateness-stays}
use Rattle.exchange_rules.proofs.LastingNotices.{notices-raise, unreasonable-raises}
use Rattle.exchange_rules.proofs.laws.flags_never_fall.Goals as goal

pub returns-clause-first : goal.returns-clause-first
returns-clause-first c = λ configuration. record { lost = refl; late = refl; messages = refl; broken = refl }

pub returns-clause-lost : goal.returns-clause-lost
returns-clause-lost c = losses-stay

pub returns-clause-late : goal.returns-clause-late
returns-clause-late c = lateness-stays

pub returns-clause-noted : goal.returns-clause-noted
returns-clause-noted c = notices-raise

pub returns-clause-number : goal.returns-clause-number
returns-clause-number c = unreasonable-raises
