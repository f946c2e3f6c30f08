use Rattle.sctp_ends.proofs.Keyed.{keyed-good, keyed-fit}
use Rattle.sctp_ends.proofs.laws.secrets_under_keys_are_good.Goals as goal

pub returns-clause-good : goal.returns-clause-good
returns-clause-good c = keyed-good

pub returns-clause-fit : goal.returns-clause-fit
returns-clause-fit c = keyed-fit
