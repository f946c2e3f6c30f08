use Rattle.sctp_rules.proofs.Openings.{generations-grow, cookies-open}
use Rattle.sctp_rules.proofs.laws.a_cookie_opens_once.Goals as goal

pub returns-clause-generations : goal.returns-clause-generations
returns-clause-generations c = generations-grow

pub returns-clause-cookies : goal.returns-clause-cookies
returns-clause-cookies c = cookies-open
