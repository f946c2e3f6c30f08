use Rattle.sctp_cookie.specs.Tags.{permutation}
use Rattle.sctp_cookie.proofs.Drawing.{permutation-permutes, none_is_0, fit, differ}
use Rattle.sctp_cookie.proofs.laws.tags_are_fresh.Goals as goal

pub returns-clause-differ : goal.returns-clause-differ
returns-clause-differ c = λ d m. differ (permutation d.key) d.used (permutation-permutes d.key) m

pub returns-clause-none_is_0 : goal.returns-clause-none_is_0
returns-clause-none_is_0 c = λ d. none_is_0 (permutation d.key) d.used

pub returns-clause-fit : goal.returns-clause-fit
returns-clause-fit c = λ d m. fit (permutation d.key) d.used (permutation-permutes d.key) m
