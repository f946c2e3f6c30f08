use Rattle.sctp_cookie.proofs.Permuting.{permuted-fits, permuted_back-fits, permuted_back-permuted, permuted-permuted_back, permuted-apart}
use Rattle.sctp_cookie.proofs.laws.the_network_is_a_permutation.Goals as goal

pub returns-clause-fits : goal.returns-clause-fits
returns-clause-fits c = permuted-fits

pub returns-clause-fits_back : goal.returns-clause-fits_back
returns-clause-fits_back c = permuted_back-fits

pub returns-clause-back : goal.returns-clause-back
returns-clause-back c = permuted_back-permuted

pub returns-clause-forth : goal.returns-clause-forth
returns-clause-forth c = permuted-permuted_back

pub returns-clause-apart : goal.returns-clause-apart
returns-clause-apart c = permuted-apart
