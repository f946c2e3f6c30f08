use Rattle.std.proofs.lemmas.List.{drop-replicate}
use Rattle.sctp_cookie.proofs.hmac.padded.Goals as goal

pub returns : goal.returns
returns c = rw (c.copy_from_slice.ensures.after, drop-replicate)
