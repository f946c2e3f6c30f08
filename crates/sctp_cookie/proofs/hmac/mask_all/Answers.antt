use Rattle.std.proofs.Common.{rules}
use Rattle.std.specs.Prelude.{bit_xor}
use Rattle.std.proofs.lemmas.List.Edits.{map_over_more}
use Rattle.sctp_cookie.proofs.hmac.mask_all.Goals as goal

pub loop-place-preserved : goal.loop-place-preserved
loop-place-preserved c = search (rules, map_over_more (λ octet. bit_xor octet c.args.mask))
