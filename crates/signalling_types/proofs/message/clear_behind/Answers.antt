use Rattle.std.proofs.Common.{arith}
use Rattle.signalling_types.proofs.Clearing.{zeros_from_fewer, zeros_from_more}
use Rattle.signalling_types.proofs.message.clear_behind.Goals as goal

pub returns-then-count-used : goal.returns-then-count-used
returns-then-count-used c =
    zeros_from_fewer c.args.octets.now c.fill.new.self c.args.count c.args.used _ c.if-count-used.true c.requires.used c.told-octets c.requires.cleared
    (c.fill.ensures.after (λ y same. same))

pub returns-else-count-used : goal.returns-else-count-used
returns-else-count-used c = zeros_from_more c.args.octets.now c.args.count c.args.used _ (omega (arith, c.if-count-used.false)) c.requires.cleared
