use Rattle.std.proofs.Common.{sym, ◌∙◌, arith}
use Rattle.sctp_endpoint.proofs.Draws.{drawn-more, some-of}
use Rattle.sctp_endpoint.proofs.beginnings.Beginnings.draw.Goals as goal

pub invariant_of-self : goal.invariant_of-self
invariant_of-self c =
    let used = some-of c.draw.result c.peek.result c.in_ok-tag.tag _ (c.draw.ensures.tag ∙ sym c.peek.ensures) c.in_ok-tag.was c.draw.ensures.used in
    record {
      tags = drawn-more c.self.inside.tags c.draw.new.self c.self.inside.count c.self.invariant.tags c.draw.ensures.drawing c.draw.ensures.key;
      count = omega (arith, c.self.invariant.count, used);
    }
