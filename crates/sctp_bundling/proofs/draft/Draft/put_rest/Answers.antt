use Rattle.std.proofs.Common.{ap, length, ◌∙◌, sym, arith}
use Rattle.std.proofs.lemmas.List.{length-take-le}
use Rattle.sctp_bundling.specs.Bundling.{Draft}
use Rattle.sctp_bundling.proofs.Bundling.{rest-some, rest-none}
use Rattle.sctp_bundling.proofs.draft.Draft.put_rest.Goals as goal

pub returns-then-self-gt-HEADER_OCTETS : goal.returns-then-self-gt-HEADER_OCTETS
returns-then-self-gt-HEADER_OCTETS g c = λ waiting e.
    rest-some g.W.Watch.has c.args.self.now.way c.args.watch.now c.put.new.watch waiting c.self.inside.end c.args.self.now.text
    (ap (λ (d : Draft). length d.text) (sym c.self.view_is) ∙ length-take-le c.self.inside.end c.self.inside.out (omega (arith, c.self.told, c.self.invariant.room)))
    c.if-self-gt-HEADER_OCTETS.true e (c.put.ensures.put waiting e)

pub returns-else-self-gt-HEADER_OCTETS : goal.returns-else-self-gt-HEADER_OCTETS
returns-else-self-gt-HEADER_OCTETS g c = λ waiting e.
    rest-none g.W.Watch.has c.args.self.now.way c.args.watch.now waiting c.self.inside.end c.args.self.now.text
    (ap (λ (d : Draft). length d.text) (sym c.self.view_is) ∙ length-take-le c.self.inside.end c.self.inside.out (omega (arith, c.self.told, c.self.invariant.room)))
    (omega (arith, c.if-self-gt-HEADER_OCTETS.false)) e
