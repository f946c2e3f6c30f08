use Rattle.std.proofs.Common.{◌∙◌}
use Rattle.trace.specs.declared.direction.Direction.TheVariants.{In, Out}
use Rattle.trace.proofs.Numbering.{has_place, behind_incoming, behind_outgoing}
use Rattle.trace.proofs.packet_numbers.PacketNumbers.take.Goals as goal

pub returns-in-In-clause-number : goal.returns-in-In-clause-number
returns-in-In-clause-number c = λ frames h.
    rw (c.in-In.is) (c.take_number.ensures.number ∙ rw (c.index-place.ensures.value) (h.each c.args.link In c.index-place.ensures.fits))

pub returns-in-In-clause-behind : goal.returns-in-In-clause-behind
returns-in-In-clause-behind c = λ frames seen h at way.
    rw (c.take_number.ensures.next, c.index-place.ensures.value) (behind_incoming c.args.self.now c.args.link frames seen
    (has_place c.args.self.now.incoming _ c.args.link _ _ c.take_number.array_long.0 c.take_number.ensures.next c.index-place.ensures.fits)
    h at (way ∙ c.in-In.is))

pub returns-in-Out-clause-number : goal.returns-in-Out-clause-number
returns-in-Out-clause-number c = λ frames h.
    rw (c.in-Out.is) (c.take_number-in-Out.ensures.number ∙ rw (c.index-place.ensures.value) (h.each c.args.link Out c.index-place.ensures.fits))

pub returns-in-Out-clause-behind : goal.returns-in-Out-clause-behind
returns-in-Out-clause-behind c = λ frames seen h at way.
    rw (c.take_number-in-Out.ensures.next, c.index-place.ensures.value) (behind_outgoing c.args.self.now c.args.link frames seen
    (has_place c.args.self.now.outgoing _ c.args.link _ _ c.take_number-in-Out.array_long.1 c.take_number-in-Out.ensures.next c.index-place.ensures.fits)
    h at (way ∙ c.in-Out.is))
