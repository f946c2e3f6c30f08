use Rattle.lab.proofs.Standing.{carries-stands}
use Rattle.lab.proofs.carrying.carry.Goals as goal

pub returns-clause-carried : goal.returns-clause-carried
returns-clause-carried g c = λ a s b r.
    let h = carries-stands c.args.from c.args.to c.carry_frame.result c.args.near.now c.carry_frame.new.near c.args.far.now c.carry_frame.new.far a b _ _ s r
    c.carry_frame.ensures.carried in
    (h.near, h.far, h.near_stands, h.far_stands, h.carries)
