use Rattle.std.proofs.Common.{◌≡◌, [], ◌<◌, length, take, refl, arith}
use Rattle.std.proofs.lemmas.Grind.{common_steps}
use Rattle.program.proofs.Owing.{owed-end, owed-more, on-ok}
use Rattle.program.proofs.console_client.outgoing.Outgoing.read_from.Goals as goal

pub returns-then-count-eq0-clause-owed : goal.returns-then-count-eq0-clause-owed
returns-then-count-eq0-clause-owed g c =
    let none : take c.in-Ok.count c.read.new.buffer ≡ [] = rw c.if-count-eq0.true refl in
    let room : 0 < length c.read.new.buffer = grind (arith, common_steps) in
    rw (← c.clear.ensures) (on-ok c.end.result _ _
    (λ ended. owed-end _ _ _ _ _ (rw c.clear.ensures c.requires) none c.in-Ok.ensures.octets.0 (c.in-Ok.ensures.octets.1 c.if-count-eq0.true room) ended)
    c.end.ensures.ended)

pub returns-clause-owed : goal.returns-clause-owed
returns-clause-owed g c =
    rw (← c.clear.ensures) (on-ok c.add.result _ _
    (λ added. owed-more _ _ _ _ _ (rw c.clear.ensures c.requires) c.in-Ok.ensures.octets.0 added)
    c.add.ensures.added)
