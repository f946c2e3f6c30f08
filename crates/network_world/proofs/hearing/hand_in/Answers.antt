-- A frame without a message brings nothing in.
use Rattle.std.proofs.Common.{rules, ◌≡◌, []}
use Rattle.network_world.specs.KeptSites.{message_in}
use Rattle.network_world.proofs.NoneBrought.{none-brought}
use Rattle.network_world.proofs.hearing.hand_in.Goals as goal

pub returns-in-None-clause-brought : goal.returns-in-None-clause-brought
returns-in-None-clause-brought c =
    let none : message_in c.args.text.now ≡ [] = search rules in
    none-brought c.args.link c.args.text.now c.args.exchange.now none
