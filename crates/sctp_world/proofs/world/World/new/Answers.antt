use Rattle.sctp_bundling.specs.Settings.{settings_of}
use Rattle.sctp_world.proofs.Standing.{first-stands}
use Rattle.sctp_world.proofs.world.World.new.Goals as goal

pub returns-clause-first : goal.returns-clause-first
returns-clause-first c =
    rw (c.in_ok-new.ensures, c.in_ok-new-2.ensures)
    (first-stands (settings_of c.args.near.settings) (settings_of c.args.far.settings) c.args.near.tag_key c.args.near.cookie_key
    c.args.far.tag_key c.args.far.cookie_key c.has_ports.ensures c.has_ports-2.ensures)
