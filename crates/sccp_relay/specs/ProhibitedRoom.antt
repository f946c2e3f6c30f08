-- What the list of prohibited subsystems keeps room for.
use Rattle.std.specs.Prelude.{◌≤◌, length, vec_capacity}
use Rattle.sccp_relay.specs.declared.prohibited.Prohibited.TheInside.{Inside}
use Rattle.sccp_relay.specs.declared.subsystem.TheConstants.{PROHIBITED_SUBSYSTEMS}

pub record HasRoom (prohibited : Inside) : Type 0 where
  pub fits : length prohibited.subsystems.items ≤ PROHIBITED_SUBSYSTEMS
  pub room : PROHIBITED_SUBSYSTEMS ≤ vec_capacity prohibited.subsystems
