-- What a link sends whose peer asks for emergency proving: a wrong definition makes the law false here.
use Rattle.std.specs.Prelude.{◌≡◌}
use Rattle.m2pa_codec.specs.declared.status.LinkStatus.TheVariants.{ProvingNormal, ProvingEmergency}
use Rattle.link.specs.declared.action.Input.TheVariants.{Status}
use Rattle.link.specs.declared.period.Period.TheVariants.{Normal}
use Rattle.link.specs.Table.{period_after, proving_status}

-- its own period is the normal one, and it asks for that
abbrev pub asks_as_before : Type 0
asks_as_before = proving_status (period_after Normal (Status ProvingEmergency)) ≡ ProvingNormal
