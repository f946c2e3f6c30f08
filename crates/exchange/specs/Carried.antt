-- User Data as the code hands it on: its message is lent.
use Rattle.std.specs.Option.{option_map}
use Rattle.signalling_types.specs.Message.{lent}
use Rattle.exchange_rules.specs.Frames.{Carrying}
use Rattle.exchange.specs.declared.exchange.frames.UserData.{UserData}

abbrev pub carrying : UserData → Carrying
carrying d = record { fsn = d.fsn; bsn = d.bsn; message = option_map lent d.message }
