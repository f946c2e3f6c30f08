-- The message types of the code, by number (RFC 4165 §2.1.4).
use Rattle.std.specs.Prelude.{ℕ}
use Rattle.m2pa_codec.specs.declared.reading.MessageType.{MessageType}
use Rattle.m2pa_codec.specs.declared.reading.MessageType.TheVariants.{UserData, LinkStatus}
use Rattle.m2pa_codec.specs.Frames.{user_data, link_status}

abbrev pub type_number : MessageType → ℕ
type_number UserData = user_data
type_number LinkStatus = link_status
