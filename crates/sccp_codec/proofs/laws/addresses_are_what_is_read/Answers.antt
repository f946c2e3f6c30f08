use Rattle.sccp_codec.proofs.AddressTexts.{is_address-read, read_address-is_address}
use Rattle.sccp_codec.proofs.laws.addresses_are_what_is_read.Goals as goal

pub returns : goal.returns
returns c = λ octets a fits. (read_address-is_address octets a, is_address-read octets a fits)
