-- The rows of INIT and INIT ACK with addresses.
use Rattle.std.proofs.Common.{refl}
use Rattle.sctp_codec.specs.Rows as rows

pub init_with_two_addresses : rows.init_with_two_addresses
init_with_two_addresses = refl

pub init_without_addresses : rows.init_without_addresses
init_without_addresses = refl

pub init_ack_with_two_addresses : rows.init_ack_with_two_addresses
init_ack_with_two_addresses = refl
