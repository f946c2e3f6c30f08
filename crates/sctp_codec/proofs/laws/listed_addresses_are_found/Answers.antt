use Rattle.sctp_codec.proofs.AddressTexts.{all-listed, in-init, in-init_ack, cookie-found}
use Rattle.sctp_codec.proofs.laws.listed_addresses_are_found.Goals as goal

pub returns-clause-all : goal.returns-clause-all
returns-clause-all c = all-listed

pub returns-clause-init : goal.returns-clause-init
returns-clause-init c = in-init

pub returns-clause-init_ack : goal.returns-clause-init_ack
returns-clause-init_ack c = in-init_ack

pub returns-clause-cookie : goal.returns-clause-cookie
returns-clause-cookie c = cookie-found
