use Rattle.mtp3_codec.proofs.Reading.{its-label_in, message-back, octets-fit}
use Rattle.mtp3_codec.proofs.management.every_message_reads_back.Goals as goal

pub returns-clause-label : goal.returns-clause-label
returns-clause-label c = its-label_in

pub returns-clause-message : goal.returns-clause-message
returns-clause-message c = message-back

pub returns-clause-fits : goal.returns-clause-fits
returns-clause-fits c = octets-fit
