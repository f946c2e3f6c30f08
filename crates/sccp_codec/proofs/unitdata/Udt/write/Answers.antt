use Rattle.sccp_codec.specs.Values.{udt_of}
use Rattle.sccp_codec.proofs.MessageTexts.{back-read}
use Rattle.sccp_codec.proofs.unitdata.Udt.write.Goals as goal

pub returns-clause-back : goal.returns-clause-back
returns-clause-back c = back-read c.args.label (udt_of c.args.self.now) c.write_message.result _ c.write_message.ensures.label c.write_message.ensures.text c.write_message.ensures.value
