use Rattle.sccp_codec.specs.ExtendedValues.{extended_of}
use Rattle.sccp_codec.proofs.ExtendedTexts.{back-extended}
use Rattle.sccp_codec.proofs.extended.ExtendedUnitdata.write.Goals as goal

pub returns-clause-back : goal.returns-clause-back
returns-clause-back c = back-extended c.args.label (extended_of c.args.self.now) c.write_extended.result _ c.write_extended.ensures.label c.write_extended.ensures.text c.write_extended.ensures.value
