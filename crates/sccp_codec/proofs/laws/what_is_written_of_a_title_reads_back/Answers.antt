use Rattle.sccp_codec.proofs.TitleTexts.{title-back}
use Rattle.sccp_codec.proofs.laws.what_is_written_of_a_title_reads_back.Goals as goal

pub returns : goal.returns
returns c = title-back
