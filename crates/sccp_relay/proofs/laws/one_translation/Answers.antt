use Rattle.sccp_relay.proofs.OneRow.{translation-is_translation}
use Rattle.sccp_relay.proofs.laws.one_translation.Goals as goal

pub returns : goal.returns
returns c = translation-is_translation
