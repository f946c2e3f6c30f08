use Rattle.sctp_codec.proofs.ItemTexts.{read_items-padded_items, read_items-joined_items}
use Rattle.sctp_codec.proofs.laws.items_read_back.Goals as goal

pub returns-clause-padded : goal.returns-clause-padded
returns-clause-padded c = read_items-padded_items

pub returns-clause-joined : goal.returns-clause-joined
returns-clause-joined c = read_items-joined_items
