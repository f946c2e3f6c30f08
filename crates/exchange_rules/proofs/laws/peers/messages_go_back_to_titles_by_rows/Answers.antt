use Rattle.exchange_rules.proofs.LedRows.{go-back}
use Rattle.exchange_rules.proofs.laws.peers.messages_go_back_to_titles_by_rows.Goals as goal

pub returns : goal.returns
returns c = go-back
