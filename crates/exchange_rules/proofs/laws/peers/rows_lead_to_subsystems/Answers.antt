use Rattle.exchange_rules.proofs.LedRows.{have-room, lead-to}
use Rattle.exchange_rules.proofs.laws.peers.rows_lead_to_subsystems.Goals as goal

pub returns-clause-leads : goal.returns-clause-leads
returns-clause-leads c = lead-to

pub returns-clause-room : goal.returns-clause-room
returns-clause-room c = have-room
