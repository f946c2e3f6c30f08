use Rattle.network_datagrams.proofs.Promised.{accounts}
use Rattle.network_datagrams.proofs.laws.each_message_is_accounted_for.Goals as goal

pub returns : goal.returns
returns c = accounts
