use Rattle.sctp_sending.proofs.Together.{go-together}
use Rattle.sctp_sending.proofs.laws.messages_that_find_room_behind_others_go_out_with_them.Goals as goal

pub returns : goal.returns
returns c = go-together
