use Rattle.sctp_sending.proofs.Rooms.{goes-next}
use Rattle.sctp_sending.proofs.laws.a_message_that_finds_room_goes_out_next.Goals as goal

pub returns : goal.returns
returns c = goes-next
