use Rattle.std.proofs.Common.{rules, ◌≡◌, take, ◌∙◌}
use Rattle.sctp_codec.proofs.Checksums.{in_pieces}
use Rattle.sctp_codec.proofs.packet.checksum.Goals as goal

pub returns : goal.returns
returns c =
    let front : c.in-Some.front.now ≡ take 8 c.args.octets.now = search rules in
    in_pieces c.args.octets.now c.turn.new.self.front c.remainder.result c.remainder-2.result (c.turn.ensures ∙ front) c.remainder.ensures c.remainder-2.ensures
