use Rattle.std.proofs.Common.{ℕ, ◌+◌, ◌*◌, ◌^◌, ◌++◌, List, length, take, replicate}
use Rattle.std.specs.Int.{w16, to_be_bytes}
use Rattle.sctp_codec.specs.Items.{padding_behind}
use Rattle.sctp_codec.specs.Writing.{bit, data_octets}
use Rattle.sctp_codec.specs.Values.{data_of}
use Rattle.sctp_codec.proofs.Joined.{joined3}
use Rattle.sctp_codec.proofs.writing.write_data.Goals as goal

pub returns-clause-text : goal.returns-clause-text
returns-clause-text c =
    let d = data_of c.args.carried.now in
    let value : List ℕ = data_octets d in
    let flags : ℕ = bit d.ends 0 + bit d.begins 1 + bit d.unordered 2 + bit d.immediate 3 in
    rw (c.write_padding.ensures.text, c.write_data_value-at.ensures.text, c.write_front-at.ensures.text, c.numbered.ensures, c.octets_of_data-octets.ensures, c.bit.ensures.value, c.bit-2.ensures.value, c.bit-3.ensures.value, c.bit-4.ensures.value)
    (joined3 (take c.args.at c.args.out.now) (to_be_bytes w16 (0 * 2 ^ 8 + flags) ++ to_be_bytes w16 (4 + length value)) value (replicate (padding_behind (length value)) 0))
