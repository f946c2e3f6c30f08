use Rattle.std.proofs.Common.{rules, ◌≢◌, ◌≤◌, length, slice_index}
use Rattle.sccp_codec.specs.Messages.{length_place}
use Rattle.sccp_codec.proofs.OptionalTexts.{none-named}
use Rattle.sccp_codec.proofs.optional.OptionalPart.named.Goals as goal

pub returns-then-octets-pointer : goal.returns-then-octets-pointer
returns-then-octets-pointer c =
    let other : slice_index c.args.octets.now c.args.pointer ≢ 0 = search rules in
    let past : length c.args.octets.now ≤ length_place c.args.octets.now c.args.pointer = search rules in
    none-named c.args.octets.now c.args.pointer other past
