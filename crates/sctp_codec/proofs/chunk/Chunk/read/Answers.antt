use Rattle.std.proofs.Common.{rules, ◌≡◌, sym, ◌∙◌}
use Rattle.sctp_codec.specs.Reading.{type_of}
use Rattle.sctp_codec.specs.Values.{item_of}
use Rattle.sctp_codec.proofs.SackTexts.{of_sack}
use Rattle.sctp_codec.proofs.chunk.Chunk.read.Goals as goal

pub returns-in-3 : goal.returns-in-3
returns-in-3 c =
    let kind : type_of (item_of c.args.item) ≡ 3 = search rules in
    c.read_sack.ensures ∙ sym (of_sack (item_of c.args.item) kind)
