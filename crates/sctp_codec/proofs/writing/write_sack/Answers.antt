use Rattle.std.proofs.Common.{length, take, map, refl, sym}
use Rattle.std.proofs.lemmas.List.{length-map}
use Rattle.sctp_codec.specs.Packets.{SackValue}
use Rattle.sctp_codec.specs.Values.{block_of}
use Rattle.sctp_codec.proofs.WrittenTexts.{sack_text}
use Rattle.sctp_codec.proofs.writing.write_sack.Goals as goal

pub returns-clause-text : goal.returns-clause-text
returns-clause-text c =
    let blocks = c.args.blocks.now in
    let duplicates = c.args.duplicates.now in
    let s : SackValue = record { cumulative = c.args.cumulative; window = c.args.window; blocks = map block_of blocks; duplicates = duplicates } in
    rw (c.write_numbers.ensures.text, c.write_blocks-at.ensures.text, c.write_at-at-4.ensures.text, c.write_at-at-3.ensures.text, c.write_at-at-2.ensures.text, c.write_at-at.ensures.text, c.write_front-at.ensures.text, c.numbered.ensures, c.to_be_bytes.ensures, c.to_be_bytes-2.ensures, c.to_be_bytes-3.ensures, c.to_be_bytes-4.ensures)
    (sack_text (take c.args.at c.args.out.now) s (length blocks) (length duplicates) (sym (length-map blocks block_of)) refl)
