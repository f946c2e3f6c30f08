use Rattle.std.proofs.Common.{rules, ◌≡◌, refl, arith}
use Rattle.sctp_codec.specs.Reading.{block_count, duplicate_count}
use Rattle.sctp_codec.proofs.SackTexts.{sack-read}
use Rattle.sctp_codec.proofs.chunk.read_sack.Goals as goal

pub returns : goal.returns
returns c =
    let value = c.args.value.now in
    let blocks : c.from.result ≡ block_count value = search rules in
    let duplicates : c.from-2.result ≡ duplicate_count value = search rules in
    sack-read value c.from.result c.from-2.result c.number32_at.result c.number32_at-2.result _ _ blocks duplicates (omega (arith, c.if-value-end.false)) c.number32_at.ensures c.number32_at-2.ensures refl refl
