use Rattle.std.proofs.Common.{◌≡◌, ℕ, ap, ◌∙◌, arith, rules}
use Rattle.std.specs.Prelude.{slice_index}
use Rattle.crc32c.proofs.Entries.{table, table_64}
use Rattle.crc32c.proofs.after_64.Goals as goal

pub returns : goal.returns
returns c =
    let same : c.from.result ≡ c.args.octet = search rules in
    ap (λ (i : ℕ). slice_index (table 7) i) same ∙ table_64 c.args.octet (omega (arith, c.ranges.octet.fits))
