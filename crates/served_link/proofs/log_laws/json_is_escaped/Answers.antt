use Rattle.std.proofs.Common.{refl}
use Rattle.served_link.proofs.LineTexts.{all_within}
use Rattle.served_link.proofs.log_laws.json_is_escaped.Goals as goal

pub returns : goal.returns
returns c = record { all = all_within; quoted = refl }
