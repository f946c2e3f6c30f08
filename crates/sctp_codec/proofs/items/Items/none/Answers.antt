use Rattle.std.proofs.Common.{refl, ap}
use Rattle.std.specs.Prelude.{is_some}
use Rattle.sctp_codec.proofs.ItemTexts.{read_items-nil}
use Rattle.sctp_codec.proofs.items.Items.none.Goals as goal

pub invariant_of-result : goal.invariant_of-result
invariant_of-result c = record { whole = ap is_some read_items-nil }

pub returns : goal.returns
returns c = rw read_items-nil refl
