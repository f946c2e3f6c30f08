use Rattle.std.proofs.Common.{refl, inr}
use Rattle.lab.proofs.carrying.bring.Goals as goal

pub returns-in_default-next_text-clause-brought : goal.returns-in_default-next_text-clause-brought
returns-in_default-next_text-clause-brought g c = (
  refl,
  inr (record { sent = record { all = c.in-Ok.ensures.all; well = c.in-Ok.ensures.counted }; none = c.in_default-next_text.ensures.found }),
)
