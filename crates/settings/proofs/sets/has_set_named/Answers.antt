use Rattle.settings.proofs.Basics.{string_bytes, bytes_eq, SetDraft}
use Rattle.settings.proofs.Entries.{some_place}
use Rattle.settings.proofs.sets.has_set_named.Goals as goal

pub returns : goal.returns
returns c = rw (c.is_some.ensures, c.set_place.ensures) (some_place (λ (s : SetDraft). bytes_eq (string_bytes s.name) c.args.name.now) c.args.sets.now)
