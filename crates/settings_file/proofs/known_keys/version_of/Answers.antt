use Rattle.settings_file.proofs.Basics.{refl, codes, table_get}
use Rattle.settings_file.proofs.known_keys.version_of.Goals as goal

pub returns-in-Some : goal.returns-in-Some
returns-in-Some c = rw (
  ← table_get c.get.result (codes "version") c.args.document.now.entries c.get.ensures.value,
  c.in-Some.is,
  c.as_integer.ensures,
) refl

pub returns-in-None : goal.returns-in-None
returns-in-None c =
    rw (← table_get c.get.result (codes "version") c.args.document.now.entries c.get.ensures.value, c.in-None.is) refl
