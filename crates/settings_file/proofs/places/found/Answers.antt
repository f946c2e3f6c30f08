use Rattle.settings_file.proofs.Basics.{table_get}
use Rattle.settings_file.proofs.places.found.Goals as goal

pub returns : goal.returns
returns c = table_get c.get.result c.args.key.now c.args.document.now.entries c.get.ensures.value
