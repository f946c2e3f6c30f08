use Rattle.settings_file.proofs.Basics.{sym}
use Rattle.settings_file.specs.Consoles.{place_in}
use Rattle.settings_file.proofs.serve.console_place.place_in.Goals as goal

pub returns-else-is_path : goal.returns-else-is_path
unfolding place_in
returns-else-is_path c = λ s. rw (sym c.if-is_path.ensures) (c.tcp_place.ensures s)
