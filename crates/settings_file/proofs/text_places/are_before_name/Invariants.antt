use Rattle.settings_file.proofs.Basics.{◌≡◌, drop}
use Rattle.std.specs.Prelude.{true}
use Rattle.settings_file.specs.TextPlaces.{ends_from}
use Rattle.settings_file.proofs.text_places.are_before_name.Given as goal

abbrev pub invariant-loop-octet : goal.invariant-loop-octet
invariant-loop-octet l = ends_from l.is (drop l.octet-index l.octets) ≡ ends_from true l.octets
