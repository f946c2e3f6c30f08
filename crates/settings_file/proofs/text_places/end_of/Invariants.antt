use Rattle.settings_file.proofs.Basics.{◌≡◌, ◌+◌, ◌≤◌, drop}
use Rattle.settings_file.specs.TextPlaces.{first_place, place_behind}
use Rattle.settings_file.proofs.text_places.end_of.Given as goal

abbrev pub invariant-loop-octet : goal.invariant-loop-octet
invariant-loop-octet l = record {
  place : place_behind l.place (drop l.octet-index l.text) ≡ place_behind first_place l.text;
  line : l.place.line ≤ l.octet-index + 1;
  column : l.place.column ≤ l.octet-index + 1;
}
