use Rattle.settings.proofs.Basics.{◌≡◌, map, take, drop, string_bytes, list_all, set_number, is_set_name}
use Rattle.settings.proofs.destinations.set_ids.Given as goal

abbrev pub invariant-loop-name : goal.invariant-loop-name
invariant-loop-name l = record {
  ids : l.ids.items ≡ map (λ name. set_number l.sets (string_bytes name)) (take l.name-index l.names);
  known : list_all (is_set_name l.sets) (drop l.name-index l.names) ≡ list_all (is_set_name l.sets) l.names;
}
