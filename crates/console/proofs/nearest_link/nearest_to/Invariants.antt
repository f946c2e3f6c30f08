-- The nearest of those that are left, or the one found so far, is the nearest of all.
use Rattle.std.proofs.Common.{◌≡◌, ◌+◌, ◌≤◌, drop, length}
use Rattle.std.specs.Prelude.{None, ◌/◌, max, IfSome}
use Rattle.std.specs.Option.{option_map}
use Rattle.signalling_types.specs.declared.limits.TheConstants.Limits.{NAME_OCTETS}
use Rattle.console.specs.NearestLinks.{nearest_link_from}
use Rattle.console.proofs.nearest_link.nearest_to.Given as goal

abbrev pub invariant-loop-link : goal.invariant-loop-link
invariant-loop-link l = record {
  near :
      nearest_link_from l.text (drop l.link-index l.links) (option_map (λ near. near.now) l.nearest) l.too_many
      ≡ nearest_link_from l.text l.links None (1 + max (length l.text / 3) 1);
  short : IfSome l.nearest (λ near. length near.now ≤ NAME_OCTETS);
}
