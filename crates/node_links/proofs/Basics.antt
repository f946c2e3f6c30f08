-- Words and lemmas of std and of the crates below that the proofs here use, and the definitions that they are about.
pub use Rattle.std.proofs.Common.{Bool, List, [], ap, arith, false, length, refl, replicate, subst, suc, sym, true, zero, ℕ, ◌<◌, ◌∙◌, ◌∷◌, ◌≡◌}
pub use Rattle.std.proofs.Math.ListN.{get_or-map}
pub use Rattle.std.proofs.lemmas.List.{length-map, length-set, map-set, set-get_or, set-set}
pub use Rattle.std.specs.Prelude.{◌&&◌, not, IfSome, None, Option, Some, slice_index_or, slice_set}
pub use Rattle.node_links.specs.NodeLinks.{Link, down_link, is_in_service, carries_traffic, Network, facts_of, link_in, serving, with_state}
pub use Rattle.routes.proofs.InService.{chosen_serves}
pub use Rattle.routes.specs.Routes.{chosen_link, Facts, with_link}
