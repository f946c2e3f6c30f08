-- Words and lemmas of std and of the crates below that the proofs here use, and the definitions that they are about.
pub use Rattle.std.proofs.Common.{Bool, List, None, Option, Some, [], ap, arith, cond, drop, false, is_some, length, not, refl, sym, take, true, ℕ, ◌++◌, ◌+◌, ◌-◌, ◌<◌, ◌∙◌, ◌∷◌, ◌≡◌, ◌≢◌, ◌≤◌}
pub use Rattle.std.proofs.Math.ListN.{set}
pub use Rattle.std.proofs.lemmas.List.{drop-drop, get_or-set_other, get_or-set_same, length-set, take-append-drop}
pub use Rattle.std.proofs.lemmas.List.Elements.{filter-append}
pub use Rattle.std.specs.Option.{option_map}
pub use Rattle.std.specs.Prelude.{filter}
pub use Rattle.cell_pool.proofs.Moving.{left-before}
pub use Rattle.cell_pool.specs.Lanes.{dropped, lane_at}
pub use Rattle.cell_pool.specs.Moves.{list_at, put_before}
pub use Rattle.changeover.specs.Changeover.{accepted_count, behind, doubted, held_after, in_doubt, managements_of, queued_anew, users_of}
pub use Rattle.changeover.specs.Failure.{beginning, begins_with, kept_beginning}
pub use Rattle.changeover.specs.Kept.{kept_accepted_count, kept_behind, kept_completes_alike, kept_done, kept_done_with, kept_doubted, kept_in_doubt}
pub use Rattle.changeover.specs.Lanes.{spliced, splicing_completes}
pub use Rattle.changeover.specs.Laws.{count_in_the_end, each_once, lost_then_moved, none_lost}
pub use Rattle.link.proofs.Keeping.{answers-last_accepted}
pub use Rattle.link.proofs.Kept.{kept-newly_confirmed}
pub use Rattle.link.proofs.Naming.{finds_named}
pub use Rattle.link.specs.Counts.{Counts, counts_of}
pub use Rattle.link.specs.Keeps.{Keeps}
pub use Rattle.link.specs.Queue.{IsQueue, Queue, unconfirmed}
pub use Rattle.signalling_types.specs.Message.{Message, is_management}
