-- Words and lemmas of std and of the crates below that the proofs here use, and the definitions that they are about.
pub use Rattle.std.proofs.Common.{Bool, Err, List, None, Ok, Option, Result, Some, [], ap, arith, drop, false, find, if◌then◌else◌, length, nat_eq, nat_le, nat_lt, refl, slice_get, subst, suc, sym, true, zero, ℕ, ◌%◌, ◌++◌, ◌+◌, ◌-◌, ◌<◌, ◌^◌, ◌∙◌, ◌∷◌, ◌≡◌, ◌≤◌}
pub use Rattle.std.proofs.lemmas.Bool.Decides.{nat_tests}
pub use Rattle.std.proofs.lemmas.Grind.{common_steps}
pub use Rattle.std.proofs.lemmas.List.{drop-append-le, drop-drop}
pub use Rattle.std.proofs.lemmas.Option.{slice_get_within}
pub use Rattle.std.specs.Option.{option_map}
pub use Rattle.cell_pool.specs.Lanes.{dropped, lane_at}
pub use Rattle.link.specs.Counts.{Counts, counts_of, kept_accept_answer, kept_accepted, kept_after_answer, kept_after_sending, kept_expected, kept_last_accepted, kept_last_sent, kept_newly_confirmed, kept_sent_one, kept_to_send}
pub use Rattle.link.specs.Keeps.{Keeps}
pub use Rattle.link.specs.Naming.{search_finds_named}
pub use Rattle.link.specs.Queue.{IsQueue, Names, Queue, Sending, accept_answer, accepted, after_answer, after_sending, appended, confirmation, count_confirmed, counts_from, emptied, expected, first_queue, forward_number, last_accepted, last_sent, named_count, newly_confirmed, numbered, sent_one, to_send, unconfirmed}
pub use Rattle.link.specs.declared.fault.SeqFault.{SeqFault}
pub use Rattle.signalling_types.specs.Message.{Message}
pub use Rattle.signalling_types.specs.Numbers.{next_number, previous_number, steps_between}
pub use Rattle.signalling_types.specs.declared.limits.TheConstants.Limits.{WINDOW}
