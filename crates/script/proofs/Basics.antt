-- Words and lemmas of std, and the definitions, that the proofs here use.
pub use Rattle.std.proofs.lemmas.Bool.{lt-ltb}
pub use Rattle.std.proofs.Common.{◌≡◌, ℕ, ◌+◌, List, [], ◌++◌, Option, None, Some, length, take, sym, ◌∙◌, ap, arith, append_assoc, append-nil, ◌∷◌, refl, ◌<◌, Bool, Ok, Err, subst, ◌*◌, ◌%◌, ◌≤◌, true, false, nat_eq, nat_le, ◌&&◌, Result, nat_lt, length-append, ◌-◌, suc, inl, inr, zero, get_or, drop, drop-cons, add-one, ◌^◌, min, length-drop}
pub use Rattle.std.proofs.Math.Seq.{take-append-add, take-add}
pub use Rattle.std.proofs.lemmas.Bool.Decides.{nat_tests}
pub use Rattle.std.proofs.lemmas.List.{drop_all, take_rest}
pub use Rattle.std.proofs.lemmas.Result.{err_from_is_err_and}
pub use Rattle.std.specs.Io.KnownBytes.{Appends, Consumes, Keeps, IsAtEnd}
pub use Rattle.std.specs.Option.{option_map, option_and_then, option_to_list}
pub use Rattle.std.specs.Prelude.{IsTrue, ◌↔◌, IsOk, if◌then◌else◌, slice_get, OnErr}
pub use Rattle.console.proofs.Parting.{parted-some, parted-unmarked, begun-nothing}
pub use Rattle.console.specs.Words.{words, begun}
pub use Rattle.exchange.specs.KeptQueues.{kept, KeptQueues}
pub use Rattle.exchange.specs.Calls.{Kept, StandsFor, kept_of}
pub use Rattle.exchange_rules.specs.Exchange.{after}
pub use Rattle.exchange_rules.specs.State.{Ticked}
pub use Rattle.exchange_rules.specs.Queues.{whole, WholeQueues}
pub use Rattle.exchange_rules.specs.First.{Abstract}
pub use Rattle.settings.specs.declared.point.PointFormat.TheVariants.{Plain}
pub use Rattle.script.specs.Asking.{AskOrder, asked_behind, Asked, Reading, Asks, IsMalformed, parsed_line, Skips, asked_line}
pub use Rattle.script.specs.Doing.{printed, done, after_tick, after_ticks, Meaning, Calls, Passes, Shows, Refuses, meaning, answer_text, meaning_printed, meaning_done}
pub use Rattle.script.specs.Lines.{is_octets, octets_of, lines}
pub use Rattle.script.specs.Runs.{Reached, silent, stopped, line_run, whole_line, open_run, onto, unless_ended, behind, first_of, behind_first, lines_run, Does, run_so_far, whole_run, RunsBy, Runs, LeadsTo}
pub use Rattle.script.specs.Showing.{line_of, most_lines, ended, first_lines, shown_text}
pub use Rattle.script.specs.Steps.{DoesLine, LineSoFar, Grows, rest_run, HasTaken, first_line, GoesOn}
pub use Rattle.script.specs.Streams.{AppendsFirst, AppendsAtLeast}
pub use Rattle.script.specs.declared.fault.ScriptFault.{ScriptFault}
pub use Rattle.script.specs.declared.fault.ScriptFault.TheVariants.{Write, Read, Line, TooManyReads, NoMemory}
pub use Rattle.script.specs.declared.fault.TheConstants.{LINE_OCTETS, READS}
