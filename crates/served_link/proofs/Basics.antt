-- Words and lemmas of std, and the definitions, that the proofs here use.
pub use Rattle.std.proofs.lemmas.Bool.{both_ways}
pub use Rattle.std.proofs.Common.{◌≡◌, ℕ, ◌<◌, ◌≤◌, ◌-◌, ◌∙◌, Bool, false, List, [], ◌∷◌, ◌++◌, length, take, drop, if◌then◌else◌, Err, refl, sym, ap, subst, arith, append_assoc, append-nil, true, Ok, Option, ◌≢◌, ◌+◌, ◌==◌, ◌⊎◌, inl, inr, get_or, replicate, Some, None}
pub use Rattle.std.proofs.lemmas.Bool.Decides.{nat_tests, eqb_tells}
pub use Rattle.std.proofs.lemmas.List.{length-append, length-take, length-drop, take_all, drop_at, take-append-drop, get_or-set_same, get_or-set_other}
pub use Rattle.std.proofs.lemmas.List.Elements.{All-nil, All-push, All-append, All-head}
pub use Rattle.std.proofs.lemmas.List.Folds.{concat-append}
pub use Rattle.std.specs.List.{concat}
pub use Rattle.std.specs.Option.{option_map}
pub use Rattle.std.specs.Prelude.{Result, IsErr, slice_index, sum_by}
pub use Rattle.exchange.specs.KeptQueues.{kept}
pub use Rattle.exchange_rules.specs.Exchange.{outcome_of, after, taken}
pub use Rattle.exchange_rules.specs.State.{FrameCame, QueueKind, State}
pub use Rattle.exchange_rules.specs.Queues.{whole}
pub use Rattle.m2pa_codec.proofs.StreamTexts.{length_field-append, one_stream, text-next_in}
pub use Rattle.m2pa_codec.proofs.Windows.{consumed, written_behind}
pub use Rattle.m2pa_codec.specs.Frames.{FrameValue, EmptyFrame, MessageFrame, StatusFrame, spelled}
pub use Rattle.m2pa_codec.specs.Streams.{IsText, next_in, is_broken, room_for, taken_of, Stops, IsStream}
pub use Rattle.m2pa_codec.specs.declared.framer.Next.TheVariants.{Wait, Whole}
pub use Rattle.served_link.specs.Connections.{is_pending, text_to_take, has_room, TakesEach, after_last, Fills, sights_of_frames, Takes, Connection}
pub use Rattle.served_link.specs.Reading.{after_texts, sights_of, Reads, Feeds, HandsIn, Leaves}
pub use Rattle.served_link.specs.Room.{pending_in}
pub use Rattle.served_link.specs.Watching.{Sight, CameIn, SeesEach, WentOut}
pub use Rattle.served_link.specs.declared.association.Broken.{Broken}
pub use Rattle.signalling_types.specs.declared.limits.TheConstants.Limits.{FRAME_OCTETS}
pub use Rattle.signalling_types.specs.declared.outcome.Outcome.{Outcome}
