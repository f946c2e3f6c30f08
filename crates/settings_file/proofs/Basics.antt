-- Words and lemmas of std, and the definitions, that the proofs here use.
pub use Rattle.std.proofs.Common.{◌≡◌, ◌⊎◌, inl, inr, ℕ, Bool, ◌+◌, ◌<◌, ◌≤◌, List, [], ◌∷◌, ◌++◌, length, get_or, drop, map, Result, Ok, Err, append_assoc, append-nil, refl, ap, sym, ◌∙◌, Option, codes, None, Some, length-append, string_bytes, SFits, w64, rules, arith, subst, ne_eqb}
pub use Rattle.std.proofs.lemmas.Int.{to_z-of_z}
pub use Rattle.std.proofs.lemmas.List.{drop_more, drop_all, map-append}
pub use Rattle.std.proofs.lemmas.Option.{none-some, same_Some}
pub use Rattle.std.proofs.lemmas.Result.{err_from_is_err_and, IfOk-weaker}
pub use Rattle.std.specs.Net.Grammar.{IsSocketV4Text, IsSocketV6Text, IsSocketText}
pub use Rattle.std.specs.declared.net.socket_addr.SocketAddr.{SocketAddr}
pub use Rattle.settings_file.specs.Addresses.{Spelling}
pub use Rattle.settings_file.specs.Endpoints.{endpoint_in, endpoints_behind}
unfoldable pub use Rattle.settings_file.specs.Endpoints.{endpoints_at}
pub use Rattle.settings_file.specs.Entries.{destination_in, link_entry_in, set_in}
unfoldable pub use Rattle.settings_file.specs.Entries.{destinations_at, title_in}
pub use Rattle.settings_file.specs.NodeKeys.{name_in}
pub use Rattle.settings_file.specs.Reading.{reading_in}
unfoldable pub use Rattle.settings_file.specs.Reading.{reading, settings_fault}
pub use Rattle.settings_file.specs.Shapes.{and_then, each, listed, integer_in, text_in}
unfoldable pub use Rattle.settings_file.specs.Shapes.{array_in}
pub use Rattle.settings_file.specs.Warnings.{Ignored, warning, warnings_of, HasWarned, IsSoFar, GoesOn}
pub use Rattle.settings_file.specs.Written.{destination_written, link_written, set_written, title_written}
pub use Rattle.settings_file.specs.declared.fault.SettingsFault.{SettingsFault}
pub use Rattle.settings_file.specs.declared.fault.SettingsFault.TheVariants.{Text, Draft}
pub use Rattle.settings_file.specs.declared.serve.fault.ServeFault.{ServeFault}
pub use Rattle.toml.proofs.Views.{table_get}
pub use Rattle.toml.specs.View.{view, items_view}
