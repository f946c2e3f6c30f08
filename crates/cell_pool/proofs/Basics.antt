-- Words and lemmas of std, and the definitions, that the proofs here use.
pub use Rattle.std.proofs.Common.{◌≡◌, ◌≢◌, ℕ, zero, suc, ◌+◌, ◌-◌, ◌<◌, ◌≤◌, Bool, cond, List, [], ◌∷◌, ◌++◌, length, get_or, refl, ap, sym, ◌∙◌, arith, inl, inr, true, false, not, drop, Some, None, slice_get, take, nat_lt, replicate, nat_eq, vec_capacity}
pub use Rattle.std.proofs.Math.ListN.{set}
pub use Rattle.std.proofs.lemmas.Bool.{cases_eq, eq-eqb, ne_eqb, leb-false, ltb-true, ltb-false, lt-ltb, le-ltb}
pub use Rattle.std.proofs.lemmas.Bool.Decides.{nat_tests}
pub use Rattle.std.proofs.lemmas.List.{get_or-map, get_or-set_same, get_or-set_other, get_or_append_left, get_or-append_right, append-nil, length-set, length-map, set-set, drop-drop, map-set, map-append, take-map, drop-map, get_or_push, set_comm, append_assoc, drop_more, take_more, set-get_or, get_or-drop, get_or-take, length-append, length-drop, length-take, drop_all, take_all, get_or-replicate, length-replicate, length_push, take_at, drop_at}
pub use Rattle.std.proofs.lemmas.List.Sums.{sum_by-cons, get_or-le-sum_by, sum_by_push, sum_by-set, sum_by-append, sum_by-take-drop}
pub use Rattle.std.specs.Prelude.{sum_by, nat_le, if◌then◌else◌, filter}
pub use Rattle.cell_pool.specs.Cells.{Occupied, message_at, messages_at, lists_at}
pub use Rattle.cell_pool.specs.Chains.{Chained, no_cells, walk, cells_of, rings_of, chain_at, joined, end_of, IsMarked, AreMarked, turned_round, one_cell, shortened}
pub use Rattle.cell_pool.specs.Lanes.{users_in, managements_in, users, managements, lane_at, dropped, push_refusal, pushed, HasAsMany}
pub use Rattle.cell_pool.specs.Links.{Linked}
pub use Rattle.cell_pool.specs.Moves.{all_behind, put_behind, list_at, put_before, first_behind, all_before, picked_behind, picked_before}
pub use Rattle.cell_pool.specs.Numbering.{uses, ring_at, SharesOut}
pub use Rattle.cell_pool.specs.Stored.{Stored}
pub use Rattle.cell_pool.specs.Turns.{cut_at, is_picked, turned}
pub use Rattle.signalling_types.specs.Message.{lent, Message, is_management}
