-- TCOC, changeover control (Q.704 §5): how far the changeover of a link is, and what its completion finds.
use Rattle.std.specs.Prelude.{ℕ, ◌-◌, not, List, [], ◌++◌, take, drop, filter, Option, Some, None, is_some, Bool, true, false, ◌&&◌, if◌then◌else◌, slice_index_or, slice_set}
use Rattle.std.specs.Option.{option_and_then}
use Rattle.signalling_types.specs.Message.{Message, is_management}
use Rattle.link.specs.Queue.{Queue, named_count}
use Rattle.signalling_types.specs.declared.notice.ChangeoverTimer.{ChangeoverTimer}
use Rattle.signalling_types.specs.declared.notice.ChangeoverTimer.TheVariants.{T1, T2}

-- ---- Completing a changeover (Q.704 §5.4, with the numbers of Q.2210): what becomes of the messages of a failed link.

-- the user messages of a list, and its management messages
abbrev pub users_of : List Message → List Message
users_of ms = filter (λ m. not (is_management m)) ms

abbrev pub managements_of : List Message → List Message
managements_of ms = filter is_management ms

-- how many messages the peer accepted: the count that its number names, if it gave one that is reasonable
abbrev pub accepted_count : Queue → Option ℕ → Option ℕ
accepted_count q number = option_and_then (named_count q) number

-- the messages after those; without a reasonable number, those that weren't sent
abbrev pub behind : Queue → Option ℕ → List Message
behind q (Some n) = drop n q.all
behind q None = drop q.sent q.all

-- the user messages that go before all that is held
abbrev pub moved : Queue → Option ℕ → List Message
moved q number = users_of (behind q (accepted_count q number))

-- the management messages that are queued again
abbrev pub queued_anew : Queue → Option ℕ → List Message
queued_anew q number = managements_of (behind q (accepted_count q number))

-- without a reasonable number, the messages that were sent and not confirmed
abbrev pub in_doubt : Queue → Option ℕ → List Message
in_doubt q (Some n) = []
in_doubt q None = take (q.sent - q.confirmed) (drop q.confirmed q.all)

-- how many these are
abbrev pub doubted : Queue → (count : Option ℕ) → Option ℕ
doubted q (Some n) = None
doubted q None = Some (q.sent - q.confirmed)

-- the user messages that are named as lost
abbrev pub lost : Queue → Option ℕ → List Message
lost q number = users_of (in_doubt q (accepted_count q number))

-- what is held afterwards
abbrev pub held_after : Queue → Option ℕ → List Message → List Message
held_after q number held = moved q number ++ held

-- ---- How far the changeover of a link is (Q.704 §5).

pub record Standing : Type 0 where
  -- its changeover isn't complete
  pub incomplete : Bool
  -- the answer to its changeover order is awaited
  pub awaited : Bool

abbrev pub no_changeover : Standing
no_changeover = record { incomplete = false; awaited = false }

-- that of one link
abbrev pub standing_at : List Standing → ℕ → Standing
standing_at links link = slice_index_or links link no_changeover

abbrev pub with_standing : List Standing → ℕ → Standing → List Standing
with_standing links link s = slice_set links link s

-- a link opens again when all of its changeover is over
abbrev pub may_restart : Standing → Bool
may_restart s = not s.incomplete && not s.awaited

-- the link failed in service; if an order goes out, its answer is awaited
abbrev pub failed : (ordered : Bool) → Standing → Standing
failed ordered s = record { incomplete = true; awaited = ordered }

-- the adjacent point's order made it fail, so it sends no order of its own
abbrev pub begun_by_peer : Standing → Standing
begun_by_peer s = record s { incomplete = true }

-- whether its changeover isn't complete, and no answer is awaited: no order went out
abbrev pub is_unasked : Standing → Bool
is_unasked s = s.incomplete && not s.awaited

-- an order goes out late: its answer is awaited from now on
abbrev pub with_order : Standing → Standing
with_order s = record s { awaited = true }

-- its messages have gone elsewhere
abbrev pub completed : Standing → Standing
completed s = record s { incomplete = false }

-- the answer came, or is no longer waited for
abbrev pub acknowledged : Standing → Standing
acknowledged s = record s { incomplete = false; awaited = false }

-- whether a number was given that names no count
abbrev pub is_unreasonable : (number count : Option ℕ) → Bool
is_unreasonable number count = not (is_some count) && is_some number

-- whether an answer completes a changeover; none if no answer is awaited
abbrev pub completed_by_acknowledgement : Standing → Option Bool
completed_by_acknowledgement s = if s.awaited then Some s.incomplete else None

-- whether the answer is awaited though the changeover is complete, so that the link is barred from opening
abbrev pub is_barred : Standing → Bool
is_barred s = not s.incomplete && s.awaited

-- whether the answer is awaited, and the changeover isn't complete yet
abbrev pub awaits_incomplete : Standing → Bool
awaits_incomplete s = s.incomplete && s.awaited

-- whether T2 that runs out leaves the answer awaited: where links are barred, and the changeover isn't complete yet
abbrev pub stays_awaited : (bars : Bool) → Standing → Bool
stays_awaited bars s = bars && s.incomplete

-- its timer ran out
abbrev pub expired : (bars : Bool) → ChangeoverTimer → Standing → Standing
expired bars T1 s = completed s
expired bars T2 s = if stays_awaited bars s then completed s else acknowledged s
