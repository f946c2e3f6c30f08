-- SCCP messages for this point, and the orders on translation rows: each rule is made of steps.
use Rattle.exchange_rules.proofs.Basics.{◌≡◌, ◌&&◌, ℕ, Bool, true, List, Option, Some, None, is_some}
use Rattle.std.specs.Prelude.{drop}
use Rattle.mtp3_codec.specs.Headings.{label_at}
use Rattle.sccp_relay.specs.Sccp.{read_sccp}
use Rattle.exchange_rules.specs.LawsOfMessages.{says_status}
use Rattle.exchange_rules.proofs.Saying.{heard-said, is_said}
use Rattle.exchange_rules.proofs.Definitions.{Message, Configuration, TitleEntry, Cause, NoSuchName, Outcome, Queued, Held, Local, Handled, Ignored, Refused, TitleKey, place_of, has_row, without_row, RelayedValue, relay, returned, Node, Done, with_parts, answer, refuse, own_of, in_place_of, send_udts, return_outcome, relay_by, on_unitdata, with_rows, title_refusal, title_set_refusal, add_title_unless, add_title, set_title, remove_title, WholeQueues, whole}
use Rattle.sccp_relay.specs.Relay as relays
use Rattle.exchange_rules.proofs.Steps.{either_done-steps, Deed, IsOfDeeds, TitlesChange}
use Rattle.exchange_rules.proofs.SteppingMessages.{transfer-steps}

-- whether a message of SCCP says something of a subsystem at another point, and is heard
abbrev pub says_here : Configuration → Message → Bool
says_here c m = is_some c.timers.sst && says_status c (label_at m.sif).opc (read_sccp c.extended_unitdata (drop 4 m.sif))

module _ {c : Configuration} {Own Counts : ℕ → Type 0} {May : Deed → Type 0} {R : Node WholeQueues → Node WholeQueues → Type 0} (s : IsOfDeeds c Own Counts May R) where
  send_udts-steps : (udts : Option (List ℕ)) (m : Message) (n : Node WholeQueues) → R n (send_udts whole c udts m n)
  send_udts-steps (Some sif) m n = transfer-steps s None (in_place_of m sif) n
  send_udts-steps None m n = s.sends.none n

  return-steps : (outcome : Outcome) (m : Message) (n : Node WholeQueues) → R n (return_outcome whole c outcome m n)
  return-steps (Refused cause) m n = send_udts-steps (returned (own_of c n.parts) n.parts.titles m.sif cause) m n
  return-steps (Queued link) m n = s.sends.none n
  return-steps Held m n = s.sends.none n
  return-steps Local m n = s.sends.none n
  return-steps Handled m n = s.sends.none n
  return-steps Ignored m n = s.sends.none n

  relay-steps : (becomes : RelayedValue) (m : Message) (n : Node WholeQueues) (says : Bool) → is_said says becomes ≡ true → (says ≡ true → May TitlesChange)
      → R n (relay_by whole c becomes m n).left
  relay-steps relays.Delivered m n says said may = s.sends.none n
  relay-steps (relays.Onward sif) m n says said may = transfer-steps s None (in_place_of m sif) n
  relay-steps (relays.Heard news) m n says said may = s.titled _ n (may said)
  relay-steps (relays.Refused cause) m n says said may = s.sends.none n

  pub on_unitdata-steps : (m : Message) (n : Node WholeQueues) → (says_here c m ≡ true → May TitlesChange) → R n (on_unitdata whole c m n).left
  on_unitdata-steps m n may =
      let d : Done WholeQueues = relay_by whole c (relay (own_of c n.parts) n.parts.titles m.sif) m n in
      s.sends.both _ _ _ (relay-steps (relay (own_of c n.parts) n.parts.titles m.sif) m n (says_here c m) (heard-said c n.parts n.parts.titles m) may)
      (return-steps d.outcome m d.left)

  -- ---- translation rows

  add_by-steps : (refusal : Option Cause) (row : TitleEntry) (n : Node WholeQueues) → May TitlesChange → R n (add_title_unless refusal row n).left
  add_by-steps (Some cause) row n may = s.sends.none n
  add_by-steps None row n may = s.titled _ n may

  pub add_title-steps : (row : TitleEntry) (is_memory_refused : Bool) (n : Node WholeQueues) → May TitlesChange → R n (add_title row is_memory_refused n).left
  add_title-steps row is_memory_refused n may = add_by-steps (title_refusal n.parts.titles.rows row is_memory_refused) row n may

  pub set_title-steps : (row : TitleEntry) (is_memory_refused : Bool) (n : Node WholeQueues) → May TitlesChange → R n (set_title row is_memory_refused n).left
  set_title-steps row is_memory_refused n may = add_by-steps (title_set_refusal n.parts.titles.rows row is_memory_refused) row n may

  pub remove_title-steps : (key : TitleKey) (digits : List ℕ) (n : Node WholeQueues) → May TitlesChange → R n (remove_title key digits n).left
  remove_title-steps key digits n may =
      either_done-steps s.sends (has_row n.parts.titles.rows (place_of key digits))
      n (answer Handled (with_parts n (with_rows (without_row (place_of key digits) n.parts.titles.rows) n.parts))) (refuse NoSuchName n)
      (s.titled (record n.parts.titles { rows = without_row (place_of key digits) n.parts.titles.rows }) n may) (s.sends.none n)
