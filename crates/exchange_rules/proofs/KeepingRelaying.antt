-- SCCP messages for this point, and translation rows: what is kept of the node that a rule leaves is what the rule
-- leaves of what was kept, and it stays sound. Over any two kinds of queues P and Q of which h keeps one as the other.
use Rattle.exchange_rules.proofs.Basics.{ℕ, Bool, List, Option, Some, None, refl, ap, ◌∙◌}
use Rattle.exchange_rules.proofs.Definitions.{Message, Configuration, TitleEntry, Cause, Outcome, Queued, Held, Local, Handled, Ignored, Refused, TitleKey, place_of, has_row, without_row, RelayedValue, relay, returned, Node, Done, QueueKind, keep, with_parts, answer, refuse, transfer, own_of, in_place_of, send_udts, return_outcome, return_refusal, relay_by, on_unitdata, with_rows, title_refusal, title_set_refusal, add_title_unless, add_title, set_title, remove_title}
use Rattle.signalling_types.specs.declared.cause.Cause.TheVariants as causes
use Rattle.sccp_relay.specs.Relay as relays
use Rattle.exchange_rules.proofs.Combining.{IsKeeping, KeepsNode, Keeps, parted, either}
use Rattle.exchange_rules.proofs.KeepingMessages.{transfer-kept}

module _ {P Q : Type 0} (p : QueueKind P) (q : QueueKind Q) (h : P → Q) (IsFit : P → Type 0) (c : Configuration) (k : IsKeeping p q h IsFit c.window) where
  send_udts-kept : (udts : Option (List ℕ)) (m : Message) (n : Node P) → IsFit n.queues → KeepsNode h IsFit (send_udts q c udts m (keep h n)) (send_udts p c udts m n)
  send_udts-kept (Some sif) m n f =
      let e : Keeps h IsFit (transfer q c None (in_place_of m sif) (keep h n)) (transfer p c None (in_place_of m sif) n) = transfer-kept p q h IsFit c k None (in_place_of m sif) n f in
      record { same = ap (λ (d : Done Q). d.left) e.same; fit = e.fit }
  send_udts-kept None m n f = record { same = refl; fit = f }

  return_outcome-kept : (o : Outcome) (m : Message) (n : Node P) → IsFit n.queues → KeepsNode h IsFit (return_outcome q c o m (keep h n)) (return_outcome p c o m n)
  return_outcome-kept (Refused cause) m n f = send_udts-kept (returned (own_of c n.parts) n.parts.titles m.sif cause) m n f
  return_outcome-kept (Queued link) m n f = record { same = refl; fit = f }
  return_outcome-kept Held m n f = record { same = refl; fit = f }
  return_outcome-kept Local m n f = record { same = refl; fit = f }
  return_outcome-kept Handled m n f = record { same = refl; fit = f }
  return_outcome-kept Ignored m n f = record { same = refl; fit = f }

  return_refusal-kept : (m : Message) (t : Done Q) (s : Done P) → Keeps h IsFit t s → Keeps h IsFit (return_refusal q c m t) (return_refusal p c m s)
  return_refusal-kept m t s e =
      let r : KeepsNode h IsFit (return_outcome q c s.outcome m (keep h s.left)) (return_outcome p c s.outcome m s.left) = return_outcome-kept s.outcome m s.left e.fit in
      record {
        same = ap (λ (d : Done Q). return_refusal q c m d) e.same ∙ ap (λ (n : Node Q). record { outcome = s.outcome; left = n }) r.same;
        fit = r.fit;
      }

  relay_by-kept : (v : RelayedValue) (m : Message) (n : Node P) → IsFit n.queues → Keeps h IsFit (relay_by q c v m (keep h n)) (relay_by p c v m n)
  relay_by-kept relays.Delivered m n f = parted _ n.parts n.queues f
  relay_by-kept (relays.Onward sif) m n f = transfer-kept p q h IsFit c k None (in_place_of m sif) n f
  relay_by-kept (relays.Heard news) m n f = parted _ _ n.queues f
  relay_by-kept (relays.Refused cause) m n f = parted _ n.parts n.queues f

  pub on_unitdata-kept : (m : Message) (n : Node P) → IsFit n.queues → Keeps h IsFit (on_unitdata q c m (keep h n)) (on_unitdata p c m n)
  on_unitdata-kept m n f =
      let v : RelayedValue = relay (own_of c n.parts) n.parts.titles m.sif in
      return_refusal-kept m (relay_by q c v m (keep h n)) (relay_by p c v m n) (relay_by-kept v m n f)

-- ---- translation rows

module _ {P Q : Type 0} {h : P → Q} {IsFit : P → Type 0} where
  add_unless-kept : (refusal : Option Cause) (row : TitleEntry) (n : Node P) → IsFit n.queues → Keeps h IsFit (add_title_unless refusal row (keep h n)) (add_title_unless refusal row n)
  add_unless-kept (Some cause) row n f = parted _ n.parts n.queues f
  add_unless-kept None row n f = parted _ _ n.queues f

  pub add_title-kept : (row : TitleEntry) (lacking : Bool) (n : Node P) → IsFit n.queues → Keeps h IsFit (add_title row lacking (keep h n)) (add_title row lacking n)
  add_title-kept row lacking n f = add_unless-kept (title_refusal n.parts.titles.rows row lacking) row n f

  pub set_title-kept : (row : TitleEntry) (lacking : Bool) (n : Node P) → IsFit n.queues → Keeps h IsFit (set_title row lacking (keep h n)) (set_title row lacking n)
  set_title-kept row lacking n f = add_unless-kept (title_set_refusal n.parts.titles.rows row lacking) row n f

  pub remove_title-kept : (key : TitleKey) (digits : List ℕ) (n : Node P) → IsFit n.queues → Keeps h IsFit (remove_title key digits (keep h n)) (remove_title key digits n)
  remove_title-kept key digits n f =
      let left : Node P = with_parts n (with_rows (without_row (place_of key digits) n.parts.titles.rows) n.parts) in
      either (has_row n.parts.titles.rows (place_of key digits)) _ _ (answer Handled left) (refuse causes.NoSuchName n) (parted _ left.parts n.queues f) (parted _ n.parts n.queues f)
