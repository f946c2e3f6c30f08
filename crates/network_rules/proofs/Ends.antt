-- What one of two nodes that share a set sends elsewhere is no management of one of the two for the other.
use Rattle.exchange_rules.specs.Reroutings.{first_reroutings}
use Rattle.exchange_rules.proofs.Basics.{arith, nat_tests, ◌≡◌, ◌≢◌, ◌&&◌, ◌||◌, ℕ, zero, suc, Bool, true, false, not, List, [], ◌∷◌, Option, Some, None, Result, Ok, Err, refl, ap, sym, subst, ◌∙◌, if◌then◌else◌, slice_get, nat_eq, nat_lt, ◌-◌, list_all, list_any}
use Rattle.exchange_rules.proofs.Definitions.{Message, is_management, opc_of, dpc_of, service_indicator, Configuration, Management, ChangebackDeclaration, MgmtFault, read_management, FrameValue, EmptyFrame, MessageFrame, StatusFrame, LinkStatus, Node, WholeQueues, queue_at, whole, Queue, Sending, frame_taken, next_message, may_send, message_first, status_first, link_at, set_of, apply, after_take, Happening, first_state}
use Rattle.mtp3_codec.specs.declared.management.Management.TheVariants as kinds
use Rattle.exchange_rules.specs.Sending.{frame_from}
use Rattle.exchange_rules.specs.LastingMessages.{AreOnward, is_onward}
use Rattle.exchange_rules.specs.State.{Happens, Takes}
use Rattle.exchange_rules.proofs.Settling.{left-true, right-true}
use Rattle.exchange_rules.proofs.Asked.{event-all}
use Rattle.exchange_rules.proofs.SteppingEvents.{take-steps}
use Rattle.exchange_rules.proofs.LastingMessages.{first-onward, messages-stay}
use Rattle.link.specs.Queue.{forward_number, numbered}
use Rattle.m2pa_codec.specs.Frames as m2pa
use Rattle.pair_moves.specs.Sayings.{Other, is_other}
use Rattle.pair_rules.proofs.Good.{Each, each-get}
use Rattle.neighbour_rules.specs.Neighbours.{is_management_between, leads_elsewhere_by}
use Rattle.neighbour_rules.proofs.World.{is_between, read_says, says_by, says_of}
use Rattle.neighbour_rules.proofs.Good.{Joint, set}
use Rattle.neighbour_rules.proofs.FarEnds.{leads-away}
use Rattle.network_rules.proofs.Signals.{IsLone, is_declaration, is_signal, lone-all, lone-first}
use Rattle.network_rules.proofs.Texts.{IsHarmless, message-harmless, status-harmless}

-- ---- what stands where

pub all-get : {A : Type 0} (p : A → Bool) (xs : List A) (i : ℕ) (x : A) → list_all p xs ≡ true → slice_get xs i ≡ Some x → p x ≡ true
all-get p [] i x h e = absurd cc
all-get p (y ∷ xs) zero x h e = subst (λ z. p z ≡ true) (let same : y ≡ x = cc in same) (left-true (p y) (list_all p xs) h)
all-get p (y ∷ xs) (suc i) x h e = all-get p xs i x (right-true (p y) (list_all p xs) h) e

or-left : (a b : Bool) → (a || b) ≡ false → a ≡ false
or-left true b e = e
or-left false b e = refl

or-right : (a b : Bool) → (a || b) ≡ false → b ≡ false
or-right true b e = absurd cc
or-right false b e = e

none-get : {A : Type 0} (p : A → Bool) (xs : List A) (i : ℕ) (x : A) → list_any p xs ≡ false → slice_get xs i ≡ Some x → p x ≡ false
none-get p [] i x h e = absurd cc
none-get p (y ∷ xs) zero x h e = subst (λ z. p z ≡ false) (let same : y ≡ x = cc in same) (or-left (p y) (list_any p xs) h)
none-get p (y ∷ xs) (suc i) x h e = none-get p xs i x (or-right (p y) (list_any p xs) h) e

-- ---- a frame that goes out carries a message of its link's queue

module _ (fine : Message → Bool) where
  same-frame : (one other : FrameValue) → Some one ≡ Some other → one ≡ other
  same-frame one other e = cc

  from-out : (status : Option LinkStatus) (next : Option Sending) (owed : Bool) (bsn fsn : ℕ) (frame : FrameValue) → ((s : Sending) → next ≡ Some s → fine s.message ≡ true)
      → frame_from bsn fsn (status_first status (message_first next owed)) ≡ Some frame → IsHarmless fine (m2pa.spelled frame)
  from-out (Some status) next owed bsn fsn frame h e = subst (λ v. IsHarmless fine (m2pa.spelled v)) (same-frame (StatusFrame bsn fsn status) frame e) (status-harmless fine (StatusFrame bsn fsn status) refl)
  from-out None (Some s) owed bsn fsn frame h e =
      subst (λ v. IsHarmless fine (m2pa.spelled v)) (same-frame (MessageFrame bsn s.number s.message.sio s.message.sif) frame e)
      (message-harmless fine bsn s.number s.message.sio s.message.sif (h s refl))
  from-out None None true bsn fsn frame h e = subst (λ v. IsHarmless fine (m2pa.spelled v)) (same-frame (EmptyFrame bsn fsn) frame e) (status-harmless fine (EmptyFrame bsn fsn) refl)
  from-out None None false bsn fsn frame h e = absurd cc

  numbered-fine : (o : Option Message) (number : ℕ) (s : Sending) → ((m : Message) → o ≡ Some m → fine m ≡ true) → numbered number o ≡ Some s → fine s.message ≡ true
  numbered-fine (Some m) number s h e = subst (λ (x : Sending). fine x.message ≡ true) (let same : record { number = number; message = m } ≡ s = cc in same) (h m refl)
  numbered-fine None number s h e = absurd cc

  sending-fine : (may room : Bool) (o : Option Message) (number : ℕ) (s : Sending) → ((m : Message) → o ≡ Some m → fine m ≡ true)
      → (if may then (if room then numbered number o else None) else None) ≡ Some s → fine s.message ≡ true
  sending-fine true true o number s h e = numbered-fine o number s h e
  sending-fine true false o number s h e = absurd cc
  sending-fine false room o number s h e = absurd cc

  pub taken-harmless : (c : Configuration) (n : Node WholeQueues) (link : ℕ) (frame : FrameValue)
      → ((i : ℕ) (m : Message) → slice_get (queue_at n.queues link).all i ≡ Some m → fine m ≡ true) → frame_taken whole c link n ≡ Some frame → IsHarmless fine (m2pa.spelled frame)
  taken-harmless c n link frame h e =
      let q : Queue = queue_at n.queues link in
      from-out (slice_get (link_at n.parts link).waiting 0) (next_message whole c link n) (link_at n.parts link).acknowledgement_owed
      (whole.last_accepted n.queues link) (whole.last_sent n.queues link) frame
      (λ s g. sending-fine (may_send (link_at n.parts link)) (nat_lt (q.sent - q.confirmed) c.window) (slice_get q.all q.sent) (forward_number q q.sent) s (h q.sent) g) e

-- ---- one of two nodes

-- neither is management of one for the other
abbrev pub is_fine : (one two : ℕ) → Message → Bool
is_fine one two m = not (is_management_between one two m) && not (is_management_between two one m)

pub fine-both : (one two : ℕ) (m : Message) → is_management_between one two m ≡ false → is_management_between two one m ≡ false → is_fine one two m ≡ true
fine-both one two m e g = rw (e, g) refl

module _ (c z : Configuration) (j : Joint c z) where
  pub record EndOk (n : Node WholeQueues) : Type 0 where
    pub lone : IsLone c j.shares.near_set z.own j.adjacent j.shares.near_leads j.adjacent_place n
    pub onward : AreOnward c n.queues

  pub first-ok : EndOk (first_state c).node
  first-ok = record { lone = lone-first c j.shares.near_set z.own j.adjacent j.shares.near_leads j.adjacent_place; onward = first-onward c }

  pub event-ok : (what : Happening) (n : Node WholeQueues) → EndOk n → EndOk (apply whole c what n).left
  event-ok what n h = record {
    lone = (event-all (lone-all c j.shares.near_set z.own j.adjacent j.shares.near_leads j.adjacent_place) what n).stay h.lone;
    onward = messages-stay (Happens what ∷ []) (record { settings = c; node = n; reroutings = first_reroutings c }) j.near_well h.onward;
  }

  pub take-ok : (link : ℕ) (n : Node WholeQueues) → EndOk n → EndOk (after_take whole c link n)
  take-ok link n h = record {
    lone = (take-steps (lone-all c j.shares.near_set z.own j.adjacent j.shares.near_leads j.adjacent_place).rules link n tt).stay h.lone;
    onward = messages-stay (Takes link ∷ []) (record { settings = c; node = n; reroutings = first_reroutings c }) j.near_well h.onward;
  }

  -- a message that stands on a link that leads elsewhere
  abbrev SaysOther : Message → Type 0
  SaysOther m = says_of c.own z.own j.base.there m ≡ Other

  declares-word : (r : Result Management MgmtFault) → is_declaration r ≡ true → is_other (read_says r) ≡ false
  declares-word (Ok (kinds.ChangebackDeclaration slc code)) e = refl
  declares-word (Ok (kinds.ExtendedChangeoverOrder slc number)) e = absurd cc
  declares-word (Ok (kinds.ExtendedChangeoverAcknowledgement slc number)) e = absurd cc
  declares-word (Ok (kinds.ChangebackAcknowledgement slc code)) e = absurd cc
  declares-word (Ok (kinds.EmergencyChangeoverOrder slc)) e = absurd cc
  declares-word (Ok (kinds.EmergencyChangeoverAcknowledgement slc)) e = absurd cc
  declares-word (Ok (kinds.TransferProhibited point)) e = absurd cc
  declares-word (Ok (kinds.TransferRestricted point)) e = absurd cc
  declares-word (Ok (kinds.TransferAllowed point)) e = absurd cc
  declares-word (Ok (kinds.RouteSetTestProhibited point)) e = absurd cc
  declares-word (Ok (kinds.RouteSetTestRestricted point)) e = absurd cc
  declares-word (Ok kinds.TrafficRestartAllowed) e = absurd cc
  declares-word (Ok (kinds.UserPartUnavailable point user_part cause)) e = absurd cc
  declares-word (Err fault) e = absurd cc

  managed : (indicator : ℕ) (b : Bool) → (nat_eq indicator 0 && b) ≡ true → nat_lt indicator 2 ≡ true
  managed indicator b e = let none : nat_eq indicator 0 ≡ true = left-true (nat_eq indicator 0) b e in grind (arith, nat_tests, none)

  none-there : (m : Message) → is_signal c z.own m ≡ false → SaysOther m → is_management_between c.own z.own m ≡ false
  none-there m e other = by (is_management_between c.own z.own m) (is_declaration (read_management m.sif)) refl refl e
    where
      by : (b d : Bool) → is_management_between c.own z.own m ≡ b → is_declaration (read_management m.sif) ≡ d → (b && not d) ≡ false → b ≡ false
      by false d f g h = refl
      by true false f g h = absurd cc
      by true true f g h =
          let kind : is_management m ≡ true = managed (service_indicator m) (nat_eq (opc_of m) c.own && nat_eq (dpc_of m) z.own) f in
          let said : says_of c.own z.own j.base.there m ≡ read_says (read_management m.sif) =
          ap (λ (k : Bool). says_by k (is_between c.own z.own m) (nat_eq (dpc_of m) j.base.there) m) kind
          ∙ ap (λ (k : Bool). says_by true (k || is_management_between z.own c.own m) (nat_eq (dpc_of m) j.base.there) m) f in
          let no : true ≡ false = sym (ap is_other other) ∙ ap is_other said ∙ declares-word (read_management m.sif) g in
          absurd cc

  none-back : (m : Message) → is_onward c m ≡ true → is_management_between z.own c.own m ≡ false
  none-back m e = by (nat_eq (service_indicator m) 0) (nat_eq (opc_of m) z.own) (nat_eq (dpc_of m) c.own) e
    where
      by : (a b d : Bool) → not d ≡ true → (a && (b && d)) ≡ false
      by a b true h = absurd cc
      by true true false h = refl
      by true false false h = refl
      by false b false h = refl

  pub end-fine : (n : Node WholeQueues) (link : ℕ) → EndOk n → leads_elsewhere_by c z (slice_get c.links link) ≡ true
      → ((link : ℕ) → set_of c link ≢ set c z j → Each SaysOther (queue_at n.queues link).all)
      → (i : ℕ) (m : Message) → slice_get (queue_at n.queues link).all i ≡ Some m → is_fine c.own z.own m ≡ true
  end-fine n link h e others i m g =
      let apart : set_of c link ≢ set c z j = (leads-away c z j link e).apart in
      fine-both c.own z.own m
      (none-there m (none-get (is_signal c z.own) (queue_at n.queues link).all i m (h.lone.queues link apart) g) (each-get SaysOther (queue_at n.queues link).all i m (others link apart) g))
      (none-back m (all-get (is_onward c) (queue_at n.queues link).all i m (h.onward.links link) g))
