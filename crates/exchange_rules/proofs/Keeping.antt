-- Frames, whole events and what goes out: what is kept of the node that a rule leaves is what the rule leaves of what
-- was kept, and it stays sound. Over any two kinds of queues P and Q of which h keeps one as the other.
use Rattle.exchange_rules.proofs.Basics.{◌≡◌, ℕ, Bool, true, false, List, [], ◌∷◌, Option, Some, None, Result, Ok, Err, refl, ap, ◌∙◌, if◌then◌else◌}
use Rattle.exchange_rules.proofs.Definitions.{Message, flow_of, Configuration, Ignored, FrameFault, FrameValue, EmptyFrame, MessageFrame, StatusFrame, read_frame, Action, UserData, acts_on, SeqFault, Parts, Node, Done, QueueKind, keep, answer, refuse, is_link, link_at, down, waits, link_of, tell_owed, whither_goes, go_on, go_by, go, go_each, release, advance, Carrying, carries, owing, timed_parts, numbers, accept, carry, handle_by, handle, act_by_data, receive_data, receive_frame, leave_aside, read, receive, Outgoing, SendsStatus, SendsMessage, Acknowledges, SendsNothing, carried, goes_out, after_sending, frame_taken, after_take, Happening, CameUp, WentDown, FrameCame, Ticked, Submitted, Activated, Deactivated, TitleAdded, TitleSet, TitleRemoved, handle_event, settled, apply, Released, late_by, ordered_late, tick}
use Rattle.signalling_types.specs.declared.cause.Cause.TheVariants as causes
use Rattle.signalling_types.specs.declared.notice.FrameFault.TheVariants as faults
use Rattle.link.specs.declared.action.Action.TheVariants as act
use Rattle.exchange_rules.proofs.Combining.{IsKept, IsKeeping, KeepsNode, Keeps, changed, answered, parted, either, behind_node, behind}
use Rattle.exchange_rules.proofs.KeepingMessages.{tell_owed-kept}
use Rattle.exchange_rules.proofs.KeepingLinkTests.{advance-kept}
use Rattle.exchange_rules.proofs.KeepingChangeover.{fail-kept, late_by-kept}
use Rattle.exchange_rules.proofs.KeepingLocal.{deliver-kept, submit_to-kept}
use Rattle.exchange_rules.proofs.KeepingRelaying.{add_title-kept, set_title-kept, remove_title-kept}
use Rattle.exchange_rules.proofs.KeepingLinks.{association_up-kept, association_down-kept, activate-kept, deactivate-kept, on_link_status-kept, tick-kept, release_bar-kept}

module _ {P Q : Type 0} (p : QueueKind P) (q : QueueKind Q) (h : P → Q) (IsFit : P → Type 0) (c : Configuration) (k : IsKeeping p q h IsFit c.window) where
  -- the end of an event after a rule
  behind_done : (s : Done P) (t : Done Q) → t ≡ record { outcome = s.outcome; left = keep h s.left }
      → KeepsNode h IsFit (tell_owed q c (release q c (keep h s.left))) (tell_owed p c (release p c s.left)) → Keeps h IsFit (settled q c t) (settled p c s)
  behind_done s t e r = record {
    same = ap (λ (d : Done Q). settled q c d) e ∙ ap (λ (n : Node Q). record { outcome = s.outcome; left = n }) r.same;
    fit = r.fit;
  }

  -- ---- frames

  numbers-kept : (l : ℕ) (d : Carrying) (n : Node P) → IsFit n.queues → numbers q c l d (keep h n) ≡ numbers p c l d n
  numbers-kept l d n f = k.accept_answer n.queues l d.fsn d.bsn (carries d) f

  -- queues change, and parts by how many messages are outstanding then
  recounted : (g : ℕ → Parts) (l : ℕ) (y : Q) (x : P) → IsKept h IsFit y x
      → KeepsNode h IsFit (record { queues = y; parts = g (q.outstanding y l) }) (record { queues = x; parts = g (p.outstanding x l) })
  recounted g l y x e = record {
    same = ap (λ (z : Q). record { queues = z; parts = g (q.outstanding z l) }) e.same
        ∙ ap (λ (o : ℕ). record { queues = h x; parts = g o }) (k.outstanding x l);
    fit = e.fit;
  }

  accept-kept : (l : ℕ) (d : Carrying) (confirmed : ℕ) (n : Node P) → IsFit n.queues → KeepsNode h IsFit (accept q c l d confirmed (keep h n)) (accept p c l d confirmed n)
  accept-kept l d confirmed n f =
      recounted (λ (o : ℕ). owing l d.message (timed_parts c l confirmed o n.parts)) l _ _ (k.accepted n.queues l d.fsn d.bsn (carries d) f)

  carry-kept : (l : ℕ) (m : Option Message) (n : Node P) → IsFit n.queues → Keeps h IsFit (carry q c l m (keep h n)) (carry p c l m n)
  carry-kept l None n f = parted _ n.parts n.queues f
  carry-kept l (Some m) n f = deliver-kept p q h IsFit c k l m n f

  handle_by-kept : (r : Result ℕ SeqFault) (l : ℕ) (d : Carrying) (n : Node P) → IsFit n.queues → Keeps h IsFit (handle_by q c r l d (keep h n)) (handle_by p c r l d n)
  handle_by-kept (Ok confirmed) l d n f =
      let e : KeepsNode h IsFit (accept q c l d confirmed (keep h n)) (accept p c l d confirmed n) = accept-kept l d confirmed n f in
      behind (λ (z : Node Q). carry q c l d.message z) (carry p c l d.message (accept p c l d confirmed n)) _ (accept p c l d confirmed n) e.same
      (carry-kept l d.message (accept p c l d confirmed n) e.fit)
  handle_by-kept (Err fault) l d n f = answered _ _ _ (fail-kept p q h IsFit c k l _ n f)

  handle-kept : (l : ℕ) (d : Carrying) (n : Node P) → IsFit n.queues → Keeps h IsFit (handle q c l d (keep h n)) (handle p c l d n)
  handle-kept l d n f = rw (numbers-kept l d n f) (handle_by-kept (numbers p c l d n) l d n f)

  act_by_data-kept : (a : Action) (l : ℕ) (d : Carrying) (n : Node P) → IsFit n.queues → Keeps h IsFit (act_by_data q c a l d (keep h n)) (act_by_data p c a l d n)
  act_by_data-kept act.Ignored l d n f = parted _ n.parts n.queues f
  act_by_data-kept act.Fail l d n f = answered _ _ _ (fail-kept p q h IsFit c k l _ n f)
  act_by_data-kept (act.Go step) l d n f =
      let next : Node P = advance p c l step n in
      let e : KeepsNode h IsFit (advance q c l step (keep h n)) next = advance-kept p q h IsFit c k l step n f in
      behind (λ (z : Node Q). handle q c l d z) (handle p c l d next) _ next e.same (handle-kept l d next e.fit)

  receive_data-kept : (l : ℕ) (d : Carrying) (n : Node P) → IsFit n.queues → Keeps h IsFit (receive_data q c l d (keep h n)) (receive_data p c l d n)
  receive_data-kept l d n f = act_by_data-kept (acts_on (link_at n.parts l) UserData) l d n f

  receive_frame-kept : (l : ℕ) (frame : FrameValue) (n : Node P) → IsFit n.queues → Keeps h IsFit (receive_frame q c l frame (keep h n)) (receive_frame p c l frame n)
  receive_frame-kept l (EmptyFrame b f) n fit = receive_data-kept l _ n fit
  receive_frame-kept l (MessageFrame b f sio sif) n fit = receive_data-kept l _ n fit
  receive_frame-kept l (StatusFrame b f status) n fit = on_link_status-kept p q h IsFit c k l status n fit

  leave_aside-kept : (l : ℕ) (fault : FrameFault) (n : Node P) → IsFit n.queues → Keeps h IsFit (leave_aside q c l fault (keep h n)) (leave_aside p c l fault n)
  leave_aside-kept l faults.Length n f = answered _ _ _ (fail-kept p q h IsFit c k l _ n f)
  leave_aside-kept l faults.Short n f = parted _ _ n.queues f
  leave_aside-kept l faults.Version n f = parted _ _ n.queues f
  leave_aside-kept l faults.Unknown n f = parted _ _ n.queues f

  read-kept : (l : ℕ) (r : Result FrameValue FrameFault) (n : Node P) → IsFit n.queues → Keeps h IsFit (read q c l r (keep h n)) (read p c l r n)
  read-kept l (Ok frame) n f = receive_frame-kept l frame n f
  read-kept l (Err fault) n f = leave_aside-kept l fault n f

  receive-kept : (l : ℕ) (text : List ℕ) (n : Node P) → IsFit n.queues → Keeps h IsFit (receive q c l text (keep h n)) (receive p c l text n)
  receive-kept l text n f =
      either (is_link n.parts l) _ _ (if down n.parts l then answer Ignored n else read p c l (read_frame text) n) (refuse causes.NoSuchName n)
      (either (down n.parts l) _ _ (answer Ignored n) (read p c l (read_frame text) n) (parted _ n.parts n.queues f) (read-kept l (read_frame text) n f))
      (parted _ n.parts n.queues f)

  -- and orders that go out late
  late-kept : (s : Done P) (t : Done Q) → Keeps h IsFit t s → Keeps h IsFit (ordered_late q c t) (ordered_late p c s)
  late-kept s t e =
      let r : KeepsNode h IsFit (late_by q c s.outcome (keep h s.left)) (late_by p c s.outcome s.left) = late_by-kept p q h IsFit c k s.outcome s.left e.fit in
      record {
        same = ap (λ (d : Done Q). ordered_late q c d) e.same ∙ ap (λ (n : Node Q). record { outcome = s.outcome; left = n }) r.same;
        fit = r.fit;
      }

  -- ---- all events, and what goes out

  handle_event-kept : (what : Happening) (n : Node P) → IsFit n.queues → Keeps h IsFit (handle_event q c what (keep h n)) (handle_event p c what n)
  handle_event-kept (CameUp link) n f = association_up-kept p q h IsFit c k link n f
  handle_event-kept (WentDown link) n f = association_down-kept p q h IsFit c k link n f
  handle_event-kept (FrameCame link text) n f = late-kept (receive p c link text n) (receive q c link text (keep h n)) (receive-kept link text n f)
  handle_event-kept Ticked n f = late-kept (tick p c n) (tick q c (keep h n)) (tick-kept p q h IsFit c k n f)
  handle_event-kept (Submitted message) n f = submit_to-kept p q h IsFit c k (whither_goes c message) message n f
  handle_event-kept (Activated link emergency) n f = activate-kept p q h IsFit c k emergency link n f
  handle_event-kept (Deactivated link) n f = deactivate-kept p q h IsFit c k link n f
  handle_event-kept (Released link) n f = release_bar-kept p q h IsFit c k link n f
  handle_event-kept (TitleAdded row lacking) n f = add_title-kept row lacking n f
  handle_event-kept (TitleSet row lacking) n f = set_title-kept row lacking n f
  handle_event-kept (TitleRemoved key digits) n f = remove_title-kept key digits n f

  -- ---- release

  go_on-kept : (link : Option ℕ) (m : Message) (n : Node P) → IsFit n.queues → KeepsNode h IsFit (go_on q c link m (keep h n)) (go_on p c link m n)
  go_on-kept (Some l) m n f = changed _ _ n.parts (k.appended n.queues l m f)
  go_on-kept None m n f = record { same = refl; fit = f }

  go_by-kept : (b : Bool) (m : Message) (n : Node P) → IsFit n.queues → KeepsNode h IsFit (go_by q c b m (keep h n)) (go_by p c b m n)
  go_by-kept true m n f = changed _ _ n.parts (k.holding n.queues m f)
  go_by-kept false m n f = go_on-kept (link_of c n.parts (flow_of m)) m n f

  go_each-kept : (ms : List Message) (n : Node P) → IsFit n.queues → KeepsNode h IsFit (go_each q c ms (keep h n)) (go_each p c ms n)
  go_each-kept [] n f = record { same = refl; fit = f }
  go_each-kept (m ∷ ms) n f =
      let e : KeepsNode h IsFit (go q c m (keep h n)) (go p c m n) = go_by-kept (waits c n.parts.holds m) m n f in
      behind_node (λ (z : Node Q). go_each q c ms z) (go_each p c ms (go p c m n)) _ (go p c m n) e.same (go_each-kept ms (go p c m n) e.fit)

  release-kept : (n : Node P) → IsFit n.queues → KeepsNode h IsFit (release q c (keep h n)) (release p c n)
  release-kept n f =
      let m : Node P = record n { queues = p.without_held n.queues } in
      let e : KeepsNode h IsFit (record { queues = q.without_held (h n.queues); parts = n.parts }) m = changed _ _ n.parts (k.without_held n.queues f) in
      let s : KeepsNode h IsFit (go_each q c (p.held n.queues) (record { queues = q.without_held (h n.queues); parts = n.parts })) (go_each p c (p.held n.queues) m) =
      behind_node (λ (z : Node Q). go_each q c (p.held n.queues) z) (go_each p c (p.held n.queues) m) _ m e.same (go_each-kept (p.held n.queues) m e.fit) in
      record { same = ap (λ (ms : List Message). go_each q c ms (record { queues = q.without_held (h n.queues); parts = n.parts })) (k.held n.queues) ∙ s.same; fit = s.fit }

  pub apply-kept : (what : Happening) (n : Node P) → IsFit n.queues → Keeps h IsFit (apply q c what (keep h n)) (apply p c what n)
  unfolding apply
  apply-kept what n f =
      let d : Keeps h IsFit (handle_event q c what (keep h n)) (handle_event p c what n) = handle_event-kept what n f in
      let one : Node P = release p c (handle_event p c what n).left in
      let e : KeepsNode h IsFit (release q c (keep h (handle_event p c what n).left)) one = release-kept (handle_event p c what n).left d.fit in
      behind_done (handle_event p c what n) _ d.same (behind_node (λ (z : Node Q). tell_owed q c z) (tell_owed p c one) _ one e.same (tell_owed-kept p q h IsFit c k one e.fit))

  goes_out-kept : (l : ℕ) (n : Node P) → IsFit n.queues → goes_out q c l (keep h n) ≡ goes_out p c l n
  goes_out-kept l n f = rw (k.to_send n.queues l f)

  pub frame_taken-kept : (l : ℕ) (n : Node P) → IsFit n.queues → frame_taken q c l (keep h n) ≡ frame_taken p c l n
  frame_taken-kept l n f = rw (k.to_send n.queues l f, k.last_accepted n.queues l, k.last_sent n.queues l f)

  after_sending-kept : (l : ℕ) (out : Outgoing) (n : Node P) → IsFit n.queues → KeepsNode h IsFit (after_sending q c l (keep h n) out) (after_sending p c l n out)
  after_sending-kept l (SendsStatus status) n f = record { same = refl; fit = f }
  after_sending-kept l (SendsMessage next) n f =
      changed _ _ (carried c l n.parts) (k.sent_one n.queues l f)
  after_sending-kept l Acknowledges n f = record { same = refl; fit = f }
  after_sending-kept l SendsNothing n f = record { same = refl; fit = f }

  pub after_take-kept : (l : ℕ) (n : Node P) → IsFit n.queues → KeepsNode h IsFit (after_take q c l (keep h n)) (after_take p c l n)
  after_take-kept l n f = rw (goes_out-kept l n f) (after_sending-kept l (goes_out p c l n) n f)
