-- A link is proved before it enters service, whatever happens.
use Rattle.exchange_rules.proofs.Basics.{◌≡◌, ◌≢◌, ◌<◌, ◌⊎◌, inl, inr, ℕ, Bool, true, false, List, Result, Ok, Err, refl, ap, sym, subst, ◌∙◌, arith, nat_tests, ⊎_elim, cases_eq, is_some, length, nat_lt, get_or-set_same, if◌then◌else◌}
use Rattle.exchange_rules.proofs.Definitions.{period_of, Configuration, Alignment, UserData, acts_on, LinkStatus, FrameFault, FrameValue, EmptyFrame, MessageFrame, StatusFrame, read_frame, Link, down_link, opened_by, Node, answer, refuse, Ignored, Handled, is_link, link_at, down, changeover_of, may_restart, may_open, open_link, is_due, ticked, due_count, empty_data, message_data, data_of, act_by_data, leave_aside, read, with_timers, tick, Happening, CameUp, WentDown, FrameCame, Ticked, Submitted, Activated, Deactivated, TitleAdded, TitleSet, TitleRemoved, apply, release, tell_owed, WholeQueues, whole, tells_outage, tells_recovery, on_link_status, Released, Done, late_by}
use Rattle.signalling_types.specs.declared.cause.Cause.TheVariants as causes
use Rattle.m2pa_codec.specs.Frames.{status_number}
use Rattle.m2pa_codec.specs.declared.status.LinkStatus.TheVariants as says
use Rattle.link.specs.declared.alignment.Alignment.TheVariants.{NotAligned, Aligned, Proving, AlignedReady, InService}
use Rattle.timers.specs.declared.name.TimerName.TheVariants as name
use Rattle.exchange_rules.specs.Aligning.{Says, IsProvedFirst, links_are_proved_first, state_of}
use Rattle.exchange_rules.proofs.LeftAll.{but}
use Rattle.exchange_rules.proofs.SteppingEvents.{IsOf, apply-steps, leave_aside-steps, settled-steps}
use Rattle.exchange_rules.proofs.ProvedFirst.{Climbs, both-climb, no-data, status-numbered}
use Rattle.exchange_rules.proofs.ProvedKeeps.{Keeps, both-keep, keeps-climbs}
use Rattle.exchange_rules.proofs.ProvedAll.{Climbing, Hearing, keeps, times-climb, keeps-hears, told-hears, data-hears}
use Rattle.exchange_rules.proofs.SteppingLate.{late_by-steps}

-- a frame that was read as a link status says that
pub says-of : (l : ℕ) (text : List ℕ) (bsn fsn : ℕ) (status its : LinkStatus) → read_frame text ≡ Ok (StatusFrame bsn fsn status) → status_number status ≡ status_number its
    → Says l its (FrameCame l text)
says-of l text bsn fsn status its e same =
    subst (λ (x : LinkStatus). Says l x (FrameCame l text)) (status-numbered status its same) (record { text = text; bsn = bsn; fsn = fsn; came = refl; reads = e })

pub there-is : (a b : ℕ) → nat_lt a b ≡ true → a < b
there-is a b e = grind (arith, nat_tests, e)

module _ (c : Configuration) (l : ℕ) (n : Node WholeQueues) where
  -- what lets it not go on
  kept-first : (what : Happening) (m : Node WholeQueues) → Keeps l n m → IsProvedFirst what l n.parts (state_of m.parts l)
  kept-first what m k =
      let h : Climbs ⊥ (state_of n.parts l) (state_of m.parts l) = keeps-climbs ⊥ l n m k in
      record {
        begins = λ f no. absurd (no (h.begins f));
        aligns = λ f no. absurd (no (h.aligned f));
        proves = λ f no. absurd (no (h.proving false f));
        remembers = λ f no. absurd (no (h.proving true f));
        ends = λ f no. ⊎_elim (λ i. absurd (no i)) (λ i. absurd i.0) (h.ready f);
        enters = λ f no. ⊎_elim (λ i. absurd (no i)) (λ i. absurd i.0) (h.serves f);
      }

  settled : Node WholeQueues → Node WholeQueues
  settled m = tell_owed whole c (release whole c m)

  -- so after a frame or a tick, where orders may go out late
  ended : Done WholeQueues → Node WholeQueues
  ended d = tell_owed whole c (release whole c (late_by whole c d.outcome d.left))

  ended-keeps : (d : Done WholeQueues) → Keeps l d.left (ended d)
  unfolding ended
  ended-keeps d = both-keep l d.left (late_by whole c d.outcome d.left) (ended d) (late_by-steps (keeps c l) d.outcome d.left) (settled-steps (keeps c l) (late_by whole c d.outcome d.left))

  -- ---- a frame of the link

  module _ (text : List ℕ) where
    abbrev First : Node WholeQueues → Type 0
    First m = IsProvedFirst (FrameCame l text) l n.parts (state_of m.parts l)

    status-first : (bsn fsn : ℕ) (status : LinkStatus) → read_frame text ≡ Ok (StatusFrame bsn fsn status) → (m : Node WholeQueues) → Hearing c l (status_number status) n m → First m
    status-first bsn fsn status e m h =
        let said : (its : LinkStatus) → status_number status ≡ status_number its → Says l its (FrameCame l text) = λ its same. says-of l text bsn fsn status its e same in
        record {
          begins = λ f no. absurd (no (h.begins f));
          aligns = λ f no. ⊎_elim (λ k. absurd (no k)) (λ k. (said says.Alignment k.0, k.1)) (h.aligns f);
          proves = λ f no.
              ⊎_elim (λ k. absurd (no k))
              (λ k. (⊎_elim (λ (i : status_number status ≡ 2). inl (said says.ProvingNormal i)) (λ (i : status_number status ≡ 3). inr (said says.ProvingEmergency i)) k.0, k.1)) (h.proves f);
          remembers = λ f no. ⊎_elim (λ k. absurd (no k)) (λ k. (said says.Ready k.0, k.1)) (h.remembers f);
          ends = λ f no. absurd (no (h.ready f));
          enters = λ f no.
              ⊎_elim (λ k. absurd (no k))
              (λ k. inr (⊎_elim (λ (i : status_number status ≡ 4). inl (said says.Ready i)) (λ (i : status_number status ≡ 0). absurd (no-data status i)) k.0, k.1)) (h.serves f);
        }

    data-first : (frame : FrameValue) → read_frame text ≡ Ok frame → is_some (data_of frame) ≡ true → (m : Node WholeQueues) → Hearing c l 0 n m → First m
    data-first frame e carries m h = record {
      begins = λ f no. absurd (no (h.begins f));
      aligns = λ f no. ⊎_elim (λ k. absurd (no k)) (λ k. absurd (let none : 0 ≡ 1 = k.0 in cc)) (h.aligns f);
      proves = λ f no.
          ⊎_elim (λ k. absurd (no k)) (λ k. absurd (⊎_elim (λ (i : 0 ≡ 2). (let none : 0 ≡ 2 = i in cc)) (λ (i : 0 ≡ 3). (let none : 0 ≡ 3 = i in cc)) k.0)) (h.proves f);
      remembers = λ f no. ⊎_elim (λ k. absurd (no k)) (λ k. absurd (let none : 0 ≡ 4 = k.0 in cc)) (h.remembers f);
      ends = λ f no. absurd (no (h.ready f));
      enters = λ f no. ⊎_elim (λ k. absurd (no k)) (λ k. inr (inr (record { text = text; frame = frame; came = refl; reads = e; carries = carries }), k.1)) (h.serves f);
    }

    read-first : (r : Result FrameValue FrameFault) → read_frame text ≡ r → down n.parts l ≡ false → First (ended (read whole c l r n))
    read-first (Ok (EmptyFrame bsn fsn)) e up =
        let d : Done WholeQueues = act_by_data whole c (acts_on (link_at n.parts l) UserData) l (empty_data bsn fsn) n in
        data-first (EmptyFrame bsn fsn) e refl (ended d)
        (keeps-hears c l 0 n d.left (ended d) (data-hears c l (acts_on (link_at n.parts l) UserData) (empty_data bsn fsn) n refl) (ended-keeps d))
    read-first (Ok (MessageFrame bsn fsn sio sif)) e up =
        let d : Done WholeQueues = act_by_data whole c (acts_on (link_at n.parts l) UserData) l (message_data bsn fsn sio sif) n in
        data-first (MessageFrame bsn fsn sio sif) e refl (ended d)
        (keeps-hears c l 0 n d.left (ended d) (data-hears c l (acts_on (link_at n.parts l) UserData) (message_data bsn fsn sio sif) n refl) (ended-keeps d))
    read-first (Ok (StatusFrame bsn fsn status)) e up =
        let d : Done WholeQueues = on_link_status whole c l status n in
        status-first bsn fsn status e (ended d)
        (keeps-hears c l (status_number status) n d.left (ended d) (told-hears c l (tells_outage c l status n.parts) (tells_recovery l status n.parts) status n) (ended-keeps d))
    read-first (Err fault) e up =
        let d : Done WholeQueues = leave_aside whole c l fault n in
        kept-first (FrameCame l text) (ended d) (both-keep l n d.left (ended d) (leave_aside-steps (keeps c l) l fault n up) (ended-keeps d))

    receive-first : (is_there is_down : Bool) (r : Result FrameValue FrameFault) → read_frame text ≡ r → down n.parts l ≡ is_down
        → First (ended (if is_there then (if is_down then answer Ignored n else read whole c l r n) else refuse causes.NoSuchName n))
    receive-first false is_down r e f = kept-first (FrameCame l text) (ended (refuse causes.NoSuchName n)) (ended-keeps (refuse causes.NoSuchName n))
    receive-first true true r e f = kept-first (FrameCame l text) (ended (answer Ignored n)) (ended-keeps (answer Ignored n))
    receive-first true false r e f = read-first r e f

    frame-first : First (apply whole c (FrameCame l text) n).left
    unfolding apply ended
    frame-first = receive-first (is_link n.parts l) (down n.parts l) (read_frame text) refl refl

  -- ---- other events

  tick-first : IsProvedFirst Ticked l n.parts (state_of (apply whole c Ticked n).left.parts l)
  unfolding apply ended
  tick-first =
      let begun : Node WholeQueues = with_timers n (ticked n.parts.timers) in
      let d : Done WholeQueues = tick whole c n in
      let h : Climbing c l (is_due (ticked n.parts.timers) (name.L4 l) ≡ true) n (ended d) =
      both-climb _ (state_of n.parts l) (state_of d.left.parts l) (state_of (ended d).parts l)
      (times-climb c l (ticked n.parts.timers) (due_count (ticked n.parts.timers)) begun (λ its e. e)) (keeps-climbs _ l d.left (ended d) (ended-keeps d)) in
      record {
        begins = λ f no. absurd (no (h.begins f));
        aligns = λ f no. absurd (no (h.aligned f));
        proves = λ f no. absurd (no (h.proving false f));
        remembers = λ f no. absurd (no (h.proving true f));
        ends = λ f no. ⊎_elim (λ i. absurd (no i)) (λ i. ((refl, i.0), i.1)) (h.ready f);
        enters = λ f no. ⊎_elim (λ i. absurd (no i)) (λ i. inl ((refl, i.0), i.1)) (h.serves f);
      }

  begun-first : (y : Alignment) → Climbs ⊥ NotAligned y → IsProvedFirst (CameUp l) l n.parts y
  begun-first y h = record {
    begins = λ f no. refl;
    aligns = λ f no. absurd (let none : NotAligned ≡ Aligned = h.aligned f in cc);
    proves = λ f no. absurd (let none : NotAligned ≡ Proving false = h.proving false f in cc);
    remembers = λ f no. absurd (let none : NotAligned ≡ Proving true = h.proving true f in cc);
    ends = λ f no. absurd (⊎_elim (λ (i : NotAligned ≡ AlignedReady). (let none : NotAligned ≡ AlignedReady = i in cc)) (λ (i : ⊥ × (NotAligned ≡ Proving false)). i.0) (h.ready f));
    enters = λ f no. absurd (⊎_elim (λ (i : NotAligned ≡ InService). (let none : NotAligned ≡ InService = i in cc)) (λ (i : ⊥ × (NotAligned ≡ Proving true)). i.0) (h.serves f));
  }

  opened-first : (is_there opens restarts : Bool) → is_link n.parts l ≡ is_there
      → IsProvedFirst (CameUp l) l n.parts
      (state_of (settled (if is_there then (if opens then (if restarts then answer Handled (open_link whole c l n) else refuse causes.ChangeoverPending n) else refuse causes.LinkNotReady n)
      else refuse causes.NoSuchName n).left).parts l)
  unfolding settled
  opened-first false opens restarts e = kept-first (CameUp l) (settled n) (settled-steps (keeps c l) n)
  opened-first true false restarts e = kept-first (CameUp l) (settled n) (settled-steps (keeps c l) n)
  opened-first true true false e = kept-first (CameUp l) (settled n) (settled-steps (keeps c l) n)
  opened-first true true true e =
      let up : Node WholeQueues = open_link whole c l n in
      let is : state_of up.parts l ≡ NotAligned = ap (λ (x : Link). x.alignment) (get_or-set_same n.parts.links l (opened_by c (period_of c l n.parts) (link_at n.parts l)) down_link (there-is l (length n.parts.links) e)) in
      begun-first (state_of (settled up).parts l)
      (subst (λ (x : Alignment). Climbs ⊥ x (state_of (settled up).parts l)) is (keeps-climbs ⊥ l up (settled up) (settled-steps (keeps c l) up)))

  up-first : IsProvedFirst (CameUp l) l n.parts (state_of (apply whole c (CameUp l) n).left.parts l)
  unfolding apply settled
  up-first = opened-first (is_link n.parts l) (may_open (link_at n.parts l)) (may_restart (changeover_of n.parts l)) refl

  other-first : (what : Happening) → ((link : ℕ) → IsOf what link → but l link) → what ≢ Ticked → IsProvedFirst what l n.parts (state_of (apply whole c what n).left.parts l)
  other-first what own unlike = kept-first what (apply whole c what n).left (apply-steps (keeps c l) what n own own (λ is. absurd (unlike is)))

  event-first : (what : Happening) → IsProvedFirst what l n.parts (state_of (apply whole c what n).left.parts l)
  event-first Ticked = tick-first
  event-first (FrameCame link text) = by (cases_eq link l)
    where
      by : (link ≡ l) ⊎ (link ≢ l) → IsProvedFirst (FrameCame link text) l n.parts (state_of (apply whole c (FrameCame link text) n).left.parts l)
      by (inl same) = subst (λ (k : ℕ). IsProvedFirst (FrameCame k text) l n.parts (state_of (apply whole c (FrameCame k text) n).left.parts l)) (sym same) (frame-first text)
      by (inr apart) = other-first (FrameCame link text) (λ k is same. apart (sym is ∙ same)) (λ no. absurd cc)
  event-first (CameUp link) = by (cases_eq link l)
    where
      by : (link ≡ l) ⊎ (link ≢ l) → IsProvedFirst (CameUp link) l n.parts (state_of (apply whole c (CameUp link) n).left.parts l)
      by (inl same) = subst (λ (k : ℕ). IsProvedFirst (CameUp k) l n.parts (state_of (apply whole c (CameUp k) n).left.parts l)) (sym same) up-first
      by (inr apart) = other-first (CameUp link) (λ k is same. apart (sym is ∙ same)) (λ no. absurd cc)
  event-first (WentDown link) = other-first (WentDown link) (λ k is. absurd is) (λ no. absurd cc)
  event-first (Submitted m) = other-first (Submitted m) (λ k is. absurd is) (λ no. absurd cc)
  event-first (Activated link emergency) = other-first (Activated link emergency) (λ k is. absurd is) (λ no. absurd cc)
  event-first (Deactivated link) = other-first (Deactivated link) (λ k is. absurd is) (λ no. absurd cc)
  event-first (Released link) = other-first (Released link) (λ k is. absurd is) (λ no. absurd cc)
  event-first (TitleAdded row refused) = other-first (TitleAdded row refused) (λ k is. absurd is) (λ no. absurd cc)
  event-first (TitleSet row refused) = other-first (TitleSet row refused) (λ k is. absurd is) (λ no. absurd cc)
  event-first (TitleRemoved key digits) = other-first (TitleRemoved key digits) (λ k is. absurd is) (λ no. absurd cc)

pub proved-first : links_are_proved_first
proved-first what a link = event-first a.settings link a.node what
