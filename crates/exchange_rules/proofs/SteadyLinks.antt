-- A link by its state, its changeover, its queue and its L7: what each step does to these leaves it steady.
use Rattle.exchange_rules.proofs.Basics.{and_parts, ◌≡◌, ℕ, ◌-◌, Bool, true, false, ◌&&◌, not, [], nat_lt, refl, ap, sym, ◌∙◌}
use Rattle.exchange_rules.proofs.Definitions.{Period, Message, Alignment, Queue, IsQueue, first_queue, appended, emptied, sound-first, sound-appended, sound-emptied, Link, is_down, is_in_service, opened, after_failure, Standing, may_restart, may_send, IsSteady, with_order, is_unasked}
use Rattle.exchange_rules.proofs.Serving.{down-is}

-- a link is steady, but where its L7 has just run out (then it isn't exact whether that runs): out of service it
-- doesn't run
pub record Stands (exact : Bool) (w : ℕ) (l : Link) (s : Standing) (q : Queue) (b : Bool) : Type 0 where
  pub queue : IsQueue w q
  pub associated : l.association ≡ false → is_down l.alignment ≡ true
  pub changing : s.incomplete ≡ true → is_down l.alignment ≡ true
  pub awaiting : s.awaited ≡ true → is_down l.alignment ≡ true
  pub moved : is_in_service l.alignment ≡ false → s.incomplete ≡ false → q.all ≡ []
  pub idle : is_in_service l.alignment ≡ false → b ≡ false
  pub watched : exact ≡ true → b ≡ (may_send l && nat_lt 0 (q.sent - q.confirmed))

-- ---- tests

-- no link is both
pub down-idle : (a : Alignment) → is_down a ≡ true → is_in_service a ≡ false
down-idle a e = ap is_in_service (down-is a e)

-- a link out of service sends nothing
idle-test : (l : Link) (b : Bool) → is_in_service l.alignment ≡ false → (may_send l && b) ≡ false
idle-test l b e = ap (λ (serves : Bool). serves && not l.peer_busy && b) e

no-way : (b : Bool) → b ≡ false → b ≡ true → ⊥
no-way b e f = (let no : false ≡ true = sym e ∙ f in cc)

-- a link that may open again is complete, and awaits no answer
complete : (s : Standing) → may_restart s ≡ true → s.incomplete ≡ false
complete s r = of_both s.incomplete s.awaited r
  where
    of_both : (incomplete awaited : Bool) → (not incomplete && not awaited) ≡ true → incomplete ≡ false
    of_both false awaited e = refl
    of_both true awaited e = absurd cc

unawaited : (s : Standing) → may_restart s ≡ true → s.awaited ≡ false
unawaited s r = of_both s.incomplete s.awaited r
  where
    of_both : (incomplete awaited : Bool) → (not incomplete && not awaited) ≡ true → awaited ≡ false
    of_both false false e = refl
    of_both false true e = absurd cc
    of_both true awaited e = absurd cc

pub steady-stands : (w : ℕ) (l : Link) (s : Standing) (q : Queue) (b : Bool) → IsSteady w l s q b → Stands true w l s q b
steady-stands w l s q b h = record {
  queue = h.queue;
  associated = h.associated;
  changing = h.changing;
  awaiting = h.awaiting;
  moved = h.moved;
  idle = λ e. h.watched ∙ idle-test l (nat_lt 0 (q.sent - q.confirmed)) e;
  watched = λ e. h.watched;
}

pub stands-steady : (w : ℕ) (l : Link) (s : Standing) (q : Queue) (b : Bool) → Stands true w l s q b → IsSteady w l s q b
stands-steady w l s q b h = record { queue = h.queue; associated = h.associated; changing = h.changing; awaiting = h.awaiting; moved = h.moved; watched = h.watched refl }

-- where a link is out of service, it is exact after all
pub exact-idle : (x y : Bool) (w : ℕ) (l : Link) (s : Standing) (q : Queue) (b : Bool) → is_in_service l.alignment ≡ false → Stands x w l s q b → Stands y w l s q b
exact-idle x y w l s q b e h = record {
  queue = h.queue;
  associated = h.associated;
  changing = h.changing;
  awaiting = h.awaiting;
  moved = h.moved;
  idle = h.idle;
  watched = λ f. h.idle e ∙ sym (idle-test l (nat_lt 0 (q.sent - q.confirmed)) e);
}

-- where its L7 ran out, it isn't
pub run-out : (w : ℕ) (l : Link) (s : Standing) (q : Queue) (b : Bool) → Stands true w l s q b → Stands false w l s q false
run-out w l s q b h = record {
  queue = h.queue;
  associated = h.associated;
  changing = h.changing;
  awaiting = h.awaiting;
  moved = h.moved;
  idle = λ e. refl;
  watched = λ f. absurd cc;
}

module _ (exact : Bool) (w : ℕ) (l : Link) (s : Standing) (q : Queue) (b : Bool) (h : Stands exact w l s q b) where
  -- ---- messages

  pub stands-appended : (m : Message) → is_in_service l.alignment ≡ true → Stands exact w l s (appended q m) b
  stands-appended m e = record {
    queue = sound-appended q m h.queue;
    associated = h.associated;
    changing = h.changing;
    awaiting = h.awaiting;
    moved = λ f g. absurd (no-way (is_in_service l.alignment) f e);
    idle = h.idle;
    watched = h.watched;
  }

  -- ---- a link fails, and its changeover ends

  pub stands-failed : (t : Standing) → t.incomplete ≡ true → Stands exact w (after_failure l) t q false
  stands-failed t i = record {
    queue = h.queue;
    associated = λ e. refl;
    changing = λ e. refl;
    awaiting = λ e. refl;
    moved = λ e f. absurd (no-way t.incomplete f i);
    idle = λ e. refl;
    watched = λ e. refl;
  }

  pub stands-dropped : is_in_service l.alignment ≡ false → Stands exact w (after_failure l) s q false
  stands-dropped e = record {
    queue = h.queue;
    associated = λ f. refl;
    changing = λ f. refl;
    awaiting = λ f. refl;
    moved = λ f g. h.moved e g;
    idle = λ f. refl;
    watched = λ f. refl;
  }

  pub stands-completed : (t : Standing) → s.incomplete ≡ true → t.incomplete ≡ false → Stands exact w l t (emptied q) b
  stands-completed t i f =
      let down : is_in_service l.alignment ≡ false = down-idle l.alignment (h.changing i) in
      record {
        queue = sound-emptied w q h.queue.limit;
        associated = h.associated;
        changing = λ g. absurd (no-way t.incomplete f g);
        awaiting = λ g. h.changing i;
        moved = λ g k. refl;
        idle = h.idle;
        watched = λ g. h.idle down ∙ sym (idle-test l (nat_lt 0 (0 - 0)) down);
      }

  pub stands-answered : (t : Standing) → s.incomplete ≡ false → t.incomplete ≡ false → (t.awaited ≡ true → s.awaited ≡ true) → Stands exact w l t q b
  stands-answered t i f waits = record {
    queue = h.queue;
    associated = h.associated;
    changing = λ g. absurd (no-way t.incomplete f g);
    awaiting = λ g. h.awaiting (waits g);
    moved = λ g k. h.moved g i;
    idle = h.idle;
    watched = h.watched;
  }

  -- an order goes out late: the link is down as long as its changeover isn't complete
  pub stands-asked : is_unasked s ≡ true → Stands exact w l (with_order s) q b
  stands-asked e = record {
    queue = h.queue;
    associated = h.associated;
    changing = λ g. h.changing g;
    awaiting = λ g. h.changing (and_parts s.incomplete (not s.awaited) e).0;
    moved = λ g k. h.moved g k;
    idle = h.idle;
    watched = h.watched;
  }

  -- ---- a link changes

  pub stands-linked : (x : Link) → x.alignment ≡ l.alignment → x.association ≡ l.association → x.peer_busy ≡ l.peer_busy → Stands exact w x s q b
  stands-linked x a c p = record {
    queue = h.queue;
    associated = λ e. ap is_down a ∙ h.associated (sym c ∙ e);
    changing = λ e. ap is_down a ∙ h.changing e;
    awaiting = λ e. ap is_down a ∙ h.awaiting e;
    moved = λ e f. h.moved (sym (ap is_in_service a) ∙ e) f;
    idle = λ e. h.idle (sym (ap is_in_service a) ∙ e);
    watched = λ e. h.watched e ∙ sym (ap (λ (g : Alignment). is_in_service g && not x.peer_busy && nat_lt 0 (q.sent - q.confirmed)) a
        ∙ ap (λ (k : Bool). is_in_service l.alignment && not k && nat_lt 0 (q.sent - q.confirmed)) p);
  }

  pub stands-parted : is_down l.alignment ≡ true → Stands exact w (record l { association = false }) s q b
  stands-parted d = record { queue = h.queue; associated = λ e. d; changing = h.changing; awaiting = h.awaiting; moved = h.moved; idle = h.idle; watched = h.watched }

  pub stands-opened : (first : Bool) {untested : Bool} {period : Period} → l.association ≡ false → may_restart s ≡ true → Stands exact w (record (opened first period l) { untested = untested }) s first_queue b
  stands-opened first a r =
      let idle : b ≡ false = h.idle (down-idle l.alignment (h.associated a)) in
      record {
        queue = sound-first w h.queue.limit;
        associated = λ e. absurd cc;
        changing = λ e. absurd (no-way s.incomplete (complete s r) e);
        awaiting = λ e. absurd (no-way s.awaited (unawaited s r) e);
        moved = λ e f. refl;
        idle = λ e. idle;
        watched = λ e. idle;
      }
