-- An end that fails, orders, completes its changeover, opens or enters service keeps law (i); and law (iv).
use Rattle.network_moves.proofs.Basics.{◌≡◌, Bool, true, false, not, ◌||◌, ◌&&◌, ◌≤◌, List, [], refl, sym, ◌∙◌, subst, arith}
use Rattle.network_moves.proofs.Definitions.{Message, WINDOW, Queue, first_queue, sound-first, sound-emptied, Frame, Phase, Live, Moved, Line, turned, with_failure, with_wait, with_completion, opened_end, opened_first, opened_second, MayOpen, with_service, Carry, Name, Flows, IsEnd, OpenedAlone, NamesReceived}
use Rattle.network_moves.proofs.Frames.{named-there}
use Rattle.network_moves.proofs.Lines.{IsLine, false_is_true, true_is_false, both, or-first, or-second, or-third, none-of_two, unless-true, used-by, none-may, up-first, incomplete-joined, incomplete-first}

pub live-moved : {A : Type 0} → Live ≡ Moved → A
live-moved e = absurd cc

-- the near end was up
up-there : (z : Line) (used : Bool) → z.near.up ≡ true → IsLine z → (not (z.near_may_follow || z.far_may_follow) && used) ≡ true → Flows z
up-there z used up h e =
    let none : (z.near_may_follow ≡ false) × (z.far_may_follow ≡ false) = none-may z.near_may_follow z.far_may_follow used e in
    h.there (used-by z.near_may_follow z.far_may_follow (z.near.up || z.near.incomplete || z.far.up) none.0 none.1 (or-first z.near.up z.near.incomplete z.far.up up))

up-back : (z : Line) (used : Bool) → z.near.up ≡ true → IsLine z → (not (z.far_may_follow || z.near_may_follow) && used) ≡ true → Flows (turned z)
up-back z used up h e =
    let none : (z.far_may_follow ≡ false) × (z.near_may_follow ≡ false) = none-may z.far_may_follow z.near_may_follow used e in
    h.back (used-by z.far_may_follow z.near_may_follow (z.far.up || z.far.incomplete || z.near.up) none.0 none.1 (or-third z.far.up z.far.incomplete z.near.up up))

pub line-failure : (z : Line) → z.near.up ≡ true → IsLine z → IsLine (with_failure z)
line-failure z up h =
    record {
      near = record {
        queue = h.near.queue;
        base = h.near.base;
        serving = λ e. e;
        incomplete = λ e. refl;
        awaited = λ e. refl;
        live_up = λ e. false_is_true e;
        live_incomplete = λ e. h.near.live_up up;
        idle = h.near.idle;
      };
      far = h.far;
      there = λ e. let f : Flows z = up-there z (false || (z.near.serving || z.near.incomplete) || z.far.up) up h e in
          record { confirmed = f.confirmed; received = f.received; carried = f.carried; named = λ u. false_is_true u };
      back = λ e. let b : Flows (turned z) = up-back z (z.far.up || z.far.incomplete || false) up h e in
          record { confirmed = b.confirmed; received = b.received; carried = λ u. false_is_true u; named = b.named };
      first = λ n. let o : OpenedAlone z = h.first n in
          record {
            alone = o.alone;
            far_may = o.far_may;
            far_live = o.far_live;
            far_empty = o.far_empty;
            unserved = refl;
            complete = none-of_two z.near.serving z.near.incomplete o.unserved o.complete;
            unawaited = o.unawaited;
            unheard = refl;
            live = o.live;
            queue = o.queue;
            silent = o.silent;
            untold = o.untold;
            carried = o.carried;
            named = o.named;
          };
      second = λ n. up-first z h up n;
      moved = λ m. h.moved m;
      moved_back = λ m. refl;
    }

-- ---- a changeover

-- while the near end's changeover goes on
pub incomplete-there : (z : Line) → z.near.incomplete ≡ true → IsLine z → Flows z
incomplete-there z incomplete h =
    h.there (used-by z.near_may_follow z.far_may_follow (z.near.up || z.near.incomplete || z.far.up)
    (unless-true z.near_may_follow (incomplete-first z h incomplete)) (unless-true z.far_may_follow (incomplete-joined z h incomplete))
    (or-second z.near.up z.near.incomplete z.far.up incomplete))

pub line-completion : (z : Line) (phase : Phase) (awaited : Bool) → (phase ≡ Live → ⊥) → (phase ≡ Moved → z.far.up ≡ false) →
    z.near.incomplete ≡ true → IsLine z → IsLine (with_completion z phase awaited)
line-completion z phase awaited over far_down incomplete h =
    let down : z.near.up ≡ false = h.near.incomplete incomplete in
    let f : Flows z = incomplete-there z incomplete h in
    record {
      near = record {
        queue = h.near.queue;
        base = h.near.base;
        serving = h.near.serving;
        incomplete = λ e. down;
        awaited = λ e. down;
        live_up = λ e. both e down;
        live_incomplete = λ e. false_is_true e;
        idle = λ l e. absurd (over l);
      };
      far = h.far;
      there = λ e. record { confirmed = f.confirmed; received = f.received; carried = f.carried; named = f.named };
      back = λ e. let b : Flows (turned z) = h.back e in
          record { confirmed = b.confirmed; received = b.received; carried = b.carried; named = b.named };
      first = λ n. incomplete-joined z h incomplete n;
      second = λ n. incomplete-first z h incomplete n;
      moved = far_down;
      moved_back = λ m. h.moved_back m;
    }

-- an order goes out
pub line-awaited : (z : Line) → z.near.incomplete ≡ true → IsLine z → IsLine (with_wait z true)
line-awaited z incomplete h = record {
  near = record { queue = h.near.queue; base = h.near.base; serving = h.near.serving; incomplete = h.near.incomplete; awaited = λ e. h.near.incomplete incomplete; live_up = h.near.live_up; live_incomplete = h.near.live_incomplete; idle = h.near.idle };
  far = h.far;
  there = λ e. let f : Flows z = h.there e in
      record { confirmed = f.confirmed; received = f.received; carried = f.carried; named = f.named };
  back = λ e. let b : Flows (turned z) = h.back e in
      record { confirmed = b.confirmed; received = b.received; carried = b.carried; named = b.named };
  first = λ n. incomplete-joined z h incomplete n;
  second = λ n. incomplete-first z h incomplete n;
  moved = λ m. h.moved m;
  moved_back = λ m. h.moved_back m;
}

pub line-unawaited : (z : Line) → IsLine z → IsLine (with_wait z false)
line-unawaited z h = record {
  near = record { queue = h.near.queue; base = h.near.base; serving = h.near.serving; incomplete = h.near.incomplete; awaited = λ e. false_is_true e; live_up = h.near.live_up; live_incomplete = h.near.live_incomplete; idle = h.near.idle };
  far = h.far;
  there = λ e. let f : Flows z = h.there e in
      record { confirmed = f.confirmed; received = f.received; carried = f.carried; named = f.named };
  back = λ e. let b : Flows (turned z) = h.back e in
      record { confirmed = b.confirmed; received = b.received; carried = b.carried; named = b.named };
  first = λ n. let o : OpenedAlone z = h.first n in
      record {
        alone = o.alone;
        far_may = o.far_may;
        far_live = o.far_live;
        far_empty = o.far_empty;
        unserved = o.unserved;
        complete = o.complete;
        unawaited = refl;
        unheard = o.unheard;
        live = o.live;
        queue = o.queue;
        silent = o.silent;
        untold = o.untold;
        carried = o.carried;
        named = o.named;
      };
  second = λ n. let o : OpenedAlone (turned z) = h.second n in
      record {
        alone = o.alone;
        far_may = record { down = o.far_may.down; complete = o.far_may.complete; unawaited = refl };
        far_live = o.far_live;
        far_empty = o.far_empty;
        unserved = o.unserved;
        complete = o.complete;
        unawaited = o.unawaited;
        unheard = o.unheard;
        live = o.live;
        queue = o.queue;
        silent = o.silent;
        untold = o.untold;
        carried = o.carried;
        named = o.named;
      };
  moved = λ m. h.moved m;
  moved_back = λ m. h.moved_back m;
}

-- ---- an opening

pub opened : (came gone : List Message) → IsEnd (opened_end came gone)
opened came gone = record {
  queue = sound-first WINDOW (omega arith);
  base = refl;
  serving = λ e. refl;
  incomplete = λ e. false_is_true e;
  awaited = λ e. false_is_true e;
  live_up = λ e. refl;
  live_incomplete = λ e. refl;
  idle = λ l e. refl;
}

pub line-opened_first : (z : Line) → MayOpen z.far → IsLine z → IsLine (opened_first z)
line-opened_first z far_may h = record {
  near = opened (opened_first z).near.came (opened_first z).near.gone;
  far = record {
    queue = sound-emptied WINDOW z.far.queue h.far.queue.limit;
    base = refl;
    serving = h.far.serving;
    incomplete = h.far.incomplete;
    awaited = h.far.awaited;
    live_up = λ e. refl;
    live_incomplete = λ e. refl;
    idle = λ l e. refl;
  };
  there = λ e. false_is_true e;
  back = λ e. false_is_true e;
  first = λ n. record {
    alone = refl;
    far_may = record { down = far_may.down; complete = far_may.complete; unawaited = far_may.unawaited };
    far_live = refl;
    far_empty = refl;
    unserved = refl;
    complete = refl;
    unawaited = refl;
    unheard = refl;
    live = refl;
    queue = refl;
    silent = refl;
    untold = refl;
    carried = refl;
    named = tt;
  };
  second = λ n. false_is_true n;
  moved = λ m. live-moved m;
  moved_back = λ m. live-moved m;
}

-- the far end opened first, and sent what it did; the near one follows
followed : (q : Queue) (up : Bool) (to_near to_far : List Frame) (o : q ≡ first_queue) → to_far ≡ [] → Carry first_queue 0 to_near → Name 0 0 to_near →
    (0 ≤ q.received) × (q.received ≤ 0) × Carry first_queue q.received to_far × Name 0 q.received to_near
    × (q.confirmed ≤ 0) × (0 ≤ q.sent) × Carry q 0 to_near × Name q.confirmed 0 to_far
followed q up to_near to_far o silent carried named =
    subst (λ (x : Queue). (0 ≤ x.received) × (x.received ≤ 0) × Carry first_queue x.received to_far × Name 0 x.received to_near
    × (x.confirmed ≤ 0) × (0 ≤ x.sent) × Carry x 0 to_near × Name x.confirmed 0 to_far) (sym o)
    (omega arith, omega arith, subst (Carry first_queue 0) (sym silent) refl, named, omega arith, omega arith, carried, subst (Name 0 0) (sym silent) tt)

pub line-opened_second : (z : Line) → z.near_may_follow ≡ true → IsLine z → IsLine (opened_second z)
line-opened_second z follows h =
    let o : OpenedAlone (turned z) = h.second follows in
    let f : _ = followed z.far.queue z.far.up z.to_near z.to_far o.queue o.silent o.carried o.named in
    record {
      near = opened z.near.came z.near.gone;
      far = h.far;
      there = λ e. record { confirmed = f.0; received = f.1; carried = λ u. f.2; named = λ u. f.3 };
      back = λ e. record { confirmed = f.4; received = f.5; carried = λ u. f.6; named = λ u. f.7 };
      first = λ n. both n o.alone;
      second = λ n. false_is_true n;
      moved = λ m. live-moved m;
      moved_back = λ m. live-moved (sym o.live ∙ m);
    }

pub line-service : (z : Line) → z.near.up ≡ true → z.near.heard ≡ true → IsLine z → IsLine (with_service z)
line-service z up heard h =
    record {
      near = record {
        queue = h.near.queue;
        base = h.near.base;
        serving = λ e. up;
        incomplete = h.near.incomplete;
        awaited = h.near.awaited;
        live_up = h.near.live_up;
        live_incomplete = h.near.live_incomplete;
        idle = λ l e. true_is_false e;
      };
      far = h.far;
      there = λ e. let f : Flows z = h.there e in
          record { confirmed = f.confirmed; received = f.received; carried = f.carried; named = f.named };
      back = λ e. let b : Flows (turned z) = h.back e in
          record { confirmed = b.confirmed; received = b.received; carried = b.carried; named = b.named };
      first = λ n. both heard (h.first n).unheard;
      second = λ n. up-first z h up n;
      moved = λ m. h.moved m;
      moved_back = λ m. h.moved_back m;
    }

-- ---- law (iv)

pub line-names : (z : Line) → IsLine z → NamesReceived z
line-names z h used =
    let f : Flows z = h.there used in
    named-there z.near.queue z.far.queue.received h.near.queue h.near.base f.confirmed f.received
