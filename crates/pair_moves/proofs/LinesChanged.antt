-- An end that fails, completes its changeover, opens or enters service keeps law (i); and law (iv).
use Rattle.pair_moves.proofs.Basics.{◌≡◌, ◌⊎◌, inl, inr, ℕ, zero, suc, Bool, true, false, not, ◌||◌, ◌&&◌, ◌≤◌, List, [], drop, Option, refl, ap, sym, ◌∙◌, subst, arith}
use Rattle.pair_moves.proofs.Definitions.{Message, WINDOW, Queue, first_queue, named_count, last_accepted, sound-first, sound-emptied, Frame, LinkEnd, Line, turned_line, with_failure, with_completion, without_wait, with_wait, opened_end, opened_first, opened_second, MayOpen, with_service, Carry, Name, Flows, IsEnd, OpenedAlone, is_in_use, NamesReceived, WaitsRightly}
use Rattle.std.specs.Prelude.{unwrap_or}
use Rattle.pair_moves.proofs.Frames.{named-there}
use Rattle.pair_moves.proofs.Lines.{IsLine, false_is_true, true_is_false, both, or-first, or-third, none-of, none-first, none-second, none-of_two, not-without, used-by, none-may, up-first, incomplete-joined, incomplete-first}

-- the near end was up
up-there : (z : Line) (used : Bool) → z.near.up ≡ true → IsLine z → (not (z.near_may_follow || z.far_may_follow) && used) ≡ true → Flows z
up-there z used up h e =
    let none : (z.near_may_follow ≡ false) × (z.far_may_follow ≡ false) = none-may z.near_may_follow z.far_may_follow used e in
    h.there (used-by z.near_may_follow z.far_may_follow (z.near.up || z.near.incomplete || z.far.up) none.0 none.1 (or-first z.near.up z.near.incomplete z.far.up up))

up-back : (z : Line) (used : Bool) → z.near.up ≡ true → IsLine z → (not (z.far_may_follow || z.near_may_follow) && used) ≡ true → Flows (turned_line z)
up-back z used up h e =
    let none : (z.far_may_follow ≡ false) × (z.near_may_follow ≡ false) = none-may z.far_may_follow z.near_may_follow used e in
    h.back (used-by z.far_may_follow z.near_may_follow (z.far.up || z.far.incomplete || z.near.up) none.0 none.1 (or-third z.far.up z.far.incomplete z.near.up up))

-- an order goes out only from an end that served
still-unawaited : (awaited before serving : Bool) → (serving ≡ true) ⊎ (awaited ≡ before) → serving ≡ false → before ≡ false → awaited ≡ false
still-unawaited awaited before serving (inl s) n u = both s n
still-unawaited awaited before serving (inr e) n u = e ∙ u

pub line-failure : (z : Line) (awaited : Bool) → z.near.up ≡ true → (z.near.serving ≡ true) ⊎ (awaited ≡ z.near.awaited) → IsLine z → IsLine (with_failure z awaited)
line-failure z awaited up ordered h =
    record {
      near = record {
        queue = h.near.queue;
        base = h.near.base;
        serving = λ e. e;
        incomplete = λ e. refl;
        awaited = λ e. refl;
        idle = h.near.idle;
      };
      far = h.far;
      there = λ e. let f : Flows z = up-there z (false || (z.near.serving || z.near.incomplete) || z.far.up) up h e in
          record { confirmed = f.confirmed; received = f.received; carried = f.carried; named = λ u. false_is_true u };
      back = λ e. let b : Flows (turned_line z) = up-back z (z.far.up || z.far.incomplete || false) up h e in
          record { confirmed = b.confirmed; received = b.received; carried = λ u. false_is_true u; named = b.named };
      first = λ n. let o : OpenedAlone z = h.first n in
          record {
            alone = o.alone;
            far_may = o.far_may;
            unserved = refl;
            complete = none-of_two z.near.serving z.near.incomplete o.unserved o.complete;
            unawaited = still-unawaited awaited z.near.awaited z.near.serving ordered o.unserved o.unawaited;
            unheard = refl;
            queue = o.queue;
            silent = o.silent;
            untold = o.untold;
            carried = o.carried;
            named = o.named;
          };
      second = λ n. up-first z h up n;
    }

unused-completed : {A : Type 0} (near far : Bool) (z : Line) → z.near.up ≡ false → z.far.up ≡ false → (not (near || far) && (z.near.up || false || z.far.up)) ≡ true → A
unused-completed true far z down far_down e = false_is_true e
unused-completed false true z down far_down e = false_is_true e
unused-completed false false z down far_down e = none-of z.near.up false z.far.up down refl far_down e

pub line-completion : (z : Line) (awaited : Bool) → z.near.up ≡ false → z.far.up ≡ false → z.near.incomplete ≡ true → IsLine z → IsLine (with_completion z awaited)
line-completion z awaited down far_down incomplete h = record {
  near = record {
    queue = sound-emptied WINDOW z.near.queue h.near.queue.limit;
    base = refl;
    serving = h.near.serving;
    incomplete = λ e. down;
    awaited = λ e. down;
    idle = λ e. refl;
  };
  far = h.far;
  there = λ e. unused-completed z.near_may_follow z.far_may_follow z down far_down e;
  back = λ e. let b : Flows (turned_line z) = h.back e in
      record { confirmed = b.confirmed; received = b.received; carried = λ u. both u down; named = λ u. both u far_down };
  first = λ n. incomplete-joined z h incomplete n;
  second = λ n. incomplete-first z h incomplete n;
}

pub line-awaited : (z : Line) → z.near.incomplete ≡ true → IsLine z → IsLine (with_wait z)
line-awaited z incomplete h = record {
  near = record { queue = h.near.queue; base = h.near.base; serving = h.near.serving; incomplete = h.near.incomplete; awaited = λ e. h.near.incomplete incomplete; idle = h.near.idle };
  far = h.far;
  there = λ e. let f : Flows z = h.there e in
      record { confirmed = f.confirmed; received = f.received; carried = f.carried; named = f.named };
  back = λ e. let b : Flows (turned_line z) = h.back e in
      record { confirmed = b.confirmed; received = b.received; carried = b.carried; named = b.named };
  first = λ n. incomplete-joined z h incomplete n;
  second = λ n. incomplete-first z h incomplete n;
}

pub line-unawaited : (z : Line) → IsLine z → IsLine (without_wait z)
line-unawaited z h = record {
  near = record { queue = h.near.queue; base = h.near.base; serving = h.near.serving; incomplete = h.near.incomplete; awaited = λ e. false_is_true e; idle = h.near.idle };
  far = h.far;
  there = λ e. let f : Flows z = h.there e in
      record { confirmed = f.confirmed; received = f.received; carried = f.carried; named = f.named };
  back = λ e. let b : Flows (turned_line z) = h.back e in
      record { confirmed = b.confirmed; received = b.received; carried = b.carried; named = b.named };
  first = λ n. let o : OpenedAlone z = h.first n in
      record {
        alone = o.alone;
        far_may = o.far_may;
        unserved = o.unserved;
        complete = o.complete;
        unawaited = refl;
        unheard = o.unheard;
        queue = o.queue;
        silent = o.silent;
        untold = o.untold;
        carried = o.carried;
        named = o.named;
      };
  second = λ n. let o : OpenedAlone (turned_line z) = h.second n in
      record {
        alone = o.alone;
        far_may = record { down = o.far_may.down; complete = o.far_may.complete; unawaited = refl };
        unserved = o.unserved;
        complete = o.complete;
        unawaited = o.unawaited;
        unheard = o.unheard;
        queue = o.queue;
        silent = o.silent;
        untold = o.untold;
        carried = o.carried;
        named = o.named;
      };
}

opened : IsEnd opened_end
opened = record {
  queue = sound-first WINDOW (omega arith);
  base = refl;
  serving = λ e. refl;
  incomplete = λ e. false_is_true e;
  awaited = λ e. false_is_true e;
  idle = λ e. refl;
}

pub line-opened_first : (z : Line) → MayOpen z.far → IsLine z → IsLine (opened_first z)
line-opened_first z far_may h = record {
  near = opened;
  far = h.far;
  there = λ e. false_is_true e;
  back = λ e. false_is_true e;
  first = λ n. record {
    alone = refl;
    far_may = far_may;
    unserved = refl;
    complete = refl;
    unawaited = refl;
    unheard = refl;
    queue = refl;
    silent = refl;
    untold = refl;
    carried = refl;
    named = tt;
  };
  second = λ n. false_is_true n;
}

-- the far end opened first, and sent what it did; the near one follows
followed : (q : Queue) (up : Bool) (to_near to_far : List Frame) (o : q ≡ first_queue) → to_far ≡ [] → Carry first_queue 0 to_near → Name 0 0 to_near →
    (0 ≤ q.received) × (q.received ≤ 0) × Carry first_queue q.received to_far × Name 0 q.received to_near
    × (q.confirmed ≤ 0) × (0 ≤ q.sent) × Carry q 0 to_near × Name q.confirmed 0 to_far
followed q up to_near to_far o silent carried named =
    subst (λ (x : Queue). (0 ≤ x.received) × (x.received ≤ 0) × Carry first_queue x.received to_far × Name 0 x.received to_near
    × (x.confirmed ≤ 0) × (0 ≤ x.sent) × Carry x 0 to_near × Name x.confirmed 0 to_far) (sym o)
    (omega arith, omega arith, subst (Carry first_queue 0) (sym silent) refl, named, omega arith, omega arith, carried, subst (Name 0 0) (sym silent) tt)

pub line-opened_second : (z : Line) → z.near_may_follow ≡ true → IsLine z → IsLine (opened_second z)
line-opened_second z follows h =
    let o : OpenedAlone (turned_line z) = h.second follows in
    let f : _ = followed z.far.queue z.far.up z.to_near z.to_far o.queue o.silent o.carried o.named in
    record {
      near = opened;
      far = h.far;
      there = λ e. record { confirmed = f.0; received = f.1; carried = λ u. f.2; named = λ u. f.3 };
      back = λ e. record { confirmed = f.4; received = f.5; carried = λ u. f.6; named = λ u. f.7 };
      first = λ n. both n o.alone;
      second = λ n. false_is_true n;
    }

pub line-service : (z : Line) → z.near.up ≡ true → z.near.heard ≡ true → IsLine z → IsLine (with_service z)
line-service z up heard h =
    record {
      near = record {
        queue = h.near.queue;
        base = h.near.base;
        serving = λ e. refl;
        incomplete = λ e. sym up ∙ h.near.incomplete e;
        awaited = λ e. sym up ∙ h.near.awaited e;
        idle = λ e. true_is_false e;
      };
      far = h.far;
      there = λ e. let f : Flows z = up-there z true up h e in
          record { confirmed = f.confirmed; received = f.received; carried = f.carried; named = λ u. f.named up };
      back = λ e. let b : Flows (turned_line z) = up-back z (z.far.up || z.far.incomplete || true) up h e in
          record { confirmed = b.confirmed; received = b.received; carried = λ u. b.carried up; named = b.named };
      first = λ n. both heard (h.first n).unheard;
      second = λ n. up-first z h up n;
    }

-- ---- law (iv)

pub line-names : (z : Line) → IsLine z → NamesReceived z
line-names z h used =
    let f : Flows z = h.there used in
    named-there z.near.queue z.far.queue.received h.near.queue h.near.base f.confirmed f.received

-- nothing is on an end that is down and has nothing to complete
pub nothing-idle : (x : LinkEnd) → IsEnd x → x.up ≡ false → x.incomplete ≡ false → x.queue.all ≡ []
nothing-idle x h down complete =
    h.idle (none-of_two x.serving x.incomplete (not-without x.serving h.serving down) complete)

pub drop-none : (ms : List Message) (n : ℕ) → ms ≡ [] → drop n ms ≡ []
drop-none ms zero e = e
drop-none ms (suc n) e = ap (drop (suc n)) e

-- and nothing does on a line that isn't in use
unused-none : (z : Line) (near far : Bool) → z.near_may_follow ≡ near → z.far_may_follow ≡ far → (not (near || far) && (z.near.up || z.near.incomplete || z.far.up)) ≡ false → IsLine z → z.near.queue.all ≡ []
unused-none z true far n f e h = let m : MayOpen z.near = (h.second n).far_may in nothing-idle z.near h.near m.down m.complete
unused-none z false true n f e h = ap (λ (q : Queue). q.all) (h.first f).queue
unused-none z false false n f e h =
    nothing-idle z.near h.near (none-first z.near.up z.near.incomplete z.far.up e) (none-second z.near.up z.near.incomplete z.far.up e)

waits : (z : Line) (used : Bool) → is_in_use z ≡ used → IsLine z → WaitsRightly z
waits z true e h =
    ap (λ (o : Option ℕ). drop (unwrap_or o z.near.queue.confirmed) z.near.queue.all) (line-names z h e)
waits z false e h =
    let none : z.near.queue.all ≡ [] = unused-none z z.near_may_follow z.far_may_follow refl refl e h in
    drop-none z.near.queue.all (unwrap_or (named_count z.near.queue (last_accepted z.far.queue)) z.near.queue.confirmed) none
    ∙ sym (drop-none z.near.queue.all z.far.queue.received none)

pub line-waits : (z : Line) → IsLine z → WaitsRightly z
line-waits z h = waits z (is_in_use z) refl h
