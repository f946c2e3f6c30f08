-- Each link keeps the timer of its state as it takes a step, fails, opens, and as its peer becomes busy.
use Rattle.exchange_rules.proofs.Basics.{◌≡◌, ℕ, Bool, true, false, ◌&&◌, ◌||◌, not, nat_lt, nat_eq, Some, None, refl, ap, sym, subst, ◌∙◌, if◌then◌else◌}
use Rattle.exchange_rules.proofs.Definitions.{paced, Period, Configuration, Alignment, Input, Go, Transition, action_at, acts_on, opening, is_down, is_in_service, LinkTimer, NodeCounts, Running, is_running, start_unless_running, counts-clear, timer_name, without_timer, without_timers, with_timer, timed, timed_sending, timed_confirming, timed_busy, timed_busy_ended, Link, down_link, stepped, opened_by, after_failure}
use Rattle.link.specs.declared.action.LinkTimer.TheVariants as timer
use Rattle.link.specs.declared.action.Action.TheVariants as act
use Rattle.exchange_rules.specs.Aligning.{waiting_in, is_that, is_of_waits, HasItsTimer}
use Rattle.exchange_rules.proofs.Serving.{IsStep, each-step, down-is}
use Rattle.exchange_rules.proofs.LinkWaits.{runs, stopped, started, turned, none-runs, IsTurn, each-turn}

-- what holds of a link besides: out of service its peer isn't busy, and without an association it is down
pub record Waits (link : ℕ) (l : Link) (r : Running) : Type 0 where
  pub timed : HasItsTimer link l r
  pub calm : is_in_service l.alignment ≡ false → l.peer_busy ≡ false
  pub down : l.association ≡ false → is_down l.alignment ≡ true

no-way : {A : Type 0} (b : Bool) → b ≡ true → b ≡ false → A
no-way b e f = (let no : true ≡ false = sym e ∙ f in absurd cc)

-- another link with the same state, and the same timers
pub waits-as : (link : ℕ) (x y : Link) (r s : Running) → y ≡ x → ((t : LinkTimer) → is_running (timer_name link t) s ≡ is_running (timer_name link t) r) → Waits link x r → Waits link y s
waits-as link x y r s e f h =
    subst (λ (z : Link). Waits link z s) (sym e)
    (record { timed = record { waits = λ t w. f t ∙ h.timed.waits t w; busy = f timer.L6 ∙ h.timed.busy }; calm = h.calm; down = h.down })

pub waits-linked : (link : ℕ) (x y : Link) (r : Running) → y.alignment ≡ x.alignment → y.association ≡ x.association → y.peer_busy ≡ x.peer_busy → Waits link x r → Waits link y r
waits-linked link x y r e f g h = record {
  timed = record {
    waits = λ t w. h.timed.waits t w ∙ ap (λ (a : Alignment). is_that (waiting_in a) t) (sym e);
    busy = h.timed.busy ∙ ap (λ (b : Bool). is_in_service x.alignment && b) (sym g) ∙ ap (λ (a : Alignment). is_in_service a && y.peer_busy) (sym e);
  };
  calm = λ out. g ∙ h.calm (ap is_in_service (sym e) ∙ out);
  down = λ alone. ap is_down e ∙ h.down (sym f ∙ alone);
}

pub waits-parted : (link : ℕ) (x : Link) (r : Running) → is_down x.alignment ≡ true → Waits link x r → Waits link (record x { association = false }) r
waits-parted link x r e h = record { timed = record { waits = h.timed.waits; busy = h.timed.busy }; calm = h.calm; down = λ alone. e }

-- whatever it was, none runs of a link that failed
pub waits-failed : (link : ℕ) (x : Link) (r : Running) → Waits link (after_failure x) (without_timers link r)
waits-failed link x r = record {
  timed = record { waits = λ t w. none-runs link t r; busy = none-runs link timer.L6 r };
  calm = λ out. refl;
  down = λ alone. refl;
}

module _ (link : ℕ) (c : Configuration) where
  no-step : (period : Period) (a : Alignment) (input : Input) (step : Transition) → is_down a ≡ true → action_at period a input ≡ Go step → ⊥
  no-step period a input step e f =
      let no : act.Ignored ≡ Go step = sym (ap (λ (x : Alignment). action_at period x input) (down-is a e)) ∙ f in
      absurd cc

  pub waits-stepped : (x : Link) (r : Running) (input : Input) (step : Transition) → nat_lt link r.counts.links ≡ true → acts_on x input ≡ Go step → Waits link x r
      → Waits link (stepped step x) (timed c link step r)
  waits-stepped x r input step there e h = record {
    timed = record {
      waits = λ t w. turned link (paced step.period c.timers) step.stop step.start t r there ∙ ap (λ (b : Bool). is_that step.start t || (not (is_that step.stop t) && b)) (h.timed.waits t w) ∙ turn.waits t;
      busy = turned link (paced step.period c.timers) step.stop step.start timer.L6 r there ∙ untouched (is_that step.start timer.L6) (is_that step.stop timer.L6) (runs link r timer.L6) turn.start turn.stop
          ∙ h.timed.busy ∙ serving (is_in_service x.alignment) refl;
    };
    calm = λ out. by (is_in_service x.alignment) refl out;
    down = λ alone. absurd (no-step x.period x.alignment input step (h.down alone) e);
  }
    where
      turn : IsTurn x.alignment step
      turn = each-turn x.period x.alignment input step e

      known : IsStep x.alignment step
      known = each-step x.period x.alignment input step e

      untouched : (b d f : Bool) → b ≡ false → d ≡ false → (b || (not d && f)) ≡ f
      untouched true d f g k = absurd cc
      untouched false true f g k = absurd cc
      untouched false false f g k = refl

      both-out : (b d : Bool) → (b && false) ≡ (d && false)
      both-out true true = refl
      both-out true false = refl
      both-out false true = refl
      both-out false false = refl

      serving : (b : Bool) → is_in_service x.alignment ≡ b → (is_in_service x.alignment && x.peer_busy) ≡ (is_in_service step.state && x.peer_busy)
      serving true f = ap (λ (b : Bool). b && x.peer_busy) (f ∙ sym (known.stays f))
      serving false f =
          ap (λ (b : Bool). is_in_service x.alignment && b) (h.calm f) ∙ both-out (is_in_service x.alignment) (is_in_service step.state)
          ∙ ap (λ (b : Bool). is_in_service step.state && b) (sym (h.calm f))

      by : (b : Bool) → is_in_service x.alignment ≡ b → is_in_service step.state ≡ false → x.peer_busy ≡ false
      by true f out = no-way (is_in_service step.state) (known.stays f) out
      by false f out = h.calm f

  pub waits-opened : (period : Period) (x : Link) (r : Running) → nat_lt link r.counts.links ≡ true → x.association ≡ false → Waits link x r → Waits link (opened_by c period x) (timed c link (opening period) r)
  waits-opened period x r there e h = record {
    timed = record {
      waits = λ t w. turned link (paced period c.timers) None (Some timer.L2) t r there
          ∙ ap (λ (b : Bool). is_that (Some timer.L2) t || b) (h.timed.waits t w ∙ ap (λ (a : Alignment). is_that (waiting_in a) t) was) ∙ or-none (is_that (Some timer.L2) t);
      busy = turned link (paced period c.timers) None (Some timer.L2) timer.L6 r there ∙ h.timed.busy ∙ ap (λ (a : Alignment). is_in_service a && x.peer_busy) was;
    };
    calm = λ out. refl;
    down = λ alone. absurd cc;
  }
    where
      was : x.alignment ≡ down_link.alignment
      was = down-is x.alignment (h.down e)

      or-none : (b : Bool) → (b || false) ≡ b
      or-none true = refl
      or-none false = refl

  -- ---- a link in service: L6 and L7

  -- those of waits are others than L6 and L7
  busies : (t : LinkTimer) (b : Bool) → is_of_waits t ≡ true → (is_that (Some timer.L6) t || (not (is_that (Some timer.L7) t) && b)) ≡ b
  busies timer.L1 b w = refl
  busies timer.L2 b w = refl
  busies timer.L3 b w = refl
  busies timer.L4 b w = refl
  busies timer.L6 b w = absurd cc
  busies timer.L7 b w = absurd cc

  sixes : (t : LinkTimer) (b : Bool) → is_of_waits t ≡ true → (not (is_that (Some timer.L6) t) && b) ≡ b
  sixes timer.L1 b w = refl
  sixes timer.L2 b w = refl
  sixes timer.L3 b w = refl
  sixes timer.L4 b w = refl
  sixes timer.L6 b w = absurd cc
  sixes timer.L7 b w = absurd cc

  pub waits-busied : (x : Link) (r : Running) → nat_lt link r.counts.links ≡ true → is_in_service x.alignment ≡ true → Waits link x r
      → Waits link (record x { peer_busy = true }) (timed_busy c link r)
  waits-busied x r there e h = record {
    timed = record {
      waits = λ t w. turned link c.timers (Some timer.L7) (Some timer.L6) t r there ∙ busies t (runs link r t) w ∙ h.timed.waits t w;
      busy = turned link c.timers (Some timer.L7) (Some timer.L6) timer.L6 r there ∙ ap (λ (b : Bool). b && true) (sym e);
    };
    calm = λ out. no-way (is_in_service x.alignment) e out;
    down = h.down;
  }

  -- L7 alone is set or stopped

  pub seven-started : (t : LinkTimer) (r : Running) → nat_lt link r.counts.links ≡ true → is_that (Some timer.L7) t ≡ false → runs link (with_timer c link timer.L7 r) t ≡ runs link r t
  seven-started t r there e = started link c.timers timer.L7 t r there ∙ ap (λ (b : Bool). b || runs link r t) e

  pub seven-stopped : (t : LinkTimer) (r : Running) → is_that (Some timer.L7) t ≡ false → runs link (without_timer link timer.L7 r) t ≡ runs link r t
  seven-stopped t r e = stopped link timer.L7 t r ∙ ap (λ (b : Bool). not b && runs link r t) e

  waits-apart : (t : LinkTimer) → is_of_waits t ≡ true → is_that (Some timer.L7) t ≡ false
  waits-apart timer.L1 w = refl
  waits-apart timer.L2 w = refl
  waits-apart timer.L3 w = refl
  waits-apart timer.L4 w = refl
  waits-apart timer.L6 w = absurd cc
  waits-apart timer.L7 w = absurd cc

  -- so a link keeps its timers where L7 alone changes
  pub waits-but_seven : (x : Link) (r s : Running) → ((t : LinkTimer) → is_that (Some timer.L7) t ≡ false → runs link s t ≡ runs link r t) → Waits link x r → Waits link x s
  waits-but_seven x r s f h = record {
    timed = record { waits = λ t w. f t (waits-apart t w) ∙ h.timed.waits t w; busy = f timer.L6 refl ∙ h.timed.busy };
    calm = h.calm;
    down = h.down;
  }

  pub sending-others : (t : LinkTimer) (r : Running) → nat_lt link r.counts.links ≡ true → is_that (Some timer.L7) t ≡ false → runs link (timed_sending c link r) t ≡ runs link r t
  unfolding start_unless_running
  sending-others t r there e = by (is_running (timer_name link timer.L7) r)
    where
      by : (b : Bool) → runs link (if b then r else with_timer c link timer.L7 r) t ≡ runs link r t
      by true = refl
      by false = seven-started t r there e

  pub confirming-others : (busy : Bool) (confirmed outstanding : ℕ) (t : LinkTimer) (r : Running) → nat_lt link r.counts.links ≡ true → is_that (Some timer.L7) t ≡ false
      → runs link (timed_confirming c link busy confirmed outstanding r) t ≡ runs link r t
  confirming-others busy confirmed outstanding t r there e = by (nat_eq confirmed 0) (nat_eq outstanding 0) busy
    where
      by : (none over busy : Bool) → runs link (if none then r else if over then without_timer link timer.L7 r else if busy then r else with_timer c link timer.L7 r) t ≡ runs link r t
      by true over busy = refl
      by false true busy = seven-stopped t r e
      by false false true = refl
      by false false false = seven-started t r there e

  pub waits-resumed : (x : Link) (outstanding : ℕ) (r : Running) → nat_lt link r.counts.links ≡ true → is_in_service x.alignment ≡ true → Waits link x r
      → Waits link (record x { peer_busy = false }) (timed_busy_ended c link outstanding r)
  waits-resumed x outstanding r there e h = by (nat_eq outstanding 0)
    where
      ended : Running
      ended = without_timer link timer.L6 r

      still : nat_lt link ended.counts.links ≡ true
      still = ap (λ (n : NodeCounts). nat_lt link n.links) (counts-clear (timer_name link timer.L6) r) ∙ there

      six-off : Waits link (record x { peer_busy = false }) ended
      six-off = record {
        timed = record {
          waits = λ t w. stopped link timer.L6 t r ∙ sixes t (runs link r t) w ∙ h.timed.waits t w;
          busy = stopped link timer.L6 timer.L6 r ∙ ap (λ (b : Bool). b && false) (sym e);
        };
        calm = λ out. refl;
        down = h.down;
      }

      by : (none : Bool) → Waits link (record x { peer_busy = false }) (if none then ended else with_timer c link timer.L7 ended)
      by true = six-off
      by false = waits-but_seven (record x { peer_busy = false }) ended (with_timer c link timer.L7 ended) (λ t f. seven-started t ended still f) six-off
