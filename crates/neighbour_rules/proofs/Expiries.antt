-- T1 or T2 of a link runs out: by moves.
use Rattle.pair_rules.proofs.Basics.{append-nil, ◌≡◌, ◌≢◌, ◌<◌, ℕ, Bool, true, false, List, [], length, None, refl, ap, sym, subst, ◌∙◌, nat_lt, arith, if◌then◌else◌, ◌&&◌, ⊎_elim, cases_eq, nat_tests}
use Rattle.pair_rules.proofs.Definitions.{answer, refuse, Handled, Ignored, clear_timer, flagged, Message, Configuration, Queue, Standing, no_changeover, acknowledged, completed, behind, managements_of, Node, with_parts, is_link, WholeQueues, queue_at, whole, changeover_of, with_changeover, complete_if, on_changeover_timer, with_expiry, Fits, StaysFit, fit-steps, concluded-steps}
use Rattle.signalling_types.specs.declared.notice.ChangeoverTimer.{ChangeoverTimer}
use Rattle.signalling_types.specs.declared.notice.ChangeoverTimer.TheVariants as timer
use Rattle.signalling_types.specs.declared.cause.Cause.TheVariants.{NoSuchName}
use Rattle.signalling_types.specs.declared.notice.Notice.{Notice}
use Rattle.signalling_types.specs.declared.notice.Notice.TheVariants as notices
use Rattle.signalling_types.specs.declared.notice.Unbarring.TheVariants as unbarring
use Rattle.timers.specs.declared.name.TimerName.TheVariants.{T2}
use Rattle.changeover.specs.Changeover.{expired, is_barred}
use Rattle.exchange_rules.specs.State.{broken_if, note}
use Rattle.exchange_rules.specs.ChangingOver.{bar, barred, bars, ends_wait, expiry_notice, unbarred}
use Rattle.exchange_rules.specs.Opening.{release_bar}
use Rattle.exchange_rules.proofs.Steps.{IsTold}
use Rattle.exchange_rules.proofs.SteppingFailures.{barred-complete, expired-complete, expiry-told}
use Rattle.exchange_rules.proofs.SteppingTimers.{clear-timed}
use Rattle.pair_rules.proofs.World.{World}
use Rattle.pair_rules.proofs.Going.{goes-lost}
use Rattle.pair_rules.proofs.Lines.{standing-here, standing-other}
use Rattle.neighbour_rules.proofs.Counted.{IsBase, base-lost, beyond-lost, counts_of, with_loss}
use Rattle.neighbour_rules.proofs.World.{reading}
use Rattle.neighbour_rules.proofs.Good.{Joint, Passes, at, passes-both, passes-good, passes-none}
use Rattle.neighbour_rules.proofs.Relinked.{noted-passes, timed-passes}
use Rattle.neighbour_rules.proofs.Completions.{anew-passes, anew-sent, concluded-beyond, concluded_at, found_by, lost-good}
use Rattle.neighbour_rules.proofs.ChangingOver.{barring, completed-same}

module _ (c z : Configuration) (j : Joint c z) where
  pub listed : (n : Node WholeQueues) (link : ℕ) → Fits c n → is_link n.parts link ≡ true → link < length c.links
  listed n link f e = subst (λ (k : ℕ). link < k) f.places.parts.links (is-below link (length n.parts.links) e)
    where
      is-below : (m k : ℕ) → nat_lt m k ≡ true → m < k
      is-below m k h = grind (arith, nat_tests, h)

  -- ---- a changeover ends without a number: something may be lost

  module _ (w : World) (n : Node WholeQueues) (link : ℕ) (s : Standing) (there : is_link n.parts link ≡ true) where
    ends-lost : (changeover_of n.parts link).incomplete ≡ true → s.incomplete ≡ false
        → Passes c z j (at c z j w n [] []) (at c z j w (complete_if whole c true link None (with_parts n (with_changeover link s n.parts))) [] [])
    ends-lost e i =
        let q : Queue = queue_at n.queues link in
        let ms : List Message = managements_of (behind q None) in
        passes-both c z j _ _ _
        (subst (λ (loose : List Message). Passes c z j (at c z j w n [] []) (at c z j w (concluded_at c z j w n link s n.parts.timers None None) [] loose)) (sym (append-nil ms))
        (record {
          goes = λ g. goes-lost (reading c.own z.own j.base) _ _ (concluded-beyond c z j w n link s n.parts.timers None g.counted);
          good = λ g. lost-good c z j w n link s n.parts.timers None [] [] [] ms concluded-fits (λ h. tt) (λ h. anew-sent c z j w n link s n.parts.timers (h.queued link)) e (listed n link g.fits there) g;
        }))
        (anew-passes c z j (behind q None) w (concluded_at c z j w n link s n.parts.timers None None) [] [])
      where
        concluded-fits : StaysFit c n (concluded_at c z j w n link s n.parts.timers None None)
        concluded-fits =
            (fit-steps c).both _ _ _ ((fit-steps c).completed link None s n e i)
            (concluded-steps (fit-steps c) link (found_by c z j (queue_at n.queues link) None None) (record { queues = whole.completed n.queues link None; parts = with_changeover link s n.parts }))

  -- ---- T1

  t1-ends : (b : Bool) (w : World) (n : Node WholeQueues) (link : ℕ) → (changeover_of n.parts link).incomplete ≡ b → is_link n.parts link ≡ true
      → Passes c z j (at c z j w n [] []) (at c z j w (complete_if whole c b link None (with_parts n (with_changeover link (completed (changeover_of n.parts link)) n.parts))) [] [])
  t1-ends true w n link e there = ends-lost w n link (completed (changeover_of n.parts link)) there e refl
  t1-ends false w n link e there =
      subst (λ (o : Node WholeQueues). Passes c z j (at c z j w n [] []) (at c z j w o [] [])) (sym (completed-same c z j n link e)) (passes-none c z j (at c z j w n [] []))

  -- ---- the answer is awaited no more: something may be lost

  -- the node once no changeover of the link goes on
  abbrev over : ℕ → Node WholeQueues → Node WholeQueues
  over link n = with_parts n (with_changeover link (acknowledged (changeover_of n.parts link)) n.parts)

  wait-ends : (w : World) (n : Node WholeQueues) (link : ℕ) → (changeover_of n.parts link).incomplete ≡ false → is_link n.parts link ≡ true → nat_lt j.base.near.lost n.parts.times_lost ≡ true
      → Passes c z j (at c z j w n [] []) (at c z j w (over link n) [] [])
  wait-ends w n link e there lost = record {
    goes = λ g. goes-lost (reading c.own z.own j.base) _ _ lost;
    good = λ g. record {
      fits = ((fit-steps c).answered link done n e refl (λ a. absurd cc)).stay g.fits;
      route = g.route;
      settled = λ other up.
          ⊎_elim
          (λ (same : other ≡ link).
          subst (λ (k : ℕ). changeover_of (over link n).parts k ≡ no_changeover) (sym same)
          (standing-here c z n.parts link done (subst (λ (k : ℕ). link < k) (sym g.fits.places.parts.changeovers) (listed n link g.fits there))))
          (λ (d : other ≢ link). standing-other c z n.parts link other done d ∙ g.settled other up)
          (cases_eq other link);
      silent = g.silent;
      queued = g.queued;
      elsewhere = g.elsewhere;
      held = g.held;
      loose = tt;
      arrived = g.arrived;
      coming = g.coming;
      counted = g.counted;
    };
  }
    where
      done : Standing
      done = acknowledged (changeover_of n.parts link)

  flagged-beyond : (n : Node WholeQueues) → IsBase j.base.near (counts_of n.parts) → nat_lt j.base.near.lost (flagged n.parts).times_lost ≡ true
  flagged-beyond n h = beyond-lost j.base.near (counts_of n.parts) (with_loss (counts_of n.parts)) j.grows refl h

  -- a notice tells of it
  module _ (w : World) (n : Node WholeQueues) (notice : Notice) (breaks : Bool) (told : IsTold notice (flagged n.parts)) where
    abbrev flags : Node WholeQueues
    flags = with_parts n (broken_if breaks (note notice (flagged n.parts)))

    flagging : Passes c z j (at c z j w n [] []) (at c z j w flags [] [])
    flagging = record {
      goes = λ g. goes-lost (reading c.own z.own j.base) _ _ (flagged-beyond n g.counted);
      good = λ g. record {
        fits = ((fit-steps c).both _ _ _ ((fit-steps c).lost n)
            ((fit-steps c).both _ _ _ ((fit-steps c).noted notice (with_parts n (flagged n.parts)) told) ((fit-steps c).counted n.parts.messages_lost flags.parts.times_broken (with_parts n (note notice (flagged n.parts)))))).stay g.fits;
        route = g.route;
        settled = g.settled;
        silent = g.silent;
        queued = g.queued;
        elsewhere = g.elsewhere;
        held = g.held;
        loose = tt;
        arrived = g.arrived;
        coming = g.coming;
        counted = base-lost j.base.near (counts_of n.parts) j.grows g.counted;
      };
    }

  -- ---- T2

  -- where the changeover is complete, T2 ends the wait
  expired-over : (b : Bool) (s : Standing) → s.incomplete ≡ false → expired b timer.T2 s ≡ acknowledged s
  expired-over b s e = ap (λ (i : Bool). if b && i then completed s else acknowledged s) e ∙ by b
    where
      by : (b : Bool) → (if b && false then completed s else acknowledged s) ≡ acknowledged s
      by true = refl
      by false = refl

  t2-ends : (b : Bool) (w : World) (n : Node WholeQueues) (link : ℕ) → (changeover_of n.parts link).incomplete ≡ b → is_link n.parts link ≡ true → nat_lt j.base.near.lost n.parts.times_lost ≡ true
      → Passes c z j (at c z j w n [] []) (at c z j w (complete_if whole c b link None (with_parts n (with_changeover link (expired (bars c) timer.T2 (changeover_of n.parts link)) n.parts))) [] [])
  t2-ends true w n link e there lost = ends-lost w n link (expired (bars c) timer.T2 (changeover_of n.parts link)) there e (expired-complete (bars c) (changeover_of n.parts link))
  t2-ends false w n link e there lost =
      subst (λ (s : Standing). Passes c z j (at c z j w n [] []) (at c z j w (with_parts n (with_changeover link s n.parts)) [] []))
      (sym (expired-over (bars c) (changeover_of n.parts link) e)) (wait-ends w n link e there lost)

  -- ---- either

  expiry-passes : (which : ChangeoverTimer) (w : World) (n : Node WholeQueues) (link : ℕ) → is_link n.parts link ≡ true
      → Passes c z j (at c z j w n [] []) (at c z j w (complete_if whole c (changeover_of n.parts link).incomplete link None (with_parts n (with_expiry c which link (barred c link n.parts)))) [] [])
  expiry-passes timer.T1 w n link there =
      let first : Node WholeQueues = bar whole c link n in
      let noted : Node WholeQueues = with_parts first (note (notices.Expired timer.T1 link) first.parts) in
      passes-both c z j _ _ _ (barring c z j w n [] link)
      (passes-both c z j _ _ _
      (noted-passes c z j w first [] [] noted.parts.notices ((fit-steps c).noted (notices.Expired timer.T1 link) first (record { other = refl; lost = λ f. absurd cc; late = λ f. absurd cc })))
      (t1-ends (changeover_of n.parts link).incomplete w noted link refl there))
  expiry-passes timer.T2 w n link there =
      let s : Standing = changeover_of n.parts link in
      let first : Node WholeQueues = bar whole c link n in
      let told : IsTold (expiry_notice c timer.T2 s link) (flagged first.parts) = expiry-told c s link (flagged first.parts) refl in
      let noted : Node WholeQueues = flags w first (expiry_notice c timer.T2 s link) (ends_wait c timer.T2 s) told in
      passes-both c z j _ _ _ (barring c z j w n [] link)
      (passes-good c z j _ _
      (λ g. passes-both c z j _ _ _ (flagging w first (expiry_notice c timer.T2 s link) (ends_wait c timer.T2 s) told) (t2-ends s.incomplete w noted link refl there (flagged-beyond first g.counted))))

  pub changeover_timer-passes : (which : ChangeoverTimer) (w : World) (n : Node WholeQueues) (link : ℕ) → Passes c z j (at c z j w n [] []) (at c z j w (on_changeover_timer whole c which link n) [] [])
  changeover_timer-passes which w n link = by (is_link n.parts link) refl
    where
      by : (b : Bool) → is_link n.parts link ≡ b
          → Passes c z j (at c z j w n [] []) (at c z j w (if b then complete_if whole c (changeover_of n.parts link).incomplete link None (with_parts n (with_expiry c which link (barred c link n.parts))) else n) [] [])
      by true e = expiry-passes which w n link e
      by false e = passes-none c z j (at c z j w n [] [])

  -- ---- the operator lets a link open

  pub release_bar-passes : (w : World) (n : Node WholeQueues) (link : ℕ) → Passes c z j (at c z j w n [] []) (at c z j w (release_bar whole c link n).left [] [])
  release_bar-passes w n link = by (is_link n.parts link) (is_barred (changeover_of n.parts link)) refl refl
    where
      released : Node WholeQueues
      released = with_parts n (unbarred link n.parts)

      told : IsTold (notices.Unbarred unbarring.Operator link) (flagged n.parts)
      told = record { other = refl; lost = λ f. refl; late = λ f. absurd cc }

      noted : Node WholeQueues
      noted = flags w n (notices.Unbarred unbarring.Operator link) true told

      stilled : Node WholeQueues
      stilled = with_parts noted (record noted.parts { timers = clear_timer (T2 link) noted.parts.timers })

      ends : is_link n.parts link ≡ true → is_barred (changeover_of n.parts link) ≡ true → Passes c z j (at c z j w n [] []) (at c z j w released [] [])
      ends there e =
          passes-good c z j _ _
          (λ g. passes-both c z j _ _ _ (flagging w n (notices.Unbarred unbarring.Operator link) true told)
          (passes-both c z j _ _ _ (timed-passes c z j w noted [] [] stilled.parts.timers ((fit-steps c).timed stilled.parts.timers noted (clear-timed (T2 link) noted.parts.timers (λ l e. cc))))
          (wait-ends w stilled link (barred-complete (changeover_of n.parts link) e) there (flagged-beyond n g.counted))))

      by : (there barred : Bool) → is_link n.parts link ≡ there → is_barred (changeover_of n.parts link) ≡ barred
          → Passes c z j (at c z j w n [] []) (at c z j w (if there then (if barred then answer Handled released else answer Ignored n) else refuse NoSuchName n).left [] [])
      by true true e f = ends e f
      by true false e f = passes-none c z j (at c z j w n [] [])
      by false barred e f = passes-none c z j (at c z j w n [] [])
