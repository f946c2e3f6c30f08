-- The timer that fails a link is the one that is named.
use Rattle.std.proofs.Common.{◌≡◌, ℕ, ◌&&◌, not, Bool, true, false, if◌then◌else◌, Option, None, Some, is_some, refl, sym, ap, ◌∙◌}
use Rattle.timers.specs.declared.name.TimerName.{TimerName}
use Rattle.timers.specs.Timers.{Running, is_due, is_running, ticked, one_less, no_tick_left}
use Rattle.link.specs.declared.action.LinkTimer.{LinkTimer}
use Rattle.link.specs.declared.action.LinkTimer.TheVariants as timer
use Rattle.link.specs.declared.alignment.Alignment.{Alignment}
use Rattle.link.specs.declared.alignment.Alignment.TheVariants.{Down, NotAligned, Aligned, Proving, AlignedReady, InService}
use Rattle.node_links.specs.NodeLinks.{Link, is_in_service}
use Rattle.exchange_rules.specs.Aligning.{waiting_in, is_that}
use Rattle.exchange_rules.specs.First.{Abstract, first_state}
use Rattle.exchange_rules.specs.Lasting.{after_each}
use Rattle.exchange_rules.specs.LawsOfCauses.{fails_by}
use Rattle.exchange_rules.specs.Queues.{whole}
use Rattle.exchange_rules.specs.State.{is_link, link_at}
use Rattle.exchange_rules.specs.Timing.{timer_name}
use Rattle.exchange_rules.proofs.Definitions.{left-ticked}
use Rattle.exchange_rules.proofs.AligningAll.{links-have}
use Rattle.exchange_rules.proofs.LastingHolds.{every-hold}
use Rattle.exchange_rules.proofs.LastingLinks.{l7-watches}
use Rattle.exchange.specs.Views.{link_shown, obstacle_of, standing_of}
use Rattle.exchange.specs.declared.view.Obstacle.{Obstacle}
use Rattle.exchange.specs.declared.view.Obstacle.TheVariants.{PeerBusy, PeerOutage, Untested}
use Rattle.served_link.specs.LinkFailures.{failing_at, failing_by, failing_of, timer_in_service}
use Rattle.served_link.specs.NamedTimers.{stands_for, is_named, failing_timers_are_named}

-- ---- tests

first-holds : (b d : Bool) → (b && d) ≡ true → b ≡ true
first-holds true d e = refl
first-holds false d e = e

second-holds : (b d : Bool) → (b && d) ≡ true → d ≡ true
second-holds true d e = e
second-holds false d e = absurd (let no = e in cc)

fails : (b : Bool) → not b ≡ true → b ≡ false
fails true e = sym e
fails false e = refl

-- ---- a timer that runs out runs

some-left : (o : Option ℕ) → no_tick_left (one_less o) ≡ true → is_some o ≡ true
some-left None e = e
some-left (Some n) e = refl

due-runs : (r : Running) (t : TimerName) → is_due (ticked r) t ≡ true → is_running t r ≡ true
due-runs r t e = some-left (r.left t) (ap no_tick_left (sym (left-ticked t r)) ∙ e)

-- ---- on its way into service

waits-named : (al : Alignment) (o : Option Obstacle) (t : LinkTimer) → fails_by t ≡ true → is_that (waiting_in al) t ≡ true
    → is_named t (failing_by (standing_of al) o) ≡ true
waits-named Down o t f e = e
waits-named NotAligned o t f e = e
waits-named Aligned o t f e = e
waits-named (Proving ready) o timer.L4 f e = f
waits-named (Proving ready) o t f e = e
waits-named AlignedReady o t f e = e
waits-named InService o t f e = absurd (let no = e in cc)

-- ---- in service

serves-named : (al : Alignment) (o : Option Obstacle) (t : LinkTimer) → is_in_service al ≡ true → stands_for (timer_in_service o) t ≡ true
    → is_named t (failing_by (standing_of al) (if is_in_service al then o else None)) ≡ true
serves-named Down o t s e = s
serves-named NotAligned o t s e = absurd (let no = s in cc)
serves-named Aligned o t s e = absurd (let no = s in cc)
serves-named (Proving ready) o t s e = absurd (let no = s in cc)
serves-named AlignedReady o t s e = absurd (let no = s in cc)
serves-named InService o t s e = e

busy-named : (untested out busy : Bool) → busy ≡ true
    → stands_for (timer_in_service (if untested then Some Untested else if out then Some PeerOutage else if busy then Some PeerBusy else None)) timer.L6 ≡ true
busy-named true out busy e = refl
busy-named false true busy e = refl
busy-named false false true e = refl
busy-named false false false e = e

free-named : (untested out busy : Bool) → out ≡ false → busy ≡ false
    → stands_for (timer_in_service (if untested then Some Untested else if out then Some PeerOutage else if busy then Some PeerBusy else None)) timer.L7 ≡ true
free-named true out busy o e = refl
free-named false true busy o e = absurd (let no = o in cc)
free-named false false true o e = absurd (let no = e in cc)
free-named false false false o e = refl

no-outage : (out serves busy : Bool) → (out ≡ true → (serves && busy) ≡ true) → busy ≡ false → out ≡ false
no-outage false serves busy h e = refl
no-outage true serves busy h e = sym (second-holds serves busy (h refl)) ∙ e

-- ---- a link that is there

its-view : (a : Abstract) (link : ℕ) → is_link a.node.parts link ≡ true
    → failing_at whole a link
    ≡ failing_by (standing_of (link_at a.node.parts link).alignment)
    (if is_in_service (link_at a.node.parts link).alignment then obstacle_of (link_at a.node.parts link) else None)
its-view a link there =
    ap
    (λ (b : Bool). failing_of (if b then Some (link_shown whole a.node link) else None)
    (if b && is_in_service (link_at a.node.parts link).alignment then obstacle_of (link_at a.node.parts link) else None)) there

its-timer : (a : Abstract) (link : ℕ) (t : LinkTimer) → is_link a.node.parts link ≡ true
    → is_named t
    (failing_by (standing_of (link_at a.node.parts link).alignment)
    (if is_in_service (link_at a.node.parts link).alignment then obstacle_of (link_at a.node.parts link) else None))
    ≡ true
    → is_named t (failing_at whole a link) ≡ true
its-timer a link t there e = ap (is_named t) (its-view a link there) ∙ e

pub named : failing_timers_are_named
named c asked link timer.L1 what few window there f out =
    let a = after_each asked (first_state c) in
    its-timer a link timer.L1 there
    (waits-named (link_at a.node.parts link).alignment _ timer.L1 refl
    (sym ((links-have c asked link few).waits timer.L1 refl) ∙ due-runs a.node.parts.timers (timer_name link timer.L1) out.1))
named c asked link timer.L2 what few window there f out =
    let a = after_each asked (first_state c) in
    its-timer a link timer.L2 there
    (waits-named (link_at a.node.parts link).alignment _ timer.L2 refl
    (sym ((links-have c asked link few).waits timer.L2 refl) ∙ due-runs a.node.parts.timers (timer_name link timer.L2) out.1))
named c asked link timer.L3 what few window there f out =
    let a = after_each asked (first_state c) in
    its-timer a link timer.L3 there
    (waits-named (link_at a.node.parts link).alignment _ timer.L3 refl
    (sym ((links-have c asked link few).waits timer.L3 refl) ∙ due-runs a.node.parts.timers (timer_name link timer.L3) out.1))
named c asked link timer.L4 what few window there f out = absurd (let no = f in cc)
named c asked link timer.L6 what few window there f out =
    let a = after_each asked (first_state c) in
    let l : Link = link_at a.node.parts link in
    let runs : (is_in_service l.alignment && l.peer_busy) ≡ true =
    sym (links-have c asked link few).busy ∙ due-runs a.node.parts.timers (timer_name link timer.L6) out.1 in
    its-timer a link timer.L6 there
    (serves-named l.alignment (obstacle_of l) timer.L6 (first-holds _ _ runs)
    (busy-named l.untested l.peer_outage l.peer_busy (second-holds (is_in_service l.alignment) l.peer_busy runs)))
named c asked link timer.L7 what few window there f out =
    let a = after_each asked (first_state c) in
    let l : Link = link_at a.node.parts link in
    let sends : (is_in_service l.alignment && not l.peer_busy) ≡ true =
    first-holds (is_in_service l.alignment && not l.peer_busy) _
    (sym (l7-watches c asked link few window) ∙ due-runs a.node.parts.timers (timer_name link timer.L7) out.1) in
    let free : l.peer_busy ≡ false = fails l.peer_busy (second-holds (is_in_service l.alignment) (not l.peer_busy) sends) in
    its-timer a link timer.L7 there
    (serves-named l.alignment (obstacle_of l) timer.L7 (first-holds (is_in_service l.alignment) (not l.peer_busy) sends)
    (free-named l.untested l.peer_outage l.peer_busy
    (no-outage l.peer_outage (is_in_service l.alignment) l.peer_busy ((every-hold c asked few).outages link).watched free) free))
