-- Each link is steady at first, and stays so.
use Rattle.exchange_rules.proofs.Basics.{◌≡◌, ◌<◌, ◌≤◌, ℕ, Bool, true, false, length, nat_lt, refl, ap, sym, subst, arith, is_some, ⊎_elim, cases_lt, nat_tests, get_or_past}
use Rattle.exchange_rules.proofs.Definitions.{Configuration, WINDOW, Queue, first_queue, sound-first, L7, left-none, Link, down_link, Standing, no_changeover, Node, link_at, changeover_of, WholeQueues, queue_at, counts_in, first_state, HasAllPlaces, after_each, IsSteady, is_l7_running, AreLinksSteady, links_first_steady, links_stay_steady, l7_watches}
use Rattle.exchange_rules.proofs.Lists.{each-replicate}
use Rattle.exchange_rules.proofs.SteadyLinks.{steady-stands, stands-steady}
use Rattle.exchange_rules.proofs.SteadySteps.{At, Keeps}
use Rattle.exchange_rules.proofs.SteadyAll.{steady-steps, ticked-keeps, run_next-keeps}
use Rattle.exchange_rules.proofs.LastingPlaces.{places-first, places-stay}
use Rattle.exchange_rules.proofs.Asked.{IsOfAll, asked-all}
use Rattle.exchange_rules.proofs.Rules.{rules-of}

steady-all : (c : Configuration) (l : ℕ) → IsOfAll c (Keeps true c l)
steady-all c l = record { rules = rules-of (steady-steps true c l); ticks = ticked-keeps c l; next = run_next-keeps c l }

-- ---- a link that isn't there

first-link : (w : ℕ) → w ≤ WINDOW → IsSteady w down_link no_changeover first_queue false
first-link w l = record { queue = sound-first w l; associated = λ e. refl; changing = λ e. refl; awaiting = λ e. refl; moved = λ e f. refl; watched = refl }

steady-as : (w : ℕ) (x y : Link) (s t : Standing) (q p : Queue) (b d : Bool) → y ≡ x → t ≡ s → p ≡ q → d ≡ b → IsSteady w x s q b → IsSteady w y t p d
steady-as w x y s t q p b d e f g k h =
    subst (λ (z : Link). IsSteady w z t p d) (sym e)
    (subst (λ (z : Standing). IsSteady w x z p d) (sym f) (subst (λ (z : Queue). IsSteady w x s z d) (sym g) (subst (λ (z : Bool). IsSteady w x s q z) (sym k) h)))

absent-link : (c : Configuration) (w : ℕ) (n : Node WholeQueues) (l : ℕ) → w ≤ WINDOW → HasAllPlaces c n → length c.links ≤ l
    → IsSteady w (link_at n.parts l) (changeover_of n.parts l) (queue_at n.queues l) (is_l7_running n l)
absent-link c w n l few h past =
    let gone : nat_lt l n.parts.timers.counts.links ≡ false = (let far : n.parts.timers.counts.links ≤ l = omega (arith, past, h.timers.links) in grind (arith, nat_tests, far)) in
    steady-as w _ _ _ _ _ _ _ _
    (get_or_past n.parts.links l down_link (omega (arith, past, h.parts.links)))
    (get_or_past n.parts.changeovers l no_changeover (omega (arith, past, h.parts.changeovers)))
    (get_or_past n.queues.links l first_queue (omega (arith, past, h.queues)))
    (ap is_some (n.parts.timers.only (L7 l) gone)) (first-link w few)

-- ---- one that is

there-link : (c : Configuration) (n : Node WholeQueues) (l : ℕ) → HasAllPlaces c n → AreLinksSteady c.window n → l < length c.links → At true c l n
there-link c n l h steady there = record {
  there = omega (arith, there, h.parts.links);
  changes_over = omega (arith, there, h.parts.changeovers);
  queues = omega (arith, there, h.queues);
  named = omega (arith, there, h.timers.links);
  stands = steady-stands c.window _ _ _ _ (steady.each l);
}

pub links-stay : links_stay_steady
links-stay asked a h steady = record {
  each = λ l. ⊎_elim
      (λ (there : l < length a.settings.links).
      stands-steady a.settings.window _ _ _ _ ((asked-all (steady-all a.settings l) asked a refl).stay (there-link a.settings a.node l h steady there)).stands)
      (λ (past : length a.settings.links ≤ l).
      absent-link a.settings a.settings.window (after_each asked a).node l (steady.each l).queue.limit (places-stay asked a h) past)
      (cases_lt l (length a.settings.links));
}

pub links-first : links_first_steady
links-first c few = record {
  each = λ l. steady-as c.window _ _ _ _ _ _ _ _
      (each-replicate (λ (x : Link). x ≡ down_link) (length c.links) l down_link refl)
      (each-replicate (λ (s : Standing). s ≡ no_changeover) (length c.links) l no_changeover refl)
      (each-replicate (λ (q : Queue). q ≡ first_queue) (length c.links) l first_queue refl)
      (ap is_some (left-none (L7 l) (counts_in c))) (first-link c.window few);
}

pub l7-watches : l7_watches
l7-watches c asked l few window =
    ((links-stay asked (first_state c) (places-first c few) (links-first c window)).each l).watched
