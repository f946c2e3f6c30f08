-- What holds of each step holds of each rule that changes holds, changeovers or the timers that end holds.
use Rattle.exchange_rules.proofs.Basics.{◌≡◌, ℕ, true, List, [], ◌∷◌, refl, sym, ◌∙◌, inl, inr}
use Rattle.exchange_rules.proofs.Definitions.{Configuration, Node, with_parts, held_by_rerouting, link_at, recovered, Changeover, WholeQueues, whole}
use Rattle.changeback.specs.Rerouting.{held_for}
use Rattle.timers.specs.declared.name.TimerName.TheVariants as name
use Rattle.exchange_rules.proofs.Places.{held_for-fits, lifted-fits}
use Rattle.exchange_rules.proofs.Steps.{IsOfSteps, IsOfRules, sends-of, not-both, lateness-other, outed, recovering}
use Rattle.exchange_rules.proofs.SteppingTimers.{set-timed}
use Rattle.exchange_rules.proofs.SteppingFailures.{suspended-steps, fail-steps, on_changeover_order-steps, on_changeover_acknowledgement-steps, on_changeover_timer-steps, unbarred-steps, asks-steps}
use Rattle.exchange_rules.proofs.SteppingReturns.{freed-steps, hold_flows-steps}

module _ {c : Configuration} {Own Counts : ℕ → Type 0} {R : Node WholeQueues → Node WholeQueues → Type 0} (s : IsOfSteps c Own Counts R) where
  reroutes-steps : (destination : ℕ) (selections : List ℕ) (n : Node WholeQueues) → R n (with_parts n (held_by_rerouting c destination selections n.parts))
  reroutes-steps destination [] n = s.none n
  reroutes-steps destination (sls ∷ others) n =
      s.both _ _ _ (s.holding (held_for destination (sls ∷ others) n.parts.holds) n (record { fits = held_for-fits c n.parts.holds destination (sls ∷ others) }))
      (s.timed _ _ (set-timed (name.T6 destination) c.timers.t6 n.parts.timers (λ link e. cc)))

  outed-steps : (link : ℕ) (n : Node WholeQueues) → c.processor_outage ≡ true → R n (with_parts n (outed link n.parts))
  outed-steps link n set =
      s.linked link (record (link_at n.parts link) { peer_outage = true }) n (record { alignment = refl; period = refl; association = refl; busy = refl; waits = inl refl; untested = refl }) (λ out. inr set)

  back-steps : (link : ℕ) (n : Node WholeQueues) → R n (with_parts n (recovering link n.parts))
  back-steps link n =
      s.linked link (recovered (link_at n.parts link)) n (record { alignment = refl; period = refl; association = refl; busy = refl; waits = inr (inr refl); untested = refl }) (λ out. absurd cc)

  pub rules-of : IsOfRules c Own Counts R
  rules-of = record {
    sends = sends-of s;
    tested = s.tested;
    probed = s.probed;
    held = s.held;
    taken_out = s.taken_out;
    late = λ notice n e. s.both _ _ _ (s.late n) (s.noted notice _ (record { other = lateness-other notice e; lost = λ f. absurd (not-both notice f e); late = λ f. refl }));
    timed = λ r n e k. s.timed r n e.timed;
    rerouted = λ routes n e k. s.rerouted routes n e;
    told = s.told;
    titled = λ titles n may. s.titled titles n;
    unequipped = λ counts n e may. s.unequipped counts n e;
    linked = λ link x n e o. s.linked link x n e (λ out. inl (sym o ∙ out));
    parted = s.parted;
    opened = λ link n own there e f may. s.opened link n own there e f;
    stepped = λ link input step n own e k. s.stepped link input step n own e;
    passed = λ link n e k. s.passed link n e;
    busied = s.busied;
    resumed = λ link n own e f o. s.resumed link n own e f;
    accepted = s.accepted;
    sent = s.sent;
    put = λ link n set e b.
        s.both _ _ _ (outed-steps link n set) (suspended-steps s link (whole.unconfirmed n.queues link) (with_parts n (outed link n.parts)));
    back = λ link n e may.
        s.both _ _ _ (back-steps link n) (s.holding _ (with_parts n (recovering link n.parts)) (record { fits = lifted-fits c n.parts.holds (Changeover link) }));
    fails = λ link why n may up. fail-steps s link why n;
    orders = λ link number n falls ends. on_changeover_order-steps s link number n;
    acknowledges = λ link number n may wait. on_changeover_acknowledgement-steps s link number n;
    expires = λ timer link n may wait. on_changeover_timer-steps s timer link n;
    releases = λ link n e wait. unbarred-steps s link n e;
    asks = asks-steps s;
    returns = hold_flows-steps s;
    frees = λ set code n may. freed-steps s set code n;
    reroutes = reroutes-steps;
    lifts = λ procedure n may. s.holding _ n (record { fits = lifted-fits c n.parts.holds procedure });
  }
