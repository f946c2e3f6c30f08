-- A declaration is confirmed, the confirmation of one ends its hold, and timers end holds, of the set between the two
-- or of another: by moves.
use Rattle.pair_rules.proofs.Basics.{◌≡◌, ◌≢◌, ◌<◌, ◌&&◌, ℕ, Bool, true, false, List, [], ◌∷◌, Some, refl, ap, sym, ◌∙◌, nat_eq, if◌then◌else◌, slice_index_or, get_or-set_other, ◌^◌}
use Rattle.pair_rules.proofs.Definitions.{Message, Handled, Ignored, Configuration, ChangebackAcknowledgement, HoldSet, Procedure, leaves_others, is_outstanding, Node, Noted, answer, with_parts, flagged_late, WholeQueues, whole, freed, late_code, late_time, changeback_acknowledgement, on_changeback_acknowledgement, on_changeback_declaration, rerouting_ended, made-management, StaysFit, fit-steps, run_timer-steps, Flow, Pair, Saying, Declaration, Confirmation}
use Rattle.timers.specs.declared.name.TimerName.TheVariants as name
use Rattle.flow_hold.specs.Holds as hold
use Rattle.flow_hold.specs.declared.procedure.Procedure.TheVariants as held_by
use Rattle.exchange_rules.proofs.SteppingReturns.{freed-steps}
use Rattle.exchange_rules.proofs.Rules.{rules-of}
use Rattle.pair_moves.specs.Ends as ends
use Rattle.pair_moves.specs.Moves as moves
use Rattle.pair_rules.proofs.World.{World}
use Rattle.pair_rules.proofs.Going.{goes-one}
use Rattle.pair_rules.proofs.Lates.{freed-other, freed-own}
use Rattle.neighbour_rules.proofs.Counted.{base-late, beyond-late, counts_of}
use Rattle.neighbour_rules.proofs.World.{holds_of, procedure_of, reading, says_of, shown}
use Rattle.neighbour_rules.proofs.Good.{Joint, Passes, at, confirms, made, passes-both, set}
use Rattle.neighbour_rules.proofs.Messages.{making, send_routed-passes}
use Rattle.neighbour_rules.proofs.Made.{confirmation-past, made-brief, word-made, word-says}
use Rattle.neighbour_rules.proofs.Falling.{hold_by, holds-by}
use Rattle.neighbour_rules.proofs.Unseen.{unseen-passes}

module _ (c z : Configuration) (j : Joint c z) where
  abbrev read : Message → Saying
  read = says_of c.own z.own j.base.there

  -- of what comes back
  abbrev heard : Message → Saying
  heard = says_of c.own z.own j.base.back

  -- ---- what other procedures hold stays where one is lifted

  pub apart-code : (code : ℕ) (other : ends.Procedure) → other ≢ ends.Code code → procedure_of c j.base.there (set c z j) other ≢ held_by.Code (set c z j) code
  apart-code code (ends.Changeover k) apart e = absurd cc
  apart-code code (ends.Code k) apart e = (let same : k ≡ code = cc in apart (ap ends.Code same))
  apart-code code (ends.Time k) apart e = absurd cc

  pub apart-set : (its code : ℕ) (other : ends.Procedure) → its ≢ set c z j → procedure_of c j.base.there (set c z j) other ≢ held_by.Code its code
  apart-set its code (ends.Changeover k) apart e = absurd cc
  apart-set its code (ends.Code k) apart e = (let same : set c z j ≡ its = cc in apart (sym same))
  apart-set its code (ends.Time k) apart e = absurd cc

  apart-reroute : (destination : ℕ) (other : ends.Procedure) → procedure_of c j.base.there (set c z j) other ≢ held_by.Reroute destination
  apart-reroute destination (ends.Changeover code) e = absurd cc
  apart-reroute destination (ends.Code code) e = absurd cc
  apart-reroute destination (ends.Time code) e = absurd cc

  lifted-leaves : (h : HoldSet) (procedure : Procedure) (other : ends.Procedure) (sls : ℕ) → procedure_of c j.base.there (set c z j) other ≢ procedure
      → hold_by c z j (hold.lifted h procedure) other sls ≡ hold_by c z j h other sls
  lifted-leaves h procedure other sls apart = leaves_others h procedure (procedure_of c j.base.there (set c z j) other) j.destination sls (λ e. apart (sym e))

  -- ---- a declaration is confirmed

  confirming : (w : World) (n : Node WholeQueues) (m : Message) (rest : List Message) (slc code : ℕ) → heard m ≡ Declaration code → slc < 16 → code < 256
      → Passes c z j (at c z j w n (m ∷ rest) []) (at c z j w n rest (changeback_acknowledgement c z.own slc code ∷ []))
  confirming w n m rest slc code says few small = record {
    goes = λ g.
        goes-one (reading c.own z.own j.base) _ _
        (moves.confirms (record {
          code = code;
          heard = record { message = m; rest = rest; first = refl; says = says };
          answer = changeback_acknowledgement c z.own slc code;
          answers = word-says c z j (ChangebackAcknowledgement slc code) (few, small);
          after = refl;
        }));
    good = λ g. record {
      fits = g.fits;
      route = g.route;
      settled = g.settled;
      silent = g.silent;
      queued = g.queued;
      elsewhere = g.elsewhere;
      held = g.held;
      loose = (made (word-made c z j (ChangebackAcknowledgement slc code) (few, small) (confirms slc code)), tt);
      arrived = g.arrived.1;
      coming = g.coming;
      counted = g.counted;
    };
  }

  pub declaration-passes : (w : World) (n : Node WholeQueues) (m : Message) (rest : List Message) (slc code : ℕ) → heard m ≡ Declaration code → slc < 16 → code < 256
      → Passes c z j (at c z j w n (m ∷ rest) []) (at c z j w (on_changeback_declaration whole c z.own slc code n).left rest [])
  declaration-passes w n m rest slc code says few small =
      passes-both c z j _ _ _ (confirming w n m rest slc code says few small)
      (send_routed-passes c z j w n rest (changeback_acknowledgement c z.own slc code) [] (made-management c z.own (ChangebackAcknowledgement slc code)))

  -- that of a third point is answered past the other
  pub declaration_past-passes : (w : World) (n : Node WholeQueues) (arrived : List Message) (point slc code : ℕ) → point < 2 ^ 14 → slc < 2 ^ 4 → point ≢ z.own
      → Passes c z j (at c z j w n arrived []) (at c z j w (on_changeback_declaration whole c point slc code n).left arrived [])
  declaration_past-passes w n arrived point slc code fits few d =
      let m : Message = changeback_acknowledgement c point slc code in
      passes-both c z j _ _ _ (making c z j w n arrived m [] (confirmation-past c z j point slc code fits few d) (made-brief c z j point (ChangebackAcknowledgement slc code)))
      (send_routed-passes c z j w n arrived m [] (made-management c point (ChangebackAcknowledgement slc code)))

  -- ---- a confirmation ends its hold

  freeing : (w : World) (n : Node WholeQueues) (m : Message) (rest : List Message) (code : ℕ) → heard m ≡ Confirmation code
      → Passes c z j (at c z j w n (m ∷ rest) []) (at c z j w (with_parts n (freed (set c z j) code n.parts)) rest [])
  freeing w n m rest code says = record {
    goes = λ g.
        goes-one (reading c.own z.own j.base) _ _
        (moves.ends_hold (record {
          code = code;
          heard = record { message = m; rest = rest; first = refl; says = says };
          outstanding = λ k. is_outstanding (freed (set c z j) code n.parts).codes (set c z j) k;
          freed = freed-own n.parts.codes (set c z j) code;
          others = λ other apart. freed-other n.parts.codes (set c z j) code other apart;
          holds = holds_of c j.base.there (set c z j) (freed (set c z j) code n.parts);
          lifted = λ procedure flow apart.
              holds-by c z j (freed (set c z j) code n.parts) procedure flow
              ∙ ap (λ (b : Bool). nat_eq flow.point j.base.there && b) (lifted-leaves n.parts.holds (held_by.Code (set c z j) code) procedure flow.sls (apart-code code procedure apart))
              ∙ sym (holds-by c z j n.parts procedure flow);
          after = refl;
        }));
    good = λ g. record {
      fits = (freed-steps (fit-steps c) (set c z j) code n).stay g.fits;
      route = g.route;
      settled = g.settled;
      silent = g.silent;
      queued = g.queued;
      elsewhere = g.elsewhere;
      held = g.held;
      loose = g.loose;
      arrived = g.arrived.1;
      coming = g.coming;
      counted = g.counted;
    };
  }

  unasked : (w : World) (n : Node WholeQueues) (m : Message) (rest : List Message) (code : ℕ) → heard m ≡ Confirmation code → is_outstanding n.parts.codes (set c z j) code ≡ false
      → Passes c z j (at c z j w n (m ∷ rest) []) (at c z j w n rest [])
  unasked w n m rest code says free = record {
    goes = λ g.
        goes-one (reading c.own z.own j.base) _ _
        (moves.ignores_confirmation (record {
          code = code;
          heard = record { message = m; rest = rest; first = refl; says = says };
          free = free;
          after = refl;
        }));
    good = λ g. record {
      fits = g.fits;
      route = g.route;
      settled = g.settled;
      silent = g.silent;
      queued = g.queued;
      elsewhere = g.elsewhere;
      held = g.held;
      loose = g.loose;
      arrived = g.arrived.1;
      coming = g.coming;
      counted = g.counted;
    };
  }

  pub confirmation-passes : (w : World) (n : Node WholeQueues) (m : Message) (rest : List Message) (code : ℕ) → heard m ≡ Confirmation code
      → Passes c z j (at c z j w n (m ∷ rest) []) (at c z j w (on_changeback_acknowledgement whole c (Some (set c z j)) code n).left rest [])
  confirmation-passes w n m rest code says = by (is_outstanding n.parts.codes (set c z j) code) refl
    where
      by : (b : Bool) → is_outstanding n.parts.codes (set c z j) code ≡ b
          → Passes c z j (at c z j w n (m ∷ rest) []) (at c z j w (if b then answer Handled (with_parts n (freed (set c z j) code n.parts)) else answer Ignored n).left rest [])
      by true e = freeing w n m rest code says
      by false e = unasked w n m rest code says e

  -- that of a code of another set
  pub freed-elsewhere : (w : World) (n : Node WholeQueues) (arrived loose : List Message) (its code : ℕ) → its ≢ set c z j
      → Passes c z j (at c z j w n arrived loose) (at c z j w (with_parts n (freed its code n.parts)) arrived loose)
  freed-elsewhere w n arrived loose its code d = unseen-passes c z j n (with_parts n (freed its code n.parts)) (record {
    fits = freed-steps (fit-steps c) its code n;
    queues = refl;
    alignments = λ k. refl;
    untested = λ k. refl;
    standings = λ k. refl;
    holds = λ procedure sls. lifted-leaves n.parts.holds (held_by.Code its code) procedure sls (apart-set its code procedure d);
    codes = λ k. ap (λ (row : List Bool). slice_index_or row k false) (get_or-set_other n.parts.codes its (set c z j) _ [] (λ e. d (sym e)));
    lost = refl;
    late = refl;
    route = λ e. e;
    settled = λ h. h;
    silent = λ h. h;
  }) w arrived loose

  -- ---- timers end holds

  -- a procedure holds nothing from now on, and that is noted
  abbrev ended : Procedure → (notices : Noted) → Node WholeQueues → Node WholeQueues
  ended procedure notices n = with_parts n (flagged_late (record n.parts { holds = hold.lifted n.parts.holds procedure; notices = notices }))

  running-late : (w : World) (n : Node WholeQueues) (arrived loose : List Message) (procedure : Procedure) (notices : Noted) → StaysFit c n (ended procedure notices n)
      → Passes c z j (at c z j w n arrived loose) (at c z j w (ended procedure notices n) arrived loose)
  running-late w n arrived loose procedure notices stay = record {
    goes = λ g.
        let before : Pair = shown c z (set c z j) j.shares.far_set j.base (at c z j w n arrived loose) in
        let held_then : ends.Procedure → Flow → Bool = holds_of c j.base.there (set c z j) (ended procedure notices n).parts in
        goes-one (reading c.own z.own j.base) _ _
        (moves.runs_late (record {
          holds = held_then;
          after = ap (λ (late : Bool). record before { near = record before.near { holds = held_then; late = late } }) (beyond-late j.base.near (counts_of n.parts) j.grows g.counted);
        }));
    good = λ g. record {
      fits = stay.stay g.fits;
      route = g.route;
      settled = g.settled;
      silent = g.silent;
      queued = g.queued;
      elsewhere = g.elsewhere;
      held = g.held;
      loose = g.loose;
      arrived = g.arrived;
      coming = g.coming;
      counted = base-late j.base.near (counts_of n.parts) j.grows g.counted;
    };
  }

  pub late_time-passes : (w : World) (n : Node WholeQueues) (arrived loose : List Message) (link : ℕ)
      → Passes c z j (at c z j w n arrived loose) (at c z j w (with_parts n (late_time link n.parts)) arrived loose)
  late_time-passes w n arrived loose link =
      running-late w n arrived loose (held_by.Time link) (late_time link n.parts).notices (run_timer-steps (rules-of (fit-steps c)) (name.T3 link) n (λ of its e. tt))

  pub late_code-passes : (w : World) (n : Node WholeQueues) (arrived loose : List Message) (its code : ℕ)
      → Passes c z j (at c z j w n arrived loose) (at c z j w (with_parts n (late_code its code n.parts)) arrived loose)
  late_code-passes w n arrived loose its code =
      running-late w n arrived loose (held_by.Code its code) (late_code its code n.parts).notices (run_timer-steps (rules-of (fit-steps c)) (name.T4 its code) n (λ of who e. tt))

  -- no hold of a rerouting is shown
  pub rerouting_ended-passes : (w : World) (n : Node WholeQueues) (arrived loose : List Message) (destination : ℕ)
      → Passes c z j (at c z j w n arrived loose) (at c z j w (with_parts n (rerouting_ended destination n.parts)) arrived loose)
  rerouting_ended-passes w n arrived loose destination = unseen-passes c z j n (with_parts n (rerouting_ended destination n.parts)) (record {
    fits = run_timer-steps (rules-of (fit-steps c)) (name.T6 destination) n (λ of its e. tt);
    queues = refl;
    alignments = λ k. refl;
    untested = λ k. refl;
    standings = λ k. refl;
    holds = λ procedure sls. lifted-leaves n.parts.holds (held_by.Reroute destination) procedure sls (apart-reroute destination procedure);
    codes = λ k. refl;
    lost = refl;
    late = refl;
    route = λ e. e;
    settled = λ h. h;
    silent = λ h. h;
  }) w arrived loose
