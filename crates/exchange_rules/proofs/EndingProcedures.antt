-- A procedure that holds other flows than before, with its timer: what ends the others' holds is unchanged.
use Rattle.exchange_rules.proofs.Basics.{◌≡◌, ◌≢◌, ◌⊎◌, inl, inr, ℕ, Bool, true, false, ◌&&◌, List, [], ◌∷◌, refl, ap, sym, ◌∙◌, subst, arith, ⊎_elim, eqb-true, nat_lt}
use Rattle.exchange_rules.proofs.Definitions.{Configuration, CHANGEBACK_CODES, Procedure, Changeover, Code, Time, Reroute, HoldSet, holds, with_hold, may_parts, Standing, TimerName, has_name, Parts, Node, changeover_of, in_outage, WholeQueues, HasAllPlaces}
use Rattle.std.proofs.lemmas.Bool.{lt-ltb}
use Rattle.changeback.specs.Rerouting.{held_for}
use Rattle.flow_hold.proofs.Holding.{MayHold, hold-leaves_others}
use Rattle.flow_hold.proofs.Numbers.{same, same-itself}
use Rattle.flow_hold.specs.Holds as hold
use Rattle.timers.specs.declared.name.TimerName.TheVariants as name
use Rattle.exchange_rules.specs.LastingHolds.{WillEnd, AllWillEnd}
use Rattle.exchange_rules.proofs.WillEnding.{no-way, runs-as, still-completes, links-same, still-out}

-- ---- procedures, and their timers

-- the timer that ends a procedure's holds
abbrev pub timer_of : Procedure → TimerName
timer_of (Changeover link) = name.T1 link
timer_of (Code set code) = name.T4 set code
timer_of (Time link) = name.T3 link
timer_of (Reroute destination) = name.T6 destination

abbrev ended_by : TimerName → Procedure
ended_by (name.T4 set code) = Code set code
ended_by (name.T3 link) = Time link
ended_by (name.T6 destination) = Reroute destination
ended_by (name.T1 link) = Changeover link
ended_by _ = Changeover 0

undone : (procedure : Procedure) → ended_by (timer_of procedure) ≡ procedure
undone (Changeover link) = refl
undone (Code set code) = refl
undone (Time link) = refl
undone (Reroute destination) = refl

own-timer : (one other : Procedure) → timer_of one ≡ timer_of other → one ≡ other
own-timer one other e = sym (undone one) ∙ ap ended_by e ∙ undone other

pub cases-procedure : (one other : Procedure) → (one ≡ other) ⊎ (one ≢ other)
cases-procedure one other = by (hold.is_same one other) refl
  where
    by : (b : Bool) → hold.is_same one other ≡ b → (one ≡ other) ⊎ (one ≢ other)
    by true e = inl (same one other e)
    by false e = inr (λ it. no-way (hold.is_same one other) e (ap (λ (x : Procedure). hold.is_same x other) it ∙ same-itself other))

-- a procedure that holds a flow has its timer
pub has-timer : (c : Configuration) (n : Node WholeQueues) → HasAllPlaces c n → (procedure : Procedure) (destination sls : ℕ) → holds n.parts.holds procedure destination sls ≡ true
    → has_name n.parts.timers.counts (timer_of procedure) ≡ true
has-timer c n h procedure destination sls e =
    by procedure (may_parts n.parts.holds procedure destination sls (h.parts.holds.pairs.each (record { procedure = procedure; destination = destination; sls = sls }) e))
  where
    links : n.parts.holds.links ≡ n.parts.timers.counts.links
    links = h.parts.holds.links ∙ sym h.timers.links

    by : (its : Procedure) → MayHold n.parts.holds its destination sls → has_name n.parts.timers.counts (timer_of its) ≡ true
    by (Changeover link) may = sym (ap (nat_lt link) links) ∙ may.to
    by (Code set code) may = sym (ap (λ (sets : ℕ). nat_lt set sets && nat_lt code CHANGEBACK_CODES) (h.parts.holds.sets ∙ sym h.timers.sets)) ∙ may.to
    by (Time link) may = sym (ap (nat_lt link) links) ∙ may.to
    by (Reroute rerouted) may =
        lt-ltb rerouted n.parts.timers.counts.destinations
        (omega (arith, eqb-true rerouted destination may.to, may.there, h.parts.holds.destinations, h.timers.destinations))

-- what a procedure other than a changeover holds changes, and with it no other timer that ends holds
pub held-else : (own : Procedure) (p q : Parts) → q.changeovers ≡ p.changeovers → ((timer : TimerName) → timer_of own ≢ timer → q.timers.left timer ≡ p.timers.left timer)
    → ((link : ℕ) → timer_of own ≢ name.T1 link) → ((link : ℕ) → timer_of own ≢ name.T2 link)
    → ((procedure : Procedure) (destination sls : ℕ) → procedure ≢ own → holds q.holds procedure destination sls ≡ true → holds p.holds procedure destination sls ≡ true)
    → ((destination sls : ℕ) → holds q.holds own destination sls ≡ true → WillEnd own q) → q.links ≡ p.links → AllWillEnd p → AllWillEnd q
held-else own p q standings others first second fewer mine links h = record {
  outages = λ link. (links-same p q links link).passes (h.outages link);
  holds = λ procedure destination sls e. ⊎_elim
      (λ (same : procedure ≡ own). subst (λ (x : Procedure). WillEnd x q) (sym same) (mine destination sls (subst (λ (x : Procedure). holds q.holds x destination sls ≡ true) same e)))
      (λ (d : procedure ≢ own). ended procedure d (h.holds procedure destination sls (fewer procedure destination sls d e))) (cases-procedure procedure own);
  changeovers = λ link. still-completes (changeover_of p link) (changeover_of q link) _ _ _ _ (standing link)
      (runs-as (name.T1 link) p.timers q.timers (others (name.T1 link) (first link))) (runs-as (name.T2 link) p.timers q.timers (others (name.T2 link) (second link))) (h.changeovers link);
}
  where
    standing : (link : ℕ) → changeover_of q link ≡ changeover_of p link
    standing link = ap (λ (all : List Standing). changeover_of (record p { changeovers = all }) link) standings

    ended : (procedure : Procedure) → procedure ≢ own → WillEnd procedure p → WillEnd procedure q
    ended (Changeover link) d e =
        ⊎_elim (λ (i : (changeover_of p link).incomplete ≡ true). inl (ap (λ (s : Standing). s.incomplete) (standing link) ∙ i))
        (λ (o : in_outage p link ≡ true). inr (still-out p q link (links-same p q links link) (h.outages link) o)) e
    ended (Code its code) d e = runs-as (name.T4 its code) p.timers q.timers (others (name.T4 its code) (λ x. d (sym (own-timer own (Code its code) x)))) e
    ended (Time link) d e = runs-as (name.T3 link) p.timers q.timers (others (name.T3 link) (λ x. d (sym (own-timer own (Time link) x)))) e
    ended (Reroute destination) d e = runs-as (name.T6 destination) p.timers q.timers (others (name.T6 destination) (λ x. d (sym (own-timer own (Reroute destination) x)))) e

pub held_for-leaves : (destination : ℕ) (selections : List ℕ) (h : HoldSet) (procedure : Procedure) (its sls : ℕ) → procedure ≢ Reroute destination
    → holds (held_for destination selections h) procedure its sls ≡ holds h procedure its sls
held_for-leaves destination [] h procedure its sls d = refl
held_for-leaves destination (one ∷ others) h procedure its sls d =
    held_for-leaves destination others (with_hold h (Reroute destination) destination one) procedure its sls d
    ∙ hold-leaves_others h (Reroute destination) procedure destination one its sls (λ e. d (ap (λ x. x.0) e))
