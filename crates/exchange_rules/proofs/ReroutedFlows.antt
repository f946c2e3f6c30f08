-- What the word of an adjacent point about a route does to flows.
use Rattle.exchange_rules.proofs.Basics.{◌≡◌, ◌<◌, ℕ, true, List, [], ◌∷◌, length, Option, Some, Result, refl, ap, sym, ◌∙◌, subst, arith, nat_tests, nat_eq, nat_lt, is_some, Contains, max, if◌then◌else◌, and_from}
use Rattle.exchange_rules.proofs.Definitions.{Configuration, Message, service_indicator, opc_of, set_place, destination_place, Management, MgmtFault, read_management, read_link_test, RouteStatus, Allowed, Prohibited, Restricted, Facts, Heard, HoldSet, holds, Reroute, Procedure, has_name, set_timer, counts-set, counts-clear, left-set, left-set_other, Parts, Node, Done, with_parts, answer, Handled, distribute, manage, local, from_afar, do_test, do_management, testing, facts, route_about, on_route_status, apply_route_status, with_status_heard, timed_status, forced, held_by_rerouting, WholeQueues, whole, HasAllPlaces}
use Rattle.changeback.specs.Laws.{GoesToAnother}
use Rattle.changeback.specs.Rerouting.{rerouted, held_for}
use Rattle.changeback.proofs.ToAnother.{goes_to_another, has_hold, is_rerouted, other_pairs}
use Rattle.timers.specs.declared.name.TimerName.TheVariants.{T10, T6}
use Rattle.exchange_rules.specs.LawsOfRerouting.{SaysStatus, statuses_are_taken_as_said, IsRerouted, flows_are_rerouted_by_status}

-- ---- what is said

module _ (c : Configuration) (link set destination : ℕ) (m : Message) (n : Node WholeQueues) where
  abbrev near : Done WholeQueues
  near =
      if nat_eq (service_indicator m) testing
      then do_test whole c (read_link_test m.sif) link (opc_of m) n
      else do_management whole c (read_management m.sif) (opc_of m) n

  abbrev its : RouteStatus → Done WholeQueues
  its status = answer Handled (with_parts n (with_status_heard c set destination status n.parts))

  managed : (status : RouteStatus) → SaysStatus c m set destination status n → distribute whole c link m n ≡ do_management whole c (read_management m.sif) (opc_of m) n
  managed status s =
      ap (λ (x : ℕ). if nat_lt x 2 then manage whole c link m n else local whole c (Some link) m n) s.indicator
      ∙ ap (λ (o : Option ℕ). if is_some o then near else answer (from_afar c m) n) s.from
      ∙ ap (λ (x : ℕ). if nat_eq x testing then do_test whole c (read_link_test m.sif) link (opc_of m) n else do_management whole c (read_management m.sif) (opc_of m) n) s.indicator

  told : (status : RouteStatus) (s : SaysStatus c m set destination status n)
      → on_route_status whole c status (route_about (set_place c (opc_of m)) (destination_place c s.about)) n ≡ its status
  told status s =
      ap (λ (o : Option ℕ). on_route_status whole c status (route_about o (destination_place c s.about)) n) s.from
      ∙ ap (λ (o : Option ℕ). on_route_status whole c status (route_about (Some set) o) n) s.place
      ∙ ap (λ (h : Heard). apply_route_status whole c h set destination status n) s.other

  taken : (status : RouteStatus) → SaysStatus c m set destination status n → distribute whole c link m n ≡ its status
  taken Prohibited s = managed Prohibited s ∙ ap (λ (r : Result Management MgmtFault). do_management whole c r (opc_of m) n) (s.prohibited refl) ∙ told Prohibited s
  taken Restricted s = managed Restricted s ∙ ap (λ (r : Result Management MgmtFault). do_management whole c r (opc_of m) n) (s.restricted refl) ∙ told Restricted s
  taken Allowed s = managed Allowed s ∙ ap (λ (r : Result Management MgmtFault). do_management whole c r (opc_of m) n) (s.allowed refl) ∙ told Allowed s

pub are-taken : statuses_are_taken_as_said
are-taken c link set destination status m node s = taken c link set destination m node status s

-- ---- what flows do

module _ (c : Configuration) (set destination : ℕ) (n : Node WholeQueues) (places : HasAllPlaces c n) (set-there : set < length c.sets) (there : destination < length c.destinations) where
  abbrev p : Parts
  p = n.parts

  abbrev timed : RouteStatus → Parts
  timed status = record p { timers = timed_status c set destination status p.timers }

  abbrev next : RouteStatus → Parts
  next status = forced c set destination status (timed status)

  abbrev goes : RouteStatus → ℕ → Type 0
  goes status sls = GoesToAnother (facts c p) (facts c (next status)) destination sls

  abbrev moved : RouteStatus → List ℕ
  moved status = rerouted (facts c p) (facts c (next status)) destination

  -- holding flows leaves what is known of routes
  same-facts : (selections : List ℕ) (q : Parts) → facts c (held_by_rerouting c destination selections q) ≡ facts c q
  same-facts [] q = refl
  same-facts (sls ∷ others) q = refl

  same-holds : (selections : List ℕ) (q : Parts) → (held_by_rerouting c destination selections q).holds ≡ held_for destination selections q.holds
  same-holds [] q = refl
  same-holds (sls ∷ others) q = refl

  counts : (status : RouteStatus) → (timed_status c set destination status p.timers).counts ≡ p.timers.counts
  counts Allowed = counts-clear (T10 set destination) p.timers
  counts Restricted = counts-set (T10 set destination) c.timers.t10 p.timers
  counts Prohibited = counts-set (T10 set destination) c.timers.t10 p.timers

  below : (k limit : ℕ) → k < limit → nat_lt k limit ≡ true
  below k limit few = grind (arith, nat_tests, few)

  has-t6 : has_name p.timers.counts (T6 destination) ≡ true
  has-t6 = below destination p.timers.counts.destinations (omega (arith, there, places.timers.destinations))

  has-t10 : has_name p.timers.counts (T10 set destination) ≡ true
  has-t10 =
      and_from (nat_lt set p.timers.counts.sets) (nat_lt destination p.timers.counts.destinations)
      (below set p.timers.counts.sets (omega (arith, set-there, places.timers.sets))) has-t6

  t6-set : (selections : List ℕ) (q : Parts) (sls : ℕ) → q.timers.counts ≡ p.timers.counts → Contains selections sls
      → (held_by_rerouting c destination selections q).timers.left (T6 destination) ≡ Some (max 1 c.timers.t6)
  t6-set [] q sls same (k, l, e) = absurd (omega (arith, l))
  t6-set (x ∷ xs) q sls same among = left-set (T6 destination) c.timers.t6 q.timers (ap (λ k. has_name k (T6 destination)) same ∙ has-t6)

  t10-kept : (selections : List ℕ) (q : Parts) → (held_by_rerouting c destination selections q).timers.left (T10 set destination) ≡ q.timers.left (T10 set destination)
  t10-kept [] q = refl
  t10-kept (x ∷ xs) q = left-set_other (T6 destination) (T10 set destination) c.timers.t6 q.timers (λ e. cc)

  t10-set : (set_timer (T10 set destination) c.timers.t10 p.timers).left (T10 set destination) ≡ Some (max 1 c.timers.t10)
  t10-set = left-set (T10 set destination) c.timers.t10 p.timers has-t10

  -- by TFR and TFA
  abbrev after : RouteStatus → Parts
  after status = held_by_rerouting c destination (moved status) (next status)

  their-facts : (status : RouteStatus) → facts c (after status) ≡ facts c (next status)
  their-facts status = same-facts (moved status) (next status)

  held-dest : destination < p.holds.destinations
  held-dest = omega (arith, there, places.parts.holds.destinations)

  holds-each : (status : RouteStatus) (sls : ℕ) → GoesToAnother (facts c p) (facts c (after status)) destination sls
      → (holds (after status).holds (Reroute destination) destination sls ≡ true) × ((after status).timers.left (T6 destination) ≡ Some (max 1 c.timers.t6))
  holds-each status sls g =
      let known : goes status sls = subst (λ (f : Facts). GoesToAnother (facts c p) f destination sls) (their-facts status) g in
      let among : Contains (moved status) sls = is_rerouted (facts c p) (facts c (next status)) destination sls known in (
        ap (λ (h : HoldSet). holds h (Reroute destination) destination sls) (same-holds (moved status) (next status))
            ∙ has_hold (facts c p) (facts c (next status)) destination sls p.holds among held-dest,
        t6-set (moved status) (next status) sls (counts status) among,
      )

  leaves-others : (status : RouteStatus) (procedure : Procedure) (other sls : ℕ)
      → (procedure ≡ Reroute destination → other ≡ destination → GoesToAnother (facts c p) (facts c (after status)) destination sls → ⊥)
      → holds (after status).holds procedure other sls ≡ holds p.holds procedure other sls
  leaves-others status procedure other sls apart =
      ap (λ (h : HoldSet). holds h procedure other sls) (same-holds (moved status) (next status))
      ∙ other_pairs destination (moved status) p.holds procedure other sls
      (λ e f among.
      apart e f
      (subst (λ (k : Facts). GoesToAnother (facts c p) k destination sls) (sym (their-facts status)) (goes_to_another (facts c p) (facts c (next status)) destination sls among)))

  pub rerouted-by : (status : RouteStatus) → IsRerouted c set destination status p (with_status_heard c set destination status p)
  rerouted-by Prohibited = record {
    forced = λ e. refl;
    controlled = λ e. absurd (e refl);
    others = λ procedure other sls apart. refl;
    tested = λ e. t10-set;
  }
  rerouted-by Restricted = record {
    forced = λ e. absurd cc;
    controlled = λ e sls g. holds-each Restricted sls g;
    others = λ procedure other sls apart. leaves-others Restricted procedure other sls apart;
    tested = λ e. t10-kept (moved Restricted) (next Restricted) ∙ t10-set;
  }
  rerouted-by Allowed = record {
    forced = λ e. absurd cc;
    controlled = λ e sls g. holds-each Allowed sls g;
    others = λ procedure other sls apart. leaves-others Allowed procedure other sls apart;
    tested = λ e. absurd (e refl);
  }

pub are-rerouted : flows_are_rerouted_by_status
are-rerouted c set destination status node places set-there there = rerouted-by c set destination node places set-there there status
