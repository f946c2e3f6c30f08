-- A link that enters service takes its flows back: the rule is made of steps, and each declaration goes out on a link
-- in service.
use Rattle.exchange_rules.proofs.Basics.{◌≡◌, ◌≢◌, ℕ, zero, suc, Bool, true, false, not, length, nat_eq, Option, Some, None, refl, ap, ◌∙◌, arith, if◌then◌else◌, and_parts, eqb-true, nat_tests}
use Rattle.exchange_rules.proofs.Definitions.{Configuration, Facts, chosen_link, Procedure, Code, any_flow, IsAnyFlow, some_passes, Parts, Node, with_parts, in_service, in_traffic, network_of, facts, goes_by, set_of, is_taken_back, loses_flows, procedure_by, code_in_use, freed, code_for, declare_by, hold_flows, take_back_each, change_back, WholeQueues, whole}
use Rattle.timers.specs.declared.name.TimerName.TheVariants as name
use Rattle.node_links.proofs.Chosen.{chosen_serving, chosen_carrying}
use Rattle.exchange_rules.proofs.Places.{with_flows-fits, lifted-fits}
use Rattle.exchange_rules.proofs.TakenPairs.{IsAlike, take_back_each-alike}
use Rattle.exchange_rules.proofs.Steps.{IsOfSteps, Deed, IsOfDeeds}
use Rattle.exchange_rules.proofs.SteppingTimers.{set-timed, clear-timed}

-- ---- the links that lose flows

-- a flow went by another link than the one that returned, which carried traffic then
pub record Went (link : ℕ) (p : Parts) (other : ℕ) : Type 0 where
  pub apart : other ≢ link
  pub served : in_service p other ≡ true
  pub carried : in_traffic p other ≡ true

goes-to : (o : Option ℕ) (link : ℕ) → goes_by o link ≡ true → o ≡ Some link
goes-to (Some its) link e = ap (λ (n : ℕ). Some n) (eqb-true its link e)
goes-to None link e = absurd cc

unlike : (other link : ℕ) → not (nat_eq other link) ≡ true → other ≢ link
unlike other link e same = grind (arith, nat_tests, e, same)

pub all-went : (c : Configuration) (link : ℕ) (before : Parts) (after : Facts) (other : ℕ) → loses_flows c (facts c before) after other link ≡ true → Went link before other
all-went c link before after other e =
    let parts : (not (nat_eq other link) ≡ true) × (any_flow (length c.destinations) (is_taken_back (facts c before) after other link) ≡ true) = and_parts (not (nat_eq other link)) (any_flow (length c.destinations) (is_taken_back (facts c before) after other link)) e in
    let some : IsAnyFlow (length c.destinations) (is_taken_back (facts c before) after other link) =
    (some_passes (length c.destinations) (is_taken_back (facts c before) after other link)).0 parts.1 in
    let taken : (goes_by (chosen_link (facts c before) some.flow.destination some.flow.sls) other ≡ true) × (goes_by (chosen_link after some.flow.destination some.flow.sls) link ≡ true) =
    and_parts (goes_by (chosen_link (facts c before) some.flow.destination some.flow.sls) other) (goes_by (chosen_link after some.flow.destination some.flow.sls) link) some.passing in
    record {
      apart = unlike other link parts.0;
      served = chosen_serving (network_of c before) some.flow.destination some.flow.sls other (goes-to _ other taken.0);
      carried = chosen_carrying (network_of c before) some.flow.destination some.flow.sls other (goes-to _ other taken.0);
    }

module _ {c : Configuration} {Own Counts : ℕ → Type 0} {R : Node WholeQueues → Node WholeQueues → Type 0} (s : IsOfSteps c Own Counts R) where
  code_in_use-steps : (set code : ℕ) (n : Node WholeQueues) → R n (with_parts n (code_in_use c set code n.parts))
  code_in_use-steps set code n = s.both _ _ _ (s.coded set code true n) (s.timed _ _ (set-timed (name.T4 set code) c.timers.t4 n.parts.timers (λ l e. cc)))

  declare_by-steps : (code : Option ℕ) (link other : ℕ) (n : Node WholeQueues) → in_service n.parts link ≡ true → in_service n.parts other ≡ true
      → R n (declare_by whole c code link other n)
  declare_by-steps (Some code) link other n e f =
      s.both _ _ _ (code_in_use-steps (set_of c link) code n) (s.declared link other code (with_parts n (code_in_use c (set_of c link) code n.parts)) e f)
  declare_by-steps None link other n e f = s.timed _ n (set-timed (name.T3 link) c.timers.t3 n.parts.timers (λ l e. cc))

  pub hold_flows-steps : (before after : Facts) (code : Option ℕ) (link other : ℕ) (n : Node WholeQueues) → in_service n.parts link ≡ true → in_service n.parts other ≡ true
      → R n (hold_flows whole c before after code link other n)
  hold_flows-steps before after code link other n e f =
      let begun : Node WholeQueues = declare_by whole c code link other n in
      let procedure : Procedure = procedure_by c link code in
      s.both _ _ _ (declare_by-steps code link other n e f)
      (s.holding _ begun (record { fits = with_flows-fits c begun.parts.holds procedure (is_taken_back before after other link) }))

  pub freed-steps : (set code : ℕ) (n : Node WholeQueues) → R n (with_parts n (freed set code n.parts))
  freed-steps set code n =
      s.both _ _ _ (s.coded set code false n)
      (s.both _ _ _ (s.holding _ _ (record { fits = lifted-fits c n.parts.holds (Code set code) })) (s.timed _ _ (clear-timed (name.T4 set code) n.parts.timers (λ l e. cc))))

module _ {c : Configuration} {Own Counts : ℕ → Type 0} {May : Deed → Type 0} {R : Node WholeQueues → Node WholeQueues → Type 0} (s : IsOfDeeds c Own Counts May R) where
  take_back-by : (loses : Bool) (before after : Facts) (code : Option ℕ) (link other : ℕ) (n : Node WholeQueues) → in_service n.parts link ≡ true
      → (loses ≡ true → in_service n.parts other ≡ true) → R n (if loses then hold_flows whole c before after code link other n else n)
  take_back-by true before after code link other n e f = s.returns before after code link other n e (f refl)
  take_back-by false before after code link other n e f = s.sends.none n

  take_back_each-steps : (before after : Facts) (link many : ℕ) (n : Node WholeQueues) → in_service n.parts link ≡ true
      → ((other : ℕ) → loses_flows c before after other link ≡ true → in_service n.parts other ≡ true) → R n (take_back_each whole c before after link many n)
  unfolding take_back_each
  take_back_each-steps before after link zero n e f = s.sends.none n
  take_back_each-steps before after link (suc other) n e f =
      let one : Node WholeQueues = take_back_each whole c before after link other n in
      let same : IsAlike whole c one n = take_back_each-alike whole c before after link other n in
      let serves : (l : ℕ) → in_service one.parts l ≡ in_service n.parts l = λ l. ap (λ links. in_service (record n.parts { links = links }) l) same.links in
      s.sends.both _ _ _ (take_back_each-steps before after link other n e f)
      (take_back-by (loses_flows c before after other link) before after (code_for whole c link other one) link other one (serves link ∙ e) (λ h. serves other ∙ f other h))

  -- a link that returned takes its flows back: each other link is in service that was
  pub change_back-steps : (link : ℕ) (before : Parts) (n : Node WholeQueues) → in_service n.parts link ≡ true
      → ((other : ℕ) → other ≢ link → in_service before other ≡ true → in_service n.parts other ≡ true) → R n (change_back whole c link (facts c before) n)
  change_back-steps link before n e f =
      let went : (other : ℕ) → loses_flows c (facts c before) (facts c n.parts) other link ≡ true → Went link before other = all-went c link before (facts c n.parts) in
      take_back_each-steps (facts c before) (facts c n.parts) link (length c.links) n e (λ other h. f other (went other h).apart (went other h).served)
