-- A return, by the procedure of each other link.
use Rattle.exchange_rules.proofs.Basics.{◌≡◌, ◌≢◌, ◌<◌, ◌≤◌, ◌++◌, ℕ, suc, Bool, true, false, ◌&&◌, not, [], ◌∷◌, length, Option, Some, None, refl, ap, sym, ◌∙◌, subst, arith, inl, inr, ⊎_elim, cases_lt, cases_eq, get_or-set_same}
use Rattle.exchange_rules.proofs.Definitions.{HasAllPlaces, Link, Running, stepped, link_at, enters_traffic, is_first_test, test_passed, begun_anew, begin_traffic, step_on, Message, Configuration, Queue, first_queue, appended, Facts, chosen_link, Procedure, Code, holds, IsAnyFlow, may_parts, is_outstanding, Parts, Node, with_parts, set_of, facts, WholeQueues, queue_at, whole, declaration, loses_flows, procedure_by, code_for, hold_flows, change_back, has_other, enters, return_if, HasPlacesFor, HasReturned, HasLost, IsChosen, IsReturn, flows_return_by_their_procedures, entries_are_returns}
use Rattle.exchange_rules.proofs.Belonging.{chosen_listed, chosen_there}
use Rattle.exchange_rules.proofs.TakenPairs.{IsTakenFrom, pairs_stay, pair_was}
use Rattle.exchange_rules.proofs.TakenBack.{taken-so, loses-so, went, other_loses, some_lost, taken_flow_held}
use Rattle.exchange_rules.proofs.AwaitedCodes.{outstanding-own, codes-there}
use Rattle.exchange_rules.proofs.TakenCodes.{at, at-first, at-next, at-same, awaits_later, queue_later, queue_before, queues_stay, IsUsable, is_usable, why_none, codes_at}
use Rattle.exchange_rules.proofs.Attracted.{begun-places}
use Rattle.exchange_rules.proofs.Entering.{relinked}
use Rattle.exchange_rules.specs.LawsOfReturns.{untested_entries_take_nothing, first_tests_are_returns}

no : {A : Type 0} → false ≡ true → A
no e = absurd cc

same-bool : (a b : Bool) → (a ≡ true → b ≡ true) → (b ≡ true → a ≡ true) → a ≡ b
same-bool true b f g = sym (f refl)
same-bool false true f g = g refl
same-bool false false f g = refl

module _ (c : Configuration) (link : ℕ) (before : Parts) (node : Node WholeQueues) (fits : HasPlacesFor c node.parts) (many : length node.queues.links ≡ length c.links) where
  abbrev known : Facts
  known = facts c before

  abbrev after : Facts
  after = facts c node.parts

  abbrev set : ℕ
  set = set_of c link

  abbrev then_at : ℕ → Node WholeQueues
  then_at other = at c known after link node other

  abbrev last : Node WholeQueues
  last = change_back whole c link known node

  abbrev code_of_link : ℕ → Option ℕ
  code_of_link other = code_for whole c link other (then_at other)

  abbrev by : ℕ → Procedure
  by other = procedure_by c link (code_of_link other)

  -- ---- which links lose flows

  lost-loses : (other : ℕ) → HasLost known after other link → loses_flows c known after other link ≡ true
  lost-loses other h =
      let r : HasReturned known after other link h.destination h.sls = h.returned in
      loses-so c known after other link h.destination h.sls r.apart (omega (arith, chosen_there after h.destination h.sls link r.is, fits.routes)) r.selection
      (taken-so known after other link h.destination h.sls r.was r.is)

  loses-lost : (other : ℕ) → loses_flows c known after other link ≡ true → HasLost known after other link
  loses-lost other e =
      let some : IsAnyFlow (length c.destinations) _ = some_lost c known after other link e in
      let links : (chosen_link known some.flow.destination some.flow.sls ≡ Some other) × (chosen_link after some.flow.destination some.flow.sls ≡ Some link) =
      went known after other link some.flow.destination some.flow.sls some.passing in
      record {
        destination = some.flow.destination;
        sls = some.flow.sls;
        returned = record { selection = some.selection; was = links.0; is = links.1; apart = other_loses c known after other link e };
      }

  lost-there : (other : ℕ) → HasLost known after other link → other < length c.links
  lost-there other h = (chosen_listed c before h.destination h.sls other h.returned.was).there

  -- ---- what is chosen for a link

  -- the node once that link gave its flows back
  next-by : (other : ℕ) (o : Option ℕ) → loses_flows c known after other link ≡ true → code_of_link other ≡ o → then_at (suc other) ≡ hold_flows whole c known after o link other (then_at other)
  next-by other o loses e = at-next c known after link node other loses ∙ ap (λ (o : Option ℕ). hold_flows whole c known after o link other (then_at other)) e

  queue-last : (other : ℕ) (o : Option ℕ) → other < length c.links → loses_flows c known after other link ≡ true → code_of_link other ≡ o
      → queue_at last.queues other ≡ queue_at (hold_flows whole c known after o link other (then_at other)).queues other
  queue-last other o l loses e =
      queue_later c known after link node (suc other) (length c.links) other (omega (arith, l)) (omega arith)
      ∙ ap (λ (n : Node WholeQueues). queue_at n.queues other) (next-by other o loses e)

  queue-first : (other : ℕ) → queue_at (then_at other).queues other ≡ queue_at node.queues other
  queue-first other = queue_before c known after link node other other (omega arith)

  usable-awaited : (other code : ℕ) → loses_flows c known after other link ≡ true → code_of_link other ≡ Some code → (later : ℕ) → other < later
      → is_outstanding (then_at later).parts.codes set code ≡ true
  usable-awaited other code loses e later l =
      let u : IsUsable c known after link node other code (then_at other) = is_usable c known after link node other code (then_at other) e in
      awaits_later c known after link node (suc other) later set code (omega (arith, l))
      (ap (λ (n : Node WholeQueues). is_outstanding n.parts.codes set code) (next-by other (Some code) loses e)
      ∙ outstanding-own (then_at other).parts.codes set code (codes-there (then_at other).parts.codes set code u.there) u.there)

  free-first : (other code : ℕ) (b : Bool) → is_outstanding node.parts.codes set code ≡ b → is_outstanding (then_at other).parts.codes set code ≡ false → b ≡ false
  free-first other code true e free =
      no (sym free
      ∙ awaits_later c known after link node 0 other set code (omega arith)
      (ap (λ (n : Node WholeQueues). is_outstanding n.parts.codes set code) (at-first c known after link node) ∙ e))
  free-first other code false e free = refl

  chosen-by : (other : ℕ) (o : Option ℕ) → other < length c.links → loses_flows c known after other link ≡ true → code_of_link other ≡ o → IsChosen c link other (then_at other) node last (by other)
  chosen-by other (Some code) l loses e =
      let u : IsUsable c known after link node other code (then_at other) = is_usable c known after link node other code (then_at other) e in
      let m : Message = declaration c link code in
      inl (
        code,
        ap (procedure_by c link) e,
        record {
          set = u.same;
          declared =
              ap (λ (q : Queue). q.all)
              (queue-last other (Some code) l loses e
              ∙ get_or-set_same (then_at other).queues.links other (appended (queue_at (then_at other).queues other) m) first_queue
              (omega (arith, l, many, queues_stay c known after link node other)))
              ∙ ap (λ (q : Queue). q.all ++ m ∷ []) (queue-first other);
          free = free-first other code (is_outstanding node.parts.codes set code) refl u.free;
          least = u.least;
          awaited = usable-awaited other code loses e (length c.links) l;
        },
      )
  chosen-by other None l loses e =
      inr (
        ap (procedure_by c link) e,
        record {
          left = ap (λ (q : Queue). q.all) (queue-last other None l loses e ∙ queue-first other);
          why = why_none c known after link node other (then_at other) e;
        },
      )

  -- ---- two links by one code

  code-by : (o : Option ℕ) (s code : ℕ) → procedure_by c link o ≡ Code s code → o ≡ Some code
  code-by (Some used) s code e =
      let same : used ≡ code = cc in
      ap (λ (k : ℕ). Some k) same
  code-by None s code e = absurd cc

  not-earlier : (one other s code : ℕ) → one < other → loses_flows c known after one link ≡ true → by one ≡ Code s code → by other ≡ Code s code → ⊥
  not-earlier one other s code l loses e f =
      let u : IsUsable c known after link node other code (then_at other) = is_usable c known after link node other code (then_at other) (code-by (code_of_link other) s code f) in
      no (sym u.free ∙ usable-awaited one code loses (code-by (code_of_link one) s code e) other l)

  -- ---- all of it

  is_return : IsReturn c link known node last by
  is_return = record {
    chosen = λ other h. chosen-by other (code_of_link other) (lost-there other h) (lost-loses other h) refl;
    differ = λ one other s code h k e f. ⊎_elim
        (λ (same : one ≡ other). same)
        (λ (d : one ≢ other). ⊎_elim
        (λ (l : one < other). absurd (not-earlier one other s code l (lost-loses one h) e f))
        (λ (l : other ≤ one). absurd (not-earlier other one s code (omega (arith, l, d)) (lost-loses other k) f e))
        (cases_lt one other))
        (cases_eq one other);
    held = λ other destination sls r.
        taken_flow_held c link known node destination sls other fits r.selection (chosen_listed c before destination sls other r.was).there r.apart r.was r.is;
    pairs = λ procedure destination sls apart.
        same-bool (holds last.parts.holds procedure destination sls) (holds node.parts.holds procedure destination sls)
        (λ e. ⊎_elim
        (λ (t : IsTakenFrom whole c known after link (length c.links) node procedure destination sls).
        let links : (chosen_link known destination sls ≡ Some t.other) × (chosen_link after destination sls ≡ Some link) = went known after t.other link destination sls t.taken in
        absurd (apart t.other (record {
          selection = (may_parts node.parts.holds procedure destination sls t.may).few;
          was = links.0;
          is = links.1;
          apart = other_loses c known after t.other link t.loses;
        }) t.by))
        (λ (h : holds node.parts.holds procedure destination sls ≡ true). h)
        (pair_was whole c known after link (length c.links) node procedure destination sls e))
        (λ e. pairs_stay whole c known after link (length c.links) node procedure destination sls e);
    codes = λ s code apart.
        codes_at c known after link node (length c.links) s code
        (λ other l loses same e. apart other (loses-lost other loses) (ap (procedure_by c link) e ∙ ap (λ (s : ℕ). Code s code) (sym same)));
    queues = λ other none. queue-left other none (loses_flows c known after other link) refl;
  }
    where
      queue-left : (other : ℕ) → (HasLost known after other link → ⊥) → (b : Bool) → loses_flows c known after other link ≡ b → queue_at last.queues other ≡ queue_at node.queues other
      queue-left other none true loses = absurd (none (loses-lost other loses))
      queue-left other none false loses =
          ⊎_elim
          (λ (l : other < length c.links).
          queue_later c known after link node (suc other) (length c.links) other (omega (arith, l)) (omega arith)
          ∙ ap (λ (n : Node WholeQueues). queue_at n.queues other) (at-same c known after link node other loses)
          ∙ queue-first other)
          (λ (l : length c.links ≤ other). queue_before c known after link node (length c.links) other l)
          (cases_lt other (length c.links))

pub returned_so : flows_return_by_their_procedures
returned_so c link before node h = (by c link before node h.parts h.queues, is_return c link before node h.parts h.queues)

-- a link begins to carry traffic
begun_so : (c : Configuration) (begins : Bool) (link : ℕ) (x : Link) (r : Running) (node : Node WholeQueues) → HasAllPlaces c node → begins ≡ true
    → (by : ℕ → Procedure) × IsReturn c link (facts c node.parts) (with_parts node (begun_anew begins c link node.parts (relinked link x r node.parts)))
    (begin_traffic whole c begins link (relinked link x r node.parts) node) by
begun_so c begins link x r node h e =
    let next : Node WholeQueues = with_parts node (begun_anew begins c link node.parts (relinked link x r node.parts)) in
    let places : HasPlacesFor c next.parts = begun-places c link x r node.parts (begins && not (has_other c link node.parts)) h.parts in
    let back : begin_traffic whole c begins link (relinked link x r node.parts) node ≡ change_back whole c link (facts c node.parts) next =
    ap (λ (b : Bool). return_if whole c b link (facts c node.parts) next) e in (
      by c link node.parts next places h.queues,
      subst (λ (m : Node WholeQueues). IsReturn c link (facts c node.parts) next m (by c link node.parts next places h.queues)) (sym back) (is_return c link node.parts next places h.queues),
    )

pub entered_so : entries_are_returns
entered_so c link step node h entered =
    begun_so c (enters_traffic link step node.parts) link (stepped step (link_at node.parts link)) (step_on c link step node.parts).timers node h entered

pub untested_so : untested_entries_take_nothing
untested_so c link step node untested = by (enters link step node.parts) (link_at node.parts link).untested untested
  where
    by : (entered new : Bool) → new ≡ true → begin_traffic whole c (entered && not new) link (step_on c link step node.parts) node ≡ with_parts node (step_on c link step node.parts)
    by true true e = refl
    by false new e = refl
    by entered false e = absurd cc

pub passed_so : first_tests_are_returns
passed_so c link node h first =
    begun_so c (is_first_test link node.parts) link (record (link_at node.parts link) { test_failed = false; untested = false }) (test_passed c link node.parts).timers node h first
