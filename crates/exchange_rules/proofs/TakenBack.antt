-- A flow whose link changed by a return is held, and what was held stays held.
use Rattle.exchange_rules.proofs.Basics.{◌≡◌, ◌≢◌, ◌<◌, ℕ, Bool, true, false, not, length, nat_eq, refl, ap, sym, ◌∙◌, arith, if◌then◌else◌, and_parts, eq-eqb, eqb-true, ne_eqb, nat_tests, position-Some, and_from as both}
use Rattle.exchange_rules.proofs.Definitions.{Cause, Configuration, Facts, chosen_link, SELECTIONS, HoldSet, holds, may_hold, any_flow, IsAnyFlow, held_by, some_passes, Codes, codes_of, free_code, QueueKind, Parts, Node, WholeQueues, whole, facts, goes_by, set_of, is_taken_back, loses_flows, if_room, procedure_by, usable, code_for, take_back_each, change_back, HasPlacesFor, changed_flows_are_held, returns_keep_holds}
use Rattle.std.specs.Prelude.{Option, Some, None}
use Rattle.exchange_rules.proofs.Belonging.{IsListed, chosen_listed, chosen_there}
use Rattle.exchange_rules.proofs.TakenPairs.{take_back_each-alike, holder_of, pair_added, flows_stay_held}

-- ---- the codes of a set are below their count

record IsBelow (limit : ℕ) (o : Option ℕ) : Type 0 where
  pub below : (code : ℕ) → o ≡ Some code → code < limit

none-below : (limit : ℕ) → IsBelow limit None
none-below limit = record { below = λ code e. absurd cc }

free-below : (t : Codes) (set : ℕ) → IsBelow (length (codes_of t set)) (free_code t set)
free-below t set = record { below = λ code e. (position-Some not (codes_of t set) code false e).0 }

room-below : (limit : ℕ) (cause : Option Cause) (code : ℕ) → IsBelow limit (Some code) → IsBelow limit (if_room cause code)
room-below limit None code h = h
room-below limit (Some cause) code h = none-below limit

either-below : (limit : ℕ) (b : Bool) (m n : Option ℕ) → IsBelow limit m → IsBelow limit n → IsBelow limit (if b then m else n)
either-below limit true m n h k = h
either-below limit false m n h k = k

-- ---- what holds a flow is there

module _ {Q : Type 0} (q : QueueKind Q) (c : Configuration) where
  usable-below : (limit link : ℕ) (o : Option ℕ) (n : Node Q) → IsBelow limit o → IsBelow limit (usable q c link o n)
  usable-below limit link (Some code) n h = room-below limit _ code h
  usable-below limit link None n h = h

  code-below : (link other : ℕ) (n : Node Q) → IsBelow (length (codes_of n.parts.codes (set_of c link))) (code_for q c link other n)
  code-below link other n =
      let limit : ℕ = length (codes_of n.parts.codes (set_of c link)) in
      either-below limit (nat_eq (set_of c other) (set_of c link)) (usable q c link (free_code n.parts.codes (set_of c link)) n) None
      (usable-below limit link (free_code n.parts.codes (set_of c link)) n (free-below n.parts.codes (set_of c link))) (none-below limit)

  procedure-there : (h : HoldSet) (link destination sls : ℕ) (o : Option ℕ) → link < h.links → set_of c link < h.sets → IsBelow 16 o → destination < h.destinations → sls < SELECTIONS
      → may_hold h (procedure_by c link o) destination sls ≡ true
  procedure-there h link destination sls (Some code) l s limit there few =
      let below : code < 16 = limit.below code refl in
      grind (arith, nat_tests, s, below, there, few)
  procedure-there h link destination sls None l s limit there few = grind (arith, nat_tests, l, there, few)

  -- what holds the flows that come from another link may hold each flow that goes by the link now
  pub holder_may : (before : Facts) (link other : ℕ) (n : Node Q) (destination sls : ℕ) → HasPlacesFor c n.parts → sls < SELECTIONS
      → chosen_link (facts c n.parts) destination sls ≡ Some link
      → may_hold n.parts.holds (holder_of q c before (facts c n.parts) link other n) destination sls ≡ true
  holder_may before link other n destination sls fits few is =
      let p : Parts = n.parts in
      let one : Node Q = take_back_each q c before (facts c p) link other n in
      let here : destination < length p.routes = chosen_there (facts c p) destination sls link is in
      let new : IsListed c link = chosen_listed c p destination sls link is in
      let code : Option ℕ = code_for q c link other one in
      let below : IsBelow 16 code = record {
        below = λ k e. omega (arith, (code-below link other one).below k e, (take_back_each-alike q c before (facts c p) link other n).codes (set_of c link), fits.codes.each (set_of c link) new.set);
      } in
      procedure-there p.holds link destination sls code (omega (arith, new.there, fits.holds.links)) (omega (arith, new.set, fits.holds.sets)) below
      (omega (arith, here, fits.routes, fits.holds.destinations)) few

-- ---- a flow that changed its link

goes-true : (o : Option ℕ) (link : ℕ) → o ≡ Some link → goes_by o link ≡ true
goes-true o link e = ap (λ (o : Option ℕ). goes_by o link) e ∙ eq-eqb link link refl

-- it is one that the link takes back from another, which so loses flows
pub taken-so : (before after : Facts) (other link destination sls : ℕ) → chosen_link before destination sls ≡ Some other → chosen_link after destination sls ≡ Some link
    → is_taken_back before after other link destination sls ≡ true
taken-so before after other link destination sls was is =
    both (goes_by (chosen_link before destination sls) other) (goes_by (chosen_link after destination sls) link)
    (goes-true (chosen_link before destination sls) other was) (goes-true (chosen_link after destination sls) link is)

pub loses-so : (c : Configuration) (before after : Facts) (other link destination sls : ℕ) → other ≢ link → destination < length c.destinations → sls < SELECTIONS
    → is_taken_back before after other link destination sls ≡ true → loses_flows c before after other link ≡ true
loses-so c before after other link destination sls apart there few taken =
    both (not (nat_eq other link)) (any_flow (length c.destinations) (is_taken_back before after other link)) (ap not (ne_eqb other link apart))
    ((some_passes (length c.destinations) (is_taken_back before after other link)).1
    (record { flow = record { destination = destination; sls = sls }; there = there; selection = few; passing = taken }))

-- and one that it takes back from another changed its link
goes-to : (o : Option ℕ) (link : ℕ) → goes_by o link ≡ true → o ≡ Some link
goes-to (Some its) link e = ap (λ (n : ℕ). Some n) (eqb-true its link e)
goes-to None link e = absurd cc

pub went : (before after : Facts) (other link destination sls : ℕ) → is_taken_back before after other link destination sls ≡ true
    → (chosen_link before destination sls ≡ Some other) × (chosen_link after destination sls ≡ Some link)
went before after other link destination sls taken =
    let parts : (goes_by (chosen_link before destination sls) other ≡ true) × (goes_by (chosen_link after destination sls) link ≡ true) =
    and_parts (goes_by (chosen_link before destination sls) other) (goes_by (chosen_link after destination sls) link) taken in
    (goes-to (chosen_link before destination sls) other parts.0, goes-to (chosen_link after destination sls) link parts.1)

-- a link that loses flows is another, and some flow is taken back from it
pub other_loses : (c : Configuration) (before after : Facts) (other link : ℕ) → loses_flows c before after other link ≡ true → other ≢ link
other_loses c before after other link e same =
    apart (sym (ap not (eq-eqb other link same)) ∙ (and_parts (not (nat_eq other link)) (any_flow (length c.destinations) (is_taken_back before after other link)) e).0)
  where
    apart : false ≡ true → ⊥
    apart e = absurd cc

pub some_lost : (c : Configuration) (before after : Facts) (other link : ℕ) → loses_flows c before after other link ≡ true → IsAnyFlow (length c.destinations) (is_taken_back before after other link)
some_lost c before after other link e =
    (some_passes (length c.destinations) (is_taken_back before after other link)).0
    ((and_parts (not (nat_eq other link)) (any_flow (length c.destinations) (is_taken_back before after other link)) e).1)

-- the procedure of its former link holds it
pub taken_flow_held : (c : Configuration) (link : ℕ) (before : Facts) (node : Node WholeQueues) (destination sls from : ℕ)
    → HasPlacesFor c node.parts → sls < SELECTIONS → from < length c.links → from ≢ link
    → chosen_link before destination sls ≡ Some from → chosen_link (facts c node.parts) destination sls ≡ Some link
    → holds (change_back whole c link before node).parts.holds (holder_of whole c before (facts c node.parts) link from node) destination sls ≡ true
taken_flow_held c link before node destination sls from fits few there other was is =
    let after : Facts = facts c node.parts in
    let taken : is_taken_back before after from link destination sls ≡ true = taken-so before after from link destination sls was is in
    let here : destination < length node.parts.routes = chosen_there after destination sls link is in
    pair_added whole c before after link (length c.links) node (holder_of whole c before after link from node) destination sls
    (record {
      other = from;
      below = there;
      loses = loses-so c before after from link destination sls other (omega (arith, here, fits.routes)) few taken;
      taken = taken;
      by = refl;
      may = holder_may whole c before link from node destination sls fits few is;
    })

pub taken_flows_held : changed_flows_are_held
taken_flows_held c link before node destination sls from fits few other was is =
    (held_by (change_back whole c link (facts c before) node).parts.holds destination sls).1 (
      holder_of whole c (facts c before) (facts c node.parts) link from node,
      taken_flow_held c link (facts c before) node destination sls from fits few (chosen_listed c before destination sls from was).there other was is,
    )

-- ---- what was held

pub taken_holds_stay : returns_keep_holds
taken_holds_stay c link before node destination sls e =
    flows_stay_held whole c before (facts c node.parts) link (length c.links) node destination sls e
