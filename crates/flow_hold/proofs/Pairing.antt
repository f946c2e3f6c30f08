-- A flow is held exactly when some pair is one of it, and a lift takes the pairs of one procedure.
use Rattle.flow_hold.proofs.Basics.{◌≡◌, ℕ, Bool, true, false, not, ◌&&◌, ◌||◌, List, [], ◌∷◌, refl, ap, sym, ◌∙◌, arith, nat_eq, nat_lt, list_any, eq_by_cmp, contains, items, contains-items, contains-empty, contains-retain, and_parts, true≢false, nat_tests, CHANGEBACK_CODES, SELECTIONS, Procedure, Changeover, Code, Time, Reroute, Hold, HoldSet, by_numbers, holds, is_of_flow, is_same, may_hold_to, may_hold, lifted, first_holds_nothing, first_is_of_node, held_by_a_procedure, lift_is_of_node, lift_leaves_others, lift_ends_its_own, or_right, or_left, and-false}
use Rattle.flow_hold.proofs.Numbers.{only_same_tie, tied, tied-same, same-itself, not-same}

-- ---- a flow that is held

-- a pair of a flow that is among these
record FoundPair (destination sls : ℕ) (pairs : List Hold) : Type 0 where
  pub hold : Hold
  pub of_flow : is_of_flow destination sls hold ≡ true
  pub among : list_any (eq_by_cmp by_numbers hold) pairs ≡ true

found-case : (destination sls : ℕ) (x : Hold) (xs : List Hold) (b : Bool) → is_of_flow destination sls x ≡ b → (b || list_any (is_of_flow destination sls) xs) ≡ true →
    (list_any (is_of_flow destination sls) xs ≡ true → FoundPair destination sls xs) → FoundPair destination sls (x ∷ xs)
found-case destination sls x xs true e any rest = record {
  hold = x;
  of_flow = e;
  among = or_left (eq_by_cmp by_numbers x x) (list_any (eq_by_cmp by_numbers x) xs) (tied-same x);
}
found-case destination sls x xs false e any rest =
    let found : FoundPair destination sls xs = rest any in
    record {
      hold = found.hold;
      of_flow = found.of_flow;
      among = or_right (eq_by_cmp by_numbers found.hold x) (list_any (eq_by_cmp by_numbers found.hold) xs) found.among;
    }

found : (destination sls : ℕ) (xs : List Hold) → list_any (is_of_flow destination sls) xs ≡ true → FoundPair destination sls xs
found destination sls [] e = absurd cc
found destination sls (x ∷ xs) e = found-case destination sls x xs (is_of_flow destination sls x) refl e (found destination sls xs)

either-more : (a b c d : Bool) → (a ≡ true → c ≡ true) → (b ≡ true → d ≡ true) → (a || b) ≡ true → (c || d) ≡ true
either-more true b c d f g e = or_left c d (f refl)
either-more false b c d f g e = or_right c d (g e)

some-of-flow : (hold : Hold) (xs : List Hold) → list_any (eq_by_cmp by_numbers hold) xs ≡ true → list_any (is_of_flow hold.destination hold.sls) xs ≡ true
some-of-flow hold [] e = absurd cc
some-of-flow hold (x ∷ xs) e =
    either-more (eq_by_cmp by_numbers hold x) (list_any (eq_by_cmp by_numbers hold) xs) (is_of_flow hold.destination hold.sls x) (list_any (is_of_flow hold.destination hold.sls) xs)
    (λ same. ap (is_of_flow hold.destination hold.sls) (sym (tied hold x same)) ∙ own-flow hold) (some-of-flow hold xs) e
  where
    own-flow : (hold : Hold) → is_of_flow hold.destination hold.sls hold ≡ true
    own-flow hold = grind (arith, nat_tests)

pub held_by : held_by_a_procedure
held_by h destination sls = (
  (λ e.
      let pair : FoundPair destination sls (items h.pairs) = found destination sls (items h.pairs) e in
      let parts : (nat_eq pair.hold.destination destination ≡ true) × (nat_eq pair.hold.sls sls ≡ true) = and_parts (nat_eq pair.hold.destination destination) (nat_eq pair.hold.sls sls) pair.of_flow in
      let place : pair.hold.destination ≡ destination = grind (arith, nat_tests, parts.0) in
      let selection : pair.hold.sls ≡ sls = grind (arith, nat_tests, parts.1) in (
        pair.hold.procedure,
        ap (λ (d : ℕ). holds h pair.hold.procedure d sls) (sym place)
            ∙ ap (λ (s : ℕ). holds h pair.hold.procedure pair.hold.destination s) (sym selection)
            ∙ contains-items h.pairs pair.hold
            ∙ pair.among,
      )),
  (λ pair.
      let hold : Hold = record { procedure = pair.0; destination = destination; sls = sls } in
      some-of-flow hold (items h.pairs) (sym (contains-items h.pairs hold) ∙ pair.1)),
)

-- ---- at first

pub none_at_first : first_holds_nothing
none_at_first links sets destinations procedure destination sls =
    contains-empty by_numbers (record { procedure = procedure; destination = destination; sls = sls })

pub first_of_node : first_is_of_node
first_of_node links sets destinations = record {
  each = λ hold e. absurd (true≢false (sym e ∙ contains-empty by_numbers hold));
}

-- ---- a lift

pub contains-lifted : (h : HoldSet) (procedure : Procedure) (hold : Hold) →
    contains (lifted h procedure).pairs hold ≡ (contains h.pairs hold && not (is_same hold.procedure procedure))
contains-lifted h procedure hold =
    contains-retain h.pairs (λ other. not (is_same other.procedure procedure)) hold
    (λ x tie. ap (λ (other : Hold). not (is_same other.procedure procedure)) (sym (only_same_tie hold x tie)))

and-true : (b : Bool) → (b && true) ≡ b
and-true true = refl
and-true false = refl

pub ends_its_own : lift_ends_its_own
ends_its_own h procedure destination sls =
    let hold : Hold = record { procedure = procedure; destination = destination; sls = sls } in
    contains-lifted h procedure hold
    ∙ ap (λ (b : Bool). contains h.pairs hold && not b) (same-itself procedure)
    ∙ and-false (contains h.pairs hold)

pub leaves_others : lift_leaves_others
leaves_others h procedure other destination sls apart =
    let hold : Hold = record { procedure = other; destination = destination; sls = sls } in
    contains-lifted h procedure hold
    ∙ ap (λ (b : Bool). contains h.pairs hold && not b) (not-same other procedure (λ e. apart (sym e)))
    ∙ and-true (contains h.pairs hold)

may_to-alike : (h k : HoldSet) (procedure : Procedure) (destination : ℕ) → k.links ≡ h.links → k.sets ≡ h.sets → may_hold_to k procedure destination ≡ may_hold_to h procedure destination
may_to-alike h k (Changeover link) destination links sets = ap (nat_lt link) links
may_to-alike h k (Code set code) destination links sets = ap (λ (n : ℕ). nat_lt set n && nat_lt code CHANGEBACK_CODES) sets
may_to-alike h k (Time link) destination links sets = ap (nat_lt link) links
may_to-alike h k (Reroute rerouted) destination links sets = refl

pub may-alike : (h k : HoldSet) (procedure : Procedure) (destination sls : ℕ) → k.links ≡ h.links → k.sets ≡ h.sets → k.destinations ≡ h.destinations →
    may_hold k procedure destination sls ≡ may_hold h procedure destination sls
may-alike h k procedure destination sls links sets destinations =
    ap (λ (b : Bool). b && (nat_lt destination k.destinations && nat_lt sls SELECTIONS)) (may_to-alike h k procedure destination links sets)
    ∙ ap (λ (n : ℕ). may_hold_to h procedure destination && (nat_lt destination n && nat_lt sls SELECTIONS)) destinations

pub lifted_of_node : lift_is_of_node
lifted_of_node h procedure of_node = record {
  each = λ hold e.
      may-alike h (lifted h procedure) hold.procedure hold.destination hold.sls refl refl refl
      ∙ of_node.each hold ((and_parts (contains h.pairs hold) (not (is_same hold.procedure procedure)) (sym (contains-lifted h procedure hold) ∙ e)).0);
}
