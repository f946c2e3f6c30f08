-- One procedure holds more flows: it doesn't matter by which steps they are added, if the flows are the same.
use Rattle.flow_hold.proofs.Basics.{◌≡◌, ◌≢◌, ℕ, Bool, true, false, ◌&&◌, ◌||◌, refl, ap, sym, ◌∙◌, arith, nat_eq, nat_tests, Procedure, HoldSet, is_same, holds, may_hold, with_hold, with_flows, false≢true, true≢false}
use Rattle.flow_hold.proofs.Numbers.{same, same-itself}
use Rattle.flow_hold.proofs.Pairing.{may-alike}
use Rattle.flow_hold.proofs.Holding.{adds_its_pair, hold-leaves_others, may_not-leaves}
use Rattle.flow_hold.proofs.Flows.{IsSameNode, flows_add, flows_leave, flows-same_node, same_holds}

-- in k a procedure holds the flows that it holds in h, and each that it may hold of which the test is true
pub record Adds (h k : HoldSet) (procedure : Procedure) (test : ℕ → ℕ → Bool) : Type 0 where
  pub node : IsSameNode k h
  pub own : (destination sls : ℕ) → holds k procedure destination sls ≡ ((may_hold h procedure destination sls && test destination sls) || holds h procedure destination sls)
  pub others : (other : Procedure) (destination sls : ℕ) → other ≢ procedure → holds k other destination sls ≡ holds h other destination sls

pub adds-flows : (h : HoldSet) (procedure : Procedure) (test : ℕ → ℕ → Bool) → Adds h (with_flows h procedure test) procedure test
adds-flows h procedure test = record {
  node = flows-same_node h procedure test;
  own = flows_add h procedure test;
  others = λ other destination sls apart. flows_leave h procedure other test destination sls apart;
}

-- ---- two sets to which the same was added

alike-case : (h k u : HoldSet) (procedure : Procedure) (test : ℕ → ℕ → Bool) → Adds h k procedure test → Adds h u procedure test →
    (other : Procedure) (destination sls : ℕ) (b : Bool) → is_same other procedure ≡ b → holds k other destination sls ≡ holds u other destination sls
alike-case h k u procedure test a e other destination sls true is =
    let it : other ≡ procedure = same other procedure is in
    ap (λ (p : Procedure). holds k p destination sls) it ∙ a.own destination sls ∙ sym (e.own destination sls) ∙ ap (λ (p : Procedure). holds u p destination sls) (sym it)
alike-case h k u procedure test a e other destination sls false is =
    let apart : other ≢ procedure = λ it. false≢true (sym is ∙ ap (λ (p : Procedure). is_same p procedure) it ∙ same-itself procedure) in
    a.others other destination sls apart ∙ sym (e.others other destination sls apart)

pub same_added : (h k u : HoldSet) (procedure : Procedure) (test : ℕ → ℕ → Bool) → Adds h k procedure test → Adds h u procedure test → k ≡ u
same_added h k u procedure test a e =
    same_holds k u
    (record { links = a.node.links ∙ sym e.node.links; sets = a.node.sets ∙ sym e.node.sets; destinations = a.node.destinations ∙ sym e.node.destinations })
    (λ other destination sls. alike-case h k u procedure test a e other destination sls (is_same other procedure) refl)

pub added_flows : (h k : HoldSet) (procedure : Procedure) (test : ℕ → ℕ → Bool) → Adds h k procedure test → k ≡ with_flows h procedure test
added_flows h k procedure test a = same_added h k (with_flows h procedure test) procedure test a (adds-flows h procedure test)

-- ---- how flows are added

and-false : (b c : Bool) → ((b && false) || c) ≡ c
and-false true c = refl
and-false false c = refl

-- none is
pub adds-none : (h : HoldSet) (procedure : Procedure) → Adds h h procedure (λ destination sls. false)
adds-none h procedure = record {
  node = record { links = refl; sets = refl; destinations = refl };
  own = λ destination sls. sym (and-false (may_hold h procedure destination sls) (holds h procedure destination sls));
  others = λ other destination sls apart. refl;
}

-- by another test that is true of the same flows
pub adds-alike : (h k : HoldSet) (procedure : Procedure) (test alike : ℕ → ℕ → Bool) →
    ((destination sls : ℕ) → may_hold h procedure destination sls ≡ true → test destination sls ≡ alike destination sls) →
    Adds h k procedure test → Adds h k procedure alike
adds-alike h k procedure test alike e a = record {
  node = a.node;
  own = λ destination sls. a.own destination sls ∙ ap (λ (b : Bool). b || holds h procedure destination sls)
      (where-may (may_hold h procedure destination sls) (test destination sls) (alike destination sls) (e destination sls));
  others = a.others;
}
  where
    where-may : (may b d : Bool) → (may ≡ true → b ≡ d) → (may && b) ≡ (may && d)
    where-may true b d f = f refl
    where-may false b d f = refl

both-added : (may a b c : Bool) → ((may && b) || ((may && a) || c)) ≡ ((may && (a || b)) || c)
both-added false a b c = refl
both-added true true true c = refl
both-added true true false c = refl
both-added true false true c = refl
both-added true false false c = refl

-- some, and then others
pub adds-more : (h k u : HoldSet) (procedure : Procedure) (first second : ℕ → ℕ → Bool) → Adds h k procedure first → Adds k u procedure second →
    Adds h u procedure (λ destination sls. first destination sls || second destination sls)
adds-more h k u procedure first second a e = record {
  node = record { links = e.node.links ∙ a.node.links; sets = e.node.sets ∙ a.node.sets; destinations = e.node.destinations ∙ a.node.destinations };
  own = λ destination sls.
      e.own destination sls
      ∙ ap (λ (b : Bool). (b && second destination sls) || holds k procedure destination sls)
      (may-alike h k procedure destination sls a.node.links a.node.sets a.node.destinations)
      ∙ ap (λ (b : Bool). (may_hold h procedure destination sls && second destination sls) || b) (a.own destination sls)
      ∙ both-added (may_hold h procedure destination sls) (first destination sls) (second destination sls) (holds h procedure destination sls);
  others = λ other destination sls apart. e.others other destination sls apart ∙ a.others other destination sls apart;
}

-- ---- one flow is added

own-case : (h : HoldSet) (procedure : Procedure) (destination sls d s : ℕ) (at may : Bool) → (nat_eq d destination && nat_eq s sls) ≡ at → may_hold h procedure destination sls ≡ may →
    holds (with_hold h procedure destination sls) procedure d s ≡ ((may_hold h procedure d s && at) || holds h procedure d s)
own-case h procedure destination sls d s true true e may =
    let same_d : d ≡ destination = grind (arith, nat_tests, e) in
    let same_s : s ≡ sls = grind (arith, nat_tests, e) in
    ap (λ (n : ℕ). holds (with_hold h procedure destination sls) procedure n s) same_d
    ∙ ap (λ (n : ℕ). holds (with_hold h procedure destination sls) procedure destination n) same_s
    ∙ adds_its_pair h procedure destination sls may
    ∙ sym (ap (λ (b : Bool). (b && true) || holds h procedure d s)
    (ap (λ (n : ℕ). may_hold h procedure n s) same_d ∙ ap (λ (n : ℕ). may_hold h procedure destination n) same_s ∙ may))
own-case h procedure destination sls d s true false e may =
    let same_d : d ≡ destination = grind (arith, nat_tests, e) in
    let same_s : s ≡ sls = grind (arith, nat_tests, e) in
    ap (λ (u : HoldSet). holds u procedure d s) (may_not-leaves h procedure destination sls may)
    ∙ sym (ap (λ (b : Bool). (b && true) || holds h procedure d s)
    (ap (λ (n : ℕ). may_hold h procedure n s) same_d ∙ ap (λ (n : ℕ). may_hold h procedure destination n) same_s ∙ may))
own-case h procedure destination sls d s false may e is =
    hold-leaves_others h procedure procedure destination sls d s
    (λ p. true≢false (sym (ap (λ (x : Procedure × ℕ × ℕ). nat_eq x.1 destination && nat_eq x.2 sls) p ∙ here) ∙ e))
    ∙ sym (and-false (may_hold h procedure d s) (holds h procedure d s))
  where
    here : (nat_eq destination destination && nat_eq sls sls) ≡ true
    here = grind (arith, nat_tests)

pub adds-one : (h : HoldSet) (procedure : Procedure) (destination sls : ℕ) →
    Adds h (with_hold h procedure destination sls) procedure (λ d s. nat_eq d destination && nat_eq s sls)
adds-one h procedure destination sls = record {
  node = record { links = refl; sets = refl; destinations = refl };
  own = λ d s. own-case h procedure destination sls d s (nat_eq d destination && nat_eq s sls) (may_hold h procedure destination sls) refl refl;
  others = λ other d s apart. hold-leaves_others h procedure other destination sls d s (λ p. apart (ap (λ (x : Procedure × ℕ × ℕ). x.0) p));
}
