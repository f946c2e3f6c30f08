-- A network whose nodes are at points 1, 2 and 3, as three nodes: so a step computes the node at which it is done,
-- once.
use Rattle.pair_rules.proofs.Basics.{◌≡◌, ℕ, Bool, true, false, List, [], ◌∷◌, Option, Some, None, nat_eq, refl, ap, sym, ◌∙◌, arith, if◌then◌else◌}
use Rattle.pair_rules.proofs.Definitions.{FrameValue, Nothing, Open, Close, frame_to_take, wants_of, whole}
use Rattle.exchange_rules.proofs.Basics.{eqb-true}
use Rattle.exchange_rules.specs.declared.wants.Wants.{Wants}
use Rattle.pair_rules.specs.Pairs.{Doing, Takes, OpensFirst}
use Rattle.network_rules.specs.Networks.{NetworkNode, NetworkState, Place, Step, after_steps, changed, comes_up, did, did_here, is_led, may_open_there, opens_first, other_end, reaches, sends, take_frame}

pub record Three : Type 0 where
  pub first : NetworkNode
  pub second : NetworkNode
  pub third : NetworkNode
  pub others : ℕ → NetworkNode

abbrev pub at_point : (one two three : Bool) → Three → (point : ℕ) → NetworkNode
at_point true two three t point = t.first
at_point false true three t point = t.second
at_point false false true t point = t.third
at_point false false false t point = t.others point

abbrev pub node_at : Three → (point : ℕ) → NetworkNode
node_at t point = at_point (nat_eq point 1) (nat_eq point 2) (nat_eq point 3) t point

abbrev pub network_of : Three → NetworkState
network_of t = record { node = node_at t }

abbrev pub seen : NetworkState → Three
seen w = record { first = w.node 1; second = w.node 2; third = w.node 3; others = w.node }

-- it is the same network
pub network-seen : (w : NetworkState) → network_of (seen w) ≡ w
network-seen w = λ i. record { node = λ point. here (nat_eq point 1) (nat_eq point 2) (nat_eq point 3) point refl refl refl i }
  where
    here : (one two three : Bool) (point : ℕ) → nat_eq point 1 ≡ one → nat_eq point 2 ≡ two → nat_eq point 3 ≡ three → at_point one two three (seen w) point ≡ w.node point
    here true two three point e f g = ap w.node (sym (eqb-true point 1 e))
    here false true three point e f g = ap w.node (sym (eqb-true point 2 f))
    here false false true point e f g = ap w.node (sym (eqb-true point 3 g))
    here false false false point e f g = refl

-- ---- something is done to one node

abbrev changed_by : (one two three : Bool) (point : ℕ) → (NetworkNode → NetworkNode) → Three → Three
changed_by true two three point change t = record t { first = change t.first }
changed_by false true three point change t = record t { second = change t.second }
changed_by false false true point change t = record t { third = change t.third }
changed_by false false false point change t = seen (changed point change (network_of t))

abbrev pub changed_at : (point : ℕ) → (NetworkNode → NetworkNode) → Three → Three
changed_at point change t = changed_by (nat_eq point 1) (nat_eq point 2) (nat_eq point 3) point change t

module _ (change : NetworkNode → NetworkNode) (t : Three) where
  one-here : (a b c : Bool) (point : ℕ) → (if a then change (at_point a b c t point) else at_point a b c t point) ≡ at_point a b c (record t { first = change t.first }) point
  one-here true b c point = refl
  one-here false true c point = refl
  one-here false false true point = refl
  one-here false false false point = refl

  two-here : (a b c : Bool) (point : ℕ) → nat_eq point 1 ≡ a → nat_eq point 2 ≡ b → (if b then change (at_point a b c t point) else at_point a b c t point) ≡ at_point a b c (record t { second = change t.second }) point
  two-here true true c point e f = absurd (omega (arith, eqb-true point 1 e, eqb-true point 2 f))
  two-here true false c point e f = refl
  two-here false true c point e f = refl
  two-here false false true point e f = refl
  two-here false false false point e f = refl

  three-here : (a b c : Bool) (point : ℕ) → nat_eq point 1 ≡ a → nat_eq point 2 ≡ b → nat_eq point 3 ≡ c → (if c then change (at_point a b c t point) else at_point a b c t point) ≡ at_point a b c (record t { third = change t.third }) point
  three-here true b true point e f g = absurd (omega (arith, eqb-true point 1 e, eqb-true point 3 g))
  three-here true b false point e f g = refl
  three-here false true true point e f g = absurd (omega (arith, eqb-true point 2 f, eqb-true point 3 g))
  three-here false true false point e f g = refl
  three-here false false true point e f g = refl
  three-here false false false point e f g = refl

  by-point : (one two three : Bool) (point : ℕ) → nat_eq point 1 ≡ one → nat_eq point 2 ≡ two → nat_eq point 3 ≡ three → changed point change (network_of t) ≡ network_of (changed_by one two three point change t)
  by-point true two three point e f g =
      ap (λ (n : ℕ). changed n change (network_of t)) (eqb-true point 1 e) ∙ (λ i. record { node = λ other. one-here (nat_eq other 1) (nat_eq other 2) (nat_eq other 3) other i })
  by-point false true three point e f g =
      ap (λ (n : ℕ). changed n change (network_of t)) (eqb-true point 2 f) ∙ (λ i. record { node = λ other. two-here (nat_eq other 1) (nat_eq other 2) (nat_eq other 3) other refl refl i })
  by-point false false true point e f g =
      ap (λ (n : ℕ). changed n change (network_of t)) (eqb-true point 3 g) ∙ (λ i. record { node = λ other. three-here (nat_eq other 1) (nat_eq other 2) (nat_eq other 3) other refl refl refl i })
  by-point false false false point e f g = sym (network-seen (changed point change (network_of t)))

  pub changed-is : (point : ℕ) → changed point change (network_of t) ≡ network_of (changed_at point change t)
  changed-is point = by-point (nat_eq point 1) (nat_eq point 2) (nat_eq point 3) point refl refl refl

-- the node at a point becomes another
pub placing : (point : ℕ) (change : NetworkNode → NetworkNode) (x : NetworkNode) (t : Three) → change (node_at t point) ≡ x → changed point change (network_of t) ≡ network_of (changed_at point (λ old. x) t)
placing point change x t e = (λ i. record { node = λ other. here (nat_eq other point) other refl i }) ∙ changed-is (λ old. x) t point
  where
    here : (b : Bool) (other : ℕ) → nat_eq other point ≡ b → (if b then change (node_at t other) else node_at t other) ≡ (if b then x else node_at t other)
    here true other f = ap (λ (n : ℕ). change (node_at t n)) (eqb-true other point f) ∙ e
    here false other f = refl

-- ---- steps

abbrev taken_in : Option FrameValue → (point link : ℕ) → Option Place → Three → Three
taken_in None point link there t = t
taken_in (Some frame) point link None t = changed_at point (sends link) t
taken_in (Some frame) point link (Some there) t = changed_at there.point (reaches frame there.link) (changed_at point (sends link) t)

abbrev opened_in : Wants → (may : Bool) → (point link : ℕ) → Option Place → Three → Three
opened_in Open true point link (Some there) t = changed_at there.point (is_led there.link) (changed_at point (comes_up link) t)
opened_in wants may point link there t = t

abbrev did_in : Doing → (point : ℕ) → Three → Three
did_in (Takes link) point t = taken_in (frame_to_take whole (node_at t point).exchange link) point link (other_end (network_of t) point link) t
did_in (OpensFirst link) point t =
    opened_in (wants_of (node_at t point).exchange link) (may_open_there (network_of t) (other_end (network_of t) point link)) point link (other_end (network_of t) point link) t
did_in what point t = changed_at point (did_here what) t

module _ (point link : ℕ) (t : Three) where
  taken-is : (o : Option FrameValue) (there : Option Place) → take_frame o point link there (network_of t) ≡ network_of (taken_in o point link there t)
  taken-is None there = refl
  taken-is (Some frame) None = changed-is (sends link) t point
  taken-is (Some frame) (Some there) =
      ap (changed there.point (reaches frame there.link)) (changed-is (sends link) t point) ∙ changed-is (reaches frame there.link) (changed_at point (sends link) t) there.point

  opened-is : (wants : Wants) (may : Bool) (there : Option Place) → opens_first wants may point link there (network_of t) ≡ network_of (opened_in wants may point link there t)
  opened-is Open true (Some there) =
      ap (changed there.point (is_led there.link)) (changed-is (comes_up link) t point) ∙ changed-is (is_led there.link) (changed_at point (comes_up link) t) there.point
  opened-is Open true None = refl
  opened-is Open false there = refl
  opened-is Nothing may there = refl
  opened-is Close may there = refl

did-is : (what : Doing) (point : ℕ) (t : Three) → did what point (network_of t) ≡ network_of (did_in what point t)
did-is (Takes link) point t = taken-is point link t (frame_to_take whole (node_at t point).exchange link) (other_end (network_of t) point link)
did-is (OpensFirst link) point t =
    opened-is point link t (wants_of (node_at t point).exchange link) (may_open_there (network_of t) (other_end (network_of t) point link)) (other_end (network_of t) point link)
did-is what point t = changed-is (did_here what) t point

abbrev pub run : List Step → Three → Three
run [] t = t
run (step ∷ steps) t = run steps (did_in step.what step.point t)

pub run-is : (steps : List Step) (t : Three) → after_steps steps (network_of t) ≡ network_of (run steps t)
run-is [] t = refl
run-is (step ∷ steps) t = ap (after_steps steps) (did-is step.what step.point t) ∙ run-is steps (did_in step.what step.point t)
