-- A network whose nodes are at four points, as four nodes: so a step computes the node at which it is done, once.
use Rattle.node_moves.proofs.Basics.{◌≡◌, ℕ, Bool, true, false, List, [], ◌∷◌, Option, Some, None, nat_eq, refl, ap, sym, ◌∙◌, arith, if◌then◌else◌, eqb-true}
use Rattle.node_moves.proofs.Definitions.{Configuration, whole}
use Rattle.node_moves.specs.Anew.{Change, Does, Restarts, GivesUp, OpensOutside, ComesOutside, after_change, after_changes, given_up, restarted}
use Rattle.node_moves.specs.MatedPair.{mated}
use Rattle.node_moves.specs.Networks.{NetworkNode, NetworkState, LinkEnd, Doing, Takes, OpensFirst, Step, after_steps, be_led, changed, come_up, did, did_here, fetch, flies, is_node, may_open_at, open_first, other_end, reach, sent}
use Rattle.exchange_rules.specs.Opening.{wanted}
use Rattle.exchange_rules.specs.Sending.{frame_taken, after_take}
use Rattle.exchange_rules.specs.declared.wants.Wants.{Wants}
use Rattle.exchange_rules.specs.declared.wants.Wants.TheVariants.{Nothing, Open, Close}
use Rattle.node_moves.specs.Outside.{leads_out, put_in}
use Rattle.m2pa_codec.specs.Frames.{FrameValue, read_frame}

pub record Four : Type 0 where
  pub one : NetworkNode
  pub two : NetworkNode
  pub three : NetworkNode
  pub four : NetworkNode
  pub others : ℕ → NetworkNode

abbrev pub at_point : (a b c d : Bool) → Four → (point : ℕ) → NetworkNode
at_point true b c d t point = t.one
at_point false true c d t point = t.two
at_point false false true d t point = t.three
at_point false false false true t point = t.four
at_point false false false false t point = t.others point

abbrev pub node_at : Four → (point : ℕ) → NetworkNode
node_at t point = at_point (nat_eq point 1) (nat_eq point 2) (nat_eq point 3) (nat_eq point 4) t point

abbrev pub network_of : Four → NetworkState
network_of t = record { node = node_at t }

abbrev pub seen : NetworkState → Four
seen w = record { one = w.node 1; two = w.node 2; three = w.node 3; four = w.node 4; others = w.node }

-- it is the same network
pub network-seen : (w : NetworkState) → network_of (seen w) ≡ w
network-seen w = λ i. record { node = λ point. here (nat_eq point 1) (nat_eq point 2) (nat_eq point 3) (nat_eq point 4) point refl refl refl refl i }
  where
    here : (a b c d : Bool) (point : ℕ) → nat_eq point 1 ≡ a → nat_eq point 2 ≡ b → nat_eq point 3 ≡ c → nat_eq point 4 ≡ d → at_point a b c d (seen w) point ≡ w.node point
    here true b c d point e f g h = ap w.node (sym (eqb-true point 1 e))
    here false true c d point e f g h = ap w.node (sym (eqb-true point 2 f))
    here false false true d point e f g h = ap w.node (sym (eqb-true point 3 g))
    here false false false true point e f g h = ap w.node (sym (eqb-true point 4 h))
    here false false false false point e f g h = refl

-- ---- something is done to one node

abbrev changed_by : (a b c d : Bool) (point : ℕ) → (NetworkNode → NetworkNode) → Four → Four
changed_by true b c d point change t = record t { one = change t.one }
changed_by false true c d point change t = record t { two = change t.two }
changed_by false false true d point change t = record t { three = change t.three }
changed_by false false false true point change t = record t { four = change t.four }
changed_by false false false false point change t = seen (changed point change (network_of t))

abbrev pub changed_at : (point : ℕ) → (NetworkNode → NetworkNode) → Four → Four
changed_at point change t = changed_by (nat_eq point 1) (nat_eq point 2) (nat_eq point 3) (nat_eq point 4) point change t

module _ (change : NetworkNode → NetworkNode) (t : Four) where
  one-here : (a b c d : Bool) (point : ℕ) → (if a then change (at_point a b c d t point) else at_point a b c d t point) ≡ at_point a b c d (record t { one = change t.one }) point
  one-here true b c d point = refl
  one-here false true c d point = refl
  one-here false false true d point = refl
  one-here false false false true point = refl
  one-here false false false false point = refl

  two-here : (a b c d : Bool) (point : ℕ) → nat_eq point 1 ≡ a → nat_eq point 2 ≡ b → (if b then change (at_point a b c d t point) else at_point a b c d t point) ≡ at_point a b c d (record t { two = change t.two }) point
  two-here true true c d point e f = absurd (omega (arith, eqb-true point 1 e, eqb-true point 2 f))
  two-here true false c d point e f = refl
  two-here false true c d point e f = refl
  two-here false false true d point e f = refl
  two-here false false false true point e f = refl
  two-here false false false false point e f = refl

  three-here : (a b c d : Bool) (point : ℕ) → nat_eq point 1 ≡ a → nat_eq point 2 ≡ b → nat_eq point 3 ≡ c → (if c then change (at_point a b c d t point) else at_point a b c d t point) ≡ at_point a b c d (record t { three = change t.three }) point
  three-here true b true d point e f g = absurd (omega (arith, eqb-true point 1 e, eqb-true point 3 g))
  three-here true b false d point e f g = refl
  three-here false true true d point e f g = absurd (omega (arith, eqb-true point 2 f, eqb-true point 3 g))
  three-here false true false d point e f g = refl
  three-here false false true d point e f g = refl
  three-here false false false true point e f g = refl
  three-here false false false false point e f g = refl

  four-here : (a b c d : Bool) (point : ℕ) → nat_eq point 1 ≡ a → nat_eq point 2 ≡ b → nat_eq point 3 ≡ c → nat_eq point 4 ≡ d → (if d then change (at_point a b c d t point) else at_point a b c d t point) ≡ at_point a b c d (record t { four = change t.four }) point
  four-here true b c true point e f g h = absurd (omega (arith, eqb-true point 1 e, eqb-true point 4 h))
  four-here true b c false point e f g h = refl
  four-here false true c true point e f g h = absurd (omega (arith, eqb-true point 2 f, eqb-true point 4 h))
  four-here false true c false point e f g h = refl
  four-here false false true true point e f g h = absurd (omega (arith, eqb-true point 3 g, eqb-true point 4 h))
  four-here false false true false point e f g h = refl
  four-here false false false true point e f g h = refl
  four-here false false false false point e f g h = refl

  by-point : (a b c d : Bool) (point : ℕ) → nat_eq point 1 ≡ a → nat_eq point 2 ≡ b → nat_eq point 3 ≡ c → nat_eq point 4 ≡ d → changed point change (network_of t) ≡ network_of (changed_by a b c d point change t)
  by-point true b c d point e f g h =
      ap (λ (n : ℕ). changed n change (network_of t)) (eqb-true point 1 e) ∙ (λ i. record { node = λ other. one-here (nat_eq other 1) (nat_eq other 2) (nat_eq other 3) (nat_eq other 4) other i })
  by-point false true c d point e f g h =
      ap (λ (n : ℕ). changed n change (network_of t)) (eqb-true point 2 f) ∙ (λ i. record { node = λ other. two-here (nat_eq other 1) (nat_eq other 2) (nat_eq other 3) (nat_eq other 4) other refl refl i })
  by-point false false true d point e f g h =
      ap (λ (n : ℕ). changed n change (network_of t)) (eqb-true point 3 g) ∙ (λ i. record { node = λ other. three-here (nat_eq other 1) (nat_eq other 2) (nat_eq other 3) (nat_eq other 4) other refl refl refl i })
  by-point false false false true point e f g h =
      ap (λ (n : ℕ). changed n change (network_of t)) (eqb-true point 4 h) ∙ (λ i. record { node = λ other. four-here (nat_eq other 1) (nat_eq other 2) (nat_eq other 3) (nat_eq other 4) other refl refl refl refl i })
  by-point false false false false point e f g h = sym (network-seen (changed point change (network_of t)))

  pub changed-is : (point : ℕ) → changed point change (network_of t) ≡ network_of (changed_at point change t)
  changed-is point = by-point (nat_eq point 1) (nat_eq point 2) (nat_eq point 3) (nat_eq point 4) point refl refl refl refl

-- the node at a point becomes another
pub placing : (point : ℕ) (change : NetworkNode → NetworkNode) (x : NetworkNode) (t : Four) → change (node_at t point) ≡ x → changed point change (network_of t) ≡ network_of (changed_at point (λ old. x) t)
placing point change x t e = (λ i. record { node = λ other. here (nat_eq other point) other refl i }) ∙ changed-is (λ old. x) t point
  where
    here : (b : Bool) (other : ℕ) → nat_eq other point ≡ b → (if b then change (node_at t other) else node_at t other) ≡ (if b then x else node_at t other)
    here true other f = ap (λ (n : ℕ). change (node_at t n)) (eqb-true other point f) ∙ e
    here false other f = refl

-- ---- steps

module _ (settings : (point : ℕ) → Configuration) where
  abbrev takes : (point link : ℕ) → NetworkNode → NetworkNode
  takes point link x = record x { node = after_take whole (settings point) link x.node }

  abbrev taken_in : Option FrameValue → (point link : ℕ) → Option LinkEnd → Four → Four
  taken_in None point link there t = t
  taken_in (Some frame) point link None t = changed_at point (takes point link) t
  taken_in (Some frame) point link (Some there) t = changed_at there.point (reach frame there.link) (changed_at point (takes point link) t)

  abbrev opened_in : Wants → (may : Bool) → (point link : ℕ) → Option LinkEnd → Four → Four
  opened_in Open true point link (Some there) t = changed_at there.point (be_led there.link) (changed_at point (come_up (settings point) link) t)
  opened_in wants may point link there t = t

  abbrev did_in : Doing → (point : ℕ) → Four → Four
  did_in (Takes link) point t = taken_in (frame_taken whole (settings point) link (node_at t point).node) point link (other_end settings point link) t
  did_in (OpensFirst link) point t =
      opened_in (wanted (node_at t point).node.parts link) (may_open_at settings (network_of t) (other_end settings point link)) point link (other_end settings point link) t
  did_in what point t = changed_at point (did_here what (settings point)) t

  module _ (point link : ℕ) (t : Four) where
    taken-is : (o : Option FrameValue) (there : Option LinkEnd) → other_end settings point link ≡ there → fetch settings o point link (network_of t) ≡ network_of (taken_in o point link there t)
    taken-is None there e = refl
    taken-is (Some frame) there e = ap (λ (q : Option LinkEnd). flies frame q (sent settings point link (network_of t))) e ∙ by there
      where
        by : (q : Option LinkEnd) → flies frame q (sent settings point link (network_of t)) ≡ network_of (taken_in (Some frame) point link q t)
        by None = changed-is (takes point link) t point
        by (Some end) =
            ap (changed end.point (reach frame end.link)) (changed-is (takes point link) t point) ∙ changed-is (reach frame end.link) (changed_at point (takes point link) t) end.point

    opened-is : (wants : Wants) (may : Bool) (there : Option LinkEnd) → open_first settings wants may point link there (network_of t) ≡ network_of (opened_in wants may point link there t)
    opened-is Open true (Some there) =
        ap (changed there.point (be_led there.link)) (changed-is (come_up (settings point) link) t point) ∙ changed-is (be_led there.link) (changed_at point (come_up (settings point) link) t) there.point
    opened-is Open true None = refl
    opened-is Open false there = refl
    opened-is Nothing may there = refl
    opened-is Close may there = refl

  did-is : (what : Doing) (point : ℕ) (t : Four) → did settings what point (network_of t) ≡ network_of (did_in what point t)
  did-is (Takes link) point t = taken-is point link t (frame_taken whole (settings point) link (node_at t point).node) (other_end settings point link) refl
  did-is (OpensFirst link) point t =
      opened-is point link t (wanted (node_at t point).node.parts link) (may_open_at settings (network_of t) (other_end settings point link)) (other_end settings point link)
  did-is what point t = changed-is (did_here what (settings point)) t point

  abbrev pub run_in : List Step → Four → Four
  run_in [] t = t
  run_in (step ∷ steps) t = run_in steps (if is_node settings step.point then did_in step.what step.point t else t)

  one-is : (step : Step) (b : Bool) (t : Four) → (if b then did settings step.what step.point (network_of t) else network_of t) ≡ network_of (if b then did_in step.what step.point t else t)
  one-is step true t = did-is step.what step.point t
  one-is step false t = refl

  pub run-in-is : (steps : List Step) (t : Four) → after_steps settings steps (network_of t) ≡ network_of (run_in steps t)
  run-in-is [] t = refl
  run-in-is (step ∷ steps) t =
      ap (after_steps settings steps) (one-is step (is_node settings step.point) t) ∙ run-in-is steps (if is_node settings step.point then did_in step.what step.point t else t)

  -- ---- changes

  abbrev if_in : Bool → (point : ℕ) → (NetworkNode → NetworkNode) → Four → Four
  if_in true point f t = changed_at point f t
  if_in false point f t = t

  abbrev change_in : Change → Four → Four
  change_in (Does step) t = if is_node settings step.point then did_in step.what step.point t else t
  change_in (Restarts point) t = changed_at point (restarted (settings point)) t
  change_in (GivesUp point link) t = changed_at point (given_up link) t
  change_in (OpensOutside point link) t = if_in (leads_out settings point link) point (be_led link) t
  change_in (ComesOutside point link text) t = if_in (leads_out settings point link) point (put_in settings point link text (read_frame text)) t

  if-is : (b : Bool) (point : ℕ) (f : NetworkNode → NetworkNode) (t : Four) → (if b then changed point f (network_of t) else network_of t) ≡ network_of (if_in b point f t)
  if-is true point f t = changed-is f t point
  if-is false point f t = refl

  change-is : (change : Change) (t : Four) → after_change settings change (network_of t) ≡ network_of (change_in change t)
  change-is (Does step) t = one-is step (is_node settings step.point) t
  change-is (Restarts point) t = changed-is (restarted (settings point)) t point
  change-is (GivesUp point link) t = changed-is (given_up link) t point
  change-is (OpensOutside point link) t = if-is (leads_out settings point link) point (be_led link) t
  change-is (ComesOutside point link text) t = if-is (leads_out settings point link) point (put_in settings point link text (read_frame text)) t

  abbrev pub changes_in : List Change → Four → Four
  changes_in [] t = t
  changes_in (change ∷ changes) t = changes_in changes (change_in change t)

  pub changes-in-is : (changes : List Change) (t : Four) → after_changes settings changes (network_of t) ≡ network_of (changes_in changes t)
  changes-in-is [] t = refl
  changes-in-is (change ∷ changes) t = ap (after_changes settings changes) (change-is change t) ∙ changes-in-is changes (change_in change t)

-- of the mated pair

abbrev pub run : List Step → Four → Four
run steps t = run_in mated steps t

pub run-is : (steps : List Step) (t : Four) → after_steps mated steps (network_of t) ≡ network_of (run steps t)
run-is = run-in-is mated
