-- A network anew: from each one on in which nothing is left at any node.
use Rattle.std.proofs.Common.{◌≡◌, ◌<◌, ◌+◌, ◌≤◌, ℕ, true, List, [], ◌∷◌, length, map, refl, ap, sym, subst, ◌∙◌, arith}
use Rattle.std.proofs.lemmas.List.Elements.{All-head, All-tail}
use Rattle.std.specs.Prelude.{All, Bool, min, sum_by}
use Rattle.signalling_types.specs.Message.{Message}
use Rattle.settings.specs.Configuration.{Configuration}
use Rattle.exchange_rules.specs.Queues.{WholeQueues}
use Rattle.exchange_rules.specs.State.{Node}
use Rattle.node_moves.specs.Anew as anew
use Rattle.node_moves.specs.Laws as law
use Rattle.node_moves.specs.Laws.{AreTheirs, most}
use Rattle.node_moves.specs.NetworkAnew as quiet
use Rattle.node_moves.specs.Networks as nodes
use Rattle.node_moves.specs.Networks.{IsNode}
use Rattle.node_moves.proofs.NetworkAnew as moved
use Rattle.node_moves.proofs.NetworkAnew.{each, nodes-anew, sums-anew, takes, whole-so}
use Rattle.neighbour_rules.specs.Anew.{Stays}
use Rattle.network_rules.specs.Anew.{Change, GivesUp, HaveLostNothingSince, IsQuietNetwork, Restarts, Steps, after_all, begun_anew}
use Rattle.network_rules.specs.Networks.{NetworkState, Step, after_step, after_steps, first_network}
use Rattle.network_rules.specs.Paths.{PassesInOrder}
use Rattle.network_rules.specs.Totals.{IsPlaced, is_listed}
use Rattle.network_rules.proofs.AllRuns.{steps-keep}
use Rattle.network_rules.proofs.PassedOn.{all-pass}
use Rattle.network_rules.proofs.Sums.{sum-agree}
use Rattle.node_law.specs.Alike.{AreLinked}
use Rattle.node_law.specs.Anew.{EndsOnceSince, IsStep, NoneBrokenSince, ends_begin_anew, networks_lose_nothing_anew, nodes_begin_anew, nodes_lose_nothing_anew, nothing_is_lost_from_end_to_end_anew, sums_begin_anew}
use Rattle.node_law.specs.Ends.{EndsOnce, EndsWhole, gone_at}
use Rattle.node_law.specs.Sums.{AreAccountedFor, ComeToNode, ComeWhole, IsWhole, ToEach}
use Rattle.node_law.proofs.AnewHops.{begun, quiet-same, start, start-kept, stays, until}
use Rattle.node_law.proofs.Changes.{all-begun, steps-follow}
use Rattle.node_law.proofs.Counting.{gone-same, node-same-at}
use Rattle.node_law.proofs.Ending.{once-same}
use Rattle.node_law.proofs.Points.{sum-nothing}
use Rattle.node_law.proofs.Places.{are-theirs, listed-node, node-listed}
use Rattle.node_law.proofs.Steps.{AreKept, Follows}
use Rattle.node_law.proofs.Summing.{accounted-by}
use Rattle.node_law.proofs.ToPoint.{come-by, come-whole}

-- steps are changes
steps-are : (steps : List Step) (w : NetworkState) → after_all (map Steps steps) w ≡ after_steps steps w
steps-are [] w = refl
steps-are (step ∷ steps) w = steps-are steps (after_step step w)

module _ (settings : (point : ℕ) → Configuration) (numbers : List ℕ) (before : List Change) (its : IsPlaced settings numbers) (linked : AreLinked (first_network settings)) (steps : List Step)
    (rest : IsQuietNetwork numbers (start settings numbers before its linked)) where
  abbrev from : NetworkState
  from = start settings numbers before its linked

  abbrev earlier : nodes.NetworkState
  earlier = begun settings numbers before its linked

  abbrev from-kept : AreKept settings from
  from-kept = start-kept settings numbers before its linked

  abbrev now : NetworkState
  now = after_steps steps (begun_anew from)

  abbrev since : Follows settings now (anew.begun_anew earlier)
  since = steps-follow settings numbers its steps (begun_anew from) (anew.begun_anew earlier) from-kept (all-begun settings numbers its from earlier (until settings numbers before its linked).same)

  abbrev left : nodes.NetworkState
  left = nodes.after_steps settings since.steps (anew.begun_anew earlier)

  abbrev theirs : AreTheirs settings
  theirs = are-theirs settings numbers its linked

  now-kept : AreKept settings now
  now-kept point = steps-keep steps (begun_anew from) point ∙ from-kept point

  then-same : (x : ℕ) → IsNode settings x → (from.node x).exchange.node ≡ (earlier.node x).node
  then-same x fx = node-same-at settings numbers its from earlier from-kept (until settings numbers before its linked).same x fx

  now-same : (x : ℕ) → IsNode settings x → (now.node x).exchange.node ≡ (left.node x).node
  now-same x fx = node-same-at settings numbers its now left now-kept since.same x fx

  -- what the laws of `node_moves` ask
  at-rest : quiet.IsQuietNetwork settings earlier
  at-rest x fx = record {
    links = λ link inside.
        (let q : _ = (rest x (node-listed settings numbers its x fx)).links link (subst (λ (d : Configuration). link < length d.links) (sym (from-kept x)) inside) in
        quiet-same (settings x) (from.node x) (earlier.node x) ((until settings numbers before its linked).same.each x fx) link q.0 q.1);
    held = ap (λ (n : Node WholeQueues). n.queues.held) (sym (then-same x fx)) ∙ (rest x (node-listed settings numbers its x fx)).held;
  }

  stay-there : (f : Node WholeQueues → ℕ) (x : ℕ) → IsNode settings x → Stays (f (from.node x).exchange.node) (f (now.node x).exchange.node) → anew.Stays (f (earlier.node x).node) (f (left.node x).node)
  stay-there f x fx =
      stays (f (from.node x).exchange.node) (f (now.node x).exchange.node) (f (earlier.node x).node) (f (left.node x).node) (ap f (then-same x fx)) (ap f (now-same x fx))

  passes : (y : ℕ) → PassesInOrder (now.node y)
  passes y = subst (λ (v : NetworkState). PassesInOrder (v.node y)) (steps-are steps (begun_anew from)) (all-pass from (map Steps steps) y)

  module _ (whole : NoneBrokenSince numbers from now) where
    whole-there : quiet.NoneBrokenSince settings earlier left
    whole-there x fx = stay-there (λ n. n.parts.times_broken) x fx (whole x (node-listed settings numbers its x fx))

    each-once : (x : ℕ) → IsNode settings x → law.EndsOnce settings left x
    each-once x fx = each settings (until settings numbers before its linked).changes since.steps theirs at-rest whole-there x fx

    counted_so : (a b g k l m : ℕ) → a ≡ b → g ≡ k → l ≡ m → min (b + k) most ≤ m → min (a + g) most ≤ l
    counted_so a b g k l m e f i j = subst (λ (n : ℕ). min n most ≤ l) (both e f) (subst (λ (n : ℕ). min (b + k) most ≤ n) (sym i) j)
      where
        both : a ≡ b → g ≡ k → b + k ≡ a + g
        both e f = omega (arith, e, f)

    pub ends-since : (x : ℕ) → is_listed numbers x ≡ true → EndsOnceSince from now x
    ends-since x listed =
        let fx : IsNode settings x = listed-node settings numbers its x listed in
        let e : EndsOnce now x = once-same settings numbers its now left now-kept since.same x fx (each-once x fx) in
        let f : quiet.EndsOnceSince settings earlier left x = nodes-anew settings (until settings numbers before its linked).changes since.steps theirs at-rest whole-there x fx in
        record {
          once = e.once;
          counted = λ test.
              counted_so (from.node x).exchange.node.parts.messages_lost (earlier.node x).node.parts.messages_lost (gone_at now test x) (law.gone_at settings left test x)
              (now.node x).exchange.node.parts.messages_lost (left.node x).node.parts.messages_lost
              (ap (λ (n : Node WholeQueues). n.parts.messages_lost) (then-same x fx)) (gone-same settings numbers its now left now-kept since.same test x fx)
              (ap (λ (n : Node WholeQueues). n.parts.messages_lost) (now-same x fx)) (f.counted test);
        }

    pub sums-since : AreAccountedFor numbers now
    sums-since = record {
      once = λ test.
          accounted-by settings numbers its now left now-kept since.same passes each-once
          (λ x. takes settings (until settings numbers before its linked).changes since.steps theirs at-rest x)
          (sums-anew settings (until settings numbers before its linked).changes since.steps theirs at-rest whole-there) test;
    }

  lossless : HaveLostNothingSince numbers from now → quiet.NoneLostSince settings earlier left
  lossless none y fy = stay-there (λ n. n.parts.times_lost) y fy (none y (node-listed settings numbers its y fy))

  stayed : (a b k l : ℕ) → a ≡ k → b ≡ l → anew.Stays k l → Stays a b
  stayed a b k l e f h = record { countable = omega (arith, e, h.countable); same = omega (arith, e, f, h.same) }

  -- where none may have lost a message, none counted a break
  pub unbroken-so : HaveLostNothingSince numbers from now → NoneBrokenSince numbers from now
  unbroken-so none x listed =
      let fx : IsNode settings x = listed-node settings numbers its x listed in
      stayed (from.node x).exchange.node.parts.times_broken (now.node x).exchange.node.parts.times_broken (earlier.node x).node.parts.times_broken (left.node x).node.parts.times_broken
      (ap (λ (n : Node WholeQueues). n.parts.times_broken) (then-same x fx)) (ap (λ (n : Node WholeQueues). n.parts.times_broken) (now-same x fx))
      (whole-so settings (until settings numbers before its linked).changes since.steps theirs at-rest (lossless none) x fx)

  last : (a b : ℕ) → b ≡ 0 → a + b ≡ a
  last a b e = omega (arith, e)

  pub none-gone : HaveLostNothingSince numbers from now → (x : ℕ) → is_listed numbers x ≡ true → (test : Message → Bool) → gone_at now test x ≡ 0
  none-gone none x listed test =
      let fx : IsNode settings x = listed-node settings numbers its x listed in
      gone-same settings numbers its now left now-kept since.same test x fx
      ∙ moved.none-gone settings (until settings numbers before its linked).changes since.steps theirs at-rest (lossless none) x fx test

  pub none-anywhere : HaveLostNothingSince numbers from now → (test : Message → Bool) → sum_by (gone_at now test) numbers ≡ 0
  none-anywhere none test = sum-agree (gone_at now test) (λ y. 0) numbers (λ y listed. none-gone none y listed test) ∙ sum-nothing (λ y. 0) numbers (λ y. refl)

  pub ends-whole : HaveLostNothingSince numbers from now → (x : ℕ) → is_listed numbers x ≡ true → EndsWhole now x
  ends-whole none x listed = record { once = λ test. (ends-since (unbroken-so none) x listed).once test ∙ last _ _ (none-gone none x listed test) }

  pub sums-whole : HaveLostNothingSince numbers from now → IsWhole numbers now
  sums-whole none = record { once = λ test. (sums-since (unbroken-so none)).once test ∙ last _ _ (none-anywhere none test) }

-- ---- steps alone

pub record AreOfSteps (changes : List Change) (w : NetworkState) : Type 0 where
  pub steps : List Step
  pub by : after_all changes w ≡ after_steps steps w

pub of-steps : (changes : List Change) → All IsStep changes → (w : NetworkState) → AreOfSteps changes w
of-steps [] each w = record { steps = []; by = refl }
of-steps (Steps step ∷ changes) each w =
    let rest : AreOfSteps changes (after_step step w) = of-steps changes (All-tail IsStep (Steps step) changes each) (after_step step w) in
    record { steps = step ∷ rest.steps; by = rest.by }
of-steps (Restarts point ∷ changes) each w = absurd (All-head IsStep (Restarts point) changes each)
of-steps (GivesUp point link ∷ changes) each w = absurd (All-head IsStep (GivesUp point link) changes each)

-- what holds after steps holds after changes that are steps
by-steps : (P : NetworkState → Type 0) (changes : List Change) → All IsStep changes → (w : NetworkState) → ((steps : List Step) → P (after_steps steps w)) → P (after_all changes w)
by-steps P changes each w holds = (let is : AreOfSteps changes w = of-steps changes each w in subst P (sym is.by) (holds is.steps))

pub all-once : nodes_begin_anew
all-once settings numbers before changes its linked rest each =
    let z : NetworkState = start settings numbers before its linked in
    by-steps (λ v. NoneBrokenSince numbers z v → (x : ℕ) → is_listed numbers x ≡ true → EndsOnceSince z v x) changes each (begun_anew z) (λ steps whole. ends-since settings numbers before its linked steps rest whole)

pub all-summed : sums_begin_anew
all-summed settings numbers before changes its linked rest each =
    let z : NetworkState = start settings numbers before its linked in
    by-steps (λ v. NoneBrokenSince numbers z v → AreAccountedFor numbers v) changes each (begun_anew z) (λ steps whole. sums-since settings numbers before its linked steps rest whole)

pub all-come : ends_begin_anew
all-come settings numbers before changes its linked rest each =
    let z : NetworkState = start settings numbers before its linked in
    by-steps (λ v. NoneBrokenSince numbers z v → ToEach ComeToNode numbers v) changes each (begun_anew z)
    (λ steps whole point listed network. record {
      once = λ test.
          come-by settings numbers its (now settings numbers before its linked steps rest) (now-kept settings numbers before its linked steps rest) point listed network test
          (sums-since settings numbers before its linked steps rest whole);
    })

pub nodes-whole : nodes_lose_nothing_anew
nodes-whole settings numbers before changes its linked rest each =
    let z : NetworkState = start settings numbers before its linked in
    by-steps (λ v. HaveLostNothingSince numbers z v → (x : ℕ) → is_listed numbers x ≡ true → EndsWhole v x) changes each (begun_anew z) (λ steps none. ends-whole settings numbers before its linked steps rest none)

pub all-whole : networks_lose_nothing_anew
all-whole settings numbers before changes its linked rest each =
    let z : NetworkState = start settings numbers before its linked in
    by-steps (λ v. HaveLostNothingSince numbers z v → IsWhole numbers v) changes each (begun_anew z) (λ steps none. sums-whole settings numbers before its linked steps rest none)

pub each-whole : nothing_is_lost_from_end_to_end_anew
each-whole settings numbers before changes its linked rest each =
    let z : NetworkState = start settings numbers before its linked in
    by-steps (λ v. HaveLostNothingSince numbers z v → ToEach ComeWhole numbers v) changes each (begun_anew z)
    (λ steps none point listed network. record {
      once = λ test.
          come-whole settings numbers its (now settings numbers before its linked steps rest) (now-kept settings numbers before its linked steps rest) point listed network test
          (sums-since settings numbers before its linked steps rest (unbroken-so settings numbers before its linked steps rest none)) (none-anywhere settings numbers before its linked steps rest none _);
    })
