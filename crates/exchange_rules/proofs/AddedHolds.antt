-- A link that returns leaves Held as it is, and holds flows beside those that were held: what waited still waits.
use Rattle.exchange_rules.proofs.Basics.{◌≡◌, ℕ, zero, suc, Bool, true, false, ◌&&◌, not, List, [], ◌∷◌, length, Option, Some, None, refl, ap, ◌∙◌, if◌then◌else◌, and_from as pair}
use Rattle.exchange_rules.proofs.Definitions.{enters_traffic, take_step, test_if, queue_if, send_test, awaiting_test, link_test, tests_links, no_room, in_service, Cause, Message, flow_of, is_management, Configuration, destination_place, Transition, Facts, HoldSet, is_held, Parts, Node, with_parts, WholeQueues, whole, facts, is_held_at, is_flow_held, waits, all_wait, loses_flows, code_for, declare_by, hold_flows, take_back_each, change_back, has_other, enters, begun_anew_if, moved_on, return_if, advance, step_on}
use Rattle.exchange_rules.proofs.TakenPairs.{flows_stay_held}

-- ---- holds are added

-- what one table holds, another holds too
record HoldsMore (t u : HoldSet) : Type 0 where
  pub flows : (destination sls : ℕ) → is_held t destination sls ≡ true → is_held u destination sls ≡ true

held_at-more : (place : Option ℕ) (sls : ℕ) (t u : HoldSet) → HoldsMore t u → is_held_at t place sls ≡ true → is_held_at u place sls ≡ true
held_at-more (Some place) sls t u m e = m.flows place sls e
held_at-more None sls t u m e = absurd cc

both : (a b d : Bool) → (b ≡ true → d ≡ true) → (a && b) ≡ true → (a && d) ≡ true
both true b d f e = f e
both false b d f e = e

waits-more : (c : Configuration) (m : Message) (t u : HoldSet) → HoldsMore t u → waits c t m ≡ true → waits c u m ≡ true
waits-more c m t u h e =
    both (not (is_management m)) (is_flow_held c t m) (is_flow_held c u m) (held_at-more (destination_place c (flow_of m).point) (flow_of m).sls t u h) e

front : (a b : Bool) → (a && b) ≡ true → a ≡ true
front true b e = refl
front false b e = absurd cc

rest : (a b : Bool) → (a && b) ≡ true → b ≡ true
rest true b e = e
rest false b e = absurd cc

all_wait-more : (c : Configuration) (ms : List Message) (t u : HoldSet) → HoldsMore t u → all_wait c t ms ≡ true → all_wait c u ms ≡ true
all_wait-more c [] t u h e = e
all_wait-more c (m ∷ ms) t u h e =
    pair (waits c u m) (all_wait c u ms)
    (waits-more c m t u h (front (waits c t m) (all_wait c t ms) e)) (all_wait-more c ms t u h (rest (waits c t m) (all_wait c t ms) e))

-- ---- a link takes its flows back

module _ (c : Configuration) where
  declare_by-held : (code : Option ℕ) (link other : ℕ) (n : Node WholeQueues) → (declare_by whole c code link other n).queues.held ≡ n.queues.held
  declare_by-held (Some code) link other n = refl
  declare_by-held None link other n = refl

  either-held : (b : Bool) (n o m : Node WholeQueues) → n.queues.held ≡ m.queues.held → o.queues.held ≡ m.queues.held → (if b then n else o).queues.held ≡ m.queues.held
  either-held true n o m e f = e
  either-held false n o m e f = f

  take_back_each-held : (before after : Facts) (link many : ℕ) (n : Node WholeQueues) → (take_back_each whole c before after link many n).queues.held ≡ n.queues.held
  unfolding take_back_each
  take_back_each-held before after link zero n = refl
  take_back_each-held before after link (suc other) n =
      let one : Node WholeQueues = take_back_each whole c before after link other n in
      let e : one.queues.held ≡ n.queues.held = take_back_each-held before after link other n in
      either-held (loses_flows c before after other link) (hold_flows whole c before after (code_for whole c link other one) link other one) one n
      (declare_by-held (code_for whole c link other one) link other one ∙ e) e

  change_back-waits : (link : ℕ) (before : Facts) (n : Node WholeQueues) → all_wait c n.parts.holds n.queues.held ≡ true
      → all_wait c (change_back whole c link before n).parts.holds (change_back whole c link before n).queues.held ≡ true
  change_back-waits link before n w =
      let after : Facts = facts c n.parts in
      let last : Node WholeQueues = take_back_each whole c before after link (length c.links) n in
      ap (λ (ms : List Message). all_wait c last.parts.holds ms) (take_back_each-held before after link (length c.links) n)
      ∙ all_wait-more c n.queues.held n.parts.holds last.parts.holds
      (record { flows = λ destination sls e. flows_stay_held whole c before after link (length c.links) n destination sls e }) w

  return_if-waits : (b : Bool) (link : ℕ) (before : Facts) (n : Node WholeQueues) → all_wait c n.parts.holds n.queues.held ≡ true
      → all_wait c (return_if whole c b link before n).parts.holds (return_if whole c b link before n).queues.held ≡ true
  return_if-waits true link before n w = change_back-waits link before n w
  return_if-waits false link before n w = w

  -- nor does it change when what is known over a set is reset
  anew-waits : (b : Bool) (link : ℕ) (p : Parts) (ms : List Message) → all_wait c p.holds ms ≡ true → all_wait c (begun_anew_if b c link p).holds ms ≡ true
  anew-waits true link p ms w = w
  anew-waits false link p ms w = w

  -- nor does it change as a test goes out
  queued-waits : (room : Option Cause) (link : ℕ) (n : Node WholeQueues) → all_wait c n.parts.holds n.queues.held ≡ true
      → all_wait c (queue_if whole c room link (link_test c link) n).parts.holds (queue_if whole c room link (link_test c link) n).queues.held ≡ true
  queued-waits (Some cause) link n w = w
  queued-waits None link n w = w

  begun-waits : (begins : Bool) (link : ℕ) (n : Node WholeQueues) → all_wait c n.parts.holds n.queues.held ≡ true
      → all_wait c (if begins then send_test whole c link n else n).parts.holds (if begins then send_test whole c link n else n).queues.held ≡ true
  begun-waits true link n w = queued-waits (no_room whole c (link_test c link) n.queues) link (with_parts n (awaiting_test c link n.parts)) w
  begun-waits false link n w = w

  tested-waits : (entered : Bool) (link : ℕ) (n : Node WholeQueues) → all_wait c n.parts.holds n.queues.held ≡ true
      → all_wait c (test_if whole c entered link n).parts.holds (test_if whole c entered link n).queues.held ≡ true
  tested-waits true link n w = begun-waits (tests_links c && in_service n.parts link) link n w
  tested-waits false link n w = w

  -- what waited still waits when a link takes a step of its alignment
  pub advance-waits : (link : ℕ) (step : Transition) (n : Node WholeQueues) → all_wait c n.parts.holds n.queues.held ≡ true
      → all_wait c (advance whole c link step n).parts.holds (advance whole c link step n).queues.held ≡ true
  advance-waits link step n w =
      tested-waits (enters link step n.parts) link (take_step whole c link step n) (
      return_if-waits (enters_traffic link step n.parts) link (facts c n.parts) (with_parts n (moved_on c link step n.parts))
      (anew-waits (enters_traffic link step n.parts && not (has_other c link n.parts)) link (step_on c link step n.parts) n.queues.held w))
