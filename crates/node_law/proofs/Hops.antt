-- What becomes of the messages of one node for an adjacent one, where one set alone leads between the two.
use Rattle.std.proofs.Common.{◌≡◌, ◌<◌, ◌+◌, ◌-◌, ◌≤◌, ℕ, Bool, true, false, List, length, nat_eq, refl, ap, sym, subst, ◌∙◌, arith, if◌then◌else◌}
use Rattle.std.specs.Prelude.{min}
use Rattle.signalling_types.specs.Message.{Message}
use Rattle.settings.specs.Configuration.{Configuration}
use Rattle.settings.specs.Sharing.{LeadsAlone}
use Rattle.exchange_rules.specs.Queues.{WholeQueues}
use Rattle.exchange_rules.specs.Routing.{peer_of}
use Rattle.exchange_rules.specs.State.{Node, lost_any}
use Rattle.network_moves.specs.Networks.{sum_to}
use Rattle.network_moves.proofs.Counts.{sum-alike}
use Rattle.node_moves.specs.EndToEnd.{to_point}
use Rattle.node_moves.specs.Hops as hop
use Rattle.node_moves.specs.Hops.{IsHop, over_hop}
use Rattle.node_moves.specs.Laws as law
use Rattle.node_moves.specs.Laws.{any_fate, fates_that, most, users_that}
use Rattle.node_moves.specs.Networks as nodes
use Rattle.node_moves.specs.Networks.{IsNode}
use Rattle.node_moves.proofs.Hops.{comes-over, loses-nothing}
use Rattle.network_rules.specs.Networks.{NetworkState, first_network, other_end}
use Rattle.network_rules.specs.Outside.{Move}
use Rattle.network_rules.specs.Totals.{IsPlaced, waiting_on}
use Rattle.node_law.specs.Alike.{AreLinked}
use Rattle.node_law.specs.Ends.{came_there}
use Rattle.node_law.specs.Hops.{AreBothUnbroken, AreHop, ComesOver, ComesOverWhole, HaveNoFlag, accepted_for, came_over, gone_for, messages_come_over_a_hop, nothing_is_lost_over_a_hop, settings_of, waits_for}
use Rattle.node_law.proofs.Counting.{accepted-same, broken-same, came-by-same, lost-same, node-same-at, waits-on-same}
use Rattle.node_law.proofs.Ending.{kept, run, theirs, v, w}
use Rattle.node_law.proofs.Places.{listed-node}
use Rattle.node_law.proofs.Steps.{AreKept, AreSame}

if-alike : (b : Bool) (m n : ℕ) → m ≡ n → (if b then m else 0) ≡ (if b then n else 0)
if-alike true m n e = e
if-alike false m n e = refl

-- a hop is one by the settings that its nodes keep
pub hop-kept : (settings : (point : ℕ) → Configuration) (numbers : List ℕ) (z : NetworkState) → AreKept settings z → (near far : ℕ) → AreHop numbers z near far → IsHop settings near far
hop-kept settings numbers z same near far h = record {
  near_set = h.leads.near_set;
  far_set = h.leads.far_set;
  near_leads = subst (λ (c : Configuration). LeadsAlone c far h.leads.near_set) (same near) h.leads.near_leads;
  far_leads = subst (λ (c : Configuration). LeadsAlone c near h.leads.far_set) (same far) h.leads.far_leads;
}

-- ---- its counts are the same of two networks that are alike

module _ (settings : (point : ℕ) → Configuration) (numbers : List ℕ) (placed : IsPlaced settings numbers) (z : NetworkState) (u : nodes.NetworkState) (stay : AreKept settings z) (same : AreSame settings z u)
    (near far : ℕ) (fn : IsNode settings near) (test : Message → Bool) where
  abbrev those : Message → Bool
  those = to_point far test

  over-same : (f g : ℕ → ℕ) → ((link : ℕ) → link < length (settings near).links → f link ≡ g link) → over_hop (settings_of z) near far f ≡ over_hop settings near far g
  over-same f g each =
      ap (λ (c : Configuration). sum_to (λ link. if nat_eq (peer_of c link) far then f link else 0) (length c.links)) (stay near)
      ∙ sum-alike (λ link. if nat_eq (peer_of (settings near) link) far then g link else 0) (λ link. if nat_eq (peer_of (settings near) link) far then f link else 0) (length (settings near).links)
      (λ link inside. if-alike (nat_eq (peer_of (settings near) link) far) (f link) (g link) (each link inside))

  pub hop-accepted : accepted_for z near far test ≡ hop.accepted_for settings near far u test
  hop-accepted = accepted-same settings numbers placed z u stay same those near fn

  pub hop-came : came_over z near far test ≡ hop.came_over settings near far u test
  hop-came =
      over-same (λ link. users_that those (came_there z (other_end z near link))) (λ link. fates_that any_fate those (law.came_by settings u (nodes.other_end settings near link)))
      (came-by-same settings numbers placed z u stay same those near)

  pub hop-waits : waits_for z near far test ≡ hop.waits_for settings near far u test
  hop-waits =
      ap (λ (n : Node WholeQueues). users_that those n.queues.held + over_hop (settings_of z) near far (λ link. users_that those (waiting_on z near link))) (node-same-at settings numbers placed z u stay same near fn)
      ∙ ap (λ (k : ℕ). users_that those (u.node near).node.queues.held + k)
      (over-same (λ link. users_that those (waiting_on z near link)) (λ link. users_that those (law.waiting_on settings u near link))
      (λ link inside. ap (users_that those) (waits-on-same settings numbers placed z u stay same those near link fn inside)))

  three-same : (a c k b d l : ℕ) → a ≡ b → c ≡ d → k ≡ l → a - (c + k) ≡ b - (d + l)
  three-same a c k b d l e f i = omega (arith, e, f, i)

  pub hop-gone : gone_for z near far test ≡ hop.gone_for settings near far u test
  hop-gone =
      three-same (accepted_for z near far test) (came_over z near far test) (waits_for z near far test) (hop.accepted_for settings near far u test) (hop.came_over settings near far u test) (hop.waits_for settings near far u test)
      hop-accepted hop-came hop-waits

  same-sum : (a c k g b d l h : ℕ) → a ≡ b → c ≡ d → k ≡ l → g ≡ h → b ≡ d + l + h → a ≡ c + k + g
  same-sum a c k g b d l h e f i j m = omega (arith, e, f, i, j, m)

  pub hop-once : hop.accepted_for settings near far u test ≡ hop.came_over settings near far u test + hop.waits_for settings near far u test + hop.gone_for settings near far u test
      → accepted_for z near far test ≡ came_over z near far test + waits_for z near far test + gone_for z near far test
  hop-once =
      same-sum (accepted_for z near far test) (came_over z near far test) (waits_for z near far test) (gone_for z near far test)
      (hop.accepted_for settings near far u test) (hop.came_over settings near far u test) (hop.waits_for settings near far u test) (hop.gone_for settings near far u test) hop-accepted hop-came hop-waits hop-gone

  two-same : (a c k b d l : ℕ) → a ≡ b → c ≡ d → k ≡ l → b ≡ d + l → a ≡ c + k
  two-same a c k b d l e f i m = omega (arith, e, f, i, m)

  pub hop-whole : hop.accepted_for settings near far u test ≡ hop.came_over settings near far u test + hop.waits_for settings near far u test → accepted_for z near far test ≡ came_over z near far test + waits_for z near far test
  hop-whole =
      two-same (accepted_for z near far test) (came_over z near far test) (waits_for z near far test) (hop.accepted_for settings near far u test) (hop.came_over settings near far u test) (hop.waits_for settings near far u test)
      hop-accepted hop-came hop-waits

-- ---- the laws

module _ (settings : (point : ℕ) → Configuration) (numbers : List ℕ) (moves : List Move) (placed : IsPlaced settings numbers) (linked : AreLinked (first_network settings)) (near far : ℕ)
    (h : AreHop numbers (w settings numbers moves placed linked) near far) where
  abbrev z : NetworkState
  z = w settings numbers moves placed linked

  abbrev u : nodes.NetworkState
  u = v settings numbers moves placed linked

  abbrev stay : AreKept settings z
  stay = kept settings numbers moves placed linked

  abbrev same : AreSame settings z u
  same = (run settings numbers moves placed linked).same

  abbrev fn : IsNode settings near
  fn = listed-node settings numbers placed near h.near_there

  abbrev ff : IsNode settings far
  ff = listed-node settings numbers placed far h.far_there

  abbrev leads : IsHop settings near far
  leads = hop-kept settings numbers z stay near far h

  comes : AreBothUnbroken z near far → ComesOver z near far
  comes b =
      let e : hop.ComesOver settings near far u =
      comes-over settings (run settings numbers moves placed linked).steps near far (theirs settings numbers moves placed linked) fn ff leads
      (record { near_whole = broken-same settings numbers placed z u stay same near fn ∙ b.near_whole; far_whole = broken-same settings numbers placed z u stay same far ff ∙ b.far_whole }) in
      record {
        once = λ test. hop-once settings numbers placed z u stay same near far fn test (e.once test);
        counted = λ test.
            subst (λ (k : ℕ). min k most ≤ (z.node near).exchange.node.parts.messages_lost) (sym (hop-gone settings numbers placed z u stay same near far fn test))
            (subst (λ (k : ℕ). min (hop.gone_for settings near far u test) most ≤ k) (lost-same settings numbers placed z u stay same near fn) (e.counted test));
      }

  flag-same : (x : ℕ) → IsNode settings x → lost_any (z.node x).exchange.node.parts ≡ false → lost_any (u.node x).node.parts ≡ false
  flag-same x fx e = ap (λ (n : Node WholeQueues). lost_any n.parts) (sym (node-same-at settings numbers placed z u stay same x fx)) ∙ e

  whole : HaveNoFlag z near far → ComesOverWhole z near far
  whole none = record {
    once = λ test.
        hop-whole settings numbers placed z u stay same near far fn test
        (loses-nothing settings (run settings numbers moves placed linked).steps near far test (theirs settings numbers moves placed linked) fn ff leads
        (record { near_none = flag-same near fn none.near_none; far_none = flag-same far ff none.far_none }));
  }

pub all-come : messages_come_over_a_hop
all-come settings numbers moves placed linked near far h b = comes settings numbers moves placed linked near far h b

pub all-whole : nothing_is_lost_over_a_hop
all-whole settings numbers moves placed linked near far h none = whole settings numbers moves placed linked near far h none
