-- The runs of the mated pair, as `node_moves` computes them.
use Rattle.std.proofs.Common.{◌≡◌, ◌<◌, ◌&&◌, ℕ, Bool, true, false, not, List, [], ◌∷◌, ◌++◌, length, map, refl, ap, sym, subst, ◌∙◌}
use Rattle.std.proofs.lemmas.List.Elements.{All-cons, All-nil}
use Rattle.std.specs.Prelude.{All, count_by, if◌then◌else◌}
use Rattle.signalling_types.specs.Message.{Message, is_management}
use Rattle.settings.specs.Configuration.{Configuration}
use Rattle.changeover.specs.Changeover.{may_restart}
use Rattle.exchange_rules.specs.ChangingOver.{changeover_of}
use Rattle.exchange_rules.specs.Queues.{WholeQueues}
use Rattle.exchange_rules.specs.Routing.{peer_of}
use Rattle.exchange_rules.specs.State.{Node, Parts, down, late_any, lost_any}
use Rattle.settings.specs.Sharing.{LeadsAlone}
use Rattle.node_moves.specs.Anew as anew
use Rattle.node_moves.specs.Anew.{Does, after_changes, is_for_either}
use Rattle.node_moves.specs.AnewRun as anew_run
use Rattle.node_moves.specs.AnewRun.{BeginsAnew, next, restarting, return}
use Rattle.node_moves.specs.HopRun as hop_run
use Rattle.node_moves.specs.HopRun.{MatesAreAHop, breaking, message_three}
use Rattle.node_moves.specs.MatedPair.{mated}
use Rattle.node_moves.specs.MatedRun as mated_run
use Rattle.node_moves.specs.MatedRun.{cross, opening, sends, settling, submits, users, users_in}
use Rattle.node_moves.specs.Networks as nodes
use Rattle.node_moves.specs.Networks.{Fate, IsNode, messages_of}
use Rattle.node_moves.proofs.AnewRun.{begins-anew}
use Rattle.node_moves.proofs.HopRun.{mates-hop, pair-hop}
use Rattle.pair_rules.specs.Pairs.{may_follow, may_open_at}
use Rattle.neighbour_rules.specs.Anew.{Stays, most}
use Rattle.network_rules.specs.Anew.{IsStepOrThird, Steps, begun_anew}
use Rattle.network_rules.specs.Networks.{NetworkState, end_of, first_network}
use Rattle.network_rules.proofs.AllRuns.{steps-keep}
use Rattle.network_rules.proofs.Reached.{changes-keep}
use Rattle.node_law.specs.Alike.{came_by}
use Rattle.node_law.specs.Anew.{IsQuietThere}
use Rattle.node_law.specs.Hops.{AreHop, AreOfOneNetwork}
use Rattle.node_law.specs.Mated.{mated_points}
use Rattle.node_law.specs.MatedRuns.{MatesBeginAnew, MatesCarry, as_changes, as_step, as_steps, come_anew, come_over, over, served, since_then}
use Rattle.node_law.proofs.Changes.{all-begun}
use Rattle.node_law.proofs.Exact.{all-done, steps-done}
use Rattle.node_law.proofs.Mated.{mated-placed}
use Rattle.node_law.proofs.Runs.{first-all}
use Rattle.node_law.proofs.Steps.{AreKept, AreSame}

-- ---- messages and their fates

users-of : (fs : List Fate) → users (messages_of fs) ≡ messages_of (users_in fs)
users-of [] = refl
users-of (f ∷ fs) = by (is_management f.message) (users-of fs)
  where
    by : (b : Bool) → users (messages_of fs) ≡ messages_of (users_in fs)
        → (if not b then f.message ∷ users (messages_of fs) else users (messages_of fs)) ≡ messages_of (if not b then f ∷ users_in fs else users_in fs)
    by true more = more
    by false more = ap (λ (ms : List Message). f.message ∷ ms) more

module _ (w : NetworkState) (v : nodes.NetworkState) (same : AreSame mated w v) where
  pub node-is : (point : ℕ) → IsNode mated point → (w.node point).exchange.node ≡ (v.node point).node
  node-is point fx = (same.each point fx).exchange.node

  pub accepted-is : (point : ℕ) → IsNode mated point → users (w.node point).accepted ≡ users (v.node point).accepted
  accepted-is point fx = ap users (same.each point fx).books.taken

  pub came-is : (point link : ℕ) → IsNode mated point → users (came_by link (w.node point).arrived) ≡ messages_of (users_in ((v.node point).came link))
  came-is point link fx = ap users ((same.each point fx).books.came link) ∙ users-of ((v.node point).came link)

-- the mates are a hop of any network with these settings, and of one network
module _ (w : NetworkState) (kept : AreKept mated w) where
  pub are-hop : AreHop mated_points w 1 2
  are-hop = record {
    near_there = refl;
    far_there = refl;
    leads = record {
      near_set = pair-hop.near_set;
      far_set = pair-hop.far_set;
      near_leads = subst (λ (c : Configuration). LeadsAlone c 2 pair-hop.near_set) (sym (kept 1)) pair-hop.near_leads;
      far_leads = subst (λ (c : Configuration). LeadsAlone c 1 pair-hop.far_set) (sym (kept 2)) pair-hop.far_leads;
    };
  }

  pub one-network : AreOfOneNetwork w 1 2
  one-network = ap (λ (c : Configuration). c.network) (kept 1) ∙ sym (ap (λ (c : Configuration). c.network) (kept 2))

-- ---- a message comes over the hop

first-kept : AreKept mated (first_network mated)
first-kept point = refl

served-kept : AreKept mated served
served-kept point = steps-keep (as_steps (opening ++ settling)) (first_network mated) point

come-kept : AreKept mated come_over
come-kept point = steps-keep (as_steps (submits message_three ∷ breaking ++ sends cross)) served point ∙ served-kept point

served-same : AreSame mated served mated_run.served
served-same = steps-done mated mated_points mated-placed (opening ++ settling) (first_network mated) (nodes.first_network mated) first-kept (first-all mated mated_points mated-placed) refl

come-same : AreSame mated come_over hop_run.come_over
come-same = steps-done mated mated_points mated-placed (submits message_three ∷ breaking ++ sends cross) served mated_run.served served-kept served-same refl

there : (f : Parts → ℕ) (point n : ℕ) → IsNode mated point → f (hop_run.come_over.node point).node.parts ≡ n → f (come_over.node point).exchange.node.parts ≡ n
there f point n fx e = ap (λ (k : Node WholeQueues). f k.parts) (node-is come_over hop_run.come_over come-same point fx) ∙ e

unraised : (f : Parts → Bool) (point : ℕ) → IsNode mated point → f (hop_run.come_over.node point).node.parts ≡ false → f (come_over.node point).exchange.node.parts ≡ false
unraised f point fx e = ap (λ (k : Node WholeQueues). f k.parts) (node-is come_over hop_run.come_over come-same point fx) ∙ e

pub mates-carry : MatesCarry
mates-carry = record {
  hop = are-hop come_over come-kept;
  whole = record { near_whole = there (λ p. p.times_broken) 1 0 refl mates-hop.whole.near_whole; far_whole = there (λ p. p.times_broken) 2 0 refl mates-hop.whole.far_whole };
  lossless = record { near_none = unraised lost_any 1 refl mates-hop.lossless.near_none; far_none = unraised lost_any 2 refl mates-hop.lossless.far_none };
  in_time = record {
    network = one-network come_over come-kept;
    lossless = record { near = unraised lost_any 1 refl mates-hop.lossless.near_none; far = unraised lost_any 2 refl mates-hop.lossless.far_none };
    punctual = unraised late_any 1 refl mates-hop.punctual;
  };
  broken = there (λ p. p.times_broken) 3 1 refl mates-hop.broken;
  accepted = accepted-is come_over hop_run.come_over come-same 1 refl ∙ mates-hop.accepted;
  comes = came-is come_over hop_run.come_over come-same 2 2 refl ∙ ap messages_of mates-hop.comes;
}

-- ---- and one anew

over-kept : AreKept mated over
over-kept point = changes-keep (as_changes restarting) (first_network mated) point

anew-kept : AreKept mated come_anew
anew-kept point = changes-keep since_then (begun_anew over) point ∙ over-kept point

over-same : AreSame mated over anew_run.over
over-same = all-done mated mated_points mated-placed restarting (first_network mated) (nodes.first_network mated) first-kept (first-all mated mated_points mated-placed) refl

anew-same : AreSame mated come_anew anew_run.come_anew
anew-same =
    all-done mated mated_points mated-placed (map Does (return ++ next)) (begun_anew over) (anew.begun_anew anew_run.over) over-kept
    (all-begun mated mated_points mated-placed over anew_run.over over-same) refl

-- an end that is quiet there is so here
opens : (d i a : Bool) → d ≡ true → i ≡ false → a ≡ false → (d && (not i && not a)) ≡ true
opens true false false e f g = refl
opens true true a e f g = absurd cc
opens true false true e f g = absurd cc
opens false i a e f g = absurd cc

module _ (point link : ℕ) (fx : IsNode mated point) (q : anew.IsQuietEnd (anew_run.over.node point) link) where
  quiet-end : (may_open_at (end_of (over.node point)) link ≡ true) × (may_follow (end_of (over.node point)) link ≡ false)
  quiet-end =
      let is : (over.node point).exchange.node ≡ (anew_run.over.node point).node = node-is over anew_run.over over-same point fx in (
        ap (λ (n : Node WholeQueues). down n.parts link && may_restart (changeover_of n.parts link)) is
            ∙ opens (down (anew_run.over.node point).node.parts link) (changeover_of (anew_run.over.node point).node.parts link).incomplete (changeover_of (anew_run.over.node point).node.parts link).awaited q.down q.complete
            q.unawaited,
        (over-same.each point fx).flight.follows link ∙ q.alone,
      )

quiet-there : (here other : ℕ) → IsNode mated here → anew.IsQuietNode mated 1 2 anew_run.over here other → IsQuietThere 1 2 over here other
quiet-there here other fx q = record {
  links = λ link inside to.
      quiet-end here link fx
      (q.links link (subst (λ (c : Configuration). link < length c.links) (over-kept here) inside) (ap (λ (c : Configuration). peer_of c link) (sym (over-kept here)) ∙ to));
  held = ap (λ (n : Node WholeQueues). count_by (is_for_either 1 2) n.queues.held) (node-is over anew_run.over over-same here fx) ∙ q.held;
}

-- steps are nobody's restart
of-steps : (steps : List nodes.Step) → All (IsStepOrThird 1 2) (as_changes (map Does steps))
of-steps [] = All-nil (IsStepOrThird 1 2)
of-steps (step ∷ steps) = All-cons (IsStepOrThird 1 2) (Steps (as_step step)) (as_changes (map Does steps)) tt (of-steps steps)

module _ (f : Parts → ℕ) (point : ℕ) (fx : IsNode mated point) where
  stays : anew.Stays (f (anew_run.over.node point).node.parts) (f (anew_run.come_anew.node point).node.parts) → Stays (f (over.node point).exchange.node.parts) (f (come_anew.node point).exchange.node.parts)
  stays h =
      let before : f (over.node point).exchange.node.parts ≡ f (anew_run.over.node point).node.parts = ap (λ (n : Node WholeQueues). f n.parts) (node-is over anew_run.over over-same point fx) in
      let after : f (come_anew.node point).exchange.node.parts ≡ f (anew_run.come_anew.node point).node.parts = ap (λ (n : Node WholeQueues). f n.parts) (node-is come_anew anew_run.come_anew anew-same point fx) in
      record { countable = subst (λ (k : ℕ). k < most) (sym before) h.countable; same = after ∙ h.same ∙ sym before }

pub mates-begin : MatesBeginAnew
mates-begin = record {
  hop = record {
    hop = are-hop over over-kept;
    quiet = record { near_quiet = quiet-there 1 2 refl begins-anew.left.near_quiet; far_quiet = quiet-there 2 1 refl begins-anew.left.far_quiet };
    others = of-steps (return ++ next);
  };
  in_time = record {
    network = one-network over over-kept;
    lossless = record { near = stays (λ p. p.times_lost) 1 refl begins-anew.none_lost.near_none; far = stays (λ p. p.times_lost) 2 refl begins-anew.none_lost.far_none };
    punctual = stays (λ p. p.times_late) 1 refl begins-anew.punctual;
  };
  accepted_before = accepted-is over anew_run.over over-same 1 refl ∙ begins-anew.accepted_before;
  none_came = came-is over anew_run.over over-same 2 2 refl ∙ ap messages_of begins-anew.none_came;
  accepted = accepted-is come_anew anew_run.come_anew anew-same 1 refl ∙ begins-anew.accepted;
  comes = came-is come_anew anew_run.come_anew anew-same 2 2 refl ∙ ap messages_of begins-anew.comes;
}
