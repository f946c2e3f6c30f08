-- A run of `node_moves` is a run of a network of these laws, step by step, if each is at a node, on a link of it.
use Rattle.std.proofs.Common.{◌≡◌, ◌<◌, ◌&&◌, ℕ, Bool, true, false, List, [], ◌∷◌, length, Option, nat_lt, sym, subst, ◌∙◌, arith}
use Rattle.std.proofs.lemmas.Bool.Decides.{nat_tests}
use Rattle.std.specs.List.{list_all}
use Rattle.std.specs.Prelude.{if◌then◌else◌}
use Rattle.settings.specs.Configuration.{Configuration}
use Rattle.exchange_rules.specs.Exchange.{frame_to_take, wants_of}
use Rattle.exchange_rules.specs.Queues.{whole}
use Rattle.exchange_rules.specs.State.{WentDown, Ticked, Activated, Deactivated, Released, TitleAdded, TitleSet, TitleRemoved}
use Rattle.node_moves.specs.Anew as anew
use Rattle.node_moves.specs.Anew.{after_changes}
use Rattle.node_moves.specs.Networks as nodes
use Rattle.node_moves.specs.Networks.{IsNode, is_node}
use Rattle.node_moves.proofs.Closed.{each-true}
use Rattle.pair_rules.specs.Pairs as pairs
use Rattle.network_rules.specs.Anew.{GivesUp, Restarts, after_all, given_up, restarted}
use Rattle.network_rules.specs.Networks.{NetworkNode, NetworkState, Place, after_steps, changed, did, did_here, may_open_there, opens_first, take_frame}
use Rattle.network_rules.specs.Totals.{IsPlaced}
use Rattle.network_rules.proofs.AllRuns.{did-keeps}
use Rattle.network_rules.proofs.Reached.{change-keeps}
use Rattle.node_law.specs.MatedRuns.{as_changes, as_doing, as_steps}
use Rattle.node_law.proofs.Changes.{same-given-up, same-restarted}
use Rattle.node_law.proofs.Doings.{same-happens, same-submit}
use Rattle.node_law.proofs.Runs.{data-as, doubled-as, lost-as, second-as, status-as}
use Rattle.node_law.proofs.Same.{IsSame}
use Rattle.node_law.proofs.Steps.{AreKept, AreSame, both-changed, end-is, opens-inside, takes-inside}

-- what goes to another node goes by a link of this one
abbrev is_inside : Configuration → nodes.Doing → Bool
is_inside c (nodes.Takes link) = nat_lt link (length c.links)
is_inside c (nodes.OpensFirst link) = nat_lt link (length c.links)
is_inside c what = true

abbrev pub is_done : (settings : (point : ℕ) → Configuration) → anew.Change → Bool
is_done settings (anew.Does step) = is_node settings step.point && is_inside (settings step.point) step.what
is_done settings (anew.Restarts point) = true
is_done settings (anew.GivesUp point link) = true
is_done settings (anew.OpensOutside point link) = false
is_done settings (anew.ComesOutside point link text) = false

module _ (settings : (point : ℕ) → Configuration) (numbers : List ℕ) (placed : IsPlaced settings numbers) where
  module _ (w : NetworkState) (v : nodes.NetworkState) (kept : AreKept settings w) (h : AreSame settings w v) (point : ℕ) (fx : IsNode settings point) where
    abbrev c : Configuration
    c = settings point

    abbrev x : NetworkNode
    x = w.node point

    abbrev y : nodes.NetworkNode
    y = v.node point

    at : (f : NetworkNode → NetworkNode) (g : nodes.NetworkNode → nodes.NetworkNode) → (IsSame c x y → IsSame c (f x) (g y)) → AreSame settings (changed point f w) (nodes.changed point g v)
    at f g same = both-changed settings w v h point f g (λ fp. same (h.each point fp))

    less : (link : ℕ) → nat_lt link (length c.links) ≡ true → link < length c.links
    less link e = grind (arith, nat_tests, e)

    done : (what : nodes.Doing) → is_inside c what ≡ true → AreSame settings (did (as_doing what) point w) (nodes.did settings what point v)
    done (nodes.Submits m) e = at (did_here (pairs.Submits m)) (nodes.did_here (nodes.Submits m) c) (λ s. same-submit c x y s m)
    done (nodes.Takes link) e =
        subst (λ (there : Option Place). AreSame settings (take_frame (frame_to_take whole x.exchange link) point link there w) (nodes.did settings (nodes.Takes link) point v))
        (sym (end-is settings numbers placed w v kept h point link)) (takes-inside settings numbers placed w v kept h point link fx (less link e))
    done (nodes.Delivers link) e = at (did_here (pairs.Delivers link)) (nodes.did_here (nodes.Delivers link) c) (data-as settings numbers placed w v kept h point link)
    done (nodes.DeliversStatus link) e = at (did_here (pairs.DeliversStatus link)) (nodes.did_here (nodes.DeliversStatus link) c) (status-as settings numbers placed w v kept h point link)
    done (nodes.LosesStatus link) e = at (did_here (pairs.LosesStatus link)) (nodes.did_here (nodes.LosesStatus link) c) (lost-as settings numbers placed w v kept h point link)
    done (nodes.DoublesStatus link) e = at (did_here (pairs.DoublesStatus link)) (nodes.did_here (nodes.DoublesStatus link) c) (doubled-as settings numbers placed w v kept h point link)
    done (nodes.Loses link) e = at (did_here (pairs.Loses link)) (nodes.did_here (nodes.Loses link) c) (λ s. same-happens c x y s (WentDown link))
    done nodes.Ticks e = at (did_here pairs.Ticks) (nodes.did_here nodes.Ticks c) (λ s. same-happens c x y s Ticked)
    done (nodes.Activates link emergency) e =
        at (did_here (pairs.Activates link emergency)) (nodes.did_here (nodes.Activates link emergency) c) (λ s. same-happens c x y s (Activated link emergency))
    done (nodes.Deactivates link) e = at (did_here (pairs.Deactivates link)) (nodes.did_here (nodes.Deactivates link) c) (λ s. same-happens c x y s (Deactivated link))
    done (nodes.Releases link) e = at (did_here (pairs.Releases link)) (nodes.did_here (nodes.Releases link) c) (λ s. same-happens c x y s (Released link))
    done (nodes.AddsTitle row refused) e = at (did_here (pairs.AddsTitle row refused)) (nodes.did_here (nodes.AddsTitle row refused) c) (λ s. same-happens c x y s (TitleAdded row refused))
    done (nodes.SetsTitle row refused) e = at (did_here (pairs.SetsTitle row refused)) (nodes.did_here (nodes.SetsTitle row refused) c) (λ s. same-happens c x y s (TitleSet row refused))
    done (nodes.RemovesTitle key digits) e = at (did_here (pairs.RemovesTitle key digits)) (nodes.did_here (nodes.RemovesTitle key digits) c) (λ s. same-happens c x y s (TitleRemoved key digits))
    done (nodes.OpensFirst link) e =
        subst (λ (there : Option Place). AreSame settings (opens_first (wants_of x.exchange link) (may_open_there w there) point link there w) (nodes.did settings (nodes.OpensFirst link) point v))
        (sym (end-is settings numbers placed w v kept h point link)) (opens-inside settings numbers placed w v kept h point link fx (less link e))
    done (nodes.OpensSecond link) e = at (did_here (pairs.OpensSecond link)) (nodes.did_here (nodes.OpensSecond link) c) (second-as settings numbers placed w v kept h point link)

  one-done : (step : nodes.Step) (w : NetworkState) (v : nodes.NetworkState) → AreKept settings w → AreSame settings w v → is_done settings (anew.Does step) ≡ true
      → AreSame settings (did (as_doing step.what) step.point w) (nodes.after_step settings step v)
  one-done step w v kept h e =
      let two : (is_node settings step.point ≡ true) × (is_inside (settings step.point) step.what ≡ true) = each-true (is_node settings step.point) (is_inside (settings step.point) step.what) e in
      subst (λ (b : Bool). AreSame settings (did (as_doing step.what) step.point w) (if b then nodes.did settings step.what step.point v else v)) (sym two.0)
      (done w v kept h step.point two.0 step.what two.1)

  pub all-done : (changes : List anew.Change) (w : NetworkState) (v : nodes.NetworkState) → AreKept settings w → AreSame settings w v → list_all (is_done settings) changes ≡ true
      → AreSame settings (after_all (as_changes changes) w) (after_changes settings changes v)
  all-done [] w v kept h e = h
  all-done (anew.Does step ∷ changes) w v kept h e =
      let two : (is_done settings (anew.Does step) ≡ true) × (list_all (is_done settings) changes ≡ true) = each-true (is_done settings (anew.Does step)) (list_all (is_done settings) changes) e in
      all-done changes (did (as_doing step.what) step.point w) (nodes.after_step settings step v) (λ other. did-keeps (as_doing step.what) step.point w other ∙ kept other) (one-done step w v kept h two.0) two.1
  all-done (anew.Restarts point ∷ changes) w v kept h e =
      all-done changes (changed point restarted w) (nodes.changed point (anew.restarted (settings point)) v) (λ other. change-keeps (Restarts point) w other ∙ kept other)
      (both-changed settings w v h point restarted (anew.restarted (settings point)) (λ fx. same-restarted settings numbers placed point fx (w.node point) (v.node point) (h.each point fx))) e
  all-done (anew.GivesUp point link ∷ changes) w v kept h e =
      all-done changes (changed point (given_up link) w) (nodes.changed point (anew.given_up link) v) (λ other. change-keeps (GivesUp point link) w other ∙ kept other)
      (both-changed settings w v h point (given_up link) (anew.given_up link) (λ fx. same-given-up (settings point) (w.node point) (v.node point) (h.each point fx) link)) e
  all-done (anew.OpensOutside point link ∷ changes) w v kept h e = absurd cc
  all-done (anew.ComesOutside point link text ∷ changes) w v kept h e = absurd cc

  pub steps-done : (steps : List nodes.Step) (w : NetworkState) (v : nodes.NetworkState) → AreKept settings w → AreSame settings w v → list_all (λ step. is_done settings (anew.Does step)) steps ≡ true
      → AreSame settings (after_steps (as_steps steps) w) (nodes.after_steps settings steps v)
  steps-done [] w v kept h e = h
  steps-done (step ∷ steps) w v kept h e =
      let two : (is_done settings (anew.Does step) ≡ true) × (list_all (λ k. is_done settings (anew.Does k)) steps ≡ true) = each-true (is_done settings (anew.Does step)) (list_all (λ k. is_done settings (anew.Does k)) steps) e in
      steps-done steps (did (as_doing step.what) step.point w) (nodes.after_step settings step v) (λ other. did-keeps (as_doing step.what) step.point w other ∙ kept other) (one-done step w v kept h two.0) two.1
