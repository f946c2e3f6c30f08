-- What each change of a node keeps holds of each node after every list of steps, if it does at first.
use Rattle.node_moves.proofs.Basics.{◌≡◌, ◌<◌, ℕ, Bool, true, false, List, [], ◌∷◌, length, Option, Some, None, nat_eq, refl, subst, if◌then◌else◌, eqb-true}
use Rattle.node_moves.proofs.Definitions.{Message, Configuration, whole}
use Rattle.node_moves.proofs.Running.{IsNextIn, next-is}
use Rattle.node_moves.specs.Networks.{Fate, NetworkNode, NetworkState, LinkEnd, Doing, Step, is_node, after_step, after_steps, be_led, changed, come_up, did, did_here, fetch, first_network, first_node, flies, follow, hand_over, happens, hear_data, hear_status, may_open_at, next_in, open_first, other_end, reach, with_statuses}
use Rattle.node_moves.specs.Networks as of_nodes
use Rattle.exchange_rules.specs.Opening.{wanted}
use Rattle.exchange_rules.specs.Sending.{after_take, frame_taken}
use Rattle.exchange_rules.specs.State.{CameUp, FrameCame, Happening}
use Rattle.exchange_rules.specs.declared.wants.Wants.{Wants}
use Rattle.exchange_rules.specs.declared.wants.Wants.TheVariants.{Nothing, Open, Close}
use Rattle.m2pa_codec.specs.Frames.{FrameValue, EmptyFrame, MessageFrame, StatusFrame}

-- a node is another one, but for what is in flight to it and whether it may follow
pub record IsSameNode (x y : NetworkNode) : Type 0 where
  pub node : y.node ≡ x.node
  pub submitted : y.submitted ≡ x.submitted
  pub came : y.came ≡ x.came
  pub accepted : y.accepted ≡ x.accepted
  pub made : y.made ≡ x.made
  pub named : y.named ≡ x.named

-- whatever may happen to a node keeps a statement about it: a message is handed over, User Data is heard, something else
-- happens, a frame is taken, or what is in flight changes
pub record IsKept (P : Configuration → NetworkNode → Type 0) : Type 0 where
  pub handed : (c : Configuration) (m : Message) (x : NetworkNode) → P c x → P c (hand_over c m x)
  pub heard : (c : Configuration) (link : ℕ) (text : List ℕ) (x : NetworkNode) → link < length c.links → P c x → P c (hear_data c (Some text) link x)
  pub happened : (c : Configuration) (what : Happening) (x : NetworkNode) → P c x → P c (happens c what x)
  pub taken : (c : Configuration) (link : ℕ) (x : NetworkNode) → P c x → P c (record x { node = after_take whole c link x.node })
  pub flown : (c : Configuration) (x y : NetworkNode) → IsSameNode x y → P c x → P c y

itself : (x : NetworkNode) → IsSameNode x x
itself x = record { node = refl; submitted = refl; came = refl; accepted = refl; made = refl; named = refl }

with-statuses : (next : Option (List ℕ)) (link : ℕ) (left : List (List ℕ)) (x : NetworkNode) → IsSameNode x (with_statuses next link left x)
with-statuses None link left x = itself x
with-statuses (Some text) link left x = record { node = refl; submitted = refl; came = refl; accepted = refl; made = refl; named = refl }

reached : (frame : FrameValue) (link : ℕ) (x : NetworkNode) → IsSameNode x (reach frame link x)
reached (StatusFrame bsn fsn status) link x = record { node = refl; submitted = refl; came = refl; accepted = refl; made = refl; named = refl }
reached (EmptyFrame bsn fsn) link x = record { node = refl; submitted = refl; came = refl; accepted = refl; made = refl; named = refl }
reached (MessageFrame bsn fsn sio sif) link x = record { node = refl; submitted = refl; came = refl; accepted = refl; made = refl; named = refl }

module _ (P : Configuration → NetworkNode → Type 0) (kept : IsKept P) where
  -- ---- at a node

  next-heard : (c : Configuration) (link : ℕ) (x : NetworkNode) (next : Option (List ℕ)) → next_in c link (x.user_data link) ≡ next → P c x → P c (hear_data c next link x)
  next-heard c link x None e h = h
  next-heard c link x (Some text) e h = (let is : IsNextIn c link (x.user_data link) text = next-is c link (x.user_data link) text e in kept.heard c link text x is.inside h)

  status-heard : (c : Configuration) (link : ℕ) (next : Option (List ℕ)) (x : NetworkNode) → P c x → P c (hear_status c next link x)
  status-heard c link None x h = h
  status-heard c link (Some text) x h =
      kept.flown c (happens c (FrameCame link text) x) (hear_status c (Some text) link x) (record { node = refl; submitted = refl; came = refl; accepted = refl; made = refl; named = refl })
      (kept.happened c (FrameCame link text) x h)

  followed : (c : Configuration) (wants : Wants) (may : Bool) (link : ℕ) (x : NetworkNode) → P c x → P c (follow c wants may link x)
  followed c Open true link x h =
      kept.flown c (happens c (CameUp link) x) (follow c Open true link x) (record { node = refl; submitted = refl; came = refl; accepted = refl; made = refl; named = refl })
      (kept.happened c (CameUp link) x h)
  followed c Open false link x h = h
  followed c Nothing may link x h = h
  followed c Close may link x h = h

  came-up : (c : Configuration) (link : ℕ) (x : NetworkNode) → P c x → P c (come_up c link x)
  came-up c link x h =
      kept.flown c (happens c (CameUp link) x) (come_up c link x) (record { node = refl; submitted = refl; came = refl; accepted = refl; made = refl; named = refl })
      (kept.happened c (CameUp link) x h)

  -- ---- in a network, at one of its nodes

  module _ (settings : (point : ℕ) → Configuration) (y : ℕ) where
    abbrev Holds : NetworkState → Type 0
    Holds w = P (settings y) (w.node y)

    by-change : (point : ℕ) (f : Configuration → NetworkNode → NetworkNode) (w : NetworkState) → ((c : Configuration) (x : NetworkNode) → P c x → P c (f c x)) → Holds w → Holds (changed point (f (settings point)) w)
    by-change point f w keeps h = by (nat_eq y point) refl
      where
        by : (b : Bool) → nat_eq y point ≡ b → P (settings y) (if b then f (settings point) (w.node y) else w.node y)
        by true e = subst (λ (p : ℕ). P (settings y) (f (settings p) (w.node y))) (eqb-true y point e) (keeps (settings y) (w.node y) h)
        by false e = h

    flown : (frame : FrameValue) (there : Option LinkEnd) (w : NetworkState) → Holds w → Holds (flies frame there w)
    flown frame None w h = h
    flown frame (Some there) w h = by-change there.point (λ c x. reach frame there.link x) w (λ c x k. kept.flown c x (reach frame there.link x) (reached frame there.link x) k) h

    fetched : (next : Option FrameValue) (point link : ℕ) (w : NetworkState) → Holds w → Holds (fetch settings next point link w)
    fetched None point link w h = h
    fetched (Some frame) point link w h =
        flown frame (other_end settings point link) (of_nodes.sent settings point link w)
        (by-change point (λ c x. record x { node = after_take whole c link x.node }) w (λ c x k. kept.taken c link x k) h)

    opened : (wants : Wants) (may : Bool) (point link : ℕ) (there : Option LinkEnd) (w : NetworkState) → Holds w → Holds (open_first settings wants may point link there w)
    opened Open true point link (Some there) w h =
        by-change there.point (λ c x. be_led there.link x) (changed point (come_up (settings point) link) w)
        (λ c x k. kept.flown c x (be_led there.link x) (record { node = refl; submitted = refl; came = refl; accepted = refl; made = refl; named = refl }) k)
        (by-change point (λ c x. come_up c link x) w (λ c x k. came-up c link x k) h)
    opened Open true point link None w h = h
    opened Open false point link there w h = h
    opened Nothing may point link there w h = h
    opened Close may point link there w h = h

    did-keeps : (what : Doing) (point : ℕ) (w : NetworkState) → Holds w → Holds (did settings what point w)
    did-keeps (of_nodes.Submits m) point w h = by-change point (λ c x. hand_over c m x) w (λ c x k. kept.handed c m x k) h
    did-keeps (of_nodes.Takes link) point w h = fetched (frame_taken whole (settings point) link (w.node point).node) point link w h
    did-keeps (of_nodes.Delivers link) point w h = by-change point (λ c x. did_here (of_nodes.Delivers link) c x) w (λ c x k. next-heard c link x (next_in c link (x.user_data link)) refl k) h
    did-keeps (of_nodes.DeliversStatus link) point w h = by-change point (λ c x. did_here (of_nodes.DeliversStatus link) c x) w (λ c x k. status-heard c link (next_in c link (x.statuses link)) x k) h
    did-keeps (of_nodes.LosesStatus link) point w h =
        by-change point (λ c x. did_here (of_nodes.LosesStatus link) c x) w (λ c x k. kept.flown c x (did_here (of_nodes.LosesStatus link) c x) (with-statuses (next_in c link (x.statuses link)) link _ x) k) h
    did-keeps (of_nodes.DoublesStatus link) point w h =
        by-change point (λ c x. did_here (of_nodes.DoublesStatus link) c x) w (λ c x k. kept.flown c x (did_here (of_nodes.DoublesStatus link) c x) (with-statuses (next_in c link (x.statuses link)) link _ x) k) h
    did-keeps (of_nodes.Loses link) point w h = by-change point (λ c x. did_here (of_nodes.Loses link) c x) w (λ c x k. kept.happened c _ x k) h
    did-keeps of_nodes.Ticks point w h = by-change point (λ c x. did_here of_nodes.Ticks c x) w (λ c x k. kept.happened c _ x k) h
    did-keeps (of_nodes.Activates link emergency) point w h = by-change point (λ c x. did_here (of_nodes.Activates link emergency) c x) w (λ c x k. kept.happened c _ x k) h
    did-keeps (of_nodes.Deactivates link) point w h = by-change point (λ c x. did_here (of_nodes.Deactivates link) c x) w (λ c x k. kept.happened c _ x k) h
    did-keeps (of_nodes.Releases link) point w h = by-change point (λ c x. did_here (of_nodes.Releases link) c x) w (λ c x k. kept.happened c _ x k) h
    did-keeps (of_nodes.AddsTitle row refused) point w h = by-change point (λ c x. did_here (of_nodes.AddsTitle row refused) c x) w (λ c x k. kept.happened c _ x k) h
    did-keeps (of_nodes.SetsTitle row refused) point w h = by-change point (λ c x. did_here (of_nodes.SetsTitle row refused) c x) w (λ c x k. kept.happened c _ x k) h
    did-keeps (of_nodes.RemovesTitle key digits) point w h = by-change point (λ c x. did_here (of_nodes.RemovesTitle key digits) c x) w (λ c x k. kept.happened c _ x k) h
    did-keeps (of_nodes.OpensFirst link) point w h =
        opened (wanted (w.node point).node.parts link) (may_open_at settings w (other_end settings point link)) point link (other_end settings point link) w h
    did-keeps (of_nodes.OpensSecond link) point w h =
        by-change point (λ c x. did_here (of_nodes.OpensSecond link) c x) w (λ c x k. followed c (wanted x.node.parts link) (x.follows link) link x k) h

    pub one-step : (step : Step) (w : NetworkState) → Holds w → Holds (after_step settings step w)
    one-step step w h = by (is_node settings step.point)
      where
        by : (b : Bool) → Holds (if b then did settings step.what step.point w else w)
        by true = did-keeps step.what step.point w h
        by false = h

    pub steps-keep : (steps : List Step) (w : NetworkState) → Holds w → Holds (after_steps settings steps w)
    steps-keep [] w h = h
    steps-keep (step ∷ steps) w h = steps-keep steps (after_step settings step w) (one-step step w h)

  pub everywhere : (settings : (point : ℕ) → Configuration) → ((c : Configuration) → P c (first_node c)) → (steps : List Step) (y : ℕ) → P (settings y) ((after_steps settings steps (first_network settings)).node y)
  everywhere settings first steps y = steps-keep settings y steps (first_network settings) (first (settings y))
