-- What happens at a node and is of no link: one step of the network.
use Rattle.std.proofs.Common.{◌≡◌, ◌≢◌, ℕ, refl, ap, sym, subst, ⊎_elim}
use Rattle.std.proofs.lemmas.Bool.{cases_eq}
use Rattle.settings.specs.Configuration.{Configuration}
use Rattle.exchange_rules.specs.State.{Happening, CameUp, WentDown, FrameCame, Submitted, Ticked, Activated, Deactivated, Released, TitleAdded, TitleSet, TitleRemoved}
use Rattle.pair_rules.specs.Pairs as pairs
use Rattle.pair_rules.specs.Pairs.{Streams, behind_data, behind_statuses, emptied, in_flight, launched, may_follow, nothing_in_flight, without_data, without_status}
use Rattle.network_rules.specs.Networks as networks
use Rattle.network_rules.specs.Networks.{NetworkNode, NetworkState, Place, Step, after_step, after_steps, changed, comes_up, deliver_frame, did_here, end_of, is_led, may_open_there, opens_first, opens_second, other_end, reaches, take_frame}
use Rattle.network_rules.proofs.Places.{node-other, node-same}
use Rattle.node_rules.specs.Worlds.{IsOwn}
use Rattle.network_datagrams.specs.NetworkWorlds.{happened}
use Rattle.network_datagrams.proofs.Showing.{AllShow, Flight, Shows}

-- what a user part, a tick or the operator does is one step
abbrev pub own_step : Happening → pairs.Doing
own_step (Submitted m) = pairs.Submits m
own_step (Activated link emergency) = pairs.Activates link emergency
own_step (Deactivated link) = pairs.Deactivates link
own_step (Released link) = pairs.Releases link
own_step (TitleAdded row is_memory_refused) = pairs.AddsTitle row is_memory_refused
own_step (TitleSet row is_memory_refused) = pairs.SetsTitle row is_memory_refused
own_step (TitleRemoved key digits) = pairs.RemovesTitle key digits
own_step what = pairs.Ticks

plain-shows : (c : Configuration) (b : NetworkNode) (air : (link : ℕ) → Flight) (x : NetworkNode) → Shows c b air x → (what : Happening)
    → Shows c (networks.happens what b) air (networks.happens what x)
plain-shows c b air x h what = record {
  settings = h.settings;
  same = ap (networks.happens what) h.same;
  sized = h.sized;
  flies = h.flies;
}

own-shows : (c : Configuration) (b : NetworkNode) (air : (link : ℕ) → Flight) (x : NetworkNode) → Shows c b air x → (what : Happening) → IsOwn what
    → Shows c (happened what b) air (did_here (own_step what) x)
own-shows c b air x h (Submitted m) own = record {
  settings = h.settings;
  same = ap (networks.submit m) h.same;
  sized = h.sized;
  flies = h.flies;
}
own-shows c b air x h Ticked own = plain-shows c b air x h Ticked
own-shows c b air x h (Activated link emergency) own = plain-shows c b air x h (Activated link emergency)
own-shows c b air x h (Deactivated link) own = plain-shows c b air x h (Deactivated link)
own-shows c b air x h (Released link) own = plain-shows c b air x h (Released link)
own-shows c b air x h (TitleAdded row refused) own = plain-shows c b air x h (TitleAdded row refused)
own-shows c b air x h (TitleSet row refused) own = plain-shows c b air x h (TitleSet row refused)
own-shows c b air x h (TitleRemoved key digits) own = plain-shows c b air x h (TitleRemoved key digits)
own-shows c b air x h (CameUp link) own = absurd own
own-shows c b air x h (WentDown link) own = absurd own
own-shows c b air x h (FrameCame link text) own = absurd own

own-is : (what : Happening) → IsOwn what → (point : ℕ) (s : NetworkState) → networks.did (own_step what) point s ≡ changed point (did_here (own_step what)) s
own-is (Submitted m) own point s = refl
own-is Ticked own point s = refl
own-is (Activated link emergency) own point s = refl
own-is (Deactivated link) own point s = refl
own-is (Released link) own point s = refl
own-is (TitleAdded row refused) own point s = refl
own-is (TitleSet row refused) own point s = refl
own-is (TitleRemoved key digits) own point s = refl
own-is (CameUp link) own point s = absurd own
own-is (WentDown link) own point s = absurd own
own-is (FrameCame link text) own point s = absurd own

-- by one step, whatever books are those of the others
pub own-goes : (settings : (point : ℕ) → Configuration) (books after : (point : ℕ) → NetworkNode) (air : (point link : ℕ) → Flight) (s : NetworkState) (p : ℕ) (what : Happening) → IsOwn what
    → AllShow settings books air s → after p ≡ happened what (books p) → ((o : ℕ) → o ≢ p → after o ≡ books o)
    → AllShow settings after air (after_step (record { point = p; what = own_step what }) s)
own-goes settings books after air s p what own h here there =
    subst (AllShow settings after air) (sym (own-is what own p s))
    (record {
      each = λ o.
          ⊎_elim
          (λ (e : o ≡ p). subst (λ (n : ℕ). Shows (settings n) (after n) (air n) ((changed p (did_here (own_step what)) s).node n)) (sym e) at)
          (λ (d : o ≢ p).
          subst (λ (b : NetworkNode). Shows (settings o) b (air o) ((changed p (did_here (own_step what)) s).node o)) (sym (there o d))
          (subst (Shows (settings o) (books o) (air o)) (sym (node-other p o (did_here (own_step what)) s d)) (h.each o)))
          (cases_eq o p);
    })
  where
    at : Shows (settings p) (after p) (air p) ((changed p (did_here (own_step what)) s).node p)
    at =
        subst (λ (b : NetworkNode). Shows (settings p) b (air p) ((changed p (did_here (own_step what)) s).node p)) (sym here)
        (subst (Shows (settings p) (happened what (books p)) (air p)) (sym (node-same p (did_here (own_step what)) s))
        (own-shows (settings p) (books p) (air p) (s.node p) (h.each p) what own))
