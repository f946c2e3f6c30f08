-- Each move of a network each of whose links has its other end in it is a step of one of `node_moves`, or none.
use Rattle.std.proofs.Common.{◌≡◌, ◌≢◌, ◌<◌, ◌≤◌, ◌&&◌, ℕ, Bool, true, false, List, [], ◌∷◌, length, Option, Some, None, refl, ap, sym, subst, ◌∙◌}
use Rattle.std.proofs.Math.Logic.{⊎_elim}
use Rattle.std.proofs.lemmas.Bool.{cases_eq, cases_lt}
use Rattle.std.specs.Prelude.{if◌then◌else◌, slice_get}
use Rattle.std.proofs.lemmas.Option.{slice_get_past}
use Rattle.settings.specs.Configuration.{Configuration, LinkEntry}
use Rattle.m2pa_codec.specs.Frames.{FrameValue}
use Rattle.changeover.specs.Changeover.{may_restart}
use Rattle.exchange_rules.specs.ChangingOver.{changeover_of}
use Rattle.exchange_rules.specs.Exchange.{frame_to_take, wants_of}
use Rattle.exchange_rules.specs.Opening.{wanted}
use Rattle.exchange_rules.specs.Queues.{WholeQueues, whole}
use Rattle.exchange_rules.specs.Sending.{after_take, frame_taken}
use Rattle.exchange_rules.specs.State.{Node, down}
use Rattle.exchange_rules.specs.declared.wants.Wants.{Wants}
use Rattle.exchange_rules.specs.declared.wants.Wants.TheVariants.{Nothing, Open, Close}
use Rattle.node_moves.specs.Networks as nodes
use Rattle.node_moves.specs.Networks.{IsNode, LinkEnd, is_node}
use Rattle.node_moves.proofs.Flights as flights
use Rattle.network_rules.specs.Networks.{NetworkNode, NetworkState, Place, changed, comes_up, is_led, may_open_there, opens_first, other_end, reaches, sends, take_frame}
use Rattle.network_rules.specs.Totals.{IsPlaced}
use Rattle.network_rules.proofs.Joined.{end_at, ends-are, place_of}
use Rattle.network_rules.proofs.Places.{node-other, node-same}
use Rattle.node_law.proofs.Frames.{Fits, none-taken, taken-fits}
use Rattle.node_law.proofs.Places.{end-inside, end-node, ends-agree, led, no-links}
use Rattle.node_law.proofs.Same.{IsSame, IsSameExchange, same-of}
use Rattle.node_law.proofs.Doings.{same-led, same-reaches, same-sends, same-up}

module _ (settings : (point : ℕ) → Configuration) where
  abbrev pub AreKept : NetworkState → Type 0
  AreKept w = (point : ℕ) → (w.node point).exchange.settings ≡ settings point

  -- all nodes are alike
  pub record AreSame (w : NetworkState) (v : nodes.NetworkState) : Type 0 where
    pub each : (point : ℕ) → IsNode settings point → IsSame (settings point) (w.node point) (v.node point)

  -- some steps lead to a network whose nodes are
  pub record Follows (w : NetworkState) (v : nodes.NetworkState) : Type 0 where
    pub steps : List nodes.Step
    pub same : AreSame w (nodes.after_steps settings steps v)

  follows-none : (w : NetworkState) (v : nodes.NetworkState) → AreSame w v → Follows w v
  follows-none w v h = record { steps = []; same = h }

  -- ---- changes at a point

  pub both-changed : (w : NetworkState) (v : nodes.NetworkState) (h : AreSame w v) (point : ℕ) (f : NetworkNode → NetworkNode) (g : nodes.NetworkNode → nodes.NetworkNode)
      → (IsNode settings point → IsSame (settings point) (f (w.node point)) (g (v.node point))) → AreSame (changed point f w) (nodes.changed point g v)
  both-changed w v h point f g same = record {
    each = λ other fo.
        ⊎_elim
        (λ (here : other ≡ point).
        subst (λ (k : ℕ). IsSame (settings k) ((changed point f w).node k) ((nodes.changed point g v).node k)) (sym here)
        (subst (λ (x : NetworkNode). IsSame (settings point) x ((nodes.changed point g v).node point)) (sym (node-same point f w))
        (subst (λ (y : nodes.NetworkNode). IsSame (settings point) (f (w.node point)) y) (sym (flights.changed-here point g v)) (same (subst (λ (k : ℕ). IsNode settings k) here fo)))))
        (λ (away : other ≢ point).
        subst (λ (x : NetworkNode). IsSame (settings other) x ((nodes.changed point g v).node other)) (sym (node-other point other f w away))
        (subst (λ (y : nodes.NetworkNode). IsSame (settings other) (w.node other) y) (sym (flights.changed-other point g v other away)) (h.each other fo)))
        (cases_eq other point);
  }

  -- where there is no node
  alone-changed : (w : NetworkState) (v : nodes.NetworkState) → AreSame w v → (point : ℕ) (f : NetworkNode → NetworkNode) → is_node settings point ≡ false → AreSame (changed point f w) v
  alone-changed w v h point f none = record {
    each = λ other fo.
        ⊎_elim
        (λ (here : other ≡ point). (let clash : false ≡ true = sym none ∙ ap (is_node settings) (sym here) ∙ fo in absurd cc))
        (λ (away : other ≢ point). subst (λ (x : NetworkNode). IsSame (settings other) x (v.node other)) (sym (node-other point other f w away)) (h.each other fo))
        (cases_eq other point);
  }

  -- ---- one step at a node

  module _ (w : NetworkState) (v : nodes.NetworkState) (h : AreSame w v) (point : ℕ) where
    -- of `node_moves`, where there is a node
    one-step : (what : nodes.Doing) (u : NetworkState) → IsNode settings point → AreSame u (nodes.did settings what point v) → Follows u v
    one-step what u fx same = record {
      steps = record { point = point; what = what } ∷ [];
      same = subst (λ (b : Bool). AreSame u (if b then nodes.did settings what point v else v)) (sym fx) same;
    }

    pub here-step : (b : Bool) → is_node settings point ≡ b → (f : NetworkNode → NetworkNode) (g : nodes.NetworkNode → nodes.NetworkNode) (what : nodes.Doing) → nodes.changed point g v ≡ nodes.did settings what point v
        → (IsSame (settings point) (w.node point) (v.node point) → IsSame (settings point) (f (w.node point)) (g (v.node point))) → Follows (changed point f w) v
    here-step true fx f g what is same = one-step what (changed point f w) fx (subst (AreSame (changed point f w)) is (both-changed w v h point f g (λ fp. same (h.each point fp))))
    here-step false none f g what is same = follows-none (changed point f w) v (alone-changed w v h point f none)

  module _ (numbers : List ℕ) (placed : IsPlaced settings numbers) (w : NetworkState) (v : nodes.NetworkState) (kept : AreKept w) (h : AreSame w v) (point link : ℕ) where
    abbrev its_end : Option Place
    its_end = end_at settings point link

    pub end-is : other_end w point link ≡ its_end
    end-is = ends-are settings w kept point link

    -- ---- a frame goes out

    frame-same : IsNode settings point → frame_to_take whole (w.node point).exchange link ≡ frame_taken whole (settings point) link (v.node point).node
    frame-same fx = same-of (settings point) (w.node point).exchange (v.node point).node (h.each point fx).exchange (λ d m. frame_taken whole d link m)

    sent-same : IsNode settings point → AreSame (changed point (sends link) w) (nodes.sent settings point link v)
    sent-same fx =
        both-changed w v h point (sends link) (λ y. record y { node = after_take whole (settings point) link y.node })
        (λ fp. same-sends (settings point) (w.node point) (v.node point) (h.each point fp) link)

    flown-same : IsNode settings point → (frame : FrameValue) → Fits frame → (there : Option Place) → its_end ≡ there
        → AreSame (take_frame (Some frame) point link there w) (nodes.flies frame (led there) (nodes.sent settings point link v))
    flown-same fx frame fits None e = sent-same fx
    flown-same fx frame fits (Some there) e =
        let sent : NetworkState = changed point (sends link) w in
        let its : AreSame sent (nodes.sent settings point link v) = sent-same fx in
        both-changed sent (nodes.sent settings point link v) its there.point (reaches frame there.link) (nodes.reach frame there.link)
        (λ fp. same-reaches (settings there.point) (sent.node there.point) ((nodes.sent settings point link v).node there.point) (its.each there.point fp) frame there.link
        (end-inside settings numbers placed point link there e) fits)

    taken-by : IsNode settings point → link < length (settings point).links → (o : Option FrameValue) → frame_taken whole (settings point) link (v.node point).node ≡ o
        → AreSame (take_frame o point link its_end w) (nodes.fetch settings o point link v)
    taken-by fx inside None e = h
    taken-by fx inside (Some frame) e =
        subst (λ (there : Option LinkEnd). AreSame (take_frame (Some frame) point link its_end w) (nodes.flies frame there (nodes.sent settings point link v))) (ends-agree settings numbers placed point link inside)
        (flown-same fx frame (taken-fits (settings point) link (v.node point).node frame e) its_end refl)

    taken-none : IsNode settings point → length (settings point).links ≤ link → (there : Option Place) → AreSame (take_frame (frame_to_take whole (w.node point).exchange link) point link there w) v
    taken-none fx past there =
        let its : IsSameExchange (settings point) (w.node point).exchange (v.node point).node = (h.each point fx).exchange in
        subst (λ (o : Option FrameValue). AreSame (take_frame o point link there w) v)
        (sym (ap (λ (d : Configuration). frame_taken whole d link (w.node point).exchange.node) its.settings ∙ none-taken (settings point) link (w.node point).exchange.node its.places past)) h

    taken-alone : is_node settings point ≡ false → (o : Option FrameValue) → AreSame (take_frame o point link None w) v
    taken-alone none None = h
    taken-alone none (Some frame) = alone-changed w v h point (sends link) none

    -- ---- a link opens first

    opened-none : (wants : Wants) (may : Bool) → opens_first wants may point link None w ≡ w
    opened-none Open true = refl
    opened-none Open false = refl
    opened-none Nothing may = refl
    opened-none Close may = refl

    may-same : (there : Option Place) → its_end ≡ there → may_open_there w there ≡ nodes.may_open_at settings v (led there)
    may-same None e = refl
    may-same (Some there) e =
        ap (λ (n : Node WholeQueues). down n.parts there.link && may_restart (changeover_of n.parts there.link)) (h.each there.point (end-node settings numbers placed point link there e)).exchange.node

    opened-same : IsNode settings point → link < length (settings point).links → (wants : Wants) (may : Bool) (there : Option Place) → its_end ≡ there
        → AreSame (opens_first wants may point link there w) (nodes.open_first settings wants may point link (led there) v)
    opened-same fx inside Open true (Some there) e =
        let up : NetworkState = changed point (comes_up link) w in
        let its : nodes.NetworkState = nodes.changed point (nodes.come_up (settings point) link) v in
        let one : AreSame up its = both-changed w v h point (comes_up link) (nodes.come_up (settings point) link) (λ fp. same-up (settings point) (w.node point) (v.node point) (h.each point fp) link inside) in
        both-changed up its one there.point (is_led there.link) (nodes.be_led there.link)
        (λ fp. same-led (settings there.point) (up.node there.point) (its.node there.point) (one.each there.point fp) there.link (end-inside settings numbers placed point link there e))
    opened-same fx inside Open true None e = h
    opened-same fx inside Open false there e = h
    opened-same fx inside Nothing may there e = h
    opened-same fx inside Close may there e = h

    none-there : is_node settings point ≡ false → its_end ≡ None
    none-there none = ap (λ (ls : List LinkEntry). place_of settings (settings point) (slice_get ls link)) (no-links settings numbers placed point none)

    none-past : length (settings point).links ≤ link → its_end ≡ None
    none-past past = ap (place_of settings (settings point)) (slice_get_past (settings point).links link past)

    -- where a node has the link
    pub takes-inside : IsNode settings point → link < length (settings point).links
        → AreSame (take_frame (frame_to_take whole (w.node point).exchange link) point link its_end w) (nodes.did settings (nodes.Takes link) point v)
    takes-inside fx inside =
        subst (λ (o : Option FrameValue). AreSame (take_frame o point link its_end w) (nodes.fetch settings (frame_taken whole (settings point) link (v.node point).node) point link v)) (sym (frame-same fx))
        (taken-by fx inside (frame_taken whole (settings point) link (v.node point).node) refl)

    pub takes-follows : Follows (take_frame (frame_to_take whole (w.node point).exchange link) point link (other_end w point link) w) v
    takes-follows =
        subst (λ (there : Option Place). Follows (take_frame (frame_to_take whole (w.node point).exchange link) point link there w) v) (sym end-is) (by (is_node settings point) refl)
      where
        by : (b : Bool) → is_node settings point ≡ b → Follows (take_frame (frame_to_take whole (w.node point).exchange link) point link its_end w) v
        by true fx =
            ⊎_elim
            (λ (inside : link < length (settings point).links).
            one-step w v h point (nodes.Takes link) (take_frame (frame_to_take whole (w.node point).exchange link) point link its_end w) fx (takes-inside fx inside))
            (λ (past : length (settings point).links ≤ link).
            follows-none (take_frame (frame_to_take whole (w.node point).exchange link) point link its_end w) v (taken-none fx past its_end))
            (cases_lt link (length (settings point).links))
        by false none =
            follows-none (take_frame (frame_to_take whole (w.node point).exchange link) point link its_end w) v
            (subst (λ (there : Option Place). AreSame (take_frame (frame_to_take whole (w.node point).exchange link) point link there w) v) (sym (none-there none))
            (taken-alone none (frame_to_take whole (w.node point).exchange link)))

    opens-nowhere : its_end ≡ None → Follows (opens_first (wants_of (w.node point).exchange link) (may_open_there w its_end) point link its_end w) v
    opens-nowhere none =
        subst (λ (there : Option Place). Follows (opens_first (wants_of (w.node point).exchange link) (may_open_there w there) point link there w) v) (sym none)
        (follows-none (opens_first (wants_of (w.node point).exchange link) false point link None w) v (subst (λ (u : NetworkState). AreSame u v) (sym (opened-none (wants_of (w.node point).exchange link) false)) h))

    wants-same : IsNode settings point → wants_of (w.node point).exchange link ≡ wanted (v.node point).node.parts link
    wants-same fx = ap (λ (n : Node WholeQueues). wanted n.parts link) (h.each point fx).exchange.node

    pub opens-inside : IsNode settings point → link < length (settings point).links
        → AreSame (opens_first (wants_of (w.node point).exchange link) (may_open_there w its_end) point link its_end w) (nodes.did settings (nodes.OpensFirst link) point v)
    opens-inside fx inside =
        subst (λ (q : Option LinkEnd). AreSame (opens_first (wants_of (w.node point).exchange link) (may_open_there w its_end) point link its_end w)
        (nodes.open_first settings (wanted (v.node point).node.parts link) (nodes.may_open_at settings v q) point link q v)) (ends-agree settings numbers placed point link inside)
        (subst (λ (a : Wants). AreSame (opens_first (wants_of (w.node point).exchange link) (may_open_there w its_end) point link its_end w)
        (nodes.open_first settings a (nodes.may_open_at settings v (led its_end)) point link (led its_end) v)) (wants-same fx)
        (subst (λ (m : Bool). AreSame (opens_first (wants_of (w.node point).exchange link) (may_open_there w its_end) point link its_end w)
        (nodes.open_first settings (wants_of (w.node point).exchange link) m point link (led its_end) v)) (may-same its_end refl)
        (opened-same fx inside (wants_of (w.node point).exchange link) (may_open_there w its_end) its_end refl)))

    pub opens-follows : Follows (opens_first (wants_of (w.node point).exchange link) (may_open_there w (other_end w point link)) point link (other_end w point link) w) v
    opens-follows =
        subst (λ (there : Option Place). Follows (opens_first (wants_of (w.node point).exchange link) (may_open_there w there) point link there w) v) (sym end-is) (by (is_node settings point) refl)
      where
        by : (b : Bool) → is_node settings point ≡ b → Follows (opens_first (wants_of (w.node point).exchange link) (may_open_there w its_end) point link its_end w) v
        by true fx =
            ⊎_elim
            (λ (inside : link < length (settings point).links).
            one-step w v h point (nodes.OpensFirst link) (opens_first (wants_of (w.node point).exchange link) (may_open_there w its_end) point link its_end w) fx (opens-inside fx inside))
            (λ (past : length (settings point).links ≤ link). opens-nowhere (none-past past))
            (cases_lt link (length (settings point).links))
        by false none = opens-nowhere (none-there none)
