-- Runs over datagrams are runs of a network.
use Rattle.std.proofs.Common.{◌≡◌, ℕ, false, List, [], ◌∷◌, ◌++◌, Option, Some, None, length, map, refl, ap, sym, ◌∙◌, subst}
use Rattle.settings.specs.Configuration.{Configuration}
use Rattle.m2pa_codec.specs.Frames.{FrameValue, spelled}
use Rattle.exchange_rules.specs.State.{Happening}
use Rattle.exchange_rules.specs.Exchange.{frame_to_take}
use Rattle.exchange_rules.specs.First.{Abstract}
use Rattle.exchange_rules.specs.Queues.{whole}
use Rattle.sctp_rules.specs.State.{Told}
use Rattle.sctp_rules.specs.Endpoint as endpoint
use Rattle.network_rules.specs.Networks as networks
use Rattle.network_rules.specs.Networks.{NetworkNode, NetworkState, Place, Step, after_step, after_steps, first_network}
use Rattle.network_rules.proofs.Joined.{ends-are}
use Rattle.node_rules.specs.Worlds.{Make, Port, CanGo, MayAssociate, associated, told_by, message_of}
use Rattle.node_rules.proofs.Staying.{MayOpen, takes-stay}
use Rattle.node_rules.proofs.Flights.{Air}
use Rattle.node_rules.proofs.Linked.{Linked}
use Rattle.node_rules.proofs.Telling.{after_events, events_told}
use Rattle.node_rules.proofs.Acts.{event_of, air_after_all, air_given, told-stays}
use Rattle.node_rules.proofs.Associating.{Went, goes, may-come}
use Rattle.node_rules.proofs.Sending.{sends}
use Rattle.node_rules.proofs.Runs.{first-linked, none-flies, sized}
use Rattle.network_datagrams.specs.NetworkWorlds as worlds
use Rattle.network_datagrams.specs.NetworkWorlds.{Node, NetworkWorld, Doing, Happens, Associates, Sends, HasEnd, MayDo, Steps, bare, did, happened, handed_all, last_world, new_world, sent, shown, with_port}
use Rattle.network_datagrams.specs.NetworkPromises.{Always, AreJoined, IsRunOfNetwork, settings_of}
use Rattle.network_datagrams.proofs.Showing.{between, shows-but}
use Rattle.network_datagrams.proofs.Acting.{Goes, ShowsAt, acts-go, frame-goes, steps-append}
use Rattle.network_datagrams.proofs.Handing.{events-exchange, handed-happened, happened_all}
use Rattle.network_datagrams.proofs.Changing.{after-is, node-same, with_node}
use Rattle.network_datagrams.proofs.Meeting.{Meets, Reached, books_in, none-goes, one-goes}
use Rattle.network_datagrams.proofs.Placing.{AreEnds, ends-of}

module _ (make : (point : ℕ) → Make) (w : NetworkWorld) (s : NetworkState) (h : Meets make w s) (points : List ℕ) (joined : AreJoined make points) where
  abbrev settings : (point : ℕ) → Configuration
  settings = settings_of make

  ends-there : (p k : ℕ) (there : HasEnd (shown w) p k) → AreEnds settings p k there.there.point there.there.link
  ends-there p k there =
      ends-of settings points joined.joined p k there.there.point there.there.link
      (sym (ends-are settings (shown w) (λ o. (h.all.each o).settings) p k) ∙ there.is)

  -- at first this is on the way on the link
  shows-at : (p k q j : ℕ) (e : AreEnds settings p k q j)
      → ShowsAt settings (books_in w) h.air p k q j e.apart e.here e.there e.end (w.node p).books (between (h.air p k) (h.air q j)) s
  shows-at p k q j e = record {
    near = shows-but (settings p) (w.node p).books (h.air p) k (s.node p) (h.all.each p);
    far = shows-but (settings q) (w.node q).books (h.air q) j (s.node q) (h.all.each q);
    others = λ o d f. h.all.each o;
  }

  associates : (p k : ℕ) (what : endpoint.Happening) (there : HasEnd (shown w) p k)
      → MayAssociate ((w.node there.there.point).ports there.there.link).site k what (bare (w.node p))
      → Reached make (with_node p (did (make p) (Associates k what) (w.node p)) w) s
  associates p k what there may =
      let q : ℕ = there.there.point in
      let j : ℕ = there.there.link in
      let e : AreEnds settings p k q j = ends-there p k there in
      let b : NetworkNode = (w.node p).books in
      let ts : List Told = told_by (make p) k what (bare (w.node p)) in
      let port : Port = associated (make p) k what (bare (w.node p)) in
      let x : Air = between (h.air p k) (h.air q j) in
      let went : Went k j ((make p).endpoints k) ((make q).endpoints j) port ((w.node q).ports j) b.exchange (w.node q).books.exchange ts x =
      goes k j ((make p).endpoints k) ((make q).endpoints j) (joined.good p k) ((w.node p).ports k) ((w.node q).ports j) b.exchange (w.node q).books.exchange x (h.linked p k q j e) what
      (may-come ((w.node q).ports j).site (bare (w.node p)) k what may) in
      let b' : NetworkNode = handed_all k ts b in
      let same : happened_all (map (event_of k) went.acts) b ≡ b' = ap (λ (es : List Happening). happened_all es b) went.told ∙ sym (handed-happened k ts b) in
      let exchange-is : after_events (events_told k ts) b.exchange ≡ b'.exchange =
      sym (ap (λ (y : NetworkNode). y.exchange) (handed-happened k ts b) ∙ events-exchange (events_told k ts) b) in
      let x' : Air = air_after_all went.acts x in
      one-goes make w s h p k q j e port b' x'
      (subst (λ (y : NetworkNode). Goes settings (books_in w) h.air p k q j e.apart e.here e.there e.end y x' s) same
      (acts-go settings (books_in w) h.air p k q j e.apart e.here e.there e.end went.acts b x s (shows-at p k q j e) went.may))
      (subst (λ (a : Abstract). Linked k j ((make p).endpoints k) ((make q).endpoints j) port ((w.node q).ports j) a (w.node q).books.exchange x') exchange-is went.linked)
      (λ i d m. subst (λ (a : Abstract). MayOpen i a.node.parts) exchange-is (told-stays i k (λ c. d (sym c)) ts b.exchange m))

  gives : (p k : ℕ) (there : HasEnd (shown w) p k) → CanGo k (bare (w.node p)) → (o : Option FrameValue) → frame_to_take whole (w.node p).books.exchange k ≡ o
      → Reached make (with_node p (sent (make p) k o (w.node p)) w) s
  gives p k leads can None next = record { list = []; meets = subst (λ (y : NetworkWorld). Meets make y s) (node-same p w) h }
  gives p k leads can (Some frame) next =
      let q : ℕ = leads.there.point in
      let j : ℕ = leads.there.link in
      let e : AreEnds settings p k q j = ends-there p k leads in
      let b : NetworkNode = (w.node p).books in
      let port : Port = associated (make p) k (endpoint.Sends (message_of (spelled frame))) (bare (w.node p)) in
      let x : Air = between (h.air p k) (h.air q j) in
      one-goes make w s h p k q j e port (networks.sends k b) (air_given frame x)
      (frame-goes settings (books_in w) h.air p k q j e.apart e.here e.there e.end frame b x s (shows-at p k q j e) next)
      (sends k j ((make p).endpoints k) ((make q).endpoints j) (joined.good p k) ((w.node p).ports k) ((w.node q).ports j) b.exchange (w.node q).books.exchange x (h.linked p k q j e) frame next (can frame next)
      (λ m. (takes-stay b.exchange.settings k k b.exchange.node).stay m))
      (λ i d m. (takes-stay b.exchange.settings i k b.exchange.node).stay m)

  did-goes : (p : ℕ) (what : Doing) → MayDo w p what → Reached make (with_node p (did (make p) what (w.node p)) w) s
  did-goes p (Happens what) may = none-goes make w s h p what may
  did-goes p (Associates k what) may = associates p k what may.0 may.1
  did-goes p (Sends k) may = gives p k may.0 may.1 (frame_to_take whole (w.node p).books.exchange k) refl

-- ---- from the first on

pub record IsRun (make : (point : ℕ) → Make) (w : NetworkWorld) : Type 0 where
  pub steps : List Step
  pub meets : Meets make w (after_steps steps (first_network (settings_of make)))

module _ (make : (point : ℕ) → Make) (points : List ℕ) (joined : AreJoined make points) where
  abbrev first : NetworkState
  first = first_network (settings_of make)

  pub one-step : (w v : NetworkWorld) → worlds.Step make w v → IsRun make w → IsRun make v
  one-step w v step r =
      let g : Reached make (with_node step.point (did (make step.point) step.what (w.node step.point)) w) (after_steps r.steps first) =
      did-goes make w (after_steps r.steps first) r.meets points joined step.point step.what step.may in
      record {
        steps = r.steps ++ g.list;
        meets = subst (Meets make v) (sym (steps-append r.steps g.list first))
            (subst (λ (y : NetworkWorld). Meets make y (after_steps g.list (after_steps r.steps first))) (sym (step.is ∙ after-is make step.point step.what w)) g.meets);
      }

  all-steps : (list : List NetworkWorld) (w : NetworkWorld) → Steps make w list → IsRun make w → IsRun make (last_world w list)
  all-steps [] w m r = r
  all-steps (v ∷ list) w m r = all-steps list v m.1 (one-step w v m.0 r)

  pub first-runs : IsRun make (new_world make)
  first-runs = record {
    steps = [];
    meets = record {
      air = λ point link. record { to = []; follows = false };
      all = record {
        each = λ o. record {
          settings = refl;
          same = refl;
          sized = sized (length (settings_of make o).links);
          flies = λ i. none-flies (length (settings_of make o).links) i;
        };
      };
      linked = λ p k q j e. first-linked k j ((make p).endpoints k) ((make q).endpoints j) ((new_world make).node p).books.exchange ((new_world make).node q).books.exchange;
    };
  }

  pub all-run : (list : List NetworkWorld) → Steps make (new_world make) list → IsRun make (last_world (new_world make) list)
  all-run list m = all-steps list (new_world make) m first-runs

pub are-runs : Always IsRunOfNetwork
are-runs make points joined list m =
    let r : IsRun make (last_world (new_world make) list) = all-run make points joined list m in
    record {
      steps = r.steps;
      is = λ point.
          let same = (r.meets.all.each point).same in
          record {
            exchange = ap (λ (x : NetworkNode). x.exchange) same;
            accepted = ap (λ (x : NetworkNode). x.accepted) same;
            arrived = ap (λ (x : NetworkNode). x.arrived) same;
            entered = ap (λ (x : NetworkNode). x.entered) same;
            refused = ap (λ (x : NetworkNode). x.refused) same;
          };
    }
