-- What an endpoint tells is handed in as events; what these leave of an exchange, and of the links that may open.
use Rattle.std.proofs.Common.{◌≡◌, ℕ, Bool, true, false, List, [], ◌∷◌, refl, ap, sym, ◌∙◌, subst}
use Rattle.std.specs.Prelude.{if◌then◌else◌}
use Rattle.exchange_rules.specs.State.{Happening, CameUp, WentDown, FrameCame, Ticked, Submitted, Activated, Deactivated, Released, TitleAdded, TitleSet, TitleRemoved}
use Rattle.exchange_rules.specs.Exchange as exchange
use Rattle.exchange_rules.specs.Exchange.{frame_to_take, taken}
use Rattle.exchange_rules.specs.First.{Abstract}
use Rattle.exchange_rules.specs.Queues.{whole}
use Rattle.sctp_rules.specs.State.{Told, Up, Heard, Down, Failed}
use Rattle.network_rules.specs.Networks.{NetworkNode}
use Rattle.node_rules.specs.Worlds.{IsOwn, is_frame}
use Rattle.node_rules.proofs.Staying.{MayOpen, events-stay, own-of}
use Rattle.node_rules.proofs.Telling.{after_events, events_told}
use Rattle.network_datagrams.specs.NetworkWorlds.{happened, handed_all}

abbrev pub happened_all : List Happening → NetworkNode → NetworkNode
happened_all [] x = x
happened_all (what ∷ more) x = happened_all more (happened what x)

pub handed-happened : (k : ℕ) (ts : List Told) (x : NetworkNode) → handed_all k ts x ≡ happened_all (events_told k ts) x
handed-happened k [] x = refl
handed-happened k (Up ∷ more) x = handed-happened k more (happened (CameUp k) x)
handed-happened k (Down why ∷ more) x = handed-happened k more (happened (WentDown k) x)
handed-happened k (Failed why ∷ more) x = handed-happened k more x
handed-happened k (Heard m ∷ more) x = by (is_frame m) (λ y. handed-happened k more y) where
  by : (f : Bool) → ((y : NetworkNode) → handed_all k more y ≡ happened_all (events_told k more) y)
      → handed_all k more (if f then happened (FrameCame k m.octets) x else x)
      ≡ happened_all (if f then FrameCame k m.octets ∷ events_told k more else events_told k more) x
  by true on = on (happened (FrameCame k m.octets) x)
  by false on = on x

pub event-exchange : (what : Happening) (x : NetworkNode) → (happened what x).exchange ≡ exchange.after whole what x.exchange
event-exchange (CameUp link) x = refl
event-exchange (WentDown link) x = refl
event-exchange (FrameCame link text) x = refl
event-exchange Ticked x = refl
event-exchange (Submitted message) x = refl
event-exchange (Activated link emergency) x = refl
event-exchange (Deactivated link) x = refl
event-exchange (Released link) x = refl
event-exchange (TitleAdded row is_memory_refused) x = refl
event-exchange (TitleSet row is_memory_refused) x = refl
event-exchange (TitleRemoved key digits) x = refl

pub events-exchange : (list : List Happening) (x : NetworkNode) → (happened_all list x).exchange ≡ after_events list x.exchange
events-exchange [] x = refl
events-exchange (what ∷ more) x = events-exchange more (happened what x) ∙ ap (after_events more) (event-exchange what x)

pub own-open : (what : Happening) → IsOwn what → (l : ℕ) (x : NetworkNode) → MayOpen l x.exchange.node.parts → MayOpen l (happened what x).exchange.node.parts
own-open what own l x h =
    subst (λ (a : Abstract). MayOpen l a.node.parts) (sym (event-exchange what x))
    ((events-stay x.exchange.settings l what x.exchange.node (own-of what l own)).stay h)
