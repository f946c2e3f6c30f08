-- What comes to the nodes of a network by links that lead out of it, and what goes out by them, as the code keeps them.
use Rattle.std.specs.Prelude.{ℕ, Bool, true, false, ◌&&◌, not, nat_eq, nat_lt, List, length, Option, Some, None, slice_get, slice_set}
use Rattle.std.specs.List.{list_any}
use Rattle.signalling_types.specs.Message.{Message, dpc_of, opc_of, service_indicator}
use Rattle.settings.specs.Configuration.{Configuration, LinkEntry}
use Rattle.exchange_rules.specs.Routing.{adjacent_of}
use Rattle.exchange_rules.specs.State.{CameUp}
use Rattle.network_world.specs.KeptSites.{message_in, text_to_take}
use Rattle.network_world.specs.KeptNodes.{KeptNode, NodeTurn, node_happens, node_hears, node_takes}
use Rattle.network_world.specs.KeptNetworks.{NetworkTurn, network_ignored, node_at, one_turned}

-- ---- what leads out, and who speaks

-- whether a node with link sets is at a point
abbrev pub has_sets : Option KeptNode → Bool
has_sets (Some n) = nat_lt 0 (length n.exchange.settings.sets)
has_sets None = false

abbrev pub kept_within : (point : ℕ) → List KeptNode → Bool
kept_within point k = has_sets (node_at point k)

-- whether a link leads to a point at which none is
abbrev pub kept_leads_by : List KeptNode → Configuration → Option LinkEntry → Bool
kept_leads_by k c (Some l) = not (kept_within (adjacent_of c l.set) k)
kept_leads_by k c None = false

abbrev pub kept_leads_out : List KeptNode → Option KeptNode → (link : ℕ) → Bool
kept_leads_out k (Some n) link = kept_leads_by k n.exchange.settings (slice_get n.exchange.settings.links link)
kept_leads_out k None link = false

-- whether a message is management (SI 0) in the name of one of the nodes for one of them
abbrev pub kept_management_within : List KeptNode → Message → Bool
kept_management_within k m =
    nat_eq (service_indicator m) 0 && (kept_within (opc_of m) k && kept_within (dpc_of m) k)

abbrev pub kept_speaks_within : List KeptNode → (text : List ℕ) → Bool
kept_speaks_within k text = list_any (kept_management_within k) (message_in text)

-- ---- what comes

-- by a link of the node at a place: it comes to that node alone
abbrev pub comes_outside : (out speaks : Bool) → (place : ℕ) → (KeptNode → NodeTurn) → List KeptNode → NetworkTurn
comes_outside true false place done k = one_turned place done (slice_get k place) k
comes_outside out speaks place done k = network_ignored k

abbrev pub node_hears_outside : (link : ℕ) → (text : List ℕ) → KeptNode → NodeTurn
node_hears_outside link text n = node_hears (Some text) link n.incoming n

abbrev pub kept_opens_outside : (place : Option ℕ) → (link : ℕ) → List KeptNode → NetworkTurn
kept_opens_outside (Some place) link k =
    comes_outside (kept_leads_out k (slice_get k place) link) false place (node_happens (CameUp link)) k
kept_opens_outside None link k = network_ignored k

abbrev pub kept_hears_outside : (place : Option ℕ) → (link : ℕ) → (text : List ℕ) → List KeptNode → NetworkTurn
kept_hears_outside (Some place) link text k =
    comes_outside
    (kept_leads_out k (slice_get k place) link)
    (kept_speaks_within k text)
    place
    (node_hears_outside link text)
    k
kept_hears_outside None link text k = network_ignored k

-- ---- what goes out

-- a frame, if there is one, and the nodes after it
pub record FrameOut : Type 0 where
  pub text : Option (List ℕ)
  pub left : List KeptNode

abbrev pub sent_out : (out : Bool) → (place link : ℕ) → Option KeptNode → List KeptNode → FrameOut
sent_out true place link (Some n) k = record {
  text = text_to_take n.exchange link;
  left = slice_set k place (node_takes link n).left;
}
sent_out out place link n k = record { text = None; left = k }

abbrev pub kept_sends_outside : (place : Option ℕ) → (link : ℕ) → List KeptNode → FrameOut
kept_sends_outside (Some place) link k =
    sent_out (kept_leads_out k (slice_get k place) link) place link (slice_get k place) k
kept_sends_outside None link k = record { text = None; left = k }
