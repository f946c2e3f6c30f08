-- Links that lead out of a network, to points at which none of its nodes is, and what comes by them from there.
use Rattle.std.specs.Prelude.{◌&&◌, ℕ, Bool, true, false, not, nat_eq, nat_lt, List, [], ◌∷◌, length, Option, Some, None, option_to_list, slice_get}
use Rattle.std.specs.List.{list_any}
use Rattle.signalling_types.specs.Message.{Message, dpc_of, opc_of, service_indicator}
use Rattle.settings.specs.Configuration.{Configuration, LinkEntry}
use Rattle.m2pa_codec.specs.Frames.{read_frame}
use Rattle.exchange_rules.specs.Laws.{carried_message}
use Rattle.exchange_rules.specs.Routing.{adjacent_of}
use Rattle.exchange_rules.specs.State.{CameUp}
use Rattle.network_rules.specs.Networks.{NetworkNode, NetworkState, Step, after_step, changed, deliver_frame, happens}

-- whether a node of the network is at a point: one that has link sets
abbrev pub is_within : NetworkState → (point : ℕ) → Bool
is_within w point = nat_lt 0 (length (w.node point).exchange.settings.sets)

-- a link leads out, if it leads to another point
abbrev pub leads_out_by : NetworkState → Configuration → Option LinkEntry → Bool
leads_out_by w c (Some l) = not (is_within w (adjacent_of c l.set))
leads_out_by w c None = false

abbrev pub leads_out : NetworkState → (point link : ℕ) → Bool
leads_out w point link =
    leads_out_by
    w
    (w.node point).exchange.settings
    (slice_get (w.node point).exchange.settings.links link)

-- whether a message is management (SI 0) in the name of a node of the network for a node of the network
abbrev pub is_management_within : NetworkState → Message → Bool
is_management_within w m =
    nat_eq (service_indicator m) 0 && (is_within w (opc_of m) && is_within w (dpc_of m))

-- and whether a frame carries some, as nobody outside may
abbrev pub speaks_within : NetworkState → (text : List ℕ) → Bool
speaks_within w text = list_any (is_management_within w) (option_to_list (carried_message (read_frame text)))

-- ---- what is done to a network

pub data Move : Type 0 where
  -- at one of its nodes
  Within : (step : Step) → Move
  -- a link that leads out opens, or a frame comes by it
  OpensOutside : (point link : ℕ) → Move
  HearsOutside : (point link : ℕ) (text : List ℕ) → Move

abbrev pub opens_outside : (out : Bool) → (point link : ℕ) → NetworkState → NetworkState
opens_outside true point link w = changed point (happens (CameUp link)) w
opens_outside false point link w = w

-- it wasn't in flight within, and all that is stays so
abbrev pub hears : (link : ℕ) → (text : List ℕ) → NetworkNode → NetworkNode
hears link text x = deliver_frame (Some text) link x.incoming x

abbrev pub hears_outside : (out speaks : Bool) → (point link : ℕ) → (text : List ℕ) → NetworkState → NetworkState
hears_outside true false point link text w = changed point (hears link text) w
hears_outside out speaks point link text w = w

abbrev pub after_move : Move → NetworkState → NetworkState
after_move (Within step) w = after_step step w
after_move (OpensOutside point link) w = opens_outside (leads_out w point link) point link w
after_move (HearsOutside point link text) w =
    hears_outside (leads_out w point link) (speaks_within w text) point link text w

abbrev pub after_moves : List Move → NetworkState → NetworkState
after_moves [] w = w
after_moves (move ∷ moves) w = after_moves moves (after_move move w)
