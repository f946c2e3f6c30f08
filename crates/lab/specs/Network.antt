-- A network of nodes by their settings: where each link has its other end, and what is wrong with it.
use Rattle.std.specs.Prelude.{ℕ, ◌+◌, List, [], ◌∷◌, Option, Some, None, map, position, nat_eq, nat_lt, if◌then◌else◌}
use Rattle.std.specs.Prelude.{option_map, option_and_then, slice_get}
use Rattle.std.specs.Option.{option_or}
use Rattle.settings.specs.Configuration.{Configuration, LinkEntry}
use Rattle.settings.specs.Readings.{set_place}
use Rattle.settings.specs.Sharing.{is_link_of}
use Rattle.exchange.specs.Calls.{Kept}
use Rattle.lab.specs.declared.ends.LinkEnd.{LinkEnd}
use Rattle.lab.specs.declared.network.NetworkFault.{NetworkFault}
use Rattle.lab.specs.declared.network.NetworkFault.TheVariants.{SamePoint, NotJoined, OtherNetwork}

-- the settings of nodes
abbrev pub settings_in : List Kept → List Configuration
settings_in nodes = map (λ node. node.settings) nodes

-- the place of the first node of this point
abbrev pub place_of : List Configuration → (point : ℕ) → Option ℕ
place_of nodes point = position (λ c. nat_eq c.own point) nodes

-- the link of this signalling link code in the set that leads to a point
abbrev pub link_back : Configuration → (point slc : ℕ) → Option ℕ
link_back c point slc = option_and_then (λ set. position (is_link_of set slc) c.links) (set_place c point)

-- the other end of a link: at the point that its set leads to, in the set that leads back, with the same code
-- (Q.704 §2.2, §15.2)
abbrev pub other_end : List Configuration → Configuration → LinkEntry → Option LinkEnd
other_end nodes c l =
    option_and_then (λ set. option_and_then (λ place. option_and_then (λ other.
    option_map (λ link. record { place = place; link = link }) (link_back other c.own l.slc))
    (slice_get nodes place)) (place_of nodes set.adjacent)) (slice_get c.sets l.set)

-- ---- faults

-- the other end of a link, at this node, is in another network, by the network indicator (Q.704 §14.2)
abbrev pub network_at : (place : ℕ) → Configuration → (link : ℕ) → Option Configuration → Option NetworkFault
network_at place c link (Some other) = if nat_eq other.network c.network then None else Some (OtherNetwork place link)
network_at place c link None = Some (OtherNetwork place link)

-- a link has no other end, or that is in another network
abbrev pub end_fault : List Configuration → (place : ℕ) → Configuration → (link : ℕ) → Option LinkEnd
    → Option NetworkFault
end_fault nodes place c link None = Some (NotJoined place link)
end_fault nodes place c link (Some end) = network_at place c link (slice_get nodes end.place)

-- what is wrong with a link of the node in a place
abbrev pub link_fault : List Configuration → (place : ℕ) → Configuration → (link : ℕ) → LinkEntry → Option NetworkFault
link_fault nodes place c link l = end_fault nodes place c link (other_end nodes c l)

-- the first fault of these links of the node in a place, of which the first has this number
unfoldable pub link_faults : List Configuration → (place : ℕ) → Configuration → (link : ℕ) → List LinkEntry
    → Option NetworkFault
link_faults nodes place c link [] = None
link_faults nodes place c link (l ∷ rest) =
    option_or (link_fault nodes place c link l) (link_faults nodes place c (link + 1) rest)

-- the fault of the node in a place whose point a node before it has, which is in this place
abbrev pub point_fault : (place : ℕ) → (first : Option ℕ) → Option NetworkFault
point_fault place (Some first) = if nat_lt first place then Some (SamePoint place) else None
point_fault place None = None

-- the first fault of the node in a place: of its point, or else of a link
abbrev pub node_fault : List Configuration → (place : ℕ) → Configuration → Option NetworkFault
node_fault nodes place c = option_or (point_fault place (place_of nodes c.own)) (link_faults nodes place c 0 c.links)

-- the first fault of these nodes, of which the first is in this place
unfoldable pub node_faults : List Configuration → (place : ℕ) → List Configuration → Option NetworkFault
node_faults nodes place [] = None
node_faults nodes place (c ∷ rest) = option_or (node_fault nodes place c) (node_faults nodes (place + 1) rest)

-- the first fault of nodes, node by node
abbrev pub network_fault : List Configuration → Option NetworkFault
network_fault nodes = node_faults nodes 0 nodes
