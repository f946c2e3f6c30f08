-- What is printed and told of nodes that aren't a network.
use Rattle.std.specs.Prelude.{ℕ, List, [], ◌++◌, codes, decimal, option_map, slice_get}
use Rattle.std.specs.Option.{unwrap_or}
use Rattle.settings.specs.Configuration.{Configuration}
use Rattle.console.specs.Names.{name_in}
use Rattle.lab.specs.declared.network.NetworkFault.{NetworkFault}
use Rattle.lab.specs.declared.network.NetworkFault.TheVariants.{SamePoint, NotJoined, OtherNetwork}

-- the point of the node in a place, the name of a link of it, and the name of the file in a place
abbrev pub own_in : List Configuration → (place : ℕ) → ℕ
own_in nodes place = unwrap_or (option_map (λ c. c.own) (slice_get nodes place)) 0

abbrev pub name_in_place : List Configuration → (place link : ℕ) → List ℕ
name_in_place nodes place link = unwrap_or (option_map (λ c. name_in c link) (slice_get nodes place)) []

abbrev pub file_in : List (List ℕ) → (place : ℕ) → List ℕ
file_in files place = unwrap_or (slice_get files place) []

-- a line of a fault at a link names the node by its point
abbrev pub link_line : List Configuration → List ℕ → (place link : ℕ) → List ℕ
link_line nodes fault place link =
    fault ++ (decimal (own_in nodes place) ++ (codes " " ++ (name_in_place nodes place link ++ codes "\n")))

-- the line of a fault
abbrev pub network_line : List Configuration → NetworkFault → List ℕ
network_line nodes (SamePoint place) = codes "fault SamePoint " ++ (decimal (own_in nodes place) ++ codes "\n")
network_line nodes (NotJoined place link) = link_line nodes (codes "fault NotJoined ") place link
network_line nodes (OtherNetwork place link) = link_line nodes (codes "fault OtherNetwork ") place link

-- a sentence about a link of the node of a file
abbrev pub link_sentence : (files : List (List ℕ)) → List Configuration → (place link : ℕ) → List ℕ → List ℕ
link_sentence files nodes place link wrong =
    file_in files place ++ (codes ": link " ++ (name_in_place nodes place link ++ wrong))

-- the sentence about a fault
abbrev pub network_sentence : (files : List (List ℕ)) → List Configuration → NetworkFault → List ℕ
network_sentence files nodes (SamePoint place) =
    file_in files place ++ codes ": a file before it has the same point\n"
network_sentence files nodes (NotJoined place link) =
    link_sentence files nodes place link (codes ": none of the files has its other end\n")
network_sentence files nodes (OtherNetwork place link) =
    link_sentence files nodes place link (codes ": its other end is in another network\n")
