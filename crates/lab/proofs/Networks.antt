-- The faults of a network, node by node and link by link.
use Rattle.std.proofs.Common.{◌≡◌, ◌∙◌, ◌<◌, ◌≤◌, ◌+◌, ℕ, Bool, not, cond, List, [], ◌∷◌, length, map, drop, Option, Some, None, position, refl, sym, ap, subst, get_or}
use Rattle.std.specs.List.{prefix_len}
use Rattle.std.specs.Option.{option_or}
use Rattle.std.proofs.lemmas.List.{length-map, get_or-map, drop_more, drop_all}
use Rattle.settings.specs.Configuration.{Configuration, LinkEntry}
use Rattle.exchange.specs.Calls.{Kept}
use Rattle.lab.specs.Network.{settings_in, link_fault, link_faults, node_fault, node_faults}
use Rattle.lab.specs.declared.network.NetworkFault.{NetworkFault}

prefix_len-map : {X Y : Type 0} (p : Y → Bool) (f : X → Y) (xs : List X) → prefix_len p (map f xs) ≡ prefix_len (λ x. p (f x)) xs
prefix_len-map p f [] = refl
prefix_len-map p f (x ∷ xs) = ap (λ n. cond (p (f x)) (1 + n) 0) (prefix_len-map p f xs)

pub position-map : {X Y : Type 0} (p : Y → Bool) (f : X → Y) (xs : List X) → position p (map f xs) ≡ position (λ x. p (f x)) xs
position-map p f xs = rw (prefix_len-map (λ y. not (p y)) f xs, length-map xs f) refl

-- ---- the links of a node: whoever finds what the rest have finds what all have

next-link : (nodes : List Configuration) (place : ℕ) (c : Configuration) (link : ℕ) (l : LinkEntry) (all : List LinkEntry) → link < length all → l ≡ get_or all link l
    → link_faults nodes place c link (drop link all) ≡ option_or (link_fault nodes place c link l) (link_faults nodes place c (link + 1) (drop (link + 1) all))
unfolding link_faults
next-link nodes place c link l all few is = rw (drop_more all link l few, ← is) refl

pub link-found : (nodes : List Configuration) (place : ℕ) (c : Configuration) (link : ℕ) (l : LinkEntry) (all : List LinkEntry) (whole : Option NetworkFault) (fault : NetworkFault)
    → link < length all → l ≡ get_or all link l → Some fault ≡ link_fault nodes place c link l → link_faults nodes place c link (drop link all) ≡ whole → Some fault ≡ whole
link-found nodes place c link l all whole fault few is found rest =
    ap (λ (o : Option NetworkFault). option_or o (link_faults nodes place c (link + 1) (drop (link + 1) all))) found
    ∙ sym (next-link nodes place c link l all few is) ∙ rest

pub link-past : (nodes : List Configuration) (place : ℕ) (c : Configuration) (link : ℕ) (l : LinkEntry) (all : List LinkEntry) (whole : Option NetworkFault)
    → link < length all → l ≡ get_or all link l → None ≡ link_fault nodes place c link l → link_faults nodes place c link (drop link all) ≡ whole
    → link_faults nodes place c (link + 1) (drop (link + 1) all) ≡ whole
link-past nodes place c link l all whole few is none rest =
    ap (λ (o : Option NetworkFault). option_or o (link_faults nodes place c (link + 1) (drop (link + 1) all))) none
    ∙ sym (next-link nodes place c link l all few is) ∙ rest

pub no-link : (nodes : List Configuration) (place : ℕ) (c : Configuration) (link : ℕ) (all : List LinkEntry) (whole : Option NetworkFault) → length all ≤ link
    → link_faults nodes place c link (drop link all) ≡ whole → None ≡ whole
unfolding link_faults
no-link nodes place c link all whole past rest = ap (λ (ls : List LinkEntry). link_faults nodes place c link ls) (sym (drop_all link all past)) ∙ rest

-- ---- the same of the nodes

next-node : (nodes : List Configuration) (place : ℕ) (c : Configuration) (all : List Configuration) → place < length all → c ≡ get_or all place c
    → node_faults nodes place (drop place all) ≡ option_or (node_fault nodes place c) (node_faults nodes (place + 1) (drop (place + 1) all))
unfolding node_faults
next-node nodes place c all few is = rw (drop_more all place c few, ← is) refl

next-kept : (nodes : List Kept) (place : ℕ) (k : Kept) (c : Configuration) → place < length nodes → k ≡ get_or nodes place k → c ≡ k.settings
    → node_faults (settings_in nodes) place (drop place (settings_in nodes))
    ≡ option_or (node_fault (settings_in nodes) place c) (node_faults (settings_in nodes) (place + 1) (drop (place + 1) (settings_in nodes)))
next-kept nodes place k c few is same =
    let there : k.settings ≡ get_or (settings_in nodes) place k.settings =
    ap (λ (n : Kept). n.settings) is ∙ sym (get_or-map (λ (n : Kept). n.settings) nodes place k k.settings few) in
    let long : length (settings_in nodes) ≡ length nodes = length-map nodes (λ (n : Kept). n.settings) in
    rw same (next-node (settings_in nodes) place k.settings (settings_in nodes) (subst (λ (n : ℕ). place < n) (sym long) few) there)

pub node-found : (nodes : List Kept) (place : ℕ) (k : Kept) (c : Configuration) (whole : Option NetworkFault) (fault : NetworkFault) → place < length nodes → k ≡ get_or nodes place k
    → c ≡ k.settings → Some fault ≡ node_fault (settings_in nodes) place c → node_faults (settings_in nodes) place (drop place (settings_in nodes)) ≡ whole → Some fault ≡ whole
node-found nodes place k c whole fault few is same found rest =
    ap (λ (o : Option NetworkFault). option_or o (node_faults (settings_in nodes) (place + 1) (drop (place + 1) (settings_in nodes)))) found
    ∙ sym (next-kept nodes place k c few is same) ∙ rest

pub node-past : (nodes : List Kept) (place : ℕ) (k : Kept) (c : Configuration) (whole : Option NetworkFault) → place < length nodes → k ≡ get_or nodes place k
    → c ≡ k.settings → None ≡ node_fault (settings_in nodes) place c → node_faults (settings_in nodes) place (drop place (settings_in nodes)) ≡ whole
    → node_faults (settings_in nodes) (place + 1) (drop (place + 1) (settings_in nodes)) ≡ whole
node-past nodes place k c whole few is same none rest =
    ap (λ (o : Option NetworkFault). option_or o (node_faults (settings_in nodes) (place + 1) (drop (place + 1) (settings_in nodes)))) none
    ∙ sym (next-kept nodes place k c few is same) ∙ rest

pub no-node : (nodes : List Kept) (place : ℕ) (whole : Option NetworkFault) → length nodes ≤ place
    → node_faults (settings_in nodes) place (drop place (settings_in nodes)) ≡ whole → None ≡ whole
unfolding node_faults
no-node nodes place whole past rest =
    let long : length (settings_in nodes) ≡ length nodes = length-map nodes (λ (n : Kept). n.settings) in
    ap (λ (cs : List Configuration). node_faults (settings_in nodes) place cs) (sym (drop_all place (settings_in nodes) (subst (λ (n : ℕ). n ≤ place) (sym long) past))) ∙ rest
