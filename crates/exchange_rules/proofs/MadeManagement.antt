-- What a management message says that a node makes, and what its addressee does with it.
use Rattle.exchange_rules.proofs.Basics.{◌≡◌, ◌<◌, ◌≤◌, ◌^◌, ℕ, true, false, None, Ok, length, nat_eq, nat_lt, [], refl, ap, arith, slice_index_or, ⊎_elim, cases_lt, nat_tests, get_or_past}
use Rattle.exchange_rules.proofs.Definitions.{Message, dpc_of, opc_of, service_indicator, network_indicator, is_management, SIF_OCTETS, Configuration, LinkEntry, SetEntry, IsWell, IsLink, IsSet, adjacent_of, label_at, Management, IsManagement, read_management, management_to, entry_of, whither_goes}
use Rattle.mtp3_codec.specs.declared.label.Label.{Label}
use Rattle.mtp3_codec.specs.declared.discrimination.Discrimination.TheVariants.{Here}
use Rattle.mtp3_codec.proofs.Reading.{label_of, its-label, message-back, octets-fit, octets-long}

-- ---- what it says

module _ (c : Configuration) (well : IsWell c) (point : ℕ) (m : Management) where
  pub made-indicator : service_indicator (management_to c point m) ≡ 0
  made-indicator = omega arith

  pub made-management : is_management (management_to c point m) ≡ true
  made-management = rw made-indicator refl

  pub made-network : network_indicator (management_to c point m) ≡ c.network
  made-network = omega arith

  pub made-long : 5 ≤ length (management_to c point m).sif
  made-long = octets-long point c.own m

  pub made-short : length (management_to c point m).sif ≤ 8
  made-short = octets-fit point c.own m

  module _ (fits : point < 2 ^ 14) (h : IsManagement m) where
    pub made-label : label_at (management_to c point m).sif ≡ label_of point c.own m
    made-label = its-label point c.own m fits well.own h

    pub made-dpc : dpc_of (management_to c point m) ≡ point
    made-dpc = ap (λ (l : Label). l.dpc) made-label

    pub made-opc : opc_of (management_to c point m) ≡ c.own
    made-opc = ap (λ (l : Label). l.opc) made-label

    pub made-says : read_management (management_to c point m).sif ≡ Ok m
    made-says = message-back point c.own m fits well.own h

-- the code of a link is one that a message can name
pub code-fits : (c : Configuration) → IsWell c → (link : ℕ) → (entry_of c link).slc < 2 ^ 4
code-fits c well link =
    let none : LinkEntry = record { name = []; set = 0; slc = 0; share = None } in
    ⊎_elim
    (λ (there : link < length c.links). (let known : IsLink (length c.sets) (slice_index_or c.links link none) = well.links link none there in known.slc))
    (λ (past : length c.links ≤ link). (let first : (entry_of c link).slc ≡ 0 = ap (λ (l : LinkEntry). l.slc) (get_or_past c.links link none past) in omega (arith, first)))
    (cases_lt link (length c.links))

-- and its point, too
pub adjacent-fits : (c : Configuration) → IsWell c → (set : ℕ) → adjacent_of c set < 2 ^ 14
adjacent-fits c well set =
    let none : SetEntry = record { name = []; adjacent = 0 } in
    ⊎_elim
    (λ (there : set < length c.sets). (let known : IsSet c.own (slice_index_or c.sets set none) = well.sets set none there in known.adjacent.fits))
    (λ (past : length c.sets ≤ set). (let first : adjacent_of c set ≡ 0 = ap (λ (s : SetEntry). s.adjacent) (get_or_past c.sets set none past) in omega (arith, first)))
    (cases_lt set (length c.sets))

-- ---- the node that it is for

-- a message for a node comes to it, if it has a label, isn't too long, and is of its network
pub comes-here : (c : Configuration) (m : Message) → 4 ≤ length m.sif → length m.sif ≤ SIF_OCTETS → network_indicator m ≡ c.network → dpc_of m ≡ c.own
    → whither_goes c m ≡ Here (label_at m.sif)
comes-here c m long short network here =
    let fits : nat_lt SIF_OCTETS (length m.sif) ≡ false = grind (arith, nat_tests, short) in
    let labelled : nat_lt (length m.sif) 4 ≡ false = grind (arith, nat_tests, long) in
    let ours : nat_eq (network_indicator m) c.network ≡ true = grind (arith, nat_tests, network) in
    let own : nat_eq (dpc_of m) c.own ≡ true = grind (arith, nat_tests, here) in
    rw (fits, labelled, ours, own) refl
