-- What a node makes: a message for the other says there what it says, and all else passes by.
use Rattle.pair_rules.proofs.Basics.{◌≡◌, ◌≢◌, ◌<◌, ◌≤◌, ◌^◌, ℕ, Bool, true, false, ◌&&◌, ◌||◌, ◌+◌, ◌%◌, [], length, Ok, refl, ap, ◌∙◌, nat_eq, arith, slice_index_or, ⊎_elim, cases_lt, eq-eqb, get_or_past}
use Rattle.pair_rules.proofs.Definitions.{Message, SIF_OCTETS, is_management, dpc_of, opc_of, service_indicator, Configuration, DestinationEntry, SetEntry, IsWell, IsDestination, IsSet, IsManagement, read_management, Management, management_to, changeback_acknowledgement, made-indicator, made-dpc, made-opc, made-says, comes-here, RouteStatus}
use Rattle.std.specs.Prelude.{◌*◌}
use Rattle.mtp3_codec.specs.Headings.{label_at}
use Rattle.mtp3_codec.specs.declared.management.Management.TheVariants as says
use Rattle.routes.specs.declared.route.RouteStatus.TheVariants.{Allowed, Restricted, Prohibited}
use Rattle.exchange_rules.proofs.Basics.{eqb-true}
use Rattle.exchange_rules.proofs.MadeManagement.{made-management, made-network, made-long, made-short}
use Rattle.exchange_rules.specs.Routing.{adjacent_of, point_of}
use Rattle.exchange_rules.proofs.OwnManagement.{answer-management, test-management}
use Rattle.exchange_rules.specs.LinkTests.{link_test}
use Rattle.exchange_rules.specs.Messages.{test_answer}
use Rattle.exchange_rules.specs.Telling.{route_message, telling}
use Rattle.mtp3_codec.specs.Management.{LinkTestValue}
use Rattle.pair_moves.specs.Sayings.{Other}
use Rattle.neighbour_rules.specs.Neighbours.{is_management_between}
use Rattle.neighbour_rules.proofs.World.{is_between, management_says, read_says, says_by, says_of}
use Rattle.neighbour_rules.proofs.Good.{IsMade, IsWord, Joint, set}

pub not-same : (m n : ℕ) → m ≢ n → nat_eq m n ≡ false
not-same m n d = by (nat_eq m n) refl
  where
    by : (b : Bool) → nat_eq m n ≡ b → b ≡ false
    by true e = absurd (d (eqb-true m n e))
    by false e = refl

none-of : (a b : Bool) → (a && (b && false)) ≡ false
none-of true true = refl
none-of true false = refl
none-of false b = refl

none-first : (a b : Bool) → (a && (false && b)) ≡ false
none-first true b = refl
none-first false b = refl

-- ---- points

pub adjacent-fits : (c : Configuration) → IsWell c → (s : ℕ) → adjacent_of c s < 2 ^ 14
adjacent-fits c well s =
    let none : SetEntry = record { name = []; adjacent = 0 } in
    ⊎_elim
    (λ (l : s < length c.sets). (let known : IsSet c.own (slice_index_or c.sets s none) = well.sets s none l in known.adjacent.fits))
    (λ (l : length c.sets ≤ s). (let past : adjacent_of c s ≡ 0 = ap (λ (x : SetEntry). x.adjacent) (get_or_past c.sets s none l) in omega (arith, past)))
    (cases_lt s (length c.sets))

pub point-fits : (c : Configuration) → IsWell c → (destination : ℕ) → point_of c destination < 2 ^ 14
point-fits c well destination =
    let none : DestinationEntry = record { point = 0; sets = []; joined = false } in
    ⊎_elim
    (λ (l : destination < length c.destinations).
    (let known : IsDestination c.own (length c.sets) (slice_index_or c.destinations destination none) = well.destinations destination none l in known.point.fits))
    (λ (l : length c.destinations ≤ destination). (let past : point_of c destination ≡ 0 = ap (λ (x : DestinationEntry). x.point) (get_or_past c.destinations destination none l) in omega (arith, past)))
    (cases_lt destination (length c.destinations))

module _ (c z : Configuration) (j : Joint c z) where
  -- ---- management of other kinds, to whichever point

  pub plain-other : (point : ℕ) (word : Management) → point < 2 ^ 14 → IsManagement word → management_says word ≡ Other → says_of c.own z.own j.base.there (management_to c point word) ≡ Other
  plain-other point word fits h e =
      ap (λ (b : Bool). says_by b (is_between c.own z.own m) (nat_eq (dpc_of m) j.base.there) m) (made-management c j.near_well point word) ∙ by (is_between c.own z.own m)
    where
      m : Message
      m = management_to c point word

      by : (b : Bool) → says_by true b (nat_eq (dpc_of (management_to c point word)) j.base.there) (management_to c point word) ≡ Other
      by true = ap read_says (made-says c j.near_well point word fits h) ∙ e
      by false = refl

  -- what tells a status of a point
  pub route-other : (its destination : ℕ) (status : RouteStatus) → says_of c.own z.own j.base.there (route_message c its destination status) ≡ Other
  route-other its destination Prohibited = plain-other (adjacent_of c its) (says.TransferProhibited (point_of c destination)) (adjacent-fits c j.near_well its) (point-fits c j.near_well destination) refl
  route-other its destination Restricted = plain-other (adjacent_of c its) (says.TransferRestricted (point_of c destination)) (adjacent-fits c j.near_well its) (point-fits c j.near_well destination) refl
  route-other its destination Allowed = plain-other (adjacent_of c its) (says.TransferAllowed (point_of c destination)) (adjacent-fits c j.near_well its) (point-fits c j.near_well destination) refl

  -- ---- management of any kind to a third point

  pub past-between : (point : ℕ) (word : Management) → point < 2 ^ 14 → IsManagement word → point ≢ z.own → is_between c.own z.own (management_to c point word) ≡ false
  past-between point word fits h d = ap (λ (b : Bool). b || is_management_between z.own c.own (management_to c point word)) there ∙ back
    where
      there : is_management_between c.own z.own (management_to c point word) ≡ false
      there =
          ap (λ (k : ℕ). nat_eq (service_indicator (management_to c point word)) 0 && (nat_eq (opc_of (management_to c point word)) c.own && nat_eq k z.own)) (made-dpc c j.near_well point word fits h)
          ∙ ap (λ (b : Bool). nat_eq (service_indicator (management_to c point word)) 0 && (nat_eq (opc_of (management_to c point word)) c.own && b)) (not-same point z.own d)
          ∙ none-of (nat_eq (service_indicator (management_to c point word)) 0) (nat_eq (opc_of (management_to c point word)) c.own)

      back : is_management_between z.own c.own (management_to c point word) ≡ false
      back =
          ap (λ (k : ℕ). nat_eq (service_indicator (management_to c point word)) 0 && (nat_eq k z.own && nat_eq (dpc_of (management_to c point word)) c.own)) (made-opc c j.near_well point word fits h)
          ∙ ap (λ (b : Bool). nat_eq (service_indicator (management_to c point word)) 0 && (b && nat_eq (dpc_of (management_to c point word)) c.own)) (not-same c.own z.own j.apart)
          ∙ none-first (nat_eq (service_indicator (management_to c point word)) 0) (nat_eq (dpc_of (management_to c point word)) c.own)

  -- management that isn't between the two passes by
  pub between-not : (m : Message) → is_management m ≡ true → is_between c.own z.own m ≡ false → says_of c.own z.own j.base.there m ≡ Other
  between-not m e f =
      ap (λ (b : Bool). says_by b (is_between c.own z.own m) (nat_eq (dpc_of m) j.base.there) m) e
      ∙ ap (λ (b : Bool). says_by true b (nat_eq (dpc_of m) j.base.there) m) f

  pub past-other : (point : ℕ) (word : Management) → point < 2 ^ 14 → IsManagement word → point ≢ z.own → says_of c.own z.own j.base.there (management_to c point word) ≡ Other
  past-other point word fits h d = between-not (management_to c point word) (made-management c j.near_well point word) (past-between point word fits h d)

  -- the confirmation of a code, whatever octet that is
  pub confirmation-past : (point slc code : ℕ) → point < 2 ^ 14 → slc < 2 ^ 4 → point ≢ z.own → says_of c.own z.own j.base.there (changeback_acknowledgement c point slc code) ≡ Other
  confirmation-past point slc code fits small d =
      between-not (changeback_acknowledgement c point slc code) (made-management c j.near_well point (says.ChangebackAcknowledgement slc code))
      (past-between point (says.ChangebackAcknowledgement slc 0) fits (small, omega arith) d)

  -- the answer to a link test
  test-indicator : (network : ℕ) → (network * 64 + 1) % 16 ≡ 1
  test-indicator network = omega arith

  pub test-past : (point : ℕ) (test : LinkTestValue) → says_of c.own z.own j.base.there (test_answer c point test) ≡ Other
  test-past point test =
      between-not (test_answer c point test) (answer-management c point test)
      (ap (λ (k : ℕ). (nat_eq k 0 && (nat_eq (opc_of (test_answer c point test)) c.own && nat_eq (dpc_of (test_answer c point test)) z.own))
      || (nat_eq k 0 && (nat_eq (opc_of (test_answer c point test)) z.own && nat_eq (dpc_of (test_answer c point test)) c.own))) (test-indicator c.network))

  -- and a link test of one's own
  pub own_test-past : (link : ℕ) → says_of c.own z.own j.base.there (link_test c link) ≡ Other
  own_test-past link =
      between-not (link_test c link) (test-management c link)
      (ap (λ (k : ℕ). (nat_eq k 0 && (nat_eq (opc_of (link_test c link)) c.own && nat_eq (dpc_of (link_test c link)) z.own))
      || (nat_eq k 0 && (nat_eq (opc_of (link_test c link)) z.own && nat_eq (dpc_of (link_test c link)) c.own))) (test-indicator c.network))

  -- ---- all of it is short

  pub made-brief : (point : ℕ) (word : Management) → length (management_to c point word).sif ≤ SIF_OCTETS
  made-brief point word = (let short : length (management_to c point word).sif ≤ 8 = made-short c j.near_well point word in omega (arith, short))

  pub route-brief : (its destination : ℕ) (status : RouteStatus) → length (route_message c its destination status).sif ≤ SIF_OCTETS
  route-brief its destination status = made-brief (adjacent_of c its) (telling status (point_of c destination))

  -- ---- a word for the other

  module _ (word : Management) (h : IsManagement word) where
    abbrev m : Message
    m = management_to c z.own word

    its-dpc : dpc_of m ≡ z.own
    its-dpc = made-dpc c j.near_well z.own word j.far_well.own h

    its-opc : opc_of m ≡ c.own
    its-opc = made-opc c j.near_well z.own word j.far_well.own h

    its-word : read_management m.sif ≡ Ok word
    its-word = made-says c j.near_well z.own word j.far_well.own h

    its-indicator : service_indicator m ≡ 0
    its-indicator = made-indicator c j.near_well z.own word

    between : is_between c.own z.own m ≡ true
    between =
        ap (λ (b : Bool). (b && (nat_eq (opc_of m) c.own && nat_eq (dpc_of m) z.own)) || is_management_between z.own c.own m) (eq-eqb (service_indicator m) 0 its-indicator)
        ∙ ap (λ (b : Bool). (b && nat_eq (dpc_of m) z.own) || is_management_between z.own c.own m) (eq-eqb (opc_of m) c.own its-opc)
        ∙ ap (λ (b : Bool). b || is_management_between z.own c.own m) (eq-eqb (dpc_of m) z.own its-dpc)

    pub word-says : says_of c.own z.own j.base.there m ≡ management_says word
    word-says =
        ap (λ (b : Bool). says_by b (is_between c.own z.own m) (nat_eq (dpc_of m) j.base.there) m) (made-management c j.near_well z.own word)
        ∙ ap (λ (b : Bool). says_by true b (nat_eq (dpc_of m) j.base.there) m) between
        ∙ ap read_says its-word

    pub word-made : IsWord c (set c z j) word → IsMade c z (set c z j) m
    word-made is = record {
      management = made-management c j.near_well z.own word;
      indicator = its-indicator;
      from = its-opc;
      to = its-dpc;
      word = word;
      reads = its-word;
      is = is;
      label = label_at m.sif;
      here =
          (let long : 5 ≤ length m.sif = made-long c j.near_well z.own word in
          let short : length m.sif ≤ 8 = made-short c j.near_well z.own word in
          comes-here z m (omega (arith, long)) (omega (arith, short)) (made-network c j.near_well z.own word ∙ j.shares.network) its-dpc);
    }
