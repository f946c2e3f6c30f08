-- What is made at a third node, and each user message, is no management of one of two others for the other.
use Rattle.exchange_rules.proofs.Basics.{◌≡◌, ◌≢◌, ◌<◌, ◌≤◌, ◌&&◌, ℕ, ◌+◌, ◌*◌, ◌/◌, ◌%◌, ◌^◌, Bool, true, false, [], refl, ap, ◌∙◌, arith, nat_tests, nat_eq, nat_lt, length, slice_index_or, ⊎_elim, cases_lt, get_or_past}
use Rattle.exchange_rules.proofs.Definitions.{link_test, Message, opc_of, dpc_of, service_indicator, Configuration, SetEntry, IsWell, IsSet, Management, management_to, test_answer, adjacent_of, link_code_of}
use Rattle.network_rules.proofs.Ends.{fine-both, is_fine}
use Rattle.network_rules.proofs.Passing.{IsFine}
use Rattle.network_rules.proofs.Places.{not-equal}

octets-bits : (n : ℕ) → (n % 2 ^ 8 + n / 2 ^ 8 % 2 ^ 8 * 2 ^ 8 + n / 2 ^ 16 % 2 ^ 8 * 2 ^ 16 + n / 2 ^ 24 % 2 ^ 8 * 2 ^ 24) / 2 ^ 14 % 2 ^ 14 ≡ n / 2 ^ 14 % 2 ^ 14
octets-bits n = omega arith

origin-bits : (dpc opc sls : ℕ) → dpc < 2 ^ 14 → opc < 2 ^ 14 → (dpc + opc * 2 ^ 14 + sls * 2 ^ 28) / 2 ^ 14 % 2 ^ 14 ≡ opc
origin-bits dpc opc sls h g = omega (arith, h, g)

made-origin : (c : Configuration) (point : ℕ) (message : Management) → c.own < 2 ^ 14 → point < 2 ^ 14 → opc_of (management_to c point message) ≡ c.own
made-origin c point message h g = octets-bits (point + c.own * 2 ^ 14 + link_code_of message * 2 ^ 28) ∙ origin-bits point c.own (link_code_of message) g h

test-kind : (network : ℕ) → (network * 64 + 1) % 16 ≡ 1
test-kind network = omega arith

user-kind : (indicator : ℕ) → nat_lt indicator 2 ≡ false → nat_eq indicator 0 ≡ false
user-kind indicator e = grind (arith, nat_tests, e)

other-kind : (a b : Bool) → a ≡ false → (a && b) ≡ false
other-kind true b e = absurd cc
other-kind false b e = refl

other-origin : (a b d : Bool) → b ≡ false → (a && (b && d)) ≡ false
other-origin a true d e = absurd cc
other-origin true false d e = refl
other-origin false false d e = refl

pub adjacent-fits : (c : Configuration) → IsWell c → (set : ℕ) → adjacent_of c set < 2 ^ 14
adjacent-fits c well set =
    let none : SetEntry = record { name = []; adjacent = 0 } in
    ⊎_elim
    (λ (there : set < length c.sets). (let known : IsSet c.own (slice_index_or c.sets set none) = well.sets set none there in known.adjacent.fits))
    (λ (past : length c.sets ≤ set). (let first : adjacent_of c set ≡ 0 = ap (λ (s : SetEntry). s.adjacent) (get_or_past c.sets set none past) in omega (arith, first)))
    (cases_lt set (length c.sets))

pub third-fine : (c : Configuration) (one two : ℕ) → IsWell c → c.own ≢ one → c.own ≢ two → IsFine c (is_fine one two)
third-fine c one two well d e = record {
  adjacent = adjacent-fits c well;
  made = λ point message fits.
      let m : Message = management_to c point message in
      let origin : opc_of m ≡ c.own = made-origin c point message well.own fits in
      let neither : (point : ℕ) → c.own ≢ point → nat_eq (opc_of m) point ≡ false = λ point apart. ap (λ (n : ℕ). nat_eq n point) origin ∙ not-equal c.own point apart in
      fine-both one two m
      (other-origin (nat_eq (service_indicator m) 0) (nat_eq (opc_of m) one) (nat_eq (dpc_of m) two) (neither one d))
      (other-origin (nat_eq (service_indicator m) 0) (nat_eq (opc_of m) two) (nat_eq (dpc_of m) one) (neither two e));
  tested = λ point test.
      let m : Message = test_answer c point test in
      let kind : nat_eq (service_indicator m) 0 ≡ false = ap (λ (n : ℕ). nat_eq n 0) (test-kind c.network) in
      fine-both one two m (other-kind (nat_eq (service_indicator m) 0) (nat_eq (opc_of m) one && nat_eq (dpc_of m) two) kind)
      (other-kind (nat_eq (service_indicator m) 0) (nat_eq (opc_of m) two && nat_eq (dpc_of m) one) kind);
  probed = λ link.
      let m : Message = link_test c link in
      let kind : nat_eq (service_indicator m) 0 ≡ false = ap (λ (n : ℕ). nat_eq n 0) (test-kind c.network) in
      fine-both one two m (other-kind (nat_eq (service_indicator m) 0) (nat_eq (opc_of m) one && nat_eq (dpc_of m) two) kind)
      (other-kind (nat_eq (service_indicator m) 0) (nat_eq (opc_of m) two && nat_eq (dpc_of m) one) kind);
  users = λ m user.
      let kind : nat_eq (service_indicator m) 0 ≡ false = user-kind (service_indicator m) user in
      fine-both one two m (other-kind (nat_eq (service_indicator m) 0) (nat_eq (opc_of m) one && nat_eq (dpc_of m) two) kind)
      (other-kind (nat_eq (service_indicator m) 0) (nat_eq (opc_of m) two && nat_eq (dpc_of m) one) kind);
}
