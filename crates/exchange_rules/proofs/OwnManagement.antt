-- What a node makes itself is management.
use Rattle.exchange_rules.proofs.Basics.{ap, arith, nat_lt, true, ℕ, ◌%◌, ◌*◌, ◌+◌, ◌≡◌}
use Rattle.exchange_rules.proofs.Definitions.{LinkTestValue, Management, Configuration, is_management, test_answer, link_test, management_to}

made-indicator : (network : ℕ) → (network * 64 + 0) % 16 ≡ 0
made-indicator network = omega arith

pub tested-indicator : (network : ℕ) → (network * 64 + 1) % 16 ≡ 1
tested-indicator network = omega arith

pub made-management : (c : Configuration) (point : ℕ) (message : Management) → is_management (management_to c point message) ≡ true
made-management c point message = ap (λ (indicator : ℕ). nat_lt indicator 2) (made-indicator c.network)

pub answer-management : (c : Configuration) (point : ℕ) (test : LinkTestValue) → is_management (test_answer c point test) ≡ true
answer-management c point test = ap (λ (indicator : ℕ). nat_lt indicator 2) (tested-indicator c.network)

pub test-management : (c : Configuration) (link : ℕ) → is_management (link_test c link) ≡ true
test-management c link = ap (λ (indicator : ℕ). nat_lt indicator 2) (tested-indicator c.network)
