-- The laws of orders, answers, declarations and confirmations, by counts of the messages under way.
use Rattle.std.specs.Prelude.{◌≡◌, ℕ, zero, suc, Bool, cond, ◌+◌, count_by}
use Rattle.signalling_types.specs.Message.{Message}
use Rattle.link.specs.Queue.{last_accepted}
use Rattle.pair_moves.specs.Sayings.{Reading, Saying, is_order, is_answer, is_untrue, is_declaration, is_confirmation}
use Rattle.pair_moves.specs.Ends.{Pair, turned, unreceived}

-- the sum over this many links
abbrev pub sum_to : (ℕ → ℕ) → ℕ → ℕ
sum_to f zero = 0
sum_to f (suc n) = sum_to f n + f n

-- how many messages that pass a test the near node accepted or made, and the far node hasn't looked at: those in Held,
-- the loose ones, those of the queues that aren't received, and those that just arrived
abbrev pub under_way : (Message → Bool) → Pair → ℕ
under_way test p =
    count_by test p.near.held + count_by test p.near.loose
    + sum_to (λ link. count_by test (unreceived (p.line link))) p.links
    + count_by test p.far.arrived

abbrev pub one_if : Bool → ℕ
one_if b = cond b 1 0

abbrev pub saying : (Message → Saying) → (Saying → Bool) → Message → Bool
saying read test m = test (read m)

module _ (read : Reading) where
  -- law (ii): of the near node's orders about a link and the far node's answers about it, exactly one is under way
  -- while the near node awaits the answer, and otherwise none
  abbrev pub OrdersAreAwaited : Pair → Type 0
  OrdersAreAwaited p =
      (link : ℕ) →
      under_way (saying read.there (is_order link)) p + under_way (saying read.back (is_answer link)) (turned p)
      ≡ one_if (p.line link).near.awaited

  -- law (iii): an order or answer is under way only about a link that is down at its sender, with
  -- the number of the last message accepted there
  abbrev pub WordsAreTrue : Pair → Type 0
  WordsAreTrue p =
      (link : ℕ) →
      under_way (saying read.there (is_untrue link (p.line link).near.up (last_accepted (p.line link).near.queue))) p ≡ 0

  -- the law of codes: of the near node's declarations with a code and the far node's confirmations of it, exactly one
  -- is under way while the code is outstanding, and otherwise none. One that was given up stays outstanding, and none
  -- is under way
  abbrev pub CodesAreOutstanding : Pair → Type 0
  CodesAreOutstanding p =
      (code : ℕ) →
      under_way (saying read.there (is_declaration code)) p + under_way (saying read.back (is_confirmation code)) (turned p)
      + one_if (p.near.given_up code)
      ≡ one_if (p.near.outstanding code)
