-- What may be done at a node with gates.
use Rattle.std.proofs.Common.{◌≤◌, ◌+◌, ◌*◌, ℕ, refl, arith}
use Rattle.sctp_moves.specs.Numbers.{modulus, window}
use Rattle.gate_rules.specs.Possible.{steps_are_possible}

young : (messages made : ℕ) → messages ≤ made → messages + 2 * window ≤ made + modulus
young messages made few = omega (arith, few)

pub possible : steps_are_possible
possible own other there = record {
  happens = record { tick = tt; submission = λ message. tt; each = λ what is. is };
  called = λ link b. record {
    settles = λ now. (b, tt);
    fills = λ now. (b, tt);
    ticks = λ now. (b, tt);
    closes = λ now. (b, tt);
    hears_nothing = λ now source. (b, tt);
    hears = λ now source one is few. (b, record { one = one; there = is; is = refl; young = young (there.ports b.there).messages one.made few });
  };
  elsewhere = λ link leads. record { opens = leads; leaves = leads };
}
