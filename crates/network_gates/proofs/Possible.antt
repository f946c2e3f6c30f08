-- What may be done at a node of a network.
use Rattle.std.proofs.Common.{◌≡◌, ◌≤◌, ◌+◌, ◌*◌, ℕ, refl, arith}
use Rattle.sctp_moves.specs.Numbers.{modulus, window}
use Rattle.network_gates.specs.Possible.{port_there, steps_are_possible}

young : (messages made : ℕ) → messages ≤ made → messages + 2 * window ≤ made + modulus
young messages made few = omega (arith, few)

pub possible : steps_are_possible
possible w point = record {
  tick = tt;
  submission = λ message. tt;
  each = λ what is. is;
  called = λ link e. record {
    settles = λ now. (e, tt);
    fills = λ now. (e, tt);
    ticks = λ now. (e, tt);
    closes = λ now. (e, tt);
    hears_nothing = λ now source. (e, tt);
    hears = λ now source one is few. (e, record { one = one; there = is; is = refl; young = young (port_there w point link e).messages one.made few });
  };
}
