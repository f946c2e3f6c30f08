-- How late a packet may come.
use Rattle.std.proofs.Common.{◌<◌, ◌≤◌, ◌+◌, ◌*◌, ◌^◌, ℕ, refl, arith}
use Rattle.sctp_moves.specs.Numbers.{modulus, window}
use Rattle.gate_rules.specs.Late.{packets_may_come_late}

young : (messages made : ℕ) → messages + 512 < made + 2 ^ 32 → messages + 2 * window ≤ made + modulus
young messages made few = omega (arith, few)

pub late : packets_may_come_late
late own other there link now source one b is few =
    (b, record { one = one; there = is; is = refl; young = young (there.ports b.there).messages one.made few })
