use Rattle.std.proofs.Common.{◌≡◌, ◌∙◌, ◌≤◌, ◌+◌, ◌-◌, arith, length, take, min}
use Rattle.served_link.specs.declared.line_form.TheConstants.{FORMED_OCTETS}
use Rattle.served_link.proofs.LineTexts.{fitting, taken}
use Rattle.served_link.proofs.line_form.append.Goals as goal

pub returns : goal.returns
returns c =
    let old = c.args.line.now.items in
    let octets = c.args.octets.now in
    let within : length old ≤ FORMED_OCTETS = omega (arith, c.remaining_capacity.ensures) in
    let room : c.remaining_capacity.result ≡ FORMED_OCTETS - length old = omega (arith, c.remaining_capacity.ensures) in
    let front = c.split_at.result.0.now in
    let fits : front ≡ take (min (FORMED_OCTETS - length old) (length octets)) octets =
    rw (← room, ← c.min.ensures) c.split_at.ensures.front in
    let short : length old + length front ≤ FORMED_OCTETS = omega (arith, c.remaining_capacity.ensures, c.min.ensures, c.split_at.ensures.front_len) in
    taken c.try_extend_from_slice-appended.result (c.try_extend_from_slice-appended.ensures.variant.1 short) c.try_extend_from_slice-appended.ensures.ok
    ∙ fitting FORMED_OCTETS old octets front within fits
