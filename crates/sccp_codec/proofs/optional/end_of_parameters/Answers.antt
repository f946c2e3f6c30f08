use Rattle.std.proofs.Common.{rules, ◌≡◌, ◌≢◌, ℕ, true, false, ◌+◌, ◌<◌, ◌≤◌, length, drop, slice_index, sym, ap, ◌∙◌}
use Rattle.sccp_codec.specs.Extended.{read_parameters}
use Rattle.sccp_codec.specs.Optional.{extent}
use Rattle.sccp_codec.proofs.OptionalTexts.{begins-rest, step, ends, breaks, goes-out}
use Rattle.sccp_codec.proofs.optional.end_of_parameters.Goals as goal

pub returns-then-octets-at-eq-END : goal.returns-then-octets-at-eq-END
returns-then-octets-at-eq-END c =
    let octets = c.args.octets.now in
    let some : c.each_parameter.at < length octets = search rules in
    let end : slice_index octets c.each_parameter.at ≡ 0 = search rules in
    sym (ends octets c.each_parameter.at some end) ∙ c.each_parameter.invariant

pub returns-then-not-begins_whole : goal.returns-then-not-begins_whole
returns-then-not-begins_whole c =
    let octets = c.args.octets.now in
    let some : c.each_parameter.at < length octets = search rules in
    let other : slice_index octets c.each_parameter.at ≢ 0 = search rules in
    let answer : c.begins_whole.result ≡ false = search rules in
    let broken = sym (begins-rest octets c.each_parameter.at) ∙ sym c.begins_whole.ensures ∙ answer in
    sym (breaks octets c.each_parameter.at some other broken) ∙ c.each_parameter.invariant

pub each_parameter-preserved : goal.each_parameter-preserved
each_parameter-preserved c =
    let octets = c.args.octets.now in
    let at = c.each_parameter.at in
    let some : at < length octets = search rules in
    let other : slice_index octets at ≢ 0 = search rules in
    let answer : c.begins_whole.result ≡ true = search rules in
    let whole = sym (begins-rest octets at) ∙ sym c.begins_whole.ensures ∙ answer in
    let from : c.from.result ≡ slice_index octets (at + 1) = search rules in
    ap (λ (n : ℕ). extent (at + (2 + n)) (read_parameters (drop (at + (2 + n)) octets))) from
    ∙ step octets at some other whole ∙ c.each_parameter.invariant

pub returns : goal.returns
returns c =
    let octets = c.args.octets.now in
    let past : length octets ≤ c.each_parameter.at = search rules in
    sym (goes-out octets c.each_parameter.at past) ∙ c.each_parameter.invariant
