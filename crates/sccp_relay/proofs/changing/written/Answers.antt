use Rattle.std.proofs.Common.{◌≤◌, List, ℕ, length, refl, ◌∙◌, arith}
use Rattle.std.proofs.lemmas.List.{take_all}
use Rattle.sccp_codec.specs.Titles.{digits_in, packed}
use Rattle.sccp_relay.specs.Changing as rule
use Rattle.sccp_relay.proofs.ChangedDigits.{half-count, packed-more}
use Rattle.sccp_relay.proofs.changing.written.Goals as goal

pub loop-index-preserved : goal.loop-index-preserved
loop-index-preserved c =
    let digits : List ℕ = rule.changed_digits c.args.change.now (digits_in c.args.title.now.scheme c.args.title.now.digit_octets.now) in
    record {
      octets = c.push-in-loop-index.ensures.items
          ∙ packed-more digits c.push-3.new.self.items c.loop-index.octets.items c.loop-index.index _
          (omega (arith, c.loop-index-test.true, c.div_ceil-index-end.ensures, half-count digits c.args.count c.requires.count)) c.loop-index.invariant.octets
          (rw (c.digit.ensures.value, c.digit-in-loop-index.ensures.value) refl);
      count = omega (arith, c.push-in-loop-index.ensures.len, c.loop-index.invariant.count);
    }

pub returns : goal.returns
returns c =
    let digits : List ℕ = rule.changed_digits c.args.change.now (digits_in c.args.title.now.scheme c.args.title.now.digit_octets.now) in
    let most : length (packed digits) ≤ c.loop-index.index =
    omega (arith, c.loop-index-test.false, c.div_ceil-index-end.ensures, half-count digits c.args.count c.requires.count) in
    rw (
      c.loop-index.invariant.octets,
      take_all c.loop-index.index (packed digits) most,
      c.push-3.ensures.items,
      c.push-2.ensures.items,
      c.push.ensures.items,
      c.new-octets.ensures,
      c.unwrap_or-plan.ensures,
      c.plan.ensures.value,
      c.scheme_number.ensures.value,
      c.requires.count,
      c.unwrap_or.ensures,
      c.nature.ensures.value,
    ) refl
