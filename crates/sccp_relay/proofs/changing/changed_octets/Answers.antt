use Rattle.std.proofs.Common.{List, ℕ, Ok, ap, sym, ◌∙◌, length, arith}
use Rattle.sccp_codec.specs.Titles.{digits_in}
use Rattle.sccp_relay.specs.Changing as rule
use Rattle.sccp_relay.proofs.ChangedDigits.{digits-count, too-long, fits-title}
use Rattle.sccp_relay.proofs.changing.changed_octets.Goals as goal

pub returns-then-kept-gt-MOST_DIGITS : goal.returns-then-kept-gt-MOST_DIGITS
returns-then-kept-gt-MOST_DIGITS c =
    let came : List ℕ = digits_in c.args.title.now.scheme c.args.title.now.digit_octets.now in
    too-long _ (rule.changed_digits c.args.change.now came)
    (omega (arith, digits-count c.args.change.now came, c.if-kept-gt-MOST_DIGITS.true, c.saturating_sub-kept.ensures, c.count.ensures, c.removed.ensures.value))

pub returns-then-count-gt-MOST_DIGITS : goal.returns-then-count-gt-MOST_DIGITS
returns-then-count-gt-MOST_DIGITS c =
    let came : List ℕ = digits_in c.args.title.now.scheme c.args.title.now.digit_octets.now in
    too-long _ (rule.changed_digits c.args.change.now came)
    (omega (arith, digits-count c.args.change.now came, c.if-count-gt-MOST_DIGITS.true, ap length c.added.ensures.digits, c.saturating_sub-kept.ensures, c.count.ensures, c.removed.ensures.value))

pub returns : goal.returns
returns c =
    let came : List ℕ = digits_in c.args.title.now.scheme c.args.title.now.digit_octets.now in
    let digits : List ℕ = rule.changed_digits c.args.change.now came in
    fits-title _ digits
    (λ none. c.if-count-eq0.false (omega (arith, none, digits-count c.args.change.now came, ap length c.added.ensures.digits, c.saturating_sub-kept.ensures, c.count.ensures, c.removed.ensures.value)))
    (omega (arith, digits-count c.args.change.now came, c.if-count-gt-MOST_DIGITS.false, ap length c.added.ensures.digits, c.saturating_sub-kept.ensures, c.count.ensures, c.removed.ensures.value))
    ∙ ap Ok (sym c.written.ensures)
