use Rattle.std.proofs.Common.{◌∙◌, ap, arith}
use Rattle.std.proofs.lemmas.Option.{unwrap_or-slice_get}
use Rattle.std.specs.Prelude.{unwrap_or, Option, ℕ}
use Rattle.sccp_codec.specs.Titles.{digits_in}
use Rattle.sccp_relay.proofs.ChangedDigits.{digit-past}
use Rattle.sccp_relay.proofs.changing.digit.Goals as goal

pub returns-clause-value : goal.returns-clause-value
returns-clause-value c =
    let digits = digits_in c.args.title.now.scheme c.args.title.now.digit_octets.now in
    c.unwrap_or.ensures ∙ ap (λ (o : Option ℕ). unwrap_or o 0) c.digit.ensures.value ∙ unwrap_or-slice_get digits _ 0
    ∙ digit-past c.args.change.now.added digits c.added-added.result.now c.args.change.now.removed c.removed.result c.args.index c.added-added.ensures.digits c.removed.ensures.value (omega (arith, c.if-index-added.false))
