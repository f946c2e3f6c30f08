-- A parameter of this name has four octets.
use Rattle.std.proofs.Common.{◌≡◌, length, Some, sym, ◌∙◌, arith}
use Rattle.std.proofs.lemmas.Bool.{eqb-true}
use Rattle.sccp_codec.specs.Extended.{first_named}
use Rattle.sccp_codec.specs.ExtendedValues.{parameters_of}
use Rattle.sccp_relay.proofs.KeptParameters.{none-named, named-length, gives-some}
use Rattle.sccp_relay.proofs.returning.segmentation.Goals as goal

pub returns-then-is_empty : goal.returns-then-is_empty
returns-then-is_empty c = sym (none-named 16 c.octets.result.now (parameters_of c.args.optional.now) c.octets.ensures.octets (eqb-true (length c.octets.result.now) 0 (sym c.is_empty.ensures ∙ c.if-is_empty.true)))

pub returns-in_default : goal.returns-in_default
returns-in_default c =
    let found : first_named 16 (parameters_of c.args.optional.now) ≡ Some c.in_ok-parameter.field-0.now = gives-some _ c.parameter.result _ _ c.parameter.ensures c.in_ok-parameter.was in
    let four : length c.in_ok-parameter.field-0.now ≡ 4 = eqb-true _ 4 (named-length 16 _ (parameters_of c.args.optional.now) c.octets.ensures.legal found) in
    absurd (omega (arith, four, c.in_default.len_below))

pub returns-in_default-2 : goal.returns-in_default-2
returns-in_default-2 c =
    let found : first_named 16 (parameters_of c.args.optional.now) ≡ Some c.in_ok-parameter.field-0.now = gives-some _ c.parameter.result _ _ c.parameter.ensures c.in_ok-parameter.was in
    let four : length c.in_ok-parameter.field-0.now ≡ 4 = eqb-true _ 4 (named-length 16 _ (parameters_of c.args.optional.now) c.octets.ensures.legal found) in
    absurd (omega (arith, four, c.in_default.len_at_least))
