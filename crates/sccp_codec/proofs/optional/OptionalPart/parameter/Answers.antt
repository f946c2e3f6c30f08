use Rattle.std.proofs.Common.{rules, ◌≡◌, ◌≢◌, true, false, Some, slice_index, sym, ap, subst, ◌∙◌}
use Rattle.sccp_codec.specs.Extended.{is_there, first_parameter, after_first}
use Rattle.sccp_codec.specs.ExtendedValues.{parameters_of}
use Rattle.sccp_codec.proofs.NamedTexts.{Left, found-in, next-in, none-in}
use Rattle.sccp_codec.proofs.optional.OptionalPart.parameter.Goals as goal

pub returns-then-this-name : goal.returns-then-this-name
returns-then-this-name c =
    let rest = c.each_parameter.rest.now in
    let there : is_there rest ≡ true = search rules in
    let this : slice_index rest 0 ≡ c.args.name = search rules in
    let own : c.in-Some.own.now ≡ (first_parameter rest).octets = search rules in
    found-in (parameters_of c.args.self.now) c.args.name rest c.each_parameter.invariant there this ∙ ap Some (sym own)

pub each_parameter-preserved : goal.each_parameter-preserved
each_parameter-preserved c =
    let rest = c.each_parameter.rest.now in
    let there : is_there rest ≡ true = search rules in
    let other : slice_index rest 0 ≢ c.args.name = search rules in
    let after : c.in-Some.after.now ≡ after_first rest = search rules in
    subst (Left (parameters_of c.args.self.now) c.args.name) (sym after)
    (next-in (parameters_of c.args.self.now) c.args.name rest c.each_parameter.invariant there other)

pub returns : goal.returns
returns c =
    let rest = c.each_parameter.rest.now in
    let out : is_there rest ≡ false = search rules in
    none-in (parameters_of c.args.self.now) c.args.name rest c.each_parameter.invariant out
