use Rattle.std.proofs.Common.{rules, ◌≡◌, length, ◌∙◌}
use Rattle.std.specs.Prelude.{◌==◌}
use Rattle.sccp_codec.specs.Extended.{parameters_in}
use Rattle.sccp_codec.proofs.OptionalTexts.{none-octets}
use Rattle.sccp_codec.proofs.optional.OptionalPart.is_empty.Goals as goal

pub returns : goal.returns
returns c =
    let octets = c.args.self.now.octets.now in
    let empty : c.is_empty.result ≡ (length octets == 0) = search rules in
    empty ∙ none-octets octets (parameters_in octets) c.args.self.now.whole.says
