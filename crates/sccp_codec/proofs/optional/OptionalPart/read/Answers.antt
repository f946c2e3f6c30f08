use Rattle.std.proofs.Common.{rules, ◌≡◌, Some, sym}
use Rattle.std.proofs.lemmas.List.{length-take-le}
use Rattle.sccp_codec.specs.Extended.{read_parameters}
use Rattle.sccp_codec.specs.Optional.{extent}
use Rattle.sccp_codec.proofs.OptionalTexts.{found}
use Rattle.sccp_codec.proofs.optional.OptionalPart.read.Goals as goal

pub slice_bounds-result-end : goal.slice_bounds-result-end
slice_bounds-result-end c =
    let end : extent 0 (read_parameters c.args.octets.now) ≡ Some c.in_ok-end.end = search rules in
    sym (length-take-le c.in_ok-end.end c.args.octets.now (found c.args.octets.now c.in_ok-end.end end).2)

pub invariant_of-result : goal.invariant_of-result
invariant_of-result c =
    let end : extent 0 (read_parameters c.args.octets.now) ≡ Some c.in_ok-end.end = search rules in
    record { whole = (found c.args.octets.now c.in_ok-end.end end).0 }

pub returns : goal.returns
returns c =
    let end : extent 0 (read_parameters c.args.octets.now) ≡ Some c.in_ok-end.end = search rules in
    (found c.args.octets.now c.in_ok-end.end end).1
