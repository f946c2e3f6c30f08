use Rattle.std.proofs.Common.{sym, ap, take, ◌∙◌}
use Rattle.m2pa_codec.specs.Streams.{next_in}
use Rattle.m2pa_codec.proofs.StreamTexts.{gives_first}
use Rattle.m2pa_codec.proofs.framer.Framer.next.Goals as goal

pub returns-in-Whole-clause-first : goal.returns-in-Whole-clause-first
returns-in-Whole-clause-first c =
    let octets = c.as_slice-held.ensures.octets in
    let e = ap next_in (sym octets) ∙ sym c.front-next.ensures ∙ c.in-Whole.is in
    gives_first _ _ _ _ _ c.in-Whole.count c.self.view_is e (c.copy_from_slice.ensures.after ∙ ap (take c.in-Whole.count) octets) c.consume.ensures
