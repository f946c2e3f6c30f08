use Rattle.std.proofs.Common.{◌∙◌, ℕ, List, ◌++◌, sym, ap, arith}
use Rattle.std.proofs.lemmas.Grind.{common_steps}
use Rattle.m2pa_codec.proofs.StreamTexts.{next_in-whole}
use Rattle.lab.proofs.Bringing.{holds-more, gives-text}
use Rattle.lab.proofs.carrying.next_text.Goals as goal

pub returns-in-Whole-clause-found : goal.returns-in-Whole-clause-found
returns-in-Whole-clause-found g c =
    let whole = sym c.in-Whole.ensures.answer in
    let first = c.in-Whole.ensures.first in (
      (next_in-whole c.loop.framer _ whole).limit,
      gives-text _ _ _ c.loop.framer _ _ _ c.loop.invariant.held c.loop.invariant.failures whole c.in-Whole.ensures.held first.0 first.1,
    )

pub returns-in-Whole-next-clause-found : goal.returns-in-Whole-next-clause-found
returns-in-Whole-next-clause-found g c =
    let whole = sym c.in-Whole-next.ensures.answer in
    let first = c.in-Whole-next.ensures.first in (
      (next_in-whole c.loop.framer _ whole).limit,
      gives-text _ _ _ c.loop.framer _ _ _ c.loop.invariant.held c.loop.invariant.failures whole c.in-Whole-next.ensures.held first.0 first.1,
    )

pub loop-preserved : goal.loop-preserved
loop-preserved g c =
    let made = c.read_octet.ensures.made in
    let octet = c.if-not-read_octet.ensures.held in
    record {
      most = omega (arith, made, c.loop.invariant.most);
      least = omega (arith, made, c.loop.invariant.least);
      many = grind (arith, common_steps, c.loop.invariant.many);
      failures = octet.4 ∙ c.loop.invariant.failures;
      held = holds-more _ _ _ _ c.loop.framer _ octet.0 c.loop.invariant.held (sym c.in-Wait.ensures.answer) octet.1 octet.2
          (octet.3 ∙ ap (λ (xs : List ℕ). xs ++ octet.0) c.in-Wait.ensures.held);
    }
