use Rattle.settings.proofs.Basics.{◌∙◌, sym, true≢false}
use Rattle.settings.proofs.Codes.{same-codes, codes-both}
use Rattle.settings.proofs.sharing.have_same_codes.Goals as goal

pub returns-then-has_codes_of : goal.returns-then-has_codes_of
returns-then-has_codes_of c =
    let near = c.args.near.now in
    let far = c.args.far.now in (
      (λ e. same-codes near far c.args.near_set c.args.far_set (sym c.has_codes_of.ensures ∙ c.if-has_codes_of.true) (sym c.has_codes_of-then-has_codes_of.ensures ∙ e)),
      (λ h. c.has_codes_of-then-has_codes_of.ensures ∙ codes-both far near c.args.far_set c.args.near_set (λ slc. sym (h slc))),
    )

pub returns-else-has_codes_of : goal.returns-else-has_codes_of
returns-else-has_codes_of c =
    let near = c.args.near.now in
    let far = c.args.far.now in (
      (λ e. absurd (true≢false (sym e ∙ c.if-has_codes_of.false))),
      (λ h. c.has_codes_of.ensures ∙ codes-both near far c.args.near_set c.args.far_set h),
    )
