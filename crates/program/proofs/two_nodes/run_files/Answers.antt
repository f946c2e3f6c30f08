use Rattle.std.proofs.Common.{◌∙◌, inl, inr, refl}
use Rattle.program.proofs.Labs.{output-kept, ends-kept}
use Rattle.program.proofs.two_nodes.run_files.Goals as goal

pub returns : goal.returns
returns g c =
    let near = c.in-Ok.ensures.settings in
    let far = c.in-Ok-settings_of.ensures.settings in (
      near.0,
      near.1,
      inl (
        c.in-Ok.settings,
        g.E.Sink.output c.settings_of.new.errors,
        near.2,
        (
          far.0,
          far.1,
          inl (
            c.in-Ok-settings_of.settings,
            g.E.Sink.output c.settings_of-2.new.errors,
            far.2,
            output-kept _ _ _ _ _ _ _ _ _ _ (far.3 ∙ near.3) c.run_if_facing.ensures,
          ),
        ),
      ),
    )

pub returns-in-Err-settings_of : goal.returns-in-Err-settings_of
returns-in-Err-settings_of g c =
    let near = c.in-Ok.ensures.settings in
    let far = c.in-Err-settings_of.ensures.ended in (
      near.0,
      near.1,
      inl (
        c.in-Ok.settings,
        g.E.Sink.output c.settings_of.new.errors,
        near.2,
        (far.0, far.1, inr (ends-kept _ _ _ _ _ _ _ _ near.3 far.2, refl)),
      ),
    )
