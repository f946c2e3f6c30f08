use Rattle.std.proofs.Common.{◌∙◌, ap, ap₂}
use Rattle.std.proofs.lemmas.Result.{IfOk-weaker}
use Rattle.clap.specs.Words.{App, with_subcommand}
use Rattle.program.proofs.command_line.grammar.stp.Goals as goal

pub returns : goal.returns
returns c = IfOk-weaker c.subcommand-5.result _ _ (λ v added. added.shape c.in_ok-serve.ensures.local
    ∙ ap₂ with_subcommand (c.in_ok-subcommand-4.ensures.shape c.in_ok-lab_udp.ensures.local
    ∙ ap₂ with_subcommand (c.in_ok-subcommand-3.ensures.shape c.in_ok-lab.ensures.local
    ∙ ap₂ with_subcommand (c.in_ok-subcommand-2.ensures.shape c.in_ok-check.ensures.local
    ∙ ap₂ with_subcommand (c.in_ok-subcommand.ensures.shape c.in_ok-run.ensures.local ∙ ap₂ with_subcommand c.bare.ensures.app (ap (λ (a : App). a.top) c.in_ok-run.ensures.app))
    (ap (λ (a : App). a.top) c.in_ok-check.ensures.app))
    (ap (λ (a : App). a.top) c.in_ok-lab.ensures.app))
    (ap (λ (a : App). a.top) c.in_ok-lab_udp.ensures.app))
    (ap (λ (a : App). a.top) c.in_ok-serve.ensures.app)) c.subcommand-5.ensures
