use Rattle.std.proofs.Common.{rules}
use Rattle.std.proofs.lemmas.Fn.{filter_same}
use Rattle.std.specs.Prelude.{not}
use Rattle.sccp_relay.specs.Statuses.{is_same}
use Rattle.sccp_relay.proofs.prohibited.Prohibited.remove.Goals as goal

pub returns : goal.returns
returns c = rw (← c.self.view_is)
    (filter_same _ (λ other. not (is_same c.args.subsystem.now other.subsystem)) _ (λ x b f' k. search rules) _ _ c.retain.ensures.filtered)
