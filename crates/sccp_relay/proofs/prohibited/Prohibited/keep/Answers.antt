use Rattle.std.proofs.Common.{rules}
use Rattle.std.proofs.lemmas.Fn.{filter_same}
use Rattle.sccp_relay.specs.SubsystemTests.{stays}
use Rattle.sccp_relay.specs.Values.{own_value}
use Rattle.sccp_relay.proofs.prohibited.Prohibited.keep.Goals as goal

pub returns : goal.returns
returns g c = rw (← c.self.view_is)
    (filter_same _ (stays (own_value g.W.Ways.leads c.args.own.now) c.args.translations.now) _ (λ x b f' k. search rules) _ _ c.retain.ensures.filtered)
