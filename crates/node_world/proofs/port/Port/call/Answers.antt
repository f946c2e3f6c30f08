use Rattle.std.proofs.Common.{ap, ◌∙◌}
use Rattle.exchange.specs.Calls.{Kept}
use Rattle.exchange.specs.KeptQueues.{kept}
use Rattle.gate_rules.proofs.SettingsStay.{called-stays}
use Rattle.node_world.specs.declared.call.Call.TheVariants.{Hear, Tick, Settle, Fill, Close}
use Rattle.node_world.specs.Calls.{told}
use Rattle.node_world.proofs.Logs.{calls-as}
use Rattle.node_world.proofs.port.Port.call.Goals as goal

pub returns-in-Hear-clause-calls : goal.returns-in-Hear-clause-calls
returns-in-Hear-clause-calls c =
    calls-as c.args.call (Hear c.in-Hear.field-0 c.in-Hear.source) c.args.octets.now c.args.now (record { gate = c.self.inside.gate; log = c.self.inside.log }) c.args.self.now c.hear.new.self c.hear.new.watch
    c.args.exchange.now c.hear.new.exchange c.in-Hear.is c.self.view_is c.hear.ensures.whole

pub returns-in-Tick-clause-calls : goal.returns-in-Tick-clause-calls
returns-in-Tick-clause-calls c =
    calls-as c.args.call Tick c.args.octets.now c.args.now (record { gate = c.self.inside.gate; log = c.self.inside.log }) c.args.self.now c.tick.new.self c.tick.new.watch
    c.args.exchange.now c.tick.new.exchange c.in-Tick.is c.self.view_is c.tick.ensures.whole

pub returns-in-Settle-clause-calls : goal.returns-in-Settle-clause-calls
returns-in-Settle-clause-calls c =
    calls-as c.args.call Settle c.args.octets.now c.args.now (record { gate = c.self.inside.gate; log = c.self.inside.log }) c.args.self.now c.settle.new.self c.settle.new.watch
    c.args.exchange.now c.settle.new.exchange c.in-Settle.is c.self.view_is c.settle.ensures.whole

pub returns-in-Fill-clause-calls : goal.returns-in-Fill-clause-calls
returns-in-Fill-clause-calls c =
    calls-as c.args.call Fill c.args.octets.now c.args.now (record { gate = c.self.inside.gate; log = c.self.inside.log }) c.args.self.now c.fill.new.self c.fill.new.watch
    c.args.exchange.now c.fill.new.exchange c.in-Fill.is c.self.view_is c.fill.ensures.whole

pub returns-in-Close-clause-calls : goal.returns-in-Close-clause-calls
returns-in-Close-clause-calls c =
    calls-as c.args.call Close c.args.octets.now c.args.now (record { gate = c.self.inside.gate; log = c.self.inside.log }) c.args.self.now c.close.new.self c.close.new.watch
    c.args.exchange.now c.close.new.exchange c.in-Close.is c.self.view_is c.close.ensures.whole

pub returns-in-Hear-clause-settings : goal.returns-in-Hear-clause-settings
returns-in-Hear-clause-settings c =
    ap (λ (x : Kept). x.settings) c.hear.ensures.kept.exchange_is ∙ called-stays kept (told (Hear c.in-Hear.field-0 c.in-Hear.source) c.args.octets.now c.args.now) c.self.inside.gate c.args.exchange.now

pub returns-in-Tick-clause-settings : goal.returns-in-Tick-clause-settings
returns-in-Tick-clause-settings c =
    ap (λ (x : Kept). x.settings) c.tick.ensures.kept.exchange_is ∙ called-stays kept (told Tick c.args.octets.now c.args.now) c.self.inside.gate c.args.exchange.now

pub returns-in-Settle-clause-settings : goal.returns-in-Settle-clause-settings
returns-in-Settle-clause-settings c =
    ap (λ (x : Kept). x.settings) c.settle.ensures.kept.exchange_is ∙ called-stays kept (told Settle c.args.octets.now c.args.now) c.self.inside.gate c.args.exchange.now

pub returns-in-Fill-clause-settings : goal.returns-in-Fill-clause-settings
returns-in-Fill-clause-settings c =
    ap (λ (x : Kept). x.settings) c.fill.ensures.kept.exchange_is ∙ called-stays kept (told Fill c.args.octets.now c.args.now) c.self.inside.gate c.args.exchange.now

pub returns-in-Close-clause-settings : goal.returns-in-Close-clause-settings
returns-in-Close-clause-settings c =
    ap (λ (x : Kept). x.settings) c.close.ensures.kept.exchange_is ∙ called-stays kept (told Close c.args.octets.now c.args.now) c.self.inside.gate c.args.exchange.now
