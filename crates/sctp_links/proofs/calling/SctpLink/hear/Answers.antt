use Rattle.sctp_links.proofs.Heard.{link-heard, exchange-heard, counters-heard}
use Rattle.served_link.specs.Times.{millis_of}
use Rattle.sctp_links.proofs.calling.SctpLink.hear.Goals as goal

pub returns-in-Heard-clause-link : goal.returns-in-Heard-clause-link
returns-in-Heard-clause-link g c =
    link-heard (millis_of c.args.log.now.now) c.args.octets.now c.args.source c.address_of.result c.args.self.now
    c.screen.new.self c.args.node.now.exchange c.address_of.ensures
    (rw (← c.millis.ensures) c.in-Heard.ensures.link) (rw (← c.millis.ensures) c.in-Heard.ensures.screened)
    c.pass.new.self (rw (c.note.ensures.time, c.note.ensures.exchange, c.note.ensures.link) at c.pass.ensures.gate)

pub returns-in-Heard-clause-exchange : goal.returns-in-Heard-clause-exchange
returns-in-Heard-clause-exchange g c =
    exchange-heard (millis_of c.args.log.now.now) c.args.octets.now c.args.source c.address_of.result c.args.self.now
    c.screen.new.self c.args.node.now.exchange c.address_of.ensures
    (rw (← c.millis.ensures) c.in-Heard.ensures.link) (rw (← c.millis.ensures) c.in-Heard.ensures.screened)
    c.pass.new.node.exchange (rw (c.note.ensures.time, c.note.ensures.exchange, c.note.ensures.link) at c.pass.ensures.exchange)

pub returns-in-Heard-clause-counters : goal.returns-in-Heard-clause-counters
returns-in-Heard-clause-counters g c =
    counters-heard (millis_of c.args.log.now.now) c.args.octets.now c.args.source c.address_of.result c.args.self.now
    c.screen.new.self c.args.node.now.exchange c.address_of.ensures
    (rw (← c.millis.ensures) c.in-Heard.ensures.link) (rw (← c.millis.ensures) c.in-Heard.ensures.screened)
    c.refusal.result c.args.node.now.observers.counters c.note.new.node.observers.counters
    c.pass.new.node.observers.counters c.refusal.ensures c.note.ensures.counters
    (rw (c.note.ensures.time, c.note.ensures.exchange, c.note.ensures.link) at c.pass.ensures.counters)
