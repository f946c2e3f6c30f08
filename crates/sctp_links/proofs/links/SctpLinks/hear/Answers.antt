use Rattle.std.proofs.Common.{◌≡◌, ◌∙◌, length, sym, true≢false}
use Rattle.std.proofs.lemmas.Bool.{lt-ltb}
use Rattle.std.proofs.lemmas.Option.{same_Some, slice_get_within}
use Rattle.served_link.specs.Times.{millis_of}
use Rattle.sctp_links.proofs.AmongLinks.{links-heard, exchange-among, left-among}
use Rattle.sctp_links.proofs.links.SctpLinks.hear.Goals.{in-Some-get_mut, in_default-get_mut}
use Rattle.sctp_links.proofs.links.SctpLinks.hear.Goals as goal

pub returns-clause-link : goal.returns-clause-link
returns-clause-link g c = λ place l here held.
    let same : c.in-Some.place ≡ place = same_Some _ _ ((rw (c.deref.ensures.value, c.address_of.ensures) at c.in-Some.ensures.place) ∙ (rw (← c.self.view_is) at here)) in
    elim c.match-get_mut.branch [
      | in-Some-get_mut w ↦
          rw (w.self-inside-is, w.node-is, w.datagrams-is, ← c.self.view_is) (
            links-heard (millis_of c.args.log.now.now) c.args.octets.now c.args.source c.self.inside.peers.items c.self.inside.links.items
                c.in-Some.place place w.in-Some-get_mut.link.now l w.hear.new.self c.args.node.now.exchange w.hear.new.node.exchange
                same (rw (← c.self.view_is) at held) w.in-Some-get_mut.ensures.item.3.1 w.hear.ensures.link,
            exchange-among (millis_of c.args.log.now.now) c.args.octets.now c.args.source c.self.inside.peers.items c.self.inside.links.items
                c.in-Some.place place w.in-Some-get_mut.link.now l w.hear.new.self c.args.node.now.exchange w.hear.new.node.exchange
                same (rw (← c.self.view_is) at held) w.in-Some-get_mut.ensures.item.3.1 w.hear.ensures.exchange,
            left-among (millis_of c.args.log.now.now) c.args.octets.now c.args.source c.self.inside.peers.items c.self.inside.links.items
                c.in-Some.place place w.in-Some-get_mut.link.now l w.hear.new.self c.args.node.now.exchange w.hear.new.node.exchange
                same (rw (← c.self.view_is) at held) w.in-Some-get_mut.ensures.item.3.1 _ _ w.hear.ensures.left_out,
          )
      | in_default-get_mut w ↦
          (let there = slice_get_within c.self.inside.links.items place l (rw (← c.self.view_is) at held) in
          absurd (true≢false (sym (lt-ltb c.in-Some.place (length c.self.inside.links.items) (rw same there)) ∙ sym w.in_default-get_mut.ensures.item.0)))
    ]
