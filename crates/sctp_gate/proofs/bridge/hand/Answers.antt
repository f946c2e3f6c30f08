use Rattle.std.proofs.Common.{◌∙◌, [], ap, sym, subst}
use Rattle.sctp_gate.specs.Making.{Beginning, HasHanded}
use Rattle.sctp_gate.proofs.Making.{handed-none}
use Rattle.sctp_gate.proofs.bridge.hand.Goals as goal

pub returns : goal.returns
returns g c =
    let h = c.perform.ensures.gives.more [] [] (
      c.requires.exchange_name,
      c.requires.watch_name,
      λ b from. subst (λ (n : Beginning). HasHanded g.W.Watch.has g.K.Origin.had b [] [] n c.args.bridge.now.watch.now) (c.requires.is_from b from) (handed-none g.W.Watch.has g.K.Origin.had b c.args.bridge.now.watch.now c.requires.had),
    ) in
    let all = h.2 _ c.requires.began in
    record {
      same_exchange = h.0 ∙ sym c.requires.exchange_name;
      same_watch = h.1 ∙ sym c.requires.watch_name;
      endpoint = c.perform.ensures.left_is;
      standing = ap (λ (n : Beginning). n.standing) all.now_is;
      exchange = ap (λ (n : Beginning). n.exchange) all.now_is;
      seen = record { more = λ had saw k. all.seen had saw (c.requires.has had saw k) };
    }
