use Rattle.std.proofs.Common.{◌≡◌, length, ap, subst, sym, List, arith, ◌∙◌}
use Rattle.sctp_codec.specs.Packets.{ChunkValue}
use Rattle.sctp_sending.specs.Sending.{Sending}
use Rattle.sctp_bundling.specs.Bundling.{Adds}
use Rattle.sctp_bundling.proofs.Bundling.{adds-none}
use Rattle.sctp_endpoint.proofs.Going.{gone-long, next-said}
use Rattle.sctp_endpoint.proofs.endpoint.Endpoint.bundle_next.Goals as goal

pub bundle_message-requires : goal.bundle_message-requires
bundle_message-requires g c =
    let long : length c.put_out.new.self.out ≡ length c.self.inside.sender.out = ap (λ (s : Sending). length s.out) c.in-Some.ensures.sending ∙ gone-long c.self.inside.sender c.in-Some.place c.args.now in
    omega (arith, long, c.in-Some.ensures.within)

pub returns-in-Some-clause-bundled : goal.returns-in-Some-clause-bundled
returns-in-Some-clause-bundled g c =
    let said = next-said c.self.inside.sender c.in-Some.place c.put_out.new.self c.args.now (sym c.in-Some.ensures.place) c.in-Some.ensures.sending c.in-Some.ensures.within c.in-Some.ensures.next in
    rw (← c.self.view_is) (subst (λ (xs : List ChunkValue). Adds g.W.Watch.has c.args.watch.now c.bundle_message.new.watch c.args.draft.now c.bundle_message.new.draft xs) (sym said) c.bundle_message.ensures)

pub returns-in-None-clause-bundled : goal.returns-in-None-clause-bundled
returns-in-None-clause-bundled g c =
    rw (← c.self.view_is, ← c.in-None.ensures.place) (adds-none g.W.Watch.has c.args.watch.now c.args.draft.now)
