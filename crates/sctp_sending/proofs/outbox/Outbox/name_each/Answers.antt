use Rattle.std.proofs.Common.{◌≡◌, ◌+◌, Bool, cond, not, ◌&&◌, length, sym, ap, ◌∙◌, arith}
use Rattle.sctp_sending.specs.Outbox.{Outbox, changed}
use Rattle.sctp_sending.specs.Outgoing.{named_or_not, octets_of, outgoing_at}
use Rattle.sctp_sending.specs.Sending.{Naming, is_named}
use Rattle.sctp_sending.specs.Gaps.{marked}
use Rattle.sctp_sending.proofs.Naming.{named_below-none, named-more, octets-more, reach-more, place_or_before, length-named}
use Rattle.sctp_sending.proofs.outbox.Outbox.name_each.Goals as goal

pub loop-place-init : goal.loop-place-init
loop-place-init c =
    let first = named_below-none (marked c.args.marks.now) c.args.self.now.out in
    record {
      octets = ap (λ (n : Naming). n.octets) (sym first);
      reach = ap (λ (n : Naming). n.reach) (sym first);
      outbox = ap (λ (n : Naming). record { out = n.out; went = c.args.self.now.went }) (sym first);
      most = omega arith;
      within = omega arith;
    }

pub loop-place-preserved : goal.loop-place-preserved
loop-place-preserved c =
    let names = marked c.args.marks.now in
    let b = c.loop-place.self in
    let old = c.args.self.now in
    let place = c.loop-place.place in
    let is = c.is_named.ensures in
    let o = outgoing_at b.out place in
    let octets : c.name_one-named.result.octets ≡ cond (is_named names place && not o.named) (c.loop-place.named.octets + octets_of o) c.loop-place.named.octets
    = c.name_one-named.ensures.octets ∙ ap (λ (x : Bool). cond (x && not o.named) (c.loop-place.named.octets + octets_of o) c.loop-place.named.octets) is in
    let reach : c.name_one-named.result.reach ≡ cond (is_named names place && not o.named) place c.loop-place.named.reach
    = c.name_one-named.ensures.reach ∙ ap (λ (x : Bool). cond (x && not o.named) place c.loop-place.named.reach) is in
    record {
      octets = octets-more names b old place c.loop-place.named.octets c.name_one-named.result.octets c.loop-place.invariant.outbox c.loop-place.invariant.octets octets;
      reach = reach-more names b old place c.loop-place.named.reach c.name_one-named.result.reach c.loop-place.invariant.outbox c.loop-place.invariant.reach reach;
      outbox = c.name_one-named.ensures.outbox ∙ ap (λ (x : Bool). changed b place (named_or_not x)) is ∙ named-more names b old place c.loop-place.invariant.outbox;
      most = omega (arith, c.loop-place.invariant.most, c.name_one-named.ensures.most);
      within = rw reach (place_or_before (is_named names place && not o.named) place c.loop-place.named.reach c.loop-place.invariant.within);
    }

pub returns-clause-count : goal.returns-clause-count
returns-clause-count c =
    ap (λ (b : Outbox). length b.out) c.loop-place.invariant.outbox ∙ length-named (marked c.args.marks.now) c.args.self.now.out c.loop-place.place
