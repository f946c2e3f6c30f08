-- Both nodes are where they are looked for, each in its part.
use Rattle.std.proofs.Common.{rules, ◌≡◌, ◌<◌, ◌++◌, false, Some, drop, length, nat_eq, take, sym, subst}
use Rattle.std.specs.Prelude.{IfSome, slice_get, slice_set}
use Rattle.node_world.specs.Calls.{NodesCall, is_made_to, octets_heard, told}
use Rattle.node_world.specs.Kept.{KeptPlace, sent_there}
use Rattle.node_world.proofs.TwoNodes.{answer-back, called-back, called-front}
use Rattle.node_world.proofs.calling.call_to.Goals as goal

pub returns-then-near-far-2-clause-calls : goal.returns-then-near-far-2-clause-calls
returns-then-near-far-2-clause-calls c = λ made.
    let k = c.args.nodes.now in
    let there : KeptPlace = record { place = c.there.inside.place; link = c.there.inside.link } in
    let far_in : c.there.inside.place < length k = subst (λ (p : KeptPlace). p.place < length k) (sym c.there.view_is) c.requires.far in
    let less : c.args.near < c.there.inside.place = search rules in
    let front_is : c.split_at_mut-front.result.0.now ≡ take c.there.inside.place k = search rules in
    let back_is : c.split_at_mut-front.result.1.now ≡ drop c.there.inside.place k = search rules in
    subst (λ (p : KeptPlace). NodesCall c.args.near c.args.link (told c.args.call (octets_heard c.args.call (sent_there k (Some p))) c.args.now) k
    (slice_set c.split_at_mut-front.result.0.now c.args.near c.call_at.new.node ++ c.split_at_mut-front.result.1.now)) c.there.view_is
    (called-front k c.args.near c.args.link c.args.now there c.args.call c.split_at_mut-front.result.0.now c.split_at_mut-front.result.1.now
    c.index-front-near.result c.index-back-0.result c.call_at.new.node front_is back_is less c.requires.near far_in (c.call_at.ensures.calls made) c.call_at.ensures.settings)

pub returns-else-near-far-2-clause-answer : goal.returns-else-near-far-2-clause-answer
returns-else-near-far-2-clause-answer c =
    let k = c.args.nodes.now in
    let there : KeptPlace = record { place = c.there.inside.place; link = c.there.inside.link } in
    let far_in : c.there.inside.place < length k = subst (λ (p : KeptPlace). p.place < length k) (sym c.there.view_is) c.requires.far in
    let less : c.there.inside.place < c.args.near = search rules in
    let apart : nat_eq c.args.near c.there.inside.place ≡ false = search rules in
    let front_is : c.split_at_mut-front-else-near-far-2.result.0.now ≡ take c.args.near k = search rules in
    let back_is : c.split_at_mut-front-else-near-far-2.result.1.now ≡ drop c.args.near k = search rules in
    subst (λ (p : KeptPlace). IfSome (slice_get k c.args.near) (λ n. c.call_at-else-near-far-2.result ≡ is_made_to c.args.call c.args.near c.args.link k n (Some p))) c.there.view_is
    (answer-back k c.args.near c.args.link c.args.now there c.args.call c.split_at_mut-front-else-near-far-2.result.0.now c.split_at_mut-front-else-near-far-2.result.1.now
    c.index-back-0-else-near-far-2.result c.index-front-far.result c.call_at-else-near-far-2.new.node front_is back_is less c.requires.near far_in
    c.call_at-else-near-far-2.result apart c.call_at-else-near-far-2.ensures.answer)

pub returns-else-near-far-2-clause-calls : goal.returns-else-near-far-2-clause-calls
returns-else-near-far-2-clause-calls c = λ made.
    let k = c.args.nodes.now in
    let there : KeptPlace = record { place = c.there.inside.place; link = c.there.inside.link } in
    let far_in : c.there.inside.place < length k = subst (λ (p : KeptPlace). p.place < length k) (sym c.there.view_is) c.requires.far in
    let less : c.there.inside.place < c.args.near = search rules in
    let front_is : c.split_at_mut-front-else-near-far-2.result.0.now ≡ take c.args.near k = search rules in
    let back_is : c.split_at_mut-front-else-near-far-2.result.1.now ≡ drop c.args.near k = search rules in
    subst (λ (p : KeptPlace). NodesCall c.args.near c.args.link (told c.args.call (octets_heard c.args.call (sent_there k (Some p))) c.args.now) k
    (c.split_at_mut-front-else-near-far-2.result.0.now ++ slice_set c.split_at_mut-front-else-near-far-2.result.1.now 0 c.call_at-else-near-far-2.new.node)) c.there.view_is
    (called-back k c.args.near c.args.link c.args.now there c.args.call c.split_at_mut-front-else-near-far-2.result.0.now c.split_at_mut-front-else-near-far-2.result.1.now
    c.index-back-0-else-near-far-2.result c.index-front-far.result c.call_at-else-near-far-2.new.node front_is back_is less c.requires.near far_in
    (c.call_at-else-near-far-2.ensures.calls made) c.call_at-else-near-far-2.ensures.settings)
