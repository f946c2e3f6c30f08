use Rattle.std.proofs.Common.{List, length, sym, ap, subst, ◌∙◌, arith}
use Rattle.sctp_codec.specs.Packets.{ChunkValue}
use Rattle.sctp_codec.specs.Values.{chunk_value, chunks_of}
use Rattle.sctp_rules.specs.State.{State}
use Rattle.sctp_rules.specs.Packets.{heard_chunk, heard_chunks}
use Rattle.sctp_endpoint.specs.Endpoints.{Endpoint, secrets_of}
use Rattle.sctp_endpoint.proofs.Growing.{chunk-grows}
use Rattle.sctp_endpoint.proofs.Chained.{LeadsTo, leads-on, leads-out, leads-home}
use Rattle.sctp_endpoint.proofs.endpoint.Endpoint.hear_chunks.Goals as goal

pub returns-then-not-hear_chunk : goal.returns-then-not-hear_chunk
returns-then-not-hear_chunk g c =
    let e = c.each_chunk.self in
    let all = heard_chunks c.args.self.now.settings (secrets_of c.args.self.now) c.args.now c.args.tag (chunks_of c.args.chunks) c.args.self.now.state in
    let leads = subst (λ (l : List ChunkValue). LeadsTo g.W.Watch.has c.args.watch.now c.each_chunk.watch c.args.self.now e all (heard_chunks e.settings (secrets_of e) c.args.now c.args.tag l e.state)) c.in-Some.ensures.steps c.each_chunk.invariant.rest in
    leads-out g.W.Watch.has c.args.watch.now c.each_chunk.watch c.hear_chunk.new.watch c.args.self.now e c.hear_chunk.new.self all (heard_chunk e.settings (secrets_of e) c.args.now c.args.tag (chunk_value c.in-Some.chunk) e.state)
    (λ (left : State). heard_chunks e.settings (secrets_of e) c.args.now c.args.tag (chunks_of c.next.new.self) left) leads (sym c.hear_chunk.ensures.goes_on ∙ c.if-not-hear_chunk.true) c.hear_chunk.ensures.does

pub each_chunk-preserved : goal.each_chunk-preserved
each_chunk-preserved g c =
    let e = c.each_chunk.self in
    let chunk = chunk_value c.in-Some.chunk in
    let all = heard_chunks c.args.self.now.settings (secrets_of c.args.self.now) c.args.now c.args.tag (chunks_of c.args.chunks) c.args.self.now.state in
    let leads = subst (λ (l : List ChunkValue). LeadsTo g.W.Watch.has c.args.watch.now c.each_chunk.watch c.args.self.now e all (heard_chunks e.settings (secrets_of e) c.args.now c.args.tag l e.state)) c.in-Some.ensures.steps c.each_chunk.invariant.rest in
    let left = ap (λ (x : Endpoint). x.state.generation) c.hear_chunk.ensures.does.left_is in
    record {
      rest = leads-on g.W.Watch.has c.args.watch.now c.each_chunk.watch c.hear_chunk.new.watch c.args.self.now e c.hear_chunk.new.self all (heard_chunk e.settings (secrets_of e) c.args.now c.args.tag chunk e.state)
          (λ (x : Endpoint). heard_chunks x.settings (secrets_of x) c.args.now c.args.tag (chunks_of c.next.new.self) x.state) leads (sym c.hear_chunk.ensures.goes_on ∙ c.if-not-hear_chunk.false) c.hear_chunk.ensures.does;
      generation = omega (arith, chunk-grows e.settings (secrets_of e) c.args.now c.args.tag chunk e.state, left, ap length c.in-Some.ensures.steps, c.each_chunk.invariant.generation);
    }

pub returns : goal.returns
returns g c =
    let e = c.each_chunk.self in
    let all = heard_chunks c.args.self.now.settings (secrets_of c.args.self.now) c.args.now c.args.tag (chunks_of c.args.chunks) c.args.self.now.state in
    let leads = subst (λ (l : List ChunkValue). LeadsTo g.W.Watch.has c.args.watch.now c.each_chunk.watch c.args.self.now e all (heard_chunks e.settings (secrets_of e) c.args.now c.args.tag l e.state)) c.in-None.ensures.steps.0 c.each_chunk.invariant.rest in
    leads-home g.W.Watch.has c.args.watch.now c.each_chunk.watch c.args.self.now e all leads
