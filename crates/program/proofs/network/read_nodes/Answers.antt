use Rattle.std.proofs.Common.{◌∙◌, refl, arith}
use Rattle.program.proofs.Networks.{is-file, reads-more, ends-at, ends-unkept}
use Rattle.program.proofs.network.read_nodes.Goals as goal

pub loop-place-init : goal.loop-place-init
loop-place-init g c = record { settings = rw c.requires refl; unwritten = refl }

pub returns-in_default-clause-ended : goal.returns-in_default-clause-ended
returns-in_default-clause-ended g c =
    let file = is-file c.args.files.now c.loop-place.place c.index-files-place.result c.as_str.result.now (omega (arith, c.loop-place-test.true))
    c.index-files-place.is c.as_str.ensures.value in
    ends-unkept c.args.files.now c.loop-place.place c.as_str.result.now (g.F.Folder.reads c.args.folder.now) c.loop-place.nodes.items c.in-Ok.node
    (g.W.Sink.output c.args.writer.now) (g.W.Sink.output c.node_of.new.writer) (g.W.Sink.output c.tell_no_memory.new.writer) (g.E.Sink.output c.args.errors.now)
    (g.E.Sink.output c.loop-place.errors) (g.E.Sink.output c.node_of.new.errors) c.tell_no_memory.result file c.loop-place.invariant.settings c.in-Ok.ensures.node
    (c.in-Ok.ensures.unwritten ∙ c.loop-place.invariant.unwritten) (c.tell_no_memory.ensures, refl)

pub returns-in-Err-clause-ended : goal.returns-in-Err-clause-ended
returns-in-Err-clause-ended g c =
    let file = is-file c.args.files.now c.loop-place.place c.index-files-place.result c.as_str.result.now (omega (arith, c.loop-place-test.true))
    c.index-files-place.is c.as_str.ensures.value in
    ends-at c.args.files.now c.loop-place.place c.as_str.result.now (g.F.Folder.reads c.args.folder.now) c.loop-place.nodes.items
    (g.W.Sink.output c.args.writer.now) (g.W.Sink.output c.loop-place.writer) (g.W.Sink.output c.node_of.new.writer) (g.E.Sink.output c.args.errors.now)
    (g.E.Sink.output c.loop-place.errors) (g.E.Sink.output c.node_of.new.errors) c.in-Err.status file c.loop-place.invariant.settings
    c.loop-place.invariant.unwritten c.in-Err.ensures.ended

pub loop-place-preserved : goal.loop-place-preserved
loop-place-preserved g c =
    let file = is-file c.args.files.now c.loop-place.place c.index-files-place.result c.as_str.result.now (omega (arith, c.loop-place-test.true))
    c.index-files-place.is c.as_str.ensures.value in
    record {
      settings = reads-more c.args.files.now c.loop-place.place c.as_str.result.now (g.F.Folder.reads c.args.folder.now) c.loop-place.nodes.items
          c.add.new.nodes.items c.in-Ok.node (g.E.Sink.output c.args.errors.now) (g.E.Sink.output c.loop-place.errors) (g.E.Sink.output c.node_of.new.errors)
          file c.loop-place.invariant.settings c.in-Ok.ensures.node c.in-Ok-add.ensures;
      unwritten = c.in-Ok.ensures.unwritten ∙ c.loop-place.invariant.unwritten;
    }
