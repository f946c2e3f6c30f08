-- The files so far have the settings of the nodes so far.
use Rattle.std.proofs.Common.{◌≡◌, take}
use Rattle.lab.specs.Network.{settings_in}
use Rattle.program.specs.Words.{texts}
use Rattle.program.specs.Program.{HaveSettings}
use Rattle.program.proofs.network.read_nodes.Given as goal

abbrev pub invariant-loop-place : goal.invariant-loop-place
invariant-loop-place g l = record {
  settings : HaveSettings (take l.place (texts l.fn.files)) (g.F.Folder.reads l.fn.folder) (settings_in l.nodes.items) (g.E.Sink.output l.fn.errors)
      (g.E.Sink.output l.errors);
  unwritten : g.W.Sink.output l.writer ≡ g.W.Sink.output l.fn.writer;
}
