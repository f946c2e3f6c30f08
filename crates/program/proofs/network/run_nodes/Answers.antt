use Rattle.std.proofs.Common.{inl, inr, refl}
use Rattle.lab.specs.Network.{settings_in}
use Rattle.program.proofs.Networks.{joined-kept}
use Rattle.program.proofs.network.run_nodes.Goals as goal

pub returns-in-Ok : goal.returns-in-Ok
returns-in-Ok g c = inl (
  settings_in c.read_nodes.new.nodes.items,
  g.E.Sink.output c.read_nodes.new.errors,
  c.in-Ok.ensures.settings,
  joined-kept c.read_nodes.new.nodes.items c.as_mut_slice-nodes.result.now _ _ _ _ _ _ _ c.as_mut_slice-nodes.ensures.value c.in-Ok.ensures.unwritten
      c.run_if_network.ensures,
)

pub returns-in-Err : goal.returns-in-Err
returns-in-Err g c = inr (c.in-Err.ensures.ended, refl)
