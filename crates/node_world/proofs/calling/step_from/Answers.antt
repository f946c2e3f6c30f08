-- The node at the place is the one to which it happens.
use Rattle.std.proofs.Common.{refl}
use Rattle.std.proofs.lemmas.Option.{slice_get-get_or}
use Rattle.std.specs.Prelude.{slice_index_or}
use Rattle.node_world.proofs.calling.step_from.Goals as goal

pub returns-clause-steps : goal.returns-clause-steps
returns-clause-steps c = λ own. record {
  old = slice_index_or c.args.nodes.now c.args.place c.index-nodes-place.result;
  new = c.step_at.new.node;
  old_is = slice_get-get_or c.args.nodes.now c.args.place c.index-nodes-place.result c.requires;
  new_is = refl;
  outcome_is = c.step_at.ensures.outcome own;
  exchange = c.step_at.ensures.exchange own;
  ports = c.step_at.ensures.ports;
  settings = c.step_at.ensures.settings;
}
