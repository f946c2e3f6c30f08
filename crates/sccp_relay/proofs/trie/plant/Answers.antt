use Rattle.sccp_relay.proofs.Rows.{appended-tree, appended-stored}
use Rattle.sccp_relay.proofs.trie.plant.Goals as goal

pub returns-then-is_empty-clause-tree : goal.returns-then-is_empty-clause-tree
returns-then-is_empty-clause-tree c = rw (c.push_reserved.ensures.items, c.bare.ensures) (appended-tree c.args.nodes.now.items c.requires.tree)

pub returns-then-is_empty-clause-same : goal.returns-then-is_empty-clause-same
returns-then-is_empty-clause-same c = rw (c.push_reserved.ensures.items, c.bare.ensures) (appended-stored c.args.nodes.now.items)
