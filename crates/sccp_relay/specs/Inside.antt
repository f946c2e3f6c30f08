-- What the trie of the code keeps.
use Rattle.sccp_relay.specs.Nodes.{IsTree}
use Rattle.sccp_relay.specs.declared.trie.Trie.TheInside.{Inside}

pub record HasTree (trie : Inside) : Type 0 where
  pub tree : IsTree trie.nodes.items
