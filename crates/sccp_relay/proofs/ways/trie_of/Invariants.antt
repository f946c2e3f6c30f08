use Rattle.sccp_relay.proofs.Basics.{◌≡◌, take, All, stored, IsRow, leads_of}
use Rattle.sccp_relay.proofs.ways.trie_of.Given as goal

abbrev pub invariant-loop-row : goal.invariant-loop-row
invariant-loop-row l = (stored l.trie ≡ leads_of (take l.row-index l.rows)) × All IsRow (take l.row-index l.rows)
