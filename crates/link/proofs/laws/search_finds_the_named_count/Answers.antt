use Rattle.link.proofs.Naming.{finds_named}
use Rattle.link.proofs.laws.search_finds_the_named_count.Goals as goal

pub returns : goal.returns
returns c = finds_named
