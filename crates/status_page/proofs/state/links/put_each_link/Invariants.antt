-- The links so far were put.
use Rattle.std.proofs.Common.{◌≡◌, ◌++◌}
use Rattle.exchange.specs.KeptQueues.{kept}
use Rattle.status_page.specs.Each.{each}
use Rattle.status_page.specs.Facts.{facts_of}
use Rattle.status_page.specs.States.{link_tokens}
use Rattle.status_page.proofs.state.links.put_each_link.Given as goal

abbrev pub invariant-loop-k : goal.invariant-loop-k
invariant-loop-k l = record {
  tokens : l.out.tokens ≡ l.fn.out.tokens ++ each (link_tokens kept l.fn.exchange (facts_of l.fn.facts)) l.k;
  before : l.out.before ≡ l.fn.out.before;
}
