use Rattle.settings_file.proofs.serve.document.contents.Goals as goal

pub invariant_of-result : goal.invariant_of-result
invariant_of-result c = record {
  above = c.in_ok-tick_ms.ensures.above;
  below = c.in_ok-tick_ms.ensures.below;
  times = c.in_ok-sctp.ensures.within;
  links = c.in_ok-links.ensures.source;
}
