use Rattle.std.proofs.Common.{arith}
use Rattle.sccp_relay.proofs.translations.Translations.new.Goals as goal

pub invariant_of-result : goal.invariant_of-result
invariant_of-result c = record {
  ordered = rw c.new.ensures.items tt;
  fits = rw c.new.ensures.items (omega arith);
  rows = rw c.new.ensures.items (λ k d lt. absurd (omega (arith, lt)));
  leads = rw c.new.ensures.items c.new-2.ensures;
}
