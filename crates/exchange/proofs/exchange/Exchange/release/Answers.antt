-- After a release each message of Held waits.
use Rattle.exchange.proofs.Basics.{◌≡◌, true, sym, subst, State, KeptQueues, kept, all_wait}
use Rattle.exchange.proofs.Settling.{release-waits_kept}
use Rattle.exchange.proofs.exchange.Exchange.release.Goals as goal

pub invariant_of-self : goal.invariant_of-self
invariant_of-self c =
    let wait : all_wait c.release_each.new.self.settings c.release_each.new.self.node.parts.holds (kept.held c.release_each.new.self.node.queues) ≡ true =
    subst (λ (x : State KeptQueues). all_wait x.settings x.node.parts.holds (kept.held x.node.queues) ≡ true) (sym c.release_each.ensures)
    (release-waits_kept c.args.self.now.settings c.args.self.now.node) in
    record {
      lanes = c.self.invariant.lanes;
      sequences = c.self.invariant.sequences;
      changeovers = c.self.invariant.changeovers;
      links = c.self.invariant.links;
      sets = c.self.invariant.sets;
      pool = c.self.invariant.pool;
      notices = c.self.invariant.notices;
      told = c.self.invariant.told;
      few_links = c.self.invariant.few_links;
      routes = c.self.invariant.routes;
      codes = c.self.invariant.codes;
      holds = c.self.invariant.holds;
      unequipped = c.self.invariant.unequipped;
      pending = c.self.invariant.pending;
      flows = c.self.invariant.flows;
      waiting = subst (λ (x : State KeptQueues). all_wait x.settings x.node.parts.holds (kept.held x.node.queues) ≡ true) (sym c.self.view_is) wait;
    }
