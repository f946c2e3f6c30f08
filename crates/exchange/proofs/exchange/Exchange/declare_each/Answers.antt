-- One more link is looked at.
use Rattle.exchange.proofs.Basics.{ap, ◌∙◌, Bool, false, List, Option, ℕ, slice_index_or, slice_set, Procedure, State, Node, with_node, KeptQueues, kept, holder, holders, declare}
use Rattle.exchange.proofs.Returning.{none_declared, more_declared, no_holders, more_holders}
use Rattle.exchange.proofs.exchange.Exchange.declare_each.Goals as goal

pub loop-other-init : goal.loop-other-init
loop-other-init c =
    let loses : (ℕ → Bool) = λ o. slice_index_or c.args.loses.now o false in
    record {
      holders = c.no_holders-holders.ensures ∙ no_holders kept c.args.self.now.settings c.args.link loses c.args.self.now.node;
      state = ap (λ (n : Node KeptQueues). with_node c.args.self.now n) (none_declared kept c.args.self.now.settings c.args.link loses c.args.self.now.node);
    }

pub loop-other-preserved : goal.loop-other-preserved
loop-other-preserved c =
    let loses : (ℕ → Bool) = λ o. slice_index_or c.args.loses.now o false in
    record {
      holders = ap (λ (hs : List (Option Procedure)). slice_set hs c.loop-other.other c.declare.result) c.loop-other.invariant.holders
          ∙ ap (λ (x : Option Procedure). slice_set (holders kept c.args.self.now.settings c.args.link loses c.loop-other.other c.args.self.now.node) c.loop-other.other x)
          (c.declare.ensures.holder
          ∙ ap (λ (s : State KeptQueues). holder kept s.settings c.args.link loses c.loop-other.other s.node) c.loop-other.invariant.state)
          ∙ more_holders kept c.args.self.now.settings c.args.link loses c.loop-other.other c.args.self.now.node;
      state = c.declare.ensures.state
          ∙ ap (λ (s : State KeptQueues). with_node s (declare kept s.settings c.args.link loses c.loop-other.other s.node)) c.loop-other.invariant.state
          ∙ ap (λ (n : Node KeptQueues). with_node c.args.self.now n) (more_declared kept c.args.self.now.settings c.args.link loses c.loop-other.other c.args.self.now.node);
    }
