-- One step after the other is what the rule does at once.
use Rattle.exchange.proofs.Basics.{◌≡◌, ◌<◌, length, ap, sym, subst, ◌∙◌, State, Found, with_node, with_parts, KeptQueues, kept, lane_of, link_lane, lifted_parts, with_losses, spliced_queues}
use Rattle.exchange.proofs.Concluding.{completed-lists, concluding}
use Rattle.exchange.proofs.exchange.Exchange.conclude.Goals as goal

pub returns : goal.returns
returns c =
    let s0 : State KeptQueues = c.args.self.now in
    let found : Found = kept.found s0.node.queues c.args.link c.args.number in
    let lifts : State KeptQueues → State KeptQueues = λ s. with_node s (with_parts s.node (lifted_parts c.args.link s.node.parts)) in
    let splices : State KeptQueues → State KeptQueues =
    λ s. with_node s (record { queues = spliced_queues s.node.queues c.args.link c.args.number; parts = s.node.parts }) in
    let lifted : c.lift.new.self ≡ lifts (with_node s0 (with_parts s0.node (with_losses found s0.node.parts))) = c.lift.ensures ∙ ap lifts c.lose_doubtful.ensures in
    let done : c.splice.new.self ≡ splices (lifts (with_node s0 (with_parts s0.node (with_losses found s0.node.parts)))) = c.splice.ensures.state ∙ ap splices lifted in
    let queues : c.lift.new.self.node.queues ≡ s0.node.queues = ap (λ (s : State KeptQueues). s.node.queues) lifted in
    let spliced : spliced_queues s0.node.queues c.args.link c.args.number ≡ c.splice.new.self.node.queues = sym (ap (λ (s : State KeptQueues). s.node.queues) done) in
    c.send_all.ensures
    ∙ concluding s0 c.splice.new.self found c.args.link c.args.number (spliced_queues s0.node.queues c.args.link c.args.number) done
    (ap (λ (q : KeptQueues). link_lane q c.args.link) spliced ∙ c.splice.ensures.anew
    ∙ ap (λ (q : KeptQueues). (kept.found q c.args.link c.args.number).queued_anew) queues)
    (completed-lists s0.node.queues c.args.link c.args.number
    (subst (λ (q : KeptQueues). lane_of c.args.link < length q.lanes) queues c.splice.ensures.there))
