-- What becomes of a step on what is kept is what becomes of it.
use Rattle.std.proofs.Common.{List, ap, sym, subst, ◌∙◌}
use Rattle.std.proofs.lemmas.Result.{IfOk-weaker}
use Rattle.network_world.specs.KeptNodes.{KeptNode}
use Rattle.network_world.specs.KeptNetworks.{points_of}
use Rattle.network_rules.specs.Anew.{Steps}
use Rattle.network_world.specs.NetworkAnew.{RunsSince, and_then}
use Rattle.network_world.specs.NetworkPromised.{TellsBetween}
use Rattle.network_world.specs.NetworkStands.{NetworkStandsFor, has_node, stepped}
use Rattle.network_world.specs.Told.{doing_told}
use Rattle.network_world.proofs.NetworkTelling.{tells}
use Rattle.network_world.proofs.NetworkTurns.{turn-outcome, turn-stands}
use Rattle.network_world.proofs.PointsStay.{turn-points}
use Rattle.network_world.proofs.Runs.{turn-outcome-since, turn-runs}
use Rattle.network_world.proofs.network.Network.turn.Goals as goal

pub returns-clause-outcome : goal.returns-clause-outcome
returns-clause-outcome c = λ w s.
    IfOk-weaker c.apply.result _ _
    (λ outcome e. e ∙ turn-outcome c.args.self.now w s (doing_told c.args.doing outcome) c.args.at)
    c.apply.ensures.outcome

pub returns-clause-told : goal.returns-clause-told
returns-clause-told c = λ w s far.
    IfOk-weaker c.apply.result _ _
    (λ outcome e.
    subst (TellsBetween (doing_told c.args.doing outcome) w c.args.at far) (sym (e ∙ turn-outcome c.args.self.now w s (doing_told c.args.doing outcome) c.args.at))
    (tells c.args.self.now w s (doing_told c.args.doing outcome) c.args.at far))
    c.apply.ensures.outcome

pub returns-clause-state : goal.returns-clause-state
returns-clause-state c = λ w s.
    IfOk-weaker c.apply.result _ _
    (λ outcome e.
    subst (λ (k : List KeptNode). NetworkStandsFor k (stepped (has_node c.args.at c.args.self.now) (record { point = c.args.at; what = doing_told c.args.doing outcome }) w))
    (sym e) (turn-stands c.args.self.now w s (doing_told c.args.doing outcome) c.args.at))
    c.apply.ensures.state

pub returns-clause-outcome_since : goal.returns-clause-outcome_since
returns-clause-outcome_since c = λ from changes s.
    IfOk-weaker c.apply.result _ _
    (λ outcome e. e ∙ turn-outcome-since c.args.self.now from changes s (doing_told c.args.doing outcome) c.args.at)
    c.apply.ensures.outcome

pub returns-clause-since : goal.returns-clause-since
returns-clause-since c = λ from changes s.
    IfOk-weaker c.apply.result _ _
    (λ outcome e.
    subst (λ (k : List KeptNode). RunsSince k from (and_then (has_node c.args.at c.args.self.now) (Steps (record { point = c.args.at; what = doing_told c.args.doing outcome })) changes))
    (sym e) (turn-runs c.args.self.now from changes s (doing_told c.args.doing outcome) c.args.at))
    c.apply.ensures.state

pub returns-clause-points : goal.returns-clause-points
returns-clause-points c =
    IfOk-weaker c.apply.result _ _
    (λ outcome e. ap points_of e ∙ turn-points (doing_told c.args.doing outcome) c.args.at c.args.self.now)
    c.apply.ensures.state
