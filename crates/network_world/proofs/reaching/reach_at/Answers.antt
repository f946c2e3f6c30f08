-- Both nodes are where they are looked for, each in its part.
use Rattle.std.proofs.Common.{rules, ◌≡◌, ◌<◌, ◌++◌, List, Some, false, drop, nat_eq, take, ap, sym, ◌∙◌}
use Rattle.std.proofs.lemmas.Result.{IfOk-weaker}
use Rattle.std.specs.Prelude.{IfOk, OnOk, slice_get, slice_index_or, slice_set}
use Rattle.network_world.specs.KeptNetworks.{NetworkTurn}
use Rattle.network_world.specs.KeptNodes.{BothTurn, KeptNode, both_did}
use Rattle.network_world.proofs.TwoPlaces.{got-back, got-front, on-both, reached-both, set-earlier, set-later}
use Rattle.network_world.proofs.reaching.reach_at.Goals as goal

pub returns-then-near-far-2-clause-outcome : goal.returns-then-near-far-2-clause-outcome
returns-then-near-far-2-clause-outcome c =
    let k = c.args.nodes.now in
    let inside : c.args.near < c.args.far = search rules in
    let front_is : c.split_at_mut-front.result.0.now ≡ take c.args.far k = search rules in
    let back_is : c.split_at_mut-front.result.1.now ≡ drop c.args.far k = search rules in
    let at_front : c.index-front-near.result ≡ slice_index_or c.split_at_mut-front.result.0.now c.args.near c.index-front-near.result = search rules in
    let at_back : c.index-back-0.result ≡ slice_index_or c.split_at_mut-front.result.1.now 0 c.index-back-0.result = search rules in
    let one : slice_get k c.args.near ≡ Some c.index-front-near.result = got-front k c.args.near c.args.far c.split_at_mut-front.result.0.now c.index-front-near.result front_is inside c.requires.near at_front in
    let two : slice_get k c.args.far ≡ Some c.index-back-0.result = got-back k c.args.far c.split_at_mut-front.result.1.now c.index-back-0.result back_is c.requires.far at_back in
    let apart : nat_eq c.args.near c.args.far ≡ false = search rules in
    let t : BothTurn = both_did c.args.what c.args.link c.args.other c.index-front-near.result c.index-back-0.result in
    let same = reached-both c.args.what c.args.near c.args.link c.args.far c.args.other k c.index-front-near.result c.index-back-0.result one two apart in
    let done : IfOk c.reach.result (λ outcome. outcome ≡ t.outcome) = search rules in
    IfOk-weaker c.reach.result _ _ (λ outcome e. e ∙ ap (λ (v : NetworkTurn). v.outcome) (sym same)) done

pub returns-then-near-far-2-clause-state : goal.returns-then-near-far-2-clause-state
returns-then-near-far-2-clause-state c =
    let k = c.args.nodes.now in
    let inside : c.args.near < c.args.far = search rules in
    let front_is : c.split_at_mut-front.result.0.now ≡ take c.args.far k = search rules in
    let back_is : c.split_at_mut-front.result.1.now ≡ drop c.args.far k = search rules in
    let at_front : c.index-front-near.result ≡ slice_index_or c.split_at_mut-front.result.0.now c.args.near c.index-front-near.result = search rules in
    let at_back : c.index-back-0.result ≡ slice_index_or c.split_at_mut-front.result.1.now 0 c.index-back-0.result = search rules in
    let one : slice_get k c.args.near ≡ Some c.index-front-near.result = got-front k c.args.near c.args.far c.split_at_mut-front.result.0.now c.index-front-near.result front_is inside c.requires.near at_front in
    let two : slice_get k c.args.far ≡ Some c.index-back-0.result = got-back k c.args.far c.split_at_mut-front.result.1.now c.index-back-0.result back_is c.requires.far at_back in
    let apart : nat_eq c.args.near c.args.far ≡ false = search rules in
    let t : BothTurn = both_did c.args.what c.args.link c.args.other c.index-front-near.result c.index-back-0.result in
    let same = reached-both c.args.what c.args.near c.args.link c.args.far c.args.other k c.index-front-near.result c.index-back-0.result one two apart in
    let near_done : OnOk c.reach.result (c.reach.new.near ≡ t.near) = search rules in
    let far_done : OnOk c.reach.result (c.reach.new.far ≡ t.far) = search rules in
    on-both c.reach.result near_done far_done
    (λ near_is far_is.
    ap (λ (xs : List KeptNode). slice_set xs c.args.near c.reach.new.near ++ slice_set c.split_at_mut-front.result.1.now 0 c.reach.new.far) front_is
    ∙ ap (λ (ys : List KeptNode). slice_set (take c.args.far k) c.args.near c.reach.new.near ++ slice_set ys 0 c.reach.new.far) back_is
    ∙ ap (λ (m : KeptNode). slice_set (take c.args.far k) c.args.near m ++ slice_set (drop c.args.far k) 0 c.reach.new.far) near_is
    ∙ ap (λ (m : KeptNode). slice_set (take c.args.far k) c.args.near t.near ++ slice_set (drop c.args.far k) 0 m) far_is
    ∙ set-later k c.args.near c.args.far t.near t.far inside c.requires.far ∙ ap (λ (v : NetworkTurn). v.left) (sym same))

pub returns-else-near-far-2-clause-outcome : goal.returns-else-near-far-2-clause-outcome
returns-else-near-far-2-clause-outcome c =
    let k = c.args.nodes.now in
    let inside : c.args.far < c.args.near = search rules in
    let front_is : c.split_at_mut-front-else-near-far-2.result.0.now ≡ take c.args.near k = search rules in
    let back_is : c.split_at_mut-front-else-near-far-2.result.1.now ≡ drop c.args.near k = search rules in
    let at_front : c.index-front-far.result ≡ slice_index_or c.split_at_mut-front-else-near-far-2.result.0.now c.args.far c.index-front-far.result = search rules in
    let at_back : c.index-back-0-else-near-far-2.result ≡ slice_index_or c.split_at_mut-front-else-near-far-2.result.1.now 0 c.index-back-0-else-near-far-2.result = search rules in
    let two : slice_get k c.args.far ≡ Some c.index-front-far.result = got-front k c.args.far c.args.near c.split_at_mut-front-else-near-far-2.result.0.now c.index-front-far.result front_is inside c.requires.far at_front in
    let one : slice_get k c.args.near ≡ Some c.index-back-0-else-near-far-2.result = got-back k c.args.near c.split_at_mut-front-else-near-far-2.result.1.now c.index-back-0-else-near-far-2.result back_is c.requires.near at_back in
    let apart : nat_eq c.args.near c.args.far ≡ false = search rules in
    let t : BothTurn = both_did c.args.what c.args.link c.args.other c.index-back-0-else-near-far-2.result c.index-front-far.result in
    let same = reached-both c.args.what c.args.near c.args.link c.args.far c.args.other k c.index-back-0-else-near-far-2.result c.index-front-far.result one two apart in
    let done : IfOk c.reach-else-near-far-2.result (λ outcome. outcome ≡ t.outcome) = search rules in
    IfOk-weaker c.reach-else-near-far-2.result _ _ (λ outcome e. e ∙ ap (λ (v : NetworkTurn). v.outcome) (sym same)) done

pub returns-else-near-far-2-clause-state : goal.returns-else-near-far-2-clause-state
returns-else-near-far-2-clause-state c =
    let k = c.args.nodes.now in
    let inside : c.args.far < c.args.near = search rules in
    let front_is : c.split_at_mut-front-else-near-far-2.result.0.now ≡ take c.args.near k = search rules in
    let back_is : c.split_at_mut-front-else-near-far-2.result.1.now ≡ drop c.args.near k = search rules in
    let at_front : c.index-front-far.result ≡ slice_index_or c.split_at_mut-front-else-near-far-2.result.0.now c.args.far c.index-front-far.result = search rules in
    let at_back : c.index-back-0-else-near-far-2.result ≡ slice_index_or c.split_at_mut-front-else-near-far-2.result.1.now 0 c.index-back-0-else-near-far-2.result = search rules in
    let two : slice_get k c.args.far ≡ Some c.index-front-far.result = got-front k c.args.far c.args.near c.split_at_mut-front-else-near-far-2.result.0.now c.index-front-far.result front_is inside c.requires.far at_front in
    let one : slice_get k c.args.near ≡ Some c.index-back-0-else-near-far-2.result = got-back k c.args.near c.split_at_mut-front-else-near-far-2.result.1.now c.index-back-0-else-near-far-2.result back_is c.requires.near at_back in
    let apart : nat_eq c.args.near c.args.far ≡ false = search rules in
    let t : BothTurn = both_did c.args.what c.args.link c.args.other c.index-back-0-else-near-far-2.result c.index-front-far.result in
    let same = reached-both c.args.what c.args.near c.args.link c.args.far c.args.other k c.index-back-0-else-near-far-2.result c.index-front-far.result one two apart in
    let near_done : OnOk c.reach-else-near-far-2.result (c.reach-else-near-far-2.new.near ≡ t.near) = search rules in
    let far_done : OnOk c.reach-else-near-far-2.result (c.reach-else-near-far-2.new.far ≡ t.far) = search rules in
    on-both c.reach-else-near-far-2.result near_done far_done
    (λ near_is far_is.
    ap (λ (xs : List KeptNode). slice_set xs c.args.far c.reach-else-near-far-2.new.far ++ slice_set c.split_at_mut-front-else-near-far-2.result.1.now 0 c.reach-else-near-far-2.new.near) front_is
    ∙ ap (λ (ys : List KeptNode). slice_set (take c.args.near k) c.args.far c.reach-else-near-far-2.new.far ++ slice_set ys 0 c.reach-else-near-far-2.new.near) back_is
    ∙ ap (λ (m : KeptNode). slice_set (take c.args.near k) c.args.far c.reach-else-near-far-2.new.far ++ slice_set (drop c.args.near k) 0 m) near_is
    ∙ ap (λ (m : KeptNode). slice_set (take c.args.near k) c.args.far m ++ slice_set (drop c.args.near k) 0 t.near) far_is
    ∙ set-earlier k c.args.near c.args.far t.near t.far inside c.requires.near ∙ ap (λ (v : NetworkTurn). v.left) (sym same))
