-- One set after another, until there is no room.
use Rattle.exchange.proofs.Basics.{◌≡◌, ◌<◌, ◌≤◌, ◌+◌, ◌-◌, ℕ, length, arith, refl, ap, sym, subst, ◌∙◌, shape_of, owed_to, owed_by_sets, rows_by_shape, State, Node, with_node, none_told, KeptQueues, kept, OwesNoneBefore, known, told_set}
use Rattle.exchange.proofs.Pending.{before_all, sets_done, each_shape}
use Rattle.exchange.proofs.Telling.{sets_rest, set_step, sets_end, sets_whole}
use Rattle.exchange.proofs.Rooms.{view_shape}
use Rattle.exchange.proofs.exchange.Exchange.tell_sets.Goals as goal

pub loop-set-init : goal.loop-set-init
loop-set-init c =
    let s : State KeptQueues = c.args.self.now in
    let whole : length s.settings.sets - 0 ≡ length s.settings.sets = omega arith in (
      ap (λ (k : ℕ). sets_rest 0 k s) whole,
      before_all (known s) s.node.parts.told,
      refl,
    )

pub returns-in-Some-clause-state : goal.returns-in-Some-clause-state
returns-in-Some-clause-state c =
    let end : ℕ = length c.args.self.now.settings.sets in
    let next : State KeptQueues = c.tell_set.new.self in
    let rows : length c.sets-set-end.result.now ≡ length c.args.self.now.settings.sets =
    ap length c.sets-set-end.ensures.rows ∙ ap (λ (s : State KeptQueues). length s.settings.sets) c.self.view_is in
    let left : c.loop-set.set < length c.args.self.now.settings.sets = omega (arith, c.loop-set-test.true, rows) in
    sym (ap (λ (n : Node KeptQueues). with_node next n) (none_told kept next.settings
    (owed_by_sets (known next) next.node.parts.told (c.loop-set.set + 1) (end - (c.loop-set.set + 1))) next.node c.in-Some.ensures.full))
    ∙ set_step c.loop-set.self next c.loop-set.set end left (c.tell_set.ensures.state ∙ ap (λ (k : ℕ). told_set k c.loop-set.self) c.new-set.ensures)
    ∙ c.loop-set.invariant.0
    ∙ sets_whole c.args.self.now (view_shape c.self.inside c.args.self.now c.self.invariant c.self.view_is)

pub loop-set-preserved : goal.loop-set-preserved
loop-set-preserved c =
    let s : State KeptQueues = c.loop-set.self in
    let next : State KeptQueues = c.tell_set.new.self in
    let rows : length c.sets-set-end.result.now ≡ length c.args.self.now.settings.sets =
    ap length c.sets-set-end.ensures.rows ∙ ap (λ (s : State KeptQueues). length s.settings.sets) c.self.view_is in
    let left : c.loop-set.set < length c.args.self.now.settings.sets = omega (arith, c.loop-set-test.true, rows) in
    let told : next ≡ told_set c.loop-set.set s = c.tell_set.ensures.state ∙ ap (λ (k : ℕ). told_set k s) c.new-set.ensures in (
      set_step s next c.loop-set.set (length c.args.self.now.settings.sets) left told ∙ c.loop-set.invariant.0,
      subst (λ (k : ℕ). OwesNoneBefore (known next) next.node.parts.told (k + 1) 0) c.new-set.ensures c.in_default.ensures.pending,
      ap (λ (x : State KeptQueues). shape_of x.node.parts.told) told
          ∙ each_shape kept s.settings (owed_to (known s) s.node.parts.told c.loop-set.set) s.node
          ∙ c.loop-set.invariant.2,
    )

pub returns-clause-state : goal.returns-clause-state
returns-clause-state c =
    let rows : length c.sets-set-end.result.now ≡ length c.args.self.now.settings.sets =
    ap length c.sets-set-end.ensures.rows ∙ ap (λ (s : State KeptQueues). length s.settings.sets) c.self.view_is in
    let done : length c.args.self.now.settings.sets ≤ c.loop-set.set = omega (arith, c.loop-set-test.false, rows) in
    sym (sets_end c.loop-set.self c.loop-set.set (length c.args.self.now.settings.sets) done)
    ∙ c.loop-set.invariant.0
    ∙ sets_whole c.args.self.now (view_shape c.self.inside c.args.self.now c.self.invariant c.self.view_is)

pub returns-clause-none : goal.returns-clause-none
returns-clause-none c =
    let s : State KeptQueues = c.loop-set.self in
    let rows : length c.sets-set-end.result.now ≡ length c.args.self.now.settings.sets =
    ap length c.sets-set-end.ensures.rows ∙ ap (λ (s : State KeptQueues). length s.settings.sets) c.self.view_is in
    let whole : length s.node.parts.told.rows ≡ length c.args.self.now.settings.sets =
    rows_by_shape s.node.parts.told (length c.args.self.now.settings.sets) (length c.args.self.now.settings.destinations)
    (c.loop-set.invariant.2 ∙ view_shape c.self.inside c.args.self.now c.self.invariant c.self.view_is) in
    sets_done (known s) s.node.parts.told c.loop-set.set 0 c.loop-set.invariant.1
    (omega (arith, c.loop-set-test.false, rows, whole))
