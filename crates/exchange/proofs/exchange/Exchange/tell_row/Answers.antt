-- One destination that may be pending after another, while there is room.
use Rattle.exchange.proofs.Basics.{◌≡◌, ◌<◌, ◌≤◌, ◌+◌, ◌-◌, ℕ, true, false, length, arith, refl, ap, sym, subst, ◌∙◌, row_of, shape_of, owed_at, owed_from, row_by_shape, State, Node, with_node, may_tell, none_told, KeptQueues, kept, OwesNoneBefore, known}
use Rattle.exchange.proofs.Pending.{row_from, row_done, next_places, place_done, place_shape}
use Rattle.exchange.proofs.Telling.{row_rest, row_step, row_end, row_whole}
use Rattle.exchange.proofs.Rooms.{view_shape}
use Rattle.exchange.proofs.exchange.Exchange.tell_row.Goals as goal

pub loop-destination-init : goal.loop-destination-init
loop-destination-init c =
    let s : State KeptQueues = c.args.self.now in
    let end : ℕ = length s.settings.destinations in
    let whole : end - 0 ≡ end = omega arith in (
      ap (λ (n : Node KeptQueues). with_node s n)
          (row_from kept s.settings c.args.set 0 c.next_pending-destination.result end s.node
          c.next_pending-destination.ensures.from c.next_pending-destination.ensures.none)
          ∙ ap (λ (k : ℕ). row_rest c.args.set 0 k s) whole,
      next_places (known s) s.node.parts.told c.args.set 0 c.next_pending-destination.result c.requires.before
          c.next_pending-destination.ensures.none,
      refl,
    )

pub returns-then-not-may_tell-clause-state : goal.returns-then-not-may_tell-clause-state
returns-then-not-may_tell-clause-state c =
    let s : State KeptQueues = c.loop-destination.self in
    let full : may_tell kept s.settings s.node ≡ false = sym c.may_tell.ensures ∙ c.if-not-may_tell.true in
    sym (ap (λ (n : Node KeptQueues). with_node s n) (none_told kept s.settings
    (owed_from (known s) s.node.parts.told c.args.set c.loop-destination.destination
    (length c.args.self.now.settings.destinations - c.loop-destination.destination)) s.node full))
    ∙ c.loop-destination.invariant.0
    ∙ row_whole c.args.self.now c.args.set c.requires.set (view_shape c.self.inside c.args.self.now c.self.invariant c.self.view_is)

pub loop-destination-preserved : goal.loop-destination-preserved
loop-destination-preserved c =
    let s : State KeptQueues = c.loop-destination.self in
    let told : State KeptQueues = c.tell_at.new.self in
    let end : ℕ = length c.args.self.now.settings.destinations in
    let here : ℕ = c.loop-destination.destination in
    let next : ℕ = c.next_pending-destination-in-loop-destination.result in
    let rows : length c.destinations-end.result.now ≡ end =
    ap length c.destinations-end.ensures.rows ∙ ap (λ (s : State KeptQueues). length s.settings.destinations) c.self.view_is in
    let left : here < end = omega (arith, c.loop-destination-test.true, rows) in
    let room : may_tell kept s.settings s.node ≡ true = sym c.may_tell.ensures ∙ c.if-not-may_tell.false in (
      ap (λ (n : Node KeptQueues). with_node told n)
          (row_from kept told.settings c.args.set (here + 1) next end told.node
          c.next_pending-destination-in-loop-destination.ensures.from c.next_pending-destination-in-loop-destination.ensures.none)
          ∙ row_step s told c.args.set here end left c.tell_at.ensures
          ∙ c.loop-destination.invariant.0,
      next_places (known told) told.node.parts.told c.args.set (here + 1) next
          (subst (λ (x : State KeptQueues). OwesNoneBefore (known x) x.node.parts.told c.args.set (here + 1)) (sym c.tell_at.ensures)
          (place_done kept s.settings c.args.set here s.node room c.loop-destination.invariant.1))
          c.next_pending-destination-in-loop-destination.ensures.none,
      ap (λ (x : State KeptQueues). shape_of x.node.parts.told) c.tell_at.ensures
          ∙ place_shape kept s.settings c.args.set here (owed_at (known s) s.node.parts.told c.args.set here) s.node
          ∙ c.loop-destination.invariant.2,
    )

pub returns-clause-state : goal.returns-clause-state
returns-clause-state c =
    let rows : length c.destinations-end.result.now ≡ length c.args.self.now.settings.destinations =
    ap length c.destinations-end.ensures.rows ∙ ap (λ (s : State KeptQueues). length s.settings.destinations) c.self.view_is in
    let done : length c.args.self.now.settings.destinations ≤ c.loop-destination.destination = omega (arith, c.loop-destination-test.false, rows) in
    sym (row_end c.loop-destination.self c.args.set c.loop-destination.destination (length c.args.self.now.settings.destinations) done)
    ∙ c.loop-destination.invariant.0
    ∙ row_whole c.args.self.now c.args.set c.requires.set (view_shape c.self.inside c.args.self.now c.self.invariant c.self.view_is)

pub returns-clause-pending : goal.returns-clause-pending
returns-clause-pending c =
    let s : State KeptQueues = c.loop-destination.self in
    let rows : length c.destinations-end.result.now ≡ length c.args.self.now.settings.destinations =
    ap length c.destinations-end.ensures.rows ∙ ap (λ (s : State KeptQueues). length s.settings.destinations) c.self.view_is in
    let whole : length (row_of s.node.parts.told c.args.set) ≡ length c.args.self.now.settings.destinations =
    row_by_shape s.node.parts.told (length c.args.self.now.settings.sets) (length c.args.self.now.settings.destinations) c.args.set
    (c.loop-destination.invariant.2 ∙ view_shape c.self.inside c.args.self.now c.self.invariant c.self.view_is) c.requires.set in
    row_done (known s) s.node.parts.told c.args.set c.loop-destination.destination c.loop-destination.invariant.1
    (omega (arith, c.loop-destination-test.false, rows, whole))
