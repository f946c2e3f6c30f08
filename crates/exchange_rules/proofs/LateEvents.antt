-- At the end of a tick, and of a frame whose message isn't refused, no order is left that could go.
use Rattle.exchange_rules.proofs.Basics.{◌≡◌, ◌≢◌, inl, inr, ◌<◌, ℕ, Bool, true, false, ◌&&◌, List, [], ◌∷◌, length, Option, Some, None, refl, ap, ◌∙◌, if◌then◌else◌}
use Rattle.exchange_rules.proofs.Definitions.{Configuration, Message, flow_of, Cause, Outcome, Standing, is_unasked, Owed, owed, Node, Done, with_parts, link_of, waits, facts, no_room, has_way, is_late, order_all, late_by, changeover_of, release, go_by, go_on, go, go_each, tell_owed, tell, tell_if, tell_each, may_tell, told_parts, route_message, tick, receive, apply, Happening, FrameCame, Ticked, WholeQueues, whole}
use Rattle.signalling_types.specs.declared.outcome.Outcome.TheVariants.{Refused, Queued, Held, Local, Handled, Ignored}
use Rattle.exchange_rules.specs.Exchange.{after, outcome_of}
use Rattle.exchange_rules.specs.LawsOfLateOrders.{no_order_is_left}
use Rattle.exchange_rules.proofs.LateOrders.{all-gone, same-way}
use Rattle.exchange_rules.proofs.OrdersByAnyRoute.{send-changeovers}
use Rattle.exchange_rules.proofs.Telling.{tell-facts}

-- neither what links lead to nor a changeover changes
record Stays (c : Configuration) (n m : Node WholeQueues) : Type 0 where
  facts : facts c m.parts ≡ facts c n.parts
  changeovers : m.parts.changeovers ≡ n.parts.changeovers

module _ (c : Configuration) where
  both : (n m o : Node WholeQueues) → Stays c n m → Stays c m o → Stays c n o
  both n m o e f = record { facts = f.facts ∙ e.facts; changeovers = f.changeovers ∙ e.changeovers }

  -- ---- the end of an event

  on-stays : (way : Option ℕ) (m : Message) (n : Node WholeQueues) → Stays c n (go_on whole c way m n)
  on-stays (Some link) m n = record { facts = refl; changeovers = refl }
  on-stays None m n = record { facts = refl; changeovers = refl }

  by-stays : (b : Bool) (m : Message) (n : Node WholeQueues) → Stays c n (go_by whole c b m n)
  by-stays true m n = record { facts = refl; changeovers = refl }
  by-stays false m n = on-stays (link_of c n.parts (flow_of m)) m n

  each-stays : (ms : List Message) (n : Node WholeQueues) → Stays c n (go_each whole c ms n)
  each-stays [] n = record { facts = refl; changeovers = refl }
  each-stays (m ∷ ms) n = both n (go whole c m n) _ (by-stays (waits c n.parts.holds m) m n) (each-stays ms (go whole c m n))

  release-stays : (n : Node WholeQueues) → Stays c n (release whole c n)
  release-stays n =
      let out : Node WholeQueues = record n { queues = whole.without_held n.queues } in
      both n out _ (record { facts = refl; changeovers = refl }) (each-stays (whole.held n.queues) out)

  tell-stays : (o : Owed) (n : Node WholeQueues) → Stays c n (tell whole c o n)
  tell-stays o n =
      let m : Message = route_message c o.set o.destination o.status in
      let next : Node WholeQueues = with_parts n (told_parts c o n.parts) in
      record { facts = tell-facts whole c o n; changeovers = send-changeovers c (no_room whole c m next.queues) (link_of c next.parts (flow_of m)) m next }

  if-stays : (b : Bool) (o : Owed) (n : Node WholeQueues) → Stays c n (if b then tell whole c o n else n)
  if-stays true o n = tell-stays o n
  if-stays false o n = record { facts = refl; changeovers = refl }

  tells-stay : (os : List Owed) (n : Node WholeQueues) → Stays c n (tell_each whole c os n)
  tells-stay [] n = record { facts = refl; changeovers = refl }
  tells-stay (o ∷ os) n = both n (tell_if whole c o n) _ (if-stays (may_tell whole c n) o n) (tells-stay os (tell_if whole c o n))

  owed-stays : (n : Node WholeQueues) → Stays c n (tell_owed whole c n)
  unfolding tell_owed
  owed-stays n = tells-stay (owed (facts c n.parts) n.parts.told) n

  settled-stays : (n : Node WholeQueues) → Stays c n (tell_owed whole c (release whole c n))
  settled-stays n = both n (release whole c n) _ (release-stays n) (owed-stays (release whole c n))

  -- the changeovers stay as an event ends
  pub settled-changeovers : (n : Node WholeQueues) → (tell_owed whole c (release whole c n)).parts.changeovers ≡ n.parts.changeovers
  settled-changeovers n = (settled-stays n).changeovers

  -- so none becomes late
  late-as : (link : ℕ) (n m : Node WholeQueues) → Stays c n m → is_late c link m.parts ≡ is_late c link n.parts
  late-as link n m e =
      ap (λ (b : Bool). is_unasked (changeover_of m.parts link) && b) (same-way c link m.parts n.parts e.facts)
      ∙ ap (λ (all : List Standing). is_unasked (changeover_of (record n.parts { changeovers = all }) link) && has_way c link n.parts) e.changeovers

  settled-none : (link : ℕ) (n : Node WholeQueues) → c.changeover_by_any_route ≡ true → link < length c.links
      → is_late c link (tell_owed whole c (release whole c (order_all whole c n))).parts ≡ false
  settled-none link n any below =
      late-as link (order_all whole c n) _ (settled-stays (order_all whole c n)) ∙ all-gone c link n any below

  by-outcome : (outcome : Outcome) (link : ℕ) (n : Node WholeQueues) → c.changeover_by_any_route ≡ true → link < length c.links → ((cause : Cause) → outcome ≢ Refused cause)
      → is_late c link (tell_owed whole c (release whole c (late_by whole c outcome n))).parts ≡ false
  by-outcome (Refused cause) link n any below taken = absurd (taken cause refl)
  by-outcome (Queued other) link n any below taken = settled-none link n any below
  by-outcome Held link n any below taken = settled-none link n any below
  by-outcome Local link n any below taken = settled-none link n any below
  by-outcome Handled link n any below taken = settled-none link n any below
  by-outcome Ignored link n any below taken = settled-none link n any below

  ticked-none : (link : ℕ) (n : Node WholeQueues) → c.changeover_by_any_route ≡ true → link < length c.links → is_late c link (apply whole c Ticked n).left.parts ≡ false
  unfolding apply
  ticked-none link n any below = settled-none link (tick whole c n).left any below

  frame-none : (by : ℕ) (text : List ℕ) (link : ℕ) (n : Node WholeQueues) → c.changeover_by_any_route ≡ true → link < length c.links
      → ((cause : Cause) → (apply whole c (FrameCame by text) n).outcome ≢ Refused cause) → is_late c link (apply whole c (FrameCame by text) n).left.parts ≡ false
  unfolding apply
  frame-none by text link n any below taken =
      let d : Done WholeQueues = receive whole c by text n in
      by-outcome d.outcome link d.left any below taken

pub none-left : no_order_is_left
none-left what a link any (inl is) below =
    ap (λ (w : Happening). is_late a.settings link (after whole w a).node.parts) is ∙ ticked-none a.settings link a.node any below
none-left what a link any (inr frame) below =
    ap (λ (w : Happening). is_late a.settings link (after whole w a).node.parts) frame.came
    ∙ frame-none a.settings frame.link frame.text link a.node any below
    (λ cause e. frame.taken cause (ap (λ (w : Happening). outcome_of whole w a) frame.came ∙ e))
