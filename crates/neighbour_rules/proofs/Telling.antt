-- What adjacent points are told of routes passes by: by moves.
use Rattle.pair_rules.proofs.Basics.{◌≡◌, ℕ, Bool, true, false, not, ◌&&◌, List, [], ◌∷◌, Option, Some, None, refl, if◌then◌else◌}
use Rattle.pair_rules.proofs.Definitions.{Message, Configuration, Node, with_parts, WholeQueues, whole, facts, set_of, is_management, fit-steps, send_routed, RouteStatus}
use Rattle.mtp3_codec.specs.declared.management.Management.{Management}
use Rattle.mtp3_codec.specs.declared.management.Management.TheVariants.{UserPartUnavailable}
use Rattle.mtp3_codec.specs.declared.unavailability.UnavailabilityCause.TheVariants.{Unequipped}
use Rattle.signalling_types.specs.Message.{opc_of, service_indicator}
use Rattle.std.proofs.Common.{arith}
use Rattle.exchange_rules.proofs.Basics.{length-set, ◌<◌, ◌^◌}
use Rattle.routes.specs.declared.route.RouteStatus.TheVariants.{Prohibited}
use Rattle.route_management.specs.Told.{Owed, owed}
use Rattle.exchange_rules.specs.Telling.{answer_no_route, answer_no_user_part, is_unequipped_told, tell_unavailable, unavailable, unequipped_counted, inhibited, is_inhibited, is_led, may_tell, prohibit, route_message, tell, tell_each, tell_if, tell_owed, telling, told_parts}
use Rattle.exchange_rules.specs.Routing.{adjacent_of, point_of}
use Rattle.exchange_rules.proofs.MadeManagement.{made-management}
use Rattle.exchange_rules.proofs.SteppingMessages.{told_parts-steps, inhibited-steps}
use Rattle.exchange_rules.proofs.Rules.{rules-of}
use Rattle.pair_rules.proofs.World.{World}
use Rattle.neighbour_rules.proofs.Good.{Joint, Passes, at, passes-both, passes-none}
use Rattle.neighbour_rules.proofs.Messages.{making, send_routed-passes}
use Rattle.neighbour_rules.proofs.Unseen.{aside-passes}
use Rattle.neighbour_rules.proofs.Made.{made-brief, plain-other, route-brief, route-other}

module _ (c z : Configuration) (j : Joint c z) (w : World) (arrived rest : List Message) where
  abbrev Pass : Node WholeQueues → Node WholeQueues → Type 0
  Pass n o = Passes c z j (at c z j w n arrived rest) (at c z j w o arrived rest)

  both : (n m o : Node WholeQueues) → Pass n m → Pass m o → Pass n o
  both n m o p q = passes-both c z j _ _ _ p q

  either : (b : Bool) (n o : Node WholeQueues) → Pass n o → Pass n (if b then o else n)
  either true n o p = p
  either false n o p = passes-none c z j (at c z j w n arrived rest)

  -- what tells a status of a point is made, and goes out
  pub telling-route : (n : Node WholeQueues) (its destination : ℕ) (status : RouteStatus) → Pass n (send_routed whole c (route_message c its destination status) n)
  telling-route n its destination status =
      let m : Message = route_message c its destination status in
      passes-both c z j _ _ _ (making c z j w n arrived m rest (route-other c z j its destination status) (route-brief c z j its destination status)) (send_routed-passes c z j w n arrived m rest (telling-management status))
    where
      telling-management : (s : RouteStatus) → is_management (route_message c its destination s) ≡ true
      telling-management s = made-management c j.near_well (adjacent_of c its) (telling s (point_of c destination))

  tell-passes : (o : Owed) (n : Node WholeQueues) → Pass n (tell whole c o n)
  tell-passes o n =
      both _ _ _
      (aside-passes c z j w n arrived rest (told_parts c o n.parts) (told_parts-steps (rules-of (fit-steps c)) o n) refl refl refl refl refl refl (λ e. e))
      (telling-route (with_parts n (told_parts c o n.parts)) o.set o.destination o.status)

  tell_each-passes : (os : List Owed) (n : Node WholeQueues) → Pass n (tell_each whole c os n)
  tell_each-passes [] n = passes-none c z j (at c z j w n arrived rest)
  tell_each-passes (o ∷ os) n = both _ _ _ (either (may_tell whole c n) n (tell whole c o n) (tell-passes o n)) (tell_each-passes os (tell_if whole c o n))

  -- the end of each event
  pub tell_owed-passes : (n : Node WholeQueues) → Pass n (tell_owed whole c n)
  unfolding tell_owed
  tell_owed-passes n = tell_each-passes (owed (facts c n.parts) n.parts.told) n

  prohibit-passes : (its destination : ℕ) (n : Node WholeQueues) → Pass n (prohibit whole c its destination n)
  prohibit-passes its destination n =
      both _ _ _
      (aside-passes c z j w n arrived rest (inhibited c its destination n.parts) (inhibited-steps (rules-of (fit-steps c)) its destination n) refl refl refl refl refl refl (λ e. e))
      (telling-route (with_parts n (inhibited c its destination n.parts)) its destination Prohibited)

  -- a message that has no route
  pub answer_no_route-passes : (link destination : Option ℕ) (n : Node WholeQueues) → Pass n (answer_no_route whole c link destination n)
  answer_no_route-passes (Some link) (Some destination) n =
      let its : ℕ = set_of c link in
      either (may_tell whole c n && not (is_inhibited its destination n.parts) && is_led c (route_message c its destination Prohibited) n.parts) n (prohibit whole c its destination n) (prohibit-passes its destination n)
  answer_no_route-passes (Some link) None n = passes-none c z j (at c z j w n arrived rest)
  answer_no_route-passes None destination n = passes-none c z j (at c z j w n arrived rest)

  -- a message for a user part that isn't here
  telling-unavailable : (m : Message) (n : Node WholeQueues) → Pass n (send_routed whole c (unavailable c m) n)
  telling-unavailable m n =
      let word : Management = UserPartUnavailable c.own (service_indicator m) Unequipped in
      let fits : opc_of m < 2 ^ 14 = omega arith in
      let small : service_indicator m < 2 ^ 4 = omega arith in
      passes-both c z j _ _ _
      (making c z j w n arrived (unavailable c m) rest (plain-other c z j (opc_of m) word fits (j.near_well.own, small) refl) (made-brief c z j (opc_of m) word))
      (send_routed-passes c z j w n arrived (unavailable c m) rest (made-management c j.near_well (opc_of m) word))

  tell_unavailable-passes : (origin : ℕ) (m : Message) (n : Node WholeQueues) → Pass n (tell_unavailable whole c origin m n)
  tell_unavailable-passes origin m n =
      let next : Node WholeQueues = with_parts n (unequipped_counted origin n.parts) in
      both _ _ _
      (aside-passes c z j w n arrived rest (unequipped_counted origin n.parts) ((fit-steps c).unequipped _ n (length-set n.parts.unequipped origin _)) refl refl refl refl refl refl (λ e. e))
      (either (is_unequipped_told whole c origin m n) next (send_routed whole c (unavailable c m) next) (telling-unavailable m next))

  pub answer_no_user_part-passes : (link origin : Option ℕ) (m : Message) (n : Node WholeQueues) → Pass n (answer_no_user_part whole c link origin m n)
  answer_no_user_part-passes (Some link) (Some origin) m n = either c.user_part_unavailable n (tell_unavailable whole c origin m n) (tell_unavailable-passes origin m n)
  answer_no_user_part-passes (Some link) None m n = passes-none c z j (at c z j w n arrived rest)
  answer_no_user_part-passes None origin m n = passes-none c z j (at c z j w n arrived rest)
