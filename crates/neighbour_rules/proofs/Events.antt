-- Whole events at the near node: by moves.
use Rattle.pair_rules.proofs.Basics.{◌≡◌, [], true, refl}
use Rattle.pair_rules.proofs.Definitions.{Message, Configuration, Node, Done, Happening, Submitted, WholeQueues, whole, all_wait, release, settled, handle_event, apply, submit_to, whither_goes, brought_to}
use Rattle.pair_rules.proofs.World.{World}
use Rattle.neighbour_rules.proofs.Good.{Joint, Passes, at, passes-both}
use Rattle.neighbour_rules.proofs.Bringing.{accepting, submitted}
use Rattle.neighbour_rules.proofs.Messages.{release-passes}
use Rattle.neighbour_rules.proofs.Telling.{tell_owed-passes}

module _ (c z : Configuration) (j : Joint c z) where
  -- the end of each: messages are released, and what is owed is told
  pub settled-passes : (w : World) (d : Done WholeQueues) → Passes c z j (at c z j w d.left [] []) (at c z j w (settled whole c d).left [] [])
  settled-passes w d = passes-both c z j _ _ _ (release-passes c z j w d.left []) (tell_owed-passes c z j w [] [] (release whole c d.left))

  pub event-passes : (what : Happening) (w v : World) (n : Node WholeQueues) → Passes c z j (at c z j w n [] []) (at c z j v (handle_event whole c what n).left [] [])
      → Passes c z j (at c z j w n [] []) (at c z j v (apply whole c what n).left [] [])
  unfolding apply
  event-passes what w v n p = passes-both c z j _ _ _ p (settled-passes v (handle_event whole c what n))

  -- a user part hands a message over, to whatever point
  pub submitting-passes : (m : Message) (w : World) (n : Node WholeQueues) → all_wait c n.parts.holds n.queues.held ≡ true
      → Passes c z j (at c z j w n [] [])
      (at c z j (accepting c z j w (brought_to (whither_goes c m) (submit_to whole c (whither_goes c m) m n).outcome c m n)) (apply whole c (Submitted m) n).left [] [])
  submitting-passes m w n wait =
      event-passes (Submitted m) w (accepting c z j w (brought_to (whither_goes c m) (submit_to whole c (whither_goes c m) m n).outcome c m n)) n
      (submitted c z j (whither_goes c m) w n m refl wait)
