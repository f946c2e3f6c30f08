-- Laws of orders to change over at a node of two sets of one link each, to points 2 and 3, each of which leads to both:
-- wrong definitions make them false here.
use Rattle.std.specs.Prelude.{◌≡◌, true, false, [], ◌∷◌, None}
use Rattle.signalling_types.specs.Message.{Message}
use Rattle.signalling_types.specs.declared.notice.FailureReason.TheVariants as reasons
use Rattle.settings.specs.Configuration.{Configuration}
use Rattle.link.specs.declared.alignment.Alignment.{Alignment}
use Rattle.link.specs.declared.alignment.Alignment.TheVariants.{Down, InService}
use Rattle.link.specs.Queue.{first_queue}
use Rattle.node_links.specs.NodeLinks.{down_link}
use Rattle.changeover.specs.Changeover.{Standing, no_changeover}
use Rattle.exchange_rules.specs.State.{Node}
use Rattle.exchange_rules.specs.Queues.{WholeQueues, queue_at, whole}
use Rattle.exchange_rules.specs.First.{first_parts}
use Rattle.exchange_rules.specs.ChangingOver.{changeover_of, fail, on_changeover_order}
use Rattle.exchange_rules.specs.RuleExamples.{settings}

-- its orders go by any route
abbrev pub mated : Configuration
mated = record settings {
  changeover_by_any_route = true;
  sets = record { name = []; adjacent = 2 } ∷ record { name = []; adjacent = 3 } ∷ [];
  links = record { name = []; set = 0; slc = 0; share = None }
      ∷ record { name = []; set = 1; slc = 0; share = None } ∷ [];
  destinations = record { point = 2; sets = 0 ∷ 1 ∷ []; joined = false }
      ∷ record { point = 3; sets = 1 ∷ 0 ∷ []; joined = false } ∷ [];
}

-- the node, with the link to point 2 in a state and its changeover as far as this; the link to point 3 is in service
abbrev pub node_at : Alignment → Standing → Node WholeQueues
node_at alignment standing = record {
  queues = record { held = []; links = first_queue ∷ first_queue ∷ [] };
  parts = record (first_parts mated) {
    links = record down_link { alignment = alignment; association = true }
        ∷ record down_link { alignment = InService; association = true } ∷ [];
    changeovers = standing ∷ no_changeover ∷ [];
  };
}

-- the link to point 2 fails: an order goes out by way of point 3
abbrev pub order_goes_by_the_mate : Type 0
order_goes_by_the_mate =
    (changeover_of (fail whole mated 0 reasons.Association (node_at InService no_changeover)).parts 0).awaited ≡ true

-- its changeover is over, and an order of point 2 comes: XCA goes there (Q.2210 §9.8), with no number accepted
abbrev pub acknowledgement : Message
acknowledgement = record { sio = 128; sif = 2 ∷ 64 ∷ 0 ∷ 0 ∷ 65 ∷ 255 ∷ 255 ∷ 255 ∷ [] }

abbrev pub late_order_is_answered : Type 0
late_order_is_answered =
    (queue_at (on_changeover_order whole mated 0 None (node_at Down no_changeover)).left.queues 1).all
    ≡ acknowledgement ∷ []

-- the answer to its own order is awaited still, after an order of point 2
abbrev pub wait_outlasts_an_order : Type 0
wait_outlasts_an_order =
    (changeover_of
    (on_changeover_order whole mated 0 None (node_at Down (record { incomplete = true; awaited = true }))).left.parts 0).awaited
    ≡ true
