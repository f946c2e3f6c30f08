-- A run of two nodes that share a link set; the near one also has a link to a third node. A message comes from there
-- for the far point, and goes on to it, once.
use Rattle.std.specs.Prelude.{◌≡◌, ℕ, true, false, None, Some, List, [], ◌∷◌, ◌++◌}
use Rattle.signalling_types.specs.Message.{Message}
use Rattle.settings.specs.Configuration.{Configuration}
use Rattle.m2pa_codec.specs.Frames.{MessageFrame, StatusFrame, spelled}
use Rattle.m2pa_codec.specs.declared.status.LinkStatus.{LinkStatus}
use Rattle.m2pa_codec.specs.declared.status.LinkStatus.TheVariants.{Alignment, ProvingNormal, Ready}
use Rattle.pair_rules.specs.Pairs.{PairState, Takes, Delivers, DeliversStatus, Ticks, OpensFirst, OpensSecond, first_pair}
use Rattle.routes.specs.declared.route.RouteStatus.TheVariants.{Allowed, Prohibited}
use Rattle.exchange_rules.specs.Telling.{route_message}
use Rattle.pair_rules.specs.Promises.{IsPunctual, LostNothing, queue_of}
use Rattle.pair_rules.specs.OneEndFirst.{far_settings, ticks}
use Rattle.pair_rules.specs.Sharing.{AreSharing}
use Rattle.neighbour_rules.specs.Neighbours.{Does, OpensElsewhere, HearsElsewhere, Step, AtNear, AtFar, after_steps, far_end, leads_elsewhere}
use Rattle.neighbour_rules.specs.Promises.{waiting}

-- point 1, with a link to point 3, and then two links to point 2, whose links to it are numbers 0 and 1
abbrev pub near_settings : Configuration
near_settings = record {
  own = 1;
  network = 2;
  window = 8;
  pool = 10;
  users = 5 ∷ [];
  subsystems = [];
  extended_unitdata = false;
  subsystem_tests = false;
  user_part_unavailable = false;
  processor_outage = false;
  out_of_service = false;
  changeover_by_any_route = false;
  timers = ticks;
  sets = record { name = 97 ∷ []; adjacent = 3 } ∷ record { name = 98 ∷ []; adjacent = 2 } ∷ [];
  links =
      record { name = 97 ∷ []; set = 0; slc = 0; share = None }
      ∷ record { name = 98 ∷ []; set = 1; slc = 0; share = None }
      ∷ record { name = 99 ∷ []; set = 1; slc = 1; share = None }
      ∷ [];
  destinations =
      record { point = 3; sets = 0 ∷ []; joined = false } ∷ record { point = 2; sets = 1 ∷ []; joined = false } ∷ [];
  titles = [];
}

-- a message of the ISDN user part from point 3 to point 2, with selection 0
abbrev pub the_message : Message
the_message = record { sio = 133; sif = 2 ∷ 192 ∷ 0 ∷ 0 ∷ 7 ∷ [] }

-- ---- steps

-- a link status goes over the link with code 0 between the two, from one end to the other
abbrev pub tells_far : List Step
tells_far = AtNear (Does (Takes 1)) ∷ AtFar (Does (DeliversStatus 0)) ∷ []

abbrev pub tells_near : List Step
tells_near = AtFar (Does (Takes 0)) ∷ AtNear (Does (DeliversStatus 1)) ∷ []

-- User Data goes over it
abbrev pub sends_far : List Step
sends_far = AtNear (Does (Takes 1)) ∷ AtFar (Does (Delivers 0)) ∷ []

-- the number before the first
abbrev pub before_first : ℕ
before_first = 16777215

-- the third node tells the near one a link status
abbrev pub third_tells : LinkStatus → Step
third_tells status = AtNear (HearsElsewhere 0 (spelled (StatusFrame before_first before_first status)))

-- both links open, and their ends prove them
abbrev pub opening : List Step
opening =
    AtNear (Does (OpensFirst 1)) ∷ AtFar (Does (OpensSecond 0))
    ∷ tells_far ++ tells_near ++ tells_near ++ tells_far
    ++ AtNear (OpensElsewhere 0) ∷ third_tells Alignment ∷ third_tells ProvingNormal
    ∷ AtNear (Does Ticks) ∷ AtFar (Does Ticks)
    ∷ tells_far ++ tells_near ++ third_tells Ready ∷ []

-- ---- states, each reached by steps from the one before

abbrev pub served : PairState
served = after_steps opening (first_pair near_settings far_settings)

-- the third node's message comes
abbrev pub its_text : List ℕ
its_text = spelled (MessageFrame before_first 0 the_message.sio the_message.sif)

abbrev pub heard : PairState
heard = after_steps (AtNear (HearsElsewhere 0 its_text) ∷ []) served

-- all that is on the link comes
abbrev pub come : PairState
come = after_steps (sends_far ++ sends_far ++ sends_far) heard

-- and what they show
pub record GoesOn : Type 0 where
  pub sharing : AreSharing near_settings far_settings
  -- link 0 leads to the third node, and link 1 to the far one, if it is number 0
  pub elsewhere : leads_elsewhere served 0 ≡ true
  pub between : far_end served 1 ≡ Some 0
  -- the near end accepts it, and it waits for the far one
  pub accepted : heard.near.accepted ≡ the_message ∷ []
  pub waits : waiting heard ≡ the_message ∷ []
  -- it goes after what the near end told the far one of its route to the third node: prohibited, then allowed
  pub behind :
      (queue_of heard.near 1).all
      ≡ route_message near_settings 1 0 Prohibited ∷ route_message near_settings 1 0 Allowed ∷ the_message ∷ []
  pub missing : heard.far.received ≡ []
  -- it comes, and no flag is raised
  pub received : come.far.received ≡ the_message ∷ []
  pub none_waits : waiting come ≡ []
  pub lost_nothing : LostNothing come
  pub punctual : IsPunctual come
