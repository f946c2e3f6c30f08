-- A run of two exchanges: their only message is on a link that fails with it. The link opens again at one end, and
-- falls there before the other follows. The message comes by the other link, once.
use Rattle.std.specs.Prelude.{◌≡◌, ℕ, true, false, None, List, [], ◌∷◌, ◌++◌}
use Rattle.signalling_types.specs.Message.{Message, flow_of}
use Rattle.settings.specs.Configuration.{Configuration}
use Rattle.settings.specs.declared.timer_ticks.TimerTicks.{TimerTicks}
use Rattle.pair_rules.specs.Pairs.{PairState, Step, AtNear, AtFar, Submits, Takes, Delivers, DeliversStatus, Loses, Ticks}
use Rattle.pair_rules.specs.Pairs.{OpensFirst, OpensSecond, after_steps, first_pair, may_follow}
use Rattle.pair_rules.specs.Promises.{AreJoined, IsPunctual, LostNothing, of_flow, waiting_on}
use Rattle.pair_rules.specs.Laws.{is_down_at}

-- proving takes one tick, and no other timer runs out in the run
abbrev pub ticks : TimerTicks
ticks = record {
  l1 = 9;
  l2 = 9;
  l3 = 9;
  l4 = 1;
  l6 = 9;
  l7 = 9;
  t1 = 9;
  t2 = 9;
  t3 = 9;
  t4 = 9;
  t6 = 9;
  t8 = 9;
  t10 = 9;
  link_tests = None;
  l4e = None;
  sst = None;
  t2_bar = None;
}

-- a point with two links to another
abbrev pub settings_of : (own adjacent : ℕ) → Configuration
settings_of own adjacent = record {
  own = own;
  network = 2;
  window = 8;
  pool = 10;
  users = 5 ∷ [];
  subsystems = [];
  extended_unitdata = false;
  subsystem_tests = false;
  user_part_unavailable = false;
  processor_outage = false;
  out_of_service = false;
  changeover_by_any_route = false;
  timers = ticks;
  sets = record { name = 97 ∷ []; adjacent = adjacent } ∷ [];
  links =
      record { name = 97 ∷ []; set = 0; slc = 0; share = None }
      ∷ record { name = 98 ∷ []; set = 0; slc = 1; share = None }
      ∷ [];
  destinations = record { point = adjacent; sets = 0 ∷ []; joined = false } ∷ [];
  titles = [];
}

abbrev pub near_settings : Configuration
near_settings = settings_of 1 2

abbrev pub far_settings : Configuration
far_settings = settings_of 2 1

-- a message of the ISDN user part from point 1 to point 2, with selection 0
abbrev pub the_message : Message
the_message = record { sio = 133; sif = 2 ∷ 64 ∷ 0 ∷ 0 ∷ 7 ∷ [] }

-- ---- steps

-- a link status goes from one end to the other
abbrev pub tells_far : (link : ℕ) → List Step
tells_far link = AtNear (Takes link) ∷ AtFar (DeliversStatus link) ∷ []

abbrev pub tells_near : (link : ℕ) → List Step
tells_near link = AtFar (Takes link) ∷ AtNear (DeliversStatus link) ∷ []

-- User Data does
abbrev pub sends_far : (link : ℕ) → List Step
sends_far link = AtNear (Takes link) ∷ AtFar (Delivers link) ∷ []

abbrev pub sends_near : (link : ℕ) → List Step
sends_near link = AtFar (Takes link) ∷ AtNear (Delivers link) ∷ []

-- a link opens at one end and then at the other, and both ends prove it
abbrev pub aligns : (link : ℕ) → List Step
aligns link =
    AtNear (OpensFirst link) ∷ AtFar (OpensSecond link)
    ∷ tells_far link ++ tells_near link ++ tells_near link ++ tells_far link

-- both links enter service
abbrev pub opening : List Step
opening =
    aligns 0 ++ aligns 1 ++ AtNear Ticks ∷ AtFar Ticks
    ∷ tells_far 0 ++ tells_near 0 ++ tells_far 1 ++ tells_near 1

-- that link is lost at both ends; the near end's order comes, and the far end's is on its way
abbrev pub ordering : List Step
ordering = AtNear (Loses 0) ∷ AtFar (Loses 0) ∷ sends_far 1 ++ AtFar (Takes 1) ∷ []

-- both answers come, each after a declaration that was on the link
abbrev pub answering : List Step
answering = sends_near 1 ++ sends_near 1 ++ sends_far 1 ++ sends_far 1

-- ---- states, each reached by steps from the one before

abbrev pub served : PairState
served = after_steps opening (first_pair near_settings far_settings)

abbrev pub submitted : PairState
submitted = after_steps (AtNear (Submits the_message) ∷ []) served

abbrev pub ordered : PairState
ordered = after_steps ordering submitted

abbrev pub completed : PairState
completed = after_steps (AtNear (Delivers 1) ∷ []) ordered

abbrev pub answered : PairState
answered = after_steps answering completed

abbrev pub opened : PairState
opened = after_steps (AtNear (OpensFirst 0) ∷ []) answered

abbrev pub fallen : PairState
fallen = after_steps (AtNear (Loses 0) ∷ []) opened

abbrev pub come : PairState
come = after_steps (sends_far 1) fallen

-- and what they show
pub record ComesOnce : Type 0 where
  pub joined : AreJoined near_settings far_settings
  -- it is accepted, and waits on the first link
  pub accepted : submitted.near.accepted ≡ the_message ∷ []
  pub waits : waiting_on submitted 0 ≡ the_message ∷ []
  -- this link fails at both ends, and the message never crossed it
  pub near_down : is_down_at ordered.near 0 ≡ true
  pub far_down : is_down_at ordered.far 0 ≡ true
  -- it opens at the near end, and falls there; the far end may follow all the time, and never does
  pub up : is_down_at opened.near 0 ≡ false
  pub follows : may_follow opened.far 0 ≡ true
  pub fell : is_down_at fallen.near 0 ≡ true
  pub unfollowed : may_follow fallen.far 0 ≡ true
  pub missing : fallen.far.received ≡ []
  -- the message comes, as all that its flow has, and no flag is raised
  pub received : come.far.received ≡ the_message ∷ []
  pub of_its_flow : of_flow (flow_of the_message) come.far.received ≡ the_message ∷ []
  pub lost_nothing : LostNothing come
  pub punctual : IsPunctual come
