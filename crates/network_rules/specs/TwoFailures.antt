-- A run of three nodes in a row, of which each two neighbours share two links. A message that one end of the row has
-- for the other is sent on a link that fails, on either side of the middle node. It comes by the other links, once.
use Rattle.std.specs.Prelude.{◌≡◌, ℕ, false, true, nat_eq, not, List, [], ◌∷◌, ◌++◌, filter, None, if◌then◌else◌}
use Rattle.signalling_types.specs.Message.{flow_of, is_management}
use Rattle.signalling_types.specs.declared.outcome.Outcome.TheVariants.{Queued}
use Rattle.settings.specs.Configuration.{Configuration}
use Rattle.m2pa_codec.specs.Frames.{MessageFrame, spelled}
use Rattle.exchange_rules.specs.Conserving.{standing}
use Rattle.exchange_rules.specs.Exchange.{outcome_of}
use Rattle.exchange_rules.specs.Queues.{whole}
use Rattle.exchange_rules.specs.State.{Submitted, late_any, lost_any}
use Rattle.pair_rules.specs.Pairs.{Doing, Submits, Takes, Delivers, DeliversStatus, Loses, Ticks, OpensFirst, OpensSecond, in_flight}
use Rattle.pair_rules.specs.Laws.{is_down_at}
use Rattle.pair_rules.specs.OneEndFirst.{settings_of}
use Rattle.pair_rules.specs.Sharing.{AreSharing}
use Rattle.neighbour_rules.specs.ThirdNode.{the_message}
use Rattle.network_rules.specs.Networks.{Arrival, NetworkNode, NetworkState, Place, Step, after_steps, end_of, first_network}
use Rattle.network_rules.specs.Pairs.{AreTheirPoints, AreWellOrAlone}
use Rattle.network_rules.specs.Totals.{HaveLostNothing, IsJoined}
use Rattle.network_rules.specs.Paths.{ComesInOrder, EachHopInOrder, EachOnlyPasses}
use Rattle.network_rules.specs.Hops.{AreOpenHops}

-- a point at an end of the row, with two links to point 1, by which it reaches the other end too
abbrev pub end_settings : (own other : ℕ) → Configuration
end_settings own other = record (settings_of own 1) {
  destinations =
      record { point = 1; sets = 0 ∷ []; joined = false }
      ∷ record { point = other; sets = 0 ∷ []; joined = false }
      ∷ [];
}

-- point 1 between them: its links 0 and 1 lead to point 3, and its links 2 and 3 to point 2
abbrev pub middle_settings : Configuration
middle_settings = record (settings_of 1 3) {
  sets = record { name = 97 ∷ []; adjacent = 3 } ∷ record { name = 98 ∷ []; adjacent = 2 } ∷ [];
  links =
      record { name = 97 ∷ []; set = 0; slc = 0; share = None }
      ∷ record { name = 98 ∷ []; set = 0; slc = 1; share = None }
      ∷ record { name = 99 ∷ []; set = 1; slc = 0; share = None }
      ∷ record { name = 100 ∷ []; set = 1; slc = 1; share = None }
      ∷ [];
  destinations =
      record { point = 3; sets = 0 ∷ []; joined = false } ∷ record { point = 2; sets = 1 ∷ []; joined = false } ∷ [];
}

-- a point with no node
abbrev pub no_settings : (point : ℕ) → Configuration
no_settings point = record (settings_of point point) { sets = []; links = []; destinations = [] }

abbrev pub row : (point : ℕ) → Configuration
row point =
    if nat_eq point 1 then middle_settings
    else if nat_eq point 2 then end_settings 2 3
    else if nat_eq point 3 then end_settings 3 2
    else no_settings point

-- ---- steps

-- a link, seen from one of its ends
pub record Line : Type 0 where
  pub here : Place
  pub there : Place

abbrev pub turned : Line → Line
turned l = record { here = l.there; there = l.here }

-- two links between points 3 and 1, and two between points 1 and 2
abbrev pub first_line : Line
first_line = record { here = record { point = 3; link = 0 }; there = record { point = 1; link = 0 } }

abbrev pub second_line : Line
second_line = record { here = record { point = 3; link = 1 }; there = record { point = 1; link = 1 } }

abbrev pub third_line : Line
third_line = record { here = record { point = 1; link = 2 }; there = record { point = 2; link = 0 } }

abbrev pub fourth_line : Line
fourth_line = record { here = record { point = 1; link = 3 }; there = record { point = 2; link = 1 } }

-- something is done at an end of a link
abbrev pub done_at : Place → (ℕ → Doing) → Step
done_at end what = record { point = end.point; what = what end.link }

-- a link status goes over a link; User Data does
abbrev pub tells : Line → List Step
tells l = done_at l.here Takes ∷ done_at l.there DeliversStatus ∷ []

abbrev pub sends : Line → List Step
sends l = done_at l.here Takes ∷ done_at l.there Delivers ∷ []

-- a link opens at one end after the other, and both ends prove it
abbrev pub aligns : Line → List Step
aligns l =
    done_at l.here OpensFirst ∷ done_at l.there OpensSecond
    ∷ tells l ++ tells (turned l) ++ tells (turned l) ++ tells l

-- both ends are ready
abbrev pub serves : Line → List Step
serves l = tells l ++ tells (turned l)

-- all four links enter service, those between points 1 and 2 first
abbrev pub opening : List Step
opening =
    aligns first_line ++ aligns second_line ++ aligns third_line ++ aligns fourth_line
    ++ record { point = 1; what = Ticks } ∷ record { point = 2; what = Ticks } ∷ record { point = 3; what = Ticks }
    ∷ serves third_line ++ serves fourth_line ++ serves first_line ++ serves second_line

-- a link fails at one end after the other
abbrev pub fails : Line → List Step
fails l = done_at l.here Loses ∷ done_at l.there Loses ∷ []

-- all that the nodes tell each other of routes, and by which links take their flows back, comes
abbrev pub settling : List Step
settling =
    sends third_line ++ sends third_line ++ sends third_line ++ sends (turned third_line) ++ sends (turned third_line)
    ++ sends fourth_line ++ sends (turned fourth_line)
    ++ sends first_line ++ sends first_line ++ sends (turned first_line)
    ++ sends second_line ++ sends (turned second_line)

-- an order comes by another link, and one from there is on its way
abbrev pub ordering : Line → List Step
ordering l = sends l ++ done_at l.there Takes ∷ []

-- both answers come, and then the message is on its way
abbrev pub answering : Line → List Step
answering l = sends (turned l) ++ sends l ++ done_at l.here Takes ∷ []

-- ---- states, each by steps from the one before

abbrev pub served : NetworkState
served = after_steps (opening ++ settling) (first_network row)

abbrev pub submitted : NetworkState
submitted = after_steps (record { point = 3; what = Submits the_message } ∷ []) served

-- it is on its way by one link, that fails, and then by the other, by which it comes to point 1
abbrev pub sent : NetworkState
sent = after_steps (done_at first_line.here Takes ∷ []) submitted

abbrev pub failed : NetworkState
failed = after_steps (fails first_line ++ ordering second_line) sent

abbrev pub moved : NetworkState
moved = after_steps (done_at second_line.here Delivers ∷ answering second_line) failed

abbrev pub passed : NetworkState
passed = after_steps (done_at second_line.there Delivers ∷ []) moved

-- and so it does on to point 2
abbrev pub sent_on : NetworkState
sent_on = after_steps (done_at third_line.here Takes ∷ []) passed

abbrev pub failed_on : NetworkState
failed_on = after_steps (fails third_line ++ ordering fourth_line) sent_on

abbrev pub moved_on : NetworkState
moved_on = after_steps (done_at fourth_line.here Delivers ∷ answering fourth_line) failed_on

-- it comes, and is acknowledged on both sides
abbrev pub come : NetworkState
come =
    after_steps (done_at fourth_line.there Delivers ∷ sends (turned fourth_line) ++ sends (turned second_line)) moved_on

-- ---- and what they show

-- the user messages that came to a node
abbrev pub users_come : NetworkNode → List Arrival
users_come x = filter (λ a. not (is_management a.message)) x.arrived

-- the message in User Data of these numbers, as octets
abbrev pub its_text : (bsn fsn : ℕ) → List ℕ
its_text bsn fsn = spelled (MessageFrame bsn fsn the_message.sio the_message.sif)

-- no flag was raised at a node, it refused nothing that came for another point, and no user message waits there, in
-- Held or on a link
pub record IsDone (x : NetworkNode) : Type 0 where
  pub lost_nothing : lost_any x.exchange.node.parts ≡ false
  pub punctual : late_any x.exchange.node.parts ≡ false
  pub refused : x.refused ≡ []
  pub none_waits : standing (λ m. true) x.exchange.node.queues ≡ 0

pub record CrossesTwoFailures : Type 0 where
  -- the premises hold, of both pairs of neighbours and of the whole
  pub points : AreTheirPoints row
  pub well : AreWellOrAlone row
  pub first_sharing : AreSharing (row 1) (row 3)
  pub second_sharing : AreSharing (row 1) (row 2)
  pub joined : IsJoined row (1 ∷ 2 ∷ 3 ∷ [])
  pub kept : HaveLostNothing (1 ∷ 2 ∷ 3 ∷ []) come
  -- point 3 queues the message on its first link
  pub outcome : outcome_of whole (Submitted the_message) (served.node 3).exchange ≡ Queued 0
  -- it is in flight there, the link fails at both ends, and it didn't come to point 1
  pub flies : in_flight (sent.node 1).incoming.user_data 0 ≡ its_text 0 2 ∷ []
  pub third_down : is_down_at (end_of (failed.node 3)) 0 ≡ true
  pub near_down : is_down_at (end_of (failed.node 1)) 0 ≡ true
  pub missing : users_come (moved.node 1) ≡ []
  -- it comes there by the second link
  pub passes : users_come (passed.node 1) ≡ record { link = 1; message = the_message } ∷ []
  -- it is in flight on the first link to point 2, this fails at both ends, and it didn't come to point 2
  pub flies_on : in_flight (sent_on.node 2).incoming.user_data 0 ≡ its_text 1 3 ∷ []
  pub near_down_on : is_down_at (end_of (failed_on.node 1)) 2 ≡ true
  pub far_down : is_down_at (end_of (failed_on.node 2)) 0 ≡ true
  pub missing_on : users_come (moved_on.node 2) ≡ []
  -- it comes there by the second link: so it entered the network once, and each node on its way saw it once
  pub comes : users_come (come.node 2) ≡ record { link = 1; message = the_message } ∷ []
  pub comes_through : users_come (come.node 1) ≡ record { link = 1; message = the_message } ∷ []
  pub goes_in : users_come (come.node 3) ≡ []
  pub third_entered : (come.node 3).entered ≡ the_message ∷ []
  pub near_entered : (come.node 1).entered ≡ []
  pub far_entered : (come.node 2).entered ≡ []
  pub third_accepted : (come.node 3).accepted ≡ the_message ∷ []
  pub near_accepted : (come.node 1).accepted ≡ the_message ∷ []
  pub far_accepted : (come.node 2).accepted ≡ []
  -- each hop keeps its flow in order, and at point 1 it comes from point 3 alone
  pub hops : EachHopInOrder (flow_of the_message) come 3 (1 ∷ 2 ∷ [])
  pub passes_only : EachOnlyPasses (flow_of the_message) come 3 (1 ∷ 2 ∷ [])
  -- each hop has what the law of paths asks, so the flow came over the path in order
  pub open_hops : AreOpenHops row come (flow_of the_message) 3 (1 ∷ 2 ∷ [])
  pub in_order : ComesInOrder (flow_of the_message) come 3 (1 ∷ 2 ∷ [])
  -- no flag is raised, nothing was refused, and nothing waits any more
  pub third_done : IsDone (come.node 3)
  pub near_done : IsDone (come.node 1)
  pub far_done : IsDone (come.node 2)
