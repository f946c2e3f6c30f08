-- Points 1 and 2, joined by a link, are a hop; and from point 1 a set of two links leads out, to point 3, which has no
-- node. One of these fails. The order and the answer from point 3 come by the other, and neither point is broken.
use Rattle.std.specs.Prelude.{◌≡◌, ◌-◌, ◌^◌, ℕ, true, false, List, [], ◌∷◌, ◌++◌, map, nat_eq, if◌then◌else◌}
use Rattle.settings.specs.Configuration.{Configuration}
use Rattle.m2pa_codec.specs.Frames.{MessageFrame, StatusFrame, spelled}
use Rattle.m2pa_codec.specs.declared.status.LinkStatus.{LinkStatus}
use Rattle.m2pa_codec.specs.declared.status.LinkStatus.TheVariants.{Alignment, ProvingNormal, Ready}
use Rattle.mtp3_codec.specs.Management.{management_octets}
use Rattle.mtp3_codec.specs.declared.management.Management.{Management}
use Rattle.mtp3_codec.specs.declared.management.Management.TheVariants.{ExtendedChangeoverAcknowledgement, ExtendedChangeoverOrder}
use Rattle.changeover.specs.Changeover.{may_restart}
use Rattle.exchange_rules.specs.ChangingOver.{changeover_of}
use Rattle.exchange_rules.specs.State.{down}
use Rattle.node_moves.specs.Anew.{Change, Does, OpensOutside, ComesOutside, AreOfOthers, AreUnbrokenSince, NothingIsLeft}
use Rattle.node_moves.specs.Anew.{HaveLostNothingSince, after_changes, begun_anew}
use Rattle.node_moves.specs.Hops.{IsHop}
use Rattle.node_moves.specs.HopRun.{message_three}
use Rattle.node_moves.specs.MatedPair.{link_of_set, without_links}
use Rattle.node_moves.specs.MatedRun.{AnAnswer, AnOrder, Line, aligns, delivered, sends, serves, submits, turned}
use Rattle.node_moves.specs.MatedRun.{users, users_in, words}
use Rattle.node_moves.specs.Networks.{NetworkState, Step, Delivers, DeliversStatus, Loses, OpensSecond, Takes}
use Rattle.node_moves.specs.Networks.{Ticks, first_network, messages_of}
use Rattle.node_moves.specs.Outside.{ArePlaced, leads_out}

-- ---- settings

abbrev pub near_settings : Configuration
near_settings = record (without_links 1) {
  sets = record { name = 97 ∷ []; adjacent = 3 } ∷ record { name = 99 ∷ []; adjacent = 2 } ∷ [];
  links = link_of_set 97 0 ∷ record (link_of_set 98 0) { slc = 1 } ∷ link_of_set 99 1 ∷ [];
  destinations =
      record { point = 3; sets = 0 ∷ []; joined = false } ∷ record { point = 2; sets = 1 ∷ []; joined = false } ∷ [];
}

abbrev pub far_settings : Configuration
far_settings = record (without_links 2) {
  sets = record { name = 99 ∷ []; adjacent = 1 } ∷ [];
  links = link_of_set 99 0 ∷ [];
  destinations = record { point = 1; sets = 0 ∷ []; joined = false } ∷ [];
}

abbrev pub beside : (point : ℕ) → Configuration
beside point =
    if nat_eq point 1 then near_settings
    else if nat_eq point 2 then far_settings
    else without_links point

-- ---- changes

-- the link between the two
abbrev pub between : Line
between = record { here = record { point = 1; link = 2 }; there = record { point = 2; link = 0 } }

abbrev pub does : Step → Change
does step = Does step

abbrev pub at_near : List Step → List Change
at_near steps = map does steps

-- the number before the first one
abbrev pub none_yet : ℕ
none_yet = 2 ^ 24 - 1

-- point 3 tells point 1 a link status by a link
abbrev pub told : (link : ℕ) → LinkStatus → List Change
told link status =
    ComesOutside 1 link (spelled (StatusFrame none_yet none_yet status))
    ∷ Does (record { point = 1; what = DeliversStatus link })
    ∷ []

-- what waits on a link of point 1 goes out, a frame
abbrev pub taken : (link : ℕ) → List Change
taken link = Does (record { point = 1; what = Takes link }) ∷ []

-- a link to point 3 opens there first, and both ends prove it
abbrev pub aligns_outside : (link : ℕ) → List Change
aligns_outside link =
    OpensOutside 1 link
    ∷ Does (record { point = 1; what = OpensSecond link })
    ∷ taken link ++ told link Alignment ++ taken link ++ told link ProvingNormal

-- both ends are ready
abbrev pub serves_outside : (link : ℕ) → List Change
serves_outside link = taken link ++ told link Ready

-- the link between the two enters service, and what each tells the other of routes comes
abbrev pub opening : List Change
opening =
    at_near (aligns between)
    ++ at_near (record { point = 1; what = Ticks } ∷ record { point = 2; what = Ticks } ∷ [])
    ++ at_near (serves between)
    ++ at_near (sends between ++ sends (turned between) ++ sends between ++ sends (turned between))

-- and so do the links to point 3, and what waits on them goes out
abbrev pub leading_out : List Change
leading_out =
    aligns_outside 0 ++ aligns_outside 1 ++ at_near (record { point = 1; what = Ticks } ∷ [])
    ++ serves_outside 0 ++ serves_outside 1
    ++ taken 0 ++ taken 1 ++ taken 0 ++ taken 1 ++ taken 0 ++ taken 1

-- management from point 3 to point 1 comes by the second link, as the message with this number
abbrev pub says : (number : ℕ) → Management → List Change
says number word =
    ComesOutside 1 1 (spelled (MessageFrame none_yet number 128 (management_octets 1 3 word)))
    ∷ Does (record { point = 1; what = Delivers 1 })
    ∷ []

-- the first link fails: its order goes out by the second one
abbrev pub failing : List Change
failing = Does (record { point = 1; what = Loses 0 }) ∷ taken 1 ++ taken 1

-- and so come the order and the answer from point 3, at which nothing was accepted on that link
abbrev pub changing_over : List Change
changing_over =
    says 0 (ExtendedChangeoverOrder 0 none_yet) ++ taken 1 ++ says 1 (ExtendedChangeoverAcknowledgement 0 none_yet)

-- ---- states

abbrev pub begun : NetworkState
begun = begun_anew (first_network beside)

-- a message for point 2 is on its way
abbrev pub to_changeover : List Change
to_changeover = opening ++ Does (submits message_three) ∷ leading_out ++ failing

abbrev pub on_its_own : NetworkState
on_its_own = after_changes beside to_changeover begun

abbrev pub run_beside : List Change
run_beside = to_changeover ++ changing_over ++ at_near (sends between)

abbrev pub come : NetworkState
come = after_changes beside run_beside begun

-- ---- and what they show

pub record ComesByAnotherLink : Type 0 where
  -- what the law of hops asks
  pub theirs : ArePlaced beside
  pub hop : IsHop beside 1 2
  pub left : NothingIsLeft beside 1 2 (first_network beside)
  pub others : AreOfOthers 1 2 run_beside
  pub unbroken : AreUnbrokenSince 1 2 (first_network beside) come
  pub none_lost : HaveLostNothingSince 1 2 (first_network beside) come
  -- both links of the set lead out
  pub first_leads_out : leads_out beside 1 0 ≡ true
  pub second_leads_out : leads_out beside 1 1 ≡ true
  -- the first is down at point 1, which awaits the answer
  pub fails : down (on_its_own.node 1).node.parts 0 ≡ true
  pub goes_on : (changeover_of (on_its_own.node 1).node.parts 0).incomplete ≡ true
  pub awaits : (changeover_of (on_its_own.node 1).node.parts 0).awaited ≡ true
  -- the order and the answer came by the second, and the changeover is complete: so the first may open again
  pub words_by_second : words (messages_of ((come.node 1).came 1)) ≡ AnOrder ∷ AnAnswer ∷ []
  pub words_by_first : words (messages_of ((come.node 1).came 0)) ≡ []
  pub opens : may_restart (changeover_of (come.node 1).node.parts 0) ≡ true
  -- the message for point 2 was accepted, and comes, once
  pub accepted : users (come.node 1).accepted ≡ message_three ∷ []
  pub comes : users_in ((come.node 2).came 0) ≡ delivered message_three ∷ []
