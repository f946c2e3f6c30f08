-- Two nodes that share a link set, in the midst of an event at the near one, and the machine of moves as it shows them.
-- Its lines are the links between the two, by their signalling link codes: each node finds its own link by its set and
-- the code.
use Rattle.pair_rules.proofs.Basics.{◌≡◌, ℕ, Bool, true, false, ◌&&◌, ◌||◌, Option, Some, None, Result, Ok, Err, length, nat_eq, nat_lt, refl, ap, if◌then◌else◌, option_map}
use Rattle.std.specs.List.{position_or_len}
use Rattle.std.specs.Prelude.{map}
use Rattle.pair_rules.proofs.Definitions.{SELECTIONS, Message, dpc_of, is_management, Flow, Configuration, read_management, MgmtFault, Management, Procedure, is_outstanding, Parts, destination_place, entry_of, link_of, Reading, Saying, UserMessage, Order, Answer, Declaration, Confirmation, LinkEnd, Line, Side, Pair}
use Rattle.settings.specs.Sharing.{is_link_of}
use Rattle.mtp3_codec.specs.declared.management.Management.TheVariants as says
use Rattle.flow_hold.specs.Holds as hold
use Rattle.flow_hold.specs.declared.procedure.Procedure.TheVariants as held_by
use Rattle.pair_moves.specs.Ends as ends
use Rattle.pair_moves.specs.Sayings.{Other, turned_reading}
use Rattle.pair_rules.proofs.World.{Mid, World, end_of, frame_of, turned_world}
use Rattle.neighbour_rules.specs.Neighbours.{is_management_between}
use Rattle.neighbour_rules.proofs.Counted.{Base, Counts, turned_base}

-- ---- what messages say to the two

-- what neither of the two says to the other: no message that passes by says it
abbrev pub unsaid : Saying
unsaid = Confirmation 0

abbrev pub management_says : Management → Saying
management_says (says.ExtendedChangeoverOrder slc number) = Order slc number
management_says (says.ExtendedChangeoverAcknowledgement slc number) = Answer slc number
management_says (says.ChangebackDeclaration slc code) = Declaration code
management_says (says.ChangebackAcknowledgement slc code) = Confirmation code
management_says (says.EmergencyChangeoverOrder slc) = unsaid
management_says (says.EmergencyChangeoverAcknowledgement slc) = unsaid
management_says _ = Other

abbrev pub read_says : Result Management MgmtFault → Saying
read_says (Ok m) = management_says m
read_says (Err fault) = Other

-- management from either to the other, and user messages for one point, be it the other or another beyond it
abbrev pub is_between : (one two : ℕ) → Message → Bool
is_between one two m = is_management_between one two m || is_management_between two one m

abbrev pub says_by : (management between for_point : Bool) → Message → Saying
says_by true true for_point m = read_says (read_management m.sif)
says_by true false for_point m = Other
says_by false between true m = UserMessage
says_by false between false m = Other

abbrev pub says_of : (one two point : ℕ) → Message → Saying
says_of one two point m = says_by (is_management m) (is_between one two m) (nat_eq (dpc_of m) point) m

-- what goes from the one to the other, and what comes back
abbrev pub reading : (one two : ℕ) → Base → Reading
reading one two base = record { there = says_of one two base.there; back = says_of one two base.back }

-- it is the same by either
or-swapped : (a b : Bool) → (a || b) ≡ (b || a)
or-swapped true true = refl
or-swapped true false = refl
or-swapped false true = refl
or-swapped false false = refl

each-alike : (one two point : ℕ) (m : Message) → says_of one two point m ≡ says_of two one point m
each-alike one two point m =
    ap (λ (b : Bool). says_by (is_management m) b (nat_eq (dpc_of m) point) m) (or-swapped (is_management_between one two m) (is_management_between two one m))

pub says-alike : (one two point : ℕ) → says_of one two point ≡ says_of two one point
says-alike one two point = λ i. λ m. each-alike one two point m i

pub reads-alike : (one two : ℕ) (base : Base) → turned_reading (reading one two base) ≡ reading two one (turned_base base)
reads-alike one two base = λ i. record { there = says-alike one two base.back i; back = says-alike one two base.there i }

-- ---- lines

-- the number of signalling link codes (Q.704 §15.2)
abbrev pub codes : ℕ
codes = 16

-- the link of a set with a code; a number that no link has, where there is none
abbrev pub link_at_code : Configuration → (set code : ℕ) → ℕ
link_at_code c set code = position_or_len (is_link_of set code) c.links

abbrev pub code_of : Configuration → (link : ℕ) → ℕ
code_of c link = (entry_of c link).slc

-- ---- what is shown of a node

-- of one with a set that leads to the other, and to the point for which its messages are
module _ (c : Configuration) (to set : ℕ) where
  abbrev pub procedure_of : ends.Procedure → Procedure
  procedure_of (ends.Changeover code) = held_by.Changeover (link_at_code c set code)
  procedure_of (ends.Code code) = held_by.Code set code
  procedure_of (ends.Time code) = held_by.Time (link_at_code c set code)

  abbrev pub holds_at : Option ℕ → Parts → ends.Procedure → (sls : ℕ) → Bool
  holds_at (Some destination) p procedure sls = hold.holds p.holds (procedure_of procedure) destination sls
  holds_at None p procedure sls = false

  -- of the flows to that point alone
  abbrev pub holds_of : Parts → ends.Procedure → Flow → Bool
  holds_of p procedure flow = nat_eq flow.point to && holds_at (destination_place c to) p procedure flow.sls

  abbrev pub route_of : Parts → Flow → Option ℕ
  route_of p flow = if nat_eq flow.point to && nat_lt flow.sls SELECTIONS then option_map (code_of c) (link_of c p flow) else None

  -- what it lost, and what went late, counts from a base on
  abbrev pub side_by : Counts → (given_up : ℕ → Bool) → (Flow → Option ℕ) → Mid → Side
  side_by base given_up route m = record {
    accepted = m.accepted;
    received = m.received;
    arrived = m.arrived;
    held = m.node.queues.held;
    loose = m.loose;
    route = route;
    holds = holds_of m.node.parts;
    outstanding = λ code. is_outstanding m.node.parts.codes set code;
    given_up = given_up;
    lost = nat_lt base.lost m.node.parts.times_lost;
    late = nat_lt base.late m.node.parts.times_late;
  }

  abbrev pub end_at : Mid → (code : ℕ) → LinkEnd
  end_at m code = end_of m.node (link_at_code c set code)

-- ---- a pair

module _ (c z : Configuration) (near_set far_set : ℕ) where
  abbrev pub line_of : World → (code : ℕ) → Line
  line_of w code =
      let near : ℕ = link_at_code c near_set code in
      let far : ℕ = link_at_code z far_set code in
      record {
        near = end_of w.near.node near;
        far = end_of w.far.node far;
        to_far = map frame_of (w.to_far.user_data far);
        to_near = map frame_of (w.to_near.user_data near);
        told_far = length (w.to_far.statuses far);
        told_near = length (w.to_near.statuses near);
        near_may_follow = w.near_may near;
        far_may_follow = w.far_may far;
      }

  -- where the near node's flows take these lines
  abbrev pub shown_by : Base → (Flow → Option ℕ) → World → Pair
  shown_by base route w = record {
    links = codes;
    line = line_of w;
    near = side_by c base.there near_set base.near base.near_given_up route w.near;
    far = side_by z base.back far_set base.far base.far_given_up (route_of z base.back far_set w.far.node.parts) w.far;
  }

  abbrev pub shown : Base → World → Pair
  shown base w = shown_by base (route_of c base.there near_set w.near.node.parts) w

-- what is shown, as the far node sees it
pub shown-turned : (c z : Configuration) (near_set far_set : ℕ) (base : Base) (w : World) → shown z c far_set near_set (turned_base base) (turned_world w) ≡ ends.turned (shown c z near_set far_set base w)
shown-turned c z near_set far_set base w = refl
