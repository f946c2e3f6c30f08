-- What a message says to the far end of a link (Q.704 §5 and §6, with the numbers of Q.2210).
use Rattle.std.specs.Prelude.{ℕ, Bool, true, false, not, ◌&&◌, ◌||◌, nat_eq}
use Rattle.signalling_types.specs.Message.{Message, flow_of}
use Rattle.signalling_types.specs.declared.point.Flow.{Flow}

pub data Saying : Type 0 where
  -- nothing to the node: it is for a user part there
  UserMessage : Saying
  -- changeover order (XCO) about a link: the number of the last message that its sender accepted
  -- there
  Order : (link number : ℕ) → Saying
  -- changeover acknowledgement (XCA) about a link, with such a number
  Answer : (link number : ℕ) → Saying
  -- changeback declaration (CBD) with a code
  Declaration : (code : ℕ) → Saying
  -- changeback acknowledgement (CBA) with a code
  Confirmation : (code : ℕ) → Saying
  -- nothing to either of the two nodes that the links join, as nodes with these links: it is for another node, or
  -- comes from one, or is management of another kind
  Other : Saying

-- what messages say: those that go from the near node to the far one, and those that come back
pub record Reading : Type 0 where
  pub there : Message → Saying
  pub back : Message → Saying

-- the same, seen from the far node
abbrev pub turned_reading : Reading → Reading
turned_reading read = record { there = read.back; back = read.there }

-- whether a message is none of those that the laws speak of
abbrev pub is_other : Saying → Bool
is_other UserMessage = false
is_other (Order link number) = false
is_other (Answer link number) = false
is_other (Declaration code) = false
is_other (Confirmation code) = false
is_other Other = true

abbrev pub is_user_message : Saying → Bool
is_user_message UserMessage = true
is_user_message (Order link number) = false
is_user_message (Answer link number) = false
is_user_message (Declaration code) = false
is_user_message (Confirmation code) = false
is_user_message Other = false

abbrev pub is_order : ℕ → Saying → Bool
is_order link UserMessage = false
is_order link (Order about number) = nat_eq about link
is_order link (Answer about number) = false
is_order link (Declaration code) = false
is_order link (Confirmation code) = false
is_order link Other = false

abbrev pub is_answer : ℕ → Saying → Bool
is_answer link UserMessage = false
is_answer link (Order about number) = false
is_answer link (Answer about number) = nat_eq about link
is_answer link (Declaration code) = false
is_answer link (Confirmation code) = false
is_answer link Other = false

abbrev pub is_declaration : ℕ → Saying → Bool
is_declaration code UserMessage = false
is_declaration code (Order link number) = false
is_declaration code (Answer link number) = false
is_declaration code (Declaration other) = nat_eq other code
is_declaration code (Confirmation other) = false
is_declaration code Other = false

abbrev pub is_confirmation : ℕ → Saying → Bool
is_confirmation code UserMessage = false
is_confirmation code (Order link number) = false
is_confirmation code (Answer link number) = false
is_confirmation code (Declaration other) = false
is_confirmation code (Confirmation other) = nat_eq other code
is_confirmation code Other = false

-- an order or answer about a link is untrue if the link is up at its sender, or if it names another number than that of
-- the last message accepted there
abbrev pub is_untrue : (link : ℕ) (up : Bool) (last_accepted : ℕ) → Saying → Bool
is_untrue link up last_accepted UserMessage = false
is_untrue link up last_accepted (Order about number) = nat_eq about link && (up || not (nat_eq number last_accepted))
is_untrue link up last_accepted (Answer about number) = nat_eq about link && (up || not (nat_eq number last_accepted))
is_untrue link up last_accepted (Declaration code) = false
is_untrue link up last_accepted (Confirmation code) = false
is_untrue link up last_accepted Other = false

abbrev pub is_same_flow : Flow → Flow → Bool
is_same_flow f g = nat_eq f.point g.point && nat_eq f.sls g.sls

-- a user message of a flow
abbrev pub is_of_flow : (Message → Saying) → Flow → Message → Bool
is_of_flow read flow m = is_user_message (read m) && is_same_flow (flow_of m) flow
