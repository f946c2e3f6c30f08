-- Messages for user parts that aren't here: laws.
use Rattle.std.specs.Prelude.{◌≡◌, ◌≢◌, ◌<◌, ◌^◌, ◌+◌, ◌*◌, ◌%◌, ◌&&◌, ◌||◌, ℕ, Bool, true, false, not, nat_eq, nat_lt}
use Rattle.std.specs.Prelude.{is_some, slice_index_or, slice_set, Option, Some, None, Ok, length, replicate}
use Rattle.std.specs.Prelude.{if◌then◌else◌}
use Rattle.settings.specs.Configuration.{Configuration}
use Rattle.signalling_types.specs.Message.{Message, flow_of, is_management, opc_of, service_indicator}
use Rattle.signalling_types.specs.declared.cause.Cause.TheVariants.{NoUserPart}
use Rattle.signalling_types.specs.declared.outcome.Outcome.TheVariants.{Local, Refused}
use Rattle.mtp3_codec.specs.Headings.{label_at}
use Rattle.mtp3_codec.specs.Management.{read_management}
use Rattle.mtp3_codec.specs.declared.management.Management.TheVariants.{UserPartUnavailable}
use Rattle.mtp3_codec.specs.declared.unavailability.UnavailabilityCause.TheVariants.{Unequipped}
use Rattle.settings.specs.Readings.{destination_place}
use Rattle.exchange_rules.specs.State.{Happening, FrameCame, Node, with_parts, answer, refuse}
use Rattle.exchange_rules.specs.First.{Abstract, first_state}
use Rattle.exchange_rules.specs.Exchange.{after, taken}
use Rattle.exchange_rules.specs.Places.{HasPlacesFor}
use Rattle.exchange_rules.specs.Routing.{link_of, queue_on}
use Rattle.exchange_rules.specs.Telling.{unavailable}
use Rattle.exchange_rules.specs.Messages.{distribute, is_user, local, sccp, whither_goes}
use Rattle.exchange_rules.specs.Receiving.{new_message}
use Rattle.exchange_rules.specs.LawsOfMessages.{goes_here}
use Rattle.exchange_rules.specs.Queues.{WholeQueues, whole}

-- whether a message for this point is for a user part that isn't here
abbrev pub lacks_part : Configuration → Message → Bool
lacks_part c m = not (is_management m) && not (nat_eq (service_indicator m) sccp || is_user c (service_indicator m))

-- how many of them came from a destination, modulo 8
abbrev pub count_from : (origin : ℕ) → Node WholeQueues → ℕ
count_from origin node = slice_index_or node.parts.unequipped origin 0

-- the node with that count one higher, and with nothing else changed
abbrev pub with_one_more : (origin : ℕ) → Node WholeQueues → Node WholeQueues
with_one_more origin node = with_parts node (record node.parts {
  unequipped = slice_set node.parts.unequipped origin ((count_from origin node + 1) % 8);
})

-- whether its sender is told: fewer than 128 management messages wait, as many such messages came from there as a
-- multiple of eight, each counted whether its sender was told or not, and the flow of UPU has a link
abbrev pub is_sender_told : Configuration → (origin : ℕ) → Message → Node WholeQueues → Bool
is_sender_told c origin m node =
    nat_lt (whole.managements node.queues) 128 && nat_eq (count_from origin node) 0
    && is_some (link_of c node.parts (flow_of (unavailable c m)))

-- the message is refused, whether its sender is told or not
abbrev pub lacking_is_refused : Type 0
lacking_is_refused =
    (c : Configuration) (link : ℕ) (m : Message) (node : Node WholeQueues) → lacks_part c m ≡ true →
    (distribute whole c link m node).outcome ≡ Refused NoUserPart

-- if it is told, what is left is the node with its count one higher, and UPU at the end of the queue of that link
abbrev pub told_by_one : Type 0
told_by_one =
    (c : Configuration) (link origin way : ℕ) (m : Message) (node : Node WholeQueues) → lacks_part c m ≡ true →
    c.user_part_unavailable ≡ true → destination_place c (opc_of m) ≡ Some origin →
    is_sender_told c origin m node ≡ true → link_of c node.parts (flow_of (unavailable c m)) ≡ Some way →
    (distribute whole c link m node).left ≡ queue_on whole c way (unavailable c m) (with_one_more origin node)

-- if it isn't, what is left is the node with its count one higher
abbrev pub else_counted : Type 0
else_counted =
    (c : Configuration) (link origin : ℕ) (m : Message) (node : Node WholeQueues) → lacks_part c m ≡ true →
    c.user_part_unavailable ≡ true → destination_place c (opc_of m) ≡ Some origin →
    is_sender_told c origin m node ≡ false → (distribute whole c link m node).left ≡ with_one_more origin node

-- if the settings don't say so, or it is no destination, the node is left as it was
abbrev pub else_untouched : Type 0
else_untouched =
    (c : Configuration) (link : ℕ) (m : Message) (node : Node WholeQueues) → lacks_part c m ≡ true →
    (c.user_part_unavailable && is_some (destination_place c (opc_of m))) ≡ false →
    (distribute whole c link m node).left ≡ node

-- the count of its origin rises by one, modulo 8, and all others stay: so just one of each eight finds it at 0
abbrev pub counts_modulo_eight : Type 0
counts_modulo_eight =
    (c : Configuration) (link origin : ℕ) (m : Message) (node : Node WholeQueues) → HasPlacesFor c node.parts →
    lacks_part c m ≡ true → c.user_part_unavailable ≡ true → destination_place c (opc_of m) ≡ Some origin →
    (count_from origin (distribute whole c link m node).left ≡ (count_from origin node + 1) % 8)
    × ((other : ℕ) → other ≢ origin → count_from other (distribute whole c link m node).left ≡ count_from other node)

-- UPU is management of this network, from this point to the sender, and says that this point has no such user part
abbrev pub upu_reads_back : Type 0
upu_reads_back =
    (c : Configuration) (m : Message) → c.own < 2 ^ 14 →
    ((unavailable c m).sio ≡ c.network * 64)
    × (label_at (unavailable c m).sif ≡ record { dpc = opc_of m; opc = c.own; sls = 0 })
    × (read_management (unavailable c m).sif ≡ Ok (UserPartUnavailable c.own (service_indicator m) Unequipped))

-- a message for a user part that is here is that part's, and leaves the node as it was
abbrev pub parts_get_their_messages : Type 0
parts_get_their_messages =
    (c : Configuration) (link : ℕ) (m : Message) (node : Node WholeQueues) → is_management m ≡ false →
    nat_eq (service_indicator m) sccp ≡ false → is_user c (service_indicator m) ≡ true →
    distribute whole c link m node ≡ answer Local node

-- the same settings with which nobody is told
abbrev pub silent : Configuration → Configuration
silent c = record c { user_part_unavailable = false }

-- every user message that lacks no part, so also one for SCCP, goes as if nobody were told
abbrev pub others_go_the_same : Type 0
others_go_the_same =
    (c : Configuration) (link : ℕ) (m : Message) (node : Node WholeQueues) → is_management m ≡ false →
    lacks_part c m ≡ false → distribute whole c link m node ≡ distribute whole (silent c) link m node

-- nor does a message that is submitted tell anybody, one for SCCP included
abbrev pub submissions_tell_nobody : Type 0
submissions_tell_nobody =
    (c : Configuration) (m : Message) (node : Node WholeQueues) →
    local whole c None m node ≡ local whole (silent c) None m node

-- one that isn't for SCCP is its user part's or is refused, and leaves the node as it was
abbrev pub submissions_are_their_parts : Type 0
submissions_are_their_parts =
    (c : Configuration) (m : Message) (node : Node WholeQueues) → nat_eq (service_indicator m) sccp ≡ false →
    local whole c None m node
    ≡ (if is_user c (service_indicator m) then answer Local node else refuse NoUserPart node)

-- whether an event newly brings a message for this point, and for a user part that isn't here
abbrev pub is_lacking : Configuration → Option Message → Bool
is_lacking c (Some m) = goes_here (whither_goes c m) && lacks_part c m
is_lacking c None = false

abbrev pub brings_lacking : Happening → Abstract → Bool
brings_lacking (FrameCame link text) a = is_lacking a.settings (new_message link text a)
brings_lacking what a = false

-- every other event leaves all counts
abbrev pub nothing_else_is_counted : Type 0
nothing_else_is_counted =
    (what : Happening) (a : Abstract) → brings_lacking what a ≡ false →
    (after whole what a).node.parts.unequipped ≡ a.node.parts.unequipped

-- at first no message is counted, and a take counts none
abbrev pub none_is_counted_at_first : Type 0
none_is_counted_at_first =
    (c : Configuration) → (first_state c).node.parts.unequipped ≡ replicate (length c.destinations) 0

abbrev pub takes_count_none : Type 0
takes_count_none = (a : Abstract) (link : ℕ) → (taken whole a link).node.parts.unequipped ≡ a.node.parts.unequipped
