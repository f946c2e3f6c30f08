-- The terms of the laws of a link between two exchanges: how it is at an end, the messages that frames carry, and what
-- an order to change over says to the node that it comes to.
use Rattle.std.specs.Prelude.{◌≡◌, ◌<◌, ◌^◌, ℕ, Bool, List, filter_map, length, Option, Some, None, Result, Ok, Err, if◌then◌else◌}
use Rattle.std.specs.Option.{option_map}
use Rattle.signalling_types.specs.Message.{Message, is_management, opc_of}
use Rattle.settings.specs.Configuration.{Configuration}
use Rattle.m2pa_codec.specs.Frames.{read_frame}
use Rattle.mtp3_codec.specs.Management.{read_management}
use Rattle.mtp3_codec.specs.declared.fault.MgmtFault.{MgmtFault}
use Rattle.mtp3_codec.specs.declared.management.Management.{Management}
use Rattle.mtp3_codec.specs.declared.management.Management.TheVariants.{ExtendedChangeoverOrder, ExtendedChangeoverAcknowledgement}
use Rattle.exchange_rules.specs.State.{down}
use Rattle.exchange_rules.specs.ChangingOver.{changeover_of, changeover_order, changeover_acknowledgement}
use Rattle.exchange_rules.specs.Messages.{link_with_code}
use Rattle.exchange_rules.specs.Laws.{carried_message}
use Rattle.pair_rules.specs.Pairs.{End}
use Rattle.pair_rules.specs.Promises.{AreJoined}

-- ---- a link at an end

abbrev pub is_down_at : End → (link : ℕ) → Bool
is_down_at e link = down e.exchange.node.parts link

-- an end failed in service there, and hasn't completed its changeover
abbrev pub is_incomplete_at : End → (link : ℕ) → Bool
is_incomplete_at e link = (changeover_of e.exchange.node.parts link).incomplete

-- the messages that frames carry, in order
abbrev pub messages_in : List (List ℕ) → List Message
messages_in texts = filter_map (λ text. carried_message (read_frame text)) texts

-- ---- words

-- what an order to change over, or the answer to one, says to the node that it comes to: which link it is about, and
-- the number of the last message that its sender accepted there
pub record Word : Type 0 where
  pub link : ℕ
  pub number : ℕ

abbrev pub about : (number link : ℕ) → Word
about number link = record { link = link; number = number }

-- by the settings of that node, and the point that it comes from
abbrev pub word_in : Configuration → (point : ℕ) → Management → Option Word
word_in c point (ExtendedChangeoverOrder slc number) = option_map (about number) (link_with_code c point slc)
word_in c point (ExtendedChangeoverAcknowledgement slc number) = option_map (about number) (link_with_code c point slc)
word_in c point _ = None

abbrev pub word_read : Configuration → (point : ℕ) → Result Management MgmtFault → Option Word
word_read c point (Ok management) = word_in c point management
word_read c point (Err fault) = None

-- no other message says one
abbrev pub word_of : Configuration → Message → Option Word
word_of c m = if is_management m then word_read c (opc_of m) (read_management m.sif) else None

-- what a node's order about a link, and its answer to one, say to the node that it faces
pub record SayTheirWord (near far : Configuration) (link number : ℕ) : Type 0 where
  pub order : word_of far (changeover_order near link number) ≡ Some (about number link)
  pub answer : word_of far (changeover_acknowledgement near link number) ≡ Some (about number link)

abbrev pub words_are_read : Type 0
words_are_read =
    (near far : Configuration) (link number : ℕ) → AreJoined near far → link < length near.links → number < 2 ^ 24 →
    SayTheirWord near far link number
