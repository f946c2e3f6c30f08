-- The messages of links, by kind.
use Rattle.std.specs.Prelude.{ℕ, List, replicate, slice_index_or, slice_set, Option, None, Some}
use Rattle.signalling_types.specs.Message.{Message, service_indicator}
use Rattle.served_link.specs.Kinds.{kind_number, management_kind}
use Rattle.served_link.specs.Saturating.{one_more_at}
use Rattle.served_link.specs.declared.management_kind.ManagementKind.{ManagementKind}
use Rattle.served_link.specs.declared.management_kind.TheConstants.{MANAGEMENT_KINDS}
use Rattle.served_link.specs.declared.messages.LinkMessages.{LinkMessages}
use Rattle.served_link.specs.declared.messages.MessageCounts.{MessageCounts}
use Rattle.served_link.specs.declared.messages.TheConstants.{SERVICES}

-- nothing is counted yet
abbrev pub none_counted : MessageCounts
none_counted = record { services = replicate SERVICES 0; kinds = replicate MANAGEMENT_KINDS 0 }

abbrev pub no_messages : LinkMessages
no_messages = record { heard = none_counted; sent = none_counted }

-- one message more of a kind, if it is of one
abbrev pub kind_counted : Option ManagementKind → MessageCounts → MessageCounts
kind_counted None c = c
kind_counted (Some kind) c = record c { kinds = one_more_at (kind_number kind) c.kinds }

-- one message more: by its service indicator, and by its kind
abbrev pub message_counted : Message → MessageCounts → MessageCounts
message_counted m c =
    kind_counted (management_kind m) (record c { services = one_more_at (service_indicator m) c.services })

-- the messages of a link, in those of all
abbrev pub messages_at : List LinkMessages → (link : ℕ) → LinkMessages
messages_at rows link = slice_index_or rows link no_messages

-- a frame came in on a link, or went out: its message is counted, if it has one; for a link that isn't there nothing is
abbrev pub heard_at : (link : ℕ) → Option Message → List LinkMessages → List LinkMessages
heard_at link None rows = rows
heard_at link (Some m) rows =
    slice_set rows link (record (messages_at rows link) { heard = message_counted m (messages_at rows link).heard })

abbrev pub sent_at : (link : ℕ) → Option Message → List LinkMessages → List LinkMessages
sent_at link None rows = rows
sent_at link (Some m) rows =
    slice_set rows link (record (messages_at rows link) { sent = message_counted m (messages_at rows link).sent })
