-- What goes out on a link, by what is and waits there.
use Rattle.node_moves.proofs.Basics.{◌≡◌, ◌&&◌, ◌-◌, ℕ, Bool, true, false, not, Option, Some, None, refl, ap, sym, ◌∙◌, nat_lt, if◌then◌else◌, slice_get}
use Rattle.node_moves.proofs.Definitions.{Message, Queue}
use Rattle.exchange_rules.specs.Sending.{SendsStatus, SendsMessage, Acknowledges, message_first, status_first}
use Rattle.link.specs.Queue.{Sending, forward_number, numbered, to_send}
use Rattle.m2pa_codec.specs.declared.status.LinkStatus.{LinkStatus}

-- what is sent next is in the queue
pub record IsNext (q : Queue) (window : ℕ) (next : Sending) : Type 0 where
  pub number : next.number ≡ forward_number q q.sent
  pub stands : slice_get q.all q.sent ≡ Some next.message

next-numbered : (q : Queue) (window : ℕ) (next : Sending) (o : Option Message) → slice_get q.all q.sent ≡ o → numbered (forward_number q q.sent) o ≡ Some next → IsNext q window next
next-numbered q window next (Some m) e f =
    let number : forward_number q q.sent ≡ next.number = cc in
    let message : m ≡ next.message = cc in
    record { number = sym number; stands = e ∙ ap Some message }
next-numbered q window next None e f = absurd cc

next-by : (q : Queue) (window : ℕ) (next : Sending) (b : Bool) → (if b then numbered (forward_number q q.sent) (slice_get q.all q.sent) else None) ≡ Some next → IsNext q window next
next-by q window next true e = next-numbered q window next (slice_get q.all q.sent) refl e
next-by q window next false e = absurd cc

pub is-next : (q : Queue) (window : ℕ) (next : Sending) → to_send q window ≡ Some next → IsNext q window next
is-next q window next e = next-by q window next (nat_lt (q.sent - q.confirmed) window) e

-- a message goes out only where it is the next
pub message-is-next : (status : Option LinkStatus) (o : Option Sending) (owed : Bool) (next : Sending) → status_first status (message_first o owed) ≡ SendsMessage next → o ≡ Some next
message-is-next (Some status) o owed next e = absurd cc
message-is-next None (Some its) owed next e = (let same : its ≡ next = cc in ap Some same)
message-is-next None None true next e = absurd cc
message-is-next None None false next e = absurd cc

-- and the link is in service then
pub next-serves : (b d : Bool) (o : Option Sending) (next : Sending) → (if b && not d then o else None) ≡ Some next → b ≡ true
next-serves true d o next e = refl
next-serves false d o next e = absurd cc

pub next-sends : (b : Bool) (o : Option Sending) (next : Sending) → (if b then o else None) ≡ Some next → o ≡ Some next
next-sends true o next e = e
next-sends false o next e = absurd cc

-- a link that is down has nothing to send
pub by-up : (b : Bool) → (b ≡ true → false ≡ true) → b ≡ false
by-up true h = sym (h refl)
by-up false h = refl

pub status-out : (o : Option LinkStatus) (m : Option Sending) (owed : Bool) (status : LinkStatus) → o ≡ None → status_first o (message_first m owed) ≡ SendsStatus status → false ≡ true
status-out (Some s) m owed status none e = absurd cc
status-out None (Some next) owed status none e = absurd cc
status-out None None true status none e = absurd cc
status-out None None false status none e = absurd cc

pub owed-out : (o : Option LinkStatus) (m : Option Sending) (owed : Bool) → owed ≡ false → status_first o (message_first m owed) ≡ Acknowledges → false ≡ true
owed-out (Some s) m owed none e = absurd cc
owed-out None (Some next) owed none e = absurd cc
owed-out None None true none e = sym none
owed-out None None false none e = absurd cc
