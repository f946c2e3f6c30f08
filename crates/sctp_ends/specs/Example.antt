-- A run of two endpoints. The near one opens an association, and its user gives two messages. The packet of the second
-- overtakes that of the first, which comes twice; both messages are told, in order.
use Rattle.std.specs.Prelude.{◌≡◌, ℕ, true, false, List, [], ◌∷◌, Option, Some, None, nat_lt, slice_index_or}
use Rattle.std.specs.Prelude.{if◌then◌else◌}
use Rattle.sctp_cookie.specs.declared.cookie.Cookie.{Cookie}
use Rattle.sctp_codec.specs.Packets.{PacketValue}
use Rattle.sctp_sending.specs.Outgoing as outgoing
use Rattle.sctp_rules.specs.Endpoint.{Happening, Opens, Came, Sends, Flushes}
use Rattle.sctp_rules.specs.Rows.{address, settings, secrets_from, cookie_of}
use Rattle.sctp_moves.specs.Numbers.{modulus}
use Rattle.sctp_moves.specs.Ends.{Message}
use Rattle.sctp_ends.specs.Shown.{AreGood}
use Rattle.sctp_ends.specs.Told.{told_by, text_given}
use Rattle.sctp_ends.specs.Theorems.{Delivers}
use Rattle.sctp_ends.specs.Worlds.{Emitted, Site, World, Make, new_world, happened, Steps}

-- a cookie with a number that doesn't fit opens nothing
abbrev pub fitting : Option Cookie → Option Cookie
fitting None = None
fitting (Some cookie) = if nat_lt cookie.own_first_tsn modulus then Some cookie else None

abbrev pub make_from : (first_tag : ℕ) → Make
make_from first_tag = record {
  settings = settings;
  secrets = record (secrets_from first_tag) { cookie_in = λ octets. fitting (cookie_of octets) };
}

abbrev pub near_make : Make
near_make = make_from 1000

abbrev pub far_make : Make
far_make = make_from 2000

abbrev pub first_message : outgoing.Message
first_message = record { stream = 0; protocol = 5; octets = 1 ∷ [] }

abbrev pub second_message : outgoing.Message
second_message = record { stream = 1; protocol = 5; octets = 2 ∷ 3 ∷ [] }

-- ---- the worlds

abbrev pub no_packet : Emitted
no_packet = record { packet = record { source = 0; destination = 0; tag = 0; chunks = [] }; made = 0 }

-- the packet that was put out this many before the latest one
abbrev pub packet_at : Site → (place : ℕ) → PacketValue
packet_at site place = (slice_index_or site.packets place no_packet).packet

abbrev pub near_does : Happening → World → World
near_does what w = record w { near = happened near_make what w.near }

abbrev pub far_does : Happening → World → World
far_does what w = record w { far = happened far_make what w.far }

-- at the moment 10 the packet comes that the other end put out, this many before its latest one
abbrev pub near_hears : (place : ℕ) → World → World
near_hears place w = near_does (Came 10 address (packet_at w.far place)) w

abbrev pub far_hears : (place : ℕ) → World → World
far_hears place w = far_does (Came 10 address (packet_at w.near place)) w

-- the handshake
abbrev pub waiting : World
waiting = far_does (Opens 10 false) (new_world near_make far_make)

abbrev pub tried : World
tried = near_does (Opens 10 true) waiting

abbrev pub answered : World
answered = far_hears 0 tried

abbrev pub echoed : World
echoed = near_hears 0 answered

abbrev pub opened_first : World
opened_first = far_hears 0 echoed

abbrev pub confirmed : World
confirmed = far_does (Flushes 10) opened_first

abbrev pub opened_second : World
opened_second = near_hears 0 confirmed

-- two messages, in a packet each
abbrev pub given_first : World
given_first = near_does (Sends first_message) opened_second

abbrev pub gone_first : World
gone_first = near_does (Flushes 10) given_first

abbrev pub given_second : World
given_second = near_does (Sends second_message) gone_first

abbrev pub gone_second : World
gone_second = near_does (Flushes 10) given_second

-- the second packet comes, the first one, and the first one again
abbrev pub overtaken : World
overtaken = far_hears 0 gone_second

abbrev pub told_both : World
told_both = far_hears 1 overtaken

abbrev pub heard_again : World
heard_again = far_hears 1 told_both

abbrev pub run : List World
run =
    waiting ∷ tried ∷ answered ∷ echoed ∷ opened_first ∷ confirmed ∷ opened_second ∷ given_first ∷ gone_first
    ∷ given_second ∷ gone_second ∷ overtaken ∷ told_both ∷ heard_again ∷ []

-- ---- what is to hold

abbrev pub both_messages : List Message
both_messages = text_given first_message ∷ text_given second_message ∷ []

pub record Happens : Type 0 where
  pub near_good : AreGood near_make.secrets
  pub far_good : AreGood far_make.secrets
  pub steps : Steps near_make far_make (new_world near_make far_make) run
  pub given : heard_again.near.given ≡ both_messages ∷ []
  pub nothing_yet : told_by [] overtaken.far.told ≡ [] ∷ []
  pub told : told_by [] heard_again.far.told ≡ both_messages ∷ []

-- a message that was given in two associations isn't told in three
abbrev pub given_twice_told_thrice : Type 0
given_twice_told_thrice =
    (m : Message) → Delivers ((m ∷ []) ∷ (m ∷ []) ∷ (m ∷ []) ∷ []) ((m ∷ []) ∷ (m ∷ []) ∷ []) → ⊥
