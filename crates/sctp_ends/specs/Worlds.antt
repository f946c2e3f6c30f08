-- Two endpoints, and all packets that they ever put out.
use Rattle.std.specs.Prelude.{◌≡◌, ◌≤◌, ℕ, ◌+◌, ◌*◌, List, [], ◌∷◌, ◌++◌, length, map}
use Rattle.std.specs.List.{Contains}
use Rattle.sctp_codec.specs.Packets.{PacketValue}
use Rattle.sctp_rules.specs.Settings.{Settings, Secrets}
use Rattle.sctp_rules.specs.State.{State, Datagram, Told, Done, first_state}
use Rattle.sctp_rules.specs.Endpoint.{Happening, Came, Flushes, after}
use Rattle.sctp_moves.specs.Numbers.{modulus, window}
use Rattle.sctp_moves.specs.Ends.{Message}
use Rattle.sctp_ends.specs.Told.{told_by, opened_by, given_by}

-- a packet that was put out, and how many messages its endpoint had been given and had told when packets were asked for
-- last before that; what the packet says was made since
pub record Emitted : Type 0 where
  pub packet : PacketValue
  pub made : ℕ

-- an endpoint: its state, all packets that it put out, the latest first; all that its user was told; and what the user
-- gave in each association, the latest first
pub record Site : Type 0 where
  pub state : State
  pub packets : List Emitted
  pub told : List Told
  pub given : List (List Message)
  pub mark : ℕ

abbrev pub new_site : Settings → Site
new_site c = record { state = first_state c; packets = []; told = []; given = []; mark = 0 }

abbrev pub count : List (List Message) → ℕ
count [] = 0
count (latest ∷ past) = length latest + count past

-- how many messages were given and told at an endpoint so far
abbrev pub messages_at : Site → ℕ
messages_at site = count site.given + count (told_by [] site.told)

abbrev pub marked_by : Happening → Site → ℕ
marked_by (Flushes now) site = messages_at site
marked_by what site = site.mark

abbrev pub emitted : (made : ℕ) → Datagram → Emitted
emitted made datagram = record { packet = datagram.packet; made = made }

abbrev pub with_done : Happening → Done → Site → Site
with_done what d site = record {
  state = d.left;
  packets = map (emitted site.mark) d.sent ++ site.packets;
  told = site.told ++ d.told;
  given = opened_by (given_by what site.state site.given) d.told;
  mark = marked_by what site;
}

-- two endpoints. The network is what each of them put out: any of it may come to the other, at any moment, any number
-- of times, in any order, or never
pub record World : Type 0 where
  pub near : Site
  pub far : Site

-- how an endpoint is made: its settings, and how it draws and signs
pub record Make : Type 0 where
  pub settings : Settings
  pub secrets : Secrets

abbrev pub new_world : (near far : Make) → World
new_world near far = record { near = new_site near.settings; far = new_site far.settings }

-- a packet comes that the other end put out. Since it was made, that end was given and told no more messages than there
-- are numbers, less two windows
pub record Arrives (other : Site) (packet : PacketValue) : Type 0 where
  pub one : Emitted
  pub there : Contains other.packets one
  pub is : one.packet ≡ packet
  pub young : messages_at other + 2 * window ≤ one.made + modulus

-- all else may happen at any moment
abbrev pub MayHappen : Site → Happening → Type 0
MayHappen other (Came now source packet) = Arrives other packet
MayHappen other what = Unit {0}

abbrev pub happened : Make → Happening → Site → Site
happened m what site = with_done what (after m.settings m.secrets what site.state) site

pub data Step (near far : Make) (w v : World) : Type 0 where
  at_near :
      (what : Happening) → MayHappen w.far what → v ≡ record w { near = happened near what w.near } → Step near far w v
  at_far :
      (what : Happening) → MayHappen w.near what → v ≡ record w { far = happened far what w.far } → Step near far w v

-- from one world on, by steps, through the worlds of a list
abbrev pub Steps : (near far : Make) → World → List World → Type 0
Steps near far w [] = Unit {0}
Steps near far w (v ∷ rest) = Step near far w v × Steps near far v rest

abbrev pub last_world : World → List World → World
last_world w [] = w
last_world w (v ∷ rest) = last_world v rest
