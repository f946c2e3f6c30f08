-- The worlds of the run, each computed from the one before, but for whether a message waits, which is looked at four
-- times. Each is a function of the first world: as a constant it would cost the kernel far more.
use Rattle.std.proofs.Common.{◌≡◌, ℕ, Bool, true, false, List, [], ◌∷◌, Option, refl, ap, ◌∙◌}
use Rattle.signalling_types.specs.Message.{Message}
use Rattle.sctp_codec.specs.Packets.{PacketValue}
use Rattle.sctp_receiving.specs.Pieces as pieces
use Rattle.sctp_rules.specs.Rows.{address}
use Rattle.sctp_rules.specs.State.{Told, Up, Heard, Down, Failed}
use Rattle.exchange_rules.specs.Exchange.{wants_of}
use Rattle.exchange_rules.specs.Routing.{waits}
use Rattle.exchange_rules.specs.declared.wants.Wants.{Wants}
use Rattle.exchange_rules.specs.declared.wants.Wants.TheVariants.{Nothing}
use Rattle.exchange_rules.specs.Queues.{whole}
use Rattle.sctp_gate.specs.Gates.{Gate, is_lasting}
use Rattle.sctp_gate.specs.Handing.{is_frame}
use Rattle.pair_rules.specs.OneEndFirst.{near_settings, the_message}
use Rattle.gate_rules.specs.FallAndReturn.{AtFar, AtNear, Done, Fills, First, Hears, Second, Submits, after_all, after_one, answering, begun, last_message, latest, next_message, opening, returning, tells_far, unanswered}
use Rattle.gate_rules.specs.Worlds.{Node, World}
use Rattle.gate_rules.proofs.RunEvents.{Completes, GoesIn, HearsOne, completes, done, heard_gate, is-submitted, its_end, near-stays, node_left, released, submitting, with_near}
use Rattle.gate_rules.proofs.SettingsStay.{settled-stays}

-- ---- what is done, from one world on

-- the message that a packet brings first
abbrev no_message : pieces.Message
no_message = record { stream = 0; protocol = 0; octets = [] }

abbrev first_heard : List Told → pieces.Message
first_heard [] = no_message
first_heard (Up ∷ more) = no_message
first_heard (Heard m ∷ more) = m
first_heard (Down why ∷ more) = no_message
first_heard (Failed why ∷ more) = no_message

abbrev is_one : List Told → Bool
is_one [] = false
is_one (Up ∷ more) = false
is_one (Heard m ∷ []) = true
is_one (Heard m ∷ one ∷ more) = false
is_one (Down why ∷ more) = false
is_one (Failed why ∷ more) = false

one-heard : (told : List Told) → is_one told ≡ true → told ≡ Heard (first_heard told) ∷ []
one-heard [] e = absurd cc
one-heard (Up ∷ more) e = absurd cc
one-heard (Heard m ∷ []) e = refl
one-heard (Heard m ∷ one ∷ more) e = absurd cc
one-heard (Down why ∷ more) e = absurd cc
one-heard (Failed why ∷ more) e = absurd cc

abbrev order : World → Option PacketValue
order w = latest (w.far.ports 1).packets

abbrev its_gate : World → Gate
its_gate w = (w.near.ports 1).gate

abbrev its_told : World → List Told
its_told w = (done 3000 (order w) address (its_gate w)).told

abbrev pub its_text : World → List ℕ
its_text w = (first_heard (its_told w)).octets

abbrev pub completing : World → World
completing w =
    with_near w (node_left 1 3000 (order w) address w.near (its_text w) (released next_message 1 (its_text w) false w.near.books.exchange))

-- what is computed of the world in which the order comes
pub record Seen : Type 0 where
  pub wants : Wants
  pub sought : Bool
  pub lasts : Bool
  pub one : Bool
  pub frame : Bool
  pub link : ℕ
  pub held : List Message

abbrev pub seen : World → Seen
seen w = record {
  wants = wants_of w.near.books.exchange 1;
  sought = (its_gate w).standing.is_seeking;
  lasts = is_lasting 3000 (its_gate w).endpoint;
  one = is_one (its_told w);
  frame = is_frame (first_heard (its_told w));
  link = (its_gate w).link;
  held = (its_end 1 (its_text w) w.near.books.exchange.node).left.queues.held;
}

abbrev pub looked : Seen
looked = record { wants = Nothing; sought = false; lasts = true; one = true; frame = true; link = 1; held = next_message ∷ [] }

-- as it comes the message goes on, if nothing holds its flow
module _ (w : World) (e : seen w ≡ looked) (settings : w.near.books.exchange.settings ≡ near_settings)
    (free : waits near_settings (its_end 1 (its_text w) w.near.books.exchange.node).left.parts.holds next_message ≡ false) where
  link-is : (its_gate w).link ≡ 1
  link-is = ap (λ (s : Seen). s.link) e

  hears : HearsOne 3000 (done 3000 (order w) address (its_gate w)) (its_gate w) w.near.books.exchange (first_heard (its_told w))
  hears = record {
    wants = ap (λ (l : ℕ). wants_of w.near.books.exchange l) link-is ∙ ap (λ (s : Seen). s.wants) e;
    unsought = ap (λ (s : Seen). s.sought) e;
    lasts = ap (λ (s : Seen). s.lasts) e;
    told = one-heard (its_told w) (ap (λ (s : Seen). s.one) e);
    framed = ap (λ (s : Seen). s.frame) e;
  }

  its-completion : Completes 1 3000 (done 3000 (order w) address (its_gate w)) w.near next_message (its_text w) (first_heard (its_told w))
  its-completion = record {
    hears = hears;
    text_is = refl;
    link_is = link-is;
    settings = settings;
    held = ap (λ (s : Seen). s.held) e;
    free = free;
  }

  pub completes-on : (more : List Done) → after_all (AtNear (Hears Second 3000) ∷ more) w ≡ after_all more (completing w)
  completes-on more =
      ap (λ (n : Node). after_all more (with_near w n)) (completes 1 3000 (order w) address w.near next_message (its_text w) (first_heard (its_told w)) its-completion)

-- a message is submitted, if nothing holds its flow
pub submits-on : (m : Message) → GoesIn m → (w v : World) → w ≡ v → v.near.books.exchange.settings ≡ near_settings → waits near_settings v.near.books.exchange.node.parts.holds m ≡ false
    → (more : List Done) → after_all (AtNear (Submits m) ∷ more) w ≡ after_all more (submitting m v)
submits-on m on w v same settings free more =
    ap (after_all (AtNear (Submits m) ∷ more)) same ∙ ap (after_all more) (is-submitted m on v settings free)

pub orders-on : (w v : World) → w ≡ v → seen (after_one (AtFar (Fills Second 3000)) v) ≡ looked → v.near.books.exchange.settings ≡ near_settings
    → waits near_settings (its_end 1 (its_text (after_one (AtFar (Fills Second 3000)) v)) v.near.books.exchange.node).left.parts.holds next_message ≡ false
    → (more : List Done) → after_all (AtFar (Fills Second 3000) ∷ AtNear (Hears Second 3000) ∷ more) w ≡ after_all more (completing (after_one (AtFar (Fills Second 3000)) v))
orders-on w v same e settings free more =
    ap (after_all (AtFar (Fills Second 3000) ∷ AtNear (Hears Second 3000) ∷ more)) same ∙ completes-on (after_one (AtFar (Fills Second 3000)) v) e settings free more

-- ---- the worlds

abbrev pub served_from : World → World
served_from w = after_all opening w

abbrev pub come_from : World → World
come_from w = after_all (tells_far First 10) (submitting the_message (served_from w))

abbrev pub fallen_from : World → World
fallen_from w = after_all unanswered (submitting next_message (come_from w))

abbrev pub ordered_from : World → World
ordered_from w = after_one (AtFar (Fills Second 3000)) (fallen_from w)

abbrev pub changed_from : World → World
changed_from w = after_all answering (completing (ordered_from w))

abbrev pub returned_from : World → World
returned_from w = after_all returning (changed_from w)

abbrev pub resumed_from : World → World
resumed_from w = after_all (tells_far First 4000) (submitting last_message (returned_from w))

-- ---- settings stay

pub served-settings : (served_from begun).near.books.exchange.settings ≡ near_settings
served-settings = near-stays opening begun

pub come-settings : (come_from begun).near.books.exchange.settings ≡ near_settings
come-settings = near-stays (tells_far First 10) (submitting the_message (served_from begun))

pub fallen-settings : (fallen_from begun).near.books.exchange.settings ≡ near_settings
fallen-settings = near-stays unanswered (submitting next_message (come_from begun))

completing-settings : (w : World) → (completing w).near.books.exchange.settings ≡ near_settings
completing-settings w = settled-stays whole 3000 (heard_gate 3000 (done 3000 (order w) address (its_gate w)) (its_gate w)) (released next_message 1 (its_text w) false w.near.books.exchange)

pub returned-settings : (returned_from begun).near.books.exchange.settings ≡ near_settings
returned-settings =
    near-stays returning (changed_from begun) ∙ near-stays answering (completing (ordered_from begun)) ∙ completing-settings (ordered_from begun)
