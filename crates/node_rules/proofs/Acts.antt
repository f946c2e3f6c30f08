-- What a link does, act by act, whatever its ends belong to: what each act needs, and what is on its way then.
use Rattle.std.proofs.Common.{◌≡◌, ◌≢◌, ℕ, Bool, true, false, List, [], ◌∷◌, ◌++◌, map, refl, ap, sym, ◌∙◌, nat_eq, arith}
use Rattle.std.proofs.lemmas.Bool.Decides.{nat_tests}
use Rattle.std.specs.Prelude.{if◌then◌else◌}
use Rattle.m2pa_codec.specs.Frames.{FrameValue}
use Rattle.exchange_rules.specs.State.{Happening, CameUp, WentDown, FrameCame}
use Rattle.exchange_rules.specs.Exchange.{after, wants_of}
use Rattle.exchange_rules.specs.First.{Abstract}
use Rattle.exchange_rules.specs.Queues.{whole}
use Rattle.exchange_rules.specs.declared.wants.Wants.TheVariants.{Open}
use Rattle.sctp_receiving.specs.Pieces as pieces
use Rattle.sctp_rules.specs.State.{Told, Up, Heard, Down, Failed}
use Rattle.sctp_moves.specs.Ends.{Message}
use Rattle.sctp_ends.specs.Told.{text_told}
use Rattle.node_rules.specs.Worlds.{m2pa, is_frame}
use Rattle.node_rules.proofs.Staying.{MayOpen, events-stay}
use Rattle.node_rules.proofs.Flights.{Air}
use Rattle.node_rules.proofs.PairFrames.{framed}
use Rattle.node_rules.proofs.Telling.{NoUp, heard_in, after_events, events_told}
use Rattle.node_rules.proofs.Linked.{IsFramed, AreFramed}

-- its association comes up at the near end, first or as it did at the far one; the first message on its way to it
-- comes, and the rest is; or the association goes down there
pub data Act : Type 0 where
  Leads : Act
  Follows : Act
  Comes : (message : Message) (rest : List Message) → Act
  Falls : Act

-- what the exchange of the near end is told; the link has the number k there
abbrev pub event_of : (k : ℕ) → Act → Happening
event_of k Leads = CameUp k
event_of k Follows = CameUp k
event_of k (Comes message rest) = FrameCame k message.octets
event_of k Falls = WentDown k

-- what is on its way then
abbrev pub air_after : Act → Air → Air
air_after Leads x = record { to_near = []; to_far = []; near_follows = false; far_follows = true }
air_after Follows x = record x { near_follows = false }
air_after (Comes message rest) x = record x { to_near = rest }
air_after Falls x = x

abbrev pub air_after_all : List Act → Air → Air
air_after_all [] x = x
air_after_all (act ∷ acts) x = air_after_all acts (air_after act x)

-- the near end gives its endpoint a frame
abbrev pub air_given : FrameValue → Air → Air
air_given frame x = record x { to_far = x.to_far ++ framed frame ∷ [] }

-- what an act needs, of both exchanges and of what is on its way
abbrev pub MayAct : (k j : ℕ) → Act → (near far : Abstract) → Air → Type 0
MayAct k j Leads near far x = (wants_of near k ≡ Open) × MayOpen j far.node.parts
MayAct k j Follows near far x = (wants_of near k ≡ Open) × (x.near_follows ≡ true)
MayAct k j (Comes message rest) near far x = IsFramed message × (x.to_near ≡ message ∷ rest)
MayAct k j Falls near far x = Unit {0}

abbrev pub MayActAll : (k j : ℕ) → List Act → (near far : Abstract) → Air → Type 0
MayActAll k j [] near far x = Unit {0}
MayActAll k j (act ∷ acts) near far x =
    MayAct k j act near far x × MayActAll k j acts (after whole (event_of k act) near) far (air_after act x)

-- ---- what is told while an association is up

-- messages of it come, and it goes down; that much is left on its way
abbrev pub acts_told : List Told → (rest : List Message) → List Act
acts_told [] rest = []
acts_told (Up ∷ more) rest = acts_told more rest
acts_told (Heard m ∷ more) rest = Comes (text_told m) (heard_in more ++ rest) ∷ acts_told more rest
acts_told (Down why ∷ more) rest = Falls ∷ acts_told more rest
acts_told (Failed why ∷ more) rest = acts_told more rest

pub told-air : (ts : List Told) → NoUp ts → (rest : List Message) (x : Air) → x.to_near ≡ heard_in ts ++ rest
    → air_after_all (acts_told ts rest) x ≡ record x { to_near = rest }
told-air [] q rest x e = ap (λ (ms : List Message). record x { to_near = ms }) e
told-air (Up ∷ more) q rest x e = absurd q
told-air (Heard m ∷ more) q rest x e = told-air more q rest (record x { to_near = heard_in more ++ rest }) refl
told-air (Down why ∷ more) q rest x e = told-air more q rest x e
told-air (Failed why ∷ more) q rest x e = told-air more q rest x e

pub told-may : (k j : ℕ) (ts : List Told) → NoUp ts → (rest : List Message) (near far : Abstract) (x : Air) → AreFramed (heard_in ts)
    → x.to_near ≡ heard_in ts ++ rest → MayActAll k j (acts_told ts rest) near far x
told-may k j [] q rest near far x f e = tt
told-may k j (Up ∷ more) q rest near far x f e = absurd q
told-may k j (Heard m ∷ more) q rest near far x f e =
    ((f.0, e), told-may k j more q rest (after whole (FrameCame k m.octets) near) far (record x { to_near = heard_in more ++ rest }) f.1 refl)
told-may k j (Down why ∷ more) q rest near far x f e = (tt, told-may k j more q rest (after whole (WentDown k) near) far x f e)
told-may k j (Failed why ∷ more) q rest near far x f e = told-may k j more q rest near far x f e

frame-is : (m : pieces.Message) → IsFramed (text_told m) → is_frame m ≡ true
frame-is m h = same m.protocol h.protocol where
  same : (p : ℕ) → p ≡ m2pa → nat_eq p m2pa ≡ true
  same p e = grind (arith, nat_tests, e)

pub told-events : (k : ℕ) (ts : List Told) → NoUp ts → (rest : List Message) → AreFramed (heard_in ts)
    → map (event_of k) (acts_told ts rest) ≡ events_told k ts
told-events k [] q rest f = refl
told-events k (Up ∷ more) q rest f = absurd q
told-events k (Heard m ∷ more) q rest f =
    ap (λ (es : List Happening). FrameCame k m.octets ∷ es) (told-events k more q rest f.1)
    ∙ ap (λ (b : Bool). if b then FrameCame k m.octets ∷ events_told k more else events_told k more) (sym (frame-is m f.0))
told-events k (Down why ∷ more) q rest f = ap (λ (es : List Happening). WentDown k ∷ es) (told-events k more q rest f)
told-events k (Failed why ∷ more) q rest f = told-events k more q rest f

-- other links stay as they may
pub told-stays : (j k : ℕ) → k ≢ j → (ts : List Told) (x : Abstract) → MayOpen j x.node.parts → MayOpen j (after_events (events_told k ts) x).node.parts
told-stays j k d [] x h = h
told-stays j k d (Up ∷ more) x h =
    told-stays j k d more (after whole (CameUp k) x) ((events-stay x.settings j (CameUp k) x.node (λ link of q. d (sym of ∙ q))).stay h)
told-stays j k d (Down why ∷ more) x h =
    told-stays j k d more (after whole (WentDown k) x) ((events-stay x.settings j (WentDown k) x.node (λ link of q. of)).stay h)
told-stays j k d (Failed why ∷ more) x h = told-stays j k d more x h
told-stays j k d (Heard m ∷ more) x h = by (is_frame m) (λ y g. told-stays j k d more y g) where
  by : (f : Bool) → ((y : Abstract) → MayOpen j y.node.parts → MayOpen j (after_events (events_told k more) y).node.parts)
      → MayOpen j (after_events (if f then FrameCame k m.octets ∷ events_told k more else events_told k more) x).node.parts
  by true on =
      on (after whole (FrameCame k m.octets) x) ((events-stay x.settings j (FrameCame k m.octets) x.node (λ link of q. d (sym of ∙ q))).stay h)
  by false on = on x h
