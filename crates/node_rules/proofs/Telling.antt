-- What an endpoint tells by one thing that happens to it: messages of the association that is up, and Down after them;
-- or Up, and then messages; or only some of these.
use Rattle.std.proofs.Common.{◌≡◌, ◌⊎◌, inl, inr, ℕ, Bool, true, false, List, [], ◌∷◌, ◌++◌, Option, Some, None, length, refl, ap, sym, ◌∙◌, subst, append-nil}
use Rattle.std.proofs.lemmas.List.{append_assoc}
use Rattle.std.specs.Prelude.{if◌then◌else◌}
use Rattle.sctp_rules.specs.declared.loss.Loss.{Loss}
use Rattle.sctp_rules.specs.declared.loss.Loss.TheVariants.{NoTag, Local}
use Rattle.sctp_rules.specs.Settings.{Settings, Secrets, Beginning, Address}
use Rattle.sctp_rules.specs.State.{State, Told, Up, Heard, Down, Failed, silent}
use Rattle.sctp_rules.specs.Opening.{may_open, begun_with}
use Rattle.sctp_rules.specs.Endpoint.{Opens, Aborts, Flushes, after}
use Rattle.sctp_rules.specs.Wishing.{Fits, Wish, Idle, Seeking, Served, wish_after}
use Rattle.sctp_moves.specs.Ends.{Message}
use Rattle.sctp_ends.specs.Told.{text_told, told_by, opened_by}
use Rattle.exchange_rules.specs.State as exchange
use Rattle.exchange_rules.specs.Exchange as rules
use Rattle.exchange_rules.specs.First.{Abstract}
use Rattle.exchange_rules.specs.Queues.{whole}
use Rattle.node_rules.specs.Worlds.{is_frame}

abbrev pub NoUp : List Told → Type 0
NoUp [] = Unit {0}
NoUp (Up ∷ more) = ⊥
NoUp (Heard m ∷ more) = NoUp more
NoUp (Down why ∷ more) = NoUp more
NoUp (Failed why ∷ more) = NoUp more

abbrev pub heard_in : List Told → List Message
heard_in [] = []
heard_in (Up ∷ more) = heard_in more
heard_in (Heard m ∷ more) = text_told m ∷ heard_in more
heard_in (Down why ∷ more) = heard_in more
heard_in (Failed why ∷ more) = heard_in more

-- what it tells, as events of the exchange
abbrev pub events_told : (link : ℕ) → List Told → List exchange.Happening
events_told link [] = []
events_told link (Up ∷ more) = exchange.CameUp link ∷ events_told link more
events_told link (Heard m ∷ more) = if is_frame m then exchange.FrameCame link m.octets ∷ events_told link more else events_told link more
events_told link (Down why ∷ more) = exchange.WentDown link ∷ events_told link more
events_told link (Failed why ∷ more) = events_told link more

-- an exchange after events
abbrev pub after_events : List exchange.Happening → Abstract → Abstract
after_events [] x = x
after_events (what ∷ more) x = after_events more (rules.after whole what x)

-- ---- what is told, association by association

pub told-heads : (ts : List Told) → NoUp ts → (l : List Message) (ls : List (List Message)) → told_by (l ∷ ls) ts ≡ (l ++ heard_in ts) ∷ ls
told-heads [] h l ls = ap (λ (x : List Message). x ∷ ls) (sym (append-nil l))
told-heads (Up ∷ more) h l ls = absurd h
told-heads (Heard m ∷ more) h l ls =
    told-heads more h (l ++ text_told m ∷ []) ls ∙ ap (λ (x : List Message). x ∷ ls) (append_assoc l (text_told m ∷ []) (heard_in more))
told-heads (Down why ∷ more) h l ls = told-heads more h l ls
told-heads (Failed why ∷ more) h l ls = told-heads more h l ls

pub told-none : (ts : List Told) → NoUp ts → told_by [] ts ≡ []
told-none [] h = refl
told-none (Up ∷ more) h = absurd h
told-none (Heard m ∷ more) h = told-none more h
told-none (Down why ∷ more) h = told-none more h
told-none (Failed why ∷ more) h = told-none more h

pub opened-same : (ts : List Told) → NoUp ts → (lists : List (List Message)) → opened_by lists ts ≡ lists
opened-same [] h lists = refl
opened-same (Up ∷ more) h lists = absurd h
opened-same (Heard m ∷ more) h lists = opened-same more h lists
opened-same (Down why ∷ more) h lists = opened-same more h lists
opened-same (Failed why ∷ more) h lists = opened-same more h lists

pub told-long : (ts : List Told) → NoUp ts → (lists : List (List Message)) → length (told_by lists ts) ≡ length lists
told-long ts h [] = ap (λ (ls : List (List Message)). length ls) (told-none ts h)
told-long ts h (l ∷ ls) = ap (λ (ks : List (List Message)). length ks) (told-heads ts h l ls)

-- ---- by what its user wants

-- what was told where one was wanted as `from` says, and is as `to` says then
pub data Shape (ts : List Told) (from to : Wish) : Type 0 where
  nothing : NoUp ts → heard_in ts ≡ [] → ((link : ℕ) → events_told link ts ≡ []) → (to ≡ Seeking → from ≡ Seeking) → Shape ts from to
  serving : NoUp ts → from ≡ Served → (to ≡ Seeking → ⊥) → Shape ts from to
  rising : (more : List Told) → ts ≡ Up ∷ more → NoUp more → from ≡ Seeking → (to ≡ Seeking → ⊥) → Shape ts from to

never : {A : Type 0} (w : Wish) → None ≡ Some w → A
never w e = absurd cc

not-seeking : (w : Wish) → (w ≡ Served) ⊎ (w ≡ Idle) → w ≡ Seeking → ⊥
not-seeking w (inl e) f = let no : Served ≡ Seeking = sym e ∙ f in absurd cc
not-seeking w (inr e) f = let no : Idle ≡ Seeking = sym e ∙ f in absurd cc

is-some : (v w : Wish) → Some v ≡ Some w → w ≡ v
is-some v w e = cc

from-idle : (ts : List Told) (w : Wish) → wish_after ts Idle ≡ Some w → (ts ≡ []) × (w ≡ Idle)
from-idle [] w e = (refl, is-some Idle w e)
from-idle (Up ∷ more) w e = never w e
from-idle (Heard m ∷ more) w e = never w e
from-idle (Down why ∷ more) w e = never w e
from-idle (Failed why ∷ more) w e = never w e

none-up : (ts : List Told) → ts ≡ [] → NoUp ts
none-up ts e = subst NoUp (sym e) tt

from-served : (ts : List Told) (w : Wish) → wish_after ts Served ≡ Some w → NoUp ts × ((w ≡ Served) ⊎ (w ≡ Idle))
from-served [] w e = (tt, inl (is-some Served w e))
from-served (Up ∷ more) w e = never w e
from-served (Heard m ∷ more) w e = from-served more w e
from-served (Down why ∷ more) w e = let i = from-idle more w e in (none-up more i.0, inr i.1)
from-served (Failed why ∷ more) w e = never w e

-- after Failed, nothing
failed-alone : (why : Loss) (more : List Told) (w : Wish) → more ≡ [] → w ≡ Idle → Shape (Failed why ∷ more) Seeking w
failed-alone why more w e f =
    subst (λ (ts : List Told). Shape (Failed why ∷ ts) Seeking w) (sym e)
    (nothing tt refl (λ link. refl) (λ q. absurd (not-seeking w (inr f) q)))

from-seeking : (ts : List Told) (w : Wish) → wish_after ts Seeking ≡ Some w → Shape ts Seeking w
from-seeking [] w e = nothing tt refl (λ link. refl) (λ q. refl)
from-seeking (Up ∷ more) w e = let s = from-served more w e in rising more refl s.0 refl (not-seeking w s.1)
from-seeking (Heard m ∷ more) w e = never w e
from-seeking (Down why ∷ more) w e = never w e
from-seeking (Failed why ∷ more) w e = let i = from-idle more w e in failed-alone why more w i.0 i.1

pub shape-of : (ts : List Told) (from to : Wish) → wish_after ts from ≡ Some to → Shape ts from to
shape-of ts Idle to e =
    let i = from-idle ts to e in
    subst (λ (us : List Told). Shape us Idle to) (sym i.0)
    (nothing tt refl (λ link. refl) (λ q. absurd (not-seeking to (inr i.1) q)))
shape-of ts Seeking to e = from-seeking ts to e
shape-of ts Served to e = let s = from-served ts to e in serving s.0 refl (not-seeking to s.1)

-- ---- calls of the user tell no Up

ended-plain : (up wanted : Bool) (why : Loss) → NoUp (if up then Down why ∷ [] else (if wanted then Failed why ∷ [] else []))
ended-plain true wanted why = tt
ended-plain false true why = tt
ended-plain false false why = tt

begun-plain : (o : Option Beginning) (c : Settings) (now : ℕ) (address : Address) (s : State) → NoUp (begun_with c now 0 address o s).told
begun-plain None c now address s = ended-plain s.association.is_up s.is_wanted NoTag
begun-plain (Some b) c now address s = tt

opening-plain : (may active : Bool) (c : Settings) (k : Secrets) (now : ℕ) (s : State)
    → NoUp (if may then (if active then begun_with c now 0 c.address (k.beginning s.beginnings) s else silent (record s { is_wanted = true })) else silent s).told
opening-plain false active c k now s = tt
opening-plain true false c k now s = tt
opening-plain true true c k now s = begun-plain (k.beginning s.beginnings) c now c.address s

pub opens-plain : (c : Settings) (k : Secrets) (now : ℕ) (is_active : Bool) (s : State) → NoUp (after c k (Opens now is_active) s).told
unfolding after
opens-plain c k now is_active s = opening-plain (may_open is_active s) is_active c k now s

pub aborts-plain : (c : Settings) (k : Secrets) (s : State) → NoUp (after c k Aborts s).told
unfolding after
aborts-plain c k s = ended-plain s.association.is_up s.is_wanted Local

pub flushes-plain : (c : Settings) (k : Secrets) (now : ℕ) (s : State) → NoUp (after c k (Flushes now) s).told
unfolding after
flushes-plain c k now s = tt

-- ---- what is left of an endpoint that was told to end what it has

pub aborts-idle : (c : Settings) (k : Secrets) (s : State) → Fits (Some Idle) (after c k Aborts s).left
unfolding after
aborts-idle c k s = (refl, refl)
