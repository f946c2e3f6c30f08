-- Which end opened an association last, whether the other one followed it, and which cookies may still open one.
use Rattle.std.specs.Prelude.{◌≡◌, ◌≢◌, suc, List, [], ◌∷◌, length}
use Rattle.std.specs.List.{Contains}
use Rattle.sctp_moves.specs.Ends.{Cookie, Epoch, Phase, Closed, CookieWait, CookieEchoed, Established, End, Ends, new_ends}
use Rattle.sctp_moves.specs.Moves.{MayOpen, EndMove, Moves}
use Rattle.sctp_moves.specs.Theorems.{Always, AreOne}

-- ---- the latest associations

pub data Standing : Type 0 where
  -- neither end had any
  Neither : Standing
  -- the latest is the same at both
  Joined : Standing
  -- the latest of one end is none of the other, which has none now
  NearAhead : Standing
  FarAhead : Standing

pub record AreNew (x y : End) : Type 0 where
  pub none : x.epochs ≡ []
  pub far_none : y.epochs ≡ []

pub record AreJoined (x y : End) : Type 0 where
  pub latest : Epoch
  pub past : List Epoch
  pub now : x.epochs ≡ latest ∷ past
  pub far_latest : Epoch
  pub far_past : List Epoch
  pub far_now : y.epochs ≡ far_latest ∷ far_past
  pub one : AreOne latest far_latest

pub record IsAhead (x y : End) : Type 0 where
  pub latest : Epoch
  pub past : List Epoch
  pub now : x.epochs ≡ latest ∷ past
  pub alone : (f : Epoch) → Contains y.epochs f → AreOne latest f → ⊥
  pub down : y.phase ≢ Established

abbrev pub Stands : Standing → Ends → Type 0
Stands Neither p = AreNew p.near p.far
Stands Joined p = AreJoined p.near p.far
Stands NearAhead p = IsAhead p.near p.far
Stands FarAhead p = IsAhead p.far p.near

-- ---- what may open an association yet

-- a cookie that an end echoed, by which the other end may open an association that the end doesn't have
pub record IsReady (x y : End) : Type 0 where
  pub cookie : Cookie
  pub echoed : Contains x.echoes cookie
  pub present : cookie.generation ≡ y.generation
  pub may : MayOpen y.phase cookie
  pub new : (f : Epoch) → Contains x.epochs f → f.own ≡ cookie.far → f.far ≡ cookie.own → ⊥

-- none once an end has an association: what it echoed before opens nothing else
abbrev pub established_ends_are_spent : Type 0
established_ends_are_spent = Always (λ p. p.near.phase ≡ Established → IsReady p.near p.far → ⊥)

-- and none by what the other end does
abbrev pub cookies_are_not_revived : Type 0
cookies_are_not_revived = Always (λ p. (q : End) → EndMove p.far p.near q → IsReady p.far q → IsReady p.far p.near)

-- ---- openings

pub record Opened (x z : End) : Type 0 where
  pub more : length z.epochs ≡ suc (length x.epochs)

pub record Unopened (x z : End) : Type 0 where
  pub same : length z.epochs ≡ length x.epochs

-- how a move goes on: an end opens an association first, by a cookie that the other one echoed; or second, entering the
-- other one's latest
pub data Turn (st : Standing) (p q : Ends) : Standing → Type 0 where
  stays : Unopened p.near q.near → Unopened p.far q.far → Turn st p q st
  near_leads : Opened p.near q.near → Unopened p.far q.far → IsReady p.far p.near → Turn st p q NearAhead
  far_leads : Unopened p.near q.near → Opened p.far q.far → IsReady p.near p.far → Turn st p q FarAhead
  near_follows : st ≡ FarAhead → Opened p.near q.near → Unopened p.far q.far → Turn st p q Joined
  far_follows : st ≡ NearAhead → Unopened p.near q.near → Opened p.far q.far → Turn st p q Joined

abbrev pub Course : Standing → Ends → List Ends → Type 0
Course st p [] = Unit {0}
Course st p (q ∷ rest) = (next : Standing) × Turn st p q next × Stands next q × Course next q rest

-- so an end follows the other one only into the association with which that is ahead, and not once it was ahead itself
abbrev pub openings_come_in_turn : Type 0
openings_come_in_turn = (list : List Ends) → Moves new_ends list → Course Neither new_ends list

-- ---- an end that tries nothing

abbrev pub IsCalm : Phase → Type 0
IsCalm Closed = Unit {0}
IsCalm (CookieWait own) = ⊥
IsCalm (CookieEchoed own far) = ⊥
IsCalm Established = Unit {0}

-- from such an end on, a move begins no try and echoes no cookie
abbrev pub IsQuietMove : End → End → Type 0
IsQuietMove x z = IsCalm x.phase → (z.echoes ≡ x.echoes) × IsCalm z.phase

abbrev pub IsQuiet : End → List End → Type 0
IsQuiet x [] = Unit {0}
IsQuiet x (z ∷ rest) = IsQuietMove x z × IsQuiet z rest
