-- What the user of an endpoint wants, by its own calls and by what it is told: an association comes up only if the user
-- wants one.
use Rattle.std.specs.Prelude.{◌≡◌, true, false, List, [], ◌∷◌, Option, Some, None}
use Rattle.sctp_rules.specs.Settings.{Settings, Secrets}
use Rattle.sctp_rules.specs.State.{State, Told, Up, Heard, Down, Failed, first_state}
use Rattle.sctp_rules.specs.Endpoint.{Happening, Opens, after, after_all}

pub data Wish : Type 0 where
  -- none is wanted, and none is up
  Idle : Wish
  -- one is wanted, and none is up
  Seeking : Wish
  -- one is up
  Served : Wish

-- by a call of the user
abbrev pub wish_by_call : Happening → Wish → Wish
wish_by_call (Opens now is_active) Idle = Seeking
wish_by_call what wish = wish

-- by what the user is told; None if that is told out of turn
abbrev pub wish_by : Told → Wish → Option Wish
wish_by Up Seeking = Some Served
wish_by (Heard message) Served = Some Served
wish_by (Down why) Served = Some Idle
wish_by (Failed why) Seeking = Some Idle
wish_by told wish = None

abbrev pub and_then : (Wish → Option Wish) → Option Wish → Option Wish
and_then rest None = None
and_then rest (Some wish) = rest wish

abbrev pub wish_after : List Told → Wish → Option Wish
wish_after [] wish = Some wish
wish_after (told ∷ more) wish = and_then (λ next. wish_after more next) (wish_by told wish)

-- after calls and other happenings in a row, from a state on
abbrev pub wish_after_all : Settings → Secrets → List Happening → State → Wish → Option Wish
wish_after_all c k [] s wish = Some wish
wish_after_all c k (what ∷ more) s wish =
    and_then (λ next. wish_after_all c k more (after c k what s).left next)
    (wish_after (after c k what s).told (wish_by_call what wish))

-- the endpoint is in it: one is up exactly when the user was told so, and tried or waited for only if it wants one
abbrev pub Fits : Option Wish → State → Type 0
Fits None s = ⊥
Fits (Some Idle) s = (s.association.is_up ≡ false) × (s.is_wanted ≡ false)
Fits (Some Seeking) s = s.association.is_up ≡ false
Fits (Some Served) s = s.association.is_up ≡ true

-- whatever happens, Up is told only if the user wants an association, that is, from a call of `open` until Up or Failed
-- is told; and then Down is told before it may want the next one
abbrev pub told_as_wished : Type 0
told_as_wished =
    (c : Settings) (k : Secrets) (happenings : List Happening) →
    Fits (wish_after_all c k happenings (first_state c) Idle) (after_all c k happenings (first_state c)).left
