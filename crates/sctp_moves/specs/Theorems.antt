-- What holds after every list of moves of two new ends.
--
-- An association is two epochs, one of each end, with the same two tags. One end may have its epoch and the other not
-- yet, or never. What one received is the beginning of what the other sent (prefix), no more is confirmed than came
-- (confirmed), tags name the association (one), the end that opens it first finds the other waiting (first), the end
-- that opens it second enters the other's latest one (second), and associations follow one another in the same order at
-- both ends (order).
use Rattle.std.specs.Prelude.{◌≡◌, ◌≢◌, ◌⊎◌, ℕ, true, ◌<◌, ◌≤◌, List, ◌∷◌, ◌++◌, length, take, map, slice_get, Some}
use Rattle.std.specs.List.{Contains}
use Rattle.sctp_moves.specs.Ends.{Name, Cookie, Epoch, CookieEchoed, Established, End, Ends, new_ends, turned}
use Rattle.sctp_moves.specs.Moves.{IsTrying, EndMove, EndMoves, last_end, Moves, last_of}

-- a statement about the near end holds of both
pub record BothWays (Statement : Ends → Type 0) (p : Ends) : Type 0 where
  pub there : Statement p
  pub back : Statement (turned p)

-- and it does so after every list of moves
abbrev pub Always : (Ends → Type 0) → Type 0
Always Statement = (list : List Ends) → Moves new_ends list → BothWays Statement (last_of new_ends list)

-- an epoch of one end and one of the other are those of one association: they have the same two tags
pub record AreOne (e f : Epoch) : Type 0 where
  pub there : e.own.tag ≡ f.far.tag
  pub back : e.far.tag ≡ f.own.tag

-- what came by f is the beginning of what was sent by e, each message once, in order, whole; and what e saw confirmed
-- had come
pub record Carries (e f : Epoch) : Type 0 where
  pub prefix : f.received ≡ take (length f.received) e.sent
  pub confirmed : e.acked ≤ length f.received

-- ---- prefix, confirmed

abbrev pub CarriesOver : Ends → Type 0
CarriesOver p = (e f : Epoch) → Contains p.near.epochs e → Contains p.far.epochs f → AreOne e f → Carries e f

abbrev pub each_association_carries_a_prefix : Type 0
each_association_carries_a_prefix = Always CarriesOver

-- an end that received something, or saw something confirmed, did so in an association that the other
-- end had too
pub record HasOther (epochs : List Epoch) (e : Epoch) : Type 0 where
  pub other : Epoch
  pub there : Contains epochs other
  pub one : AreOne e other

abbrev pub what_is_received_was_sent : Type 0
what_is_received_was_sent =
    Always (λ p. (e : Epoch) → Contains p.near.epochs e → 0 < length e.received → HasOther p.far.epochs e)

abbrev pub what_is_confirmed_was_received : Type 0
what_is_confirmed_was_received =
    Always (λ p. (e : Epoch) → Contains p.near.epochs e → 0 < e.acked → HasOther p.far.epochs e)

-- ---- one: no two epochs of an end have the same own tag, nor the same far tag

abbrev pub OwnTagsDiffer : Ends → Type 0
OwnTagsDiffer p =
    (i j : ℕ) (e f : Epoch) → slice_get p.near.epochs i ≡ Some e → slice_get p.near.epochs j ≡ Some f →
    e.own.tag ≡ f.own.tag → i ≡ j

abbrev pub FarTagsDiffer : Ends → Type 0
FarTagsDiffer p =
    (i j : ℕ) (e f : Epoch) → slice_get p.near.epochs i ≡ Some e → slice_get p.near.epochs j ≡ Some f →
    e.far.tag ≡ f.far.tag → i ≡ j

abbrev pub own_tags_differ : Type 0
own_tags_differ = Always OwnTagsDiffer

abbrev pub far_tags_differ : Type 0
far_tags_differ = Always FarTagsDiffer

-- ---- first, second

-- a move by which the near end opens an association
pub record Opens (p : Ends) (q : End) (e : Epoch) : Type 0 where
  pub move : EndMove p.far p.near q
  pub down : p.near.phase ≢ Established
  pub up : q.phase ≡ Established
  pub past : List Epoch
  pub now : q.epochs ≡ e ∷ past

-- an end waits for COOKIE ACK of an association that the other one opens, and its user wants it; or it waited for that,
-- and has given up since. Either way it isn't established
pub record Awaits (x : End) (e : Epoch) : Type 0 where
  pub down : x.phase ≢ Established
  pub cookie : Cookie
  pub echoed : Contains x.echoes cookie
  pub own : cookie.own ≡ e.own
  pub far : cookie.far ≡ e.far
  pub waits : ((x.phase ≡ CookieEchoed e.far e.own) × (x.wanted ≡ true))
      ⊎ ((name : Name) → IsTrying x.phase name → name.tag ≢ e.far.tag)

-- the other end isn't established if an end opens an association first, and waits for it or gave up
abbrev pub first_finds_other_waiting : Type 0
first_finds_other_waiting =
    Always (λ p.
    (q : End) (e : Epoch) → Opens p q e → ((f : Epoch) → Contains p.far.epochs f → AreOne e f → ⊥) →
    Awaits p.far e)

-- an end that opens an association second enters the latest one of the other
abbrev pub second_enters_latest : Type 0
second_enters_latest =
    Always (λ p.
    (q : End) (e f : Epoch) → Opens p q e → Contains p.far.epochs f → AreOne e f →
    slice_get p.far.epochs 0 ≡ Some f)

-- ---- order: of two associations that both ends had, the same one is the later at both

abbrev pub AreInOrder : Ends → Type 0
AreInOrder p =
    (i j k l : ℕ) (e earlier f sooner : Epoch) →
    slice_get p.near.epochs i ≡ Some e → slice_get p.near.epochs j ≡ Some earlier →
    slice_get p.far.epochs k ≡ Some f → slice_get p.far.epochs l ≡ Some sooner →
    AreOne e f → AreOne earlier sooner → i < j → k < l

abbrev pub associations_come_in_order : Type 0
associations_come_in_order = Always AreInOrder

-- ---- lists of moves

abbrev pub both : (near far : End) → Ends
both near far = record { near = near; far = far }

-- moves of one end are moves of both, which end where those end
pub record AreMoves (p : Ends) (list : List Ends) (q : Ends) : Type 0 where
  pub moves : Moves p list
  pub last : last_of p list ≡ q

abbrev pub near_moves_are_moves : Type 0
near_moves_are_moves =
    (near far : End) (list : List End) → EndMoves far near list →
    AreMoves (both near far) (map (λ e. both e far) list) (both (last_end near list) far)

abbrev pub far_moves_are_moves : Type 0
far_moves_are_moves =
    (near far : End) (list : List End) → EndMoves near far list →
    AreMoves (both near far) (map (λ e. both near e) list) (both near (last_end far list))

-- and so are moves after moves
abbrev pub moves_join : Type 0
moves_join =
    (p q r : Ends) (list more : List Ends) → AreMoves p list q → AreMoves q more r → AreMoves p (list ++ more) r
