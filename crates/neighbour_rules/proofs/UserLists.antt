-- The user messages and the management of a list, by their service indicator and by what they say: alike, except those
-- that pass by.
use Rattle.pair_rules.proofs.Basics.{nat_eq, ◌≡◌, ◌⊎◌, inl, inr, ℕ, Bool, true, false, not, List, [], ◌∷◌, ◌++◌, refl, ap, sym, ◌∙◌, if◌then◌else◌}
use Rattle.pair_rules.proofs.Definitions.{Message, dpc_of, is_management, read_management, users_of, managements_of, Pair, Saying, UserMessage, is_user_message}
use Rattle.pair_moves.specs.Failing as coarse
use Rattle.pair_moves.specs.Moves as moves
use Rattle.pair_moves.specs.Passing.{without_others}
use Rattle.pair_moves.specs.Sayings.{Other, is_other}
use Rattle.pair_rules.proofs.Going.{Goes, goes-one}
use Rattle.neighbour_rules.proofs.Counted.{Base}
use Rattle.neighbour_rules.proofs.World.{is_between, reading, says_by, says_of}
use Rattle.neighbour_rules.proofs.Messages.{word-says}

-- ---- what kinds of messages there are

pub record IsManaged (m : Message) (said : Saying) : Type 0 where
  pub management : is_management m ≡ true
  pub says : is_user_message said ≡ false

pub record IsUser (m : Message) (said : Saying) : Type 0 where
  pub user : is_management m ≡ false
  pub says : said ≡ UserMessage

pub record IsPast (m : Message) (said : Saying) : Type 0 where
  pub user : is_management m ≡ false
  pub says : said ≡ Other

abbrev pub IsOfKind : Message → Saying → Type 0
IsOfKind m said = IsManaged m said ⊎ (IsUser m said ⊎ IsPast m said)

pub kind-of : (one two point : ℕ) (m : Message) → IsOfKind m (says_of one two point m)
kind-of one two point m = by (is_management m) (is_between one two m) (nat_eq (dpc_of m) point) refl
  where
    by : (b between either : Bool) → is_management m ≡ b → IsOfKind m (says_by b between either m)
    by true true either e = inl (record { management = e; says = word-says (read_management m.sif) })
    by true false either e = inl (record { management = e; says = refl })
    by false between true e = inr (inl (record { user = e; says = refl }))
    by false between false e = inr (inr (record { user = e; says = refl }))

module _ (one two : ℕ) (base : Base) where
  abbrev read : Message → Saying
  read = says_of one two base.there

  abbrev stays : List Message → List Message
  stays ms = without_others read ms

  -- ---- of a message before others

  module _ (m : Message) (ms more : List Message) where
    -- by whether it is management, and by whether it says that it is a user message
    abbrev users : Bool → List Message
    users b = stays ((if not b then m ∷ users_of ms else users_of ms) ++ more)

    abbrev said_users : Bool → List Message
    said_users u = stays ((if u then m ∷ coarse.users_of read ms else coarse.users_of read ms) ++ more)

    abbrev managements : Bool → List Message
    managements b = stays ((if b then m ∷ managements_of ms else managements_of ms) ++ more)

    abbrev said_managements : Bool → List Message
    said_managements u = stays ((if not u then m ∷ coarse.managements_of read ms else coarse.managements_of read ms) ++ more)

    -- before what stays of a list
    abbrev kept : Saying → List Message → List Message
    kept said xs = if not (is_other said) then m ∷ xs else xs

    users-of : IsOfKind m (read m) → stays (users_of ms ++ more) ≡ stays (coarse.users_of read ms ++ more) → users (is_management m) ≡ said_users (is_user_message (read m))
    users-of (inl k) rest = ap users k.management ∙ rest ∙ sym (ap said_users k.says)
    users-of (inr (inl k)) rest =
        ap users k.user
        ∙ ap (λ (xs : List Message). kept (read m) xs) rest
        ∙ sym (ap (λ (s : Saying). said_users (is_user_message s)) k.says)
    users-of (inr (inr k)) rest =
        ap users k.user
        ∙ ap (λ (s : Saying). kept s (stays (users_of ms ++ more))) k.says
        ∙ rest
        ∙ sym (ap (λ (s : Saying). said_users (is_user_message s)) k.says)

    managements-of : IsOfKind m (read m) → stays (managements_of ms ++ more) ≡ stays (coarse.managements_of read ms ++ more)
        → managements (is_management m) ≡ said_managements (is_user_message (read m))
    managements-of (inl k) rest = ap managements k.management ∙ ap (λ (xs : List Message). kept (read m) xs) rest ∙ sym (ap said_managements k.says)
    managements-of (inr (inl k)) rest = ap managements k.user ∙ rest ∙ sym (ap (λ (s : Saying). said_managements (is_user_message s)) k.says)
    managements-of (inr (inr k)) rest =
        ap managements k.user
        ∙ rest
        ∙ sym (ap (λ (s : Saying). kept s (stays (coarse.managements_of read ms ++ more))) k.says)
        ∙ sym (ap (λ (s : Saying). said_managements (is_user_message s)) k.says)

  -- ---- of whole lists

  pub users-stay : (ms more : List Message) → stays (users_of ms ++ more) ≡ stays (coarse.users_of read ms ++ more)
  users-stay [] more = refl
  users-stay (m ∷ ms) more = users-of m ms more (kind-of one two base.there m) (users-stay ms more)

  pub managements-stay : (ms more : List Message) → stays (managements_of ms ++ more) ≡ stays (coarse.managements_of read ms ++ more)
  managements-stay [] more = refl
  managements-stay (m ∷ ms) more = managements-of m ms more (kind-of one two base.there m) (managements-stay ms more)

  -- ---- those that pass by change places

  pub mixing : (p : Pair) (held loose : List Message) → stays held ≡ stays p.near.held → stays loose ≡ stays p.near.loose
      → Goes (reading one two base) p (record p { near = record p.near { held = held; loose = loose } })
  mixing p held loose e f =
      goes-one (reading one two base) p _
      (moves.mixes_others (record { held = held; loose = loose; arrived = p.near.arrived; held_stay = e; loose_stay = f; arrived_stay = refl; after = refl }))
