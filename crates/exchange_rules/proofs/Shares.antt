-- A full share refuses exactly the user messages that find room in the pool, don't wait, and go by its link.
use Rattle.std.specs.Option.{option_map_or}
use Rattle.std.proofs.lemmas.Bool.{le-leb, leb-false, lt-leb}
use Rattle.signalling_types.specs.declared.cause.Cause.TheVariants as causes
use Rattle.exchange_rules.specs.LawsOfShares.{FindsFullShare, full_shares_refuse}
use Rattle.exchange_rules.proofs.Basics.{◌≡◌, ◌≤◌, ℕ, Bool, true, false, ◌&&◌, ◌||◌, not, length, Option, Some, None, option_or, refl, sym, ap, ◌∙◌, nat_le, if◌then◌else◌, leb-true}
use Rattle.exchange_rules.proofs.Definitions.{Message, dpc_of, flow_of, is_management, Configuration, Cause, MANAGEMENT_MESSAGES, Outcome, Refused, Node, Done, refuse, entry_of, link_of, waits, is_destination, no_room, is_share_full, no_room_on, offer, WholeQueues, whole}
use Rattle.exchange_rules.proofs.Leaves.{cause_in}

-- ---- a share

pub record IsGiven (o : Option ℕ) (count : ℕ) : Type 0 where
  pub share : ℕ
  pub given : o ≡ Some share
  pub full : share ≤ count

given-full : (o : Option ℕ) (count : ℕ) → option_map_or (λ share. nat_le share count) o false ≡ true → IsGiven o count
given-full None count e = absurd cc
given-full (Some share) count e = record { share = share; given = refl; full = leb-true share count e }

full-given : (o : Option ℕ) (count share : ℕ) → o ≡ Some share → share ≤ count → option_map_or (λ share. nat_le share count) o false ≡ true
full-given o count share e full = ap (λ (its : Option ℕ). option_map_or (λ share. nat_le share count) its false) e ∙ le-leb share count full

-- ---- room in a link's share

pub record IsFull (c : Configuration) (m : Message) (qs : WholeQueues) (waiting : Bool) (link : Option ℕ) : Type 0 where
  pub its : ℕ
  pub its_link : link ≡ Some its
  pub full : is_share_full whole c its qs ≡ true
  pub free : waiting ≡ false
  pub user : is_management m ≡ false

abbrev in_share : (full waiting managing : Bool) → Option Cause
in_share full waiting managing = if full && not (waiting || managing) then Some causes.ShareFull else None

full-in : (full waiting managing : Bool) → in_share full waiting managing ≡ Some causes.ShareFull → (full ≡ true) × (waiting ≡ false) × (managing ≡ false)
full-in true false false e = (refl, refl, refl)
full-in true false true e = absurd cc
full-in true true managing e = absurd cc
full-in false waiting managing e = absurd cc

in-full : (full waiting managing : Bool) → full ≡ true → waiting ≡ false → managing ≡ false → in_share full waiting managing ≡ Some causes.ShareFull
in-full true false false e f g = refl
in-full true false true e f g = absurd cc
in-full true true managing e f g = absurd cc
in-full false waiting managing e f g = absurd cc

full-on : (c : Configuration) (m : Message) (qs : WholeQueues) (waiting : Bool) (link : Option ℕ) → no_room_on whole c link waiting m qs ≡ Some causes.ShareFull → IsFull c m qs waiting link
full-on c m qs waiting None e = absurd cc
full-on c m qs waiting (Some link) e =
    let found : (is_share_full whole c link qs ≡ true) × (waiting ≡ false) × (is_management m ≡ false) = full-in (is_share_full whole c link qs) waiting (is_management m) e in
    record { its = link; its_link = refl; full = found.0; free = found.1; user = found.2 }

on-full : (c : Configuration) (m : Message) (qs : WholeQueues) (waiting : Bool) (link : Option ℕ) → IsFull c m qs waiting link → no_room_on whole c link waiting m qs ≡ Some causes.ShareFull
on-full c m qs waiting link f =
    ap (λ (o : Option ℕ). no_room_on whole c o waiting m qs) f.its_link ∙ in-full (is_share_full whole c f.its qs) waiting (is_management m) f.full f.free f.user

-- ---- room in the pool

abbrev is_share : Option Cause → Bool
is_share (Some causes.ShareFull) = true
is_share other = false

abbrev in_pool : (managing few many : Bool) → Option Cause
in_pool managing few many = if managing then (if few then Some causes.ManagementFull else None) else (if many then Some causes.PoolFull else None)

pool-other : (managing few many : Bool) → is_share (in_pool managing few many) ≡ false
pool-other true true many = refl
pool-other true false many = refl
pool-other false few true = refl
pool-other false few false = refl

free-pool : (managing few many : Bool) → managing ≡ false → in_pool managing few many ≡ None → many ≡ false
free-pool true few many e f = absurd cc
free-pool false few true e f = absurd cc
free-pool false few false e f = refl

pool-free : (managing few many : Bool) → managing ≡ false → many ≡ false → in_pool managing few many ≡ None
pool-free true few many e f = absurd cc
pool-free false few true e f = absurd cc
pool-free false few false e f = refl

-- ---- a message for another point

pub record IsStopped (known : Bool) (pool room : Option Cause) : Type 0 where
  pub knows : known ≡ true
  pub free : pool ≡ None
  pub full : room ≡ Some causes.ShareFull

module _ (c : Configuration) (from : Option ℕ) (m : Message) (n : Node WholeQueues) where
  abbrev offered : (known : Bool) (pool room : Option Cause) (waiting : Bool) (link : Option ℕ) → Done WholeQueues
  offered known pool room waiting link = if known then offer whole c (option_or pool room) waiting link from m n else refuse causes.UnknownDestination n

  stopped : (known : Bool) (pool room : Option Cause) (waiting : Bool) (link : Option ℕ) → is_share pool ≡ false
      → (offered known pool room waiting link).outcome ≡ Refused causes.ShareFull → IsStopped known pool room
  stopped false pool room waiting link f e = absurd cc
  stopped true (Some cause) room waiting link f e =
      let no : false ≡ true = sym f ∙ ap (λ (o : Outcome). is_share (Some (cause_in cause o))) e in
      absurd cc
  stopped true None (Some cause) waiting link f e = record { knows = refl; free = refl; full = ap (λ (o : Outcome). Some (cause_in cause o)) e }
  stopped true None None true link f e = absurd cc
  stopped true None None false None f e = absurd cc
  stopped true None None false (Some link) f e = absurd cc

  stops : (known : Bool) (pool room : Option Cause) (waiting : Bool) (link : Option ℕ) → IsStopped known pool room
      → (offered known pool room waiting link).outcome ≡ Refused causes.ShareFull
  stops known pool room waiting link s =
      ap (λ (b : Bool). (offered b pool room waiting link).outcome) s.knows
      ∙ ap (λ (o : Option Cause). (offered true o room waiting link).outcome) s.free
      ∙ ap (λ (o : Option Cause). (offered true None o waiting link).outcome) s.full

  abbrev known : Bool
  known = is_destination c (dpc_of m)

  abbrev few : Bool
  few = nat_le MANAGEMENT_MESSAGES (whole.managements n.queues)

  abbrev many : Bool
  many = nat_le c.pool (whole.users n.queues)

  abbrev waiting : Bool
  waiting = waits c n.parts.holds m

  abbrev its_link : Option ℕ
  its_link = link_of c n.parts (flow_of m)

  abbrev pool : Option Cause
  pool = no_room whole c m n.queues

  abbrev room : Option Cause
  room = no_room_on whole c its_link waiting m n.queues

  finds-full : (offered known pool room waiting its_link).outcome ≡ Refused causes.ShareFull → FindsFullShare c m n
  finds-full e =
      let s : IsStopped known pool room = stopped known pool room waiting its_link (pool-other (is_management m) few many) e in
      let f : IsFull c m n.queues waiting its_link = full-on c m n.queues waiting its_link s.full in
      let g : IsGiven (entry_of c f.its).share (length (whole.unconfirmed n.queues f.its)) = given-full (entry_of c f.its).share (length (whole.unconfirmed n.queues f.its)) f.full in
      record {
        user = f.user;
        known = s.knows;
        room = leb-false c.pool (whole.users n.queues) (free-pool (is_management m) few many f.user s.free);
        free = f.free;
        link = f.its;
        share = g.share;
        its_link = f.its_link;
        its_share = g.given;
        full = g.full;
      }

  full-finds : FindsFullShare c m n → (offered known pool room waiting its_link).outcome ≡ Refused causes.ShareFull
  full-finds f =
      stops known pool room waiting its_link (record {
        knows = f.known;
        free = pool-free (is_management m) few many f.user (lt-leb c.pool (whole.users n.queues) f.room);
        full = on-full c m n.queues waiting its_link (record {
          its = f.link;
          its_link = f.its_link;
          full = full-given (entry_of c f.link).share (length (whole.unconfirmed n.queues f.link)) f.share f.its_share f.full;
          free = f.free;
          user = f.user;
        });
      })

pub full-refuse : full_shares_refuse
full-refuse c from m n = (λ e. finds-full c from m n e, λ f. full-finds c from m n f)
