-- What becomes of a message for a user part that isn't here: it is counted, and its sender is told by one message, or
-- none.
use Rattle.exchange_rules.proofs.Basics.{◌≡◌, ◌≢◌, ◌<◌, ◌^◌, ◌+◌, ◌*◌, ◌%◌, ◌&&◌, ◌||◌, ℕ, Bool, true, false, not, nat_eq, nat_lt, nat_le, is_some, slice_set, slice_index_or, length, List, [], Option, Some, None, refl, ap, sym, subst, ◌∙◌, arith, if◌then◌else◌, nat_tests, position-Some, get_or-set_same, get_or-set_other}
use Rattle.exchange_rules.proofs.Definitions.{Done, Message, flow_of, is_management, opc_of, service_indicator, Cause, Configuration, Management, IsManagement, destination_place, Node, with_parts, answer, refuse, Local, link_of, no_room, queue_on, send, is_unequipped_told, send_if, tell_unavailable, answer_no_user_part, unavailable, unequipped_counted, is_user, sccp, on_unitdata, local, manage, distribute, UserPartUnavailable, Unequipped, WholeQueues, whole}
use Rattle.signalling_types.specs.declared.cause.Cause.TheVariants as causes
use Rattle.settings.specs.Configuration.{DestinationEntry}
use Rattle.mtp3_codec.proofs.Reading.{its-label, message-back}
use Rattle.exchange_rules.specs.LawsOfUserParts.{lacks_part, count_from, is_sender_told, lacking_is_refused, told_by_one, else_counted, else_untouched, counts_modulo_eight, upu_reads_back, parts_get_their_messages, silent, others_go_the_same, submissions_tell_nobody, submissions_are_their_parts, none_is_counted_at_first, takes_count_none}
use Rattle.signalling_types.specs.declared.outcome.Outcome.TheVariants.{Refused}
use Rattle.exchange_rules.specs.Sending.{Outgoing, SendsStatus, SendsMessage, Acknowledges, SendsNothing, goes_out, after_sending}

-- what leaves room for a telling leaves room for management
few : (k : ℕ) → nat_lt k 128 ≡ true → nat_le 256 k ≡ false
few k e = grind (arith, nat_tests, e)

first-part : (a b d : Bool) → (a && b && d) ≡ true → a ≡ true
first-part true b d e = refl
first-part false b d e = absurd cc

module _ (c : Configuration) (link : ℕ) (m : Message) (n : Node WholeQueues) where
  abbrev absent : Node WholeQueues
  absent = answer_no_user_part whole c (Some link) (destination_place c (opc_of m)) m n

  -- what is left of a message that lacks its part
  lacking : (management is_sccp user : Bool) → (not management && not (is_sccp || user)) ≡ true
      → (if management then manage whole c link m n else (if is_sccp then on_unitdata whole c m n else (if user then answer Local n else refuse causes.NoUserPart absent))).left ≡ absent
  lacking true is_sccp user e = absurd cc
  lacking false true user e = absurd cc
  lacking false false true e = absurd cc
  lacking false false false e = refl

  refusing : (management is_sccp user : Bool) → (not management && not (is_sccp || user)) ≡ true
      → (if management then manage whole c link m n else (if is_sccp then on_unitdata whole c m n else (if user then answer Local n else refuse causes.NoUserPart absent))).outcome ≡ Refused causes.NoUserPart
  refusing true is_sccp user e = absurd cc
  refusing false true user e = absurd cc
  refusing false false true e = absurd cc
  refusing false false false e = refl

  -- a message for a user part that is here
  giving : (management is_sccp user : Bool) → management ≡ false → is_sccp ≡ false → user ≡ true
      → (if management then manage whole c link m n else (if is_sccp then on_unitdata whole c m n else (if user then answer Local n else refuse causes.NoUserPart absent))) ≡ answer Local n
  giving true is_sccp user e f g = absurd cc
  giving false true user e f g = absurd cc
  giving false false false e f g = absurd cc
  giving false false true e f g = refl

  -- one that isn't for SCCP
  but-sccp : (is_sccp : Bool) (d : Done WholeQueues) → is_sccp ≡ false → (if is_sccp then on_unitdata whole c m n else d) ≡ d
  but-sccp true d e = absurd cc
  but-sccp false d e = refl

  pub left-absent : lacks_part c m ≡ true → (distribute whole c link m n).left ≡ absent
  left-absent e = lacking (is_management m) (nat_eq (service_indicator m) sccp) (is_user c (service_indicator m)) e

  abbrev next : ℕ → Node WholeQueues
  next origin = with_parts n (unequipped_counted origin n.parts)

  -- one whose sender may be told
  pub left-told : (origin : ℕ) → lacks_part c m ≡ true → c.user_part_unavailable ≡ true → destination_place c (opc_of m) ≡ Some origin
      → (distribute whole c link m n).left ≡ tell_unavailable whole c origin m n
  left-told origin e on f =
      left-absent e ∙ ap (λ (o : Option ℕ). answer_no_user_part whole c (Some link) o m n) f
      ∙ ap (λ (b : Bool). if b then tell_unavailable whole c origin m n else n) on

  upu-management : is_management (unavailable c m) ≡ true
  upu-management =
      let zero : service_indicator (unavailable c m) ≡ 0 = omega arith in
      rw zero refl

  roomy : nat_lt (whole.managements n.queues) 128 ≡ true → no_room whole c (unavailable c m) n.queues ≡ None
  roomy e =
      let room : nat_le 256 (whole.managements n.queues) ≡ false = few (whole.managements n.queues) e in
      rw (upu-management, room) refl

  -- where it is told, UPU has its room and its link
  pub tells : (origin way : ℕ) → is_sender_told c origin m n ≡ true → link_of c n.parts (flow_of (unavailable c m)) ≡ Some way
      → tell_unavailable whole c origin m n ≡ queue_on whole c way (unavailable c m) (next origin)
  tells origin way e f =
      let upu : Message = unavailable c m in
      ap (λ (b : Bool). send_if whole c b upu (next origin)) e
      ∙ ap (λ (cause : Option Cause). send whole c cause (link_of c n.parts (flow_of upu)) upu (next origin))
      (roomy (first-part (nat_lt (whole.managements n.queues) 128) (nat_eq (count_from origin n) 0) (is_some (link_of c n.parts (flow_of upu))) e))
      ∙ ap (λ (its : Option ℕ). send whole c None its upu (next origin)) f

  off-one : (on : Bool) (x : Node WholeQueues) → (on && true) ≡ false → (if on then x else n) ≡ n
  off-one true x e = absurd cc
  off-one false x e = refl

  pub off-by : (origin : Option ℕ) → (c.user_part_unavailable && is_some origin) ≡ false → answer_no_user_part whole c (Some link) origin m n ≡ n
  off-by (Some origin) e = off-one c.user_part_unavailable (tell_unavailable whole c origin m n) e
  off-by None e = refl

  -- what is sent changes no count
  sent-counts : (origin : ℕ) (cause : Option Cause) (way : Option ℕ)
      → (send whole c cause way (unavailable c m) (next origin)).parts.unequipped ≡ (next origin).parts.unequipped
  sent-counts origin (Some cause) way = refl
  sent-counts origin None None = refl
  sent-counts origin None (Some way) = refl

  told-counts : (origin : ℕ) (is_told : Bool) → (send_if whole c is_told (unavailable c m) (next origin)).parts.unequipped ≡ (next origin).parts.unequipped
  told-counts origin true = sent-counts origin (no_room whole c (unavailable c m) n.queues) (link_of c n.parts (flow_of (unavailable c m)))
  told-counts origin false = refl

  pub counts : (origin : ℕ) → lacks_part c m ≡ true → c.user_part_unavailable ≡ true → destination_place c (opc_of m) ≡ Some origin
      → (distribute whole c link m n).left.parts.unequipped ≡ slice_set n.parts.unequipped origin ((count_from origin n + 1) % 8)
  counts origin e on f =
      ap (λ (x : Node WholeQueues). x.parts.unequipped) (left-told origin e on f) ∙ told-counts origin (is_unequipped_told whole c origin m n)

  same-else : (is_sccp user : Bool) (x y : Node WholeQueues) → not (is_sccp || user) ≡ false
      → (if is_sccp then on_unitdata whole c m n else (if user then answer Local n else refuse causes.NoUserPart x))
      ≡ (if is_sccp then on_unitdata whole c m n else (if user then answer Local n else refuse causes.NoUserPart y))
  same-else true user x y e = refl
  same-else false true x y e = refl
  same-else false false x y e = absurd cc

pub by-one : told_by_one
by-one c link origin way m n e on f told its = left-told c link m n origin e on f ∙ tells c link m n origin way told its

pub by-count : else_counted
by-count c link origin m n e on f untold =
    left-told c link m n origin e on f
    ∙ ap (λ (b : Bool). send_if whole c b (unavailable c m) (with_parts n (unequipped_counted origin n.parts))) untold

pub by-none : else_untouched
by-none c link m n e off = left-absent c link m n e ∙ off-by c link m n (destination_place c (opc_of m)) off

pub by-eight : counts_modulo_eight
by-eight c link origin m n places e on f =
    let none : DestinationEntry = record { point = 0; sets = []; joined = false } in
    let found = position-Some (λ (d : DestinationEntry). nat_eq (opc_of m) d.point) c.destinations origin none f in
    let there : origin < length n.parts.unequipped = subst (λ (k : ℕ). origin < k) (sym places.unequipped) found.0 in
    let one : ℕ = (count_from origin n + 1) % 8 in (
      ap (λ (t : List ℕ). slice_index_or t origin 0) (counts c link m n origin e on f) ∙ get_or-set_same n.parts.unequipped origin one 0 there,
      λ (other : ℕ) (d : other ≢ origin). ap (λ (t : List ℕ). slice_index_or t other 0) (counts c link m n origin e on f)
          ∙ get_or-set_other n.parts.unequipped origin other one 0 d,
    )

pub reads : upu_reads_back
reads c m own =
    let word : Management = UserPartUnavailable c.own (service_indicator m) Unequipped in
    let fits : opc_of m < 2 ^ 14 = omega arith in
    let small : service_indicator m < 2 ^ 4 = omega arith in
    let ranged : IsManagement word = (own, small) in
    let sio : (unavailable c m).sio ≡ c.network * 64 = omega arith in
    (sio, its-label (opc_of m) c.own word fits own ranged, message-back (opc_of m) c.own word fits own ranged)

pub the-same : others_go_the_same
the-same c link m n e f =
    ap (λ (b : Bool). if b then manage whole c link m n else local whole c (Some link) m n) e
    ∙ same-else c link m n (nat_eq (service_indicator m) sccp) (is_user c (service_indicator m)) (absent c link m n) (absent (silent c) link m n) (user e f)
    ∙ ap (λ (b : Bool). if b then manage whole (silent c) link m n else local whole (silent c) (Some link) m n) (sym e)
  where
    user : is_management m ≡ false → lacks_part c m ≡ false → not (nat_eq (service_indicator m) sccp || is_user c (service_indicator m)) ≡ false
    user e f = ap (λ (b : Bool). not b && not (nat_eq (service_indicator m) sccp || is_user c (service_indicator m))) (sym e) ∙ f

pub nobody : submissions_tell_nobody
nobody c m n = refl

pub as-given : submissions_are_their_parts
as-given c m n e =
    but-sccp c 0 m n (nat_eq (service_indicator m) sccp) (if is_user c (service_indicator m) then answer Local n else refuse causes.NoUserPart n) e

pub refused : lacking_is_refused
refused c link m n e = refusing c link m n (is_management m) (nat_eq (service_indicator m) sccp) (is_user c (service_indicator m)) e

pub given : parts_get_their_messages
given c link m n e f g = giving c link m n (is_management m) (nat_eq (service_indicator m) sccp) (is_user c (service_indicator m)) e f g

pub zeros : none_is_counted_at_first
zeros c = refl

pub taking : takes_count_none
taking a link = by (goes_out whole a.settings link a.node)
  where
    by : (out : Outgoing) → (after_sending whole a.settings link a.node out).parts.unequipped ≡ a.node.parts.unequipped
    by (SendsStatus status) = refl
    by (SendsMessage next) = refl
    by Acknowledges = refl
    by SendsNothing = refl
