-- What answers a refused message leaves what waits in Held, and lets no adjacent point be owed more.
use Rattle.exchange_rules.proofs.Basics.{◌≡◌, ◌+◌, ℕ, zero, suc, Bool, true, false, ◌||◌, not, cond, List, [], ◌∷◌, ◌++◌, Option, Some, None, sum_by, refl, sym, ap, ◌∙◌, arith, if◌then◌else◌, set, nat_tests, sum_by-append, sum_by-cons}
use Rattle.exchange_rules.proofs.Definitions.{Message, dpc_of, opc_of, flow_of, is_management, service_indicator, Cause, Configuration, destination_place, Discrimination, returned, Queue, first_queue, unconfirmed, owes_nothing, Node, refuse, WholeQueues, queue_at, whole, facts, link_of, no_room_for, queue_on, waits, all_wait, hold, is_destination, offer, sccp, whither_goes, own_of, in_place_of, send_udts, return_unitdata, told_below, is_all_told, answered_by, answered, no_part_answered}
use Rattle.std.proofs.Common.{drop}
use Rattle.std.specs.Prelude.{nat_eq, nat_lt}
use Rattle.signalling_types.specs.declared.cause.Cause.TheVariants as causes
use Rattle.mtp3_codec.specs.declared.discrimination.Discrimination.TheVariants as whither
use Rattle.cell_pool.specs.Lanes.{managements_in}
use Rattle.link.specs.Queue as queue
use Rattle.exchange_rules.proofs.Lists.{map-set_alike, sum_by-map}
use Rattle.exchange_rules.proofs.Settling.{one_more, answer_no_route-waits, answer_no_user_part-waits}

abbrev AllWait : Configuration → Node WholeQueues → Type 0
AllWait c n = all_wait c n.parts.holds n.queues.held ≡ true

either_node : (P : Node WholeQueues → Type 0) (b : Bool) (n o : Node WholeQueues) → P n → P o → P (if b then n else o)
either_node P true n o f g = f
either_node P false n o f g = g

-- ---- each message of Held waits

module _ (c : Configuration) where
  offer-waits : (room : Option Cause) (b : Bool) (link : Option ℕ) (m : Message) (n : Node WholeQueues) → waits c n.parts.holds m ≡ b → AllWait c n
      → AllWait c (offer whole c room b link None m n).left
  offer-waits (Some cause) b link m n e w = w
  offer-waits None true link m n e w = one_more c n.parts.holds n.queues.held m w e
  offer-waits None false None m n e w = w
  offer-waits None false (Some link) m n e w = w

  transfer_by-waits : (b : Bool) (m : Message) (n : Node WholeQueues) → AllWait c n
      → AllWait c (if b then offer whole c (no_room_for whole c m n) (waits c n.parts.holds m) (link_of c n.parts (flow_of m)) None m n else refuse causes.UnknownDestination n).left
  transfer_by-waits true m n w = offer-waits (no_room_for whole c m n) (waits c n.parts.holds m) (link_of c n.parts (flow_of m)) m n refl w
  transfer_by-waits false m n w = w

  send_udts-waits : (udts : Option (List ℕ)) (m : Message) (n : Node WholeQueues) → AllWait c n → AllWait c (send_udts whole c udts m n)
  send_udts-waits (Some sif) m n w = transfer_by-waits (is_destination c (dpc_of (in_place_of m sif))) (in_place_of m sif) n w
  send_udts-waits None m n w = w

  no_part-waits : (cause : Cause) (from : Option ℕ) (m : Message) (n : Node WholeQueues) → AllWait c n → AllWait c (no_part_answered cause from m c n)
  no_part-waits causes.NoUserPart from m n w = answer_no_user_part-waits c from (destination_place c (opc_of m)) m n w
  no_part-waits cause from m n w = w

  answered_by-waits : (d : Discrimination) (cause : Cause) (from : Option ℕ) (m : Message) (n : Node WholeQueues) → AllWait c n → AllWait c (answered_by d cause from m c n)
  answered_by-waits (whither.Refused fault) cause from m n w = w
  answered_by-waits (whither.Here label) cause from m n w =
      either_node (AllWait c) (nat_eq (service_indicator m) sccp) (return_unitdata whole c cause m n) (no_part_answered cause from m c n)
      (send_udts-waits (returned (own_of c n.parts) n.parts.titles m.sif cause) m n w) (no_part-waits cause from m n w)
  answered_by-waits (whither.Transfer label) causes.NoRoute from m n w = answer_no_route-waits c from (destination_place c (dpc_of m)) n w
  answered_by-waits (whither.Transfer label) cause from m n w = w

  pub answered-waits : (cause : Cause) (from : Option ℕ) (m : Option Message) (n : Node WholeQueues) → AllWait c n → AllWait c (answered cause from m c n)
  answered-waits cause from (Some m) n w = answered_by-waits (whither_goes c m) cause from m n w
  answered-waits cause from None n w = w

-- ---- nothing is owed that finds room

-- a user message more leaves room for as much management
abbrev counted : Message → ℕ
counted m = cond (is_management m) 1 0

managements-more : (ms : List Message) (m : Message) → is_management m ≡ false → managements_in (ms ++ m ∷ []) ≡ managements_in ms
managements-more ms m e =
    let none : counted m ≡ 0 = ap (λ (b : Bool). cond {A = ℕ} b 1 0) e in
    omega (arith, sum_by-append counted ms (m ∷ []), sum_by-cons counted m [], none)

-- wherever a count of what came before is
managements-behind : (k : ℕ) (ms : List Message) (m : Message) → is_management m ≡ false → managements_in (drop k (ms ++ m ∷ [])) ≡ managements_in (drop k ms)
managements-behind zero ms m e = managements-more ms m e
managements-behind (suc zero) [] m e = refl
managements-behind (suc (suc k)) [] m e = refl
managements-behind (suc k) (first ∷ ms) m e = managements-behind k ms m e

managements-held : (qs : WholeQueues) (m : Message) → is_management m ≡ false → whole.managements (whole.holding qs m) ≡ whole.managements qs
managements-held qs m e = ap (λ (n : ℕ). n + sum_by (λ q. managements_in (unconfirmed q)) qs.links) (managements-more qs.held m e)

managements-queued : (qs : WholeQueues) (l : ℕ) (m : Message) → is_management m ≡ false → whole.managements (whole.appended qs l m) ≡ whole.managements qs
managements-queued qs l m e =
    let in_queue : Queue → ℕ = λ q. managements_in (unconfirmed q) in
    let q : Queue = queue_at qs l in
    ap (λ (n : ℕ). managements_in qs.held + n)
    (sym (sum_by-map (λ (n : ℕ). n) in_queue (set qs.links l (queue.appended q m)))
    ∙ ap (sum_by (λ (n : ℕ). n)) (sym (map-set_alike in_queue qs.links l (queue.appended q m) first_queue (managements-behind q.confirmed q.all m e)))
    ∙ sum_by-map (λ (n : ℕ). n) in_queue qs.links)

module _ (c : Configuration) where
  as_told : (n o : Node WholeQueues) → n.parts ≡ o.parts → whole.managements n.queues ≡ whole.managements o.queues → is_all_told whole c n ≡ is_all_told whole c o
  as_told n o p e =
      ap (λ (many : ℕ). not (nat_lt many told_below) || owes_nothing (facts c n.parts) n.parts.told) e
      ∙ ap (λ x. not (nat_lt (whole.managements o.queues) told_below) || owes_nothing (facts c x) x.told) p

  offer-told : (room : Option Cause) (b : Bool) (link : Option ℕ) (m : Message) (n : Node WholeQueues) → is_management m ≡ false
      → is_all_told whole c (offer whole c room b link None m n).left ≡ is_all_told whole c n
  offer-told (Some cause) b link m n e = refl
  offer-told None true link m n e = as_told (hold whole m n) n refl (managements-held n.queues m e)
  offer-told None false None m n e = refl
  offer-told None false (Some link) m n e = as_told (queue_on whole c link m n) n refl (managements-queued n.queues link m e)

  transfer_by-told : (b : Bool) (m : Message) (n : Node WholeQueues) → is_management m ≡ false
      → is_all_told whole c (if b then offer whole c (no_room_for whole c m n) (waits c n.parts.holds m) (link_of c n.parts (flow_of m)) None m n else refuse causes.UnknownDestination n).left
      ≡ is_all_told whole c n
  transfer_by-told true m n e = offer-told (no_room_for whole c m n) (waits c n.parts.holds m) (link_of c n.parts (flow_of m)) m n e
  transfer_by-told false m n e = refl

  send_udts-told : (udts : Option (List ℕ)) (m : Message) (n : Node WholeQueues) → is_management m ≡ false → is_all_told whole c (send_udts whole c udts m n) ≡ is_all_told whole c n
  send_udts-told (Some sif) m n e = transfer_by-told (is_destination c (dpc_of (in_place_of m sif))) (in_place_of m sif) n e
  send_udts-told None m n e = refl

  user : (indicator : ℕ) → nat_eq indicator sccp ≡ true → nat_lt indicator 2 ≡ false
  user indicator e = grind (arith, nat_tests, e)

  no_part-told : (cause : Cause) (m : Message) (n : Node WholeQueues) → no_part_answered cause None m c n ≡ n
  no_part-told causes.NoUserPart m n = refl
  no_part-told cause m n = refl

  returned-told : (b : Bool) (cause : Cause) (m : Message) (n : Node WholeQueues) → nat_eq (service_indicator m) sccp ≡ b
      → is_all_told whole c (if b then return_unitdata whole c cause m n else no_part_answered cause None m c n) ≡ is_all_told whole c n
  returned-told true cause m n e = send_udts-told (returned (own_of c n.parts) n.parts.titles m.sif cause) m n (user (service_indicator m) e)
  returned-told false cause m n e = ap (is_all_told whole c) (no_part-told cause m n)

  answered_by-told : (d : Discrimination) (cause : Cause) (m : Message) (n : Node WholeQueues) → is_all_told whole c (answered_by d cause None m c n) ≡ is_all_told whole c n
  answered_by-told (whither.Refused fault) cause m n = refl
  answered_by-told (whither.Here label) cause m n = returned-told (nat_eq (service_indicator m) sccp) cause m n refl
  answered_by-told (whither.Transfer label) causes.NoRoute m n = refl
  answered_by-told (whither.Transfer label) cause m n = refl

  pub answered-told : (cause : Cause) (m : Message) (n : Node WholeQueues) → is_all_told whole c n ≡ true → is_all_told whole c (answered cause None (Some m) c n) ≡ true
  answered-told cause m n e = answered_by-told (whither_goes c m) cause m n ∙ e
