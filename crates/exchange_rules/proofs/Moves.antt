-- Rules that take user messages in, let them go for good, or move them: how many there are after each.
use Rattle.exchange_rules.proofs.Basics.{Bool, List, None, Option, Some, [], ap, arith, cond, false, length, nat_eq, nat_lt, refl, sum_by, sym, true, ℕ, ◌++◌, ◌+◌, ◌-◌, ◌<◌, ◌∙◌, ◌∷◌, ◌≡◌, ◌≤◌, ⊎_elim, cases_lt, nat_tests, get_or_past, sum_by-append, count_by, if◌then◌else◌, slice_set, take}
use Rattle.exchange_rules.proofs.Definitions.{accepted_count, behind, in_doubt, lost, moved, users_of, unconfirmed-appended, IsQueue, Queue, appended, emptied, first_queue, unconfirmed, Link, down_link, is_in_service, Discrimination, RelayedValue, relay, returned, Configuration, Message, dpc_of, flow_of, is_management, service_indicator, Cause, Outcome, Handled, Held, Ignored, Local, Queued, Refused, destination_place, is_destination, offer, transfer, answered_in, brought_here, brought_to, gone_by_completion, gone_that, relayed_in, returned_in, standing, taken_in, unitdata_in, users_that, waits, in_service, is_user, local, sccp, submit, submit_to, whither_goes, no_room_for, queue_on, WholeQueues, queue_at, whole, in_place_of, on_unitdata, own_of, relay_by, return_outcome, return_unitdata, send_udts, link_of, Done, Node, Parts, answer, refuse, answer_no_user_part, opc_of}
use Rattle.changeover.proofs.Completing.{once}
use Rattle.changeover.specs.Laws.{count_in_the_end}
use Rattle.exchange_rules.proofs.Changes.{answer_no_route-stand, answer_no_user_part-stand, stands}
use Rattle.exchange_rules.proofs.Fitting.{Fits}
use Rattle.exchange_rules.proofs.LeavingMessages.{chosen_serves, relay_by-leaves}
use Rattle.exchange_rules.proofs.Tallies.{again, append, held-more-by, none-first, none-more, queue-more, sum-less}
use Rattle.signalling_types.specs.declared.cause.Cause.TheVariants as causes
use Rattle.sccp_relay.specs.Relay as relays
use Rattle.mtp3_codec.specs.declared.discrimination.Discrimination.TheVariants as whither

-- ---- a link that carries a flow has a queue

pub serving-there : (p : Parts) (link : ℕ) → in_service p link ≡ true → link < length p.links
serving-there p link e =
    ⊎_elim (λ (l : link < length p.links). l)
    (λ (l : length p.links ≤ link).
    let gone : in_service p link ≡ false = ap (λ (x : Link). is_in_service x.alignment) (get_or_past p.links link down_link l) in
    let no : true ≡ false = sym e ∙ gone in
    absurd cc)
    (cases_lt link (length p.links))

has-queue : (c : Configuration) (n : Node WholeQueues) (m : Message) (link : ℕ) → Fits c n → link_of c n.parts (flow_of m) ≡ Some link → link < length n.queues.links
has-queue c n m link f e = omega (arith, serving-there n.parts link (chosen_serves c n.parts (flow_of m) link e), f.places.parts.links, f.places.queues)

module _ (of : Message → Bool) (c : Configuration) where
  -- ---- a message goes to the end of its link's queue

  pub queued-more : (link : ℕ) (m : Message) (n : Node WholeQueues) → Fits c n → link_of c n.parts (flow_of m) ≡ Some link
      → stands of (queue_on whole c link m n) ≡ stands of n + users_that of (m ∷ [])
  queued-more link m n f e =
      let q : Queue = queue_at n.queues link in
      queue-more of n.queues link (appended q m) (users_that of (m ∷ [])) (has-queue c n m link f e)
      (ap (users_that of) (unconfirmed-appended q m (f.queues.each link)) ∙ append of (unconfirmed q) (m ∷ []))

  -- ---- a message for another point is taken in where its outcome says so

  offer-brings : (room : Option Cause) (waiting : Bool) (link from : Option ℕ) (m : Message) (n : Node WholeQueues) → Fits c n → link_of c n.parts (flow_of m) ≡ link
      → stands of (offer whole c room waiting link from m n).left ≡ stands of n + users_that of (taken_in (offer whole c room waiting link from m n).outcome m)
  offer-brings (Some cause) waiting link from m n f e = none-more (stands of n)
  offer-brings None true link from m n f e = held-more-by of n.queues m
  offer-brings None false None from m n f e = answer_no_route-stand of c from (destination_place c (dpc_of m)) n ∙ none-more (stands of n)
  offer-brings None false (Some link) from m n f e = queued-more link m n f e

  -- a test decides
  either-brings : (b : Bool) (d e : Done WholeQueues) (g : Outcome → List Message) (k : ℕ) → stands of d.left ≡ k + users_that of (g d.outcome)
      → stands of e.left ≡ k + users_that of (g e.outcome) → stands of (if b then d else e).left ≡ k + users_that of (g (if b then d else e).outcome)
  either-brings true d e g k f h = f
  either-brings false d e g k f h = h

  pub transfer-brings : (from : Option ℕ) (m : Message) (n : Node WholeQueues) → Fits c n
      → stands of (transfer whole c from m n).left ≡ stands of n + users_that of (taken_in (transfer whole c from m n).outcome m)
  transfer-brings from m n f =
      let link : Option ℕ = link_of c n.parts (flow_of m) in
      let offered : Done WholeQueues = offer whole c (no_room_for whole c m n) (waits c n.parts.holds m) link from m n in
      either-brings (is_destination c (dpc_of m)) offered (refuse causes.UnknownDestination n) (λ o. taken_in o m) (stands of n)
      (offer-brings (no_room_for whole c m n) (waits c n.parts.holds m) link from m n f refl) (none-more (stands of n))

  -- ---- SCCP messages for this point

  relay-brings : (v : RelayedValue) (m : Message) (n : Node WholeQueues) → Fits c n
      → stands of (relay_by whole c v m n).left ≡ stands of n + users_that of (relayed_in v (relay_by whole c v m n).outcome m)
  relay-brings relays.Delivered m n f = none-more (stands of n)
  relay-brings (relays.Onward sif) m n f = transfer-brings None (in_place_of m sif) n f
  relay-brings (relays.Heard news) m n f = none-more (stands of n)
  relay-brings (relays.Refused cause) m n f = none-more (stands of n)

  udts-brings : (udts : Option (List ℕ)) (m : Message) (n : Node WholeQueues) → Fits c n → stands of (send_udts whole c udts m n) ≡ stands of n + users_that of (returned_in udts c m n)
  udts-brings (Some sif) m n f = transfer-brings None (in_place_of m sif) n f
  udts-brings None m n f = none-more (stands of n)

  -- what a refusal left is the node as it was
  return-brings : (o : Outcome) (m : Message) (n left : Node WholeQueues) → Fits c n → ((cause : Cause) → o ≡ Refused cause → left ≡ n)
      → stands of (return_outcome whole c o m left) ≡ stands of left + users_that of (answered_in o c m n)
  return-brings (Refused cause) m n left f same =
      let more : ℕ = users_that of (returned_in (returned (own_of c n.parts) n.parts.titles m.sif cause) c m n) in
      ap (λ (x : Node WholeQueues). stands of (return_unitdata whole c cause m x)) (same cause refl)
      ∙ udts-brings (returned (own_of c n.parts) n.parts.titles m.sif cause) m n f
      ∙ ap (λ (x : Node WholeQueues). stands of x + more) (sym (same cause refl))
  return-brings (Queued link) m n left f same = none-more (stands of left)
  return-brings Held m n left f same = none-more (stands of left)
  return-brings Local m n left f same = none-more (stands of left)
  return-brings Handled m n left f same = none-more (stands of left)
  return-brings Ignored m n left f same = none-more (stands of left)

  two-more : (k a b s t u : ℕ) → t ≡ k + a → s ≡ t + b → u ≡ a + b → s ≡ k + u
  two-more k a b s t u e f g = omega (arith, e, f, g)

  unitdata-brings : (m : Message) (n : Node WholeQueues) → Fits c n
      → stands of (on_unitdata whole c m n).left ≡ stands of n + users_that of (unitdata_in (on_unitdata whole c m n).outcome c m n)
  unitdata-brings m n f =
      let v : RelayedValue = relay (own_of c n.parts) n.parts.titles m.sif in
      let d : Done WholeQueues = relay_by whole c v m n in
      two-more (stands of n) (users_that of (relayed_in v d.outcome m)) (users_that of (answered_in d.outcome c m n)) (stands of (return_outcome whole c d.outcome m d.left)) (stands of d.left)
      (users_that of (relayed_in v d.outcome m ++ answered_in d.outcome c m n))
      (relay-brings v m n f) (return-brings d.outcome m n d.left f (relay_by-leaves c n v m).left) (append of (relayed_in v d.outcome m) (answered_in d.outcome c m n))

  abbrev absent : (from : Option ℕ) (m : Message) (n : Node WholeQueues) → Done WholeQueues
  absent from m n = refuse causes.NoUserPart (answer_no_user_part whole c from (destination_place c (opc_of m)) m n)

  local-by : (is_sccp user : Bool) (from : Option ℕ) (m : Message) (n : Node WholeQueues) → Fits c n
      → stands of (if is_sccp then on_unitdata whole c m n else (if user then answer Local n else absent from m n)).left
      ≡ stands of n + users_that of (if is_sccp then unitdata_in (if is_sccp then on_unitdata whole c m n else (if user then answer Local n else absent from m n)).outcome c m n else [])
  local-by true user from m n f = unitdata-brings m n f
  local-by false true from m n f = none-more (stands of n)
  local-by false false from m n f = answer_no_user_part-stand of c from (destination_place c (opc_of m)) m n ∙ none-more (stands of n)

  pub local-brings : (from : Option ℕ) (m : Message) (n : Node WholeQueues) → Fits c n
      → stands of (local whole c from m n).left ≡ stands of n + users_that of (brought_here (local whole c from m n).outcome c m n)
  local-brings from m n f = local-by (nat_eq (service_indicator m) sccp) (is_user c (service_indicator m)) from m n f

  -- ---- a submission

  -- management isn't SCCP
  no-sccp : (indicator : ℕ) → nat_lt indicator 2 ≡ true → nat_eq indicator sccp ≡ false
  no-sccp indicator e = grind (arith, nat_tests, e)

  pub nothing-here : (o : Outcome) (m : Message) (n : Node WholeQueues) → is_management m ≡ true → users_that of (brought_here o c m n) ≡ 0
  nothing-here o m n e = ap (λ (b : Bool). users_that of (if b then unitdata_in o c m n else [])) (no-sccp (service_indicator m) e)

  here-by : (b : Bool) (m : Message) (n : Node WholeQueues) → Fits c n → is_management m ≡ b
      → stands of (if b then refuse causes.NotInProfile n else local whole c None m n).left
      ≡ stands of n + users_that of (brought_here (if b then refuse causes.NotInProfile n else local whole c None m n).outcome c m n)
  here-by true m n f e = none-more (stands of n) ∙ ap (λ (k : ℕ). stands of n + k) (sym (nothing-here (Refused causes.NotInProfile) m n e))
  here-by false m n f e = local-brings None m n f

  submit_to-brings : (d : Discrimination) (m : Message) (n : Node WholeQueues) → Fits c n
      → stands of (submit_to whole c d m n).left ≡ stands of n + users_that of (brought_to d (submit_to whole c d m n).outcome c m n)
  submit_to-brings (whither.Refused cause) m n f = none-more (stands of n)
  submit_to-brings (whither.Here label) m n f = here-by (is_management m) m n f refl
  submit_to-brings (whither.Transfer label) m n f =
      either-brings (is_management m) (refuse causes.NotInProfile n) (transfer whole c None m n) (λ o. taken_in o m) (stands of n)
      (none-more (stands of n)) (transfer-brings None m n f)

  pub submit-brings : (m : Message) (n : Node WholeQueues) → Fits c n
      → stands of (submit whole c m n).left ≡ stands of n + users_that of (brought_to (whither_goes c m) (submit whole c m n).outcome c m n)
  submit-brings m n f = submit_to-brings (whither_goes c m) m n f

  -- ---- a changeover is completed

  count-parts : (h s k t a b d all : ℕ) → t + k ≡ s → k ≡ all → b + (d + a) ≡ all → h + s ≡ (a + h) + t + (b + d)
  count-parts h s k t a b d all e f g = omega (arith, e, f, g)

  pub completed-lets : (link : ℕ) (number : Option ℕ) (n : Node WholeQueues) → IsQueue c.window (queue_at n.queues link)
      → stands of n ≡ standing of (whole.completed n.queues link number) + gone_that of (gone_by_completion true link number n.queues)
  completed-lets link number n h =
      let q : Queue = queue_at n.queues link in
      let taken : List Message = take (count_in_the_end q (accepted_count q number) - q.confirmed) (unconfirmed q) in
      let in_queue : Queue → ℕ = λ x. users_that of (unconfirmed x) in
      let moves : users_that of (moved q number ++ n.queues.held) ≡ count_by of (moved q number) + users_that of n.queues.held =
      append of (moved q number) n.queues.held ∙ ap (λ (ms : List Message). count_by of ms + users_that of n.queues.held) (again (behind q (accepted_count q number))) in
      let loses : users_that of (lost q number) ≡ count_by of (lost q number) = ap (count_by of) (again (in_doubt q (accepted_count q number))) in
      let parts : count_by of (users_of taken) + (count_by of (lost q number) + count_by of (moved q number)) ≡ users_that of (unconfirmed q) =
      ap (λ (k : ℕ). count_by of (users_of taken) + k) (sym (sum_by-append (λ m. cond (of m) 1 0) (lost q number) (moved q number)))
      ∙ sym (sum_by-append (λ m. cond (of m) 1 0) (users_of taken) (lost q number ++ moved q number)) ∙ ap (count_by of) (once c.window q number h) in
      let queues : sum_by in_queue (slice_set n.queues.links link (emptied q)) + users_that of (unconfirmed q) ≡ sum_by in_queue n.queues.links =
      sum-less in_queue n.queues.links link (emptied q) first_queue (users_that of (unconfirmed q)) refl (none-first (users_that of (unconfirmed q))) in
      count-parts (users_that of n.queues.held) (sum_by in_queue n.queues.links) (users_that of (unconfirmed q)) (sum_by in_queue (slice_set n.queues.links link (emptied q)))
      (count_by of (moved q number)) (count_by of (users_of taken)) (count_by of (lost q number)) (users_that of (unconfirmed q)) queues refl parts
      ∙ ap (λ (k : ℕ). k + sum_by in_queue (slice_set n.queues.links link (emptied q)) + (users_that of taken + count_by of (lost q number))) (sym moves)
      ∙ ap (λ (k : ℕ). users_that of (moved q number ++ n.queues.held) + sum_by in_queue (slice_set n.queues.links link (emptied q)) + (users_that of taken + k)) (sym loses)
