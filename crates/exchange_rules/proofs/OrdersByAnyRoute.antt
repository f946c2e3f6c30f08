-- A link in service fails: where the order to change over from it goes, and what its changeover waits for.
use Rattle.exchange_rules.proofs.Basics.{◌≡◌, ◌<◌, ◌^◌, ℕ, Bool, true, false, List, length, Option, Some, None, refl, ap, sym, ◌∙◌, subst, arith, nat_tests, nat_le, nat_lt, is_some, if◌then◌else◌, get_or-set_same}
use Rattle.exchange_rules.proofs.Definitions.{Configuration, IsWell, Message, is_management, destination_place, Cause, ManagementFull, Management, IsManagement, ExtendedChangeoverOrder, FailureReason, flow_of, Link, down_link, is_in_service, after_failure, Facts, chosen_link, set_at, Standing, no_changeover, failed, Running, NodeCounts, left-set, without_tests, Parts, Node, with_parts, link_at, in_service, changeover_of, fail_link, facts, link_of, set_of, peer_of, entry_of, suspended, no_room, send, has_other, has_way, is_ordered, changing, make_unavailable, begin, change_over, fail, WholeQueues, queue_at, whole, HasAllPlaces}
use Rattle.std.specs.Option.{option_and_then}
use Rattle.routes.specs.Routes.{has_link}
use Rattle.signalling_types.specs.Numbers.{previous_number}
use Rattle.signalling_types.specs.declared.point.Flow.{Flow}
use Rattle.signalling_types.specs.declared.cause.Cause.TheVariants as causes
use Rattle.timers.specs.declared.name.TimerName.TheVariants.{T1, T2}
use Rattle.mtp3_codec.specs.declared.label.Label.{Label}
use Rattle.mtp3_codec.specs.Headings.{label_at}
use Rattle.exchange_rules.specs.LawsOfAnyRoute.{order_about, ReadsAsOrder, orders_are_told_as_such, AwaitsAnswer, SendsOrder, SendsNone, GoesByAnyRoute, GoesByItsSet, orders_go_by_any_route, orders_go_by_their_set}
use Rattle.exchange_rules.proofs.EndingChangeovers.{gone-alike, gone-counts, has-own, standing-there}
use Rattle.exchange_rules.proofs.LeavingMessages.{chosen_serves}
use Rattle.exchange_rules.proofs.MadeManagement.{adjacent-fits, code-fits, made-indicator, made-network, made-label, made-says}
use Rattle.exchange_rules.proofs.Moves.{serving-there}
use Rattle.exchange_rules.proofs.OwnManagement.{made-management}
use Rattle.exchange_rules.proofs.Telling.{send-routes}

-- ---- what a message that goes out leaves

module _ (c : Configuration) where
  pub send-changeovers : (room : Option Cause) (way : Option ℕ) (m : Message) (n : Node WholeQueues) → (send whole c room way m n).parts.changeovers ≡ n.parts.changeovers
  send-changeovers (Some cause) way m n = refl
  send-changeovers None None m n = refl
  send-changeovers None (Some link) m n = refl

  pub send-timers : (room : Option Cause) (way : Option ℕ) (m : Message) (n : Node WholeQueues) → (send whole c room way m n).parts.timers ≡ n.parts.timers
  send-timers (Some cause) way m n = refl
  send-timers None None m n = refl
  send-timers None (Some link) m n = refl

  -- the room that management finds
  pub management-room : (m : Message) (n : Node WholeQueues) (b : Bool) → is_management m ≡ true → nat_le 256 (whole.managements n.queues) ≡ b
      → no_room whole c m n.queues ≡ (if b then Some ManagementFull else None)
  management-room m n b managed e =
      ap (λ (x : Bool). if x then (if nat_le 256 (whole.managements n.queues) then Some ManagementFull else None) else (if nat_le c.pool (whole.users n.queues) then Some causes.PoolFull else None)) managed
      ∙ ap (λ (x : Bool). if x then Some ManagementFull else None) e

  -- ---- what the order says

  number-fits : (n : ℕ) → previous_number n < 2 ^ 24
  number-fits n = omega arith

  module _ (well : IsWell c) (link : ℕ) (n : Node WholeQueues) where
    abbrev its_order : Management
    its_order = ExtendedChangeoverOrder (entry_of c link).slc (whole.last_accepted n.queues link)

    order-fits : IsManagement its_order
    order-fits = (code-fits c well link, number-fits (queue_at n.queues link).received)

    order-label : label_at (order_about c link n).sif ≡ record { dpc = peer_of c link; opc = c.own; sls = (entry_of c link).slc }
    order-label = made-label c well (peer_of c link) its_order (adjacent-fits c well (set_of c link)) order-fits

    pub order-reads : ReadsAsOrder c link n (order_about c link n)
    order-reads = record {
      indicator = made-indicator c well (peer_of c link) its_order;
      network = made-network c well (peer_of c link) its_order;
      label = order-label;
      says = made-says c well (peer_of c link) its_order (adjacent-fits c well (set_of c link)) order-fits;
    }

    order-flow : flow_of (order_about c link n) ≡ record { point = peer_of c link; sls = (entry_of c link).slc }
    order-flow = ap (λ (l : Label). record { point = l.dpc; sls = l.sls }) order-label

    pub way-is : (p : Parts) → has_way c link p ≡ is_some (link_of c p (flow_of (order_about c link n)))
    way-is p = ap (λ (flow : Flow). is_some (link_of c p flow)) (sym order-flow)

-- ---- a link in service fails

module _ (c : Configuration) (link : ℕ) (why : FailureReason) (n : Node WholeQueues) (places : HasAllPlaces c n) (serves : in_service n.parts link ≡ true) where
  abbrev gone : Node WholeQueues
  gone = make_unavailable whole c true link why n

  abbrev begun : Bool → Node WholeQueues
  begun ordered = begin whole c ordered link gone

  abbrev order : Message
  order = order_about c link n

  abbrev left : Node WholeQueues
  left = with_parts gone (changing c true link gone.parts)

  fails : fail whole c link why n ≡ begun (is_ordered c link gone.parts)
  fails = ap (λ (served : Bool). change_over whole c served link (make_unavailable whole c served link why n)) serves

  begun-facts : (ordered : Bool) → facts c (begun ordered).parts ≡ facts c gone.parts
  begun-facts true = (send-routes whole c (no_room whole c order left.queues) (link_of c left.parts (flow_of order)) order left).facts c
  begun-facts false = refl

  facts-are : facts c (fail whole c link why n).parts ≡ facts c gone.parts
  facts-are = ap (λ (k : Node WholeQueues). facts c k.parts) fails ∙ begun-facts (is_ordered c link gone.parts)

  -- its changeover, and its timers

  standing : (ordered : Bool) → changeover_of (changing c ordered link gone.parts) link ≡ failed ordered (changeover_of gone.parts link)
  standing ordered =
      get_or-set_same gone.parts.changeovers link (failed ordered (changeover_of gone.parts link)) no_changeover
      (subst (λ (all : List Standing). link < length all) (sym (gone-alike c link why n).changeovers) (standing-there c n link places serves))

  has-link : nat_lt link gone.parts.timers.counts.links ≡ true
  has-link = ap (λ (x : NodeCounts). nat_lt link x.links) (gone-counts c link why n) ∙ has-own c n link places serves

  awaits : AwaitsAnswer c link (begun true)
  awaits =
      let room : Option Cause = no_room whole c order left.queues in
      let way : Option ℕ = link_of c left.parts (flow_of order) in
      let its : changeover_of (begun true).parts link ≡ failed true (changeover_of gone.parts link) =
      ap (λ (all : List Standing). changeover_of (record left.parts { changeovers = all }) link) (send-changeovers c room way order left) ∙ standing true in
      record {
        incomplete = ap (λ (s : Standing). s.incomplete) its;
        awaited = ap (λ (s : Standing). s.awaited) its;
        t2 = ap (λ (r : Running). r.left (T2 link)) (send-timers c room way order left) ∙ left-set (T2 link) c.timers.t2 gone.parts.timers has-link;
      }

  alone : SendsNone c link n (begun false)
  alone = record {
    incomplete = ap (λ (s : Standing). s.incomplete) (standing false);
    awaited = ap (λ (s : Standing). s.awaited) (standing false);
    t1 = left-set (T1 link) c.timers.t1 gone.parts.timers has-link;
    queues = refl;
  }

  -- the link is out of service

  gone-out : in_service gone.parts link ≡ false
  gone-out = by (has_other c link failed_parts)
    where
      failed_parts : Parts
      failed_parts = fail_link link why (suspended c link (whole.unconfirmed n.queues link) n.parts)

      by : (others : Bool) → in_service (if others then failed_parts else without_tests (set_of c link) failed_parts) link ≡ false
      by true = ap (λ (l : Link). is_in_service l.alignment) (get_or-set_same n.parts.links link (after_failure (link_at n.parts link)) down_link (serving-there n.parts link serves))
      by false = ap (λ (l : Link). is_in_service l.alignment) (get_or-set_same n.parts.links link (after_failure (link_at n.parts link)) down_link (serving-there n.parts link serves))

  sends : (way : ℕ) → link_of c gone.parts (flow_of order) ≡ Some way → SendsOrder c link way n (begun true)
  sends way w = record {
    other = λ e.
        let no : true ≡ false = sym (chosen_serves c gone.parts (flow_of order) way w) ∙ ap (λ (l : ℕ). in_service gone.parts l) e ∙ gone-out in
        cc;
    sent = λ few.
        ap (λ (room : Option Cause). (send whole c room (link_of c left.parts (flow_of order)) order left).queues) (roomy false (grind (arith, nat_tests, few)))
        ∙ ap (λ (o : Option ℕ). (send whole c None o order left).queues) w;
    full = λ many. ap (λ (room : Option Cause). (send whole c room (link_of c left.parts (flow_of order)) order left).queues) (roomy true (grind (arith, nat_tests, many)));
  }
    where
      roomy : (b : Bool) → nat_le 256 (whole.managements n.queues) ≡ b → no_room whole c order n.queues ≡ (if b then Some ManagementFull else None)
      roomy b e = management-room c order n b (made-management c (peer_of c link) (ExtendedChangeoverOrder (entry_of c link).slc (whole.last_accepted n.queues link))) e

  -- ---- by any route, and by its set

  after-is : (ordered : Bool) → is_ordered c link gone.parts ≡ ordered → fail whole c link why n ≡ begun ordered
  after-is ordered e = fails ∙ ap begun e

  leads-as : link_of c (fail whole c link why n).parts (flow_of order) ≡ link_of c gone.parts (flow_of order)
  leads-as = ap (λ (f : Facts). leads f) facts-are
    where
      leads : Facts → Option ℕ
      leads f = option_and_then (λ place. chosen_link f place (flow_of order).sls) (destination_place c (flow_of order).point)

  pub by-any : IsWell c → c.changeover_by_any_route ≡ true → GoesByAnyRoute c link n (fail whole c link why n)
  by-any well any = record {
    awaits = λ way e. subst (λ (k : Node WholeQueues). AwaitsAnswer c link k) (sym (after-is true (ordered (Some way) (led e)))) awaits;
    sends = λ way e. subst (λ (k : Node WholeQueues). SendsOrder c link way n k) (sym (after-is true (ordered (Some way) (led e)))) (sends way (led e));
    alone = λ e. subst (λ (k : Node WholeQueues). SendsNone c link n k) (sym (after-is false (ordered None (led e)))) alone;
  }
    where
      led : {way : Option ℕ} → link_of c (fail whole c link why n).parts (flow_of order) ≡ way → link_of c gone.parts (flow_of order) ≡ way
      led e = sym leads-as ∙ e

      ordered : (way : Option ℕ) → link_of c gone.parts (flow_of order) ≡ way → is_ordered c link gone.parts ≡ is_some way
      ordered way e =
          ap (λ (b : Bool). if b then has_way c link gone.parts else has_other c link gone.parts) any ∙ way-is c well link n gone.parts ∙ ap is_some e

  pub by-set : c.changeover_by_any_route ≡ false → GoesByItsSet c link n (fail whole c link why n)
  by-set any = record {
    awaits = λ e. subst (λ (k : Node WholeQueues). AwaitsAnswer c link k) (sym (after-is true (ordered e))) awaits;
    sends = λ way e w. subst (λ (k : Node WholeQueues). SendsOrder c link way n k) (sym (after-is true (ordered e))) (sends way (sym leads-as ∙ w));
    alone = λ e. subst (λ (k : Node WholeQueues). SendsNone c link n k) (sym (after-is false (ordered e))) alone;
  }
    where
      ordered : {b : Bool} → has_other c link (fail whole c link why n).parts ≡ b → is_ordered c link gone.parts ≡ b
      ordered e =
          ap (λ (b : Bool). if b then has_way c link gone.parts else has_other c link gone.parts) any
          ∙ ap (λ (f : Facts). has_link f.in_service (set_at f (set_of c link))) (sym facts-are) ∙ e

-- ---- the laws

pub told-as-orders : orders_are_told_as_such
told-as-orders c link n well = order-reads c well link n

pub go-by-any : orders_go_by_any_route
go-by-any c link why n well places serves any = by-any c link why n places serves well any

pub go-by-sets : orders_go_by_their_set
go-by-sets c link why n places serves any = by-set c link why n places serves any
