-- An order that had no way as its link failed goes out late, once there is one.
use Rattle.exchange_rules.proofs.Basics.{◌≡◌, ◌≢◌, ◌<◌, ◌≤◌, ℕ, zero, suc, Bool, true, false, ◌&&◌, not, List, length, Option, Some, None, refl, ap, sym, subst, ◌∙◌, arith, nat_tests, nat_le, nat_lt, is_some, and_parts, cases_lt, get_or_past, get_or-set_same, if◌then◌else◌, ⊎_elim}
use Rattle.exchange_rules.proofs.Definitions.{Configuration, Message, flow_of, destination_place, Cause, ManagementFull, ExtendedChangeoverOrder, Facts, chosen_link, Standing, no_changeover, is_unasked, with_order, Running, NodeCounts, has_name, clear_timer, counts-clear, left-set, left-set_other, left-clear, Node, Parts, with_parts, link_of, no_room, facts, entry_of, peer_of, send, has_way, is_late, asking, order_late, order_if_late, order_each, order_all, changeover_of, HasAllPlaces, WholeQueues, whole}
use Rattle.std.specs.Option.{option_and_then}
use Rattle.std.proofs.lemmas.Bool.{lt-ltb}
use Rattle.timers.specs.declared.name.TimerName.TheVariants.{T1, T2}
use Rattle.exchange_rules.specs.LawsOfAnyRoute.{order_about}
use Rattle.exchange_rules.specs.LawsOfLateOrders.{GoesLate, late_orders_go, other_orders_stay}
use Rattle.exchange_rules.proofs.OrdersByAnyRoute.{management-room, send-changeovers, send-timers, way-is}
use Rattle.exchange_rules.proofs.OwnManagement.{made-management}
use Rattle.exchange_rules.proofs.Telling.{send-routes}
use Rattle.exchange_rules.proofs.WillEnding.{no-way, other-standing}

-- a changeover that isn't complete is there
pub standing-there : (p : Parts) (link : ℕ) → (changeover_of p link).incomplete ≡ true → link < length p.changeovers
standing-there p link e =
    ⊎_elim (λ (there : link < length p.changeovers). there)
    (λ (past : length p.changeovers ≤ link). no-way (changeover_of p link).incomplete (ap (λ (s : Standing). s.incomplete) (get_or_past p.changeovers link no_changeover past)) e)
    (cases_lt link (length p.changeovers))

module _ (c : Configuration) (link : ℕ) (n : Node WholeQueues) (unasked : is_unasked (changeover_of n.parts link) ≡ true) where
  abbrev order : Message
  order = order_about c link n

  abbrev asks : Node WholeQueues
  asks = with_parts n (asking c link n.parts)

  abbrev room : Option Cause
  room = no_room whole c order n.queues

  abbrev way_of : Option ℕ
  way_of = link_of c n.parts (flow_of order)

  incomplete : (changeover_of n.parts link).incomplete ≡ true
  incomplete = (and_parts (changeover_of n.parts link).incomplete (not (changeover_of n.parts link).awaited) unasked).0

  there : link < length n.parts.changeovers
  there = standing-there n.parts link incomplete

  its : changeover_of (order_late whole c link n).parts link ≡ with_order (changeover_of n.parts link)
  its =
      ap (λ (all : List Standing). changeover_of (record n.parts { changeovers = all }) link) (send-changeovers c room way_of order asks)
      ∙ get_or-set_same n.parts.changeovers link (with_order (changeover_of n.parts link)) no_changeover there

  timers : (order_late whole c link n).parts.timers ≡ asks.parts.timers
  timers = send-timers c room way_of order asks

  named : HasAllPlaces c n → has_name (clear_timer (T1 link) n.parts.timers).counts (T2 link) ≡ true
  named places =
      ap (λ (x : NodeCounts). nat_lt link x.links) (counts-clear (T1 link) n.parts.timers)
      ∙ lt-ltb link n.parts.timers.counts.links (omega (arith, there, places.parts.changeovers, places.timers.links))

  roomy : (b : Bool) → nat_le 256 (whole.managements n.queues) ≡ b → no_room whole c order n.queues ≡ (if b then Some ManagementFull else None)
  roomy b e = management-room c order n b (made-management c (peer_of c link) (ExtendedChangeoverOrder (entry_of c link).slc (whole.last_accepted n.queues link))) e

  pub goes : (way : ℕ) → HasAllPlaces c n → way_of ≡ Some way → GoesLate c link way n (order_late whole c link n)
  goes way places w = record {
    awaits = record {
      incomplete = ap (λ (s : Standing). s.incomplete) its ∙ incomplete;
      awaited = ap (λ (s : Standing). s.awaited) its;
      t2 = ap (λ (r : Running). r.left (T2 link)) timers ∙ left-set (T2 link) c.timers.t2 (clear_timer (T1 link) n.parts.timers) (named places);
    };
    stopped = ap (λ (r : Running). r.left (T1 link)) timers
        ∙ left-set_other (T2 link) (T1 link) c.timers.t2 (clear_timer (T1 link) n.parts.timers) (λ e. cc) ∙ left-clear (T1 link) n.parts.timers;
    sent = λ few.
        ap (λ (r : Option Cause). (send whole c r way_of order asks).queues) (roomy false (grind (arith, nat_tests, few)))
        ∙ ap (λ (o : Option ℕ). (send whole c None o order asks).queues) w;
    full = λ many. ap (λ (r : Option Cause). (send whole c r way_of order asks).queues) (roomy true (grind (arith, nat_tests, many)));
  }

  -- it isn't late any more
  gone : is_late c link (order_late whole c link n).parts ≡ false
  gone = off (changeover_of (order_late whole c link n).parts link).incomplete (changeover_of (order_late whole c link n).parts link).awaited (has_way c link (order_late whole c link n).parts) (ap (λ (s : Standing). s.awaited) its)
    where
      off : (a b d : Bool) → b ≡ true → ((a && not b) && d) ≡ false
      off true true d e = refl
      off false true d e = refl
      off a false d e = absurd cc

-- whether another is late stays
order-facts : (c : Configuration) (link : ℕ) (n : Node WholeQueues) → facts c (order_late whole c link n).parts ≡ facts c n.parts
order-facts c link n =
    (send-routes whole c (no_room whole c (order_about c link n) n.queues) (link_of c n.parts (flow_of (order_about c link n))) (order_about c link n) (with_parts n (asking c link n.parts))).facts c

-- by what is known of routes
leads : (c : Configuration) (link : ℕ) → Facts → Bool
leads c link f = is_some (option_and_then (λ place. chosen_link f place (entry_of c link).slc) (destination_place c (peer_of c link)))

pub same-way : (c : Configuration) (link : ℕ) (p o : Parts) → facts c p ≡ facts c o → has_way c link p ≡ has_way c link o
unfolding leads
same-way c link p o e = ap (leads c link) e

other-late : (c : Configuration) (link other : ℕ) (n : Node WholeQueues) → other ≢ link → is_late c other (order_late whole c link n).parts ≡ is_late c other n.parts
other-late c link other n apart =
    ap (λ (b : Bool). is_unasked (changeover_of later.parts other) && b) (same-way c other later.parts n.parts (order-facts c link n))
    ∙ ap (λ (s : Standing). is_unasked s && has_way c other n.parts)
    (ap (λ (all : List Standing). changeover_of (record n.parts { changeovers = all }) other)
    (send-changeovers c (no_room whole c (order_about c link n) n.queues) (link_of c n.parts (flow_of (order_about c link n))) (order_about c link n) (with_parts n (asking c link n.parts)))
    ∙ other-standing n.parts.changeovers link other (with_order (changeover_of n.parts link)) n.parts apart)
  where
    later : Node WholeQueues
    later = order_late whole c link n

if-late : (c : Configuration) (link : ℕ) (n : Node WholeQueues) → is_late c link (order_if_late whole c link n).parts ≡ false
if-late c link n = by (is_late c link n.parts) refl
  where
    by : (late : Bool) → is_late c link n.parts ≡ late → is_late c link (if late then order_late whole c link n else n).parts ≡ false
    by true e = gone c link n (and_parts (is_unasked (changeover_of n.parts link)) (has_way c link n.parts) e).0
    by false e = e

if-other : (c : Configuration) (link other : ℕ) (n : Node WholeQueues) → other ≢ link → is_late c other (order_if_late whole c link n).parts ≡ is_late c other n.parts
if-other c link other n apart = by (is_late c link n.parts)
  where
    by : (late : Bool) → is_late c other (if late then order_late whole c link n else n).parts ≡ is_late c other n.parts
    by true = other-late c link other n apart
    by false = refl

-- after one more
one-late : (c : Configuration) (link last : ℕ) (n : Node WholeQueues) → link < suc last → (link < last → is_late c link (order_each whole c last n).parts ≡ false)
    → is_late c link (order_if_late whole c last (order_each whole c last n)).parts ≡ false
one-late c link last n below before =
    ⊎_elim
    (λ (less : link < last). if-other c last link one (λ is. omega (arith, less, is)) ∙ before less)
    (λ (more : last ≤ link).
    (let is : last ≡ link = omega (arith, below, more) in
    subst (λ (k : ℕ). is_late c k (order_if_late whole c last one).parts ≡ false) is (if-late c last one)))
    (cases_lt link last)
  where
    one : Node WholeQueues
    one = order_each whole c last n

each-late : (c : Configuration) (many link : ℕ) (n : Node WholeQueues) → link < many → is_late c link (order_each whole c many n).parts ≡ false
unfolding order_each
each-late c zero link n below = absurd (omega (arith, below))
each-late c (suc last) link n below = one-late c link last n below (λ less. each-late c last link n less)

-- nor does any other change where links lead
late-facts : (c : Configuration) (link : ℕ) (n : Node WholeQueues) → facts c (order_if_late whole c link n).parts ≡ facts c n.parts
late-facts c link n = by (is_late c link n.parts)
  where
    by : (late : Bool) → facts c (if late then order_late whole c link n else n).parts ≡ facts c n.parts
    by true = order-facts c link n
    by false = refl

pub each-facts : (c : Configuration) (many : ℕ) (n : Node WholeQueues) → facts c (order_each whole c many n).parts ≡ facts c n.parts
unfolding order_each
each-facts c zero n = refl
each-facts c (suc link) n = late-facts c link (order_each whole c link n) ∙ each-facts c link n

pub order_all-facts : (c : Configuration) (n : Node WholeQueues) → facts c (order_all whole c n).parts ≡ facts c n.parts
order_all-facts c n = by c.changeover_by_any_route
  where
    by : (any : Bool) → facts c (if any then order_each whole c (length c.links) n else n).parts ≡ facts c n.parts
    by true = each-facts c (length c.links) n
    by false = refl

-- ---- the laws

pub late-go : late_orders_go
late-go c link way n well places unasked w =
    subst (λ (k : Node WholeQueues). GoesLate c link way n k) (sym (ap (λ (b : Bool). if b then order_late whole c link n else n) late)) (goes c link n unasked way places w)
  where
    late : is_late c link n.parts ≡ true
    late = ap (λ (b : Bool). b && has_way c link n.parts) unasked ∙ way-is c well link n n.parts ∙ ap is_some w

pub others-stay : other_orders_stay
others-stay c link n e = ap (λ (b : Bool). if b then order_late whole c link n else n) e

pub all-gone : (c : Configuration) (link : ℕ) (n : Node WholeQueues) → c.changeover_by_any_route ≡ true → link < length c.links → is_late c link (order_all whole c n).parts ≡ false
all-gone c link n any below =
    ap (λ (b : Bool). is_late c link (if b then order_each whole c (length c.links) n else n).parts) any ∙ each-late c (length c.links) link n below
