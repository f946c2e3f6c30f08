-- What moves promise, two exchanges promise.
use Rattle.pair_rules.proofs.Basics.{◌≡◌, ◌≢◌, ◌<◌, ◌≤◌, ◌&&◌, ◌+◌, ℕ, zero, suc, Bool, true, false, not, List, [], ◌∷◌, ◌++◌, length, Option, Some, None, refl, ap, sym, subst, ◌∙◌, nat_eq, nat_lt, arith, append-nil, if◌then◌else◌, count_by, drop, filter, replicate, All, slice_get, ⊎_elim, cases_eq, cases_lt, eq-eqb, get_or_past}
use Rattle.std.proofs.Common.{append_assoc}
use Rattle.std.proofs.lemmas.List.{length-replicate}
use Rattle.std.proofs.lemmas.List.Elements.{filter-append}
use Rattle.pair_rules.proofs.Definitions.{Message, Flow, flow_of, dpc_of, is_management, read_management, Configuration, Queue, first_queue, Reading, Saying, is_user_message, Pair, PairState, first_pair, turned, LostNothing, queue_of, set_of, each-replicate}
use Rattle.exchange_rules.proofs.Basics.{eqb-true}
use Rattle.exchange_rules.specs.LoneRoutes.{is_user_to}
use Rattle.pair_moves.specs.Sayings as sayings
use Rattle.pair_moves.specs.Ends.{unreceived}
use Rattle.pair_moves.specs.Ends as ends
use Rattle.pair_moves.specs.Flowing.{WaitsRightly}
use Rattle.pair_moves.specs.Moves.{last_of}
use Rattle.pair_moves.specs.Laws.{one_if, sum_to, under_way}
use Rattle.pair_moves.specs.Once as once
use Rattle.pair_moves.specs.Order.{join_to}
use Rattle.pair_moves.specs.Order as order
use Rattle.pair_moves.specs.Theorems as theorems
use Rattle.pair_moves.proofs.Concluded.{each_message_once-always, each_flow_in_order-always, what_waits-always}
use Rattle.pair_moves.proofs.Counts.{count-append, count-cons, sum-alike}
use Rattle.pair_moves.proofs.Joins.{join-alike, join-none}
use Rattle.pair_rules.specs.Accepting.{IsUserMessageTo}
use Rattle.pair_rules.specs.Promises.{BothWays, IsPunctual, is_of_flow, of_flow, user}
use Rattle.pair_rules.proofs.World.{World}
use Rattle.pair_rules.proofs.Going.{goes-same}
use Rattle.pair_rules.proofs.First.{nothing_flies}
use Rattle.pair_rules.proofs.Promised.{count-join}
use Rattle.pair_rules.proofs.Standing.{AreTexts, world_of}
use Rattle.neighbour_rules.specs.Neighbours.{Step, after_steps, end_there, users_to}
use Rattle.neighbour_rules.specs.Promises.{Always, AreBooked, EachOnce, InOrder, accepted_there, each_flow_in_order, each_message_once, waiting, waiting_by, waiting_on}
use Rattle.neighbour_rules.specs.Laws.{unreceived_at}
use Rattle.neighbour_rules.proofs.Counted.{base-same, beyond-none, no_base, no_counts, none-grow}
use Rattle.neighbour_rules.proofs.Untold.{placed-there}
use Rattle.neighbour_rules.proofs.World.{code_of, codes, is_between, line_of, link_at_code, reading, says_by, says_of, shown}
use Rattle.neighbour_rules.proofs.Messages.{word-says}
use Rattle.neighbour_rules.proofs.Good.{Joint}
use Rattle.neighbour_rules.proofs.Lines.{at-line}
use Rattle.neighbour_rules.proofs.Made.{not-same}
use Rattle.neighbour_rules.proofs.Lone.{all-to}
use Rattle.neighbour_rules.proofs.Staying.{books-stay, with_settings, written}
use Rattle.neighbour_rules.proofs.Sharing.{AreFacing, AreOwn, are-facing, facing-own, facing_back, far_joint, from_first, near_joint}
use Rattle.neighbour_rules.proofs.FarEnds.{IsLine, far-own, is-line, line-known, of-no-set}
use Rattle.neighbour_rules.proofs.First.{first-good, first-shown}
use Rattle.neighbour_rules.proofs.Adjacents.{first-knows}
use Rattle.neighbour_rules.proofs.Summed.{are-own, join-lines, sum-lines}
use Rattle.neighbour_rules.proofs.Standing.{Since, Stands, since-first}
use Rattle.neighbour_rules.proofs.AllSteps.{stands-turned, steps-stand}

-- ---- the messages of a list that are for a point

count-to : (point : ℕ) (test : Message → Bool) (ms : List Message) → count_by (user test) (users_to point ms) ≡ count_by (λ (m : Message). is_user_to point m && test m) ms
count-to point test [] = refl
count-to point test (m ∷ ms) =
    by (is_management m) (nat_eq (dpc_of m) point) refl (count-to point test ms)
    ∙ sym (count-cons (λ (x : Message). is_user_to point x && test x) m ms)
  where
    by : (b d : Bool) → is_management m ≡ b → count_by (user test) (users_to point ms) ≡ count_by (λ (x : Message). is_user_to point x && test x) ms
        → count_by (user test) (if not b && d then m ∷ users_to point ms else users_to point ms) ≡ one_if ((not b && d) && test m) + count_by (λ (x : Message). is_user_to point x && test x) ms
    by true d e rest = omega (arith, rest)
    by false false e rest = omega (arith, rest)
    by false true e rest = omega (arith, rest, count-cons (user test) m (users_to point ms), ap (λ (k : Bool). one_if (not k && test m)) e)

filter-both : (p q : Message → Bool) (ms : List Message) → filter p (filter q ms) ≡ filter (λ (m : Message). q m && p m) ms
filter-both p q [] = refl
filter-both p q (m ∷ ms) = by (q m) (filter-both p q ms)
  where
    by : (b : Bool) → filter p (filter q ms) ≡ filter (λ (x : Message). q x && p x) ms
        → filter p (if b then m ∷ filter q ms else filter q ms) ≡ (if b && p m then m ∷ filter (λ (x : Message). q x && p x) ms else filter (λ (x : Message). q x && p x) ms)
    by true rest = ap (λ (xs : List Message). if p m then m ∷ xs else xs) rest
    by false rest = rest

-- a user message for the point says that it is one
user-to : (one two point : ℕ) (m : Message) (t : Bool) → (is_user_message (says_of one two point m) && (nat_eq (dpc_of m) point && t)) ≡ (is_user_to point m && t)
user-to one two point m t = by (is_management m) (is_between one two m) (nat_eq (dpc_of m) point)
  where
    by : (b between to : Bool) → (is_user_message (says_by b between to m) && (to && t)) ≡ ((not b && to) && t)
    by true true to = ap (λ (x : Bool). x && (to && t)) (word-says (read_management m.sif))
    by true false to = refl
    by false between true = refl
    by false between false = refl

user-same : (one two point : ℕ) (test : Message → Bool) → once.user (says_of one two point) (λ (m : Message). nat_eq (dpc_of m) point && test m) ≡ (λ (m : Message). is_user_to point m && test m)
user-same one two point test = λ i. λ m. user-to one two point m (test m) i

-- of a flow to it
abbrev flow_to : (point sls : ℕ) → Flow
flow_to point sls = record { point = point; sls = sls }

flow-alike : (one two point sls : ℕ) → is_of_flow (flow_to point sls) ≡ sayings.is_of_flow (says_of one two point) (flow_to point sls)
flow-alike one two point sls = λ i. λ m. each m i
  where
    each : (m : Message) → is_of_flow (flow_to point sls) m ≡ sayings.is_of_flow (says_of one two point) (flow_to point sls) m
    each m = flat (is_management m) (nat_eq (dpc_of m) point) (nat_eq (flow_of m).sls sls) ∙ sym (user-to one two point m (nat_eq (flow_of m).sls sls))
      where
        flat : (b d t : Bool) → (not b && (d && t)) ≡ ((not b && d) && t)
        flat true d t = refl
        flat false d t = refl

-- the user messages of a flow are for its point
flow-to : (point sls : ℕ) (ms : List Message) → of_flow (flow_to point sls) (users_to point ms) ≡ of_flow (flow_to point sls) ms
flow-to point sls ms = filter-both (is_of_flow (flow_to point sls)) (is_user_to point) ms ∙ ap (λ (test : Message → Bool). filter test ms) (λ i. λ m. each m i)
  where
    each : (m : Message) → (is_user_to point m && is_of_flow (flow_to point sls) m) ≡ is_of_flow (flow_to point sls) m
    each m = twice (is_management m) (nat_eq (dpc_of m) point) (nat_eq (flow_of m).sls sls)
      where
        twice : (b d t : Bool) → ((not b && d) && (not b && (d && t))) ≡ (not b && (d && t))
        twice true d t = refl
        twice false true t = refl
        twice false false t = refl

flow-join : (flow : Flow) (f : ℕ → List Message) (n : ℕ) → of_flow flow (join_to f n) ≡ join_to (λ k. of_flow flow (f k)) n
flow-join flow f zero = refl
flow-join flow f (suc n) = filter-append (is_of_flow flow) (join_to f n) (f n) ∙ ap (λ (ms : List Message). ms ++ of_flow flow (f n)) (flow-join flow f n)

-- none of them is of a flow to another point
none-of-flow : (flow : Flow) (point : ℕ) (ms : List Message) → flow.point ≢ point → of_flow flow (users_to point ms) ≡ []
none-of-flow flow point [] d = refl
none-of-flow flow point (m ∷ ms) d = by (is_management m) (nat_eq (dpc_of m) point) refl (none-of-flow flow point ms d)
  where
    apart : nat_eq (dpc_of m) point ≡ true → nat_eq (dpc_of m) flow.point ≡ false
    apart e = not-same (dpc_of m) flow.point (λ same. d (sym same ∙ eqb-true (dpc_of m) point e))

    by : (b to : Bool) → nat_eq (dpc_of m) point ≡ to → of_flow flow (users_to point ms) ≡ [] → of_flow flow (if not b && to then m ∷ users_to point ms else users_to point ms) ≡ []
    by true to e rest = rest
    by false false e rest = rest
    by false true e rest =
        ap (λ (x : Bool). if not (is_management m) && (x && nat_eq (flow_of m).sls flow.sls) then m ∷ of_flow flow (users_to point ms) else of_flow flow (users_to point ms)) (apart e)
        ∙ ap (λ (x : Bool). if x then m ∷ of_flow flow (users_to point ms) else of_flow flow (users_to point ms)) (never (is_management m))
        ∙ rest
      where
        never : (b : Bool) → (not b && (false && nat_eq (flow_of m).sls flow.sls)) ≡ false
        never true = refl
        never false = refl

-- ---- after some steps

module _ (c z : Configuration) (a : AreFacing c z) (q : PairState) (s : Stands c z a (with_settings c z q)) (kept : Since c z a (with_settings c z q)) where
  abbrev p : PairState
  p = with_settings c z q

  abbrev j : Joint c z
  j = near_joint c z a

  abbrev w : World
  w = world_of p s.to_near s.to_far

  abbrev read : Message → Saying
  read = says_of c.own z.own j.base.there

  abbrev view : Pair
  view = shown c z a.near_set a.far_set a.base w

  abbrev links : ℕ
  links = length c.links

  abbrev far_of : ℕ → Option ℕ
  far_of link = end_there c z (slice_get c.links link)

  abbrev line : ℕ → ends.Line
  line code = line_of c z a.near_set a.far_set w code

  -- a law of the moves, of the pair as it is shown
  pub of-shown : (Statement : Reading → Pair → Type 0) → theorems.Always Statement → theorems.BothWays Statement (reading c.own z.own a.base) view
  of-shown Statement law =
      let shows : last_of a.start s.goes.through ≡ view = s.goes.ends in
      subst (theorems.BothWays Statement (reading c.own z.own a.base)) shows
      (law (reading c.own z.own a.base) a.start s.goes.through kept.quiet s.goes.moves (ap (λ (x : Pair). x.near.lost) shows ∙ kept.near) (ap (λ (x : Pair). x.far.lost) shows ∙ kept.far))

  -- ---- what the far end lacks, by links and by codes

  -- of a link of the near end
  abbrev pub lacks : ℕ → List Message
  lacks link = drop (queue_of p.far (link_at_code z a.far_set (code_of c link))).received (queue_of p.near link).all

  abbrev own : ℕ → ℕ
  own code = link_at_code c a.near_set code

  none-past : (link : ℕ) → links ≤ link → lacks link ≡ []
  none-past link l =
      ap (λ (x : Queue). drop (queue_of p.far (link_at_code z a.far_set (code_of c link))).received x.all)
      (get_or_past p.near.exchange.node.queues.links link first_queue (subst (λ (k : ℕ). k ≤ link) (sym s.near_good.fits.places.queues) l))
      ∙ none (queue_of p.far (link_at_code z a.far_set (code_of c link))).received
    where
      none : (n : ℕ) → drop {A = Message} n [] ≡ []
      none zero = refl
      none (suc n) = refl

  pub lacked-by : (code : ℕ) → unreceived (line code) ≡ lacks (own code)
  lacked-by code =
      ⊎_elim
      (λ (l : own code < links).
      sym (ap (λ (k : ℕ). drop (queue_of p.far (link_at_code z a.far_set k)).received (queue_of p.near (own code)).all) (at-line c a.near_well a.near_set (own code) code l refl).its_code))
      (λ (l : links ≤ own code). none-there l ∙ sym (none-past (own code) l))
      (cases_lt (own code) links)
    where
      none : (n : ℕ) → drop {A = Message} n [] ≡ []
      none zero = refl
      none (suc n) = refl

      none-there : links ≤ own code → unreceived (line code) ≡ []
      none-there l =
          ap (λ (x : Queue). drop (queue_of p.far (link_at_code z a.far_set code)).received x.all)
          (get_or_past p.near.exchange.node.queues.links (own code) first_queue (subst (λ (k : ℕ). k ≤ own code) (sym s.near_good.fits.places.queues) l))
          ∙ none (queue_of p.far (link_at_code z a.far_set code)).received

  -- of a line
  pub lacked-at : (link other : ℕ) → IsLine c z j link other → lacks link ≡ unreceived_at p link other
  lacked-at link other e = ap (λ (k : ℕ). drop (queue_of p.far k).received (queue_of p.near link).all) (far-own c z j link other e)

  abbrev has : ℕ → Bool
  has link = nat_eq (set_of c link) a.near_set

  -- a link, by whether it is one between the two
  pub by-link : (Is : (link : ℕ) → Option ℕ → Bool → Type 0) → ((link other : ℕ) → IsLine c z j link other → Is link (Some other) true)
      → ((link : ℕ) → link < links → set_of c link ≢ a.near_set → Is link None false) → (link : ℕ) → link < links → Is link (far_of link) (has link)
  by-link Is line-is none-is link l = by (far_of link) refl
    where
      by : (o : Option ℕ) → far_of link ≡ o → Is link o (has link)
      by (Some other) e = subst (Is link (Some other)) (sym (eq-eqb (set_of c link) a.near_set (is-line c z j link other e).of_set)) (line-is link other (is-line c z j link other e))
      by None e = subst (Is link None) (sym (not-same (set_of c link) a.near_set (of-no-set c z j link e l))) (none-is link l (of-no-set c z j link e l))

  -- what waits there is just that
  waits-so : (link other : ℕ) → IsLine c z j link other → drop (accepted_there p link other) (queue_of p.near link).all ≡ lacks link
  waits-so link other e =
      let rightly : WaitsRightly (line (code_of c link)) = (of-shown (λ read x. (code : ℕ) → WaitsRightly (x.line code)) what_waits-always).there (code_of c link) in
      subst WaitsRightly (line-known c z j w link other e) rightly ∙ sym (lacked-at link other e)

  -- what the lines lack, and what the links of the set do, come to the same
  pub summed-lines : (test : Message → Bool) → sum_to (λ code. count_by test (unreceived (line code))) codes ≡ sum_to (λ link. if has link then count_by test (lacks link) else 0) links
  summed-lines test =
      sum-alike (λ code. count_by test (lacks (own code))) (λ code. count_by test (unreceived (line code))) codes (λ code l. ap (count_by test) (lacked-by code))
      ∙ sum-lines own has (code_of c) codes links (are-own c a.near_well a.near_set) (λ link. count_by test (lacks link)) (λ link l. ap (count_by test) (none-past link l))

  -- ---- "Order", for whichever point

  in-a-row : (r x h : List Message) → r ++ [] ++ x ++ h ++ [] ≡ r ++ (x ++ h)
  in-a-row r x h = append-nil (r ++ [] ++ x ++ h) ∙ ap (λ (ms : List Message). ms ++ x ++ h) (append-nil r) ∙ append_assoc r x h

  -- what waits on a link, whomever it is for, if it leads to the far end
  abbrev pub waits_by : (link : ℕ) → (other : Option ℕ) → List Message
  waits_by link (Some other) = drop (accepted_there p link other) (queue_of p.near link).all
  waits_by link None = []

  module _ (sls : ℕ) where
    abbrev flow : Flow
    flow = flow_to a.base.there sls

    abbrev its : List Message → List Message
    its ms = filter (sayings.is_of_flow read flow) ms

    of-its : (ms : List Message) → of_flow flow ms ≡ its ms
    of-its ms = ap (λ (test : Message → Bool). filter test ms) (flow-alike c.own z.own a.base.there sls)

    its-row : (link : ℕ) → link < links → of_flow flow (waits_by link (far_of link)) ≡ (if has link then its (lacks link) else [])
    its-row =
        by-link (λ link o b. of_flow flow (waits_by link o) ≡ (if b then its (lacks link) else []))
        (λ link other e. of-its (drop (accepted_there p link other) (queue_of p.near link).all) ∙ ap its (waits-so link other e))
        (λ link l d. refl)

    single-so : order.IsInOrder read flow view → (k i : ℕ) → k < codes → i < codes → its (lacks (own k)) ≢ [] → its (lacks (own i)) ≢ [] → k ≡ i
    single-so o k i l m d e = o.single k i l m (λ none. d (ap its (sym (lacked-by k)) ∙ none)) (λ none. e (ap its (sym (lacked-by i)) ∙ none))

    abbrev waits_in_all : List Message
    waits_in_all = join_to (λ link. waits_by link (far_of link)) links ++ p.near.exchange.node.queues.held

    waiting-flow : order.IsInOrder read flow view → of_flow flow waits_in_all ≡ join_to (λ code. its (unreceived (line code))) codes ++ its p.near.exchange.node.queues.held
    waiting-flow o =
        filter-append (is_of_flow flow) (join_to (λ link. waits_by link (far_of link)) links) p.near.exchange.node.queues.held
        ∙ ap (λ (ms : List Message). ms ++ of_flow flow p.near.exchange.node.queues.held)
        (flow-join flow (λ link. waits_by link (far_of link)) links
        ∙ join-alike (λ link. if has link then its (lacks link) else []) (λ link. of_flow flow (waits_by link (far_of link))) links its-row
        ∙ sym (join-lines own has (code_of c) codes links (are-own c a.near_well a.near_set) (λ link. its (lacks link)) (single-so o) (λ link l. ap its (none-past link l)))
        ∙ join-alike (λ code. its (unreceived (line code))) (λ code. its (lacks (own code))) codes (λ code l. ap its (sym (lacked-by code))))
        ∙ ap (λ (ms : List Message). join_to (λ code. its (unreceived (line code))) codes ++ ms) (of-its p.near.exchange.node.queues.held)

    pub order-beyond : nat_lt a.base.near.late p.near.exchange.node.parts.times_late ≡ false
        → of_flow flow p.near.accepted ≡ of_flow flow p.far.received ++ of_flow flow (join_to (λ link. waits_by link (far_of link)) links ++ p.near.exchange.node.queues.held)
    order-beyond punctual =
        let o : order.IsInOrder read flow view = (of-shown (λ reads x. x.near.late ≡ false → (f : Flow) → order.IsInOrder reads.there f x) each_flow_in_order-always).there punctual flow in
        of-its p.near.accepted
        ∙ o.sequence
        ∙ in-a-row (its p.far.received) (join_to (λ code. its (unreceived (line code))) codes) (its p.near.exchange.node.queues.held)
        ∙ ap (λ (ms : List Message). its p.far.received ++ ms) (sym (waiting-flow o))
        ∙ ap (λ (ms : List Message). ms ++ of_flow flow waits_in_all) (sym (of-its p.far.received))

  -- ---- where the messages are for the two themselves

  module _ (for_far : a.base.there ≡ z.own) where
    -- ---- "Exactly once"

    module _ (test : Message → Bool) where
      abbrev wanted : Message → Bool
      wanted m = is_user_to z.own m && test m

      its-count : (link : ℕ) → link < links → count_by (user test) (waiting_by p link (far_of link)) ≡ (if has link then count_by wanted (lacks link) else 0)
      its-count =
          by-link (λ link o b. count_by (user test) (waiting_by p link o) ≡ (if b then count_by wanted (lacks link) else 0))
          (λ link other e. count-to z.own test (drop (accepted_there p link other) (queue_of p.near link).all) ∙ ap (count_by wanted) (waits-so link other e))
          (λ link l d. refl)

      count-waiting : count_by (user test) (waiting p) ≡ sum_to (λ code. count_by wanted (unreceived (line code))) codes + count_by wanted p.near.exchange.node.queues.held
      count-waiting =
          let both : count_by (user test) (waiting p) ≡ count_by (user test) (join_to (waiting_on p) links) + count_by (user test) (users_to z.own p.near.exchange.node.queues.held) =
          count-append (user test) (join_to (waiting_on p) links) (users_to z.own p.near.exchange.node.queues.held) in
          let joined : count_by (user test) (join_to (waiting_on p) links) ≡ sum_to (λ link. count_by (user test) (waiting_on p link)) links = count-join (user test) (waiting_on p) links in
          let summed : sum_to (λ link. count_by (user test) (waiting_on p link)) links ≡ sum_to (λ link. if has link then count_by wanted (lacks link) else 0) links =
          sum-alike (λ link. if has link then count_by wanted (lacks link) else 0) (λ link. count_by (user test) (waiting_on p link)) links its-count in
          omega (arith, both, joined, summed, summed-lines wanted, count-to z.own test p.near.exchange.node.queues.held)

      booked : (ms : List Message) → All (IsUserMessageTo z.own) ms → count_by (user test) ms ≡ count_by wanted ms
      booked ms h = ap (count_by (user test)) (sym (all-to z.own ms h)) ∙ count-to z.own test ms

      moved : count_by wanted p.near.accepted ≡ count_by wanted p.far.received + under_way wanted view
      moved =
          subst (λ (point : ℕ). count_by (λ (m : Message). is_user_to point m && test m) p.near.accepted
          ≡ count_by (λ (m : Message). is_user_to point m && test m) p.far.received + under_way (λ (m : Message). is_user_to point m && test m) view) for_far
          (subst (λ (of : Message → Bool). count_by of p.near.accepted ≡ count_by of p.far.received + under_way of view) (user-same c.own z.own a.base.there test)
          ((of-shown (λ reads. once.EachOnce reads.there) each_message_once-always).there (λ m. nat_eq (dpc_of m) a.base.there && test m)))

      once-so : All (IsUserMessageTo z.own) p.near.accepted → All (IsUserMessageTo z.own) p.far.received → count_by (user test) p.near.accepted ≡ count_by (user test) p.far.received + count_by (user test) (waiting p)
      once-so accepted received = omega (arith, moved, count-waiting, booked p.near.accepted accepted, booked p.far.received received)

    pub once-there : AreBooked p → AreBooked (turned p) → EachOnce p
    once-there near far test = once-so test near.accepted far.received

    -- ---- "Order"

    -- those of a flow to the far point are all that wait of it
    for-flow : (sls : ℕ) → of_flow (flow_to z.own sls) (waiting p) ≡ of_flow (flow_to z.own sls) (join_to (λ link. waits_by link (far_of link)) links ++ p.near.exchange.node.queues.held)
    for-flow sls =
        let to : Flow = flow_to z.own sls in
        filter-append (is_of_flow to) (join_to (waiting_on p) links) (users_to z.own p.near.exchange.node.queues.held)
        ∙ ap (λ (ms : List Message). ms ++ of_flow to (users_to z.own p.near.exchange.node.queues.held))
        (flow-join to (waiting_on p) links
        ∙ join-alike (λ link. of_flow to (waits_by link (far_of link))) (λ link. of_flow to (waiting_on p link)) links (λ link l. by link (far_of link))
        ∙ sym (flow-join to (λ link. waits_by link (far_of link)) links))
        ∙ ap (λ (ms : List Message). of_flow to (join_to (λ link. waits_by link (far_of link)) links) ++ ms) (flow-to z.own sls p.near.exchange.node.queues.held)
        ∙ sym (filter-append (is_of_flow to) (join_to (λ link. waits_by link (far_of link)) links) p.near.exchange.node.queues.held)
      where
        by : (link : ℕ) (o : Option ℕ) → of_flow (flow_to z.own sls) (waiting_by p link o) ≡ of_flow (flow_to z.own sls) (waits_by link o)
        by link (Some other) = flow-to z.own sls (drop (accepted_there p link other) (queue_of p.near link).all)
        by link None = refl

    order-so : (sls : ℕ) → nat_lt a.base.near.late p.near.exchange.node.parts.times_late ≡ false
        → of_flow (flow_to z.own sls) p.near.accepted ≡ of_flow (flow_to z.own sls) p.far.received ++ of_flow (flow_to z.own sls) (waiting p)
    order-so sls punctual =
        subst (λ (point : ℕ). of_flow (flow_to point sls) p.near.accepted
        ≡ of_flow (flow_to point sls) p.far.received ++ of_flow (flow_to point sls) (join_to (λ link. waits_by link (far_of link)) links ++ p.near.exchange.node.queues.held)) for_far
        (order-beyond sls punctual)
        ∙ ap (λ (ms : List Message). of_flow (flow_to z.own sls) p.far.received ++ ms) (sym (for-flow sls))

    -- no message is of a flow to another point
    none-away : (flow : Flow) → flow.point ≢ z.own → (ms : List Message) → All (IsUserMessageTo z.own) ms → of_flow flow ms ≡ []
    none-away flow d ms h = ap (of_flow flow) (sym (all-to z.own ms h)) ∙ none-of-flow flow z.own ms d

    none-waits : (flow : Flow) → flow.point ≢ z.own → of_flow flow (waiting p) ≡ []
    none-waits flow d =
        filter-append (is_of_flow flow) (join_to (waiting_on p) links) (users_to z.own p.near.exchange.node.queues.held)
        ∙ ap (λ (ms : List Message). ms ++ of_flow flow (users_to z.own p.near.exchange.node.queues.held))
        (flow-join flow (waiting_on p) links ∙ join-none (λ link. of_flow flow (waiting_on p link)) links (λ link l. by link (far_of link)))
        ∙ none-of-flow flow z.own p.near.exchange.node.queues.held d
      where
        by : (link : ℕ) (o : Option ℕ) → of_flow flow (waiting_by p link o) ≡ []
        by link (Some other) = none-of-flow flow z.own (drop (accepted_there p link other) (queue_of p.near link).all) d
        by link None = refl

    pub order-there : AreBooked p → AreBooked (turned p) → nat_lt a.base.near.late p.near.exchange.node.parts.times_late ≡ false → InOrder p
    order-there near far punctual flow =
        ⊎_elim
        (λ (to : flow.point ≡ z.own).
        subst (λ (point : ℕ). of_flow (flow_to point flow.sls) p.near.accepted ≡ of_flow (flow_to point flow.sls) p.far.received ++ of_flow (flow_to point flow.sls) (waiting p)) (sym to)
        (order-so flow.sls punctual))
        (λ (d : flow.point ≢ z.own).
        none-away flow d p.near.accepted near.accepted
        ∙ sym (none-waits flow d)
        ∙ ap (λ (ms : List Message). ms ++ of_flow flow (waiting p)) (sym (none-away flow d p.far.received far.received)))
        (cases_eq flow.point z.own)

-- ---- always

pub no-texts : (c : Configuration) → AreTexts c (replicate (length c.links) []) (λ link. [])
no-texts c = record { many = length-replicate (length c.links) []; each = λ link. each-replicate (λ (ts : List (List ℕ)). ts ≡ []) (length c.links) link [] refl }

pub first-stands : (near far : Configuration) (a : AreFacing near far) → Stands near far (from_first near far a) (first_pair near far)
first-stands near far a = record {
  near_settings = refl;
  far_settings = refl;
  near_waits = refl;
  far_waits = refl;
  near_knows = first-knows near a.near_well;
  far_knows = first-knows far a.far_well;
  to_near = nothing_flies;
  to_far = nothing_flies;
  near_texts = record { statuses = no-texts near; user_data = no-texts near };
  far_texts = record { statuses = no-texts far; user_data = no-texts far };
  near_flags = length-replicate (length near.links) false;
  far_flags = length-replicate (length far.links) false;
  near_quiet = λ link away. record { user_data = refl; statuses = refl };
  far_quiet = λ link away. record { user_data = refl; statuses = refl };
  near_alone = λ link away. each-replicate (λ (b : Bool). b ≡ false) (length near.links) link false refl;
  far_alone = λ link away. each-replicate (λ (b : Bool). b ≡ false) (length far.links) link false refl;
  near_good = first-good near far (near_joint near far (from_first near far a)) (base-same no_counts);
  far_good = first-good far near (far_joint near far (from_first near far a)) (base-same no_counts);
  goes = goes-same (reading near.own far.own a.base) _ _ (sym (first-shown near far a.near_set a.far_set a.base.there a.base.back));
}

own-stand : (near far : Configuration) (steps : List Step) (a : AreFacing near far) → AreOwn near far a → Stands near far (from_first near far a) (after_steps steps (first_pair near far))
own-stand near far steps a own = steps-stand near far (from_first near far a) (record { there = own.there; back = own.back }) steps (first_pair near far) (first-stands near far a)

-- whatever their messages were for, they are for each other
abbrev pub for_each_other : (near far : Configuration) → AreFacing near far → AreFacing near far
for_each_other near far a = record a {
  base = no_base far.own near.own;
  destination = a.adjacent;
  place = a.adjacent_place;
  there = placed-there near far.own a.adjacent a.adjacent_place;
  only = a.near_leads.only;
  back_destination = a.back_adjacent;
  back_place = a.back_adjacent_place;
  back_there = placed-there far near.own a.back_adjacent a.back_adjacent_place;
  back_only = a.far_leads.only;
  near_grows = none-grow;
  far_grows = none-grow;
  start = ends.first_pair codes;
}

pub all-stand : (near far : Configuration) (steps : List Step) (a : AreFacing near far) → Stands near far (from_first near far (for_each_other near far a)) (after_steps steps (first_pair near far))
all-stand near far steps a = own-stand near far steps (for_each_other near far a) (record { there = refl; back = refl })

-- a statement about one direction, that follows from what is there and from the books
pub always : (Statement : PairState → Type 0)
    → ((c z : Configuration) (a : AreFacing c z) (q : PairState) → a.base.there ≡ z.own → Stands c z (from_first c z a) (with_settings c z q) → Since c z (from_first c z a) (with_settings c z q) → AreBooked (with_settings c z q) → AreBooked (turned (with_settings c z q)) → Statement (with_settings c z q))
    → Always (λ p. LostNothing p → BothWays Statement p)
always Statement holds near far steps g kept =
    let p : PairState = after_steps steps (first_pair near far) in
    let a : AreFacing near far = are-facing near far g in
    let s : Stands near far (from_first near far a) p = own-stand near far steps a (facing-own near far g) in
    let b : BothWays AreBooked p = books-stay near far steps g in
    record {
      there = one near far a p (facing-own near far g).there s kept b.there b.back;
      back = one far near (facing_back near far a) (turned p) (facing-own near far g).back (stands-turned near far (from_first near far a) p s) (record { near = kept.far; far = kept.near }) b.back b.there;
    }
  where
    one : (c z : Configuration) (a : AreFacing c z) (q : PairState) → a.base.there ≡ z.own → Stands c z (from_first c z a) q → LostNothing q → AreBooked q → AreBooked (turned q) → Statement q
    one c z a q own s kept near far =
        let e : q ≡ with_settings c z q = written c z q s.near_settings s.far_settings in
        subst Statement (sym e)
        (holds c z a q own (subst (Stands c z (from_first c z a)) e s) (since-first c z a (with_settings c z q) (subst LostNothing e kept)) (subst AreBooked e near) (subst (λ (x : PairState). AreBooked (turned x)) e far))

pub each-once : each_message_once
each-once = always EachOnce (λ c z a q own s kept near far. once-there c z (from_first c z a) q s kept own near far)

pub each-in-order : each_flow_in_order
each-in-order = always (λ p. IsPunctual p → InOrder p) (λ c z a q own s kept near far punctual.
    order-there c z (from_first c z a) q s kept own near far (beyond-none (with_settings c z q).near.exchange.node.parts.times_late ∙ punctual))
