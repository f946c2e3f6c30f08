-- Where one set alone leads to a point, management for it from here stands on links of that set, but for declarations.
use Rattle.exchange_rules.proofs.Basics.{Result, Ok, Err, ◌*◌, ◌%◌, ◌≡◌, ◌≢◌, ◌<◌, ◌≤◌, ◌⊎◌, inl, inr, ℕ, ◌+◌, Bool, true, false, ◌&&◌, ◌||◌, not, List, [], ◌∷◌, ◌++◌, length, map, nat_eq, get_or, slice_set, refl, ap, sym, subst, ◌∙◌, arith, if◌then◌else◌, find, slice_index_or, Option, Some, None, option_map, option_and_then, list_any, position, ⊎_elim, cases_eq, cases_lt, eq-eqb, eqb-true, get_or_past, get_or-set_same, get_or-set_other, get_or-map, length-set, position-Some}
use Rattle.exchange_rules.proofs.Definitions.{link_test, Message, dpc_of, flow_of, Configuration, SetEntry, DestinationEntry, destination_place, Queue, first_queue, emptied, appended, Route, RouteStatus, Allowed, first_route, first_routes, chosen_link, ToldTable, is_number, is_own_point, Node, facts, link_of, queue_on, declaration, test_answer, set_of, carries, WholeQueues, queue_at, whole, first_state}
use Rattle.std.proofs.lemmas.List.Folds.{list_any-append}
use Rattle.std.proofs.lemmas.List.{get_or-map as get_or-map_inside}
use Rattle.link.specs.Queue as queue
use Rattle.link.specs.Queue.{accept_answer, to_send}
use Rattle.route_management.specs.Told.{adjacent_place}
use Rattle.settings.specs.Sharing.{sets_to, LeadsAlone}
use Rattle.exchange_rules.proofs.LoneRoutes.{lone-chosen}
use Rattle.neighbour_rules.specs.Neighbours.{is_management_between}
use Rattle.mtp3_codec.specs.Management.{read_management}
use Rattle.mtp3_codec.specs.declared.fault.MgmtFault.{MgmtFault}
use Rattle.mtp3_codec.specs.declared.management.Management.{Management}
use Rattle.mtp3_codec.specs.declared.management.Management.TheVariants.{ChangebackDeclaration}
use Rattle.signalling_types.specs.Message.{opc_of, service_indicator}
use Rattle.exchange_rules.proofs.LastingMessages.{accepted-all, sent-all}
use Rattle.exchange_rules.proofs.LastingRoutes.{as-told, routes-first}
use Rattle.exchange_rules.proofs.Lists.{each-replicate}
use Rattle.exchange_rules.proofs.Steps.{IsOfSteps, AreOwnAllowed, any_status, ways_of}
use Rattle.exchange_rules.proofs.Asked.{any, IsOfAll, all-of}

-- what a message says that is a changeback declaration
abbrev pub is_declaration : Result Management MgmtFault → Bool
is_declaration (Ok (ChangebackDeclaration slc code)) = true
is_declaration (Ok _) = false
is_declaration (Err fault) = false

-- management from here to a point that is none
abbrev pub is_signal : Configuration → (point : ℕ) → Message → Bool
is_signal c point m = is_management_between c.own point m && not (is_declaration (read_management m.sif))

-- ---- the route

own-status : (r : Route) (set : ℕ) → r.set ≡ set
    → ((status : RouteStatus) → option_map (λ (x : Route). x.status) (if nat_eq r.set set then Some r else None) ≡ Some status → status ≡ Allowed) → r.status ≡ Allowed
own-status r set e h = h r.status (ap (λ (b : Bool). option_map (λ (x : Route). x.status) (if b then Some r else None)) (eq-eqb r.set set e))

lone-row : (rs : List Route) (set : ℕ) → map any_status rs ≡ first_route set ∷ []
    → ((status : RouteStatus) → option_map (λ (x : Route). x.status) (find (λ (r : Route). nat_eq r.set set) rs) ≡ Some status → status ≡ Allowed) → rs ≡ first_route set ∷ []
lone-row [] set e h = absurd cc
lone-row (r ∷ []) set e h =
    let way : any_status r ≡ first_route set = cc in
    ap (λ (x : Route). record x { status = r.status } ∷ []) way
    ∙ ap (λ (status : RouteStatus). record (first_route set) { status = status } ∷ []) (own-status r set (ap (λ (x : Route). x.set) way) h)
lone-row (r ∷ x ∷ rs) set e h = absurd cc

-- ---- a queue of which one is replaced

set-or-same : (qs : List Queue) (i j : ℕ) (q : Queue) → ((get_or (slice_set qs i q) j first_queue ≡ q) × (j ≡ i)) ⊎ (get_or (slice_set qs i q) j first_queue ≡ get_or qs j first_queue)
set-or-same qs i j q =
    ⊎_elim
    (λ (e : j ≡ i). subst (λ (k : ℕ). ((get_or (slice_set qs i q) k first_queue ≡ q) × (k ≡ i)) ⊎ (get_or (slice_set qs i q) k first_queue ≡ get_or qs k first_queue)) (sym e)
    (⊎_elim
    (λ (there : i < length qs). inl (get_or-set_same qs i q first_queue there, refl))
    (λ (past : length qs ≤ i). inr (get_or_past (slice_set qs i q) i first_queue (omega (arith, past, length-set qs i q)) ∙ sym (get_or_past qs i first_queue past)))
    (cases_lt i (length qs))))
    (λ (d : j ≢ i). inr (get_or-set_other qs i j q first_queue d))
    (cases_eq j i)

or-none : (a b : Bool) → a ≡ false → b ≡ false → (a || b) ≡ false
or-none true b e f = absurd cc
or-none false b e f = f

-- a message that says no declaration, of several tests of it one that fails
other-point : (a e b d : Bool) → b ≡ false → ((a && (e && b)) && d) ≡ false
other-point true true false d f = refl
other-point true false b d f = refl
other-point false e b d f = refl
other-point true true true d f = absurd cc

other-kind : (a b d : Bool) → a ≡ false → ((a && b) && d) ≡ false
other-kind false b d f = refl
other-kind true b d f = absurd cc

declares : (a d : Bool) → d ≡ false → (a && d) ≡ false
declares true d f = f
declares false d f = refl

tested-indicator : (network : ℕ) → (network * 64 + 1) % 16 ≡ 1
tested-indicator network = omega arith

-- ---- steps

module _ (c : Configuration) (set point destination : ℕ) (leads : LeadsAlone c point set) (place : destination_place c point ≡ Some destination) where
  -- no user message for the point
  abbrev None_for : List Message → Type 0
  None_for ms = list_any (is_signal c point) ms ≡ false

  pub record IsLone (n : Node WholeQueues) : Type 0 where
    pub ways : ways_of n.parts.routes ≡ ways_of (map first_routes c.destinations)
    pub adjacents : n.parts.told.adjacents ≡ map (adjacent_place c.destinations) c.sets
    pub own : AreOwnAllowed n.parts.told n.parts.routes
    pub queues : (link : ℕ) → set_of c link ≢ set → None_for (queue_at n.queues link).all

  own-point : (t : ToldTable) → t.adjacents ≡ map (adjacent_place c.destinations) c.sets → is_own_point t set destination ≡ true
  own-point t e =
      let none : SetEntry = record { name = []; adjacent = 0 } in
      let found : (set < length c.sets) × (nat_eq point (slice_index_or c.sets set none).adjacent ≡ true)
      × ((k : ℕ) → k < set → nat_eq point (slice_index_or c.sets k none).adjacent ≡ false) = position-Some _ c.sets set none leads.adjacent in
      let same : point ≡ (slice_index_or c.sets set none).adjacent = eqb-true point (slice_index_or c.sets set none).adjacent found.1 in
      ap (λ (places : List (Option ℕ)). is_number destination (slice_index_or places set None)) e
      ∙ ap (is_number destination)
      (place-at found.0 ∙ ap (λ (p : ℕ). position (λ (d : DestinationEntry). nat_eq p d.point) c.destinations) (sym same) ∙ place)
      ∙ eq-eqb destination destination refl
    where
      place-at : set < length c.sets → slice_index_or (map (adjacent_place c.destinations) c.sets) set None ≡ adjacent_place c.destinations (slice_index_or c.sets set (record { name = []; adjacent = 0 }))
      place-at there = get_or-map_inside (adjacent_place c.destinations) c.sets set (record { name = []; adjacent = 0 }) None there

  way : (n : Node WholeQueues) → IsLone n → map any_status (slice_index_or n.parts.routes destination []) ≡ first_route set ∷ []
  way n h =
      let none : DestinationEntry = record { point = 0; sets = []; joined = false } in
      sym (get_or-map (map any_status) n.parts.routes destination []) ∙ ap (λ (ways : List (List Route)). slice_index_or ways destination []) h.ways
      ∙ get_or-map (map any_status) (map first_routes c.destinations) destination []
      ∙ ap (map any_status) (get_or-map first_routes c.destinations destination none)
      ∙ ap (λ (sets : List ℕ). map any_status (first_routes (record (slice_index_or c.destinations destination none) { sets = sets }))) (ap (sets_to c) (sym place) ∙ leads.only)

  route : (n : Node WholeQueues) → IsLone n → slice_index_or n.parts.routes destination [] ≡ first_route set ∷ []
  route n h = lone-row (slice_index_or n.parts.routes destination []) set (way n h) (λ status e. h.own.each set destination status (own-point n.parts.told h.adjacents) e)

  links : (n : Node WholeQueues) → IsLone n → (sls link : ℕ) → chosen_link (facts c n.parts) destination sls ≡ Some link → set_of c link ≡ set
  links n h sls link e = lone-chosen c n.parts set destination sls link (route n h) e

  -- ---- what stays

  pub record Stays (n m : Node WholeQueues) : Type 0 where
    pub stay : IsLone n → IsLone m

  same-lone : (n m : Node WholeQueues) → m.parts.routes ≡ n.parts.routes → m.parts.told.adjacents ≡ n.parts.told.adjacents → m.queues.links ≡ n.queues.links → Stays n m
  same-lone n m e f g = record {
    stay = λ h. record {
      ways = ap ways_of e ∙ h.ways;
      adjacents = f ∙ h.adjacents;
      own = as-told n.parts.told m.parts.told m f (subst (AreOwnAllowed n.parts.told) (sym e) h.own);
      queues = λ link away. ap (λ (qs : List Queue). list_any (is_signal c point) (queue_at (record n.queues { links = qs }) link).all) g ∙ h.queues link away;
    };
  }

  -- the queue of one link changes
  queue-lone : (n m : Node WholeQueues) (at : ℕ) (q : Queue) → m.parts.routes ≡ n.parts.routes → m.parts.told ≡ n.parts.told → m.queues.links ≡ slice_set n.queues.links at q
      → (IsLone n → set_of c at ≢ set → None_for q.all) → Stays n m
  queue-lone n m at q e f g is = record {
    stay = λ h. record {
      ways = ap ways_of e ∙ h.ways;
      adjacents = ap (λ (t : ToldTable). t.adjacents) f ∙ h.adjacents;
      own = subst (λ (t : ToldTable). AreOwnAllowed t m.parts.routes) (sym f) (subst (AreOwnAllowed n.parts.told) (sym e) h.own);
      queues = λ link away.
          ap (λ (qs : List Queue). list_any (is_signal c point) (queue_at (record n.queues { links = qs }) link).all) g
          ∙ ⊎_elim
          (λ (here : (get_or (slice_set n.queues.links at q) link first_queue ≡ q) × (link ≡ at)).
          ap (λ (x : Queue). list_any (is_signal c point) x.all) here.0 ∙ is h (λ its. away (ap (set_of c) here.1 ∙ its)))
          (λ (same : get_or (slice_set n.queues.links at q) link first_queue ≡ get_or n.queues.links link first_queue).
          ap (λ (x : Queue). list_any (is_signal c point) x.all) same ∙ h.queues link away)
          (set-or-same n.queues.links at link q);
    };
  }

  more : (ms : List Message) (m : Message) → None_for ms → is_signal c point m ≡ false → None_for (ms ++ m ∷ [])
  more ms m e f =
      list_any-append (is_signal c point) ms (m ∷ [])
      ∙ or-none (list_any (is_signal c point) ms) (is_signal c point m || false) e (or-none (is_signal c point m) false f refl)

  queued : (at : ℕ) (m : Message) (n : Node WholeQueues) → (IsLone n → set_of c at ≢ set → is_signal c point m ≡ false) → Stays n (queue_on whole c at m n)
  queued at m n other =
      queue-lone n _ at (appended (queue_at n.queues at) m) refl refl refl (λ h away. more (queue_at n.queues at).all m (h.queues at away) (other h away))

  -- management for the point goes by a link of the set
  goes : (n : Node WholeQueues) (m : Message) (link : ℕ) → link_of c n.parts (flow_of m) ≡ Some link → IsLone n → set_of c link ≢ set → is_signal c point m ≡ false
  goes n m link e h away = by (nat_eq (dpc_of m) point) refl
    where
      by : (to : Bool) → nat_eq (dpc_of m) point ≡ to → is_signal c point m ≡ false
      by false i = other-point (nat_eq (service_indicator m) 0) (nat_eq (opc_of m) c.own) (nat_eq (dpc_of m) point) (not (is_declaration (read_management m.sif))) i
      by true i =
          absurd (away (links n h (flow_of m).sls link
          (ap (λ (place : Option ℕ). option_and_then (λ p. chosen_link (facts c n.parts) p (flow_of m).sls) place)
          (sym (ap (destination_place c) (eqb-true (dpc_of m) point i) ∙ place)) ∙ e)))

  lone-steps : IsOfSteps c any any Stays
  lone-steps = record {
    none = λ n. same-lone n n refl refl refl;
    both = λ n m o e f. record { stay = λ h. f.stay (e.stay h) };
    routed = λ link m n e. queued link m n (goes n m link e);
    declared = λ link other code n e f. queued other (declaration c link code) n (λ h away. declares (is_management_between c.own point (declaration c link code)) _ refl);
    tested = λ link at test n e f. queued link (test_answer c at test) n (λ h away. other-kind (nat_eq (service_indicator (test_answer c at test)) 0) _ _ (ap (λ (k : ℕ). nat_eq k 0) (tested-indicator c.network)));
    probed = λ link n e. queued link (link_test c link) n (λ h away. other-kind (nat_eq (service_indicator (link_test c link)) 0) _ _ (ap (λ (k : ℕ). nat_eq k 0) (tested-indicator c.network)));
    held = λ m n e. same-lone n _ refl refl refl;
    taken_out = λ n. same-lone n _ refl refl refl;
    noted = λ notice n e. same-lone n _ refl refl refl;
    lost = λ n. same-lone n _ refl refl refl;
    counted = λ messages broken n. same-lone n _ refl refl refl;
    asked = λ link n e. same-lone n _ refl refl refl;
    late = λ n. same-lone n _ refl refl refl;
    timed = λ r n e. same-lone n _ refl refl refl;
    holding = λ h n e. same-lone n _ refl refl refl;
    coded = λ set code awaited n. same-lone n _ refl refl refl;
    rerouted = λ routes n e. record { stay = λ h. record { ways = e.ways ∙ h.ways; adjacents = h.adjacents; own = e.own h.own; queues = h.queues } };
    told = λ t n e. same-lone n _ refl e.adjacents refl;
    titled = λ rows n. same-lone n _ refl refl refl;
    unequipped = λ counts n e. same-lone n _ refl refl refl;
    failed = λ link why st n e f. same-lone n _ refl refl refl;
    dropped = λ link why n e. same-lone n _ refl refl refl;
    completed = λ link number st n e f. queue-lone n _ link (emptied (queue_at n.queues link)) refl refl refl (λ h away. refl);
    answered = λ link st n e f w. same-lone n _ refl refl refl;
    linked = λ link x n e o. same-lone n _ refl refl refl;
    parted = λ link n e. same-lone n _ refl refl refl;
    opened = λ link n own e f g. queue-lone n _ link first_queue refl refl refl (λ h away. refl);
    stepped = λ link input step n own e. same-lone n _ refl refl refl;
    passed = λ link n e. same-lone n _ refl refl refl;
    busied = λ link n own e f. same-lone n _ refl refl refl;
    resumed = λ link n own e f. same-lone n _ refl refl refl;
    accepted = λ link d confirmed n own e f.
        let q : Queue = queue_at n.queues link in
        queue-lone n _ link (queue.accepted q d.fsn d.bsn (carries d)) refl refl refl
        (λ h away. ap (list_any (is_signal c point)) (accepted-all q (carries d) (accept_answer q d.fsn d.bsn (carries d))) ∙ h.queues link away);
    sent = λ link next n own e.
        let q : Queue = queue_at n.queues link in
        queue-lone n _ link (queue.sent_one q c.window) refl refl refl (λ h away. ap (list_any (is_signal c point)) (sent-all q (to_send q c.window)) ∙ h.queues link away);
  }

  pub lone-all : IsOfAll c Stays
  lone-all = all-of lone-steps (λ n. same-lone n _ refl refl refl) (λ n. same-lone n _ refl refl refl)

  pub lone-first : IsLone (first_state c).node
  lone-first = record {
    ways = refl;
    adjacents = refl;
    own = routes-first c;
    queues = λ link away. each-replicate (λ (q : Queue). list_any (is_signal c point) q.all ≡ false) (length c.links) link first_queue refl;
  }
