-- A link changes, and if it begins to carry traffic it takes its flows back from one link after another: by moves if it
-- is one of the two, and unseen if it leads elsewhere.
use Rattle.pair_rules.proofs.Basics.{◌≡◌, ◌≢◌, ◌<◌, ◌&&◌, ℕ, zero, suc, Bool, true, false, not, List, [], length, Option, refl, ap, sym, subst, ◌∙◌, nat_lt, nat_eq, if◌then◌else◌, option_map, ⊎_elim, fun_ext, cases_eq, None}
use Rattle.pair_rules.proofs.Definitions.{in_traffic, SELECTIONS, Message, Flow, Configuration, destination_place, Link, down_link, is_down, is_in_service, each-set, chosen_link, Route, Running, ToldTable, Facts, Node, Parts, with_parts, down, in_service, link_at, WholeQueues, whole, has_other, facts, set_of, change_back, loses_flows, take_back_each, begun_anew_if, changeover_of, StaysFit, IsAlike, take_back_each-alike, Pair, Saying}
use Rattle.std.proofs.Common.{option_and_then}
use Rattle.pair_rules.proofs.Basics.{get_or-set_same, get_or-set_other}
use Rattle.exchange_rules.proofs.Entering.{relinked, known_links}
use Rattle.exchange_rules.proofs.SteppingEntries.{anew-link}
use Rattle.pair_moves.specs.Ends as ends
use Rattle.pair_moves.specs.Moves as moves
use Rattle.pair_rules.proofs.World.{World, heard, is_heard, end_of}
use Rattle.pair_rules.proofs.Good.{IsSilent}
use Rattle.pair_rules.proofs.Going.{Goes, goes-both, goes-none, goes-one, goes-same}
use Rattle.neighbour_rules.proofs.Counted.{IsBase, counts_of}
use Rattle.neighbour_rules.proofs.World.{code_of, line_of, reading, route_of, says_of, shown, shown_by}
use Rattle.neighbour_rules.proofs.Good.{Good, IsOpen, Joint, Passes, at, passes-both, passes-none, set}
use Rattle.neighbour_rules.proofs.Lines.{at-line, becomes, own-line}
use Rattle.neighbour_rules.proofs.Entries.{all-ways, anew-open, end_with}
use Rattle.neighbour_rules.proofs.Turns.{IsEntry, PassesBy, by-both, first-route, last-route, route, route_at}
use Rattle.neighbour_rules.proofs.Declaring.{take-turn, take-turn-elsewhere}
use Rattle.neighbour_rules.proofs.Falling.{holds-alike}
use Rattle.neighbour_rules.proofs.Unseen.{own, unseen-passes}

-- another state of the links, and of what is known of routes
abbrev moved_parts : Parts → List Link → List (List Route) → ToldTable → Running → Parts
moved_parts p links routes told timers = record p { links = links; routes = routes; told = told; timers = timers }

-- ---- the links lose their flows in their order, and neither links nor routes change

module _ (c : Configuration) (link : ℕ) (p : Parts) (first : Node WholeQueues) where
  abbrev pub back : (many : ℕ) → Node WholeQueues
  back many = take_back_each whole c (facts c p) (facts c first.parts) link many first

  back-alike : (many : ℕ) → IsAlike whole c (back many) first
  back-alike many = take_back_each-alike whole c (facts c p) (facts c first.parts) link many first

  facts-after : (many : ℕ) → facts c (back many).parts ≡ facts c first.parts
  facts-after many =
      ap (λ (links : List Link). facts c (record (back many).parts { links = links })) (back-alike many).links
      ∙ ap (λ (routes : List (List Route)). facts c (record (back many).parts { links = first.parts.links; routes = routes })) (back-alike many).routes

module _ (c z : Configuration) (j : Joint c z) where
  abbrev read : Message → Saying
  read = says_of c.own z.own j.base.there

  abbrev pub shown_at : World → Pair
  shown_at w = shown c z (set c z j) j.shares.far_set j.base w

  abbrev pub shown_with : (Flow → Option ℕ) → World → Pair
  shown_with routes w = shown_by c z (set c z j) j.shares.far_set j.base routes w

  -- the lines of flows by what is known of routes
  abbrev pub route_by : Facts → Flow → Option ℕ
  route_by f flow =
      if nat_eq flow.point j.base.there && nat_lt flow.sls SELECTIONS
      then option_map (code_of c) (option_and_then (λ place. chosen_link f place flow.sls) (destination_place c flow.point)) else None

  abbrev pub with_holds : Pair → (ends.Procedure → Flow → Bool) → Pair
  with_holds p holds = record p { near = record p.near { holds = holds } }

  -- ---- a link of the two entered

  module _ (w : World) (arrived : List Message) (link : ℕ) (p : Parts) (first : Node WholeQueues) (i : IsEntry c link p first.parts) (its : set_of c link ≡ set c z j) where
    abbrev mid : Node WholeQueues → World
    mid n = at c z j w n arrived []

    abbrev by_turn : (many : ℕ) → Flow → Option ℕ
    by_turn many = route c z j link p first i many

    turns : (many : ℕ) → PassesBy c z j (by_turn 0) (by_turn many) (mid first) (mid (back c link p first many))
    unfolding take_back_each
    turns zero = record { goes = λ g. goes-none (reading c.own z.own j.base) (shown_with (by_turn 0) (mid first)); good = λ g. g }
    turns (suc other) =
        by-both c z j (by_turn 0) (by_turn other) (by_turn (suc other)) (mid first) (mid (back c link p first other)) (mid (back c link p first (suc other))) (turns other)
        (take-turn c z j w arrived link p first i its other (back c link p first other) (loses_flows c (facts c p) (facts c first.parts) other link) (back-alike c link p first other) refl)

    in-the-end : shown_with (by_turn (length c.links)) (mid (back c link p first (length c.links))) ≡ shown_at (mid (back c link p first (length c.links)))
    in-the-end =
        let same : by_turn (length c.links) ≡ route_of c j.base.there (set c z j) (back c link p first (length c.links)).parts =
        fun_ext (λ (flow : Flow). last-route c z j p first.parts flow ∙ sym (ap (λ (f : Facts). route_by f flow) (facts-after c link p first (length c.links)))) in
        ap (λ (r : Flow → Option ℕ). shown_with r (mid (back c link p first (length c.links)))) same

    -- all of them
    all-turn : PassesBy c z j (by_turn 0) (route_of c j.base.there (set c z j) (back c link p first (length c.links)).parts) (mid first) (mid (back c link p first (length c.links)))
    all-turn = record {
      goes = λ g.
          goes-both (reading c.own z.own j.base) (shown_with (by_turn 0) (mid first)) (shown_with (by_turn (length c.links)) (mid (back c link p first (length c.links)))) (shown_at (mid (back c link p first (length c.links))))
          ((turns (length c.links)).goes g) (goes-same (reading c.own z.own j.base) _ _ in-the-end);
      good = λ g. (turns (length c.links)).good g;
    }

  -- ---- a link that leads elsewhere entered

  all-turn-elsewhere : (w : World) (arrived : List Message) (link : ℕ) (p : Parts) (first : Node WholeQueues) → IsEntry c link p first.parts → set_of c link ≢ set c z j → (many : ℕ)
      → Passes c z j (at c z j w first arrived []) (at c z j w (back c link p first many) arrived [])
  unfolding take_back_each
  all-turn-elsewhere w arrived link p first i d zero = passes-none c z j (at c z j w first arrived [])
  all-turn-elsewhere w arrived link p first i d (suc other) =
      passes-both c z j _ _ _ (all-turn-elsewhere w arrived link p first i d other)
      (take-turn-elsewhere c z j w arrived link p first i d other (back c link p first other) (loses_flows c (facts c p) (facts c first.parts) other link) (back-alike c link p first other) refl)

  -- ---- a link enters service, and what is known of routes may change

  module _ (w : World) (n : Node WholeQueues) (arrived : List Message) (link : ℕ) (links : List Link) (routes : List (List Route)) (told : ToldTable) (timers : Running) where
    abbrev moved : Node WholeQueues
    moved = with_parts n (moved_parts n.parts links routes told timers)

    abbrev then_at : Node WholeQueues → World
    then_at o = at c z j w o arrived []

    -- the flows that had no link may take it at once
    entering-goes : IsEntry c link n.parts moved.parts → set_of c link ≡ set c z j → Goes (reading c.own z.own j.base) (shown_at (then_at n)) (shown_with (route_at c z j n.parts moved.parts 0) (then_at moved))
    entering-goes i its =
        let k : ℕ = own c z j (code_of c link) in
        let mine : k ≡ link = own-line c j.near_well (set c z j) link i.there its in
        goes-one (reading c.own z.own j.base) _ _
        (moves.enters (record {
          link = code_of c link;
          up = ap (λ (l : ℕ). not (down n.parts l)) mine ∙ ap not i.up;
          heard = ap (λ (l : ℕ). heard n.parts l) mine ∙ i.before;
          route = route_at c z j n.parts moved.parts 0;
          kept = λ flow former e. first-route c z j n.parts moved.parts flow former e;
          lines = line_of c z (set c z j) j.shares.far_set (then_at moved);
          set = becomes c z j (then_at n) moved arrived [] (route_of c j.base.there (set c z j) n.parts) link (record (end_of n k) { up = true; serving = true }) i.there its
              (all-ways n link (down moved.parts link) false (in_service moved.parts link) true (heard moved.parts link) (heard n.parts link) i.still_up i.serves (i.still ∙ sym i.before)
              ∙ ap (λ (l : ℕ). record (end_of n l) { up = true; serving = true }) (sym mine))
              (λ other d. ap (λ (l : Link). end_with n other (is_down l.alignment) (is_in_service l.alignment) (is_heard l.alignment)) (i.others other d));
          after = ap (with_holds (shown_with (route_at c z j n.parts moved.parts 0) (then_at moved))) (holds-alike c z j n.parts moved.parts refl);
        }))

    entering-passes : IsEntry c link n.parts moved.parts → set_of c link ≡ set c z j → (Good c z j (then_at n) → Good c z j (then_at moved))
        → Passes c z j (then_at n) (then_at (change_back whole c link (facts c n.parts) moved))
    entering-passes i its good = record {
      goes = λ g. goes-both (reading c.own z.own j.base) _ _ _ (entering-goes i its) ((all-turn w arrived link n.parts moved i its).goes (good g));
      good = λ g. (all-turn w arrived link n.parts moved i its).good (good g);
    }

    -- unseen, where it leads elsewhere
    moving-aside : StaysFit c n moved → ((other : ℕ) → other ≢ link → link_at moved.parts other ≡ link_at n.parts other) → ((other : ℕ) → down moved.parts other ≡ down n.parts other)
        → (IsOpen c z j n → IsOpen c z j moved) → (((other : ℕ) → IsSilent (link_at n.parts other)) → (other : ℕ) → IsSilent (link_at moved.parts other))
        → link < length c.links → set_of c link ≢ set c z j → Passes c z j (then_at n) (then_at moved)
    moving-aside stay others downs opens silent there d = unseen-passes c z j n moved (record {
      fits = stay;
      queues = refl;
      alignments = λ code. ap (λ (l : Link). l.alignment) (others (own c z j code) (λ same. d (at-line c j.near_well (set c z j) link code there same).of_set));
      untested = λ code. ap (λ (l : Link). l.untested) (others (own c z j code) (λ same. d (at-line c j.near_well (set c z j) link code there same).of_set));
      standings = λ code. refl;
      holds = λ procedure sls. refl;
      codes = λ code. refl;
      lost = refl;
      late = refl;
      route = opens;
      settled = λ h other up. h other (sym (downs other) ∙ up);
      silent = silent;
    }) w arrived []

  -- ---- a link changes, and is up as before

  module _ (w : World) (n : Node WholeQueues) (arrived : List Message) (link : ℕ) (x : Link) (r : Running) (inside : link < length n.parts.links) (up : down n.parts link ≡ false)
      (still_up : is_down x.alignment ≡ false) where
    abbrev changed : Parts
    changed = relinked link x r n.parts

    abbrev now : Node WholeQueues → World
    now o = at c z j w o arrived []

    -- what is known over its set may be reset
    abbrev anew : (again : Bool) → Parts
    anew again = begun_anew_if again c link changed

    changed-at : link_at changed link ≡ x
    changed-at = get_or-set_same n.parts.links link x down_link inside

    changed-other : (other : ℕ) → other ≢ link → link_at changed other ≡ link_at n.parts other
    changed-other other d = get_or-set_other n.parts.links link other x down_link d

    pub changed-down : (other : ℕ) → down changed other ≡ down n.parts other
    changed-down other =
        ⊎_elim
        (λ (same : other ≡ link).
        subst (λ (k : ℕ). down changed k ≡ down n.parts k) (sym same)
        (ap (λ (l : Link). is_down l.alignment) changed-at ∙ still_up ∙ sym up))
        (λ (d : other ≢ link). ap (λ (l : Link). is_down l.alignment) (changed-other other d))
        (cases_eq other link)

    still-open : (again : Bool) → IsOpen c z j n → IsOpen c z j (with_parts n (anew again))
    still-open again o = record {
      beyond = anew-open again c link (set c z j) j.destination changed o.beyond;
      between = anew-open again c link (set c z j) j.adjacent changed o.between;
    }

    anew-other : (again : Bool) (other : ℕ) → other ≢ link → link_at (anew again) other ≡ link_at n.parts other
    anew-other again other d = anew-link again c link other changed ∙ changed-other other d

    anew-at : (again : Bool) → link_at (anew again) link ≡ x
    anew-at again = anew-link again c link link changed ∙ changed-at

    anew-down : (again : Bool) (other : ℕ) → down (anew again) other ≡ down n.parts other
    anew-down again other = ap (λ (l : Link). is_down l.alignment) (anew-link again c link other changed) ∙ changed-down other

    anew-silent : (again : Bool) → ((other : ℕ) → IsSilent (link_at n.parts other)) → (other : ℕ) → IsSilent (link_at (anew again) other)
    anew-silent again h other =
        subst (λ (l : Link). IsSilent l) (sym (anew-link again c link other changed))
        (each-set (λ (l : Link). IsSilent l) n.parts.links link other x down_link h
        (λ gone. (let no : true ≡ false = sym gone ∙ still_up in absurd cc)))

    anew-standing : (again : Bool) (other : ℕ) → changeover_of (anew again) other ≡ changeover_of n.parts other
    anew-standing true other = refl
    anew-standing false other = refl

    anew-counted : (again : Bool) → IsBase j.base.near (counts_of n.parts) → IsBase j.base.near (counts_of (anew again))
    anew-counted true h = h
    anew-counted false h = h

    pub anew-good : (again : Bool) → StaysFit c n (with_parts n (anew again)) → Good c z j (now n) → Good c z j (now (with_parts n (anew again)))
    anew-good again fits g = record {
      fits = fits.stay g.fits;
      route = still-open again g.route;
      settled = λ other up. anew-standing again other ∙ g.settled other (sym (anew-down again other) ∙ up);
      silent = anew-silent again g.silent;
      queued = g.queued;
      elsewhere = g.elsewhere;
      held = g.held;
      loose = g.loose;
      arrived = g.arrived;
      coming = g.coming;
      counted = anew-counted again g.counted;
    }

    -- ---- where it leads elsewhere, whether or not it begins to carry traffic

    pub changing-aside : (again : Bool) → StaysFit c n (with_parts n (anew again)) → link < length c.links → set_of c link ≢ set c z j → Passes c z j (now n) (now (with_parts n (anew again)))
    changing-aside true fits =
        moving-aside w n arrived link (anew true).links (anew true).routes (anew true).told (anew true).timers
        fits (anew-other true) (anew-down true) (still-open true) (anew-silent true)
    changing-aside false fits =
        moving-aside w n arrived link changed.links changed.routes changed.told changed.timers
        fits (anew-other false) (anew-down false) (still-open false) (anew-silent false)

    -- ---- in service it begins to carry traffic, and what is known over its set may be reset

    module _ (unserved : in_traffic n.parts link ≡ false) (serves : is_in_service x.alignment ≡ true) (before : heard n.parts link ≡ true) (still : is_heard x.alignment ≡ true) where
      entry : (again : Bool) → (again ≡ true → has_other c link n.parts ≡ false) → link < length c.links → IsEntry c link n.parts (anew again)
      entry again alone there = record {
        known = record { known = λ destination sls. known_links c link x r n.parts again unserved alone destination sls };
        there = there;
        up = up;
        still_up = ap (λ (l : Link). is_down l.alignment) (anew-at again) ∙ still_up;
        unserved = unserved;
        serves = ap (λ (l : Link). is_in_service l.alignment) (anew-at again) ∙ serves;
        before = before;
        still = ap (λ (l : Link). is_heard l.alignment) (anew-at again) ∙ still;
        others = anew-other again;
      }

      abbrev returned : (again : Bool) → Node WholeQueues
      returned again = change_back whole c link (facts c n.parts) (with_parts n (anew again))

      entered-by : (again : Bool) → StaysFit c n (with_parts n (anew again)) → (again ≡ true → has_other c link n.parts ≡ false) → link < length c.links → set_of c link ≡ set c z j
          → Passes c z j (now n) (now (returned again))
      entered-by true fits alone there its =
          entering-passes w n arrived link (anew true).links (anew true).routes (anew true).told (anew true).timers
          (entry true alone there) its (anew-good true fits)
      entered-by false fits alone there its = entering-passes w n arrived link changed.links changed.routes changed.told changed.timers (entry false alone there) its (anew-good false fits)

      entered-elsewhere : (again : Bool) → StaysFit c n (with_parts n (anew again)) → (again ≡ true → has_other c link n.parts ≡ false) → link < length c.links → set_of c link ≢ set c z j
          → Passes c z j (now n) (now (returned again))
      entered-elsewhere again fits alone there d =
          passes-both c z j _ _ _ (changing-aside again fits there d)
          (all-turn-elsewhere w arrived link n.parts (with_parts n (anew again)) (entry again alone there) d (length c.links))

      pub returning-passes : (again : Bool) → StaysFit c n (with_parts n (anew again)) → (again ≡ true → has_other c link n.parts ≡ false) → link < length c.links
          → Passes c z j (now n) (now (returned again))
      returning-passes again fits alone there =
          ⊎_elim
          (λ (its : set_of c link ≡ set c z j). entered-by again fits alone there its)
          (λ (d : set_of c link ≢ set c z j). entered-elsewhere again fits alone there d)
          (cases_eq (set_of c link) (set c z j))
