-- A link loses its flows to the one that entered service: they are held by a code, whose declaration goes out, or by
-- time. This is by moves if the link that entered is one of the two. If it leads elsewhere, what is held isn't shown,
-- and the declaration passes by.
use Rattle.pair_rules.proofs.Basics.{◌≡◌, ◌≢◌, ◌<◌, ◌&&◌, ℕ, suc, Bool, true, false, List, [], ◌∷◌, length, Option, Some, None, refl, ap, sym, subst, ◌∙◌, nat_lt, arith, if◌then◌else◌, ⊎_elim, fun_ext, ltb-true}
use Rattle.pair_rules.proofs.Definitions.{in_traffic, SELECTIONS, Message, Flow, Configuration, Management, ChangebackDeclaration, Queue, appended, first_queue, with_flows, flows_leave, Procedure, Running, is_outstanding, with_code, Node, Parts, with_parts, in_service, WholeQueues, queue_at, whole, management_to, peer_of, set_of, facts, network_of, code_for, code-fits, declaration, loses_flows, queue_on, Fits, StaysFit, fit-steps, each-set, IsAlike, IsManagement, Saying, Declaration}
use Rattle.changeback.specs.Codes.{codes_of}
use Rattle.exchange_rules.specs.ChangingBack.{code_in_use, time_in_use}
use Rattle.exchange_rules.proofs.Places.{with_flows-fits}
use Rattle.exchange_rules.proofs.SteppingTimers.{set-timed}
use Rattle.timers.specs.declared.name.TimerName.TheVariants as name
use Rattle.flow_hold.specs.declared.procedure.Procedure.TheVariants as held_by
use Rattle.node_links.proofs.Chosen.{chosen_carrying}
use Rattle.exchange_rules.proofs.AwaitedCodes.{codes-there, outstanding-other, outstanding-own}
use Rattle.exchange_rules.proofs.Onward.{link-set}
use Rattle.exchange_rules.proofs.SharingNodes.{shared-peer}
use Rattle.exchange_rules.proofs.TakenBack.{loses-so, taken-so}
use Rattle.exchange_rules.proofs.TakenCodes.{IsUsable, is_usable}
use Rattle.pair_moves.specs.Ends as ends
use Rattle.pair_moves.specs.Moves as moves
use Rattle.pair_rules.proofs.World.{World, end_of}
use Rattle.pair_rules.proofs.Good.{Each, each-behind}
use Rattle.pair_rules.proofs.Going.{goes-one, goes-same}
use Rattle.pair_rules.proofs.Lines.{queue-here, queue-other, served-listed}
use Rattle.pair_rules.proofs.Routes.{and-true, lt-true}
use Rattle.neighbour_rules.proofs.World.{code_of, holds_of, line_of, procedure_of, reading, says_of, shown_by}
use Rattle.neighbour_rules.proofs.Good.{Good, IsMade, IsSent, Joint, Passes, at, declares, made, passes-both, passes-good, passes-none, set}
use Rattle.neighbour_rules.proofs.Lines.{at-line, becomes, own-line}
use Rattle.neighbour_rules.proofs.Made.{adjacent-fits, made-brief, past-other, word-made, word-says}
use Rattle.neighbour_rules.proofs.Messages.{making}
use Rattle.neighbour_rules.proofs.Placing.{leaving}
use Rattle.neighbour_rules.proofs.Failures.{other-peer}
use Rattle.neighbour_rules.proofs.Turns.{IsEntry, Leaves, PassesBy, adds, apart-time, destination-there, given, given-fit, leaver-held, loser-serves, route, serves-still, stays-or-held, test, time-there, turn-of}
use Rattle.neighbour_rules.proofs.Lates.{apart-code, apart-set}
use Rattle.neighbour_rules.proofs.Unseen.{own, unseen-passes}
use Rattle.pair_moves.specs.Sayings.{Other}

module _ (c z : Configuration) (j : Joint c z) where
  abbrev read : Message → Saying
  read = says_of c.own z.own j.base.there

  -- ---- the link that entered is one of the two

  module _ (w : World) (arrived : List Message) (link : ℕ) (p : Parts) (first : Node WholeQueues) (i : IsEntry c link p first.parts) (its : set_of c link ≡ set c z j) where
    abbrev mid : Node WholeQueues → World
    mid n = at c z j w n arrived []

    abbrev by_turn : (many : ℕ) → Flow → Option ℕ
    by_turn many = route c z j link p first i many

    abbrev given_by : Option ℕ → (other : ℕ) → Node WholeQueues → Node WholeQueues
    given_by code other n = given c link p first i code other n

    -- ---- held by time

    by-time : (other : ℕ) (n : Node WholeQueues) → IsAlike whole c n first → loses_flows c (facts c p) (facts c first.parts) other link ≡ true
        → PassesBy c z j (by_turn other) (by_turn (suc other)) (mid n) (mid (given_by None other n))
    by-time other n a e = record {
      goes = λ g.
          let mine : procedure_of c j.base.there (set c z j) (ends.Time (code_of c link)) ≡ held_by.Time link = ap held_by.Time (own-line c j.near_well (set c z j) link i.there its) in
          goes-one (reading c.own z.own j.base) _ _
          (moves.waits_for_time (record {
            former = code_of c other;
            link = code_of c link;
            route = by_turn (suc other);
            holds = holds_of c j.base.there (set c z j) (given_by None other n).parts;
            added = adds c z j link p first i n.parts (given_by None other n).parts (held_by.Time link) (ends.Time (code_of c link)) other refl (λ one d. apart-time c z j link one i.there d);
            leaves = stays-or-held c z j link p first i other (mid n) (ends.Time (code_of c link)) (holds_of c j.base.there (set c z j) (given_by None other n).parts)
                (λ flow l.
                leaver-held c z j link p first i n.parts (given_by None other n).parts (held_by.Time link) (ends.Time (code_of c link)) other flow refl mine l
                (time-there c z j link p first i n g.fits) (destination-there c z j link p first i n g.fits));
            after = refl;
          }));
      good = λ g. record {
        fits = (given-fit c link p first i None other n a e).stay g.fits;
        route = g.route;
        settled = g.settled;
        silent = g.silent;
        queued = g.queued;
        elsewhere = g.elsewhere;
        held = g.held;
        loose = g.loose;
        arrived = g.arrived;
        coming = g.coming;
        counted = g.counted;
      };
    }

    -- ---- held by a code

    abbrev word : (code : ℕ) → Management
    word code = ChangebackDeclaration (code_of c link) code

    fits-word : (code : ℕ) → code < 16 → IsManagement (word code)
    fits-word code few = (code-fits c j.near_well link, omega (arith, few))

    -- the declaration is for the other, and says its code
    for-other : (code : ℕ) → declaration c link code ≡ management_to c z.own (word code)
    for-other code = ap (λ (point : ℕ). management_to c point (word code)) (shared-peer c z j.shares j.near_well link its)

    said : (code : ℕ) → code < 16 → read (declaration c link code) ≡ Declaration code
    said code few = ap read (for-other code) ∙ word-says c z j (word code) (fits-word code few)

    sent : (code : ℕ) → code < 16 → IsSent c z j.base.there (set c z j) (declaration c link code)
    sent code few =
        made (subst (IsMade c z (set c z j)) (sym (for-other code))
        (word-made c z j (word code) (fits-word code few) (declares (code_of c link) code (code-fits c j.near_well link) (omega (arith, few)))))

    -- the set is there, and has 16 codes
    few-codes : (n : Node WholeQueues) (other code : ℕ) → Fits c n → IsUsable c (facts c p) (facts c first.parts) link first other code n → code < 16
    few-codes n other code f u = omega (arith, u.there, f.places.parts.codes.each (set_of c link) (link-set c j.near_well link))

    code-there : (n : Node WholeQueues) (code : ℕ) → Fits c n → code < 16 → (nat_lt (set_of c link) n.parts.holds.sets && nat_lt code 16) ≡ true
    code-there n code f few =
        and-true (nat_lt (set_of c link) n.parts.holds.sets) (nat_lt code 16)
        (lt-true (set_of c link) n.parts.holds.sets (subst (λ (k : ℕ). set_of c link < k) (sym f.places.parts.holds.sets) (link-set c j.near_well link))) (lt-true code 16 few)

    -- the code is awaited from then on
    used-now : (n : Node WholeQueues) (other code : ℕ) → IsUsable c (facts c p) (facts c first.parts) link first other code n
        → is_outstanding (with_code n.parts.codes (set_of c link) code true) (set c z j) code ≡ true
    used-now n other code u =
        ap (λ (k : ℕ). is_outstanding (with_code n.parts.codes (set_of c link) code true) k code) (sym its)
        ∙ outstanding-own n.parts.codes (set_of c link) code (codes-there n.parts.codes (set_of c link) code u.there) u.there

    apart-its : (code : ℕ) (one : ends.Procedure) → one ≢ ends.Code code → procedure_of c j.base.there (set c z j) one ≢ held_by.Code (set_of c link) code
    apart-its code one d e = apart-code c z j code one d (e ∙ ap (λ (k : ℕ). held_by.Code k code) its)

    -- and holds what leaves
    holds-now : (n : Node WholeQueues) (other code : ℕ) → Fits c n → code < 16 → (flow : Flow) → Leaves c z j p first.parts link other flow
        → holds_of c j.base.there (set c z j) (given_by (Some code) other n).parts (ends.Code code) flow ≡ true
    holds-now n other code f few flow l =
        leaver-held c z j link p first i n.parts (given_by (Some code) other n).parts (held_by.Code (set_of c link) code) (ends.Code code) other flow refl
        (ap (λ (k : ℕ). held_by.Code k code) (sym its)) l (code-there n code f few) (destination-there c z j link p first i n f)

    declared-still : (n : Node WholeQueues) (other code : ℕ) → ((k : ℕ) → Each (IsSent c z j.base.there (set c z j)) (queue_at n.queues k).all) → IsSent c z j.base.there (set c z j) (declaration c link code)
        → (k : ℕ) → Each (IsSent c z j.base.there (set c z j)) (queue_at (given_by (Some code) other n).queues k).all
    declared-still n other code each b k =
        each-set (λ (q : Queue). Each (IsSent c z j.base.there (set c z j)) q.all) n.queues.links other k (appended (queue_at n.queues other) (declaration c link code)) first_queue each
        (each-behind (IsSent c z j.base.there (set c z j)) (queue_at n.queues other).all (declaration c link code ∷ []) (each other) (b, tt))

    by-code : (other code : ℕ) (n : Node WholeQueues) → IsAlike whole c n first → loses_flows c (facts c p) (facts c first.parts) other link ≡ true
        → IsUsable c (facts c p) (facts c first.parts) link first other code n
        → PassesBy c z j (by_turn other) (by_turn (suc other)) (mid n) (mid (given_by (Some code) other n))
    by-code other code n a e u = record {
      goes = λ g.
          let q : Queue = appended (queue_at n.queues other) (declaration c link code) in
          let few : code < 16 = few-codes n other code g.fits u in
          let serves : in_service n.parts other ≡ true = loser-serves c link p first i n other a e in
          let l : other < length c.links = served-listed c z n other g.fits serves in
          let mine : own c z j (code_of c other) ≡ other = own-line c j.near_well (set c z j) other l (u.same ∙ its) in
          goes-one (reading c.own z.own j.base) _ _
          (moves.declares (record {
            former = code_of c other;
            serving = ap (λ (k : ℕ). in_service n.parts k) mine ∙ serves;
            code = code;
            free = ap (λ (k : ℕ). is_outstanding n.parts.codes k code) (sym its) ∙ u.free;
            declaration = declaration c link code;
            says = said code few;
            outstanding = λ k. is_outstanding (given_by (Some code) other n).parts.codes (set c z j) k;
            used = used-now n other code u;
            others = λ k apart. outstanding-other n.parts.codes (set_of c link) code (set c z j) k (λ s f. apart f);
            route = by_turn (suc other);
            holds = holds_of c j.base.there (set c z j) (given_by (Some code) other n).parts;
            added = adds c z j link p first i n.parts (given_by (Some code) other n).parts (held_by.Code (set_of c link) code) (ends.Code code) other refl (apart-its code);
            leaves = stays-or-held c z j link p first i other (mid n) (ends.Code code) (holds_of c j.base.there (set c z j) (given_by (Some code) other n).parts) (holds-now n other code g.fits few);
            lines = line_of c z (set c z j) j.shares.far_set (mid (given_by (Some code) other n));
            set = becomes c z j (mid n) (given_by (Some code) other n) arrived [] (by_turn other) other
                (record (end_of n (own c z j (code_of c other))) { queue = appended (queue_at n.queues (own c z j (code_of c other))) (declaration c link code) }) l (u.same ∙ its)
                (ap (λ (x : Queue). record (end_of n other) { queue = x }) (queue-here c z n other q g.fits l)
                ∙ ap (λ (k : ℕ). record (end_of n k) { queue = appended (queue_at n.queues k) (declaration c link code) }) (sym mine))
                (λ k d. ap (λ (x : Queue). record (end_of n k) { queue = x }) (queue-other c z n.queues other k q d));
            after = refl;
          }));
      good = λ g.
          let few : code < 16 = few-codes n other code g.fits u in
          record {
            fits = (given-fit c link p first i (Some code) other n a e).stay g.fits;
            route = g.route;
            settled = g.settled;
            silent = g.silent;
            queued = declared-still n other code g.queued (sent code few);
            elsewhere = λ k apart.
                subst (λ (x : Queue). Each (λ m. read m ≡ Other) x.all)
                (sym (queue-other c z n.queues other k (appended (queue_at n.queues other) (declaration c link code)) (λ same. apart (ap (set_of c) same ∙ u.same ∙ its))))
                (g.elsewhere k apart);
            held = g.held;
            loose = g.loose;
            arrived = g.arrived;
            coming = g.coming;
            counted = g.counted;
          };
    }

    -- ---- a link's turn

    -- no flow leaves a link that loses none
    none-leaves : (other : ℕ) → loses_flows c (facts c p) (facts c first.parts) other link ≡ false → (flow : Flow) → Leaves c z j p first.parts link other flow → ⊥
    none-leaves other e flow l =
        let carried : in_traffic p other ≡ true = chosen_carrying (network_of c p) j.destination flow.sls other l.was in
        let apart : other ≢ link = λ same. differs (sym i.unserved ∙ subst (λ (k : ℕ). in_traffic p k ≡ true) same carried) in
        differs (sym e
        ∙ loses-so c (facts c p) (facts c first.parts) other link j.destination flow.sls apart j.there (ltb-true flow.sls SELECTIONS l.selection)
        (taken-so (facts c p) (facts c first.parts) other link j.destination flow.sls l.was l.takes))
      where
        differs : false ≡ true → ⊥
        differs h = absurd cc

    unmoved : (other : ℕ) (n : Node WholeQueues) → loses_flows c (facts c p) (facts c first.parts) other link ≡ false → PassesBy c z j (by_turn other) (by_turn (suc other)) (mid n) (mid n)
    unmoved other n e = record {
      goes = λ g.
          let stay : by_turn other ≡ by_turn (suc other) =
          fun_ext (λ (flow : Flow). ⊎_elim
          (λ (same : by_turn (suc other) flow ≡ by_turn other flow). sym same)
          (λ (l : Leaves c z j p first.parts link other flow). absurd (none-leaves other e flow l))
          (turn-of c z j p first.parts link other flow i.known)) in
          goes-same (reading c.own z.own j.base) _ _ (ap (λ (r : Flow → Option ℕ). shown_by c z (set c z j) j.shares.far_set j.base r (mid n)) stay);
      good = λ g. g;
    }

    pub take-turn : (other : ℕ) (n : Node WholeQueues) (b : Bool) → IsAlike whole c n first → loses_flows c (facts c p) (facts c first.parts) other link ≡ b
        → PassesBy c z j (by_turn other) (by_turn (suc other)) (mid n) (mid (if b then given_by (code_for whole c link other n) other n else n))
    take-turn other n true a e = by (code_for whole c link other n) refl
      where
        by : (code : Option ℕ) → code_for whole c link other n ≡ code → PassesBy c z j (by_turn other) (by_turn (suc other)) (mid n) (mid (given_by code other n))
        by (Some code) f = by-code other code n a e (is_usable c (facts c p) (facts c first.parts) link first other code n f)
        by None f = by-time other n a e
    take-turn other n false a e = unmoved other n e

  -- ---- the link that entered leads elsewhere

  module _ (w : World) (arrived : List Message) (link : ℕ) (p : Parts) (first : Node WholeQueues) (i : IsEntry c link p first.parts) (d : set_of c link ≢ set c z j) where
    abbrev its_mid : Node WholeQueues → World
    its_mid n = at c z j w n arrived []

    abbrev its_given : Option ℕ → (other : ℕ) → Node WholeQueues → Node WholeQueues
    its_given code other n = given c link p first i code other n

    -- neither its time nor a code of its set is shown
    time-aside : (one : ends.Procedure) → procedure_of c j.base.there (set c z j) one ≢ held_by.Time link
    time-aside (ends.Changeover k) e = absurd cc
    time-aside (ends.Code code) e = absurd cc
    time-aside (ends.Time k) e =
        let same : own c z j k ≡ link = cc in
        d (at-line c j.near_well (set c z j) link k i.there same).of_set

    -- holds begin that aren't shown
    holding-aside : (n : Node WholeQueues) (procedure : Procedure) (timers : Running) (test : (destination sls : ℕ) → Bool) → ((one : ends.Procedure) → procedure_of c j.base.there (set c z j) one ≢ procedure)
        → StaysFit c n (with_parts n (record n.parts { holds = with_flows n.parts.holds procedure test; timers = timers }))
        → Passes c z j (its_mid n) (its_mid (with_parts n (record n.parts { holds = with_flows n.parts.holds procedure test; timers = timers })))
    holding-aside n procedure timers test aside stay = unseen-passes c z j n _ (record {
      fits = stay;
      queues = refl;
      alignments = λ code. refl;
      untested = λ code. refl;
      standings = λ code. refl;
      holds = λ one sls. flows_leave n.parts.holds procedure (procedure_of c j.base.there (set c z j) one) test j.destination sls (aside one);
      codes = λ code. refl;
      lost = refl;
      late = refl;
      route = λ e. e;
      settled = λ h. h;
      silent = λ h. h;
    }) w arrived []

    -- a code of its set is in use
    coding-aside : (n : Node WholeQueues) (code : ℕ) → Passes c z j (its_mid n) (its_mid (with_parts n (code_in_use c (set_of c link) code n.parts)))
    coding-aside n code = unseen-passes c z j n _ (record {
      fits =
          (fit-steps c).both _ _ _ ((fit-steps c).coded (set_of c link) code true n)
          ((fit-steps c).timed _ _ (set-timed (name.T4 (set_of c link) code) c.timers.t4 n.parts.timers (λ l e. cc)));
      queues = refl;
      alignments = λ k. refl;
      untested = λ k. refl;
      standings = λ k. refl;
      holds = λ one sls. refl;
      codes = λ k. outstanding-other n.parts.codes (set_of c link) code (set c z j) k (λ s f. d (sym s));
      lost = refl;
      late = refl;
      route = λ e. e;
      settled = λ h. h;
      silent = λ h. h;
    }) w arrived []

    -- its declaration isn't for the other
    says-past : (code : ℕ) → code < 16 → read (declaration c link code) ≡ Other
    says-past code few =
        past-other c z j (peer_of c link) (ChangebackDeclaration (code_of c link) code) (adjacent-fits c j.near_well (set_of c link)) (code-fits c j.near_well link, omega (arith, few)) (other-peer c z j link d)

    -- it goes out on another link that leads elsewhere
    declaring-aside : (other code : ℕ) (n : Node WholeQueues) → IsAlike whole c n first → loses_flows c (facts c p) (facts c first.parts) other link ≡ true
        → IsUsable c (facts c p) (facts c first.parts) link first other code n → code < 16
        → Passes c z j (its_mid n) (its_mid (its_given (Some code) other n))
    declaring-aside other code n a e u few =
        passes-both c z j _ _ _ (coding-aside n code)
        (passes-both c z j _ _ _ (making c z j w used arrived m [] (says-past code few) (made-brief c z j (peer_of c link) (ChangebackDeclaration (code_of c link) code)))
        (passes-both c z j _ _ _
        (leaving c z j w used arrived other m [] serves (λ same. d (sym u.same ∙ same)) (says-past code few)
        ((fit-steps c).declared link other code used (serves-still c link p first i n link a ∙ i.serves) serves))
        (holding-aside (queue_on whole c other m used) (held_by.Code (set_of c link) code) used.parts.timers (test c link p first i other) (λ one. apart-set c z j (set_of c link) code one d)
        ((fit-steps c).holding _ (queue_on whole c other m used) (record { fits = with_flows-fits c used.parts.holds (held_by.Code (set_of c link) code) (test c link p first i other) })))))
      where
        m : Message
        m = declaration c link code

        used : Node WholeQueues
        used = with_parts n (code_in_use c (set_of c link) code n.parts)

        serves : in_service n.parts other ≡ true
        serves = loser-serves c link p first i n other a e

    pub take-turn-elsewhere : (other : ℕ) (n : Node WholeQueues) (b : Bool) → IsAlike whole c n first → loses_flows c (facts c p) (facts c first.parts) other link ≡ b
        → Passes c z j (its_mid n) (its_mid (if b then its_given (code_for whole c link other n) other n else n))
    take-turn-elsewhere other n true a e = by (code_for whole c link other n) refl
      where
        by : (code : Option ℕ) → code_for whole c link other n ≡ code → Passes c z j (its_mid n) (its_mid (its_given code other n))
        by (Some code) f = passes-good c z j _ _ declared
          where
            u : IsUsable c (facts c p) (facts c first.parts) link first other code n
            u = is_usable c (facts c p) (facts c first.parts) link first other code n f

            declared : Good c z j (its_mid n) → Passes c z j (its_mid n) (its_mid (its_given (Some code) other n))
            declared g =
                declaring-aside other code n a e u
                (let many : length (codes_of n.parts.codes (set_of c link)) ≡ 16 = g.fits.places.parts.codes.each (set_of c link) (link-set c j.near_well link) in omega (arith, u.there, many))
        by None f =
            holding-aside n (held_by.Time link) (time_in_use c link n.parts).timers (test c link p first i other) time-aside (given-fit c link p first i None other n a e)
    take-turn-elsewhere other n false a e = passes-none c z j (its_mid n)
