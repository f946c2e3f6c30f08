-- A changeover is completed: of a link between the two nodes, by the peer's order or its answer; of another link, by
-- anything. By moves.
use Rattle.pair_rules.proofs.Basics.{append-nil, filter, ◌≡◌, ◌≢◌, ◌<◌, ◌&&◌, ℕ, Bool, true, false, not, List, [], ◌∷◌, ◌++◌, length, Option, Some, None, refl, ap, sym, subst, ◌∙◌, nat_eq, nat_lt, drop, if◌then◌else◌, is_some, slice_set, slice_index_or, ⊎_elim, cases_eq}
use Rattle.pair_rules.proofs.Definitions.{link_at, send_anew, Message, Flow, is_management, Configuration, Running, clear_timer, Link, link_in, is_down, lifted, leaves_others, HoldSet, Queue, emptied, named_count, last_accepted, Standing, no_changeover, standing_at, with_standing, behind, users_of, managements_of, Node, Parts, Found, Route, down, WholeQueues, queue_at, whole, changeover_of, concluded, lose, lose_each, send_each, set_of, Fits, StaysFit, Order, Answer, Pair, Saying, ChangesOnly, with_completion}
use Rattle.signalling_types.specs.declared.cause.Cause.TheVariants.{LostUnconfirmed}
use Rattle.timers.specs.declared.name.TimerName.TheVariants.{T1}
use Rattle.flow_hold.specs.declared.procedure.Procedure.TheVariants as held_by
use Rattle.changeover.specs.Changeover as completion
use Rattle.pair_moves.specs.Ends as ends
use Rattle.pair_moves.specs.Failing as coarse
use Rattle.pair_moves.specs.Moves as moves
use Rattle.pair_moves.specs.Passing.{without_others}
use Rattle.pair_moves.specs.Sayings.{Other}
use Rattle.pair_rules.proofs.World.{World, end_of}
use Rattle.pair_rules.proofs.Good.{IsSilent, Each, each-behind}
use Rattle.pair_rules.proofs.Going.{Goes, goes-both, goes-one, goes-lost, goes-same}
use Rattle.pair_rules.proofs.Lines.{end-by, end_by, queue-here, queue-other, standing-here, standing-other}
use Rattle.pair_rules.proofs.UserLists.{each-drop, each-filter}
use Rattle.neighbour_rules.proofs.Counted.{IsBase, base-lost, beyond-lost, counts_of}
use Rattle.neighbour_rules.proofs.World.{code_of, holds_of, line_of, reading, route_of, says_of, shown}
use Rattle.neighbour_rules.proofs.Good.{Good, IsSent, Joint, Passes, at, passes-both, passes-none, set}
use Rattle.neighbour_rules.proofs.Lines.{at-line, becomes, none-becomes, own-line, standing-settled}
use Rattle.neighbour_rules.proofs.Placing.{other-leaves}
use Rattle.neighbour_rules.proofs.Messages.{send_anew-passes}
use Rattle.neighbour_rules.proofs.Falling.{hold_by, holds-by}
use Rattle.neighbour_rules.proofs.Unseen.{own}
use Rattle.neighbour_rules.proofs.UserLists.{managements-stay, mixing, users-stay}

-- those that pass by aren't among those that stay
others-leave : (read : Message → Saying) (ms more : List Message) → Each (λ m. read m ≡ Other) ms → without_others read (ms ++ more) ≡ without_others read more
others-leave read [] more e = refl
others-leave read (m ∷ ms) more e = other-leaves read m (ms ++ more) e.0 ∙ others-leave read ms more e.1

module _ (c z : Configuration) (j : Joint c z) where
  abbrev read : Message → Saying
  read = says_of c.own z.own j.base.there

  -- of what comes back
  abbrev heard : Message → Saying
  heard = says_of c.own z.own j.base.back

  abbrev Sent : Message → Type 0
  Sent m = IsSent c z j.base.there (set c z j) m

  -- ---- a changeover is complete

  -- the node then: the messages after a count have left the link, and its changeover holds nothing any more
  abbrev pub finished : (link count : ℕ) → Standing → Running → Node WholeQueues → Node WholeQueues
  finished link count s t n = record {
    queues = record {
      held = users_of (drop count (queue_at n.queues link).all) ++ n.queues.held;
      links = slice_set n.queues.links link (emptied (queue_at n.queues link));
    };
    parts = record n.parts {
      changeovers = with_standing n.parts.changeovers link s;
      holds = lifted n.parts.holds (held_by.Changeover link);
      timers = t;
    };
  }

  -- other procedures hold what they held
  pub others-hold : (h : HoldSet) (link : ℕ) (procedure : ends.Procedure) (sls : ℕ) → ((code : ℕ) → procedure ≡ ends.Changeover code → own c z j code ≢ link)
      → hold_by c z j (lifted h (held_by.Changeover link)) procedure sls ≡ hold_by c z j h procedure sls
  others-hold h link (ends.Changeover code) sls d =
      leaves_others h (held_by.Changeover link) (held_by.Changeover (own c z j code)) j.destination sls (λ e. d code refl (let same : own c z j code ≡ link = cc in same))
  others-hold h link (ends.Code code) sls d = leaves_others h (held_by.Changeover link) (held_by.Code (set c z j) code) j.destination sls (λ e. absurd cc)
  others-hold h link (ends.Time code) sls d = leaves_others h (held_by.Changeover link) (held_by.Time (own c z j code)) j.destination sls (λ e. absurd cc)

  module _ (w : World) (n : Node WholeQueues) (link count : ℕ) (s : Standing) (t : Running) where
    abbrev done : Node WholeQueues
    done = finished link count s t n

    abbrev moved : List Message
    moved = drop count (queue_at n.queues link).all

    abbrev anew : List Message
    anew = managements_of moved

    done-other : (other : ℕ) → other ≢ link → end_of done other ≡ end_of n other
    done-other other d =
        end-by c z n done other (queue_at n.queues other) (link_at n.parts other) (changeover_of n.parts other)
        (queue-other c z n.queues link other (emptied (queue_at n.queues link)) d) refl (standing-other c z n.parts link other s d)

    done-settled : (changeover_of n.parts link).incomplete ≡ true → ((other : ℕ) → down n.parts other ≡ false → changeover_of n.parts other ≡ no_changeover)
        → (other : ℕ) → down n.parts other ≡ false → changeover_of done.parts other ≡ no_changeover
    done-settled incomplete h other up = standing-settled c z n.parts link s incomplete h other up

    -- the emptied queue is the only one that changes
    done-each : (P : Message → Type 0) → Fits c n → link < length c.links → (other : ℕ) → Each P (queue_at n.queues other).all → Each P (queue_at done.queues other).all
    done-each P f l other each =
        ⊎_elim
        (λ (same : other ≡ link).
        subst (λ (k : ℕ). Each P (queue_at done.queues k).all) (sym same)
        (subst (λ (q : Queue). Each P q.all) (sym (queue-here c z n link (emptied (queue_at n.queues link)) f l)) tt))
        (λ (d : other ≢ link). subst (λ (q : Queue). Each P q.all) (sym (queue-other c z n.queues link other (emptied (queue_at n.queues link)) d)) each)
        (cases_eq other link)

    moved-each : (P : Message → Type 0) (pick : Message → Bool) → Each P (queue_at n.queues link).all → Each P (filter pick moved)
    moved-each P pick each = each-filter P pick moved (each-drop P count (queue_at n.queues link).all each)

    done-held : Each Sent (queue_at n.queues link).all → Each Sent n.queues.held → Each Sent done.queues.held
    done-held each held = each-behind Sent (users_of moved) n.queues.held (moved-each Sent (λ m. not (is_management m)) each) held

    done-good : (arrived rest before next : List Message) → StaysFit c n done → Each (IsSent z c j.base.back j.shares.far_set) rest → Each Sent next → (changeover_of n.parts link).incomplete ≡ true
        → link < length c.links → Good c z j (at c z j w n arrived before) → Good c z j (at c z j w done rest next)
    done-good arrived rest before next stay r m incomplete l g = record {
      fits = stay.stay g.fits;
      route = g.route;
      settled = done-settled incomplete g.settled;
      silent = g.silent;
      queued = λ other. done-each Sent g.fits l other (g.queued other);
      elsewhere = λ other d. done-each (λ x. read x ≡ Other) g.fits l other (g.elsewhere other d);
      held = done-held (g.queued link) g.held;
      loose = m;
      arrived = r;
      coming = g.coming;
      counted = g.counted;
    }

    -- ---- of a link between the two

    lifts : link < length c.links → ChangesOnly (holds_of c j.base.there (set c z j) n.parts) (ends.Changeover (code_of c link)) (holds_of c j.base.there (set c z j) done.parts)
    lifts l procedure flow d =
        holds-by c z j done.parts procedure flow
        ∙ ap (λ (b : Bool). nat_eq flow.point j.base.there && b)
        (others-hold n.parts.holds link procedure flow.sls (λ code e same. d (e ∙ ap ends.Changeover (sym (at-line c j.near_well (set c z j) link code l same).its_code))))
        ∙ sym (holds-by c z j n.parts procedure flow)

    done-here : Fits c n → link < length c.links → set_of c link ≡ set c z j → s.incomplete ≡ false → (arrived loose : List Message)
        → end_of done link ≡ (with_completion (line_of c z (set c z j) j.shares.far_set (at c z j w n arrived loose) (code_of c link)) s.awaited).near
    done-here f l its i arrived loose =
        end-by c z n done link (emptied (queue_at n.queues link)) (link_at n.parts link) s (queue-here c z n link (emptied (queue_at n.queues link)) f l) refl
        (standing-here c z n.parts link s (subst (λ (k : ℕ). link < k) (sym f.places.parts.changeovers) l))
        ∙ ap (λ (b : Bool). end_by c z (emptied (queue_at n.queues link)) (link_at n.parts link) (record s { incomplete = b })) i
        ∙ ap (λ (k : ℕ). record (end_of n k) { queue = emptied (queue_at n.queues k); incomplete = false; awaited = s.awaited }) (sym (own-line c j.near_well (set c z j) link l its))

    -- the lists that the moves name are these, but for messages that pass by
    abbrev as_moved : Pair → (held loose : List Message) → Pair
    as_moved p held loose = record p { near = record p.near { held = held; loose = loose } }

    relisted : (p : Pair) (k : ℕ) → k ≡ link → (more : List Message)
        → Goes (reading c.own z.own j.base) (as_moved p (coarse.users_of read (drop count (queue_at n.queues k).all) ++ n.queues.held) (coarse.managements_of read (drop count (queue_at n.queues k).all) ++ more))
        (as_moved p (users_of moved ++ n.queues.held) (anew ++ more))
    relisted p k mine more =
        mixing c.own z.own j.base (as_moved p (coarse.users_of read (drop count (queue_at n.queues k).all) ++ n.queues.held) (coarse.managements_of read (drop count (queue_at n.queues k).all) ++ more))
        (users_of moved ++ n.queues.held) (anew ++ more)
        (users-stay c.own z.own j.base moved n.queues.held
        ∙ ap (λ (x : ℕ). without_others read (coarse.users_of read (drop count (queue_at n.queues x).all) ++ n.queues.held)) (sym mine))
        (managements-stay c.own z.own j.base moved more
        ∙ ap (λ (x : ℕ). without_others read (coarse.managements_of read (drop count (queue_at n.queues x).all) ++ more)) (sym mine))

    -- an order completes it, and is answered
    completing : (m : Message) (rest : List Message) (number : ℕ) (reply : Message) → set_of c link ≡ set c z j → heard m ≡ Order (code_of c link) number → link < length c.links
        → (changeover_of n.parts link).incomplete ≡ true → s.incomplete ≡ false → s.awaited ≡ (changeover_of n.parts link).awaited → named_count (queue_at n.queues link) number ≡ Some count
        → read reply ≡ Answer (code_of c link) (last_accepted (queue_at n.queues link)) → Sent reply → StaysFit c n done
        → Passes c z j (at c z j w n (m ∷ rest) []) (at c z j w done rest (anew ++ reply ∷ []))
    completing m rest number reply its says l incomplete complete same named answers sent stay = record {
      goes = λ g.
          let k : ℕ = own c z j (code_of c link) in
          let mine : k ≡ link = own-line c j.near_well (set c z j) link l its in
          let before : Pair = shown c z (set c z j) j.shares.far_set j.base (at c z j w n (m ∷ rest) []) in
          let after : Pair = shown c z (set c z j) j.shares.far_set j.base (at c z j w done rest (anew ++ reply ∷ [])) in
          let between : Pair = as_moved after (coarse.users_of read (drop count (queue_at n.queues k).all) ++ n.queues.held)
          (coarse.managements_of read (drop count (queue_at n.queues k).all) ++ reply ∷ []) in
          goes-both (reading c.own z.own j.base) before between after
          (goes-one (reading c.own z.own j.base) before between
          (moves.completes_by_order (record {
            link = code_of c link;
            number = number;
            heard = record { message = m; rest = rest; first = refl; says = says };
            incomplete = ap (λ (x : ℕ). (changeover_of n.parts x).incomplete) mine ∙ incomplete;
            count = count;
            named = ap (λ (x : ℕ). named_count (queue_at n.queues x) number) mine ∙ named;
            answer = reply;
            answers = answers ∙ ap (λ (x : ℕ). Answer (code_of c link) (last_accepted (queue_at n.queues x))) (sym mine);
            holds = holds_of c j.base.there (set c z j) done.parts;
            lifted = lifts l;
            lines = line_of c z (set c z j) j.shares.far_set (at c z j w done rest (anew ++ reply ∷ []));
            set = becomes c z j (at c z j w n (m ∷ rest) []) done rest (anew ++ reply ∷ []) (route_of c j.base.there (set c z j) n.parts) link
                (with_completion (line_of c z (set c z j) j.shares.far_set (at c z j w n (m ∷ rest) []) (code_of c link)) (changeover_of n.parts k).awaited).near l its
                (done-here g.fits l its complete (m ∷ rest) []
                ∙ ap (λ (b : Bool). (with_completion (line_of c z (set c z j) j.shares.far_set (at c z j w n (m ∷ rest) []) (code_of c link)) b).near)
                (same ∙ ap (λ (x : ℕ). (changeover_of n.parts x).awaited) (sym mine)))
                done-other;
            after = refl;
          })))
          (relisted after k mine (reply ∷ []));
      good = λ g.
          done-good (m ∷ rest) rest [] (anew ++ reply ∷ []) stay g.arrived.1
          (each-behind Sent anew (reply ∷ []) (moved-each Sent is_management (g.queued link)) (sent, tt))
          incomplete l g;
    }

    -- so does an answer
    ending : (m : Message) (rest : List Message) (number : ℕ) → set_of c link ≡ set c z j → heard m ≡ Answer (code_of c link) number → link < length c.links
        → (changeover_of n.parts link).incomplete ≡ true → (changeover_of n.parts link).awaited ≡ true → s.incomplete ≡ false → s.awaited ≡ false
        → named_count (queue_at n.queues link) number ≡ Some count → StaysFit c n done
        → Passes c z j (at c z j w n (m ∷ rest) []) (at c z j w done rest (anew ++ []))
    ending m rest number its says l incomplete awaited complete over named stay = record {
      goes = λ g.
          let k : ℕ = own c z j (code_of c link) in
          let mine : k ≡ link = own-line c j.near_well (set c z j) link l its in
          let before : Pair = shown c z (set c z j) j.shares.far_set j.base (at c z j w n (m ∷ rest) []) in
          let after : Pair = shown c z (set c z j) j.shares.far_set j.base (at c z j w done rest (anew ++ [])) in
          let between : Pair = as_moved after (coarse.users_of read (drop count (queue_at n.queues k).all) ++ n.queues.held)
          (coarse.managements_of read (drop count (queue_at n.queues k).all) ++ []) in
          goes-both (reading c.own z.own j.base) before between after
          (goes-one (reading c.own z.own j.base) before between
          (moves.completes_by_answer (record {
            link = code_of c link;
            number = number;
            heard = record { message = m; rest = rest; first = refl; says = says };
            awaited = ap (λ (x : ℕ). (changeover_of n.parts x).awaited) mine ∙ awaited;
            incomplete = ap (λ (x : ℕ). (changeover_of n.parts x).incomplete) mine ∙ incomplete;
            count = count;
            named = ap (λ (x : ℕ). named_count (queue_at n.queues x) number) mine ∙ named;
            holds = holds_of c j.base.there (set c z j) done.parts;
            lifted = lifts l;
            lines = line_of c z (set c z j) j.shares.far_set (at c z j w done rest (anew ++ []));
            set = becomes c z j (at c z j w n (m ∷ rest) []) done rest (anew ++ []) (route_of c j.base.there (set c z j) n.parts) link
                (with_completion (line_of c z (set c z j) j.shares.far_set (at c z j w n (m ∷ rest) []) (code_of c link)) false).near l its
                (done-here g.fits l its complete (m ∷ rest) []
                ∙ ap (λ (b : Bool). (with_completion (line_of c z (set c z j) j.shares.far_set (at c z j w n (m ∷ rest) []) (code_of c link)) b).near) over)
                done-other;
            after = ap (λ (ms : List Message). as_moved after (coarse.users_of read (drop count (queue_at n.queues k).all) ++ n.queues.held) ms)
                (append-nil (coarse.managements_of read (drop count (queue_at n.queues k).all)));
          })))
          (relisted after k mine []);
      good = λ g.
          done-good (m ∷ rest) rest [] (anew ++ []) stay g.arrived.1
          (each-behind Sent anew [] (moved-each Sent is_management (g.queued link)) tt)
          incomplete l g;
    }

    -- ---- of a link that leads elsewhere

    finishing-elsewhere : (arrived more : List Message) → set_of c link ≢ set c z j → link < length c.links → (changeover_of n.parts link).incomplete ≡ true → StaysFit c n done
        → Passes c z j (at c z j w n arrived more) (at c z j w done arrived (anew ++ more))
    finishing-elsewhere arrived more d l incomplete stay = record {
      goes = λ g.
          let before : Pair = shown c z (set c z j) j.shares.far_set j.base (at c z j w n arrived more) in
          let between : Pair = as_moved before (users_of moved ++ n.queues.held) (anew ++ more) in
          let after : Pair = shown c z (set c z j) j.shares.far_set j.base (at c z j w done arrived (anew ++ more)) in
          let same : after ≡ between = λ i. record between {
            line = none-becomes c z j (at c z j w n arrived more) done arrived (anew ++ more) link l d done-other i;
            near = record between.near { holds = λ procedure flow. holds-past procedure flow i };
          } in
          goes-both (reading c.own z.own j.base) before between after
          (mixing c.own z.own j.base before (users_of moved ++ n.queues.held) (anew ++ more)
          (others-leave read (users_of moved) n.queues.held (moved-each (λ x. read x ≡ Other) (λ m. not (is_management m)) (g.elsewhere link d)))
          (others-leave read anew more (moved-each (λ x. read x ≡ Other) is_management (g.elsewhere link d))))
          (goes-same (reading c.own z.own j.base) between after (sym same));
      good = λ g.
          done-good arrived arrived more (anew ++ more) stay g.arrived
          (each-behind Sent anew more (moved-each Sent is_management (g.queued link)) g.loose)
          incomplete l g;
    }
      where
        holds-past : (procedure : ends.Procedure) (flow : Flow) → holds_of c j.base.there (set c z j) done.parts procedure flow ≡ holds_of c j.base.there (set c z j) n.parts procedure flow
        holds-past procedure flow =
            holds-by c z j done.parts procedure flow
            ∙ ap (λ (b : Bool). nat_eq flow.point j.base.there && b)
            (others-hold n.parts.holds link procedure flow.sls (λ code e same. d (at-line c j.near_well (set c z j) link code l same).of_set))
            ∙ sym (holds-by c z j n.parts procedure flow)

  -- ---- management queued again goes on

  pub anew-passes : (ms : List Message) (w : World) (n : Node WholeQueues) (arrived more : List Message)
      → Passes c z j (at c z j w n arrived (managements_of ms ++ more)) (at c z j w (send_each whole c (managements_of ms) n) arrived more)
  anew-passes [] w n arrived more = passes-none c z j (at c z j w n arrived more)
  anew-passes (m ∷ ms) w n arrived more = by (is_management m) refl (λ o. anew-passes ms w o arrived more)
    where
      by : (b : Bool) → is_management m ≡ b → ((o : Node WholeQueues) → Passes c z j (at c z j w o arrived (managements_of ms ++ more)) (at c z j w (send_each whole c (managements_of ms) o) arrived more))
          → Passes c z j (at c z j w n arrived ((if b then m ∷ managements_of ms else managements_of ms) ++ more)) (at c z j w (send_each whole c (if b then m ∷ managements_of ms else managements_of ms) n) arrived more)
      by true e rest = passes-both c z j _ _ _ (send_anew-passes c z j w n arrived m (managements_of ms ++ more) e) (rest (send_anew whole c m n))
      by false e rest = rest n

  -- ---- what a completion finds

  abbrev pub found_by : Queue → (number count : Option ℕ) → Found
  found_by q number count = record {
    is_reasonable = is_some count;
    is_wrong = completion.is_unreasonable number count;
    lost = users_of (completion.in_doubt q count);
    queued_anew = managements_of (behind q count);
  }

  -- ---- losses that are noted

  record IsNoted (p q : Parts) : Type 0 where
    links : q.links ≡ p.links
    routes : q.routes ≡ p.routes
    changeovers : q.changeovers ≡ p.changeovers
    counted : IsBase j.base.near (counts_of p) → IsBase j.base.near (counts_of q)

  losses-noted : (ms : List Message) (p : Parts) → IsNoted p (lose_each ms p)
  losses-noted [] p = record { links = refl; routes = refl; changeovers = refl; counted = λ h. h }
  losses-noted (m ∷ ms) p =
      let rest : IsNoted (lose LostUnconfirmed m p) (lose_each ms (lose LostUnconfirmed m p)) = losses-noted ms (lose LostUnconfirmed m p) in
      record {
        links = rest.links;
        routes = rest.routes;
        changeovers = rest.changeovers;
        counted = λ h. rest.counted (base-lost j.base.near (counts_of p) j.grows h);
      }

  module _ (w : World) (n : Node WholeQueues) (link : ℕ) (s : Standing) (t : Running) where
    abbrev q : Queue
    q = queue_at n.queues link

    abbrev ended : Parts
    ended = record n.parts { changeovers = with_standing n.parts.changeovers link s; timers = t }

    -- the node once a completion by this number found this count
    abbrev pub concluded_at : (number count : Option ℕ) → Node WholeQueues
    concluded_at number count = record {
      queues = record { held = users_of (behind q count) ++ n.queues.held; links = slice_set n.queues.links link (emptied q) };
      parts = concluded link (found_by q number count) ended;
    }

    -- it counts what it loses, and the loss that there may be
    abbrev lost_then : Parts
    lost_then = lose_each (users_of (completion.in_doubt q None)) ended

    still-counted : IsBase j.base.near (counts_of n.parts) → IsBase j.base.near (counts_of lost_then)
    still-counted h = (losses-noted (users_of (completion.in_doubt q None)) ended).counted h

    pub concluded-beyond : (number : Option ℕ) → IsBase j.base.near (counts_of n.parts) → nat_lt j.base.near.lost (concluded_at number None).parts.times_lost ≡ true
    concluded-beyond number h = beyond-lost j.base.near (counts_of lost_then) (counts_of (concluded_at number None).parts) j.grows refl (still-counted h)

    pub lost-good : (number : Option ℕ) (arrived rest before next : List Message) → StaysFit c n (concluded_at number None) → (Good c z j (at c z j w n arrived before) → Each (IsSent z c j.base.back j.shares.far_set) rest)
        → (Good c z j (at c z j w n arrived before) → Each Sent next) → (changeover_of n.parts link).incomplete ≡ true → link < length c.links
        → Good c z j (at c z j w n arrived before) → Good c z j (at c z j w (concluded_at number None) rest next)
    lost-good number arrived rest before next stay r m incomplete l g =
        let noted : IsNoted ended lost_then = losses-noted (users_of (completion.in_doubt q None)) ended in
        record {
          fits = stay.stay g.fits;
          route = record {
            beyond = ap (λ (rs : List (List Route)). slice_index_or rs j.destination []) noted.routes ∙ g.route.beyond;
            between = ap (λ (rs : List (List Route)). slice_index_or rs j.adjacent []) noted.routes ∙ g.route.between;
          };
          settled = λ other up.
              ap (λ (xs : List Standing). standing_at xs other) noted.changeovers
              ∙ done-settled w n link q.sent s t incomplete g.settled other (ap (λ (xs : List Link). is_down (link_in xs other).alignment) (sym noted.links) ∙ up);
          silent = subst (λ (xs : List Link). (other : ℕ) → IsSilent (link_in xs other)) (sym noted.links) g.silent;
          queued = λ other. done-each w n link q.sent s t Sent g.fits l other (g.queued other);
          elsewhere = λ other d. done-each w n link q.sent s t (λ x. read x ≡ Other) g.fits l other (g.elsewhere other d);
          held = done-held w n link q.sent s t (g.queued link) g.held;
          loose = m g;
          arrived = r g;
          coming = g.coming;
          counted = base-lost j.base.near (counts_of lost_then) j.grows (still-counted g.counted);
        }

    pub anew-sent : Each Sent q.all → Each Sent (managements_of (behind q None))
    anew-sent each = moved-each w n link q.sent s t Sent is_management each

    -- an order completes the changeover by this count
    pub by_order : (count : Option ℕ) (m : Message) (rest : List Message) (number : ℕ) (reply : Message) → set_of c link ≡ set c z j → named_count q number ≡ count → heard m ≡ Order (code_of c link) number
        → link < length c.links → (changeover_of n.parts link).incomplete ≡ true → s.incomplete ≡ false → s.awaited ≡ (changeover_of n.parts link).awaited
        → read reply ≡ Answer (code_of c link) (last_accepted q) → Sent reply → StaysFit c n (concluded_at (Some number) count)
        → Passes c z j (at c z j w n (m ∷ rest) []) (at c z j w (concluded_at (Some number) count) rest (managements_of (behind q count) ++ reply ∷ []))
    by_order (Some count) m rest number reply its named says l incomplete complete same answers sent stay =
        completing w n link count s (clear_timer (T1 link) t) m rest number reply its says l incomplete complete same named answers sent stay
    by_order None m rest number reply its named says l incomplete complete same answers sent stay = record {
      goes = λ g. goes-lost (reading c.own z.own j.base) _ _ (concluded-beyond (Some number) g.counted);
      good = λ g. lost-good (Some number) (m ∷ rest) rest [] (managements_of (behind q None) ++ reply ∷ []) stay (λ h. h.arrived.1)
          (λ h. each-behind Sent (managements_of (behind q None)) (reply ∷ []) (anew-sent (h.queued link)) (sent, tt))
          incomplete l g;
    }

    -- and an answer does
    pub by_answer : (count : Option ℕ) (m : Message) (rest : List Message) (number : ℕ) → set_of c link ≡ set c z j → named_count q number ≡ count → heard m ≡ Answer (code_of c link) number
        → link < length c.links → (changeover_of n.parts link).incomplete ≡ true → (changeover_of n.parts link).awaited ≡ true → s.incomplete ≡ false → s.awaited ≡ false
        → StaysFit c n (concluded_at (Some number) count) → Passes c z j (at c z j w n (m ∷ rest) []) (at c z j w (concluded_at (Some number) count) rest (managements_of (behind q count) ++ []))
    by_answer (Some count) m rest number its named says l incomplete awaited complete over stay =
        ending w n link count s (clear_timer (T1 link) t) m rest number its says l incomplete awaited complete over named stay
    by_answer None m rest number its named says l incomplete awaited complete over stay = record {
      goes = λ g. goes-lost (reading c.own z.own j.base) _ _ (concluded-beyond (Some number) g.counted);
      good = λ g. lost-good (Some number) (m ∷ rest) rest [] (managements_of (behind q None) ++ []) stay (λ h. h.arrived.1)
          (λ h. each-behind Sent (managements_of (behind q None)) [] (anew-sent (h.queued link)) tt) incomplete l g;
    }

    -- whatever completes that of a link that leads elsewhere
    pub by_any-elsewhere : (number count : Option ℕ) (arrived more : List Message) → set_of c link ≢ set c z j → link < length c.links → (changeover_of n.parts link).incomplete ≡ true
        → StaysFit c n (concluded_at number count) → Passes c z j (at c z j w n arrived more) (at c z j w (concluded_at number count) arrived (managements_of (behind q count) ++ more))
    by_any-elsewhere (Some number) (Some count) arrived more d l incomplete stay = finishing-elsewhere w n link count s (clear_timer (T1 link) t) arrived more d l incomplete stay
    by_any-elsewhere None (Some count) arrived more d l incomplete stay = finishing-elsewhere w n link count s (clear_timer (T1 link) t) arrived more d l incomplete stay
    by_any-elsewhere number None arrived more d l incomplete stay = record {
      goes = λ g. goes-lost (reading c.own z.own j.base) _ _ (concluded-beyond number g.counted);
      good = λ g. lost-good number arrived arrived more (managements_of (behind q None) ++ more) stay (λ h. h.arrived)
          (λ h. each-behind Sent (managements_of (behind q None)) more (anew-sent (h.queued link)) h.loose) incomplete l g;
    }
