-- The rules by which a changeover goes on and ends, of a link between the two nodes or of another one: each goes by
-- moves.
use Rattle.pair_rules.proofs.Basics.{⊎_elim, cases_eq, ◌≡◌, ◌≢◌, ◌<◌, ℕ, Bool, true, false, not, List, [], ◌∷◌, length, Option, Some, None, refl, ap, sym, subst, ◌∙◌, if◌then◌else◌, slice_index_or, set-get_or, length-set}
use Rattle.pair_rules.proofs.Definitions.{link_of, send, appended, answer, Handled, Ignored, without_wait, Message, flow_of, Configuration, Management, IsManagement, ExtendedChangeoverAcknowledgement, Running, clear_timer, Queue, emptied, first_queue, named_count, last_accepted, accepted_count, Standing, acknowledged, completed, no_changeover, behind, managements_of, Link, after_failure, down_link, is_down, Node, with_parts, down, in_service, link_at, links_with, WholeQueues, queue_at, whole, begin_by_peer, changeover_of, fail_by_peer, make_unavailable, with_changeover, acknowledge_changeover, changeover_acknowledgement, complete_by_order, complete_if, fail_by_order, on_changeover_order, on_changeover_acknowledgement, send_each, with_changeover_acknowledged, without_tests, Parts, peer_of, set_of, management_to, send_anew, made-management, code-fits, Fits, StaysFit, fit-steps, alike-at, concluded-steps, Order, Answer, Saying, Pair, Flow}
use Rattle.signalling_types.specs.Numbers.{previous_number}
use Rattle.exchange_rules.proofs.SharingNodes.{shared-peer}
use Rattle.exchange_rules.proofs.SteppingFailures.{bar-steps}
use Rattle.exchange_rules.proofs.SteppingTimers.{clear-timed}
use Rattle.exchange_rules.specs.ChangingOver.{bar}
use Rattle.signalling_types.specs.declared.notice.FailureReason.TheVariants as reasons
use Rattle.timers.specs.declared.name.TimerName.TheVariants.{T2}
use Rattle.pair_moves.specs.Ends as ends
use Rattle.pair_moves.specs.Moves as moves
use Rattle.pair_moves.specs.Sayings.{Other}
use Rattle.pair_rules.proofs.World.{World, end_of}
use Rattle.pair_rules.proofs.Good.{previous-fits}
use Rattle.pair_rules.proofs.Going.{goes-one}
use Rattle.pair_rules.proofs.Lines.{end-by, end_by, link-here, standing-here, standing-other}
use Rattle.neighbour_rules.proofs.World.{code_of, line_of, reading, route_of, says_of, shown}
use Rattle.neighbour_rules.proofs.Good.{IsMade, IsSent, Joint, Passes, answers, at, made, passes-both, passes-good, passes-none, set}
use Rattle.neighbour_rules.proofs.Lines.{at-line, becomes, own-line}
use Rattle.neighbour_rules.proofs.Made.{adjacent-fits, made-brief, past-other, word-made, word-says}
use Rattle.neighbour_rules.proofs.Messages.{making, send_routed-passes}
use Rattle.neighbour_rules.proofs.Falling.{holds-alike}
use Rattle.neighbour_rules.proofs.Relinked.{timed-passes}
use Rattle.neighbour_rules.proofs.Unseen.{own, unseen-passes}
use Rattle.neighbour_rules.proofs.Failures.{fail_by_peer-passes, other-peer}
use Rattle.neighbour_rules.proofs.Completions.{anew-passes, by_answer, by_any-elsewhere, by_order, concluded_at, found_by}

module _ (c z : Configuration) (j : Joint c z) where
  abbrev read : Message → Saying
  read = says_of c.own z.own j.base.there

  -- of what comes back
  abbrev heard : Message → Saying
  heard = says_of c.own z.own j.base.back

  -- ---- the answer to an order

  abbrev reply_word : (link number : ℕ) → Management
  reply_word link number = ExtendedChangeoverAcknowledgement (code_of c link) number

  reply-fits : (link : ℕ) (q : Queue) → IsManagement (reply_word link (last_accepted q))
  reply-fits link q = (code-fits c j.near_well link, previous-fits q.received)

  reply-to : (link number : ℕ) → set_of c link ≡ set c z j → changeover_acknowledgement c link number ≡ management_to c z.own (reply_word link number)
  reply-to link number its = ap (λ (point : ℕ). management_to c point (reply_word link number)) (shared-peer c z j.shares j.near_well link its)

  reply-sent : (link : ℕ) (q : Queue) → set_of c link ≡ set c z j → link < length c.links → IsSent c z j.base.there (set c z j) (changeover_acknowledgement c link (last_accepted q))
  reply-sent link q its l =
      made (subst (IsMade c z (set c z j)) (sym (reply-to link (last_accepted q) its))
      (word-made c z j (reply_word link (last_accepted q)) (reply-fits link q) (answers link (last_accepted q) l its)))

  reply-says : (link : ℕ) (q : Queue) → set_of c link ≡ set c z j → read (changeover_acknowledgement c link (last_accepted q)) ≡ Answer (code_of c link) (last_accepted q)
  reply-says link q its = ap read (reply-to link (last_accepted q) its) ∙ word-says c z j (reply_word link (last_accepted q)) (reply-fits link q)

  -- one to another point passes by
  reply-past : (link : ℕ) (q : Queue) → set_of c link ≢ set c z j → says_of c.own z.own j.base.there (changeover_acknowledgement c link (last_accepted q)) ≡ Other
  reply-past link q d = past-other c z j (peer_of c link) (reply_word link (last_accepted q)) (adjacent-fits c j.near_well (set_of c link)) (reply-fits link q) (other-peer c z j link d)

  -- ---- what was received stays

  anew-received : (ms : List Message) (n : Node WholeQueues) (link : ℕ) → (queue_at (send_each whole c ms n).queues link).received ≡ (queue_at n.queues link).received
  anew-received [] n link = refl
  anew-received (m ∷ ms) n link = anew-received ms (send_anew whole c m n) link ∙ one (link_of c n.parts (flow_of m))
    where
      one : (o : Option ℕ) → (queue_at (send whole c None o m n).queues link).received ≡ (queue_at n.queues link).received
      one None = refl
      one (Some other) = alike-at (λ (q : Queue). q.received) n.queues.links other link (appended (queue_at n.queues other) m) first_queue refl

  -- ---- the peer orders a changeover

  untested-links : (last : Bool) (its : ℕ) (p : Parts) → (if last then p else without_tests its p).links ≡ p.links
  untested-links true its p = refl
  untested-links false its p = refl

  peer-links : (served : Bool) (link : ℕ) (n : Node WholeQueues)
      → (begin_by_peer whole c served link (make_unavailable whole c served link reasons.Changeover n)).parts.links ≡ links_with n.parts link (after_failure (link_at n.parts link))
  peer-links true link n = untested-links _ (set_of c link) _
  peer-links false link n = refl

  -- the link is down then
  ordered-down : (b : Bool) (link : ℕ) (n : Node WholeQueues) → down n.parts link ≡ b → link < length c.links → Fits c (if b then n else fail_by_peer whole c link n)
      → down (if b then n else fail_by_peer whole c link n).parts link ≡ true
  ordered-down true link n e l f = e
  ordered-down false link n e l f =
      let is : (fail_by_peer whole c link n).parts.links ≡ links_with n.parts link (after_failure (link_at n.parts link)) = peer-links (in_service n.parts link) link n in
      ap (λ (xs : List Link). is_down (slice_index_or xs link down_link).alignment) is
      ∙ ap (λ (x : Link). is_down x.alignment)
      (link-here c z n.parts link (after_failure (link_at n.parts link))
      (subst (λ (k : ℕ). link < k) (sym f.places.parts.links ∙ ap (λ (xs : List Link). length xs) is ∙ length-set n.parts.links link (after_failure (link_at n.parts link))) l))

  order-fails : (b : Bool) (w : World) (n : Node WholeQueues) (arrived : List Message) (link : ℕ) → down n.parts link ≡ b
      → Passes c z j (at c z j w n arrived []) (at c z j w (if b then n else fail_by_peer whole c link n) arrived [])
  order-fails true w n arrived link e = passes-none c z j (at c z j w n arrived [])
  order-fails false w n arrived link e = fail_by_peer-passes c z j w n arrived link e

  -- and is barred, if its answer is awaited
  pub barring : (w : World) (n : Node WholeQueues) (arrived : List Message) (link : ℕ) → Passes c z j (at c z j w n arrived []) (at c z j w (bar whole c link n) arrived [])
  barring w n arrived link = timed-passes c z j w n arrived [] (bar whole c link n).parts.timers (bar-steps (fit-steps c) link n)

  -- nothing is to be completed
  pub completed-same : (n : Node WholeQueues) (link : ℕ) → (changeover_of n.parts link).incomplete ≡ false → with_parts n (with_changeover link (completed (changeover_of n.parts link)) n.parts) ≡ n
  completed-same n link e =
      ap (λ (b : Bool). with_parts n (with_changeover link (record (changeover_of n.parts link) { incomplete = b }) n.parts)) (sym e)
      ∙ ap (λ (xs : List Standing). with_parts n (record n.parts { changeovers = xs })) (set-get_or n.parts.changeovers link no_changeover)

  replying : (w : World) (n : Node WholeQueues) (m : Message) (rest : List Message) (link number : ℕ) (reply : Message) → set_of c link ≡ set c z j → link < length c.links
      → heard m ≡ Order (code_of c link) number → (Fits c n → down n.parts link ≡ true)
      → (changeover_of n.parts link).incomplete ≡ false → read reply ≡ Answer (code_of c link) (last_accepted (queue_at n.queues link)) → IsSent c z j.base.there (set c z j) reply
      → Passes c z j (at c z j w n (m ∷ rest) []) (at c z j w n rest (reply ∷ []))
  replying w n m rest link number reply its l says gone complete answering sent = record {
    goes = λ g.
        let mine : own c z j (code_of c link) ≡ link = own-line c j.near_well (set c z j) link l its in
        goes-one (reading c.own z.own j.base) _ _
        (moves.answers_order (record {
          link = code_of c link;
          number = number;
          heard = record { message = m; rest = rest; first = refl; says = says };
          down = ap (λ (k : ℕ). not (down n.parts k)) mine ∙ ap not (gone g.fits);
          complete = ap (λ (k : ℕ). (changeover_of n.parts k).incomplete) mine ∙ complete;
          answer = reply;
          answers = answering ∙ ap (λ (k : ℕ). Answer (code_of c link) (last_accepted (queue_at n.queues k))) (sym mine);
          after = refl;
        }));
    good = λ g. record {
      fits = g.fits;
      route = g.route;
      settled = g.settled;
      silent = g.silent;
      queued = g.queued;
      elsewhere = g.elsewhere;
      held = g.held;
      loose = (sent, tt);
      arrived = g.arrived.1;
      coming = g.coming;
      counted = g.counted;
    };
  }

  -- the node once it completed
  abbrev complete_at : (b : Bool) → (link : ℕ) → (number : Option ℕ) → Node WholeQueues → Node WholeQueues
  complete_at b link number n = complete_if whole c b link number (with_parts n (with_changeover link (completed (changeover_of n.parts link)) n.parts))

  concluded-fits : (w : World) (n : Node WholeQueues) (link : ℕ) (number : Option ℕ) → (changeover_of n.parts link).incomplete ≡ true
      → StaysFit c n (concluded_at c z j w n link (completed (changeover_of n.parts link)) n.parts.timers number (accepted_count (queue_at n.queues link) number))
  concluded-fits w n link number e =
      let s : Standing = completed (changeover_of n.parts link) in
      (fit-steps c).both _ _ _ ((fit-steps c).completed link number s n e refl)
      (concluded-steps (fit-steps c) link (found_by c z j (queue_at n.queues link) number (accepted_count (queue_at n.queues link) number)) (record { queues = whole.completed n.queues link number; parts = with_changeover link s n.parts }))

  module _ (w : World) (n : Node WholeQueues) (m : Message) (rest : List Message) (link number : ℕ) (its : set_of c link ≡ set c z j) (says : heard m ≡ Order (code_of c link) number) (l : link < length c.links) where
    abbrev s : Standing
    s = completed (changeover_of n.parts link)

    abbrev sent_back : Node WholeQueues → Message
    sent_back o = changeover_acknowledgement c link (last_accepted (queue_at o.queues link))

    order-completes : (b : Bool) → (changeover_of n.parts link).incomplete ≡ b → (Fits c n → down n.parts link ≡ true)
        → Passes c z j (at c z j w n (m ∷ rest) []) (at c z j w (complete_at b link (Some number) n) rest (sent_back n ∷ []))
    order-completes true e gone =
        let count : Option ℕ = named_count (queue_at n.queues link) number in
        passes-both c z j _ _ _
        (by_order c z j w n link s n.parts.timers count m rest number (sent_back n) its refl says l e refl refl (reply-says link (queue_at n.queues link) its)
        (reply-sent link (queue_at n.queues link) its l) (concluded-fits w n link (Some number) e))
        (anew-passes c z j (behind (queue_at n.queues link) count) w (concluded_at c z j w n link s n.parts.timers (Some number) count) rest (sent_back n ∷ []))
    order-completes false e gone =
        subst (λ (o : Node WholeQueues). Passes c z j (at c z j w n (m ∷ rest) []) (at c z j w o rest (sent_back n ∷ []))) (sym (completed-same n link e))
        (replying w n m rest link number (sent_back n) its l says gone e (reply-says link (queue_at n.queues link) its) (reply-sent link (queue_at n.queues link) its l))

    completed-received : (b : Bool) → (queue_at (complete_at b link (Some number) n).queues link).received ≡ (queue_at n.queues link).received
    completed-received true =
        anew-received (managements_of (behind (queue_at n.queues link) (named_count (queue_at n.queues link) number))) _ link
        ∙ alike-at (λ (q : Queue). q.received) n.queues.links link link (emptied (queue_at n.queues link)) first_queue refl
    completed-received false = refl

    order-replies : (Fits c n → down n.parts link ≡ true)
        → Passes c z j (at c z j w n (m ∷ rest) []) (at c z j w (acknowledge_changeover whole c link (complete_by_order whole c link (Some number) n)) rest [])
    order-replies gone =
        let two : Node WholeQueues = complete_by_order whole c link (Some number) n in
        let same : sent_back n ≡ sent_back two =
        ap (λ (received : ℕ). changeover_acknowledgement c link (previous_number received)) (sym (completed-received (changeover_of n.parts link).incomplete)) in
        passes-both c z j _ _ _
        (subst (λ (reply : Message). Passes c z j (at c z j w n (m ∷ rest) []) (at c z j w two rest (reply ∷ []))) same (order-completes (changeover_of n.parts link).incomplete refl gone))
        (send_routed-passes c z j w two rest (sent_back two) [] (made-management c (peer_of c link) (reply_word link (last_accepted (queue_at two.queues link)))))

  pub order-passes : (w : World) (n : Node WholeQueues) (m : Message) (rest : List Message) (link number : ℕ) → set_of c link ≡ set c z j → heard m ≡ Order (code_of c link) number → link < length c.links
      → Passes c z j (at c z j w n (m ∷ rest) []) (at c z j w (on_changeover_order whole c link (Some number) n).left rest [])
  order-passes w n m rest link number its says l =
      let fallen : Node WholeQueues = fail_by_order whole c link n in
      passes-both c z j _ _ _ (order-fails (down n.parts link) w n (m ∷ rest) link refl)
      (passes-good c z j _ _
      (λ g. passes-both c z j _ _ _ (barring w fallen (m ∷ rest) link)
      (order-replies w (bar whole c link fallen) m rest link number its says l (λ f. ordered-down (down n.parts link) link n refl l g.fits))))

  -- ---- another point orders one of its own link

  completes-past : (b : Bool) (w : World) (n : Node WholeQueues) (arrived : List Message) (link : ℕ) (number : Option ℕ) → (changeover_of n.parts link).incomplete ≡ b → set_of c link ≢ set c z j
      → link < length c.links → Passes c z j (at c z j w n arrived []) (at c z j w (complete_at b link number n) arrived [])
  completes-past true w n arrived link number e d l =
      let s : Standing = completed (changeover_of n.parts link) in
      let count : Option ℕ = accepted_count (queue_at n.queues link) number in
      passes-both c z j _ _ _
      (by_any-elsewhere c z j w n link s n.parts.timers number count arrived [] d l e (concluded-fits w n link number e))
      (anew-passes c z j (behind (queue_at n.queues link) count) w (concluded_at c z j w n link s n.parts.timers number count) arrived [])
  completes-past false w n arrived link number e d l =
      subst (λ (o : Node WholeQueues). Passes c z j (at c z j w n arrived []) (at c z j w o arrived [])) (sym (completed-same n link e)) (passes-none c z j (at c z j w n arrived []))

  pub order_past-passes : (w : World) (n : Node WholeQueues) (arrived : List Message) (link : ℕ) (number : Option ℕ) → set_of c link ≢ set c z j → link < length c.links
      → Passes c z j (at c z j w n arrived []) (at c z j w (on_changeover_order whole c link number n).left arrived [])
  order_past-passes w n arrived link number d l =
      let fallen : Node WholeQueues = fail_by_order whole c link n in
      let one : Node WholeQueues = bar whole c link fallen in
      let two : Node WholeQueues = complete_by_order whole c link number one in
      let reply : Message = changeover_acknowledgement c link (last_accepted (queue_at two.queues link)) in
      passes-both c z j _ _ _ (order-fails (down n.parts link) w n arrived link refl)
      (passes-both c z j _ _ _ (barring w fallen arrived link)
      (passes-both c z j _ _ _ (completes-past (changeover_of one.parts link).incomplete w one arrived link number refl d l)
      (passes-both c z j _ _ _ (making c z j w two arrived reply [] (reply-past link (queue_at two.queues link) d) (made-brief c z j (peer_of c link) (reply_word link (last_accepted (queue_at two.queues link)))))
      (send_routed-passes c z j w two arrived reply [] (made-management c (peer_of c link) (reply_word link (last_accepted (queue_at two.queues link))))))))

  -- ---- an order is answered

  module _ (n : Node WholeQueues) (link : ℕ) where
    abbrev over : Standing
    over = acknowledged (changeover_of n.parts link)

    abbrev stilled : Running
    stilled = clear_timer (T2 link) n.parts.timers

    abbrev acknowledged_node : Node WholeQueues
    acknowledged_node = with_parts n (with_changeover_acknowledged link n.parts)

    answered-fits : (w : World) (number : Option ℕ) → (changeover_of n.parts link).incomplete ≡ true
        → StaysFit c n (concluded_at c z j w n link over stilled number (accepted_count (queue_at n.queues link) number))
    answered-fits w number e =
        let stopped : Node WholeQueues = with_parts n (record n.parts { timers = stilled }) in
        (fit-steps c).both _ _ _ ((fit-steps c).timed stilled n (clear-timed (T2 link) n.parts.timers (λ l e. cc)))
        ((fit-steps c).both _ _ _ ((fit-steps c).completed link number over stopped e refl)
        (concluded-steps (fit-steps c) link (found_by c z j (queue_at n.queues link) number (accepted_count (queue_at n.queues link) number)) (record { queues = whole.completed n.queues link number; parts = with_changeover link over stopped.parts })))

    waited-fits : (changeover_of n.parts link).incomplete ≡ false → StaysFit c n acknowledged_node
    waited-fits e =
        (fit-steps c).both _ _ _ ((fit-steps c).timed stilled n (clear-timed (T2 link) n.parts.timers (λ l e. cc)))
        ((fit-steps c).answered link over (with_parts n (record n.parts { timers = stilled })) e refl (λ a. absurd cc))

    waited-settled : Fits c n → link < length c.links → ((other : ℕ) → down n.parts other ≡ false → changeover_of n.parts other ≡ no_changeover)
        → (other : ℕ) → down n.parts other ≡ false → changeover_of acknowledged_node.parts other ≡ no_changeover
    waited-settled f l h other up =
        ⊎_elim
        (λ (same : other ≡ link).
        subst (λ (k : ℕ). changeover_of acknowledged_node.parts k ≡ no_changeover) (sym same)
        (standing-here c z n.parts link over (subst (λ (k : ℕ). link < k) (sym f.places.parts.changeovers) l)))
        (λ (d : other ≢ link). standing-other c z n.parts link other over d ∙ h other up)
        (cases_eq other link)

    waited-other : (other : ℕ) → other ≢ link → end_of acknowledged_node other ≡ end_of n other
    waited-other other d = end-by c z n acknowledged_node other (queue_at n.queues other) (link_at n.parts other) (changeover_of n.parts other) refl refl (standing-other c z n.parts link other over d)

  -- the peer answers one
  module _ (w : World) (n : Node WholeQueues) (m : Message) (rest : List Message) (link number : ℕ) (its : set_of c link ≡ set c z j) (says : heard m ≡ Answer (code_of c link) number) (l : link < length c.links) where
    mine : own c z j (code_of c link) ≡ link
    mine = own-line c j.near_well (set c z j) link l its

    answer-completes : (b : Bool) → (changeover_of n.parts link).incomplete ≡ b → (changeover_of n.parts link).awaited ≡ true
        → Passes c z j (at c z j w n (m ∷ rest) []) (at c z j w (complete_if whole c b link (Some number) (acknowledged_node n link)) rest [])
    answer-completes true e awaited =
        let count : Option ℕ = named_count (queue_at n.queues link) number in
        passes-both c z j _ _ _
        (by_answer c z j w n link (over n link) (stilled n link) count m rest number its refl says l e awaited refl refl (answered-fits n link w (Some number) e))
        (anew-passes c z j (behind (queue_at n.queues link) count) w (concluded_at c z j w n link (over n link) (stilled n link) (Some number) count) rest [])
    answer-completes false e awaited = wait_ends
      where
        wait_ends : Passes c z j (at c z j w n (m ∷ rest) []) (at c z j w (acknowledged_node n link) rest [])
        wait_ends = record {
          goes = λ g.
              let done : Pair = shown c z (set c z j) j.shares.far_set j.base (at c z j w (acknowledged_node n link) rest []) in
              goes-one (reading c.own z.own j.base) (shown c z (set c z j) j.shares.far_set j.base (at c z j w n (m ∷ rest) [])) done
              (moves.ends_wait (record {
                link = code_of c link;
                number = number;
                heard = record { message = m; rest = rest; first = refl; says = says };
                awaited = ap (λ (k : ℕ). (changeover_of n.parts k).awaited) mine ∙ awaited;
                complete = ap (λ (k : ℕ). (changeover_of n.parts k).incomplete) mine ∙ e;
                lines = line_of c z (set c z j) j.shares.far_set (at c z j w (acknowledged_node n link) rest []);
                set = becomes c z j (at c z j w n (m ∷ rest) []) (acknowledged_node n link) rest [] (route_of c j.base.there (set c z j) n.parts) link
                    (without_wait (line_of c z (set c z j) j.shares.far_set (at c z j w n (m ∷ rest) []) (code_of c link))).near l its
                    (end-by c z n (acknowledged_node n link) link (queue_at n.queues link) (link_at n.parts link) (over n link) refl refl
                    (standing-here c z n.parts link (over n link) (subst (λ (k : ℕ). link < k) (sym g.fits.places.parts.changeovers) l))
                    ∙ ap (λ (b : Bool). end_by c z (queue_at n.queues link) (link_at n.parts link) (record { incomplete = b; awaited = false })) (sym e)
                    ∙ ap (λ (k : ℕ). record (end_of n k) { awaited = false }) (sym mine))
                    (waited-other n link);
                after = ap (λ (h : ends.Procedure → Flow → Bool). record done { near = record done.near { holds = h } }) (holds-alike c z j n.parts (acknowledged_node n link).parts refl);
              }));
          good = λ g. record {
            fits = (waited-fits n link e).stay g.fits;
            route = g.route;
            settled = waited-settled n link g.fits l g.settled;
            silent = g.silent;
            queued = g.queued;
            elsewhere = g.elsewhere;
            held = g.held;
            loose = tt;
            arrived = g.arrived.1;
            coming = g.coming;
            counted = g.counted;
          };
        }

    unheard : (changeover_of n.parts link).awaited ≡ false → Passes c z j (at c z j w n (m ∷ rest) []) (at c z j w n rest [])
    unheard e = record {
      goes = λ g.
          goes-one (reading c.own z.own j.base) _ _
          (moves.ignores_answer (record {
            link = code_of c link;
            number = number;
            heard = record { message = m; rest = rest; first = refl; says = says };
            unawaited = ap (λ (k : ℕ). (changeover_of n.parts k).awaited) mine ∙ e;
            after = refl;
          }));
      good = λ g. record {
        fits = g.fits;
        route = g.route;
        settled = g.settled;
        silent = g.silent;
        queued = g.queued;
        elsewhere = g.elsewhere;
        held = g.held;
        loose = tt;
        arrived = g.arrived.1;
        coming = g.coming;
        counted = g.counted;
      };
    }

    acknowledgement-by : (b : Bool) → (changeover_of n.parts link).awaited ≡ b
        → Passes c z j (at c z j w n (m ∷ rest) [])
        (at c z j w (if b then answer Handled (complete_if whole c (changeover_of n.parts link).incomplete link (Some number) (acknowledged_node n link)) else answer Ignored n).left rest [])
    acknowledgement-by true e = answer-completes (changeover_of n.parts link).incomplete refl e
    acknowledgement-by false e = unheard e

    pub acknowledgement-passes : Passes c z j (at c z j w n (m ∷ rest) []) (at c z j w (on_changeover_acknowledgement whole c link (Some number) n).left rest [])
    acknowledgement-passes = acknowledgement-by (changeover_of n.parts link).awaited refl

  -- another point answers one about its own link
  module _ (w : World) (n : Node WholeQueues) (arrived : List Message) (link : ℕ) (number : Option ℕ) (d : set_of c link ≢ set c z j) (l : link < length c.links) where
    apart-past : (code : ℕ) → own c z j code ≢ link
    apart-past code e = d (at-line c j.near_well (set c z j) link code l e).of_set

    answer-past : (b : Bool) → (changeover_of n.parts link).incomplete ≡ b
        → Passes c z j (at c z j w n arrived []) (at c z j w (complete_if whole c b link number (acknowledged_node n link)) arrived [])
    answer-past true e =
        let count : Option ℕ = accepted_count (queue_at n.queues link) number in
        passes-both c z j _ _ _
        (by_any-elsewhere c z j w n link (over n link) (stilled n link) number count arrived [] d l e (answered-fits n link w number e))
        (anew-passes c z j (behind (queue_at n.queues link) count) w (concluded_at c z j w n link (over n link) (stilled n link) number count) arrived [])
    answer-past false e = passes-good c z j _ _ (λ g. unseen-passes c z j n (acknowledged_node n link) (record {
      fits = waited-fits n link e;
      queues = refl;
      alignments = λ code. refl;
      untested = λ code. refl;
      standings = λ code. standing-other c z n.parts link (own c z j code) (over n link) (apart-past code);
      holds = λ procedure sls. refl;
      codes = λ code. refl;
      lost = refl;
      late = refl;
      route = λ e. e;
      settled = waited-settled n link g.fits l;
      silent = λ h. h;
    }) w arrived [])

    past-by : (b : Bool)
        → Passes c z j (at c z j w n arrived [])
        (at c z j w (if b then answer Handled (complete_if whole c (changeover_of n.parts link).incomplete link number (acknowledged_node n link)) else answer Ignored n).left arrived [])
    past-by true = answer-past (changeover_of n.parts link).incomplete refl
    past-by false = passes-none c z j (at c z j w n arrived [])

    pub acknowledgement_past-passes : Passes c z j (at c z j w n arrived []) (at c z j w (on_changeover_acknowledgement whole c link number n).left arrived [])
    acknowledgement_past-passes = past-by (changeover_of n.parts link).awaited
