-- A frame comes, between the two nodes or by a link that leads elsewhere: by moves.
use Rattle.pair_rules.proofs.Basics.{append-nil, ⊎_elim, cases_eq, ◌≡◌, ◌≢◌, ◌<◌, ℕ, true, not, List, [], ◌∷◌, ◌++◌, length, Result, Ok, Err, refl, ap, sym, subst, ◌∙◌}
use Rattle.pair_rules.proofs.Definitions.{Message, Configuration, FrameValue, Queue, accept_answer, after_answer, first_queue, SeqFault, Node, down, in_service, set_of, WholeQueues, queue_at, whole, Carrying, carries, numbers, Fits, fit-steps, each-set, confirming, code-fits, LinkEnd, Saying, Pair, BecomeAt}
use Rattle.link.specs.Queue as queue
use Rattle.std.specs.Prelude.{map}
use Rattle.pair_moves.specs.Carrying.{with_accepted, with_statuses_left}
use Rattle.pair_moves.specs.Ends as ends
use Rattle.pair_moves.specs.Moves as moves
use Rattle.pair_moves.specs.Sayings.{Other}
use Rattle.pair_rules.proofs.World.{World, end_of, frame_of}
use Rattle.pair_rules.proofs.Good.{Each, IsTelling}
use Rattle.pair_rules.proofs.Going.{goes-one, goes-same}
use Rattle.pair_rules.proofs.Lines.{queue-here, queue-other, served-listed}
use Rattle.neighbour_rules.specs.Neighbours.{users_to}
use Rattle.neighbour_rules.proofs.World.{code_of, line_of, reading, says_of, shown}
use Rattle.neighbour_rules.proofs.Good.{AreFlying, Good, IsFlying, IsSent, Joint, Passes, at, set}
use Rattle.neighbour_rules.proofs.Lines.{at-line, none-becomes, own-line}
use Rattle.neighbour_rules.proofs.Bringing.{accepting}
use Rattle.neighbour_rules.proofs.Falling.{holds-alike}
use Rattle.neighbour_rules.proofs.Unseen.{own}

module _ (c z : Configuration) (j : Joint c z) where
  abbrev read : Message → Saying
  read = says_of c.own z.own j.base.there

  abbrev view : World → Pair
  view w = shown c z (set c z j) j.shares.far_set j.base w

  abbrev lines_of : World → ℕ → ends.Line
  lines_of w = line_of c z (set c z j) j.shares.far_set w

  -- ---- what is booked: user messages for this point are received here, and then some for the other are accepted

  abbrev pub receiving : World → List Message → World
  receiving w ms = record w { near = record w.near { received = w.near.received ++ users_to j.base.back ms } }

  abbrev pub bringing : World → (received accepted : List Message) → World
  bringing w ms ks = accepting c z j (receiving w ms) ks

  -- nothing is received or accepted
  pub none-brought : (v w : World) (n : Node WholeQueues) (arrived loose : List Message) → Passes c z j v (at c z j w n arrived loose) → Passes c z j v (at c z j (bringing w [] []) n arrived loose)
  none-brought v w n arrived loose p =
      subst (λ (ms : List Message). Passes c z j v (record w { near = record { node = n; arrived = arrived; loose = loose; accepted = w.near.accepted ++ []; received = ms } }))
      (sym (append-nil w.near.received))
      (subst (λ (ms : List Message). Passes c z j v (record w { near = record { node = n; arrived = arrived; loose = loose; accepted = ms; received = w.near.received } }))
      (sym (append-nil w.near.accepted)) p)

  -- ---- the next User Data in flight on a link between the two comes

  pub record Pops (w : World) (link : ℕ) (frame : FrameValue) (f : ℕ → List FrameValue) : Type 0 where
    pub rest : List FrameValue
    pub first : w.to_near.user_data link ≡ frame ∷ rest
    pub here : f link ≡ rest
    pub others : (other : ℕ) → other ≢ link → f other ≡ w.to_near.user_data other
    pub inside : link < length c.links
    pub its : set_of c link ≡ set c z j

  abbrev pub popped : World → (ℕ → List FrameValue) → World
  popped w f = record w { to_near = record w.to_near { user_data = f } }

  -- ---- the link statuses in flight on a link between the two change

  pub record Retells (w : World) (link : ℕ) (frame : FrameValue) (rest next : List FrameValue) (f : ℕ → List FrameValue) : Type 0 where
    pub first : w.to_near.statuses link ≡ frame ∷ rest
    pub here : f link ≡ next
    pub others : (other : ℕ) → other ≢ link → f other ≡ w.to_near.statuses other
    pub inside : link < length c.links
    pub its : set_of c link ≡ set c z j

  abbrev pub retold : World → (ℕ → List FrameValue) → World
  retold w f = record w { to_near = record w.to_near { statuses = f } }

  module _ (w : World) (link : ℕ) (frame : FrameValue) (rest next : List FrameValue) (f : ℕ → List FrameValue) (r : Retells w link frame rest next f) where
    still-telling : Each IsTelling next → AreFlying z c j.base.back j.shares.far_set w.to_near → AreFlying z c j.base.back j.shares.far_set (record w.to_near { statuses = f })
    still-telling each coming = record {
      user_data = coming.user_data;
      statuses = λ other.
          ⊎_elim
          (λ (same : other ≡ link). subst (λ (k : ℕ). Each IsTelling (f k)) (sym same) (subst (Each IsTelling) (sym r.here) each))
          (λ (d : other ≢ link). subst (Each IsTelling) (sym (r.others other d)) (coming.statuses other))
          (cases_eq other link);
    }

    retold-good : (Each IsTelling (frame ∷ rest) → Each IsTelling next) → (n : Node WholeQueues) → Good c z j (at c z j w n [] []) → Good c z j (at c z j (retold w f) n [] [])
    retold-good each n g = record {
      fits = g.fits;
      route = g.route;
      settled = g.settled;
      silent = g.silent;
      queued = g.queued;
      elsewhere = g.elsewhere;
      held = g.held;
      loose = g.loose;
      arrived = g.arrived;
      coming = still-telling (each (subst (Each IsTelling) r.first (g.coming.statuses link))) g.coming;
      counted = g.counted;
    }

    told-first : length (w.to_near.statuses (own c z j (code_of c link))) ≡ length (frame ∷ rest)
    told-first =
        ap (λ (k : ℕ). length (w.to_near.statuses k)) (own-line c j.near_well (set c z j) link r.inside r.its)
        ∙ ap (λ (fs : List FrameValue). length fs) r.first

    retold-set : (n : Node WholeQueues)
        → BecomeAt (view (at c z j w n [] [])) (code_of c link) (with_statuses_left (lines_of (at c z j w n [] []) (code_of c link)) (length next)) (lines_of (at c z j (retold w f) n [] []))
    retold-set n = record {
      inside = code-fits c j.near_well link;
      here =
          ap (λ (fs : List FrameValue). record (lines_of (at c z j w n [] []) (code_of c link)) { told_near = length fs })
          (ap f (own-line c j.near_well (set c z j) link r.inside r.its) ∙ r.here);
      others = λ code d.
          ap (λ (fs : List FrameValue). record (lines_of (at c z j w n [] []) code) { told_near = length fs })
          (r.others (own c z j code) (λ e. d (sym (at-line c j.near_well (set c z j) link code r.inside e).its_code)));
    }

  -- one comes, or is lost
  pub status-taken : (w : World) (link : ℕ) (frame : FrameValue) (rest : List FrameValue) (f : ℕ → List FrameValue) → Retells w link frame rest rest f
      → (n : Node WholeQueues) → Passes c z j (at c z j w n [] []) (at c z j (retold w f) n [] [])
  status-taken w link frame rest f r n = record {
    goes = λ g.
        goes-one (reading c.own z.own j.base) _ _
        (moves.takes_status (record {
          link = code_of c link;
          rest = length rest;
          some = told-first w link frame rest rest f r;
          lines = lines_of (at c z j (retold w f) n [] []);
          set = retold-set w link frame rest rest f r n;
          after = refl;
        }));
    good = retold-good w link frame rest rest f r (λ e. e.1) n;
  }

  -- one becomes two
  pub status-doubled : (w : World) (link : ℕ) (frame : FrameValue) (rest : List FrameValue) (f : ℕ → List FrameValue) → Retells w link frame rest (frame ∷ frame ∷ rest) f
      → (n : Node WholeQueues) → Passes c z j (at c z j w n [] []) (at c z j (retold w f) n [] [])
  status-doubled w link frame rest f r n = record {
    goes = λ g.
        goes-one (reading c.own z.own j.base) _ _
        (moves.doubles_status (record {
          link = code_of c link;
          rest = length rest;
          some = told-first w link frame rest (frame ∷ frame ∷ rest) f r;
          lines = lines_of (at c z j (retold w f) n [] []);
          set = retold-set w link frame rest (frame ∷ frame ∷ rest) f r n;
          after = refl;
        }));
    good = retold-good w link frame rest (frame ∷ frame ∷ rest) f r (λ e. (e.0, e)) n;
  }

  -- ---- User Data on a link between the two

  -- its numbers are accepted: no message comes to a queue, nor leaves it
  accepted-all : (P : Message → Type 0) (n : Node WholeQueues) (link : ℕ) (d : Carrying) (other : ℕ) → ((k : ℕ) → Each P (queue_at n.queues k).all)
      → Each P (queue_at (whole.accepted n.queues link d.fsn d.bsn (carries d)) other).all
  accepted-all P n link d other each =
      each-set (λ (q : Queue). Each P q.all) n.queues.links link other (queue.accepted (queue_at n.queues link) d.fsn d.bsn (carries d)) first_queue each
      (by (accept_answer (queue_at n.queues link) d.fsn d.bsn (carries d)) (each link))
    where
      by : (r : Result ℕ SeqFault) → Each P (queue_at n.queues link).all → Each P (after_answer (queue_at n.queues link) (carries d) r).all
      by (Ok count) e = e
      by (Err fault) e = e

  still-elsewhere : (n : Node WholeQueues) (link : ℕ) (d : Carrying) → Fits c n → link < length c.links → ((k : ℕ) → set_of c k ≢ set c z j → Each (λ m. read m ≡ Other) (queue_at n.queues k).all)
      → (k : ℕ) → set_of c k ≢ set c z j → Each (λ m. read m ≡ Other) (queue_at (whole.accepted n.queues link d.fsn d.bsn (carries d)) k).all
  still-elsewhere n link d f l each k apart =
      ⊎_elim
      (λ (same : k ≡ link).
      subst (λ (x : ℕ). Each (λ m. read m ≡ Other) (queue_at (whole.accepted n.queues link d.fsn d.bsn (carries d)) x).all) (sym same)
      (subst (λ (q : Queue). Each (λ m. read m ≡ Other) q.all) (sym (queue-here c z n link (queue.accepted (queue_at n.queues link) d.fsn d.bsn (carries d)) f l))
      (by (accept_answer (queue_at n.queues link) d.fsn d.bsn (carries d)) (each link (λ e. apart (ap (λ (x : ℕ). set_of c x) same ∙ e))))))
      (λ (x : k ≢ link).
      subst (λ (q : Queue). Each (λ m. read m ≡ Other) q.all) (sym (queue-other c z n.queues link k (queue.accepted (queue_at n.queues link) d.fsn d.bsn (carries d)) x)) (each k apart))
      (cases_eq k link)
    where
      by : (r : Result ℕ SeqFault) → Each (λ m. read m ≡ Other) (queue_at n.queues link).all → Each (λ m. read m ≡ Other) (after_answer (queue_at n.queues link) (carries d) r).all
      by (Ok count) e = e
      by (Err fault) e = e

  module _ (w : World) (link : ℕ) (frame : FrameValue) (f : ℕ → List FrameValue) (p : Pops w link frame f) where
    still-coming : AreFlying z c j.base.back j.shares.far_set w.to_near → AreFlying z c j.base.back j.shares.far_set (record w.to_near { user_data = f })
    still-coming coming = record {
      statuses = coming.statuses;
      user_data = λ other.
          ⊎_elim
          (λ (same : other ≡ link).
          subst (λ (k : ℕ). Each (IsFlying z c j.base.back j.shares.far_set) (f k)) (sym same)
          (subst (Each (IsFlying z c j.base.back j.shares.far_set)) (sym p.here) (subst (Each (IsFlying z c j.base.back j.shares.far_set)) p.first (coming.user_data link)).1))
          (λ (d : other ≢ link). subst (Each (IsFlying z c j.base.back j.shares.far_set)) (sym (p.others other d)) (coming.user_data other))
          (cases_eq other link);
    }

    pub mine : own c z j (code_of c link) ≡ link
    mine = own-line c j.near_well (set c z j) link p.inside p.its

    abbrev apart : (code : ℕ) → code ≢ code_of c link → own c z j code ≢ link
    apart code d e = d (sym (at-line c j.near_well (set c z j) link code p.inside e).its_code)

    pub first-here : map frame_of (w.to_near.user_data (own c z j (code_of c link))) ≡ frame_of frame ∷ map frame_of p.rest
    first-here = ap (λ (k : ℕ). map frame_of (w.to_near.user_data k)) mine ∙ ap (λ (fs : List FrameValue). map frame_of fs) p.first

    -- it says nothing to a node where the link is down
    pub dropping-frame : (n : Node WholeQueues) → down n.parts link ≡ true → Passes c z j (at c z j w n [] []) (at c z j (popped w f) n [] [])
    dropping-frame n gone = record {
      goes = λ g.
          goes-one (reading c.own z.own j.base) _ _
          (moves.drops (record {
            link = code_of c link;
            frame = frame_of frame;
            rest = map frame_of p.rest;
            first = first-here;
            down = ap (λ (k : ℕ). not (down n.parts k)) mine ∙ ap not gone;
            lines = lines_of (at c z j (popped w f) n [] []);
            set = record {
              inside = code-fits c j.near_well link;
              here = ap (λ (fs : List FrameValue). record (lines_of (at c z j w n [] []) (code_of c link)) { to_near = map frame_of fs }) (ap f mine ∙ p.here);
              others = λ code d. ap (λ (fs : List FrameValue). record (lines_of (at c z j w n [] []) code) { to_near = map frame_of fs }) (p.others (own c z j code) (apart code d));
            };
            after = refl;
          }));
      good = λ g. record {
        fits = g.fits;
        route = g.route;
        settled = g.settled;
        silent = g.silent;
        queued = g.queued;
        elsewhere = g.elsewhere;
        held = g.held;
        loose = g.loose;
        arrived = g.arrived;
        coming = still-coming g.coming;
        counted = g.counted;
      };
    }

    -- ---- its numbers are accepted

    module _ (n : Node WholeQueues) (d : Carrying) (confirmed : ℕ) (serves : in_service n.parts link ≡ true) (accepts : numbers whole c link d n ≡ Ok confirmed) where
      abbrev pub o : Node WholeQueues
      o = confirming c link d confirmed n

      abbrev accepted_at : ℕ → LinkEnd
      accepted_at k = record (end_of n k) { queue = after_answer (queue_at n.queues k) (carries d) (Ok confirmed) }

      accepted-end : Fits c n → end_of o (own c z j (code_of c link)) ≡ accepted_at (own c z j (code_of c link))
      accepted-end fits =
          ap (end_of o) mine
          ∙ ap (λ (q : Queue). record (end_of n link) { queue = q })
          (queue-here c z n link (queue.accepted (queue_at n.queues link) d.fsn d.bsn (carries d)) fits p.inside
          ∙ ap (after_answer (queue_at n.queues link) (carries d)) accepts)
          ∙ sym (ap accepted_at mine)

      accepted-other : (other : ℕ) → other ≢ link → end_of o other ≡ end_of n other
      accepted-other other x = ap (λ (q : Queue). record (end_of n other) { queue = q }) (queue-other c z n.queues link other (queue.accepted (queue_at n.queues link) d.fsn d.bsn (carries d)) x)

      pub accepts-here : accept_answer (queue_at n.queues (own c z j (code_of c link))) d.fsn d.bsn (carries d) ≡ Ok confirmed
      accepts-here = ap (λ (k : ℕ). accept_answer (queue_at n.queues k) d.fsn d.bsn (carries d)) mine ∙ accepts

      pub accepted-set : (arrived : List Message) → Fits c n
          → BecomeAt (view (at c z j w n [] [])) (code_of c link) (with_accepted (lines_of (at c z j w n [] []) (code_of c link)) (map frame_of p.rest) (carries d) confirmed)
          (lines_of (at c z j (popped w f) o arrived []))
      accepted-set arrived fits = record {
        inside = code-fits c j.near_well link;
        here =
            ap (λ (x : LinkEnd). record (lines_of (at c z j w n [] []) (code_of c link)) { near = x; to_near = map frame_of (f (own c z j (code_of c link))) }) (accepted-end fits)
            ∙ ap (λ (fs : List FrameValue). record (lines_of (at c z j w n [] []) (code_of c link)) { near = accepted_at (own c z j (code_of c link)); to_near = map frame_of fs }) (ap f mine ∙ p.here);
        others = λ code x.
            ap (λ (y : LinkEnd). record (lines_of (at c z j w n [] []) code) { near = y; to_near = map frame_of (f (own c z j code)) }) (accepted-other (own c z j code) (apart code x))
            ∙ ap (λ (fs : List FrameValue). record (lines_of (at c z j w n [] []) code) { to_near = map frame_of fs }) (p.others (own c z j code) (apart code x));
      }

      pub accepted-good : (arrived : List Message) → (Good c z j (at c z j w n [] []) → Each (IsSent z c j.base.back j.shares.far_set) arrived) → Good c z j (at c z j w n [] []) → Good c z j (at c z j (popped w f) o arrived [])
      accepted-good arrived came g = record {
        fits = ((fit-steps c).accepted link d confirmed n tt serves accepts).stay g.fits;
        route = g.route;
        settled = g.settled;
        silent = g.silent;
        queued = λ other. accepted-all (IsSent c z j.base.there (set c z j)) n link d other g.queued;
        elsewhere = still-elsewhere n link d g.fits p.inside g.elsewhere;
        held = g.held;
        loose = tt;
        arrived = came g;
        coming = still-coming g.coming;
        counted = g.counted;
      }

  -- ---- User Data on a link that leads elsewhere

  module _ (w : World) (n : Node WholeQueues) (link : ℕ) (away : set_of c link ≢ set c z j) (d : Carrying) (confirmed : ℕ) (serves : in_service n.parts link ≡ true) (accepts : numbers whole c link d n ≡ Ok confirmed) where
    abbrev past : Node WholeQueues
    past = confirming c link d confirmed n

    past-other : (other : ℕ) → other ≢ link → end_of past other ≡ end_of n other
    past-other other x = ap (λ (q : Queue). record (end_of n other) { queue = q }) (queue-other c z n.queues link other (queue.accepted (queue_at n.queues link) d.fsn d.bsn (carries d)) x)

    pub accepted-elsewhere : (arrived loose : List Message) → Passes c z j (at c z j w n arrived loose) (at c z j w past arrived loose)
    accepted-elsewhere arrived loose = record {
      goes = λ g.
          let before : Pair = view (at c z j w n arrived loose) in
          let after : Pair = view (at c z j w past arrived loose) in
          let same : after ≡ before = λ i. record before {
            line = none-becomes c z j (at c z j w n arrived loose) past arrived loose link (served-listed c z n link g.fits serves) away past-other i;
            near = record before.near { holds = holds-alike c z j n.parts past.parts refl i };
          } in
          goes-same (reading c.own z.own j.base) before after (sym same);
      good = λ g. record {
        fits = ((fit-steps c).accepted link d confirmed n tt serves accepts).stay g.fits;
        route = g.route;
        settled = g.settled;
        silent = g.silent;
        queued = λ other. accepted-all (IsSent c z j.base.there (set c z j)) n link d other g.queued;
        elsewhere = still-elsewhere n link d g.fits (served-listed c z n link g.fits serves) g.elsewhere;
        held = g.held;
        loose = g.loose;
        arrived = g.arrived;
        coming = g.coming;
        counted = g.counted;
      };
    }
