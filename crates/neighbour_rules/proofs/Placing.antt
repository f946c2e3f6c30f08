-- A message goes to the end of the queue of a link in service, between the two nodes or elsewhere: by moves.
use Rattle.pair_rules.proofs.Basics.{◌≡◌, ◌≢◌, ◌<◌, ℕ, true, not, List, [], ◌∷◌, length, refl, ap, sym, subst, ◌∙◌, if◌then◌else◌, ⊎_elim, cases_eq}
use Rattle.pair_rules.proofs.Definitions.{Message, flow_of, Configuration, Queue, appended, Node, in_service, WholeQueues, queue_at, whole, queue_on, set_of, Fits, StaysFit, Line, Saying, is_user_message, MayGo}
use Rattle.pair_moves.specs.Moves as moves
use Rattle.pair_moves.specs.Passing.{without_others}
use Rattle.pair_moves.specs.Sayings.{Other, is_other}
use Rattle.pair_rules.proofs.World.{World, end_of}
use Rattle.pair_rules.proofs.Good.{Each, each-behind}
use Rattle.pair_rules.proofs.Going.{goes-one}
use Rattle.pair_rules.proofs.Lines.{queue-here, queue-other, served-listed}
use Rattle.neighbour_rules.proofs.World.{code_of, line_of, link_at_code, reading, route_of, says_of, shown}
use Rattle.neighbour_rules.proofs.Good.{Good, IsSent, Joint, Passes, at, set}
use Rattle.neighbour_rules.proofs.Lines.{becomes, none-becomes, own-line}

-- a message of which the laws don't speak isn't one of those that stay
pub other-leaves : (read : Message → Saying) (m : Message) (ms : List Message) → read m ≡ Other → without_others read (m ∷ ms) ≡ without_others read ms
other-leaves read m ms e = ap (λ (s : Saying). if not (is_other s) then m ∷ without_others read ms else without_others read ms) e

module _ (c z : Configuration) (j : Joint c z) where
  abbrev read : Message → Saying
  read = says_of c.own z.own j.base.there

  -- a queue that isn't the link's is as it was
  apart-still : (P : Message → Type 0) (n : Node WholeQueues) (link other : ℕ) (m : Message) → other ≢ link → Each P (queue_at n.queues other).all
      → Each P (queue_at (queue_on whole c link m n).queues other).all
  apart-still P n link other m d e =
      subst (λ (q : Queue). Each P q.all) (sym (queue-other c z n.queues link other (appended (queue_at n.queues link) m) d)) e

  own-still : (P : Message → Type 0) (n : Node WholeQueues) (link : ℕ) (m : Message) → Fits c n → link < length c.links → Each P (queue_at n.queues link).all → P m
      → Each P (queue_at (queue_on whole c link m n).queues link).all
  own-still P n link m fits l e is =
      subst (λ (q : Queue). Each P q.all) (sym (queue-here c z n link (appended (queue_at n.queues link) m) fits l)) (each-behind P (queue_at n.queues link).all (m ∷ []) e (is, tt))

  one-still : (P : Message → Type 0) (n : Node WholeQueues) (link other : ℕ) (m : Message) → Fits c n → link < length c.links → P m → Each P (queue_at n.queues other).all
      → Each P (queue_at (queue_on whole c link m n).queues other).all
  one-still P n link other m fits l is e =
      ⊎_elim
      (λ (same : other ≡ link).
      subst (λ (k : ℕ). Each P (queue_at (queue_on whole c link m n).queues k).all) (sym same) (own-still P n link m fits l (subst (λ (k : ℕ). Each P (queue_at n.queues k).all) same e) is))
      (λ (d : other ≢ link). apart-still P n link other m d e)
      (cases_eq other link)

  -- the other ends are as they were
  others-same : (n : Node WholeQueues) (link other : ℕ) (m : Message) → other ≢ link → end_of (queue_on whole c link m n) other ≡ end_of n other
  others-same n link other m d =
      ap (λ (q : Queue). record (end_of n other) { queue = q }) (queue-other c z n.queues link other (appended (queue_at n.queues link) m) d)

  -- between the two
  pub placing : (w : World) (n : Node WholeQueues) (arrived : List Message) (link : ℕ) (m : Message) (rest : List Message) → in_service n.parts link ≡ true → set_of c link ≡ set c z j
      → StaysFit c n (queue_on whole c link m n)
      → (Good c z j (at c z j w n arrived (m ∷ rest)) → is_user_message (read m) ≡ true
      → MayGo read (shown c z (set c z j) j.shares.far_set j.base (at c z j w n arrived (m ∷ rest))).near (flow_of m) (code_of c link))
      → Passes c z j (at c z j w n arrived (m ∷ rest)) (at c z j w (queue_on whole c link m n) arrived rest)
  placing w n arrived link m rest serves its stay may = record {
    goes = λ g.
        let l : link < length c.links = served-listed c z n link g.fits serves in
        let k : ℕ = link_at_code c (set c z j) (code_of c link) in
        let own : k ≡ link = own-line c j.near_well (set c z j) link l its in
        goes-one (reading c.own z.own j.base) _ _
        (moves.places (record {
          link = code_of c link;
          message = m;
          rest = rest;
          first = refl;
          serving = ap (λ (x : ℕ). in_service n.parts x) own ∙ serves;
          may_go = may g;
          lines = line_of c z (set c z j) j.shares.far_set (at c z j w (queue_on whole c link m n) arrived rest);
          set = becomes c z j (at c z j w n arrived (m ∷ rest)) (queue_on whole c link m n) arrived rest (route_of c j.base.there (set c z j) n.parts) link
              (record (end_of n k) { queue = appended (queue_at n.queues k) m }) l its
              (ap (λ (q : Queue). record (end_of n link) { queue = q }) (queue-here c z n link (appended (queue_at n.queues link) m) g.fits l)
              ∙ ap (λ (x : ℕ). record (end_of n x) { queue = appended (queue_at n.queues x) m }) (sym own))
              (λ other d. others-same n link other m d);
          after = refl;
        }));
    good = λ g.
        let l : link < length c.links = served-listed c z n link g.fits serves in
        record {
          fits = stay.stay g.fits;
          route = g.route;
          settled = g.settled;
          silent = g.silent;
          queued = λ other. one-still (IsSent c z j.base.there (set c z j)) n link other m g.fits l g.loose.0 (g.queued other);
          elsewhere = λ other apart. apart-still (λ x. read x ≡ Other) n link other m (λ e. apart (ap (set_of c) e ∙ its)) (g.elsewhere other apart);
          held = g.held;
          loose = g.loose.1;
          arrived = g.arrived;
          coming = g.coming;
          counted = g.counted;
        };
  }

  -- elsewhere: only one of which the laws don't speak
  pub leaving : (w : World) (n : Node WholeQueues) (arrived : List Message) (link : ℕ) (m : Message) (rest : List Message) → in_service n.parts link ≡ true → set_of c link ≢ set c z j
      → read m ≡ Other → StaysFit c n (queue_on whole c link m n)
      → Passes c z j (at c z j w n arrived (m ∷ rest)) (at c z j w (queue_on whole c link m n) arrived rest)
  leaving w n arrived link m rest serves apart says stay = record {
    goes = λ g.
        let l : link < length c.links = served-listed c z n link g.fits serves in
        goes-one (reading c.own z.own j.base) _ _
        (moves.mixes_others (record {
          held = n.queues.held;
          loose = rest;
          arrived = arrived;
          held_stay = refl;
          loose_stay = sym (other-leaves read m rest says);
          arrived_stay = refl;
          after = ap (λ (lines : ℕ → Line). record (shown c z (set c z j) j.shares.far_set j.base (at c z j w n arrived rest)) { line = lines })
              (none-becomes c z j (at c z j w n arrived (m ∷ rest)) (queue_on whole c link m n) arrived rest link l apart (λ other d. others-same n link other m d));
        }));
    good = λ g.
        let l : link < length c.links = served-listed c z n link g.fits serves in
        record {
          fits = stay.stay g.fits;
          route = g.route;
          settled = g.settled;
          silent = g.silent;
          queued = λ other. one-still (IsSent c z j.base.there (set c z j)) n link other m g.fits l g.loose.0 (g.queued other);
          elsewhere = λ other d. one-still (λ x. read x ≡ Other) n link other m g.fits l says (g.elsewhere other d);
          held = g.held;
          loose = g.loose.1;
          arrived = g.arrived;
          coming = g.coming;
          counted = g.counted;
        };
  }
