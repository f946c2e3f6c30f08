-- Messages at a node: accepted, held, made, dropped, given up, and put on a link.
use Rattle.node_moves.proofs.Basics.{◌≡◌, ◌≢◌, ℕ, Bool, true, false, ◌&&◌, ◌+◌, ◌≤◌, ◌<◌, List, [], ◌∷◌, ◌++◌, length, ◌⊎◌, inl, inr, Some, count_by, min, refl, ap, sym, subst, ◌∙◌, arith, get_or-set_same, get_or-set_other, length-set}
use Rattle.node_moves.proofs.Machine.{user, UserMessage, Other, is_user_message, Live, LinkEnd, Network, Shape, Place, line_at, point_at, node_at, one_if, IsTakenFrom, Move, IsEnd}
use Rattle.node_moves.proofs.Definitions.{Message, flow_of, Configuration, IsWell, Node, WholeQueues, Parts, whole, with_parts, queue_at, with_queue, link_at, in_service, changeover_of, link_of, queue_on, hold, Queue, first_queue, appended}
use Rattle.node_moves.proofs.Reading.{IsShape, says_of}
use Rattle.node_moves.proofs.Sets.{with_node, node-set, end-set}
use Rattle.node_moves.proofs.Shown.{Books, accepting, naming, Mid, Shows, IsShown, IsAlike, IsSized, IsSilent, HasWays, Marks, marks_of, IsBooked, shown_in, shown-alike, place, users_that, any_message, most, link-inside, own-inside, at-own}
use Rattle.node_moves.proofs.Grown.{same-grown}
use Rattle.node_moves.proofs.Going.{IsAt, Goes, goes-both, arrives-here, by-line, by-node}
use Rattle.exchange_rules.proofs.Moves.{serving-there}
use Rattle.exchange_rules.specs.ChangingOver.{lose}
use Rattle.network_moves.proofs.Counts.{count-cons, count-append, count-one}
use Rattle.network_moves.proofs.Lasting.{lasts-at}
use Rattle.network_moves.proofs.Words.{one-no_user}
use Rattle.network_moves.specs.Lasting.{is_odd, odd}
use Rattle.network_moves.specs.Moves as moves
use Rattle.network_moves.specs.Networks as net
use Rattle.signalling_types.specs.declared.cause.Cause.{Cause}

-- a node at work
abbrev pub mid : Node WholeQueues → (arrived loose : List Message) (books : Books) → Mid
mid n arrived loose books = record { node = n; arrived = arrived; loose = loose; books = books }

-- all that is at a node and on no link
abbrev pub bag_of : Mid → List Message
bag_of v = v.node.queues.held ++ (v.arrived ++ v.loose)

pub count-bag : (v : Mid) (test : Message → Bool) → count_by test (bag_of v) ≡ count_by test v.node.queues.held + (count_by test v.arrived + count_by test v.loose)
count-bag v test = omega (arith, count-append test v.node.queues.held (v.arrived ++ v.loose), count-append test v.arrived v.loose)

-- ---- nothing is moved

-- of a node what shows is as of another
pub record AreAlike (c : Configuration) (n m : Node WholeQueues) : Type 0 where
  pub held : m.queues.held ≡ n.queues.held
  pub ends : (link : ℕ) → IsAlike n m link
  pub sized : IsSized c n → IsSized c m
  pub lost : m.parts.messages_lost ≡ n.parts.messages_lost
  pub marks : marks_of m.parts ≡ marks_of n.parts

pub same-ends : (n : Node WholeQueues) (link : ℕ) → IsAlike n n link
same-ends n link = record { queue = refl; alignment = refl; standing = refl }

module _ (shape : Shape) (o : IsShape shape) (c : Configuration) (well : IsWell c) where
  pub goes-alike : (n m : Node WholeQueues) (a l : List Message) (k : Books) → AreAlike c n m → Goes shape c (mid n a l k) (mid m a l k)
  goes-alike n m a l k e = record {
    grown = same-grown (ap (λ (k : Marks). k.broken) e.marks);
    goes = λ p h s. arrives-here shape c p (mid m a l k) (record {
      sized = e.sized s.sized;
      ends = λ link there. shown-alike n m link (line_at p (place c link)).near (e.ends link) (s.ends link there);
      booked = record {
        bag = λ test. s.booked.bag test ∙ ap (λ (held : List Message). count_by test held + (count_by test a + count_by test l)) (sym e.held);
        accepted = s.booked.accepted;
        named = subst (λ (times : ℕ). min (users_that any_message (p.node c.own).named) most ≤ times) (sym e.lost) s.booked.named;
        within = s.booked.within;
      };
    });
  }

  -- only where the messages of the node stand changes
  pub goes-relabelled : (v w : Mid) → w.node.parts ≡ v.node.parts → w.node.queues.links ≡ v.node.queues.links → ((x : net.Node) → IsBooked x v → IsBooked x w) → Goes shape c v w
  goes-relabelled v w same links booked = record {
    grown = same-grown (ap (λ (p : Parts). p.times_broken) same);
    goes = λ p h s. arrives-here shape c p w (record {
      sized = record {
        links = ap (λ (x : Parts). length x.links) same ∙ s.sized.links;
        queues = ap (λ (x : List Queue). length x) links ∙ s.sized.queues;
        changeovers = ap (λ (x : Parts). length x.changeovers) same ∙ s.sized.changeovers;
        silent = λ link. subst (λ (x : Parts). IsSilent (link_at x link)) (sym same) (s.sized.silent link);
        ways = subst (HasWays c) (sym same) s.sized.ways;
      };
      ends = λ link there. shown-alike v.node w.node link (line_at p (place c link)).near
          (record {
            queue = ap (λ (x : List Queue). queue_at (record { held = []; links = x }) link) links;
            alignment = ap (λ (x : Parts). (link_at x link).alignment) same;
            standing = ap (λ (x : Parts). changeover_of x link) same;
          })
          (s.ends link there);
      booked = booked (p.node c.own) s.booked;
    });
  }

  -- where more is named
  pub names-more : (v : Mid) (n : Node WholeQueues) (a l : List Message) (k : Books) (ms : List Message) → Goes shape c v (mid n a l k) → Goes shape c v (mid n a l (naming k ms))
  names-more v n a l k ms g = goes-both shape c v (mid n a l k) _ g (goes-relabelled _ _ refl refl (λ x b. record {
    bag = b.bag;
    accepted = b.accepted;
    named = b.named;
    within = λ test. omega (arith, b.within test, count-append (user says_of test) k.named ms);
  }))

  pub accepts : (n : Node WholeQueues) (m : Message) (a l : List Message) (k : Books) → Goes shape c (mid n (m ∷ a) l k) (mid n a (m ∷ l) (accepting k (m ∷ [])))
  accepts n m a l k = goes-relabelled _ _ refl refl (λ x b. record {
    bag = λ test. omega (arith, b.bag test, count-cons test m a, count-cons test m l);
    accepted = λ test. omega (arith, b.accepted test, count-cons (user says_of test) m a, count-append (user says_of test) k.accepted (m ∷ []), count-one (user says_of test) m);
    named = b.named;
    within = b.within;
  })

  pub holds : (n : Node WholeQueues) (m : Message) (a l : List Message) (k : Books) → Goes shape c (mid n a (m ∷ l) k) (mid (hold whole m n) a l k)
  holds n m a l k = goes-relabelled _ _ refl refl (λ x b. record {
    bag = λ test. omega (arith, b.bag test, count-cons test m l, count-append test n.queues.held (m ∷ []), count-one test m);
    accepted = b.accepted;
    named = b.named;
    within = b.within;
  })

  pub takes-out : (n : Node WholeQueues) (a l : List Message) (k : Books) → Goes shape c (mid n a l k) (mid (record n { queues = whole.without_held n.queues }) a (n.queues.held ++ l) k)
  takes-out n a l k = goes-relabelled _ _ refl refl (λ x b. record {
    bag = λ test. omega (arith, b.bag test, count-append test n.queues.held l);
    accepted = b.accepted;
    named = b.named;
    within = b.within;
  })

  -- ---- the node alone changes

  own-there : c.own < shape.nodes
  own-there = o.nodes c.own well.own

  -- the same node, or one that counts losses
  pub record AreAlikeBut (n m : Node WholeQueues) : Type 0 where
    pub held : m.queues.held ≡ n.queues.held
    pub ends : (link : ℕ) → IsAlike n m link
    pub sized : IsSized c n → IsSized c m
    pub broken : m.parts.times_broken ≡ n.parts.times_broken

  pub but-none : (n : Node WholeQueues) → AreAlikeBut n n
  but-none n = record { held = refl; ends = same-ends n; sized = λ s. s; broken = refl }

  pub goes-by-node : (v w : Mid) → AreAlikeBut v.node w.node
      → ((p : Network) → IsAt shape c p → Shows c p v → (x : net.Node) × IsBooked x w × Move shape says_of p (with_node p c.own x)) → Goes shape c v w
  goes-by-node v w e f = record {
    grown = same-grown e.broken;
    goes = λ p h s.
        let it : (x : net.Node) × IsBooked x w × Move shape says_of p (with_node p c.own x) = f p h s in
        by-node shape o c well p v w it.0 s (e.sized s.sized) e.ends it.1 it.2;
  }

  pub submits : (n : Node WholeQueues) (m : Message) (a l : List Message) (k : Books) → says_of m ≡ UserMessage → Goes shape c (mid n a l k) (mid n (m ∷ a) l k)
  submits n m a l k says = goes-by-node _ _ (but-none n) (λ p h s. (
    _,
    record {
      bag = λ test. omega (arith, s.booked.bag test, count-cons test m a, count-cons test m (p.node c.own).bag);
      accepted = λ test. omega (arith, s.booked.accepted test, count-cons (user says_of test) m a, count-cons (user says_of test) m (p.node c.own).accepted);
      named = s.booked.named;
      within = s.booked.within;
    },
    moves.submits (record { point = c.own; message = m; user = ap is_user_message says; after = node-set shape p c.own _ own-there }),
  ))

  pub makes : (n : Node WholeQueues) (m : Message) (a l : List Message) (k : Books) → says_of m ≡ Other → Goes shape c (mid n a l k) (mid n a (m ∷ l) k)
  makes n m a l k says = goes-by-node _ _ (but-none n) (λ p h s. (
    _,
    record {
      bag = λ test. omega (arith, s.booked.bag test, count-cons test m l, count-cons test m (p.node c.own).bag);
      accepted = s.booked.accepted;
      named = s.booked.named;
      within = s.booked.within;
    },
    moves.makes (record { point = c.own; message = m; other = says; after = node-set shape p c.own _ own-there }),
  ))

  -- a message is taken out of what came
  pub taken-arrived : (p : Network) (n : Node WholeQueues) (m : Message) (a l : List Message) (k : Books) → Shows c p (mid n (m ∷ a) l k) → IsTakenFrom (p.node c.own).bag m (bag_of (mid n a l k))
  taken-arrived p n m a l k s = record { counted = λ test. omega (arith, s.booked.bag test, count-cons test m a, count-bag (mid n a l k) test) }

  pub taken-loose : (p : Network) (n : Node WholeQueues) (m : Message) (a l : List Message) (k : Books) → Shows c p (mid n a (m ∷ l) k) → IsTakenFrom (p.node c.own).bag m (bag_of (mid n a l k))
  taken-loose p n m a l k s = record { counted = λ test. omega (arith, s.booked.bag test, count-cons test m l, count-bag (mid n a l k) test) }

  ends : (n : Node WholeQueues) (m : Message) (a l : List Message) (k : Books) → is_user_message (says_of m) ≡ true → Goes shape c (mid n (m ∷ a) l k) (mid n a l k)
  ends n m a l k says = goes-by-node _ _ (but-none n) (λ p h s. (
    _,
    record {
      bag = count-bag (mid n a l k);
      accepted = λ test. omega (arith, s.booked.accepted test, count-cons (user says_of test) m a, count-cons (user says_of test) m (p.node c.own).ended);
      named = s.booked.named;
      within = s.booked.within;
    },
    moves.ends (record { point = c.own; message = m; rest = bag_of (mid n a l k); taken = taken-arrived p n m a l k s; user = says; after = node-set shape p c.own _ own-there }),
  ))

  discards : (n : Node WholeQueues) (m : Message) (a l : List Message) (k : Books) → is_user_message (says_of m) ≡ false → Goes shape c (mid n (m ∷ a) l k) (mid n a l k)
  discards n m a l k says = goes-by-node _ _ (but-none n) (λ p h s. (
    _,
    record {
      bag = count-bag (mid n a l k);
      accepted = λ test. omega (arith, s.booked.accepted test, count-cons (user says_of test) m a, one-no_user says_of m says test);
      named = s.booked.named;
      within = s.booked.within;
    },
    moves.discards (record { point = c.own; message = m; rest = bag_of (mid n a l k); taken = taken-arrived p n m a l k s; management = says; after = node-set shape p c.own _ own-there }),
  ))

  -- what came ends here: it is received, handled, ignored or refused
  pub drops : (n : Node WholeQueues) (m : Message) (a l : List Message) (k : Books) → Goes shape c (mid n (m ∷ a) l k) (mid n a l k)
  drops n m a l k = by (is_user_message (says_of m)) refl
    where
      by : (b : Bool) → is_user_message (says_of m) ≡ b → Goes shape c (mid n (m ∷ a) l k) (mid n a l k)
      by true e = ends n m a l k e
      by false e = discards n m a l k e

  -- what was made finds no way
  pub discards-loose : (n : Node WholeQueues) (m : Message) (a l : List Message) (k : Books) → is_user_message (says_of m) ≡ false → Goes shape c (mid n a (m ∷ l) k) (mid n a l k)
  discards-loose n m a l k says = goes-by-node _ _ (but-none n) (λ p h s. (
    _,
    record {
      bag = count-bag (mid n a l k);
      accepted = s.booked.accepted;
      named = s.booked.named;
      within = s.booked.within;
    },
    moves.discards (record { point = c.own; message = m; rest = bag_of (mid n a l k); taken = taken-loose p n m a l k s; management = says; after = node-set shape p c.own _ own-there }),
  ))

  -- ---- a message is lost, and that is noted

  one-lost : (cause : Cause) (m : Message) (n : Node WholeQueues) → AreAlikeBut n (with_parts n (lose cause m n.parts))
  one-lost cause m n = record {
    held = refl;
    ends = λ link. record { queue = refl; alignment = refl; standing = refl };
    sized = λ s. record { links = s.links; queues = s.queues; changeovers = s.changeovers; silent = s.silent; ways = s.ways };
    broken = refl;
  }

  gives-up : (cause : Cause) (n : Node WholeQueues) (m : Message) (a l : List Message) (k : Books) → is_user_message (says_of m) ≡ true → Goes shape c (mid n a (m ∷ l) k) (mid (with_parts n (lose cause m n.parts)) a l (naming k (m ∷ [])))
  gives-up cause n m a l k says = goes-by-node _ _ (one-lost cause m n) (λ p h s. (
    _,
    record {
      bag = count-bag (mid n a l k);
      accepted = s.booked.accepted;
      named = (let one : one_if (user says_of any_message m) ≡ 1 = ap (λ (b : Bool). one_if (b && true)) says in omega (arith, s.booked.named, count-cons (user says_of any_message) m (p.node c.own).named, one));
      within = λ test. omega (arith, s.booked.within test, count-cons (user says_of test) m (p.node c.own).named, count-append (user says_of test) k.named (m ∷ []), count-one (user says_of test) m);
    },
    moves.gives_up (record { point = c.own; message = m; rest = bag_of (mid n a l k); taken = taken-loose p n m a l k s; user = says; after = node-set shape p c.own _ own-there }),
  ))

  forgets : (cause : Cause) (n : Node WholeQueues) (m : Message) (a l : List Message) (k : Books) → is_user_message (says_of m) ≡ false → Goes shape c (mid n a (m ∷ l) k) (mid (with_parts n (lose cause m n.parts)) a l (naming k (m ∷ [])))
  forgets cause n m a l k says = goes-by-node _ _ (one-lost cause m n) (λ p h s. (
    _,
    record {
      bag = count-bag (mid n a l k);
      accepted = s.booked.accepted;
      named = omega (arith, s.booked.named);
      within = λ test. omega (arith, s.booked.within test, count-append (user says_of test) k.named (m ∷ []));
    },
    moves.discards (record { point = c.own; message = m; rest = bag_of (mid n a l k); taken = taken-loose p n m a l k s; management = says; after = node-set shape p c.own _ own-there }),
  ))

  pub loses : (cause : Cause) (n : Node WholeQueues) (m : Message) (a l : List Message) (k : Books) → Goes shape c (mid n a (m ∷ l) k) (mid (with_parts n (lose cause m n.parts)) a l (naming k (m ∷ [])))
  loses cause n m a l k = by (is_user_message (says_of m)) refl
    where
      by : (b : Bool) → is_user_message (says_of m) ≡ b → Goes shape c (mid n a (m ∷ l) k) (mid (with_parts n (lose cause m n.parts)) a l (naming k (m ∷ [])))
      by true e = gives-up cause n m a l k e
      by false e = forgets cause n m a l k e

  -- ---- onto a link

  pub there : (n : Node WholeQueues) (link : ℕ) → IsSized c n → in_service n.parts link ≡ true → link < length c.links
  there n link s e = subst (λ (k : ℕ). link < k) s.links (serving-there n.parts link e)

  pub end-at : (p : Network) (link : ℕ) → IsAt shape c p → IsEnd (line_at p (place c link)).near
  end-at p link h = (lasts-at shape says_of p (place c link) h.lasts).near

  pub live-queue : (n : Node WholeQueues) (link : ℕ) (e : LinkEnd) → e.phase ≡ Live → IsShown n link e → queue_at n.queues link ≡ e.queue
  live-queue n link e live s = s.queue ∙ ap (λ x. shown_in x e.queue) live

  -- an end with another queue, live as before
  abbrev pub with_near_queue : LinkEnd → Queue → LinkEnd
  with_near_queue e q = record e { queue = q }

  pub queue-shown : (n : Node WholeQueues) (link : ℕ) (e : LinkEnd) (q : Queue) → IsSized c n → link < length c.links → e.phase ≡ Live → IsShown n link e
      → IsShown (record n { queues = with_queue n.queues link q }) link (with_near_queue e q)
  queue-shown n link e q sized l live s = record {
    queue = get_or-set_same n.queues.links link q first_queue (subst (λ (k : ℕ). link < k) (sym sized.queues) l) ∙ sym (ap (λ x. shown_in x q) live);
    up = s.up;
    serving = s.serving;
    incomplete = s.incomplete;
    awaited = s.awaited;
    heard = s.heard;
  }

  pub queue-others : (n : Node WholeQueues) (link other : ℕ) (q : Queue) → other ≢ link → IsAlike n (record n { queues = with_queue n.queues link q }) other
  queue-others n link other q d = record { queue = get_or-set_other n.queues.links link other q first_queue d; alignment = refl; standing = refl }

  pub queue-sized : (n : Node WholeQueues) (link : ℕ) (q : Queue) → IsSized c n → IsSized c (record n { queues = with_queue n.queues link q })
  queue-sized n link q s = record { links = s.links; queues = length-set n.queues.links link q ∙ s.queues; changeovers = s.changeovers; silent = s.silent; ways = s.ways }

  -- it goes where the routes lead, or it is management of which no law speaks
  abbrev pub MayGo : Node WholeQueues → Message → (link : ℕ) → Type 0
  MayGo n m link = (link_of c n.parts (flow_of m) ≡ Some link) ⊎ (says_of m ≡ Other)

  -- no message here has a number that is never under way
  plain-loose : (p : Network) (n : Node WholeQueues) (m : Message) (a l : List Message) (k : Books) → IsAt shape c p → Shows c p (mid n a (m ∷ l) k) → is_odd (says_of m) ≡ false
  plain-loose p n m a l k h s = by (is_odd (says_of m)) refl
    where
      by : (b : Bool) → is_odd (says_of m) ≡ b → is_odd (says_of m) ≡ false
      by false e = e
      by true e = absurd (omega (arith, ap one_if e, (taken-loose p n m a l k s).counted (odd says_of), h.lasts.bags c.own))

  may-lead : (p : Network) (n : Node WholeQueues) (link : ℕ) (m : Message) (a l : List Message) (k : Books) → IsAt shape c p → Shows c p (mid n a (m ∷ l) k) → link < length c.links → MayGo n m link
      → shape.leads (place c link).link (place c link).side m ≡ true
  may-lead p n link m a l k h s inside (inl e) = h.led.routed n.parts m link inside s.sized.ways e (plain-loose p n m a l k h s)
  may-lead p n link m a l k h s inside (inr e) = h.led.others m link e

  pub places : (n : Node WholeQueues) (link : ℕ) (m : Message) (a l : List Message) (k : Books) → in_service n.parts link ≡ true → MayGo n m link
      → Goes shape c (mid n a (m ∷ l) k) (mid (queue_on whole c link m n) a l k)
  places n link m a l k serves way = record {
    grown = same-grown refl;
    goes = λ p h s.
        let inside : link < length c.links = there n link s.sized serves in
        let its : Place = place c link in
        let e : LinkEnd = (line_at p its).near in
        let shown : IsShown n link e = s.ends link inside in
        let serving : e.serving ≡ true = shown.serving ∙ serves in
        let live : e.phase ≡ Live = (end-at p link h).live_up ((end-at p link h).serving serving) in
        let v : Mid = mid n a (m ∷ l) k in
        let w : Mid = mid (queue_on whole c link m n) a l k in
        let here : p.node (point_at shape its) ≡ p.node c.own = ap p.node (at-own shape o c well link) in
        by-line shape o c well p v w link (with_near_queue e (appended e.queue m)) (record (node_at shape p its) { bag = bag_of w }) s
        (record {
          inside = inside;
          sized = queue-sized n link _ s.sized;
          shown = subst (λ (q : Queue). IsShown (record n { queues = with_queue n.queues link (appended q m) }) link (with_near_queue e (appended e.queue m))) (sym (live-queue n link e live shown))
              (queue-shown n link e (appended e.queue m) s.sized inside live shown);
          others = λ other d. queue-others n link other _ d;
          came = refl;
          booked = record {
            bag = count-bag w;
            accepted = subst (λ (x : net.Node). (test : Message → Bool) → users_that test x.accepted ≡ users_that test x.ended + (users_that test k.accepted + users_that test a)) (sym here) s.booked.accepted;
            named = subst (λ (x : net.Node). min (users_that any_message x.named) most ≤ n.parts.messages_lost) (sym here) s.booked.named;
            within = subst (λ (x : net.Node). (test : Message → Bool) → users_that test x.named ≤ users_that test k.named) (sym here) s.booked.within;
          };
        })
        (moves.places (record {
          place = its;
          message = m;
          rest = bag_of w;
          taken = subst (λ (x : net.Node). IsTakenFrom x.bag m (bag_of w)) (sym here) (taken-loose p n m a l k s);
          serving = serving;
          leads = may-lead p n link m a l k h s inside way;
          after = end-set shape p its _ _ (link-inside shape o c well link) (own-inside shape o c well link);
        }));
  }
