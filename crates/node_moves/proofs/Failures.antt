-- A link fails at a node, and an order to change over goes out.
use Rattle.node_moves.proofs.Basics.{◌≡◌, ◌≢◌, ℕ, Bool, true, false, not, ◌||◌, ◌+◌, ◌^◌, ◌≤◌, ◌<◌, List, ◌∷◌, length, count_by, min, refl, ap, sym, subst, ◌∙◌, arith, get_or_past, ⊎_elim, cases_lt}
use Rattle.node_moves.proofs.Machine.{Phase, Live, Moved, Gone, LinkEnd, Network, Shape, Place, line_at, node_at, Move}
use Rattle.node_moves.proofs.Definitions.{Message, dpc_of, Configuration, IsWell, Node, WholeQueues, Parts, queue_at, link_at, in_service, down, changeover_of, entry_of, peer_of, set_of, Queue, last_accepted, Link, down_link, is_down, is_in_service, Alignment, Down, Management, read_management}
use Rattle.node_moves.proofs.Reading.{IsShape, says_of, order_at, answer_at, read_says}
use Rattle.node_moves.proofs.Sets.{with_end, end-set}
use Rattle.node_moves.proofs.Shown.{Books, Shows, IsShown, IsAlike, IsSized, IsBooked, Marks, marks_of, shown_in, is_heard, place, users_that, any_message, most, link-inside, own-inside, at-own}
use Rattle.node_moves.proofs.Grown.{same-grown}
use Rattle.node_moves.proofs.Going.{IsAt, Arrives, Goes, by-line}
use Rattle.node_moves.proofs.Handling.{mid, end-at}
use Rattle.node_moves.proofs.Own.{K, made-read}
use Rattle.exchange_rules.proofs.MadeManagement.{code-fits, adjacent-fits, made-opc, made-dpc, made-says}
use Rattle.exchange_rules.specs.ChangingOver.{changeover_order, changeover_acknowledgement}
use Rattle.mtp3_codec.specs.declared.management.Management.TheVariants.{ExtendedChangeoverOrder, ExtendedChangeoverAcknowledgement}
use Rattle.network_moves.proofs.Counts.{count-cons}
use Rattle.network_moves.proofs.Lines.{not-beside}
use Rattle.network_moves.specs.Failing.{with_failure, with_wait}
use Rattle.network_moves.specs.Moves as moves
use Rattle.network_moves.specs.Networks as net
use Rattle.signalling_types.specs.Numbers.{previous_number}

-- ---- numbers

-- a link accepted the same also once its changeover is complete
pub last-same : (n : Node WholeQueues) (link : ℕ) (e : LinkEnd) → IsShown n link e → last_accepted (queue_at n.queues link) ≡ last_accepted e.queue
last-same n link e s = ap (λ (q : Queue). last_accepted q) s.queue ∙ by e.phase
  where
    by : (phase : Phase) → last_accepted (shown_in phase e.queue) ≡ last_accepted e.queue
    by Live = refl
    by Moved = refl
    by Gone = refl

pub number-fits : (received : ℕ) → previous_number received < 2 ^ 24
number-fits received = omega arith

-- ---- orders and answers as they are made

module _ (c : Configuration) (well : IsWell c) (link : ℕ) (number : ℕ) (fits : number < 2 ^ 24) where
  abbrev order : Management
  order = ExtendedChangeoverOrder (entry_of c link).slc number

  abbrev answer : Management
  answer = ExtendedChangeoverAcknowledgement (entry_of c link).slc number

  pub order-says : says_of (changeover_order c link number) ≡ order_at (place c link) number
  order-says =
      made-read c well (peer_of c link) order
      ∙ ap (λ (opc : ℕ). read_says opc (dpc_of (changeover_order c link number)) (read_management (changeover_order c link number).sif))
      (made-opc c well (peer_of c link) order (adjacent-fits c well (set_of c link)) (code-fits c well link, fits))
      ∙ ap (λ (dpc : ℕ). read_says c.own dpc (read_management (changeover_order c link number).sif))
      (made-dpc c well (peer_of c link) order (adjacent-fits c well (set_of c link)) (code-fits c well link, fits))
      ∙ ap (read_says c.own (peer_of c link)) (made-says c well (peer_of c link) order (adjacent-fits c well (set_of c link)) (code-fits c well link, fits))

  pub answer-says : says_of (changeover_acknowledgement c link number) ≡ answer_at (place c link) number
  answer-says =
      made-read c well (peer_of c link) answer
      ∙ ap (λ (opc : ℕ). read_says opc (dpc_of (changeover_acknowledgement c link number)) (read_management (changeover_acknowledgement c link number).sif))
      (made-opc c well (peer_of c link) answer (adjacent-fits c well (set_of c link)) (code-fits c well link, fits))
      ∙ ap (λ (dpc : ℕ). read_says c.own dpc (read_management (changeover_acknowledgement c link number).sif))
      (made-dpc c well (peer_of c link) answer (adjacent-fits c well (set_of c link)) (code-fits c well link, fits))
      ∙ ap (read_says c.own (peer_of c link)) (made-says c well (peer_of c link) answer (adjacent-fits c well (set_of c link)) (code-fits c well link, fits))

-- ---- one end changes, and the node stays

-- but for one link a node shows as another
pub record IsAlikeBut (c : Configuration) (n m : Node WholeQueues) (link : ℕ) : Type 0 where
  pub held : m.queues.held ≡ n.queues.held
  pub others : (other : ℕ) → other ≢ link → IsAlike n m other
  pub sized : IsSized c n → IsSized c m
  pub lost : m.parts.messages_lost ≡ n.parts.messages_lost
  pub marks : marks_of m.parts ≡ marks_of n.parts

pub past-down : (p : Parts) (link : ℕ) → length p.links ≤ link → down p link ≡ true
past-down p link l = ap (λ (x : Link). is_down x.alignment) (get_or_past p.links link down_link l)

pub up-listed : (c : Configuration) (n : Node WholeQueues) (link : ℕ) → length n.parts.links ≡ length c.links → down n.parts link ≡ false → link < length c.links
up-listed c n link s e =
    ⊎_elim (λ (l : link < length c.links). l)
    (λ (l : length c.links ≤ link). (let gone : down n.parts link ≡ true = past-down n.parts link (subst (λ (k : ℕ). k ≤ link) (sym s) l) in absurd cc))
    (cases_lt link (length c.links))

pub booked-alike : (x : net.Node) (n m : Node WholeQueues) (a l : List Message) (k : Books) → m.queues.held ≡ n.queues.held → m.parts.messages_lost ≡ n.parts.messages_lost → IsBooked x (mid n a l k) → IsBooked x (mid m a l k)
booked-alike x n m a l k held lost b = record {
  bag = λ test. b.bag test ∙ ap (λ (ms : List Message). count_by test ms + (count_by test a + count_by test l)) (sym held);
  accepted = b.accepted;
  named = subst (λ (times : ℕ). min (users_that any_message x.named) most ≤ times) (sym lost) b.named;
  within = b.within;
}

module _ (shape : Shape) (o : IsShape shape) (c : Configuration) (well : IsWell c) where
  -- the same node at the place of a link
  pub node-there : (p : Network) (link : ℕ) → node_at shape p (place c link) ≡ p.node c.own
  node-there p link = ap p.node (at-own shape o c well link)

  pub record Changes (p : Network) (m : Node WholeQueues) (link : ℕ) (x : net.Node) : Type 0 where
    pub end : LinkEnd
    pub came : end.came ≡ (line_at p (place c link)).near.came
    pub shown : IsShown m link end
    pub move : Move shape says_of p (with_end shape p (place c link) end x)

  pub arrives-by-end : {times : ℕ} (p : Network) (n m : Node WholeQueues) (link : ℕ) (a l : List Message) (k : Books) → Shows c p (mid n a l k) → IsAlikeBut c n m link → link < length c.links
      → Changes p m link (node_at shape p (place c link)) → Arrives shape c times p (mid m a l k)
  arrives-by-end p n m link a l k s e inside h =
      by-line shape o c well p (mid n a l k) (mid m a l k) link h.end (node_at shape p (place c link)) s
      (record {
        inside = inside;
        sized = e.sized s.sized;
        shown = h.shown;
        others = e.others;
        came = h.came;
        booked = booked-alike (node_at shape p (place c link)) n m a l k e.held e.lost (subst (λ (x : net.Node). IsBooked x (mid n a l k)) (sym (node-there p link)) s.booked);
      })
      h.move

  pub goes-by-end : (n m : Node WholeQueues) (link : ℕ) → IsAlikeBut c n m link → (IsSized c n → link < length c.links)
      → ((p : Network) → IsAt shape c p → IsSized c n → link < length c.links → IsShown n link (line_at p (place c link)).near → Changes p m link (node_at shape p (place c link))) → K shape o c well n m
  goes-by-end n m link e inside f = record {
    each = λ a l k. record {
      grown = same-grown (ap (λ (k : Marks). k.broken) e.marks);
      goes = λ p h s. arrives-by-end p n m link a l k s e (inside s.sized) (f p h s.sized (inside s.sized) (s.ends link (inside s.sized)));
    };
  }

  -- ---- a link falls

  pub record HasFallen (n m : Node WholeQueues) (link : ℕ) : Type 0 where
    pub queue : queue_at m.queues link ≡ queue_at n.queues link
    pub alignment : (link_at m.parts link).alignment ≡ Down
    pub incomplete : (changeover_of m.parts link).incomplete ≡ (in_service n.parts link || (changeover_of n.parts link).incomplete)
    pub awaited : (changeover_of n.parts link).awaited ≡ false → (changeover_of m.parts link).awaited ≡ false

  or-both : (a b d e : Bool) → a ≡ d → b ≡ e → (a || b) ≡ (d || e)
  or-both a b d e f g = ap (λ (x : Bool). x || b) f ∙ ap (λ (x : Bool). d || x) g

  pub falls : (n m : Node WholeQueues) (link : ℕ) → down n.parts link ≡ false → IsAlikeBut c n m link → (IsSized c n → link < length c.links → HasFallen n m link) → K shape o c well n m
  falls n m link up e f = goes-by-end n m link e (λ s. up-listed c n link s.links up) (λ p h sized inside s.
      let its : Place = place c link in
      let near : LinkEnd = (line_at p its).near in
      let fell : HasFallen n m link = f sized inside in
      let is_up : near.up ≡ true = s.up ∙ ap not up in
      let unawaited : near.awaited ≡ false = not-beside near.awaited (end-at shape o c well p link h).awaited is_up in
      record {
        end = (with_failure (line_at p its)).near;
        came = refl;
        shown = record {
          queue = fell.queue ∙ s.queue;
          up = sym (ap (λ (x : Alignment). not (is_down x)) fell.alignment);
          serving = sym (ap (λ (x : Alignment). is_in_service x) fell.alignment);
          incomplete = or-both near.serving near.incomplete (in_service n.parts link) (changeover_of n.parts link).incomplete s.serving s.incomplete ∙ sym fell.incomplete;
          awaited = unawaited ∙ sym (fell.awaited (sym s.awaited ∙ unawaited));
          heard = λ heard. (let none : false ≡ true = sym (ap is_heard fell.alignment) ∙ heard in absurd cc);
        };
        move = moves.falls (record { place = its; up = is_up; after = end-set shape p its _ _ (link-inside shape o c well link) (own-inside shape o c well link) });
      })

  -- ---- an order goes out about a link that fell

  pub record HasAsked (n m : Node WholeQueues) (link : ℕ) : Type 0 where
    pub queue : queue_at m.queues link ≡ queue_at n.queues link
    pub alignment : (link_at m.parts link).alignment ≡ (link_at n.parts link).alignment
    pub incomplete : (changeover_of n.parts link).incomplete ≡ true
    pub unawaited : (changeover_of n.parts link).awaited ≡ false
    pub still : (changeover_of m.parts link).incomplete ≡ true
    pub awaited : (changeover_of m.parts link).awaited ≡ true

  pub orders : (n m : Node WholeQueues) (link : ℕ) (a l : List Message) (k : Books) → IsAlikeBut c n m link → (IsSized c n → link < length c.links) → (IsSized c n → link < length c.links → HasAsked n m link)
      → Goes shape c (mid n a l k) (mid m a (changeover_order c link (last_accepted (queue_at n.queues link)) ∷ l) k)
  orders n m link a l k e listed f = record {
    grown = same-grown (ap (λ (k : Marks). k.broken) e.marks);
    goes = λ p h s.
        let its : Place = place c link in
        let near : LinkEnd = (line_at p its).near in
        let inside : link < length c.links = listed s.sized in
        let shown : IsShown n link near = s.ends link inside in
        let asked : HasAsked n m link = f s.sized inside in
        let order : Message = changeover_order c link (last_accepted (queue_at n.queues link)) in
        let b : IsBooked (node_at shape p its) (mid m a l k) =
        booked-alike (node_at shape p its) n m a l k e.held e.lost (subst (λ (x : net.Node). IsBooked x (mid n a l k)) (sym (node-there p link)) s.booked) in
        by-line shape o c well p (mid n a l k) (mid m a (order ∷ l) k) link (with_wait (line_at p its) true).near (record (node_at shape p its) { bag = order ∷ (node_at shape p its).bag }) s
        (record {
          inside = inside;
          sized = e.sized s.sized;
          shown = record {
            queue = asked.queue ∙ shown.queue;
            up = shown.up ∙ ap (λ (x : Alignment). not (is_down x)) (sym asked.alignment);
            serving = shown.serving ∙ ap (λ (x : Alignment). is_in_service x) (sym asked.alignment);
            incomplete = shown.incomplete ∙ asked.incomplete ∙ sym asked.still;
            awaited = sym asked.awaited;
            heard = λ heard. shown.heard (ap is_heard (sym asked.alignment) ∙ heard);
          };
          others = e.others;
          came = refl;
          booked = record {
            bag = λ test. omega (arith, b.bag test, count-cons test order l, count-cons test order (node_at shape p its).bag);
            accepted = b.accepted;
            named = b.named;
            within = b.within;
          };
        })
        (moves.orders (record {
          place = its;
          incomplete = shown.incomplete ∙ asked.incomplete;
          unawaited = shown.awaited ∙ asked.unawaited;
          order = order;
          says = order-says c well link (last_accepted (queue_at n.queues link)) (number-fits _) ∙ ap (order_at its) (last-same n link near shown);
          after = end-set shape p its _ _ (link-inside shape o c well link) (own-inside shape o c well link);
        }));
  }
