-- A changeover is completed, and an order is answered: one move each.
use Rattle.node_moves.proofs.Basics.{◌≡◌, ◌≢◌, ℕ, Bool, true, false, not, ◌+◌, ◌≤◌, ◌<◌, List, [], ◌∷◌, ◌++◌, length, Option, Some, None, drop, count_by, min, refl, ap, sym, subst, ◌∙◌, arith, get_or-set_same, get_or-set_other, get_or_past, length-set, ⊎_elim, cases_lt, slice_index_or}
use Rattle.node_moves.proofs.Machine.{is_user_message, user, Phase, Live, Moved, Gone, LinkEnd, Network, Shape, Place, line_at, node_at, NodeBecomes, IsTakenFrom}
use Rattle.node_moves.proofs.Definitions.{Message, Configuration, IsWell, Node, WholeQueues, whole, with_parts, queue_at, down, changeover_of, Queue, first_queue, emptied, last_accepted, Standing, no_changeover, Link, is_down, is_in_service}
use Rattle.node_moves.proofs.Reading.{IsShape, says_of, order_at, answer_at, across}
use Rattle.node_moves.proofs.Sets.{with_node, node-set, end-set, break-set}
use Rattle.node_moves.proofs.Shown.{Books, naming, Mid, Shows, IsShown, IsAlike, IsSized, IsSilent, IsBooked, Marks, shown_in, is_heard, place, users_that, any_message, most, shown-alike, link-inside, own-inside, at-own}
use Rattle.node_moves.proofs.Grown.{Grown, IsUnraised, same-grown, both-grown, more-grown, raised-not}
use Rattle.node_moves.proofs.Going.{IsAt, Goes, by-line, by-break}
use Rattle.node_moves.proofs.Own.{K}
use Rattle.node_moves.proofs.Handling.{mid, bag_of, count-bag, end-at, taken-arrived, but-none, goes-by-node, live-queue}
use Rattle.node_moves.proofs.Failures.{booked-alike, node-there, last-same, answer-says, number-fits}
use Rattle.node_moves.proofs.Failing.{HasParts, standing-but, standing-is}
use Rattle.node_moves.proofs.Losing.{users-among, count-split, users-within, doubtful}
use Rattle.changeover.specs.Changeover.{users_of, managements_of, behind, accepted_count, in_doubt, lost, with_standing}
use Rattle.exchange_rules.proofs.Steps.{ways_of}
use Rattle.exchange_rules.specs.ChangingOver.{changeover_acknowledgement}
use Rattle.exchange_rules.specs.State.{once_more}
use Rattle.link.specs.Queue.{named_count}
use Rattle.network_moves.proofs.Counts.{count-cons, count-append}
use Rattle.network_moves.proofs.Words.{one-no_user}
use Rattle.network_moves.specs.Failing.{with_completion, with_wait, sent_unconfirmed}
use Rattle.network_moves.specs.Moves as moves
use Rattle.network_moves.specs.Networks as net
use Rattle.network_moves.specs.Returning.{without_sent}
use Rattle.node_links.specs.NodeLinks.{link_in}

-- ---- a changeover that isn't complete is one of a link

pub begun-listed : (c : Configuration) (n : Node WholeQueues) (link : ℕ) → IsSized c n → (changeover_of n.parts link).incomplete ≡ true → link < length c.links
begun-listed c n link s e =
    ⊎_elim (λ (l : link < length c.links). l)
    (λ (l : length c.links ≤ link).
    let none : changeover_of n.parts link ≡ no_changeover = get_or_past n.parts.changeovers link no_changeover (subst (λ (k : ℕ). k ≤ link) (sym s.changeovers) l) in
    let no : true ≡ false = sym e ∙ ap (λ (x : Standing). x.incomplete) none in
    absurd cc)
    (cases_lt link (length c.links))

pub awaited-listed : (c : Configuration) (n : Node WholeQueues) (link : ℕ) → IsSized c n → (changeover_of n.parts link).awaited ≡ true → link < length c.links
awaited-listed c n link s e =
    ⊎_elim (λ (l : link < length c.links). l)
    (λ (l : length c.links ≤ link).
    let none : changeover_of n.parts link ≡ no_changeover = get_or_past n.parts.changeovers link no_changeover (subst (λ (k : ℕ). k ≤ link) (sym s.changeovers) l) in
    let no : true ≡ false = sym e ∙ ap (λ (x : Standing). x.awaited) none in
    absurd cc)
    (cases_lt link (length c.links))

-- a node that has counted a break
abbrev pub raised : Node WholeQueues → Node WholeQueues
raised n = with_parts n (record n.parts { times_broken = once_more n.parts.times_broken })

pub raised-shows : (c : Configuration) (p : Network) (n : Node WholeQueues) (a l : List Message) (k : Books) → Shows c p (mid n a l k) → Shows c p (mid (raised n) a l k)
raised-shows c p n a l k s = record {
  sized = record { links = s.sized.links; queues = s.sized.queues; changeovers = s.sized.changeovers; silent = s.sized.silent; ways = s.sized.ways };
  ends = λ other there. shown-alike n (raised n) other (line_at p (place c other)).near (record { queue = refl; alignment = refl; standing = refl }) (s.ends other there);
  booked = record { bag = s.booked.bag; accepted = s.booked.accepted; named = s.booked.named; within = s.booked.within };
}

-- ---- what a completion leaves

pub record HasEnded (n m : Node WholeQueues) (link : ℕ) (number : Option ℕ) (s : Standing) : Type 0 where
  pub queues : m.queues ≡ whole.completed n.queues link number
  pub links : m.parts.links ≡ n.parts.links
  pub changeovers : m.parts.changeovers ≡ with_standing n.parts.changeovers link s
  pub routes : m.parts.routes ≡ n.parts.routes
  pub complete : s.incomplete ≡ false

module _ (c : Configuration) (n m : Node WholeQueues) (link : ℕ) (number : Option ℕ) (s : Standing) (h : HasEnded n m link number s) where
  abbrev left : List Message
  left = behind (queue_at n.queues link) (accepted_count (queue_at n.queues link) number)

  pub ended-sized : IsSized c n → IsSized c m
  ended-sized z = record {
    links = ap (λ (xs : List Link). length xs) h.links ∙ z.links;
    queues = ap (λ (q : WholeQueues). length q.links) h.queues ∙ length-set n.queues.links link (emptied (queue_at n.queues link)) ∙ z.queues;
    changeovers = ap (λ (xs : List Standing). length xs) h.changeovers ∙ length-set n.parts.changeovers link s ∙ z.changeovers;
    silent = λ other. subst (λ (xs : List Link). IsSilent (link_in xs other)) (sym h.links) (z.silent other);
    ways = ap ways_of h.routes ∙ z.ways;
  }

  pub ended-others : (other : ℕ) → other ≢ link → IsAlike n m other
  ended-others other d = record {
    queue = ap (λ (q : WholeQueues). queue_at q other) h.queues ∙ get_or-set_other n.queues.links link other (emptied (queue_at n.queues link)) first_queue d;
    alignment = ap (λ (xs : List Link). (link_in xs other).alignment) h.links;
    standing = ap (λ (xs : List Standing). slice_index_or xs other no_changeover) h.changeovers ∙ get_or-set_other n.parts.changeovers link other s no_changeover d;
  }

  pub ended-standing : IsSized c n → link < length c.links → changeover_of m.parts link ≡ s
  ended-standing z l =
      ap (λ (xs : List Standing). slice_index_or xs link no_changeover) h.changeovers ∙ get_or-set_same n.parts.changeovers link s no_changeover (subst (λ (k : ℕ). link < k) (sym z.changeovers) l)

  ended-queue : IsSized c n → link < length c.links → queue_at m.queues link ≡ emptied (queue_at n.queues link)
  ended-queue z l =
      ap (λ (q : WholeQueues). queue_at q link) h.queues ∙ get_or-set_same n.queues.links link (emptied (queue_at n.queues link)) first_queue (subst (λ (k : ℕ). link < k) (sym z.queues) l)

  -- the end as the machine has it then
  pub ended-shown : (near : LinkEnd) (phase : Phase) → IsSized c n → link < length c.links → near.phase ≡ Live → IsShown n link near → shown_in phase near.queue ≡ emptied near.queue
      → IsShown m link (record near { phase = phase; incomplete = false; awaited = s.awaited })
  ended-shown near phase z l live x empty = record {
    queue = ended-queue z l ∙ ap emptied (x.queue ∙ ap (λ ph. shown_in ph near.queue) live) ∙ sym empty;
    up = x.up ∙ ap (λ (xs : List Link). not (is_down (link_in xs link).alignment)) (sym h.links);
    serving = x.serving ∙ ap (λ (xs : List Link). is_in_service (link_in xs link).alignment) (sym h.links);
    incomplete = sym h.complete ∙ ap (λ (t : Standing). t.incomplete) (sym (ended-standing z l));
    awaited = ap (λ (t : Standing). t.awaited) (sym (ended-standing z l));
    heard = λ heard. x.heard (ap (λ (xs : List Link). is_heard (link_in xs link).alignment) (sym h.links) ∙ heard);
  }

  -- what is in Held, and what is management
  pub ended-held : (test : Message → Bool) → count_by test m.queues.held + count_by test (managements_of left) ≡ count_by test left + count_by test n.queues.held
  ended-held test =
      omega (
        arith,
        ap (λ (q : WholeQueues). count_by test q.held) h.queues,
        count-append test (users_of left) n.queues.held,
        count-split test left,
      )

module _ (shape : Shape) (o : IsShape shape) (c : Configuration) (well : IsWell c) (link : ℕ) where
  abbrev its : Place
  its = place c link

  -- the answer about the link
  abbrev pub answer_of : Node WholeQueues → Message
  answer_of n = changeover_acknowledgement c link (last_accepted (queue_at n.queues link))

  answers-so : (p : Network) (n : Node WholeQueues) → IsShown n link (line_at p its).near → says_of (answer_of n) ≡ answer_at its (last_accepted (line_at p its).near.queue)
  answers-so p n x = answer-says c well link (last_accepted (queue_at n.queues link)) (number-fits _) ∙ ap (answer_at its) (last-same n link (line_at p its).near x)

  booked-there : (p : Network) (v : Mid) → Shows c p v → IsBooked (node_at shape p its) v
  booked-there p v s = subst (λ (x : net.Node). IsBooked x v) (sym (node-there shape o c well p link)) s.booked

  taken-there : (p : Network) (n : Node WholeQueues) (word : Message) (a l : List Message) (k : Books) → Shows c p (mid n (word ∷ a) l k) → IsTakenFrom (node_at shape p its).bag word (bag_of (mid n a l k))
  taken-there p n word a l k s = subst (λ (x : net.Node). IsTakenFrom x.bag word (bag_of (mid n a l k))) (sym (node-there shape o c well p link)) (taken-arrived shape o c well p n word a l k s)

  live-there : (p : Network) → IsAt shape c p → (line_at p its).near.incomplete ≡ true → (line_at p its).near.phase ≡ Live
  live-there p h e = (end-at shape o c well p link h).live_incomplete e

  -- ---- by a word

  module _ (n m : Node WholeQueues) (number count : ℕ) (s : Standing) (word : Message) (h : HasEnded n m link (Some number) s) (found : accepted_count (queue_at n.queues link) (Some number) ≡ Some count)
      (lost : m.parts.messages_lost ≡ n.parts.messages_lost) (grows : Grown n.parts.times_broken m.parts.times_broken) (begun : (changeover_of n.parts link).incomplete ≡ true) where
    abbrev behind_it : List Message
    behind_it = behind (queue_at n.queues link) (accepted_count (queue_at n.queues link) (Some number))

    moved-so : (near : LinkEnd) → near.phase ≡ Live → IsShown n link near → behind_it ≡ drop count near.queue.all
    moved-so near live x = ap (behind (queue_at n.queues link)) found ∙ ap (λ (q : Queue). drop count q.all) (live-queue shape o c well n link near live x)

    named-so : (near : LinkEnd) → near.phase ≡ Live → IsShown n link near → named_count near.queue number ≡ Some count
    named-so near live x = ap (λ (q : Queue). named_count q number) (sym (live-queue shape o c well n link near live x)) ∙ found

    pub completes-by-order : (a l : List Message) (k : Books) → says_of word ≡ order_at (across its) number → s.awaited ≡ (changeover_of n.parts link).awaited
        → Goes shape c (mid n (word ∷ a) l k) (mid m a (managements_of behind_it ++ answer_of n ∷ l) k)
    completes-by-order a l k says waits = record {
      grown = grows;
      goes = λ p at z.
          let near : LinkEnd = (line_at p its).near in
          let inside : link < length c.links = begun-listed c n link z.sized begun in
          let x : IsShown n link near = z.ends link inside in
          let incomplete : near.incomplete ≡ true = x.incomplete ∙ begun in
          let live : near.phase ≡ Live = live-there p at incomplete in
          let rest : List Message = bag_of (mid n a l k) in
          let b : IsBooked (node_at shape p its) (mid n (word ∷ a) l k) = booked-there p (mid n (word ∷ a) l k) z in
          let new : net.Node = record (node_at shape p its) { bag = answer_of n ∷ (drop count near.queue.all ++ rest) } in
          let plain : is_user_message (says_of word) ≡ false = ap is_user_message says in
          let same : (with_completion (line_at p its) Moved near.awaited).near ≡ record near { phase = Moved; incomplete = false; awaited = s.awaited } =
          ap (λ (b : Bool). record near { phase = Moved; incomplete = false; awaited = b }) (x.awaited ∙ sym waits) in
          by-line shape o c well p (mid n (word ∷ a) l k) (mid m a (managements_of behind_it ++ answer_of n ∷ l) k) link (with_completion (line_at p its) Moved near.awaited).near new z
          (record {
            inside = inside;
            sized = ended-sized c n m link (Some number) s h z.sized;
            shown = subst (IsShown m link) (sym same) (ended-shown c n m link (Some number) s h near Moved z.sized inside live x refl);
            others = ended-others c n m link (Some number) s h;
            came = refl;
            booked = record {
              bag = λ test. omega (
                arith,
                ended-held c n m link (Some number) s h test,
                ap (count_by test) (moved-so near live x),
                count-cons test (answer_of n) (drop count near.queue.all ++ rest),
                count-append test (drop count near.queue.all) rest,
                count-bag (mid n a l k) test,
                count-append test (managements_of behind_it) (answer_of n ∷ l),
                count-cons test (answer_of n) l,
              );
              accepted = λ test. omega (arith, b.accepted test, count-cons (user says_of test) word a, one-no_user says_of word plain test);
              named = subst (λ (times : ℕ). min (users_that any_message (node_at shape p its).named) most ≤ times) (sym lost) b.named;
              within = b.within;
            };
          })
          (moves.completes_by_order (record {
            place = its;
            number = number;
            order = word;
            rest = rest;
            taken = taken-there p n word a l k z;
            says = says;
            incomplete = incomplete;
            count = count;
            named = named-so near live x;
            answer = answer_of n;
            answers = answers-so p n x;
            after = end-set shape p its _ _ (link-inside shape o c well link) (own-inside shape o c well link);
          }));
    }

    pub completes-by-answer : (a l : List Message) (k : Books) → says_of word ≡ answer_at (across its) number → (changeover_of n.parts link).awaited ≡ true → s.awaited ≡ false
        → Goes shape c (mid n (word ∷ a) l k) (mid m a (managements_of behind_it ++ l) k)
    completes-by-answer a l k says awaited ended = record {
      grown = grows;
      goes = λ p at z.
          let near : LinkEnd = (line_at p its).near in
          let inside : link < length c.links = begun-listed c n link z.sized begun in
          let x : IsShown n link near = z.ends link inside in
          let incomplete : near.incomplete ≡ true = x.incomplete ∙ begun in
          let live : near.phase ≡ Live = live-there p at incomplete in
          let rest : List Message = bag_of (mid n a l k) in
          let b : IsBooked (node_at shape p its) (mid n (word ∷ a) l k) = booked-there p (mid n (word ∷ a) l k) z in
          let new : net.Node = record (node_at shape p its) { bag = drop count near.queue.all ++ rest } in
          let plain : is_user_message (says_of word) ≡ false = ap is_user_message says in
          let same : (with_completion (line_at p its) Moved false).near ≡ record near { phase = Moved; incomplete = false; awaited = s.awaited } =
          ap (λ (b : Bool). record near { phase = Moved; incomplete = false; awaited = b }) (sym ended) in
          by-line shape o c well p (mid n (word ∷ a) l k) (mid m a (managements_of behind_it ++ l) k) link (with_completion (line_at p its) Moved false).near new z
          (record {
            inside = inside;
            sized = ended-sized c n m link (Some number) s h z.sized;
            shown = subst (IsShown m link) (sym same) (ended-shown c n m link (Some number) s h near Moved z.sized inside live x refl);
            others = ended-others c n m link (Some number) s h;
            came = refl;
            booked = record {
              bag = λ test. omega (
                arith,
                ended-held c n m link (Some number) s h test,
                ap (count_by test) (moved-so near live x),
                count-append test (drop count near.queue.all) rest,
                count-bag (mid n a l k) test,
                count-append test (managements_of behind_it) l,
              );
              accepted = λ test. omega (arith, b.accepted test, count-cons (user says_of test) word a, one-no_user says_of word plain test);
              named = subst (λ (times : ℕ). min (users_that any_message (node_at shape p its).named) most ≤ times) (sym lost) b.named;
              within = b.within;
            };
          })
          (moves.completes_by_answer (record {
            place = its;
            number = number;
            answer = word;
            rest = rest;
            taken = taken-there p n word a l k z;
            says = says;
            awaited = x.awaited ∙ awaited;
            incomplete = incomplete;
            count = count;
            named = named-so near live x;
            after = end-set shape p its _ _ (link-inside shape o c well link) (own-inside shape o c well link);
          }));
    }

  -- ---- by a word whose number names nothing: this breaks the node

  module _ (n m : Node WholeQueues) (number : ℕ) (s : Standing) (word : Message) (h : HasEnded n m link (Some number) s) (none_such : accepted_count (queue_at n.queues link) (Some number) ≡ None)
      (lost : (x : ℕ) → min x most ≤ n.parts.messages_lost → min x most ≤ m.parts.messages_lost) (grows : Grown n.parts.times_broken m.parts.times_broken)
      (counted : IsUnraised n.parts.times_broken m.parts.times_broken → ⊥) (begun : (changeover_of n.parts link).incomplete ≡ true) where
    abbrev unsent : List Message
    unsent = behind (queue_at n.queues link) (accepted_count (queue_at n.queues link) (Some number))

    unsent-so : (near : LinkEnd) → near.phase ≡ Live → IsShown n link near → unsent ≡ drop near.queue.sent near.queue.all
    unsent-so near live x = ap (behind (queue_at n.queues link)) none_such ∙ ap (λ (q : Queue). drop q.sent q.all) (live-queue shape o c well n link near live x)

    unnamed-so : (near : LinkEnd) → near.phase ≡ Live → IsShown n link near → named_count near.queue number ≡ None
    unnamed-so near live x = ap (λ (q : Queue). named_count q number) (sym (live-queue shape o c well n link near live x)) ∙ none_such

    pub breaks-by-order : (a l : List Message) (k : Books) → says_of word ≡ order_at (across its) number → s.awaited ≡ (changeover_of n.parts link).awaited
        → Goes shape c (mid n (word ∷ a) l k) (mid m a (managements_of unsent ++ answer_of n ∷ l) k)
    breaks-by-order a l k says waits = record {
      grown = grows;
      goes = λ p at z.
          let near : LinkEnd = (line_at p its).near in
          let inside : link < length c.links = begun-listed c n link z.sized begun in
          let x : IsShown n link near = z.ends link inside in
          let incomplete : near.incomplete ≡ true = x.incomplete ∙ begun in
          let live : near.phase ≡ Live = live-there p at incomplete in
          let rest : List Message = bag_of (mid n a l k) in
          let b : IsBooked (node_at shape p its) (mid n (word ∷ a) l k) = booked-there p (mid n (word ∷ a) l k) z in
          let new : net.Node = without_sent (record (node_at shape p its) { bag = answer_of n ∷ rest }) near.queue [] in
          let plain : is_user_message (says_of word) ≡ false = ap is_user_message says in
          let same : (with_completion (line_at p its) Gone near.awaited).near ≡ record near { phase = Gone; incomplete = false; awaited = s.awaited } =
          ap (λ (b : Bool). record near { phase = Gone; incomplete = false; awaited = b }) (x.awaited ∙ sym waits) in
          by-break shape o c well p (mid n (word ∷ a) l k) (mid m a (managements_of unsent ++ answer_of n ∷ l) k) link (with_completion (line_at p its) Gone near.awaited).near new z
          (record {
            inside = inside;
            sized = ended-sized c n m link (Some number) s h z.sized;
            shown = subst (IsShown m link) (sym same) (ended-shown c n m link (Some number) s h near Gone z.sized inside live x refl);
            others = ended-others c n m link (Some number) s h;
            came = refl;
            booked = record {
              bag = λ test. omega (
                arith,
                ended-held c n m link (Some number) s h test,
                ap (count_by test) (unsent-so near live x),
                count-cons test (answer_of n) rest,
                count-append test (drop near.queue.sent near.queue.all) (answer_of n ∷ rest),
                count-bag (mid n a l k) test,
                count-append test (managements_of unsent) (answer_of n ∷ l),
                count-cons test (answer_of n) l,
              );
              accepted = λ test. omega (arith, b.accepted test, count-cons (user says_of test) word a, one-no_user says_of word plain test);
              named = lost (users_that any_message (node_at shape p its).named) b.named;
              within = b.within;
            };
          })
          counted
          (moves.hears_unreasonable_order (record {
            place = its;
            number = number;
            order = word;
            rest = rest;
            taken = taken-there p n word a l k z;
            says = says;
            incomplete = incomplete;
            unreasonable = unnamed-so near live x;
            answer = answer_of n;
            answers = answers-so p n x;
            named = [];
            after = break-set shape p its _ _ (link-inside shape o c well link) (own-inside shape o c well link);
          }));
    }

    pub breaks-by-answer : (a l : List Message) (k : Books) → says_of word ≡ answer_at (across its) number → (changeover_of n.parts link).awaited ≡ true → s.awaited ≡ false
        → Goes shape c (mid n (word ∷ a) l k) (mid m a (managements_of unsent ++ l) k)
    breaks-by-answer a l k says awaited ended = record {
      grown = grows;
      goes = λ p at z.
          let near : LinkEnd = (line_at p its).near in
          let inside : link < length c.links = begun-listed c n link z.sized begun in
          let x : IsShown n link near = z.ends link inside in
          let incomplete : near.incomplete ≡ true = x.incomplete ∙ begun in
          let live : near.phase ≡ Live = live-there p at incomplete in
          let rest : List Message = bag_of (mid n a l k) in
          let b : IsBooked (node_at shape p its) (mid n (word ∷ a) l k) = booked-there p (mid n (word ∷ a) l k) z in
          let new : net.Node = without_sent (record (node_at shape p its) { bag = rest }) near.queue [] in
          let plain : is_user_message (says_of word) ≡ false = ap is_user_message says in
          let same : (with_completion (line_at p its) Gone false).near ≡ record near { phase = Gone; incomplete = false; awaited = s.awaited } =
          ap (λ (b : Bool). record near { phase = Gone; incomplete = false; awaited = b }) (sym ended) in
          by-break shape o c well p (mid n (word ∷ a) l k) (mid m a (managements_of unsent ++ l) k) link (with_completion (line_at p its) Gone false).near new z
          (record {
            inside = inside;
            sized = ended-sized c n m link (Some number) s h z.sized;
            shown = subst (IsShown m link) (sym same) (ended-shown c n m link (Some number) s h near Gone z.sized inside live x refl);
            others = ended-others c n m link (Some number) s h;
            came = refl;
            booked = record {
              bag = λ test. omega (
                arith,
                ended-held c n m link (Some number) s h test,
                ap (count_by test) (unsent-so near live x),
                count-append test (drop near.queue.sent near.queue.all) rest,
                count-bag (mid n a l k) test,
                count-append test (managements_of unsent) l,
              );
              accepted = λ test. omega (arith, b.accepted test, count-cons (user says_of test) word a, one-no_user says_of word plain test);
              named = lost (users_that any_message (node_at shape p its).named) b.named;
              within = b.within;
            };
          })
          counted
          (moves.hears_unreasonable_answer (record {
            place = its;
            number = number;
            answer = word;
            rest = rest;
            taken = taken-there p n word a l k z;
            says = says;
            awaited = x.awaited ∙ awaited;
            incomplete = incomplete;
            unreasonable = unnamed-so near live x;
            named = [];
            after = break-set shape p its _ _ (link-inside shape o c well link) (own-inside shape o c well link);
          }));
    }

  -- ---- by time

  pub completes-by-time : (n m : Node WholeQueues) (s : Standing) (a l : List Message) (k : Books) → HasEnded n m link None s → (changeover_of n.parts link).incomplete ≡ true → s.awaited ≡ (changeover_of n.parts link).awaited
      → ((x : ℕ) → min x most ≤ n.parts.messages_lost → min (length (users_of (in_doubt (queue_at n.queues link) None)) + x) most ≤ m.parts.messages_lost)
      → Grown n.parts.times_broken m.parts.times_broken
      → Goes shape c (mid n a l k) (mid m a (managements_of (behind (queue_at n.queues link) None) ++ l) (naming k (users_of (in_doubt (queue_at n.queues link) None))))
  completes-by-time n m s a l k h begun waits lost grows = record {
    grown = grows;
    goes = λ p at z.
        let near : LinkEnd = (line_at p its).near in
        let q : Queue = queue_at n.queues link in
        let inside : link < length c.links = begun-listed c n link z.sized begun in
        let x : IsShown n link near = z.ends link inside in
        let incomplete : near.incomplete ≡ true = x.incomplete ∙ begun in
        let live : near.phase ≡ Live = live-there p at incomplete in
        let is : q ≡ near.queue = live-queue shape o c well n link near live x in
        let b : IsBooked (node_at shape p its) (mid n a l k) = booked-there p (mid n a l k) z in
        let new : net.Node = record (node_at shape p its) { bag = drop near.queue.sent near.queue.all ++ (node_at shape p its).bag; named = sent_unconfirmed near.queue ++ (node_at shape p its).named } in
        let same : (with_completion (line_at p its) Gone near.awaited).near ≡ record near { phase = Gone; incomplete = false; awaited = s.awaited } =
        ap (λ (b : Bool). record near { phase = Gone; incomplete = false; awaited = b }) (x.awaited ∙ sym waits) in
        let unsure : sent_unconfirmed near.queue ≡ in_doubt q None = doubtful near.queue (end-at shape o c well p link at).queue.confirmed ∙ ap (λ (r : Queue). in_doubt r None) (sym is) in
        by-line shape o c well p (mid n a l k) (mid m a (managements_of (behind q None) ++ l) (naming k (users_of (in_doubt q None)))) link (with_completion (line_at p its) Gone near.awaited).near new z
        (record {
          inside = inside;
          sized = ended-sized c n m link None s h z.sized;
          shown = subst (IsShown m link) (sym same) (ended-shown c n m link None s h near Gone z.sized inside live x refl);
          others = ended-others c n m link None s h;
          came = refl;
          booked = record {
            bag = λ test. omega (
              arith,
              b.bag test,
              ended-held c n m link None s h test,
              ap (λ (r : Queue). count_by test (drop r.sent r.all)) is,
              count-append test (drop near.queue.sent near.queue.all) (node_at shape p its).bag,
              count-append test (managements_of (behind q None)) l,
            );
            accepted = b.accepted;
            named = omega (
              arith,
              lost (users_that any_message (node_at shape p its).named) b.named,
              count-append (user says_of any_message) (sent_unconfirmed near.queue) (node_at shape p its).named,
              ap (users_that any_message) unsure,
              users-within (in_doubt q None),
            );
            within = λ test. omega (
              arith,
              b.within test,
              count-append (user says_of test) (sent_unconfirmed near.queue) (node_at shape p its).named,
              count-append (user says_of test) k.named (users_of (in_doubt q None)),
              ap (users_that test) unsure,
              users-among test (in_doubt q None),
            );
          };
        })
        (moves.completes_by_time (record {
          place = its;
          incomplete = incomplete;
          after = end-set shape p its _ _ (link-inside shape o c well link) (own-inside shape o c well link);
        }));
  }

  -- ---- an order about what is complete is answered

  pub answers-order : (n : Node WholeQueues) (number : ℕ) (word : Message) (a l : List Message) (k : Books) → link < length c.links → says_of word ≡ order_at (across its) number → down n.parts link ≡ true
      → (changeover_of n.parts link).incomplete ≡ false → Goes shape c (mid n (word ∷ a) l k) (mid n a (answer_of n ∷ l) k)
  answers-order n number word a l k inside says gone complete = goes-by-node shape o c well _ _ (but-none shape o c well n) (λ p at z.
      let x : IsShown n link (line_at p its).near = z.ends link inside in
      let rest : List Message = bag_of (mid n a l k) in
      let b : IsBooked (node_at shape p its) (mid n (word ∷ a) l k) = booked-there p (mid n (word ∷ a) l k) z in
      let new : net.Node = record (node_at shape p its) { bag = answer_of n ∷ rest } in
      let plain : is_user_message (says_of word) ≡ false = ap is_user_message says in (
        new,
        record {
          bag = λ test. omega (arith, count-cons test (answer_of n) rest, count-bag (mid n a l k) test, count-cons test (answer_of n) l);
          accepted = λ test. omega (arith, b.accepted test, count-cons (user says_of test) word a, one-no_user says_of word plain test);
          named = b.named;
          within = b.within;
        },
        moves.answers_order (record {
          place = its;
          number = number;
          order = word;
          rest = rest;
          taken = taken-there p n word a l k z;
          says = says;
          down = x.up ∙ ap not gone;
          complete = x.incomplete ∙ complete;
          answer = answer_of n;
          answers = answers-so p n x;
          after = subst (λ (point : ℕ). NodeBecomes shape p (with_node p c.own new) point new) (sym (at-own shape o c well link)) (node-set shape p c.own new (o.nodes c.own well.own));
        }),
      ))

  -- ---- the wait ends without an answer: this breaks the node, which counts that

  pub ends-bar : (n m : Node WholeQueues) (s : Standing) → HasParts (raised n) m n.parts.links (with_standing n.parts.changeovers link s)
      → (changeover_of n.parts link).awaited ≡ true → s.incomplete ≡ (changeover_of n.parts link).incomplete → s.awaited ≡ false → K shape o c well n m
  ends-bar n m s h awaited same ended = record {
    each = λ a l k. record {
      grown = both-grown (more-grown n.parts.times_broken) (same-grown (ap (λ (k : Marks). k.broken) h.marks));
      goes = λ p at before.
          let z : Shows c p (mid (raised n) a l k) = raised-shows c p n a l k before in
          let near : LinkEnd = (line_at p its).near in
          let inside : link < length c.links = awaited-listed c (raised n) link z.sized awaited in
          let x : IsShown (raised n) link near = z.ends link inside in
          let is : changeover_of m.parts link ≡ s = standing-is c (raised n) m link s h z.sized inside in
          by-break shape o c well p (mid (raised n) a l k) (mid m a l k) link (with_wait (line_at p its) false).near (node_at shape p its) z
          (record {
            inside = inside;
            sized = (standing-but c (raised n) m link s h).sized z.sized;
            shown = record {
              queue = ap (λ (q : WholeQueues). queue_at q link) h.queues ∙ x.queue;
              up = x.up ∙ ap (λ (xs : List Link). not (is_down (link_in xs link).alignment)) (sym h.links);
              serving = x.serving ∙ ap (λ (xs : List Link). is_in_service (link_in xs link).alignment) (sym h.links);
              incomplete = x.incomplete ∙ sym same ∙ ap (λ (t : Standing). t.incomplete) (sym is);
              awaited = sym ended ∙ ap (λ (t : Standing). t.awaited) (sym is);
              heard = λ heard. x.heard (ap (λ (xs : List Link). is_heard (link_in xs link).alignment) (sym h.links) ∙ heard);
            };
            others = (standing-but c (raised n) m link s h).others;
            came = refl;
            booked = booked-alike (node_at shape p its) (raised n) m a l k (ap (λ (q : WholeQueues). q.held) h.queues) h.lost (booked-there p (mid (raised n) a l k) z);
          })
          (λ none. raised-not n.parts.times_broken (subst (IsUnraised n.parts.times_broken) (ap (λ (k : Marks). k.broken) h.marks) none))
          (moves.releases_bar (record {
            place = its;
            awaited = x.awaited ∙ awaited;
            after = break-set shape p its _ _ (link-inside shape o c well link) (own-inside shape o c well link);
          }));
    };
  }

  -- ---- an answer ends the wait

  pub ends-wait : (n m : Node WholeQueues) (number : ℕ) (s : Standing) (word : Message) (a l : List Message) (k : Books) → HasParts n m n.parts.links (with_standing n.parts.changeovers link s)
      → s.incomplete ≡ false → s.awaited ≡ false → says_of word ≡ answer_at (across its) number → (changeover_of n.parts link).awaited ≡ true → (changeover_of n.parts link).incomplete ≡ false
      → Goes shape c (mid n (word ∷ a) l k) (mid m a l k)
  ends-wait n m number s word a l k h complete ended says awaited was = record {
    grown = same-grown (ap (λ (k : Marks). k.broken) h.marks);
    goes = λ p at z.
        let near : LinkEnd = (line_at p its).near in
        let inside : link < length c.links = awaited-listed c n link z.sized awaited in
        let x : IsShown n link near = z.ends link inside in
        let rest : List Message = bag_of (mid n a l k) in
        let b : IsBooked (node_at shape p its) (mid n (word ∷ a) l k) = booked-there p (mid n (word ∷ a) l k) z in
        let is : changeover_of m.parts link ≡ s = standing-is c n m link s h z.sized inside in
        let plain : is_user_message (says_of word) ≡ false = ap is_user_message says in
        by-line shape o c well p (mid n (word ∷ a) l k) (mid m a l k) link (with_wait (line_at p its) false).near (record (node_at shape p its) { bag = rest }) z
        (record {
          inside = inside;
          sized = (standing-but c n m link s h).sized z.sized;
          shown = record {
            queue = ap (λ (q : WholeQueues). queue_at q link) h.queues ∙ x.queue;
            up = x.up ∙ ap (λ (xs : List Link). not (is_down (link_in xs link).alignment)) (sym h.links);
            serving = x.serving ∙ ap (λ (xs : List Link). is_in_service (link_in xs link).alignment) (sym h.links);
            incomplete = x.incomplete ∙ was ∙ sym complete ∙ ap (λ (t : Standing). t.incomplete) (sym is);
            awaited = sym ended ∙ ap (λ (t : Standing). t.awaited) (sym is);
            heard = λ heard. x.heard (ap (λ (xs : List Link). is_heard (link_in xs link).alignment) (sym h.links) ∙ heard);
          };
          others = (standing-but c n m link s h).others;
          came = refl;
          booked = record {
            bag = λ test. omega (arith, count-bag (mid n a l k) test, ap (λ (q : WholeQueues). count_by test q.held) h.queues);
            accepted = λ test. omega (arith, b.accepted test, count-cons (user says_of test) word a, one-no_user says_of word plain test);
            named = subst (λ (times : ℕ). min (users_that any_message (node_at shape p its).named) most ≤ times) (sym h.lost) b.named;
            within = b.within;
          };
        })
        (moves.ends_wait (record {
          place = its;
          number = number;
          answer = word;
          rest = rest;
          taken = taken-there p n word a l k z;
          says = says;
          awaited = x.awaited ∙ awaited;
          complete = x.incomplete ∙ was;
          after = end-set shape p its _ _ (link-inside shape o c well link) (own-inside shape o c well link);
        }));
  }
