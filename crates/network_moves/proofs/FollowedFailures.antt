-- Moves of a failure and its changeover are followed.
use Rattle.network_moves.proofs.Basics.{◌≡◌, ℕ, Bool, true, false, ◌+◌, ◌<◌, List, [], ◌∷◌, ◌++◌, count_by, drop, refl, ap, sym, ◌∙◌, subst, arith}
use Rattle.network_moves.proofs.Definitions.{Message, Queue, Saying, Order, Answer, user, Moved, Gone, Line, Node, Network, Shape, Place, line_at, point_at, node_at, one_if, named_count, with_failure, with_wait, with_completion, sent_unconfirmed, without_unconfirmed, IsTakenFrom, Falls, Orders, CompletesByOrder, AnswersOrder, CompletesByAnswer, EndsWait, CompletesByTime, last_of}
use Rattle.network_moves.specs.Failing.{final_number}
use Rattle.network_moves.specs.Moves as moves
use Rattle.network_moves.specs.Groups.{says_of_group}
use Rattle.network_moves.proofs.Counts.{count-cons, count-append}
use Rattle.network_moves.proofs.Masking.{node-set, line-set, within, is_of, masked, kept-saying, of-saying, users, IsLike, IsMask, line-within}
use Rattle.network_moves.proofs.Apart.{stays, drop-within, take-within, fewer, says-none, IsApart, IsApartLine, IsLess, apart-less, apart-line, apart-node, here, not-within}
use Rattle.network_moves.proofs.Following.{none-first, Edits, edits-one, edits-both, makes-one, makes-all, discards-one, taken-like, Follows, Works, follows-line, follows-node}
use Rattle.network_moves.proofs.FollowedNodes.{left-none, one-none}
use Rattle.network_moves.proofs.FollowedFrames.{follows-quiet, same-less}
use Rattle.std.specs.Prelude.{take}

module _ (shape : Shape) (read : Message → Saying) (group : ℕ → Bool) (for_group : Message → Bool) (p q k : Network) (a : IsApart shape read group for_group p) (h : IsMask shape read group for_group p k) where
  abbrev gone : Message → Bool
  gone = stays shape read group for_group false

  abbrev in_group : (link : ℕ) → Bool
  in_group = within shape read group for_group

  -- words about a link within, and about another
  order-within : (m : Message) (place : Place) (s : Saying) → read m ≡ s → says_of_group shape read group for_group (for_group m) s ≡ true → masked shape read group for_group m ≡ s
  order-within m place s e of = kept-saying shape read group for_group m (of-saying shape read group for_group m s e ∙ of) ∙ e

  pub follows-falls : Falls shape read p q → Follows shape read group for_group q k
  follows-falls m =
      let l : IsLess shape read group for_group (line_at p m.place) (line_at p m.place) = same-less shape read group for_group p q k a h (line_at p m.place) in
      follows-quiet shape read group for_group p q k a h m.place _ m.after (record { near = l.near; far = l.far; to_far = l.to_far; to_near = l.to_near }) (λ in_it e like. record {
        line = with_failure (line_at k m.place);
        node = node_at shape k m.place;
        move = moves.falls (record { place = m.place; up = ap (λ (v : Line). v.near.up) e ∙ m.up; after = line-set shape k m.place _ _ m.after.lines.inside m.after.inside });
        same = ap with_failure e;
        like = like;
      })

  -- a node with another bag
  abbrev with_bag : Node → List Message → Node
  with_bag n bag = record n { bag = bag }

  bag-like : (n v : Node) (ms ns : List Message) → IsLike shape read group for_group n v → ((test : Message → Bool) → count_by test ns ≡ count_by test ms) → IsLike shape read group for_group (with_bag n ms) (with_bag v ns)
  bag-like n v ms ns like e = record { bag = e; accepted = like.accepted; ended = like.ended; gone = like.gone; named = like.named }

  cons-like : (n v : Node) (m : Message) → IsLike shape read group for_group n v → IsLike shape read group for_group (with_bag n (m ∷ n.bag)) (with_bag v (m ∷ v.bag))
  cons-like n v m like = bag-like n v (m ∷ n.bag) (m ∷ v.bag) like (λ test. omega (arith, like.bag test, count-cons test m v.bag, count-cons test m n.bag))

  pub same-lines : (place : Place) → IsLess shape read group for_group (line_at p place) (line_at p place)
  same-lines place = same-less shape read group for_group p q k a h (line_at p place)

  pub follows-orders : Orders shape read p q → Follows shape read group for_group q k
  follows-orders m =
      let y : Line = line_at p m.place in
      let l : IsLess shape read group for_group y y = same-lines m.place in
      follows-line shape read group for_group p q k m.place (with_wait y true) _ m.after.lines m.after.here m.after.others a h
      (apart-line shape read group for_group p q m.place (with_wait y true) _ m.after.lines m.after.here m.after.others
      (λ out g. apart-less shape read group for_group m.place (with_wait y true) y (record { near = l.near; far = l.far; to_far = l.to_far; to_near = l.to_near }) g)
      (λ g none out. omega (arith, count-cons gone m.order (node_at shape p m.place).bag, says-none shape read group for_group false m.order _ m.says (not-within shape read group for_group m.place out), none)) a)
      (λ in_it e like. record {
        line = with_wait (line_at k m.place) true;
        node = with_bag (node_at shape k m.place) (m.order ∷ (node_at shape k m.place).bag);
        move = moves.orders (record {
          place = m.place;
          incomplete = ap (λ (v : Line). v.near.incomplete) e ∙ m.incomplete;
          unawaited = ap (λ (v : Line). v.near.awaited) e ∙ m.unawaited;
          order = m.order;
          says = order-within m.order m.place _ m.says in_it ∙ ap (λ (v : Line). Order m.place.link m.place.side (final_number v)) (sym e);
          after = line-set shape k m.place _ _ m.after.lines.inside m.after.inside;
        });
        same = ap (λ (v : Line). with_wait v true) e;
        like = cons-like (node_at shape p m.place) (node_at shape k m.place) m.order like;
      })
      (λ out at g like. record {
        node = with_bag (node_at shape k m.place) (m.order ∷ (node_at shape k m.place).bag);
        edits = makes-one shape read group for_group k (point_at shape m.place) (node_at shape k m.place) m.order m.after.inside refl (of-saying shape read group for_group m.order _ m.says ∙ out);
        like = cons-like (node_at shape p m.place) (node_at shape k m.place) m.order like;
      })

  -- ---- a word is taken out of a bag, and others come into it

  -- a word that says nothing to the group is taken out, and others that say nothing come in
  exchanges : (point : ℕ) (n : Node) (m : Message) (rest ms : List Message) → point < shape.nodes → IsLike shape read group for_group n (k.node point) → IsTakenFrom n.bag m rest → is_of shape read group for_group m ≡ false
      → count_by (is_of shape read group for_group) ms ≡ 0 → Works shape read group for_group k point (with_bag n (ms ++ rest))
  exchanges point n m rest ms inside like taken none others =
      let first : Edits shape read group for_group k point (with_bag (k.node point) rest) =
      discards-one shape read group for_group k point (k.node point) m rest inside refl (taken-like shape read group for_group n (k.node point) m rest like taken) none in
      record {
        node = with_bag (k.node point) (ms ++ rest);
        edits = edits-both shape read group for_group k point _ _ first
            (makes-all shape read group for_group ms (last_of k first.networks) point (with_bag (k.node point) rest) inside first.here others);
        like = bag-like n (k.node point) (ms ++ rest) (ms ++ rest) like (λ test. refl);
      }

  -- of a queue on a link that isn't within, no message concerns the group where its node is one of the group
  behind-none : (place : Place) (count : ℕ) → here shape read group for_group place ≡ true → IsApartLine shape read group for_group place (line_at p place)
      → count_by (is_of shape read group for_group) (drop count (line_at p place).near.queue.all) ≡ 0
  behind-none place count at g =
      omega (
        arith,
        drop-within (is_of shape read group for_group) count (line_at p place).near.queue.all,
        subst (λ (b : Bool). count_by (stays shape read group for_group b) (line_at p place).near.queue.all ≡ 0) at g.near,
      )

  -- and where it isn't, none is a word about a link within
  pub behind-gone : (place : Place) (count : ℕ) → IsApartLine shape read group for_group place (line_at p place) → count_by gone (drop count (line_at p place).near.queue.all) ≡ 0
  behind-gone place count g =
      omega (arith, drop-within gone count (line_at p place).near.queue.all, fewer shape read group for_group (here shape read group for_group place) (line_at p place).near.queue.all, g.near)

  one-of : (m : Message) → is_of shape read group for_group m ≡ false → one_if (is_of shape read group for_group m) ≡ 0
  one-of m e = ap one_if e

  pub follows-completes_by_order : CompletesByOrder shape read p q → Follows shape read group for_group q k
  follows-completes_by_order m =
      let y : Line = line_at p m.place in
      let z : Line = with_completion y Moved y.near.awaited in
      let l : IsLess shape read group for_group y y = same-lines m.place in
      let moved : Line → List Message = λ v. drop m.count v.near.queue.all in
      follows-line shape read group for_group p q k m.place z _ m.after.lines m.after.here m.after.others a h
      (apart-line shape read group for_group p q m.place z _ m.after.lines m.after.here m.after.others
      (λ out g. apart-less shape read group for_group m.place z y (record { near = l.near; far = l.far; to_far = l.to_far; to_near = l.to_near }) g)
      (λ g none out. omega (
        arith,
        count-cons gone m.answer (moved y ++ m.rest),
        count-append gone (moved y) m.rest,
        says-none shape read group for_group false m.answer _ m.answers (not-within shape read group for_group m.place out),
        behind-gone m.place m.count g,
        left-none shape read group for_group p q k a h (node_at shape p m.place).bag m.rest m.order m.taken none,
      )) a)
      (λ in_it e like. record {
        line = with_completion (line_at k m.place) Moved (line_at k m.place).near.awaited;
        node = with_bag (node_at shape k m.place) (m.answer ∷ (moved (line_at k m.place) ++ m.rest));
        move = moves.completes_by_order (record {
          place = m.place;
          number = m.number;
          order = m.order;
          rest = m.rest;
          taken = taken-like shape read group for_group (node_at shape p m.place) (node_at shape k m.place) m.order m.rest like m.taken;
          says = order-within m.order m.place _ m.says in_it;
          incomplete = ap (λ (v : Line). v.near.incomplete) e ∙ m.incomplete;
          count = m.count;
          named = ap (λ (v : Line). named_count v.near.queue m.number) e ∙ m.named;
          answer = m.answer;
          answers = order-within m.answer m.place _ m.answers in_it ∙ ap (λ (v : Line). Answer m.place.link m.place.side (final_number v)) (sym e);
          after = line-set shape k m.place _ _ m.after.lines.inside m.after.inside;
        });
        same = ap (λ (v : Line). with_completion v Moved v.near.awaited) e;
        like = bag-like (node_at shape p m.place) (node_at shape k m.place) _ _ like (λ test. ap (λ (v : Line). count_by test (m.answer ∷ (moved v ++ m.rest))) e);
      })
      (λ out at g like. exchanges (point_at shape m.place) (node_at shape p m.place) m.order m.rest (m.answer ∷ moved y) m.after.inside like m.taken (of-saying shape read group for_group m.order _ m.says ∙ out)
      (omega (
        arith,
        count-cons (is_of shape read group for_group) m.answer (moved y),
        one-of m.answer (of-saying shape read group for_group m.answer _ m.answers ∙ out),
        behind-none m.place m.count at g,
      )))

  pub follows-answers_order : AnswersOrder shape read p q → Follows shape read group for_group q k
  follows-answers_order m =
      let point : ℕ = point_at shape m.place in
      follows-node shape read group for_group p q k point _ m.after
      (apart-node shape read group for_group p q point _ m.after.here m.after.lines m.after.others
      (λ none out. omega (
        arith,
        count-cons gone m.answer m.rest,
        says-none shape read group for_group false m.answer _ m.answers (not-within shape read group for_group m.place out),
        left-none shape read group for_group p q k a h (node_at shape p m.place).bag m.rest m.order m.taken none,
      )) a)
      h (λ inside like. by like (in_group m.place.link) refl)
    where
      by : IsLike shape read group for_group (node_at shape p m.place) (node_at shape k m.place) → (b : Bool) → in_group m.place.link ≡ b
          → Works shape read group for_group k (point_at shape m.place) (with_bag (node_at shape p m.place) (m.answer ∷ m.rest))
      by like true e =
          let same : line_at k m.place ≡ line_at p m.place = line-within shape read group for_group p k m.place e h in
          record {
            node = with_bag (node_at shape k m.place) (m.answer ∷ m.rest);
            edits = edits-one shape read group for_group k (point_at shape m.place) _ (moves.answers_order (record {
              place = m.place;
              number = m.number;
              order = m.order;
              rest = m.rest;
              taken = taken-like shape read group for_group (node_at shape p m.place) (node_at shape k m.place) m.order m.rest like m.taken;
              says = order-within m.order m.place _ m.says e;
              down = ap (λ (v : Line). v.near.up) same ∙ m.down;
              complete = ap (λ (v : Line). v.near.incomplete) same ∙ m.complete;
              answer = m.answer;
              answers = order-within m.answer m.place _ m.answers e ∙ ap (λ (v : Line). Answer m.place.link m.place.side (final_number v)) (sym same);
              after = node-set shape k (point_at shape m.place) _ m.after.inside;
            }));
            like = bag-like (node_at shape p m.place) (node_at shape k m.place) _ _ like (λ test. refl);
          }
      by like false e =
          exchanges (point_at shape m.place) (node_at shape p m.place) m.order m.rest (m.answer ∷ []) m.after.inside like m.taken (of-saying shape read group for_group m.order _ m.says ∙ e)
          (omega (arith, count-cons (is_of shape read group for_group) m.answer [], one-of m.answer (of-saying shape read group for_group m.answer _ m.answers ∙ e)))

  pub follows-completes_by_answer : CompletesByAnswer shape read p q → Follows shape read group for_group q k
  follows-completes_by_answer m =
      let y : Line = line_at p m.place in
      let z : Line = with_completion y Moved false in
      let l : IsLess shape read group for_group y y = same-lines m.place in
      let moved : Line → List Message = λ v. drop m.count v.near.queue.all in
      follows-line shape read group for_group p q k m.place z _ m.after.lines m.after.here m.after.others a h
      (apart-line shape read group for_group p q m.place z _ m.after.lines m.after.here m.after.others
      (λ out g. apart-less shape read group for_group m.place z y (record { near = l.near; far = l.far; to_far = l.to_far; to_near = l.to_near }) g)
      (λ g none out. omega (
        arith,
        count-append gone (moved y) m.rest,
        behind-gone m.place m.count g,
        left-none shape read group for_group p q k a h (node_at shape p m.place).bag m.rest m.answer m.taken none,
      )) a)
      (λ in_it e like. record {
        line = with_completion (line_at k m.place) Moved false;
        node = with_bag (node_at shape k m.place) (moved (line_at k m.place) ++ m.rest);
        move = moves.completes_by_answer (record {
          place = m.place;
          number = m.number;
          answer = m.answer;
          rest = m.rest;
          taken = taken-like shape read group for_group (node_at shape p m.place) (node_at shape k m.place) m.answer m.rest like m.taken;
          says = order-within m.answer m.place _ m.says in_it;
          awaited = ap (λ (v : Line). v.near.awaited) e ∙ m.awaited;
          incomplete = ap (λ (v : Line). v.near.incomplete) e ∙ m.incomplete;
          count = m.count;
          named = ap (λ (v : Line). named_count v.near.queue m.number) e ∙ m.named;
          after = line-set shape k m.place _ _ m.after.lines.inside m.after.inside;
        });
        same = ap (λ (v : Line). with_completion v Moved false) e;
        like = bag-like (node_at shape p m.place) (node_at shape k m.place) _ _ like (λ test. ap (λ (v : Line). count_by test (moved v ++ m.rest)) e);
      })
      (λ out at g like. exchanges (point_at shape m.place) (node_at shape p m.place) m.answer m.rest (moved y) m.after.inside like m.taken (of-saying shape read group for_group m.answer _ m.says ∙ out)
      (behind-none m.place m.count at g))

  pub follows-ends_wait : EndsWait shape read p q → Follows shape read group for_group q k
  follows-ends_wait m =
      let y : Line = line_at p m.place in
      let z : Line = with_wait y false in
      let l : IsLess shape read group for_group y y = same-lines m.place in
      follows-line shape read group for_group p q k m.place z _ m.after.lines m.after.here m.after.others a h
      (apart-line shape read group for_group p q m.place z _ m.after.lines m.after.here m.after.others
      (λ out g. apart-less shape read group for_group m.place z y (record { near = l.near; far = l.far; to_far = l.to_far; to_near = l.to_near }) g)
      (λ g none out. left-none shape read group for_group p q k a h (node_at shape p m.place).bag m.rest m.answer m.taken none) a)
      (λ in_it e like. record {
        line = with_wait (line_at k m.place) false;
        node = with_bag (node_at shape k m.place) m.rest;
        move = moves.ends_wait (record {
          place = m.place;
          number = m.number;
          answer = m.answer;
          rest = m.rest;
          taken = taken-like shape read group for_group (node_at shape p m.place) (node_at shape k m.place) m.answer m.rest like m.taken;
          says = order-within m.answer m.place _ m.says in_it;
          awaited = ap (λ (v : Line). v.near.awaited) e ∙ m.awaited;
          complete = ap (λ (v : Line). v.near.incomplete) e ∙ m.complete;
          after = line-set shape k m.place _ _ m.after.lines.inside m.after.inside;
        });
        same = ap (λ (v : Line). with_wait v false) e;
        like = bag-like (node_at shape p m.place) (node_at shape k m.place) m.rest m.rest like (λ test. refl);
      })
      (λ out at g like. exchanges (point_at shape m.place) (node_at shape p m.place) m.answer m.rest [] m.after.inside like m.taken (of-saying shape read group for_group m.answer _ m.says ∙ out) refl)

  -- ---- without a number

  -- where no message concerns the group, none is a user message for it
  users-none : (ms : List Message) → count_by (is_of shape read group for_group) ms ≡ 0 → (test : Message → Bool) → users shape read group for_group test ms ≡ 0
  users-none [] e test = refl
  users-none (m ∷ ms) e test =
      let all : one_if (is_of shape read group for_group m) + count_by (is_of shape read group for_group) ms ≡ 0 = omega (arith, e, count-cons (is_of shape read group for_group) m ms) in
      omega (
        arith,
        count-cons (user (masked shape read group for_group) test) m ms,
        one-none shape read group for_group m (none-first shape read group for_group (is_of shape read group for_group m) (count_by (is_of shape read group for_group) ms) all) test,
        users-none ms (omega (arith, all)) test,
      )

  unconfirmed-none : (q : Queue) → count_by (is_of shape read group for_group) q.all ≡ 0 → count_by (is_of shape read group for_group) (sent_unconfirmed q) ≡ 0
  unconfirmed-none q e = omega (arith, drop-within (is_of shape read group for_group) q.confirmed (take q.sent q.all), take-within (is_of shape read group for_group) q.sent q.all, e)

  pub follows-completes_by_time : CompletesByTime shape read p q → Follows shape read group for_group q k
  follows-completes_by_time m =
      let y : Line = line_at p m.place in
      let n : Node = node_at shape p m.place in
      let v : Node = node_at shape k m.place in
      let z : Line = with_completion y Gone y.near.awaited in
      let l : IsLess shape read group for_group y y = same-lines m.place in
      let t : (Message → Bool) → Message → Bool = λ test. user (masked shape read group for_group) test in
      follows-line shape read group for_group p q k m.place z _ m.after.lines m.after.here m.after.others a h
      (apart-line shape read group for_group p q m.place z _ m.after.lines m.after.here m.after.others
      (λ out g. apart-less shape read group for_group m.place z y (record { near = l.near; far = l.far; to_far = l.to_far; to_near = l.to_near }) g)
      (λ g none out. omega (arith, count-append gone (drop y.near.queue.sent y.near.queue.all) n.bag, behind-gone m.place y.near.queue.sent g, none)) a)
      (λ in_it e like. record {
        line = with_completion (line_at k m.place) Gone (line_at k m.place).near.awaited;
        node = without_unconfirmed v (line_at k m.place).near.queue;
        move = moves.completes_by_time (record {
          place = m.place;
          incomplete = ap (λ (w : Line). w.near.incomplete) e ∙ m.incomplete;
          after = line-set shape k m.place _ _ m.after.lines.inside m.after.inside;
        });
        same = ap (λ (w : Line). with_completion w Gone w.near.awaited) e;
        like = record {
          bag = λ test.
              ap (λ (w : Line). count_by test (drop w.near.queue.sent w.near.queue.all ++ v.bag)) e
              ∙ omega (arith, count-append test (drop y.near.queue.sent y.near.queue.all) v.bag, count-append test (drop y.near.queue.sent y.near.queue.all) n.bag, like.bag test);
          accepted = like.accepted;
          ended = like.ended;
          gone = like.gone;
          named = λ test.
              ap (λ (w : Line). count_by (t test) (sent_unconfirmed w.near.queue ++ v.named)) e
              ∙ omega (arith, count-append (t test) (sent_unconfirmed y.near.queue) v.named, count-append (t test) (sent_unconfirmed y.near.queue) n.named, like.named test);
        };
      })
      (λ out at g like. record {
        node = with_bag v (drop y.near.queue.sent y.near.queue.all ++ v.bag);
        edits = makes-all shape read group for_group (drop y.near.queue.sent y.near.queue.all) k (point_at shape m.place) v m.after.inside refl (behind-none m.place y.near.queue.sent at g);
        like = record {
          bag = λ test. omega (arith, count-append test (drop y.near.queue.sent y.near.queue.all) v.bag, count-append test (drop y.near.queue.sent y.near.queue.all) n.bag, like.bag test);
          accepted = like.accepted;
          ended = like.ended;
          gone = like.gone;
          named = λ test.
              omega (
                arith,
                count-append (t test) (sent_unconfirmed y.near.queue) n.named,
                users-none (sent_unconfirmed y.near.queue) (unconfirmed-none y.near.queue (subst (λ (b : Bool). count_by (stays shape read group for_group b) y.near.queue.all ≡ 0) at g.near)) test,
                like.named test,
              );
        };
      })
