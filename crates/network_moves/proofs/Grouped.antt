-- What a group of nodes that keeps to itself does with its messages, whatever the others do.
use Rattle.network_moves.proofs.Basics.{◌≡◌, ◌≢◌, ℕ, Bool, true, false, ◌+◌, ◌&&◌, List, [], ◌∷◌, ◌++◌, count_by, nat_eq, refl, ap, sym, ◌∙◌, subst, arith, if◌then◌else◌, ⊎_elim, cases_eq}
use Rattle.network_moves.proofs.Definitions.{Message, Near, Far, Saying, user, Line, Network, Shape, turned, waiting, given_up, point_at, one_if, Move, Moves, last_of, closed_line, first_network, came_from, sum_at, EndsOnce}
use Rattle.network_moves.specs.Moves as moves
use Rattle.network_moves.specs.Groups.{KeepsToItself, sum_within, came_within, users_for, EndsOnceWithin, groups_decide_alone, is_left, IsClear, Begins, NothingIsLeft, groups_begin_anew, nothing_leaves_the_group}
use Rattle.network_moves.specs.Quiet.{AreOthers, IsAtRest, IsIdle, IsQuiet, first_node}
use Rattle.network_moves.proofs.Counts.{count-cons, sum-alike}
use Rattle.network_moves.proofs.Lines.{both}
use Rattle.network_moves.proofs.First.{quiet-first}
use Rattle.network_moves.proofs.Sound.{Sound}
use Rattle.network_moves.proofs.Keeping.{sound-always}
use Rattle.network_moves.proofs.Concluded.{ends-once}
use Rattle.network_moves.proofs.Masking.{within, masked, other-saying, users-are, IsLike, IsMask}
use Rattle.network_moves.proofs.Apart.{IsApart, IsApartLine}
use Rattle.network_moves.proofs.Following.{last-append, moves-append, Follows, breaks, goes}
use Rattle.network_moves.proofs.FollowedNodes.{follows-submits, follows-makes, follows-ends, follows-gives_up, follows-discards, follows-places}
use Rattle.network_moves.proofs.FollowedFrames.{follows-sends_status, follows-sends_message, follows-sends_empty, follows-hears_status, follows-takes_status, follows-doubles_status, follows-drops, follows-takes_empty, follows-takes_message}
use Rattle.network_moves.proofs.FollowedFailures.{follows-falls, follows-orders, follows-completes_by_order, follows-answers_order, follows-completes_by_answer, follows-ends_wait, follows-completes_by_time}
use Rattle.network_moves.proofs.FollowedReturns.{follows-opens_first, follows-opens_second, follows-enters, follows-releases_bar, follows-gives_up_following, follows-unreasonable_order, follows-unreasonable_answer, follows-strays, follows-starts_again}

module _ (shape : Shape) (read : Message → Saying) (group : ℕ → Bool) (for_group : Message → Bool) where
  -- ---- one move

  follows : KeepsToItself shape read group for_group → (p q k : Network) → IsApart shape read group for_group p → IsMask shape read group for_group p k → Move shape read p q → Follows shape read group for_group q k
  follows c p q k a h (moves.submits m) = follows-submits shape read group for_group p q k a h m
  follows c p q k a h (moves.makes m) = follows-makes shape read group for_group p q k a h m
  follows c p q k a h (moves.ends m) = follows-ends shape read group for_group p q k a h m
  follows c p q k a h (moves.gives_up m) = follows-gives_up shape read group for_group p q k a h m
  follows c p q k a h (moves.discards m) = follows-discards shape read group for_group p q k a h m
  follows c p q k a h (moves.places m) = follows-places shape read group for_group p q k a h c m
  follows c p q k a h (moves.sends_status m) = follows-sends_status shape read group for_group p q k a h m
  follows c p q k a h (moves.sends_message m) = follows-sends_message shape read group for_group p q k a h m
  follows c p q k a h (moves.sends_empty m) = follows-sends_empty shape read group for_group p q k a h m
  follows c p q k a h (moves.hears_status m) = follows-hears_status shape read group for_group p q k a h m
  follows c p q k a h (moves.takes_status m) = follows-takes_status shape read group for_group p q k a h m
  follows c p q k a h (moves.doubles_status m) = follows-doubles_status shape read group for_group p q k a h m
  follows c p q k a h (moves.drops m) = follows-drops shape read group for_group p q k a h m
  follows c p q k a h (moves.takes_empty m) = follows-takes_empty shape read group for_group p q k a h m
  follows c p q k a h (moves.takes_message m) = follows-takes_message shape read group for_group p q k a h m
  follows c p q k a h (moves.falls m) = follows-falls shape read group for_group p q k a h m
  follows c p q k a h (moves.orders m) = follows-orders shape read group for_group p q k a h m
  follows c p q k a h (moves.completes_by_order m) = follows-completes_by_order shape read group for_group p q k a h m
  follows c p q k a h (moves.answers_order m) = follows-answers_order shape read group for_group p q k a h m
  follows c p q k a h (moves.completes_by_answer m) = follows-completes_by_answer shape read group for_group p q k a h m
  follows c p q k a h (moves.ends_wait m) = follows-ends_wait shape read group for_group p q k a h m
  follows c p q k a h (moves.completes_by_time m) = follows-completes_by_time shape read group for_group p q k a h m
  follows c p q k a h (moves.opens_first m) = follows-opens_first shape read group for_group p q k a h m
  follows c p q k a h (moves.opens_second m) = follows-opens_second shape read group for_group p q k a h m
  follows c p q k a h (moves.enters m) = follows-enters shape read group for_group p q k a h m
  follows c p q k a h (moves.releases_bar m) = follows-releases_bar shape read group for_group p q k a h m
  follows c p q k a h (moves.gives_up_following m) = follows-gives_up_following shape read group for_group p q k a h m
  follows c p q k a h (moves.hears_unreasonable_order m) = follows-unreasonable_order shape read group for_group p q k a h m
  follows c p q k a h (moves.hears_unreasonable_answer m) = follows-unreasonable_answer shape read group for_group p q k a h m
  follows c p q k a h (moves.strays m) = follows-strays shape read group for_group p q k a h c m
  follows c p q k a h (moves.starts_again m) = follows-starts_again shape read group for_group p q k a h m

  -- ---- what concerns the group stays in it, whichever nodes are broken

  abbrev mask_of : Network → Network
  mask_of p = record { node = p.node; line = λ link. if within shape read group for_group link then p.line link else closed_line; broken = λ x. false }

  is-mask : (p : Network) → IsMask shape read group for_group p (mask_of p)
  is-mask p = record {
    nodes = λ x inside. record { bag = λ test. refl; accepted = λ test. refl; ended = λ test. refl; gone = λ test. refl; named = λ test. refl };
    lines = λ link. refl;
    whole = λ x. refl;
  }

  apart-move : KeepsToItself shape read group for_group → (p q : Network) → IsApart shape read group for_group p → Move shape read p q → IsApart shape read group for_group q
  apart-move c p q a m = by (follows c p q (mask_of p) a (is-mask p) m)
    where
      by : Follows shape read group for_group q (mask_of p) → IsApart shape read group for_group q
      by (breaks apart x inside e) = apart
      by (goes apart more ns g) = apart

  pub apart-after : KeepsToItself shape read group for_group → (p : Network) (networks : List Network) → Moves shape read p networks → IsApart shape read group for_group p → IsApart shape read group for_group (last_of p networks)
  apart-after c p [] ms a = a
  apart-after c p (q ∷ rest) ms a = apart-after c q rest ms.1 (apart-move c p q a ms.0)

  pub apart-first : IsApart shape read group for_group first_network
  apart-first = record { bags = λ x out. refl; lines = λ link out. record { near = refl; far = refl; to_far = refl; to_near = refl } }

  -- ---- a node once broken stays so

  still : (p q : Network) → ((x : ℕ) → q.broken x ≡ p.broken x) → (x : ℕ) → p.broken x ≡ true → q.broken x ≡ true
  still p q same x e = same x ∙ e

  -- one breaks, and the others stay as they are
  still-one : (p q : Network) (point : ℕ) → q.broken point ≡ true → ((other : ℕ) → other ≢ point → q.broken other ≡ p.broken other) → (x : ℕ) → p.broken x ≡ true → q.broken x ≡ true
  still-one p q point now others x e =
      ⊎_elim (λ (is : x ≡ point). ap q.broken is ∙ now) (λ (d : x ≢ point). others x d ∙ e) (cases_eq x point)

  lasts : (p q : Network) → Move shape read p q → (x : ℕ) → p.broken x ≡ true → q.broken x ≡ true
  lasts p q (moves.submits m) = still p q m.after.broken
  lasts p q (moves.makes m) = still p q m.after.broken
  lasts p q (moves.ends m) = still p q m.after.broken
  lasts p q (moves.gives_up m) = still p q m.after.broken
  lasts p q (moves.discards m) = still p q m.after.broken
  lasts p q (moves.places m) = still p q m.after.broken
  lasts p q (moves.sends_status m) = still p q m.after.broken
  lasts p q (moves.sends_message m) = still p q m.after.broken
  lasts p q (moves.sends_empty m) = still p q m.after.broken
  lasts p q (moves.hears_status m) = still p q m.after.broken
  lasts p q (moves.takes_status m) = still p q m.after.broken
  lasts p q (moves.doubles_status m) = still p q m.after.broken
  lasts p q (moves.drops m) = still p q m.after.broken
  lasts p q (moves.takes_empty m) = still p q m.after.broken
  lasts p q (moves.takes_message m) = still p q m.after.broken
  lasts p q (moves.falls m) = still p q m.after.broken
  lasts p q (moves.orders m) = still p q m.after.broken
  lasts p q (moves.completes_by_order m) = still p q m.after.broken
  lasts p q (moves.answers_order m) = still p q m.after.broken
  lasts p q (moves.completes_by_answer m) = still p q m.after.broken
  lasts p q (moves.ends_wait m) = still p q m.after.broken
  lasts p q (moves.completes_by_time m) = still p q m.after.broken
  lasts p q (moves.opens_first m) = still p q m.after.broken
  lasts p q (moves.opens_second m) = still p q m.after.broken
  lasts p q (moves.enters m) = still p q m.after.broken
  lasts p q (moves.releases_bar m) = still-one p q (point_at shape m.place) m.after.broken m.after.others_broken
  lasts p q (moves.gives_up_following m) = still-one p q (point_at shape m.place) m.after.broken m.after.others_broken
  lasts p q (moves.hears_unreasonable_order m) = still-one p q (point_at shape m.place) m.after.broken m.after.others_broken
  lasts p q (moves.hears_unreasonable_answer m) = still-one p q (point_at shape m.place) m.after.broken m.after.others_broken
  lasts p q (moves.strays m) = still-one p q (point_at shape m.place) m.after.broken m.after.others_broken
  lasts p q (moves.starts_again m) = still-one p q m.point m.broken m.others_broken

  -- ---- lists of moves, from where the network is nothing but the group to the group

  data IsFollowed (base p : Network) : Type 0 where
    broken : (x : ℕ) → group x ≡ true → p.broken x ≡ true → IsFollowed base p
    followed : IsApart shape read group for_group p → (networks : List Network) → Moves shape (masked shape read group for_group) base networks
        → IsMask shape read group for_group p (last_of base networks) → IsFollowed base p

  one-more : KeepsToItself shape read group for_group → (base p q : Network) → Move shape read p q → IsFollowed base p → IsFollowed base q
  one-more c base p q m (broken x inside e) = broken x inside (lasts p q m x e)
  one-more c base p q m (followed a networks ms h) = by (follows c p q (last_of base networks) a h m)
    where
      by : Follows shape read group for_group q (last_of base networks) → IsFollowed base q
      by (breaks apart x inside e) = broken x inside e
      by (goes b more ns g) =
          followed b (networks ++ more) (moves-append shape read group for_group base networks more ms ns)
          (subst (IsMask shape read group for_group q) (sym (last-append shape read group for_group base networks more)) g)

  all-more : KeepsToItself shape read group for_group → (base p : Network) (networks : List Network) → Moves shape read p networks → IsFollowed base p → IsFollowed base (last_of p networks)
  all-more c base p [] ms f = f
  all-more c base p (q ∷ rest) ms f = all-more c base q rest ms.1 (one-more c base p q ms.0 f)

  closed-if : (b : Bool) → closed_line ≡ (if b then closed_line else closed_line)
  closed-if true = refl
  closed-if false = refl

  first-followed : IsFollowed first_network first_network
  first-followed = followed apart-first [] tt
      (record {
        nodes = λ x inside. record { bag = λ test. refl; accepted = λ test. refl; ended = λ test. refl; gone = λ test. refl; named = λ test. refl };
        lines = λ link. closed-if (within shape read group for_group link);
        whole = λ x. refl;
      })

  -- ---- a network where nothing of the group is left, as it is to the group

  module _ (start : Network) (left : NothingIsLeft shape read group for_group start) where
    abbrev pub alone : Network
    alone = record {
      node = λ x. if group x then start.node x else first_node;
      line = λ link. if within shape read group for_group link then start.line link else closed_line;
      broken = λ x. false;
    }

    none-of-group : (b : Bool) → one_if b ≡ 0 → b ≡ false
    none-of-group true e = absurd (omega (arith, e))
    none-of-group false e = refl

    others-all : (ms : List Message) → count_by (is_left shape read group for_group true) ms ≡ 0 → AreOthers (masked shape read group for_group) ms
    others-all [] e = tt
    others-all (m ∷ ms) e =
        let both_none : one_if (is_left shape read group for_group true m) + count_by (is_left shape read group for_group true) ms ≡ 0 = sym (count-cons (is_left shape read group for_group true) m ms) ∙ e in (
          other-saying shape read group for_group m (none-of-group (is_left shape read group for_group true m) (omega (arith, both_none))),
          others-all ms (omega (arith, both_none)),
        )

    alone-quiet : IsQuiet (masked shape read group for_group) alone
    alone-quiet = record { lines = λ link. line-by link (within shape read group for_group link) refl; nodes = λ x. node-by x (group x) refl }
      where
        line-by : (link : ℕ) (b : Bool) → within shape read group for_group link ≡ b → IsAtRest (if b then start.line link else closed_line)
        line-by link true e = left.lines link e
        line-by link false e = (quiet-first (masked shape read group for_group)).lines link

        node-by : (x : ℕ) (b : Bool) → group x ≡ b → IsIdle (masked shape read group for_group) (if b then start.node x else first_node)
        node-by x true e =
            let books : Begins (start.node x) = left.books x e in
            record {
              bag = others-all (start.node x).bag (subst (λ (b : Bool). count_by (is_left shape read group for_group b) (start.node x).bag ≡ 0) e (left.bags x));
              submitted = books.submitted;
              accepted = books.accepted;
              ended = books.ended;
              gone = books.gone;
              named = books.named;
            }
        node-by x false e = (quiet-first (masked shape read group for_group)).nodes x

    alone-followed : IsFollowed alone start
    alone-followed = followed
        (record {
          bags = λ x out. subst (λ (b : Bool). count_by (is_left shape read group for_group b) (start.node x).bag ≡ 0) out (left.bags x);
          lines = λ link out. (let clear : IsClear shape read group for_group link (start.line link) = left.others link out in record { near = clear.near; far = clear.far; to_far = clear.to_far; to_near = clear.to_near });
        })
        [] tt
        (record {
          nodes = λ x inside. subst (λ (b : Bool). IsLike shape read group for_group (start.node x) (if b then start.node x else first_node)) (sym inside)
              (record { bag = λ test. refl; accepted = λ test. refl; ended = λ test. refl; gone = λ test. refl; named = λ test. refl });
          lines = λ link. refl;
          whole = λ x. refl;
        })

  -- ---- the node law, of the group

  module _ (p k : Network) (h : IsMask shape read group for_group p k) (point : ℕ) where
    -- what is nothing on a closed line is only on those within
    seen-within : (f : Line → ℕ) → f closed_line ≡ 0 → sum_at shape point f k ≡ sum_within shape read group for_group f p point
    seen-within f none =
        sum-alike _ _ shape.links
        (λ link l. ap (λ (z : Line). (if nat_eq (shape.point link Near) point then f z else 0) + (if nat_eq (shape.point link Far) point then f (turned z) else 0)) (h.lines link)
        ∙ by link (within shape read group for_group link) refl)
      where
        either-none : (b : Bool) → (if b then f closed_line else 0) ≡ 0
        either-none true = none
        either-none false = refl

        by : (link : ℕ) (b : Bool) → within shape read group for_group link ≡ b →
            (if nat_eq (shape.point link Near) point then f (if b then p.line link else closed_line) else 0) + (if nat_eq (shape.point link Far) point then f (turned (if b then p.line link else closed_line)) else 0)
            ≡ (if b && nat_eq (shape.point link Near) point then f (p.line link) else 0) + (if b && nat_eq (shape.point link Far) point then f (turned (p.line link)) else 0)
        by link true e = refl
        by link false e = omega (arith, either-none (nat_eq (shape.point link Near) point), either-none (nat_eq (shape.point link Far) point))

    abbrev t : (Message → Bool) → Message → Bool
    t test = user (masked shape read group for_group) test

    abbrev u : (Message → Bool) → Message → Bool
    u test = users_for shape read group for_group test

    -- a sum of counts, by what passes at the group
    same-sum : (f : (Message → Bool) → Line → ℕ) (test : Message → Bool) → f (t test) closed_line ≡ 0 → ((z : Line) → f (t test) z ≡ f (u test) z)
        → sum_at shape point (f (t test)) k ≡ sum_within shape read group for_group (f (u test)) p point
    same-sum f test none e =
        seen-within (f (t test)) none
        ∙ sum-alike _ _ shape.links (λ link l.
        omega (
          arith,
          if-alike (within shape read group for_group link && nat_eq (shape.point link Near) point) _ _ (e (p.line link)),
          if-alike (within shape read group for_group link && nat_eq (shape.point link Far) point) _ _ (e (turned (p.line link))),
        ))
      where
        if-alike : (b : Bool) (m n : ℕ) → m ≡ n → (if b then m else 0) ≡ (if b then n else 0)
        if-alike true m n e = e
        if-alike false m n e = refl

    same-count : (test : Message → Bool) (ms : List Message) → count_by (t test) ms ≡ count_by (u test) ms
    same-count test ms = users-are shape read group for_group test ms

    came-alike : (test : Message → Bool) → came_from shape (t test) k point ≡ came_within shape read group for_group (u test) p point
    came-alike test = same-sum (λ g z. count_by g z.near.came) test refl (λ z. same-count test z.near.came)

    waits-alike : (test : Message → Bool) → sum_at shape point (λ z. count_by (t test) (waiting z)) k ≡ sum_within shape read group for_group (λ z. count_by (u test) (waiting z)) p point
    waits-alike test = same-sum (λ g z. count_by g (waiting z)) test refl (λ z. same-count test (waiting z))

    gone-alike : (test : Message → Bool) → sum_at shape point (λ z. count_by (t test) z.near.gone + count_by (t test) (given_up z)) k
        ≡ sum_within shape read group for_group (λ z. count_by (u test) z.near.gone + count_by (u test) (given_up z)) p point
    gone-alike test =
        same-sum (λ g z. count_by g z.near.gone + count_by g (given_up z)) test refl (λ z. omega (arith, same-count test z.near.gone, same-count test (given_up z)))

    ends-within : group point ≡ true → EndsOnce shape (masked shape read group for_group) k point → EndsOnceWithin shape read group for_group p point
    ends-within inside e =
        let like : IsLike shape read group for_group (p.node point) (k.node point) = h.nodes point inside in
        record {
          each = λ test.
              omega (
                arith,
                e.each test,
                like.accepted test,
                like.ended test,
                like.bag (t test),
                like.gone test,
                same-count test (p.node point).accepted,
                same-count test (p.node point).ended,
                same-count test (p.node point).bag,
                same-count test (p.node point).gone,
                came-alike test,
                waits-alike test,
                gone-alike test,
              );
          named = λ test. omega (arith, e.named test, like.gone test, like.named test, same-count test (p.node point).gone, same-count test (p.node point).named, gone-alike test);
        }

module _ (shape : Shape) (read : Message → Saying) (group : ℕ → Bool) (for_group : Message → Bool) (base p : Network) (quiet : IsQuiet (masked shape read group for_group) base)
    (none : (other : ℕ) → group other ≡ true → p.broken other ≡ false) (point : ℕ) (inside : group point ≡ true) where
  ends-followed : IsFollowed shape read group for_group base p → EndsOnceWithin shape read group for_group p point
  ends-followed (broken x in_it e) = both e (none x in_it)
  ends-followed (followed a seen ns h) =
      let sound : Sound shape (masked shape read group for_group) (last_of base seen) = sound-always shape (masked shape read group for_group) base seen quiet ns h.whole in
      ends-within shape read group for_group p (last_of base seen) h point inside (ends-once shape (masked shape read group for_group) (last_of base seen) sound point)

pub nothing-leaves : nothing_leaves_the_group
nothing-leaves shape read group for_group networks c ms =
    let a : IsApart shape read group for_group (last_of first_network networks) = apart-after shape read group for_group c first_network networks ms (apart-first shape read group for_group) in
    record {
      bags = a.bags;
      others = λ link out.
          (let l : IsApartLine shape read group for_group (record { link = link; side = Near }) ((last_of first_network networks).line link) = a.lines link out in
          record { near = l.near; far = l.far; to_far = l.to_far; to_near = l.to_near });
    }

pub groups-decide : groups_decide_alone
groups-decide shape read group for_group networks point closed ms none inside =
    ends-followed shape read group for_group first_network (last_of first_network networks) (quiet-first (masked shape read group for_group)) none point inside
    (all-more shape read group for_group closed first_network first_network networks ms (first-followed shape read group for_group))

pub groups-anew : groups_begin_anew
groups-anew shape read group for_group start networks point closed left ms none inside =
    ends-followed shape read group for_group (alone shape read group for_group start left) (last_of start networks) (alone-quiet shape read group for_group start left) none point inside
    (all-more shape read group for_group closed (alone shape read group for_group start left) start networks ms (alone-followed shape read group for_group start left))
