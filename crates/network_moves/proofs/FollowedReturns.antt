-- Moves of a link that opens are followed, and those that break a node outside a group are none to it.
use Rattle.network_moves.proofs.Basics.{◌≡◌, ◌≢◌, ℕ, Bool, true, false, not, ◌&&◌, ◌||◌, ◌≤◌, ◌^◌, [], ◌∷◌, ◌++◌, count_by, nat_eq, nat_lt, drop, refl, ap, sym, ◌∙◌, subst, arith, if◌then◌else◌, ⊎_elim, cases_eq}
use Rattle.network_moves.proofs.Definitions.{Message, Near, Far, Saying, UserMessage, Order, Answer, Other, one_if, LinkEnd, Line, Node, Network, Shape, Place, line_at, point_at, node_at, Gone, MayOpen, with_wait, with_completion, opened_first, opened_second, with_service, closed_line, OpensFirst, OpensSecond, Enters, Breaks, ReleasesBar, HearsUnreasonableOrder, HearsUnreasonableAnswer}
use Rattle.network_moves.specs.Returning.{GivesUpFollowing, Strays, StartsAgain, restarted, strayed, unled}
use Rattle.network_moves.specs.Groups.{KeepsToItself, says_of_group}
use Rattle.network_moves.specs.Networks.{leads_out, spoofs}
use Rattle.network_moves.specs.Sayings.{saying}
use Rattle.network_moves.specs.Moves as moves
use Rattle.std.proofs.lemmas.Bool.{eqb-true}
use Rattle.network_moves.proofs.Counts.{count-cons, count-append}
use Rattle.network_moves.proofs.Lines.{both}
use Rattle.network_moves.proofs.Masking.{line-set, within, within-side, IsLike, IsMask, mask-outside}
use Rattle.network_moves.proofs.Apart.{stays, says-none, IsApart, IsApartLine, IsLess, frames-append, frames-fewer, apart-at, apart-is, apart-less, apart-line, here, not-within}
use Rattle.network_moves.proofs.Following.{Follows, breaks, goes}
use Rattle.network_moves.proofs.FollowedNodes.{left-none}
use Rattle.network_moves.proofs.FollowedFrames.{follows-quiet}
use Rattle.network_moves.proofs.FollowedFailures.{behind-gone, same-lines}

module _ (shape : Shape) (read : Message → Saying) (group : ℕ → Bool) (for_group : Message → Bool) (p q k : Network) (a : IsApart shape read group for_group p) (h : IsMask shape read group for_group p k) where
  may : (x y : LinkEnd) → x ≡ y → MayOpen y → MayOpen x
  may x y e m = record {
    down = ap (λ (v : LinkEnd). v.up) e ∙ m.down;
    complete = ap (λ (v : LinkEnd). v.incomplete) e ∙ m.complete;
    unawaited = ap (λ (v : LinkEnd). v.awaited) e ∙ m.unawaited;
  }

  pub follows-opens_first : OpensFirst shape p q → Follows shape read group for_group q k
  follows-opens_first m =
      follows-quiet shape read group for_group p q k a h m.place _ m.after
      (record { near = λ test. omega arith; far = λ test. omega arith; to_far = λ test. omega arith; to_near = λ test. omega arith })
      (λ in_it e like. record {
        line = opened_first (line_at k m.place);
        node = node_at shape k m.place;
        move = moves.opens_first (record {
          place = m.place;
          near_may = may _ _ (ap (λ (v : Line). v.near) e) m.near_may;
          far_may = may _ _ (ap (λ (v : Line). v.far) e) m.far_may;
          after = line-set shape k m.place _ _ m.after.lines.inside m.after.inside;
        });
        same = ap opened_first e;
        like = like;
      })

  pub follows-opens_second : OpensSecond shape p q → Follows shape read group for_group q k
  follows-opens_second m =
      follows-quiet shape read group for_group p q k a h m.place _ m.after
      (record { near = λ test. omega arith; far = λ test. omega arith; to_far = λ test. omega arith; to_near = λ test. omega arith })
      (λ in_it e like. record {
        line = opened_second (line_at k m.place);
        node = node_at shape k m.place;
        move = moves.opens_second (record {
          place = m.place;
          follows = ap (λ (v : Line). v.near_may_follow) e ∙ m.follows;
          near_may = may _ _ (ap (λ (v : Line). v.near) e) m.near_may;
          after = line-set shape k m.place _ _ m.after.lines.inside m.after.inside;
        });
        same = ap opened_second e;
        like = like;
      })

  pub follows-enters : Enters shape p q → Follows shape read group for_group q k
  follows-enters m =
      follows-quiet shape read group for_group p q k a h m.place _ m.after
      (record { near = λ test. omega arith; far = λ test. omega arith; to_far = λ test. omega arith; to_near = λ test. omega arith })
      (λ in_it e like. record {
        line = with_service (line_at k m.place);
        node = node_at shape k m.place;
        move = moves.enters (record {
          place = m.place;
          up = ap (λ (v : Line). v.near.up) e ∙ m.up;
          heard = ap (λ (v : Line). v.near.heard) e ∙ m.heard;
          after = line-set shape k m.place _ _ m.after.lines.inside m.after.inside;
        });
        same = ap with_service e;
        like = like;
      })

  -- ---- a node breaks

  -- unless it is one of the group, this is nothing to that
  breaking : (place : Place) (z : Line) (n : Node) → Breaks shape p q place z n → IsApart shape read group for_group q → Follows shape read group for_group q k
  breaking place z n after apart = by (here shape read group for_group place) refl
    where
      by : (b : Bool) → here shape read group for_group place ≡ b → Follows shape read group for_group q k
      by true e = breaks apart (point_at shape place) e after.broken
      by false e = goes apart [] tt (mask-outside shape read group for_group p q k place z after.lines after.others h (not-within shape read group for_group place e) (λ f. both f e))

  abbrev gone : Message → Bool
  gone = stays shape read group for_group false

  pub follows-releases_bar : ReleasesBar shape read p q → Follows shape read group for_group q k
  follows-releases_bar m =
      let y : Line = line_at p m.place in
      let l : IsLess shape read group for_group y y = same-lines shape read group for_group p q k a h m.place in
      breaking m.place _ _ m.after
      (apart-line shape read group for_group p q m.place (with_wait y false) _ m.after.lines m.after.here m.after.others
      (λ out g. apart-less shape read group for_group m.place (with_wait y false) y (record { near = l.near; far = l.far; to_far = l.to_far; to_near = l.to_near }) g)
      (λ g none out. none) a)

  pub follows-gives_up_following : GivesUpFollowing shape read p q → Follows shape read group for_group q k
  follows-gives_up_following m =
      let y : Line = line_at p m.place in
      let l : IsLess shape read group for_group y y = same-lines shape read group for_group p q k a h m.place in
      breaking m.place _ _ m.after
      (apart-line shape read group for_group p q m.place (unled y) _ m.after.lines m.after.here m.after.others
      (λ out g. apart-less shape read group for_group m.place (unled y) y (record { near = l.near; far = l.far; to_far = l.to_far; to_near = l.to_near }) g)
      (λ g none out. none) a)

  pub follows-unreasonable_order : HearsUnreasonableOrder shape read p q → Follows shape read group for_group q k
  follows-unreasonable_order m =
      let y : Line = line_at p m.place in
      let z : Line = with_completion y Gone y.near.awaited in
      let l : IsLess shape read group for_group y y = same-lines shape read group for_group p q k a h m.place in
      breaking m.place _ _ m.after
      (apart-line shape read group for_group p q m.place z _ m.after.lines m.after.here m.after.others
      (λ out g. apart-less shape read group for_group m.place z y (record { near = l.near; far = l.far; to_far = l.to_far; to_near = l.to_near }) g)
      (λ g none out. omega (
        arith,
        count-append gone (drop y.near.queue.sent y.near.queue.all) (m.answer ∷ m.rest),
        count-cons gone m.answer m.rest,
        says-none shape read group for_group false m.answer _ m.answers (not-within shape read group for_group m.place out),
        behind-gone shape read group for_group p q k a h m.place y.near.queue.sent g,
        left-none shape read group for_group p q k a h (node_at shape p m.place).bag m.rest m.order m.taken none,
      )) a)

  pub follows-unreasonable_answer : HearsUnreasonableAnswer shape read p q → Follows shape read group for_group q k
  follows-unreasonable_answer m =
      let y : Line = line_at p m.place in
      let z : Line = with_completion y Gone false in
      let l : IsLess shape read group for_group y y = same-lines shape read group for_group p q k a h m.place in
      breaking m.place _ _ m.after
      (apart-line shape read group for_group p q m.place z _ m.after.lines m.after.here m.after.others
      (λ out g. apart-less shape read group for_group m.place z y (record { near = l.near; far = l.far; to_far = l.to_far; to_near = l.to_near }) g)
      (λ g none out. omega (
        arith,
        count-append gone (drop y.near.queue.sent y.near.queue.all) m.rest,
        behind-gone shape read group for_group p q k a h m.place y.near.queue.sent g,
        left-none shape read group for_group p q k a h (node_at shape p m.place).bag m.rest m.answer m.taken none,
      )) a)

  -- ---- a node does as it likes on a link

  -- no end of a link within is outside
  none-out : KeepsToItself shape read group for_group → (link : ℕ) → within shape read group for_group link ≡ true → leads_out shape link ≡ false
  none-out c link e =
      ap (λ (b : Bool). b || shape.outside (shape.point link Far)) (c.inside (shape.point link Near) (within-side shape read group for_group link Near e))
      ∙ c.inside (shape.point link Far) (within-side shape read group for_group link Far e)

  speaks-by : (same out odd : Bool) → (same ≡ true → ⊥) → out ≡ false → one_if true ≤ one_if ((not same && not out) || odd)
  speaks-by true out odd d e = absurd (d refl)
  speaks-by false true odd d e = absurd cc
  speaks-by false false odd d e = omega arith

  about-by : KeepsToItself shape read group for_group → (link : ℕ) → within shape read group for_group link ≡ false → (about : ℕ) (odd b : Bool) → within shape read group for_group about ≡ b
      → one_if b ≤ one_if ((not (nat_eq about link) && not (leads_out shape about)) || odd)
  about-by c link out about odd true e =
      speaks-by (nat_eq about link) (leads_out shape about) odd (λ same. both e (ap (within shape read group for_group) (eqb-true about link same) ∙ out)) (none-out c about e)
  about-by c link out about odd false e = omega arith

  -- so a word about one speaks for others
  said-within : KeepsToItself shape read group for_group → (link : ℕ) → within shape read group for_group link ≡ false → (for_it : Bool) (s : Saying)
      → one_if (says_of_group shape read group for_group (false && for_it) s) ≤ one_if (spoofs shape link s)
  said-within c link out for_it UserMessage = omega arith
  said-within c link out for_it (Order about maker number) = about-by c link out about (not (nat_lt number (2 ^ 24))) (within shape read group for_group about) refl
  said-within c link out for_it (Answer about maker number) = about-by c link out about (not (nat_lt number (2 ^ 24))) (within shape read group for_group about) refl
  said-within c link out for_it Other = omega arith

  pub follows-strays : KeepsToItself shape read group for_group → Strays shape read p q → Follows shape read group for_group q k
  follows-strays c m =
      breaking m.place _ _ m.after
      (apart-line shape read group for_group p q m.place (strayed (line_at p m.place) (m.left ++ m.new) m.told_far m.follows) _ m.after.lines m.after.here m.after.others
      (λ out l. record {
        near = refl;
        far = l.far;
        to_far =
            omega (
              arith,
              m.own,
              l.to_far,
              m.fewer gone,
              frames-append gone m.left m.new,
              frames-fewer gone (saying read (spoofs shape m.place.link)) (λ x. said-within c m.place.link out (for_group x) (read x)) m.new,
            );
        to_near = refl;
      })
      (λ l none out. none) a)

  -- ---- a node starts again

  restarted-line : (place : Place) (z : Line) → IsApartLine shape read group for_group place z → IsApartLine shape read group for_group place (restarted z)
  restarted-line place z l = record { near = refl; far = l.far; to_far = l.to_far; to_near = refl }

  line-restarts : (place : Place) → line_at q place ≡ restarted (line_at p place) → within shape read group for_group place.link ≡ false
      → IsApartLine shape read group for_group (record { link = place.link; side = Near }) (q.line place.link)
  line-restarts place e out =
      apart-is shape read group for_group q place
      (subst (IsApartLine shape read group for_group place) (sym e) (restarted-line place (line_at p place) (apart-at shape read group for_group p place a out)))

  restarted-apart : StartsAgain shape read p q → IsApart shape read group for_group q
  restarted-apart m = record {
    bags = λ x out.
        ⊎_elim
        (λ (same : x ≡ m.point). subst (λ (i : ℕ). count_by gone (q.node i).bag ≡ 0) (sym same) (ap (count_by gone) m.empty))
        (λ (d : x ≢ m.point). subst (λ (v : Node). count_by gone v.bag ≡ 0) (sym (m.others x d)) (a.bags x out))
        (cases_eq x m.point);
    lines = λ link out.
        ⊎_elim
        (λ (near : shape.point link Near ≡ m.point). line-restarts (record { link = link; side = Near }) (m.ends _ near) out)
        (λ (no : shape.point link Near ≢ m.point).
        ⊎_elim
        (λ (far : shape.point link Far ≡ m.point). line-restarts (record { link = link; side = Far }) (m.ends _ far) out)
        (λ (none : shape.point link Far ≢ m.point).
        subst (IsApartLine shape read group for_group (record { link = link; side = Near })) (sym (m.lines link no none)) (a.lines link out))
        (cases_eq (shape.point link Far) m.point))
        (cases_eq (shape.point link Near) m.point);
  }

  -- a node outside the group is no end of a line within
  restarted-mask : (m : StartsAgain shape read p q) → group m.point ≡ false → IsMask shape read group for_group q k
  restarted-mask m none = record {
    nodes = λ x inside. subst (λ (v : Node). IsLike shape read group for_group v (k.node x)) (sym (m.others x (apart x inside))) (h.nodes x inside);
    lines = λ link. h.lines link ∙ by link (within shape read group for_group link) refl;
    whole = h.whole;
  }
    where
      apart : (x : ℕ) → group x ≡ true → x ≢ m.point
      apart x inside same = both inside (ap group same ∙ none)

      by : (link : ℕ) (b : Bool) → within shape read group for_group link ≡ b → (if b then p.line link else closed_line) ≡ (if b then q.line link else closed_line)
      by link true e = sym (m.lines link (apart _ (within-side shape read group for_group link Near e)) (apart _ (within-side shape read group for_group link Far e)))
      by link false e = refl

  pub follows-starts_again : StartsAgain shape read p q → Follows shape read group for_group q k
  follows-starts_again m = by (group m.point) refl
    where
      by : (b : Bool) → group m.point ≡ b → Follows shape read group for_group q k
      by true e = breaks (restarted-apart m) m.point e m.broken
      by false e = goes (restarted-apart m) [] tt (restarted-mask m e)
