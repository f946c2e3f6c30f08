-- A quiet network: nothing is under way. The first network is one.
use Rattle.network_moves.proofs.Basics.{◌≡◌, ℕ, Bool, true, false, not, ◌+◌, ◌&&◌, ◌||◌, List, [], ◌∷◌, count_by, nat_eq, refl, ap, sym, ◌∙◌, arith, if◌then◌else◌}
use Rattle.network_moves.proofs.Definitions.{Message, WINDOW, sound-first, last_accepted, Near, Far, Saying, Other, is_awaited_by, is_untrue, saying, user, Line, Network, Shape, turned, seen, waiting, given_up, one_if, on_its_way, under_way, sum_at, closed_end, first_networks_are_quiet, IsClosed, IsAtRest, AreOthers, IsQuiet}
use Rattle.network_moves.proofs.Counts.{count-cons, sum-none}
use Rattle.network_moves.proofs.Words.{one-said, one-management}
use Rattle.network_moves.proofs.Lines.{IsLine, both, false_is_true, none-of, none-of_two, not-without}
use Rattle.network_moves.proofs.LinesChanged.{live-moved}
use Rattle.network_moves.proofs.Sound.{Sound, booked, lost}
use Rattle.network_moves.proofs.Waiting.{waiting-none, given-live}

-- ---- a closed line

none-waiting : (z : Line) → IsClosed z.near → waiting z ≡ []
none-waiting z h =
    waiting-none z.near.phase z.near.queue z.far.queue.received
    (λ live. h.end.idle live (none-of_two z.near.serving z.near.incomplete (not-without z.near.serving h.end.serving h.may_open.down) h.may_open.complete))

none-given : (z : Line) → IsClosed z.near → given_up z ≡ []
none-given z h = given-live z.near.phase z.near.queue z.far.queue.received h.live

unused : {A : Type 0} (near far up incomplete other : Bool) → up ≡ false → incomplete ≡ false → other ≡ false → (not (near || far) && (up || incomplete || other)) ≡ true → A
unused true far up incomplete other d c o e = false_is_true e
unused false true up incomplete other d c o e = false_is_true e
unused false false up incomplete other d c o e = none-of up incomplete other d c o e

line-quiet : (z : Line) → IsAtRest z → IsLine z
line-quiet z h = record {
  near = h.near.end;
  far = h.far.end;
  there = λ e. unused z.near_may_follow z.far_may_follow z.near.up z.near.incomplete z.far.up h.near.may_open.down h.near.may_open.complete h.far.may_open.down e;
  back = λ e. unused z.far_may_follow z.near_may_follow z.far.up z.far.incomplete z.near.up h.far.may_open.down h.far.may_open.complete h.near.may_open.down e;
  first = λ e. both e h.far_alone;
  second = λ e. both e h.near_alone;
  moved = λ m. live-moved (sym h.near.live ∙ m);
  moved_back = λ m. live-moved (sym h.far.live ∙ m);
}

rest-turned : (z : Line) → IsAtRest z → IsAtRest (turned z)
rest-turned z h = record { near = h.far; far = h.near; near_alone = h.far_alone; far_alone = h.near_alone }

-- ---- a quiet network

-- messages of which no law speaks aren't counted
none-counted : (read : Message → Saying) (test : Message → Bool) → ((m : Message) → read m ≡ Other → one_if (test m) ≡ 0) →
    (ms : List Message) → AreOthers read ms → count_by test ms ≡ 0
none-counted read test deaf [] h = refl
none-counted read test deaf (m ∷ ms) h = omega (arith, count-cons test m ms, deaf m h.0, none-counted read test deaf ms h.1)

if-none : (b : Bool) (n : ℕ) → n ≡ 0 → (if b then n else 0) ≡ 0
if-none true n e = e
if-none false n e = refl

module _ (shape : Shape) (read : Message → Saying) (p : Network) (h : IsQuiet read p) where
  on-none : (test : Message → Bool) (z : Line) → IsClosed z.near → on_its_way test z ≡ 0
  on-none test z c = omega (arith, ap (count_by test) (none-waiting z c), ap (count_by test) (none-given z c))

  none-under_way : (test : Message → Bool) → ((m : Message) → read m ≡ Other → one_if (test m) ≡ 0) → under_way shape test p ≡ 0
  none-under_way test deaf =
      omega (
        arith,
        sum-none (λ x. count_by test (p.node x).bag) shape.nodes (λ x. none-counted read test deaf (p.node x).bag (h.nodes x).bag),
        sum-none (λ k. on_its_way test (p.line k) + on_its_way test (turned (p.line k))) shape.links
            (λ k. omega (arith, on-none test (p.line k) (h.lines k).near, on-none test (turned (p.line k)) (h.lines k).far)),
      )

  none-says : (test : Saying → Bool) → one_if (test Other) ≡ 0 → under_way shape (saying read test) p ≡ 0
  none-says test none = none-under_way (saying read test) (λ m e. one-said read m Other e test ∙ none)

  none-at : (f : Line → ℕ) → ((z : Line) → IsAtRest z → f z ≡ 0) → (x : ℕ) → sum_at shape x f p ≡ 0
  none-at f none x =
      sum-none (λ k. (if nat_eq (shape.point k Near) x then f (p.line k) else 0) + (if nat_eq (shape.point k Far) x then f (turned (p.line k)) else 0)) shape.links
      (λ k.
      omega (
        arith,
        if-none (nat_eq (shape.point k Near) x) (f (p.line k)) (none (p.line k) (h.lines k)),
        if-none (nat_eq (shape.point k Far) x) (f (turned (p.line k))) (none (turned (p.line k)) (rest-turned (p.line k) (h.lines k))),
      ))

  none-lost : (test : Message → Bool) (z : Line) → IsAtRest z → lost test z ≡ 0
  none-lost test z r = omega (arith, ap (count_by test) r.near.gone, ap (count_by test) (none-given z r.near))

  none-booked : (test : Message → Bool) (z : Line) → IsAtRest z → booked test z ≡ 0
  none-booked test z r = omega (arith, none-lost test z r, ap (count_by test) r.near.came, ap (count_by test) (none-waiting z r.near))

  pub sound-quiet : Sound shape read p
  sound-quiet = record {
    lines = λ link. line-quiet (p.line link) (h.lines link);
    awaited = λ link side. omega (arith, none-says (is_awaited_by link side) refl);
    truth = λ link side. none-says (is_untrue link side (seen side (p.line link)).near.up (last_accepted (seen side (p.line link)).near.queue)) refl;
    books = λ x. record {
      entered = λ test.
          omega (
            arith,
            ap (count_by (user read test)) (h.nodes x).accepted,
            ap (count_by (user read test)) (h.nodes x).submitted,
            none-at (λ z. count_by (user read test) z.far.came) (λ z r. ap (count_by (user read test)) r.far.came) x,
          );
      each = λ test.
          omega (
            arith,
            ap (count_by (user read test)) (h.nodes x).accepted,
            ap (count_by (user read test)) (h.nodes x).ended,
            ap (count_by (user read test)) (h.nodes x).gone,
            none-counted read (user read test) (λ m e. one-management read m Other e refl test) (p.node x).bag (h.nodes x).bag,
            none-at (booked (user read test)) (none-booked (user read test)) x,
          );
      named = λ test. omega (arith, ap (count_by (user read test)) (h.nodes x).gone, none-at (lost (user read test)) (none-lost (user read test)) x);
    };
  }

-- ---- the first network

closed-first : IsClosed closed_end
closed-first = record {
  end = record {
    queue = sound-first WINDOW (omega arith);
    base = refl;
    serving = λ e. e;
    incomplete = λ e. false_is_true e;
    awaited = λ e. false_is_true e;
    live_up = λ e. refl;
    live_incomplete = λ e. refl;
    idle = λ l e. refl;
  };
  may_open = record { down = refl; complete = refl; unawaited = refl };
  live = refl;
  came = refl;
  gone = refl;
}

pub quiet-first : first_networks_are_quiet
quiet-first read = record {
  lines = λ link. record { near = closed-first; far = closed-first; near_alone = refl; far_alone = refl };
  nodes = λ point. record { bag = tt; submitted = refl; accepted = refl; ended = refl; gone = refl; named = refl };
}
