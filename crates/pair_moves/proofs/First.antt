-- A quiet pair: nothing is under way. The first pair is one.
use Rattle.pair_moves.proofs.Basics.{◌≡◌, ℕ, zero, suc, Bool, true, false, not, ◌&&◌, ◌||◌, List, [], ◌++◌, count_by, drop, refl, ap, sym, ◌∙◌, arith}
use Rattle.pair_moves.proofs.Definitions.{Message, WINDOW, Flow, Reading, turned_reading, Saying, Other, last_accepted, is_untrue, sound-first, is_order, is_answer, is_declaration, is_confirmation, LinkEnd, Line, Pair, turned, unreceived, closed_end, first_side, sum_to, under_way, one_if, saying, user, of_flow, standing_on, IsInOrder, IsClosed, IsAtRest, IsIdle, IsQuiet, join_to, first_pairs_are_quiet}
use Rattle.pair_moves.proofs.Lines.{IsLine, both, false_is_true, none-of, none-of_two, not-without}
use Rattle.pair_moves.proofs.Books.{Tallies}
use Rattle.pair_moves.proofs.Sound.{Sound}
use Rattle.pair_moves.proofs.Mixed.{IsDeaf, count-stays, deaf-saying, deaf-user, flow-stays}
use Rattle.pair_moves.proofs.Joins.{join-none}
use Rattle.pair_moves.proofs.Tells.{none-said}

-- ---- a closed line

drop-none : (n : ℕ) → drop {A = Message} n [] ≡ []
drop-none zero = refl
drop-none (suc n) = refl

-- no message is in a queue
none-queued : (x : LinkEnd) → IsClosed x → x.queue.all ≡ []
none-queued x h =
    h.end.idle (none-of_two x.serving x.incomplete (not-without x.serving h.end.serving h.may_open.down) h.may_open.complete)

none-unreceived : (z : Line) → IsAtRest z → unreceived z ≡ []
none-unreceived z h = ap (λ (ms : List Message). drop z.far.queue.received ms) (none-queued z.near h.near) ∙ drop-none z.far.queue.received

unused : {A : Type 0} (near far up incomplete other : Bool) → up ≡ false → incomplete ≡ false → other ≡ false → (not (near || far) && (up || incomplete || other)) ≡ true → A
unused true far up incomplete other d c o e = false_is_true e
unused false true up incomplete other d c o e = false_is_true e
unused false false up incomplete other d c o e = none-of up incomplete other d c o e

line-quiet : (z : Line) → IsAtRest z → IsLine z
line-quiet z h = record {
  near = h.near.end;
  far = h.far.end;
  there = λ e. unused z.near_may_follow z.far_may_follow z.near.up z.near.incomplete z.far.up h.near.may_open.down h.near.may_open.complete h.far.may_open.down e;
  back = λ e. unused z.far_may_follow z.near_may_follow z.far.up z.far.incomplete z.near.up h.far.may_open.down h.far.may_open.complete h.near.may_open.down e;
  first = λ e. both e h.far_alone;
  second = λ e. both e h.near_alone;
}

-- ---- a quiet pair

sum-none : (f : ℕ → ℕ) (n : ℕ) → ((k : ℕ) → f k ≡ 0) → sum_to f n ≡ 0
sum-none f zero h = refl
sum-none f (suc n) h = omega (arith, sum-none f n h, h n)

module _ (read : Reading) where
  pub quiet-turned : (p : Pair) → IsQuiet read p → IsQuiet (turned_reading read) (turned p)
  quiet-turned p h = record {
    lines = λ link. let z : IsAtRest (p.line link) = h.lines link in record { near = z.far; far = z.near; near_alone = z.far_alone; far_alone = z.near_alone };
    near = h.far;
    far = h.near;
  }

  none-under_way : (test : Message → Bool) → IsDeaf read.there test → (p : Pair) → IsQuiet read p → under_way test p ≡ 0
  none-under_way test deaf p h =
      let loose : count_by test p.near.loose ≡ 0 = ap (count_by test) h.near.loose in
      let arrived : count_by test p.far.arrived ≡ 0 = ap (count_by test) h.far.arrived in
      omega (
        arith,
        count-stays read.there test deaf p.near.held [] h.near.held,
        loose,
        arrived,
        sum-none (λ link. count_by test (unreceived (p.line link))) p.links (λ link. ap (count_by test) (none-unreceived (p.line link) (h.lines link))),
      )

  none-says : (test : Saying → Bool) → test Other ≡ false → (p : Pair) → IsQuiet read p → under_way (saying read.there test) p ≡ 0
  none-says test none p h = none-under_way (saying read.there test) (deaf-saying read.there test none) p h

module _ (read : Reading) where
  tallies-quiet : (p : Pair) → IsQuiet read p → Tallies read p
  tallies-quiet p h = record {
    orders = λ link. omega (
      arith,
      none-says read (is_order link) refl p h,
      none-says (turned_reading read) (is_answer link) refl (turned p) (quiet-turned read p h),
      none-said (p.line link).near.awaited (h.lines link).near.may_open.unawaited,
    );
    words = λ link. none-says read (is_untrue link (p.line link).near.up (last_accepted (p.line link).near.queue)) refl p h;
    codes = λ code.
        let same : one_if (p.near.outstanding code) ≡ one_if (p.near.given_up code) = ap one_if (h.near.codes code) in
        omega (arith, none-says read (is_declaration code) refl p h, none-says (turned_reading read) (is_confirmation code) refl (turned p) (quiet-turned read p h), same);
    once = λ test.
        let accepted : count_by (user read.there test) p.near.accepted ≡ 0 = ap (count_by (user read.there test)) h.near.accepted in
        let received : count_by (user read.there test) p.far.received ≡ 0 = ap (count_by (user read.there test)) h.far.received in
        omega (arith, accepted, received, none-under_way read (user read.there test) (deaf-user read.there test) p h);
  }

module _ (read : Reading) where
  pub sound-quiet : (p : Pair) → IsQuiet read p → Sound read p
  sound-quiet p h = record {
    lines = λ link. line-quiet (p.line link) (h.lines link);
    there = tallies-quiet read p h;
    back = tallies-quiet (turned_reading read) (turned p) (quiet-turned read p h);
  }

  module _ (flow : Flow) where
    abbrev its : List Message → List Message
    its ms = of_flow read.there flow ms

    none-standing : (p : Pair) → IsQuiet read p → (link : ℕ) → standing_on read.there flow p link ≡ []
    none-standing p h link = ap its (none-unreceived (p.line link) (h.lines link))

    pub order-quiet : (p : Pair) → IsQuiet read p → IsInOrder read.there flow p
    order-quiet p h = record {
      sequence =
          ap its h.near.accepted
          ∙ sym (ap (λ (ms : List Message). its ms ++ its p.far.arrived ++ join_to (standing_on read.there flow p) p.links ++ its p.near.held ++ its p.near.loose) h.far.received
          ∙ ap (λ (ms : List Message). its ms ++ join_to (standing_on read.there flow p) p.links ++ its p.near.held ++ its p.near.loose) h.far.arrived
          ∙ ap (λ (ms : List Message). ms ++ its p.near.held ++ its p.near.loose) (join-none (standing_on read.there flow p) p.links (λ k l. none-standing p h k))
          ∙ ap (λ (ms : List Message). ms ++ its p.near.loose) (flow-stays read.there flow p.near.held [] h.near.held)
          ∙ ap its h.near.loose);
      single = λ k j kl jl n m. absurd (n (none-standing p h k));
      guard = λ k l n. absurd (n (none-standing p h k));
    }

-- ---- the first pair

closed-first : IsClosed closed_end
closed-first = record {
  end = record { queue = sound-first WINDOW (omega arith); base = refl; serving = λ e. e; incomplete = λ e. false_is_true e; awaited = λ e. false_is_true e; idle = λ e. refl };
  may_open = record { down = refl; complete = refl; unawaited = refl };
}

idle-first : (read : Message → Saying) → IsIdle read first_side
idle-first read = record { accepted = refl; received = refl; arrived = refl; held = refl; loose = refl; codes = λ code. refl }

pub quiet-first : first_pairs_are_quiet
quiet-first read links = record {
  lines = λ link. record { near = closed-first; far = closed-first; near_alone = refl; far_alone = refl };
  near = idle-first read.there;
  far = idle-first read.back;
}
