-- What is done in the run is a move, where it may be done.
use Rattle.network_moves.proofs.Basics.{◌≡◌, ℕ, Bool, true, false, ◌<◌, ◌||◌, List, [], ◌∷◌, ◌++◌, count_by, refl, ap, arith, if◌then◌else◌, eq-eqb, ne_eqb, Some, Ok}
use Rattle.network_moves.proofs.Definitions.{Message, opposite, Order, Answer, is_user_message, MessageFrame, LinkEnd, Line, Node, Network, seen, point_at, NodeBecomes, Becomes, IsTakenFrom, MayOpen, Move, Moves, with_wait, last_accepted, named_count, accept_answer, to_send}
use Rattle.network_moves.specs.Moves as moves
use Rattle.network_moves.specs.Crossing as run
use Rattle.network_moves.specs.Crossing.{Doing, MatedEnd, place_of, mated, read_plainly, at, there, with_node, with_both, after, networks_of, end_of}
use Rattle.network_moves.proofs.Counts.{count-cons}
use Rattle.network_moves.proofs.Lines.{true_is_false, none-first, none-second}

-- ---- one node and one line are set

node-set : (p : Network) (point : ℕ) (n : Node) → point < 3 → NodeBecomes mated p (with_node p point n) point n
node-set p point n inside = record {
  inside = inside;
  here = ap (λ (b : Bool). if b then n else p.node point) (eq-eqb point point refl);
  others = λ other d. ap (λ (b : Bool). if b then n else p.node other) (ne_eqb other point d);
  lines = λ link. refl;
  broken = λ other. refl;
}

link-inside : (end : MatedEnd) → (place_of end).link < 4
link-inside run.First1 = omega arith
link-inside run.First0 = omega arith
link-inside run.Second1 = omega arith
link-inside run.Second0 = omega arith
link-inside run.Cross1 = omega arith
link-inside run.Cross2 = omega arith
link-inside run.Mate2 = omega arith
link-inside run.Mate0 = omega arith

point-inside : (end : MatedEnd) → point_at mated (place_of end) < 3
point-inside run.First1 = omega arith
point-inside run.First0 = omega arith
point-inside run.Second1 = omega arith
point-inside run.Second0 = omega arith
point-inside run.Cross1 = omega arith
point-inside run.Cross2 = omega arith
point-inside run.Mate2 = omega arith
point-inside run.Mate0 = omega arith

both-set : (p : Network) (end : MatedEnd) (z : Line) (n : Node) → Becomes mated p (with_both p end z n) (place_of end) z n
both-set p end z n =
    let link : ℕ = (place_of end).link in
    let point : ℕ = point_at mated (place_of end) in
    record {
      inside = point-inside end;
      lines = record {
        inside = link-inside end;
        here = ap (λ (b : Bool). if b then seen (place_of end).side z else p.line link) (eq-eqb link link refl);
        others = λ other d. ap (λ (b : Bool). if b then seen (place_of end).side z else p.line other) (ne_eqb other link d);
      };
      here = ap (λ (b : Bool). if b then n else p.node point) (eq-eqb point point refl);
      others = λ other d. ap (λ (b : Bool). if b then n else p.node other) (ne_eqb other point d);
      broken = λ other. refl;
    }

-- ---- an end that may open

none-third : (a b c : Bool) → (a || b || c) ≡ false → c ≡ false
none-third true b c e = true_is_false e
none-third false true c e = true_is_false e
none-third false false c e = e

abbrev pub is_busy : LinkEnd → Bool
is_busy x = x.up || x.incomplete || x.awaited

pub idle-opens : (x : LinkEnd) → is_busy x ≡ false → MayOpen x
idle-opens x e = record {
  down = none-first x.up x.incomplete x.awaited e;
  complete = none-second x.up x.incomplete x.awaited e;
  unawaited = none-third x.up x.incomplete x.awaited e;
}

-- ---- what may be done

taken : (bag : List Message) (m : Message) → bag ≡ m ∷ [] → IsTakenFrom bag m []
taken bag m e = record { counted = λ test. omega (arith, ap (count_by test) e, count-cons test m []) }

abbrev pub Can : Network → Doing → Type 0
Can p (run.opens end) = (is_busy (at p end).near ≡ false) × (is_busy (at p end).far ≡ false)
Can p (run.follows end) = ((at p end).near_may_follow ≡ true) × (is_busy (at p end).near ≡ false)
Can p (run.says end) = (at p end).near.up ≡ true
Can p (run.hears end) = ((at p end).near.up ≡ true) × ((at p end).told_near ≡ 1)
Can p (run.enters end) = ((at p end).near.up ≡ true) × ((at p end).near.heard ≡ true)
Can p (run.submits point message) = (point < 3) × (is_user_message (read_plainly message) ≡ true)
Can p (run.ends point message) = (point < 3) × ((p.node point).bag ≡ message ∷ []) × (is_user_message (read_plainly message) ≡ true)
Can p (run.places end message) =
    ((there p end).bag ≡ message ∷ []) × ((at p end).near.serving ≡ true) × (mated.leads (place_of end).link (place_of end).side message ≡ true)
Can p (run.sends end number message) = ((at p end).near.serving ≡ true) × (to_send (at p end).near.queue 2 ≡ Some (record { number = number; message = message }))
Can p (run.takes end fsn bsn message count) =
    ((at p end).to_near ≡ MessageFrame fsn bsn message ∷ []) × ((at p end).near.up ≡ true) × (accept_answer (at p end).near.queue fsn bsn true ≡ Ok count)
Can p (run.drops end frame) = ((at p end).to_near ≡ frame ∷ []) × ((at p end).near.up ≡ false)
Can p (run.falls end) = (at p end).near.up ≡ true
Can p (run.orders end order) =
    ((at p end).near.incomplete ≡ true) × ((at p end).near.awaited ≡ false)
    × (read_plainly order ≡ Order (place_of end).link (place_of end).side (last_accepted (at p end).near.queue))
Can p (run.answers end order number answer count) =
    ((there p end).bag ≡ order ∷ []) × (read_plainly order ≡ Order (place_of end).link (opposite (place_of end).side) number)
    × ((at p end).near.incomplete ≡ true) × (named_count (at p end).near.queue number ≡ Some count)
    × (read_plainly answer ≡ Answer (place_of end).link (place_of end).side (last_accepted (at p end).near.queue))
Can p (run.completes end answer number count) =
    ((there p end).bag ≡ answer ∷ []) × (read_plainly answer ≡ Answer (place_of end).link (opposite (place_of end).side) number)
    × ((at p end).near.awaited ≡ true) × ((at p end).near.incomplete ≡ true) × (named_count (at p end).near.queue number ≡ Some count)
Can p (run.runs_out end) = (at p end).near.incomplete ≡ true
Can p (run.ends_wait end answer number) =
    ((there p end).bag ≡ answer ∷ []) × (read_plainly answer ≡ Answer (place_of end).link (opposite (place_of end).side) number)
    × ((at p end).near.awaited ≡ true) × ((at p end).near.incomplete ≡ false)
Can p (run.releases end) = (at p end).near.awaited ≡ true

done : (p : Network) (d : Doing) → Can p d → Move mated read_plainly p (after p d)
done p (run.opens end) c = moves.opens_first (record { place = place_of end; near_may = idle-opens (at p end).near c.0; far_may = idle-opens (at p end).far c.1; after = both-set p end _ _ })
done p (run.follows end) c = moves.opens_second (record { place = place_of end; follows = c.0; near_may = idle-opens (at p end).near c.1; after = both-set p end _ _ })
done p (run.says end) c = moves.sends_status (record { place = place_of end; up = c; after = both-set p end _ _ })
done p (run.hears end) c = moves.hears_status (record { place = place_of end; up = c.0; rest = 0; some = c.1; after = both-set p end _ _ })
done p (run.enters end) c = moves.enters (record { place = place_of end; up = c.0; heard = c.1; after = both-set p end _ _ })
done p (run.submits point message) c = moves.submits (record { point = point; message = message; user = c.1; after = node-set p point _ c.0 })
done p (run.ends point message) c =
    moves.ends (record { point = point; message = message; rest = []; taken = taken (p.node point).bag message c.1; user = c.2; after = node-set p point _ c.0 })
done p (run.places end message) c =
    moves.places (record { place = place_of end; message = message; rest = []; taken = taken (there p end).bag message c.0; serving = c.1; leads = c.2; after = both-set p end _ _ })
done p (run.sends end number message) c =
    moves.sends_message (record {
      place = place_of end;
      serving = c.0;
      window = 2;
      small = omega arith;
      sending = record { number = number; message = message };
      next = c.1;
      after = both-set p end _ _;
    })
done p (run.takes end fsn bsn message count) c =
    moves.takes_message (record {
      place = place_of end;
      fsn = fsn;
      bsn = bsn;
      message = message;
      rest = [];
      first = c.0;
      up = c.1;
      count = count;
      accepted = c.2;
      after = both-set p end _ _;
    })
done p (run.drops end frame) c = moves.drops (record { place = place_of end; frame = frame; rest = []; first = c.0; down = c.1; after = both-set p end _ _ })
done p (run.falls end) c = moves.falls (record { place = place_of end; up = c; after = both-set p end _ _ })
done p (run.orders end order) c =
    moves.orders (record { place = place_of end; incomplete = c.0; unawaited = c.1; order = order; says = c.2; after = both-set p end _ _ })
done p (run.answers end order number answer count) c =
    moves.completes_by_order (record {
      place = place_of end;
      number = number;
      order = order;
      rest = [];
      taken = taken (there p end).bag order c.0;
      says = c.1;
      incomplete = c.2;
      count = count;
      named = c.3;
      answer = answer;
      answers = c.4;
      after = both-set p end _ _;
    })
done p (run.completes end answer number count) c =
    moves.completes_by_answer (record {
      place = place_of end;
      number = number;
      answer = answer;
      rest = [];
      taken = taken (there p end).bag answer c.0;
      says = c.1;
      awaited = c.2;
      incomplete = c.3;
      count = count;
      named = c.4;
      after = both-set p end _ _;
    })
done p (run.runs_out end) c = moves.completes_by_time (record { place = place_of end; incomplete = c; after = both-set p end _ _ })
done p (run.ends_wait end answer number) c =
    moves.ends_wait (record {
      place = place_of end;
      number = number;
      answer = answer;
      rest = [];
      taken = taken (there p end).bag answer c.0;
      says = c.1;
      awaited = c.2;
      complete = c.3;
      after = both-set p end _ _;
    })
done p (run.releases end) c =
    let point : ℕ = point_at mated (place_of end) in
    let z : Line = with_wait (at p end) false in
    let set : Becomes mated p (with_both p end z (there p end)) (place_of end) z (there p end) = both-set p end z (there p end) in
    moves.releases_bar (record {
      place = place_of end;
      awaited = c;
      after = record {
        inside = set.inside;
        lines = record { inside = set.lines.inside; here = set.lines.here; others = set.lines.others };
        here = set.here;
        others = set.others;
        broken = ap (λ (b : Bool). b || p.broken point) (eq-eqb point point refl);
        others_broken = λ other d. ap (λ (b : Bool). b || p.broken other) (ne_eqb other point d);
      };
    })

-- ---- a list of them

abbrev pub AllCan : Network → List Doing → Type 0
AllCan p [] = Unit {0}
AllCan p (d ∷ ds) = Can p d × AllCan (after p d) ds

pub all-done : (p : Network) (ds : List Doing) → AllCan p ds → Moves mated read_plainly p (networks_of p ds)
all-done p [] c = tt
all-done p (d ∷ ds) c = (done p d c.0, all-done (after p d) ds c.1)

pub can-append : (p : Network) (xs ys : List Doing) → AllCan p xs → AllCan (end_of p xs) ys → AllCan p (xs ++ ys)
can-append p [] ys c d = d
can-append p (x ∷ xs) ys c d = (c.0, can-append (after p x) xs ys c.1 d)
