-- Whatever is done in the run, the two nodes may do it, while few messages pass: nothing of it needs computing.
use Rattle.std.proofs.Common.{◌≡◌, ◌≤◌, ◌+◌, ◌*◌, ℕ, Bool, true, false, List, [], ◌∷◌, ◌++◌, nat_eq, refl, subst, sym, inl, arith}
use Rattle.std.specs.Prelude.{if◌then◌else◌}
use Rattle.std.specs.List.{Contains}
use Rattle.std.proofs.lemmas.Bool.Decides.{nat_tests}
use Rattle.sctp_moves.specs.Numbers.{modulus, window}
use Rattle.sctp_moves.proofs.Members.{contains-from}
use Rattle.sctp_ends.specs.Worlds.{Emitted}
use Rattle.sctp_rules.specs.Rows.{address}
use Rattle.exchange_rules.specs.Queues.{WholeQueues}
use Rattle.sctp_gate.specs.Gates.{Did}
use Rattle.sctp_gate.specs.Calling as calling
use Rattle.node_rules.specs.Worlds.{IsBetween}
use Rattle.pair_rules.specs.OneEndFirst.{far_settings, near_settings}
use Rattle.gate_rules.specs.Calls.{books_kept, messages_in}
use Rattle.gate_rules.specs.FallAndReturn.{Act, AtFar, AtNear, Done, Fills, First, Hears, Line, Passes, Second, Settles, Submits, Times, after_all, after_one, doing_of, far_make, latest, near_make, number_of, through}
use Rattle.gate_rules.specs.Worlds.{Brings, Calls, Doing, Happens, Leaves, MayCall, MayDo, Node, Port, Step, Steps, World, at_far, at_near, did, done_by, last_world, port_after}

-- ---- few messages passed

abbrev pub most : ℕ
most = 1000

abbrev IsFew : Port → Type 0
IsFew p = p.messages ≤ most

pub record AreFew (w : World) : Type 0 where
  pub near_first : IsFew (w.near.ports 0)
  pub near_second : IsFew (w.near.ports 1)
  pub far_first : IsFew (w.far.ports 0)
  pub far_second : IsFew (w.far.ports 1)

is-same : (j i : ℕ) → nat_eq j i ≡ true → j ≡ i
is-same j i e = grind (arith, nat_tests, e)

same-le : (n : ℕ) → n ≤ n
same-le n = omega arith

more-le : (n m : ℕ) → n ≤ n + m
more-le n m = omega arith

-- they only grow
grown-by : (p : Port) (ports : (link : ℕ) → Port) (link other more : ℕ) (b : Bool) → nat_eq link other ≡ b → p.messages ≡ (ports other).messages + more
    → (ports link).messages ≤ (if b then p else ports link).messages
grown-by p ports link other more true e f =
    subst (λ (n : ℕ). (ports link).messages ≤ n) (sym f)
    (subst (λ (i : ℕ). (ports link).messages ≤ (ports i).messages + more) (is-same link other e) (more-le (ports link).messages more))
grown-by p ports link other more false e f = same-le (ports link).messages

grown : (what : Doing) (n : Node) (link : ℕ) → (n.ports link).messages ≤ ((did what n).ports link).messages
grown (Happens what) n link = same-le (n.ports link).messages
grown (Brings what) n link = same-le (n.ports link).messages
grown (Leaves other) n link = same-le (n.ports link).messages
grown (Calls other call) n link =
    let d : Did WholeQueues = done_by books_kept call other n in
    grown-by (port_after call d (n.ports other)) n.ports link other (messages_in d.seen) (nat_eq link other) refl refl

le-le : (a b : ℕ) → b ≤ most → a ≤ b → a ≤ most
le-le a b f g = omega (arith, f, g)

few-of : (what : Doing) (n : Node) (link : ℕ) → IsFew ((did what n).ports link) → IsFew (n.ports link)
few-of what n link few = le-le (n.ports link).messages ((did what n).ports link).messages few (grown what n link)

few-one : (one : Done) (w : World) → AreFew (after_one one w) → AreFew w
few-one (AtNear what) w few = record {
  near_first = few-of (doing_of w.far what) w.near 0 few.near_first;
  near_second = few-of (doing_of w.far what) w.near 1 few.near_second;
  far_first = few.far_first;
  far_second = few.far_second;
}
few-one (AtFar what) w few = record {
  near_first = few.near_first;
  near_second = few.near_second;
  far_first = few-of (doing_of w.near what) w.far 0 few.far_first;
  far_second = few-of (doing_of w.near what) w.far 1 few.far_second;
}

few-all : (all : List Done) (w : World) → AreFew (after_all all w) → AreFew w
few-all [] w few = few
few-all (one ∷ more) w few = few-one one w (few-all more (after_one one w) few)

-- ---- what comes was put out, and isn't too old

young : (messages made : ℕ) → messages ≤ most → messages + 2 * window ≤ made + modulus
young messages made few = omega (arith, few)

comes : (p : Port) (packets : List Emitted) (now : ℕ) → p.packets ≡ packets → IsFew p → MayCall p (calling.Hears now (latest packets) address)
comes p [] now e few = tt
comes p (one ∷ more) now e few = record {
  one = one;
  there = subst (λ (l : List Emitted). Contains l one) (sym e) (contains-from (one ∷ more) one (inl refl));
  is = refl;
  young = young p.messages one.made few;
}

hears : (p : Port) (now : ℕ) → IsFew p → MayCall p (calling.Hears now (latest p.packets) address)
hears p now few = comes p p.packets now refl few

-- ---- each may be done

abbrev near-between : (line : Line) → IsBetween near_settings far_settings (number_of line)
near-between First = record { there = 0; is = refl }
near-between Second = record { there = 1; is = refl }

abbrev far-between : (line : Line) → IsBetween far_settings near_settings (number_of line)
far-between First = record { there = 0; is = refl }
far-between Second = record { there = 1; is = refl }

near-may : (what : Act) (w : World) → AreFew w → MayDo near_settings far_settings w.far (doing_of w.far what)
near-may Passes w few = tt
near-may (Submits message) w few = tt
near-may (Settles line now) w few = (near-between line, tt)
near-may (Fills line now) w few = (near-between line, tt)
near-may (Times line now) w few = (near-between line, tt)
near-may (Hears First now) w few = (near-between First, hears (w.far.ports 0) now few.far_first)
near-may (Hears Second now) w few = (near-between Second, hears (w.far.ports 1) now few.far_second)

far-may : (what : Act) (w : World) → AreFew w → MayDo far_settings near_settings w.near (doing_of w.near what)
far-may Passes w few = tt
far-may (Submits message) w few = tt
far-may (Settles line now) w few = (far-between line, tt)
far-may (Fills line now) w few = (far-between line, tt)
far-may (Times line now) w few = (far-between line, tt)
far-may (Hears First now) w few = (far-between First, hears (w.near.ports 0) now few.near_first)
far-may (Hears Second now) w few = (far-between Second, hears (w.near.ports 1) now few.near_second)

one-step : (one : Done) (w : World) → AreFew w → Step near_make far_make w (after_one one w)
one-step (AtNear what) w few = at_near (doing_of w.far what) (near-may what w few) refl
one-step (AtFar what) w few = at_far (doing_of w.near what) (far-may what w few) refl

pub all-steps : (all : List Done) (w : World) → AreFew (after_all all w) → Steps near_make far_make w (through all w)
all-steps [] w few = tt
all-steps (one ∷ more) w few = (one-step one w (few-all (one ∷ more) w few), all-steps more (after_one one w) few)

-- one list, and then another
pub after-more : (all more : List Done) (w : World) → after_all (all ++ more) w ≡ after_all more (after_all all w)
after-more [] more w = refl
after-more (one ∷ all) more w = after-more all more (after_one one w)

pub last-after : (all : List Done) (w : World) → last_world w (through all w) ≡ after_all all w
last-after [] w = refl
last-after (one ∷ more) w = last-after more (after_one one w)
