-- The runs of the mated pair are some.
use Rattle.network_moves.proofs.Basics.{◌≡◌, ◌||◌, ◌++◌, ℕ, zero, suc, Bool, true, false, not, nat_eq, refl, arith, nat_tests}
use Rattle.network_moves.proofs.Definitions.{first_network}
use Rattle.network_moves.specs.Crossing.{is_mate, joining, failing, ordering, answering, changing_over, moving, run, end_of, Crosses}
use Rattle.network_moves.specs.LateAnswer.{giving_up, opening_again, late_run, EndsTheBar}
use Rattle.network_moves.specs.Beside.{breaking, between, mates_run, MatesDecide}
use Rattle.network_moves.proofs.Running.{AllCan, all-done, can-append, idle-opens}

-- one after another
infixr 20 ◌▷◌
◌▷◌ : {A B : Type 0} → A → B → A × B
a ▷ b = (a, b)

-- each may be done, in turn
joining-can : AllCan first_network joining
joining-can =
    (refl, refl) ▷ (refl, refl) ▷ refl ▷ refl ▷ (refl, refl) ▷ (refl, refl) ▷ (refl, refl) ▷ (refl, refl)
    ▷ (refl, refl) ▷ (refl, refl) ▷ refl ▷ refl ▷ (refl, refl) ▷ (refl, refl) ▷ (refl, refl) ▷ (refl, refl)
    ▷ (refl, refl) ▷ (refl, refl) ▷ refl ▷ refl ▷ (refl, refl) ▷ (refl, refl) ▷ (refl, refl) ▷ (refl, refl)
    ▷ (refl, refl) ▷ (refl, refl) ▷ refl ▷ refl ▷ (refl, refl) ▷ (refl, refl) ▷ (refl, refl) ▷ (refl, refl)
    ▷ tt

failing-can : AllCan (end_of first_network joining) failing
failing-can =
    (omega arith, refl)
    ▷ (refl, refl, refl) ▷ (refl, refl) ▷ (refl, refl, refl)
    ▷ (omega arith, refl, refl) ▷ (omega arith, refl) ▷ (refl, refl, refl) ▷ (refl, refl)
    ▷ refl ▷ refl ▷ refl ▷ refl ▷ (refl, refl)
    ▷ tt

ordering-can : AllCan (end_of first_network (joining ++ failing)) ordering
ordering-can =
    (refl, refl, refl)
    ▷ (refl, refl, refl) ▷ (refl, refl) ▷ (refl, refl, refl) ▷ (refl, refl, refl) ▷ (refl, refl) ▷ (refl, refl, refl)
    ▷ tt

answering-can : AllCan (end_of first_network (joining ++ failing ++ ordering)) answering
answering-can =
    (refl, refl, refl, refl, refl)
    ▷ (refl, refl, refl) ▷ (refl, refl) ▷ (refl, refl, refl) ▷ (refl, refl, refl) ▷ (refl, refl) ▷ (refl, refl, refl)
    ▷ (refl, refl, refl, refl, refl)
    ▷ tt

changing_over-can : AllCan (end_of first_network (joining ++ failing ++ ordering ++ answering)) changing_over
changing_over-can =
    (refl, refl, refl)
    ▷ (refl, refl, refl) ▷ (refl, refl) ▷ (refl, refl, refl) ▷ (refl, refl, refl) ▷ (refl, refl) ▷ (refl, refl, refl)
    ▷ (refl, refl, refl, refl, refl)
    ▷ (refl, refl, refl) ▷ (refl, refl) ▷ (refl, refl, refl) ▷ (refl, refl, refl) ▷ (refl, refl) ▷ (refl, refl, refl)
    ▷ (refl, refl, refl, refl, refl)
    ▷ tt

moving-can : AllCan (end_of first_network (joining ++ failing ++ ordering ++ answering ++ changing_over)) moving
moving-can =
    (refl, refl, refl) ▷ (refl, refl) ▷ (refl, refl, refl) ▷ (refl, refl, refl) ▷ (refl, refl) ▷ (refl, refl, refl)
    ▷ (omega arith, refl, refl)
    ▷ tt

all-can : AllCan first_network run
all-can =
    can-append first_network (joining ++ failing ++ ordering ++ answering ++ changing_over) moving
    (can-append first_network (joining ++ failing ++ ordering ++ answering) changing_over
    (can-append first_network (joining ++ failing ++ ordering) answering
    (can-append first_network (joining ++ failing) ordering (can-append first_network joining failing joining-can failing-can) ordering-can)
    answering-can)
    changing_over-can)
    moving-can

pub crosses : Crosses
crosses = record {
  moves = all-done first_network run all-can;
  order = record { awaited = refl; one = refl };
  crossed = record {
    accepted = refl;
    passed_on = refl;
    ended = refl;
    bags = (refl, refl, refl);
    named = (refl, refl, refl);
    first_may_open = (idle-opens _ refl, idle-opens _ refl);
    second_may_open = (idle-opens _ refl, idle-opens _ refl);
    unbroken = λ point. refl;
  };
}

-- ---- point 0 breaks

apart-can : AllCan (end_of first_network joining) breaking
apart-can = refl ▷ (refl, refl, refl) ▷ refl ▷ tt

between-can : AllCan (end_of first_network (joining ++ breaking)) between
between-can = (omega arith, refl) ▷ (refl, refl, refl) ▷ (refl, refl) ▷ (refl, refl, refl) ▷ (omega arith, refl, refl) ▷ tt

-- a link that leads where it may, by what concerns the mates
within-so : (a b : Bool) → (a || not b) ≡ true → b ≡ true → a ≡ true
within-so true b e f = refl
within-so false true e f = e
within-so false false e f = f

mate-inside : (point : ℕ) → is_mate point ≡ true → nat_eq point 0 ≡ false
mate-inside zero e = absurd cc
mate-inside (suc point) e = grind (arith, nat_tests)

pub mates-decide : MatesDecide
mates-decide = record {
  apart = record { inside = mate-inside; stays = λ place m inside leads of. within-so _ _ leads of };
  moves = all-done first_network mates_run (can-append first_network (joining ++ breaking) between (can-append first_network joining breaking joining-can apart-can) between-can);
  broken = refl;
  whole = (refl, refl);
  left = (refl, refl);
  accepted = refl;
  ended = refl;
}

-- ---- the late answer

giving_up-can : AllCan (end_of first_network joining) giving_up
giving_up-can =
    (omega arith, refl) ▷ (refl, refl, refl) ▷ (refl, refl) ▷ refl ▷ refl ▷ (refl, refl) ▷ (refl, refl, refl)
    ▷ (refl, refl, refl) ▷ (refl, refl) ▷ (refl, refl, refl) ▷ (refl, refl, refl) ▷ (refl, refl) ▷ (refl, refl, refl)
    ▷ refl
    ▷ tt

opening_again-can : AllCan (end_of first_network (joining ++ giving_up)) opening_again
opening_again-can =
    (refl, refl, refl, refl, refl)
    ▷ (refl, refl, refl) ▷ (refl, refl) ▷ (refl, refl, refl) ▷ (refl, refl, refl) ▷ (refl, refl) ▷ (refl, refl, refl)
    ▷ (refl, refl, refl, refl) ▷ (refl, refl)
    ▷ tt

pub ends-the-bar : EndsTheBar
ends-the-bar = record {
  moves =
      all-done first_network late_run
      (can-append first_network (joining ++ giving_up) opening_again (can-append first_network joining giving_up joining-can giving_up-can) opening_again-can);
  barred = record { complete = refl; awaited = refl; named = refl };
  opened = record { up = refl; came = refl; gone = refl; named = refl; unbroken = λ point. refl };
}
