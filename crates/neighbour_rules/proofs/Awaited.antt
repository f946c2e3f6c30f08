-- Nothing is awaited in vain, since this holds of the moves.
use Rattle.pair_rules.proofs.Basics.{◌≡◌, ◌+◌, ℕ, Bool, false, Option, refl, ap, sym, ◌∙◌, arith}
use Rattle.pair_rules.proofs.Definitions.{Message, Configuration, Saying, is_order, is_answer, Pair, PairState, turned}
use Rattle.pair_moves.specs.Ends as ends
use Rattle.pair_moves.specs.Sayings.{Other, is_declaration, is_confirmation}
use Rattle.pair_moves.specs.Laws as moves
use Rattle.pair_moves.specs.Laws.{CodesAreOutstanding, OrdersAreAwaited, one_if, saying}
use Rattle.pair_moves.proofs.Concluded.{orders_are_awaited-always, codes_are_outstanding-always}
use Rattle.pair_rules.specs.Awaiting.{Kind, acknowledged, confirmed, declared, ordered}
use Rattle.pair_rules.proofs.World.{World}
use Rattle.pair_rules.proofs.Standing.{world_of}
use Rattle.neighbour_rules.specs.Awaiting.{AwaitsNothingInVain, is_awaited, nothing_is_awaited_in_vain, says_to, under_way}
use Rattle.neighbour_rules.specs.Laws.{unreceived}
use Rattle.neighbour_rules.proofs.World.{code_of, says-alike, says_of, shown}
use Rattle.neighbour_rules.proofs.Good.{IsSent}
use Rattle.neighbour_rules.proofs.Staying.{with_settings}
use Rattle.neighbour_rules.proofs.Sharing.{AreFacing, facing_back, far_joint, from_first, near_joint}
use Rattle.neighbour_rules.proofs.FarEnds.{IsLine, is-line, line-known, line_at}
use Rattle.neighbour_rules.proofs.FarEnds as far_ends
use Rattle.neighbour_rules.proofs.Standing.{Since, Stands, since-back}
use Rattle.neighbour_rules.proofs.AllSteps.{stands-turned}
use Rattle.neighbour_rules.proofs.Promised.{always, of-shown}
use Rattle.neighbour_rules.proofs.FourLaws.{between, counted}
use Rattle.neighbour_rules.proofs.SaidWords as said
use Rattle.neighbour_rules.proofs.SaidWords.{codes-alike, count-alike}

module _ (c z : Configuration) (a : AreFacing c z) (q : PairState) (s : Stands c z a (with_settings c z q)) (kept : Since c z a (with_settings c z q)) where
  -- as many are under way there as in the machine
  pub ways : (of : Kind) (named : ℕ) (test : Saying → Bool) → test Other ≡ false → ((m : Message) → IsSent c z a.base.there a.near_set m → says_to of c.own z named m ≡ test (says_of c.own z.own a.base.there m))
      → under_way of named (with_settings c z q) ≡ moves.under_way (saying (says_of c.own z.own a.base.there) test) (shown c z a.near_set a.far_set a.base (world_of (with_settings c z q) s.to_near s.to_far))
  ways of named test none same =
      count-alike (IsSent c z a.base.there a.near_set) (says_to of c.own z named) (saying (says_of c.own z.own a.base.there) test) (unreceived (with_settings c z q)) same (between c z a q s kept)
      ∙ counted c z a q s kept test none

module _ (c z : Configuration) (a : AreFacing c z) (q : PairState) (s : Stands c z a (with_settings c z q)) (kept : Since c z a (with_settings c z q)) where
  abbrev p : PairState
  p = with_settings c z q

  abbrev w : World
  w = world_of p s.to_near s.to_far

  abbrev view : Pair
  view = shown c z a.near_set a.far_set a.base w

  abbrev read : Message → Saying
  read = says_of c.own z.own a.base.there

  -- of what comes back
  abbrev heard : Message → Saying
  heard = says_of c.own z.own a.base.back

  back : (of : Kind) (named : ℕ) (test : Saying → Bool) → test Other ≡ false → ((m : Message) → IsSent z c a.base.back a.far_set m → says_to of z.own c named m ≡ test (says_of z.own c.own a.base.back m))
      → under_way of named (turned p) ≡ moves.under_way (saying heard test) (ends.turned view)
  back of named test none same =
      ways z c (facing_back c z a) (turned q) (stands-turned c z a p s) (since-back c z a p kept) of named test none same
      ∙ ap (λ (reads : Message → Saying). moves.under_way (saying reads test) (ends.turned view)) (sym (says-alike c.own z.own a.base.back))

  module _ (link other : ℕ) (e : IsLine c z (near_joint c z a) link other) where
    back-line : IsLine z c (far_joint c z a) other link
    back-line = far_ends.ends-turned c z a.near_set a.far_set link other e

    answered : (m : Message) → IsSent z c a.base.back a.far_set m → says_to acknowledged z.own c link m ≡ is_answer (code_of c link) (says_of z.own c.own a.base.back m)
    answered m is = (said.says-alike z c (far_joint c z a) other link back-line m is).answers ∙ ap (λ (k : ℕ). is_answer k (says_of z.own c.own a.base.back m)) e.code

    awaited : moves.under_way (saying read (is_order (code_of c link))) view + moves.under_way (saying heard (is_answer (code_of c link))) (ends.turned view) ≡ one_if (line_at w link other).near.awaited
    awaited =
        (of-shown c z a q s kept OrdersAreAwaited orders_are_awaited-always).there (code_of c link)
        ∙ ap (λ (l : ends.Line). one_if l.near.awaited) (line-known c z (near_joint c z a) w link other e)

  -- no code was given up
  pub awaits-there : ((code : ℕ) → a.base.near_given_up code ≡ false) → AwaitsNothingInVain p
  awaits-there none = record {
    answers = λ link other f.
        let e : IsLine c z (near_joint c z a) link other = is-line c z (near_joint c z a) link other f in
        omega (
          arith,
          ways c z a q s kept ordered other (is_order (code_of c link)) refl (λ m is. (said.says-alike c z (near_joint c z a) link other e m is).orders),
          back acknowledged link (is_answer (code_of c link)) refl (answered link other e),
          awaited link other e,
        );
    codes = λ code.
        omega (
          arith,
          ways c z a q s kept declared code (is_declaration code) refl (λ m is. (codes-alike c z (near_joint c z a) m is).declarations code),
          back confirmed code (is_confirmation code) refl (λ m is. (codes-alike z c (far_joint c z a) m is).confirmations code),
          (of-shown c z a q s kept CodesAreOutstanding codes_are_outstanding-always).there code,
          ap (λ (o : Option ℕ). one_if (is_awaited p o code)) a.near_leads.adjacent,
          ap one_if (none code),
        );
  }

pub nothing-in-vain : nothing_is_awaited_in_vain
nothing-in-vain = always AwaitsNothingInVain (λ c z a q own s kept near far. awaits-there c z (from_first c z a) q s kept (λ code. refl))
