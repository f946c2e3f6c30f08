-- What came to a node for another point it took in or refused, whatever else came.
use Rattle.std.proofs.Common.{◌≡◌, ◌+◌, ◌&&◌, ℕ, Bool, true, false, not, List, [], ◌∷◌, length, nat_lt, refl, ap, sym, ◌∙◌, arith}
use Rattle.std.specs.Prelude.{count_by, if◌then◌else◌}
use Rattle.signalling_types.specs.Message.{Message, is_management}
use Rattle.signalling_types.specs.declared.limits.TheConstants.Limits.{SIF_OCTETS}
use Rattle.changeover.specs.Changeover.{users_of}
use Rattle.network_moves.specs.Networks.{one_if}
use Rattle.network_moves.proofs.Counts.{count-cons}
use Rattle.node_moves.specs.Laws.{is_user, users_that}
use Rattle.network_rules.specs.Networks.{NetworkNode, first_network}
use Rattle.network_rules.specs.Outside.{after_moves}
use Rattle.network_rules.specs.Paths.{PassesInOrder, onward_at}
use Rattle.network_rules.proofs.Merged.{merged-count}
use Rattle.network_rules.specs.Anew.{after_all, begun_anew}
use Rattle.network_rules.proofs.PassedOn.{all-moves-pass, all-pass}
use Rattle.node_law.specs.Anew.{what_comes_is_taken_or_refused_anew}
use Rattle.node_law.specs.Ends.{what_comes_is_taken_or_refused}

module _ (test : Message → Bool) where
  abbrev counts : Message → Bool
  counts m = is_user m && test m

  -- management isn't counted
  users-alone : (ms : List Message) → users_that test (users_of ms) ≡ users_that test ms
  users-alone [] = refl
  users-alone (m ∷ ms) = by (is_management m) refl (users-alone ms)
    where
      is_short : Bool
      is_short = not (nat_lt SIF_OCTETS (length m.sif))

      shut : (a t : Bool) → ((a && false) && t) ≡ false
      shut true t = refl
      shut false t = refl

      none-plus : (n : ℕ) → one_if false + n ≡ n
      none-plus n = omega (arith)

      by : (b : Bool) → is_management m ≡ b → users_that test (users_of ms) ≡ users_that test ms → users_that test (users_of (m ∷ ms)) ≡ users_that test (m ∷ ms)
      by true e rest =
          ap (λ (b : Bool). count_by counts (if not b then m ∷ users_of ms else users_of ms)) e
          ∙ rest
          ∙ sym (count-cons counts m ms ∙ ap (λ (b : Bool). one_if ((is_short && not b) && test m) + count_by counts ms) e ∙ ap (λ (b : Bool). one_if b + count_by counts ms) (shut is_short (test m)) ∙ none-plus (count_by counts ms))
      by false e rest =
          ap (λ (b : Bool). count_by counts (if not b then m ∷ users_of ms else users_of ms)) e
          ∙ count-cons counts m (users_of ms)
          ∙ ap (λ (n : ℕ). one_if (counts m) + n) rest
          ∙ sym (count-cons counts m ms)

  both : (a r e o p : ℕ) → a ≡ p + e → o ≡ p + r → a + r ≡ e + o
  both a r e o p f g = omega (arith, f, g)

  pub taken-or-refused : (x : NetworkNode) → PassesInOrder x → users_that test x.accepted + users_that test x.refused ≡ users_that test x.entered + users_that test (onward_at x)
  taken-or-refused x p =
      both (users_that test x.accepted) (users_that test x.refused) (users_that test x.entered) (users_that test (onward_at x)) (users_that test p.passed)
      (sym (users-alone x.accepted) ∙ merged-count counts p.passed (users_of x.entered) (users_of x.accepted) p.accepted ∙ ap (λ (n : ℕ). users_that test p.passed + n) (users-alone x.entered))
      (sym (users-alone (onward_at x)) ∙ merged-count counts p.passed x.refused (users_of (onward_at x)) p.came)

pub all-taken : what_comes_is_taken_or_refused
all-taken settings moves point = record {
  once = λ test.
      taken-or-refused test ((after_moves moves (first_network settings)).node point) (all-moves-pass (first_network settings) moves point);
}

pub all-taken-anew : what_comes_is_taken_or_refused_anew
all-taken-anew w changes point = record { once = λ test. taken-or-refused test ((after_all changes (begun_anew w)).node point) (all-pass w changes point) }
