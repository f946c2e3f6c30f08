-- There are as many messages in Held as are counted there.
use Rattle.std.proofs.Common.{rules, ◌≡◌, ℕ, IsTrue, List, [], ◌∷◌, length, nat_eq, refl, ap, ◌∙◌, arith}
use Rattle.std.proofs.lemmas.Bool.Decides.{nat_tests}
use Rattle.signalling_types.specs.Message.{Message}
use Rattle.exchange.specs.KeptQueues.{kept}
use Rattle.network_world.proofs.site.Site.holds_nothing.Goals as goal

none-there : (ms : List Message) (n : ℕ) → n ≡ length ms → n ≡ 0 → ms ≡ []
none-there [] n e z = refl
none-there (m ∷ ms) n e z = absurd cc

none-counted : (ms : List Message) (n : ℕ) → n ≡ length ms → ms ≡ [] → n ≡ 0
none-counted ms n e none = e ∙ ap (λ (xs : List Message). length xs) none

is-zero : (n : ℕ) → IsTrue (nat_eq n 0) → n ≡ 0
is-zero n h = grind (arith, nat_tests, h)

zero-is : (n : ℕ) → n ≡ 0 → IsTrue (nat_eq n 0)
zero-is n e = grind (arith, nat_tests, e)

pub returns : goal.returns
returns c =
    let held = kept.held c.args.self.now.exchange.node.queues in
    let counted : c.count_held.result ≡ length held = search rules in (
      (λ h. none-there held c.count_held.result counted (is-zero c.count_held.result h)),
      (λ none. zero-is c.count_held.result (none-counted held c.count_held.result counted none)),
    )
