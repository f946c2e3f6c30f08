-- What is told, one thing after another.
use Rattle.std.proofs.Common.{◌≡◌, ℕ, List, [], ◌∷◌, ◌++◌, refl, ap}
use Rattle.sctp_rules.specs.State.{Told}
use Rattle.exchange_rules.specs.State.{QueueKind, State}
use Rattle.sctp_gate.specs.declared.standing.Standing.{Standing}
use Rattle.sctp_gate.specs.Standing.{stands_after, stands_by}
use Rattle.sctp_gate.specs.Watching.{Sight}
use Rattle.sctp_gate.specs.Handing.{after_one, after_told, sight_of, sights_of}

pub standing-more : (now : ℕ) (told : List Told) (one : Told) (p : Standing) → stands_after now (told ++ one ∷ []) p ≡ stands_by now one (stands_after now told p)
standing-more now [] one p = refl
standing-more now (first ∷ told) one p = standing-more now told one (stands_by now first p)

module _ {Q : Type 0} (q : QueueKind Q) (link : ℕ) where
  pub after-more : (told : List Told) (one : Told) (s : State Q) → after_told q link (told ++ one ∷ []) s ≡ after_one q link one (after_told q link told s)
  after-more [] one s = refl
  after-more (first ∷ told) one s = after-more told one (after_one q link first s)

  pub sights-more : (told : List Told) (one : Told) (s : State Q) → sights_of q link (told ++ one ∷ []) s ≡ sights_of q link told s ++ sight_of q link one (after_told q link told s) ∷ []
  sights-more [] one s = refl
  sights-more (first ∷ told) one s = ap (λ (xs : List Sight). sight_of q link first s ∷ xs) (sights-more told one (after_one q link first s))
