-- Every list of moves keeps all laws, or breaks a node.
use Rattle.network_moves.proofs.Basics.{◌≡◌, ℕ, true, false, List, [], ◌∷◌, ◌∙◌}
use Rattle.network_moves.proofs.Definitions.{Message, Saying, Network, Shape, point_at, Move, Moves, last_of, IsQuiet}
use Rattle.network_moves.specs.Moves as moves
use Rattle.network_moves.proofs.Lines.{both}
use Rattle.network_moves.proofs.Sound.{Sound}
use Rattle.network_moves.proofs.First.{sound-quiet}
use Rattle.network_moves.proofs.Passed.{sound-submits, sound-makes, sound-ends, sound-gives_up, sound-discards, sound-places, sound-sends_status, sound-sends_message, sound-sends_empty, sound-hears_status, sound-takes_status, sound-doubles_status, sound-drops, sound-takes_empty, sound-takes_message}
use Rattle.network_moves.proofs.Failed.{sound-falls, sound-orders, sound-completes_by_order, sound-answers_order, sound-completes_by_answer, sound-ends_wait, sound-completes_by_time}
use Rattle.network_moves.proofs.Returned.{sound-opens_first, sound-opens_second, sound-enters}

module _ (shape : Shape) (read : Message → Saying) where
  -- a node is broken, or all laws hold
  pub data IsKept (p : Network) : Type 0 where
    broken : (point : ℕ) → p.broken point ≡ true → IsKept p
    sound : Sound shape read p → IsKept p

  -- ---- one move

  -- none that breaks a node
  step : (p q : Network) → ((point : ℕ) → q.broken point ≡ p.broken point) → (Sound shape read p → Sound shape read q) → IsKept p → IsKept q
  step p q same keeps (broken point e) = broken point (same point ∙ e)
  step p q same keeps (sound h) = sound (keeps h)

  kept : (p q : Network) → Move shape read p q → IsKept p → IsKept q
  kept p q (moves.submits m) = step p q m.after.broken (sound-submits shape read p q m)
  kept p q (moves.makes m) = step p q m.after.broken (sound-makes shape read p q m)
  kept p q (moves.ends m) = step p q m.after.broken (sound-ends shape read p q m)
  kept p q (moves.gives_up m) = step p q m.after.broken (sound-gives_up shape read p q m)
  kept p q (moves.discards m) = step p q m.after.broken (sound-discards shape read p q m)
  kept p q (moves.places m) = step p q m.after.broken (sound-places shape read p q m)
  kept p q (moves.sends_status m) = step p q m.after.broken (sound-sends_status shape read p q m)
  kept p q (moves.sends_message m) = step p q m.after.broken (sound-sends_message shape read p q m)
  kept p q (moves.sends_empty m) = step p q m.after.broken (sound-sends_empty shape read p q m)
  kept p q (moves.hears_status m) = step p q m.after.broken (sound-hears_status shape read p q m)
  kept p q (moves.takes_status m) = step p q m.after.broken (sound-takes_status shape read p q m)
  kept p q (moves.doubles_status m) = step p q m.after.broken (sound-doubles_status shape read p q m)
  kept p q (moves.drops m) = step p q m.after.broken (sound-drops shape read p q m)
  kept p q (moves.takes_empty m) = step p q m.after.broken (sound-takes_empty shape read p q m)
  kept p q (moves.takes_message m) = step p q m.after.broken (sound-takes_message shape read p q m)
  kept p q (moves.falls m) = step p q m.after.broken (sound-falls shape read p q m)
  kept p q (moves.orders m) = step p q m.after.broken (sound-orders shape read p q m)
  kept p q (moves.completes_by_order m) = step p q m.after.broken (sound-completes_by_order shape read p q m)
  kept p q (moves.answers_order m) = step p q m.after.broken (sound-answers_order shape read p q m)
  kept p q (moves.completes_by_answer m) = step p q m.after.broken (sound-completes_by_answer shape read p q m)
  kept p q (moves.ends_wait m) = step p q m.after.broken (sound-ends_wait shape read p q m)
  kept p q (moves.completes_by_time m) = step p q m.after.broken (sound-completes_by_time shape read p q m)
  kept p q (moves.opens_first m) = step p q m.after.broken (sound-opens_first shape read p q m)
  kept p q (moves.opens_second m) = step p q m.after.broken (sound-opens_second shape read p q m)
  kept p q (moves.enters m) = step p q m.after.broken (sound-enters shape read p q m)
  kept p q (moves.releases_bar m) = λ h. broken (point_at shape m.place) m.after.broken
  kept p q (moves.gives_up_following m) = λ h. broken (point_at shape m.place) m.after.broken
  kept p q (moves.hears_unreasonable_order m) = λ h. broken (point_at shape m.place) m.after.broken
  kept p q (moves.hears_unreasonable_answer m) = λ h. broken (point_at shape m.place) m.after.broken
  kept p q (moves.strays m) = λ h. broken (point_at shape m.place) m.after.broken
  kept p q (moves.starts_again m) = λ h. broken m.point m.broken

  -- ---- a list of moves

  all-kept : (p : Network) (networks : List Network) → Moves shape read p networks → IsKept p → IsKept (last_of p networks)
  all-kept p [] ms h = h
  all-kept p (q ∷ rest) ms h = all-kept q rest ms.1 (kept p q ms.0 h)

  unbroken : (p : Network) → ((point : ℕ) → p.broken point ≡ false) → IsKept p → Sound shape read p
  unbroken p none (broken point e) = both e (none point)
  unbroken p none (sound h) = h

  -- from where all laws hold they hold after every list of moves, while no node is broken
  pub sound-after : (p : Network) (networks : List Network) → Moves shape read p networks → Sound shape read p →
      ((point : ℕ) → (last_of p networks).broken point ≡ false) → Sound shape read (last_of p networks)
  sound-after p networks ms h none = unbroken (last_of p networks) none (all-kept p networks ms (sound h))

  pub sound-always : (start : Network) (networks : List Network) → IsQuiet read start → Moves shape read start networks →
      ((point : ℕ) → (last_of start networks).broken point ≡ false) → Sound shape read (last_of start networks)
  sound-always start networks quiet ms none =
      unbroken (last_of start networks) none (all-kept start networks ms (sound (sound-quiet shape read start quiet)))
