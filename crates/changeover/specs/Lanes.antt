-- A completion as moves between lists of messages: those of the failed link, and those that are held.
use Rattle.std.specs.Prelude.{◌≡◌, ◌≢◌, ℕ, ◌<◌, List, ◌++◌, length, drop, not}
use Rattle.signalling_types.specs.Message.{Message, is_management}
use Rattle.cell_pool.specs.Lanes.{lane_at, dropped}
use Rattle.cell_pool.specs.Moves.{picked_before}
use Rattle.changeover.specs.Changeover.{users_of, managements_of}

-- the lists once the first messages of one were dropped and its user messages went before all of another
abbrev pub spliced : List (List Message) → (lane count held : ℕ) → List (List Message)
spliced lists lane count held = picked_before (λ m. not (is_management m)) (dropped lists lane count) lane held

-- the user messages come before all that was held, in order, and the management messages are left, in order
abbrev pub splicing_completes : Type 0
splicing_completes =
    (lists : List (List Message)) (lane count held : ℕ) →
    lane < length lists → held < length lists → lane ≢ held →
    (lane_at (spliced lists lane count held) held ≡ users_of (drop count (lane_at lists lane)) ++ lane_at lists held)
    × (lane_at (spliced lists lane count held) lane ≡ managements_of (drop count (lane_at lists lane)))
