-- A list of a store that was changed.
use Rattle.link.proofs.Basics.{◌≡◌, ℕ, ◌<◌, List, drop, length, arith, common_steps, Message, lane_at, dropped}

pub lane_at-dropped : (lists : List (List Message)) (lane count : ℕ) → lane < length lists →
    lane_at (dropped lists lane count) lane ≡ drop count (lane_at lists lane)
lane_at-dropped lists lane count h = grind (arith, common_steps)
