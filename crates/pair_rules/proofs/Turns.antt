-- Which link a flow takes meanwhile, as the links lose their flows to one that entered service.
use Rattle.pair_rules.proofs.Basics.{ℕ, Option, Some, None, nat_lt, if◌then◌else◌}

-- ---- the link of a flow meanwhile

-- when n links have given their flows back
abbrev pub turned_route : (before after : Option ℕ) → (many : ℕ) → Option ℕ
turned_route None after many = after
turned_route (Some former) after many = if nat_lt former many then after else Some former
