-- Pairs of link sets that were looked at: the one set that messages to a destination took before, and the one set that
-- they take now.
use Rattle.std.specs.Prelude.{◌≡◌, ℕ, ◌+◌, ◌*◌, ◌&&◌, Bool, true, false, List, Option, Some, None, length, replicate, nat_lt, if◌then◌else◌, slice_index_or, slice_set}
use Rattle.signalling_types.specs.declared.limits.TheConstants.Limits.{SETS, SELECTIONS}
use Rattle.routes.specs.Routes.{with_link, lone_set}
use Rattle.node_links.specs.NodeLinks.{Network, facts_of}
use Rattle.changeback.specs.Return.{changes_of, gives_up}
use Rattle.changeback.specs.declared.set_pairs.SetPairs.TheInside.{Inside}

abbrev pub number_of_pair : (first second : ℕ) → ℕ
number_of_pair first second = SETS * first + second

abbrev pub no_pairs : List Bool
no_pairs = replicate (SETS * SETS) false

-- whether a pair was looked at
abbrev pub has_pair : List Bool → (first second : ℕ) → Bool
has_pair seen first second = nat_lt second SETS && slice_index_or seen (number_of_pair first second) false

-- one pair more
abbrev pub with_pair : List Bool → (first second : ℕ) → List Bool
with_pair seen first second =
    if nat_lt second SETS then slice_set seen (number_of_pair first second) true else seen

-- whether the pair of two sets was looked at, if they are a pair
abbrev pub is_seen : List Bool → (before after : Option ℕ) → Bool
is_seen seen (Some first) (Some second) = has_pair seen first second
is_seen seen (Some first) None = false
is_seen seen None after = false

-- their pair more, if they are one
abbrev pub with_seen : List Bool → (before after : Option ℕ) → List Bool
with_seen seen (Some first) (Some second) = with_pair seen first second
with_seen seen (Some first) None = seen
with_seen seen None after = seen

-- each link that loses flows to a destination of such a pair is marked
pub record IsSeen (n : Network) (link : ℕ) (seen losing : List Bool) : Type 0 where
  pub marked : (first second destination other : ℕ) → has_pair seen first second ≡ true →
      lone_set (with_link link false (facts_of n)) destination ≡ Some first →
      lone_set (facts_of n) destination ≡ Some second →
      gives_up (changes_of link (with_link link false (facts_of n)) (facts_of n) destination SELECTIONS) other ≡ true →
      slice_index_or losing other false ≡ true

-- how the pairs are kept
abbrev pub pairs_in : Inside → List Bool
pairs_in s = s.seen

-- there is a mark for each pair
pub record HasPairs (s : Inside) : Type 0 where
  pub pairs : length s.seen ≡ SETS * SETS
