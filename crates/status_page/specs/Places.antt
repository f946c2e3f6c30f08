-- What the sets, links and destinations of a node are called, by their numbers, and what leads where.
use Rattle.std.specs.Prelude.{ℕ, Bool, false, List, [], nat_eq, slice_get, unwrap_or}
use Rattle.std.specs.Option.{option_map}
use Rattle.settings.specs.Configuration.{Configuration}
use Rattle.settings.specs.Points.{point_text}
use Rattle.settings.specs.declared.point.PointFormat.{PointFormat}
use Rattle.console.specs.Names.{set_name_in}

-- the point that a set leads to; nothing if no set has this number
abbrev pub adjacent_text : PointFormat → Configuration → (set : ℕ) → List ℕ
adjacent_text points c set = unwrap_or (option_map (λ row. point_text points row.adjacent) (slice_get c.sets set)) []

-- the name of a link's set; nothing if there is no such link
abbrev pub set_name_of : Configuration → (link : ℕ) → List ℕ
set_name_of c link = unwrap_or (option_map (λ row. set_name_in c row.set) (slice_get c.links link)) []

-- the point that a link leads to; nothing if there is no such link
abbrev pub adjacent_text_of : PointFormat → Configuration → (link : ℕ) → List ℕ
adjacent_text_of points c link =
    unwrap_or (option_map (λ row. adjacent_text points c row.set) (slice_get c.links link)) []

-- whether a link is of a set
abbrev pub is_of_set : Configuration → (link set : ℕ) → Bool
is_of_set c link set = unwrap_or (option_map (λ row. nat_eq row.set set) (slice_get c.links link)) false

-- the point code of a destination; nothing if no destination has this number
abbrev pub destination_text : PointFormat → Configuration → (destination : ℕ) → List ℕ
destination_text points c destination =
    unwrap_or (option_map (λ row. point_text points row.point) (slice_get c.destinations destination)) []

-- the sets that lead to a destination, the preferred one first; none if no destination has this number
abbrev pub sets_to : Configuration → (destination : ℕ) → List ℕ
sets_to c destination = unwrap_or (option_map (λ row. row.sets) (slice_get c.destinations destination)) []
