-- Lists of cells in which each cell names the next one.
use Rattle.std.specs.Prelude.{◌≡◌, ℕ, zero, suc, ◌+◌, ◌-◌, ◌<◌, ◌≤◌, List, [], ◌∷◌, map, length, nat_eq}
use Rattle.std.specs.Prelude.{slice_index_or, if◌then◌else◌}
use Rattle.cell_pool.specs.Numbering.{ring_at}

-- one list: its first and its last cell, how many it has, and one of them whose index is known
pub record Chained : Type 0 where
  pub first : ℕ
  pub last : ℕ
  pub count : ℕ
  pub place : ℕ
  pub noted : ℕ

-- this many cells from one on, each named by the one before it
abbrev pub walk : List ℕ → ℕ → ℕ → List ℕ
walk next zero cell = []
walk next (suc n) cell = cell ∷ walk next n (slice_index_or next cell 0)

-- the cells of a list, and those of several
abbrev pub cells_of : List ℕ → Chained → List ℕ
cells_of next chain = walk next chain.count chain.first

abbrev pub rings_of : List ℕ → List Chained → List (List ℕ)
rings_of next chains = map (cells_of next) chains

-- a list without cells, and one of one cell
abbrev pub no_cells : Chained
no_cells = record { first = 0; last = 0; count = 0; place = 0; noted = 0 }

abbrev pub one_cell : ℕ → Chained
one_cell cell = record { first = cell; last = cell; count = 1; place = 0; noted = cell }

-- one of several lists
abbrev pub chain_at : List Chained → ℕ → Chained
chain_at chains i = slice_index_or chains i no_cells

-- one list after another
abbrev pub joined : Chained → Chained → Chained
joined front back =
    if nat_eq front.count 0
    then back
    else record front { last = back.last; count = front.count + back.count }

-- the cell that names the first one of a list that comes after. If there is none before it, it is the last of that
-- list, whose next one is never asked for
abbrev pub end_of : Chained → Chained → ℕ
end_of front back = if nat_eq front.count 0 then back.last else front.last

-- a list without its first cell
abbrev pub shortened : Chained → (second : ℕ) → Chained
shortened chain second = record {
  first = second;
  last = chain.last;
  count = chain.count - 1;
  place = chain.place - 1;
  noted = (if nat_eq chain.place 0 then second else chain.noted);
}

-- a list that begins after one of its cells, and ends with it
abbrev pub turned_round : Chained → (first last : ℕ) → Chained
turned_round chain first last =
    record { first = first; last = last; count = chain.count; place = 0; noted = first }

-- the last cell is known, and so is one whose index is noted
pub record IsMarked (ring : List ℕ) (chain : Chained) : Type 0 where
  pub last : 1 ≤ chain.count → slice_index_or ring (chain.count - 1) 0 ≡ chain.last
  pub within : 1 ≤ chain.count → chain.place < chain.count
  pub noted : 1 ≤ chain.count → slice_index_or ring chain.place 0 ≡ chain.noted

pub record AreMarked (rings : List (List ℕ)) (chains : List Chained) : Type 0 where
  pub each : (i : ℕ) → i < length chains → IsMarked (ring_at rings i) (chain_at chains i)
