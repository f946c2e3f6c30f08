-- The counters of a node, as a client is shown them.
use Rattle.std.specs.Prelude.{ℕ, zero, suc, List, [], ◌++◌, codes, length, slice_get, Option, Some, None}
use Rattle.exchange.specs.Calls.{Kept}
use Rattle.console.specs.Names.{name_in}
use Rattle.served_link.specs.Counting.{NodeCounters, value_of}
use Rattle.served_link.specs.Lines.{counter_line, datagrams_text}
use Rattle.served_link.specs.declared.counter.Counter.{Counter}
use Rattle.served_link.specs.declared.counter.TheConstants.Counter.{ALL}
use Rattle.served_link.specs.declared.row.LinkCounters.{LinkCounters}

-- the first of some texts, in a row
abbrev pub first_texts : (ℕ → List ℕ) → ℕ → List ℕ
first_texts text zero = []
first_texts text (suc k) = first_texts text k ++ text k

-- the line of a counter of the link of this name
abbrev pub shown_counter : (name : List ℕ) → LinkCounters → Counter → List ℕ
shown_counter name row counter = counter_line counter name (value_of counter row) ++ codes "\n"

-- the same by the counter's index among all
abbrev pub counter_at : (name : List ℕ) → LinkCounters → Option Counter → List ℕ
counter_at name row (Some counter) = shown_counter name row counter
counter_at name row None = []

-- some counters of a link
abbrev pub each_counter : (name : List ℕ) → LinkCounters → List Counter → List ℕ
each_counter name row counters = first_texts (λ k. counter_at name row (slice_get counters k)) (length counters)

-- all of them
unfoldable pub link_text : (name : List ℕ) → LinkCounters → List ℕ
link_text name row = each_counter name row ALL

-- nothing is shown for a link that has no counters
abbrev pub row_text : (name : List ℕ) → Option LinkCounters → List ℕ
row_text name (Some row) = link_text name row
row_text name None = []

-- the counters of all links, in the order of the settings
abbrev pub rows_text : Kept → List LinkCounters → List ℕ
rows_text s rows =
    first_texts (λ k. row_text (name_in s.settings k) (slice_get rows k)) (length s.settings.links)

-- and after them those of datagrams
abbrev pub counters_text : Kept → NodeCounters → List ℕ
counters_text s counters = rows_text s counters.links ++ datagrams_text counters.datagrams
