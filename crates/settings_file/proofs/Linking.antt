-- The faults of links, one after another.
use Rattle.settings_file.proofs.Basics.{◌≡◌, ℕ, ◌+◌, ◌<◌, ◌≤◌, List, [], ◌++◌, length, get_or, drop, map, sym, ◌∙◌, drop_more, drop_all, append_assoc, append-nil, view, Spelling, ServeFault}
use Rattle.toml.specs.Data.{as_table}
use Rattle.toml.specs.declared.value.Value.{Value}
use Rattle.settings_file.specs.AllServeFaults.{entry_faults, with_entry, links_faults}
use Rattle.settings_file.specs.declared.serve.server.Endpoint.{Endpoint}
use Rattle.settings_file.specs.declared.serve.server.OwnAddresses.{OwnAddresses}

pub links-next : (s : Spelling) (own : OwnAddresses) (vs : List Value) (i : ℕ) (v : Value) (before more : List Endpoint) (old new all : List ServeFault)
    → i < length vs → v ≡ get_or vs i v → new ≡ old ++ entry_faults s own before i (as_table (view v)) → more ≡ with_entry s own before i (as_table (view v))
    → old ++ links_faults s own before i (map view (drop i vs)) ≡ all → new ++ links_faults s own more (i + 1) (map view (drop (i + 1) vs)) ≡ all
links-next s own vs i v before more old new all within is n m h =
    let step : old ++ (entry_faults s own before i (as_table (view v)) ++ links_faults s own (with_entry s own before i (as_table (view v))) (i + 1) (map view (drop (i + 1) vs))) ≡ all = rw (drop_more vs i v within, ← is) at h in
    rw (n, m, append_assoc) step

pub links-done : (s : Spelling) (own : OwnAddresses) (vs : List Value) (i : ℕ) (before : List Endpoint) (done all : List ServeFault)
    → length vs ≤ i → done ++ links_faults s own before i (map view (drop i vs)) ≡ all → done ≡ all
links-done s own vs i before done all past h =
    let step : done ++ [] ≡ all = rw (drop_all i vs past) at h in
    sym (append-nil done) ∙ step
