-- Reading the links one after the other.
use Rattle.settings_file.proofs.Basics.{◌≡◌, ℕ, Bool, ◌+◌, ◌<◌, ◌≤◌, List, [], ◌∷◌, ◌++◌, length, get_or, drop, map, Result, Ok, Err, sym, view, Spelling, endpoint_in, endpoints_behind, ServeFault}
use Rattle.std.proofs.lemmas.List.{drop_more, drop_all}
use Rattle.toml.specs.declared.value.Value.{Value}
use Rattle.settings_file.specs.declared.serve.server.Endpoint.{Endpoint}
use Rattle.settings_file.specs.declared.serve.server.OwnAddresses.{OwnAddresses}

-- One step: the links before number i are done, and `all` is what reading each gives.
module _ (s : Spelling) (own : OwnAddresses) (is_fourth : Bool) (vs : List Value) (i : ℕ) (done : List Endpoint) (all : Result (List Endpoint) ServeFault)
    (so_far : endpoints_behind s own is_fourth done (map view (drop i vs)) ≡ all) where
  pub link-next : (v : Value) (e : Endpoint) (more : List Endpoint) → i < length vs → v ≡ get_or vs i v → Ok e ≡ endpoint_in s own is_fourth done (view v) → more ≡ done ++ e ∷ []
      → endpoints_behind s own is_fourth more (map view (drop (i + 1) vs)) ≡ all
  link-next v e more within is ok grown =
      let step = rw (drop_more vs i v within, ← is, ← ok) at so_far in
      rw grown step

  pub link-fault : (v : Value) (fault : ServeFault) → i < length vs → v ≡ get_or vs i v → Err fault ≡ endpoint_in s own is_fourth done (view v) → all ≡ Err fault
  link-fault v fault within is err =
      let step = rw (drop_more vs i v within, ← is, ← err) at so_far in
      sym step

  pub link-all : length vs ≤ i → all ≡ Ok done
  link-all past =
      let step = rw (drop_all i vs past) at so_far in
      sym step
