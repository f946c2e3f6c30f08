-- Reading the addresses of a link one after the other, each into its place.
use Rattle.settings_file.proofs.Basics.{◌≡◌, ℕ, ◌+◌, ◌<◌, ◌≤◌, List, length, get_or, drop, map, Option, Some, Result, Ok, Err, sym, view, Spelling, ServeFault}
use Rattle.std.specs.Prelude.{slice_set}
use Rattle.std.proofs.lemmas.List.{drop_more, drop_all}
use Rattle.std.specs.declared.net.ip_addr.IpAddr.{IpAddr}
use Rattle.std.specs.declared.net.socket_addr.SocketAddr.{SocketAddr}
use Rattle.toml.specs.declared.value.Value.{Value}
use Rattle.settings_file.specs.declared.serve.key.ServeKey.{ServeKey}
use Rattle.settings_file.specs.Paths.{next_address, addresses_from, next_other, others_from}

-- One step: the values before number i are in their places, and `all` is what reading each gives.
module _ (s : Spelling) (key : ServeKey) (vs : List Value) (i : ℕ) (places : List (Option IpAddr)) (all : Result (List (Option IpAddr)) ServeFault)
    (so_far : addresses_from s key places i (map view (drop i vs)) ≡ all) where
  pub address-next : (v : Value) (a : IpAddr) (more : List (Option IpAddr)) → i < length vs → v ≡ get_or vs i v → Ok a ≡ next_address s key places (view v) → more ≡ slice_set places i (Some a)
      → addresses_from s key more (i + 1) (map view (drop (i + 1) vs)) ≡ all
  address-next v a more within is ok set =
      let step = rw (drop_more vs i v within, ← is, ← ok) at so_far in
      rw set step

  pub address-fault : (v : Value) (fault : ServeFault) → i < length vs → v ≡ get_or vs i v → Err fault ≡ next_address s key places (view v) → all ≡ Err fault
  address-fault v fault within is err =
      let step = rw (drop_more vs i v within, ← is, ← err) at so_far in
      sym step

  pub address-all : length vs ≤ i → all ≡ Ok places
  address-all past =
      let step = rw (drop_all i vs past) at so_far in
      sym step

-- The same of the further addresses of a peer.
module _ (s : Spelling) (udp : Option SocketAddr) (link : ℕ) (first : SocketAddr) (vs : List Value) (n : ℕ) (places : List (Option SocketAddr))
    (all : Result (List (Option SocketAddr)) ServeFault) (so_far : others_from s udp link first places n (map view (drop n vs)) ≡ all) where
  pub other-next : (v : Value) (a : SocketAddr) (more : List (Option SocketAddr)) → n < length vs → v ≡ get_or vs n v → Ok a ≡ next_other s udp link first places (view v) → more ≡ slice_set places n (Some a)
      → others_from s udp link first more (n + 1) (map view (drop (n + 1) vs)) ≡ all
  other-next v a more within is ok set =
      let step = rw (drop_more vs n v within, ← is, ← ok) at so_far in
      rw set step

  pub other-fault : (v : Value) (fault : ServeFault) → n < length vs → v ≡ get_or vs n v → Err fault ≡ next_other s udp link first places (view v) → all ≡ Err fault
  other-fault v fault within is err =
      let step = rw (drop_more vs n v within, ← is, ← err) at so_far in
      sym step

  pub other-all : length vs ≤ n → all ≡ Ok places
  other-all past =
      let step = rw (drop_all n vs past) at so_far in
      sym step
