-- Links over SCTP have an address that their datagrams go out from.
use Rattle.settings_file.proofs.Basics.{◌≡◌, List, [], ◌∷◌, ◌++◌, Option, refl, SocketAddr}
use Rattle.std.specs.Prelude.{true}
use Rattle.std.proofs.lemmas.List.Folds.{list_all-append}
use Rattle.settings_file.specs.Endpoints.{has_source, have_source}
use Rattle.settings_file.specs.declared.serve.server.Endpoint.{Endpoint}

pub one-link : (udp : Option SocketAddr) (links : List Endpoint) (e : Endpoint) → have_source udp links ≡ true
    → has_source udp e ≡ true → have_source udp (links ++ e ∷ []) ≡ true
one-link udp links e have has = rw (list_all-append (has_source udp) links (e ∷ []), have, has) refl
