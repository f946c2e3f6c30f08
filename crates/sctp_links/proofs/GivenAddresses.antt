-- The addresses that are given, taken one after the other.
use Rattle.std.specs.Prelude.{◌≡◌, ◌<◌, ◌+◌, ◌++◌, ◌∷◌, [], ℕ, List, Option, Some, None, take, drop, length, get_or}
use Rattle.std.proofs.Math.ListN.{set}
use Rattle.std.proofs.lemmas.List.{append_assoc, drop_more, take_more_set}
use Rattle.std.specs.declared.net.ip_addr.IpAddr.{IpAddr}
use Rattle.sctp_links.specs.EndpointSettings.{given}

pub one-more : (places : List (Option IpAddr)) (addresses : List IpAddr) (i : ℕ) (address : IpAddr) →
    i < length addresses → i < length places → get_or places i None ≡ Some address →
    take i addresses ++ given (drop i places) ≡ given places →
    take (i + 1) (set addresses i address) ++ given (drop (i + 1) places) ≡ given places
one-more places addresses i address fits within is so_far =
    let step = rw (drop_more places i None within, is) at so_far in
    rw (take_more_set addresses i address fits, append_assoc (take i addresses) (address ∷ []) (given (drop (i + 1) places))) step
