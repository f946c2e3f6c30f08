-- The names by which a page is asked for.
use Rattle.std.specs.Prelude.{ℕ, List, ◌++◌, Bool, ◌||◌, bytes_eq, codes, decimal}
use Rattle.std.specs.declared.net.socket_addr.SocketAddr.{SocketAddr}
use Rattle.std.specs.Net.Socket.{socket_port}
use Rattle.std.specs.Net.Text.{socket_text}

-- its address, `localhost` at its port, and whether any other name will do
pub record Names : Type 0 where
  pub address : List ℕ
  pub local : List ℕ
  pub is_open : Bool

-- those of a page at an address
abbrev pub names_of : SocketAddr → (is_open : Bool) → Names
names_of address is_open = record {
  address = socket_text address;
  local = codes "localhost:" ++ decimal (socket_port address);
  is_open = is_open;
}

-- whether the page may be asked for by the name that a Host field gives
abbrev pub is_own : Names → (host : List ℕ) → Bool
is_own names host = names.is_open || (bytes_eq host names.address || bytes_eq host names.local)
