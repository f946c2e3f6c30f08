-- What a read or a write of a socket may come to.
use Rattle.std.specs.Prelude.{ℕ, ◌<◌, ◌≤◌}
use Rattle.served_node.specs.declared.datagram_socket.Received.{Received}
use Rattle.served_node.specs.declared.datagram_socket.Received.TheVariants.{Datagram, Error, NoDatagram}
use Rattle.served_node.specs.declared.socket.Progress.{Progress}
use Rattle.served_node.specs.declared.socket.Progress.TheVariants.{Octets, Later, Again, End, Failed}

-- some octets moved, no more than this, or none did
abbrev pub IsWithin : Progress → (most : ℕ) → Type 0
IsWithin (Octets count) most = (0 < count) × (count ≤ most)
IsWithin Later most = Unit {0}
IsWithin Again most = Unit {0}
IsWithin End most = Unit {0}
IsWithin Failed most = Unit {0}

-- a datagram came, of no more octets than this, or none did
abbrev pub IsDatagramWithin : Received → (most : ℕ) → Type 0
IsDatagramWithin (Datagram count source) most = count ≤ most
IsDatagramWithin NoDatagram most = Unit {0}
IsDatagramWithin Error most = Unit {0}
