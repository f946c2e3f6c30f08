-- The tokens of sockets: as many for each kind.
use Rattle.std.specs.Prelude.{ℕ, ◌+◌, ◌*◌}
use Rattle.served_node.specs.declared.naming.TheConstants.{KIND}
use Rattle.served_node.specs.declared.naming.SocketName.{SocketName}
use Rattle.served_node.specs.declared.naming.SocketName.TheVariants.{Listener, Link, Client, Console, Datagrams, Page, PageClient}

abbrev pub number_of : SocketName → ℕ
number_of (Listener link) = link
number_of (Link link) = KIND + link
number_of (Client place) = 2 * KIND + place
number_of Console = 3 * KIND
number_of Datagrams = 3 * KIND + 1
number_of Page = 3 * KIND + 2
number_of (PageClient place) = 4 * KIND + place
