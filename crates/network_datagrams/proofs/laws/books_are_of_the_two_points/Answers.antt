use Rattle.network_datagrams.proofs.Promised.{books}
use Rattle.network_datagrams.proofs.laws.books_are_of_the_two_points.Goals as goal

pub returns : goal.returns
returns c = books
