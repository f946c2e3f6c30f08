use Rattle.neighbour_rules.proofs.Staying.{books-stay}
use Rattle.neighbour_rules.proofs.laws.books_are_of_the_two_points.Goals as goal

pub returns : goal.returns
returns c = books-stay
