use Rattle.cell_pool.proofs.Sums.{many-first, many-all_behind, many-all_before, many-picked_behind, many-picked_before}
use Rattle.cell_pool.proofs.laws.moves_keep_the_counts.Goals as goal

pub returns : goal.returns
returns c = record {
  first = many-first;
  append = many-all_behind;
  splice_front = many-all_before;
  move_where = many-picked_behind;
  splice_where = many-picked_before;
}
