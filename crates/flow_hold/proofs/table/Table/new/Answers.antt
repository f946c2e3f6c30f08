-- Nothing is marked, and each count is 0.
use Rattle.flow_hold.proofs.Basics.{◌≡◌, ℕ, ◌+◌, ◌*◌, ◌≤◌, List, length, get_or, ap, sym, subst, ◌∙◌, All, length-replicate, length-map-range_with_len, Marks, first_row, CHANGEBACK_CODES, SELECTIONS}
use Rattle.flow_hold.proofs.Counting.{all_same}
use Rattle.flow_hold.proofs.table.Table.new.Goals as goal

pub invariant_of-result : goal.invariant_of-result
invariant_of-result c =
    let rows : List Marks = c.in_ok-first_rows.field-0.items in
    let many : length c.in_ok-no_counts.field-0.items ≡ SELECTIONS * c.args.destinations = ap (length {A = ℕ}) c.in_ok-no_counts.ensures ∙ length-replicate (SELECTIONS * c.args.destinations) 0 in
    record {
      counts = λ flow. ap (λ (counts : List ℕ). get_or counts flow 0) c.in_ok-no_counts.ensures ∙ all_same (SELECTIONS * c.args.destinations) flow 0 ∙ sym (c.in_ok-first_rows.ensures.none flow);
      fits = subst (λ (n : ℕ). All (λ (row : Marks). row.first + length row.marks ≤ n) rows) (sym many) c.in_ok-first_rows.ensures.fits;
      rows = ap (length {A = Marks}) c.in_ok-first_rows.ensures.rows ∙ length-map-range_with_len (first_row (2 * c.args.links + CHANGEBACK_CODES * c.args.sets) c.args.destinations) 0 (2 * c.args.links + CHANGEBACK_CODES * c.args.sets + c.args.destinations);
      links = c.requires.links;
      sets = c.requires.sets;
      destinations = c.requires.destinations;
    }
