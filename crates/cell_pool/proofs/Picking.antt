-- The messages in the cells of a list are counted one by one.
use Rattle.std.proofs.Common.{◌≡◌, ◌<◌, ◌≤◌, ◌+◌, ℕ, Bool, true, false, List, ◌∷◌, Option, Some, length, drop, count_by, get_or, cond, ap, sym, subst, ◌∙◌, arith}
use Rattle.std.specs.Prelude.{IfSome, if◌then◌else◌}
use Rattle.std.proofs.lemmas.List.{drop_more, drop-map}
use Rattle.std.proofs.lemmas.List.Sums.{sum_by-cons}
use Rattle.signalling_types.specs.Message.{Message}
use Rattle.cell_pool.specs.Lanes.{lane_at}
use Rattle.cell_pool.specs.Cells.{message_at, messages_at, lists_at}
use Rattle.cell_pool.specs.Numbering.{ring_at}
use Rattle.cell_pool.proofs.Reading.{list_at}

-- a cell that is there was used
pub within_used : (o : Option ℕ) (cell used : ℕ) → o ≡ Some cell → IfSome o (λ n. n < used) → cell < used
within_used o cell used e h = subst (λ (o : Option ℕ). IfSome o (λ n. n < used)) e h

-- one more message is looked at
pub counted_next : (p : Message → Bool) (cells : List Message) (ring : List ℕ) (place cell count next one : ℕ) → place < length ring
    → cell ≡ get_or ring place 0 → one ≡ (if p (message_at cells cell) then 1 else 0) → next ≡ count + one
    → next + count_by p (messages_at cells (drop (place + 1) ring)) ≡ count + count_by p (messages_at cells (drop place ring))
counted_next p cells ring place cell count next one l e o n =
    let rest : List Message = messages_at cells (drop (place + 1) ring) in
    let split : count_by p (messages_at cells (drop place ring)) ≡ one + count_by p rest =
    ap (λ (ns : List ℕ). count_by p (messages_at cells ns)) (drop_more ring place 0 l)
    ∙ ap (λ (c : ℕ). count_by p (message_at cells c ∷ rest)) (sym e)
    ∙ sum_by-cons (λ m. cond (p m) 1 0) (message_at cells cell) rest
    ∙ ap (λ (n : ℕ). n + count_by p rest) (sym o) in
    omega (arith, n, split)

-- what the cells of a list have is the list
pub counted_list : (p : Message → Bool) (cells : List Message) (rings : List (List ℕ)) (i first : ℕ) → i < length rings
    → count_by p (messages_at cells (drop first (ring_at rings i))) ≡ count_by p (drop first (lane_at (lists_at cells rings) i))
counted_list p cells rings i first h =
    ap (λ (ms : List Message). count_by p ms)
    (sym (drop-map (message_at cells) first (ring_at rings i)) ∙ ap (λ (ms : List Message). drop first ms) (sym (list_at cells rings i h)))

pub few_by : (p : Message → Bool) (m : Message) (count place one : ℕ) → one ≡ (if p m then 1 else 0) → count ≤ place → count + one ≤ place + 1
few_by p m count place one o l = by (p m) o
  where
    by : (b : Bool) → one ≡ (if b then 1 else 0) → count + one ≤ place + 1
    by true e = omega (arith, e, l)
    by false e = omega (arith, e, l)
