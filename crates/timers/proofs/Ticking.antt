-- What a write and a tick leave of the tree, and of the ticks that are left.
use Rattle.timers.proofs.Basics.{◌≡◌, ℕ, ◌+◌, ◌<◌, List, length, map, take, drop, slice_set, sym, ap, subst, ◌∙◌, arith, Option, length-map, one_less, never, left_at, rebased, IsBounded, left_in, IsTree}
use Rattle.timers.proofs.InMoments.{left-set, tree-set, tree-mended, length-left, left-later, tree-later, left-again, tree-again}

-- so much is left, and the tree is one
pub record Leaves (clock places levels leaves : ℕ) (nodes : List ℕ) (left : List (Option ℕ)) : Type 0 where
  pub tree : IsTree clock places levels leaves nodes
  pub view : left_in clock places leaves nodes ≡ left

-- a slice was lent, written, and given back
pub put_leaves : (clock places levels leaves place moment : ℕ) (left : Option ℕ) (old lent new kept : List ℕ) → IsTree clock places levels leaves old → lent ≡ old
    → place < length (left_in clock places leaves old) → left_at clock moment ≡ left → length new ≡ length lent → IsBounded leaves new → drop leaves new ≡ slice_set (drop leaves lent) place moment → kept ≡ new
    → Leaves clock places levels leaves kept (slice_set (left_in clock places leaves old) place left)
put_leaves clock places levels leaves place moment left old lent new kept t given h at size bounded leaf back =
    subst (λ xs. Leaves clock places levels leaves xs (slice_set (left_in clock places leaves old) place left)) (sym back) (record {
      tree = tree-set clock places levels leaves place moment old new t (omega (arith, h, length-left clock places levels leaves old t)) (size ∙ ap length given) bounded written;
      view = left-set clock places leaves place moment old new written ∙ ap (slice_set (left_in clock places leaves old) place) at;
    })
  where
    written : drop leaves new ≡ slice_set (drop leaves old) place moment
    written = leaf ∙ ap (λ xs. slice_set (drop leaves xs) place moment) given

-- or nodes above the leaves were
pub mend_leaves : (clock places levels leaves : ℕ) (old lent new kept : List ℕ) → IsTree clock places levels leaves old → lent ≡ old → length new ≡ length lent → IsBounded leaves new → drop leaves new ≡ drop leaves lent → kept ≡ new
    → Leaves clock places levels leaves kept (left_in clock places leaves old)
mend_leaves clock places levels leaves old lent new kept t given size bounded same back =
    subst (λ xs. Leaves clock places levels leaves xs (left_in clock places leaves old)) (sym back) (record {
      tree = tree-mended clock places levels leaves old new t (size ∙ ap length given) bounded leaf;
      view = ap (λ xs. map (left_at clock) (take places xs)) leaf;
    })
  where
    leaf : drop leaves new ≡ drop leaves old
    leaf = same ∙ ap (drop leaves) given

pub tick_leaves : (clock places levels leaves : ℕ) (nodes : List ℕ) → IsTree clock places levels leaves nodes → clock + 65536 < never
    → Leaves (clock + 1) places levels leaves nodes (map one_less (left_in clock places leaves nodes))
tick_leaves clock places levels leaves nodes t h = record { tree = tree-later clock places levels leaves nodes t h; view = left-later clock places leaves nodes }

pub rebase_leaves : (clock places levels leaves : ℕ) (old lent new kept : List ℕ) → IsTree clock places levels leaves old → lent ≡ old → new ≡ map (rebased clock) lent → kept ≡ new
    → Leaves 1 places levels leaves kept (map one_less (left_in clock places leaves old))
rebase_leaves clock places levels leaves old lent new kept t given all back =
    subst (λ xs. Leaves 1 places levels leaves xs (map one_less (left_in clock places leaves old))) (sym (back ∙ all ∙ ap (map (rebased clock)) given)) (record {
      tree = tree-again clock places levels leaves old t;
      view = left-again clock places leaves old;
    })

pub rebase_size : (clock : ℕ) (lent new : List ℕ) → new ≡ map (rebased clock) lent → length new ≡ length lent
rebase_size clock lent new all = ap length all ∙ length-map lent (rebased clock)
