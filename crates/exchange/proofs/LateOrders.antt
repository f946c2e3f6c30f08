-- Orders to change over that go out late: link by link, and none where no link is without one.
use Rattle.exchange.proofs.Basics.{◌≡◌, ℕ, zero, suc, ◌+◌, Bool, true, false, ◌&&◌, ◌||◌, List, [], ◌∷◌, length, get_or, get_or_past, list_any, if◌then◌else◌, refl, ap, sym, ◌∙◌, arith, add-one, Standing, no_changeover, Configuration, QueueKind, Node}
use Rattle.changeover.specs.Changeover.{is_unasked}
use Rattle.exchange_rules.specs.ChangingOver.{has_way, order_late, order_if_late, order_all}
unfoldable use Rattle.exchange_rules.specs.ChangingOver.{order_each}

-- ---- one more link

module _ {Q : Type 0} (q : QueueKind Q) (c : Configuration) where
  pub none_ordered : (node : Node Q) → node ≡ order_each q c 0 node
  unfolding order_each
  none_ordered node = refl

  pub more_ordered : (link : ℕ) (node : Node Q) → order_if_late q c link (order_each q c link node) ≡ order_each q c (link + 1) node
  unfolding order_each
  more_ordered link node = ap (λ (n : ℕ). order_each q c n node) (sym (add-one link))

-- ---- no order is late

neither : (a b : Bool) → (a || b) ≡ false → (a ≡ false) × (b ≡ false)
neither true b e = absurd cc
neither false b e = (refl, e)

each-asked : (all : List Standing) (link : ℕ) → list_any is_unasked all ≡ false → is_unasked (get_or all link no_changeover) ≡ false
each-asked [] link e = ap (λ (s : Standing). is_unasked s) (get_or_past [] link no_changeover (omega arith))
each-asked (s ∷ all) zero e = (neither (is_unasked s) (list_any is_unasked all) e).0
each-asked (s ∷ all) (suc link) e = each-asked all link (neither (is_unasked s) (list_any is_unasked all) e).1

module _ {Q : Type 0} (q : QueueKind Q) (c : Configuration) where
  none-each : (many : ℕ) (node : Node Q) → list_any is_unasked node.parts.changeovers ≡ false → order_each q c many node ≡ node
  unfolding order_each
  none-each zero node e = refl
  none-each (suc link) node e =
      ap (λ (n : Node Q). order_if_late q c link n) (none-each link node e)
      ∙ ap (λ (b : Bool). if b && has_way c link node.parts then order_late q c link node else node) (each-asked node.parts.changeovers link e)

  -- so nothing is done where all links are asked about, or orders don't go by any route
  pub none-late : (node : Node Q) → list_any is_unasked node.parts.changeovers ≡ false → order_all q c node ≡ node
  none-late node e = either c.changeover_by_any_route
    where
      either : (b : Bool) → (if b then order_each q c (length c.links) node else node) ≡ node
      either true = none-each (length c.links) node e
      either false = refl
