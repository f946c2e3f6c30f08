use Rattle.settings.proofs.Basics.{◌∙◌, Option, None, ℕ, ap, length, refl, length-replicate}
use Rattle.settings.proofs.Indexing.{finds-none}
use Rattle.settings.proofs.points.PointIndex.with_capacity.Goals as goal

pub invariant_of-result : goal.invariant_of-result
invariant_of-result c = record {
  codes = ap length c.in_ok-no_places.ensures ∙ length-replicate {A = Option ℕ} _ None;
  finds = rw c.in_ok-with_capacity.ensures.items (finds-none c.in_ok-no_places.field-0.items _ refl c.in_ok-no_places.ensures);
}
