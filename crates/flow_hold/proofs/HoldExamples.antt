-- A hold beside another, by computation.
use Rattle.flow_hold.proofs.Basics.{ℕ, ◌∙◌, empty, insert, contains-insert, Changeover, Hold}
use Rattle.flow_hold.specs.HoldExamples as examples
use Rattle.flow_hold.proofs.Numbers.{in_order}

-- the pair of the changeover and a flow
abbrev pair : (sls : ℕ) → Hold
pair sls = record { procedure = Changeover 0; destination = 0; sls = sls }

pub first_stays_held : examples.first_stays_held
first_stays_held = contains-insert in_order (insert empty (pair 0)) (pair 1) (pair 0) ∙ contains-insert in_order empty (pair 0) (pair 0)
