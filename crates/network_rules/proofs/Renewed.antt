-- A network whose nodes are at points 1, 2 and 3, as three nodes: changes, and what is left when books begin anew.
use Rattle.pair_rules.proofs.Basics.{◌≡◌, ℕ, Bool, true, false, List, [], ◌∷◌, nat_eq, refl, ap, ◌∙◌}
use Rattle.network_rules.specs.Networks.{NetworkNode}
use Rattle.network_rules.specs.Anew.{Change, GivesUp, Restarts, Steps, after_all, after_change, begun_anew, given_up, restarted}
use Rattle.network_rules.proofs.LaidOut.{Three, at_point, changed-is, changed_at, network_of, run, run-is}

abbrev change_in : Change → Three → Three
change_in (Steps step) t = run (step ∷ []) t
change_in (Restarts point) t = changed_at point restarted t
change_in (GivesUp point link) t = changed_at point (given_up link) t

change-is : (change : Change) (t : Three) → after_change change (network_of t) ≡ network_of (change_in change t)
change-is (Steps step) t = run-is (step ∷ []) t
change-is (Restarts point) t = changed-is restarted t point
change-is (GivesUp point link) t = changed-is (given_up link) t point

abbrev pub run_changes : List Change → Three → Three
run_changes [] t = t
run_changes (change ∷ changes) t = run_changes changes (change_in change t)

pub changes-are : (changes : List Change) (t : Three) → after_all changes (network_of t) ≡ network_of (run_changes changes t)
changes-are [] t = refl
changes-are (change ∷ changes) t = ap (after_all changes) (change-is change t) ∙ changes-are changes (change_in change t)

-- ---- books begin anew

abbrev unbooked : NetworkNode → NetworkNode
unbooked x = record x { accepted = []; arrived = []; entered = []; refused = [] }

abbrev pub anew : Three → Three
anew t = record { first = unbooked t.first; second = unbooked t.second; third = unbooked t.third; others = λ point. unbooked (t.others point) }

pub anew-is : (t : Three) → begun_anew (network_of t) ≡ network_of (anew t)
anew-is t = λ i. record { node = λ point. here (nat_eq point 1) (nat_eq point 2) (nat_eq point 3) point i }
  where
    here : (one two three : Bool) (point : ℕ) → unbooked (at_point one two three t point) ≡ at_point one two three (anew t) point
    here true two three point = refl
    here false true three point = refl
    here false false true point = refl
    here false false false point = refl
