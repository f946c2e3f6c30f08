-- How a set of holds is stored: each pair as its numbers.
use Rattle.std.specs.Prelude.{◌≡◌, ℕ, List, ◌∷◌, refl, nat_eq, slice_index_or, if◌then◌else◌}
use Rattle.std.proofs.Common.{ap}
use Rattle.std.specs.FinSet as set
use Rattle.std.specs.Coded.{Coded, code_by, coded×, coded_list, coded_ℕ}
use Rattle.flow_hold.specs.declared.procedure.Procedure.{Procedure}
use Rattle.flow_hold.specs.declared.procedure.Procedure.TheVariants.{Changeover, Code, Time, Reroute}
use Rattle.flow_hold.specs.Holds.{Hold, HoldSet, numbers_of, hold_numbers, by_numbers}

-- the procedure that has these numbers
abbrev pub procedure_of : List ℕ → Procedure
procedure_of (kind ∷ number ∷ others) =
    if nat_eq kind 0 then Changeover number
    else if nat_eq kind 1 then Code number (slice_index_or others 0 0)
    else if nat_eq kind 2 then Time number
    else Reroute number
procedure_of numbers = Changeover 0

-- the pair that has these numbers
abbrev pub hold_of : List ℕ → Hold
hold_of (destination ∷ sls ∷ numbers) =
    record { procedure = procedure_of numbers; destination = destination; sls = sls }
hold_of numbers = record { procedure = Changeover 0; destination = 0; sls = 0 }

pub same_procedure : (procedure : Procedure) → procedure_of (numbers_of procedure) ≡ procedure
same_procedure (Changeover link) = refl
same_procedure procedure = refl

pub same_hold : (hold : Hold) → hold_of (hold_numbers hold) ≡ hold
same_hold hold =
    ap (λ (p : Procedure). record { procedure = p; destination = hold.destination; sls = hold.sls })
    (same_procedure hold.procedure)

abbrev pub hold_code : Coded Hold
hold_code = code_by (List ℕ) (coded_list coded_ℕ) hold_numbers hold_of same_hold

abbrev pub hold_set_code : Coded HoldSet
hold_set_code =
    code_by (ℕ × (ℕ × (ℕ × set.FinSet by_numbers)))
    (coded× coded_ℕ (coded× coded_ℕ (coded× coded_ℕ (set.code hold_code))))
    (λ h. (h.links, (h.sets, (h.destinations, h.pairs))))
    (λ p. record { links = p.0; sets = p.1.0; destinations = p.1.1.0; pairs = p.1.1.1 })
    (λ _. refl)
