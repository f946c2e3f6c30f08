-- All faults of a file begin with the first of them.
use Rattle.settings_file.proofs.Basics.{◌≡◌, Bool, List, [], ◌∷◌, ◌++◌, length, map, refl, ◌∙◌, inl, inr, SettingsFault, ServeFault}
use Rattle.std.specs.Prelude.{true, false, cond, not, ◌&&◌, nat_lt}
use Rattle.toml.specs.Data.{Members}
use Rattle.settings.specs.declared.fault.DraftFault.{DraftFault}
use Rattle.settings.specs.AllFaults.{all_faults}
use Rattle.settings_file.specs.AllFaults.{checked_fault, told_faults, AreAllFaults}
unfoldable use Rattle.settings_file.specs.AllFaults.{reading_faults}
unfoldable use Rattle.settings_file.specs.AllServeFaults.{server_faults}
unfoldable use Rattle.settings_file.specs.Following.{standing}
use Rattle.settings_file.specs.declared.serve.fault.ServeFault.TheVariants.{Settings}
use Rattle.settings_file.specs.ToldFaults.{is_told, all_told}
use Rattle.settings_file.specs.declared.faults.telling.TheConstants.{MOST_FAULTS}
use Rattle.settings_file.proofs.Exists.{spelling}

pub told-same : (first : ServeFault) (reading reading2 : List SettingsFault) (checked checked2 : List DraftFault) (server server2 : List ServeFault)
    → reading ≡ reading2 → checked ≡ checked2 → server ≡ server2 → told_faults first reading checked server ≡ told_faults first reading2 checked2 server2
told-same first reading reading2 checked checked2 server server2 r c s = rw (r, c, s) refl

told-begins : (first : ServeFault) (told found : List ServeFault) → (rest : List ServeFault) × (all_told (first ∷ told) found ≡ first ∷ rest)
told-begins first told [] = (told, refl)
told-begins first told (fault ∷ found) = by (nat_lt (length (first ∷ told)) MOST_FAULTS && not (is_told (first ∷ told) fault)) (told-begins first (told ++ fault ∷ []) found) (told-begins first told found)
  where
    by : (b : Bool) → (rest : List ServeFault) × (all_told (first ∷ (told ++ fault ∷ [])) found ≡ first ∷ rest) → (rest : List ServeFault) × (all_told (first ∷ told) found ≡ first ∷ rest)
        → (rest : List ServeFault) × (all_told (cond b (first ∷ (told ++ fault ∷ [])) (first ∷ told)) found ≡ first ∷ rest)
    by true h k = h
    by false h k = k

pub first-of-all : (t : Members) (first : ServeFault) (faults : List ServeFault) → AreAllFaults t first faults → (rest : List ServeFault) × (faults ≡ first ∷ rest)
first-of-all t first faults (inl alone) = ([], alone.1)
first-of-all t first faults (inr all) =
    let reading = reading_faults t in
    let found = map Settings reading ++ (map checked_fault (standing reading (all_faults all.1.draft)) ++ server_faults spelling t) in
    let begins = told-begins first [] found in
    (begins.0, all.1.found spelling ∙ begins.1)
