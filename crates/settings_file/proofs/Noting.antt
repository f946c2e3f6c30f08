-- Faults that are noted one after another.
use Rattle.settings_file.proofs.Basics.{◌≡◌, ℕ, ◌+◌, ◌<◌, ◌≤◌, List, [], ◌∷◌, ◌++◌, length, get_or, drop, map, Option, refl, ap, ◌∙◌, drop_more, drop_all, view, SettingsFault}
use Rattle.settings_file.proofs.Basics.{Result, Ok, Err, inl, inr}
use Rattle.std.specs.Prelude.{IfOk, OnOk, ◌≢◌}
use Rattle.std.specs.Result.{result_unwrap_or}
use Rattle.settings_file.specs.AllFaults.{each_check, fault_in}
use Rattle.settings_file.specs.Noted.{noted, all_noted}
use Rattle.settings_file.specs.Faults.{AnswersOrNoMemory, no_memory}
use Rattle.settings_file.specs.Mended.{or_else}
use Rattle.toml.specs.Data.{Data}
use Rattle.toml.specs.declared.value.Value.{Value}

pub then_note : {F : Type 0} (faults : List F) (a b : List (Option F)) → all_noted (all_noted faults a) b ≡ all_noted faults (a ++ b)
then_note faults [] b = refl
then_note faults (check ∷ a) b = then_note (noted faults check) a b

pub three_noted : {F : Type 0} (faults : List F) (a b c : List (Option F)) → all_noted (all_noted (all_noted faults a) b) c ≡ all_noted faults (a ++ (b ++ c))
three_noted faults a b c = then_note (all_noted faults a) b c ∙ then_note faults a (b ++ c)

pub five_noted : {F : Type 0} (faults : List F) (a b c d e : List (Option F))
    → all_noted (all_noted (all_noted (all_noted (all_noted faults a) b) c) d) e ≡ all_noted faults (a ++ (b ++ (c ++ (d ++ e))))
five_noted faults a b c d e = three_noted (all_noted (all_noted faults a) b) c d e ∙ three_noted faults a b (c ++ (d ++ e))

pub six_noted : {F : Type 0} (faults : List F) (a b c d e f : List (Option F))
    → all_noted (all_noted (all_noted (all_noted (all_noted (all_noted faults a) b) c) d) e) f ≡ all_noted faults (a ++ (b ++ (c ++ (d ++ (e ++ f)))))
six_noted faults a b c d e f = five_noted (all_noted faults a) b c d e f ∙ then_note faults a (b ++ (c ++ (d ++ (e ++ f))))

pub four_noted : (faults : List SettingsFault) (a b c d : List (Option SettingsFault))
    → all_noted (all_noted (all_noted (all_noted faults a) b) c) d ≡ all_noted faults (a ++ (b ++ (c ++ d)))
four_noted faults a b c d =
    then_note (all_noted (all_noted faults a) b) c d ∙ then_note (all_noted faults a) b (c ++ d) ∙ then_note faults a (b ++ (c ++ d))

-- an entry of an array is noted, and what is left to note
pub noted_entry : (f : ℕ → Data → List (Option SettingsFault)) (vs : List Value) (i : ℕ) (v : Value) (old new all : List SettingsFault)
    → i < length vs → v ≡ get_or vs i v → new ≡ all_noted old (f i (view v)) → all_noted old (each_check f i (map view (drop i vs))) ≡ all
    → all_noted new (each_check f (i + 1) (map view (drop (i + 1) vs))) ≡ all
noted_entry f vs i v old new all within is n h =
    let step : all_noted old (f i (view v) ++ each_check f (i + 1) (map view (drop (i + 1) vs))) ≡ all = rw (drop_more vs i v within, ← is) at h in
    rw n (then_note old (f i (view v)) (each_check f (i + 1) (map view (drop (i + 1) vs))) ∙ step)

pub noted_all : (f : ℕ → Data → List (Option SettingsFault)) (vs : List Value) (i : ℕ) (faults all : List SettingsFault)
    → length vs ≤ i → all_noted faults (each_check f i (map view (drop i vs))) ≡ all → faults ≡ all
noted_all f vs i faults all past h = rw (drop_all i vs past) at h

-- ---- what was read, or memory ran out

-- the fault of what was read is that of what is said, if it isn't that memory ran out
pub fault-read : {A B : Type 0} (value : B → A) (said : Result A SettingsFault) (read : Result B SettingsFault)
    → AnswersOrNoMemory value said read → (read ≡ Err no_memory → ⊥) → fault_in read ≡ fault_in said
fault-read value said (Ok b) h some = rw h refl
fault-read value said (Err fault) (inl memory) some = absurd (some (ap Err memory))
fault-read value said (Err fault) (inr h) some = rw h refl

-- so is its value, or the empty one
pub empty-read : {A B : Type 0} (value : B → A) (said : Result A SettingsFault) (read : Result B SettingsFault) (empty : B)
    → AnswersOrNoMemory value said read → (read ≡ Err no_memory → ⊥) → value (result_unwrap_or read empty) ≡ or_else (value empty) said
empty-read value said (Ok b) empty h some = rw h refl
empty-read value said (Err fault) empty (inl memory) some = absurd (some (ap Err memory))
empty-read value said (Err fault) empty (inr h) some = rw h refl

-- the fault of what was read is noted, if it has one
pub noted-read : {A B E : Type 0} (value : B → A) (said : Result A SettingsFault) (read : Result B SettingsFault) (check : Option SettingsFault) (old new : List SettingsFault) (made : Result Unit E)
    → AnswersOrNoMemory value said read → check ≡ fault_in read → (read ≡ Err no_memory → ⊥) → OnOk made (new ≡ noted old check)
    → OnOk made (new ≡ noted old (fault_in said))
noted-read value said read check old new (Ok done) h is some n = n ∙ ap (λ (found : Option SettingsFault). noted old found) (is ∙ fault-read value said read h some)
noted-read value said read check old new (Err fault) h is some n = tt

pub empty-made : {A B E : Type 0} (value : B → A) (said : Result A SettingsFault) (read : Result B SettingsFault) (empty : B) (made : Result B E) {none : A}
    → value empty ≡ none → AnswersOrNoMemory value said read → IfOk made (λ v. v ≡ result_unwrap_or read empty) → IfOk made (λ v. read ≢ Err no_memory)
    → IfOk made (λ v. value v ≡ or_else none said)
empty-made value said read empty (Ok v) e h is some = rw (is, ← e) (empty-read value said read empty h some)
empty-made value said read empty (Err fault) e h is some = tt
