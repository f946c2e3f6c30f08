-- The built-in settings as they are written mean the checked ones.
use Rattle.std.proofs.Common.{◌≡◌, ℕ, ℤ, pos, Bool, true, false, List, [], ◌∷◌, Some, None, map, refl, ap, sym, ◌∙◌, codes, string_bytes, ◌⊎◌, inl, inr}
use Rattle.std.specs.Prelude.{unwrap_or, position}
use Rattle.std.specs.Str.{bytes_eq}
use Rattle.settings.specs.Meaning.{settings_of, set_of, link_of, destination_of, set_number}
use Rattle.settings.specs.FirstFault.{first_fault}
use Rattle.settings.specs.declared.fault.DraftFault.{DraftFault}
use Rattle.settings.specs.declared.fault.DraftFault.TheVariants.{NoMemory}
use Rattle.settings.specs.declared.draft.Draft.{Draft}
use Rattle.settings.specs.declared.draft.SetDraft.{SetDraft}
use Rattle.settings.specs.declared.draft.LinkDraft.{LinkDraft}
use Rattle.settings.specs.declared.draft.DestinationDraft.{DestinationDraft}
use Rattle.script.specs.BuiltIn.{IsBuiltIn, IsSets, IsLinks, IsDestination, IsDestinations, built_in_settings}
use Rattle.settings_file.specs.declared.fault.SettingsFault.TheVariants as settings_fault
use Rattle.settings_file.specs.Faults.{no_memory}
use Rattle.program.proofs.BuiltInWell.{has_no_fault}

one-place : {A : Type 0} → (test : A → Bool) (x : A) (b : Bool) → test x ≡ b → ◌≡◌ {A = ℕ} (unwrap_or (position test (x ∷ [])) 0) 0
one-place test x true h = rw h refl
one-place test x false h = rw h refl

-- there is one set, so its number is that of any name
set_number-one : (sets : List SetDraft) (name : List ℕ) → IsSets sets → set_number sets name ≡ 0
set_number-one [] name h = absurd h
set_number-one (s ∷ []) name h = one-place (λ (t : SetDraft). bytes_eq (string_bytes t.name) name) s _ refl
set_number-one (s ∷ t ∷ more) name h = absurd h

sets-meant : (sets : List SetDraft) → IsSets sets → map set_of sets ≡ built_in_settings.sets
sets-meant [] h = absurd h
sets-meant (s ∷ []) h = rw (h.0, h.1) refl
sets-meant (s ∷ t ∷ more) h = absurd h

links-meant : (sets : List SetDraft) (links : List LinkDraft) → IsSets sets → IsLinks links → map (link_of sets) links ≡ built_in_settings.links
links-meant sets [] k h = absurd h
links-meant sets (l ∷ []) k h = rw (set_number-one sets (string_bytes l.set) k, h.0, h.2, h.3) refl
links-meant sets (l ∷ m ∷ more) k h = absurd h

one-mapped : {A : Type 0} → (f : A → List ℕ) (g : List ℕ → ℕ) (xs : List A) (w : List ℕ) → map f xs ≡ w ∷ [] → map (λ x. g (f x)) xs ≡ g w ∷ []
one-mapped f g [] w h = cc h
one-mapped f g (x ∷ []) w h = cc h
one-mapped f g (x ∷ y ∷ more) w h = cc h

destination-meant : (sets : List SetDraft) (point : ℤ) (d : DestinationDraft) → IsSets sets → IsDestination point d
    → (destination_of sets d).sets ≡ 0 ∷ []
destination-meant sets point d k h =
    one-mapped (λ name. string_bytes name) (set_number sets) d.sets.items (codes "east") h.1
    ∙ ap (λ (n : ℕ). n ∷ []) (set_number-one sets (codes "east") k)

destinations-meant : (sets : List SetDraft) (destinations : List DestinationDraft) → IsSets sets → IsDestinations destinations
    → map (destination_of sets) destinations ≡ built_in_settings.destinations
destinations-meant sets [] k h = absurd h
destinations-meant sets (c ∷ []) k h = absurd h
destinations-meant sets (c ∷ d ∷ []) k h =
    rw (destination-meant sets (pos 2) c k h.0, destination-meant sets (pos 300) d k h.1, h.0.0, h.1.0, h.0.2, h.1.2) refl
destinations-meant sets (c ∷ d ∷ e ∷ more) k h = absurd h

pub settings-meant : (d : Draft) → IsBuiltIn d → settings_of d ≡ built_in_settings
settings-meant d h =
    rw (
      h.own,
      h.network,
      h.window,
      h.pool,
      h.users,
      h.subsystems,
      h.extended_unitdata,
      h.subsystem_tests,
      h.user_part_unavailable,
      h.processor_outage,
      h.out_of_service,
      h.changeover_by_any_route,
      h.timers,
      sets-meant d.sets.items h.sets,
      links-meant d.sets.items d.links.items h.sets h.links,
      destinations-meant d.sets.items d.destinations.items h.sets h.destinations,
      h.titles,
    ) refl

-- only memory can be wanting for them
pub built_in_fault : (d : Draft) (found : DraftFault) → IsBuiltIn d → (found ≡ NoMemory) ⊎ (first_fault d ≡ Some found)
    → settings_fault.Draft found ≡ no_memory
built_in_fault d found h (inl e) = ap (λ (f : DraftFault). settings_fault.Draft f) e
built_in_fault d found h (inr e) = absurd (let wrong : None ≡ Some found = sym (has_no_fault d h) ∙ e in cc)
