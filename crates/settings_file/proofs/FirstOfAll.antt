-- The first fault of a file of version 4 is the first of those that are found all at once.
use Rattle.settings_file.proofs.Basics.{◌≡◌, ◌∙◌, ◌⊎◌, inl, inr, ℕ, List, [], ◌∷◌, ◌++◌, Option, Some, None, Result, Ok, Err, refl, sym, ap, none-some, same_Some, reading, SettingsFault}
use Rattle.std.specs.Prelude.{ℤ, pos, true}
use Rattle.toml.specs.Data.{Members}
use Rattle.toml.specs.Parse.{parse_document}
use Rattle.settings.specs.AllFaults.{all_faults, first_in}
use Rattle.settings.specs.Configuration.{Configuration}
use Rattle.settings.specs.FirstFault.{first_fault}
use Rattle.settings.specs.Meaning.{settings_of}
use Rattle.settings.specs.Checks.{first_of}
use Rattle.settings.specs.declared.draft.Draft.{Draft}
use Rattle.settings.specs.declared.fault.DraftFault.{DraftFault}
use Rattle.settings.proofs.FirstOfAll.{first_same, none_in}
unfoldable use Rattle.settings_file.specs.AllFaults.{reading_faults}
use Rattle.settings_file.specs.AllFaults.{reading_checks}
use Rattle.settings_file.specs.Document.{Document}
use Rattle.settings_file.specs.FirstOfAll.{checked_by, document_mended, HasNoFault, IsFirstOfReading, IsFirstOfChecking, IsFirstOfAll}
use Rattle.settings_file.specs.KnownKeys.{has_fourth}
use Rattle.settings_file.specs.Mended.{mended}
use Rattle.settings_file.specs.Noted.{all_noted}
use Rattle.settings_file.specs.Reading.{reading_in, IsReadAs, IsCheckedFault, IsFirstFault}
unfoldable use Rattle.settings_file.specs.Reading.{settings_fault}
use Rattle.settings_file.specs.Written.{Written, written}
use Rattle.settings_file.proofs.CheckedReading.{reading-checked}
use Rattle.settings_file.proofs.Readings.{reading-parsed}

-- ---- checks and the faults that they note

noted-behind : (fault : SettingsFault) (faults : List SettingsFault) (checks : List (Option SettingsFault)) → (rest : List SettingsFault) × (all_noted (fault ∷ faults) checks ≡ fault ∷ rest)
noted-behind fault faults [] = (faults, refl)
noted-behind fault faults (None ∷ checks) = noted-behind fault faults checks
noted-behind fault faults (Some found ∷ checks) = noted-behind fault (faults ++ found ∷ []) checks

abbrev first : List SettingsFault → Option SettingsFault
first [] = None
first (fault ∷ rest) = Some fault

first-noted : (fault : SettingsFault) (checks : List (Option SettingsFault)) → first (all_noted (fault ∷ []) checks) ≡ Some fault
first-noted fault checks = ap first (noted-behind fault [] checks).1

-- what checks find, by the faults that they note
abbrev found_first : {A : Type 0} → Option SettingsFault → A → Result A SettingsFault
found_first None value = Ok value
found_first (Some fault) value = Err fault

checked-first : {A : Type 0} (checks : List (Option SettingsFault)) (value : A) → checked_by checks value ≡ found_first (first (all_noted [] checks)) value
checked-first [] value = refl
checked-first (None ∷ checks) value = checked-first checks value
checked-first (Some fault ∷ checks) value = rw (first-noted fault checks) refl

-- faults with a first one, or none
first-none : (faults : List SettingsFault) → first faults ≡ None → faults ≡ []
first-none [] h = refl
first-none (fault ∷ rest) h = absurd (none-some fault (sym h))

first-some : (faults : List SettingsFault) (fault : SettingsFault) → first faults ≡ Some fault → (rest : List SettingsFault) × (faults ≡ fault ∷ rest)
first-some [] fault h = absurd (none-some fault h)
first-some (found ∷ rest) fault h = (rest, ap (λ (x : SettingsFault). x ∷ rest) (same_Some found fault h))

found-ok : {A : Type 0} (found : Option SettingsFault) (value read : A) → found_first found value ≡ Ok read → (found ≡ None) × (read ≡ value)
found-ok None value read h = (refl, cc)
found-ok (Some fault) value read h = cc

found-err : {A : Type 0} (found : Option SettingsFault) (value : A) (fault : SettingsFault) → found_first found value ≡ Err fault → found ≡ Some fault
found-err None value fault h = cc
found-err (Some found) value fault h = cc

-- ---- settings of version 4 have no limits of their own

limits-none : (draft : Draft) → settings_fault (pos 4) draft ≡ first_fault draft
unfolding settings_fault
limits-none draft = by (first_fault draft)
  where
    by : (found : Option DraftFault) → first_of (found ∷ None ∷ []) ≡ found
    by None = refl
    by (Some fault) = refl

abbrev version_in : Document → ℤ
version_in d = d.version

abbrev settings_in : Document → Written
settings_in d = d.settings

-- ---- a text that is a document of version 4
module _ (text : List ℕ) (t : Members) (parsed : parse_document text ≡ Some t) (fourth : has_fourth t ≡ true) where
  read-first : reading text ≡ found_first (first (reading_faults t)) (document_mended t)
  unfolding reading_faults
  read-first = reading-parsed text t parsed ∙ reading-checked t fourth ∙ checked-first (reading_checks t) (document_mended t)

  -- what is read of it, if it can be read
  read-is : (d : Document) → reading text ≡ Ok d → (reading_faults t ≡ []) × (d ≡ document_mended t)
  read-is d e =
      let found = found-ok (first (reading_faults t)) (document_mended t) d (sym read-first ∙ e) in
      (first-none (reading_faults t) found.0, found.1)

  read-mended : (draft : Draft) → reading_faults t ≡ [] → written draft ≡ mended t → reading text ≡ Ok (record { version = pos 4; settings = written draft })
  read-mended draft none says = read-first ∙ ap (λ (faults : List SettingsFault). found_first (first faults) (document_mended t)) none
      ∙ ap (λ (w : Written). Ok (record { version = pos 4; settings = w })) (sym says)

  checked-as : (version : ℤ) (draft : Draft) (found : Option DraftFault) → version ≡ pos 4 → settings_fault version draft ≡ found → first_in (all_faults draft) ≡ found
  checked-as version draft found v h = first_same draft ∙ sym (limits-none draft) ∙ ap (λ (n : ℤ). settings_fault n draft) (sym v) ∙ h

  pub none-fault : ((c : Configuration) × IsReadAs text c) → HasNoFault t
  none-fault read =
      let r = read.1 in
      let d = read-is (record { version = r.version; settings = written r.draft }) r.read in
      record {
        read = d.0;
        draft = r.draft;
        says = ap settings_in d.1;
        well = none_in (all_faults r.draft) (checked-as r.version r.draft None (ap version_in d.1) r.well);
      }

  pub none-read : HasNoFault t → (c : Configuration) × IsReadAs text c
  none-read n = (
    settings_of n.draft,
    record {
      version = pos 4;
      draft = n.draft;
      read = read-mended n.draft n.read n.says;
      well = limits-none n.draft ∙ sym (first_same n.draft) ∙ ap first_in n.well;
      meant = refl;
    },
  )

  pub first-found : (fault : SettingsFault) → IsFirstFault text fault → IsFirstOfAll t fault
  first-found fault (inl e) = inl (first-some (reading_faults t) fault (found-err (first (reading_faults t)) (document_mended t) fault (sym read-first ∙ e)))
  first-found fault (inr c) =
      let d = read-is (record { version = c.version; settings = written c.draft }) c.read in
      inr (record {
        read = d.0;
        draft = c.draft;
        says = ap settings_in d.1;
        found = c.found;
        first = checked-as c.version c.draft (Some c.found) (ap version_in d.1) c.first;
        named = c.named;
      })

  pub first-read : (fault : SettingsFault) → IsFirstOfAll t fault → IsFirstFault text fault
  first-read fault (inl (rest, e)) = inl (read-first ∙ ap (λ (faults : List SettingsFault). found_first (first faults) (document_mended t)) e)
  first-read fault (inr c) = inr (record {
    version = pos 4;
    draft = c.draft;
    found = c.found;
    read = read-mended c.draft c.read c.says;
    first = limits-none c.draft ∙ sym (first_same c.draft) ∙ c.first;
    named = c.named;
  })
