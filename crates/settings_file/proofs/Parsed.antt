-- What is read of a text, by the document that it is.
use Rattle.settings_file.proofs.Basics.{◌≡◌, ◌∙◌, ◌⊎◌, inl, inr, ℕ, List, Some, None, refl, ap, Spelling, ServeFault, SettingsFault}
use Rattle.toml.specs.Data.{Members}
use Rattle.toml.specs.Parse.{parse_document}
use Rattle.settings_file.specs.ServeFaults.{fault_of}
use Rattle.settings_file.specs.ServeReading.{reading, document, IsFirstFault}
use Rattle.settings_file.specs.declared.serve.fault.ServeFault.TheVariants.{NoMemory}
use Rattle.settings_file.specs.Faults.{no_memory}
use Rattle.settings_file.specs.Reading as settings
use Rattle.settings_file.specs.declared.fault.SettingsFault.TheVariants.{Text}
use Rattle.settings_file.proofs.Readings.{none-parsed}

pub server-parsed : (s : Spelling) (text : List ℕ) (t : Members) → parse_document text ≡ Some t → reading s text ≡ document s t
unfolding reading
server-parsed s text t parsed = rw parsed refl

-- the fault of the node's settings is the first of the file
pub unread : (s : Spelling) (text : List ℕ) (found : SettingsFault) (fault : ServeFault) → fault ≡ fault_of found
    → (found ≡ no_memory) ⊎ settings.IsFirstFault text found → (fault ≡ NoMemory) ⊎ IsFirstFault s text fault
unread s text found fault is (inl memory) = inl (is ∙ ap fault_of memory)
unread s text found fault is (inr first) = inr (inl (record { found = found; first = first; named = is }))

pub unparsed : (text : List ℕ) (found : SettingsFault) → (found ≡ no_memory) ⊎ ((found ≡ Text) × (parse_document text ≡ None))
    → (found ≡ no_memory) ⊎ settings.IsFirstFault text found
unparsed text found (inl memory) = inl memory
unparsed text found (inr none) = inr (inl (none-parsed text found none))
