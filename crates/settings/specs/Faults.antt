-- The faults of settings: their numbers, and the lines that tell them.
use Rattle.std.specs.Prelude.{ℕ, List, ◌++◌, codes}
use Rattle.std.specs.Fmt.{decimal}
use Rattle.settings.specs.Keys.{key_path}
use Rattle.settings.specs.declared.fault.FaultKind.{FaultKind}
use Rattle.settings.specs.declared.fault.FaultKind.TheVariants.{Range, Duplicate, UnknownName, TooMany}
use Rattle.settings.specs.declared.fault.DraftFault.{DraftFault}
use Rattle.settings.specs.declared.fault.DraftFault.TheVariants.{NoMemory, At}

-- what is wrong at a key, by number
abbrev pub kind_number : FaultKind → ℕ
kind_number Range = 4
kind_number Duplicate = 5
kind_number UnknownName = 6
kind_number TooMany = 7

abbrev pub fault_number : DraftFault → ℕ
fault_number NoMemory = 8
fault_number (At kind key) = kind_number kind

-- the line that tells a fault: `fault 4 link[2].slc`, `fault NoMemory`
abbrev pub fault_line : DraftFault → List ℕ
fault_line NoMemory = codes "fault NoMemory"
fault_line (At kind key) = codes "fault " ++ (decimal (kind_number kind) ++ (codes " " ++ key_path key))
