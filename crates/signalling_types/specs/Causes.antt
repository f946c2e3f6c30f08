-- The causes of refusals, by number and by name.
use Rattle.std.specs.Prelude.{ℕ, List, codes}
use Rattle.signalling_types.specs.declared.cause.Cause.{Cause}
use Rattle.signalling_types.specs.declared.cause.Cause.TheVariants.{WrongNetwork, NoLabel, UnknownDestination, NoRoute}
use Rattle.signalling_types.specs.declared.cause.Cause.TheVariants.{PoolFull, NoUserPart, NotInProfile, BadManagement}
use Rattle.signalling_types.specs.declared.cause.Cause.TheVariants.{BadSccp, NoNature, NoDigits, Unequipped, TooLong}
use Rattle.signalling_types.specs.declared.cause.Cause.TheVariants.{LostUnconfirmed, ManagementFull, NotFromAdjacent}
use Rattle.signalling_types.specs.declared.cause.Cause.TheVariants.{LinkNotReady, ChangeoverPending, NoMemory}
use Rattle.signalling_types.specs.declared.cause.Cause.TheVariants.{TableFull, DuplicateRow, NoSuchName}
use Rattle.signalling_types.specs.declared.cause.Cause.TheVariants.{HopCounter, ShareFull, SubsystemProhibited}

abbrev pub cause_number : Cause → ℕ
cause_number WrongNetwork = 1
cause_number NoLabel = 2
cause_number UnknownDestination = 3
cause_number NoRoute = 4
cause_number PoolFull = 5
cause_number NoUserPart = 6
cause_number NotInProfile = 7
cause_number BadManagement = 8
cause_number BadSccp = 9
cause_number NoNature = 10
cause_number NoDigits = 11
cause_number Unequipped = 12
cause_number TooLong = 13
cause_number LostUnconfirmed = 14
cause_number ManagementFull = 15
cause_number NotFromAdjacent = 16
cause_number LinkNotReady = 17
cause_number ChangeoverPending = 18
cause_number NoMemory = 19
cause_number TableFull = 20
cause_number DuplicateRow = 21
cause_number NoSuchName = 22
cause_number HopCounter = 23
cause_number ShareFull = 24
cause_number SubsystemProhibited = 25

-- a cause's name, as texts print it
abbrev pub cause_name : Cause → List ℕ
cause_name WrongNetwork = codes "WrongNetwork"
cause_name NoLabel = codes "NoLabel"
cause_name UnknownDestination = codes "UnknownDestination"
cause_name NoRoute = codes "NoRoute"
cause_name PoolFull = codes "PoolFull"
cause_name NoUserPart = codes "NoUserPart"
cause_name NotInProfile = codes "NotInProfile"
cause_name BadManagement = codes "BadManagement"
cause_name BadSccp = codes "BadSccp"
cause_name NoNature = codes "NoNature"
cause_name NoDigits = codes "NoDigits"
cause_name Unequipped = codes "Unequipped"
cause_name TooLong = codes "TooLong"
cause_name LostUnconfirmed = codes "LostUnconfirmed"
cause_name ManagementFull = codes "ManagementFull"
cause_name NotFromAdjacent = codes "NotFromAdjacent"
cause_name LinkNotReady = codes "LinkNotReady"
cause_name ChangeoverPending = codes "ChangeoverPending"
cause_name NoMemory = codes "NoMemory"
cause_name TableFull = codes "TableFull"
cause_name DuplicateRow = codes "DuplicateRow"
cause_name NoSuchName = codes "NoSuchName"
cause_name HopCounter = codes "HopCounter"
cause_name ShareFull = codes "ShareFull"
cause_name SubsystemProhibited = codes "SubsystemProhibited"
