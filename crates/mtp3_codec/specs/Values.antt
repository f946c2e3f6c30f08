-- What the messages of the code say, without where their octets lie.
use Rattle.std.specs.Prelude.{◌≡◌, Result, Ok, Err}
use Rattle.mtp3_codec.specs.declared.fault.MgmtFault.{MgmtFault}
use Rattle.mtp3_codec.specs.declared.link_test.LinkTest.{LinkTest}
use Rattle.mtp3_codec.specs.Management.{LinkTestValue}

abbrev pub test_value : LinkTest → LinkTestValue
test_value test = record { kind = test.kind; slc = test.slc; pattern = test.pattern.now }

-- what the code returns, seen as a value, is what reading gives
abbrev pub Gives : Result LinkTest MgmtFault → Result LinkTestValue MgmtFault → Type 0
Gives (Ok test) read = read ≡ Ok (test_value test)
Gives (Err fault) read = read ≡ Err fault
