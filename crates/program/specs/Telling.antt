-- What the program does to tell something to the console of a node.
use Rattle.std.specs.Prelude.{◌≡◌, ◌⊎◌, ℕ, List, Ok, Err}
use Rattle.toml.specs.Data.{Members}
use Rattle.settings_file.specs.Parsed.{AreDocument}
use Rattle.settings_file.specs.Addresses.{Spelling}
use Rattle.settings_file.specs.Consoles.{Place}
use Rattle.settings_file.specs.ServeReading.{console_told}
use Rattle.settings_file.specs.ServeSentences as server
use Rattle.settings_file.specs.declared.serve.fault.ServeFault.{ServeFault}
use Rattle.settings_file.specs.declared.serve.fault.ServeFault.TheVariants.{NoMemory}
use Rattle.program.specs.Explaining.{IsToldOf}
use Rattle.program.specs.Folders.{FileRead}
use Rattle.program.specs.Program.{Streams, EndsWith, EndsAtFile, told_server}
use Rattle.program.specs.declared.program.Status.{Status}
use Rattle.program.specs.declared.program.Status.TheVariants as status

-- the document of the octets names the place of a console, whatever its other settings say
pub record NamesConsole (octets : List ℕ) : Type 0 where
  pub document : Members
  pub are : AreDocument octets document
  pub place : Place
  pub named : (s : Spelling) → console_told s document ≡ Ok place

-- it names none, for this first fault, or memory ran out
pub record IsConsoleFault (octets : List ℕ) (why : ServeFault) : Type 0 where
  pub document : Members
  pub are : AreDocument octets document
  pub first : (s : Spelling) → (why ≡ NoMemory) ⊎ (console_told s document ≡ Err why)

-- if a document names the place of a console, nothing is said of what that answers; otherwise the fault is printed,
-- which standard error explains, and nothing is read
abbrev pub TellsDocument : (file octets : List ℕ) → Streams → Streams → Status → Type 0
TellsDocument file octets old new ended =
    NamesConsole octets
    ⊎ ((why : ServeFault) × IsConsoleFault octets why
    × EndsWith status.Start (told_server why) old.output new.output ended × (new.input ≡ old.input)
    × IsToldOf (server.Explains file why) old.errors new.errors)

-- the same of a file; if it isn't a document, the program ends as for other files that have no settings
abbrev pub TellsFile : (file : List ℕ) → FileRead → Streams → Streams → Status → Type 0
TellsFile file (Ok octets) old new ended =
    TellsDocument file octets old new ended
    ⊎ (EndsAtFile file (Ok octets) old.output new.output old.errors new.errors ended × (new.input ≡ old.input))
TellsFile file (Err fault) old new ended =
    EndsAtFile file (Err fault) old.output new.output old.errors new.errors ended × (new.input ≡ old.input)
