-- The program's arguments, and what they ask for.
use Rattle.std.specs.Prelude.{◌≡◌, ◌⊎◌, ◌&&◌, ◌||◌, ℕ, Bool, true, false, not, nat_eq, nat_lt, length, List, [], ◌∷◌, Option, None, Some, map}
use Rattle.std.specs.Prelude.{if◌then◌else◌}
use Rattle.std.specs.Prelude.{codes, bytes_eq, string_bytes, String}
use Rattle.std.specs.Global.{Global}
use Rattle.std.specs.List.{list_all}
use Rattle.clap.specs.Words.{Row, Text, first_of}
use Rattle.program.specs.declared.command_line.Words.{Words}
use Rattle.program.specs.declared.command_line.Words.TheVariants as words

-- run a script, on the built-in settings or on those of a file; check a file; run a lab script on the settings of two
-- files, over streams or over datagrams, or over streams on those of three files or more; serve a node with the
-- settings of a file; tell words to the console of such a node; print the program's help, or its version; anything else
pub data Task : Type 0 where
  BuiltInRun : Task
  FileRun : List ℕ → Task
  FileCheck : List ℕ → Task
  LabRun : (near far : List ℕ) → Task
  DatagramLabRun : (near far : List ℕ) → Task
  NetworkRun : List (List ℕ) → Task
  FileServe : List ℕ → Task
  FileTell : (file : List ℕ) → (words : List (List ℕ)) → Task
  Help : Task
  Version : Task
  OtherWords : Task

-- a plain word isn't empty, and doesn't begin with `-` (45)
abbrev pub is_plain : List ℕ → Bool
is_plain [] = false
is_plain (first ∷ rest) = not (nat_eq first 45)

-- `run FILE`, `check FILE` and `serve FILE`
abbrev pub asked_with : List ℕ → List ℕ → Task
asked_with command file =
    if bytes_eq command (codes "run") then FileRun file
    else (if bytes_eq command (codes "check") then FileCheck file
    else (if bytes_eq command (codes "serve") then FileServe file else OtherWords))

-- `lab NEAR FAR` and `lab-udp NEAR FAR`
abbrev pub asked_with_two : List ℕ → (near far : List ℕ) → Task
asked_with_two command near far =
    if bytes_eq command (codes "lab") then LabRun near far
    else (if bytes_eq command (codes "lab-udp") then DatagramLabRun near far else OtherWords)

-- the commands of at most two files: `run`, `run FILE`, `check FILE`, `serve FILE`, `lab NEAR FAR` and
-- `lab-udp NEAR FAR`, and nothing else
abbrev pub asked_by : List (List ℕ) → Task
asked_by (command ∷ []) = if bytes_eq command (codes "run") then BuiltInRun else OtherWords
asked_by (command ∷ file ∷ []) = if is_plain file then asked_with command file else OtherWords
asked_by (command ∷ near ∷ far ∷ []) =
    if is_plain near && is_plain far then asked_with_two command near far else OtherWords
asked_by _ = OtherWords

abbrev pub texts : List (String Global) → List (List ℕ)
texts words = map (λ word. string_bytes word) words

-- `help` or `--help`, and nothing else
abbrev pub asks_help : List (List ℕ) → Bool
asks_help (word ∷ []) = bytes_eq word (codes "help") || bytes_eq word (codes "--help")
asks_help _ = false

-- `version` or `--version`, and nothing else
abbrev pub asks_version : List (List ℕ) → Bool
asks_version (word ∷ []) = bytes_eq word (codes "version") || bytes_eq word (codes "--version")
asks_version _ = false

-- `lab FILE FILE FILE ..`, with three files or more
abbrev pub are_network : (command : List ℕ) → (files : List (List ℕ)) → Bool
are_network command files = bytes_eq command (codes "lab") && (nat_lt 2 (length files) && list_all is_plain files)

-- the files of such words
abbrev pub network_files : List (List ℕ) → Option (List (List ℕ))
network_files (command ∷ files) = if are_network command files then Some files else None
network_files [] = None

-- a lab of these files, or else a command
abbrev pub network_or : Option (List (List ℕ)) → Task → Task
network_or (Some files) other = NetworkRun files
network_or None other = other

-- a word of a line of the console may be empty and begin with `-`, but has no line feed (10)
abbrev pub is_in_line : List ℕ → Bool
is_in_line word = list_all (λ octet. not (nat_eq octet 10)) word

-- `tell FILE` and any further words
abbrev pub are_told : (command file : List ℕ) → (words : List (List ℕ)) → Bool
are_told command file words = bytes_eq command (codes "tell") && (is_plain file && list_all is_in_line words)

-- the file of such words, and the words behind it
abbrev pub told_words : List (List ℕ) → Option (List ℕ × List (List ℕ))
told_words (command ∷ file ∷ words) = if are_told command file words then Some (file, words) else None
told_words (command ∷ []) = None
told_words [] = None

-- words that are told to the console of a file, or else a command
abbrev pub told_or : Option (List ℕ × List (List ℕ)) → Task → Task
told_or (Some p) other = FileTell p.0 p.1
told_or None other = other

-- help, the version, or a command
abbrev pub asked : List (String Global) → Task
asked words =
    if asks_help (texts words) then Help
    else (if asks_version (texts words) then Version
    else network_or (network_files (texts words))
    (told_or (told_words (texts words)) (asked_by (texts words))))

-- what the command that was parsed asks for, by the file after it
abbrev pub asked_by_command : List ℕ → Option (List ℕ) → Task
asked_by_command command None = if bytes_eq command (codes "run") then BuiltInRun else OtherWords
asked_by_command command (Some file) = asked_with command file

-- the commands with two files after them
abbrev pub takes_two : List ℕ → Bool
takes_two command = bytes_eq command (codes "lab") || bytes_eq command (codes "lab-udp")

-- what such a command that was parsed asks for, by the files after it
abbrev pub asked_by_two : List ℕ → (near far : Option (List ℕ)) → Task
asked_by_two command (Some near) (Some far) = asked_with_two command near far
asked_by_two command near far = OtherWords

-- what a command that was parsed asks for, by the files after it
abbrev pub found_by : List ℕ → (file near far : Option (List ℕ)) → Task
found_by command file near far =
    if takes_two command then asked_by_two command near far else asked_by_command command file

abbrev pub found : Option (Text × List Row) → Task
found None = OtherWords
found (Some p) = found_by p.0 (first_of (codes "file") p.1) (first_of (codes "near") p.1) (first_of (codes "far") p.1)

abbrev pub are_plain : List (String Global) → Bool
are_plain words = list_all (λ word. is_plain (string_bytes word)) words

abbrev pub are_in_line : List (String Global) → Bool
are_in_line words = list_all (λ word. is_in_line (string_bytes word)) words

-- arguments that memory is allocated for: plain ones that ask neither for help nor for the version
abbrev pub take_memory : List (String Global) → Bool
take_memory words = are_plain words && not (asks_help (texts words) || asks_version (texts words))

-- what arguments were read as, if memory didn't run out
abbrev pub task_of : Words → Option Task
task_of (words.Run None) = Some BuiltInRun
task_of (words.Run (Some file)) = Some (FileRun (string_bytes file))
task_of (words.Check file) = Some (FileCheck (string_bytes file))
task_of (words.Lab near far) = Some (LabRun (string_bytes near) (string_bytes far))
task_of (words.DatagramLab near far) = Some (DatagramLabRun (string_bytes near) (string_bytes far))
task_of (words.Network files) = Some (NetworkRun (texts files.now))
task_of (words.Serve file) = Some (FileServe (string_bytes file))
task_of (words.Tell file line) = Some (FileTell file.now (texts line.now))
task_of words.Help = Some Help
task_of words.Version = Some Version
task_of words.Usage = Some OtherWords
task_of words.NoMemory = None

-- arguments were read as this task; or memory is allocated for them, and ran out
abbrev pub AreReadAsTask : (task : Task) (takes_memory : Bool) → Words → Type 0
AreReadAsTask task takes_memory read = (task_of read ≡ Some task) ⊎ ((read ≡ words.NoMemory) × (takes_memory ≡ true))

-- arguments were read as the task that they ask for
abbrev pub AreReadAs : List (String Global) → Words → Type 0
AreReadAs given read = AreReadAsTask (asked given) (take_memory given) read
