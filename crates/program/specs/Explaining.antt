-- What standard error is told.
use Rattle.std.specs.Prelude.{◌≡◌, ◌⊎◌, ℕ, List, ◌++◌, take, codes, decimal, Some, Result, Ok, Err, String, string_bytes}
use Rattle.std.specs.Global.{Global}
use Rattle.std.specs.Io.KnownBytes.{Appends}
use Rattle.toml.specs.Data.{Members}
use Rattle.settings.specs.Configuration.{Configuration}
use Rattle.settings_file.specs.AllFaults.{AreAllFaults}
use Rattle.settings_file.specs.Doubts.{AreDoubts}
unfoldable use Rattle.settings_file.specs.Doubts.{doubtful}
use Rattle.settings_file.specs.declared.doubts.TheConstants.{MOST_DOUBTS}
use Rattle.settings_file.specs.PlacedSentences.{AreSentences}
use Rattle.settings_file.specs.Warnings.{AreWarnings}
use Rattle.settings_file.specs.declared.serve.fault.ServeFault.{ServeFault}
use Rattle.program.specs.Sentences.{IsAboutLine}
use Rattle.script.specs.Streams.{Output, AppendsFirst, counted}
use Rattle.program.specs.declared.folder.Unread.{Unread}
use Rattle.program.specs.declared.folder.Unread.TheVariants.{Missing, Forbidden, Directory, TooLarge, Failed}
use Rattle.script.specs.declared.fault.ScriptFault.{ScriptFault}
use Rattle.script.specs.declared.fault.ScriptFault.TheVariants as fault

-- a text is written to standard error; or the write failed, and the first octets of the text were written
abbrev pub IsTold : List ℕ → Output → Output → Type 0
IsTold text errors errors_new =
    (Appends errors.written errors_new.written text × (errors_new.failures ≡ errors.failures))
    ⊎ (AppendsFirst errors.written errors_new.written text × (errors_new.failures ≡ counted errors.failures))

-- a text that was made is written there; or memory ran out for the text, and nothing is
abbrev pub IsToldMade : {F : Type 0} → Result (String Global) F → Output → Output → Type 0
IsToldMade (Ok text) errors errors_new = IsTold (string_bytes text) errors errors_new
IsToldMade (Err _) errors errors_new = errors_new ≡ errors

-- some text of this kind is written there; or memory ran out for the text, and nothing is
abbrev pub IsToldOf : (List ℕ → Type 0) → Output → Output → Type 0
IsToldOf IsText errors errors_new =
    ((text : List ℕ) × IsText text × IsTold text errors errors_new) ⊎ (errors_new ≡ errors)

-- ---- words

-- the program's commands, and what they mean
abbrev pub usage_text : List ℕ
usage_text =
    codes "stp run               runs the script on standard input, with the built-in settings\n"
    ++ (codes "stp run FILE          runs it with the settings in FILE\n"
    ++ (codes "stp check FILE        prints ok, or the first fault of the settings in FILE\n"
    ++ (codes "stp lab NEAR FAR      runs the lab script on standard input, on two nodes that it joins\n"
    ++ (codes "stp lab FILE FILE ..  runs it on three nodes or more, whose points the script then names\n"
    ++ (codes "stp lab-udp NEAR FAR  runs it on two nodes that it joins by SCTP in UDP\n"
    ++ (codes "stp serve FILE        serves a node on the network, with the settings in FILE\n"
    ++ (codes "stp tell FILE ..      writes a line, or those on standard input, to the console of that node\n"
    ++ (codes "stp help              prints these lines\n"
    ++ (codes "stp version           prints the version\n"
    ++ (codes "The lines of a script, the settings and the exit statuses are in docs/MANUAL.md.\n"
    ++ codes "README.md is the introduction, and lists the other pages in docs/.\n"))))))))))

-- ---- files

-- why a file can't be read
abbrev pub unread_text : Unread → List ℕ
unread_text Missing = codes "there is no such file"
unread_text Forbidden = codes "reading it isn't permitted"
unread_text Directory = codes "it is a directory"
unread_text TooLarge = codes "it is larger than 16 MB, which no settings file is"
unread_text Failed = codes "a read of it failed"

-- the sentence about a file that can't be read
abbrev pub unread_sentence : List ℕ → Unread → List ℕ
unread_sentence file why = file ++ (codes ": " ++ (unread_text why ++ codes "\n"))

-- each key of a file that no table knows has a warning
abbrev pub IsWarned : (file : List ℕ) → Output → Output → Type 0
IsWarned file errors errors_new = IsToldOf (AreWarnings file) errors errors_new

-- each value of a file that is hardly meant has a warning, where its document says these settings; 20 at most
abbrev pub IsWarnedOfValues : (file : List ℕ) → (document : Members) → Configuration → Output → Output → Type 0
IsWarnedOfValues file document settings errors errors_new =
    IsToldOf (AreDoubts file (take MOST_DOUBTS (doubtful document settings))) errors errors_new

-- a sentence about each fault of the settings in a file of these octets, of which this is the first
pub record AreFaultsExplained (file octets : List ℕ) (document : Members) (first : ServeFault) (text : List ℕ) : Type 0 where
  pub faults : List ServeFault
  pub all : AreAllFaults document first faults
  pub explained : AreSentences file octets faults text

-- ---- scripts

-- why a script ended before its end; for a line its number, the line if it is shown, and what is wrong with it
abbrev pub IsScriptExplained : ScriptFault → Output → Output → Type 0
IsScriptExplained (fault.Line number) errors errors_new =
    (line : List ℕ) × IsToldOf (IsAboutLine number line) errors errors_new
IsScriptExplained fault.Read errors errors_new = IsTold (codes "standard input: a read failed\n") errors errors_new
IsScriptExplained fault.Write errors errors_new = IsTold (codes "standard output: a write failed\n") errors errors_new
IsScriptExplained fault.TooManyReads errors errors_new =
    IsTold (codes "standard input: its end wasn't found in 4194304 reads\n") errors errors_new
IsScriptExplained fault.NoMemory errors errors_new = errors_new ≡ errors

-- the same for a script that may have reached its end, for which nothing is written
abbrev pub IsEndExplained : {A : Type 0} → Result A ScriptFault → Output → Output → Type 0
IsEndExplained (Ok x) errors errors_new = errors_new ≡ errors
IsEndExplained (Err fault) errors errors_new = IsScriptExplained fault errors errors_new

-- ---- labs

-- the sentence about two files whose nodes a lab doesn't join
abbrev pub strangers_sentence : (near far : List ℕ) → List ℕ
strangers_sentence near far =
    near ++ (codes " and " ++ (far ++ codes " don't face each other: docs/MANUAL.md says what that needs\n"))

-- the sentence about a line that isn't one of a lab script
abbrev pub lab_line_sentence : (number : ℕ) → List ℕ
lab_line_sentence number =
    codes "line " ++ (decimal number ++ codes ": not a line of a lab script; docs/MANUAL.md lists them\n")

-- why a lab script ended before its end, if it did: as for another script, except for a line
abbrev pub IsLabEndExplained : Result Unit ScriptFault → Output → Output → Type 0
IsLabEndExplained (Err (fault.Line number)) errors errors_new =
    IsToldOf (λ text. text ≡ lab_line_sentence number) errors errors_new
IsLabEndExplained (Ok x) errors errors_new = errors_new ≡ errors
IsLabEndExplained (Err fault.Read) errors errors_new = IsScriptExplained fault.Read errors errors_new
IsLabEndExplained (Err fault.Write) errors errors_new = IsScriptExplained fault.Write errors errors_new
IsLabEndExplained (Err fault.TooManyReads) errors errors_new = IsScriptExplained fault.TooManyReads errors errors_new
IsLabEndExplained (Err fault.NoMemory) errors errors_new = errors_new ≡ errors
