-- What a script prints, and the state that it leaves, line by line, for queues of any kind.
use Rattle.std.specs.Option.{option_to_list}
use Rattle.std.specs.Prelude.{◌≡◌, ℕ, Bool, false, ◌≤◌, ◌+◌, if◌then◌else◌, nat_lt, List, [], ◌∷◌}
use Rattle.std.specs.Prelude.{◌++◌, length, ◌⊎◌, Option, Some, None, Result, Ok, Err}
use Rattle.std.specs.Io.KnownBytes.{Appends, Consumes, IsAtEnd}
use Rattle.exchange_rules.specs.State.{QueueKind, State}
use Rattle.script.specs.Streams.{AppendsFirst, AppendsAtLeast}
use Rattle.script.specs.Lines.{lines}
use Rattle.script.specs.Texts.{line_fault}
use Rattle.script.specs.Asking.{Reading, Skips, IsMalformed, Asks, parsed_line}
use Rattle.settings.specs.declared.point.PointFormat.TheVariants.{Plain}
use Rattle.script.specs.Doing.{printed, done}
use Rattle.script.specs.declared.fault.TheConstants.{LINE_OCTETS, READS}
use Rattle.script.specs.declared.fault.ScriptFault.{ScriptFault}
use Rattle.script.specs.declared.fault.ScriptFault.TheVariants.{Read, Write, Line, TooManyReads, NoMemory}

-- where lines lead: what they print, the state after them, and the number of the line that ended the script, if one did
pub record Reached (Q : Type 0) : Type 0 where
  pub text : List ℕ
  pub state : State Q
  pub fault : Option ℕ

-- nothing is printed
abbrev pub silent : {Q : Type 0} → State Q → Reached Q
silent s = record { text = []; state = s; fault = None }

-- this line ends the script: nothing of it is done
abbrev pub stopped : {Q : Type 0} → ℕ → State Q → Reached Q
stopped number s = record { text = line_fault number; state = s; fault = Some number }

-- what a line that has its line feed is read as, with points as numbers; one of more than 8,300 octets (LINE_OCTETS) is
-- malformed
abbrev pub whole_line : List ℕ → Reading
whole_line line = if nat_lt LINE_OCTETS (length line) then IsMalformed else parsed_line Plain line

-- what such a line prints, and the state after it; memory may be refused for a translation row that it adds
abbrev pub line_run : {Q : Type 0} → QueueKind Q → ℕ → (lacks_memory : Bool) → Reading → State Q → Reached Q
line_run q number lacks_memory Skips s = silent s
line_run q number lacks_memory IsMalformed s = stopped number s
line_run q number lacks_memory (Asks asked) s =
    record { text = printed q lacks_memory asked s; state = done q lacks_memory asked s; fault = None }

-- a line that has no line feed yet ends the script if it has more than this many octets
abbrev pub open_run : {Q : Type 0} → (most : ℕ) → ℕ → List ℕ → State Q → Reached Q
open_run most number line s = (if nat_lt most (length line) then stopped number s else silent s)

-- a text before what is printed
abbrev pub onto : {Q : Type 0} → List ℕ → Reached Q → Reached Q
onto text r = record r { text = text ++ r.text }

-- what comes after, unless a line ended the script
abbrev pub unless_ended : {Q : Type 0} → Option ℕ → Reached Q → (State Q → Reached Q) → Reached Q
unless_ended None r next = onto r.text (next r.state)
unless_ended (Some number) r next = r

abbrev pub behind : {Q : Type 0} → Reached Q → (State Q → Reached Q) → Reached Q
behind r next = unless_ended r.fault r next

-- for lines in a row, whether memory is refused at the first of them, and at the later ones; at none once the list ends
abbrev pub first_of : List Bool → Bool
first_of [] = false
first_of (refused ∷ later) = refused

abbrev pub behind_first : List Bool → List Bool
behind_first [] = []
behind_first (refused ∷ later) = later

-- lines in a row from the one of this number on, of which the last has no line feed
abbrev pub lines_run : {Q : Type 0} → QueueKind Q → (most : ℕ) → ℕ → (refused : List Bool) → List (List ℕ) → State Q
    → Reached Q
lines_run q most number refused [] s = silent s
lines_run q most number refused (line ∷ []) s = open_run most number line s
lines_run q most number refused (line ∷ next ∷ more) s =
    behind (line_run q number (first_of refused) (whole_line line) s)
    (λ t. lines_run q most (number + 1) (behind_first refused) (next ∷ more) t)

-- a script as far as it was read: what was read of its last line may be the beginning of one
abbrev pub run_so_far : {Q : Type 0} → QueueKind Q → (refused : List Bool) → List ℕ → State Q → Reached Q
run_so_far q refused octets s = lines_run q LINE_OCTETS 1 refused (lines octets) s

-- a whole script: nothing follows its last line feed
abbrev pub whole_run : {Q : Type 0} → QueueKind Q → (refused : List Bool) → List ℕ → State Q → Reached Q
whole_run q refused octets s = lines_run q 0 1 refused (lines octets) s

-- where these octets lead, in a script of which this many more were read; its end counts if nothing is left to be read
abbrev pub LeadsTo : {Q : Type 0} → QueueKind Q → (refused : List Bool) → (octets more : List ℕ)
    → (left : Option (List ℕ)) → State Q → Reached Q → Type 0
LeadsTo q refused octets more left s r =
    (r ≡ run_so_far q refused octets s) ⊎ ((more ≡ []) × IsAtEnd left × (r ≡ whole_run q refused octets s))

-- What was done of lines that lead there: all of it, and what they print was written; or a write failed, and the first
-- octets of what they print were written.
abbrev pub Does : {Q : Type 0} → Reached Q → Result Unit ScriptFault → (after : State Q)
    → (written written_new : Option (List ℕ)) → Type 0
Does r (Ok x) after written written_new = (r.fault ≡ None) × (r.state ≡ after) × Appends written written_new r.text
Does r (Err (Line number)) after written written_new =
    (r.fault ≡ Some number) × (r.state ≡ after) × Appends written written_new r.text
Does r (Err Write) after written written_new = (r.state ≡ after) × AppendsFirst written written_new r.text
Does r (Err other) after written written_new = ⊥

-- at least this many octets were read, and the whole lines of all of them were done
abbrev pub RunsSoFar : {Q : Type 0} → QueueKind Q → (refused : List Bool) → (least : ℕ) → (before after : State Q)
    → (left left_new written written_new : Option (List ℕ)) → Type 0
RunsSoFar q refused least before after left left_new written written_new =
    (octets : List ℕ) × (least ≤ length octets) × Consumes left left_new octets
    × Does (run_so_far q refused octets before) (Ok tt) after written written_new

-- what a run of a script did, if memory was refused at these of its lines
abbrev pub RunsBy : {Q : Type 0} → QueueKind Q → (refused : List Bool) → Result Unit ScriptFault
    → (before after : State Q) → (left left_new written written_new : Option (List ℕ)) → Type 0
RunsBy q refused (Ok x) before after left left_new written written_new =
    (octets : List ℕ) × Consumes left left_new octets × IsAtEnd left_new
    × Does (whole_run q refused octets before) (Ok x) after written written_new
RunsBy {Q = Q} q refused (Err (Line number)) before after left left_new written written_new =
    (octets : List ℕ) × Consumes left left_new octets
    × (r : Reached Q) × LeadsTo q refused octets [] left_new before r
    × Does r (Err (Line number)) after written written_new
RunsBy {Q = Q} q refused (Err Write) before after left left_new written written_new =
    (front : List ℕ) × (last : Option ℕ) × (more : List ℕ)
    × Consumes left left_new (front ++ (option_to_list last ++ more))
    × (r : Reached Q) × LeadsTo q refused (front ++ option_to_list last) more left_new before r × (r.state ≡ after)
    × AppendsAtLeast (length (run_so_far q refused front before).text) written written_new r.text
RunsBy q refused (Err Read) before after left left_new written written_new =
    RunsSoFar q refused 0 before after left left_new written written_new
RunsBy q refused (Err TooManyReads) before after left left_new written written_new =
    RunsSoFar q refused READS before after left left_new written written_new
RunsBy q refused (Err NoMemory) before after left left_new written written_new = ⊥

-- What a run of a script did, from one state to another. On Ok the octets that were read are the whole script, and it
-- was done. On Line they hold a malformed line with its line feed, or more of a line than it may have, or they end in
-- the middle of a line and nothing is left to be read; the lines before that one were done. On Write the first of these
-- octets lead to the state: all that `front` prints went out, and the beginning of what the next octet adds, an outcome
-- or a fault, or of the fault at the script's end. On Read and TooManyReads their whole lines were done, and after
-- TooManyReads they are no fewer than the reads (READS). Whether memory was refused for a translation row that a line
-- adds is a choice, and the line that is printed says it.
abbrev pub Runs : {Q : Type 0} → QueueKind Q → Result Unit ScriptFault → (before after : State Q)
    → (left left_new written written_new : Option (List ℕ)) → Type 0
Runs q result before after left left_new written written_new =
    (refused : List Bool) × RunsBy q refused result before after left left_new written written_new
