-- What the program's command line makes of words.
use Rattle.std.proofs.Common.{◌≡◌, ◌∙◌, inl, inr, ℕ, Bool, true, false, not, nat_eq, refl, sym, ap, ap₂, true≢false, List, [], ◌∷◌, Option, Some, None, is_some, codes, subst}
use Rattle.std.specs.Prelude.{◌≢◌, Box, Result, Ok, Err, IfOk, IfErr, option_map, unwrap_or, String}
use Rattle.std.specs.Global.{Global}
use Rattle.std.specs.List.{list_all}
use Rattle.std.specs.Str.{bytes_eq}
use Rattle.std.proofs.lemmas.Bool.{not-true}
use Rattle.std.proofs.lemmas.Slice.Eq.{bytes_eq-Decides}
use Rattle.clap.specs.Words.{App, HasMatchesOf, Row, Shape, Text, built, first_of, new_app, new_rule, with_rule, subcommand_of, fault_of, is_simple, is_simple_and_free, kind_of, subcommand_name_of, subcommand_rows, subcommand_rows_of}
use Rattle.clap.specs.Kinds.{FailsBy, HasKind, Kinds, or_else}
use Rattle.clap.specs.Faults.{check_fault, defaults_fault, entered_fault, level_fault, settle_fault, walk_fault}
use Rattle.clap.specs.Simple.{built_leaf, entered, inherited, names_of}
use Rattle.clap.specs.Walk.{Names, Rule, Walk, finished, nothing_held, rows_after, settled, walk, walk_from}
use Rattle.std.specs.Box.{box_value}
use Rattle.clap.specs.declared.parser.matches.ArgMatches.{ArgMatches}
use Rattle.clap.specs.declared.parser.matches.ArgMatches.TheViews.{out-ArgMatches, out-SubCommand}
use Rattle.clap.specs.declared.parser.matches.SubCommand.{SubCommand}
use Rattle.clap.specs.declared.error.Error.{Error}
use Rattle.clap.specs.declared.error.kind.ErrorKind.{ErrorKind}
use Rattle.clap.specs.declared.error.kind.ErrorKind.TheVariants as kind
use Rattle.clap.proofs.FaultLemmas.{stopped_fault}
use Rattle.clap.proofs.OnLiterals.{clap_on_literals}
use Rattle.clap.proofs.WalkLemmas.{both, walk_stopped}
use Rattle.program.proofs.Asked.{unasked-more, unlike, others-asked, plain-texts}
use Rattle.program.specs.Grammar.{stp, run, check, lab, lab_udp, near_rule, far_rule, serve}
use Rattle.program.specs.Words.{asked_by, asked_with, asked_by_command, takes_two, found, is_plain, are_plain, texts, OtherWords}

pub simple : is_simple stp ≡ true
unfolding clap_on_literals
simple = refl

pub free : is_simple_and_free stp ≡ true
unfolding clap_on_literals
free = refl

-- words are taken and read as the task that they ask for, or they are refused and are other words
pub data IsParsed (words : List Text) : Type 0 where
  Taken : fault_of stp words ≡ [] → found (subcommand_of stp words) ≡ asked_by words → IsParsed words
  Refused : (fault_of stp words ≡ [] → ⊥) → asked_by words ≡ OtherWords → IsParsed words

-- ---- the command's name

abbrev rules : List Rule
rules = (built stp).top.rules

abbrev names : Names
names = names_of (built stp)

abbrev faults : Walk → Kinds → Kinds
faults w first = or_else first (or_else (entered_fault (built stp) w.stopped) (or_else (settle_fault rules false w.held)
    (or_else (defaults_fault (settled rules w.held).rows rules)
    (check_fault (built stp).top (finished rules w.held) (is_some (entered (built stp) w.stopped))))))

or_else-none : (kinds : Kinds) → or_else kinds [] ≡ kinds
or_else-none [] = refl
or_else-none (k ∷ kinds) = refl

abbrev entry : App → Shape
entry command = built_leaf (inherited (built stp).top command.top)

-- a command's words are left to it
record IsCommand (name : Text) (shape : Shape) : Type 0 where
  fault : (words : List Text) → fault_of stp (name ∷ words) ≡ level_fault shape [] nothing_held words false []
  rows : (words : List Text) → subcommand_of stp (name ∷ words) ≡ Some (name, rows_after shape.rules [] words)

-- the walk stops at its name, and enters it
is_command : (name : Text) (shape : Shape)
    → ((words : List Text) → walk rules names nothing_held (name ∷ words) ≡ record (walk_from nothing_held) { stopped = Some (name, words) })
    → ((words : List Text) → walk_fault (built stp).top names (walk_from nothing_held) (name ∷ words) ≡ [])
    → ((words : List Text) → faults (record (walk_from nothing_held) { stopped = Some (name, words) }) [] ≡ or_else (level_fault shape [] nothing_held words false []) [])
    → ((words : List Text) → entered (built stp) (Some (name, words)) ≡ Some (name, rows_after shape.rules [] words))
    → IsCommand name shape
is_command name shape stops first fault rows = record {
  fault = λ words. ap₂ faults (stops words) (first words) ∙ fault words ∙ or_else-none _;
  rows = λ words. ap (λ (w : Walk). entered (built stp) w.stopped) (stops words) ∙ rows words;
}

run-command : IsCommand (codes "run") (entry run)
unfolding clap_on_literals
run-command = is_command _ _ (λ words. sym (walk_stopped rules names (walk_from nothing_held) (codes "run") [] words))
    (stopped_fault (built stp).top names (walk_from nothing_held) (codes "run", [])) (λ words. refl) (λ words. refl)

check-command : IsCommand (codes "check") (entry check)
unfolding clap_on_literals
check-command = is_command _ _ (λ words. sym (walk_stopped rules names (walk_from nothing_held) (codes "check") [] words))
    (stopped_fault (built stp).top names (walk_from nothing_held) (codes "check", [])) (λ words. refl) (λ words. refl)

serve-command : IsCommand (codes "serve") (entry serve)
unfolding clap_on_literals
serve-command = is_command _ _ (λ words. sym (walk_stopped rules names (walk_from nothing_held) (codes "serve") [] words))
    (stopped_fault (built stp).top names (walk_from nothing_held) (codes "serve", [])) (λ words. refl) (λ words. refl)

lab-command : IsCommand (codes "lab") (entry lab)
unfolding clap_on_literals
lab-command = is_command _ _ (λ words. sym (walk_stopped rules names (walk_from nothing_held) (codes "lab") [] words))
    (stopped_fault (built stp).top names (walk_from nothing_held) (codes "lab", [])) (λ words. refl) (λ words. refl)

lab_udp-command : IsCommand (codes "lab-udp") (entry lab_udp)
unfolding clap_on_literals
lab_udp-command = is_command _ _ (λ words. sym (walk_stopped rules names (walk_from nothing_held) (codes "lab-udp") [] words))
    (stopped_fault (built stp).top names (walk_from nothing_held) (codes "lab-udp", [])) (λ words. refl) (λ words. refl)

-- ---- the words after it

plain-first : (x : ℕ) → not (nat_eq x 45) ≡ true → nat_eq x 45 ≡ false
plain-first x e = not-true (nat_eq x 45) e

not-nil : (k : ErrorKind) (ks kinds : Kinds) → kinds ≡ k ∷ ks → kinds ≡ [] → ⊥
not-nil k ks kinds e none = let gone = sym none ∙ e in absurd cc

no-words : IsParsed []
unfolding clap_on_literals
no-words = Refused (not-nil kind.MissingSubcommand [] _ refl) refl

run-alone : IsParsed (codes "run" ∷ [])
unfolding clap_on_literals
run-alone = Taken (run-command.fault []) (ap found (run-command.rows []))

-- the command of this name that takes a file, and may need one
abbrev taking : Text → Bool → Shape
taking name needs = entry (with_rule (new_app name) (record (new_rule (codes "file")) { required = needs }))

without-file : (name : Text) → IsCommand name (taking name true) → asked_by (name ∷ []) ≡ OtherWords → IsParsed (name ∷ [])
unfolding clap_on_literals
without-file name c none = Refused (not-nil kind.MissingRequiredArgument [] _ (c.fault [])) none

file-taken : (name : Text) (needs : Bool) (x : ℕ) (xs : Text) → nat_eq x 45 ≡ false
    → (level_fault (taking name needs) [] nothing_held ((x ∷ xs) ∷ []) false [] ≡ [])
    × (first_of (codes "file") (rows_after (taking name needs).rules [] ((x ∷ xs) ∷ [])) ≡ Some (x ∷ xs))
unfolding clap_on_literals
file-taken name true x xs plain = rw (plain, plain) (refl, refl)
file-taken name false x xs plain = rw (plain, plain) (refl, refl)

more-refused : (name : Text) (needs : Bool) (x y : ℕ) (xs ys : Text) (more : List Text) → nat_eq x 45 ≡ false → nat_eq y 45 ≡ false
    → level_fault (taking name needs) [] nothing_held ((x ∷ xs) ∷ (y ∷ ys) ∷ more) false [] ≡ kind.UnknownArgument ∷ []
unfolding clap_on_literals
more-refused name true x y xs ys more plain plain-2 = rw (plain, plain, plain-2, plain-2) refl
more-refused name false x y xs ys more plain plain-2 = rw (plain, plain, plain-2, plain-2) refl

found-other : (command : Text) (rows : List Row) → bytes_eq command (codes "lab") ≡ false → bytes_eq command (codes "lab-udp") ≡ false
    → found (Some (command, rows)) ≡ asked_by_command command (first_of (codes "file") rows)
found-other command rows e f = rw (e, f) refl

on-file : (name : Text) (needs : Bool) → IsCommand name (taking name needs) → bytes_eq name (codes "lab") ≡ false → bytes_eq name (codes "lab-udp") ≡ false
    → IsParsed (name ∷ [])
    → (words : List Text) → list_all is_plain words ≡ true → IsParsed (name ∷ words)
on-file name needs c not-lab not-udp alone [] e = alone
on-file name needs c not-lab not-udp alone ([] ∷ more) e = absurd (true≢false (sym e))
on-file name needs c not-lab not-udp alone ((x ∷ xs) ∷ []) e =
    let plain = plain-first x (both _ _ e).0 in
    let taken = file-taken name needs x xs plain in
    let words : List Text = (x ∷ xs) ∷ [] in
    Taken (c.fault words ∙ taken.0)
    (ap found (c.rows words) ∙ found-other name (rows_after (taking name needs).rules [] words) not-lab not-udp ∙ ap (asked_by_command name) taken.1 ∙ rw plain refl)
on-file name needs c not-lab not-udp alone ((x ∷ xs) ∷ [] ∷ more) e = absurd (true≢false (sym (both _ _ e).1))
on-file name needs c not-lab not-udp alone ((x ∷ xs) ∷ (y ∷ ys) ∷ more) e =
    let plain = plain-first x (both _ _ e).0 in
    let plain-2 = plain-first y (both _ _ (both _ _ e).1).0 in
    Refused (not-nil _ _ _ (c.fault _ ∙ more-refused name needs x y xs ys more plain plain-2)) (unasked-more name (x ∷ xs) (y ∷ ys) more not-lab not-udp)

-- the command of this name that takes two files
abbrev pairing : Text → Shape
pairing name = entry (with_rule (with_rule (new_app name) near_rule) far_rule)

-- a name with which such a command alone is asked for
record IsLab (name : Text) : Type 0 where
  command : IsCommand name (pairing name)
  takes : takes_two name ≡ true
  alone : asked_by (name ∷ []) ≡ OtherWords
  with_file : (file : Text) → asked_with name file ≡ OtherWords

lab-alone : (name : Text) → IsLab name → IsParsed (name ∷ [])
unfolding clap_on_literals
lab-alone name l = Refused (not-nil kind.MissingRequiredArgument [] _ (l.command.fault [])) l.alone

lab-file : (name : Text) (x : ℕ) (xs : Text) → nat_eq x 45 ≡ false → level_fault (pairing name) [] nothing_held ((x ∷ xs) ∷ []) false [] ≡ kind.MissingRequiredArgument ∷ []
unfolding clap_on_literals
lab-file name x xs plain = rw (plain, plain) refl

lab-files : (name : Text) (x y : ℕ) (xs ys : Text) → takes_two name ≡ true → nat_eq x 45 ≡ false → nat_eq y 45 ≡ false
    → (level_fault (pairing name) [] nothing_held ((x ∷ xs) ∷ (y ∷ ys) ∷ []) false [] ≡ [])
    × (found (Some (name, rows_after (pairing name).rules [] ((x ∷ xs) ∷ (y ∷ ys) ∷ []))) ≡ asked_by (name ∷ (x ∷ xs) ∷ (y ∷ ys) ∷ []))
unfolding clap_on_literals
lab-files name x y xs ys takes plain plain-2 = rw (plain, plain, plain-2, plain-2, takes) (refl, refl)

lab-more : (name : Text) (x y z : ℕ) (xs ys zs : Text) (more : List Text) → nat_eq x 45 ≡ false → nat_eq y 45 ≡ false → nat_eq z 45 ≡ false
    → level_fault (pairing name) [] nothing_held ((x ∷ xs) ∷ (y ∷ ys) ∷ (z ∷ zs) ∷ more) false [] ≡ kind.UnknownArgument ∷ []
unfolding clap_on_literals
lab-more name x y z xs ys zs more plain plain-2 plain-3 = rw (plain, plain, plain-2, plain-2, plain-3, plain-3) refl

on-lab : (name : Text) → IsLab name → (words : List Text) → list_all is_plain words ≡ true → IsParsed (name ∷ words)
on-lab name l [] e = lab-alone name l
on-lab name l ([] ∷ more) e = absurd (true≢false (sym e))
on-lab name l ((x ∷ xs) ∷ []) e =
    let plain = plain-first x (both _ _ e).0 in
    Refused (not-nil _ _ _ (l.command.fault _ ∙ lab-file name x xs plain)) (rw plain (l.with_file (x ∷ xs)))
on-lab name l ((x ∷ xs) ∷ [] ∷ more) e = absurd (true≢false (sym (both _ _ e).1))
on-lab name l ((x ∷ xs) ∷ (y ∷ ys) ∷ []) e =
    let taken = lab-files name x y xs ys l.takes (plain-first x (both _ _ e).0) (plain-first y (both _ _ (both _ _ e).1).0) in
    Taken (l.command.fault _ ∙ taken.0) (ap found (l.command.rows ((x ∷ xs) ∷ (y ∷ ys) ∷ [])) ∙ taken.1)
on-lab name l ((x ∷ xs) ∷ (y ∷ ys) ∷ [] ∷ more) e = absurd (true≢false (sym (both _ _ (both _ _ e).1).1))
on-lab name l ((x ∷ xs) ∷ (y ∷ ys) ∷ (z ∷ zs) ∷ more) e =
    let plain = plain-first x (both _ _ e).0 in
    let plain-2 = plain-first y (both _ _ (both _ _ e).1).0 in
    let plain-3 = plain-first z (both _ _ (both _ _ (both _ _ e).1).1).0 in
    Refused (not-nil _ _ _ (l.command.fault _ ∙ lab-more name x y z xs ys zs more plain plain-2 plain-3)) refl

stream-lab : IsLab (codes "lab")
stream-lab = record { command = lab-command; takes = refl; alone = refl; with_file = λ file. refl }

datagram-lab : IsLab (codes "lab-udp")
datagram-lab = record { command = lab_udp-command; takes = refl; alone = refl; with_file = λ file. refl }

-- ---- all words

-- a first word that names no command
other : (x : ℕ) (xs : Text) (rest : List Text) → nat_eq x 45 ≡ false → bytes_eq (codes "run") (x ∷ xs) ≡ false → bytes_eq (codes "check") (x ∷ xs) ≡ false
    → bytes_eq (codes "lab") (x ∷ xs) ≡ false → bytes_eq (codes "lab-udp") (x ∷ xs) ≡ false → bytes_eq (codes "serve") (x ∷ xs) ≡ false
    → fault_of stp ((x ∷ xs) ∷ rest) ≡ kind.UnknownArgument ∷ kind.InvalidSubcommand ∷ []
unfolding clap_on_literals
other x xs rest plain not-run not-check not-lab not-udp not-serve = rw (not-run, not-check, not-lab, not-udp, not-serve, plain, plain) refl

-- the first word is this one, or another
first-word : (name word : Text) (rest : List Text) → IsParsed (name ∷ rest) → (bytes_eq word name ≡ false → IsParsed (word ∷ rest)) → IsParsed (word ∷ rest)
first-word name word rest named unnamed = either (bytes_eq word name) refl
  where
    either : (t : Bool) → bytes_eq word name ≡ t → IsParsed (word ∷ rest)
    either true is = subst (λ (w : Text). IsParsed (w ∷ rest)) (sym ((bytes_eq-Decides word name).0 is)) named
    either false is = unnamed is

pub judged : (words : List Text) → list_all is_plain words ≡ true → IsParsed words
judged [] e = no-words
judged ([] ∷ rest) e = absurd (true≢false (sym e))
judged ((x ∷ xs) ∷ rest) e =
    let word : Text = x ∷ xs in
    let plain = plain-first x (both _ _ e).0 in
    let all = (both (is_plain word) (list_all is_plain rest) e).1 in
    first-word (codes "run") word rest (on-file (codes "run") false run-command refl refl run-alone rest all) (λ not-run.
    first-word (codes "check") word rest (on-file (codes "check") true check-command refl refl (without-file _ check-command refl) rest all) (λ not-check.
    first-word (codes "lab") word rest (on-lab (codes "lab") stream-lab rest all) (λ not-lab.
    first-word (codes "lab-udp") word rest (on-lab (codes "lab-udp") datagram-lab rest all) (λ not-udp.
    first-word (codes "serve") word rest (on-file (codes "serve") true serve-command refl refl (without-file _ serve-command refl) rest all) (λ not-serve.
    Refused (not-nil _ _ _ (other x xs rest plain (unlike word (codes "run") not-run) (unlike word (codes "check") not-check) (unlike word (codes "lab") not-lab) (unlike word (codes "lab-udp") not-udp) (unlike word (codes "serve") not-serve)))
    (others-asked word rest not-run not-check not-lab not-udp not-serve))))))

-- ---- what a parse gives

pub taken : (words : List Text) → list_all is_plain words ≡ true → fault_of stp words ≡ [] → found (subcommand_of stp words) ≡ asked_by words
taken words e none = elim (judged words e) [
  | Taken f is ↦ is
  | Refused f is ↦ absurd (f none)
]

pub refused : (words : List Text) (k : Error) → list_all is_plain words ≡ true → HasKind (fault_of stp words) k → kind_of k ≢ kind.OutOfMemory
    → asked_by words ≡ OtherWords
refused words k e has not-memory = elim (judged words e) [
  | Taken f is ↦ absurd (no-kind (subst (λ kinds. HasKind kinds k) f has))
  | Refused f is ↦ is
]
  where
    no-kind : HasKind [] k → ⊥
    no-kind (inl memory) = not-memory memory
    no-kind (inr none) = none

pub parse-taken : (command : App) (words : List (String Global)) (r : Result ArgMatches Error) → command ≡ stp → are_plain words ≡ true
    → FailsBy (fault_of command (texts words)) r → IfOk r (HasMatchesOf command (texts words))
    → IfOk r (λ m. found (subcommand_rows_of m) ≡ asked_by (texts words))
parse-taken command words (Ok m) is plain fails has =
    ap found ((has (ap is_simple is ∙ simple)).1 ∙ ap (λ (a : App). subcommand_of a (texts words)) is)
    ∙ taken (texts words) (sym (plain-texts words) ∙ plain) (ap (λ (a : App). fault_of a (texts words)) (sym is) ∙ fails)
parse-taken command words (Err e) is plain fails has = tt

pub parse-refused : (command : App) (words : List (String Global)) (r : Result ArgMatches Error) → command ≡ stp → are_plain words ≡ true
    → FailsBy (fault_of command (texts words)) r → IfErr r (λ e. kind_of e ≢ kind.OutOfMemory → asked_by (texts words) ≡ OtherWords)
parse-refused command words (Ok m) is plain fails = tt
parse-refused command words (Err e) is plain fails = λ not-memory. refused (texts words) e (sym (plain-texts words) ∙ plain)
    (subst (λ (a : App). HasKind (fault_of a (texts words)) e) is fails) not-memory

-- ---- what is read of it

same-rows : {Z : Type 0} (found : Option (Box SubCommand Z)) (name : Text) (rows : List Row)
    → Some name ≡ option_map (λ b. (out-SubCommand (box_value b)).name.now) found
    → Some rows ≡ option_map (λ p. p.1) (subcommand_rows found) → subcommand_rows found ≡ Some (name, rows)
same-rows None name rows named are = absurd (true≢false (ap is_some named))
same-rows (Some b) name rows named are =
    sym (ap₂ (λ (n : Text) (r : List Row). Some (n, r)) (ap (λ o. unwrap_or o name) named) (ap (λ o. unwrap_or o rows) are))

-- the rows of the subcommand that was met, by its name and its matches
pub rows-are : (m : ArgMatches) (name : Text) (rows : List Row) → Some name ≡ subcommand_name_of m
    → Some rows ≡ option_map (λ p. p.1) (subcommand_rows_of m) → subcommand_rows_of m ≡ Some (name, rows)
rows-are m name rows named are = same-rows (out-ArgMatches m).subcommand name rows named are
