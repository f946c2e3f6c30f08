-- Files that are read one after the other, and the network that their nodes are.
use Rattle.std.proofs.Common.{◌≡◌, ◌⊎◌, ◌∙◌, ◌<◌, ◌+◌, ℕ, List, [], ◌∷◌, ◌++◌, length, take, drop, get_or, Some, refl, sym, ap, subst, inl, inr, string_bytes}
use Rattle.std.specs.Prelude.{String}
use Rattle.std.specs.Global.{Global}
use Rattle.std.proofs.lemmas.List.{length-map, get_or-map, map-append, take_more, drop_more, take-append-drop}
use Rattle.settings.specs.Configuration.{Configuration}
use Rattle.exchange.specs.Calls.{Kept}
use Rattle.lab.specs.Network.{settings_in}
use Rattle.script.specs.Streams.{Input, Output}
use Rattle.program.specs.Words.{Task, NetworkRun, asked, texts}
use Rattle.program.specs.Folders.{FileRead}
use Rattle.program.specs.Program.{Streams, streams, HasNoMemory, RunsJoined, HasNode, HaveSettings, EndsForMemory, EndsAtNode, EndsReading, RunsNetwork}
use Rattle.program.specs.Tasks.{DoesTask, Does}
use Rattle.program.specs.declared.program.Status.{Status}

one-more : (files : List (List ℕ)) (reads : List ℕ → FileRead → Type 0) (nodes : List Configuration) (a b d : Output) (file : List ℕ) (c : Configuration)
    → HaveSettings files reads nodes a b → HasNode file reads c b d → HaveSettings (files ++ file ∷ []) reads (nodes ++ c ∷ []) a d
one-more [] reads [] a b d file c h n = (d, subst (λ (o : Output). HasNode file reads c o d) h n, refl)
one-more [] reads (x ∷ xs) a b d file c h n = absurd h
one-more (f ∷ fs) reads [] a b d file c h n = absurd h
one-more (f ∷ fs) reads (x ∷ xs) a b d file c h n = (h.0, h.1, one-more fs reads xs h.0 b d file c h.2 n)

-- the file in a place, by its name
pub record IsFile (files : List (String Global)) (place : ℕ) (name : List ℕ) : Type 0 where
  pub few : place < length (texts files)
  pub at : get_or (texts files) place name ≡ name

pub is-file : (files : List (String Global)) (place : ℕ) (file : String Global) (name : List ℕ) → place < length files → file ≡ get_or files place file
    → name ≡ string_bytes file → IsFile files place name
is-file files place file name few is named = record {
  few = subst (λ (n : ℕ). place < n) (sym (length-map files (λ (w : String Global). string_bytes w))) few;
  at = rw named (get_or-map (λ (w : String Global). string_bytes w) files place file (string_bytes file) few ∙ ap (λ (w : String Global). string_bytes w) (sym is));
}

pub reads-more : (files : List (String Global)) (place : ℕ) (name : List ℕ) (reads : List ℕ → FileRead → Type 0) (nodes nodes_new : List Kept) (node : Kept) (a b d : Output)
    → IsFile files place name → HaveSettings (take place (texts files)) reads (settings_in nodes) a b → HasNode name reads node.settings b d
    → nodes_new ≡ nodes ++ node ∷ [] → HaveSettings (take (place + 1) (texts files)) reads (settings_in nodes_new) a d
reads-more files place name reads nodes nodes_new node a b d f have has added =
    let front : take (place + 1) (texts files) ≡ take place (texts files) ++ name ∷ [] =
    take_more (texts files) place name f.few ∙ ap (λ (n : List ℕ). take place (texts files) ++ n ∷ []) f.at in
    let all : settings_in nodes_new ≡ settings_in nodes ++ node.settings ∷ [] =
    ap settings_in added ∙ map-append (λ (k : Kept). k.settings) nodes (node ∷ []) in
    rw (front, all) (one-more (take place (texts files)) reads (settings_in nodes) a b d name node.settings have has)

parts : (files : List (List ℕ)) (place : ℕ) → files ≡ take place files ++ drop place files
parts files place = sym (take-append-drop place files)

pub ends-at : (files : List (String Global)) (place : ℕ) (name : List ℕ) (reads : List ℕ → FileRead → Type 0) (nodes : List Kept) (out out_now out_new a b errors : Output) (ended : Status)
    → IsFile files place name → HaveSettings (take place (texts files)) reads (settings_in nodes) a b → out_now ≡ out
    → EndsAtNode name reads out_now out_new b errors ended → EndsReading (texts files) reads out out_new a errors ended
ends-at files place name reads nodes out out_now out_new a b errors ended f have same ends = (
  take place (texts files),
  drop place (texts files),
  parts (texts files) place,
  settings_in nodes,
  b,
  have,
  inl (
    name,
    drop (place + 1) (texts files),
    drop_more (texts files) place name f.few ∙ ap (λ (n : List ℕ). n ∷ drop (place + 1) (texts files)) f.at,
    subst (λ (o : Output). EndsAtNode name reads o out_new b errors ended) same ends,
  ),
)

pub ends-unkept : (files : List (String Global)) (place : ℕ) (name : List ℕ) (reads : List ℕ → FileRead → Type 0) (nodes : List Kept) (node : Kept) (out out_now out_new a b d : Output)
    (ended : Status) → IsFile files place name → HaveSettings (take place (texts files)) reads (settings_in nodes) a b → HasNode name reads node.settings b d → out_now ≡ out
    → EndsForMemory out_now out_new d d ended → EndsReading (texts files) reads out out_new a d ended
ends-unkept files place name reads nodes node out out_now out_new a b d ended f have has same ends = (
  take (place + 1) (texts files),
  drop (place + 1) (texts files),
  parts (texts files) (place + 1),
  settings_in (nodes ++ node ∷ []),
  d,
  reads-more files place name reads nodes (nodes ++ node ∷ []) node a b d f have has refl,
  inr (subst (λ (o : Output). EndsForMemory o out_new d d ended) same ends),
)

-- nodes that begin behind an output that is as it was
pub joined-kept : (nodes lent : List Kept) (files : List (List ℕ)) (input : Input) (output old errors : Output) (new : Streams) (ended : Status) → lent ≡ nodes → output ≡ old
    → RunsJoined files (settings_in lent) (streams input output errors) new ended ⊎ HasNoMemory (streams input output errors) new ended
    → RunsJoined files (settings_in nodes) (streams input old errors) new ended ⊎ HasNoMemory (streams input old errors) new ended
joined-kept nodes lent files input output old errors new ended same e ran =
    subst (λ (o : Output). RunsJoined files (settings_in nodes) (streams input o errors) new ended ⊎ HasNoMemory (streams input o errors) new ended) e
    (subst (λ (ns : List Kept). RunsJoined files (settings_in ns) (streams input output errors) new ended ⊎ HasNoMemory (streams input output errors) new ended) same ran)

-- words that ask for a network
by-task : (task : Task) (files : List (List ℕ)) (reads : List ℕ → FileRead → Type 0) (old new : Streams) (ended : Status)
    → NetworkRun files ≡ task → RunsNetwork files reads old new ended → DoesTask task reads old new ended
by-task task files reads old new ended e ran = rw (← e) ran

pub does-network : (given : List (String Global)) (files : List (List ℕ)) (reads : List ℕ → FileRead → Type 0) (old new : Streams) (ended : Status)
    → Some (NetworkRun files) ≡ Some (asked given) → RunsNetwork files reads old new ended → Does given reads old new ended
does-network given files reads old new ended e ran = inl (by-task (asked given) files reads old new ended (cc e) ran)
