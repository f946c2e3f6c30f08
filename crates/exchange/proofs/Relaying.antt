-- What the table of translation rows answers to an order, and what it leaves, is what the rule does.
use Rattle.exchange.proofs.Basics.{◌≡◌, Option, Some, None, Result, Ok, Err, refl, ap, OnOk, OnErr, IfErr, Bool, true, false, if◌then◌else◌, option_or, TitleEntry, TitlesValue, Cause, NoMemory, Outcome, Refused, with_row, State, with_node, with_parts, Ends, with_titles, add_title_unless, is_memory_refused, handled_or_refused}
use Rattle.std.specs.Prelude.{IsOk}

-- the state with other rows
abbrev pub titled : {Q : Type 0} → State Q → TitlesValue → State Q
titled s titles = with_node s (with_parts s.node (with_titles titles s.node.parts))

-- why a row isn't added, by what was answered
abbrev refusal_by : Option Cause → Outcome → Option Cause
refusal_by refusal outcome = option_or refusal (if is_memory_refused outcome then Some NoMemory else None)

abbrev cause_or : {T : Type 0} → Cause → Result T Cause → Cause
cause_or other (Ok done) = other
cause_or other (Err cause) = cause

pub adding : {T Q : Type 0} (s : State Q) (row : TitleEntry) (refusal : Option Cause) (r : Result T Cause) (new : TitlesValue)
    → OnOk r (new ≡ record s.node.parts.titles { rows = with_row row s.node.parts.titles.rows }) → OnErr r (new ≡ s.node.parts.titles) → ((cause : Cause) → refusal ≡ Some cause → r ≡ Err cause)
    → (refusal ≡ None → IfErr r (λ cause. cause ≡ NoMemory))
    → Ends s (handled_or_refused r) (titled s new) (add_title_unless (refusal_by refusal (handled_or_refused r)) row s.node)
adding s row None (Ok done) new added unchanged refused memory = (refl, ap (titled s) added)
adding s row (Some cause) (Ok done) new added unchanged refused memory = let wrong = refused cause refl in absurd cc
adding s row (Some cause) (Err other) new added unchanged refused memory =
    (ap (λ r. Refused (cause_or other r)) (refused cause refl), ap (titled s) unchanged)
adding s row None (Err other) new added unchanged refused memory =
    let only : other ≡ NoMemory = memory refl in
    rw only (refl, ap (titled s) unchanged)

-- a row that is there is replaced, another is added
pub setting : {T Q : Type 0} (s : State Q) (row : TitleEntry) (there : Bool) (refusal : Option Cause) (r : Result T Cause) (new : TitlesValue)
    → OnOk r (new ≡ record s.node.parts.titles { rows = with_row row s.node.parts.titles.rows }) → OnErr r (new ≡ s.node.parts.titles) → (there ≡ true → IsOk r)
    → ((cause : Cause) → (if there then None else refusal) ≡ Some cause → r ≡ Err cause) → ((if there then None else refusal) ≡ None → IfErr r (λ cause. cause ≡ NoMemory))
    → Ends s (handled_or_refused r) (titled s new) (add_title_unless (if there then None else refusal_by refusal (handled_or_refused r)) row s.node)
setting s row false refusal r new set unchanged replaced refused memory = adding s row refusal r new set unchanged refused memory
setting s row true refusal (Ok done) new set unchanged replaced refused memory = (refl, ap (titled s) set)
setting s row true refusal (Err cause) new set unchanged replaced refused memory = absurd (let wrong : false ≡ true = replaced refl in cc)
