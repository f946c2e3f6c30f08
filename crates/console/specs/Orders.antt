-- Orders as an operator writes them, with points in the format that he writes.
use Rattle.std.specs.Prelude.{ℕ, Bool, ◌||◌, if◌then◌else◌, List, bytes_eq, codes}
use Rattle.std.specs.Prelude.{Option, None, Some, Result, Ok, Err}
use Rattle.std.specs.Option.{option_map}
use Rattle.std.specs.Result.{result_ok}
use Rattle.settings.specs.Configuration.{Configuration, TitleEntry}
use Rattle.sccp_codec.specs.declared.title.TitleKey.{TitleKey}
use Rattle.settings.specs.Readings.{link_place}
use Rattle.exchange.specs.declared.event.Order.{Order}
use Rattle.exchange.specs.declared.event.Order.TheVariants.{Activate, Deactivate, Release, AddTitle, SetTitle, RemoveTitle}
use Rattle.console.specs.declared.order.OrderText.{OrderText}
use Rattle.console.specs.declared.order.OrderText.TheVariants as text
use Rattle.settings.specs.declared.point.PointFormat.{PointFormat}
use Rattle.console.specs.Words.{first_word, rest_of, second_word, third_word, fourth_word, behind_four}
use Rattle.console.specs.TitleWords.{and_then, if_last, name_written, row_written}
use Rattle.console.specs.declared.title_mistakes.TitleMistake.{TitleMistake}
use Rattle.console.specs.declared.title_mistakes.TitleMistake.TheVariants as title
use Rattle.console.specs.declared.title_words.RowName.{RowName}
use Rattle.console.specs.declared.commands.Command.{Command}
use Rattle.console.specs.declared.commands.Command.TheVariants as command

-- an order; a link goes by a name, which no link need have
pub data Instruction : Type 0 where
  ToActivate : (link : List ℕ) (emergency : Bool) → Instruction
  ToDeactivate : (link : List ℕ) → Instruction
  ToRelease : (link : List ℕ) → Instruction
  ToAddTitle : (row : TitleEntry) → Instruction
  ToSetTitle : (row : TitleEntry) → Instruction
  ToRemoveTitle : (key : TitleKey) (digits : List ℕ) → Instruction

-- the order that has all words of a row
abbrev pub row_order : (verb : List ℕ) → TitleEntry → Instruction
row_order verb row = if bytes_eq verb (codes "set") then ToSetTitle row else ToAddTitle row

-- the order about the row of this name: it is removed, or added or set with the words behind
abbrev pub title_order_about : PointFormat → (verb : List ℕ) → RowName → List (List ℕ) → Result Instruction TitleMistake
title_order_about points verb name behind =
    if bytes_eq verb (codes "remove")
    then if_last behind title.BehindName (ToRemoveTitle name.key name.digits.items)
    else and_then (row_written points name behind) (λ row. Ok (row_order verb row))

abbrev pub is_verb : List ℕ → Bool
is_verb word = bytes_eq word (codes "remove") || bytes_eq word (codes "add") || bytes_eq word (codes "set")

abbrev pub title_order_by : PointFormat → (verb : List ℕ) → List (List ℕ) → Result Instruction TitleMistake
title_order_by points verb ws =
    if is_verb verb
    then and_then (name_written (first_word ws) (second_word ws) (third_word ws) (fourth_word ws)) (λ name.
    title_order_about points verb name (behind_four ws))
    else Err title.Verb

-- the order that the words after `title` give: `add T P N DIGITS` or `set T P N DIGITS` with the words of the rest of
-- the row, or `remove T P N DIGITS`; or else the first mistake in them, from the left
abbrev pub title_order : PointFormat → List (List ℕ) → Result Instruction TitleMistake
title_order points ws = title_order_by points (first_word ws) (rest_of ws)

-- the order that a command gives by more words than one
abbrev pub instructed_by : PointFormat → Command → List (List ℕ) → Option Instruction
instructed_by points command.Title behind = result_ok (title_order points behind)
instructed_by points _ behind = None

abbrev pub instruction : OrderText → Instruction
instruction (text.Activate link emergency) = ToActivate link.now emergency
instruction (text.Deactivate link) = ToDeactivate link.now
instruction (text.Release link) = ToRelease link.now
instruction (text.AddTitle row) = ToAddTitle row
instruction (text.SetTitle row) = ToSetTitle row
instruction (text.RemoveTitle key digits) = ToRemoveTitle key digits.items

abbrev pub instruction_or : Result OrderText TitleMistake → Result Instruction TitleMistake
instruction_or (Ok order) = Ok (instruction order)
instruction_or (Err mistake) = Err mistake

abbrev pub instruction_of : Option OrderText → Option Instruction
instruction_of None = None
instruction_of (Some order) = Some (instruction order)

-- the order to a node with these settings, if a link has that name
abbrev pub order_named : Configuration → Instruction → Option Order
order_named c (ToActivate name emergency) = option_map (λ link. Activate link emergency) (link_place c name)
order_named c (ToDeactivate name) = option_map (λ link. Deactivate link) (link_place c name)
order_named c (ToRelease name) = option_map (λ link. Release link) (link_place c name)
order_named c (ToAddTitle row) = Some (AddTitle row)
order_named c (ToSetTitle row) = Some (SetTitle row)
order_named c (ToRemoveTitle key digits) = Some (RemoveTitle key (record { items = digits }))
