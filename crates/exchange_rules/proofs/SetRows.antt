-- What setting a translation row does: the rows after it, and that it does what removing and adding do.
use Rattle.exchange_rules.proofs.Basics.{◌≡◌, Bool, true, false, if◌then◌else◌, List, Option, Some, None, refl, sym, ap, subst, ◌∙◌}
use Rattle.exchange_rules.proofs.Definitions.{TitleEntry, Cause, TitlesValue, has_row, without_row, Node, Done, with_parts, answer, refuse, with_rows, add_title, add_title_unless, title_refusal, handle_event, Happening, TitleSet, Abstract, WholeQueues, whole, apply}
use Rattle.signalling_types.specs.declared.cause.Cause.TheVariants.{NoSuchName}
use Rattle.signalling_types.specs.declared.outcome.Outcome.TheVariants.{Handled}
use Rattle.sccp_relay.specs.Rows.{IsOrdered, row_place, with_row}
use Rattle.sccp_relay.proofs.OtherRows.{added, stands}
use Rattle.sccp_relay.proofs.SetRows.{set-count, set-leads, set-removed}
use Rattle.exchange_rules.specs.Exchange.{outcome_of}
use Rattle.exchange_rules.specs.Messages.{title_set_refusal}
use Rattle.exchange_rules.specs.LawsOfSettingRows.{IsSet, others_are_added, rows_that_are_there_are_replaced, set_rows_lead, setting_removes_and_adds}
use Rattle.exchange_rules.proofs.KeptTitles.{after-same}

outcome-same : (what : Happening) (a : Abstract) → outcome_of whole what a ≡ (handle_event whole a.settings what a.node).outcome
unfolding apply
outcome-same what a = refl

-- ---- a row that was not refused

-- the node with the row
abbrev with_this : TitleEntry → Node WholeQueues → Node WholeQueues
with_this row n = with_parts n (with_rows (with_row row n.parts.titles.rows) n.parts)

unrefused : (refusal : Option Cause) (row : TitleEntry) (n : Node WholeQueues) → (add_title_unless refusal row n).outcome ≡ Handled → add_title_unless refusal row n ≡ answer Handled (with_this row n)
unrefused None row n e = refl
unrefused (Some cause) row n e = absurd cc

-- ---- the rows after it

is-set : (row : TitleEntry) (rows : List TitleEntry) → IsOrdered rows → IsSet row rows (with_row row rows)
is-set row rows h = record {
  leads = set-leads row rows h;
  own = stands row rows;
  others = λ place apart. added place row rows apart;
  count = set-count row rows h;
}

pub rows-lead : set_rows_lead
rows-lead row lacking a h e =
    let refusal = title_set_refusal a.node.parts.titles.rows row lacking in
    let done = unrefused refusal row a.node (sym (outcome-same (TitleSet row lacking) a) ∙ e) in
    subst (IsSet row a.node.parts.titles.rows)
    (sym (ap (λ (t : TitlesValue). t.rows) (after-same a.settings (TitleSet row lacking) a.node) ∙ ap (λ (d : Done WholeQueues). d.left.parts.titles.rows) done))
    (is-set row a.node.parts.titles.rows h)

-- ---- which are set

pub replaced : rows_that_are_there_are_replaced
replaced row lacking a there =
    outcome-same (TitleSet row lacking) a
    ∙ ap (λ (b : Bool). (add_title_unless (if b then None else title_refusal a.node.parts.titles.rows row lacking) row a.node).outcome) there

pub others-added : others_are_added
others-added c row lacking n none =
    ap (λ (b : Bool). add_title_unless (if b then None else title_refusal n.parts.titles.rows row lacking) row n) none

-- ---- one event for two

-- what removing the row leaves, by whether it is there
abbrev removed_if : Bool → TitleEntry → Node WholeQueues → Done WholeQueues
removed_if there row n =
    if there then answer Handled (with_parts n (with_rows (without_row (row_place row) n.parts.titles.rows) n.parts)) else refuse NoSuchName n

for-two : (there : Bool) (row : TitleEntry) (lacking : Bool) (n : Node WholeQueues) → (removed_if there row n).outcome ≡ Handled → (add_title row lacking (removed_if there row n).left).outcome ≡ Handled
    → add_title_unless (if there then None else title_refusal n.parts.titles.rows row lacking) row n ≡ add_title row lacking (removed_if there row n).left
for-two false row lacking n e f = absurd cc
for-two true row lacking n e f =
    let left : Node WholeQueues = (removed_if true row n).left in
    ap (λ (rows : List TitleEntry). answer Handled (with_parts n (with_rows rows n.parts))) (sym (set-removed row n.parts.titles.rows))
    ∙ sym (unrefused (title_refusal left.parts.titles.rows row lacking) row left f)

pub removes-and-adds : setting_removes_and_adds
removes-and-adds c row lacking n e f = for-two (has_row n.parts.titles.rows (row_place row)) row lacking n e f
