-- Answers that nobody awaits are ignored.
use Rattle.exchange_rules.proofs.Basics.{◌≡◌, ℕ, Bool, true, false, not, Option, Some, None, refl, if◌then◌else◌}
use Rattle.exchange_rules.proofs.Definitions.{Configuration, TrafficRestartAllowed, ExtendedChangeoverOrder, ExtendedChangeoverAcknowledgement, EmergencyChangeoverOrder, EmergencyChangeoverAcknowledgement, ChangebackDeclaration, ChangebackAcknowledgement, TransferProhibited, TransferRestricted, TransferAllowed, RouteSetTestProhibited, RouteSetTestRestricted, UserPartUnavailable, set_place, link_with_code, do_acknowledgement, Node, Done, answer, Handled, Ignored, changeover_of, with_changeover_acknowledged, complete_if, with_parts, freed, is_outstanding, on_changeback_acknowledgement, WholeQueues, whole}
use Rattle.exchange_rules.specs.LawsOfCauses.{is_code_unasked, is_order_unasked, unasked_answers_are_ignored}

unasked-by : (awaited : Bool) (d e : Done WholeQueues) → not awaited ≡ true → (if awaited then d else e) ≡ e
unasked-by true d e f = absurd cc
unasked-by false d e f = refl

order-ignored : (c : Configuration) (link number : Option ℕ) (n : Node WholeQueues) → is_order_unasked n.parts link ≡ true
    → do_acknowledgement whole c link number n ≡ answer Ignored n
order-ignored c (Some link) number n e =
    unasked-by (changeover_of n.parts link).awaited
    (answer Handled (complete_if whole c (changeover_of n.parts link).incomplete link number (with_parts n (with_changeover_acknowledged link n.parts))))
    (answer Ignored n) e
order-ignored c None number n e = absurd cc

code-ignored : (c : Configuration) (set : Option ℕ) (code : ℕ) (n : Node WholeQueues) → is_code_unasked n.parts code set ≡ true
    → on_changeback_acknowledgement whole c set code n ≡ answer Ignored n
code-ignored c (Some set) code n e =
    unasked-by (is_outstanding n.parts.codes set code) (answer Handled (with_parts n (freed set code n.parts))) (answer Ignored n) e
code-ignored c None code n e = refl

pub unasked : unasked_answers_are_ignored
unasked c point (ExtendedChangeoverAcknowledgement slc number) n e = order-ignored c (link_with_code c point slc) (Some number) n e
unasked c point (EmergencyChangeoverAcknowledgement slc) n e = order-ignored c (link_with_code c point slc) None n e
unasked c point (ChangebackAcknowledgement slc code) n e = code-ignored c (set_place c point) code n e
unasked c point TrafficRestartAllowed n e = absurd cc
unasked c point (ExtendedChangeoverOrder slc number) n e = absurd cc
unasked c point (EmergencyChangeoverOrder slc) n e = absurd cc
unasked c point (ChangebackDeclaration slc code) n e = absurd cc
unasked c point (TransferProhibited about) n e = absurd cc
unasked c point (TransferRestricted about) n e = absurd cc
unasked c point (TransferAllowed about) n e = absurd cc
unasked c point (RouteSetTestProhibited about) n e = absurd cc
unasked c point (RouteSetTestRestricted about) n e = absurd cc
unasked c point (UserPartUnavailable about user_part cause) n e = absurd cc
