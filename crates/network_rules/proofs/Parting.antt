-- What an event lets go of queues: what a frame confirms, and what a word of the peer says that it received; else a
-- changeover ends with no reasonable number.
use Rattle.exchange_rules.proofs.Basics.{◌≡◌, ◌<◌, ◌&&◌, ℕ, Bool, true, false, not, List, [], Option, Some, None, Result, Ok, Err, refl, subst, arith, if◌then◌else◌, nat_eq}
use Rattle.exchange_rules.proofs.Definitions.{Message, is_management, opc_of, service_indicator, Configuration, Management, TrafficRestartAllowed, ExtendedChangeoverOrder, ExtendedChangeoverAcknowledgement, EmergencyChangeoverOrder, EmergencyChangeoverAcknowledgement, ChangebackDeclaration, ChangebackAcknowledgement, TransferProhibited, TransferRestricted, TransferAllowed, RouteSetTestProhibited, RouteSetTestRestricted, MgmtFault, Discrimination, Allowed, Restricted, Prohibited, Node, Done, with_parts, answer, WholeQueues, whole, destination_place, set_place, link_with_code, route_about, is_adjacent, testing, read_link_test, read_management, from_afar, UserPartUnavailable, bar}
use Rattle.exchange_rules.proofs.Definitions.{Gone, nothing_gone, gone_by_completion, gone_by_order, gone_by_answer, gone_by_word, gone_by_message, gone_by_new}
use Rattle.exchange_rules.proofs.Definitions.{complete_if, concluded, fail_by_order, on_changeover_order, changeover_acknowledgement, changeover_of, with_changeover, completed, with_changeover_acknowledged, do_order, do_acknowledgement, do_management, do_test, manage, local, deliver_to, carry, whither_goes, changeback_acknowledgement, send_routed, note_refusal}
use Rattle.exchange_rules.specs.Conserving.{is_word}
use Rattle.exchange_rules.proofs.Changes.{fail_by_order-queues}
use Rattle.mtp3_codec.specs.declared.discrimination.Discrimination.TheVariants as whither
use Rattle.mtp3_codec.specs.declared.label.Label.{Label}
use Rattle.signalling_types.specs.declared.outcome.Outcome.TheVariants.{Handled, Ignored}
use Rattle.route_management.specs.declared.heard.RouteTest.TheVariants as tests
use Rattle.network_rules.proofs.Passing.{IsFine, IsPassing, each-sent, routed, status-keeps, test-keeps, transfer-keeps, local-keeps}
use Rattle.network_rules.proofs.PassingLinks.{do_test-keeps, confirmed-keeps}
use Rattle.network_rules.proofs.Growing.{AreGrown, Grows, MayMake, all-any, any_message, any-fine, grown-same, grown-then, growing}

-- nothing goes; or the changeover of a link ends by a number that was said, and all that it names goes; or one ends
-- with no reasonable number
pub data Does (Said : (link number : ℕ) → Type 0) (qs : WholeQueues) (m : Node WholeQueues) (g : Gone) : Type 0 where
  grows : AreGrown qs m.queues → g.accepted ≡ [] → g.lost ≡ [] → Does Said qs m g
  ends : (link number : ℕ) → Said link number → AreGrown (whole.completed qs link (Some number)) m.queues → (whole.found qs link (Some number)).is_reasonable ≡ true
      → g ≡ gone_by_completion true link (Some number) qs → Does Said qs m g
  loses : 0 < g.doubts → Does Said qs m g

-- a completion with no reasonable number leaves a doubt
pub doubted : (b : Bool) → b ≡ false → 0 < (if b then 0 else 1)
doubted true e = absurd cc
doubted false e = omega arith

-- an order to change over from a link, or the answer to one, with this number
pub data IsWord (c : Configuration) (point link number : ℕ) (r : Result Management MgmtFault) : Type 0 where
  orders : (slc : ℕ) → r ≡ Ok (ExtendedChangeoverOrder slc number) → link_with_code c point slc ≡ Some link → IsWord c point link number r
  answers : (slc : ℕ) → r ≡ Ok (ExtendedChangeoverAcknowledgement slc number) → link_with_code c point slc ≡ Some link → IsWord c point link number r

-- a message for this point says it, from an adjacent one
pub record SaysWord (c : Configuration) (o : Option Message) (link number : ℕ) : Type 0 where
  pub message : Message
  pub is : o ≡ Some message
  pub label : Label
  pub here : whither_goes c message ≡ whither.Here label
  pub heard : is_word c message ≡ true
  pub word : IsWord c (opc_of message) link number (read_management message.sif)

-- what goes on from there lets nothing more go
pub does-then : {Said : (link number : ℕ) → Type 0} {qs : WholeQueues} {g : Gone} (m o : Node WholeQueues) → AreGrown m.queues o.queues → Does Said qs m g → Does Said qs o g
does-then m o e (grows h i l) = grows (grown-then _ _ _ h e) i l
does-then m o e (ends link number said h i k) = ends link number said (grown-then _ _ _ h e) i k
does-then m o e (loses l) = loses l

-- and what went on before
pub does-after : {Said : (link number : ℕ) → Type 0} {m : Node WholeQueues} {g : Gone} (qs rs : WholeQueues) → rs ≡ qs → Does Said rs m g → Does Said qs m g
does-after {Said} {m} {g} qs rs e d = subst (λ (x : WholeQueues). Does Said x m g) e d

module _ (c : Configuration) (fits : MayMake c) where
  f : IsFine c any_message
  f = any-fine c fits

  r : IsPassing c any_message Grows
  r = growing c

  idle : {Said : (link number : ℕ) → Type 0} (n : Node WholeQueues) → Does Said n.queues n nothing_gone
  idle n = grows (grown-same n.queues n.queues refl) refl refl

  -- ---- a changeover ends

  -- with a number that was said, or with none
  abbrev MaySay : (Said : (link number : ℕ) → Type 0) → (link : ℕ) → Option ℕ → Type 0
  MaySay Said link (Some number) = Said link number
  MaySay Said link None = Unit {0}

  module _ (Said : (link number : ℕ) → Type 0) where
    conclude-does : (link number : ℕ) (n : Node WholeQueues) (b : Bool) → (whole.found n.queues link (Some number)).is_reasonable ≡ b → Said link number
        → Does Said n.queues (complete_if whole c true link (Some number) n) (gone_by_completion true link (Some number) n.queues)
    conclude-does link number n true e said =
        let done : Node WholeQueues = record { queues = whole.completed n.queues link (Some number); parts = concluded link (whole.found n.queues link (Some number)) n.parts } in
        let anew : List Message = (whole.found n.queues link (Some number)).queued_anew in
        ends link number said (each-sent c any_message f r anew done (all-any anew)).queues e refl
    conclude-does link number n false e said = loses (doubted (whole.found n.queues link (Some number)).is_reasonable e)

    complete-does : (incomplete : Bool) (link : ℕ) (number : Option ℕ) (n : Node WholeQueues) → MaySay Said link number
        → Does Said n.queues (complete_if whole c incomplete link number n) (gone_by_completion incomplete link number n.queues)
    complete-does true link (Some number) n said = conclude-does link number n (whole.found n.queues link (Some number)).is_reasonable refl said
    complete-does true link None n said = loses (doubted (whole.found n.queues link None).is_reasonable refl)
    complete-does false link number n said = idle n

    order-does : (link : ℕ) (number : Option ℕ) (n : Node WholeQueues) → MaySay Said link number
        → Does Said n.queues (on_changeover_order whole c link number n).left (gone_by_order (Some link) number c n)
    order-does link number n said =
        let fell : Node WholeQueues = bar whole c link (fail_by_order whole c link n) in
        let stood : Node WholeQueues = with_parts fell (with_changeover link (completed (changeover_of fell.parts link)) fell.parts) in
        let done : Node WholeQueues = complete_if whole c (changeover_of fell.parts link).incomplete link number stood in
        let told : Message = changeover_acknowledgement c link (whole.last_accepted done.queues link) in
        does-after n.queues fell.queues (fail_by_order-queues (λ m. true) c link n)
        (does-then done (send_routed whole c told done) (routed c any_message f r told done refl).queues
        (complete-does (changeover_of fell.parts link).incomplete link number stood said))

    answer-by : (awaited : Bool) (link : ℕ) (number : Option ℕ) (n : Node WholeQueues) → MaySay Said link number
        → Does Said n.queues
        (if awaited then answer Handled (complete_if whole c (changeover_of n.parts link).incomplete link number (with_parts n (with_changeover_acknowledged link n.parts))) else answer Ignored n).left
        (if awaited then gone_by_completion (changeover_of n.parts link).incomplete link number n.queues else nothing_gone)
    answer-by true link number n said = complete-does (changeover_of n.parts link).incomplete link number (with_parts n (with_changeover_acknowledged link n.parts)) said
    answer-by false link number n said = idle n

  do_order-does : {Said : (link number : ℕ) → Type 0} (o number : Option ℕ) (n : Node WholeQueues) → ((link : ℕ) → o ≡ Some link → MaySay Said link number)
      → Does Said n.queues (do_order whole c o number n).left (gone_by_order o number c n)
  do_order-does {Said} (Some link) number n said = order-does Said link number n (said link refl)
  do_order-does None number n said = idle n

  do_answer-does : {Said : (link number : ℕ) → Type 0} (o number : Option ℕ) (n : Node WholeQueues) → ((link : ℕ) → o ≡ Some link → MaySay Said link number)
      → Does Said n.queues (do_acknowledgement whole c o number n).left (gone_by_answer o number n)
  do_answer-does {Said} (Some link) number n said = answer-by Said (changeover_of n.parts link).awaited link number n (said link refl)
  do_answer-does None number n said = idle n

  -- ---- management

  passing : {Said : (link number : ℕ) → Type 0} (n m : Node WholeQueues) → Grows n m → Does Said n.queues m nothing_gone
  passing n m h = grows h.queues refl refl

  word-does : {Said : (link number : ℕ) → Type 0} (x : Result Management MgmtFault) (point : ℕ) (n : Node WholeQueues) → ((link number : ℕ) → IsWord c point link number x → Said link number)
      → Does Said n.queues (do_management whole c x point n).left (gone_by_word x point c n)
  word-does (Err fault) point n said = idle n
  word-does (Ok TrafficRestartAllowed) point n said = idle n
  word-does (Ok (ExtendedChangeoverOrder slc number)) point n said = do_order-does (link_with_code c point slc) (Some number) n (λ link e. said link number (orders slc refl e))
  word-does (Ok (EmergencyChangeoverOrder slc)) point n said = do_order-does (link_with_code c point slc) None n (λ link e. tt)
  word-does (Ok (ExtendedChangeoverAcknowledgement slc number)) point n said = do_answer-does (link_with_code c point slc) (Some number) n (λ link e. said link number (answers slc refl e))
  word-does (Ok (EmergencyChangeoverAcknowledgement slc)) point n said = do_answer-does (link_with_code c point slc) None n (λ link e. tt)
  word-does (Ok (ChangebackDeclaration slc code)) point n said = passing n _ (routed c any_message f r (changeback_acknowledgement c point slc code) n refl)
  word-does (Ok (ChangebackAcknowledgement slc code)) point n said = passing n _ (confirmed-keeps c any_message f r (set_place c point) code n)
  word-does (Ok (TransferProhibited about)) point n said = passing n _ (status-keeps c any_message f r Prohibited (route_about (set_place c point) (destination_place c about)) n)
  word-does (Ok (TransferRestricted about)) point n said = passing n _ (status-keeps c any_message f r Restricted (route_about (set_place c point) (destination_place c about)) n)
  word-does (Ok (TransferAllowed about)) point n said = passing n _ (status-keeps c any_message f r Allowed (route_about (set_place c point) (destination_place c about)) n)
  word-does (Ok (RouteSetTestProhibited about)) point n said = passing n _ (test-keeps c any_message f r tests.Prohibited (route_about (set_place c point) (destination_place c about)) n)
  word-does (Ok (RouteSetTestRestricted about)) point n said = passing n _ (test-keeps c any_message f r tests.Restricted (route_about (set_place c point) (destination_place c about)) n)
  word-does (Ok (UserPartUnavailable about user_part cause)) point n said = idle n

  abbrev word_of : Message → Result Management MgmtFault
  word_of m = read_management m.sif

  manage-by : {Said : (link number : ℕ) → Type 0} (adjacent test : Bool) (link : ℕ) (m : Message) (n : Node WholeQueues)
      → ((adjacent && not test) ≡ true → (k number : ℕ) → IsWord c (opc_of m) k number (word_of m) → Said k number)
      → Does Said n.queues
      (if adjacent then (if test then do_test whole c (read_link_test m.sif) link (opc_of m) n else do_management whole c (word_of m) (opc_of m) n) else answer (from_afar c m) n).left
      (if adjacent && not test then gone_by_word (word_of m) (opc_of m) c n else nothing_gone)
  manage-by true true link m n said = passing n _ (do_test-keeps c any_message f r (read_link_test m.sif) link (opc_of m) n)
  manage-by true false link m n said = word-does (word_of m) (opc_of m) n (said refl)
  manage-by false test link m n said = idle n

  -- ---- a message of a frame

  abbrev Says : Option Message → (link number : ℕ) → Type 0
  Says o link number = SaysWord c o link number

  heard-word : (b d : Bool) → b ≡ true → d ≡ true → (b && d) ≡ true
  heard-word true true e g = refl
  heard-word true false e g = g
  heard-word false d e g = e

  here-by : (b : Bool) (link : ℕ) (m : Message) (n : Node WholeQueues) → is_management m ≡ b → (label : Label) → whither_goes c m ≡ whither.Here label
      → Does (Says (Some m)) n.queues (if b then manage whole c link m n else local whole c (Some link) m n).left
      (if b && (is_adjacent c (opc_of m) && not (nat_eq (service_indicator m) testing)) then gone_by_word (word_of m) (opc_of m) c n else nothing_gone)
  here-by true link m n e label here =
      manage-by (is_adjacent c (opc_of m)) (nat_eq (service_indicator m) testing) link m n
      (λ heard k number word. record {
        message = m;
        is = refl;
        label = label;
        here = here;
        heard = heard-word (is_management m) (is_adjacent c (opc_of m) && not (nat_eq (service_indicator m) testing)) e heard;
        word = word;
      })
  here-by false link m n e label here = passing n _ (local-keeps c any_message f r (Some link) m n e)

  deliver_to-does : (d : Discrimination) (link : ℕ) (m : Message) (n : Node WholeQueues) → whither_goes c m ≡ d → Does (Says (Some m)) n.queues (deliver_to whole c d link m n).left (gone_by_message d c m n)
  deliver_to-does (whither.Refused cause) link m n e = idle n
  deliver_to-does (whither.Here label) link m n e = here-by (is_management m) link m n refl label e
  deliver_to-does (whither.Transfer label) link m n e = passing n _ (transfer-keeps c any_message f r (Some link) m n refl)

  pub carry-does : (link : ℕ) (o : Option Message) (n : Node WholeQueues) → Does (Says o) n.queues (carry whole c link o n).left (gone_by_new o c n)
  carry-does link None n = idle n
  carry-does link (Some m) n =
      let d : Done WholeQueues = deliver_to whole c (whither_goes c m) link m n in
      does-then d.left (note_refusal link d).left (r.same d.left (note_refusal link d).left refl).queues (deliver_to-does (whither_goes c m) link m n refl)
