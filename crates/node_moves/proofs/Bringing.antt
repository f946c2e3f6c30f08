-- What becomes of a message that came or was handed over, and what it brings in: by moves.
use Rattle.node_moves.proofs.Basics.{◌≡◌, ℕ, Bool, true, false, ◌≤◌, List, [], ◌∷◌, ◌++◌, length, Option, Some, None, inl, Result, Ok, Err, nat_eq, nat_lt, refl, ap, sym, subst, ◌∙◌, arith, nat_tests, if◌then◌else◌, append-nil}
use Rattle.node_moves.proofs.Machine.{Shape, Other}
use Rattle.node_moves.proofs.Definitions.{Message, flow_of, opc_of, dpc_of, is_management, service_indicator, Configuration, IsWell, Node, Done, WholeQueues, whole, with_parts, answer, refuse, in_service, waits, link_of, SIF_OCTETS, Management, MgmtFault, read_management}
use Rattle.node_moves.proofs.Reading.{IsShape, says_of, says-user, is_long, order_at, answer_at, never}
use Rattle.node_moves.proofs.Shown.{Books, accepting, Mid}
use Rattle.node_moves.proofs.Going.{Goes, goes-none, goes-both}
use Rattle.node_moves.proofs.Handling.{mid, accepts, holds, submits, drops, places}
use Rattle.node_moves.proofs.Own.{K, stays, either_done, aside, routed, queued, no_route-goes, no_part-goes, test-goes, status-goes, confirmed-other}
use Rattle.node_moves.proofs.Heard.{here-short, on-short, IsNamed, code-link, named-place, heard-says, never-arrived}
use Rattle.node_moves.proofs.Entering.{pass_test-goes}
use Rattle.node_moves.proofs.Grown.{Grown, same-grown}
use Rattle.node_moves.proofs.ChangingOver.{order-goes, answer-goes, order-grown, answer-grown}
use Rattle.node_moves.proofs.Tests.{answer-other}
use Rattle.exchange_rules.proofs.LeavingMessages.{chosen_serves, relay_by-leaves}
use Rattle.exchange_rules.specs.ChangingBack.{on_changeback_acknowledgement, freed, changeback_acknowledgement}
use Rattle.exchange_rules.specs.Conserving.{answered_in, brought_here, brought_to, relayed_in, returned_in, taken_in, unitdata_in}
use Rattle.exchange_rules.specs.LinkTests.{passes_test, pass_test, testing}
use Rattle.exchange_rules.specs.Messages.{is_destination, offer, no_room_for, transfer, sccp, sst_ticks, own_of, in_place_of, with_titles, send_udts, return_outcome, relay_by, on_unitdata, is_user, is_adjacent, from_afar, test_answer, link_with_code, do_kind, do_test, do_order, do_acknowledgement, do_management, manage, local, deliver_to, submit_to, whither_goes}
use Rattle.exchange_rules.specs.Routing.{route_about, no_room}
use Rattle.exchange_rules.specs.Telling.{answer_no_user_part, send}
use Rattle.changeback.specs.Codes.{is_outstanding}
use Rattle.mtp3_codec.specs.Management.{LinkTestValue, read_link_test}
use Rattle.mtp3_codec.specs.declared.discrimination.Discrimination.{Discrimination}
use Rattle.mtp3_codec.specs.declared.discrimination.Discrimination.TheVariants as whither
use Rattle.mtp3_codec.specs.declared.label.Label.{Label}
use Rattle.mtp3_codec.specs.declared.link_test.TestKind.{TestKind}
use Rattle.mtp3_codec.specs.declared.link_test.TestKind.TheVariants.{Test, Acknowledgement}
use Rattle.mtp3_codec.specs.declared.management.Management.TheVariants as says
use Rattle.route_management.specs.declared.heard.RouteTest.TheVariants as tests
use Rattle.routes.specs.declared.route.RouteStatus.TheVariants.{Allowed, Restricted, Prohibited}
use Rattle.sccp_relay.proofs.WrittenFields.{Fits, onward-fits, returned-fits}
use Rattle.sccp_relay.specs.Points.{OwnValue}
use Rattle.sccp_relay.specs.Relay as relays
use Rattle.sccp_relay.specs.Returning.{returned}
use Rattle.sccp_relay.specs.Statuses.{TitlesValue, heard}
use Rattle.settings.specs.Readings.{destination_place, set_place}
use Rattle.signalling_types.specs.declared.cause.Cause.{Cause}
use Rattle.signalling_types.specs.declared.cause.Cause.TheVariants as causes
use Rattle.signalling_types.specs.declared.outcome.Outcome.{Outcome}
use Rattle.signalling_types.specs.declared.outcome.Outcome.TheVariants.{Queued, Held, Local, Handled, Ignored, Refused}

brief-so : (k : ℕ) → k ≤ SIF_OCTETS → nat_lt SIF_OCTETS k ≡ false
brief-so k l = grind (arith, nat_tests, l)

-- management isn't SCCP
no-sccp : (k : ℕ) → nat_lt k 2 ≡ true → nat_eq k sccp ≡ false
no-sccp k e = grind (arith, nat_tests, e)

module _ (shape : Shape) (o : IsShape shape) (c : Configuration) (well : IsWell c) where
  -- nothing is accepted
  pub none-more : (v : Mid) (n : Node WholeQueues) (a l : List Message) (k : Books) → Goes shape c v (mid n a l k) → Goes shape c v (mid n a l (accepting k []))
  none-more v n a l k e = subst (λ (ms : List Message). Goes shape c v (mid n a l (record k { accepted = ms }))) (sym (append-nil k.accepted)) e

  then-own : (v : Mid) (n m : Node WholeQueues) (a l : List Message) (k : Books) → Goes shape c v (mid n a l k) → K shape o c well n m → Goes shape c v (mid m a l k)
  then-own v n m a l k e f = goes-both shape c v (mid n a l k) (mid m a l k) e (f.each a l k)

  -- ---- it is queued or held, or refused

  offered : (room : Option Cause) (b : Bool) (link from : Option ℕ) (n : Node WholeQueues) (m : Message) (a l : List Message) (k : Books) → link_of c n.parts (flow_of m) ≡ link
      → Goes shape c (mid n (m ∷ a) l k) (mid (offer whole c room b link from m n).left a l (accepting k (taken_in (offer whole c room b link from m n).outcome m)))
  offered (Some cause) b link from n m a l k e = none-more _ n a l k (drops shape o c well n m a l k)
  offered None true link from n m a l k e = goes-both shape c _ _ _ (accepts shape o c well n m a l k) (holds shape o c well n m a l (accepting k (m ∷ [])))
  offered None false None from n m a l k e =
      none-more _ _ a l k (then-own _ n _ a l k (drops shape o c well n m a l k) (no_route-goes shape o c well from (destination_place c (dpc_of m)) n))
  offered None false (Some link) from n m a l k e =
      goes-both shape c _ _ _ (accepts shape o c well n m a l k) (places shape o c well n link m a l (accepting k (m ∷ [])) (chosen_serves c n.parts (flow_of m) link e) (inl e))

  pub transferred : (from : Option ℕ) (n : Node WholeQueues) (m : Message) (a l : List Message) (k : Books)
      → Goes shape c (mid n (m ∷ a) l k) (mid (transfer whole c from m n).left a l (accepting k (taken_in (transfer whole c from m n).outcome m)))
  transferred from n m a l k = by (is_destination c (dpc_of m))
    where
      into : Done WholeQueues
      into = offer whole c (no_room_for whole c m n) (waits c n.parts.holds m) (link_of c n.parts (flow_of m)) from m n

      by : (b : Bool) → Goes shape c (mid n (m ∷ a) l k) (mid (if b then into else refuse causes.UnknownDestination n).left a l (accepting k (taken_in (if b then into else refuse causes.UnknownDestination n).outcome m)))
      by true = offered (no_room_for whole c m n) (waits c n.parts.holds m) (link_of c n.parts (flow_of m)) from n m a l k refl
      by false = none-more _ n a l k (drops shape o c well n m a l k)

  -- ---- what SCCP makes of a message for this point

  module _ (n : Node WholeQueues) (m : Message) (user : is_management m ≡ false) (a l : List Message) (k : Books) where
    written : (sif : List ℕ) → Fits sif
        → Goes shape c (mid n a l k) (mid (transfer whole c None (in_place_of m sif) n).left a l (accepting k (taken_in (transfer whole c None (in_place_of m sif) n).outcome (in_place_of m sif))))
    written sif f =
        goes-both shape c _ _ _ (submits shape o c well n (in_place_of m sif) a l k (says-user (in_place_of m sif) (brief-so (length sif) f.short) user))
        (transferred None n (in_place_of m sif) a l k)

    answered : (udts : Option (List ℕ)) → ((sif : List ℕ) → udts ≡ Some sif → Fits sif) → Goes shape c (mid n a l k) (mid (send_udts whole c udts m n) a l (accepting k (returned_in udts c m n)))
    answered (Some sif) f = written sif (f sif refl)
    answered None f = none-more _ n a l k (goes-none shape c (mid n a l k))

    abbrev rows : TitlesValue
    rows = n.parts.titles

    abbrev own : OwnValue
    own = own_of c n.parts

    -- where it is refused, which left the node as it was
    returning : (out : Message) (result : Outcome) (left : Node WholeQueues) → ((cause : Cause) → result ≡ Refused cause → left ≡ n)
        → Goes shape c (mid n a l k) (mid left a l (accepting k (taken_in result out)))
        → Goes shape c (mid n a l k) (mid (return_outcome whole c result m left) a l (accepting k (taken_in result out ++ answered_in result c m n)))
    returning out (Refused cause) left same p =
        subst (λ (x : Node WholeQueues). Goes shape c (mid n a l k) (mid (return_outcome whole c (Refused cause) m x) a l (accepting k (answered_in (Refused cause) c m n)))) (sym (same cause refl))
        (answered (returned own rows m.sif cause) (λ sif e. returned-fits own rows m.sif cause sif e))
    returning out (Queued link) left same p = p
    returning out Held left same p = p
    returning out Local left same p = p
    returning out Handled left same p = p
    returning out Ignored left same p = p

    abbrev relayed : relays.RelayedValue → Done WholeQueues
    relayed v = relay_by whole c v m n

    relayed-goes : (v : relays.RelayedValue) → relays.relay own rows m.sif ≡ v
        → Goes shape c (mid n a l k) (mid (return_outcome whole c (relayed v).outcome m (relayed v).left) a l (accepting k (relayed_in v (relayed v).outcome m ++ answered_in (relayed v).outcome c m n)))
    relayed-goes relays.Delivered e = none-more _ n a l k (goes-none shape c (mid n a l k))
    relayed-goes (relays.Onward sif) e =
        returning (in_place_of m sif) (relayed (relays.Onward sif)).outcome (relayed (relays.Onward sif)).left (relay_by-leaves c n (relays.Onward sif) m).left (written sif (onward-fits own rows m.sif sif e))
    relayed-goes (relays.Heard news) e =
        none-more _ _ a l k ((aside shape o c well n (with_titles (heard (sst_ticks c) news n.parts.titles) n.parts) refl refl refl refl).each a l k)
    relayed-goes (relays.Refused cause) e = answered (returned own rows m.sif cause) (λ sif e. returned-fits own rows m.sif cause sif e)

    unitdata-goes : Goes shape c (mid n a l k) (mid (on_unitdata whole c m n).left a l (accepting k (unitdata_in (on_unitdata whole c m n).outcome c m n)))
    unitdata-goes = relayed-goes (relays.relay own rows m.sif) refl

    -- a message for SCCP, or for a user part
    pub local-goes : (from : Option ℕ) → Goes shape c (mid n a l k) (mid (local whole c from m n).left a l (accepting k (brought_here (local whole c from m n).outcome c m n)))
    local-goes from = by (nat_eq (service_indicator m) sccp) (is_user c (service_indicator m))
      where
        origin : Option ℕ
        origin = destination_place c (opc_of m)

        absent : Node WholeQueues
        absent = answer_no_user_part whole c from origin m n

        by : (is_sccp listed : Bool) → Goes shape c (mid n a l k)
            (mid (if is_sccp then on_unitdata whole c m n else (if listed then answer Local n else refuse causes.NoUserPart absent)).left a l
            (accepting k (if is_sccp then unitdata_in (if is_sccp then on_unitdata whole c m n else (if listed then answer Local n else refuse causes.NoUserPart absent)).outcome c m n else [])))
        by true listed = unitdata-goes
        by false true = none-more _ n a l k (goes-none shape c (mid n a l k))
        by false false = none-more _ absent a l k ((no_part-goes shape o c well from origin m n).each a l k)

  -- nothing of management is accepted that ends here
  nothing-here : (v : Mid) (m : Message) (n left : Node WholeQueues) (result : Outcome) (a l : List Message) (k : Books) → is_management m ≡ true → Goes shape c v (mid left a l k) → Goes shape c v (mid left a l (accepting k (brought_here result c m n)))
  nothing-here v m n left result a l k managing e =
      subst (λ (b : Bool). Goes shape c v (mid left a l (accepting k (if b then unitdata_in result c m n else [])))) (sym (no-sccp (service_indicator m) managing)) (none-more v left a l k e)

  -- ---- a user part hands a message over

  pub submitted : (d : Discrimination) (n : Node WholeQueues) (m : Message) (a l : List Message) (k : Books) → whither_goes c m ≡ d
      → Goes shape c (mid n a l k) (mid (submit_to whole c d m n).left a l (accepting k (brought_to d (submit_to whole c d m n).outcome c m n)))
  submitted (whither.Refused cause) n m a l k e = none-more _ n a l k (goes-none shape c (mid n a l k))
  submitted (whither.Here label) n m a l k e = by (is_management m) refl
    where
      by : (b : Bool) → is_management m ≡ b
          → Goes shape c (mid n a l k) (mid (if b then refuse causes.NotInProfile n else local whole c None m n).left a l (accepting k (brought_here (if b then refuse causes.NotInProfile n else local whole c None m n).outcome c m n)))
      by true f = nothing-here _ m n n (Refused causes.NotInProfile) a l k f (goes-none shape c (mid n a l k))
      by false f = local-goes n m f a l k None
  submitted (whither.Transfer label) n m a l k e = by (is_management m) refl
    where
      by : (b : Bool) → is_management m ≡ b
          → Goes shape c (mid n a l k) (mid (if b then refuse causes.NotInProfile n else transfer whole c None m n).left a l (accepting k (taken_in (if b then refuse causes.NotInProfile n else transfer whole c None m n).outcome m)))
      by true f = none-more _ n a l k (goes-none shape c (mid n a l k))
      by false f = goes-both shape c _ _ _ (submits shape o c well n m a l k (says-user m (on-short c m label e) f)) (transferred None n m a l k)

  -- ---- tests of links

  sent-on : (room : Option Cause) (link : ℕ) (m : Message) (n : Node WholeQueues) → in_service n.parts link ≡ true → says_of m ≡ Other → K shape o c well n (send whole c room (Some link) m n)
  sent-on (Some cause) link m n serves e = aside shape o c well n _ refl refl refl refl
  sent-on None link m n serves e = queued shape o c well link m n serves e

  kind-goes : (kind : TestKind) (link point : ℕ) (test : LinkTestValue) (n : Node WholeQueues) → in_service n.parts link ≡ true → says_of (test_answer c point test) ≡ Other
      → K shape o c well n (do_kind whole c kind link point test n).left
  kind-goes Test link point test n serves e = sent-on (no_room whole c (test_answer c point test) n.queues) link (test_answer c point test) n serves e
  kind-goes Acknowledgement link point test n serves e =
      either_done shape o c well (passes_test c link point test n.parts) n (answer Handled (pass_test whole c link n)) (answer Ignored n) (pass_test-goes shape o c well link n) (stays shape o c well n)

  do_test-goes : (test : Result LinkTestValue MgmtFault) (sif : List ℕ) (link point : ℕ) (n : Node WholeQueues) → in_service n.parts link ≡ true → length sif ≤ SIF_OCTETS → read_link_test sif ≡ test
      → K shape o c well n (do_test whole c test link point n).left
  do_test-goes (Err fault) sif link point n serves short e = stays shape o c well n
  do_test-goes (Ok test) sif link point n serves short e = kind-goes test.kind link point test n serves (answer-other c well point sif test short e)

  confirmed-goes : (set : Option ℕ) (code : ℕ) (n : Node WholeQueues) → K shape o c well n (on_changeback_acknowledgement whole c set code n).left
  confirmed-goes (Some set) code n =
      either_done shape o c well (is_outstanding n.parts.codes set code) n (answer Handled (with_parts n (freed set code n.parts))) (answer Ignored n) (aside shape o c well n _ refl refl refl refl) (stays shape o c well n)
  confirmed-goes None code n = stays shape o c well n

  -- ---- management for this point

  module _ (m : Message) (label : Label) (here : whither_goes c m ≡ whither.Here label) (managing : is_management m ≡ true) (n : Node WholeQueues) (a l : List Message) (k : Books) where
    abbrev from_it : Node WholeQueues → Type 0
    from_it left = Goes shape c (mid n (m ∷ a) l k) (mid left a l k)

    gone : Goes shape c (mid n (m ∷ a) l k) (mid n a l k)
    gone = drops shape o c well n m a l k

    own-way : (left : Node WholeQueues) → K shape o c well n left → from_it left
    own-way left e = then-own _ n left a l k gone e

    ordered : (plain : nat_eq (service_indicator m) 1 ≡ false) (slc number : ℕ) → read_management m.sif ≡ Ok (says.ExtendedChangeoverOrder slc number) → (link : Option ℕ) → link_with_code c (opc_of m) slc ≡ link
        → from_it (do_order whole c link (Some number) n).left
    ordered plain slc number reads (Some link) e =
        let named : IsNamed c (opc_of m) slc link = code-link c (opc_of m) slc link e in
        order-goes shape o c well link n number m a l k named.inside
        (heard-says c m label (says.ExtendedChangeoverOrder slc number) here managing plain reads ∙ ap (λ p. order_at p number) (named-place c well (opc_of m) slc link named))
    ordered plain slc number reads None e = gone

    answered-by : (plain : nat_eq (service_indicator m) 1 ≡ false) (slc number : ℕ) → read_management m.sif ≡ Ok (says.ExtendedChangeoverAcknowledgement slc number) → (link : Option ℕ) → link_with_code c (opc_of m) slc ≡ link
        → from_it (do_acknowledgement whole c link (Some number) n).left
    answered-by plain slc number reads (Some link) e =
        let named : IsNamed c (opc_of m) slc link = code-link c (opc_of m) slc link e in
        answer-goes shape o c well link n number m a l k
        (heard-says c m label (says.ExtendedChangeoverAcknowledgement slc number) here managing plain reads ∙ ap (λ p. answer_at p number) (named-place c well (opc_of m) slc link named))
    answered-by plain slc number reads None e = gone

    -- what is never under way
    never-goes : (left : Node WholeQueues) → Grown n.parts.times_broken left.parts.times_broken → says_of m ≡ never → from_it left
    never-goes left f e = record { grown = f; goes = λ p h s. absurd (never-arrived shape o c well p n m a l k h s e) }

    unordered : (link : Option ℕ) → Grown n.parts.times_broken (do_order whole c link None n).left.parts.times_broken
    unordered (Some link) = order-grown shape o c well link None n
    unordered None = same-grown refl

    unanswered : (link : Option ℕ) → Grown n.parts.times_broken (do_acknowledgement whole c link None n).left.parts.times_broken
    unanswered (Some link) = answer-grown shape o c well link None n
    unanswered None = same-grown refl

    managed : (plain : nat_eq (service_indicator m) 1 ≡ false) (r : Result Management MgmtFault) → read_management m.sif ≡ r → from_it (do_management whole c r (opc_of m) n).left
    managed plain (Err fault) e = gone
    managed plain (Ok says.TrafficRestartAllowed) e = gone
    managed plain (Ok (says.ExtendedChangeoverOrder slc number)) e = ordered plain slc number e (link_with_code c (opc_of m) slc) refl
    managed plain (Ok (says.ExtendedChangeoverAcknowledgement slc number)) e = answered-by plain slc number e (link_with_code c (opc_of m) slc) refl
    managed plain (Ok (says.EmergencyChangeoverOrder slc)) e = never-goes _ (unordered (link_with_code c (opc_of m) slc)) (heard-says c m label (says.EmergencyChangeoverOrder slc) here managing plain e)
    managed plain (Ok (says.EmergencyChangeoverAcknowledgement slc)) e = never-goes _ (unanswered (link_with_code c (opc_of m) slc)) (heard-says c m label (says.EmergencyChangeoverAcknowledgement slc) here managing plain e)
    managed plain (Ok (says.ChangebackDeclaration slc code)) e = own-way _ (routed shape o c well (changeback_acknowledgement c (opc_of m) slc code) n (confirmed-other c well (opc_of m) slc code))
    managed plain (Ok (says.ChangebackAcknowledgement slc code)) e = own-way _ (confirmed-goes (set_place c (opc_of m)) code n)
    managed plain (Ok (says.TransferProhibited about)) e = own-way _ (status-goes shape o c well Prohibited (route_about (set_place c (opc_of m)) (destination_place c about)) n)
    managed plain (Ok (says.TransferRestricted about)) e = own-way _ (status-goes shape o c well Restricted (route_about (set_place c (opc_of m)) (destination_place c about)) n)
    managed plain (Ok (says.TransferAllowed about)) e = own-way _ (status-goes shape o c well Allowed (route_about (set_place c (opc_of m)) (destination_place c about)) n)
    managed plain (Ok (says.RouteSetTestProhibited about)) e = own-way _ (test-goes shape o c well tests.Prohibited (route_about (set_place c (opc_of m)) (destination_place c about)) n)
    managed plain (Ok (says.RouteSetTestRestricted about)) e = own-way _ (test-goes shape o c well tests.Restricted (route_about (set_place c (opc_of m)) (destination_place c about)) n)
    managed plain (Ok (says.UserPartUnavailable about user_part cause)) e = gone

    short-field : length m.sif ≤ SIF_OCTETS
    short-field = (let so : is_long m ≡ false = here-short c m label here in grind (arith, nat_tests, so))

    by-kind : (is_test : Bool) (link : ℕ) → in_service n.parts link ≡ true → nat_eq (service_indicator m) 1 ≡ is_test
        → from_it (if is_test then do_test whole c (read_link_test m.sif) link (opc_of m) n else do_management whole c (read_management m.sif) (opc_of m) n).left
    by-kind true link serves e = own-way _ (do_test-goes (read_link_test m.sif) m.sif link (opc_of m) n serves short-field refl)
    by-kind false link serves e = managed e (read_management m.sif) refl

    pub manage-goes : (link : ℕ) → in_service n.parts link ≡ true → from_it (manage whole c link m n).left
    manage-goes link serves = by (is_adjacent c (opc_of m))
      where
        by : (b : Bool) → from_it (if b then (if nat_eq (service_indicator m) testing then do_test whole c (read_link_test m.sif) link (opc_of m) n else do_management whole c (read_management m.sif) (opc_of m) n)
            else answer (from_afar c m) n).left
        by true = by-kind (nat_eq (service_indicator m) 1) link serves refl
        by false = gone

  -- ---- a message in a frame

  pub delivered-to : (d : Discrimination) (link : ℕ) (m : Message) (n : Node WholeQueues) (a l : List Message) (k : Books) → in_service n.parts link ≡ true → whither_goes c m ≡ d
      → Goes shape c (mid n (m ∷ a) l k) (mid (deliver_to whole c d link m n).left a l (accepting k (brought_to d (deliver_to whole c d link m n).outcome c m n)))
  delivered-to (whither.Refused cause) link m n a l k serves e = none-more _ n a l k (drops shape o c well n m a l k)
  delivered-to (whither.Here label) link m n a l k serves e = by (is_management m) refl
    where
      by : (b : Bool) → is_management m ≡ b
          → Goes shape c (mid n (m ∷ a) l k) (mid (if b then manage whole c link m n else local whole c (Some link) m n).left a l (accepting k (brought_here (if b then manage whole c link m n else local whole c (Some link) m n).outcome c m n)))
      by true f = nothing-here _ m n (manage whole c link m n).left (manage whole c link m n).outcome a l k f (manage-goes m label e f n a l k link serves)
      by false f = goes-both shape c _ _ _ (drops shape o c well n m a l k) (local-goes n m f a l k (Some link))
  delivered-to (whither.Transfer label) link m n a l k serves e = transferred (Some link) n m a l k
