-- Link tests, and management that passes by, as it comes to a node: by moves.
use Rattle.pair_rules.proofs.Basics.{◌⊎◌, inl, inr, eq-eqb, suc, ◌≡◌, ◌≢◌, ◌<◌, ◌≤◌, ◌+◌, ◌^◌, ◌/◌, ◌%◌, ◌&&◌, ℕ, Bool, true, false, List, [], ◌∷◌, length, Option, Some, None, Result, Ok, Err, refl, ap, sym, subst, ◌∙◌, nat_eq, nat_lt, arith, nat_tests, drop, take, if◌then◌else◌, option_and_then, slice_index_or, ⊎_elim, cases_eq}
use Rattle.pair_rules.proofs.Definitions.{Message, SIF_OCTETS, flow_of, is_management, opc_of, service_indicator, Cause, Handled, Ignored, Configuration, LinkEntry, SetEntry, set_place, destination_place, Management, MgmtFault, read_management, Node, answer, with_parts, in_service, set_of, link_of, no_room, send, queue_on, link_with_code, is_outstanding, freed, on_changeback_acknowledgement, on_management, do_management, do_order, do_acknowledgement, do_test, manage, testing, is_adjacent, WholeQueues, whole, StaysFit, fit-steps, Saying}
use Rattle.std.proofs.lemmas.List.{length-drop, length-take}
use Rattle.std.proofs.lemmas.List.Quantifiers.{position-Some}
use Rattle.mtp3_codec.specs.Headings.{cause_of_code, changeback_code_in, kind_of, label_at, number_in, point_in}
use Rattle.mtp3_codec.specs.Management.{LinkTestValue, link_code_of, message_of, message_in, pattern_in, read_link_test, test_in, test_of_kind, with_field, unavailable_in}
use Rattle.mtp3_codec.specs.declared.fault.MgmtFault.TheVariants as faults
use Rattle.mtp3_codec.specs.declared.link_test.TestKind.{TestKind}
use Rattle.mtp3_codec.specs.declared.link_test.TestKind.TheVariants.{Test, Acknowledgement}
use Rattle.mtp3_codec.specs.declared.management.Management.TheVariants as says
use Rattle.routes.specs.declared.route.RouteStatus.TheVariants.{Allowed, Restricted, Prohibited}
use Rattle.route_management.specs.declared.heard.RouteTest.TheVariants as tests
use Rattle.exchange_rules.specs.Messages.{do_kind, link_in_set, test_answer, from_afar}
use Rattle.exchange_rules.specs.Routing.{adjacent_of, route_about}
use Rattle.exchange_rules.proofs.Basics.{eqb-true}
use Rattle.exchange_rules.proofs.OwnManagement.{answer-management}
use Rattle.exchange_rules.proofs.Settling.{left-true}
use Rattle.exchange_rules.proofs.Steps.{sends-of}
use Rattle.exchange_rules.proofs.SteppingMessages.{by_link-steps}
use Rattle.pair_moves.specs.Sayings.{Other}
use Rattle.pair_rules.proofs.World.{World}
use Rattle.neighbour_rules.proofs.World.{management_says, says_of}
use Rattle.neighbour_rules.proofs.Good.{Joint, Passes, at, passes-both, passes-none, set}
use Rattle.neighbour_rules.proofs.Adjacents.{KnowsPoints}
use Rattle.neighbour_rules.proofs.ChangingOver.{acknowledgement_past-passes, order_past-passes}
use Rattle.neighbour_rules.proofs.Lates.{declaration_past-passes, freed-elsewhere}
use Rattle.neighbour_rules.proofs.Made.{test-past}
use Rattle.neighbour_rules.proofs.Messages.{dropping, making, says-user}
use Rattle.neighbour_rules.proofs.Placing.{leaving, placing}
use Rattle.neighbour_rules.proofs.Returns.{on_test_answer-passes}
use Rattle.neighbour_rules.proofs.Rerouted.{on_route_status-passes, on_route_test-passes, IsUntold}
use Rattle.neighbour_rules.proofs.Untold.{IsPlain, known-place, place-point}

-- ---- what is read

-- a link code that is read has four bits
record IsCoded (r : Result Management MgmtFault) : Type 0 where
  fits : (word : Management) → r ≡ Ok word → link_code_of word < 2 ^ 4

coded-ok : (word : Management) → link_code_of word < 2 ^ 4 → IsCoded (Ok word)
coded-ok word h = record { fits = λ other e. subst (λ (x : Management). link_code_of x < 2 ^ 4) (let same : word ≡ other = cc in same) h }

coded-err : (fault : MgmtFault) → IsCoded (Err fault)
coded-err fault = record { fits = λ other e. absurd cc }

coded-if : (b : Bool) (x y : Result Management MgmtFault) → IsCoded x → IsCoded y → IsCoded (if b then x else y)
coded-if true x y e f = e
coded-if false x y e f = f

coded-field : (word : ℕ → Management) (r : Result ℕ MgmtFault) → ((field : ℕ) → link_code_of (word field) < 2 ^ 4) → IsCoded (with_field word r)
coded-field word (Ok field) h = coded-ok (word field) (h field)
coded-field word (Err fault) h = coded-err fault

coded-unavailable : (fields : List ℕ) → IsCoded (unavailable_in fields)
coded-unavailable [] = coded-err faults.Short
coded-unavailable (low ∷ []) = coded-err faults.Short
coded-unavailable (low ∷ high ∷ []) = coded-err faults.Short
coded-unavailable (low ∷ high ∷ octet ∷ rest) =
    coded-field (λ point. says.UserPartUnavailable point (octet % 16) (cause_of_code (octet / 16))) (point_in (low ∷ high ∷ [])) (λ k. omega arith)

coded-message : (octet slc : ℕ) (fields : List ℕ) → slc < 2 ^ 4 → IsCoded (message_of octet slc fields)
coded-message octet slc fields h =
    coded-if _ _ _ (coded-field (says.ExtendedChangeoverOrder slc) (number_in fields) (λ k. h))
    (coded-if _ _ _ (coded-field (says.ExtendedChangeoverAcknowledgement slc) (number_in fields) (λ k. h))
    (coded-if _ _ _ (coded-field (says.ChangebackDeclaration slc) (changeback_code_in fields) (λ k. h))
    (coded-if _ _ _ (coded-field (says.ChangebackAcknowledgement slc) (changeback_code_in fields) (λ k. h))
    (coded-if _ _ _ (coded-ok (says.EmergencyChangeoverOrder slc) h)
    (coded-if _ _ _ (coded-ok (says.EmergencyChangeoverAcknowledgement slc) h)
    (coded-if _ _ _ (coded-field says.TransferProhibited (point_in fields) (λ k. omega arith))
    (coded-if _ _ _ (coded-field says.TransferRestricted (point_in fields) (λ k. omega arith))
    (coded-if _ _ _ (coded-field says.TransferAllowed (point_in fields) (λ k. omega arith))
    (coded-if _ _ _ (coded-field says.RouteSetTestProhibited (point_in fields) (λ k. omega arith))
    (coded-if _ _ _ (coded-field says.RouteSetTestRestricted (point_in fields) (λ k. omega arith))
    (coded-if _ _ _ (coded-ok says.TrafficRestartAllowed (omega arith))
    (coded-if _ _ _ (coded-unavailable fields) (coded-err faults.NotInProfile)))))))))))))

coded-in : (slc : ℕ) (octets : List ℕ) → slc < 2 ^ 4 → IsCoded (message_in slc octets)
coded-in slc [] h = coded-err faults.Short
coded-in slc (octet ∷ fields) h = coded-message octet slc fields h

coded-read : (sif : List ℕ) → IsCoded (read_management sif)
coded-read sif = coded-in (label_at sif).sls (drop 4 sif) (omega arith)

-- the pattern of a link test that is read is in what was read
abbrev IsWithin : ℕ → Result LinkTestValue MgmtFault → Type 0
IsWithin many (Ok test) = length test.pattern + 2 ≤ many
IsWithin many (Err fault) = Unit {0}

within-pattern : (kind : TestKind) (slc : ℕ) (rest : List ℕ) → IsWithin (suc (length rest)) (pattern_in kind slc rest)
within-pattern kind slc [] = tt
within-pattern kind slc (count ∷ rest) = by (nat_lt (length rest) (count / 16))
  where
    by : (b : Bool) → IsWithin (suc (suc (length rest))) (if b then Err faults.Short else Ok (record { kind = kind; slc = slc; pattern = take (count / 16) rest }))
    by true = tt
    by false = omega (arith, length-take (count / 16) rest)

within-kind : (o : Option TestKind) (slc : ℕ) (rest : List ℕ) → IsWithin (suc (length rest)) (test_of_kind o slc rest)
within-kind None slc rest = tt
within-kind (Some kind) slc rest = within-pattern kind slc rest

within-in : (slc : ℕ) (octets : List ℕ) → IsWithin (length octets) (test_in slc octets)
within-in slc [] = tt
within-in slc (octet ∷ rest) = within-kind (kind_of octet) slc rest

-- so its answer is no longer
answer-short : (c : Configuration) (point : ℕ) (sif : List ℕ) (test : LinkTestValue) → length sif ≤ SIF_OCTETS → read_link_test sif ≡ Ok test → length (test_answer c point test).sif ≤ SIF_OCTETS
answer-short c point sif test short e =
    let within : length test.pattern + 2 ≤ length (drop 4 sif) = subst (IsWithin (length (drop 4 sif))) e (within-in (label_at sif).sls (drop 4 sif)) in
    omega (arith, short, within, length-drop 4 sif)

module _ (c z : Configuration) (j : Joint c z) where
  abbrev read : Message → Saying
  read = says_of c.own z.own j.base.there

  -- ---- sets of points

  set-point : (point its : ℕ) → set_place c point ≡ Some its → adjacent_of c its ≡ point
  set-point point its e =
      let none : SetEntry = record { name = []; adjacent = 0 } in
      let found : (its < length c.sets) × (nat_eq point (slice_index_or c.sets its none).adjacent ≡ true)
      × ((k : ℕ) → k < its → nat_eq point (slice_index_or c.sets k none).adjacent ≡ false) = position-Some (λ (x : SetEntry). nat_eq point x.adjacent) c.sets its none e in
      sym (eqb-true point (slice_index_or c.sets its none).adjacent found.1)

  -- that of another point is another
  set-apart : (point its : ℕ) → set_place c point ≡ Some its → point ≢ z.own → its ≢ set c z j
  set-apart point its e d same =
      d (sym (set-point point its e) ∙ ap (adjacent_of c) same ∙ set-point z.own (set c z j) j.shares.near_leads.adjacent)

  -- what a third point tells of routes is about its own set
  untold-past : (point about : ℕ) → point ≢ z.own → IsUntold c z j (route_about (set_place c point) (destination_place c about))
  untold-past point about d its destination e i same = absurd (set-apart point its (known-place (set_place c point) (destination_place c about) its destination e).0 d i)

  -- and what the other tells is about another point, or about itself
  untold-plain : (point about : ℕ) → (j.base.there ≡ z.own) ⊎ (nat_eq about j.base.there ≡ false) → IsUntold c z j (route_about (set_place c point) (destination_place c about))
  untold-plain point about (inl own) its destination e i same = own
  untold-plain point about (inr apart) its destination e i same =
      let place : destination_place c about ≡ Some j.destination = (known-place (set_place c point) (destination_place c about) its destination e).1 ∙ ap (λ (k : ℕ). Some k) same in
      let no : true ≡ false = sym (eq-eqb about j.base.there (place-point c about j.base.there j.destination place j.place)) ∙ apart in
      absurd cc

  -- the link that a point names is one of its set
  pub record IsNamed (point slc link : ℕ) : Type 0 where
    pub its : ℕ
    pub known : set_place c point ≡ Some its
    pub there : link < length c.links
    pub of_set : set_of c link ≡ its

  pub is-named : (point slc link : ℕ) → link_with_code c point slc ≡ Some link → IsNamed point slc link
  is-named point slc link e = by (set_place c point) refl e
    where
      by : (o : Option ℕ) → set_place c point ≡ o → option_and_then (link_in_set c slc) o ≡ Some link → IsNamed point slc link
      by None f h = absurd cc
      by (Some its) f h =
          let none : LinkEntry = record { name = []; set = 0; slc = 0; share = None } in
          let found : (link < length c.links) × ((nat_eq (set_of c link) its && nat_eq (slice_index_or c.links link none).slc slc) ≡ true)
          × ((k : ℕ) → k < link → (nat_eq (slice_index_or c.links k none).set its && nat_eq (slice_index_or c.links k none).slc slc) ≡ false) =
          position-Some (λ (l : LinkEntry). nat_eq l.set its && nat_eq l.slc slc) c.links link none h in
          record {
            its = its;
            known = f;
            there = found.0;
            of_set = eqb-true (set_of c link) its (left-true (nat_eq (set_of c link) its) (nat_eq (slice_index_or c.links link none).slc slc) found.1);
          }

  named-apart : (point slc link : ℕ) → IsNamed point slc link → point ≢ z.own → set_of c link ≢ set c z j
  named-apart point slc link n d e = set-apart point n.its n.known d (sym n.of_set ∙ e)

  module _ (w : World) (arrived : List Message) where
    abbrev Pass : Node WholeQueues → Node WholeQueues → Type 0
    Pass n o = Passes c z j (at c z j w n arrived []) (at c z j w o arrived [])

    none : (n : Node WholeQueues) → Pass n n
    none n = passes-none c z j (at c z j w n arrived [])

    -- ---- a link test is answered on its link

    answered : (room : Option Cause) (link point : ℕ) (test : LinkTestValue) (n : Node WholeQueues) → in_service n.parts link ≡ true → is_adjacent c point ≡ true
        → Passes c z j (at c z j w n arrived (test_answer c point test ∷ [])) (at c z j w (send whole c room (Some link) (test_answer c point test) n) arrived [])
    answered (Some cause) link point test n serves adjacent =
        let m : Message = test_answer c point test in
        dropping c z j w n (send whole c (Some cause) (Some link) m n) arrived m [] refl (by_link-steps (sends-of (fit-steps c)) (Some cause) (link_of c n.parts (flow_of m)) m n refl) refl refl refl refl
    answered None link point test n serves adjacent =
        let m : Message = test_answer c point test in
        let stay : StaysFit c n (queue_on whole c link m n) = (fit-steps c).tested link point test n serves adjacent in
        ⊎_elim
        (λ (its : set_of c link ≡ set c z j).
        placing c z j w n arrived link m [] serves its stay
        (λ g user. let no : true ≡ false = sym (answer-management c point test) ∙ says-user c.own z.own j.base.there m user in absurd cc))
        (λ (d : set_of c link ≢ set c z j). leaving c z j w n arrived link m [] serves d (test-past c z j point test) stay)
        (cases_eq (set_of c link) (set c z j))

    kind-passes : (kind : TestKind) (link point : ℕ) (test : LinkTestValue) (n : Node WholeQueues) → in_service n.parts link ≡ true → is_adjacent c point ≡ true
        → length (test_answer c point test).sif ≤ SIF_OCTETS → Pass n (do_kind whole c kind link point test n).left
    kind-passes Test link point test n serves adjacent short =
        let m : Message = test_answer c point test in
        passes-both c z j _ _ _ (making c z j w n arrived m [] (test-past c z j point test) short) (answered (no_room whole c m n.queues) link point test n serves adjacent)
    kind-passes Acknowledgement link point test n serves adjacent short = on_test_answer-passes c z j w n arrived link serves point test

    test-passes : (r : Result LinkTestValue MgmtFault) (link point : ℕ) (n : Node WholeQueues) → in_service n.parts link ≡ true → is_adjacent c point ≡ true
        → ((test : LinkTestValue) → r ≡ Ok test → length (test_answer c point test).sif ≤ SIF_OCTETS) → Pass n (do_test whole c r link point n).left
    test-passes (Err fault) link point n serves adjacent short = none n
    test-passes (Ok test) link point n serves adjacent short = kind-passes test.kind link point test n serves adjacent (short test refl)

    -- ---- management of a third point

    order-past : (o : Option ℕ) (point slc : ℕ) (number : Option ℕ) (n : Node WholeQueues) → link_with_code c point slc ≡ o → point ≢ z.own → Pass n (do_order whole c o number n).left
    order-past None point slc number n e d = none n
    order-past (Some link) point slc number n e d =
        let named : IsNamed point slc link = is-named point slc link e in
        order_past-passes c z j w n arrived link number (named-apart point slc link named d) named.there

    answer-past : (o : Option ℕ) (point slc : ℕ) (number : Option ℕ) (n : Node WholeQueues) → link_with_code c point slc ≡ o → point ≢ z.own → Pass n (do_acknowledgement whole c o number n).left
    answer-past None point slc number n e d = none n
    answer-past (Some link) point slc number n e d =
        let named : IsNamed point slc link = is-named point slc link e in
        acknowledgement_past-passes c z j w n arrived link number (named-apart point slc link named d) named.there

    confirmed-past : (o : Option ℕ) (point code : ℕ) (n : Node WholeQueues) → set_place c point ≡ o → point ≢ z.own → Pass n (on_changeback_acknowledgement whole c o code n).left
    confirmed-past None point code n e d = none n
    confirmed-past (Some its) point code n e d = by (is_outstanding n.parts.codes its code)
      where
        by : (b : Bool) → Pass n (if b then answer Handled (with_parts n (freed its code n.parts)) else answer Ignored n).left
        by true = freed-elsewhere c z j w n arrived [] its code (set-apart point its e d)
        by false = none n

    past : (word : Management) (point : ℕ) (n : Node WholeQueues) → point < 2 ^ 14 → link_code_of word < 2 ^ 4 → point ≢ z.own → KnowsPoints c n → Pass n (on_management whole c word point n).left
    past says.TrafficRestartAllowed point n fits coded d knows = none n
    past (says.UserPartUnavailable about user_part cause) point n fits coded d knows = none n
    past (says.ExtendedChangeoverOrder slc number) point n fits coded d knows = order-past (link_with_code c point slc) point slc (Some number) n refl d
    past (says.EmergencyChangeoverOrder slc) point n fits coded d knows = order-past (link_with_code c point slc) point slc None n refl d
    past (says.ExtendedChangeoverAcknowledgement slc number) point n fits coded d knows = answer-past (link_with_code c point slc) point slc (Some number) n refl d
    past (says.EmergencyChangeoverAcknowledgement slc) point n fits coded d knows = answer-past (link_with_code c point slc) point slc None n refl d
    past (says.ChangebackDeclaration slc code) point n fits coded d knows = declaration_past-passes c z j w n arrived point slc code fits coded d
    past (says.ChangebackAcknowledgement slc code) point n fits coded d knows = confirmed-past (set_place c point) point code n refl d
    past (says.TransferProhibited about) point n fits coded d knows =
        on_route_status-passes c z j w arrived [] Prohibited (route_about (set_place c point) (destination_place c about)) n knows (untold-past point about d)
    past (says.TransferRestricted about) point n fits coded d knows =
        on_route_status-passes c z j w arrived [] Restricted (route_about (set_place c point) (destination_place c about)) n knows (untold-past point about d)
    past (says.TransferAllowed about) point n fits coded d knows =
        on_route_status-passes c z j w arrived [] Allowed (route_about (set_place c point) (destination_place c about)) n knows (untold-past point about d)
    past (says.RouteSetTestProhibited about) point n fits coded d knows = on_route_test-passes c z j w arrived [] tests.Prohibited (route_about (set_place c point) (destination_place c about)) n
    past (says.RouteSetTestRestricted about) point n fits coded d knows = on_route_test-passes c z j w arrived [] tests.Restricted (route_about (set_place c point) (destination_place c about)) n

    -- ---- what the other says that passes by

    plain : (word : Management) (point : ℕ) (n : Node WholeQueues) → IsPlain c z j (Ok word) → KnowsPoints c n → Pass n (on_management whole c word point n).left
    plain says.TrafficRestartAllowed point n e knows = none n
    plain (says.UserPartUnavailable about user_part cause) point n e knows = none n
    plain (says.ExtendedChangeoverOrder slc number) point n e knows = (let no : management_says (says.ExtendedChangeoverOrder slc number) ≡ Other = e.says in absurd cc)
    plain (says.EmergencyChangeoverOrder slc) point n e knows = (let no : management_says (says.EmergencyChangeoverOrder slc) ≡ Other = e.says in absurd cc)
    plain (says.ExtendedChangeoverAcknowledgement slc number) point n e knows = (let no : management_says (says.ExtendedChangeoverAcknowledgement slc number) ≡ Other = e.says in absurd cc)
    plain (says.EmergencyChangeoverAcknowledgement slc) point n e knows = (let no : management_says (says.EmergencyChangeoverAcknowledgement slc) ≡ Other = e.says in absurd cc)
    plain (says.ChangebackDeclaration slc code) point n e knows = (let no : management_says (says.ChangebackDeclaration slc code) ≡ Other = e.says in absurd cc)
    plain (says.ChangebackAcknowledgement slc code) point n e knows = (let no : management_says (says.ChangebackAcknowledgement slc code) ≡ Other = e.says in absurd cc)
    plain (says.TransferProhibited about) point n e knows =
        on_route_status-passes c z j w arrived [] Prohibited (route_about (set_place c point) (destination_place c about)) n knows (untold-plain point about e.untold)
    plain (says.TransferRestricted about) point n e knows =
        on_route_status-passes c z j w arrived [] Restricted (route_about (set_place c point) (destination_place c about)) n knows (untold-plain point about e.untold)
    plain (says.TransferAllowed about) point n e knows =
        on_route_status-passes c z j w arrived [] Allowed (route_about (set_place c point) (destination_place c about)) n knows (untold-plain point about e.untold)
    plain (says.RouteSetTestProhibited about) point n e knows = on_route_test-passes c z j w arrived [] tests.Prohibited (route_about (set_place c point) (destination_place c about)) n
    plain (says.RouteSetTestRestricted about) point n e knows = on_route_test-passes c z j w arrived [] tests.Restricted (route_about (set_place c point) (destination_place c about)) n

    -- ---- all management that passes by

    managed : (r : Result Management MgmtFault) (point : ℕ) (n : Node WholeQueues) → point < 2 ^ 14 → IsCoded r → (point ≡ z.own → IsPlain c z j r) → KnowsPoints c n
        → Pass n (do_management whole c r point n).left
    managed (Err fault) point n fits coded says knows = none n
    managed (Ok word) point n fits coded says knows =
        ⊎_elim (λ (same : point ≡ z.own). plain word point n (says same) knows) (λ (d : point ≢ z.own). past word point n fits (coded.fits word refl) d knows) (cases_eq point z.own)

    -- whatever comes, where management in the name of the other says nothing between the two
    pub manage-passes : (link : ℕ) (m : Message) (n : Node WholeQueues) → in_service n.parts link ≡ true → is_management m ≡ true → length m.sif ≤ SIF_OCTETS
        → (opc_of m ≡ z.own → service_indicator m ≡ 0 → IsPlain c z j (read_management m.sif)) → KnowsPoints c n → Pass n (manage whole c link m n).left
    manage-passes link m n serves management short says knows = by (is_adjacent c (opc_of m)) (nat_eq (service_indicator m) testing) refl refl
      where
        fits : opc_of m < 2 ^ 14
        fits = omega arith

        plain-indicator : nat_eq (service_indicator m) testing ≡ false → service_indicator m ≡ 0
        plain-indicator f = grind (arith, nat_tests, management, f)

        by : (adjacent test : Bool) → is_adjacent c (opc_of m) ≡ adjacent → nat_eq (service_indicator m) testing ≡ test
            → Pass n (if adjacent then (if test then do_test whole c (read_link_test m.sif) link (opc_of m) n else do_management whole c (read_management m.sif) (opc_of m) n) else answer (from_afar c m) n).left
        by true true e f = test-passes (read_link_test m.sif) link (opc_of m) n serves e (λ test h. answer-short c (opc_of m) m.sif test short h)
        by true false e f = managed (read_management m.sif) (opc_of m) n fits (coded-read m.sif) (λ same. says same (plain-indicator f)) knows
        by false test e f = none n
