-- What an event brings in, a submission, a message that passes through, or what SCCP makes of one for this point: by
-- moves.
use Rattle.signalling_types.specs.Message.{opc_of}
use Rattle.pair_rules.proofs.Basics.{◌≡◌, ◌≢◌, ◌⊎◌, inl, inr, ◌≤◌, ◌<◌, ℕ, Bool, true, false, not, ◌&&◌, List, [], ◌∷◌, ◌++◌, length, Option, Some, None, refl, ap, sym, subst, ◌∙◌, nat_eq, nat_lt, arith, if◌then◌else◌, nat_tests, append-nil, ⊎_elim, cases_eq, eq-eqb, slice_index_or}
use Rattle.std.proofs.lemmas.List.Quantifiers.{position-Some}
use Rattle.pair_rules.proofs.Definitions.{with_parts, with_titles, Message, flow_of, is_management, dpc_of, service_indicator, network_indicator, SIF_OCTETS, Cause, Outcome, Handled, Held, Ignored, Local, Queued, Refused, Configuration, DestinationEntry, IsWell, IsDestination, Discrimination, Label, Saying, UserMessage, is_user_message, destination_place, is_user, local, on_unitdata, sccp, Node, Done, answer, refuse, WholeQueues, whole, no_room_for, all_wait, waits, submit_to, whither_goes, link_of, comes-here}
use Rattle.signalling_types.specs.declared.cause.Cause.TheVariants as causes
use Rattle.mtp3_codec.specs.Headings.{label_at}
use Rattle.mtp3_codec.specs.declared.discrimination.Discrimination.TheVariants as whither
use Rattle.sccp_relay.specs.Relay as relays
use Rattle.sccp_relay.specs.Points.{OwnValue}
use Rattle.sccp_relay.specs.Returning.{returned}
use Rattle.exchange_rules.specs.Messages.{sst_ticks}
use Rattle.sccp_relay.specs.Statuses.{TitlesValue, heard}
use Rattle.neighbour_rules.proofs.Relinked.{titled-passes}
use Rattle.exchange_rules.specs.Messages.{is_destination, offer, transfer, in_place_of, own_of, relay_by, return_outcome, send_udts}
use Rattle.exchange_rules.specs.Conserving.{answered_in, brought_here, brought_to, relayed_in, returned_in, taken_in, unitdata_in}
use Rattle.exchange_rules.specs.Telling.{answer_no_route, answer_no_user_part}
use Rattle.exchange_rules.proofs.Basics.{eqb-true}
use Rattle.exchange_rules.proofs.LeavingMessages.{relay_by-leaves}
use Rattle.pair_moves.specs.Moves as moves
use Rattle.pair_moves.specs.Sayings.{Other}
use Rattle.pair_rules.proofs.Bringing.{decided, decided-on, here-network, is-no-sccp}
use Rattle.pair_rules.proofs.Written.{Fits, onward-fits, returned-fits}
use Rattle.pair_rules.proofs.World.{World}
use Rattle.pair_rules.proofs.Going.{goes-one}
use Rattle.neighbour_rules.specs.Neighbours.{users_to}
use Rattle.neighbour_rules.proofs.World.{is_between, reading, says_by, says_of}
use Rattle.neighbour_rules.proofs.Good.{ComesHere, IsAccepted, Joint, Passes, accepted, at, passes-both, passes-none}
use Rattle.neighbour_rules.proofs.Messages.{free-user, keeping, making, onto, says-user}
use Rattle.neighbour_rules.proofs.Made.{not-same}
use Rattle.neighbour_rules.proofs.Telling.{answer_no_route-passes, answer_no_user_part-passes}

-- a message that goes on isn't for this point
decided-away : (long short ours own : Bool) (its label : Label) → decided long short ours own its ≡ whither.Transfer label → own ≡ false
decided-away true short ours own its label e = absurd cc
decided-away false true ours own its label e = absurd cc
decided-away false false false own its label e = absurd cc
decided-away false false true true its label e = absurd cc
decided-away false false true false its label e = refl

-- a destination is another point
pub destination-far : (c : Configuration) → IsWell c → (point place : ℕ) → destination_place c point ≡ Some place → point ≢ c.own
destination-far c well point place e same =
    let none : DestinationEntry = record { point = 0; sets = []; joined = false } in
    let found : (place < length c.destinations) × (nat_eq point (slice_index_or c.destinations place none).point ≡ true)
    × ((k : ℕ) → k < place → nat_eq point (slice_index_or c.destinations k none).point ≡ false) = position-Some (λ d. nat_eq point d.point) c.destinations place none e in
    let known : IsDestination c.own (length c.sets) (slice_index_or c.destinations place none) = well.destinations place none found.0 in
    known.point.far (sym (eqb-true point (slice_index_or c.destinations place none).point found.1) ∙ same)

module _ (c z : Configuration) (j : Joint c z) where
  abbrev read : Message → Saying
  read = says_of c.own z.own j.base.there

  -- ---- what a message says that is on its way

  pub user-says : (m : Message) → is_management m ≡ false → dpc_of m ≡ j.base.there → read m ≡ UserMessage
  user-says m user to =
      ap (λ (b : Bool). says_by b (is_between c.own z.own m) (nat_eq (dpc_of m) j.base.there) m) user
      ∙ ap (λ (b : Bool). says_by false (is_between c.own z.own m) b m) (eq-eqb (dpc_of m) j.base.there to)

  past-says : (m : Message) → is_management m ≡ false → dpc_of m ≢ j.base.there → read m ≡ Other
  past-says m user d =
      ap (λ (b : Bool). says_by b (is_between c.own z.own m) (nat_eq (dpc_of m) j.base.there) m) user
      ∙ ap (λ (b : Bool). says_by false (is_between c.own z.own m) b m) (not-same (dpc_of m) j.base.there d)

  -- one that passes by isn't booked
  unbooked : (m : Message) → read m ≡ Other → users_to j.base.there (m ∷ []) ≡ []
  unbooked m says = by (is_management m) (nat_eq (dpc_of m) j.base.there) refl refl
    where
      by : (b d : Bool) → is_management m ≡ b → nat_eq (dpc_of m) j.base.there ≡ d → (if not b && d then m ∷ [] else []) ≡ []
      by true d e f = refl
      by false false e f = refl
      by false true e f = (let no : UserMessage ≡ Other = sym (user-says m e (eqb-true (dpc_of m) j.base.there f)) ∙ says in absurd cc)

  one-booked : (m : Message) → IsAccepted z j.base.there m → users_to j.base.there (m ∷ []) ≡ m ∷ []
  one-booked m is =
      ap (λ (b : Bool). if not b && nat_eq (dpc_of m) j.base.there then m ∷ [] else []) is.user
      ∙ ap (λ (b : Bool). if b then m ∷ [] else []) (eq-eqb (dpc_of m) j.base.there is.to)

  -- ---- a message comes in

  abbrev pub accepting : World → List Message → World
  accepting w ms = record w { near = record w.near { accepted = w.near.accepted ++ users_to j.base.there ms } }

  -- with these booked
  abbrev booking : World → List Message → World
  booking w ms = record w { near = record w.near { accepted = w.near.accepted ++ ms } }

  pub none-accepted : (w : World) (n : Node WholeQueues) → Passes c z j (at c z j w n [] []) (at c z j (accepting w []) n [] [])
  none-accepted w n =
      subst (λ (ms : List Message). Passes c z j (at c z j w n [] []) (record w { near = record { node = n; arrived = []; loose = []; accepted = ms; received = w.near.received } }))
      (sym (append-nil w.near.accepted)) (passes-none c z j (at c z j w n [] []))

  taking-in : (w : World) (n : Node WholeQueues) (m : Message) → IsAccepted z j.base.there m → Passes c z j (at c z j w n [] []) (at c z j (booking w (m ∷ [])) n [] (m ∷ []))
  taking-in w n m is = record {
    goes = λ g. goes-one (reading c.own z.own j.base) _ _ (moves.accepts (record { message = m; user = ap is_user_message (user-says m is.user is.to); after = refl }));
    good = λ g. record {
      fits = g.fits;
      route = g.route;
      settled = g.settled;
      silent = g.silent;
      queued = g.queued;
      elsewhere = g.elsewhere;
      held = g.held;
      loose = (accepted is, tt);
      arrived = g.arrived;
      coming = g.coming;
      counted = g.counted;
    };
  }

  -- a message for the other, or one that passes by
  pub record IsPassing (m : Message) : Type 0 where
    pub says : read m ≡ Other
    pub short : length m.sif ≤ SIF_OCTETS

  abbrev pub IsOnItsWay : Message → Type 0
  IsOnItsWay m = IsAccepted z j.base.there m ⊎ IsPassing m

  pub coming-in : (w : World) (n : Node WholeQueues) (m : Message) → IsOnItsWay m → Passes c z j (at c z j w n [] []) (at c z j (accepting w (m ∷ [])) n [] (m ∷ []))
  coming-in w n m (inl is) =
      subst (λ (ms : List Message). Passes c z j (at c z j w n [] []) (at c z j (booking w ms) n [] (m ∷ []))) (sym (one-booked m is)) (taking-in w n m is)
  coming-in w n m (inr past) =
      subst (λ (ms : List Message). Passes c z j (at c z j w n [] []) (at c z j (booking w ms) n [] (m ∷ []))) (sym (unbooked m past.says))
      (subst (λ (ms : List Message). Passes c z j (at c z j w n [] []) (record w { near = record { node = n; arrived = []; loose = m ∷ []; accepted = ms; received = w.near.received } }))
      (sym (append-nil w.near.accepted)) (making c z j w n [] m [] past.says past.short))

  -- ---- it is queued or held, or refused

  offered : (room : Option Cause) (b : Bool) (link from : Option ℕ) (w : World) (n : Node WholeQueues) (m : Message) → IsOnItsWay m → waits c n.parts.holds m ≡ b
      → link_of c n.parts (flow_of m) ≡ link → all_wait c n.parts.holds n.queues.held ≡ true
      → Passes c z j (at c z j w n [] []) (at c z j (accepting w (taken_in (offer whole c room b link from m n).outcome m)) (offer whole c room b link from m n).left [] [])
  offered (Some cause) b link from w n m is e f wait = none-accepted w n
  offered None true link from w n m is e f wait = passes-both c z j _ _ _ (coming-in w n m is) (keeping c z j (accepting w (m ∷ [])) n [] m [] e)
  offered None false None from w n m is e f wait =
      passes-both c z j _ _ _ (answer_no_route-passes c z j w [] [] from (destination_place c (dpc_of m)) n) (none-accepted w (answer_no_route whole c from (destination_place c (dpc_of m)) n))
  offered None false (Some link) from w n m is e f wait =
      passes-both c z j _ _ _ (coming-in w n m is)
      (onto c z j (accepting w (m ∷ [])) n [] link m [] f (λ g user. free-user c z j n.parts.holds m (says-user c.own z.own j.base.there m user) e) (λ user. wait) (λ g. g.loose.0))

  pub transferred : (from : Option ℕ) (w : World) (n : Node WholeQueues) (m : Message) → (is_destination c (dpc_of m) ≡ true → IsOnItsWay m) → all_wait c n.parts.holds n.queues.held ≡ true
      → Passes c z j (at c z j w n [] []) (at c z j (accepting w (taken_in (transfer whole c from m n).outcome m)) (transfer whole c from m n).left [] [])
  transferred from w n m is wait = by (is_destination c (dpc_of m)) refl
    where
      into : Done WholeQueues
      into = offer whole c (no_room_for whole c m n) (waits c n.parts.holds m) (link_of c n.parts (flow_of m)) from m n

      by : (b : Bool) → is_destination c (dpc_of m) ≡ b → Passes c z j (at c z j w n [] [])
          (at c z j (accepting w (taken_in (if b then into else refuse causes.UnknownDestination n).outcome m)) (if b then into else refuse causes.UnknownDestination n).left [] [])
      by true e = offered (no_room_for whole c m n) (waits c n.parts.holds m) (link_of c n.parts (flow_of m)) from w n m (is e) refl refl wait
      by false e = none-accepted w n

  -- a user message on its way to a destination
  pub user-way : (m : Message) → is_management m ≡ false → length m.sif ≤ SIF_OCTETS → (dpc_of m ≡ z.own → ComesHere z m) → IsOnItsWay m
  user-way m user short here =
      ⊎_elim (λ (to : dpc_of m ≡ j.base.there). inl (record { user = user; to = to; short = short; here = λ own. here (to ∙ own) }))
      (λ (d : dpc_of m ≢ j.base.there). inr (record { says = past-says m user d; short = short })) (cases_eq (dpc_of m) j.base.there)

  -- ---- what SCCP makes of a message for this point

  module _ (w : World) (n : Node WholeQueues) (m : Message) (user : is_management m ≡ false) (network : network_indicator m ≡ c.network) (wait : all_wait c n.parts.holds n.queues.held ≡ true) where
    written : (sif : List ℕ) → Fits sif
        → Passes c z j (at c z j w n [] [])
        (at c z j (accepting w (taken_in (transfer whole c None (in_place_of m sif) n).outcome (in_place_of m sif))) (transfer whole c None (in_place_of m sif) n).left [] [])
    written sif f =
        transferred None w n (in_place_of m sif)
        (λ known. user-way (in_place_of m sif) user f.short (λ to. record { label = label_at sif; here = comes-here z (in_place_of m sif) f.long f.short (network ∙ j.shares.network) to })) wait

    -- the UDTS that returns it
    answered : (udts : Option (List ℕ)) → ((sif : List ℕ) → udts ≡ Some sif → Fits sif)
        → Passes c z j (at c z j w n [] []) (at c z j (accepting w (returned_in udts c m n)) (send_udts whole c udts m n) [] [])
    answered (Some sif) f = written sif (f sif refl)
    answered None f = none-accepted w n

    abbrev rows : TitlesValue
    rows = n.parts.titles

    abbrev own : OwnValue
    own = own_of c n.parts

    -- where it is refused, which left the node as it was, or told that there is no route
    returning : (out : Message) (o : Outcome) (left : Node WholeQueues) → ((cause : Cause) → o ≡ Refused cause → left ≡ n)
        → Passes c z j (at c z j w n [] []) (at c z j (accepting w (taken_in o out)) left [] [])
        → Passes c z j (at c z j w n [] []) (at c z j (accepting w (taken_in o out ++ answered_in o c m n)) (return_outcome whole c o m left) [] [])
    returning out (Refused cause) left same p =
        subst (λ (x : Node WholeQueues).
        Passes c z j (at c z j w n [] []) (at c z j (accepting w (answered_in (Refused cause) c m n)) (return_outcome whole c (Refused cause) m x) [] []))
        (sym (same cause refl))
        (answered (returned own rows m.sif cause) (λ sif e. returned-fits own rows m.sif cause sif e))
    returning out (Queued link) left same p = p
    returning out Held left same p = p
    returning out Local left same p = p
    returning out Handled left same p = p
    returning out Ignored left same p = p

    abbrev relayed : relays.RelayedValue → Done WholeQueues
    relayed v = relay_by whole c v m n

    relayed-passes : (v : relays.RelayedValue) → relays.relay own rows m.sif ≡ v
        → Passes c z j (at c z j w n [] [])
        (at c z j (accepting w (relayed_in v (relayed v).outcome m ++ answered_in (relayed v).outcome c m n)) (return_outcome whole c (relayed v).outcome m (relayed v).left) [] [])
    relayed-passes relays.Delivered e = none-accepted w n
    relayed-passes (relays.Onward sif) e =
        returning (in_place_of m sif) (relayed (relays.Onward sif)).outcome (relayed (relays.Onward sif)).left (relay_by-leaves c n (relays.Onward sif) m).left
        (written sif (onward-fits own rows m.sif sif e))
    relayed-passes (relays.Heard news) e =
        let left : Node WholeQueues = with_parts n (with_titles (heard (sst_ticks c) news n.parts.titles) n.parts) in
        passes-both c z j _ _ _ (titled-passes c z j w n (heard (sst_ticks c) news n.parts.titles)) (none-accepted w left)
    relayed-passes (relays.Refused cause) e = answered (returned own rows m.sif cause) (λ sif e. returned-fits own rows m.sif cause sif e)

    pub unitdata-passes : Passes c z j (at c z j w n [] []) (at c z j (accepting w (unitdata_in (on_unitdata whole c m n).outcome c m n)) (on_unitdata whole c m n).left [] [])
    unitdata-passes = relayed-passes (relays.relay own rows m.sif) refl

    -- a message for SCCP, or for a user part
    pub local-passes : (from : Option ℕ) → Passes c z j (at c z j w n [] []) (at c z j (accepting w (brought_here (local whole c from m n).outcome c m n)) (local whole c from m n).left [] [])
    local-passes from = by (nat_eq (service_indicator m) sccp) (is_user c (service_indicator m))
      where
        origin : Option ℕ
        origin = destination_place c (opc_of m)

        absent : Node WholeQueues
        absent = answer_no_user_part whole c from origin m n

        by : (is_sccp listed : Bool) → Passes c z j (at c z j w n [] [])
            (at c z j
            (accepting w (if is_sccp then unitdata_in (if is_sccp then on_unitdata whole c m n else (if listed then answer Local n else refuse causes.NoUserPart absent)).outcome c m n else []))
            (if is_sccp then on_unitdata whole c m n else (if listed then answer Local n else refuse causes.NoUserPart absent)).left [] [])
        by true listed = unitdata-passes
        by false true = none-accepted w n
        by false false = passes-both c z j _ _ _ (answer_no_user_part-passes c z j w [] [] from origin m n) (none-accepted w absent)

  -- ---- a message that goes on

  pub goes-short : (m : Message) (label : Label) → whither_goes c m ≡ whither.Transfer label → length m.sif ≤ SIF_OCTETS
  goes-short m label e =
      let ours : (nat_lt SIF_OCTETS (length m.sif) ≡ false) × (nat_lt (length m.sif) 4 ≡ false) × (nat_eq (network_indicator m) c.network ≡ true) =
      decided-on (nat_lt SIF_OCTETS (length m.sif)) (nat_lt (length m.sif) 4) (nat_eq (network_indicator m) c.network) (nat_eq (dpc_of m) c.own) (label_at m.sif) label e in
      grind (arith, nat_tests, ours.0)

  -- the other takes it as its own, where it is for the other
  pub goes-here : (m : Message) (label : Label) → whither_goes c m ≡ whither.Transfer label → dpc_of m ≡ z.own → ComesHere z m
  goes-here m label e to =
      let ours : (nat_lt SIF_OCTETS (length m.sif) ≡ false) × (nat_lt (length m.sif) 4 ≡ false) × (nat_eq (network_indicator m) c.network ≡ true) =
      decided-on (nat_lt SIF_OCTETS (length m.sif)) (nat_lt (length m.sif) 4) (nat_eq (network_indicator m) c.network) (nat_eq (dpc_of m) c.own) (label_at m.sif) label e in
      let short : length m.sif ≤ SIF_OCTETS = grind (arith, nat_tests, ours.0) in
      let long : 4 ≤ length m.sif = grind (arith, nat_tests, ours.1) in
      let same : network_indicator m ≡ c.network = grind (arith, nat_tests, ours.2) in
      record { label = label_at m.sif; here = comes-here z m long short (same ∙ j.shares.network) to }

  -- ---- a user part hands a message over

  pub submitted : (d : Discrimination) (w : World) (n : Node WholeQueues) (m : Message) → whither_goes c m ≡ d → all_wait c n.parts.holds n.queues.held ≡ true
      → Passes c z j (at c z j w n [] []) (at c z j (accepting w (brought_to d (submit_to whole c d m n).outcome c m n)) (submit_to whole c d m n).left [] [])
  submitted (whither.Refused cause) w n m e wait = none-accepted w n
  submitted (whither.Here label) w n m e wait = by (is_management m) refl
    where
      by : (b : Bool) → is_management m ≡ b → Passes c z j (at c z j w n [] [])
          (at c z j (accepting w (brought_here (if b then refuse causes.NotInProfile n else local whole c None m n).outcome c m n)) (if b then refuse causes.NotInProfile n else local whole c None m n).left [] [])
      by true f =
          subst (λ (s : Bool). Passes c z j (at c z j w n [] []) (at c z j (accepting w (if s then unitdata_in (Refused causes.NotInProfile) c m n else [])) n [] []))
          (sym (is-no-sccp m f)) (none-accepted w n)
      by false f = local-passes w n m f (here-network c m label e) wait None
  submitted (whither.Transfer label) w n m e wait = by (is_management m) refl
    where
      by : (b : Bool) → is_management m ≡ b → Passes c z j (at c z j w n [] [])
          (at c z j (accepting w (taken_in (if b then refuse causes.NotInProfile n else transfer whole c None m n).outcome m)) (if b then refuse causes.NotInProfile n else transfer whole c None m n).left [] [])
      by true f = none-accepted w n
      by false f = transferred None w n m (λ known. user-way m f (goes-short m label e) (goes-here m label e)) wait
