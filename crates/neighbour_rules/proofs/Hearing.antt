-- A message that came is looked at, whether it is the other node's or passes by: by moves.
use Rattle.exchange_rules.specs.Messages.{from_afar}
use Rattle.pair_rules.proofs.Basics.{append-nil, ◌≡◌, ◌<◌, ◌≤◌, ◌&&◌, ◌||◌, ℕ, Bool, true, false, not, List, [], ◌∷◌, ◌++◌, length, Option, Some, Result, Ok, inr, refl, ap, sym, subst, ◌∙◌, nat_eq, nat_lt, arith, nat_tests, if◌then◌else◌, is_some, eq-eqb}
use Rattle.pair_rules.proofs.Definitions.{Message, SIF_OCTETS, is_management, service_indicator, network_indicator, dpc_of, opc_of, Configuration, Discrimination, Label, Management, MgmtFault, read_management, Node, Done, in_service, set_of, WholeQueues, whole, distribute, manage, local, do_management, do_order, do_acknowledgement, do_test, is_adjacent, testing, on_management, on_changeback_acknowledgement, deliver, deliver_to, whither_goes, link_with_code, all_wait, brought_here, brought_to, unitdata_in, Order, Answer, Saying, UserMessage, answer}
use Rattle.mtp3_codec.specs.Headings.{label_at}
use Rattle.mtp3_codec.specs.Management.{read_link_test}
use Rattle.mtp3_codec.specs.declared.discrimination.Discrimination.TheVariants as whither
use Rattle.settings.specs.Sharing.{SharesSet}
use Rattle.exchange_rules.proofs.Basics.{eqb-true}
use Rattle.exchange_rules.proofs.SharingNodes.{AreEnds, shared-ends}
use Rattle.pair_moves.specs.Moves as moves
use Rattle.pair_moves.specs.Sayings.{Other}
use Rattle.pair_rules.proofs.World.{World}
use Rattle.pair_rules.proofs.Going.{goes-one}
use Rattle.pair_rules.proofs.Bringing.{decided, here-network, is-no-sccp}
use Rattle.neighbour_rules.specs.Neighbours.{is_management_between, users_to}
use Rattle.neighbour_rules.proofs.World.{code_of, is_between, management_says, read_says, reading, says-alike, says_by, says_of}
use Rattle.neighbour_rules.proofs.Good.{IsAccepted, IsMade, IsSent, IsWord, Joint, Passes, accepted, answers, at, confirms, declares, made, orders, passes-both, passes_by, set}
use Rattle.neighbour_rules.proofs.Adjacents.{KnowsPoints}
use Rattle.neighbour_rules.proofs.Bringing.{accepting, goes-here, goes-short, local-passes, none-accepted, transferred, user-way}
use Rattle.neighbour_rules.proofs.ChangingOver.{acknowledgement-passes, order-passes}
use Rattle.neighbour_rules.proofs.Frames.{bringing, receiving}
use Rattle.neighbour_rules.proofs.Lates.{confirmation-passes, declaration-passes}
use Rattle.neighbour_rules.proofs.Made.{between-not}
use Rattle.neighbour_rules.proofs.Managing.{IsNamed, is-named, manage-passes}
use Rattle.neighbour_rules.proofs.Placing.{other-leaves}
use Rattle.neighbour_rules.proofs.Relinked.{note_outcome-passes}
use Rattle.neighbour_rules.proofs.Untold.{IsPlain, IsUntoldBy, untold-read}

-- ---- a message that is for this point

decided-own : (long short ours own : Bool) (its label : Label) → decided long short ours own its ≡ whither.Here label → own ≡ true
decided-own true short ours own its label e = absurd cc
decided-own false true ours own its label e = absurd cc
decided-own false false false own its label e = absurd cc
decided-own false false true true its label e = refl
decided-own false false true false its label e = absurd cc

decided-short : (long short ours own : Bool) (its label : Label) → decided long short ours own its ≡ whither.Here label → long ≡ false
decided-short true short ours own its label e = absurd cc
decided-short false short ours own its label e = refl

here-own : (c : Configuration) (m : Message) (label : Label) → whither_goes c m ≡ whither.Here label → dpc_of m ≡ c.own
here-own c m label e =
    eqb-true (dpc_of m) c.own
    (decided-own (nat_lt SIF_OCTETS (length m.sif)) (nat_lt (length m.sif) 4) (nat_eq (network_indicator m) c.network) (nat_eq (dpc_of m) c.own) (label_at m.sif) label e)

here-short : (c : Configuration) (m : Message) (label : Label) → whither_goes c m ≡ whither.Here label → length m.sif ≤ SIF_OCTETS
here-short c m label e =
    let short : nat_lt SIF_OCTETS (length m.sif) ≡ false =
    decided-short (nat_lt SIF_OCTETS (length m.sif)) (nat_lt (length m.sif) 4) (nat_eq (network_indicator m) c.network) (nat_eq (dpc_of m) c.own) (label_at m.sif) label e in
    grind (arith, nat_tests, short)

or-second : (a b : Bool) → b ≡ true → (a || b) ≡ true
or-second true b e = refl
or-second false b e = e

neither : (a b : Bool) → (a || b) ≡ false → b ≡ true → false ≡ true
neither true b e f = sym e
neither false b e f = sym e ∙ f

module _ (c z : Configuration) (j : Joint c z) where
  -- of what comes back
  abbrev read : Message → Saying
  read = says_of c.own z.own j.base.back

  -- ---- what is said between the two

  from-other : (m : Message) → service_indicator m ≡ 0 → opc_of m ≡ z.own → dpc_of m ≡ c.own → is_management_between z.own c.own m ≡ true
  from-other m si from to =
      ap (λ (b : Bool). b && (nat_eq (opc_of m) z.own && nat_eq (dpc_of m) c.own)) (eq-eqb (service_indicator m) 0 si)
      ∙ ap (λ (b : Bool). b && nat_eq (dpc_of m) c.own) (eq-eqb (opc_of m) z.own from)
      ∙ eq-eqb (dpc_of m) c.own to

  is-between : (m : Message) → service_indicator m ≡ 0 → opc_of m ≡ z.own → dpc_of m ≡ c.own → is_between c.own z.own m ≡ true
  is-between m si from to = or-second (is_management_between c.own z.own m) (is_management_between z.own c.own m) (from-other m si from to)

  managed-says : (m : Message) → is_management m ≡ true → service_indicator m ≡ 0 → opc_of m ≡ z.own → dpc_of m ≡ c.own → read m ≡ read_says (read_management m.sif)
  managed-says m management si from to =
      ap (λ (b : Bool). says_by b (is_between c.own z.own m) (nat_eq (dpc_of m) j.base.back) m) management
      ∙ ap (λ (b : Bool). says_by true b (nat_eq (dpc_of m) j.base.back) m) (is-between m si from to)

  -- management says the same in either direction
  management-alike : (m : Message) → is_management m ≡ true → says_of c.own z.own j.base.there m ≡ read m
  management-alike m e =
      ap (λ (b : Bool). says_by b (is_between c.own z.own m) (nat_eq (dpc_of m) j.base.there) m) e
      ∙ by (is_between c.own z.own m)
      ∙ sym (ap (λ (b : Bool). says_by b (is_between c.own z.own m) (nat_eq (dpc_of m) j.base.back) m) e)
    where
      by : (b : Bool) → says_by true b (nat_eq (dpc_of m) j.base.there) m ≡ says_by true b (nat_eq (dpc_of m) j.base.back) m
      by true = refl
      by false = refl

  user-says : (m : Message) → is_management m ≡ false → dpc_of m ≡ j.base.back → read m ≡ UserMessage
  user-says m user to =
      ap (λ (b : Bool). says_by b (is_between c.own z.own m) (nat_eq (dpc_of m) j.base.back) m) user
      ∙ ap (λ (b : Bool). says_by false (is_between c.own z.own m) b m) (eq-eqb (dpc_of m) j.base.back to)

  -- ---- what is received

  received-user : (m : Message) → is_management m ≡ false → dpc_of m ≡ j.base.back → users_to j.base.back (m ∷ []) ≡ m ∷ []
  received-user m user to =
      ap (λ (b : Bool). if not b && nat_eq (dpc_of m) j.base.back then m ∷ [] else []) user
      ∙ ap (λ (b : Bool). if b then m ∷ [] else []) (eq-eqb (dpc_of m) j.base.back to)

  received-none : (m : Message) → is_management m ≡ true → users_to j.base.back (m ∷ []) ≡ []
  received-none m management = ap (λ (b : Bool). if not b && nat_eq (dpc_of m) j.base.back then m ∷ [] else []) management

  received-past : (m : Message) → read m ≡ Other → users_to j.base.back (m ∷ []) ≡ []
  received-past m says = by (is_management m) (nat_eq (dpc_of m) j.base.back) refl refl
    where
      by : (b d : Bool) → is_management m ≡ b → nat_eq (dpc_of m) j.base.back ≡ d → (if not b && d then m ∷ [] else []) ≡ []
      by true d e f = refl
      by false false e f = refl
      by false true e f = (let no : UserMessage ≡ Other = sym (user-says m e (eqb-true (dpc_of m) j.base.back f)) ∙ says in absurd cc)

  -- ---- a word of the other

  -- the link that it means
  record IsMeant (link : ℕ) : Type 0 where
    other : ℕ
    there : other < length c.links
    its : set_of c other ≡ set c z j
    code : code_of c other ≡ code_of z link
    named : link_with_code c z.own (code_of z link) ≡ Some other

  abbrev turned_shares : SharesSet z c
  turned_shares = record {
    near_set = j.shares.far_set;
    far_set = j.shares.near_set;
    near_leads = j.shares.far_leads;
    far_leads = j.shares.near_leads;
    network = sym j.shares.network;
    codes = λ slc. sym (j.shares.codes slc);
  }

  is-meant : (link : ℕ) → link < length z.links → set_of z link ≡ j.shares.far_set → IsMeant link
  is-meant link l its =
      let found : (other : ℕ) × AreEnds z c link other = shared-ends z c turned_shares j.far_well link l its in
      let e : AreEnds z c link found.0 = found.1 in
      let n : IsNamed c z j z.own (code_of z link) found.0 = is-named c z j z.own (code_of z link) found.0 e.far_named in
      let same : Some n.its ≡ Some (set c z j) = sym n.known ∙ j.shares.near_leads.adjacent in
      record {
        other = found.0;
        there = e.there;
        its = n.of_set ∙ (let it : n.its ≡ set c z j = cc in it);
        code = e.slc;
        named = e.far_named;
      }

  hearing : (word : Management) → IsWord z j.shares.far_set word → (w : World) (n : Node WholeQueues) (m : Message) (rest : List Message) → read m ≡ management_says word
      → Passes c z j (at c z j w n (m ∷ rest) []) (at c z j w (on_management whole c word z.own n).left rest [])
  hearing _ (orders link number l its) w n m rest e =
      let o : IsMeant link = is-meant link l its in
      subst (λ (x : Option ℕ). Passes c z j (at c z j w n (m ∷ rest) []) (at c z j w (do_order whole c x (Some number) n).left rest [])) (sym o.named)
      (order-passes c z j w n m rest o.other number o.its (e ∙ ap (λ (k : ℕ). Order k number) (sym o.code)) o.there)
  hearing _ (answers link number l its) w n m rest e =
      let o : IsMeant link = is-meant link l its in
      subst (λ (x : Option ℕ). Passes c z j (at c z j w n (m ∷ rest) []) (at c z j w (do_acknowledgement whole c x (Some number) n).left rest [])) (sym o.named)
      (acknowledgement-passes c z j w n m rest o.other number o.its (e ∙ ap (λ (k : ℕ). Answer k number) (sym o.code)) o.there)
  hearing _ (declares slc code s k) w n m rest e = declaration-passes c z j w n m rest slc code e s k
  hearing _ (confirms slc code) w n m rest e =
      subst (λ (x : Option ℕ). Passes c z j (at c z j w n (m ∷ rest) []) (at c z j w (on_changeback_acknowledgement whole c x code n).left rest [])) (sym j.shares.near_leads.adjacent)
      (confirmation-passes c z j w n m rest code e)

  -- what it comes to
  pub word-left : (link : ℕ) (m : Message) (n : Node WholeQueues) (word : Management) → is_management m ≡ true → service_indicator m ≡ 0 → opc_of m ≡ z.own → read_management m.sif ≡ Ok word
      → distribute whole c link m n ≡ on_management whole c word z.own n
  word-left link m n word e si from f =
      ap (λ (b : Bool). if b then manage whole c link m n else local whole c (Some link) m n) e
      ∙ ap (λ (point : ℕ). from_point point) from
      ∙ ap (λ (o : Option ℕ). if is_some o then tested (nat_eq (service_indicator m) testing) else answer (from_afar c m) n) j.shares.near_leads.adjacent
      ∙ ap tested (ap (λ (k : ℕ). nat_eq k testing) si)
      ∙ ap (λ (r : Result Management MgmtFault). do_management whole c r z.own n) f
    where
      from_point : ℕ → Done WholeQueues
      from_point point =
          if is_adjacent c point
          then (if nat_eq (service_indicator m) testing then do_test whole c (read_link_test m.sif) link point n else do_management whole c (read_management m.sif) point n)
          else answer (from_afar c m) n

      tested : Bool → Done WholeQueues
      tested b = (if b then do_test whole c (read_link_test m.sif) link z.own n else do_management whole c (read_management m.sif) z.own n)

  -- ---- what becomes of messages that aren't for the laws

  module _ (w : World) (link : ℕ) (m : Message) (n : Node WholeQueues) (serves : in_service n.parts link ≡ true) (wait : all_wait c n.parts.holds n.queues.held ≡ true) (knows : KnowsPoints c n) where
    abbrev done : Discrimination → Done WholeQueues
    done d = deliver_to whole c d link m n

    abbrev left : Discrimination → World
    left d = at c z j (accepting c z j w (brought_to d (done d).outcome c m n)) (done d).left [] []

    abbrev before : World
    before = at c z j w n [] []

    -- management for this point brings nothing
    managed-here : (label : Label) → is_management m ≡ true → Passes c z j before (at c z j w (manage whole c link m n).left [] []) → Passes c z j before (left (whither.Here label))
    managed-here label e p =
        let ks : brought_here (done (whither.Here label)).outcome c m n ≡ [] =
        ap (λ (b : Bool). if b then unitdata_in (done (whither.Here label)).outcome c m n else []) (is-no-sccp m e) in
        subst (λ (xs : List Message). Passes c z j before (at c z j (accepting c z j w xs) (done (whither.Here label)).left [] [])) (sym ks)
        (subst (λ (b : Bool). Passes c z j before (at c z j (accepting c z j w []) (if b then manage whole c link m n else local whole c (Some link) m n).left [] [])) (sym e)
        (passes-both c z j _ _ _ p (none-accepted c z j w (manage whole c link m n).left)))

    -- a user message
    pub user-by : (d : Discrimination) → whither_goes c m ≡ d → is_management m ≡ false → Passes c z j before (left d)
    user-by (whither.Refused cause) e user = none-accepted c z j w n
    user-by (whither.Transfer label) e user = transferred c z j (Some link) w n m (λ known. user-way c z j m user (goes-short c z j m label e) (goes-here c z j m label e)) wait
    user-by (whither.Here label) e user =
        subst (λ (b : Bool).
        Passes c z j before
        (at c z j (accepting c z j w (brought_here (if b then manage whole c link m n else local whole c (Some link) m n).outcome c m n)) (if b then manage whole c link m n else local whole c (Some link) m n).left [] []))
        (sym user) (local-passes c z j w n m user (here-network c m label e) wait (Some link))

    -- management that passes by
    managed-by : (d : Discrimination) → whither_goes c m ≡ d → is_management m ≡ true → says_of c.own z.own j.base.there m ≡ Other
        → ((label : Label) → whither_goes c m ≡ whither.Here label → opc_of m ≡ z.own → service_indicator m ≡ 0 → IsPlain c z j (read_management m.sif)) → Passes c z j before (left d)
    managed-by (whither.Refused cause) e management says plain = none-accepted c z j w n
    managed-by (whither.Transfer label) e management says plain = transferred c z j (Some link) w n m (λ known. inr (record { says = says; short = goes-short c z j m label e })) wait
    managed-by (whither.Here label) e management says plain = managed-here label management (manage-passes c z j w [] link m n serves management (here-short c m label e) (plain label e) knows)

    -- one that passes by
    pub past-passes : read m ≡ Other → IsUntoldBy c z j m → Passes c z j before (left (whither_goes c m))
    past-passes says untold = by (is_management m) refl
      where
        by : (b : Bool) → is_management m ≡ b → Passes c z j before (left (whither_goes c m))
        by true f =
            managed-by (whither_goes c m) refl f (management-alike m f ∙ says)
            (λ label e from si. record { says = sym (managed-says m f si from (here-own c m label e)) ∙ says; untold = untold-read c z j m f untold })
        by false f = user-by (whither_goes c m) refl f

    -- any that isn't management between the two
    away-passes : is_between c.own z.own m ≡ false → Passes c z j before (left (whither_goes c m))
    away-passes apart = by (is_management m) refl
      where
        by : (b : Bool) → is_management m ≡ b → Passes c z j before (left (whither_goes c m))
        by true f =
            managed-by (whither_goes c m) refl f (between-not c z j m f apart)
            (λ label e from si. let no : false ≡ true = neither (is_management_between c.own z.own m) (is_management_between z.own c.own m) apart (from-other m si from (here-own c m label e)) in absurd cc)
        by false f = user-by (whither_goes c m) refl f

    -- a refusal is noted
    pub deliver-away : is_between c.own z.own m ≡ false
        → Passes c z j before (at c z j (accepting c z j w (brought_to (whither_goes c m) (deliver whole c link m n).outcome c m n)) (deliver whole c link m n).left [] [])
    deliver-away apart =
        let d : Done WholeQueues = done (whither_goes c m) in
        passes-both c z j _ _ _ (away-passes apart) (note_outcome-passes c z j d.outcome link (accepting c z j w (brought_to (whither_goes c m) d.outcome c m n)) d.left [] [])

  -- ---- a message from the other is looked at

  handing : (w : World) (n : Node WholeQueues) (m : Message) (rest : List Message) → is_management m ≡ false → dpc_of m ≡ j.base.back
      → Passes c z j (at c z j w n (m ∷ rest) []) (at c z j (receiving c z j w (m ∷ [])) n rest [])
  handing w n m rest user to =
      subst (λ (ms : List Message). Passes c z j (at c z j w n (m ∷ rest) []) (record w { near = record { node = n; arrived = rest; loose = []; accepted = w.near.accepted; received = w.near.received ++ ms } }))
      (sym (received-user m user to))
      (record {
        goes = λ g.
            goes-one (reading c.own z.own j.base) _ _
            (moves.hands_over (record {
              heard = record { message = m; rest = rest; first = refl; says = user-says m user to };
              after = refl;
            }));
        good = λ g. record {
          fits = g.fits;
          route = g.route;
          settled = g.settled;
          silent = g.silent;
          queued = g.queued;
          elsewhere = g.elsewhere;
          held = g.held;
          loose = tt;
          arrived = g.arrived.1;
          coming = g.coming;
          counted = g.counted;
        };
      })

  -- one that passes by leaves those that arrived
  overlooking : (w : World) (n : Node WholeQueues) (m : Message) (rest : List Message) → read m ≡ Other → Passes c z j (at c z j w n (m ∷ rest) []) (at c z j w n rest [])
  overlooking w n m rest says = record {
    goes = λ g.
        goes-one (reading c.own z.own j.base) _ _
        (moves.mixes_others (record {
          held = n.queues.held;
          loose = [];
          arrived = rest;
          held_stay = refl;
          loose_stay = refl;
          arrived_stay = sym (other-leaves read m rest says);
          after = refl;
        }));
    good = λ g. record {
      fits = g.fits;
      route = g.route;
      settled = g.settled;
      silent = g.silent;
      queued = g.queued;
      elsewhere = g.elsewhere;
      held = g.held;
      loose = tt;
      arrived = g.arrived.1;
      coming = g.coming;
      counted = g.counted;
    };
  }

  module _ (w : World) (n : Node WholeQueues) (link : ℕ) (m : Message) (serves : in_service n.parts link ≡ true) (wait : all_wait c n.parts.holds n.queues.held ≡ true) (knows : KnowsPoints c n) where
    abbrev came : World
    came = at c z j w n (m ∷ []) []

    -- what it brought, by where it goes
    abbrev brought : Discrimination → World
    brought d = at c z j (bringing c z j w (m ∷ []) (brought_to d (deliver_to whole c d link m n).outcome c m n)) (deliver_to whole c d link m n).left [] []

    -- nothing is received of it
    unreceived : (ms : List Message) (o : Node WholeQueues) → users_to j.base.back (m ∷ []) ≡ [] → Passes c z j came (at c z j (accepting c z j w ms) o [] [])
        → Passes c z j came (at c z j (bringing c z j w (m ∷ []) ms) o [] [])
    unreceived ms o none p =
        subst (λ (xs : List Message). Passes c z j came (record w { near = record { node = o; arrived = []; loose = []; accepted = w.near.accepted ++ users_to j.base.there ms; received = w.near.received ++ xs } }))
        (sym none)
        (subst (λ (xs : List Message). Passes c z j came (record w { near = record { node = o; arrived = []; loose = []; accepted = w.near.accepted ++ users_to j.base.there ms; received = xs } }))
        (sym (append-nil w.near.received)) p)

    accepted-passes : IsAccepted c j.base.back m → Passes c z j came (brought (whither_goes c m))
    accepted-passes is = passes-both c z j _ _ _ (handing w n m [] is.user is.to) (user-by (receiving c z j w (m ∷ [])) link m n serves wait knows (whither_goes c m) refl is.user)

    made-passes : IsMade z c j.shares.far_set m → Passes c z j came (brought (whither_goes c m))
    made-passes is =
        let left : (distribute whole c link m n).left ≡ (on_management whole c is.word z.own n).left =
        ap (λ (d : Done WholeQueues). d.left) (word-left link m n is.word is.management is.indicator is.from is.reads) in
        let ks : brought_here (distribute whole c link m n).outcome c m n ≡ [] =
        ap (λ (b : Bool). if b then unitdata_in (distribute whole c link m n).outcome c m n else []) (is-no-sccp m is.management) in
        subst (λ (d : Discrimination). Passes c z j came (brought d)) (sym is.here)
        (subst (λ (o : Node WholeQueues). Passes c z j came (at c z j (bringing c z j w (m ∷ []) (brought_here (distribute whole c link m n).outcome c m n)) o [] [])) (sym left)
        (subst (λ (xs : List Message). Passes c z j came (at c z j (bringing c z j w (m ∷ []) xs) (on_management whole c is.word z.own n).left [] [])) (sym ks)
        (unreceived [] (on_management whole c is.word z.own n).left (received-none m is.management)
        (passes-both c z j _ _ _
        (hearing is.word is.is w n m [] (managed-says m is.management is.indicator is.from is.to ∙ ap read_says is.reads))
        (none-accepted c z j w (on_management whole c is.word z.own n).left)))))

    overlooked : read m ≡ Other → IsUntoldBy c z j m → Passes c z j came (brought (whither_goes c m))
    overlooked says untold =
        unreceived (brought_to (whither_goes c m) (deliver_to whole c (whither_goes c m) link m n).outcome c m n) (deliver_to whole c (whither_goes c m) link m n).left (received-past m says)
        (passes-both c z j _ _ _ (overlooking w n m [] says) (past-passes w link m n serves wait knows says untold))

    sent-passes : IsSent z c j.base.back j.shares.far_set m → IsUntoldBy c z j m → Passes c z j came (brought (whither_goes c m))
    sent-passes (made is) untold = made-passes is
    sent-passes (accepted is) untold = accepted-passes is
    sent-passes (passes_by says short) untold = overlooked (ap (λ (f : Message → Saying). f m) (says-alike c.own z.own j.base.back) ∙ says) untold

    pub deliver-passes : IsSent z c j.base.back j.shares.far_set m → IsUntoldBy c z j m
        → Passes c z j came (at c z j (bringing c z j w (m ∷ []) (brought_to (whither_goes c m) (deliver whole c link m n).outcome c m n)) (deliver whole c link m n).left [] [])
    deliver-passes sent untold =
        let d : Done WholeQueues = deliver_to whole c (whither_goes c m) link m n in
        passes-both c z j _ _ _ (sent-passes sent untold) (note_outcome-passes c z j d.outcome link (bringing c z j w (m ∷ []) (brought_to (whither_goes c m) d.outcome c m n)) d.left [] [])
