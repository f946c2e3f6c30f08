-- Messages that a node accepts, makes, holds and lets go on, for the other or past it: each rule goes by moves.
use Rattle.pair_rules.proofs.Basics.{◌≡◌, ◌≢◌, ◌≤◌, length, ◌%◌, ◌^◌, ◌/◌, ◌&&◌, ℕ, Bool, true, false, not, List, [], ◌∷◌, ◌++◌, Option, Some, None, Result, Ok, Err, refl, ap, sym, subst, ◌∙◌, nat_eq, nat_lt, arith, filter, if◌then◌else◌, option_map, ⊎_elim, cases_eq, eq-eqb, nat_tests, and_right as free-false}
use Rattle.pair_rules.proofs.Definitions.{SELECTIONS, SIF_OCTETS, Message, flow_of, is_management, dpc_of, label_number, Flow, Cause, Configuration, destination_place, Management, MgmtFault, read_management, HoldSet, is_held, Procedure, held_by, Node, in_service, WholeQueues, queue_at, whole, queue_on, no_room, is_held_at, is_flow_held, waits, all_wait, link_of, set_of, facts, chosen_link, send, send_anew, send_routed, go, go_by, go_each, go_on, release, StaysFit, fit-steps, go_by-steps, Route, first_route, Standing, standing_at, Link, link_in, is_down, Saying, is_user_message, is_of_flow, is_same_flow, MayGo}
use Rattle.std.proofs.Common.{option_and_then, slice_index_or}
use Rattle.mtp3_codec.specs.declared.management.Management.TheVariants as says
use Rattle.flow_hold.specs.Holds as hold
use Rattle.exchange_rules.specs.Routing as holding
use Rattle.exchange_rules.proofs.LeavingMessages.{chosen_serves}
use Rattle.exchange_rules.proofs.LoneRoutes.{lone-chosen}
use Rattle.exchange_rules.proofs.Settling.{Waits, go-waits, left-true, right-true}
use Rattle.exchange_rules.proofs.SteppingMessages.{by_link-steps}
use Rattle.exchange_rules.proofs.Rules.{rules-of}
use Rattle.exchange_rules.proofs.Steps.{sends-of}
use Rattle.pair_moves.specs.Ends as ends
use Rattle.pair_moves.specs.Moves as moves
use Rattle.pair_moves.specs.Sayings.{Other}
use Rattle.pair_rules.proofs.World.{World}
use Rattle.pair_rules.proofs.Good.{IsSilent, Each, each-behind}
use Rattle.pair_rules.proofs.Going.{goes-one, goes-lost}
use Rattle.neighbour_rules.proofs.Counted.{IsBase, base-lost, beyond-lost, counts_of, with_loss}
use Rattle.neighbour_rules.proofs.World.{code_of, holds_at, is_between, management_says, procedure_of, read_says, reading, route_of, says_by, says_of, shown}
use Rattle.neighbour_rules.proofs.Good.{Good, IsMade, IsSent, Joint, Passes, accepted, at, made, passes-both, passes-none, passes_by, set}
use Rattle.neighbour_rules.proofs.Placing.{leaving, other-leaves, placing}

-- ---- what messages say

management-word : (m : Management) → is_user_message (management_says m) ≡ false
management-word (says.ExtendedChangeoverOrder slc number) = refl
management-word (says.ExtendedChangeoverAcknowledgement slc number) = refl
management-word (says.ChangebackDeclaration slc code) = refl
management-word (says.ChangebackAcknowledgement slc code) = refl
management-word says.TrafficRestartAllowed = refl
management-word (says.UserPartUnavailable point user_part cause) = refl
management-word (says.EmergencyChangeoverOrder slc) = refl
management-word (says.EmergencyChangeoverAcknowledgement slc) = refl
management-word (says.TransferProhibited point) = refl
management-word (says.TransferRestricted point) = refl
management-word (says.TransferAllowed point) = refl
management-word (says.RouteSetTestProhibited point) = refl
management-word (says.RouteSetTestRestricted point) = refl

pub word-says : (r : Result Management MgmtFault) → is_user_message (read_says r) ≡ false
word-says (Ok m) = management-word m
word-says (Err fault) = refl

by-kind : (m : Message) (management between either : Bool) → is_user_message (says_by management between either m) ≡ true → management ≡ false
by-kind m true true either e = (let no : true ≡ false = sym e ∙ word-says (read_management m.sif) in absurd cc)
by-kind m true false either e = absurd cc
by-kind m false between either e = refl

pub says-user : (one two point : ℕ) (m : Message) → is_user_message (says_of one two point m) ≡ true → is_management m ≡ false
says-user one two point m e = by-kind m (is_management m) (is_between one two m) (nat_eq (dpc_of m) point) e

-- ---- a flow that nothing holds

small-selection : (n : ℕ) → nat_lt (n / 2 ^ 28 % 2 ^ 4) 16 ≡ true
small-selection n = grind (arith, nat_tests)

not-true : (b : Bool) → (b ≡ true → false ≡ true) → b ≡ false
not-true true f = sym (f refl)
not-true false f = refl

none-holds : (h : HoldSet) (destination sls : ℕ) (procedure : Procedure) → is_held h destination sls ≡ false → hold.holds h procedure destination sls ≡ false
none-holds h destination sls procedure e = not-true (hold.holds h procedure destination sls) (λ f. sym e ∙ (held_by h destination sls).1 (procedure, f))

abbrev flow_with : (point sls : ℕ) → Flow
flow_with point sls = record { point = point; sls = sls }

module _ (c z : Configuration) (j : Joint c z) where
  abbrev read : Message → Saying
  read = says_of c.own z.own j.base.there

  -- ---- the link of a message for the other

  -- a flow that has a link has one of the set, where that alone leads to its point
  pub of-set : (n : Node WholeQueues) (m : Message) (link point destination : ℕ) → destination_place c point ≡ Some destination → slice_index_or n.parts.routes destination [] ≡ first_route (set c z j) ∷ []
      → dpc_of m ≡ point → link_of c n.parts (flow_of m) ≡ Some link → set_of c link ≡ set c z j
  of-set n m link point destination place route to e =
      lone-chosen c n.parts (set c z j) destination (flow_of m).sls link route
      (ap (option_and_then (λ (place : ℕ). chosen_link (facts c n.parts) place (flow_of m).sls)) (sym (ap (destination_place c) to ∙ place)) ∙ e)

  pub flow-routed : (n : Node WholeQueues) (m : Message) (link : ℕ) → dpc_of m ≡ j.base.there → link_of c n.parts (flow_of m) ≡ Some link → route_of c j.base.there (set c z j) n.parts (flow_of m) ≡ Some (code_of c link)
  flow-routed n m link to e =
      ap (λ (b : Bool). if b && nat_lt (flow_of m).sls SELECTIONS then option_map (code_of c) (link_of c n.parts (flow_of m)) else None) (eq-eqb (dpc_of m) j.base.there to)
      ∙ ap (λ (b : Bool). if b then option_map (code_of c) (link_of c n.parts (flow_of m)) else None) (small-selection (label_number m.sif))
      ∙ ap (option_map (code_of c)) e

  -- whether its flow is held
  held-there : (h : HoldSet) (f : Flow) → f.point ≡ j.base.there → is_held_at h (destination_place c f.point) f.sls ≡ is_held h j.destination f.sls
  held-there h f e = ap (λ (o : Option ℕ). is_held_at h o f.sls) (ap (destination_place c) e ∙ j.place)

  -- a message of Held of the same flow would wait for the same hold
  waits-same : (h : HoldSet) (m held : Message) → is_management held ≡ false → flow_of held ≡ flow_of m → is_flow_held c h m ≡ false → waits c h held ≡ false
  waits-same h m held user same e =
      ap (λ (b : Bool). not b && is_flow_held c h held) user
      ∙ ap (λ (f : Flow). is_held_at h (destination_place c f.point) f.sls) same
      ∙ e

  same-parts : (f g : Flow) → is_same_flow f g ≡ true → f ≡ g
  same-parts f g e =
      let point : f.point ≡ g.point = grind (arith, nat_tests, left-true (nat_eq f.point g.point) (nat_eq f.sls g.sls) e) in
      let sls : f.sls ≡ g.sls = grind (arith, nat_tests, right-true (nat_eq f.point g.point) (nat_eq f.sls g.sls) e) in
      ap (λ (k : ℕ). flow_with k f.sls) point ∙ ap (λ (k : ℕ). flow_with g.point k) sls

  none-of-flow : (h : HoldSet) (m : Message) (ms : List Message) → is_flow_held c h m ≡ false → all_wait c h ms ≡ true → filter (is_of_flow read (flow_of m)) ms ≡ []
  none-of-flow h m [] e w = refl
  none-of-flow h m (held ∷ ms) e w =
      by (is_of_flow read (flow_of m) held) refl (none-of-flow h m ms e (right-true (waits c h held) (all_wait c h ms) w))
    where
      by : (b : Bool) → is_of_flow read (flow_of m) held ≡ b → filter (is_of_flow read (flow_of m)) ms ≡ []
          → (if b then held ∷ filter (is_of_flow read (flow_of m)) ms else filter (is_of_flow read (flow_of m)) ms) ≡ []
      by true f rest =
          let user : is_management held ≡ false = says-user c.own z.own j.base.there held (left-true (is_user_message (read held)) (is_same_flow (flow_of held) (flow_of m)) f) in
          let same : flow_of held ≡ flow_of m = same-parts (flow_of held) (flow_of m) (right-true (is_user_message (read held)) (is_same_flow (flow_of held) (flow_of m)) f) in
          let no : false ≡ true = sym (waits-same h m held user same e) ∙ left-true (waits c h held) (all_wait c h ms) w in
          absurd cc
      by false f rest = rest

  pub may-go : (n : Node WholeQueues) (loose arrived : List Message) (w : World) (m : Message) (link : ℕ) → dpc_of m ≡ j.base.there → is_flow_held c n.parts.holds m ≡ false
      → all_wait c n.parts.holds n.queues.held ≡ true → link_of c n.parts (flow_of m) ≡ Some link
      → MayGo read (shown c z (set c z j) j.shares.far_set j.base (at c z j w n arrived loose)).near (flow_of m) (code_of c link)
  may-go n loose arrived w m link to free wait e = record {
    routed = flow-routed n m link to e;
    unheld = λ procedure. free-false _ _ (unheld-at (destination_place c j.base.there) j.place procedure);
    none_held = none-of-flow n.parts.holds m n.queues.held free wait;
  }
    where
      unheld-at : (o : Option ℕ) → o ≡ Some j.destination → (procedure : ends.Procedure) → holds_at c j.base.there (set c z j) o n.parts procedure (flow_of m).sls ≡ false
      unheld-at o f procedure =
          ap (λ (x : Option ℕ). holds_at c j.base.there (set c z j) x n.parts procedure (flow_of m).sls) f
          ∙ none-holds n.parts.holds j.destination (flow_of m).sls (procedure_of c j.base.there (set c z j) procedure) (sym (held-there n.parts.holds (flow_of m) to) ∙ free)

  -- ---- a message goes onto the link of its flow

  -- one for the other goes onto a link of the set; one that passes by, onto any
  pub onto : (w : World) (n : Node WholeQueues) (arrived : List Message) (link : ℕ) (m : Message) (rest : List Message) → link_of c n.parts (flow_of m) ≡ Some link
      → (Good c z j (at c z j w n arrived (m ∷ rest)) → is_user_message (read m) ≡ true → is_flow_held c n.parts.holds m ≡ false)
      → (is_user_message (read m) ≡ true → all_wait c n.parts.holds n.queues.held ≡ true)
      → (Good c z j (at c z j w n arrived (m ∷ rest)) → IsSent c z j.base.there (set c z j) m)
      → Passes c z j (at c z j w n arrived (m ∷ rest)) (at c z j w (queue_on whole c link m n) arrived rest)
  onto w n arrived link m rest e free wait sent = record { goes = λ g. (passes g).goes g; good = λ g. (passes g).good g }
    where
      serves : in_service n.parts link ≡ true
      serves = chosen_serves c n.parts (flow_of m) link e

      stay : StaysFit c n (queue_on whole c link m n)
      stay = (fit-steps c).routed link m n e

      bound : Good c z j (at c z j w n arrived (m ∷ rest)) → dpc_of m ≡ j.base.there → Passes c z j (at c z j w n arrived (m ∷ rest)) (at c z j w (queue_on whole c link m n) arrived rest)
      bound g to =
          placing c z j w n arrived link m rest serves (of-set n m link j.base.there j.destination j.place g.route.beyond to e) stay
          (λ h user. may-go n (m ∷ rest) arrived w m link to (free h user) (wait user) e)

      between : Good c z j (at c z j w n arrived (m ∷ rest)) → IsMade c z (set c z j) m → Passes c z j (at c z j w n arrived (m ∷ rest)) (at c z j w (queue_on whole c link m n) arrived rest)
      between g is =
          placing c z j w n arrived link m rest serves (of-set n m link z.own j.adjacent j.adjacent_place g.route.between is.to e) stay
          (λ h user. let no : true ≡ false = sym is.management ∙ says-user c.own z.own j.base.there m user in absurd cc)

      -- one that passes by takes whichever link it takes
      past : read m ≡ Other → Passes c z j (at c z j w n arrived (m ∷ rest)) (at c z j w (queue_on whole c link m n) arrived rest)
      past says =
          ⊎_elim
          (λ (its : set_of c link ≡ set c z j).
          placing c z j w n arrived link m rest serves its stay
          (λ h user. let no : true ≡ false = sym user ∙ ap is_user_message says in absurd cc))
          (λ (d : set_of c link ≢ set c z j). leaving c z j w n arrived link m rest serves d says stay)
          (cases_eq (set_of c link) (set c z j))

      passes : Good c z j (at c z j w n arrived (m ∷ rest)) → Passes c z j (at c z j w n arrived (m ∷ rest)) (at c z j w (queue_on whole c link m n) arrived rest)
      passes g = by (sent g)
        where
          by : IsSent c z j.base.there (set c z j) m → Passes c z j (at c z j w n arrived (m ∷ rest)) (at c z j w (queue_on whole c link m n) arrived rest)
          by (made is) = between g is
          by (accepted is) = bound g is.to
          by (passes_by says short) = past says

  -- ---- messages of Held go on

  pub free-user : (h : HoldSet) (m : Message) → is_management m ≡ false → waits c h m ≡ false → is_flow_held c h m ≡ false
  free-user h m user e = ap (λ (b : Bool). not b && is_flow_held c h m) (sym user) ∙ e

  pub keeping : (w : World) (n : Node WholeQueues) (arrived : List Message) (m : Message) (rest : List Message) → waits c n.parts.holds m ≡ true
      → Passes c z j (at c z j w n arrived (m ∷ rest)) (at c z j w (holding.hold whole m n) arrived rest)
  keeping w n arrived m rest e = record {
    goes = λ g. goes-one (reading c.own z.own j.base) _ _ (moves.keeps (record { message = m; rest = rest; first = refl; after = refl }));
    good = λ g. record {
      fits = ((fit-steps c).held m n e).stay g.fits;
      route = g.route;
      settled = g.settled;
      silent = g.silent;
      queued = g.queued;
      elsewhere = g.elsewhere;
      held = each-behind (IsSent c z j.base.there (set c z j)) n.queues.held (m ∷ []) g.held (g.loose.0, tt);
      loose = g.loose.1;
      arrived = g.arrived;
      coming = g.coming;
      counted = g.counted;
    };
  }

  -- what is nowhere is given up: that is counted
  pub dropping : (w : World) (n o : Node WholeQueues) (arrived : List Message) (m : Message) (rest : List Message) → counts_of o.parts ≡ with_loss (counts_of n.parts) → StaysFit c n o → o.queues ≡ n.queues
      → o.parts.routes ≡ n.parts.routes → o.parts.links ≡ n.parts.links → o.parts.changeovers ≡ n.parts.changeovers
      → Passes c z j (at c z j w n arrived (m ∷ rest)) (at c z j w o arrived rest)
  dropping w n o arrived m rest lost stay queues routes links changeovers = record {
    goes = λ g. goes-lost (reading c.own z.own j.base) _ _ (beyond-lost j.base.near (counts_of n.parts) (counts_of o.parts) j.grows lost g.counted);
    good = λ g. record {
      fits = stay.stay g.fits;
      route = record {
        beyond = ap (λ (rs : List (List Route)). slice_index_or rs j.destination []) routes ∙ g.route.beyond;
        between = ap (λ (rs : List (List Route)). slice_index_or rs j.adjacent []) routes ∙ g.route.between;
      };
      settled = λ link up.
          ap (λ (xs : List Standing). standing_at xs link) changeovers
          ∙ g.settled link (ap (λ (xs : List Link). is_down (link_in xs link).alignment) (sym links) ∙ up);
      silent = subst (λ (xs : List Link). (link : ℕ) → IsSilent (link_in xs link)) (sym links) g.silent;
      queued = subst (λ (qs : WholeQueues). (link : ℕ) → Each (IsSent c z j.base.there (set c z j)) (queue_at qs link).all) (sym queues) g.queued;
      elsewhere = subst (λ (qs : WholeQueues). (link : ℕ) → set_of c link ≢ set c z j → Each (λ x. read x ≡ Other) (queue_at qs link).all) (sym queues) g.elsewhere;
      held = subst (λ (qs : WholeQueues). Each (IsSent c z j.base.there (set c z j)) qs.held) (sym queues) g.held;
      loose = g.loose.1;
      arrived = g.arrived;
      coming = g.coming;
      counted = subst (IsBase j.base.near) (sym lost) (base-lost j.base.near (counts_of n.parts) j.grows g.counted);
    };
  }

  pub go_by-passes : (b : Bool) (w : World) (n : Node WholeQueues) (arrived : List Message) (m : Message) (rest : List Message) → waits c n.parts.holds m ≡ b
      → all_wait c n.parts.holds n.queues.held ≡ true → Passes c z j (at c z j w n arrived (m ∷ rest)) (at c z j w (go_by whole c b m n) arrived rest)
  go_by-passes true w n arrived m rest e wait = keeping w n arrived m rest e
  go_by-passes false w n arrived m rest e wait = by (link_of c n.parts (flow_of m)) refl
    where
      by : (link : Option ℕ) → link_of c n.parts (flow_of m) ≡ link → Passes c z j (at c z j w n arrived (m ∷ rest)) (at c z j w (go_on whole c link m n) arrived rest)
      by (Some link) f = onto w n arrived link m rest f (λ g user. free-user n.parts.holds m (says-user c.own z.own j.base.there m user) e) (λ user. wait) (λ g. g.loose.0)
      by None f =
          dropping w n (go_on whole c None m n) arrived m rest refl (subst (λ (link : Option ℕ). StaysFit c n (go_on whole c link m n)) f (go_by-steps (rules-of (fit-steps c)) false m n e)) refl refl refl refl

  pub go_each-passes : (w : World) (n : Node WholeQueues) (arrived ms : List Message) → all_wait c n.parts.holds n.queues.held ≡ true
      → Passes c z j (at c z j w n arrived (ms ++ [])) (at c z j w (go_each whole c ms n) arrived [])
  go_each-passes w n arrived [] wait = passes-none c z j (at c z j w n arrived [])
  go_each-passes w n arrived (m ∷ ms) wait =
      let one : Node WholeQueues = go whole c m n in
      let still : Waits c n.parts.holds one = go-waits c n.parts.holds m n (record { same = refl; all = wait }) in
      passes-both c z j _ _ _ (go_by-passes (waits c n.parts.holds m) w n arrived m (ms ++ []) refl wait)
      (go_each-passes w one arrived ms (ap (λ (h : HoldSet). all_wait c h one.queues.held) still.same ∙ still.all))

  taking_out : (w : World) (n : Node WholeQueues) (arrived : List Message)
      → Passes c z j (at c z j w n arrived []) (at c z j w (record n { queues = whole.without_held n.queues }) arrived (n.queues.held ++ []))
  taking_out w n arrived = record {
    goes = λ g. goes-one (reading c.own z.own j.base) _ _ (moves.takes_out (record { after = refl }));
    good = λ g. record {
      fits = ((fit-steps c).taken_out n).stay g.fits;
      route = g.route;
      settled = g.settled;
      silent = g.silent;
      queued = g.queued;
      elsewhere = g.elsewhere;
      held = tt;
      loose = each-behind (IsSent c z j.base.there (set c z j)) n.queues.held [] g.held tt;
      arrived = g.arrived;
      coming = g.coming;
      counted = g.counted;
    };
  }

  -- the end of each event
  pub release-passes : (w : World) (n : Node WholeQueues) (arrived : List Message) → Passes c z j (at c z j w n arrived []) (at c z j w (release whole c n) arrived [])
  release-passes w n arrived =
      passes-both c z j _ _ _ (taking_out w n arrived) (go_each-passes w (record n { queues = whole.without_held n.queues }) arrived n.queues.held refl)

  -- ---- management that is nowhere goes out on the link of its flow

  none-user : (m : Message) {A : Type 0} → is_management m ≡ true → is_user_message (read m) ≡ true → A
  none-user m e f = (let no : true ≡ false = sym e ∙ says-user c.own z.own j.base.there m f in absurd cc)

  pub send-passes : (room : Option Cause) (link : Option ℕ) (w : World) (n : Node WholeQueues) (arrived : List Message) (m : Message) (rest : List Message) → is_management m ≡ true
      → link_of c n.parts (flow_of m) ≡ link → Passes c z j (at c z j w n arrived (m ∷ rest)) (at c z j w (send whole c room link m n) arrived rest)
  send-passes (Some cause) link w n arrived m rest e f =
      dropping w n (send whole c (Some cause) link m n) arrived m rest refl (by_link-steps (sends-of (fit-steps c)) (Some cause) link m n f) refl refl refl refl
  send-passes None None w n arrived m rest e f =
      dropping w n (send whole c None None m n) arrived m rest refl (by_link-steps (sends-of (fit-steps c)) None None m n f) refl refl refl refl
  send-passes None (Some link) w n arrived m rest e f =
      onto w n arrived link m rest f (λ g user. none-user m e user) (λ user. none-user m e user) (λ g. g.loose.0)

  pub send_routed-passes : (w : World) (n : Node WholeQueues) (arrived : List Message) (m : Message) (rest : List Message) → is_management m ≡ true
      → Passes c z j (at c z j w n arrived (m ∷ rest)) (at c z j w (send_routed whole c m n) arrived rest)
  send_routed-passes w n arrived m rest e = send-passes (no_room whole c m n.queues) (link_of c n.parts (flow_of m)) w n arrived m rest e refl

  pub send_anew-passes : (w : World) (n : Node WholeQueues) (arrived : List Message) (m : Message) (rest : List Message) → is_management m ≡ true
      → Passes c z j (at c z j w n arrived (m ∷ rest)) (at c z j w (send_anew whole c m n) arrived rest)
  send_anew-passes w n arrived m rest e = send-passes None (link_of c n.parts (flow_of m)) w n arrived m rest e refl

  -- ---- a message that passes by comes up

  pub making : (w : World) (n : Node WholeQueues) (arrived : List Message) (m : Message) (rest : List Message) → read m ≡ Other → length m.sif ≤ SIF_OCTETS
      → Passes c z j (at c z j w n arrived rest) (at c z j w n arrived (m ∷ rest))
  making w n arrived m rest says short = record {
    goes = λ g.
        goes-one (reading c.own z.own j.base) _ _
        (moves.mixes_others (record {
          held = n.queues.held;
          loose = m ∷ rest;
          arrived = arrived;
          held_stay = refl;
          loose_stay = other-leaves read m rest says;
          arrived_stay = refl;
          after = refl;
        }));
    good = λ g. record {
      fits = g.fits;
      route = g.route;
      settled = g.settled;
      silent = g.silent;
      queued = g.queued;
      elsewhere = g.elsewhere;
      held = g.held;
      loose = (passes_by says short, g.loose);
      arrived = g.arrived;
      coming = g.coming;
      counted = g.counted;
    };
  }
