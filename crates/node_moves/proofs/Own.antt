-- Rules that send the node's own management, of which no law speaks, and change nothing else that shows.
use Rattle.node_moves.proofs.Basics.{◌≡◌, ℕ, Bool, true, false, not, ◌&&◌, ◌≤◌, ◌+◌, ◌*◌, ◌%◌, List, [], ◌∷◌, length, Option, Some, None, inl, inr, Result, Ok, Err, refl, ap, sym, subst, ◌∙◌, arith, if◌then◌else◌, nat_lt, nat_tests, length-set, append_assoc, ◌++◌}
use Rattle.node_moves.proofs.Machine.{Other, is_user_message, Shape}
use Rattle.node_moves.proofs.Definitions.{Message, flow_of, opc_of, dpc_of, service_indicator, Configuration, IsWell, Node, Done, WholeQueues, Parts, Link, down_link, whole, with_parts, answer, links_with, link_at, in_service, changeover_of, queue_on, link_of, no_room, set_of, adjacent_of, management_to, Management, read_management, SIF_OCTETS}
use Rattle.node_moves.proofs.Reading.{IsShape, says_of, read_says, is_long, says-managed}
use Rattle.node_moves.proofs.Shown.{Books, naming, IsSilent, Marks, marks_of}
use Rattle.node_moves.proofs.Ways.{forced-ways}
use Rattle.node_moves.proofs.Going.{Goes, goes-none, goes-both}
use Rattle.node_moves.proofs.Handling.{AreAlike, mid, names-more, goes-alike, makes, discards-loose, places}
use Rattle.exchange_rules.proofs.Lists.{alike-at, each-set}
use Rattle.exchange_rules.proofs.LeavingMessages.{chosen_serves}
use Rattle.exchange_rules.proofs.MadeManagement.{made-indicator, made-short}
use Rattle.exchange_rules.specs.Telling.{send, send_routed, unsent, tell, tell_if, tell_each, may_tell, told_parts, telling, route_message, is_led, prohibit, inhibited, is_inhibited, answer_no_route, unavailable, unequipped_counted, is_unequipped_told, tell_unavailable, answer_no_user_part, answered_parts, send_route_status, on_route_test}
unfoldable use Rattle.exchange_rules.specs.Telling.{tell_owed}
use Rattle.exchange_rules.specs.ChangingBack.{changeback_acknowledgement}
use Rattle.exchange_rules.specs.Routing.{facts, point_of}
use Rattle.exchange_rules.specs.Rerouting.{apply_route_status, on_route_status, ask, ask_by, ask_again, with_next_test, prohibited_test, restricted_test, rerouted_by, forced, held_by_rerouting, timed_status}
use Rattle.mtp3_codec.specs.declared.management.Management.TheVariants as says
use Rattle.mtp3_codec.specs.declared.unavailability.UnavailabilityCause.TheVariants.{Unequipped}
use Rattle.node_links.specs.NodeLinks.{link_in}
use Rattle.route_management.specs.Told as told
use Rattle.route_management.specs.Told.{Owed, owed}
use Rattle.route_management.specs.declared.heard.Heard.{Heard}
use Rattle.route_management.specs.declared.heard.Heard.TheVariants as hears
use Rattle.route_management.specs.declared.heard.RouteTest.{RouteTest}
use Rattle.changeback.specs.Rerouting.{rerouted}
use Rattle.routes.specs.Routes.{status_of}
use Rattle.routes.specs.declared.route.Route.{Route}
use Rattle.routes.specs.declared.route.RouteStatus.{RouteStatus}
use Rattle.routes.specs.declared.route.RouteStatus.TheVariants.{Allowed, Restricted, Prohibited}
use Rattle.signalling_types.specs.declared.cause.Cause.{Cause}
use Rattle.signalling_types.specs.declared.outcome.Outcome.{Outcome}
use Rattle.signalling_types.specs.declared.outcome.Outcome.TheVariants.{Handled, Ignored}

-- ---- what a node makes itself says nothing of changeovers, but in orders and answers

short-so : (k : ℕ) → k ≤ 8 → nat_lt SIF_OCTETS k ≡ false
short-so k l = grind (arith, nat_tests, l)

module _ (c : Configuration) (well : IsWell c) where
  pub made-brief : (point : ℕ) (word : Management) → is_long (management_to c point word) ≡ false
  made-brief point word = short-so (length (management_to c point word).sif) (made-short c well point word)

  pub made-read : (point : ℕ) (word : Management) → says_of (management_to c point word)
      ≡ read_says (opc_of (management_to c point word)) (dpc_of (management_to c point word)) (read_management (management_to c point word).sif)
  made-read point word = says-managed (management_to c point word) (made-brief point word) (made-indicator c well point word)

  pub declared-other : (point slc code : ℕ) → says_of (management_to c point (says.ChangebackDeclaration slc code)) ≡ Other
  declared-other point slc code = made-read point (says.ChangebackDeclaration slc code) ∙ refl

  pub confirmed-other : (point slc code : ℕ) → says_of (changeback_acknowledgement c point slc code) ≡ Other
  confirmed-other point slc code = made-read point (says.ChangebackAcknowledgement slc code) ∙ refl

  pub tested-other : (point about : ℕ) → says_of (management_to c point (says.RouteSetTestProhibited about)) ≡ Other
  tested-other point about = made-read point (says.RouteSetTestProhibited about) ∙ refl

  pub restricted-other : (point about : ℕ) → says_of (management_to c point (says.RouteSetTestRestricted about)) ≡ Other
  restricted-other point about = made-read point (says.RouteSetTestRestricted about) ∙ refl

  pub told-other : (point about : ℕ) (status : RouteStatus) → says_of (management_to c point (telling status about)) ≡ Other
  told-other point about Prohibited = made-read point (says.TransferProhibited about) ∙ refl
  told-other point about Restricted = made-read point (says.TransferRestricted about) ∙ refl
  told-other point about Allowed = made-read point (says.TransferAllowed about) ∙ refl

  pub absent-other : (m : Message) → says_of (unavailable c m) ≡ Other
  absent-other m = made-read (opc_of m) (says.UserPartUnavailable c.own (service_indicator m) Unequipped) ∙ refl

  pub test-indicator : (network : ℕ) → (network * 64 + 1) % 16 ≡ 1
  test-indicator network = omega arith

module _ (shape : Shape) (o : IsShape shape) (c : Configuration) (well : IsWell c) where
  -- whatever came, and whatever else is at the node
  pub record K (n m : Node WholeQueues) : Type 0 where
    pub each : (a l : List Message) (k : Books) → Goes shape c (mid n a l k) (mid m a l k)

  -- the same, and these are named as lost
  pub record Names (n m : Node WholeQueues) (lost : List Message) : Type 0 where
    pub each : (a l : List Message) (k : Books) → Goes shape c (mid n a l k) (mid m a l (naming k lost))

  pub named-besides : (n m : Node WholeQueues) (lost : List Message) → K n m → Names n m lost
  named-besides n m lost e = record { each = λ a l k. names-more shape o c well (mid n a l k) m a l k lost (e.each a l k) }

  pub named-after : (n m o : Node WholeQueues) (lost : List Message) → K n m → Names m o lost → Names n o lost
  named-after n m o lost e f = record { each = λ a l k. goes-both shape c (mid n a l k) (mid m a l k) (mid o a l (naming k lost)) (e.each a l k) (f.each a l k) }

  pub named-before : (n m o : Node WholeQueues) (lost : List Message) → Names n m lost → K m o → Names n o lost
  named-before n m o lost e f = record { each = λ a l k. goes-both shape c (mid n a l k) (mid m a l (naming k lost)) (mid o a l (naming k lost)) (e.each a l k) (f.each a l (naming k lost)) }

  pub named-twice : (k : Books) (xs ys : List Message) → naming (naming k xs) ys ≡ naming k (xs ++ ys)
  named-twice k xs ys = ap (λ (ms : List Message). record k { named = ms }) (append_assoc k.named xs ys)

  pub both-named : (n m o : Node WholeQueues) (xs ys : List Message) → Names n m xs → Names m o ys → Names n o (xs ++ ys)
  both-named n m o xs ys e f = record {
    each = λ a l k. subst (λ (j : Books). Goes shape c (mid n a l k) (mid o a l j)) (named-twice k xs ys)
        (goes-both shape c (mid n a l k) (mid m a l (naming k xs)) (mid o a l (naming (naming k xs) ys)) (e.each a l k) (f.each a l (naming k xs)));
  }

  pub stays : (n : Node WholeQueues) → K n n
  stays n = record { each = λ a l k. goes-none shape c (mid n a l k) }

  pub both : (n m o : Node WholeQueues) → K n m → K m o → K n o
  both n m o e f = record { each = λ a l k. goes-both shape c (mid n a l k) (mid m a l k) (mid o a l k) (e.each a l k) (f.each a l k) }

  pub either : (b : Bool) (n m o : Node WholeQueues) → K n m → K n o → K n (if b then m else o)
  either true n m o e g = e
  either false n m o e g = g

  pub either_done : (b : Bool) (n : Node WholeQueues) (d e : Done WholeQueues) → K n d.left → K n e.left → K n (if b then d else e).left
  either_done true n d e g k = g
  either_done false n d e g k = k

  -- ---- what doesn't show

  pub alike : (n m : Node WholeQueues) → AreAlike c n m → K n m
  alike n m e = record { each = λ a l k. goes-alike shape o c well n m a l k e }

  -- other parts, but links and changeovers
  pub aside : (n : Node WholeQueues) (p : Parts) → p.links ≡ n.parts.links → p.changeovers ≡ n.parts.changeovers → p.messages_lost ≡ n.parts.messages_lost → marks_of p ≡ marks_of n.parts → K n (with_parts n p)
  aside n p links changeovers lost marks = alike n (with_parts n p) (record {
    held = refl;
    ends = λ link. record {
      queue = refl;
      alignment = ap (λ (xs : List Link). (link_in xs link).alignment) links;
      standing = ap (λ xs. changeover_of (record p { changeovers = xs }) link) changeovers;
    };
    sized = λ s. record {
      links = ap (λ (xs : List Link). length xs) links ∙ s.links;
      queues = s.queues;
      changeovers = ap (λ xs. length xs) changeovers ∙ s.changeovers;
      silent = λ link. subst (λ (xs : List Link). IsSilent (link_in xs link)) (sym links) (s.silent link);
      ways = ap (λ (k : Marks). k.ways) marks ∙ s.ways;
    };
    lost = lost;
    marks = marks;
  })

  -- a link, but its alignment
  pub relinked : (n : Node WholeQueues) (link : ℕ) (x : Link) (p : Parts) → p.links ≡ links_with n.parts link x → x.alignment ≡ (link_at n.parts link).alignment → p.changeovers ≡ n.parts.changeovers
      → p.messages_lost ≡ n.parts.messages_lost → marks_of p ≡ marks_of n.parts → (IsSilent (link_at n.parts link) → IsSilent x) → K n (with_parts n p)
  relinked n link x p links same changeovers lost marks quiet = alike n (with_parts n p) (record {
    held = refl;
    ends = λ other. record {
      queue = refl;
      alignment = ap (λ (xs : List Link). (link_in xs other).alignment) links ∙ alike-at (λ (y : Link). y.alignment) n.parts.links link other x down_link same;
      standing = ap (λ xs. changeover_of (record p { changeovers = xs }) other) changeovers;
    };
    sized = λ s. record {
      links = ap (λ (xs : List Link). length xs) links ∙ length-set n.parts.links link x ∙ s.links;
      queues = s.queues;
      changeovers = ap (λ xs. length xs) changeovers ∙ s.changeovers;
      silent = λ other. subst (λ (xs : List Link). IsSilent (link_in xs other)) (sym links) (each-set IsSilent n.parts.links link other x down_link s.silent (quiet (s.silent link)));
      ways = ap (λ (k : Marks). k.ways) marks ∙ s.ways;
    };
    lost = lost;
    marks = marks;
  })

  -- ---- a message that is loose goes out, or is dropped

  pub sends-loose : (room : Option Cause) (link : Option ℕ) (m : Message) (n : Node WholeQueues) (a l : List Message) (k : Books) → link_of c n.parts (flow_of m) ≡ link → is_user_message (says_of m) ≡ false
      → Goes shape c (mid n a (m ∷ l) k) (mid (send whole c room link m n) a l k)
  sends-loose (Some cause) link m n a l k e says = goes-both shape c _ _ _ (discards-loose shape o c well n m a l k says) ((aside n (unsent cause m n.parts) refl refl refl refl).each a l k)
  sends-loose None None m n a l k e says = goes-both shape c _ _ _ (discards-loose shape o c well n m a l k says) ((aside n _ refl refl refl refl).each a l k)
  sends-loose None (Some link) m n a l k e says = places shape o c well n link m a l k (chosen_serves c n.parts (flow_of m) link e) (inl e)

  no-user : (m : Message) → says_of m ≡ Other → is_user_message (says_of m) ≡ false
  no-user m e = ap is_user_message e

  sends : (room : Option Cause) (link : Option ℕ) (m : Message) (n : Node WholeQueues) → link_of c n.parts (flow_of m) ≡ link → says_of m ≡ Other → K n (send whole c room link m n)
  sends room link m n e says = record { each = λ a l k. goes-both shape c _ _ _ (makes shape o c well n m a l k says) (sends-loose room link m n a l k e (no-user m says)) }

  pub routed : (m : Message) (n : Node WholeQueues) → says_of m ≡ Other → K n (send_routed whole c m n)
  routed m n says = sends (no_room whole c m n.queues) (link_of c n.parts (flow_of m)) m n refl says

  -- one goes out on a link in service
  pub queued : (link : ℕ) (m : Message) (n : Node WholeQueues) → in_service n.parts link ≡ true → says_of m ≡ Other → K n (queue_on whole c link m n)
  queued link m n serves says = record { each = λ a l k. goes-both shape c _ _ _ (makes shape o c well n m a l k says) (places shape o c well n link m a l k serves (inr says)) }

  -- with other parts
  pub routed-with : (m : Message) (n : Node WholeQueues) (p : Parts) → K n (with_parts n p) → says_of m ≡ Other → K n (send_routed whole c m (with_parts n p))
  routed-with m n p e says = both n (with_parts n p) _ e (routed m (with_parts n p) says)

  -- ---- what adjacent points are told

  tell-goes : (o : Owed) (n : Node WholeQueues) → K n (tell whole c o n)
  tell-goes o n = routed-with (route_message c o.set o.destination o.status) n (told_parts c o n.parts) (aside n _ refl refl refl refl) (told-other c well (adjacent_of c o.set) (point_of c o.destination) o.status)

  tell_each-goes : (os : List Owed) (n : Node WholeQueues) → K n (tell_each whole c os n)
  tell_each-goes [] n = stays n
  tell_each-goes (o ∷ os) n = both n (tell_if whole c o n) _ (either (may_tell whole c n) n (tell whole c o n) n (tell-goes o n) (stays n)) (tell_each-goes os (tell_if whole c o n))

  pub tell_owed-goes : (n : Node WholeQueues) → K n (tell_owed whole c n)
  unfolding tell_owed
  tell_owed-goes n = tell_each-goes (owed (facts c n.parts) n.parts.told) n

  pub no_route-goes : (link destination : Option ℕ) (n : Node WholeQueues) → K n (answer_no_route whole c link destination n)
  no_route-goes (Some link) (Some destination) n =
      let set : ℕ = set_of c link in
      either (may_tell whole c n && not (is_inhibited set destination n.parts) && is_led c (route_message c set destination Prohibited) n.parts) n (prohibit whole c set destination n) n
      (routed-with (route_message c set destination Prohibited) n (inhibited c set destination n.parts) (aside n _ refl refl refl refl) (told-other c well (adjacent_of c set) (point_of c destination) Prohibited)) (stays n)
  no_route-goes (Some link) None n = stays n
  no_route-goes None destination n = stays n

  -- whoever sent it
  pub no_part-goes : (link origin : Option ℕ) (m : Message) (n : Node WholeQueues) → K n (answer_no_user_part whole c link origin m n)
  no_part-goes (Some link) (Some origin) m n =
      let next : Node WholeQueues = with_parts n (unequipped_counted origin n.parts) in
      either c.user_part_unavailable n (tell_unavailable whole c origin m n) n
      (both n next _ (aside n _ refl refl refl refl)
      (either (is_unequipped_told whole c origin m n) next (send_routed whole c (unavailable c m) next) next
      (routed (unavailable c m) next (absent-other c well m)) (stays next)))
      (stays n)
  no_part-goes (Some link) None m n = stays n
  no_part-goes None origin m n = stays n

  route_status-goes : (status : Option RouteStatus) (set destination : ℕ) (n : Node WholeQueues) → K n (send_route_status whole c status set destination n)
  route_status-goes (Some status) set destination n =
      let m : Message = route_message c set destination status in
      let next : Parts = answered_parts set destination status n.parts in
      either (is_led c m n.parts) n (send_routed whole c m (with_parts n next)) n
      (routed-with m n next (aside n _ refl refl refl refl) (told-other c well (adjacent_of c set) (point_of c destination) status)) (stays n)
  route_status-goes None set destination n = stays n

  pub test-goes : (test : RouteTest) (route : Result (ℕ × ℕ) Outcome) (n : Node WholeQueues) → K n (on_route_test whole c test route n).left
  test-goes test (Ok (set, destination)) n =
      let status : Option RouteStatus = told.answer_to_test (facts c n.parts) n.parts.told set destination test in
      either_done (told.is_own_point n.parts.told set destination) n (answer Ignored n) (answer Handled (send_route_status whole c status set destination n))
      (stays n) (route_status-goes status set destination n)
  test-goes test (Err outcome) n = stays n

  -- ---- what is heard of routes

  rerouting-goes : (destination : ℕ) (selections : List ℕ) (n : Node WholeQueues) (p : Parts) → K n (with_parts n p) → K n (with_parts n (held_by_rerouting c destination selections p))
  rerouting-goes destination [] n p e = e
  rerouting-goes destination (sls ∷ others) n p e = both n (with_parts n p) _ e (aside (with_parts n p) _ refl refl refl refl)

  -- a route gets another status
  forced-goes : (status : RouteStatus) (set destination : ℕ) (n : Node WholeQueues) → K n (with_parts n (forced c set destination status n.parts))
  forced-goes status set destination n = aside n _ refl refl refl (ap (λ (ways : List (List Route)). record { broken = n.parts.times_broken; ways = ways }) (forced-ways c set destination status n.parts))

  heard-goes : (status : RouteStatus) (set destination : ℕ) (n : Node WholeQueues) (p : Parts) → K n (with_parts n p) → K n (with_parts n (rerouted_by status c set destination p))
  heard-goes Prohibited set destination n p e = both n (with_parts n p) _ e (forced-goes Prohibited set destination (with_parts n p))
  heard-goes Restricted set destination n p e =
      let next : Parts = forced c set destination Restricted p in
      rerouting-goes destination (rerouted (facts c p) (facts c next) destination) n next (both n (with_parts n p) _ e (forced-goes Restricted set destination (with_parts n p)))
  heard-goes Allowed set destination n p e =
      let next : Parts = forced c set destination Allowed p in
      rerouting-goes destination (rerouted (facts c p) (facts c next) destination) n next (both n (with_parts n p) _ e (forced-goes Allowed set destination (with_parts n p)))

  status-by : (x : Heard) (set destination : ℕ) (status : RouteStatus) (n : Node WholeQueues) → K n (apply_route_status whole c x set destination status n).left
  status-by hears.Ignored set destination status n = stays n
  status-by hears.Unchanged set destination status n = stays n
  status-by hears.Changed set destination status n = heard-goes status set destination n (record n.parts { timers = timed_status c set destination status n.parts.timers }) (aside n _ refl refl refl refl)

  pub status-goes : (status : RouteStatus) (route : Result (ℕ × ℕ) Outcome) (n : Node WholeQueues) → K n (on_route_status whole c status route n).left
  status-goes status (Ok (set, destination)) n = status-by (told.heard (facts c n.parts) n.parts.told set destination status) set destination status n
  status-goes status (Err outcome) n = stays n

  ask-one : (m : Message) (set destination : ℕ) (n : Node WholeQueues) → says_of m ≡ Other → K n (ask whole c m set destination n)
  ask-one m set destination n e =
      let next : Node WholeQueues = with_parts n (with_next_test whole c set destination n.parts) in
      both n next _ (aside n _ refl refl refl refl) (either (is_led c m n.parts) next (send_routed whole c m next) next (routed m next e) (stays next))

  ask-by : (status : Option RouteStatus) (set destination : ℕ) (n : Node WholeQueues) → K n (ask_by whole c status set destination n)
  ask-by (Some Prohibited) set destination n = ask-one (prohibited_test whole c set destination) set destination n (tested-other c well (adjacent_of c set) (point_of c destination))
  ask-by (Some Restricted) set destination n = ask-one (restricted_test whole c set destination) set destination n (restricted-other c well (adjacent_of c set) (point_of c destination))
  ask-by (Some Allowed) set destination n = stays n
  ask-by None set destination n = stays n

  pub ask-goes : (set destination : ℕ) (n : Node WholeQueues) → K n (ask_again whole c set destination n)
  ask-goes set destination n =
      let status : Option RouteStatus = status_of (facts c n.parts) destination set in
      either (nat_lt set (length c.sets) && nat_lt destination (length c.destinations)) n (ask_by whole c status set destination n) n (ask-by status set destination n) (stays n)
