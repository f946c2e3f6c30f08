-- What becomes of a message of a run at one node, where nothing holds its flow: as it is submitted, as it comes for
-- another point, and as a changeover that held it completes.
use Rattle.exchange_rules.specs.First.{Abstract}
use Rattle.exchange_rules.specs.Reroutings.{counted, first_reroutings}
use Rattle.exchange_rules.specs.Routing.{facts}
use Rattle.pair_rules.proofs.Basics.{◌≡◌, ℕ, Bool, true, false, List, [], ◌∷◌, ◌++◌, Option, Some, None, map, refl, ap, sym, ◌∙◌, slice_get, slice_index_or, option_to_list, is_some}
use Rattle.pair_rules.proofs.Definitions.{Message, Outcome, whither_goes, brought_to, flow_of, Configuration, Done, Node, WholeQueues, whole, no_room_for, waits, link_of, go_by, go_each, deliver, receive, read_frame, FrameCame, Submitted, new_message, handle_event, outcome_of, settled, in_flight, without_data, brought_in, brought_by, taken_in, accept_text}
unfoldable use Rattle.exchange_rules.specs.Exchange.{apply}
use Rattle.exchange_rules.specs.Exchange.{ordered_late}
use Rattle.neighbour_rules.proofs.LateOrders.{none-late}
use Rattle.exchange_rules.specs.Messages.{offer}
use Rattle.exchange_rules.specs.State.{note_refusal}
use Rattle.exchange_rules.specs.Telling.{tell_owed}
use Rattle.pair_rules.specs.Pairs.{Submits, Delivers}
use Rattle.neighbour_rules.specs.ThirdNode.{the_message}
use Rattle.network_rules.specs.Networks.{NetworkNode, NetworkState, Step, after_steps, deliver_frame, did_here, entered_by, refused_by}
use Rattle.network_rules.specs.TwoFailures.{end_settings, middle_settings}
use Rattle.network_rules.proofs.LaidOut.{Three, changed_at, network_of, node_at, placing, run, run-is}

-- it is offered at a node, where it waits or not
abbrev pub offered : Message → Configuration → (from : Option ℕ) → (waiting : Bool) → Node WholeQueues → Done WholeQueues
offered m c from waiting n = offer whole c (no_room_for whole c m n) waiting (link_of c n.parts (flow_of m)) from m n

-- ---- at point 3 it is submitted

abbrev pub third : Configuration
third = end_settings 3 2

-- an exchange with these settings, after an event that leaves this node
abbrev left_of : Configuration → Abstract → Node WholeQueues → Abstract
left_of c a n = record { settings = c; node = n; reroutings = counted c (facts c n.parts) a.reroutings }

-- this is left of the exchange, and this enters
abbrev entered_as : Done WholeQueues → List Message → NetworkNode → NetworkNode
entered_as d ms x = record x { exchange = left_of third x.exchange d.left; accepted = x.accepted ++ ms; entered = x.entered ++ ms }

abbrev submitted_as : Message → Configuration → NetworkNode → NetworkNode
submitted_as m c x = record x {
  exchange = left_of c x.exchange (apply whole c (Submitted m) x.exchange.node).left;
  accepted = x.accepted ++ brought_in (Submitted m) (record { settings = c; node = x.exchange.node; reroutings = x.exchange.reroutings });
  entered = x.entered ++ brought_in (Submitted m) (record { settings = c; node = x.exchange.node; reroutings = x.exchange.reroutings });
}

abbrev queued_as : Message → Done WholeQueues → NetworkNode → NetworkNode
queued_as m d x = entered_as d (taken_in d.outcome m) x

abbrev pub queued : Message → NetworkNode → NetworkNode
queued m x = queued_as m (settled whole third (offered m third None false x.exchange.node)) x

-- it goes on at both nodes, whatever these are doing
pub record GoesOn (m : Message) : Type 0 where
  pub submits : (n : Node WholeQueues) → apply whole third (Submitted m) n ≡ settled whole third (offered m third None (waits third n.parts.holds m) n)
  pub enters : (o : Outcome) (n : Node WholeQueues) → brought_to (whither_goes third m) o third m n ≡ taken_in o m
  pub comes : (o : Outcome) (n : Node WholeQueues) → brought_to (whither_goes middle_settings m) o middle_settings m n ≡ taken_in o m
  pub offers : (n : Node WholeQueues) → deliver whole middle_settings 1 m n ≡ note_refusal 1 (offered m middle_settings (Some 1) (waits middle_settings n.parts.holds m) n)

pub message-on : GoesOn the_message
unfolding apply
message-on = record { submits = λ n. refl; enters = λ o n. refl; comes = λ o n. refl; offers = λ n. refl }

module _ (m : Message) (on : GoesOn m) where
  pub is-queued : (x : NetworkNode) → x.exchange.settings ≡ third → waits third x.exchange.node.parts.holds m ≡ false → did_here (Submits m) x ≡ queued m x
  is-queued x e f =
      let d : Done WholeQueues = apply whole third (Submitted m) x.exchange.node in
      ap (λ (c : Configuration). submitted_as m c x) e
      ∙ ap (λ (ms : List Message). entered_as d ms x) (on.enters d.outcome x.exchange.node)
      ∙ ap (λ (k : Done WholeQueues). queued_as m k x) (on.submits x.exchange.node ∙ ap (λ (b : Bool). settled whole third (offered m third None b x.exchange.node)) f)

  pub outcome-is : (x : NetworkNode) → x.exchange.settings ≡ third → waits third x.exchange.node.parts.holds m ≡ false
      → outcome_of whole (Submitted m) x.exchange ≡ (offered m third None false x.exchange.node).outcome
  outcome-is x e f =
      ap (λ (c : Configuration). (apply whole c (Submitted m) x.exchange.node).outcome) e
      ∙ ap (λ (d : Done WholeQueues). d.outcome) (on.submits x.exchange.node)
      ∙ ap (λ (b : Bool). (offered m third None b x.exchange.node).outcome) f

-- ---- a frame comes to a node

abbrev booked_with : (link : ℕ) → Option Message → Configuration → (brought : List Message) → Done WholeQueues → NetworkNode → NetworkNode
booked_with link new c brought d x = record x {
  exchange = left_of c x.exchange d.left;
  incoming = without_data link x.incoming;
  accepted = x.accepted ++ brought;
  arrived = x.arrived ++ map (λ (m : Message). record { link = link; message = m }) (option_to_list new);
  entered = x.entered ++ entered_by new c brought;
  refused = x.refused ++ refused_by new c d.outcome;
}

abbrev booked_as : (link : ℕ) → Option Message → Configuration → (accepted : Node WholeQueues) → Done WholeQueues → NetworkNode → NetworkNode
booked_as link new c accepted d x = booked_with link new c (brought_by new d.outcome c accepted) d x

abbrev accepted_of : (link : ℕ) (text : List ℕ) → Configuration → Node WholeQueues → Node WholeQueues
accepted_of link text c n = accept_text link (read_frame text) (record { settings = c; node = n; reroutings = first_reroutings c })

abbrev pub new_of : (link : ℕ) (text : List ℕ) → Configuration → Node WholeQueues → Option Message
new_of link text c n = new_message link text (record { settings = c; node = n; reroutings = first_reroutings c })

abbrev delivered_as : (link : ℕ) (text : List ℕ) → Configuration → NetworkNode → NetworkNode
delivered_as link text c x =
    booked_as link (new_of link text c x.exchange.node) c (accepted_of link text c x.exchange.node) (apply whole c (FrameCame link text) x.exchange.node) x

is-delivered : (link : ℕ) (text : List ℕ) (c : Configuration) (x : NetworkNode) → x.exchange.settings ≡ c → slice_get (in_flight x.incoming.user_data link) 0 ≡ Some text
    → did_here (Delivers link) x ≡ delivered_as link text c x
is-delivered link text c x e f =
    ap (λ (o : Option (List ℕ)). deliver_frame o link (without_data link x.incoming) x) f ∙ ap (λ (s : Configuration). delivered_as link text s x) e

as-applied : (c : Configuration) (link : ℕ) (text : List ℕ) (n : Node WholeQueues) → apply whole c (FrameCame link text) n ≡ settled whole c (handle_event whole c (FrameCame link text) n)
unfolding apply
as-applied c link text n = refl

-- ---- to point 1 it comes for another point; this node is left once its frame is accepted

abbrev passed_as : Message → (accepted : Node WholeQueues) → (waiting : Bool) → Done WholeQueues
passed_as m accepted waiting = settled whole middle_settings (note_refusal 1 (offered m middle_settings (Some 1) waiting accepted))

abbrev pub passed_on : Message → (accepted : Node WholeQueues) → NetworkNode → NetworkNode
passed_on m accepted x = booked_as 1 (Some m) middle_settings accepted (passed_as m accepted false) x

pub record ComesOn (m : Message) (text : List ℕ) (accepted : Node WholeQueues) (x : NetworkNode) : Type 0 where
  pub settings : x.exchange.settings ≡ middle_settings
  pub there : slice_get (in_flight x.incoming.user_data 1) 0 ≡ Some text
  pub is_new : new_of 1 text middle_settings x.exchange.node ≡ Some m
  pub goes : receive whole middle_settings 1 text x.exchange.node ≡ deliver whole middle_settings 1 m accepted
  pub unheld : waits middle_settings accepted.parts.holds m ≡ false

-- no order goes out late
in-time : (d : Done WholeQueues) → ordered_late whole middle_settings d ≡ d
in-time d = ap (λ (n : Node WholeQueues). record d { left = n }) (none-late middle_settings refl d.outcome d.left)

-- whatever the node is like, the message is booked alike
booked-alike : (m : Message) → GoesOn m → (one other : Node WholeQueues) (d : Done WholeQueues) (x : NetworkNode) → booked_as 1 (Some m) middle_settings one d x ≡ booked_as 1 (Some m) middle_settings other d x
booked-alike m on one other d x = ap (λ (ms : List Message). booked_with 1 (Some m) middle_settings ms d x) (on.comes d.outcome one ∙ sym (on.comes d.outcome other))

pub is-passed : (m : Message) → GoesOn m → (text : List ℕ) (accepted : Node WholeQueues) (x : NetworkNode) → ComesOn m text accepted x → did_here (Delivers 1) x ≡ passed_on m accepted x
is-passed m on text accepted x h =
    is-delivered 1 text middle_settings x h.settings h.there
    ∙ ap (λ (o : Option Message). booked_as 1 o middle_settings (accepted_of 1 text middle_settings x.exchange.node) (apply whole middle_settings (FrameCame 1 text) x.exchange.node) x) h.is_new
    ∙ booked-alike m on (accepted_of 1 text middle_settings x.exchange.node) accepted (apply whole middle_settings (FrameCame 1 text) x.exchange.node) x
    ∙ ap (λ (d : Done WholeQueues). booked_as 1 (Some m) middle_settings accepted d x)
    (as-applied middle_settings 1 text x.exchange.node
    ∙ ap (settled whole middle_settings) (in-time (receive whole middle_settings 1 text x.exchange.node) ∙ h.goes ∙ on.offers accepted)
    ∙ ap (passed_as m accepted) h.unheld)

-- ---- by an order a changeover is complete, and the message goes on

abbrev pub ends : (link : ℕ) (text : List ℕ) → Configuration → NetworkNode → Done WholeQueues
ends link text c x = handle_event whole c (FrameCame link text) x.exchange.node

abbrev released : Configuration → Done WholeQueues → (waiting : Bool) → Node WholeQueues
released c d waiting = tell_owed whole c (go_by whole c waiting the_message (record d.left { queues = whole.without_held d.left.queues }))

abbrev gone_on : (link : ℕ) (text : List ℕ) → Configuration → Node WholeQueues → NetworkNode → NetworkNode
gone_on link text c n x = record (delivered_as link text c x) { exchange = left_of c x.exchange n }

abbrev pub completed : (link : ℕ) (text : List ℕ) → Configuration → NetworkNode → NetworkNode
completed link text c x = gone_on link text c (released c (ends link text c x) false) x

one-held : (c : Configuration) (d : Done WholeQueues) → d.left.queues.held ≡ the_message ∷ [] → (settled whole c d).left ≡ released c d (waits c d.left.parts.holds the_message)
one-held c d e = ap (λ (ms : List Message). tell_owed whole c (go_each whole c ms (record d.left { queues = whole.without_held d.left.queues }))) e

pub record Completes (link : ℕ) (text : List ℕ) (c : Configuration) (x : NetworkNode) : Type 0 where
  pub settings : x.exchange.settings ≡ c
  pub there : slice_get (in_flight x.incoming.user_data link) 0 ≡ Some text
  pub held : (ends link text c x).left.queues.held ≡ the_message ∷ []
  pub unheld : waits c (ends link text c x).left.parts.holds the_message ≡ false

pub is-completed : (link : ℕ) (text : List ℕ) (c : Configuration) (x : NetworkNode) → Completes link text c x → did_here (Delivers link) x ≡ completed link text c x
is-completed link text c x h =
    is-delivered link text c x h.settings h.there
    ∙ ap (λ (n : Node WholeQueues). gone_on link text c n x)
    (ap (λ (d : Done WholeQueues). d.left) (as-applied c link text x.exchange.node)
    ∙ one-held c (ends link text c x) h.held
    ∙ ap (released c (ends link text c x)) h.unheld)

-- ---- so a network goes on

-- the User Data in flight to a node that comes next
abbrev pub next_text : (link : ℕ) → NetworkNode → List ℕ
next_text link x = slice_index_or (in_flight x.incoming.user_data link) 0 []

first-of : (texts : List (List ℕ)) → is_some (slice_get texts 0) ≡ true → slice_get texts 0 ≡ Some (slice_index_or texts 0 [])
first-of [] e = absurd cc
first-of (text ∷ texts) e = refl

pub is-next : (link : ℕ) (x : NetworkNode) → is_some (slice_get (in_flight x.incoming.user_data link) 0) ≡ true → slice_get (in_flight x.incoming.user_data link) 0 ≡ Some (next_text link x)
is-next link x e = first-of (in_flight x.incoming.user_data link) e

-- point 1 once it accepted that
abbrev pub next_accepted : NetworkNode → Node WholeQueues
next_accepted x = accepted_of 1 (next_text 1 x) middle_settings x.exchange.node

abbrev pub submitting : Message → Three → Three
submitting m t = record t { third = queued m t.third }

abbrev pub passing : Message → Three → Three
passing m t = record t { first = passed_on m (next_accepted t.first) t.first }

abbrev pub completing : (point link : ℕ) → Configuration → Three → Three
completing point link c t = changed_at point (λ old. completed link (next_text link (node_at t point)) c (node_at t point)) t

module _ (w : NetworkState) (t : Three) (same : w ≡ network_of t) where
  pub runs-on : (steps : List Step) → after_steps steps w ≡ network_of (run steps t)
  runs-on steps = ap (after_steps steps) same ∙ run-is steps t

  pub submits-on : (m : Message) → GoesOn m → t.third.exchange.settings ≡ third → waits third t.third.exchange.node.parts.holds m ≡ false
      → after_steps (record { point = 3; what = Submits m } ∷ []) w ≡ network_of (submitting m t)
  submits-on m on e f = ap (after_steps (record { point = 3; what = Submits m } ∷ [])) same ∙ placing 3 (did_here (Submits m)) (queued m t.third) t (is-queued m on t.third e f)

  pub passes-on : (m : Message) → GoesOn m → ComesOn m (next_text 1 t.first) (next_accepted t.first) t.first → (steps : List Step)
      → after_steps (record { point = 1; what = Delivers 1 } ∷ steps) w ≡ network_of (run steps (passing m t))
  passes-on m on h steps =
      ap (after_steps (record { point = 1; what = Delivers 1 } ∷ steps)) same
      ∙ ap (after_steps steps) (placing 1 (did_here (Delivers 1)) (passed_on m (next_accepted t.first) t.first) t (is-passed m on (next_text 1 t.first) (next_accepted t.first) t.first h))
      ∙ run-is steps (passing m t)

  pub completes-on : (point link : ℕ) (c : Configuration) → Completes link (next_text link (node_at t point)) c (node_at t point) → (steps : List Step)
      → after_steps (record { point = point; what = Delivers link } ∷ steps) w ≡ network_of (run steps (completing point link c t))
  completes-on point link c h steps =
      ap (after_steps (record { point = point; what = Delivers link } ∷ steps)) same
      ∙ ap (after_steps steps)
      (placing point (did_here (Delivers link)) (completed link (next_text link (node_at t point)) c (node_at t point)) t (is-completed link (next_text link (node_at t point)) c (node_at t point) h))
      ∙ run-is steps (completing point link c t)
