-- What becomes of a message of a run at one node, where nothing holds its flow: as it is submitted, as it comes for
-- another point, and as a changeover that held it completes.
use Rattle.node_moves.proofs.Basics.{◌≡◌, ℕ, Bool, true, false, List, [], ◌∷◌, ◌++◌, Option, Some, None, drop, map, refl, ap, sym, ◌∙◌, slice_get, slice_index_or, is_some}
use Rattle.node_moves.proofs.Definitions.{Message, Configuration, Node, Done, WholeQueues, whole, link_of, waits, flow_of}
use Rattle.node_moves.proofs.LaidOut.{Four, network_of, placing, run, run-is}
use Rattle.node_moves.specs.MatedPair.{mated, transfer_settings}
use Rattle.node_moves.specs.Networks.{NetworkNode, NetworkState, Step, Submits, Delivers, after_steps, did_here, hear_data, made_of, named_by, next_in, updated}
unfoldable use Rattle.exchange_rules.specs.Exchange.{apply}
use Rattle.exchange_rules.specs.Reroutings.{first_reroutings}
use Rattle.exchange_rules.specs.Conserving.{brought_by, brought_to, gone_by_release, taken_in}
use Rattle.exchange_rules.specs.Exchange.{go_by, go_each, handle_event, ordered_late, settled}
use Rattle.exchange_rules.specs.Frames.{receive}
use Rattle.exchange_rules.specs.Laws.{accept_text}
use Rattle.exchange_rules.specs.Messages.{deliver, no_room_for, offer, whither_goes}
use Rattle.exchange_rules.specs.Receiving.{new_message}
use Rattle.exchange_rules.specs.State.{FrameCame, Submitted, note_refusal}
use Rattle.exchange_rules.specs.Telling.{tell_owed}
use Rattle.m2pa_codec.specs.Frames.{read_frame}
use Rattle.signalling_types.specs.declared.outcome.Outcome.{Outcome}
use Rattle.std.specs.Option.{option_to_list}

-- the pair
abbrev pub near : Configuration
near = transfer_settings 1 2

abbrev pub mate : Configuration
mate = transfer_settings 2 1

-- a message is offered at a node, where it waits or not
abbrev pub offered : Message → Configuration → (from : Option ℕ) → (waiting : Bool) → Node WholeQueues → Done WholeQueues
offered m c from waiting n = offer whole c (no_room_for whole c m n) waiting (link_of c n.parts (flow_of m)) from m n

-- it goes out at a node that made it, whatever that is doing
pub record GoesOutAt (c : Configuration) (m : Message) : Type 0 where
  pub handles : (n : Node WholeQueues) → handle_event whole c (Submitted m) n ≡ offered m c None (waits c n.parts.holds m) n
  pub submits : (n : Node WholeQueues) → apply whole c (Submitted m) n ≡ settled whole c (offered m c None (waits c n.parts.holds m) n)
  pub enters : (o : Outcome) (n : Node WholeQueues) → brought_to (whither_goes c m) o c m n ≡ taken_in o m

-- at the first, and it goes on at both
abbrev pub GoesOut : Message → Type 0
GoesOut m = GoesOutAt near m

pub record GoesOn (m : Message) : Type 0 where
  pub goes_out : GoesOut m
  pub comes : (o : Outcome) (n : Node WholeQueues) → brought_to (whither_goes mate m) o mate m n ≡ taken_in o m
  pub offers : (n : Node WholeQueues) → deliver whole mate 2 m n ≡ note_refusal 2 (offered m mate (Some 2) (waits mate n.parts.holds m) n)

-- ---- where it is submitted

-- this is left of the exchange, and this is accepted
abbrev entered_as : Configuration → Message → Done WholeQueues → (brought lost : List Message) → NetworkNode → NetworkNode
entered_as c m d brought lost x = record x {
  node = d.left;
  submitted = x.submitted ++ record { message = m; outcome = d.outcome } ∷ [];
  accepted = x.accepted ++ brought;
  made = x.made ++ made_of c (Some m) brought;
  named = x.named ++ lost;
}

-- by what its release finds
abbrev lost_after : Configuration → Done WholeQueues → List Message
lost_after c d = (gone_by_release c d.left).lost

abbrev queued_as : Configuration → Message → Done WholeQueues → (lost : List Message) → NetworkNode → NetworkNode
queued_as c m d lost x = entered_as c m d (taken_in d.outcome m) lost x

abbrev pub queued_at : Configuration → Message → NetworkNode → NetworkNode
queued_at c m x = queued_as c m (settled whole c (offered m c None false x.node)) (lost_after c (offered m c None false x.node)) x

module _ (c : Configuration) (m : Message) (on : GoesOutAt c m) where
  pub is-queued : (x : NetworkNode) → waits c x.node.parts.holds m ≡ false → did_here (Submits m) c x ≡ queued_at c m x
  is-queued x f =
      let d : Done WholeQueues = apply whole c (Submitted m) x.node in
      ap (λ (ms : List Message). entered_as c m d ms (named_by c (Submitted m) x) x) (on.enters d.outcome x.node)
      ∙ ap (λ (k : Done WholeQueues). queued_as c m d (lost_after c k) x) (on.handles x.node ∙ ap (λ (b : Bool). offered m c None b x.node) f)
      ∙ ap (λ (k : Done WholeQueues). queued_as c m k (lost_after c (offered m c None false x.node)) x)
      (on.submits x.node ∙ ap (λ (b : Bool). settled whole c (offered m c None b x.node)) f)

abbrev pub queued : Message → NetworkNode → NetworkNode
queued m x = queued_at near m x

-- ---- a frame comes to a node

abbrev booked_with : (link : ℕ) → Option Message → Configuration → (brought lost : List Message) → Done WholeQueues → NetworkNode → NetworkNode
booked_with link new c brought lost d x = record x {
  node = d.left;
  accepted = x.accepted ++ brought;
  made = x.made ++ made_of c new brought;
  named = x.named ++ lost;
  user_data = updated x.user_data link (drop 1 (x.user_data link));
  came = updated x.came link (x.came link ++ map (λ m. record { message = m; outcome = d.outcome }) (option_to_list new));
}

abbrev booked_as : (link : ℕ) → Option Message → Configuration → (accepted : Node WholeQueues) → (lost : List Message) → Done WholeQueues → NetworkNode → NetworkNode
booked_as link new c accepted lost d x = booked_with link new c (brought_by new d.outcome c accepted) lost d x

abbrev pub accepted_of : (link : ℕ) (text : List ℕ) → Configuration → Node WholeQueues → Node WholeQueues
accepted_of link text c n = accept_text link (read_frame text) (record { settings = c; node = n; reroutings = first_reroutings c })

abbrev pub new_of : (link : ℕ) (text : List ℕ) → Configuration → Node WholeQueues → Option Message
new_of link text c n = new_message link text (record { settings = c; node = n; reroutings = first_reroutings c })

abbrev delivered_as : (link : ℕ) (text : List ℕ) → Configuration → NetworkNode → NetworkNode
delivered_as link text c x = booked_as link (new_of link text c x.node) c (accepted_of link text c x.node) (named_by c (FrameCame link text) x) (apply whole c (FrameCame link text) x.node) x

is-delivered : (link : ℕ) (text : List ℕ) (c : Configuration) (x : NetworkNode) → next_in c link (x.user_data link) ≡ Some text → did_here (Delivers link) c x ≡ delivered_as link text c x
is-delivered link text c x f = ap (λ (o : Option (List ℕ)). hear_data c o link x) f

as-applied : (c : Configuration) (link : ℕ) (text : List ℕ) (n : Node WholeQueues) → apply whole c (FrameCame link text) n ≡ settled whole c (handle_event whole c (FrameCame link text) n)
unfolding apply
as-applied c link text n = refl

-- ---- to point 2 it comes for another point; this node is left once its frame is accepted

abbrev passed_as : Message → (accepted : Node WholeQueues) → (waiting : Bool) → Done WholeQueues
passed_as m accepted waiting = settled whole mate (ordered_late whole mate (note_refusal 2 (offered m mate (Some 2) waiting accepted)))

abbrev pub passed_on : Message → (accepted : Node WholeQueues) → (lost : List Message) → NetworkNode → NetworkNode
passed_on m accepted lost x = booked_as 2 (Some m) mate accepted lost (passed_as m accepted false) x

abbrev lost_by : List ℕ → NetworkNode → List Message
lost_by text x = named_by mate (FrameCame 2 text) x

pub record ComesOn (m : Message) (text : List ℕ) (accepted : Node WholeQueues) (x : NetworkNode) : Type 0 where
  pub there : next_in mate 2 (x.user_data 2) ≡ Some text
  pub is_new : new_of 2 text mate x.node ≡ Some m
  pub goes : receive whole mate 2 text x.node ≡ deliver whole mate 2 m accepted
  pub unheld : waits mate accepted.parts.holds m ≡ false

-- whatever the node is like, the message is booked alike
booked-alike : (m : Message) → GoesOn m → (one other : Node WholeQueues) (lost : List Message) (d : Done WholeQueues) (x : NetworkNode)
    → booked_as 2 (Some m) mate one lost d x ≡ booked_as 2 (Some m) mate other lost d x
booked-alike m on one other lost d x = ap (λ (ms : List Message). booked_with 2 (Some m) mate ms lost d x) (on.comes d.outcome one ∙ sym (on.comes d.outcome other))

pub is-passed : (m : Message) → GoesOn m → (text : List ℕ) (accepted : Node WholeQueues) (x : NetworkNode) → ComesOn m text accepted x → did_here (Delivers 2) mate x ≡ passed_on m accepted (lost_by text x) x
is-passed m on text accepted x h =
    is-delivered 2 text mate x h.there
    ∙ ap (λ (o : Option Message). booked_as 2 o mate (accepted_of 2 text mate x.node) (lost_by text x) (apply whole mate (FrameCame 2 text) x.node) x) h.is_new
    ∙ booked-alike m on (accepted_of 2 text mate x.node) accepted (lost_by text x) (apply whole mate (FrameCame 2 text) x.node) x
    ∙ ap (λ (d : Done WholeQueues). booked_as 2 (Some m) mate accepted (lost_by text x) d x)
    (as-applied mate 2 text x.node
    ∙ ap (λ (d : Done WholeQueues). settled whole mate (ordered_late whole mate d)) (h.goes ∙ on.offers accepted)
    ∙ ap (passed_as m accepted) h.unheld)

-- ---- by an order a changeover is complete, and the message goes on

abbrev pub ends : (link : ℕ) (text : List ℕ) → Configuration → NetworkNode → Done WholeQueues
ends link text c x = handle_event whole c (FrameCame link text) x.node

abbrev released : Message → Configuration → Done WholeQueues → (waiting : Bool) → Node WholeQueues
released m c d waiting = tell_owed whole c (go_by whole c waiting m (record d.left { queues = whole.without_held d.left.queues }))

abbrev gone_on : (link : ℕ) (text : List ℕ) → Configuration → Node WholeQueues → NetworkNode → NetworkNode
gone_on link text c n x = record (delivered_as link text c x) { node = n }

abbrev pub completed : Message → (link : ℕ) (text : List ℕ) → Configuration → NetworkNode → NetworkNode
completed m link text c x = gone_on link text c (released m c (ends link text c x) false) x

one-held : (m : Message) (c : Configuration) (d : Done WholeQueues) → d.left.queues.held ≡ m ∷ [] → (settled whole c d).left ≡ released m c d (waits c d.left.parts.holds m)
one-held m c d e = ap (λ (ms : List Message). tell_owed whole c (go_each whole c ms (record d.left { queues = whole.without_held d.left.queues }))) e

pub record Completes (m : Message) (link : ℕ) (text : List ℕ) (c : Configuration) (x : NetworkNode) : Type 0 where
  pub there : next_in c link (x.user_data link) ≡ Some text
  pub held : (ends link text c x).left.queues.held ≡ m ∷ []
  pub unheld : waits c (ends link text c x).left.parts.holds m ≡ false

pub is-completed : (m : Message) (link : ℕ) (text : List ℕ) (c : Configuration) (x : NetworkNode) → Completes m link text c x → did_here (Delivers link) c x ≡ completed m link text c x
is-completed m link text c x h =
    is-delivered link text c x h.there
    ∙ ap (λ (n : Node WholeQueues). gone_on link text c n x)
    (ap (λ (d : Done WholeQueues). d.left) (as-applied c link text x.node)
    ∙ one-held m c (ends link text c x) h.held
    ∙ ap (released m c (ends link text c x)) h.unheld)

-- ---- so a network goes on

-- the User Data in flight to a node that comes next
abbrev pub next_text : (link : ℕ) → NetworkNode → List ℕ
next_text link x = slice_index_or (x.user_data link) 0 []

first-of : (texts : List (List ℕ)) → is_some (slice_get texts 0) ≡ true → slice_get texts 0 ≡ Some (slice_index_or texts 0 [])
first-of [] e = absurd cc
first-of (text ∷ texts) e = refl

pub is-next : (link : ℕ) (x : NetworkNode) → is_some (slice_get (x.user_data link) 0) ≡ true → slice_get (x.user_data link) 0 ≡ Some (next_text link x)
is-next link x e = first-of (x.user_data link) e

-- point 2 once it accepted that
abbrev pub next_accepted : NetworkNode → Node WholeQueues
next_accepted x = accepted_of 2 (next_text 2 x) mate x.node

abbrev pub submitting : Message → Four → Four
submitting m t = record t { one = queued m t.one }

abbrev pub passing : Message → Four → Four
passing m t = record t { two = passed_on m (next_accepted t.two) (lost_by (next_text 2 t.two) t.two) t.two }

abbrev pub completing : Message → Four → Four
completing m t = record t { one = completed m 2 (next_text 2 t.one) near t.one }

module _ (w : NetworkState) (t : Four) (same : w ≡ network_of t) where
  pub runs-on : (steps : List Step) → after_steps mated steps w ≡ network_of (run steps t)
  runs-on steps = ap (after_steps mated steps) same ∙ run-is steps t

  pub submits-on : (m : Message) → GoesOut m → waits near t.one.node.parts.holds m ≡ false → (steps : List Step)
      → after_steps mated (record { point = 1; what = Submits m } ∷ steps) w ≡ network_of (run steps (submitting m t))
  submits-on m on f steps =
      ap (after_steps mated (record { point = 1; what = Submits m } ∷ steps)) same
      ∙ ap (after_steps mated steps) (placing 1 (did_here (Submits m) near) (queued m t.one) t (is-queued near m on t.one f))
      ∙ run-is steps (submitting m t)

  pub passes-on : (m : Message) → GoesOn m → ComesOn m (next_text 2 t.two) (next_accepted t.two) t.two → (steps : List Step)
      → after_steps mated (record { point = 2; what = Delivers 2 } ∷ steps) w ≡ network_of (run steps (passing m t))
  passes-on m on h steps =
      ap (after_steps mated (record { point = 2; what = Delivers 2 } ∷ steps)) same
      ∙ ap (after_steps mated steps) (placing 2 (did_here (Delivers 2) mate) (passed_on m (next_accepted t.two) (lost_by (next_text 2 t.two) t.two) t.two) t (is-passed m on (next_text 2 t.two) (next_accepted t.two) t.two h))
      ∙ run-is steps (passing m t)

  pub completes-on : (m : Message) → Completes m 2 (next_text 2 t.one) near t.one → (steps : List Step)
      → after_steps mated (record { point = 1; what = Delivers 2 } ∷ steps) w ≡ network_of (run steps (completing m t))
  completes-on m h steps =
      ap (after_steps mated (record { point = 1; what = Delivers 2 } ∷ steps)) same
      ∙ ap (after_steps mated steps)
      (placing 1 (did_here (Delivers 2) near) (completed m 2 (next_text 2 t.one) near t.one) t (is-completed m 2 (next_text 2 t.one) near t.one h))
      ∙ run-is steps (completing m t)
