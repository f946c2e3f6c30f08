-- User Data comes to a node: by moves.
use Rattle.node_moves.proofs.Basics.{◌≡◌, ◌≢◌, ℕ, Bool, true, false, not, ◌+◌, ◌≤◌, ◌<◌, List, [], ◌∷◌, ◌++◌, length, map, drop, Option, Some, None, Ok, count_by, is_some, min, refl, ap, sym, subst, ◌∙◌, arith, get_or-set_same, get_or-set_other, length-set}
use Rattle.node_moves.proofs.Machine.{Frame, EmptyFrame, MessageFrame, LinkEnd, Live, Line, Network, Shape, Place, line_at, node_at, user}
use Rattle.node_moves.proofs.Definitions.{Message, Configuration, IsWell, Node, WholeQueues, Parts, whole, link_at, queue_at, in_service, down, changeover_of, Queue, first_queue, Link, down_link, is_down, is_in_service, Alignment}
use Rattle.node_moves.proofs.Reading.{IsShape, says_of}
use Rattle.node_moves.proofs.Shown.{Books, Mid, Shows, IsShown, IsAlike, IsSized, IsSilent, IsBooked, is_heard, shown_in, users_that, any_message, most, link-inside, own-inside}
use Rattle.node_moves.proofs.Grown.{Grown, same-grown}
use Rattle.node_moves.proofs.Going.{IsAt}
use Rattle.exchange_rules.proofs.Steps.{ways_of}
use Rattle.node_moves.proofs.Handling.{mid, same-ends, end-at, live-queue}
use Rattle.node_moves.proofs.Failures.{node-there}
use Rattle.node_moves.proofs.World.{IsFlown, AreData, AreStatuses, ShownAt, place_at}
use Rattle.node_moves.proofs.Relining.{Leads, leads-one, line-set}
use Rattle.node_moves.proofs.Flights.{changed-here, updated-here, updated-other, OnlyHere, only-changed, reline-near}
use Rattle.node_moves.specs.Networks.{Fate, NetworkNode, NetworkState, IsNode, changed, messages_of, updated}
use Rattle.node_moves.specs.Outside.{ArePlaced}
use Rattle.exchange_rules.proofs.Lists.{alike-at, each-set}
use Rattle.exchange_rules.proofs.Serving.{data-serves, fails-up}
use Rattle.exchange_rules.proofs.Serving as serving
use Rattle.exchange_rules.specs.Frames.{Carrying, carries, numbers, accept, owing, timed_parts}
use Rattle.link.specs.Queue.{accept_answer, after_answer, count_confirmed}
use Rattle.link.specs.Queue as queue
use Rattle.link.specs.Table.{action_at}
use Rattle.link.specs.declared.action.Action.TheVariants as act
use Rattle.link.specs.declared.action.Input.TheVariants.{UserData}
use Rattle.link.specs.declared.alignment.Alignment.TheVariants.{Down, NotAligned, Aligned, Proving, AlignedReady, InService}
use Rattle.link.specs.declared.period.Period.{Period}
use Rattle.network_moves.proofs.Counts.{count-cons, count-append}
use Rattle.network_moves.specs.Carrying.{with_frames_left, with_accepted}
use Rattle.network_moves.specs.Moves as moves
use Rattle.network_moves.specs.Networks as net
use Rattle.signalling_types.specs.declared.outcome.Outcome.TheVariants.{Ignored}
use Rattle.std.specs.Option.{option_to_list}

-- User Data as a frame of the machine
abbrev pub frame_by : Option Message → (fsn bsn : ℕ) → Frame
frame_by None fsn bsn = EmptyFrame fsn bsn
frame_by (Some m) fsn bsn = MessageFrame fsn bsn m

abbrev pub frame_of : Carrying → Frame
frame_of d = frame_by d.message d.fsn d.bsn

-- a link that isn't down does something about User Data
pub ignored-down : (period : Period) (a : Alignment) → action_at period a UserData ≡ act.Ignored → is_down a ≡ true
ignored-down period Down e = refl
ignored-down period NotAligned e = absurd cc
ignored-down period Aligned e = absurd cc
ignored-down period (Proving true) e = absurd cc
ignored-down period (Proving false) e = absurd cc
ignored-down period AlignedReady e = absurd cc
ignored-down period InService e = absurd cc

-- what is in flight is less by the first, and these messages came more. (What becomes of them isn't seen here.)
abbrev pub unseen : List Message → List Fate
unseen ms = map (λ m. record { message = m; outcome = Ignored }) ms

abbrev pub popped : (link : ℕ) → List Message → NetworkNode → NetworkNode
popped link new x = record x { user_data = updated x.user_data link (drop 1 (x.user_data link)); came = updated x.came link (x.came link ++ unseen new) }

pub messages-append : (fs gs : List Fate) → messages_of (fs ++ gs) ≡ messages_of fs ++ messages_of gs
messages-append [] gs = refl
messages-append (f ∷ fs) gs = ap (λ (ms : List Message). f.message ∷ ms) (messages-append fs gs)

pub messages-unseen : (ms : List Message) → messages_of (unseen ms) ≡ ms
messages-unseen [] = refl
messages-unseen (m ∷ ms) = ap (λ (ks : List Message). m ∷ ks) (messages-unseen ms)

module _ (settings : (point : ℕ) → Configuration) (t : ArePlaced settings) (shape : Shape) (o : IsShape shape) (w : NetworkState) (x link : ℕ) (fx : IsNode settings x) (inside : link < length (settings x).links) where
  abbrev c : Configuration
  c = settings x

  abbrev well : IsWell c
  well = t.well x fx

  abbrev its : Place
  its = place_at settings t x link

  abbrev there : List Message → NetworkState
  there new = changed x (popped link new) w

  pop-only : (new : List Message) → OnlyHere settings t shape o w (there new) x link
  pop-only new = only-changed settings t shape o w x link (popped link new) (λ l d. record {
    user_data = updated-other (w.node x).user_data link (drop 1 ((w.node x).user_data link)) l d;
    statuses = refl;
    follows = refl;
    came = ap messages_of (updated-other (w.node x).came link ((w.node x).came link ++ unseen new) l d);
  })

  -- the line shows it, where the first frame is gone and these messages came
  pop-flown : (new : List Message) (y z : Line) (frame : Frame) (fs : List Frame) → IsFlown (w.node x) link y → y.to_near ≡ frame ∷ fs → z.to_near ≡ fs → z.told_near ≡ y.told_near → z.near_may_follow ≡ y.near_may_follow
      → ((test : Message → Bool) → count_by test z.far.came ≡ count_by test new + count_by test y.far.came) → IsFlown ((there new).node x) link z
  pop-flown new y z frame fs h first rest told may came =
      let is : (there new).node x ≡ popped link new (w.node x) = changed-here x (popped link new) w in
      subst (λ (e : NetworkNode). IsFlown e link z) (sym is) (record {
        user_data = subst (λ (texts : List (List ℕ)). AreData texts z.to_near) (sym (updated-here (w.node x).user_data link (drop 1 ((w.node x).user_data link))))
            (subst (AreData (drop 1 ((w.node x).user_data link))) (sym rest) (tail ((w.node x).user_data link) frame fs (subst (AreData ((w.node x).user_data link)) first h.user_data)));
        statuses = subst (AreStatuses ((w.node x).statuses link)) (sym told) h.statuses;
        follows = h.follows ∙ sym may;
        came = λ test. omega (
          arith,
          came test,
          h.came test,
          ap (λ (gs : List Fate). count_by test (messages_of gs)) (updated-here (w.node x).came link ((w.node x).came link ++ unseen new)),
          ap (count_by test) (messages-append ((w.node x).came link) (unseen new)),
          ap (λ (ms : List Message). count_by test (messages_of ((w.node x).came link) ++ ms)) (messages-unseen new),
          count-append test (messages_of ((w.node x).came link)) new,
        );
      })
    where
      tail : (texts : List (List ℕ)) (frame : Frame) (fs : List Frame) → AreData texts (frame ∷ fs) → AreData (drop 1 texts) fs
      tail [] frame fs e = absurd e
      tail (text ∷ texts) frame fs e = e.1

  same-node : (p : Network) (m : Mid) → Shows c p m → IsBooked (node_at shape p its) m
  same-node p m s = subst (λ (n : net.Node). IsBooked n m) (sym (node-there shape o c well p link)) s.booked

  -- ---- a link that is down drops it

  pub drops-frame : (m : Mid) (p : Network) (frame : Frame) (fs : List Frame) → ShownAt settings t w x m p → (line_at p its).to_near ≡ frame ∷ fs → down m.node.parts link ≡ true
      → Leads settings t shape o m.node.parts.times_broken p (there []) x m
  drops-frame m p frame fs s first gone =
      let y : Line = line_at p its in
      let shown : IsShown m.node link y.near = s.here.ends link inside in
      leads-one settings t shape o p _ (there []) x m
      (moves.drops (record {
        place = its;
        frame = frame;
        rest = fs;
        first = first;
        down = shown.up ∙ ap not gone;
        after = line-set shape p its (with_frames_left y fs) (node_at shape p its) (link-inside shape o c well link) (own-inside shape o c well link);
      }))
      (same-grown refl) (λ point. refl)
      (reline-near settings t shape o w (there []) x link m m p (with_frames_left y fs) (node_at shape p its) fx s (pop-only [])
      (record { to_far = refl; told_far = refl; far_may = refl; near_came = refl; far = λ k l e. e }) inside s.here.sized shown (λ l d. same-ends m.node l) (same-node p m s.here)
      (pop-flown [] y (with_frames_left y fs) frame fs (s.flown x link fx inside) first refl refl refl (λ test. omega arith)))

  -- ---- a link in service takes it

  owed-link : (message : Option Message) (p : Parts) (l : ℕ) → (link_at (owing link message p) l).alignment ≡ (link_at p l).alignment
  owed-link None p l = refl
  owed-link (Some m) p l = alike-at (λ (y : Link). y.alignment) p.links link l (record (link_at p link) { acknowledgement_owed = true }) down_link refl

  owed-silent : (message : Option Message) (p : Parts) → in_service p link ≡ true → ((l : ℕ) → IsSilent (link_at p l)) → (l : ℕ) → IsSilent (link_at (owing link message p) l)
  owed-silent None p serves h l = h l
  owed-silent (Some m) p serves h l =
      let up : is_down (link_at p link).alignment ≡ false = serving.serves-up (link_at p link).alignment serves in
      each-set IsSilent p.links link l (record (link_at p link) { acknowledgement_owed = true }) down_link h
      (record { waiting = (h link).waiting; owed = λ gone. (let no : true ≡ false = sym gone ∙ up in absurd cc) })

  -- what shows of parts stays
  record SameParts (p q : Parts) : Type 0 where
    size : length q.links ≡ length p.links
    changeovers : q.changeovers ≡ p.changeovers
    routes : q.routes ≡ p.routes
    lost : q.messages_lost ≡ p.messages_lost
    broken : q.times_broken ≡ p.times_broken

  owed-parts : (message : Option Message) (p : Parts) → SameParts p (owing link message p)
  owed-parts None p = record { size = refl; changeovers = refl; routes = refl; lost = refl; broken = refl }
  owed-parts (Some m) p = record { size = length-set p.links link (record (link_at p link) { acknowledgement_owed = true }); changeovers = refl; routes = refl; lost = refl; broken = refl }

  module _ (n : Node WholeQueues) (d : Carrying) (confirmed : ℕ) (k : Books) (right : numbers whole c link d n ≡ Ok confirmed) (serves : in_service n.parts link ≡ true) where
    abbrev taken : Node WholeQueues
    taken = accept whole c link d confirmed n

    abbrev new : List Message
    new = option_to_list d.message

    abbrev timed_node : Parts
    timed_node = timed_parts c link confirmed (whole.outstanding (whole.accepted n.queues link d.fsn d.bsn (carries d)) link) n.parts

    taken-queue : (q : Queue) → q ≡ queue_at n.queues link → queue.accepted (queue_at n.queues link) d.fsn d.bsn (carries d) ≡ after_answer q (carries d) (Ok confirmed)
    taken-queue q e = ap (after_answer (queue_at n.queues link) (carries d)) right ∙ ap (λ (r : Queue). after_answer r (carries d) (Ok confirmed)) (sym e)

    taken-shown : (e : LinkEnd) → IsSized c n → IsShown n link e → e.phase ≡ Live → e.queue ≡ queue_at n.queues link
        → IsShown taken link (record e { queue = after_answer e.queue (carries d) (Ok confirmed) })
    taken-shown e z s live same = record {
      queue =
          get_or-set_same n.queues.links link (queue.accepted (queue_at n.queues link) d.fsn d.bsn (carries d)) first_queue (subst (λ (i : ℕ). link < i) (sym z.queues) inside)
          ∙ taken-queue e.queue same
          ∙ sym (ap (λ ph. shown_in ph (after_answer e.queue (carries d) (Ok confirmed))) live);
      up = s.up ∙ ap (λ (y : Alignment). not (is_down y)) (sym (owed-link d.message timed_node link));
      serving = s.serving ∙ ap (λ (y : Alignment). is_in_service y) (sym (owed-link d.message timed_node link));
      incomplete = s.incomplete ∙ ap (λ ss. (changeover_of (record n.parts { changeovers = ss }) link).incomplete) (sym (owed-parts d.message timed_node).changeovers);
      awaited = s.awaited ∙ ap (λ ss. (changeover_of (record n.parts { changeovers = ss }) link).awaited) (sym (owed-parts d.message timed_node).changeovers);
      heard = λ h. s.heard (ap is_heard (sym (owed-link d.message timed_node link)) ∙ h);
    }

    taken-sized : IsSized c n → IsSized c taken
    taken-sized z = record {
      links = (owed-parts d.message timed_node).size ∙ z.links;
      queues = length-set n.queues.links link _ ∙ z.queues;
      changeovers = ap (λ xs. length xs) (owed-parts d.message timed_node).changeovers ∙ z.changeovers;
      silent = owed-silent d.message timed_node serves z.silent;
      ways = ap ways_of (owed-parts d.message timed_node).routes ∙ z.ways;
    }

    taken-others : (l : ℕ) → l ≢ link → IsAlike n taken l
    taken-others l apart = record {
      queue = get_or-set_other n.queues.links link l (queue.accepted (queue_at n.queues link) d.fsn d.bsn (carries d)) first_queue apart;
      alignment = owed-link d.message timed_node l;
      standing = ap (λ ss. changeover_of (record n.parts { changeovers = ss }) l) (owed-parts d.message timed_node).changeovers;
    }

    pub taken-serves : in_service taken.parts link ≡ true
    taken-serves = ap (λ (y : Alignment). is_in_service y) (owed-link d.message timed_node link) ∙ serves

    pub taken-grown : Grown n.parts.times_broken taken.parts.times_broken
    taken-grown = same-grown (owed-parts d.message timed_node).broken

    pub takes-frame : (p : Network) (fs : List Frame) → IsAt shape c p → ShownAt settings t w x (mid n [] [] k) p → (line_at p its).to_near ≡ frame_of d ∷ fs → Leads settings t shape o n.parts.times_broken p (there new) x (mid taken new [] k)
    takes-frame p fs h s first = by d.message refl
      where
        y : Line
        y = line_at p its

        shown : IsShown n link y.near
        shown = s.here.ends link inside

        serving : y.near.serving ≡ true
        serving = shown.serving ∙ serves

        is_up : y.near.up ≡ true
        is_up = (end-at shape o c well p link h).serving serving

        live : y.near.phase ≡ Live
        live = (end-at shape o c well p link h).live_up is_up

        same : y.near.queue ≡ queue_at n.queues link
        same = sym (live-queue shape o c well n link y.near live shown)

        booked : IsBooked (node_at shape p its) (mid n [] [] k)
        booked = same-node p (mid n [] [] k) s.here

        by : (message : Option Message) → d.message ≡ message → Leads settings t shape o n.parts.times_broken p (there new) x (mid taken new [] k)
        by None e =
            let z : Line = with_accepted y fs false confirmed y.far.came in
            let plain : carries d ≡ false = ap (λ (b : Option Message). is_some b) e in
            let none : new ≡ [] = ap option_to_list e in
            leads-one settings t shape o p _ (there new) x (mid taken new [] k)
            (moves.takes_empty (record {
              place = its;
              fsn = d.fsn;
              bsn = d.bsn;
              rest = fs;
              first = first ∙ ap (λ (b : Option Message). frame_by b d.fsn d.bsn ∷ fs) e;
              up = is_up;
              count = confirmed;
              accepted = ap (λ (q : Queue). accept_answer q d.fsn d.bsn false) same ∙ ap (accept_answer (queue_at n.queues link) d.fsn d.bsn) (sym plain) ∙ right;
              after = line-set shape p its z (node_at shape p its) (link-inside shape o c well link) (own-inside shape o c well link);
            }))
            taken-grown (λ point. refl)
            (reline-near settings t shape o w (there new) x link (mid n [] [] k) (mid taken new [] k) p z (node_at shape p its) fx s (pop-only new)
            (record { to_far = refl; told_far = refl; far_may = refl; near_came = refl; far = λ j l g. record { queue = g.queue; up = g.up; serving = g.serving; incomplete = g.incomplete; awaited = g.awaited; heard = g.heard } })
            inside (taken-sized s.here.sized)
            (subst (λ (b : Bool). IsShown taken link (record y.near { queue = after_answer y.near.queue b (Ok confirmed) })) plain (taken-shown y.near s.here.sized shown live same))
            taken-others
            (record {
              bag = λ test. omega (arith, booked.bag test, ap (count_by test) none);
              accepted = λ test. omega (arith, booked.accepted test, ap (users_that test) none);
              named = subst (λ (times : ℕ). min (users_that any_message (node_at shape p its).named) most ≤ times) (sym (owed-parts d.message timed_node).lost) booked.named;
              within = booked.within;
            })
            (pop-flown new y z (frame_of d) fs (s.flown x link fx inside) first refl refl refl (λ test. omega (arith, ap (count_by test) none))))
        by (Some m) e =
            let z : Line = with_accepted y fs true confirmed (m ∷ y.far.came) in
            let plain : carries d ≡ true = ap (λ (b : Option Message). is_some b) e in
            let one : new ≡ m ∷ [] = ap option_to_list e in
            let after : net.Node = record (node_at shape p its) { bag = m ∷ (node_at shape p its).bag; accepted = m ∷ (node_at shape p its).accepted } in
            leads-one settings t shape o p _ (there new) x (mid taken new [] k)
            (moves.takes_message (record {
              place = its;
              fsn = d.fsn;
              bsn = d.bsn;
              message = m;
              rest = fs;
              first = first ∙ ap (λ (b : Option Message). frame_by b d.fsn d.bsn ∷ fs) e;
              up = is_up;
              count = confirmed;
              accepted = ap (λ (q : Queue). accept_answer q d.fsn d.bsn true) same ∙ ap (accept_answer (queue_at n.queues link) d.fsn d.bsn) (sym plain) ∙ right;
              after = line-set shape p its z after (link-inside shape o c well link) (own-inside shape o c well link);
            }))
            taken-grown (λ point. refl)
            (reline-near settings t shape o w (there new) x link (mid n [] [] k) (mid taken new [] k) p z after fx s (pop-only new)
            (record { to_far = refl; told_far = refl; far_may = refl; near_came = refl; far = λ j l g. record { queue = g.queue; up = g.up; serving = g.serving; incomplete = g.incomplete; awaited = g.awaited; heard = g.heard } })
            inside (taken-sized s.here.sized)
            (subst (λ (b : Bool). IsShown taken link (record y.near { queue = after_answer y.near.queue b (Ok confirmed) })) plain (taken-shown y.near s.here.sized shown live same))
            taken-others
            (record {
              bag = λ test. omega (arith, booked.bag test, ap (count_by test) one, count-cons test m [], count-cons test m (node_at shape p its).bag);
              accepted = λ test. omega (arith, booked.accepted test, ap (users_that test) one, count-cons (user says_of test) m [], count-cons (user says_of test) m (node_at shape p its).accepted);
              named = subst (λ (times : ℕ). min (users_that any_message (node_at shape p its).named) most ≤ times) (sym (owed-parts d.message timed_node).lost) booked.named;
              within = booked.within;
            })
            (pop-flown new y z (frame_of d) fs (s.flown x link fx inside) first refl refl refl (λ test. omega (arith, ap (count_by test) one, count-cons test m [], count-cons test m y.far.came))))
