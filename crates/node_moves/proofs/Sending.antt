-- A frame is fetched at a node, and is in flight to the other end of its link: by one move.
use Rattle.node_moves.proofs.Basics.{◌≡◌, ◌≢◌, ℕ, zero, suc, Bool, true, false, not, ◌+◌, ◌^◌, ◌≤◌, ◌<◌, List, [], ◌∷◌, ◌++◌, length, drop, Option, Some, None, count_by, slice_get, refl, ap, sym, subst, ◌∙◌, arith, nat_tests, if◌then◌else◌, get_or-set_same, get_or-set_other, get_or_past, length-set, ⊎_elim, cases_eq, cases_lt, true≢false, is_some}
use Rattle.node_moves.proofs.Machine.{Side, Near, Far, Frame, LinkEnd, Live, Line, Network, Shape, Place, turned, seen, line_at, node_at, end_at, is_untrue, saying, one_if, IsEnd, Saying}
use Rattle.node_moves.proofs.Machine as machine
use Rattle.node_moves.proofs.Definitions.{Message, Configuration, IsWell, Node, WholeQueues, whole, link_at, links_with, queue_at, with_queue, in_service, down, changeover_of, Queue, first_queue, last_accepted, Link, down_link, is_down, is_in_service, Alignment, SIF_OCTETS}
use Rattle.node_moves.proofs.Reading.{IsShape, says_of, says-long, is_long, across}
use Rattle.node_moves.proofs.Shown.{Books, Mid, Shows, IsShown, IsAlike, IsSized, IsSilent, IsBooked, shown_in, is_heard, shown-alike, link-inside, own-inside}
use Rattle.node_moves.proofs.Going.{IsAt}
use Rattle.node_moves.proofs.Handling.{mid, end-at, live-queue}
use Rattle.node_moves.proofs.Failures.{node-there, number-fits, booked-alike}
use Rattle.node_moves.proofs.Heard.{never-odd}
use Rattle.node_moves.proofs.World.{books_of, IsFlown, IsData, IsStatus, AreData, AreStatuses, data_of, ShownAt, rests, place_at, at-work}
use Rattle.node_moves.proofs.Grown.{same-grown}
use Rattle.node_moves.proofs.Relining.{reline, Leads, leads-one, with_line, line-set}
use Rattle.node_moves.proofs.Flights.{IsSameFlight, same-flight, changed-here, changed-other, updated-here, updated-other}
use Rattle.node_moves.proofs.BothEnds.{IsOther, is-other, across-named, reline-both}
use Rattle.node_moves.proofs.Outgoing.{IsNext, is-next, message-is-next, next-serves, next-sends, by-up, status-out, owed-out}
use Rattle.node_moves.proofs.Steps.{StepGoes, step-none, finish}
use Rattle.node_moves.specs.Networks.{NetworkNode, NetworkState, IsNode, changed, updated, reach, sent, flies, fetch, other_end}
use Rattle.node_moves.specs.Networks as of_nodes
use Rattle.node_moves.specs.Outside.{ArePlaced}
use Rattle.exchange_rules.proofs.Steps.{ways_of}
use Rattle.exchange_rules.proofs.Lists.{alike-at, each-set}
use Rattle.exchange_rules.specs.Sending.{Outgoing, SendsStatus, SendsMessage, Acknowledges, SendsNothing, goes_out, may_send, next_message, status_first, message_first, frame_from, frame_taken, after_sending, after_take, without_owed}
use Rattle.link.specs.Queue.{Sending, forward_number, to_send, after_sending as sent_by, last_sent}
use Rattle.node_links.specs.NodeLinks.{link_in}
use Rattle.m2pa_codec.proofs.FrameTexts.{read_frame-spelled}
use Rattle.m2pa_codec.specs.Frames.{FrameValue, EmptyFrame, MessageFrame, StatusFrame, IsSayable, spelled}
use Rattle.m2pa_codec.specs.declared.status.LinkStatus.{LinkStatus}
use Rattle.network_moves.proofs.Counts.{count-cons}
use Rattle.network_moves.proofs.Apart.{drop-within}
use Rattle.network_moves.proofs.Lasting.{lasts-at}
use Rattle.network_moves.specs.Lasting.{is_odd, odd}
use Rattle.network_moves.proofs.Waiting.{drop-first}
use Rattle.network_moves.specs.Carrying.{with_status, with_frame, with_sent, acknowledgement}
use Rattle.network_moves.specs.Moves as moves
use Rattle.network_moves.specs.Networks as net
use Rattle.network_moves.specs.Networks.{waiting}

-- ---- what is in flight grows

data-behind : (texts : List (List ℕ)) (frames : List Frame) (text : List ℕ) (frame : Frame) → AreData texts frames → IsData text frame → AreData (texts ++ text ∷ []) (frames ++ frame ∷ [])
data-behind [] [] text frame h e = (e, tt)
data-behind [] (f ∷ frames) text frame h e = absurd h
data-behind (s ∷ texts) [] text frame h e = absurd h
data-behind (s ∷ texts) (f ∷ frames) text frame h e = (h.0, data-behind texts frames text frame h.1 e)

statuses-behind : (texts : List (List ℕ)) (many : ℕ) (text : List ℕ) → AreStatuses texts many → IsStatus text → AreStatuses (texts ++ text ∷ []) (suc many)
statuses-behind [] zero text h e = (e, tt)
statuses-behind [] (suc many) text h e = absurd h
statuses-behind (s ∷ texts) zero text h e = absurd h
statuses-behind (s ∷ texts) (suc many) text h e = (h.0, statuses-behind texts many text h.1 e)

-- frames are read as they were written
sayable-status : (bsn fsn : ℕ) (status : LinkStatus) → bsn < 2 ^ 24 → fsn < 2 ^ 24 → IsSayable (StatusFrame bsn fsn status)
sayable-status bsn fsn status b f = record { bsn_fits = b; fsn_fits = f; length_fits = omega arith }

sayable-empty : (bsn fsn : ℕ) → bsn < 2 ^ 24 → fsn < 2 ^ 24 → IsSayable (EmptyFrame bsn fsn)
sayable-empty bsn fsn b f = record { bsn_fits = b; fsn_fits = f; length_fits = omega arith }

sayable-message : (bsn number : ℕ) (m : Message) → bsn < 2 ^ 24 → number < 2 ^ 24 → length m.sif ≤ SIF_OCTETS → IsSayable (MessageFrame bsn number m.sio m.sif)
sayable-message bsn number m b f short = record {
  bsn_fits = b;
  fsn_fits = f;
  length_fits = (let long : 16 + length (0 ∷ m.sio ∷ m.sif) ≡ length (spelled (MessageFrame bsn number m.sio m.sif)) = omega arith in omega (arith, long, short));
}

-- ---- what a node takes

-- a frame is fetched only from a link that is there
pub taken-there : (c : Configuration) (link : ℕ) (n : Node WholeQueues) (frame : FrameValue) → frame_taken whole c link n ≡ Some frame → link < length n.parts.links
taken-there c link n frame e =
    ⊎_elim (λ (l : link < length n.parts.links). l)
    (λ (l : length n.parts.links ≤ link).
    let none : frame_taken whole c link n ≡ None =
    ap (λ (x : Link). frame_from (whole.last_accepted n.queues link) (whole.last_sent n.queues link)
    (status_first (slice_get x.waiting 0) (message_first (if may_send x then whole.to_send n.queues link c.window else None) x.acknowledgement_owed)))
    (get_or_past n.parts.links link down_link l) in
    absurd cc)
    (cases_lt link (length n.parts.links))

take-broken : (c : Configuration) (link : ℕ) (n : Node WholeQueues) (out : Outgoing) → (after_sending whole c link n out).parts.times_broken ≡ n.parts.times_broken
take-broken c link n (SendsStatus status) = refl
take-broken c link n (SendsMessage next) = refl
take-broken c link n Acknowledges = refl
take-broken c link n SendsNothing = refl

-- ---- a frame flies

reach-rests : (settings : (point : ℕ) → Configuration) (t : ArePlaced settings) (frame : FrameValue) (l : ℕ) (e : NetworkNode) → rests settings t (reach frame l e) ≡ rests settings t e
reach-rests settings t (StatusFrame bsn fsn status) l e = refl
reach-rests settings t (EmptyFrame bsn fsn) l e = refl
reach-rests settings t (MessageFrame bsn fsn sio sif) l e = refl

reach-away : (frame : FrameValue) (l : ℕ) (e : NetworkNode) (i : ℕ) → i ≢ l → IsSameFlight e (reach frame l e) i
reach-away (StatusFrame bsn fsn status) l e i d =
    record { user_data = refl; statuses = updated-other e.statuses l (e.statuses l ++ spelled (StatusFrame bsn fsn status) ∷ []) i d; follows = refl; came = refl }
reach-away (EmptyFrame bsn fsn) l e i d =
    record { user_data = updated-other e.user_data l (e.user_data l ++ spelled (EmptyFrame bsn fsn) ∷ []) i d; statuses = refl; follows = refl; came = refl }
reach-away (MessageFrame bsn fsn sio sif) l e i d =
    record { user_data = updated-other e.user_data l (e.user_data l ++ spelled (MessageFrame bsn fsn sio sif) ∷ []) i d; statuses = refl; follows = refl; came = refl }

-- a line with one more frame, or status, in flight to the far end
pub record Flies (frame : FrameValue) (y z : Line) : Type 0 where
  pub to_near : z.to_near ≡ y.to_near
  pub told_near : z.told_near ≡ y.told_near
  pub near_may : z.near_may_follow ≡ y.near_may_follow
  pub far_may : z.far_may_follow ≡ y.far_may_follow
  pub near_came : z.near.came ≡ y.near.came
  pub far : z.far ≡ y.far
  pub arrives : (e : NetworkNode) (l : ℕ) → IsFlown e l (turned y) → IsFlown (reach frame l e) l (turned z)

flies-status : (bsn fsn : ℕ) (status : LinkStatus) (y : Line) → IsSayable (StatusFrame bsn fsn status) → Flies (StatusFrame bsn fsn status) y (with_status y)
flies-status bsn fsn status y s = record {
  to_near = refl;
  told_near = refl;
  near_may = refl;
  far_may = refl;
  near_came = refl;
  far = refl;
  arrives = λ e l h. record {
    user_data = h.user_data;
    statuses = subst (λ (texts : List (List ℕ)). AreStatuses texts (suc y.told_far)) (sym (updated-here e.statuses l (e.statuses l ++ spelled (StatusFrame bsn fsn status) ∷ [])))
        (statuses-behind (e.statuses l) y.told_far (spelled (StatusFrame bsn fsn status)) h.statuses (record { value = StatusFrame bsn fsn status; reads = read_frame-spelled (StatusFrame bsn fsn status) s; status = refl }));
    follows = h.follows;
    came = h.came;
  };
}

-- User Data
flies-data : (frame : FrameValue) (shown : Frame) (y z : Line) → ((e : NetworkNode) (l : ℕ) → reach frame l e ≡ record e { user_data = updated e.user_data l (e.user_data l ++ spelled frame ∷ []) }) → IsSayable frame → data_of frame ≡ Some shown
    → z.to_far ≡ y.to_far ++ shown ∷ [] → z.to_near ≡ y.to_near → z.told_near ≡ y.told_near → z.told_far ≡ y.told_far → z.near_may_follow ≡ y.near_may_follow → z.far_may_follow ≡ y.far_may_follow
    → z.near.came ≡ y.near.came → z.far ≡ y.far → Flies frame y z
flies-data frame shown y z is s carries more to_near told_near told_far near_may far_may came far = record {
  to_near = to_near;
  told_near = told_near;
  near_may = near_may;
  far_may = far_may;
  near_came = came;
  far = far;
  arrives = λ e l h. subst (λ (g : NetworkNode). IsFlown g l (turned z)) (sym (is e l)) (record {
    user_data = subst (λ (texts : List (List ℕ)). AreData texts z.to_far) (sym (updated-here e.user_data l (e.user_data l ++ spelled frame ∷ [])))
        (subst (AreData (e.user_data l ++ spelled frame ∷ [])) (sym more)
        (data-behind (e.user_data l) y.to_far (spelled frame) shown h.user_data (record { value = frame; reads = read_frame-spelled frame s; carries = carries })));
    statuses = subst (AreStatuses (e.statuses l)) (sym told_far) h.statuses;
    follows = h.follows ∙ sym far_may;
    came = λ test. ap (count_by test) came ∙ h.came test;
  });
}

module _ (settings : (point : ℕ) → Configuration) (t : ArePlaced settings) (shape : Shape) (o : IsShape shape) (w : NetworkState) (x link : ℕ) (fx : IsNode settings x) where
  abbrev c : Configuration
  c = settings x

  abbrev well : IsWell c
  well = t.well x fx

  abbrev its : Place
  its = place_at settings t x link

  abbrev n : Node WholeQueues
  n = (w.node x).node

  abbrev k : Books
  k = books_of (w.node x)

  abbrev left : NetworkNode → NetworkNode
  left e = record e { node = after_take whole c link e.node }

  abbrev gone : Option of_nodes.LinkEnd → FrameValue → NetworkState
  gone q frame = flies frame q (changed x left w)

  -- the network after it
  flown-shown : (frame : FrameValue) (q : Option of_nodes.LinkEnd) → other_end settings x link ≡ q → (u : Mid) (p : Network) (z : Line) (b : net.Node) → ShownAt settings t w x (rests settings t (w.node x)) p
      → Flies frame (line_at p its) z → link < length c.links → IsSized c u.node → IsShown u.node link z.near → ((l : ℕ) → l ≢ link → IsAlike n u.node l) → IsBooked b u
      → ShownAt settings t (gone q frame) x u (with_line shape p its z b)
  flown-shown frame (Some there) e u p z b s f inside sized near others booked =
      let y : Line = line_at p its in
      let h : IsOther settings t shape o x link there = is-other settings t shape o x link there fx inside e in
      let at_x : (gone (Some there) frame).node x ≡ left (w.node x) = changed-other there.point (reach frame there.link) (changed x left w) x (λ same. h.apart (sym same)) ∙ changed-here x left w in
      let at_there : (gone (Some there) frame).node there.point ≡ reach frame there.link (w.node there.point) =
      changed-here there.point (reach frame there.link) (changed x left w) ∙ ap (reach frame there.link) (changed-other x left w there.point h.apart) in
      let flown : IsFlown (w.node x) link y = s.flown x link fx inside in
      reline-both settings t shape o w (gone (Some there) frame) x link there (rests settings t (w.node x)) u p z b fx s h
      (record {
        nodes = λ i d a. changed-other there.point (reach frame there.link) (changed x left w) i a ∙ changed-other x left w i d;
        rest = ap (rests settings t) at_there ∙ reach-rests settings t frame there.link (w.node there.point);
        here = λ i d. subst (λ (g : NetworkNode). IsSameFlight (w.node x) g i) (sym at_x) (record { user_data = refl; statuses = refl; follows = refl; came = refl });
        away = λ i d. subst (λ (g : NetworkNode). IsSameFlight (w.node there.point) g i) (sym at_there) (reach-away frame there.link (w.node there.point) i d);
      })
      (λ j i g. subst (IsShown j i) (sym f.far) g) inside sized near others booked
      (subst (λ (g : NetworkNode). IsFlown g link z) (sym at_x) (record {
        user_data = subst (AreData ((w.node x).user_data link)) (sym f.to_near) flown.user_data;
        statuses = subst (AreStatuses ((w.node x).statuses link)) (sym f.told_near) flown.statuses;
        follows = flown.follows ∙ sym f.near_may;
        came = λ test. ap (λ (g : LinkEnd). count_by test g.came) f.far ∙ flown.came test;
      }))
      (λ before. subst (λ (g : NetworkNode). IsFlown g there.link (turned z)) (sym at_there) (f.arrives (w.node there.point) there.link before))
  flown-shown frame None e u p z b s f inside sized near others booked =
      let y : Line = line_at p its in
      let at_x : (changed x left w).node x ≡ left (w.node x) = changed-here x left w in
      let flown : IsFlown (w.node x) link y = s.flown x link fx inside in
      let same_flight : (i : ℕ) → IsSameFlight (w.node x) ((changed x left w).node x) i =
      λ i. subst (λ (g : NetworkNode). IsSameFlight (w.node x) g i) (sym at_x) (record { user_data = refl; statuses = refl; follows = refl; came = refl }) in
      reline settings t shape o w (changed x left w) x link (rests settings t (w.node x)) u p z b fx s (record {
        inside = inside;
        sized = sized;
        near = near;
        others = others;
        booked = booked;
        far = λ j i g. subst (IsShown j i) (sym f.far) g;
        nodes = λ i d. ap (rests settings t) (changed-other x left w i d);
        flown = same-flight (w.node x) ((changed x left w).node x) link z (same_flight link) (record {
          user_data = subst (AreData ((w.node x).user_data link)) (sym f.to_near) flown.user_data;
          statuses = subst (AreStatuses ((w.node x).statuses link)) (sym f.told_near) flown.statuses;
          follows = flown.follows ∙ sym f.near_may;
          came = λ test. ap (λ (g : LinkEnd). count_by test g.came) f.far ∙ flown.came test;
        });
        flown_far = λ point i fp il across_it before. absurd (nobody e point i fp il across_it);
        flown_others = λ point i fp il apart g before.
            ⊎_elim
            (λ (same : point ≡ x). subst (λ (j : ℕ). IsFlown ((changed x left w).node j) i g) (sym same) (same-flight (w.node x) ((changed x left w).node x) i g (same_flight i) (subst (λ (j : ℕ). IsFlown (w.node j) i g) same before)))
            (λ (d : point ≢ x). subst (λ (h : NetworkNode). IsFlown h i g) (sym (changed-other x left w point d)) before)
            (cases_eq point x);
      })
    where
      -- where there is no other end, none is across
      nobody : other_end settings x link ≡ None → (point i : ℕ) → IsNode settings point → i < length (settings point).links → place_at settings t point i ≡ across (place_at settings t x link) → ⊥
      nobody none point i fp il e = (let no : None ≡ Some (record { point = point; link = i }) = sym none ∙ across-named settings t shape o x link point i fx fp il e in true≢false (sym (ap (λ (q : Option of_nodes.LinkEnd). is_some q) no)))

  -- ---- what was broken stays so

  left-broken : (i : ℕ) → ((changed x left w).node i).node.parts.times_broken ≡ (w.node i).node.parts.times_broken
  left-broken i =
      ⊎_elim
      (λ (same : i ≡ x).
      subst (λ (j : ℕ). ((changed x left w).node j).node.parts.times_broken ≡ (w.node j).node.parts.times_broken) (sym same)
      (ap (λ (e : NetworkNode). e.node.parts.times_broken) (changed-here x left w) ∙ take-broken c link n (goes_out whole c link n)))
      (λ (d : i ≢ x). ap (λ (e : NetworkNode). e.node.parts.times_broken) (changed-other x left w i d))
      (cases_eq i x)

  gone-broken : (q : Option of_nodes.LinkEnd) (frame : FrameValue) (i : ℕ) → ((gone q frame).node i).node.parts.times_broken ≡ (w.node i).node.parts.times_broken
  gone-broken None frame i = left-broken i
  gone-broken (Some there) frame i =
      ⊎_elim
      (λ (same : i ≡ there.point).
      subst (λ (j : ℕ). ((gone (Some there) frame).node j).node.parts.times_broken ≡ ((changed x left w).node j).node.parts.times_broken) (sym same)
      (ap (λ (e : NetworkNode). e.node.parts.times_broken) (changed-here there.point (reach frame there.link) (changed x left w))
      ∙ ap (λ (m : Mid). m.node.parts.times_broken) (reach-rests settings t frame there.link ((changed x left w).node there.point))))
      (λ (d : i ≢ there.point). ap (λ (e : NetworkNode). e.node.parts.times_broken) (changed-other there.point (reach frame there.link) (changed x left w) i d))
      (cases_eq i there.point)
      ∙ left-broken i

  gone-x : (q : Option of_nodes.LinkEnd) (frame : FrameValue) → link < length c.links → other_end settings x link ≡ q → (gone q frame).node x ≡ left (w.node x)
  gone-x None frame inside e = changed-here x left w
  gone-x (Some there) frame inside e =
      changed-other there.point (reach frame there.link) (changed x left w) x (λ same. (is-other settings t shape o x link there fx inside e).apart (sym same)) ∙ changed-here x left w

  -- ---- the node at rest, once its frame flies

  flying : (frame : FrameValue) (out : Outgoing) → goes_out whole c link n ≡ out → ((p : Network) → IsAt shape c p → ShownAt settings t w x (rests settings t (w.node x)) p
      → (inside : link < length c.links) × Leads settings t shape o n.parts.times_broken p (gone (other_end settings x link) frame) x (mid (after_sending whole c link n out) [] [] k)) → StepGoes settings t shape o w (gone (other_end settings x link) frame)
  flying frame out e f = record {
    grown = λ i fi. same-grown (gone-broken (other_end settings x link) frame i);
    goes = λ p h s.
        let it : (inside : link < length c.links) × Leads settings t shape o n.parts.times_broken p (gone (other_end settings x link) frame) x (mid (after_sending whole c link n out) [] [] k) = f p (h x fx) (at-work settings t w x p fx s) in
        finish settings t shape o w p (gone (other_end settings x link) frame) (gone (other_end settings x link) frame) x fx (mid (after_sending whole c link n out) [] [] k) it.1
        (ap (λ (g : Outgoing). mid (after_sending whole c link n g) [] [] k) (sym e) ∙ ap (rests settings t) (sym (gone-x (other_end settings x link) frame it.0 refl)))
        (λ i d. refl) (λ i. record { user_data = refl; statuses = refl; follows = refl; came = refl });
  }

  listed : (frame : FrameValue) → frame_taken whole c link n ≡ Some frame → IsSized c n → link < length c.links
  listed frame e z = subst (λ (i : ℕ). link < i) z.links (taken-there c link n frame e)

  same-node : (p : Network) (m : Mid) → Shows c p m → IsBooked (node_at shape p its) m
  same-node p m s = subst (λ (b : net.Node). IsBooked b m) (sym (node-there shape o c well p link)) s.booked

  -- a link of which only what it says changed
  said : (p : Network) (node : Node WholeQueues) (y : Link) → node.queues ≡ n.queues → node.parts.links ≡ links_with n.parts link y → node.parts.changeovers ≡ n.parts.changeovers → node.parts.messages_lost ≡ n.parts.messages_lost
      → y.alignment ≡ (link_at n.parts link).alignment → (IsSilent (link_at n.parts link) → IsSilent y) → (l : ℕ) → IsAlike n node l
  said p node y queues links changeovers lost same quiet l = record {
    queue = ap (λ (q : WholeQueues). queue_at q l) queues;
    alignment = ap (λ (xs : List Link). (link_in xs l).alignment) links ∙ alike-at (λ (g : Link). g.alignment) n.parts.links link l y down_link same;
    standing = ap (λ ss. changeover_of (record n.parts { changeovers = ss }) l) changeovers;
  }

  said-sized : (node : Node WholeQueues) (y : Link) → length node.queues.links ≡ length n.queues.links → node.parts.links ≡ links_with n.parts link y → node.parts.changeovers ≡ n.parts.changeovers → node.parts.routes ≡ n.parts.routes
      → (IsSilent (link_at n.parts link) → IsSilent y) → IsSized c n → IsSized c node
  said-sized node y queues links changeovers routes quiet z = record {
    links = ap (λ (xs : List Link). length xs) links ∙ length-set n.parts.links link y ∙ z.links;
    queues = queues ∙ z.queues;
    changeovers = ap (λ xs. length xs) changeovers ∙ z.changeovers;
    silent = λ l. subst (λ (xs : List Link). IsSilent (link_in xs l)) (sym links) (each-set IsSilent n.parts.links link l y down_link z.silent (quiet (z.silent link)));
    ways = ap ways_of routes ∙ z.ways;
  }

  -- ---- what goes out

  abbrev first_out : Outgoing → Option FrameValue
  first_out out = frame_from (last_accepted (queue_at n.queues link)) (last_sent (queue_at n.queues link)) out

  sent-fits : (q : Queue) → last_sent q < 2 ^ 24
  sent-fits q = number-fits _

  status-goes : (status : LinkStatus) → goes_out whole c link n ≡ SendsStatus status → StepGoes settings t shape o w (fetch settings (first_out (SendsStatus status)) x link w)
  status-goes status e =
      let la : ℕ = last_accepted (queue_at n.queues link) in
      let ls : ℕ = last_sent (queue_at n.queues link) in
      let frame : FrameValue = StatusFrame la ls status in
      flying frame (SendsStatus status) e (λ p h s.
      let inside : link < length c.links = listed frame (ap (frame_from la ls) e) s.here.sized in
      let y : Line = line_at p its in
      let node : Node WholeQueues = after_sending whole c link n (SendsStatus status) in
      let new : Link = record (link_at n.parts link) { waiting = drop 1 (link_at n.parts link).waiting } in
      let quiet : IsSilent (link_at n.parts link) → IsSilent new = λ g. record { waiting = λ gone. ap (drop 1) (g.waiting gone); owed = g.owed } in
      let up : down n.parts link ≡ false =
      by-up (down n.parts link) (λ gone. status-out (slice_get (link_at n.parts link).waiting 0) (next_message whole c link n) (link_at n.parts link).acknowledgement_owed status
      (ap (λ (xs : List LinkStatus). slice_get xs 0) ((s.here.sized.silent link).waiting gone)) e) in
      let shown : IsShown n link y.near = s.here.ends link inside in
      let alike : (l : ℕ) → IsAlike n node l = said p node new refl refl refl refl refl quiet in (
        inside,
        leads-one settings t shape o p (with_line shape p its (with_status y) (node_at shape p its)) (gone (other_end settings x link) frame) x (mid node [] [] k)
            (moves.sends_status (record {
              place = its;
              up = shown.up ∙ ap not up;
              after = line-set shape p its (with_status y) (node_at shape p its) (link-inside shape o c well link) (own-inside shape o c well link);
            }))
            (same-grown refl) (λ point. refl)
            (flown-shown frame (other_end settings x link) refl (mid node [] [] k) p (with_status y) (node_at shape p its) s (flies-status la ls status y (sayable-status la ls status (number-fits _) (sent-fits (queue_at n.queues link)))) inside
            (said-sized node new refl refl refl refl quiet s.here.sized) (shown-alike n node link y.near (alike link) shown) (λ l d. alike l) (booked-alike (node_at shape p its) n node [] [] k refl refl (same-node p (mid n [] [] k) s.here))),
      ))

  -- an acknowledgement
  owed-goes : goes_out whole c link n ≡ Acknowledges → StepGoes settings t shape o w (fetch settings (first_out Acknowledges) x link w)
  owed-goes e =
      let la : ℕ = last_accepted (queue_at n.queues link) in
      let ls : ℕ = last_sent (queue_at n.queues link) in
      let frame : FrameValue = EmptyFrame la ls in
      flying frame Acknowledges e (λ p h s.
      let inside : link < length c.links = listed frame (ap (frame_from la ls) e) s.here.sized in
      let y : Line = line_at p its in
      let node : Node WholeQueues = after_sending whole c link n Acknowledges in
      let new : Link = without_owed (link_at n.parts link) in
      let quiet : IsSilent (link_at n.parts link) → IsSilent new = λ g. record { waiting = g.waiting; owed = λ gone. refl } in
      let up : down n.parts link ≡ false =
      by-up (down n.parts link) (λ gone. owed-out (slice_get (link_at n.parts link).waiting 0) (next_message whole c link n) (link_at n.parts link).acknowledgement_owed ((s.here.sized.silent link).owed gone) e) in
      let shown : IsShown n link y.near = s.here.ends link inside in
      let is_up : y.near.up ≡ true = shown.up ∙ ap not up in
      let live : y.near.phase ≡ Live = (end-at shape o c well p link h).live_up is_up in
      let same : queue_at n.queues link ≡ y.near.queue = live-queue shape o c well n link y.near live shown in
      let alike : (l : ℕ) → IsAlike n node l = said p node new refl refl refl refl refl quiet in
      let z : Line = with_frame y (acknowledgement y.near.queue) in (
        inside,
        leads-one settings t shape o p (with_line shape p its z (node_at shape p its)) (gone (other_end settings x link) frame) x (mid node [] [] k)
            (moves.sends_empty (record {
              place = its;
              up = is_up;
              after = line-set shape p its z (node_at shape p its) (link-inside shape o c well link) (own-inside shape o c well link);
            }))
            (same-grown refl) (λ point. refl)
            (flown-shown frame (other_end settings x link) refl (mid node [] [] k) p z (node_at shape p its) s
            (flies-data frame (acknowledgement y.near.queue) y z (λ e l. refl) (sayable-empty la ls (number-fits _) (sent-fits (queue_at n.queues link))) (ap (λ (q : Queue). Some (acknowledgement q)) same) refl refl refl refl refl refl refl refl) inside
            (said-sized node new refl refl refl refl quiet s.here.sized) (shown-alike n node link y.near (alike link) shown) (λ l d. alike l)
            (booked-alike (node_at shape p its) n node [] [] k refl refl (same-node p (mid n [] [] k) s.here))),
      ))

  -- ---- a message

  -- the next that goes out isn't too long
  brief-next : (p : Network) (next : Sending) → IsAt shape c p → (line_at p its).near.serving ≡ true → IsNext (line_at p its).near.queue c.window next → is_long next.message ≡ false
  brief-next p next h serving is = by (is_long next.message) refl
    where
      q : Queue
      q = (line_at p its).near.queue

      -- it stands in the queue
      none : one_if (odd says_of next.message) ≤ 0
      none =
          omega (
            arith,
            (lasts-at shape says_of p its h.lasts).near_plain,
            drop-within (odd says_of) q.sent q.all,
            ap (count_by (odd says_of)) (drop-first q.all q.sent next.message is.stands),
            count-cons (odd says_of) next.message (drop (q.sent + 1) q.all),
          )

      by : (b : Bool) → is_long next.message ≡ b → is_long next.message ≡ false
      by false e = e
      by true e =
          let one : one_if (odd says_of next.message) ≡ 1 = ap (λ (s : Saying). one_if (is_odd s)) (says-long next.message e) ∙ ap one_if never-odd in
          absurd (omega (arith, none, one))

  brief-so : (m : Message) → is_long m ≡ false → length m.sif ≤ SIF_OCTETS
  brief-so m e = grind (arith, nat_tests, e)

  message-goes : (next : Sending) → goes_out whole c link n ≡ SendsMessage next → StepGoes settings t shape o w (fetch settings (first_out (SendsMessage next)) x link w)
  message-goes next e =
      let la : ℕ = last_accepted (queue_at n.queues link) in
      let ls : ℕ = last_sent (queue_at n.queues link) in
      let q : Queue = queue_at n.queues link in
      let frame : FrameValue = MessageFrame la next.number next.message.sio next.message.sif in
      let sends : next_message whole c link n ≡ Some next = message-is-next (slice_get (link_at n.parts link).waiting 0) (next_message whole c link n) (link_at n.parts link).acknowledgement_owed next e in
      let serves : in_service n.parts link ≡ true = next-serves (in_service n.parts link) (link_at n.parts link).peer_busy (to_send q c.window) next sends in
      let is : to_send q c.window ≡ Some next = next-sends (may_send (link_at n.parts link)) (to_send q c.window) next sends in
      flying frame (SendsMessage next) e (λ p h s.
      let inside : link < length c.links = listed frame (ap (frame_from la ls) e) s.here.sized in
      let y : Line = line_at p its in
      let node : Node WholeQueues = after_sending whole c link n (SendsMessage next) in
      let new : Link = without_owed (link_at n.parts link) in
      let quiet : IsSilent (link_at n.parts link) → IsSilent new = λ g. record { waiting = g.waiting; owed = λ gone. refl } in
      let shown : IsShown n link y.near = s.here.ends link inside in
      let serving : y.near.serving ≡ true = shown.serving ∙ serves in
      let live : y.near.phase ≡ Live = (end-at shape o c well p link h).live_up ((end-at shape o c well p link h).serving serving) in
      let same : q ≡ y.near.queue = live-queue shape o c well n link y.near live shown in
      let its_next : IsNext y.near.queue c.window next = subst (λ (g : Queue). IsNext g c.window next) same (is-next q c.window next is) in
      let short : length next.message.sif ≤ SIF_OCTETS = brief-so next.message (brief-next p next h serving its_next) in
      let fits : next.number < 2 ^ 24 = (let number : next.number ≡ forward_number q q.sent = (is-next q c.window next is).number in omega (arith, number)) in
      let z : Line = with_sent y next in
      let queues : node.queues ≡ with_queue n.queues link (sent_by q (Some next)) = ap (λ (g : Option Sending). with_queue n.queues link (sent_by q g)) is in
      let others : (l : ℕ) → l ≢ link → IsAlike n node l = λ l d. record {
        queue = ap (λ (g : WholeQueues). queue_at g l) queues ∙ get_or-set_other n.queues.links link l (sent_by q (Some next)) first_queue d;
        alignment = alike-at (λ (g : Link). g.alignment) n.parts.links link l new down_link refl;
        standing = refl;
      } in (
        inside,
        leads-one settings t shape o p (with_line shape p its z (node_at shape p its)) (gone (other_end settings x link) frame) x (mid node [] [] k)
            (moves.sends_message (record {
              place = its;
              serving = serving;
              window = c.window;
              small = well.window.below;
              sending = next;
              next = ap (λ (g : Queue). to_send g c.window) (sym same) ∙ is;
              after = line-set shape p its z (node_at shape p its) (link-inside shape o c well link) (own-inside shape o c well link);
            }))
            (same-grown refl) (λ point. refl)
            (flown-shown frame (other_end settings x link) refl (mid node [] [] k) p z (node_at shape p its) s
            (flies-data frame (machine.MessageFrame next.number (last_accepted y.near.queue) next.message) y z (λ e l. refl) (sayable-message la next.number next.message (number-fits _) fits short)
            (ap (λ (g : Queue). Some (machine.MessageFrame next.number (last_accepted g) next.message)) same) refl refl refl refl refl refl refl refl) inside
            (said-sized node new (ap (λ (g : WholeQueues). length g.links) queues ∙ length-set n.queues.links link (sent_by q (Some next))) refl refl refl quiet s.here.sized)
            (record {
              queue =
                  ap (λ (g : WholeQueues). queue_at g link) queues
                  ∙ get_or-set_same n.queues.links link (sent_by q (Some next)) first_queue (subst (λ (i : ℕ). link < i) (sym s.here.sized.queues) inside)
                  ∙ ap (λ (g : Queue). sent_by g (Some next)) same
                  ∙ sym (ap (λ ph. shown_in ph (sent_by y.near.queue (Some next))) live);
              up = shown.up ∙ ap (λ (a : Alignment). not (is_down a)) (sym (alike-at (λ (g : Link). g.alignment) n.parts.links link link new down_link refl));
              serving = shown.serving ∙ ap (λ (a : Alignment). is_in_service a) (sym (alike-at (λ (g : Link). g.alignment) n.parts.links link link new down_link refl));
              incomplete = shown.incomplete;
              awaited = shown.awaited;
              heard = λ g. shown.heard (ap is_heard (sym (alike-at (λ (g : Link). g.alignment) n.parts.links link link new down_link refl)) ∙ g);
            })
            others
            (booked-alike (node_at shape p its) n node [] [] k (ap (λ (g : WholeQueues). g.held) queues) refl (same-node p (mid n [] [] k) s.here))),
      ))

  -- ---- whatever goes out

  takes-by : (out : Outgoing) → goes_out whole c link n ≡ out → StepGoes settings t shape o w (fetch settings (first_out out) x link w)
  takes-by (SendsStatus status) e = status-goes status e
  takes-by (SendsMessage next) e = message-goes next e
  takes-by Acknowledges e = owed-goes e
  takes-by SendsNothing e = step-none settings t shape o w

  pub takes-step : StepGoes settings t shape o w (fetch settings (frame_taken whole c link n) x link w)
  takes-step = takes-by (goes_out whole c link n) refl
