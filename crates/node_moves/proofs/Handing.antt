-- Frames and link statuses are handed in, and link statuses are lost or come twice: steps of a network, by moves.
use Rattle.node_moves.proofs.Basics.{◌≡◌, ◌≢◌, ℕ, zero, suc, Bool, true, false, not, ◌<◌, List, [], ◌∷◌, ◌++◌, length, drop, Option, Some, None, Result, Ok, Err, nat_eq, nat_lt, refl, ap, sym, subst, ◌∙◌, arith, nat_tests, if◌then◌else◌, ⊎_elim, cases_eq, ne_eqb}
use Rattle.node_moves.proofs.Machine.{Frame, Line, Network, Shape, Place, line_at, node_at, last_of}
use Rattle.node_moves.proofs.Definitions.{Message, Configuration, IsWell, Node, Done, WholeQueues, whole, answer, refuse, is_link, down}
use Rattle.node_moves.proofs.Reading.{IsShape}
use Rattle.node_moves.proofs.Shown.{Books, no_books, accepting, naming, Mid, IsShown, IsBooked, link-inside, own-inside}
use Rattle.node_moves.proofs.Going.{IsAt, Arrives, Goes}
use Rattle.node_moves.proofs.Handling.{mid, same-ends}
use Rattle.node_moves.proofs.Failures.{node-there}
use Rattle.node_moves.proofs.Failing.{fail-goes}
use Rattle.node_moves.proofs.Aligning.{HeardAt, link_status-if}
use Rattle.node_moves.proofs.Events.{late_by-goes}
use Rattle.node_moves.proofs.World.{IsFlown, books_of, AreData, data_of, IsStatus, AreStatuses, ShownAt, Shown, rests, place_at, at-work}
use Rattle.node_moves.proofs.Grown.{Grown, same-grown, both-grown}
use Rattle.node_moves.proofs.Relining.{Leads, leads-one, leads-both, leads-at, leads-goes, leads-arrives, with_line, line-set, here-line}
use Rattle.node_moves.proofs.Flights.{IsSameFlight, came-alike, changed-here, changed-other, updated-here, updated-other, OnlyHere, only-changed, statuses-changed, reline-near}
use Rattle.node_moves.proofs.Steps.{StepGoes, finish, grown-before, event-settles, outcome-same, statuses-step}
use Rattle.node_moves.proofs.Coming.{popped, unseen, messages-append, messages-unseen}
use Rattle.node_moves.proofs.Data.{there, Comes_in, kind-comes}
use Rattle.node_moves.specs.Networks.{Fate, NetworkNode, NetworkState, IsNode, changed, updated, fates, hear_data, hear_status, with_statuses, state_of, messages_of}
use Rattle.node_moves.specs.Outside.{ArePlaced}
use Rattle.exchange_rules.specs.Conserving.{brought_by}
use Rattle.exchange_rules.specs.Conserving as of_rules
unfoldable use Rattle.exchange_rules.specs.Exchange.{apply}
use Rattle.exchange_rules.specs.Frames.{read, receive, leave_aside, on_link_status}
use Rattle.exchange_rules.specs.Laws.{accept_text}
use Rattle.exchange_rules.specs.Receiving.{new_message}
use Rattle.exchange_rules.specs.State.{FrameCame}
use Rattle.m2pa_codec.specs.Frames.{FrameValue, EmptyFrame, MessageFrame, StatusFrame, read_frame}
use Rattle.network_moves.specs.Carrying.{with_heard, with_statuses_left}
use Rattle.network_moves.specs.Moves as moves
use Rattle.network_moves.specs.Networks as net
use Rattle.signalling_types.specs.declared.cause.Cause.TheVariants as causes
use Rattle.signalling_types.specs.declared.notice.FailureReason.TheVariants as reasons
use Rattle.signalling_types.specs.declared.notice.FrameFault.{FrameFault}
use Rattle.signalling_types.specs.declared.notice.FrameFault.TheVariants as faults
use Rattle.signalling_types.specs.declared.outcome.Outcome.{Outcome}
use Rattle.signalling_types.specs.declared.outcome.Outcome.TheVariants.{Ignored}
use Rattle.std.specs.Option.{option_to_list}

-- two changes of a node that come to the same
changed-by : (b : Bool) (f g : NetworkNode → NetworkNode) (e : NetworkNode) → (b ≡ true → f e ≡ g e) → (if b then f e else e) ≡ (if b then g e else e)
changed-by true f g e h = h refl
changed-by false f g e h = refl

pub changed-alike : (x : ℕ) (f g : NetworkNode → NetworkNode) (w : NetworkState) → f (w.node x) ≡ g (w.node x) → changed x f w ≡ changed x g w
changed-alike x f g w same = λ i. record { node = λ other. each other i }
  where
    each : (other : ℕ) → (if nat_eq other x then f (w.node other) else w.node other) ≡ (if nat_eq other x then g (w.node other) else w.node other)
    each other =
        ⊎_elim
        (λ (is : other ≡ x). subst (λ (j : ℕ). (if nat_eq j x then f (w.node j) else w.node j) ≡ (if nat_eq j x then g (w.node j) else w.node j)) (sym is) (changed-by (nat_eq x x) f g (w.node x) (λ h. same)))
        (λ (d : other ≢ x).
        ap (λ (b : Bool). if b then f (w.node other) else w.node other) (ne_eqb other x d) ∙ ap (λ (b : Bool). if b then g (w.node other) else w.node other) (sym (ne_eqb other x d)))
        (cases_eq other x)

module _ (settings : (point : ℕ) → Configuration) (t : ArePlaced settings) (shape : Shape) (o : IsShape shape) (w : NetworkState) (x link : ℕ) (fx : IsNode settings x) (inside : link < length (settings x).links) where
  abbrev c : Configuration
  c = settings x

  abbrev well : IsWell c
  well = t.well x fx

  abbrev its : Place
  its = place_at settings t x link

  abbrev n : Node WholeQueues
  n = (w.node x).node

  abbrev k : Books
  k = books_of (w.node x)

  -- ---- what was broken stays so, whatever comes

  aside-grown : (fault : FrameFault) → down n.parts link ≡ false → Grown n.parts.times_broken (leave_aside whole c link fault n).left.parts.times_broken
  aside-grown faults.Length up = ((fail-goes shape o c well link n reasons.Length up).each [] [] no_books).grown
  aside-grown faults.Short up = same-grown refl
  aside-grown faults.Version up = same-grown refl
  aside-grown faults.Unknown up = same-grown refl

  read-is : (text : List ℕ) (value : FrameValue) → read_frame text ≡ Ok value → is_link n.parts link ≡ true → down n.parts link ≡ false → receive whole c link text n ≡ read whole c link (Ok value) n
  read-is text value e listed up =
      ap (λ (b : Bool). if b then (if down n.parts link then answer Ignored n else read whole c link (read_frame text) n) else refuse causes.NoSuchName n) listed
      ∙ ap (λ (b : Bool). if b then answer Ignored n else read whole c link (read_frame text) n) up
      ∙ ap (λ (r : Result FrameValue FrameFault). read whole c link r n) e

  abbrev grows_to : Done WholeQueues → Type 0
  grows_to d = Grown n.parts.times_broken d.left.parts.times_broken

  read-grown : (text : List ℕ) (r : Result FrameValue FrameFault) → read_frame text ≡ r → is_link n.parts link ≡ true → down n.parts link ≡ false → grows_to (read whole c link r n)
  read-grown text (Err fault) e there up = aside-grown fault up
  read-grown text (Ok (StatusFrame bsn fsn status)) e there up = ((link_status-if shape o c well link status n).each [] [] no_books).grown
  read-grown text (Ok (EmptyFrame bsn fsn)) e listed up =
      subst grows_to (read-is text (EmptyFrame bsn fsn) e listed up)
      (kind-comes settings t shape o (record { node = λ y. record (w.node y) { user_data = λ l. text ∷ [] } }) x link fx inside text [] refl (EmptyFrame bsn fsn) e _ refl).grown
  read-grown text (Ok (MessageFrame bsn fsn sio sif)) e listed up =
      subst grows_to (read-is text (MessageFrame bsn fsn sio sif) e listed up)
      (kind-comes settings t shape o (record { node = λ y. record (w.node y) { user_data = λ l. text ∷ [] } }) x link fx inside text [] refl (MessageFrame bsn fsn sio sif) e _ refl).grown

  received-grown : (text : List ℕ) (l b : Bool) → is_link n.parts link ≡ l → down n.parts link ≡ b
      → grows_to (if l then (if b then answer Ignored n else read whole c link (read_frame text) n) else refuse causes.NoSuchName n)
  received-grown text true true e f = same-grown refl
  received-grown text true false e f = read-grown text (read_frame text) refl e f
  received-grown text false b e f = same-grown refl

  pub frame-grown : (text : List ℕ) → grows_to (receive whole c link text n)
  frame-grown text = received-grown text (is_link n.parts link) (down n.parts link) refl refl

  -- the end of a frame's event
  abbrev lost_by : (text : List ℕ) → List Message
  lost_by text = (of_rules.gone (FrameCame link text) (state_of c (w.node x))).lost

  pub after-frame : (text : List ℕ) (j : Books) → Goes shape c (mid (receive whole c link text n).left [] [] j) (mid (apply whole c (FrameCame link text) n).left [] [] (naming j (lost_by text)))
  after-frame text j =
      event-settles shape o c well (FrameCame link text) (mid (receive whole c link text n).left [] [] j) n j
      ((late_by-goes shape o c well (receive whole c link text n).outcome (receive whole c link text n).left).each [] [] j)

  -- ---- User Data

  -- the messages are those that came
  messages-fates : (text : List ℕ) (new : Option Message) → messages_of (fates c (FrameCame link text) new (w.node x)) ≡ option_to_list new
  messages-fates text None = refl
  messages-fates text (Some m) = refl

  same-came : (text : List ℕ) (l : ℕ) → messages_of ((hear_data c (Some text) link (w.node x)).came l) ≡ messages_of ((popped link (option_to_list (new_message link text (state_of c (w.node x)))) (w.node x)).came l)
  same-came text l =
      let new : Option Message = new_message link text (state_of c (w.node x)) in
      let before : List Fate = (w.node x).came link in
      came-alike (w.node x).came link (before ++ fates c (FrameCame link text) new (w.node x)) (before ++ unseen (option_to_list new)) l
      (messages-append before (fates c (FrameCame link text) new (w.node x))
      ∙ ap (λ (ms : List Message). messages_of before ++ ms) (messages-fates text new ∙ sym (messages-unseen (option_to_list new)))
      ∙ sym (messages-append before (unseen (option_to_list new))))

  pub data-step : (text : List ℕ) (rest : List (List ℕ)) → (w.node x).user_data link ≡ text ∷ rest → StepGoes settings t shape o w (changed x (hear_data c (Some text) link) w)
  data-step text rest flying =
      let f : NetworkNode → NetworkNode = hear_data c (Some text) link in
      let v : NetworkState = changed x f w in
      let is : v.node x ≡ f (w.node x) = changed-here x f w in
      let new : List Message = option_to_list (new_message link text (state_of c (w.node x))) in
      record {
        grown = grown-before settings t shape o w v x fx (λ y d. changed-other x f w y d)
            (both-grown (frame-grown text) (both-grown (after-frame text no_books).grown (same-grown (ap (λ (e : NetworkNode). e.node.parts.times_broken) is))));
        goes = λ p h s.
            let came : Comes_in settings t shape o w x link fx inside text rest flying = comes text rest flying p s in
            let j : Books = accepting k (brought_by (new_message link text (state_of c (w.node x))) (receive whole c link text n).outcome c (accept_text link (read_frame text) (state_of c (w.node x)))) in
            let l : Leads settings t shape o n.parts.times_broken p (changed x (popped link new) w) x (mid (receive whole c link text n).left [] [] j) =
            came.leads p (h x fx) (at-work settings t w x p fx s) in
            let m : Leads settings t shape o n.parts.times_broken p (changed x (popped link new) w) x (mid (apply whole c (FrameCame link text) n).left [] [] (naming j (lost_by text))) =
            leads-goes settings t shape o p (changed x (popped link new) w) x (mid (receive whole c link text n).left [] [] j) (mid (apply whole c (FrameCame link text) n).left [] [] (naming j (lost_by text))) fx (h x fx) l (after-frame text j) in
            finish settings t shape o w p (changed x (popped link new) w) v x fx (mid (apply whole c (FrameCame link text) n).left [] [] (naming j (lost_by text))) m
            (ap (λ (r : Outcome). mid (apply whole c (FrameCame link text) n).left [] []
            (naming (accepting k (brought_by (new_message link text (state_of c (w.node x))) r c (accept_text link (read_frame text) (state_of c (w.node x))))) (lost_by text))) (sym (outcome-same c (FrameCame link text) n))
            ∙ ap (rests settings t) (sym is))
            (λ y d. changed-other x f w y d ∙ sym (changed-other x (popped link new) w y d))
            (λ l. subst (λ (e : NetworkNode). IsSameFlight e (v.node x) l) (sym (changed-here x (popped link new) w))
            (subst (λ (e : NetworkNode). IsSameFlight (popped link new (w.node x)) e l) (sym is) (record { user_data = refl; statuses = refl; follows = refl; came = same-came text l })));
      }
    where
      comes : (text : List ℕ) (rest : List (List ℕ)) (flying : (w.node x).user_data link ≡ text ∷ rest) (p : Network) → Shown settings t w p → Comes_in settings t shape o w x link fx inside text rest flying
      comes text rest flying p s = by (line_at p its).to_near (subst (λ (texts : List (List ℕ)). AreData texts (line_at p its).to_near) flying (s.flown x link fx inside).user_data)
        where
          by : (frames : List Frame) → AreData (text ∷ rest) frames → Comes_in settings t shape o w x link fx inside text rest flying
          by [] h = absurd h
          by (frame ∷ frames) h = kind-comes settings t shape o w x link fx inside text rest flying h.0.value h.0.reads frame h.0.carries

  -- ---- a link status

  -- one is in flight, as the machine has it
  told-at : (text : List ℕ) (rest : List (List ℕ)) → (w.node x).statuses link ≡ text ∷ rest → (m : Mid) (q : Network) → ShownAt settings t w x m q
      → (left : ℕ) × IsStatus text × AreStatuses rest left × ((line_at q its).told_near ≡ suc left)
  told-at text rest flying m q s = by (line_at q its).told_near refl (subst (λ (texts : List (List ℕ)). AreStatuses texts (line_at q its).told_near) flying (s.flown x link fx inside).statuses)
    where
      by : (many : ℕ) → (line_at q its).told_near ≡ many → AreStatuses (text ∷ rest) (line_at q its).told_near → (left : ℕ) × IsStatus text × AreStatuses rest left × ((line_at q its).told_near ≡ suc left)
      by zero e h = absurd (subst (AreStatuses (text ∷ rest)) e h)
      by (suc left) e h = (left, (subst (AreStatuses (text ∷ rest)) e h).0, (subst (AreStatuses (text ∷ rest)) e h).1, e)

  -- these statuses are left
  abbrev left_with : List (List ℕ) → NetworkNode → NetworkNode
  left_with left e = record e { statuses = updated e.statuses link left }

  left-only : (left : List (List ℕ)) → OnlyHere settings t shape o w (changed x (left_with left) w) x link
  left-only left = only-changed settings t shape o w x link (left_with left) (λ l d. record { user_data = refl; statuses = updated-other (w.node x).statuses link left l d; follows = refl; came = refl })

  left-shown : (m : Mid) (q : Network) (left : List (List ℕ)) (many : ℕ) → ShownAt settings t w x m q → AreStatuses left many
      → ShownAt settings t (changed x (left_with left) w) x m (with_line shape q its (with_statuses_left (line_at q its) many) (node_at shape q its))
  left-shown m q left many s h =
      let is : (changed x (left_with left) w).node x ≡ left_with left (w.node x) = changed-here x (left_with left) w in
      statuses-changed settings t shape o w (changed x (left_with left) w) x link m q many fx inside s (left-only left)
      (ap (λ (e : NetworkNode). e.user_data link) is) (ap (λ (e : NetworkNode). e.follows link) is) (ap (λ (e : NetworkNode). e.came link) is)
      (subst (λ (xs : List (List ℕ)). AreStatuses xs many) (sym (ap (λ (e : NetworkNode). e.statuses link) is ∙ updated-here (w.node x).statuses link left)) h)

  -- the first status is in flight no more
  takes-status : (m : Mid) (q : Network) (text : List ℕ) (rest : List (List ℕ)) → (w.node x).statuses link ≡ text ∷ rest → ShownAt settings t w x m q
      → (l : Leads settings t shape o m.node.parts.times_broken q (changed x (left_with rest) w) x m) × ((line_at (last_of q l.networks) its).near ≡ (line_at q its).near)
  takes-status m q text rest flying s =
      let it : (left : ℕ) × IsStatus text × AreStatuses rest left × ((line_at q its).told_near ≡ suc left) = told-at text rest flying m q s in
      let z : Line = with_statuses_left (line_at q its) it.0 in (
        leads-one settings t shape o q (with_line shape q its z (node_at shape q its)) (changed x (left_with rest) w) x m
            (moves.takes_status (record {
              place = its;
              rest = it.0;
              some = it.3;
              after = line-set shape q its z (node_at shape q its) (link-inside shape o c well link) (own-inside shape o c well link);
            }))
            (same-grown refl) (λ point. refl) (left-shown m q rest it.0 s it.2),
        ap (λ (y : Line). y.near) (here-line shape q its z (node_at shape q its)),
      )

  -- an end that is up hears it
  hears-status : (m : Mid) (q : Network) (left : ℕ) → ShownAt settings t w x m q → (line_at q its).told_near ≡ suc left → down m.node.parts link ≡ false
      → (l : Leads settings t shape o m.node.parts.times_broken q w x m) × ((line_at (last_of q l.networks) its).near.heard ≡ true)
  hears-status m q left s told up =
      let y : Line = line_at q its in
      let z : Line = with_heard y in
      let shown : IsShown m.node link y.near = s.here.ends link inside in
      let flown : IsFlown (w.node x) link y = s.flown x link fx inside in (
        leads-one settings t shape o q (with_line shape q its z (node_at shape q its)) w x m
            (moves.hears_status (record {
              place = its;
              up = shown.up ∙ ap not up;
              rest = left;
              some = told;
              after = line-set shape q its z (node_at shape q its) (link-inside shape o c well link) (own-inside shape o c well link);
            }))
            (same-grown refl) (λ point. refl)
            (reline-near settings t shape o w w x link m m q z (node_at shape q its) fx s
            (record { nodes = λ y d. refl; others = λ l d. record { user_data = refl; statuses = refl; follows = refl; came = refl } })
            (record { to_far = refl; told_far = refl; far_may = refl; near_came = refl; far = λ j l g. g }) inside s.here.sized
            (record { queue = shown.queue; up = shown.up; serving = shown.serving; incomplete = shown.incomplete; awaited = shown.awaited; heard = λ h. refl })
            (λ l d. same-ends m.node l)
            (subst (λ (b : net.Node). IsBooked b m) (sym (node-there shape o c well q link)) s.here.booked)
            (record { user_data = flown.user_data; statuses = flown.statuses; follows = flown.follows; came = flown.came })),
        ap (λ (g : Line). g.near.heard) (here-line shape q its z (node_at shape q its)),
      )

  -- what comes of it
  status-comes : (text : List ℕ) (rest : List (List ℕ)) → (w.node x).statuses link ≡ text ∷ rest → (p : Network) → IsAt shape c p → Shown settings t w p
      → Leads settings t shape o n.parts.times_broken p (changed x (left_with rest) w) x (mid (receive whole c link text n).left [] [] k)
  status-comes text rest flying p h s =
      let it : (left : ℕ) × IsStatus text × AreStatuses rest left × ((line_at p its).told_near ≡ suc left) = told-at text rest flying (rests settings t (w.node x)) p (at-work settings t w x p fx s) in
      by (is_link n.parts link) (down n.parts link) refl refl it.0 it.3 it.1.value it.1.reads it.1.status
    where
      u : Mid
      u = rests settings t (w.node x)

      start : ShownAt settings t w x u p
      start = at-work settings t w x p fx s

      v : NetworkState
      v = changed x (left_with rest) w

      listed : (many : ℕ) → link < many → nat_lt link many ≡ true
      listed many l = grind (arith, nat_tests, l)

      heard-by : (left : ℕ) → (line_at p its).told_near ≡ suc left → down n.parts link ≡ false → (value : FrameValue) → read_frame text ≡ Ok value → data_of value ≡ None
          → Leads settings t shape o n.parts.times_broken p v x (mid (read whole c link (read_frame text) n).left [] [] k)
      heard-by left told up (EmptyFrame bsn fsn) e f = absurd cc
      heard-by left told up (MessageFrame bsn fsn sio sif) e f = absurd cc
      heard-by left told up (StatusFrame bsn fsn status) e f =
          let a : (l : Leads settings t shape o n.parts.times_broken p w x u) × ((line_at (last_of p l.networks) its).near.heard ≡ true) = hears-status u p left start told up in
          let q : Network = last_of p a.0.networks in
          let b : (l : Leads settings t shape o n.parts.times_broken q v x u) × ((line_at (last_of q l.networks) its).near ≡ (line_at q its).near) = takes-status u q text rest flying a.0.shown in
          let r : Network = last_of q b.0.networks in
          let left_node : Node WholeQueues = (on_link_status whole c link status n).left in
          let same : (read whole c link (read_frame text) n).left ≡ left_node = ap (λ (g : Result FrameValue FrameFault). (read whole c link g n).left) e in
          let at_q : IsAt shape c q = leads-at settings t shape o p w x u a.0 h in
          let heard : HeardAt shape o c well link r = ap (λ g. g.heard) b.1 ∙ a.1 in
          let d : Arrives shape c n.parts.times_broken r (mid left_node [] [] k) =
          ((link_status-if shape o c well link status n).each [] [] k).goes r (leads-at settings t shape o q v x u b.0 at_q) b.0.shown.here heard in
          subst (λ (g : Node WholeQueues). Leads settings t shape o n.parts.times_broken p v x (mid g [] [] k)) (sym same)
          (leads-both settings t shape o p w v x u (mid left_node [] [] k) a.0
          (leads-both settings t shape o q v v x u (mid left_node [] [] k) b.0
          (leads-arrives settings t shape o r v x u (mid left_node [] [] k) fx b.0.shown ((link_status-if shape o c well link status n).each [] [] k).grown d)))

      by : (l b : Bool) → is_link n.parts link ≡ l → down n.parts link ≡ b → (left : ℕ) → (line_at p its).told_near ≡ suc left → (value : FrameValue) → read_frame text ≡ Ok value → data_of value ≡ None
          → Leads settings t shape o n.parts.times_broken p v x (mid (if l then (if b then answer Ignored n else read whole c link (read_frame text) n) else refuse causes.NoSuchName n).left [] [] k)
      by true true e f left told value g i = (takes-status u p text rest flying start).0
      by true false e f left told value g i = heard-by left told f value g i
      by false b e f left told value g i =
          let known : nat_lt link (length n.parts.links) ≡ true = listed (length n.parts.links) (subst (λ (j : ℕ). link < j) (sym start.here.sized.links) inside) in
          let no : true ≡ false = sym known ∙ e in
          absurd cc

  pub status-step : (text : List ℕ) (rest : List (List ℕ)) → (w.node x).statuses link ≡ text ∷ rest → StepGoes settings t shape o w (changed x (hear_status c (Some text) link) w)
  status-step text rest flying =
      let f : NetworkNode → NetworkNode = hear_status c (Some text) link in
      let v : NetworkState = changed x f w in
      let is : v.node x ≡ f (w.node x) = changed-here x f w in
      let tail : drop 1 ((w.node x).statuses link) ≡ rest = ap (drop 1) flying in
      record {
        grown = grown-before settings t shape o w v x fx (λ y d. changed-other x f w y d)
            (both-grown (frame-grown text) (both-grown (after-frame text no_books).grown (same-grown (ap (λ (e : NetworkNode). e.node.parts.times_broken) is))));
        goes = λ p h s.
            let l : Leads settings t shape o n.parts.times_broken p (changed x (left_with rest) w) x (mid (receive whole c link text n).left [] [] k) = status-comes text rest flying p (h x fx) s in
            let m : Leads settings t shape o n.parts.times_broken p (changed x (left_with rest) w) x (mid (apply whole c (FrameCame link text) n).left [] [] (naming k (lost_by text))) =
            leads-goes settings t shape o p (changed x (left_with rest) w) x (mid (receive whole c link text n).left [] [] k) (mid (apply whole c (FrameCame link text) n).left [] [] (naming k (lost_by text))) fx (h x fx) l (after-frame text k) in
            finish settings t shape o w p (changed x (left_with rest) w) v x fx (mid (apply whole c (FrameCame link text) n).left [] [] (naming k (lost_by text))) m (ap (rests settings t) (sym is))
            (λ y d. changed-other x f w y d ∙ sym (changed-other x (left_with rest) w y d))
            (λ l. subst (λ (e : NetworkNode). IsSameFlight e (v.node x) l) (sym (changed-here x (left_with rest) w))
            (subst (λ (e : NetworkNode). IsSameFlight (left_with rest (w.node x)) e l) (sym is)
            (record { user_data = refl; statuses = ap (λ (texts : List (List ℕ)). updated (w.node x).statuses link texts l) tail; follows = refl; came = refl })));
      }

  -- ---- link statuses that are lost, or come twice

  pub lost-step : (text : List ℕ) (rest : List (List ℕ)) → (w.node x).statuses link ≡ text ∷ rest → StepGoes settings t shape o w (changed x (with_statuses (Some text) link rest) w)
  lost-step text rest flying = statuses-step settings t shape o w x link text rest fx inside (λ p s.
      let it : (left : ℕ) × IsStatus text × AreStatuses rest left × ((line_at p its).told_near ≡ suc left) = told-at text rest flying (rests settings t (w.node x)) p (at-work settings t w x p fx s) in (
        it.0,
        it.2,
        moves.takes_status (record {
          place = its;
          rest = it.0;
          some = it.3;
          after = line-set shape p its (with_statuses_left (line_at p its) it.0) (node_at shape p its) (link-inside shape o c well link) (own-inside shape o c well link);
        }),
      ))

  pub doubled-step : (text : List ℕ) (rest : List (List ℕ)) → (w.node x).statuses link ≡ text ∷ rest → StepGoes settings t shape o w (changed x (with_statuses (Some text) link (text ∷ text ∷ rest)) w)
  doubled-step text rest flying = statuses-step settings t shape o w x link text (text ∷ text ∷ rest) fx inside (λ p s.
      let it : (left : ℕ) × IsStatus text × AreStatuses rest left × ((line_at p its).told_near ≡ suc left) = told-at text rest flying (rests settings t (w.node x)) p (at-work settings t w x p fx s) in (
        suc (suc it.0),
        (it.1, (it.1, it.2)),
        moves.doubles_status (record {
          place = its;
          rest = it.0;
          some = it.3;
          after = line-set shape p its (with_statuses_left (line_at p its) (suc (suc it.0))) (node_at shape p its) (link-inside shape o c well link) (own-inside shape o c well link);
        }),
      ))
