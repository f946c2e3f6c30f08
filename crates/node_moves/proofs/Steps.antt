-- Steps of a network that change one node, or the link statuses in flight to it: by moves.
use Rattle.node_moves.proofs.Basics.{◌≡◌, ◌≢◌, ℕ, Bool, ◌<◌, List, [], ◌++◌, length, Some, refl, ap, sym, subst, ◌∙◌, ⊎_elim, cases_eq}
use Rattle.node_moves.proofs.Machine.{Network, Shape, line_at, node_at, Move, Moves, last_of}
use Rattle.node_moves.proofs.Definitions.{Message, Configuration, IsWell, Node, WholeQueues, whole}
use Rattle.node_moves.proofs.Reading.{IsShape, says_of}
use Rattle.node_moves.proofs.Shown.{Books, accepting, naming, Mid, Shows}
use Rattle.node_moves.proofs.Grown.{Grown, IsUnraised, same-grown, both-grown}
use Rattle.node_moves.proofs.Going.{IsAt, Goes, goes-both}
use Rattle.node_moves.proofs.Handling.{mid, names-more}
use Rattle.node_moves.proofs.Own.{Names, named-besides, named-twice}
use Rattle.node_moves.proofs.Bringing.{submitted}
use Rattle.node_moves.proofs.Events.{settles, ticked-goes, down-goes, activate-goes, deactivate-goes, release_bar-goes, added-goes, set_title-goes, removed-goes}
use Rattle.node_moves.proofs.World.{IsFlown, AreStatuses, Shown, books_of, rests, at-work, at-rest, place_at}
use Rattle.node_moves.proofs.Relining.{Leads, leads-none, leads-one, leads-goes, with_line}
use Rattle.node_moves.proofs.Flights.{IsSameFlight, same-flight, changed-here, changed-other, updated-here, updated-other, only-changed, statuses-changed}
use Rattle.node_moves.specs.Networks.{NetworkNode, NetworkState, IsNode, changed, happens, hand_over, with_statuses, state_of}
use Rattle.node_moves.specs.Outside.{ArePlaced}
use Rattle.exchange_rules.specs.Reroutings.{first_reroutings}
use Rattle.exchange_rules.specs.Conserving.{brought_in, brought_to, gone, gone_by, gone_by_release}
unfoldable use Rattle.exchange_rules.specs.Exchange.{apply}
use Rattle.exchange_rules.specs.Exchange.{handle_event, outcome_of}
use Rattle.exchange_rules.specs.Messages.{whither_goes}
use Rattle.exchange_rules.specs.State.{Happening, WentDown, Ticked, Submitted, Activated, Deactivated, Released, TitleAdded, TitleSet, TitleRemoved}
use Rattle.network_moves.specs.Carrying.{with_statuses_left}
use Rattle.signalling_types.specs.declared.outcome.Outcome.{Outcome}
use Rattle.sccp_codec.specs.declared.title.TitleKey.{TitleKey}
use Rattle.settings.specs.Configuration.{TitleEntry}

pub outcome-same : (c : Configuration) (what : Happening) (n : Node WholeQueues) → outcome_of whole what (record { settings = c; node = n; reroutings = first_reroutings c }) ≡ (handle_event whole c what n).outcome
unfolding apply
outcome-same c what n = refl

module _ (shape : Shape) (o : IsShape shape) (c : Configuration) (well : IsWell c) where
  -- what ends an event, after its rule
  pub event-ends : (what : Happening) (v : Mid) (n : Node WholeQueues) (k : Books) (lost : List Message) → Goes shape c v (mid (handle_event whole c what n).left [] [] (naming k lost))
      → Goes shape c v (mid (apply whole c what n).left [] [] (naming k (lost ++ (gone_by_release c (handle_event whole c what n).left).lost)))
  unfolding apply
  event-ends what v n k lost e =
      let handled : Node WholeQueues = (handle_event whole c what n).left in
      subst (λ (j : Books). Goes shape c v (mid (apply whole c what n).left [] [] j)) (named-twice shape o c well k lost (gone_by_release c handled).lost)
      (goes-both shape c v (mid handled [] [] (naming k lost)) _ e ((settles shape o c well handled).each [] [] (naming k lost)))

  -- where its rule names this, or less
  pub event-settles : (what : Happening) (v : Mid) (n : Node WholeQueues) (k : Books) → Goes shape c v (mid (handle_event whole c what n).left [] [] k)
      → Goes shape c v (mid (apply whole c what n).left [] [] (naming k (gone what (record { settings = c; node = n; reroutings = first_reroutings c })).lost))
  event-settles what v n k e =
      let lost : List Message = (gone_by what (record { settings = c; node = n; reroutings = first_reroutings c })).lost in
      event-ends what v n k lost (names-more shape o c well v (handle_event whole c what n).left [] [] k lost e)

module _ (settings : (point : ℕ) → Configuration) (t : ArePlaced settings) (shape : Shape) (o : IsShape shape) where
  -- moves lead from a network that shows one state to one that shows another; they break the nodes that counted more alone
  pub record Reaches (w : NetworkState) (p : Network) (v : NetworkState) : Type 0 where
    pub networks : List Network
    pub moves : Moves shape says_of p networks
    pub broken : (point : ℕ) → (IsNode settings point → IsUnraised (w.node point).node.parts.times_broken (v.node point).node.parts.times_broken) → (last_of p networks).broken point ≡ p.broken point
    pub shown : Shown settings t v (last_of p networks)

  pub record StepGoes (w v : NetworkState) : Type 0 where
    pub grown : (point : ℕ) → IsNode settings point → Grown (w.node point).node.parts.times_broken (v.node point).node.parts.times_broken
    pub goes : (p : Network) → ((point : ℕ) → IsNode settings point → IsAt shape (settings point) p) → Shown settings t w p → Reaches w p v

  pub step-none : (w : NetworkState) → StepGoes w w
  step-none w = record { grown = λ point f. same-grown refl; goes = λ p h s. record { networks = []; moves = tt; broken = λ point none. refl; shown = s } }

  -- once a node is at rest
  pub finish : (before : NetworkState) (p : Network) (w v : NetworkState) (x : ℕ) → IsNode settings x → (u : Mid) → Leads settings t shape o (before.node x).node.parts.times_broken p w x u → u ≡ rests settings t (v.node x) → ((y : ℕ) → y ≢ x → v.node y ≡ w.node y)
      → ((l : ℕ) → IsSameFlight (w.node x) (v.node x) l) → Reaches before p v
  finish before p w v x fx u l same others flights = record {
    networks = l.networks;
    moves = l.moves;
    broken = λ point none. l.broken point (λ is.
        let here : point ≡ x = is ∙ t.own x fx in
        subst (λ (m : Mid). IsUnraised (before.node x).node.parts.times_broken m.node.parts.times_broken) (sym same)
        (subst (λ (i : ℕ). IsUnraised (before.node i).node.parts.times_broken (v.node i).node.parts.times_broken) here (none (subst (λ (i : ℕ). IsNode settings i) (sym here) fx))));
    shown = at-rest settings t v x (last_of p l.networks) (record {
      here = subst (λ (m : Mid). Shows (settings x) (last_of p l.networks) m) same l.shown.here;
      others = λ y fy d. subst (λ (e : NetworkNode). Shows (settings y) (last_of p l.networks) (rests settings t e)) (sym (others y d)) (l.shown.others y fy d);
      flown = λ y i fy k.
          ⊎_elim
          (λ (is : y ≡ x).
          subst (λ (j : ℕ). IsFlown (v.node j) i (line_at (last_of p l.networks) (place_at settings t j i))) (sym is)
          (same-flight (w.node x) (v.node x) i (line_at (last_of p l.networks) (place_at settings t x i)) (flights i)
          (subst (λ (j : ℕ). IsFlown (w.node j) i (line_at (last_of p l.networks) (place_at settings t j i))) is (l.shown.flown y i fy k))))
          (λ (d : y ≢ x). subst (λ (e : NetworkNode). IsFlown e i (line_at (last_of p l.networks) (place_at settings t y i))) (sym (others y d)) (l.shown.flown y i fy k))
          (cases_eq y x);
      idle = l.shown.idle;
    });
  }

  -- no count falls, where one node changed
  pub grown-before : (w v : NetworkState) (x : ℕ) → IsNode settings x → ((y : ℕ) → y ≢ x → v.node y ≡ w.node y) → Grown (w.node x).node.parts.times_broken (v.node x).node.parts.times_broken
      → (y : ℕ) → IsNode settings y → Grown (w.node y).node.parts.times_broken (v.node y).node.parts.times_broken
  grown-before w v x fx others here y fy =
      ⊎_elim
      (λ (same : y ≡ x). subst (λ (j : ℕ). Grown (w.node j).node.parts.times_broken (v.node j).node.parts.times_broken) (sym same) here)
      (λ (d : y ≢ x). same-grown (ap (λ (e : NetworkNode). e.node.parts.times_broken) (others y d)))
      (cases_eq y x)

  -- ---- an event that nothing in flight brings about

  pub step-by-goes : (w : NetworkState) (x : ℕ) (f : NetworkNode → NetworkNode) → IsNode settings x → ((l : ℕ) → IsSameFlight (w.node x) (f (w.node x)) l)
      → Goes shape (settings x) (rests settings t (w.node x)) (rests settings t (f (w.node x))) → StepGoes w (changed x f w)
  step-by-goes w x f fx flights g =
      let v : NetworkState = changed x f w in
      let is : v.node x ≡ f (w.node x) = changed-here x f w in
      record {
        grown = grown-before w v x fx (λ y d. changed-other x f w y d) (both-grown g.grown (same-grown (ap (λ (e : NetworkNode). e.node.parts.times_broken) is)));
        goes = λ p h s.
            finish w p w v x fx (rests settings t (f (w.node x)))
            (leads-goes settings t shape o p w x (rests settings t (w.node x)) (rests settings t (f (w.node x))) fx (h x fx)
            (leads-none settings t shape o p w x (rests settings t (w.node x)) (at-work settings t w x p fx s)) g)
            (ap (rests settings t) (sym is)) (λ y d. changed-other x f w y d) (λ l. subst (λ (e : NetworkNode). IsSameFlight (w.node x) e l) (sym is) (flights l));
      }

  happening : (w : NetworkState) (x : ℕ) (what : Happening) → (fx : IsNode settings x)
      → Names shape o (settings x) (t.well x fx) (w.node x).node (handle_event whole (settings x) what (w.node x).node).left (gone_by what (state_of (settings x) (w.node x))).lost
      → StepGoes w (changed x (happens (settings x) what) w)
  happening w x what fx e =
      step-by-goes w x (happens (settings x) what) fx (λ l. record { user_data = refl; statuses = refl; follows = refl; came = refl })
      (event-ends shape o (settings x) (t.well x fx) what _ (w.node x).node (books_of (w.node x)) (gone_by what (state_of (settings x) (w.node x))).lost (e.each [] [] (books_of (w.node x))))

  pub loses-step : (w : NetworkState) (x link : ℕ) → IsNode settings x → StepGoes w (changed x (happens (settings x) (WentDown link)) w)
  loses-step w x link fx = happening w x (WentDown link) fx (named-besides shape o (settings x) (t.well x fx) (w.node x).node _ [] (down-goes shape o (settings x) (t.well x fx) link (w.node x).node))

  pub ticks-step : (w : NetworkState) (x : ℕ) → IsNode settings x → StepGoes w (changed x (happens (settings x) Ticked) w)
  ticks-step w x fx = happening w x Ticked fx (ticked-goes shape o (settings x) (t.well x fx) (w.node x).node)

  pub activates-step : (w : NetworkState) (x link : ℕ) (emergency : Bool) → IsNode settings x → StepGoes w (changed x (happens (settings x) (Activated link emergency)) w)
  activates-step w x link emergency fx = happening w x (Activated link emergency) fx (named-besides shape o (settings x) (t.well x fx) (w.node x).node _ [] (activate-goes shape o (settings x) (t.well x fx) emergency link (w.node x).node))

  pub deactivates-step : (w : NetworkState) (x link : ℕ) → IsNode settings x → StepGoes w (changed x (happens (settings x) (Deactivated link)) w)
  deactivates-step w x link fx = happening w x (Deactivated link) fx (named-besides shape o (settings x) (t.well x fx) (w.node x).node _ [] (deactivate-goes shape o (settings x) (t.well x fx) link (w.node x).node))

  pub releases-step : (w : NetworkState) (x link : ℕ) → IsNode settings x → StepGoes w (changed x (happens (settings x) (Released link)) w)
  releases-step w x link fx = happening w x (Released link) fx (named-besides shape o (settings x) (t.well x fx) (w.node x).node _ [] (release_bar-goes shape o (settings x) (t.well x fx) link (w.node x).node))

  pub adds-step : (w : NetworkState) (x : ℕ) (row : TitleEntry) (refused : Bool) → IsNode settings x → StepGoes w (changed x (happens (settings x) (TitleAdded row refused)) w)
  adds-step w x row refused fx = happening w x (TitleAdded row refused) fx (named-besides shape o (settings x) (t.well x fx) (w.node x).node _ [] (added-goes shape o (settings x) (t.well x fx) row refused (w.node x).node))

  pub sets-step : (w : NetworkState) (x : ℕ) (row : TitleEntry) (refused : Bool) → IsNode settings x → StepGoes w (changed x (happens (settings x) (TitleSet row refused)) w)
  sets-step w x row refused fx = happening w x (TitleSet row refused) fx (named-besides shape o (settings x) (t.well x fx) (w.node x).node _ [] (set_title-goes shape o (settings x) (t.well x fx) row refused (w.node x).node))

  pub removes-step : (w : NetworkState) (x : ℕ) (key : TitleKey) (digits : List ℕ) → IsNode settings x → StepGoes w (changed x (happens (settings x) (TitleRemoved key digits)) w)
  removes-step w x key digits fx = happening w x (TitleRemoved key digits) fx (named-besides shape o (settings x) (t.well x fx) (w.node x).node _ [] (removed-goes shape o (settings x) (t.well x fx) key digits (w.node x).node))

  -- a user part hands a message over
  pub submits-step : (w : NetworkState) (x : ℕ) (m : Message) → IsNode settings x → StepGoes w (changed x (hand_over (settings x) m) w)
  submits-step w x m fx =
      let c : Configuration = settings x in
      let e : NetworkNode = w.node x in
      step-by-goes w x (hand_over c m) fx (λ l. record { user_data = refl; statuses = refl; follows = refl; came = refl })
      (event-settles shape o c (t.well x fx) (Submitted m) _ e.node (accepting (books_of e) (brought_in (Submitted m) (state_of c e)))
      (subst (λ (r : Outcome). Goes shape c (mid e.node [] [] (books_of e)) (mid (handle_event whole c (Submitted m) e.node).left [] [] (accepting (books_of e) (brought_to (whither_goes c m) r c m e.node)))) (sym (outcome-same c (Submitted m) e.node))
      (submitted shape o c (t.well x fx) (whither_goes c m) e.node m [] [] (books_of e) refl)))

  -- ---- link statuses that are lost, or come twice

  pub statuses-step : (w : NetworkState) (x link : ℕ) (text : List ℕ) (left : List (List ℕ)) → IsNode settings x → link < length (settings x).links
      → ((p : Network) → Shown settings t w p → (count : ℕ) × AreStatuses left count
      × Move shape says_of p (with_line shape p (place_at settings t x link) (with_statuses_left (line_at p (place_at settings t x link)) count) (node_at shape p (place_at settings t x link))))
      → StepGoes w (changed x (with_statuses (Some text) link left) w)
  statuses-step w x link text left fx inside f =
      let g : NetworkNode → NetworkNode = with_statuses (Some text) link left in
      let v : NetworkState = changed x g w in
      let is : v.node x ≡ g (w.node x) = changed-here x g w in
      record {
        grown = grown-before w v x fx (λ y d. changed-other x g w y d) (same-grown (ap (λ (e : NetworkNode). e.node.parts.times_broken) is));
        goes = λ p h s.
            let it : (count : ℕ) × AreStatuses left count
            × Move shape says_of p (with_line shape p (place_at settings t x link) (with_statuses_left (line_at p (place_at settings t x link)) count) (node_at shape p (place_at settings t x link))) = f p s in
            finish w p v v x fx (rests settings t (w.node x))
            (leads-one settings t shape o p _ v x (rests settings t (w.node x)) it.2 (same-grown refl) (λ point. refl)
            (statuses-changed settings t shape o w v x link (rests settings t (w.node x)) p it.0 fx inside (at-work settings t w x p fx s)
            (only-changed settings t shape o w x link g (λ l d. record { user_data = refl; statuses = updated-other (w.node x).statuses link left l d; follows = refl; came = refl }))
            (ap (λ (e : NetworkNode). e.user_data link) is) (ap (λ (e : NetworkNode). e.follows link) is) (ap (λ (e : NetworkNode). e.came link) is)
            (subst (λ (xs : List (List ℕ)). AreStatuses xs it.0) (sym (ap (λ (e : NetworkNode). e.statuses link) is ∙ updated-here (w.node x).statuses link left)) it.1)))
            (ap (rests settings t) (sym is)) (λ y d. refl) (λ l. record { user_data = refl; statuses = refl; follows = refl; came = refl });
      }
