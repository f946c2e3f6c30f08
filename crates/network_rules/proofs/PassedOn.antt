-- Each node passes messages on in the order in which they come.
use Rattle.exchange_rules.proofs.Basics.{◌≡◌, ◌≢◌, ◌&&◌, ℕ, Bool, true, false, not, List, [], ◌∷◌, ◌++◌, Option, Some, None, refl, ap, sym, subst, ◌∙◌, append-nil, if◌then◌else◌, option_to_list, filter-append, nat_eq}
use Rattle.pair_rules.proofs.Basics.{⊎_elim, cases_eq}
use Rattle.exchange_rules.proofs.Definitions.{Message, is_management, Configuration, Discrimination, Node, WholeQueues, whole, brought_in, brought_by, brought_to, taken_in, new_message, whither_goes, accept_text, read_frame, CameUp, FrameCame, Submitted, Abstract}
use Rattle.exchange_rules.specs.Exchange.{outcome_of}
use Rattle.changeover.specs.Changeover.{users_of}
use Rattle.mtp3_codec.specs.declared.discrimination.Discrimination.TheVariants as whither
use Rattle.signalling_types.specs.declared.outcome.Outcome.{Outcome}
use Rattle.signalling_types.specs.declared.outcome.Outcome.TheVariants.{Handled, Held, Ignored, Local, Queued, Refused}
use Rattle.pair_rules.specs.Pairs.{Streams}
use Rattle.network_rules.specs.Networks.{Arrival, NetworkNode, NetworkState, Step, after_step, changed, deliver_frame, entered_by, goes_onward, happens, is_onward, is_refused, refused_by}
use Rattle.network_rules.specs.Outside.{HearsOutside, Move, OpensOutside, Within, after_move, after_moves, hears, hears_outside, leads_out, opens_outside, speaks_within}
use Rattle.network_rules.specs.Anew.{Change, GivesUp, Restarts, Steps, after_all, after_change, begun_anew, given_up, restarted}
use Rattle.network_rules.specs.Paths.{AreMerged, PassesInOrder, books_begin_empty, each_node_passes_in_order, each_node_passes_what_comes_in_order, none, onward_at}
use Rattle.network_rules.proofs.AllRuns.{did-keeps}
use Rattle.network_rules.proofs.Booked.{arrived-more, onward_of, texts_of}
use Rattle.network_rules.proofs.Merged.{merged-append, merged-one, merged-other}
use Rattle.network_rules.proofs.Transit.{frame-outcome, goes_on}
use Rattle.network_rules.proofs.Turns.{SameBooks, Turn, comes, enters, goes_out, idles, occurs, opens, others-of, turn-of}

users-append : (ms ks : List Message) → users_of (ms ++ ks) ≡ users_of ms ++ users_of ks
users-append ms ks = filter-append (λ m. not (is_management m)) ms ks

-- so much comes to a node's books
record Adds (x y : NetworkNode) (refused onward entered accepted : List Message) : Type 0 where
  refused_more : y.refused ≡ x.refused ++ refused
  onward_more : users_of (onward_at y) ≡ users_of (onward_at x) ++ onward
  entered_more : users_of y.entered ≡ users_of x.entered ++ entered
  accepted_more : users_of y.accepted ≡ users_of x.accepted ++ accepted

-- of that, this was passed on
record IsPassed (refused onward entered accepted : List Message) : Type 0 where
  passed : List Message
  came : AreMerged passed refused onward
  taken : AreMerged passed entered accepted

more-passed : (x y : NetworkNode) (r o e a : List Message) → Adds x y r o e a → IsPassed r o e a → PassesInOrder x → PassesInOrder y
more-passed x y r o e a more p h = record {
  passed = h.passed ++ p.passed;
  came =
      subst (λ (ms : List Message). AreMerged (h.passed ++ p.passed) ms (users_of (onward_at y))) (sym more.refused_more)
      (subst (AreMerged (h.passed ++ p.passed) (x.refused ++ r)) (sym more.onward_more)
      (merged-append h.passed x.refused (users_of (onward_at x)) p.passed r o h.came p.came));
  accepted =
      subst (λ (ms : List Message). AreMerged (h.passed ++ p.passed) ms (users_of y.accepted)) (sym more.entered_more)
      (subst (AreMerged (h.passed ++ p.passed) (users_of x.entered ++ e)) (sym more.accepted_more)
      (merged-append h.passed (users_of x.entered) (users_of x.accepted) p.passed e a h.accepted p.taken));
}

-- ---- books that stay

books-as : (x y : NetworkNode) → SameBooks x y → y.exchange.settings ≡ x.exchange.settings → PassesInOrder x → PassesInOrder y
books-as x y s e h = record {
  passed = h.passed;
  came =
      subst (λ (ms : List Message). AreMerged h.passed ms (users_of (onward_at y))) (sym s.refused)
      (subst (AreMerged h.passed x.refused) (sym same) h.came);
  accepted =
      subst (λ (ms : List Message). AreMerged h.passed (users_of ms) (users_of y.accepted)) (sym s.entered)
      (subst (λ (ms : List Message). AreMerged h.passed (users_of x.entered) (users_of ms)) (sym s.accepted) h.accepted);
}
  where
    same : users_of (onward_at y) ≡ users_of (onward_at x)
    same =
        ap (λ (c : Configuration). users_of (onward_of c (texts_of y.arrived))) e
        ∙ ap (λ (ms : List Arrival). users_of (onward_of x.exchange.settings (texts_of ms))) s.arrived

-- ---- a message is submitted

submitted-passes : (x y : NetworkNode) (b : List Message) → y.refused ≡ x.refused → users_of (onward_at y) ≡ users_of (onward_at x) → y.entered ≡ x.entered ++ b → y.accepted ≡ x.accepted ++ b
    → PassesInOrder x → PassesInOrder y
submitted-passes x y b r o e a h =
    more-passed x y [] [] (users_of b) (users_of b)
    (record {
      refused_more = r ∙ sym (append-nil x.refused);
      onward_more = o ∙ sym (append-nil (users_of (onward_at x)));
      entered_more = ap users_of e ∙ users-append x.entered b;
      accepted_more = ap users_of a ∙ users-append x.accepted b;
    })
    (record { passed = []; came = none; taken = merged-other (users_of b) }) h

-- ---- a frame comes

module _ (a : Abstract) (link : ℕ) (text : List ℕ) where
  abbrev o : Outcome
  o = outcome_of whole (FrameCame link text) a

  abbrev c : Configuration
  c = a.settings

  abbrev n : Node WholeQueues
  n = accept_text link (read_frame text) a

  outcome-passes : (out : Outcome) (m : Message) → goes_on out ≡ true → IsPassed (if is_refused out then users_of (m ∷ []) else []) (users_of (m ∷ [])) [] (users_of (taken_in out m))
  outcome-passes (Queued to) m e = record { passed = users_of (m ∷ []); came = merged-one (users_of (m ∷ [])); taken = merged-one (users_of (m ∷ [])) }
  outcome-passes Held m e = record { passed = users_of (m ∷ []); came = merged-one (users_of (m ∷ [])); taken = merged-one (users_of (m ∷ [])) }
  outcome-passes (Refused cause) m e = record { passed = []; came = merged-other (users_of (m ∷ [])); taken = none }
  outcome-passes Local m e = absurd cc
  outcome-passes Handled m e = absurd cc
  outcome-passes Ignored m e = absurd cc

  to-passes : (d : Discrimination) (m : Message) → whither_goes c m ≡ d → new_message link text a ≡ Some m
      → IsPassed (if is_onward d && is_refused o then users_of (m ∷ []) else []) (users_of (if is_onward d then m ∷ [] else []))
      (users_of (if is_onward d then [] else brought_to d o c m n)) (users_of (brought_to d o c m n))
  to-passes (whither.Refused fault) m e new = record { passed = []; came = none; taken = none }
  to-passes (whither.Here label) m e new = record { passed = []; came = none; taken = merged-other (users_of (brought_to (whither.Here label) o c m n)) }
  to-passes (whither.Transfer label) m e new = outcome-passes o m (frame-outcome c link m label e a.node text new)

  new-passes : (x : Option Message) → new_message link text a ≡ x
      → IsPassed (refused_by x c o) (users_of (onward_of c (option_to_list x))) (users_of (entered_by x c (brought_by x o c n))) (users_of (brought_by x o c n))
  new-passes None e = record { passed = []; came = none; taken = none }
  new-passes (Some m) e = to-passes (whither_goes c m) m refl e

heard-passes : (x : NetworkNode) (link : ℕ) (text : List ℕ) (left : Streams) → PassesInOrder x → PassesInOrder (deliver_frame (Some text) link left x)
heard-passes x link text left h =
    let a : Abstract = x.exchange in
    let new : Option Message = new_message link text a in
    let b : List Message = brought_in (FrameCame link text) a in
    more-passed x (deliver_frame (Some text) link left x) (refused_by new a.settings (outcome_of whole (FrameCame link text) a)) (users_of (onward_of a.settings (option_to_list new)))
    (users_of (entered_by new a.settings b)) (users_of b)
    (record {
      refused_more = refl;
      onward_more =
          ap (λ (ms : List Message). users_of (onward_of a.settings ms)) (arrived-more link x.arrived (option_to_list new))
          ∙ ap users_of (filter-append (goes_onward a.settings) (texts_of x.arrived) (option_to_list new))
          ∙ users-append (onward_of a.settings (texts_of x.arrived)) (onward_of a.settings (option_to_list new));
      entered_more = users-append x.entered (entered_by new a.settings b);
      accepted_more = users-append x.accepted b;
    })
    (new-passes a link text new refl) h

-- ---- each step, and each change

turn-passes : (w v : NetworkState) (point : ℕ) → Turn w v point → (v.node point).exchange.settings ≡ (w.node point).exchange.settings → PassesInOrder (w.node point) → PassesInOrder (v.node point)
turn-passes w v point (idles s) e h = books-as _ _ s e h
turn-passes w v point (goes_out link s) e h = books-as _ _ s e (record { passed = h.passed; came = h.came; accepted = h.accepted })
turn-passes w v point (occurs what plain s) e h = books-as _ _ s e (record { passed = h.passed; came = h.came; accepted = h.accepted })
turn-passes w v point (opens link f s) e h = books-as _ _ s e (record { passed = h.passed; came = h.came; accepted = h.accepted })
turn-passes w v point (comes link text left f s) e h = books-as _ _ s e (heard-passes (w.node point) link text left h)
turn-passes w v point (enters m s) e h =
    submitted-passes (w.node point) (v.node point) (brought_in (Submitted m) (w.node point).exchange) s.refused
    (ap (λ (c : Configuration). users_of (onward_of c (texts_of (v.node point).arrived))) e
    ∙ ap (λ (ms : List Arrival). users_of (onward_of (w.node point).exchange.settings (texts_of ms))) s.arrived)
    s.entered s.accepted h

step-passes : (step : Step) (w : NetworkState) (y : ℕ) → PassesInOrder (w.node y) → PassesInOrder ((after_step step w).node y)
step-passes step w y h =
    ⊎_elim
    (λ (same : y ≡ step.point).
    subst (λ (n : ℕ). PassesInOrder (w.node n) → PassesInOrder ((after_step step w).node n)) (sym same)
    (turn-passes w (after_step step w) step.point (turn-of step.point w step.what) (did-keeps step.what step.point w step.point)) h)
    (λ (far : y ≢ step.point). books-as (w.node y) ((after_step step w).node y) (others-of step.point w y far step.what) (did-keeps step.what step.point w y) h)
    (cases_eq y step.point)

changed-passes : (point : ℕ) (change : NetworkNode → NetworkNode) (w : NetworkState) (y : ℕ) → (PassesInOrder (w.node y) → PassesInOrder (change (w.node y))) → PassesInOrder (w.node y)
    → PassesInOrder ((changed point change w).node y)
changed-passes point change w y keeps h = by (nat_eq y point)
  where
    by : (b : Bool) → PassesInOrder (if b then change (w.node y) else w.node y)
    by true = keeps h
    by false = h

change-passes : (change : Change) (w : NetworkState) (y : ℕ) → PassesInOrder (w.node y) → PassesInOrder ((after_change change w).node y)
change-passes (Steps step) w y h = step-passes step w y h
change-passes (Restarts point) w y h = changed-passes point restarted w y (λ k. record { passed = k.passed; came = k.came; accepted = k.accepted }) h
change-passes (GivesUp point link) w y h = changed-passes point (given_up link) w y (λ k. record { passed = k.passed; came = k.came; accepted = k.accepted }) h

changes-pass : (changes : List Change) (w : NetworkState) (y : ℕ) → PassesInOrder (w.node y) → PassesInOrder ((after_all changes w).node y)
changes-pass [] w y h = h
changes-pass (change ∷ changes) w y h = changes-pass changes (after_change change w) y (change-passes change w y h)

-- ---- each move

opened-passes : (out : Bool) (point link : ℕ) (w : NetworkState) (y : ℕ) → PassesInOrder (w.node y) → PassesInOrder ((opens_outside out point link w).node y)
opened-passes true point link w y h = changed-passes point (happens (CameUp link)) w y (λ k. record { passed = k.passed; came = k.came; accepted = k.accepted }) h
opened-passes false point link w y h = h

outside-passes : (out speaks : Bool) (point link : ℕ) (text : List ℕ) (w : NetworkState) (y : ℕ) → PassesInOrder (w.node y) → PassesInOrder ((hears_outside out speaks point link text w).node y)
outside-passes true false point link text w y h = changed-passes point (hears link text) w y (λ k. heard-passes (w.node y) link text (w.node y).incoming k) h
outside-passes true true point link text w y h = h
outside-passes false speaks point link text w y h = h

move-passes : (move : Move) (w : NetworkState) (y : ℕ) → PassesInOrder (w.node y) → PassesInOrder ((after_move move w).node y)
move-passes (Within step) w y h = step-passes step w y h
move-passes (OpensOutside point link) w y h = opened-passes (leads_out w point link) point link w y h
move-passes (HearsOutside point link text) w y h = outside-passes (leads_out w point link) (speaks_within w text) point link text w y h

moves-pass : (moves : List Move) (w : NetworkState) (y : ℕ) → PassesInOrder (w.node y) → PassesInOrder ((after_moves moves w).node y)
moves-pass [] w y h = h
moves-pass (move ∷ moves) w y h = moves-pass moves (after_move move w) y (move-passes move w y h)

pub all-moves-pass : each_node_passes_what_comes_in_order
all-moves-pass w moves point = moves-pass moves (begun_anew w) point (record { passed = []; came = none; accepted = none })

pub all-pass : each_node_passes_in_order
all-pass w changes point = changes-pass changes (begun_anew w) point (record { passed = []; came = none; accepted = none })

pub begin-empty : books_begin_empty
begin-empty settings = refl
