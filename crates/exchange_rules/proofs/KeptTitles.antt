-- Which events change translation rows and prohibited subsystems: what is heard, a tick, and orders about rows.
use Rattle.exchange_rules.proofs.Basics.{◌≡◌, ◌⊎◌, inl, inr, ⊎_elim, ℕ, Bool, true, false, List, [], ◌∷◌, Option, Some, None, refl, ap, sym, ◌∙◌, if◌then◌else◌}
use Rattle.exchange_rules.proofs.Definitions.{Message, flow_of, Configuration, TitleEntry, TitleKey, FailureReason, ChangeoverTimer, Facts, Cause, Found, TitlesValue, place_of, has_row, without_row, ticked, due_count, Parts, Node, Done, answer, refuse, with_parts, is_link, in_service, down, link_of, waits, no_room, facts, own_of, has_other, is_ordered, set_of, changeover_of, with_expiry, changeover_order, changeover_acknowledgement, whole, WholeQueues, fail, fail_link, suspended, make_unavailable, change_over, begin, begin_by_peer, fail_by_peer, fail_by_order, without_tests, lose_each, lose, judged, send, send_each, send_anew, complete_if, complete_by_order, on_changeover_order, on_changeover_acknowledgement, on_changeover_timer, with_changeover_acknowledged, hold_flows, held_by_rerouting, go, go_by, go_each, go_on, release, tell_owed, tell_each, tell_if, tell, route_message, told_parts, may_tell, owed, with_timers, run_all, handle_event, apply, add_title_unless, title_refusal, title_set_refusal, with_rows, Happening, Ticked, TitleAdded, TitleSet, TitleRemoved, Owed, bar, barred, asking, order_late, late_by, tick}
use Rattle.signalling_types.specs.declared.cause.Cause.TheVariants.{LostUnconfirmed, NoSuchName}
use Rattle.signalling_types.specs.declared.outcome.Outcome.TheVariants.{Handled, Ignored}
use Rattle.signalling_types.specs.declared.notice.FailureReason.TheVariants as reasons
use Rattle.signalling_types.specs.declared.notice.ChangeoverTimer.TheVariants as which
use Rattle.sccp_relay.specs.Points.{OwnValue}
use Rattle.sccp_relay.specs.SubsystemTests as tests
use Rattle.exchange_rules.specs.ChangingOver.{flagged_by}
use Rattle.exchange_rules.specs.Exchange.{after}
use Rattle.exchange_rules.specs.LawsOfSubsystems.{a_tick_counts_them, changes_titles, nothing_else_changes_titles, orders_leave_subsystems}
use Rattle.exchange_rules.specs.Messages.{sst_ticks}
use Rattle.exchange_rules.proofs.Asked.{any}
use Rattle.exchange_rules.proofs.Steps.{Deed, TitlesChange, IsOfDeeds}
use Rattle.exchange_rules.proofs.Causes.{event-deeds, times-deeds, Cause as MayDo}
use Rattle.exchange_rules.proofs.KeptFacts.{after-facts, own-same}
use Rattle.exchange_rules.proofs.LateOrders.{order_all-facts}
use Rattle.signalling_types.specs.declared.outcome.Outcome.{Outcome}
use Rattle.exchange_rules.proofs.SteppingLate.{late_by-steps}

-- rows and subsystems stay, unless they may change
pub record Alters (May : Deed → Type 0) (n m : Node WholeQueues) : Type 0 where
  pub is : May TitlesChange ⊎ (m.parts.titles ≡ n.parts.titles)

abbrev Same : Node WholeQueues → Node WholeQueues → Type 0
Same n m = m.parts.titles ≡ n.parts.titles

either-same : (b : Bool) (n m o : Node WholeQueues) → Same n m → Same n o → Same n (if b then m else o)
either-same true n m o e f = e
either-same false n m o e f = f

either-done : (b : Bool) (n : Node WholeQueues) (d e : Done WholeQueues) → Same n d.left → Same n e.left → Same n (if b then d else e).left
either-done true n d e f g = f
either-done false n d e f g = g

either-parts : (b : Bool) (p x y : Parts) → x.titles ≡ p.titles → y.titles ≡ p.titles → (if b then x else y).titles ≡ p.titles
either-parts true p x y e f = e
either-parts false p x y e f = f

module _ (c : Configuration) where
  -- ---- a message that is sent

  send-same : (room : Option Cause) (link : Option ℕ) (m : Message) (n : Node WholeQueues) → Same n (send whole c room link m n)
  send-same (Some cause) link m n = refl
  send-same None None m n = refl
  send-same None (Some link) m n = refl

  -- ---- a link fails, and its changeover goes on and ends

  unavailable-same : (serving : Bool) (link : ℕ) (why : FailureReason) (n : Node WholeQueues) → Same n (make_unavailable whole c serving link why n)
  unavailable-same true link why n =
      let p : Parts = fail_link link why (suspended c link (whole.unconfirmed n.queues link) n.parts) in
      either-parts (has_other c link p) n.parts p (without_tests (set_of c link) p) refl refl
  unavailable-same false link why n = refl

  begin-same : (ordered : Bool) (link : ℕ) (n : Node WholeQueues) → Same n (begin whole c ordered link n)
  begin-same true link n =
      let m : Message = changeover_order c link (whole.last_accepted n.queues link) in
      send-same (no_room whole c m n.queues) _ m _
  begin-same false link n = refl

  change_over-same : (served : Bool) (link : ℕ) (n : Node WholeQueues) → Same n (change_over whole c served link n)
  change_over-same true link n = begin-same (is_ordered c link n.parts) link n
  change_over-same false link n = refl

  fail-same : (link : ℕ) (why : FailureReason) (n : Node WholeQueues) → Same n (fail whole c link why n)
  fail-same link why n =
      change_over-same (in_service n.parts link) link (make_unavailable whole c (in_service n.parts link) link why n)
      ∙ unavailable-same (in_service n.parts link) link why n

  by_peer-same : (served : Bool) (link : ℕ) (n : Node WholeQueues) → Same n (begin_by_peer whole c served link n)
  by_peer-same true link n = refl
  by_peer-same false link n = refl

  ordered-same : (link : ℕ) (n : Node WholeQueues) → Same n (fail_by_order whole c link n)
  ordered-same link n =
      either-same (down n.parts link) n n (fail_by_peer whole c link n) refl
      (by_peer-same (in_service n.parts link) link (make_unavailable whole c (in_service n.parts link) link reasons.Changeover n)
      ∙ unavailable-same (in_service n.parts link) link reasons.Changeover n)

  lose-same : (ms : List Message) (p : Parts) → (lose_each ms p).titles ≡ p.titles
  lose-same [] p = refl
  lose-same (m ∷ ms) p = lose-same ms (lose LostUnconfirmed m p)

  judged-same : (reasonable : Bool) (p : Parts) → (judged reasonable p).titles ≡ p.titles
  judged-same true p = refl
  judged-same false p = refl

  again-same : (ms : List Message) (n : Node WholeQueues) → Same n (send_each whole c ms n)
  again-same [] n = refl
  again-same (m ∷ ms) n = again-same ms (send_anew whole c m n) ∙ send-same None (link_of c n.parts (flow_of m)) m n

  complete-same : (incomplete : Bool) (link : ℕ) (number : Option ℕ) (n : Node WholeQueues) → Same n (complete_if whole c incomplete link number n)
  complete-same true link number n =
      let found : Found = whole.found n.queues link number in
      again-same found.queued_anew _ ∙ judged-same found.is_reasonable (lose_each found.lost n.parts) ∙ lose-same found.lost n.parts
  complete-same false link number n = refl

  order-same : (link : ℕ) (number : Option ℕ) (n : Node WholeQueues) → Same n (on_changeover_order whole c link number n).left
  order-same link number n =
      let failed : Node WholeQueues = bar whole c link (fail_by_order whole c link n) in
      let done : Node WholeQueues = complete_by_order whole c link number failed in
      let m : Message = changeover_acknowledgement c link (whole.last_accepted done.queues link) in
      send-same (no_room whole c m done.queues) (link_of c done.parts (flow_of m)) m done
      ∙ complete-same (changeover_of failed.parts link).incomplete link number _
      ∙ ordered-same link n

  acknowledged-same : (link : ℕ) (number : Option ℕ) (n : Node WholeQueues) → Same n (on_changeover_acknowledgement whole c link number n).left
  acknowledged-same link number n =
      by (changeover_of n.parts link).awaited
    where
      done : Done WholeQueues
      done = answer Handled (complete_if whole c (changeover_of n.parts link).incomplete link number (with_parts n (with_changeover_acknowledged link n.parts)))

      by : (awaited : Bool) → Same n (if awaited then done else answer Ignored n).left
      by true = complete-same (changeover_of n.parts link).incomplete link number (with_parts n (with_changeover_acknowledged link n.parts))
      by false = refl

  asks-same : (link : ℕ) (n : Node WholeQueues) → Same n (order_late whole c link n)
  asks-same link n =
      let m : Message = changeover_order c link (whole.last_accepted n.queues link) in
      let asks : Node WholeQueues = with_parts n (asking c link n.parts) in
      send-same (no_room whole c m n.queues) (link_of c asks.parts (flow_of m)) m asks

  flagged-same : (timer : ChangeoverTimer) (p : Parts) → (flagged_by timer p).titles ≡ p.titles
  flagged-same which.T1 p = refl
  flagged-same which.T2 p = refl

  expired-same : (timer : ChangeoverTimer) (link : ℕ) (n : Node WholeQueues) → Same n (on_changeover_timer whole c timer link n)
  expired-same timer link n =
      either-same (is_link n.parts link) n _ n
      (complete-same (changeover_of n.parts link).incomplete link None (with_parts n (with_expiry c timer link (barred c link n.parts))) ∙ flagged-same timer _) refl

  -- ---- flows are held

  returns-same : (before after : Facts) (code : Option ℕ) (link other : ℕ) (n : Node WholeQueues) → Same n (hold_flows whole c before after code link other n)
  returns-same before after (Some code) link other n = refl
  returns-same before after None link other n = refl

  reroutes-same : (destination : ℕ) (selections : List ℕ) (n : Node WholeQueues) → Same n (with_parts n (held_by_rerouting c destination selections n.parts))
  reroutes-same destination [] n = refl
  reroutes-same destination (sls ∷ others) n = refl

  module _ (May : Deed → Type 0) where
    as_it_was : (n m : Node WholeQueues) → Same n m → Alters May n m
    as_it_was n m e = record { is = inr e }

    both : (n m o : Node WholeQueues) → Alters May n m → Alters May m o → Alters May n o
    both n m o e f = record { is = by e.is f.is }
      where
        by : May TitlesChange ⊎ Same n m → May TitlesChange ⊎ Same m o → May TitlesChange ⊎ Same n o
        by (inl may) g = inl may
        by (inr g) (inl may) = inl may
        by (inr g) (inr h) = inr (h ∙ g)

    pub alters-deeds : IsOfDeeds c any any May (Alters May)
    alters-deeds = record {
      sends = record {
        none = λ n. as_it_was n n refl;
        both = both;
        routed = λ link m n e. as_it_was n _ refl;
        noted = λ notice n e. as_it_was n _ refl;
        lost = λ notice n e. as_it_was n _ refl;
        counted = λ messages broken n. as_it_was n _ refl;
      };
      tested = λ link point test n e f. as_it_was n _ refl;
      probed = λ link n e. as_it_was n _ refl;
      held = λ m n e. as_it_was n _ refl;
      taken_out = λ n. as_it_was n _ refl;
      late = λ notice n e. as_it_was n _ refl;
      timed = λ r n e k. as_it_was n _ refl;
      rerouted = λ routes n e k. as_it_was n _ refl;
      told = λ t n e. as_it_was n _ refl;
      titled = λ titles n may. record { is = inl may };
      unequipped = λ counts n e may. as_it_was n _ refl;
      linked = λ link x n e o. as_it_was n _ refl;
      parted = λ link n e. as_it_was n _ refl;
      opened = λ link n own there e f may. as_it_was n _ refl;
      stepped = λ link input step n own e k. as_it_was n _ refl;
      passed = λ link n e k. as_it_was n _ refl;
      busied = λ link n own e f. as_it_was n _ refl;
      resumed = λ link n own e f o. as_it_was n _ refl;
      accepted = λ link d confirmed n own e f. as_it_was n _ refl;
      sent = λ link next n own e. as_it_was n _ refl;
      put = λ link n set e b. as_it_was n _ refl;
      back = λ link n e may. as_it_was n _ refl;
      fails = λ link why n may up. as_it_was n _ (fail-same link why n);
      orders = λ link number n falls may. as_it_was n _ (order-same link number n);
      acknowledges = λ link number n may wait. as_it_was n _ (acknowledged-same link number n);
      expires = λ timer link n may wait. as_it_was n _ (expired-same timer link n);
      releases = λ link n e wait. as_it_was n _ refl;
      asks = λ link n e. as_it_was n _ (asks-same link n);
      returns = λ before after code link other n e f. as_it_was n _ (returns-same before after code link other n);
      frees = λ set code n may. as_it_was n _ refl;
      reroutes = λ destination selections n. as_it_was n _ (reroutes-same destination selections n);
      lifts = λ procedure n may. as_it_was n _ refl;
    }

  -- so orders that go out late change none
  pub late-same : (outcome : Outcome) (n : Node WholeQueues) → Same n (late_by whole c outcome n)
  late-same outcome n = ⊎_elim (λ (no : ⊥). absurd no) (λ (e : Same n (late_by whole c outcome n)). e) (late_by-steps (alters-deeds (λ deed. ⊥)) outcome n).is

  -- ---- what ends an event

  go_on-same : (link : Option ℕ) (m : Message) (n : Node WholeQueues) → Same n (go_on whole c link m n)
  go_on-same (Some link) m n = refl
  go_on-same None m n = refl

  go_by-same : (waiting : Bool) (m : Message) (n : Node WholeQueues) → Same n (go_by whole c waiting m n)
  go_by-same true m n = refl
  go_by-same false m n = go_on-same (link_of c n.parts (flow_of m)) m n

  go_each-same : (ms : List Message) (n : Node WholeQueues) → Same n (go_each whole c ms n)
  go_each-same [] n = refl
  go_each-same (m ∷ ms) n = go_each-same ms (go whole c m n) ∙ go_by-same (waits c n.parts.holds m) m n

  tell-same : (o : Owed) (n : Node WholeQueues) → Same n (tell_if whole c o n)
  tell-same o n =
      let m : Message = route_message c o.set o.destination o.status in
      let told : Node WholeQueues = with_parts n (told_parts c o n.parts) in
      either-same (may_tell whole c n) n (tell whole c o n) n (send-same (no_room whole c m told.queues) (link_of c told.parts (flow_of m)) m told) refl

  tell_each-same : (os : List Owed) (n : Node WholeQueues) → Same n (tell_each whole c os n)
  tell_each-same [] n = refl
  tell_each-same (o ∷ os) n = tell_each-same os (tell_if whole c o n) ∙ tell-same o n

  settled-same : (n : Node WholeQueues) → Same n (tell_owed whole c (release whole c n))
  unfolding tell_owed
  settled-same n =
      let released : Node WholeQueues = release whole c n in
      tell_each-same (owed (facts c released.parts) released.parts.told) released
      ∙ go_each-same (whole.held n.queues) (record n { queues = whole.without_held n.queues })

  pub after-same : (what : Happening) (n : Node WholeQueues) → Same (handle_event whole c what n).left (apply whole c what n).left
  unfolding apply
  after-same what n = settled-same (handle_event whole c what n).left

  -- ---- a tick: its timers leave titles

  abbrev Leaving : Deed → Type 0
  Leaving TitlesChange = ⊥
  Leaving other = Unit {0}

  ran-same : (n : Node WholeQueues) → Same n (run_all whole c n)
  ran-same n =
      ⊎_elim (λ (no : ⊥). absurd no) (λ (e : Same n (run_all whole c n)). e)
      (times-deeds (alters-deeds Leaving) (λ r m. as_it_was Leaving m _ refl) n.parts.timers (due_count n.parts.timers) n (λ its e. e)
      (λ its e. record { ends = λ procedure f. tt; fails = λ link other f g. tt; tests = λ link f. tt; waits = λ link f. tt })).is

  tick-titles : (n : Node WholeQueues)
      → (apply whole c Ticked n).left.parts.titles ≡ tests.ticked (own_of c (apply whole c Ticked n).left.parts) (sst_ticks c) n.parts.titles
  tick-titles n =
      let ran : Node WholeQueues = run_all whole c (with_timers n (ticked n.parts.timers)) in
      let timed : Node WholeQueues = (tick whole c n).left in
      after-same Ticked n ∙ late-same Handled timed
      ∙ ap (λ (t : TitlesValue). tests.ticked (own_of c ran.parts) (sst_ticks c) t) (ran-same (with_timers n (ticked n.parts.timers)))
      ∙ ap (λ (own : OwnValue). tests.ticked own (sst_ticks c) n.parts.titles)
      (own-same c ran (apply whole c Ticked n).left (sym (after-facts c Ticked n ∙ order_all-facts c timed)))

pub counts-them : a_tick_counts_them
counts-them a = tick-titles a.settings a.node

not-so : (b : Bool) → b ≡ true → b ≡ false → ⊥
not-so true e f = let no : true ≡ false = f in cc
not-so false e f = let no : false ≡ true = e in cc

pub no-other : nothing_else_changes_titles
no-other what a e =
    ⊎_elim (λ (may : changes_titles what a ≡ true). absurd (not-so (changes_titles what a) may e)) (λ (same : (after whole what a).node.parts.titles ≡ a.node.parts.titles). same)
    (event-deeds what a (Alters (MayDo what a)) (alters-deeds a.settings (MayDo what a)) (λ r m. as_it_was a.settings (MayDo what a) m _ refl)).is

-- ---- an order about rows

added-same : (refusal : Option Cause) (row : TitleEntry) (n : Node WholeQueues) → (add_title_unless refusal row n).left.parts.titles.prohibited ≡ n.parts.titles.prohibited
added-same (Some cause) row n = refl
added-same None row n = refl

removed-same : (found : Bool) (key : TitleKey) (digits : List ℕ) (n : Node WholeQueues)
    → (if found then answer Handled (with_parts n (with_rows (without_row (place_of key digits) n.parts.titles.rows) n.parts)) else refuse NoSuchName n).left.parts.titles.prohibited
    ≡ n.parts.titles.prohibited
removed-same true key digits n = refl
removed-same false key digits n = refl

pub orders-leave : orders_leave_subsystems
orders-leave row refused key digits a = (
  ap (λ (t : TitlesValue). t.prohibited) (after-same a.settings (TitleAdded row refused) a.node) ∙ added-same (title_refusal a.node.parts.titles.rows row refused) row a.node,
  ap (λ (t : TitlesValue). t.prohibited) (after-same a.settings (TitleSet row refused) a.node) ∙ added-same (title_set_refusal a.node.parts.titles.rows row refused) row a.node,
  ap (λ (t : TitlesValue). t.prohibited) (after-same a.settings (TitleRemoved key digits) a.node) ∙ removed-same (has_row a.node.parts.titles.rows (place_of key digits)) key digits a.node,
)
