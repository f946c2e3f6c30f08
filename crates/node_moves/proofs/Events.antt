-- What ends each event, ticks, and the events that bring no message: by moves.
use Rattle.node_moves.proofs.Basics.{◌≡◌, ℕ, zero, suc, Bool, true, false, List, [], ◌∷◌, ◌++◌, length, Option, Some, None, inl, not, ◌&&◌, is_some, filter, refl, ap, sym, subst, ◌∙◌, if◌then◌else◌}
use Rattle.node_moves.proofs.Shown.{Books, naming}
use Rattle.node_moves.proofs.Machine.{Shape}
use Rattle.node_moves.proofs.Definitions.{Message, flow_of, Configuration, IsWell, Node, Done, WholeQueues, whole, with_parts, answer, refuse, is_link, link_at, changeover_of, link_of, waits, hold, queue_on}
use Rattle.node_moves.proofs.Reading.{IsShape}
use Rattle.node_moves.proofs.Going.{Goes, goes-none, goes-both}
use Rattle.node_moves.proofs.Handling.{mid, names-more, holds, places, loses, takes-out}
use Rattle.node_moves.proofs.Own.{K, Names, named-besides, named-after, named-before, named-twice, both-named, both, stays, either, either_done, aside, relinked, ask-goes, tell_owed-goes}
use Rattle.node_moves.proofs.Failing.{if_up-goes}
use Rattle.node_moves.proofs.Entering.{begin_test-goes, test_unanswered-goes}
use Rattle.node_moves.proofs.Aligning.{run_out-goes}
use Rattle.node_moves.proofs.ChangingOver.{expiry-goes, unbarred-goes, late-goes}
use Rattle.exchange_rules.proofs.Departing.{go_by-strands}
use Rattle.exchange_rules.proofs.LeavingMessages.{chosen_serves}
use Rattle.exchange_rules.specs.Conserving.{gone_by_release, gone_by_tick, gone_by_timer, gone_by_timers, is_stranded}
use Rattle.exchange_rules.specs.ChangingBack.{late_time, late_code}
use Rattle.exchange_rules.specs.ChangingOver.{is_late, order_late, order_all, unbarred}
unfoldable use Rattle.exchange_rules.specs.ChangingOver.{order_each}
use Rattle.exchange_rules.specs.Exchange.{go_on, go_by, go, go_each, release, with_timers, run_timer, run_due, run_times, tick, late_by, ordered_late}
use Rattle.exchange_rules.specs.Messages.{add_title_unless, title_refusal, title_set_refusal, add_title, set_title, remove_title, with_rows}
use Rattle.exchange_rules.specs.Opening.{fail_if_up, end_association, association_down, set_active, activate, deactivate, release_bar}
unfoldable use Rattle.exchange_rules.specs.Telling.{tell_owed}
use Rattle.changeover.specs.Changeover.{is_barred}
use Rattle.link.specs.declared.action.LinkTimer.TheVariants as its
use Rattle.sccp_codec.specs.declared.title.TitleKey.{TitleKey}
use Rattle.sccp_relay.specs.Rows.{has_row, place_of, with_row, without_row}
use Rattle.settings.specs.Configuration.{TitleEntry}
use Rattle.signalling_types.specs.declared.cause.Cause.{Cause}
use Rattle.signalling_types.specs.declared.cause.Cause.TheVariants as causes
use Rattle.signalling_types.specs.declared.notice.ChangeoverTimer.TheVariants as which
use Rattle.signalling_types.specs.declared.notice.FailureReason.TheVariants as reasons
use Rattle.signalling_types.specs.declared.outcome.Outcome.{Outcome}
use Rattle.signalling_types.specs.declared.outcome.Outcome.TheVariants.{Queued, Held, Local, Handled, Ignored, Refused}
use Rattle.std.proofs.lemmas.List.Elements.{filter_agree}
use Rattle.timers.specs.Timers.{ticked, due_name, due_count, after_due}
use Rattle.timers.specs.declared.name.TimerName.{TimerName}
use Rattle.timers.specs.declared.name.TimerName.TheVariants as name

module _ (shape : Shape) (o : IsShape shape) (c : Configuration) (well : IsWell c) where
  -- ---- release

  go-goes : (waiting : Bool) (link : Option ℕ) (n : Node WholeQueues) (m : Message) (a l : List Message) (k : Books) → link_of c n.parts (flow_of m) ≡ link
      → Goes shape c (mid n a (m ∷ l) k) (mid (go_by whole c waiting m n) a l (naming k (if not waiting && not (is_some link) then m ∷ [] else [])))
  go-goes true link n m a l k e = names-more shape o c well _ (hold whole m n) a l k [] (holds shape o c well n m a l k)
  go-goes false (Some link) n m a l k e =
      subst (λ (to : Option ℕ). Goes shape c (mid n a (m ∷ l) k) (mid (go_on whole c to m n) a l (naming k []))) (sym e)
      (names-more shape o c well _ (queue_on whole c link m n) a l k [] (places shape o c well n link m a l k (chosen_serves c n.parts (flow_of m) link e) (inl e)))
  go-goes false None n m a l k e = subst (λ (to : Option ℕ). Goes shape c (mid n a (m ∷ l) k) (mid (go_on whole c to m n) a l (naming k (m ∷ [])))) (sym e) (loses shape o c well causes.NoRoute n m a l k)

  go_each-goes : (ms : List Message) (n : Node WholeQueues) (a l : List Message) (k : Books) → Goes shape c (mid n a (ms ++ l) k) (mid (go_each whole c ms n) a l (naming k (filter (is_stranded c n.parts) ms)))
  go_each-goes [] n a l k = names-more shape o c well _ n a l k [] (goes-none shape c (mid n a l k))
  go_each-goes (m ∷ ms) n a l k =
      let one : Node WholeQueues = go whole c m n in
      let first : List Message = if is_stranded c n.parts m then m ∷ [] else [] in
      let all : naming (naming k first) (filter (is_stranded c one.parts) ms) ≡ naming k (filter (is_stranded c n.parts) (m ∷ ms)) =
      named-twice shape o c well k first (filter (is_stranded c one.parts) ms)
      ∙ ap (λ (xs : List Message). naming k (first ++ xs)) (filter_agree (is_stranded c one.parts) (is_stranded c n.parts) (λ x. go_by-strands c (waits c n.parts.holds m) m x n) ms)
      ∙ ap (λ (xs : List Message). naming k xs) (first-kept (is_stranded c n.parts m) m (filter (is_stranded c n.parts) ms)) in
      subst (λ (j : Books). Goes shape c (mid n a (m ∷ ms ++ l) k) (mid (go_each whole c ms one) a l j)) all
      (goes-both shape c _ _ _ (go-goes (waits c n.parts.holds m) (link_of c n.parts (flow_of m)) n m a (ms ++ l) k refl) (go_each-goes ms one a l (naming k first)))
    where
      first-kept : (b : Bool) (m : Message) (xs : List Message) → (if b then m ∷ [] else []) ++ xs ≡ (if b then m ∷ xs else xs)
      first-kept true m xs = refl
      first-kept false m xs = refl

  release-goes : (n : Node WholeQueues) → Names shape o c well n (release whole c n) (gone_by_release c n).lost
  release-goes n = record {
    each = λ a l k. goes-both shape c _ _ _ (takes-out shape o c well n a l k) (go_each-goes n.queues.held (record n { queues = whole.without_held n.queues }) a l k);
  }

  -- what ends each event
  pub settles : (n : Node WholeQueues) → Names shape o c well n (tell_owed whole c (release whole c n)) (gone_by_release c n).lost
  settles n = named-before shape o c well n (release whole c n) _ (gone_by_release c n).lost (release-goes n) (tell_owed-goes shape o c well (release whole c n))

  -- ---- orders that go out late

  late-by : (b : Bool) (link : ℕ) (n : Node WholeQueues) → is_late c link n.parts ≡ b → K shape o c well n (if b then order_late whole c link n else n)
  late-by true link n e = late-goes shape o c well link n e
  late-by false link n e = stays shape o c well n

  order_each-goes : (count : ℕ) (n : Node WholeQueues) → K shape o c well n (order_each whole c count n)
  unfolding order_each
  order_each-goes zero n = stays shape o c well n
  order_each-goes (suc link) n =
      let former : Node WholeQueues = order_each whole c link n in
      both shape o c well n former _ (order_each-goes link n) (late-by (is_late c link former.parts) link former refl)

  order_all-goes : (n : Node WholeQueues) → K shape o c well n (order_all whole c n)
  order_all-goes n = either shape o c well c.changeover_by_any_route n (order_each whole c (length c.links) n) n (order_each-goes (length c.links) n) (stays shape o c well n)

  pub late_by-goes : (result : Outcome) (n : Node WholeQueues) → K shape o c well n (late_by whole c result n)
  late_by-goes (Refused cause) n = stays shape o c well n
  late_by-goes (Queued link) n = order_all-goes n
  late_by-goes Held n = order_all-goes n
  late_by-goes Local n = order_all-goes n
  late_by-goes Handled n = order_all-goes n
  late_by-goes Ignored n = order_all-goes n

  -- ---- a tick

  timer-goes : (timer : TimerName) (n : Node WholeQueues) → Names shape o c well n (run_timer whole c timer n) (gone_by_timer (Some timer) n).lost
  timer-goes (name.L1 link) n = named-besides shape o c well n _ [] (run_out-goes shape o c well link its.L1 n)
  timer-goes (name.L2 link) n = named-besides shape o c well n _ [] (run_out-goes shape o c well link its.L2 n)
  timer-goes (name.L3 link) n = named-besides shape o c well n _ [] (run_out-goes shape o c well link its.L3 n)
  timer-goes (name.L4 link) n = named-besides shape o c well n _ [] (run_out-goes shape o c well link its.L4 n)
  timer-goes (name.L6 link) n = named-besides shape o c well n _ [] (run_out-goes shape o c well link its.L6 n)
  timer-goes (name.L7 link) n = named-besides shape o c well n _ [] (run_out-goes shape o c well link its.L7 n)
  timer-goes (name.T1 link) n = expiry-goes shape o c well link which.T1 n
  timer-goes (name.T2 link) n = expiry-goes shape o c well link which.T2 n
  timer-goes (name.T3 link) n = named-besides shape o c well n _ [] (aside shape o c well n (late_time link n.parts) refl refl refl refl)
  timer-goes (name.T4 set code) n = named-besides shape o c well n _ [] (aside shape o c well n (late_code set code n.parts) refl refl refl refl)
  timer-goes (name.T6 destination) n = named-besides shape o c well n _ [] (aside shape o c well n _ refl refl refl refl)
  timer-goes (name.T8 set destination) n = named-besides shape o c well n _ [] (stays shape o c well n)
  timer-goes (name.T10 set destination) n = named-besides shape o c well n _ [] (ask-goes shape o c well set destination n)
  timer-goes (name.Slt1 link) n = named-besides shape o c well n _ [] (test_unanswered-goes shape o c well link n)
  timer-goes (name.Slt2 link) n = named-besides shape o c well n _ [] (begin_test-goes shape o c well link n)

  due-goes : (timer : Option TimerName) (n : Node WholeQueues) → Names shape o c well n (run_due whole c timer n) (gone_by_timer timer n).lost
  due-goes (Some timer) n = timer-goes timer n
  due-goes None n = named-besides shape o c well n n [] (stays shape o c well n)

  times-go : (many : ℕ) (n : Node WholeQueues) → Names shape o c well n (run_times whole c many n) (gone_by_timers many c n).lost
  times-go zero n = named-besides shape o c well n n [] (stays shape o c well n)
  times-go (suc more) n =
      let due : Option TimerName = due_name n.parts.timers in
      let handed : Node WholeQueues = with_timers n (after_due n.parts.timers) in
      let next : Node WholeQueues = run_due whole c due handed in
      let lost : List Message = (gone_by_timer due handed).lost in
      both-named shape o c well n next (run_times whole c more next) lost (gone_by_timers more c next).lost
      (named-after shape o c well n handed next lost (aside shape o c well n _ refl refl refl refl) (due-goes due handed)) (times-go more next)

  tick-goes : (n : Node WholeQueues) → Names shape o c well n (tick whole c n).left (gone_by_tick c n).lost
  tick-goes n =
      let ticks : Node WholeQueues = with_timers n (ticked n.parts.timers) in
      let ran : Node WholeQueues = run_times whole c (due_count (ticked n.parts.timers)) ticks in
      let lost : List Message = (gone_by_timers (due_count (ticked n.parts.timers)) c ticks).lost in
      named-after shape o c well n ticks _ lost (aside shape o c well n _ refl refl refl refl)
      (named-before shape o c well ticks ran _ lost (times-go (due_count (ticked n.parts.timers)) ticks) (aside shape o c well ran _ refl refl refl refl))

  pub ticked-goes : (n : Node WholeQueues) → Names shape o c well n (ordered_late whole c (tick whole c n)).left (gone_by_tick c n).lost
  ticked-goes n = named-before shape o c well n (tick whole c n).left _ (gone_by_tick c n).lost (tick-goes n) (late_by-goes (tick whole c n).outcome (tick whole c n).left)

  -- ---- associations that go down, and the operator's word

  parted : (link : ℕ) (n : Node WholeQueues) → K shape o c well n (end_association whole c link n)
  parted link n = relinked shape o c well n link (record (link_at n.parts link) { association = false }) _ refl refl refl refl refl (λ h. record { waiting = h.waiting; owed = h.owed })

  pub down-goes : (link : ℕ) (n : Node WholeQueues) → K shape o c well n (association_down whole c link n).left
  down-goes link n =
      let fell : Node WholeQueues = fail_if_up whole c link reasons.Association n in
      let gone : Done WholeQueues = answer Handled (end_association whole c link fell) in
      either_done shape o c well (is_link n.parts link) n (if (link_at n.parts link).association then gone else answer Ignored n) (refuse causes.NoSuchName n)
      (either_done shape o c well (link_at n.parts link).association n gone (answer Ignored n)
      (both shape o c well n fell _ (if_up-goes shape o c well link n reasons.Association) (parted link fell)) (stays shape o c well n))
      (stays shape o c well n)

  set-goes : (active emergency : Bool) (link : ℕ) (n : Node WholeQueues) → K shape o c well n (set_active whole c active emergency link n)
  set-goes active emergency link n = relinked shape o c well n link (record (link_at n.parts link) { active = active; emergency = emergency }) _ refl refl refl refl refl (λ h. record { waiting = h.waiting; owed = h.owed })

  pub activate-goes : (emergency : Bool) (link : ℕ) (n : Node WholeQueues) → K shape o c well n (activate whole c emergency link n).left
  activate-goes emergency link n =
      either_done shape o c well (is_link n.parts link) n (answer Handled (set_active whole c true emergency link n)) (refuse causes.NoSuchName n) (set-goes true emergency link n) (stays shape o c well n)

  pub deactivate-goes : (link : ℕ) (n : Node WholeQueues) → K shape o c well n (deactivate whole c link n).left
  deactivate-goes link n =
      let fell : Node WholeQueues = fail_if_up whole c link reasons.Operator n in
      either_done shape o c well (is_link n.parts link) n (answer Handled (set_active whole c false false link fell)) (refuse causes.NoSuchName n)
      (both shape o c well n fell _ (if_up-goes shape o c well link n reasons.Operator) (set-goes false false link fell)) (stays shape o c well n)

  freed-by : (b : Bool) (link : ℕ) (n : Node WholeQueues) → is_barred (changeover_of n.parts link) ≡ b → K shape o c well n (if b then answer Handled (with_parts n (unbarred link n.parts)) else answer Ignored n).left
  freed-by true link n e = unbarred-goes shape o c well link n e
  freed-by false link n e = stays shape o c well n

  pub release_bar-goes : (link : ℕ) (n : Node WholeQueues) → K shape o c well n (release_bar whole c link n).left
  release_bar-goes link n =
      let freed : Done WholeQueues = answer Handled (with_parts n (unbarred link n.parts)) in
      either_done shape o c well (is_link n.parts link) n (if is_barred (changeover_of n.parts link) then freed else answer Ignored n) (refuse causes.NoSuchName n)
      (freed-by (is_barred (changeover_of n.parts link)) link n refl) (stays shape o c well n)

  added-by : (refusal : Option Cause) (row : TitleEntry) (n : Node WholeQueues) → K shape o c well n (add_title_unless refusal row n).left
  added-by (Some cause) row n = stays shape o c well n
  added-by None row n = aside shape o c well n (with_rows (with_row row n.parts.titles.rows) n.parts) refl refl refl refl

  pub added-goes : (row : TitleEntry) (is_memory_refused : Bool) (n : Node WholeQueues) → K shape o c well n (add_title row is_memory_refused n).left
  added-goes row is_memory_refused n = added-by (title_refusal n.parts.titles.rows row is_memory_refused) row n

  pub set_title-goes : (row : TitleEntry) (is_memory_refused : Bool) (n : Node WholeQueues) → K shape o c well n (set_title row is_memory_refused n).left
  set_title-goes row is_memory_refused n = added-by (title_set_refusal n.parts.titles.rows row is_memory_refused) row n

  pub removed-goes : (key : TitleKey) (digits : List ℕ) (n : Node WholeQueues) → K shape o c well n (remove_title key digits n).left
  removed-goes key digits n =
      either_done shape o c well (has_row n.parts.titles.rows (place_of key digits)) n
      (answer Handled (with_parts n (with_rows (without_row (place_of key digits) n.parts.titles.rows) n.parts))) (refuse causes.NoSuchName n) (aside shape o c well n _ refl refl refl refl) (stays shape o c well n)
