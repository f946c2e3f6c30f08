-- What leaves the tests of links as they are, where nothing but ticks happens.
use Rattle.exchange_rules.proofs.Basics.{◌≡◌, ◌≢◌, ◌⊎◌, inl, inr, ℕ, zero, suc, length, Bool, true, false, List, [], ◌∷◌, Option, Some, None, refl, ap, sym, ◌∙◌, subst, cases_eq, if◌then◌else◌, get_or-set_other}
use Rattle.exchange_rules.proofs.Definitions.{is_led, Message, flow_of, Configuration, FailureReason, ChangeoverTimer, Link, down_link, after_failure, Running, clear_timer, left-clear, left-clear_other, without_timers, RouteStatus, status_of, Owed, owed, Found, Parts, Node, with_parts, link_at, links_with, in_service, facts, link_of, fail, lose_each, judged, concluded, complete_if, changeover_of, with_expiry, told_parts, route_message, may_tell, tell, tell_if, tell_each, tell_owed, ask, ask_by, prohibited_test, restricted_test, with_next_test, go_on, go_by, go, go_each, release, waits, WholeQueues, whole, Allowed, Restricted, Prohibited, barred, asking, changeover_order, is_late, order_late, order_if_late, order_each, order_all}
use Rattle.timers.specs.declared.name.TimerName.TheVariants as name
use Rattle.signalling_types.specs.declared.notice.ChangeoverTimer.TheVariants as which
use Rattle.exchange_rules.proofs.Steps.{IsOfSends}
use Rattle.exchange_rules.proofs.SteppingMessages.{send_if-steps, send_routed-steps, send_each-steps}
use Rattle.exchange_rules.proofs.SteppingFailures.{fail-links}
use Rattle.exchange_rules.proofs.Eased.{settled-eased}
use Rattle.exchange_rules.proofs.LinkTimes.{Kept, kept-eased, stopped, fails-kept, fails-from, late_all-kept}

-- ---- what leaves the tests of links as they are

-- of each link whose test is awaited, the timer runs on as it did, and it has failed as many
pub record Calms (n m : Node WholeQueues) : Type 0 where
  pub first : (link x : ℕ) → m.parts.timers.left (name.Slt1 link) ≡ Some x
      → (n.parts.timers.left (name.Slt1 link) ≡ Some x) × ((link_at m.parts link).test_failed ≡ (link_at n.parts link).test_failed)
  pub second : (link x : ℕ) → m.parts.timers.left (name.Slt2 link) ≡ Some x → n.parts.timers.left (name.Slt2 link) ≡ Some x

calms-both : (n m o : Node WholeQueues) → Calms n m → Calms m o → Calms n o
calms-both n m o e f = record {
  first = λ link x h. ((e.first link x (f.first link x h).0).0, (f.first link x h).1 ∙ (e.first link x (f.first link x h).0).1);
  second = λ link x h. e.second link x (f.second link x h);
}

-- links stay, and neither timer is set
pub calms-of : (n m : Node WholeQueues) → m.parts.links ≡ n.parts.links → Kept n m → Calms n m
calms-of n m e k = record {
  first = λ link x h. (k.timers (name.Slt1 link) refl x h, ap (λ (links : List Link). (link_at (record n.parts { links = links }) link).test_failed) e);
  second = λ link x h. k.timers (name.Slt2 link) refl x h;
}

-- neither timer of a link runs that failed
first-gone : (link : ℕ) (r : Running) → (without_timers link r).left (name.Slt1 link) ≡ None
first-gone link r =
    left-clear_other (name.Slt2 link) (name.Slt1 link) (clear_timer (name.Slt1 link) _) (λ e. cc) ∙ left-clear (name.Slt1 link) _

pub none-some : {A : Type 0} (o : Option ℕ) (x : ℕ) → o ≡ None → o ≡ Some x → A
none-some o x e f = (let no : None ≡ Some x = sym e ∙ f in absurd cc)

-- a link fails
gone-calms : (link : ℕ) (n m : Node WholeQueues) → m.parts.links ≡ links_with n.parts link (after_failure (link_at n.parts link)) → Kept n m → Kept (stopped link n) m → Calms n m
gone-calms link n m e k s = record {
  first = λ other x h. (k.timers (name.Slt1 other) refl x h, by other x h (cases_eq other link));
  second = λ other x h. k.timers (name.Slt2 other) refl x h;
}
  where
    by : (other x : ℕ) → m.parts.timers.left (name.Slt1 other) ≡ Some x → (other ≡ link) ⊎ (other ≢ link) → (link_at m.parts other).test_failed ≡ (link_at n.parts other).test_failed
    by other x h (inl same) =
        none-some ((without_timers link n.parts.timers).left (name.Slt1 link)) x (first-gone link n.parts.timers)
        (subst (λ (k : ℕ). (without_timers link n.parts.timers).left (name.Slt1 k) ≡ Some x) same (s.timers (name.Slt1 other) refl x h))
    by other x h (inr apart) =
        ap (λ (links : List Link). (link_at (record n.parts { links = links }) other).test_failed) e
        ∙ ap (λ (l : Link). l.test_failed) (get_or-set_other n.parts.links link other (after_failure (link_at n.parts link)) down_link apart)

-- ---- rules that leave links as they are

module _ (c : Configuration) where
  linked-sends : IsOfSends c (λ n m. m.parts.links ≡ n.parts.links)
  linked-sends = record {
    none = λ n. refl;
    both = λ n m o e f. f ∙ e;
    routed = λ link m n e. refl;
    noted = λ notice n e. refl;
    lost = λ notice n e. refl;
    counted = λ messages broken n. refl;
  }

  losses-links : (ms : List Message) (p : Parts) → (lose_each ms p).links ≡ p.links
  losses-links [] p = refl
  losses-links (m ∷ ms) p = losses-links ms _

  judged-links : (reasonable : Bool) (p : Parts) → (judged reasonable p).links ≡ p.links
  judged-links true p = refl
  judged-links false p = refl

  completed-links : (incomplete : Bool) (link : ℕ) (number : Option ℕ) (n : Node WholeQueues) → (complete_if whole c incomplete link number n).parts.links ≡ n.parts.links
  completed-links false link number n = refl
  completed-links true link number n =
      let found : Found = whole.found n.queues link number in
      let done : Node WholeQueues = record { queues = whole.completed n.queues link number; parts = concluded link found n.parts } in
      send_each-steps linked-sends found.queued_anew done ∙ judged-links found.is_reasonable (lose_each found.lost n.parts) ∙ losses-links found.lost n.parts

  pub expired-links : (there : Bool) (expiry : ChangeoverTimer) (link : ℕ) (n : Node WholeQueues)
      → (if there then complete_if whole c (changeover_of n.parts link).incomplete link None (with_parts n (with_expiry c expiry link (barred c link n.parts))) else n).parts.links ≡ n.parts.links
  expired-links false expiry link n = refl
  expired-links true expiry link n = completed-links (changeover_of n.parts link).incomplete link None (with_parts n (with_expiry c expiry link (barred c link n.parts))) ∙ by expiry
    where
      by : (its : ChangeoverTimer) → (with_expiry c its link (barred c link n.parts)).links ≡ n.parts.links
      by which.T1 = refl
      by which.T2 = refl

  asked-links : (m : Message) (set destination : ℕ) (n : Node WholeQueues) → (ask whole c m set destination n).parts.links ≡ n.parts.links
  asked-links m set destination n = send_if-steps linked-sends (is_led c m n.parts) m (with_parts n (with_next_test whole c set destination n.parts))

  ask-links : (status : Option RouteStatus) (set destination : ℕ) (n : Node WholeQueues) → (ask_by whole c status set destination n).parts.links ≡ n.parts.links
  ask-links (Some Prohibited) set destination n = asked-links (prohibited_test whole c set destination) set destination n
  ask-links (Some Restricted) set destination n = asked-links (restricted_test whole c set destination) set destination n
  ask-links (Some Allowed) set destination n = refl
  ask-links None set destination n = refl

  pub asks-links : (there : Bool) (set destination : ℕ) (n : Node WholeQueues)
      → (if there then ask_by whole c (status_of (facts c n.parts) destination set) set destination n else n).parts.links ≡ n.parts.links
  asks-links true set destination n = ask-links (status_of (facts c n.parts) destination set) set destination n
  asks-links false set destination n = refl

  -- the end of an event
  go_on-links : (link : Option ℕ) (m : Message) (n : Node WholeQueues) → (go_on whole c link m n).parts.links ≡ n.parts.links
  go_on-links (Some link) m n = refl
  go_on-links None m n = refl

  go_by-links : (waiting : Bool) (m : Message) (n : Node WholeQueues) → (go_by whole c waiting m n).parts.links ≡ n.parts.links
  go_by-links true m n = refl
  go_by-links false m n = go_on-links (link_of c n.parts (flow_of m)) m n

  go_each-links : (ms : List Message) (n : Node WholeQueues) → (go_each whole c ms n).parts.links ≡ n.parts.links
  go_each-links [] n = refl
  go_each-links (m ∷ ms) n = go_each-links ms (go whole c m n) ∙ go_by-links (waits c n.parts.holds m) m n

  tell-links : (tells : Bool) (o : Owed) (n : Node WholeQueues) → (if tells then tell whole c o n else n).parts.links ≡ n.parts.links
  tell-links true o n = send_routed-steps linked-sends (route_message c o.set o.destination o.status) (with_parts n (told_parts c o n.parts))
  tell-links false o n = refl

  tell_each-links : (os : List Owed) (n : Node WholeQueues) → (tell_each whole c os n).parts.links ≡ n.parts.links
  tell_each-links [] n = refl
  tell_each-links (o ∷ os) n = tell_each-links os (tell_if whole c o n) ∙ tell-links (may_tell whole c n) o n

  settled-links : (n : Node WholeQueues) → (tell_owed whole c (release whole c n)).parts.links ≡ n.parts.links
  unfolding tell_owed
  settled-links n =
      let rest : Node WholeQueues = release whole c n in
      tell_each-links (owed (facts c rest.parts) rest.parts.told) rest ∙ go_each-links n.queues.held (record n { queues = whole.without_held n.queues })

  -- and before that orders go out late
  late-links : (link : ℕ) (n : Node WholeQueues) → (order_if_late whole c link n).parts.links ≡ n.parts.links
  late-links link n = by (is_late c link n.parts)
    where
      by : (late : Bool) → (if late then order_late whole c link n else n).parts.links ≡ n.parts.links
      by true = send_routed-steps linked-sends (changeover_order c link (whole.last_accepted n.queues link)) (with_parts n (asking c link n.parts))
      by false = refl

  late_each-links : (many : ℕ) (n : Node WholeQueues) → (order_each whole c many n).parts.links ≡ n.parts.links
  unfolding order_each
  late_each-links zero n = refl
  late_each-links (suc link) n = late-links link (order_each whole c link n) ∙ late_each-links link n

  late_all-links : (n : Node WholeQueues) → (order_all whole c n).parts.links ≡ n.parts.links
  late_all-links n = by c.changeover_by_any_route
    where
      by : (any : Bool) → (if any then order_each whole c (length c.links) n else n).parts.links ≡ n.parts.links
      by true = late_each-links (length c.links) n
      by false = refl

  pub late_all-calms : (n : Node WholeQueues) → Calms n (order_all whole c n)
  late_all-calms n = calms-of n _ (late_all-links n) (late_all-kept c n)

  pub settled-calms : (n : Node WholeQueues) → Calms n (tell_owed whole c (release whole c n))
  settled-calms n = calms-of n _ (settled-links n) (kept-eased n _ (settled-eased c n))

  pub fail-calms : (link : ℕ) (why : FailureReason) (n : Node WholeQueues) → Calms n (fail whole c link why n)
  fail-calms link why n =
      gone-calms link n _ (fail-links c link why n) (fails-kept c (in_service n.parts link) link why n) (fails-from c (in_service n.parts link) link why n)
