-- No user message is in the queue of a link that has a test to pass, and none has one where links aren't tested.
use Rattle.exchange_rules.proofs.Basics.{◌≡◌, ◌≢◌, ◌<◌, ◌≤◌, ◌⊎◌, inl, inr, ℕ, Bool, true, false, ◌&&◌, not, List, [], ◌∷◌, ◌++◌, length, get_or, slice_set, refl, ap, sym, subst, ◌∙◌, arith, list_all, is_some, ⊎_elim, cases_eq, if◌then◌else◌, cases_lt, and_from, get_or_past, get_or-set_same, get_or-set_other, length-set, false_from_ne_true as not-so}
use Rattle.exchange_rules.proofs.Definitions.{Configuration, Message, flow_of, is_management, Link, down_link, is_in_service, carries_traffic, stepped, after_failure, opened_by, period_of, Queue, first_queue, emptied, appended, network_of, Node, link_at, links_with, in_service, queue_on, declaration, test_answer, link_test, tests_links, peer_of, entry_of, ChangebackDeclaration, is_first_test, test_passed, pass_test, enters, take_step, test_if, advance, carries, open_link, send_test, Asking, first_state, after_each, WholeQueues, queue_at, whole}
use Rattle.std.proofs.lemmas.List.Folds.{list_all-append}
use Rattle.node_links.specs.NodeLinks.{link_in}
use Rattle.node_links.proofs.Chosen.{chosen_carrying}
use Rattle.link.specs.Queue as queue
use Rattle.link.specs.Queue.{accept_answer, to_send}
use Rattle.exchange_rules.specs.LawsOfFirstTests.{links_wait_for_their_test, flows_keep_off_untested_links, untested_links_have_no_user_message, Forgets, failures_forget_tests, none_waits_without_settings, none_is_tested_without_settings}
use Rattle.exchange_rules.proofs.Asked.{any, IsOfAll, all-of, asked-all}
use Rattle.exchange_rules.proofs.LastingMessages.{accepted-all, sent-all}
use Rattle.exchange_rules.proofs.LeavingMessages.{chosen_carries}
use Rattle.exchange_rules.proofs.Lists.{each-replicate}
use Rattle.exchange_rules.proofs.OwnManagement.{made-management, answer-management, test-management}
use Rattle.exchange_rules.proofs.Steps.{IsOfSteps}
use Rattle.exchange_rules.proofs.SteppingEntries.{begun-links}
use Rattle.exchange_rules.proofs.SteppingFailures.{fail-links}
use Rattle.exchange_rules.proofs.SteppingLinks.{advance-links, moved-at, stepped-at}

-- ---- lists, as one element changes

module _ {A : Type 0} where
  set-or-same : (xs : List A) (i j : ℕ) (x d : A) → ((get_or (slice_set xs i x) j d ≡ x) × (j ≡ i)) ⊎ (get_or (slice_set xs i x) j d ≡ get_or xs j d)
  set-or-same xs i j x d =
      ⊎_elim
      (λ (e : j ≡ i). subst (λ (k : ℕ). ((get_or (slice_set xs i x) k d ≡ x) × (k ≡ i)) ⊎ (get_or (slice_set xs i x) k d ≡ get_or xs k d)) (sym e)
      (⊎_elim
      (λ (there : i < length xs). inl (get_or-set_same xs i x d there, refl))
      (λ (past : length xs ≤ i). inr (get_or_past (slice_set xs i x) i d (omega (arith, past, length-set xs i x)) ∙ sym (get_or_past xs i d past)))
      (cases_lt i (length xs))))
      (λ (apart : j ≢ i). inr (get_or-set_other xs i j x d apart))
      (cases_eq j i)

  -- the default, where that is what is set
  set-default : (xs : List A) (i : ℕ) (d : A) → get_or (slice_set xs i d) i d ≡ d
  set-default xs i d =
      ⊎_elim (λ (there : i < length xs). get_or-set_same xs i d d there)
      (λ (past : length xs ≤ i). get_or_past (slice_set xs i d) i d (omega (arith, past, length-set xs i d)))
      (cases_lt i (length xs))

no-way : {A : Type 0} (b : Bool) → b ≡ true → b ≡ false → A
no-way b e f = (let no : true ≡ false = sym e ∙ f in absurd cc)

-- a link that carries traffic has no test to pass
carrying-tested : (serves untested : Bool) → (serves && not untested) ≡ true → untested ≡ false
carrying-tested true false e = refl
carrying-tested true true e = absurd cc
carrying-tested false untested e = absurd cc

module _ (c : Configuration) where
  abbrev Quiet : List Message → Type 0
  Quiet ms = list_all is_management ms ≡ true

  record AllWait (n : Node WholeQueues) : Type 0 where
    pub asked : (link : ℕ) → (link_at n.parts link).untested ≡ true → tests_links c ≡ true
    pub quiet : (link : ℕ) → (link_at n.parts link).untested ≡ true → Quiet (queue_at n.queues link).all

  record Stays (n m : Node WholeQueues) : Type 0 where
    pub stay : AllWait n → AllWait m

  -- no link has a new test to pass, and no queue has another message
  as-before : (n m : Node WholeQueues) → ((link : ℕ) → (link_at m.parts link).untested ≡ true → (link_at n.parts link).untested ≡ true)
      → ((link : ℕ) → Quiet (queue_at n.queues link).all → Quiet (queue_at m.queues link).all) → Stays n m
  as-before n m e f = record {
    stay = λ h. record { asked = λ link u. h.asked link (e link u); quiet = λ link u. f link (h.quiet link (e link u)) };
  }

  same : (n m : Node WholeQueues) → m.parts.links ≡ n.parts.links → m.queues.links ≡ n.queues.links → Stays n m
  same n m e f =
      as-before n m (λ link u. sym (ap (λ (links : List Link). (link_in links link).untested) e) ∙ u)
      (λ link h. ap (λ (qs : List Queue). list_all is_management (queue_at (record n.queues { links = qs }) link).all) f ∙ h)

  -- one link changes, and has no new test to pass
  links-as : (at : ℕ) (x : Link) (n : Node WholeQueues) → (x.untested ≡ true → (link_at n.parts at).untested ≡ true) → (link : ℕ)
      → (link_in (links_with n.parts at x) link).untested ≡ true → (link_at n.parts link).untested ≡ true
  links-as at x n f link u =
      ⊎_elim
      (λ (here : (get_or (slice_set n.parts.links at x) link down_link ≡ x) × (link ≡ at)).
      subst (λ (k : ℕ). (link_at n.parts k).untested ≡ true) (sym here.1) (f (sym (ap (λ (l : Link). l.untested) here.0) ∙ u)))
      (λ (old : get_or (slice_set n.parts.links at x) link down_link ≡ get_or n.parts.links link down_link). sym (ap (λ (l : Link). l.untested) old) ∙ u)
      (set-or-same n.parts.links at link x down_link)

  linked : (at : ℕ) (x : Link) (n m : Node WholeQueues) → m.parts.links ≡ links_with n.parts at x → m.queues.links ≡ n.queues.links
      → (x.untested ≡ true → (link_at n.parts at).untested ≡ true) → Stays n m
  linked at x n m e f g =
      as-before n m (λ link u. links-as at x n g link (sym (ap (λ (links : List Link). (link_in links link).untested) e) ∙ u))
      (λ link h. ap (λ (qs : List Queue). list_all is_management (queue_at (record n.queues { links = qs }) link).all) f ∙ h)

  -- the queue of one link changes
  queues-as : (at : ℕ) (q : Queue) (n : Node WholeQueues) → (Quiet (queue_at n.queues at).all → Quiet q.all) → (link : ℕ) → Quiet (queue_at n.queues link).all
      → Quiet (get_or (slice_set n.queues.links at q) link first_queue).all
  queues-as at q n f link h =
      ⊎_elim
      (λ (here : (get_or (slice_set n.queues.links at q) link first_queue ≡ q) × (link ≡ at)).
      ap (λ (x : Queue). list_all is_management x.all) here.0 ∙ f (subst (λ (k : ℕ). Quiet (queue_at n.queues k).all) here.1 h))
      (λ (old : get_or (slice_set n.queues.links at q) link first_queue ≡ get_or n.queues.links link first_queue). ap (λ (x : Queue). list_all is_management x.all) old ∙ h)
      (set-or-same n.queues.links at link q first_queue)

  more : (ms : List Message) (m : Message) → is_management m ≡ true → Quiet ms → Quiet (ms ++ m ∷ [])
  more ms m e h =
      list_all-append is_management ms (m ∷ []) ∙ and_from (list_all is_management ms) (is_management m && true) h (ap (λ (b : Bool). b && true) e)

  -- management goes to any link
  managed : (at : ℕ) (m : Message) (n : Node WholeQueues) → is_management m ≡ true → Stays n (queue_on whole c at m n)
  managed at m n e =
      as-before n _ (λ link u. u) (queues-as at (appended (queue_at n.queues at) m) n (more (queue_at n.queues at).all m e))

  -- any message goes to a link that has no test to pass
  routed : (at : ℕ) (m : Message) (n : Node WholeQueues) → (link_at n.parts at).untested ≡ false → Stays n (queue_on whole c at m n)
  routed at m n e = record {
    stay = λ h. record {
      asked = h.asked;
      quiet = λ link u. ⊎_elim
          (λ (here : link ≡ at). no-way (link_at n.parts link).untested u (ap (λ (k : ℕ). (link_at n.parts k).untested) here ∙ e))
          (λ (apart : link ≢ at).
          ap (λ (x : Queue). list_all is_management x.all) (get_or-set_other n.queues.links at link (appended (queue_at n.queues at) m) first_queue apart) ∙ h.quiet link u)
          (cases_eq link at);
    };
  }

  -- a link opens, with an empty queue
  opens : (at : ℕ) (n : Node WholeQueues) → Stays n (open_link whole c at n)
  opens at n = record {
    stay = λ h. record {
      asked = λ link u. ⊎_elim
          (λ (here : (get_or (slice_set n.parts.links at x) link down_link ≡ x) × (link ≡ at)). sym (ap (λ (l : Link). l.untested) here.0) ∙ u)
          (λ (old : get_or (slice_set n.parts.links at x) link down_link ≡ get_or n.parts.links link down_link). h.asked link (sym (ap (λ (l : Link). l.untested) old) ∙ u))
          (set-or-same n.parts.links at link x down_link);
      quiet = λ link u. ⊎_elim
          (λ (here : link ≡ at).
          subst (λ (k : ℕ). Quiet (get_or (slice_set n.queues.links at first_queue) k first_queue).all) (sym here)
          (ap (λ (q : Queue). list_all is_management q.all) (set-default n.queues.links at first_queue)))
          (λ (apart : link ≢ at).
          ap (λ (q : Queue). list_all is_management q.all) (get_or-set_other n.queues.links at link first_queue first_queue apart)
          ∙ h.quiet link (sym (ap (λ (l : Link). l.untested) (get_or-set_other n.parts.links at link x down_link apart)) ∙ u))
          (cases_eq link at);
    };
  }
    where
      x : Link
      x = opened_by c (period_of c at n.parts) (link_at n.parts at)

  wait-steps : IsOfSteps c any any Stays
  wait-steps = record {
    none = λ n. same n n refl refl;
    both = λ n m o e f. record { stay = λ h. f.stay (e.stay h) };
    routed = λ link m n e. routed link m n
        (carrying-tested (in_service n.parts link) (link_at n.parts link).untested (chosen_carries c n.parts (flow_of m) link e));
    declared = λ link other code n e f. managed other (declaration c link code) n (made-management c (peer_of c link) (ChangebackDeclaration (entry_of c link).slc code));
    tested = λ link point test n e f. managed link (test_answer c point test) n (answer-management c point test);
    probed = λ link n e. managed link (link_test c link) n (test-management c link);
    held = λ m n e. same n _ refl refl;
    taken_out = λ n. same n _ refl refl;
    noted = λ notice n e. same n _ refl refl;
    lost = λ n. same n _ refl refl;
    counted = λ messages broken n. same n _ refl refl;
    asked = λ link n e. same n _ refl refl;
    late = λ n. same n _ refl refl;
    timed = λ r n e. same n _ refl refl;
    holding = λ h n e. same n _ refl refl;
    coded = λ set code awaited n. same n _ refl refl;
    rerouted = λ routes n e. same n _ refl refl;
    told = λ t n e. same n _ refl refl;
    titled = λ rows n. same n _ refl refl;
    unequipped = λ counts n e. same n _ refl refl;
    failed = λ link why st n e f. linked link (after_failure (link_at n.parts link)) n _ refl refl (λ u. absurd cc);
    dropped = λ link why n e. linked link (after_failure (link_at n.parts link)) n _ refl refl (λ u. absurd cc);
    completed = λ link number st n e f. as-before n _ (λ l u. u) (queues-as link (emptied (queue_at n.queues link)) n (λ h. refl));
    answered = λ link st n e f w. same n _ refl refl;
    linked = λ link x n e o. linked link x n _ refl refl (λ u. sym e.untested ∙ u);
    parted = λ link n e. linked link (record (link_at n.parts link) { association = false }) n _ refl refl (λ u. u);
    opened = λ link n own there e f. opens link n;
    stepped = λ link input step n own e. linked link (stepped step (link_at n.parts link)) n _ refl refl (λ u. u);
    passed = λ link n e. linked link (record (link_at n.parts link) { test_failed = false; untested = false }) n _ refl refl (λ u. absurd cc);
    busied = λ link n own e f. linked link (record (link_at n.parts link) { peer_busy = true }) n _ refl refl (λ u. u);
    resumed = λ link n own e f. linked link (record (link_at n.parts link) { peer_busy = false }) n _ refl refl (λ u. u);
    accepted = λ link d confirmed n own e f.
        let q : Queue = queue_at n.queues link in
        as-before n _ (λ l u. u)
        (queues-as link (queue.accepted q d.fsn d.bsn (carries d)) n (λ h. ap (list_all is_management) (accepted-all q (carries d) (accept_answer q d.fsn d.bsn (carries d))) ∙ h));
    sent = λ link next n own e.
        let q : Queue = queue_at n.queues link in
        as-before n _ (links-as link (record (link_at n.parts link) { acknowledgement_owed = false }) n (λ u. u))
        (queues-as link (queue.sent_one q c.window) n (λ h. ap (list_all is_management) (sent-all q (to_send q c.window)) ∙ h));
  }

  wait-all : IsOfAll c Stays
  wait-all = all-of wait-steps (λ n. same n _ refl refl) (λ n. same n _ refl refl)

  wait-first : AllWait (first_state c).node
  wait-first = record {
    asked = λ link u. no-way (link_at (first_state c).node.parts link).untested u
        (each-replicate (λ (l : Link). l.untested ≡ false) (length c.links) link down_link refl);
    quiet = λ link u. each-replicate (λ (q : Queue). list_all is_management q.all ≡ true) (length c.links) link first_queue refl;
  }

  wait-each : (asked : List Asking) → AllWait (after_each asked (first_state c)).node
  wait-each asked = (asked-all wait-all asked (first_state c) refl).stay wait-first

pub no-user-message : untested_links_have_no_user_message
no-user-message c asked link u = (wait-each c asked).quiet link u

pub none-waits : none_waits_without_settings
none-waits c asked link off =
    not-so (link_at (after_each asked (first_state c)).node.parts link).untested
    (λ u. no-way (tests_links c) ((wait-each c asked).asked link u) (ap is_some off))

-- ---- routing

pub keeps-off : flows_keep_off_untested_links
keeps-off c p link destination sls u is =
    no-way (link_at p link).untested u
    (carrying-tested (in_service p link) (link_at p link).untested (chosen_carrying (network_of c p) destination sls link is))

-- ---- links that open, enter service, pass and fail

untested-out : (serves untested : Bool) → untested ≡ true → (serves && not untested) ≡ false
untested-out true true e = refl
untested-out false true e = refl
untested-out serves false e = absurd cc

pub waits : links_wait_for_their_test
waits c link step n there =
    let l : Link = link_at n.parts link in
    let opens : Link = opened_by c (period_of c link n.parts) l in
    let opened : link_at (open_link whole c link n).parts link ≡ opens = get_or-set_same n.parts.links link opens down_link there in
    let steps : link_at (advance whole c link step n).parts link ≡ stepped step l =
    ap (λ (links : List Link). link_in links link) (advance-links c link step n) ∙ moved-at c link link step n.parts ∙ stepped-at c link step n.parts there in
    let passes : Link = record l { test_failed = false; untested = false } in
    let begun : (pass_test whole c link n).parts.links ≡ links_with n.parts link passes =
    begun-links (is_first_test link n.parts) c link (test_passed c link n.parts) n in
    let passed : link_at (pass_test whole c link n).parts link ≡ passes =
    ap (λ (links : List Link). link_in links link) begun ∙ get_or-set_same n.parts.links link passes down_link there in
    record {
      opens = ap (λ (x : Link). x.untested) opened;
      fresh = ap (λ (x : Link). x.test_failed) opened;
      steps = ap (λ (x : Link). x.untested) steps;
      failed = ap (λ (x : Link). x.test_failed) steps;
      waits = λ u. ap carries_traffic steps ∙ untested-out (is_in_service step.state) l.untested u;
      begins = λ e. ap carries_traffic passed ∙ ap (λ (b : Bool). b && true) e;
      passes = passed;
      others = λ other apart.
          ap (λ (links : List Link). link_in links other) begun ∙ get_or-set_other n.parts.links link other passes down_link apart;
    }

pub forgets : failures_forget_tests
forgets c link why n =
    subst Forgets (sym (ap (λ (links : List Link). link_in links link) (fail-links c link why n)))
    (⊎_elim
    (λ (there : link < length n.parts.links).
    subst Forgets (sym (get_or-set_same n.parts.links link (after_failure (link_at n.parts link)) down_link there)) (record { failed = refl; untested = refl }))
    (λ (past : length n.parts.links ≤ link).
    subst Forgets
    (sym (get_or_past (links_with n.parts link (after_failure (link_at n.parts link))) link down_link (omega (arith, past, length-set n.parts.links link (after_failure (link_at n.parts link))))))
    (record { failed = refl; untested = refl }))
    (cases_lt link (length n.parts.links)))

-- ---- where links aren't tested

not-begun : (on serves : Bool) (n m : Node WholeQueues) → on ≡ false → (if on && serves then m else n) ≡ n
not-begun false serves n m e = refl
not-begun true serves n m e = absurd cc

not-tested : (c : Configuration) (entered : Bool) (link : ℕ) (n : Node WholeQueues) → tests_links c ≡ false → test_if whole c entered link n ≡ n
not-tested c true link n off = not-begun (tests_links c) (in_service n.parts link) n (send_test whole c link n) off
not-tested c false link n off = refl

pub step-alone : none_is_tested_without_settings
step-alone c link step n off = not-tested c (enters link step n.parts) link (take_step whole c link step n) (ap is_some off)
