-- An event lets go of queues what the far ends received, and nothing else: so what is ahead falls by what went.
use Rattle.exchange_rules.proofs.Basics.{◌≡◌, ◌≢◌, ◌<◌, ◌≤◌, ◌⊎◌, inl, inr, ◌+◌, ◌-◌, ℕ, Bool, true, is_some, List, [], ◌++◌, length, Option, Some, None, Ok, refl, ap, sym, subst, ◌∙◌, arith, take, ⊎_elim, cases_eq, cases_lt, slice_set, get_or_past, get_or-set_same, get_or-set_other, length-set, length-append}
use Rattle.exchange_rules.proofs.Definitions.{Message, Configuration, Queue, first_queue, emptied, unconfirmed, IsQueue, AreQueues, accept_answer, after_answer, accepted, sound-accepted, sound-emptied, sound-first, accepted_count, users_that, WholeQueues, queue_at, whole, Node, Carrying, carries, Gone, gone_by_completion}
use Rattle.exchange_rules.specs.Touching.{IsGrown}
use Rattle.exchange_rules.proofs.Lists.{each-set}
use Rattle.exchange_rules.proofs.Tallies.{append}
use Rattle.changeover.specs.Laws.{count_in_the_end}
use Rattle.link.specs.Queue.{Names, named_count}
use Rattle.link.proofs.Naming.{finds_named}
use Rattle.network_rules.proofs.Growing.{AreGrown}
use Rattle.network_rules.proofs.Parting.{Does, SaysWord, ends, grows, loses}
use Rattle.network_rules.proofs.PartingEvents.{Comes, Opens, opens, quiet, stays, takes}
use Rattle.network_rules.proofs.Ahead.{ahead, ahead_at, ahead-confirmed, ahead-named, ahead-unsent, all_ahead, all-grown, all-less, still-named, take-none}

-- ---- queues stay queues

longer : (m n k s : ℕ) → s ≤ m → k ≡ m + n → s ≤ k
longer m n k s e f = omega (arith, e, f)

grown-queue : {w : ℕ} (q p : Queue) → IsQueue w q → IsGrown q p → IsQueue w p
grown-queue {w} q p h e =
    subst (IsQueue w) (sym e.grown)
    (record { confirmed = h.confirmed; sent = longer (length q.all) (length e.behind) (length (q.all ++ e.behind)) q.sent h.sent (length-append q.all e.behind); window = h.window; limit = h.limit })

pub grown-queues : {w : ℕ} (qs rs : WholeQueues) → AreQueues w qs → AreGrown qs rs → AreQueues w rs
grown-queues qs rs h e = record { each = λ link. grown-queue (queue_at qs link) (queue_at rs link) (h.each link) (e.each link) }

-- none is sent of none
none-sent : (s k : ℕ) → s ≤ k → k ≡ 0 → s ≡ 0
none-sent s k e f = omega (arith, e, f)

pub unsent : {w : ℕ} (q : Queue) → IsQueue w q → q.all ≡ [] → q.sent ≡ 0
unsent q h e = none-sent q.sent (length q.all) h.sent (ap length e)

none-of : (of : Message → Bool) (ms : List Message) → ms ≡ [] → users_that of ms ≡ 0
none-of of ms e = ap (users_that of) e

module _ (of : Message → Bool) (there : ℕ → ℕ) (links w : ℕ) where
  abbrev total : WholeQueues → ℕ
  total qs = all_ahead of there links qs

  none-more : (n k : ℕ) → k ≡ 0 → n ≡ n + k
  none-more n k e = omega (arith, e)

  -- ---- a changeover ends

  -- what a number names was received, or nothing was sent
  abbrev pub NamesIt : (Said : (link number : ℕ) → Type 0) → WholeQueues → Type 0
  NamesIt Said qs =
      (link number n : ℕ) → Said link number → named_count (queue_at qs link) number ≡ Some n
      → ((n ≡ there link) × ((queue_at qs link).confirmed ≤ there link) × (there link ≤ (queue_at qs link).sent)) ⊎ ((queue_at qs link).sent ≡ 0)

  -- what is said names now what was received
  abbrev pub Named : (Said : (link number : ℕ) → Type 0) → WholeQueues → Type 0
  Named Said qs = (link number : ℕ) → Said link number → (named_count (queue_at qs link) number ≡ Some (there link)) ⊎ ((queue_at qs link).sent ≡ 0)

  by-none : (qs : WholeQueues) (link : ℕ) → length qs.links ≤ link → (queue_at qs link).sent ≡ 0
  by-none qs link past = ap (λ (q : Queue). q.sent) (get_or_past qs.links link first_queue past)

  nothing-ahead : (qs : WholeQueues) (link : ℕ) → (queue_at qs link).sent ≡ 0 → ahead_at of there qs link ≡ 0
  nothing-ahead qs link e = none-of of (ahead (there link) (queue_at qs link)) (ahead-unsent (there link) (queue_at qs link) e)

  completed-less : (qs : WholeQueues) (link number : ℕ) → links ≡ length qs.links
      → total (whole.completed qs link (Some number)) + ahead_at of there qs link ≡ total qs
  completed-less qs link number fits =
      all-less of there links qs link (emptied (queue_at qs link)) (whole.completed qs link (Some number)) (ahead_at of there qs link) refl (omega (arith, fits))
      (ap (λ (k : ℕ). k + ahead_at of there qs link) (none-of of (ahead (there link) (emptied (queue_at qs link))) (ahead-unsent (there link) (emptied (queue_at qs link)) refl)) ∙ first (ahead_at of there qs link))
      (λ past. nothing-ahead qs link (by-none qs link (omega (arith, fits, past))))
    where
      first : (n : ℕ) → 0 + n ≡ n
      first n = omega arith

  completed-queues : (qs : WholeQueues) (link number : ℕ) → AreQueues w qs → AreQueues w (whole.completed qs link (Some number))
  completed-queues qs link number h =
      record { each = λ other. each-set (IsQueue w) qs.links link other (emptied (queue_at qs link)) first_queue h.each (sound-emptied w (queue_at qs link) (h.each link).limit) }

  less-none : (n k s : ℕ) → n ≤ s → s ≡ 0 → n - k ≡ 0
  less-none n k s e f = omega (arith, e, f)

  -- what goes is what is ahead
  goes-ahead : (qs : WholeQueues) (link number n : ℕ) → AreQueues w qs → named_count (queue_at qs link) number ≡ Some n
      → ((n ≡ there link) × ((queue_at qs link).confirmed ≤ there link) × (there link ≤ (queue_at qs link).sent)) ⊎ ((queue_at qs link).sent ≡ 0)
      → users_that of (gone_by_completion true link (Some number) qs).accepted ≡ ahead_at of there qs link
  goes-ahead qs link number n h e (inl t) =
      let q : Queue = queue_at qs link in
      ap (λ (o : Option ℕ). users_that of (take (count_in_the_end q o - q.confirmed) (unconfirmed q))) e
      ∙ ap (λ (k : ℕ). users_that of (take (k - q.confirmed) (unconfirmed q))) t.0 ∙ ap (users_that of) (ahead-named (there link) q t.2)
  goes-ahead qs link number n h e (inr none) =
      let q : Queue = queue_at qs link in
      let names : Names q number n = (finds_named w q number n (h.each link)).0 e in
      ap (λ (o : Option ℕ). users_that of (take (count_in_the_end q o - q.confirmed) (unconfirmed q))) e
      ∙ ap (λ (k : ℕ). users_that of (take k (unconfirmed q))) (less-none n q.confirmed q.sent names.to_sent none) ∙ sym (nothing-ahead qs link none)

  three : (a b d e k : ℕ) → b + d ≡ a → e ≡ b → k ≡ d → a ≡ e + k
  three a b d e k f g h = omega (arith, f, g, h)

  ends-lets : (Said : (link number : ℕ) → Type 0) (qs : WholeQueues) (m : Node WholeQueues) (link number : ℕ) → AreQueues w qs → links ≡ length qs.links → NamesIt Said qs → Said link number
      → AreGrown (whole.completed qs link (Some number)) m.queues → (o : Option ℕ) → accepted_count (queue_at qs link) (Some number) ≡ o → is_some o ≡ true
      → total qs ≡ total m.queues + users_that of (gone_by_completion true link (Some number) qs).accepted
  ends-lets Said qs m link number h fits names said e None f some = absurd cc
  ends-lets Said qs m link number h fits names said e (Some n) f some =
      let done : WholeQueues = whole.completed qs link (Some number) in
      three (total qs) (total done) (ahead_at of there qs link) (total m.queues) (users_that of (gone_by_completion true link (Some number) qs).accepted)
      (completed-less qs link number fits) (all-grown of there links done m.queues (completed-queues qs link number h) e) (goes-ahead qs link number n h f (names link number n said f))

  no-doubt : (k : ℕ) → k ≡ 0 → 0 < k → ⊥
  no-doubt k e f = omega (arith, e, f)

  does-lets : (Said : (link number : ℕ) → Type 0) (qs : WholeQueues) (m : Node WholeQueues) (g : Gone) → AreQueues w qs → links ≡ length qs.links → NamesIt Said qs → g.doubts ≡ 0
      → Does Said qs m g → total qs ≡ total m.queues + users_that of g.accepted
  does-lets Said qs m g h fits names kept (grows e none unlost) = sym (all-grown of there links qs m.queues h e) ∙ none-more (total m.queues) (users_that of g.accepted) (none-of of g.accepted none)
  does-lets Said qs m g h fits names kept (ends link number said e sure is) =
      ends-lets Said qs m link number h fits names said e (accepted_count (queue_at qs link) (Some number)) refl sure
      ∙ ap (λ (x : Gone). total m.queues + users_that of x.accepted) (sym is)
  does-lets Said qs m g h fits names kept (loses l) = absurd (no-doubt g.doubts kept l)

  -- ---- a frame

  -- what it confirms
  confirm-sum : (q : Queue) (is_message : Bool) (count k : ℕ) → q.confirmed + count ≤ k → q.confirmed + count ≤ q.sent
      → users_that of (ahead k (after_answer q is_message (Ok count))) + users_that of (take count (unconfirmed q)) ≡ users_that of (ahead k q)
  confirm-sum q is_message count k e f =
      turn (users_that of (take count (unconfirmed q))) (users_that of (ahead k (after_answer q is_message (Ok count)))) (users_that of (ahead k q))
      (ap (users_that of) (ahead-confirmed k q is_message count e f) ∙ append of (take count (unconfirmed q)) (ahead k (after_answer q is_message (Ok count))))
    where
      turn : (a b s : ℕ) → s ≡ a + b → b + a ≡ s
      turn a b s e = omega (arith, e)

  module _ (c : Configuration) (link : ℕ) (o : Option Message) (qs : WholeQueues) (m : Node WholeQueues) (ms : List Message) (g : Gone) (h : AreQueues w qs) (fits : links ≡ length qs.links)
      (names : Named (SaysWord c o) qs) (kept : g.doubts ≡ 0) (bound : (queue_at m.queues link).confirmed ≤ there link) where
    module _ (d : Carrying) (count : ℕ) (next : WholeQueues) (e : AreGrown qs next) (numbered : accept_answer (queue_at next link) d.fsn d.bsn (carries d) ≡ Ok count) where
      abbrev q : Queue
      q = queue_at next link

      abbrev p : Queue
      p = accepted q d.fsn d.bsn (carries d)

      abbrev took : WholeQueues
      took = whole.accepted next link d.fsn d.bsn (carries d)

      next-queues : AreQueues w next
      next-queues = grown-queues qs next h e

      next-fits : links ≡ length next.links
      next-fits = fits ∙ sym e.size

      took-fits : links ≡ length took.links
      took-fits = next-fits ∙ sym (length-set next.links link p)

      p-is : p ≡ after_answer q (carries d) (Ok count)
      p-is = ap (after_answer q (carries d)) numbered

      p-queue : IsQueue w p
      p-queue = sound-accepted q d.fsn d.bsn (carries d) (next-queues.each link)

      took-queues : AreQueues w took
      took-queues = record { each = λ other. each-set (IsQueue w) next.links link other p first_queue next-queues.each p-queue }

      took-other : (other : ℕ) → other ≢ link → queue_at took other ≡ queue_at next other
      took-other other apart = get_or-set_other next.links link other p first_queue apart

      took-here : link < length next.links → queue_at took link ≡ p
      took-here less = get_or-set_same next.links link p first_queue less

      took-past : length next.links ≤ link → queue_at took link ≡ first_queue
      took-past past = get_or_past (slice_set next.links link p) link first_queue (subst (λ (n : ℕ). n ≤ link) (sym (length-set next.links link p)) past)

      within-sent : q.confirmed + count ≤ q.sent
      within-sent = subst (λ (x : Queue). x.confirmed ≤ x.sent) p-is p-queue.confirmed

      zero-sent : (a b s k : ℕ) → a + b ≤ s → s ≡ 0 → a + b ≤ k
      zero-sent a b s k e f = omega (arith, e, f)

      -- what was confirmed is within what was received, if it is so once it was accepted
      from-took : (queue_at took link).confirmed ≤ there link → q.confirmed + count ≤ there link
      from-took less =
          ⊎_elim
          (λ (inside : link < length next.links). subst (λ (x : Queue). x.confirmed ≤ there link) (took-here inside ∙ p-is) less)
          (λ (past : length next.links ≤ link). zero-sent q.confirmed count q.sent (there link) within-sent (ap (λ (x : Queue). x.sent) (get_or_past next.links link first_queue past)))
          (cases_lt link (length next.links))

      from-left : (rs : WholeQueues) → AreGrown rs m.queues → queue_at rs link ≡ queue_at took link → (queue_at took link).confirmed ≤ there link
      from-left rs e same = subst (λ (n : ℕ). n ≤ there link) (ap (λ (x : Queue). x.confirmed) ((e.each link).grown) ∙ ap (λ (x : Queue). x.confirmed) same) bound

      -- the numbers of queues as they were name what they name now
      record Kept (other : ℕ) : Type 0 where
        base : (queue_at took other).base ≡ (queue_at qs other).base
        sent : (queue_at took other).sent ≡ (queue_at qs other).sent
        more : (queue_at qs other).confirmed ≤ (queue_at took other).confirmed

      no-less : (n : ℕ) → n ≤ n
      no-less n = omega arith

      one-less : (a b count : ℕ) → a ≡ b → b ≤ a + count
      one-less a b count e = omega (arith, e)

      grown-kept : (other : ℕ) → queue_at took other ≡ queue_at next other → Kept other
      grown-kept other same = record {
        base = ap (λ (x : Queue). x.base) (same ∙ (e.each other).grown);
        sent = ap (λ (x : Queue). x.sent) (same ∙ (e.each other).grown);
        more = subst (λ (n : ℕ). (queue_at qs other).confirmed ≤ n) (sym (ap (λ (x : Queue). x.confirmed) (same ∙ (e.each other).grown))) (no-less (queue_at qs other).confirmed);
      }

      here-kept : Kept link
      here-kept =
          ⊎_elim
          (λ (inside : link < length next.links).
          (let is : queue_at took link ≡ after_answer q (carries d) (Ok count) = took-here inside ∙ p-is in
          record {
            base = ap (λ (x : Queue). x.base) is ∙ ap (λ (x : Queue). x.base) (e.each link).grown;
            sent = ap (λ (x : Queue). x.sent) is ∙ ap (λ (x : Queue). x.sent) (e.each link).grown;
            more =
                subst (λ (n : ℕ). (queue_at qs link).confirmed ≤ n) (sym (ap (λ (x : Queue). x.confirmed) is))
                (one-less q.confirmed (queue_at qs link).confirmed count (ap (λ (x : Queue). x.confirmed) (e.each link).grown));
          }))
          (λ (past : length next.links ≤ link). grown-kept link (took-past past ∙ sym (get_or_past next.links link first_queue past)))
          (cases_lt link (length next.links))

      kept-at : (other : ℕ) → Kept other
      kept-at other = ⊎_elim (λ (same : other ≡ link). subst Kept (sym same) here-kept) (λ apart. grown-kept other (took-other other apart)) (cases_eq other link)

      -- so what a word names now was received
      now-named : NamesIt (SaysWord c o) took
      now-named other number n said found =
          ⊎_elim
          (λ (e : named_count (queue_at qs other) number ≡ Some (there other)).
          inl (still-named (queue_at qs other) (queue_at took other) number (there other) n (h.each other) (took-queues.each other) (kept-at other).base (kept-at other).sent (kept-at other).more e found))
          (λ (none : (queue_at qs other).sent ≡ 0). inr ((kept-at other).sent ∙ none))
          (names other number said)

      zero-less : (a s k : ℕ) → a ≤ s → s ≡ 0 → a ≤ k
      zero-less a s k e f = omega (arith, e, f)

      -- what was confirmed was received: the queue is still there, or its changeover ended by what was received
      took-bound : Does (SaysWord c o) took m g → (queue_at took link).confirmed ≤ there link
      took-bound (grows e none unlost) = from-left took e refl
      took-bound (ends other number said e sure is) =
          ⊎_elim
          (λ (same : other ≡ link). subst (λ (k : ℕ). (queue_at took k).confirmed ≤ there k) same (ended other number said (accepted_count (queue_at took other) (Some number)) refl sure))
          (λ (apart : other ≢ link).
          from-left (whole.completed took other (Some number)) e (get_or-set_other took.links other link (emptied (queue_at took other)) first_queue (λ same. apart (sym same))))
          (cases_eq other link)
        where
          ended : (other number : ℕ) → SaysWord c o other number → (x : Option ℕ) → accepted_count (queue_at took other) (Some number) ≡ x → is_some x ≡ true → (queue_at took other).confirmed ≤ there other
          ended other number said None e sure = absurd cc
          ended other number said (Some n) e sure =
              ⊎_elim (λ (t : (n ≡ there other) × ((queue_at took other).confirmed ≤ there other) × (there other ≤ (queue_at took other).sent)). t.1)
              (λ (none : (queue_at took other).sent ≡ 0). zero-less (queue_at took other).confirmed (queue_at took other).sent (there other) (took-queues.each other).confirmed none)
              (now-named other number n said e)
      took-bound (loses l) = absurd (no-doubt g.doubts kept l)

      confirmed-past : ms ≡ take count (unconfirmed q) → links ≤ link → users_that of ms ≡ 0
      confirmed-past e past =
          none-of of ms (e ∙ ap (λ (x : Queue). take count (unconfirmed x)) (get_or_past next.links link first_queue (subst (λ (n : ℕ). n ≤ link) next-fits past)) ∙ take-none count)

      confirmed-less : ms ≡ take count (unconfirmed q) → (queue_at took link).confirmed ≤ there link → total took + users_that of ms ≡ total next
      confirmed-less e less =
          all-less of there links next link p took (users_that of ms) refl (omega (arith, next-fits))
          (ap (λ (x : Queue). users_that of (ahead (there link) x) + users_that of ms) p-is
          ∙ ap (λ (xs : List Message). users_that of (ahead (there link) (after_answer q (carries d) (Ok count))) + users_that of xs) e
          ∙ confirm-sum q (carries d) count (there link) (from-took less) within-sent)
          (confirmed-past e)

    frame-sum : (a b t v n k : ℕ) → n ≡ a → b + k ≡ n → b ≡ t + v → a ≡ t + (k + v)
    frame-sum a b t v n k e f g = omega (arith, e, f, g)

    pub frame-lets : Comes c link o qs m ms g → total qs ≡ total m.queues + (users_that of ms + users_that of g.accepted)
    frame-lets (quiet e none also unlost) = sym (all-grown of there links qs m.queues h e) ∙ both-none (total m.queues) (users_that of ms) (users_that of g.accepted) (none-of of ms none) (none-of of g.accepted also)
      where
        both-none : (n k l : ℕ) → k ≡ 0 → l ≡ 0 → n ≡ n + (k + l)
        both-none n k l e f = omega (arith, e, f)
    frame-lets (takes d count next e numbered is does) =
        frame-sum (total qs) (total (took d count next e numbered)) (total m.queues) (users_that of g.accepted) (total next) (users_that of ms)
        (all-grown of there links qs next h e) (confirmed-less d count next e numbered is (took-bound d count next e numbered does))
        (does-lets (SaysWord c o) (took d count next e numbered) m g (took-queues d count next e numbered) (took-fits d count next e numbered) (now-named d count next e numbered) kept does)

  -- ---- a link opens

  pub opens-lets : (link : ℕ) (qs rs : WholeQueues) → AreQueues w qs → links ≡ length qs.links → Opens link qs rs → total rs ≡ total qs
  opens-lets link qs rs h fits (stays e) = all-grown of there links qs rs h e
  opens-lets link qs rs h fits (opens empty e) =
      let started : WholeQueues = whole.started qs link in
      let queues : AreQueues w started =
      record { each = λ other. each-set (IsQueue w) qs.links link other first_queue first_queue h.each (sound-first w (h.each link).limit) } in
      all-grown of there links started rs queues e
      ∙ none-more (total started) 0 refl
      ∙ all-less of there links qs link first_queue started 0 refl (omega (arith, fits))
      (ap (λ (k : ℕ). k + 0) (none-of of (ahead (there link) first_queue) (ahead-unsent (there link) first_queue refl)) ∙ sym (nothing-ahead qs link (unsent (queue_at qs link) (h.each link) empty)))
      (λ past. refl)
