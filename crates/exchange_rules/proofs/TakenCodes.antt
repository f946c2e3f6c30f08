-- A link takes its flows back from one other link after another: which codes are used, and what goes to the queues.
use Rattle.exchange_rules.proofs.Basics.{◌≡◌, ◌≢◌, ◌<◌, ◌≤◌, ◌⊎◌, ℕ, zero, suc, Bool, true, false, [], length, nat_eq, Option, Some, None, refl, ap, sym, ◌∙◌, subst, arith, inl, inr, if◌then◌else◌, ⊎_elim, cases_eq, eqb-true, leb-true, nat_tests, get_or-set_other, length-set}
use Rattle.exchange_rules.proofs.Definitions.{is_management, Cause, ManagementFull, MANAGEMENT_MESSAGES, Configuration, first_queue, appended, Facts, codes_of, free_code, is_outstanding, Node, set_of, no_room, WholeQueues, queue_at, whole, declaration, loses_flows, if_room, usable, code_for, hold_flows, take_back_each}
use Rattle.std.proofs.Common.{nat_le}
use Rattle.exchange_rules.proofs.AwaitedCodes.{outstanding-other, outstanding-stays, IsFree, is-free}

no : {A : Type 0} → false ≡ true → A
no e = absurd cc

-- ---- one other link

module _ (c : Configuration) (before after : Facts) (link : ℕ) where
  abbrev set : ℕ
  set = set_of c link

  -- the rule about one other link, by whether it loses flows
  abbrev step : Bool → (other : ℕ) → Node WholeQueues → Node WholeQueues
  step b other m = if b then hold_flows whole c before after (code_for whole c link other m) link other m else m

  step-awaits : (b : Bool) (other : ℕ) (m : Node WholeQueues) (s code : ℕ) → is_outstanding m.parts.codes s code ≡ true → is_outstanding (step b other m).parts.codes s code ≡ true
  step-awaits true other m s code e = by-code (code_for whole c link other m)
    where
      by-code : (o : Option ℕ) → is_outstanding (hold_flows whole c before after o link other m).parts.codes s code ≡ true
      by-code (Some used) = outstanding-stays m.parts.codes set used s code e
      by-code None = e
  step-awaits false other m s code e = e

  step-queue : (b : Bool) (other : ℕ) (m : Node WholeQueues) (x : ℕ) → x ≢ other → queue_at (step b other m).queues x ≡ queue_at m.queues x
  step-queue true other m x apart = by-code (code_for whole c link other m)
    where
      by-code : (o : Option ℕ) → queue_at (hold_flows whole c before after o link other m).queues x ≡ queue_at m.queues x
      by-code (Some code) = get_or-set_other m.queues.links other x (appended (queue_at m.queues other) (declaration c link code)) first_queue apart
      by-code None = refl
  step-queue false other m x apart = refl

  step-length : (b : Bool) (other : ℕ) (m : Node WholeQueues) → length (step b other m).queues.links ≡ length m.queues.links
  step-length true other m = by-code (code_for whole c link other m)
    where
      by-code : (o : Option ℕ) → length (hold_flows whole c before after o link other m).queues.links ≡ length m.queues.links
      by-code (Some code) = length-set m.queues.links other (appended (queue_at m.queues other) (declaration c link code))
      by-code None = refl
  step-length false other m = refl

  -- ---- all of them

  module _ (n : Node WholeQueues) where
    -- the node when n links have given their flows back
    abbrev pub at : ℕ → Node WholeQueues
    at many = take_back_each whole c before after link many n

    pub at-first : at 0 ≡ n
    unfolding take_back_each
    at-first = refl

    -- what holds of each step holds of several
    later : (R : Node WholeQueues → Node WholeQueues → Type 0) → ((m : Node WholeQueues) → R m m) → ((l m o : Node WholeQueues) → R l m → R m o → R l o) → (from : ℕ)
        → ((other : ℕ) → from ≤ other → R (at other) (step (loses_flows c before after other link) other (at other))) → (many : ℕ) → from ≤ many → R (at from) (at many)
    unfolding take_back_each
    later R same more from each zero l =
        let e : from ≡ 0 = omega (arith, l) in
        subst (λ (k : ℕ). R (at k) (at 0)) (sym e) (same (at 0))
    later R same more from each (suc other) l =
        ⊎_elim
        (λ (e : from ≡ suc other). subst (λ (k : ℕ). R (at k) (at (suc other))) (sym e) (same (at (suc other))))
        (λ (d : from ≢ suc other). more (at from) (at other) (at (suc other)) (later R same more from each other (omega (arith, l, d))) (each other (omega (arith, l, d))))
        (cases_eq from (suc other))

    pub awaits_later : (from many s code : ℕ) → from ≤ many → is_outstanding (at from).parts.codes s code ≡ true → is_outstanding (at many).parts.codes s code ≡ true
    awaits_later from many s code l =
        later (λ m o. is_outstanding m.parts.codes s code ≡ true → is_outstanding o.parts.codes s code ≡ true) (λ m e. e) (λ k m o f g e. g (f e)) from
        (λ other h. step-awaits (loses_flows c before after other link) other (at other) s code) many l

    pub queue_later : (from many x : ℕ) → from ≤ many → x < from → queue_at (at many).queues x ≡ queue_at (at from).queues x
    queue_later from many x l below =
        later (λ m o. queue_at o.queues x ≡ queue_at m.queues x) (λ m. refl) (λ k m o f g. g ∙ f) from
        (λ other h. step-queue (loses_flows c before after other link) other (at other) x (λ e. omega (arith, h, below, e))) many l

    pub queue_before : (many x : ℕ) → many ≤ x → queue_at (at many).queues x ≡ queue_at n.queues x
    unfolding take_back_each
    queue_before zero x l = refl
    queue_before (suc other) x l =
        step-queue (loses_flows c before after other link) other (at other) x (λ e. omega (arith, l, e)) ∙ queue_before other x (omega (arith, l))

    pub queues_stay : (many : ℕ) → length (at many).queues.links ≡ length n.queues.links
    unfolding take_back_each
    queues_stay zero = refl
    queues_stay (suc other) = step-length (loses_flows c before after other link) other (at other) ∙ queues_stay other

    -- ---- what is chosen for a link that loses flows

    -- the node when that link gave its flows back
    pub at-next : (other : ℕ) → loses_flows c before after other link ≡ true → at (suc other) ≡ hold_flows whole c before after (code_for whole c link other (at other)) link other (at other)
    unfolding take_back_each
    at-next other e = ap (λ (b : Bool). step b other (at other)) e

    pub at-same : (other : ℕ) → loses_flows c before after other link ≡ false → at (suc other) ≡ at other
    unfolding take_back_each
    at-same other e = ap (λ (b : Bool). step b other (at other)) e

    -- a code: both links are of one set, and it is the least that is free
    pub record IsUsable (other code : ℕ) (m : Node WholeQueues) : Type 0 where
      pub same : set_of c other ≡ set
      pub there : code < length (codes_of m.parts.codes set)
      pub free : is_outstanding m.parts.codes set code ≡ false
      pub least : free_code m.parts.codes set ≡ Some code

    abbrev some-code : Option ℕ → ℕ
    some-code (Some code) = code
    some-code None = 0

    usable-so : (other code : ℕ) (m : Node WholeQueues) (b : Bool) (o : Option ℕ) → nat_eq (set_of c other) set ≡ b → free_code m.parts.codes set ≡ o
        → (if b then usable whole c link o m else None) ≡ Some code → IsUsable other code m
    usable-so other code m true (Some found) same free e =
        let its : found ≡ code = room-so (no_room whole c (declaration c link found) m.queues) e in
        let least : free_code m.parts.codes set ≡ Some code = free ∙ ap (λ (k : ℕ). Some k) its in
        let f : IsFree m.parts.codes set code = is-free m.parts.codes set code least in
        record { same = eqb-true (set_of c other) set same; there = f.there; free = f.free; least = least }
      where
        room-so : (cause : Option Cause) → if_room cause found ≡ Some code → found ≡ code
        room-so None e = ap some-code e
        room-so (Some cause) e = absurd cc
    usable-so other code m true None same free e = absurd cc
    usable-so other code m false o same free e = absurd cc

    pub is_usable : (other code : ℕ) (m : Node WholeQueues) → code_for whole c link other m ≡ Some code → IsUsable other code m
    is_usable other code m e = usable-so other code m (nat_eq (set_of c other) set) (free_code m.parts.codes set) refl refl e

    -- none: the links are of different sets, no code is free, or management has no room
    abbrev pub WhyNone : (other : ℕ) → Node WholeQueues → Type 0
    WhyNone other m = (set_of c other ≢ set) ⊎ ((free_code m.parts.codes set ≡ None) ⊎ (MANAGEMENT_MESSAGES ≤ whole.managements m.queues))

    declares-management : (code : ℕ) → is_management (declaration c link code) ≡ true
    declares-management code = grind (arith, nat_tests)

    full-so : (b : Bool) (other code : ℕ) (m : Node WholeQueues) → nat_le MANAGEMENT_MESSAGES (whole.managements m.queues) ≡ b → if_room (if b then Some ManagementFull else None) code ≡ None → WhyNone other m
    full-so true other code m full e = inr (inr (leb-true MANAGEMENT_MESSAGES (whole.managements m.queues) full))
    full-so false other code m full e = absurd cc

    why-so : (other : ℕ) (m : Node WholeQueues) (b : Bool) (o : Option ℕ) → nat_eq (set_of c other) set ≡ b → free_code m.parts.codes set ≡ o
        → (if b then usable whole c link o m else None) ≡ None → WhyNone other m
    why-so other m true (Some code) same free e =
        full-so (nat_le MANAGEMENT_MESSAGES (whole.managements m.queues)) other code m refl
        (sym (ap (λ (b : Bool). if_room (if b then (if nat_le MANAGEMENT_MESSAGES (whole.managements m.queues) then Some ManagementFull else None) else no_room-user) code) (declares-management code)) ∙ e)
      where
        no_room-user : Option Cause
        no_room-user = no_room whole c (record { sio = 4; sif = [] }) m.queues
    why-so other m true None same free e = inr (inl free)
    why-so other m false o same free e = inl (λ s. apart s)
      where
        apart : set_of c other ≡ set → ⊥
        apart s = no (sym same ∙ grind (arith, nat_tests, s))

    pub why_none : (other : ℕ) (m : Node WholeQueues) → code_for whole c link other m ≡ None → WhyNone other m
    why_none other m e = why-so other m (nat_eq (set_of c other) set) (free_code m.parts.codes set) refl refl e

    -- ---- other codes

    pub codes_at : (many s code : ℕ) → ((other : ℕ) → other < many → loses_flows c before after other link ≡ true → s ≡ set → code_for whole c link other (at other) ≡ Some code → ⊥)
        → is_outstanding (at many).parts.codes s code ≡ is_outstanding n.parts.codes s code
    unfolding take_back_each
    codes_at zero s code apart = refl
    codes_at (suc other) s code apart =
        one (loses_flows c before after other link) refl ∙ codes_at other s code (λ o l. apart o (omega (arith, l)))
      where
        by-code : (o : Option ℕ) → code_for whole c link other (at other) ≡ o → loses_flows c before after other link ≡ true
            → is_outstanding (hold_flows whole c before after o link other (at other)).parts.codes s code ≡ is_outstanding (at other).parts.codes s code
        by-code (Some used) e loses = outstanding-other (at other).parts.codes set used s code (λ same k. apart other (omega arith) loses same (e ∙ ap (λ (x : ℕ). Some x) (sym k)))
        by-code None e loses = refl

        one : (b : Bool) → loses_flows c before after other link ≡ b → is_outstanding (step b other (at other)).parts.codes s code ≡ is_outstanding (at other).parts.codes s code
        one true loses = by-code (code_for whole c link other (at other)) refl loses
        one false loses = refl
