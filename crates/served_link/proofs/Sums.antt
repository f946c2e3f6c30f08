-- Each counter is the sum of what was added to it.
use Rattle.served_link.proofs.Basics.{◌≡◌, ◌≢◌, ℕ, ◌+◌, ◌-◌, ◌<◌, ◌≤◌, ◌==◌, ◌⊎◌, ◌∙◌, Bool, true, false, inl, inr, List, [], ◌∷◌, length, get_or, replicate, refl, sym, ap, subst, arith, get_or-set_same, get_or-set_other, eqb_tells, slice_index, sum_by, Outcome}
use Rattle.std.proofs.Math.ListN.{set, length-set, length-replicate, get_or-replicate}
use Rattle.std.proofs.lemmas.List.Sums.{sum_by-cons}
use Rattle.signalling_types.specs.Causes.{cause_number}
use Rattle.signalling_types.specs.declared.cause.Cause.{Cause}
use Rattle.signalling_types.specs.declared.cause.Cause.TheVariants.{WrongNetwork}
use Rattle.signalling_types.specs.declared.notice.FailureReason.{FailureReason}
use Rattle.signalling_types.specs.declared.notice.FailureReason.TheVariants.{Association}
use Rattle.signalling_types.specs.declared.outcome.Outcome.TheVariants.{Queued, Held, Local, Refused}
use Rattle.served_link.specs.Counting.{Counted, FrameCame, FrameWent, Failure, Retry, WasSetBack, WentAgain, reason_number, setback_number, saturated, no_counts, one_more_at, counted, row_counted_at, row_at, value_of}
use Rattle.served_link.specs.Laws.{one_if, frame_adds, adds, counted_each, counted_all, adds_of}
use Rattle.served_link.specs.declared.counter.TheConstants.{CAUSES, REASONS}
use Rattle.served_link.specs.declared.setback.TheConstants.{SETBACKS}
use Rattle.served_link.specs.declared.setback.Setback.{Setback}
use Rattle.served_link.specs.declared.setback.Setback.TheVariants.{OtherPort}
use Rattle.served_link.specs.declared.counter.Counter.{Counter}
use Rattle.served_link.specs.declared.counter.Counter.TheVariants.{FramesIn, OctetsIn, FramesOut, OctetsOut, Forwarded, Delivered, Refused as RefusedBy, Failed, Retries, Setbacks, Retransmissions}
use Rattle.served_link.specs.declared.row.LinkCounters.{LinkCounters}

-- ---- numbers

more : (v s n : ℕ) → v ≡ saturated s → saturated (v + n) ≡ saturated (s + n)
more v s n e = omega (arith, e)

stays : (v s : ℕ) → v ≡ saturated s → v ≡ saturated (s + 0)
stays v s e = omega (arith, e)

cause-fits : (cause : Cause) → (1 ≤ cause_number cause) × (cause_number cause ≤ CAUSES)
cause-fits WrongNetwork = (omega arith, omega arith)
cause-fits cause = (omega arith, omega arith)

reason-fits : (reason : FailureReason) → reason_number reason < REASONS
reason-fits Association = omega arith
reason-fits reason = omega arith

setback-fits : (setback : Setback) → setback_number setback < SETBACKS
setback-fits OtherPort = omega arith
setback-fits setback = omega arith

-- ---- counts in a list

at-place : (xs : List ℕ) (i j s : ℕ) (b : Bool) → ((b ≡ true) × (i ≡ j)) ⊎ ((b ≡ false) × (i ≢ j)) → i < length xs → slice_index xs j ≡ saturated s
    → slice_index (one_more_at i xs) j ≡ saturated (s + one_if b)
at-place xs i j s b (inl h) lt e =
    let x = saturated (get_or xs i 0 + 1) in
    let was : get_or xs i 0 ≡ saturated s = ap (λ (k : ℕ). get_or xs k 0) h.1 ∙ e in
    ap (λ (k : ℕ). get_or (set xs i x) k 0) (sym h.1) ∙ get_or-set_same xs i x 0 lt ∙ more (get_or xs i 0) s 1 was
    ∙ ap (λ (t : Bool). saturated (s + one_if t)) (sym h.0)
at-place xs i j s b (inr h) lt e =
    let x = saturated (get_or xs i 0 + 1) in
    get_or-set_other xs i j x 0 (λ same. h.1 (sym same)) ∙ stays (get_or xs j 0) s e ∙ ap (λ (t : Bool). saturated (s + one_if t)) (sym h.0)

cause-test : (a b : Cause) → ((cause_number a == cause_number b ≡ true) × (cause_number a - 1 ≡ cause_number b - 1)) ⊎ ((cause_number a == cause_number b ≡ false) × (cause_number a - 1 ≢ cause_number b - 1))
cause-test a b =
    elim (eqb_tells (cause_number a) (cause_number b)) [
      | inl h ↦ inl (h.0, ap (λ (n : ℕ). n - 1) h.1)
      | inr h ↦ inr (h.0, λ same. h.1 (omega (arith, same, (cause-fits a).0, (cause-fits b).0)))
    ]

-- ---- one thing more is counted

record IsRow (row : LinkCounters) : Type 0 where
  refused : length row.refused ≡ CAUSES
  failed : length row.failed ≡ REASONS
  setbacks : length row.setbacks ≡ SETBACKS

first-row : IsRow no_counts
first-row = record { refused = length-replicate {A = ℕ} CAUSES 0; failed = length-replicate {A = ℕ} REASONS 0; setbacks = length-replicate {A = ℕ} SETBACKS 0 }

frame-kept : (octets : ℕ) (user : Bool) (outcome : Outcome) (row : LinkCounters) → IsRow row → IsRow (counted (FrameCame octets user outcome) row)
frame-kept octets user (Refused cause) row h = record { refused = length-set row.refused _ _ ∙ h.refused; failed = h.failed; setbacks = h.setbacks }
frame-kept octets user outcome row h = record { refused = h.refused; failed = h.failed; setbacks = h.setbacks }

row-kept : (what : Counted) (row : LinkCounters) → IsRow row → IsRow (counted what row)
row-kept (FrameCame octets user outcome) row h = frame-kept octets user outcome row h
row-kept (FrameWent octets) row h = record { refused = h.refused; failed = h.failed; setbacks = h.setbacks }
row-kept (Failure reason) row h = record { refused = h.refused; failed = length-set row.failed _ _ ∙ h.failed; setbacks = h.setbacks }
row-kept Retry row h = record { refused = h.refused; failed = h.failed; setbacks = h.setbacks }
row-kept (WasSetBack setback) row h = record { refused = h.refused; failed = h.failed; setbacks = length-set row.setbacks _ _ ∙ h.setbacks }
row-kept (WentAgain chunks) row h = record { refused = h.refused; failed = h.failed; setbacks = h.setbacks }

frame-adds : (counter : Counter) (octets : ℕ) (user : Bool) (outcome : Outcome) (row : LinkCounters) (s : ℕ) → IsRow row → value_of counter row ≡ saturated s
    → value_of counter (counted (FrameCame octets user outcome) row) ≡ saturated (s + frame_adds counter octets user outcome)
frame-adds FramesIn octets user (Queued link) row s h e = more row.frames_in s 1 e
frame-adds FramesIn octets user outcome row s h e = more row.frames_in s 1 e
frame-adds OctetsIn octets user (Queued link) row s h e = more row.octets_in s octets e
frame-adds OctetsIn octets user outcome row s h e = more row.octets_in s octets e
frame-adds FramesOut octets user (Queued link) row s h e = stays row.frames_out s e
frame-adds FramesOut octets user outcome row s h e = stays row.frames_out s e
frame-adds OctetsOut octets user (Queued link) row s h e = stays row.octets_out s e
frame-adds OctetsOut octets user outcome row s h e = stays row.octets_out s e
frame-adds Forwarded octets true (Queued link) row s h e = more row.forwarded s 1 e
frame-adds Forwarded octets true Held row s h e = more row.forwarded s 1 e
frame-adds Forwarded octets false (Queued link) row s h e = stays row.forwarded s e
frame-adds Forwarded octets false Held row s h e = stays row.forwarded s e
frame-adds Forwarded octets user outcome row s h e = stays row.forwarded s e
frame-adds Delivered octets user Local row s h e = more row.delivered s 1 e
frame-adds Delivered octets user outcome row s h e = stays row.delivered s e
frame-adds (RefusedBy cause) octets user (Refused other) row s h e =
    at-place row.refused (cause_number other - 1) (cause_number cause - 1) s (cause_number other == cause_number cause) (cause-test other cause)
    (omega (arith, h.refused, (cause-fits other).0, (cause-fits other).1)) e
frame-adds (RefusedBy cause) octets user outcome row s h e = stays (slice_index row.refused (cause_number cause - 1)) s e
frame-adds (Failed reason) octets user (Queued link) row s h e = stays (slice_index row.failed (reason_number reason)) s e
frame-adds (Failed reason) octets user outcome row s h e = stays (slice_index row.failed (reason_number reason)) s e
frame-adds Retries octets user (Queued link) row s h e = stays row.retries s e
frame-adds Retries octets user outcome row s h e = stays row.retries s e
frame-adds (Setbacks setback) octets user (Queued link) row s h e = stays (slice_index row.setbacks (setback_number setback)) s e
frame-adds (Setbacks setback) octets user outcome row s h e = stays (slice_index row.setbacks (setback_number setback)) s e
frame-adds Retransmissions octets user (Queued link) row s h e = stays row.retransmissions s e
frame-adds Retransmissions octets user outcome row s h e = stays row.retransmissions s e

one-adds : (counter : Counter) (what : Counted) (row : LinkCounters) (s : ℕ) → IsRow row → value_of counter row ≡ saturated s
    → value_of counter (counted what row) ≡ saturated (s + adds counter what)
one-adds counter (FrameCame octets user outcome) row s h e = frame-adds counter octets user outcome row s h e
one-adds FramesOut (FrameWent octets) row s h e = more row.frames_out s 1 e
one-adds OctetsOut (FrameWent octets) row s h e = more row.octets_out s octets e
one-adds counter (FrameWent octets) row s h e = stays (value_of counter row) s e
one-adds (Failed reason) (Failure other) row s h e =
    at-place row.failed (reason_number other) (reason_number reason) s (reason_number other == reason_number reason) (eqb_tells (reason_number other) (reason_number reason))
    (omega (arith, h.failed, reason-fits other)) e
one-adds counter (Failure other) row s h e = stays (value_of counter row) s e
one-adds Retries Retry row s h e = more row.retries s 1 e
one-adds counter Retry row s h e = stays (value_of counter row) s e
one-adds (Setbacks setback) (WasSetBack other) row s h e =
    at-place row.setbacks (setback_number other) (setback_number setback) s (setback_number other == setback_number setback) (eqb_tells (setback_number other) (setback_number setback))
    (omega (arith, h.setbacks, setback-fits other)) e
one-adds counter (WasSetBack other) row s h e = stays (value_of counter row) s e
one-adds Retransmissions (WentAgain chunks) row s h e = more row.retransmissions s chunks e
one-adds counter (WentAgain chunks) row s h e = stays (value_of counter row) s e

-- ---- of one link

first-value : (counter : Counter) → value_of counter no_counts ≡ saturated 0
first-value (RefusedBy cause) = get_or-replicate CAUSES (cause_number cause - 1) 0 0 (omega (arith, (cause-fits cause).0, (cause-fits cause).1))
first-value (Failed reason) = get_or-replicate REASONS (reason_number reason) 0 0 (reason-fits reason)
first-value (Setbacks setback) = get_or-replicate SETBACKS (setback_number setback) 0 0 (setback-fits setback)
first-value counter = refl

each-adds : (counter : Counter) (whats : List Counted) (row : LinkCounters) (s : ℕ) → IsRow row → value_of counter row ≡ saturated s
    → value_of counter (counted_each whats row) ≡ saturated (s + sum_by (adds counter) whats)
each-adds counter [] row s h e = stays (value_of counter row) s e
each-adds counter (what ∷ whats) row s h e =
    each-adds counter whats (counted what row) (s + adds counter what) (row-kept what row h) (one-adds counter what row s h e)
    ∙ ap saturated (omega (arith, sum_by-cons (adds counter) what whats))

pub counters-sums : (counter : Counter) (whats : List Counted) → value_of counter (counted_each whats no_counts) ≡ saturated (sum_by (adds counter) whats)
counters-sums counter whats = each-adds counter whats no_counts 0 first-row (first-value counter) ∙ ap saturated (omega arith)

-- ---- of all links

record IsAt (counter : Counter) (rows : List LinkCounters) (link s : ℕ) : Type 0 where
  there : link < length rows
  row : IsRow (row_at rows link)
  value : value_of counter (row_at rows link) ≡ saturated s

at-adds : (counter : Counter) (rows : List LinkCounters) (link s : ℕ) (entry : ℕ × Counted) → IsAt counter rows link s
    → IsAt counter (row_counted_at entry.0 entry.1 rows) link (s + adds_of link counter entry)
at-adds counter rows link s entry h =
    let l = entry.0 in
    let what = entry.1 in
    let x = counted what (row_at rows l) in
    let there : link < length (set rows l x) = omega (arith, length-set rows l x, h.there) in
    elim (eqb_tells l link) [
      | inl e ↦
          (let new : get_or (set rows l x) link no_counts ≡ counted what (row_at rows link) =
          ap (λ (k : ℕ). get_or (set rows l x) k no_counts) (sym e.1) ∙ get_or-set_same rows l x no_counts (omega (arith, h.there, e.1))
          ∙ ap (λ (k : ℕ). counted what (row_at rows k)) e.1
          in
          let amount : adds counter what ≡ adds_of link counter entry = rw e.0 refl in
          record {
            there = there;
            row = subst IsRow (sym new) (row-kept what (row_at rows link) h.row);
            value = ap (value_of counter) new ∙ one-adds counter what (row_at rows link) s h.row h.value ∙ ap (λ (n : ℕ). saturated (s + n)) amount;
          })
      | inr e ↦
          (let new : get_or (set rows l x) link no_counts ≡ row_at rows link = get_or-set_other rows l link x no_counts (λ same. e.1 (sym same)) in
          let amount : 0 ≡ adds_of link counter entry = rw e.0 refl in
          record {
            there = there;
            row = subst IsRow (sym new) h.row;
            value = ap (value_of counter) new ∙ stays (value_of counter (row_at rows link)) s h.value ∙ ap (λ (n : ℕ). saturated (s + n)) amount;
          })
    ]

all-adds : (counter : Counter) (whats : List (ℕ × Counted)) (rows : List LinkCounters) (link s : ℕ) → IsAt counter rows link s
    → value_of counter (row_at (counted_all whats rows) link) ≡ saturated (s + sum_by (adds_of link counter) whats)
all-adds counter [] rows link s h = stays (value_of counter (row_at rows link)) s h.value
all-adds counter (entry ∷ whats) rows link s h =
    all-adds counter whats (row_counted_at entry.0 entry.1 rows) link (s + adds_of link counter entry) (at-adds counter rows link s entry h)
    ∙ ap saturated (omega (arith, sum_by-cons (adds_of link counter) entry whats))

pub links-sums : (links link : ℕ) (counter : Counter) (whats : List (ℕ × Counted)) → link < links
    → value_of counter (row_at (counted_all whats (replicate links no_counts)) link) ≡ saturated (sum_by (adds_of link counter) whats)
links-sums links link counter whats lt =
    let first : get_or (replicate links no_counts) link no_counts ≡ no_counts = get_or-replicate links link no_counts no_counts lt in
    all-adds counter whats (replicate links no_counts) link 0 (record {
      there = omega (arith, length-replicate links no_counts, lt);
      row = subst IsRow (sym first) first-row;
      value = ap (value_of counter) first ∙ first-value counter;
    })
    ∙ ap saturated (omega arith)
