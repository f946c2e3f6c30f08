-- Moves of messages and frames are sound.
use Rattle.pair_moves.proofs.Basics.{◌≡◌, inl, ℕ, zero, suc, Bool, true, false, ◌+◌, ◌≤◌, List, [], ◌∷◌, ◌++◌, length, drop, slice_get, count_by, refl, ap, sym, ◌∙◌, subst, arith, Some, drop-append-le}
use Rattle.pair_moves.proofs.Definitions.{Message, last_accepted, Reading, Saying, turned_reading, UserMessage, is_order, is_answer, is_untrue, is_declaration, is_confirmation, Line, Side, Pair, turned_line, unreceived, BecomeAt, with_message, Accepts, TakesOut, Keeps, Places, HandsOver, with_status, with_statuses_left, with_sent, with_heard, with_frames_left, with_accepted, SendsStatus, SendsMessage, SendsEmpty, HearsStatus, TakesStatus, DoublesStatus, Drops, TakesEmpty, TakesMessage, Flows, one_if, saying, user}
use Rattle.std.proofs.lemmas.Grind.{common_steps}
use Rattle.pair_moves.proofs.Counts.{count-append, count-one, count-first}
use Rattle.pair_moves.proofs.Words.{only-user, said}
use Rattle.pair_moves.proofs.Lines.{IsLine, serving-flows, line-message, line-status, line-empty, line-sent, line-heard, line-told}
use Rattle.pair_moves.proofs.Sound.{Sound, kept-sound, books-side}
use Rattle.pair_moves.proofs.Quiet.{SameFlags, quiet-side, quiet-line, still-true}
use Rattle.pair_moves.proofs.LinesTaken.{line-left, line-taken_empty, line-taken_message, taken_message-is}

-- ---- lists

same-message : (x m : Message) → Some x ≡ Some m → x ≡ m
same-message x m e = grind arith

pub drop-first : (ms : List Message) (n : ℕ) (m : Message) → slice_get ms n ≡ Some m → drop n ms ≡ m ∷ drop (n + 1) ms
drop-first [] n m e = grind (arith, common_steps)
drop-first (x ∷ ms) zero m e = ap (λ (y : Message). y ∷ ms) (same-message x m (grind (arith, common_steps, e)))
drop-first (x ∷ ms) (suc n) m e =
    let there : slice_get ms n ≡ Some m = grind (arith, common_steps, e) in
    let next : suc (n + 1) ≡ suc n + 1 = omega arith in
    drop-first ms n m there ∙ ap (λ (k : ℕ). m ∷ drop k (x ∷ ms)) next

pub drop-appended : (ms : List Message) (n : ℕ) (m : Message) → n ≤ length ms → drop n (ms ++ m ∷ []) ≡ drop n ms ++ m ∷ []
drop-appended ms n m l = drop-append-le n ms (m ∷ []) l

-- a message that goes after those of a queue comes after those that aren't received
pub unreceived-appended : (z : Line) (m : Message) → z.near.serving ≡ true → IsLine z → unreceived (with_message z m) ≡ unreceived z ++ m ∷ []
unreceived-appended z m serving h =
    let f : Flows z = serving-flows z h serving in
    drop-appended z.near.queue.all z.far.queue.received m (omega (arith, f.received, h.near.queue.sent))

module _ (read : Reading) (p q : Pair) where
  pub sound-accepts : Accepts read p q → Sound read p → Sound read q
  sound-accepts m h =
      let s : Side = record p.near { accepted = p.near.accepted ++ m.message ∷ []; loose = p.near.loose ++ m.message ∷ [] } in
      let is : read.there m.message ≡ UserMessage = only-user (read.there m.message) m.user in
      subst (Sound read) (sym m.after)
      (kept-sound read p (record p { near = s }) (m.message ∷ []) []
      (books-side p s (m.message ∷ []) [] (λ test. omega (arith, count-append test p.near.loose (m.message ∷ []))) (λ test. omega arith))
      (record {
        far = refl;
        given_up = refl;
        orders = λ link. omega (arith, said read.there m.message UserMessage is (is_order link));
        answers = λ link. omega (arith, said read.there m.message UserMessage is (is_answer link));
        truth = λ link. omega (arith, said read.there m.message UserMessage is (is_untrue link (p.line link).near.up (last_accepted (p.line link).near.queue)), h.there.words link);
        far_truth = λ link. h.back.words link;
        declarations = λ code. omega (arith, said read.there m.message UserMessage is (is_declaration code));
        confirmations = λ code. omega (arith, said read.there m.message UserMessage is (is_confirmation code));
        accepted = λ test. omega (arith, count-append (user read.there test) p.near.accepted (m.message ∷ []));
        received = λ test. omega arith;
      })
      h.lines h)

  pub sound-takes_out : TakesOut read p q → Sound read p → Sound read q
  sound-takes_out m h =
      subst (Sound read) (sym m.after)
      (quiet-side read p (record p.near { held = []; loose = p.near.held ++ p.near.loose }) (record { accepted = refl; received = refl; outstanding = refl; given_up = refl })
      (λ test. omega (arith, count-append test p.near.held p.near.loose)) refl h)

  pub sound-keeps : Keeps read p q → Sound read p → Sound read q
  sound-keeps m h =
      subst (Sound read) (sym m.after)
      (quiet-side read p (record p.near { loose = m.rest; held = p.near.held ++ m.message ∷ [] }) (record { accepted = refl; received = refl; outstanding = refl; given_up = refl })
      (λ test. omega (arith, count-append test p.near.held (m.message ∷ []), count-one test m.message, count-first test p.near.loose m.message m.rest m.first)) refl h)

  pub sound-places : Places read p q → Sound read p → Sound read q
  sound-places m h =
      let z : Line = p.line m.link in
      subst (Sound read) (sym m.after)
      (quiet-line read p m.link (with_message z m.message) m.lines m.set (record p.near { loose = m.rest }) (record { accepted = refl; received = refl; outstanding = refl; given_up = refl })
      (record { awaited = omega arith; far_awaited = omega arith; truth = h.there.words m.link; far_truth = h.back.words m.link })
      (line-message z m.message m.serving (h.lines m.link))
      (λ test.
      let e : count_by test (unreceived (with_message z m.message)) ≡ count_by test (unreceived z ++ m.message ∷ []) =
      ap (count_by test) (unreceived-appended z m.message m.serving (h.lines m.link)) in
      omega (arith, e, count-append test (unreceived z) (m.message ∷ []), count-one test m.message, count-first test p.near.loose m.message m.rest m.first))
      (λ test. omega arith) h)

  pub sound-hands_over : HandsOver read p q → Sound read p → Sound read q
  sound-hands_over m h =
      let s : Side = record p.near { arrived = m.heard.rest; received = p.near.received ++ m.heard.message ∷ [] } in
      let looked : (test : Saying → Bool) → count_by (saying read.back test) (m.heard.message ∷ []) ≡ one_if (test UserMessage) = said read.back m.heard.message UserMessage m.heard.says in
      subst (Sound read) (sym m.after)
      (kept-sound read p (record p { near = s }) [] (m.heard.message ∷ [])
      (books-side p s [] (m.heard.message ∷ []) (λ test. omega arith) (λ test. omega (arith, count-one test m.heard.message, count-first test p.near.arrived m.heard.message m.heard.rest m.heard.first)))
      (record {
        far = refl;
        given_up = refl;
        orders = λ link. omega (arith, looked (is_answer link));
        answers = λ link. omega (arith, looked (is_order link));
        truth = λ link. omega (arith, h.there.words link);
        far_truth = λ link. h.back.words link;
        declarations = λ code. omega (arith, looked (is_confirmation code));
        confirmations = λ code. omega (arith, looked (is_declaration code));
        accepted = λ test. omega arith;
        received = λ test. omega (arith, count-append (user read.back test) p.near.received (m.heard.message ∷ []));
      })
      h.lines h)

  -- ---- frames

  -- only the frames of a line change, and the counts of its near queue
  frames-change : (link : ℕ) (z : Line) (lines : ℕ → Line) → BecomeAt p link z lines → IsLine z → SameFlags read p link z →
      unreceived z ≡ unreceived (p.line link) → unreceived (turned_line z) ≡ unreceived (turned_line (p.line link)) →
      Sound read p → Sound read (record p { line = lines })
  frames-change link z lines set line flags there back h =
      quiet-line read p link z lines set p.near (record { accepted = refl; received = refl; outstanding = refl; given_up = refl }) flags line
      (λ test. let e : count_by test (unreceived z) ≡ count_by test (unreceived (p.line link)) = ap (count_by test) there in omega (arith, e))
      (λ test. let e : count_by test (unreceived (turned_line z)) ≡ count_by test (unreceived (turned_line (p.line link))) = ap (count_by test) back in omega (arith, e))
      h

  pub sound-sends_status : SendsStatus read p q → Sound read p → Sound read q
  sound-sends_status m h =
      subst (Sound read) (sym m.after)
      (frames-change m.link (with_status (p.line m.link)) m.lines m.set (line-status (p.line m.link) m.up (h.lines m.link))
      (record { awaited = omega arith; far_awaited = omega arith; truth = h.there.words m.link; far_truth = h.back.words m.link }) refl refl h)

  pub sound-sends_message : SendsMessage read p q → Sound read p → Sound read q
  sound-sends_message m h =
      subst (Sound read) (sym m.after)
      (frames-change m.link (with_sent (p.line m.link) m.sending) m.lines m.set
      (line-sent (p.line m.link) m.window m.sending m.small m.next m.serving (h.lines m.link))
      (record { awaited = omega arith; far_awaited = omega arith; truth = h.there.words m.link; far_truth = h.back.words m.link }) refl refl h)

  pub sound-sends_empty : SendsEmpty read p q → Sound read p → Sound read q
  sound-sends_empty m h =
      subst (Sound read) (sym m.after)
      (frames-change m.link _ m.lines m.set (line-empty (p.line m.link) m.up (h.lines m.link))
      (record { awaited = omega arith; far_awaited = omega arith; truth = h.there.words m.link; far_truth = h.back.words m.link }) refl refl h)

  pub sound-hears_status : HearsStatus read p q → Sound read p → Sound read q
  sound-hears_status m h =
      subst (Sound read) (sym m.after)
      (frames-change m.link (with_heard (p.line m.link)) m.lines m.set (line-heard (p.line m.link) m.rest m.some m.up (h.lines m.link))
      (record { awaited = omega arith; far_awaited = omega arith; truth = h.there.words m.link; far_truth = h.back.words m.link }) refl refl h)

  pub sound-takes_status : TakesStatus read p q → Sound read p → Sound read q
  sound-takes_status m h =
      subst (Sound read) (sym m.after)
      (frames-change m.link (with_statuses_left (p.line m.link) m.rest) m.lines m.set (line-told (p.line m.link) m.rest m.rest m.some (h.lines m.link))
      (record { awaited = omega arith; far_awaited = omega arith; truth = h.there.words m.link; far_truth = h.back.words m.link }) refl refl h)

  pub sound-doubles_status : DoublesStatus read p q → Sound read p → Sound read q
  sound-doubles_status m h =
      subst (Sound read) (sym m.after)
      (frames-change m.link (with_statuses_left (p.line m.link) (suc (suc m.rest))) m.lines m.set (line-told (p.line m.link) m.rest (suc (suc m.rest)) m.some (h.lines m.link))
      (record { awaited = omega arith; far_awaited = omega arith; truth = h.there.words m.link; far_truth = h.back.words m.link }) refl refl h)

  pub sound-drops : Drops read p q → Sound read p → Sound read q
  sound-drops m h =
      subst (Sound read) (sym m.after)
      (frames-change m.link (with_frames_left (p.line m.link) m.rest) m.lines m.set
      (line-left (p.line m.link) m.frame m.rest m.first m.down (h.lines m.link))
      (record { awaited = omega arith; far_awaited = omega arith; truth = h.there.words m.link; far_truth = h.back.words m.link }) refl refl h)

  pub sound-takes_empty : TakesEmpty read p q → Sound read p → Sound read q
  sound-takes_empty m h =
      subst (Sound read) (sym m.after)
      (frames-change m.link (with_accepted (p.line m.link) m.rest false m.count) m.lines m.set
      (line-taken_empty (p.line m.link) m.fsn m.bsn m.rest m.count m.first m.up m.accepted (h.lines m.link))
      (record { awaited = omega arith; far_awaited = omega arith; truth = h.there.words m.link; far_truth = h.back.words m.link }) refl refl h)

  pub sound-takes_message : TakesMessage read p q → Sound read p → Sound read q
  sound-takes_message m h =
      let z : Line = p.line m.link in
      let s : Side = record p.near { arrived = p.near.arrived ++ m.message ∷ [] } in
      subst (Sound read) (sym m.after)
      (quiet-line read p m.link (with_accepted z m.rest true m.count) m.lines m.set s (record { accepted = refl; received = refl; outstanding = refl; given_up = refl })
      (record {
        awaited = omega arith;
        far_awaited = omega arith;
        truth = still-true read p m.link (with_accepted z m.rest true m.count).near (λ u. u) (inl m.up) h;
        far_truth = h.back.words m.link;
      })
      (line-taken_message z m.fsn m.bsn m.message m.rest m.count m.first m.up m.accepted (h.lines m.link))
      (λ test. omega arith)
      (λ test.
      let e : drop z.near.queue.received z.far.queue.all ≡ m.message ∷ drop (z.near.queue.received + 1) z.far.queue.all =
      drop-first z.far.queue.all z.near.queue.received m.message (taken_message-is z m.fsn m.bsn m.message m.rest m.first m.up (h.lines m.link)) in
      omega (
        arith,
        count-first test (unreceived (turned_line z)) m.message (drop (z.near.queue.received + 1) z.far.queue.all) e,
        count-append test p.near.arrived (m.message ∷ []),
        count-one test m.message,
      ))
      h)
