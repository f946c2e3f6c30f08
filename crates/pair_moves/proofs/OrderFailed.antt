-- Moves of a failure and its changeover keep the order of each flow.
use Rattle.pair_moves.proofs.Basics.{◌≡◌, ◌≢◌, ◌⊎◌, inl, inr, ℕ, Bool, true, false, ◌<◌, ◌||◌, List, [], ◌∷◌, ◌++◌, drop, refl, ap, sym, ◌∙◌, subst, Some, ⊎_elim, cases_eq, append-nil, append_assoc}
use Rattle.pair_moves.proofs.Definitions.{Message, Flow, last_accepted, Reading, Saying, Order, Answer, is_user_message, LinkEnd, Line, Changeover, Code, Time, Side, Pair, turned, unreceived, BecomeAt, with_failure, with_completion, without_wait, with_wait, users_of, managements_of, Suspends, ChangesOnly, Falls, FallsWithOrder, CompletesByOrder, AnswersOrder, CompletesByAnswer, EndsWait, IgnoresAnswer, OrdersLate, IsEnd, of_flow, standing_on, IsGuarded, by_route, by_changeover, by_time, by_code, IsInOrder}
use Rattle.pair_moves.proofs.Lines.{IsLine, true_is_false, none-of_two, not-beside}
use Rattle.pair_moves.proofs.LinesChanged.{drop-none}
use Rattle.pair_moves.proofs.Books.{each-line}
use Rattle.pair_moves.proofs.Sound.{Sound}
use Rattle.pair_moves.proofs.Joins.{empty-or, join-alike, flow-append, flow-append_without, flow-users, flow-managements, of-no-flow}
use Rattle.pair_moves.proofs.Ordered.{received_of, standing_of, behind_of, sequence-of, in-sequence}
use Rattle.pair_moves.proofs.OrderSame.{taken-off, put-on, there-quiet, there-line, there-line-same, back-side, back-line}
use Rattle.pair_moves.proofs.OrderPlaced.{all-on, others-empty}
use Rattle.pair_moves.proofs.Tells.{order-tells, answer-tells, names-received}

-- changeovers of two links are two procedures
same-changeover : (a b : ℕ) → Changeover a ≡ Changeover b → a ≡ b
same-changeover a b e = cc

pub changeovers-differ : (a b : ℕ) → a ≢ b → Changeover a ≢ Changeover b
changeovers-differ a b d e = d (same-changeover a b e)

pub code-no-changeover : (code link : ℕ) → Code code ≢ Changeover link
code-no-changeover code link e = absurd cc

pub time-no-changeover : (returned link : ℕ) → Time returned ≢ Changeover link
time-no-changeover returned link e = absurd cc

or-left : (a b : Bool) → a ≡ true → (a || b) ≡ true
or-left true b e = refl
or-left false b e = true_is_false (sym e)

or-right : (a b : Bool) → b ≡ true → (a || b) ≡ true
or-right true b e = refl
or-right false b e = e

-- what doesn't serve, and is up, has no message
pub idle-end : (x : LinkEnd) → IsEnd x → x.up ≡ true → x.serving ≡ false → x.queue.all ≡ []
idle-end x h up serving = h.idle (none-of_two x.serving x.incomplete serving (not-beside x.incomplete h.incomplete up))

module _ (read : Reading) (flow : Flow) where
  abbrev of : List Message → List Message
  of ms = of_flow read.there flow ms

  -- ---- a failure

  guard-failed : (p : Pair) (link : ℕ) (awaited : Bool) (lines : ℕ → Line) → BecomeAt p link (with_failure (p.line link) awaited) lines → IsLine (p.line link) →
      (p.line link).near.up ≡ true → (s : Side) → Suspends p link s.route s.holds → (k : ℕ) → standing_on read.there flow p k ≢ [] →
      unreceived (lines k) ≡ unreceived (p.line k) → IsGuarded read.there flow p k → IsGuarded read.there flow (record p { line = lines; near = s }) k
  guard-failed p link awaited lines set line up s t k n same g = cases g
    where
      incomplete : (p.line k).near.incomplete ≡ true → (lines k).near.incomplete ≡ true
      incomplete = each-line p link (with_failure (p.line link) awaited) lines set (λ j y. (p.line j).near.incomplete ≡ true → y.near.incomplete ≡ true)
          (λ j d i. i) (or-right (p.line link).near.serving (p.line link).near.incomplete) k

      begun : (p.line link).near.serving ≡ true → (lines link).near.incomplete ≡ true
      begun serving = ap (λ (y : Line). y.near.incomplete) set.here ∙ or-left (p.line link).near.serving (p.line link).near.incomplete serving

      served : (b : Bool) → (p.line link).near.serving ≡ b → p.near.route flow ≡ Some link → standing_on read.there flow p link ≢ [] →
          IsGuarded read.there flow (record p { line = lines; near = s }) link
      served true serving e m = by_changeover (t.held flow serving e) (begun serving)
      served false serving e m =
          absurd (m (ap of (drop-none (p.line link).near.queue.all (p.line link).far.queue.received (idle-end (p.line link).near line.near up serving))))

      routed : p.near.route flow ≡ Some k → IsGuarded read.there flow (record p { line = lines; near = s }) k
      routed e =
          ⊎_elim
          (λ (i : k ≡ link). subst (λ (j : ℕ). IsGuarded read.there flow (record p { line = lines; near = s }) j) (sym i)
          (served (p.line link).near.serving refl (e ∙ ap (λ (j : ℕ). Some j) i) (subst (λ (j : ℕ). standing_on read.there flow p j ≢ []) i n)))
          (λ (d : k ≢ link). by_route (t.others flow k d e))
          (cases_eq k link)

      cases : IsGuarded read.there flow p k → IsGuarded read.there flow (record p { line = lines; near = s }) k
      cases (by_route e) = routed e
      cases (by_changeover held i) = by_changeover (t.kept (Changeover k) flow held) (incomplete i)
      cases (by_time returned held) = by_time returned (t.kept (Time returned) flow held)
      cases (by_code c held ahead declaration behind is says none) = by_code c (t.kept (Code c) flow held) ahead declaration behind (same ∙ is) says none

  pub order-falls : (p q : Pair) → Falls read p q → Sound read p → IsInOrder read.there flow p → IsInOrder read.there flow q
  order-falls p q m s h =
      let side : Side = record p.near { route = m.route; holds = m.holds } in
      subst (IsInOrder read.there flow) (sym m.after)
      (there-line read.there flow p m.link (with_failure (p.line m.link) (p.line m.link).near.awaited) m.lines m.set refl side refl refl
      (λ k l n same g. guard-failed p m.link (p.line m.link).near.awaited m.lines m.set (s.lines m.link) m.up side m.suspends k n same g) h)

  pub back-falls : (p q : Pair) → Falls read p q → IsInOrder read.back flow (turned p) → IsInOrder read.back flow (turned q)
  back-falls p q m h =
      subst (λ (x : Pair). IsInOrder read.back flow (turned x)) (sym m.after)
      (back-line read.back flow p m.link (with_failure (p.line m.link) (p.line m.link).near.awaited) m.lines m.set refl refl
      (record p.near { route = m.route; holds = m.holds }) refl h)

  pub order-falls_with_order : (p q : Pair) → FallsWithOrder read p q → Sound read p → IsInOrder read.there flow p → IsInOrder read.there flow q
  order-falls_with_order p q m s h =
      let side : Side = record p.near { route = m.route; holds = m.holds; loose = p.near.loose ++ m.order ∷ [] } in
      let up : (p.line m.link).near.up ≡ true = (s.lines m.link).near.serving m.serving in
      subst (IsInOrder read.there flow) (sym m.after)
      (there-line read.there flow p m.link (with_failure (p.line m.link) true) m.lines m.set refl side refl
      (put-on read.there flow p p.near.held p.near.loose m.order (of-no-flow read.there flow m.order (Order m.link (last_accepted (p.line m.link).near.queue)) m.says refl))
      (λ k l n same g. guard-failed p m.link true m.lines m.set (s.lines m.link) up side m.suspends k n same g) h)

  pub back-falls_with_order : (p q : Pair) → FallsWithOrder read p q → IsInOrder read.back flow (turned p) → IsInOrder read.back flow (turned q)
  back-falls_with_order p q m h =
      subst (λ (x : Pair). IsInOrder read.back flow (turned x)) (sym m.after)
      (back-line read.back flow p m.link (with_failure (p.line m.link) true) m.lines m.set refl refl
      (record p.near { route = m.route; holds = m.holds; loose = p.near.loose ++ m.order ∷ [] }) refl h)

  -- ---- an order that goes out late

  pub order-orders_late : (p q : Pair) → OrdersLate read p q → IsInOrder read.there flow p → IsInOrder read.there flow q
  order-orders_late p q m h =
      subst (IsInOrder read.there flow) (sym m.after)
      (there-line-same read.there flow p m.link (with_wait (p.line m.link)) m.lines m.set refl refl (record p.near { loose = p.near.loose ++ m.order ∷ [] }) refl
      (put-on read.there flow p p.near.held p.near.loose m.order (of-no-flow read.there flow m.order (Order m.link (last_accepted (p.line m.link).near.queue)) m.says refl))
      refl refl h)

  pub back-orders_late : (p q : Pair) → OrdersLate read p q → IsInOrder read.back flow (turned p) → IsInOrder read.back flow (turned q)
  back-orders_late p q m h =
      subst (λ (x : Pair). IsInOrder read.back flow (turned x)) (sym m.after)
      (back-line read.back flow p m.link (with_wait (p.line m.link)) m.lines m.set refl refl (record p.near { loose = p.near.loose ++ m.order ∷ [] }) refl h)

  -- ---- a completion

  -- the messages that the far end lacks go before all that is held; the others that are queued again
  -- are of no flow
  module _ (p : Pair) (link count : ℕ) (e : count ≡ (p.line link).far.queue.received) (awaited : Bool) (lines : ℕ → Line)
      (set : BecomeAt p link (with_completion (p.line link) awaited) lines) (s : Side) (accepted : s.accepted ≡ p.near.accepted)
      (route : s.route ≡ p.near.route) (lifted : ChangesOnly p.near.holds (Changeover link) s.holds)
      (held : of s.held ≡ of (unreceived (p.line link)) ++ of p.near.held) (loose : of s.loose ≡ of p.near.loose) where
    abbrev after_completion : Pair
    after_completion = record p { line = lines; near = s }

    none-here : standing_on read.there flow after_completion link ≡ []
    none-here = ap (λ (y : Line). of (unreceived y)) set.here ∙ ap of (drop-none [] (p.line link).far.queue.received refl)

    elsewhere : (k : ℕ) → k ≢ link → standing_on read.there flow after_completion k ≡ standing_on read.there flow p k
    elsewhere k d = ap (λ (y : Line). of (unreceived y)) (set.others k d)

    still-elsewhere : (k : ℕ) → standing_on read.there flow after_completion k ≢ [] → k ≢ link
    still-elsewhere k n e = n (subst (λ (j : ℕ). standing_on read.there flow after_completion j ≡ []) (sym e) none-here)

    guard-elsewhere : (k : ℕ) → k ≢ link → IsGuarded read.there flow p k → IsGuarded read.there flow after_completion k
    guard-elsewhere k d (by_route r) = by_route (ap (λ f. f flow) route ∙ r)
    guard-elsewhere k d (by_changeover h i) =
        by_changeover (lifted (Changeover k) flow (changeovers-differ k link d) ∙ h) (ap (λ (y : Line). y.near.incomplete) (set.others k d) ∙ i)
    guard-elsewhere k d (by_time returned h) = by_time returned (lifted (Time returned) flow (time-no-changeover returned link) ∙ h)
    guard-elsewhere k d (by_code c h ahead declaration behind is says none) =
        by_code c (lifted (Code c) flow (code-no-changeover c link) ∙ h) ahead declaration behind (ap unreceived (set.others k d) ∙ is) says none

    -- what was on links and after them is the same together
    moved : (standing_on read.there flow p link ≡ []) ⊎ (standing_on read.there flow p link ≢ []) → IsInOrder read.there flow p →
        standing_of read.there flow after_completion ++ behind_of read.there flow after_completion ≡ standing_of read.there flow p ++ behind_of read.there flow p
    moved (inl none) h =
        ap (λ (xs : List Message). xs ++ behind_of read.there flow after_completion)
        (join-alike (standing_on read.there flow p) (standing_on read.there flow after_completion) p.links
        (λ k l. ⊎_elim (λ (i : k ≡ link). subst (λ (j : ℕ). standing_on read.there flow after_completion j ≡ standing_on read.there flow p j) (sym i) (none-here ∙ sym none))
        (λ (d : k ≢ link). elsewhere k d) (cases_eq k link)))
        ∙ ap (λ (xs : List Message). standing_of read.there flow p ++ (xs ++ of s.loose)) (held ∙ ap (λ (xs : List Message). xs ++ of p.near.held) none)
        ∙ ap (λ (xs : List Message). standing_of read.there flow p ++ (of p.near.held ++ xs)) loose
    moved (inr some) h =
        let free : (k : ℕ) → k < p.links → k ≢ link → standing_on read.there flow p k ≡ [] = others-empty read.there flow p link set.inside h some in
        ap (λ (xs : List Message). xs ++ behind_of read.there flow after_completion)
        (all-on read.there flow after_completion link set.inside (λ k l d. elsewhere k d ∙ free k l d) ∙ none-here)
        ∙ ap (λ (xs : List Message). xs ++ of s.loose) held
        ∙ ap (λ (xs : List Message). (of (unreceived (p.line link)) ++ of p.near.held) ++ xs) loose
        ∙ append_assoc (of (unreceived (p.line link))) (of p.near.held) (of p.near.loose)
        ∙ ap (λ (xs : List Message). xs ++ behind_of read.there flow p) (sym (all-on read.there flow p link set.inside free))

    pub order-completed : IsInOrder read.there flow p → IsInOrder read.there flow after_completion
    order-completed h = record {
      sequence = in-sequence read.there flow after_completion
          (ap of accepted ∙ sequence-of read.there flow p h
          ∙ ap (λ (xs : List Message). received_of read.there flow p ++ xs) (sym (moved (empty-or (standing_on read.there flow p link)) h)));
      single = λ k j kl jl sk sj.
          h.single k j kl jl (λ none. sk (elsewhere k (still-elsewhere k sk) ∙ none)) (λ none. sj (elsewhere j (still-elsewhere j sj) ∙ none));
      guard = λ k l n.
          let d : k ≢ link = still-elsewhere k n in
          guard-elsewhere k d (h.guard k l (λ none. n (elsewhere k d ∙ none)));
    }

  -- the moved messages of the flow are those that weren't received
  moved-of : (p : Pair) (link count : ℕ) → count ≡ (p.line link).far.queue.received →
      of (users_of read.there (drop count (p.line link).near.queue.all) ++ p.near.held) ≡ of (unreceived (p.line link)) ++ of p.near.held
  moved-of p link count e =
      flow-append read.there flow (users_of read.there (drop count (p.line link).near.queue.all)) p.near.held
      ∙ ap (λ (xs : List Message). xs ++ of p.near.held)
      (flow-users read.there flow (drop count (p.line link).near.queue.all) ∙ ap (λ (n : ℕ). of (drop n (p.line link).near.queue.all)) e)

  anew-of : (p : Pair) (ms : List Message) → of (p.near.loose ++ managements_of read.there ms) ≡ of p.near.loose
  anew-of p ms =
      flow-append read.there flow p.near.loose (managements_of read.there ms) ∙ ap (λ (xs : List Message). of p.near.loose ++ xs) (flow-managements read.there flow ms)
      ∙ append-nil (of p.near.loose)

  pub order-completes_by_order : (p q : Pair) → CompletesByOrder read p q → Sound read p → IsInOrder read.there flow p → IsInOrder read.there flow q
  order-completes_by_order p q m s h =
      let z : Line = p.line m.link in
      let behind : List Message = drop m.count z.near.queue.all in
      let e : m.count ≡ z.far.queue.received =
      names-received read p m.link m.number m.count (order-tells read p m.link m.number m.heard.message m.heard.rest m.heard.first m.heard.says s) m.incomplete m.named s in
      subst (IsInOrder read.there flow) (sym m.after)
      (order-completed p m.link m.count e z.near.awaited m.lines m.set
      (record p.near { arrived = m.heard.rest; held = users_of read.there behind ++ p.near.held; loose = p.near.loose ++ managements_of read.there behind ++ m.answer ∷ []; holds = m.holds })
      refl refl m.lifted (moved-of p m.link m.count e)
      (flow-append_without read.there flow (p.near.loose ++ managements_of read.there behind) m.answer
      (of-no-flow read.there flow m.answer (Answer m.link (last_accepted z.near.queue)) m.answers refl) ∙ anew-of p behind) h)

  pub back-completes_by_order : (p q : Pair) → CompletesByOrder read p q → IsInOrder read.back flow (turned p) → IsInOrder read.back flow (turned q)
  back-completes_by_order p q m h =
      let behind : List Message = drop m.count (p.line m.link).near.queue.all in
      subst (λ (x : Pair). IsInOrder read.back flow (turned x)) (sym m.after)
      (back-line read.back flow p m.link (with_completion (p.line m.link) (p.line m.link).near.awaited) m.lines m.set refl refl
      (record p.near { arrived = m.heard.rest; held = users_of read.there behind ++ p.near.held; loose = p.near.loose ++ managements_of read.there behind ++ m.answer ∷ []; holds = m.holds })
      (taken-off read.back flow p p.near.received p.near.arrived m.heard.message m.heard.rest m.heard.first (of-no-flow read.back flow m.heard.message (Order m.link m.number) m.heard.says refl)) h)

  pub order-completes_by_answer : (p q : Pair) → CompletesByAnswer read p q → Sound read p → IsInOrder read.there flow p → IsInOrder read.there flow q
  order-completes_by_answer p q m s h =
      let z : Line = p.line m.link in
      let behind : List Message = drop m.count z.near.queue.all in
      let e : m.count ≡ z.far.queue.received =
      names-received read p m.link m.number m.count (answer-tells read p m.link m.number m.heard.message m.heard.rest m.heard.first m.heard.says s) m.incomplete m.named s in
      subst (IsInOrder read.there flow) (sym m.after)
      (order-completed p m.link m.count e false m.lines m.set
      (record p.near { arrived = m.heard.rest; held = users_of read.there behind ++ p.near.held; loose = p.near.loose ++ managements_of read.there behind; holds = m.holds })
      refl refl m.lifted (moved-of p m.link m.count e) (anew-of p behind) h)

  pub back-completes_by_answer : (p q : Pair) → CompletesByAnswer read p q → IsInOrder read.back flow (turned p) → IsInOrder read.back flow (turned q)
  back-completes_by_answer p q m h =
      let behind : List Message = drop m.count (p.line m.link).near.queue.all in
      subst (λ (x : Pair). IsInOrder read.back flow (turned x)) (sym m.after)
      (back-line read.back flow p m.link (with_completion (p.line m.link) false) m.lines m.set refl refl
      (record p.near { arrived = m.heard.rest; held = users_of read.there behind ++ p.near.held; loose = p.near.loose ++ managements_of read.there behind; holds = m.holds })
      (taken-off read.back flow p p.near.received p.near.arrived m.heard.message m.heard.rest m.heard.first (of-no-flow read.back flow m.heard.message (Answer m.link m.number) m.heard.says refl)) h)

  -- ---- a changeover that is complete

  pub order-answers_order : (p q : Pair) → AnswersOrder read p q → IsInOrder read.there flow p → IsInOrder read.there flow q
  order-answers_order p q m h =
      subst (IsInOrder read.there flow) (sym m.after)
      (there-quiet read.there flow p (record p.near { arrived = m.heard.rest; loose = p.near.loose ++ m.answer ∷ [] }) refl
      (put-on read.there flow p p.near.held p.near.loose m.answer (of-no-flow read.there flow m.answer (Answer m.link (last_accepted (p.line m.link).near.queue)) m.answers refl))
      refl refl h)

  pub back-answers_order : (p q : Pair) → AnswersOrder read p q → IsInOrder read.back flow (turned p) → IsInOrder read.back flow (turned q)
  back-answers_order p q m h =
      subst (λ (x : Pair). IsInOrder read.back flow (turned x)) (sym m.after)
      (back-side read.back flow p (record p.near { arrived = m.heard.rest; loose = p.near.loose ++ m.answer ∷ [] })
      (taken-off read.back flow p p.near.received p.near.arrived m.heard.message m.heard.rest m.heard.first (of-no-flow read.back flow m.heard.message (Order m.link m.number) m.heard.says refl)) h)

  pub order-ends_wait : (p q : Pair) → EndsWait read p q → IsInOrder read.there flow p → IsInOrder read.there flow q
  order-ends_wait p q m h =
      subst (IsInOrder read.there flow) (sym m.after)
      (there-line-same read.there flow p m.link (without_wait (p.line m.link)) m.lines m.set refl refl (record p.near { arrived = m.heard.rest }) refl refl refl refl h)

  pub back-ends_wait : (p q : Pair) → EndsWait read p q → IsInOrder read.back flow (turned p) → IsInOrder read.back flow (turned q)
  back-ends_wait p q m h =
      subst (λ (x : Pair). IsInOrder read.back flow (turned x)) (sym m.after)
      (back-line read.back flow p m.link (without_wait (p.line m.link)) m.lines m.set refl refl (record p.near { arrived = m.heard.rest })
      (taken-off read.back flow p p.near.received p.near.arrived m.heard.message m.heard.rest m.heard.first (of-no-flow read.back flow m.heard.message (Answer m.link m.number) m.heard.says refl)) h)

  pub order-ignores : (p : Pair) (rest : List Message) → IsInOrder read.there flow p → IsInOrder read.there flow (record p { near = record p.near { arrived = rest } })
  order-ignores p rest h = there-quiet read.there flow p (record p.near { arrived = rest }) refl refl refl refl h

  pub back-ignores : (p : Pair) (m : Message) (s : Saying) (rest : List Message) → p.near.arrived ≡ m ∷ rest → read.back m ≡ s → is_user_message s ≡ false →
      IsInOrder read.back flow (turned p) → IsInOrder read.back flow (turned (record p { near = record p.near { arrived = rest } }))
  back-ignores p m s rest first says other h =
      back-side read.back flow p (record p.near { arrived = rest }) (taken-off read.back flow p p.near.received p.near.arrived m rest first (of-no-flow read.back flow m s says other)) h

  pub order-ignores_answer : (p q : Pair) → IgnoresAnswer read p q → IsInOrder read.there flow p → IsInOrder read.there flow q
  order-ignores_answer p q m h = subst (IsInOrder read.there flow) (sym m.after) (order-ignores p m.heard.rest h)

  pub back-ignores_answer : (p q : Pair) → IgnoresAnswer read p q → IsInOrder read.back flow (turned p) → IsInOrder read.back flow (turned q)
  back-ignores_answer p q m h =
      subst (λ (x : Pair). IsInOrder read.back flow (turned x)) (sym m.after) (back-ignores p m.heard.message (Answer m.link m.number) m.heard.rest m.heard.first m.heard.says refl h)
