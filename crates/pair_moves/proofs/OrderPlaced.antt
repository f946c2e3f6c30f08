-- A message that goes onto a link, or comes off it, keeps the order of each flow.
use Rattle.pair_moves.proofs.Basics.{◌≡◌, ◌≢◌, ℕ, Bool, true, false, ◌<◌, List, [], ◌∷◌, ◌++◌, refl, ap, sym, ◌∙◌, subst, Some, ⊎_elim, cases_eq, append_assoc}
use Rattle.pair_moves.proofs.Definitions.{Message, flow_of, Flow, Reading, Saying, is_user_message, is_of_flow, Line, Procedure, Changeover, Code, Time, Side, Pair, turned, turned_line, unreceived, BecomeAt, MayGo, with_message, Places, with_accepted, TakesMessage, of_flow, standing_on, IsGuarded, by_route, by_changeover, by_time, by_code, IsInOrder}
use Rattle.pair_moves.proofs.Lines.{IsLine, both}
use Rattle.pair_moves.proofs.Books.{each-line, set-turned}
use Rattle.pair_moves.proofs.Sound.{Sound}
use Rattle.pair_moves.proofs.Passed.{unreceived-appended, drop-first}
use Rattle.pair_moves.proofs.Joins.{empty-or, not-empty, same-tail, join-only, flow-with, flow-without, flow-append_with, flow-append_without, of-flow-is, of-flow-user}
use Rattle.pair_moves.proofs.Ordered.{one-route, received_of, standing_of, behind_of, sequence-of, in-sequence, order-same, guard-same, guard-behind}
use Rattle.pair_moves.proofs.OrderSame.{taken-off, put-on, back-line, incomplete-same}
use Rattle.pair_moves.proofs.LinesTaken.{taken_message-is}

module _ (read : Message → Saying) (flow : Flow) where
  abbrev of : List Message → List Message
  of ms = of_flow read flow ms

  -- ---- all of the flow is on one link

  -- if nothing of the flow is on other links, all that is on links is on this one
  pub all-on : (p : Pair) (link : ℕ) → link < p.links → ((k : ℕ) → k < p.links → k ≢ link → standing_on read flow p k ≡ []) →
      standing_of read flow p ≡ standing_on read flow p link
  all-on p link l alone = join-only (standing_on read flow p) p.links link l alone

  -- what is somewhere is there
  pub only-there : (p : Pair) (link k : ℕ) → k < p.links → ((j : ℕ) → j < p.links → j ≢ link → standing_on read flow p j ≡ []) →
      standing_on read flow p k ≢ [] → k ≡ link
  only-there p link k l alone n = ⊎_elim (λ (e : k ≡ link). e) (λ (d : k ≢ link). absurd (n (alone k l d))) (cases_eq k link)

  -- one link has some of the flow, so the others have none
  pub others-empty : (p : Pair) (link : ℕ) → link < p.links → IsInOrder read flow p → standing_on read flow p link ≢ [] →
      (k : ℕ) → k < p.links → k ≢ link → standing_on read flow p k ≡ []
  others-empty p link l h n k kl d =
      ⊎_elim (λ (e : standing_on read flow p k ≡ []). e) (λ (m : standing_on read flow p k ≢ []). absurd (d (h.single k link kl l m n))) (empty-or (standing_on read flow p k))

  -- ---- a message of no flow goes after those of a link

  pub guard-appended : (p : Pair) (link : ℕ) (m : Message) (lines : ℕ → Line) → BecomeAt p link (with_message (p.line link) m) lines →
      (p.line link).near.serving ≡ true → IsLine (p.line link) → is_of_flow read flow m ≡ false → (s : Side) →
      ((procedure : Procedure) → p.near.holds procedure flow ≡ true → s.holds procedure flow ≡ true) →
      (k : ℕ) → (p.near.route flow ≡ Some k → IsGuarded read flow (record p { line = lines; near = s }) k) →
      IsGuarded read flow p k → IsGuarded read flow (record p { line = lines; near = s }) k
  guard-appended p link m lines set serving line other s holds k route g =
      let q : Pair = record p { line = lines; near = s } in
      let incomplete : (lines k).near.incomplete ≡ (p.line k).near.incomplete = incomplete-same p link (with_message (p.line link) m) lines set refl k in
      ⊎_elim
      (λ (e : k ≡ link).
      guard-behind read flow p q k m other route holds incomplete
      (subst (λ (j : ℕ). unreceived (lines j) ≡ unreceived (p.line j) ++ m ∷ []) (sym e)
      (ap unreceived set.here ∙ unreceived-appended (p.line link) m serving line)) g)
      (λ (d : k ≢ link). elsewhere (ap unreceived (set.others k d)) incomplete route holds g)
      (cases_eq k link)
    where
      elsewhere : unreceived (lines k) ≡ unreceived (p.line k) → (lines k).near.incomplete ≡ (p.line k).near.incomplete →
          (p.near.route flow ≡ Some k → IsGuarded read flow (record p { line = lines; near = s }) k) →
          ((procedure : Procedure) → p.near.holds procedure flow ≡ true → s.holds procedure flow ≡ true) →
          IsGuarded read flow p k → IsGuarded read flow (record p { line = lines; near = s }) k
      elsewhere same i r hs (by_route e) = r e
      elsewhere same i r hs (by_changeover held x) = by_changeover (hs (Changeover k) held) (i ∙ x)
      elsewhere same i r hs (by_time returned held) = by_time returned (hs (Time returned) held)
      elsewhere same i r hs (by_code c held ahead declaration behind is says none) = by_code c (hs (Code c) held) ahead declaration behind (same ∙ is) says none

  pub standing-appended : (p : Pair) (link : ℕ) (m : Message) (lines : ℕ → Line) → BecomeAt p link (with_message (p.line link) m) lines →
      (p.line link).near.serving ≡ true → IsLine (p.line link) → is_of_flow read flow m ≡ false →
      (k : ℕ) → of (unreceived (lines k)) ≡ of (unreceived (p.line k))
  standing-appended p link m lines set serving line other =
      each-line p link (with_message (p.line link) m) lines set (λ k y. of (unreceived y) ≡ of (unreceived (p.line k))) (λ k d. refl)
      (ap of (unreceived-appended (p.line link) m serving line) ∙ flow-append_without read flow (unreceived (p.line link)) m other)

  -- ---- a loose message goes onto a link

  places-other : (p : Pair) (link : ℕ) (m : Message) (rest : List Message) (lines : ℕ → Line) → BecomeAt p link (with_message (p.line link) m) lines →
      (p.line link).near.serving ≡ true → p.near.loose ≡ m ∷ rest → is_of_flow read flow m ≡ false → IsLine (p.line link) →
      IsInOrder read flow p → IsInOrder read flow (record p { line = lines; near = record p.near { loose = rest } })
  places-other p link m rest lines set serving first other line h =
      let s : Side = record p.near { loose = rest } in
      order-same read flow p (record p { line = lines; near = s }) refl (standing-appended p link m lines set serving line other) refl refl
      (taken-off read flow p p.near.held p.near.loose m rest first other)
      (λ k l n g. guard-appended p link m lines set serving line other s (λ procedure held. held) k (λ e. by_route e) g) h

  -- a flow that may go on by a link is on no other
  free-elsewhere : (p : Pair) (link : ℕ) → MayGo read p.near flow link → IsInOrder read flow p →
      (k : ℕ) → k < p.links → k ≢ link → standing_on read flow p k ≡ []
  free-elsewhere p link go h k l d =
      ⊎_elim (λ (e : standing_on read flow p k ≡ []). e) (λ (n : standing_on read flow p k ≢ []). absurd (unguarded (h.guard k l n))) (empty-or (standing_on read flow p k))
    where
      unguarded : IsGuarded read flow p k → ⊥
      unguarded (by_route e) = d (one-route (p.near.route flow) k link e go.routed)
      unguarded (by_changeover held i) = both held (go.unheld (Changeover k))
      unguarded (by_time returned held) = both held (go.unheld (Time returned))
      unguarded (by_code c held ahead declaration behind is says none) = both held (go.unheld (Code c))

  places-of : (p : Pair) (link : ℕ) (m : Message) (rest : List Message) (lines : ℕ → Line) → BecomeAt p link (with_message (p.line link) m) lines →
      (p.line link).near.serving ≡ true → p.near.loose ≡ m ∷ rest → is_of_flow read flow m ≡ true → MayGo read p.near flow link → IsLine (p.line link) →
      IsInOrder read flow p → IsInOrder read flow (record p { line = lines; near = record p.near { loose = rest } })
  places-of p link m rest lines set serving first is go line h =
      let q : Pair = record p { line = lines; near = record p.near { loose = rest } } in
      let free : (k : ℕ) → k < p.links → k ≢ link → standing_on read flow p k ≡ [] = free-elsewhere p link go h in
      let freed : (k : ℕ) → k < p.links → k ≢ link → standing_on read flow q k ≡ [] = λ k l d. ap (λ (y : Line). of (unreceived y)) (set.others k d) ∙ free k l d in
      let there : List Message = standing_on read flow p link in
      let more : standing_on read flow q link ≡ there ++ m ∷ [] =
      ap (λ (y : Line). of (unreceived y)) set.here ∙ ap of (unreceived-appended (p.line link) m serving line)
      ∙ flow-append_with read flow (unreceived (p.line link)) m is in
      let loose : of p.near.loose ≡ m ∷ of rest = ap of first ∙ flow-with read flow m rest is in
      let received : List Message = received_of read flow p in
      record {
        sequence = in-sequence read flow q
            (sequence-of read flow p h
            ∙ ap (λ (xs : List Message). received ++ (xs ++ behind_of read flow p)) (all-on p link set.inside free)
            ∙ ap (λ (xs : List Message). received ++ (there ++ (xs ++ of p.near.loose))) go.none_held
            ∙ ap (λ (xs : List Message). received ++ (there ++ xs)) loose
            ∙ ap (λ (xs : List Message). received ++ xs) (sym (append_assoc there (m ∷ []) (of rest)))
            ∙ ap (λ (xs : List Message). received ++ (xs ++ of rest)) (sym more)
            ∙ ap (λ (xs : List Message). received ++ (xs ++ of rest)) (sym (all-on q link set.inside freed))
            ∙ ap (λ (xs : List Message). received ++ (standing_of read flow q ++ (xs ++ of rest))) (sym go.none_held));
        single = λ k j kl jl sk sj. only-there q link k kl freed sk ∙ sym (only-there q link j jl freed sj);
        guard = λ k l n. by_route (go.routed ∙ ap (λ (j : ℕ). Some j) (sym (only-there q link k l freed n)));
      }

  pub places-either : (p : Pair) (link : ℕ) (m : Message) (rest : List Message) (lines : ℕ → Line) → BecomeAt p link (with_message (p.line link) m) lines →
      (p.line link).near.serving ≡ true → p.near.loose ≡ m ∷ rest → (is_user_message (read m) ≡ true → MayGo read p.near (flow_of m) link) → IsLine (p.line link) →
      (b : Bool) → is_of_flow read flow m ≡ b →
      IsInOrder read flow p → IsInOrder read flow (record p { line = lines; near = record p.near { loose = rest } })
  places-either p link m rest lines set serving first go line true is h =
      places-of p link m rest lines set serving first is
      (subst (λ (f : Flow). MayGo read p.near f link) (of-flow-is read flow m is) (go (of-flow-user read flow m is))) line h
  places-either p link m rest lines set serving first go line false is h = places-other p link m rest lines set serving first is line h

  -- ---- a message comes off a link

  -- the first that wasn't received is received; some of the flow comes after it
  guard-taken : (p q : Pair) (k : ℕ) (m : Message) → unreceived (p.line k) ≡ m ∷ unreceived (q.line k) → of (unreceived (q.line k)) ≢ [] →
      q.near.route ≡ p.near.route → q.near.holds ≡ p.near.holds → (q.line k).near.incomplete ≡ (p.line k).near.incomplete →
      IsGuarded read flow p k → IsGuarded read flow q k
  guard-taken p q k m is n route holds incomplete (by_route e) = by_route (ap (λ r. r flow) route ∙ e)
  guard-taken p q k m is n route holds incomplete (by_changeover held i) = by_changeover (ap (λ r. r (Changeover k) flow) holds ∙ held) (incomplete ∙ i)
  guard-taken p q k m is n route holds incomplete (by_time returned held) = by_time returned (ap (λ r. r (Time returned) flow) holds ∙ held)
  guard-taken p q k m is n route holds incomplete (by_code c held [] declaration behind at says none) =
      absurd (n (ap of (same-tail m declaration (unreceived (q.line k)) behind (sym is ∙ at)) ∙ none))
  guard-taken p q k m is n route holds incomplete (by_code c held (a ∷ ahead) declaration behind at says none) =
      by_code c (ap (λ r. r (Code c) flow) holds ∙ held) ahead declaration behind
      (same-tail m a (unreceived (q.line k)) (ahead ++ declaration ∷ behind) (sym is ∙ at)) says none

  module _ (p : Pair) (link : ℕ) (y : Line) (lines : ℕ → Line) (set : BecomeAt p link y lines) (m : Message)
      (is : unreceived (p.line link) ≡ m ∷ unreceived y) (incomplete : y.near.incomplete ≡ (p.line link).near.incomplete) where
    abbrev after_taking : Pair
    after_taking = record p { line = lines; far = record p.far { arrived = p.far.arrived ++ m ∷ [] } }

    guard-all_taken : (k : ℕ) → of (unreceived (lines k)) ≢ [] → IsGuarded read flow p k → IsGuarded read flow after_taking k
    guard-all_taken k n g =
        ⊎_elim
        (λ (e : k ≡ link). guard-taken p after_taking k m
        (subst (λ (j : ℕ). unreceived (p.line j) ≡ m ∷ unreceived (lines j)) (sym e) (is ∙ ap (λ (x : Line). m ∷ unreceived x) (sym set.here)))
        n refl refl (incomplete-same p link y lines set incomplete k) g)
        (λ (d : k ≢ link). guard-same read flow p after_taking k refl refl (incomplete-same p link y lines set incomplete k) (ap unreceived (set.others k d)) g)
        (cases_eq k link)

    taken-other : is_of_flow read flow m ≡ false → IsInOrder read flow p → IsInOrder read flow after_taking
    taken-other other h =
        let same : (k : ℕ) → of (unreceived (lines k)) ≡ of (unreceived (p.line k)) =
        each-line p link y lines set (λ k x. of (unreceived x) ≡ of (unreceived (p.line k))) (λ k d. refl)
        (sym (flow-without read flow m (unreceived y) other) ∙ ap of (sym is)) in
        order-same read flow p after_taking refl same refl (put-on read flow p p.far.received p.far.arrived m other) refl
        (λ k l n g. guard-all_taken k (λ e. n (sym (same k) ∙ e)) g) h

    taken-of : is_of_flow read flow m ≡ true → IsInOrder read flow p → IsInOrder read flow after_taking
    taken-of of_it h =
        let q : Pair = after_taking in
        let first : standing_on read flow p link ≡ m ∷ of (unreceived y) = ap of is ∙ flow-with read flow m (unreceived y) of_it in
        let free : (k : ℕ) → k < p.links → k ≢ link → standing_on read flow p k ≡ [] =
        others-empty p link set.inside h (λ e. not-empty m (of (unreceived y)) (sym first ∙ e)) in
        let freed : (k : ℕ) → k < p.links → k ≢ link → standing_on read flow q k ≡ [] = λ k l d. ap (λ (x : Line). of (unreceived x)) (set.others k d) ∙ free k l d in
        let left : standing_of read flow q ≡ of (unreceived y) = all-on q link set.inside freed ∙ ap (λ (x : Line). of (unreceived x)) set.here in
        let behind : List Message = behind_of read flow p in
        record {
          sequence = in-sequence read flow q
              (sequence-of read flow p h
              ∙ ap (λ (xs : List Message). received_of read flow p ++ (xs ++ behind)) (all-on p link set.inside free ∙ first)
              ∙ sym (append_assoc (received_of read flow p) (m ∷ []) (of (unreceived y) ++ behind))
              ∙ ap (λ (xs : List Message). xs ++ (of (unreceived y) ++ behind)) (append_assoc (of p.far.received) (of p.far.arrived) (m ∷ []))
              ∙ ap (λ (xs : List Message). (of p.far.received ++ xs) ++ (of (unreceived y) ++ behind)) (sym (flow-append_with read flow p.far.arrived m of_it))
              ∙ ap (λ (xs : List Message). received_of read flow q ++ (xs ++ behind)) (sym left));
          single = λ k j kl jl sk sj. only-there q link k kl freed sk ∙ sym (only-there q link j jl freed sj);
          guard = λ k l n.
              let e : k ≡ link = only-there q link k l freed n in
              guard-all_taken k n (h.guard k l (λ none. not-empty m (of (unreceived y)) (sym first ∙ subst (λ (j : ℕ). standing_on read flow p j ≡ []) e none)));
        }

    pub taken-either : (b : Bool) → is_of_flow read flow m ≡ b → IsInOrder read flow p → IsInOrder read flow after_taking
    taken-either true e h = taken-of e h
    taken-either false e h = taken-other e h

module _ (read : Reading) (flow : Flow) where
  pub order-places : (p q : Pair) → Places read p q → Sound read p → IsInOrder read.there flow p → IsInOrder read.there flow q
  order-places p q m s h =
      subst (IsInOrder read.there flow) (sym m.after)
      (places-either read.there flow p m.link m.message m.rest m.lines m.set m.serving m.first m.may_go (s.lines m.link) (is_of_flow read.there flow m.message) refl h)

  pub back-places : (p q : Pair) → Places read p q → IsInOrder read.back flow (turned p) → IsInOrder read.back flow (turned q)
  back-places p q m h =
      subst (λ (x : Pair). IsInOrder read.back flow (turned x)) (sym m.after)
      (back-line read.back flow p m.link (with_message (p.line m.link) m.message) m.lines m.set refl refl (record p.near { loose = m.rest }) refl h)

  pub back-takes_message : (p q : Pair) → TakesMessage read p q → Sound read p → IsInOrder read.back flow (turned p) → IsInOrder read.back flow (turned q)
  back-takes_message p q m s h =
      let z : Line = p.line m.link in
      let y : Line = with_accepted z m.rest true m.count in
      subst (λ (x : Pair). IsInOrder read.back flow (turned x)) (sym m.after)
      (taken-either read.back flow (turned p) m.link (turned_line y) (λ k. turned_line (m.lines k)) (set-turned p m.link y m.lines m.set) m.message
      (drop-first z.far.queue.all z.near.queue.received m.message (taken_message-is z m.fsn m.bsn m.message m.rest m.first m.up (s.lines m.link)))
      refl (is_of_flow read.back flow m.message) refl h)
