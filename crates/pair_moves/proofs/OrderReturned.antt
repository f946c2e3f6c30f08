-- Moves of a link that opens and returns keep the order of each flow.
use Rattle.pair_moves.proofs.Basics.{◌≡◌, ◌≢◌, inl, inr, ℕ, Bool, true, false, ◌≤◌, ◌<◌, List, [], ◌∷◌, ◌++◌, count_by, refl, ap, sym, ◌∙◌, arith, subst, Some, ⊎_elim, cases_eq}
use Rattle.pair_moves.proofs.Definitions.{Message, Flow, Queue, Saying, Declaration, Confirmation, is_of_flow, is_declaration, is_confirmation, Line, Changeover, Code, Time, Side, Pair, turned, unreceived, with_message, opened_first, opened_second, with_service, StaysOrIsHeld, OpensFirst, OpensSecond, Enters, Declares, WaitsForTime, Confirms, EndsHold, IgnoresConfirmation, RunsLate, one_if, saying, IsGuarded, by_route, by_changeover, by_time, by_code, IsInOrder, HoldsInService, Reading, turned_reading}
use Rattle.pair_moves.proofs.Lines.{IsLine}
use Rattle.pair_moves.proofs.LinesChanged.{drop-none}
use Rattle.pair_moves.proofs.Counts.{count-cons, count-append, count-first, sum-holds}
use Rattle.pair_moves.proofs.Words.{small, same-link}
use Rattle.pair_moves.proofs.Sound.{Sound}
use Rattle.pair_moves.proofs.Passed.{unreceived-appended}
use Rattle.pair_moves.proofs.Returned.{nothing-stands}
use Rattle.pair_moves.proofs.Joins.{of-no-flow}
use Rattle.pair_moves.proofs.Ordered.{one-route, order-same, guard-kept}
use Rattle.pair_moves.proofs.OrderSame.{taken-off, put-on, incomplete-same, there-quiet, there-guarded, there-line, there-line-same, back-side, back-line}
use Rattle.pair_moves.proofs.OrderPlaced.{guard-appended, standing-appended}
use Rattle.pair_moves.proofs.OrderFailed.{order-ignores, back-ignores}

changeover-no-code : (link code : ℕ) → Changeover link ≢ Code code
changeover-no-code link code e = absurd cc

time-no-code : (link code : ℕ) → Time link ≢ Code code
time-no-code link code e = absurd cc

same-code : (a b : ℕ) → Code a ≡ Code b → a ≡ b
same-code a b e = cc

codes-differ : (a b : ℕ) → a ≢ b → Code a ≢ Code b
codes-differ a b d e = d (same-code a b e)

same-changeover : (a b : ℕ) → Changeover a ≡ Changeover b → a ≡ b
same-changeover a b e = cc

links-differ : (a b : ℕ) → a ≢ b → Changeover a ≢ Changeover b
links-differ a b d e = d (same-changeover a b e)

-- a message that occurs in a list counts
counts-there : (test : Message → Bool) (ms ahead : List Message) (m : Message) (behind : List Message) → ms ≡ ahead ++ m ∷ behind → test m ≡ true →
    1 ≤ count_by test ms
counts-there test ms ahead m behind e t =
    let c : count_by test ms ≡ count_by test (ahead ++ m ∷ behind) = ap (count_by test) e in
    let o : one_if (test m) ≡ 1 = ap one_if t in
    omega (arith, c, o, count-append test ahead (m ∷ behind), count-cons test m behind)

module _ (read : Reading) (flow : Flow) (p q : Pair) where
  pub order-opens_first : OpensFirst read p q → Sound read p → IsInOrder read.there flow p → IsInOrder read.there flow q
  order-opens_first m s h =
      let z : Line = p.line m.link in
      let none : z.near.queue.all ≡ [] = nothing-stands z.near m.near_may (s.lines m.link).near in
      subst (IsInOrder read.there flow) (sym m.after)
      (there-line-same read.there flow p m.link (opened_first z) m.lines m.set
      (drop-none [] z.far.queue.received refl ∙ sym (drop-none z.near.queue.all z.far.queue.received none))
      (sym m.near_may.complete) p.near refl refl refl refl h)

  pub back-opens_first : OpensFirst read p q → Sound read p → IsInOrder read.back flow (turned p) → IsInOrder read.back flow (turned q)
  back-opens_first m s h =
      let z : Line = p.line m.link in
      let none : z.far.queue.all ≡ [] = nothing-stands z.far m.far_may (s.lines m.link).far in
      subst (λ (x : Pair). IsInOrder read.back flow (turned x)) (sym m.after)
      (back-line read.back flow p m.link (opened_first z) m.lines m.set
      (none ∙ sym (drop-none z.far.queue.all z.near.queue.received none))
      refl p.near refl h)

  pub order-opens_second : OpensSecond read p q → Sound read p → IsInOrder read.there flow p → IsInOrder read.there flow q
  order-opens_second m s h =
      let z : Line = p.line m.link in
      let none : z.near.queue.all ≡ [] = nothing-stands z.near m.near_may (s.lines m.link).near in
      subst (IsInOrder read.there flow) (sym m.after)
      (there-line-same read.there flow p m.link (opened_second z) m.lines m.set
      (drop-none [] z.far.queue.received refl ∙ sym (drop-none z.near.queue.all z.far.queue.received none))
      (sym m.near_may.complete) p.near refl refl refl refl h)

  pub back-opens_second : OpensSecond read p q → Sound read p → IsInOrder read.back flow (turned p) → IsInOrder read.back flow (turned q)
  back-opens_second m s h =
      let z : Line = p.line m.link in
      let none : z.far.queue.all ≡ [] = ap (λ (x : Queue). x.all) ((s.lines m.link).second m.follows).queue in
      subst (λ (x : Pair). IsInOrder read.back flow (turned x)) (sym m.after)
      (back-line read.back flow p m.link (opened_second z) m.lines m.set
      (none ∙ sym (drop-none z.far.queue.all z.near.queue.received none))
      refl p.near refl h)

  pub order-enters : Enters read p q → IsInOrder read.there flow p → IsInOrder read.there flow q
  order-enters m h =
      let side : Side = record p.near { route = m.route } in
      subst (IsInOrder read.there flow) (sym m.after)
      (there-line read.there flow p m.link (with_service (p.line m.link)) m.lines m.set refl side refl refl
      (λ k l n same g.
      guard-kept read.there flow p (record p { line = m.lines; near = side }) k (λ e. by_route (m.kept flow k e))
      (λ held i. by_changeover held (incomplete-same p m.link (with_service (p.line m.link)) m.lines m.set refl k ∙ i))
      (λ link held. held) (λ code held. held) same g)
      h)

  pub back-enters : Enters read p q → IsInOrder read.back flow (turned p) → IsInOrder read.back flow (turned q)
  back-enters m h =
      subst (λ (x : Pair). IsInOrder read.back flow (turned x)) (sym m.after)
      (back-line read.back flow p m.link (with_service (p.line m.link)) m.lines m.set refl refl (record p.near { route = m.route }) refl h)

  -- ---- flows leave a link for the one that returned

  declared : (m : Declares read p q) → IsLine (p.line m.former) → (k : ℕ) → p.near.route flow ≡ Some k →
      StaysOrIsHeld p m.former (Code m.code) m.route m.holds flow →
      IsGuarded read.there flow (record p { line = m.lines; near = record p.near { outstanding = m.outstanding; route = m.route; holds = m.holds } }) k
  declared m line k e (inl stays) = by_route (stays ∙ e)
  declared m line k e (inr left) =
      subst (IsGuarded read.there flow (record p { line = m.lines; near = record p.near { outstanding = m.outstanding; route = m.route; holds = m.holds } }))
      (one-route (p.near.route flow) m.former k left.0 e)
      (by_code m.code left.1 (unreceived (p.line m.former)) m.declaration []
      (ap unreceived m.set.here ∙ unreceived-appended (p.line m.former) m.declaration m.serving line) m.says refl)

  pub order-declares : Declares read p q → Sound read p → IsInOrder read.there flow p → IsInOrder read.there flow q
  order-declares m s h =
      let side : Side = record p.near { outstanding = m.outstanding; route = m.route; holds = m.holds } in
      let other : is_of_flow read.there flow m.declaration ≡ false = of-no-flow read.there flow m.declaration (Declaration m.code) m.says refl in
      let line : IsLine (p.line m.former) = s.lines m.former in
      subst (IsInOrder read.there flow) (sym m.after)
      (order-same read.there flow p (record p { line = m.lines; near = side }) refl
      (standing-appended read.there flow p m.former m.declaration m.lines m.set m.serving line other) refl refl refl
      (λ k l n g. guard-appended read.there flow p m.former m.declaration m.lines m.set m.serving line other side
      (λ procedure held. m.added.kept procedure flow held) k (λ e. declared m line k e (m.leaves flow)) g)
      h)

  pub back-declares : Declares read p q → IsInOrder read.back flow (turned p) → IsInOrder read.back flow (turned q)
  back-declares m h =
      subst (λ (x : Pair). IsInOrder read.back flow (turned x)) (sym m.after)
      (back-line read.back flow p m.former (with_message (p.line m.former) m.declaration) m.lines m.set refl refl
      (record p.near { outstanding = m.outstanding; route = m.route; holds = m.holds }) refl h)

  waited : (m : WaitsForTime read p q) → (k : ℕ) → p.near.route flow ≡ Some k → StaysOrIsHeld p m.former (Time m.link) m.route m.holds flow →
      IsGuarded read.there flow (record p { near = record p.near { route = m.route; holds = m.holds } }) k
  waited m k e (inl stays) = by_route (stays ∙ e)
  waited m k e (inr left) = by_time m.link left.1

  pub order-waits : WaitsForTime read p q → IsInOrder read.there flow p → IsInOrder read.there flow q
  order-waits m h =
      let side : Side = record p.near { route = m.route; holds = m.holds } in
      subst (IsInOrder read.there flow) (sym m.after)
      (there-guarded read.there flow p side refl refl
      (λ k l n g. guard-kept read.there flow p (record p { near = side }) k (λ e. waited m k e (m.leaves flow))
      (λ held i. by_changeover (m.added.kept (Changeover k) flow held) i)
      (λ link held. m.added.kept (Time link) flow held) (λ code held. m.added.kept (Code code) flow held) refl g)
      h)

  pub back-waits : WaitsForTime read p q → IsInOrder read.back flow (turned p) → IsInOrder read.back flow (turned q)
  back-waits m h =
      subst (λ (x : Pair). IsInOrder read.back flow (turned x)) (sym m.after)
      (back-side read.back flow p (record p.near { route = m.route; holds = m.holds }) refl h)

  -- ---- flows of a link in service are held by its changeover, or aren't any more: that guards nothing on it

  guard-in_service : (m : HoldsInService read p q) → Sound read p → (k : ℕ) → IsGuarded read.there flow p k → IsGuarded read.there flow (record p { near = record p.near { holds = m.holds } }) k
  guard-in_service m s k (by_route e) = by_route e
  guard-in_service m s k (by_changeover held i) =
      ⊎_elim
      (λ (same : k ≡ m.link).
      let up : (p.line m.link).near.up ≡ true = (s.lines m.link).near.serving m.serving in
      let down : (p.line m.link).near.up ≡ false = (s.lines m.link).near.incomplete (subst (λ (l : ℕ). (p.line l).near.incomplete ≡ true) same i) in
      let no : true ≡ false = sym up ∙ down in
      absurd cc)
      (λ (apart : k ≢ m.link). by_changeover (m.only (Changeover k) flow (links-differ k m.link apart) ∙ held) i) (cases_eq k m.link)
  guard-in_service m s k (by_time returned held) = by_time returned (m.only (Time returned) flow (λ e. cc) ∙ held)
  guard-in_service m s k (by_code c held ahead declaration behind is says none) =
      by_code c (m.only (Code c) flow (λ e. cc) ∙ held) ahead declaration behind is says none

  pub order-holds_in_service : HoldsInService read p q → Sound read p → IsInOrder read.there flow p → IsInOrder read.there flow q
  order-holds_in_service m s h =
      subst (IsInOrder read.there flow) (sym m.after)
      (there-guarded read.there flow p (record p.near { holds = m.holds }) refl refl (λ k l n g. guard-in_service m s k g) h)

  pub back-holds_in_service : HoldsInService read p q → IsInOrder read.back flow (turned p) → IsInOrder read.back flow (turned q)
  back-holds_in_service m h =
      subst (λ (x : Pair). IsInOrder read.back flow (turned x)) (sym m.after)
      (back-side read.back flow p (record p.near { holds = m.holds }) refl h)

  pub back-runs_late : RunsLate p q → IsInOrder read.back flow (turned p) → IsInOrder read.back flow (turned q)
  back-runs_late m h =
      subst (λ (x : Pair). IsInOrder read.back flow (turned x)) (sym m.after)
      (back-side read.back flow p (record p.near { holds = m.holds; late = true }) refl h)

  -- ---- a declaration is confirmed

  pub order-confirms : Confirms read p q → IsInOrder read.there flow p → IsInOrder read.there flow q
  order-confirms m h =
      subst (IsInOrder read.there flow) (sym m.after)
      (there-quiet read.there flow p (record p.near { arrived = m.heard.rest; loose = p.near.loose ++ m.answer ∷ [] }) refl
      (put-on read.there flow p p.near.held p.near.loose m.answer (of-no-flow read.there flow m.answer (Confirmation m.code) m.answers refl)) refl refl h)

  pub back-confirms : Confirms read p q → IsInOrder read.back flow (turned p) → IsInOrder read.back flow (turned q)
  back-confirms m h =
      subst (λ (x : Pair). IsInOrder read.back flow (turned x)) (sym m.after)
      (back-side read.back flow p (record p.near { arrived = m.heard.rest; loose = p.near.loose ++ m.answer ∷ [] })
      (taken-off read.back flow p p.near.received p.near.arrived m.heard.message m.heard.rest m.heard.first (of-no-flow read.back flow m.heard.message (Declaration m.code) m.heard.says refl)) h)

  -- no declaration is under way whose confirmation came
  none-declared : (m : EndsHold read p q) → Sound read p → (k : ℕ) → k < p.links → (c : ℕ) → c ≡ m.code →
      (ahead : List Message) (declaration : Message) (behind : List Message) → unreceived (p.line k) ≡ ahead ++ declaration ∷ behind →
      read.there declaration ≡ Declaration c → ⊥
  none-declared m s k l c e ahead declaration behind is says =
      let declares : Message → Bool = saying read.there (is_declaration m.code) in
      let confirming : Message → Bool = saying read.back (is_confirmation m.code) in
      let there : 1 ≤ count_by declares (unreceived (p.line k)) =
      counts-there declares (unreceived (p.line k)) ahead declaration behind is
      (ap (is_declaration m.code) (says ∙ ap (λ (x : ℕ). Declaration x) e) ∙ same-link m.code) in
      let came : one_if (confirming m.heard.message) ≡ 1 = ap one_if (ap (is_confirmation m.code) m.heard.says ∙ same-link m.code) in
      omega (
        arith,
        there,
        came,
        sum-holds (λ j. count_by declares (unreceived (p.line j))) p.links k l,
        count-first confirming p.near.arrived m.heard.message m.heard.rest m.heard.first,
        s.there.codes m.code,
        small (p.near.outstanding m.code),
      )

  guard-lifted : (m : EndsHold read p q) → Sound read p → (k : ℕ) → k < p.links → IsGuarded read.there flow p k →
      IsGuarded read.there flow (record p { near = record p.near { arrived = m.heard.rest; outstanding = m.outstanding; holds = m.holds } }) k
  guard-lifted m s k l (by_route e) = by_route e
  guard-lifted m s k l (by_changeover held i) = by_changeover (m.lifted (Changeover k) flow (changeover-no-code k m.code) ∙ held) i
  guard-lifted m s k l (by_time returned held) = by_time returned (m.lifted (Time returned) flow (time-no-code returned m.code) ∙ held)
  guard-lifted m s k l (by_code c held ahead declaration behind is says none) =
      ⊎_elim
      (λ (e : c ≡ m.code). absurd (none-declared m s k l c e ahead declaration behind is says))
      (λ (d : c ≢ m.code). by_code c (m.lifted (Code c) flow (codes-differ c m.code d) ∙ held) ahead declaration behind is says none)
      (cases_eq c m.code)

  pub order-ends_hold : EndsHold read p q → Sound read p → IsInOrder read.there flow p → IsInOrder read.there flow q
  order-ends_hold m s h =
      subst (IsInOrder read.there flow) (sym m.after)
      (there-guarded read.there flow p (record p.near { arrived = m.heard.rest; outstanding = m.outstanding; holds = m.holds }) refl refl
      (λ k l n g. guard-lifted m s k l g) h)

  pub back-ends_hold : EndsHold read p q → IsInOrder read.back flow (turned p) → IsInOrder read.back flow (turned q)
  back-ends_hold m h =
      subst (λ (x : Pair). IsInOrder read.back flow (turned x)) (sym m.after)
      (back-side read.back flow p (record p.near { arrived = m.heard.rest; outstanding = m.outstanding; holds = m.holds })
      (taken-off read.back flow p p.near.received p.near.arrived m.heard.message m.heard.rest m.heard.first (of-no-flow read.back flow m.heard.message (Confirmation m.code) m.heard.says refl)) h)

  pub order-ignores_confirmation : IgnoresConfirmation read p q → IsInOrder read.there flow p → IsInOrder read.there flow q
  order-ignores_confirmation m h = subst (IsInOrder read.there flow) (sym m.after) (order-ignores read flow p m.heard.rest h)

  pub back-ignores_confirmation : IgnoresConfirmation read p q → IsInOrder read.back flow (turned p) → IsInOrder read.back flow (turned q)
  back-ignores_confirmation m h =
      subst (λ (x : Pair). IsInOrder read.back flow (turned x)) (sym m.after)
      (back-ignores read flow p m.heard.message (Confirmation m.code) m.heard.rest m.heard.first m.heard.says refl h)
