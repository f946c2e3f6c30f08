-- Moves of messages and frames keep the order of each flow.
use Rattle.pair_moves.proofs.Basics.{◌≡◌, ℕ, suc, true, false, List, [], ◌∷◌, ◌++◌, refl, ap, sym, ◌∙◌, subst, append_assoc}
use Rattle.pair_moves.proofs.Definitions.{Message, Flow, Reading, Saying, turned_reading, Line, Pair, turned, turned_line, unreceived, BecomeAt, Accepts, TakesOut, Keeps, HandsOver, with_status, with_statuses_left, with_sent, with_heard, with_frames_left, with_accepted, SendsStatus, SendsMessage, SendsEmpty, HearsStatus, TakesStatus, DoublesStatus, Drops, TakesEmpty, TakesMessage, of_flow, IsInOrder}
use Rattle.pair_moves.proofs.Joins.{flow-append}
use Rattle.pair_moves.proofs.OrderSame.{moved-over, there-side, there-quiet, there-line-same, back-side, back-line}

module _ (read : Reading) (flow : Flow) (p q : Pair) where
  abbrev of : List Message → List Message
  of ms = of_flow read.there flow ms

  pub order-accepts : Accepts read p q → IsInOrder read.there flow p → IsInOrder read.there flow q
  order-accepts m h =
      subst (IsInOrder read.there flow) (sym m.after)
      (there-side read.there flow p (record p.near { accepted = p.near.accepted ++ m.message ∷ []; loose = p.near.loose ++ m.message ∷ [] }) (of (m.message ∷ []))
      (flow-append read.there flow p.near.accepted (m.message ∷ []))
      (ap (λ (xs : List Message). of p.near.held ++ xs) (flow-append read.there flow p.near.loose (m.message ∷ []))
      ∙ sym (append_assoc (of p.near.held) (of p.near.loose) (of (m.message ∷ []))))
      refl refl h)

  pub back-accepts : Accepts read p q → IsInOrder read.back flow (turned p) → IsInOrder read.back flow (turned q)
  back-accepts m h =
      subst (λ (x : Pair). IsInOrder read.back flow (turned x)) (sym m.after)
      (back-side read.back flow p (record p.near { accepted = p.near.accepted ++ m.message ∷ []; loose = p.near.loose ++ m.message ∷ [] }) refl h)

  pub order-takes_out : TakesOut read p q → IsInOrder read.there flow p → IsInOrder read.there flow q
  order-takes_out m h =
      subst (IsInOrder read.there flow) (sym m.after)
      (there-quiet read.there flow p (record p.near { held = []; loose = p.near.held ++ p.near.loose }) refl (flow-append read.there flow p.near.held p.near.loose) refl refl h)

  pub back-takes_out : TakesOut read p q → IsInOrder read.back flow (turned p) → IsInOrder read.back flow (turned q)
  back-takes_out m h =
      subst (λ (x : Pair). IsInOrder read.back flow (turned x)) (sym m.after)
      (back-side read.back flow p (record p.near { held = []; loose = p.near.held ++ p.near.loose }) refl h)

  pub order-keeps : Keeps read p q → IsInOrder read.there flow p → IsInOrder read.there flow q
  order-keeps m h =
      subst (IsInOrder read.there flow) (sym m.after)
      (there-quiet read.there flow p (record p.near { loose = m.rest; held = p.near.held ++ m.message ∷ [] }) refl
      (moved-over read.there flow p p.near.held p.near.loose m.message m.rest m.first) refl refl h)

  pub back-keeps : Keeps read p q → IsInOrder read.back flow (turned p) → IsInOrder read.back flow (turned q)
  back-keeps m h =
      subst (λ (x : Pair). IsInOrder read.back flow (turned x)) (sym m.after)
      (back-side read.back flow p (record p.near { loose = m.rest; held = p.near.held ++ m.message ∷ [] }) refl h)

  pub order-hands_over : HandsOver read p q → IsInOrder read.there flow p → IsInOrder read.there flow q
  order-hands_over m h =
      subst (IsInOrder read.there flow) (sym m.after)
      (there-quiet read.there flow p (record p.near { arrived = m.heard.rest; received = p.near.received ++ m.heard.message ∷ [] }) refl refl refl refl h)

  pub back-hands_over : HandsOver read p q → IsInOrder read.back flow (turned p) → IsInOrder read.back flow (turned q)
  back-hands_over m h =
      subst (λ (x : Pair). IsInOrder read.back flow (turned x)) (sym m.after)
      (back-side read.back flow p (record p.near { arrived = m.heard.rest; received = p.near.received ++ m.heard.message ∷ [] })
      (moved-over read.back flow p p.near.received p.near.arrived m.heard.message m.heard.rest m.heard.first) h)

  -- ---- only the frames of a line change, and the counts of its near queue

  there-frames : (link : ℕ) (z : Line) (lines : ℕ → Line) → BecomeAt p link z lines → unreceived z ≡ unreceived (p.line link) →
      z.near.incomplete ≡ (p.line link).near.incomplete → IsInOrder read.there flow p → IsInOrder read.there flow (record p { line = lines })
  there-frames link z lines set same incomplete h = there-line-same read.there flow p link z lines set same incomplete p.near refl refl refl refl h

  back-frames : (link : ℕ) (z : Line) (lines : ℕ → Line) → BecomeAt p link z lines → unreceived (turned_line z) ≡ unreceived (turned_line (p.line link)) →
      z.far.incomplete ≡ (p.line link).far.incomplete → IsInOrder read.back flow (turned p) → IsInOrder read.back flow (turned (record p { line = lines }))
  back-frames link z lines set same incomplete h = back-line read.back flow p link z lines set same incomplete p.near refl h

  pub order-sends_status : SendsStatus read p q → IsInOrder read.there flow p → IsInOrder read.there flow q
  order-sends_status m h = subst (IsInOrder read.there flow) (sym m.after) (there-frames m.link (with_status (p.line m.link)) m.lines m.set refl refl h)

  pub back-sends_status : SendsStatus read p q → IsInOrder read.back flow (turned p) → IsInOrder read.back flow (turned q)
  back-sends_status m h =
      subst (λ (x : Pair). IsInOrder read.back flow (turned x)) (sym m.after) (back-frames m.link (with_status (p.line m.link)) m.lines m.set refl refl h)

  pub order-sends_message : SendsMessage read p q → IsInOrder read.there flow p → IsInOrder read.there flow q
  order-sends_message m h = subst (IsInOrder read.there flow) (sym m.after) (there-frames m.link (with_sent (p.line m.link) m.sending) m.lines m.set refl refl h)

  pub back-sends_message : SendsMessage read p q → IsInOrder read.back flow (turned p) → IsInOrder read.back flow (turned q)
  back-sends_message m h =
      subst (λ (x : Pair). IsInOrder read.back flow (turned x)) (sym m.after) (back-frames m.link (with_sent (p.line m.link) m.sending) m.lines m.set refl refl h)

  pub order-sends_empty : SendsEmpty read p q → IsInOrder read.there flow p → IsInOrder read.there flow q
  order-sends_empty m h = subst (IsInOrder read.there flow) (sym m.after) (there-frames m.link _ m.lines m.set refl refl h)

  pub back-sends_empty : SendsEmpty read p q → IsInOrder read.back flow (turned p) → IsInOrder read.back flow (turned q)
  back-sends_empty m h = subst (λ (x : Pair). IsInOrder read.back flow (turned x)) (sym m.after) (back-frames m.link _ m.lines m.set refl refl h)

  pub order-hears_status : HearsStatus read p q → IsInOrder read.there flow p → IsInOrder read.there flow q
  order-hears_status m h = subst (IsInOrder read.there flow) (sym m.after) (there-frames m.link (with_heard (p.line m.link)) m.lines m.set refl refl h)

  pub back-hears_status : HearsStatus read p q → IsInOrder read.back flow (turned p) → IsInOrder read.back flow (turned q)
  back-hears_status m h =
      subst (λ (x : Pair). IsInOrder read.back flow (turned x)) (sym m.after) (back-frames m.link (with_heard (p.line m.link)) m.lines m.set refl refl h)

  pub order-takes_status : TakesStatus read p q → IsInOrder read.there flow p → IsInOrder read.there flow q
  order-takes_status m h = subst (IsInOrder read.there flow) (sym m.after) (there-frames m.link (with_statuses_left (p.line m.link) m.rest) m.lines m.set refl refl h)

  pub back-takes_status : TakesStatus read p q → IsInOrder read.back flow (turned p) → IsInOrder read.back flow (turned q)
  back-takes_status m h =
      subst (λ (x : Pair). IsInOrder read.back flow (turned x)) (sym m.after) (back-frames m.link (with_statuses_left (p.line m.link) m.rest) m.lines m.set refl refl h)

  pub order-doubles_status : DoublesStatus read p q → IsInOrder read.there flow p → IsInOrder read.there flow q
  order-doubles_status m h = subst (IsInOrder read.there flow) (sym m.after) (there-frames m.link (with_statuses_left (p.line m.link) (suc (suc m.rest))) m.lines m.set refl refl h)

  pub back-doubles_status : DoublesStatus read p q → IsInOrder read.back flow (turned p) → IsInOrder read.back flow (turned q)
  back-doubles_status m h =
      subst (λ (x : Pair). IsInOrder read.back flow (turned x)) (sym m.after) (back-frames m.link (with_statuses_left (p.line m.link) (suc (suc m.rest))) m.lines m.set refl refl h)

  pub order-drops : Drops read p q → IsInOrder read.there flow p → IsInOrder read.there flow q
  order-drops m h = subst (IsInOrder read.there flow) (sym m.after) (there-frames m.link (with_frames_left (p.line m.link) m.rest) m.lines m.set refl refl h)

  pub back-drops : Drops read p q → IsInOrder read.back flow (turned p) → IsInOrder read.back flow (turned q)
  back-drops m h =
      subst (λ (x : Pair). IsInOrder read.back flow (turned x)) (sym m.after) (back-frames m.link (with_frames_left (p.line m.link) m.rest) m.lines m.set refl refl h)

  pub order-takes_empty : TakesEmpty read p q → IsInOrder read.there flow p → IsInOrder read.there flow q
  order-takes_empty m h =
      subst (IsInOrder read.there flow) (sym m.after) (there-frames m.link (with_accepted (p.line m.link) m.rest false m.count) m.lines m.set refl refl h)

  pub back-takes_empty : TakesEmpty read p q → IsInOrder read.back flow (turned p) → IsInOrder read.back flow (turned q)
  back-takes_empty m h =
      subst (λ (x : Pair). IsInOrder read.back flow (turned x)) (sym m.after)
      (back-frames m.link (with_accepted (p.line m.link) m.rest false m.count) m.lines m.set refl refl h)

  pub order-takes_message : TakesMessage read p q → IsInOrder read.there flow p → IsInOrder read.there flow q
  order-takes_message m h =
      subst (IsInOrder read.there flow) (sym m.after)
      (there-line-same read.there flow p m.link (with_accepted (p.line m.link) m.rest true m.count) m.lines m.set refl refl
      (record p.near { arrived = p.near.arrived ++ m.message ∷ [] }) refl refl refl refl h)
