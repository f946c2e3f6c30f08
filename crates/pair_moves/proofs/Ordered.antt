-- The order of one flow, kept by a move that is characterized by what it changes.
use Rattle.pair_moves.proofs.Basics.{◌≡◌, ◌≢◌, ℕ, true, false, ◌<◌, List, [], ◌∷◌, ◌++◌, ap, sym, ◌∙◌, arith, Option, Some, append-nil, append_assoc}
use Rattle.pair_moves.proofs.Definitions.{Message, Flow, Saying, is_of_flow, Procedure, Changeover, Code, Time, Pair, unreceived, join_to, of_flow, standing_on, IsGuarded, by_route, by_changeover, by_time, by_code, IsInOrder}
use Rattle.pair_moves.proofs.Joins.{join-alike, four, flow-append_without}

same-some : (a b : ℕ) → Some a ≡ Some b → a ≡ b
same-some a b e = cc

-- a route that is known leads to one link
pub one-route : (o : Option ℕ) (a b : ℕ) → o ≡ Some a → o ≡ Some b → a ≡ b
one-route o a b e f = same-some a b (sym e ∙ f)

module _ (read : Message → Saying) (flow : Flow) where
  abbrev of : List Message → List Message
  of ms = of_flow read flow ms

  -- what the far node has of the flow, what is on links, and what is held or loose after that
  abbrev pub received_of : Pair → List Message
  received_of p = of p.far.received ++ of p.far.arrived

  abbrev pub standing_of : Pair → List Message
  standing_of p = join_to (standing_on read flow p) p.links

  abbrev pub behind_of : Pair → List Message
  behind_of p = of p.near.held ++ of p.near.loose

  pub sequence-of : (p : Pair) → IsInOrder read flow p → of p.near.accepted ≡ received_of p ++ (standing_of p ++ behind_of p)
  sequence-of p h = h.sequence ∙ four (received_of p) (standing_of p) (of p.near.held) (of p.near.loose)

  pub in-sequence : (p : Pair) → of p.near.accepted ≡ received_of p ++ (standing_of p ++ behind_of p) →
      of p.near.accepted ≡ of p.far.received ++ of p.far.arrived ++ standing_of p ++ of p.near.held ++ of p.near.loose
  in-sequence p e = e ∙ sym (four (received_of p) (standing_of p) (of p.near.held) (of p.near.loose))

  added-behind : (t w b m : List Message) → (t ++ (w ++ b)) ++ m ≡ t ++ (w ++ (b ++ m))
  added-behind t w b m = append_assoc t (w ++ b) m ∙ ap (λ (xs : List Message). t ++ xs) (append_assoc w b m)

  -- what is on links is as before
  pub order-still : (p q : Pair) → q.links ≡ p.links → ((k : ℕ) → standing_on read flow q k ≡ standing_on read flow p k) → (added : List Message) →
      of q.near.accepted ≡ of p.near.accepted ++ added → received_of q ≡ received_of p → behind_of q ≡ behind_of p ++ added →
      ((k : ℕ) → k < p.links → standing_on read flow p k ≢ [] → IsGuarded read flow p k → IsGuarded read flow q k) →
      IsInOrder read flow p → IsInOrder read flow q
  order-still p q links standing added accepted received behind guard h =
      let joined : standing_of q ≡ standing_of p =
      ap (join_to (standing_on read flow q)) links ∙ join-alike (standing_on read flow p) (standing_on read flow q) p.links (λ k l. standing k) in
      record {
        sequence = in-sequence q
            (accepted ∙ ap (λ (xs : List Message). xs ++ added) (sequence-of p h) ∙ added-behind (received_of p) (standing_of p) (behind_of p) added
            ∙ ap (λ (xs : List Message). received_of p ++ (standing_of p ++ xs)) (sym behind)
            ∙ ap (λ (xs : List Message). received_of p ++ (xs ++ behind_of q)) (sym joined)
            ∙ ap (λ (xs : List Message). xs ++ (standing_of q ++ behind_of q)) (sym received));
        single = λ k j kl jl sk sj. h.single k j (omega (arith, kl, links)) (omega (arith, jl, links)) (λ e. sk (standing k ∙ e)) (λ e. sj (standing j ∙ e));
        guard = λ k l s. let s' : standing_on read flow p k ≢ [] = λ e. s (standing k ∙ e) in
            guard k (omega (arith, l, links)) s' (h.guard k (omega (arith, l, links)) s');
      }

  -- the same, where nothing is added
  pub order-same : (p q : Pair) → q.links ≡ p.links → ((k : ℕ) → standing_on read flow q k ≡ standing_on read flow p k) →
      of q.near.accepted ≡ of p.near.accepted → received_of q ≡ received_of p → behind_of q ≡ behind_of p →
      ((k : ℕ) → k < p.links → standing_on read flow p k ≢ [] → IsGuarded read flow p k → IsGuarded read flow q k) →
      IsInOrder read flow p → IsInOrder read flow q
  order-same p q links standing accepted received behind guard h =
      order-still p q links standing [] (accepted ∙ sym (append-nil (of p.near.accepted))) received (behind ∙ sym (append-nil (behind_of p))) guard h

  -- a guard goes on where routes, holds and changeovers do, and what is unreceived is as before
  pub guard-kept : (p q : Pair) (k : ℕ) →
      (p.near.route flow ≡ Some k → IsGuarded read flow q k) →
      (p.near.holds (Changeover k) flow ≡ true → (p.line k).near.incomplete ≡ true → IsGuarded read flow q k) →
      ((link : ℕ) → p.near.holds (Time link) flow ≡ true → q.near.holds (Time link) flow ≡ true) →
      ((code : ℕ) → p.near.holds (Code code) flow ≡ true → q.near.holds (Code code) flow ≡ true) →
      unreceived (q.line k) ≡ unreceived (p.line k) →
      IsGuarded read flow p k → IsGuarded read flow q k
  guard-kept p q k route change time code same (by_route e) = route e
  guard-kept p q k route change time code same (by_changeover held incomplete) = change held incomplete
  guard-kept p q k route change time code same (by_time link held) = by_time link (time link held)
  guard-kept p q k route change time code same (by_code c held ahead declaration behind is says none) =
      by_code c (code c held) ahead declaration behind (same ∙ is) says none

  -- where nothing of that changes
  pub guard-same : (p q : Pair) (k : ℕ) → q.near.route ≡ p.near.route → q.near.holds ≡ p.near.holds →
      (q.line k).near.incomplete ≡ (p.line k).near.incomplete → unreceived (q.line k) ≡ unreceived (p.line k) →
      IsGuarded read flow p k → IsGuarded read flow q k
  guard-same p q k route holds incomplete same =
      guard-kept p q k (λ e. by_route (ap (λ r. r flow) route ∙ e))
      (λ held i. by_changeover (ap (λ r. r (Changeover k) flow) holds ∙ held) (incomplete ∙ i))
      (λ link held. ap (λ r. r (Time link) flow) holds ∙ held)
      (λ code held. ap (λ r. r (Code code) flow) holds ∙ held) same

  -- one more message that is of no flow comes after those of a link
  pub guard-behind : (p q : Pair) (k : ℕ) (m : Message) → is_of_flow read flow m ≡ false →
      (p.near.route flow ≡ Some k → IsGuarded read flow q k) →
      ((procedure : Procedure) → p.near.holds procedure flow ≡ true → q.near.holds procedure flow ≡ true) →
      (q.line k).near.incomplete ≡ (p.line k).near.incomplete →
      unreceived (q.line k) ≡ unreceived (p.line k) ++ m ∷ [] →
      IsGuarded read flow p k → IsGuarded read flow q k
  guard-behind p q k m other route holds incomplete more (by_route e) = route e
  guard-behind p q k m other route holds incomplete more (by_changeover held i) = by_changeover (holds (Changeover k) held) (incomplete ∙ i)
  guard-behind p q k m other route holds incomplete more (by_time link held) = by_time link (holds (Time link) held)
  guard-behind p q k m other route holds incomplete more (by_code c held ahead declaration behind is says none) =
      by_code c (holds (Code c) held) ahead declaration (behind ++ m ∷ [])
      (more ∙ ap (λ (xs : List Message). xs ++ m ∷ []) is ∙ append_assoc ahead (declaration ∷ behind) (m ∷ [])) says
      (flow-append_without read flow behind m other ∙ none)
