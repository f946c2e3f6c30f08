-- Lists of messages cut down to one flow, over links.
use Rattle.pair_moves.proofs.Basics.{◌≡◌, ◌≢◌, ◌⊎◌, inl, inr, ℕ, zero, suc, Bool, true, false, not, ◌&&◌, ◌<◌, List, [], ◌∷◌, ◌++◌, nat_eq, refl, ap, ◌∙◌, arith, if◌then◌else◌, ⊎_elim, cases_eq, nat_tests, append-nil, append_assoc}
use Rattle.pair_moves.proofs.Definitions.{Message, flow_of, Flow, Saying, is_user_message, is_of_flow, is_same_flow, users_of, managements_of, join_to, of_flow}
use Rattle.std.proofs.lemmas.List.Elements.{filter-append}
use Rattle.pair_moves.proofs.Lines.{false_is_true, true_is_false}

-- ---- empty or not

pub empty-or : (ms : List Message) → (ms ≡ []) ⊎ (ms ≢ [])
empty-or [] = inl refl
empty-or (m ∷ ms) = inr (λ e. absurd cc)

pub not-empty : (m : Message) (ms : List Message) → m ∷ ms ≢ []
not-empty m ms e = absurd cc

pub same-tail : (a b : Message) (xs ys : List Message) → a ∷ xs ≡ b ∷ ys → xs ≡ ys
same-tail a b xs ys e = cc

-- ---- over links

pub join-alike : (f g : ℕ → List Message) (n : ℕ) → ((k : ℕ) → k < n → g k ≡ f k) → join_to g n ≡ join_to f n
join-alike f g zero h = refl
join-alike f g (suc n) h = ap (λ (xs : List Message). xs ++ g n) (join-alike f g n (λ k l. h k (omega (arith, l)))) ∙ ap (λ (xs : List Message). join_to f n ++ xs) (h n (omega arith))

pub join-none : (f : ℕ → List Message) (n : ℕ) → ((k : ℕ) → k < n → f k ≡ []) → join_to f n ≡ []
join-none f zero h = refl
join-none f (suc n) h = ap (λ (xs : List Message). xs ++ f n) (join-none f n (λ k l. h k (omega (arith, l)))) ∙ h n (omega arith)

pub join-only : (f : ℕ → List Message) (n link : ℕ) → link < n → ((k : ℕ) → k < n → k ≢ link → f k ≡ []) → join_to f n ≡ f link
join-only f zero link l h = absurd (omega arith)
join-only f (suc n) link l h =
    ⊎_elim
    (λ (e : n ≡ link). ap (λ (xs : List Message). xs ++ f n) (join-none f n (λ k b. h k (omega (arith, b)) (λ d. absurd (omega (arith, b, d, e))))) ∙ ap f e)
    (λ (d : n ≢ link).
    ap (λ (xs : List Message). join_to f n ++ xs) (h n (omega arith) d) ∙ append-nil (join_to f n)
    ∙ join-only f n link (omega (arith, l, d)) (λ k b. h k (omega (arith, b))))
    (cases_eq n link)

-- ---- four lists in a row

pub four : (t w h l : List Message) → t ++ w ++ h ++ l ≡ t ++ (w ++ (h ++ l))
four t w h l = append_assoc (t ++ w) h l ∙ append_assoc t w (h ++ l)

-- ---- of one flow

module _ (read : Message → Saying) (flow : Flow) where
  one-of_flow : (b : Bool) (m : Message) (xs : List Message) → b ≡ false → (if b then m ∷ xs else xs) ≡ xs
  one-of_flow true m xs e = true_is_false e
  one-of_flow false m xs e = refl

  one-in_flow : (b : Bool) (m : Message) (xs : List Message) → b ≡ true → (if b then m ∷ xs else xs) ≡ m ∷ xs
  one-in_flow true m xs e = refl
  one-in_flow false m xs e = false_is_true e

  -- a message of another flow, or of none, comes first
  pub flow-without : (m : Message) (ms : List Message) → is_of_flow read flow m ≡ false → of_flow read flow (m ∷ ms) ≡ of_flow read flow ms
  flow-without m ms e = one-of_flow (is_of_flow read flow m) m (of_flow read flow ms) e

  pub flow-with : (m : Message) (ms : List Message) → is_of_flow read flow m ≡ true → of_flow read flow (m ∷ ms) ≡ m ∷ of_flow read flow ms
  flow-with m ms e = one-in_flow (is_of_flow read flow m) m (of_flow read flow ms) e

  pub flow-append : (xs ys : List Message) → of_flow read flow (xs ++ ys) ≡ of_flow read flow xs ++ of_flow read flow ys
  flow-append xs ys = filter-append (is_of_flow read flow) xs ys

  pub flow-append_without : (xs : List Message) (m : Message) → is_of_flow read flow m ≡ false → of_flow read flow (xs ++ m ∷ []) ≡ of_flow read flow xs
  flow-append_without xs m e = flow-append xs (m ∷ []) ∙ ap (λ (ys : List Message). of_flow read flow xs ++ ys) (flow-without m [] e) ∙ append-nil (of_flow read flow xs)

  pub flow-append_with : (xs : List Message) (m : Message) → is_of_flow read flow m ≡ true → of_flow read flow (xs ++ m ∷ []) ≡ of_flow read flow xs ++ m ∷ []
  flow-append_with xs m e = flow-append xs (m ∷ []) ∙ ap (λ (ys : List Message). of_flow read flow xs ++ ys) (flow-with m [] e)

  -- a message that is no user message is of no flow
  other-and : (a b : Bool) → a ≡ false → (a && b) ≡ false
  other-and true b e = true_is_false e
  other-and false b e = refl

  pub of-no-flow : (m : Message) (s : Saying) → read m ≡ s → is_user_message s ≡ false → is_of_flow read flow m ≡ false
  of-no-flow m s e other = other-and (is_user_message (read m)) (is_same_flow (flow_of m) flow) (ap is_user_message e ∙ other)

  and-first : (a b : Bool) → (a && b) ≡ true → a ≡ true
  and-first true b e = refl
  and-first false b e = e

  and-second : (a b : Bool) → (a && b) ≡ true → b ≡ true
  and-second true b e = e
  and-second false b e = false_is_true e

  same-number : (a b : ℕ) → nat_eq a b ≡ true → a ≡ b
  same-number a b e = grind (arith, nat_tests)

  pub of-flow-is : (m : Message) → is_of_flow read flow m ≡ true → flow_of m ≡ flow
  of-flow-is m e =
      let s : is_same_flow (flow_of m) flow ≡ true = and-second (is_user_message (read m)) (is_same_flow (flow_of m) flow) e in
      let point : (flow_of m).point ≡ flow.point = same-number (flow_of m).point flow.point (and-first (nat_eq (flow_of m).point flow.point) (nat_eq (flow_of m).sls flow.sls) s) in
      let sls : (flow_of m).sls ≡ flow.sls = same-number (flow_of m).sls flow.sls (and-second (nat_eq (flow_of m).point flow.point) (nat_eq (flow_of m).sls flow.sls) s) in
      λ i. record { point = point i; sls = sls i }

  pub of-flow-user : (m : Message) → is_of_flow read flow m ≡ true → is_user_message (read m) ≡ true
  of-flow-user m e = and-first (is_user_message (read m)) (is_same_flow (flow_of m) flow) e

  -- the user messages of a list have all of the flow, the others none
  kept-out : (a : Bool) (m : Message) (xs : List Message) → (a ≡ true → false ≡ true) → xs ≡ (if a then m ∷ xs else xs)
  kept-out true m xs h = false_is_true (h refl)
  kept-out false m xs h = refl

  through : (b : Bool) (m : Message) (xs : List Message) → (is_of_flow read flow m ≡ true → b ≡ true) →
      of_flow read flow (if b then m ∷ xs else xs) ≡ (if is_of_flow read flow m then m ∷ of_flow read flow xs else of_flow read flow xs)
  through true m xs h = refl
  through false m xs h = kept-out (is_of_flow read flow m) m (of_flow read flow xs) h

  pub flow-users : (ms : List Message) → of_flow read flow (users_of read ms) ≡ of_flow read flow ms
  flow-users [] = refl
  flow-users (m ∷ ms) =
      through (is_user_message (read m)) m (users_of read ms) (of-flow-user m)
      ∙ ap (λ (xs : List Message). if is_of_flow read flow m then m ∷ xs else xs) (flow-users ms)

  other-one : (user : Bool) (m : Message) (xs : List Message) → (user ≡ false → is_of_flow read flow m ≡ false) →
      of_flow read flow (if not user then m ∷ xs else xs) ≡ of_flow read flow xs
  other-one true m xs h = refl
  other-one false m xs h = flow-without m xs (h refl)

  pub flow-managements : (ms : List Message) → of_flow read flow (managements_of read ms) ≡ []
  flow-managements [] = refl
  flow-managements (m ∷ ms) =
      other-one (is_user_message (read m)) m (managements_of read ms)
      (other-and (is_user_message (read m)) (is_same_flow (flow_of m) flow))
      ∙ flow-managements ms
