-- Messages that the laws don't mention come, leave and change places: all laws stay.
use Rattle.pair_moves.proofs.Basics.{◌≡◌, ℕ, Bool, true, false, not, ◌+◌, ◌&&◌, List, [], ◌∷◌, ◌++◌, count_by, refl, ap, sym, ◌∙◌, subst, arith, if◌then◌else◌}
use Rattle.pair_moves.proofs.Definitions.{Message, Flow, Reading, turned_reading, Saying, UserMessage, Order, Answer, Declaration, Confirmation, Other, is_other, is_user_message, is_same_flow, is_of_flow, flow_of, Side, Pair, turned, last_accepted, is_order, is_answer, is_untrue, is_declaration, is_confirmation, without_others, MixesOthers, under_way, one_if, saying, user, of_flow, IsInOrder}
use Rattle.pair_moves.proofs.Counts.{count-cons}
use Rattle.pair_moves.proofs.Lines.{false_is_true, true_is_false}
use Rattle.pair_moves.proofs.Books.{Tallies, untrue_of}
use Rattle.pair_moves.proofs.Sound.{Sound}
use Rattle.pair_moves.proofs.Joins.{flow-without}
use Rattle.pair_moves.proofs.OrderSame.{there-quiet, back-side}

-- ---- what is said by none of them

other-is : (s : Saying) → is_other s ≡ true → s ≡ Other
other-is UserMessage e = false_is_true e
other-is (Order link number) e = false_is_true e
other-is (Answer link number) e = false_is_true e
other-is (Declaration code) e = false_is_true e
other-is (Confirmation code) e = false_is_true e
other-is Other e = refl

no-user : (b t : Bool) → b ≡ false → (b && t) ≡ false
no-user true t e = true_is_false e
no-user false t e = refl

module _ (read : Message → Saying) where
  -- a test that none of them passes
  pub record IsDeaf (test : Message → Bool) : Type 0 where
    pub deaf : (m : Message) → is_other (read m) ≡ true → test m ≡ false

  pub deaf-saying : (test : Saying → Bool) → test Other ≡ false → IsDeaf (saying read test)
  deaf-saying test none = record { deaf = λ m e. ap test (other-is (read m) e) ∙ none }

  pub deaf-user : (test : Message → Bool) → IsDeaf (user read test)
  deaf-user test = record { deaf = λ m e. no-user (is_user_message (read m)) (test m) (ap is_user_message (other-is (read m) e)) }

  -- ---- lists

  count-one_left : (test : Message → Bool) (other : Bool) (m : Message) (xs : List Message) (n : ℕ) → (other ≡ true → test m ≡ false) →
      count_by test xs ≡ n → count_by test (if not other then m ∷ xs else xs) ≡ one_if (test m) + n
  count-one_left test true m xs n deaf e = omega (arith, e, ap one_if (deaf refl))
  count-one_left test false m xs n deaf e = count-cons test m xs ∙ ap (λ (k : ℕ). one_if (test m) + k) e

  count-left : (test : Message → Bool) → IsDeaf test → (ms : List Message) → count_by test (without_others read ms) ≡ count_by test ms
  count-left test d [] = refl
  count-left test d (m ∷ ms) =
      count-one_left test (is_other (read m)) m (without_others read ms) (count_by test ms) (d.deaf m) (count-left test d ms) ∙ sym (count-cons test m ms)

  pub count-stays : (test : Message → Bool) → IsDeaf test → (xs ys : List Message) → without_others read xs ≡ without_others read ys →
      count_by test xs ≡ count_by test ys
  count-stays test d xs ys e = sym (count-left test d xs) ∙ ap (count_by test) e ∙ count-left test d ys

  flow-one_left : (flow : Flow) (other : Bool) (m : Message) (xs : List Message) → (other ≡ true → is_of_flow read flow m ≡ false) →
      of_flow read flow (if not other then m ∷ xs else xs) ≡ of_flow read flow (m ∷ xs)
  flow-one_left flow true m xs deaf = sym (flow-without read flow m xs (deaf refl))
  flow-one_left flow false m xs deaf = refl

  flow-left : (flow : Flow) (ms : List Message) → of_flow read flow (without_others read ms) ≡ of_flow read flow ms
  flow-left flow [] = refl
  flow-left flow (m ∷ ms) =
      flow-one_left flow (is_other (read m)) m (without_others read ms) ((deaf-user (λ x. is_same_flow (flow_of x) flow)).deaf m)
      ∙ ap (λ (xs : List Message). if is_of_flow read flow m then m ∷ xs else xs) (flow-left flow ms)

  pub flow-stays : (flow : Flow) (xs ys : List Message) → without_others read xs ≡ without_others read ys → of_flow read flow xs ≡ of_flow read flow ys
  flow-stays flow xs ys e = sym (flow-left flow xs) ∙ ap (of_flow read flow) e ∙ flow-left flow ys

-- ---- the move

module _ (read : Reading) (p q : Pair) (m : MixesOthers read p q) where
  abbrev s : Side
  s = record p.near { held = m.held; loose = m.loose; arrived = m.arrived }

  abbrev mixed : Pair
  mixed = record p { near = s }

  -- as many are under way as before
  way-there : (test : Message → Bool) → IsDeaf read.there test → under_way test mixed ≡ under_way test p
  way-there test d = omega (arith, count-stays read.there test d m.held p.near.held m.held_stay, count-stays read.there test d m.loose p.near.loose m.loose_stay)

  way-back : (test : Message → Bool) → IsDeaf read.back test → under_way test (turned mixed) ≡ under_way test (turned p)
  way-back test d = omega (arith, count-stays read.back test d m.arrived p.near.arrived m.arrived_stay)

  tallies-mixed : Tallies read p → Tallies read mixed
  tallies-mixed t = record {
    orders = λ link. omega (arith, way-there (saying read.there (is_order link)) (deaf-saying read.there (is_order link) refl), way-back (saying read.back (is_answer link)) (deaf-saying read.back (is_answer link) refl), t.orders link);
    words = λ link.
        omega (arith, way-there (untrue_of read.there link (p.line link).near) (deaf-saying read.there (is_untrue link (p.line link).near.up (last_accepted (p.line link).near.queue)) refl), t.words link);
    codes = λ code. omega (arith, way-there (saying read.there (is_declaration code)) (deaf-saying read.there (is_declaration code) refl), way-back (saying read.back (is_confirmation code)) (deaf-saying read.back (is_confirmation code) refl), t.codes code);
    once = λ test. omega (arith, way-there (user read.there test) (deaf-user read.there test), t.once test);
  }

  tallies-mixed_back : Tallies (turned_reading read) (turned p) → Tallies (turned_reading read) (turned mixed)
  tallies-mixed_back t = record {
    orders = λ link. omega (arith, way-back (saying read.back (is_order link)) (deaf-saying read.back (is_order link) refl), way-there (saying read.there (is_answer link)) (deaf-saying read.there (is_answer link) refl), t.orders link);
    words = λ link.
        omega (arith, way-back (untrue_of read.back link (p.line link).far) (deaf-saying read.back (is_untrue link (p.line link).far.up (last_accepted (p.line link).far.queue)) refl), t.words link);
    codes = λ code. omega (arith, way-back (saying read.back (is_declaration code)) (deaf-saying read.back (is_declaration code) refl), way-there (saying read.there (is_confirmation code)) (deaf-saying read.there (is_confirmation code) refl), t.codes code);
    once = λ test. omega (arith, way-back (user read.back test) (deaf-user read.back test), t.once test);
  }

  pub sound-mixes_others : Sound read p → Sound read q
  sound-mixes_others h = subst (Sound read) (sym m.after) (record { lines = h.lines; there = tallies-mixed h.there; back = tallies-mixed_back h.back })

  pub order-mixes_others : (flow : Flow) → IsInOrder read.there flow p → IsInOrder read.there flow q
  order-mixes_others flow h =
      subst (IsInOrder read.there flow) (sym m.after)
      (there-quiet read.there flow p s refl
      (ap (λ (xs : List Message). xs ++ of_flow read.there flow m.loose) (flow-stays read.there flow m.held p.near.held m.held_stay)
      ∙ ap (λ (xs : List Message). of_flow read.there flow p.near.held ++ xs) (flow-stays read.there flow m.loose p.near.loose m.loose_stay))
      refl refl h)

  pub back-mixes_others : (flow : Flow) → IsInOrder read.back flow (turned p) → IsInOrder read.back flow (turned q)
  back-mixes_others flow h =
      subst (λ (x : Pair). IsInOrder read.back flow (turned x)) (sym m.after)
      (back-side read.back flow p s (ap (λ (xs : List Message). of_flow read.back flow p.near.received ++ xs) (flow-stays read.back flow m.arrived p.near.arrived m.arrived_stay)) h)
