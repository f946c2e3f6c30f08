-- Every list of moves keeps all laws.
use Rattle.pair_moves.proofs.Basics.{◌≡◌, ◌⊎◌, inl, inr, ℕ, Bool, true, List, [], ◌∷◌, refl, ap, ◌∙◌}
use Rattle.pair_moves.proofs.Definitions.{Message, Flow, Reading, Saying, turned_reading, Pair, turned, NearMove, Move, Moves, last_of, IsInOrder, IsQuiet}
use Rattle.pair_moves.specs.Moves as moves
use Rattle.pair_moves.proofs.Lines.{line-turned}
use Rattle.pair_moves.proofs.Sound.{Sound}
use Rattle.pair_moves.proofs.First.{sound-quiet, order-quiet, quiet-turned}
use Rattle.pair_moves.proofs.Passed.{sound-accepts, sound-takes_out, sound-keeps, sound-places, sound-hands_over, sound-sends_status, sound-sends_message, sound-sends_empty, sound-hears_status, sound-takes_status, sound-doubles_status, sound-drops, sound-takes_empty, sound-takes_message}
use Rattle.pair_moves.proofs.Failed.{sound-falls, sound-falls_with_order, sound-orders_late, sound-completes_by_order, sound-answers_order, sound-completes_by_answer, sound-ends_wait, sound-ignores_answer}
use Rattle.pair_moves.proofs.Returned.{sound-opens_first, sound-opens_second, sound-enters, sound-declares, sound-waits, sound-confirms, sound-ends_hold, sound-ignores_confirmation, sound-holds_in_service, sound-runs_late}
use Rattle.pair_moves.proofs.Mixed.{sound-mixes_others, order-mixes_others, back-mixes_others}
use Rattle.pair_moves.proofs.OrderPassed as passed
use Rattle.pair_moves.proofs.OrderPlaced as placed
use Rattle.pair_moves.proofs.OrderFailed as failed
use Rattle.pair_moves.proofs.OrderReturned as returned

-- each flow is in order, or a hold was ended by its timer
abbrev pub Ordered : (Message → Saying) → Pair → Type 0
Ordered read p = (p.near.late ≡ true) ⊎ ((flow : Flow) → IsInOrder read flow p)

module _ (read : Reading) where
  pub record AllLaws (p : Pair) : Type 0 where
    pub sound : Sound read p
    pub there : Ordered read.there p
    pub back : Ordered read.back (turned p)

  -- the codes that the near and the far node had given up at first, which are those that they have given up
  pub record GivenUp (near far : ℕ → Bool) (p : Pair) : Type 0 where
    pub there : p.near.given_up ≡ near
    pub back : p.far.given_up ≡ far

  -- a node lost something, or all laws hold
  pub data IsKept (near far : ℕ → Bool) (p : Pair) : Type 0 where
    near_lost : p.near.lost ≡ true → IsKept near far p
    far_lost : p.far.lost ≡ true → IsKept near far p
    all_kept : AllLaws p → GivenUp near far p → IsKept near far p

module _ (read : Reading) where
  pub turned-laws : (p : Pair) → AllLaws read p → AllLaws (turned_reading read) (turned p)
  turned-laws p h = record {
    sound = record { lines = λ link. line-turned (p.line link) (h.sound.lines link); there = h.sound.back; back = h.sound.there };
    there = h.back;
    back = h.there;
  }

  turned-kept : (near far : ℕ → Bool) (p : Pair) → IsKept read near far p → IsKept (turned_reading read) far near (turned p)
  turned-kept near far p (near_lost e) = far_lost e
  turned-kept near far p (far_lost e) = near_lost e
  turned-kept near far p (all_kept h g) = all_kept (turned-laws p h) (record { there = g.back; back = g.there })

module _ (read : Reading) where
  -- ---- one move

  order-on : (read : Message → Saying) (p q : Pair) → q.near.late ≡ p.near.late → ((flow : Flow) → IsInOrder read flow p → IsInOrder read flow q) → Ordered read p → Ordered read q
  order-on read p q late step (inl e) = inl (late ∙ e)
  order-on read p q late step (inr h) = inr (λ flow. step flow (h flow))

  -- a move that raises no flag, and gives no code up
  step : (near far : ℕ → Bool) (p q x : Pair) → q ≡ x → x.near.lost ≡ p.near.lost → x.far.lost ≡ p.far.lost → x.near.late ≡ p.near.late → x.far.late ≡ p.far.late →
      x.near.given_up ≡ p.near.given_up → x.far.given_up ≡ p.far.given_up →
      (Sound read p → Sound read q) →
      ((flow : Flow) → Sound read p → IsInOrder read.there flow p → IsInOrder read.there flow q) →
      ((flow : Flow) → Sound read p → IsInOrder read.back flow (turned p) → IsInOrder read.back flow (turned q)) →
      IsKept read near far p → IsKept read near far q
  step near far p q x after lost far_lost' late far_late given far_given sound there back (near_lost e) = near_lost (ap (λ (y : Pair). y.near.lost) after ∙ lost ∙ e)
  step near far p q x after lost far_lost' late far_late given far_given sound there back (far_lost e) = far_lost (ap (λ (y : Pair). y.far.lost) after ∙ far_lost' ∙ e)
  step near far p q x after lost far_lost' late far_late given far_given sound there back (all_kept h g) =
      all_kept
      (record {
        sound = sound h.sound;
        there = order-on read.there p q (ap (λ (y : Pair). y.near.late) after ∙ late) (λ flow. there flow h.sound) h.there;
        back = order-on read.back (turned p) (turned q) (ap (λ (y : Pair). y.far.late) after ∙ far_late) (λ flow. back flow h.sound) h.back;
      })
      (record {
        there = ap (λ (y : Pair). y.near.given_up) after ∙ given ∙ g.there;
        back = ap (λ (y : Pair). y.far.given_up) after ∙ far_given ∙ g.back;
      })

  late-step : (near far : ℕ → Bool) (p q : Pair) → moves.RunsLate p q → IsKept read near far p → IsKept read near far q
  late-step near far p q m (near_lost e) = near_lost (ap (λ (y : Pair). y.near.lost) m.after ∙ e)
  late-step near far p q m (far_lost e) = far_lost (ap (λ (y : Pair). y.far.lost) m.after ∙ e)
  late-step near far p q m (all_kept h g) =
      all_kept
      (record {
        sound = sound-runs_late read p q m h.sound;
        there = inl (ap (λ (y : Pair). y.near.late) m.after);
        back = order-on read.back (turned p) (turned q) (ap (λ (y : Pair). y.far.late) m.after) (λ flow. returned.back-runs_late read flow p q m) h.back;
      })
      (record {
        there = ap (λ (y : Pair). y.near.given_up) m.after ∙ g.there;
        back = ap (λ (y : Pair). y.far.given_up) m.after ∙ g.back;
      })

  near-kept : (near far : ℕ → Bool) (p q : Pair) → NearMove read p q → IsKept read near far p → IsKept read near far q
  near-kept near far p q (moves.accepts m) =
      step near far p q _ m.after refl refl refl refl refl refl (sound-accepts read p q m) (λ f s. passed.order-accepts read f p q m) (λ f s. passed.back-accepts read f p q m)
  near-kept near far p q (moves.takes_out m) =
      step near far p q _ m.after refl refl refl refl refl refl (sound-takes_out read p q m) (λ f s. passed.order-takes_out read f p q m) (λ f s. passed.back-takes_out read f p q m)
  near-kept near far p q (moves.keeps m) =
      step near far p q _ m.after refl refl refl refl refl refl (sound-keeps read p q m) (λ f s. passed.order-keeps read f p q m) (λ f s. passed.back-keeps read f p q m)
  near-kept near far p q (moves.places m) =
      step near far p q _ m.after refl refl refl refl refl refl (sound-places read p q m) (λ f s. placed.order-places read f p q m s) (λ f s. placed.back-places read f p q m)
  near-kept near far p q (moves.hands_over m) =
      step near far p q _ m.after refl refl refl refl refl refl (sound-hands_over read p q m) (λ f s. passed.order-hands_over read f p q m) (λ f s. passed.back-hands_over read f p q m)
  near-kept near far p q (moves.mixes_others m) =
      step near far p q _ m.after refl refl refl refl refl refl (sound-mixes_others read p q m) (λ f s. order-mixes_others read p q m f) (λ f s. back-mixes_others read p q m f)
  near-kept near far p q (moves.sends_status m) =
      step near far p q _ m.after refl refl refl refl refl refl (sound-sends_status read p q m) (λ f s. passed.order-sends_status read f p q m) (λ f s. passed.back-sends_status read f p q m)
  near-kept near far p q (moves.sends_message m) =
      step near far p q _ m.after refl refl refl refl refl refl (sound-sends_message read p q m) (λ f s. passed.order-sends_message read f p q m) (λ f s. passed.back-sends_message read f p q m)
  near-kept near far p q (moves.sends_empty m) =
      step near far p q _ m.after refl refl refl refl refl refl (sound-sends_empty read p q m) (λ f s. passed.order-sends_empty read f p q m) (λ f s. passed.back-sends_empty read f p q m)
  near-kept near far p q (moves.hears_status m) =
      step near far p q _ m.after refl refl refl refl refl refl (sound-hears_status read p q m) (λ f s. passed.order-hears_status read f p q m) (λ f s. passed.back-hears_status read f p q m)
  near-kept near far p q (moves.takes_status m) =
      step near far p q _ m.after refl refl refl refl refl refl (sound-takes_status read p q m) (λ f s. passed.order-takes_status read f p q m) (λ f s. passed.back-takes_status read f p q m)
  near-kept near far p q (moves.doubles_status m) =
      step near far p q _ m.after refl refl refl refl refl refl (sound-doubles_status read p q m) (λ f s. passed.order-doubles_status read f p q m) (λ f s. passed.back-doubles_status read f p q m)
  near-kept near far p q (moves.drops m) =
      step near far p q _ m.after refl refl refl refl refl refl (sound-drops read p q m) (λ f s. passed.order-drops read f p q m) (λ f s. passed.back-drops read f p q m)
  near-kept near far p q (moves.takes_empty m) =
      step near far p q _ m.after refl refl refl refl refl refl (sound-takes_empty read p q m) (λ f s. passed.order-takes_empty read f p q m) (λ f s. passed.back-takes_empty read f p q m)
  near-kept near far p q (moves.takes_message m) =
      step near far p q _ m.after refl refl refl refl refl refl (sound-takes_message read p q m) (λ f s. passed.order-takes_message read f p q m) (λ f s. placed.back-takes_message read f p q m s)
  near-kept near far p q (moves.falls m) =
      step near far p q _ m.after refl refl refl refl refl refl (sound-falls read p q m) (λ f s. failed.order-falls read f p q m s) (λ f s. failed.back-falls read f p q m)
  near-kept near far p q (moves.falls_with_order m) =
      step near far p q _ m.after refl refl refl refl refl refl (sound-falls_with_order read p q m) (λ f s. failed.order-falls_with_order read f p q m s) (λ f s. failed.back-falls_with_order read f p q m)
  near-kept near far p q (moves.orders_late m) =
      step near far p q _ m.after refl refl refl refl refl refl (sound-orders_late read p q m) (λ f s. failed.order-orders_late read f p q m) (λ f s. failed.back-orders_late read f p q m)
  near-kept near far p q (moves.completes_by_order m) =
      step near far p q _ m.after refl refl refl refl refl refl (sound-completes_by_order read p q m) (λ f s. failed.order-completes_by_order read f p q m s) (λ f s. failed.back-completes_by_order read f p q m)
  near-kept near far p q (moves.answers_order m) =
      step near far p q _ m.after refl refl refl refl refl refl (sound-answers_order read p q m) (λ f s. failed.order-answers_order read f p q m) (λ f s. failed.back-answers_order read f p q m)
  near-kept near far p q (moves.completes_by_answer m) =
      step near far p q _ m.after refl refl refl refl refl refl (sound-completes_by_answer read p q m) (λ f s. failed.order-completes_by_answer read f p q m s) (λ f s. failed.back-completes_by_answer read f p q m)
  near-kept near far p q (moves.ends_wait m) =
      step near far p q _ m.after refl refl refl refl refl refl (sound-ends_wait read p q m) (λ f s. failed.order-ends_wait read f p q m) (λ f s. failed.back-ends_wait read f p q m)
  near-kept near far p q (moves.ignores_answer m) =
      step near far p q _ m.after refl refl refl refl refl refl (sound-ignores_answer read p q m) (λ f s. failed.order-ignores_answer read f p q m) (λ f s. failed.back-ignores_answer read f p q m)
  near-kept near far p q (moves.opens_first m) =
      step near far p q _ m.after refl refl refl refl refl refl (sound-opens_first read p q m) (λ f s. returned.order-opens_first read f p q m s) (λ f s. returned.back-opens_first read f p q m s)
  near-kept near far p q (moves.opens_second m) =
      step near far p q _ m.after refl refl refl refl refl refl (sound-opens_second read p q m) (λ f s. returned.order-opens_second read f p q m s) (λ f s. returned.back-opens_second read f p q m s)
  near-kept near far p q (moves.enters m) =
      step near far p q _ m.after refl refl refl refl refl refl (sound-enters read p q m) (λ f s. returned.order-enters read f p q m) (λ f s. returned.back-enters read f p q m)
  near-kept near far p q (moves.declares m) =
      step near far p q _ m.after refl refl refl refl refl refl (sound-declares read p q m) (λ f s. returned.order-declares read f p q m s) (λ f s. returned.back-declares read f p q m)
  near-kept near far p q (moves.waits_for_time m) =
      step near far p q _ m.after refl refl refl refl refl refl (sound-waits read p q m) (λ f s. returned.order-waits read f p q m) (λ f s. returned.back-waits read f p q m)
  near-kept near far p q (moves.confirms m) =
      step near far p q _ m.after refl refl refl refl refl refl (sound-confirms read p q m) (λ f s. returned.order-confirms read f p q m) (λ f s. returned.back-confirms read f p q m)
  near-kept near far p q (moves.ends_hold m) =
      step near far p q _ m.after refl refl refl refl refl refl (sound-ends_hold read p q m) (λ f s. returned.order-ends_hold read f p q m s) (λ f s. returned.back-ends_hold read f p q m)
  near-kept near far p q (moves.ignores_confirmation m) =
      step near far p q _ m.after refl refl refl refl refl refl (sound-ignores_confirmation read p q m) (λ f s. returned.order-ignores_confirmation read f p q m) (λ f s. returned.back-ignores_confirmation read f p q m)
  near-kept near far p q (moves.holds_in_service m) =
      step near far p q _ m.after refl refl refl refl refl refl (sound-holds_in_service read p q m) (λ f s. returned.order-holds_in_service read f p q m s) (λ f s. returned.back-holds_in_service read f p q m)
  near-kept near far p q (moves.runs_late m) = late-step near far p q m
  near-kept near far p q (moves.loses m) = λ h. near_lost m.lost

module _ (read : Reading) where
  pub move-kept : (near far : ℕ → Bool) (p q : Pair) → Move read p q → IsKept read near far p → IsKept read near far q
  move-kept near far p q (moves.near m) h = near-kept read near far p q m h
  move-kept near far p q (moves.far m) h =
      turned-kept (turned_reading read) far near (turned q) (near-kept (turned_reading read) far near (turned p) (turned q) m (turned-kept read near far p h))

  -- ---- a list of moves

  pub moves-kept : (near far : ℕ → Bool) (p : Pair) (pairs : List Pair) → Moves read p pairs → IsKept read near far p → IsKept read near far (last_of p pairs)
  moves-kept near far p [] m h = h
  moves-kept near far p (q ∷ pairs) m h = moves-kept near far q pairs m.1 (move-kept near far p q m.0 h)

  pub all-kept : (start : Pair) (pairs : List Pair) → IsQuiet read start → Moves read start pairs → IsKept read start.near.given_up start.far.given_up (last_of start pairs)
  all-kept start pairs quiet m =
      moves-kept start.near.given_up start.far.given_up start pairs m
      (all_kept
      (record {
        sound = sound-quiet read start quiet;
        there = inr (λ flow. order-quiet read flow start quiet);
        back = inr (λ flow. order-quiet (turned_reading read) flow (turned start) (quiet-turned read start quiet));
      })
      (record { there = refl; back = refl }))
