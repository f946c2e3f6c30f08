-- A flow that no procedure holds.
use Rattle.node_moves.proofs.Basics.{◌≡◌, ◌≢◌, ℕ, Bool, true, false, ◌&&◌, ◌||◌, refl, sym, ap, ◌∙◌, subst, true≢false}
use Rattle.flow_hold.proofs.Flows.{flows_add, flows_leave}
use Rattle.flow_hold.proofs.Pairing.{held_by, none_at_first}
use Rattle.flow_hold.specs.Holds.{with_flows, HoldSet, holds, is_held, is_same, may_hold, no_holds}
use Rattle.flow_hold.specs.declared.procedure.Procedure.{Procedure}
use Rattle.std.specs.FinSet.{FinSet, contains, contains-retain, retain}
use Rattle.flow_hold.specs.Holds.{Hold, by_numbers}
use Rattle.flow_hold.proofs.Numbers.{only_same_tie, same, same-itself}

module _ (destination sls : ℕ) where
  abbrev pub Free : HoldSet → Type 0
  Free h = (procedure : Procedure) → holds h procedure destination sls ≡ false

  pub none-held : (h : HoldSet) → Free h → is_held h destination sls ≡ false
  none-held h none = by (is_held h destination sls) refl
    where
      by : (b : Bool) → is_held h destination sls ≡ b → b ≡ false
      by false e = refl
      by true e = absurd (true≢false (sym ((held_by h destination sls).0 e).1 ∙ none ((held_by h destination sls).0 e).0))

  pub free-none : (links sets destinations : ℕ) → Free (no_holds links sets destinations)
  free-none links sets destinations procedure = none_at_first links sets destinations procedure destination sls

  either : {A : Type 0} (one other : Procedure) → (one ≡ other → A) → (one ≢ other → A) → A
  either {A} one other alike unlike = by (is_same one other) refl
    where
      by : (b : Bool) → is_same one other ≡ b → A
      by true e = alike (same one other e)
      by false e = unlike (λ f. true≢false (sym (ap (λ (p : Procedure). is_same p other) f ∙ same-itself other) ∙ e))

  and-false : (b : Bool) → (b && false) ≡ false
  and-false true = refl
  and-false false = refl

  or-second : (a c : Bool) → ((a && false) || c) ≡ c
  or-second true c = refl
  or-second false c = refl

  -- a procedure holds other flows
  pub free-flows : (h : HoldSet) (procedure : Procedure) (test : (place selection : ℕ) → Bool) → Free h → test destination sls ≡ false → Free (with_flows h procedure test)
  free-flows h procedure test f t = λ one.
      either one procedure
      (λ e.
      subst (λ (p : Procedure). holds (with_flows h procedure test) p destination sls ≡ false) (sym e)
      (flows_add h procedure test destination sls
      ∙ ap (λ (b : Bool). (may_hold h procedure destination sls && b) || holds h procedure destination sls) t
      ∙ or-second (may_hold h procedure destination sls) (holds h procedure destination sls)
      ∙ f procedure))
      (λ d. flows_leave h procedure one test destination sls d ∙ f one)

  abbrev pub FreeIn : FinSet by_numbers → Type 0
  FreeIn pairs = (procedure : Procedure) → contains pairs (record { procedure = procedure; destination = destination; sls = sls }) ≡ false

  staying : (pairs : FinSet by_numbers) (stays : Hold → Bool) (hold : Hold) → contains (retain pairs stays) hold ≡ (contains pairs hold && stays hold)
  staying pairs stays hold = contains-retain pairs stays hold (λ x tie. ap stays (sym (only_same_tie hold x tie)))

  -- some holds end
  pub free-less : (pairs : FinSet by_numbers) (stays : Hold → Bool) → FreeIn pairs → FreeIn (retain pairs stays)
  free-less pairs stays f = λ one.
      staying pairs stays (record { procedure = one; destination = destination; sls = sls })
      ∙ ap (λ (b : Bool). b && stays (record { procedure = one; destination = destination; sls = sls })) (f one)

  -- those of the procedure that held it end
  pub free-ended : (h : HoldSet) (procedure : Procedure) (test : (place selection : ℕ) → Bool) (stays : Hold → Bool) → Free h
      → stays (record { procedure = procedure; destination = destination; sls = sls }) ≡ false → FreeIn (retain (with_flows h procedure test).pairs stays)
  free-ended h procedure test stays f ends = λ one.
      staying (with_flows h procedure test).pairs stays (record { procedure = one; destination = destination; sls = sls })
      ∙ either one procedure
      (λ e.
      ap (λ (p : Procedure). holds (with_flows h procedure test) one destination sls && stays (record { procedure = p; destination = destination; sls = sls })) e
      ∙ ap (λ (b : Bool). holds (with_flows h procedure test) one destination sls && b) ends
      ∙ and-false (holds (with_flows h procedure test) one destination sls))
      (λ d. ap (λ (b : Bool). b && stays (record { procedure = one; destination = destination; sls = sls })) (flows_leave h procedure one test destination sls d ∙ f one))
