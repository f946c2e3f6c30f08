-- A pair after a hold of all flows for which a test holds, and before.
use Rattle.flow_hold.proofs.Basics.{◌≡◌, ℕ, Bool, true, false, ◌&&◌, ◌||◌, refl, ap, sym, ◌∙◌, ◌⊎◌, inl, inr, and_parts, Procedure, HoldSet, is_same, holds, is_held, may_hold, with_flows, or_right, or_left, and_from, false≢true}
use Rattle.flow_hold.proofs.Numbers.{same, same-itself}
use Rattle.flow_hold.proofs.Pairing.{held_by}
use Rattle.flow_hold.proofs.Flows.{flows_add, flows_leave}

-- a pair is added: it is that of the procedure with a flow that it may hold, of which the test is true
pub record IsAddedPair (h : HoldSet) (procedure : Procedure) (test : ℕ → ℕ → Bool) (other : Procedure) (destination sls : ℕ) : Type 0 where
  pub by : other ≡ procedure
  pub may : may_hold h procedure destination sls ≡ true
  pub passing : test destination sls ≡ true

pub flows_has : (h : HoldSet) (procedure : Procedure) (test : ℕ → ℕ → Bool) (destination sls : ℕ) → may_hold h procedure destination sls ≡ true → test destination sls ≡ true →
    holds (with_flows h procedure test) procedure destination sls ≡ true
flows_has h procedure test destination sls may e =
    flows_add h procedure test destination sls
    ∙ or_left (may_hold h procedure destination sls && test destination sls) (holds h procedure destination sls) (and_from (may_hold h procedure destination sls) (test destination sls) may e)

keep-case : (h : HoldSet) (procedure other : Procedure) (test : ℕ → ℕ → Bool) (destination sls : ℕ) (b : Bool) → is_same other procedure ≡ b → holds h other destination sls ≡ true →
    holds (with_flows h procedure test) other destination sls ≡ true
keep-case h procedure other test destination sls true is e =
    let it : other ≡ procedure = same other procedure is in
    ap (λ (p : Procedure). holds (with_flows h procedure test) p destination sls) it
    ∙ flows_add h procedure test destination sls
    ∙ or_right (may_hold h procedure destination sls && test destination sls) (holds h procedure destination sls) (ap (λ (p : Procedure). holds h p destination sls) (sym it) ∙ e)
keep-case h procedure other test destination sls false is e =
    flows_leave h procedure other test destination sls (λ it. false≢true (sym is ∙ ap (λ (p : Procedure). is_same p procedure) it ∙ same-itself procedure)) ∙ e

pub flows_keep : (h : HoldSet) (procedure other : Procedure) (test : ℕ → ℕ → Bool) (destination sls : ℕ) → holds h other destination sls ≡ true →
    holds (with_flows h procedure test) other destination sls ≡ true
flows_keep h procedure other test destination sls e = keep-case h procedure other test destination sls (is_same other procedure) refl e

was-added : (h : HoldSet) (procedure : Procedure) (test : ℕ → ℕ → Bool) (other : Procedure) (destination sls : ℕ) (b : Bool) → other ≡ procedure → (may_hold h procedure destination sls && test destination sls) ≡ b →
    (b || holds h procedure destination sls) ≡ true → IsAddedPair h procedure test other destination sls ⊎ (holds h other destination sls ≡ true)
was-added h procedure test other destination sls true it e f =
    let parts : (may_hold h procedure destination sls ≡ true) × (test destination sls ≡ true) = and_parts (may_hold h procedure destination sls) (test destination sls) e in
    inl (record { by = it; may = parts.0; passing = parts.1 })
was-added h procedure test other destination sls false it e f = inr (ap (λ (p : Procedure). holds h p destination sls) it ∙ f)

was-case : (h : HoldSet) (procedure other : Procedure) (test : ℕ → ℕ → Bool) (destination sls : ℕ) (b : Bool) → is_same other procedure ≡ b → holds (with_flows h procedure test) other destination sls ≡ true →
    IsAddedPair h procedure test other destination sls ⊎ (holds h other destination sls ≡ true)
was-case h procedure other test destination sls true is e =
    let it : other ≡ procedure = same other procedure is in
    was-added h procedure test other destination sls (may_hold h procedure destination sls && test destination sls) it refl
    (sym (flows_add h procedure test destination sls) ∙ ap (λ (p : Procedure). holds (with_flows h procedure test) p destination sls) (sym it) ∙ e)
was-case h procedure other test destination sls false is e =
    inr (sym (flows_leave h procedure other test destination sls (λ it. false≢true (sym is ∙ ap (λ (p : Procedure). is_same p procedure) it ∙ same-itself procedure))) ∙ e)

pub flows_was : (h : HoldSet) (procedure other : Procedure) (test : ℕ → ℕ → Bool) (destination sls : ℕ) → holds (with_flows h procedure test) other destination sls ≡ true →
    IsAddedPair h procedure test other destination sls ⊎ (holds h other destination sls ≡ true)
flows_was h procedure other test destination sls e = was-case h procedure other test destination sls (is_same other procedure) refl e

-- what was held stays held
pub flows_keep_held : (h : HoldSet) (procedure : Procedure) (test : ℕ → ℕ → Bool) (destination sls : ℕ) → is_held h destination sls ≡ true → is_held (with_flows h procedure test) destination sls ≡ true
flows_keep_held h procedure test destination sls e =
    let found : (other : Procedure) × (holds h other destination sls ≡ true) = (held_by h destination sls).0 e in
    (held_by (with_flows h procedure test) destination sls).1 (found.0, flows_keep h procedure found.0 test destination sls found.1)
