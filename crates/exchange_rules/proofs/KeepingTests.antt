-- T10 of a route runs on as timers are set, and stops only if the route is allowed.
use Rattle.exchange_rules.proofs.Basics.{◌≡◌, ◌≢◌, ℕ, Bool, true, false, ◌==◌, refl, ap, sym, subst, ◌∙◌, arith, ⊎_elim, is_some, nat_tests}
use Rattle.exchange_rules.proofs.Definitions.{Configuration, RouteStatus, Allowed, Restricted, Prohibited, TimerName, Running, is_running, set_timer, clear_timer, clear_set, left-clear_other, left-clear_set_other, Parts, timed_telling}
use Rattle.timers.specs.declared.name.TimerName.TheVariants as name
use Rattle.timers.specs.declared.name.RouteTimer.TheVariants as of_set
use Rattle.exchange_rules.specs.Testing.{is_unsure}
use Rattle.exchange_rules.proofs.TimerSettings.{cases-name, set-still}
use Rattle.exchange_rules.proofs.Steps.{status_over, KeepsTests}

no-way : {A : Type 0} (b : Bool) → b ≡ true → b ≡ false → A
no-way b e f = (let no : true ≡ false = sym e ∙ f in absurd cc)

module _ (p : Parts) where
  pub still-tests : (r : Running) → ((set destination : ℕ) → is_running (name.T10 set destination) p.timers ≡ true → is_running (name.T10 set destination) r ≡ true) → KeepsTests p r
  still-tests r f = record { each = λ set destination e g. no-way (is_running (name.T10 set destination) r) (f set destination e) g }

  pub set-tests : (its : TimerName) (ticks : ℕ) → KeepsTests p (set_timer its ticks p.timers)
  set-tests its ticks = still-tests (set_timer its ticks p.timers) (λ set destination e. set-still its ticks p.timers (name.T10 set destination) e)

  pub telling-tests : (c : Configuration) (set destination : ℕ) (status : RouteStatus) → KeepsTests p (timed_telling c set destination status p.timers)
  telling-tests c set destination Prohibited = set-tests (name.T8 set destination) c.timers.t8
  telling-tests c set destination Restricted = still-tests p.timers (λ s d e. e)
  telling-tests c set destination Allowed = still-tests p.timers (λ s d e. e)

  pub clear-tests : (set destination : ℕ) → is_unsure (status_over set destination p.routes) ≡ false → KeepsTests p (clear_timer (name.T10 set destination) p.timers)
  clear-tests set destination sure = record {
    each = λ s d e g. ⊎_elim
        (λ (same : name.T10 set destination ≡ name.T10 s d). sure-at s d same)
        (λ (apart : name.T10 set destination ≢ name.T10 s d).
        no-way (is_running (name.T10 s d) (clear_timer (name.T10 set destination) p.timers)) (ap is_some (left-clear_other (name.T10 set destination) (name.T10 s d) p.timers apart) ∙ e) g)
        (cases-name (name.T10 set destination) (name.T10 s d));
  }
    where
      sure-at : (s d : ℕ) → name.T10 set destination ≡ name.T10 s d → is_unsure (status_over s d p.routes) ≡ false
      sure-at s d same =
          let one : set ≡ s = cc in
          let other : destination ≡ d = cc in
          subst (λ (k : ℕ). is_unsure (status_over k d p.routes) ≡ false) one (subst (λ (k : ℕ). is_unsure (status_over set k p.routes) ≡ false) other sure)

  pub reset-tests : (set : ℕ) → ((destination : ℕ) → is_unsure (status_over set destination p.routes) ≡ false) → KeepsTests p (clear_set of_set.T10 set (clear_set of_set.T8 set p.timers))
  reset-tests set sure = record { each = λ s d e g. by s d (s == set) refl e g }
    where
      same-set : {m n : ℕ} → (m == n) ≡ true → m ≡ n
      same-set {m} {n} e = grind (arith, nat_tests, e)

      by : (s d : ℕ) (b : Bool) → (s == set) ≡ b → is_running (name.T10 s d) p.timers ≡ true
          → is_running (name.T10 s d) (clear_set of_set.T10 set (clear_set of_set.T8 set p.timers)) ≡ false → is_unsure (status_over s d p.routes) ≡ false
      by s d true h e g = subst (λ (k : ℕ). is_unsure (status_over k d p.routes) ≡ false) (sym (same-set h)) (sure d)
      by s d false h e g =
          no-way (is_running (name.T10 s d) (clear_set of_set.T10 set (clear_set of_set.T8 set p.timers)))
          (ap is_some (left-clear_set_other of_set.T10 set (name.T10 s d) (clear_set of_set.T8 set p.timers) h ∙ left-clear_set_other of_set.T8 set (name.T10 s d) p.timers refl) ∙ e) g
