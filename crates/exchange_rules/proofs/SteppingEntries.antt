-- A link begins to carry traffic: the rule is made of steps.
use Rattle.exchange_rules.proofs.Basics.{◌≡◌, ◌≢◌, ℕ, Bool, true, false, ◌&&◌, not, length, refl, ap, ◌∙◌, inl}
use Rattle.exchange_rules.proofs.Definitions.{Configuration, Link, is_in_service, clear_set, reset_shape, Facts, Parts, Node, with_parts, link_at, in_service, facts, set_of, with_set_reset, has_other, begun_anew_if, begun_anew, return_if, begin_traffic, WholeQueues, whole}
use Rattle.timers.specs.declared.name.RouteTimer.TheVariants as of_set
use Rattle.exchange_rules.proofs.TakenPairs.{take_back_each-alike}
use Rattle.exchange_rules.proofs.Steps.{MayReturn, IsOfDeeds, Deed}
use Rattle.exchange_rules.proofs.OwnRoutes.{rerouted-reset, reset-unsure, reset-sure}
use Rattle.exchange_rules.proofs.SteppingTimers.{both-quiet, clear_set-quiet}
use Rattle.exchange_rules.proofs.KeepingTests.{reset-tests}
use Rattle.exchange_rules.proofs.SteppingReturns.{change_back-steps}

-- links are unchanged if what is known over a set is reset
pub anew-links : (first : Bool) (c : Configuration) (link : ℕ) (p : Parts) → (begun_anew_if first c link p).links ≡ p.links
anew-links true c link p = refl
anew-links false c link p = refl

pub anew-link : (first : Bool) (c : Configuration) (link other : ℕ) (p : Parts) → link_at (begun_anew_if first c link p) other ≡ link_at p other
anew-link true c link other p = refl
anew-link false c link other p = refl

-- and as flows are taken back
pub returned-links : (begins : Bool) (c : Configuration) (link : ℕ) (before : Facts) (n : Node WholeQueues) → (return_if whole c begins link before n).parts.links ≡ n.parts.links
returned-links true c link before n = (take_back_each-alike whole c before (facts c n.parts) link (length c.links) n).links
returned-links false c link before n = refl

pub begun-links : (begins : Bool) (c : Configuration) (link : ℕ) (new : Parts) (n : Node WholeQueues) → (begin_traffic whole c begins link new n).parts.links ≡ new.links
begun-links begins c link new n =
    returned-links begins c link (facts c n.parts) (with_parts n (begun_anew begins c link n.parts new)) ∙ anew-links (begins && not (has_other c link n.parts)) c link new

pub front : (a b : Bool) → (a && b) ≡ true → a ≡ true
front true b e = refl
front false b e = absurd cc

-- of new parts: a link is in service if it begins to carry traffic, and so are others that were
pub record Begins (begins : Bool) (link : ℕ) (old new : Parts) : Type 0 where
  pub serves : begins ≡ true → in_service new link ≡ true
  pub others : (other : ℕ) → other ≢ link → in_service old other ≡ true → in_service new other ≡ true

module _ {c : Configuration} {Own Counts : ℕ → Type 0} {May : Deed → Type 0} {R : Node WholeQueues → Node WholeQueues → Type 0} (s : IsOfDeeds c Own Counts May R) where
  pub set_reset-steps : (set : ℕ) (n : Node WholeQueues) → MayReturn c Own May set → R n (with_parts n (with_set_reset c set n.parts))
  set_reset-steps set n may =
      let reset : Parts = with_set_reset c set n.parts in
      s.sends.both _ _ _
      (s.rerouted reset.routes n (rerouted-reset n.parts.told n.parts.routes set) (record { each = λ other destination e. inl (reset-unsure n.parts.routes set other destination e) }))
      (s.sends.both _ _ _ (s.told reset.told _ (record { shape = reset_shape n.parts.told set; adjacents = refl }))
      (s.timed reset.timers _ (both-quiet c _ _ _ (clear_set-quiet c of_set.T8 set n.parts.timers (λ e. may)) (clear_set-quiet c of_set.T10 set (clear_set of_set.T8 set n.parts.timers) (λ e. absurd cc)))
      (reset-tests _ set (reset-sure n.parts.routes set))))

  pub anew-steps : (first : Bool) (link : ℕ) (n : Node WholeQueues) → Own link → R n (with_parts n (begun_anew_if first c link n.parts))
  anew-steps true link n own = set_reset-steps (set_of c link) n (inl (record { link = link; own = own; is = refl }))
  anew-steps false link n own = s.sends.none n

  -- a link that begins to carry traffic takes its flows back
  pub returned-steps : (begins : Bool) (link : ℕ) (new : Parts) (n : Node WholeQueues) → Begins begins link n.parts new
      → R (with_parts n (begun_anew begins c link n.parts new)) (begin_traffic whole c begins link new n)
  returned-steps true link new n h =
      let first : Bool = not (has_other c link n.parts) in
      change_back-steps s link n.parts (with_parts n (begun_anew_if first c link new))
      (ap (λ (l : Link). is_in_service l.alignment) (anew-link first c link link new) ∙ h.serves refl)
      (λ other apart serves. ap (λ (l : Link). is_in_service l.alignment) (anew-link first c link other new) ∙ h.others other apart serves)
  returned-steps false link new n h = s.sends.none (with_parts n new)
