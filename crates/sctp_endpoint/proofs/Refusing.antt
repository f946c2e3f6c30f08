-- What an endpoint refuses.
use Rattle.std.proofs.Common.{◌≡◌, ℕ, ◌+◌, ◌<◌, ◌≤◌, ◌*◌, zero, suc, Bool, true, false, inl, inr, List, Option, Some, None, is_none, is_some, leb, refl, sym, ◌∙◌, nat_eq, if◌then◌else◌, arith}
use Rattle.std.proofs.lemmas.Bool.Decides.{leb_tells, nat_tests}
use Rattle.std.proofs.lemmas.Grind.{common_steps}
use Rattle.sctp_codec.specs.Packets.{InitValue}
use Rattle.sctp_codec.specs.Parameters.{cookie_in, host_name_in}
use Rattle.sctp_cookie.specs.Tags.{Drawing, next_tag, after_draw, numbers}
use Rattle.sctp_ends.specs.Keyed.{drawing_after}
use Rattle.sctp_rules.specs.declared.phase.Phase.{Phase}
use Rattle.sctp_rules.specs.declared.phase.Phase.TheVariants.{Closed, CookieWait, CookieEchoed, Established}
use Rattle.sctp_rules.specs.declared.phase.Phase.TheVariants.{ShutdownPending, ShutdownSent, ShutdownReceived}
use Rattle.sctp_rules.specs.declared.phase.Phase.TheVariants.{ShutdownAckSent}
use Rattle.sctp_rules.specs.Settings.{Settings, Address, Beginning, Secrets}
use Rattle.sctp_rules.specs.State.{State, Try, silent}
use Rattle.sctp_rules.specs.Opening.{has_few_streams, fits_echo, is_waiting, heard_init, judged_init, init_in, answered_anew, answered_anew_with, answered_alike, heard_init_ack, echoed_if, refused}
use Rattle.sctp_endpoint.specs.Refusing.{inits_are_answered_or_refused, refused_init_acks_end_tries, has_init_ack, init_refusal, judged, refused_in, refused_by_tag, try_refusal, init_ack_refusal}
use Rattle.sctp_endpoint.specs.declared.refusal.Refusal.TheVariants.{Unwanted}

-- ---- INIT

module _ (c : Settings) (k : Secrets) (now : ℕ) (source : Address) (init : InitValue) (s : State) where
  by-left : (b : Option Beginning) → has_init_ack (answered_anew_with c k now source init b s).sent ≡ is_none (refused_by_tag b)
  by-left (Some b) = refl
  by-left None = refl

  by-wanted : (w : Bool) → has_init_ack (if w then answered_anew c k now source init s else silent s).sent ≡ is_none (if w then refused_by_tag (k.beginning s.beginnings) else Some Unwanted)
  by-wanted true = by-left (k.beginning s.beginnings)
  by-wanted false = refl

  by-peer : (same : Bool) → has_init_ack (if same then answered_alike c k now source init s else answered_anew c k now source init s).sent ≡ is_none (if same then None else refused_by_tag (k.beginning s.beginnings))
  by-peer true = refl
  by-peer false = by-left (k.beginning s.beginnings)

  by-phase : (p : Phase) → has_init_ack (init_in p c k now source init s).sent ≡ is_none (refused_in p k init s)
  by-phase Closed = by-wanted s.is_wanted
  by-phase CookieWait = refl
  by-phase CookieEchoed = by-peer (nat_eq init.tag s.association.far_tag)
  by-phase Established = by-left (k.beginning s.beginnings)
  by-phase ShutdownPending = by-left (k.beginning s.beginnings)
  by-phase ShutdownSent = by-left (k.beginning s.beginnings)
  by-phase ShutdownReceived = by-left (k.beginning s.beginnings)
  by-phase ShutdownAckSent = refl

  by-streams : (few : Bool) (p : Phase) → few ≡ has_few_streams init → p ≡ s.association.phase → has_init_ack (judged_init None c k now source init s).sent ≡ is_none (judged None k init s)
  by-streams true p e q = rw (← e) refl
  by-streams false p e q = rw (← e) (by-phase s.association.phase)

  by-name : (name : Option (List ℕ)) → has_init_ack (judged_init name c k now source init s).sent ≡ is_none (judged name k init s)
  by-name (Some name) = refl
  by-name None = by-streams (has_few_streams init) s.association.phase refl refl

  by-zero : (zeros : Bool) → zeros ≡ nat_eq init.tag 0 → has_init_ack (heard_init c k now source init s).sent ≡ is_none (init_refusal k init s)
  by-zero true e = rw (← e) refl
  by-zero false e = rw (← e) (by-name (host_name_in init.parameters))

pub answered-or-refused : inits_are_answered_or_refused
answered-or-refused c k now source init s = by-zero c k now source init s (nat_eq init.tag 0) refl

-- ---- INIT ACK

module _ (c : Settings) (now : ℕ) (init : InitValue) (s : State) where
  refused-ends : (zeros : Bool) → zeros ≡ nat_eq init.tag 0 → (refused c init s).left.generation ≡ s.generation + 1
  refused-ends true e = rw (← e) refl
  refused-ends false e = rw (← e) refl

  -- without a cookie
  without : (t : Try) (zeros few : Bool) (name : Option (List ℕ)) → zeros ≡ nat_eq init.tag 0 → few ≡ has_few_streams init → name ≡ host_name_in init.parameters → cookie_in init.parameters ≡ None
      → (refused c init s).left.generation ≡ (if is_some (try_refusal (Some t) init) then s.generation + 1 else s.generation)
  without t true few name z f n k = rw (← z) refl
  without t false few (Some name) z f n k = rw (← z, ← n) refl
  without t false true None z f n k = rw (← z, ← n, ← f) refl
  without t false false None z f n k = rw (← z, ← n, ← f, k) refl

  -- with one
  within : (t : Try) (cookie : List ℕ) (zeros few fits : Bool) (name : Option (List ℕ)) → zeros ≡ nat_eq init.tag 0 → few ≡ has_few_streams init → fits ≡ fits_echo cookie → name ≡ host_name_in init.parameters → cookie_in init.parameters ≡ Some cookie
      → (echoed_if c now init (Some t) (Some cookie) s).left.generation ≡ (if is_some (try_refusal (Some t) init) then s.generation + 1 else s.generation)
  within t cookie true few fits name z f i n k = rw (← z) refl
  within t cookie false true fits (Some name) z f i n k = rw (← z, ← n, ← f) refl
  within t cookie false false fits (Some name) z f i n k = rw (← z, ← n, ← f) refl
  within t cookie false true fits None z f i n k = rw (← z, ← n, ← f) refl
  within t cookie false false true None z f i n k = rw (← z, ← n, ← f, k, ← i) refl
  within t cookie false false false None z f i n k = rw (← z, ← n, ← f, k, ← i) refl

  by-cookie : (trying : Option Try) (cookie : Option (List ℕ)) → cookie_in init.parameters ≡ cookie
      → (echoed_if c now init trying cookie s).left.generation ≡ (if is_some (try_refusal trying init) then s.generation + 1 else s.generation)
  by-cookie None cookie k = refl
  by-cookie (Some t) None k = without t (nat_eq init.tag 0) (has_few_streams init) (host_name_in init.parameters) refl refl refl k
  by-cookie (Some t) (Some cookie) k = within t cookie (nat_eq init.tag 0) (has_few_streams init) (fits_echo cookie) (host_name_in init.parameters) refl refl refl refl k

  by-state : (waits : Bool) → waits ≡ is_waiting s.association.phase
      → (heard_init_ack c now init s).left.generation ≡ (if is_some (init_ack_refusal init s) then s.generation + 1 else s.generation)
  by-state true e = rw (← e) (by-cookie s.association.trying (cookie_in init.parameters) refl)
  by-state false e = rw (← e) refl

pub end-tries : refused_init_acks_end_tries
end-tries c now init s = by-state c now init s (is_waiting s.association.phase) refl

-- ---- tags

used-after : (d : Drawing) → (after_draw d).used ≤ d.used + 2
used-after d = grind (arith, common_steps, nat_tests)

-- each tag uses two numbers at most
pub used-most : (key : List ℕ) (n : ℕ) → (drawing_after key n).used ≤ 2 * n
unfolding drawing_after
used-most key zero = omega arith
used-most key (suc n) = omega (arith, used-most key n, used-after (drawing_after key n))

-- while two numbers are left there is a tag
pub tag-left : (d : Drawing) → d.used + 1 < numbers → is_none (next_tag d) ≡ false
tag-left d lt = grind (arith, common_steps, nat_tests)

pub few-left : (key : List ℕ) (n : ℕ) → n < 1_073_741_824 → leb 1_073_741_824 n ≡ is_none (next_tag (drawing_after key n))
few-left key n lt =
    elim (leb_tells 1_073_741_824 n) [
      | inl many ↦ absurd (omega (arith, many.1, lt))
      | inr few ↦ few.0 ∙ sym (tag-left (drawing_after key n) (omega (arith, used-most key n, lt)))
    ]
