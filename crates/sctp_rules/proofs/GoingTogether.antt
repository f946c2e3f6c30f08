-- Messages that may all go out do so with the next packets.
use Rattle.std.proofs.Common.{◌≡◌, ◌≤◌, ◌<◌, ℕ, zero, suc, ◌+◌, Bool, true, false, cond, nat_lt, ◌&&◌, length, Option, Some, None, refl, sym, ap, subst, ◌∙◌, arith}
use Rattle.std.proofs.lemmas.Bool.Decides.{nat_tests}
use Rattle.sctp_sending.specs.Outgoing.{octets_of, outgoing_at}
use Rattle.sctp_sending.specs.Sending.{Sending, has_credit, finds_window, may_begin, next_of, next_place, gone_next, gone_first}
use Rattle.sctp_sending.proofs.Together.{Ready, next-is, goes-first, still-ready, goes-length, goes-one}
use Rattle.sctp_rules.specs.Confirming.{Gone, gone_from, going}

none-next : (s : Sending) → Ready s → s.went ≡ length s.out → next_place s ≡ None
unfolding next_place
none-next s r all =
    let past : nat_lt s.went (length s.out) ≡ false = grind (arith, nat_tests, all) in
    let ends : may_begin s ≡ false =
    ap (λ (b : Bool). b && has_credit s && finds_window s (octets_of (outgoing_at s.out s.went))) past in
    ap (λ (found : Option ℕ). next_of s found) r.none_lost ∙ ap (λ (b : Bool). cond b (Some s.went) None) ends

pub all-out : (most now : ℕ) (s : Sending) → Ready s → length s.out < s.went + most → (going most now s).left.went ≡ length (going most now s).left.out
unfolding going
all-out zero now s r few = (let w = r.within in absurd (let no : suc (length s.out) ≤ length s.out = omega (arith, few, w) in omega (arith, no)))
all-out (suc most) now s r few =
    by (nat_lt s.went (length s.out)) refl (λ (t : Sending) (q : Ready t) (f : length t.out < t.went + most). all-out most now t q f)
  where
    rest : Sending → Gone
    rest left = going most now left

    by : (b : Bool) → nat_lt s.went (length s.out) ≡ b
        → ((t : Sending) → Ready t → length t.out < t.went + most → (going most now t).left.went ≡ length (going most now t).left.out) → (gone_from rest now (next_place s) s).left.went ≡ length (gone_from rest now (next_place s) s).left.out
    by true e goes =
        let more : s.went < length s.out = grind (arith, nat_tests, e) in
        let one = goes-one s now in
        let step : (gone_from rest now (next_place s) s).left ≡ (going most now (gone_first s now)).left =
        ap (λ (found : Option ℕ). (gone_from rest now found s).left) (next-is s now r more)
        ∙ ap (λ (left : Sending). (going most now left).left) (goes-first s now r more) in
        subst (λ (left : Sending). left.went ≡ length left.out) (sym step)
        (goes (gone_first s now) (still-ready s now r more) (omega (arith, few, one, goes-length s now)))
    by false e goes =
        let all : s.went ≡ length s.out = (let w = r.within in let past : length s.out ≤ s.went = grind (arith, nat_tests, e) in omega (arith, w, past)) in
        let step : (gone_from rest now (next_place s) s).left ≡ gone_next s now None = ap (λ (found : Option ℕ). (gone_from rest now found s).left) (none-next s r all) in
        subst (λ (left : Sending). left.went ≡ length left.out) (sym step) all
