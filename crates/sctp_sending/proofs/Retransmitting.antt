-- What counts as a retransmission.
use Rattle.std.proofs.Common.{◌≡◌, ◌<◌, ◌≤◌, ℕ, ◌+◌, Bool, true, false, cond, ltb, eqb, refl, ap, ◌∙◌}
use Rattle.std.proofs.lemmas.Bool.{lt-ltb, le-ltb}
use Rattle.sctp_sending.specs.declared.confirmation.Confirmation.{Confirmation}
use Rattle.sctp_sending.specs.declared.confirmation.Confirmation.TheVariants.{Old, Beyond, Of}
use Rattle.sctp_sending.specs.Outgoing.{Message}
use Rattle.sctp_sending.specs.Sending.{Sending, given, gone, gone_again, gone_first, confirmed, settled, after_cumulative, acknowledged, after_sack, after_t3, one_retransmission_more}

either : (b : Bool) (x y : Sending) (n : ℕ) → x.retransmissions ≡ n → y.retransmissions ≡ n → (cond b x y).retransmissions ≡ n
either true x y n e f = e
either false x y n e f = f

pub again-counts : (s : Sending) (place now : ℕ) → place < s.went → (gone s place now).retransmissions ≡ one_retransmission_more s.retransmissions
unfolding gone_again
again-counts s place now l = ap (λ (b : Bool). (cond b (gone_again s place now) (gone_first s now)).retransmissions) (lt-ltb place s.went l)

pub first-counts : (s : Sending) (place now : ℕ) → s.went ≤ place → (gone s place now).retransmissions ≡ s.retransmissions
unfolding gone_first
first-counts s place now l = ap (λ (b : Bool). (cond b (gone_again s place now) (gone_first s now)).retransmissions) (le-ltb place s.went l)

pub given-counts : (s : Sending) (m : Message) → (given s m).retransmissions ≡ s.retransmissions
unfolding given
given-counts s m = refl

pub t3-counts : (s : Sending) (now : ℕ) → (after_t3 s now).retransmissions ≡ s.retransmissions
unfolding after_t3
t3-counts s now = refl

settled-counts : (s : Sending) (count now : ℕ) → (settled s count now).retransmissions ≡ s.retransmissions
unfolding settled
settled-counts s count now = either (eqb s.went 0) _ _ s.retransmissions refl (either (ltb 0 count) _ s s.retransmissions refl refl)

confirmed-counts : (s : Sending) (count now : ℕ) → (confirmed s count now).retransmissions ≡ s.retransmissions
unfolding confirmed
confirmed-counts s count now = refl

pub cumulative-counts : (s : Sending) (now : ℕ) (c : Confirmation) → (after_cumulative s now c).retransmissions ≡ s.retransmissions
cumulative-counts s now Old = refl
cumulative-counts s now Beyond = refl
cumulative-counts s now (Of count) = settled-counts (confirmed s count now) count now ∙ confirmed-counts s count now

pub sack-counts : (s : Sending) (now window : ℕ) (names : ℕ → Bool) (c : Confirmation) → (after_sack s now window names c).retransmissions ≡ s.retransmissions
unfolding acknowledged
sack-counts s now window names Old = refl
sack-counts s now window names Beyond = refl
sack-counts s now window names (Of count) = settled-counts _ count now ∙ confirmed-counts s count now
