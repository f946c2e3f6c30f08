-- Timers that expire, one after another.
use Rattle.std.proofs.Common.{◌≡◌, ℕ, ◌+◌, ◌≤◌, Bool, true, false, List, [], ◌∷◌, ◌++◌, Option, Some, None, refl, sym, ap, subst, ◌∙◌, arith}
use Rattle.std.specs.Prelude.{nat_lt, nat_le, sum_by, if◌then◌else◌}
use Rattle.std.proofs.lemmas.Bool.{le-leb}
use Rattle.sctp_codec.specs.Packets.{ChunkValue, HeartbeatChunk}
use Rattle.sctp_codec.specs.Parameters.{EndedByUser, information_of}
use Rattle.sctp_cookie.specs.Nonces.{nonce_of}
use Rattle.sctp_rules.specs.declared.loss.Loss.TheVariants.{NoAnswer}
use Rattle.sctp_rules.specs.Settings.{Settings}
use Rattle.sctp_rules.specs.State.{Try, Told, State, Done, silent, behind, with_association}
use Rattle.sctp_rules.specs.Ending.{aborted, ended, violation}
use Rattle.sctp_rules.specs.Opening.{tried_again, trying_with}
use Rattle.sctp_rules.specs.Timers.{is_due, unanswered, retry, tick_t1, tick_t5, tick_t2, t2_out, tick_t3, t3_out, tick_beat, beating, ticked}
use Rattle.sctp_sending.specs.RoundTrips.{backed_off}
use Rattle.sctp_bundling.specs.Watching.{Sent}
use Rattle.sctp_endpoint.specs.Endpoints.{Endpoint, Does, secrets_of}
use Rattle.sctp_bundling.specs.Replies.{size_of}
use Rattle.sctp_endpoint.proofs.Chained.{then-does}

-- a timer makes the generation grow by one at most, and draws no number
pub record IsCalm (generation nonces : ℕ) (s : State) : Type 0 where
  pub grows : s.generation ≤ generation + 1
  pub same : s.nonces ≡ nonces

pub calmed : {W : Type 0} (has : W → List Sent → List Told → Type 0) (w v : W) (e f : Endpoint) (d : Done) → Does has w v e f d → IsCalm e.state.generation e.state.nonces d.left
    → IsCalm e.state.generation e.state.nonces f.state
calmed has w v e f d h calm = subst (λ (x : Endpoint). IsCalm e.state.generation e.state.nonces x.state) (sym h.left_is) calm

either : (g n : ℕ) (b : Bool) (d e : Done) → IsCalm g n d.left → IsCalm g n e.left → IsCalm g n (if b then d else e).left
either g n true d e p q = p
either g n false d e p q = q

still : (s : State) → IsCalm s.generation s.nonces s
still s = record { grows = omega arith; same = refl }

pub calm-t5 : (c : Settings) (now : ℕ) (s : State) → IsCalm s.generation s.nonces (tick_t5 c now s).left
calm-t5 c now s =
    either s.generation s.nonces (is_due now s.association.t5) (aborted c NoAnswer EndedByUser s) (silent s) (record { grows = omega arith; same = refl }) (still s)

calm-tried : (c : Settings) (now : ℕ) (t : Try) (s : State) → IsCalm s.generation s.nonces (tried_again c now t s).left
calm-tried c now t s =
    let a = s.association in
    either s.generation s.nonces (nat_lt c.init_retransmissions (t.failures + 1)) (ended c NoAnswer s)
    (trying_with c now (t.failures + 1) t.chunks (with_association s (record a { sender = record a.sender { round_trips = backed_off a.sender.round_trips } })))
    (record { grows = omega arith; same = refl }) (record { grows = omega arith; same = refl })

calm-retry : (o : Option Try) (c : Settings) (now : ℕ) (s : State) → IsCalm s.generation s.nonces (retry o c now s).left
calm-retry None c now s = still s
calm-retry (Some t) c now s = either s.generation s.nonces (nat_le t.t1 now) (tried_again c now t s) (silent s) (calm-tried c now t s) (still s)

pub calm-t1 : (c : Settings) (now : ℕ) (s : State) → IsCalm s.generation s.nonces (tick_t1 c now s).left
calm-t1 c now s = calm-retry s.association.trying c now s

calm-unanswered : (c : Settings) (rule : State → Done) (s : State) → ((t : State) → IsCalm t.generation t.nonces (rule t).left) → IsCalm s.generation s.nonces (unanswered c rule s).left
calm-unanswered c rule s h =
    let t : State = with_association s (record s.association { failures = s.association.failures + 1 }) in
    either s.generation s.nonces (nat_lt c.retransmissions (s.association.failures + 1)) (aborted c NoAnswer violation s) (rule t) (record { grows = omega arith; same = refl }) (h t)

pub calm-t2 : (c : Settings) (now : ℕ) (s : State) → IsCalm s.generation s.nonces (tick_t2 c now s).left
calm-t2 c now s =
    either s.generation s.nonces (is_due now s.association.t2) (unanswered c (λ left. t2_out c now left) s) (silent s)
    (calm-unanswered c (λ left. t2_out c now left) s (λ t. record { grows = omega arith; same = refl })) (still s)

pub calm-t3 : (c : Settings) (now : ℕ) (s : State) → IsCalm s.generation s.nonces (tick_t3 c now s).left
calm-t3 c now s =
    either s.generation s.nonces (is_due now s.association.sender.t3) (unanswered c (λ left. t3_out c now left) s) (silent s)
    (calm-unanswered c (λ left. t3_out c now left) s (λ t. record { grows = omega arith; same = refl })) (still s)

-- all of them
pub ticked-does : {W : Type 0} (has : W → List Sent → List Told → Type 0) (now : ℕ) (w0 w1 w2 w3 w4 w5 : W) (e f1 f2 f3 f4 f5 : Endpoint) → Does has w0 w1 e f1 (tick_t1 e.settings now e.state)
    → Does has w1 w2 f1 f2 (tick_t5 f1.settings now f1.state) → Does has w2 w3 f2 f3 (tick_t2 f2.settings now f2.state) → Does has w3 w4 f3 f4 (tick_t3 f3.settings now f3.state)
    → Does has w4 w5 f4 f5 (tick_beat f4.settings (secrets_of f4) now f4.state) → Does has w0 w5 e f5 (ticked e.settings (secrets_of e) now e.state)
ticked-does has now w0 w1 w2 w3 w4 w5 e f1 f2 f3 f4 f5 a b c d h =
    let d1 : Done = tick_t1 e.settings now e.state in
    let d2 : Done = behind d1 (tick_t5 e.settings now d1.left) in
    let d3 : Done = behind d2 (tick_t2 e.settings now d2.left) in
    let d4 : Done = behind d3 (tick_t3 e.settings now d3.left) in
    let two = then-does has w0 w1 w2 e f1 f2 d1 (λ x. tick_t5 x.settings now x.state) a b in
    let three = then-does has w0 w2 w3 e f2 f3 d2 (λ x. tick_t2 x.settings now x.state) two c in
    let four = then-does has w0 w3 w4 e f3 f4 d3 (λ x. tick_t3 x.settings now x.state) three d in
    then-does has w0 w4 w5 e f4 f5 d4 (λ x. tick_beat x.settings (secrets_of x) now x.state) four h

-- a heartbeat for which there is room
pub heartbeat-added : (e : Endpoint) (now wait : ℕ) (control : List ChunkValue) (information : List ℕ) (number : ℕ) → number ≡ nonce_of e.cookie_key e.state.nonces
    → sum_by size_of e.state.association.control + 16 ≤ 1024
    → wait ≡ e.state.association.sender.round_trips.timeout → information ≡ information_of number → control ≡ e.state.association.control ++ HeartbeatChunk information ∷ []
    → record e {
      state = record e.state {
        nonces = e.state.nonces + 1;
        association = record e.state.association {
          beat = Some (record { nonce = number; sent = now });
          beat_due = Some (now + wait);
          control = control;
        };
      };
    } ≡ record e { state = beating (secrets_of e) now e.state }
heartbeat-added e now wait control information number is room due same added =
    let a = e.state.association in
    let whole : (number wait : ℕ) → List ChunkValue → Endpoint = λ m n xs. record e {
      state = record e.state {
        nonces = e.state.nonces + 1;
        association = record a { beat = Some (record { nonce = m; sent = now }); beat_due = Some (now + n); control = xs };
      };
    } in
    rw (le-leb (sum_by size_of a.control + 16) 1024 room)
    (ap (λ (n : ℕ). whole number n control) due
    ∙ ap (whole number a.sender.round_trips.timeout) (added ∙ ap (λ (i : List ℕ). a.control ++ HeartbeatChunk i ∷ []) same)
    ∙ ap (λ (m : ℕ). whole m a.sender.round_trips.timeout (a.control ++ HeartbeatChunk (information_of m) ∷ [])) is)
