-- What chunks tell, one after another: whether all are consumed first, or each one's news goes out before the next is
-- consumed.
use Rattle.std.proofs.Common.{◌≡◌, ◌<◌, ◌≤◌, ◌+◌, ◌-◌, arith, ℕ, zero, suc, Bool, true, false, List, [], ◌∷◌, ◌++◌, map, Option, Some, None, refl, sym, ap, subst, ◌∙◌}
use Rattle.std.specs.Prelude.{not, if◌then◌else◌}
use Rattle.std.proofs.lemmas.List.{append_assoc, append-nil}
use Rattle.sctp_receiving.specs.Consuming.{Told, Nothing, Tells, NoStream, Violates}
use Rattle.sctp_receiving.specs.Pieces.{Piece}
use Rattle.sctp_receiving.specs.Receiver.{Receiver, Step, Steps, and_then, drained, is_violation, next_held, take_next, taken_next, hear, received}
use Rattle.sctp_receiving.specs.declared.limits.TheConstants.{CHUNKS}
use Rattle.sctp_codec.specs.Packets.{ChunkValue}
use Rattle.std.specs.Prelude.{is_some}
use Rattle.sctp_rules.specs.Settings.{Settings}
use Rattle.sctp_rules.specs.State.{Association, State, Datagram, Done, silent, followed_by, with_association}
use Rattle.sctp_rules.specs.State as state
use Rattle.sctp_rules.specs.Ending.{has_place, answered}
use Rattle.sctp_rules.specs.Data.{no_stream, violated, told_one, told_each, after_data}
use Rattle.sctp_rules.specs.Packets.{Handled}
use Rattle.sctp_bundling.specs.Watching.{Sent, sent_as, Tells as IsTold, Gives}
use Rattle.sctp_endpoint.specs.Endpoints.{Endpoint, Does}
use Rattle.sctp_bundling.proofs.Giving.{given-none}
use Rattle.sctp_endpoint.proofs.Chained.{then-does, if-on}
use Rattle.sctp_endpoint.specs.Draining.{messages_of, answered_by, told_step, heard_piece, told_next, and_on, told_held}

-- the same state, with this receiver
abbrev with_receiver : Receiver → State → State
with_receiver r s = with_association s (record s.association { receiver = r })

abbrev with_left : Receiver → Done → Done
with_left r d = record d { left = with_receiver r d.left }

-- what is told, and then goes on with all that was consumed
abbrev told_steps : Settings → Steps → State → Done
told_steps c steps s = told_each c steps.told (with_receiver steps.left s)

either-association : (b : Bool) (r q : Receiver) (a : Association) (control : List ChunkValue)
    → (if b then record (record a { receiver = r }) { control = control } else record a { receiver = r })
    ≡ record (if b then record (record a { receiver = q }) { control = control } else record a { receiver = q }) { receiver = r }
either-association true r q a control = refl
either-association false r q a control = refl

-- a chunk tells the same whatever the receiver is, and keeps it, unless it ends the association
told-kept : (c : Settings) (told : Told) (r q : Receiver) (s : State) → is_violation told ≡ false
    → told_one c told (with_receiver r s) ≡ with_left r (told_one c told (with_receiver q s))
told-kept c Nothing r q s e = refl
told-kept c (Tells message) r q s e = refl
told-kept c (NoStream stream) r q s e =
    ap (λ (a : Association). silent (with_association s a)) (either-association (has_place s.association.control (no_stream stream)) r q s.association (s.association.control ++ no_stream stream ∷ []))
told-kept c (Violates violation) r q s e = absurd (cc)

either-receiver : (b : Bool) (r : Receiver) (a : Association) (control : List ChunkValue)
    → (if b then record (record a { receiver = r }) { control = control } else record a { receiver = r }).receiver ≡ r
either-receiver true r a control = refl
either-receiver false r a control = refl

told-left : (c : Settings) (told : Told) (r : Receiver) (s : State) → is_violation told ≡ false
    → (told_one c told (with_receiver r s)).left.association.receiver ≡ r
told-left c Nothing r s e = refl
told-left c (Tells message) r s e = refl
told-left c (NoStream stream) r s e = either-receiver (has_place s.association.control (no_stream stream)) r s.association (s.association.control ++ no_stream stream ∷ [])
told-left c (Violates violation) r s e = absurd (cc)

pub nothing-behind : (d : Done) → followed_by d (λ left. silent left) ≡ d
nothing-behind d = ap (λ (sent : List Datagram). record { sent = sent; told = d.told ++ []; left = d.left }) (append-nil d.sent)
    ∙ ap (λ (told : List state.Told). record { sent = d.sent; told = told; left = d.left }) (append-nil d.told)

pub if-true : {X : Type 0} (b : Bool) (x y : X) → b ≡ true → (if b then x else y) ≡ x
if-true true x y e = refl
if-true false x y e = absurd (cc)

pub if-false : {X : Type 0} (b : Bool) (x y : X) → b ≡ false → (if b then x else y) ≡ y
if-false true x y e = absurd (cc)
if-false false x y e = refl

not-true : (b : Bool) → b ≡ true → not b ≡ false
not-true true e = refl
not-true false e = absurd (cc)

not-false : (b : Bool) → b ≡ false → not b ≡ true
not-false true e = absurd (cc)
not-false false e = refl

-- one chunk, and what is consumed after it
step-told : (c : Settings) (rest : Receiver → Steps) (step : Step) (s : State) (violates : Bool) → is_violation step.told ≡ violates
    → told_steps c (and_then rest step) s ≡ and_on (told_step c step s) (λ left. told_steps c (rest left.association.receiver) left)
step-told c rest step s true e =
    let d : Done = told_one c step.told (with_receiver step.left s) in
    let all : Done = followed_by d (λ left. told_steps c (rest left.association.receiver) left) in
    ap (λ (steps : Steps). told_steps c steps s) (if-true (is_violation step.told) (record { left = step.left; told = step.told ∷ [] }) (record { left = (rest step.left).left; told = step.told ∷ (rest step.left).told }) e)
    ∙ nothing-behind d
    ∙ sym (if-false (not (is_violation step.told)) all d (not-true (is_violation step.told) e))
step-told c rest step s false e =
    let more : Steps = rest step.left in
    let d : Done = told_one c step.told (with_receiver step.left s) in
    let all : Done = followed_by d (λ left. told_steps c (rest left.association.receiver) left) in
    let kept : told_one c step.told (with_receiver more.left s) ≡ with_left more.left d = told-kept c step.told more.left step.left s e in
    let here : d.left.association.receiver ≡ step.left = told-left c step.told step.left s e in
    ap (λ (steps : Steps). told_steps c steps s) (if-false (is_violation step.told) (record { left = step.left; told = step.told ∷ [] }) (record { left = more.left; told = step.told ∷ more.told }) e)
    ∙ ap (λ (x : Done). followed_by x (λ left. told_each c more.told left)) kept
    ∙ ap (λ (r : Receiver). followed_by d (λ left. told_steps c (rest r) left)) (sym here)
    ∙ sym (if-true (not (is_violation step.told)) all d (not-false (is_violation step.told) e))

and_on-same : (goes_on : Bool) (d : Done) (f g : State → Done) → f d.left ≡ g d.left
    → and_on (record { does = d; goes_on = goes_on }) f ≡ and_on (record { does = d; goes_on = goes_on }) g
and_on-same true d f g e = ap (λ (x : Done). state.behind d x) e
and_on-same false d f g e = refl

-- what is held is consumed
held-case : (c : Settings) (many : ℕ) (r : Receiver) (s : State) (held : Bool) → is_some (next_held r) ≡ held
    → ((left : State) → told_steps c (drained many left.association.receiver) left ≡ told_held c many left)
    → told_steps c (drained (suc many) r) s ≡ told_held c (suc many) (with_receiver r s)
unfolding drained told_held
held-case c many r s true e more =
    let step : Step = take_next r in
    let rest : Receiver → Steps = λ left. drained many left in
    let none : Steps = record { left = r; told = [] } in
    let stops : Handled = record { does = silent (with_receiver r s); goes_on = false } in
    let handled : Handled = told_step c step s in
    ap (λ (steps : Steps). told_steps c steps s) (if-true (is_some (next_held r)) (and_then rest step) none e)
    ∙ step-told c rest step s (is_violation step.told) refl
    ∙ and_on-same handled.goes_on handled.does (λ left. told_steps c (rest left.association.receiver) left) (λ left. told_held c many left)
    (more handled.does.left)
    ∙ ap (λ (h : Handled). and_on h (λ left. told_held c many left)) (sym (if-true (is_some (next_held r)) handled stops e))
held-case c many r s false e more =
    let step : Step = take_next r in
    let rest : Receiver → Steps = λ left. drained many left in
    let none : Steps = record { left = r; told = [] } in
    let stops : Handled = record { does = silent (with_receiver r s); goes_on = false } in
    ap (λ (steps : Steps). told_steps c steps s) (if-false (is_some (next_held r)) (and_then rest step) none e)
    ∙ ap (λ (h : Handled). and_on h (λ left. told_held c many left)) (sym (if-false (is_some (next_held r)) (told_step c step s) stops e))

pub held-told : (c : Settings) (many : ℕ) (r : Receiver) (s : State) → told_steps c (drained many r) s ≡ told_held c many (with_receiver r s)
unfolding drained told_held
held-told c zero r s = refl
held-told c (suc many) r s = held-case c many r s (is_some (next_held r)) refl
    (λ left. held-told c many left.association.receiver left)

-- DATA is taken
abbrev pub sack_due : State → State
sack_due s = with_association s (record s.association { is_sack_due = true })

pub data-told : (c : Settings) (tsn : ℕ) (p : Piece) (s : State)
    → after_data c (received s.association.receiver tsn p) s ≡ and_on (heard_piece c tsn p (sack_due s)) (λ left. told_held c CHUNKS left)
data-told c tsn p s =
    let step : Step = hear s.association.receiver tsn p in
    let handled : Handled = told_step c step (sack_due s) in
    let rest : Receiver → Steps = λ left. drained CHUNKS left in
    step-told c rest step (sack_due s) (is_violation step.told) refl
    ∙ and_on-same handled.goes_on handled.does (λ left. told_steps c (rest left.association.receiver) left) (λ left. told_held c CHUNKS left)
    (held-told c CHUNKS handled.does.left.association.receiver handled.does.left)

-- ---- nothing is held

pub none-held : (held : Bool) (told : Told) → None ≡ (if held then Some told else None) → held ≡ false
none-held true told e = absurd (cc)
none-held false told e = refl

none-left : (o : Option Piece) (r : Receiver) → is_some o ≡ false → (taken_next o r).left ≡ r
none-left None r e = refl
none-left (Some p) r e = absurd (cc)

stops-at : (c : Settings) (s : State) → is_some (next_held s.association.receiver) ≡ false
    → told_next c s ≡ record { does = silent s; goes_on = false }
stops-at c s e = if-false (is_some (next_held s.association.receiver)) (told_step c (take_next s.association.receiver) s) (record { does = silent s; goes_on = false }) e

pub stops-there : (c : Settings) (s : State) → is_some (next_held s.association.receiver) ≡ false → (told_next c s).goes_on ≡ false
stops-there c s e = ap (λ (h : Handled). h.goes_on) (stops-at c s e)

pub nothing-next : {W : Type 0} (has : W → List Sent → List state.Told → Type 0) (w : W) (e f : Endpoint)
    → is_some (next_held e.state.association.receiver) ≡ false
    → f ≡ record e { state = with_receiver (take_next e.state.association.receiver).left e.state }
    → Does has w w e f (told_next e.settings e.state).does
nothing-next has w e f none is =
    rw (stops-at e.settings e.state none) (record {
      gives = given-none has w e.state;
      left_is = is ∙ ap (λ (r : Receiver). record e { state = with_receiver r e.state }) (none-left (next_held e.state.association.receiver) e.state.association.receiver none);
    })

-- ---- of n turns, one more

pub held-more : (c : Settings) (i : ℕ) (s : State) → i < 256 → told_held c (256 - i) s ≡ and_on (told_next c s) (λ left. told_held c (256 - (i + 1)) left)
unfolding told_held
held-more c i s h =
    let e : 256 - i ≡ suc (256 - (i + 1)) = omega (arith, h) in
    ap (λ (n : ℕ). told_held c n s) e

pub held-done : (c : Settings) (i : ℕ) (s : State) → 256 ≤ i → told_held c (256 - i) s ≡ silent s
unfolding told_held
held-done c i s h =
    let e : 256 - i ≡ 0 = omega (arith, h) in
    ap (λ (n : ℕ). told_held c n s) e

-- ---- DATA is taken by two calls

pub data-goes : {W : Type 0} (has : W → List Sent → List state.Told → Type 0) (w v u : W) (e due f g : Endpoint) (tsn : ℕ) (p : Piece)
    → due ≡ record e { state = sack_due e.state } → Does has w v due f (heard_piece due.settings tsn p due.state).does
    → (heard_piece due.settings tsn p due.state).goes_on ≡ true → Does has v u f g (told_held f.settings 256 f.state)
    → Does has w u e g (after_data e.settings (received e.state.association.receiver tsn p) e.state)
data-goes has w v u e due f g tsn p is d goes h =
    let was : Endpoint = record e { state = sack_due e.state } in
    let first = subst (λ (x : Endpoint). Does has w v x f (heard_piece x.settings tsn p x.state).does) is d in
    let on = subst (λ (x : Endpoint). (heard_piece x.settings tsn p x.state).goes_on ≡ true) is goes in
    let both = then-does has w v u was f g (heard_piece e.settings tsn p was.state).does (λ (x : Endpoint). told_held x.settings 256 x.state) first h in
    let k : Does has w u was g (and_on (heard_piece e.settings tsn p was.state) (λ left. told_held e.settings 256 left)) =
    rw (if-on (heard_piece e.settings tsn p was.state) (λ left. told_held e.settings 256 left) true on) both in
    rw (data-told e.settings tsn p e.state) (record { gives = k.gives; left_is = k.left_is })

pub data-stops : {W : Type 0} (has : W → List Sent → List state.Told → Type 0) (w v : W) (e due f : Endpoint) (tsn : ℕ) (p : Piece)
    → due ≡ record e { state = sack_due e.state } → Does has w v due f (heard_piece due.settings tsn p due.state).does
    → (heard_piece due.settings tsn p due.state).goes_on ≡ false
    → Does has w v e f (after_data e.settings (received e.state.association.receiver tsn p) e.state)
data-stops has w v e due f tsn p is d stops =
    let was : Endpoint = record e { state = sack_due e.state } in
    let first = subst (λ (x : Endpoint). Does has w v x f (heard_piece x.settings tsn p x.state).does) is d in
    let off = subst (λ (x : Endpoint). (heard_piece x.settings tsn p x.state).goes_on ≡ false) is stops in
    let k : Does has w v was f (and_on (heard_piece e.settings tsn p was.state) (λ left. told_held e.settings 256 left)) =
    rw (if-on (heard_piece e.settings tsn p was.state) (λ left. told_held e.settings 256 left) false off) first in
    rw (data-told e.settings tsn p e.state) (record { gives = k.gives; left_is = k.left_is })

-- ---- what a chunk tells goes out by two calls

heard-then : {W : Type 0} (has : W → List Sent → List state.Told → Type 0) (w v u : W) (events : List state.Told) (d : Done)
    → IsTold has w v events → Gives has v u d → Gives has w u (record d { told = events ++ d.told })
heard-then has w v u events d h g = record {
  more = λ sent told is.
      subst (λ (ts : List state.Told). has u (sent ++ map sent_as d.sent) ts) (append_assoc told events d.told) (g.more sent (told ++ events) (h.more sent told is));
}

told-both : {W : Type 0} (has : W → List Sent → List state.Told → Type 0) (w v u : W) (e f : Endpoint) (told : Told)
    → IsTold has w v (messages_of told) → Does has v u e f (answered_by e.settings told e.state) → Does has w u e f (told_one e.settings told e.state)
told-both has w v u e f Nothing h d = record { gives = heard-then has w v u [] (silent e.state) h d.gives; left_is = d.left_is }
told-both has w v u e f (Tells message) h d = record { gives = heard-then has w v u (state.Heard message ∷ []) (silent e.state) h d.gives; left_is = d.left_is }
told-both has w v u e f (NoStream stream) h d = record { gives = heard-then has w v u [] (silent (answered (no_stream stream) e.state)) h d.gives; left_is = d.left_is }
told-both has w v u e f (Violates violation) h d = record { gives = heard-then has w v u [] (violated e.settings violation e.state) h d.gives; left_is = d.left_is }

pub step-does : {W : Type 0} (has : W → List Sent → List state.Told → Type 0) (w v u : W) (e mid f : Endpoint) (step : Step) (told : Told) (r : Receiver)
    → mid ≡ record e { state = with_receiver r e.state } → r ≡ step.left → told ≡ step.told
    → IsTold has w v (messages_of told) → Does has v u mid f (answered_by mid.settings told mid.state) → Does has w u e f (told_step e.settings step e.state).does
step-does has w v u e mid f step told r is left same h d =
    let there = is ∙ ap (λ (x : Receiver). record e { state = with_receiver x e.state }) left in
    let heard = subst (λ (x : Told). IsTold has w v (messages_of x)) same h in
    let done = subst (λ (x : Told). Does has v u mid f (answered_by mid.settings x mid.state)) same d in
    let k : Does has v u (record e { state = with_receiver step.left e.state }) f (answered_by e.settings step.told (with_receiver step.left e.state)) =
    subst (λ (x : Endpoint). Does has v u x f (answered_by x.settings step.told x.state)) there done in
    let b = told-both has w v u (record e { state = with_receiver step.left e.state }) f step.told heard k in
    record { gives = b.gives; left_is = b.left_is }

-- a chunk that was held
pub is-held : (held : Bool) (told next : Told) → Some told ≡ (if held then Some next else None) → (held ≡ true) × (told ≡ next)
is-held true told next e = (refl, cc)
is-held false told next e = absurd (cc)

pub next-does : {W : Type 0} (has : W → List Sent → List state.Told → Type 0) (w u : W) (e f : Endpoint) → is_some (next_held e.state.association.receiver) ≡ true
    → Does has w u e f (told_step e.settings (take_next e.state.association.receiver) e.state).does → Does has w u e f (told_next e.settings e.state).does
next-does has w u e f held d = rw held d
