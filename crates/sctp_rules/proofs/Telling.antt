-- What the user is told, by the pass over all rules.
use Rattle.std.proofs.Common.{◌≡◌, ℕ, Bool, true, false, List, [], ◌∷◌, ◌++◌, Option, Some, None, refl, ap, sym, ◌∙◌}
use Rattle.std.specs.Prelude.{zero, suc, is_some, if◌then◌else◌}
use Rattle.sctp_receiving.specs.Pieces.{Piece}
use Rattle.sctp_receiving.specs.Consuming as consuming
use Rattle.sctp_receiving.specs.Receiver.{received, drained}
use Rattle.sctp_receiving.specs.Receiver as receiving
use Rattle.sctp_receiving.specs.declared.violation.Violation.{Violation}
use Rattle.sctp_receiving.specs.declared.violation.Violation.TheVariants as violations
use Rattle.sctp_codec.specs.Packets as packets
use Rattle.sctp_codec.specs.Packets.{ChunkValue, DataValue}
use Rattle.sctp_rules.specs.declared.loss.Loss.{Loss}
use Rattle.sctp_rules.specs.declared.loss.Loss.TheVariants as losses
use Rattle.sctp_rules.specs.Settings.{Settings, Secrets}
use Rattle.sctp_rules.specs.State as state
use Rattle.sctp_rules.specs.State.{State, Told, Up, Heard, Down, Failed, Done, silent, followed_by, first_state}
use Rattle.sctp_rules.specs.Ending as ending
use Rattle.sctp_rules.specs.Data as data_rules
use Rattle.sctp_rules.specs.Endpoint.{Happening, Opens, Came, Ticked, Sends, Aborts, ShutsDown, Flushes, after, after_all}
use Rattle.sctp_rules.specs.Telling.{turned, turned_by, and_then, told_in_turn}
use Rattle.sctp_rules.proofs.Passing.{Arrivals, AreSteps, Passes, Right, HaveCome, Comes, happens, none-right, answer-alike}

-- ---- lists of what is told

from-there : (o : Option Bool) (ts second : List Told) →
    ((up : Bool) → turned_by (ts ++ second) up ≡ and_then (λ v. turned_by second v) (turned_by ts up)) →
    and_then (λ v. turned_by (ts ++ second) v) o ≡ and_then (λ v. turned_by second v) (and_then (λ v. turned_by ts v) o)
from-there None ts second h = refl
from-there (Some up) ts second h = h up

turned-on : (first second : List Told) (up : Bool) →
    turned_by (first ++ second) up ≡ and_then (λ v. turned_by second v) (turned_by first up)
turned-on [] second up = refl
turned-on (t ∷ ts) second up = from-there (turned up t) ts second (λ v. turned-on ts second v)

-- what a rule tells is told in turn
pub record Turns (s : State) (d : Done) : Type 0 where
  pub turn : turned_by d.told s.association.is_up ≡ Some d.left.association.is_up

also-turns : (s : State) (d : Done) (rule : State → Done) → Turns s d → Turns d.left (rule d.left) → Turns s (followed_by d rule)
also-turns s d rule t u = record {
  turn = turned-on d.told (rule d.left).told s.association.is_up
      ∙ ap (λ (o : Option Bool). and_then (λ v. turned_by (rule d.left).told v) o) t.turn
      ∙ u.turn;
}

ended-turn : (is_up is_wanted : Bool) (why : Loss) →
    turned_by (if is_up then Down why ∷ [] else (if is_wanted then Failed why ∷ [] else [])) is_up ≡ Some false
ended-turn true is_wanted why = refl
ended-turn false true why = refl
ended-turn false false why = refl

shut-turn : (up : Bool) (why : Loss) → turned_by (if up then Down why ∷ [] else []) up ≡ Some false
shut-turn true why = refl
shut-turn false why = refl

ended-turns : (c : Settings) (why : Loss) (chunks : List ChunkValue) (s : State) → Turns s (ending.ended_with c why chunks s)
ended-turns c why chunks s = record { turn = ended-turn s.association.is_up s.is_wanted why }

-- ---- what a receiver tells: a violation is the last

abbrev pub OnlyLast : List consuming.Told → Type 0
OnlyLast [] = Unit {0}
OnlyLast (told ∷ []) = Unit {0}
OnlyLast (told ∷ next ∷ more) = (receiving.is_violation told ≡ false) × OnlyLast (next ∷ more)

put-before : (told : consuming.Told) (more : List consuming.Told) → receiving.is_violation told ≡ false → OnlyLast more →
    OnlyLast (told ∷ more)
put-before told [] e h = tt
put-before told (next ∷ more) e h = (e, h)

then-last : (b : Bool) (told : consuming.Told) (left : receiving.Receiver) (rest : receiving.Steps) →
    receiving.is_violation told ≡ b → OnlyLast rest.told →
    OnlyLast (if b then record { left = left; told = told ∷ [] } else receiving.followed_by told rest).told
then-last true told left rest e h = tt
then-last false told left rest e h = put-before told rest.told e h

last-if : (b : Bool) (x y : receiving.Steps) → OnlyLast x.told → OnlyLast y.told → OnlyLast (if b then x else y).told
last-if true x y h i = h
last-if false x y h i = i

drained-last : (many : ℕ) (r : receiving.Receiver) → OnlyLast (drained many r).told
unfolding drained
drained-last zero r = tt
drained-last (suc many) r =
    let step : receiving.Step = receiving.take_next r in
    last-if (is_some (receiving.next_held r)) (receiving.and_then (λ left. drained many left) step) (record { left = r; told = [] })
    (then-last (receiving.is_violation step.told) step.told step.left (drained many step.left) refl (drained-last many step.left))
    tt

pub received-last : (r : receiving.Receiver) (tsn : ℕ) (p : Piece) → OnlyLast (received r tsn p).told
received-last r tsn p =
    let step : receiving.Step = receiving.hear r tsn p in
    then-last (receiving.is_violation step.told) step.told step.left (drained 256 step.left) refl (drained-last 256 step.left)

pub rest-last : (told : consuming.Told) (more : List consuming.Told) → OnlyLast (told ∷ more) → OnlyLast more
rest-last told [] h = tt
rest-last told (next ∷ more) h = h.1

violated-turns : (c : Settings) (v : Violation) (s : State) → Turns s (data_rules.violated c v s)
violated-turns c (violations.FragmentOfNoStream stream) s =
    let later : State = ending.answered (data_rules.no_stream stream) s in
    let d : Done = data_rules.violated c (violations.FragmentOfNoStream stream) s in
    record {
      turn = ap (λ (up : Bool). turned_by d.told up) (answer-alike (data_rules.no_stream stream) s).up
          ∙ ended-turn later.association.is_up later.is_wanted losses.Protocol;
    }
violated-turns c violations.Misplaced s = ended-turns c losses.Protocol (ending.abort_for ending.violation ∷ []) s
violated-turns c violations.Differs s = ended-turns c losses.Protocol (ending.abort_for ending.violation ∷ []) s
violated-turns c violations.TooLong s = ended-turns c losses.Protocol (ending.abort_for ending.violation ∷ []) s

each-turns : (c : Settings) (tolds : List consuming.Told) (s : State) → OnlyLast tolds → s.association.is_up ≡ true →
    Turns s (data_rules.told_each c tolds s)
each-turns c [] s h u = record { turn = refl }
each-turns c (consuming.Nothing ∷ more) s h u =
    record { turn = (each-turns c more s (rest-last consuming.Nothing more h) u).turn }
each-turns c (consuming.Tells m ∷ more) s h u =
    let rest : Done = data_rules.told_each c more s in
    record {
      turn = ap (λ (up : Bool). turned_by (Heard m ∷ rest.told) up) u
          ∙ ap (λ (up : Bool). turned_by rest.told up) (sym u)
          ∙ (each-turns c more s (rest-last (consuming.Tells m) more h) u).turn;
    }
each-turns c (consuming.NoStream stream ∷ more) s h u =
    let later : State = ending.answered (data_rules.no_stream stream) s in
    let same = (answer-alike (data_rules.no_stream stream) s).up in
    let rest : Done = data_rules.told_each c more later in
    record {
      turn = ap (λ (up : Bool). turned_by rest.told up) same
          ∙ (each-turns c more later (rest-last (consuming.NoStream stream) more h) (sym same ∙ u)).turn;
    }
each-turns c (consuming.Violates v ∷ []) s h u =
    let d : Done = data_rules.violated c v s in
    also-turns s d (λ left. data_rules.told_each c [] left) (violated-turns c v s) (record { turn = refl })
each-turns c (consuming.Violates v ∷ one ∷ more) s h u = let e : true ≡ false = h.0 in absurd (cc)

-- ---- the pass

abbrev pub anything_with : (wish : Type 0) → Arrivals
anything_with wish = record { carried = λ d. Unit {0}; cumulative = λ n. Unit {0}; tag = λ n. Unit {0}; message = λ m. Unit {0}; flush = Unit {0}; wish = wish }

abbrev pub anything : Arrivals
anything = anything_with (Unit {0})

pub turn-steps : AreSteps anything Turns
turn-steps = record {
  alike = λ s left sent f bare. let a = f.same in record { turn = ap (λ (up : Bool). Some up) a.up };
  ended = λ c why chunks s bare. ended-turns c why chunks s;
  tries = λ s left sent i bare. record { turn = ap (λ (up : Bool). Some up) (i.was_down ∙ sym i.is_down) };
  opens = λ c now own far first peer address s t d w. record { turn = ap (λ (up : Bool). turned_by (Up ∷ []) up) d };
  shuts = λ s left i. record { turn = shut-turn s.association.is_up losses.Shutdown ∙ ap (λ (up : Bool). Some up) (sym i.is_down) };
  takes = λ c d s come t r up now-takes.
      let steps : receiving.Steps = received s.association.receiver d.tsn (data_rules.piece_of d) in
      let taken : State = state.with_association s (record s.association { receiver = steps.left; is_sack_due = true }) in
      record { turn = (each-turns c steps.told taken (received-last s.association.receiver d.tsn (data_rules.piece_of d)) up).turn };
  confirms = λ s left n h t a answer. record { turn = ap (λ (up : Bool). Some up) a.up };
  wants = λ s h. record { turn = refl };
  gives = λ m s left h a. record { turn = ap (λ (up : Bool). Some up) a.up };
  reports = λ s. record { turn = refl };
  puts = λ s left sent h a. record { turn = ap (λ (up : Bool). Some up) a.up };
  also = also-turns;
}

pub any-chunks : (wish : Type 0) (chunks : List ChunkValue) → HaveCome (anything_with wish) chunks
any-chunks wish [] = tt
any-chunks wish (packets.DataChunk d ∷ chunks) = (tt, any-chunks wish chunks)
any-chunks wish (packets.InitChunk init ∷ chunks) = (tt, any-chunks wish chunks)
any-chunks wish (packets.InitAckChunk init ∷ chunks) = (tt, any-chunks wish chunks)
any-chunks wish (packets.SackChunk sack ∷ chunks) = (tt, any-chunks wish chunks)
any-chunks wish (packets.HeartbeatChunk information ∷ chunks) = (tt, any-chunks wish chunks)
any-chunks wish (packets.HeartbeatAckChunk information ∷ chunks) = (tt, any-chunks wish chunks)
any-chunks wish (packets.AbortChunk is_reflected causes ∷ chunks) = (tt, any-chunks wish chunks)
any-chunks wish (packets.ShutdownChunk cumulative ∷ chunks) = (tt, any-chunks wish chunks)
any-chunks wish (packets.ShutdownAckChunk ∷ chunks) = (tt, any-chunks wish chunks)
any-chunks wish (packets.ErrorChunk causes ∷ chunks) = (tt, any-chunks wish chunks)
any-chunks wish (packets.CookieEchoChunk cookie ∷ chunks) = (tt, any-chunks wish chunks)
any-chunks wish (packets.CookieAckChunk ∷ chunks) = (tt, any-chunks wish chunks)
any-chunks wish (packets.ShutdownCompleteChunk is_reflected ∷ chunks) = (tt, any-chunks wish chunks)
any-chunks wish (packets.UnknownChunk kind flags value ∷ chunks) = (tt, any-chunks wish chunks)
any-chunks wish (packets.MalformedChunk kind ∷ chunks) = (tt, any-chunks wish chunks)

pub any-happening : (what : Happening) → Comes anything what
any-happening (Came now source packet) = (any-chunks (Unit {0}) packet.chunks, tt)
any-happening (Opens now is_active) = tt
any-happening (Ticked now) = tt
any-happening (Sends message) = tt
any-happening Aborts = tt
any-happening (ShutsDown now) = tt
any-happening (Flushes now) = tt

all-turn : (c : Settings) (k : Secrets) (whats : List Happening) (s : State) → Right s → Turns s (after_all c k whats s)
all-turn c k [] s r = record { turn = refl }
all-turn c k (what ∷ more) s r =
    let t : Passes Turns s (after c k what s) = happens turn-steps c k what s (any-happening what) r in
    also-turns s (after c k what s) (λ left. after_all c k more left) t.kept (all-turn c k more (after c k what s).left t.left)

pub in-turn : told_in_turn
in-turn c k happenings = (all-turn c k happenings (first_state c) none-right).turn
