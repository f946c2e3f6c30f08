-- How often associations open, by the pass over all rules; and packets with another tag.
use Rattle.std.proofs.Common.{◌≡◌, ◌≢◌, ◌≤◌, ℕ, ◌+◌, ◌-◌, Bool, true, false, List, [], ◌∷◌, ◌++◌, Option, Some, None, refl, ap, ◌∙◌, subst}
use Rattle.std.proofs.Common.{arith, nat_eq, nat_lt, sym}
use Rattle.std.specs.Prelude.{◌&&◌, ◌||◌, not, if◌then◌else◌}
use Rattle.std.proofs.lemmas.Bool.Decides.{nat_tests}
use Rattle.sctp_receiving.specs.Consuming as consuming
use Rattle.sctp_receiving.specs.Receiver.{received}
use Rattle.sctp_receiving.specs.Receiver as receiving
use Rattle.sctp_receiving.specs.declared.violation.Violation.{Violation}
use Rattle.sctp_receiving.specs.declared.violation.Violation.TheVariants as violations
use Rattle.sctp_codec.specs.Packets.{ChunkValue, DataValue, PacketValue, InitValue, InitAckChunk}
use Rattle.sctp_codec.specs.Packets as packets
use Rattle.sctp_codec.specs.Parameters.{InvalidParameter, host_name_in}
use Rattle.sctp_rules.specs.declared.phase.Phase.{Phase}
use Rattle.sctp_rules.specs.declared.phase.Phase.TheVariants.{Closed, CookieWait, CookieEchoed, Established}
use Rattle.sctp_rules.specs.declared.phase.Phase.TheVariants.{ShutdownPending, ShutdownSent, ShutdownReceived}
use Rattle.sctp_rules.specs.declared.phase.Phase.TheVariants.{ShutdownAckSent}
use Rattle.sctp_rules.specs.declared.loss.Loss.{Loss}
use Rattle.sctp_rules.specs.declared.loss.Loss.TheVariants as losses
use Rattle.sctp_rules.specs.Settings.{Settings, Secrets, Beginning, Address}
use Rattle.sctp_rules.specs.State as state
use Rattle.sctp_rules.specs.State.{State, Told, Up, Heard, Down, Failed, Done, silent, followed_by, first_state}
use Rattle.sctp_rules.specs.Ending as ending
use Rattle.sctp_rules.specs.Opening as opening
use Rattle.sctp_rules.specs.Data as data_rules
use Rattle.sctp_rules.specs.Packets as arriving
use Rattle.sctp_rules.specs.Endpoint.{Happening, after, after_all}
use Rattle.sctp_rules.specs.Openings.{openings, generations_grow, cookies_open_in_their_generation, other_tags_are_dropped}
use Rattle.sctp_rules.specs.Openings.{has_own_rule, answers_come_from_anywhere, IsStill, inits_change_nothing}
use Rattle.sctp_rules.proofs.Passing.{AreSteps, Passes, Right, happens, none-right, answer-alike}
use Rattle.sctp_rules.proofs.Telling.{anything, any-happening}

-- ---- the generation

pub openings-on : (first second : List Told) → openings (first ++ second) ≡ openings first + openings second
openings-on [] second = omega arith
openings-on (Up ∷ more) second = omega (arith, openings-on more second)
openings-on (Heard m ∷ more) second = openings-on more second
openings-on (Down why ∷ more) second = openings-on more second
openings-on (Failed why ∷ more) second = openings-on more second

-- what a rule does to the generation
pub record Grows (s : State) (d : Done) : Type 0 where
  pub grows : openings d.told + s.generation ≤ d.left.generation

also-grows : (s : State) (d : Done) (rule : State → Done) → Grows s d → Grows d.left (rule d.left) → Grows s (followed_by d rule)
also-grows s d rule t u = record { grows = omega (arith, t.grows, u.grows, openings-on d.told (rule d.left).told) }

pub no-openings : (is_up is_wanted : Bool) (why : Loss) →
    openings (if is_up then Down why ∷ [] else (if is_wanted then Failed why ∷ [] else [])) ≡ 0
no-openings true is_wanted why = refl
no-openings false true why = refl
no-openings false false why = refl

pub none-shut : (up : Bool) (why : Loss) → openings (if up then Down why ∷ [] else []) ≡ 0
none-shut true why = refl
none-shut false why = refl

ended-grows : (c : Settings) (why : Loss) (chunks : List ChunkValue) (s : State) → Grows s (ending.ended_with c why chunks s)
ended-grows c why chunks s =
    record { grows = omega (arith, no-openings s.association.is_up s.is_wanted why) }

violated-grows : (c : Settings) (v : Violation) (s : State) → Grows s (data_rules.violated c v s)
violated-grows c (violations.FragmentOfNoStream stream) s =
    let later : State = ending.answered (data_rules.no_stream stream) s in
    record {
      grows = omega (
        arith,
        (answer-alike (data_rules.no_stream stream) s).generation,
        no-openings later.association.is_up later.is_wanted losses.Protocol,
      );
    }
violated-grows c violations.Misplaced s = ended-grows c losses.Protocol (ending.abort_for ending.violation ∷ []) s
violated-grows c violations.Differs s = ended-grows c losses.Protocol (ending.abort_for ending.violation ∷ []) s
violated-grows c violations.TooLong s = ended-grows c losses.Protocol (ending.abort_for ending.violation ∷ []) s

one-grows : (c : Settings) (told : consuming.Told) (s : State) → Grows s (data_rules.told_one c told s)
one-grows c consuming.Nothing s = record { grows = omega arith }
one-grows c (consuming.Tells m) s = record { grows = omega arith }
one-grows c (consuming.NoStream stream) s =
    record { grows = omega (arith, (answer-alike (data_rules.no_stream stream) s).generation) }
one-grows c (consuming.Violates v) s = violated-grows c v s

each-grows : (c : Settings) (tolds : List consuming.Told) (s : State) → Grows s (data_rules.told_each c tolds s)
each-grows c [] s = record { grows = omega arith }
each-grows c (told ∷ more) s =
    also-grows s (data_rules.told_one c told s) (λ left. data_rules.told_each c more left) (one-grows c told s)
    (each-grows c more (data_rules.told_one c told s).left)

growing-steps : AreSteps anything Grows
growing-steps = record {
  alike = λ s left sent f bare. let a = f.same in record { grows = omega (arith, a.generation) };
  ended = λ c why chunks s bare. ended-grows c why chunks s;
  tries = λ s left sent i bare. record { grows = omega (arith, i.generation) };
  opens = λ c now own far first peer address s t d w. record { grows = omega arith };
  shuts = λ s left i. record { grows = omega (arith, i.generation, none-shut s.association.is_up losses.Shutdown) };
  takes = λ c d s come t r up now-takes.
      let steps : receiving.Steps = received s.association.receiver d.tsn (data_rules.piece_of d) in
      let taken : State = state.with_association s (record s.association { receiver = steps.left; is_sack_due = true }) in
      record { grows = (each-grows c steps.told taken).grows };
  confirms = λ s left n h t a answer. record { grows = omega (arith, a.generation) };
  wants = λ s h. record { grows = omega arith };
  gives = λ m s left h a. record { grows = omega (arith, a.generation) };
  reports = λ s. record { grows = omega arith };
  puts = λ s left sent h a. record { grows = omega (arith, a.generation) };
  also = also-grows;
}

all-grow : (c : Settings) (k : Secrets) (whats : List Happening) (s : State) → Right s → Passes Grows s (after_all c k whats s)
all-grow c k [] s r = record { kept = record { grows = omega arith }; left = r }
all-grow c k (what ∷ more) s r =
    let t : Passes Grows s (after c k what s) = happens growing-steps c k what s (any-happening what) r in
    let left : State = (after c k what s).left in
    let u : Passes Grows left (after_all c k more left) = all-grow c k more left t.left in
    record { kept = also-grows s (after c k what s) (λ x. after_all c k more x) t.kept u.kept; left = u.left }

pub generations-grow : generations_grow
generations-grow c k before happenings =
    let start : Passes Grows (first_state c) (after_all c k before (first_state c)) = all-grow c k before (first_state c) none-right in
    let g = (all-grow c k happenings (after_all c k before (first_state c)).left start.left).kept.grows in
    omega (arith, g)

-- ---- cookies

echo-openings : (b : Bool) (x y : opening.Echo) → openings x.does.told ≡ 0 → openings y.does.told ≡ 0 →
    openings (if b then x else y).does.told ≡ 0
echo-openings true x y e f = e
echo-openings false x y e f = f

no-cookie : (b : Bool) (x y : opening.Echo) → b ≡ false → openings y.does.told ≡ 0 → openings (if b then x else y).does.told ≡ 0
no-cookie true x y e f = absurd (cc)
no-cookie false x y e f = f

other-generation : (m n : ℕ) → m ≢ n → nat_eq m n ≡ false
other-generation m n h = grind (arith, nat_tests, h)

pub cookies-open : cookies_open_in_their_generation
cookies-open c k now source cookie s h =
    let a = s.association in
    let good : opening.Echo = opening.good_echo_in a.phase c k now source cookie s in
    let old : opening.Echo = opening.stops (opening.stale c source 1 cookie s) in
    let late : opening.Echo = opening.stops (opening.stale c source (opening.staleness now cookie) cookie s) in
    let fresh : opening.Echo = if nat_eq cookie.generation s.generation then good else old in
    echo-openings (opening.is_there a.phase && opening.is_own cookie a && opening.is_far cookie a) (opening.acknowledged_again s)
    (if nat_lt cookie.life (now - cookie.made) then late else fresh) refl
    (echo-openings (nat_lt cookie.life (now - cookie.made)) late fresh refl
    (no-cookie (nat_eq cookie.generation s.generation) good old (other-generation cookie.generation s.generation h) refl))

-- ---- other tags

none-of : (a b c : Bool) → not (a || b || c) ≡ true → (a ≡ false) × (b ≡ false) × (c ≡ false)
none-of true b c h = absurd (cc)
none-of false true c h = absurd (cc)
none-of false false true h = absurd (cc)
none-of false false false h = (refl, refl, refl)

falls : (a b c : Bool) (x y z w : Done) → a ≡ false → b ≡ false → c ≡ false →
    (if a then x else (if b then y else (if c then z else w))) ≡ w
falls true b c x y z w e f g = absurd (cc)
falls false true c x y z w e f g = absurd (cc)
falls false false true x y z w e f g = absurd (cc)
falls false false false x y z w e f g = refl

or-none : (a b : Bool) → a ≡ false → b ≡ false → (a || b) ≡ false
or-none true b e f = absurd (cc)
or-none false b e f = f

never-late : (phase : Phase) (first : ChunkValue) → opening.is_waiting phase ≡ false → opening.is_echoed phase ≡ false →
    arriving.is_late_shutdown phase first ≡ false
never-late phase packets.ShutdownAckChunk e f = or-none (opening.is_waiting phase) (opening.is_echoed phase) e f
never-late phase first e f = refl

wrong-tag : (b own : Bool) (tag : Bool) → b ≡ false → tag ≡ false → (if b then own else tag) ≡ false
wrong-tag true own tag e f = absurd (cc)
wrong-tag false own tag e f = f

dropped : (c : Settings) (k : Secrets) (now : ℕ) (source : Address) (tag : ℕ) (first : ChunkValue) (more : List ChunkValue) (s : State) →
    arriving.has_peer_tag first ≡ false → opening.is_there s.association.phase ≡ true → tag ≢ s.association.own_tag →
    arriving.heard_otherwise c k now source tag first more s ≡ silent s
dropped c k now source tag first more s e f g =
    let phase : Phase = s.association.phase in
    let none = none-of (opening.is_closed phase) (opening.is_waiting phase) (opening.is_echoed phase) f in
    falls (opening.is_closed phase) (arriving.is_late_shutdown phase first) (arriving.has_tag s.association tag first)
    (arriving.out_of_the_blue c source tag first more s) (state.put c source tag (packets.ShutdownCompleteChunk true ∷ []) s)
    (arriving.heard_by_tag c k now source tag (arriving.looked_at first more) s) (silent s)
    none.0 (never-late phase first none.1 none.2)
    (wrong-tag (arriving.has_peer_tag first) (not (nat_eq s.association.far_tag 0) && nat_eq tag s.association.far_tag)
    (nat_eq tag s.association.own_tag) e (other-generation tag s.association.own_tag g))

same-done : (b : Bool) (x w : Done) → x ≡ w → (if b then w else x) ≡ w
same-done true x w e = refl
same-done false x w e = e

either-done : (b : Bool) (x w : Done) → x ≡ w → (if b then x else w) ≡ w
either-done true x w e = e
either-done false x w e = refl

first-dropped : (c : Settings) (k : Secrets) (now : ℕ) (source : Address) (tag : ℕ) (first : ChunkValue) (more : List ChunkValue) (s : State) →
    has_own_rule first ≡ false → arriving.has_peer_tag first ≡ false → opening.is_there s.association.phase ≡ true →
    tag ≢ s.association.own_tag → arriving.heard_first c k now source tag first more s ≡ silent s
first-dropped c k now source tag (packets.InitChunk init) more s o e f g = absurd (cc)
first-dropped c k now source tag (packets.CookieEchoChunk cookie) more s o e f g = absurd (cc)
first-dropped c k now source tag (packets.MalformedChunk kind) more s o e f g =
    same-done (nat_eq kind 1) (arriving.heard_otherwise c k now source tag (packets.MalformedChunk kind) more s) (silent s)
    (dropped c k now source tag (packets.MalformedChunk kind) more s e f g)
first-dropped c k now source tag first more s o e f g = dropped c k now source tag first more s e f g

pub other-tags : other_tags_are_dropped
other-tags c k now source p first more s chunks o e f g =
    either-done (nat_eq p.destination c.own_port && nat_eq p.source c.far_port)
    (arriving.heard_all c k now source p.tag p.chunks s) (silent s)
    (ap (λ (l : List ChunkValue). arriving.heard_all c k now source p.tag l s) chunks
    ∙ first-dropped c k now source p.tag first more s o e f g)

-- ---- an INIT ACK that comes from anywhere

module _ (c : Settings) (k : Secrets) (now tag : ℕ) (init : InitValue) (s : State) (e : s.association.phase ≡ CookieWait) where
  source-stays : (source : Address) → arriving.from_source source s ≡ s
  source-stays source =
      ap (λ (b : Bool). if b then s else state.with_association s (record s.association { address = source }))
      (ap opening.is_waiting e)

  -- what it does without its source
  abbrev plain : Done
  plain =
      if arriving.has_tag s.association tag (InitAckChunk init)
      then arriving.heard_chunks c k now tag (InitAckChunk init ∷ []) s
      else silent s

  without-source : (source : Address) → arriving.heard_otherwise c k now source tag (InitAckChunk init) [] s ≡ plain
  without-source source =
      ap (λ (b : Bool). if b then arriving.out_of_the_blue c source tag (InitAckChunk init) [] s
      else (if arriving.has_tag s.association tag (InitAckChunk init)
      then arriving.heard_by_tag c k now source tag (InitAckChunk init ∷ []) s
      else silent s)) (ap opening.is_closed e)
      ∙ ap (λ (t : State). if arriving.has_tag s.association tag (InitAckChunk init)
      then arriving.heard_chunks c k now tag (InitAckChunk init ∷ []) t
      else silent s) (source-stays source)

pub from-anywhere : answers_come_from_anywhere
from-anywhere c k now source other p init s e chunks =
    let here : (from : Address) → arriving.heard_all c k now from p.tag p.chunks s ≡ plain c k now p.tag init s e =
    λ from. ap (λ (l : List ChunkValue). arriving.heard_all c k now from p.tag l s) chunks ∙ without-source c k now p.tag init s e from in
    ap (λ (d : Done). if nat_eq p.destination c.own_port && nat_eq p.source c.far_port then d else silent s)
    (here source ∙ sym (here other))

-- ---- INIT

quiet-still : (s : State) → IsStill s (silent s)
quiet-still s = record { told = refl; left = refl }

either-still : (b : Bool) (s : State) (d e : Done) → IsStill s d → IsStill s e → IsStill s (if b then d else e)
either-still true s d e h g = h
either-still false s d e h g = g

anew-still : (b : Option Beginning) (c : Settings) (k : Secrets) (now : ℕ) (source : Address) (init : InitValue) (s : State) →
    IsStill s (opening.answered_anew_with c k now source init b s)
anew-still None c k now source init s = quiet-still s
anew-still (Some b) c k now source init s = record { told = refl; left = refl }

init-still : (phase : Phase) (c : Settings) (k : Secrets) (now : ℕ) (source : Address) (init : InitValue) (s : State) →
    IsStill s (opening.init_in phase c k now source init s)
init-still Closed c k now source init s =
    either-still s.is_wanted s (opening.answered_anew c k now source init s) (silent s)
    (anew-still (k.beginning s.beginnings) c k now source init s) (quiet-still s)
init-still CookieWait c k now source init s = record { told = refl; left = refl }
init-still CookieEchoed c k now source init s =
    either-still (nat_eq init.tag s.association.far_tag) s (opening.answered_alike c k now source init s)
    (opening.answered_anew c k now source init s) (record { told = refl; left = refl })
    (anew-still (k.beginning s.beginnings) c k now source init s)
init-still Established c k now source init s = anew-still (k.beginning s.beginnings) c k now source init s
init-still ShutdownPending c k now source init s = anew-still (k.beginning s.beginnings) c k now source init s
init-still ShutdownSent c k now source init s = anew-still (k.beginning s.beginnings) c k now source init s
init-still ShutdownReceived c k now source init s = anew-still (k.beginning s.beginnings) c k now source init s
init-still ShutdownAckSent c k now source init s = record { told = refl; left = refl }

judged-still : (name : Option (List ℕ)) (c : Settings) (k : Secrets) (now : ℕ) (source : Address) (init : InitValue) (s : State) →
    IsStill s (opening.judged_init name c k now source init s)
judged-still (Some name) c k now source init s = record { told = refl; left = refl }
judged-still None c k now source init s =
    either-still (opening.has_few_streams init) s (state.put c source init.tag (ending.abort_for InvalidParameter ∷ []) s)
    (opening.init_in s.association.phase c k now source init s) (record { told = refl; left = refl })
    (init-still s.association.phase c k now source init s)

heard-still : (c : Settings) (k : Secrets) (now : ℕ) (source : Address) (init : InitValue) (s : State) →
    IsStill s (opening.heard_init c k now source init s)
heard-still c k now source init s =
    either-still (nat_eq init.tag 0) s (silent s) (opening.judged_init (host_name_in init.parameters) c k now source init s)
    (quiet-still s) (judged-still (host_name_in init.parameters) c k now source init s)

pub inits-still : inits_change_nothing
inits-still c k now source p init more s chunks =
    either-still (nat_eq p.destination c.own_port && nat_eq p.source c.far_port) s (arriving.heard_all c k now source p.tag p.chunks s) (silent s)
    (subst (λ (l : List ChunkValue). IsStill s (arriving.heard_all c k now source p.tag l s)) (sym chunks) (heard-still c k now source init s))
    (quiet-still s)
