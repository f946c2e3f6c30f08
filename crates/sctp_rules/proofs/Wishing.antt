-- What the user wants and is told, by the pass over all rules.
use Rattle.std.proofs.Common.{◌≡◌, Bool, true, false, List, [], ◌∷◌, ◌++◌, Option, Some, None, refl, sym, ◌∙◌, subst}
use Rattle.std.specs.Prelude.{ℕ, not, ◌||◌, if◌then◌else◌}
use Rattle.sctp_receiving.specs.Pieces as pieces
use Rattle.sctp_receiving.specs.Consuming as consuming
use Rattle.sctp_receiving.specs.Receiver.{received}
use Rattle.sctp_receiving.specs.Receiver as receiving
use Rattle.sctp_receiving.specs.declared.violation.Violation.{Violation}
use Rattle.sctp_receiving.specs.declared.violation.Violation.TheVariants as violations
use Rattle.sctp_codec.specs.Packets.{ChunkValue}
use Rattle.sctp_rules.specs.declared.loss.Loss.{Loss}
use Rattle.sctp_rules.specs.declared.loss.Loss.TheVariants as losses
use Rattle.sctp_rules.specs.Settings.{Settings, Secrets, Beginning}
use Rattle.sctp_rules.specs.State as state
use Rattle.sctp_rules.specs.State.{State, Told, Up, Heard, Down, Failed, Done, silent, followed_by, first_state}
use Rattle.sctp_rules.specs.Ending as ending
use Rattle.sctp_rules.specs.Opening as opening
use Rattle.sctp_rules.specs.Data as data_rules
use Rattle.sctp_rules.specs.Endpoint.{Happening, Opens, Came, Ticked, Sends, Aborts, ShutsDown, Flushes, after, after_all}
use Rattle.sctp_rules.specs.Wishing.{Wish, Idle, Seeking, Served, wish_by, wish_by_call, wish_after, and_then, wish_after_all, Fits, told_as_wished}
use Rattle.sctp_rules.proofs.Passing.{AreSteps, Right, Alike, happens, none-right, answer-alike, closed-down, both-true}
use Rattle.sctp_rules.proofs.Telling.{OnlyLast, rest-last, received-last, anything_with, any-chunks, any-happening, turn-steps}

-- ---- lists of what is told

from-there : (o : Option Wish) (ts second : List Told) →
    ((w : Wish) → wish_after (ts ++ second) w ≡ and_then (λ v. wish_after second v) (wish_after ts w)) →
    and_then (λ v. wish_after (ts ++ second) v) o ≡ and_then (λ v. wish_after second v) (and_then (λ v. wish_after ts v) o)
from-there None ts second h = refl
from-there (Some w) ts second h = h w

wish-on : (first second : List Told) (w : Wish) → wish_after (first ++ second) w ≡ and_then (λ v. wish_after second v) (wish_after first w)
wish-on [] second w = refl
wish-on (t ∷ ts) second w = from-there (wish_by t w) ts second (λ v. wish-on ts second v)

-- what a rule tells fits what the user wants
pub record Wishes (s : State) (d : Done) : Type 0 where
  pub fits : (w : Wish) → Fits (Some w) s → Fits (wish_after d.told w) d.left

then-fits : (o : Option Wish) (s : State) (d : Done) → Fits o s → Wishes s d → Fits (and_then (λ v. wish_after d.told v) o) d.left
then-fits None s d f h = absurd f
then-fits (Some w) s d f h = h.fits w f

also-wishes : (s : State) (d : Done) (rule : State → Done) → Wishes s d → Wishes d.left (rule d.left) → Wishes s (followed_by d rule)
also-wishes s d rule g h = record {
  fits = λ w f. subst (λ (o : Option Wish). Fits o (rule d.left).left) (sym (wish-on d.told (rule d.left).told w)) (then-fits (wish_after d.told w) d.left (rule d.left) (g.fits w f) h);
}

-- one state is as another to the user
fits-as : (o : Option Wish) (s left : State) → s.association.is_up ≡ left.association.is_up → s.is_wanted ≡ left.is_wanted → Fits o s → Fits o left
fits-as None s left u v f = absurd f
fits-as (Some Idle) s left u v f = (sym u ∙ f.0, sym v ∙ f.1)
fits-as (Some Seeking) s left u v f = sym u ∙ f
fits-as (Some Served) s left u v f = sym u ∙ f

alike-wishes : (s left : State) (sent : List state.Datagram) → Alike s left → Wishes s (record { sent = sent; told = []; left = left })
alike-wishes s left sent a = record { fits = λ w f. fits-as (Some w) s left a.up a.wanted f }

false-true : {A : Type 0} → false ≡ true → A
false-true e = absurd cc

-- ---- an end

gone : (w : Wish) (up wanted : Bool) (why : Loss) (s left : State) → s.association.is_up ≡ up → s.is_wanted ≡ wanted → left.association.is_up ≡ false → left.is_wanted ≡ false →
    Fits (Some w) s → Fits (wish_after (if up then Down why ∷ [] else (if wanted then Failed why ∷ [] else [])) w) left
gone Idle true wanted why s left u v d e f = false-true (sym f.0 ∙ u)
gone Idle false true why s left u v d e f = false-true (sym f.1 ∙ v)
gone Idle false false why s left u v d e f = (d, e)
gone Seeking true wanted why s left u v d e f = false-true (sym f ∙ u)
gone Seeking false true why s left u v d e f = (d, e)
gone Seeking false false why s left u v d e f = d
gone Served true wanted why s left u v d e f = (d, e)
gone Served false wanted why s left u v d e f = false-true (sym u ∙ f)

ended-wishes : (c : Settings) (why : Loss) (chunks : List ChunkValue) (s : State) → Wishes s (ending.ended_with c why chunks s)
ended-wishes c why chunks s = record {
  fits = λ w f. gone w s.association.is_up s.is_wanted why s (ending.ended_with c why chunks s).left refl refl refl refl f;
}

shut : (w : Wish) (up : Bool) (why : Loss) (s left : State) → s.association.is_up ≡ up → left.association.is_up ≡ false → left.is_wanted ≡ false → Fits (Some w) s →
    Fits (wish_after (if up then Down why ∷ [] else []) w) left
shut Idle true why s left u d e f = false-true (sym f.0 ∙ u)
shut Idle false why s left u d e f = (d, e)
shut Seeking true why s left u d e f = false-true (sym f ∙ u)
shut Seeking false why s left u d e f = d
shut Served true why s left u d e f = (d, e)
shut Served false why s left u d e f = false-true (sym u ∙ f)

-- ---- what a receiver tells

answer-wishes : (chunk : ChunkValue) (s : State) → Wishes s (silent (ending.answered chunk s))
answer-wishes chunk s = alike-wishes s (ending.answered chunk s) [] (answer-alike chunk s)

violated-wishes : (c : Settings) (v : Violation) (s : State) → Wishes s (data_rules.violated c v s)
violated-wishes c (violations.FragmentOfNoStream stream) s =
    let later : State = ending.answered (data_rules.no_stream stream) s in
    also-wishes s (silent later) (λ left. ending.aborted c losses.Protocol ending.violation left) (answer-wishes (data_rules.no_stream stream) s)
    (ended-wishes c losses.Protocol (ending.abort_for ending.violation ∷ []) later)
violated-wishes c violations.Misplaced s = ended-wishes c losses.Protocol (ending.abort_for ending.violation ∷ []) s
violated-wishes c violations.Differs s = ended-wishes c losses.Protocol (ending.abort_for ending.violation ∷ []) s
violated-wishes c violations.TooLong s = ended-wishes c losses.Protocol (ending.abort_for ending.violation ∷ []) s

nothing-wishes : (s : State) → Wishes s (silent s)
nothing-wishes s = record { fits = λ w f. f }

tells-served : (message : pieces.Message) (w : Wish) (s : State) → s.association.is_up ≡ true → Fits (Some w) s → Fits (wish_after (Heard message ∷ []) w) s
tells-served message Idle s u f = false-true (sym f.0 ∙ u)
tells-served message Seeking s u f = false-true (sym f ∙ u)
tells-served message Served s u f = f

each-wishes : (c : Settings) (tolds : List consuming.Told) (s : State) → OnlyLast tolds → s.association.is_up ≡ true → Wishes s (data_rules.told_each c tolds s)
each-wishes c [] s h u = nothing-wishes s
each-wishes c (consuming.Nothing ∷ more) s h u =
    also-wishes s (silent s) (λ left. data_rules.told_each c more left) (nothing-wishes s) (each-wishes c more s (rest-last consuming.Nothing more h) u)
each-wishes c (consuming.Tells m ∷ more) s h u =
    also-wishes s (data_rules.told_one c (consuming.Tells m) s) (λ left. data_rules.told_each c more left) (record { fits = λ w f. tells-served m w s u f })
    (each-wishes c more s (rest-last (consuming.Tells m) more h) u)
each-wishes c (consuming.NoStream stream ∷ more) s h u =
    let later : State = ending.answered (data_rules.no_stream stream) s in
    also-wishes s (silent later) (λ left. data_rules.told_each c more left) (answer-wishes (data_rules.no_stream stream) s)
    (each-wishes c more later (rest-last (consuming.NoStream stream) more h) (sym (answer-alike (data_rules.no_stream stream) s).up ∙ u))
each-wishes c (consuming.Violates v ∷ []) s h u =
    also-wishes s (data_rules.violated c v s) (λ left. data_rules.told_each c [] left) (violated-wishes c v s) (nothing-wishes (data_rules.violated c v s).left)
each-wishes c (consuming.Violates v ∷ one ∷ more) s h u = let e : true ≡ false = h.0 in absurd (cc)

-- ---- an association comes up

rises : (w : Wish) (s left : State) → s.is_wanted ≡ true → s.association.is_up ≡ false → left.association.is_up ≡ true → Fits (Some w) s → Fits (wish_after (Up ∷ []) w) left
rises Idle s left v d u f = false-true (sym f.1 ∙ v)
rises Seeking s left v d u f = u
rises Served s left v d u f = false-true (sym d ∙ f)

-- a try goes on
tries-on : (w : Wish) (s left : State) → s.is_wanted ≡ true → s.association.is_up ≡ false → left.association.is_up ≡ false → Fits (Some w) s → Fits (Some w) left
tries-on Idle s left v d e f = false-true (sym f.1 ∙ v)
tries-on Seeking s left v d e f = e
tries-on Served s left v d e f = false-true (sym d ∙ f)

-- ---- the pass, of all but a call that wants one

wish-steps : AreSteps (anything_with ⊥) Wishes
wish-steps = record {
  alike = λ s left sent f bare. alike-wishes s left sent f.same;
  ended = λ c why chunks s bare. ended-wishes c why chunks s;
  tries = λ s left sent i bare. record { fits = λ w f. tries-on w s left i.was_wanted i.was_down i.is_down f };
  opens = λ c now own far first peer address s t d v.
      let x : Done = opening.opened c now own far first peer address s in
      record { fits = λ w f. rises w s x.left v d refl f };
  shuts = λ s left i. record { fits = λ w f. shut w s.association.is_up losses.Shutdown s left refl i.is_down i.not_wanted f };
  takes = λ c d s come t r up now-takes.
      let steps : receiving.Steps = received s.association.receiver d.tsn (data_rules.piece_of d) in
      let taken : State = state.with_association s (record s.association { receiver = steps.left; is_sack_due = true }) in
      let each = each-wishes c steps.told taken (received-last s.association.receiver d.tsn (data_rules.piece_of d)) up in
      record { fits = λ w f. each.fits w (fits-as (Some w) s taken refl refl f) };
  confirms = λ s left n h t a answer. alike-wishes s left [] a;
  wants = λ s h. absurd h;
  gives = λ m s left h a. alike-wishes s left [] a;
  reports = λ s. record { fits = λ w f. fits-as (Some w) s _ refl refl f };
  puts = λ s left sent h a. alike-wishes s left sent a;
  also = also-wishes;
}

-- ---- a call that wants one

begun-fits : (b : Option Beginning) (c : Settings) (now : ℕ) (s : State) → s.association.is_up ≡ false →
    Fits (wish_after (opening.begun_with c now 0 c.address b s).told Seeking) (opening.begun_with c now 0 c.address b s).left
begun-fits None c now s d = gone Seeking s.association.is_up s.is_wanted losses.NoTag s (ending.ended c losses.NoTag s).left refl refl refl refl d
begun-fits (Some b) c now s d = refl

module _ (c : Settings) (k : Secrets) (now : ℕ) (is_active : Bool) (s : State) where
  abbrev opening_if : (may : Bool) → Done
  opening_if may =
      if may then (if is_active then opening.begun c k now 0 c.address s else silent (record s { is_wanted = true })) else silent s

  active-fits : (active : Bool) → s.association.is_up ≡ false →
      Fits (wish_after (if active then opening.begun c k now 0 c.address s else silent (record s { is_wanted = true })).told Seeking)
      (if active then opening.begun c k now 0 c.address s else silent (record s { is_wanted = true })).left
  active-fits true d = begun-fits (k.beginning s.beginnings) c now s d
  active-fits false d = d

  seeking-fits : (may : Bool) → s.association.is_up ≡ false → Fits (wish_after (opening_if may).told Seeking) (opening_if may).left
  seeking-fits true d = active-fits is_active d
  seeking-fits false d = d

  served-fits : (may : Bool) → (may ≡ true → s.association.is_up ≡ false) → s.association.is_up ≡ true →
      Fits (wish_after (opening_if may).told Served) (opening_if may).left
  served-fits true h u = false-true (sym (h refl) ∙ u)
  served-fits false h u = u

  pub opening-fits : (w : Wish) → Right s → Fits (Some w) s →
      Fits (wish_after (opening.opening c k now is_active s).told (wish_by_call (Opens now is_active) w)) (opening.opening c k now is_active s).left
  opening-fits Idle r f = seeking-fits (opening.may_open is_active s) f.0
  opening-fits Seeking r f = seeking-fits (opening.may_open is_active s) f
  opening-fits Served r f =
      served-fits (opening.may_open is_active s)
      (λ e. r.right.down (closed-down s.association.phase (both-true (opening.is_closed s.association.phase) (is_active || not s.is_wanted) e))) f

-- ---- all that can happen

pub happening-fits : (c : Settings) (k : Secrets) (what : Happening) (s : State) (w : Wish) → Right s → Fits (Some w) s →
    Fits (wish_after (after c k what s).told (wish_by_call what w)) (after c k what s).left
unfolding after
happening-fits c k (Opens now is_active) s w r f = opening-fits c k now is_active s w r f
happening-fits c k (Came now source packet) s w r f =
    (happens wish-steps c k (Came now source packet) s (any-chunks ⊥ packet.chunks, tt) r).kept.fits w f
happening-fits c k (Ticked now) s w r f = (happens wish-steps c k (Ticked now) s tt r).kept.fits w f
happening-fits c k (Sends message) s w r f = (happens wish-steps c k (Sends message) s tt r).kept.fits w f
happening-fits c k Aborts s w r f = (happens wish-steps c k Aborts s tt r).kept.fits w f
happening-fits c k (ShutsDown now) s w r f = (happens wish-steps c k (ShutsDown now) s tt r).kept.fits w f
happening-fits c k (Flushes now) s w r f = (happens wish-steps c k (Flushes now) s tt r).kept.fits w f

pub still-right : (c : Settings) (k : Secrets) (what : Happening) (s : State) → Right s → Right (after c k what s).left
still-right c k what s r = (happens turn-steps c k what s (any-happening what) r).left

then-all : (o : Option Wish) (c : Settings) (k : Secrets) (more : List Happening) (s : State) → Fits o s →
    ((w : Wish) → Fits (Some w) s → Fits (wish_after_all c k more s w) (after_all c k more s).left) →
    Fits (and_then (λ v. wish_after_all c k more s v) o) (after_all c k more s).left
then-all None c k more s f h = absurd f
then-all (Some w) c k more s f h = h w f

all-fit : (c : Settings) (k : Secrets) (whats : List Happening) (s : State) (w : Wish) → Right s → Fits (Some w) s →
    Fits (wish_after_all c k whats s w) (after_all c k whats s).left
all-fit c k [] s w r f = f
all-fit c k (what ∷ more) s w r f =
    let left : State = (after c k what s).left in
    then-all (wish_after (after c k what s).told (wish_by_call what w)) c k more left (happening-fits c k what s w r f)
    (λ v g. all-fit c k more left v (still-right c k what s r) g)

pub as-wished : told_as_wished
as-wished c k happenings = all-fit c k happenings (first_state c) Idle none-right (refl, refl)
