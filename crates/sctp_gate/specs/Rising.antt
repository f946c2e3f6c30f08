-- AssociationUp is never refused: a law of gates, whatever happens to the exchange between their calls.
use Rattle.std.specs.Prelude.{◌≡◌, ℕ, Bool, true, false, List, [], ◌∷◌}
use Rattle.signalling_types.specs.declared.outcome.Outcome.TheVariants.{Handled}
use Rattle.sctp_rules.specs.Settings.{Settings}
use Rattle.exchange_rules.specs.State.{QueueKind, State, CameUp, WentDown, FrameCame, link_at, down}
use Rattle.exchange_rules.specs.Exchange.{outcome_of, after, taken, wants_of}
use Rattle.exchange_rules.specs.declared.wants.Wants.TheVariants.{Open}
use Rattle.sctp_gate.specs.Watching.{Sight, Rose, CameIn, Dropped, Fell, Failed, WentOut}
use Rattle.sctp_gate.specs.Gates.{Gate, new_gate}
use Rattle.sctp_gate.specs.Calling.{Call, Visit, called, visited}

module _ {Q : Type 0} (q : QueueKind Q) (link : ℕ) where
  -- an association that comes up now: the link wants one, it is handled, and then the link has it and isn't down
  pub record ComesUp (s : State Q) : Type 0 where
    pub wants : wants_of s link ≡ Open
    pub outcome : outcome_of q (CameUp link) s ≡ Handled
    pub has_one : (link_at (after q (CameUp link) s).node.parts link).association ≡ true
    pub not_down : down (after q (CameUp link) s).node.parts link ≡ false

  -- what is seen says what the exchange was asked, and so the exchange then
  abbrev pub after_sight : Sight → State Q → State Q
  after_sight Rose s = after q (CameUp link) s
  after_sight (CameIn frame outcome) s = after q (FrameCame link frame) s
  after_sight (Dropped message) s = s
  after_sight (Fell why) s = after q (WentDown link) s
  after_sight (Failed why) s = s
  after_sight (WentOut frame) s = taken q s link

  abbrev pub after_seen : List Sight → State Q → State Q
  after_seen [] s = s
  after_seen (sight ∷ more) s = after_seen more (after_sight sight s)

  -- each time that the association is seen to come up, it does so at the link
  abbrev pub ComesUpIf : Sight → State Q → Type 0
  ComesUpIf Rose s = ComesUp s
  ComesUpIf sight s = Unit {0}

  abbrev pub ComesUpEach : List Sight → State Q → Type 0
  ComesUpEach [] s = Unit {0}
  ComesUpEach (sight ∷ more) s = ComesUpIf sight s × ComesUpEach more (after_sight sight s)

-- what a call does to an exchange is what is seen of it
abbrev pub calls_are_seen : {Q : Type 0} → QueueKind Q → Type 0
calls_are_seen {Q = Q} q =
    (call : Call) (g : Gate) (s : State Q) →
    (called q call g s).exchange ≡ after_seen q g.link (called q call g s).seen s

-- in each call, whatever calls there were since the gate was new, and whatever happened to the exchange between them
abbrev pub associations_come_up : {Q : Type 0} → QueueKind Q → Type 0
associations_come_up {Q = Q} q =
    (link : ℕ) (tries : Bool) (settings : Settings) (tag_key cookie_key : List ℕ) (visits : List (Visit Q))
    (call : Call) (s : State Q) →
    let g = visited q visits (new_gate link tries settings tag_key cookie_key) in
    ComesUpEach q link (called q call g s).seen s
