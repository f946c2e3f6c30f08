-- A settled gate does what its link wants.
use Rattle.std.proofs.Common.{◌≡◌, ◌∙◌, ℕ, Bool, true, false, List, [], ◌∷◌, Option, Some, None, refl, sym}
use Rattle.std.specs.Prelude.{if◌then◌else◌}
use Rattle.m2pa_codec.specs.Frames.{EmptyFrame, MessageFrame, StatusFrame}
use Rattle.sctp_rules.specs.declared.loss.Loss.{Loss}
use Rattle.sctp_rules.specs.declared.loss.Loss.TheVariants.{Local, NoTag}
use Rattle.sctp_rules.specs.Settings.{Settings, Secrets, Address, Beginning}
use Rattle.sctp_rules.specs.State as rules
use Rattle.sctp_rules.specs.State.{Told, Down, Failed, Done, silent}
use Rattle.sctp_rules.specs.Ending.{abort}
use Rattle.sctp_rules.specs.Opening.{may_open, begun_with}
use Rattle.sctp_endpoint.specs.Endpoints.{secrets_of}
use Rattle.exchange_rules.specs.State.{QueueKind, State}
use Rattle.exchange_rules.specs.Exchange.{wants_of}
use Rattle.exchange_rules.specs.declared.wants.Wants.{Wants}
use Rattle.exchange_rules.specs.declared.wants.Wants.TheVariants.{Nothing, Open, Close}
use Rattle.sctp_gate.specs.Standing.{idle, seeking}
use Rattle.sctp_gate.specs.Gates.{Gate, Did, is_lasting, may_try, handed, aborted, opened, settled_by}
use Rattle.sctp_gate.specs.Laws.{Agrees, settling_agrees, frames_have_their_streams}

pub streams : frames_have_their_streams
streams (EmptyFrame bsn fsn) = refl
streams (MessageFrame bsn fsn sio sif) = refl
streams (StatusFrame bsn fsn status) = refl

false-true : {A : Type 0} → false ≡ true → A
false-true e = absurd cc

-- a gate that stood so before this was told
record Stood {Q : Type 0} (g : Gate) (s : State Q) : Type 0 where
  down : g.standing.is_up ≡ false
  wants : g.standing.is_seeking ≡ true → wants_of s g.link ≡ Open

module _ {Q : Type 0} (q : QueueKind Q) (now : ℕ) where
  record Fine (d : Did Q) : Type 0 where
    fine : Agrees d.gate d.exchange

  fine-if : (b : Bool) (d e : Did Q) → (b ≡ true → Fine d) → (b ≡ false → Fine e) → Fine (if b then d else e)
  fine-if true d e h k = h refl
  fine-if false d e h k = k refl

  fine-lasting : (b : Bool) (d e : Did Q) → b ≡ true → Fine d → Fine (if b then d else e)
  fine-lasting true d e l h = h
  fine-lasting false d e l h = false-true l

  abbrev with_told : List Told → Done → Done
  with_told told d = record d { told = told }

  fine-quiet : (d : Done) (g : Gate) (s : State Q) → Stood g s → Fine (handed q now (with_told [] d) g s)
  fine-quiet d g s h = record { fine = record { up = λ e. false-true (sym h.down ∙ e); seeking = h.wants } }

  fine-ended : (up wanted : Bool) (why : Loss) (d : Done) (g : Gate) (s : State Q) → Stood g s
      → Fine (handed q now (with_told (if up then Down why ∷ [] else (if wanted then Failed why ∷ [] else [])) d) g s)
  fine-ended true wanted why d g s h = record { fine = record { up = λ e. false-true e; seeking = λ e. false-true e } }
  fine-ended false true why d g s h = record { fine = record { up = λ e. false-true e; seeking = λ e. false-true e } }
  fine-ended false false why d g s h = fine-quiet d g s h

  fine-aborted : (g : Gate) (s : State Q) → is_lasting now g.endpoint ≡ true → Fine (aborted q now g s)
  fine-aborted g s l =
      let t : rules.State = g.endpoint.state in
      fine-lasting (is_lasting now g.endpoint) _ _ l
      (fine-ended t.association.is_up t.is_wanted Local (abort g.endpoint.settings t) (record g { standing = idle g.standing }) s
      (record { down = refl; wants = λ e. false-true e }))

  fine-begun : (o : Option Beginning) (c : Settings) (address : Address) (g : Gate) (s : State Q) (t : rules.State) → Stood g s
      → Fine (handed q now (begun_with c now 0 address o t) g s)
  fine-begun None c address g s t h = fine-ended t.association.is_up t.is_wanted NoTag (begun_with c now 0 address None t) g s h
  fine-begun (Some b) c address g s t h = fine-quiet (begun_with c now 0 address (Some b) t) g s h

  fine-opening : (may active : Bool) (c : Settings) (k : Secrets) (g : Gate) (s : State Q) (t : rules.State) → Stood g s
      → Fine (handed q now (if may then (if active then begun_with c now 0 c.address (k.beginning t.beginnings) t else silent (record t { is_wanted = true })) else silent t) g s)
  fine-opening false active c k g s t h = fine-quiet (silent t) g s h
  fine-opening true false c k g s t h = fine-quiet (silent (record t { is_wanted = true })) g s h
  fine-opening true true c k g s t h = fine-begun (k.beginning t.beginnings) c c.address g s t h

  fine-opened : (g : Gate) (s : State Q) → is_lasting now g.endpoint ≡ true → g.standing.is_up ≡ false → wants_of s g.link ≡ Open → Fine (opened q now g s)
  fine-opened g s l down wants =
      fine-lasting (is_lasting now g.endpoint) _ _ l
      (fine-opening (may_open (may_try now g) g.endpoint.state) (may_try now g) g.endpoint.settings (secrets_of g.endpoint) (record g { standing = seeking g.standing }) s g.endpoint.state
      (record { down = down; wants = λ e. wants }))

  fine-settled : (wants : Wants) (g : Gate) (s : State Q) → is_lasting now g.endpoint ≡ true → wants_of s g.link ≡ wants → Fine (settled_by q now wants g s)
  fine-settled Close g s l e = fine-aborted g s l
  fine-settled Open g s l e = fine-if g.standing.is_up _ _ (λ up. fine-aborted g s l) (λ down. fine-opened g s l down e)
  fine-settled Nothing g s l e =
      fine-if g.standing.is_seeking _ _ (λ seeks. fine-aborted g s l)
      (λ quiet. record { fine = record { up = λ up. e; seeking = λ seeks. false-true (sym quiet ∙ seeks) } })

pub agrees : {Q : Type 0} (q : QueueKind Q) → settling_agrees q
agrees q now g s l = (fine-settled q now (wants_of s g.link) g s l refl).fine
