-- A text that is no frame is handed in: the link fails, or that is noted.
use Rattle.node_moves.proofs.Basics.{◌≡◌, ℕ, Bool, true, false, ◌<◌, List, [], length, Err, Result, if◌then◌else◌, refl, sym, subst}
use Rattle.node_moves.proofs.Machine.{Shape}
use Rattle.node_moves.proofs.Definitions.{Configuration, Node, WholeQueues, whole, answer, refuse, down, is_link}
use Rattle.node_moves.proofs.Failing.{fail-goes}
use Rattle.node_moves.proofs.Going.{goes-both}
use Rattle.node_moves.proofs.Handing.{after-frame}
use Rattle.node_moves.proofs.Own.{K, aside, stays}
use Rattle.node_moves.proofs.Reading.{IsShape}
use Rattle.node_moves.proofs.Steps.{StepGoes, step-by-goes}
use Rattle.node_moves.proofs.World.{books_of}
use Rattle.node_moves.specs.Networks.{NetworkState, IsNode, changed, happens}
use Rattle.node_moves.specs.Outside.{ArePlaced}
use Rattle.exchange_rules.specs.Frames.{leave_aside, read, receive}
use Rattle.exchange_rules.specs.State.{FrameCame}
use Rattle.m2pa_codec.specs.Frames.{FrameValue, read_frame}
use Rattle.signalling_types.specs.declared.cause.Cause.TheVariants as causes
use Rattle.signalling_types.specs.declared.notice.FailureReason.TheVariants as reasons
use Rattle.signalling_types.specs.declared.notice.FrameFault.{FrameFault}
use Rattle.signalling_types.specs.declared.notice.FrameFault.TheVariants as faults
use Rattle.signalling_types.specs.declared.outcome.Outcome.TheVariants.{Ignored}

module _ (settings : (point : ℕ) → Configuration) (t : ArePlaced settings) (shape : Shape) (o : IsShape shape) (w : NetworkState) (x link : ℕ) (fx : IsNode settings x) (inside : link < length (settings x).links) where
  abbrev c : Configuration
  c = settings x

  abbrev n : Node WholeQueues
  n = (w.node x).node

  aside-goes : (fault : FrameFault) → down n.parts link ≡ false → K shape o c (t.well x fx) n (leave_aside whole c link fault n).left
  aside-goes faults.Length up = fail-goes shape o c (t.well x fx) link n reasons.Length up
  aside-goes faults.Short up = aside shape o c (t.well x fx) n _ refl refl refl refl
  aside-goes faults.Version up = aside shape o c (t.well x fx) n _ refl refl refl refl
  aside-goes faults.Unknown up = aside shape o c (t.well x fx) n _ refl refl refl refl

  received-by : (l b : Bool) → down n.parts link ≡ b → (fault : FrameFault)
      → K shape o c (t.well x fx) n (if l then (if b then answer Ignored n else read whole c link (Err fault) n) else refuse causes.NoSuchName n).left
  received-by true true e fault = stays shape o c (t.well x fx) n
  received-by true false e fault = aside-goes fault e
  received-by false b e fault = stays shape o c (t.well x fx) n

  received : (text : List ℕ) (fault : FrameFault) → read_frame text ≡ Err fault → K shape o c (t.well x fx) n (receive whole c link text n).left
  received text fault e =
      subst (λ (r : Result FrameValue FrameFault). K shape o c (t.well x fx) n (if is_link n.parts link then (if down n.parts link then answer Ignored n else read whole c link r n) else refuse causes.NoSuchName n).left) (sym e)
      (received-by (is_link n.parts link) (down n.parts link) refl fault)

  pub malformed-step : (text : List ℕ) (fault : FrameFault) → read_frame text ≡ Err fault → StepGoes settings t shape o w (changed x (happens c (FrameCame link text)) w)
  malformed-step text fault e =
      step-by-goes settings t shape o w x (happens c (FrameCame link text)) fx (λ l. record { user_data = refl; statuses = refl; follows = refl; came = refl })
      (goes-both shape c _ _ _ ((received text fault e).each [] [] (books_of (w.node x))) (after-frame settings t shape o w x link fx inside text (books_of (w.node x))))
