-- Between nodes that have only each other, a pair of `pair_rules` has all that either accepted and received.
use Rattle.std.proofs.Common.{◌≡◌, ℕ, Bool, true, false, List, [], ◌∷◌, ◌++◌, Option, Some, None, map, refl, ap, sym, ◌∙◌, subst}
use Rattle.settings.specs.Configuration.{Configuration}
use Rattle.m2pa_codec.specs.Frames.{FrameValue}
use Rattle.exchange_rules.specs.declared.wants.Wants.{Wants}
use Rattle.exchange_rules.specs.declared.wants.Wants.TheVariants.{Nothing, Open, Close}
use Rattle.pair_rules.specs.Pairs as pairs
use Rattle.pair_rules.specs.Pairs.{PairState, Turn, first_pair, turned}
use Rattle.pair_rules.specs.Promises.{AreJoined}
use Rattle.neighbour_rules.specs.Neighbours.{Does, did}
use Rattle.neighbour_rules.specs.Alone.{GoesAsAlone}
use Rattle.neighbour_rules.proofs.Special.{is-special}
use Rattle.node_rules.specs.Worlds.{Books}

-- a pair has booked what these books have
pub record AreBooked (near far : Books) (p : PairState) : Type 0 where
  pub near_accepted : near.accepted ≡ p.near.accepted
  pub near_received : near.received ≡ p.near.received
  pub far_accepted : far.accepted ≡ p.far.accepted
  pub far_received : far.received ≡ p.far.received

pub record IsWhole (c z : Configuration) (near far : Books) (p : PairState) : Type 0 where
  pub steps : List pairs.Step
  pub reached : pairs.after_steps steps (first_pair c z) ≡ p
  pub booked : AreBooked near far p

-- ---- one more step

steps-more : (list : List pairs.Step) (step : pairs.Step) (p : PairState) → pairs.after_steps (list ++ step ∷ []) p ≡ (pairs.turn step (pairs.after_steps list p)).left
steps-more [] step p = refl
steps-more (one ∷ list) step p = steps-more list step (pairs.turn one p).left

module _ (c z : Configuration) (g : AreJoined c z) (near far : Books) (p : PairState) (w : IsWhole c z near far p) where
  -- the pair goes as in `pair_rules`
  pub as-alone : (what : pairs.Doing) → did (Does what) p ≡ pairs.did what p
  as-alone what = (subst GoesAsAlone w.reached (is-special c z w.steps g).turns_alike) (pairs.AtNear what)

  pub whole-did : (what : pairs.Doing) (near' : Books) (q : PairState) → (did (Does what) p).left ≡ q → AreBooked near' far (pairs.did what p).left → IsWhole c z near' far q
  whole-did what near' q e b =
      let same : (pairs.did what p).left ≡ q = sym (ap (λ (t : Turn). t.left) (as-alone what)) ∙ e in
      record {
        steps = w.steps ++ pairs.AtNear what ∷ [];
        reached = steps-more w.steps (pairs.AtNear what) (first_pair c z) ∙ ap (λ (r : PairState). (pairs.did what r).left) w.reached ∙ same;
        booked = subst (AreBooked near' far) same b;
      }

-- ---- what brings nothing in

pub booked-first : (near far : Books) (v : Wants) (may : Bool) (link : ℕ) (p : PairState) → AreBooked near far p → AreBooked near far (pairs.opens_first v may link p).left
booked-first near far Open true link p b = record { near_accepted = b.near_accepted; near_received = b.near_received; far_accepted = b.far_accepted; far_received = b.far_received }
booked-first near far Open false link p b = b
booked-first near far Nothing may link p b = b
booked-first near far Close may link p b = b

pub booked-second : (near far : Books) (v : Wants) (follows : Bool) (link : ℕ) (p : PairState) → AreBooked near far p → AreBooked near far (pairs.opens_second v follows link p).left
booked-second near far Open true link p b = record { near_accepted = b.near_accepted; near_received = b.near_received; far_accepted = b.far_accepted; far_received = b.far_received }
booked-second near far Open false link p b = b
booked-second near far Nothing follows link p b = b
booked-second near far Close follows link p b = b

pub booked-taken : (near far : Books) (frame : Option FrameValue) (link : ℕ) (p : PairState) → AreBooked near far p → AreBooked near far (pairs.take_frame frame link p).left
booked-taken near far None link p b = b
booked-taken near far (Some frame) link p b = record { near_accepted = b.near_accepted; near_received = b.near_received; far_accepted = b.far_accepted; far_received = b.far_received }

-- ---- seen from the other end

abbrev other_end : pairs.Step → pairs.Step
other_end (pairs.AtNear what) = pairs.AtFar what
other_end (pairs.AtFar what) = pairs.AtNear what

turned-step : (step : pairs.Step) (p : PairState) → (pairs.turn (other_end step) (turned p)).left ≡ turned (pairs.turn step p).left
turned-step (pairs.AtNear what) p = refl
turned-step (pairs.AtFar what) p = refl

turned-steps : (list : List pairs.Step) (p : PairState) → pairs.after_steps (map other_end list) (turned p) ≡ turned (pairs.after_steps list p)
turned-steps [] p = refl
turned-steps (step ∷ list) p =
    ap (pairs.after_steps (map other_end list)) (turned-step step p) ∙ turned-steps list (pairs.turn step p).left

pub turned-whole : (c z : Configuration) (near far : Books) (p : PairState) → IsWhole c z near far p → IsWhole z c far near (turned p)
turned-whole c z near far p w = record {
  steps = map other_end w.steps;
  reached = turned-steps w.steps (first_pair c z) ∙ ap (λ (q : PairState). turned q) w.reached;
  booked = record {
    near_accepted = w.booked.far_accepted;
    near_received = w.booked.far_received;
    far_accepted = w.booked.near_accepted;
    far_received = w.booked.near_received;
  };
}

pub first-whole : (c z : Configuration) (near far : Books) → AreBooked near far (first_pair c z) → IsWhole c z near far (first_pair c z)
first-whole c z near far b = record { steps = []; reached = refl; booked = b }
