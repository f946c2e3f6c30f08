-- Moves of a failure and its changeover (Q.704 §5, with the numbers of Q.2210).
use Rattle.std.specs.Prelude.{◌≡◌, ◌≢◌, ℕ, Bool, true, false, not, ◌||◌, List, [], ◌∷◌, ◌++◌}
use Rattle.std.specs.Prelude.{drop, filter, Option, Some}
use Rattle.signalling_types.specs.Message.{Message}
use Rattle.signalling_types.specs.declared.point.Flow.{Flow}
use Rattle.link.specs.Queue.{named_count, emptied, last_accepted}
use Rattle.pair_moves.specs.Sayings.{Reading, Saying, Order, Answer, is_user_message}
use Rattle.pair_moves.specs.Ends.{Line, Procedure, Changeover, Pair}
use Rattle.pair_moves.specs.Passing.{BecomeAt, Hears}

-- a line after its near end failed, and whether an answer is awaited from then on; a changeover begins if it served
abbrev pub with_failure : Line → (awaited : Bool) → Line
with_failure z awaited = record z {
  near = record z.near {
    up = false;
    serving = false;
    incomplete = z.near.serving || z.near.incomplete;
    awaited = awaited;
    heard = false;
  };
}

-- a line after the near end's changeover is complete
abbrev pub with_completion : Line → (awaited : Bool) → Line
with_completion z awaited = record z {
  near = record z.near { queue = emptied z.near.queue; incomplete = false; awaited = awaited };
}

-- a line after the near end awaits no answer
abbrev pub without_wait : Line → Line
without_wait z = record z { near = record z.near { awaited = false } }

-- the user messages of a list, and the others: the management of the two nodes, and all that the laws don't speak of
abbrev pub users_of : (Message → Saying) → List Message → List Message
users_of read ms = filter (λ m. is_user_message (read m)) ms

abbrev pub managements_of : (Message → Saying) → List Message → List Message
managements_of read ms = filter (λ m. not (is_user_message (read m))) ms

-- the holds of one procedure may change, and no others
abbrev pub ChangesOnly : (Procedure → Flow → Bool) → Procedure → (Procedure → Flow → Bool) → Type 0
ChangesOnly before changing holds =
    (procedure : Procedure) (flow : Flow) → procedure ≢ changing → holds procedure flow ≡ before procedure flow

-- routes and holds after a link failed: flows on other links stay there, no hold ends, and each
-- flow that loses the link in service is held
pub record Suspends (p : Pair) (link : ℕ) (route : Flow → Option ℕ) (holds : Procedure → Flow → Bool) : Type 0 where
  pub others : (flow : Flow) (other : ℕ) → other ≢ link → p.near.route flow ≡ Some other → route flow ≡ Some other
  pub kept : (procedure : Procedure) (flow : Flow) → p.near.holds procedure flow ≡ true → holds procedure flow ≡ true
  pub same : ChangesOnly p.near.holds (Changeover link) holds
  pub held : (flow : Flow) → (p.line link).near.serving ≡ true → p.near.route flow ≡ Some link →
      holds (Changeover link) flow ≡ true

module _ (read : Reading) (p q : Pair) where
  -- a link fails, and no order goes out: it didn't serve, no other link is left, or the peer's
  -- order said so
  pub record Falls : Type 0 where
    pub link : ℕ
    pub up : (p.line link).near.up ≡ true
    pub route : Flow → Option ℕ
    pub holds : Procedure → Flow → Bool
    pub suspends : Suspends p link route holds
    pub lines : ℕ → Line
    pub set : BecomeAt p link (with_failure (p.line link) (p.line link).near.awaited) lines
    pub after : q ≡ record p { line = lines; near = record p.near { route = route; holds = holds } }

  -- a link in service fails, and an order goes out with the number of the last message accepted
  -- there
  pub record FallsWithOrder : Type 0 where
    pub link : ℕ
    pub serving : (p.line link).near.serving ≡ true
    pub order : Message
    pub says : read.there order ≡ Order link (last_accepted (p.line link).near.queue)
    pub route : Flow → Option ℕ
    pub holds : Procedure → Flow → Bool
    pub suspends : Suspends p link route holds
    pub lines : ℕ → Line
    pub set : BecomeAt p link (with_failure (p.line link) true) lines
    pub after : q ≡ record p {
      line = lines;
      near = record p.near { route = route; holds = holds; loose = p.near.loose ++ order ∷ [] };
    }

  -- an order about a link that failed completes its changeover, and is answered
  pub record CompletesByOrder : Type 0 where
    pub link : ℕ
    pub number : ℕ
    pub heard : Hears read.back p (Order link number)
    pub incomplete : (p.line link).near.incomplete ≡ true
    pub count : ℕ
    pub named : named_count (p.line link).near.queue number ≡ Some count
    pub answer : Message
    pub answers : read.there answer ≡ Answer link (last_accepted (p.line link).near.queue)
    pub holds : Procedure → Flow → Bool
    pub lifted : ChangesOnly p.near.holds (Changeover link) holds
    pub lines : ℕ → Line
    pub set : BecomeAt p link (with_completion (p.line link) (p.line link).near.awaited) lines
    pub after : q ≡ record p {
      line = lines;
      near = record p.near {
        arrived = heard.rest;
        held = users_of read.there (drop count (p.line link).near.queue.all) ++ p.near.held;
        loose = p.near.loose ++ managements_of read.there (drop count (p.line link).near.queue.all) ++ answer ∷ [];
        holds = holds;
      };
    }

  -- an order about a link that is down and has nothing to complete is answered
  pub record AnswersOrder : Type 0 where
    pub link : ℕ
    pub number : ℕ
    pub heard : Hears read.back p (Order link number)
    pub down : (p.line link).near.up ≡ false
    pub complete : (p.line link).near.incomplete ≡ false
    pub answer : Message
    pub answers : read.there answer ≡ Answer link (last_accepted (p.line link).near.queue)
    pub after : q ≡ record p { near = record p.near { arrived = heard.rest; loose = p.near.loose ++ answer ∷ [] } }

  -- the answer about a link that failed completes its changeover
  pub record CompletesByAnswer : Type 0 where
    pub link : ℕ
    pub number : ℕ
    pub heard : Hears read.back p (Answer link number)
    pub awaited : (p.line link).near.awaited ≡ true
    pub incomplete : (p.line link).near.incomplete ≡ true
    pub count : ℕ
    pub named : named_count (p.line link).near.queue number ≡ Some count
    pub holds : Procedure → Flow → Bool
    pub lifted : ChangesOnly p.near.holds (Changeover link) holds
    pub lines : ℕ → Line
    pub set : BecomeAt p link (with_completion (p.line link) false) lines
    pub after : q ≡ record p {
      line = lines;
      near = record p.near {
        arrived = heard.rest;
        held = users_of read.there (drop count (p.line link).near.queue.all) ++ p.near.held;
        loose = p.near.loose ++ managements_of read.there (drop count (p.line link).near.queue.all);
        holds = holds;
      };
    }

  -- the answer about a link whose changeover is complete: it is awaited no longer
  pub record EndsWait : Type 0 where
    pub link : ℕ
    pub number : ℕ
    pub heard : Hears read.back p (Answer link number)
    pub awaited : (p.line link).near.awaited ≡ true
    pub complete : (p.line link).near.incomplete ≡ false
    pub lines : ℕ → Line
    pub set : BecomeAt p link (without_wait (p.line link)) lines
    pub after : q ≡ record p { line = lines; near = record p.near { arrived = heard.rest } }

  -- an answer that isn't awaited is ignored
  pub record IgnoresAnswer : Type 0 where
    pub link : ℕ
    pub number : ℕ
    pub heard : Hears read.back p (Answer link number)
    pub unawaited : (p.line link).near.awaited ≡ false
    pub after : q ≡ record p { near = record p.near { arrived = heard.rest } }

  -- the far processor of a link in service is out, or back (Q.703 §8): the changeover of the link holds flows meanwhile
  pub record HoldsInService : Type 0 where
    pub link : ℕ
    pub serving : (p.line link).near.serving ≡ true
    pub holds : Procedure → Flow → Bool
    pub only : ChangesOnly p.near.holds (Changeover link) holds
    pub after : q ≡ record p { near = record p.near { holds = holds } }
