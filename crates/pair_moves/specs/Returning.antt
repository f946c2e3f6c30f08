-- Moves of a link that opens and enters service, and of the flows that it takes over (Q.704 §6).
use Rattle.std.specs.Prelude.{◌≡◌, ◌≢◌, ◌⊎◌, ℕ, Bool, true, false, [], ◌∷◌, ◌++◌, Option, Some}
use Rattle.signalling_types.specs.Message.{Message}
use Rattle.signalling_types.specs.declared.point.Flow.{Flow}
use Rattle.pair_moves.specs.Sayings.{Reading, Declaration, Confirmation}
use Rattle.pair_moves.specs.Ends.{LinkEnd, Line, Procedure, Code, Time, Pair, closed_end}
use Rattle.pair_moves.specs.Passing.{BecomeAt, Hears, with_message}
use Rattle.pair_moves.specs.Failing.{ChangesOnly}

-- an end in a new epoch
abbrev pub opened_end : LinkEnd
opened_end = record closed_end { up = true }

-- a line whose near end opens first: nothing is in flight, and the far end may follow
abbrev pub opened_first : Line → Line
opened_first z = record {
  near = opened_end;
  far = z.far;
  to_far = [];
  to_near = [];
  told_far = 0;
  told_near = 0;
  near_may_follow = false;
  far_may_follow = true;
}

-- a line whose near end follows the far one
abbrev pub opened_second : Line → Line
opened_second z = record z { near = opened_end; near_may_follow = false }

-- an end may open again: it is down, its changeover is complete, and no answer is awaited for it
pub record MayOpen (x : LinkEnd) : Type 0 where
  pub down : x.up ≡ false
  pub complete : x.incomplete ≡ false
  pub unawaited : x.awaited ≡ false

-- a line whose near end serves
abbrev pub with_service : Line → Line
with_service z = record z { near = record z.near { up = true; serving = true } }

-- a flow keeps its link, or it left a link and is held by a procedure
abbrev pub StaysOrIsHeld : Pair → (from : ℕ) → Procedure → (Flow → Option ℕ) → (Procedure → Flow → Bool) → Flow → Type 0
StaysOrIsHeld p from procedure route holds flow =
    (route flow ≡ p.near.route flow) ⊎ ((p.near.route flow ≡ Some from) × (holds procedure flow ≡ true))

-- no hold ends, and only one procedure's may begin
pub record AddsOnly (before : Procedure → Flow → Bool) (adding : Procedure)
    (holds : Procedure → Flow → Bool) : Type 0 where
  pub kept : (procedure : Procedure) (flow : Flow) → before procedure flow ≡ true → holds procedure flow ≡ true
  pub same : ChangesOnly before adding holds

module _ (read : Reading) (p q : Pair) where
  -- a link opens at the near end, if it may open at the far one too, which may then follow
  pub record OpensFirst : Type 0 where
    pub link : ℕ
    pub near_may : MayOpen (p.line link).near
    pub far_may : MayOpen (p.line link).far
    pub lines : ℕ → Line
    pub set : BecomeAt p link (opened_first (p.line link)) lines
    pub after : q ≡ record p { line = lines }

  -- the near end follows the far one, which may be down again by then
  pub record OpensSecond : Type 0 where
    pub link : ℕ
    pub follows : (p.line link).near_may_follow ≡ true
    pub near_may : MayOpen (p.line link).near
    pub lines : ℕ → Line
    pub set : BecomeAt p link (opened_second (p.line link)) lines
    pub after : q ≡ record p { line = lines }

  -- a link enters service at an end that heard the other; flows without a link may take it, and the
  -- others keep theirs for now
  pub record Enters : Type 0 where
    pub link : ℕ
    pub up : (p.line link).near.up ≡ true
    pub heard : (p.line link).near.heard ≡ true
    pub route : Flow → Option ℕ
    pub kept : (flow : Flow) (other : ℕ) → p.near.route flow ≡ Some other → route flow ≡ Some other
    pub lines : ℕ → Line
    pub set : BecomeAt p link (with_service (p.line link)) lines
    pub after : q ≡ record p { line = lines; near = record p.near { route = route } }

  -- flows leave a link in service for the one that returned. A declaration with a free code goes out after all that is
  -- on the former link, and holds them
  pub record Declares : Type 0 where
    pub former : ℕ
    pub serving : (p.line former).near.serving ≡ true
    pub code : ℕ
    pub free : p.near.outstanding code ≡ false
    pub declaration : Message
    pub says : read.there declaration ≡ Declaration code
    pub outstanding : ℕ → Bool
    pub used : outstanding code ≡ true
    pub others : (other : ℕ) → other ≢ code → outstanding other ≡ p.near.outstanding other
    pub route : Flow → Option ℕ
    pub holds : Procedure → Flow → Bool
    pub added : AddsOnly p.near.holds (Code code) holds
    pub leaves : (flow : Flow) → StaysOrIsHeld p former (Code code) route holds flow
    pub lines : ℕ → Line
    pub set : BecomeAt p former (with_message (p.line former) declaration) lines
    pub after : q ≡ record p {
      line = lines;
      near = record p.near { outstanding = outstanding; route = route; holds = holds };
    }

  -- the same without a declaration: they are held for a time
  pub record WaitsForTime : Type 0 where
    pub former : ℕ
    pub link : ℕ
    pub route : Flow → Option ℕ
    pub holds : Procedure → Flow → Bool
    pub added : AddsOnly p.near.holds (Time link) holds
    pub leaves : (flow : Flow) → StaysOrIsHeld p former (Time link) route holds flow
    pub after : q ≡ record p { near = record p.near { route = route; holds = holds } }

  -- a declaration is confirmed with its code
  pub record Confirms : Type 0 where
    pub code : ℕ
    pub heard : Hears read.back p (Declaration code)
    pub answer : Message
    pub answers : read.there answer ≡ Confirmation code
    pub after : q ≡ record p { near = record p.near { arrived = heard.rest; loose = p.near.loose ++ answer ∷ [] } }

  -- the confirmation of a code frees it and ends its holds
  pub record EndsHold : Type 0 where
    pub code : ℕ
    pub heard : Hears read.back p (Confirmation code)
    pub outstanding : ℕ → Bool
    pub freed : outstanding code ≡ false
    pub others : (other : ℕ) → other ≢ code → outstanding other ≡ p.near.outstanding other
    pub holds : Procedure → Flow → Bool
    pub lifted : ChangesOnly p.near.holds (Code code) holds
    pub after : q ≡ record p {
      near = record p.near { arrived = heard.rest; outstanding = outstanding; holds = holds };
    }

  -- the confirmation of a code that isn't outstanding is ignored
  pub record IgnoresConfirmation : Type 0 where
    pub code : ℕ
    pub heard : Hears read.back p (Confirmation code)
    pub free : p.near.outstanding code ≡ false
    pub after : q ≡ record p { near = record p.near { arrived = heard.rest } }
