-- One end of a link: what its node keeps, and the endpoint of the link. What the gate there does is done at this end
-- alone, so it is one proof for the nodes of a pair and of a network.
use Rattle.std.proofs.Common.{◌≡◌, ℕ, Bool, true, false, List, [], ◌∷◌, Option, Some, None, nat_eq, refl, ap, sym, arith}
use Rattle.std.proofs.lemmas.Bool.Decides.{nat_tests}
use Rattle.std.specs.Prelude.{if◌then◌else◌}
use Rattle.m2pa_codec.specs.Frames.{FrameValue, spelled}
use Rattle.exchange_rules.specs.State.{Happening, CameUp, WentDown, FrameCame}
use Rattle.exchange_rules.specs.Exchange as exchange
use Rattle.exchange_rules.specs.Exchange.{frame_to_take, taken}
use Rattle.exchange_rules.specs.Queues.{whole}
use Rattle.sctp_rules.specs.State.{Told, Up, Heard, Down, Failed}
use Rattle.sctp_rules.specs.Endpoint as endpoint
use Rattle.sctp_rules.specs.Wishing.{Fits}
use Rattle.sctp_rules.proofs.Passing.{Right}
use Rattle.sctp_ends.specs.Worlds as ends
use Rattle.node_rules.specs.Worlds.{Make, Node, Port, associated, told_by, is_frame, message_of, MayAssociate, CanGo}
use Rattle.node_rules.specs.Promises.{IsShort}
use Rattle.gate_rules.specs.Calls.{Keeping}

pub equal : (i : ℕ) → nat_eq i i ≡ true
equal i = grind (arith, nat_tests)

pub same-number : (i j : ℕ) → nat_eq i j ≡ true → i ≡ j
same-number i j e = grind (arith, nat_tests, e)

-- one of them is another, and the rest stay
abbrev pub put : {X : Type 0} → ℕ → X → (ℕ → X) → ℕ → X
put k x xs = λ j. if nat_eq j k then x else xs j

module _ {X : Type 0} (k : ℕ) where
  pub put-here : (x : X) (xs : ℕ → X) → put k x xs k ≡ x
  put-here x xs = ap (λ (b : Bool). if b then x else xs k) (equal k)

  pub put-same : (xs : ℕ → X) → put k (xs k) xs ≡ xs
  put-same xs = λ i j. by j (nat_eq j k) refl i where
    by : (j : ℕ) (b : Bool) → nat_eq j k ≡ b → (if b then xs k else xs j) ≡ xs j
    by j true e = ap xs (sym (same-number j k e))
    by j false e = refl

  pub put-twice : (x y : X) (xs : ℕ → X) → put k x (put k y xs) ≡ put k x xs
  put-twice x y xs = λ i j. by (nat_eq j k) (xs j) i where
    by : (b : Bool) (z : X) → (if b then x else (if b then y else z)) ≡ (if b then x else z)
    by true z = refl
    by false z = refl

-- ---- an end, and what is done there

pub record LinkEnd (B : Type 0) : Type 0 where
  pub books : B
  pub port : Port

-- what is done there
pub data Act : Type 0 where
  -- something happens to the endpoint, and what that tells is handed in, in order
  Associates : (what : endpoint.Happening) → Act
  -- the next frame is taken, and given to the endpoint
  Sends : Act

-- what is kept has the exchange that the rules leave
pub record Keeps {B : Type 0} (keeping : Keeping B) : Type 0 where
  pub happened : (what : Happening) (b : B) → keeping.exchange (keeping.happened what b) ≡ exchange.after whole what (keeping.exchange b)
  pub took : (link : ℕ) (b : B) → keeping.exchange (keeping.took link b) ≡ taken whole (keeping.exchange b) link

module _ {B : Type 0} (keeping : Keeping B) where
  -- as a node that has this endpoint at each link
  abbrev pub as_node : LinkEnd B → Node
  as_node e = record { books = record { exchange = keeping.exchange e.books; accepted = []; received = [] }; ports = λ link. e.port }

  module _ (k : ℕ) where
    abbrev pub handed : Told → B → B
    handed Up b = keeping.happened (CameUp k) b
    handed (Heard m) b = if is_frame m then keeping.happened (FrameCame k m.octets) b else b
    handed (Down why) b = keeping.happened (WentDown k) b
    handed (Failed why) b = b

    abbrev pub handed_all : List Told → B → B
    handed_all [] b = b
    handed_all (told ∷ more) b = handed_all more (handed told b)

  module _ (m : Make) (k : ℕ) where
    abbrev pub gave : FrameValue → LinkEnd B → LinkEnd B
    gave frame e = record { books = keeping.took k e.books; port = associated m k (endpoint.Sends (message_of (spelled frame))) (as_node e) }

    abbrev pub sent : Option FrameValue → LinkEnd B → LinkEnd B
    sent None e = e
    sent (Some frame) e = gave frame e

    abbrev pub acted : Act → LinkEnd B → LinkEnd B
    acted (Associates what) e = record { books = handed_all k (told_by m k what (as_node e)) e.books; port = associated m k what (as_node e) }
    acted Sends e = sent (frame_to_take whole (keeping.exchange e.books) k) e

    abbrev pub acted_all : List Act → LinkEnd B → LinkEnd B
    acted_all [] e = e
    acted_all (what ∷ more) e = acted_all more (acted what e)

    module _ (there : ends.Site) where
      -- while the other end stands still
      abbrev pub MayAct : Act → LinkEnd B → Type 0
      MayAct (Associates what) e = MayAssociate there k what (as_node e)
      MayAct Sends e = CanGo k (as_node e)

      abbrev pub MayActAll : List Act → LinkEnd B → Type 0
      MayActAll [] e = Unit {0}
      MayActAll (what ∷ more) e = MayAct what e × MayActAll more (acted what e)

-- what holds of an end whatever it may do: by that its endpoint is in a state that may be, and frames are short
pub record Lasts {B : Type 0} (keeping : Keeping B) (m : Make) (k : ℕ) (there : ends.Site) (Holds : LinkEnd B → Type 0) : Type 0 where
  pub keeps : Keeps keeping
  pub stays : (e : LinkEnd B) (what : Act) → Holds e → MayAct keeping m k there what e → Holds (acted keeping m k what e)
  pub right : (e : LinkEnd B) → Holds e → Right e.port.site.state
  pub fits : (e : LinkEnd B) → Holds e → Fits (Some e.port.wish) e.port.site.state
  pub short : (e : LinkEnd B) → Holds e → (frame : FrameValue) → frame_to_take whole (keeping.exchange e.books) k ≡ Some frame → IsShort frame
