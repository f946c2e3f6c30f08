-- The books of a node: what it accepted entered there, or came for another point and wasn't refused.
use Rattle.exchange_rules.proofs.Basics.{◌≡◌, ◌&&◌, ℕ, ◌+◌, Bool, true, List, [], ◌∷◌, ◌++◌, filter, Option, Some, None, refl, ap, sym, ◌∙◌, arith, if◌then◌else◌, option_to_list, filter-append, count_by}
use Rattle.std.proofs.Common.{map}
use Rattle.std.proofs.lemmas.List.{map-append}
use Rattle.exchange_rules.proofs.Definitions.{Message, Configuration, Discrimination, Node, WholeQueues, whole, users_that, brought_in, brought_by, brought_to, taken_in, new_message, whither_goes, accept_text, read_frame, FrameCame, Submitted, Abstract}
use Rattle.exchange_rules.specs.Exchange.{outcome_of}
use Rattle.exchange_rules.proofs.Tallies.{again, append}
use Rattle.changeover.specs.Changeover.{users_of}
use Rattle.mtp3_codec.specs.declared.discrimination.Discrimination.TheVariants as whither
use Rattle.signalling_types.specs.declared.outcome.Outcome.{Outcome}
use Rattle.signalling_types.specs.declared.outcome.Outcome.TheVariants.{Handled, Held, Ignored, Local, Queued, Refused}
use Rattle.network_rules.specs.Networks.{Arrival, NetworkNode, NetworkState, deliver_frame, entered_by, goes_onward, is_onward, is_refused, refused_by}
use Rattle.pair_rules.specs.Pairs.{Streams}
use Rattle.network_rules.proofs.Transit.{frame-outcome, goes_on}
use Rattle.network_rules.proofs.Turns.{SameBooks, Turn, comes, enters, goes_out, idles, occurs, opens}

abbrev pub texts_of : List Arrival → List Message
texts_of arrived = map (λ a. a.message) arrived

-- all that came for another point
abbrev pub onward_of : Configuration → List Message → List Message
onward_of c ms = filter (goes_onward c) ms

-- by a test, as many user messages were accepted, or refused on the way, as entered, or came for another point
abbrev pub IsBooked : (of : Message → Bool) → NetworkNode → Type 0
IsBooked of x =
    users_that of x.accepted + users_that of x.refused ≡ users_that of x.entered + users_that of (onward_of x.exchange.settings (texts_of x.arrived))

back : (link : ℕ) (ms : List Message) → texts_of (map (λ m. record { link = link; message = m }) ms) ≡ ms
back link [] = refl
back link (m ∷ ms) = ap (λ (ks : List Message). m ∷ ks) (back link ms)

pub arrived-more : (link : ℕ) (xs : List Arrival) (ms : List Message) → texts_of (xs ++ map (λ m. record { link = link; message = m }) ms) ≡ texts_of xs ++ ms
arrived-more link xs ms = map-append (λ a. a.message) xs (map (λ m. record { link = link; message = m }) ms) ∙ ap (λ (ks : List Message). texts_of xs ++ ks) (back link ms)

module _ (of : Message → Bool) where
  -- of one message that comes for another point
  outcome-sum : (o : Outcome) (m : Message) → goes_on o ≡ true → users_that of (taken_in o m) + users_that of (if is_refused o then users_of (m ∷ []) else []) ≡ 0 + users_that of (m ∷ [])
  outcome-sum (Queued link) m e = turn (users_that of (m ∷ []))
    where
      turn : (n : ℕ) → n + 0 ≡ 0 + n
      turn n = omega arith
  outcome-sum Held m e = turn (users_that of (m ∷ []))
    where
      turn : (n : ℕ) → n + 0 ≡ 0 + n
      turn n = omega arith
  outcome-sum (Refused cause) m e = ap (λ (ms : List Message). 0 + count_by of ms) (again (m ∷ []))
  outcome-sum Local m e = absurd cc
  outcome-sum Handled m e = absurd cc
  outcome-sum Ignored m e = absurd cc

  module _ (a : Abstract) (link : ℕ) (text : List ℕ) where
    abbrev o : Outcome
    o = outcome_of whole (FrameCame link text) a

    abbrev c : Configuration
    c = a.settings

    abbrev n : Node WholeQueues
    n = accept_text link (read_frame text) a

    to-sum : (d : Discrimination) (m : Message) → whither_goes c m ≡ d → new_message link text a ≡ Some m
        → users_that of (brought_to d o c m n) + users_that of (if is_onward d && is_refused o then users_of (m ∷ []) else [])
        ≡ users_that of (if is_onward d then [] else brought_to d o c m n) + users_that of (if is_onward d then m ∷ [] else [])
    to-sum (whither.Refused fault) m e new = refl
    to-sum (whither.Here label) m e new = refl
    to-sum (whither.Transfer label) m e new = outcome-sum o m (frame-outcome c link m label e a.node text new)

    new-sum : (x : Option Message) → new_message link text a ≡ x
        → users_that of (brought_by x o c n) + users_that of (refused_by x c o) ≡ users_that of (entered_by x c (brought_by x o c n)) + users_that of (onward_of c (option_to_list x))
    new-sum None e = refl
    new-sum (Some m) e = to-sum (whither_goes c m) m refl e

  -- ---- one more event

  four : (a r e o a' r' e' o' b s i k : ℕ) → a + r ≡ e + o → a' ≡ a + b → r' ≡ r + s → e' ≡ e + i → o' ≡ o + k → b + s ≡ i + k → a' + r' ≡ e' + o'
  four a r e o a' r' e' o' b s i k f g h j l m = omega (arith, f, g, h, j, l, m)

  heard-booked : (x : NetworkNode) (link : ℕ) (text : List ℕ) (left : Streams) → IsBooked of x → IsBooked of (deliver_frame (Some text) link left x)
  heard-booked x link text left h =
      let a : Abstract = x.exchange in
      let new : Option Message = new_message link text a in
      let b : List Message = brought_in (FrameCame link text) a in
      let out : Outcome = outcome_of whole (FrameCame link text) a in
      four (users_that of x.accepted) (users_that of x.refused) (users_that of x.entered) (users_that of (onward_of a.settings (texts_of x.arrived)))
      _ _ _ _ (users_that of b) (users_that of (refused_by new a.settings out)) (users_that of (entered_by new a.settings b)) (users_that of (onward_of a.settings (option_to_list new)))
      h (append of x.accepted b) (append of x.refused (refused_by new a.settings out)) (append of x.entered (entered_by new a.settings b))
      (ap (λ (ms : List Message). users_that of (onward_of a.settings ms)) (arrived-more link x.arrived (option_to_list new))
      ∙ ap (users_that of) (filter-append (goes_onward a.settings) (texts_of x.arrived) (option_to_list new))
      ∙ append of (onward_of a.settings (texts_of x.arrived)) (onward_of a.settings (option_to_list new)))
      (new-sum a link text new refl)

  pub books-as : (x y : NetworkNode) → SameBooks x y → y.exchange.settings ≡ x.exchange.settings → IsBooked of x → IsBooked of y
  books-as x y s e h =
      ap (λ (ms : List Message). users_that of ms + users_that of y.refused) s.accepted ∙ ap (λ (ms : List Message). users_that of x.accepted + users_that of ms) s.refused
      ∙ h
      ∙ sym (ap (λ (ms : List Message). users_that of ms + users_that of (onward_of y.exchange.settings (texts_of y.arrived))) s.entered
      ∙ ap (λ (ms : List Arrival). users_that of x.entered + users_that of (onward_of y.exchange.settings (texts_of ms))) s.arrived
      ∙ ap (λ (c : Configuration). users_that of x.entered + users_that of (onward_of c (texts_of x.arrived))) e)

  submitted-booked : (x : NetworkNode) (b : List Message) → IsBooked of x
      → users_that of (x.accepted ++ b) + users_that of x.refused ≡ users_that of (x.entered ++ b) + users_that of (onward_of x.exchange.settings (texts_of x.arrived))
  submitted-booked x b h =
      both (users_that of x.accepted) (users_that of x.refused) (users_that of x.entered) (users_that of (onward_of x.exchange.settings (texts_of x.arrived))) (users_that of b) _ _
      h (append of x.accepted b) (append of x.entered b)
    where
      both : (a r e o b a' e' : ℕ) → a + r ≡ e + o → a' ≡ a + b → e' ≡ e + b → a' + r ≡ e' + o
      both a r e o b a' e' f g i = omega (arith, f, g, i)

  pub turn-booked : (w v : NetworkState) (point : ℕ) → Turn w v point → (v.node point).exchange.settings ≡ (w.node point).exchange.settings → IsBooked of (w.node point) → IsBooked of (v.node point)
  turn-booked w v point (idles s) e h = books-as _ _ s e h
  turn-booked w v point (goes_out link s) e h = books-as _ _ s e h
  turn-booked w v point (occurs what plain s) e h = books-as _ _ s e h
  turn-booked w v point (enters m s) e h = books-as _ _ s e (submitted-booked (w.node point) (brought_in (Submitted m) (w.node point).exchange) h)
  turn-booked w v point (comes link text left f s) e h = books-as _ _ s e (heard-booked (w.node point) link text left h)
  turn-booked w v point (opens link f s) e h = books-as _ _ s e h
