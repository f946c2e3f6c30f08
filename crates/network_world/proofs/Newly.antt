-- The message that a frame newly carries is told by the number of the last message that was accepted on its link.
use Rattle.std.proofs.Common.{◌≡◌, ◌+◌, ◌&&◌, ℕ, Bool, true, false, List, [], ◌∷◌, Option, Some, None, is_some, nat_eq, nat_lt, refl, ap, sym, ◌∙◌, arith}
use Rattle.std.specs.Prelude.{if◌then◌else◌, not, option_to_list}
use Rattle.std.proofs.lemmas.Bool.Decides.{nat_tests}
use Rattle.signalling_types.specs.Message.{Message}
use Rattle.signalling_types.specs.Numbers.{previous_number}
use Rattle.m2pa_codec.specs.Frames.{read_frame}
use Rattle.exchange.specs.declared.view.LinkView.{LinkView}
use Rattle.exchange_rules.specs.State.{Happening, FrameCame, Happens, is_link, down}
use Rattle.exchange_rules.specs.Queues.{whole}
use Rattle.exchange_rules.specs.Exchange.{after}
use Rattle.exchange_rules.specs.Lasting.{HasAllPlaces}
use Rattle.exchange_rules.specs.Receiving.{new_of, new_message, received}
use Rattle.exchange_rules.specs.First.{Abstract, IsSound}
use Rattle.exchange_rules.proofs.LastingPlaces.{places-stay}
use Rattle.exchange_rules.proofs.Received.{received-counted}
use Rattle.exchange_rules.proofs.CarriedMessages.{new-carried}
use Rattle.exchange.specs.KeptQueues.{kept}
use Rattle.exchange.specs.Calls.{StandsFor, kept_of}
use Rattle.exchange.specs.Views.{link_shown}
use Rattle.exchange.proofs.Standing.{stands-after}
use Rattle.exchange.proofs.Showing.{stands-link}
use Rattle.network_world.specs.KeptSites.{accepted_number, number_shown, new_if_other, newly_carried, message_in}

-- what is kept of a state stands for it
pub stands-itself : (a : Abstract) → IsSound a → StandsFor (kept_of a) a
stands-itself a s = record { sound = s; kept = refl }

-- ---- numbers

-- the number that a link shows, where it is there
abbrev number_if : Bool → (count : ℕ) → ℕ
number_if there count = if there then previous_number count else 0

pub shown-number : (b : Bool) (view : LinkView) → number_shown (if b then Some view else None) ≡ (if b then view.last_accepted else 0)
shown-number true view = refl
shown-number false view = refl

same-number : (n : ℕ) → nat_eq n n ≡ true
same-number n = grind (arith, nat_tests)

other-number : (count : ℕ) → nat_eq (previous_number count) (previous_number (count + 1)) ≡ false
other-number count = grind (arith, nat_tests)

itself : (link : ℕ) (b : Bool) → (nat_eq link link && b) ≡ b
itself link b = ap (λ (c : Bool). c && b) (same-number link)

guarded : (b c : Bool) (o : Option Message) (m : Message) → (if b && c then o else None) ≡ Some m → b ≡ true
guarded true c o m e = refl
guarded false c o m e = absurd cc

module _ (link : ℕ) (text : List ℕ) (a : Abstract) (s : IsSound a) (places : HasAllPlaces a.settings a.node) where
  abbrev came : Happening
  came = FrameCame link text

  abbrev there : Bool
  there = is_link a.node.parts link

  -- the link is there as it was
  link-stays : is_link (after whole came a).node.parts link ≡ there
  link-stays = ap (nat_lt link) ((places-stay (Happens came ∷ []) a places).parts.links ∙ sym places.parts.links)

  before : accepted_number (kept_of a) link ≡ number_if there (received a.node link)
  before = ap number_shown (stands-link link (kept_of a) a (stands-itself a s)) ∙ shown-number there (link_shown whole a.node link)

  later : accepted_number (after kept came (kept_of a)) link ≡ number_if there (received (after whole came a).node link)
  later =
      ap number_shown (stands-link link (after kept came (kept_of a)) (after whole came a) (stands-after came (kept_of a) a (stands-itself a s)))
      ∙ shown-number (is_link (after whole came a).node.parts link) (link_shown whole (after whole came a).node link)
      ∙ ap (λ (b : Bool). number_if b (received (after whole came a).node link)) link-stays

  counted : (n : Option Message) → new_message link text a ≡ n → received (after whole came a).node link ≡ received a.node link + (if is_some n then 1 else 0)
  counted n e =
      received-counted came a link places refl
      ∙ ap (λ (b : Bool). received a.node link + (if b then 1 else 0)) (itself link (is_some (new_message link text a)) ∙ ap is_some e)

  by : (n : Option Message) → new_message link text a ≡ n
      → new_if_other (number_if there (received a.node link)) (number_if there (received (after whole came a).node link)) text ≡ option_to_list n
  by None e =
      let same : received (after whole came a).node link ≡ received a.node link = counted None e ∙ grind arith in
      ap (λ (count : ℕ). new_if_other (number_if there (received a.node link)) (number_if there count) text) same
      ∙ ap (λ (b : Bool). if b then [] else message_in text) (same-number (number_if there (received a.node link)))
  by (Some m) e =
      let is_there : there ≡ true = guarded there (not (down a.node.parts link)) (new_of (read_frame text) link a.settings a.node) m e in
      ap (λ (count : ℕ). new_if_other (number_if there (received a.node link)) (number_if there count) text) (counted (Some m) e)
      ∙ ap (λ (b : Bool). new_if_other (number_if b (received a.node link)) (number_if b (received a.node link + 1)) text) is_there
      ∙ ap (λ (b : Bool). if b then [] else message_in text) (other-number (received a.node link))
      ∙ ap (λ (o : Option Message). option_to_list o) (new-carried link text a m e)

  pub newly-same : newly_carried link text (kept_of a) ≡ option_to_list (new_message link text a)
  newly-same =
      ap (λ (n : ℕ). new_if_other n (accepted_number (after kept came (kept_of a)) link) text) before
      ∙ ap (λ (n : ℕ). new_if_other (number_if there (received a.node link)) n text) later
      ∙ by (new_message link text a) refl
