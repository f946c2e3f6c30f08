-- What is seen of a call: what happened to the exchange, and how many messages passed.
use Rattle.std.proofs.Common.{◌≡◌, ◌⊎◌, inl, inr, ◌≤◌, ◌+◌, ℕ, Bool, true, false, List, [], ◌∷◌, ◌++◌, length, refl, ap, ◌∙◌, arith, length-append}
use Rattle.std.specs.Prelude.{if◌then◌else◌}
use Rattle.sctp_receiving.specs.Pieces as pieces
use Rattle.sctp_rules.specs.State.{Told, Up, Heard, Down, Failed, Done}
use Rattle.sctp_rules.specs.Endpoint.{Happening}
use Rattle.sctp_moves.specs.Ends.{Message}
use Rattle.sctp_moves.proofs.Members.{In}
use Rattle.sctp_ends.specs.Told.{with_last, text_told, told_by, opened_by, given_by}
use Rattle.sctp_ends.specs.Worlds as ends
use Rattle.sctp_ends.specs.Worlds.{count, messages_at}
use Rattle.exchange_rules.specs.State.{CameUp, WentDown, FrameCame}
use Rattle.exchange_rules.specs.Exchange.{after, outcome_of}
use Rattle.exchange_rules.specs.First.{Abstract}
use Rattle.exchange_rules.specs.Queues.{whole}
use Rattle.sctp_gate.specs.Watching.{Sight, CameIn, Dropped}
use Rattle.sctp_gate.specs.Handing.{after_one, after_told, sight_of, sights_of}
use Rattle.node_rules.specs.Worlds.{is_frame}
use Rattle.gate_rules.specs.Calls.{Keeping, seen_by, seen_all, one_if_message, messages_in}
use Rattle.gate_rules.proofs.LinkEnds.{Keeps, handed, handed_all}

-- ---- lists

pub in-either : {X : Type 0} (x : X) (xs ys : List X) → In x (xs ++ ys) → In x xs ⊎ In x ys
in-either x [] ys i = inr i
in-either x (y ∷ xs) ys (inl e) = inl (inl e)
in-either x (y ∷ xs) ys (inr i) = by (in-either x xs ys i) where
  by : In x xs ⊎ In x ys → In x (y ∷ xs) ⊎ In x ys
  by (inl j) = inl (inr j)
  by (inr j) = inr j

pub in-front : {X : Type 0} (x : X) (xs ys : List X) → In x xs → In x (xs ++ ys)
in-front x [] ys i = absurd i
in-front x (y ∷ xs) ys (inl e) = inl e
in-front x (y ∷ xs) ys (inr i) = inr (in-front x xs ys i)

pub in-behind : {X : Type 0} (x : X) (xs ys : List X) → In x ys → In x (xs ++ ys)
in-behind x [] ys i = i
in-behind x (y ∷ xs) ys i = inr (in-behind x xs ys i)

-- ---- how many passed, one thing after another

pub messages-more : (xs ys : List Sight) → messages_in (xs ++ ys) ≡ messages_in xs + messages_in ys
messages-more [] ys = omega arith
messages-more (x ∷ xs) ys = (let h = messages-more xs ys in omega (arith, h))

module _ {B : Type 0} (keeping : Keeping B) (k : ℕ) where
  pub seen-more : (xs ys : List Sight) (b : B) → seen_all keeping k (xs ++ ys) b ≡ seen_all keeping k ys (seen_all keeping k xs b)
  seen-more [] ys b = refl
  seen-more (x ∷ xs) ys b = seen-more xs ys (seen_by keeping k x b)

  -- ---- what is told is handed in alike

  module _ (keeps : Keeps keeping) where
    pub handed-told : (ts : List Told) (b : B) → keeping.exchange (handed_all keeping k ts b) ≡ after_told whole k ts (keeping.exchange b)
    handed-told [] b = refl
    handed-told (Up ∷ more) b = handed-told more (keeping.happened (CameUp k) b) ∙ ap (after_told whole k more) (keeps.happened (CameUp k) b)
    handed-told (Down why ∷ more) b = handed-told more (keeping.happened (WentDown k) b) ∙ ap (after_told whole k more) (keeps.happened (WentDown k) b)
    handed-told (Failed why ∷ more) b = handed-told more b
    handed-told (Heard m ∷ more) b = handed-told more (handed keeping k (Heard m) b) ∙ ap (λ (x : Abstract). after_told whole k more x) (by (is_frame m)) where
      by : (f : Bool) → keeping.exchange (if f then keeping.happened (FrameCame k m.octets) b else b)
          ≡ (if f then after whole (FrameCame k m.octets) (keeping.exchange b) else keeping.exchange b)
      by true = keeps.happened (FrameCame k m.octets) b
      by false = refl

    -- the same what is seen of the rest, whichever state it begins with
    seen-so : (more : List Told) (b : B) (s t : Abstract) → s ≡ t → seen_all keeping k (sights_of whole k more s) b ≡ seen_all keeping k (sights_of whole k more t) b
    seen-so more b s t e = ap (λ (x : Abstract). seen_all keeping k (sights_of whole k more x) b) e

    pub seen-told : (ts : List Told) (b : B) → handed_all keeping k ts b ≡ seen_all keeping k (sights_of whole k ts (keeping.exchange b)) b
    seen-told [] b = refl
    seen-told (Up ∷ more) b = seen-told more (keeping.happened (CameUp k) b) ∙ seen-so more _ _ _ (keeps.happened (CameUp k) b)
    seen-told (Down why ∷ more) b = seen-told more (keeping.happened (WentDown k) b) ∙ seen-so more _ _ _ (keeps.happened (WentDown k) b)
    seen-told (Failed why ∷ more) b = seen-told more b
    seen-told (Heard m ∷ more) b = seen-told more (handed keeping k (Heard m) b) ∙ by (is_frame m) where
      came : B
      came = keeping.happened (FrameCame k m.octets) b

      by : (f : Bool) → seen_all keeping k (sights_of whole k more (keeping.exchange (if f then came else b))) (if f then came else b)
          ≡ seen_all keeping k
          ((if f then CameIn m.octets (outcome_of whole (FrameCame k m.octets) (keeping.exchange b)) else Dropped m)
          ∷ sights_of whole k more (if f then after whole (FrameCame k m.octets) (keeping.exchange b) else keeping.exchange b)) b
      by true = seen-so more came _ _ (keeps.happened (FrameCame k m.octets) b)
      by false = refl

-- ---- how many messages an endpoint was given and told

one-more : (lists : List (List Message)) → count ([] ∷ lists) ≡ count lists
one-more lists = omega arith

count-last : (m : Message) (lists : List (List Message)) → count (with_last m lists) ≤ count lists + 1
count-last m [] = omega arith
count-last m (latest ∷ past) = (let e : length (latest ++ m ∷ []) ≡ length latest + 1 = length-append latest (m ∷ []) in omega (arith, e))

one-heard : (k : ℕ) (m : pieces.Message) (s : Abstract) → one_if_message (sight_of whole k (Heard m) s) ≡ 1
one-heard k m s = by (is_frame m) where
  by : (f : Bool) → one_if_message (if f then CameIn m.octets (outcome_of whole (FrameCame k m.octets) s) else Dropped m) ≡ 1
  by true = refl
  by false = refl

told-count : (k : ℕ) (ts : List Told) (lists : List (List Message)) (s : Abstract) → count (told_by lists ts) ≤ count lists + messages_in (sights_of whole k ts s)
told-count k [] lists s = omega arith
told-count k (Up ∷ more) lists s =
    let h = told-count k more ([] ∷ lists) (after_one whole k Up s) in
    let e = one-more lists in
    omega (arith, h, e)
told-count k (Down why ∷ more) lists s = (let h = told-count k more lists (after_one whole k (Down why) s) in omega (arith, h))
told-count k (Failed why ∷ more) lists s = (let h = told-count k more lists s in omega (arith, h))
told-count k (Heard m ∷ more) lists s =
    let h = told-count k more (with_last (text_told m) lists) (after_one whole k (Heard m) s) in
    let one = count-last (text_told m) lists in
    let is = one-heard k m s in
    omega (arith, h, one, is)

opened-count : (ts : List Told) (lists : List (List Message)) → count (opened_by lists ts) ≡ count lists
opened-count [] lists = refl
opened-count (Up ∷ more) lists = opened-count more ([] ∷ lists) ∙ one-more lists
opened-count (Down why ∷ more) lists = opened-count more lists
opened-count (Failed why ∷ more) lists = opened-count more lists
opened-count (Heard m ∷ more) lists = opened-count more lists

told-more : (lists : List (List Message)) (ts us : List Told) → told_by lists (ts ++ us) ≡ told_by (told_by lists ts) us
told-more lists [] us = refl
told-more lists (Up ∷ ts) us = told-more ([] ∷ lists) ts us
told-more lists (Down why ∷ ts) us = told-more lists ts us
told-more lists (Failed why ∷ ts) us = told-more lists ts us
told-more lists (Heard m ∷ ts) us = told-more (with_last (text_told m) lists) ts us

-- by a rule that gives no message, no more than are seen
pub rule-grows : (k : ℕ) (what : Happening) (d : Done) (site : ends.Site) (s : Abstract) → given_by what site.state site.given ≡ site.given
    → messages_at (ends.with_done what d site) ≤ messages_at site + messages_in (sights_of whole k d.told s)
rule-grows k what d site s quiet =
    let given : count (opened_by (given_by what site.state site.given) d.told) ≡ count site.given =
    opened-count d.told (given_by what site.state site.given) ∙ ap count quiet in
    let is : count (told_by [] (site.told ++ d.told)) ≡ count (told_by (told_by [] site.told) d.told) = ap count (told-more [] site.told d.told) in
    let told = told-count k d.told (told_by [] site.told) s in
    omega (arith, given, is, told)

-- and one by a message that is given
pub given-grows : (m : Message) (b : Bool) (lists : List (List Message)) → count (if b then with_last m lists else lists) ≤ count lists + 1
given-grows m true lists = count-last m lists
given-grows m false lists = omega arith
