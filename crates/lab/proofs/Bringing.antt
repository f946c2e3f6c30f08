-- Texts that are read octet by octet.
use Rattle.std.proofs.Common.{◌≡◌, ◌≤◌, ◌⊎◌, ◌∙◌, ℕ, List, [], ◌++◌, length, drop, inl, inr, sym, ap, subst, arith, append_assoc}
use Rattle.std.proofs.lemmas.List.{length-append, drop_all}
use Rattle.std.proofs.lemmas.Bool.Decides.{nat_tests}
use Rattle.std.specs.Io.KnownBytes.{Consumes}
use Rattle.m2pa_codec.specs.Streams.{IsText, next_in}
use Rattle.m2pa_codec.specs.declared.framer.Next.TheVariants.{Whole, Wait}
use Rattle.m2pa_codec.proofs.StreamTexts.{next_in-whole, length_field-append}
use Rattle.script.proofs.Running.{consumes-consumes}
use Rattle.script.specs.Streams.{Input}
use Rattle.lab.specs.Carrying.{GivesText}

-- the last octet held came when more was waited for
pub record CameLast (held : List ℕ) : Type 0 where
  pub front : List ℕ
  pub last : List ℕ
  pub one : length last ≡ 1
  pub are : held ≡ front ++ last
  pub waits : next_in front ≡ Wait

-- what was read so far, behind what was held at first
pub record HoldsMore (source source_now : Input) (held held_now : List ℕ) : Type 0 where
  pub read : List ℕ
  pub consumed : Consumes source.remaining source_now.remaining read
  pub behind : held_now ≡ held ++ read
  pub asked : (read ≡ []) ⊎ CameLast held_now

-- what an octet more makes whole ends with that octet
short-of-whole : (front last : List ℕ) (count : ℕ) → length last ≡ 1 → next_in front ≡ Wait → next_in (front ++ last) ≡ Whole count → length (front ++ last) ≤ count
short-of-whole front last count one waits whole =
    let len = length-append front last in
    let w = next_in-whole (front ++ last) count whole in
    let announced = w.announced in
    let header = w.header in
    let limit = w.limit in
    let there = w.there in
    let same = length_field-append front last in
    grind (arith, nat_tests, len, one, waits, announced, header, limit, there, same)

pub nothing-behind : (held : List ℕ) (count : ℕ) → CameLast held → next_in held ≡ Whole count → drop count held ≡ []
nothing-behind held count c e =
    drop_all count held
    (subst (λ (xs : List ℕ). length xs ≤ count) (sym c.are) (short-of-whole c.front c.last count c.one c.waits (ap next_in (sym c.are) ∙ e)))

-- ---- one turn

pub holds-more : (a b c : Input) (held held_now held_new octet : List ℕ) → HoldsMore a b held held_now → next_in held_now ≡ Wait → length octet ≡ 1
    → Consumes b.remaining c.remaining octet → held_new ≡ held_now ++ octet → HoldsMore a c held held_new
holds-more a b c held held_now held_new octet h waits one consumed are = record {
  read = h.read ++ octet;
  consumed = consumes-consumes a.remaining b.remaining c.remaining h.read octet h.consumed consumed;
  behind = are ∙ ap (λ (xs : List ℕ). xs ++ octet) h.behind ∙ append_assoc held h.read octet;
  asked = inr (record { front = held_now; last = octet; one = one; are = are; waits = waits });
}

pub gives-text : (a b : Input) (held held_now held_new text : List ℕ) (count : ℕ) → HoldsMore a b held held_now → b.failures ≡ a.failures
    → next_in held_now ≡ Whole count → held_new ≡ drop count held_now → IsText text → held_now ≡ text ++ held_new → GivesText text a b held held_new
gives-text a b held held_now held_new text count h well whole left is_text parts = record {
  read = h.read;
  consumed = h.consumed;
  well = well;
  whole = is_text;
  cut = sym h.behind ∙ parts;
  no_more =
      elim h.asked [
        | inl none ↦ inl none
        | inr last ↦ inr (left ∙ nothing-behind held_now count last whole)
      ];
}
