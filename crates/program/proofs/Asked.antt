-- What words ask for, by the first of them.
use Rattle.std.proofs.Common.{◌≡◌, ◌∙◌, ◌&&◌, Bool, true, false, refl, sym, ap, true≢false, List, [], ◌∷◌, length, codes}
use Rattle.std.specs.Prelude.{if◌then◌else◌, string_bytes, String}
use Rattle.std.specs.Global.{Global}
use Rattle.std.specs.List.{list_all}
use Rattle.std.specs.Str.{bytes_eq}
use Rattle.std.proofs.lemmas.Slice.Eq.{bytes_eq-Decides}
use Rattle.std.proofs.lemmas.List.{length-map}
use Rattle.std.proofs.lemmas.Bool.{false_from_ne_true}
use Rattle.clap.specs.Words.{Text}
use Rattle.program.specs.Words.{Task, asked_by, asked_with, asked_with_two, is_plain, are_plain, is_in_line, are_in_line, texts, OtherWords}

-- two words and more are asked for by none but the labs
pub unasked-more : (command near far : Text) (more : List Text) → bytes_eq command (codes "lab") ≡ false → bytes_eq command (codes "lab-udp") ≡ false
    → asked_by (command ∷ near ∷ far ∷ more) ≡ OtherWords
unasked-more command near far [] e f = two (is_plain near && is_plain far)
  where
    two : (b : Bool) → (if b then asked_with_two command near far else OtherWords) ≡ OtherWords
    two true = rw (e, f) refl
    two false = refl
unasked-more command near far (word ∷ more) e f = refl

-- a word that isn't the other isn't it the other way round
pub unlike : (a b : Text) → bytes_eq a b ≡ false → bytes_eq b a ≡ false
unlike a b e = false_from_ne_true _ (λ is. true≢false (sym ((bytes_eq-Decides a b).1 (sym ((bytes_eq-Decides b a).0 is))) ∙ e))

pub others-asked : (word : Text) (rest : List Text) → bytes_eq word (codes "run") ≡ false → bytes_eq word (codes "check") ≡ false
    → bytes_eq word (codes "lab") ≡ false → bytes_eq word (codes "lab-udp") ≡ false → bytes_eq word (codes "serve") ≡ false → asked_by (word ∷ rest) ≡ OtherWords
others-asked word [] not-run not-check not-lab not-udp not-serve = rw not-run refl
others-asked word (file ∷ []) not-run not-check not-lab not-udp not-serve = either (is_plain file)
  where
    either : (b : Bool) → (if b then asked_with word file else OtherWords) ≡ OtherWords
    either true = rw (not-run, not-check, not-serve) refl
    either false = refl
others-asked word (file ∷ second ∷ more) not-run not-check not-lab not-udp not-serve = unasked-more word file second more not-lab not-udp

pub plain-texts : (words : List (String Global)) → are_plain words ≡ list_all is_plain (texts words)
plain-texts [] = refl
plain-texts (word ∷ words) = ap (λ b. is_plain (string_bytes word) && b) (plain-texts words)

pub length-texts : (words : List (String Global)) → length (texts words) ≡ length words
length-texts words = length-map words (λ word. string_bytes word)

pub all-plain : (words : List (String Global)) → list_all is_plain (texts words) ≡ are_plain words
all-plain words = sym (plain-texts words)

pub all-in-line : (words : List (String Global)) → list_all is_in_line (texts words) ≡ are_in_line words
all-in-line [] = refl
all-in-line (word ∷ words) = ap (λ b. is_in_line (string_bytes word) && b) (all-in-line words)

-- what is asked of texts is asked of the words
pub ruleset word_steps = (length-texts, all-plain, all-in-line)

-- a word that isn't plain names nothing
unnamed : (word name : Text) → is_plain word ≡ false → is_plain name ≡ true → bytes_eq word name ≡ false
unnamed word name e plain = false_from_ne_true _ (λ is. true≢false (sym plain ∙ ap is_plain (sym ((bytes_eq-Decides word name).0 is)) ∙ e))

pub unplain : (words : List Text) → list_all is_plain words ≡ false → asked_by words ≡ OtherWords
unplain [] e = refl
unplain (word ∷ rest) e = first (is_plain word) refl
  where
    alone : (b : Bool) → (b && true) ≡ false → (t : Task) → (if b then t else OtherWords) ≡ OtherWords
    alone true f t = absurd (true≢false f)
    alone false f t = refl

    both_plain : (b t : Bool) → (b && (t && true)) ≡ false → (b && t) ≡ false
    both_plain true true f = f
    both_plain true false f = refl
    both_plain false t f = refl

    behind : (rest : List Text) → list_all is_plain rest ≡ false → asked_by (word ∷ rest) ≡ OtherWords
    behind [] f = absurd (true≢false f)
    behind (file ∷ []) f = alone (is_plain file) f _
    behind (near ∷ far ∷ []) f = rw (both_plain (is_plain near) (is_plain far) f) refl
    behind (near ∷ far ∷ third ∷ more) f = refl

    first : (b : Bool) → is_plain word ≡ b → asked_by (word ∷ rest) ≡ OtherWords
    first true is = behind rest (ap (λ t. t && list_all is_plain rest) (sym is) ∙ e)
    first false is = others-asked word rest (unnamed word _ is refl) (unnamed word _ is refl) (unnamed word _ is refl) (unnamed word _ is refl) (unnamed word _ is refl)
