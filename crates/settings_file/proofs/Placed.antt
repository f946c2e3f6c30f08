-- Sentences about faults, with their places, and one after another.
use Rattle.settings_file.proofs.Basics.{◌≡◌, ℕ, ◌+◌, ◌<◌, ◌≤◌, List, [], ◌++◌, length, get_or, drop, refl, drop_more, drop_all, append_assoc, append-nil, ServeFault, Option, Some, None, Result, Ok, Err, string_bytes}
use Rattle.std.specs.Prelude.{IfOk, IfSome, String}
use Rattle.std.specs.Global.{Global}
use Rattle.settings_file.specs.Places.{row_place}
use Rattle.settings_file.specs.Sentences.{AreEach}
use Rattle.settings_file.specs.PlacedSentences.{IsPlaceOfFault, IsBeginning, IsSentence}
use Rattle.settings_file.specs.ServeSentences.{Explains, place_of}
use Rattle.settings_file.specs.TextPlaces.{IsPlaceOf}
use Rattle.settings_file.specs.declared.key_rows.KeyRow.{KeyRow}
use Rattle.settings_file.specs.declared.text_places.TextPlace.{TextPlace}

-- ---- places

pub place-of_fault : (text : List ℕ) (row : KeyRow) (fault : ServeFault) (found : Option TextPlace) → place_of fault ≡ Some (row_place row)
    → IfSome found (IsPlaceOf text row) → IfSome found (IsPlaceOfFault text fault)
place-of_fault text row fault (Some place) e h = record { key = row_place row; is_key = e; stands = h }
place-of_fault text row fault None e h = tt

-- ---- sentences

pub is-sentence : {E : Type 0} (file text front : List ℕ) (fault : ServeFault) (made : Result (String Global) E) → IsBeginning file text fault front
    → IfOk made (λ sentence. Explains front fault (string_bytes sentence))
    → IfOk made (λ sentence. IsSentence file text fault (string_bytes sentence))
is-sentence file text front fault (Ok sentence) begins explains = record { front = front; begins = begins; explains = explains }
is-sentence file text front fault (Err e) begins explains = tt

-- ---- one text for each of several

-- texts of all of these, once those from number i on have theirs
abbrev pub Continues : {A : Type 0} → (A → List ℕ → Type 0) → List A → ℕ → (so_far : List ℕ) → Type 0
Continues Is xs i so_far = (more : List ℕ) → AreEach Is (drop i xs) more → AreEach Is xs (so_far ++ more)

pub next_text : {A : Type 0} (Is : A → List ℕ → Type 0) (xs : List A) (i : ℕ) (d : A) (old new first : List ℕ)
    → i < length xs → Is (get_or xs i d) first → new ≡ old ++ first
    → Continues Is xs i old → Continues Is xs (i + 1) new
next_text Is xs i d old new first within made n so_far = λ more told.
    let step : AreEach Is xs (old ++ (first ++ more)) = so_far (first ++ more) (rw (drop_more xs i d within) (first, more, made, told, refl)) in
    rw (n, append_assoc) step

pub all_texts : {A : Type 0} (Is : A → List ℕ → Type 0) (xs : List A) (i : ℕ) (so_far : List ℕ)
    → length xs ≤ i → Continues Is xs i so_far → AreEach Is xs so_far
all_texts Is xs i so_far past h =
    let step : AreEach Is xs (so_far ++ []) = h [] (rw (drop_all i xs past) refl) in
    rw append-nil at step
