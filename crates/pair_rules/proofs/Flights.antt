-- The frames in flight on a link, by their texts.
use Rattle.pair_rules.proofs.Basics.{◌≡◌, ◌≢◌, ◌<◌, ℕ, Bool, true, false, List, [], ◌∷◌, ◌++◌, length, map, Some, None, Ok, refl, ap, sym, subst, ◌∙◌, nat_eq, arith, if◌then◌else◌, drop, slice_get, slice_set, ⊎_elim, cases_eq, nat_tests, get_or-set_other, get_or-set_same, length-set}
use Rattle.pair_rules.proofs.Definitions.{Configuration, FrameValue, StatusFrame, spelled, read_frame, in_flight}
use Rattle.m2pa_codec.proofs.FrameTexts.{read_frame-spelled}
use Rattle.pair_rules.proofs.Good.{IsTelling}
use Rattle.pair_rules.proofs.Good as good
use Rattle.pair_rules.proofs.Standing.{AreTexts}

-- ---- frames in flight on one link change

abbrev pub changed_at : (link : ℕ) → List FrameValue → (ℕ → List FrameValue) → ℕ → List FrameValue
changed_at link frames f other = if nat_eq other link then frames else f other

pub changed-here : (link : ℕ) (frames : List FrameValue) (f : ℕ → List FrameValue) → changed_at link frames f link ≡ frames
changed-here link frames f = ap (λ (b : Bool). if b then frames else f link) (same link)
  where
    same : (n : ℕ) → nat_eq n n ≡ true
    same n = grind (arith, nat_tests)

pub changed-other : (link : ℕ) (frames : List FrameValue) (f : ℕ → List FrameValue) (other : ℕ) → other ≢ link → changed_at link frames f other ≡ f other
changed-other link frames f other d = ap (λ (b : Bool). if b then frames else f other) (unlike other link d)
  where
    unlike : (m n : ℕ) → m ≢ n → nat_eq m n ≡ false
    unlike m n e = grind (arith, nat_tests, e)

-- the texts are those of the frames then
pub texts-changed : (c : Configuration) (texts : List (List (List ℕ))) (f : ℕ → List FrameValue) (link : ℕ) (next : List (List ℕ)) (frames : List FrameValue) → AreTexts c texts f → link < length c.links
    → next ≡ map spelled frames → AreTexts c (slice_set texts link next) (changed_at link frames f)
texts-changed c texts f link next frames a l e = record {
  many = length-set texts link next ∙ a.many;
  each = λ other.
      ⊎_elim
      (λ (same : other ≡ link).
      subst (λ (k : ℕ). in_flight (slice_set texts link next) k ≡ map spelled (changed_at link frames f k)) (sym same)
      (get_or-set_same texts link next [] (subst (λ (k : ℕ). link < k) (sym a.many) l) ∙ e ∙ ap (map spelled) (sym (changed-here link frames f))))
      (λ (d : other ≢ link). get_or-set_other texts link other next [] d ∙ a.each other ∙ ap (map spelled) (sym (changed-other link frames f other d)))
      (cases_eq other link);
}

pub map-behind : (fs : List FrameValue) (frame : FrameValue) → map spelled fs ++ spelled frame ∷ [] ≡ map spelled (fs ++ frame ∷ [])
map-behind [] frame = refl
map-behind (f ∷ fs) frame = ap (λ (xs : List (List ℕ)). spelled f ∷ xs) (map-behind fs frame)

pub tells-back : (frame : FrameValue) → IsTelling frame → read_frame (spelled frame) ≡ Ok frame
tells-back _ (good.telling bsn fsn status s) = read_frame-spelled (StatusFrame bsn fsn status) s

-- the first frame in flight, by its text
pub record IsFirst (frames : List FrameValue) (texts : List (List ℕ)) (text : List ℕ) : Type 0 where
  pub frame : FrameValue
  pub rest : List FrameValue
  pub first : frames ≡ frame ∷ rest
  pub spells : text ≡ spelled frame
  pub left : drop 1 texts ≡ map spelled rest

pub first-frame : (frames : List FrameValue) (texts : List (List ℕ)) (text : List ℕ) → texts ≡ map spelled frames → slice_get texts 0 ≡ Some text → IsFirst frames texts text
first-frame [] texts text e f = (let none : slice_get texts 0 ≡ None = ap (λ (ts : List (List ℕ)). slice_get ts 0) e in absurd cc)
first-frame (frame ∷ rest) texts text e f =
    let some : Some text ≡ Some (spelled frame) = sym f ∙ ap (λ (ts : List (List ℕ)). slice_get ts 0) e in
    record { frame = frame; rest = rest; first = refl; spells = (let same : text ≡ spelled frame = cc in same); left = ap (drop 1) e }
