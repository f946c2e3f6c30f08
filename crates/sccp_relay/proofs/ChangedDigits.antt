-- The digits and the octets of a changed title, one by one.
use Rattle.std.proofs.Common.{◌≡◌, ℕ, ◌+◌, ◌*◌, ◌-◌, ◌<◌, ◌≤◌, List, ◌∷◌, [], ◌++◌, length, take, drop, sym, ap, ◌∙◌, arith, refl}
use Rattle.std.proofs.lemmas.List.{get_or-append-add, get_or-drop, take_more, append_assoc}
use Rattle.std.proofs.lemmas.List.{length-append, length-drop}
use Rattle.std.proofs.lemmas.Bool.{ne_eqb, lt-ltb, le-ltb}
use Rattle.std.specs.Prelude.{slice_index, Ok, Err, ◌≢◌}
use Rattle.std.specs.Int.{div_ceil}
use Rattle.std.proofs.lemmas.Grind.{div_ceil_times}
use Rattle.signalling_types.specs.declared.cause.Cause.TheVariants.{TooLong}
use Rattle.settings.specs.Configuration.{ChangeEntry}
use Rattle.sccp_codec.specs.declared.title.TitleKey.{TitleKey}
use Rattle.sccp_codec.specs.Titles.{packed, title_octets}
use Rattle.sccp_relay.specs.Changing.{changed_digits, octets_of_title}
use Rattle.sccp_codec.proofs.TitleTexts.{packed-at, packed-length}

-- past the digits that are put on come those that are left
pub digit-past : (added digits lent : List ℕ) (removed taken i : ℕ) → lent ≡ added → taken ≡ removed → length lent ≤ i
    → slice_index digits (i - length lent + taken) ≡ slice_index (added ++ drop removed digits) i
digit-past added digits lent removed taken i e f le =
    let at : i ≡ length added + (i - length added) = omega (arith, le, ap length e) in
    let same : i - length lent + taken ≡ removed + (i - length added) = omega (arith, le, ap length e, f) in
    rw same (sym (ap (slice_index (added ++ drop removed digits)) at ∙ get_or-append-add added (drop removed digits) (i - length added) 0 ∙ get_or-drop removed digits (i - length added) 0))

-- one octet more
pub packed-more : (digits front text : List ℕ) (k octet : ℕ) → k < length (packed digits) → text ≡ front ++ take k (packed digits)
    → octet ≡ slice_index digits (2 * k) + slice_index digits (2 * k + 1) * 16 → text ++ octet ∷ [] ≡ front ++ take (k + 1) (packed digits)
packed-more digits front text k octet lt e f =
    rw (e, take_more (packed digits) k 0 lt, packed-at digits k, f) (append_assoc front (take k (packed digits)) _)

-- ---- how many octets

pub half-count : (digits : List ℕ) (count : ℕ) → count ≡ length digits → div_ceil count 2 ≡ length (packed digits)
half-count digits count e =
    let bounds = div_ceil_times count 2 (omega arith) in
    omega (arith, e, packed-length digits, bounds.0, bounds.1)

pub digits-count : (change : ChangeEntry) (digits : List ℕ) → length (changed_digits change digits) ≡ length change.added + (length digits - change.removed)
digits-count change digits = omega (arith, length-append change.added (drop change.removed digits), length-drop change.removed digits)

pub too-long : (key : TitleKey) (digits : List ℕ) → 502 < length digits → octets_of_title key digits ≡ Err TooLong
too-long key digits h =
    rw (ne_eqb (length digits) 0 (λ e. omega (arith, e, h)), lt-ltb 254 (length (title_octets key digits)) (omega (arith, h, packed-length digits))) refl

pub fits-title : (key : TitleKey) (digits : List ℕ) → length digits ≢ 0 → length digits ≤ 502 → octets_of_title key digits ≡ Ok (title_octets key digits)
fits-title key digits some h =
    rw (ne_eqb (length digits) 0 some, le-ltb 254 (length (title_octets key digits)) (omega (arith, h, packed-length digits))) refl
