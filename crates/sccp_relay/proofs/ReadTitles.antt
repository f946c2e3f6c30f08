-- The titles of what goes on and of what is returned, read where they arrive.
use Rattle.std.proofs.Common.{◌≡◌, ◌≢◌, ℕ, ◌+◌, ◌-◌, ◌*◌, ◌/◌, ◌%◌, ◌^◌, ◌<◌, ◌≤◌, Bool, true, false, List, [], ◌∷◌, length, drop, take, Option, Some, None, Result, Ok, Err, refl, sym, ap, subst, ◌∙◌, inl, inr, arith}
use Rattle.std.proofs.lemmas.Bool.{cases_lt, eqb-true, eqb-false, and_parts}
use Rattle.std.proofs.lemmas.List.{get_or-drop, get_or-take, get_or_past, length-take}
use Rattle.std.proofs.lemmas.List.Elements.{All-append, All-drop, All-take, All-from_recursion, All-from_get_or, recursion_from_All}
use Rattle.std.specs.List.{AllByRecursion, flat_map}
use Rattle.std.specs.Prelude.{◌==◌, ◌&&◌, if◌then◌else◌, nat_eq, nat_lt, All, IfSome, is_none, unwrap_or}
use Rattle.signalling_types.specs.declared.cause.Cause.{Cause}
use Rattle.signalling_types.specs.declared.cause.Cause.TheVariants.{NoDigits, TooLong, NoNature}
use Rattle.settings.specs.Configuration.{ChangeEntry, unchanged}
use Rattle.settings.specs.TitleRanges.{HasChangeRanges}
use Rattle.sccp_codec.specs.declared.title.EncodingScheme.{EncodingScheme}
use Rattle.sccp_codec.specs.declared.title.EncodingScheme.TheVariants.{Odd, Even}
use Rattle.sccp_codec.specs.declared.title.TitleKey.{TitleKey}
use Rattle.sccp_codec.specs.Messages.{AddressValue, AreOctets}
use Rattle.sccp_codec.specs.Titles.{TitleValue, halves, digits_in, read_octets, read_title, title_octets}
use Rattle.sccp_codec.proofs.TitleTexts.{title-back}
use Rattle.sccp_relay.specs.Changing.{is_unchanged, changed_key, changed_digits, changed_octets, title_after}
use Rattle.sccp_relay.specs.Led.{SameTitle, IsChanged}

-- ---- what changes nothing

no-number : (number : Option ℕ) → is_none number ≡ true → number ≡ None
no-number None e = refl
no-number (Some number) e = absurd cc

no-digits : (digits : List ℕ) → nat_eq (length digits) 0 ≡ true → digits ≡ []
no-digits [] e = refl
no-digits (digit ∷ digits) e = absurd (let zero = eqb-true (length (digit ∷ digits)) 0 e in omega (arith, zero))

change-of : Option ℕ → Option ℕ → ℕ → List ℕ → ChangeEntry
change-of plan nature removed added = record { plan = plan; nature = nature; removed = removed; added = added }

pub same-unchanged : (change : ChangeEntry) → is_unchanged change ≡ true → change ≡ unchanged
unfolding change-of
same-unchanged change e =
    let three = and_parts (is_none change.plan && is_none change.nature && nat_eq change.removed 0) (nat_eq (length change.added) 0) e in
    let two = and_parts (is_none change.plan && is_none change.nature) (nat_eq change.removed 0) three.0 in
    let one = and_parts (is_none change.plan) (is_none change.nature) two.0 in
    ap (λ (plan : Option ℕ). change-of plan change.nature change.removed change.added) (no-number change.plan one.0)
    ∙ ap (λ (nature : Option ℕ). change-of None nature change.removed change.added) (no-number change.nature one.1)
    ∙ ap (λ (removed : ℕ). change-of None None removed change.added) (eqb-true change.removed 0 two.1)
    ∙ ap (change-of None None 0) (no-digits change.added three.1)

-- ---- octets and their digits

pub octets-taken : (n : ℕ) (octets : List ℕ) → AreOctets octets → AreOctets (take n octets)
octets-taken n octets h i =
    elim (cases_lt i n) [
      | inl within ↦ rw (get_or-take n octets i 0 within) (h i)
      | inr past ↦ rw (get_or_past (take n octets) i 0 (omega (arith, past, length-take n octets))) (omega arith)
    ]

pub octets-dropped : (n : ℕ) (octets : List ℕ) → AreOctets octets → AreOctets (drop n octets)
octets-dropped n octets h i = rw (get_or-drop n octets i 0) (h (n + i))

small-halves : (octets : List ℕ) → AllByRecursion (λ octet. octet < 2 ^ 8) octets → AllByRecursion (λ digit. digit < 2 ^ 4) (flat_map halves octets)
small-halves [] h = tt
small-halves (octet ∷ octets) h = (omega arith, (omega (arith, h.0), small-halves octets h.1))

small-flat : (octets : List ℕ) → AreOctets octets → All (λ digit. digit < 2 ^ 4) (flat_map halves octets)
small-flat octets h =
    All-from_recursion (λ digit. digit < 2 ^ 4) (flat_map halves octets)
    (small-halves octets (recursion_from_All (λ octet. octet < 2 ^ 8) octets (All-from_get_or (λ octet. octet < 2 ^ 8) octets 0 (λ i lt. h i))))

small-digits : (scheme : EncodingScheme) (octets : List ℕ) → AreOctets octets → All (λ digit. digit < 2 ^ 4) (digits_in scheme octets)
small-digits Even octets h = small-flat octets h
small-digits Odd octets h = All-take (λ digit. digit < 2 ^ 4) (2 * length octets - 1) (flat_map halves octets) (small-flat octets h)

-- ---- a title that was read

record IsRead (indicator : ℕ) (octets : List ℕ) (title : TitleValue) : Type 0 where
  pub indicator_is : indicator ≡ 4
  pub plan : title.key.plan < 2 ^ 4
  pub nature : title.key.nature < 2 ^ 7
  pub octets_fit : AreOctets title.digit_octets

title-if : (b : Bool) (read : Result TitleValue Cause) (title : TitleValue) → (if b then read else Err NoNature) ≡ Ok title → (b ≡ true) × (read ≡ Ok title)
title-if true read title e = (refl, e)
title-if false read title e = absurd cc

record HasRanges (title : TitleValue) : Type 0 where
  pub plan : title.key.plan < 2 ^ 4
  pub nature : title.key.nature < 2 ^ 7
  pub octets_fit : AreOctets title.digit_octets

scheme-either : (a b : Bool) (odd even title : TitleValue) → (if a then Ok odd else if b then Ok even else Err NoNature) ≡ Ok title → HasRanges odd → HasRanges even → HasRanges title
scheme-either true b odd even title e h k = let same : odd ≡ title = cc in subst HasRanges same h
scheme-either false true odd even title e h k = let same : even ≡ title = cc in subst HasRanges same k
scheme-either false false odd even title e h k = absurd cc

octets-read : (octets : List ℕ) (title : TitleValue) → AreOctets octets → read_octets octets ≡ Ok title → HasRanges title
octets-read [] title h e = absurd cc
octets-read (a ∷ []) title h e = absurd cc
octets-read (a ∷ b ∷ []) title h e = absurd cc
octets-read (translation ∷ plan_and_scheme ∷ nature ∷ octets) title h e =
    let plan : plan_and_scheme / 16 < 2 ^ 4 = omega (arith, h 1) in
    let small : nature % 128 < 2 ^ 7 = omega arith in
    let fit = octets-dropped 3 (translation ∷ plan_and_scheme ∷ nature ∷ octets) h in
    scheme-either (plan_and_scheme % 16 == 1) (plan_and_scheme % 16 == 2) _ _ title e (record { plan = plan; nature = small; octets_fit = fit })
    (record { plan = plan; nature = small; octets_fit = fit })

-- ---- a title that is changed

record IsMade (key : TitleKey) (digits title : List ℕ) : Type 0 where
  pub some : 1 ≤ length digits
  pub text : title_octets key digits ≡ title

made : (none long : Bool) (key : TitleKey) (digits title : List ℕ) → nat_eq (length digits) 0 ≡ none
    → (if none then Err NoDigits else if long then Err TooLong else Ok (title_octets key digits)) ≡ Ok title → IsMade key digits title
made true long key digits title n e = absurd cc
made false true key digits title n e = absurd cc
made false false key digits title n e = record { some = omega (arith, eqb-false (length digits) 0 n); text = cc }

or-plan : (n : Option ℕ) (m most : ℕ) → IfSome n (λ p. p < most) → m < most → unwrap_or n m < most
or-plan None m most h k = k
or-plan (Some n) m most h k = h

changed-read : (change : ChangeEntry) (a b : AddressValue) (read : Result TitleValue Cause) → HasChangeRanges change → AreOctets a.title → b.title_indicator ≡ a.title_indicator
    → read_title a.title_indicator a.title ≡ read → changed_octets change read ≡ Ok b.title → IsChanged change a b
changed-read change a b (Err cause) ranges octets i r e = absurd cc
changed-read change a b (Ok came) ranges octets i r e =
    let digits = digits_in came.scheme came.digit_octets in
    let key = changed_key change came.key in
    let t = title-if (a.title_indicator == 4) (read_octets a.title) came r in
    let h = octets-read a.title came octets t.1 in
    let m = made (nat_eq (length (changed_digits change digits)) 0) (nat_lt 254 (length (title_octets key (changed_digits change digits)))) key (changed_digits change digits) b.title refl e in
    let back = title-back key (changed_digits change digits) (record {
      plan = or-plan change.plan came.key.plan (2 ^ 4) ranges.plan h.plan;
      nature = or-plan change.nature came.key.nature (2 ^ 7) ranges.nature h.nature;
      values = All-append (λ digit. digit < 2 ^ 4) change.added (drop change.removed digits) ranges.values (All-drop (λ digit. digit < 2 ^ 4) change.removed digits (small-digits came.scheme came.digit_octets h.octets_fit));
    }) in
    record {
      came = came;
      reads = r;
      goes = back.title;
      reads_back = ap (λ (n : ℕ). read_title n b.title) (i ∙ eqb-true a.title_indicator 4 t.0) ∙ ap (read_title 4) (sym m.text) ∙ back.reads;
      translation_type = ap (λ (k : TitleKey). k.translation) back.key_read;
      plan = ap (λ (k : TitleKey). k.plan) back.key_read;
      nature = ap (λ (k : TitleKey). k.nature) back.key_read;
      digits = back.digits_read;
      some = rw back.digits_read m.some;
      octets = rw (back.key_read, back.digits_read) (sym m.text);
    }

pub record HasTitle (change : ChangeEntry) (a b : AddressValue) : Type 0 where
  pub kept : change ≡ unchanged → SameTitle a b
  pub changed : change ≢ unchanged → IsChanged change a b

title-either : (same : Bool) (change : ChangeEntry) (a b : AddressValue) → HasChangeRanges change → AreOctets a.title → b.national ≡ a.national → b.title_indicator ≡ a.title_indicator
    → is_unchanged change ≡ same → (if same then Ok a.title else changed_octets change (read_title a.title_indicator a.title)) ≡ Ok b.title → HasTitle change a b
title-either true change a b ranges octets n i s e = record {
  kept = λ u. record { national = n; title_indicator = i; title = cc };
  changed = λ u. absurd (u (same-unchanged change s));
}
title-either false change a b ranges octets n i s e = record {
  kept = λ u. absurd (let yes : is_unchanged change ≡ true = ap is_unchanged u in cc);
  changed = λ u. changed-read change a b (read_title a.title_indicator a.title) ranges octets i refl e;
}

pub has-title : (change : ChangeEntry) (a b : AddressValue) → HasChangeRanges change → AreOctets a.title → b.national ≡ a.national → b.title_indicator ≡ a.title_indicator
    → title_after change a ≡ Ok b.title → HasTitle change a b
has-title change a b ranges octets n i e = title-either (is_unchanged change) change a b ranges octets n i refl e
