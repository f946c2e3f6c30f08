-- Octets begin with optional parameters exactly if reading them gives these.
use Rattle.std.proofs.Common.{◌≡◌, ◌≢◌, inl, inr, ℕ, zero, suc, ◌+◌, ◌-◌, ◌<◌, ◌≤◌, Bool, true, false, List, [], ◌∷◌, ◌++◌, length, take, drop, Option, Some, None, refl, sym, ap, ◌∙◌, append_assoc, arith}
use Rattle.std.proofs.lemmas.Bool.{cases_eq, eq-eqb, ne_eqb}
use Rattle.std.proofs.lemmas.Bool.Decides.{nat_tests}
use Rattle.std.proofs.lemmas.List.{get_or-drop, take_all, drop_all, length-drop, length-append, take_at, drop_at, drop-drop, take-append-drop, length-take-le}
use Rattle.std.specs.List.{list_all}
use Rattle.std.specs.Prelude.{slice_index, if◌then◌else◌, ◌==◌, ◌&&◌, not, nat_le, unwrap_or}
use Rattle.sccp_codec.specs.Extended.{ParameterValue, BeginWith, AreParameters, parameters_in, is_parameter, has_its_length, parameter_octets, parameters_octets, first_parameter, after_first, begins_whole, with_first, read_up_to, read_parameters, read_optional}
use Rattle.sccp_codec.specs.Messages.{length_place}
use Rattle.sccp_codec.specs.Optional.{extent}

either : {A : Type 0} (test : Bool) (x y z : A) → (test ≡ true → x ≡ y) → (if test then x else z) ≡ (if test then y else z)
either true x y z same = same refl
either false x y z same = refl

first-true : (a b : Bool) → (a && b) ≡ true → a ≡ true
first-true true b e = refl
first-true false b e = absurd cc

second-true : (a b : Bool) → (a && b) ≡ true → b ≡ true
second-true true b e = e
second-true false b e = absurd cc

named : (name : ℕ) → not (name == 0) ≡ true → name ≢ 0
named name e none = let test = eq-eqb name 0 none in absurd cc

-- ---- a step of reading

shorter : (octets : List ℕ) (most : ℕ) → begins_whole octets ≡ true → length octets ≤ suc most → length (after_first octets) ≤ most
shorter octets most whole fits =
    let long : 2 + slice_index octets 1 ≤ length octets = grind (arith, nat_tests, whole) in
    omega (arith, length-drop (2 + slice_index octets 1) octets, long, fits)

enough : (m n : ℕ) (octets : List ℕ) → length octets ≤ m → length octets ≤ n → read_up_to m octets ≡ read_up_to n octets
unfolding read_up_to
enough zero zero [] a b = refl
enough zero (suc n) [] a b = refl
enough (suc m) zero [] a b = refl
enough (suc m) (suc n) [] a b = refl
enough zero n (octet ∷ octets) a b = absurd (omega (arith, a))
enough (suc m) zero (octet ∷ octets) a b = absurd (omega (arith, b))
enough (suc m) (suc n) (octet ∷ octets) a b =
    let text = octet ∷ octets in
    ap (λ (others : Option (List ParameterValue)). if octet == 0 then Some [] else others)
    (either (begins_whole text) (with_first (first_parameter text) (read_up_to m (after_first text))) (with_first (first_parameter text) (read_up_to n (after_first text))) None
    (λ whole. ap (with_first (first_parameter text)) (enough m n (after_first text) (shorter text m whole a) (shorter text n whole b))))

pub read-nil : read_parameters [] ≡ None
unfolding read_up_to
read-nil = refl

pub read-end : (octets : List ℕ) → read_parameters (0 ∷ octets) ≡ Some []
unfolding read_up_to
read-end octets = refl

pub read-whole : (name : ℕ) (octets : List ℕ) → name ≢ 0 → begins_whole (name ∷ octets) ≡ true
    → read_parameters (name ∷ octets) ≡ with_first (first_parameter (name ∷ octets)) (read_parameters (after_first (name ∷ octets)))
unfolding read_up_to
read-whole name octets other whole =
    let text = name ∷ octets in
    let less = shorter text (length octets) whole (omega arith) in
    rw (ne_eqb name 0 other, whole) (ap (with_first (first_parameter text)) (enough (length octets) (length (after_first text)) (after_first text) less (omega arith)))

pub read-broken : (name : ℕ) (octets : List ℕ) → name ≢ 0 → begins_whole (name ∷ octets) ≡ false → read_parameters (name ∷ octets) ≡ None
unfolding read_up_to
read-broken name octets other broken = rw (ne_eqb name 0 other, broken) refl

-- ---- parameters are read back

-- a parameter with something after it
record BeginsWith (text : List ℕ) (p : ParameterValue) (rest : List ℕ) : Type 0 where
  pub whole : begins_whole text ≡ true
  pub first : first_parameter text ≡ p
  pub behind : after_first text ≡ rest

begins : (p : ParameterValue) (more rest : List ℕ) → is_parameter p ≡ true → BeginsWith ((parameter_octets p ++ more) ++ rest) p (more ++ rest)
begins p more rest h =
    let same : (p.octets ++ more) ++ rest ≡ p.octets ++ (more ++ rest) = append_assoc p.octets more rest in
    let legal : has_its_length p.name (length p.octets) ≡ true = second-true (not (p.name == 0)) _ h in
    let total = length-append p.octets (more ++ rest) in
    let value : take (length p.octets) (p.octets ++ (more ++ rest)) ≡ p.octets = take_at p.octets (more ++ rest) (length p.octets) refl in
    record {
      whole = rw (same, legal) (grind (arith, nat_tests, total));
      first = rw (same, value) refl;
      behind = rw same (drop_at (p.name ∷ length p.octets ∷ p.octets) (more ++ rest) (2 + length p.octets) (omega arith));
    }

pub read-back : (ps : List ParameterValue) (rest : List ℕ) → list_all is_parameter ps ≡ true → read_parameters (parameters_octets ps ++ 0 ∷ rest) ≡ Some ps
read-back [] rest h = read-end rest
read-back (p ∷ ps) rest h =
    let here : is_parameter p ≡ true = first-true (is_parameter p) _ h in
    let others = read-back ps rest (second-true (is_parameter p) _ h) in
    let b = begins p (parameters_octets ps) (0 ∷ rest) here in
    let text = (parameter_octets p ++ parameters_octets ps) ++ 0 ∷ rest in
    read-whole p.name (length p.octets ∷ (p.octets ++ parameters_octets ps) ++ 0 ∷ rest) (named p.name (first-true (not (p.name == 0)) _ here)) b.whole
    ∙ ap (λ (first : ParameterValue). with_first first (read_parameters (after_first text))) b.first
    ∙ ap (λ (octets : List ℕ). with_first p (read_parameters octets)) b.behind ∙ ap (with_first p) others

-- ---- what is read is there

record More (p : ParameterValue) (o : Option (List ParameterValue)) (ps : List ParameterValue) : Type 0 where
  pub others : List ParameterValue
  pub read : o ≡ Some others
  pub same : ps ≡ p ∷ others

more-of : (p : ParameterValue) (o : Option (List ParameterValue)) (ps : List ParameterValue) → with_first p o ≡ Some ps → More p o ps
more-of p None ps e = absurd cc
more-of p (Some others) ps e = record { others = others; read = refl; same = cc }

-- a parameter that is there whole, with what follows
whole-says : (name count : ℕ) (octets : List ℕ) (ps : List ParameterValue) (rest : List ℕ) → count ≤ length octets → drop count octets ≡ parameters_octets ps ++ 0 ∷ rest
    → name ∷ count ∷ octets ≡ parameters_octets (record { name = name; octets = take count octets } ∷ ps) ++ 0 ∷ rest
whole-says name count octets ps rest long e =
    let n : length (take count octets) ≡ count = length-take-le count octets long in
    let parts : octets ≡ (take count octets ++ parameters_octets ps) ++ 0 ∷ rest =
    sym (take-append-drop count octets) ∙ ap (λ (behind : List ℕ). take count octets ++ behind) e ∙ sym (append_assoc (take count octets) (parameters_octets ps) (0 ∷ rest)) in
    ap (λ (behind : List ℕ). name ∷ count ∷ behind) parts ∙ ap (λ (k : ℕ). name ∷ k ∷ (take count octets ++ parameters_octets ps) ++ 0 ∷ rest) (sym n)

begin-whole : (name : ℕ) (octets : List ℕ) (ps : List ParameterValue) → name ≢ 0 → begins_whole (name ∷ octets) ≡ true → BeginWith (after_first (name ∷ octets)) ps
    → BeginWith (name ∷ octets) (first_parameter (name ∷ octets) ∷ ps)
begin-whole name [] ps other whole b = absurd (grind (arith, nat_tests, whole))
begin-whole name (count ∷ octets) ps other whole b =
    let long : count ≤ length octets = grind (arith, nat_tests, whole) in
    let legal : has_its_length name count ≡ true = second-true (nat_le (2 + count) (length (name ∷ count ∷ octets))) _ whole in
    let n : length (take count octets) ≡ count = length-take-le count octets long in
    record {
      rest = b.rest;
      says = whole-says name count octets ps b.rest long (drop-drop count 2 (name ∷ count ∷ octets) ∙ b.says);
      legal = rw (ne_eqb name 0 other, n, legal) b.legal;
    }

begin-end : (name : ℕ) (octets : List ℕ) (ps : List ParameterValue) → name ≡ 0 → Some [] ≡ Some ps → BeginWith (name ∷ octets) ps
begin-end name octets [] end e = record { rest = octets; says = ap (λ (n : ℕ). n ∷ octets) end; legal = refl }
begin-end name octets (p ∷ ps) end e = absurd cc

begin-next : (most name : ℕ) (octets : List ℕ) (ps : List ParameterValue) → name ≢ 0 → (whole : Bool) → begins_whole (name ∷ octets) ≡ whole
    → ((qs : List ParameterValue) → read_up_to most (after_first (name ∷ octets)) ≡ Some qs → BeginWith (after_first (name ∷ octets)) qs)
    → (if whole then with_first (first_parameter (name ∷ octets)) (read_up_to most (after_first (name ∷ octets))) else None) ≡ Some ps → BeginWith (name ∷ octets) ps
begin-next most name octets ps other false whole next e = absurd cc
begin-next most name octets ps other true whole next e =
    let m = more-of (first_parameter (name ∷ octets)) (read_up_to most (after_first (name ∷ octets))) ps e in
    rw m.same (begin-whole name octets m.others other whole (next m.others m.read))

pub begin-read : (most : ℕ) (octets : List ℕ) (ps : List ParameterValue) → read_up_to most octets ≡ Some ps → BeginWith octets ps
unfolding read_up_to
begin-read zero [] ps e = absurd cc
begin-read (suc most) [] ps e = absurd cc
begin-read zero (name ∷ octets) ps e = absurd cc
begin-read (suc most) (name ∷ octets) ps e =
    elim (cases_eq name 0) [
      | inl end ↦ begin-end name octets ps end (sym (rw (eq-eqb name 0 end) refl) ∙ e)
      | inr other ↦ begin-next most name octets ps other (begins_whole (name ∷ octets)) refl (begin-read most (after_first (name ∷ octets))) (sym (rw (ne_eqb name 0 other) refl) ∙ e)
    ]

-- octets that are legal parameters, as the code keeps them
pub are_parameters : (octets : List ℕ) (ps : List ParameterValue) → octets ≡ parameters_octets ps → list_all is_parameter ps ≡ true → AreParameters octets × (parameters_in octets ≡ ps)
are_parameters octets ps e legal =
    let same : parameters_in octets ≡ ps = rw e (ap (λ (o : Option (List ParameterValue)). unwrap_or o []) (read-back ps [] legal)) in
    (record { says = rw same e; legal = rw same legal }, same)

total : (n end : ℕ) → Some (0 + n) ≡ Some end → end ≡ n
total n end e = let same : 0 + n ≡ end = cc in omega (arith, same)

some-extent : (o : Option (List ParameterValue)) (end : ℕ) → extent 0 o ≡ Some end → (o ≡ Some (unwrap_or o [])) × (end ≡ length (parameters_octets (unwrap_or o [])))
some-extent None end e = absurd cc
some-extent (Some ps) end e = (refl, total (length (parameters_octets ps)) end e)

-- what comes before the end of the parameters is these
pub found : (octets : List ℕ) (end : ℕ) → extent 0 (read_parameters octets) ≡ Some end
    → AreParameters (take end octets) × (read_parameters octets ≡ Some (parameters_in (take end octets))) × (end ≤ length octets)
found octets end e =
    let s = some-extent (read_parameters octets) end e in
    let ps = unwrap_or (read_parameters octets) [] in
    let b = begin-read (length octets) octets ps s.0 in
    let here : take end octets ≡ parameters_octets ps = ap (take end) b.says ∙ (take_at (parameters_octets ps) (0 ∷ b.rest) end (sym s.1)) in
    let are = are_parameters (take end octets) ps here b.legal in
    let long : length octets ≡ length (parameters_octets ps) + suc (length b.rest) = ap length b.says ∙ length-append (parameters_octets ps) (0 ∷ b.rest) in
    (are.0, s.0 ∙ ap Some (sym are.1), omega (arith, long, s.1))

none-extent : (o : Option (List ParameterValue)) → extent 0 o ≡ None → o ≡ None
none-extent None e = refl
none-extent (Some ps) e = absurd cc

pub not-found : (octets : List ℕ) → extent 0 (read_parameters octets) ≡ None → read_parameters octets ≡ None
not-found octets e = none-extent (read_parameters octets) e

-- ---- a step of the code

at-first : (at count : ℕ) (p : ParameterValue) (o : Option (List ParameterValue)) → length p.octets ≡ count → extent at (with_first p o) ≡ extent (at + (2 + count)) o
at-first at count p None n = refl
at-first at count p (Some ps) n = ap Some (omega (arith, n, length-append p.octets (parameters_octets ps)))

whole-count : (name : ℕ) (octets : List ℕ) → begins_whole (name ∷ octets) ≡ true → length (first_parameter (name ∷ octets)).octets ≡ slice_index (name ∷ octets) 1
whole-count name [] whole = absurd (grind (arith, nat_tests, whole))
whole-count name (count ∷ octets) whole = length-take-le count octets (grind (arith, nat_tests, whole))

past-first : (at : ℕ) (text : List ℕ) → 0 < length text → slice_index text 0 ≢ 0 → begins_whole text ≡ true
    → extent at (read_parameters text) ≡ extent (at + (2 + slice_index text 1)) (read_parameters (after_first text))
past-first at [] some other whole = absurd (omega (arith, some))
past-first at (name ∷ octets) some other whole =
    ap (extent at) (read-whole name octets other whole)
    ∙ at-first at (slice_index (name ∷ octets) 1) (first_parameter (name ∷ octets)) (read_parameters (after_first (name ∷ octets))) (whole-count name octets whole)

pub step : (octets : List ℕ) (at : ℕ) → at < length octets → slice_index octets at ≢ 0 → begins_whole (drop at octets) ≡ true
    → extent (at + (2 + slice_index octets (at + 1))) (read_parameters (drop (at + (2 + slice_index octets (at + 1))) octets)) ≡ extent at (read_parameters (drop at octets))
step octets at some other whole =
    let text = drop at octets in
    let zero-place : slice_index text 0 ≡ slice_index octets at = get_or-drop at octets 0 0 ∙ ap (slice_index octets) (omega arith) in
    let one-place : slice_index text 1 ≡ slice_index octets (at + 1) = get_or-drop at octets 1 0 in
    let past = past-first at text (omega (arith, some, length-drop at octets)) (λ e. other (sym zero-place ∙ e)) whole in
    let count = slice_index octets (at + 1) in
    sym (past ∙ ap (λ (n : ℕ). extent (at + (2 + n)) (read_parameters (drop (2 + n) text))) one-place ∙ ap (λ (rest : List ℕ). extent (at + (2 + count)) (read_parameters rest)) (drop-drop (2 + count) at octets))

at-end : (at : ℕ) (text : List ℕ) → 0 < length text → slice_index text 0 ≡ 0 → extent at (read_parameters text) ≡ Some at
at-end at [] some end = absurd (omega (arith, some))
at-end at (name ∷ octets) some end = ap (λ (n : ℕ). extent at (read_parameters (n ∷ octets))) end ∙ ap (extent at) (read-end octets) ∙ ap Some (omega arith)

pub ends : (octets : List ℕ) (at : ℕ) → at < length octets → slice_index octets at ≡ 0 → extent at (read_parameters (drop at octets)) ≡ Some at
ends octets at some end =
    at-end at (drop at octets) (omega (arith, some, length-drop at octets)) (get_or-drop at octets 0 0 ∙ ap (slice_index octets) (omega arith) ∙ end)

at-broken : (at : ℕ) (text : List ℕ) → 0 < length text → slice_index text 0 ≢ 0 → begins_whole text ≡ false → extent at (read_parameters text) ≡ None
at-broken at [] some other broken = absurd (omega (arith, some))
at-broken at (name ∷ octets) some other broken = ap (extent at) (read-broken name octets other broken)

pub breaks : (octets : List ℕ) (at : ℕ) → at < length octets → slice_index octets at ≢ 0 → begins_whole (drop at octets) ≡ false → extent at (read_parameters (drop at octets)) ≡ None
breaks octets at some other broken =
    at-broken at (drop at octets) (omega (arith, some, length-drop at octets)) (λ e. other (sym (get_or-drop at octets 0 0 ∙ ap (slice_index octets) (omega arith)) ∙ e)) broken

pub goes-out : (octets : List ℕ) (at : ℕ) → length octets ≤ at → extent at (read_parameters (drop at octets)) ≡ None
goes-out octets at past = ap (λ (rest : List ℕ). extent at (read_parameters rest)) (drop_all at octets past) ∙ ap (extent at) read-nil

-- a slice to the end
pub begins-rest : (octets : List ℕ) (at : ℕ) → begins_whole (take (length octets - at) (drop at octets)) ≡ begins_whole (drop at octets)
begins-rest octets at = ap begins_whole (take_all (length octets - at) (drop at octets) (omega (arith, length-drop at octets)))

pub none-named : (text : List ℕ) (pointer : ℕ) → slice_index text pointer ≢ 0 → length text ≤ length_place text pointer → read_optional text pointer ≡ None
none-named text pointer other past =
    rw (ne_eqb (slice_index text pointer) 0 other) (ap read_parameters (drop_all (length_place text pointer) text past) ∙ read-nil)

-- no octets are no parameters
pub none-octets : (octets : List ℕ) (ps : List ParameterValue) → octets ≡ parameters_octets ps → (length octets == 0) ≡ (length ps == 0)
none-octets octets [] e = ap (λ (octets : List ℕ). length octets == 0) e
none-octets octets (p ∷ ps) e =
    let some : length octets ≡ suc (suc (length (p.octets ++ parameters_octets ps))) = ap length e in
    ne_eqb (length octets) 0 (λ none. omega (arith, some, none)) ∙ sym (ne_eqb (length (p ∷ ps)) 0 (λ none. omega (arith, none)))
