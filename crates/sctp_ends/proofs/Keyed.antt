-- What is drawn and signed under keys is good.
use Rattle.std.proofs.Common.{◌≡◌, ◌≢◌, ℕ, zero, suc, ◌+◌, ◌-◌, ◌^◌, ◌<◌, ◌≤◌, arith, Bool, true, false, List, [], ◌∷◌, Option, Some, None, inl, inr, refl, ap, sym, ◌∙◌, subst, length, length-append}
use Rattle.std.specs.Prelude.{◌&&◌, if◌then◌else◌, nat_lt}
use Rattle.std.specs.Str.{bytes_eq}
use Rattle.std.proofs.lemmas.Bool.{cases_lt, cases_eq, eq-eqb, ne_eqb, lt-ltb, le-ltb}
use Rattle.std.proofs.lemmas.Bool.Decides.{nat_tests}
use Rattle.sctp_cookie.specs.declared.cookie.Cookie.{Cookie}
use Rattle.sctp_cookie.specs.Hmac.{hmac}
use Rattle.sctp_cookie.specs.Cookies.{Fits, body_of, signed, cookie_in}
use Rattle.sctp_cookie.specs.Tags.{Drawing, permutation, numbers, next_given, after_one, is_passed, next_tag, after_draw}
use Rattle.sctp_cookie.proofs.CookieTexts.{length-hmac, cookie_in-signed}
use Rattle.sctp_cookie.proofs.Drawing.{permutation-permutes}
use Rattle.sctp_rules.specs.Settings.{Beginning}
use Rattle.sctp_ends.specs.Keyed.{drawing_after, beginning_of, does_fit, opened_under, keyed_secrets_are_good, keyed_secrets_fit}
use Rattle.sctp_rules.specs.WrittenPackets.{If, IsBeginning, HasTags}

some-is : {A : Type 0} (x y : A) → Some x ≡ Some y → x ≡ y
some-is x y e = cc

both-true : (x y : Bool) → (x && y) ≡ true → (x ≡ true) × (y ≡ true)
both-true true y e = (refl, e)
both-true false y e = absurd (cc)

-- ---- cookies

below : (n m : ℕ) → nat_lt n m ≡ true → n < m
below n m e = grind (arith, nat_tests, e)

fits : (c : Cookie) → does_fit c ≡ true → Fits c
fits c e =
    let a = both-true (nat_lt c.made (2 ^ 64)) _ e in
    let b = both-true (nat_lt c.generation (2 ^ 64)) _ a.1 in
    let d = both-true (nat_lt c.own_tag (2 ^ 32)) _ b.1 in
    let f = both-true (nat_lt c.peer_tag (2 ^ 32)) _ d.1 in
    let g = both-true (nat_lt c.own_first_tsn (2 ^ 32)) _ f.1 in
    let h = both-true (nat_lt c.peer_first_tsn (2 ^ 32)) _ g.1 in
    let i = both-true (nat_lt c.peer_window (2 ^ 32)) _ h.1 in
    let j = both-true (nat_lt c.peer_outgoing_streams (2 ^ 16)) _ i.1 in
    let k = both-true (nat_lt c.peer_incoming_streams (2 ^ 16)) _ j.1 in
    let l = both-true (nat_lt c.tie_own_tag (2 ^ 32)) _ k.1 in
    let m = both-true (nat_lt c.tie_peer_tag (2 ^ 32)) _ l.1 in
    let n = both-true (nat_lt c.life (2 ^ 32)) _ m.1 in
    record {
      made = below c.made (2 ^ 64) a.0;
      generation = below c.generation (2 ^ 64) b.0;
      own_tag = below c.own_tag (2 ^ 32) d.0;
      peer_tag = below c.peer_tag (2 ^ 32) f.0;
      own_first_tsn = below c.own_first_tsn (2 ^ 32) g.0;
      peer_first_tsn = below c.peer_first_tsn (2 ^ 32) h.0;
      peer_window = below c.peer_window (2 ^ 32) i.0;
      peer_outgoing_streams = below c.peer_outgoing_streams (2 ^ 16) j.0;
      peer_incoming_streams = below c.peer_incoming_streams (2 ^ 16) k.0;
      tie_own_tag = below c.tie_own_tag (2 ^ 32) l.0;
      tie_peer_tag = below c.tie_peer_tag (2 ^ 32) m.0;
      life = below c.life (2 ^ 32) n.0;
      peer_port = below c.peer_port (2 ^ 16) n.1;
    }

if-some : {A : Type 0} (b : Bool) (x y : A) → (if b then Some x else None) ≡ Some y → (b ≡ true) × (x ≡ y)
if-some true x y e = (refl, some-is x y e)
if-some false x y e = absurd (cc)

-- what opens is what the octets say, and fits
opened-is : (key octets : List ℕ) (c : Cookie) → opened_under key octets ≡ Some c → (does_fit c ≡ true) × (cookie_in octets ≡ c)
opened-is key [] c e = absurd (cc)
opened-is key (octet ∷ octets) c e =
    let d : Cookie = cookie_in (octet ∷ octets) in
    let parts = if-some (does_fit d && bytes_eq (octet ∷ octets) (signed key d)) d c e in
    (subst (λ (x : Cookie). does_fit x ≡ true) parts.1 (both-true (does_fit d) (bytes_eq (octet ∷ octets) (signed key d)) parts.0).0, parts.1)

signed-opens : (b : Bool) (key : List ℕ) (c opened : Cookie) → does_fit c ≡ b →
    opened_under key (if b then signed key c else []) ≡ Some opened → opened ≡ c
signed-opens true key c opened f e =
    sym (opened-is key (signed key c) opened e).1 ∙ cookie_in-signed (hmac key (body_of c)) c (length-hmac key (body_of c)) (fits c f)
signed-opens false key c opened f e = absurd (cc)

-- ---- tags

abbrev p-of : Drawing → ℕ → ℕ
p-of d = permutation d.key

one-key : (b : Bool) (d : Drawing) → (if b then record { key = d.key; used = d.used + 1 } else d).key ≡ d.key
one-key true d = refl
one-key false d = refl

one-used : (b : Bool) (d : Drawing) → d.used ≤ (if b then record { key = d.key; used = d.used + 1 } else d).used
one-used true d = omega arith
one-used false d = omega arith

draw-key : (b : Bool) (d : Drawing) → (if b then after_one (after_one d) else after_one d).key ≡ d.key
draw-key true d = one-key (nat_lt (after_one d).used numbers) (after_one d) ∙ one-key (nat_lt d.used numbers) d
draw-key false d = one-key (nat_lt d.used numbers) d

draw-used : (b : Bool) (d : Drawing) → d.used ≤ (if b then after_one (after_one d) else after_one d).used
draw-used true d =
    let first : d.used ≤ (after_one d).used = one-used (nat_lt d.used numbers) d in
    let second : (after_one d).used ≤ (after_one (after_one d)).used = one-used (nat_lt (after_one d).used numbers) (after_one d) in
    omega (arith, first, second)
draw-used false d = one-used (nat_lt d.used numbers) d

-- the number that a tag is the tag of
record IsTagOf (d : Drawing) (tag : ℕ) : Type 0 where
  number : ℕ
  is : permutation d.key number ≡ tag
  from : d.used ≤ number
  fits : number < numbers
  used : number < (after_draw d).used

tag-here : (d : Drawing) (tag : ℕ) → d.used < numbers → permutation d.key d.used ≢ 0 → next_tag d ≡ Some tag → IsTagOf d tag
tag-here d tag b other e =
    let gives : next_tag d ≡ Some (permutation d.key d.used) = rw (lt-ltb d.used numbers b, ne_eqb (permutation d.key d.used) 0 other) refl in
    let left : (after_draw d).used ≡ d.used + 1 = rw (lt-ltb d.used numbers b, ne_eqb (permutation d.key d.used) 0 other) refl in
    record {
      number = d.used;
      is = some-is (permutation d.key d.used) tag (sym gives ∙ e);
      from = omega arith;
      fits = b;
      used = omega (arith, left);
    }

tag-behind : (d : Drawing) (tag : ℕ) → d.used < numbers → permutation d.key d.used ≡ 0 → next_tag d ≡ Some tag → IsTagOf d tag
tag-behind d tag b void e =
    elim (cases_lt (d.used + 1) numbers) [
      | inl again ↦
          let gives : next_tag d ≡ Some (permutation d.key (d.used + 1)) =
          rw (lt-ltb d.used numbers b, eq-eqb (permutation d.key d.used) 0 void, lt-ltb (d.used + 1) numbers again) refl in
          let left : (after_draw d).used ≡ d.used + 1 + 1 =
          rw (lt-ltb d.used numbers b, eq-eqb (permutation d.key d.used) 0 void, lt-ltb (d.used + 1) numbers again) refl in
          record {
            number = d.used + 1;
            is = some-is (permutation d.key (d.used + 1)) tag (sym gives ∙ e);
            from = omega arith;
            fits = again;
            used = omega (arith, left);
          }
      | inr past ↦
          let none : next_tag d ≡ None =
          rw (lt-ltb d.used numbers b, eq-eqb (permutation d.key d.used) 0 void, le-ltb (d.used + 1) numbers past) refl in
          let gone : None ≡ Some tag = sym none ∙ e in
          absurd (cc)
    ]

tag-of : (d : Drawing) (tag : ℕ) → next_tag d ≡ Some tag → IsTagOf d tag
tag-of d tag e =
    elim (cases_lt d.used numbers) [
      | inl b ↦ elim (cases_eq (permutation d.key d.used) 0) [ inl void ↦ tag-behind d tag b void e | inr other ↦ tag-here d tag b other e ]
      | inr past ↦
          let none : next_tag d ≡ None = rw (le-ltb d.used numbers past) refl in
          let gone : None ≡ Some tag = sym none ∙ e in
          absurd (cc)
    ]

key-stays : (key : List ℕ) (n : ℕ) → (drawing_after key n).key ≡ key
unfolding drawing_after
key-stays key zero = refl
key-stays key (suc n) = draw-key (is_passed (next_given (drawing_after key n))) (drawing_after key n) ∙ key-stays key n

used-grows : (key : List ℕ) (n more : ℕ) → (drawing_after key n).used ≤ (drawing_after key (n + more)).used
unfolding drawing_after
used-grows key n zero = let z : n + 0 ≡ n = omega arith in subst (λ (k : ℕ). (drawing_after key n).used ≤ (drawing_after key k).used) (sym z) (omega arith)
used-grows key n (suc more) =
    let z : n + suc more ≡ suc (n + more) = omega arith in
    let before : (drawing_after key n).used ≤ (drawing_after key (n + more)).used = used-grows key n more in
    let step : (drawing_after key (n + more)).used ≤ (after_draw (drawing_after key (n + more))).used =
    draw-used (is_passed (next_given (drawing_after key (n + more)))) (drawing_after key (n + more)) in
    let all : (drawing_after key n).used ≤ (after_draw (drawing_after key (n + more))).used = omega (arith, before, step) in
    subst (λ (k : ℕ). (drawing_after key n).used ≤ (drawing_after key k).used) (sym z) all

after-suc : (key : List ℕ) (n : ℕ) → drawing_after key (n + 1) ≡ after_draw (drawing_after key n)
unfolding drawing_after
after-suc key n = let z : n + 1 ≡ suc n = omega arith in ap (drawing_after key) z

-- a later draw gives another tag
later-differs : (key : List ℕ) (i j tag : ℕ) → i < j → next_tag (drawing_after key i) ≡ Some tag → next_tag (drawing_after key j) ≡ Some tag → ⊥
later-differs key i j tag less e f =
    let a : IsTagOf (drawing_after key i) tag = tag-of (drawing_after key i) tag e in
    let b : IsTagOf (drawing_after key j) tag = tag-of (drawing_after key j) tag f in
    let left : (drawing_after key (i + 1)).used ≡ (after_draw (drawing_after key i)).used = ap (λ (d : Drawing). d.used) (after-suc key i) in
    let grows : (drawing_after key (i + 1)).used ≤ (drawing_after key (i + 1 + (j - (i + 1)))).used = used-grows key (i + 1) (j - (i + 1)) in
    let at : i + 1 + (j - (i + 1)) ≡ j = omega (arith, less) in
    let there : (drawing_after key (i + 1 + (j - (i + 1)))).used ≡ (drawing_after key j).used = ap (λ (k : ℕ). (drawing_after key k).used) at in
    let apart : a.number < b.number = omega (arith, a.used, left, grows, there, b.from) in
    let first : permutation key a.number ≡ tag = ap (λ (k : List ℕ). permutation k a.number) (sym (key-stays key i)) ∙ a.is in
    let second : permutation key b.number ≡ tag = ap (λ (k : List ℕ). permutation k b.number) (sym (key-stays key j)) ∙ b.is in
    let same : a.number ≡ b.number = (permutation-permutes key).apart a.number b.number a.fits b.fits (first ∙ sym second) in
    omega (arith, same, apart)

began : (o : Option ℕ) (b : Beginning) → beginning_of o ≡ Some b → (o ≡ Some b.tag) × (b.first ≡ b.tag)
began None b e = absurd (cc)
began (Some tag) b e =
    let is : record { tag = tag; first = tag } ≡ b = some-is (record { tag = tag; first = tag }) b e in
    (ap (λ (x : Beginning). Some x.tag) is, sym (ap (λ (x : Beginning). x.first) is) ∙ ap (λ (x : Beginning). x.tag) is)

fresh-so : (key : List ℕ) (i j : ℕ) (a b : Beginning) → beginning_of (next_tag (drawing_after key i)) ≡ Some a →
    beginning_of (next_tag (drawing_after key j)) ≡ Some b → a.tag ≡ b.tag → i ≡ j
fresh-so key i j a b e f same =
    let x : next_tag (drawing_after key i) ≡ Some a.tag = (began (next_tag (drawing_after key i)) a e).0 in
    let y : next_tag (drawing_after key j) ≡ Some a.tag = (began (next_tag (drawing_after key j)) b f).0 ∙ ap (λ (n : ℕ). Some n) (sym same) in
    elim (cases_lt i j) [
      | inl before ↦ absurd (later-differs key i j a.tag before x y)
      | inr after ↦ elim (cases_lt j i) [
        | inl behind ↦ absurd (later-differs key j i a.tag behind y x)
        | inr still ↦ omega (arith, after, still)
      ]
    ]

pub keyed-good : keyed_secrets_are_good
keyed-good tag_key cookie_key = record {
  fresh = fresh-so tag_key;
  opens = λ c opened e. signed-opens (does_fit c) cookie_key c opened refl e;
  beginnings_fit = λ i a e.
      let b = began (next_tag (drawing_after tag_key i)) a e in
      let t : IsTagOf (drawing_after tag_key i) a.tag = tag-of (drawing_after tag_key i) a.tag b.0 in
      let small : permutation (drawing_after tag_key i).key t.number < numbers = (permutation-permutes (drawing_after tag_key i).key).fits t.number t.fits in
      omega (arith, small, t.is, b.1);
  cookies_fit = λ octets opened e. (fits opened (opened-is cookie_key octets opened e).0).own_first_tsn;
}

-- ---- and it fits

tag-fits : (key : List ℕ) (n tag : ℕ) → next_tag (drawing_after key n) ≡ Some tag → tag < 2 ^ 32
tag-fits key n tag e =
    let t : IsTagOf (drawing_after key n) tag = tag-of (drawing_after key n) tag e in
    let small : permutation (drawing_after key n).key t.number < numbers = (permutation-permutes (drawing_after key n).key).fits t.number t.fits in
    omega (arith, small, t.is)

begins-fit : (o : Option ℕ) → ((tag : ℕ) → o ≡ Some tag → tag < 2 ^ 32) → If IsBeginning (beginning_of o)
begins-fit None h = tt
begins-fit (Some tag) h = record { tag = h tag refl; first = h tag refl }

opens-fit : (o : Option Cookie) → ((c : Cookie) → o ≡ Some c → Fits c) → If HasTags o
opens-fit None h = tt
opens-fit (Some c) h = let f = h c refl in record { own = f.own_tag; far = f.peer_tag; first = f.own_first_tsn }

signed-length : (b : Bool) (key : List ℕ) (c : Cookie) → length (if b then signed key c else []) ≤ 660
unfolding body_of
signed-length true key c = omega (arith, length-append (hmac key (body_of c)) (body_of c), length-hmac key (body_of c))
signed-length false key c = omega arith

pub keyed-fit : keyed_secrets_fit
keyed-fit tag_key cookie_key = record {
  beginnings = λ n. begins-fit (next_tag (drawing_after tag_key n)) (tag-fits tag_key n);
  cookies = λ octets. opens-fit (opened_under cookie_key octets) (λ c e. fits c (opened-is cookie_key octets c e).0);
  signed = λ c. signed-length (does_fit c) cookie_key c;
}
