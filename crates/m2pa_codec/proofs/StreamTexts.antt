-- What a stream begins with, and that its texts are the same however its octets came.
use Rattle.std.proofs.Common.{◌≡◌, ℕ, ◌≤◌, List, [], ◌∷◌, ◌++◌, length, take, drop, inl, inr, refl, sym, ap, subst, ◌∙◌, arith, append_assoc}
use Rattle.std.proofs.lemmas.List.{append-nil, take_at, length-append, length-take-le, get_or-take, get_or_append_left, take-append-drop, append_cancel_left}
use Rattle.std.proofs.lemmas.List.Elements.{All-nil, All-head, All-tail, All-push}
use Rattle.std.proofs.lemmas.List.Folds.{concat-append}
use Rattle.std.proofs.lemmas.Bool.Decides.{nat_tests}
use Rattle.std.specs.Prelude.{All}
use Rattle.std.specs.List.{concat}
use Rattle.signalling_types.specs.declared.limits.TheConstants.Limits.{FRAME_OCTETS}
use Rattle.m2pa_codec.specs.declared.framer.Next.{Next}
use Rattle.m2pa_codec.specs.declared.framer.Next.TheVariants.{Whole, Wait, Broken}
use Rattle.m2pa_codec.specs.Frames.{length_field}
use Rattle.m2pa_codec.specs.Streams.{IsText, next_in, Stops, IsStream, given_by, left_by, taken_of, Call, Feed, Ask, Passage, after_call, after_calls, passed, GetsThrough, ComesToTheSame}

-- ---- a length field is read from the first eight octets

pub length_field-take : (n : ℕ) (octets : List ℕ) → 8 ≤ n → length_field (take n octets) ≡ length_field octets
length_field-take n octets h =
    let o4 = get_or-take n octets 4 0 (omega arith) in
    let o5 = get_or-take n octets 5 0 (omega arith) in
    let o6 = get_or-take n octets 6 0 (omega arith) in
    let o7 = get_or-take n octets 7 0 (omega arith) in
    rw (o4, o5, o6, o7)

pub length_field-append : (octets more : List ℕ) → 8 ≤ length octets → length_field (octets ++ more) ≡ length_field octets
length_field-append octets more h =
    let o4 = get_or_append_left octets more 0 4 (omega arith) in
    let o5 = get_or_append_left octets more 0 5 (omega arith) in
    let o6 = get_or_append_left octets more 0 6 (omega arith) in
    let o7 = get_or_append_left octets more 0 7 (omega arith) in
    rw (o4, o5, o6, o7)

-- ---- what a stream begins with

pub record IsWholeIn (octets : List ℕ) (count : ℕ) : Type 0 where
  pub announced : length_field octets ≡ count
  pub header : 8 ≤ count
  pub limit : count ≤ FRAME_OCTETS
  pub there : count ≤ length octets

pub next_in-whole : (octets : List ℕ) (count : ℕ) → next_in octets ≡ Whole count → IsWholeIn octets count
next_in-whole octets count e = record {
  announced = grind (arith, nat_tests, e);
  header = grind (arith, nat_tests, e);
  limit = grind (arith, nat_tests, e);
  there = grind (arith, nat_tests, e);
}

pub whole-next_in : (octets : List ℕ) (count : ℕ) → IsWholeIn octets count → next_in octets ≡ Whole count
whole-next_in octets count w =
    let a = w.announced in
    let h = w.header in
    let l = w.limit in
    let t = w.there in
    grind (arith, nat_tests, a, h, l, t)

pub is_text : (octets : List ℕ) (count : ℕ) → IsWholeIn octets count → IsText (take count octets)
is_text octets count w =
    let len : length (take count octets) ≡ count = length-take-le count octets w.there in
    record {
      header = rw len w.header;
      limit = rw len w.limit;
      announced = length_field-take count octets w.header ∙ w.announced ∙ sym len;
    }

-- a text with more after it is whole
pub text-next_in : (text more : List ℕ) → IsText text → next_in (text ++ more) ≡ Whole (length text)
text-next_in text more t = whole-next_in (text ++ more) (length text) (record {
  announced = length_field-append text more t.header ∙ t.announced;
  header = t.header;
  limit = t.limit;
  there = omega (arith, length-append text more);
})

-- a text that was copied before a buffer, and let go of
pub gives_first : (octets old kept given behind : List ℕ) (count : ℕ) → octets ≡ old → next_in octets ≡ Whole count → given ≡ take count octets → kept ≡ drop count octets
    → IsText (take count (given ++ behind)) × (old ≡ take count (given ++ behind) ++ kept)
gives_first octets old kept given behind count same e copied left =
    let w = next_in-whole octets count e in
    let len : length given ≡ count = ap length copied ∙ length-take-le count octets w.there in
    let text : take count (given ++ behind) ≡ take count octets = take_at given behind count len ∙ copied in
    rw (text, left, ← same) (is_text octets count w, sym (take-append-drop count octets))

-- ---- a stream has one list of texts

-- two texts before the same octets are one
same_text : (t u x y : List ℕ) → IsText t → IsText u → t ++ x ≡ u ++ y → t ≡ u
same_text t u x y a b e =
    let len : length t ≡ length u = sym a.announced ∙ sym (length_field-append t x a.header) ∙ ap length_field e ∙ length_field-append u y b.header ∙ b.announced in
    sym (take_at t x (length u) len) ∙ ap (take (length u)) e ∙ take_at u y (length u) refl

-- octets that begin with a text don't stop
no_stop : (text more rest : List ℕ) → IsText text → text ++ more ≡ rest → Stops (next_in rest) → ⊥
no_stop text more rest t e stops =
    let whole : next_in rest ≡ Whole (length text) = ap next_in (sym e) ∙ text-next_in text more t in
    subst Stops whole stops

pub one_list : (ts us : List (List ℕ)) (r s : List ℕ) → All IsText ts → All IsText us → concat ts ++ r ≡ concat us ++ s → Stops (next_in r) → Stops (next_in s)
    → (ts ≡ us) × (r ≡ s)
one_list [] [] r s a b e p q = (refl, e)
one_list [] (u ∷ us) r s a b e p q =
    absurd (no_stop u (concat us ++ s) r (All-head IsText u us b) (sym (append_assoc u (concat us) s) ∙ sym e) p)
one_list (t ∷ ts) [] r s a b e p q =
    absurd (no_stop t (concat ts ++ r) s (All-head IsText t ts a) (sym (append_assoc t (concat ts) r) ∙ e) q)
one_list (t ∷ ts) (u ∷ us) r s a b e p q =
    let moved : t ++ (concat ts ++ r) ≡ u ++ (concat us ++ s) = sym (append_assoc t (concat ts) r) ∙ e ∙ append_assoc u (concat us) s in
    let first : t ≡ u = same_text t u _ _ (All-head IsText t ts a) (All-head IsText u us b) moved in
    let others : concat ts ++ r ≡ concat us ++ s = append_cancel_left u _ _ (ap (λ (x : List ℕ). x ++ (concat ts ++ r)) (sym first) ∙ moved) in
    let rest = one_list ts us r s (All-tail IsText t ts a) (All-tail IsText u us b) others p q in
    (λ i. first i ∷ rest.0 i, rest.1)

pub one_stream : (octets : List ℕ) (ts us : List (List ℕ)) (r s : List ℕ) → IsStream octets ts r → IsStream octets us s → (ts ≡ us) × (r ≡ s)
one_stream octets ts us r s a b = one_list ts us r s a.cut b.cut (sym a.parts ∙ b.parts) a.end b.end

-- ---- calls on a framer

-- what was taken is what was given and what is held, and what was given are texts
record IsCut (p : Passage) : Type 0 where
  parts : p.taken ≡ concat p.given ++ p.held
  cut : All IsText p.given

-- an answer gives a text or nothing, from the front of what is held
answer-cut : (p : Passage) (next : Next) → next_in p.held ≡ next → IsCut p
    → IsCut (record { taken = p.taken; given = p.given ++ given_by next p.held; held = left_by next p.held })
answer-cut p (Whole count) e h = record {
  parts =
      let text = take count p.held in
      let behind = drop count p.held in
      let joined : concat (p.given ++ text ∷ []) ≡ concat p.given ++ text = concat-append p.given (text ∷ []) ∙ ap (λ (x : List ℕ). concat p.given ++ x) (append-nil text) in
      h.parts ∙ ap (λ (x : List ℕ). concat p.given ++ x) (sym (take-append-drop count p.held)) ∙ sym (append_assoc (concat p.given) text behind)
      ∙ ap (λ (x : List ℕ). x ++ behind) (sym joined);
  cut = All-push IsText p.given (take count p.held) h.cut (is_text p.held count (next_in-whole p.held count e));
}
answer-cut p Wait e h = record {
  parts = h.parts ∙ ap (λ (x : List (List ℕ)). concat x ++ p.held) (sym (append-nil p.given));
  cut = subst (All IsText) (sym (append-nil p.given)) h.cut;
}
answer-cut p Broken e h = record {
  parts = h.parts ∙ ap (λ (x : List (List ℕ)). concat x ++ p.held) (sym (append-nil p.given));
  cut = subst (All IsText) (sym (append-nil p.given)) h.cut;
}

after_call-cut : (call : Call) (p : Passage) → IsCut p → IsCut (after_call call p)
after_call-cut (Feed piece) p h = record {
  parts = ap (λ (x : List ℕ). x ++ taken_of p.held piece) h.parts ∙ append_assoc (concat p.given) p.held (taken_of p.held piece);
  cut = h.cut;
}
after_call-cut Ask p h = answer-cut p (next_in p.held) refl h

after_calls-cut : (calls : List Call) (p : Passage) → IsCut p → IsCut (after_calls calls p)
after_calls-cut [] p h = h
after_calls-cut (call ∷ calls) p h = after_calls-cut calls (after_call call p) (after_call-cut call p h)

passed-cut : (calls : List Call) → IsCut (passed calls)
passed-cut calls = after_calls-cut calls (record { taken = []; given = []; held = [] }) (record { parts = refl; cut = All-nil IsText })

-- a broken stream stays broken, whatever follows
broken-append : (octets more : List ℕ) → next_in octets ≡ Broken → next_in (octets ++ more) ≡ Broken
broken-append octets more e =
    let long : 8 ≤ length octets = grind (arith, nat_tests, e) in
    let len = length-append octets more in
    let same = length_field-append octets more long in
    grind (arith, nat_tests, e, len, same)

-- what is held and what wasn't taken begin as what is held does
through-next_in : (octets : List ℕ) (p : Passage) (g : GetsThrough octets p) → next_in (p.held ++ g.left) ≡ next_in p.held
through-next_in octets p g =
    elim g.all [
      | inl none ↦ ap (λ (x : List ℕ). next_in (p.held ++ x)) none ∙ ap next_in (append-nil p.held)
      | inr broken ↦ broken-append p.held g.left broken ∙ sym broken
    ]

pub calls-stream : (octets : List ℕ) (calls : List Call) (g : GetsThrough octets (passed calls)) → IsStream octets (passed calls).given ((passed calls).held ++ g.left)
calls-stream octets calls g =
    let p = passed calls in
    let h = passed-cut calls in
    record {
      parts = g.parts ∙ ap (λ (x : List ℕ). x ++ g.left) h.parts ∙ append_assoc (concat p.given) p.held g.left;
      cut = h.cut;
      end = subst Stops (sym (through-next_in octets p g)) g.asked;
    }

pub cuts-same : (octets : List ℕ) (calls others : List Call) → GetsThrough octets (passed calls) → GetsThrough octets (passed others) → ComesToTheSame (passed calls) (passed others)
cuts-same octets calls others g k =
    let same = one_stream octets _ _ _ _ (calls-stream octets calls g) (calls-stream octets others k) in
    record {
      given = same.0;
      answer = sym (through-next_in octets (passed calls) g) ∙ ap next_in same.1 ∙ through-next_in octets (passed others) k;
    }
