-- Texts that are handed in, some first and then more.
use Rattle.served_link.proofs.Basics.{◌≡◌, ℕ, ◌<◌, ◌≤◌, ◌-◌, ◌∙◌, Bool, false, List, [], ◌∷◌, ◌++◌, length, take, drop, if◌then◌else◌, Err, refl, sym, ap, subst, arith, append_assoc, append-nil, length-append, length-take, length-drop, take_all, drop_at, take-append-drop, All-nil, All-push, All-append, concat-append, nat_tests, concat, FRAME_OCTETS, IsText, next_in, is_broken, room_for, taken_of, Stops as NoText, Wait, length_field-append, QueueKind, State, FrameCame, outcome_of, after, Sight, CameIn, SeesEach, after_texts, sights_of, Reads, Feeds, HandsIn, Broken}
use Rattle.m2pa_codec.specs.declared.framer.Next.TheVariants.{Broken as BreaksOff}

-- ---- some texts, and then others

pub after_texts-append : {Q : Type 0} (q : QueueKind Q) (link : ℕ) (ts us : List (List ℕ)) (s : State Q) → after_texts q link (ts ++ us) s ≡ after_texts q link us (after_texts q link ts s)
after_texts-append q link [] us s = refl
after_texts-append q link (t ∷ ts) us s = after_texts-append q link ts us (after q (FrameCame link t) s)

pub sights-append : {Q : Type 0} (q : QueueKind Q) (link : ℕ) (ts us : List (List ℕ)) (s : State Q)
    → sights_of q link (ts ++ us) s ≡ sights_of q link ts s ++ sights_of q link us (after_texts q link ts s)
sights-append q link [] us s = refl
sights-append q link (t ∷ ts) us s =
    ap (λ (xs : List Sight). CameIn link t (outcome_of q (FrameCame link t) s) ∷ xs) (sights-append q link ts us (after q (FrameCame link t) s))

pub sees-append : {W : Type 0} (sees : W → Sight → W → Type 0) (xs ys : List Sight) (u v w : W) → SeesEach sees xs u v → SeesEach sees ys v w → SeesEach sees (xs ++ ys) u w
sees-append {W = W} sees [] ys u v w a b = subst (λ (x : W). SeesEach sees ys x w) a b
sees-append sees (x ∷ xs) ys u v w a b = (a.0, a.1, sees-append sees xs ys a.0 v w a.2 b)

-- ---- what is handed in

module _ {W Q : Type 0} (sees : W → Sight → W → Type 0) (q : QueueKind Q) (link : ℕ) where
  pub hands-one : (octets text held : List ℕ) (s t : State Q) (w x : W) → octets ≡ text ++ held → IsText text → t ≡ after q (FrameCame link text) s
      → sees w (CameIn link text (outcome_of q (FrameCame link text) s)) x → HandsIn sees q link octets held s t w x
  hands-one octets text held s t w x parts whole state seen = record {
    texts = text ∷ [];
    parts = parts ∙ ap (λ (ys : List ℕ). ys ++ held) (sym (append-nil text));
    whole = All-push IsText [] text (All-nil IsText) whole;
    handed_in = state;
    seen = (x, seen, refl);
  }

  pub hands-more : (octets held left : List ℕ) (s t u : State Q) (w x y : W) → HandsIn sees q link octets held s t w x → HandsIn sees q link held left t u x y
      → HandsIn sees q link octets left s u w y
  hands-more octets held left s t u w x y a b = record {
    texts = a.texts ++ b.texts;
    parts =
        a.parts ∙ ap (λ (ys : List ℕ). concat a.texts ++ ys) b.parts ∙ sym (append_assoc (concat a.texts) (concat b.texts) left)
        ∙ ap (λ (ys : List ℕ). ys ++ left) (sym (concat-append a.texts b.texts));
    whole = All-append IsText a.texts b.texts a.whole b.whole;
    handed_in = b.handed_in ∙ ap (λ (v : State Q). after_texts q link b.texts v) a.handed_in ∙ sym (after_texts-append q link a.texts b.texts s);
    seen =
        subst (λ (xs : List Sight). SeesEach sees xs w y)
        (ap (λ (v : State Q). sights_of q link a.texts s ++ sights_of q link b.texts v) a.handed_in ∙ sym (sights-append q link a.texts b.texts s))
        (sees-append sees (sights_of q link a.texts s) (sights_of q link b.texts t) w x y a.seen b.seen);
  }

  -- the same where more octets follow
  pub hands-before : (octets held behind : List ℕ) (s t : State Q) (w x : W) → HandsIn sees q link octets held s t w x
      → HandsIn sees q link (octets ++ behind) (held ++ behind) s t w x
  hands-before octets held behind s t w x a = record {
    texts = a.texts;
    parts = ap (λ (ys : List ℕ). ys ++ behind) a.parts ∙ append_assoc (concat a.texts) held behind;
    whole = a.whole;
    handed_in = a.handed_in;
    seen = a.seen;
  }

-- ---- octets that are read, a few at a time

-- of these octets some were read after those that were held, and a rest is left
pub record HasRead {W Q : Type 0} (sees : W → Sight → W → Type 0) (q : QueueKind Q) (link : ℕ) (octets rest held held_now : List ℕ) (s s_now : State Q) (w w_now : W) : Type 0 where
  pub read : List ℕ
  pub parts : octets ≡ read ++ rest
  pub handed_in : HandsIn sees q link (held ++ read) held_now s s_now w w_now

-- a broken stream stays broken, whatever follows
pub broken-append : (octets behind : List ℕ) → next_in octets ≡ BreaksOff → next_in (octets ++ behind) ≡ BreaksOff
broken-append octets behind e =
    let long : 8 ≤ length octets = grind (arith, nat_tests, e) in
    let len = length-append octets behind in
    let same = length_field-append octets behind long in
    grind (arith, nat_tests, e, len, same)

not-broken : (held : List ℕ) → next_in held ≡ Wait → is_broken held ≡ false
not-broken held e = grind (arith, nat_tests, e)

-- a framer that waits for more takes some
pub feeds : (held octets left new : List ℕ) (count : ℕ) → next_in held ≡ Wait → length held < FRAME_OCTETS → 0 < length octets → count ≡ length (taken_of held octets)
    → new ≡ held ++ taken_of held octets → left ≡ take (length octets - count) (drop count octets) → Feeds octets left held new
feeds held octets left new count waits room some counted more rest =
    let n : ℕ = room_for held in
    let n_is : n ≡ FRAME_OCTETS - length held = ap (λ (b : Bool). if b then 0 else FRAME_OCTETS - length held) (not-broken held waits) in
    let front : List ℕ = take n octets in
    let behind : List ℕ = drop n octets in
    let all : front ++ behind ≡ octets = take-append-drop n octets in
    let dropped : drop count octets ≡ behind = ap (drop count) (sym all) ∙ drop_at front behind count (sym counted) in
    let is : left ≡ behind = rest ∙ take_all (length octets - count) (drop count octets) (omega (arith, length-drop count octets)) ∙ dropped in
    record {
      piece = front;
      parts = sym all ∙ ap (λ (ys : List ℕ). front ++ ys) (sym is);
      some = omega (arith, length-take n octets, n_is, room, some);
      held = more;
    }

module _ {W Q : Type 0} (sees : W → Sight → W → Type 0) (q : QueueKind Q) (link : ℕ) where
  pub read-nothing : (octets held left : List ℕ) (s t : State Q) (w x : W) → HandsIn sees q link held left s t w x → HasRead sees q link octets octets held left s t w x
  read-nothing octets held left s t w x a = record {
    read = [];
    parts = refl;
    handed_in = subst (λ (ys : List ℕ). HandsIn sees q link ys left s t w x) (sym (append-nil held)) a;
  }

  pub read-more : (octets rest behind held now fed left : List ℕ) (s t u : State Q) (w x y : W) → Feeds rest behind now fed → HasRead sees q link octets rest held now s t w x
      → HandsIn sees q link fed left t u x y → HasRead sees q link octets behind held left s u w y
  read-more octets rest behind held now fed left s t u w x y f h a = record {
    read = h.read ++ f.piece;
    parts = h.parts ∙ ap (λ (ys : List ℕ). h.read ++ ys) f.parts ∙ sym (append_assoc h.read f.piece behind);
    handed_in =
        subst (λ (ys : List ℕ). HandsIn sees q link ys left s u w y) (append_assoc held h.read f.piece)
        (hands-more sees q link _ (now ++ f.piece) left s t u w x y (hands-before sees q link (held ++ h.read) now f.piece s t w x h.handed_in)
        (subst (λ (ys : List ℕ). HandsIn sees q link ys left t u x y) f.held a));
  }

  -- what was read, with the rest after it
  behind-parts : (octets rest held now : List ℕ) (s t : State Q) (w x : W) (h : HasRead sees q link octets rest held now s t w x) → held ++ octets ≡ concat h.handed_in.texts ++ (now ++ rest)
  behind-parts octets rest held now s t w x h =
      ap (λ (ys : List ℕ). held ++ ys) h.parts ∙ sym (append_assoc held h.read rest) ∙ ap (λ (ys : List ℕ). ys ++ rest) h.handed_in.parts
      ∙ append_assoc (concat h.handed_in.texts) now rest

  pub read-broken : {A : Type 0} (why : Broken) (octets rest held now : List ℕ) (s t : State Q) (w x : W) → HasRead sees q link octets rest held now s t w x → next_in now ≡ BreaksOff
      → Reads {A = A} sees q link octets (Err why) held now s t w x
  read-broken why octets rest held now s t w x h broken =
      let whole : next_in (now ++ rest) ≡ BreaksOff = broken-append now rest broken in
      record {
        texts = h.handed_in.texts;
        rest = now ++ rest;
        cut = record { parts = behind-parts octets rest held now s t w x h; cut = h.handed_in.whole; end = subst NoText (sym whole) tt };
        handed_in = h.handed_in.handed_in;
        seen = h.handed_in.seen;
        left = (whole, broken, rest, refl);
      }
