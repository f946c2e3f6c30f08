-- Reads one after another are one read of all the octets.
use Rattle.served_link.proofs.Basics.{◌≡◌, ℕ, ◌∙◌, List, [], ◌∷◌, ◌++◌, length, Ok, Err, refl, sym, ap, subst, append_assoc, append-nil, All-nil, All-head, All-append, concat-append, Result, IsErr, concat, Whole, Wait, IsStream, IsText, next_in, Stops as NoText, one_stream, text-next_in, QueueKind, State, Sight, SeesEach, after_texts, sights_of, Leaves, Reads, Broken}
use Rattle.m2pa_codec.specs.declared.framer.Next.TheVariants.{Broken as BreaksOff}
use Rattle.served_link.specs.ManyReads.{unbroken, ReadsEach, reads_are_one, last_reads_are_one, cuts_do_not_matter, broken_stays_broken}
use Rattle.served_link.proofs.Handing.{after_texts-append, sights-append, sees-append, broken-append}

-- more octets after a stream: its rest and these are a stream again
pub stream-append : (octets more : List ℕ) (ts us : List (List ℕ)) (r s : List ℕ) → IsStream octets ts r → IsStream (r ++ more) us s → IsStream (octets ++ more) (ts ++ us) s
stream-append octets more ts us r s a b = record {
  parts =
      ap (λ (xs : List ℕ). xs ++ more) a.parts ∙ append_assoc (concat ts) r more ∙ ap (λ (xs : List ℕ). concat ts ++ xs) b.parts ∙ sym (append_assoc (concat ts) (concat us) s)
      ∙ ap (λ (xs : List ℕ). xs ++ s) (sym (concat-append ts us));
  cut = All-append IsText ts us a.cut b.cut;
  end = b.end;
}

module _ {W Q : Type 0} (sees : W → Sight → W → Type 0) (q : QueueKind Q) (link : ℕ) where
  -- a read, and another after it
  read-both : {A : Type 0} (octets more : List ℕ) (answer : Result A Broken) (held next new : List ℕ) (s t u : State Q) (w x y : W) → Reads sees q link octets unbroken held next s t w x
      → Reads sees q link more answer next new t u x y → Reads sees q link (octets ++ more) answer held new s u w y
  read-both octets more answer held next new s t u w x y a b = record {
    texts = a.texts ++ b.texts;
    rest = b.rest;
    cut =
        subst (λ (xs : List ℕ). IsStream xs (a.texts ++ b.texts) b.rest) (append_assoc held octets more)
        (stream-append (held ++ octets) more a.texts b.texts a.rest b.rest a.cut (subst (λ (xs : List ℕ). IsStream (xs ++ more) b.texts b.rest) a.left.1 b.cut));
    handed_in = b.handed_in ∙ ap (λ (v : State Q). after_texts q link b.texts v) a.handed_in ∙ sym (after_texts-append q link a.texts b.texts s);
    seen =
        subst (λ (xs : List Sight). SeesEach sees xs w y)
        (ap (λ (v : State Q). sights_of q link a.texts s ++ sights_of q link b.texts v) a.handed_in ∙ sym (sights-append q link a.texts b.texts s))
        (sees-append sees (sights_of q link a.texts s) (sights_of q link b.texts t) w x y a.seen b.seen);
    left = b.left;
  }

  -- many reads, and then one more
  pub read-last : {A : Type 0} (pieces : List (List ℕ)) (last : List ℕ) (answer : Result A Broken) (held next new : List ℕ) (s t u : State Q) (w x y : W)
      → ReadsEach sees q link pieces held next s t w x → Reads sees q link last answer next new t u x y → Reads sees q link (concat pieces ++ last) answer held new s u w y
  read-last [] last answer held next new s t u w x y a b =
      let c = subst (λ (h : List ℕ). Reads sees q link last answer h new t u x y) a.0 b in
      let d = subst (λ (v : State Q). Reads sees q link last answer held new v u x y) a.1 c in
      subst (λ (z : W). Reads sees q link last answer held new s u z y) a.2 d
  read-last (piece ∷ pieces) last answer held next new s t u w x y a b =
      let c = read-last pieces last answer a.0 next new a.1 t u a.2 x y a.4 b in
      subst (λ (xs : List ℕ). Reads sees q link xs answer held new s u w y) (sym (append_assoc piece (concat pieces) last))
      (read-both piece (concat pieces ++ last) answer held a.0 new s a.1 u w a.2 y a.3 c)

  -- many reads
  pub read-each : (pieces : List (List ℕ)) (held new : List ℕ) (s t : State Q) (w x : W) → next_in held ≡ Wait → ReadsEach sees q link pieces held new s t w x
      → Reads sees q link (concat pieces) unbroken held new s t w x
  read-each [] held new s t w x waits a = record {
    texts = [];
    rest = held;
    cut = record { parts = append-nil held; cut = All-nil IsText; end = subst NoText (sym waits) tt };
    handed_in = a.1;
    seen = a.2;
    left = (waits, a.0);
  }
  read-each (piece ∷ pieces) held new s t w x waits a =
      let first = a.3 in
      let waits_still : next_in a.0 ≡ Wait = ap next_in first.left.1 ∙ first.left.0 in
      read-both piece (concat pieces) unbroken held a.0 new s a.1 t w a.2 x first (read-each pieces a.0 new a.1 t a.2 x waits_still a.4)

  -- two reads of the same octets
  pub same-read : (octets held other : List ℕ) (s t u : State Q) (w x y : W) → Reads sees q link octets unbroken [] held s t w x → Reads sees q link octets unbroken [] other s u w y
      → (t ≡ u) × (held ≡ other)
  same-read octets held other s t u w x y a b =
      let same = one_stream octets a.texts b.texts a.rest b.rest a.cut b.cut in (
        a.handed_in ∙ ap (λ (ts : List (List ℕ)). after_texts q link ts s) same.0 ∙ sym b.handed_in,
        a.left.1 ∙ same.1 ∙ sym b.left.1,
      )

  -- ---- a stream that is broken

  -- no text comes first
  no-texts : (octets : List ℕ) (texts : List (List ℕ)) (rest : List ℕ) → next_in octets ≡ BreaksOff → IsStream octets texts rest → texts ≡ []
  no-texts octets [] rest broken a = refl
  no-texts octets (text ∷ texts) rest broken a =
      let moved : octets ≡ text ++ (concat texts ++ rest) = a.parts ∙ append_assoc text (concat texts) rest in
      let whole : next_in octets ≡ Whole (length text) = ap next_in moved ∙ text-next_in text (concat texts ++ rest) (All-head IsText text texts a.cut) in
      let both : BreaksOff ≡ Whole (length text) = sym broken ∙ whole in
      absurd cc

  leaves-broken : {A : Type 0} (answer : Result A Broken) (rest new : List ℕ) → next_in rest ≡ BreaksOff → Leaves answer rest new → IsErr answer × (next_in new ≡ BreaksOff)
  leaves-broken (Ok done) rest new broken left =
      let both : Wait ≡ BreaksOff = sym left.0 ∙ broken in
      absurd cc
  leaves-broken (Err why) rest new broken left = (refl, left.1)

  pub read-broken : {A : Type 0} (octets held new : List ℕ) (answer : Result A Broken) (s t : State Q) (w x : W) → next_in held ≡ BreaksOff → Reads sees q link octets answer held new s t w x
      → IsErr answer × (next_in new ≡ BreaksOff) × (t ≡ s) × (x ≡ w)
  read-broken octets held new answer s t w x broken a =
      let still : next_in (held ++ octets) ≡ BreaksOff = broken-append held octets broken in
      let none : a.texts ≡ [] = no-texts (held ++ octets) a.texts a.rest still a.cut in
      let rest : held ++ octets ≡ a.rest = a.cut.parts ∙ ap (λ (ts : List (List ℕ)). concat ts ++ a.rest) none in
      let ends = leaves-broken answer a.rest new (ap next_in (sym rest) ∙ still) a.left in
      let state : t ≡ s = a.handed_in ∙ ap (λ (ts : List (List ℕ)). after_texts q link ts s) none in
      let seen : SeesEach sees [] w x = subst (λ (ts : List (List ℕ)). SeesEach sees (sights_of q link ts s) w x) none a.seen in
      (ends.0, ends.1, state, seen)

pub reads-one : {W Q : Type 0} (sees : W → Sight → W → Type 0) (q : QueueKind Q) → reads_are_one sees q
reads-one sees q = λ link pieces held s t w x a. read-each sees q link pieces [] held s t w x refl a

pub last-one : {W Q : Type 0} (sees : W → Sight → W → Type 0) (q : QueueKind Q) → last_reads_are_one sees q
last-one sees q = λ link pieces last answer held new s t u w x y a b. read-last sees q link pieces last answer [] held new s t u w x y a b

pub cuts-same : {W Q : Type 0} (sees : W → Sight → W → Type 0) (q : QueueKind Q) → cuts_do_not_matter sees q
cuts-same {W = W} {Q = Q} sees q = λ link pieces others held other s t u w x y same a b.
    same-read sees q link (concat others) held other s t u w x y
    (subst (λ (xs : List ℕ). Reads sees q link xs unbroken [] held s t w x) same (reads-one sees q link pieces held s t w x a)) (reads-one sees q link others other s u w y b)

pub broken-stays : {W Q : Type 0} (sees : W → Sight → W → Type 0) (q : QueueKind Q) → broken_stays_broken sees q
broken-stays sees q = λ link octets held new answer s t w x broken a. read-broken sees q link octets held new answer s t w x broken a
