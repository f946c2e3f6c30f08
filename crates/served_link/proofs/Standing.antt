-- What is read and taken is that of the abstract exchange.
use Rattle.served_link.proofs.Basics.{◌≡◌, ◌∙◌, ℕ, Bool, true, false, List, [], ◌∷◌, ◌++◌, Option, refl, sym, ap, subst, if◌then◌else◌, Result, option_map, Outcome, FrameValue, spelled, whole, FrameCame, after, outcome_of, taken, kept, Sight, CameIn, SeesEach, text_to_take, has_room, TakesEach, after_last, Fills, after_texts, sights_of, Reads, Broken}
use Rattle.exchange_rules.specs.First.{Abstract}
use Rattle.exchange.specs.Calls.{Kept, StandsFor}
use Rattle.exchange.proofs.Standing.{stands-after, stands-outcome, stands-frame, stands-taken}

stands-texts : (link : ℕ) (texts : List (List ℕ)) (k : Kept) (a : Abstract) → StandsFor k a → StandsFor (after_texts kept link texts k) (after_texts whole link texts a)
stands-texts link [] k a s = s
stands-texts link (text ∷ texts) k a s = stands-texts link texts (after kept (FrameCame link text) k) (after whole (FrameCame link text) a) (stands-after (FrameCame link text) k a s)

stands-sights : (link : ℕ) (texts : List (List ℕ)) (k : Kept) (a : Abstract) → StandsFor k a → sights_of kept link texts k ≡ sights_of whole link texts a
stands-sights link [] k a s = refl
stands-sights link (text ∷ texts) k a s =
    ap (λ (o : Outcome). CameIn link text o ∷ sights_of kept link texts (after kept (FrameCame link text) k)) (stands-outcome (FrameCame link text) k a s)
    ∙ ap (λ (xs : List Sight). CameIn link text (outcome_of whole (FrameCame link text) a) ∷ xs)
    (stands-sights link texts (after kept (FrameCame link text) k) (after whole (FrameCame link text) a) (stands-after (FrameCame link text) k a s))

pub record ReadsAbstract {W A : Type 0} (sees : W → Sight → W → Type 0) (link : ℕ) (octets : List ℕ) (answer : Result A Broken) (held held_new : List ℕ) (t : Kept) (a : Abstract) (w x : W)
    : Type 0 where
  pub after : Abstract
  pub stands : StandsFor t after
  pub reads : Reads sees whole link octets answer held held_new a after w x

pub reads-stands : {W A : Type 0} (sees : W → Sight → W → Type 0) (link : ℕ) (octets : List ℕ) (answer : Result A Broken) (held held_new : List ℕ) (k t : Kept) (a : Abstract) (w x : W)
    → StandsFor k a → Reads sees kept link octets answer held held_new k t w x → ReadsAbstract sees link octets answer held held_new t a w x
reads-stands sees link octets answer held held_new k t a w x s r = record {
  after = after_texts whole link r.texts a;
  stands = subst (λ (u : Kept). StandsFor u (after_texts whole link r.texts a)) (sym r.handed_in) (stands-texts link r.texts k a s);
  reads = record {
    texts = r.texts;
    rest = r.rest;
    cut = r.cut;
    handed_in = refl;
    seen = subst (λ (xs : List Sight). SeesEach sees xs w x) (stands-sights link r.texts k a s) r.seen;
    left = r.left;
  };
}

-- ---- frames that are taken

stands-text : (link : ℕ) (k : Kept) (a : Abstract) → StandsFor k a → text_to_take kept k link ≡ text_to_take whole a link
stands-text link k a s = ap (λ (f : Option FrameValue). option_map spelled f) (stands-frame link k a s)

either-stands : (b : Bool) (k t : Kept) (a c : Abstract) → StandsFor k a → StandsFor t c → StandsFor (if b then k else t) (if b then a else c)
either-stands true k t a c s r = s
either-stands false k t a c s r = r

record TakesAbstract (link : ℕ) (frames : List (List ℕ)) (pending next : List ℕ) (t : Kept) (a : Abstract) : Type 0 where
  after : Abstract
  stands : StandsFor t after
  each : TakesEach whole link frames pending next a after

takes-stands : (link : ℕ) (frames : List (List ℕ)) (pending next : List ℕ) (k t : Kept) (a : Abstract) → StandsFor k a → TakesEach kept link frames pending next k t
    → TakesAbstract link frames pending next t a
takes-stands link [] pending next k t a s h = record { after = a; stands = subst (λ (u : Kept). StandsFor u a) (sym h.1) s; each = (h.0, refl) }
takes-stands link (frame ∷ frames) pending next k t a s h =
    let r = takes-stands link frames (pending ++ frame) next (taken kept k link) t (taken whole a link) (stands-taken link k a s) h.2 in
    record { after = r.after; stands = r.stands; each = (h.0, sym (stands-text link k a s) ∙ h.1, r.each) }

pub record FillsAbstract {W : Type 0} (sees : W → Sight → W → Type 0) (link : ℕ) (pending next : List ℕ) (t : Kept) (a : Abstract) (w x : W) : Type 0 where
  pub after : Abstract
  pub stands : StandsFor t after
  pub fills : Fills sees whole link pending next a after w x

pub fills-stands : {W : Type 0} (sees : W → Sight → W → Type 0) (link : ℕ) (pending next : List ℕ) (k t : Kept) (a : Abstract) (w x : W) → StandsFor k a
    → Fills sees kept link pending next k t w x → FillsAbstract sees link pending next t a w x
fills-stands sees link pending next k t a w x s f =
    let r = takes-stands link f.takes.frames pending next k f.last a s f.takes.each in
    let c = r.after in
    record {
      after = after_last whole link next c;
      stands =
          subst (λ (u : Kept). StandsFor u (after_last whole link next c)) (sym f.state)
          (either-stands (has_room next) (taken kept f.last link) f.last (taken whole c link) c (stands-taken link f.last c r.stands) r.stands);
      fills = record {
        last = c;
        takes = record { frames = f.takes.frames; each = r.each; seen = f.takes.seen };
        all = λ room. sym (stands-text link f.last c r.stands) ∙ f.all room;
        state = refl;
      };
    }
