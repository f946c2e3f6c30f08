-- The four laws of the links between two nodes of a network, from those of neighbours.
use Rattle.pair_rules.proofs.Basics.{◌≡◌, ◌⊎◌, inl, inr, ◌&&◌, ◌||◌, ℕ, Bool, true, false, not, List, [], ◌∷◌, length, nat_eq, Option, Some, None, refl, ap, sym, subst, ◌∙◌, if◌then◌else◌, Contains, slice_get, eq-eqb}
use Rattle.pair_rules.proofs.Definitions.{Message, Configuration, LinkEntry, PairState, LostNothing, first_pair, turned, in_flight, may_follow, may_open_at, new_message, read_frame, link_with_code, is_down_at, is_incomplete_at, messages_in, Word}
use Rattle.std.specs.List.{cons_option}
use Rattle.std.proofs.lemmas.Option.{slice_get_read, slice_get_within}
use Rattle.exchange_rules.specs.Laws.{carried_message}
use Rattle.exchange_rules.specs.Routing.{adjacent_of}
use Rattle.exchange_rules.proofs.CarriedMessages.{new-carried}
use Rattle.pair_rules.specs.Promises.{BothWays}
use Rattle.pair_rules.specs.Sharing.{AreSharing}
use Rattle.pair_rules.proofs.Good.{Each, each-get}
use Rattle.neighbour_rules.specs.Neighbours as neighbours
use Rattle.neighbour_rules.specs.Neighbours.{end_there, far_end, leads_elsewhere, leads_elsewhere_by}
use Rattle.neighbour_rules.specs.Laws as neighbours_keep
use Rattle.neighbour_rules.specs.Laws.{AreFinal, FramesCarry, IsCarried, IsFinal, IsInFlight, IsUnderWay, MovesLacked, NoneIsLeft, NoneIsLeftOf, OpenedAlone, is_in_use, word_there}
use Rattle.neighbour_rules.proofs.FourLaws.{frames-carry, moves-lacked, none-left, words-final}
use Rattle.network_rules.specs.Networks.{first_network}
use Rattle.network_rules.specs.Outside.{Move, after_moves}
use Rattle.network_rules.specs.Pairs.{ArePairsAlike, AreTheirPoints, AreWellOrAlone, pair_of}
use Rattle.network_rules.specs.Links.{IsCarriedBetween, frames_carry, moves_are_lacked, none_is_left, words_are_final}
use Rattle.network_rules.proofs.Always.{CarryHarmless, harmless-runs}
use Rattle.network_rules.proofs.Places.{named-leads}
use Rattle.network_rules.proofs.Promised.{holds-of, its, run, written}
use Rattle.network_rules.proofs.Texts.{IsHarmless}

-- ---- a link between the two leads elsewhere at neither end

module _ (near far : Configuration) (other : ℕ) where
  here-by : (b : Bool) (o : Option ℕ) → (if b then o else None) ≡ Some other → not b ≡ false
  here-by true o e = refl
  here-by false o e = absurd cc

  leads-there : (o : Option LinkEntry) → end_there near far o ≡ Some other → leads_elsewhere_by near far o ≡ false
  leads-there None e = refl
  leads-there (Some l) e = here-by (nat_eq (adjacent_of near l.set) far.own) (link_with_code far near.own l.slc) e

  found-by : (b : Bool) (o : Option ℕ) → (if b then o else None) ≡ Some other → o ≡ Some other
  found-by true o e = e
  found-by false o e = absurd cc

  leads-back : (o : Option LinkEntry) → end_there near far o ≡ Some other → leads_elsewhere_by far near (slice_get far.links other) ≡ false
  leads-back None e = absurd cc
  leads-back (Some l) e =
      named-leads far near near.own l.slc other (found-by (nat_eq (adjacent_of near l.set) far.own) (link_with_code far near.own l.slc) e)
      ∙ ap not (eq-eqb near.own near.own refl)

-- ---- no frame that comes by other links says a word of one of the two for the other

each-message : (fine : Message → Bool) (texts : List (List ℕ)) → Each (IsHarmless fine) texts → Each (λ (m : Message). fine m ≡ true) (messages_in texts)
each-message fine [] h = tt
each-message fine (text ∷ texts) h = by (carried_message (read_frame text)) h.0.carried (each-message fine texts h.1)
  where
    by : (o : Option Message) → ((m : Message) → o ≡ Some m → fine m ≡ true) → Each (λ (m : Message). fine m ≡ true) (messages_in texts)
        → Each (λ (m : Message). fine m ≡ true) (cons_option o (messages_in texts))
    by None g rest = rest
    by (Some m) g rest = (g m refl, rest)

contained-fine : (fine : Message → Bool) (texts : List (List ℕ)) (m : Message) → Each (IsHarmless fine) texts → Contains (messages_in texts) m → fine m ≡ true
contained-fine fine texts m h k =
    each-get (λ (n : Message). fine n ≡ true) (messages_in texts) k.0 m (each-message fine texts h)
    (slice_get_read (messages_in texts) (length (messages_in texts)) k.0 m refl k.1 (sym k.2))

contained-first : (texts : List (List ℕ)) (text : List ℕ) (m : Message) → slice_get texts 0 ≡ Some text → carried_message (read_frame text) ≡ Some m → Contains (messages_in texts) m
contained-first [] text m e f = absurd cc
contained-first (one ∷ texts) text m e f =
    let same : one ≡ text = cc in
    subst (λ (o : Option Message). Contains (cons_option o (messages_in texts)) m) (sym (ap (λ (t : List ℕ). carried_message (read_frame t)) same ∙ f))
    (0, slice_get_within (m ∷ messages_in texts) 0 m refl, refl)

no-word : (a b : Bool) (read : Option Word) (word : Word) → (not a && not b) ≡ true → (if a then read else None) ≡ Some word → ⊥
no-word true b read word e says = cc
no-word false b read word e says = cc

no-word-back : (a b : Bool) (read : Option Word) (word : Word) → (not a && not b) ≡ true → (if b then read else None) ≡ Some word → ⊥
no-word-back a true read word e says = both a e
  where
    both : (x : Bool) → (not x && false) ≡ true → ⊥
    both true f = cc
    both false f = cc
no-word-back a false read word e says = cc

abbrev SaysNoWord : PairState → Type 0
SaysNoWord p =
    (link : ℕ) (m : Message) (word : Word) → leads_elsewhere (turned p) link ≡ true → Contains (messages_in (in_flight p.far.incoming.user_data link)) m →
    word_there p m ≡ Some word → ⊥

no-word-there : (p : PairState) → CarryHarmless p → SaysNoWord p
no-word-there p h link m word e k says = no-word _ _ _ word (contained-fine _ (in_flight p.far.incoming.user_data link) m (h.far link e) k) says

no-word-here : (p : PairState) → CarryHarmless p → SaysNoWord (turned p)
no-word-here p h link m word e k says = no-word-back _ _ _ word (contained-fine _ (in_flight p.near.incoming.user_data link) m (h.near link e) k) says

-- ---- what either of two says, that either of those that are alike says

alike-turned : (p q : PairState) → ArePairsAlike p q → ArePairsAlike (turned p) (turned q)
alike-turned p q h = record { near_alike = h.far_alike; far_alike = h.near_alike }

module _ (p q : PairState) (h : ArePairsAlike p q) where
  under-way : (word : Word) → IsUnderWay p word → IsUnderWay (written p q) word
  under-way word u = record { message = u.message; stands = u.stands; says = u.says }

  in-flight : SaysNoWord p → (word : Word) → IsInFlight p word → IsInFlight (written p q) word
  in-flight there word f = by (leads_elsewhere (turned p) f.link) refl
    where
      by : (b : Bool) → leads_elsewhere (turned p) f.link ≡ b → IsInFlight (written p q) word
      by true e = absurd (there f.link f.message word e f.carried f.says)
      by false e = record {
        link = f.link;
        up = f.up;
        message = f.message;
        carried = subst (λ (texts : List (List ℕ)). Contains (messages_in texts) f.message) (sym (h.far_alike.incoming.user_data f.link e)) f.carried;
        says = f.says;
      }

  said : SaysNoWord p → (word : Word) → IsUnderWay p word ⊎ IsInFlight p word → IsUnderWay (written p q) word ⊎ IsInFlight (written p q) word
  said there word (inl u) = inl (under-way word u)
  said there word (inr f) = inr (in-flight there word f)

-- ---- what holds of two neighbours that are alike

module _ (p q : PairState) (h : ArePairsAlike p q) (there : SaysNoWord p) (back : SaysNoWord (turned p)) where
  abbrev v : PairState
  v = written p q

  abbrev c : Configuration
  c = p.near.exchange.settings

  abbrev z : Configuration
  z = p.far.exchange.settings

  near-known : (link other : ℕ) → far_end p link ≡ Some other → leads_elsewhere p link ≡ false
  near-known link other e = leads-there c z other (slice_get c.links link) e

  far-known : (link other : ℕ) → far_end p link ≡ Some other → leads_elsewhere (turned p) other ≡ false
  far-known link other e = leads-back c z other (slice_get c.links link) e

  abbrev in_use_by : (link other : ℕ) → (near_may far_may : Bool) → Bool
  in_use_by link other near_may far_may =
      not (near_may || far_may) && (not (is_down_at p.near link) || is_incomplete_at p.near link || not (is_down_at p.far other))

  used : (link other : ℕ) → far_end p link ≡ Some other → is_in_use p link other ≡ true → is_in_use v link other ≡ true
  used link other e u =
      ap (λ (b : Bool). in_use_by link other b (may_follow v.far other)) (h.near_alike.following link (near-known link other e))
      ∙ ap (λ (b : Bool). in_use_by link other (may_follow p.near link) b) (h.far_alike.following other (far-known link other e)) ∙ u

  to-far : (other : ℕ) → leads_elsewhere (turned p) other ≡ false → in_flight p.far.incoming.user_data other ≡ in_flight v.far.incoming.user_data other
  to-far other d = sym (h.far_alike.incoming.user_data other d)

  frames-of : IsCarried v → (link other : ℕ) → far_end p link ≡ Some other → is_in_use p link other ≡ true → FramesCarry p link other
  frames-of k link other e u =
      let f : FramesCarry v link other = k.frames link other e (used link other e u) in
      record { confirmed = f.confirmed; received = f.received; carried = λ d. ap messages_in (to-far other (far-known link other e)) ∙ f.carried d }

  opening-of : IsCarried v → (link other : ℕ) → far_end p link ≡ Some other → may_follow p.far other ≡ true → OpenedAlone p link other
  opening-of k link other e m =
      let near_known : leads_elsewhere p link ≡ false = near-known link other e in
      let far_known : leads_elsewhere (turned p) other ≡ false = far-known link other e in
      let f : OpenedAlone v link other = k.opening link other e (h.far_alike.following other far_known ∙ m) in
      record {
        alone = sym (h.near_alike.following link near_known) ∙ f.alone;
        far_may = f.far_may;
        unserved = f.unserved;
        queue = f.queue;
        silent = sym (h.near_alike.incoming.user_data link near_known) ∙ f.silent;
        untold = sym (h.near_alike.incoming.statuses link near_known) ∙ f.untold;
        empty = ap messages_in (to-far other far_known) ∙ f.empty;
      }

  carried-of : IsCarried v → IsCarriedBetween p
  carried-of k = record {
    statuses = λ other d. ap messages_in (sym (h.far_alike.incoming.statuses other d)) ∙ k.statuses other;
    frames = frames-of k;
    opening = opening-of k;
    next = λ link other e text message f g.
        k.next link other e text message (ap (λ (texts : List (List ℕ)). slice_get texts 0) (sym (to-far other (far-known link other e))) ∙ f) g;
  }

  -- ---- words

  final-of : AreFinal v → AreFinal p
  final-of k word u =
      let f : IsFinal v word = k word (under-way p q h word u) in
      record { link = f.link; its = f.its; down = f.down; number = f.number }

  may-open : (link other : ℕ) → far_end p link ≡ Some other → (may_open_at p.far other ≡ true) ⊎ (may_follow p.near link ≡ true)
      → (may_open_at v.far other ≡ true) ⊎ (may_follow v.near link ≡ true)
  may-open link other e (inl m) = inl m
  may-open link other e (inr m) = inr (h.near_alike.following link (near-known link other e) ∙ m)

  none-of : NoneIsLeft v → NoneIsLeft p
  none-of k link other e wants m =
      let n : NoneIsLeftOf v link other = k link other e wants (may-open link other e m) in
      record {
        there = λ word s. n.there word (said p q h there word s);
        back = λ word s. n.back word (said (turned p) (turned q) (alike-turned p q h) back word s);
      }

  brought-of : MovesLacked v → (link : ℕ) (text : List ℕ) (message : Message) (word : Word) → slice_get (in_flight p.near.incoming.user_data link) 0 ≡ Some text
      → new_message link text p.near.exchange ≡ Some message → word_there (turned p) message ≡ Some word → IsUnderWay (turned p) word
  brought-of k link text message word f g says = by (leads_elsewhere p link) refl
    where
      by : (b : Bool) → leads_elsewhere p link ≡ b → IsUnderWay (turned p) word
      by true e =
          absurd
          (back link message word e
          (contained-first (in_flight p.near.incoming.user_data link) text message f (new-carried link text p.near.exchange message g)) says)
      by false e =
          let u : IsUnderWay (turned v) word = k.brought link text message word (ap (λ (texts : List (List ℕ)). slice_get texts 0) (h.near_alike.incoming.user_data link e) ∙ f) g says in
          record { message = u.message; stands = u.stands; says = u.says }

  lacked-of : MovesLacked v → MovesLacked p
  lacked-of k = record {
    named = λ link other e u. k.named link other e (used link other e u);
    brought = brought-of k;
    moved = λ word u other e i. k.moved word (under-way (turned p) (turned q) (alike-turned p q h) word u) other e (used word.link other e i);
  }

-- ---- always

module _ (settings : (point : ℕ) → Configuration) (moves : List Move) (near far : ℕ) (points : AreTheirPoints settings) (well : AreWellOrAlone settings)
    (sharing : AreSharing (settings near) (settings far)) where
  abbrev p : PairState
  p = pair_of (after_moves moves (first_network settings)) near far

  abbrev q : PairState
  q = neighbours.after_steps (run settings moves near far points well sharing).steps (first_pair p.near.exchange.settings p.far.exchange.settings)

  abbrev alike : ArePairsAlike p q
  alike = (run settings moves near far points well sharing).is_alike

  carries : CarryHarmless p
  carries = harmless-runs settings moves near far points well sharing

  both-ways : (From To : PairState → Type 0) → neighbours_keep.WhileNothingIsLost From
      → ((r s : PairState) → ArePairsAlike r s → SaysNoWord r → SaysNoWord (turned r) → From (written r s) → To r)
      → LostNothing p → BothWays To p
  both-ways From To law step lost =
      let both : BothWays From (its settings moves near far points well sharing) =
      holds-of settings moves near far points well sharing (λ (r : PairState). LostNothing r → BothWays From r) law (record { near = lost.near; far = lost.far }) in
      record {
        there = step p q alike (no-word-there p carries) (no-word-here p carries) both.there;
        back = step (turned p) (turned q) (alike-turned p q alike) (no-word-here p carries) (no-word-there p carries) both.back;
      }

pub carry : frames_carry
carry settings moves near far points well sharing = both-ways settings moves near far points well sharing IsCarried IsCarriedBetween frames-carry carried-of

pub none-stays : none_is_left
none-stays settings moves near far points well sharing = both-ways settings moves near far points well sharing NoneIsLeft NoneIsLeft none-left none-of

pub final : words_are_final
final settings moves near far points well sharing = both-ways settings moves near far points well sharing AreFinal AreFinal words-final final-of

pub lacked : moves_are_lacked
lacked settings moves near far points well sharing = both-ways settings moves near far points well sharing MovesLacked MovesLacked moves-lacked lacked-of
