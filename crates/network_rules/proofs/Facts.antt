-- What the laws of neighbours say of the queues at the two ends of a link of a network.
use Rattle.pair_rules.proofs.Basics.{◌≡◌, ◌⊎◌, inl, inr, ◌<◌, ◌≤◌, ◌&&◌, ◌||◌, ℕ, Bool, true, false, not, List, [], ◌∷◌, length, nat_eq, Option, Some, None, refl, ap, sym, ◌∙◌, if◌then◌else◌, slice_get, cons_option, ⊎_elim}
use Rattle.pair_rules.proofs.Definitions.{Message, Configuration, LinkEntry, Queue, named_count, last_accepted, PairState, in_flight, may_follow, turned, is_down_at, is_incomplete_at, queue_of, new_message, Word, down, changeover_of, may_restart, link_at, queue_at, link_with_code}
use Rattle.exchange_rules.specs.First.{Abstract}
use Rattle.exchange_rules.specs.Routing.{adjacent_of}
use Rattle.exchange_rules.specs.LastingLinks.{AreLinksSteady, IsSteady, is_l7_running}
use Rattle.exchange_rules.proofs.Settling.{left-true, right-true}
use Rattle.pair_rules.specs.Promises.{BothWays}
use Rattle.pair_rules.specs.Sharing.{AreSharing}
use Rattle.pair_rules.specs.Laws.{messages_in}
use Rattle.exchange_rules.specs.Laws.{carried_message}
use Rattle.m2pa_codec.specs.Frames.{read_frame}
use Rattle.neighbour_rules.specs.Neighbours.{end_there, leads_elsewhere_by}
use Rattle.neighbour_rules.specs.Laws.{AreFinal, FramesCarry, IsCarried, IsFinal, IsUnderWay, MovesLacked, is_in_use, word_there}
use Rattle.neighbour_rules.proofs.FarEnds.{AreEnds, ends-turned, is-line, its-far}
use Rattle.neighbour_rules.proofs.Sharing.{AreFacing, are-facing, far_joint, near_joint}
use Rattle.network_rules.specs.Pairs.{ArePairsAlike, HearsNothingElsewhere}
use Rattle.network_rules.proofs.Texts.{same-some}
use Rattle.network_rules.proofs.PartingEvents.{complete, not-serving}
use Rattle.network_rules.proofs.Promised.{written}

-- ---- tests

not-down : (state : Bool) → state ≡ true → not state ≡ false
not-down state e = ap not e

-- a link isn't in use where an end follows, or where both are down and the near one has completed its changeover
data NotUsed (near far down incomplete far_down : Bool) : Type 0 where
  near_follows : near ≡ true → NotUsed near far down incomplete far_down
  far_follows : far ≡ true → NotUsed near far down incomplete far_down
  closed : down ≡ true → incomplete ≡ false → NotUsed near far down incomplete far_down

unused : (near far down incomplete far_down : Bool) → (not (near || far) && (not down || incomplete || not far_down)) ≡ false → NotUsed near far down incomplete far_down
unused true far down incomplete far_down e = near_follows refl
unused false true down incomplete far_down e = far_follows refl
unused false false false incomplete far_down e = absurd cc
unused false false true true far_down e = absurd cc
unused false false true false far_down e = closed refl refl

-- an end without a far end is none between the two
pub not-elsewhere : (near far : Configuration) (entry : Option LinkEntry) (other : ℕ) → end_there near far entry ≡ Some other → leads_elsewhere_by near far entry ≡ false
not-elsewhere near far None other e = refl
not-elsewhere near far (Some l) other e = by (nat_eq (adjacent_of near l.set) far.own) e
  where
    by : (b : Bool) → (if b then link_with_code far near.own l.slc else None) ≡ Some other → not b ≡ false
    by true e = refl
    by false e = absurd cc

-- ---- a link that is down, and whose changeover is complete

closed-empty : (window : ℕ) (a : Abstract) (link : ℕ) → AreLinksSteady window a.node → down a.node.parts link ≡ true → (changeover_of a.node.parts link).incomplete ≡ false
    → (queue_at a.node.queues link).all ≡ []
closed-empty window a link h e g =
    let steady : IsSteady window (link_at a.node.parts link) (changeover_of a.node.parts link) (queue_at a.node.queues link) (is_l7_running a.node link) = h.each link in
    steady.moved (not-serving (link_at a.node.parts link).alignment e) g

pub may-empty : (window : ℕ) (a : Abstract) (link : ℕ) → AreLinksSteady window a.node → (down a.node.parts link && may_restart (changeover_of a.node.parts link)) ≡ true
    → (queue_at a.node.queues link).all ≡ []
may-empty window a link h e =
    closed-empty window a link h (left-true (down a.node.parts link) (may_restart (changeover_of a.node.parts link)) e)
    (complete (changeover_of a.node.parts link) (right-true (down a.node.parts link) (may_restart (changeover_of a.node.parts link)) e))

-- ---- what frames carry

some-carries : (t text : List ℕ) (rest : List (List ℕ)) (m : Message) → t ≡ text → carried_message (read_frame text) ≡ Some m → messages_in (t ∷ rest) ≡ [] → ⊥
some-carries t text rest m same n none =
    let its : carried_message (read_frame t) ≡ Some m = ap (λ (x : List ℕ). carried_message (read_frame x)) same ∙ n in
    let no : m ∷ messages_in rest ≡ [] = sym (filter_map-keeps t rest m its) ∙ none in
    cc
  where
    filter_map-keeps : (t : List ℕ) (rest : List (List ℕ)) (m : Message) → carried_message (read_frame t) ≡ Some m → messages_in (t ∷ rest) ≡ m ∷ messages_in rest
    filter_map-keeps t rest m e = ap (λ (o : Option Message). cons_option o (messages_in rest)) e

first-carries : (texts : List (List ℕ)) (text : List ℕ) (m : Message) → slice_get texts 0 ≡ Some text → carried_message (read_frame text) ≡ Some m → messages_in texts ≡ [] → ⊥
first-carries [] text m e n none = absurd cc
first-carries (t ∷ rest) text m e n none = some-carries t text rest m (same-some t text e) n none

-- ---- two nodes

-- two nodes are like two neighbours, of which the laws of links hold; and nobody speaks for either
pub record HasLaws (p : PairState) : Type 0 where
  pub pair : PairState
  pub alike : ArePairsAlike p pair
  pub sharing : AreSharing p.near.exchange.settings p.far.exchange.settings
  pub carried : BothWays IsCarried (written p pair)
  pub lacked : BothWays MovesLacked (written p pair)
  pub final : BothWays AreFinal (written p pair)
  pub silent : BothWays HearsNothingElsewhere p

module _ (p : PairState) (laws : HasLaws p) where
  abbrev pub q : PairState
  q = written p laws.pair

  abbrev c : Configuration
  c = p.near.exchange.settings

  abbrev z : Configuration
  z = p.far.exchange.settings

  facing : AreFacing c z
  facing = are-facing c z laws.sharing

  -- the far end's far end
  end-back : (link other : ℕ) → end_there c z (slice_get c.links link) ≡ Some other → end_there z c (slice_get z.links other) ≡ Some link
  end-back link other e =
      its-far z c (far_joint c z facing) other link (ends-turned c z facing.near_set facing.far_set link other (is-line c z (near_joint c z facing) link other e))

  back-end : (link other : ℕ) → end_there z c (slice_get z.links other) ≡ Some link → end_there c z (slice_get c.links link) ≡ Some other
  back-end link other e =
      its-far c z (near_joint c z facing) link other (ends-turned z c facing.far_set facing.near_set other link (is-line z c (far_joint c z facing) other link e))

  module _ (link other : ℕ) (e : end_there c z (slice_get c.links link) ≡ Some other) where
    pub inside : (link < length c.links) × (other < length z.links)
    inside = (let line : AreEnds c z facing.near_set facing.far_set link other = is-line c z (near_joint c z facing) link other e in (line.here, line.there))

    same-flight : in_flight q.near.incoming.user_data link ≡ in_flight p.near.incoming.user_data link
    same-flight = laws.alike.near_alike.incoming.user_data link (not-elsewhere c z (slice_get c.links link) other e)

    -- ---- what waits there

    module _ (window : ℕ) (steady : AreLinksSteady window q.near.exchange.node) where
      unused-empty : is_in_use q link other ≡ false → (queue_of q.near link).all ≡ []
      unused-empty e' = by (unused (may_follow q.near link) (may_follow q.far other) (is_down_at q.near link) (is_incomplete_at q.near link) (is_down_at q.far other) e')
        where
          by : NotUsed (may_follow q.near link) (may_follow q.far other) (is_down_at q.near link) (is_incomplete_at q.near link) (is_down_at q.far other) → (queue_of q.near link).all ≡ []
          by (near_follows f) = may-empty window q.near.exchange link steady (laws.carried.back.opening other link (end-back link other e) f).far_may
          by (far_follows f) = ap (λ (x : Queue). x.all) (laws.carried.there.opening link other e f).queue
          by (closed f g) = closed-empty window q.near.exchange link steady f g

      used-or : (b : Bool) → is_in_use q link other ≡ b → (is_in_use q link other ≡ true) ⊎ ((queue_of q.near link).all ≡ [])
      used-or true f = inl f
      used-or false f = inr (unused-empty f)

      -- the far end received what is confirmed, and no more than was sent; or nothing stands in the queue
      pub in-between : (((queue_of q.near link).confirmed ≤ (queue_of q.far other).received) × ((queue_of q.far other).received ≤ (queue_of q.near link).sent))
          ⊎ ((queue_of q.near link).all ≡ [])
      in-between =
          ⊎_elim
          (λ (used : is_in_use q link other ≡ true). (let f : FramesCarry q link other = laws.carried.there.frames link other e used in inl (f.confirmed, f.received)))
          (λ none. inr none)
          (used-or (is_in_use q link other) refl)

      -- the number that a word under way says names what the far end received
      pub word-names : (word : Word) → IsUnderWay (turned q) word → word.link ≡ link
          → (named_count (queue_of q.near link) word.number ≡ Some (queue_of q.far other).received) ⊎ ((queue_of q.near link).all ≡ [])
      word-names word under same =
          let final : IsFinal (turned q) word = laws.final.back word under in
          let mine : final.link ≡ other = same-some final.link other (sym (back-end word.link final.link final.its) ∙ ap (λ (k : ℕ). end_there c z (slice_get c.links k)) same ∙ e) in
          ⊎_elim
          (λ (used : is_in_use q link other ≡ true).
          inl (ap (named_count (queue_of q.near link)) (final.number ∙ ap (λ (k : ℕ). last_accepted (queue_of q.far k)) mine) ∙ laws.lacked.there.named link other e used))
          (λ none. inr none)
          (used-or (is_in_use q link other) refl)

    -- ---- what comes

    -- a message that the next frame newly carries is the first that wasn't received
    pub first-missing : (text : List ℕ) (m : Message) → slice_get (in_flight p.near.incoming.user_data link) 0 ≡ Some text
        → new_message link text q.near.exchange ≡ Some m → slice_get (queue_of q.far other).all (queue_of q.near link).received ≡ Some m
    first-missing text m g n = laws.carried.back.next other link (end-back link other e) text m (ap (λ (texts : List (List ℕ)). slice_get texts 0) same-flight ∙ g) n

    -- and a word that it says was under way
    pub word-came : (text : List ℕ) (m : Message) (word : Word) → slice_get (in_flight p.near.incoming.user_data link) 0 ≡ Some text
        → new_message link text q.near.exchange ≡ Some m → word_there (turned q) m ≡ Some word → IsUnderWay (turned q) word
    word-came text m word g n says = laws.lacked.there.brought link text m word (ap (λ (texts : List (List ℕ)). slice_get texts 0) same-flight ∙ g) n says

    -- where this end may follow, nothing stands at the other
    pub followed-empty : may_follow p.near link ≡ true → (queue_of q.far other).all ≡ []
    followed-empty follows =
        ap (λ (x : Queue). x.all)
        (laws.carried.back.opening other link (end-back link other e) (laws.alike.near_alike.following link (not-elsewhere c z (slice_get c.links link) other e) ∙ follows)).queue

    -- a link status carries no message
    pub status-none : (text : List ℕ) (m : Message) → slice_get (in_flight p.near.incoming.statuses link) 0 ≡ Some text
        → carried_message (read_frame text) ≡ Some m → ⊥
    status-none text m g n =
        first-carries (in_flight q.near.incoming.statuses link) text m
        (ap (λ (texts : List (List ℕ)). slice_get texts 0) (laws.alike.near_alike.incoming.statuses link (not-elsewhere c z (slice_get c.links link) other e)) ∙ g) n
        (laws.carried.back.statuses link)
