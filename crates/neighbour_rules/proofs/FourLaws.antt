-- The four laws of two exchanges, link by link.
use Rattle.pair_rules.proofs.Basics.{◌≡◌, ◌≢◌, ◌⊎◌, inl, inr, ◌<◌, ◌+◌, ◌-◌, ◌||◌, ℕ, Bool, true, false, not, List, [], length, map, Option, Some, None, refl, ap, sym, subst, ◌∙◌, arith, nat_eq, if◌then◌else◌, Contains, count_by, slice_get, ⊎_elim, Contains-append_left}
use Rattle.pair_rules.proofs.Definitions.{Message, Configuration, FrameValue, first_queue, last_accepted, named_count, behind, Open, down, wants_of, new_message, changeover_of, Saying, Order, Answer, is_answer, is_order, is_untrue, MayOpen, Pair, PairState, in_flight, may_follow, may_open_at, turned, queue_of, spelled, Word, is_down_at, is_incomplete_at, messages_in, set_of}
use Rattle.exchange_rules.proofs.CarriedMessages.{new-carried}
use Rattle.pair_moves.specs.Ends as ends
use Rattle.pair_moves.specs.Flowing.{Flows, IsFlowing, NamesReceived, OpensAlone}
use Rattle.pair_moves.specs.Flowing as moves
use Rattle.pair_moves.specs.Laws.{WordsAreTrue, saying, sum_to, under_way}
use Rattle.pair_moves.specs.Order.{join_to}
use Rattle.pair_moves.specs.Sayings.{Other}
use Rattle.pair_moves.specs.Theorems as theorems
use Rattle.pair_moves.proofs.Concluded.{first_ends_are_alone-always, follows_with_nothing-always, lines_flow-always, numbers_name-always, opens_with_nothing-always, words_are_true-always}
use Rattle.pair_moves.proofs.Counts.{count-append, sum-alike}
use Rattle.pair_moves.proofs.Lines.{or-third, unless-true, used-by}
use Rattle.pair_moves.proofs.Words.{same-link, true-answer, true-order}
use Rattle.pair_rules.proofs.World.{World, end_of}
use Rattle.pair_rules.proofs.Good.{Each, each-behind}
use Rattle.pair_rules.proofs.Opening.{may_open-at, may_open-end, wants-open}
use Rattle.pair_rules.proofs.Flights.{first-frame}
use Rattle.pair_rules.proofs.Standing.{world_of}
use Rattle.pair_rules.proofs.Promised.{count-join}
use Rattle.pair_rules.proofs.CarriedTexts.{may-so, new-up, no-message, none-shown, none-told, nothing-first, statuses-carry, up-false}
use Rattle.pair_rules.proofs.SaidWords.{contained-behind, contained-join, contained-take, each-drop, each-join, none-contained}
use Rattle.neighbour_rules.specs.Neighbours.{end_there}
use Rattle.neighbour_rules.specs.Laws.{AreFinal, FramesCarry, IsCarried, IsFinal, IsInFlight, IsUnderWay, MovesLacked, NextIsFirst, NoneIsLeft, OpenedAlone, frames_carry, is_in_use, moves_are_lacked, none_is_left, unreceived, unreceived_at, unreceived_by, words_are_final}
use Rattle.neighbour_rules.proofs.World.{code_of, line_of, says_of, shown, reading}
use Rattle.neighbour_rules.proofs.Good.{IsSent, Joint}
use Rattle.neighbour_rules.proofs.Staying.{with_settings}
use Rattle.neighbour_rules.proofs.Sharing.{AreFacing, facing_back, far_joint, from_first, near_joint}
use Rattle.neighbour_rules.proofs.FarEnds.{HasEnd, IsLine, has-end, is-line, its-far, line-known, line_at, near-own}
use Rattle.neighbour_rules.proofs.FarEnds as far_ends
use Rattle.neighbour_rules.proofs.Standing.{Since, Stands, since-back}
use Rattle.neighbour_rules.proofs.AllSteps.{stands-turned}
use Rattle.neighbour_rules.proofs.Promised.{always, by-link, lacked-at, lacks, of-shown, summed-lines}
use Rattle.neighbour_rules.proofs.CarriedTexts.{first-text, texts-carry}
use Rattle.neighbour_rules.proofs.SaidWords.{IsCode, Says, count-past, is-code, word-says}

module _ (c z : Configuration) (a : AreFacing c z) (q : PairState) (s : Stands c z a (with_settings c z q)) (kept : Since c z a (with_settings c z q)) where
  abbrev p : PairState
  p = with_settings c z q

  abbrev j : Joint c z
  j = near_joint c z a

  abbrev w : World
  w = world_of p s.to_near s.to_far

  abbrev read : Message → Saying
  read = says_of c.own z.own j.base.there

  abbrev view : Pair
  view = shown c z a.near_set a.far_set a.base w

  abbrev links : ℕ
  links = length c.links

  abbrev far_of : ℕ → Option ℕ
  far_of link = end_there c z (slice_get c.links link)

  abbrev line : ℕ → ends.Line
  line code = line_of c z a.near_set a.far_set w code

  line-of : (link other : ℕ) → far_of link ≡ Some other → IsLine c z j link other
  line-of link other e = is-line c z j link other e

  -- ---- (i)

  module _ (link other : ℕ) (e : IsLine c z j link other) where
    -- what holds of the line of its code
    of-line : (Of : ends.Line → Type 0) → ((code : ℕ) → Of (line code)) → Of (line_at w link other)
    of-line Of h = subst Of (line-known c z j w link other e) (h (code_of c link))

    flows : IsFlowing (line_at w link other)
    flows = of-line IsFlowing (of-shown c z a q s kept (λ read x. (code : ℕ) → IsFlowing (x.line code)) lines_flow-always).there

    pub frames-there : is_in_use p link other ≡ true → FramesCarry p link other
    frames-there used =
        let f : Flows (line_at w link other) = flows used in
        record {
          confirmed = f.confirmed;
          received = f.received;
          carried = λ up.
              ap (λ (texts : List (List ℕ)). messages_in texts) (s.far_texts.user_data.each other)
              ∙ texts-carry c z a.base.there a.near_set (queue_of p.near link) (queue_of p.far other).received (s.to_far.user_data other) (s.far_good.coming.user_data other) (f.carried (ap not up));
        }

    -- ---- one end opened first

    alone : OpensAlone (line_at w link other)
    alone = of-line OpensAlone (of-shown c z a q s kept (λ read x. (code : ℕ) → OpensAlone (x.line code)) first_ends_are_alone-always).there

    alone-back : OpensAlone (ends.turned_line (line_at w link other))
    alone-back =
        of-line (λ (l : ends.Line). OpensAlone (ends.turned_line l)) (of-shown c z a q s kept (λ read x. (code : ℕ) → OpensAlone (x.line code)) first_ends_are_alone-always).back

    -- no end may follow where something comes to an end that isn't down
    heard-used : not (is_down_at p.far other) ≡ true → (in_flight p.far.incoming.user_data other ≡ [] → false ≡ true) → is_in_use p link other ≡ true
    heard-used up coming =
        used-by (may_follow p.near link) (may_follow p.far other) (not (is_down_at p.near link) || is_incomplete_at p.near link || not (is_down_at p.far other))
        (unless-true (may_follow p.near link)
        (λ follows. coming (s.far_texts.user_data.each other ∙ ap (λ (fs : List FrameValue). map spelled fs) (none-shown (s.to_far.user_data other) (alone-back follows).silent))))
        (unless-true (may_follow p.far other) (λ follows. sym (alone follows).far_may.down ∙ up))
        (or-third (not (is_down_at p.near link)) (is_incomplete_at p.near link) (not (is_down_at p.far other)) up)

    pub alone-there : may_follow p.far other ≡ true → OpenedAlone p link other
    alone-there follows =
        let o : moves.OpenedAlone (line_at w link other) = alone follows in
        record {
          alone = o.alone;
          far_may = may-so (is_down_at p.far other) (is_incomplete_at p.far other) (changeover_of p.far.exchange.node.parts other).awaited o.far_may.down o.far_may.complete o.far_may.unawaited;
          unserved = o.unserved;
          queue = o.queue;
          silent = s.near_texts.user_data.each link ∙ ap (λ (fs : List FrameValue). map spelled fs) (none-shown (s.to_near.user_data link) o.silent);
          untold = s.near_texts.statuses.each link ∙ ap (λ (fs : List FrameValue). map spelled fs) (none-told (s.to_near.statuses link) o.untold);
          empty =
              ap (λ (texts : List (List ℕ)). messages_in texts) (s.far_texts.user_data.each other)
              ∙ texts-carry c z a.base.there a.near_set first_queue 0 (s.to_far.user_data other) (s.far_good.coming.user_data other) o.carried;
        }

    pub next-there : NextIsFirst p link other
    next-there text message f n =
        let up : not (down p.far.exchange.node.parts other) ≡ true = new-up other text p.far.exchange message n in
        let coming : in_flight p.far.incoming.user_data other ≡ [] → false ≡ true = λ none. nothing-first (in_flight p.far.incoming.user_data other) text f none in
        let flow : Flows (line_at w link other) = flows (heard-used up coming) in
        first-text c z a.base.there a.near_set (queue_of p.near link) (queue_of p.far other).received (s.to_far.user_data other) (in_flight p.far.incoming.user_data other) text message
        (first-frame (s.to_far.user_data other) (in_flight p.far.incoming.user_data other) text (s.far_texts.user_data.each other) f) (s.far_good.coming.user_data other) (flow.carried up)
        (new-carried other text p.far.exchange message n)

  pub carried-there : IsCarried p
  carried-there = record {
    statuses = λ other. ap (λ (texts : List (List ℕ)). messages_in texts) (s.far_texts.statuses.each other) ∙ statuses-carry (s.to_far.statuses other) (s.far_good.coming.statuses other);
    frames = λ link other e. frames-there link other (line-of link other e);
    opening = λ link other e. alone-there link other (line-of link other e);
    next = λ link other e. next-there link other (line-of link other e);
    elsewhere = λ link e. (
      s.near_texts.user_data.each link ∙ ap (λ (fs : List FrameValue). map spelled fs) (s.near_quiet link e).user_data,
      s.near_texts.statuses.each link ∙ ap (λ (fs : List FrameValue). map spelled fs) (s.near_quiet link e).statuses,
      s.near_alone link e,
    );
  }

  -- ---- what is under way

  abbrev row : ℕ → List Message
  row link = unreceived_by p link (far_of link)

  module _ (test : Saying → Bool) (none : test Other ≡ false) where
    abbrev of : Message → Bool
    of = saying read test

    its-count : (link : ℕ) → link < links → count_by of (row link) ≡ (if nat_eq (set_of c link) a.near_set then count_by of (lacks c z a q s kept link) else 0)
    its-count =
        by-link c z a q s kept (λ link o b. count_by of (unreceived_by p link o) ≡ (if b then count_by of (lacks c z a q s kept link) else 0))
        (λ link other e. ap (count_by of) (sym (lacked-at c z a q s kept link other e)))
        (λ link l d. count-past read test none (queue_of p.near link).all (s.near_good.elsewhere link d))

    pub counted : count_by of (unreceived p) ≡ under_way of view
    counted =
        let both : count_by of (unreceived p) ≡ count_by of (join_to row links) + count_by of p.near.exchange.node.queues.held = count-append of (join_to row links) p.near.exchange.node.queues.held in
        let joined : count_by of (join_to row links) ≡ sum_to (λ link. count_by of (row link)) links = count-join of row links in
        let summed : sum_to (λ link. count_by of (row link)) links ≡ sum_to (λ link. if nat_eq (set_of c link) a.near_set then count_by of (lacks c z a q s kept link) else 0) links =
        sum-alike (λ link. if nat_eq (set_of c link) a.near_set then count_by of (lacks c z a q s kept link) else 0) (λ link. count_by of (row link)) links its-count in
        omega (arith, both, joined, summed, summed-lines c z a q s kept of)

  pub between : Each (IsSent c z a.base.there a.near_set) (unreceived p)
  between =
      each-behind (IsSent c z a.base.there a.near_set) (join_to row links) p.near.exchange.node.queues.held
      (each-join (IsSent c z a.base.there a.near_set) row links (λ link. by link (far_of link)))
      s.near_good.held
    where
      by : (link : ℕ) (o : Option ℕ) → Each (IsSent c z a.base.there a.near_set) (unreceived_by p link o)
      by link (Some other) = each-drop (IsSent c z a.base.there a.near_set) (queue_of p.far other).received (queue_of p.near link).all (s.near_good.queued link)
      by link None = s.near_good.queued link

  -- what a link has is among it
  among : (link other : ℕ) (message : Message) → IsLine c z j link other → Contains (unreceived_at p link other) message → Contains (unreceived p) message
  among link other message e h =
      Contains-append_left (join_to row links) p.near.exchange.node.queues.held message
      (contained-join row links link message e.here (subst (λ (o : Option ℕ). Contains (unreceived_by p link o) message) (sym (its-far c z j link other e)) h))

  -- the line of a link of the far node with frames in flight
  record HasLine (other : ℕ) : Type 0 where
    link : ℕ
    its : IsLine c z j link other

  flown-line : (other : ℕ) → (in_flight p.far.incoming.user_data other ≡ [] → false ≡ true) → HasLine other
  flown-line other some = by (end_there z c (slice_get z.links other)) refl
    where
      by : (o : Option ℕ) → end_there z c (slice_get z.links other) ≡ o → HasLine other
      by None e =
          (let no : false ≡ true = some (s.far_texts.user_data.each other ∙ ap (λ (fs : List FrameValue). map spelled fs) (s.far_quiet other e).user_data) in absurd cc)
      by (Some link) e = record { link = link; its = far_ends.ends-turned z c a.far_set a.near_set other link (is-line z c (far_joint c z a) other link e) }

  -- and so is what is in flight to an end that isn't down
  flying-stands : (word : Word) → IsInFlight p word → IsUnderWay p word
  flying-stands word f = record { message = f.message; stands = among h.link f.link f.message h.its sent; says = f.says }
    where
      some : in_flight p.far.incoming.user_data f.link ≡ [] → false ≡ true
      some none = no-message f.message (subst (λ (texts : List (List ℕ)). Contains (messages_in texts) f.message) none f.carried)

      h : HasLine f.link
      h = flown-line f.link some

      carry : FramesCarry p h.link f.link
      carry = frames-there h.link f.link h.its (heard-used h.link f.link h.its (ap not f.up) some)

      sent : Contains (unreceived_at p h.link f.link) f.message
      sent =
          contained-take (unreceived_at p h.link f.link) ((queue_of p.near h.link).sent - (queue_of p.far f.link).received) f.message
          (subst (λ (ms : List Message). Contains ms f.message) (carry.carried f.up) f.carried)

  -- what none under way says, this message doesn't
  unsaid-there : (test : Saying → Bool) → test Other ≡ false → (m : Message) → Contains (unreceived p) m → under_way (saying read test) view ≡ 0 → test (read m) ≡ false
  unsaid-there test past m there none = none-contained (saying read test) (unreceived p) m (counted test past ∙ none) there

  -- ---- (ii)

  first-none : (m n : ℕ) → m + n ≡ 0 → m ≡ 0
  first-none m n e = omega (arith, e)

  second-none : (m n : ℕ) → m + n ≡ 0 → n ≡ 0
  second-none m n e = omega (arith, e)

  -- orders and answers about the line of a code, from the near node
  abbrev Said : ℕ → Pair → ℕ
  Said code x = under_way (saying read (is_order code)) x + under_way (saying read (is_answer code)) x

  opens-both : theorems.BothWays (λ reads x. (code : ℕ) → MayOpen (x.line code).near → MayOpen (x.line code).far
      → under_way (saying reads.there (is_order code)) x + under_way (saying reads.there (is_answer code)) x ≡ 0) (reading c.own z.own a.base) view
  opens-both = of-shown c z a q s kept _ opens_with_nothing-always

  follows-both : theorems.BothWays (λ reads x. (code : ℕ) → (x.line code).near_may_follow ≡ true
      → (under_way (saying reads.there (is_order code)) x + under_way (saying reads.there (is_answer code)) x)
      + (under_way (saying reads.back (is_order code)) (ends.turned x) + under_way (saying reads.back (is_answer code)) (ends.turned x)) ≡ 0) (reading c.own z.own a.base) view
  follows-both = of-shown c z a q s kept _ follows_with_nothing-always

  module _ (link other : ℕ) (e : IsLine c z j link other) where
    abbrev its : ℕ
    its = code_of c link

    near-may : MayOpen (end_of p.near.exchange.node link) → MayOpen (line its).near
    near-may h = subst (λ (l : ends.Line). MayOpen l.near) (sym (line-known c z j w link other e)) h

    far-may : MayOpen (end_of p.far.exchange.node other) → MayOpen (line its).far
    far-may h = subst (λ (l : ends.Line). MayOpen l.far) (sym (line-known c z j w link other e)) h

    none-said-there : wants_of p.near.exchange link ≡ Open → (may_open_at p.far other ≡ true) ⊎ (may_follow p.near link ≡ true) → Said its view ≡ 0
    none-said-there near (inl far) =
        opens-both.there its (near-may (may_open-end c z p.near.exchange.node link (wants-open p.near.exchange.node.parts link near))) (far-may (may_open-at p.far.exchange.node other far))
    none-said-there near (inr follows) =
        first-none _ _ (follows-both.there its (ap (λ (l : ends.Line). l.near_may_follow) (line-known c z j w link other e) ∙ follows))

    -- the same, where it is the far end that wants to open
    none-said-back : wants_of p.far.exchange other ≡ Open → (may_open_at p.near link ≡ true) ⊎ (may_follow p.far other ≡ true) → Said its view ≡ 0
    none-said-back far (inl near) =
        opens-both.there its (near-may (may_open-at p.near.exchange.node link near)) (far-may (may_open-end z c p.far.exchange.node other (wants-open p.far.exchange.node.parts other far)))
    none-said-back far (inr follows) =
        second-none _ _ (follows-both.back its (ap (λ (l : ends.Line). l.far_may_follow) (line-known c z j w link other e) ∙ follows))

    none-left-there : Said its view ≡ 0 → (word : Word) → IsUnderWay p word → word.link ≢ other
    none-left-there none word u same =
        let said : Says c z a.base.there u.message word = word-says c z a.base.there u.message word u.says in
        let at : IsCode c z j said.slc word.link = is-code c z j said.slc word.link said.there in
        let here : nat_eq said.slc its ≡ true = ap (λ (k : ℕ). nat_eq k its) (sym at.code ∙ ap (code_of z) same ∙ e.code) ∙ same-link its in
        let no : true ≡ false =
        ⊎_elim
        (λ (f : read u.message ≡ Order said.slc word.number). sym here ∙ sym (ap (is_order its) f) ∙ unsaid-there (is_order its) refl u.message u.stands (first-none _ _ none))
        (λ (f : read u.message ≡ Answer said.slc word.number). sym here ∙ sym (ap (is_answer its) f) ∙ unsaid-there (is_answer its) refl u.message u.stands (second-none _ _ none))
        said.said in
        absurd cc

    stands-there : (word : Word) → IsUnderWay p word ⊎ IsInFlight p word → IsUnderWay p word
    stands-there word u = ⊎_elim (λ (h : IsUnderWay p word). h) (λ (h : IsInFlight p word). flying-stands word h) u

    pub near-left : wants_of p.near.exchange link ≡ Open → (may_open_at p.far other ≡ true) ⊎ (may_follow p.near link ≡ true)
        → (word : Word) → IsUnderWay p word ⊎ IsInFlight p word → word.link ≢ other
    near-left near next word u = none-left-there (none-said-there near next) word (stands-there word u)

    pub back-left : wants_of p.far.exchange other ≡ Open → (may_open_at p.near link ≡ true) ⊎ (may_follow p.far other ≡ true)
        → (word : Word) → IsUnderWay p word ⊎ IsInFlight p word → word.link ≢ other
    back-left far next word u = none-left-there (none-said-back far next) word (stands-there word u)

  -- ---- (iii)

  pub final-there : AreFinal p
  final-there word u =
      ⊎_elim
      (λ (f : read u.message ≡ Order said.slc word.number). by (true-order said.slc up last word.number (ap untrue (sym f) ∙ true_one)))
      (λ (f : read u.message ≡ Answer said.slc word.number). by (true-answer said.slc up last word.number (ap untrue (sym f) ∙ true_one)))
      said.said
    where
      said : Says c z a.base.there u.message word
      said = word-says c z a.base.there u.message word u.says

      at : IsCode c z j said.slc word.link
      at = is-code c z j said.slc word.link said.there

      back : HasEnd z c (far_joint c z a) word.link
      back = has-end z c (far_joint c z a) word.link at.there at.their_set

      its-line : IsLine c z j back.other word.link
      its-line = far_ends.ends-turned z c a.far_set a.near_set word.link back.other back.line

      coded : code_of c back.other ≡ said.slc
      coded = sym its-line.code ∙ at.code

      known : line said.slc ≡ line_at w back.other word.link
      known = ap line (sym coded) ∙ line-known c z j w back.other word.link its-line

      up : Bool
      up = not (is_down_at p.near back.other)

      last : ℕ
      last = last_accepted (queue_of p.near back.other)

      untrue : Saying → Bool
      untrue = is_untrue said.slc up last

      true_one : untrue (read u.message) ≡ false
      true_one = unsaid-there untrue refl u.message u.stands (subst (λ (l : ends.Line). under_way (saying read (is_untrue said.slc l.near.up (last_accepted l.near.queue))) view ≡ 0) known ((of-shown c z a q s kept WordsAreTrue words_are_true-always).there said.slc))

      by : (up ≡ false) × (word.number ≡ last) → IsFinal p word
      by t = record { link = back.other; its = its-far c z j back.other word.link its-line; down = up-false (is_down_at p.near back.other) t.0; number = t.1 }

  -- ---- (iv)

  -- what the next frame newly carries was under way
  pub brought-there : (other : ℕ) (text : List ℕ) (message : Message) → slice_get (in_flight p.far.incoming.user_data other) 0 ≡ Some text → new_message other text p.far.exchange ≡ Some message
      → Contains (unreceived p) message
  brought-there other text message e n =
      let h : HasLine other = flown-line other (λ none. nothing-first (in_flight p.far.incoming.user_data other) text e none) in
      among h.link other message h.its
      (contained-behind (queue_of p.near h.link).all (queue_of p.far other).received message (next-there h.link other h.its text message e n))

  pub named-there : (link other : ℕ) → IsLine c z j link other → is_in_use p link other ≡ true → named_count (queue_of p.near link) (last_accepted (queue_of p.far other)) ≡ Some (queue_of p.far other).received
  named-there link other e =
      of-line link other e NamesReceived (of-shown c z a q s kept (λ read x. (code : ℕ) → NamesReceived (x.line code)) numbers_name-always).there

-- ---- both directions

module _ (c z : Configuration) (a : AreFacing c z) (q : PairState) (s : Stands c z a (with_settings c z q)) (kept : Since c z a (with_settings c z q)) where
  abbrev there : PairState
  there = with_settings c z q

  back-stands : Stands z c (facing_back c z a) (with_settings z c (turned q))
  back-stands = stands-turned c z a there s

  back-kept : Since z c (facing_back c z a) (with_settings z c (turned q))
  back-kept = since-back c z a (with_settings c z q) kept

  back-line : (link other : ℕ) → end_there c z (slice_get c.links link) ≡ Some other → IsLine z c (far_joint c z a) other link
  back-line link other e = far_ends.ends-turned c z a.near_set a.far_set link other (is-line c z (near_joint c z a) link other e)

  pub left-there : NoneIsLeft there
  left-there link other e near next = record {
    there = near-left c z a q s kept link other (is-line c z (near_joint c z a) link other e) near next;
    back = back-left z c (facing_back c z a) (turned q) back-stands back-kept other link (back-line link other e) near next;
  }

  final-back : AreFinal (turned there)
  final-back = final-there z c (facing_back c z a) (turned q) back-stands back-kept

  pub lacked-there : MovesLacked there
  lacked-there = record {
    named = λ link other e. named-there c z a q s kept link other (is-line c z (near_joint c z a) link other e);
    brought = λ link text message word e n says. record {
      message = message;
      stands = brought-there z c (facing_back c z a) (turned q) back-stands back-kept link text message e n;
      says = says;
    };
    moved = λ word u other e used.
        let final : IsFinal (turned there) word = final-back word u in
        let same : final.link ≡ other =
        one-place final.link other
        (sym (its-far c z (near_joint c z a) word.link final.link (far_ends.ends-turned z c a.far_set a.near_set final.link word.link (is-line z c (far_joint c z a) final.link word.link final.its))) ∙ e) in
        ap (λ (o : Option ℕ). behind (queue_of there.near word.link) o)
        (ap (named_count (queue_of there.near word.link)) (final.number ∙ ap (λ (k : ℕ). last_accepted (queue_of there.far k)) same)
        ∙ named-there c z a q s kept word.link other (is-line c z (near_joint c z a) word.link other e) used);
  }
    where
      one-place : (m n : ℕ) → Some m ≡ Some n → m ≡ n
      one-place m n e = cc

-- ---- always

pub frames-carry : frames_carry
frames-carry = always IsCarried (λ c z a q own s kept near far. carried-there c z (from_first c z a) q s kept)

pub none-left : none_is_left
none-left = always NoneIsLeft (λ c z a q own s kept near far. left-there c z (from_first c z a) q s kept)

pub words-final : words_are_final
words-final = always AreFinal (λ c z a q own s kept near far. final-there c z (from_first c z a) q s kept)

pub moves-lacked : moves_are_lacked
moves-lacked = always MovesLacked (λ c z a q own s kept near far. lacked-there c z (from_first c z a) q s kept)
