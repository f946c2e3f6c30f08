-- Moves of frames are followed.
use Rattle.network_moves.proofs.Basics.{◌≡◌, ℕ, suc, Bool, true, false, ◌+◌, ◌≤◌, ◌<◌, List, ◌∷◌, count_by, drop, refl, ap, sym, ◌∙◌, arith, Some}
use Rattle.network_moves.proofs.Definitions.{Message, Queue, Saying, UserMessage, Order, Answer, Other, is_user_message, user, Frame, EmptyFrame, MessageFrame, Line, Node, Network, Shape, Place, line_at, point_at, node_at, one_if, last_accepted, last_sent, to_send, accept_answer, Sending, with_status, with_statuses_left, with_frame, acknowledgement, with_sent, with_frames_left, with_heard, with_accepted, Becomes, SendsStatus, SendsMessage, SendsEmpty, HearsStatus, TakesStatus, DoublesStatus, Drops, TakesEmpty, TakesMessage}
use Rattle.network_moves.specs.Moves as moves
use Rattle.network_moves.specs.Groups.{says_of_group}
use Rattle.network_moves.proofs.Counts.{count-cons}
use Rattle.network_moves.proofs.Lines.{both, is-next}
use Rattle.network_moves.proofs.Waiting.{drop-first}
use Rattle.network_moves.proofs.Masking.{node-set, line-set, within, is_of, masked, IsLike, IsMask}
use Rattle.network_moves.proofs.Apart.{stays, frames_by, frames-empty, frames-message, frames-rest, drop-within, fewer-one, IsApart, IsApartLine, IsLess, apart-less, apart-line, here}
use Rattle.network_moves.proofs.Following.{edits-one, makes-one, Follows, Works, Within, works-none, follows-line}
use Rattle.network_moves.proofs.FollowedNodes.{one-none, is-user, with_submitted}

module _ (shape : Shape) (read : Message → Saying) (group : ℕ → Bool) (for_group : Message → Bool) (p q k : Network) (a : IsApart shape read group for_group p) (h : IsMask shape read group for_group p k) where
  -- only a line changes, and no more is on it
  pub follows-quiet : (place : Place) (z : Line) → Becomes shape p q place z (node_at shape p place) → IsLess shape read group for_group z (line_at p place)
      → (within shape read group for_group place.link ≡ true → line_at k place ≡ line_at p place → IsLike shape read group for_group (node_at shape p place) (node_at shape k place) → Within shape read group for_group p k place z (node_at shape p place))
      → Follows shape read group for_group q k
  follows-quiet place z after less inside =
      follows-line shape read group for_group p q k place z _ after.lines after.here after.others a h
      (apart-line shape read group for_group p q place z _ after.lines after.here after.others (λ out l. apart-less shape read group for_group place z (line_at p place) less l) (λ l none out. none) a)
      inside
      (λ out at l like. works-none shape read group for_group k (point_at shape place) (node_at shape p place) like)

  pub same-less : (y : Line) → IsLess shape read group for_group y y
  same-less y = record { near = λ test. omega arith; far = λ test. omega arith; to_far = λ test. omega arith; to_near = λ test. omega arith }

  pub follows-sends_status : SendsStatus shape p q → Follows shape read group for_group q k
  follows-sends_status m =
      let l : IsLess shape read group for_group (line_at p m.place) (line_at p m.place) = same-less (line_at p m.place) in
      follows-quiet m.place _ m.after (record { near = l.near; far = l.far; to_far = l.to_far; to_near = l.to_near }) (λ in_it e like. record {
        line = with_status (line_at k m.place);
        node = node_at shape k m.place;
        move = moves.sends_status (record { place = m.place; up = ap (λ (v : Line). v.near.up) e ∙ m.up; after = line-set shape k m.place _ _ m.after.lines.inside m.after.inside });
        same = ap with_status e;
        like = like;
      })

  -- what goes out stands in the queue
  next-counted : (q : Queue) (window : ℕ) (sending : Sending) → to_send q window ≡ Some sending → (test : Message → Bool) → one_if (test sending.message) ≤ count_by test q.all
  next-counted q window sending e test =
      omega (
        arith,
        ap (count_by test) (drop-first q.all q.sent sending.message (is-next q window sending e).message),
        count-cons test sending.message (drop (q.sent + 1) q.all),
        drop-within test q.sent q.all,
      )

  pub follows-sends_message : SendsMessage shape p q → Follows shape read group for_group q k
  follows-sends_message m =
      let y : Line = line_at p m.place in
      let z : Line = with_sent y m.sending in
      let gone : Message → Bool = stays shape read group for_group false in
      follows-line shape read group for_group p q k m.place z _ m.after.lines m.after.here m.after.others a h
      (apart-line shape read group for_group p q m.place z _ m.after.lines m.after.here m.after.others
      (λ out l. record {
        near = l.near;
        far = l.far;
        to_far = omega (
          arith,
          frames-message gone m.sending.number (last_accepted y.near.queue) m.sending.message y.to_far,
          l.to_far,
          fewer-one shape read group for_group (here shape read group for_group m.place) m.sending.message,
          next-counted y.near.queue m.window m.sending m.next (stays shape read group for_group (here shape read group for_group m.place)),
          l.near,
        );
        to_near = l.to_near;
      })
      (λ l none out. none) a)
      (λ in_it e like. record {
        line = with_sent (line_at k m.place) m.sending;
        node = node_at shape k m.place;
        move = moves.sends_message (record {
          place = m.place;
          serving = ap (λ (v : Line). v.near.serving) e ∙ m.serving;
          window = m.window;
          small = m.small;
          sending = m.sending;
          next = ap (λ (v : Line). to_send v.near.queue m.window) e ∙ m.next;
          after = line-set shape k m.place _ _ m.after.lines.inside m.after.inside;
        });
        same = ap (λ (v : Line). with_sent v m.sending) e;
        like = like;
      })
      (λ out at l like. works-none shape read group for_group k (point_at shape m.place) (node_at shape p m.place) like)

  pub follows-sends_empty : SendsEmpty shape p q → Follows shape read group for_group q k
  follows-sends_empty m =
      let y : Line = line_at p m.place in
      let frame : Line → Frame = λ v. acknowledgement v.near.queue in
      follows-quiet m.place _ m.after
      (record { near = λ test. omega arith; far = λ test. omega arith; to_far = λ test. omega (arith, frames-empty test (last_sent y.near.queue) (last_accepted y.near.queue) y.to_far); to_near = λ test. omega arith })
      (λ in_it e like. record {
        line = with_frame (line_at k m.place) (frame (line_at k m.place));
        node = node_at shape k m.place;
        move = moves.sends_empty (record { place = m.place; up = ap (λ (v : Line). v.near.up) e ∙ m.up; after = line-set shape k m.place _ _ m.after.lines.inside m.after.inside });
        same = ap (λ (v : Line). with_frame v (frame v)) e;
        like = like;
      })

  pub follows-hears_status : HearsStatus shape p q → Follows shape read group for_group q k
  follows-hears_status m =
      let l : IsLess shape read group for_group (line_at p m.place) (line_at p m.place) = same-less (line_at p m.place) in
      follows-quiet m.place _ m.after (record { near = l.near; far = l.far; to_far = l.to_far; to_near = l.to_near }) (λ in_it e like. record {
        line = with_heard (line_at k m.place);
        node = node_at shape k m.place;
        move = moves.hears_status (record {
          place = m.place;
          up = ap (λ (v : Line). v.near.up) e ∙ m.up;
          rest = m.rest;
          some = ap (λ (v : Line). v.told_near) e ∙ m.some;
          after = line-set shape k m.place _ _ m.after.lines.inside m.after.inside;
        });
        same = ap with_heard e;
        like = like;
      })

  pub follows-takes_status : TakesStatus shape p q → Follows shape read group for_group q k
  follows-takes_status m =
      let l : IsLess shape read group for_group (line_at p m.place) (line_at p m.place) = same-less (line_at p m.place) in
      follows-quiet m.place _ m.after (record { near = l.near; far = l.far; to_far = l.to_far; to_near = l.to_near }) (λ in_it e like. record {
        line = with_statuses_left (line_at k m.place) m.rest;
        node = node_at shape k m.place;
        move = moves.takes_status (record { place = m.place; rest = m.rest; some = ap (λ (v : Line). v.told_near) e ∙ m.some; after = line-set shape k m.place _ _ m.after.lines.inside m.after.inside });
        same = ap (λ (v : Line). with_statuses_left v m.rest) e;
        like = like;
      })

  pub follows-doubles_status : DoublesStatus shape p q → Follows shape read group for_group q k
  follows-doubles_status m =
      let l : IsLess shape read group for_group (line_at p m.place) (line_at p m.place) = same-less (line_at p m.place) in
      follows-quiet m.place _ m.after (record { near = l.near; far = l.far; to_far = l.to_far; to_near = l.to_near }) (λ in_it e like. record {
        line = with_statuses_left (line_at k m.place) (suc (suc m.rest));
        node = node_at shape k m.place;
        move = moves.doubles_status (record { place = m.place; rest = m.rest; some = ap (λ (v : Line). v.told_near) e ∙ m.some; after = line-set shape k m.place _ _ m.after.lines.inside m.after.inside });
        same = ap (λ (v : Line). with_statuses_left v (suc (suc m.rest))) e;
        like = like;
      })

  -- a frame is in flight no longer
  rest-less : (place : Place) (frame : Frame) (rest : List Frame) → (line_at p place).to_near ≡ frame ∷ rest → (test : Message → Bool) → frames_by test rest ≤ frames_by test (line_at p place).to_near
  rest-less place frame rest e test = omega (arith, ap (frames_by test) e, frames-rest test frame rest)

  pub follows-drops : Drops shape p q → Follows shape read group for_group q k
  follows-drops m =
      follows-quiet m.place _ m.after
      (record { near = λ test. omega arith; far = λ test. omega arith; to_far = λ test. omega arith; to_near = rest-less m.place m.frame m.rest m.first })
      (λ in_it e like. record {
        line = with_frames_left (line_at k m.place) m.rest;
        node = node_at shape k m.place;
        move = moves.drops (record {
          place = m.place;
          frame = m.frame;
          rest = m.rest;
          first = ap (λ (v : Line). v.to_near) e ∙ m.first;
          down = ap (λ (v : Line). v.near.up) e ∙ m.down;
          after = line-set shape k m.place _ _ m.after.lines.inside m.after.inside;
        });
        same = ap (λ (v : Line). with_frames_left v m.rest) e;
        like = like;
      })

  pub follows-takes_empty : TakesEmpty shape p q → Follows shape read group for_group q k
  follows-takes_empty m =
      follows-quiet m.place _ m.after
      (record { near = λ test. omega arith; far = λ test. omega arith; to_far = λ test. omega arith; to_near = rest-less m.place (EmptyFrame m.fsn m.bsn) m.rest m.first })
      (λ in_it e like. record {
        line = with_accepted (line_at k m.place) m.rest false m.count (line_at k m.place).far.came;
        node = node_at shape k m.place;
        move = moves.takes_empty (record {
          place = m.place;
          fsn = m.fsn;
          bsn = m.bsn;
          rest = m.rest;
          first = ap (λ (v : Line). v.to_near) e ∙ m.first;
          up = ap (λ (v : Line). v.near.up) e ∙ m.up;
          count = m.count;
          accepted = ap (λ (v : Line). accept_answer v.near.queue m.fsn m.bsn false) e ∙ m.accepted;
          after = line-set shape k m.place _ _ m.after.lines.inside m.after.inside;
        });
        same = ap (λ (v : Line). with_accepted v m.rest false m.count v.far.came) e;
        like = like;
      })

  -- ---- a message comes

  abbrev with_taken : Message → Node → Node
  with_taken m n = record n { bag = m ∷ n.bag; accepted = m ∷ n.accepted }

  taken-likes : (m : Message) (n v : Node) → IsLike shape read group for_group n v → IsLike shape read group for_group (with_taken m n) (with_taken m v)
  taken-likes m n v like = record {
    bag = λ test. omega (arith, like.bag test, count-cons test m v.bag, count-cons test m n.bag);
    accepted = λ test.
        let t : Message → Bool = user (masked shape read group for_group) test in
        omega (arith, like.accepted test, count-cons t m v.accepted, count-cons t m n.accepted);
    ended = like.ended;
    gone = like.gone;
    named = like.named;
  }

  -- what isn't a user message concerns the group wherever it is, if at all
  stays-managing : (m : Message) (s : Saying) → read m ≡ s → is_user_message s ≡ false → one_if (stays shape read group for_group false m) ≡ one_if (is_of shape read group for_group m)
  stays-managing m UserMessage e other = both refl other
  stays-managing m (Order link maker number) e other =
      ap one_if (ap (says_of_group shape read group for_group false) e) ∙ sym (ap one_if (ap (says_of_group shape read group for_group (for_group m)) e))
  stays-managing m (Answer link maker number) e other =
      ap one_if (ap (says_of_group shape read group for_group false) e) ∙ sym (ap one_if (ap (says_of_group shape read group for_group (for_group m)) e))
  stays-managing m Other e other =
      ap one_if (ap (says_of_group shape read group for_group false) e) ∙ sym (ap one_if (ap (says_of_group shape read group for_group (for_group m)) e))

  -- a message comes by a link that isn't within: to the group it is handed over, or made
  comes-in : (m : Message) (point : ℕ) (n : Node) → point < shape.nodes → one_if (stays shape read group for_group false m) ≡ 0 → IsLike shape read group for_group n (k.node point)
      → Works shape read group for_group k point (with_taken m n)
  comes-in m point n inside none like = by (is_of shape read group for_group m) refl (is_user_message (read m)) refl
    where
      by : (b : Bool) → is_of shape read group for_group m ≡ b → (c : Bool) → is_user_message (read m) ≡ c → Works shape read group for_group k point (with_taken m n)
      by true e true f = record {
        node = with_submitted m (k.node point);
        edits = edits-one shape read group for_group k point _ (moves.submits (record { point = point; message = m; user = is-user shape read group for_group m f e; after = node-set shape k point _ inside }));
        like = (let t : IsLike shape read group for_group (with_taken m n) (with_taken m (k.node point)) = taken-likes m n (k.node point) like in record { bag = t.bag; accepted = t.accepted; ended = t.ended; gone = t.gone; named = t.named });
      }
      by true e false f =
          absurd (let one : one_if (stays shape read group for_group false m) ≡ 1 = stays-managing m (read m) refl f ∙ ap one_if e in omega (arith, one, none))
      by false e c f = record {
        node = record (k.node point) { bag = m ∷ (k.node point).bag };
        edits = makes-one shape read group for_group k point (k.node point) m inside refl e;
        like = record {
          bag = λ test. omega (arith, like.bag test, count-cons test m (k.node point).bag, count-cons test m n.bag);
          accepted = λ test. omega (arith, like.accepted test, count-cons (user (masked shape read group for_group) test) m n.accepted, one-none shape read group for_group m e test);
          ended = like.ended;
          gone = like.gone;
          named = like.named;
        };
      }

  pub follows-takes_message : TakesMessage shape p q → Follows shape read group for_group q k
  follows-takes_message m =
      let y : Line = line_at p m.place in
      let z : Line = with_accepted y m.rest true m.count (m.message ∷ y.far.came) in
      let gone : Message → Bool = stays shape read group for_group false in
      let none : IsApartLine shape read group for_group m.place y → one_if (gone m.message) ≡ 0 = λ l. omega (arith, ap (frames_by gone) m.first, l.to_near) in
      follows-line shape read group for_group p q k m.place z _ m.after.lines m.after.here m.after.others a h
      (apart-line shape read group for_group p q m.place z _ m.after.lines m.after.here m.after.others
      (λ out l. apart-less shape read group for_group m.place z y
      (record { near = λ test. omega arith; far = λ test. omega arith; to_far = λ test. omega arith; to_near = rest-less m.place (MessageFrame m.fsn m.bsn m.message) m.rest m.first }) l)
      (λ l empty out. omega (arith, count-cons gone m.message (node_at shape p m.place).bag, none l, empty)) a)
      (λ in_it e like. record {
        line = with_accepted (line_at k m.place) m.rest true m.count (m.message ∷ (line_at k m.place).far.came);
        node = with_taken m.message (node_at shape k m.place);
        move = moves.takes_message (record {
          place = m.place;
          fsn = m.fsn;
          bsn = m.bsn;
          message = m.message;
          rest = m.rest;
          first = ap (λ (v : Line). v.to_near) e ∙ m.first;
          up = ap (λ (v : Line). v.near.up) e ∙ m.up;
          count = m.count;
          accepted = ap (λ (v : Line). accept_answer v.near.queue m.fsn m.bsn true) e ∙ m.accepted;
          after = line-set shape k m.place _ _ m.after.lines.inside m.after.inside;
        });
        same = ap (λ (v : Line). with_accepted v m.rest true m.count (m.message ∷ v.far.came)) e;
        like = taken-likes m.message (node_at shape p m.place) (node_at shape k m.place) like;
      })
      (λ out at l like. comes-in m.message (point_at shape m.place) (node_at shape p m.place) m.after.inside (none l) like)
