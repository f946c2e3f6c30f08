-- What holds whatever was broken, and however often nodes start again: the ends of links are sound, and no word has a number that
-- no end has.
use Rattle.network_moves.proofs.Basics.{◌≡◌, ◌≢◌, ℕ, Bool, true, false, not, ◌+◌, ◌≤◌, ◌<◌, ◌^◌, ◌&&◌, ◌||◌, List, [], ◌∷◌, ◌++◌, count_by, drop, nat_eq, nat_lt, refl, ap, sym, ◌∙◌, subst, arith, nat_tests, ⊎_elim, cases_eq, Some, Ok}
use Rattle.network_moves.proofs.Definitions.{Message, WINDOW, Queue, IsQueue, Sending, last_accepted, last_sent, accept_answer, to_send, sound-appended, sound-first, sound-emptied, Side, Near, Far, Saying, UserMessage, Order, Answer, Other, is_user_message, saying, Frame, EmptyFrame, MessageFrame, Phase, Live, Moved, Gone, LinkEnd, Line, Node, Network, Shape, seen, Place, line_at, point_at, node_at, one_if, NodeBecomes, LinesBecome, Becomes, IsTakenFrom, IsEnd, closed_end, first_network, after_answer, appended, emptied, with_failure, with_sent, with_completion, opened_first, Breaks, Move, Moves, last_of}
use Rattle.network_moves.specs.Moves as moves
use Rattle.network_moves.specs.Lasting.{is_odd, odd, ends_stay_sound}
use Rattle.network_moves.specs.Returning.{StartsAgain, restarted, shut_end}
use Rattle.network_moves.specs.Networks.{leads_out, spoofs}
use Rattle.network_moves.proofs.Counts.{count-cons, count-append, count-one}
use Rattle.network_moves.proofs.Lines.{both, true_is_false, false_is_true, busy, is-next, queue-sent}
use Rattle.network_moves.proofs.LinesTaken.{queue-accepted, end-came}
use Rattle.network_moves.proofs.LinesChanged.{opened}
use Rattle.network_moves.proofs.Words.{only-user}
use Rattle.network_moves.proofs.Apart.{frames_by, frames-append, frames-empty, frames-fewer, frames-message, frames-rest, drop-within}
use Rattle.network_moves.proofs.Waiting.{drop-first}
use Rattle.signalling_types.specs.Numbers.{previous_number}

-- an end with another queue, in service or not as before
end-queue : (x : LinkEnd) (q : Queue) → IsEnd x → IsQueue WINDOW q → q.base ≡ 0 → (x.phase ≡ Live → (x.serving || x.incomplete) ≡ false → q.all ≡ []) → IsEnd (record x { queue = q })
end-queue x q h is base idle = record {
  queue = is;
  base = base;
  serving = h.serving;
  incomplete = h.incomplete;
  awaited = h.awaited;
  live_up = h.live_up;
  live_incomplete = h.live_incomplete;
  idle = idle;
}

-- ---- what one end becomes

end-sent : (z : Line) (window : ℕ) (s : Sending) → window ≤ WINDOW → to_send z.near.queue window ≡ Some s → IsEnd z.near → IsEnd (with_sent z s).near
end-sent z window s small e h = end-queue z.near _ h (queue-sent z.near.queue window s small h.queue (is-next z.near.queue window s e)) h.base h.idle

end-taken : (x : LinkEnd) (fsn bsn : ℕ) (carries : Bool) (count : ℕ) → accept_answer x.queue fsn bsn carries ≡ Ok count → IsEnd x → IsEnd (record x { queue = after_answer x.queue carries (Ok count) })
end-taken x fsn bsn carries count e h = end-queue x _ h (queue-accepted x.queue fsn bsn carries count e h.queue) h.base h.idle

end-message : (x : LinkEnd) (m : Message) → x.serving ≡ true → IsEnd x → IsEnd (record x { queue = appended x.queue m })
end-message x m serving h = end-queue x _ h (sound-appended x.queue m h.queue) h.base (λ l e. busy x.serving x.incomplete serving e)

end-failed : (z : Line) → z.near.up ≡ true → IsEnd z.near → IsEnd (with_failure z).near
end-failed z up h = record {
  queue = h.queue;
  base = h.base;
  serving = λ e. e;
  incomplete = λ e. refl;
  awaited = λ e. refl;
  live_up = λ e. false_is_true e;
  live_incomplete = λ e. h.live_up up;
  idle = h.idle;
}

end-waits : (x : LinkEnd) (awaited : Bool) → (awaited ≡ true → x.up ≡ false) → IsEnd x → IsEnd (record x { awaited = awaited })
end-waits x awaited down h = record {
  queue = h.queue;
  base = h.base;
  serving = h.serving;
  incomplete = h.incomplete;
  awaited = down;
  live_up = h.live_up;
  live_incomplete = h.live_incomplete;
  idle = h.idle;
}

end-completed : (x : LinkEnd) (phase : Phase) (awaited : Bool) → (phase ≡ Live → ⊥) → x.incomplete ≡ true → IsEnd x → IsEnd (record x { phase = phase; incomplete = false; awaited = awaited })
end-completed x phase awaited over incomplete h =
    let down : x.up ≡ false = h.incomplete incomplete in
    record {
      queue = h.queue;
      base = h.base;
      serving = h.serving;
      incomplete = λ e. down;
      awaited = λ e. down;
      live_up = λ e. both e down;
      live_incomplete = λ e. false_is_true e;
      idle = λ l e. absurd (over l);
    }

end-served : (x : LinkEnd) → x.up ≡ true → IsEnd x → IsEnd (record x { serving = true })
end-served x up h = record {
  queue = h.queue;
  base = h.base;
  serving = λ e. up;
  incomplete = h.incomplete;
  awaited = h.awaited;
  live_up = h.live_up;
  live_incomplete = h.live_incomplete;
  idle = λ l e. true_is_false e;
}

end-heard : (x : LinkEnd) → IsEnd x → IsEnd (record x { heard = true })
end-heard x h = record {
  queue = h.queue;
  base = h.base;
  serving = h.serving;
  incomplete = h.incomplete;
  awaited = h.awaited;
  live_up = h.live_up;
  live_incomplete = h.live_incomplete;
  idle = h.idle;
}

end-led : (x : LinkEnd) (gone : List Message) → x.up ≡ false → x.incomplete ≡ false → IsEnd x → IsEnd (record x { queue = emptied x.queue; phase = Live; gone = gone })
end-led x gone down complete h = record {
  queue = sound-emptied WINDOW x.queue h.queue.limit;
  base = refl;
  serving = h.serving;
  incomplete = h.incomplete;
  awaited = h.awaited;
  live_up = λ e. refl;
  live_incomplete = λ e. refl;
  idle = λ l e. refl;
}

shut : (came gone : List Message) → IsEnd (shut_end came gone)
shut came gone = record {
  queue = sound-first WINDOW (omega arith);
  base = refl;
  serving = λ e. false_is_true e;
  incomplete = λ e. false_is_true e;
  awaited = λ e. false_is_true e;
  live_up = λ e. false_is_true e;
  live_incomplete = λ e. false_is_true e;
  idle = λ l e. refl;
}

or-more : (a b : Bool) → one_if b ≤ one_if (a || b)
or-more true true = omega arith
or-more true false = omega arith
or-more false b = omega arith

seen-twice : (side : Side) (z : Line) → seen side (seen side z) ≡ z
seen-twice Near z = refl
seen-twice Far z = refl

-- a word that doesn't speak for others has a number of 24 bits
odd-speaks : (shape : Shape) (link : ℕ) (s : Saying) → one_if (is_odd s) ≤ one_if (spoofs shape link s)
odd-speaks shape link UserMessage = omega arith
odd-speaks shape link (Order about maker number) = or-more (not (nat_eq about link) && not (leads_out shape about)) (not (nat_lt number (2 ^ 24)))
odd-speaks shape link (Answer about maker number) = or-more (not (nat_eq about link) && not (leads_out shape about)) (not (nat_lt number (2 ^ 24)))
odd-speaks shape link Other = omega arith

moved-over : Moved ≡ Live → ⊥
moved-over e = absurd cc

gone-over : Gone ≡ Live → ⊥
gone-over e = absurd cc

-- ---- the numbers of words

number-fits : (n : ℕ) → previous_number n < 2 ^ 24
number-fits n = omega arith

fits-so : (n : ℕ) → n < 2 ^ 24 → not (nat_lt n (2 ^ 24)) ≡ false
fits-so n l = grind (arith, nat_tests, l)

module _ (shape : Shape) (read : Message → Saying) where
  -- ---- a line, and a network

  pub record LastsLine (z : Line) : Type 0 where
    pub near : IsEnd z.near
    pub far : IsEnd z.far
    pub near_plain : count_by (odd read) z.near.queue.all ≡ 0
    pub far_plain : count_by (odd read) z.far.queue.all ≡ 0
    pub to_far : frames_by (odd read) z.to_far ≡ 0
    pub to_near : frames_by (odd read) z.to_near ≡ 0

  pub record Lasts (p : Network) : Type 0 where
    pub bags : (x : ℕ) → count_by (odd read) (p.node x).bag ≡ 0
    pub lines : (link : ℕ) → LastsLine (p.line link)

  lasts-seen : (side : Side) (z : Line) → LastsLine z → LastsLine (seen side z)
  lasts-seen Near z h = h
  lasts-seen Far z h = record { near = h.far; far = h.near; near_plain = h.far_plain; far_plain = h.near_plain; to_far = h.to_near; to_near = h.to_far }

  pub lasts-at : (p : Network) (place : Place) → Lasts p → LastsLine (line_at p place)
  lasts-at p place h = lasts-seen place.side (p.line place.link) (h.lines place.link)

  pub lasts-line : (p q : Network) (place : Place) (z : Line) (n : Node) → LinesBecome shape p q place z → q.node (point_at shape place) ≡ n → ((x : ℕ) → x ≢ point_at shape place → q.node x ≡ p.node x)
      → LastsLine z → count_by (odd read) n.bag ≡ 0 → Lasts p → Lasts q
  lasts-line p q place z n set is others line bag h = record {
    bags = λ x.
        ⊎_elim
        (λ (same : x ≡ point_at shape place). subst (λ (i : ℕ). count_by (odd read) (q.node i).bag ≡ 0) (sym same) (subst (λ (v : Node). count_by (odd read) v.bag ≡ 0) (sym is) bag))
        (λ (d : x ≢ point_at shape place). subst (λ (v : Node). count_by (odd read) v.bag ≡ 0) (sym (others x d)) (h.bags x))
        (cases_eq x (point_at shape place));
    lines = λ link.
        ⊎_elim
        (λ (same : link ≡ place.link). subst (λ (i : ℕ). LastsLine (q.line i)) (sym same) (subst LastsLine (sym set.here) (lasts-seen place.side z line)))
        (λ (d : link ≢ place.link). subst LastsLine (sym (set.others link d)) (h.lines link))
        (cases_eq link place.link);
  }

  pub lasts-node : (p q : Network) (point : ℕ) (n : Node) → NodeBecomes shape p q point n → count_by (odd read) n.bag ≡ 0 → Lasts p → Lasts q
  lasts-node p q point n after bag h = record {
    bags = λ x.
        ⊎_elim
        (λ (same : x ≡ point). subst (λ (i : ℕ). count_by (odd read) (q.node i).bag ≡ 0) (sym same) (subst (λ (v : Node). count_by (odd read) v.bag ≡ 0) (sym after.here) bag))
        (λ (d : x ≢ point). subst (λ (v : Node). count_by (odd read) v.bag ≡ 0) (sym (after.others x d)) (h.bags x))
        (cases_eq x point);
    lines = λ link. subst LastsLine (sym (after.lines link)) (h.lines link);
  }

  -- ---- single messages

  says-plain : (m : Message) (s : Saying) → read m ≡ s → is_odd s ≡ false → one_if (odd read m) ≡ 0
  says-plain m s e f = ap one_if (ap is_odd e ∙ f)

  user-plain : (m : Message) → is_user_message (read m) ≡ true → one_if (odd read m) ≡ 0
  user-plain m e = says-plain m UserMessage (only-user (read m) e) refl

  word-plain : (z : Line) → not (nat_lt (last_accepted z.near.queue) (2 ^ 24)) ≡ false
  word-plain z = fits-so (last_accepted z.near.queue) (number-fits z.near.queue.received)

  left-plain : (bag rest : List Message) (m : Message) → IsTakenFrom bag m rest → count_by (odd read) bag ≡ 0 → (count_by (odd read) rest ≡ 0) × (one_if (odd read m) ≡ 0)
  left-plain bag rest m t none = (omega (arith, t.counted (odd read), none), omega (arith, t.counted (odd read), none))

  cons-plain : (m : Message) (ms : List Message) → one_if (odd read m) ≡ 0 → count_by (odd read) ms ≡ 0 → count_by (odd read) (m ∷ ms) ≡ 0
  cons-plain m ms e f = omega (arith, count-cons (odd read) m ms, e, f)

  behind-plain : (n : ℕ) (all rest : List Message) → count_by (odd read) all ≡ 0 → count_by (odd read) rest ≡ 0 → count_by (odd read) (drop n all ++ rest) ≡ 0
  behind-plain n all rest e f = omega (arith, count-append (odd read) (drop n all) rest, drop-within (odd read) n all, e, f)

  rest-plain : (frame : Frame) (rest frames : List Frame) → frames ≡ frame ∷ rest → frames_by (odd read) frames ≡ 0 → frames_by (odd read) rest ≡ 0
  rest-plain frame rest frames e h = omega (arith, ap (frames_by (odd read)) e, frames-rest (odd read) frame rest, h)

  next-stands : (q : Queue) (window : ℕ) (sending : Sending) → to_send q window ≡ Some sending → one_if (odd read sending.message) ≤ count_by (odd read) q.all
  next-stands q window sending e =
      omega (
        arith,
        ap (count_by (odd read)) (drop-first q.all q.sent sending.message (is-next q window sending e).message),
        count-cons (odd read) sending.message (drop (q.sent + 1) q.all),
        drop-within (odd read) q.sent q.all,
      )

  -- the near end is another, with the same messages
  with-end : (z : Line) (x : LinkEnd) → x.queue.all ≡ z.near.queue.all → IsEnd x → LastsLine z → LastsLine (record z { near = x })
  with-end z x e is h = record {
    near = is;
    far = h.far;
    near_plain = ap (count_by (odd read)) e ∙ h.near_plain;
    far_plain = h.far_plain;
    to_far = h.to_far;
    to_near = h.to_near;
  }

  module _ (p q : Network) (h : Lasts p) where
    here-line : (place : Place) → LastsLine (line_at p place)
    here-line place = lasts-at p place h

    here-bag : (place : Place) → count_by (odd read) (node_at shape p place).bag ≡ 0
    here-bag place = h.bags (point_at shape place)

    -- only a line becomes another
    by-line : (place : Place) (z : Line) → Becomes shape p q place z (node_at shape p place) → LastsLine z → Lasts q
    by-line place z after line = lasts-line p q place z _ after.lines after.here after.others line (here-bag place) h

    by-both : (place : Place) (z : Line) (n : Node) → Becomes shape p q place z n → LastsLine z → count_by (odd read) n.bag ≡ 0 → Lasts q
    by-both place z n after line bag = lasts-line p q place z n after.lines after.here after.others line bag h

    by-break : (place : Place) (z : Line) (n : Node) → Breaks shape p q place z n → LastsLine z → count_by (odd read) n.bag ≡ 0 → Lasts q
    by-break place z n after line bag = lasts-line p q place z n after.lines after.here after.others line bag h

    -- the near end completes its changeover
    completed-line : (place : Place) (phase : Phase) (awaited : Bool) → (phase ≡ Live → ⊥) → (line_at p place).near.incomplete ≡ true → LastsLine (with_completion (line_at p place) phase awaited)
    completed-line place phase awaited over incomplete =
        with-end (line_at p place) _ refl (end-completed (line_at p place).near phase awaited over incomplete (here-line place).near) (here-line place)

    -- a node starts again
    restarted-line : (z : Line) → LastsLine z → LastsLine (restarted z)
    restarted-line z l = record { near = shut z.near.came z.near.gone; far = l.far; near_plain = refl; far_plain = l.far_plain; to_far = l.to_far; to_near = refl }

    line-restarts : (place : Place) → line_at q place ≡ restarted (line_at p place) → LastsLine (q.line place.link)
    line-restarts place e =
        subst LastsLine (seen-twice place.side (q.line place.link))
        (lasts-seen place.side (line_at q place) (subst LastsLine (sym e) (restarted-line (line_at p place) (here-line place))))

    starts-again : StartsAgain shape read p q → Lasts q
    starts-again m = record {
      bags = λ x.
          ⊎_elim
          (λ (same : x ≡ m.point). subst (λ (i : ℕ). count_by (odd read) (q.node i).bag ≡ 0) (sym same) (ap (count_by (odd read)) m.empty))
          (λ (d : x ≢ m.point). subst (λ (v : Node). count_by (odd read) v.bag ≡ 0) (sym (m.others x d)) (h.bags x))
          (cases_eq x m.point);
      lines = λ link.
          ⊎_elim
          (λ (near : shape.point link Near ≡ m.point). line-restarts (record { link = link; side = Near }) (m.ends _ near))
          (λ (no : shape.point link Near ≢ m.point).
          ⊎_elim
          (λ (far : shape.point link Far ≡ m.point). line-restarts (record { link = link; side = Far }) (m.ends _ far))
          (λ (none : shape.point link Far ≢ m.point). subst LastsLine (sym (m.lines link no none)) (h.lines link))
          (cases_eq (shape.point link Far) m.point))
          (cases_eq (shape.point link Near) m.point);
    }

    lasts-move : Move shape read p q → Lasts q
    lasts-move (moves.submits m) = lasts-node p q m.point _ m.after (cons-plain m.message (p.node m.point).bag (user-plain m.message m.user) (h.bags m.point)) h
    lasts-move (moves.makes m) = lasts-node p q m.point _ m.after (cons-plain m.message (p.node m.point).bag (says-plain m.message Other m.other refl) (h.bags m.point)) h
    lasts-move (moves.ends m) = lasts-node p q m.point _ m.after (left-plain _ m.rest m.message m.taken (h.bags m.point)).0 h
    lasts-move (moves.gives_up m) = lasts-node p q m.point _ m.after (left-plain _ m.rest m.message m.taken (h.bags m.point)).0 h
    lasts-move (moves.discards m) = lasts-node p q m.point _ m.after (left-plain _ m.rest m.message m.taken (h.bags m.point)).0 h
    lasts-move (moves.places m) =
        let y : Line = line_at p m.place in
        let l : LastsLine y = here-line m.place in
        let t : (count_by (odd read) m.rest ≡ 0) × (one_if (odd read m.message) ≡ 0) = left-plain (node_at shape p m.place).bag m.rest m.message m.taken (here-bag m.place) in
        by-both m.place _ _ m.after
        (record {
          near = end-message y.near m.message m.serving l.near;
          far = l.far;
          near_plain = omega (arith, count-append (odd read) y.near.queue.all (m.message ∷ []), count-one (odd read) m.message, l.near_plain, t.1);
          far_plain = l.far_plain;
          to_far = l.to_far;
          to_near = l.to_near;
        })
        t.0
    lasts-move (moves.sends_status m) =
        let l : LastsLine (line_at p m.place) = here-line m.place in
        by-line m.place _ m.after (record { near = l.near; far = l.far; near_plain = l.near_plain; far_plain = l.far_plain; to_far = l.to_far; to_near = l.to_near })
    lasts-move (moves.sends_message m) =
        let y : Line = line_at p m.place in
        let l : LastsLine y = here-line m.place in
        by-line m.place _ m.after
        (record {
          near = end-sent y m.window m.sending m.small m.next l.near;
          far = l.far;
          near_plain = l.near_plain;
          far_plain = l.far_plain;
          to_far = omega (arith, frames-message (odd read) m.sending.number (last_accepted y.near.queue) m.sending.message y.to_far, l.to_far, next-stands y.near.queue m.window m.sending m.next, l.near_plain);
          to_near = l.to_near;
        })
    lasts-move (moves.sends_empty m) =
        let y : Line = line_at p m.place in
        let l : LastsLine y = here-line m.place in
        by-line m.place _ m.after
        (record {
          near = l.near;
          far = l.far;
          near_plain = l.near_plain;
          far_plain = l.far_plain;
          to_far = omega (arith, frames-empty (odd read) (last_sent y.near.queue) (last_accepted y.near.queue) y.to_far, l.to_far);
          to_near = l.to_near;
        })
    lasts-move (moves.hears_status m) = by-line m.place _ m.after (with-end (line_at p m.place) _ refl (end-heard (line_at p m.place).near (here-line m.place).near) (here-line m.place))
    lasts-move (moves.takes_status m) =
        let l : LastsLine (line_at p m.place) = here-line m.place in
        by-line m.place _ m.after (record { near = l.near; far = l.far; near_plain = l.near_plain; far_plain = l.far_plain; to_far = l.to_far; to_near = l.to_near })
    lasts-move (moves.doubles_status m) =
        let l : LastsLine (line_at p m.place) = here-line m.place in
        by-line m.place _ m.after (record { near = l.near; far = l.far; near_plain = l.near_plain; far_plain = l.far_plain; to_far = l.to_far; to_near = l.to_near })
    lasts-move (moves.drops m) =
        let l : LastsLine (line_at p m.place) = here-line m.place in
        by-line m.place _ m.after
        (record { near = l.near; far = l.far; near_plain = l.near_plain; far_plain = l.far_plain; to_far = l.to_far; to_near = rest-plain m.frame m.rest _ m.first l.to_near })
    lasts-move (moves.takes_empty m) =
        let y : Line = line_at p m.place in
        let l : LastsLine y = here-line m.place in
        by-line m.place _ m.after
        (record {
          near = end-taken y.near m.fsn m.bsn false m.count m.accepted l.near;
          far = end-came y.far y.far.came l.far;
          near_plain = l.near_plain;
          far_plain = l.far_plain;
          to_far = l.to_far;
          to_near = rest-plain (EmptyFrame m.fsn m.bsn) m.rest _ m.first l.to_near;
        })
    lasts-move (moves.takes_message m) =
        let y : Line = line_at p m.place in
        let l : LastsLine y = here-line m.place in
        by-both m.place _ _ m.after
        (record {
          near = end-taken y.near m.fsn m.bsn true m.count m.accepted l.near;
          far = end-came y.far (m.message ∷ y.far.came) l.far;
          near_plain = l.near_plain;
          far_plain = l.far_plain;
          to_far = l.to_far;
          to_near = rest-plain (MessageFrame m.fsn m.bsn m.message) m.rest _ m.first l.to_near;
        })
        (cons-plain m.message (node_at shape p m.place).bag (omega (arith, ap (frames_by (odd read)) m.first, l.to_near)) (here-bag m.place))
    lasts-move (moves.falls m) = by-line m.place _ m.after (with-end (line_at p m.place) _ refl (end-failed (line_at p m.place) m.up (here-line m.place).near) (here-line m.place))
    lasts-move (moves.orders m) =
        let y : Line = line_at p m.place in
        by-both m.place _ _ m.after (with-end y _ refl (end-waits y.near true (λ e. (here-line m.place).near.incomplete m.incomplete) (here-line m.place).near) (here-line m.place))
        (cons-plain m.order (node_at shape p m.place).bag (says-plain m.order _ m.says (word-plain y)) (here-bag m.place))
    lasts-move (moves.completes_by_order m) =
        let y : Line = line_at p m.place in
        by-both m.place _ _ m.after (completed-line m.place Moved y.near.awaited moved-over m.incomplete)
        (cons-plain m.answer (drop m.count y.near.queue.all ++ m.rest) (says-plain m.answer _ m.answers (word-plain y))
        (behind-plain m.count y.near.queue.all m.rest (here-line m.place).near_plain (left-plain (node_at shape p m.place).bag m.rest m.order m.taken (here-bag m.place)).0))
    lasts-move (moves.answers_order m) =
        lasts-node p q (point_at shape m.place) _ m.after
        (cons-plain m.answer m.rest (says-plain m.answer _ m.answers (word-plain (line_at p m.place))) (left-plain (node_at shape p m.place).bag m.rest m.order m.taken (here-bag m.place)).0) h
    lasts-move (moves.completes_by_answer m) =
        by-both m.place _ _ m.after (completed-line m.place Moved false moved-over m.incomplete)
        (behind-plain m.count (line_at p m.place).near.queue.all m.rest (here-line m.place).near_plain (left-plain (node_at shape p m.place).bag m.rest m.answer m.taken (here-bag m.place)).0)
    lasts-move (moves.ends_wait m) =
        let y : Line = line_at p m.place in
        by-both m.place _ _ m.after (with-end y _ refl (end-waits y.near false (λ e. false_is_true e) (here-line m.place).near) (here-line m.place))
        (left-plain (node_at shape p m.place).bag m.rest m.answer m.taken (here-bag m.place)).0
    lasts-move (moves.completes_by_time m) =
        let y : Line = line_at p m.place in
        by-both m.place _ _ m.after (completed-line m.place Gone y.near.awaited gone-over m.incomplete)
        (behind-plain y.near.queue.sent y.near.queue.all (node_at shape p m.place).bag (here-line m.place).near_plain (here-bag m.place))
    lasts-move (moves.opens_first m) =
        let y : Line = line_at p m.place in
        by-line m.place _ m.after
        (record {
          near = opened (opened_first y).near.came (opened_first y).near.gone;
          far = end-led y.far (opened_first y).far.gone m.far_may.down m.far_may.complete (here-line m.place).far;
          near_plain = refl;
          far_plain = refl;
          to_far = refl;
          to_near = refl;
        })
    lasts-move (moves.opens_second m) =
        let y : Line = line_at p m.place in
        let l : LastsLine y = here-line m.place in
        by-line m.place _ m.after (record { near = opened y.near.came y.near.gone; far = l.far; near_plain = refl; far_plain = l.far_plain; to_far = l.to_far; to_near = l.to_near })
    lasts-move (moves.enters m) = by-line m.place _ m.after (with-end (line_at p m.place) _ refl (end-served (line_at p m.place).near m.up (here-line m.place).near) (here-line m.place))
    lasts-move (moves.releases_bar m) =
        let y : Line = line_at p m.place in
        by-break m.place _ _ m.after (with-end y _ refl (end-waits y.near false (λ e. false_is_true e) (here-line m.place).near) (here-line m.place)) (here-bag m.place)
    lasts-move (moves.gives_up_following m) =
        let l : LastsLine (line_at p m.place) = here-line m.place in
        by-break m.place _ _ m.after
        (record { near = l.near; far = l.far; near_plain = l.near_plain; far_plain = l.far_plain; to_far = l.to_far; to_near = l.to_near })
        (here-bag m.place)
    lasts-move (moves.hears_unreasonable_order m) =
        let y : Line = line_at p m.place in
        by-break m.place _ _ m.after (completed-line m.place Gone y.near.awaited gone-over m.incomplete)
        (behind-plain y.near.queue.sent y.near.queue.all (m.answer ∷ m.rest) (here-line m.place).near_plain
        (cons-plain m.answer m.rest (says-plain m.answer _ m.answers (word-plain y)) (left-plain (node_at shape p m.place).bag m.rest m.order m.taken (here-bag m.place)).0))
    lasts-move (moves.hears_unreasonable_answer m) =
        let y : Line = line_at p m.place in
        by-break m.place _ _ m.after (completed-line m.place Gone false gone-over m.incomplete)
        (behind-plain y.near.queue.sent y.near.queue.all m.rest (here-line m.place).near_plain (left-plain (node_at shape p m.place).bag m.rest m.answer m.taken (here-bag m.place)).0)
    lasts-move (moves.strays m) =
        let y : Line = line_at p m.place in
        let l : LastsLine y = here-line m.place in
        by-break m.place _ _ m.after
        (record {
          near = shut y.near.came y.near.gone;
          far = l.far;
          near_plain = refl;
          far_plain = l.far_plain;
          to_far =
              omega (
                arith,
                m.own,
                l.to_far,
                m.fewer (odd read),
                frames-append (odd read) m.left m.new,
                frames-fewer (odd read) (saying read (spoofs shape m.place.link)) (λ x. odd-speaks shape m.place.link (read x)) m.new,
              );
          to_near = refl;
        })
        (here-bag m.place)
    lasts-move (moves.starts_again m) = starts-again m

  pub lasts-after : (p : Network) (networks : List Network) → Moves shape read p networks → Lasts p → Lasts (last_of p networks)
  lasts-after p [] ms h = h
  lasts-after p (q ∷ rest) ms h = lasts-after q rest ms.1 (lasts-move p q h ms.0)

  first-end : IsEnd closed_end
  first-end = shut [] []

  pub lasts-first : Lasts first_network
  lasts-first = record {
    bags = λ x. refl;
    lines = λ link. record { near = first-end; far = first-end; near_plain = refl; far_plain = refl; to_far = refl; to_near = refl };
  }

pub ends-last : ends_stay_sound
ends-last shape read networks ms =
    let h : Lasts shape read (last_of first_network networks) = lasts-after shape read first_network networks ms (lasts-first shape read) in
    record {
      ends = λ place. (lasts-at shape read (last_of first_network networks) place h).near;
      nodes = h.bags;
      queues = λ place. (lasts-at shape read (last_of first_network networks) place h).near_plain;
    }
