-- The run of the example: each pair of ends comes from the one before by a move.
use Rattle.std.proofs.Common.{◌≡◌, ◌≢◌, inl, inr, true, false, List, [], ◌∷◌, refl, ap, sym, subst, arith}
use Rattle.std.specs.List.{Contains}
use Rattle.sctp_moves.specs.Ends.{Name, Cookie, Chunk, Acknowledgement, Epoch, new_epoch, Closed, CookieWait, CookieEchoed, Established, End, Ends, new_ends}
use Rattle.sctp_moves.specs.Moves as moves
use Rattle.sctp_moves.specs.Moves.{IsUnused, answer_to, Move}
use Rattle.sctp_moves.specs.Example.{near_name, far_name, next_near_name, next_far_name, old_cookie, next_cookie, lost_message, first_message, second_message}
use Rattle.sctp_moves.specs.Example.{first_chunk, second_chunk, other_cookie, Happens}
use Rattle.sctp_moves.proofs.Members.{In, in-from}

-- ---- the associations, as they go

abbrev n0 : Epoch
n0 = new_epoch near_name far_name

abbrev n1 : Epoch
n1 = record n0 { sent = lost_message ∷ [] }

abbrev n2 : Epoch
n2 = record n1 { heard = record { place = 1; message = second_message } ∷ [] }

abbrev n3 : Epoch
n3 = record n2 { heard = record { place = 0; message = first_message } ∷ n2.heard }

abbrev n4 : Epoch
n4 = record n3 { heard = record { place = 0; message = first_message } ∷ n3.heard }

abbrev n5 : Epoch
n5 = record n4 { received = first_message ∷ [] }

abbrev n6 : Epoch
n6 = record n5 { received = first_message ∷ second_message ∷ [] }

abbrev f0 : Epoch
f0 = new_epoch far_name near_name

abbrev f1 : Epoch
f1 = record f0 { sent = first_message ∷ [] }

abbrev f2 : Epoch
f2 = record f1 { sent = first_message ∷ second_message ∷ [] }

abbrev f3 : Epoch
f3 = record f2 { acked = 2 }

abbrev lost_chunk : Chunk
lost_chunk = record { to = 21; number = 7; message = lost_message; place = 0 }

abbrev the_ack : Acknowledgement
the_ack = record { to = 21; number = 0; count = 2 }

-- ---- both ends, move by move

abbrev s0 : Ends
s0 = new_ends

abbrev s1 : Ends
s1 = record s0 { far = record s0.far { wanted = true } }

abbrev s2 : Ends
s2 = record s1 { near = record s1.near { wanted = true } }

abbrev s3 : Ends
s3 = record s2 { far = record s2.far { generation = 1; drawn = far_name ∷ []; phase = CookieWait far_name; inits = far_name ∷ [] } }

abbrev s4 : Ends
s4 = record s3 { near = record s3.near { drawn = near_name ∷ []; answers = answer_to 0 near_name far_name ∷ [] } }

abbrev s5 : Ends
s5 = record s4 { far = record s4.far { phase = CookieEchoed far_name near_name; echoes = old_cookie ∷ [] } }

abbrev s6 : Ends
s6 = record s5 { near = record s5.near { generation = 1; phase = Established; epochs = n0 ∷ [] } }

abbrev s7 : Ends
s7 = record s6 { near = record s6.near { cookie_acks = 21 ∷ [] } }

abbrev s8 : Ends
s8 = record s7 { near = record s7.near { epochs = n1 ∷ [] } }

abbrev s9 : Ends
s9 = record s8 { near = record s8.near { chunks = lost_chunk ∷ [] } }

abbrev s10 : Ends
s10 = record s9 { far = record s9.far { generation = 2; phase = Established; epochs = f0 ∷ [] } }

abbrev s11 : Ends
s11 = record s10 { far = record s10.far { epochs = f1 ∷ [] } }

abbrev s12 : Ends
s12 = record s11 { far = record s11.far { epochs = f2 ∷ [] } }

abbrev s13 : Ends
s13 = record s12 { far = record s12.far { chunks = first_chunk ∷ [] } }

abbrev s14 : Ends
s14 = record s13 { far = record s13.far { chunks = second_chunk ∷ first_chunk ∷ [] } }

abbrev s15 : Ends
s15 = record s14 { near = record s14.near { epochs = n2 ∷ [] } }

abbrev s16 : Ends
s16 = record s15 { near = record s15.near { epochs = n3 ∷ [] } }

abbrev s17 : Ends
s17 = record s16 { near = record s16.near { epochs = n4 ∷ [] } }

abbrev s18 : Ends
s18 = record s17 { near = record s17.near { epochs = n5 ∷ [] } }

abbrev s19 : Ends
s19 = record s18 { near = record s18.near { epochs = n6 ∷ [] } }

abbrev s20 : Ends
s20 = record s19 { near = record s19.near { acks = the_ack ∷ [] } }

abbrev s21 : Ends
s21 = record s20 { far = record s20.far { epochs = f3 ∷ [] } }

abbrev s22 : Ends
s22 = record s21 { near = record s21.near { generation = 2; wanted = false; phase = Closed } }

abbrev s23 : Ends
s23 = record s22 { near = record s22.near { wanted = true } }

abbrev s24 : Ends
s24 = record s23 { far = record s23.far { generation = 3; wanted = false; phase = Closed } }

abbrev s25 : Ends
s25 = record s24 { far = record s24.far { wanted = true } }

abbrev s26 : Ends
s26 = record s25 { far = record s25.far { generation = 4; drawn = next_far_name ∷ far_name ∷ []; phase = CookieWait next_far_name; inits = next_far_name ∷ far_name ∷ [] } }

abbrev s27 : Ends
s27 = record s26 { near = record s26.near { drawn = next_near_name ∷ near_name ∷ []; answers = answer_to 2 next_near_name next_far_name ∷ answer_to 0 near_name far_name ∷ [] } }

abbrev s28 : Ends
s28 = record s27 { far = record s27.far { phase = CookieEchoed next_far_name next_near_name; echoes = next_cookie ∷ old_cookie ∷ [] } }

abbrev s29 : Ends
s29 = record s28 { near = record s28.near { generation = 3; phase = Established; epochs = new_epoch next_near_name next_far_name ∷ n6 ∷ [] } }

abbrev s30 : Ends
s30 = record s29 { near = record s29.near { cookie_acks = 22 ∷ 21 ∷ [] } }

abbrev s31 : Ends
s31 = record s30 { far = record s30.far { generation = 5; phase = Established; epochs = new_epoch next_far_name next_near_name ∷ f3 ∷ [] } }

-- ---- the moves

-- each of one
each-one : {A : Type 0} (P : A → Type 0) (x : A) → P x → (y : A) → Contains (x ∷ []) y → P y
each-one P x h y c = by (in-from (x ∷ []) y c) where
  by : In y (x ∷ []) → P y
  by (inl e) = subst P (sym e) h
  by (inr i) = absurd i

-- a tag of an end that has drawn none
first-of-all : (p : End) (own : Name) → p.drawn ≡ [] → p.echoes ≡ [] → p.epochs ≡ [] → IsUnused p own
first-of-all p own drawn echoes epochs = record {
  named = λ n c e. absurd (in-from [] n (subst (λ (xs : List Name). Contains xs n) drawn c));
  unechoed = λ n c e. in-from [] n (subst (λ (xs : List Cookie). Contains xs n) echoes c);
  unopened = λ n c e. in-from [] n (subst (λ (xs : List Epoch). Contains xs n) epochs c);
}

m1 : Move s0 s1
m1 = moves.far (moves.wants (record { after = refl })) refl

m2 : Move s1 s2
m2 = moves.near (moves.wants (record { after = refl })) refl

m3 : Move s2 s3
m3 = moves.far (moves.begins (record { closed = refl; wanted = refl; own = far_name; unused = first-of-all s2.far far_name refl refl refl; generation = 1; later = omega arith; after = refl })) refl

m4 : Move s3 s4
m4 = moves.near (moves.answers_anew (record { init = far_name; there = (0, omega arith, refl); own = near_name; unused = first-of-all s3.near near_name refl refl refl; after = refl })) refl

m5 : Move s4 s5
m5 = moves.far (moves.echoes (record { own = far_name; waits = refl; answer = answer_to 0 near_name far_name; there = (0, omega arith, refl); to = refl; after = refl })) refl

m6 : Move s5 s6
m6 = moves.near (moves.opens_by_cookie (record { wanted = refl; cookie = old_cookie; there = (0, omega arith, refl); present = refl; may = tt; generation = 1; later = omega arith; after = refl })) refl

m7 : Move s6 s7
m7 = moves.near (moves.sends_cookie_ack (record { up = refl; epoch = n0; past = []; now = refl; after = refl })) refl

m8 : Move s7 s8
m8 = moves.near (moves.takes (record { up = refl; epoch = n0; past = []; now = refl; message = lost_message; room = omega arith; after = refl })) refl

m9 : Move s8 s9
m9 = moves.near (moves.sends_chunk (record { up = refl; epoch = n1; past = []; now = refl; place = 0; message = lost_message; taken = refl; after = refl })) refl

m10 : Move s9 s10
m10 = moves.far (moves.opens_by_ack (record { own = far_name; far = near_name; echoed = refl; there = (0, omega arith, refl); generation = 2; later = omega arith; after = refl })) refl

m11 : Move s10 s11
m11 = moves.far (moves.takes (record { up = refl; epoch = f0; past = []; now = refl; message = first_message; room = omega arith; after = refl })) refl

m12 : Move s11 s12
m12 = moves.far (moves.takes (record { up = refl; epoch = f1; past = []; now = refl; message = second_message; room = omega arith; after = refl })) refl

m13 : Move s12 s13
m13 = moves.far (moves.sends_chunk (record { up = refl; epoch = f2; past = []; now = refl; place = 0; message = first_message; taken = refl; after = refl })) refl

m14 : Move s13 s14
m14 = moves.far (moves.sends_chunk (record { up = refl; epoch = f2; past = []; now = refl; place = 1; message = second_message; taken = refl; after = refl })) refl

m15 : Move s14 s15
m15 = moves.near (moves.hears_chunk (record { up = refl; epoch = n1; past = []; now = refl; chunk = second_chunk; there = (0, omega arith, refl); to = refl; young = omega arith; ahead = 1; distance = refl; within = omega arith; after = refl })) refl

m16 : Move s15 s16
m16 = moves.near (moves.hears_chunk (record { up = refl; epoch = n2; past = []; now = refl; chunk = first_chunk; there = (1, omega arith, refl); to = refl; young = omega arith; ahead = 0; distance = refl; within = omega arith; after = refl })) refl

m17 : Move s16 s17
m17 = moves.near (moves.hears_chunk (record { up = refl; epoch = n3; past = []; now = refl; chunk = first_chunk; there = (1, omega arith, refl); to = refl; young = omega arith; ahead = 0; distance = refl; within = omega arith; after = refl })) refl

m18 : Move s17 s18
m18 = moves.near (moves.hands_up (record { up = refl; epoch = n4; past = []; now = refl; message = first_message; next = (0, omega arith, refl); after = refl })) refl

m19 : Move s18 s19
m19 = moves.near (moves.hands_up (record { up = refl; epoch = n5; past = []; now = refl; message = second_message; next = (2, omega arith, refl); after = refl })) refl

m20 : Move s19 s20
m20 = moves.near (moves.sends_ack (record { up = refl; epoch = n6; past = []; now = refl; after = refl })) refl

m21 : Move s20 s21
m21 = moves.far (moves.hears_ack (record { up = refl; epoch = f2; past = []; now = refl; ack = the_ack; there = (0, omega arith, refl); to = refl; young = omega arith; ahead = 2; distance = refl; within = omega arith; after = refl })) refl

m22 : Move s21 s22
m22 = moves.near (moves.finishes (record { generation = 2; later = omega arith; after = refl })) refl

m23 : Move s22 s23
m23 = moves.near (moves.wants (record { after = refl })) refl

m24 : Move s23 s24
m24 = moves.far (moves.finishes (record { generation = 3; later = omega arith; after = refl })) refl

m25 : Move s24 s25
m25 = moves.far (moves.wants (record { after = refl })) refl

next-far : IsUnused s25.far next_far_name
next-far = record {
  named = each-one (λ (n : Name). n.tag ≡ 22 → n ≡ next_far_name) far_name (λ (q : 21 ≡ 22). absurd (omega (arith, q)));
  unechoed = each-one (λ (c : Cookie). c.far.tag ≢ 22) old_cookie (λ (q : 21 ≡ 22). omega (arith, q));
  unopened = each-one (λ (e : Epoch). e.own.tag ≢ 22) f3 (λ (q : 21 ≡ 22). omega (arith, q));
}

m26 : Move s25 s26
m26 = moves.far (moves.begins (record { closed = refl; wanted = refl; own = next_far_name; unused = next-far; generation = 4; later = omega arith; after = refl })) refl

next-near : IsUnused s26.near next_near_name
next-near = record {
  named = each-one (λ (n : Name). n.tag ≡ 12 → n ≡ next_near_name) near_name (λ (q : 11 ≡ 12). absurd (omega (arith, q)));
  unechoed = λ c i e. in-from [] c i;
  unopened = each-one (λ (e : Epoch). e.own.tag ≢ 12) n6 (λ (q : 11 ≡ 12). omega (arith, q));
}

m27 : Move s26 s27
m27 = moves.near (moves.answers_anew (record { init = next_far_name; there = (0, omega arith, refl); own = next_near_name; unused = next-near; after = refl })) refl

m28 : Move s27 s28
m28 = moves.far (moves.echoes (record { own = next_far_name; waits = refl; answer = answer_to 2 next_near_name next_far_name; there = (0, omega arith, refl); to = refl; after = refl })) refl

m29 : Move s28 s29
m29 = moves.near (moves.opens_by_cookie (record { wanted = refl; cookie = next_cookie; there = (0, omega arith, refl); present = refl; may = tt; generation = 3; later = omega arith; after = refl })) refl

m30 : Move s29 s30
m30 = moves.near (moves.sends_cookie_ack (record { up = refl; epoch = new_epoch next_near_name next_far_name; past = n6 ∷ []; now = refl; after = refl })) refl

m31 : Move s30 s31
m31 = moves.far (moves.opens_by_ack (record { own = next_far_name; far = next_near_name; echoed = refl; there = (0, omega arith, refl); generation = 5; later = omega arith; after = refl })) refl

pub happens : Happens
happens = record {
  opening = s1 ∷ s2 ∷ s3 ∷ s4 ∷ s5 ∷ s6 ∷ [];
  opening_moves = (m1, (m2, (m3, (m4, (m5, (m6, tt))))));
  first = record { near = refl; far = refl };
  carrying = s7 ∷ s8 ∷ s9 ∷ s10 ∷ s11 ∷ s12 ∷ s13 ∷ s14 ∷ s15 ∷ s16 ∷ s17 ∷ s18 ∷ s19 ∷ s20 ∷ s21 ∷ s22 ∷ s23 ∷ [];
  carrying_moves = (m7, (m8, (m9, (m10, (m11, (m12, (m13, (m14, (m15, (m16, (m17, (m18, (m19, (m20, (m21, (m22, (m23, tt)))))))))))))))));
  falls = record {
    near = refl;
    wanted = refl;
    far = refl;
    near_epoch = n6;
    near_epochs = refl;
    far_epoch = f3;
    far_epochs = refl;
    sent = refl;
    chunks = refl;
    received = refl;
    acked = refl;
    sent_back = refl;
    lost = refl;
    old = (0, omega arith, refl);
    stale = stale;
  };
  reopening = s24 ∷ s25 ∷ s26 ∷ s27 ∷ s28 ∷ s29 ∷ s30 ∷ s31 ∷ [];
  reopening_moves = (m24, (m25, (m26, (m27, (m28, (m29, (m30, (m31, tt))))))));
  again = record {
    near = refl;
    far = refl;
    near_epoch = new_epoch next_near_name next_far_name;
    near_past = n6 ∷ [];
    near_epochs = refl;
    far_epoch = new_epoch next_far_name next_near_name;
    far_past = f3 ∷ [];
    far_epochs = refl;
    near_own = refl;
    near_far = refl;
    far_own = refl;
    far_far = refl;
  };
  refuses = record { hole = refl; stranger = stranger };
} where
  stale : (q : End) (m : moves.OpensByCookie s23.far s23.near q) → m.cookie ≡ old_cookie → ⊥
  stale q m e =
      let now : m.cookie.generation ≡ 2 = m.present in
      let was : m.cookie.generation ≡ 0 = ap (λ (c : Cookie). c.generation) e in
      omega (arith, now, was)

  stranger : moves.MayOpen (CookieEchoed far_name near_name) other_cookie → ⊥
  stranger m = omega (arith, m.1)
