-- DATA that arrives, as moves.
use Rattle.std.proofs.Common.{◌≡◌, inl, inr, ℕ, zero, suc, ◌+◌, ◌-◌, ◌%◌, ◌^◌, ◌<◌, ◌≤◌, arith, Bool, true, false, List, [], ◌∷◌, ◌++◌, Option, Some, None, length, set, get_or, refl, ap, sym, ◌∙◌, subst}
use Rattle.std.proofs.Common.{nat_lt, length-append, append_assoc}
use Rattle.std.specs.Prelude.{is_some, if◌then◌else◌}
use Rattle.std.specs.List.{Contains}
use Rattle.std.proofs.lemmas.Bool.{cases_lt}
use Rattle.std.proofs.lemmas.Bool.Decides.{nat_tests}
use Rattle.std.proofs.lemmas.Grind.{get_or-set_at}
use Rattle.std.proofs.lemmas.List.{length-set, get_or-set_same, get_or-set_other}
use Rattle.sctp_codec.specs.Packets.{DataValue}
use Rattle.sctp_receiving.specs.Tsn.{next_tsn, steps_between}
use Rattle.sctp_receiving.specs.Pieces.{Piece, Partial}
use Rattle.sctp_receiving.specs.Consuming as consuming
use Rattle.sctp_receiving.specs.Receiver as receiving
use Rattle.sctp_receiving.specs.Receiver.{Receiver, Step, Steps, piece_at, with_piece, ahead, standing, hear, heard_as, next_held, taken, taken_next, take_next, and_then, drained, received}
use Rattle.sctp_receiving.specs.declared.standing.Standing.{Standing}
use Rattle.sctp_receiving.specs.declared.standing.Standing.TheVariants.{Next, Early, Again, Beyond}
use Rattle.sctp_receiving.specs.declared.limits.TheConstants.{CHUNKS, MESSAGE_OCTETS}
use Rattle.sctp_receiving.proofs.Courses.{IsNext, stands-next, IsEarly, stands-early, apart}
use Rattle.sctp_rules.specs.declared.limits.TheConstants.{STREAMS}
use Rattle.sctp_rules.specs.Data.{piece_of}
use Rattle.sctp_moves.specs.Numbers.{number_of, cumulative}
use Rattle.sctp_moves.specs.Ends.{Message, Name, Answer, Cookie, Chunk, Acknowledgement, Epoch, Phase, Established, End}
use Rattle.sctp_moves.specs.Ends as ends
use Rattle.sctp_moves.specs.Moves as moves
use Rattle.sctp_moves.specs.Moves.{EndMove, EndMoves, last_end, chunk_of, ack_of}
use Rattle.sctp_moves.specs.Openings.{IsQuiet}
use Rattle.sctp_moves.proofs.Standing.{quiet-append}
use Rattle.sctp_moves.proofs.Keeping.{IsSound}
use Rattle.sctp_ends.specs.Said.{young, IsData, chunk_in}
use Rattle.sctp_ends.specs.Shown.{TakesIn, IsWhole, IsHeard, text_of}
use Rattle.sctp_ends.specs.Told.{text_told}
use Rattle.sctp_ends.proofs.Said.{first-in, more-in}
use Rattle.sctp_ends.proofs.Alike.{moves-append, last-append}
use Rattle.sctp_ends.proofs.Sent.{received-young}

-- ---- a whole message is told

if-true : {A : Type 0} (b : Bool) (x y : A) → b ≡ true → (if b then x else y) ≡ x
if-true true x y e = refl
if-true false x y e = absurd (cc)

if-false : {A : Type 0} (b : Bool) (x y : A) → b ≡ false → (if b then x else y) ≡ y
if-false true x y e = absurd (cc)
if-false false x y e = refl

short : (n : ℕ) → n ≤ 290 → nat_lt 4096 n ≡ false
short n l = grind (arith, nat_tests, l)

consume-is : (streams : ℕ) (p : Piece) (partial : Option Partial) → streams ≡ STREAMS → partial ≡ None → IsWhole p →
    consuming.consume streams p partial ≡ record { left = None; told = consuming.Tells (consuming.message_of (consuming.begun p)) }
consume-is streams p partial s n w =
    let m : Partial = consuming.begun p in
    let ended : consuming.Consumed = record { left = None; told = consuming.Tells (consuming.message_of m) } in
    let waits : consuming.Consumed = record { left = Some m; told = consuming.Nothing } in
    let fits : nat_lt p.stream streams ≡ true = ap (λ (k : ℕ). nat_lt p.stream k) s ∙ w.stream in
    if-true p.begins (consuming.begin streams p partial) (consuming.go_on p partial) w.begins
    ∙ ap (λ (o : Option Partial). consuming.begin streams p o) n
    ∙ if-true (nat_lt p.stream streams) (consuming.carried_on None p.ends m) (consuming.of_no_stream p) fits
    ∙ if-false (nat_lt MESSAGE_OCTETS (length p.octets)) _ (if p.ends then ended else waits) (short (length p.octets) w.octets)
    ∙ if-true p.ends ended waits w.ends

-- ---- what is told

abbrev pub heard_in : List consuming.Told → List Message
heard_in [] = []
heard_in (consuming.Nothing ∷ more) = heard_in more
heard_in (consuming.Tells message ∷ more) = text_told message ∷ heard_in more
heard_in (consuming.NoStream stream ∷ more) = heard_in more
heard_in (consuming.Violates violation ∷ more) = heard_in more

-- nothing but messages
abbrev pub AreFine : List consuming.Told → Type 0
AreFine [] = Unit {0}
AreFine (consuming.Nothing ∷ more) = AreFine more
AreFine (consuming.Tells message ∷ more) = AreFine more
AreFine (consuming.NoStream stream ∷ more) = ⊥
AreFine (consuming.Violates violation ∷ more) = ⊥

-- ---- what stays

-- all but the associations and the acknowledgements
pub record IsKept (e f : End) : Type 0 where
  pub generation : f.generation ≡ e.generation
  pub wanted : f.wanted ≡ e.wanted
  pub drawn : f.drawn ≡ e.drawn
  pub phase : f.phase ≡ e.phase
  pub inits : f.inits ≡ e.inits
  pub answers : f.answers ≡ e.answers
  pub echoes : f.echoes ≡ e.echoes
  pub cookie_acks : f.cookie_acks ≡ e.cookie_acks
  pub chunks : f.chunks ≡ e.chunks
  pub acks : (a : Acknowledgement) → Contains e.acks a → Contains f.acks a

kept-itself : (e : End) → IsKept e e
kept-itself e = record {
  generation = refl;
  wanted = refl;
  drawn = refl;
  phase = refl;
  inits = refl;
  answers = refl;
  echoes = refl;
  cookie_acks = refl;
  chunks = refl;
  acks = λ a i. i;
}

kept-on : (e f g : End) → IsKept e f → IsKept f g → IsKept e g
kept-on e f g a b = record {
  generation = b.generation ∙ a.generation;
  wanted = b.wanted ∙ a.wanted;
  drawn = b.drawn ∙ a.drawn;
  phase = b.phase ∙ a.phase;
  inits = b.inits ∙ a.inits;
  answers = b.answers ∙ a.answers;
  echoes = b.echoes ∙ a.echoes;
  cookie_acks = b.cookie_acks ∙ a.cookie_acks;
  chunks = b.chunks ∙ a.chunks;
  acks = λ x i. b.acks x (a.acks x i);
}

-- all but what was heard and received
pub record IsSameEpoch (e f : Epoch) : Type 0 where
  pub own : f.own ≡ e.own
  pub far : f.far ≡ e.far
  pub sent : f.sent ≡ e.sent
  pub acked : f.acked ≡ e.acked

-- what a receiving half does with what comes, as moves
pub record Takes (other e : End) (epoch : Epoch) (past : List Epoch) (steps : Steps) : Type 0 where
  pub list : List End
  pub moves : EndMoves other e list
  pub after : Epoch
  pub kept : IsKept e (last_end e list)
  pub epochs : (last_end e list).epochs ≡ after ∷ past
  pub same : IsSameEpoch epoch after
  pub received : after.received ≡ epoch.received ++ heard_in steps.told
  pub fine : AreFine steps.told
  pub takes : TakesIn (last_end e list) after steps.left
  -- nothing is tried
  pub quiet : IsQuiet e list

-- ---- numbers

moves-ahead : (first n tsn : ℕ) → 1 ≤ steps_between (cumulative first n) tsn →
    steps_between (cumulative first n) tsn - 1 ≡ steps_between (number_of first n) tsn
moves-ahead first n tsn l = omega (arith, l)

next-cumulative : (first n : ℕ) → (cumulative first n + 1) % 2 ^ 32 ≡ cumulative first (n + 1)
next-cumulative first n = omega arith

one-ahead : (cum d tsn : ℕ) → cum < 2 ^ 32 → 1 ≤ d → d ≤ 256 → 1 ≤ steps_between cum tsn → steps_between cum tsn ≤ 256 →
    (cum + d) % 256 ≡ tsn % 256 → d ≡ steps_between cum tsn
one-ahead cum d tsn c l m h k e = omega (arith, c, l, m, h, k, e)

in-place : (cum d : ℕ) → ((cum + 1) % 2 ^ 32 + d) % 256 ≡ (cum + (d + 1)) % 256
in-place cum d = omega arith

last-place : (cum : ℕ) → ((cum + 1) % 2 ^ 32 + 256) % 256 ≡ (cum + 1) % 2 ^ 32 % 256
last-place cum = omega arith

next-place : (cum tsn : ℕ) → cum < 2 ^ 32 → steps_between cum tsn ≡ 1 → tsn % 256 ≡ (cum + 1) % 2 ^ 32 % 256
next-place cum tsn c e = omega (arith, c, e)

cum-fits : (e : End) (epoch : Epoch) (r : Receiver) → TakesIn e epoch r → r.cumulative < 2 ^ 32
cum-fits e epoch r h = omega (arith, h.cumulative_is)

-- ---- what is held

abbrev Holds : Epoch → (held : List (Option Piece)) → (cum : ℕ) → Type 0
Holds epoch held cum = (d : ℕ) (p : Piece) → 1 ≤ d → d ≤ 256 → get_or held ((cum + d) % 256) None ≡ Some p → IsHeard epoch d p

abbrev with_received : Epoch → Message → Epoch
with_received epoch m = record epoch { received = epoch.received ++ m ∷ [] }

abbrev with_heard : Epoch → ends.Piece → Epoch
with_heard epoch k = record epoch { heard = k ∷ epoch.heard }

-- the next one leaves, and each other one is one step nearer
nearer : (epoch : Epoch) (m : Message) (held : List (Option Piece)) (cum : ℕ) → Holds epoch held cum →
    get_or held ((cum + 1) % 2 ^ 32 % 256) None ≡ None → Holds (with_received epoch m) held ((cum + 1) % 2 ^ 32)
nearer epoch m held cum h free d p l k e =
    elim (cases_lt d 256) [
      | inl below ↦
          let there : get_or held ((cum + (d + 1)) % 256) None ≡ Some p = ap (λ (i : ℕ). get_or held i None) (sym (in-place cum d)) ∙ e in
          let was : IsHeard epoch (d + 1) p = h (d + 1) p (omega arith) (omega arith) there in
          let long : length (epoch.received ++ m ∷ []) ≡ length epoch.received + 1 = length-append epoch.received (m ∷ []) in
          let place : length epoch.received + (d + 1 - 1) ≡ length (epoch.received ++ m ∷ []) + (d - 1) = omega (arith, long, l) in
          record {
            whole = was.whole;
            heard = subst (λ (n : ℕ). Contains epoch.heard (record { place = n; message = text_of p })) place was.heard;
          }
      | inr last ↦
          let d-is : d ≡ 256 = omega (arith, last, k) in
          let here : get_or held (((cum + 1) % 2 ^ 32 + 256) % 256) None ≡ Some p =
          subst (λ (n : ℕ). get_or held (((cum + 1) % 2 ^ 32 + n) % 256) None ≡ Some p) d-is e in
          let gone : None ≡ Some p = sym free ∙ ap (λ (i : ℕ). get_or held i None) (sym (last-place cum)) ∙ here in
          absurd (cc)
    ]

some-is : {A : Type 0} (x y : A) → Some x ≡ Some y → x ≡ y
some-is x y e = cc

-- a piece goes into its place
placed : (epoch : Epoch) (held : List (Option Piece)) (cum tsn : ℕ) (p : Piece) → length held ≡ 256 → cum < 2 ^ 32 →
    1 ≤ steps_between cum tsn → steps_between cum tsn ≤ 256 → IsWhole p → Holds epoch held cum →
    Holds (with_heard epoch (record { place = length epoch.received + (steps_between cum tsn - 1); message = text_of p }))
    (set held (tsn % 256) (Some p)) cum
placed epoch held cum tsn p long c low high w h d q l m e =
    let piece : ends.Piece = record { place = length epoch.received + (steps_between cum tsn - 1); message = text_of p } in
    elim (apart ((cum + d) % 256) (tsn % 256)) [
      | inl same ↦
          let here : get_or (set held (tsn % 256) (Some p)) ((cum + d) % 256) None ≡ Some p =
          get_or-set_at held (tsn % 256) ((cum + d) % 256) (Some p) None same (omega (arith, long)) in
          let is : p ≡ q = some-is p q (sym here ∙ e) in
          let far : d ≡ steps_between cum tsn = one-ahead cum d tsn c l m low high same in
          subst (λ (x : Piece). IsHeard (with_heard epoch piece) d x) is
          (record {
            whole = w;
            heard = subst (λ (n : ℕ). Contains (piece ∷ epoch.heard) (record { place = length epoch.received + (n - 1); message = text_of p })) (sym far)
                (first-in piece epoch.heard);
          })
      | inr other ↦
          let there : get_or held ((cum + d) % 256) None ≡ Some q =
          sym (get_or-set_other held (tsn % 256) ((cum + d) % 256) (Some p) None other) ∙ e in
          let was : IsHeard epoch d q = h d q l m there in
          record {
            whole = was.whole;
            heard = more-in piece epoch.heard (record { place = length epoch.received + (d - 1); message = text_of q }) was.heard;
          }
    ]

-- a place is cleared
cleared : (epoch : Epoch) (held : List (Option Piece)) (cum place : ℕ) → length held ≡ 256 → place < 256 →
    Holds epoch held cum → Holds epoch (set held place None) cum
cleared epoch held cum place long l h d q low high e =
    elim (apart ((cum + d) % 256) place) [
      | inl same ↦
          let here : get_or (set held place None) ((cum + d) % 256) None ≡ None =
          get_or-set_at held place ((cum + d) % 256) None None same (omega (arith, long)) in
          let gone : None ≡ Some q = sym here ∙ e in
          absurd (cc)
      | inr other ↦ h d q low high (sym (get_or-set_other held place ((cum + d) % 256) None None other) ∙ e)
    ]

heard-more : (epoch : Epoch) (k : ends.Piece) (held : List (Option Piece)) (cum : ℕ) → Holds epoch held cum → Holds (with_heard epoch k) held cum
heard-more epoch k held cum h d p l m e =
    let was : IsHeard epoch d p = h d p l m e in
    record { whole = was.whole; heard = more-in k epoch.heard (record { place = length epoch.received + (d - 1); message = text_of p }) was.heard }

-- ---- one step

module _ (other : End) (past : List Epoch) where
  -- nothing happens
  idle : (e : End) (epoch : Epoch) (steps : Steps) → e.epochs ≡ epoch ∷ past → heard_in steps.told ≡ [] → AreFine steps.told →
      TakesIn e epoch steps.left → Takes other e epoch past steps
  idle e epoch steps now none fine h = record {
    list = [];
    moves = tt;
    after = epoch;
    kept = kept-itself e;
    epochs = now;
    same = record { own = refl; far = refl; sent = refl; acked = refl };
    received = sym (ap (λ (ms : List Message). epoch.received ++ ms) none ∙ nothing-behind epoch.received);
    fine = fine;
    takes = h;
    quiet = tt;
  } where
    nothing-behind : (ms : List Message) → ms ++ [] ≡ ms
    nothing-behind [] = refl
    nothing-behind (m ∷ ms) = ap (λ xs. m ∷ xs) (nothing-behind ms)

  told-behind : (told : consuming.Told) (steps : Steps) → heard_in (told ∷ steps.told) ≡ heard_in (told ∷ []) ++ heard_in steps.told
  told-behind consuming.Nothing steps = refl
  told-behind (consuming.Tells message) steps = refl
  told-behind (consuming.NoStream stream) steps = refl
  told-behind (consuming.Violates violation) steps = refl

  fine-behind : (told : consuming.Told) (steps : Steps) → AreFine (told ∷ []) → AreFine steps.told → AreFine (told ∷ steps.told)
  fine-behind consuming.Nothing steps a b = b
  fine-behind (consuming.Tells message) steps a b = b
  fine-behind (consuming.NoStream stream) steps a b = a
  fine-behind (consuming.Violates violation) steps a b = a

  -- a step, and what follows it
  behind : (e : End) (epoch : Epoch) (left : Receiver) (told : consuming.Told) (steps : Steps) →
      (t : Takes other e epoch past (record { left = left; told = told ∷ [] })) → Takes other (last_end e t.list) t.after past steps →
      Takes other e epoch past (receiving.followed_by told steps)
  behind e epoch left told steps t u =
      let is : last_end e (t.list ++ u.list) ≡ last_end (last_end e t.list) u.list = last-append e t.list u.list in
      record {
        list = t.list ++ u.list;
        moves = moves-append other e t.list u.list t.moves u.moves;
        after = u.after;
        kept = subst (IsKept e) (sym is) (kept-on e (last_end e t.list) (last_end (last_end e t.list) u.list) t.kept u.kept);
        epochs = ap (λ (f : End). f.epochs) is ∙ u.epochs;
        same = record {
          own = u.same.own ∙ t.same.own;
          far = u.same.far ∙ t.same.far;
          sent = u.same.sent ∙ t.same.sent;
          acked = u.same.acked ∙ t.same.acked;
        };
        received = u.received ∙ ap (λ (ms : List Message). ms ++ heard_in steps.told) t.received
            ∙ append_assoc epoch.received (heard_in (told ∷ [])) (heard_in steps.told)
            ∙ ap (λ (ms : List Message). epoch.received ++ ms) (sym (told-behind told steps));
        fine = fine-behind told steps t.fine u.fine;
        quiet = quiet-append e t.list u.list t.quiet u.quiet;
        takes = subst (λ (f : End). TakesIn f u.after steps.left) (sym is) u.takes;
      }

  and-then-fine : (rest : Receiver → Steps) (step : Step) → AreFine (step.told ∷ []) → and_then rest step ≡ receiving.followed_by step.told (rest step.left)
  and-then-fine rest step f = by step.told step.left f where
    by : (told : consuming.Told) (left : Receiver) → AreFine (told ∷ []) →
        and_then rest (record { left = left; told = told }) ≡ receiving.followed_by told (rest left)
    by consuming.Nothing left f = refl
    by (consuming.Tells message) left f = refl
    by (consuming.NoStream stream) left f = absurd f
    by (consuming.Violates violation) left f = absurd f

  -- the next message, which was heard, is told and acknowledged
  hands : (e : End) (epoch : Epoch) (r : Receiver) (held : List (Option Piece)) (p : Piece) → e.phase ≡ Established → e.epochs ≡ epoch ∷ past →
      TakesIn e epoch r → IsWhole p → Contains epoch.heard (record { place = length epoch.received; message = text_of p }) →
      length held ≡ 256 → Holds epoch held r.cumulative → get_or held ((r.cumulative + 1) % 2 ^ 32 % 256) None ≡ None →
      Takes other e epoch past
      (record {
        left = record r { held = held; cumulative = next_tsn r.cumulative; partial = None };
        told = consuming.Tells (consuming.message_of (consuming.begun p)) ∷ [];
      })
  hands e epoch r held p up now h w heard long holds free =
      let m : Message = text_of p in
      let later : Epoch = with_received epoch m in
      let told : End = record e { epochs = later ∷ past } in
      let f : End = record told { acks = ack_of later ∷ e.acks } in
      let counted : length (epoch.received ++ m ∷ []) ≡ length epoch.received + 1 = length-append epoch.received (m ∷ []) in
      record {
        list = told ∷ f ∷ [];
        moves = (
          moves.hands_up (record { up = up; epoch = epoch; past = past; now = now; message = m; next = heard; after = refl }),
          (moves.sends_ack (record { up = up; epoch = later; past = past; now = refl; after = refl }), tt),
        );
        after = later;
        kept = record {
          generation = refl;
          wanted = refl;
          drawn = refl;
          phase = refl;
          inits = refl;
          answers = refl;
          echoes = refl;
          cookie_acks = refl;
          chunks = refl;
          acks = λ a i. more-in (ack_of later) e.acks a i;
        };
        epochs = refl;
        same = record { own = refl; far = refl; sent = refl; acked = refl };
        received = refl;
        fine = tt;
        takes = record {
          streams = h.streams;
          partial = refl;
          cumulative_is = ap next_tsn h.cumulative_is ∙ next-cumulative epoch.far.first (length epoch.received)
              ∙ ap (λ (n : ℕ). cumulative epoch.far.first n) (sym counted);
          places = long;
          held = nearer epoch m held r.cumulative holds free;
          acknowledged = first-in (ack_of later) e.acks;
        };
        quiet = ((λ n. (refl, n)), ((λ n. (refl, n)), tt));
      }

  -- ---- what is held after it

  taken-is : (r : Receiver) (p : Piece) → r.streams ≡ STREAMS → r.partial ≡ None → IsWhole p →
      taken r p ≡ record { left = record r { cumulative = next_tsn r.cumulative; partial = None }; told = consuming.Tells (consuming.message_of (consuming.begun p)) }
  taken-is r p s n w =
      ap (λ (c : consuming.Consumed). with-consumed r c) (consume-is r.streams p r.partial s n w) where
        with-consumed : Receiver → consuming.Consumed → Step
        with-consumed r c = record { left = record r { cumulative = next_tsn r.cumulative; partial = c.left }; told = c.told }

  drained-so : (many : ℕ) (e : End) (epoch : Epoch) (r : Receiver) → e.phase ≡ Established → e.epochs ≡ epoch ∷ past → TakesIn e epoch r →
      Takes other e epoch past (drained many r)
  unfolding drained
  drained-so zero e epoch r up now h = idle e epoch (record { left = r; told = [] }) now refl tt h
  drained-so (suc many) e epoch r up now h =
      by (next_held r) refl (λ f later q u n t. drained-so many f later q u n t) where
        by : (found : Option Piece) → next_held r ≡ found →
            ((f : End) (later : Epoch) (q : Receiver) → f.phase ≡ Established → f.epochs ≡ later ∷ past → TakesIn f later q →
            Takes other f later past (drained many q)) →
            Takes other e epoch past
            (if is_some found then and_then (λ left. drained many left) (taken_next found r) else record { left = r; told = [] })
        by None q rest = idle e epoch (record { left = r; told = [] }) now refl tt h
        by (Some p) q rest =
            let cum : ℕ = r.cumulative in
            let place : ℕ = (cum + 1) % 2 ^ 32 % 256 in
            let held : List (Option Piece) = set r.held place None in
            let in-turn : (cum + 1) % 256 ≡ place = omega arith in
            let there : get_or r.held ((cum + 1) % 256) None ≡ Some p = ap (λ (i : ℕ). get_or r.held i None) in-turn ∙ q in
            let was : IsHeard epoch 1 p = h.held 1 p (omega arith) (omega arith) there in
            let first : length epoch.received + (1 - 1) ≡ length epoch.received = omega arith in
            let heard : Contains epoch.heard (record { place = length epoch.received; message = text_of p }) =
            subst (λ (n : ℕ). Contains epoch.heard (record { place = n; message = text_of p })) first was.heard in
            let long : length held ≡ 256 = length-set r.held place None ∙ h.places in
            let one : Takes other e epoch past
            (record {
              left = record r { held = held; cumulative = next_tsn cum; partial = None };
              told = consuming.Tells (consuming.message_of (consuming.begun p)) ∷ [];
            }) =
            hands e epoch r held p up now h was.whole heard long (cleared epoch r.held cum place h.places (omega arith) h.held)
            (get_or-set_same r.held place None None (omega (arith, h.places))) in
            let left : Receiver = record r { held = held; cumulative = next_tsn cum; partial = None } in
            let told : consuming.Told = consuming.Tells (consuming.message_of (consuming.begun p)) in
            let all : Takes other e epoch past (receiving.followed_by told (drained many left)) =
            behind e epoch left told (drained many left) one
            (rest (last_end e one.list) one.after left (one.kept.phase ∙ up) one.epochs one.takes) in
            let is : taken_next (Some p) r ≡ record { left = left; told = told } = taken-is (with_piece r (next_tsn cum) None) p h.streams h.partial was.whole in
            subst (λ (step : Step). Takes other e epoch past (and_then (λ x. drained many x) step)) (sym is) all

  -- ---- a chunk comes

  module _ (tag : ℕ) (d : DataValue) (came : IsData (young other) other tag d) where
    whole : IsWhole (piece_of d)
    whole = record { begins = came.begins; ends = came.ends; stream = came.stream; octets = came.octets }

    -- it is heard
    hearing : (e : End) (epoch : Epoch) (r : Receiver) → IsSound e other → e.phase ≡ Established → e.epochs ≡ epoch ∷ past → epoch.own.tag ≡ tag →
        TakesIn e epoch r → 1 ≤ ahead r d.tsn → ahead r d.tsn ≤ 256 →
        EndMove other e
        (record e {
          epochs = with_heard epoch (record { place = length epoch.received + (ahead r d.tsn - 1); message = text_of (piece_of d) }) ∷ past;
        })
    hearing e epoch r sound up now t h low high =
        let there : Contains e.epochs epoch = subst (λ (es : List Epoch). Contains es epoch) (sym now) (first-in epoch past) in
        let chunk : Chunk = chunk_in tag d came.place in
        let from : steps_between r.cumulative d.tsn ≡ steps_between (cumulative epoch.far.first (length epoch.received)) d.tsn =
        ap (λ (n : ℕ). steps_between n d.tsn) h.cumulative_is in
        moves.hears_chunk (record {
          up = up;
          epoch = epoch;
          past = past;
          now = now;
          chunk = chunk;
          there = came.there;
          to = sym t;
          young = received-young e other sound epoch there tag t chunk refl came.aged;
          ahead = ahead r d.tsn - 1;
          distance = ap (λ (n : ℕ). n - 1) from
              ∙ moves-ahead epoch.far.first (length epoch.received) d.tsn (omega (arith, from, low));
          within = omega (arith, low, high);
          after = refl;
        })

    heard-so : (stands : Standing) (e : End) (epoch : Epoch) (r : Receiver) → IsSound e other → e.phase ≡ Established → e.epochs ≡ epoch ∷ past →
        epoch.own.tag ≡ tag → TakesIn e epoch r → standing r d.tsn (piece_of d) ≡ stands →
        (s : Step) × (heard_as stands r d.tsn (piece_of d) ≡ s) × AreFine (s.told ∷ []) × Takes other e epoch past (record { left = s.left; told = s.told ∷ [] })
    heard-so Beyond e epoch r sound up now t h st =
        (record { left = r; told = consuming.Nothing }, refl, tt, idle e epoch (record { left = r; told = consuming.Nothing ∷ [] }) now refl tt h)
    heard-so Again e epoch r sound up now t h st =
        let left : Receiver = receiving.repeated r d.tsn in (
          record { left = left; told = consuming.Nothing },
          refl,
          tt,
          idle e epoch (record { left = left; told = consuming.Nothing ∷ [] }) now refl tt (noted (nat_lt (length r.duplicates) _) (r.duplicates ++ d.tsn ∷ []) h),
        ) where
          noted : (b : Bool) (more : List ℕ) → TakesIn e epoch r → TakesIn e epoch (if b then record r { duplicates = more } else r)
          noted true more h = record {
            streams = h.streams;
            partial = h.partial;
            cumulative_is = h.cumulative_is;
            places = h.places;
            held = h.held;
            acknowledged = h.acknowledged;
          }
          noted false more h = h
    heard-so Early e epoch r sound up now t h st =
        let p : Piece = piece_of d in
        let early : IsEarly r d.tsn = stands-early r d.tsn p st in
        let k : ends.Piece = record { place = length epoch.received + (ahead r d.tsn - 1); message = text_of p } in
        let later : Epoch = with_heard epoch k in
        let f : End = record e { epochs = later ∷ past } in
        let left : Receiver = with_piece r d.tsn (Some p) in (
          record { left = left; told = consuming.Nothing },
          refl,
          tt,
          record {
            list = f ∷ [];
            moves = (hearing e epoch r sound up now t h early.above early.within, tt);
            after = later;
            kept = record {
              generation = refl;
              wanted = refl;
              drawn = refl;
              phase = refl;
              inits = refl;
              answers = refl;
              echoes = refl;
              cookie_acks = refl;
              chunks = refl;
              acks = λ a i. i;
            };
            epochs = refl;
            same = record { own = refl; far = refl; sent = refl; acked = refl };
            received = sym (nothing-behind epoch.received);
            fine = tt;
            quiet = ((λ n. (refl, n)), tt);
            takes = record {
              streams = h.streams;
              partial = h.partial;
              cumulative_is = h.cumulative_is;
              places = length-set r.held (d.tsn % 256) (Some p) ∙ h.places;
              held = placed epoch r.held r.cumulative d.tsn p h.places (cum-fits e epoch r h) early.above early.within whole h.held;
              acknowledged = h.acknowledged;
            };
          },
        ) where
          nothing-behind : (ms : List Message) → ms ++ [] ≡ ms
          nothing-behind [] = refl
          nothing-behind (m ∷ ms) = ap (λ xs. m ∷ xs) (nothing-behind ms)
    heard-so Next e epoch r sound up now t h st =
        let p : Piece = piece_of d in
        let next : IsNext r d.tsn = stands-next r d.tsn p st in
        let one : ahead r d.tsn ≡ 1 = next.ahead_is in
        let k : ends.Piece = record { place = length epoch.received + (ahead r d.tsn - 1); message = text_of p } in
        let later : Epoch = with_heard epoch k in
        let f : End = record e { epochs = later ∷ past } in
        let told : consuming.Told = consuming.Tells (consuming.message_of (consuming.begun p)) in
        let left : Receiver = record r { cumulative = next_tsn r.cumulative; partial = None } in
        let here : TakesIn f later r = record {
          streams = h.streams;
          partial = h.partial;
          cumulative_is = h.cumulative_is;
          places = h.places;
          held = heard-more epoch k r.held r.cumulative h.held;
          acknowledged = h.acknowledged;
        } in
        let first : length epoch.received + (ahead r d.tsn - 1) ≡ length epoch.received = omega (arith, one) in
        let heard : Contains later.heard (record { place = length epoch.received; message = text_of p }) =
        subst (λ (n : ℕ). Contains later.heard (record { place = n; message = text_of p })) first (first-in k epoch.heard) in
        let free : get_or r.held ((r.cumulative + 1) % 2 ^ 32 % 256) None ≡ None =
        ap (λ (i : ℕ). get_or r.held i None) (sym (next-place r.cumulative d.tsn (cum-fits e epoch r h) one)) ∙ next.free in
        let u : Takes other f later past (record { left = left; told = told ∷ [] }) =
        hands f later r r.held p up refl here whole heard h.places here.held free in (
          record { left = left; told = told },
          taken-is r p h.streams h.partial whole,
          tt,
          record {
            list = f ∷ u.list;
            moves = (hearing e epoch r sound up now t h (omega (arith, one)) (omega (arith, one)), u.moves);
            after = u.after;
            kept = kept-on e f (last_end f u.list)
                (record {
                  generation = refl;
                  wanted = refl;
                  drawn = refl;
                  phase = refl;
                  inits = refl;
                  answers = refl;
                  echoes = refl;
                  cookie_acks = refl;
                  chunks = refl;
                  acks = λ a i. i;
                }) u.kept;
            epochs = u.epochs;
            same = record { own = u.same.own; far = u.same.far; sent = u.same.sent; acked = u.same.acked };
            received = u.received;
            fine = u.fine;
            takes = u.takes;
            quiet = ((λ n. (refl, n)), u.quiet);
          },
        )

    pub received-so : (e : End) (epoch : Epoch) (r : Receiver) → IsSound e other → e.phase ≡ Established → e.epochs ≡ epoch ∷ past →
        epoch.own.tag ≡ tag → TakesIn e epoch r → Takes other e epoch past (received r d.tsn (piece_of d))
    received-so e epoch r sound up now t h =
        let found = heard-so (standing r d.tsn (piece_of d)) e epoch r sound up now t h refl in
        let s : Step = found.0 in
        let rest : Receiver → Steps = λ left. drained CHUNKS left in
        let one : Takes other e epoch past (record { left = s.left; told = s.told ∷ [] }) = found.3 in
        let more : Takes other (last_end e one.list) one.after past (drained CHUNKS s.left) =
        drained-so CHUNKS (last_end e one.list) one.after s.left (one.kept.phase ∙ up) one.epochs one.takes in
        let all : Takes other e epoch past (receiving.followed_by s.told (drained CHUNKS s.left)) = behind e epoch s.left s.told (drained CHUNKS s.left) one more in
        let is : received r d.tsn (piece_of d) ≡ receiving.followed_by s.told (drained CHUNKS s.left) =
        ap (λ (step : Step). and_then (λ left. drained CHUNKS left) step) found.1 ∙ and-then-fine (λ left. drained CHUNKS left) s found.2 in
        subst (λ (steps : Steps). Takes other e epoch past steps) (sym is) all
