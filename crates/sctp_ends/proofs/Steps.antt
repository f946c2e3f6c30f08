-- The rules that make moves: tries, answers, openings and ends.
use Rattle.std.proofs.Common.{◌≡◌, ◌≢◌, ◌⊎◌, inl, inr, ℕ, ◌+◌, ◌%◌, ◌<◌, ◌≤◌, arith, Bool, true, false, List, [], ◌∷◌, ◌++◌, Option, Some, None, length, map, replicate, get_or, refl, ap, sym, ◌∙◌, subst}
use Rattle.std.proofs.lemmas.Grind.{common_steps}
use Rattle.std.proofs.lemmas.List.{length-replicate, get_or-replicate}
use Rattle.std.proofs.lemmas.List.Elements.{All-nil}
use Rattle.std.specs.Prelude.{slice_get, nat_le}
use Rattle.std.specs.Prelude.{if◌then◌else◌}
use Rattle.std.specs.List.{Contains}
use Rattle.sctp_codec.specs.Items.{ItemValue}
use Rattle.sctp_codec.specs.Packets as packets
use Rattle.sctp_codec.specs.Packets.{ChunkValue, InitValue, DataValue}
use Rattle.sctp_codec.specs.Parameters.{cookie_in, listing, complained_of}
use Rattle.sctp_codec.proofs.AddressTexts.{cookie-found}
use Rattle.sctp_cookie.specs.declared.cookie.Cookie.{Cookie}
use Rattle.sctp_rules.specs.declared.loss.Loss.{Loss}
use Rattle.sctp_rules.specs.Settings.{Settings, Secrets, Beginning, Address}
use Rattle.sctp_rules.specs.State as state
use Rattle.sctp_rules.specs.State.{Association, State, Datagram, Done, Try, silent, followed_by, no_association}
use Rattle.sctp_rules.specs.Sending.{is_established}
use Rattle.sctp_rules.specs.GivenMessages.{IsGiven}
use Rattle.sctp_rules.specs.declared.limits.TheConstants.{STREAMS}
use Rattle.sctp_receiving.specs.Pieces.{Piece}
use Rattle.sctp_receiving.specs.Tsn.{previous_tsn}
use Rattle.sctp_receiving.specs.Receiver.{Receiver, first_receiver}
use Rattle.sctp_sending.specs.declared.bounds.Bounds.{Bounds}
use Rattle.sctp_sending.specs.Sending.{Sending, first_sending}
use Rattle.sctp_moves.specs.Numbers.{modulus}
use Rattle.sctp_rules.specs.Opening as opening
use Rattle.sctp_rules.specs.Ending as ending
use Rattle.sctp_moves.specs.Ends.{Message, Name, Answer, Chunk, Acknowledgement, Epoch, new_epoch, Closed, CookieWait, CookieEchoed, Established, End}
use Rattle.sctp_moves.specs.Ends as ends
use Rattle.sctp_moves.specs.Moves.{IsUnused, IsTrying, MayOpen, EndMove, EndMoves, last_end}
use Rattle.sctp_moves.specs.Moves as moves
use Rattle.sctp_moves.specs.Openings.{IsCalm, IsQuiet}
use Rattle.sctp_moves.proofs.Members.{In, in-from, contains-from, in-map}
use Rattle.sctp_moves.proofs.Keeping.{IsSound}
use Rattle.sctp_ends.specs.Told.{told_by, opened_by}
use Rattle.sctp_ends.specs.Said.{Each, named, load, Age, since, young, never, name_in, cookie_of, IsEcho, Bundles, Begins, IsSaid, AreSaid}
use Rattle.sctp_ends.specs.Shown.{Stage, Off, Waiting, Echoing, There, stage_of, own_name, far_name, IsIn, IsOff, IsWaiting, IsEchoing}
use Rattle.sctp_ends.specs.Shown.{SendsOut, TakesIn, AreGood, IsPlain, Waits, Shows, IsOffered, IsDrawn, AreDrawn, own_of}
use Rattle.sctp_ends.proofs.Said.{each-append, each-weaker, first-in, more-in, IsMore, IsGrown, grows_from, grows_new, more-of, more-bundles, more-never, more-waits}
use Rattle.sctp_ends.proofs.Said.{plain-bundled, waits-bundled, said-bundled}
use Rattle.sctp_ends.proofs.Alike.{receipts, gifts, Outcome, Result, Does, Goes, Starts, itself, alike-goes, hears}

-- ---- ends that differ in what was put out alone

pub record IsSame (e f : End) : Type 0 where
  pub phase : e.phase ≡ f.phase
  pub wanted : e.wanted ≡ f.wanted
  pub epochs : e.epochs ≡ f.epochs
  pub cookie_acks : (tag : ℕ) → Contains e.cookie_acks tag → Contains f.cookie_acks tag
  pub chunks : (d : Chunk) → Contains e.chunks d → Contains f.chunks d
  pub acks : (a : Acknowledgement) → Contains e.acks a → Contains f.acks a

pub sends-more : (e f : End) (epoch : Epoch) (b : Bool) (s : Sending) → ((d : Chunk) → Contains e.chunks d → Contains f.chunks d) →
    SendsOut e epoch b s → SendsOut f epoch b s
sends-more e f epoch b s more h = record {
  given = h.given;
  part = h.part;
  order = h.order;
  went = h.went;
  within = h.within;
  all = h.all;
  taken = h.taken;
  put = λ place m i. more (moves.chunk_of epoch place m) (h.put place m i);
}

pub takes-more : (e f : End) (epoch : Epoch) (r : Receiver) → ((a : Acknowledgement) → Contains e.acks a → Contains f.acks a) →
    TakesIn e epoch r → TakesIn f epoch r
takes-more e f epoch r more h = record {
  streams = h.streams;
  partial = h.partial;
  cumulative_is = h.cumulative_is;
  places = h.places;
  held = h.held;
  acknowledged = more (moves.ack_of epoch) h.acknowledged;
}

same-stage : (stage : Stage) (e f : End) (wanted : Bool) (a : Association) → IsSame e f → IsIn stage e wanted a → IsIn stage f wanted a
same-stage Off e f wanted a s h = record { phase = sym s.phase ∙ h.phase; wants = sym s.wanted ∙ h.wants }
same-stage Waiting e f wanted a s h = record { phase = sym s.phase ∙ h.phase; fits = h.fits; wants = sym s.wanted ∙ h.wants; wanted_is = h.wanted_is }
same-stage Echoing e f wanted a s h = record { phase = sym s.phase ∙ h.phase; fits = h.fits; wants = sym s.wanted ∙ h.wants; wanted_is = h.wanted_is }
same-stage There e f wanted a s h = record {
  up = sym s.phase ∙ h.up;
  epoch = h.epoch;
  past = h.past;
  now = sym s.epochs ∙ h.now;
  own = h.own;
  far = h.far;
  confirmed = s.cookie_acks a.far_tag h.confirmed;
  sends = sends-more e f h.epoch (is_established a.phase) a.sender s.chunks h.sends;
  takes = takes-more e f h.epoch a.receiver s.acks h.takes;
}

-- ---- names

-- what is known of a name and a tag stays, however many are drawn
pub offered-on : (own : Secrets) (many more : ℕ) (n : Name) → many ≤ more → IsOffered own many n → IsOffered own more n
offered-on own many more n l d = record { place = d.place; before = omega (arith, d.before, l); beginning = d.beginning; drawn = d.drawn; same = d.same }

pub drawn-on : (own : Secrets) (many more tag : ℕ) → many ≤ more → IsDrawn own many tag → IsDrawn own more tag
drawn-on own many more tag l d = record { place = d.place; before = omega (arith, d.before, l); beginning = d.beginning; drawn = d.drawn; same = d.same }

pub all-drawn-on : (own : Secrets) (many more : ℕ) (phase : ends.Phase) (echoes : List ends.Cookie) (names : List Name) → many ≤ more →
    AreDrawn own many phase echoes names → AreDrawn own more phase echoes names
all-drawn-on own many more phase echoes names l d = record {
  tried = λ n t. drawn-on own many more n.tag l (d.tried n t);
  echoed = λ c i. drawn-on own many more c.far.tag l (d.echoed c i);
  opened = λ n i. drawn-on own many more n.tag l (d.opened n i);
}

-- the next name is offered
offered-more : (own : Secrets) (many : ℕ) (b : Beginning) (drawn : List Name) → own.beginning many ≡ Some b →
    ((n : Name) → Contains drawn n → IsOffered own many n) →
    (n : Name) → Contains (named b.tag b.first ∷ drawn) n → IsOffered own many n
offered-more own many b drawn e h n c = by (in-from (named b.tag b.first ∷ drawn) n c) where
  by : In n (named b.tag b.first ∷ drawn) → IsOffered own many n
  by (inl same) = record { place = many; before = omega arith; beginning = b; drawn = e; same = sym same }
  by (inr m) = h n (contains-from drawn n m)

-- it is drawn
next-drawn : (own : Secrets) (many : ℕ) (b : Beginning) → own.beginning many ≡ Some b → IsDrawn own (many + 1) b.tag
next-drawn own many b e = record { place = many; before = omega arith; beginning = b; drawn = e; same = refl }

same-beginning : (own : Secrets) (i j : ℕ) (a b : Beginning) → own.beginning i ≡ Some a → own.beginning j ≡ Some b → i ≡ j → a ≡ b
same-beginning own i j a b e f is = by (sym e ∙ ap own.beginning is ∙ f) where
  by : Some a ≡ Some b → a ≡ b
  by q = cc

-- a tag that was drawn isn't the next one
not-next : (own : Secrets) → AreGood own → (many tag : ℕ) (b : Beginning) → own.beginning many ≡ Some b → IsDrawn own many tag → tag ≢ b.tag
not-next own good many tag b is d same =
    let place : d.place ≡ many = good.fresh d.place many d.beginning b d.drawn is (d.same ∙ same) in
    omega (arith, place, d.before)

-- the next name is unused
is-unused : (own : Secrets) → AreGood own → (e : End) (many : ℕ) (b : Beginning) → own.beginning many ≡ Some b →
    ((n : Name) → Contains e.drawn n → IsOffered own many n) → AreDrawn own many e.phase e.echoes (map own_of e.epochs) →
    IsUnused e (named b.tag b.first)
is-unused own good e many b is offered drawn = record {
  named = λ n c same.
      let d : IsOffered own many n = offered n c in
      let tags : d.beginning.tag ≡ b.tag = ap (λ (m : Name). m.tag) d.same ∙ same in
      let place : d.place ≡ many = good.fresh d.place many d.beginning b d.drawn is tags in
      let one : d.beginning ≡ b = same-beginning own d.place many d.beginning b d.drawn is place in
      sym d.same ∙ ap (λ (x : Beginning). named x.tag x.first) one;
  unechoed = λ c i. not-next own good many c.far.tag b is (drawn.echoed c i);
  unopened = λ k i.
      not-next own good many k.own.tag b is
      (drawn.opened k.own (contains-from (map own_of e.epochs) k.own (in-map own_of e.epochs k (in-from e.epochs k i))));
}

abbrev answer-with : (generation : ℕ) → Name → Name → Answer
answer-with generation name init = moves.answer_to generation name init

-- a cookie may open an association, whose tag was drawn
pub record MayOpenBy (own : Secrets) (beginnings : ℕ) (e : End) (cookie : Cookie) : Type 0 where
  pub wanted : e.wanted ≡ true
  pub may : MayOpen e.phase (cookie_of cookie)
  pub drawn : IsDrawn own beginnings cookie.own_tag

-- ---- the rules

module _ (own far : Secrets) (mark : ℕ) (other : End) where
  -- packets that say nothing
  pub puts : (c : Settings) (address : Address) (tag : ℕ) (chunks : List ChunkValue) (s : State) → Each IsPlain chunks →
      Goes own far mark other s (state.put c address tag chunks s)
  puts c address tag chunks s p =
      let x : Done = state.put c address tag chunks s in
      alike-goes own far mark other s s x.sent (itself s)
      (λ e sound h. (said-bundled own far (since mark e) e tag chunks (each-weaker IsPlain (Bundles (since mark e) e tag) (plain-bundled (since mark e) e tag) chunks p), tt))

  -- ---- an end

  told-end : (lists : List (List Message)) (up wanted : Bool) (why : Loss) →
      told_by lists (if up then state.Down why ∷ [] else (if wanted then state.Failed why ∷ [] else [])) ≡ lists
  told-end lists true wanted why = refl
  told-end lists false true why = refl
  told-end lists false false why = refl

  given-end : (lists : List (List Message)) (up wanted : Bool) (why : Loss) →
      opened_by lists (if up then state.Down why ∷ [] else (if wanted then state.Failed why ∷ [] else [])) ≡ lists
  given-end lists true wanted why = refl
  given-end lists false true why = refl
  given-end lists false false why = refl

  last-said : (b : Bool) (e : End) (c : Settings) (a : Association) (first : ChunkValue) (more : List ChunkValue) →
      Each (Bundles (since mark e) e a.far_tag) (first ∷ more) →
      AreSaid own far mark e (if b then state.datagram_to c a.address a.far_tag (first ∷ more) ∷ [] else [])
  last-said true e c a first more h = (said-bundled own far (since mark e) e a.far_tag (first ∷ more) h, tt)
  last-said false e c a first more h = tt

  words-said : (e : End) (c : Settings) (a : Association) (chunks : List ChunkValue) → Each (Bundles (since mark e) e a.far_tag) chunks →
      AreSaid own far mark e (ending.last_words c a chunks)
  words-said e c a [] h = tt
  words-said e c a (first ∷ more) h = last-said (ending.has_peer a.phase) e c a first more h

  pub ended-goes : (c : Settings) (why : Loss) (chunks : List ChunkValue) (s : State) → Each IsPlain chunks →
      Goes own far mark other s (ending.ended_with c why chunks s)
  ended-goes c why chunks s p = record { result = ends-so; tagged = λ tag t on. absurd (cc) } where
    ends-so : (e : End) → IsSound e other → Shows own far mark e s → Result own far mark other e (ending.ended_with c why chunks s)
    ends-so e sound h =
        let f : End = record e { generation = e.generation + 1; wanted = false; phase = Closed } in
        let m : IsMore e f = more-of e f refl (λ n i. i) (λ n i. i) (λ n i. i) (λ n i. i) (λ n i. i) (λ n i. i) in
        record {
          list = f ∷ [];
          moves = (moves.finishes (record { generation = e.generation + 1; later = omega arith; after = refl }), tt);
          shows = record {
            generation = omega (arith, h.generation);
            stage = record { phase = refl; wants = refl };
            offered = h.offered;
            drawn = record { tried = λ n t. absurd t; echoed = h.drawn.echoed; opened = h.drawn.opened };
            control = tt;
            trying = λ t q. absurd (cc);
            later = h.later;
          };
          more = m;
          sent = words-said f c s.association (s.association.control ++ chunks)
              (each-append (Bundles (since mark f) f s.association.far_tag) s.association.control chunks
              (each-weaker (Waits (stage_of s.association.phase) mark e s.association.far_tag) (Bundles (since mark f) f s.association.far_tag)
              (λ chunk w. more-bundles mark e f m h.later s.association.far_tag chunk (waits-bundled (stage_of s.association.phase) mark e s.association.far_tag chunk w)) s.association.control h.control)
              (each-weaker IsPlain (Bundles (since mark f) f s.association.far_tag) (plain-bundled (since mark f) f s.association.far_tag) chunks p));
          told = sym (told-end (receipts e) s.association.is_up s.is_wanted why);
          given = sym (given-end (gifts e) s.association.is_up s.is_wanted why);
          quiet = λ b. ((λ n. (refl, tt)), tt);
        }

  -- a try ends, and its user still wants an association
  pub given-up-goes : (c : Settings) (s : State) → stage_of s.association.phase ≡ Echoing →
      Goes own far mark other s (silent (record s { generation = s.generation + 1; association = no_association c }))
  given-up-goes c s echoing = record { result = gives-up; tagged = λ tag t on. absurd (cc) } where
    gives-up : (e : End) → IsSound e other → Shows own far mark e s →
        Result own far mark other e (silent (record s { generation = s.generation + 1; association = no_association c }))
    gives-up e sound h =
        let shut : End = record e { generation = e.generation + 1; wanted = false; phase = Closed } in
        let f : End = record shut { wanted = true } in
        let was : IsEchoing e s.is_wanted s.association = subst (λ (stage : Stage). IsIn stage e s.is_wanted s.association) echoing h.stage in
        record {
          list = shut ∷ f ∷ [];
          moves = (
            moves.finishes (record { generation = e.generation + 1; later = omega arith; after = refl }),
            (moves.wants (record { after = refl }), tt),
          );
          shows = record {
            generation = omega (arith, h.generation);
            stage = record { phase = refl; wants = sym was.wanted_is };
            offered = h.offered;
            drawn = record { tried = λ n t. absurd t; echoed = h.drawn.echoed; opened = h.drawn.opened };
            control = tt;
            trying = λ t q. absurd (cc);
            later = h.later;
          };
          more = more-of e f refl (λ n i. i) (λ n i. i) (λ n i. i) (λ n i. i) (λ n i. i) (λ n i. i);
          sent = tt;
          told = refl;
          given = refl;
          quiet = λ b. ((λ n. (refl, tt)), ((λ n. (refl, n)), tt));
        }

  -- ---- the user wants an association

  keep-control : (e f : End) → IsMore e f → mark ≤ load e.epochs → (stage : Stage) (tag : ℕ) (control : List ChunkValue) →
      Each (Waits stage mark e tag) control → Each (Waits stage mark f tag) control
  keep-control e f m late stage tag control h =
      each-weaker (Waits stage mark e tag) (Waits stage mark f tag) (λ chunk w. more-waits mark e f m late stage tag chunk w) control h

  pub wants-goes : (s : State) → stage_of s.association.phase ≡ Off → Goes own far mark other s (silent (record s { is_wanted = true }))
  wants-goes s off = record { result = wants-so; tagged = λ tag t. t } where
    wants-so : (e : End) → IsSound e other → Shows own far mark e s → Result own far mark other e (silent (record s { is_wanted = true }))
    wants-so e sound h =
        let f : End = record e { wanted = true } in
        let m : IsMore e f = more-of e f refl (λ n i. i) (λ n i. i) (λ n i. i) (λ n i. i) (λ n i. i) (λ n i. i) in
        let was : IsOff e s.is_wanted = subst (λ (stage : Stage). IsIn stage e s.is_wanted s.association) off h.stage in
        let now : IsOff f true = record { phase = was.phase; wants = refl } in
        record {
          list = f ∷ [];
          moves = (moves.wants (record { after = refl }), tt);
          shows = record {
            generation = h.generation;
            stage = subst (λ (stage : Stage). IsIn stage f true s.association) (sym off) now;
            offered = h.offered;
            drawn = h.drawn;
            control = keep-control e f m h.later (stage_of s.association.phase) s.association.far_tag s.association.control h.control;
            trying = λ t q. more-never own far e f m s.association.far_tag t.chunks (h.trying t q);
            later = h.later;
          };
          more = m;
          sent = tt;
          told = refl;
          given = refl;
          quiet = λ b. ((λ n. (refl, n)), tt);
        }

  -- ---- a try begins

  -- the end that tries by a name
  abbrev tries : End → (generation : ℕ) → Name → End
  tries e generation name = record e {
    generation = generation;
    wanted = true;
    drawn = name ∷ e.drawn;
    phase = CookieWait name;
    inits = name ∷ e.inits;
  }

  is-try : (x : Try) (t : Try) → Some x ≡ Some t → x ≡ t
  is-try x t e = cc

  tries-so : AreGood own → (c : Settings) (now failures : ℕ) (address : Address) (b : Beginning) (s : State) →
      own.beginning s.beginnings ≡ Some b →
      (e : End) → Shows own far mark e s → (generation step : ℕ) → generation ≡ s.generation + step →
      EndMoves other e (record e { wanted = true } ∷ tries e generation (named b.tag b.first) ∷ []) →
      (begins : Bool) → (begins ≡ false → IsQuiet e (record e { wanted = true } ∷ tries e generation (named b.tag b.first) ∷ [])) →
      Outcome own far mark other e begins (gifts e) (opening.begun_with c now failures address (Some b) (record s { generation = s.generation + step }))
  tries-so good c now failures address b s is e h generation step counted mv begins quiet =
      let name : Name = named b.tag b.first in
      let f : End = tries e generation name in
      let m : IsMore e f = more-of e f refl (λ n i. more-in name e.inits n i) (λ n i. i) (λ n i. i) (λ n i. i) (λ n i. i) (λ n i. i) in
      let first : List ChunkValue = packets.InitChunk (opening.init_of b (listing c.addresses)) ∷ [] in
      let said : IsSaid own far never f 0 first = (first-in name e.inits, tt) in
      record {
        list = record e { wanted = true } ∷ f ∷ [];
        moves = mv;
        shows = record {
          generation = counted;
          stage = record { phase = refl; fits = good.beginnings_fit s.beginnings b is; wants = refl; wanted_is = refl };
          offered = λ n i. offered-on own s.beginnings (s.beginnings + 1) n (omega arith) (offered-more own s.beginnings b e.drawn is h.offered n i);
          drawn = record {
            tried = λ n t. subst (λ (m : Name). IsDrawn own (s.beginnings + 1) m.tag) (sym t) (next-drawn own s.beginnings b is);
            echoed = λ x i. drawn-on own s.beginnings (s.beginnings + 1) x.far.tag (omega arith) (h.drawn.echoed x i);
            opened = λ n i. drawn-on own s.beginnings (s.beginnings + 1) n.tag (omega arith) (h.drawn.opened n i);
          };
          control = tt;
          trying = λ t q.
              let same : first ≡ t.chunks = ap (λ (x : Try). x.chunks) (is-try _ t q) in
              subst (λ (chunks : List ChunkValue). IsSaid own far never f 0 chunks) same said;
          later = h.later;
        };
        more = m;
        sent = (said, tt);
        told = refl;
        given = refl;
        quiet = quiet;
      }

  module _ (good : AreGood own) where
    pub begun-goes : (c : Settings) (now failures : ℕ) (address : Address) (b : Beginning) (s : State) →
        own.beginning s.beginnings ≡ Some b → stage_of s.association.phase ≡ Off →
        Starts own far mark other s (opening.begun_with c now failures address (Some b) s)
    begun-goes c now failures address b s is off e sound h = begun-so e sound h where
      begun-so : (e : End) → IsSound e other → Shows own far mark e s → Outcome own far mark other e true (gifts e) (opening.begun_with c now failures address (Some b) s)
      begun-so e sound h =
          let was : IsOff e s.is_wanted = subst (λ (stage : Stage). IsIn stage e s.is_wanted s.association) off h.stage in
          let mv : EndMoves other e (record e { wanted = true } ∷ tries e e.generation (named b.tag b.first) ∷ []) = (
            moves.wants (record { after = refl }),
            (
              moves.begins (record {
                closed = was.phase;
                wanted = refl;
                own = named b.tag b.first;
                unused = is-unused own good (record e { wanted = true }) s.beginnings b is h.offered h.drawn;
                generation = e.generation;
                later = omega arith;
                after = refl;
              }),
              tt,
            ),
          ) in
          let r : Outcome own far mark other e true (gifts e) (opening.begun_with c now failures address (Some b) (record s { generation = s.generation + 0 })) =
          tries-so good c now failures address b s is e h e.generation 0 (omega (arith, h.generation)) mv true (λ q. absurd (cc)) in
          let zero-more : s.generation + 0 ≡ s.generation = omega arith in
          subst (λ (g : ℕ). Outcome own far mark other e true (gifts e) (opening.begun_with c now failures address (Some b) (record s { generation = g }))) zero-more r

    pub renewed-goes : (c : Settings) (now failures : ℕ) (address : Address) (b : Beginning) (s : State) →
        own.beginning s.beginnings ≡ Some b → stage_of s.association.phase ≡ Echoing →
        Goes own far mark other s (opening.begun_anew_with c now failures address (Some b) s)
    renewed-goes c now failures address b s is echoing = record { result = renewed-so; tagged = λ tag t on. absurd (cc) } where
      renewed-so : (e : End) → IsSound e other → Shows own far mark e s → Result own far mark other e (opening.begun_anew_with c now failures address (Some b) s)
      renewed-so e sound h =
          let was : IsEchoing e s.is_wanted s.association = subst (λ (stage : Stage). IsIn stage e s.is_wanted s.association) echoing h.stage in
          let trying : IsTrying e.phase (own_name s.association) = subst (λ (p : ends.Phase). IsTrying p (own_name s.association)) (sym was.phase) refl in
          let mv : EndMoves other e (record e { wanted = true } ∷ tries e (e.generation + 1) (named b.tag b.first) ∷ []) = (
            moves.wants (record { after = refl }),
            (
              moves.renews (record {
                old = own_name s.association;
                trying = trying;
                own = named b.tag b.first;
                unused = is-unused own good (record e { wanted = true }) s.beginnings b is h.offered h.drawn;
                generation = e.generation + 1;
                later = omega arith;
                after = refl;
              }),
              tt,
            ),
          ) in
          let tried : IsCalm e.phase → ⊥ = λ n. subst IsCalm was.phase n in
          tries-so good c now failures address b s is e h (e.generation + 1) 1 (omega (arith, h.generation)) mv false
          (λ q. ((λ n. (refl, n)), ((λ n. absurd (tried n)), tt)))

  -- ---- INIT is answered

  -- the end that answers
  abbrev answers : End → (drawn : List Name) → Name → Name → End
  answers e drawn name init = record e { drawn = drawn; answers = moves.answer_to e.generation name init ∷ e.answers }

  answered-so : (c : Settings) (now : ℕ) (source : Address) (init : InitValue) (b : Beginning) (s : State) →
      (e : End) → Shows own far mark e s → (drawn : List Name) →
      ((n : Name) → Contains drawn n → IsOffered own s.beginnings n) →
      EndMove other e (answers e drawn (named b.tag b.first) (name_in init)) →
      Result own far mark other e (opening.answered_with c own now source init b s)
  answered-so c now source init b s e h drawn d mv =
      let name : Name = named b.tag b.first in
      let f : End = answers e drawn name (name_in init) in
      let made : Cookie = opening.cookie_for c now s b init in
      let m : IsMore e f = more-of e f refl (λ n i. i) (λ n i. more-in (moves.answer_to e.generation name (name_in init)) e.answers n i) (λ n i. i) (λ n i. i) (λ n i. i) (λ n i. i) in
      let same : answer-with e.generation name (name_in init) ≡ answer-with s.generation name (name_in init) =
      ap (λ (g : ℕ). answer-with g name (name_in init)) h.generation in
      let there : Contains f.answers (answer-with s.generation name (name_in init)) =
      subst (Contains f.answers) same (first-in (moves.answer_to e.generation name (name_in init)) e.answers) in
      record {
        list = f ∷ [];
        moves = (mv, tt);
        shows = record {
          generation = h.generation;
          stage = same-stage (stage_of s.association.phase) e f s.is_wanted s.association
              (record { phase = refl; wanted = refl; epochs = refl; cookie_acks = λ tag i. i; chunks = λ d i. i; acks = λ x i. i }) h.stage;
          offered = d;
          drawn = h.drawn;
          control = keep-control e f m h.later (stage_of s.association.phase) s.association.far_tag s.association.control h.control;
          trying = λ t q. more-never own far e f m s.association.far_tag t.chunks (h.trying t q);
          later = h.later;
        };
        more = m;
        sent = ((record { cookie = made; signed = cookie-found c.addresses (own.signed made) init.parameters; there = there }, tt), tt);
        told = refl;
        given = refl;
        quiet = λ b. ((λ n. (refl, n)), tt);
      }

  module _ (good : AreGood own) where
    pub answered-anew-goes : (c : Settings) (now : ℕ) (source : Address) (tag : ℕ) (init : InitValue) (b : Beginning) (s : State) →
        own.beginning s.beginnings ≡ Some b → Begins far own (young other) other tag (packets.InitChunk init) →
        Goes own far mark other s (opening.answered_anew_with c own now source init (Some b) s)
    answered-anew-goes c now source tag init b s is came = record { result = anew-so; tagged = λ tag t. t } where
      anew-so : (e : End) → IsSound e other → Shows own far mark e s → Result own far mark other e (opening.answered_anew_with c own now source init (Some b) s)
      anew-so e sound h =
          let name : Name = named b.tag b.first in
          let mv : EndMove other e (answers e (name ∷ e.drawn) name (name_in init)) =
          moves.answers_anew (record {
            init = name_in init;
            there = came;
            own = name;
            unused = is-unused own good e s.beginnings b is h.offered h.drawn;
            after = refl;
          }) in
          answered-so c now source init b s e h (name ∷ e.drawn) (offered-more own s.beginnings b e.drawn is h.offered) mv

  -- the end tries by the name of the association
  is-trying : (stage : Stage) (e : End) (wanted : Bool) (a : Association) → IsIn stage e wanted a → (stage ≡ Waiting) ⊎ (stage ≡ Echoing) →
      IsTrying e.phase (own_name a)
  is-trying Off e wanted a h (inl q) = absurd (cc)
  is-trying Off e wanted a h (inr q) = absurd (cc)
  is-trying Waiting e wanted a h q = subst (λ (p : ends.Phase). IsTrying p (own_name a)) (sym h.phase) refl
  is-trying Echoing e wanted a h q = subst (λ (p : ends.Phase). IsTrying p (own_name a)) (sym h.phase) refl
  is-trying There e wanted a h (inl q) = absurd (cc)
  is-trying There e wanted a h (inr q) = absurd (cc)

  pub answered-alike-goes : (c : Settings) (now : ℕ) (source : Address) (tag : ℕ) (init : InitValue) (s : State) →
      (stage_of s.association.phase ≡ Waiting) ⊎ (stage_of s.association.phase ≡ Echoing) →
      Begins far own (young other) other tag (packets.InitChunk init) →
      Goes own far mark other s (opening.answered_alike c own now source init s)
  answered-alike-goes c now source tag init s q came = record { result = alike-so; tagged = λ tag t. t } where
    alike-so : (e : End) → IsSound e other → Shows own far mark e s → Result own far mark other e (opening.answered_alike c own now source init s)
    alike-so e sound h =
        let mv : EndMove other e (answers e e.drawn (own_name s.association) (name_in init)) =
        moves.answers_by_try (record {
          init = name_in init;
          there = came;
          own = own_name s.association;
          trying = is-trying (stage_of s.association.phase) e s.is_wanted s.association h.stage q;
          after = refl;
        }) in
        answered-so c now source init (opening.own_beginning s.association) s e h e.drawn h.offered mv

  -- ---- INIT ACK is answered

  echo-said : (age : Age) (f : End) (tag : ℕ) (octets : List ℕ) (items : List ItemValue) → IsEcho far f octets →
      IsSaid own far age f tag (opening.echo_of octets items)
  echo-said age f tag octets items i = (i, reports-said (nat_le (length octets) 660) items) where
    reports-said : (b : Bool) (items : List ItemValue) → Each (Bundles age f tag) (if b then opening.reports_of items else [])
    reports-said false items = tt
    reports-said true [] = tt
    reports-said true (item ∷ items) = (tt, tt)

  some-same : {X : Type 0} (x y : X) → Some x ≡ Some y → x ≡ y
  some-same x y e = cc

  echoed-drawn : {many : ℕ} (first : ends.Cookie) (echoes : List ends.Cookie) → IsDrawn own many first.far.tag →
      ((c : ends.Cookie) → Contains echoes c → IsDrawn own many c.far.tag) →
      (c : ends.Cookie) → Contains (first ∷ echoes) c → IsDrawn own many c.far.tag
  echoed-drawn {many} first echoes d h c i = by (in-from (first ∷ echoes) c i) where
    by : In c (first ∷ echoes) → IsDrawn own many c.far.tag
    by (inl same) = subst (λ (x : ends.Cookie). IsDrawn own many x.far.tag) (sym same) d
    by (inr m) = h c (contains-from echoes c m)

  pub echoed-goes : (c : Settings) (now failures : ℕ) (init : InitValue) (octets : List ℕ) (s : State) →
      stage_of s.association.phase ≡ Waiting → cookie_in init.parameters ≡ Some octets →
      (tag : ℕ) → s.association.own_tag ≡ tag → Begins far own (young other) other tag (packets.InitAckChunk init) →
      Does own far mark other s (opening.echoed c now failures init octets s)
  echoed-goes c now failures init octets s waiting inside tag tag_is came e sound h = echoed-so e sound h where
    echoed-so : (e : End) → IsSound e other → Shows own far mark e s → Result own far mark other e (opening.echoed c now failures init octets s)
    echoed-so e sound h =
        let was : IsWaiting e s.is_wanted s.association = subst (λ (stage : Stage). IsIn stage e s.is_wanted s.association) waiting h.stage in
        let plain : Each (Waits Waiting mark e s.association.far_tag) s.association.control =
        subst (λ (stage : Stage). Each (Waits stage mark e s.association.far_tag) s.association.control) waiting h.control in
        let f : End = record e {
          phase = CookieEchoed (own_name s.association) (name_in init);
          echoes = cookie_of came.cookie ∷ e.echoes;
        } in
        let m : IsMore e f = more-of e f refl (λ n i. i) (λ n i. i) (λ n i. more-in (cookie_of came.cookie) e.echoes n i) (λ n i. i) (λ n i. i) (λ n i. i) in
        let tried : IsDrawn own s.beginnings s.association.own_tag =
        h.drawn.tried (own_name s.association) (subst (λ (p : ends.Phase). IsTrying p (own_name s.association)) (sym was.phase) refl) in
        let answer : Answer = record { to = tag; own = name_in init; cookie = cookie_of came.cookie } in
        let sent-to : s.association.own_tag ≡ came.cookie.peer_tag = tag_is ∙ (sound.sides.far.answers answer (in-from other.answers answer came.there)).to in
        let echo : IsEcho far f octets = record {
          cookie = came.cookie;
          signed = some-same octets (far.signed came.cookie) (sym inside ∙ came.signed);
          there = first-in (cookie_of came.cookie) e.echoes;
        } in
        record {
          list = f ∷ [];
          moves = (
            moves.echoes (record {
              own = own_name s.association;
              waits = was.phase;
              answer = record { to = tag; own = name_in init; cookie = cookie_of came.cookie };
              there = came.there;
              to = sym tag_is;
              after = refl;
            }),
            tt,
          );
          shows = record {
            generation = h.generation;
            stage = record { phase = refl; fits = was.fits; wants = was.wants; wanted_is = was.wanted_is };
            offered = h.offered;
            drawn = record {
              tried = λ n t. h.drawn.tried n (subst (λ (p : ends.Phase). IsTrying p n) (sym was.phase) t);
              echoed = echoed-drawn (cookie_of came.cookie) e.echoes (subst (IsDrawn own s.beginnings) sent-to tried) h.drawn.echoed;
              opened = h.drawn.opened;
            };
            control = plain;
            trying = λ t q.
                subst (λ (chunks : List ChunkValue). IsSaid own far never f init.tag chunks) (ap (λ (x : Try). x.chunks) (some-same _ t q))
                (echo-said never f init.tag octets (complained_of init.parameters) echo);
            later = h.later;
          };
          more = m;
          sent = (echo-said (since mark f) f _ octets (complained_of init.parameters) echo, tt);
          told = refl;
          given = refl;
          quiet = λ b. ((λ n. absurd (subst IsCalm was.phase n)), tt);
        }

  -- ---- an association opens

  -- the end that has opened one, and put out COOKIE ACK
  abbrev opens : End → (name peer : Name) → End
  opens e name peer = record e { generation = e.generation + 1; phase = Established; epochs = new_epoch name peer ∷ e.epochs }

  abbrev confirms : End → (name peer : Name) → End
  confirms e name peer = record (opens e name peer) { cookie_acks = peer.tag ∷ e.cookie_acks }

  abbrev acknowledges : End → (name peer : Name) → End
  acknowledges e name peer = record (confirms e name peer) { acks = moves.ack_of (new_epoch name peer) ∷ e.acks }

  nothing-at : (place : ℕ) (m : Message) → slice_get [] place ≡ Some m → ⊥
  nothing-at place m e = grind (arith, common_steps)

  new-sends : (f : End) (name peer : Name) (b : Bool) (bounds : Bounds) (window : ℕ) → name.first < modulus →
      SendsOut f (new_epoch name peer) b (first_sending bounds name.first window)
  new-sends f name peer b bounds window fits = record {
    given = [];
    part = refl;
    order = record { out = refl; tsn = omega (arith, fits); chunks = All-nil (λ (d : DataValue). IsGiven name.first [] d) };
    went = omega arith;
    within = omega arith;
    all = λ e. refl;
    taken = λ place m i. absurd (nothing-at place m i);
    put = λ place m i. absurd (nothing-at place m i);
  }

  new-takes : (f : End) (name peer : Name) → Contains f.acks (moves.ack_of (new_epoch name peer)) →
      TakesIn f (new_epoch name peer) (first_receiver STREAMS peer.first)
  new-takes f name peer i = record {
    streams = refl;
    partial = refl;
    cumulative_is = omega arith;
    places = length-replicate {A = Option Piece} 256 None;
    held = λ ahead p low high there.
        let none : get_or {A = Option Piece} (replicate 256 None) ((previous_tsn peer.first + ahead) % 256) None ≡ None =
        get_or-replicate {A = Option Piece} 256 ((previous_tsn peer.first + ahead) % 256) None None (omega arith) in
        let gone : None ≡ Some p = sym none ∙ there in
        absurd (cc);
    acknowledged = i;
  }

  -- the new association has no message yet
  opened-grown : (e f : End) (first : Epoch) → first.sent ≡ [] → first.received ≡ [] → f.epochs ≡ first ∷ e.epochs →
      (g : Epoch) → Contains f.epochs g → IsGrown e f g
  opened-grown e f first none nothing is g i =
      let heavy : load f.epochs ≡ load (first ∷ e.epochs) = ap load is in
      let a : length first.sent ≡ 0 = ap (λ (ms : List Message). length ms) none in
      let b : length first.received ≡ 0 = ap (λ (ms : List Message). length ms) nothing in
      by heavy a b (in-from (first ∷ e.epochs) g (subst (λ (es : List Epoch). Contains es g) is i)) where
        by : load f.epochs ≡ load (first ∷ e.epochs) → length first.sent ≡ 0 → length first.received ≡ 0 → In g (first ∷ e.epochs) → IsGrown e f g
        by heavy a b (inl same-one) =
            let c : length g.sent ≡ 0 = ap (λ (k : Epoch). length k.sent) same-one ∙ a in
            let d : length g.received ≡ 0 = ap (λ (k : Epoch). length k.received) same-one ∙ b in
            grows_new (omega (arith, heavy, a, b, c)) (omega (arith, heavy, a, b, d))
        by heavy a b (inr m) = grows_from g (contains-from e.epochs g m) refl (omega (arith, heavy, a, b)) (omega (arith, heavy, a, b))

  opened-drawn : {many : ℕ} (first : Name) (names : List Name) → IsDrawn own many first.tag →
      ((n : Name) → Contains names n → IsDrawn own many n.tag) → (n : Name) → Contains (first ∷ names) n → IsDrawn own many n.tag
  opened-drawn {many} first names d h n i = by (in-from (first ∷ names) n i) where
    by : In n (first ∷ names) → IsDrawn own many n.tag
    by (inl same) = subst (λ (x : Name). IsDrawn own many x.tag) (sym same) d
    by (inr m) = h n (contains-from names n m)

  opened-so : (c : Settings) (now own_tag far_tag own_first : ℕ) (peer : state.Peer) (address : Address) (s : State) →
      own_first < modulus → IsDrawn own s.beginnings own_tag → (e : End) → Shows own far mark e s →
      EndMove other e (opens e (named own_tag own_first) (named far_tag peer.first)) →
      Result own far mark other e (opening.opened c now own_tag far_tag own_first peer address s)
  opened-so c now own_tag far_tag own_first peer address s fits drawn e h mv =
      let name : Name = named own_tag own_first in
      let away : Name = named far_tag peer.first in
      let first : Epoch = new_epoch name away in
      let f : End = acknowledges e name away in
      let heavy : load e.epochs ≤ load f.epochs = omega arith in
      let m : IsMore e f = record {
        inits = λ n i. i;
        answers = λ n i. i;
        echoes = λ n i. i;
        cookie_acks = λ n i. more-in far_tag e.cookie_acks n i;
        chunks = λ n i. i;
        acks = λ n i. more-in (moves.ack_of first) e.acks n i;
        heavier = heavy;
        grown = opened-grown e f first refl refl refl;
      } in
      record {
        list = opens e name away ∷ confirms e name away ∷ f ∷ [];
        moves = (
          mv,
          (
            moves.sends_cookie_ack (record { up = refl; epoch = first; past = e.epochs; now = refl; after = refl }),
            (moves.sends_ack (record { up = refl; epoch = first; past = e.epochs; now = refl; after = refl }), tt),
          ),
        );
        shows = record {
          generation = omega (arith, h.generation);
          stage = record {
            up = refl;
            epoch = first;
            past = e.epochs;
            now = refl;
            own = refl;
            far = refl;
            confirmed = first-in far_tag e.cookie_acks;
            sends = new-sends f name away true c.bounds peer.window fits;
            takes = new-takes f name away (first-in (moves.ack_of first) e.acks);
          };
          offered = h.offered;
          drawn = record {
            tried = λ n t. absurd t;
            echoed = h.drawn.echoed;
            opened = opened-drawn name (map own_of e.epochs) drawn h.drawn.opened;
          };
          control = tt;
          trying = λ t q. absurd (cc);
          later = omega (arith, h.later, heavy);
        };
        more = m;
        sent = tt;
        told = refl;
        given = refl;
        quiet = λ b. ((λ n. (refl, tt)), ((λ n. (refl, n)), ((λ n. (refl, n)), tt)));
      }

  pub opened-by-ack-goes : (c : Settings) (now : ℕ) (s : State) → stage_of s.association.phase ≡ Echoing →
      (tag : ℕ) → s.association.own_tag ≡ tag → Bundles (young other) other tag packets.CookieAckChunk →
      Goes own far mark other s
      (opening.opened c now s.association.own_tag s.association.far_tag s.association.own_first s.association.peer s.association.address s)
  opened-by-ack-goes c now s echoing tag tag_is came = record {
    result = ack-so;
    tagged = λ t u on. u (ap hears echoing);
  } where
    ack-so : (e : End) → IsSound e other → Shows own far mark e s →
        Result own far mark other e
        (opening.opened c now s.association.own_tag s.association.far_tag s.association.own_first s.association.peer s.association.address s)
    ack-so e sound h =
        let a : Association = s.association in
        let was : IsEchoing e s.is_wanted a = subst (λ (stage : Stage). IsIn stage e s.is_wanted s.association) echoing h.stage in
        let drawn : IsDrawn own s.beginnings a.own_tag =
        h.drawn.tried (own_name a) (subst (λ (p : ends.Phase). IsTrying p (own_name a)) (sym was.phase) refl) in
        opened-so c now a.own_tag a.far_tag a.own_first a.peer a.address s was.fits drawn e h
        (moves.opens_by_ack (record {
          own = own_name a;
          far = far_name a;
          echoed = was.phase;
          there = subst (Contains other.cookie_acks) (sym tag_is) came;
          generation = e.generation + 1;
          later = omega arith;
          after = refl;
        }))

  -- a cookie of the present generation opens, where it may
  pub opened-by-cookie-does : (c : Settings) (now : ℕ) (source : Address) (cookie : Cookie) (s : State) →
      cookie.generation ≡ s.generation → cookie.own_first_tsn < modulus → Contains other.echoes (cookie_of cookie) →
      ((e : End) → Shows own far mark e s → MayOpenBy own s.beginnings e cookie) →
      Does own far mark other s
      (opening.opened c now cookie.own_tag cookie.peer_tag cookie.own_first_tsn
      (record { first = cookie.peer_first_tsn; window = cookie.peer_window }) source s)
  opened-by-cookie-does c now source cookie s present fits came may e sound h =
      opened-so c now cookie.own_tag cookie.peer_tag cookie.own_first_tsn
      (record { first = cookie.peer_first_tsn; window = cookie.peer_window }) source s fits (may e h).drawn e h
      (moves.opens_by_cookie (record {
        wanted = (may e h).wanted;
        cookie = cookie_of cookie;
        there = came;
        present = present ∙ sym h.generation;
        may = (may e h).may;
        generation = e.generation + 1;
        later = omega arith;
        after = refl;
      }))
