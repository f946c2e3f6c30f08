-- Runs of two endpoints as moves of two ends.
use Rattle.std.proofs.Common.{◌≡◌, inl, inr, ◌<◌, ◌≤◌, ℕ, zero, suc, ◌+◌, ◌*◌, arith, List, [], ◌∷◌, ◌++◌, Option, Some, None, map, length, take, refl, ap, sym, ◌∙◌, subst}
use Rattle.std.specs.Prelude.{slice_get}
use Rattle.std.specs.List.{Contains}
use Rattle.std.proofs.lemmas.Grind.{common_steps}
use Rattle.sctp_codec.specs.Packets.{PacketValue}
use Rattle.sctp_rules.specs.Settings.{Settings, Secrets}
use Rattle.sctp_rules.specs.State.{Association, State, Datagram, Told, Up, Heard, Down, Failed, Done}
use Rattle.sctp_rules.specs.Openings.{openings}
use Rattle.sctp_rules.specs.Endpoint.{Happening, Opens, Came, Ticked, Sends, Aborts, ShutsDown, Flushes, after}
use Rattle.sctp_moves.specs.Numbers.{modulus, window}
use Rattle.sctp_moves.specs.Ends.{Message, Name, Epoch, End, new_end, Ends, new_ends, turned}
use Rattle.sctp_moves.specs.Moves.{EndMoves, last_end, Moves, last_of}
use Rattle.sctp_moves.specs.Theorems.{both, AreMoves, BothWays, AreOne, CarriesOver, Carries, HasOther, OwnTagsDiffer, FarTagsDiffer, AreInOrder}
use Rattle.sctp_moves.proofs.Joining.{near-moves, far-moves, moves-join}
use Rattle.sctp_moves.proofs.Concluded.{prefix-always, received-always, own-always, far-always, order-always}
use Rattle.sctp_moves.proofs.Keeping.{IsSound, turned-sound, sound-always}
use Rattle.sctp_moves.proofs.Sides.{Tie, tie}
use Rattle.sctp_moves.proofs.Turns.{LastOpened, last-opened}
use Rattle.sctp_moves.proofs.Members.{In, in-from, contains-from, in-place}
use Rattle.sctp_ends.specs.Said.{Each, load, since, young, IsSaid}
use Rattle.sctp_ends.specs.Shown.{AreGood, Waits, Stage, stage_of, own_name, far_name, IsIn, IsPresent, IsEchoing, IsWaiting, Shows}
use Rattle.sctp_ends.specs.Told.{with_last, text_told, told_by, opened_by, given_by}
use Rattle.sctp_ends.specs.Theorems.{GoesOn, steps_go_on}
use Rattle.sctp_ends.specs.Worlds.{Site, new_site, count, messages_at, marked_by, emitted, with_done, World, Make, new_world, MayHappen, at_near, at_far, Step, Steps, last_world}
use Rattle.sctp_ends.specs.Theorems.{begins, Heeds, received_in, sent_in, AreReached, steps_are_moves, IsEmitted, ShowsSite, IsShown, worlds_are_shown}
use Rattle.sctp_ends.specs.Theorems.{Delivers, told_messages_were_given, AreTogether, HasOpened, OpensTogether, associations_have_the_laws}
use Rattle.sctp_ends.proofs.Said.{each-append, each-weaker, each-contains, more-said, said-older, Older}
use Rattle.sctp_ends.proofs.Alike.{Outcome, told-append}
use Rattle.sctp_ends.proofs.Pass.{happens}

-- ---- one endpoint

reached-sound : (e other : End) → AreReached e other → IsSound e other
reached-sound e other (inl r) = subst (λ (p : Ends). IsSound p.near p.far) r.last (sound-always r.list r.moves)
reached-sound e other (inr r) =
    turned-sound other e (subst (λ (p : Ends). IsSound p.near p.far) r.last (sound-always r.list r.moves))

pub are-moves : steps_are_moves
are-moves c own far mark other e what s good reached h shown =
    let r : Outcome own far mark other e (begins what) (given_by what s (sent_in e)) (after c own what s) =
    happens own far mark other good c what s h e (reached-sound e other reached) shown in
    record { list = r.list; moves = r.moves; shows = r.shows; sent = r.sent; told = r.told; given = r.given; quiet = r.quiet }

-- ---- how many messages

counted : (a b l m n : ℕ) → l ≡ m + n → a + b + l ≡ a + m + (b + n)
counted a b l m n e = omega (arith, e)

load-is : (epochs : List Epoch) → load epochs ≡ count (map (λ (x : Epoch). x.sent) epochs) + count (map (λ (x : Epoch). x.received) epochs)
load-is [] = refl
load-is (epoch ∷ past) =
    let r : load past ≡ count (map (λ (x : Epoch). x.sent) past) + count (map (λ (x : Epoch). x.received) past) = load-is past in
    counted (length epoch.sent) (length epoch.received) (load past) (count (map (λ (x : Epoch). x.sent) past)) (count (map (λ (x : Epoch). x.received) past)) r

site-load : (own far : Secrets) (e : End) (site : Site) → ShowsSite own far e site → load e.epochs ≡ messages_at site
site-load own far e site h =
    load-is e.epochs ∙ ap (λ (lists : List (List Message)). count lists + count (received_in e)) h.given
    ∙ ap (λ (lists : List (List Message)). count site.given + count lists) h.told

-- ---- a step of one of two

each-map : {A B : Type 0} (f : A → B) (P : B → Type 0) (xs : List A) → Each (λ x. P (f x)) xs → Each P (map f xs)
each-map f P [] h = tt
each-map f P (x ∷ xs) h = (h.0, each-map f P xs h.1)

-- once packets were asked for, nothing waits
nothing-waits : (c : Settings) (own : Secrets) (now : ℕ) (s : State) → (after c own (Flushes now) s).left.association.control ≡ []
unfolding after
nothing-waits c own now s = refl

module _ (own far : Secrets) where
  -- what was made not long ago is young
  since-young : (e : End) (made : ℕ) → load e.epochs + 2 * window ≤ made + modulus → Older (since made e) (young e) e e
  since-young e made l = record {
    inits = λ n i. i;
    answers = λ n i. i;
    echoes = λ n i. i;
    cookie_acks = λ n i. i;
    chunks = λ n i. i;
    acks = λ n i. i;
    chunk = λ d h g i t. let a : length g.sent + made ≤ d.place + window + load e.epochs = h g i t in omega (arith, a, l);
    ack = λ a h g i t. let b : length g.received + made ≤ a.count + load e.epochs = h g i t in omega (arith, b, l);
  }

  -- what may happen was put out by the other end
  pub heeds : (other : End) (site : Site) (what : Happening) → ShowsSite far own other site → MayHappen site what → Heeds own far other what
  heeds other site (Opens now is_active) shown may = tt
  heeds other site (Came now source packet) shown may =
      let one : IsEmitted far own other may.one = each-contains (IsEmitted far own other) site.packets shown.packets may.one may.there in
      let made : load other.epochs + 2 * window ≤ may.one.made + modulus =
      subst (λ (n : ℕ). n + 2 * window ≤ may.one.made + modulus) (sym (site-load far own other site shown)) may.young in
      subst (λ (p : PacketValue). IsSaid far own (young other) other p.tag p.chunks) may.is
      (said-older (since may.one.made other) (young other) other other (since-young other may.one.made made) far own may.one.packet.tag may.one.packet.chunks one.said)
  heeds other site (Ticked now) shown may = tt
  heeds other site (Sends message) shown may = tt
  heeds other site Aborts shown may = tt
  heeds other site (ShutsDown now) shown may = tt
  heeds other site (Flushes now) shown may = tt

  remarked : (mark later : ℕ) (e : End) (s : State) → s.association.control ≡ [] → later ≤ load e.epochs → Shows own far mark e s → Shows own far later e s
  remarked mark later e s none l h = record {
    generation = h.generation;
    stage = h.stage;
    offered = h.offered;
    drawn = h.drawn;
    control = subst (λ (control : List _). Each (Waits (stage_of s.association.phase) later e s.association.far_tag) control) (sym none) tt;
    trying = h.trying;
    later = l;
  }

  marked : (c : Settings) (what : Happening) (s : State) (site : Site) (f : End) → messages_at site ≤ load f.epochs →
      Shows own far site.mark f (after c own what s).left → Shows own far (marked_by what site) f (after c own what s).left
  marked c (Flushes now) s site f l h =
      remarked site.mark (messages_at site) f (after c own (Flushes now) s).left (nothing-waits c own now s) l h
  marked c (Opens now is_active) s site f l h = h
  marked c (Came now source packet) s site f l h = h
  marked c (Ticked now) s site f l h = h
  marked c (Sends message) s site f l h = h
  marked c Aborts s site f l h = h
  marked c (ShutsDown now) s site f l h = h

  pub site-after : (c : Settings) (other e : End) (what : Happening) (site : Site) → ShowsSite own far e site →
      (r : Outcome own far site.mark other e (begins what) (given_by what site.state (sent_in e)) (after c own what site.state)) →
      ShowsSite own far (last_end e r.list) (with_done what (after c own what site.state) site)
  site-after c other e what site shown r =
      let d : Done = after c own what site.state in
      let f : End = last_end e r.list in
      let heavy : messages_at site ≤ load f.epochs = let q : load e.epochs ≡ messages_at site = site-load own far e site shown in omega (arith, q, r.more.heavier) in
      record {
        state = marked c what site.state site f heavy r.shows;
        packets = each-append (IsEmitted own far f) (map (emitted site.mark) d.sent) site.packets
            (each-map (emitted site.mark) (IsEmitted own far f) d.sent
            (each-weaker (λ (x : Datagram). IsSaid own far (since site.mark f) f x.packet.tag x.packet.chunks) (λ (x : Datagram). IsEmitted own far f (emitted site.mark x))
            (λ x h. record { said = h; before = r.shows.later }) d.sent r.sent))
            (each-weaker (IsEmitted own far e) (IsEmitted own far f)
            (λ p h. record {
              said = more-said own far p.made e f r.more h.before p.packet.tag p.packet.chunks h.said;
              before = let b : p.made ≤ load e.epochs = h.before in omega (arith, b, r.more.heavier);
            }) site.packets shown.packets);
        told = r.told ∙ ap (λ (lists : List (List Message)). told_by lists d.told) shown.told ∙ sym (told-append [] site.told d.told);
        given = r.given ∙ ap (λ (lists : List (List Message)). opened_by (given_by what site.state lists) d.told) shown.given;
      }

  pub new-shown : (c : Settings) → ShowsSite own far new_end (new_site c)
  new-shown c = record {
    state = record {
      generation = refl;
      stage = record { phase = refl; wants = refl };
      offered = λ n i. absurd (in-from [] n i);
      drawn = record { tried = λ n t. absurd t; echoed = λ c i. absurd (in-from [] c i); opened = λ n i. absurd (in-from [] n i) };
      control = tt;
      trying = λ t q. absurd (cc);
      later = omega arith;
    };
    packets = tt;
    told = refl;
    given = refl;
  }

-- ---- runs

started : (p : Ends) (list : List Ends) → Moves new_ends list → last_of new_ends list ≡ p → AreMoves new_ends list p
started p list m e = record { moves = m; last = e }

shown-sound : (near far : Make) (w : World) → (h : IsShown near far w) → IsSound h.ends.near h.ends.far
shown-sound near far w h = subst (λ (p : Ends). IsSound p.near p.far) h.last (sound-always h.list h.moves)

far-stays : (y : End) (list : List End) → Each (λ (p : Ends). p.far ≡ y) (map (λ (e : End). both e y) list)
far-stays y [] = tt
far-stays y (e ∷ list) = (refl, far-stays y list)

near-stays : (y : End) (list : List End) → Each (λ (p : Ends). p.near ≡ y) (map (λ (e : End). both y e) list)
near-stays y [] = tt
near-stays y (e ∷ list) = (refl, near-stays y list)

pub goes-on : steps_go_on
goes-on near far w v h good fine (at_near what may is) =
    let k : Secrets = near.secrets in
    let l : Secrets = far.secrets in
    let x : End = h.ends.near in
    let y : End = h.ends.far in
    let r : Outcome k l w.near.mark y x (begins what) (given_by what w.near.state (sent_in x)) (after near.settings k what w.near.state) =
    happens k l w.near.mark y good near.settings what w.near.state (heeds k l y w.far what h.far_end may) x (shown-sound near far w h) h.near_end.state in
    let m : AreMoves h.ends (map (λ (e : End). both e y) r.list) (both (last_end x r.list) y) = near-moves x y r.list r.moves in
    let all : AreMoves new_ends (h.list ++ map (λ (e : End). both e y) r.list) (both (last_end x r.list) y) =
    moves-join new_ends h.ends (both (last_end x r.list) y) h.list (map (λ (e : End). both e y) r.list) (started h.ends h.list h.moves h.last) m in
    subst (λ (u : World). GoesOn near far w u h) (sym is)
    (record {
      shown = record {
        ends = both (last_end x r.list) y;
        list = h.list ++ map (λ (e : End). both e y) r.list;
        moves = all.moves;
        last = all.last;
        near_end = site-after k l near.settings y x what w.near h.near_end r;
        far_end = h.far_end;
      };
      more = map (λ (e : End). both e y) r.list;
      list = refl;
      alone = inl (far-stays y r.list);
    })
goes-on near far w v h good fine (at_far what may is) =
    let k : Secrets = far.secrets in
    let l : Secrets = near.secrets in
    let x : End = h.ends.far in
    let y : End = h.ends.near in
    let r : Outcome k l w.far.mark y x (begins what) (given_by what w.far.state (sent_in x)) (after far.settings k what w.far.state) =
    happens k l w.far.mark y fine far.settings what w.far.state (heeds k l y w.near what h.near_end may) x
    (turned-sound y x (shown-sound near far w h)) h.far_end.state in
    let m : AreMoves h.ends (map (λ (e : End). both y e) r.list) (both y (last_end x r.list)) = far-moves y x r.list r.moves in
    let all : AreMoves new_ends (h.list ++ map (λ (e : End). both y e) r.list) (both y (last_end x r.list)) =
    moves-join new_ends h.ends (both y (last_end x r.list)) h.list (map (λ (e : End). both y e) r.list) (started h.ends h.list h.moves h.last) m in
    subst (λ (u : World). GoesOn near far w u h) (sym is)
    (record {
      shown = record {
        ends = both y (last_end x r.list);
        list = h.list ++ map (λ (e : End). both y e) r.list;
        moves = all.moves;
        last = all.last;
        near_end = h.near_end;
        far_end = site-after k l far.settings y x what w.far h.far_end r;
      };
      more = map (λ (e : End). both y e) r.list;
      list = refl;
      alone = inr (near-stays y r.list);
    })

steps-shown : (near far : Make) → AreGood near.secrets → AreGood far.secrets → (w : World) (list : List World) → Steps near far w list →
    IsShown near far w → IsShown near far (last_world w list)
steps-shown near far good fine w [] m h = h
steps-shown near far good fine w (v ∷ list) m h = steps-shown near far good fine v list m.1 (goes-on near far w v h good fine m.0).shown

pub all-shown : worlds_are_shown
all-shown near far good fine list m =
    steps-shown near far good fine (new_world near far) list m
    (record {
      ends = new_ends;
      list = [];
      moves = tt;
      last = refl;
      near_end = new-shown near.secrets far.secrets near.settings;
      far_end = new-shown far.secrets near.secrets far.settings;
    })

-- ---- the laws of associations

with-last-long : (m : Message) (lists : List (List Message)) → length (with_last m lists) ≡ length lists
with-last-long m [] = refl
with-last-long m (latest ∷ past) = refl

opened-many : (lists : List (List Message)) (tolds : List Told) → length (told_by lists tolds) ≡ length lists + openings tolds
opened-many lists [] = omega arith
opened-many lists (Up ∷ more) =
    let r : length (told_by ([] ∷ lists) more) ≡ length ([] ∷ lists) + openings more = opened-many ([] ∷ lists) more in
    grind (arith, common_steps, r)
opened-many lists (Heard m ∷ more) =
    let r : length (told_by (with_last (text_told m) lists) more) ≡ length (with_last (text_told m) lists) + openings more =
    opened-many (with_last (text_told m) lists) more in
    omega (arith, r, with-last-long (text_told m) lists)
opened-many lists (Down why ∷ more) = opened-many lists more
opened-many lists (Failed why ∷ more) = opened-many lists more

received-long : (epochs : List Epoch) → length (map (λ (x : Epoch). x.received) epochs) ≡ length epochs
received-long [] = refl
received-long (e ∷ epochs) = ap suc (received-long epochs)

epochs-many : (own far : Secrets) (e : End) (site : Site) → ShowsSite own far e site → length e.epochs ≡ openings site.told
epochs-many own far e site h =
    let a : length (told_by [] site.told) ≡ 0 + openings site.told = opened-many [] site.told in
    let b : length (received_in e) ≡ length (told_by [] site.told) = ap (λ (lists : List (List Message)). length lists) h.told in
    omega (arith, a, b, received-long e.epochs)

not-more : (n : ℕ) → n < n → ⊥
not-more n l = omega (arith, l)

first-of : (t u : Tie) (ts us : List Tie) → t ∷ ts ≡ u ∷ us → t ≡ u
first-of t u ts us e = cc

-- an endpoint whose moves open an association, and the other one
together : (own far : Secrets) (x y : End) (list : List End) → EndMoves y x list → IsSound x y → (before site other : Site) →
    ShowsSite own far x before → ShowsSite own far (last_end x list) site → ShowsSite far own y other → HasOpened before site →
    AreTogether site.state other.state
together own far x y list m sound before site other was now h opened =
    let f : End = last_end x list in
    let a : Association = site.state.association in
    let b : Association = other.state.association in
    let l : LastOpened y f =
    last-opened x y list m sound (omega (arith, opened.told, epochs-many own far x before was, epochs-many own far f site now)) in
    let e : Epoch = l.epoch in
    let here : IsPresent f a = subst (λ (stage : Stage). IsIn stage f site.state.is_wanted a) opened.there now.state.stage in
    let same : tie here.epoch ≡ tie e =
    first-of (tie here.epoch) (tie e) (map tie here.past) l.past (sym (ap (λ (es : List Epoch). map tie es) here.now) ∙ l.latest) in
    let own-is : e.own.tag ≡ a.own_tag = sym (ap (λ (t : Tie). t.own.tag) same) ∙ ap (λ (n : Name). n.tag) here.own in
    let far-is : e.far.tag ≡ a.far_tag = sym (ap (λ (t : Tie). t.far.tag) same) ∙ ap (λ (n : Name). n.tag) here.far in
    record {
      there = λ q.
          let o : IsPresent y b = subst (λ (stage : Stage). IsIn stage y other.state.is_wanted b) q h.state.stage in
          let one : AreOne e o.epoch = l.meets.latest o.epoch o.past o.up o.now in
          (sym (ap (λ (n : Name). n.tag) o.own) ∙ sym one.back ∙ far-is, sym (ap (λ (n : Name). n.tag) o.far) ∙ sym one.there ∙ own-is);
      echoing = λ q t.
          let o : IsEchoing y other.state.is_wanted b = subst (λ (stage : Stage). IsIn stage y other.state.is_wanted b) q h.state.stage in
          (l.meets.echoing (own_name b) (far_name b) o.phase (t ∙ sym far-is) ∙ own-is, o.wanted_is);
      waiting = λ q t.
          let o : IsWaiting y other.state.is_wanted b = subst (λ (stage : Stage). IsIn stage y other.state.is_wanted b) q h.state.stage in
          l.meets.waiting (own_name b) o.phase (t ∙ sym far-is);
    }

opens-together : (near far : Make) (w v : World) → IsShown near far w → AreGood near.secrets → AreGood far.secrets → Step near far w v →
    OpensTogether w v
opens-together near far w v h good fine (at_near what may is) =
    let k : Secrets = near.secrets in
    let l : Secrets = far.secrets in
    let x : End = h.ends.near in
    let y : End = h.ends.far in
    let sound : IsSound x y = shown-sound near far w h in
    let r : Outcome k l w.near.mark y x (begins what) (given_by what w.near.state (sent_in x)) (after near.settings k what w.near.state) =
    happens k l w.near.mark y good near.settings what w.near.state (heeds k l y w.far what h.far_end may) x sound h.near_end.state in
    let left : Site = with_done what (after near.settings k what w.near.state) w.near in
    subst (λ (u : World). OpensTogether w u) (sym is)
    (record {
      near = λ opened. together k l x y r.list r.moves sound w.near left w.far h.near_end (site-after k l near.settings y x what w.near h.near_end r) h.far_end opened;
      far = λ opened. absurd (not-more (openings w.far.told) opened.told);
    })
opens-together near far w v h good fine (at_far what may is) =
    let k : Secrets = far.secrets in
    let l : Secrets = near.secrets in
    let x : End = h.ends.far in
    let y : End = h.ends.near in
    let sound : IsSound x y = turned-sound y x (shown-sound near far w h) in
    let r : Outcome k l w.far.mark y x (begins what) (given_by what w.far.state (sent_in x)) (after far.settings k what w.far.state) =
    happens k l w.far.mark y fine far.settings what w.far.state (heeds k l y w.near what h.near_end may) x sound h.far_end.state in
    let left : Site = with_done what (after far.settings k what w.far.state) w.far in
    subst (λ (u : World). OpensTogether w u) (sym is)
    (record {
      near = λ opened. absurd (not-more (openings w.near.told) opened.told);
      far = λ opened. together k l x y r.list r.moves sound w.far left w.near h.far_end (site-after k l far.settings y x what w.far h.far_end r) h.near_end opened;
    })

pub have-the-laws : associations_have_the_laws
have-the-laws near far good fine list m =
    let w : World = last_world (new_world near far) list in
    let h : IsShown near far w = all-shown near far good fine list m in
    record {
      shown = h;
      carries = subst (BothWays CarriesOver) h.last (prefix-always h.list h.moves);
      own_tags = subst (BothWays OwnTagsDiffer) h.last (own-always h.list h.moves);
      far_tags = subst (BothWays FarTagsDiffer) h.last (far-always h.list h.moves);
      order = subst (BothWays AreInOrder) h.last (order-always h.list h.moves);
      openings = λ v step. opens-together near far w v h good fine step;
    }

-- ---- what was told was given

place-of : {X : Type 0} (xs : List X) (x : X) → In x xs → (i : ℕ) × (slice_get xs i ≡ Some x)
place-of [] x m = absurd m
place-of {X = X} (y ∷ ys) x (inl e) = (0, ap (λ (z : X). Some z) (sym e))
place-of (y ∷ ys) x (inr m) = let r = place-of ys x m in (suc r.0, r.1)

some-is : {X : Type 0} (x y : X) → Some x ≡ Some y → x ≡ y
some-is x y e = cc

unmap : {X Y : Type 0} (f : X → Y) (xs : List X) (i : ℕ) (y : Y) → slice_get (map f xs) i ≡ Some y → (x : X) × (slice_get xs i ≡ Some x) × (f x ≡ y)
unmap f [] i y e = absurd (grind (arith, common_steps))
unmap f (x ∷ xs) zero y e = (x, refl, some-is (f x) y e)
unmap f (x ∷ xs) (suc i) y e = unmap f xs i y e

remap : {X Y : Type 0} (f : X → Y) (xs : List X) (i : ℕ) (x : X) → slice_get xs i ≡ Some x → slice_get (map f xs) i ≡ Some (f x)
remap f [] i x e = absurd (grind (arith, common_steps))
remap {Y = Y} f (y ∷ ys) zero x e = ap (λ z. Some (f z)) (some-is y x e)
remap f (y ∷ ys) (suc i) x e = remap f ys i x e

-- the epoch in which messages were told, and the one in which they were given
record Found (near far : End) (place : ℕ) (messages : List Message) : Type 0 where
  to : Epoch
  at : slice_get near.epochs place ≡ Some to
  from : Epoch
  other_place : ℕ
  other_at : slice_get far.epochs other_place ≡ Some from
  one : AreOne to from
  prefix : messages ≡ take (length messages) from.sent

found : (p : Ends) → CarriesOver (turned p) → ((e : Epoch) → Contains p.near.epochs e → 0 < length e.received → HasOther p.far.epochs e) →
    (place : ℕ) (messages : List Message) → slice_get (received_in p.near) place ≡ Some messages → 0 < length messages →
    Found p.near p.far place messages
found p carries other place messages e l =
    let u = unmap (λ (x : Epoch). x.received) p.near.epochs place messages e in
    let to : Epoch = u.0 in
    let there : Contains p.near.epochs to = contains-from p.near.epochs to (in-place p.near.epochs place to u.1) in
    let long : length to.received ≡ length messages = ap (λ (ms : List Message). length ms) u.2 in
    let o : HasOther p.far.epochs to = other to there (omega (arith, long, l)) in
    let at = place-of p.far.epochs o.other (in-from p.far.epochs o.other o.there) in
    let c : Carries o.other to = carries o.other to o.there there (record { there = sym o.one.back; back = sym o.one.there }) in
    record {
      to = to;
      at = u.1;
      from = o.other;
      other_place = at.0;
      other_at = at.1;
      one = o.one;
      prefix = subst (λ (ms : List Message). ms ≡ take (length ms) o.other.sent) u.2 c.prefix;
    }

some-long : (m : Message) (ms : List Message) → 0 < length (m ∷ ms)
some-long m ms = grind (arith, common_steps)

none-below : 0 < 0 → ⊥
none-below l = omega (arith, l)

module _ (p : Ends) (carries : CarriesOver (turned p))
    (other : (e : Epoch) → Contains p.near.epochs e → 0 < length e.received → HasOther p.far.epochs e) where
  -- the place of the epoch in which messages were given, if some were told
  matched-of : (place : ℕ) (o : Option (List Message)) → slice_get (received_in p.near) place ≡ o → ℕ
  matched-of place None e = 0
  matched-of place (Some []) e = 0
  matched-of place (Some (m ∷ ms)) e = (found p carries other place (m ∷ ms) e (some-long m ms)).other_place

  matches : (place : ℕ) (o : Option (List Message)) (at : slice_get (received_in p.near) place ≡ o) (messages : List Message) →
      o ≡ Some messages → 0 < length messages → (f : Found p.near p.far place messages) × (f.other_place ≡ matched-of place o at)
  unfolding matched-of
  matches place None at messages e l = absurd (cc)
  matches place (Some []) at messages e l =
      absurd (none-below (subst (λ (ms : List Message). 0 < length ms) (sym (some-is [] messages e)) l))
  matches place (Some (m ∷ ms)) at messages e l =
      let f : Found p.near p.far place (m ∷ ms) = found p carries other place (m ∷ ms) at (some-long m ms) in
      subst (λ (xs : List Message). (g : Found p.near p.far place xs) × (g.other_place ≡ f.other_place))
      (some-is (m ∷ ms) messages e) (f, refl)

  abbrev matched-at : ℕ → ℕ
  matched-at place = matched-of place (slice_get (received_in p.near) place) refl

  delivers : AreInOrder p → Delivers (received_in p.near) (sent_in p.far)
  delivers order = record {
    matched = matched-at;
    each = λ place messages e l.
        let r = matches place (slice_get (received_in p.near) place) refl messages e l in
        let f : Found p.near p.far place messages = r.0 in
        record {
          whole = f.from.sent;
          is = subst (λ (n : ℕ). slice_get (sent_in p.far) n ≡ Some f.from.sent) r.1
              (remap (λ (x : Epoch). x.sent) p.far.epochs f.other_place f.from f.other_at);
          prefix = f.prefix;
        };
    order = λ place sooner_place messages sooner e g l k less.
        let r = matches place (slice_get (received_in p.near) place) refl messages e l in
        let t = matches sooner_place (slice_get (received_in p.near) sooner_place) refl sooner g k in
        let f : Found p.near p.far place messages = r.0 in
        let s : Found p.near p.far sooner_place sooner = t.0 in
        let before : f.other_place < s.other_place =
        order place sooner_place f.other_place s.other_place f.to s.to f.from s.from f.at s.at f.other_at s.other_at f.one s.one less in
        subst (λ (n : ℕ). n < matched-at sooner_place) r.1 (subst (λ (n : ℕ). f.other_place < n) t.1 before);
  }

pub were-given : told_messages_were_given
were-given near far good fine list m =
    let w : World = last_world (new_world near far) list in
    let h : IsShown near far w = all-shown near far good fine list m in
    let c = subst (BothWays CarriesOver) h.last (prefix-always h.list h.moves) in
    let o = subst (BothWays AreInOrder) h.last (order-always h.list h.moves) in
    let r = subst (BothWays (λ p. (e : Epoch) → Contains p.near.epochs e → 0 < length e.received → HasOther p.far.epochs e)) h.last (received-always h.list h.moves) in
    record {
      there = subst (λ (given : List (List Message)). Delivers (told_by [] w.near.told) given) h.far_end.given
          (subst (λ (told : List (List Message)). Delivers told (sent_in h.ends.far)) h.near_end.told (delivers h.ends c.back r.there o.there));
      back = subst (λ (given : List (List Message)). Delivers (told_by [] w.far.told) given) h.near_end.given
          (subst (λ (told : List (List Message)). Delivers told (sent_in h.ends.near)) h.far_end.told (delivers (turned h.ends) c.there r.back o.back));
    }
