-- One link of two nodes: its endpoints, the ends of `sctp_moves` that they show, and what is in the air between them.
use Rattle.std.proofs.Common.{◌≡◌, ◌⊎◌, inl, ◌<◌, ◌≤◌, ℕ, zero, suc, arith, Bool, true, false, List, [], ◌∷◌, ◌++◌, Some, length, map, refl, ap, sym, ◌∙◌, subst, drop, take}
use Rattle.std.proofs.lemmas.List.{take-append-drop}
use Rattle.std.proofs.lemmas.Grind.{common_steps}
use Rattle.sctp_rules.specs.declared.phase.Phase.{Phase}
use Rattle.sctp_rules.specs.declared.phase.Phase.TheVariants as phases
use Rattle.sctp_rules.specs.Opening.{is_there}
use Rattle.sctp_rules.specs.State.{State}
use Rattle.sctp_rules.specs.Wishing.{Wish, Idle, Seeking, Served, Fits}
use Rattle.sctp_rules.proofs.Passing.{Right}
use Rattle.sctp_moves.specs.Ends.{Message, Epoch, End}
use Rattle.sctp_moves.specs.Theorems.{AreOne, HasOther}
use Rattle.sctp_moves.specs.Openings.{Standing, Neither, Joined, NearAhead, FarAhead, IsCalm}
use Rattle.sctp_moves.proofs.Members.{In, in-from, in-map}
use Rattle.sctp_moves.proofs.Sides.{Tie, back, tie, side_of, one-far}
use Rattle.sctp_moves.proofs.Carried.{IsFlow}
use Rattle.sctp_moves.proofs.Keeping.{IsSound, turned-sound}
use Rattle.sctp_moves.proofs.Concluded.{has-other}
use Rattle.sctp_moves.proofs.Standing.{ties, IsAhead, AreJoined, Stands, other_way, turned-stands, IsReady}
use Rattle.sctp_moves.proofs.Openings.{Latest, latest-of}
use Rattle.sctp_ends.specs.Shown.{Stage, Off, Waiting, Echoing, There, stage_of, IsIn, IsPresent}
use Rattle.sctp_ends.specs.Theorems.{ShowsSite, received_in, sent_in}
use Rattle.sctp_ends.specs.Worlds as ends
use Rattle.exchange_rules.specs.First.{Abstract}
use Rattle.node_rules.specs.Worlds.{Port, m2pa}
use Rattle.node_rules.proofs.Staying.{MayOpen}
use Rattle.node_rules.proofs.Flights.{Air, turned_air}

-- ---- messages that are frames

pub record IsFramed (m : Message) : Type 0 where
  pub protocol : m.protocol ≡ m2pa
  pub stream : (m.stream ≡ 0) ⊎ (m.stream ≡ 1)

abbrev pub AreFramed : List Message → Type 0
AreFramed [] = Unit {0}
AreFramed (m ∷ ms) = IsFramed m × AreFramed ms

pub framed-front : (ms ns : List Message) → AreFramed (ms ++ ns) → AreFramed ms
framed-front [] ns h = tt
framed-front (m ∷ ms) ns h = (h.0, framed-front ms ns h.1)

pub framed-behind : (ms ns : List Message) → AreFramed ms → AreFramed ns → AreFramed (ms ++ ns)
framed-behind [] ns h g = g
framed-behind (m ∷ ms) ns h g = (h.0, framed-behind ms ns h.1 g)

pub framed-drop : (n : ℕ) (ms : List Message) → AreFramed ms → AreFramed (drop n ms)
framed-drop zero ms h = h
framed-drop (suc n) [] h = tt
framed-drop (suc n) (m ∷ ms) h = framed-drop n ms h.1

-- ---- what is in the air

abbrev pub firsts : List (List Message) → List Message
firsts [] = []
firsts (latest ∷ past) = latest

abbrev pub latest_sent : End → List Message
latest_sent x = firsts (sent_in x)

abbrev pub latest_received : End → List Message
latest_received x = firsts (received_in x)

-- of the latest association of both what the far end sent and the near one hasn't received; of one that the near end
-- may follow into, all that the far end sent
abbrev pub air_of : Standing → End → End → Air
air_of Neither x y = record { to_near = []; to_far = []; near_follows = false; far_follows = false }
air_of Joined x y = record {
  to_near = drop (length (latest_received x)) (latest_sent y);
  to_far = drop (length (latest_received y)) (latest_sent x);
  near_follows = false;
  far_follows = false;
}
air_of NearAhead x y = record { to_near = []; to_far = latest_sent x; near_follows = false; far_follows = true }
air_of FarAhead x y = record { to_near = latest_sent y; to_far = []; near_follows = true; far_follows = false }

pub turned-air : (st : Standing) (x y : End) → turned_air (air_of st x y) ≡ air_of (other_way st) y x
turned-air Neither x y = refl
turned-air Joined x y = refl
turned-air NearAhead x y = refl
turned-air FarAhead x y = refl

pub framed-air : (st : Standing) (x y : End) → AreFramed (latest_sent y) → AreFramed (air_of st x y).to_near
framed-air Neither x y h = tt
framed-air Joined x y h = framed-drop (length (latest_received x)) (latest_sent y) h
framed-air NearAhead x y h = tt
framed-air FarAhead x y h = h

-- ---- a link

-- `s` and `t` are the ports of the link at both ends, where it has the numbers `k` and `j`, of these exchanges
pub record Linked (k j : ℕ) (m o : ends.Make) (s t : Port) (near far : Abstract) (a : Air) : Type 0 where
  pub x : End
  pub y : End
  pub sound : IsSound x y
  pub near_shown : ShowsSite m.secrets o.secrets x s.site
  pub far_shown : ShowsSite o.secrets m.secrets y t.site
  pub standing : Standing
  pub stands : Stands standing x y
  pub near_right : Right s.site.state
  pub far_right : Right t.site.state
  pub near_fits : Fits (Some s.wish) s.site.state
  pub far_fits : Fits (Some t.wish) t.site.state
  pub air_is : a ≡ air_of standing x y
  pub near_framed : AreFramed (latest_sent x)
  pub far_framed : AreFramed (latest_sent y)
  -- while the other end may open first, the link may open here; and so it may while one is wanted
  pub near_ready : IsReady x y → MayOpen k near.node.parts
  pub far_ready : IsReady y x → MayOpen j far.node.parts
  pub near_seeks : s.wish ≡ Seeking → MayOpen k near.node.parts
  pub far_seeks : t.wish ≡ Seeking → MayOpen j far.node.parts

pub turned-linked : (k j : ℕ) (m o : ends.Make) (s t : Port) (near far : Abstract) (a : Air) → Linked k j m o s t near far a
    → Linked j k o m t s far near (turned_air a)
turned-linked k j m o s t near far a h = record {
  x = h.y;
  y = h.x;
  sound = turned-sound h.x h.y h.sound;
  near_shown = h.far_shown;
  far_shown = h.near_shown;
  standing = other_way h.standing;
  stands = turned-stands h.standing h.x h.y h.stands;
  near_right = h.far_right;
  far_right = h.near_right;
  near_fits = h.far_fits;
  far_fits = h.near_fits;
  air_is = ap turned_air h.air_is ∙ turned-air h.standing h.x h.y;
  near_framed = h.far_framed;
  far_framed = h.near_framed;
  near_ready = h.far_ready;
  far_ready = h.near_ready;
  near_seeks = h.far_seeks;
  far_seeks = h.near_seeks;
}

-- the exchange changes, and the link may open there as before
pub linked-as : (k j : ℕ) (m o : ends.Make) (s t : Port) (near near' far : Abstract) (a : Air)
    → (MayOpen k near.node.parts → MayOpen k near'.node.parts) → Linked k j m o s t near far a → Linked k j m o s t near' far a
linked-as k j m o s t near near' far a f h = record {
  x = h.x;
  y = h.y;
  sound = h.sound;
  near_shown = h.near_shown;
  far_shown = h.far_shown;
  standing = h.standing;
  stands = h.stands;
  near_right = h.near_right;
  far_right = h.far_right;
  near_fits = h.near_fits;
  far_fits = h.far_fits;
  air_is = h.air_is;
  near_framed = h.near_framed;
  far_framed = h.far_framed;
  near_ready = λ r. f (h.near_ready r);
  far_ready = h.far_ready;
  near_seeks = λ e. f (h.near_seeks e);
  far_seeks = h.far_seeks;
}

-- the ends stand as before
abbrev pub StaysSo : Standing → (x y l : End) → Type 0
StaysSo st x y l = Stands st l y × (ties l ≡ ties x)

-- ---- what an end is in

there-so : (p : Phase) → (is_there p ≡ false → ⊥) → stage_of p ≡ There
there-so phases.Closed f = absurd (f refl)
there-so phases.CookieWait f = absurd (f refl)
there-so phases.CookieEchoed f = absurd (f refl)
there-so phases.Established f = refl
there-so phases.ShutdownPending f = refl
there-so phases.ShutdownSent f = refl
there-so phases.ShutdownReceived f = refl
there-so phases.ShutdownAckSent f = refl

-- an end is up where its user was told so
pub is-present : (m o : ends.Make) (x : End) (p : Port) → ShowsSite m.secrets o.secrets x p.site → Right p.site.state → Fits (Some p.wish) p.site.state
    → p.wish ≡ Served → IsPresent x p.site.state.association
is-present m o x p shown right fits e =
    let s : State = p.site.state in
    let up : s.association.is_up ≡ true = subst (λ (w : Wish). Fits (Some w) s) e fits in
    let there : stage_of s.association.phase ≡ There =
    there-so s.association.phase (λ q. let down : s.association.is_up ≡ false = right.right.down q in let no : true ≡ false = sym up ∙ down in absurd cc) in
    subst (λ (stage : Stage). IsIn stage x s.is_wanted s.association) there shown.state.stage

calm-in : (stage : Stage) (x : End) (wanted : Bool) (s : State) → wanted ≡ false → IsIn stage x wanted s.association → IsCalm x.phase
calm-in Off x wanted s e h = subst IsCalm (sym h.phase) tt
calm-in Waiting x wanted s e h = let no : false ≡ true = sym e ∙ h.wanted_is in absurd cc
calm-in Echoing x wanted s e h = let no : false ≡ true = sym e ∙ h.wanted_is in absurd cc
calm-in There x wanted s e h = subst IsCalm (sym h.up) tt

-- an end tries nothing while nothing is wanted, or one is up
pub is-calm : (m o : ends.Make) (x : End) (p : Port) → ShowsSite m.secrets o.secrets x p.site → Right p.site.state → Fits (Some p.wish) p.site.state
    → (p.wish ≡ Seeking → ⊥) → IsCalm x.phase
is-calm m o x p shown right fits f = by p.wish refl where
  by : (w : Wish) → p.wish ≡ w → IsCalm x.phase
  by Idle e =
      calm-in (stage_of p.site.state.association.phase) x p.site.state.is_wanted p.site.state
      (subst (λ (w : Wish). Fits (Some w) p.site.state) e fits).1 shown.state.stage
  by Seeking e = absurd (f e)
  by Served e = subst IsCalm (sym (is-present m o x p shown right fits e).up) tt

-- ---- the latest associations

latest-lists : (x : End) (t : Tie) (l : Latest x t) → (latest_sent x ≡ l.epoch.sent) × (latest_received x ≡ l.epoch.received)
latest-lists x t l = (
  ap (λ (es : List Epoch). firsts (map (λ (e : Epoch). e.sent) es)) l.now,
  ap (λ (es : List Epoch). firsts (map (λ (e : Epoch). e.received) es)) l.now,
)

in-latest : (x : End) (t : Tie) (l : Latest x t) → In l.epoch x.epochs
in-latest x t l = subst (In l.epoch) (sym l.now) (inl refl)

-- of an association that both have, the near end received the beginning of what the far end sent
pub record IsJoint (x y : End) : Type 0 where
  pub received : latest_received x ≡ take (length (latest_received x)) (latest_sent y)
  pub within : length (latest_received x) ≤ length (latest_sent y)

pub is-joint : (x y : End) → IsSound x y → AreJoined x y → IsJoint x y
is-joint x y h j =
    let l : Latest x j.latest = latest-of x j.latest j.past j.now in
    let n : Latest y (back j.latest) = latest-of y (back j.latest) j.far_past j.far_now in
    let one : AreOne n.epoch l.epoch = record {
      there = ap (λ (t : Tie). t.own.tag) n.is ∙ ap (λ (t : Tie). t.far.tag) (sym l.is);
      back = ap (λ (t : Tie). t.far.tag) n.is ∙ ap (λ (t : Tie). t.own.tag) (sym l.is);
    } in
    let f : IsFlow n.epoch l.epoch = h.carrying.1.flows n.epoch l.epoch (in-latest y (back j.latest) n) (in-latest x j.latest l) one in
    let a = latest-lists x j.latest l in
    let b = latest-lists y (back j.latest) n in
    record {
      received = subst (λ (r : List Message). r ≡ take (length r) (latest_sent y)) (sym a.1)
          (subst (λ (s : List Message). l.epoch.received ≡ take (length l.epoch.received) s) (sym b.0) f.received);
      within = subst (λ (r : List Message). length r ≤ length (latest_sent y)) (sym a.1)
          (subst (λ (s : List Message). length l.epoch.received ≤ length s) (sym b.0) f.within);
    }

none-long : (ms : List Message) → (0 < length ms → ⊥) → ms ≡ []
none-long [] f = refl
none-long (m ∷ ms) f = absurd (f (grind (arith, common_steps)))

-- of one that the other end doesn't have, it received nothing
pub ahead-none : (x y : End) → IsSound x y → IsAhead x y → latest_received x ≡ []
ahead-none x y h a =
    let l : Latest x a.latest = latest-of x a.latest a.past a.now in
    (latest-lists x a.latest l).1 ∙ none-long l.epoch.received (λ some.
    let i : In l.epoch x.epochs = in-latest x a.latest l in
    let o : HasOther y.epochs l.epoch = has-other x y h l.epoch i ((h.carrying.0.each l.epoch i).fed some) in
    let is : tie o.other ≡ back (tie l.epoch) = other-tie x y h l.epoch o i in
    a.alone (subst (λ (t : Tie). In t (ties y)) (is ∙ ap back l.is) (in-map tie y.epochs o.other (in-from y.epochs o.other o.there)))) where
      other-tie : (x y : End) → IsSound x y → (e : Epoch) → (o : HasOther y.epochs e) → In e x.epochs → tie o.other ≡ back (tie e)
      other-tie x y h e o i = sym (one-far (side_of x) (side_of y) h.sides.near h.sides.far (tie e) (tie o.other) (in-map tie x.epochs e i)
          (in-map tie y.epochs o.other (in-from y.epochs o.other o.there)) o.one.back)

-- ---- lists

tail-is : {A : Type 0} (a b : A) (xs ys : List A) → a ∷ xs ≡ b ∷ ys → xs ≡ ys
tail-is a b xs ys e = cc

-- what is left after a prefix
pub split : (r h s : List Message) → r ++ h ≡ take (length (r ++ h)) s → drop (length r) s ≡ h ++ drop (length (r ++ h)) s
split [] h s e = sym (take-append-drop (length h) s) ∙ ap (λ (xs : List Message). xs ++ drop (length h) s) (sym e)
split (a ∷ r) h [] e = absurd (none-taken a (r ++ h) e) where
  none-taken : (a : Message) (ms : List Message) → a ∷ ms ≡ take (length (a ∷ ms)) [] → ⊥
  none-taken a ms e = let no : a ∷ ms ≡ [] = e in absurd cc
split (a ∷ r) h (b ∷ s) e = split r h s (tail-is a b (r ++ h) (take (length (r ++ h)) s) e)

pub drop-within : (n : ℕ) (ms ns : List Message) → n ≤ length ms → drop n (ms ++ ns) ≡ drop n ms ++ ns
drop-within zero ms ns l = refl
drop-within (suc n) [] ns l = absurd (omega (arith, l))
drop-within (suc n) (m ∷ ms) ns l = drop-within n ms ns (omega (arith, l))

pub drop-none : (n : ℕ) → drop {A = Message} n [] ≡ []
drop-none zero = refl
drop-none (suc n) = refl
