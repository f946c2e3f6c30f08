-- Something happens to the endpoint of a link: what it tells is what the link does, act by act.
use Rattle.std.proofs.Common.{◌≡◌, ◌≢◌, ◌⊎◌, inl, inr, ℕ, suc, arith, Bool, true, false, ◌&&◌, List, [], ◌∷◌, ◌++◌, Option, Some, None, length, map, refl, ap, sym, ◌∙◌, subst, drop, take}
use Rattle.std.proofs.lemmas.List.{length-map}
use Rattle.std.specs.Prelude.{if◌then◌else◌}
use Rattle.exchange_rules.specs.Exchange as rules
use Rattle.exchange_rules.specs.Queues.{whole}
use Rattle.exchange_rules.specs.State as exchange
use Rattle.exchange_rules.specs.State.{CameUp, Parts, is_link, link_at, down}
use Rattle.exchange_rules.specs.Opening.{wanted}
use Rattle.exchange_rules.specs.Exchange.{wants_of}
use Rattle.exchange_rules.specs.ChangingOver.{changeover_of}
use Rattle.exchange_rules.specs.declared.wants.Wants.TheVariants.{Nothing, Open, Close}
use Rattle.changeover.specs.Changeover.{may_restart}
use Rattle.sctp_rules.specs.State.{State, Told, Up, Done}
use Rattle.sctp_rules.specs.Endpoint.{Happening, Opens, Came, Ticked, Sends, Aborts, ShutsDown, Flushes, after}
use Rattle.sctp_rules.specs.Wishing.{Wish, Idle, Seeking, Served, wish_by_call, wish_after, Fits}
use Rattle.sctp_rules.proofs.Passing.{Right}
use Rattle.sctp_rules.proofs.Wishing.{happening-fits, still-right}
use Rattle.sctp_moves.specs.Ends.{Message, Epoch, End}
use Rattle.sctp_moves.specs.Moves.{last_end}
use Rattle.sctp_moves.specs.Openings.{Standing, Neither, Joined, NearAhead, FarAhead, IsCalm, IsQuiet}
use Rattle.sctp_moves.proofs.Sides.{Tie, tie}
use Rattle.sctp_moves.proofs.Keeping.{IsSound}
use Rattle.sctp_moves.proofs.Standing.{ties, IsAhead, AreJoined, Stands, IsReady, Opening, follows, leads, OneOpened, none-opens, one-opens, up-not-ready, ready-quiet, ready-all-before}
use Rattle.sctp_ends.specs.Shown.{AreGood, IsPresent}
use Rattle.sctp_ends.specs.Told.{told_by, opened_by, given_by}
use Rattle.sctp_ends.specs.Theorems.{begins, ShowsSite, received_in, sent_in}
use Rattle.sctp_ends.specs.Worlds as ends
use Rattle.sctp_ends.proofs.Alike.{Outcome, sound-on}
use Rattle.sctp_ends.proofs.Pass.{happens}
use Rattle.sctp_ends.proofs.World.{heeds, site-after}
use Rattle.exchange_rules.specs.First.{Abstract}
use Rattle.node_rules.specs.Worlds.{Port, Node, wished, wish_left, MayAssociate}
use Rattle.node_rules.proofs.Staying.{MayOpen}
use Rattle.node_rules.proofs.Flights.{Air}
use Rattle.node_rules.proofs.Telling.{NoUp, heard_in, after_events, events_told, told-heads, opened-same, told-long, Shape, nothing, serving, rising, shape-of, opens-plain, aborts-plain, flushes-plain, aborts-idle}
use Rattle.node_rules.proofs.Linked.{AreFramed, framed-front, framed-air, firsts, latest_sent, latest_received, air_of, Linked, StaysSo, is-present, is-calm, IsJoint, is-joint, ahead-none, split, drop-none}
use Rattle.node_rules.proofs.Acts.{Act, Leads, Follows, event_of, air_after, air_after_all, MayActAll, acts_told, told-air, told-may, told-events}

-- ---- a link that wants to open may open

open-down : (restarts association active : Bool) → (if association then Close else (if active && restarts then Open else Nothing)) ≡ Open → restarts ≡ true
open-down restarts true active e = absurd cc
open-down true false active e = refl
open-down false false true e = absurd cc
open-down false false false e = absurd cc

open-by : (is-down restarts association active : Bool)
    → (if is-down then (if association then Close else (if active && restarts then Open else Nothing)) else Nothing) ≡ Open → (is-down ≡ true) × (restarts ≡ true)
open-by true restarts association active e = (refl, open-down restarts association active e)
open-by false restarts association active e = absurd cc

open-there : (there is-down restarts association active : Bool)
    → (if there then (if is-down then (if association then Close else (if active && restarts then Open else Nothing)) else Nothing) else Nothing) ≡ Open
    → (is-down ≡ true) × (restarts ≡ true)
open-there true is-down restarts association active e = open-by is-down restarts association active e
open-there false is-down restarts association active e = absurd cc

pub wants-may : (k : ℕ) (p : Parts) → wanted p k ≡ Open → MayOpen k p
wants-may k p e =
    let r = open-there (is_link p k) (down p k) (may_restart (changeover_of p k)) (link_at p k).association (link_at p k).active e in
    record { down = r.0; restarts = r.1 }

-- ---- what happens, but for messages of the user

abbrev pub IsDriven : Happening → Type 0
IsDriven (Sends message) = ⊥
IsDriven what = Unit {0}

given-none : (what : Happening) (s : State) (lists : List (List Message)) → IsDriven what → given_by what s lists ≡ lists
given-none (Opens now active) s lists d = refl
given-none (Came now source packet) s lists d = refl
given-none (Ticked now) s lists d = refl
given-none (Sends message) s lists d = absurd d
given-none Aborts s lists d = refl
given-none (ShutsDown now) s lists d = refl
given-none (Flushes now) s lists d = refl

same-call : (what : Happening) (w : Wish) → begins what ≡ false → wish_by_call what w ≡ w
same-call (Opens now active) w b = absurd cc
same-call (Came now source packet) w b = refl
same-call (Ticked now) w b = refl
same-call (Sends message) w b = refl
same-call Aborts w b = refl
same-call (ShutsDown now) w b = refl
same-call (Flushes now) w b = refl

served-call : (what : Happening) (w : Wish) → wish_by_call what w ≡ Served → w ≡ Served
served-call (Opens now active) Idle e = absurd cc
served-call (Opens now active) Seeking e = absurd cc
served-call (Opens now active) Served e = refl
served-call (Came now source packet) w e = e
served-call (Ticked now) w e = e
served-call (Sends message) w e = e
served-call Aborts w e = e
served-call (ShutsDown now) w e = e
served-call (Flushes now) w e = e

ends-or : (what : Happening) → (what ≡ Aborts) ⊎ ((o : Option Wish) (w : Wish) → wish_left what o w ≡ wished o w)
ends-or (Opens now active) = inr (λ o w. refl)
ends-or (Came now source packet) = inr (λ o w. refl)
ends-or (Ticked now) = inr (λ o w. refl)
ends-or (Sends message) = inr (λ o w. refl)
ends-or Aborts = inl refl
ends-or (ShutsDown now) = inr (λ o w. refl)
ends-or (Flushes now) = inr (λ o w. refl)

-- what is asked of a happening (`MayAssociate`), in one
pub record MayCome (k : ℕ) (near : Abstract) (other : ends.Site) (what : Happening) (wish : Wish) : Type 0 where
  pub driven : IsDriven what
  pub heeded : ends.MayHappen other what
  -- where it begins a try, the link wants one, and none is up
  pub asked : begins what ≡ true → (wants_of near k ≡ Open) × (wish ≢ Served)
  -- where Up may be told, too
  pub looked : (more : List Told) → (m : ends.Make) (s : State) → (after m.settings m.secrets what s).told ≡ Up ∷ more → wish_by_call what wish ≡ Seeking →
      (begins what ≡ false) × (wants_of near k ≡ Open)

no-up : (ts more : List Told) → ts ≡ Up ∷ more → NoUp ts → ⊥
no-up ts more e h = subst NoUp e h

pub may-come : (other : ends.Site) (n : Node) (k : ℕ) (what : Happening) → MayAssociate other k what n → MayCome k n.books.exchange other what (n.ports k).wish
may-come other n k (Opens now active) h = record {
  driven = tt;
  heeded = tt;
  asked = λ b. (h.wants, h.down);
  looked = λ more m s e w. absurd (no-up _ more e (opens-plain m.settings m.secrets now active s));
}
may-come other n k (Came now source packet) h = record { driven = tt; heeded = h.0; asked = λ b. absurd cc; looked = λ more m s e w. (refl, h.1 w) }
may-come other n k (Ticked now) h = record { driven = tt; heeded = tt; asked = λ b. absurd cc; looked = λ more m s e w. (refl, h w) }
may-come other n k (Sends message) h = absurd h
may-come other n k Aborts h = record {
  driven = tt;
  heeded = tt;
  asked = λ b. absurd cc;
  looked = λ more m s e w. absurd (no-up _ more e (aborts-plain m.settings m.secrets s));
}
may-come other n k (ShutsDown now) h = record { driven = tt; heeded = tt; asked = λ b. absurd cc; looked = λ more m s e w. (refl, h w) }
may-come other n k (Flushes now) h = record {
  driven = tt;
  heeded = tt;
  asked = λ b. absurd cc;
  looked = λ more m s e w. absurd (no-up _ more e (flushes-plain m.settings m.secrets now s));
}

-- ---- where it goes

-- by these acts, whose events are what was told
pub record Went (k j : ℕ) (m o : ends.Make) (s t : Port) (near far : Abstract) (ts : List Told) (a : Air) : Type 0 where
  pub acts : List Act
  pub may : MayActAll k j acts near far a
  pub told : map (event_of k) acts ≡ events_told k ts
  pub linked : Linked k j m o s t (after_events (events_told k ts) near) far (air_after_all acts a)

pub no-epochs : (x : End) → ties x ≡ [] → length x.epochs ≡ 0
no-epochs x e = sym (length-map x.epochs tie) ∙ ap (λ (ts : List Tie). length ts) e

pub some-epochs : (x : End) (t : Tie) (ts : List Tie) → ties x ≡ t ∷ ts → length (received_in x) ≡ 0 → ⊥
some-epochs x t ts e z =
    let a : length (received_in x) ≡ length x.epochs = length-map x.epochs (λ (e : Epoch). e.received) in
    let b : length (ties x) ≡ length x.epochs = length-map x.epochs tie in
    let c : length (ties x) ≡ suc (length ts) = ap (λ (us : List Tie). length us) e in
    omega (arith, a, b, c, z)

grown : (rs : List (List Message)) (ts : List Told) → NoUp ts → (length rs ≡ 0 → ⊥) → firsts (told_by rs ts) ≡ firsts rs ++ heard_in ts
grown [] ts h f = absurd (f refl)
grown (r ∷ rs) ts h f = ap firsts (told-heads ts h r rs)

nothing-behind : (ms ns : List Message) → ms ++ ns ≡ [] → ns ≡ []
nothing-behind [] ns e = e
nothing-behind (m ∷ ms) ns e = absurd (let no : m ∷ (ms ++ ns) ≡ [] = e in cc)

module _ (k j : ℕ) (m o : ends.Make) (good : AreGood m.secrets) (s t : Port) (near far : Abstract) (a : Air) (h : Linked k j m o s t near far a)
    (what : Happening) (may : MayCome k near t.site what s.wish) where
  abbrev d : Done
  d = after m.settings m.secrets what s.site.state

  r : Outcome m.secrets o.secrets s.site.mark h.y h.x (begins what) (given_by what s.site.state (sent_in h.x)) d
  r =
      happens m.secrets o.secrets s.site.mark h.y good m.settings what s.site.state
      (heeds m.secrets o.secrets h.y t.site what h.far_shown may.heeded) h.x h.sound h.near_shown.state

  abbrev l : End
  l = last_end h.x r.list

  sound : IsSound l h.y
  sound = sound-on h.y h.x r.list r.moves h.sound

  shown : ShowsSite m.secrets o.secrets l (ends.happened m what s.site)
  shown = site-after m.secrets o.secrets m.settings h.y h.x what s.site h.near_shown r

  right : Right d.left
  right = still-right m.settings m.secrets what s.site.state h.near_right

  fits : Fits (wish_after d.told (wish_by_call what s.wish)) d.left
  fits = happening-fits m.settings m.secrets what s.site.state s.wish h.near_right h.near_fits

  sent-is : sent_in l ≡ opened_by (sent_in h.x) d.told
  sent-is = r.given ∙ ap (λ (lists : List (List Message)). opened_by lists d.told) (given-none what s.site.state (sent_in h.x) may.driven)

  long : (x : End) → length (received_in x) ≡ length x.epochs
  long x = length-map x.epochs (λ (e : Epoch). e.received)

  same-long : NoUp d.told → length l.epochs ≡ length h.x.epochs
  same-long q = sym (long l) ∙ ap (λ (ls : List (List Message)). length ls) r.told ∙ told-long d.told q (received_in h.x) ∙ long h.x

  sent-same : NoUp d.told → latest_sent l ≡ latest_sent h.x
  sent-same q = ap firsts (sent-is ∙ opened-same d.told q (sent_in h.x))

  stays : NoUp d.told → StaysSo h.standing h.x h.y l
  stays q = none-opens h.standing h.x h.y r.list h.sound r.moves (same-long q) h.stands

  abbrev from : Wish
  from = wish_by_call what s.wish

  -- the port afterwards, in this wish
  abbrev port : Wish → Port
  port w = record { site = ends.happened m what s.site; wish = w }

  linked-so : (st : Standing) (w : Wish) (after-it : Abstract) → wish_after d.told from ≡ Some w → Stands st l h.y → AreFramed (latest_sent l)
      → (IsReady l h.y → MayOpen k after-it.node.parts) → (w ≡ Seeking → MayOpen k after-it.node.parts)
      → Linked k j m o (port w) t after-it far (air_of st l h.y)
  linked-so st w after-it e j framed ready seeks = record {
    x = l;
    y = h.y;
    sound = sound;
    near_shown = shown;
    far_shown = h.far_shown;
    standing = st;
    stands = j;
    near_right = right;
    far_right = h.far_right;
    near_fits = subst (λ (v : Option Wish). Fits v d.left) e fits;
    far_fits = h.far_fits;
    air_is = refl;
    near_framed = framed;
    far_framed = h.far_framed;
    near_ready = ready;
    far_ready = λ q. h.far_ready (ready-all-before h.x h.y r.list h.sound r.moves q);
    near_seeks = seeks;
    far_seeks = h.far_seeks;
  }

  -- ---- none is told Up

  begins-or : (b : Bool) → begins what ≡ b → (begins what ≡ true) ⊎ (begins what ≡ false)
  begins-or true e = inl e
  begins-or false e = inr e

  seeking-or : (w : Wish) → s.wish ≡ w → (s.wish ≡ Seeking) ⊎ (s.wish ≡ Seeking → ⊥)
  seeking-or Idle e = inr (λ q. let no : Idle ≡ Seeking = sym e ∙ q in absurd cc)
  seeking-or Seeking e = inl e
  seeking-or Served e = inr (λ q. let no : Served ≡ Seeking = sym e ∙ q in absurd cc)

  -- nothing changed at the exchange
  ready-still : IsReady l h.y → MayOpen k near.node.parts
  ready-still q = by (begins-or (begins what) refl) (seeking-or s.wish refl) where
    by : (begins what ≡ true) ⊎ (begins what ≡ false) → (s.wish ≡ Seeking) ⊎ (s.wish ≡ Seeking → ⊥) → MayOpen k near.node.parts
    by (inl b) w = wants-may k near.node.parts (may.asked b).0
    by (inr b) (inl w) = h.near_seeks w
    by (inr b) (inr w) =
        h.near_ready (ready-quiet h.x h.y r.list r.moves (r.quiet b) (is-calm m o h.x s h.near_shown h.near_right h.near_fits w) q)

  seeks-still : from ≡ Seeking → MayOpen k near.node.parts
  seeks-still e = by (begins-or (begins what) refl) where
    by : (begins what ≡ true) ⊎ (begins what ≡ false) → MayOpen k near.node.parts
    by (inl b) = wants-may k near.node.parts (may.asked b).0
    by (inr b) = h.near_seeks (sym (same-call what s.wish b) ∙ e)

  -- of what was on its way to the near end, what was told is gone
  air-told : NoUp d.told → (length h.x.epochs ≡ 0 → heard_in d.told ≡ []) → (st : Standing) → (FarAhead ≡ st → heard_in d.told ≡ []) → Stands st h.x h.y → Stands st l h.y
      → (air_of st h.x h.y).to_near ≡ heard_in d.told ++ (air_of st l h.y).to_near
  air-told q none Neither ahead z j = sym (ap (λ (ms : List Message). ms ++ []) (none (no-epochs h.x z.none)))
  air-told q none Joined ahead z j =
      let i : IsJoint l h.y = is-joint l h.y sound j in
      let g : latest_received l ≡ latest_received h.x ++ heard_in d.told = ap firsts r.told ∙ grown (received_in h.x) d.told q (some-epochs h.x z.latest z.past z.now) in
      split (latest_received h.x) (heard_in d.told) (latest_sent h.y)
      (subst (λ (ms : List Message). ms ≡ take (length ms) (latest_sent h.y)) g i.received)
      ∙ ap (λ (ms : List Message). heard_in d.told ++ drop (length ms) (latest_sent h.y)) (sym g)
  air-told q none NearAhead ahead z j =
      let g : latest_received l ≡ latest_received h.x ++ heard_in d.told = ap firsts r.told ∙ grown (received_in h.x) d.told q (some-epochs h.x z.latest z.past z.now) in
      sym (ap (λ (ms : List Message). ms ++ []) (nothing-behind (latest_received h.x) (heard_in d.told) (sym g ∙ ahead-none l h.y sound j)))
  air-told q none FarAhead ahead z j = ap (λ (ms : List Message). ms ++ latest_sent h.y) (sym (ahead refl))

  air-kept : (st : Standing) → latest_sent l ≡ latest_sent h.x → record (air_of st h.x h.y) { to_near = (air_of st l h.y).to_near } ≡ air_of st l h.y
  air-kept Neither e = refl
  air-kept Joined e =
      ap (λ (ms : List Message). record {
        to_near = drop (length (latest_received l)) (latest_sent h.y);
        to_far = drop (length (latest_received h.y)) ms;
        near_follows = false;
        far_follows = false;
      }) (sym e)
  air-kept NearAhead e = ap (λ (ms : List Message). record { to_near = []; to_far = ms; near_follows = false; far_follows = true }) (sym e)
  air-kept FarAhead e = refl

  abbrev left : Abstract
  left = after_events (events_told k d.told) near

  -- no Up, and only what was on its way
  plain-went : (w : Wish) → wish_after d.told from ≡ Some w → NoUp d.told
      → (air_of h.standing h.x h.y).to_near ≡ heard_in d.told ++ (air_of h.standing l h.y).to_near
      → (IsReady l h.y → MayOpen k left.node.parts) → (w ≡ Seeking → MayOpen k left.node.parts) → Went k j m o (port w) t near far d.told a
  plain-went w e q f ready seeks =
      let rest : List Message = (air_of h.standing l h.y).to_near in
      let framed : AreFramed (heard_in d.told) = framed-front (heard_in d.told) rest (subst AreFramed f (framed-air h.standing h.x h.y h.far_framed)) in
      let comes : a.to_near ≡ heard_in d.told ++ rest = ap (λ (b : Air). b.to_near) h.air_is ∙ f in
      let is : air_after_all (acts_told d.told rest) a ≡ air_of h.standing l h.y =
      told-air d.told q rest a comes ∙ ap (λ (b : Air). record b { to_near = rest }) h.air_is ∙ air-kept h.standing (sent-same q) in
      record {
        acts = acts_told d.told rest;
        may = told-may k j d.told q rest near far a framed comes;
        told = told-events k d.told q rest framed;
        linked = subst (λ (b : Air). Linked k j m o (port w) t left far b) (sym is)
            (linked-so h.standing w left e (stays q).0 (subst AreFramed (sym (sent-same q)) h.near_framed) ready seeks);
      }

  -- ---- it tells nothing, but for Failed

  quiet-went : (w : Wish) → wish_after d.told from ≡ Some w → NoUp d.told → heard_in d.told ≡ [] → events_told k d.told ≡ [] → (w ≡ Seeking → from ≡ Seeking)
      → Went k j m o (port w) t near far d.told a
  quiet-went w e q none same seeks =
      plain-went w e q (air-told q (λ z. none) h.standing (λ z. none) h.stands (stays q).0)
      (λ z. subst (λ (es : List exchange.Happening). MayOpen k (after_events es near).node.parts) (sym same) (ready-still z))
      (λ z. subst (λ (es : List exchange.Happening). MayOpen k (after_events es near).node.parts) (sym same) (seeks-still (seeks z)))

  -- ---- an association is up

  present : from ≡ Served → IsPresent h.x s.site.state.association
  present e = is-present m o h.x s h.near_shown h.near_right h.near_fits (served-call what s.wish e)

  not-none : from ≡ Served → length h.x.epochs ≡ 0 → ⊥
  not-none e z = let c : length h.x.epochs ≡ suc (length (present e).past) = ap (λ (es : List Epoch). length es) (present e).now in omega (arith, z, c)

  not-behind : from ≡ Served → FarAhead ≡ h.standing → ⊥
  not-behind e z = ahead-down (subst (λ (st : Standing). Stands st h.x h.y) (sym z) h.stands) where
    ahead-down : IsAhead h.y h.x → ⊥
    ahead-down i = i.down (present e).up

  served-unready : from ≡ Served → IsReady l h.y → ⊥
  served-unready e q = by (begins-or (begins what) refl) where
    by : (begins what ≡ true) ⊎ (begins what ≡ false) → ⊥
    by (inl b) = (may.asked b).1 (served-call what s.wish e)
    by (inr b) =
        up-not-ready h.x h.y h.sound (present e).up
        (ready-quiet h.x h.y r.list r.moves (r.quiet b) (subst IsCalm (sym (present e).up) tt) q)

  serving-went : (w : Wish) → wish_after d.told from ≡ Some w → NoUp d.told → from ≡ Served → (w ≡ Seeking → ⊥)
      → Went k j m o (port w) t near far d.told a
  serving-went w e q f seeks =
      plain-went w e q (air-told q (λ z. absurd (not-none f z)) h.standing (λ z. absurd (not-behind f z)) h.stands (stays q).0)
      (λ z. absurd (served-unready f z)) (λ z. absurd (seeks z))

  -- ---- an association comes up

  module _ (more : List Told) (is : d.told ≡ Up ∷ more) (q : NoUp more) (w : Wish) (e : wish_after d.told from ≡ Some w) (f : from ≡ Seeking) (seeks : w ≡ Seeking → ⊥) where
    looked : (begins what ≡ false) × (wants_of near k ≡ Open)
    looked = may.looked more m s.site.state is f

    lists-now : received_in l ≡ heard_in more ∷ received_in h.x
    lists-now = r.told ∙ ap (λ (ts : List Told). told_by (received_in h.x) ts) is ∙ told-heads more q [] (received_in h.x)

    received-now : latest_received l ≡ heard_in more
    received-now = ap firsts lists-now

    sent-now : latest_sent l ≡ []
    sent-now = ap firsts (sent-is ∙ ap (λ (ts : List Told). opened_by (sent_in h.x) ts) is ∙ opened-same more q ([] ∷ sent_in h.x))

    one : OneOpened h.standing h.x h.y l (IsQuiet h.x r.list)
    one =
        one-opens h.standing h.x h.y r.list h.sound r.moves
        (sym (long l) ∙ ap (λ (ls : List (List Message)). length ls) lists-now ∙ ap suc (long h.x)) h.stands

    rose : (st : Standing) → Stands st l h.y → Linked k j m o (port w) t left far (air_of st l h.y)
    rose st j =
        linked-so st w left e j (subst AreFramed (sym sent-now) tt)
        (λ z. absurd (one.spent (r.quiet looked.0) z)) (λ z. absurd (seeks z))

    -- Up is told first
    told-up : (act : Act) → event_of k act ≡ CameUp k → (rest : List Message) → AreFramed (heard_in more)
        → map (event_of k) (act ∷ acts_told more rest) ≡ events_told k d.told
    told-up act same rest framed =
        ap (λ (what : exchange.Happening). what ∷ map (event_of k) (acts_told more rest)) same
        ∙ ap (λ (es : List exchange.Happening). CameUp k ∷ es) (told-events k more q rest framed)
        ∙ ap (events_told k) (sym is)

    -- first
    abbrev led-air : Air
    led-air = air_after Leads a

    led : IsAhead l h.y → IsReady h.y h.x → Went k j m o (port w) t near far d.told a
    led alone ready =
        let none : heard_in more ≡ [] = sym received-now ∙ ahead-none l h.y sound alone in
        let framed : AreFramed (heard_in more) = subst AreFramed (sym none) tt in
        let comes : led-air.to_near ≡ heard_in more ++ [] = ap (λ (ms : List Message). ms ++ []) (sym none) in
        let air-is : air_after_all (acts_told more []) led-air ≡ air_of NearAhead l h.y =
        told-air more q [] led-air comes
        ∙ ap (λ (ms : List Message). record { to_near = []; to_far = ms; near_follows = false; far_follows = true }) (sym sent-now) in
        record {
          acts = Leads ∷ acts_told more [];
          may = ((looked.1, h.far_ready ready), told-may k j more q [] (rules.after whole (CameUp k) near) far led-air framed comes);
          told = told-up Leads refl [] framed;
          linked = subst (λ (b : Air). Linked k j m o (port w) t left far b) (sym air-is) (rose NearAhead alone);
        }

    -- second
    abbrev followed-air : Air
    followed-air = air_after Follows a

    followed : h.standing ≡ FarAhead → AreJoined l h.y → Went k j m o (port w) t near far d.told a
    followed st-is joined =
        let was : a ≡ air_of FarAhead h.x h.y = h.air_is ∙ ap (λ (st : Standing). air_of st h.x h.y) st-is in
        let rest : List Message = drop (length (latest_received l)) (latest_sent h.y) in
        let i : IsJoint l h.y = is-joint l h.y sound joined in
        let apart : latest_sent h.y ≡ heard_in more ++ rest =
        split [] (heard_in more) (latest_sent h.y) (subst (λ (ms : List Message). ms ≡ take (length ms) (latest_sent h.y)) received-now i.received)
        ∙ ap (λ (ms : List Message). heard_in more ++ drop (length ms) (latest_sent h.y)) (sym received-now) in
        let framed : AreFramed (heard_in more) = framed-front (heard_in more) rest (subst AreFramed apart h.far_framed) in
        let comes : followed-air.to_near ≡ heard_in more ++ rest = ap (λ (b : Air). b.to_near) was ∙ apart in
        let air-is : air_after_all (acts_told more rest) followed-air ≡ air_of Joined l h.y =
        told-air more q rest followed-air comes
        ∙ ap (λ (b : Air). record { to_near = rest; to_far = b.to_far; near_follows = false; far_follows = b.far_follows }) was
        ∙ ap (λ (ms : List Message). record { to_near = rest; to_far = ms; near_follows = false; far_follows = false })
        (sym (ap (λ (ms : List Message). drop (length (latest_received h.y)) ms) sent-now ∙ drop-none (length (latest_received h.y)))) in
        record {
          acts = Follows ∷ acts_told more rest;
          may = ((looked.1, ap (λ (b : Air). b.near_follows) was), told-may k j more q rest (rules.after whole (CameUp k) near) far followed-air framed comes);
          told = told-up Follows refl rest framed;
          linked = subst (λ (b : Air). Linked k j m o (port w) t left far b) (sym air-is) (rose Joined joined);
        }

    rising-went : Went k j m o (port w) t near far d.told a
    rising-went = by one.opening where
      by : Opening h.standing h.x h.y l → Went k j m o (port w) t near far d.told a
      by (follows st-is j) = followed st-is j
      by (leads j ready) = led j ready

  -- ---- whatever it tells

  wish-is : (v : Option Wish) → wish_after d.told from ≡ v → Fits v d.left → (w : Wish) × (wish_after d.told from ≡ Some w)
  wish-is None e x = absurd x
  wish-is (Some w) e x = (w, e)

  shaped : (w : Wish) → wish_after d.told from ≡ Some w → Shape d.told from w → Went k j m o (port w) t near far d.told a
  shaped w e (nothing q none same seeks) = quiet-went w e q none (same k) seeks
  shaped w e (serving q f seeks) = serving-went w e q f seeks
  shaped w e (rising more is q f seeks) = rising-went more is q w e f seeks

  told-goes : (w : Wish) → wish_after d.told from ≡ Some w → Went k j m o (port w) t near far d.told a
  told-goes w e = shaped w e (shape-of d.told from w e)

  -- it wants none any more
  idle-linked : (w : Wish) (b : Air) → Fits (Some Idle) d.left → Linked k j m o (port w) t left far b
      → Linked k j m o (port Idle) t left far b
  idle-linked w b x g = record {
    x = g.x;
    y = g.y;
    sound = g.sound;
    near_shown = g.near_shown;
    far_shown = g.far_shown;
    standing = g.standing;
    stands = g.stands;
    near_right = g.near_right;
    far_right = g.far_right;
    near_fits = x;
    far_fits = g.far_fits;
    air_is = g.air_is;
    near_framed = g.near_framed;
    far_framed = g.far_framed;
    near_ready = g.near_ready;
    far_ready = g.far_ready;
    near_seeks = λ e. let no : Idle ≡ Seeking = e in absurd cc;
    far_seeks = g.far_seeks;
  }

  idle-goes : (w : Wish) → Fits (Some Idle) d.left → Went k j m o (port w) t near far d.told a
      → Went k j m o (port Idle) t near far d.told a
  idle-goes w x g = record { acts = g.acts; may = g.may; told = g.told; linked = idle-linked w (air_after_all g.acts a) x g.linked }

  pub goes : Went k j m o (record { site = ends.happened m what s.site; wish = wish_left what (wish_after d.told from) s.wish }) t near far d.told a
  goes = by (ends-or what) (wish-is (wish_after d.told from) refl fits) where
    by : (what ≡ Aborts) ⊎ ((o : Option Wish) (w : Wish) → wish_left what o w ≡ wished o w) → (w : Wish) × (wish_after d.told from ≡ Some w)
        → Went k j m o (port (wish_left what (wish_after d.told from) s.wish)) t near far d.told a
    by (inr same) w =
        subst (λ (v : Wish). Went k j m o (port v) t near far d.told a)
        (sym (same (wish_after d.told from) s.wish ∙ ap (λ (v : Option Wish). wished v s.wish) w.1)) (told-goes w.0 w.1)
    by (inl is) w =
        subst (λ (v : Wish). Went k j m o (port v) t near far d.told a)
        (ap (λ (z : Happening). wish_left z (wish_after d.told from) s.wish) (sym is))
        (idle-goes w.0 (subst (λ (z : Happening). Fits (Some Idle) (after m.settings m.secrets z s.site.state).left) (sym is) (aborts-idle m.settings m.secrets s.site.state))
        (told-goes w.0 w.1))
