-- Each call of a gate is a list of acts at its end of a link.
use Rattle.std.proofs.Common.{◌≡◌, ◌≢◌, ◌⊎◌, inl, inr, ◌≤◌, ◌+◌, ℕ, Bool, true, false, List, [], ◌∷◌, ◌++◌, Option, Some, None, map, refl, ap, sym, ◌∙◌, subst, arith}
use Rattle.std.specs.Prelude.{if◌then◌else◌}
use Rattle.sctp_rules.specs.declared.loss.Loss.{Loss}
use Rattle.sctp_rules.specs.declared.loss.Loss.TheVariants.{Local}
use Rattle.sctp_rules.specs.Settings.{Settings, Secrets}
use Rattle.sctp_rules.specs.State as rules
use Rattle.sctp_rules.specs.State.{Told, Up, Heard, Down, Failed, Datagram, Done}
use Rattle.sctp_rules.specs.Ending.{abort}
use Rattle.sctp_rules.specs.Opening.{opening}
use Rattle.sctp_rules.specs.Endpoint.{Happening, Opens, Aborts, after}
use Rattle.sctp_rules.specs.Wishing.{Wish, Idle, Seeking, Served, wish_by_call, wish_after, Fits}
use Rattle.sctp_rules.proofs.Wishing.{happening-fits}
use Rattle.sctp_moves.proofs.Members.{In, in-map}
use Rattle.sctp_ends.specs.Told.{given_by}
use Rattle.sctp_ends.specs.Worlds as ends
use Rattle.sctp_ends.specs.Worlds.{Emitted, emitted, messages_at}
use Rattle.sctp_endpoint.specs.Endpoints.{secrets_of}
use Rattle.exchange_rules.specs.Exchange.{wants_of}
use Rattle.exchange_rules.specs.First.{Abstract}
use Rattle.exchange_rules.specs.Queues.{WholeQueues, whole}
use Rattle.exchange_rules.specs.declared.wants.Wants.{Wants}
use Rattle.exchange_rules.specs.declared.wants.Wants.TheVariants.{Nothing, Open, Close}
use Rattle.sctp_gate.specs.declared.standing.Standing.{Standing}
use Rattle.sctp_gate.specs.Standing.{idle, seeking, stands_after}
use Rattle.sctp_gate.specs.Watching.{Sight}
use Rattle.sctp_gate.specs.Handing.{after_told, sights_of}
use Rattle.sctp_gate.specs.Gates.{Gate, Did, nothing, followed_by, is_lasting, may_try, handed, does, aborted, opened, wanted, settled_by, settled, between}
use Rattle.sctp_gate.specs.Laws.{Agrees}
use Rattle.sctp_gate.proofs.Agreeing.{agrees}
use Rattle.node_rules.specs.Worlds.{Make, associated, wish_left, wished}
use Rattle.gate_rules.specs.Calls.{Keeping, is_served, is_seeking, Shows, seen_all, messages_in}
use Rattle.gate_rules.proofs.LinkEnds.{Act, Associates, Lasts, LinkEnd, MayAct, MayActAll, acted, acted_all, as_node}
use Rattle.gate_rules.proofs.Seen.{in-either, in-front, in-behind, seen-more, messages-more, handed-told, seen-told, rule-grows}

-- ---- what a gate knows of its endpoint

pub record Alike (p : Standing) (w : Wish) : Type 0 where
  pub up : p.is_up ≡ is_served w
  pub seeks : p.is_seeking ≡ is_seeking w

never : {A : Type 0} (w : Wish) → None ≡ Some w → A
never w e = absurd cc

alike-on : (now : ℕ) (ts : List Told) (p : Standing) (v w : Wish) → Alike p v → wish_after ts v ≡ Some w → Alike (stands_after now ts p) w
alike-on now [] p v w h e = subst (Alike p) (let same : v ≡ w = cc in same) h
alike-on now (Up ∷ more) p Idle w h e = never w e
alike-on now (Up ∷ more) p Seeking w h e = alike-on now more _ Served w (record { up = refl; seeks = refl }) e
alike-on now (Up ∷ more) p Served w h e = never w e
alike-on now (Heard m ∷ more) p Idle w h e = never w e
alike-on now (Heard m ∷ more) p Seeking w h e = never w e
alike-on now (Heard m ∷ more) p Served w h e = alike-on now more p Served w h e
alike-on now (Down why ∷ more) p Idle w h e = never w e
alike-on now (Down why ∷ more) p Seeking w h e = never w e
alike-on now (Down why ∷ more) p Served w h e = alike-on now more _ Idle w (record { up = refl; seeks = refl }) e
alike-on now (Failed why ∷ more) p Idle w h e = never w e
alike-on now (Failed why ∷ more) p Seeking w h e = alike-on now more _ Idle w (record { up = refl; seeks = refl }) e
alike-on now (Failed why ∷ more) p Served w h e = never w e

alike-ended : (now : ℕ) (up wanted : Bool) (why : Loss) (p : Standing)
    → Alike (stands_after now (if up then Down why ∷ [] else (if wanted then Failed why ∷ [] else [])) (idle p)) Idle
alike-ended now true wanted why p = record { up = refl; seeks = refl }
alike-ended now false true why p = record { up = refl; seeks = refl }
alike-ended now false false why p = record { up = refl; seeks = refl }

-- ---- steps

module _ {B : Type 0} (keeping : Keeping B) (m : Make) (k : ℕ) (there : ends.Site) (Holds : LinkEnd B → Type 0) (lasts : Lasts keeping m k there Holds) where
  -- an end after what is done, with the mark that its endpoint is left with
  pub record Leaves (n l : LinkEnd B) (d : Did WholeQueues) (mark : ℕ) : Type 0 where
    pub shows : Shows m k l.port d.gate
    pub holds : Holds l
    pub exchange : keeping.exchange l.books ≡ d.exchange
    pub books : l.books ≡ seen_all keeping k d.seen n.books
    pub sent : (x : Datagram) → In x d.sent → In (emitted n.port.site.mark x) l.port.site.packets
    pub kept : (x : Emitted) → In x n.port.site.packets → In x l.port.site.packets
    pub grown : messages_at l.port.site ≤ messages_at n.port.site + messages_in d.seen
    pub mark_is : l.port.site.mark ≡ mark

  pub record AreDone (n : LinkEnd B) (d : Did WholeQueues) (mark : ℕ) : Type 0 where
    pub steps : List Act
    pub may : MayActAll keeping m k there steps n
    pub leaves : Leaves n (acted_all keeping m k steps n) d mark

  -- where the mark stays
  abbrev pub AreQuiet : LinkEnd B → Did WholeQueues → Type 0
  AreQuiet n d = AreDone n d n.port.site.mark

  -- where a call asks for packets, the mark is no less than what was given and told by then; else it stays
  abbrev pub IsMark : Bool → (n l : LinkEnd B) → ℕ → Type 0
  IsMark true n l mark = messages_at l.port.site ≤ mark
  IsMark false n l mark = mark ≡ n.port.site.mark

  pub record AreCalled (n : LinkEnd B) (d : Did WholeQueues) (flushes : Bool) : Type 0 where
    pub steps : List Act
    pub may : MayActAll keeping m k there steps n
    pub mark : ℕ
    pub leaves : Leaves n (acted_all keeping m k steps n) d mark
    pub is_mark : IsMark flushes n (acted_all keeping m k steps n) mark

  pub quiet-called : (n : LinkEnd B) (d : Did WholeQueues) → AreQuiet n d → AreCalled n d false
  quiet-called n d f = record { steps = f.steps; may = f.may; mark = n.port.site.mark; leaves = f.leaves; is_mark = refl }

  pub acts-append : (list more : List Act) (n : LinkEnd B) → acted_all keeping m k (list ++ more) n ≡ acted_all keeping m k more (acted_all keeping m k list n)
  acts-append [] more n = refl
  acts-append (what ∷ list) more n = acts-append list more (acted keeping m k what n)

  pub may-append : (list more : List Act) (n : LinkEnd B) → MayActAll keeping m k there list n → MayActAll keeping m k there more (acted_all keeping m k list n) → MayActAll keeping m k there (list ++ more) n
  may-append [] more n h g = g
  may-append (what ∷ list) more n h g = (h.0, may-append list more (acted keeping m k what n) h.1 g)

  -- nothing is done
  pub idle-done : (n : LinkEnd B) (g : Gate) (s : Abstract) → Shows m k n.port g → Holds n → keeping.exchange n.books ≡ s → AreQuiet n (nothing g s)
  idle-done n g s h z e = record {
    steps = [];
    may = tt;
    leaves = record {
      shows = h;
      holds = z;
      exchange = e;
      books = refl;
      sent = λ x i. absurd i;
      kept = λ x i. i;
      grown = omega arith;
      mark_is = refl;
    };
  }

  -- one thing, and then another
  pub leaves-both : (n l o : LinkEnd B) (d e : Did WholeQueues) (mark : ℕ) → Leaves n l d n.port.site.mark → Leaves l o e mark
      → Leaves n o (record e { sent = d.sent ++ e.sent; seen = d.seen ++ e.seen }) mark
  leaves-both n l o d e mark f g = record {
    shows = g.shows;
    holds = g.holds;
    exchange = g.exchange;
    books = g.books ∙ ap (seen_all keeping k e.seen) f.books ∙ sym (seen-more keeping k d.seen e.seen n.books);
    sent = λ x i. by x (in-either x d.sent e.sent i);
    kept = λ x i. g.kept x (f.kept x i);
    grown =
        (let a = f.grown in
        let b = g.grown in
        let c = messages-more d.seen e.seen in
        omega (arith, a, b, c));
    mark_is = g.mark_is;
  } where
    by : (x : Datagram) → In x d.sent ⊎ In x e.sent → In (emitted n.port.site.mark x) o.port.site.packets
    by x (inl i) = g.kept (emitted n.port.site.mark x) (f.sent x i)
    by x (inr i) = subst (λ (at : ℕ). In (emitted at x) o.port.site.packets) f.mark_is (g.sent x i)

  also-done : (n : LinkEnd B) (d : Did WholeQueues) (call : Gate → Abstract → Did WholeQueues) (mark : LinkEnd B → ℕ) → (f : AreQuiet n d)
      → ((l : LinkEnd B) → Shows m k l.port d.gate → Holds l → keeping.exchange l.books ≡ d.exchange → AreDone l (call d.gate d.exchange) (mark l))
      → AreDone n (followed_by d call) (mark (acted_all keeping m k f.steps n))
  also-done n d call mark f rest =
      let l : LinkEnd B = acted_all keeping m k f.steps n in
      let e : Did WholeQueues = call d.gate d.exchange in
      let g : AreDone l e (mark l) = rest l f.leaves.shows f.leaves.holds f.leaves.exchange in
      record {
        steps = f.steps ++ g.steps;
        may = may-append f.steps g.steps n f.may g.may;
        leaves = subst (λ (o : LinkEnd B). Leaves n o (followed_by d call) (mark l)) (sym (acts-append f.steps g.steps n))
            (leaves-both n l (acted_all keeping m k g.steps l) d e (mark l) f.leaves g.leaves);
      }

  -- the mark stays by both
  pub then-quiet : (n : LinkEnd B) (d : Did WholeQueues) (call : Gate → Abstract → Did WholeQueues) → AreQuiet n d
      → ((l : LinkEnd B) → Shows m k l.port d.gate → Holds l → keeping.exchange l.books ≡ d.exchange → AreQuiet l (call d.gate d.exchange)) → AreQuiet n (followed_by d call)
  then-quiet n d call f rest =
      subst (AreDone n (followed_by d call)) f.leaves.mark_is (also-done n d call (λ l. l.port.site.mark) f rest)

  -- ---- one rule

  module _ (n : LinkEnd B) (g : Gate) (h : Shows m k n.port g) (z : Holds n) where
    abbrev site : ends.Site
    site = n.port.site

    abbrev rule : Happening → Done
    rule what = after (m.endpoints k).settings (m.endpoints k).secrets what site.state

    abbrev end-after : Happening → LinkEnd B
    end-after what = acted keeping m k (Associates what) n

    wish-is : (v : Option Wish) (left : rules.State) → Fits v left → (w : Wish) × (v ≡ Some w)
    wish-is None left x = absurd x
    wish-is (Some w) left x = (w, refl)

    fits : (what : Happening) → Fits (wish_after (rule what).told (wish_by_call what n.port.wish)) (rule what).left
    fits what =
        happening-fits (m.endpoints k).settings (m.endpoints k).secrets what site.state n.port.wish (lasts.right n z) (lasts.fits n z)

    told-wish : (what : Happening) → (w : Wish) × (wish_after (rule what).told (wish_by_call what n.port.wish) ≡ Some w)
    told-wish what = wish-is (wish_after (rule what).told (wish_by_call what n.port.wish)) (rule what).left (fits what)

    in-emitted : (x : Datagram) (xs : List Datagram) → In x xs → In (emitted site.mark x) (map (emitted site.mark) xs)
    in-emitted x xs i = in-map (emitted site.mark) xs x i

    -- a rule, with its events handed in, where the gate knows what the user wants then; it gives no message
    one-done : (what : Happening) (now : ℕ) (p : Standing) (d : Done) (w : Wish) → d ≡ rule what → MayAct keeping m k there (Associates what) n
        → given_by what site.state site.given ≡ site.given
        → (associated m k what (as_node keeping n)).wish ≡ w → Alike (stands_after now d.told p) w
        → (s : Abstract) → keeping.exchange n.books ≡ s → AreDone n (handed whole now d (record g { standing = p }) s) (ends.marked_by what site)
    one-done what now p d w d-is may quiet e alike s s-is = record {
      steps = Associates what ∷ [];
      may = (may, tt);
      leaves = record {
        shows = record {
          link_is = h.link_is;
          settings = h.settings;
          secrets = h.secrets;
          state = ap (λ (y : Done). y.left) (sym d-is);
          up = alike.up ∙ ap (λ (v : Wish). is_served v) (sym e);
          seeking = alike.seeks ∙ ap (λ (v : Wish). is_seeking v) (sym e);
        };
        holds = lasts.stays n (Associates what) z may;
        exchange = handed-told keeping k lasts.keeps (rule what).told n.books
            ∙ ap (λ (y : Done). after_told whole k y.told (keeping.exchange n.books)) (sym d-is)
            ∙ ap (λ (y : Abstract). after_told whole k d.told y) s-is
            ∙ ap (λ (j : ℕ). after_told whole j d.told s) (sym h.link_is);
        books = seen-told keeping k lasts.keeps (rule what).told n.books ∙ ap (λ (xs : List Sight). seen_all keeping k xs n.books) (sym seen-is);
        sent = λ y i.
            in-front (emitted site.mark y) (map (emitted site.mark) (rule what).sent) site.packets
            (in-emitted y (rule what).sent (subst (λ (u : Done). In y u.sent) d-is i));
        kept = λ y i. in-behind y (map (emitted site.mark) (rule what).sent) site.packets i;
        grown = subst (λ (xs : List Sight). messages_at (end-after what).port.site ≤ messages_at site + messages_in xs) (sym seen-is)
            (rule-grows k what (rule what) site (keeping.exchange n.books) quiet);
        mark_is = refl;
      };
    } where
      seen-is : sights_of whole g.link d.told s ≡ sights_of whole k (rule what).told (keeping.exchange n.books)
      seen-is =
          ap (λ (j : ℕ). sights_of whole j d.told s) h.link_is
          ∙ ap (λ (y : Done). sights_of whole k y.told s) d-is
          ∙ ap (λ (y : Abstract). sights_of whole k (rule what).told y) (sym s-is)

    -- the rule of the gate's endpoint is that of the end's
    rule-is : (f : Settings → Secrets → rules.State → Done) → f g.endpoint.settings (secrets_of g.endpoint) g.endpoint.state ≡ f (m.endpoints k).settings (m.endpoints k).secrets site.state
    rule-is f =
        ap (λ (c : Settings). f c (secrets_of g.endpoint) g.endpoint.state) (sym h.settings)
        ∙ ap (λ (c : Secrets). f (m.endpoints k).settings c g.endpoint.state) (sym h.secrets)
        ∙ ap (λ (t : rules.State). f (m.endpoints k).settings (m.endpoints k).secrets t) (sym h.state)

    -- ---- it is told to end what it has

    aborts-told : (c : Settings) (r : Secrets) (now : ℕ) (t : rules.State) (p : Standing) → Alike (stands_after now (after c r Aborts t).told (idle p)) Idle
    unfolding after
    aborts-told c r now t p = alike-ended now t.association.is_up t.is_wanted Local p

    abort-is : (c : Settings) (r : Secrets) (t : rules.State) → abort c t ≡ after c r Aborts t
    unfolding after
    abort-is c r t = refl

    abort-done : (now : ℕ) (s : Abstract) → keeping.exchange n.books ≡ s → AreQuiet n (handed whole now (abort g.endpoint.settings g.endpoint.state) (record g { standing = idle g.standing }) s)
    abort-done now s e =
        let d-is : abort g.endpoint.settings g.endpoint.state ≡ rule Aborts =
        abort-is g.endpoint.settings (secrets_of g.endpoint) g.endpoint.state ∙ rule-is (λ c r t. after c r Aborts t) in
        one-done Aborts now (idle g.standing) (abort g.endpoint.settings g.endpoint.state) Idle d-is tt refl refl
        (subst (λ (d : Done). Alike (stands_after now d.told (idle g.standing)) Idle) (sym d-is)
        (aborts-told (m.endpoints k).settings (m.endpoints k).secrets now site.state g.standing)) s e

    either-done : (b : Bool) (d e : Did WholeQueues) → (b ≡ true → AreQuiet n d) → (b ≡ false → AreQuiet n e) → AreQuiet n (if b then d else e)
    either-done true d e f t = f refl
    either-done false d e f t = t refl

    pub aborted-done : (now : ℕ) (s : Abstract) → keeping.exchange n.books ≡ s → AreQuiet n (aborted whole now g s)
    aborted-done now s e =
        either-done (is_lasting now g.endpoint) _ _ (λ l. abort-done now s e) (λ l. idle-done n g s h z e)

    -- ---- it is asked for an association

    opening-is : (c : Settings) (r : Secrets) (now : ℕ) (active : Bool) (t : rules.State) → opening c r now active t ≡ after c r (Opens now active) t
    unfolding after
    opening-is c r now active t = refl

    not-served : (w : Wish) → false ≡ is_served w → w ≢ Served
    not-served w e q = let no : false ≡ true = e ∙ ap is_served q in absurd cc

    asked-alike : (now : ℕ) (active : Bool) (w : Wish) → false ≡ is_served w → wish_by_call (Opens now active) w ≡ Seeking
    asked-alike now active Idle e = refl
    asked-alike now active Seeking e = refl
    asked-alike now active Served e = absurd cc

    open-done : (now : ℕ) (s : Abstract) → keeping.exchange n.books ≡ s → wants_of s g.link ≡ Open → g.standing.is_up ≡ false
        → AreQuiet n (handed whole now (opening g.endpoint.settings (secrets_of g.endpoint) now (may_try now g) g.endpoint.state) (record g { standing = seeking g.standing }) s)
    open-done now s e wants down =
        let active : Bool = may_try now g in
        let d : Done = opening g.endpoint.settings (secrets_of g.endpoint) now active g.endpoint.state in
        let d-is : d ≡ rule (Opens now active) =
        opening-is g.endpoint.settings (secrets_of g.endpoint) now active g.endpoint.state ∙ rule-is (λ c r t. after c r (Opens now active) t) in
        let w = told-wish (Opens now active) in
        let unserved : false ≡ is_served n.port.wish = sym down ∙ h.up in
        let seeks : wish_by_call (Opens now active) n.port.wish ≡ Seeking = asked-alike now active n.port.wish unserved in
        let wants-here : wants_of (keeping.exchange n.books) k ≡ Open =
        ap (λ (x : Abstract). wants_of x k) e ∙ ap (λ (j : ℕ). wants_of s j) (sym h.link_is) ∙ wants in
        one-done (Opens now active) now (seeking g.standing) d w.0 d-is
        (record { wants = wants-here; down = not-served n.port.wish unserved }) refl
        (ap (λ (v : Option Wish). wished v n.port.wish) w.1)
        (alike-on now d.told (seeking g.standing) Seeking w.0 (record { up = down; seeks = refl })
        (ap (λ (x : Done). wish_after x.told Seeking) d-is ∙ ap (λ (v : Wish). wish_after (rule (Opens now active)).told v) (sym seeks) ∙ w.1)) s e

    opened-done : (now : ℕ) (s : Abstract) → keeping.exchange n.books ≡ s → wants_of s g.link ≡ Open → g.standing.is_up ≡ false → AreQuiet n (opened whole now g s)
    opened-done now s e wants down =
        either-done (is_lasting now g.endpoint) _ _ (λ l. open-done now s e wants down) (λ l. idle-done n g s h z e)

    -- ---- as the link wants it

    settled-by : (now : ℕ) (s : Abstract) → keeping.exchange n.books ≡ s → (v : Wants) → wants_of s g.link ≡ v → AreQuiet n (settled_by whole now v g s)
    settled-by now s e Close is = aborted-done now s e
    settled-by now s e Open is = either-done g.standing.is_up _ _ (λ up. aborted-done now s e) (λ down. opened-done now s e is down)
    settled-by now s e Nothing is = either-done g.standing.is_seeking _ _ (λ seeks. aborted-done now s e) (λ quiet. idle-done n g s h z e)

    pub settled-done : (now : ℕ) (s : Abstract) → keeping.exchange n.books ≡ s → AreQuiet n (settled whole now g s)
    settled-done now s e = settled-by now s e (wants_of s g.link) refl

    -- ---- a rule in between

    -- one that isn't a call of the user
    pub record IsPlain (what : Happening) : Type 0 where
      pub same : (w : Wish) → wish_by_call what w ≡ w
      pub left : (o : Option Wish) (w : Wish) → wish_left what o w ≡ wished o w
      pub quiet : given_by what site.state site.given ≡ site.given

    pub plain-done : (what : Happening) → IsPlain what → (now : ℕ) (f : Settings → Secrets → rules.State → Done)
        → ((c : Settings) (r : Secrets) (t : rules.State) → f c r t ≡ after c r what t) → MayAct keeping m k there (Associates what) n
        → (s : Abstract) → keeping.exchange n.books ≡ s
        → AreDone n (handed whole now (f g.endpoint.settings (secrets_of g.endpoint) g.endpoint.state) g s) (ends.marked_by what site)
    plain-done what plain now f f-is may s e =
        let d : Done = f g.endpoint.settings (secrets_of g.endpoint) g.endpoint.state in
        let d-is : d ≡ rule what = rule-is f ∙ f-is (m.endpoints k).settings (m.endpoints k).secrets site.state in
        let w = told-wish what in
        one-done what now g.standing d w.0 d-is may plain.quiet
        (plain.left (wish_after (rule what).told (wish_by_call what n.port.wish)) n.port.wish ∙ ap (λ (v : Option Wish). wished v n.port.wish) w.1)
        (alike-on now d.told g.standing n.port.wish w.0 (record { up = h.up; seeks = h.seeking })
        (ap (λ (x : Done). wish_after x.told n.port.wish) d-is
        ∙ ap (λ (v : Wish). wish_after (rule what).told v) (sym (plain.same n.port.wish)) ∙ w.1)) s e

    -- where the gate agrees with its link, an endpoint that seeks an association has a link that wants to open
    pub looks : (what : Happening) → IsPlain what → (s : Abstract) → keeping.exchange n.books ≡ s → (g.standing.is_seeking ≡ true → wants_of s g.link ≡ Open)
        → wish_by_call what n.port.wish ≡ Seeking → wants_of (keeping.exchange n.books) k ≡ Open
    looks what plain s e agrees-so q =
        ap (λ (x : Abstract). wants_of x k) e ∙ ap (λ (j : ℕ). wants_of s j) (sym h.link_is)
        ∙ agrees-so (h.seeking ∙ ap (λ (v : Wish). is_seeking v) (sym (plain.same n.port.wish) ∙ q))

  -- ---- a call

  -- a gate whose endpoint doesn't last does nothing as it settles
  false-if : {A : Type 0} (b : Bool) (x y : A) → b ≡ false → (if b then x else y) ≡ y
  false-if true x y e = absurd cc
  false-if false x y e = refl

  same-if : {A : Type 0} (b : Bool) (x y : A) → x ≡ y → (if b then x else y) ≡ y
  same-if true x y e = e
  same-if false x y e = refl

  rests : (now : ℕ) (g : Gate) (s : Abstract) → is_lasting now g.endpoint ≡ false → (v : Wants) → settled_by whole now v g s ≡ nothing g s
  rests now g s e Close = false-if (is_lasting now g.endpoint) _ _ e
  rests now g s e Open =
      same-if g.standing.is_up (aborted whole now g s) (opened whole now g s)
      (false-if (is_lasting now g.endpoint) _ _ e ∙ sym (false-if (is_lasting now g.endpoint) _ _ e))
      ∙ false-if (is_lasting now g.endpoint) _ _ e
  rests now g s e Nothing = same-if g.standing.is_seeking (aborted whole now g s) (nothing g s) (false-if (is_lasting now g.endpoint) _ _ e)

  -- where the settled gate lasts, it agrees with its link
  settled-agrees : (now : ℕ) (g : Gate) (s : Abstract) → is_lasting now (settled whole now g s).gate.endpoint ≡ true
      → Agrees (settled whole now g s).gate (settled whole now g s).exchange
  settled-agrees now g s l = by (is_lasting now g.endpoint) refl where
    by : (b : Bool) → is_lasting now g.endpoint ≡ b → Agrees (settled whole now g s).gate (settled whole now g s).exchange
    by true e = agrees whole now g s e
    by false e =
        let is : settled whole now g s ≡ nothing g s = rests now g s e (wants_of s g.link) in
        let no : false ≡ true = sym e ∙ ap (λ (d : Did WholeQueues). is_lasting now d.gate.endpoint) (sym is) ∙ l in
        absurd cc

  pub between-done : (n : LinkEnd B) (g : Gate) (s : Abstract) (now : ℕ) (f : Settings → Secrets → rules.State → Done) → Shows m k n.port g → Holds n → keeping.exchange n.books ≡ s
      → ((l : LinkEnd B) (j : Gate) (t : Abstract) → Shows m k l.port j → Holds l → keeping.exchange l.books ≡ t → (j.standing.is_seeking ≡ true → wants_of t j.link ≡ Open)
      → AreQuiet l (handed whole now (f j.endpoint.settings (secrets_of j.endpoint) j.endpoint.state) j t))
      → AreQuiet n (between whole now (λ e. f e.settings (secrets_of e) e.state) g s)
  between-done n g s now f h z e rule =
      then-quiet n _ (λ j t. settled whole now j t)
      (then-quiet n (settled whole now g s) (λ j t. does whole now (λ x. f x.settings (secrets_of x) x.state) j t) (settled-done n g h z now s e)
      (λ l shows sane q.
      either-done l (settled whole now g s).gate shows sane (is_lasting now (settled whole now g s).gate.endpoint) _ _
      (λ lasts. rule l (settled whole now g s).gate (settled whole now g s).exchange shows sane q (settled-agrees now g s lasts).seeking)
      (λ rested. idle-done l (settled whole now g s).gate (settled whole now g s).exchange shows sane q)))
      (λ l shows sane q. settled-done l _ shows sane now _ q)
