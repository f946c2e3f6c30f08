-- What comes to a network by links that lead out: each two of its nodes that share a set see it come from elsewhere.
use Rattle.pair_rules.proofs.Basics.{arith, nat_tests, ◌≡◌, ◌≢◌, ◌<◌, ℕ, Bool, true, false, ◌&&◌, ◌||◌, not, List, [], ◌∷◌, Option, Some, None, refl, ap, sym, subst, ◌∙◌, nat_eq, length, map, slice_get, list_any, option_to_list, ⊎_elim, cases_eq}
use Rattle.std.specs.Prelude.{nat_lt, position}
use Rattle.exchange_rules.proofs.Basics.{eqb-true}
use Rattle.signalling_types.specs.Message.{dpc_of, opc_of, service_indicator}
use Rattle.settings.specs.Sharing.{LeadsAlone}
use Rattle.exchange_rules.specs.Laws.{carried_message}
use Rattle.exchange_rules.specs.Routing.{adjacent_of}
use Rattle.exchange_rules.specs.State.{CameUp}
use Rattle.pair_rules.proofs.Definitions.{Message, Configuration, LinkEntry, SetEntry, PairState, turned, read_frame}
use Rattle.pair_rules.specs.Sharing.{AreSharing}
use Rattle.neighbour_rules.specs.Neighbours.{is_management_between, leads_elsewhere_by, speaks_for_either}
use Rattle.neighbour_rules.proofs.Sharing.{AreFacing}
use Rattle.network_rules.specs.Networks.{NetworkNode, NetworkState, Step, after_step, after_steps, changed, first_network, happens}
use Rattle.network_rules.specs.Outside.{HearsOutside, Move, OpensOutside, Within, after_move, after_moves, hears, hears_outside, is_management_within, is_within, leads_out, leads_out_by, opens_outside, speaks_within}
use Rattle.network_rules.specs.Pairs.{Always, AreTheirPoints, AreWellOrAlone, ArePairsAlike, pair_between_for, pair_of, pair_of_for}
use Rattle.network_rules.proofs.Alike.{away}
use Rattle.network_rules.proofs.AllRuns.{HasPoints, changed-keeps, did-keeps}
use Rattle.network_rules.proofs.Ends.{fine-both, is_fine}
use Rattle.network_rules.proofs.Nodes.{Next, Terms, turned_terms, away-heard, idle, opened-away}
use Rattle.network_rules.proofs.Places.{not-equal}
use Rattle.network_rules.proofs.Quiet.{IsQuiet, delivered, fine, happened, quiet-changed}
use Rattle.network_rules.proofs.Runs.{NextOf, alike-turned_for, here-next, next-turned, still-next}
use Rattle.network_rules.proofs.Texts.{IsHarmless, same-some}

-- ---- settings stay

hears-keeps : (out speaks : Bool) (point link : ℕ) (text : List ℕ) (w : NetworkState) (other : ℕ)
    → ((hears_outside out speaks point link text w).node other).exchange.settings ≡ (w.node other).exchange.settings
hears-keeps true false point link text w other = changed-keeps point (hears link text) w (λ x. refl) other
hears-keeps true true point link text w other = refl
hears-keeps false speaks point link text w other = refl

opens-keeps : (out : Bool) (point link : ℕ) (w : NetworkState) (other : ℕ)
    → ((opens_outside out point link w).node other).exchange.settings ≡ (w.node other).exchange.settings
opens-keeps true point link w other = changed-keeps point (happens (CameUp link)) w (λ x. refl) other
opens-keeps false point link w other = refl

pub move-keeps : (move : Move) (w : NetworkState) (other : ℕ) → ((after_move move w).node other).exchange.settings ≡ (w.node other).exchange.settings
move-keeps (Within step) w other = did-keeps step.what step.point w other
move-keeps (OpensOutside point link) w other = opens-keeps (leads_out w point link) point link w other
move-keeps (HearsOutside point link text) w other = hears-keeps (leads_out w point link) (speaks_within w text) point link text w other

pub moves-keep : (moves : List Move) (w : NetworkState) (other : ℕ) → ((after_moves moves w).node other).exchange.settings ≡ (w.node other).exchange.settings
moves-keep [] w other = refl
moves-keep (move ∷ moves) w other = moves-keep moves (after_move move w) other ∙ move-keeps move w other

-- ---- two that share a set are within

above : (n : ℕ) → 0 < n → nat_lt 0 n ≡ true
above n l = grind (arith, nat_tests, l)

set-there : (sets : List SetEntry) (point set : ℕ) → position (λ (s : SetEntry). nat_eq point s.adjacent) sets ≡ Some set → nat_lt 0 (length sets) ≡ true
set-there [] point set e = absurd cc
set-there (s ∷ sets) point set e = above (length (s ∷ sets)) (omega arith)

pub has-sets : (c : Configuration) (point set : ℕ) → LeadsAlone c point set → nat_lt 0 (length c.sets) ≡ true
has-sets c point set leads = set-there c.sets point set leads.adjacent

pub record AreWithin (near far : ℕ) (w : NetworkState) : Type 0 where
  pub near_within : is_within w near ≡ true
  pub far_within : is_within w far ≡ true
  pub own : HasPoints w

-- ---- what leads out leads to neither, and what nobody outside may say

module _ (w : NetworkState) where
  -- a link that leads out doesn't lead to another node
  out-by : (other : ℕ) (c z : Configuration) → z.own ≡ other → is_within w other ≡ true → (entry : Option LinkEntry) → leads_out_by w c entry ≡ true → leads_elsewhere_by c z entry ≡ true
  out-by other c z named inside None e = e
  out-by other c z named inside (Some l) e =
      ap not (not-equal (adjacent_of c l.set) z.own
      (λ same. (let no : false ≡ true = sym (ap not (ap (is_within w) (same ∙ named) ∙ inside)) ∙ e in absurd cc)))

  out-away : (one other link : ℕ) → (w.node other).exchange.settings.own ≡ other → is_within w other ≡ true → leads_out w one link ≡ true
      → away (w.node one).exchange.settings (w.node other).exchange.settings link ≡ true
  out-away one other link named inside =
      out-by other (w.node one).exchange.settings (w.node other).exchange.settings named inside (slice_get (w.node one).exchange.settings.links link)

  -- management that isn't of two nodes within isn't of these two
  not-between : (from to : ℕ) (m : Message) → is_within w from ≡ true → is_within w to ≡ true → is_management_within w m ≡ false → is_management_between from to m ≡ false
  not-between from to m in_from in_to = by (nat_eq (service_indicator m) 0) (nat_eq (opc_of m) from) (nat_eq (dpc_of m) to) refl refl
    where
      by : (a b d : Bool) → nat_eq (opc_of m) from ≡ b → nat_eq (dpc_of m) to ≡ d → (a && (is_within w (opc_of m) && is_within w (dpc_of m))) ≡ false → (a && (b && d)) ≡ false
      by false b d e f g = refl
      by true false d e f g = refl
      by true true false e f g = refl
      by true true true e f g =
          let from_is : is_within w (opc_of m) ≡ true = ap (is_within w) (eqb-true (opc_of m) from e) ∙ in_from in
          let to_is : is_within w (dpc_of m) ≡ true = ap (is_within w) (eqb-true (dpc_of m) to f) ∙ in_to in
          let no : true ≡ false = sym (ap (λ (b : Bool). b && is_within w (dpc_of m)) from_is ∙ to_is) ∙ g in
          absurd cc

  either-false : (a b : Bool) → a ≡ false → b ≡ false → ((a || b) || false) ≡ false
  either-false false b e f = ap (λ (d : Bool). d || false) f
  either-false true b e f = absurd cc

  first-false : (a : Bool) → (a || false) ≡ false → a ≡ false
  first-false false e = refl
  first-false true e = absurd cc

  not-spoken : (from to : ℕ) → is_within w from ≡ true → is_within w to ≡ true → (o : Option Message) → list_any (is_management_within w) (option_to_list o) ≡ false
      → list_any (λ m. is_management_between from to m || is_management_between to from m) (option_to_list o) ≡ false
  not-spoken from to in_from in_to None e = refl
  not-spoken from to in_from in_to (Some m) e =
      let none : is_management_within w m ≡ false = first-false (is_management_within w m) e in
      either-false (is_management_between from to m) (is_management_between to from m) (not-between from to m in_from in_to none) (not-between to from m in_to in_from none)

  none-fine : (from to : ℕ) → is_within w from ≡ true → is_within w to ≡ true → (o : Option Message) (m : Message) → list_any (is_management_within w) (option_to_list o) ≡ false → o ≡ Some m
      → is_fine from to m ≡ true
  none-fine from to in_from in_to None m e f = absurd cc
  none-fine from to in_from in_to (Some k) m e f =
      let none : is_management_within w k ≡ false = first-false (is_management_within w k) e in
      subst (λ (x : Message). is_fine from to x ≡ true) (same-some k m f)
      (fine-both from to k (not-between from to k in_from in_to none) (not-between to from k in_to in_from none))

-- ---- as the pair of two shows it

module _ (t : Terms) (x y : NetworkNode) (p : PairState) (h : ArePairsAlike (pair_between_for t.to_far t.to_near x y) p) (link : ℕ) (e : away x.exchange.settings y.exchange.settings link ≡ true) where
  opened-next : Next t (happens (CameUp link) x) y p
  opened-next = opened-away t x y p h link x.incoming x.following e h.near_alike.incoming h.near_alike.following h.near_alike.following_links

  heard-next : (text : List ℕ) → speaks_for_either (pair_between_for t.to_far t.to_near x y) text ≡ false → Next t (hears link text x) y p
  heard-next text f =
      away-heard t x y p h (Some text) link x.incoming e h.near_alike.incoming
      (λ other g. ap (speaks_for_either (pair_between_for t.to_far t.to_near x y)) (sym (same-some text other g)) ∙ f)

module _ (t : Terms) (near far : ℕ) (apart : near ≢ far) (w : NetworkState) (i : AreWithin near far w) (p : PairState) (h : ArePairsAlike (pair_of_for t.to_far t.to_near w near far) p) where
  abbrev x : NetworkNode
  x = w.node near

  abbrev y : NetworkNode
  y = w.node far

  -- something is done at one node: at either of the two, or at a third
  at-any : (point : ℕ) (change : NetworkNode → NetworkNode) → (point ≡ near → Next t (change x) y p) → (point ≡ far → Next (turned_terms t) (change y) x (turned p))
      → NextOf t near far apart (changed point change w) p
  at-any point change here there =
      ⊎_elim
      (λ (e : point ≡ near). subst (λ (n : ℕ). NextOf t near far apart (changed n change w) p) (sym e) (here-next t near far apart w change p (here e)))
      (λ (d : point ≢ near).
      ⊎_elim
      (λ (e : point ≡ far).
      subst (λ (n : ℕ). NextOf t near far apart (changed n change w) p) (sym e)
      (next-turned t ((changed far change w).node near) ((changed far change w).node far) p
      (here-next (turned_terms t) far near (λ f. apart (sym f)) w change (turned p) (there e))))
      (λ (e : point ≢ far). still-next t near far apart w point change p (λ f. d (sym f)) (λ f. e (sym f)) (idle t x y p h))
      (cases_eq point far))
      (cases_eq point near)

  near-away : (point link : ℕ) → leads_out w point link ≡ true → point ≡ near → away x.exchange.settings y.exchange.settings link ≡ true
  near-away point link out e = out-away w near far link (i.own.own far) i.far_within (ap (λ (n : ℕ). leads_out w n link) (sym e) ∙ out)

  far-away : (point link : ℕ) → leads_out w point link ≡ true → point ≡ far → away y.exchange.settings x.exchange.settings link ≡ true
  far-away point link out e = out-away w far near link (i.own.own near) i.near_within (ap (λ (n : ℕ). leads_out w n link) (sym e) ∙ out)

  pub opens-next : (out : Bool) (point link : ℕ) → leads_out w point link ≡ out → NextOf t near far apart (opens_outside out point link w) p
  opens-next true point link e =
      at-any point (happens (CameUp link)) (λ f. opened-next t x y p h link (near-away point link e f))
      (λ f. opened-next (turned_terms t) y x (turned p) (alike-turned_for t x y p h) link (far-away point link e f))
  opens-next false point link e = idle t x y p h

  named : (o : Option Message) (one other : ℕ) → (w.node one).exchange.settings.own ≡ one → (w.node other).exchange.settings.own ≡ other → is_within w one ≡ true → is_within w other ≡ true
      → list_any (is_management_within w) (option_to_list o) ≡ false
      → list_any (λ m. is_management_between (w.node one).exchange.settings.own (w.node other).exchange.settings.own m || is_management_between (w.node other).exchange.settings.own (w.node one).exchange.settings.own m) (option_to_list o)
      ≡ false
  named o one other e f g k silent =
      not-spoken w (w.node one).exchange.settings.own (w.node other).exchange.settings.own (ap (is_within w) e ∙ g) (ap (is_within w) f ∙ k) o silent

  pub hears-next : (out speaks : Bool) (point link : ℕ) (text : List ℕ) → leads_out w point link ≡ out → speaks_within w text ≡ speaks
      → NextOf t near far apart (hears_outside out speaks point link text w) p
  hears-next true false point link text e s =
      let o : Option Message = carried_message (read_frame text) in
      at-any point (hears link text)
      (λ f. heard-next t x y p h link (near-away point link e f) text (named o near far (i.own.own near) (i.own.own far) i.near_within i.far_within s))
      (λ f. heard-next (turned_terms t) y x (turned p) (alike-turned_for t x y p h) link (far-away point link e f) text (named o far near (i.own.own far) (i.own.own near) i.far_within i.near_within s))
  hears-next true true point link text e s = idle t x y p h
  hears-next false speaks point link text e s = idle t x y p h

-- ---- nobody speaks for another yet

module _ (settings : (point : ℕ) → Configuration) (near far : ℕ) (points : AreTheirPoints settings) (well : AreWellOrAlone settings) (a : AreFacing (settings near) (settings far)) (w : NetworkState)
    (h : IsQuiet settings near far points well a w) where
  abbrev Calm : NetworkState → Type 0
  Calm v = IsQuiet settings near far points well a v

  pub opens-quiet : (out : Bool) (point link : ℕ) → Calm (opens_outside out point link w)
  opens-quiet true point link =
      let x : NetworkNode = w.node point in
      quiet-changed settings near far points well a w point (happens (CameUp link)) h
      (happened settings near far points well a point x.exchange x.incoming (h.each point) (CameUp link) (λ d e f. tt))
  opens-quiet false point link = h

  harmless : AreWithin near far w → (text : List ℕ) → speaks_within w text ≡ false → IsHarmless (fine settings near far points well a) text
  harmless i text e = record {
    carried = λ m f.
        none-fine w (settings near).own (settings far).own (ap (is_within w) (points near) ∙ i.near_within) (ap (is_within w) (points far) ∙ i.far_within)
        (carried_message (read_frame text)) m e f;
  }

  pub hears-quiet : AreWithin near far w → (out speaks : Bool) (point link : ℕ) (text : List ℕ) → speaks_within w text ≡ speaks → Calm (hears_outside out speaks point link text w)
  hears-quiet i true false point link text e =
      let x : NetworkNode = w.node point in
      quiet-changed settings near far points well a w point (hears link text) h
      (delivered settings near far points well a point (Some text) link x.incoming x (h.each point) (h.each point).flying
      (λ t f q. subst (IsHarmless (fine settings near far points well a)) (same-some text t f) (harmless i text e)))
  hears-quiet i true true point link text e = h
  hears-quiet i false speaks point link text e = h

-- ---- steps are moves

pub steps-moves : (steps : List Step) (w : NetworkState) → after_moves (map Within steps) w ≡ after_steps steps w
steps-moves [] w = refl
steps-moves (step ∷ steps) w = steps-moves steps (after_step step w)

-- so what holds after moves holds after steps
pub at-steps : (Statement : PairState → Type 0) → Always Statement → (settings : (point : ℕ) → Configuration) (steps : List Step) (near far : ℕ) → AreTheirPoints settings → AreWellOrAlone settings
    → AreSharing (settings near) (settings far) → Statement (pair_of (after_steps steps (first_network settings)) near far)
at-steps Statement always settings steps near far points well sharing =
    subst (λ (w : NetworkState). Statement (pair_of w near far)) (steps-moves steps (first_network settings)) (always settings (map Within steps) near far points well sharing)
