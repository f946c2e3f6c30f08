-- What came to a node stays in its books: so what tells of no route in the end told of none before.
use Rattle.pair_rules.proofs.Basics.{◌≡◌, ◌≢◌, ◌||◌, ℕ, Bool, true, false, List, [], ◌∷◌, ◌++◌, map, option_to_list, append-nil, Option, Some, refl, ap, sym, subst, ◌∙◌, nat_eq, slice_get, if◌then◌else◌, ⊎_elim, cases_eq}
use Rattle.std.specs.List.{list_any}
use Rattle.std.proofs.lemmas.List.Folds.{list_any-append}
use Rattle.pair_rules.proofs.Definitions.{Message, Configuration, CameUp, new_message, in_flight}
use Rattle.pair_rules.specs.Pairs as doing
use Rattle.pair_rules.specs.Pairs.{without_data}
use Rattle.neighbour_rules.specs.Beyond.{tells_of}
use Rattle.network_rules.specs.Networks.{Arrival, NetworkNode, NetworkState, Step, after_step, changed, deliver_frame, did_here, happens}
use Rattle.network_rules.specs.Outside.{HearsOutside, Move, OpensOutside, Within, after_move, after_moves, hears, hears_outside, leads_out, opens_outside, speaks_within}
use Rattle.network_rules.specs.Pairs.{came_from}
use Rattle.network_rules.specs.Hops.{HearsOfNoRoute}
use Rattle.network_rules.proofs.Alike.{away}
use Rattle.network_rules.proofs.Nodes.{by_link, came-here, came-more}
use Rattle.network_rules.proofs.Outside.{move-keeps}
use Rattle.network_rules.proofs.Turns.{Turn, comes, enters, goes_out, idles, occurs, opens, others-of, turn-of}

-- ---- this more came

record HasMore (x y : NetworkNode) : Type 0 where
  more : List Arrival
  is : y.arrived ≡ x.arrived ++ more

none-more : (x y : NetworkNode) → y.arrived ≡ x.arrived → HasMore x y
none-more x y e = record { more = []; is = e ∙ sym (append-nil x.arrived) }

turn-more : (w v : NetworkState) (point : ℕ) → Turn w v point → HasMore (w.node point) (v.node point)
turn-more w v point (idles s) = none-more _ _ s.arrived
turn-more w v point (goes_out link s) = none-more _ _ s.arrived
turn-more w v point (occurs what plain s) = none-more _ _ s.arrived
turn-more w v point (enters m s) = none-more _ _ s.arrived
turn-more w v point (opens link f s) = none-more _ _ s.arrived
turn-more w v point (comes link text left f s) = record { more = map (by_link link) (option_to_list (new_message link text (w.node point).exchange)); is = s.arrived }

step-more : (step : Step) (w : NetworkState) (other : ℕ) → HasMore (w.node other) ((after_step step w).node other)
step-more step w other =
    ⊎_elim
    (λ (same : other ≡ step.point).
    subst (λ (n : ℕ). HasMore (w.node n) ((after_step step w).node n)) (sym same) (turn-more w (after_step step w) step.point (turn-of step.point w step.what)))
    (λ (apart : other ≢ step.point). none-more _ _ (others-of step.point w other apart step.what).arrived)
    (cases_eq other step.point)

changed-more : (point : ℕ) (change : NetworkNode → NetworkNode) (w : NetworkState) (other : ℕ) → HasMore (w.node other) (change (w.node other)) → HasMore (w.node other) ((changed point change w).node other)
changed-more point change w other more = by (nat_eq other point)
  where
    by : (b : Bool) → HasMore (w.node other) (if b then change (w.node other) else w.node other)
    by true = more
    by false = none-more _ _ refl

opened-more : (out : Bool) (point link : ℕ) (w : NetworkState) (other : ℕ) → HasMore (w.node other) ((opens_outside out point link w).node other)
opened-more true point link w other = changed-more point (happens (CameUp link)) w other (none-more _ _ refl)
opened-more false point link w other = none-more _ _ refl

outside-more : (out speaks : Bool) (point link : ℕ) (text : List ℕ) (w : NetworkState) (other : ℕ) → HasMore (w.node other) ((hears_outside out speaks point link text w).node other)
outside-more true false point link text w other =
    changed-more point (hears link text) w other (record { more = map (by_link link) (option_to_list (new_message link text (w.node other).exchange)); is = refl })
outside-more true true point link text w other = none-more _ _ refl
outside-more false speaks point link text w other = none-more _ _ refl

move-more : (move : Move) (w : NetworkState) (other : ℕ) → HasMore (w.node other) ((after_move move w).node other)
move-more (Within step) w other = step-more step w other
move-more (OpensOutside point link) w other = opened-more (leads_out w point link) point link w other
move-more (HearsOutside point link text) w other = outside-more (leads_out w point link) (speaks_within w text) point link text w other

-- ---- what tells of no route

first-false : (a b : Bool) → (a || b) ≡ false → a ≡ false
first-false false b e = refl
first-false true b e = absurd cc

last-false : (a b : Bool) → (a || (b || false)) ≡ false → b ≡ false
last-false false false e = refl
last-false false true e = absurd cc
last-false true b e = absurd cc

module _ (route : ℕ) where
  abbrev tells : List Message → Bool
  tells ms = list_any (tells_of route) ms

  before : (c z : Configuration) (came more : List Arrival) → tells (came_from c z (came ++ more)) ≡ false → tells (came_from c z came) ≡ false
  before c z came more e =
      first-false (tells (came_from c z came)) (tells (came_from c z more))
      (sym (list_any-append (tells_of route) (came_from c z came) (came_from c z more)) ∙ sym (ap tells (came-more c z came more)) ∙ e)

  module _ (near far : ℕ) where
    abbrev pub Hears : NetworkState → Type 0
    Hears w = HearsOfNoRoute route (w.node near) (w.node far)

    move-before : (move : Move) (w : NetworkState) → Hears (after_move move w) → Hears w
    move-before move w told =
        let v : NetworkState = after_move move w in
        let c : Configuration = (w.node near).exchange.settings in
        let z : Configuration = (w.node far).exchange.settings in
        let h : HasMore (w.node near) (v.node near) = move-more move w near in
        before c z (w.node near).arrived h.more
        (sym (ap (λ (arrivals : List Arrival). tells (came_from c z arrivals)) h.is)
        ∙ sym (ap (λ (s : Configuration). tells (came_from s z (v.node near).arrived)) (move-keeps move w near))
        ∙ sym (ap (λ (s : Configuration). tells (came_from (v.node near).exchange.settings s (v.node near).arrived)) (move-keeps move w far))
        ∙ told)

    pub moves-before : (moves : List Move) (w : NetworkState) → Hears (after_moves moves w) → Hears w
    moves-before [] w told = told
    moves-before (move ∷ moves) w told = move-before move w (moves-before moves (after_move move w) told)

  -- nor does a message that was newly carried
  module _ (link : ℕ) (x y : NetworkNode) (between : away x.exchange.settings y.exchange.settings link ≡ false) (text : List ℕ)
      (next : slice_get (in_flight x.incoming.user_data link) 0 ≡ Some text) (m : Message) (new : new_message link text x.exchange ≡ Some m) where
    abbrev c : Configuration
    c = x.exchange.settings

    abbrev z : Configuration
    z = y.exchange.settings

    abbrev came : Option Message → List Arrival
    came o = x.arrived ++ map (by_link link) (option_to_list o)

    pub none-told : HearsOfNoRoute route (did_here (doing.Delivers link) x) y → tells_of route m ≡ false
    none-told told =
        let heard : tells (came_from c z (came (new_message link text x.exchange))) ≡ false =
        subst (λ (o : Option (List ℕ)). HearsOfNoRoute route (deliver_frame o link (without_data link x.incoming) x) y) next told in
        last-false (tells (came_from c z x.arrived)) (tells_of route m)
        (sym (list_any-append (tells_of route) (came_from c z x.arrived) (m ∷ []))
        ∙ sym (ap (λ (ms : List Message). tells (came_from c z x.arrived ++ ms)) (came-here c z link (m ∷ []) between))
        ∙ sym (ap tells (came-more c z x.arrived (map (by_link link) (m ∷ []))))
        ∙ sym (ap (λ (o : Option Message). tells (came_from c z (came o))) new)
        ∙ heard)
