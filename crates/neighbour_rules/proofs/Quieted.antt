-- What the machine of moves shows of a quiet pair is quiet.
use Rattle.pair_rules.proofs.Basics.{◌⊎◌, inl, inr, ◌≡◌, ◌<◌, ◌≤◌, ◌&&◌, ◌||◌, ℕ, Bool, true, false, not, List, [], ◌∷◌, length, nat_eq, if◌then◌else◌, refl, ap, sym, subst, ◌∙◌, arith, ⊎_elim, cases_lt, get_or_past, and_parts}
use Rattle.pair_rules.proofs.Definitions.{WINDOW, Message, dpc_of, is_management, Saying, is_outstanding, Configuration, Queue, IsQueue, Standing, no_changeover, may_restart, Link, down_link, is_down, Node, Fits, WholeQueues, queue_at, down, link_at, changeover_of, MayOpen, PairState, may_follow, may_open_at, turned}
use Rattle.std.specs.List.{list_any}
use Rattle.pair_moves.specs.Passing.{without_others}
use Rattle.pair_moves.specs.Sayings.{Other, is_other}
use Rattle.pair_moves.specs.Quiet.{IsClosed, IsIdle, IsQuiet}
use Rattle.pair_rules.proofs.Deliveries.{serving-up}
use Rattle.pair_rules.proofs.Opening.{may_open-at}
use Rattle.pair_rules.proofs.World.{Flying, end_of}
use Rattle.pair_rules.proofs.Standing.{rests, world_of}
use Rattle.neighbour_rules.specs.Anew.{IsQuietEnd, IsQuietPair, begun_anew, is_between}
use Rattle.neighbour_rules.specs.Neighbours.{is_management_between}
use Rattle.neighbour_rules.proofs.Counted.{Base, Counts}
use Rattle.neighbour_rules.proofs.World.{link_at_code, reading, route_of, says-alike, says_by, says_of, shown, side_by}
use Rattle.neighbour_rules.proofs.Lines.{at-line}
use Rattle.neighbour_rules.proofs.Asked.{IsAsked}
use Rattle.neighbour_rules.proofs.Staying.{with_settings}
use Rattle.neighbour_rules.proofs.Sharing.{AreFacing, facing_back, near_joint}
use Rattle.neighbour_rules.proofs.FarEnds.{HasEnd, has-end}
use Rattle.neighbour_rules.proofs.Bases.{are-based, none-queued}

never : {A : Type 0} (b : Bool) → b ≡ true → b ≡ false → A
never b e f = (let no : true ≡ false = sym e ∙ f in absurd cc)

-- no window is wider than the widest
widest : (w : ℕ) (q : Queue) → IsQueue w q → IsQueue WINDOW q
widest w q h = record { confirmed = h.confirmed; sent = h.sent; window = omega (arith, h.window, h.limit); limit = omega arith }

-- what isn't between the two says nothing to either
says-nothing : (b to_one to_two to there back : Bool) (m : Message) → (to ≡ true → (to_one || to_two) ≡ true) → ((not b && to_one) || (not b && to_two) || there || back) ≡ false
    → says_by b (there || back) to m ≡ Other
says-nothing true to_one to_two to true back m its e = absurd cc
says-nothing true to_one to_two to false true m its e = absurd cc
says-nothing true to_one to_two to false false m its e = refl
says-nothing false true to_two to there back m its e = absurd cc
says-nothing false false true to there back m its e = absurd cc
says-nothing false false false false there back m its e = refl
says-nothing false false false true there back m its e = (let no : false ≡ true = its refl in absurd cc)

either-of : (one two point k : ℕ) → (point ≡ one) ⊎ (point ≡ two) → nat_eq k point ≡ true → (nat_eq k one || nat_eq k two) ≡ true
either-of one two point k (inl same) e = ap (λ (b : Bool). b || nat_eq k two) (ap (nat_eq k) (sym same) ∙ e)
either-of one two point k (inr same) e = ap (λ (b : Bool). nat_eq k one || b) (ap (nat_eq k) (sym same) ∙ e) ∙ or-true (nat_eq k one)
  where
    or-true : (b : Bool) → (b || true) ≡ true
    or-true true = refl
    or-true false = refl

none-between : (one two point : ℕ) → (point ≡ one) ⊎ (point ≡ two) → (ms : List Message) → list_any (is_between one two) ms ≡ false → without_others (says_of one two point) ms ≡ []
none-between one two point its [] e = refl
none-between one two point its (m ∷ ms) e = by (is_between one two m) refl e (none-between one two point its ms)
  where
    by : (b : Bool) → is_between one two m ≡ b → (b || list_any (is_between one two) ms) ≡ false → (list_any (is_between one two) ms ≡ false → without_others (says_of one two point) ms ≡ [])
        → (if not (is_other (says_of one two point m)) then m ∷ without_others (says_of one two point) ms else without_others (says_of one two point) ms) ≡ []
    by true f g rest = absurd cc
    by false f g rest =
        ap (λ (s : Saying). if not (is_other s) then m ∷ without_others (says_of one two point) ms else without_others (says_of one two point) ms)
        (says-nothing (is_management m) (nat_eq (dpc_of m) one) (nat_eq (dpc_of m) two) (nat_eq (dpc_of m) point) (is_management_between one two m) (is_management_between two one m) m
        (either-of one two point (dpc_of m) its) f)
        ∙ rest g

module _ (c z : Configuration) (a : AreFacing c z) (q : PairState) (fits : Fits c q.near.exchange.node)
    (asked : IsAsked c (with_settings c z q).near.exchange) (flags : length q.near.following ≡ length c.links) (quiet : IsQuietEnd (with_settings c z q)) where
  abbrev p : PairState
  p = with_settings c z q

  abbrev n : Node WholeQueues
  n = p.near.exchange.node

  abbrev own : ℕ → ℕ
  own code = link_at_code c a.near_set code

  -- ---- the link with a code, or none

  past-may : (link : ℕ) → length c.links ≤ link → may_open_at p.near link ≡ true
  past-may link l =
      ap (λ (x : Link). is_down x.alignment && may_restart (changeover_of n.parts link))
      (get_or_past n.parts.links link down_link (subst (λ (k : ℕ). k ≤ link) (sym fits.places.parts.links) l))
      ∙ ap (λ (x : Standing). true && may_restart x)
      (get_or_past n.parts.changeovers link no_changeover (subst (λ (k : ℕ). k ≤ link) (sym fits.places.parts.changeovers) l))

  ends-may : (code : ℕ) → own code < length c.links → (may_open_at p.near (own code) ≡ true) × (may_follow p.near (own code) ≡ false)
  ends-may code l =
      let h : HasEnd c z (near_joint c z a) (own code) = has-end c z (near_joint c z a) (own code) l (at-line c a.near_well a.near_set (own code) code l refl).of_set in
      quiet.links (own code) h.other h.is

  may : (code : ℕ) → may_open_at p.near (own code) ≡ true
  may code = ⊎_elim (λ (l : own code < length c.links). (ends-may code l).0) (λ (l : length c.links ≤ own code). past-may (own code) l) (cases_lt (own code) (length c.links))

  pub follows-not : (code : ℕ) → may_follow p.near (own code) ≡ false
  follows-not code =
      ⊎_elim (λ (l : own code < length c.links). (ends-may code l).1)
      (λ (l : length c.links ≤ own code). get_or_past p.near.following (own code) false (subst (λ (k : ℕ). k ≤ own code) (sym flags) l))
      (cases_lt (own code) (length c.links))

  pub closed : (code : ℕ) → IsClosed (end_of n (own code))
  closed code =
      let link : ℕ = own code in
      let m : MayOpen (end_of n link) = may_open-at n link (may code) in
      record {
        may_open = m;
        end = record {
          queue = widest c.window (queue_at n.queues link) (fits.queues.each link);
          base = (are-based c p.near.exchange a.near_well asked).each link;
          serving = λ e. ap not (serving-up (link_at n.parts link).alignment e);
          incomplete = λ e. never (changeover_of n.parts link).incomplete e m.complete;
          awaited = λ e. never (changeover_of n.parts link).awaited e m.unawaited;
          idle = λ e.
              none-queued c p.near.exchange a.near_well asked link (and_parts (down n.parts link) (may_restart (changeover_of n.parts link)) (may code)).0 m.complete;
        };
      }

  -- ---- its lists are empty

  pub idle : (there : ℕ) → there ≡ z.own → (counts : Counts) (given_up : ℕ → Bool) → ((code : ℕ) → is_outstanding n.parts.codes a.near_set code ≡ given_up code)
      → IsIdle (says_of c.own z.own there) (side_by c there a.near_set counts given_up (route_of c there a.near_set n.parts) (rests (begun_anew p).near))
  idle there own counts given_up given = record {
    accepted = refl;
    received = refl;
    arrived = refl;
    held = none-between c.own z.own there (inr own) n.queues.held quiet.held;
    loose = refl;
    codes = given;
  }

-- ---- both ends

pub quiet-shown : (c z : Configuration) (a : AreFacing c z) (q : PairState) → Fits c q.near.exchange.node → Fits z q.far.exchange.node
    → IsAsked c (with_settings c z q).near.exchange → IsAsked z (with_settings c z q).far.exchange → length q.near.following ≡ length c.links → length q.far.following ≡ length z.links
    → IsQuietPair (with_settings c z q) → (base : Base) → base.there ≡ z.own → base.back ≡ c.own → ((code : ℕ) → is_outstanding q.near.exchange.node.parts.codes a.near_set code ≡ base.near_given_up code)
    → ((code : ℕ) → is_outstanding q.far.exchange.node.parts.codes a.far_set code ≡ base.far_given_up code) → (f g : Flying) → IsQuiet (reading c.own z.own base) (shown c z a.near_set a.far_set base (world_of (begun_anew (with_settings c z q)) f g))
quiet-shown c z a q fits far_fits asked far_asked flags far_flags quiet base there_own back_own given far_given f g =
    let back : AreFacing z c = facing_back c z a in
    record {
      lines = λ code. record {
        near = closed c z a q fits asked flags quiet.there code;
        far = closed z c back (turned q) far_fits far_asked far_flags quiet.back code;
        near_alone = follows-not c z a q fits asked flags quiet.there code;
        far_alone = follows-not z c back (turned q) far_fits far_asked far_flags quiet.back code;
      };
      near = idle c z a q fits asked flags quiet.there base.there there_own base.near base.near_given_up given;
      far =
          subst (λ (read : Message → Saying). IsIdle read (side_by z base.back a.far_set base.far base.far_given_up (route_of z base.back a.far_set q.far.exchange.node.parts) (rests (begun_anew (with_settings c z q)).far)))
          (says-alike z.own c.own base.back) (idle z c back (turned q) far_fits far_asked far_flags quiet.back base.back back_own base.far base.far_given_up far_given);
    }
