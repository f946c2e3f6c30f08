-- What comes by links that lead out: one move each.
use Rattle.node_moves.proofs.Basics.{◌≡◌, ◌≢◌, ℕ, zero, suc, Bool, true, false, not, ◌&&◌, ◌||◌, ◌^◌, ◌≤◌, ◌<◌, List, [], ◌∷◌, ◌++◌, length, Ok, Err, Result, count_by, nat_eq, nat_lt, refl, ap, sym, subst, ◌∙◌, arith, nat_tests, if◌then◌else◌, ◌⊎◌, inl, inr, ⊎_elim, cases_eq, ne_eqb, eq-eqb}
use Rattle.node_moves.proofs.Machine.{Side, Near, Far, opposite, Frame, LinkEnd, Line, Network, Shape, turned, seen, Place, line_at, point_at, one_if, saying, Move}
use Rattle.node_moves.proofs.Definitions.{Message, Configuration, dpc_of, opc_of, is_management, service_indicator, testing, peer_of, set_of, Management, MgmtFault, read_management}
use Rattle.node_moves.proofs.Reading.{IsShape, KnowsOutside, place_of, across, other-place, read_says, says_by, says_of, is_long}
use Rattle.node_moves.proofs.Shown.{Shows, IsShown, link-inside, links-apart, at-own}
use Rattle.node_moves.proofs.Codes.{HasCode, read-fits}
use Rattle.node_moves.proofs.World.{IsFlown, AreData, AreStatuses, IsData, IsStatus, Shown, rests, place_at, same-line}
use Rattle.node_moves.proofs.Relining.{across-line}
use Rattle.node_moves.proofs.Flights.{IsSameFlight, same-flight, changed-here, changed-other}
use Rattle.node_moves.proofs.Closed.{each-true}
use Rattle.node_moves.proofs.Ending.{peer-at}
use Rattle.node_moves.specs.Networks.{Fate, NetworkNode, NetworkState, IsNode, is_node, changed, messages_of}
use Rattle.node_moves.specs.Outside.{ArePlaced, is_from_outside, spoofs_nobody, may_come}
use Rattle.exchange_rules.proofs.MadeManagement.{adjacent-fits}
use Rattle.mtp3_codec.specs.declared.management.Management.TheVariants as says
use Rattle.network_moves.specs.Moves as moves
use Rattle.network_moves.specs.Networks.{frames_by, leads_out, spoofs}
use Rattle.network_moves.specs.Returning.{strayed}

-- ---- a message that may come speaks for nobody else

none-if : (b : Bool) → b ≡ false → one_if b ≡ 0
none-if b e = ap one_if e

for-outside : (same out low : Bool) → out ≡ true → low ≡ true → ((not same && not out) || not low) ≡ false
for-outside true true true e f = refl
for-outside false true true e f = refl
for-outside same false low e f = absurd cc
for-outside same true false e f = absurd cc

not-both : (a b : Bool) → not (a && b) ≡ true → (a ≡ false) ⊎ (b ≡ false)
not-both true true e = absurd cc
not-both true false e = inr refl
not-both false b e = inl refl

or-so : (a b : Bool) → b ≡ true → (a || b) ≡ true
or-so true b e = refl
or-so false b e = e

module _ (settings : (point : ℕ) → Configuration) (shape : Shape) (o : IsShape shape) (known : KnowsOutside settings shape) where
  -- a link leads out whose one end is outside
  out-side : (side : Side) (link : ℕ) → shape.outside (shape.point link side) ≡ true → leads_out shape link ≡ true
  out-side Near link e = ap (λ (b : Bool). b || shape.outside (shape.point link Far)) e
  out-side Far link e = or-so (shape.outside (shape.point link Near)) (shape.outside (shape.point link Far)) e

  out-at : (own other slc : ℕ) → own < 2 ^ 14 → other < 2 ^ 14 → slc < 2 ^ 4 → is_node settings own ≡ false → leads_out shape (place_of own other slc).link ≡ true
  out-at own other slc a b d none = out-side (place_of own other slc).side (place_of own other slc).link (ap shape.outside (o.points own other slc a b d) ∙ known.each own none)

  out-between : (opc dpc slc : ℕ) → opc < 2 ^ 14 → dpc < 2 ^ 14 → slc < 2 ^ 4 → not (is_node settings opc && is_node settings dpc) ≡ true → leads_out shape (place_of opc dpc slc).link ≡ true
  out-between opc dpc slc a b d e =
      ⊎_elim
      (λ (from : is_node settings opc ≡ false). out-at opc dpc slc a b d from)
      (λ (to : is_node settings dpc ≡ false).
      ⊎_elim
      (λ (same : opc ≡ dpc). out-at opc dpc slc a b d (ap (is_node settings) same ∙ to))
      (λ (apart : opc ≢ dpc). ap (λ (q : Place). leads_out shape q.link) (sym (other-place opc dpc slc apart)) ∙ out-at dpc opc slc b a d to)
      (cases_eq opc dpc))
      (not-both (is_node settings opc) (is_node settings dpc) e)

  module _ (link : ℕ) (m : Message) where
    about-so : (slc number : ℕ) → slc < 2 ^ 4 → is_from_outside settings m number ≡ true
        → ((not (nat_eq (place_of (opc_of m) (dpc_of m) slc).link link) && not (leads_out shape (place_of (opc_of m) (dpc_of m) slc).link)) || not (nat_lt number (2 ^ 24))) ≡ false
    about-so slc number fits e =
        let two : (not (is_node settings (opc_of m) && is_node settings (dpc_of m)) ≡ true) × (nat_lt number (2 ^ 24) ≡ true) = each-true _ _ e in
        for-outside (nat_eq (place_of (opc_of m) (dpc_of m) slc).link link) (leads_out shape (place_of (opc_of m) (dpc_of m) slc).link) (nat_lt number (2 ^ 24))
        (out-between (opc_of m) (dpc_of m) slc (omega arith) (omega arith) fits two.0) two.1

    word-own : (r : Result Management MgmtFault) → HasCode r → spoofs_nobody settings m r ≡ true → spoofs shape link (read_says (opc_of m) (dpc_of m) r) ≡ false
    word-own (Ok (says.ExtendedChangeoverOrder slc number)) h e = about-so slc number h.fits e
    word-own (Ok (says.ExtendedChangeoverAcknowledgement slc number)) h e = about-so slc number h.fits e
    word-own (Ok (says.EmergencyChangeoverOrder slc)) h e = absurd cc
    word-own (Ok (says.EmergencyChangeoverAcknowledgement slc)) h e = absurd cc
    word-own (Ok (says.ChangebackDeclaration slc code)) h e = refl
    word-own (Ok (says.ChangebackAcknowledgement slc code)) h e = refl
    word-own (Ok (says.TransferProhibited point)) h e = refl
    word-own (Ok (says.TransferRestricted point)) h e = refl
    word-own (Ok (says.TransferAllowed point)) h e = refl
    word-own (Ok (says.RouteSetTestProhibited point)) h e = refl
    word-own (Ok (says.RouteSetTestRestricted point)) h e = refl
    word-own (Ok says.TrafficRestartAllowed) h e = refl
    word-own (Ok (says.UserPartUnavailable point user_part cause)) h e = refl
    word-own (Err fault) h e = refl

    short-of : (a b : Bool) → (not a && b) ≡ true → (a ≡ false) × (b ≡ true)
    short-of true b e = absurd cc
    short-of false b e = (refl, e)

    managed-or : (a b : Bool) → (not a || b) ≡ true → a ≡ true → b ≡ true
    managed-or true b e f = e
    managed-or false b e f = absurd cc

    own-said : (a b d : Bool) → is_long m ≡ a → is_management m ≡ b → nat_eq (service_indicator m) testing ≡ d → may_come settings m ≡ true → spoofs shape link (says_by a b d m) ≡ false
    own-said true b d e f g h = (let s : (is_long m ≡ false) × _ = short-of (is_long m) _ h in let no : true ≡ false = sym e ∙ s.0 in absurd cc)
    own-said false false d e f g h = refl
    own-said false true true e f g h = refl
    own-said false true false e f g h =
        let lowest : nat_eq (service_indicator m) 0 ≡ true = grind (arith, nat_tests, f, g) in
        word-own (read_management m.sif) (read-fits m.sif) (managed-or (nat_eq (service_indicator m) 0) (spoofs_nobody settings m (read_management m.sif)) (short-of (is_long m) _ h).1 lowest)

    pub speaks-own : may_come settings m ≡ true → one_if (saying says_of (spoofs shape link) m) ≡ 0
    unfolding says_of
    speaks-own h = none-if _ (own-said (is_long m) (is_management m) (nat_eq (service_indicator m) testing) refl refl refl h)

-- ---- what is in flight grows

pub data-more : (texts : List (List ℕ)) (frames : List Frame) (text : List ℕ) (frame : Frame) → AreData texts frames → IsData text frame → AreData (texts ++ text ∷ []) (frames ++ frame ∷ [])
data-more [] [] text frame h i = (i, tt)
data-more [] (f ∷ frames) text frame h i = absurd h
data-more (t ∷ texts) [] text frame h i = absurd h
data-more (t ∷ texts) (f ∷ frames) text frame h i = (h.0, data-more texts frames text frame h.1 i)

pub statuses-more : (texts : List (List ℕ)) (many : ℕ) (text : List ℕ) → AreStatuses texts many → IsStatus text → AreStatuses (texts ++ text ∷ []) (suc many)
statuses-more [] zero text h i = (i, tt)
statuses-more [] (suc many) text h i = absurd h
statuses-more (t ∷ texts) zero text h i = absurd h
statuses-more (t ∷ texts) (suc many) text h i = (h.0, statuses-more texts many text h.1 i)

seen-twice : (side : Side) (z : Line) → seen side (seen side z) ≡ z
seen-twice Near z = refl
seen-twice Far z = refl

turned-seen : (side : Side) (z : Line) → seen side (turned z) ≡ seen (opposite side) z
turned-seen Near z = refl
turned-seen Far z = refl

-- ---- something comes to a node on a link that leads out

module _ (settings : (point : ℕ) → Configuration) (t : ArePlaced settings) (shape : Shape) (o : IsShape shape) (w : NetworkState) (p : Network) (s : Shown settings t w p) (x link : ℕ) (fx : IsNode settings x)
    (inside : link < length (settings x).links) (out : is_node settings (peer_of (settings x) link) ≡ false) where
  abbrev c : Configuration
  c = settings x

  abbrev its : Place
  its = place_at settings t x link

  abbrev there : Place
  there = across its

  -- so much is left in flight to the node, and this is new
  pub record Comes_so (f : NetworkNode → NetworkNode) : Type 0 where
    pub left : List Frame
    pub fewer : (test : Message → Bool) → frames_by test left ≤ frames_by test (line_at p its).to_near
    pub new : List Frame
    pub own : frames_by (saying says_of (spoofs shape its.link)) new ≡ 0
    pub told : ℕ
    pub follows : Bool
    pub user_data : AreData ((f (w.node x)).user_data link) (left ++ new)
    pub statuses : AreStatuses ((f (w.node x)).statuses link) told
    pub may_follow : (f (w.node x)).follows link ≡ follows
    pub came : (f (w.node x)).came ≡ (w.node x).came
    pub others : (l : ℕ) → l ≢ link → IsSameFlight (w.node x) (f (w.node x)) l
    pub rests_same : rests settings t (f (w.node x)) ≡ rests settings t (w.node x)

  module _ (f : NetworkNode → NetworkNode) (h : Comes_so f) where
    abbrev z : Line
    z = turned (strayed (line_at p there) (h.left ++ h.new) h.told h.follows)

    abbrev pub outside_of : Network
    outside_of = record p {
      line = λ i. if nat_eq i its.link then seen its.side z else p.line i;
      broken = λ i. if nat_eq i (point_at shape there) then true else p.broken i;
    }

    back : line_at p there ≡ turned (line_at p its)
    back = across-line p its

    line-here : line_at outside_of its ≡ z
    line-here = ap (λ (b : Bool). seen its.side (if b then seen its.side z else p.line its.link)) (eq-eqb its.link its.link refl) ∙ seen-twice its.side z

    line-other : (q : Place) → q.link ≢ its.link → line_at outside_of q ≡ line_at p q
    line-other q d = ap (λ (b : Bool). seen q.side (if b then seen its.side z else p.line q.link)) (ne_eqb q.link its.link d)

    -- no other node has a link there
    alone : (y l : ℕ) → IsNode settings y → l < length (settings y).links → y ≢ x → (place_at settings t y l).link ≢ its.link
    alone y l fy il d same =
        ⊎_elim
        (λ (e : (y ≡ x) × (l ≡ link)). d e.0)
        (λ (e : place_at settings t y l ≡ there).
        let is : y ≡ peer_of c link = sym (t.own y fy) ∙ sym (at-own shape o (settings y) (t.well y fy) l) ∙ ap (point_at shape) e ∙ peer-at settings t shape o x link fx in
        let no : true ≡ false = sym fy ∙ ap (is_node settings) is ∙ out in
        absurd cc)
        (same-line settings t x link y l fx fy inside il same)

    near-same : (y l : ℕ) → IsNode settings y → l < length (settings y).links → (line_at outside_of (place_at settings t y l)).near ≡ (line_at p (place_at settings t y l)).near
    near-same y l fy il =
        ⊎_elim
        (λ (same : y ≡ x).
        subst (λ (i : ℕ). l < length (settings i).links → (line_at outside_of (place_at settings t i l)).near ≡ (line_at p (place_at settings t i l)).near) (sym same)
        (λ ix.
        ⊎_elim
        (λ (e : l ≡ link).
        subst (λ (j : ℕ). (line_at outside_of (place_at settings t x j)).near ≡ (line_at p (place_at settings t x j)).near) (sym e) (ap (λ (g : Line). g.near) line-here ∙ ap (λ (g : Line). g.far) back))
        (λ (d : l ≢ link). ap (λ (g : Line). g.near) (line-other (place_at settings t x l) (links-apart c (t.well x fx) link l inside ix d)))
        (cases_eq l link)) il)
        (λ (d : y ≢ x). ap (λ (g : Line). g.near) (line-other (place_at settings t y l) (alone y l fy il d)))
        (cases_eq y x)

    abbrev v : NetworkState
    v = changed x f w

    is-here : v.node x ≡ f (w.node x)
    is-here = changed-here x f w

    rests-same : (y : ℕ) → rests settings t (v.node y) ≡ rests settings t (w.node y)
    rests-same y =
        ⊎_elim
        (λ (same : y ≡ x). subst (λ (i : ℕ). rests settings t (v.node i) ≡ rests settings t (w.node i)) (sym same) (ap (rests settings t) is-here ∙ h.rests_same))
        (λ (d : y ≢ x). ap (rests settings t) (changed-other x f w y d))
        (cases_eq y x)

    flown-here : (l : ℕ) → l < length c.links → IsFlown (f (w.node x)) l (line_at outside_of (place_at settings t x l))
    flown-here l il =
        ⊎_elim
        (λ (e : l ≡ link).
        subst (λ (j : ℕ). IsFlown (f (w.node x)) j (line_at outside_of (place_at settings t x j))) (sym e)
        (subst (IsFlown (f (w.node x)) link) (sym line-here) (record {
          user_data = h.user_data;
          statuses = h.statuses;
          follows = h.may_follow;
          came = λ test.
              ap (λ (g : Line). count_by test g.near.came) back ∙ (s.flown x link fx inside).came test ∙ ap (λ (b : ℕ → List Fate). count_by test (messages_of (b link))) (sym h.came);
        })))
        (λ (d : l ≢ link).
        subst (IsFlown (f (w.node x)) l) (sym (line-other (place_at settings t x l) (links-apart c (t.well x fx) link l inside il d)))
        (same-flight (w.node x) (f (w.node x)) l (line_at p (place_at settings t x l)) (h.others l d) (s.flown x l fx il)))
        (cases_eq l link)

    pub outside-shown : Shown settings t v outside_of
    outside-shown = record {
      nodes = λ y fy.
          subst (Shows (settings y) outside_of) (sym (rests-same y))
          (let g : Shows (settings y) p (rests settings t (w.node y)) = s.nodes y fy in
          record { sized = g.sized; ends = λ l k. subst (λ (e : LinkEnd). IsShown (w.node y).node l e) (sym (near-same y l fy k)) (g.ends l k); booked = g.booked });
      flown = λ y l fy k.
          ⊎_elim
          (λ (same : y ≡ x).
          subst (λ (i : ℕ). l < length (settings i).links → IsFlown (v.node i) l (line_at outside_of (place_at settings t i l))) (sym same)
          (λ ix. subst (λ (e : NetworkNode). IsFlown e l (line_at outside_of (place_at settings t x l))) (sym is-here) (flown-here l ix)) k)
          (λ (d : y ≢ x).
          subst (λ (e : NetworkNode). IsFlown e l (line_at outside_of (place_at settings t y l))) (sym (changed-other x f w y d))
          (subst (IsFlown (w.node y) l) (sym (line-other (place_at settings t y l) (alone y l fy k d))) (s.flown y l fy k)))
          (cases_eq y x);
      idle = λ i unused. ap (λ (b : Bool). if b then seen its.side z else p.line i) (ne_eqb i its.link (λ same. unused x link fx inside (sym same))) ∙ s.idle i unused;
    }

    pub outside-move : Move shape says_of p outside_of
    outside-move = moves.strays (record {
      place = there;
      left = h.left;
      fewer = λ test. subst (λ (g : Line). frames_by test h.left ≤ frames_by test g.to_far) (sym back) (h.fewer test);
      new = h.new;
      own = h.own;
      told_far = h.told;
      follows = h.follows;
      after = record {
        inside = subst (λ (i : ℕ). i < shape.nodes) (sym (peer-at settings t shape o x link fx)) (o.nodes (peer_of c link) (adjacent-fits c (t.well x fx) (set_of c link)));
        lines = record {
          inside = link-inside shape o c (t.well x fx) link;
          here = ap (λ (b : Bool). if b then seen its.side z else p.line its.link) (eq-eqb its.link its.link refl) ∙ turned-seen its.side (strayed (line_at p there) (h.left ++ h.new) h.told h.follows);
          others = λ i d. ap (λ (b : Bool). if b then seen its.side z else p.line i) (ne_eqb i its.link d);
        };
        here = refl;
        others = λ i d. refl;
        broken = ap (λ (b : Bool). if b then true else p.broken (point_at shape there)) (eq-eqb (point_at shape there) (point_at shape there) refl);
        others_broken = λ i d. ap (λ (b : Bool). if b then true else p.broken i) (ne_eqb i (point_at shape there) d);
      };
    })

    pub outside-broken : (i : ℕ) → IsNode settings i → outside_of.broken i ≡ p.broken i
    outside-broken i fi =
        ap (λ (b : Bool). if b then true else p.broken i)
        (ne_eqb i (point_at shape there) (λ same. (let no : true ≡ false = sym fi ∙ ap (is_node settings) (same ∙ peer-at settings t shape o x link fx) ∙ out in absurd cc)))
