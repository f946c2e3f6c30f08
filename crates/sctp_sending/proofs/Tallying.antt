-- What is counted along, after each change.
use Rattle.std.proofs.Common.{◌≡◌, ℕ, zero, suc, Bool, true, false, cond, ◌||◌, ◌+◌, ◌-◌, ◌*◌, ◌<◌, ◌≤◌, List, length, take, drop, Some, None, refl, sym, ap, ◌∙◌, arith}
use Rattle.std.specs.Prelude.{All, sum_by}
use Rattle.std.proofs.Math.ListN.{set}
use Rattle.std.proofs.lemmas.List.{length-take, length-take-le, get_or-set_same, get_or-take, length-set, set-append_left, take-append-drop, take-append-le, take_all, drop-take}
use Rattle.std.proofs.lemmas.List.Elements.{All-take, All-set, All-weaker, All-get_or}
use Rattle.std.proofs.lemmas.List.Sums.{sum_by-set, get_or-le-sum_by, sum_by-le, sum_by_more, sum_by-drop_more}
use Rattle.sctp_sending.specs.Outgoing.{Outgoing, outgoing_at, octets_of, under_way_of, newly_confirmed_of, passed_over, lost_from}
use Rattle.sctp_sending.specs.declared.tally.Tally.{Tally}
use Rattle.sctp_sending.proofs.Windows.{blank}
use Rattle.sctp_sending.specs.Tallies.{one_if, lost_of, named_of, tally_of, tally_with, tally_without}

-- a write among the first messages is one to the list of these
take-set-among : (xs : List Outgoing) (went place : ℕ) (o : Outgoing) → place < went → went ≤ length xs → take went (set xs place o) ≡ set (take went xs) place o
take-set-among xs went place o b m =
    let long = length-take-le went xs m in
    let whole = ap (λ (ys : List Outgoing). take went (set ys place o)) (sym (take-append-drop went xs)) in
    let front = ap (take went) (set-append_left (take went xs) (drop went xs) place o (omega (arith, b, long))) in
    let back = take-append-le went (set (take went xs) place o) (drop went xs) (omega (arith, long, length-set (take went xs) place o)) in
    let all = take_all went (set (take went xs) place o) (omega (arith, long, length-set (take went xs) place o)) in
    whole ∙ front ∙ back ∙ all

-- a sum over them
pub sum-among : (f : Outgoing → ℕ) (xs : List Outgoing) (went place : ℕ) (o : Outgoing) → place < went → went ≤ length xs
    → sum_by f (take went (set xs place o)) + f (outgoing_at xs place) ≡ sum_by f (take went xs) + f o
sum-among f xs went place o b m =
    let long = length-take-le went xs m in
    let e = ap (sum_by f) (take-set-among xs went place o b m) in
    let s = sum_by-set f (take went xs) place o blank (omega (arith, b, long)) in
    let read = ap f (get_or-take went xs place blank b) in
    omega (arith, e, s, read)

pub among-le : (f : Outgoing → ℕ) (xs : List Outgoing) (went place : ℕ) → place < went → went ≤ length xs → f (outgoing_at xs place) ≤ sum_by f (take went xs)
among-le f xs went place b m =
    let long = length-take-le went xs m in
    let least = get_or-le-sum_by f (take went xs) place blank (omega (arith, b, long)) in
    let read = ap f (get_or-take went xs place blank b) in
    omega (arith, least, read)

pub tally-changed : (xs : List Outgoing) (went place : ℕ) (o : Outgoing) → place < went → went ≤ length xs
    → tally_with (tally_without (tally_of (take went xs)) (outgoing_at xs place)) o ≡ tally_of (take went (set xs place o))
tally-changed xs went place o b m =
    let octets : sum_by under_way_of (take went xs) - under_way_of (outgoing_at xs place) + under_way_of o ≡ sum_by under_way_of (take went (set xs place o)) = omega (arith, sum-among under_way_of xs went place o b m, among-le under_way_of xs went place b m) in
    let lost : sum_by lost_of (take went xs) - lost_of (outgoing_at xs place) + lost_of o ≡ sum_by lost_of (take went (set xs place o)) = omega (arith, sum-among lost_of xs went place o b m, among-le lost_of xs went place b m) in
    let named : sum_by named_of (take went xs) - named_of (outgoing_at xs place) + named_of o ≡ sum_by named_of (take went (set xs place o)) = omega (arith, sum-among named_of xs went place o b m, among-le named_of xs went place b m) in
    rw (octets, lost, named)

-- a message was changed, and taken out and in again
pub renewed : (old new : List Outgoing) (went place : ℕ) (o before after : Outgoing) (t u v : Tally) → place < went → went ≤ length old
    → new ≡ set old place o → before ≡ outgoing_at old place → after ≡ outgoing_at new place
    → t ≡ tally_of (take went old) → u ≡ tally_without t before → v ≡ tally_with u after → v ≡ tally_of (take went new)
renewed old new went place o before after t u v b m en eb ea et eu ev =
    let same = get_or-set_same old place o blank (omega (arith, b, m)) in
    let last : after ≡ o = ea ∙ ap (λ (xs : List Outgoing). outgoing_at xs place) en ∙ same in
    let first : u ≡ tally_without (tally_of (take went old)) (outgoing_at old place) = eu ∙ ap (λ (w : Tally). tally_without w before) et ∙ ap (tally_without (tally_of (take went old))) eb in
    ev ∙ ap (λ (w : Tally). tally_with w after) first ∙ ap (tally_with (tally_without (tally_of (take went old)) (outgoing_at old place))) last
    ∙ tally-changed old went place o b m ∙ ap (λ (xs : List Outgoing). tally_of (take went xs)) (sym en)

-- what is counted is small
one_if-le : (mark : Bool) → one_if mark ≤ 1
one_if-le true = omega arith
one_if-le false = omega arith

none_or_all : (b : Bool) (n : ℕ) → cond b 0 n ≤ n
none_or_all true n = omega arith
none_or_all false n = omega arith

under_way-le : (o : Outgoing) → under_way_of o ≤ octets_of o
under_way-le o = none_or_all (o.named || o.lost) (octets_of o)

pub record IsSmall (t : Tally) : Type 0 where
  pub under_way : t.under_way ≤ 256 * 290
  pub lost : t.lost ≤ 256
  pub named : t.named ≤ 256

pub tally-small : (out : List Outgoing) (went : ℕ) (t : Tally) → t ≡ tally_of (take went out) → All (λ o. octets_of o ≤ 290) out → length out ≤ 256 → IsSmall t
tally-small out went t e short m =
    let front = take went out in
    let long : length front ≤ 256 = omega (arith, m, length-take went out) in
    let each : All (λ o. under_way_of o ≤ 290) front = All-weaker (λ o. octets_of o ≤ 290) (λ o. under_way_of o ≤ 290) (λ o h. omega (arith, h, under_way-le o)) front (All-take (λ o. octets_of o ≤ 290) went out short) in
    let octets = sum_by-le under_way_of 290 front each in
    let lost = sum_by-le lost_of 1 front (λ k d h. one_if-le _) in
    let named = sum_by-le named_of 1 front (λ k d h. one_if-le _) in
    record {
      under_way = omega (arith, octets, long, ap (λ (w : Tally). w.under_way) e);
      lost = omega (arith, lost, long, ap (λ (w : Tally). w.lost) e);
      named = omega (arith, named, long, ap (λ (w : Tally). w.named) e);
    }

-- a message that is changed keeps its octets
pub short-changed : (old new : List Outgoing) (place : ℕ) (f : Outgoing → Outgoing) → ((o : Outgoing) → octets_of (f o) ≡ octets_of o) → place < length old
    → new ≡ set old place (f (outgoing_at old place)) → All (λ o. octets_of o ≤ 290) old → All (λ o. octets_of o ≤ 290) new
short-changed old new place f keeps b e short =
    rw e (All-set (λ o. octets_of o ≤ 290) old place (f (outgoing_at old place)) (omega (arith, keeps (outgoing_at old place), All-get_or (λ o. octets_of o ≤ 290) old place blank b short)) short)

kept_octets : (b : Bool) (o p : Outgoing) → octets_of p ≡ octets_of o → octets_of (cond b o p) ≡ octets_of o
kept_octets true o p e = refl
kept_octets false o p e = e

pub passed_over-octets : (o : Outgoing) → octets_of (passed_over o) ≡ octets_of o
passed_over-octets o = kept_octets (o.named || o.lost) o _ refl

-- ---- messages leave

pub leaving-octets : (out : List Outgoing) (place octets more : ℕ) (cell : Outgoing) → place < length out → octets ≡ sum_by newly_confirmed_of (take place out)
    → more ≡ newly_confirmed_of cell → cell ≡ outgoing_at out place → octets + more ≡ sum_by newly_confirmed_of (take (place + 1) out)
leaving-octets out place octets more cell b e m c = rw (e, m, c) (sym (sum_by_more newly_confirmed_of out place blank b))

leaving-sum : (f : Outgoing → ℕ) (out : List Outgoing) (went place : ℕ) → place < went → went ≤ length out
    → sum_by f (drop place (take went out)) ≡ f (outgoing_at out place) + sum_by f (drop (place + 1) (take went out))
leaving-sum f out went place b m =
    let long = length-take-le went out m in
    sum_by-drop_more f (take went out) place blank (omega (arith, b, long)) ∙ ap (λ (o : Outgoing). f o + sum_by f (drop (place + 1) (take went out))) (get_or-take went out place blank b)

pub leaving-tally : (out : List Outgoing) (went place : ℕ) (t u : Tally) (cell : Outgoing) → place < went → went ≤ length out → t ≡ tally_of (drop place (take went out))
    → u ≡ tally_without t cell → cell ≡ outgoing_at out place → u ≡ tally_of (drop (place + 1) (take went out))
leaving-tally out went place t u cell b m et eu ec =
    let rest = drop (place + 1) (take went out) in
    let octets : sum_by under_way_of (drop place (take went out)) - under_way_of (outgoing_at out place) ≡ sum_by under_way_of rest = omega (arith, leaving-sum under_way_of out went place b m) in
    let lost : sum_by lost_of (drop place (take went out)) - lost_of (outgoing_at out place) ≡ sum_by lost_of rest = omega (arith, leaving-sum lost_of out went place b m) in
    let named : sum_by named_of (drop place (take went out)) - named_of (outgoing_at out place) ≡ sum_by named_of rest = omega (arith, leaving-sum named_of out went place b m) in
    eu ∙ ap (λ (w : Tally). tally_without w cell) et ∙ ap (tally_without (tally_of (drop place (take went out)))) ec ∙ rw (octets, lost, named)

pub tally-left : (out : List Outgoing) (went count : ℕ) → count ≤ went → tally_of (drop count (take went out)) ≡ tally_of (take (went - count) (drop count out))
tally-left out went count b =
    let whole : count + (went - count) ≡ went = omega (arith, b) in
    ap (λ (n : ℕ). tally_of (drop count (take n out))) (sym whole) ∙ ap tally_of (drop-take count (went - count) out)

-- ---- the first lost one

pub lost_here : (out : List Outgoing) (place left : ℕ) → 0 < left → (outgoing_at out place).lost ≡ true → lost_from out place left ≡ Some place
unfolding lost_from
lost_here out place zero b e = absurd (omega (arith, b))
lost_here out place (suc left) b e = rw e

pub lost_on : (out : List Outgoing) (place left : ℕ) → 0 < left → (outgoing_at out place).lost ≡ false → lost_from out place left ≡ lost_from out (place + 1) (left - 1)
unfolding lost_from
lost_on out place zero b e = absurd (omega (arith, b))
lost_on out place (suc left) b e =
    let less : suc left - 1 ≡ left = omega arith in
    rw (e, less)

pub lost_from_nowhere : (out : List Outgoing) (place : ℕ) → lost_from out place 0 ≡ None
unfolding lost_from
lost_from_nowhere out place = refl

pub lost_from-none : (out : List Outgoing) (place left : ℕ) → ((k : ℕ) → k < place + left → (outgoing_at out k).lost ≡ false) → lost_from out place left ≡ None
unfolding lost_from
lost_from-none out place zero h = refl
lost_from-none out place (suc left) h = rw (h place (omega arith)) (lost_from-none out (place + 1) left (λ k b. h k (omega (arith, b))))

unmarked : (mark : Bool) → one_if mark ≤ 0 → mark ≡ false
unmarked true b = absurd (omega (arith, b))
unmarked false b = refl

pub none_lost : (out : List Outgoing) (went : ℕ) → went ≤ length out → sum_by lost_of (take went out) ≡ 0 → None ≡ lost_from out 0 went
none_lost out went m e =
    sym (lost_from-none out 0 went (λ k b. unmarked (outgoing_at out k).lost (omega (arith, e, among-le lost_of out went k (omega (arith, b)) m))))
