-- A message that is given while there is room goes out next.
use Rattle.std.proofs.Common.{◌≡◌, ◌≤◌, ℕ, zero, suc, ◌+◌, Bool, true, false, cond, not, nat_lt, nat_le, eqb, ◌&&◌, ◌||◌, List, [], ◌∷◌, ◌++◌, length, take, length-append, Option, Some, None, refl, sym, ap, ◌∙◌, arith}
use Rattle.std.specs.Prelude.{is_some, slice_index, sum_by}
use Rattle.std.proofs.Math.Seq.{get_or-append_seam}
use Rattle.std.proofs.lemmas.Bool.{and_from, or_right, lt-ltb, eqb-true}
use Rattle.std.proofs.lemmas.Bool.Decides.{nat_tests}
use Rattle.std.proofs.lemmas.List.{get_or_append_left, take-append-le}
use Rattle.sctp_sending.specs.Outgoing.{Message, Outgoing, new_outgoing, outgoing_at, octets_of, under_way_of, lost_from}
use Rattle.sctp_sending.specs.Sending.{Sending, most_messages, most_octets, under_way, given, finds_window, has_credit, has_room, may_begin, next_of, next_place}
use Rattle.sctp_sending.proofs.Windows.{blank}

-- after a new one the others are as lost as before
pub lost-same : (out : List Outgoing) (o : Outgoing) (place left : ℕ) → place + left ≤ length out → lost_from (out ++ o ∷ []) place left ≡ lost_from out place left
unfolding lost_from
lost-same out o place zero b = refl
lost-same out o place (suc left) b =
    ap (λ (p : Outgoing). cond p.lost (Some place) (lost_from (out ++ o ∷ []) (place + 1) left)) (get_or_append_left out (o ∷ []) blank place (omega (arith, b)))
    ∙ ap (λ (rest : Option ℕ). cond (outgoing_at out place).lost (Some place) rest) (lost-same out o (place + 1) left (omega (arith, b)))

pub both : (x y : Bool) → (x && y) ≡ true → (x ≡ true) × (y ≡ true)
both true y e = (refl, e)
both false y e = absurd (cc)

pub none-of : (found : Option ℕ) → not (is_some found) ≡ true → found ≡ None
none-of None e = refl
none-of (Some place) e = absurd (cc)

finds-less : (octets most window : ℕ) (idle : Bool) → octets ≤ most → (nat_le most window || idle) ≡ true → (nat_le octets window || idle) ≡ true
finds-less octets most window true b e = or_right (nat_le octets window) true refl
finds-less octets most window false b e = grind (arith, nat_tests, b, e)

pub goes-next : (s : Sending) (m : Message) → has_room s ≡ true → length m.octets ≤ most_octets → next_place (given s m) ≡ Some (length s.out)
unfolding has_room given next_place
goes-next s m room fits =
    let o = new_outgoing m (slice_index s.sequences m.stream) in
    let last = both (nat_lt (length s.out) most_messages && not (is_some (lost_from s.out 0 s.went)) && eqb (length s.out) s.went && has_credit s) (finds_window s most_octets) room in
    let third = both (nat_lt (length s.out) most_messages && not (is_some (lost_from s.out 0 s.went)) && eqb (length s.out) s.went) (has_credit s) last.0 in
    let second = both (nat_lt (length s.out) most_messages && not (is_some (lost_from s.out 0 s.went))) (eqb (length s.out) s.went) third.0 in
    let first = both (nat_lt (length s.out) most_messages) (not (is_some (lost_from s.out 0 s.went))) second.0 in
    let all : length s.out ≡ s.went = eqb-true (length s.out) s.went second.1 in
    let none : lost_from (s.out ++ o ∷ []) 0 s.went ≡ None =
    lost-same s.out o 0 s.went (omega (arith, all)) ∙ none-of (lost_from s.out 0 s.went) first.1 in
    let same : take s.went (s.out ++ o ∷ []) ≡ take s.went s.out = take-append-le s.went s.out (o ∷ []) (omega (arith, all)) in
    let new : outgoing_at (s.out ++ o ∷ []) s.went ≡ o =
    ap (λ (i : ℕ). outgoing_at (s.out ++ o ∷ []) i) (sym all) ∙ get_or-append_seam s.out o [] blank in
    let fresh : nat_lt s.went (length (s.out ++ o ∷ [])) ≡ true = lt-ltb s.went (length (s.out ++ o ∷ [])) (omega (arith, all, length-append s.out (o ∷ []))) in
    let credit : has_credit (given s m) ≡ true =
    ap (λ (out : List Outgoing). nat_lt (sum_by under_way_of out) s.congestion.window) same ∙ third.1 in
    let window : finds_window (given s m) (octets_of (outgoing_at (s.out ++ o ∷ []) s.went)) ≡ true =
    ap (λ (p : Outgoing). finds_window (given s m) (octets_of p)) new
    ∙ ap (λ (out : List Outgoing). nat_le (length m.octets) s.peer_window || eqb (sum_by under_way_of out) 0) same
    ∙ finds-less (length m.octets) most_octets s.peer_window (eqb (under_way s) 0) fits last.1 in
    let begins : may_begin (given s m) ≡ true =
    and_from (nat_lt s.went (length (s.out ++ o ∷ [])) && has_credit (given s m)) (finds_window (given s m) (octets_of (outgoing_at (s.out ++ o ∷ []) s.went)))
    (and_from (nat_lt s.went (length (s.out ++ o ∷ []))) (has_credit (given s m)) fresh credit) window in
    ap (λ (found : Option ℕ). next_of (given s m) found) none ∙ ap (λ (b : Bool). cond b (Some s.went) None) begins ∙ ap (λ (i : ℕ). Some i) (sym all)
