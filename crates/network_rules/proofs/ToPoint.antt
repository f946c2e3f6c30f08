-- What is for one point is received there alone.
use Rattle.pair_rules.proofs.Basics.{◌≡◌, ◌≢◌, ◌&&◌, ℕ, ◌+◌, Bool, true, false, not, List, [], ◌∷◌, length, nat_eq, Some, None, refl, ap, sym, subst, ◌∙◌, arith, filter, ⊎_elim, cases_eq, if◌then◌else◌}
use Rattle.exchange_rules.proofs.Basics.{cond, count_by, eqb-true, nat_lt, sum_by-cons}
use Rattle.exchange_rules.proofs.Definitions.{Message, Configuration, dpc_of, network_indicator, is_management}
use Rattle.exchange_rules.specs.Conserving.{users_that}
use Rattle.exchange_rules.proofs.Tallies.{one-first}
use Rattle.mtp3_codec.specs.Headings.{fault_or_destination, label_at}
use Rattle.mtp3_codec.specs.declared.discrimination.Discrimination.TheVariants as whither
use Rattle.mtp3_codec.specs.declared.label.Label.{Label}
use Rattle.signalling_types.specs.declared.cause.Cause.TheVariants.{NoLabel, TooLong, WrongNetwork}
use Rattle.signalling_types.specs.declared.limits.TheConstants.Limits.{SIF_OCTETS}
use Rattle.network_rules.specs.Networks.{NetworkState, Step, after_steps, first_network, goes_onward, is_onward}
use Rattle.network_rules.specs.Anew.{destinations_begin_anew}
use Rattle.network_rules.specs.Totals.{IsJoined, is_for, is_here, is_listed, messages_come_from_end_to_end, received_at, total, waiting_at}
use Rattle.network_rules.proofs.Accounted.{accounts-anew, quiet-first, since-first, sum-zero}
use Rattle.network_rules.proofs.Booked.{texts_of}
use Rattle.network_rules.proofs.Places.{not-equal}
use Rattle.network_rules.proofs.Reached.{Begins, Kept, reached, settings-kept}
use Rattle.network_rules.proofs.Sums.{same-here, sum-agree, sum-once}

-- one for this point is onward at another of the same network
decided : (long short ours own other : Bool) (its : Label) → (own ≡ true → other ≡ false)
    → is_here (if long then whither.Refused TooLong
    else fault_or_destination (if short then Some NoLabel else (if ours then None else Some WrongNetwork)) (if own then whither.Here its else whither.Transfer its)) ≡ true
    → is_onward (if long then whither.Refused TooLong
    else fault_or_destination (if short then Some NoLabel else (if ours then None else Some WrongNetwork)) (if other then whither.Here its else whither.Transfer its)) ≡ true
decided true short ours own other its f e = absurd cc
decided false true ours own other its f e = absurd cc
decided false false false own other its f e = absurd cc
decided false false true false other its f e = absurd cc
decided false false true true true its f e = (let clash : true ≡ false = f refl in absurd cc)
decided false false true true false its f e = refl

onward-elsewhere : (c z : Configuration) (m : Message) → z.network ≡ c.network → z.own ≢ c.own → is_for c m ≡ true → goes_onward z m ≡ true
onward-elsewhere c z m network apart e =
    ap (λ (n : ℕ). is_onward (if nat_lt SIF_OCTETS (length m.sif) then whither.Refused TooLong
    else fault_or_destination (if nat_lt (length m.sif) 4 then Some NoLabel else (if nat_eq (network_indicator m) n then None else Some WrongNetwork))
    (if nat_eq (dpc_of m) z.own then whither.Here (label_at m.sif) else whither.Transfer (label_at m.sif)))) network
    ∙ decided (nat_lt SIF_OCTETS (length m.sif)) (nat_lt (length m.sif) 4) (nat_eq (network_indicator m) c.network) (nat_eq (dpc_of m) c.own) (nat_eq (dpc_of m) z.own) (label_at m.sif)
    (λ its. not-equal (dpc_of m) z.own (λ same. apart (sym same ∙ eqb-true (dpc_of m) c.own its))) e

-- where all that pass a test are onward, none is received
none-received : (of onward : Message → Bool) → ((m : Message) → of m ≡ true → onward m ≡ true) → (ms : List Message) → users_that of (filter (λ m. not (onward m)) ms) ≡ 0
none-received of onward h [] = refl
none-received of onward h (m ∷ ms) = by (onward m) (of m) refl refl (none-received of onward h ms)
  where
    both : (a b s : ℕ) → s ≡ a + b → a ≡ 0 → b ≡ 0 → s ≡ 0
    both a b s e f g = omega (arith, e, f, g)

    alone : (b : Bool) → of m ≡ false → users_that of (if b then m ∷ [] else []) ≡ 0
    alone false e = refl
    alone true e = by_kind (is_management m) refl
      where
        by_kind : (k : Bool) → is_management m ≡ k → count_by of (if not (is_management m) then m ∷ [] else []) ≡ 0
        by_kind true f = ap (λ (t : Bool). count_by of (if not t then m ∷ [] else [])) f
        by_kind false f = ap (λ (t : Bool). count_by of (if not t then m ∷ [] else [])) f ∙ sum_by-cons (λ k. cond (of k) 1 0) m [] ∙ ap (λ (t : Bool). cond t 1 0 + 0) e

    by : (b d : Bool) → onward m ≡ b → of m ≡ d → users_that of (filter (λ k. not (onward k)) ms) ≡ 0
        → users_that of (if not (onward m) then m ∷ filter (λ k. not (onward k)) ms else filter (λ k. not (onward k)) ms) ≡ 0
    by true d e f rest = ap (λ (t : Bool). users_that of (if not t then m ∷ filter (λ k. not (onward k)) ms else filter (λ k. not (onward k)) ms)) e ∙ rest
    by false true e f rest = (let clash : false ≡ true = sym e ∙ h m f in absurd cc)
    by false false e f rest =
        both (users_that of (if not (onward m) then m ∷ [] else [])) (users_that of (filter (λ k. not (onward k)) ms))
        (users_that of (if not (onward m) then m ∷ filter (λ k. not (onward k)) ms else filter (λ k. not (onward k)) ms))
        (one-first of (not (onward m)) m (filter (λ k. not (onward k)) ms)) (alone (not (onward m)) f) rest

and-first : (a b : Bool) → (a && b) ≡ true → a ≡ true
and-first true b e = refl
and-first false b e = absurd cc

module _ (settings : (point : ℕ) → Configuration) (points : List ℕ) (steps : List Step) (point : ℕ) (h : IsJoined settings points) (start : Begins settings points) (listed : is_listed points point ≡ true)
    (network : (other : ℕ) → is_listed points other ≡ true → (settings other).network ≡ (settings point).network) (kept : Kept settings points h start (reached settings points h start steps)) (of : Message → Bool) where
  abbrev w : NetworkState
  w = reached settings points h start steps

  abbrev c : Configuration
  c = settings point

  abbrev those : Message → Bool
  those m = is_for c m && of m

  none-at : (other : ℕ) → is_listed points other ≡ true → other ≢ point → users_that those (received_at w other) ≡ 0
  none-at other its far =
      ap (λ (z : Configuration). users_that those (filter (λ m. not (goes_onward z m)) (texts_of (w.node other).arrived))) (settings-kept settings points h start steps other)
      ∙ none-received those (goes_onward (settings other))
      (λ m e. onward-elsewhere c (settings other) m (network other its) (λ same. far (sym (h.placed.own other) ∙ same ∙ h.placed.own point)) (and-first (is_for c m) (of m) e))
      (texts_of (w.node other).arrived)

  abbrev its_count : ℕ
  its_count = users_that those (received_at w point)

  at-point : (other : ℕ) → is_listed points other ≡ true → users_that those (received_at w other) ≡ 0 + (if nat_eq point other then its_count else 0)
  at-point other its =
      ⊎_elim
      (λ (same : other ≡ point).
      subst (λ (n : ℕ). users_that those (received_at w n) ≡ 0 + (if nat_eq point n then its_count else 0)) (sym same)
      (first its_count ∙ ap (λ (b : Bool). 0 + (if b then its_count else 0)) (sym (same-here point))))
      (λ (far : other ≢ point). none-at other its far ∙ ap (λ (b : Bool). 0 + (if b then its_count else 0)) (sym (not-equal point other (λ same. far (sym same)))))
      (cases_eq other point)
    where
      first : (n : ℕ) → n ≡ 0 + n
      first n = omega arith

  all-there : total those points (received_at w) ≡ its_count
  all-there =
      sum-agree (λ other. users_that those (received_at w other)) (λ other. 0 + (if nat_eq point other then its_count else 0)) points at-point
      ∙ sum-once (λ other. 0) point its_count points (h.placed.once point listed)
      ∙ ap (λ (n : ℕ). n + its_count) (sum-zero (λ other. 0) points (λ other. refl))
      ∙ first its_count
    where
      first : (n : ℕ) → 0 + n ≡ n
      first n = omega arith

pub ends-meet-anew : destinations_begin_anew
ends-meet-anew settings points changes point joined listed network quiet steps kept of =
    let start : Begins settings points = record { changes = changes; quiet = quiet } in
    let w : NetworkState = reached settings points joined start steps in
    let those : Message → Bool = λ m. is_for (settings point) m && of m in
    let waits : ℕ = total those points (waiting_at w) in
    let refused : ℕ = total those points (λ other. (w.node other).refused) in
    accounts-anew settings points changes joined quiet steps kept those
    ∙ ap (λ (n : ℕ). n + waits + refused) (all-there settings points steps point joined start listed network kept of)
    ∙ ap (λ (n : ℕ). users_that those (received_at w n) + waits + refused) (sym (joined.placed.own point))

pub ends-meet : messages_come_from_end_to_end
ends-meet settings points steps point joined listed network kept =
    ends-meet-anew settings points [] point joined listed network (quiet-first settings points) steps (since-first settings points (after_steps steps (first_network settings)) kept)
