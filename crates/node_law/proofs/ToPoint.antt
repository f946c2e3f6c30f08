-- What is for one point is received there alone.
use Rattle.std.proofs.Common.{◌≡◌, ◌≢◌, ◌&&◌, ◌+◌, ℕ, Bool, true, false, not, List, [], ◌∷◌, length, Some, None, nat_eq, nat_lt, refl, ap, sym, subst, ◌∙◌, arith}
use Rattle.std.proofs.lemmas.Bool.{cases_eq, eq-eqb, eqb-true, ne_eqb}
use Rattle.std.proofs.Math.Logic.{⊎_elim}
use Rattle.std.specs.Prelude.{count_by, filter, if◌then◌else◌, sum_by}
use Rattle.signalling_types.specs.Message.{Message, dpc_of, network_indicator}
use Rattle.signalling_types.specs.declared.cause.Cause.TheVariants.{NoLabel, TooLong, WrongNetwork}
use Rattle.signalling_types.specs.declared.limits.TheConstants.Limits.{SIF_OCTETS}
use Rattle.settings.specs.Configuration.{Configuration}
use Rattle.mtp3_codec.specs.Headings.{fault_or_destination, label_at}
use Rattle.mtp3_codec.specs.declared.discrimination.Discrimination.TheVariants as whither
use Rattle.mtp3_codec.specs.declared.label.Label.{Label}
use Rattle.network_moves.specs.Networks.{one_if}
use Rattle.network_moves.proofs.Counts.{count-cons}
use Rattle.node_moves.specs.Laws.{is_user, users_that}
use Rattle.network_rules.specs.Networks.{NetworkState, goes_onward, is_onward}
use Rattle.network_rules.specs.Totals.{IsPlaced, is_for, is_here, is_listed, received_at, waiting_at}
use Rattle.network_rules.proofs.Booked.{texts_of}
use Rattle.network_rules.proofs.Sums.{sum-agree, sum-once}
use Rattle.node_law.specs.Ends.{gone_at}
use Rattle.node_law.specs.Sums.{AreAccountedFor, messages_come_from_end_to_end, nothing_is_lost_from_end_to_end, users_in_all}
use Rattle.node_law.proofs.Ending.{kept, lossless-unbroken, w}
use Rattle.node_law.proofs.Points.{sum-nothing}
use Rattle.node_law.proofs.Steps.{AreKept}
use Rattle.node_law.proofs.Summing.{accounted, none-gone}

-- one for this point is onward at another of the same network
decided : (long short ours own other : Bool) (its : Label) → (own ≡ true → other ≡ false)
    → is_here (if long then whither.Refused TooLong
    else fault_or_destination (if short then Some NoLabel else (if ours then None else Some WrongNetwork)) (if own then whither.Here its else whither.Transfer its)) ≡ true
    → is_onward (if long then whither.Refused TooLong
    else fault_or_destination (if short then Some NoLabel else (if ours then None else Some WrongNetwork)) (if other then whither.Here its else whither.Transfer its)) ≡ true
decided true short ours own other its f e = absurd cc
decided false true ours own other its f e = absurd cc
decided false false false own other its f e = absurd cc
decided false false true false other its f e = absurd cc
decided false false true true true its f e = (let clash : true ≡ false = f refl in absurd cc)
decided false false true true false its f e = refl

onward-elsewhere : (c d : Configuration) (m : Message) → d.network ≡ c.network → d.own ≢ c.own → is_for c m ≡ true → goes_onward d m ≡ true
onward-elsewhere c d m network apart e =
    ap (λ (n : ℕ). is_onward (if nat_lt SIF_OCTETS (length m.sif) then whither.Refused TooLong
    else fault_or_destination (if nat_lt (length m.sif) 4 then Some NoLabel else (if nat_eq (network_indicator m) n then None else Some WrongNetwork))
    (if nat_eq (dpc_of m) d.own then whither.Here (label_at m.sif) else whither.Transfer (label_at m.sif)))) network
    ∙ decided (nat_lt SIF_OCTETS (length m.sif)) (nat_lt (length m.sif) 4) (nat_eq (network_indicator m) c.network) (nat_eq (dpc_of m) c.own) (nat_eq (dpc_of m) d.own) (label_at m.sif)
    (λ its. ne_eqb (dpc_of m) d.own (λ same. apart (sym same ∙ eqb-true (dpc_of m) c.own its))) e

-- where all that pass a test are onward, none is left
none-kept : (all onward : Message → Bool) → ((m : Message) → all m ≡ true → onward m ≡ true) → (ms : List Message) → count_by all (filter (λ m. not (onward m)) ms) ≡ 0
none-kept all onward h [] = refl
none-kept all onward h (m ∷ ms) = by (onward m) refl (none-kept all onward h ms)
  where
    off : List Message
    off = filter (λ k. not (onward k)) ms

    no-more : (a b : ℕ) → a ≡ 0 → b ≡ 0 → a + b ≡ 0
    no-more a b e f = omega (arith, e, f)

    by_test : (b : Bool) → all m ≡ b → onward m ≡ false → one_if (all m) ≡ 0
    by_test true f e = (let clash : false ≡ true = sym e ∙ h m f in absurd cc)
    by_test false f e = ap one_if f

    by : (b : Bool) → onward m ≡ b → count_by all off ≡ 0 → count_by all (filter (λ k. not (onward k)) (m ∷ ms)) ≡ 0
    by true e rest = ap (λ (b : Bool). count_by all (if not b then m ∷ off else off)) e ∙ rest
    by false e rest =
        ap (λ (b : Bool). count_by all (if not b then m ∷ off else off)) e ∙ count-cons all m off
        ∙ no-more (one_if (all m)) (count_by all off) (by_test (all m) refl e) rest

and-first : (a b : Bool) → (a && b) ≡ true → a ≡ true
and-first true b e = refl
and-first false b e = absurd cc

and-last : (a b : Bool) → (a && b) ≡ true → b ≡ true
and-last true b e = e
and-last false b e = absurd cc

module _ (settings : (point : ℕ) → Configuration) (numbers : List ℕ) (placed : IsPlaced settings numbers) (z : NetworkState) (stay : AreKept settings z) (point : ℕ) (listed : is_listed numbers point ≡ true)
    (network : (other : ℕ) → is_listed numbers other ≡ true → (z.node other).exchange.settings.network ≡ (z.node point).exchange.settings.network) (test : Message → Bool) where
  abbrev c : Configuration
  c = (z.node point).exchange.settings

  abbrev those : Message → Bool
  those m = is_for c m && test m

  own-is : (other : ℕ) → (z.node other).exchange.settings.own ≡ other
  own-is other = ap (λ (d : Configuration). d.own) (stay other) ∙ placed.own other

  none-at : (other : ℕ) → is_listed numbers other ≡ true → other ≢ point → users_that those (received_at z other) ≡ 0
  none-at other its far =
      none-kept (λ m. is_user m && those m) (goes_onward (z.node other).exchange.settings)
      (λ m e. onward-elsewhere c (z.node other).exchange.settings m (network other its) (λ same. far (sym (own-is other) ∙ same ∙ own-is point))
      (and-first (is_for c m) (test m) (and-last (is_user m) (is_for c m && test m) e)))
      (texts_of (z.node other).arrived)

  abbrev its_count : ℕ
  its_count = users_that those (received_at z point)

  first : (n : ℕ) → n ≡ 0 + n
  first n = omega arith

  at-point : (other : ℕ) → is_listed numbers other ≡ true → users_that those (received_at z other) ≡ 0 + (if nat_eq point other then its_count else 0)
  at-point other its =
      ⊎_elim
      (λ (same : other ≡ point).
      subst (λ (n : ℕ). users_that those (received_at z n) ≡ 0 + (if nat_eq point n then its_count else 0)) (sym same)
      (first its_count ∙ ap (λ (b : Bool). 0 + (if b then its_count else 0)) (sym (eq-eqb point point refl))))
      (λ (far : other ≢ point). none-at other its far ∙ ap (λ (b : Bool). 0 + (if b then its_count else 0)) (sym (ne_eqb point other (λ same. far (sym same)))))
      (cases_eq other point)

  all-there : users_in_all those numbers (received_at z) ≡ users_that those (received_at z c.own)
  all-there =
      sum-agree (λ other. users_that those (received_at z other)) (λ other. 0 + (if nat_eq point other then its_count else 0)) numbers at-point
      ∙ sum-once (λ other. 0) point its_count numbers (placed.once point listed)
      ∙ ap (λ (n : ℕ). n + its_count) (sum-nothing (λ other. 0) numbers (λ other. refl))
      ∙ sym (first its_count)
      ∙ ap (λ (n : ℕ). users_that those (received_at z n)) (sym (own-is point))

  pub come-by : AreAccountedFor numbers z
      → users_in_all those numbers (λ y. (z.node y).entered)
      ≡ users_that those (received_at z c.own) + users_in_all those numbers (waiting_at z) + users_in_all those numbers (λ y. (z.node y).refused) + sum_by (gone_at z those) numbers
  come-by accounted =
      accounted.once those
      ∙ ap (λ (n : ℕ). n + users_in_all those numbers (waiting_at z) + users_in_all those numbers (λ y. (z.node y).refused) + sum_by (gone_at z those) numbers) all-there

  pub come-whole : AreAccountedFor numbers z → sum_by (gone_at z those) numbers ≡ 0
      → users_in_all those numbers (λ y. (z.node y).entered)
      ≡ users_that those (received_at z c.own) + users_in_all those numbers (waiting_at z) + users_in_all those numbers (λ y. (z.node y).refused)
  come-whole accounted none = come-by accounted ∙ last _ _ none
    where
      last : (a b : ℕ) → b ≡ 0 → a + b ≡ a
      last a b e = omega (arith, e)

pub all-come : messages_come_from_end_to_end
all-come settings numbers moves placed linked none point listed network = record {
  once = λ test.
      come-by settings numbers placed (w settings numbers moves placed linked) (kept settings numbers moves placed linked) point listed network test (accounted settings numbers moves placed linked none);
}

pub all-whole : nothing_is_lost_from_end_to_end
all-whole settings numbers moves placed linked none point listed network = record {
  once = λ test.
      come-whole settings numbers placed (w settings numbers moves placed linked) (kept settings numbers moves placed linked) point listed network test
      (accounted settings numbers moves placed linked (lossless-unbroken settings numbers moves placed linked none))
      (none-gone settings numbers moves placed linked _ none);
}
