-- What a message says that was heard as a word: to whom, from whom, and of which link.
use Rattle.exchange_rules.proofs.Basics.{◌≡◌, ◌&&◌, ◌||◌, ℕ, Bool, true, false, not, length, nat_eq, nat_lt, Some, None, Result, refl, ap, ◌∙◌, arith, nat_tests, if◌then◌else◌, option_map}
use Rattle.exchange_rules.proofs.Definitions.{Message, is_management, opc_of, dpc_of, service_indicator, network_indicator, Configuration, Management, MgmtFault, read_management, link_with_code, whither_goes}
use Rattle.exchange_rules.specs.Conserving.{is_word}
use Rattle.exchange_rules.specs.Messages.{is_adjacent}
use Rattle.exchange_rules.specs.LinkTests.{testing}
use Rattle.exchange_rules.proofs.Settling.{left-true, right-true}
use Rattle.signalling_types.specs.declared.limits.TheConstants.Limits.{SIF_OCTETS}
use Rattle.signalling_types.specs.declared.cause.Cause.TheVariants.{NoLabel, TooLong, WrongNetwork}
use Rattle.mtp3_codec.specs.Headings.{fault_or_destination, label_at}
use Rattle.mtp3_codec.specs.declared.discrimination.Discrimination.TheVariants as whither
use Rattle.mtp3_codec.specs.declared.label.Label.{Label}
use Rattle.pair_rules.specs.Laws.{about, word_read}
use Rattle.neighbour_rules.specs.Neighbours.{is_management_between}
use Rattle.neighbour_rules.specs.Laws.{word_from}
use Rattle.network_rules.proofs.Parting.{IsWord, answers, orders}

decided-own : (long short ours own : Bool) (its label : Label)
    → (if long then whither.Refused TooLong
    else fault_or_destination (if short then Some NoLabel else (if ours then None else Some WrongNetwork)) (if own then whither.Here its else whither.Transfer its)) ≡ whither.Here label → own ≡ true
decided-own true short ours own its label e = absurd cc
decided-own false true ours own its label e = absurd cc
decided-own false false false own its label e = absurd cc
decided-own false false true true its label e = refl
decided-own false false true false its label e = absurd cc

-- it is for this point
here-own : (c : Configuration) (m : Message) (label : Label) → whither_goes c m ≡ whither.Here label → nat_eq (dpc_of m) c.own ≡ true
here-own c m label e =
    decided-own (nat_lt SIF_OCTETS (length m.sif)) (nat_lt (length m.sif) 4) (nat_eq (network_indicator m) c.network) (nat_eq (dpc_of m) c.own) (label_at m.sif) label e

-- management, and no test
is-zero : (n : ℕ) → nat_lt n 2 ≡ true → not (nat_eq n 1) ≡ true → nat_eq n 0 ≡ true
is-zero n e f = grind (arith, nat_tests, e, f)

all-three : (a b d : Bool) → a ≡ true → b ≡ true → d ≡ true → (a && (b && d)) ≡ true
all-three true true d e f g = g
all-three true false d e f g = f
all-three false b d e f g = e

pub word-between : (c : Configuration) (m : Message) (label : Label) (from : ℕ) → whither_goes c m ≡ whither.Here label → is_word c m ≡ true → nat_eq (opc_of m) from ≡ true
    → is_management_between from c.own m ≡ true
word-between c m label from here heard same =
    let apart : (is_adjacent c (opc_of m) && not (nat_eq (service_indicator m) testing)) ≡ true = right-true (is_management m) (is_adjacent c (opc_of m) && not (nat_eq (service_indicator m) testing)) heard in
    all-three (nat_eq (service_indicator m) 0) (nat_eq (opc_of m) from) (nat_eq (dpc_of m) c.own)
    (is-zero (service_indicator m) (left-true (is_management m) (is_adjacent c (opc_of m) && not (nat_eq (service_indicator m) testing)) heard)
    (right-true (is_adjacent c (opc_of m)) (not (nat_eq (service_indicator m) testing)) apart))
    same (here-own c m label here)

pub word-read : (c : Configuration) (point link number : ℕ) (r : Result Management MgmtFault) → IsWord c point link number r → word_read c point r ≡ Some (about number link)
word-read c point link number r (orders slc e f) = ap (word_read c point) e ∙ ap (option_map (about number)) f
word-read c point link number r (answers slc e f) = ap (word_read c point) e ∙ ap (option_map (about number)) f

-- so it says its word to this node
pub word-said : (c : Configuration) (m : Message) (from link number : ℕ) → is_management_between from c.own m ≡ true → IsWord c (opc_of m) link number (read_management m.sif)
    → word_from from c m ≡ Some (about number link)
word-said c m from link number between word =
    ap (λ (b : Bool). if b then word_read c (opc_of m) (read_management m.sif) else None) between ∙ word-read c (opc_of m) link number (read_management m.sif) word

-- and speaks for that point
pub speaks : (from to : ℕ) (m : Message) → is_management_between from to m ≡ true → (is_management_between to from m || is_management_between from to m) ≡ true
speaks from to m e = by (is_management_between to from m) (is_management_between from to m) e
  where
    by : (a b : Bool) → b ≡ true → (a || b) ≡ true
    by true b e = refl
    by false b e = e

-- the link of which it is
pub word-link : (c : Configuration) (point link number : ℕ) (r : Result Management MgmtFault) → IsWord c point link number r → (slc : ℕ) × (link_with_code c point slc ≡ Some link)
word-link c point link number r (orders slc e f) = (slc, f)
word-link c point link number r (answers slc e f) = (slc, f)
