-- Where a message goes, by its length, its label and its network; and management isn't SCCP.
use Rattle.pair_rules.proofs.Basics.{◌≡◌, Bool, true, false, length, Some, None, refl, nat_eq, nat_lt, arith, if◌then◌else◌, nat_tests}
use Rattle.pair_rules.proofs.Definitions.{Message, is_management, dpc_of, service_indicator, network_indicator, SIF_OCTETS, Configuration, Discrimination, Label, sccp, whither_goes}
use Rattle.signalling_types.specs.declared.cause.Cause.TheVariants as causes
use Rattle.mtp3_codec.specs.Headings.{label_at, fault_or_destination}
use Rattle.mtp3_codec.specs.declared.discrimination.Discrimination.TheVariants as whither

-- ---- where a message goes

abbrev pub decided : (long short ours own : Bool) → Label → Discrimination
decided long short ours own label =
    if long then whither.Refused causes.TooLong
    else fault_or_destination (if short then Some causes.NoLabel else (if ours then None else Some causes.WrongNetwork)) (if own then whither.Here label else whither.Transfer label)

pub decided-on : (long short ours own : Bool) (its label : Label) → decided long short ours own its ≡ whither.Transfer label → (long ≡ false) × (short ≡ false) × (ours ≡ true)
decided-on true short ours own its label e = absurd cc
decided-on false true ours own its label e = absurd cc
decided-on false false false own its label e = absurd cc
decided-on false false true true its label e = absurd cc
decided-on false false true false its label e = (refl, refl, refl)

decided-here : (long short ours own : Bool) (its label : Label) → decided long short ours own its ≡ whither.Here label → ours ≡ true
decided-here true short ours own its label e = absurd cc
decided-here false true ours own its label e = absurd cc
decided-here false false false own its label e = absurd cc
decided-here false false true true its label e = refl
decided-here false false true false its label e = absurd cc

-- a message that is for this point is of its network
pub here-network : (c : Configuration) (m : Message) (label : Label) → whither_goes c m ≡ whither.Here label → network_indicator m ≡ c.network
here-network c m label e =
    let ours : nat_eq (network_indicator m) c.network ≡ true =
    decided-here (nat_lt SIF_OCTETS (length m.sif)) (nat_lt (length m.sif) 4) (nat_eq (network_indicator m) c.network) (nat_eq (dpc_of m) c.own) (label_at m.sif) label e in
    grind (arith, nat_tests, ours)

-- management isn't SCCP
pub is-no-sccp : (m : Message) → is_management m ≡ true → nat_eq (service_indicator m) sccp ≡ false
is-no-sccp m e = grind (arith, nat_tests, e)
