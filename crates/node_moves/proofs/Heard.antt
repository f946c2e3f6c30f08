-- What a message that comes to a node is about: its link, by the point that sent it and the code; and what never comes.
use Rattle.node_moves.proofs.Basics.{◌≡◌, ◌≢◌, ℕ, Bool, true, false, not, ◌&&◌, ◌^◌, ◌<◌, List, [], ◌∷◌, length, Option, Some, None, Ok, nat_eq, nat_lt, refl, ap, sym, ◌∙◌, arith, nat_tests, if◌then◌else◌, eqb-true, slice_index_or}
use Rattle.node_moves.proofs.Machine.{Network, Shape, Saying, one_if}
use Rattle.node_moves.proofs.Definitions.{Message, opc_of, dpc_of, is_management, service_indicator, Configuration, IsWell, IsSet, SetEntry, LinkEntry, WholeQueues, Node, entry_of, set_of, adjacent_of, peer_of, read_management, Management, SIF_OCTETS}
use Rattle.node_moves.proofs.Reading.{IsShape, says_of, says-managed, read_says, never, is_long, place_of, across, other-place}
use Rattle.node_moves.proofs.Shown.{Books, Shows, place}
use Rattle.node_moves.proofs.Going.{IsAt}
use Rattle.network_moves.specs.Lasting.{is_odd, odd}
use Rattle.node_moves.proofs.Handling.{mid, taken-arrived}
use Rattle.std.specs.Option.{option_and_then}
use Rattle.exchange_rules.proofs.Onward.{link-set}
use Rattle.exchange_rules.specs.Messages.{link_in_set, link_with_code, whither_goes}
use Rattle.mtp3_codec.specs.Headings.{label_at, fault_or_destination}
use Rattle.mtp3_codec.specs.declared.discrimination.Discrimination.{Discrimination}
use Rattle.mtp3_codec.specs.declared.discrimination.Discrimination.TheVariants as whither
use Rattle.mtp3_codec.specs.declared.label.Label.{Label}
use Rattle.settings.specs.Readings.{set_place}
use Rattle.signalling_types.specs.declared.cause.Cause.TheVariants as causes
use Rattle.std.proofs.lemmas.List.Quantifiers.{position-Some}
use Rattle.signalling_types.specs.Message.{network_indicator}

-- ---- where a message goes

abbrev decided : (long short ours own : Bool) → Label → Discrimination
decided long short ours own label =
    if long then whither.Refused causes.TooLong
    else fault_or_destination (if short then Some causes.NoLabel else (if ours then None else Some causes.WrongNetwork)) (if own then whither.Here label else whither.Transfer label)

decided-here : (long short ours own : Bool) (its label : Label) → decided long short ours own its ≡ whither.Here label → (long ≡ false) × (own ≡ true)
decided-here true short ours own its label e = absurd cc
decided-here false true ours own its label e = absurd cc
decided-here false false false own its label e = absurd cc
decided-here false false true true its label e = (refl, refl)
decided-here false false true false its label e = absurd cc

decided-on : (long short ours own : Bool) (its label : Label) → decided long short ours own its ≡ whither.Transfer label → long ≡ false
decided-on true short ours own its label e = absurd cc
decided-on false short ours own its label e = refl

decided-away : (long short ours own : Bool) (its label : Label) → decided long short ours own its ≡ whither.Transfer label → own ≡ false
decided-away true short ours own its label e = absurd cc
decided-away false true ours own its label e = absurd cc
decided-away false false false own its label e = absurd cc
decided-away false false true true its label e = absurd cc
decided-away false false true false its label e = refl

-- one for this point
pub here-short : (c : Configuration) (m : Message) (label : Label) → whither_goes c m ≡ whither.Here label → is_long m ≡ false
here-short c m label e =
    (decided-here (nat_lt SIF_OCTETS (length m.sif)) (nat_lt (length m.sif) 4) (nat_eq (network_indicator m) c.network) (nat_eq (dpc_of m) c.own) (label_at m.sif) label e).0

pub here-own : (c : Configuration) (m : Message) (label : Label) → whither_goes c m ≡ whither.Here label → dpc_of m ≡ c.own
here-own c m label e =
    eqb-true (dpc_of m) c.own
    (decided-here (nat_lt SIF_OCTETS (length m.sif)) (nat_lt (length m.sif) 4) (nat_eq (network_indicator m) c.network) (nat_eq (dpc_of m) c.own) (label_at m.sif) label e).1

-- one that goes on
pub on-short : (c : Configuration) (m : Message) (label : Label) → whither_goes c m ≡ whither.Transfer label → is_long m ≡ false
on-short c m label e =
    decided-on (nat_lt SIF_OCTETS (length m.sif)) (nat_lt (length m.sif) 4) (nat_eq (network_indicator m) c.network) (nat_eq (dpc_of m) c.own) (label_at m.sif) label e

pub on-away : (c : Configuration) (m : Message) (label : Label) → whither_goes c m ≡ whither.Transfer label → nat_eq (dpc_of m) c.own ≡ false
on-away c m label e =
    decided-away (nat_lt SIF_OCTETS (length m.sif)) (nat_lt (length m.sif) 4) (nat_eq (network_indicator m) c.network) (nat_eq (dpc_of m) c.own) (label_at m.sif) label e

-- ---- the link that a message is about

two-true : (a b : Bool) → (a && b) ≡ true → (a ≡ true) × (b ≡ true)
two-true true b e = (refl, e)
two-true false b e = absurd cc

pub record IsNamed (c : Configuration) (point slc link : ℕ) : Type 0 where
  pub inside : link < length c.links
  pub peer : peer_of c link ≡ point
  pub code : (entry_of c link).slc ≡ slc

pub code-link : (c : Configuration) (point slc link : ℕ) → link_with_code c point slc ≡ Some link → IsNamed c point slc link
code-link c point slc link e = by (set_place c point) refl e
  where
    none : LinkEntry
    none = record { name = []; set = 0; slc = 0; share = None }

    nowhere : SetEntry
    nowhere = record { name = []; adjacent = 0 }

    in-set : (set : ℕ) → set_place c point ≡ Some set → link_in_set c slc set ≡ Some link → IsNamed c point slc link
    in-set set f g =
        let found : (link < length c.links) × ((nat_eq (slice_index_or c.links link none).set set && nat_eq (slice_index_or c.links link none).slc slc) ≡ true)
        × ((k : ℕ) → k < link → (nat_eq (slice_index_or c.links k none).set set && nat_eq (slice_index_or c.links k none).slc slc) ≡ false) =
        position-Some (λ l. nat_eq l.set set && nat_eq l.slc slc) c.links link none g in
        let placed : (set < length c.sets) × (nat_eq point (slice_index_or c.sets set nowhere).adjacent ≡ true) × ((k : ℕ) → k < set → nat_eq point (slice_index_or c.sets k nowhere).adjacent ≡ false) =
        position-Some (λ s. nat_eq point s.adjacent) c.sets set nowhere f in
        let both : (nat_eq (entry_of c link).set set ≡ true) × (nat_eq (entry_of c link).slc slc ≡ true) = two-true (nat_eq (entry_of c link).set set) (nat_eq (entry_of c link).slc slc) found.1 in
        record {
          inside = found.0;
          peer = ap (adjacent_of c) (eqb-true (entry_of c link).set set both.0) ∙ sym (eqb-true point (adjacent_of c set) placed.1);
          code = eqb-true (entry_of c link).slc slc both.1;
        }

    by : (x : Option ℕ) → set_place c point ≡ x → link_with_code c point slc ≡ Some link → IsNamed c point slc link
    by (Some set) f g = in-set set f (sym (ap (option_and_then (link_in_set c slc)) f) ∙ g)
    by None f g = (let none : None ≡ Some link = sym (ap (option_and_then (link_in_set c slc)) f) ∙ g in absurd cc)

-- a set leads to another point
pub own-apart : (c : Configuration) → IsWell c → (link : ℕ) → c.own ≢ peer_of c link
own-apart c well link e =
    let known : IsSet c.own (slice_index_or c.sets (set_of c link) (record { name = []; adjacent = 0 })) = well.sets (set_of c link) (record { name = []; adjacent = 0 }) (link-set c well link) in
    known.adjacent.far (sym e)

-- the end of its link at the point that sent a message, as that names it
pub named-place : (c : Configuration) → IsWell c → (point slc link : ℕ) → IsNamed c point slc link → place_of point c.own slc ≡ across (place c link)
named-place c well point slc link h =
    ap (λ (k : ℕ). place_of k c.own slc) (sym h.peer)
    ∙ ap (λ (k : ℕ). place_of (peer_of c link) c.own k) (sym h.code)
    ∙ other-place c.own (peer_of c link) (entry_of c link).slc (own-apart c well link)

-- ---- what management says that comes to this point

managing-zero : (k : ℕ) → nat_lt k 2 ≡ true → nat_eq k 1 ≡ false → k ≡ 0
managing-zero k e f = grind (arith, nat_tests, e, f)

pub heard-says : (c : Configuration) (m : Message) (label : Label) (word : Management) → whither_goes c m ≡ whither.Here label → is_management m ≡ true → nat_eq (service_indicator m) 1 ≡ false → read_management m.sif ≡ Ok word
    → says_of m ≡ read_says (opc_of m) c.own (Ok word)
heard-says c m label word here managing plain e =
    says-managed m (here-short c m label here) (managing-zero (service_indicator m) managing plain)
    ∙ ap (λ (k : ℕ). read_says (opc_of m) k (read_management m.sif)) (here-own c m label here)
    ∙ ap (read_says (opc_of m) c.own) e

-- ---- what is never under way

pub never-odd : is_odd never ≡ true
never-odd = (let none : nat_lt (2 ^ 24) (2 ^ 24) ≡ false = grind (arith, nat_tests) in ap not none)

pub never-arrived : (shape : Shape) (o : IsShape shape) (c : Configuration) (well : IsWell c) (p : Network) (n : Node WholeQueues) (m : Message) (a l : List Message) (k : Books) → IsAt shape c p → Shows c p (mid n (m ∷ a) l k)
    → says_of m ≡ never → ⊥
never-arrived shape o c well p n m a l k h s e =
    let one : one_if (odd says_of m) ≡ 1 = ap (λ (s : Saying). one_if (is_odd s)) e ∙ ap one_if never-odd in
    absurd (omega (arith, one, (taken-arrived shape o c well p n m a l k s).counted (odd says_of), h.lasts.bags c.own))
