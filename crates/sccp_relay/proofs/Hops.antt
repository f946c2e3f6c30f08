-- Each node that an extended message goes through lowers its hop counter, so it goes through 14 at most.
use Rattle.std.proofs.Common.{◌≡◌, ℕ, ◌+◌, ◌-◌, ◌≤◌, ◌⊎◌, true, List, [], ◌∷◌, length, drop, Ok, ap, subst, inl, inr, arith, Some}
use Rattle.std.specs.Prelude.{◌==◌, ◌||◌, slice_index}
use Rattle.mtp3_codec.specs.Headings.{label_at}
use Rattle.sccp_codec.specs.Messages.{UnitdataValue, PartsValue, header_fault, parts_fault, fault_of, value_in, read_unitdata}
use Rattle.sccp_codec.specs.Extended.{ExtendedValue, extended_fault, extended_in, extended_octets, read_extended}
use Rattle.sccp_codec.proofs.AddressTexts.{unless-ok}
use Rattle.sccp_codec.proofs.MessageTexts.{first-none, header-well}
use Rattle.sccp_relay.specs.Sccp.{SccpValue, Plain, Extended, is_extended, read_sccp, has_valid_hops}
use Rattle.sccp_relay.specs.Points.{OwnValue, point_by}
use Rattle.sccp_relay.specs.Statuses.{TitlesValue}
use Rattle.sccp_relay.specs.Relay.{Onward, relay, led_on}
use Rattle.sccp_relay.specs.Led.{RelayingNode, GoesThrough, loops_of_titles_end}
use Rattle.sccp_relay.proofs.SaidMessages.{plain-read, extended-read, is-type, written-text}
use Rattle.sccp_relay.proofs.GoingOn.{Leads, Answered, read-leads, hops-left}

-- the octet of the hop counter
abbrev pub hop_octet : List ℕ → ℕ
hop_octet sif = slice_index (drop 4 sif) 2

record OneLower (sif field : List ℕ) : Type 0 where
  pub type : is_extended (drop 4 field) ≡ true
  pub lower : hop_octet field + 1 ≡ hop_octet sif
  pub some : 1 ≤ hop_octet field
  pub most : hop_octet sif ≤ 15

either-type : {A : Type 0} (n : ℕ) → (n == 17 || n == 18) ≡ true → (n ≡ 9) ⊎ (n ≡ 10) → A
either-type n e (inl nine) = absurd (let no : (9 == 17 || 9 == 18) ≡ true = subst (λ (m : ℕ). (m == 17 || m == 18) ≡ true) nine e in cc)
either-type n e (inr ten) = absurd (let no : (10 == 17 || 10 == 18) ≡ true = subst (λ (m : ℕ). (m == 17 || m == 18) ≡ true) ten e in cc)

-- an extended message isn't read as unitdata
not-plain : {A : Type 0} (text : List ℕ) (u : UnitdataValue) → is_extended text ≡ true → read_unitdata text ≡ Ok u → A
not-plain text u e read =
    let none = (unless-ok (fault_of text) (value_in text) u read).0 in
    let header = header-well 9 10 5 text (first-none (header_fault 9 10 5 text) (parts_fault 2 5 text ∷ []) none).0 in
    either-type (slice_index text 0) e header.kind

hops-read : (text : List ℕ) (v : ExtendedValue) → read_extended text ≡ Ok v → slice_index text 2 ≡ v.hop_counter
hops-read text v read = ap (λ (w : ExtendedValue). w.hop_counter) (unless-ok (extended_fault text) (extended_in text) v read).1

written-lower : (own : OwnValue) (titles : TitlesValue) (sif field : List ℕ) (v : ExtendedValue) → hop_octet sif ≡ v.hop_counter → has_valid_hops (Extended v) ≡ true
    → Leads own titles (label_at sif) (Extended v) field → OneLower sif field
written-lower own titles sif field v hop h l =
    let parts : PartsValue = led_on l.called (label_at sif).opc v.parts in
    let goes : ExtendedValue = record v { hop_counter = v.hop_counter - 1; parts = parts } in
    let text : extended_octets goes ≡ drop 4 field = ap (drop 4) (written-text (point_by own titles.prohibited (Some (label_at sif).opc) (label_at sif).sls l.row) own.point (label_at sif) (Extended goes) field l.writes) in
    let left = hops-left v.hop_counter h l.left in
    let after : v.hop_counter - 1 ≡ hop_octet field = ap (λ (octets : List ℕ). slice_index octets 2) text in
    record {
      type = subst (λ (octets : List ℕ). is_extended octets ≡ true) text (is-type v.kind);
      lower = omega (arith, hop, after, left.0);
      some = omega (arith, after, left.0);
      most = omega (arith, hop, left.1);
    }

leads-lower : (own : OwnValue) (titles : TitlesValue) (sif field : List ℕ) (came : SccpValue) → is_extended (drop 4 sif) ≡ true → read_sccp own.extended (drop 4 sif) ≡ Ok came → has_valid_hops came ≡ true
    → Leads own titles (label_at sif) came field ⊎ Answered own titles (label_at sif) came field → OneLower sif field
leads-lower own titles sif field (Plain u) type read h leads =
    not-plain (drop 4 sif) u type (plain-read own.extended (drop 4 sif) u read)
leads-lower own titles sif field (Extended v) type read h (inl leads) =
    written-lower own titles sif field v (hops-read (drop 4 sif) v (extended-read own.extended (drop 4 sif) v read).read) h leads
leads-lower own titles sif field (Extended v) type read h (inr answered) = absurd (let no = answered.answers.plain in cc)

one-lower : (own : OwnValue) (titles : TitlesValue) (sif field : List ℕ) → is_extended (drop 4 sif) ≡ true → relay own titles sif ≡ Onward field → OneLower sif field
unfolding relay
one-lower own titles sif field type e =
    let r = read-leads own titles (label_at sif) (read_sccp own.extended (drop 4 sif)) field e in
    leads-lower own titles sif field r.came type r.reads r.hops r.leads

-- as many nodes as the hop counter says, less one
within : (nodes : List RelayingNode) (sif field : List ℕ) → is_extended (drop 4 sif) ≡ true → 1 ≤ hop_octet sif → GoesThrough nodes sif field → length nodes + 1 ≤ hop_octet sif
within [] sif field type some goes = some
within (node ∷ nodes) sif field type some goes =
    let o = one-lower node.own node.titles sif goes.0 type goes.1 in
    let rest = within nodes goes.0 field o.type o.some goes.2 in
    omega (arith, o.lower, rest)

pub at_most-14 : loops_of_titles_end
at_most-14 [] sif field type goes = omega arith
at_most-14 (node ∷ nodes) sif field type goes =
    let o = one-lower node.own node.titles sif goes.0 type goes.1 in
    let rest = within nodes goes.0 field o.type o.some goes.2 in
    omega (arith, o.lower, o.most, rest)
