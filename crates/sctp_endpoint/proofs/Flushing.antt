-- All that is due goes out.
use Rattle.std.proofs.Common.{◌≡◌, ℕ, ◌≤◌, Bool, true, false, List, [], ◌++◌, map, Option, refl, sym, ap, subst, ◌∙◌, arith}
use Rattle.std.specs.Prelude.{sum_by, if◌then◌else◌}
use Rattle.std.proofs.lemmas.List.{append_assoc}
use Rattle.sctp_codec.specs.Packets.{ChunkValue}
use Rattle.sctp_rules.specs.State.{Association, Told, with_association}
use Rattle.sctp_rules.specs.Data.{sacked, takes_sack}
use Rattle.sctp_rules.specs.Sending.{closed, data_of, acknowledgement, is_acknowledging, with_acknowledged, with_data_sent, t2_in, due_chunks, packets_of, flush}
use Rattle.sctp_bundling.specs.Replies.{size_of}
use Rattle.sctp_endpoint.specs.Endpoints.{Endpoint, Does}
use Rattle.sctp_bundling.specs.Watching.{Sent, Puts}
use Rattle.sctp_bundling.specs.Bundling.{Bundle, Draft, bundle, draft_of, IsBundled, Adds}
use Rattle.sctp_bundling.specs.Ways.{Way, packet_on}
use Rattle.sctp_endpoint.specs.Flushing.{way_of_peer}
use Rattle.sctp_bundling.proofs.Giving.{given-put}
use Rattle.sctp_bundling.proofs.Bundling.{adds-then, adds-none, puts-more, bundled-is, bundle-front}

-- what DATA there is stays
data-acknowledged : (b : Bool) (now : ℕ) (a : Association) (t : Option ℕ) → data_of now (if b then record (sacked a) { t2 = t } else a) ≡ data_of now a
data-acknowledged true now a t = refl
data-acknowledged false now a t = refl

pub data-none : {W : Type 0} (has : W → List Sent → List Told → Type 0) (before : W) (d : Draft) (now : ℕ) (a : Association) → takes_sack a.phase ≡ false
    → Adds has before before d d (data_of now a)
data-none has before d now a not = rw not (adds-none has before d)

packets-are : (now : ℕ) (a : Association) → sum_by size_of a.control ≤ 1024
    → (bundle a.control (acknowledgement a ++ data_of now a)).full ++ closed (bundle a.control (acknowledgement a ++ data_of now a)).waiting ≡ packets_of (due_chunks now a)
packets-are now a few =
    let rest = acknowledgement a ++ data_of now a in
    let front : bundle [] (a.control ++ rest) ≡ bundle a.control rest = bundle-front [] a.control rest (omega (arith, few)) in
    sym (ap packets_of (append_assoc a.control (acknowledgement a) (data_of now a)) ∙ bundled-is [] (a.control ++ rest) 12 refl ∙ ap (λ (b : Bundle). b.full ++ closed b.waiting) front)

pub flushed-does : {W : Type 0} (has : W → List Sent → List Told → Type 0) (e f g h : Endpoint) (now : ℕ) (w0 w1 w2 w3 : W) (d1 d2 d3 : Draft) → sum_by size_of e.state.association.control ≤ 1024
    → d1.way ≡ way_of_peer e → d1.text ≡ draft_of (way_of_peer e) e.state.association.control
    → Adds has w0 w1 d1 d2 (acknowledgement e.state.association) → f ≡ record e { state = with_association e.state (with_acknowledged now e.state.association) }
    → Adds has w1 w2 d2 d3 (data_of now f.state.association) → g ≡ record f { state = with_association f.state (with_data_sent now f.state.association) }
    → ((waiting : List ChunkValue) → d3.text ≡ draft_of d3.way waiting → Puts has w2 w3 (map (packet_on d3.way) (closed waiting)))
    → h ≡ record g { state = with_association g.state (record g.state.association { control = [] }) } → Does has w0 w3 e h (flush e.settings now e.state)
flushed-does has e f g h now w0 w1 w2 w3 d1 d2 d3 few begun front acknowledged f_is messages g_is rest h_is =
    let a = e.state.association in
    let w = way_of_peer e in
    let f_data : data_of now f.state.association ≡ data_of now a = ap (λ (x : Endpoint). data_of now x.state.association) f_is ∙ data-acknowledged (is_acknowledging a) now a (t2_in a.phase now a) in
    let sent_data : Adds has w1 w2 d2 d3 (data_of now a) = subst (λ (xs : List ChunkValue). Adds has w1 w2 d2 d3 xs) f_data messages in
    let both = adds-then has w0 w1 w2 d1 d2 d3 (acknowledgement a) (data_of now a) acknowledged sent_data in
    let b = bundle a.control (acknowledgement a ++ data_of now a) in
    let i : IsBundled has w w0 w2 d3.text b =
    subst (λ (x : Way). IsBundled has x w0 w2 d3.text b) begun (both.bundled a.control (front ∙ ap (λ (x : Way). draft_of x a.control) (sym begun))) in
    let way : d3.way ≡ w = both.way_is ∙ begun in
    let last : Puts has w2 w3 (map (packet_on w) (closed b.waiting)) =
    subst (λ (x : Way). Puts has w2 w3 (map (packet_on x) (closed b.waiting))) way (rest b.waiting (i.text_is ∙ ap (λ (x : Way). draft_of x b.waiting) (sym way))) in
    record {
      gives = given-put has w0 w3 (flush e.settings now e.state) refl
          (subst (λ (ps : List (List ChunkValue)). Puts has w0 w3 (map (packet_on w) ps)) (packets-are now a few) (puts-more has w w0 w2 w3 b.full (closed b.waiting) i.full_out last));
      left_is = h_is ∙ ap (λ (x : Endpoint). record x { state = with_association x.state (record x.state.association { control = [] }) })
          (g_is ∙ ap (λ (x : Endpoint). record x { state = with_association x.state (with_data_sent now x.state.association) }) f_is);
    }

-- the packet that it writes into isn't seen
pub in-its-place : {W : Type 0} (has : W → List Sent → List Told → Type 0) (w v : W) (e here f g : Endpoint) (now : ℕ) → here ≡ e → g ≡ f
    → Does has w v here f (flush here.settings now here.state) → Does has w v e g (flush e.settings now e.state)
in-its-place has w v e here f g now is kept h =
    let one = subst (λ (x : Endpoint). Does has w v x f (flush x.settings now x.state)) is h in
    subst (λ (x : Endpoint). Does has w v e x (flush e.settings now e.state)) (sym kept) one
