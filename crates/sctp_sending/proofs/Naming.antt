-- Messages are named and passed over, one after another; and marks for what blocks name.
use Rattle.std.proofs.Common.{◌≡◌, ℕ, zero, suc, Bool, true, false, not, cond, leb, ltb, eqb, ◌&&◌, ◌||◌, ◌+◌, ◌<◌, ◌≤◌, List, [], ◌∷◌, length, get_or, take, refl, sym, ap, ◌∙◌, arith}
use Rattle.std.specs.Prelude.{sum_by, replicate, IsTrue, ◌↔◌}
use Rattle.std.proofs.Math.ListN.{set}
use Rattle.std.proofs.lemmas.Bool.{true≢false}
use Rattle.std.proofs.lemmas.Bool.Decides.{nat_tests}
use Rattle.std.proofs.lemmas.List.{set-get_or, length-set}
use Rattle.sctp_sending.specs.Outgoing.{Outgoing, outgoing_at, octets_of, named_or_not, passed_over}
use Rattle.sctp_sending.specs.Outbox.{Outbox, changed}
use Rattle.sctp_sending.specs.Sending.{Naming, Passing, is_named, named_one, named_below, passed_one, passed_below}
use Rattle.sctp_codec.specs.Packets.{BlockValue}
use Rattle.sctp_sending.specs.Gaps.{names_in, marked}
use Rattle.sctp_sending.specs.Naming.{naming_in, names_of}
use Rattle.sctp_sending.specs.Tallies.{named_of}
use Rattle.sctp_sending.proofs.Windows.{blank}
use Rattle.sctp_sending.proofs.Tallying.{among-le}

-- ---- one place more

pub named_below-more : (names : ℕ → Bool) (out : List Outgoing) (place : ℕ) → named_below names out (place + 1) ≡ named_one names (named_below names out place) place
unfolding named_below
named_below-more names out place =
    let more : place + 1 ≡ suc place = omega arith in
    ap (named_below names out) more

pub named_below-none : (names : ℕ → Bool) (out : List Outgoing) → named_below names out 0 ≡ record { out = out; octets = 0; reach = 0 }
unfolding named_below
named_below-none names out = refl

pub passed_below-more : (out : List Outgoing) (place : ℕ) → passed_below out (place + 1) ≡ passed_one (passed_below out place) place
unfolding passed_below
passed_below-more out place =
    let more : place + 1 ≡ suc place = omega arith in
    ap (passed_below out) more

pub passed_below-none : (out : List Outgoing) → passed_below out 0 ≡ record { out = out; any = false }
unfolding passed_below
passed_below-none out = refl

pub named-more : (names : ℕ → Bool) (b old : Outbox) (place : ℕ) → b ≡ record { out = (named_below names old.out place).out; went = old.went }
    → changed b place (named_or_not (is_named names place)) ≡ record { out = (named_below names old.out (place + 1)).out; went = old.went }
named-more names b old place e =
    ap (λ (o : Outbox). changed o place (named_or_not (is_named names place))) e
    ∙ ap (λ (n : Naming). record { out = n.out; went = old.went }) (sym (named_below-more names old.out place))

pub octets-more : (names : ℕ → Bool) (b old : Outbox) (place before after : ℕ) → b ≡ record { out = (named_below names old.out place).out; went = old.went }
    → before ≡ (named_below names old.out place).octets
    → after ≡ cond (is_named names place && not (outgoing_at b.out place).named) (before + octets_of (outgoing_at b.out place)) before
    → after ≡ (named_below names old.out (place + 1)).octets
octets-more names b old place before after e octets h =
    h ∙ ap (λ (o : Outbox). cond (is_named names place && not (outgoing_at o.out place).named) (before + octets_of (outgoing_at o.out place)) before) e
    ∙ ap (λ (n : ℕ). cond (is_named names place && not (outgoing_at (named_below names old.out place).out place).named) (n + octets_of (outgoing_at (named_below names old.out place).out place)) n) octets
    ∙ ap (λ (n : Naming). n.octets) (sym (named_below-more names old.out place))

pub reach-more : (names : ℕ → Bool) (b old : Outbox) (place before after : ℕ) → b ≡ record { out = (named_below names old.out place).out; went = old.went }
    → before ≡ (named_below names old.out place).reach
    → after ≡ cond (is_named names place && not (outgoing_at b.out place).named) place before
    → after ≡ (named_below names old.out (place + 1)).reach
reach-more names b old place before after e reach h =
    h ∙ ap (λ (o : Outbox). cond (is_named names place && not (outgoing_at o.out place).named) place before) e
    ∙ ap (cond (is_named names place && not (outgoing_at (named_below names old.out place).out place).named) place) reach
    ∙ ap (λ (n : Naming). n.reach) (sym (named_below-more names old.out place))

pub place_or_before : (b : Bool) (place before : ℕ) → before ≤ place → cond b place before ≤ place + 1
place_or_before true place before h = omega arith
place_or_before false place before h = omega (arith, h)

pub passed-more : (b old : Outbox) (place : ℕ) → b ≡ record { out = (passed_below old.out place).out; went = old.went }
    → changed b place passed_over ≡ record { out = (passed_below old.out (place + 1)).out; went = old.went }
passed-more b old place e =
    ap (λ (o : Outbox). changed o place passed_over) e
    ∙ ap (λ (p : Passing). record { out = p.out; went = old.went }) (sym (passed_below-more old.out place))

pub any-more : (b old : Outbox) (place : ℕ) (before after : Bool) → b ≡ record { out = (passed_below old.out place).out; went = old.went }
    → before ≡ (passed_below old.out place).any
    → after ≡ (before || ((passed_over (outgoing_at b.out place)).lost && not (outgoing_at b.out place).lost))
    → after ≡ (passed_below old.out (place + 1)).any
any-more b old place before after e any h =
    h ∙ ap (λ (o : Outbox). before || ((passed_over (outgoing_at o.out place)).lost && not (outgoing_at o.out place).lost)) e
    ∙ ap (λ (x : Bool). x || ((passed_over (outgoing_at (passed_below old.out place).out place)).lost && not (outgoing_at (passed_below old.out place).out place).lost)) any
    ∙ ap (λ (p : Passing). p.any) (sym (passed_below-more old.out place))

-- ---- nothing is named

unnamed : (b : Bool) → cond b 1 0 ≤ 0 → b ≡ false
unnamed true h = absurd (omega (arith, h))
unnamed false h = refl

-- a message that wasn't named, and isn't, stays as it is
and_true : (b : Bool) → (b && true) ≡ b
and_true true = refl
and_true false = refl

still_unnamed : (o : Outgoing) → o.named ≡ false → named_or_not false o ≡ o
still_unnamed o e =
    ap (λ (b : Bool). record { message = o.message; sequence = o.sequence; again = o.again; missing = o.missing; named = b; lost = o.lost && true }) (sym e)
    ∙ ap (λ (b : Bool). record { message = o.message; sequence = o.sequence; again = o.again; missing = o.missing; named = o.named; lost = b }) (and_true o.lost)

none_first : (b c : Bool) → b ≡ false → (c && b) ≡ false
none_first b true e = e
none_first b false e = refl

one_unnamed : (names : ℕ → Bool) (out : List Outgoing) (place : ℕ) → names (place + 1) ≡ false → (outgoing_at out place).named ≡ false
    → named_one names (record { out = out; octets = 0; reach = 0 }) place ≡ record { out = out; octets = 0; reach = 0 }
one_unnamed names out place none was =
    let o = outgoing_at out place in
    let no : is_named names place ≡ false = none_first (names (place + 1)) (ltb 0 place) none in
    ap (λ (b : Bool). record {
      out = set out place (named_or_not b o);
      octets = cond (b && not o.named) (0 + octets_of o) 0;
      reach = cond (b && not o.named) place 0;
    }) no
    ∙ ap (λ (p : Outgoing). record { out = set out place p; octets = 0; reach = 0 }) (still_unnamed o was)
    ∙ ap (λ (xs : List Outgoing). record { out = xs; octets = 0; reach = 0 }) (set-get_or out place blank)

pub none_named : (names : ℕ → Bool) (out : List Outgoing) (went n : ℕ) → ((ahead : ℕ) → names ahead ≡ false) → went ≤ length out → n ≤ went
    → sum_by named_of (take went out) ≡ 0 → named_below names out n ≡ record { out = out; octets = 0; reach = 0 }
unfolding named_below
none_named names out went zero none m b e = refl
none_named names out went (suc n) none m b e =
    let was : (outgoing_at out n).named ≡ false = unnamed (outgoing_at out n).named (omega (arith, e, among-le named_of out went n (omega (arith, b)) m)) in
    ap (λ (before : Naming). named_one names before n) (none_named names out went n none m (omega (arith, b)) e)
    ∙ one_unnamed names out n (none (n + 1)) was

-- ---- as many as before

pub length-named : (names : ℕ → Bool) (out : List Outgoing) (n : ℕ) → length (named_below names out n).out ≡ length out
unfolding named_below
length-named names out zero = refl
length-named names out (suc n) = length-set (named_below names out n).out n _ ∙ length-named names out n

pub length-passed : (out : List Outgoing) (n : ℕ) → length (passed_below out n).out ≡ length out
unfolding passed_below
length-passed out zero = refl
length-passed out (suc n) = length-set (passed_below out n).out n _ ∙ length-passed out n

-- ---- marks

pub ltb_next : (a n : ℕ) → ltb a (n + 1) ≡ leb a n
ltb_next a n = grind (arith, nat_tests)

pub none_in : (blocks : List BlockValue) (many : ℕ) → eqb (length blocks) 0 ≡ true → (ahead : ℕ) → names_in blocks many ahead ≡ false
none_in [] many e ahead = refl
none_in (b ∷ bs) many e ahead = grind (arith, nat_tests)

mark_of_none : (n i : ℕ) → get_or (replicate n false) i false ≡ false
mark_of_none zero i = refl
mark_of_none (suc n) zero = refl
mark_of_none (suc n) (suc i) = mark_of_none n i

pub no_mark : (marks : List Bool) (ahead : ℕ) → marks ≡ replicate 257 false → marked marks ahead ≡ false
no_mark marks ahead e = ap (λ (ms : List Bool). get_or ms ahead false) e ∙ mark_of_none 257 ahead

-- no blocks, and nothing that was named before
not_less : (b : Bool) (n : ℕ) → b ≡ false → (0 < n → IsTrue b) → n ≡ 0
not_less true n e h = absurd (true≢false e)
not_less false zero e h = refl
not_less false (suc n) e h = absurd (true≢false (sym (h (omega arith))))

pub unnamed_by : (blocks : List BlockValue) (b : Outbox) (are_none any : Bool) → are_none ≡ eqb (length blocks) 0 → are_none ≡ true
    → (IsTrue any ↔ (0 < sum_by named_of (take b.went b.out))) → any ≡ false → b.went ≤ length b.out
    → naming_in (names_of blocks b) b ≡ record { out = b.out; octets = 0; reach = 0 }
unnamed_by blocks b are_none any e t h f m =
    none_named (names_of blocks b) b.out b.went b.went (none_in blocks (length b.out) (sym e ∙ t)) m (omega arith)
    (not_less any (sum_by named_of (take b.went b.out)) f h.1)
