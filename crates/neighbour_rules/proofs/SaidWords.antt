-- What is between two ends, by counts, and what the messages among it say. What a message says to the far node, it says
-- in the machine of moves, by the code of the link.
use Rattle.pair_rules.proofs.Basics.{◌≡◌, ◌≢◌, ◌⊎◌, inl, inr, ◌<◌, ◌&&◌, ◌||◌, ℕ, Bool, true, false, List, [], ◌∷◌, length, Option, Some, None, Result, Ok, Err, refl, ap, sym, ◌∙◌, arith, nat_eq, nat_lt, nat_tests, count_by, if◌then◌else◌, option_and_then, option_map, ⊎_elim, cases_eq, eq-eqb}
use Rattle.std.specs.Option.{option_eq}
use Rattle.std.proofs.lemmas.List.Quantifiers.{position-Some}
use Rattle.exchange_rules.proofs.Basics.{eqb-true}
use Rattle.exchange_rules.proofs.Settling.{left-true, right-true}
use Rattle.exchange_rules.specs.Messages.{link_in_set}
use Rattle.settings.specs.Sharing.{is_link_of}
use Rattle.mtp3_codec.specs.declared.management.Management.TheVariants as says
use Rattle.pair_moves.specs.Laws.{one_if, saying}
use Rattle.pair_moves.specs.Sayings.{Other, is_confirmation, is_declaration}
use Rattle.pair_moves.proofs.Counts.{count-cons}
use Rattle.pair_rules.proofs.Definitions.{Message, dpc_of, is_management, opc_of, service_indicator, Configuration, read_management, Management, MgmtFault, link_with_code, set_of, Saying, Order, Answer, is_answer, is_order, Word, about, word_read}
use Rattle.pair_rules.specs.Awaiting.{Kind, acknowledged, confirmed, declared, named_in, ordered}
use Rattle.pair_rules.proofs.Good.{Each}
use Rattle.neighbour_rules.specs.Neighbours.{is_management_between}
use Rattle.neighbour_rules.specs.Awaiting.{says_to}
use Rattle.neighbour_rules.specs.Laws.{word_from}
use Rattle.neighbour_rules.proofs.World.{code_of, is_between, link_at_code, management_says, read_says, says_by, says_of}
use Rattle.neighbour_rules.proofs.Good.{IsMade, IsSent, IsWord, Joint, accepted, made, passes_by, set}
use Rattle.neighbour_rules.proofs.Good as good
use Rattle.neighbour_rules.proofs.Lines.{IsAtCode}
use Rattle.neighbour_rules.proofs.Made.{not-same}
use Rattle.neighbour_rules.proofs.FarEnds.{HasEnd, IsLine, far-own, has-end, their-own}

-- ---- lists

-- what says nothing is counted by no test
pub count-past : (read : Message → Saying) (test : Saying → Bool) → test Other ≡ false → (ms : List Message) → Each (λ (m : Message). read m ≡ Other) ms → count_by (saying read test) ms ≡ 0
count-past read test none [] e = refl
count-past read test none (m ∷ ms) e = omega (arith, count-cons (saying read test) m ms, ap one_if (ap test e.0 ∙ none), count-past read test none ms e.1)

pub count-alike : (P : Message → Type 0) (t u : Message → Bool) (ms : List Message) → ((m : Message) → P m → t m ≡ u m) → Each P ms → count_by t ms ≡ count_by u ms
count-alike P t u [] same e = refl
count-alike P t u (m ∷ ms) same e =
    omega (arith, count-cons t m ms, count-cons u m ms, ap one_if (same m e.0), count-alike P t u ms same e.1)

-- ---- management between the two

managed : (m : Message) (from to : ℕ) → is_management_between from to m ≡ true → is_management m ≡ true
managed m from to e = by (service_indicator m) (eqb-true (service_indicator m) 0 (left-true (nat_eq (service_indicator m) 0) (nat_eq (opc_of m) from && nat_eq (dpc_of m) to) e))
  where
    by : (k : ℕ) → k ≡ 0 → nat_lt k 2 ≡ true
    by k f = grind (arith, nat_tests, f)

its-opc : (m : Message) (from to : ℕ) → is_management_between from to m ≡ true → opc_of m ≡ from
its-opc m from to e =
    eqb-true (opc_of m) from
    (left-true (nat_eq (opc_of m) from) (nat_eq (dpc_of m) to) (right-true (nat_eq (service_indicator m) 0) (nat_eq (opc_of m) from && nat_eq (dpc_of m) to) e))

not-between : (m : Message) (from to : ℕ) → is_management m ≡ false → is_management_between from to m ≡ false
not-between m from to user = by (is_management_between from to m) refl
  where
    by : (b : Bool) → is_management_between from to m ≡ b → b ≡ false
    by true e = (let no : true ≡ false = sym (managed m from to e) ∙ user in absurd cc)
    by false e = refl

-- it says what is read
between-says : (one two point : ℕ) (m : Message) → is_management_between one two m ≡ true → says_of one two point m ≡ read_says (read_management m.sif)
between-says one two point m e =
    ap (λ (b : Bool). says_by b (is_between one two m) (nat_eq (dpc_of m) point) m) (managed m one two e)
    ∙ ap (λ (b : Bool). says_by true (b || is_management_between two one m) (nat_eq (dpc_of m) point) m) e

-- ---- words

-- a message says this about a link of the far node, by its code
pub record Says (c z : Configuration) (point : ℕ) (m : Message) (word : Word) : Type 0 where
  pub slc : ℕ
  pub there : link_with_code z c.own slc ≡ Some word.link
  pub said : (says_of c.own z.own point m ≡ Order slc word.number) ⊎ (says_of c.own z.own point m ≡ Answer slc word.number)

-- the word that one makes of a link that was found
record IsFound (o : Option ℕ) (number : ℕ) (word : Word) : Type 0 where
  link : o ≡ Some word.link
  its : number ≡ word.number

is-found : (o : Option ℕ) (number : ℕ) (word : Word) → option_map (about number) o ≡ Some word → IsFound o number word
is-found (Some k) number word e =
    let same : about number k ≡ word = cc in
    record { link = ap (λ (w : Word). Some w.link) same; its = ap (λ (w : Word). w.number) same }
is-found None number word e = absurd cc

module _ (c z : Configuration) (there : ℕ) (m : Message) (word : Word) (e : is_management_between c.own z.own m ≡ true) where
  by-read : (r : Result Management MgmtFault) → read_management m.sif ≡ r → word_read z c.own r ≡ Some word → Says c z there m word
  by-read (Ok (says.ExtendedChangeoverOrder slc number)) f h =
      let i : IsFound (link_with_code z c.own slc) number word = is-found (link_with_code z c.own slc) number word h in
      record { slc = slc; there = i.link; said = inl (between-says c.own z.own there m e ∙ ap read_says f ∙ ap (Order slc) i.its) }
  by-read (Ok (says.ExtendedChangeoverAcknowledgement slc number)) f h =
      let i : IsFound (link_with_code z c.own slc) number word = is-found (link_with_code z c.own slc) number word h in
      record { slc = slc; there = i.link; said = inr (between-says c.own z.own there m e ∙ ap read_says f ∙ ap (Answer slc) i.its) }
  by-read (Ok (says.ChangebackDeclaration slc code)) f h = absurd cc
  by-read (Ok (says.ChangebackAcknowledgement slc code)) f h = absurd cc
  by-read (Ok says.TrafficRestartAllowed) f h = absurd cc
  by-read (Ok (says.UserPartUnavailable point user_part cause)) f h = absurd cc
  by-read (Ok (says.EmergencyChangeoverOrder slc)) f h = absurd cc
  by-read (Ok (says.EmergencyChangeoverAcknowledgement slc)) f h = absurd cc
  by-read (Ok (says.TransferProhibited point)) f h = absurd cc
  by-read (Ok (says.TransferRestricted point)) f h = absurd cc
  by-read (Ok (says.TransferAllowed point)) f h = absurd cc
  by-read (Ok (says.RouteSetTestProhibited point)) f h = absurd cc
  by-read (Ok (says.RouteSetTestRestricted point)) f h = absurd cc
  by-read (Err fault) f h = absurd cc

pub word-says : (c z : Configuration) (there : ℕ) (m : Message) (word : Word) → word_from c.own z m ≡ Some word → Says c z there m word
word-says c z there m word e = by (is_management_between c.own z.own m) refl e
  where
    by : (b : Bool) → is_management_between c.own z.own m ≡ b → (if b then word_read z (opc_of m) (read_management m.sif) else None) ≡ Some word → Says c z there m word
    by true f h =
        by-read c z there m word f (read_management m.sif) refl
        (sym (ap (λ (point : ℕ). word_read z point (read_management m.sif)) (its-opc m c.own z.own f)) ∙ h)
    by false f h = absurd cc

-- ---- the link of a code

module _ (c z : Configuration) (j : Joint c z) where
  found-there : (slc other : ℕ) → link_with_code z c.own slc ≡ Some other → other < length z.links
  found-there slc other e =
      (position-Some (is_link_of j.shares.far_set slc) z.links other (record { name = []; set = 0; slc = 0; share = None })
      (sym (ap (option_and_then (link_in_set z slc)) j.shares.far_leads.adjacent) ∙ e)).0

  pub record IsCode (slc other : ℕ) : Type 0 where
    pub there : other < length z.links
    pub their_set : set_of z other ≡ j.shares.far_set
    pub code : code_of z other ≡ slc

  pub is-code : (slc other : ℕ) → link_with_code z c.own slc ≡ Some other → IsCode slc other
  is-code slc other e =
      let l : other < length z.links = found-there slc other e in
      let at : IsAtCode z j.far_well j.shares.far_set other slc = their-own c z j slc other l e in
      record { there = l; their_set = at.of_set; code = at.its_code }

-- ---- what a message of this node says to the far one, it says in the machine of moves

pub record SaysAlike (c z : Configuration) (there link other : ℕ) (m : Message) : Type 0 where
  pub orders : says_to ordered c.own z other m ≡ is_order (code_of c link) (says_of c.own z.own there m)
  pub answers : says_to acknowledged c.own z other m ≡ is_answer (code_of c link) (says_of c.own z.own there m)

pub record CodesAlike (c z : Configuration) (there : ℕ) (m : Message) : Type 0 where
  pub declarations : (code : ℕ) → says_to declared c.own z code m ≡ is_declaration code (says_of c.own z.own there m)
  pub confirmations : (code : ℕ) → says_to confirmed c.own z code m ≡ is_confirmation code (says_of c.own z.own there m)

module _ (c z : Configuration) (j : Joint c z) (m : Message) where
  abbrev read : Message → Saying
  read = says_of c.own z.own j.base.there

  -- what isn't management between the two says neither
  unsaid : (of : Kind) (named : ℕ) → is_management_between c.own z.own m ≡ false → says_to of c.own z named m ≡ false
  unsaid of named e = ap (λ (b : Bool). option_eq nat_eq (if b then named_in of z (opc_of m) (read_management m.sif) else None) (Some named)) e

  -- and what is says what is read
  told : (of : Kind) (named : ℕ) (r : Result Management MgmtFault) → is_management_between c.own z.own m ≡ true → read_management m.sif ≡ r → says_to of c.own z named m ≡ option_eq nat_eq (named_in of z c.own r) (Some named)
  told of named r e f =
      ap (λ (b : Bool). option_eq nat_eq (if b then named_in of z (opc_of m) (read_management m.sif) else None) (Some named)) e
      ∙ ap (λ (point : ℕ). option_eq nat_eq (named_in of z point (read_management m.sif)) (Some named)) (its-opc m c.own z.own e)
      ∙ ap (λ (x : Result Management MgmtFault). option_eq nat_eq (named_in of z c.own x) (Some named)) f

  -- ---- a user message

  user-none : (test : Saying → Bool) → test (says_by false true true m) ≡ false → test Other ≡ false → is_management m ≡ false → test (read m) ≡ false
  user-none test a b user = ap (λ (k : Bool). test (says_by k (is_between c.own z.own m) (nat_eq (dpc_of m) j.base.there) m)) user ∙ by (is_between c.own z.own m) (nat_eq (dpc_of m) j.base.there)
    where
      by : (between either : Bool) → test (says_by false between either m) ≡ false
      by true true = a
      by false true = a
      by true false = b
      by false false = b

  -- ---- one that passes by

  past-none : (of : Kind) (named : ℕ) → read m ≡ Other → ((r : Result Management MgmtFault) → read_says r ≡ Other → named_in of z c.own r ≡ None) → says_to of c.own z named m ≡ false
  past-none of named past none = by (is_management_between c.own z.own m) refl
    where
      by : (b : Bool) → is_management_between c.own z.own m ≡ b → says_to of c.own z named m ≡ false
      by true e =
          told of named (read_management m.sif) e refl
          ∙ ap (λ (o : Option ℕ). option_eq nat_eq o (Some named)) (none (read_management m.sif) (sym (between-says c.own z.own j.base.there m e) ∙ past))
      by false e = unsaid of named e

-- management of other kinds names nothing
none-named : (of : Kind) → ((c : Configuration) (point : ℕ) (w : Management) → management_says w ≡ Other → of c point w ≡ None) → (c : Configuration) (point : ℕ) (r : Result Management MgmtFault) → read_says r ≡ Other → named_in of c point r ≡ None
none-named of h c point (Ok w) e = h c point w e
none-named of h c point (Err fault) e = refl

none-ordered : (c : Configuration) (point : ℕ) (w : Management) → management_says w ≡ Other → ordered c point w ≡ None
none-ordered c point (says.ExtendedChangeoverOrder slc number) e = absurd cc
none-ordered c point (says.ExtendedChangeoverAcknowledgement slc number) e = refl
none-ordered c point (says.ChangebackDeclaration slc code) e = refl
none-ordered c point (says.ChangebackAcknowledgement slc code) e = refl
none-ordered c point says.TrafficRestartAllowed e = refl
none-ordered c point (says.UserPartUnavailable about user_part cause) e = refl
none-ordered c point (says.EmergencyChangeoverOrder slc) e = refl
none-ordered c point (says.EmergencyChangeoverAcknowledgement slc) e = refl
none-ordered c point (says.TransferProhibited about) e = refl
none-ordered c point (says.TransferRestricted about) e = refl
none-ordered c point (says.TransferAllowed about) e = refl
none-ordered c point (says.RouteSetTestProhibited about) e = refl
none-ordered c point (says.RouteSetTestRestricted about) e = refl

none-acknowledged : (c : Configuration) (point : ℕ) (w : Management) → management_says w ≡ Other → acknowledged c point w ≡ None
none-acknowledged c point (says.ExtendedChangeoverOrder slc number) e = refl
none-acknowledged c point (says.ExtendedChangeoverAcknowledgement slc number) e = absurd cc
none-acknowledged c point (says.ChangebackDeclaration slc code) e = refl
none-acknowledged c point (says.ChangebackAcknowledgement slc code) e = refl
none-acknowledged c point says.TrafficRestartAllowed e = refl
none-acknowledged c point (says.UserPartUnavailable about user_part cause) e = refl
none-acknowledged c point (says.EmergencyChangeoverOrder slc) e = refl
none-acknowledged c point (says.EmergencyChangeoverAcknowledgement slc) e = refl
none-acknowledged c point (says.TransferProhibited about) e = refl
none-acknowledged c point (says.TransferRestricted about) e = refl
none-acknowledged c point (says.TransferAllowed about) e = refl
none-acknowledged c point (says.RouteSetTestProhibited about) e = refl
none-acknowledged c point (says.RouteSetTestRestricted about) e = refl

none-declared : (c : Configuration) (point : ℕ) (w : Management) → management_says w ≡ Other → declared c point w ≡ None
none-declared c point (says.ExtendedChangeoverOrder slc number) e = refl
none-declared c point (says.ExtendedChangeoverAcknowledgement slc number) e = refl
none-declared c point (says.ChangebackDeclaration slc code) e = absurd cc
none-declared c point (says.ChangebackAcknowledgement slc code) e = refl
none-declared c point says.TrafficRestartAllowed e = refl
none-declared c point (says.UserPartUnavailable about user_part cause) e = refl
none-declared c point (says.EmergencyChangeoverOrder slc) e = refl
none-declared c point (says.EmergencyChangeoverAcknowledgement slc) e = refl
none-declared c point (says.TransferProhibited about) e = refl
none-declared c point (says.TransferRestricted about) e = refl
none-declared c point (says.TransferAllowed about) e = refl
none-declared c point (says.RouteSetTestProhibited about) e = refl
none-declared c point (says.RouteSetTestRestricted about) e = refl

none-confirmed : (c : Configuration) (point : ℕ) (w : Management) → management_says w ≡ Other → confirmed c point w ≡ None
none-confirmed c point (says.ExtendedChangeoverOrder slc number) e = refl
none-confirmed c point (says.ExtendedChangeoverAcknowledgement slc number) e = refl
none-confirmed c point (says.ChangebackDeclaration slc code) e = refl
none-confirmed c point (says.ChangebackAcknowledgement slc code) e = absurd cc
none-confirmed c point says.TrafficRestartAllowed e = refl
none-confirmed c point (says.UserPartUnavailable about user_part cause) e = refl
none-confirmed c point (says.EmergencyChangeoverOrder slc) e = refl
none-confirmed c point (says.EmergencyChangeoverAcknowledgement slc) e = refl
none-confirmed c point (says.TransferProhibited about) e = refl
none-confirmed c point (says.TransferRestricted about) e = refl
none-confirmed c point (says.TransferAllowed about) e = refl
none-confirmed c point (says.RouteSetTestProhibited about) e = refl
none-confirmed c point (says.RouteSetTestRestricted about) e = refl

module _ (c z : Configuration) (j : Joint c z) where
  -- a message that one makes for the other
  made-between : (m : Message) → IsMade c z (set c z j) m → is_management_between c.own z.own m ≡ true
  made-between m is = by (nat_eq (service_indicator m) 0) (nat_eq (opc_of m) c.own) (nat_eq (dpc_of m) z.own) (eq-eqb (service_indicator m) 0 is.indicator) (eq-eqb (opc_of m) c.own is.from) (eq-eqb (dpc_of m) z.own is.to)
    where
      by : (x y t : Bool) → x ≡ true → y ≡ true → t ≡ true → (x && (y && t)) ≡ true
      by true true t e f g = g
      by true false t e f g = absurd cc
      by false y t e f g = absurd cc

  made-reads : (m : Message) (is : IsMade c z (set c z j) m) → says_of c.own z.own j.base.there m ≡ management_says is.word
  made-reads m is = between-says c.own z.own j.base.there m (made-between m is) ∙ ap read_says is.reads

  -- two links have one code where they are one
  same-codes : (link other k i : ℕ) → IsLine c z j link other → IsLine c z j k i → nat_eq i other ≡ nat_eq (code_of c k) (code_of c link)
  same-codes link other k i e f =
      ⊎_elim
      (λ (same : i ≡ other). eq-eqb i other same ∙ sym (eq-eqb (code_of c k) (code_of c link) (sym f.code ∙ ap (code_of z) same ∙ e.code)))
      (λ (d : i ≢ other).
      not-same i other d
      ∙ sym (not-same (code_of c k) (code_of c link) (λ same. d (sym (far-own c z j k i f) ∙ ap (link_at_code z j.shares.far_set) same ∙ far-own c z j link other e))))
      (cases_eq i other)

  -- ---- orders and answers

  module _ (link other : ℕ) (line : IsLine c z j link other) (m : Message) where
    its-named : (k : ℕ) → k < length c.links → set_of c k ≡ set c z j → option_eq nat_eq (link_with_code z c.own (code_of c k)) (Some other) ≡ nat_eq (code_of c k) (code_of c link)
    its-named k l its =
        let h : HasEnd c z j k = has-end c z j k l its in
        ap (λ (o : Option ℕ). option_eq nat_eq o (Some other)) h.named ∙ same-codes link other k h.other line h.line

    word-alike : (w : Management) → IsWord c (set c z j) w
        → (option_eq nat_eq (ordered z c.own w) (Some other) ≡ is_order (code_of c link) (management_says w)) × (option_eq nat_eq (acknowledged z c.own w) (Some other) ≡ is_answer (code_of c link) (management_says w))
    word-alike _ (good.orders k number l its) = (its-named k l its, refl)
    word-alike _ (good.answers k number l its) = (refl, its-named k l its)
    word-alike _ (good.declares slc code a b) = (refl, refl)
    word-alike _ (good.confirms slc code) = (refl, refl)

    pub says-alike : IsSent c z j.base.there (set c z j) m → SaysAlike c z j.base.there link other m
    says-alike (made is) =
        let both : (option_eq nat_eq (ordered z c.own is.word) (Some other) ≡ is_order (code_of c link) (management_says is.word))
        × (option_eq nat_eq (acknowledged z c.own is.word) (Some other) ≡ is_answer (code_of c link) (management_says is.word)) = word-alike is.word is.is in
        record {
          orders = told c z j m ordered other (Ok is.word) (made-between m is) is.reads ∙ both.0 ∙ sym (ap (is_order (code_of c link)) (made-reads m is));
          answers = told c z j m acknowledged other (Ok is.word) (made-between m is) is.reads ∙ both.1 ∙ sym (ap (is_answer (code_of c link)) (made-reads m is));
        }
    says-alike (accepted is) = record {
      orders = unsaid c z j m ordered other (not-between m c.own z.own is.user) ∙ sym (user-none c z j m (is_order (code_of c link)) refl refl is.user);
      answers = unsaid c z j m acknowledged other (not-between m c.own z.own is.user) ∙ sym (user-none c z j m (is_answer (code_of c link)) refl refl is.user);
    }
    says-alike (passes_by past short) = record {
      orders = past-none c z j m ordered other past (none-named ordered none-ordered z c.own) ∙ sym (ap (is_order (code_of c link)) past);
      answers = past-none c z j m acknowledged other past (none-named acknowledged none-acknowledged z c.own) ∙ sym (ap (is_answer (code_of c link)) past);
    }

  -- ---- declarations and confirmations

  codes-said : (w : Management) → IsWord c (set c z j) w → (code : ℕ)
      → (option_eq nat_eq (declared z c.own w) (Some code) ≡ is_declaration code (management_says w)) × (option_eq nat_eq (confirmed z c.own w) (Some code) ≡ is_confirmation code (management_says w))
  codes-said _ (good.orders k number l its) code = (refl, refl)
  codes-said _ (good.answers k number l its) code = (refl, refl)
  codes-said _ (good.declares slc its a b) code = (refl, refl)
  codes-said _ (good.confirms slc its) code = (refl, refl)

  pub codes-alike : (m : Message) → IsSent c z j.base.there (set c z j) m → CodesAlike c z j.base.there m
  codes-alike m (made is) = record {
    declarations = λ code. told c z j m declared code (Ok is.word) (made-between m is) is.reads ∙ (codes-said is.word is.is code).0 ∙ sym (ap (is_declaration code) (made-reads m is));
    confirmations = λ code. told c z j m confirmed code (Ok is.word) (made-between m is) is.reads ∙ (codes-said is.word is.is code).1 ∙ sym (ap (is_confirmation code) (made-reads m is));
  }
  codes-alike m (accepted is) = record {
    declarations = λ code. unsaid c z j m declared code (not-between m c.own z.own is.user) ∙ sym (user-none c z j m (is_declaration code) refl refl is.user);
    confirmations = λ code. unsaid c z j m confirmed code (not-between m c.own z.own is.user) ∙ sym (user-none c z j m (is_confirmation code) refl refl is.user);
  }
  codes-alike m (passes_by past short) = record {
    declarations = λ code. past-none c z j m declared code past (none-named declared none-declared z c.own) ∙ sym (ap (is_declaration code) past);
    confirmations = λ code. past-none c z j m confirmed code past (none-named confirmed none-confirmed z c.own) ∙ sym (ap (is_confirmation code) past);
  }
