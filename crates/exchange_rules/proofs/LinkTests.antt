-- What a node's own link tests do.
use Rattle.exchange_rules.proofs.Basics.{◌≡◌, ℕ, Bool, true, false, ◌&&◌, List, [], ◌∷◌, ◌++◌, Option, None, refl, ap, ◌∙◌, arith, nat_tests, nat_eq, and_parts, and_from, if◌then◌else◌, is_some, false_from_ne_true as not-so, ⊎_elim, ◌<◌, ◌≤◌, ◌^◌, cases_lt, get_or_past, ◌*◌}
use Rattle.exchange_rules.proofs.Definitions.{pass_test, begin_traffic, Configuration, IsWell, LinkEntry, IsLink, Cause, Handled, Ignored, LinkTestValue, label_at, label_octets, own_pattern, link_test, tests_links, is_test_awaited, answers_test, passes_test, awaiting_test, test_passed, queue_if, begin_test, repeat_test, on_test_answer, entry_of, set_of, peer_of, no_room, Node, with_parts, link_at, in_service, answer, enters, take_step, test_if, WholeQueues, whole}
use Rattle.std.specs.Prelude.{slice_index_or, length}
use Rattle.mtp3_codec.specs.Headings.{IsLabel, kind_heading}
use Rattle.mtp3_codec.specs.Management.{test_in}
use Rattle.mtp3_codec.specs.declared.label.Label.{Label}
use Rattle.mtp3_codec.specs.declared.link_test.TestKind.TheVariants.{Test}
use Rattle.mtp3_codec.proofs.Labels.{label-back}
use Rattle.timers.specs.declared.name.TimerName.TheVariants.{Slt1, Slt2}
use Rattle.exchange_rules.specs.LinkTests.{is_same_pattern}
use Rattle.exchange_rules.specs.LawsOfTests.{no_tests_without_settings, Begins, links_in_service_are_tested, tests_read_back, IsItsAnswer, answers_pass, other_answers_are_ignored, two_failures_fail_a_link}
use Rattle.exchange_rules.proofs.Onward.{link-set, set-far}
use Rattle.exchange_rules.proofs.OwnManagement.{tested-indicator}
use Rattle.exchange_rules.proofs.NoTests.{no-tests}

-- ---- when a test goes out

pub none-run : no_tests_without_settings
none-run c asked link off =
    let no : tests_links c ≡ false = ap is_some off in
    (no-tests c asked no (Slt1 link) refl, no-tests c asked no (Slt2 link) refl)

begins-by : (c : Configuration) (b : Bool) (link : ℕ) (n : Node WholeQueues) → b ≡ true → Begins c link n (if b then queue_if whole c (no_room whole c (link_test c link) n.queues) link (link_test c link) (with_parts n (awaiting_test c link n.parts)) else n)
begins-by c true link n e = record {
  sent = λ room. ap (λ (r : Option Cause). queue_if whole c r link (link_test c link) (with_parts n (awaiting_test c link n.parts))) room;
  full = λ cause room. ap (λ (r : Option Cause). queue_if whole c r link (link_test c link) (with_parts n (awaiting_test c link n.parts))) room;
}
begins-by c false link n e = absurd cc

begins : (c : Configuration) (link : ℕ) (n : Node WholeQueues) → tests_links c ≡ true → in_service n.parts link ≡ true → Begins c link n (begin_test whole c link n)
begins c link n on serves = begins-by c (tests_links c && in_service n.parts link) link n (and_from (tests_links c) (in_service n.parts link) on serves)

idle-by : (a b : Bool) (n m : Node WholeQueues) → b ≡ false → (if a && b then m else n) ≡ n
idle-by true false n m e = refl
idle-by false b n m e = refl
idle-by true true n m e = absurd cc

entered-by : (c : Configuration) (b : Bool) (link : ℕ) (n : Node WholeQueues) → b ≡ true → Begins c link n (begin_test whole c link n) → Begins c link n (test_if whole c b link n)
entered-by c true link n e h = h
entered-by c false link n e h = absurd cc

stayed-by : (c : Configuration) (b : Bool) (link : ℕ) (n : Node WholeQueues) → b ≡ false → test_if whole c b link n ≡ n
stayed-by c false link n e = refl
stayed-by c true link n e = absurd cc

pub are-tested : links_in_service_are_tested
are-tested c link step node on = record {
  entered = λ e serves. entered-by c (enters link step node.parts) link (take_step whole c link step node) e (begins c link (take_step whole c link step node) on serves);
  stayed = λ e. stayed-by c (enters link step node.parts) link (take_step whole c link step node) e;
  repeated = λ serves. begins c link node on serves;
  idle = λ e. idle-by (tests_links c) (in_service node.parts link) node _ e;
}

-- ---- what it says

pub read-back : tests_read_back
read-back c link well =
    let label : Label = record { dpc = peer_of c link; opc = c.own; sls = (entry_of c link).slc } in
    let rest : List ℕ = kind_heading Test ∷ 4 * 16 ∷ own_pattern in
    let back : label_at (label_octets label ++ rest) ≡ label = label-back label rest (is-label c link well) in
    record {
      indicator = tested-indicator c.network;
      from = ap (λ (l : Label). l.opc) back;
      to = ap (λ (l : Label). l.dpc) back;
      says = ap (λ (l : Label). test_in l.sls rest) back;
    }
  where
    its-code : (c : Configuration) (link : ℕ) → IsWell c → (entry_of c link).slc < 2 ^ 4
    its-code c link well =
        let none : LinkEntry = record { name = []; set = 0; slc = 0; share = None } in
        ⊎_elim
        (λ (there : link < length c.links). (let known : IsLink (length c.sets) (slice_index_or c.links link none) = well.links link none there in known.slc))
        (λ (past : length c.links ≤ link).
        let first : (entry_of c link).slc ≡ 0 = ap (λ (l : LinkEntry). l.slc) (get_or_past c.links link none past) in
        omega (arith, first))
        (cases_lt link (length c.links))

    is-label : (c : Configuration) (link : ℕ) → IsWell c → IsLabel (record { dpc = peer_of c link; opc = c.own; sls = (entry_of c link).slc })
    is-label c link well = record { dpc = (set-far c well (set_of c link) (link-set c well link)).fits; opc = well.own; sls = its-code c link well }

-- ---- what passes it

same-number : (m n : ℕ) → m ≡ n → nat_eq m n ≡ true
same-number m n e = grind (arith, nat_tests, e)

equal-number : (m n : ℕ) → nat_eq m n ≡ true → m ≡ n
equal-number m n e = grind (arith, nat_tests, e)

pub is-itself : (octets : List ℕ) → is_same_pattern octets octets ≡ true
is-itself [] = refl
is-itself (octet ∷ octets) = and_from (nat_eq octet octet) (is_same_pattern octets octets) (same-number octet octet refl) (is-itself octets)

pub are-same : (one other : List ℕ) → is_same_pattern one other ≡ true → one ≡ other
are-same [] [] e = refl
are-same [] (octet ∷ octets) e = absurd cc
are-same (octet ∷ octets) [] e = absurd cc
are-same (one ∷ ones) (other ∷ others) e =
    let parts = and_parts (nat_eq one other) (is_same_pattern ones others) e in
    ap (λ (x : ℕ). x ∷ ones) (equal-number one other parts.0) ∙ ap (λ (xs : List ℕ). other ∷ xs) (are-same ones others parts.1)

its-answer : (c : Configuration) (link point : ℕ) (test : LinkTestValue) → IsItsAnswer c link point test → answers_test c link point test ≡ true
its-answer c link point test is =
    and_from (nat_eq point (peer_of c link)) (nat_eq test.slc (entry_of c link).slc && is_same_pattern test.pattern own_pattern) (same-number _ _ is.from)
    (and_from (nat_eq test.slc (entry_of c link).slc) (is_same_pattern test.pattern own_pattern) (same-number _ _ is.code)
    (ap (λ (xs : List ℕ). is_same_pattern xs own_pattern) is.pattern ∙ is-itself own_pattern))

is-answer : (c : Configuration) (link point : ℕ) (test : LinkTestValue) → answers_test c link point test ≡ true → IsItsAnswer c link point test
is-answer c link point test e =
    let one = and_parts (nat_eq point (peer_of c link)) (nat_eq test.slc (entry_of c link).slc && is_same_pattern test.pattern own_pattern) e in
    let two = and_parts (nat_eq test.slc (entry_of c link).slc) (is_same_pattern test.pattern own_pattern) one.1 in
    record { from = equal-number _ _ one.0; code = equal-number _ _ two.0; pattern = are-same test.pattern own_pattern two.1 }

by-answer : (c : Configuration) (b wanted : Bool) (link : ℕ) (n : Node WholeQueues) → b ≡ wanted
    → (if b then answer Handled (pass_test whole c link n) else answer Ignored n) ≡ (if wanted then answer Handled (pass_test whole c link n) else answer Ignored n)
by-answer c b wanted link n e = ap (λ (x : Bool). if x then answer Handled (pass_test whole c link n) else answer Ignored n) e

pub passes : answers_pass
passes c link point test node on awaited is =
    let done : on_test_answer whole c link point test node ≡ answer Handled (pass_test whole c link node) =
    by-answer c (passes_test c link point test node.parts) true link node
    (and_from (tests_links c) (is_test_awaited link node.parts && answers_test c link point test) on
    (and_from (is_test_awaited link node.parts) (answers_test c link point test) awaited (its-answer c link point test is))) in
    record {
      first = λ e. done ∙ ap (λ (b : Bool). answer Handled (begin_traffic whole c b link (test_passed c link node.parts) node)) e;
      later = λ e. done ∙ ap (λ (b : Bool). answer Handled (begin_traffic whole c b link (test_passed c link node.parts) node)) e;
    }

pub ignores : other_answers_are_ignored
ignores c link point test node other =
    by-answer c (passes_test c link point test node.parts) false link node
    (not-so (passes_test c link point test node.parts) (λ e.
    let one = and_parts (tests_links c) (is_test_awaited link node.parts && answers_test c link point test) e in
    let two = and_parts (is_test_awaited link node.parts) (answers_test c link point test) one.1 in
    other one.0 two.0 (is-answer c link point test two.1)))

-- ---- what fails a link

judged-by : (c : Configuration) (serves again s t : Bool) (link : ℕ) (n : Node WholeQueues) → serves ≡ s → again ≡ t
    → (if serves then repeat_test whole c again link n else n) ≡ (if s then repeat_test whole c t link n else n)
judged-by c serves again s t link n e f =
    ap (λ (x : Bool). if x then repeat_test whole c again link n else n) e ∙ ap (λ (x : Bool). if s then repeat_test whole c x link n else n) f

pub judges : two_failures_fail_a_link
judges c link node = record {
  first = λ e f. judged-by c (in_service node.parts link) (link_at node.parts link).test_failed true false link node e f;
  second = λ e f. judged-by c (in_service node.parts link) (link_at node.parts link).test_failed true true link node e f;
  idle = λ e. judged-by c (in_service node.parts link) (link_at node.parts link).test_failed false (link_at node.parts link).test_failed link node e refl;
}
