-- What is known of subsystems at other points, and what changes it as it is heard.
use Rattle.std.proofs.Common.{◌≡◌, ℕ, Bool, true, false, not, List, [], ◌∷◌, ◌++◌, Option, Some, None, Result, refl, sym, ap, ◌∙◌}
use Rattle.std.proofs.lemmas.Bool.{and_parts, eqb-true}
use Rattle.std.specs.Prelude.{◌&&◌, ◌||◌, if◌then◌else◌, filter, is_some, nat_eq}
use Rattle.std.specs.List.{list_any}
use Rattle.signalling_types.specs.declared.cause.Cause.TheVariants.{NotInProfile, NoUserPart}
use Rattle.signalling_types.specs.declared.outcome.Outcome.TheVariants.{Local}
use Rattle.signalling_types.specs.Message.{Message, opc_of, service_indicator}
use Rattle.settings.specs.Readings.{destination_place}
use Rattle.settings.specs.Configuration.{Configuration}
use Rattle.mtp3_codec.specs.declared.label.Label.{Label}
use Rattle.mtp3_codec.specs.Headings.{label_at}
use Rattle.sccp_codec.specs.declared.address.Routing.{Routing}
use Rattle.sccp_codec.specs.declared.fault.SccpFault.{SccpFault}
use Rattle.sccp_codec.specs.Management.{ManagementValue, read_management}
use Rattle.sccp_codec.specs.Messages.{UdtValue}
use Rattle.sccp_relay.specs.Points.{OwnValue}
use Rattle.sccp_relay.specs.Relay as relays
use Rattle.sccp_relay.specs.Relay.{RelayedValue, relay}
use Rattle.sccp_relay.specs.Sccp.{SccpValue, Plain}
use Rattle.sccp_relay.specs.Statuses.{TitlesValue, first_prohibited, is_full, is_prohibited, is_same, leads_to, prohibit, allow}
use Rattle.sccp_relay.specs.declared.subsystem.ProhibitedSubsystem.{ProhibitedSubsystem}
use Rattle.sccp_relay.specs.declared.subsystem.Subsystem.{Subsystem}
use Rattle.sccp_relay.specs.declared.subsystem.SubsystemNews.{SubsystemNews}
use Rattle.exchange_rules.specs.LawsOfSubsystems.{Says, an_ssa_allows_one, an_ssp_prohibits_one, rows_stay, statuses_are_heard}
use Rattle.exchange_rules.specs.Messages.{is_user, local, on_unitdata, own_of, relay_by, return_refusal}
use Rattle.exchange_rules.specs.Telling.{answer_no_user_part}
use Rattle.exchange_rules.specs.Queues.{WholeQueues, whole}
use Rattle.exchange_rules.specs.State.{Done, Node, answer, refuse}

-- ---- the same subsystem

same-as : (s x other : Subsystem) → is_same s x ≡ true → is_same s other ≡ is_same x other
same-as s x other e =
    let parts = and_parts (nat_eq s.point x.point) (nat_eq s.ssn x.ssn) e in
    ap (λ (p : ℕ). nat_eq p other.point && nat_eq s.ssn other.ssn) (eqb-true s.point x.point parts.0)
    ∙ ap (λ (n : ℕ). nat_eq x.point other.point && nat_eq n other.ssn) (eqb-true s.ssn x.ssn parts.1)

any-same : (s x : Subsystem) (xs : List ProhibitedSubsystem) → is_same s x ≡ true → is_prohibited xs s ≡ is_prohibited xs x
any-same s x [] e = refl
any-same s x (y ∷ ys) e =
    ap (λ (b : Bool). b || is_prohibited ys s) (same-as s x y.subsystem e) ∙ ap (λ (b : Bool). is_same x y.subsystem || b) (any-same s x ys e)

or-false : (b : Bool) → (b || false) ≡ b
or-false true = refl
or-false false = refl

or-more : (a b c : Bool) → (a || (b || c)) ≡ ((a || b) || c)
or-more true b c = refl
or-more false b c = refl

any-push : (s : Subsystem) (x : ProhibitedSubsystem) (xs : List ProhibitedSubsystem) → is_prohibited (xs ++ x ∷ []) s ≡ (is_prohibited xs s || is_same s x.subsystem)
any-push s x [] = or-false (is_same s x.subsystem)
any-push s x (y ∷ ys) =
    ap (λ (b : Bool). is_same s y.subsystem || b) (any-push s x ys) ∙ or-more (is_same s y.subsystem) (is_prohibited ys s) (is_same s x.subsystem)

-- ---- an SSP

pushed : (a p f l w s : Bool) → (p ≡ true → s ≡ true → w ≡ true)
    → (if not a then w else if p || f then w else if l then w || s else w) ≡ (w || (a && l && not f && s))
pushed false p f l w s h = sym (or-false w)
pushed true true f l true s h = refl
pushed true true f l false true h = absurd (let no : false ≡ true = h refl refl in cc)
pushed true true true true false false h = refl
pushed true true true false false false h = refl
pushed true true false true false false h = refl
pushed true true false false false false h = refl
pushed true false true true true s h = refl
pushed true false true true false s h = refl
pushed true false true false w s h = sym (or-false w)
pushed true false false true w s h = refl
pushed true false false false w s h = sym (or-false w)

looked-at : (s : Subsystem) (a b l : Bool) (x y : TitlesValue)
    → is_prohibited (if not a then x else if b then x else if l then y else x).prohibited s
    ≡ (if not a then is_prohibited x.prohibited s else if b then is_prohibited x.prohibited s else if l then is_prohibited y.prohibited s else is_prohibited x.prohibited s)
looked-at s false b l x y = refl
looked-at s true true l x y = refl
looked-at s true false true x y = refl
looked-at s true false false x y = refl

pub ssp-one : an_ssp_prohibits_one
ssp-one sst news titles s e =
    let x : Subsystem = news.subsystem in
    let xs : List ProhibitedSubsystem = titles.prohibited in
    let a : Bool = nat_eq news.sender x.point in
    let p : Bool = is_prohibited xs x in
    let f : Bool = is_full xs in
    let l : Bool = list_any (leads_to x) titles.rows in
    let w : Bool = is_prohibited xs s in
    let more : TitlesValue = record titles { prohibited = xs ++ first_prohibited sst x ∷ [] } in
    ap (λ (b : Bool). is_prohibited (if not a then titles else if b then prohibit sst x titles else allow x titles).prohibited s) e
    ∙ looked-at s a (p || f) l titles more
    ∙ ap (λ (v : Bool). if not a then w else if p || f then w else if l then v else w) (any-push s (first_prohibited sst x) xs)
    ∙ pushed a p f l w (is_same s x) (λ is same. any-same s x xs same ∙ is)

-- ---- an SSA

-- one that is taken away isn't there any more
abbrev kept : Subsystem → List ProhibitedSubsystem → List ProhibitedSubsystem
kept x xs = filter (λ other. not (is_same x other.subsystem)) xs

gone-by : (s x : Subsystem) (y : ProhibitedSubsystem) (ys : List ProhibitedSubsystem) (b : Bool) → is_same x y.subsystem ≡ b → is_same s x ≡ true → is_prohibited (kept x ys) s ≡ false
    → is_prohibited (kept x (y ∷ ys)) s ≡ false
gone-by s x y ys true q e rest = ap (λ (b : Bool). is_prohibited (if not b then y ∷ kept x ys else kept x ys) s) q ∙ rest
gone-by s x y ys false q e rest =
    ap (λ (b : Bool). is_prohibited (if not b then y ∷ kept x ys else kept x ys) s) q
    ∙ ap (λ (b : Bool). b || is_prohibited (kept x ys) s) (same-as s x y.subsystem e ∙ q) ∙ rest

gone : (s x : Subsystem) (xs : List ProhibitedSubsystem) → is_same s x ≡ true → is_prohibited (kept x xs) s ≡ false
gone s x [] e = refl
gone s x (y ∷ ys) e = gone-by s x y ys (is_same x y.subsystem) refl e (gone s x ys e)

-- another stays as it was
same-back : (s x y : Subsystem) → is_same x y ≡ true → is_same s y ≡ true → is_same s x ≡ true
same-back s x y q r =
    let parts = and_parts (nat_eq x.point y.point) (nat_eq x.ssn y.ssn) q in
    ap (λ (p : ℕ). nat_eq s.point p && nat_eq s.ssn x.ssn) (eqb-true x.point y.point parts.0)
    ∙ ap (λ (n : ℕ). nat_eq s.point y.point && nat_eq s.ssn n) (eqb-true x.ssn y.ssn parts.1) ∙ r

stays-by : (s x : Subsystem) (y : ProhibitedSubsystem) (ys : List ProhibitedSubsystem) (b t : Bool) → is_same x y.subsystem ≡ b → is_same s y.subsystem ≡ t → is_same s x ≡ false
    → is_prohibited (kept x ys) s ≡ is_prohibited ys s → is_prohibited (kept x (y ∷ ys)) s ≡ is_prohibited (y ∷ ys) s
stays-by s x y ys true true q r e rest = absurd (let no : false ≡ true = sym e ∙ same-back s x y.subsystem q r in cc)
stays-by s x y ys true false q r e rest =
    ap (λ (b : Bool). is_prohibited (if not b then y ∷ kept x ys else kept x ys) s) q
    ∙ rest ∙ sym (ap (λ (b : Bool). b || is_prohibited ys s) r)
stays-by s x y ys false t q r e rest =
    ap (λ (b : Bool). is_prohibited (if not b then y ∷ kept x ys else kept x ys) s) q
    ∙ ap (λ (b : Bool). is_same s y.subsystem || b) rest

stays : (s x : Subsystem) (xs : List ProhibitedSubsystem) → is_same s x ≡ false → is_prohibited (kept x xs) s ≡ is_prohibited xs s
stays s x [] e = refl
stays s x (y ∷ ys) e = stays-by s x y ys (is_same x y.subsystem) (is_same s y.subsystem) refl refl e (stays s x ys e)

and-true : (b : Bool) → b ≡ (b && true)
and-true true = refl
and-true false = refl

and-false : (b : Bool) → false ≡ (b && false)
and-false true = refl
and-false false = refl

taken-away : (s x : Subsystem) (xs : List ProhibitedSubsystem) (t : Bool) → is_same s x ≡ t → is_prohibited (filter (λ other. not (is_same x other.subsystem)) xs) s ≡ (is_prohibited xs s && not t)
taken-away s x xs true e = gone s x xs e ∙ and-false (is_prohibited xs s)
taken-away s x xs false e = stays s x xs e ∙ and-true (is_prohibited xs s)

allowed-by : (s : Subsystem) (x : Subsystem) (titles : TitlesValue) (a : Bool)
    → is_prohibited (if not a then titles else allow x titles).prohibited s ≡ (is_prohibited titles.prohibited s && not (a && is_same s x))
allowed-by s x titles false = and-true (is_prohibited titles.prohibited s)
allowed-by s x titles true = taken-away s x titles.prohibited (is_same s x) refl

pub ssa-one : an_ssa_allows_one
ssa-one sst news titles s e =
    let x : Subsystem = news.subsystem in
    let a : Bool = nat_eq news.sender x.point in
    ap (λ (b : Bool). is_prohibited (if not a then titles else if b then prohibit sst x titles else allow x titles).prohibited s) e
    ∙ allowed-by s x titles a

-- ---- the rows

same-rows : (a b c l : Bool) (titles more fewer : TitlesValue) → more.rows ≡ titles.rows → fewer.rows ≡ titles.rows
    → (if not a then titles else if b then (if c then titles else if l then more else titles) else fewer).rows ≡ titles.rows
same-rows false b c l titles more fewer m f = refl
same-rows true true true l titles more fewer m f = refl
same-rows true true false true titles more fewer m f = m
same-rows true true false false titles more fewer m f = refl
same-rows true false c l titles more fewer m f = f

pub same-as-before : rows_stay
same-as-before sst news titles =
    let x : Subsystem = news.subsystem in
    same-rows (nat_eq news.sender x.point) news.is_prohibited (is_prohibited titles.prohibited x || is_full titles.prohibited) (list_any (leads_to x) titles.rows)
    titles (record titles { prohibited = titles.prohibited ++ first_prohibited sst x ∷ [] }) (allow x titles) refl refl

-- ---- what is heard

module _ (c : Configuration) (m : Message) (about : ManagementValue) (node : Node WholeQueues) (s : Says c m about) where
  abbrev label : Label
  label = label_at m.sif

  abbrev own : OwnValue
  own = own_of c node.parts

  abbrev titles : TitlesValue
  titles = node.parts.titles

  abbrev message : SccpValue
  message = Plain (UdtValue s.class_octet s.parts)

  its-news : relays.news own label.opc message s.parts.called.ssn ≡ Some (relays.news_from label.opc about)
  its-news =
      ap (λ (ssn : Option ℕ). if is_some c.timers.sst && relays.is_management ssn then relays.news_in own label.opc (read_management s.parts.data) else None) s.management
      ∙ ap (λ (b : Bool). if b && true then relays.news_in own label.opc (read_management s.parts.data) else None) s.heard_here
      ∙ ap (λ (r : Result ManagementValue SccpFault). relays.news_in own label.opc r) s.says
      ∙ ap (λ (b : Bool). if b && not (nat_eq label.opc c.own) then Some (relays.news_from label.opc about) else None) s.status
      ∙ ap (λ (b : Bool). if not b then Some (relays.news_from label.opc about) else None) s.elsewhere

  its-relay : relay own titles m.sif ≡ relays.Heard (relays.news_from label.opc about)
  unfolding relay
  its-relay =
      ap (λ (r : Result SccpValue SccpFault). relays.relay_read own titles label r) s.reads
      ∙ ap (λ (b : Bool). if not b then relays.Refused NotInProfile else relays.relay_by_routing s.parts.called.routing own titles label message) s.connectionless
      ∙ ap (λ (r : Routing). relays.relay_by_routing r own titles label message) s.routed
      ∙ ap (λ (o : Option SubsystemNews). relays.heard_or o (relays.for_subsystem own label message s.parts.called.ssn)) its-news

  its-own : (from : Option ℕ) → local whole c from m node ≡ relay_by whole c (relays.Heard (relays.news_from label.opc about)) m node
  its-own from =
      let absent : Done WholeQueues = refuse NoUserPart (answer_no_user_part whole c from (destination_place c (opc_of m)) m node) in
      ap (λ (b : Bool). if b then on_unitdata whole c m node else if is_user c (service_indicator m) then answer Local node else absent) s.of_sccp
      ∙ ap (λ (v : RelayedValue). return_refusal whole c m (relay_by whole c v m node)) its-relay

pub is-heard : statuses_are_heard
is-heard c from m about node s = its-own c m about node s from
